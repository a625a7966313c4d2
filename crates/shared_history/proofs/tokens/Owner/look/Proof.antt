-- The invariant's half and the owner's say the same, so the history has just this.
use Rattle.shared_history.proofs.Walk.{◌≡◌, List, [], ◌∷◌, sym, refl, proved, IsPrefix, a_type, dcons, dnil, named, Val, vunit, vptr, inst_fn, SProp, emp, Fml, ftrue, fsep, flft, fact, fact_i, tables, param, bounded, RattleType, owns, mut_vals, mut_Tells, types_at, plain, nothing, opens, closes, Stays, stay_ref, walk_of, Goes-ref, ‵, raw, ◌⊛◌, some, given, later, ◌$◌, ◌∵◌, !, qed, by, move, keep, drop, split, fsplit, fsplit3, fjoin, fjoin3, pick, learn, use2, await, rewrite, feq_i, of_opd, unit_lit, returns, enter, alloc_all, pass_all, free_all, look_at, sets, Book, part, rules, seen_owns, owner_owns, ends_with, and_told}
use Rattle.shared_history.specs.contracts.tokens.Owner as Owner
use Rattle.shared_history.specs.contracts.tokens.Owner.look as f
use Rattle.shared_history.specs.contracts.tokens.Owner.look.Key.{name as #key}
use Rattle.shared_history.specs.contracts.tokens.Seen as Seen
use Rattle.shared_history.proofs.Steps as steps
use Rattle.shared_history.proofs.tokens.Owner.look.Statement.{statement}
use Rattle.shared_history.proofs.tokens.Owner.look.Code as code

pub look_spec : {M : Type 1} → statement M
look_spec 𝓤 𝓛 𝓜 𝓡 wired E P _ _ g d _ =
    let 𝓣 = tables 𝓤 𝓛.H 𝓜 𝓡 𝓡.env in let E' : RattleType = param 0 E in let P' : RattleType = param 1 P in let rule = rules g.holds g.concerns in
    let Row : RattleType = Owner.the_row E' P' g in let SeenRow : RattleType = Seen.the_row E' P' g in
    let T = f.ended E P g d in let c = f.clauses E P g d 𝓛 𝓜.mem 𝓡.returns in
    let inst = bounded (a_type ∷ a_type ∷ []) (E, (P, tt)) (dcons d dnil) in let fn = inst_fn inst code.function in
    let stays : Stays T.signature.params T.kept = (stay_ref (0 ∷ []) tt (plain (λ _. Row)), (stay_ref (1 ∷ []) tt (plain (λ _. SeenRow)), tt)) in
    proved 𝓛 T stays c 𝓜 𝓡 (Goes-ref 𝓛 4 0 tt (plain (λ _. Row)), (Goes-ref 𝓛 4 1 tt (plain (λ _. SeenRow)), tt)) (#key inst) fn
    (code.unfolded 𝓤 𝓛.H 𝓜 𝓡 wired (E, (P, tt)) d)
    (λ κs. (mut_vals, (mut_vals, tt))) (λ κs. (mut_Tells (named 0) κs.0 Row, (mut_Tells (named 1) κs.1.0 SeenRow, tt))) (λ κs qs bounds a gh are.
    let me = a.0.now in let b = a.0.ref_ptr.0 in let o = a.0.ref_ptr.1 in let at : Val = vptr b o in
    let seen = a.1.0.now in let b' = a.1.0.ref_ptr.0 in let o' = a.1.0.ref_ptr.1 in let at' : Val = vptr b' o' in
    let y : (walk_of 𝓛 T stays c).Ghost = ((κs, qs, bounds, a, (at ∷ [], (at' ∷ [], tt))), gh) in let Post : Val → SProp 𝓤 = (walk_of 𝓛 T stays c).post y in
    let Others : Fml = fsep (flft κs.1.1.0 qs.1.1.0) (fsep (flft κs.1.1.1.0 qs.1.1.1.0) ftrue) in
    let Known : Book → List E.Denot → Fml = seen_owns E'.coded.code rule in let Half : Fml = owner_owns E'.coded.code me.book me.key me.own in
    qed 𝓛 ((‵ (fsep (flft κs.0 qs.0) (fsep (flft κs.1.0 qs.1.0) Others)) ⊛ ‵ (owns (types_at T.signature.params κs) a y.0.4)) ∷ raw (fact 𝓤 _) ∷ raw (fact 𝓤 _) ∷ given (seen.book ≡ me.book) (‵ ftrue) ∷ []) ∵
    keep ! (3 ∷ 0 ∷ []) $ learn ! (λ one_book. drop ! $ split ! $ fsplit ! $ move ! (1 ∷ []) $ fsplit ! $ move ! (3 ∷ []) $
    fsplit ! $ fsplit3 ! $ move ! (3 ∷ []) $ fsplit ! $ fsplit3 ! $ keep ! (5 ∷ 6 ∷ 9 ∷ 1 ∷ 2 ∷ 7 ∷ 8 ∷ []) $
    enter ! 𝓣.C 𝓣.Λ fn (at ∷ at' ∷ []) Post $ alloc_all ! (λ l. pass_all ! refl ((tt, tt), ((tt, tt), tt)) $
    -- [the parts of the reference to the owner, and its token; those of the one to what was seen, and its token; the other tokens; the locals]
    opens ! tt Row b o (λ vs. move ! (5 ∷ 6 ∷ 7 ∷ []) $ opens ! tt SeenRow b' o' (λ ws. move ! (1 ∷ 6 ∷ []) $
    fsplit ! $ move ! (2 ∷ []) $ fsplit ! $ move ! (3 ∷ 1 ∷ []) $ rewrite ! 0 (λ (z : Book). ‵ (Known z seen.log)) one_book refl $
    use2 𝓛 (later (some (λ (next : List E.Denot). given (IsPrefix seen.log next × g.holds next × (part g.concerns me.key next ≡ me.own)) (‵ (Known me.book next) ⊛ ‵ Half))))
    (steps.looks E'.coded rule 𝓛 me.book seen.log me.key me.own) $
    await ! tt $ pick ! (λ next. learn ! (λ shown. split ! $
    -- [what is known; the half; the two markers; both references, opened; the other tokens; the locals]
    let seen' : SeenRow.Denot = record seen { book = me.book; log = next } in
    move ! (3 ∷ 0 ∷ []) $ fjoin ! $ move ! (3 ∷ 0 ∷ 4 ∷ 5 ∷ 6 ∷ []) $ closes ! tt SeenRow seen' ws b' o' $
    move ! (4 ∷ 3 ∷ []) $ fjoin ! $ move ! (4 ∷ 0 ∷ 5 ∷ 6 ∷ 7 ∷ []) $ closes ! tt Row me vs b o $
    sets ! (of_opd ! (unit_lit !)) refl (tt, tt) $ feq_i ! (List Val) (vunit ∷ []) (vunit ∷ []) refl $
    move ! (6 ∷ 7 ∷ []) $ fjoin ! $ move ! (4 ∷ 0 ∷ []) $ fjoin ! $ nothing ! $
    feq_i ! (List Val) (at' ∷ []) (at' ∷ []) refl $ move ! (0 ∷ 6 ∷ 7 ∷ []) $ fjoin3 ! $ fjoin ! $
    feq_i ! (List Val) (at ∷ []) (at ∷ []) refl $ move ! (0 ∷ 4 ∷ 5 ∷ []) $ fjoin3 ! $ fjoin ! $
    returns ! (look_at ! 0 refl) $ free_all ! refl $ keep ! (1 ∷ 0 ∷ 2 ∷ []) $
    by ! (ends_with 𝓛 T stays c y vunit tt (me, (seen', tt)) (tt, (tt, tt)) (and_told 𝓤 refl (and_told 𝓤 (sym one_book, shown.0, shown.1) (fact_i 𝓤 _ (emp 𝓤) shown.2)))))))))))
