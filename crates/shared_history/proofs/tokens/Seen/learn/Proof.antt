-- The invariant shows a history that both beginnings begin.
use Rattle.shared_history.proofs.Walk.{◌≡◌, List, [], ◌∷◌, refl, proved, IsPrefix, a_type, dcons, dnil, named, Val, vunit, vptr, inst_fn, SProp, emp, Fml, ftrue, fsep, flft, fhide, fact, fact_i, tables, RefOf, yes, hidden_shr, unhide, param, bounded, RattleType, owns, mut_vals, mut_Tells, shr_vals, shr_Tells, types_at, plain, nothing, opens, closes, lent_out, Tuple, Stays, stay_dropped, stay_ref, walk_of, Goes-dropped, Goes-ref, ‵, raw, ◌⊛◌, some, given, later, ◌$◌, ◌∵◌, !, qed, by, move, keep, drop, split, fsplit, fsplit3, fjoin, fjoin3, pick, learn, use1, use2, await, rewrite, feq_i, of_opd, unit_lit, returns, enter, alloc_all, pass_all, free_all, look_at, sets, Book, rules, begins, seen_owns, Bare, ends_with, and_told}
use Rattle.core.specs.contracts.marker.PhantomData as marker
use Rattle.shared_history.specs.contracts.tokens.Seen as Seen
use Rattle.shared_history.specs.contracts.tokens.Seen.learn as f
use Rattle.shared_history.specs.contracts.tokens.Seen.learn.Key.{name as #key}
use Rattle.shared_history.proofs.Steps as steps
use Rattle.shared_history.proofs.tokens.Seen.learn.Statement.{statement}
use Rattle.shared_history.proofs.tokens.Seen.learn.Code as code

pub learn_spec : {M : Type 1} → statement M
learn_spec 𝓤 𝓛 𝓜 𝓡 wired E P _ _ g d _ =
    let 𝓣 = tables 𝓤 𝓛.H 𝓜 𝓡 𝓡.env in let E' : RattleType = param 0 E in let P' : RattleType = param 1 P in
    let Marked : RattleType = Tuple (E' ∷ P' ∷ []) in let rule = rules g.holds g.concerns in
    let Row : RattleType = Seen.the_row E' P' g in let Other = RefOf (1 ∷ []) tt (plain (λ _. Row)) (λ _. tt) in
    let T = f.ended E P g d in let c = f.clauses E P g d 𝓛 𝓜.mem 𝓡.returns in
    let inst = bounded (a_type ∷ a_type ∷ []) (E, (P, tt)) (dcons d dnil) in let fn = inst_fn inst code.function in
    let stays : Stays T.signature.params T.kept = (stay_ref (0 ∷ []) tt (plain (λ _. Row)), (stay_dropped Other yes, tt)) in
    proved 𝓛 T stays c 𝓜 𝓡 (Goes-ref 𝓛 4 0 tt (plain (λ _. Row)), (Goes-dropped 𝓛 4 Other yes (λ κs x w. refl), tt)) (#key inst) fn
    (code.unfolded 𝓤 𝓛.H 𝓜 𝓡 wired (E, (P, tt)) d)
    (λ κs. (mut_vals, (shr_vals, tt))) (λ κs. (mut_Tells (named 0) κs.0 Row, (shr_Tells (named 1) κs.1.0 Row, tt))) (λ κs qs bounds a gh are.
    let me = a.0.now in let b = a.0.ref_ptr.0 in let o = a.0.ref_ptr.1 in let at : Val = vptr b o in
    let other = a.1.0.now in let b' = a.1.0.ref_ptr.0 in let o' = a.1.0.ref_ptr.1 in let at' : Val = vptr b' o' in
    let y : (walk_of 𝓛 T stays c).Ghost = ((κs, qs, bounds, a, (at ∷ [], (at' ∷ [], tt))), gh) in let Post : Val → SProp 𝓤 = (walk_of 𝓛 T stays c).post y in
    let Others : Fml = fsep (flft κs.1.0 qs.1.0) (fsep (flft κs.1.1.0 qs.1.1.0) (fsep (flft κs.1.1.1.0 qs.1.1.1.0) ftrue)) in
    let Known : Book → List E.Denot → Fml = seen_owns E'.coded.code rule in
    qed 𝓛 ((‵ (fsep (flft κs.0 qs.0) Others) ⊛ ‵ (owns (types_at T.signature.params κs) a y.0.4)) ∷ raw (fact 𝓤 _) ∷ raw (fact 𝓤 _) ∷ given (other.book ≡ me.book) (‵ ftrue) ∷ []) ∵
    keep ! (3 ∷ 0 ∷ []) $ learn ! (λ one_book. drop ! $ split ! $ fsplit ! $ move ! (2 ∷ []) $
    fsplit ! $ fsplit3 ! $ move ! (3 ∷ []) $ fsplit ! $ fsplit ! $ keep ! (1 ∷ 4 ∷ 5 ∷ 6 ∷ 7 ∷ []) $
    enter ! 𝓣.C 𝓣.Λ fn (at ∷ at' ∷ []) Post $ alloc_all ! (λ l. pass_all ! refl ((tt, tt), ((tt, tt), tt)) $
    -- [what the reference to the other shares; the parts of the one to this; its lifetime's token; the other tokens; the locals]
    use1 𝓛 (‵ (hidden_shr (Bare Marked) κs.1.0 (record {}, tt) b' o') ⊛ ‵ (fhide (Known other.book other.log)))
    (lent_out 𝓛 (Seen.struct E' P' g) (Seen.the_codes E.Denot P.Denot E'.coded P'.coded (marker.the_row Marked).coded) (Seen.the_heap E' P' g) (Seen.the_lent E' P' g) κs.1.0 other b' o') $
    split ! $ drop ! $ unhide ! $
    use1 𝓛 (‵ (begins E'.coded.code other.book.log_name other.log)) (steps.beginning E'.coded rule 𝓛 other.book other.log) $
    rewrite ! 0 (λ (z : Book). ‵ (begins E'.coded.code z.log_name other.log)) one_book refl $
    move ! (1 ∷ 2 ∷ 3 ∷ []) $ opens ! tt Row b o (λ vs. move ! (1 ∷ []) $ fsplit ! $ move ! (1 ∷ 6 ∷ []) $
    use2 𝓛 (later (some (λ (next : List E.Denot). given (IsPrefix me.log next × IsPrefix other.log next × g.holds next) (‵ (Known me.book next)))))
    (steps.learns E'.coded rule 𝓛 me.book me.log other.log) $
    await ! tt $ pick ! (λ next. learn ! (λ knows.
    let me' : Row.Denot = record me { log = next } in
    move ! (1 ∷ 0 ∷ []) $ fjoin ! $ move ! (1 ∷ 0 ∷ 2 ∷ 3 ∷ 4 ∷ []) $ closes ! tt Row me' vs b o $
    sets ! (of_opd ! (unit_lit !)) refl (tt, tt) $ feq_i ! (List Val) (vunit ∷ []) (vunit ∷ []) refl $
    move ! (3 ∷ 4 ∷ []) $ fjoin ! $ nothing ! $ nothing ! $ fjoin ! $
    feq_i ! (List Val) (at ∷ []) (at ∷ []) refl $ move ! (0 ∷ 4 ∷ 5 ∷ []) $ fjoin3 ! $ fjoin ! $
    returns ! (look_at ! 0 refl) $ free_all ! refl $ keep ! (1 ∷ 0 ∷ 2 ∷ []) $
    by ! (ends_with 𝓛 T stays c y vunit tt (me', (tt, tt)) (tt, (tt, tt)) (and_told 𝓤 refl (and_told 𝓤 knows.0 (and_told 𝓤 knows.1 (fact_i 𝓤 _ (emp 𝓤) knows.2)))))))))))
