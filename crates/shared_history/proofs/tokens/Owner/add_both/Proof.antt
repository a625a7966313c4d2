-- The halves of both owners go on by the entry, and so does the history, while the invariant is open.
use Rattle.shared_history.proofs.Walk.{◌≡◌, ℕ, List, [], ◌∷◌, ◌++◌, sym, refl, proved, a_type, dcons, dnil, named, Val, vunit, vptr, inst_fn, SProp, emp, Fml, ftrue, fsep, flft, fact, fact_i, tables, RefOf, yes, param, bounded, RattleType, owns, mut_vals, mut_Tells, shr_vals, shr_Tells, types_at, plain, nothing, opens, closes, Stays, stay_dropped, stay_ref, walk_of, Goes-dropped, Goes-ref, ‵, raw, ◌⊛◌, some, given, later, ◌$◌, ◌∵◌, !, qed, by, move, keep, drop, split, fsplit, fsplit3, fjoin, fjoin3, pick, learn, use3, await, rewrite, feq_i, of_opd, unit_lit, returns, enter, alloc_all, pass_all, free_all, look_at, sets, Book, part, Adds, rules, seen_owns, owner_owns, ends_with, and_told}
use Rattle.shared_history.specs.contracts.tokens.Owner as Owner
use Rattle.shared_history.specs.contracts.tokens.Owner.add_both as f
use Rattle.shared_history.specs.contracts.tokens.Owner.add_both.Key.{name as #key}
use Rattle.shared_history.specs.contracts.tokens.Seen as Seen
use Rattle.shared_history.proofs.Steps as steps
use Rattle.shared_history.proofs.tokens.Owner.add_both.Statement.{statement}
use Rattle.shared_history.proofs.tokens.Owner.add_both.Code as code

pub add_both_spec : {M : Type 1} → statement M
add_both_spec 𝓤 𝓛 𝓜 𝓡 wired E P X N _ _ _ _ g d gn dn _ _ =
    let 𝓣 = tables 𝓤 𝓛.H 𝓜 𝓡 𝓡.env in let E' : RattleType = param 0 E in let P' : RattleType = param 1 P in let X' : RattleType = param 2 X in let rule = rules g.holds g.concerns in
    let Row : RattleType = Owner.the_row E' P' g in let SeenRow : RattleType = Seen.the_row E' P' g in let About = RefOf (3 ∷ []) tt (plain (λ _. X')) (λ _. tt) in
    let T = f.ended E P X N g d gn dn in let c = f.clauses E P X N g d gn dn 𝓛 𝓜.mem 𝓡.returns in
    let inst = bounded (a_type ∷ a_type ∷ a_type ∷ a_type ∷ []) (E, (P, (X, (N, tt)))) (dcons d (dcons dn dnil)) in let fn = inst_fn inst code.function in
    let stays : Stays T.signature.params T.kept = (stay_ref (0 ∷ []) tt (plain (λ _. Row)), (stay_ref (1 ∷ []) tt (plain (λ _. Row)), (stay_ref (2 ∷ []) tt (plain (λ _. SeenRow)), (stay_dropped About yes, tt)))) in
    proved 𝓛 T stays c 𝓜 𝓡
    (Goes-ref 𝓛 8 0 tt (plain (λ _. Row)), (Goes-ref 𝓛 8 1 tt (plain (λ _. Row)), (Goes-ref 𝓛 8 2 tt (plain (λ _. SeenRow)), (Goes-dropped 𝓛 8 About yes (λ κs x w. refl), tt)))) (#key inst) fn
    (code.unfolded 𝓤 𝓛.H 𝓜 𝓡 wired (E, (P, (X, (N, tt)))) d dn)
    (λ κs. (mut_vals, (mut_vals, (mut_vals, (shr_vals, tt)))))
    (λ κs. (mut_Tells (named 0) κs.0 Row, (mut_Tells (named 1) κs.1.0 Row, (mut_Tells (named 2) κs.1.1.0 SeenRow, (shr_Tells (named 3) κs.1.1.1.0 X', tt))))) (λ κs qs bounds a gh are.
    let me = a.0.now in let b₀ = a.0.ref_ptr.0 in let o₀ = a.0.ref_ptr.1 in let at₀ : Val = vptr b₀ o₀ in
    let other = a.1.0.now in let b₁ = a.1.0.ref_ptr.0 in let o₁ = a.1.0.ref_ptr.1 in let at₁ : Val = vptr b₁ o₁ in
    let seen = a.1.1.0.now in let b₂ = a.1.1.0.ref_ptr.0 in let o₂ = a.1.1.0.ref_ptr.1 in let at₂ : Val = vptr b₂ o₂ in
    let e : E.Denot = gn.entry a.1.1.1.0.now in let of : Val = vptr a.1.1.1.0.ref_ptr.0 a.1.1.1.0.ref_ptr.1 in
    let more : List E.Denot = me.own ++ e ∷ [] in let others : List E.Denot = other.own ++ e ∷ [] in
    let y : (walk_of 𝓛 T stays c).Ghost = ((κs, qs, bounds, a, (at₀ ∷ [], (at₁ ∷ [], (at₂ ∷ [], (of ∷ [], tt))))), gh) in let Post : Val → SProp 𝓤 = (walk_of 𝓛 T stays c).post y in
    let Others : Fml = fsep (flft κs.1.1.1.0 qs.1.1.1.0) (fsep (flft κs.1.1.1.1.0 qs.1.1.1.1.0) (fsep (flft κs.1.1.1.1.1.0 qs.1.1.1.1.1.0)
    (fsep (flft κs.1.1.1.1.1.1.0 qs.1.1.1.1.1.1.0) (fsep (flft κs.1.1.1.1.1.1.1.0 qs.1.1.1.1.1.1.1.0) ftrue)))) in
    let Alive : Fml = fsep (flft κs.0 qs.0) (fsep (flft κs.1.0 qs.1.0) (fsep (flft κs.1.1.0 qs.1.1.0) Others)) in
    let Known : Book → List E.Denot → Fml = seen_owns E'.coded.code rule in let Half : Book → ℕ → List E.Denot → Fml = owner_owns E'.coded.code in
    qed 𝓛 ((‵ Alive ⊛ ‵ (owns (types_at T.signature.params κs) a y.0.4)) ∷ raw (fact 𝓤 _) ∷ raw (fact 𝓤 _) ∷ raw (fact 𝓤 _) ∷ raw (fact 𝓤 _) ∷ given _ (‵ ftrue) ∷ given _ (‵ ftrue) ∷ given _ (‵ ftrue) ∷ given _ (‵ ftrue) ∷ []) ∵
    keep ! (5 ∷ 6 ∷ 7 ∷ 8 ∷ 0 ∷ []) $ learn ! (λ books. drop ! $ learn ! (λ apart. drop ! $ learn ! (λ two. drop ! $ learn ! (λ may. drop ! $ split ! $ fsplit ! $ move ! (1 ∷ []) $ fsplit ! $ move ! (1 ∷ []) $ fsplit ! $ move ! (4 ∷ []) $
    fsplit ! $ fsplit3 ! $ move ! (3 ∷ []) $ fsplit ! $ fsplit3 ! $ move ! (3 ∷ []) $ fsplit ! $ fsplit3 ! $ keep ! (8 ∷ 9 ∷ 13 ∷ 5 ∷ 6 ∷ 12 ∷ 1 ∷ 2 ∷ 10 ∷ 11 ∷ []) $
    enter ! 𝓣.C 𝓣.Λ fn (at₀ ∷ at₁ ∷ at₂ ∷ of ∷ []) Post $ alloc_all ! (λ l. pass_all ! refl ((tt, tt), ((tt, tt), ((tt, tt), ((tt, tt), tt)))) $
    -- [of each owner and of what was seen the parts of its reference, and its token; the other tokens; the locals]
    opens ! tt Row b₀ o₀ (λ vs. move ! (5 ∷ 6 ∷ 7 ∷ []) $ opens ! tt Row b₁ o₁ (λ us. move ! (10 ∷ 11 ∷ 12 ∷ []) $ opens ! tt SeenRow b₂ o₂ (λ ws.
    move ! (1 ∷ 6 ∷ 11 ∷ []) $ fsplit ! $ move ! (2 ∷ []) $ fsplit ! $ move ! (4 ∷ []) $ fsplit ! $ move ! (5 ∷ 1 ∷ 3 ∷ []) $
    rewrite ! 0 (λ (z : Book). ‵ (Known z seen.log)) books.0 refl $ rewrite ! 2 (λ (z : Book). ‵ (Half z other.key other.own)) books.1 refl $
    use3 𝓛 (later (some (λ (next : List E.Denot). given (g.holds next × (Adds seen.log next e × (part g.concerns me.key next ≡ more) × (part g.concerns other.key next ≡ others)))
    (‵ (Known me.book next) ⊛ ‵ (Half me.book me.key more) ⊛ ‵ (Half me.book other.key others)))))
    (steps.adds_both E'.coded rule 𝓛 me.book seen.log me.key me.own other.key other.own e apart two may) $
    await ! tt $ pick ! (λ next. learn ! (λ added. split ! $ move ! (1 ∷ []) $ split ! $
    -- [both halves; what is known; the three markers; the three references, opened; the other tokens; the locals]
    let me' : Row.Denot = record me { own = more } in let other' : Row.Denot = record other { book = me.book; own = others } in
    let seen' : SeenRow.Denot = record seen { book = me.book; log = next } in
    move ! (5 ∷ 2 ∷ []) $ fjoin ! $ move ! (5 ∷ 0 ∷ 6 ∷ 7 ∷ 8 ∷ []) $ closes ! tt SeenRow seen' ws b₂ o₂ $
    move ! (6 ∷ 4 ∷ []) $ fjoin ! $ move ! (6 ∷ 0 ∷ 7 ∷ 8 ∷ 9 ∷ []) $ closes ! tt Row other' us b₁ o₁ $
    move ! (7 ∷ 6 ∷ []) $ fjoin ! $ move ! (7 ∷ 0 ∷ 8 ∷ 9 ∷ 10 ∷ []) $ closes ! tt Row me' vs b₀ o₀ $
    sets ! (of_opd ! (unit_lit !)) refl (tt, tt) $ feq_i ! (List Val) (vunit ∷ []) (vunit ∷ []) refl $
    move ! (9 ∷ 10 ∷ []) $ fjoin ! $ move ! (7 ∷ 0 ∷ []) $ fjoin ! $ move ! (4 ∷ 0 ∷ []) $ fjoin ! $ nothing ! $ nothing ! $ fjoin ! $
    feq_i ! (List Val) (at₂ ∷ []) (at₂ ∷ []) refl $ move ! (0 ∷ 8 ∷ 9 ∷ []) $ fjoin3 ! $ fjoin ! $
    feq_i ! (List Val) (at₁ ∷ []) (at₁ ∷ []) refl $ move ! (0 ∷ 6 ∷ 7 ∷ []) $ fjoin3 ! $ fjoin ! $
    feq_i ! (List Val) (at₀ ∷ []) (at₀ ∷ []) refl $ move ! (0 ∷ 4 ∷ 5 ∷ []) $ fjoin3 ! $ fjoin ! $
    returns ! (look_at ! 0 refl) $ free_all ! refl $ keep ! (1 ∷ 0 ∷ 2 ∷ []) $
    by ! (ends_with 𝓛 T stays c y vunit tt (me', (other', (seen', (tt, tt)))) (tt, (tt, (tt, (tt, tt))))
    (and_told 𝓤 (refl, refl, refl) (and_told 𝓤 (sym books.1, refl, refl) (and_told 𝓤 (sym books.0, added.1.0, added.0) (fact_i 𝓤 _ (emp 𝓤) (added.1.1, added.1.2)))))))))))))))))
