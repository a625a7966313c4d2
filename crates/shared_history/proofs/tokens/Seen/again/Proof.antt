-- What was seen is taken twice: once for the copy.
use Rattle.shared_history.proofs.Walk.{[], ◌∷◌, refl, proved, a_type, dcons, dnil, named, Val, vptr, inst_fn, SProp, emp, Fml, ftrue, fsep, flft, fhide, fact_i, tables, RefOf, yes, hidden_shr, unhide, param, bounded, RattleType, owns, shr_vals, shr_Tells, types_at, plain, nothing, lent_out, Tuple, Stays, stay_dropped, walk_of, Goes-dropped, ‵, raw, ◌⊛◌, ◌$◌, ◌∵◌, !, qed, by, move, keep, drop, split, fsplit, fjoin, use0, use1, no_more, and_then, returns, enter, alloc_all, pass_all, free_all, look_at, get, sets, agg, rules, seen_owns, bare, Bare, bare_made, ends_with}
use Rattle.core.specs.contracts.marker.PhantomData as marker
use Rattle.shared_history.specs.contracts.tokens.Seen as Seen
use Rattle.shared_history.specs.contracts.tokens.Seen.again as f
use Rattle.shared_history.specs.contracts.tokens.Seen.again.Key.{name as #key}
use Rattle.shared_history.proofs.tokens.Seen.again.Statement.{statement}
use Rattle.shared_history.proofs.tokens.Seen.again.Code as code

pub again_spec : {M : Type 1} → statement M
again_spec 𝓤 𝓛 𝓜 𝓡 wired E P _ _ g d _ =
    let 𝓣 = tables 𝓤 𝓛.H 𝓜 𝓡 𝓡.env in let E' : RattleType = param 0 E in let P' : RattleType = param 1 P in
    let Marked : RattleType = Tuple (E' ∷ P' ∷ []) in let rule = rules g.holds g.concerns in
    let Row : RattleType = Seen.the_row E' P' g in let Self = RefOf (0 ∷ []) tt (plain (λ _. Row)) (λ _. tt) in
    let T = f.ended E P g d in let c = f.clauses E P g d 𝓛 𝓜.mem 𝓡.returns in
    let inst = bounded (a_type ∷ a_type ∷ []) (E, (P, tt)) (dcons d dnil) in let fn = inst_fn inst code.function in
    let stays : Stays T.signature.params T.kept = (stay_dropped Self yes, tt) in
    proved 𝓛 T stays c 𝓜 𝓡 (Goes-dropped 𝓛 3 Self yes (λ κs x w. refl), tt) (#key inst) fn (code.unfolded 𝓤 𝓛.H 𝓜 𝓡 wired (E, (P, tt)) d)
    (λ κs. (shr_vals, tt)) (λ κs. (shr_Tells (named 0) κs.0 Row, tt)) (λ κs qs bounds a gh are.
    let me = a.0.now in let b = a.0.ref_ptr.0 in let o = a.0.ref_ptr.1 in let at : Val = vptr b o in
    let y : (walk_of 𝓛 T stays c).Ghost = ((κs, qs, bounds, a, (at ∷ [], tt)), gh) in let Post : Val → SProp 𝓤 = (walk_of 𝓛 T stays c).post y in
    let Alive : Fml = fsep (flft κs.0 qs.0) (fsep (flft κs.1.0 qs.1.0) (fsep (flft κs.1.1.0 qs.1.1.0) ftrue)) in
    let Known : Fml = seen_owns E'.coded.code rule me.book me.log in
    qed 𝓛 ((‵ Alive ⊛ ‵ (owns (types_at T.signature.params κs) a y.0.4)) ∷ raw ((c κs a).requires gh) ∷ []) ∵ keep ! (0 ∷ []) $ split ! $ move ! (1 ∷ []) $
    fsplit ! $ fsplit ! $ keep ! (1 ∷ 3 ∷ []) $
    enter ! 𝓣.C 𝓣.Λ fn (at ∷ []) Post $ alloc_all ! (λ l. pass_all ! refl ((tt, tt), tt) $
    -- [what the reference shares; the tokens; the locals]
    use1 𝓛 (‵ (hidden_shr (Bare Marked) κs.0 (record {}, tt) b o) ⊛ ‵ (fhide Known))
    (lent_out 𝓛 (Seen.struct E' P' g) (Seen.the_codes E.Denot P.Denot E'.coded P'.coded (marker.the_row Marked).coded) (Seen.the_heap E' P' g) (Seen.the_lent E' P' g) κs.0 me b o) $
    split ! $ drop ! $ unhide ! $
    use0 𝓛 (‵ ((Bare Marked).own_val (record {}, tt) (bare ∷ []))) (bare_made Marked 𝓛) $ fjoin ! $
    sets ! (agg ! (no_more !)) refl (tt, tt) $ sets ! (agg ! (and_then ! (get ! refl) (no_more !))) refl (tt, (tt, tt)) $
    nothing ! $ nothing ! $ fjoin ! $
    returns ! (look_at ! 0 refl) $ free_all ! refl $ keep ! (2 ∷ 0 ∷ 1 ∷ []) $
    by ! (ends_with 𝓛 T stays c y bare me (tt, tt) (tt, tt) (fact_i 𝓤 _ (emp 𝓤) refl))))
