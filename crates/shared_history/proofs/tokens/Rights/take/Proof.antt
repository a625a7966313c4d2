-- The first half leaves the others.
use Rattle.shared_history.proofs.Walk.{◌+◌, ◌-◌, ◌<◌, List, [], ◌∷◌, refl, proved, a_type, dcons, dnil, named, Val, vptr, inst_fn, SProp, emp, Fml, ftrue, fsep, flft, fact, fact_i, tables, param, bounded, RattleType, owns, mut_vals, mut_Tells, types_at, plain, nothing, opens, closes, Tuple, Stays, stay_ref, walk_of, Goes-ref, ‵, raw, ◌⊛◌, given, ◌$◌, ◌∵◌, !, qed, by, move, keep, drop, split, fsplit, fsplit3, fjoin, fjoin3, learn, use0, use1, feq_i, no_more, and_then, returns, enter, alloc_all, pass_all, free_all, look_at, get, sets, agg, rules, owner_owns, rights_own, bare, Bare, bare_made, ends_with, and_told}
use Rattle.shared_history.specs.contracts.tokens.Owner as Owner
use Rattle.shared_history.specs.contracts.tokens.Rights as Rights
use Rattle.shared_history.specs.contracts.tokens.Rights.take as f
use Rattle.shared_history.specs.contracts.tokens.Rights.take.Key.{name as #key}
use Rattle.shared_history.proofs.Steps as steps
use Rattle.shared_history.proofs.tokens.Rights.take.Statement.{statement}
use Rattle.shared_history.proofs.tokens.Rights.take.Code as code

pub take_spec : {M : Type 1} → statement M
take_spec 𝓤 𝓛 𝓜 𝓡 wired E P _ _ g d _ =
    let 𝓣 = tables 𝓤 𝓛.H 𝓜 𝓡 𝓡.env in let E' : RattleType = param 0 E in let P' : RattleType = param 1 P in
    let Marked : RattleType = Tuple (E' ∷ P' ∷ []) in let rule = rules g.holds g.concerns in
    let Row : RattleType = Rights.the_row E' P' g in let OwnerRow : RattleType = Owner.the_row E' P' g in
    let T = f.ended E P g d in let c = f.clauses E P g d 𝓛 𝓜.mem 𝓡.returns in
    let inst = bounded (a_type ∷ a_type ∷ []) (E, (P, tt)) (dcons d dnil) in let fn = inst_fn inst code.function in
    let stays : Stays T.signature.params T.kept = (stay_ref (0 ∷ []) tt (plain (λ _. Row)), tt) in
    proved 𝓛 T stays c 𝓜 𝓡 (Goes-ref 𝓛 3 0 tt (plain (λ _. Row)), tt) (#key inst) fn (code.unfolded 𝓤 𝓛.H 𝓜 𝓡 wired (E, (P, tt)) d)
    (λ κs. (mut_vals, tt)) (λ κs. (mut_Tells (named 0) κs.0 Row, tt)) (λ κs qs bounds a gh are.
    let me = a.0.now in let b = a.0.ref_ptr.0 in let o = a.0.ref_ptr.1 in let at : Val = vptr b o in
    let y : (walk_of 𝓛 T stays c).Ghost = ((κs, qs, bounds, a, (at ∷ [], tt)), gh) in let Post : Val → SProp 𝓤 = (walk_of 𝓛 T stays c).post y in
    let Others : Fml = fsep (flft κs.1.0 qs.1.0) (fsep (flft κs.1.1.0 qs.1.1.0) ftrue) in
    let me' : Row.Denot = record me { next = me.next + 1; left = me.left - 1 } in let taken : OwnerRow.Denot = record { marker = record {}; book = me.book; key = me.next; own = [] } in
    qed 𝓛 ((‵ (fsep (flft κs.0 qs.0) Others) ⊛ ‵ (owns (types_at T.signature.params κs) a y.0.4)) ∷ raw (fact 𝓤 _) ∷ raw (fact 𝓤 _) ∷ given (0 < me.left) (‵ ftrue) ∷ []) ∵
    keep ! (3 ∷ 0 ∷ []) $ learn ! (λ some_left. drop ! $ split ! $ fsplit ! $ move ! (2 ∷ []) $ fsplit ! $ fsplit3 ! $ keep ! (1 ∷ 2 ∷ 4 ∷ 5 ∷ []) $
    enter ! 𝓣.C 𝓣.Λ fn (at ∷ []) Post $ alloc_all ! (λ l. pass_all ! refl ((tt, tt), tt) $
    opens ! tt Row b o (λ vs. move ! (1 ∷ []) $ fsplit ! $ move ! (1 ∷ []) $
    use1 𝓛 (‵ (owner_owns E'.coded.code me.book me.next []) ⊛ ‵ (rights_own E'.coded.code me.book (me.next + 1) (me.left - 1)))
    (steps.takes E'.coded rule 𝓛 me.book me.next me.left some_left) $ split ! $
    -- [the half; the other halves; the marker; the reference, opened; the other tokens; the locals]
    move ! (2 ∷ 1 ∷ []) $ fjoin ! $ move ! (2 ∷ 0 ∷ 3 ∷ 4 ∷ 5 ∷ []) $ closes ! tt Row me' vs b o $
    move ! (2 ∷ 4 ∷ []) $ fjoin ! $ nothing ! $ feq_i ! (List Val) (at ∷ []) (at ∷ []) refl $ move ! (0 ∷ 3 ∷ 4 ∷ []) $ fjoin3 ! $ fjoin ! $
    use0 𝓛 (‵ ((Bare Marked).own_val (record {}, tt) (bare ∷ []))) (bare_made Marked 𝓛) $ move ! (0 ∷ 3 ∷ []) $ fjoin ! $
    sets ! (agg ! (no_more !)) refl (tt, tt) $ sets ! (agg ! (and_then ! (get ! refl) (no_more !))) refl (tt, (tt, tt)) $
    returns ! (look_at ! 0 refl) $ free_all ! refl $ keep ! (2 ∷ 1 ∷ 0 ∷ []) $
    by ! (ends_with 𝓛 T stays c y bare taken (me', tt) (tt, tt) (and_told 𝓤 (refl, refl, refl) (fact_i 𝓤 _ (emp 𝓤) (refl, refl, refl))))))))
