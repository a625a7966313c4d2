-- A history is made, with a name and two halves for each owner.
use Rattle.shared_history.proofs.Walk.{◌≡◌, ℕ, List, [], ◌∷◌, ◌++◌, length, refl, w64, proved, a_type, dcons, dnil, Val, vint, vstruct, vcons, vnil, of_list, inst_fn, SProp, emp, Fml, ftrue, fsep, feq, flft, fact, fact_i, tables, usize, yes, param, bounded, uint_vals, uint_Tells, RattleType, owns, Valss, types_at, plain, nothing, Tuple, Stays, stay_dropped, walk_of, Goes-dropped, ‵, raw, ◌⊛◌, some, given, later, ◌$◌, ◌∵◌, !, qed, by, move, keep, drop, split, fjoin, fjoin3, fpack, pick, learn, use0, await, feq_i, no_more, and_then, returns, enter, alloc_all, pass_all, free_all, look_at, get, sets, agg, Book, rules, seen_owns, rights_own, bare, Bare, bare_made, ends_with, and_told}
use Rattle.shared_history.specs.contracts.tokens.Rights as Rights
use Rattle.shared_history.specs.contracts.tokens.Seen as Seen
use Rattle.shared_history.specs.contracts.tokens.Seen.«open» as f
use Rattle.shared_history.specs.contracts.tokens.Seen.«open».Key.{name as #key}
use Rattle.shared_history.proofs.Steps as steps
use Rattle.shared_history.proofs.tokens.Seen.«open».Statement.{statement}
use Rattle.shared_history.proofs.tokens.Seen.«open».Code as code

pub open_spec : {M : Type 1} → statement M
open_spec 𝓤 𝓛 𝓜 𝓡 wired E P _ _ g d _ =
    let 𝓣 = tables 𝓤 𝓛.H 𝓜 𝓡 𝓡.env in let E' : RattleType = param 0 E in let P' : RattleType = param 1 P in
    let Marked : RattleType = Tuple (E' ∷ P' ∷ []) in let rule = rules g.holds g.concerns in
    let SeenRow : RattleType = Seen.the_row E' P' g in let RightsRow : RattleType = Rights.the_row E' P' g in let Rows : List RattleType = SeenRow ∷ RightsRow ∷ [] in
    let T = f.ended E P g d in let c = f.clauses E P g d 𝓛 𝓜.mem 𝓡.returns in
    let inst = bounded (a_type ∷ a_type ∷ []) (E, (P, tt)) (dcons d dnil) in let fn = inst_fn inst code.function in
    let stays : Stays T.signature.params T.kept = (stay_dropped (plain (λ _. usize)) yes, tt) in
    proved 𝓛 T stays c 𝓜 𝓡 (Goes-dropped 𝓛 2 (plain (λ _. usize)) yes (λ κs x w. refl), tt) (#key inst) fn (code.unfolded 𝓤 𝓛.H 𝓜 𝓡 wired (E, (P, tt)) d)
    (λ κs. (uint_vals w64, tt)) (λ κs. (uint_Tells w64, tt)) (λ κs qs bounds a gh are.
    let n : ℕ = a.0 in let y : (walk_of 𝓛 T stays c).Ghost = ((κs, qs, bounds, a, (vint w64 n ∷ [], tt)), gh) in let Post : Val → SProp 𝓤 = (walk_of 𝓛 T stays c).post y in
    let Alive : Fml = fsep (flft κs.0 qs.0) (fsep (flft κs.1.0 qs.1.0) ftrue) in
    qed 𝓛 ((‵ Alive ⊛ ‵ (owns (types_at T.signature.params κs) a y.0.4)) ∷ raw (fact 𝓤 _) ∷ raw (fact 𝓤 _) ∷ given (g.holds []) (‵ ftrue) ∷ []) ∵
    keep ! (3 ∷ 0 ∷ []) $ learn ! (λ so. drop ! $ split ! $ keep ! (0 ∷ []) $
    enter ! 𝓣.C 𝓣.Λ fn (vint w64 n ∷ []) Post $ alloc_all ! (λ l. pass_all ! refl ((tt, record { fits = are.0.1 }), tt) $
    use0 𝓛 (later (some (λ (book : Book). given (length book.owner_names ≡ n) (‵ (seen_owns E'.coded.code rule book []) ⊛ ‵ (rights_own E'.coded.code book 0 n)))))
    (steps.opens_new E'.coded rule 𝓛 n so) $
    await ! tt $ pick ! (λ book. learn ! (λ many. split ! $
    sets ! (agg ! (no_more !)) refl (tt, tt) $ sets ! (agg ! (and_then ! (get ! refl) (no_more !))) refl (tt, (tt, tt)) $
    sets ! (agg ! (no_more !)) refl (tt, tt) $ sets ! (agg ! (and_then ! (get ! refl) (no_more !))) refl (tt, (tt, tt)) $
    sets ! (agg ! (and_then ! (get ! refl) (and_then ! (get ! refl) (no_more !)))) refl (tt, ((tt, tt), ((tt, tt), tt))) $
    -- [what was seen; the rights; the tokens; the locals]
    use0 𝓛 (‵ ((Bare Marked).own_val (record {}, tt) (bare ∷ []))) (bare_made Marked 𝓛) $ fjoin ! $ move ! (1 ∷ []) $
    use0 𝓛 (‵ ((Bare Marked).own_val (record {}, tt) (bare ∷ []))) (bare_made Marked 𝓛) $ fjoin ! $ nothing ! $ move ! (2 ∷ 1 ∷ 0 ∷ []) $ fjoin3 ! $
    let v : Val = vstruct (vcons bare (vcons bare vnil)) in
    let seen : SeenRow.Denot = record { marker = record {}; book = book; log = [] } in let rights : RightsRow.Denot = record { marker = record {}; book = book; next = 0; left = n } in
    feq_i ! (List Val) (v ∷ []) (v ∷ []) refl $ fjoin ! $
    fpack ! (Valss Rows) (λ vss. fsep (feq (List Val) (v ∷ []) (vstruct (of_list (vss.0 ++ (vss.1.0 ++ []))) ∷ [])) (owns Rows (seen, (rights, tt)) vss)) (bare ∷ [], (bare ∷ [], tt)) $
    nothing ! $ nothing ! $ fjoin ! $
    returns ! (look_at ! 0 refl) $ free_all ! refl $ keep ! (2 ∷ 0 ∷ 1 ∷ []) $
    by ! (ends_with 𝓛 T stays c y v (seen, rights) (tt, tt) (tt, tt) (and_told 𝓤 refl (and_told 𝓤 refl (and_told 𝓤 many (fact_i 𝓤 _ (emp 𝓤) (refl, refl)))))))))))
