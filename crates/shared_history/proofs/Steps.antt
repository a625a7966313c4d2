-- The ghost step of each call: the invariant is opened, looked into or added to, and closed. Assumes `Logic`.
use Rattle.std.proofs.Common.{◌≡◌, ◌≢◌, ◌⊎◌, inl, inr, ℕ, ◌+◌, ◌-◌, ◌<◌, ◌≤◌, Bool, true, false, List, [], ◌∷◌, ◌++◌, map, length, refl, ap, ◌∙◌, arith}
use mathlib.Core.List.{IsPrefix}
use seplogic.Ra.Ura.{Ura}
use base.Fraction.{full_share}
use base.Stored.{Coded}
use base.Logic.{SProp, ent, sep, ex, guard, upd, emp, id⊢, via, upd_i}
use base.Fml.{Fml, ftrue, finv, fnamed}
use base.Growing.{prefix_refl, prefix_trans}
use types.Logic.{Logic, sem}
use types.Owned.{basic, named_past}
use types.Growing.{latest_new, latest_grows, latest_shows, latest_bounds, at_least_dup}
use types.Kit.{‵, raw, ◌⊛◌, some, given, later, ◌$◌, ◌∵◌, !, qed, by, move, keep, drop, split, fsplit3, fjoin3, fpick, fpack, pick, learn, show, check, frame, assume, suffices, settle, done, use0, use1, use2, use3, updating, await, now}
use denote.Steps.{nothing}
use Rattle.shared_history.specs.Pages.{Book, part, Adds, ConcernsOne, ConcernsTwo, MayFollow, MayFollowBoth}
use Rattle.shared_history.specs.inner.Kept.{longer, Rules, begins, stands, kept_halves, halves_from, owner_owns, rights_own, standing, kept, seen_owns}
use Rattle.shared_history.proofs.Lists.{begins_back, begins_kept, part_longer, part_same}
use Rattle.shared_history.proofs.Halves.{knows, goes_on, both_go_on, dealt, one_off, cut_off}

never_true : (b : Bool) → (b ≡ true → ⊥) → b ≡ false
never_true true not = absurd (not refl)
never_true false not = refl

neither : (m k j : ℕ) → m ≢ k → m ≢ j → (m ≡ k) ⊎ (m ≡ j) → ⊥
neither m k j not_k not_j (inl is) = not_k is
neither m k j not_k not_j (inr is) = not_j is

module _ {E : Type 0} (cv : Coded E) (rule : Rules E) {M : Type 1} {𝓤 : Ura M} (𝓛 : Logic 𝓤) where
  open 𝓛 use {H}

  abbrev Assertion : Type 2
  Assertion = SProp 𝓤

  abbrev ◌⊢◌ : Assertion → Assertion → Type 1
  P ⊢ Q = ent 𝓤 P Q

  abbrev ◌∗◌ : Assertion → Assertion → Assertion
  P ∗ Q = sep 𝓤 P Q

  abbrev ⟦◌⟧ : Fml → Assertion
  ⟦ P ⟧ = sem 𝓛 P

  infix 26 ◌⊢◌
  infixr 35 ◌∗◌
  -- ---- what is had of a history with these names
  module _ (name : ℕ) (names : List ℕ) where
    abbrev Parts : List E → ℕ → List E
    Parts log k = part rule.concerns k log

    abbrev Halves : List E → Fml
    Halves log = kept_halves cv.code 0 names (Parts log)

    abbrev Stands : List E → Fml
    Stands log = stands cv.code name log

    abbrev Begins : List E → Fml
    Begins log = begins cv.code name log

    abbrev Kept : Fml
    Kept = kept cv.code rule name names

    bounds : (log seen : List E) → ⟦ Stands log ⟧ ∗ ⟦ Begins seen ⟧ ⊢ guard 𝓤 (IsPrefix seen log) (⟦ Stands log ⟧ ∗ ⟦ Begins seen ⟧)
    bounds log seen = qed 𝓛 (‵ (Stands log) ∷ ‵ (Begins seen) ∷ []) ∵
        use2 𝓛 (given (IsPrefix (map cv.code seen) (map cv.code log)) (‵ (Stands log) ⊛ ‵ (Begins seen)))
        (latest_bounds longer 𝓛 full_share name (map cv.code log) (map cv.code seen)) $
        learn ! (λ at. check ! (begins_back cv seen log at) $ done !)

    shows : (log : List E) → ⟦ Stands log ⟧ ⊢ ⟦ Stands log ⟧ ∗ ⟦ Begins log ⟧
    shows log = latest_shows longer 𝓛 full_share name (map cv.code log) (map cv.code log) (longer.same (map cv.code log))

    shut : (log : List E) → rule.holds log → ⟦ Stands log ⟧ ∗ ⟦ Halves log ⟧ ⊢ ⟦ Kept ⟧
    shut log so = qed 𝓛 (‵ (Stands log) ∷ ‵ (Halves log) ∷ []) ∵ nothing ! $ fpack ! (rule.holds log) (λ _. ftrue) so $ move ! (1 ∷ 2 ∷ 0 ∷ []) $ fjoin3 ! $
        fpack ! (List E) (standing cv.code rule name names) log $ done !

  -- ---- what the tokens of one history own
  module _ (book : Book) where
    abbrev names : List ℕ
    names = book.owner_names

    abbrev J : Fml
    J = Kept book.log_name names

    abbrev Named : Fml
    Named = fnamed book.number J

    abbrev Seen : List E → Fml
    Seen log = seen_owns cv.code rule book log

    abbrev Owns : ℕ → List E → Fml
    Owns key own = owner_owns cv.code book key own

    taken : (log : List E) → ⟦ Seen log ⟧ ⊢ ⟦ Named ⟧ ∗ ⟦ Begins book.log_name names log ⟧
    unfolding seen_owns
    taken log = id⊢ 𝓤 _

    made : (log : List E) → ⟦ Named ⟧ ∗ ⟦ Begins book.log_name names log ⟧ ⊢ ⟦ Seen log ⟧
    unfolding seen_owns
    made log = id⊢ 𝓤 _

    -- what was seen is known for good
    pub twice : (log : List E) → ⟦ Seen log ⟧ ⊢ ⟦ Seen log ⟧ ∗ ⟦ Seen log ⟧
    twice log = let B : Fml = Begins book.log_name names log in qed 𝓛 (‵ (Seen log) ∷ []) ∵ use1 𝓛 (‵ Named ⊛ ‵ B) (taken log) $ split ! $
        use1 𝓛 (‵ Named ⊛ ‵ Named) (𝓛.invs.named_dup book.number J) $ split ! $ move ! (2 ∷ []) $
        use1 𝓛 (‵ B ⊛ ‵ B) (at_least_dup longer 𝓛 book.log_name (map cv.code log)) $ split ! $
        move ! (2 ∷ 0 ∷ []) $ use2 𝓛 (‵ (Seen log)) (made log) $ frame ! $ move ! (1 ∷ 0 ∷ []) $ by ! (made log)

    pub beginning : (log : List E) → ⟦ Seen log ⟧ ⊢ ⟦ Begins book.log_name names log ⟧
    beginning log = qed 𝓛 (‵ (Seen log) ∷ []) ∵ use1 𝓛 (‵ Named ⊛ ‵ (Begins book.log_name names log)) (taken log) $ split ! $ drop ! $ done !

    -- what a step leaves: a longer history was seen, and what else it gave
    abbrev pub Left : List E → List E → (List E → Assertion) → List E → Assertion
    Left x y Q next = guard 𝓤 (IsPrefix x next × IsPrefix y next × rule.holds next) (⟦ Seen next ⟧ ∗ Q next)

    abbrev Turned : (List E → Assertion) → List E → List E → Assertion
    Turned Q log next = guard 𝓤 (rule.holds next × IsPrefix log next) (⟦ Halves book.log_name names next ⟧ ∗ Q next)

    -- While the invariant is open, the halves may become those of a longer history for which the rule holds. Then it is closed, and that history was seen
    stepped : (x y : List E) (P : Assertion) (Q : List E → Assertion)
        → ((log : List E) → rule.holds log → IsPrefix x log → ⟦ Halves book.log_name names log ⟧ ∗ P ⊢ upd 𝓤 (ex 𝓤 (Turned Q log)))
        → ⟦ Seen x ⟧ ∗ ⟦ Begins book.log_name names y ⟧ ∗ P ⊢ H.⇛ (ex 𝓤 (Left x y Q))
    stepped x y P Q turn =
        let B : List E → Fml = Begins book.log_name names in let S : List E → Fml = Stands book.log_name names in let Hs : List E → Fml = Halves book.log_name names in
        let Z : Assertion = ex 𝓤 (Left x y Q) in
        qed 𝓛 (‵ (Seen x) ∷ ‵ (B y) ∷ raw P ∷ []) ∵ use1 𝓛 (‵ Named ⊛ ‵ (B x)) (taken x) $ split ! $
        use1 𝓛 (‵ Named ⊛ ‵ Named) (𝓛.invs.named_dup book.number J) $ split ! $ use1 𝓛 (‵ (finv J)) (𝓛.invs.named_inv book.number J) $
        suffices ! _ (𝓛.invs.inv_acc J Z) $ frame ! $ assume ! (‵ J) $
        -- what the invariant keeps; its name; the two beginnings; P
        fpick ! (λ log. fsplit3 ! $ move ! (2 ∷ []) $ fpick ! (λ so. drop ! $
        move ! (0 ∷ 3 ∷ []) $ use2 𝓛 (given (IsPrefix x log) (‵ (S log) ⊛ ‵ (B x))) (bounds book.log_name names log x) $ learn ! (λ past_x. split ! $
        move ! (0 ∷ 4 ∷ []) $ use2 𝓛 (given (IsPrefix y log) (‵ (S log) ⊛ ‵ (B y))) (bounds book.log_name names log y) $ learn ! (λ past_y. split ! $
        -- the history; the two beginnings; the halves; the invariant's name; P
        move ! (3 ∷ 5 ∷ []) $ use2 𝓛 (raw (upd 𝓤 (ex 𝓤 (Turned Q log)))) (turn log so past_x) $
        settle 𝓛 (⟦ J ⟧ ∗ Z) (some (λ (next : List E). given (rule.holds next × IsPrefix log next) (‵ (Hs next) ⊛ raw (Q next)))) $
        pick ! (λ next. learn ! (λ goes. split ! $ move ! (2 ∷ []) $
        use1 𝓛 (raw (upd 𝓤 ⟦ S next ⟧)) (latest_grows longer 𝓛 book.log_name (map cv.code log) (map cv.code next) (begins_kept cv log next goes.1)) $
        settle 𝓛 (⟦ J ⟧ ∗ Z) (‵ (S next)) $ use1 𝓛 (‵ (S next) ⊛ ‵ (B next)) (shows book.log_name names next) $ split ! $
        suffices ! _ (upd_i 𝓤 (⟦ J ⟧ ∗ Z)) $ move ! (0 ∷ 2 ∷ []) $ use2 𝓛 (‵ J) (shut book.log_name names next goes.0) $ frame ! $
        -- its beginning; what the turn gave; two beginnings; the invariant's name
        show ! (Left x y Q) next $ check ! (prefix_trans x log next past_x goes.1, prefix_trans y log next past_y goes.1, goes.0) $
        keep ! (4 ∷ 0 ∷ 1 ∷ []) $ use2 𝓛 (‵ (Seen next)) (made next) $ done !))))))

    -- the same where nothing else was seen
    stepped_alone : (x : List E) (P : Assertion) (Q : List E → Assertion)
        → ((log : List E) → rule.holds log → IsPrefix x log → ⟦ Halves book.log_name names log ⟧ ∗ P ⊢ upd 𝓤 (ex 𝓤 (Turned Q log)))
        → ⟦ Seen x ⟧ ∗ P ⊢ H.⇛ (ex 𝓤 (Left x x Q))
    stepped_alone x P Q turn = qed 𝓛 (‵ (Seen x) ∷ raw P ∷ []) ∵ use1 𝓛 (‵ (Seen x) ⊛ ‵ (Seen x)) (twice x) $ split ! $
        use1 𝓛 (‵ (Begins book.log_name names x)) (beginning x) $ move ! (1 ∷ 0 ∷ 2 ∷ []) $ by ! (stepped x x P Q turn)

    abbrev pub Learned : List E → List E → List E → Assertion
    Learned x y next = guard 𝓤 (IsPrefix x next × IsPrefix y next × rule.holds next) ⟦ Seen next ⟧

    pub learns : (x y : List E) → ⟦ Seen x ⟧ ∗ ⟦ Begins book.log_name names y ⟧ ⊢ H.⇛ (ex 𝓤 (Learned x y))
    learns x y = let Q : List E → Assertion = λ next. emp 𝓤 in let Hs : List E → Fml = Halves book.log_name names in
        qed 𝓛 (‵ (Seen x) ∷ ‵ (Begins book.log_name names y) ∷ []) ∵ updating ! $ use0 𝓛 (raw (emp 𝓤)) (id⊢ 𝓤 (emp 𝓤)) $ move ! (1 ∷ 2 ∷ 0 ∷ []) $
        use3 𝓛 (later (some (λ (next : List E). given (IsPrefix x next × IsPrefix y next × rule.holds next) (‵ (Seen next) ⊛ raw (emp 𝓤)))))
        (stepped x y (emp 𝓤) Q (λ log so past. qed 𝓛 (‵ (Hs log) ∷ raw (emp 𝓤) ∷ []) ∵ suffices ! _ (upd_i 𝓤 (ex 𝓤 (Turned Q log))) $
        show ! (Turned Q log) log $ check ! (so, prefix_refl log) $ done !)) $
        await ! tt $ pick ! (λ next. learn ! (λ all. split ! $ now ! $ show ! (Learned x y) next $ check ! all $ keep ! (0 ∷ []) $ done !))

    abbrev pub Looked : List E → ℕ → List E → List E → Assertion
    Looked x key own next = guard 𝓤 (IsPrefix x next × rule.holds next × (part rule.concerns key next ≡ own)) (⟦ Seen next ⟧ ∗ ⟦ Owns key own ⟧)

    pub looks : (x : List E) (key : ℕ) (own : List E) → ⟦ Seen x ⟧ ∗ ⟦ Owns key own ⟧ ⊢ H.⇛ (ex 𝓤 (Looked x key own))
    unfolding owner_owns
    looks x key own =
        let Q : List E → Assertion = λ next. guard 𝓤 (part rule.concerns key next ≡ own) ⟦ Owns key own ⟧ in let Hs : List E → Fml = Halves book.log_name names in
        qed 𝓛 (‵ (Seen x) ∷ ‵ (Owns key own) ∷ []) ∵ updating ! $
        use2 𝓛 (later (some (λ (next : List E). given (IsPrefix x next × IsPrefix x next × rule.holds next) (‵ (Seen next) ⊛ given (part rule.concerns key next ≡ own) (‵ (Owns key own))))))
        (stepped_alone x ⟦ Owns key own ⟧ Q (λ log so past. qed 𝓛 (‵ (Hs log) ∷ ‵ (Owns key own) ∷ []) ∵
        use2 𝓛 (given (part rule.concerns key log ≡ own) (‵ (Hs log) ⊛ ‵ (Owns key own))) (knows cv 𝓛 names 0 key key (λ k. part rule.concerns k log) own (omega arith)) $
        learn ! (λ same. suffices ! _ (upd_i 𝓤 (ex 𝓤 (Turned Q log))) $ show ! (Turned Q log) log $ check ! (so, prefix_refl log) $ split ! $ frame ! $ check ! same $ done !))) $
        await ! tt $ pick ! (λ next. learn ! (λ all. split ! $ move ! (1 ∷ []) $ learn ! (λ same. now ! $ show ! (Looked x key own) next $ check ! (all.0, all.2, same) $ move ! (1 ∷ 0 ∷ []) $ done !)))

    abbrev pub Added : List E → ℕ → List E → E → List E → Assertion
    Added x key own e next = guard 𝓤 (Adds x next e × rule.holds next × (part rule.concerns key next ≡ own ++ e ∷ [])) (⟦ Seen next ⟧ ∗ ⟦ Owns key (own ++ e ∷ []) ⟧)

    pub adds : (x : List E) (key : ℕ) (own : List E) (e : E) → ConcernsOne rule.concerns key e → MayFollow rule.holds rule.concerns x key own e
        → ⟦ Seen x ⟧ ∗ ⟦ Owns key own ⟧ ⊢ H.⇛ (ex 𝓤 (Added x key own e))
    unfolding owner_owns
    adds x key own e one may =
        let more : List E = own ++ e ∷ [] in let Hs : List E → Fml = Halves book.log_name names in
        let Q : List E → Assertion = λ next. guard 𝓤 (Adds x next e × (part rule.concerns key next ≡ more)) ⟦ Owns key more ⟧ in
        qed 𝓛 (‵ (Seen x) ∷ ‵ (Owns key own) ∷ []) ∵ updating ! $
        use2 𝓛 (later (some (λ (next : List E). given (IsPrefix x next × IsPrefix x next × rule.holds next) (‵ (Seen next) ⊛ given (Adds x next e × (part rule.concerns key next ≡ more)) (‵ (Owns key more))))))
        (stepped_alone x ⟦ Owns key own ⟧ Q (λ log so past.
        let next : List E = log ++ e ∷ [] in let Z : Assertion = ex 𝓤 (Turned Q log) in
        qed 𝓛 (‵ (Hs log) ∷ ‵ (Owns key own) ∷ []) ∵
        use2 𝓛 (given (part rule.concerns key log ≡ own) (‵ (Hs log) ⊛ ‵ (Owns key own))) (knows cv 𝓛 names 0 key key (λ k. part rule.concerns k log) own (omega arith)) $
        learn ! (λ same. split ! $ let told : part rule.concerns key next ≡ more = part_longer rule.concerns key log e one.0 ∙ ap (λ (xs : List E). xs ++ e ∷ []) same in
        use2 𝓛 (raw (upd 𝓤 (⟦ Hs next ⟧ ∗ ⟦ Owns key more ⟧)))
        (goes_on cv 𝓛 names 0 key key (λ k. part rule.concerns k log) (λ k. part rule.concerns k next) own more (omega arith) told
        (λ m not. part_same rule.concerns m log e (never_true (rule.concerns m e) (λ is. not (one.1 m is)))) (e ∷ [], refl)) $
        settle 𝓛 Z (‵ (Hs next) ⊛ ‵ (Owns key more)) $ split ! $ suffices ! _ (upd_i 𝓤 Z) $ show ! (Turned Q log) next $ check ! (may log so past same, (e ∷ [], refl)) $
        frame ! $ check ! ((log, past, refl), told) $ done !))) $
        await ! tt $ pick ! (λ next. learn ! (λ all. split ! $ move ! (1 ∷ []) $ learn ! (λ told. now ! $ show ! (Added x key own e) next $ check ! (told.0, all.2, told.1) $ move ! (1 ∷ 0 ∷ []) $ done !)))

    -- what is known of two owners and what they own, once an entry of both was added
    abbrev Both : List E → ℕ → List E → ℕ → List E → E → List E → Type 0
    Both x key own j other e next = Adds x next e × (part rule.concerns key next ≡ own ++ e ∷ []) × (part rule.concerns j next ≡ other ++ e ∷ [])

    abbrev pub AddedBoth : List E → ℕ → List E → ℕ → List E → E → List E → Assertion
    AddedBoth x key own j other e next = guard 𝓤 (rule.holds next × Both x key own j other e next) (⟦ Seen next ⟧ ∗ ⟦ Owns key (own ++ e ∷ []) ⟧ ∗ ⟦ Owns j (other ++ e ∷ []) ⟧)

    pub adds_both : (x : List E) (key : ℕ) (own : List E) (j : ℕ) (other : List E) (e : E) → j ≢ key → ConcernsTwo rule.concerns key j e
        → MayFollowBoth rule.holds rule.concerns x key own j other e → ⟦ Seen x ⟧ ∗ ⟦ Owns key own ⟧ ∗ ⟦ Owns j other ⟧ ⊢ H.⇛ (ex 𝓤 (AddedBoth x key own j other e))
    unfolding owner_owns
    adds_both x key own j other e apart two may =
        let more : List E = own ++ e ∷ [] in let others : List E = other ++ e ∷ [] in let Hs : List E → Fml = Halves book.log_name names in
        let Q : List E → Assertion = λ next. guard 𝓤 (Both x key own j other e next) (⟦ Owns key more ⟧ ∗ ⟦ Owns j others ⟧) in
        qed 𝓛 (‵ (Seen x) ∷ ‵ (Owns key own) ∷ ‵ (Owns j other) ∷ []) ∵ updating ! $
        use3 𝓛 (later (some (λ (next : List E). given (IsPrefix x next × IsPrefix x next × rule.holds next) (‵ (Seen next) ⊛ given (Both x key own j other e next) (‵ (Owns key more) ⊛ ‵ (Owns j others))))))
        (stepped_alone x (⟦ Owns key own ⟧ ∗ ⟦ Owns j other ⟧) Q (λ log so past.
        let next : List E = log ++ e ∷ [] in let Z : Assertion = ex 𝓤 (Turned Q log) in let before : ℕ → List E = λ k. part rule.concerns k log in
        qed 𝓛 (‵ (Hs log) ∷ ‵ (Owns key own) ∷ ‵ (Owns j other) ∷ []) ∵
        use2 𝓛 (given (part rule.concerns key log ≡ own) (‵ (Hs log) ⊛ ‵ (Owns key own))) (knows cv 𝓛 names 0 key key before own (omega arith)) $ learn ! (λ same. split ! $
        move ! (0 ∷ 2 ∷ []) $
        use2 𝓛 (given (part rule.concerns j log ≡ other) (‵ (Hs log) ⊛ ‵ (Owns j other))) (knows cv 𝓛 names 0 j j before other (omega arith)) $ learn ! (λ alike. split ! $
        move ! (0 ∷ 2 ∷ 1 ∷ []) $
        let told : part rule.concerns key next ≡ more = part_longer rule.concerns key log e two.0 ∙ ap (λ (xs : List E). xs ++ e ∷ []) same in
        let told_j : part rule.concerns j next ≡ others = part_longer rule.concerns j log e two.1 ∙ ap (λ (xs : List E). xs ++ e ∷ []) alike in
        use3 𝓛 (raw (upd 𝓤 (⟦ Hs next ⟧ ∗ ⟦ Owns key more ⟧ ∗ ⟦ Owns j others ⟧)))
        (both_go_on cv 𝓛 names key j before (λ k. part rule.concerns k next) own more other others apart told told_j
        (λ m not_key not_j. part_same rule.concerns m log e (never_true (rule.concerns m e) (λ is. neither m key j not_key not_j (two.2 m is)))) (e ∷ [], refl) (e ∷ [], refl)) $
        settle 𝓛 Z (‵ (Hs next) ⊛ ‵ (Owns key more) ⊛ ‵ (Owns j others)) $ split ! $ suffices ! _ (upd_i 𝓤 Z) $ show ! (Turned Q log) next $
        check ! (may log so past same alike, (e ∷ [], refl)) $ frame ! $ check ! ((log, past, refl), told, told_j) $ done !)))) $
        await ! tt $ pick ! (λ next. learn ! (λ all. split ! $ move ! (1 ∷ []) $ learn ! (λ told. split ! $ now ! $ show ! (AddedBoth x key own j other e) next $ check ! (all.2, told) $
        move ! (2 ∷ 0 ∷ 1 ∷ []) $ done !)))

    -- ---- rights
    pub takes : (k n : ℕ) → 0 < n → ⟦ rights_own cv.code book k n ⟧ ⊢ ⟦ Owns k [] ⟧ ∗ ⟦ rights_own cv.code book (k + 1) (n - 1) ⟧
    unfolding owner_owns rights_own
    takes k n some_left = one_off cv 𝓛 names k n some_left

    pub divides : (k count n : ℕ) → count ≤ n → ⟦ rights_own cv.code book k n ⟧ ⊢ ⟦ rights_own cv.code book k count ⟧ ∗ ⟦ rights_own cv.code book (k + count) (n - count) ⟧
    unfolding rights_own
    divides k count n enough = cut_off cv 𝓛 names k count n enough

  abbrev pub Opened : ℕ → Book → Assertion
  Opened n book = guard 𝓤 (length book.owner_names ≡ n) (⟦ seen_owns cv.code rule book [] ⟧ ∗ ⟦ rights_own cv.code book 0 n ⟧)

  -- a new history, with so many owners
  pub opens_new : (n : ℕ) → rule.holds [] → emp 𝓤 ⊢ H.⇛ (ex 𝓤 (Opened n))
  unfolding rights_own
  opens_new n so = qed 𝓛 [] ∵ updating ! $
      use0 𝓛 (later (some (λ (ns : List ℕ). given (length ns ≡ n) (‵ (kept_halves cv.code 0 ns (λ _. [])) ⊛ ‵ (halves_from cv.code ns 0 n))))) (via 𝓤 _ (dealt cv 𝓛 0 n) (basic 𝓛 _)) $
      await ! tt $ pick ! (λ ns. learn ! (λ many. split ! $
      use0 𝓛 (later (some (λ (name : ℕ). ‵ (Stands name ns [])))) (via 𝓤 _ (latest_new longer 𝓛 []) (basic 𝓛 _)) $ await ! tt $ pick ! (λ name.
      use1 𝓛 (‵ (Stands name ns []) ⊛ ‵ (Begins name ns [])) (shows name ns []) $ split ! $ move ! (0 ∷ 2 ∷ []) $
      use2 𝓛 (‵ (Kept name ns)) (shut name ns [] so) $
      use1 𝓛 (later (some (λ (number : ℕ). given (0 ≤ number) (‵ (fnamed number (Kept name ns)))))) (named_past 𝓛 0 (Kept name ns)) $ await ! tt $ pick ! (λ number. learn ! (λ _.
      let book : Book = record { number = number; log_name = name; owner_names = ns } in
      use2 𝓛 (‵ (seen_owns cv.code rule book [])) (made book []) $ now ! $ show ! (Opened n) book $ check ! many $ done !)))))
