-- What is known of each message, as messages come and go.
use Rattle.std.proofs.Common.{◌⊎◌, inl, inr, eq-eqb, ◌≡◌, ℕ, zero, suc, ◌+◌, ◌-◌, ◌<◌, Bool, true, false, ◌==◌, List, [], ◌∷◌, ◌++◌, length, Contains, ap, ◌∙◌, sym, refl, subst, arith}
use Rattle.std.specs.Prelude.{Option, None, Some}
use Rattle.laws_client.specs.Client.{Client, Messages, knowing}
use Rattle.std.proofs.lemmas.Bool.{false≢true, eqb-true, le-leb}
use Rattle.change_ring.specs.Log.{without}
use Rattle.change_ring.specs.View.{position}
use Rattle.cursor_set.proofs.Positions.{position_pos}
use Rattle.laws_client.specs.Client.{Known, unknown, exists}
use Rattle.laws_client.specs.Clients.{Each, IsRightBy}
use Rattle.laws_client.proofs.Reading.{more, expunged, fetched, put_first}

pub each_length : (P : ℕ → Known → Type 0) (view : List ℕ) (ms : List Known) → Each P view ms → length ms ≡ length view
each_length P [] [] h = refl
each_length P [] (m ∷ ms) h = absurd h
each_length P (u ∷ us) [] h = absurd h
each_length P (u ∷ us) (m ∷ ms) h = ap suc (each_length P us ms h.1)

pub each_more : (P : ℕ → Known → Type 0) (uid : ℕ) (view : List ℕ) (ms : List Known) → Each P view ms → P uid unknown → Each P (view ++ uid ∷ []) (ms ++ unknown ∷ [])
each_more P uid [] [] h new = (new, tt)
each_more P uid [] (m ∷ ms) h new = absurd h
each_more P uid (u ∷ us) [] h new = absurd h
each_more P uid (u ∷ us) (m ∷ ms) h new = (h.0, each_more P uid us ms h.1 new)

pub exists_one : (ms : List Known) → exists (length ms + 1) ms ≡ Some (ms ++ unknown ∷ [])
exists_one ms =
    let one : length ms + 1 - length ms ≡ 1 = omega arith in
    rw (le-leb (length ms) (length ms + 1) (omega arith)) (ap (λ (n : ℕ). Some (ms ++ more n)) one)

-- ---- at a message's position

-- the message is in the view
abbrev pub IsIn : ℕ → List ℕ → Type 0
IsIn uid [] = ⊥
IsIn uid (u ∷ us) = (u ≡ uid) ⊎ IsIn uid us

pub is_in : (uid : ℕ) (view : List ℕ) → Contains view uid → IsIn uid view
is_in uid [] (k, l, e) = absurd (omega arith)
is_in uid (u ∷ us) (zero, l, e) = inl e
is_in uid (u ∷ us) (suc k, l, e) = inr (is_in uid us (k, omega arith, e))

-- one has gone
pub record Went (P : ℕ → Known → Type 0) (uid : ℕ) (view : List ℕ) (ms : List Known) : Type 0 where
  pub left : List Known
  pub is : expunged (position uid view) ms ≡ Some left
  pub each : Each P (without uid view) left

expunged_next : (k : ℕ) (m : Known) (ms left : List Known) → 0 < k → expunged k ms ≡ Some left → expunged (k + 1) (m ∷ ms) ≡ Some (m ∷ left)
expunged_next zero m ms left h e = absurd (omega arith)
expunged_next (suc k) m ms left h e =
    let more : suc k + 1 ≡ suc (suc k) = omega arith in
    ap (λ (n : ℕ). expunged n (m ∷ ms)) more ∙ ap (put_first m) e

pub goes : (P : ℕ → Known → Type 0) (uid : ℕ) (view : List ℕ) (ms : List Known) → IsIn uid view → Each P view ms → Went P uid view ms
goes P uid [] ms is h = absurd is
goes P uid (u ∷ us) [] is h = absurd h
goes P uid (u ∷ us) (m ∷ ms) is h = by (u == uid) refl is (λ other. goes P uid us ms other h.1)
  where
    by : (t : Bool) → (u == uid) ≡ t → (u ≡ uid) ⊎ IsIn uid us → (IsIn uid us → Went P uid us ms) → Went P uid (u ∷ us) (m ∷ ms)
    by true e is behind = record { left = ms; is = rw e refl; each = rw e h.1 }
    by false e (inl same) behind = absurd (false≢true (sym e ∙ eq-eqb u uid same))
    by false e (inr other) behind =
        let w = behind other in
        record { left = m ∷ w.left; is = rw e (expunged_next (position uid us) m ms w.left (position_pos uid us) w.is); each = rw e (h.0, w.each) }

-- of one something was told
pub record WasTold (P Q : ℕ → Known → Type 0) (uid : ℕ) (told : Known → Known) (view : List ℕ) (ms : List Known) : Type 0 where
  pub now : List Known
  pub is : fetched (position uid view) told ms ≡ Some now
  pub each : Each Q view now

pub fetched_next : (k : ℕ) (told : Known → Known) (m : Known) (ms now : List Known) → 0 < k → fetched k told ms ≡ Some now → fetched (k + 1) told (m ∷ ms) ≡ Some (m ∷ now)
fetched_next zero told m ms now h e = absurd (omega arith)
fetched_next (suc k) told m ms now h e =
    let more : suc k + 1 ≡ suc (suc k) = omega arith in
    ap (λ (n : ℕ). fetched n told (m ∷ ms)) more ∙ ap (put_first m) e

pub each_weaker : (P Q : ℕ → Known → Type 0) → ((u : ℕ) (m : Known) → P u m → Q u m) → (view : List ℕ) (ms : List Known) → Each P view ms → Each Q view ms
each_weaker P Q f [] [] h = tt
each_weaker P Q f [] (m ∷ ms) h = absurd h
each_weaker P Q f (u ∷ us) [] h = absurd h
each_weaker P Q f (u ∷ us) (m ∷ ms) h = (f u m h.0, each_weaker P Q f us ms h.1)

pub is_told : (P : ℕ → Known → Type 0) (uid : ℕ) (told : Known → Known) → ((m : Known) → P uid m → P uid (told m))
    → (view : List ℕ) (ms : List Known) → IsIn uid view → Each P view ms → WasTold P P uid told view ms
is_told P uid told f [] ms is h = absurd is
is_told P uid told f (u ∷ us) [] is h = absurd h
is_told P uid told f (u ∷ us) (m ∷ ms) is h = by (u == uid) refl is (λ other. is_told P uid told f us ms other h.1)
  where
    by : (t : Bool) → (u == uid) ≡ t → (u ≡ uid) ⊎ IsIn uid us → (IsIn uid us → WasTold P P uid told us ms) → WasTold P P uid told (u ∷ us) (m ∷ ms)
    by true e is behind =
        let same : u ≡ uid = eqb-true u uid e in
        record { now = told m ∷ ms; is = rw e refl; each = (subst (λ (v : ℕ). P v (told m)) (sym same) (f m (subst (λ (v : ℕ). P v m) same h.0)), h.1) }
    by false e (inl same) behind = absurd (false≢true (sym e ∙ eq-eqb u uid same))
    by false e (inr other) behind =
        let w = behind other in
        record { now = m ∷ w.now; is = rw e (fetched_next (position uid us) told m ms w.now (position_pos uid us) w.is); each = (h.0, w.each) }

-- two things that are so of each message are so together
each_both : (P Q : ℕ → Known → Type 0) (view : List ℕ) (ms : List Known) → Each P view ms → Each Q view ms → Each (λ u m. P u m × Q u m) view ms
each_both P Q [] [] p q = tt
each_both P Q [] (m ∷ ms) p q = p
each_both P Q (u ∷ us) [] p q = p
each_both P Q (u ∷ us) (m ∷ ms) p q = ((p.0, q.0), each_both P Q us ms p.1 q.1)

abbrev the_list : List Known → Messages → List Known
the_list d None = d
the_list d (Some list) = list

pub right_both : (P Q : ℕ → Known → Type 0) (view : List ℕ) (client : Option Client) → IsRightBy P view client → IsRightBy Q view client → IsRightBy (λ u m. P u m × Q u m) view client
right_both P Q view None p q = tt
right_both P Q view (Some client) p q =
    let same : q.0 ≡ p.0 = ap (λ (c : Client). the_list p.0 c.messages) (sym q.1 ∙ p.1) in
    (p.0, p.1, each_both P Q view p.0 p.2 (subst (Each Q view) same q.2))
