-- A seat: the connection that stands there, and all that stood there before.
use Rattle.std.proofs.Common.{◌≡◌, ◌≢◌, ℕ, ◌+◌, ◌<◌, ◌≤◌, ◌⊎◌, inl, inr, true, false, eqb, List, [], refl, ap, sym, subst, ◌∙◌, arith, Option, Some, None}
use Rattle.std.specs.Prelude.{Contains}
use Rattle.std.proofs.lemmas.Bool.{cases_lt}
use Rattle.std.proofs.lemmas.Bool.Decides.{eqb_tells}
use Rattle.delivery_token.specs.declared.Job.{Job}
use Rattle.delivery_token.specs.declared.log.Noted.{Noted}
use Rattle.shard_queue.specs.declared.lane.Entry.{Entry}
use Rattle.world.proofs.Base.{Every}
use Rattle.house_peers.specs.Caller.{Caller, Terms}
use Rattle.house.specs.Setup.{Setup}
use Rattle.laws_relay.proofs.Printed.{HasEnded, Past, WentOn}
use Rattle.laws_relay.proofs.Seated.{IsKnown, IsOneOf, SentGrows, known_grows}

-- the terms on which a house serves its connections, with no shard shut
abbrev pub own_terms : Setup → Terms
own_terms k = record { directory = k.directory; host = k.host; max_message = k.max_message }

-- of a connection that isn't opened yet
abbrev pub no_past : Past
no_past = record { came = []; told = []; gone = false }

-- what is known of the connection of a serial that stands there no more, as it was last
pub record WasKnown (k : Setup) (seat : ℕ) (heard : List Noted) (sent : ℕ → List (Entry Job)) (serial : ℕ) (past : Past) : Type 0 where
  pub last : Caller
  pub serial_is : last.serial ≡ serial
  pub known : IsKnown (own_terms k) seat heard sent past.came past.told last
  pub gone_is : last.gone ≡ past.gone
  pub ended : HasEnded last

abbrev pub ArePast : Setup → ℕ → List Noted → (ℕ → List (Entry Job)) → (ℕ → Past) → ℕ → Type 0
ArePast k seat heard sent pasts limit = (n : ℕ) → n < limit → WasKnown k seat heard sent n (pasts n)

abbrev pub StandsThere : Setup → ℕ → List Noted → (ℕ → List (Entry Job)) → (next : ℕ) → (ℕ → Past) → Option Caller → Type 0
StandsThere k seat heard sent next pasts None = ArePast k seat heard sent pasts next
StandsThere k seat heard sent next pasts (Some b) =
    (next ≡ b.serial + 1) × IsKnown (own_terms k) seat heard sent (pasts b.serial).came (pasts b.serial).told b × (b.gone ≡ (pasts b.serial).gone) × ArePast k seat heard sent pasts b.serial

abbrev pub IsNew : (ℕ → List (Entry Job)) → (ℕ → Past) → ℕ → Type 0
IsNew sent pasts n = (pasts n ≡ no_past) × ((t : ℕ) → Every (IsOneOf n []) (sent t))

pub record SeatKnown (k : Setup) (seat : ℕ) (heard : List Noted) (sent : ℕ → List (Entry Job)) (next : ℕ) (pasts : ℕ → Past) (o : Option Caller) : Type 0 where
  pub there : StandsThere k seat heard sent next pasts o
  pub later : (n : ℕ) → next ≤ n → IsNew sent pasts n

-- ---- what goes on elsewhere

was_grows : (k : Setup) (seat : ℕ) (heard more : List Noted) (sent later : ℕ → List (Entry Job)) (n : ℕ) (past now : Past) → ((r : Noted) → Contains heard r → Contains more r)
    → SentGrows n sent later → now ≡ past → WasKnown k seat heard sent n past → WasKnown k seat more later n now
was_grows k seat heard more sent later n past now grows puts e h =
    let known = known_grows (own_terms k) seat heard more sent later past.came past.told h.last grows (subst (λ (x : ℕ). SentGrows x sent later) (sym h.serial_is) puts) h.known in
    let was : WasKnown k seat more later n past = record { last = h.last; serial_is = h.serial_is; known = known; gone_is = h.gone_is; ended = h.ended } in
    subst (WasKnown k seat more later n) (sym e) was

past_grows : (k : Setup) (seat : ℕ) (heard more : List Noted) (sent later : ℕ → List (Entry Job)) (pasts now : ℕ → Past) (limit : ℕ) → ((r : Noted) → Contains heard r → Contains more r)
    → ((n : ℕ) → n < limit → SentGrows n sent later) → ((n : ℕ) → n < limit → now n ≡ pasts n) → ArePast k seat heard sent pasts limit → ArePast k seat more later now limit
past_grows k seat heard more sent later pasts now limit grows puts same h n l = was_grows k seat heard more sent later n (pasts n) (now n) grows (puts n l) (same n l) (h n l)

new_stays : (sent later : ℕ → List (Entry Job)) (pasts now : ℕ → Past) (n : ℕ) → SentGrows n sent later → now n ≡ pasts n → IsNew sent pasts n → IsNew later now n
new_stays sent later pasts now n puts e h = (e ∙ h.0, λ t. puts [] t (h.1 t))

-- nobody does anything at the seat
pub seat_stays : (k : Setup) (seat : ℕ) (heard more : List Noted) (sent later : ℕ → List (Entry Job)) (next : ℕ) (pasts now : ℕ → Past) (o : Option Caller)
    → ((r : Noted) → Contains heard r → Contains more r) → ((n : ℕ) → SentGrows n sent later) → ((n : ℕ) → now n ≡ pasts n)
    → SeatKnown k seat heard sent next pasts o → SeatKnown k seat more later next now o
seat_stays k seat heard more sent later next pasts now o grows puts e h = record { there = by o h.there; later = λ n l. new_stays sent later pasts now n (puts n) (e n) (h.later n l) }
  where
    by : (p : Option Caller) → StandsThere k seat heard sent next pasts p → StandsThere k seat more later next now p
    by None there = past_grows k seat heard more sent later pasts now next grows (λ n l. puts n) (λ n l. e n) there
    by (Some b) there =
        let same : pasts b.serial ≡ now b.serial = sym (e b.serial) in
        let known = known_grows (own_terms k) seat heard more sent later (pasts b.serial).came (pasts b.serial).told b grows (puts b.serial) there.1 in (
          there.0,
          subst (λ (x : Past). IsKnown (own_terms k) seat more later x.came x.told b) same known,
          subst (λ (x : Past). b.gone ≡ x.gone) same there.2,
          past_grows k seat heard more sent later pasts now b.serial grows (λ n l. puts n) (λ n l. e n) there.3,
        )

-- ---- what a connection does

-- the connection of this serial, the last that was opened there, went on
pub seat_went : (k : Setup) (seat : ℕ) (heard more : List Noted) (sent later : ℕ → List (Entry Job)) (next : ℕ) (pasts now : ℕ → Past) (o : Option Caller) (serial : ℕ)
    → ((r : Noted) → Contains heard r → Contains more r) → ((n : ℕ) → n ≢ serial → SentGrows n sent later) → ((n : ℕ) → n ≢ serial → now n ≡ pasts n) → next ≡ serial + 1
    → ArePast k seat heard sent pasts serial → ((n : ℕ) → serial + 1 ≤ n → IsNew sent pasts n) → WentOn (own_terms k) seat more later (now serial) serial o
    → SeatKnown k seat more later next now o
seat_went k seat heard more sent later next pasts now o serial grows puts same next_is past new went = record { there = there; later = after }
  where
    before : (n : ℕ) → n < serial → n ≢ serial
    before n l e = absurd (omega (arith, l, e))

    behind : (n : ℕ) → serial + 1 ≤ n → n ≢ serial
    behind n l e = absurd (omega (arith, l, e))

    earlier : ArePast k seat more later now serial
    earlier = past_grows k seat heard more sent later pasts now serial grows (λ n l. puts n (before n l)) (λ n l. same n (before n l)) past

    upto : HasEnded went.last → (n : ℕ) → n < next → WasKnown k seat more later n (now n)
    upto ended n l = by (eqb_tells n serial)
      where
        itself : WasKnown k seat more later serial (now serial)
        itself = record { last = went.last; serial_is = went.serial_is; known = went.known; gone_is = went.gone_is; ended = ended }

        below : n ≢ serial → (n < serial) ⊎ (serial ≤ n) → n < serial
        below d (inl x) = x
        below d (inr x) = absurd (d (omega (arith, l, next_is, x)))

        by : ((eqb n serial ≡ true) × (n ≡ serial)) ⊎ ((eqb n serial ≡ false) × (n ≢ serial)) → WasKnown k seat more later n (now n)
        by (inl (t, e)) = subst (λ (x : ℕ). WasKnown k seat more later x (now x)) (sym e) itself
        by (inr (t, d)) = earlier n (below d (cases_lt n serial))

    there : StandsThere k seat more later next now o
    there = by went.here
      where
        by : ((o ≡ None) × HasEnded went.last) ⊎ (o ≡ Some went.last) → StandsThere k seat more later next now o
        by (inl (e, ended)) = subst (StandsThere k seat more later next now) (sym e) (upto ended)
        by (inr e) = subst (StandsThere k seat more later next now) (sym e) (
          next_is ∙ ap (λ (x : ℕ). x + 1) (sym went.serial_is),
          subst (λ (x : ℕ). IsKnown (own_terms k) seat more later (now x).came (now x).told went.last) (sym went.serial_is) went.known,
          subst (λ (x : ℕ). went.last.gone ≡ (now x).gone) (sym went.serial_is) went.gone_is,
          subst (ArePast k seat more later now) (sym went.serial_is) earlier,
        )

    after : (n : ℕ) → next ≤ n → IsNew later now n
    after n l =
        let m : serial + 1 ≤ n = omega (arith, l, next_is) in
        new_stays sent later pasts now n (puts n (behind n m)) (same n (behind n m)) (new n m)

-- ---- who stood there

abbrev the_caller : Caller → Option Caller → Caller
the_caller d None = d
the_caller d (Some c) = c

-- of a connection that was opened: as it is, or was last. Where its peer was never gone, it awaits nothing and has nothing to print, unless it stands there
pub record Opened (k : Setup) (seat : ℕ) (heard : List Noted) (sent : ℕ → List (Entry Job)) (serial : ℕ) (past : Past) (o : Option Caller) : Type 0 where
  pub last : Caller
  pub serial_is : last.serial ≡ serial
  pub known : IsKnown (own_terms k) seat heard sent past.came past.told last
  pub gone_is : last.gone ≡ past.gone
  pub ended : HasEnded last ⊎ (o ≡ Some last)
  pub only : (b : Caller) → o ≡ Some b → b.serial ≡ serial → b ≡ last

pub opened_below : (k : Setup) (seat : ℕ) (heard : List Noted) (sent : ℕ → List (Entry Job)) (next : ℕ) (pasts : ℕ → Past) (o : Option Caller) → SeatKnown k seat heard sent next pasts o
    → (n : ℕ) → n < next → Opened k seat heard sent n (pasts n) o
opened_below k seat heard sent next pasts o h = by o h.there
  where
    was : (p : Option Caller) (n : ℕ) → ((b : Caller) → p ≡ Some b → b.serial ≡ n → ⊥) → WasKnown k seat heard sent n (pasts n) → Opened k seat heard sent n (pasts n) p
    was p n other w = record { last = w.last; serial_is = w.serial_is; known = w.known; gone_is = w.gone_is; ended = inl w.ended; only = λ b e s. absurd (other b e s) }

    by : (p : Option Caller) → StandsThere k seat heard sent next pasts p → (n : ℕ) → n < next → Opened k seat heard sent n (pasts n) p
    by None there n l = was None n (λ b e s. cc) (there n l)
    by (Some b) there n l = each (eqb_tells n b.serial)
      where
        below : n ≢ b.serial → (n < b.serial) ⊎ (b.serial ≤ n) → n < b.serial
        below d (inl x) = x
        below d (inr x) = let e : next ≡ b.serial + 1 = there.0 in absurd (d (omega (arith, l, e, x)))

        each : ((eqb n b.serial ≡ true) × (n ≡ b.serial)) ⊎ ((eqb n b.serial ≡ false) × (n ≢ b.serial)) → Opened k seat heard sent n (pasts n) (Some b)
        each (inl (t, e)) = subst (λ (x : ℕ). Opened k seat heard sent x (pasts x) (Some b)) (sym e) (record { last = b; serial_is = refl; known = there.1; gone_is = there.2; ended = inr refl; only = λ c same s. sym (ap (the_caller b) same) })
        each (inr (t, d)) = was (Some b) n (λ c same s. d (sym s ∙ sym (ap (λ (x : Option Caller). (the_caller b x).serial) same))) (there.3 n (below d (cases_lt n b.serial)))
