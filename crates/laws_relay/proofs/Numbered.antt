-- The messages that were submitted, among those that were handed over.
use Rattle.std.proofs.Common.{◌≡◌, ℕ, zero, suc, ◌<◌, true, false, List, [], ◌∷◌, length, map, refl, ap, arith}
use Rattle.std.specs.Prelude.{slice_index_or}
use Rattle.std.proofs.lemmas.Bool.{false≢true}
use Rattle.envelope.specs.Names.{Directory}
use Rattle.laws_relay.specs.ReplyLaws.{is_stored}
use Rattle.laws_relay.specs.Handed.{Handed, no_message}
use Rattle.laws_relay.specs.Fates.{Fate, Judged, Awaited, TurnedAway, Unheard, HaveFates, IsSubmitted, all_submitted, all_told, awaited, judged, none, turned_away, unheard, was_stored}
use Rattle.laws_relay.specs.Numbers.{MessagesAreNumbered, no_submission, number_of, was_submitted}

of_message : (host : List ℕ) (directory : Directory) {messages : List Handed} {fates : List Fate} → HaveFates host directory messages fates
    → (k : ℕ) → was_submitted (slice_index_or fates k Unheard) ≡ true
    → (number_of fates k < length (all_submitted fates)) × IsSubmitted directory (slice_index_or messages k no_message) (slice_index_or (all_submitted fates) (number_of fates k) no_submission)
of_message host directory none k e = absurd (false≢true e)
of_message host directory (judged message submission verdicts is many r h) zero e = (omega arith, is)
of_message host directory (judged {fates = fates} message submission verdicts is many r h) (suc k) e =
    let o = of_message host directory h k e in
    let n : number_of fates k < length (all_submitted fates) = o.0 in (omega (arith, n), o.1)
of_message host directory (turned_away message many r h) zero e = absurd (false≢true e)
of_message host directory (turned_away message many r h) (suc k) e = of_message host directory h k e
of_message host directory (awaited message submission is r) zero e = (omega arith, is)
of_message host directory (awaited message submission is r) (suc k) e = absurd (false≢true e)
of_message host directory (unheard message r) zero e = absurd (false≢true e)
of_message host directory (unheard message r) (suc k) e = absurd (false≢true e)

of_verdicts : (host : List ℕ) (directory : Directory) {messages : List Handed} {fates : List Fate} → HaveFates host directory messages fates
    → (k i : ℕ) → was_submitted (slice_index_or fates k Unheard) ≡ true
    → was_stored (slice_index_or fates k Unheard) i ≡ slice_index_or (map is_stored (slice_index_or (all_told fates) (number_of fates k) [])) i false
of_verdicts host directory none k i e = absurd (false≢true e)
of_verdicts host directory (judged message submission verdicts is many r h) zero i e = refl
of_verdicts host directory (judged message submission verdicts is many r h) (suc k) i e = of_verdicts host directory h k i e
of_verdicts host directory (turned_away message many r h) zero i e = absurd (false≢true e)
of_verdicts host directory (turned_away message many r h) (suc k) i e = of_verdicts host directory h k i e
of_verdicts host directory (awaited message submission is r) zero i e = refl
of_verdicts host directory (awaited message submission is r) (suc k) i e = absurd (false≢true e)
of_verdicts host directory (unheard message r) zero i e = absurd (false≢true e)
of_verdicts host directory (unheard message r) (suc k) i e = absurd (false≢true e)

numbers_rise : (fates : List Fate) (k m : ℕ) → k < m → was_submitted (slice_index_or fates k Unheard) ≡ true → number_of fates k < number_of fates m
numbers_rise fates k zero h e = absurd (omega (arith, h))
numbers_rise [] k (suc m) h e = absurd (false≢true e)
numbers_rise (Judged submission verdicts ∷ fates) zero (suc m) h e = omega arith
numbers_rise (Judged submission verdicts ∷ fates) (suc k) (suc m) h e =
    let n : number_of fates k < number_of fates m = numbers_rise fates k m (omega (arith, h)) e in omega (arith, n)
numbers_rise (Awaited submission ∷ fates) zero (suc m) h e = omega arith
numbers_rise (Awaited submission ∷ fates) (suc k) (suc m) h e =
    let n : number_of fates k < number_of fates m = numbers_rise fates k m (omega (arith, h)) e in omega (arith, n)
numbers_rise (TurnedAway ∷ fates) zero (suc m) h e = absurd (false≢true e)
numbers_rise (TurnedAway ∷ fates) (suc k) (suc m) h e = numbers_rise fates k m (omega (arith, h)) e
numbers_rise (Unheard ∷ fates) zero (suc m) h e = absurd (false≢true e)
numbers_rise (Unheard ∷ fates) (suc k) (suc m) h e = numbers_rise fates k m (omega (arith, h)) e

abbrev PositionOf : List Handed → List Fate → ℕ → Type 0
PositionOf messages fates n = (k : ℕ) × (k < length messages) × (was_submitted (slice_index_or fates k Unheard) ≡ true) × (number_of fates k ≡ n)

one_on : (message : Handed) (fate : Fate) (messages : List Handed) (fates : List Fate) (n m : ℕ) → PositionOf messages fates n → ((k : ℕ) → number_of fates k ≡ n → number_of (fate ∷ fates) (suc k) ≡ m)
    → PositionOf (message ∷ messages) (fate ∷ fates) m
one_on message fate messages fates n m p next = let within : p.0 < length messages = p.1 in (suc p.0, omega (arith, within), p.2, next p.0 p.3)

each_number : (host : List ℕ) (directory : Directory) {messages : List Handed} {fates : List Fate} → HaveFates host directory messages fates → (n : ℕ) → n < length (all_submitted fates)
    → PositionOf messages fates n
each_number host directory none n h = absurd (omega (arith, h))
each_number host directory (judged message submission verdicts is many r f) zero h = (0, omega arith, refl, refl)
each_number host directory (judged {messages = messages} {fates = fates} message submission verdicts is many r f) (suc n) h =
    one_on message (Judged submission verdicts) messages fates n (suc n) (each_number host directory f n (omega (arith, h))) (λ k e. ap suc e)
each_number host directory (turned_away {messages = messages} {fates = fates} message many r f) n h = one_on message TurnedAway messages fates n n (each_number host directory f n h) (λ k e. e)
each_number host directory (awaited message submission is r) zero h = (0, omega arith, refl, refl)
each_number host directory (awaited message submission is r) (suc n) h = absurd (omega (arith, h))
each_number host directory (unheard message r) n h = absurd (omega (arith, h))

pub messages_are_numbered : MessagesAreNumbered
messages_are_numbered host directory messages fates h = record {
  of_message = of_message host directory h;
  of_verdicts = of_verdicts host directory h;
  rises = numbers_rise fates;
  each = each_number host directory h;
}
