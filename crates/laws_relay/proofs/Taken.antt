-- Whose code is 250.
use Rattle.std.proofs.Common.{◌≡◌, ℕ, zero, suc, ◌<◌, Bool, true, false, List, [], ◌∷◌, length, map, take, refl, ap, ◌∙◌, arith}
use Rattle.std.specs.Prelude.{codes, not, ◌&&◌, slice_index_or}
use Rattle.std.specs.List.{list_all}
use Rattle.std.specs.Str.{bytes_eq}
use Rattle.std.proofs.lemmas.Slice.Eq.{bytes_eq-Decides}
use Rattle.delivery_token.specs.declared.Verdict.{Verdict}
use Rattle.delivery_token.specs.declared.Verdict.TheVariants.{Stored, Refused}
use Rattle.delivery_token.specs.declared.Refusal.TheVariants.{Full, MailboxFull, NoMemory, Shut, UidSpent}
use Rattle.envelope.specs.Names.{Directory}
use Rattle.lmtp_machine.specs.Dialogue.{verdict_reply}
use Rattle.laws_relay.specs.Handed.{is_code, Handed, is_taken, no_message}
use Rattle.laws_relay.specs.ReplyLaws.{DeliveredAloneIsTaken, is_stored, last_line}
use Rattle.laws_relay.specs.Conclusions.{TakenAreStored}
use Rattle.laws_relay.specs.Fates.{Fate, Unheard, AreFarewells, AreRefusals, HaveFates, awaited, judged, none, turned_away, unheard, was_stored}

pub delivered_alone : DeliveredAloneIsTaken
delivered_alone host (Stored uid) = refl
delivered_alone host (Refused Full) = refl
delivered_alone host (Refused MailboxFull) = refl
delivered_alone host (Refused NoMemory) = refl
delivered_alone host (Refused UidSpent) = refl
delivered_alone host (Refused Shut) = refl

-- ---- of each message

verdict_at : (host : List ℕ) (verdicts : List Verdict) (i : ℕ)
    → is_code (codes "250") (slice_index_or (map (last_line host) (map verdict_reply verdicts)) i []) ≡ slice_index_or (map is_stored verdicts) i false
verdict_at host [] i = refl
verdict_at host (verdict ∷ verdicts) zero = delivered_alone host verdict
verdict_at host (verdict ∷ verdicts) (suc i) = verdict_at host verdicts i

not_true : (a b : Bool) → (not a && b) ≡ true → (a ≡ false) × (b ≡ true)
not_true true b e = absurd cc
not_true false b e = (refl, e)

refused_at : (replies : List (List ℕ)) (i : ℕ) → AreRefusals replies → is_code (codes "250") (slice_index_or replies i []) ≡ false
refused_at [] i h = refl
refused_at (reply ∷ replies) zero h = (not_true (is_code (codes "250") reply) (list_all (λ r. not (is_code (codes "250") r)) replies) h).0
refused_at (reply ∷ replies) (suc i) h = refused_at replies i (not_true (is_code (codes "250") reply) (list_all (λ r. not (is_code (codes "250") r)) replies) h).1

farewell_is : (reply : List ℕ) → is_code (codes "421") reply ≡ true → is_code (codes "250") reply ≡ false
farewell_is reply e = ap (λ (l : List ℕ). bytes_eq l (codes "250")) ((bytes_eq-Decides (take 3 reply) (codes "421")).0 e)

both_true : (a b : Bool) → (a && b) ≡ true → (a ≡ true) × (b ≡ true)
both_true true b e = (refl, e)
both_true false b e = absurd cc

farewell_at : (replies : List (List ℕ)) (i : ℕ) → AreFarewells replies → is_code (codes "250") (slice_index_or replies i []) ≡ false
farewell_at [] i h = refl
farewell_at (reply ∷ replies) zero h = farewell_is reply (both_true (is_code (codes "421") reply) (list_all (is_code (codes "421")) replies) h).0
farewell_at (reply ∷ replies) (suc i) h = farewell_at replies i (both_true (is_code (codes "421") reply) (list_all (is_code (codes "421")) replies) h).1

of_fates : (host : List ℕ) (directory : Directory) {messages : List Handed} {fates : List Fate} → HaveFates host directory messages fates
    → (k i : ℕ) → is_taken (slice_index_or messages k no_message) i ≡ was_stored (slice_index_or fates k Unheard) i
of_fates host directory none k i = refl
of_fates host directory (judged message submission verdicts is many e h) zero i = ap (λ (rs : List (List ℕ)). is_code (codes "250") (slice_index_or rs i [])) e ∙ verdict_at host verdicts i
of_fates host directory (judged message submission verdicts is many e h) (suc k) i = of_fates host directory h k i
of_fates host directory (turned_away message many r h) zero i = refused_at message.replies i r
of_fates host directory (turned_away message many r h) (suc k) i = of_fates host directory h k i
of_fates host directory (awaited message submission is e) zero i = ap (λ (rs : List (List ℕ)). is_code (codes "250") (slice_index_or rs i [])) e
of_fates host directory (awaited message submission is e) (suc k) i = refl
of_fates host directory (unheard message r) zero i = farewell_at message.replies i r
of_fates host directory (unheard message r) (suc k) i = refl

pub taken_are_stored : TakenAreStored
taken_are_stored host directory messages fates h = of_fates host directory h

-- a reply that is 250 was read
pub taken_within : (replies : List (List ℕ)) (i : ℕ) → is_code (codes "250") (slice_index_or replies i []) ≡ true → i < length replies
taken_within [] i e = absurd (let k : false ≡ true = e in cc)
taken_within (reply ∷ replies) zero e = omega arith
taken_within (reply ∷ replies) (suc i) e = let k : i < length replies = taken_within replies i e in omega (arith, k)
