-- A mailbox's log stays legal under what a client's call logs.
use Rattle.std.proofs.Common.{◌≡◌, true, false, ℕ, suc, ◌<◌, List, [], ◌∷◌, ◌++◌, AllPairs, Some, sym, ap, ◌∙◌, subst, refl, arith}
use Rattle.std.specs.List.Sorted.{IsStrictlyIncreasing}
use Rattle.std.proofs.lemmas.List.{append-nil}
use Rattle.std.proofs.lemmas.List.Kept.{AllPairs-from_increasing}
use Rattle.change_ring.specs.declared.change.Change.{Change}
use Rattle.change_ring.specs.Log.{FitsView, IsLegalLog, Row, added, rows_of}
use Rattle.change_ring.proofs.LogLaws.{FitsView-append, added-append, uids-rows_after}
use Rattle.mailbox.specs.Events.{in_set}
use Rattle.world.proofs.Base.{Rising, every_of_all}
use Rattle.world.proofs.Mails.{added_discards, added_flags, added_removals, discards_there, flags_there, removals_there, rows_rising, uids}
use Rattle.house_history.specs.declared.event.Step.{Step}
use Rattle.house_history.specs.declared.event.Step.TheVariants.{Read, Alter, Expunge, Leave, Discard}
use Rattle.house_history.specs.Events.{logged}

pub legal_empty_log : IsLegalLog []
legal_empty_log = record { rising = λ i less. absurd (omega (arith, less)); there = tt }

pub rising_of : {A : Type 0} (R : A → A → Type 0) (xs : List A) → AllPairs R xs → Rising R xs
rising_of R [] pairs = tt
rising_of R (x ∷ xs) pairs = (every_of_all (R x) xs (λ i d l. pairs 0 (suc i) d (omega arith) (omega (arith, l))), rising_of R xs (λ i j d l m. pairs (suc i) (suc j) d (omega (arith, l)) (omega (arith, m))))

rows_rise : (log : List Change) → IsLegalLog log → Rising (λ u v. u < v) (uids (rows_of log))
rows_rise log legal = rows_rising log (rising_of (λ u v. u < v) _ (AllPairs-from_increasing _ legal.rising))

pub added_logged : (s : Step) (rows : List Row) → added (logged s rows) ≡ []
added_logged (Read uid true) rows = added_flags rows uid _
added_logged (Read uid false) rows = refl
added_logged (Alter uid op) rows = added_flags rows uid op
added_logged (Expunge set) rows = added_removals (in_set set) rows
added_logged (Leave true) rows = added_removals (λ _. true) rows
added_logged (Leave false) rows = refl
added_logged (Discard uids) rows = added_discards (in_set (Some uids)) rows

logged_there : (s : Step) (rows : List Row) → Rising (λ u v. u < v) (uids rows) → FitsView (uids rows) (logged s rows)
logged_there (Read uid true) rows rise = flags_there rows uid _
logged_there (Read uid false) rows rise = tt
logged_there (Alter uid op) rows rise = flags_there rows uid op
logged_there (Expunge set) rows rise = removals_there (in_set set) rows rise
logged_there (Leave true) rows rise = removals_there (λ _. true) rows rise
logged_there (Leave false) rows rise = tt
logged_there (Discard uids) rows rise = discards_there (in_set (Some uids)) rows rise

legal_more : (log cs : List Change) → IsLegalLog log → FitsView (uids (rows_of log)) cs → added cs ≡ [] → IsLegalLog (log ++ cs)
legal_more log cs legal fits none = record {
  rising = subst IsStrictlyIncreasing (sym (added-append log cs ∙ (ap (λ (us : List ℕ). added log ++ us) none ∙ append-nil (added log)))) legal.rising;
  there = FitsView-append [] log cs legal.there (subst (λ (us : List ℕ). FitsView us cs) (uids-rows_after [] log) fits);
}

pub legal_logged : (s : Step) (log : List Change) → IsLegalLog log → IsLegalLog (log ++ logged s (rows_of log))
legal_logged s log legal = legal_more log (logged s (rows_of log)) legal (logged_there s (rows_of log) (rows_rise log legal)) (added_logged s (rows_of log))
