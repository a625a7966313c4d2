-- What a server's promise to a relay lets pass: one connection, what was replied there, and what its history has of it. `ServedRefuted` has one thing wrong at a time.
use Rattle.std.proofs.Common.{◌≡◌, ℕ, zero, suc, Bool, List, [], ◌∷◌, refl, Some, None, ap, ◌∙◌, if◌then◌else◌, arith}
use Rattle.std.specs.List.{cons_option}
use Rattle.delivery_token.specs.declared.CopyKey.{CopyKey}
use Rattle.delivery_token.specs.declared.Job.{Job}
use Rattle.delivery_token.specs.declared.Refusal.{Refusal}
use Rattle.delivery_token.specs.declared.Verdict.TheVariants.{Stored, Refused}
use Rattle.house_history.specs.declared.event.Event.{Event}
use Rattle.house_history.specs.declared.event.Event.TheVariants.{Sent, Judged}
use Rattle.house_history.specs.Legal.{Stands}
use Rattle.laws_relay.specs.Concludes.{Concludes, of_history}
use Rattle.laws_relay.specs.rows.HandedRows.{home}
use Rattle.laws_relay.specs.rows.AccountRows.{for_alice}
use Rattle.laws_relay.proofs.ConcludesHolds.{HersStands, bobs, hers, it_concludes as hers_concludes, told}

-- hers was stored, and his refused
abbrev pub as_told : Refusal → List Event
as_told why = Sent hers 5 ∷ Sent bobs 6 ∷ Judged bobs (Refused why) 6 ∷ Judged hers (Stored 7) 5 ∷ []

abbrev pub job_in : Event → Job
job_in (Judged job verdict ticket) = job
job_in event = hers

only_hers : (why : Refusal) (copy : Job) (uid : ℕ) → Stands (as_told why) copy uid → hers ≡ copy
only_hers why copy uid (ticket, (zero, l, e)) = absurd cc
only_hers why copy uid (ticket, (suc zero, l, e)) = absurd cc
only_hers why copy uid (ticket, (suc (suc zero), l, e)) = absurd cc
only_hers why copy uid (ticket, (suc (suc (suc zero)), l, e)) = ap job_in e
only_hers why copy uid (ticket, (suc (suc (suc (suc k))), l, e)) = absurd (omega (arith, l))

hers_stands : (why : Refusal) → HersStands (of_history (as_told why))
hers_stands why = record {
  stands = (refl, (5, (3, omega arith, refl)));
  only = λ mailbox copy uid stands. let is = only_hers why copy uid stands.1 in (ap (λ (c : Job). c.mailbox) is ∙ stands.0, is);
  here = refl;
  elsewhere = λ mailbox other. ap (λ (b : Bool). cons_option {X = CopyKey × ℕ} (if b then Some (for_alice, 7) else None) []) other;
}

it_concludes : (why : Refusal) → Concludes home (of_history (as_told why)) 2 4 told told
it_concludes why = hers_concludes (of_history (as_told why)) (hers_stands why)
