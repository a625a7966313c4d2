-- The UIDs that mailboxes gave are UIDs.
use Rattle.std.proofs.Common.{◌≡◌, ℕ, ◌<◌, ◌^◌, ◌==◌, Bool, true, false, List, [], ◌∷◌, ◌++◌, All, sym, subst}
use Rattle.std.specs.Prelude.{if◌then◌else◌}
use Rattle.std.proofs.lemmas.List.Elements.{All-append, All-head, All-nil, All-push, All-tail}
use Rattle.change_ring.specs.declared.change.Change.{Change}
use Rattle.change_ring.specs.Log.{added, rows_of}
use Rattle.change_ring.proofs.LogLaws.{added-append, arrival-added}
use Rattle.delivery_token.specs.declared.Job.{Job}
use Rattle.delivery_token.specs.declared.Verdict.{Verdict}
use Rattle.delivery_token.specs.declared.Verdict.TheVariants.{Stored, Refused}
use Rattle.house_history.specs.declared.event.Event.{Event}
use Rattle.house_history.specs.declared.event.Event.TheVariants.{Sent, Withdrawn, Judged, Changed}
use Rattle.house_history.specs.Events.{arrives, changes_from, changes_in, logged, more}
use Rattle.house_history.specs.Legal.{GivesUid, HasUid, Legal}
use Rattle.house_history.proofs.Logs.{added_logged}

abbrev Fits : ℕ → Type 0
Fits uid = uid < 2 ^ 32

none_fits : (us : List ℕ) → us ≡ [] → All Fits us
none_fits us is = subst (All Fits) (sym is) (All-nil Fits)

arrives_fits : (j : Job) (v : Verdict) → HasUid v → All Fits (added (arrives j v))
arrives_fits j (Stored uid) fits = subst (All Fits) (sym (arrival-added uid j.flags)) (All-push Fits [] uid (All-nil Fits) fits)
arrives_fits j (Refused why) fits = All-nil Fits

if_arrives : (b : Bool) (j : Job) (v : Verdict) → HasUid v → All Fits (added (if b then arrives j v else []))
if_arrives true j v fits = arrives_fits j v fits
if_arrives false j v fits = All-nil Fits

more_fits : (m : ℕ) (log : List Change) (e : Event) → GivesUid e → All Fits (added (more m log e))
more_fits m log (Sent j t) fits = All-nil Fits
more_fits m log (Withdrawn t) fits = All-nil Fits
more_fits m log (Judged j v t) fits = if_arrives (j.mailbox == m) j v fits
more_fits m log (Changed n s) fits = by (n == m)
  where
    by : (b : Bool) → All Fits (added (if b then logged s (rows_of log) else []))
    by true = none_fits _ (added_logged s (rows_of log))
    by false = All-nil Fits

from_fits : (m : ℕ) (log : List Change) (events : List Event) → All GivesUid events → All Fits (added log) → All Fits (added (changes_from m log events))
from_fits m log [] all fits = fits
from_fits m log (e ∷ events) all fits =
    from_fits m (log ++ more m log e) events (All-tail GivesUid e events all)
    (subst (All Fits) (sym (added-append log (more m log e))) (All-append Fits (added log) (added (more m log e)) fits (more_fits m log e (All-head GivesUid e events all))))

pub uids_fit : (history : List Event) (m : ℕ) → Legal history → All (λ (uid : ℕ). uid < 2 ^ 32) (added (changes_in m history))
uids_fit history m legal = from_fits m [] history legal.uids (All-nil Fits)
