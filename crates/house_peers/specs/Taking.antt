-- What a connection's own steps promise: how far bytes were taken, and what stands afterwards.
use Rattle.std.specs.Prelude.{◌≡◌, ℕ, ◌+◌, ◌*◌, ◌++◌, true, List, [], length, Option}
use Rattle.delivery_token.specs.declared.CopyKey.{CopyKey}
use Rattle.delivery_token.specs.declared.Job.{Job}
use Rattle.delivery_token.specs.declared.Verdict.{Verdict}
use Rattle.delivery_token.specs.declared.log.Noted.{Noted}
use Rattle.lmtp_machine.specs.declared.commands.Stage.TheVariants as stages
use Rattle.delivery_token.specs.Copies as copies
use Rattle.delivery_token.specs.Copies.{put_effort}
use Rattle.delivery_token.specs.Verdicts as verdicts
use Rattle.delivery_token.specs.Verdicts.{Hears}
use Rattle.house_peers.specs.HouseConnection.{HouseConnection}
use Rattle.house_peers.specs.Caller.{copies_of, keys_of}

-- the copies of the message at hand that are still to be put
abbrev pub due : HouseConnection → List Job
due h = copies.due (copies_of h.machine.pending) h.verdicts

-- How much is left to do for a connection: a byte that waits may end the data of a message for 100 recipients.
abbrev pub line_effort : HouseConnection → ℕ
line_effort h = 501 * length h.waits + put_effort (due h)

-- the keys of the message at hand
abbrev pub awaited_keys : HouseConnection → List CopyKey
awaited_keys h = keys_of h.machine.pending

-- of the copies that were put, these are the verdicts
abbrev pub with_verdicts : List (Option Verdict) → HouseConnection → HouseConnection
with_verdicts slots h = record { serial = h.serial; gone = h.gone; machine = h.machine; waits = h.waits; unsaid = h.unsaid; verdicts = slots }

-- The verdict is noted at its position, where its copy is one of the message and was put, and nothing else is changed.
pub record HearsVerdict (h : HouseConnection) (r : Noted) (new : HouseConnection) : Type 0 where
  pub hears : Hears (awaited_keys h) h.verdicts r new.verdicts
  pub rest : new ≡ with_verdicts new.verdicts h

-- the peer is gone: what waited and what was still to be printed is dropped
abbrev pub with_nobody_there : HouseConnection → HouseConnection
with_nobody_there h = record { serial = h.serial; gone = true; machine = h.machine; waits = []; unsaid = []; verdicts = h.verdicts }

-- all that was said is printed
abbrev pub with_all_said : HouseConnection → HouseConnection
with_all_said h = record { serial = h.serial; gone = h.gone; machine = h.machine; waits = h.waits; unsaid = []; verdicts = h.verdicts }

-- these bytes came and wait
abbrev pub with_more : List ℕ → HouseConnection → HouseConnection
with_more piece h = record {
  serial = h.serial;
  gone = h.gone;
  machine = h.machine;
  waits = h.waits ++ piece;
  unsaid = h.unsaid;
  verdicts = h.verdicts;
}

-- the next copy was put, and this was heard of it at once
abbrev pub noted_put : Option Verdict → HouseConnection → HouseConnection
noted_put verdict h = with_verdicts (verdicts.noted_put verdict h.verdicts) h

-- every copy of the message was put, and these are the verdicts on them
abbrev pub AreKnown : HouseConnection → List Verdict → Type 0
AreKnown h vs = verdicts.AreKnown (length (awaited_keys h)) h.verdicts vs

-- there is nothing to be done: no verdict is awaited, no byte waits, and the dialogue goes on
pub record IsCalm (h : HouseConnection) : Type 0 where
  pub quiet : h.machine.pending ≡ []
  pub taken : h.waits ≡ []
  pub going : h.machine.commands.stage ≡ stages.Ended → ⊥

-- nor is there anything to be done while verdicts are awaited that aren't all known
pub record IsPatient (h : HouseConnection) : Type 0 where
  pub waits : length h.machine.pending ≡ 1
  pub unknown : (vs : List Verdict) → AreKnown h vs → ⊥

-- memory may be asked for only where there is something to be done
pub record HasWork (h : HouseConnection) : Type 0 where
  pub stirred : IsCalm h → ⊥
  pub heard : IsPatient h → ⊥
