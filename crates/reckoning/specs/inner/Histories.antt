-- What bodies and proofs say besides: the two halves of what is known of a producer.
use Rattle.std.specs.Prelude.{◌≡◌, List}
use mathlib.Core.List.{IsPrefix}
use Rattle.house_history.specs.declared.event.Event.{Event}
use Rattle.house_history.specs.Events.{sent_by}
use Rattle.lane_work.specs.declared.worker.Worked.{Worked}

abbrev pub IsKnown : {B : Type 0} → List Event → Worked B → Type 0
IsKnown history w = IsPrefix w.dispatch.history history

-- where the history has all that it knows, its seat has sent no more there
abbrev pub HasSentAll : {B : Type 0} → List Event → Worked B → Type 0
HasSentAll history w = IsPrefix w.dispatch.history history → sent_by w.dispatch.number history ≡ sent_by w.dispatch.number w.dispatch.history
