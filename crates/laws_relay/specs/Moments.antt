-- A dialogue during which shards are shut: the directory is the same but for its marks.
use Rattle.std.specs.Prelude.{Bool, List, [], ◌∷◌, ◌++◌, map}
use Rattle.envelope.specs.Names.{Directory, marked}
use Rattle.lmtp_machine.specs.Dialogue.{Standing, Setting, Submission, Event, Turn, on_event, turn}
use Rattle.laws_relay.specs.Fates.{MayHappen, ends_in}

-- an event, and which shards are shut when it happens
pub record Moment : Type 0 where
  pub shut : List Bool
  pub event : Event

abbrev pub events_of : List Moment → List Event
events_of moments = map (λ (m : Moment). m.event) moments

-- where they lead, with all that is said and submitted on the way
abbrev pub dialogue_over : Setting → Directory → Standing → List Moment → Turn
dialogue_over setting directory s [] = turn s.phase s.submitted []
dialogue_over setting directory s (moment ∷ moments) =
    let first = on_event setting (marked moment.shut directory) s moment.event in
    let others = dialogue_over setting directory first.standing moments in
    record {
      standing = others.standing;
      replies = first.replies ++ others.replies;
      submissions = first.submissions ++ others.submissions;
    }

-- what is submitted of each message whose end was heard
abbrev pub ends_over : Setting → Directory → Standing → List Moment → List (List Submission)
ends_over setting directory s [] = []
ends_over setting directory s (moment ∷ moments) =
    let first = on_event setting (marked moment.shut directory) s moment.event in
    ends_in s.phase moment.event first ++ ends_over setting directory first.standing moments

-- each of them may happen where those before it lead
abbrev pub EachMomentMayHappen : Setting → Directory → Standing → List Moment → Type 0
EachMomentMayHappen setting directory s [] = Unit {0}
EachMomentMayHappen setting directory s (moment ∷ moments) =
    MayHappen s.phase moment.event × EachMomentMayHappen setting directory
    (on_event setting (marked moment.shut directory) s moment.event).standing moments
