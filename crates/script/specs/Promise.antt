-- What a run of a script promises of all that it wrote: exactly-once delivery.
use Rattle.std.specs.Prelude.{◌≡◌, ℕ, ◌<◌, ◌≤◌, All, AllPairs, List, [], ◌∷◌, ◌++◌, codes, filter_map, flat_map, length, take, Option, Some, None, decimal}
use Rattle.std.specs.Io.KnownBytes.{Appends}
use Rattle.envelope.specs.Names.{number_of}
use Rattle.world.specs.World.{Box, Event, IsWorld}
use Rattle.world.specs.Law.{Headline}
use Rattle.house.specs.Setup.{Setup}
use Rattle.exactly_once.specs.Promise.{Entry, IsEntry, TellsOnce, text_of}
use Rattle.house.specs.Scene.{Scene, empty_scene}
use Rattle.house.specs.Window.{window_text}

-- how a script tells of a line that can't be done
abbrev pub refusal : (number : ℕ) → (why : List ℕ) → List ℕ
refusal number why = codes "? " ++ decimal number ++ codes " " ++ why ++ 10 ∷ []

-- why it can't be done
pub data Why : Type 0 where
  Line : Why
  Nobody : Why
  Busy : Why

abbrev pub word_of : Why → List ℕ
word_of Line = codes "Line"
word_of Nobody = codes "Nobody"
word_of Busy = codes "Busy"

-- what a script prints at a time: at an event of the house, or in words of its own: that a line can't be done, or the window of a mailbox
pub data Part : Type 0 where
  OfHouse : Entry → Part
  Refusal : (number : ℕ) → Why → Part
  Window : (word : List ℕ) → Box → Part

abbrev pub text_of_part : Setup → Part → List ℕ
text_of_part k (OfHouse entry) = text_of k entry.piece
text_of_part k (Refusal number why) = refusal number (word_of why)
text_of_part k (Window word box) = window_text word box

-- What a part is, from the scene before it: an entry of the house's record, any refusal, or the window of the mailbox that the word names, as it is
-- there.
abbrev pub IsPartFrom : Setup → Scene → Part → Type 0
IsPartFrom k s (OfHouse entry) = IsEntry k s entry
IsPartFrom k s (Refusal number why) = Unit {0}
IsPartFrom k s (Window word box) = (m : ℕ) × (number_of k.directory word ≡ Some m) × (box ≡ s.world.box m)

-- only the house's events change the scene
abbrev pub scene_after : Scene → Part → Scene
scene_after s (OfHouse entry) = entry.after
scene_after s part = s

-- The parts lead from the one scene to the other, one after another.
abbrev pub AreParts : Setup → List Part → Scene → Scene → Type 0
AreParts k [] s t = t ≡ s
AreParts k (part ∷ parts) s t = IsPartFrom k s part × AreParts k parts (scene_after s part) t

-- the house's record among them
abbrev pub entry_in : Part → Option Entry
entry_in (OfHouse entry) = Some entry
entry_in part = None

abbrev pub entries_of : List Part → List Entry
entries_of parts = filter_map entry_in parts

-- the lines that were refused
abbrev pub refused_in : Part → Option ℕ
refused_in (Refusal number why) = Some number
refused_in part = None

abbrev pub refusals_of : List Part → List ℕ
refusals_of parts = filter_map refused_in parts

-- Exactly-once delivery, of all that a script of so many lines printed and of what it led to.
pub record DeliversOnce (k : Setup) (count : ℕ) (after : Scene) (printed : List ℕ) : Type 0 where
  -- what was printed, part by part
  pub parts : List Part
  pub leads : AreParts k parts (empty_scene k) after
  pub whole : printed ≡ flat_map (text_of_part k) parts
  -- each refusal is of another of the lines, in their order
  pub in_turn : AllPairs (λ a b. a < b) (refusals_of parts)
  pub of_lines : All (λ number. (0 < number) × (number ≤ count)) (refusals_of parts)
  -- the world came from the empty one by these steps, so each promise of every world holds of it
  pub steps : List Event
  pub came : IsWorld k.config steps after.world
  pub world : Headline k.config after.world
  pub told : TellsOnce after.world (entries_of parts)

-- Of what a script wrote as text: the lines that were played printed what delivers exactly once, and what was written is a beginning of that.
pub record DeliveredOnce (k : Setup) (old new : Option (List ℕ)) : Type 0 where
  -- so many lines were played
  pub count : ℕ
  pub after : Scene
  pub printed : List ℕ
  pub once : DeliversOnce k count after printed
  pub sent : ℕ
  pub within : sent ≤ length printed
  pub out : Appends old new (take sent printed)
