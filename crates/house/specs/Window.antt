-- What is printed of a mailbox's last changes.
use Rattle.std.specs.Prelude.{◌≡◌, ℕ, List, ◌∷◌, [], ◌++◌, length, drop, flat_map, codes, decimal, Some}
use Rattle.change_ring.specs.declared.change.Change.{Change}
use Rattle.change_ring.specs.declared.change.Change.TheVariants.{Add, Gone, Flags as SetFlags}
use Rattle.change_ring.specs.Words.{flag_words, spaced}
use Rattle.world.specs.World.{Box}
use Rattle.envelope.specs.Names.{number_of}
use Rattle.house.specs.Setup.{Setup}
use Rattle.house.specs.Scene.{Scene}

abbrev pub change_text : Change → List ℕ
change_text (Add uid) = codes "add " ++ decimal uid
change_text (Gone uid) = codes "gone " ++ decimal uid
change_text (SetFlags uid flags) = codes "flags " ++ decimal uid ++ codes " (" ++ spaced (flag_words flags) ++ codes ")"

-- one line of a mailbox's tail
abbrev pub tail_line : List ℕ → List ℕ → List ℕ
tail_line word text = codes "T " ++ word ++ 32 ∷ text ++ 10 ∷ []

-- each change of the window, and how many changes there were
abbrev pub tail_text : List ℕ → List Change → ℕ → List ℕ
tail_text word changes total = flat_map (λ c. tail_line word (change_text c)) changes ++ tail_line word (codes "total " ++ decimal total)

abbrev pub window_text : List ℕ → Box → List ℕ
window_text word b = tail_text word (drop b.base b.log) (length b.log)

-- what was printed of the mailbox that this word names
pub record PrintsWindow (k : Setup) (s : Scene) (word old new : List ℕ) : Type 0 where
  pub mailbox : ℕ
  pub named : number_of k.directory word ≡ Some mailbox
  pub out : new ≡ old ++ window_text word (s.world.box mailbox)
