-- What bodies and proofs say besides: how the value of a local part is read, byte by byte; nobody has to believe this file.
use Rattle.std.specs.Prelude.{ℕ, Bool, false, List, [], ◌∷◌, Option, Some, None, if◌then◌else◌}
use Rattle.envelope.specs.Names.{is_plus, folder_named, is_same_folder}

-- what follows the user says this folder
abbrev pub says_folder : List ℕ → Option (List ℕ) → Bool
says_folder [] folder = is_same_folder None folder
says_folder (b ∷ name) folder = if is_plus b then is_same_folder (folder_named name) folder else false

abbrev pub says_folder_after : Option (List ℕ) → Option (List ℕ) → Bool
says_folder_after None folder = false
says_folder_after (Some rest) folder = says_folder rest folder
