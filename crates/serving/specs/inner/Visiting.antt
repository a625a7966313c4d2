-- What bodies and proofs say besides: whose folders a client of a client slot is shown, and what one too many is told.
use Rattle.std.specs.Prelude.{◌≡◌, ℕ, Bool, List, None, Option, Some, codes, length}
use Rattle.house_shared.specs.Users.{user_numbered}
use Rattle.house_shared.specs.declared.shared.HouseShared.{HouseShared}
use Rattle.imap_session.specs.Folders.{admission_of, folders_of}
use Rattle.house_shared.specs.Left.{most_of}
use Rattle.imap_stream.specs.Visits.{IsGreeted, Visit}

-- The client of a visit in this house was greeted as the user of this number, and nothing else was done: it has that user's folders, over all
-- mailboxes of the house, is in none of them, and may append messages as large as one that a worker takes. In the compatible profile it is to log in
-- as that user. `before` is what its output had taken, where that tells it.
pub record IsVisitOf {B : Type 0} (shared : HouseShared B) (compatible : Bool) (user : ℕ) (before : Option (List ℕ)) (visit : Visit) : Type 0 where
  pub name : List ℕ
  pub named : user_numbered user shared.intake.directory.homes ≡ Some name
  pub greeted : IsGreeted (admission_of compatible (Some (most_of shared.intake.max_message)) name) (folders_of shared.intake.directory name)
      (record { mailboxes = length shared.delivery.mailboxes.items; entered = None; history = shared.delivery.front }) before visit

-- what a client is told that is one too many
abbrev pub turned_away : List ℕ
turned_away = codes "* BYE Too many sessions\r\n"
