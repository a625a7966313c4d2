-- The lines that a client sends, after whose answers its list is right again.
use Rattle.std.specs.Prelude.{◌≡◌, ℕ, Bool, true, false, List, [], ◌∷◌, IfSome, Option, Some, None, Result, Ok, Err}
use Rattle.imap_grammar.specs.Reading.{read}
use Rattle.imap_grammar.specs.declared.command.Command.{Command}
use Rattle.imap_grammar.specs.declared.command.Command.TheVariants as commands
use Rattle.imap_grammar.specs.declared.command.ImapFault.{ImapFault}
use Rattle.imap_session.specs.Exchange.{Folder, Standing}
use Rattle.imap_session.specs.Happenings.{kept_tag, whole_line}
use Rattle.laws_client.specs.Fetches.{AreToldParts, IsNumbered}
use Rattle.laws_client.specs.ListTurns.{IsPlain, IsTag}

-- The command stays in the mailbox that is selected. SELECT and EXAMINE enter one,
-- CLOSE and UNSELECT leave it (RFC 9051, 6.3.2, 6.3.3, 6.4.1 and 6.4.2).
abbrev pub stays : Command → Bool
stays (commands.Select name) = false
stays (commands.Examine name) = false
stays commands.Close = false
stays commands.Unselect = false
stays _ = true

-- the parts of texts that a FETCH asks for have numbers that can be printed
abbrev pub HasToldParts : Command → Type 0
HasToldParts (commands.Fetch fetch) = AreToldParts fetch.items
HasToldParts _ = Unit {0}

-- the names of mailboxes stand in lines
abbrev pub AreNames : List Folder → Type 0
AreNames [] = Unit {0}
AreNames (folder ∷ folders) = IsPlain folder.name × AreNames folders

-- what is asked of a session that counts this view, and of a command to it
pub record MayAsk (now : Standing) (view : List ℕ) (command : Command) : Type 0 where
  pub stays : stays command ≡ true
  pub numbered : IsNumbered view
  pub names : AreNames now.folders
  pub parts : HasToldParts command

-- a line that is no command is answered too
abbrev pub MayAnswer : Standing → List ℕ → Result (List ℕ × Command) ImapFault → Type 0
MayAnswer now view (Ok line) = MayAsk now view line.1
MayAnswer now view (Err fault) = Unit {0}

-- ---- what was sent as a command

-- what came as a command may be one of those whose answers are followed
abbrev pub MayCome : Option (List ℕ) → Standing → List ℕ → Type 0
MayCome None now view = Unit {0}
MayCome (Some whole) now view = MayAnswer now view (read whole)

-- The tag that the session keeps is one: of an IDLE, which any line ends, or of a
-- command that goes on behind a literal. And what came as a command may be asked.
abbrev pub IsFollowed : Standing → List ℕ → List ℕ → Type 0
IsFollowed now view line = IfSome (kept_tag now) IsTag × MayCome (whole_line now line) now view
