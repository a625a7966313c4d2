-- What is said of a server's listeners: a line for each. A socket has no model: of a port that the system chooses no more is said than how far it
-- goes.
use Rattle.std.specs.Prelude.{ℕ, zero, suc, ◌≡◌, ◌≢◌, ◌+◌, ◌++◌, ◌∷◌, [], List, All, Option, Some, None, ⊤, codes, decimal, if◌then◌else◌, length, take}
use Rattle.std.specs.Io.KnownBytes.{Appends}
use Rattle.envelope.specs.Names.{Home}
use Rattle.house_shared.specs.Users.{is_inbox}
use Rattle.settings.specs.Settings.{IsFrom, directory_for}
use Rattle.settings.specs.declared.config.Config.{Config}
use Rattle.settings.specs.declared.asking.Uidvalidity.{Uidvalidity}
use Rattle.settings.specs.declared.asking.Uidvalidity.TheVariants.{Given, Default}

-- the users of these mailboxes, in the order of their numbers: each has one INBOX
abbrev pub users_of : List Home → List (List ℕ)
users_of [] = []
users_of (home ∷ homes) = if is_inbox home.folder then home.user ∷ users_of homes else users_of homes

-- ---- the ports

-- so many ports that follow one another, from this one on
abbrev pub ports_from : (first count : ℕ) → List ℕ
ports_from first zero = []
ports_from first (suc count) = first ∷ ports_from (first + 1) count

-- The port of a listener: the one that is given, and for 0 some port.
pub record IsPortFor (given port : ℕ) : Type 0 where
  pub same : given ≢ 0 → port ≡ given
  pub free : given ≡ 0 → IsFrom 1 65535 port

-- The ports of so many users: the first is the one that is given and the others follow, and for 0 some port for each.
pub record AreUserPorts (given users : ℕ) (ports : List ℕ) : Type 0 where
  pub same : given ≢ 0 → ports ≡ ports_from given users
  pub each : given ≡ 0 → length ports ≡ users
  pub free : given ≡ 0 → All (IsFrom 1 65535) ports

-- The port of the page: one where it is asked for, as of a listener, and none where it isn't.
abbrev pub IsPageFor : (given port : Option ℕ) → Type 0
IsPageFor None None = ⊤
IsPageFor None (Some port) = ⊥
IsPageFor (Some given) None = ⊥
IsPageFor (Some given) (Some port) = IsPortFor given port

-- ---- the lines

abbrev pub lmtp_line : ℕ → List ℕ
lmtp_line port = codes "LMTP 127.0.0.1:" ++ decimal port ++ codes "\n"

abbrev pub imap_line : ℕ → List ℕ → List ℕ
imap_line port user = codes "IMAP 127.0.0.1:" ++ decimal port ++ codes " " ++ user ++ codes "\n"

-- a line for each user, who has the port in the same place
abbrev pub imap_lines : (users : List (List ℕ)) → (ports : List ℕ) → List ℕ
imap_lines [] ports = []
imap_lines (user ∷ users) [] = []
imap_lines (user ∷ users) (port ∷ ports) = imap_line port user ++ imap_lines users ports

-- where a page is asked for
abbrev pub page_line : ℕ → List ℕ
page_line port = codes "STATUS http://127.0.0.1:" ++ decimal port ++ codes "/\n"

-- where the page is asked for, if there is one
abbrev pub page_lines : Option ℕ → List ℕ
page_lines None = []
page_lines (Some port) = page_line port

-- UIDs begin anew at each start, so a client may take new messages for old ones where the UIDVALIDITY is the same (RFC 9051, 2.3.1.1)
abbrev pub warning : Uidvalidity → List ℕ
warning Given = []
warning Default = codes "UIDVALIDITY is the same at each start: give --uidvalidity a number that grows, as the time in seconds\n"

module _ (lmtp : ℕ) (imap : List ℕ) (page : Option ℕ) where
  abbrev pub announcement : List Home → Uidvalidity → List ℕ
  announcement homes uidvalidity = lmtp_line lmtp ++ imap_lines (users_of homes) imap ++ page_lines page ++ warning uidvalidity

-- what a server with these settings may say, which has a page where a port is given for it: the lines of the ports that its listeners have
pub record IsAnnouncement (config : Config) (given : Option ℕ) (uidvalidity : Uidvalidity) (lines : List ℕ) : Type 0 where
  pub lmtp : ℕ
  pub imap : List ℕ
  pub page : Option ℕ
  pub mail : IsPortFor config.lmtp_port lmtp
  pub users : AreUserPorts config.imap_port (length (users_of (directory_for config).homes)) imap
  pub status : IsPageFor given page
  pub are : lines ≡ announcement lmtp imap page (directory_for config).homes uidvalidity

module _ (config : Config) (given : Option ℕ) (uidvalidity : Uidvalidity) where
  -- a beginning of such lines was written
  pub record HasBegun (old new : Option (List ℕ)) : Type 0 where
    pub lines : List ℕ
    pub announced : IsAnnouncement config given uidvalidity lines
    pub count : ℕ
    pub written : Appends old new (take count lines)

  -- all of them were
  pub record HasAnnounced (old new : Option (List ℕ)) : Type 0 where
    pub lines : List ℕ
    pub announced : IsAnnouncement config given uidvalidity lines
    pub written : Appends old new lines
