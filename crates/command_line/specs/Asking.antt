-- What the words of a command line ask for: of each setting what is given for it, or what stands where nothing is.
use Rattle.std.specs.Prelude.{◌≡◌, ◌==◌, ◌*◌, ◌++◌, ◌∷◌, ℕ, Bool, false, Contains, List, [], Option, Some, None, codes, if◌then◌else◌, is_some, length, max, min, unwrap_or}
use Rattle.std.specs.Str.{bytes_eq}
use Rattle.std.specs.Str.Parse.{IsNumeral, digits_value}
use Rattle.clap.specs.Words.{Row, Text, all_of, first_of, subcommand_of}
use Rattle.settings.specs.Settings.{IsInRange, words_of}
use Rattle.settings.specs.declared.config.Config.{Config}
use Rattle.settings.specs.declared.asking.Form.{Form}
use Rattle.settings.specs.declared.asking.Form.TheVariants as forms
use Rattle.settings.specs.declared.asking.Reporting.{Reporting}
use Rattle.settings.specs.declared.asking.Uidvalidity.{Uidvalidity}
use Rattle.settings.specs.declared.asking.Uidvalidity.TheVariants.{Given, Default}
use Rattle.command_line.specs.Words.{program}
use Rattle.command_line.specs.declared.asked.Asked.{Asked}
use Rattle.command_line.specs.declared.asked.Asked.TheVariants.{Script, Serve}

-- with settings that are in their ranges
abbrev pub IsAskedInRange : Asked → Type 0
IsAskedInRange (Script config form) = IsInRange config
IsAskedInRange (Serve config uidvalidity report) = IsInRange config

-- ---- what is given for an option, by the rows of what clap found

-- its text, or this where it isn't given
abbrev pub text_given : List Row → (option default : Text) → Text
text_given rows option default = unwrap_or (first_of option rows) default

-- the number that these digits spell, or this where there are none
abbrev pub number_or : Option Text → (default : ℕ) → ℕ
number_or None default = default
number_or (Some digits) default = digits_value 10 digits

-- its number, or this where it isn't given
abbrev pub number_given : List Row → (option : Text) → (default : ℕ) → ℕ
number_given rows option default = number_or (first_of option rows) default

-- the words of the mailboxes, in their order
abbrev pub mailboxes_given : List Row → List Text
mailboxes_given rows = unwrap_or (all_of (codes "MAILBOX") rows) []

-- whether a UIDVALIDITY is given, of which a server doesn't warn then
abbrev pub uidvalidity_given : List Row → Uidvalidity
uidvalidity_given rows = if is_some (first_of (codes "uidvalidity") rows) then Given else Default

-- whether an option is given that has no value: one that stands there has the value `true`
abbrev pub is_flag : (value : Option Text) → Bool
is_flag None = false
is_flag (Some value) = bytes_eq value (codes "true")

abbrev pub is_given : Text → List Row → Bool
is_given name rows = is_flag (first_of name rows)

-- in which form a script is told
abbrev pub form_given : List Row → Form
form_given rows = if is_given (codes "json") rows then forms.Json else forms.Text

-- the port that these digits spell, where there are any
abbrev pub port_of : Option Text → Option ℕ
port_of None = None
port_of (Some digits) = Some (digits_value 10 digits)

-- what a server is to tell beside its listeners: its log, where that is given, and its page, where a port is given for it
abbrev pub reporting_given : List Row → Reporting
reporting_given rows = record { log = is_given (codes "log") rows; status = port_of (first_of (codes "status-port") rows) }

-- ---- a limit on the bytes of texts

-- what may stand behind a size's digits, and how many bytes one is then
abbrev pub units : List (Text × ℕ)
units = ([], 1) ∷ (codes "K", 1024) ∷ (codes "M", 1048576) ∷ (codes "G", 1073741824) ∷ []

-- A text is digits, one at least, and behind them a unit, and is so many bytes.
pub record IsSize (text : Text) (size : ℕ) : Type 0 where
  pub digits : Text
  pub unit : Text
  pub each : ℕ
  pub spelled : text ≡ digits ++ unit
  pub numeral : IsNumeral 10 digits
  pub known : Contains units (unit, each)
  pub is : size ≡ digits_value 10 digits * each

-- no bytes are no limit
abbrev pub limit_of : (size : ℕ) → Option ℕ
limit_of size = if size == 0 then None else Some size

-- What is given is a size, which is the limit. Where nothing is given there is none.
abbrev pub GivesMemory : (given : Option Text) → (limit : Option ℕ) → Type 0
GivesMemory None limit = limit ≡ None
GivesMemory (Some text) limit = (size : ℕ) × IsSize text size × (limit ≡ limit_of size)

-- ---- settings

-- how many shards a server of so many mailboxes has where that isn't given: one for each, and eight at most
abbrev pub server_shards : ℕ → ℕ
server_shards mailboxes = max 1 (min mailboxes 8)

-- Each setting of a house is what is given for it, or its default; of shards that is a script's, or a server's.
pub record AreHouseSettings (rows : List Row) (default_shards : ℕ) (c : Config) : Type 0 where
  pub host : c.host.items ≡ text_given rows (codes "host") (codes "mx.example.org")
  pub domain : c.domain.items ≡ text_given rows (codes "domain") (codes "example.org")
  pub mailboxes : words_of c ≡ mailboxes_given rows
  pub shards : c.shards ≡ number_given rows (codes "shards") default_shards
  pub depth : c.depth ≡ number_given rows (codes "depth") 64
  pub ring : c.ring ≡ number_given rows (codes "ring") 2048
  pub ring_max : c.ring_max ≡ number_given rows (codes "ring-max") 0
  pub messages : c.messages ≡ number_given rows (codes "messages") 1024
  pub max_message : c.max_message ≡ number_given rows (codes "max-message") 1048576
  pub uidvalidity : c.uidvalidity ≡ number_given rows (codes "uidvalidity") 1
  pub first_uid : c.first_uid ≡ number_given rows (codes "first-uid") 1
  pub compatible : c.compatible ≡ is_given (codes "compatible") rows

-- and each of a server
pub record AreServerSettings (rows : List Row) (c : Config) : Type 0 where
  pub lmtp_port : c.lmtp_port ≡ number_given rows (codes "lmtp-port") 2424
  pub imap_port : c.imap_port ≡ number_given rows (codes "imap-port") 14300
  pub workers : c.workers ≡ number_given rows (codes "workers") 4
  pub sessions : c.sessions ≡ number_given rows (codes "sessions") 2
  pub memory : GivesMemory (first_of (codes "memory") rows) c.memory

-- A script has none of these: they are the defaults.
pub record AreServerDefaults (c : Config) : Type 0 where
  pub lmtp_port : c.lmtp_port ≡ 2424
  pub imap_port : c.imap_port ≡ 14300
  pub workers : c.workers ≡ 4
  pub sessions : c.sessions ≡ 2
  pub memory : c.memory ≡ None

-- ---- what is asked for

-- a script
pub record AsksForScript (rows : List Row) (config : Config) : Type 0 where
  pub house : AreHouseSettings rows 1 config
  pub server : AreServerDefaults config

-- a server
pub record AsksForServer (rows : List Row) (config : Config) (uidvalidity : Uidvalidity) (report : Reporting) : Type 0 where
  pub house : AreHouseSettings rows (server_shards (length (mailboxes_given rows))) config
  pub server : AreServerSettings rows config
  pub warned : uidvalidity ≡ uidvalidity_given rows
  pub told : report ≡ reporting_given rows

-- Where clap found this subcommand with these rows, it is asked for, with the settings that these give.
abbrev pub AsksBy : Option (Text × List Row) → Asked → Type 0
AsksBy found (Script config form) = (rows : List Row) × (found ≡ Some (codes "script", rows)) × AsksForScript rows config × (form ≡ form_given rows)
AsksBy found (Serve config uidvalidity report) = (rows : List Row) × (found ≡ Some (codes "serve", rows))
    × AsksForServer rows config uidvalidity report

-- These words, the first of which is the program's name, ask for that. What clap finds in them is said there (`subcommand_of`).
abbrev pub AsksFor : List Text → Asked → Type 0
AsksFor words asked = AsksBy (subcommand_of program words) asked
