-- What the program takes, as clap reads it: two subcommands, with their options and mailboxes, and help and the version besides.
-- The texts of help are no part of it.
use Rattle.std.specs.Prelude.{◌≡◌, ◌⊎◌, ℕ, ◌++◌, List, [], ◌∷◌, Some, codes, true, false}
use Rattle.clap.specs.Lexer.{usize_max}
use Rattle.clap.specs.Words.{App, IsAmong, Kinds, Rule, Shape, Text, fault_of, new_app, new_rule}
use Rattle.clap.specs.declared.builder.action.ArgAction.TheVariants.{Append, Set, SetTrue}
use Rattle.clap.specs.declared.builder.value_parser.ValueParser.TheVariants.{Unsigned}
use Rattle.clap.specs.declared.error.kind.ErrorKind.{ErrorKind}
use Rattle.clap.specs.declared.error.kind.ErrorKind.TheVariants as kind

-- an option that sets a name, or another text of which clap takes any
abbrev pub name_rule : Text → Rule
name_rule name = record (new_rule name) { long = Some name; action = Some Set }

-- an option that sets a number from `least` to `most`
abbrev pub number_rule : Text → (least most : ℕ) → Rule
number_rule name least most = record (new_rule name) { long = Some name; action = Some Set; parser = Some (Unsigned least most) }

-- an option that is given or not, and has no value; how often it is given is counted
abbrev pub flag_rule : Text → Rule
flag_rule name = record (new_rule name) { long = Some name; action = Some SetTrue }

-- one mailbox or more
abbrev pub mailbox_rule : Rule
mailbox_rule = record (new_rule (codes "MAILBOX")) {
  action = Some Append;
  range = Some (record { start_inclusive = 1; end_inclusive = usize_max });
  required = true;
}

-- what both subcommands take
abbrev pub house_rules : List Rule
house_rules =
    name_rule (codes "host")
    ∷ name_rule (codes "domain")
    ∷ number_rule (codes "shards") 1 8
    ∷ number_rule (codes "depth") 1 1024
    ∷ number_rule (codes "ring") 16 65536
    ∷ number_rule (codes "ring-max") 0 65536
    ∷ number_rule (codes "messages") 1 32768
    ∷ number_rule (codes "max-message") 1 16777216
    ∷ number_rule (codes "uidvalidity") 1 4294967295
    ∷ number_rule (codes "first-uid") 1 4294967294
    ∷ flag_rule (codes "compatible")
    ∷ mailbox_rule
    ∷ []

-- what `script` takes besides
abbrev pub script_rules : List Rule
script_rules = flag_rule (codes "json") ∷ []

-- what `serve` takes besides, up to its log
abbrev pub logged_rules : List Rule
logged_rules =
    number_rule (codes "lmtp-port") 0 65535
    ∷ number_rule (codes "imap-port") 0 65472
    ∷ number_rule (codes "workers") 1 8
    ∷ number_rule (codes "sessions") 1 16
    ∷ name_rule (codes "memory")
    ∷ flag_rule (codes "log")
    ∷ []

-- and behind it the port of its page
abbrev pub server_rules : List Rule
server_rules = logged_rules ++ number_rule (codes "status-port") 0 65535 ∷ []

abbrev pub script : Shape
script = record (new_app (codes "script")).top { rules = house_rules ++ script_rules }

abbrev pub serve : Shape
serve = record (new_app (codes "serve")).top { rules = house_rules ++ server_rules }

abbrev pub program : App
program = record {
  top = record (new_app (codes "post_house")).top { is_leaf = false; has_version = true; subcommand_required = true };
  subs = script ∷ serve ∷ [];
}

-- ---- what is wrong with words

-- The kinds of error that clap has for these words, the first of which is the program's name: none where it takes them.
abbrev pub faults_at : List Text → Kinds
faults_at words = fault_of program words

-- what clap takes, and the program doesn't: a number that is spelled with other than digits, a port of users or of the page that is neither 0 nor
-- high enough, more sessions than the standard profile has, a limit on memory that is no size or a size of 2 ^ 64 bytes or more, no mailbox, no
-- subcommand
abbrev pub own_faults : Kinds
own_faults = kind.ValueValidation ∷ kind.MissingRequiredArgument ∷ kind.MissingSubcommand ∷ []

-- Words with these faults fail by an error of this kind: want of memory, or one of the faults. Where clap has none it is the program's own.
abbrev pub FailsWith : Kinds → ErrorKind → Type 0
FailsWith faults k = (k ≡ kind.OutOfMemory) ⊎ (IsAmong k faults ⊎ (faults ≡ []) × IsAmong k own_faults)
