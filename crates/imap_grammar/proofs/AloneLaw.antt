-- A verb that stands alone: what it says is the command that it is with nothing after it.
use Rattle.std.proofs.Common.{◌≡◌, ℕ, List}
use Rattle.std.specs.Prelude.{Some}
use Rattle.imap_grammar.specs.Reading.{command_at, if_end}
use Rattle.imap_grammar.specs.Verbs.{alone}
use Rattle.imap_grammar.specs.declared.command.Command.{Command}
use Rattle.imap_grammar.specs.declared.command.Verb.{Verb}
use Rattle.imap_grammar.specs.declared.command.Verb.TheVariants as verbs

-- of one that wants more nothing is said alone, so the premise is absurd
pub said_alone : (v : Verb) (command : Command) (rest : List ℕ) → Some command ≡ alone v → if_end command rest ≡ command_at v rest
said_alone verbs.Capability command rest e = cc
said_alone v command rest e = cc
