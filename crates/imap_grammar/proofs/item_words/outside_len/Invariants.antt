use Rattle.std.proofs.Common.{◌≡◌, ◌+◌, drop}
use Rattle.std.specs.Prelude.{false}
use Rattle.imap_grammar.specs.Brackets.{outside_len}
use Rattle.imap_grammar.proofs.item_words.outside_len.Given as goal

abbrev pub invariant-loop-i : goal.invariant-loop-i
invariant-loop-i l = l.i + outside_len l.byte l.within (drop l.i l.text) ≡ outside_len l.byte false l.text
