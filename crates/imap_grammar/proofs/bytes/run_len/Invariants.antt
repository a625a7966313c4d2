use Rattle.std.proofs.Common.{◌≡◌, ◌+◌, drop}
use Rattle.std.specs.List.{prefix_len}
use Rattle.imap_grammar.specs.Reading.{is_of}
use Rattle.imap_grammar.proofs.bytes.run_len.Given as goal

abbrev pub invariant-loop-i : goal.invariant-loop-i
invariant-loop-i l = l.i + prefix_len (is_of l.class) (drop l.i l.bytes) ≡ prefix_len (is_of l.class) l.bytes
