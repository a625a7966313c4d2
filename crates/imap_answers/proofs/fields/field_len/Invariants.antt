use Rattle.std.proofs.Common.{◌≡◌, ◌+◌, drop}
use Rattle.std.specs.Prelude.{false}
use Rattle.imap_answers.specs.inner.Fields.{field_size}
use Rattle.imap_answers.proofs.fields.field_len.Given as goal

abbrev pub invariant-loop-i : goal.invariant-loop-i
invariant-loop-i l = l.i + field_size l.cr (drop l.i l.text) ≡ field_size false l.text
