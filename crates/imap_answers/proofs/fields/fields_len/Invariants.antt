use Rattle.std.proofs.Common.{◌≡◌, ◌+◌, ◌≤◌, length}
use Rattle.std.specs.Prelude.{false, true}
use Rattle.imap_answers.specs.Answers.{fields_from, takes_field}
use Rattle.imap_answers.proofs.fields.fields_len.Given as goal

abbrev pub invariant-loop-field : goal.invariant-loop-field
invariant-loop-field l = record {
  so_far : l.len + length (fields_from (takes_field l.others l.names) true false false l.rest) ≡ length (fields_from (takes_field l.others l.names) true false false l.header);
  fits : l.len + length l.rest ≤ length l.header;
}

abbrev pub decreases-loop-field : goal.decreases-loop-field
decreases-loop-field l = length l.rest
