use Rattle.std.proofs.Common.{◌≡◌, ◌≤◌, drop, true}
use Rattle.std.specs.Prelude.{min}
use Rattle.std.specs.List.{list_all}
use Rattle.imap_grammar.specs.Bytes.{is_digit}
use Rattle.imap_grammar.specs.Numbers.{most_size, number_of, number_from}
use Rattle.imap_grammar.proofs.number.capped_number.Given as goal

abbrev pub invariant-loop-b : goal.invariant-loop-b
invariant-loop-b l = record {
  small : l.n ≤ most_size;
  number : min (number_from l.n (drop l.b-index l.digits)) most_size ≡ min (number_of l.digits) most_size;
  digits : list_all is_digit (drop l.b-index l.digits) ≡ true;
}
