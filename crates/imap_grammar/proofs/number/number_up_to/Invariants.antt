use Rattle.std.proofs.Common.{◌≡◌, ◌≤◌, drop}
use Rattle.std.specs.List.{list_all}
use Rattle.imap_grammar.specs.Bytes.{is_digit}
use Rattle.imap_grammar.specs.Numbers.{number_of, number_from}
use Rattle.imap_grammar.proofs.number.number_up_to.Given as goal

abbrev pub invariant-loop-b : goal.invariant-loop-b
invariant-loop-b l = record {
  small : l.n ≤ l.most;
  number : number_from l.n (drop l.b-index l.text) ≡ number_of l.text;
  digits : list_all is_digit (drop l.b-index l.text) ≡ list_all is_digit l.text;
}
