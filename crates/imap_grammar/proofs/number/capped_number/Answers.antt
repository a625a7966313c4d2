use Rattle.std.proofs.Common.{ℕ, ◌+◌, ◌-◌, ◌∙◌, ap, arith, drop, get_or, sym}
use Rattle.std.specs.Prelude.{min}
use Rattle.std.specs.List.{list_all}
use Rattle.envelope.proofs.Words.{both_true}
use Rattle.imap_grammar.specs.Bytes.{is_digit}
use Rattle.imap_grammar.specs.Numbers.{most_size, number_from}
use Rattle.imap_grammar.proofs.Numbers.{capped_step, digits_step, last_step}
use Rattle.imap_grammar.proofs.number.capped_number.Goals as goal

pub loop-b-preserved : goal.loop-b-preserved
loop-b-preserved c =
    let digits = c.args.digits.now in
    let i = c.loop-b.b-index in
    let d = get_or digits i 0 - 48 in
    record {
      small = omega (arith, c.saturating_add-n.type_inv);
      number = ap (λ (k : ℕ). min (number_from k (drop (i + 1) digits)) most_size) (c.saturating_add-n.ensures ∙ ap (λ (k : ℕ). min (k + d) most_size) c.saturating_mul.ensures)
          ∙ capped_step c.loop-b.n digits i c.loop-b-test.true ∙ c.loop-b.invariant.number;
      digits = (both_true (is_digit (get_or digits i 0)) (list_all is_digit (drop (i + 1) digits)) (sym (digits_step digits i c.loop-b-test.true) ∙ c.loop-b.invariant.digits)).1;
    }

pub returns : goal.returns
returns c = sym (last_step c.loop-b.n c.args.digits.now c.loop-b.b-index c.loop-b-test.false c.loop-b.invariant.small) ∙ c.loop-b.invariant.number
