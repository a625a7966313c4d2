use Rattle.std.proofs.Common.{[], ◌∷◌, ap, arith, length, List, ℕ}
use Rattle.std.proofs.lemmas.List.{drop_all, length-append}
use Rattle.imap_grammar.specs.Literals.{backslashed}
use Rattle.imap_grammar.proofs.Steps.{backslashed_len_step}
use Rattle.imap_grammar.proofs.literal.quoted_len.Goals as goal

pub loop-b-init : goal.loop-b-init
loop-b-init c = (omega (arith, length-append (backslashed c.args.text.now) (34 ∷ [])), omega arith)

pub loop-b-preserved : goal.loop-b-preserved
loop-b-preserved c = (omega (arith, c.loop-b.invariant.0, c.spelled_len-len.ensures.value, backslashed_len_step c.args.text.now c.loop-b.b-index c.loop-b-test.true), omega (arith, c.loop-b.invariant.1, c.spelled_len-len.ensures.bound))

pub returns : goal.returns
returns c = omega (arith, c.loop-b.invariant.0, ap (λ (l : List ℕ). length (backslashed l)) (drop_all c.loop-b.b-index c.args.text.now c.loop-b-test.false))
