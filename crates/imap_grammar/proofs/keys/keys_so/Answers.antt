use Rattle.std.proofs.Common.{rules, ◌∙◌}
use Rattle.imap_grammar.proofs.KeySteps.{none_said, whole_said, more_said}
use Rattle.imap_grammar.proofs.keys.keys_so.Goals as goal

pub returns-in_err-all : goal.returns-in_err-all
returns-in_err-all c = c.from_residual.ensures ∙ none_said c.args.asked c.args.text.now c.in_err-all.ensures

pub returns-then-is_blank : goal.returns-then-is_blank
returns-then-is_blank c = whole_said c.args.asked c.args.text.now c.in_ok-all.rest.now c.in_ok-all.all c.in_ok-all.ensures (search rules)

pub returns-else-is_blank : goal.returns-else-is_blank
returns-else-is_blank c = more_said c.args.asked c.args.text.now c.in_ok-all.rest.now c.in_ok-all.all c.in_ok-all.ensures (search rules)
