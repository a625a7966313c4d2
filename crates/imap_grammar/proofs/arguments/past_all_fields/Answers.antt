use Rattle.std.proofs.Common.{ap, sym, ◌∙◌}
use Rattle.std.specs.Option.{option_copied}
use Rattle.imap_grammar.specs.Reading.{past_all_fields}
use Rattle.imap_grammar.proofs.FieldSteps.{bad_field, no_field_more, one_field_more}
use Rattle.imap_grammar.proofs.arguments.past_all_fields.Goals as goal

pub returns-in_err-rest-2 : goal.returns-in_err-rest-2
returns-in_err-rest-2 c =
    ap option_copied c.from_residual-in_err-rest-2.ensures
    ∙ bad_field c.loop-start.rest.now c.in-Some.start.now (past_all_fields c.args.bytes.now) (sym c.in-Some.ensures) (sym c.in_err-rest-2.ensures) c.loop-start.invariant

pub loop-start-preserved : goal.loop-start-preserved
loop-start-preserved c =
    one_field_more c.loop-start.rest.now c.in-Some.start.now c.in_ok-rest-2.rest.now (past_all_fields c.args.bytes.now) (sym c.in-Some.ensures) (sym c.in_ok-rest-2.ensures) c.loop-start.invariant

pub returns : goal.returns
returns c = no_field_more c.loop-start.rest.now (past_all_fields c.args.bytes.now) (sym c.in_default.ensures) c.loop-start.invariant
