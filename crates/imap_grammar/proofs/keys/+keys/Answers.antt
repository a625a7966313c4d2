use Rattle.std.proofs.Common.{rules, arith}
use Rattle.imap_grammar.specs.SearchReading.{key_at}
use Rattle.imap_grammar.proofs.KeySteps.{none_left, grouped, ungrouped, keys_said, rest_smaller, one_more}
use Rattle.imap_grammar.proofs.keys.+keys.Goals as goal

pub key_at-returns-then-levels-eq0 : goal.key_at-returns-then-levels-eq0
key_at-returns-then-levels-eq0 t c = none_left c.args.asked c.args.levels c.args.bytes.now (search rules)

pub key_at-returns-in-Some : goal.key_at-returns-in-Some
key_at-returns-in-Some t c =
    grouped c.args.asked c.args.levels c.args.bytes.now c.in-Some.start.now _ (search (rules, arith)) c.in-Some.ensures.value c.group_at.ensures

pub key_at-returns-in-None : goal.key_at-returns-in-None
key_at-returns-in-None t c =
    ungrouped c.args.asked c.args.levels c.args.bytes.now _ (search (rules, arith)) c.in-None.ensures.value c.worded_at.ensures

pub keys_at-returns : goal.keys_at-returns
keys_at-returns t c =
    keys_said c.args.asked
    (key_at c.args.levels) c.args.bytes.now c.in_ok-first.rest.now c.in_ok-first.first _ c.in_ok-first.ensures c.others_at.ensures

pub others_at-loop-start-smaller : goal.others_at-loop-start-smaller
others_at-loop-start-smaller t c =
    rest_smaller c.args.asked c.args.levels c.loop-start.rest.now c.in-Some.start.now c.in_ok-one.others.now c.in_ok-one.one c.in-Some.ensures
    c.in_ok-one.ensures

pub others_at-loop-start-preserved : goal.others_at-loop-start-preserved
others_at-loop-start-preserved t c =
    one_more c.args.asked c.args.levels c.loop-start.all c.in_ok-one.one c.loop-start.rest.now c.in-Some.start.now c.in_ok-one.others.now _
    c.in-Some.ensures c.in_ok-one.ensures c.loop-start.invariant
