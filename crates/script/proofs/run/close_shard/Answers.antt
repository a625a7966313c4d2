use Rattle.std.proofs.Common.{ℕ, arith, subst}
use Rattle.std.specs.Str.Parse.{digits_value}
use Rattle.std.proofs.lemmas.Result.{on_err_weaker, on_ok_weaker}
use Rattle.script.specs.Leaving.{LineWanting}
use Rattle.script.specs.Script.{Closes}
use Rattle.script.specs.inner.Running.{LineDone}
use Rattle.script.proofs.RunLaws.{beyond_all, closed_nobody, the_number}
use Rattle.script.proofs.run.close_shard.Goals as goal

pub returns-then-shard-from-clause-done : goal.returns-then-shard-from-clause-done
returns-then-shard-from-clause-done c =
    on_ok_weaker c.refuse.result
    (λ printed k s st. closed_nobody k c.args.number s (digits_value 10 c.args.digits.now) c.args.house.now c.args.out.now.items c.refuse.new.out.items st
    (beyond_all c.clipped_number-shard.result (digits_value 10 c.args.digits.now) c.args.house.now.directory.shards c.clipped_number-shard.ensures
    (let a = c.if-shard-from.true in let b = c.shards.ensures in let d = c.from.ensures in omega (arith, a, b, d)) (let b = c.shards.ensures in omega (arith, b)))
    printed)
    c.refuse.ensures.ok

pub returns-clause-done : goal.returns-clause-done
returns-clause-done c =
    on_ok_weaker c.do_event.result
    (λ d k s st. subst (λ (n : ℕ). LineDone k c.args.number (Closes n) s c.do_event.new.house c.args.out.now.items c.do_event.new.out.items)
    (the_number c.clipped_number-shard.result (digits_value 10 c.args.digits.now) c.args.house.now.directory.shards c.clipped_number-shard.ensures
    (let a = c.if-shard-from.false in let b = c.shards.ensures in let d = c.from.ensures in omega (arith, a, b, d)) (let b = c.shards.ensures in omega (arith, b)))
    (d k s st))
    c.do_event.ensures.done

pub returns-clause-wanting : goal.returns-clause-wanting
returns-clause-wanting c =
    on_err_weaker c.do_event.result
    (λ w k s st. subst (λ (n : ℕ). LineWanting k (Closes n) s c.do_event.new.house)
    (the_number c.clipped_number-shard.result (digits_value 10 c.args.digits.now) c.args.house.now.directory.shards c.clipped_number-shard.ensures
    (let a = c.if-shard-from.false in let b = c.shards.ensures in let d = c.from.ensures in omega (arith, a, b, d)) (let b = c.shards.ensures in omega (arith, b)))
    (w k s st))
    c.do_event.ensures.wanting
