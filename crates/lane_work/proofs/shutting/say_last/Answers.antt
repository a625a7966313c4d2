use Rattle.std.proofs.Common.{◌∙◌, sym}
use Rattle.lane_work.proofs.LastWords.{shut_said}
use Rattle.lane_work.proofs.shutting.say_last.Goals as goal

pub returns-clause-said : goal.returns-clause-said
returns-clause-said c k s =
    shut_said c.args.machine.now c.shut.new.self k c.args.out.now.items c.shut.new.out.items (sym (c.is_within_data.ensures k s) ∙ c.if-is_within_data.false) (c.has_ended.ensures.going c.if-has_ended.false) c.in_ok-shut.ensures.ok s
