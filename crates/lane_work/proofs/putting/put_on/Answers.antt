use Rattle.shard_queue.specs.Permits.{number_of, sent}
use Rattle.lane_work.proofs.BackingLaws.{back_on, put_on}
use Rattle.lane_work.proofs.putting.put_on.Goals as goal

pub returns-in_default-put_letter-clause-backed : goal.returns-in_default-put_letter-clause-backed
returns-in_default-put_letter-clause-backed g c =
    put_on _ c.in-Ok-send.letter c.args.dispatch.now c.send.new.self (number_of c.args.permit.now) (sent c.args.permit.now) (sent c.put_letter.new.permit) c.in-Ok-send.ensures.sends c.in-Ok-send.ensures.letter
    c.in_default-put_letter.ensures.put

pub returns-clause-backed : goal.returns-clause-backed
returns-clause-backed g c =
    back_on _ c.in-Ok-send.letter c.in-Some.back c.args.dispatch.now c.send.new.self c.take_back.new.self (sent c.args.permit.now) (sent c.put_letter.new.permit) c.in-Ok-send.ensures.sends c.in-Ok-send.ensures.letter
    c.in-Some.ensures.put.0 c.take_back.ensures.learned c.take_back.ensures.withdrawn c.in-Some.ensures.put.1
