use Rattle.lane_work.proofs.PermitLaws.{permits_length}
use Rattle.tests_streams.proofs.tests.lmtp.talk.Goals as goal

pub returns-in_err-from_slice : goal.returns-in_err-from_slice
returns-in_err-from_slice g c = permits_length c.args.context.now.intake.now.lanes.items c.args.producer.now.desk.number c.args.producer.now.desk.permits.items c.requires.permits.0

pub returns-in_err-vec : goal.returns-in_err-vec
returns-in_err-vec g c = permits_length c.args.context.now.intake.now.lanes.items c.args.producer.now.desk.number c.args.producer.now.desk.permits.items c.requires.permits.0

pub returns : goal.returns
returns g c = permits_length c.args.context.now.intake.now.lanes.items c.args.producer.now.desk.number c.converse-came.new.producer.desk.permits.items c.converse-came.ensures.permits.0
