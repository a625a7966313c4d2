use Rattle.std.proofs.Common.{◌∙◌, subst, map, List, ℕ}
use Rattle.envelope.specs.Names.{Directory}
use Rattle.lmtp_machine.specs.Calls.{Happens}
use Rattle.lmtp_machine.specs.Conversation.{Conversation}
use Rattle.lmtp_machine.specs.Dialogue as on
use Rattle.lmtp_machine.specs.Dialogue.{Setting}
use Rattle.lmtp_machine.specs.LmtpMachine.{StandsFor}
use Rattle.shard_queue.specs.Reply.{received}
use Rattle.lane_work.specs.Permits.{put_by}
use Rattle.lane_work.specs.Account.{rooms_of, notes_tell, setting_at}
use Rattle.lane_work.specs.Speaking.{premises_of}
use Rattle.lane_work.specs.inner.Speaking.{Spoke}
use Rattle.lane_work.proofs.TalkLaws.{begins}
use Rattle.lane_work.proofs.worker.converse.Goals as goal

pub returns-clause-spoke : goal.returns-clause-spoke
returns-clause-spoke g c done books =
    let d = c.args.context.now.intake.now.directory in
    let p = c.args.producer.now.desk.number in
    let m = c.in_ok-machine.machine in
    let after = c.greet.new.self in
    let out = c.greet.new.out.items in
    let greets = subst (λ (old : List ℕ). (x : Directory) (k : Conversation) → StandsFor m k → Happens (StandsFor after) m.setting m.host x k on.Opened old out) c.new-out.ensures.items c.in_ok-greet.ensures.ok in
    let begun = begins c.args.directory.now d (rooms_of c.args.context.now.intake.now.lanes.items) p done m after out (notes_tell c.args.producer.now.book.notes) (received c.args.producer.now.desk.receiver) (map put_by c.args.producer.now.desk.permits.items) c.in_ok-greet.ensures.same.0 c.in_ok-greet.ensures.same.1 c.in_ok-machine.ensures.stands greets books in
    let all = c.in_ok-speak.ensures.spoke done begun in
    let set = subst (λ (x : Setting). Spoke c.args.directory.now d (rooms_of c.args.context.now.intake.now.lanes.items) p done c.args.bytes.now x after.host c.speak.new.out.items (notes_tell c.speak.new.producer.book.notes) (received c.speak.new.producer.desk.receiver) (map put_by c.speak.new.producer.desk.permits.items))
    (c.in_ok-greet.ensures.same.0 ∙ c.in_ok-machine.ensures.setting) all in
    subst (λ (h : List ℕ). Spoke c.args.directory.now d (rooms_of c.args.context.now.intake.now.lanes.items) p done c.args.bytes.now (setting_at (premises_of c.args.context.now.intake.now) p c.args.serial) h c.speak.new.out.items (notes_tell c.speak.new.producer.book.notes) (received c.speak.new.producer.desk.receiver) (map put_by c.speak.new.producer.desk.permits.items)) (c.in_ok-greet.ensures.same.1 ∙ c.in_ok-machine.ensures.host ∙ c.as_slice.ensures.value) set
