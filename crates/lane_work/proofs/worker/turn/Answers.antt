use Rattle.std.proofs.Common.{rules, false, ◌≡◌, ◌∙◌, ◌++◌, sym, subst, map, List, [], All, length, arith, ℕ}
use Rattle.std.proofs.lemmas.List.Elements.{All-head}
use Rattle.lmtp_machine.specs.Dialogue.{Submission, wire}
use Rattle.shard_queue.specs.Reply.{received}
use Rattle.lane_work.specs.Permits.{put_by}
use Rattle.lmtp_machine.specs.Calls.{submission_of, Happens}
use Rattle.lmtp_machine.specs.declared.connection.What.TheVariants.{More, Submit, Quit}
use Rattle.delivery_token.specs.declared.Verdict.{Verdict}
use Rattle.envelope.specs.Names.{Directory}
use Rattle.lmtp_machine.specs.Conversation.{Conversation}
use Rattle.lmtp_machine.specs.Dialogue as on
use Rattle.lmtp_machine.specs.LmtpMachine.{StandsFor}
use Rattle.std.specs.Io.{StartsWith}
use Rattle.std.proofs.Transfers.{starts_with_of_append}
use Rattle.lane_work.specs.Talk.{Judged}
use Rattle.lane_work.specs.Speaking.{Stands}
use Rattle.lane_work.specs.Account.{rooms_of}
use Rattle.lane_work.proofs.ClosedLaws.{open_to}
use Rattle.lane_work.proofs.BackingLaws.{where_err}
use Rattle.lane_work.proofs.TalkLaws.{stands_on, stands_judged, follows_behind, happens_behind}
use Rattle.lane_work.proofs.worker.turn.Goals as goal

pub put_and_hear-requires-clause-mailboxes : goal.put_and_hear-requires-clause-mailboxes
put_and_hear-requires-clause-mailboxes g c =
    let pair : Submission → Type 0 = λ s. length s.mailboxes ≡ length s.keys in
    let h = All-head pair (submission_of c.submission.result.now) [] (subst (All pair) c.submission.ensures c.in_ok-fed.ensures.paired) in
    omega (arith, h, c.submission.result.now.mailboxes.ok.0, c.submission.result.now.keys.ok.0)

pub returns-clause-stands : goal.returns-clause-stands
returns-clause-stands g c done bytes told stands =
    stands_judged c.args.directory.now c.args.context.now.intake.now.directory (rooms_of c.args.context.now.intake.now.lanes.items) c.args.producer.now.desk.number done bytes c.args.machine.now c.feed.new.self c.answer.new.self (told ++ c.args.out.now.items) (told ++ c.feed.new.out.items) (told ++ c.answer.new.out.items)
    (g.N.VerdictLog.tells c.args.producer.now.book) (g.N.VerdictLog.tells c.put_and_hear.new.producer.book) (received c.args.producer.now.desk.receiver) (received c.put_and_hear.new.producer.desk.receiver) (map put_by c.args.producer.now.desk.permits.items) (map put_by c.put_and_hear.new.producer.desk.permits.items) c.args.piece.now c.in_ok-fed.fed (submission_of c.submission.result.now)
    c.in_ok-verdicts.verdicts.items (search rules) (search rules) (search rules) (search rules) c.in-Submit.is c.submission.ensures (search rules)
    (λ k h. follows_behind told c.args.machine.now.setting c.args.machine.now.host c.args.directory.now k c.args.piece.now c.in_ok-fed.fed c.args.out.now.items c.feed.new.out.items c.feed.new.self.pending (c.in_ok-fed.ensures.ok k h))
    (subst (λ (old : List ℕ). (x : Directory) (k : Conversation) → StandsFor c.feed.new.self k
    → Happens (StandsFor c.answer.new.self) c.feed.new.self.setting c.feed.new.self.host x k (on.Answered c.in_ok-verdicts.verdicts.items) (told ++ old) (told ++ c.answer.new.out.items)) c.reserve.ensures.items
    (subst (λ (vs : List Verdict). (x : Directory) (k : Conversation) → StandsFor c.feed.new.self k
    → Happens (StandsFor c.answer.new.self) c.feed.new.self.setting c.feed.new.self.host x k (on.Answered vs) (told ++ c.reserve.new.self.items) (told ++ c.answer.new.out.items))
    c.as_slice.ensures.value
    (λ x k h. happens_behind told c.feed.new.self.setting c.feed.new.self.host x k (on.Answered c.as_slice.result.now) c.reserve.new.self.items c.answer.new.out.items (c.in-Ok.ensures.ok x k h))))
    (λ fits. c.in_ok-verdicts.ensures.books (open_to c.args.context.now.intake.now.directory c.args.directory.now c.args.producer.now.desk.permits.items (submission_of c.submission.result.now).mailboxes c.requires.marks c.requires.permits.1 fits)) stands

pub returns-in-More-clause-stands : goal.returns-in-More-clause-stands
returns-in-More-clause-stands g c done bytes told stands =
    stands_on c.args.directory.now c.args.context.now.intake.now.directory (rooms_of c.args.context.now.intake.now.lanes.items) c.args.producer.now.desk.number done bytes c.args.machine.now c.feed.new.self (told ++ c.args.out.now.items) (told ++ c.feed.new.out.items) (g.N.VerdictLog.tells c.args.producer.now.book)
    (received c.args.producer.now.desk.receiver) (map put_by c.args.producer.now.desk.permits.items) c.args.piece.now c.in_ok-fed.fed c.in_ok-fed.ensures.same.0 c.in_ok-fed.ensures.same.1 (λ e. let x : More ≡ Submit = sym c.in-More.is ∙ e in cc)
    (λ k h. follows_behind told c.args.machine.now.setting c.args.machine.now.host c.args.directory.now k c.args.piece.now c.in_ok-fed.fed c.args.out.now.items c.feed.new.out.items c.feed.new.self.pending (c.in_ok-fed.ensures.ok k h)) stands

pub returns-in-Quit-clause-stands : goal.returns-in-Quit-clause-stands
returns-in-Quit-clause-stands g c done bytes told stands =
    stands_on c.args.directory.now c.args.context.now.intake.now.directory (rooms_of c.args.context.now.intake.now.lanes.items) c.args.producer.now.desk.number done bytes c.args.machine.now c.feed.new.self (told ++ c.args.out.now.items) (told ++ c.feed.new.out.items) (g.N.VerdictLog.tells c.args.producer.now.book)
    (received c.args.producer.now.desk.receiver) (map put_by c.args.producer.now.desk.permits.items) c.args.piece.now c.in_ok-fed.fed c.in_ok-fed.ensures.same.0 c.in_ok-fed.ensures.same.1 (λ e. let x : Quit ≡ Submit = sym c.in-Quit.is ∙ e in cc)
    (λ k h. follows_behind told c.args.machine.now.setting c.args.machine.now.host c.args.directory.now k c.args.piece.now c.in_ok-fed.fed c.args.out.now.items c.feed.new.out.items c.feed.new.self.pending (c.in_ok-fed.ensures.ok k h)) stands

-- what was said before stands in front of what was said until memory or a verdict was wanting
pub returns-in_err-verdicts-clause-kept : goal.returns-in_err-verdicts-clause-kept
returns-in_err-verdicts-clause-kept g c =
    let host = c.args.machine.now.host in
    where_err c.from_residual-in_err-verdicts.result
    ((done : List Judged) (bytes told : List ℕ)
    → Stands c.args.directory.now c.args.context.now.intake.now.directory (rooms_of c.args.context.now.intake.now.lanes.items) c.args.producer.now.desk.number done bytes false c.args.machine.now (told ++ c.args.out.now.items) (g.N.VerdictLog.tells c.args.producer.now.book) (received c.args.producer.now.desk.receiver)
    (map put_by c.args.producer.now.desk.permits.items)
    → StartsWith c.reserve.new.self.items c.args.out.now.items)
    (λ done bytes told stands.
    let f = c.in_ok-fed.ensures.ok stands.at stands.machine in
    starts_with_of_append c.reserve.new.self.items c.args.out.now.items (wire host f.turn.replies) (c.reserve.ensures.items ∙ f.said))
