use Rattle.std.proofs.Common.{◌≡◌, ℕ, ◌+◌, ◌<◌, ◌++◌, List, [], ◌∷◌, take, length, ap, sym, subst, ◌∙◌, Some}
use Rattle.std.specs.Option.{option_map, option_to_list}
use Rattle.line_io.specs.Cutting.{Tells, StandsFor as HasTaken}
use Rattle.line_io.specs.declared.What.{What as Found}
use Rattle.dot_stuffing.specs.Unstuffing.{IsBehind, Unstuffer, StandsFor as HasUnstuffed}
use Rattle.lmtp_machine.specs.contracts.machine.LmtpMachine.{the_view}
use Rattle.lmtp_machine.specs.declared.commands.Stage.{Stage}
use Rattle.lmtp_machine.specs.declared.machine.LmtpMachine.TheInside.{Inside}
use Rattle.lmtp_machine.specs.declared.reply.Reply.TheVariants.{LineTooLong}
use Rattle.lmtp_machine.specs.Dialogue.{wire}
use Rattle.lmtp_machine.specs.Standing.{IsOpen}
use Rattle.lmtp_machine.specs.LmtpMachine.{LmtpMachine}
use Rattle.lmtp_machine.specs.Message.{return_path}
use Rattle.lmtp_machine.specs.Calls.{submission_of}
use Rattle.lmtp_machine.specs.inner.Ending.{what_of}
use Rattle.lmtp_machine.proofs.Follow.{line_follows, more_follows, no_data_begins, open_pending, long_takes, takes_as, cutter_of}
use Rattle.lmtp_machine.proofs.machine.LmtpMachine.feed_commands.Goals as goal
use Rattle.lmtp_machine.proofs.machine.LmtpMachine.feed_commands.Goals.{in-NeedMore, in-TooLong, in-Line}

pub returns-clause-ok : goal.returns-clause-ok
returns-clause-ok c c' s =
    let m : LmtpMachine = c.args.self.now in
    let new : LmtpMachine = the_view c.match-cut.self-inside in
    let used : List ℕ = take c.take-cut.result.used c.args.piece.now in
    let open_stage : IsOpen c.self.inside.commands.stage = subst (λ (x : LmtpMachine). IsOpen x.commands.stage) (sym c.self.view_is) c.requires in
    let quiet = open_pending c.self.inside.commands.stage c.self.inside.commands.recipients (option_to_list (option_map submission_of c.self.inside.submission)) open_stage c.self.invariant.4 in
    let held : HasTaken c.self.inside.cutter c'.unfinished = subst (λ (x : LmtpMachine). HasTaken x.cutter c'.unfinished) (sym c.self.view_is) (cutter_of m c' c.requires s) in
    let told = c.take-cut.ensures.lines c'.unfinished held in
    let taken = c.take-cut.ensures.stands c'.unfinished held in
    let what : c.what_of.result ≡ what_of c.match-cut.self-inside.commands.stage = c.what_of.ensures ∙ ap (λ (x : Stage). what_of x) c.stage.ensures in
    elim c.match-cut.branch [
      | in-NeedMore w ↦
          let cut = subst (λ (x : Found). Tells x c.take-cut.new.self c'.unfinished used) w.in-NeedMore.is told in
          more_follows m new c.args.directory.now c' c.args.piece.now c.take-cut.result.used c.what_of.result c.args.out.now.items c.match-cut.out.items c.requires s
          (ap (λ (x : Inside). x.commands) w.self-inside-is ∙ ap (λ (x : LmtpMachine). x.commands) c.self.view_is)
          (ap (λ (x : Inside). x.unstuffer) w.self-inside-is ∙ ap (λ (x : LmtpMachine). x.unstuffer) c.self.view_is)
          (subst (λ (x : Inside). HasTaken x.cutter (c'.unfinished ++ used)) (sym w.self-inside-is) taken)
          cut (c.take-cut.ensures.all_used w.in-NeedMore.is)
          (ap (λ x. x.items) w.out-is ∙ c.reserve.ensures.items)
          (ap (λ (x : Inside). option_to_list (option_map submission_of x.submission)) w.self-inside-is ∙ quiet)
          what
      | in-TooLong w ↦
          let cut = subst (λ (x : Found). Tells x c.take-cut.new.self c'.unfinished used) w.in-TooLong.is told in
          let long : 512 < length cut.0 + 2 = subst (λ (x : ℕ). x < length cut.0 + 2) (c.take-cut.ensures.max ∙ c.self.invariant.1) cut.2 in
          line_follows m new c.args.directory.now c' c.args.piece.now c.take-cut.result.used c.what_of.result c.args.out.now.items c.match-cut.out.items cut.0 c.requires s
          (λ h. subst (λ (x : Unstuffer). HasUnstuffed x []) (sym (ap (λ (x : Inside). x.unstuffer) w.self-inside-is ∙ ap (λ (x : LmtpMachine). x.unstuffer) c.self.view_is)) h)
          (no_data_begins m new c.requires (ap (λ (x : Inside). x.commands) w.self-inside-is ∙ ap (λ (x : LmtpMachine). x.commands) c.self.view_is))
          (subst (λ (x : Inside). HasTaken x.cutter (c'.unfinished ++ used)) (sym w.self-inside-is) taken)
          cut.1
          (long_takes m new c.args.directory.now cut.0 c.args.out.now.items c.match-cut.out.items
          (ap (λ (x : Inside). x.commands) w.self-inside-is ∙ ap (λ (x : LmtpMachine). x.commands) c.self.view_is) long
          (ap (λ x. x.items) w.out-is ∙ w.say.ensures.said ∙ ap (λ (x : List ℕ). x ++ wire m.host (LineTooLong ∷ [])) c.reserve.ensures.items))
          (ap (λ (x : Inside). option_to_list (option_map submission_of x.submission)) w.self-inside-is ∙ quiet)
          what
      | in-Line w ↦
          let cut = subst (λ (x : Found). Tells x c.take-cut.new.self c'.unfinished used) w.in-Line.is told in
          let same : Some w.line.result.now ≡ Some cut.0 = sym w.line.ensures ∙ cut.3 in
          let line_is : w.line.result.now ≡ cut.0 = cc in
          line_follows m new c.args.directory.now c' c.args.piece.now c.take-cut.result.used c.what_of.result c.args.out.now.items c.match-cut.out.items cut.0 c.requires s
          (λ h. subst (λ (x : Inside). HasUnstuffed x.unstuffer []) (sym w.self-inside-is)
          (w.begin_data.ensures.stands (subst (λ (x : LmtpMachine). HasUnstuffed x.unstuffer []) (sym c.self.view_is) h)))
          (λ e. subst (λ (x : Inside). IsBehind x.unstuffer.collected (return_path x.commands.sender)) (sym w.self-inside-is)
          (w.begin_data.ensures.behind (ap (λ (x : Inside). x.commands.stage) (sym w.self-inside-is) ∙ e)))
          (subst (λ (x : Inside). HasTaken x.cutter (c'.unfinished ++ used)) (sym w.self-inside-is) taken)
          cut.1
          (takes_as c.args.directory.now w.as_slice-in-Line.result.now m.host c.self.inside.commands m.commands w.line-in-Line.new.self new.commands w.line.result.now cut.0
          c.reserve.new.self.items c.args.out.now.items w.line-in-Line.new.out.items c.match-cut.out.items
          (w.as_slice-in-Line.ensures.value ∙ ap (λ (x : LmtpMachine). x.host) c.self.view_is)
          (ap (λ (x : LmtpMachine). x.commands) c.self.view_is)
          (sym (ap (λ (x : Inside). x.commands) w.self-inside-is))
          line_is c.reserve.ensures.items
          (sym (ap (λ x. x.items) w.out-is))
          w.line-in-Line.ensures)
          (ap (λ (x : Inside). option_to_list (option_map submission_of x.submission)) w.self-inside-is ∙ quiet)
          what
    ]
