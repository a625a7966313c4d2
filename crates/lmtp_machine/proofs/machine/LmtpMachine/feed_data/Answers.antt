use Rattle.std.proofs.Common.{ℕ, List, take, ap, sym, subst, ◌∙◌}
use Rattle.dot_stuffing.specs.Unstuffing.{IsBehind, Unstuffer, Tells}
use Rattle.dot_stuffing.specs.Unstuffing.{StandsFor as HasUnstuffed}
use Rattle.dot_stuffing.specs.declared.Outcome.{Outcome}
use Rattle.dot_stuffing.specs.declared.Progress.{Progress}
use Rattle.lmtp_machine.specs.declared.commands.Stage.{Stage}
use Rattle.std.specs.Option.{option_map, option_to_list}
use Rattle.lmtp_machine.specs.contracts.machine.LmtpMachine.{the_view}
use Rattle.lmtp_machine.specs.Calls.{submission_of}
use Rattle.lmtp_machine.specs.Dialogue.{on_outcome}
use Rattle.lmtp_machine.specs.LmtpMachine.{LmtpMachine}
use Rattle.lmtp_machine.specs.inner.LmtpMachine.{IsPending}
use Rattle.lmtp_machine.specs.Message.{return_path}
use Rattle.lmtp_machine.specs.inner.Ending.{Becomes, Does}
use Rattle.lmtp_machine.proofs.Follow.{data_more_follows, data_done_follows}
use Rattle.lmtp_machine.proofs.machine.LmtpMachine.feed_data.Goals as goal

pub returns-in-More-clause-ok : goal.returns-in-More-clause-ok
returns-in-More-clause-ok c c' s =
    data_more_follows c.args.self.now _ c.args.directory.now c' c.args.piece.now c.take-taken.result.used c.args.out.now.items c.reserve.new.self.items
    c.requires s (ap (λ (m : LmtpMachine). m.commands) c.self.view_is) (ap (λ (m : LmtpMachine). m.cutter) c.self.view_is)
    (λ wire h. subst (λ (p : Progress). Tells p c.take-taken.new.self wire (take c.take-taken.result.used c.args.piece.now)) c.in-More.is
    (c.take-taken.ensures.data wire (subst (λ (m : LmtpMachine). HasUnstuffed m.unstuffer wire) (sym c.self.view_is) h)))
    (λ front h. c.take-taken.ensures.behind front (subst (λ (m : LmtpMachine). IsBehind m.unstuffer.collected front) (sym c.self.view_is) h))
    (c.take-taken.ensures.all_used c.in-More.is) c.reserve.ensures.items
    (subst (λ (x : Stage). IsPending x c.self.inside.commands.recipients (option_to_list (option_map submission_of c.self.inside.submission))) (ap (λ (m : LmtpMachine). m.commands.stage) c.self.view_is ∙ c.requires) c.self.invariant.4)

pub returns-in-Done-clause-ok : goal.returns-in-Done-clause-ok
returns-in-Done-clause-ok c c' s =
    data_done_follows c.args.self.now c.end_data-what.new.self c.new-fresh.result c.args.directory.now c' c.args.piece.now c.take-taken.result.used c.end_data-what.result
    c.args.out.now.items c.end_data-what.new.out.items c.take-taken.new.self c.in-Done.outcome c.requires s c.new-fresh.ensures.stands
    (λ wire h. subst (λ (p : Progress). Tells p c.take-taken.new.self wire (take c.take-taken.result.used c.args.piece.now)) c.in-Done.is
    (c.take-taken.ensures.data wire (subst (λ (m : LmtpMachine). HasUnstuffed m.unstuffer wire) (sym c.self.view_is) h)))
    (λ front h. c.take-taken.ensures.behind front (subst (λ (m : LmtpMachine). IsBehind m.unstuffer.collected front) (sym c.self.view_is) h))
    (c.take-taken.ensures.max ∙ c.self.invariant.3 ∙ ap (λ (m : LmtpMachine). m.setting.max_message) c.self.view_is)
    (λ lines b k.
    let renamed = ap (λ (u : Unstuffer). let x : LmtpMachine = record (the_view c.self.inside) { unstuffer = u } in x) c.replace-ended.ensures.after
    ∙ ap (λ (m : LmtpMachine). let x : LmtpMachine = record m { unstuffer = c.new-fresh.result } in x) c.self.view_is in
    let told = c.end_data-what.ensures.does lines
    (subst (λ (u : Unstuffer). IsBehind u.collected (return_path c.self.inside.commands.sender)) (sym c.replace-ended.ensures.value)
    (subst (λ (m : LmtpMachine). IsBehind c.take-taken.new.self.collected (return_path m.commands.sender)) (sym c.self.view_is) b)) (λ q. ap (λ (u : Unstuffer). u.collected.bytes) c.replace-ended.ensures.value ∙ k q) in
    subst (λ (m : LmtpMachine). (final : Outcome) × Becomes c.in-Done.outcome final
    × Does m (on_outcome m.setting m.commands.submitted m.commands.sender m.commands.recipients lines final) c.end_data-what.new.self c.end_data-what.result
    c.args.out.now.items c.end_data-what.new.out.items) renamed
    (subst (λ (old : List ℕ). (final : Outcome) × Becomes c.in-Done.outcome final
    × Does (record (the_view c.self.inside) { unstuffer = c.replace-ended.new.dest })
    (on_outcome (the_view c.self.inside).setting c.self.inside.commands.submitted c.self.inside.commands.sender c.self.inside.commands.recipients lines final)
    c.end_data-what.new.self c.end_data-what.result old c.end_data-what.new.out.items) c.reserve.ensures.items told))

pub returns-in-Done-clause-same : goal.returns-in-Done-clause-same
returns-in-Done-clause-same c =
    (c.end_data-what.ensures.same.0 ∙ ap (λ (m : LmtpMachine). m.setting) c.self.view_is, c.end_data-what.ensures.same.1 ∙ ap (λ (m : LmtpMachine). m.host) c.self.view_is)
