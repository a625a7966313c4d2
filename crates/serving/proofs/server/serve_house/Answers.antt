use Rattle.std.proofs.Common.{rules, refl}
use Rattle.std.proofs.lemmas.Result.{IfOk-weaker}
use Rattle.serving.proofs.AnnouncingLaws.{nothing_said}
use Rattle.serving.proofs.Kept.{left_kept}
use Rattle.serving.proofs.Serving.{settings_or_memory}
use Rattle.serving.proofs.server.serve_house.Goals as goal

pub returns-in_err-directory-clause-refused : goal.returns-in_err-directory-clause-refused
returns-in_err-directory-clause-refused g c fault is = (
  settings_or_memory c.lay_out.result c.from_residual.result c.in_err-directory.field-0.0 fault _ c.in_err-directory.was c.from_residual.ensures.0
      (λ y e. search (rules, e)) is c.lay_out.ensures.wrong c.lay_out.ensures.fault,
  refl,
)

pub returns-in_err-directory-clause-told : goal.returns-in_err-directory-clause-told
returns-in_err-directory-clause-told g c = nothing_said c.args.config.now c.args.beginning.report.status c.args.beginning.uidvalidity (g.W.Sink.taken c.args.output.now)

pub returns-in_err-sockets-clause-told : goal.returns-in_err-sockets-clause-told
returns-in_err-sockets-clause-told g c = nothing_said c.args.config.now c.args.beginning.report.status c.args.beginning.uidvalidity (g.W.Sink.taken c.args.output.now)

pub returns-in_err-log-clause-told : goal.returns-in_err-log-clause-told
returns-in_err-log-clause-told g c = nothing_said c.args.config.now c.args.beginning.report.status c.args.beginning.uidvalidity (g.W.Sink.taken c.args.output.now)

pub returns-clause-kept : goal.returns-clause-kept
returns-clause-kept g c =
    IfOk-weaker c.serve_in.result _ _ (λ finished left. left_kept c.args.config.now finished c.requires.range left) c.serve_in.ensures.left
