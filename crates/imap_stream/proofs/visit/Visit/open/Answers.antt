use Rattle.std.proofs.Common.{◌≡◌, ap, subst}
use Rattle.imap_session.specs.Commands.{greeting}
use Rattle.imap_session.specs.Exchange.{Standing}
use Rattle.imap_session.specs.declared.standing.Profile.{Profile}
use Rattle.session_thread.proofs.Living.{handed_on}
use Rattle.imap_stream.specs.inner.Visits.{TookFirst}
use Rattle.imap_stream.proofs.visit.Visit.open.Goals as goal

pub returns-in_err-out-clause-cut : goal.returns-in_err-out-clause-cut
returns-in_err-out-clause-cut g c =
    let stop = c.in_err-out.field-0.0 in
    let profile : c.in-Ok.connection.session.profile ≡ c.args.admission.profile = ap (λ (s : Standing). s.profile) c.in-Ok.ensures.session in
    handed_on c.from_residual.result stop _ c.from_residual.ensures.1
    (λ write. subst (λ (p : Profile). TookFirst (g.W.Sink.taken c.args.output) (greeting p) (g.W.Sink.taken stop.0)) profile c.in_err-out.ensures.cut)
