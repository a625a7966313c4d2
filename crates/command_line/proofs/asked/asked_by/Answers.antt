use Rattle.std.proofs.Common.{◌≡◌, [], map}
use Rattle.clap.specs.Words.{HasKind}
use Rattle.command_line.specs.Words.{faults_at}
use Rattle.command_line.proofs.AskLaws.{asks_for, here, own, passed_on}
use Rattle.command_line.proofs.asked.asked_by.Goals as goal

pub returns-in_err-matches-clause-answered : goal.returns-in_err-matches-clause-answered
returns-in_err-matches-clause-answered g c =
    let texts = map g.S.AsStr.text c.args.words.now in
    passed_on (faults_at texts) c.in_err-matches.field-0.0 c.from_residual.result
    (here c.args.command texts (λ faults. HasKind faults c.in_err-matches.field-0.0) c.requires c.in_err-matches.ensures.kinds) c.from_residual.ensures.0 c.from_residual.ensures.1

pub returns-in-Ok-clause-answered : goal.returns-in-Ok-clause-answered
returns-in-Ok-clause-answered g c = here c.args.command (map g.S.AsStr.text c.args.words.now) (λ faults. faults ≡ []) c.requires c.in_ok-matches.ensures.kinds

pub returns-clause-answered : goal.returns-clause-answered
returns-clause-answered g c =
    let texts = map g.S.AsStr.text c.args.words.now in
    own (faults_at texts) c.in_ok-error_of-in-Err.field-0 (here c.args.command texts (λ faults. faults ≡ []) c.requires c.in_ok-matches.ensures.kinds) c.in_ok-error_of-in-Err.ensures

pub returns-in-Ok-clause-asks : goal.returns-in-Ok-clause-asks
returns-in-Ok-clause-asks g c =
    asks_for c.args.command (map g.S.AsStr.text c.args.words.now) c.in_ok-matches.matches c.in-Ok.asked c.requires c.in_ok-matches.ensures.ok.2 c.in-Ok.ensures.asks
