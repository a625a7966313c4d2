use Rattle.std.proofs.Common.{◌∙◌, sym, ap}
use Rattle.envelope.specs.Names.{numbered, wanted, lookup}
use Rattle.envelope.specs.Values.{forward_path}
use Rattle.envelope.proofs.directory.Directory.lookup.Goals as goal

pub returns-in-Postmaster-clause-value : goal.returns-in-Postmaster-clause-value
returns-in-Postmaster-clause-value c =
    c.find.ensures.value
    ∙ ap (λ v. numbered c.args.self.now (wanted v)) c.of.ensures
    ∙ sym (ap (λ p. lookup c.args.self.now (forward_path p)) c.in-Postmaster.is)
