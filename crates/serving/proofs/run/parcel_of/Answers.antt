use Rattle.std.proofs.Common.{length, subst, sym}
use Rattle.serving.specs.inner.Dealing.{IsDealt}
use Rattle.serving.proofs.run.parcel_of.Goals as goal

pub returns : goal.returns
returns g c =
    let site = c.args.site.now in
    subst (IsDealt g.L.Line.told site.workplace.shared (length site.shutdown_handles.mail.items) (length site.guests.items)) (sym c.packed.ensures) c.requires
