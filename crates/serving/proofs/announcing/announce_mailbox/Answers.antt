use Rattle.std.specs.Prelude.{slice_get}
use Rattle.serving.proofs.AnnouncingLaws.{no_more}
use Rattle.serving.proofs.announcing.announce_mailbox.Goals as goal

pub returns-in_default : goal.returns-in_default
returns-in_default c = no_more (slice_get c.args.directory.now.homes c.args.mailbox) c.args.out.now.items c.args.ports.now c.in_default.ensures.cases
