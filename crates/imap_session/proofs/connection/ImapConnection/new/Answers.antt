use Rattle.std.proofs.Common.{refl}
use Rattle.line_io.specs.inner.WireLaws.{uncut_nil}
use Rattle.imap_session.proofs.connection.ImapConnection.new.Goals as goal

pub returns : goal.returns
returns c = record { session = c.new-2.ensures; cutter = c.in_ok-cutter.ensures.stands; uncut = uncut_nil; alone = λ due. refl }
