use Rattle.std.proofs.Common.{◌∙◌, sym}
use Rattle.imap_session.proofs.PlainLaws.{decoded_none, decoded_some}
use Rattle.imap_session.proofs.plain.decoded.Goals as goal

pub returns-in_default : goal.returns-in_default
returns-in_default c = decoded_none c.args.text.now _ c.in_default.field-0 c.requires.room (sym c.in_default.is ∙ c.decode_slice.ensures.value)

pub returns : goal.returns
returns c = decoded_some c.args.text.now c.args.room.now c.decode_slice.new.output _ c.in-Ok.n c.requires.room (sym c.in-Ok.is ∙ c.decode_slice.ensures.value) c.in-Ok.ensures.written
