use Rattle.std.proofs.Common.{◌∙◌}
use Rattle.script.proofs.ObjectLaws.{object_is}
use Rattle.script.proofs.telling.object.Goals as goal

pub returns : goal.returns
returns c =
    object_is c.args.number c.args.line.now c.args.printed.now c.into_inner-told.result.items c.push.new.self.items
    c.new-writer.result c.begin_object.new.self c.key.new.self c.u64.new.self c.key-2.new.self c.string.new.self c.key-3.new.self c.string-2.new.self c.end_object.new.self
    (c.new-writer.ensures.tokens, c.new-writer.ensures.before ∙ c.requires)
    (c.in_ok-begin_object.ensures.ok, c.in_ok-begin_object.ensures.room.0)
    (c.in_ok-key.ensures.ok, c.in_ok-key.ensures.room.0)
    (c.in_ok-u64.ensures.ok, c.in_ok-u64.ensures.room.0)
    (c.in_ok-key-2.ensures.ok, c.in_ok-key-2.ensures.room.0)
    (c.in_ok-string.ensures.ok, c.in_ok-string.ensures.room.0)
    (c.in_ok-key-3.ensures.ok, c.in_ok-key-3.ensures.room.0)
    (c.in_ok-string-2.ensures.ok, c.in_ok-string-2.ensures.room.0)
    (c.in_ok-end_object.ensures.ok, c.in_ok-end_object.ensures.room.0)
    c.into_inner-told.ensures.items c.in_ok-push.ensures.items
