use Rattle.std.proofs.Common.{◌∙◌, ap}
use Rattle.envelope.specs.Names.{Home}
use Rattle.envelope.specs.LocalPart.{value_left}
use Rattle.envelope.specs.inner.Tag.{tag_of}
use Rattle.envelope.proofs.Tags.{passed_over}
use Rattle.envelope.proofs.directory.StoredHome.is_sought.Goals as goal

pub returns-else-self-sought : goal.returns-else-self-sought
returns-else-self-sought c =
    passed_over c.self.inside.tag c.sought.inside.tag (value_left c.sought.inside.value) c.args.sought.now c.args.self.now
    (c.self.invariant ∙ ap (λ (h : Home). tag_of h.user) c.self.view_is)
    c.sought.invariant c.sought.view_is c.if-self-sought.false
