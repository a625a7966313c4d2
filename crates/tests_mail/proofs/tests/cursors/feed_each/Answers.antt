use Rattle.std.proofs.Common.{◌-◌, ◌≤◌, sym, subst, arith}
use Rattle.change_ring.specs.Log.{total}
use Rattle.cursor_set.specs.Cursors.{CursorHandle}
use Rattle.cursor_set.proofs.KnownLaws.{IsKnownTo, known_after}
use Rattle.tests_mail.proofs.tests.cursors.feed_each.Goals as goal

pub loop-limit-init : goal.loop-limit-init
loop-limit-init c = record { known = λ o e _. c.requires.known o e }

pub feed-requires : goal.feed-requires
feed-requires c = record { known = c.loop-limit.invariant.known }

pub loop-limit-preserved : goal.loop-limit-preserved
loop-limit-preserved c =
    let handle = c.loop-limit.handle in
    let w = c.args.ring.now in
    let n = c.in-Ok.count in
    let few : n ≤ total w - handle.at = omega (arith, c.in-Ok.ensures.count) in
    subst (λ (s : CursorHandle). IsKnownTo c.feed.new.self s w) (sym c.in-Ok.ensures.handle)
    (known_after c.loop-limit.set c.feed.new.self handle w n c.loop-limit.invariant (omega (arith, c.requires.base)) few c.in-Ok.ensures.moved)
