use Rattle.std.proofs.Common.{rules, subst, sym}
use Rattle.std.specs.Mem.{manually_drop_value}
use Rattle.tests_threads.specs.inner.Rounds.{IsOwnPost}
use Rattle.tests_threads.proofs.RoundLaws.{alone, own_posts, popped}
use Rattle.shared_consumers.proofs.ConsumerSetLaws.{one_more}
use Rattle.tests_threads.proofs.tests.rounds.pack_all.Goals as goal

pub loop-post-init : goal.loop-post-init
loop-post-init g c = (own_posts c.args.shared.now 0 c.args.posts.items c.requires.posts, search rules, search rules, search rules)

pub loop-post-preserved : goal.loop-post-preserved
loop-post-preserved g c =
    let v = c.loop-post.invariant in
    let shared = c.args.shared.now in
    let own = popped (IsOwnPost shared) c.loop-post.posts.items c.pop.new.self.items c.in-Some.post c.in-Some.ensures.items v.0 in (
      own.0,
      search rules,
      search rules,
      one_more (λ p. IsOwnPost shared (manually_drop_value p)) c.loop-post.parcels.items c.push_reserved.new.self.items c.packed.result c.push_reserved.ensures.items v.3
          (alone (λ p. IsOwnPost shared (manually_drop_value p)) c.packed.result (subst (IsOwnPost shared) (sym c.packed.ensures) own.1)),
    )
