use Rattle.std.proofs.Common.{rules, ◌<◌, All, sym, subst, length, arith}
use Rattle.std.proofs.lemmas.List.Elements.{All-push}
use Rattle.house_shared.specs.Crew.{IsPost}
use Rattle.house_shared.specs.declared.shared.Post.{Post}
use Rattle.house_shared.specs.Left.{IsPostLeft}
use Rattle.house_shared.proofs.Positions.{first_at}
use Rattle.running_house.proofs.threads.end_posts.Goals as goal

pub loop-done-preserved : goal.loop-done-preserved
loop-done-preserved g c =
    let v = c.loop-done.invariant in
    let shared = c.args.common.shared.now in
    let P : Post _ → Type 0 = IsPostLeft (length shared.intake.lanes.items) in
    let some : 0 < length c.loop-done.posts.items = omega (arith, v.1, c.loop-done-test.true, c.len-done-end.ensures, c.loop-done.posts.ok.0) in
    let f = first_at (IsPost shared) c.loop-done.done c.loop-done.posts.items c.remove-post.new.self.items c.remove-post.result some c.remove-post.ensures.value c.remove-post.ensures.items v.0 in (
      f.1,
      search rules,
      search rules,
      search rules,
      subst (All P) (sym c.push_reserved.ensures.items) (All-push P c.loop-done.unmanned.items c.end_first.result v.4 c.end_first.ensures),
    )
