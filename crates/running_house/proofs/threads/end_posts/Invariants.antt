use Rattle.std.proofs.Common.{◌≡◌, ◌≤◌, ◌+◌, All, length, vec_len, vec_capacity}
use Rattle.house_shared.specs.Crew.{AllAt, IsPost}
use Rattle.house_shared.specs.Left.{IsPostLeft}
use Rattle.running_house.proofs.threads.end_posts.Given as goal

abbrev pub invariant-loop-done : goal.invariant-loop-done
invariant-loop-done g l =
    AllAt (IsPost l.common.shared.now) l.done l.posts.items × (vec_len l.posts + l.done ≡ vec_len l.fn.posts)
    × (vec_len l.unmanned ≡ l.done) × (vec_len l.fn.posts ≤ vec_capacity l.unmanned)
    × All (IsPostLeft (length l.common.shared.now.intake.lanes.items)) l.unmanned.items
