use Rattle.std.proofs.Common.{◌≡◌, ◌≤◌, ◌+◌, All, vec_len, vec_capacity}
use Rattle.std.specs.Mem.{manually_drop_value}
use Rattle.tests_threads.specs.inner.Rounds.{IsOwnPost}
use Rattle.tests_threads.proofs.tests.rounds.pack_all.Given as goal

abbrev pub invariant-loop-post : goal.invariant-loop-post
invariant-loop-post g l =
    All (IsOwnPost l.shared) l.posts.items × (vec_len l.posts + vec_len l.parcels ≤ vec_capacity l.parcels)
    × (vec_len l.posts + vec_len l.parcels ≡ vec_len l.fn.posts)
    × All (λ p. IsOwnPost l.shared (manually_drop_value p)) l.parcels.items

abbrev pub decreases-loop-post : goal.decreases-loop-post
decreases-loop-post g l = goal.left-loop-post g l
