use Rattle.std.proofs.Common.{◌≡◌, ◌+◌, ◌≤◌, sum_by, vec_len, vec_capacity}
use Rattle.reckoning.proofs.abandoning.clear_posts.Given as goal

abbrev pub invariant-loop-post : goal.invariant-loop-post
invariant-loop-post g l =
    (vec_len l.receivers + vec_len l.posts ≡ vec_len l.fn.receivers + vec_len l.fn.posts) × (vec_capacity l.receivers ≡ vec_capacity l.fn.receivers)
    × (vec_len l.permits + sum_by (λ p. vec_len p.desk.permits) l.posts.items ≤ vec_len l.fn.permits + sum_by (λ p. vec_len p.desk.permits) l.fn.posts.items)
    × (vec_capacity l.permits ≡ vec_capacity l.fn.permits)
    × (vec_len l.ended + sum_by (λ p. vec_len p.desk.permits + vec_len p.room) l.posts.items ≤ vec_len l.fn.ended + sum_by (λ p. vec_len p.desk.permits + vec_len p.room) l.fn.posts.items)
    × (vec_capacity l.ended ≡ vec_capacity l.fn.ended)

abbrev pub decreases-loop-post : goal.decreases-loop-post
decreases-loop-post g l = goal.left-loop-post g l
