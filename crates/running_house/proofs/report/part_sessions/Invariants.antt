use Rattle.std.proofs.Common.{◌≡◌, ◌+◌, ◌++◌, drop, take, vec_len, vec_capacity}
use Rattle.running_house.specs.inner.Agree.{AreTexts}
use Rattle.running_house.proofs.report.part_sessions.Given as goal

abbrev pub invariant-loop-session : goal.invariant-loop-session
invariant-loop-session l =
    (l.replies.items ≡ take l.workers l.fn.replies.items ++ drop l._session l.fn.replies.items)
    × (l.workers + vec_len l.sessions ≡ l._session)
    × (l.workers + vec_capacity l.sessions ≡ vec_len l.fn.replies)
    × AreTexts (take (vec_len l.sessions) (drop l.workers l.fn.replies.items)) l.sessions.items
