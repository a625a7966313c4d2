use Rattle.std.proofs.Common.{rules, ◌<◌, length, vec_len, take, drop, sym, subst, ℕ, arith}
use Rattle.running_house.specs.inner.Agree.{AreTexts}
use Rattle.running_house.proofs.Moves.{parted_more}
use Rattle.running_house.proofs.report.part_sessions.Goals as goal

pub loop-session-preserved : goal.loop-session-preserved
loop-session-preserved c =
    let v = c.loop-session.invariant in
    let old = c.args.replies.now.items in
    let under : c.loop-session._session < length old = omega (arith, c.loop-session-test.true, c.len-session-end.ensures, c.args.replies.now.ok.0) in
    let more = parted_more c.args.workers c.loop-session._session (vec_len c.loop-session.sessions) old c.loop-session.replies.items c.remove.new.self.items c.remove.result c.loop-session.sessions.items c.push_reserved.new.self.items c.text_of.result
    v.1 under v.0 c.remove.ensures.value c.remove.ensures.items v.3 c.push_reserved.ensures.items c.text_of.ensures in (
      more.0,
      search rules,
      search rules,
      subst (λ (n : ℕ). AreTexts (take n (drop c.args.workers old)) c.push_reserved.new.self.items) (sym c.push_reserved.ensures.len) more.1,
    )
