use Rattle.std.proofs.Common.{◌≡◌, ℕ, ◌≤◌, List, ◌++◌, IfOk, length, take, drop, sym, ap, subst, ◌∙◌, arith, drop_at, length-take-le}
use Rattle.std.specs.Prelude.{Option, Result, Ok, Err}
use Rattle.std.specs.Io.KnownBytes.{Consumes}
use borrow.Rule.Slice.PartMut.{take_put}
use lib.Seq.{take-append-le}
use Rattle.server_report.proofs.status.read_behind.Goals as goal

-- What was read into a part of the buffer stands behind what is before that part.
came_behind : {E : Type 0} (old new : Option (List ℕ)) (r : Result ℕ E) (before part after : List ℕ) (at : ℕ) → length before ≡ at → IfOk r (λ n. n ≤ length part)
    → IfOk r (λ n. Consumes old new (take n part)) → IfOk r (λ n. Consumes old new (take n (drop at (before ++ (part ++ after)))))
came_behind old new (Ok n) before part after at long fits came =
    subst (Consumes old new) (sym (ap (take n) (drop_at before (part ++ after) at long) ∙ take-append-le n part after fits)) came
came_behind old new (Err e) before part after at long fits came = tt

pub returns-clause-front : goal.returns-clause-front
returns-clause-front g c = take_put _ _ c.args.buffer.now _ (omega (arith, c.requires))

pub returns-clause-came : goal.returns-clause-came
returns-clause-came g c =
    came_behind _ _ c.read_once.result _ c.read_once.new.buffer _ c.args.came (length-take-le _ c.args.buffer.now (omega (arith, c.requires)))
    c.read_once.ensures.bound c.read_once.ensures.came
