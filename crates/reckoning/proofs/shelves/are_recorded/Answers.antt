use Rattle.std.proofs.Common.{rules, ◌≡◌, ◌∙◌, ap, arith, slice_index_or, slice_set, subst, sym}
use Rattle.std.proofs.lemmas.List.Elements.{All-get_or}
use Rattle.locked_mailbox.specs.Locking.{LockedMailbox}
use Rattle.lane_work.proofs.PermitLaws.{set_same}
use Rattle.reckoning.specs.Shelves.{IsRecorded, IsTaught}
use Rattle.reckoning.proofs.Histories.{all_at_all, all_at_take}
use Rattle.reckoning.proofs.shelves.are_recorded.Goals as goal

pub is_recorded-requires : goal.is_recorded-requires
is_recorded-requires g c =
    let v = c.loop-number.invariant in
    let all = c.args.unlocked.now.items in
    let n = c.loop-number.number in
    let x : LockedMailbox = c.index_mut.result.now in
    let is : x ≡ slice_index_or all n x = c.index_mut.ensures.value ∙ ap (λ l. slice_index_or l n x) v.0 in
    let there = All-get_or (IsTaught c.args.front.now) all n x (omega (arith, c.loop-number-test.true, c.len-number-end.ensures, c.args.unlocked.now.ok.0)) c.requires.taught in
    record { taught = subst (IsTaught c.args.front.now) (sym is) there }

pub loop-number-preserved : goal.loop-number-preserved
loop-number-preserved g c =
    let v = c.loop-number.invariant in
    let xs = c.loop-number.unlocked.items in
    let all = c.args.unlocked.now.items in
    let n = c.loop-number.number in
    let x : LockedMailbox = c.index_mut.result.now in (
      ap (slice_set xs n) c.is_recorded.ensures.same ∙ (ap (slice_set xs n) c.index_mut.ensures.value ∙ (set_same xs n x ∙ v.0)),
      v.1,
      all_at_take (IsRecorded c.args.front.now) all n x (omega (arith, c.loop-number-test.true, c.len-number-end.ensures, c.args.unlocked.now.ok.0))
          (c.index_mut.ensures.value ∙ ap (λ l. slice_index_or l n x) v.0) (c.is_recorded.ensures.recorded (search rules)) v.2,
    )

pub returns-clause-recorded : goal.returns-clause-recorded
returns-clause-recorded g c is =
    all_at_all (IsRecorded c.args.front.now) c.args.unlocked.now.items c.loop-number.number (omega (arith, c.loop-number-test.false, c.len-number-end.ensures, c.args.unlocked.now.ok.0)) c.loop-number.invariant.2
