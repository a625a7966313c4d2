use Rattle.std.proofs.Common.{arith, ◌≡◌, ◌∙◌, ap, sym, refl, subst}
use Rattle.atomic_table.specs.Table.{keeps}
use mathlib.Core.Option.{some}
use Rattle.std.specs.List.{slice_index}
use Rattle.budget.specs.declared.counting.Stay.{Stay}
use Rattle.budget.specs.Counting.{newcomer, IsTaken}
use Rattle.budget.proofs.Moves.{newcomer_counts, takes}
use Rattle.budget.proofs.hold.taken.Goals as goal

pub load_new_seat-now-requires : goal.load_new_seat-now-requires
load_new_seat-now-requires c =
    let pool = c.args.pool.now in
    (let one = pool.one in omega (arith, one), λ s rule homes small. (newcomer pool.table.shared.key, newcomer_counts s pool.table.shared.key rule, refl))

pub fetch_add-shown-requires : goal.fetch_add-shown-requires
fetch_add-shown-requires c =
    let pool = c.args.pool.now in
    let key = pool.table.shared.key in
    let seat = c.load_new_seat-now.result.1 in
    let came : seat.me.0 ≡ newcomer key = c.load_new_seat-now.ensures.2 in (
      c.load_new_seat-now.ensures.0,
      let one = pool.one in omega (arith, one),
      λ s rule homes at small.
          let went = takes s.words s.views seat.id key c.args.bytes rule.0 rule.1 (at ∙ ap some came) in
          (went.after, keeps, tt, (went.word, went.most), (refl, subst (λ (v : Stay). IsTaken v c.args.bytes (slice_index s.words 0) went.after) (sym came) went.taken)),
    )
