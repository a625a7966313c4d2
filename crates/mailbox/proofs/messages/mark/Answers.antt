use Rattle.std.proofs.Common.{rules, of_calls, ◌≡◌, ◌≤◌, ◌∙◌, ℕ, Bool, List, length, ltb, ap, subst, sym}
use Rattle.std.specs.Prelude.{if◌then◌else◌, insert}
use Rattle.std.specs.List.Sorted.{IsStrictlyIncreasing}
use Rattle.std.proofs.lemmas.Fn.{always_returns_same}
use Rattle.std.proofs.lemmas.List.Sorted.{IsPartitionedBy-ltb}
use Rattle.mailbox.specs.inner.Marks.{put_in}
use Rattle.mailbox.proofs.MarkLaws.{not_falling, put_at}
use Rattle.mailbox.proofs.messages.mark.Goals as goal

pub returns-clause-items : goal.returns-clause-items
returns-clause-items c =
    let us = c.args.marked.now.items in
    let vs = c.deref.result.now in
    let same : vs ≡ us = c.deref.ensures.value in
    let uid = c.args.uid in
    let position = c.partition_point-position.result in
    let up = subst IsStrictlyIncreasing (sym same) c.requires.rising in
    let point = c.partition_point-position.ensures.partitioned (λ (u : ℕ). ltb u uid) (always_returns_same _ _ _ (λ a r f k. search (rules, of_calls)))
    (IsPartitionedBy-ltb (λ (u : ℕ). u) vs uid (not_falling vs up)) in
    let within : position ≤ length vs = search rules in
    let put : insert us position uid ≡ put_in uid us = subst (λ (xs : List ℕ). insert xs position uid ≡ put_in uid xs) same (put_at uid vs position point within) in
    c.insert.ensures.items ∙ ap (λ (b : Bool). if b then insert us position uid else us) (c.insert.ensures.succeeds c.requires.room) ∙ put
