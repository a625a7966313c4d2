use Rattle.std.proofs.Common.{rules, of_calls, ◌≡◌, ◌∙◌, ℕ, Option, Some, ap, refl, eq-eqb, ltb, ◌==◌}
use Rattle.std.specs.Prelude.{slice_get}
use Rattle.std.specs.Option.{option_eq}
use Rattle.std.proofs.lemmas.Option.{gets}
use Rattle.std.proofs.lemmas.Fn.{always_returns_same}
use Rattle.std.proofs.lemmas.List.Sorted.{IsPartitionedBy-ltb}
use Rattle.mailbox.proofs.LetterLaws.{absent}
use Rattle.mailbox.proofs.MarkLaws.{not_falling}
use Rattle.mailbox.proofs.letters.position_of.Goals as goal

same_uid : (o : Option ℕ) (uid : ℕ) → o ≡ Some uid → option_eq (λ (a b : ℕ). a == b) o (Some uid) ≡ (uid == uid)
same_uid o uid e = ap (λ (x : Option ℕ). option_eq (λ (a b : ℕ). a == b) x (Some uid)) e

pub returns-else-eq-2-clause-none : goal.returns-else-eq-2-clause-none
returns-else-eq-2-clause-none c =
    let us = c.args.uids.now in
    let uid = c.args.uid in
    let point = c.partition_point-position.ensures.partitioned (λ (u : ℕ). ltb u uid) (always_returns_same _ _ _ (λ a r f k. search (rules, of_calls)))
    (IsPartitionedBy-ltb (λ (u : ℕ). u) us uid (not_falling us c.requires)) in
    absent uid us c.partition_point-position.result c.requires point (λ there.
    let got : c.copied-2.result ≡ slice_get us c.partition_point-position.result = search (rules, gets) in
    let is = same_uid c.copied-2.result uid (got ∙ there) in
    let off = c.if-eq-2.false in
    let tells = c.eq-2.ensures in
    let same = eq-eqb uid uid refl in
    cc)
