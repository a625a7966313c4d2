-- What a worker's connections submit is for shards that it hasn't closed.
use Rattle.std.proofs.Common.{◌≡◌, ◌∙◌, ℕ, ◌<◌, Bool, true, false, ap, sym, subst, arith, All, ◌||◌}
use Rattle.std.specs.List.{list_any}
use Rattle.std.proofs.lemmas.List.Elements.{All-weaker}
use Rattle.envelope.specs.Names.{Directory, is_shut, shard_of}
use Rattle.lane_work.specs.Account.{closings_of, is_closed_by, setting_at}
use Rattle.lane_work.specs.Talk.{Judged}
use Rattle.lane_work.proofs.ClosedLaws.{AreOpen, IsOpen, judged_open}
use Rattle.running_house.specs.Laws.{ClosedGetNothing}
use Rattle.running_house.proofs.BackLaws.{lines_are_a_talk}

neither : (a b : Bool) → (a || b) ≡ false → b ≡ false
neither true b e = absurd (let x : true ≡ false = e in cc)
neither false b e = e

pub closed_get_nothing : ClosedGetNothing
closed_get_nothing house seat serial bytes replied judged is some =
    let own = is.own in
    let IsUnclosed : ℕ → Type 0 = λ mailbox. list_any (is_closed_by serial (shard_of house.directory mailbox)) (closings_of house seat) ≡ false in
    let one : (mailbox : ℕ) → IsOpen own mailbox → IsUnclosed mailbox = λ mailbox unshut.
    (let here : is_shut own (shard_of house.directory mailbox) ≡ false = subst (λ shard. is_shut own shard ≡ false) (ap (λ (d : Directory). shard_of d mailbox) is.marked.same) unshut in
    let within : shard_of house.directory mailbox < house.directory.shards = omega (arith, some) in
    neither (is_shut house.directory (shard_of house.directory mailbox)) _ (sym (is.marked.marks (shard_of house.directory mailbox) within) ∙ here)) in
    All-weaker (λ (j : Judged). AreOpen own j.message) (λ (j : Judged). All IsUnclosed j.message.mailboxes)
    (λ j h. All-weaker (IsOpen own) IsUnclosed one j.message.mailboxes h) judged
    (judged_open (setting_at house seat serial) own (lines_are_a_talk (setting_at house seat serial) own bytes is.said judged is.dialogue).talk)
