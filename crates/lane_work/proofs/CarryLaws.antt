-- What a courier carried, message by message.
use Rattle.std.proofs.Common.{◌≡◌, ◌++◌, ◌∙◌, ℕ, List, [], ◌∷◌, append-nil, append_assoc, ap, map, subst, sym}
use Rattle.std.proofs.lemmas.List.{map-append}
use Rattle.workers_sync.specs.Carried.{Carried, copy_of, judged_of}
use Rattle.delivery_token.specs.declared.Job.{Job}
use Rattle.delivery_token.specs.declared.Verdict.{Verdict}
use Rattle.shard_queue.specs.Reply.{received}
use Rattle.shard_queue.specs.Shared.{IsStartOf}
use Rattle.lane_work.specs.Account.{AreBooksOf, rooms_of}
use Rattle.lane_work.specs.inner.Couriers.{CarriesOn}
use Rattle.lane_work.specs.Permits.{put_by}
use Rattle.lane_work.specs.inner.Copies.{WasJudged}
use Rattle.lane_work.specs.declared.desk.Desk.{Desk}
use Rattle.lane_work.specs.declared.desk.Intake.{Intake}
use Rattle.lane_work.proofs.CopyLaws.{one_more}

pub carries_nothing : {B : Type 0} (intake : Intake B) (serial : ℕ) (desk : Desk B) → CarriesOn intake serial desk [] desk
carries_nothing intake serial desk copies books =
    subst (λ (l : List (Job × Verdict)). AreBooksOf intake.directory (rooms_of intake.lanes.items) desk.number l (λ told. Unit {0}) (received desk.receiver) (map put_by desk.permits.items)) (sym (append-nil copies)) books

-- one message more; whoever carries it sits at the same desk, in the same intake and for the same session
pub carries_more : {B : Type 0} (intake there : Intake B) (serial same_serial : ℕ) (first old new : Desk B) (done : List Carried) (one : Carried) → there ≡ intake → same_serial ≡ serial → old.number ≡ first.number
    → CarriesOn intake serial first done old
    → WasJudged there.directory (rooms_of there.lanes.items) old.number (copy_of old.number same_serial one) one.verdict (received new.receiver) (map put_by old.permits.items) (map put_by new.permits.items)
    → IsStartOf (received old.receiver) (received new.receiver) → CarriesOn intake serial first (done ++ one ∷ []) new
carries_more intake there serial same_serial first old new done one place session number on was grew copies books =
    let p = first.number in
    let d = intake.directory in
    let rooms = rooms_of intake.lanes.items in
    let before = map put_by old.permits.items in
    let after = map put_by new.permits.items in
    let here : WasJudged d rooms p (copy_of p serial one) one.verdict (received new.receiver) before after =
    subst (λ (o : Intake _). WasJudged o.directory (rooms_of o.lanes.items) p (copy_of p serial one) one.verdict (received new.receiver) before after) place
    (subst (λ (n : ℕ). WasJudged there.directory (rooms_of there.lanes.items) p (copy_of p n one) one.verdict (received new.receiver) before after) session
    (subst (λ (n : ℕ). WasJudged there.directory (rooms_of there.lanes.items) n (copy_of n same_serial one) one.verdict (received new.receiver) before after) number was)) in
    let so_far = copies ++ map (judged_of p serial) done in
    let e : so_far ++ judged_of p serial one ∷ [] ≡ copies ++ map (judged_of p serial) (done ++ one ∷ []) =
    append_assoc copies (map (judged_of p serial) done) (judged_of p serial one ∷ []) ∙ ap (λ (l : List (Job × Verdict)). copies ++ l) (sym (map-append (judged_of p serial) done (one ∷ []))) in
    subst (λ (l : List (Job × Verdict)). AreBooksOf d rooms p l (λ told. Unit {0}) (received new.receiver) after) e
    (one_more d rooms p so_far (λ told. Unit {0}) (λ told. Unit {0}) (received old.receiver) (received new.receiver) (copy_of p serial one) one.verdict before after here (λ told h. tt) grew (on copies books))
