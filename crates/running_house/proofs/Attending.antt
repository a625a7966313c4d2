-- A session's account, of what its life and the end of its permits tell.
use Rattle.std.proofs.Common.{◌≡◌, ◌∷◌, ℕ, List, [], Some, None, length, map, sym, subst}
use Rattle.workers_sync.specs.Carried.{Carried, judged_of}
use Rattle.delivery_token.specs.declared.Job.{Job}
use Rattle.delivery_token.specs.declared.log.Noted.{Noted}
use Rattle.house_shared.specs.Users.{user_numbered}
use Rattle.house_shared.specs.declared.shared.HouseShared.{HouseShared}
use Rattle.house_shared.specs.declared.shared.Guest.{Guest}
use Rattle.house_history.specs.declared.event.Event.{Event}
use Rattle.imap_session.specs.Folders.{folders_of}
use Rattle.imap_session.specs.Commands.{greeting}
use Rattle.imap_session.specs.declared.standing.Profile.TheVariants.{Standard}
use Rattle.lane_work.specs.Account.{AreAccountedFor, AreBooksOf, HaveEnded, notes_tell, rooms_of}
use Rattle.lane_work.specs.Couriers.{HasCarried}
use Rattle.lane_work.specs.Speaking.{premises_of}
use Rattle.lane_work.specs.declared.desk.Desk.{Desk}
use Rattle.lane_work.specs.declared.desk.Intake.{Intake}
use Rattle.lane_work.proofs.ServedLaws.{accounted_of}
use Rattle.session_thread.specs.Life.{Lives, greeted_at}
use Rattle.session_thread.specs.Locks.{LockedStore}
use Rattle.shard_queue.specs.Reply.{received}
use Rattle.lane_work.specs.Permits.{put_by}
use Rattle.shard_queue.specs.Shared.{IsStartOf}
use Rattle.shard_queue.specs.declared.lane.Entry.{Entry}
use Rattle.house_shared.specs.Left.{most_of}
use Rattle.running_house.specs.Produced.{SessionAccount}
use Rattle.running_house.specs.inner.Crew.{HasLived}

-- books of the same desk, by its own number and serial
same_books : {B : Type 0} (intake now : Intake B) (desk : Desk B) (seat serial : ℕ) (notes : List Noted) (carried : List Carried) → now ≡ intake → desk.number ≡ seat → serial ≡ 0
    → HasCarried now desk serial (notes_tell notes) carried
    → AreBooksOf intake.directory (rooms_of intake.lanes.items) seat (map (judged_of seat 0) carried) (notes_tell notes) (received desk.receiver) (map put_by desk.permits.items)
same_books intake now desk seat serial notes carried there own first books =
    subst (λ (o : Intake _). AreBooksOf o.directory (rooms_of o.lanes.items) seat (map (judged_of seat 0) carried) (notes_tell notes) (received desk.receiver) (map put_by desk.permits.items)) there
    (subst (λ (n : ℕ). AreBooksOf now.directory (rooms_of now.lanes.items) n (map (judged_of n 0) carried) (notes_tell notes) (received desk.receiver) (map put_by desk.permits.items)) own
    (subst (λ (s : ℕ). AreBooksOf now.directory (rooms_of now.lanes.items) desk.number (map (judged_of desk.number s) carried) (notes_tell notes) (received desk.receiver) (map put_by desk.permits.items)) first books))

pub session_account : {B : Type 0} (shared : HouseShared B) (now : Intake B) (desk : Desk B) (seat serial : ℕ) (guest : Guest) (user : List ℕ) (selection : LockedStore) (began : List Event) (carried : List Carried) (text : List ℕ) (replies : List (List ℕ)) (notes kept : List Noted)
    (hears : List (Entry Noted)) (after : List (List (Entry Job)))
    → now ≡ shared.intake → desk.number ≡ seat → serial ≡ 0 → kept ≡ notes
    → user_numbered guest.user shared.intake.directory.homes ≡ Some user → selection ≡ record { mailboxes = length shared.delivery.mailboxes.items; entered = None; history = began }
    → HasLived shared user selection guest carried text → replies ≡ text ∷ []
    → HasCarried now desk serial (notes_tell notes) carried → IsStartOf (received desk.receiver) hears → HaveEnded desk.number (map put_by desk.permits.items) after
    → SessionAccount (premises_of shared.intake) (length shared.delivery.mailboxes.items) shared.turns seat guest replies kept hears after
session_account shared now desk seat serial guest user selection began carried text replies notes kept hears after there own first same named outside lived one books grew ended = record {
  carried = carried;
  text = text;
  stayed = record {
    user = user;
    named = named;
    began = began;
    last = lived.last;
    lives = subst (λ (p : LockedStore). Lives shared.turns (greeted_at (Some (most_of shared.intake.max_message)) (folders_of shared.intake.directory user) p (greeting Standard)) guest.steps.items carried lived.last) outside lived.lives;
    wrote = lived.wrote;
  };
  alone = one;
  copies = subst (λ (ns : List Noted). AreAccountedFor (premises_of shared.intake) seat (map (judged_of seat 0) carried) ns hears after) (sym same)
      (accounted_of (premises_of shared.intake) seat (map (judged_of seat 0) carried) notes (received desk.receiver) hears (map put_by desk.permits.items) after grew
      (subst (λ (n : ℕ). HaveEnded n (map put_by desk.permits.items) after) own ended) (same_books shared.intake now desk seat serial notes carried there own first books));
}
