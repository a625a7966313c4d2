-- What a producer of a plan leaves: a worker's thread, or a session's behind the workers.
use Rattle.std.specs.Prelude.{◌≡◌, ◌+◌, ℕ, List, [], ◌∷◌, Some, None, length, map, slice_get, Vec}
use Rattle.workers_sync.specs.Carried.{Carried, judged_of}
use Rattle.delivery_token.specs.declared.Job.{Job}
use Rattle.delivery_token.specs.declared.log.Noted.{Noted}
use Rattle.imap_session.specs.Folders.{folders_of}
use Rattle.shard_queue.specs.declared.lane.Entry.{Entry}
use Rattle.imap_session.specs.Commands.{greeting}
use Rattle.imap_session.specs.declared.standing.Profile.TheVariants.{Standard}
use Rattle.house_history.specs.declared.event.Event.{Event}
use Rattle.session_thread.specs.Life.{Lives, Moment, greeted_at}
use Rattle.lane_work.specs.Account.{AreAccountedFor, Premises}
use Rattle.shard_queue.specs.Permits.{said}
use Rattle.house_shared.specs.Users.{user_numbered}
use Rattle.house_shared.specs.Left.{most_of}
use Rattle.house_shared.specs.declared.shared.Guest.{Guest}
use Rattle.std.specs.Global.{Global}
use Rattle.shard_queue.specs.Reply.{ReplyChannel}
use Rattle.lane_work.specs.declared.worker.Worked.{Worked}
use Rattle.lane_work.specs.declared.worker.Fate.TheVariants.{Whole}
use Rattle.lane_work.specs.Account.{Account}
use Rattle.lane_work.specs.Backing.{IsBackedBy}
use Rattle.lane_work.specs.Awaiting.{copies_in, verdicts_in}
use Rattle.lane_work.specs.Permits.{AreEnded}
use Rattle.lane_work.specs.Speaking.{premises_of}
use Rattle.shard_queue.specs.Reply.{IsReceiver, received}
use Rattle.house_shared.specs.declared.shared.HouseShared.{HouseShared}

-- what the workers are to serve: of each worker, of each connection, the bytes that come
abbrev pub Plans : Type 0
Plans = List (Vec (Vec ℕ Global) Global)

module _ (house : Premises) (mailboxes turns : ℕ) (guest : Guest) where
  -- A session of this user with these steps said this: it was greeted in no mailbox, and lived through its steps, over so many mailboxes. These
  -- messages of its client were carried on the way, in this order. `began` is how the house's history begins, as far as it had seen it when it came.
  pub record WasGuest (carried : List Carried) (text : List ℕ) : Type 0 where
    pub user : List ℕ
    pub named : user_numbered guest.user house.directory.homes ≡ Some user
    pub began : List Event
    pub last : Moment
    pub lives : Lives turns (greeted_at (Some (most_of house.max_message)) (folders_of house.directory user)
        (record { mailboxes = mailboxes; entered = None; history = began }) (greeting Standard)) guest.steps.items carried last
    pub wrote : text ≡ last.text

module _ (house : Premises) (mailboxes turns seat : ℕ) (guest : Guest) where
  -- The account of a session that made its steps, as that of a worker: what it said, and of the messages that its client appended what its log has
  -- and what it has put on each lane, its end included. It is the first of its seat.
  pub record SessionAccount (replies : List (List ℕ)) (notes : List Noted) (heard : List (Entry Noted)) (put : List (List (Entry Job))) : Type 0 where
    pub carried : List Carried
    pub text : List ℕ
    pub stayed : WasGuest house mailboxes turns guest carried text
    pub alone : replies ≡ text ∷ []
    pub copies : AreAccountedFor house seat (map (judged_of seat 0) carried) notes heard put

-- What producer n left: its ended permits are its own on each lane, its receiver is of its channel, and the log is its own. Where a worker went
-- through all its connections, that is its account of them; where a session, behind the workers, made all its steps, that is its account of these.
-- Either then heard as many verdicts as it put copies: each was awaited, and nothing else came but ends.
pub record IsProduceOf {B : Type 0} (shared : HouseShared B) (plans : Plans) (guests : List Guest) (n : ℕ) (w : Worked B) : Type 0 where
  pub ended : AreEnded shared.intake.lanes.items n w.ended.items
  pub receiver : (channel : ReplyChannel Noted) → slice_get shared.delivery.channels.items n ≡ Some channel → IsReceiver channel w.receiver
  pub seat : w.log.seat ≡ n
  pub only : w.fate ≡ Whole → verdicts_in (received w.receiver) ≡ copies_in (map said w.ended.items)
  -- Where it came whole the history has what it put and heard, and nothing else of its seat.
  pub backed : w.fate ≡ Whole → IsBackedBy n w.dispatch (received w.receiver) (map said w.ended.items)
  pub worker : (plan : Vec (Vec ℕ Global) Global) → slice_get plans n ≡ Some plan → w.fate ≡ Whole
      → Account (premises_of shared.intake) n (map (λ b. b.items) plan.items) (map (λ b. b.items) w.replies.items) w.log.notes (received w.receiver)
      (map said w.ended.items)
  pub session : (k : ℕ) (guest : Guest) → n ≡ length plans + k → slice_get guests k ≡ Some guest → w.fate ≡ Whole
      → SessionAccount (premises_of shared.intake) (length shared.delivery.mailboxes.items) shared.turns n guest
      (map (λ b. b.items) w.replies.items) w.log.notes (received w.receiver) (map said w.ended.items)
