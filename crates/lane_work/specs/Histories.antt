-- Where a worker's words meet the lanes' histories, after each lane was closed.
use Rattle.std.specs.Prelude.{◌≡◌, ℕ, List, [], ◌∷◌, map, Contains}
use Rattle.delivery_token.specs.declared.Job.{Job}
use Rattle.delivery_token.specs.declared.Verdict.{Verdict}
use Rattle.delivery_token.specs.declared.Verdict.TheVariants.{Stored}
use Rattle.delivery_token.specs.declared.log.Noted.{Noted}
use Rattle.envelope.specs.Names.{Directory, shard_of}
use Rattle.shard_queue.specs.declared.lane.Entry.{Entry}
use Rattle.shard_queue.specs.Permits.{ShardQueue, Ended, ended_number, said}
use Rattle.shard_queue.specs.Lane.{of}
use Rattle.lane_work.specs.Account.{IsHeard, Room, WerePut, note_of}
use Rattle.lane_work.specs.Permits.{AreEnded}

-- what each of these ended permits said is what was taken of it from its lane, as `close` of each lane tells
abbrev pub AreHeard : List (Ended Job) → List (List (Entry Job)) → Type 0
AreHeard [] [] = Unit {0}
AreHeard [] (g ∷ gs) = ⊥
AreHeard (e ∷ es) [] = ⊥
AreHeard (e ∷ es) (g ∷ gs) = (said e ≡ of (ended_number e) g) × AreHeard es gs

abbrev pub SaidIsTaken : Type 0
SaidIsTaken = (lanes : List (ShardQueue Job)) (p : ℕ) (ended : List (Ended Job)) (gots : List (List (Entry Job))) → AreEnded lanes p ended
    → AreHeard ended gots → map said ended ≡ map (of p) gots

-- a copy that was stored was put on the lane of its mailbox's shard, and its verdict was heard
abbrev pub StoredWasPut : Type 0
StoredWasPut = (d : Directory) (room : Room) (seat lane : ℕ) (heard : List (Entry Noted)) (before : List Job) (told : List (Job × Verdict))
    (jobs : List Job) → WerePut d room seat lane heard before told jobs → (copy : Job) (uid : ℕ) → shard_of d copy.mailbox ≡ lane
    → Contains told (copy, Stored uid) → Contains jobs copy × IsHeard heard (note_of (copy, Stored uid))
