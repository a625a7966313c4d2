-- What holds of every connection and of every worker's account.
use Rattle.std.specs.Prelude.{◌≡◌, ◌<◌, ℕ, Bool, false, List, [], ◌∷◌, ◌++◌, length, map, Contains, slice_index_or}
use Rattle.std.specs.List.{list_any}
use Rattle.std.specs.List.Sorted.{IsStrictlyIncreasing}
use Rattle.delivery_token.specs.Text.{Text}
use Rattle.delivery_token.specs.declared.CopyKey.{CopyKey}
use Rattle.delivery_token.specs.declared.Job.{Job}
use Rattle.delivery_token.specs.declared.log.Noted.{Noted}
use Rattle.envelope.specs.Names.{shard_of}
use Rattle.lane_work.specs.Account.{Premises, closings_of, is_closed_by}
use Rattle.lane_work.specs.Talk.{Judged}
use Rattle.shard_queue.specs.declared.lane.Entry.{Entry}
use Rattle.shard_queue.specs.declared.lane.Entry.TheVariants.{Item}
use Rattle.running_house.specs.Accounting.{AccountOfLines}
use Rattle.running_house.specs.Conversing.{IsConnection}
use Rattle.running_house.specs.Lists.{ListsAgree}
use Rattle.laws_relay.specs.Handed.{IsInLine, handed_over}
use Rattle.laws_relay.specs.Conclusions.{MayForget}
use Rattle.laws_relay.specs.Concluding.{RelaysConclude}
use Rattle.laws_relay.specs.Entries.{with_uid}

-- A connection of a worker's account is one of which a relay may conclude: it sent the connection's bytes, and perhaps more,
-- and was told a front of the replies. What was judged on it is what was submitted.
abbrev pub ConnectionsAreKnown : Type 0
ConnectionsAreKnown = (house : Premises) (seat serial : ℕ) (bytes replied : List ℕ) (judged : List Judged) → IsInLine house.host
    → IsConnection house seat serial bytes replied judged
    → (more told untold : List ℕ) → told ++ untold ≡ replied
    → MayForget house.host house.directory (handed_over (bytes ++ more) told) (handed_over (bytes ++ more) replied)
    (map (λ (j : Judged). j.message) judged) (map (λ (j : Judged). j.verdicts) judged)

-- What was taken from the lanes with this worker's seat is what it said there. `said`: on each lane
abbrev pub TakenIsItsOwn : ℕ → List (List Job) → List (List (Entry Job)) → Type 0
TakenIsItsOwn seat copies said = (lane : ℕ) (copy : Job) → Contains (slice_index_or copies lane []) copy → copy.key.seat ≡ seat
    → Contains (slice_index_or said lane []) (Item seat copy)

-- Nothing was accepted of a connection for a mailbox of a shard that its worker has closed by then.
abbrev pub ClosedHaveNothing : Premises → ℕ → List (List (CopyKey × ℕ)) → Type 0
ClosedHaveNothing house seat accepted = (mailbox uid : ℕ) (key : CopyKey) → Contains (slice_index_or accepted mailbox []) (key, uid) → key.seat ≡ seat
    → list_any (is_closed_by key.serial (shard_of house.directory mailbox)) (closings_of house seat) ≡ false

-- The UIDs of what each mailbox accepted rise.
abbrev pub DoUidsRise : List (List (CopyKey × ℕ)) → Type 0
DoUidsRise accepted = (mailbox : ℕ) → IsStrictlyIncreasing (map (λ (pair : CopyKey × ℕ). pair.1) (slice_index_or accepted mailbox []))

-- A worker's account beside lists that agree: of each of its connections a relay may conclude.
abbrev pub AccountsConclude : Type 0
AccountsConclude = (house : Premises) (seat : ℕ) (connections replies : List (List ℕ)) (heard : List (Entry Noted)) (said : List (List (Entry Job)))
    (whole : Bool) (logs : List (List Noted)) (copies : List (List Job)) (accepted : List (List (CopyKey × ℕ))) (texts : List (List (ℕ × Text)))
    → IsInLine house.host → seat < length logs
    → AccountOfLines house seat connections replies (slice_index_or logs seat []) heard said
    → ListsAgree house.directory whole logs copies accepted texts
    → DoUidsRise accepted
    → TakenIsItsOwn seat copies said
    → RelaysConclude house.directory seat connections replies accepted texts

-- and so it is with shards that were closed
abbrev pub AccountsKeepClosed : Type 0
AccountsKeepClosed = (house : Premises) (seat : ℕ) (connections replies : List (List ℕ)) (heard : List (Entry Noted)) (said : List (List (Entry Job)))
    (whole : Bool) (logs : List (List Noted)) (copies : List (List Job)) (accepted : List (List (CopyKey × ℕ))) (texts : List (List (ℕ × Text)))
    → 0 < house.directory.shards → seat < length logs
    → AccountOfLines house seat connections replies (slice_index_or logs seat []) heard said
    → ListsAgree house.directory whole logs copies accepted texts
    → ClosedHaveNothing house seat accepted

-- Where the UIDs of what a mailbox accepted rise, no two of its copies have one.
abbrev pub RisingUidsAreAlone : Type 0
RisingUidsAreAlone = (accepted : List (CopyKey × ℕ)) → IsStrictlyIncreasing (map (λ (pair : CopyKey × ℕ). pair.1) accepted)
    → (key : CopyKey) (uid : ℕ) → Contains accepted (key, uid) → with_uid uid accepted ≡ (key, uid) ∷ []
