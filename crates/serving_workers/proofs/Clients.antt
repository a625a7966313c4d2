-- What the clients of a client slot appended.
use Rattle.std.proofs.Common.{◌≡◌, ◌+◌, ℕ, List, [], All, map, refl, subst}
use Rattle.workers_sync.specs.Carried.{Carried}
use Rattle.delivery_token.specs.declared.Job.{Job}
use Rattle.delivery_token.specs.declared.log.Noted.{Noted}
use Rattle.shard_queue.specs.Reply.{received, ReceiverPermit}
use Rattle.shard_queue.specs.declared.lane.Entry.{Entry}
use Rattle.lane_work.specs.Account.{HaveEnded, Premises, rooms_of}
use Rattle.lane_work.specs.inner.Couriers.{CarriesOn}
use Rattle.lane_work.specs.Permits.{IsNew, put_by}
use Rattle.lane_work.specs.Speaking.{premises_of}
use Rattle.lane_work.specs.declared.desk.Desk.{Desk}
use Rattle.lane_work.specs.declared.desk.LanePermit.{LanePermit}
use Rattle.lane_work.specs.declared.desk.Intake.{Intake}
use Rattle.lane_work.proofs.ServedLaws.{books_begin}
use Rattle.serving_workers.specs.Leaving.{AreAttended, HasServedClients, another, nobody}

-- before the first
pub clients_begin : {B : Type 0} (intake : Intake B) (seat : ℕ) (receiver : ReceiverPermit Noted) (permits : List (LanePermit Job)) → All IsNew permits
    → AreAttended (premises_of intake) seat 0 (received receiver) (map put_by permits)
clients_begin intake seat receiver permits fresh =
    let begun = books_begin intake.directory (rooms_of intake.lanes.items) seat [] (received receiver) permits refl fresh in
    ([], nobody, record { noted = tt; lanes = begun.lanes })

-- one client more, which had this serial
pub one_attended : {B : Type 0} (intake there : Intake B) (seat n : ℕ) (old new : Desk B) (carried : List Carried) → there ≡ intake → old.number ≡ seat → CarriesOn there n old carried new
    → AreAttended (premises_of intake) seat n (received old.receiver) (map put_by old.permits.items) → AreAttended (premises_of intake) seat (n + 1) (received new.receiver) (map put_by new.permits.items)
one_attended intake there seat n old new carried place number on served =
    let here = subst (λ (o : Intake _). CarriesOn o n old carried new) place on in
    subst (λ (p : ℕ). AreAttended (premises_of intake) p n (received old.receiver) (map put_by old.permits.items) → AreAttended (premises_of intake) p (n + 1) (received new.receiver) (map put_by new.permits.items)) number
    (λ before. (_, another carried before.1, here before.0 before.2)) served

-- and where its permits have ended
pub clients_end : (house : Premises) (seat number clients : ℕ) (heard : List (Entry Noted)) (sent words : List (List (Entry Job))) → number ≡ seat
    → AreAttended house seat clients heard sent → HaveEnded number sent words → HasServedClients house seat heard words
clients_end house seat number clients heard sent words same served ended =
    record { clients = clients; sent = sent; served = served; ended = subst (λ (n : ℕ). HaveEnded n sent words) same ended }
