use Rattle.std.proofs.Common.{rules, ◌≡◌, ◌≤◌, ◌∙◌, ℕ, [], true, false, length, map, refl, sym, subst, vec_capacity}
use Rattle.delivery_token.specs.declared.log.Noted.{Noted}
use Rattle.shard_queue.specs.Reply.{ReplyChannel}
use Rattle.shard_queue.specs.Reply.{ReceiverPermit}
use Rattle.shard_queue.specs.Permits.{said}
use Rattle.shard_queue.specs.Reply.{IsReceiver, received}
use Rattle.lane_work.specs.Permits.{AreEnded, ArePermits, put_by}
use Rattle.lane_work.specs.Speaking.{premises_of}
use Rattle.lane_work.specs.declared.desk.Intake.{Intake}
use Rattle.house_history.specs.Events.{sent_by}
use Rattle.lane_work.specs.Backing.{IsBackedBy}
use Rattle.lane_work.specs.Dispatching.{Dispatch}
use Rattle.lane_work.proofs.BackingLaws.{backed_begin, backed_end}
use Rattle.lane_work.proofs.PermitLaws.{new_live}
use Rattle.house_shared.specs.Crew.{IsPost}
use Rattle.serving_workers.specs.Leaving.{AreAttended, HasServedClients}
use Rattle.serving_workers.proofs.Clients.{clients_begin, clients_end}
use Rattle.serving_workers.proofs.Lives.{here_at, served_by}
use Rattle.serving.proofs.sessions.attend_there.Goals as goal

pub answer_clients-requires : goal.answer_clients-requires
answer_clients-requires g c =
    let shared = c.args.site.now.workplace.shared in
    let post = c.into_inner-desk.result in
    let is : IsPost shared c.args.number post = subst (IsPost shared c.args.number) (sym c.into_inner-desk.ensures) c.requires.post in
    let same : c.from.result ≡ c.args.number = search rules in record {
      ready = (
        subst (λ (n : ℕ). ArePermits shared.intake.lanes.items n post.desk.permits.items) (sym is.number) is.permits,
        subst (λ (x : ReplyChannel Noted). IsReceiver x post.desk.receiver) (sym c.index.ensures)
            (is.receiver _ (here_at shared.delivery.channels.items c.from.result c.args.number c.index.result.now same c.requires.number)),
        c.requires.house.shards,
        new_live post.desk.permits.items is.fresh,
      );
    }

pub leave-requires-clause-room : goal.leave-requires-clause-room
leave-requires-clause-room g c =
    let shared = c.args.site.now.workplace.shared in
    let post = c.into_inner-desk.result in
    let is : IsPost shared c.args.number post = subst (IsPost shared c.args.number) (sym c.into_inner-desk.ensures) c.requires.post in
    (is.empty, subst (λ (o : Intake _). length o.lanes.items ≤ vec_capacity post.room) (sym c.answer_clients.ensures.same.0) is.room)

pub returns-clause-served : goal.returns-clause-served
returns-clause-served g c =
    let shared = c.args.site.now.workplace.shared in
    let post = c.into_inner-desk.result in
    let is : IsPost shared c.args.number post = subst (IsPost shared c.args.number) (sym c.into_inner-desk.ensures) c.requires.post in
    let same : c.from.result ≡ c.args.number = search rules in
    let life = c.answer_clients.ensures in
    let now = c.answer_clients.new.courier in
    let left = c.leave.result in
    let numbered : now.desk.number ≡ c.args.number = life.same.2 ∙ is.number in
    served_by g.L.Line.told shared c.from.result c.args.number now.desk.number c.index.result.now left _ same numbered c.packed.ensures
    (subst (λ (o : Intake _). AreEnded o.lanes.items now.desk.number left.ended.items) life.same.0 c.leave.ensures.ended)
    (subst (λ (x : ReplyChannel Noted). IsReceiver x left.receiver) (life.same.1 ∙ c.index.ensures)
    (subst (λ (r : ReceiverPermit Noted). IsReceiver now.context.channel.now r) (sym c.leave.ensures.receiver) life.ready.1))
    (λ mail whole. absurd (let e : true ≡ false = sym mail ∙ c.leave.ensures.mail in cc))
    (λ none whole.
    let fresh = clients_begin shared.intake post.desk.number post.desk.receiver post.desk.permits.items is.fresh in
    let served = life.clients (sym c.leave.ensures.torn ∙ whole) fresh in
    let mine = subst (λ (n : ℕ). AreAttended (premises_of shared.intake) n served.0 (received now.desk.receiver) (map put_by now.desk.permits.items)) (sym life.same.2) served.1 in
    subst (λ (r : ReceiverPermit Noted). HasServedClients (premises_of shared.intake) now.desk.number (received r) (map said left.ended.items)) (sym c.leave.ensures.receiver)
    (clients_end (premises_of shared.intake) now.desk.number now.desk.number served.0 (received now.desk.receiver) (map put_by now.desk.permits.items) (map said left.ended.items) refl mine c.leave.ensures.said))
    (let n = c.args.number in
    let unsent = subst (λ (p : ℕ). sent_by p post.desk.dispatch.history ≡ []) is.dispatch.0 (c.is_kept.ensures.own ∙ is.dispatch.1) in
    let begun = backed_begin n post.desk.dispatch.history (received post.desk.receiver) post.desk.permits.items c.is_kept.ensures.legal unsent is.unheard.0 is.fresh in
    let done = life.same.4 n (is.dispatch.0, begun) in
    let backed = backed_end n now.desk.number now.desk.dispatch.history (received now.desk.receiver) (map put_by now.desk.permits.items) (map said left.ended.items) c.leave.ensures.said done.1 in
    subst (λ (d : Dispatch). IsBackedBy n d (received left.receiver) (map said left.ended.items)) (sym c.leave.ensures.dispatch)
    (subst (λ (r : ReceiverPermit Noted). IsBackedBy n now.desk.dispatch (received r) (map said left.ended.items)) (sym c.leave.ensures.receiver) (done.0, backed)))
