use Rattle.std.proofs.Common.{rules, ◌≡◌, ◌∙◌, ℕ, false, true, map, sym, subst}
use Rattle.delivery_token.specs.declared.log.Noted.{Noted}
use Rattle.shard_queue.specs.Reply.{ReplyChannel}
use Rattle.shard_queue.specs.Permits.{said}
use Rattle.shard_queue.specs.Reply.{IsReceiver, received}
use Rattle.lane_work.specs.Backing.{IsBackedBy}
use Rattle.lane_work.specs.Permits.{ArePermits}
use Rattle.lane_work.proofs.PermitLaws.{new_live, not_over}
use Rattle.house_shared.specs.Crew.{IsPost}
use Rattle.serving_workers.proofs.Lives.{here_at, served_by}
use Rattle.serving_workers.proofs.threads.serve_there.Goals as goal

pub serve_until_stopped-requires-clause-permits : goal.serve_until_stopped-requires-clause-permits
serve_until_stopped-requires-clause-permits g c κs lives =
    let shared = c.args.workplace.now.shared in
    let post = c.into_inner-desk.result in
    let is : IsPost shared c.args.number post = subst (IsPost shared c.args.number) (sym c.into_inner-desk.ensures) c.requires.post in
    let permits = post.desk.permits.items in
    (subst (λ (n : ℕ). ArePermits shared.intake.lanes.items n permits) (sym is.number) is.permits, not_over shared.intake.directory permits (new_live permits is.fresh))

pub serve_until_stopped-requires-clause-receiver : goal.serve_until_stopped-requires-clause-receiver
serve_until_stopped-requires-clause-receiver g c κs lives =
    let shared = c.args.workplace.now.shared in
    let is : IsPost shared c.args.number c.into_inner-desk.result = subst (IsPost shared c.args.number) (sym c.into_inner-desk.ensures) c.requires.post in
    let same : c.from.result ≡ c.args.number = search rules in
    subst (λ (x : ReplyChannel Noted). IsReceiver x c.into_inner-desk.result.desk.receiver) (sym c.index.ensures)
    (is.receiver _ (here_at shared.delivery.channels.items c.from.result c.args.number c.index.result.now same c.requires.number))

pub returns-clause-served : goal.returns-clause-served
returns-clause-served g c =
    let shared = c.args.workplace.now.shared in
    let is : IsPost shared c.args.number c.into_inner-desk.result = subst (IsPost shared c.args.number) (sym c.into_inner-desk.ensures) c.requires.post in
    let same : c.from.result ≡ c.args.number = search rules in
    served_by g.L.Line.told shared c.from.result c.args.number c.into_inner-desk.result.desk.number c.index.result.now c.serve_until_stopped.result _ same is.number c.packed.ensures
    c.serve_until_stopped.ensures.ended (subst (λ (x : ReplyChannel Noted). IsReceiver x c.serve_until_stopped.result.receiver) c.index.ensures c.serve_until_stopped.ensures.receiver)
    (λ mail whole. c.serve_until_stopped.ensures.served is.fresh whole)
    (λ none whole. absurd (let e : true ≡ false = sym c.serve_until_stopped.ensures.mail ∙ none in cc))
    (subst (λ n. IsBackedBy n c.serve_until_stopped.result.dispatch (received c.serve_until_stopped.result.receiver) (map said c.serve_until_stopped.result.ended.items)) is.dispatch.0
    (c.serve_until_stopped.ensures.backed is.fresh is.unheard.0 is.dispatch.1))
