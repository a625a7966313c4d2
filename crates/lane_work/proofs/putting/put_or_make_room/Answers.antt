use Rattle.std.proofs.Common.{◌≡◌, ◌<◌, ◌∙◌, ap, refl, sym, subst, slice_index_or, slice_set, length, map, ◌++◌, ◌∷◌, [], MatchOption, arith, true, false}
use Rattle.std.proofs.lemmas.List.{length-map}
use Rattle.delivery_token.specs.declared.Job.{Job}
use Rattle.shard_queue.specs.declared.lane.Entry.TheVariants.{Item}
use Rattle.lane_work.specs.Permits.{IsPermit, overs, put_by}
use Rattle.lane_work.specs.Account.{FilledAlone, IsAtOnce, room_at, room_of, rooms_of}
use Rattle.shard_queue.specs.Reply.{received}
use Rattle.lane_work.proofs.BackingLaws.{backed_put}
use Rattle.lane_work.proofs.PermitLaws.{over_at, overs_kept, permit_here, permits_length, permits_set, puts_at, room_here, sent_at, sent_set, set_same}
use Rattle.lane_work.proofs.putting.put_or_make_room.Goals as goal

pub index_mut-requires : goal.index_mut-requires
index_mut-requires g c =
    let n = permits_length c.args.context.now.intake.now.lanes.items c.args.desk.now.number c.args.desk.now.permits.items c.requires.permits in
    let w = c.shard_of-shard.ensures.within in
    let l = c.requires.lanes in
    omega (arith, n, w, l)

pub put_at-requires : goal.put_at-requires
put_at-requires g c =
    let w = c.shard_of-shard.ensures.within in
    let l = c.requires.lanes in
    let under : c.shard_of-shard.result < length c.args.context.now.intake.now.lanes.items = omega (arith, w, l) in
    subst (λ q. IsPermit q c.index_mut.result.now) (sym c.index.ensures)
    (permit_here c.args.context.now.intake.now.lanes.items c.args.desk.now.number c.args.desk.now.permits.items c.requires.permits c.shard_of-shard.result under c.index.result.now c.index_mut.result.now
    c.index_mut.ensures.value).0

pub returns-clause-permits : goal.returns-clause-permits
returns-clause-permits g c =
    let w = c.shard_of-shard.ensures.within in
    let l = c.requires.lanes in
    let under : c.shard_of-shard.result < length c.args.context.now.intake.now.lanes.items = omega (arith, w, l) in
    let was = permit_here c.args.context.now.intake.now.lanes.items c.args.desk.now.number c.args.desk.now.permits.items c.requires.permits c.shard_of-shard.result under c.index.result.now c.index_mut.result.now
    c.index_mut.ensures.value in
    permits_set c.args.context.now.intake.now.lanes.items c.args.desk.now.number c.args.desk.now.permits.items c.requires.permits c.shard_of-shard.result c.index.result.now c.put_at.new.permit
    (subst (λ q. IsPermit q c.put_at.new.permit) c.index.ensures c.put_at.ensures.permit.0) (c.put_at.ensures.permit.1 ∙ was.1)

pub returns-clause-same : goal.returns-clause-same
returns-clause-same g c = (
  refl,
  refl,
  refl,
  overs_kept c.args.desk.now.permits.items c.shard_of-shard.result c.index_mut.result.now c.put_at.new.permit c.index_mut.ensures.value c.put_at.ensures.permit.2,
)

pub returns-clause-over : goal.returns-clause-over
returns-clause-over g c over =
    let w = c.shard_of-shard.ensures.within in
    let l = c.requires.lanes in
    let n = permits_length c.args.context.now.intake.now.lanes.items c.args.desk.now.number c.args.desk.now.permits.items c.requires.permits in
    let under : c.shard_of-shard.result < length c.args.desk.now.permits.items = omega (arith, n, w, l) in
    let here : slice_index_or (overs c.args.desk.now.permits.items) c.shard_of-shard.result false ≡ true = subst (λ lane. slice_index_or (overs c.args.desk.now.permits.items) lane false ≡ true) (sym c.shard_of-shard.ensures.value) over in
    let is = c.put_at.ensures.over (sym (over_at c.args.desk.now.permits.items c.shard_of-shard.result c.index_mut.result.now false under c.index_mut.ensures.value) ∙ here) in (
      is.0,
      sent_set c.args.desk.now.permits.items c.shard_of-shard.result c.put_at.new.permit
          ∙ ap (slice_set (map put_by c.args.desk.now.permits.items) c.shard_of-shard.result) (ap put_by is.1 ∙ ap put_by c.index_mut.ensures.value ∙ sym (sent_at c.args.desk.now.permits.items c.shard_of-shard.result c.index_mut.result.now under))
          ∙ set_same (map put_by c.args.desk.now.permits.items) c.shard_of-shard.result [],
    )

pub returns-clause-put : goal.returns-clause-put
returns-clause-put g c live =
    let w = c.shard_of-shard.ensures.within in
    let l = c.requires.lanes in
    let n = permits_length c.args.context.now.intake.now.lanes.items c.args.desk.now.number c.args.desk.now.permits.items c.requires.permits in
    let under : c.shard_of-shard.result < length c.args.context.now.intake.now.lanes.items = omega (arith, w, l) in
    let at_permit : c.shard_of-shard.result < length c.args.desk.now.permits.items = omega (arith, n, w, l) in
    let was = permit_here c.args.context.now.intake.now.lanes.items c.args.desk.now.number c.args.desk.now.permits.items c.requires.permits c.shard_of-shard.result under c.index.result.now c.index_mut.result.now
    c.index_mut.ensures.value in
    let job : Job = record { key = c.args.key; mailbox = c.args.mailbox; text = c.args.text.now; flags = c.args.flags } in
    subst (λ lane. MatchOption c.put_at.result
    (map put_by (slice_set c.args.desk.now.permits.items c.shard_of-shard.result c.put_at.new.permit)
    ≡ slice_set (map put_by c.args.desk.now.permits.items) lane (slice_index_or (map put_by c.args.desk.now.permits.items) lane [] ++ Item c.args.desk.now.number job ∷ []))
    (λ v. (map put_by (slice_set c.args.desk.now.permits.items c.shard_of-shard.result c.put_at.new.permit) ≡ map put_by c.args.desk.now.permits.items) × IsAtOnce (FilledAlone (room_at (rooms_of c.args.context.now.intake.now.lanes.items) lane) c.args.desk.now.number (slice_index_or (map put_by c.args.desk.now.permits.items) lane [])) v))
    c.shard_of-shard.ensures.value
    (puts_at c.args.desk.now.permits.items c.shard_of-shard.result c.args.desk.now.number c.index_mut.result.now c.index_mut.result.now c.put_at.new.permit job c.put_at.result
    (room_of c.index.result.now) (room_at (rooms_of c.args.context.now.intake.now.lanes.items) c.shard_of-shard.result)
    (room_here c.args.context.now.intake.now.lanes.items c.shard_of-shard.result c.index.result.now under ∙ ap room_of (sym c.index.ensures)) at_permit
    c.index_mut.ensures.value was.1
    (c.put_at.ensures.put
    (sym (over_at c.args.desk.now.permits.items c.shard_of-shard.result c.index_mut.result.now false at_permit c.index_mut.ensures.value)
    ∙ subst (λ lane. slice_index_or (overs c.args.desk.now.permits.items) lane false ≡ false) (sym c.shard_of-shard.ensures.value) live)))

-- what the history had of the desk, and of the copy that was put
pub returns-clause-backed : goal.returns-clause-backed
returns-clause-backed g c =
    let w = c.shard_of-shard.ensures.within in
    let l = c.requires.lanes in
    let n = permits_length c.args.context.now.intake.now.lanes.items c.args.desk.now.number c.args.desk.now.permits.items c.requires.permits in
    let under : c.shard_of-shard.result < length c.args.desk.now.permits.items = omega (arith, n, w, l) in
    let permits = c.args.desk.now.permits.items in
    let all = length-map permits put_by in
    backed_put c.args.desk.now.dispatch c.put_at.new.dispatch (received c.args.desk.now.receiver) (map put_by permits) (map put_by (slice_set permits c.shard_of-shard.result c.put_at.new.permit))
    c.shard_of-shard.result (put_by c.index_mut.result.now) (put_by c.put_at.new.permit) (omega (arith, under, all))
    (sent_at permits c.shard_of-shard.result c.index_mut.result.now under ∙ ap put_by (sym c.index_mut.ensures.value)) (sent_set permits c.shard_of-shard.result c.put_at.new.permit) c.put_at.ensures.backed
