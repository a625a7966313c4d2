use Rattle.std.proofs.Common.{rules, ◌≡◌, ◌≤◌, ◌∙◌, ◌++◌, ◌∷◌, [], ℕ, ap, sym, subst, arith, length, length-append, map, slice_index_or, false, vec_len}
use Rattle.delivery_token.specs.Verdicts.{Verdicts, unknown}
use Rattle.lane_work.specs.Permits.{put_by, ArePermits, overs}
use Rattle.lane_work.specs.inner.Permits.{AreOpenTo}
use Rattle.envelope.specs.Names.{shard_of}
use Rattle.lane_work.specs.Account.{rooms_of}
use Rattle.std.proofs.lemmas.List.{length-map}
use Rattle.lane_work.proofs.CopyLaws.{all_at, puts_next, tries_next}
use Rattle.lane_work.proofs.AwaitedLaws.{tried_counts, unknown_next}
use Rattle.lane_work.proofs.PermitLaws.{overs_length, permits_length}
use Rattle.lane_work.proofs.putting.put_all.Goals as goal

pub loop-i-preserved : goal.loop-i-preserved
loop-i-preserved g c =
    let v = c.loop-i.invariant in
    let s = c.put_or_make_room-verdict.ensures.same in
    let number = v.1.0 in
    let d = c.args.context.now.intake.now.directory in
    let first = c.args.desk.now.permits.items in
    let more : c.note_put.new.self.slots ≡ c.loop-i.verdicts.slots ++ c.put_or_make_room-verdict.result ∷ [] = ap (λ (w : Verdicts). w.slots) c.note_put.ensures in
    let is_live : AreOpenTo d c.args.message.now.mailboxes.items first → slice_index_or (overs c.loop-i.desk.permits.items) (shard_of d c.index-in-loop-i.result.now) false ≡ false =
    λ open_to. ap (λ l. slice_index_or l (shard_of d c.index-in-loop-i.result.now) false) v.1.3
    ∙ all_at (λ mailbox. slice_index_or (overs first) (shard_of d mailbox) false ≡ false) c.args.message.now.mailboxes.items c.loop-i.i c.index-in-loop-i.result.now (search rules) c.index-in-loop-i.ensures open_to in (
      subst (λ p. ArePermits c.args.context.now.intake.now.lanes.items p c.put_or_make_room-verdict.new.desk.permits.items) number c.put_or_make_room-verdict.ensures.permits,
      (s.0 ∙ v.1.0, s.1 ∙ v.1.1, s.2 ∙ v.1.2, s.3 ∙ v.1.3),
      (let n = ap length more ∙ length-append c.loop-i.verdicts.slots (c.put_or_make_room-verdict.result ∷ []) in omega (arith, n, v.2)),
      λ open_to. tries_next c.args.context.now.intake.now.directory (rooms_of c.args.context.now.intake.now.lanes.items) c.args.desk.now.number c.loop-i.desk.number c.args.message.now.keys.items c.args.message.now.mailboxes.items c.args.message.now.text c.loop-i.i
          c.index.result.now c.index-in-loop-i.result.now (map put_by c.args.desk.now.permits.items) (map put_by c.loop-i.desk.permits.items) c.put_or_make_room-verdict.result c.loop-i.verdicts.slots c.note_put.new.self.slots _ _
          (search rules) (search rules) c.index.ensures c.index-in-loop-i.ensures (search rules) more number (c.put_or_make_room-verdict.ensures.put (is_live open_to)) (v.6 open_to) (v.3 open_to),
      subst (λ (most : ℕ). vec_len c.args.message.now.keys ≤ most) (sym (ap (λ (w : Verdicts). w.most) c.note_put.ensures)) v.4,
      (let within = c.put_or_make_room-verdict.ensures.within in
          let lanes = permits_length c.args.context.now.intake.now.lanes.items c.args.desk.now.number c.loop-i.desk.permits.items v.0 in
          let many = length-map c.loop-i.desk.permits.items put_by in
          let one = tried_counts (map put_by c.loop-i.desk.permits.items) (map put_by c.put_or_make_room-verdict.new.desk.permits.items) (shard_of d c.index-in-loop-i.result.now) c.loop-i.desk.number _ c.put_or_make_room-verdict.result
          (slice_index_or (overs c.loop-i.desk.permits.items) (shard_of d c.index-in-loop-i.result.now) false) _ _ (omega (arith, within, lanes, many)) c.put_or_make_room-verdict.ensures.put c.put_or_make_room-verdict.ensures.over in
          let slots = ap unknown more ∙ unknown_next c.loop-i.verdicts.slots c.put_or_make_room-verdict.result in omega (arith, one, slots, v.5)),
      λ open_to. puts_next c.args.context.now.intake.now.directory c.args.desk.now.number c.loop-i.desk.number c.args.message.now.keys.items c.args.message.now.mailboxes.items c.args.message.now.text c.loop-i.i c.index.result.now c.index-in-loop-i.result.now
          (map put_by c.args.desk.now.permits.items) (map put_by c.loop-i.desk.permits.items) (map put_by c.put_or_make_room-verdict.new.desk.permits.items) c.put_or_make_room-verdict.result c.loop-i.verdicts.slots c.note_put.new.self.slots _
          (search rules) (search rules) c.index.ensures c.index-in-loop-i.ensures (search rules) more
          (length-map c.loop-i.desk.permits.items put_by ∙ overs_length c.loop-i.desk.permits.items c.args.desk.now.permits.items v.1.3 ∙ sym (length-map c.args.desk.now.permits.items put_by))
          number (c.put_or_make_room-verdict.ensures.put (is_live open_to)) (v.6 open_to),
      λ seat was. c.put_or_make_room-verdict.ensures.backed seat (v.7 seat was),
    )
