use Rattle.std.proofs.Common.{rules, ◌≡◌, ◌++◌, ◌∷◌, [], ◌∙◌, arith, sym, refl, subst, length, map, ap, not, true, IfSome}
use Rattle.std.specs.List.{list_any}
use Rattle.std.proofs.lemmas.List.{length-map}
use Rattle.shard_queue.specs.declared.lane.Entry.TheVariants.{Item, End}
use Rattle.shard_queue.specs.Reply.{sent_on}
use Rattle.shard_queue.specs.Permits.{got}
use Rattle.lane_work.specs.Answering.{is_nobodys}
use Rattle.lane_work.specs.inner.Answering.{HaveAnswered}
use Rattle.lane_work.specs.Ends.{ends_in}
use Rattle.lane_work.proofs.AnswerLaws.{answers_begin, answers_end, answers_item, kept_copy, torn_end, torn_next}
use Rattle.lane_work.proofs.PermitLaws.{ends_next, kept_next, senders_length}
use Rattle.lane_work.proofs.consumer.serve_all.Goals as goal

pub loop-preserved-in-Item : goal.loop-preserved-in-Item
loop-preserved-in-Item g c =
    let v = c.loop.invariant in
    let m = length c.args.delivery.now.mailboxes.items in
    let n = length c.args.delivery.now.channels.items in (
      v.0,
      c.take_as.ensures.permit,
      c.serve_copy-known.ensures.senders,
      answers_item m n c.args.stall.now.shard c.in-Item.p c.in-Item.letter (got c.loop.stall.permit) (got c.take_as.new.permit) (map sent_on c.args.stall.now.senders.items) (map sent_on c.loop.stall.senders.items)
          (map sent_on c.serve_copy-known.new.senders.items) (search rules) (length-map c.loop.stall.senders.items sent_on ∙ senders_length c.args.delivery.now.channels.items c.args.stall.now.shard c.loop.stall.senders.items v.2)
          c.serve_copy-known.ensures.served v.3,
      torn_next m n (got c.loop.stall.permit) (got c.take_as.new.permit) (Item c.in-Item.p c.in-Item.letter) c.loop.tally.torn (not c.serve_copy-known.result) (search rules) (ap not c.serve_copy-known.ensures.known) v.4,
      kept_next (got c.loop.stall.permit) (got c.take_as.new.permit) c.loop.taken.items c.keep_copy.new.taken.items (Item c.in-Item.p c.in-Item.letter) c.loop.tally.kept c.keep_copy.result (search rules) v.5
          (kept_copy c.entry_of-entry.result (Item c.in-Item.p c.in-Item.letter) c.loop.tally.kept c.keep_copy.result c.loop.taken.items c.keep_copy.new.taken.items
          (subst (λ job. IfSome c.entry_of-entry.result (λ e. (c.loop.tally.kept ≡ true) × (e ≡ Item c.in-Item.p job))) c.job.ensures c.entry_of-entry.ensures) c.keep_copy.ensures),
      (let grew : got c.take_as.new.permit ≡ got c.loop.stall.permit ++ Item c.in-Item.p c.in-Item.letter ∷ [] = search rules in
          let e = ap ends_in grew ∙ ends_next (got c.loop.stall.permit) (Item c.in-Item.p c.in-Item.letter) in omega (arith, e, v.6)),
    )

pub loop-init : goal.loop-init
loop-init g c =
    let m = length c.args.delivery.now.mailboxes.items in
    let n = length c.args.delivery.now.channels.items in
    let none = c.requires.permit.1 in (
      refl,
      c.requires.permit.0,
      c.requires.senders,
      answers_begin m n c.args.stall.now.shard (got c.args.stall.now.permit) (map sent_on c.args.stall.now.senders.items) none,
      ap (list_any (is_nobodys m n)) (sym none),
      (λ kept. c.requires.none ∙ sym none),
      omega arith,
    )

pub loop-preserved-in-End : goal.loop-preserved-in-End
loop-preserved-in-End g c =
    let v = c.loop.invariant in
    let m = length c.args.delivery.now.mailboxes.items in
    let n = length c.args.delivery.now.channels.items in
    let old = got c.loop.stall.permit in
    let new = got c.take_as.new.permit in (
      v.0,
      c.take_as.ensures.permit,
      v.2,
      answers_end m n c.args.stall.now.shard c.in-End.p old new (map sent_on c.args.stall.now.senders.items) (map sent_on c.loop.stall.senders.items) (search rules) v.3,
      v.4 ∙ torn_end m n old new c.in-End.p (search rules),
      kept_next old new c.loop.taken.items c.keep.new.taken.items (End c.in-End.p) c.loop.tally.kept c.keep.result (search rules) v.5 c.keep.ensures,
      (let grew : new ≡ old ++ End c.in-End.p ∷ [] = search rules in
          let e = ap ends_in grew ∙ ends_next old (End c.in-End.p) in search rules),
    )

pub loop-preserved : goal.loop-preserved
loop-preserved g c =
    let v = c.loop.invariant in
    let m = length c.args.delivery.now.mailboxes.items in
    let n = length c.args.delivery.now.channels.items in
    let old = got c.loop.stall.permit in
    let new = got c.take_as.new.permit in
    let same : old ≡ new = search rules in (
      v.0,
      c.take_as.ensures.permit,
      v.2,
      subst (λ l. HaveAnswered m n c.args.stall.now.shard l (map sent_on c.args.stall.now.senders.items) (map sent_on c.loop.stall.senders.items)) same v.3,
      v.4 ∙ ap (list_any (is_nobodys m n)) same,
      (λ kept. v.5 kept ∙ same),
      (let e = ap ends_in same in omega (arith, e, v.6)),
    )
