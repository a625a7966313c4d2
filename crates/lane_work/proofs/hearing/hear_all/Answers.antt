use Rattle.std.proofs.Common.{rules, map, ◌≡◌, ◌++◌, ◌∷◌, [], ◌∙◌, ℕ, List, ap, refl, subst, arith, length, length-append}
use Rattle.lmtp_machine.specs.Calls.{submission_of}
use Rattle.shard_queue.specs.declared.lane.Entry.TheVariants.{Item, End}
use Rattle.shard_queue.specs.Reply.{received}
use Rattle.lane_work.specs.Account.{copies_of}
use Rattle.lane_work.specs.Ends.{ends_in}
use Rattle.lane_work.specs.Permits.{put_by}
use Rattle.lane_work.proofs.BackingLaws.{backed_end_heard, backed_heard}
use Rattle.lane_work.proofs.PermitLaws.{ends_next, not_live}
use Rattle.delivery_token.specs.declared.CopyKey.{CopyKey}
use Rattle.delivery_token.specs.Verdicts.{FillsIn}
use Rattle.delivery_token.proofs.Fills.{fills_same, fills_on, none_unknown}
use Rattle.delivery_token.proofs.Slots.{known_all}
use Rattle.lane_work.proofs.CopyLaws.{heard_next}
use Rattle.lane_work.proofs.SlotLaws.{heard_still, start_on, start_same, were_heard_same}
use Rattle.lane_work.proofs.hearing.hear_all.Goals as goal

pub loop-init : goal.loop-init
loop-init g c = (
  c.requires,
  (refl, refl),
  omega arith,
  fills_same c.args.verdicts.now.slots,
  start_same (received c.args.desk.now.receiver),
  refl,
  were_heard_same (received c.args.desk.now.receiver) (copies_of (submission_of c.args.message.now)) c.args.verdicts.now.slots,
  λ live. refl,
  λ seat was. was,
)

pub returns-then-not-hear_awaited-clause-fills : goal.returns-then-not-hear_awaited-clause-fills
returns-then-not-hear_awaited-clause-fills g c = fills_on c.args.verdicts.now.slots c.loop.verdicts.slots c.hear_awaited.new.self.slots c.loop.invariant.3 c.hear_awaited.ensures.fills

pub returns-then-not-hear_awaited-clause-ends : goal.returns-then-not-hear_awaited-clause-ends
returns-then-not-hear_awaited-clause-ends g c =
    let old = received c.loop.desk.receiver in
    let grew : received c.recv_as.new.permit ≡ old ++ c.recv_as.result ∷ [] = search rules in
    let e = ap ends_in grew ∙ ends_next old c.recv_as.result in
    omega (arith, e, c.loop.invariant.2)

pub returns-then-not-hear_awaited-clause-grew : goal.returns-then-not-hear_awaited-clause-grew
returns-then-not-hear_awaited-clause-grew g c =
    let old = received c.loop.desk.receiver in
    let grew : received c.recv_as.new.permit ≡ old ++ c.recv_as.result ∷ [] = search rules in
    start_on (received c.args.desk.now.receiver) old (received c.recv_as.new.permit) c.loop.invariant.4 (c.recv_as.result ∷ [], grew)

pub returns-then-not-hear_awaited-clause-heard : goal.returns-then-not-hear_awaited-clause-heard
returns-then-not-hear_awaited-clause-heard g c =
    let old = received c.loop.desk.receiver in
    let grew : received c.recv_as.new.permit ≡ old ++ c.recv_as.result ∷ [] = search rules in
    heard_still old (received c.recv_as.new.permit) (copies_of (submission_of c.args.message.now)) c.args.verdicts.now.slots c.loop.verdicts.slots c.hear_awaited.new.self.slots (c.recv_as.result ∷ [], grew)
    (search rules) c.loop.invariant.6

pub returns-then-not-is_over_at-clause-ends : goal.returns-then-not-is_over_at-clause-ends
returns-then-not-is_over_at-clause-ends g c =
    let old = received c.loop.desk.receiver in
    let grew : received c.recv_as.new.permit ≡ old ++ End c.in-End.shard ∷ [] = search rules in
    let e = ap ends_in grew ∙ ends_next old (End c.in-End.shard) in
    search rules

pub returns-then-not-is_over_at-clause-grew : goal.returns-then-not-is_over_at-clause-grew
returns-then-not-is_over_at-clause-grew g c =
    let old = received c.loop.desk.receiver in
    let grew : received c.recv_as.new.permit ≡ old ++ c.recv_as.result ∷ [] = search rules in
    start_on (received c.args.desk.now.receiver) old (received c.recv_as.new.permit) c.loop.invariant.4 (c.recv_as.result ∷ [], grew)

pub returns-then-not-is_over_at-clause-heard : goal.returns-then-not-is_over_at-clause-heard
returns-then-not-is_over_at-clause-heard g c =
    let old = received c.loop.desk.receiver in
    let grew : received c.recv_as.new.permit ≡ old ++ c.recv_as.result ∷ [] = search rules in
    heard_still old (received c.recv_as.new.permit) (copies_of (submission_of c.args.message.now)) c.args.verdicts.now.slots c.loop.verdicts.slots c.loop.verdicts.slots (c.recv_as.result ∷ [], grew)
    refl c.loop.invariant.6

pub returns-then-not-hear_awaited-clause-torn : goal.returns-then-not-hear_awaited-clause-torn
returns-then-not-hear_awaited-clause-torn g c =
    let old = received c.loop.desk.receiver in
    let grew : received c.recv_as.new.permit ≡ old ++ c.recv_as.result ∷ [] = search rules in
    let n = ap length grew ∙ length-append old (c.recv_as.result ∷ []) in
    let l = ap length c.loop.invariant.4.1 ∙ length-append (received c.args.desk.now.receiver) c.loop.invariant.4.0 in
    omega (arith, n, l)

pub returns-then-not-is_over_at-clause-torn : goal.returns-then-not-is_over_at-clause-torn
returns-then-not-is_over_at-clause-torn g c =
    let old = received c.loop.desk.receiver in
    let grew : received c.recv_as.new.permit ≡ old ++ c.recv_as.result ∷ [] = search rules in
    let n = ap length grew ∙ length-append old (c.recv_as.result ∷ []) in
    let l = ap length c.loop.invariant.4.1 ∙ length-append (received c.args.desk.now.receiver) c.loop.invariant.4.0 in
    omega (arith, n, l)

pub loop-preserved-in-Item : goal.loop-preserved-in-Item
loop-preserved-in-Item g c =
    let old = received c.loop.desk.receiver in
    let grew : received c.recv_as.new.permit ≡ old ++ c.recv_as.result ∷ [] = search rules in
    let came : received c.recv_as.new.permit ≡ old ++ Item c.in-Item.field-0 c.in-Item.answer ∷ [] = search rules in (
      c.recv_as.ensures.permit,
      c.loop.invariant.1,
      (let e = ap ends_in grew ∙ ends_next old c.recv_as.result in omega (arith, e, c.loop.invariant.2)),
      fills_on c.args.verdicts.now.slots c.loop.verdicts.slots c.hear_awaited.new.self.slots c.loop.invariant.3 c.hear_awaited.ensures.fills,
      start_on (received c.args.desk.now.receiver) old (received c.recv_as.new.permit) c.loop.invariant.4 (c.recv_as.result ∷ [], grew),
      (let n = ap length grew ∙ length-append old (c.recv_as.result ∷ []) in
          let e = ap ends_in came ∙ ends_next old (Item c.in-Item.field-0 c.in-Item.answer) in
          let f = c.hear_awaited.ensures.noted (search rules) in omega (arith, n, e, f.awaited, c.loop.invariant.5)),
      heard_next old (received c.recv_as.new.permit) c.args.message.now.keys.items c.args.message.now.mailboxes.items c.args.message.now.text c.args.verdicts.now.slots c.loop.verdicts.slots c.hear_awaited.new.self.slots c.in-Item.field-0 c.in-Item.answer came
          (subst (λ (keys : List CopyKey). FillsIn keys c.args.message.now.mailboxes.items c.in-Item.answer c.loop.verdicts.slots c.hear_awaited.new.self.slots) c.as_slice-keys.ensures.value
          (subst (λ (mailboxes : List ℕ). FillsIn c.as_slice-keys.result.now mailboxes c.in-Item.answer c.loop.verdicts.slots c.hear_awaited.new.self.slots) c.as_slice-mailboxes.ensures.value
          (subst (λ noted. FillsIn c.as_slice-keys.result.now c.as_slice-mailboxes.result.now noted c.loop.verdicts.slots c.hear_awaited.new.self.slots) c.noted.ensures
          (c.hear_awaited.ensures.noted (search rules))))) c.loop.invariant.6,
      (λ live. let e = ap ends_in came ∙ ends_next old (Item c.in-Item.field-0 c.in-Item.answer) in let h = c.loop.invariant.7 live in omega (arith, e, h)),
      (λ seat was. backed_heard c.loop.desk.dispatch c.learn.new.self old (received c.recv_as.new.permit) (Item c.in-Item.field-0 c.in-Item.answer) (map put_by c.loop.desk.permits.items)
          c.learn.ensures.learned c.learn.ensures.settled came seat (c.loop.invariant.8 seat was)),
    )

-- the end of a shard on which the permit is over
pub loop-preserved : goal.loop-preserved
loop-preserved g c =
    let old = received c.loop.desk.receiver in
    let grew : received c.recv_as.new.permit ≡ old ++ c.recv_as.result ∷ [] = search rules in
    let came : received c.recv_as.new.permit ≡ old ++ End c.in-End.shard ∷ [] = search rules in
    let e = ap ends_in came ∙ ends_next old (End c.in-End.shard) in (
      c.recv_as.ensures.permit,
      c.loop.invariant.1,
      search rules,
      c.loop.invariant.3,
      start_on (received c.args.desk.now.receiver) old (received c.recv_as.new.permit) c.loop.invariant.4 (c.recv_as.result ∷ [], grew),
      (let n = ap length came ∙ length-append old (End c.in-End.shard ∷ []) in omega (arith, n, e, c.loop.invariant.5)),
      heard_still old (received c.recv_as.new.permit) (copies_of (submission_of c.args.message.now)) c.args.verdicts.now.slots c.loop.verdicts.slots c.loop.verdicts.slots (c.recv_as.result ∷ [], grew) refl c.loop.invariant.6,
      (λ live. absurd (not_live c.loop.desk.permits.items c.args.desk.now.permits.items c.in-End.shard (search rules) live (search rules))),
      (λ seat was. backed_end_heard c.loop.desk.dispatch old (received c.recv_as.new.permit) c.in-End.shard (map put_by c.loop.desk.permits.items) came seat (c.loop.invariant.8 seat was)),
    )

-- where each is known, none is awaited
pub returns-then-are_known-clause-known : goal.returns-then-are_known-clause-known
returns-then-are_known-clause-known g c =
    let known = c.are_known.ensures.known (search rules) in
    known_all c.loop.verdicts.slots known.0 known.1.each

pub returns-then-are_known-clause-awaited : goal.returns-then-are_known-clause-awaited
returns-then-are_known-clause-awaited g c =
    let known = c.are_known.ensures.known (search rules) in
    let n = none_unknown c.loop.verdicts.slots (known_all c.loop.verdicts.slots known.0 known.1.each) in
    omega (arith, n, c.loop.invariant.5)

-- the history has what was heard
pub returns-then-not-hear_awaited-clause-backed : goal.returns-then-not-hear_awaited-clause-backed
returns-then-not-hear_awaited-clause-backed g c seat was =
    let old = received c.loop.desk.receiver in
    let came : received c.recv_as.new.permit ≡ old ++ Item c.in-Item.field-0 c.in-Item.answer ∷ [] = search rules in
    backed_heard c.loop.desk.dispatch c.learn.new.self old (received c.recv_as.new.permit) (Item c.in-Item.field-0 c.in-Item.answer) (map put_by c.loop.desk.permits.items)
    c.learn.ensures.learned c.learn.ensures.settled came seat (c.loop.invariant.8 seat was)

pub returns-then-not-is_over_at-clause-backed : goal.returns-then-not-is_over_at-clause-backed
returns-then-not-is_over_at-clause-backed g c seat was =
    let old = received c.loop.desk.receiver in
    let came : received c.recv_as.new.permit ≡ old ++ End c.in-End.shard ∷ [] = search rules in
    backed_end_heard c.loop.desk.dispatch old (received c.recv_as.new.permit) c.in-End.shard (map put_by c.loop.desk.permits.items) came seat (c.loop.invariant.8 seat was)
