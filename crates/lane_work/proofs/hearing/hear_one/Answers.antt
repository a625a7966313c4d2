use Rattle.std.proofs.Common.{rules, map, ◌≡◌, ◌++◌, ◌∷◌, [], ◌∙◌, ap, subst, arith}
use Rattle.delivery_token.specs.declared.CopyKey.{CopyKey}
use Rattle.delivery_token.specs.declared.log.Noted.{Noted}
use Rattle.shard_queue.specs.declared.lane.Entry.TheVariants.{Item, End}
use Rattle.shard_queue.specs.Reply.{received}
use Rattle.lane_work.specs.Account.{IsHeard}
use Rattle.lane_work.specs.Ends.{ends_in}
use Rattle.lane_work.specs.Awaiting.{verdicts_in}
use Rattle.lane_work.proofs.AwaitedLaws.{verdict_more}
use Rattle.lane_work.specs.Permits.{put_by}
use Rattle.lane_work.proofs.BackingLaws.{backed_heard}
use Rattle.lane_work.proofs.PermitLaws.{ends_next}
use Rattle.lane_work.proofs.hearing.hear_one.Goals as goal

pub returns-then-ne-clause-ends : goal.returns-then-ne-clause-ends
returns-then-ne-clause-ends g c =
    let old = received c.args.desk.now.receiver in
    let grew : received c.recv_as.new.permit ≡ old ++ Item c.in-Item.field-0 c.in-Item.answer ∷ [] = search rules in
    let e = ap ends_in grew ∙ ends_next old (Item c.in-Item.field-0 c.in-Item.answer) in
    omega (arith, e)

pub returns-then-noted-mailbox-clause-ends : goal.returns-then-noted-mailbox-clause-ends
returns-then-noted-mailbox-clause-ends g c =
    let old = received c.args.desk.now.receiver in
    let grew : received c.recv_as.new.permit ≡ old ++ Item c.in-Item.field-0 c.in-Item.answer ∷ [] = search rules in
    let e = ap ends_in grew ∙ ends_next old (Item c.in-Item.field-0 c.in-Item.answer) in
    omega (arith, e)

pub returns-else-noted-mailbox-clause-ends : goal.returns-else-noted-mailbox-clause-ends
returns-else-noted-mailbox-clause-ends g c =
    let old = received c.args.desk.now.receiver in
    let grew : received c.recv_as.new.permit ≡ old ++ Item c.in-Item.field-0 c.in-Item.answer ∷ [] = search rules in
    let e = ap ends_in grew ∙ ends_next old (Item c.in-Item.field-0 c.in-Item.answer) in
    omega (arith, e)

pub returns-else-noted-mailbox-clause-heard : goal.returns-else-noted-mailbox-clause-heard
returns-else-noted-mailbox-clause-heard g c =
    let old = received c.args.desk.now.receiver in
    let grew : received c.recv_as.new.permit ≡ old ++ Item c.in-Item.field-0 c.noted-noted.result ∷ [] = search rules in
    let ke : c.noted-noted.result.key ≡ c.args.key = search rules in
    let me : c.noted-noted.result.mailbox ≡ c.args.mailbox = c.if-noted-mailbox.false in
    let is : c.noted-noted.result ≡ record { key = c.args.key; mailbox = c.args.mailbox; verdict = c.noted-noted.result.verdict } =
    ap (λ (z : CopyKey). let x : Noted = record { key = z; mailbox = c.noted-noted.result.mailbox; verdict = c.noted-noted.result.verdict } in x) ke
    ∙ ap (λ m. let x : Noted = record { key = c.args.key; mailbox = m; verdict = c.noted-noted.result.verdict } in x) me in
    subst (IsHeard (received c.recv_as.new.permit)) is (c.in-Item.field-0, old, [], grew)

pub returns-in-End-clause-ends : goal.returns-in-End-clause-ends
returns-in-End-clause-ends g c =
    let old = received c.args.desk.now.receiver in
    let grew : received c.recv_as.new.permit ≡ old ++ End c.in-End.field-0 ∷ [] = search rules in
    let e = ap ends_in grew ∙ ends_next old (End c.in-End.field-0) in
    search rules

pub returns-else-noted-mailbox-clause-only : goal.returns-else-noted-mailbox-clause-only
returns-else-noted-mailbox-clause-only g c =
    let old = received c.args.desk.now.receiver in
    let grew : received c.recv_as.new.permit ≡ old ++ Item c.in-Item.field-0 c.in-Item.answer ∷ [] = search rules in
    ap verdicts_in grew ∙ verdict_more old c.in-Item.field-0 c.in-Item.answer

pub returns-then-ne-clause-backed : goal.returns-then-ne-clause-backed
returns-then-ne-clause-backed g c =
    let old = received c.args.desk.now.receiver in
    let grew : received c.recv_as.new.permit ≡ old ++ Item c.in-Item.field-0 c.in-Item.answer ∷ [] = search rules in
    backed_heard c.args.desk.now.dispatch c.learn.new.self old (received c.recv_as.new.permit) (Item c.in-Item.field-0 c.in-Item.answer) (map put_by c.args.desk.now.permits.items)
    c.learn.ensures.learned c.learn.ensures.settled grew

pub returns-then-noted-mailbox-clause-backed : goal.returns-then-noted-mailbox-clause-backed
returns-then-noted-mailbox-clause-backed g c =
    let old = received c.args.desk.now.receiver in
    let grew : received c.recv_as.new.permit ≡ old ++ Item c.in-Item.field-0 c.in-Item.answer ∷ [] = search rules in
    backed_heard c.args.desk.now.dispatch c.learn.new.self old (received c.recv_as.new.permit) (Item c.in-Item.field-0 c.in-Item.answer) (map put_by c.args.desk.now.permits.items)
    c.learn.ensures.learned c.learn.ensures.settled grew

pub returns-else-noted-mailbox-clause-backed : goal.returns-else-noted-mailbox-clause-backed
returns-else-noted-mailbox-clause-backed g c =
    let old = received c.args.desk.now.receiver in
    let grew : received c.recv_as.new.permit ≡ old ++ Item c.in-Item.field-0 c.in-Item.answer ∷ [] = search rules in
    backed_heard c.args.desk.now.dispatch c.learn.new.self old (received c.recv_as.new.permit) (Item c.in-Item.field-0 c.in-Item.answer) (map put_by c.args.desk.now.permits.items)
    c.learn.ensures.learned c.learn.ensures.settled grew
