use Rattle.std.proofs.Common.{◌<◌, arith, subst, Option, Some, None}
use Rattle.std.specs.Prelude.{IfSome}
use Rattle.std.specs.Option.{option_map}
use Rattle.std.proofs.lemmas.List.{length-reverse}
use Rattle.imap_session.specs.declared.batch.Origin as origins
use Rattle.imap_session.specs.declared.batch.Origin.TheVariants as from
use Rattle.imap_session.specs.declared.mailing.Sent as sent
use Rattle.imap_session.specs.Exchange.{Mailing}
use Rattle.imap_session.specs.Store.{to_follow, to_follow_from}
use Rattle.imap_session.specs.inner.Seen.{IsRoomy, origin_of, sent_of}
use Rattle.imap_session.proofs.mailing.Mailing.few_follow.Goals as goal

few_from : (origin : origins.Origin) → IsRoomy origin → to_follow_from (origin_of origin) < 32768
few_from from.Client roomy = omega arith
few_from (from.Copied batch) roomy =
    let all = roomy.all in
    let few = roomy.few in
    let same = length-reverse batch.left.items in
    omega (arith, all, few, same)

few : (o : Option sent.Sent) → IfSome o (λ s. IsRoomy s.origin) → to_follow (option_map sent_of o) < 32768
few None roomy = omega arith
few (Some s) roomy = few_from s.origin roomy

pub returns : goal.returns
returns c = subst (λ (m : Mailing). to_follow m.sent < 32768) c.self.view_is (few c.self.inside.sent c.self.invariant.1)
