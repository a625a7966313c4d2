use Rattle.std.proofs.Common.{rules, ◌≡◌, Some, slice_get, subst, sym}
use Rattle.tests_threads.specs.inner.Rounds.{IsOwnPost}
use Rattle.tests_threads.proofs.RoundLaws.{lent_at}
use Rattle.tests_threads.proofs.tests.rounds.labour.Goals as goal

pub put_all-stored-requires-clause-receiver : goal.put_all-stored-requires-clause-receiver
put_all-stored-requires-clause-receiver g c =
    let shared = c.args.shared.now in
    let post = c.into_inner-desk.result in
    let own : IsOwnPost shared post = subst (IsOwnPost shared) (sym c.into_inner-desk.ensures) c.requires.post in
    let some : c.get.result ≡ Some c.expect-channel.result = search rules in
    own.is.receiver c.expect-channel.result.now (lent_at shared.delivery.channels.items c.deref.result.now c.from-position.result post.desk.number c.get.result c.expect-channel.result c.get.ensures.lookup some c.deref.ensures.value (search rules))
