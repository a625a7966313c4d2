use Rattle.std.proofs.Common.{◌≡◌, [], length, vec_len, arith}
use Rattle.std.proofs.lemmas.List.Elements.{All-weaker}
use Rattle.house_shared.specs.Left.{IsStandLeft}
use Rattle.house_shared.specs.declared.shared.Stand.{Stand}
use Rattle.house_shared.proofs.Leaving.{posts_left}
use Rattle.serving.proofs.closing.spend.Goals as goal

pub give_up-requires-clause-posts : goal.give_up-requires-clause-posts
give_up-requires-clause-posts g c = (c.requires.posts.1, posts_left c.args.shared 0 c.args.posts.items c.requires.posts.0)

pub give_up-requires-clause-stands : goal.give_up-requires-clause-stands
give_up-requires-clause-stands g c =
    let channels = length c.args.shared.delivery.channels.items in
    let Stood : Stand _ → Type 0 = λ s. (vec_len s.stall.senders ≡ channels) × (s.room.items ≡ []) in (
      c.stand_down-stands.ensures.count,
      All-weaker Stood (IsStandLeft channels) (λ s is. (let as_many = is.0 in omega (arith, as_many), is.1)) c.stand_down-stands.result.items c.stand_down-stands.ensures.stands,
    )
