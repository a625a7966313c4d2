-- What a house that was served can't have come to.
use Rattle.std.proofs.Common.{◌≡◌, ◌<◌, ℕ, List, [], ◌∷◌, length, subst, arith}
use Rattle.shard_queue.specs.Reply.{ReplyChannel}
use Rattle.shard_queue.specs.Permits.{Closed}
use Rattle.shard_queue.specs.Permits.{ShardQueue}
use Rattle.shard_queue.specs.Reply.{ReplyClosed}
use Rattle.delivery_token.specs.declared.Job.{Job}
use Rattle.delivery_token.specs.declared.log.Noted.{Noted}
use Rattle.house_shared.specs.declared.shared.HouseShared.{HouseShared}
use Rattle.serving_workers.specs.Finished.{Finished}
use Rattle.serving.specs.inner.Ending.{CameTo, WereEmptied, WereHeardOut}

no_lanes : (lanes : List (ShardQueue Job)) → 0 < length lanes → WereEmptied lanes [] → ⊥
no_lanes [] some emptied = omega (arith, some)
no_lanes (lane ∷ lanes) some emptied = emptied

-- it has lanes, and nothing was taken of any
nothing_taken : {B : Type 0} (shared : HouseShared B) (workers : ℕ) (finished : Finished) → 0 < length shared.intake.lanes.items → finished.lanes.items ≡ [] → CameTo shared workers finished → ⊥
nothing_taken shared workers finished some none came =
    no_lanes shared.intake.lanes.items some (subst (λ (cs : List (Closed Job)). WereEmptied shared.intake.lanes.items cs) none came.lanes)

no_channels : (channels : List (ReplyChannel Noted)) → 0 < length channels → WereHeardOut channels [] → ⊥
no_channels [] some heard = omega (arith, some)
no_channels (channel ∷ channels) some heard = heard

-- it has producers, and nothing came to any
nothing_heard : {B : Type 0} (shared : HouseShared B) (workers : ℕ) (finished : Finished) → 0 < length shared.delivery.channels.items → finished.channels.items ≡ [] → CameTo shared workers finished → ⊥
nothing_heard shared workers finished some none came =
    no_channels shared.delivery.channels.items some (subst (λ (cs : List (ReplyClosed Noted)). WereHeardOut shared.delivery.channels.items cs) none came.channels)
