use Rattle.std.proofs.Common.{◌≡◌, ◌∷◌, [], List, map, All, slice_index_or, subst, sym}
use Rattle.std.proofs.lemmas.List.Elements.{All-head}
use Rattle.delivery_token.specs.declared.Job.{Job}
use Rattle.shard_queue.specs.Permits.{ShardQueue}
use Rattle.shard_queue.specs.Permits.{ProducerPermit}
use Rattle.shard_queue.specs.Permits.{IsProducer, number_of, sent}
use Rattle.tests_streams.proofs.tests.permits.make_permits.Goals as goal

-- the one permit of one lane
one_permit : (q : ShardQueue Job) (ss : List (ProducerPermit Job)) → map number_of ss ≡ 0 ∷ [] → All (λ s. IsProducer q s × (sent s ≡ [])) ss → (s : ProducerPermit Job) → s ≡ slice_index_or ss 0 s → IsProducer q s × (number_of s ≡ 0)
one_permit q [] is all s at = absurd (let x : [] ≡ 0 ∷ [] = is in cc)
one_permit q (x ∷ []) is all s at =
    let here : IsProducer q x × (sent x ≡ []) = All-head (λ y. IsProducer q y × (sent y ≡ [])) x [] all in
    let e : number_of x ∷ [] ≡ 0 ∷ [] = is in
    let first : number_of x ≡ 0 = cc in
    let same : s ≡ x = at in
    subst (λ (y : ProducerPermit Job). IsProducer q y × (number_of y ≡ 0)) (sym same) (here.0, first)
one_permit q (x ∷ t ∷ ss) is all s at = absurd (let y : number_of x ∷ number_of t ∷ map number_of ss ≡ 0 ∷ [] = is in cc)
