use Rattle.std.proofs.Common.{◌≡◌, ◌⊎◌, inl, inr, ◌<◌, Bool, true, false, sym, subst, length, List, [], refl, arith}
use Rattle.lmtp_machine.specs.Dialogue.{Submission}
use Rattle.house_peers.specs.HouseConnection.{HouseConnection}
use Rattle.house_peers.specs.Taking.{due}
use Rattle.house_peers.proofs.Copies.{few-due}
use Rattle.house_peers.proofs.connection.HouseConnection.note_put.Goals as goal

waiting : (b : Bool) (ss : List Submission) → (b ≡ true → length ss ≡ 1) → (b ≡ false → ss ≡ []) → (length ss ≡ 1) ⊎ (ss ≡ [])
waiting true ss h k = inl (h refl)
waiting false ss h k = inr (k refl)

pub note_put-requires : goal.note_put-requires
note_put-requires c =
    let i = c.self.invariant in
    let n = few-due (length c.self.inside.verdicts.slots) c.self.inside.machine.pending (waiting c.self.inside.is_waiting c.self.inside.machine.pending i.0 i.1) i.3
    (subst (λ (h : HouseConnection). 0 < length (due h)) (sym c.self.view_is) c.requires) in
    omega (arith, n, i.2)
