use Rattle.std.proofs.Common.{◌≡◌, ◌∙◌, ℕ, List, [], false, inl, refl, Result, Ok, Err, IfOk}
use Rattle.delivery_token.specs.Keys.{AtLeast}
use Rattle.delivery_token.specs.declared.CopyKey.{CopyKey}
use Rattle.delivery_token.specs.declared.log.Noted.{Noted}
use Rattle.house_peers.specs.SeatedSession.{SeatedSession, StandsForSeated}
use Rattle.house_peers.specs.Visitor.{SeatedVisitor}
use Rattle.house.specs.Stands.{first_of}
use Rattle.house.proofs.sessions.admitted.Goals as goal

-- who is greeted is there
is_there : {E : Type 0} (r : Result SeatedSession E) (seat serial : ℕ) (v : SeatedVisitor) → v.gone ≡ false → IfOk r (λ p. (next : CopyKey) (heard : List Noted) → AtLeast next (first_of seat serial) → StandsForSeated seat next heard p v)
    → IfOk r (λ p. (p.gone ≡ false) × ((next : CopyKey) (heard : List Noted) → AtLeast next (first_of seat serial) → StandsForSeated seat next heard p v))
is_there (Ok p) seat serial v live f = ((f (first_of seat serial) [] (inl refl)).gone ∙ live, f)
is_there (Err e) seat serial v live f = tt

pub returns : goal.returns
returns c = is_there c.open.result c.args.seat c.args.serial _ refl c.open.ensures
