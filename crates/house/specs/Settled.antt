-- What settling promises: for each scene for which the house stood, a scene in which it has settled.
use Rattle.std.specs.Prelude.{◌≡◌, ℕ, ◌++◌, Bool, List, slice_index_or, false}
use Rattle.house.specs.House.{House}
use Rattle.house.specs.Setup.{Setup}
use Rattle.house.specs.Scene.{Scene}
use Rattle.house.specs.Settling.{Settles, SettlingBreaksOff}
use Rattle.house.specs.Stands.{StandsFor}

-- the shards that are held; those that the list doesn't name aren't
abbrev pub is_held : List Bool → ℕ → Bool
is_held held shard = slice_index_or held shard false

pub record SettledFrom (k : Setup) (held : List Bool) (s : Scene) (h : House) (old new : List ℕ) : Type 0 where
  pub after : Scene
  pub printed : List ℕ
  pub settles : Settles k (is_held held) s after printed
  pub stands : StandsFor k h after
  pub out : new ≡ old ++ printed

-- memory was wanting on the way
pub record BrokeOffFrom (k : Setup) (held : List Bool) (s : Scene) (h : House) (old new : List ℕ) : Type 0 where
  pub after : Scene
  pub printed : List ℕ
  pub breaks_off : SettlingBreaksOff k (is_held held) s after printed
  pub stands : StandsFor k h after
  pub out : new ≡ old ++ printed
