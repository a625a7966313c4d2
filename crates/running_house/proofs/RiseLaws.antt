-- Keys that rise, one after another.
use Rattle.std.proofs.Common.{List, ◌∷◌, Option, Some, None}
use Rattle.delivery_token.specs.declared.CopyKey.{CopyKey}
use Rattle.running_house.specs.Lists.{Rise}

-- the keys rise, and come after the last one, where there is one
abbrev pub RiseFrom : Option CopyKey → List CopyKey → Type 0
RiseFrom None keys = Rise keys
RiseFrom (Some last) keys = Rise (last ∷ keys)
