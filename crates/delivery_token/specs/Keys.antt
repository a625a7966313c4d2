-- The order of keys.
use Rattle.std.specs.Prelude.{◌≡◌, ◌+◌, ◌<◌, ◌⊎◌}
use Rattle.delivery_token.specs.declared.CopyKey.{CopyKey}

-- a comes before b by serial, then message, then recipient: an earlier connection, or an earlier message of it, or an earlier recipient of that
abbrev pub Below : CopyKey → CopyKey → Type 0
Below a b = (a.serial < b.serial) ⊎ ((a.serial ≡ b.serial) × ((a.message < b.message) ⊎ ((a.message ≡ b.message) × (a.recipient < b.recipient))))

-- the two are keys of one seat, and a comes before b
abbrev pub Precedes : CopyKey → CopyKey → Type 0
Precedes a b = (a.seat ≡ b.seat) × Below a b

-- y or a key after it
abbrev pub AtLeast : CopyKey → CopyKey → Type 0
AtLeast y key = (y ≡ key) ⊎ Below y key

-- the key of the next recipient
abbrev pub past : CopyKey → CopyKey
past key = record { seat = key.seat; serial = key.serial; message = key.message; recipient = key.recipient + 1 }
