-- Empty lists with room, for permits that are not dealt yet.
use Rattle.std.specs.Prelude.{◌≡◌, ◌≤◌, ℕ, [], All, Vec, vec_len, vec_capacity}
use Rattle.std.specs.Global.{Global}
use Rattle.lane_work.specs.declared.rooms.Hands.{Hands}
use Rattle.lane_work.specs.declared.rooms.PermitRooms.{PermitRooms}

-- so many empty lists, each with room for so many elements
abbrev pub AreRooms : {T : Type 0} → ℕ → ℕ → Vec (Vec T Global) Global → Type 0
AreRooms count each lists = (vec_len lists ≡ count) × All (λ v. (v.items ≡ []) × (each ≤ vec_capacity v)) lists.items

-- an empty list for each of so many actors, with room for its permit at each of so many positions, and room for these lists
abbrev pub AreHandRooms : {T : Type 0} → ℕ → ℕ → Hands T → Type 0
AreHandRooms actors positions hands = AreRooms actors positions hands.each × (hands.all.items ≡ []) × (actors ≤ vec_capacity hands.all)

-- the same for what the actors leave, and an empty list for each position, with room for what all actors leave there
abbrev pub ArePermitRooms : {S E : Type 0} → ℕ → ℕ → PermitRooms S E → Type 0
ArePermitRooms actors positions rooms =
    AreHandRooms actors positions rooms.permits × AreHandRooms actors positions rooms.ended × AreRooms positions actors rooms.lists

-- all lists are empty
abbrev pub AreEmptyHands : {T : Type 0} → Hands T → Type 0
AreEmptyHands hands = All (λ v. v.items ≡ []) hands.each.items × (hands.all.items ≡ [])

abbrev pub AreEmptyPermitRooms : {S E : Type 0} → PermitRooms S E → Type 0
AreEmptyPermitRooms rooms =
    AreEmptyHands rooms.permits × AreEmptyHands rooms.ended × All (λ v. v.items ≡ []) rooms.lists.items
