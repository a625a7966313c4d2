-- A lane by its history: producers put entries in at the back, one consumer takes them at the front, and a producer's last entry is its end.
use Rattle.std.specs.Prelude.{◌≡◌, ℕ, ◌<◌, ◌≤◌, ◌==◌, Bool, true, false, List, [], ◌∷◌, ◌++◌, length, filter, if◌then◌else◌}
use Rattle.shard_queue.specs.declared.lane.Entry.{Entry}
use Rattle.shard_queue.specs.declared.lane.Entry.TheVariants.{Item, End}

-- ---- functions from numbers that are changed at one position

-- f, with x at i
abbrev pub set_at : {A : Type 0} → (ℕ → A) → ℕ → A → ℕ → A
set_at f i x j = if j == i then x else f j

-- ---- a lane

-- who put the entry
abbrev pub producer : {A : Type 0} → Entry A → ℕ
producer (Item p x) = p
producer (End p) = p

-- the entries of producer p, in order
abbrev pub of : {A : Type 0} → ℕ → List (Entry A) → List (Entry A)
of p entries = filter (λ e. producer e == p) entries

-- whether there is an end among the entries
abbrev pub has_end : {A : Type 0} → List (Entry A) → Bool
has_end [] = false
has_end (Item p x ∷ es) = has_end es
has_end (End p ∷ es) = true

pub record Lane (A : Type 0) : Type 0 where
  pub sent : ℕ → List (Entry A)  -- what each producer has put, its end included
  pub got : List (Entry A)  -- what was taken
  pub waiting : List (Entry A)  -- what is still there

-- nothing was put yet
abbrev pub empty_lane : {A : Type 0} → Lane A
empty_lane = record { sent = λ _. []; got = []; waiting = [] }

-- the lane after its producer put e
abbrev pub put : {A : Type 0} → Lane A → Entry A → Lane A
put l e = record { sent = set_at l.sent (producer e) (l.sent (producer e) ++ e ∷ []); got = l.got; waiting = l.waiting ++ e ∷ [] }

-- the lane after e was taken, where e stood at the front and the others behind it
abbrev pub took : {A : Type 0} → Lane A → Entry A → List (Entry A) → Lane A
took l e others = record { sent = l.sent; got = l.got ++ e ∷ []; waiting = others }

-- p may still put
abbrev pub IsLive : {A : Type 0} → Lane A → ℕ → Type 0
IsLive l p = has_end (l.sent p) ≡ false

-- the end of every producer was taken
abbrev pub IsClosed : {A : Type 0} → ℕ → Lane A → Type 0
IsClosed producers l = (p : ℕ) → p < producers → has_end (of p l.got) ≡ true

-- an end stands only in the last position
abbrev pub EndsLast : {A : Type 0} → List (Entry A) → Type 0
EndsLast [] = Unit {0}
EndsLast (Item p x ∷ es) = EndsLast es
EndsLast (End p ∷ es) = es ≡ []

-- What was taken and what waits is a merge of what the producers sent, within the lane's room.
pub record IsMerge {A : Type 0} (producers room : ℕ) (l : Lane A) : Type 0 where
  pub each : (p : ℕ) → of p (l.got ++ l.waiting) ≡ l.sent p
  pub known : (p : ℕ) → producers ≤ p → l.sent p ≡ []
  pub within : length l.waiting ≤ room
  pub legal : (p : ℕ) → EndsLast (l.sent p)

-- one entry of a lane's history: a producer puts an item or its end, or the consumer takes the front
pub data Move (A : Type 0) : Type 0 where
  Puts : Entry A → Move A
  Takes : Move A

-- The move is legal on this lane, and leaves that one.
abbrev pub Moves : {A : Type 0} → ℕ → ℕ → Lane A → Move A → Lane A → Type 0
Moves producers room l (Puts e) m = (producer e < producers) × IsLive l (producer e) × (length l.waiting < room) × (m ≡ put l e)
Moves {A} producers room l Takes m = (e : Entry A) × (others : List (Entry A)) × (l.waiting ≡ e ∷ others) × (m ≡ took l e others)

-- The lane comes from the first one by this history, which is legal.
abbrev pub ComesBy : {A : Type 0} → ℕ → ℕ → Lane A → List (Move A) → Lane A → Type 0
ComesBy producers room l [] m = m ≡ l
ComesBy {A} producers room l (x ∷ xs) m = (between : Lane A) × Moves producers room l x between × ComesBy producers room between xs m
