-- There is room for all permits of a run that came to nothing.
use Rattle.std.proofs.Common.{◌≡◌, ◌≤◌, ◌+◌, ◌*◌, ℕ, zero, suc, List, [], ◌∷◌, All, take, Vec, length, ap, sum_by, vec_len, vec_capacity, add-mul, mul-le-mul_right, arith}
use Rattle.std.specs.Global.{Global}
use Rattle.std.proofs.lemmas.List.Elements.{All-cons, All-head, All-nil, All-tail, All-weaker}
use Rattle.std.proofs.lemmas.List.Sums.{sum_by-le}
use Rattle.house_shared.specs.declared.shared.Post.{Post}
use Rattle.house_shared.specs.declared.shared.Stand.{Stand}
use Rattle.house_shared.specs.Left.{IsPostLeft, IsStandLeft}

-- what so many actors have, of whom none has more than so much
pub in_all : {X : Type 0} (f : X → ℕ) (each count : ℕ) (xs : List X) → All (λ x. f x ≤ each) xs → length xs ≤ count → sum_by f xs ≤ count * each
in_all f each count xs all few =
    let sum = sum_by-le f each xs all in
    let most : length xs * each ≤ count * each = mul-le-mul_right each few in
    omega (arith, sum, most)

-- the same of two kinds of actors
pub in_both : {X Y : Type 0} (f : X → ℕ) (g : Y → ℕ) (each count : ℕ) (xs : List X) (ys : List Y) → All (λ x. f x ≤ each) xs → All (λ y. g y ≤ each) ys → length xs + length ys ≡ count
    → sum_by f xs + sum_by g ys ≤ count * each
in_both f g each count xs ys all others same =
    let one = sum_by-le f each xs all in
    let other = sum_by-le g each ys others in
    let both : (length xs + length ys) * each ≡ length xs * each + length ys * each = add-mul (length xs) (length ys) each in
    let most : (length xs + length ys) * each ≡ count * each = ap (λ n. n * each) same in
    omega (arith, one, other, both, most)

-- there is room for it in an empty list with room for so many
pub fits : {X T : Type 0} (f : X → ℕ) (each count : ℕ) (xs : List X) (into : Vec T Global) → into.items ≡ [] → count * each ≤ vec_capacity into → All (λ x. f x ≤ each) xs → length xs ≤ count
    → vec_len into + sum_by f xs ≤ vec_capacity into
fits f each count xs into empty room all few =
    let none : length into.items ≡ 0 = ap length empty in
    omega (arith, in_all f each count xs all few, none, into.ok.0, room)

-- where what the first leave is there, there is room for what the others leave
pub fits_behind : {X Y T : Type 0} (f : X → ℕ) (g : Y → ℕ) (each count : ℕ) (xs : List X) (ys : List Y) (old new : Vec T Global) → old.items ≡ [] → count * each ≤ vec_capacity old
    → (vec_len new ≤ vec_len old + sum_by f xs) × (vec_capacity new ≡ vec_capacity old) → All (λ x. f x ≤ each) xs → All (λ y. g y ≤ each) ys → length xs + length ys ≡ count
    → vec_len new + sum_by g ys ≤ vec_capacity new
fits_behind f g each count xs ys old new empty room grown all others same =
    let none : length old.items ≡ 0 = ap length empty in
    omega (arith, in_both f g each count xs ys all others same, none, old.ok.0, room, grown.0, grown.1)

pub permits_of_posts : {B : Type 0} (lanes : ℕ) (posts : List (Post B)) → All (IsPostLeft lanes) posts → All (λ (p : Post B). vec_len p.desk.permits ≤ lanes) posts
permits_of_posts lanes posts left = All-weaker (IsPostLeft lanes) (λ (p : Post _). vec_len p.desk.permits ≤ lanes) (λ p h. omega (arith, h)) posts left

pub senders_of_stands : {B : Type 0} (producers : ℕ) (stands : List (Stand B)) → All (IsStandLeft producers) stands → All (λ (s : Stand B). vec_len s.stall.senders ≤ producers) stands
senders_of_stands producers stands left = All-weaker (IsStandLeft producers) (λ (s : Stand _). vec_len s.stall.senders ≤ producers) (λ s h. h.0) stands left

-- what is just so much is no more
pub no_more : {X : Type 0} (f : X → ℕ) (n : ℕ) (xs : List X) → All (λ x. f x ≡ n) xs → All (λ x. f x ≤ n) xs
no_more f n xs all = All-weaker (λ x. f x ≡ n) (λ x. f x ≤ n) (λ x h. omega (arith, h)) xs all

-- what holds of each of a list's elements holds of each of its first ones
pub all_taken : {A : Type 0} (P : A → Type 0) (n : ℕ) (xs : List A) → All P xs → All P (take n xs)
all_taken P zero xs all = All-nil P
all_taken P (suc n) [] all = All-nil P
all_taken P (suc n) (x ∷ xs) all = All-cons P x (take n xs) (All-head P x xs all) (all_taken P n xs (All-tail P x xs all))
