-- Lists in order and parts of lists.
use Rattle.std.proofs.Common.{ℕ, zero, suc, ◌<◌, Bool, true, false, cond, List, [], ◌∷◌, ◌++◌, map, length, get_or, filter, All, AllPairs, arith}
use Rattle.world.specs.Law.{IsPart as Part, none, keeps, skips}

-- All, by recursion on the list
abbrev pub Every : {A : Type 0} → (A → Type 0) → List A → Type 0
Every P [] = Unit {0}
Every P (x ∷ xs) = P x × Every P xs

pub every_append : {A : Type 0} (P : A → Type 0) (xs ys : List A) → Every P xs → Every P ys → Every P (xs ++ ys)
every_append P [] ys h k = k
every_append P (x ∷ xs) ys h k = (h.0, every_append P xs ys h.1 k)

pub every_map : {A B : Type 0} (P : B → Type 0) (f : A → B) (xs : List A) → Every (λ x. P (f x)) xs → Every P (map f xs)
every_map P f [] h = tt
every_map P f (x ∷ xs) h = (h.0, every_map P f xs h.1)

pub every_weaker : {A : Type 0} (P Q : A → Type 0) → ((x : A) → P x → Q x) → (xs : List A) → Every P xs → Every Q xs
every_weaker P Q f [] h = tt
every_weaker P Q f (x ∷ xs) h = (f x h.0, every_weaker P Q f xs h.1)

pub every_of_all : {A : Type 0} (P : A → Type 0) (xs : List A) → All P xs → Every P xs
every_of_all P [] h = tt
every_of_all P (x ∷ xs) h = (h 0 x (omega arith), every_of_all P xs (λ i d l. h (suc i) d (omega arith)))

pub every_get : {A : Type 0} (P : A → Type 0) (xs : List A) (i : ℕ) (d : A) → i < length xs → Every P xs → P (get_or xs i d)
every_get P [] i d l h = absurd (omega arith)
every_get P (x ∷ xs) zero d l h = h.0
every_get P (x ∷ xs) (suc i) d l h = every_get P xs i d (omega arith) h.1

pub all_of_every : {A : Type 0} (P : A → Type 0) (xs : List A) → Every P xs → All P xs
all_of_every P xs h i d l = every_get P xs i d l h

-- AllPairs, by recursion on the list
abbrev pub Rising : {A : Type 0} → (A → A → Type 0) → List A → Type 0
Rising R [] = Unit {0}
Rising R (x ∷ xs) = Every (R x) xs × Rising R xs

pub rising_push : {A : Type 0} (R : A → A → Type 0) (xs : List A) (y : A) → Rising R xs → Every (λ x. R x y) xs → Rising R (xs ++ y ∷ [])
rising_push R [] y h k = (tt, tt)
rising_push R (x ∷ xs) y h k = (every_append (R x) xs (y ∷ []) h.0 (k.0, tt), rising_push R xs y h.1 k.1)

pub rising_map : {A B : Type 0} (R : B → B → Type 0) (f : A → B) (xs : List A) → Rising (λ x y. R (f x) (f y)) xs → Rising R (map f xs)
rising_map R f [] h = tt
rising_map R f (x ∷ xs) h = (every_map (R (f x)) f xs h.0, rising_map R f xs h.1)

pub rising_pair : {A : Type 0} (R : A → A → Type 0) (xs : List A) → Rising R xs → AllPairs R xs
rising_pair R [] h i j d l m = absurd (omega arith)
rising_pair R (x ∷ xs) h zero zero d l m = absurd (omega arith)
rising_pair R (x ∷ xs) h zero (suc j) d l m = every_get (R x) xs j d (omega arith) h.0
rising_pair R (x ∷ xs) h (suc i) zero d l m = absurd (omega arith)
rising_pair R (x ∷ xs) h (suc i) (suc j) d l m = rising_pair R xs h.1 i j d (omega arith) (omega arith)

pub part_empty : {A : Type 0} (ys : List A) → Part [] ys
part_empty [] = none
part_empty (y ∷ ys) = skips y (part_empty ys)

pub part_self : {A : Type 0} (xs : List A) → Part xs xs
part_self [] = none
part_self (x ∷ xs) = keeps x (part_self xs)

pub part_more : {A : Type 0} {xs ys : List A} (zs : List A) → Part xs ys → Part xs (ys ++ zs)
part_more zs none = part_empty zs
part_more zs (keeps x p) = keeps x (part_more zs p)
part_more zs (skips y p) = skips y (part_more zs p)

pub part_append : {A : Type 0} {xs ys : List A} (zs : List A) → Part xs ys → Part (xs ++ zs) (ys ++ zs)
part_append zs none = part_self zs
part_append zs (keeps x p) = keeps x (part_append zs p)
part_append zs (skips y p) = skips y (part_append zs p)

pub part_both : {A : Type 0} {xs ys zs : List A} → Part ys zs → Part xs ys → Part xs zs
part_both none p = p
part_both (skips z q) p = skips z (part_both q p)
part_both (keeps y q) (keeps x p) = keeps x (part_both q p)
part_both (keeps y q) (skips x p) = skips y (part_both q p)

-- the front of a part is a part
pub part_front : {A : Type 0} (xs zs : List A) {ys : List A} → Part (xs ++ zs) ys → Part xs ys
part_front xs zs p = part_both p (part_more zs (part_self xs))

pub part_every : {A : Type 0} (P : A → Type 0) {xs ys : List A} → Part xs ys → Every P ys → Every P xs
part_every P none h = tt
part_every P (keeps x p) h = (h.0, part_every P p h.1)
part_every P (skips y p) h = part_every P p h.1

pub part_rising : {A : Type 0} (R : A → A → Type 0) {xs ys : List A} → Part xs ys → Rising R ys → Rising R xs
part_rising R none h = tt
part_rising R (keeps x p) h = (part_every (R x) p h.0, part_rising R p h.1)
part_rising R (skips y p) h = part_rising R p h.1

pub part_filter : {A : Type 0} (test : A → Bool) (xs : List A) → Part (filter test xs) xs
part_filter test [] = none
part_filter test (x ∷ xs) = go (test x) (part_filter test xs)
  where
    go : (b : Bool) → Part (filter test xs) xs → Part (cond b (x ∷ filter test xs) (filter test xs)) (x ∷ xs)
    go true p = keeps x p
    go false p = skips x p

pub part_map : {A B : Type 0} (f : A → B) {xs ys : List A} → Part xs ys → Part (map f xs) (map f ys)
part_map f none = none
part_map f (keeps x p) = keeps (f x) (part_map f p)
part_map f (skips y p) = skips (f y) (part_map f p)
