-- Faults of many that weren't there, and parts that are in order.
use Rattle.std.proofs.Common.{◌≡◌, ◌∙◌, ℕ, List, [], ◌∷◌, All, Option, None, Some, Vec, length, map, refl, ap, sym, subst}
use Rattle.std.specs.Global.{Global}
use Rattle.std.specs.Prelude.{MatchOption}
use Rattle.std.proofs.lemmas.List.{length-map}
use Rattle.lane_work.specs.Rooms.{AreRooms}
use Rattle.std.proofs.lemmas.List.Elements.{All-cons, All-nil}
use Rattle.reckoning.specs.Gathered.{graver, gravest}
use Rattle.reckoning.specs.declared.gather.Fault.{Fault}
use Rattle.reckoning.specs.declared.gather.Fault.TheVariants.{Spawn, NoMemory, Torn}

-- where the graver of two is none, neither is one
pub graver_none : (a b : Option Fault) → graver a b ≡ None → (a ≡ None) × (b ≡ None)
graver_none None None is = (refl, refl)
graver_none None (Some Spawn) is = absurd (cc)
graver_none None (Some NoMemory) is = absurd (cc)
graver_none None (Some Torn) is = absurd (cc)
graver_none (Some Spawn) b is = absurd (cc)
graver_none (Some NoMemory) None is = absurd (cc)
graver_none (Some NoMemory) (Some Spawn) is = absurd (cc)
graver_none (Some NoMemory) (Some NoMemory) is = absurd (cc)
graver_none (Some NoMemory) (Some Torn) is = absurd (cc)
graver_none (Some Torn) None is = absurd (cc)
graver_none (Some Torn) (Some Spawn) is = absurd (cc)
graver_none (Some Torn) (Some NoMemory) is = absurd (cc)
graver_none (Some Torn) (Some Torn) is = absurd (cc)

pub gravest_none : {A : Type 0} (f : A → Option Fault) (worst : Option Fault) (xs : List A) → gravest worst (map f xs) ≡ None → (worst ≡ None) × All (λ x. f x ≡ None) xs
gravest_none {A} f worst [] is = (is, All-nil (λ (x : A). f x ≡ None))
gravest_none {A} f worst (x ∷ xs) is =
    let later = gravest_none f (graver worst (f x)) xs is in
    let here = graver_none worst (f x) later.0 in
    (here.0, All-cons (λ (y : A). f y ≡ None) x xs here.1 later.1)

-- lists that are the same when mapped are equally long
pub mapped_length : {A B C : Type 0} (f : A → C) (g : B → C) (xs : List A) (ys : List B) → map f xs ≡ map g ys → length xs ≡ length ys
mapped_length f g xs ys same = sym (length-map xs f) ∙ ap length same ∙ length-map ys g

pub rooms_for : {T : Type 0} (lists : Vec (Vec T Global) Global) (count count2 each each2 : ℕ) → count ≡ count2 → each ≡ each2 → AreRooms count each lists → AreRooms count2 each2 lists
rooms_for lists count count2 each each2 a b are = subst (λ n. AreRooms n each2 lists) a (subst (λ n. AreRooms count n lists) b are)

-- what is said by cases of an answer that is known
pub at_some : {A : Type 0} (o : Option A) (x : A) (P : Type 0) (Q : A → Type 0) → o ≡ Some x → MatchOption o P Q → Q x
at_some {A} o x P Q is h = subst (λ (p : Option A). MatchOption p P Q) is h
