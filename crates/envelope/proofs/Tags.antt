-- Users that differ in case at most have one tag.
use Rattle.std.proofs.Common.{◌≡◌, ℕ, suc, ◌+◌, Bool, true, false, cond, List, [], ◌∷◌, take, refl, ap, ap₂, sym, ◌∙◌, arith}
use Rattle.std.specs.Prelude.{◌==◌, nat_eq, ◌*◌, ◌%◌, ◌&&◌, not, if◌then◌else◌, fold, map}
use Rattle.std.specs.List.{before_first, prefix_len}
use Rattle.std.specs.Char.{to_ascii_lowercase}
use Rattle.std.specs.Str.{str_eq_ignore_ascii_case as is_same}
use Rattle.std.proofs.lemmas.Bool.Decides.{Decides-eqb}
use Rattle.std.proofs.lemmas.List.Folds.{fold-map}
use Rattle.envelope.proofs.Case.{decides_false, is_same_decides}
use Rattle.envelope.proofs.Words.{both_true}
use Rattle.envelope.specs.Names.{Home, is_home, is_plus, wanted}
use Rattle.envelope.specs.inner.Tag.{next_tag, tag_of, tag_from}

-- what the tag is made of
abbrev of_lower : (tag b : ℕ) → ℕ
of_lower tag b = (tag * 31 + b) % 65536

tag_by_lower : (user : List ℕ) → tag_of user ≡ fold of_lower 0 (map to_ascii_lowercase user)
tag_by_lower user = sym (fold-map of_lower to_ascii_lowercase 0 user)

same_tag : (a b : List ℕ) → is_same a b ≡ true → tag_of a ≡ tag_of b
same_tag a b e = tag_by_lower a ∙ ap (fold of_lower 0) ((is_same_decides a b).0 e) ∙ sym (tag_by_lower b)

only_if : (t h : Bool) → (h ≡ true → t ≡ true) → (t && h) ≡ h
only_if true h f = refl
only_if false false f = refl
only_if false true f = f refl

-- a home that is wanted has the tag that is sought
tagged : (value : List ℕ) (home : Home) → ((tag_of home.user == tag_of (wanted value).user) && is_home (wanted value) home) ≡ is_home (wanted value) home
tagged value home =
    only_if _ _ (λ e. (Decides-eqb (tag_of home.user) (tag_of (wanted value).user)).1 (sym (same_tag (wanted value).user home.user (both_true _ _ e).0)))

pub passed_over : (tag sought : ℕ) (value : List ℕ) (names home : Home) → tag ≡ tag_of home.user → sought ≡ tag_of (wanted value).user → wanted value ≡ names →
    (tag ≡ sought → ⊥) → nat_eq tag sought ≡ is_home names home
passed_over tag sought value names home t s w other =
    let f : nat_eq tag sought ≡ false = decides_false (nat_eq tag sought) (Decides-eqb tag sought) other in
    let e : nat_eq tag sought ≡ nat_eq (tag_of home.user) (tag_of (wanted value).user) = ap₂ nat_eq t s in
    f ∙ sym (ap (λ b. b && is_home (wanted value) home) (sym e ∙ f)) ∙ tagged value home ∙ ap (λ x. is_home x home) w

before_plus : (b : Bool) (tag c : ℕ) (cs : List ℕ) → tag_from (next_tag tag c) cs ≡ fold next_tag (next_tag tag c) (before_first is_plus cs) → b ≡ is_plus c →
    (if b then tag else tag_from (next_tag tag c) cs) ≡ fold next_tag tag (before_first is_plus (c ∷ cs))
before_plus true tag c cs h e = rw (← e) refl
before_plus false tag c cs h e =
    let n = prefix_len (λ b. not (is_plus b)) cs in
    let next : 1 + n ≡ suc n = omega arith in
    rw (← e, next) h

tag_from_is : (tag : ℕ) (value : List ℕ) → tag_from tag value ≡ fold next_tag tag (before_first is_plus value)
tag_from_is tag [] = refl
tag_from_is tag (c ∷ cs) = before_plus (is_plus c) tag c cs (tag_from_is (next_tag tag c) cs) refl

-- the tag so far is that of the user where the user ends: before a +, or with the value
pub at_plus : (tag c : ℕ) (rest more value : List ℕ) → tag_from tag rest ≡ tag_from 0 value → rest ≡ c ∷ more → c ≡ 43 → tag ≡ tag_of (before_first is_plus value)
at_plus tag c rest more value h e p = sym (ap (tag_from tag) (e ∙ ap (λ b. b ∷ more) p)) ∙ h ∙ tag_from_is 0 value

pub at_end : (tag : ℕ) (rest value : List ℕ) → tag_from tag rest ≡ tag_from 0 value → rest ≡ [] → tag ≡ tag_of (before_first is_plus value)
at_end tag rest value h e = sym (ap (tag_from tag) e) ∙ h ∙ tag_from_is 0 value
