-- The users of a directory, counted by their numbers.
use Rattle.std.proofs.Common.{◌≡◌, ◌≤◌, ◌<◌, ◌-◌, ◌==◌, ℕ, zero, suc, Bool, true, false, if◌then◌else◌, List, [], ◌∷◌, Option, Some, None, All, length, refl, sym, subst, ◌∙◌, arith}
use Rattle.std.proofs.Math.Dec.{eqb-suc-zero}
use Rattle.std.specs.Prelude.{is_none}
use Rattle.std.proofs.lemmas.List.Elements.{All-cons, All-head, All-nil, All-tail}
use Rattle.envelope.specs.Names.{Home}
use Rattle.house_shared.specs.declared.shared.Guest.{Guest}
use Rattle.house_shared.specs.Users.{is_inbox, user_numbered}
use Rattle.serving.specs.Announcing.{users_of}

pub past : (n : ℕ) (homes : List Home) → user_numbered n homes ≡ None → length (users_of homes) ≤ n
past n [] none = omega arith
past n (x ∷ xs) none = go (λ (m : ℕ) (h : user_numbered m xs ≡ None). past m xs h) (is_inbox x.folder) n none where
  go : ((m : ℕ) → user_numbered m xs ≡ None → length (users_of xs) ≤ m) → (b : Bool) (n : ℕ) → (if b then (if n == 0 then Some x.user else user_numbered (n - 1) xs) else user_numbered n xs) ≡ None
      → length (if b then x.user ∷ users_of xs else users_of xs) ≤ n
  go others true zero none = absurd (let e : Some x.user ≡ None = none in cc)
  go others true (suc n) none =
      let passed = subst (λ (c : Bool). (if c then Some x.user else user_numbered (suc n - 1) xs) ≡ None) (eqb-suc-zero n) none in
      let h = others (suc n - 1) passed in omega (arith, h)
  go others false n none = others n none

pub there : (n : ℕ) (homes : List Home) → (user_numbered n homes ≡ None → ⊥) → n < length (users_of homes)
there n [] some = absurd (some refl)
there n (x ∷ xs) some = go (λ (m : ℕ) (h : user_numbered m xs ≡ None → ⊥). there m xs h) (is_inbox x.folder) n some where
  go : ((m : ℕ) → (user_numbered m xs ≡ None → ⊥) → m < length (users_of xs)) → (b : Bool) (n : ℕ) → ((if b then (if n == 0 then Some x.user else user_numbered (n - 1) xs) else user_numbered n xs) ≡ None → ⊥)
      → n < length (if b then x.user ∷ users_of xs else users_of xs)
  go others true zero some = omega arith
  go others true (suc n) some =
      let passed = subst (λ (c : Bool). (if c then Some x.user else user_numbered (suc n - 1) xs) ≡ None → ⊥) (eqb-suc-zero n) some in
      let h = others (suc n - 1) passed in omega (arith, h)
  go others false n some = others n some

pub few : (homes : List Home) → length (users_of homes) ≤ length homes
few [] = omega arith
few (x ∷ xs) = go (few xs) (is_inbox x.folder) where
  go : length (users_of xs) ≤ length xs → (b : Bool) → length (if b then x.user ∷ users_of xs else users_of xs) ≤ suc (length xs)
  go h true = omega (arith, h)
  go h false = omega (arith, h)

pub nobody : (n : ℕ) (homes : List Home) (b : Bool) → b ≡ is_none (user_numbered n homes) → b ≡ true → length (users_of homes) ≤ n
nobody n homes b is so = past n homes (none_of (user_numbered n homes) (sym is ∙ so)) where
  none_of : (o : Option (List ℕ)) → is_none o ≡ true → o ≡ None
  none_of None h = refl
  none_of (Some x) h = absurd (let e : false ≡ true = h in cc)

pub somebody : (n : ℕ) (homes : List Home) (b : Bool) → b ≡ is_none (user_numbered n homes) → b ≡ false → n < length (users_of homes)
somebody n homes b is so = there n homes (λ none. some_of (user_numbered n homes) (sym is ∙ so) none) where
  some_of : (o : Option (List ℕ)) → is_none o ≡ false → o ≡ None → ⊥
  some_of None h e = (let f : true ≡ false = h in cc)
  some_of (Some x) h e = (let f : Some x ≡ None = e in cc)

-- whoever has a number is among so many users
pub each_there : (homes : List Home) (n : ℕ) → n ≡ length (users_of homes) → (vs : List Guest) → All (λ v. user_numbered v.user homes ≡ None → ⊥) vs → All (λ v. v.user < n) vs
each_there homes n is [] all = All-nil (λ (v : Guest). v.user < n)
each_there homes n is (v ∷ vs) all =
    let here = there v.user homes (All-head (λ (x : Guest). user_numbered x.user homes ≡ None → ⊥) v vs all) in
    All-cons (λ (x : Guest). x.user < n) v vs (omega (arith, here, is)) (each_there homes n is vs (All-tail (λ (x : Guest). user_numbered x.user homes ≡ None → ⊥) v vs all))
