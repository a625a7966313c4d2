-- Lists that are gone over, an element at a time.
use Rattle.std.proofs.Common.{◌≡◌, inl, inr, ℕ, zero, suc, ◌+◌, ◌<◌, ap, sym, subst, List, [], ◌∷◌, length, map, slice_index_or, arith, Bool}
use Rattle.std.proofs.lemmas.Bool.{cases_lt}
use Rattle.delivery_token.specs.Text.{Text}
use Rattle.delivery_token.specs.declared.CopyKey.{CopyKey}
use Rattle.delivery_token.specs.declared.Job.{Job}
use Rattle.delivery_token.specs.declared.log.Noted.{Noted}
use Rattle.running_house.specs.Walk.{MailboxMet}

-- what holds of each number below n, and of n, holds of each below n + 1
pub up_to : (P : ℕ → Type 0) (n : ℕ) → ((m : ℕ) → m < n → P m) → P n → (m : ℕ) → m < n + 1 → P m
up_to P n before here m under = elim (cases_lt m n) [ inl below ↦ before m below | inr above ↦ subst P (let e : n ≡ m = omega (arith, above, under) in e) here ]

-- an element's list, among the elements' lists
pub list_here : {A B : Type 0} (f : A → List B) (xs : List A) (i : ℕ) (x : A) → i < length xs → x ≡ slice_index_or xs i x → slice_index_or (map f xs) i [] ≡ f x
list_here f [] i x under is = absurd (omega arith)
list_here f (y ∷ ys) zero x under is = ap f (sym is)
list_here f (y ∷ ys) (suc i) x under is = list_here f ys i x (omega arith) is

-- of lists that are these
pub met_there : (whole : Bool) (logs : List (List Noted)) (m : ℕ) {copies copies' : List Job} {accepted accepted' : List (CopyKey × ℕ)} {texts texts' : List (ℕ × Text)}
    → copies' ≡ copies → accepted' ≡ accepted → texts' ≡ texts → MailboxMet whole logs copies m accepted texts → MailboxMet whole logs copies' m accepted' texts'
met_there whole logs m {copies} {copies'} {accepted} {accepted'} {texts} {texts'} c a t h =
    subst (λ u. MailboxMet whole logs copies' m accepted' u) (sym t) (subst (λ b. MailboxMet whole logs copies' m b texts) (sym a) (subst (λ k. MailboxMet whole logs k m accepted texts) (sym c) h))
