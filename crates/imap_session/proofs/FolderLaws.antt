-- The folders of a user among some first mailboxes and one more.
use Rattle.std.proofs.Common.{◌≡◌, ◌∙◌, ℕ, zero, suc, ◌+◌, ◌<◌, Bool, true, false, if◌then◌else◌, List, [], ◌∷◌, ◌++◌, length, take, Option, Some, None, ap, sym, refl, arith}
use Rattle.std.specs.Prelude.{IfSome, slice_get, ◌||◌}
use Rattle.std.specs.List.{list_any}
use Rattle.std.specs.Str.{bytes_eq}
use Rattle.envelope.specs.Names.{Home}
use Rattle.imap_session.specs.Exchange.{Folder}
use Rattle.imap_session.specs.Folders.{folders_from}

more_by : (b : Bool) (f : Folder) (rest more last : List Folder) → more ≡ rest ++ last → (if b then f ∷ more else more) ≡ (if b then f ∷ rest else rest) ++ last
more_by true f rest more last e = ap (λ (x : List Folder). f ∷ x) e
more_by false f rest more last e = e

same_home : (x h : Home) → ◌≡◌ {A = Option Home} (Some x) (Some h) → x ≡ h
same_home x h e = cc

none_there : (h : Home) → ◌≡◌ {A = Option Home} None (Some h) → ⊥
none_there h e = cc

folders_more : (m n : ℕ) (user : List ℕ) (homes : List Home) (k : ℕ) (h : Home) → n ≡ m + k → slice_get homes k ≡ Some h
    → folders_from m user (take (suc k) homes) ≡ folders_from m user (take k homes) ++ folders_from n user (h ∷ [])
folders_more m n user [] k h e g = absurd (none_there h g)
folders_more m n user (x ∷ xs) zero h e g =
    let i : m ≡ n = omega (arith, e) in
    ap (λ (y : Home). folders_from m user (y ∷ [])) (same_home x h g) ∙ ap (λ (j : ℕ). folders_from j user (h ∷ [])) i
folders_more m n user (x ∷ xs) (suc k) h e g = more_by (bytes_eq user x.user) _ _ _ _ (folders_more (m + 1) n user xs k h (omega (arith, e)) g)

home_at : (homes : List Home) (k : ℕ) → k < length homes → slice_get homes k ≡ None → ⊥
home_at [] k l e = omega (arith, l)
home_at (x ∷ xs) zero l e = none_there x (sym e)
home_at (x ∷ xs) (suc k) l e = home_at xs k (omega (arith, l)) e

next_by : (user : List ℕ) (homes : List Home) (k : ℕ) (old new : List Folder) (o : Option Home) → slice_get homes k ≡ o → k < length homes
    → IfSome o (λ (h : Home). new ≡ old ++ folders_from k user (h ∷ [])) → old ≡ folders_from 0 user (take k homes) → new ≡ folders_from 0 user (take (k + 1) homes)
next_by user homes k old new None g l e was = absurd (home_at homes k l g)
next_by user homes k old new (Some h) g l e was =
    let s : suc k ≡ k + 1 = omega arith in
    e ∙ ap (λ (x : List Folder). x ++ folders_from k user (h ∷ [])) was ∙ sym (folders_more 0 k user homes k h (omega arith) g) ∙ ap (λ (j : ℕ). folders_from 0 user (take j homes)) s

-- what is added for the mailbox behind the first ones
pub folders_next : (user : List ℕ) (homes : List Home) (k : ℕ) (old new : List Folder) → k < length homes
    → IfSome (slice_get homes k) (λ (h : Home). new ≡ old ++ folders_from k user (h ∷ [])) → old ≡ folders_from 0 user (take k homes) → new ≡ folders_from 0 user (take (k + 1) homes)
folders_next user homes k old new l e was = next_by user homes k old new _ refl l e was

-- ---- whether there is a user

or_true : (a b : Bool) → a ≡ true → (a || b) ≡ true
or_true true b e = refl
or_true false b e = absurd (cc)

or_later : (a b : Bool) → b ≡ true → (a || b) ≡ true
or_later true b e = refl
or_later false b e = e

pub any_at : (test : Home → Bool) (homes : List Home) (k : ℕ) → k < length homes → IfSome (slice_get homes k) (λ (h : Home). test h ≡ true) → list_any test homes ≡ true
any_at test [] k l e = absurd (omega (arith, l))
any_at test (x ∷ xs) zero l e = or_true (test x) (list_any test xs) e
any_at test (x ∷ xs) (suc k) l e = or_later (test x) (list_any test xs) (any_at test xs k (omega (arith, l)) e)

neither : (a b : Bool) → (a || b) ≡ false → (a ≡ false) × (b ≡ false)
neither true b e = absurd (cc)
neither false b e = (refl, e)

both_false : (a b : Bool) → a ≡ false → b ≡ false → (a || b) ≡ false
both_false false b e f = f
both_false true b e f = absurd (cc)

pub none_more : (test : Home → Bool) (homes : List Home) (k : ℕ) → k < length homes → IfSome (slice_get homes k) (λ (h : Home). test h ≡ false) → list_any test (take k homes) ≡ false
    → list_any test (take (suc k) homes) ≡ false
none_more test [] k l e was = refl
none_more test (x ∷ xs) zero l e was = both_false (test x) (list_any test []) e refl
none_more test (x ∷ xs) (suc k) l e was =
    let two = neither (test x) (list_any test (take k xs)) was in
    both_false (test x) (list_any test (take (suc k) xs)) two.0 (none_more test xs k (omega (arith, l)) e two.1)

-- the user's name is or isn't the mailbox's, where that is there
pub is_name : (user name : List ℕ) (b : Bool) (o : Option Home) → IfSome o (λ (h : Home). name ≡ h.user) → bytes_eq user name ≡ b → IfSome o (λ (h : Home). bytes_eq user h.user ≡ b)
is_name user name b None is e = tt
is_name user name b (Some h) is e = ap (bytes_eq user) (sym is) ∙ e
