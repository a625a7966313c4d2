-- What lies at one's own position.
use Rattle.std.proofs.Common.{◌≡◌, ◌<◌, ◌∙◌, ℕ, sym, ap, subst, List, [], Option, None, Some, IfSome, length, slice_get, slice_index_or}
use Rattle.std.proofs.lemmas.Option.{get_or_from_slice_get, slice_get-get_or}
use Rattle.envelope.specs.Names.{Home}
use Rattle.house_shared.specs.Users.{user_numbered}

pub here_at : {A : Type 0} (xs : List A) (i n : ℕ) (d : A) → i ≡ n → n < length xs → slice_get xs n ≡ Some (slice_index_or xs i d)
here_at xs i n d same under = slice_get-get_or xs n d under ∙ ap (λ k. Some (slice_index_or xs k d)) (sym same)

pub found_at : {A : Type 0} (xs : List A) (i n : ℕ) (d x : A) → i ≡ n → slice_get xs n ≡ Some x → slice_index_or xs i d ≡ x
found_at xs i n d x same is = ap (λ k. slice_index_or xs k d) same ∙ get_or_from_slice_get xs n x d is

-- the user of an INBOX is the user of that number
pub user_named : (homes : List Home) (inbox n : ℕ) (name : List ℕ) → inbox < length homes
    → IfSome (slice_get homes inbox) (λ home. user_numbered n homes ≡ Some home.user) → IfSome (slice_get homes inbox) (λ home. name ≡ home.user) → user_numbered n homes ≡ Some name
user_named homes inbox n name under numbered named =
    let nobody : Home = record { user = []; folder = None } in
    let at = slice_get-get_or homes inbox nobody under in
    let a = subst (λ (o : Option Home). IfSome o (λ home. user_numbered n homes ≡ Some home.user)) at numbered in
    let b = subst (λ (o : Option Home). IfSome o (λ home. name ≡ home.user)) at named in
    a ∙ ap (λ (u : List ℕ). Some u) (sym b)
