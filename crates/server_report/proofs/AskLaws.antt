-- The fields of a head, as the spans that cover them.
use Rattle.std.proofs.Common.{◌≡◌, ℕ, ◌+◌, Bool, cond, ◌||◌, List, [], ◌∷◌, map, fold, count_by, refl, ap, ap₂, sym, ◌∙◌}
use Rattle.std.specs.List.{list_any}
use Rattle.httparse.specs.Spans.{header_bytes}
use Rattle.httparse.specs.declared.spans.HeaderSpan.{HeaderSpan}
use Rattle.server_report.specs.Asking.{answer_among, answer_for, is_foreign, is_host}
use Rattle.server_report.specs.declared.asking.Answer.{Answer}

fold_map : {X Y A : Type 0} (g : X → Y) (f : A → Y → A) (a : A) (xs : List X) → fold f a (map g xs) ≡ fold (λ b x. f b (g x)) a xs
fold_map g f a [] = refl
fold_map g f a (x ∷ xs) = fold_map g f (f a (g x)) xs

count_map : {X Y : Type 0} (g : X → Y) (p : Y → Bool) (xs : List X) → count_by p (map g xs) ≡ count_by (λ x. p (g x)) xs
count_map g p xs = fold_map g (λ a y. a + cond (p y) 1 0) 0 xs

any_map : {X Y : Type 0} (g : X → Y) (p : Y → Bool) (xs : List X) → list_any p (map g xs) ≡ list_any (λ x. p (g x)) xs
any_map g p [] = refl
any_map g p (x ∷ xs) = ap (λ b. p (g x) || b) (any_map g p xs)

-- what is answered by the spans is what is answered by the fields
pub among : (came : List ℕ) (minor hosts : ℕ) (foreign : Bool) (spans : List HeaderSpan) (answer told : Answer) → told ≡ answer_for minor hosts foreign answer
    → hosts ≡ count_by (λ f. is_host (header_bytes came f)) spans → foreign ≡ list_any (λ f. is_foreign (header_bytes came f)) spans
    → told ≡ answer_among minor (map (header_bytes came) spans) answer
unfolding answer_among
among came minor hosts foreign spans answer told is counted any =
    is ∙ ap₂ (λ n b. answer_for minor n b answer) (counted ∙ sym (count_map (header_bytes came) is_host spans)) (any ∙ sym (any_map (header_bytes came) is_foreign spans))
