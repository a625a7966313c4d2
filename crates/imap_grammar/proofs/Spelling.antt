-- Names between spaces, put together again.
use Rattle.std.proofs.Common.{◌≡◌, ℕ, Bool, true, false, cond, List, [], ◌∷◌, refl, ap, sym, ◌∙◌}
use Rattle.std.specs.List.{onto_first, slice_split}
use Rattle.std.proofs.lemmas.Bool.Decides.{Decides-eqb}
use Rattle.change_ring.specs.Words.{spaced}
use Rattle.envelope.specs.Bytes.{is_space}

-- one part at least
record Parts (text : List ℕ) : Type 0 where
  first : List ℕ
  others : List (List ℕ)
  are : slice_split is_space text ≡ first ∷ others

parts_of : (text : List ℕ) → Parts text
parts_of [] = record { first = []; others = []; are = refl }
parts_of (b ∷ bs) = by (is_space b) refl (parts_of bs)
  where
    by : (t : Bool) → is_space b ≡ t → Parts bs → Parts (b ∷ bs)
    by true e k = record { first = []; others = slice_split is_space bs; are = ap (λ (t : Bool). cond t ([] ∷ slice_split is_space bs) (onto_first b (slice_split is_space bs))) e }
    by false e k = record {
      first = b ∷ k.first;
      others = k.others;
      are = ap (λ (t : Bool). cond t ([] ∷ slice_split is_space bs) (onto_first b (slice_split is_space bs))) e ∙ ap (onto_first b) k.are;
    }

onto_spaced : (b : ℕ) (first : List ℕ) (others : List (List ℕ)) → spaced (onto_first b (first ∷ others)) ≡ b ∷ spaced (first ∷ others)
onto_spaced b first [] = refl
onto_spaced b first (other ∷ others) = refl

pub spelled_again : (text : List ℕ) → text ≡ spaced (slice_split is_space text)
spelled_again [] = refl
spelled_again (b ∷ bs) = by (is_space b) refl (parts_of bs) (spelled_again bs)
  where
    by : (t : Bool) → is_space b ≡ t → Parts bs → bs ≡ spaced (slice_split is_space bs) → b ∷ bs ≡ spaced (slice_split is_space (b ∷ bs))
    by true e k h =
        let is : b ≡ 32 = (Decides-eqb b 32).0 e in
        let split : slice_split is_space (b ∷ bs) ≡ [] ∷ (k.first ∷ k.others) = ap (λ (t : Bool). cond t ([] ∷ slice_split is_space bs) (onto_first b (slice_split is_space bs))) e ∙ ap (λ l. [] ∷ l) k.are in
        ap (λ (y : ℕ). y ∷ bs) is ∙ ap (λ l. 32 ∷ l) (h ∙ ap spaced k.are) ∙ sym (ap spaced split)
    by false e k h =
        let split : slice_split is_space (b ∷ bs) ≡ onto_first b (k.first ∷ k.others) = ap (λ (t : Bool). cond t ([] ∷ slice_split is_space bs) (onto_first b (slice_split is_space bs))) e ∙ ap (onto_first b) k.are in
        ap (λ l. b ∷ l) (h ∙ ap spaced k.are) ∙ sym (ap spaced split ∙ onto_spaced b k.first k.others)
