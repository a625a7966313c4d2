-- When the lists of one mailbox, and of all, stand in the order of a house that did its work. Where they do, the comparison finds each
-- message's copy: it answers false of no lists that agree.
use Rattle.std.specs.Prelude.{◌≡◌, ◌⊎◌, ◌<◌, ℕ, List, [], ◌∷◌, length, map, slice_index_or, Contains}
use Rattle.std.specs.List.Sorted.{IsStrictlyIncreasing}
use Rattle.delivery_token.specs.Text.{Text}
use Rattle.delivery_token.specs.declared.CopyKey.{CopyKey}
use Rattle.delivery_token.specs.declared.Job.{Job}
use Rattle.envelope.specs.Names.{Directory, shard_of}

-- the copies of these pairs were taken for this mailbox, in this order; others may have been taken between them
abbrev pub AreTakenInOrder : ℕ → List (CopyKey × ℕ) → List Job → Type 0
AreTakenInOrder mailbox [] copies = Unit {0}
AreTakenInOrder mailbox (pair ∷ pairs) [] = ⊥
AreTakenInOrder mailbox (pair ∷ pairs) (copy ∷ copies) =
    ((copy.mailbox ≡ mailbox) × (copy.key ≡ pair.0) × AreTakenInOrder mailbox pairs copies) ⊎ AreTakenInOrder mailbox (pair ∷ pairs) copies

-- two copies that were taken for this mailbox with one key have one text
abbrev pub HaveOneText : ℕ → List Job → Type 0
HaveOneText mailbox copies =
    (a b : Job) → Contains copies a → Contains copies b → a.mailbox ≡ mailbox → b.mailbox ≡ mailbox → a.key ≡ b.key → a.text ≡ b.text

-- UIDs rise, of what was accepted and of what is there, and what was accepted was taken in that order
pub record IsInOrder (copies : List Job) (mailbox : ℕ) (accepted : List (CopyKey × ℕ)) (texts : List (ℕ × Text)) : Type 0 where
  pub accepted_rise : IsStrictlyIncreasing (map (λ pair. pair.1) accepted)
  pub texts_rise : IsStrictlyIncreasing (map (λ t. t.0) texts)
  pub taken : AreTakenInOrder mailbox accepted copies
  pub once : HaveOneText mailbox copies

-- so it is of each mailbox
abbrev pub AreInOrder : Directory → List (List Job) → List (List (CopyKey × ℕ)) → List (List (ℕ × Text)) → Type 0
AreInOrder directory copies accepted texts = (m : ℕ) → m < length directory.homes
    → IsInOrder (slice_index_or copies (shard_of directory m) []) m (slice_index_or accepted m []) (slice_index_or texts m [])
