use Rattle.std.proofs.Common.{inl, inr, ◌≡◌, ℕ, List, sym, ◌∙◌, arith, ◌≤◌, ◌<◌, length, get_or}
use Rattle.std.specs.Prelude.{Result, Ok, Err, ◌==◌, MatchResult, is_ok}
use Rattle.std.specs.List.{list_any}
use Rattle.std.proofs.lemmas.List.Sorted.{searched}
use Rattle.std.proofs.lemmas.Bool.{cases_lt}
use Rattle.mailbox.proofs.RemovalLaws.{any_at, any_none}
use Rattle.mailbox.proofs.choice.has_rising.Goals as goal

-- what was searched for is there, or it is nowhere
answer : (uid : ℕ) (xs : List ℕ) (r : Result ℕ ℕ) → MatchResult r (λ i. (i < length xs) × (get_or xs i 0 ≡ uid))
    (λ i. (i ≤ length xs) × ((k : ℕ) → k < i → get_or xs k 0 < uid) × ((k : ℕ) → i ≤ k → k < length xs → uid < get_or xs k 0)) → is_ok r ≡ list_any (λ u. u == uid) xs
answer uid xs (Ok i) h = sym (any_at uid xs i h.0 h.1)
answer uid xs (Err i) h = sym (any_none uid xs (λ k l same. elim (cases_lt k i) [
  | inl low ↦ absurd (omega (arith, h.1 k low, same))
  | inr high ↦ absurd (omega (arith, h.2 k high l, same))
]))

pub returns : goal.returns
returns c =
    let uids = c.args.uids.now in
    c.is_ok.ensures.value ∙ answer c.args.uid uids c.binary_search.result (searched uids c.args.uid c.binary_search.result c.binary_search.ensures.position (λ i j l m. c.requires i j 0 l m))
