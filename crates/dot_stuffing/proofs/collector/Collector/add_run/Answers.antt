use Rattle.std.proofs.Common.{◌≡◌, ◌∙◌, ℕ, List, ◌++◌, Bool, true, false, ap, sym, subst, refl, inl, inr}
use Rattle.std.specs.Prelude.{◌||◌, Contains}
use Rattle.std.proofs.lemmas.List.Elements.{Contains-append_left, Contains-append_right, Contains-append_cases}
use Rattle.dot_stuffing.specs.Unstuffing.{Collector, Collects, IsBehind}
use Rattle.dot_stuffing.specs.inner.Unstuffing.{Keeps}
use Rattle.dot_stuffing.proofs.collector.Collector.add_run.Goals as goal

-- NULs of a text, and of bytes behind it
nul_added : (was is : Bool) (text run : List ℕ) → (was ≡ true → Contains text 0) → (is ≡ true → Contains run 0) → (was || is) ≡ true → Contains (text ++ run) 0
nul_added true is text run a b e = Contains-append_left text run 0 (a refl)
nul_added false is text run a b e = Contains-append_right text run 0 (b e)

no_nul_added : (was is : Bool) (text run : List ℕ) → (was ≡ false → Contains text 0 → ⊥) → (is ≡ false → Contains run 0 → ⊥) → (was || is) ≡ false → Contains (text ++ run) 0 → ⊥
no_nul_added true is text run a b e k = absurd (let n : true ≡ false = e in cc)
no_nul_added false is text run a b e k = elim (Contains-append_cases text run 0 k) [ inl x ↦ a refl x | inr y ↦ b e y ]

collected : (old new : Collector) (is : Bool) (text run : List ℕ) → Collects old text → new.has_nul ≡ (old.has_nul || is) →
    (is ≡ true → Contains run 0) → (is ≡ false → Contains run 0 → ⊥) → Keeps new (text ++ run) → Collects new (text ++ run)
collected old new is text run s nul found not_found keeps = record {
  nul = λ e. nul_added old.has_nul is text run s.nul found (sym nul ∙ e);
  no_nul = λ e. no_nul_added old.has_nul is text run s.no_nul not_found (sym nul ∙ e);
  big = keeps.big;
  not_big = keeps.not_big;
  bytes = keeps.bytes;
}

pub returns-clause-collects : goal.returns-clause-collects
returns-clause-collects c text s =
    let s' = rw (← c.self.view_is) at s in
    collected c.args.self.now _ c.has_nul.result text c.args.run.now s (c.keep.ensures.nul ∙ ap (λ (x : Collector). x.has_nul || c.has_nul.result) c.self.view_is) c.has_nul.ensures.yes c.has_nul.ensures.no
    (c.keep.ensures.keeps text (record { big = s'.big; not_big = s'.not_big; bytes = s'.bytes }))

pub returns-clause-behind : goal.returns-clause-behind
returns-clause-behind c front h = c.keep.ensures.behind front (subst (λ (x : Collector). IsBehind x front) (sym c.self.view_is) h)
