-- What a front has of a mailbox between two moments.
use Rattle.std.proofs.Common.{◌≡◌, ◌++◌, ◌∙◌, ℕ, List, [], ◌∷◌, ap, arith, append-nil, length, length-append, refl, sym}
use mathlib.Core.List.{IsPrefix}
use Rattle.std.proofs.lemmas.List.Elements.{filter-append}
use Rattle.shared_history.specs.Pages.{part}
use Rattle.house_history.specs.declared.event.Event.{Event}
use Rattle.house_history.specs.Events.{concerns}

grows : (m : ℕ) (a b : List Event) (p : IsPrefix a b) → part concerns m b ≡ part concerns m a ++ part concerns m p.0
grows m a b p = ap (part concerns m) (sym p.1) ∙ filter-append (concerns m) a p.0

nothing : {A : Type 0} (xs : List A) → length xs ≡ 0 → xs ≡ []
nothing [] none = refl
nothing (x ∷ xs) none = absurd (omega (arith, none))

-- a mailbox's share between two moments at which it was the same is that, too
pub part_between : (m : ℕ) (a b c : List Event) → IsPrefix a b → IsPrefix b c → part concerns m c ≡ part concerns m a → part concerns m b ≡ part concerns m a
part_between m a b c p q same =
    let more = part concerns m p.0 in
    let rest = part concerns m q.0 in
    let first = grows m a b p in
    let n = ap length first ∙ length-append (part concerns m a) more in
    let o = ap length (grows m b c q) ∙ length-append (part concerns m b) rest in
    let l = ap length same in
    first ∙ (ap (λ xs. part concerns m a ++ xs) (nothing more (omega (arith, n, o, l))) ∙ append-nil (part concerns m a))
