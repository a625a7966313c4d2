use Rattle.std.proofs.Common.{◌≡◌, ℕ, ap, ap₂}
use Rattle.std.proofs.lemmas.Slice.Eq.{slice_eq-Decides}
use Rattle.std.proofs.lemmas.Bool.Decides.{Decides-and, Decides-eqb}
use Rattle.delivery_token.specs.declared.CopyKey.{CopyKey}
use Rattle.running_house.proofs.told.are_same.Goals as goal

-- keys and UIDs that are equal, field by field
same_pair : (a b : CopyKey × ℕ) → a.0.seat ≡ b.0.seat → a.0.serial ≡ b.0.serial → a.0.message ≡ b.0.message → a.0.recipient ≡ b.0.recipient → a.1 ≡ b.1 → a ≡ b
same_pair a b seat serial message recipient uid =
    ap₂ (λ k u. (k, u)) (ap₂ (λ (x : ℕ × ℕ) (y : ℕ × ℕ). record { seat = x.0; serial = x.1; message = y.0; recipient = y.1 }) (ap₂ (λ s t. (s, t)) seat serial) (ap₂ (λ s t. (s, t)) message recipient)) uid

pub returns : goal.returns
returns c = slice_eq-Decides (λ a b.
    let tests = Decides-and _ _ (Decides-and _ _ (Decides-eqb a.0.serial b.0.serial) (Decides-and _ _ (Decides-eqb a.0.message b.0.message) (Decides-and _ _ (Decides-eqb a.0.seat b.0.seat) (Decides-eqb a.0.recipient b.0.recipient)))) (Decides-eqb a.1 b.1) in (
      λ h. let e = tests.0 h in same_pair a b e.0.1.1.0 e.0.0 e.0.1.0 e.0.1.1.1 e.1,
      λ e. tests.1 ((ap (λ p. p.0.serial) e, (ap (λ p. p.0.message) e, (ap (λ p. p.0.seat) e, ap (λ p. p.0.recipient) e))), ap (λ p. p.1) e),
    ))
    c.args.some.now c.args.others.now c.eq.result c.eq.ensures
