-- Flags by UID.
use Rattle.std.proofs.Common.{◌≡◌, ℕ, zero, suc, List, [], ◌∷◌, Contains, sym, subst, arith}
use Rattle.std.specs.Prelude.{Some}
use Rattle.laws_client.specs.Clients.{Each, IsOf}
use Rattle.laws_client.specs.Client.{Known}
use Rattle.laws_client.specs.Flags.{Believes, FlagsOf, Point, counted}
use Rattle.laws_client.specs.FlagLaws.{FlagsAreByUid}

-- each message that is known has its position in the view
by_position : (p : Point) (view : List ℕ) (list : List Known) (message : Known) (uid : ℕ) (names : List (List ℕ)) → Each IsOf view list → Each (Believes p) view list → Contains list message
    → message.uid ≡ Some uid → message.flags ≡ Some names → FlagsOf p.log p.cursor uid names
by_position p [] [] message uid names is so (i, l, e) u f = absurd (omega (arith, l))
by_position p [] (m ∷ ms) message uid names is so there u f = absurd is
by_position p (n ∷ view) [] message uid names is so there u f = absurd is
by_position p (n ∷ view) (m ∷ ms) message uid names is so (zero, l, e) u f =
    let same : uid ≡ n = subst (λ (k : Known). k.uid ≡ Some uid → uid ≡ n) e (is.0 uid) u in
    subst (λ (x : ℕ). FlagsOf p.log p.cursor x names) (sym same) (subst (λ (k : Known). k.flags ≡ Some names → FlagsOf p.log p.cursor n names) e (so.0 names) f)
by_position p (n ∷ view) (m ∷ ms) message uid names is so (suc i, l, e) u f = by_position p view ms message uid names is.1 so.1 (i, omega (arith, l), e) u f

pub flags_are_by_uid : FlagsAreByUid
flags_are_by_uid p list message uid names is so there u f = by_position p (counted p) list message uid names is so there u f
