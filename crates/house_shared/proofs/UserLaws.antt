-- The users of a directory, one mailbox after another.
use Rattle.std.proofs.Common.{◌≡◌, ◌<◌, ◌-◌, ◌∙◌, ℕ, zero, suc, ap, sym, Bool, true, false, List, [], ◌∷◌, Some, IfSome, length, drop, slice_get, nat_eq, arith}
use Rattle.std.specs.Prelude.{if◌then◌else◌}
use Rattle.std.proofs.Math.Dec.{eqb-suc-zero}
use Rattle.envelope.specs.Names.{Home}
use Rattle.house_shared.specs.Users.{is_inbox, user_numbered}

-- the mailbox at this position is, or isn't, an INBOX
abbrev pub IsInboxAt : List Home → ℕ → Bool → Type 0
IsInboxAt homes m b = IfSome (slice_get homes m) (λ home. b ≡ is_inbox home.folder)

-- a folder is passed
pub passed : (homes : List Home) (m n : ℕ) → m < length homes → IsInboxAt homes m false → user_numbered n (drop m homes) ≡ user_numbered n (drop (suc m) homes)
passed [] m n under is = absurd (omega (arith, under))
passed (home ∷ homes) zero n under is =
    ap (λ b. if b then (if nat_eq n 0 then Some home.user else user_numbered (n - 1) homes) else user_numbered n homes) (sym is)
passed (home ∷ homes) (suc m) n under is = passed homes m n (omega (arith, under)) is

-- the INBOX of an earlier user is counted
pub counted : (homes : List Home) (m n : ℕ) → m < length homes → IsInboxAt homes m true → 0 < n → user_numbered n (drop m homes) ≡ user_numbered (n - 1) (drop (suc m) homes)
counted [] m n under is more = absurd (omega (arith, under))
counted homes m zero under is more = absurd (omega (arith, more))
counted (home ∷ homes) zero (suc n) under is more = ap (λ b. if b then (if nat_eq (suc n) 0 then Some home.user else user_numbered (suc n - 1) homes) else user_numbered (suc n) homes) (sym is)
    ∙ ap (λ b. if b then Some home.user else user_numbered (suc n - 1) homes) (eqb-suc-zero n)
counted (home ∷ homes) (suc m) (suc n) under is more = counted homes m (suc n) (omega (arith, under)) is more

-- the user's own is found
pub found : (homes : List Home) (m : ℕ) → m < length homes → IsInboxAt homes m true → IfSome (slice_get homes m) (λ home. user_numbered 0 (drop m homes) ≡ Some home.user)
found [] m under is = absurd (omega (arith, under))
found (home ∷ homes) zero under is =
    ap (λ b. if b then Some home.user else user_numbered 0 homes) (sym is)
found (home ∷ homes) (suc m) under is = found homes m (omega (arith, under)) is
