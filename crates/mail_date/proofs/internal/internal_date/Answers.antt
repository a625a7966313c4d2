-- The parts stand one behind another: time and zone are computed, and the day is taken apart.
use Rattle.std.proofs.Common.{arith, ◌≡◌, ◌∙◌, codes, append_assoc, ◌∷◌, [], ℕ, List, ◌++◌, length, slice_index_or, refl, sym, Bool, true, false, if◌then◌else◌}
use Rattle.mail_date.specs.Internal.{sign, two_digits, date_text, time_text, zone_text, internal_text}
use Rattle.mail_date.proofs.internal.internal_date.Goals as goal

-- a list of 11 is its places, one by one
eleven : (xs rest : List ℕ) → length xs ≡ 11 → slice_index_or xs 0 0 ∷ slice_index_or xs 1 0 ∷ slice_index_or xs 2 0 ∷ slice_index_or xs 3 0 ∷ slice_index_or xs 4 0 ∷ slice_index_or xs 5 0 ∷ slice_index_or xs 6 0 ∷ slice_index_or xs 7 0 ∷ slice_index_or xs 8 0 ∷ slice_index_or xs 9 0 ∷ slice_index_or xs 10 0 ∷ rest ≡ xs ++ rest
eleven [] rest len = absurd (omega (arith, len))
eleven (a ∷ []) rest len = absurd (omega (arith, len))
eleven (a ∷ b ∷ []) rest len = absurd (omega (arith, len))
eleven (a ∷ b ∷ c ∷ []) rest len = absurd (omega (arith, len))
eleven (a ∷ b ∷ c ∷ d ∷ []) rest len = absurd (omega (arith, len))
eleven (a ∷ b ∷ c ∷ d ∷ e ∷ []) rest len = absurd (omega (arith, len))
eleven (a ∷ b ∷ c ∷ d ∷ e ∷ f ∷ []) rest len = absurd (omega (arith, len))
eleven (a ∷ b ∷ c ∷ d ∷ e ∷ f ∷ g ∷ []) rest len = absurd (omega (arith, len))
eleven (a ∷ b ∷ c ∷ d ∷ e ∷ f ∷ g ∷ h ∷ []) rest len = absurd (omega (arith, len))
eleven (a ∷ b ∷ c ∷ d ∷ e ∷ f ∷ g ∷ h ∷ i ∷ []) rest len = absurd (omega (arith, len))
eleven (a ∷ b ∷ c ∷ d ∷ e ∷ f ∷ g ∷ h ∷ i ∷ j ∷ []) rest len = absurd (omega (arith, len))
eleven (a ∷ b ∷ c ∷ d ∷ e ∷ f ∷ g ∷ h ∷ i ∷ j ∷ k ∷ []) rest len = refl
eleven (a ∷ b ∷ c ∷ d ∷ e ∷ f ∷ g ∷ h ∷ i ∷ j ∷ k ∷ _ ∷ _) rest len = absurd (omega (arith, len))

-- three parts, a space between each two
joined : (date time zone : List ℕ) → date ++ 32 ∷ (time ++ 32 ∷ zone) ≡ date ++ codes " " ++ time ++ codes " " ++ zone
joined date time zone = simp append_assoc refl

-- the sign is one byte, whichever it is
signed : (is_west : Bool) (digits : List ℕ) → (if is_west then 45 else 43) ∷ digits ≡ sign is_west ++ digits
signed true digits = refl
signed false digits = refl

pub returns : goal.returns
returns c =
    let s = c.args.stamp.now in
    let digits = two_digits s.zone.hours ++ two_digits s.zone.minutes in
    let zone = (if s.zone.is_west then 45 else 43) ∷ digits in
    let day : c.date_bytes.result ≡ date_text s = c.date_bytes.ensures.value in
    let same : zone ≡ zone_text s = signed s.zone.is_west digits ∙ sym (append_assoc (sign s.zone.is_west) (two_digits s.zone.hours) (two_digits s.zone.minutes)) in
    let whole : c.date_bytes.result ++ 32 ∷ (time_text s ++ 32 ∷ zone) ≡ internal_text s = rw day (rw same (joined (date_text s) (time_text s) (zone_text s))) in
    rw c.time_bytes.ensures (rw c.zone_bytes.ensures (eleven c.date_bytes.result (32 ∷ (time_text s ++ 32 ∷ zone)) c.date_bytes.ensures.len ∙ whole))
