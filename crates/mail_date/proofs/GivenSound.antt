-- What is read as IMAP's clients give it is spelled by the rules.
use Rattle.std.proofs.Common.{◌≡◌, ℕ, true, List, drop, refl, sym, subst, ◌∙◌, inl, inr}
use Rattle.std.specs.Prelude.{Some, codes}
use Rattle.mail_date.specs.declared.stamp.Stamp.{Stamp}
use Rattle.mail_date.specs.declared.stamp.Zone.{Zone}
use Rattle.mail_date.specs.Bytes.{first_is}
use Rattle.mail_date.specs.Grammar.{Digits, Exactly, Month, Joined}
use Rattle.mail_date.specs.Reading.{◌>>=◌, past_byte, one_at, two_at, month_at, signed_at, stamped, if_ended}
use Rattle.mail_date.specs.Given.{FixedDay, FixedDate, FixedTime, FixedZone, GivenDate}
use Rattle.mail_date.specs.InternalBack.{four_at, fixed_day_at, fixed_date_at, fixed_time_at, internal_date}
use Rattle.mail_date.proofs.Blanks.{bind_some, either}
use Rattle.mail_date.proofs.Sound.{Front, joined, ruled, some_is, first_cons, byte_sound, one_sound, one_front, two_sound, four_sound, month_sound, signed_sound, ended}

abbrev Parts : Type 0
Parts = (ℕ × ℕ × ℕ) × List ℕ

space_sound : (bytes : List ℕ) → first_is 32 bytes ≡ true → Front (Exactly (codes " ")) bytes (drop 1 bytes)
space_sound bytes e = record { text = codes " "; parts = first_cons 32 bytes e; is = refl }

day_sound : (bytes : List ℕ) (z : ℕ × List ℕ) → fixed_day_at bytes ≡ Some z → Front (FixedDay z.0) bytes z.1
day_sound bytes z e =
    elim (either (first_is 32 bytes) (one_at (drop 1 bytes)) (two_at bytes) (Some z) e) [
      | inl q ↦
          ruled (Joined (Exactly (codes " ")) (Digits 1 z.0)) (FixedDay z.0) bytes z.1 z.1 refl (λ text d. inr d)
          (joined (Exactly (codes " ")) (Digits 1 z.0) bytes (drop 1 bytes) z.1 (space_sound bytes q.0)
          (one_front (drop 1 bytes) z (one_sound (drop 1 bytes) z q.1)))
      | inr q ↦ ruled (Digits 2 z.0) (FixedDay z.0) bytes z.1 z.1 refl (λ text d. inl d) (two_sound bytes z q.1)
    ]

abbrev DateParts : ℕ → ℕ → ℕ → List ℕ → Type 0
DateParts y m d = Joined (FixedDay d) (Joined (Exactly (codes "-")) (Joined (Month m) (Joined (Exactly (codes "-")) (Digits 4 y))))

date_sound : (bytes : List ℕ) (z : Parts) → fixed_date_at bytes ≡ Some z → Front (DateParts z.0.0 z.0.1 z.0.2) bytes z.1
date_sound bytes z e =
    let d = bind_some (fixed_day_at bytes) (λ (d : ℕ × List ℕ). past_byte 45 d.1 >>= (λ (a : List ℕ). month_at a >>= (λ (m : ℕ × List ℕ). past_byte 45 m.1 >>= (λ (b : List ℕ). four_at b >>= (λ (y : ℕ × List ℕ). Some ((y.0, m.0, d.0), y.1)))))) z e in
    let a = bind_some (past_byte 45 d.0.1) (λ (a : List ℕ). month_at a >>= (λ (m : ℕ × List ℕ). past_byte 45 m.1 >>= (λ (b : List ℕ). four_at b >>= (λ (y : ℕ × List ℕ). Some ((y.0, m.0, d.0.0), y.1))))) z d.2 in
    let m = bind_some (month_at a.0) (λ (m : ℕ × List ℕ). past_byte 45 m.1 >>= (λ (b : List ℕ). four_at b >>= (λ (y : ℕ × List ℕ). Some ((y.0, m.0, d.0.0), y.1)))) z a.2 in
    let b = bind_some (past_byte 45 m.0.1) (λ (b : List ℕ). four_at b >>= (λ (y : ℕ × List ℕ). Some ((y.0, m.0.0, d.0.0), y.1))) z m.2 in
    let y = bind_some (four_at b.0) (λ (y : ℕ × List ℕ). Some ((y.0, m.0.0, d.0.0), y.1)) z b.2 in
    let v : Parts = ((y.0.0, m.0.0, d.0.0), y.0.1) in
    subst (λ (p : Parts). Front (DateParts p.0.0 p.0.1 p.0.2) bytes p.1) (some_is v z y.2)
    (joined (FixedDay d.0.0) (Joined (Exactly (codes "-")) (Joined (Month m.0.0) (Joined (Exactly (codes "-")) (Digits 4 y.0.0)))) bytes d.0.1 y.0.1 (day_sound bytes d.0 d.1)
    (joined (Exactly (codes "-")) (Joined (Month m.0.0) (Joined (Exactly (codes "-")) (Digits 4 y.0.0))) d.0.1 a.0 y.0.1 (byte_sound 45 d.0.1 a.0 a.1)
    (joined (Month m.0.0) (Joined (Exactly (codes "-")) (Digits 4 y.0.0)) a.0 m.0.1 y.0.1 (month_sound a.0 m.0 m.1)
    (joined (Exactly (codes "-")) (Digits 4 y.0.0) m.0.1 b.0 y.0.1 (byte_sound 45 m.0.1 b.0 b.1) (four_sound b.0 y.0 y.1)))))

abbrev TimeParts : ℕ → ℕ → ℕ → List ℕ → Type 0
TimeParts h m s = Joined (Digits 2 h) (Joined (Exactly (codes ":")) (Joined (Digits 2 m) (Joined (Exactly (codes ":")) (Digits 2 s))))

time_sound : (bytes : List ℕ) (z : Parts) → fixed_time_at bytes ≡ Some z → Front (TimeParts z.0.0 z.0.1 z.0.2) bytes z.1
time_sound bytes z e =
    let h = bind_some (two_at bytes) (λ (h : ℕ × List ℕ). past_byte 58 h.1 >>= (λ (a : List ℕ). two_at a >>= (λ (m : ℕ × List ℕ). past_byte 58 m.1 >>= (λ (b : List ℕ). two_at b >>= (λ (s : ℕ × List ℕ). Some ((h.0, m.0, s.0), s.1)))))) z e in
    let a = bind_some (past_byte 58 h.0.1) (λ (a : List ℕ). two_at a >>= (λ (m : ℕ × List ℕ). past_byte 58 m.1 >>= (λ (b : List ℕ). two_at b >>= (λ (s : ℕ × List ℕ). Some ((h.0.0, m.0, s.0), s.1))))) z h.2 in
    let m = bind_some (two_at a.0) (λ (m : ℕ × List ℕ). past_byte 58 m.1 >>= (λ (b : List ℕ). two_at b >>= (λ (s : ℕ × List ℕ). Some ((h.0.0, m.0, s.0), s.1)))) z a.2 in
    let b = bind_some (past_byte 58 m.0.1) (λ (b : List ℕ). two_at b >>= (λ (s : ℕ × List ℕ). Some ((h.0.0, m.0.0, s.0), s.1))) z m.2 in
    let s = bind_some (two_at b.0) (λ (s : ℕ × List ℕ). Some ((h.0.0, m.0.0, s.0), s.1)) z b.2 in
    let v : Parts = ((h.0.0, m.0.0, s.0.0), s.0.1) in
    subst (λ (p : Parts). Front (TimeParts p.0.0 p.0.1 p.0.2) bytes p.1) (some_is v z s.2)
    (joined (Digits 2 h.0.0) (Joined (Exactly (codes ":")) (Joined (Digits 2 m.0.0) (Joined (Exactly (codes ":")) (Digits 2 s.0.0)))) bytes h.0.1 s.0.1 (two_sound bytes h.0 h.1)
    (joined (Exactly (codes ":")) (Joined (Digits 2 m.0.0) (Joined (Exactly (codes ":")) (Digits 2 s.0.0))) h.0.1 a.0 s.0.1 (byte_sound 58 h.0.1 a.0 a.1)
    (joined (Digits 2 m.0.0) (Joined (Exactly (codes ":")) (Digits 2 s.0.0)) a.0 m.0.1 s.0.1 (two_sound a.0 m.0 m.1)
    (joined (Exactly (codes ":")) (Digits 2 s.0.0) m.0.1 b.0 s.0.1 (byte_sound 58 m.0.1 b.0 b.1) (two_sound b.0 s.0 s.1)))))

whole_is : (text : List ℕ) → internal_date text ≡ (fixed_date_at text >>= (λ (d : Parts). past_byte 32 d.1 >>= (λ (a : List ℕ). fixed_time_at a >>= (λ (t : Parts). past_byte 32 t.1 >>= (λ (b : List ℕ). signed_at b >>= (λ (z : Zone × List ℕ). if_ended z.1 (stamped d.0 t.0 z.0)))))))
unfolding internal_date
whole_is text = refl

abbrev Whole : Stamp → List ℕ → Type 0
Whole s = Joined (FixedDate s) (Joined (Exactly (codes " ")) (Joined (FixedTime s) (Joined (Exactly (codes " ")) (FixedZone s.zone))))

pub given_sound : (text : List ℕ) (s : Stamp) → internal_date text ≡ Some s → GivenDate s text
given_sound text s h =
    let e = sym (whole_is text) ∙ h in
    let d = bind_some (fixed_date_at text) (λ (d : Parts). past_byte 32 d.1 >>= (λ (a : List ℕ). fixed_time_at a >>= (λ (t : Parts). past_byte 32 t.1 >>= (λ (b : List ℕ). signed_at b >>= (λ (z : Zone × List ℕ). if_ended z.1 (stamped d.0 t.0 z.0)))))) s e in
    let a = bind_some (past_byte 32 d.0.1) (λ (a : List ℕ). fixed_time_at a >>= (λ (t : Parts). past_byte 32 t.1 >>= (λ (b : List ℕ). signed_at b >>= (λ (z : Zone × List ℕ). if_ended z.1 (stamped d.0.0 t.0 z.0))))) s d.2 in
    let t = bind_some (fixed_time_at a.0) (λ (t : Parts). past_byte 32 t.1 >>= (λ (b : List ℕ). signed_at b >>= (λ (z : Zone × List ℕ). if_ended z.1 (stamped d.0.0 t.0 z.0)))) s a.2 in
    let b = bind_some (past_byte 32 t.0.1) (λ (b : List ℕ). signed_at b >>= (λ (z : Zone × List ℕ). if_ended z.1 (stamped d.0.0 t.0.0 z.0))) s t.2 in
    let z = bind_some (signed_at b.0) (λ (z : Zone × List ℕ). if_ended z.1 (stamped d.0.0 t.0.0 z.0)) s b.2 in
    let v = stamped d.0.0 t.0.0 z.0.0 in
    let front : Front (Whole v) text z.0.1 =
    joined (FixedDate v) (Joined (Exactly (codes " ")) (Joined (FixedTime v) (Joined (Exactly (codes " ")) (FixedZone v.zone)))) text d.0.1 z.0.1 (date_sound text d.0 d.1)
    (joined (Exactly (codes " ")) (Joined (FixedTime v) (Joined (Exactly (codes " ")) (FixedZone v.zone))) d.0.1 a.0 z.0.1 (byte_sound 32 d.0.1 a.0 a.1)
    (joined (FixedTime v) (Joined (Exactly (codes " ")) (FixedZone v.zone)) a.0 t.0.1 z.0.1 (time_sound a.0 t.0 t.1)
    (joined (Exactly (codes " ")) (FixedZone v.zone) t.0.1 b.0 z.0.1 (byte_sound 32 t.0.1 b.0 b.1) (signed_sound b.0 z.0 z.1)))) in
    let w = ended (Whole v) text z.0.1 v s front z.2 in
    subst (λ (x : Stamp). GivenDate x text) w.2 (w.0, w.1)
