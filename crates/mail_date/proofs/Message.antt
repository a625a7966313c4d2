-- The date of a message is the one that its first Received field says by the written rules.
use Rattle.std.proofs.Common.{◌≡◌, true, List, ℕ, refl, ap, ◌∙◌}
use Rattle.std.specs.Prelude.{Option, Some, None}
use Rattle.mail_date.specs.declared.stamp.Stamp.{Stamp}
use Rattle.mail_date.specs.Fields.{date_or_none, date_part, message_date, no_date, received_body, received_date}
use Rattle.mail_date.specs.Header.{Says}
use Rattle.mail_date.specs.Reading.{◌>>=◌, date_time}
use Rattle.mail_date.proofs.Again.{date_again}
use Rattle.mail_date.proofs.Blanks.{bind_some}
use Rattle.mail_date.proofs.HeaderSound.{header_again, header_sound}
use Rattle.mail_date.proofs.Semicolons.{part_again, part_sound}
use Rattle.mail_date.proofs.Sound.{date_sound}

pub message_says : (text : List ℕ) (s : Stamp) → Says text s → message_date text ≡ s
unfolding message_date received_date
message_says text s h =
    ap (λ (o : Option (List ℕ)). date_or_none (o >>= date_part >>= date_time)) (header_again h.field)
    ∙ ap (λ (o : Option (List ℕ)). date_or_none (o >>= date_time)) (part_again h.body h.part h.place)
    ∙ ap date_or_none (date_again h.part s h.date)

none_by : (text : List ℕ) (o : Option Stamp) → (received_body true text >>= date_part >>= date_time) ≡ o → ((s : Stamp) → Says text s → ⊥) → date_or_none o ≡ no_date
none_by text None e n = refl
none_by text (Some s) e n =
    let p = bind_some (received_body true text >>= date_part) date_time s e in
    let b = bind_some (received_body true text) date_part p.0 p.1 in
    absurd (n s (record { body = b.0; part = p.0; field = header_sound text b.0 b.1; place = part_sound b.0 p.0 b.2; date = date_sound p.0 s p.2 }))

pub message_silent : (text : List ℕ) → ((s : Stamp) → Says text s → ⊥) → message_date text ≡ no_date
unfolding message_date received_date
message_silent text n = none_by text (received_body true text >>= date_part >>= date_time) refl n
