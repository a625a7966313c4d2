-- When two texts are the same.
use Rattle.std.proofs.Common.{◌≡◌, ◌&&◌, Bool, true, false, ap, ap₂, refl, Option, Some, None}
use Rattle.std.specs.Bool.{Decides}
use Rattle.std.specs.Cmp.{booleans_Decides}
use Rattle.std.specs.Option.{option_eq}
use Rattle.std.proofs.lemmas.Bool.Decides.{Decides-and, Decides-eqb}
use Rattle.std.proofs.lemmas.Slice.Eq.{bytes_eq-Decides}
use Rattle.mail_date.specs.declared.stamp.Stamp.{Stamp}
use Rattle.mail_date.specs.declared.stamp.Zone.{Zone}
use Rattle.delivery_token.specs.Text.{Text}
use Rattle.running_house.specs.Walk.{is_stamp, is_text, is_zone}

is_zone-Decides : (a b : Zone) → Decides (is_zone a b) (a ≡ b)
is_zone-Decides a b =
    let parts = Decides-and _ _ (booleans_Decides a.is_west b.is_west) (Decides-and _ _ (Decides-eqb a.hours b.hours) (Decides-eqb a.minutes b.minutes)) in
    (λ h. let e = parts.0 h in (λ i. record { is_west = e.0 i; hours = e.1.0 i; minutes = e.1.1 i }), λ e. parts.1 (ap (λ (z : Zone). z.is_west) e, (ap (λ (z : Zone). z.hours) e, ap (λ (z : Zone). z.minutes) e)))

is_stamp-Decides : (a b : Stamp) → Decides (is_stamp a b) (a ≡ b)
is_stamp-Decides a b =
    let parts = Decides-and _ _ (Decides-eqb a.year b.year) (Decides-and _ _ (Decides-eqb a.month b.month) (Decides-and _ _ (Decides-eqb a.day b.day) (Decides-and _ _ (Decides-eqb a.hour b.hour) (Decides-and _ _ (Decides-eqb a.minute b.minute) (Decides-and _ _ (Decides-eqb a.second b.second) (is_zone-Decides a.zone b.zone)))))) in (
      λ h. let e = parts.0 h in (λ i. record { year = e.0 i; month = e.1.0 i; day = e.1.1.0 i; hour = e.1.1.1.0 i; minute = e.1.1.1.1.0 i; second = e.1.1.1.1.1.0 i; zone = e.1.1.1.1.1.1 i }),
      λ e. parts.1 (ap (λ (s : Stamp). s.year) e, (ap (λ (s : Stamp). s.month) e, (ap (λ (s : Stamp). s.day) e, (ap (λ (s : Stamp). s.hour) e, (ap (λ (s : Stamp). s.minute) e, (ap (λ (s : Stamp). s.second) e, ap (λ (s : Stamp). s.zone) e)))))),
    )

given_Decides : (a b : Option Stamp) → Decides (option_eq is_stamp a b) (a ≡ b)
given_Decides None None = (λ h. refl, λ e. refl)
given_Decides None (Some b) = (λ h. absurd cc, λ e. absurd cc)
given_Decides (Some a) None = (λ h. absurd cc, λ e. absurd cc)
given_Decides (Some a) (Some b) = (λ h. ap (λ s. Some s) ((is_stamp-Decides a b).0 h), λ e. (is_stamp-Decides a b).1 (let same : a ≡ b = cc in same))

pub is_text-Decides : (a b : Text) → Decides (is_text a b) (a ≡ b)
is_text-Decides a b =
    let parts = Decides-and _ _ (bytes_eq-Decides a.bytes b.bytes) (given_Decides a.date b.date) in
    (λ h. let e = parts.0 h in (λ i. record { bytes = e.0 i; date = e.1 i }), λ e. parts.1 (ap (λ (t : Text). t.bytes) e, ap (λ (t : Text). t.date) e))
