-- When bytes that came may want memory, from who stands there once they were appended.
use Rattle.std.proofs.Common.{◌≡◌, ℕ, ◌<◌, ◌⊎◌, inl, inr, List, [], ◌∷◌, length, refl, sym, ◌∙◌, subst, arith, append-nil, Option, Some, None, get_or, set, get_or-set_same}
use Rattle.std.specs.Option.{option_map}
use Rattle.house_peers.specs.HouseConnection.{HouseConnection}
use Rattle.house_peers.specs.Taking as connection
use Rattle.house_peers.specs.Taking.{with_more}
use Rattle.house_peers.specs.SeatedSession as session
use Rattle.house_peers.specs.SeatedSession.{SeatedSession}
use Rattle.house.specs.Steps.{CallerWants, VisitorWants, caller_unprinted, caller_works, visitor_unprinted, visitor_works}
use Rattle.house.specs.inner.Steps.{with_more_came}

-- ---- connections

-- without bytes there was as much to do before
caller_still_works : (piece : List ℕ) (h : HouseConnection) → connection.HasWork (with_more piece h) → (0 < length piece) ⊎ connection.HasWork h
caller_still_works [] h w = inr (record {
  stirred = λ calm. w.stirred (record { quiet = calm.quiet; taken = append-nil h.waits ∙ calm.taken; going = calm.going });
  heard = λ patient. w.heard (record { waits = patient.waits; unknown = patient.unknown });
})
caller_still_works (b ∷ bytes) h w = inl (omega arith)

caller_worked : (piece : List ℕ) (o new : Option HouseConnection) (h : HouseConnection) → option_map (with_more piece) o ≡ Some h → connection.HasWork h → (0 < length piece) ⊎ CallerWants o new
caller_worked piece None new h e w = absurd (let x : None ≡ Some h = e in cc)
caller_worked piece (Some g) new h e w =
    let same : with_more piece g ≡ h = let x : Some (with_more piece g) ≡ Some h = e in cc in
    elim (caller_still_works piece g (subst (λ (x : HouseConnection). connection.HasWork x) (sym same) w)) [ inl l ↦ inl l | inr v ↦ inr (caller_works g refl v) ]

pub caller_wants : (callers : List (Option HouseConnection)) (seat : ℕ) (piece : List ℕ) (mid new : Option HouseConnection) → seat < length callers → mid ≡ option_map (with_more piece) (get_or callers seat None)
    → CallerWants mid new → (0 < length piece) ⊎ CallerWants (get_or callers seat None) (get_or (set callers seat new) seat None)
caller_wants callers seat piece mid new l e (caller_works h is w) = caller_worked piece (get_or callers seat None) (get_or (set callers seat new) seat None) h (sym e ∙ is) w
caller_wants callers seat piece mid new l e (caller_unprinted h is some) = inr (caller_unprinted h (get_or-set_same callers seat new None l ∙ is) some)

-- ---- sessions

visitor_still_works : (piece : List ℕ) (p : SeatedSession) → session.HasWork (with_more_came piece p) → (0 < length piece) ⊎ session.HasWork p
visitor_still_works [] p w = inr (record { there = w.there; going = w.going; what = elim w.what [ inl a ↦ inl (a.0, subst (λ (x : List ℕ). 0 < length x) (append-nil p.place.came) a.1) | inr a ↦ inr a ] })
visitor_still_works (b ∷ bytes) p w = inl (omega arith)

visitor_worked : (piece : List ℕ) (o new : Option SeatedSession) (p : SeatedSession) → option_map (with_more_came piece) o ≡ Some p → session.HasWork p → (0 < length piece) ⊎ VisitorWants o new
visitor_worked piece None new p e w = absurd (let x : None ≡ Some p = e in cc)
visitor_worked piece (Some g) new p e w =
    let same : with_more_came piece g ≡ p = let x : Some (with_more_came piece g) ≡ Some p = e in cc in
    elim (visitor_still_works piece g (subst (λ (x : SeatedSession). session.HasWork x) (sym same) w)) [ inl l ↦ inl l | inr v ↦ inr (visitor_works g refl v) ]

pub visitor_wants : (visitors : List (Option SeatedSession)) (place : ℕ) (piece : List ℕ) (mid new : Option SeatedSession) → place < length visitors → mid ≡ option_map (with_more_came piece) (get_or visitors place None)
    → VisitorWants mid new → (0 < length piece) ⊎ VisitorWants (get_or visitors place None) (get_or (set visitors place new) place None)
visitor_wants visitors place piece mid new l e (visitor_works p is w) = visitor_worked piece (get_or visitors place None) (get_or (set visitors place new) place None) p (sym e ∙ is) w
visitor_wants visitors place piece mid new l e (visitor_unprinted p is some) = inr (visitor_unprinted p (get_or-set_same visitors place new None l ∙ is) some)
