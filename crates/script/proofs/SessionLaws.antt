-- From what the house promises of a session's events to what a run promises of the lines of sessions.
use Rattle.std.proofs.Common.{◌≡◌, ◌∙◌, ℕ, zero, suc, ◌<◌, ◌⊎◌, inl, inr, List, length, refl, sym, ap, arith, Option, Some, None, false, true}
use Rattle.std.specs.Prelude.{IsSome}
use Rattle.envelope.specs.Names.{Directory}
use Rattle.imap_session.specs.Folders.{has_user}
use Rattle.house_peers.specs.Visitor.{SeatedVisitor}
use Rattle.house_peers.specs.SeatedSession.{SeatedSession}
use Rattle.delivery_token.specs.declared.CopyKey.{CopyKey}
use Rattle.delivery_token.specs.declared.log.Noted.{Noted}
use Rattle.house.specs.Setup.{Setup}
use Rattle.house.specs.House.{House}
use Rattle.house.specs.Scene.{Scene, place_of}
use Rattle.house.specs.Stands.{StandsFor, StandsForVisit}
use Rattle.house.specs.Steps.{IsFreePlace, IsLeft, IsNoPlace, IsSpentPlace, IsTakenPlace, is_left}
use Rattle.script.specs.Script.{IsLingering, IsNoSession, IsSpentSession, IsUnknown, IsUnvisited, IsVisited}
use Rattle.script.proofs.RunLaws.{below}

-- ---- who visits

no_visitor : (seat : ℕ) (next : CopyKey) (heard : List Noted) (serials : ℕ) (p : Option SeatedSession) (v : Option SeatedVisitor) → p ≡ None → StandsForVisit seat next heard serials p v → v ≡ None
no_visitor seat next heard serials None None e s = refl
no_visitor seat next heard serials None (Some v) e s = absurd s
no_visitor seat next heard serials (Some p) v e s = absurd (let x : Some p ≡ None = e in cc)

some_visitor : (seat : ℕ) (next : CopyKey) (heard : List Noted) (serials : ℕ) (p : Option SeatedSession) (v : Option SeatedVisitor) → IsSome p → StandsForVisit seat next heard serials p v → (x : SeatedVisitor) × (v ≡ Some x)
some_visitor seat next heard serials None v some s = absurd (let e : false ≡ true = some in cc)
some_visitor seat next heard serials (Some p) None some s = absurd s
some_visitor seat next heard serials (Some p) (Some v) some s = (v, refl)

gone_visitor : (seat : ℕ) (next : CopyKey) (heard : List Noted) (serials : ℕ) (p : Option SeatedSession) (v : Option SeatedVisitor) → is_left p ≡ true → StandsForVisit seat next heard serials p v → (x : SeatedVisitor) × (v ≡ Some x) × (x.gone ≡ true)
gone_visitor seat next heard serials None v gone s = absurd (let e : false ≡ true = gone in cc)
gone_visitor seat next heard serials (Some p) None gone s = absurd s
gone_visitor seat next heard serials (Some p) (Some v) gone s = (v, refl, sym s.0.gone ∙ gone)

-- a key, whichever
any_key : CopyKey
any_key = record { seat = 0; serial = 0; message = 0; recipient = 0 }

no_session : (k : Setup) (h : House) (s : Scene) (session : ℕ) → StandsFor k h s → IsNoPlace h session → IsNoSession k session
no_session k h s session st (inl e) = inl e
no_session k h s session st (inr l) = inr (let e = st.places in omega (arith, l, e))

pub unvisited : (k : Setup) (h : House) (s : Scene) (session : ℕ) → StandsFor k h s → IsNoPlace h session ⊎ IsFreePlace h session → IsUnvisited k s session
unvisited k h s session st (inl n) = inl (no_session k h s session st n)
unvisited k h s zero st (inr n) = inl (inl refl)
unvisited k h s (suc c) st (inr n) = elim (below (place_of (suc c)) (length h.visitors)) [
  | inl l ↦ inr (no_visitor _ _ _ _ _ (s.visitor (place_of (suc c))) n (st.visitors (place_of (suc c)) any_key 0 None l).who)
  | inr l ↦ inl (inr (let e = st.places in omega (arith, l, e)))
]

pub visited : (k : Setup) (h : House) (s : Scene) (session : ℕ) → StandsFor k h s → IsTakenPlace h session → IsVisited s session
visited k h s session st t =
    let l : place_of session < length h.visitors = let n = t.number in let m = t.place in omega (arith, n, m) in
    some_visitor _ _ _ _ _ (s.visitor (place_of session)) t.who (st.visitors (place_of session) any_key 0 None l).who

pub lingering : (k : Setup) (h : House) (s : Scene) (session : ℕ) → StandsFor k h s → IsLeft h session → IsLingering s session
lingering k h s session st t =
    let l : place_of session < length h.visitors = let n = t.number in let m = t.place in omega (arith, n, m) in
    gone_visitor _ _ _ _ _ (s.visitor (place_of session)) t.gone (st.visitors (place_of session) any_key 0 None l).who

-- its seat takes no more
spent : (k : Setup) (h : House) (s : Scene) (session : ℕ) → StandsFor k h s → place_of session < length h.visitors → IsFreePlace h session → IsSpentPlace h session → IsSpentSession s session
spent k h s session st l free more =
    let at = st.visitors (place_of session) any_key 0 None l in
    (no_visitor _ _ _ _ _ (s.visitor (place_of session)) free at.who, let e = at.counted in omega (arith, e, more))

-- ---- users

pub nowhere : (k : Setup) (h : House) (s : Scene) (session : ℕ) (user : List ℕ) → StandsFor k h s → IsNoPlace h session ⊎ (has_user h.directory user ≡ false ⊎ (IsFreePlace h session × IsSpentPlace h session))
    → IsNoSession k session ⊎ (IsUnknown k user ⊎ IsSpentSession s session)
nowhere k h s session user st (inl n) = inl (no_session k h s session st n)
nowhere k h s session user st (inr (inl e)) = inr (inl (ap (λ (d : Directory). has_user d user) (sym st.directory) ∙ e))
nowhere k h s zero user st (inr (inr n)) = inl (inl refl)
nowhere k h s (suc c) user st (inr (inr n)) = elim (below (place_of (suc c)) (length h.visitors)) [
  | inl l ↦ inr (inr (spent k h s (suc c) st l n.0 n.1))
  | inr l ↦ inl (inr (let e = st.places in omega (arith, l, e)))
]

pub known : (k : Setup) (h : House) (s : Scene) (user : List ℕ) → StandsFor k h s → has_user h.directory user ≡ true → IsUnknown k user → ⊥
known k h s user st is e = let f : has_user h.directory user ≡ false = ap (λ (d : Directory). has_user d user) st.directory ∙ e in let g = is in cc
