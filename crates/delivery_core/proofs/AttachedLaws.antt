-- What a change of one mailbox and of one client leaves of the clients' cursors.
use Rattle.std.proofs.Common.{◌≡◌, ◌≢◌, ℕ, zero, suc, ◌<◌, ◌⊎◌, inl, inr, Bool, true, false, ◌==◌, ◌&&◌, ◌+◌, ap₂, List, [], ◌∷◌, length, get_or, set, Option, Some, None, IsSome, refl, sym, ap, subst, ◌∙◌, arith, length-set, get_or-set_same, get_or-set_other}
use Rattle.std.specs.Prelude.{if◌then◌else◌}
use Rattle.std.proofs.lemmas.Bool.{cases_eq, eq-eqb, eqb-true}
use Rattle.change_ring.specs.declared.change.Change.{Change}
use Rattle.std.proofs.lemmas.List.{length-map}
use Rattle.cursor_set.specs.Cursors.{CursorSet, Open, CursorHandle, Updates, after_showing, held, if_of, in_slot}
use Rattle.mailbox.specs.Mailbox.{Mailbox}
use Rattle.delivery_core.specs.declared.client.Client.{Client}
use Rattle.delivery_core.specs.Attached.{cursors_of, cursors_at, client_at, cursor_of, AreAttached}
use Rattle.delivery_core.proofs.Follow.{get_or-any, set_back}

pub cursors_set : (boxes : List Mailbox) (i : ℕ) (b : Mailbox) → cursors_of (set boxes i b) ≡ set (cursors_of boxes) i b.cursors
cursors_set [] i b = refl
cursors_set (x ∷ xs) zero b = refl
cursors_set (x ∷ xs) (suc i) b = ap (λ (cs : List CursorSet). x.cursors ∷ cs) (cursors_set xs i b)

pub cursors_get : (boxes : List Mailbox) (i : ℕ) (d : Mailbox) → i < length boxes → cursors_at (cursors_of boxes) i ≡ (get_or boxes i d).cursors
cursors_get [] i d l = absurd (omega arith)
cursors_get (x ∷ xs) zero d l = refl
cursors_get (x ∷ xs) (suc i) d l = cursors_get xs i d (omega arith)

-- a mailbox was changed, and its cursors were not
pub cursors_same : (boxes : List Mailbox) (i : ℕ) (old new : Mailbox) → i < length boxes → old ≡ get_or boxes i old → new.cursors ≡ old.cursors → cursors_of (set boxes i new) ≡ cursors_of boxes
cursors_same boxes i old new l there same =
    cursors_set boxes i new ∙ ap (λ (c : CursorSet). set (cursors_of boxes) i c) same
    ∙ set_back (cursors_of boxes) i old.cursors (omega (arith, l, length-map boxes (λ (b : Mailbox). b.cursors)))
    (ap (λ (b : Mailbox). b.cursors) there ∙ sym (cursors_get boxes i old l) ∙ get_or-any (cursors_of boxes) i _ old.cursors (omega (arith, l, length-map boxes (λ (b : Mailbox). b.cursors))))

pub length_cursors : (boxes : List Mailbox) → length (cursors_of boxes) ≡ length boxes
length_cursors boxes = length-map boxes (λ (b : Mailbox). b.cursors)

pub place_within : (clients : List (Option Client)) (n : ℕ) (c : Client) → client_at clients n ≡ Some c → n < length clients
place_within [] zero c e = cc
place_within [] (suc n) c e = cc
place_within (x ∷ xs) zero c e = omega arith
place_within (x ∷ xs) (suc n) c e = let h : n < length xs = place_within xs n c e in omega arith

-- a handle's cursor depends on its own slot alone
held_same : (old new : CursorSet) (handle : CursorHandle) → new.number ≡ old.number → in_slot new handle.slot ≡ in_slot old handle.slot → held new handle ≡ held old handle
held_same old new handle number slot = ap₂ (λ (m : ℕ) (o : Option Open). if m == handle.number then if_of handle o else None) number slot

-- these cursors are those, but for one slot
pub record SameElsewhere (old new : CursorSet) (slot : ℕ) : Type 0 where
  pub number : new.number ≡ old.number
  pub others : (other : ℕ) → other ≢ slot → in_slot new other ≡ in_slot old other

-- a client that comes to a place has its cursor in this slot of this mailbox
pub record HasSlot (mailbox slot : ℕ) (cursors : CursorSet) (c : Client) : Type 0 where
  pub mailbox_is : c.mailbox ≡ mailbox
  pub slot_is : c.handle.slot ≡ slot
  pub known : IsSome (held cursors c.handle)

-- A mailbox's cursors changed in one slot that no client at another place has, and the client at this place is now this one.
pub attached_after : (all : List CursorSet) (clients : List (Option Client)) (n m slot : ℕ) (new : CursorSet) (next : Option Client) → AreAttached all clients → m < length all
    → SameElsewhere (cursors_at all m) new slot
    → ((j : ℕ) (d : Client) → j ≢ n → client_at clients j ≡ Some d → d.mailbox ≡ m → d.handle.slot ≢ slot)
    → ((c : Client) → next ≡ Some c → HasSlot m slot new c)
    → AreAttached (set all m new) (set clients n next)
attached_after all clients n m slot new next S l same free has = record {
  there = λ j c e. let h : c.mailbox < length all = elim (at_place j c e) [ inl here ↦ omega (arith, l, (has c here.1).mailbox_is) | inr away ↦ S.there j c away.1 ] in omega (arith, h, length-set all m new);
  known = λ j c e. elim (at_place j c e) [ inl here ↦ known_here c (has c here.1) | inr away ↦ known_away j c away.0 away.1 (cases_eq c.mailbox m) ];
  apart = λ i j c d e f other one. elim (at_place i c e) [
    | inl here ↦ elim (at_place j d f) [
      | inl too ↦ absurd (other (here.0 ∙ sym too.0))
      | inr away ↦ (λ slots. free j d away.0 away.1 (sym one ∙ (has c here.1).mailbox_is) (sym slots ∙ (has c here.1).slot_is))
    ]
    | inr away ↦ elim (at_place j d f) [
      | inl here ↦ (λ slots. free i c away.0 away.1 (one ∙ (has d here.1).mailbox_is) (slots ∙ (has d here.1).slot_is))
      | inr too ↦ S.apart i j c d away.1 too.1 other one
    ]
  ];
}
  where
    at_place : (j : ℕ) (c : Client) → client_at (set clients n next) j ≡ Some c → ((j ≡ n) × (next ≡ Some c)) ⊎ ((j ≢ n) × (client_at clients j ≡ Some c))
    at_place j c e = elim (cases_eq j n) [
      | inl here ↦ (let lt : n < length clients = omega (arith, place_within (set clients n next) j c e, length-set clients n next, here) in
          inl (here, sym (get_or-set_same clients n next None lt) ∙ ap (client_at (set clients n next)) (sym here) ∙ e))
      | inr away ↦ inr (away, sym (get_or-set_other clients n j next None away) ∙ e)
    ]

    changed : cursors_at (set all m new) m ≡ new
    changed = get_or-set_same all m new _ l

    known_here : (c : Client) → HasSlot m slot new c → IsSome (cursor_of (set all m new) c)
    known_here c h = subst (λ (s : CursorSet). IsSome (held s c.handle)) (sym (ap (cursors_at (set all m new)) h.mailbox_is ∙ changed)) h.known

    known_away : (j : ℕ) (c : Client) → j ≢ n → client_at clients j ≡ Some c → (c.mailbox ≡ m) ⊎ (c.mailbox ≢ m) → IsSome (cursor_of (set all m new) c)
    known_away j c other e (inl one) = subst IsSome
        (sym (ap (λ (s : CursorSet). held s c.handle) (ap (cursors_at (set all m new)) one ∙ changed)
        ∙ held_same (cursors_at all m) new c.handle same.number (same.others c.handle.slot (free j c other e one)) ∙ ap (λ (i : ℕ). held (cursors_at all i) c.handle) (sym one))) (S.known j c e)
    known_away j c other e (inr elsewhere) = subst (λ (s : CursorSet). IsSome (held s c.handle)) (sym (get_or-set_other all m c.mailbox new _ elsewhere)) (S.known j c e)

-- the slot of the client at a place is no other client's
pub own_slot : (all : List CursorSet) (clients : List (Option Client)) (n : ℕ) (c : Client) → AreAttached all clients → client_at clients n ≡ Some c
    → (j : ℕ) (d : Client) → j ≢ n → client_at clients j ≡ Some d → d.mailbox ≡ c.mailbox → d.handle.slot ≢ c.handle.slot
own_slot all clients n c S e j d other f one = S.apart j n d c f e other one

-- a slot without a cursor is no client's
pub vacant_slot : (all : List CursorSet) (clients : List (Option Client)) (m slot : ℕ) → AreAttached all clients → in_slot (cursors_at all m) slot ≡ None
    → (j : ℕ) (d : Client) → client_at clients j ≡ Some d → d.mailbox ≡ m → d.handle.slot ≢ slot
vacant_slot all clients m slot S vacant j d e one same = none_held (cursors_at all m).number (subst IsSome
    (ap (λ (i : ℕ). held (cursors_at all i) d.handle) one ∙ ap (λ (o : Option Open). if (cursors_at all m).number == d.handle.number then if_of d.handle o else None) (ap (in_slot (cursors_at all m)) same ∙ vacant)) (S.known j d e))
  where
    none_held : (number : ℕ) → IsSome (if number == d.handle.number then if_of d.handle None else None) → ⊥
    none_held number = go (number == d.handle.number)
      where
        go : (b : Bool) → IsSome (if b then if_of d.handle None else None) → ⊥
        go true h = cc
        go false h = cc

-- ---- a handle that has its cursor

-- what a handle has in common with its cursor
pub record Matches (s : CursorSet) (handle : CursorHandle) (o : Open) : Type 0 where
  pub number : s.number ≡ handle.number
  pub slot : in_slot s handle.slot ≡ Some o
  pub serial : o.serial ≡ handle.serial
  pub at : o.at ≡ handle.at

if_some : (b : Bool) (x : Option Open) (o : Open) → (if b then x else None) ≡ Some o → (b ≡ true) × (x ≡ Some o)
if_some true x o e = (refl, e)
if_some false x o e = cc

and_true : (a b : Bool) → (a && b) ≡ true → (a ≡ true) × (b ≡ true)
and_true true b e = (refl, e)
and_true false b e = cc

of_slot : (handle : CursorHandle) (x : Option Open) (o : Open) → if_of handle x ≡ Some o → (x ≡ Some o) × (o.serial ≡ handle.serial) × (o.at ≡ handle.at)
of_slot handle None o e = cc
of_slot handle (Some y) o e =
    let h : (((y.serial == handle.serial) && (y.at == handle.at)) ≡ true) × (Some y ≡ Some o) = if_some ((y.serial == handle.serial) && (y.at == handle.at)) (Some y) o e in
    let t : ((y.serial == handle.serial) ≡ true) × ((y.at == handle.at) ≡ true) = and_true _ _ h.0 in
    let same : y ≡ o = same_open y o h.1 in
    (h.1, ap (λ (z : Open). z.serial) (sym same) ∙ eqb-true y.serial handle.serial t.0, ap (λ (z : Open). z.at) (sym same) ∙ eqb-true y.at handle.at t.1)
  where
    same_open : (a b : Open) → Some a ≡ Some b → a ≡ b
    same_open a b e = cc

pub matches : (s : CursorSet) (handle : CursorHandle) (o : Open) → held s handle ≡ Some o → Matches s handle o
matches s handle o e =
    let h : ((s.number == handle.number) ≡ true) × (if_of handle (in_slot s handle.slot) ≡ Some o) = if_some (s.number == handle.number) (if_of handle (in_slot s handle.slot)) o e in
    let p : (in_slot s handle.slot ≡ Some o) × (o.serial ≡ handle.serial) × (o.at ≡ handle.at) = of_slot handle (in_slot s handle.slot) o h.1 in
    record { number = eqb-true s.number handle.number h.0; slot = p.0; serial = p.1; at = p.2 }

pub held_of : (s : CursorSet) (handle : CursorHandle) (o : Open) → Matches s handle o → held s handle ≡ Some o
held_of s handle o m =
    ap (λ (b : Bool). if b then if_of handle (in_slot s handle.slot) else None) (eq-eqb s.number handle.number m.number)
    ∙ ap (if_of handle) m.slot
    ∙ ap₂ (λ (a b : Bool). if a && b then Some o else None) (eq-eqb o.serial handle.serial m.serial) (eq-eqb o.at handle.at m.at)

pub some_of : (x : Option Open) → IsSome x → (o : Open) × (x ≡ Some o)
some_of None h = cc
some_of (Some o) h = (o, refl)

-- the cursor after its client was shown these changes is the handle's that went on by as many
pub held_shown : (old new : CursorSet) (handle : CursorHandle) (o : Open) (cs : List Change) → held old handle ≡ Some o → Updates old new handle.slot (Some (after_showing cs o))
    → held new (record handle { at = handle.at + length cs }) ≡ Some (after_showing cs o)
held_shown old new handle o cs e u =
    let m : Matches old handle o = matches old handle o e in
    held_of new (record handle { at = handle.at + length cs }) (after_showing cs o) (record { number = u.number ∙ m.number; slot = u.changed; serial = m.serial; at = ap (λ (n : ℕ). n + length cs) m.at })
