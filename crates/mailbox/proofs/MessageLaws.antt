-- What an operation on one message's flags does to the messages, whose UIDs rise.
use Rattle.std.proofs.Common.{◌≡◌, subst, ℕ, suc, ◌<◌, Bool, true, false, ◌==◌, ◌||◌, List, [], ◌∷◌, length, map, Option, Some, None, Contains, refl, sym, ap, ◌∙◌, inl, inr, arith}
use Rattle.std.specs.Prelude.{if◌then◌else◌, option_map}
use Rattle.std.specs.List.{AllByRecursion}
use Rattle.std.proofs.lemmas.Bool.Decides.{eqb_tells}
use Rattle.change_ring.specs.declared.change.Flags.{Flags}
use Rattle.change_ring.specs.declared.change.Change.TheVariants.{Flags as SetFlags}
use Rattle.change_ring.specs.declared.flag_op.FlagOp.{FlagOp}
use Rattle.change_ring.specs.Log.{Row, FitsView, with_flags, rows_after, seen_logged, differ, flags_differ, flags_after, flags_logged, new_flags}
use Rattle.cursor_set.proofs.Positions.{Rises}
use Rattle.mailbox.specs.Events.{mark, seen_after}
use Rattle.mailbox.specs.inner.Letters.{reflagged}
use Rattle.mailbox.specs.Mailbox.{Message, row_of, uids_of, flagged, message_with}

same_some : {x y : Message} → Some x ≡ Some y → x ≡ y
same_some e = cc

eqb_above : (a b : ℕ) → b < a → (a == b) ≡ false
eqb_above a b l = elim (eqb_tells a b) [
  | inl t ↦ absurd (omega (arith, t.1))
  | inr t ↦ t.0
]

pub eqb_less : (a b : ℕ) → a < b → (a == b) ≡ false
eqb_less a b l = elim (eqb_tells a b) [
  | inl t ↦ absurd (omega (arith, t.1))
  | inr t ↦ t.0
]

-- ---- the message of a UID

-- the view has it
pub with_contains : (uid : ℕ) (ms : List Message) (x : Message) → message_with uid ms ≡ Some x → Contains (uids_of ms) uid
with_contains uid [] x e = cc
with_contains uid (m ∷ ms) x e = elim (eqb_tells m.uid uid) [
  | inl t ↦ (0, omega arith, t.1)
  | inr t ↦
      let e = rw t.0 at e in
      let rest = with_contains uid ms x e in
      (suc rest.0, omega (arith, rest.1), rest.2)
]

-- what is known of it by its flags
found_some : (o : Option Message) (old : Flags) → option_map (λ (m : Message). m.flags) o ≡ Some old → (x : Message) × (o ≡ Some x) × (x.flags ≡ old)
found_some None old e = cc
found_some (Some x) old e = let same : x.flags ≡ old = cc in (x, refl, same)

-- none has the UID
pub none_found : (o : Option Message) → None ≡ option_map (λ (m : Message). m.flags) o → o ≡ None
none_found None e = refl
none_found (Some x) e = cc

-- ---- its flags are set to what an operation makes of them

module _ (op : FlagOp) where
  unchanged : (u : ℕ) (ms : List Message) → AllByRecursion (λ v. u < v) (uids_of ms) → flagged u op ms ≡ ms
  unchanged u [] above = refl
  unchanged u (m ∷ ms) above = rw (eqb_above m.uid u above.0) (ap (λ (ns : List Message). m ∷ ns) (unchanged u ms above.1))

  flagged_with : (uid : ℕ) (ms : List Message) (x : Message) → Rises (uids_of ms) → message_with uid ms ≡ Some x → flagged uid op ms ≡ reflagged uid (flags_after op x.flags) ms
  flagged_with uid [] x up e = cc
  flagged_with uid (m ∷ ms) x up e = elim (eqb_tells m.uid uid) [
    | inl t ↦
        let e = rw t.0 at e in
        let others : flagged uid op ms ≡ ms = subst (λ (u : ℕ). flagged u op ms ≡ ms) t.1 (unchanged m.uid ms up.0) in
        rw t.0 (ap (λ (ns : List Message). record m { flags = flags_after op m.flags } ∷ ns) others ∙ ap (λ (y : Message). record m { flags = flags_after op y.flags } ∷ ms) (same_some e))
    | inr t ↦ let e = rw t.0 at e in rw t.0 (ap (λ (ns : List Message). m ∷ ns) (flagged_with uid ms x up.1 e))
  ]

  -- what is logged of it
  pub logged_with : (uid : ℕ) (ms : List Message) (x : Message) → message_with uid ms ≡ Some x → flags_logged (map row_of ms) uid op ≡ new_flags uid x.flags (flags_after op x.flags)
  logged_with uid [] x e = cc
  logged_with uid (m ∷ ms) x e = elim (eqb_tells m.uid uid) [
    | inl t ↦ let e = rw t.0 at e in rw t.0 (ap (λ (y : Message). new_flags uid y.flags (flags_after op y.flags)) (same_some e))
    | inr t ↦ let e = rw t.0 at e in rw t.0 (logged_with uid ms x e)
  ]

  -- the message afterwards
  pub with_flagged : (uid : ℕ) (ms : List Message) (x : Message) → message_with uid ms ≡ Some x → message_with uid (flagged uid op ms) ≡ Some (record x { flags = flags_after op x.flags })
  with_flagged uid [] x e = cc
  with_flagged uid (m ∷ ms) x e = elim (eqb_tells m.uid uid) [
    | inl t ↦ let e = rw t.0 at e in rw (t.0, t.0) (ap (λ (y : Message). Some (record y { flags = flags_after op y.flags })) (same_some e))
    | inr t ↦ let e = rw t.0 at e in rw (t.0, t.0) (with_flagged uid ms x e)
  ]

  -- where no message has the UID
  pub logged_none : (uid : ℕ) (ms : List Message) → message_with uid ms ≡ None → flags_logged (map row_of ms) uid op ≡ []
  logged_none uid [] none = refl
  logged_none uid (m ∷ ms) none = elim (eqb_tells m.uid uid) [
    | inl t ↦ let none = rw t.0 at none in cc
    | inr t ↦ let none = rw t.0 at none in rw t.0 (logged_none uid ms none)
  ]

  pub flagged_none : (uid : ℕ) (ms : List Message) → message_with uid ms ≡ None → flagged uid op ms ≡ ms
  flagged_none uid [] none = refl
  flagged_none uid (m ∷ ms) none = elim (eqb_tells m.uid uid) [
    | inl t ↦ let none = rw t.0 at none in cc
    | inr t ↦ let none = rw t.0 at none in rw t.0 (ap (λ (ns : List Message). m ∷ ns) (flagged_none uid ms none))
  ]

-- ---- rows

pub rows_reflagged : (uid : ℕ) (flags : Flags) (ms : List Message) → map row_of (reflagged uid flags ms) ≡ with_flags uid flags (map row_of ms)
rows_reflagged uid flags [] = refl
rows_reflagged uid flags (m ∷ ms) = by_case (m.uid == uid) (rows_reflagged uid flags ms)
  where
    by_case : (b : Bool) → map row_of (reflagged uid flags ms) ≡ with_flags uid flags (map row_of ms) →
        map row_of (if b then record m { flags = flags } ∷ ms else m ∷ reflagged uid flags ms)
        ≡ (if b then record { uid = m.uid; flags = flags } ∷ map row_of ms else row_of m ∷ with_flags uid flags (map row_of ms))
    by_case true h = refl
    by_case false h = ap (λ (rs : List Row). row_of m ∷ rs) h

-- flags that are there already change nothing
reflagged_same : (uid : ℕ) (ms : List Message) (x : Message) → message_with uid ms ≡ Some x → reflagged uid x.flags ms ≡ ms
reflagged_same uid [] x e = cc
reflagged_same uid (m ∷ ms) x e = elim (eqb_tells m.uid uid) [
  | inl t ↦ let e = rw t.0 at e in rw t.0 (ap (λ (y : Message). record m { flags = y.flags } ∷ ms) (sym (same_some e)))
  | inr t ↦ let e = rw t.0 at e in rw t.0 (ap (λ (ns : List Message). m ∷ ns) (reflagged_same uid ms x e))
]

-- ---- flags that do not differ

not_differ : (a b : Bool) → differ a b ≡ false → a ≡ b
not_differ true true e = refl
not_differ true false e = cc
not_differ false true e = cc
not_differ false false e = refl

or_false : (a b : Bool) → (a || b) ≡ false → (a ≡ false) × (b ≡ false)
or_false true b e = cc
or_false false b e = (refl, e)

pub same_flags : (f g : Flags) → flags_differ f g ≡ false → g ≡ f
same_flags f g e =
    let one = or_false (differ f.answered g.answered) _ e in
    let two = or_false (differ f.flagged g.flagged) _ one.1 in
    let three = or_false (differ f.deleted g.deleted) _ two.1 in
    let four = or_false (differ f.seen g.seen) _ three.1 in
    let a = not_differ f.answered g.answered one.0 in
    let b = not_differ f.flagged g.flagged two.0 in
    let c = not_differ f.deleted g.deleted three.0 in
    let d = not_differ f.seen g.seen four.0 in
    let h = not_differ f.draft g.draft four.1 in
    let r : Flags = record { answered = g.answered; flagged = g.flagged; deleted = g.deleted; seen = g.seen; draft = g.draft } in
    let s : Flags = record { answered = f.answered; flagged = f.flagged; deleted = f.deleted; seen = f.seen; draft = f.draft } in
    let same : r ≡ s = cc in
    same

-- ---- the flags of a message are set

-- what is known of a message that has these flags
pub record IsFound (uid : ℕ) (op : FlagOp) (ms : List Message) (old : Flags) : Type 0 where
  pub there : Contains (uids_of ms) uid
  pub logged : flags_logged (map row_of ms) uid op ≡ new_flags uid old (flags_after op old)
  pub flagged : flagged uid op ms ≡ reflagged uid (flags_after op old) ms
  pub kept : reflagged uid old ms ≡ ms

pub found_by : (uid : ℕ) (op : FlagOp) (ms : List Message) (old : Flags) → Rises (uids_of ms) → option_map (λ (m : Message). m.flags) (message_with uid ms) ≡ Some old → IsFound uid op ms old
found_by uid op ms old up e =
    let f = found_some (message_with uid ms) old e in
    let x = f.0 in
    subst (IsFound uid op ms) f.2 (record {
      there = with_contains uid ms x f.1;
      logged = logged_with op uid ms x f.1;
      flagged = flagged_with op uid ms x up f.1;
      kept = reflagged_same uid ms x f.1;
    })

-- its flags afterwards
pub flags_stored : (uid : ℕ) (op : FlagOp) (ms : List Message) (old : Flags) → option_map (λ (m : Message). m.flags) (message_with uid ms) ≡ Some old →
    option_map (λ (m : Message). m.flags) (message_with uid (flagged uid op ms)) ≡ Some (flags_after op old)
flags_stored uid op ms old e =
    let f = found_some (message_with uid ms) old e in
    ap (option_map (λ (m : Message). m.flags)) (with_flagged op uid ms f.0 f.1) ∙ ap (λ (g : Flags). Some (flags_after op g)) f.2

-- its flags stay
pub stay_logged : (uid : ℕ) (op : FlagOp) (ms : List Message) (old : Flags) → IsFound uid op ms old → flags_differ old (flags_after op old) ≡ false → flags_logged (map row_of ms) uid op ≡ []
stay_logged uid op ms old f same = f.logged ∙ ap (λ (b : Bool). if b then SetFlags uid (flags_after op old) ∷ [] else []) same

pub stay_flagged : (uid : ℕ) (op : FlagOp) (ms : List Message) (old : Flags) → IsFound uid op ms old → flags_differ old (flags_after op old) ≡ false → flagged uid op ms ≡ ms
stay_flagged uid op ms old f same = f.flagged ∙ ap (λ (g : Flags). reflagged uid g ms) (same_flags old (flags_after op old) same) ∙ f.kept

-- they become others
pub change_logged : (uid : ℕ) (op : FlagOp) (ms : List Message) (old : Flags) → IsFound uid op ms old → flags_differ old (flags_after op old) ≡ true →
    flags_logged (map row_of ms) uid op ≡ SetFlags uid (flags_after op old) ∷ []
change_logged uid op ms old f other = f.logged ∙ ap (λ (b : Bool). if b then SetFlags uid (flags_after op old) ∷ [] else []) other

pub change_fits : (uid : ℕ) (op : FlagOp) (ms : List Message) (old flags : Flags) → IsFound uid op ms old → FitsView (uids_of ms) (SetFlags uid flags ∷ [])
change_fits uid op ms old flags f = (f.there, tt)

pub change_rows : (uid : ℕ) (ms : List Message) (flags : Flags) → map row_of (reflagged uid flags ms) ≡ rows_after (map row_of ms) (SetFlags uid flags ∷ [])
change_rows uid ms flags = rows_reflagged uid flags ms

-- ---- a message is read

pub length_new : (uid : ℕ) (f g : Flags) (b : Bool) → flags_differ f g ≡ b → length (new_flags uid f g) ≡ (if b then 1 else 0)
length_new uid f g true e = ap (λ (b : Bool). length (if b then SetFlags uid g ∷ [] else [])) e
length_new uid f g false e = ap (λ (b : Bool). length (if b then SetFlags uid g ∷ [] else [])) e

pub seen_none : (set_seen : Bool) (uid : ℕ) (ms : List Message) → message_with uid ms ≡ None → seen_logged set_seen (map row_of ms) uid ≡ []
seen_none true uid ms none = logged_none mark uid ms none
seen_none false uid ms none = refl

pub seen_after_none : (set_seen : Bool) (uid : ℕ) (ms : List Message) → message_with uid ms ≡ None → seen_after set_seen uid ms ≡ ms
seen_after_none true uid ms none = flagged_none mark uid ms none
seen_after_none false uid ms none = refl

-- the message afterwards
pub with_seen : (set_seen : Bool) (uid : ℕ) (ms : List Message) (x : Message) → message_with uid ms ≡ Some x →
    message_with uid (seen_after set_seen uid ms) ≡ Some (record x { flags = if set_seen then flags_after mark x.flags else x.flags })
with_seen true uid ms x e = with_flagged mark uid ms x e
with_seen false uid ms x e = e

-- how much is logged, by whether the flags become others
pub count_seen : (set_seen : Bool) (uid : ℕ) (ms : List Message) (old new : Flags) (differs : Bool) → set_seen ≡ true → option_map (λ (m : Message). m.flags) (message_with uid ms) ≡ Some old →
    new ≡ flags_after mark old → differs ≡ flags_differ old new → length (seen_logged set_seen (map row_of ms) uid) ≡ (if differs then 1 else 0)
count_seen set_seen uid ms old new differs set found is tells =
    let f = found_some (message_with uid ms) old found in
    ap (λ (b : Bool). length (seen_logged b (map row_of ms) uid)) set ∙ ap length (logged_with mark uid ms f.0 f.1)
    ∙ ap (λ (g : Flags). length (new_flags uid g (flags_after mark g))) f.2
    ∙ length_new uid old (flags_after mark old) differs (ap (flags_differ old) (sym is) ∙ sym tells)
