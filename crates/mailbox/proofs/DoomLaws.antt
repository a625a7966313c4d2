-- What it comes to that the messages of some UIDs get \Deleted first and go then: they alone go, and that is what is logged.
use Rattle.std.proofs.Common.{◌≡◌, ℕ, Bool, true, false, ◌==◌, ◌||◌, ◌&&◌, List, [], ◌∷◌, length, map, refl, sym, ap, ◌∙◌, inl, inr, subst, eq-eqb, suc, ◌≤◌, arith, filter, cond}
use Rattle.std.specs.Prelude.{if◌then◌else◌}
use Rattle.std.specs.List.{list_any}
use Rattle.std.proofs.lemmas.Bool.Decides.{eqb_tells}
use Rattle.change_ring.specs.declared.change.Change.{Change}
use Rattle.change_ring.specs.declared.change.Change.TheVariants.{Gone}
use Rattle.change_ring.specs.Log.{Row, discards, flags_after, removals}
use Rattle.mailbox.specs.Mailbox.{Message, remaining, row_of, uids_of, without}
use Rattle.mailbox.specs.inner.Marks.{doom, doomed}
use Rattle.mailbox.proofs.RemovalLaws.{gone_no, gone_yes, left_no, left_yes}

-- ---- a message

abbrev uid_of : Message → ℕ
uid_of m = m.uid

abbrev is_deleted : Message → Bool
is_deleted m = m.flags.deleted

-- it has \Deleted, if this UID is its own
abbrev one : ℕ → Message → Message
one u m = if m.uid == u then record m { flags = flags_after doom m.flags } else m

-- or one of these
abbrev pub doom_by : List ℕ → Message → Message
doom_by [] m = m
doom_by (u ∷ us) m = doom_by us (one u m)

-- some UID is this one
abbrev names : List ℕ → ℕ → Bool
names us uid = list_any (λ u. u == uid) us

uid_one : (u : ℕ) (m : Message) → uid_of (one u m) ≡ m.uid
uid_one u m = by_case (m.uid == u)
  where
    by_case : (b : Bool) → uid_of (if b then record m { flags = flags_after doom m.flags } else m) ≡ m.uid
    by_case true = refl
    by_case false = refl

doom_uid : (us : List ℕ) (m : Message) → uid_of (doom_by us m) ≡ m.uid
doom_uid [] m = refl
doom_uid (u ∷ us) m = doom_uid us (one u m) ∙ uid_one u m

or_true : (a : Bool) → (a || true) ≡ true
or_true true = refl
or_true false = refl

still_one : (u : ℕ) (m : Message) → m.flags.deleted ≡ true → is_deleted (one u m) ≡ true
still_one u m d = by_case (m.uid == u)
  where
    by_case : (b : Bool) → is_deleted (if b then record m { flags = flags_after doom m.flags } else m) ≡ true
    by_case true = or_true m.flags.deleted
    by_case false = d

still_doomed : (us : List ℕ) (m : Message) → m.flags.deleted ≡ true → is_deleted (doom_by us m) ≡ true
still_doomed [] m d = d
still_doomed (u ∷ us) m d = still_doomed us (one u m) (still_one u m d)

one_there : (u : ℕ) (m : Message) → m.uid ≡ u → is_deleted (one u m) ≡ true
one_there u m e = ap (λ (b : Bool). is_deleted (if b then record m { flags = flags_after doom m.flags } else m)) (eq-eqb m.uid u e) ∙ or_true m.flags.deleted

one_else : (u : ℕ) (m : Message) → (m.uid == u) ≡ false → one u m ≡ m
one_else u m e = ap (λ (b : Bool). if b then record m { flags = flags_after doom m.flags } else m) e

-- where its UID is named it has \Deleted
doom_there : (us : List ℕ) (m : Message) → names us m.uid ≡ true → is_deleted (doom_by us m) ≡ true
doom_there [] m e = cc
doom_there (u ∷ us) m e = elim (eqb_tells u m.uid) [
  | inl t ↦ still_doomed us (one u m) (one_there u m (sym t.1))
  | inr t ↦ let e = rw t.0 at e in doom_there us (one u m) (subst (λ (v : ℕ). names us v ≡ true) (sym (uid_one u m)) e)
]

-- else it is as it was
doom_else : (us : List ℕ) (m : Message) → names us m.uid ≡ false → doom_by us m ≡ m
doom_else [] m e = refl
doom_else (u ∷ us) m e = elim (eqb_tells u m.uid) [
  | inl t ↦ let e = rw t.0 at e in cc
  | inr t ↦ let e = rw t.0 at e in elim (eqb_tells m.uid u) [
    | inl s ↦ absurd (t.1 (sym s.1))
    | inr s ↦ ap (doom_by us) (one_else u m s.0) ∙ doom_else us m e
  ]
]

-- ---- all of them

each : (us : List ℕ) (u : ℕ) (ms : List Message) → map (doom_by us) (map (one u) ms) ≡ map (doom_by (u ∷ us)) ms
each us u [] = refl
each us u (m ∷ ms) = ap (λ (ns : List Message). doom_by us (one u m) ∷ ns) (each us u ms)

pub each_doomed : (us : List ℕ) (ms : List Message) → doomed us ms ≡ map (doom_by us) ms
each_doomed [] ms = all_same ms
  where
    all_same : (ns : List Message) → ns ≡ map (doom_by []) ns
    all_same [] = refl
    all_same (n ∷ ns) = ap (λ (xs : List Message). n ∷ xs) (all_same ns)
each_doomed (u ∷ us) ms = each_doomed us (map (one u) ms) ∙ each us u ms

pub length_doomed : (us : List ℕ) (ms : List Message) → length (doomed us ms) ≡ length ms
length_doomed us ms = ap length (each_doomed us ms) ∙ count ms
  where
    count : (ns : List Message) → length (map (doom_by us) ns) ≡ length ns
    count [] = refl
    count (n ∷ ns) = ap suc (count ns)

-- ---- those that have a UID of them go

both : (a b : Bool) → a ≡ true → b ≡ true → (a && b) ≡ true
both true true d e = refl
both true false d e = cc
both false b d e = cc

neither : (a b : Bool) → b ≡ false → (a && b) ≡ false
neither true true e = cc
neither true false e = refl
neither false b e = refl

module _ (us : List ℕ) where
  abbrev marked : Row → Bool
  marked r = r.flags.deleted && names us r.uid

  abbrev named : Row → Bool
  named r = names us r.uid

  logged : (ms : List Message) → removals (names us) (map row_of (map (doom_by us) ms)) ≡ discards (names us) (map row_of ms)
  logged [] = refl
  logged (m ∷ ms) = by_case (doom_by us m) (names us m.uid) refl (doom_uid us m) (doom_there us m) (logged ms)
    where
      by_case : (n : Message) (b : Bool) → names us m.uid ≡ b → n.uid ≡ m.uid → (names us m.uid ≡ true → n.flags.deleted ≡ true) →
          removals (names us) (map row_of (map (doom_by us) ms)) ≡ discards (names us) (map row_of ms) →
          removals (names us) (row_of n ∷ map row_of (map (doom_by us) ms)) ≡ discards (names us) (map row_of (m ∷ ms))
      by_case n true e same on h =
          gone_yes marked n (map (doom_by us) ms) (both n.flags.deleted (names us n.uid) (on e) (ap (names us) same ∙ e))
          ∙ ap (λ (u : ℕ). Gone u ∷ removals (names us) (map row_of (map (doom_by us) ms))) same
          ∙ ap (λ (cs : List Change). Gone m.uid ∷ cs) h ∙ sym (gone_yes named m ms e)
      by_case n false e same on h =
          gone_no marked n (map (doom_by us) ms) (neither n.flags.deleted (names us n.uid) (ap (names us) same ∙ e)) ∙ h ∙ sym (gone_no named m ms e)

  left : (ms : List Message) → remaining (names us) (map (doom_by us) ms) ≡ without (names us) ms
  left [] = refl
  left (m ∷ ms) = by_case (doom_by us m) (names us m.uid) refl (doom_uid us m) (doom_there us m) (doom_else us m) (left ms)
    where
      by_case : (n : Message) (b : Bool) → names us m.uid ≡ b → n.uid ≡ m.uid → (names us m.uid ≡ true → n.flags.deleted ≡ true) → (names us m.uid ≡ false → n ≡ m) →
          remaining (names us) (map (doom_by us) ms) ≡ without (names us) ms → remaining (names us) (n ∷ map (doom_by us) ms) ≡ without (names us) (m ∷ ms)
      by_case n true e same on off h =
          left_yes marked n (map (doom_by us) ms) (both n.flags.deleted (names us n.uid) (on e) (ap (names us) same ∙ e)) ∙ h ∙ sym (left_yes named m ms e)
      by_case n false e same on off h =
          left_no marked n (map (doom_by us) ms) (neither n.flags.deleted (names us n.uid) (ap (names us) same ∙ e))
          ∙ ap (λ (x : Message). x ∷ remaining (names us) (map (doom_by us) ms)) (off e)
          ∙ ap (λ (xs : List Message). m ∷ xs) h ∙ sym (left_no named m ms e)

  -- what is logged as they go
  pub doomed_logged : (ms : List Message) → removals (names us) (map row_of (doomed us ms)) ≡ discards (names us) (map row_of ms)
  doomed_logged ms = ap (λ (ns : List Message). removals (names us) (map row_of ns)) (each_doomed us ms) ∙ logged ms

  -- and the messages that are left
  pub doomed_left : (ms : List Message) → remaining (names us) (doomed us ms) ≡ without (names us) ms
  doomed_left ms = ap (remaining (names us)) (each_doomed us ms) ∙ left ms

-- ---- how many go

pub length_without : (test : ℕ → Bool) (ms : List Message) → length (without test ms) ≤ length ms
length_without test [] = omega arith
length_without test (m ∷ ms) = by_case _ (length_without test ms)
  where
    by_case : (b : Bool) → length (without test ms) ≤ length ms → length (cond b (m ∷ without test ms) (without test ms)) ≤ suc (length ms)
    by_case true h = omega (arith, h)
    by_case false h = omega (arith, h)

-- they are those that are counted by their UIDs
pub length_discards : (test : ℕ → Bool) (ms : List Message) → length (discards test (map row_of ms)) ≡ length (filter test (uids_of ms))
length_discards test [] = refl
length_discards test (m ∷ ms) = by_case (test m.uid) (length_discards test ms)
  where
    by_case : (b : Bool) → length (discards test (map row_of ms)) ≡ length (filter test (uids_of ms)) →
        length (map (λ (r : Row). Gone r.uid) (cond b (row_of m ∷ filter (λ (r : Row). test r.uid) (map row_of ms)) (filter (λ (r : Row). test r.uid) (map row_of ms))))
        ≡ length (cond b (m.uid ∷ filter test (uids_of ms)) (filter test (uids_of ms)))
    by_case true h = ap suc h
    by_case false h = h

pub few_discards : (test : ℕ → Bool) (ms : List Message) → length (discards test (map row_of ms)) ≤ length ms
few_discards test [] = omega arith
few_discards test (m ∷ ms) = by_case (test m.uid) (few_discards test ms)
  where
    by_case : (b : Bool) → length (discards test (map row_of ms)) ≤ length ms →
        length (map (λ (r : Row). Gone r.uid) (cond b (row_of m ∷ filter (λ (r : Row). test r.uid) (map row_of ms)) (filter (λ (r : Row). test r.uid) (map row_of ms)))) ≤ suc (length ms)
    by_case true h = omega (arith, h)
    by_case false h = omega (arith, h)
