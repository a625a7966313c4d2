-- What the promises to a server's visitor, and of UIDs, refuse: a history of `HistoryRows`, or a mailbox, with one thing wrong. Above each stands what somebody would have seen.
use Rattle.std.proofs.Common.{◌≡◌, ◌≤◌, ℕ, zero, suc, List, [], ◌∷◌, ◌++◌, take, refl, Option, Some, None, ap, sym, subst, ◌∙◌, arith}
use Rattle.std.specs.Prelude.{Contains, codes}
use Rattle.std.specs.Fmt.{digits}
use Rattle.std.proofs.lemmas.Option.{none-some}
use Rattle.change_ring.specs.Log.{no_flags}
use Rattle.change_ring.specs.Words.{flag_words}
use Rattle.delivery_token.specs.Text.{undated}
use Rattle.delivery_token.specs.declared.Job.{Job}
use Rattle.house_history.specs.Events.{changes_in}
use Rattle.imap_grammar.specs.Reading.{read}
use Rattle.imap_session.specs.Happenings.{Answer, Told}
use Rattle.session_thread.specs.Locks.{LockedStore}
use Rattle.world.specs.World.{Box}
use Rattle.exactly_once.specs.rows.Worlds.{bye, hi, yo}
use Rattle.session_thread.specs.ByHistory.{flags_in}
use Rattle.laws_client.specs.Client.{Known, knowing, unknown}
use Rattle.laws_client.specs.Clients.{IsRight, hears_all}
use Rattle.laws_client.specs.Flags.{FlagsOf, IsRightAt, KnowsFlags, counted}
use Rattle.laws_client.specs.Served.{place_of}
use Rattle.laws_client.specs.rows.HistoryRows.{emptied, flagged, marked, outside, within}
use Rattle.laws_client.proofs.ToldHolds.{answer_to_select, knows_both, select_line, told}
use Rattle.laws_client.proofs.ToldRefuted.{first_of, heard_one, heard_three, heard_two, is_right_flags, is_right_list, letter, letter_of, of_uid, with_names}

-- what is concluded of a visitor whose session has seen so much, and that was told this
abbrev pub VisitorIsRight : LockedStore → List Told → Type 0
VisitorIsRight selection told = IsRightAt (place_of selection) (hears_all None told)

-- ---- what passes

heard_both : hears_all None told ≡ Some (knowing (Some knows_both))
unfolding read digits
heard_both = refl

-- Two messages are there. It was told so, and that the second is flagged; since then another client marked that as deleted.
pub visitor_is_right : VisitorIsRight (within marked 3) told
visitor_is_right =
    subst (IsRightAt (place_of (within marked 3))) (sym heard_both)
    (knows_both, refl, (((λ n e. absurd (none-some n e)), (λ names e. absurd (none-some names e))), ((uid_so, flags_so), tt)))
  where
    uid_so : (n : ℕ) → Some 8 ≡ Some n → n ≡ 8
    uid_so n e = cc

    flags_so : (names : List (List ℕ)) → Some (codes "\\Flagged" ∷ []) ≡ Some names → FlagsOf (changes_in 0 marked) 3 8 names
    flags_so names e = record { moment = 3; since = omega arith; until = omega arith; flags = flagged; had = refl; named = named }
      where
        named : names ≡ flag_words flagged
        named = cc

-- It was told nothing, and so it believes nothing.
knows_nothing : VisitorIsRight (within marked 3) []
knows_nothing = tt

-- ---- what doesn't

module _ (selection : LockedStore) (told : List Told) (right : VisitorIsRight selection told) (list : List Known) (heard : hears_all None told ≡ Some (knowing (Some list))) where
  list_of : IsRight (counted (place_of selection)) list
  list_of = is_right_list (place_of selection) list (subst (IsRightAt (place_of selection)) heard right)

  flags_of : KnowsFlags (place_of selection) list
  flags_of = is_right_flags (place_of selection) list (subst (IsRightAt (place_of selection)) heard right)

abbrev told_select : (count : ℕ) → List Told
told_select count = Answer select_line (answer_to_select count) ∷ []

abbrev told_fetch : List ℕ → List Told
told_fetch answer = Answer select_line (answer_to_select 2) ∷ Answer (codes "b FETCH 1:2 (UID FLAGS)") (answer ++ codes "b OK FETCH completed\r\n") ∷ []

heard_seven : hears_all None (told_fetch (codes "* 2 FETCH (UID 7)\r\n")) ≡ Some (knowing (Some (unknown ∷ of_uid 7 ∷ [])))
unfolding read digits
heard_seven = refl

heard_answered : hears_all None (told_fetch (codes "* 2 FETCH (FLAGS (\\Answered))\r\n")) ≡ Some (knowing (Some (unknown ∷ with_names (codes "\\Answered" ∷ []) ∷ [])))
unfolding read digits
heard_answered = refl

heard_none : hears_all None (told_fetch (codes "* 1 FETCH (FLAGS ())\r\n")) ≡ Some (knowing (Some (with_names [] ∷ unknown ∷ [])))
unfolding read digits
heard_none = refl

-- Two messages are there, and it was told of one.
one_too_few : VisitorIsRight (within marked 3) (told_select 1) → ⊥
one_too_few right = (list_of (within marked 3) (told_select 1) right _ heard_one).1

-- It was told of three.
one_too_many : VisitorIsRight (within marked 3) (told_select 3) → ⊥
one_too_many right = (list_of (within marked 3) (told_select 3) right _ heard_three).1.1

-- It was told of the second message the UID of the first.
another_uid : VisitorIsRight (within marked 3) (told_fetch (codes "* 2 FETCH (UID 7)\r\n")) → ⊥
another_uid right = let uid : 7 ≡ 8 = (list_of (within marked 3) (told_fetch (codes "* 2 FETCH (UID 7)\r\n")) right _ heard_seven).1.0 7 refl in omega (arith, uid)

-- Its session went past the removal of a message, and it wasn't told that.
still_listed : VisitorIsRight (within emptied 6) (told_select 2) → ⊥
still_listed right = (list_of (within emptied 6) (told_select 2) right _ heard_two).1

-- Its session is in no mailbox, and it was told that it is in one.
in_no_mailbox : VisitorIsRight (outside marked) (told_select 2) → ⊥
in_no_mailbox right = list_of (outside marked) (told_select 2) right _ heard_two

-- whenever that was, the second message had \Flagged first
flags_of_second : (names : List (List ℕ)) → FlagsOf (changes_in 0 marked) 3 8 names → letter names ≡ 70
flags_of_second names f = ap letter f.named ∙ sym (ap letter_of f.had) ∙ by f.moment f.since f.until
  where
    by : (m : ℕ) → 3 ≤ m → m ≤ 5 → letter_of (flags_in 8 (take m (changes_in 0 marked))) ≡ 70
    by zero low high = absurd (omega (arith, low))
    by (suc zero) low high = absurd (omega (arith, low))
    by (suc (suc zero)) low high = absurd (omega (arith, low))
    by (suc (suc (suc zero))) low high = refl
    by (suc (suc (suc (suc zero)))) low high = refl
    by (suc (suc (suc (suc (suc zero))))) low high = refl
    by (suc (suc (suc (suc (suc (suc m)))))) low high = absurd (omega (arith, high))

-- from its fourth change on the first message had \Seen
flags_of_first : (names : List (List ℕ)) → FlagsOf (changes_in 0 marked) 4 7 names → letter names ≡ 83
flags_of_first names f = ap letter f.named ∙ sym (ap letter_of f.had) ∙ by f.moment f.since f.until
  where
    by : (m : ℕ) → 4 ≤ m → m ≤ 5 → letter_of (flags_in 7 (take m (changes_in 0 marked))) ≡ 83
    by zero low high = absurd (omega (arith, low))
    by (suc zero) low high = absurd (omega (arith, low))
    by (suc (suc zero)) low high = absurd (omega (arith, low))
    by (suc (suc (suc zero))) low high = absurd (omega (arith, low))
    by (suc (suc (suc (suc zero)))) low high = refl
    by (suc (suc (suc (suc (suc zero))))) low high = refl
    by (suc (suc (suc (suc (suc (suc m)))))) low high = absurd (omega (arith, high))

-- It was told a flag that the message never had.
never_had : VisitorIsRight (within marked 3) (told_fetch (codes "* 2 FETCH (FLAGS (\\Answered))\r\n")) → ⊥
never_had right = let byte : 65 ≡ 70 = flags_of_second _ ((flags_of (within marked 3) (told_fetch (codes "* 2 FETCH (FLAGS (\\Answered))\r\n")) right _ heard_answered).1.0 _ refl) in omega (arith, byte)

-- Its session was shown that the first message was read, and it was told that this has no flag: that is older.
older : VisitorIsRight (within marked 4) (told_fetch (codes "* 1 FETCH (FLAGS ())\r\n")) → ⊥
older right = let byte : 0 ≡ 83 = flags_of_first _ ((flags_of (within marked 4) (told_fetch (codes "* 1 FETCH (FLAGS ())\r\n")) right _ heard_none).0 _ refl) in omega (arith, byte)

-- Before it was shown that, this was right.
not_yet_older : VisitorIsRight (within marked 3) (told_fetch (codes "* 1 FETCH (FLAGS ())\r\n"))
not_yet_older =
    subst (IsRightAt (place_of (within marked 3))) (sym heard_none)
    (_, refl, (((λ n e. absurd (none-some n e)), flags_so), (((λ n e. absurd (none-some n e)), (λ names e. absurd (none-some names e))), tt)))
  where
    flags_so : (names : List (List ℕ)) → ◌≡◌ {A = Option (List (List ℕ))} (Some []) (Some names) → FlagsOf (changes_in 0 marked) 3 7 names
    flags_so names e = record { moment = 3; since = omega arith; until = omega arith; flags = no_flags; had = refl; named = named }
      where
        named : names ≡ flag_words no_flags
        named = cc

-- ---- UIDs

-- what is concluded of a mailbox as it was and as it is, for each copy that stood in its history
abbrev UidsStay : (before now : Box) → Type 0
UidsStay before now = (copy : Job) (uid : ℕ) → Contains before.accepted (copy, uid)
    → Contains now.accepted (copy, uid) × ((other : Job) → Contains now.accepted (other, uid) → other ≡ copy)

abbrev box : List (Job × ℕ) → Box
box accepted = record { log = []; base = 0; accepted = accepted }

-- two copies stood there
abbrev before : Box
before = box ((hi, 7) ∷ (yo, 8) ∷ [])

abbrev other_text : Job
other_text = record yo { text = undated (codes "no\r\n") }

stood : Contains before.accepted (yo, 8)
stood = (1, omega arith, refl)

-- A third came, and they stand there still.
a_third_came : UidsStay before (box ((hi, 7) ∷ (yo, 8) ∷ (bye, 9) ∷ []))
a_third_came copy uid (zero, l, e) = ((0, omega arith, e), only)
  where
    only : (other : Job) → Contains (box ((hi, 7) ∷ (yo, 8) ∷ (bye, 9) ∷ [])).accepted (other, uid) → other ≡ copy
    only other (zero, m, f) = ap (λ (x : Job × ℕ). x.0) (sym f ∙ e)
    only other (suc zero, m, f) = absurd (let seven : 7 ≡ uid = ap (λ (x : Job × ℕ). x.1) e in let eight : 8 ≡ uid = ap (λ (x : Job × ℕ). x.1) f in omega (arith, seven, eight))
    only other (suc (suc zero), m, f) = absurd (let seven : 7 ≡ uid = ap (λ (x : Job × ℕ). x.1) e in let nine : 9 ≡ uid = ap (λ (x : Job × ℕ). x.1) f in omega (arith, seven, nine))
    only other (suc (suc (suc k)), m, f) = absurd (omega (arith, m))
a_third_came copy uid (suc zero, l, e) = ((1, omega arith, e), only)
  where
    only : (other : Job) → Contains (box ((hi, 7) ∷ (yo, 8) ∷ (bye, 9) ∷ [])).accepted (other, uid) → other ≡ copy
    only other (zero, m, f) = absurd (let eight : 8 ≡ uid = ap (λ (x : Job × ℕ). x.1) e in let seven : 7 ≡ uid = ap (λ (x : Job × ℕ). x.1) f in omega (arith, seven, eight))
    only other (suc zero, m, f) = ap (λ (x : Job × ℕ). x.0) (sym f ∙ e)
    only other (suc (suc zero), m, f) = absurd (let eight : 8 ≡ uid = ap (λ (x : Job × ℕ). x.1) e in let nine : 9 ≡ uid = ap (λ (x : Job × ℕ). x.1) f in omega (arith, nine, eight))
    only other (suc (suc (suc k)), m, f) = absurd (omega (arith, m))
a_third_came copy uid (suc (suc k), l, e) = absurd (omega (arith, l))

-- A copy is gone from the history.
is_gone : UidsStay before (box ((hi, 7) ∷ [])) → ⊥
is_gone stays = by (stays yo 8 stood).0
  where
    by : Contains (box ((hi, 7) ∷ [])).accepted (yo, 8) → ⊥
    by (zero, l, e) = let uid : 7 ≡ 8 = ap (λ (x : Job × ℕ). x.1) e in omega (arith, uid)
    by (suc k, l, e) = omega (arith, l)

-- It has another UID.
under_another_uid : UidsStay before (box ((hi, 7) ∷ (yo, 9) ∷ [])) → ⊥
under_another_uid stays = by (stays yo 8 stood).0
  where
    by : Contains (box ((hi, 7) ∷ (yo, 9) ∷ [])).accepted (yo, 8) → ⊥
    by (zero, l, e) = let uid : 7 ≡ 8 = ap (λ (x : Job × ℕ). x.1) e in omega (arith, uid)
    by (suc zero, l, e) = let uid : 9 ≡ 8 = ap (λ (x : Job × ℕ). x.1) e in omega (arith, uid)
    by (suc (suc k), l, e) = omega (arith, l)

-- The copies have changed their UIDs.
change_places : UidsStay before (box ((yo, 7) ∷ (hi, 8) ∷ [])) → ⊥
change_places stays = let seat : 0 ≡ 1 = ap (λ (job : Job). job.key.seat) ((stays yo 8 stood).1 hi (1, omega arith, refl)) in omega (arith, seat)

-- It has another text.
another_text : UidsStay before (box ((hi, 7) ∷ (other_text, 8) ∷ [])) → ⊥
another_text stays = let byte : 110 ≡ 121 = ap (λ (job : Job). first_of job.text.bytes) ((stays yo 8 stood).1 other_text (1, omega arith, refl)) in omega (arith, byte)

-- A second copy stands under its UID.
a_second_copy : UidsStay before (box ((hi, 7) ∷ (yo, 8) ∷ (bye, 8) ∷ [])) → ⊥
a_second_copy stays = let number : 1 ≡ 0 = ap (λ (job : Job). job.key.message) ((stays yo 8 stood).1 bye (2, omega arith, refl)) in omega (arith, number)
