-- What the promise to a client of a house on one thread refuses: the small life of `ToldHolds`, or a shorter one, with one thing wrong. Above each stands what somebody would have seen.
use Rattle.std.proofs.Common.{◌≡◌, ◌≤◌, ◌+◌, ℕ, zero, suc, List, [], ◌∷◌, ◌++◌, length, drop, take, refl, Option, Some, None, ap, sym, subst, ◌∙◌, length-append, arith}
use Rattle.std.specs.Prelude.{codes, flat_map}
use Rattle.std.specs.Fmt.{digits}
use Rattle.std.proofs.lemmas.Option.{none-some}
use Rattle.change_ring.specs.declared.change.Change.TheVariants.{Gone}
use Rattle.change_ring.specs.declared.change.Flags.{Flags}
use Rattle.change_ring.specs.Log.{no_flags}
use Rattle.change_ring.specs.Words.{flag_words}
use Rattle.world.specs.World.{World}
use Rattle.imap_grammar.specs.Reading.{read}
use Rattle.imap_session.specs.Commands.{greeting}
use Rattle.imap_session.specs.Happenings.{Answer, Told, bytes_in}
use Rattle.imap_session.specs.declared.standing.Profile.TheVariants.{Compatible}
use Rattle.house_peers.specs.Visitor.{SeatedVisitor}
use Rattle.exactly_once.specs.rows.Worlds.{by_number}
use Rattle.session_thread.specs.ByHistory.{flags_in}
use Rattle.laws_client.specs.Client.{Client, Known, Messages, knowing, unknown}
use Rattle.laws_client.specs.Clients.{IsOf, IsRight, hears_all}
use Rattle.laws_client.specs.Flags.{Believes, FlagsOf, IsRightAt, KnowsFlags, Point, counted}
use Rattle.laws_client.proofs.Each.{each_weaker}
use Rattle.laws_client.specs.HouseClients.{IsToldRight, Seen, point_of}
use Rattle.laws_client.proofs.ToldHolds.{answer_to_select, arrivals, at_last, box, entered, hello, house, marked_twice, select_line, the_other}

-- ---- what was told of the list

abbrev pub the_list : Messages → List Known
the_list None = []
the_list (Some list) = list

-- what it is right about, where it knows this list
pub is_right_list : (p : Point) (list : List Known) → IsRightAt p (Some (knowing (Some list))) → IsRight (counted p) list
is_right_list p list (found, same, right) =
    subst (IsRight (counted p)) (sym (ap (λ (c : Client). the_list c.messages) same))
    (each_weaker (λ u m. IsOf u m × Believes p u m) IsOf (λ u m both. both.0) (counted p) found right)

pub is_right_flags : (p : Point) (list : List Known) → IsRightAt p (Some (knowing (Some list))) → KnowsFlags p list
is_right_flags p list (found, same, right) =
    subst (KnowsFlags p) (sym (ap (λ (c : Client). the_list c.messages) same))
    (each_weaker (λ u m. IsOf u m × Believes p u m) (Believes p) (λ u m both. both.1) (counted p) found right)

module _ {v : SeatedVisitor} {w : World} {s : Seen} (t : IsToldRight house 0 v w s) {told : List Told} (is : t.told ≡ told) where
  -- so by what it was told
  right_list : (list : List Known) → hears_all None told ≡ Some (knowing (Some list)) → IsRight (counted (point_of w 0)) list
  right_list list heard = is_right_list (point_of w 0) list (subst (IsRightAt (point_of w 0)) (ap (hears_all None) is ∙ heard) t.list)

  right_flags : (list : List Known) → hears_all None told ≡ Some (knowing (Some list)) → KnowsFlags (point_of w 0) list
  right_flags list heard = is_right_flags (point_of w 0) list (subst (IsRightAt (point_of w 0)) (ap (hears_all None) is ∙ heard) t.list)

  -- and it was told no number that it can't have
  possible : hears_all None told ≡ Some (knowing None) → ⊥
  possible heard = by (subst (IsRightAt (point_of w 0)) (ap (hears_all None) is ∙ heard) t.list)
    where
      by : IsRightAt (point_of w 0) (Some (knowing None)) → ⊥
      by (found, same, right) = none-some found (ap (λ (c : Client). c.messages) same)

abbrev told_both : (line answer : List ℕ) → List Told
told_both line answer = Answer select_line (answer_to_select 2) ∷ Answer line answer ∷ []

abbrev pub of_uid : ℕ → Known
of_uid uid = record { uid = Some uid; flags = None }

pub heard_one : hears_all None (Answer select_line (answer_to_select 1) ∷ []) ≡ Some (knowing (Some (unknown ∷ [])))
unfolding read digits
heard_one = refl

pub heard_two : hears_all None (Answer select_line (answer_to_select 2) ∷ []) ≡ Some (knowing (Some (unknown ∷ unknown ∷ [])))
unfolding read digits
heard_two = refl

pub heard_three : hears_all None (Answer select_line (answer_to_select 3) ∷ []) ≡ Some (knowing (Some (unknown ∷ unknown ∷ unknown ∷ [])))
unfolding read digits
heard_three = refl

abbrev fetch_line : List ℕ
fetch_line = codes "b FETCH 1 UID"

heard_eight : hears_all None (told_both fetch_line (codes "* 1 FETCH (UID 8)\r\nb OK FETCH completed\r\n")) ≡ Some (knowing (Some (of_uid 8 ∷ unknown ∷ [])))
unfolding read digits
heard_eight = refl

heard_of_a_third : hears_all None (told_both (codes "b FETCH 3 UID") (codes "* 3 FETCH (UID 9)\r\nb OK FETCH completed\r\n")) ≡ Some (knowing None)
unfolding read digits
heard_of_a_third = refl

abbrev uids_and : List ℕ → List Told
uids_and answer =
    Answer select_line (answer_to_select 2) ∷ Answer (codes "b FETCH 1:2 UID") (codes "* 1 FETCH (UID 7)\r\n* 2 FETCH (UID 8)\r\nb OK FETCH completed\r\n")
    ∷ Answer (codes "c NOOP") answer ∷ []

heard_second_gone : hears_all None (uids_and (codes "* 2 EXPUNGE\r\nc OK NOOP completed\r\n")) ≡ Some (knowing (Some (of_uid 7 ∷ [])))
unfolding read digits
heard_second_gone = refl

-- the first message went, and that was shown
abbrev was_gone : World
was_gone = record entered { box = by_number (box (arrivals ++ Gone 7 ∷ [])) (box []) (box []); session = by_number (Some (record the_other { cursor = 3; shown = Gone 7 ∷ [] })) None None }

module _ (v : SeatedVisitor) (s : Seen) where
  -- Two messages are there, and it is told of one.
  one_too_few : (t : IsToldRight house 0 v at_last s) → t.told ≡ Answer select_line (answer_to_select 1) ∷ [] → ⊥
  one_too_few t is = (right_list t is _ heard_one).1

  -- It is told of three.
  one_too_many : (t : IsToldRight house 0 v at_last s) → t.told ≡ Answer select_line (answer_to_select 3) ∷ [] → ⊥
  one_too_many t is = (right_list t is _ heard_three).1.1

  -- It is told of the first message the UID of the second.
  another_uid : (t : IsToldRight house 0 v at_last s) → t.told ≡ told_both fetch_line (codes "* 1 FETCH (UID 8)\r\nb OK FETCH completed\r\n") → ⊥
  another_uid t is = let uid : 8 ≡ 7 = (right_list t is _ heard_eight).0 8 refl in omega (arith, uid)

  -- It is told of a third message, where it knows of two.
  of_a_third : (t : IsToldRight house 0 v at_last s) → t.told ≡ told_both (codes "b FETCH 3 UID") (codes "* 3 FETCH (UID 9)\r\nb OK FETCH completed\r\n") → ⊥
  of_a_third t is = possible t is heard_of_a_third

  -- A message is gone, its session went past that, and its client is told nothing of it.
  still_listed : (t : IsToldRight house 0 v was_gone s) → t.told ≡ Answer select_line (answer_to_select 2) ∷ [] → ⊥
  still_listed t is = (right_list t is _ heard_two).1

  -- The first message is gone, and it is told that the second is.
  another_is_gone : (t : IsToldRight house 0 v was_gone s) → t.told ≡ uids_and (codes "* 2 EXPUNGE\r\nc OK NOOP completed\r\n") → ⊥
  another_is_gone t is = let uid : 7 ≡ 8 = (right_list t is _ heard_second_gone).0 7 refl in omega (arith, uid)

-- ---- what was told of flags

-- the letter behind the backslash of the first flag
abbrev pub letter : List (List ℕ) → ℕ
letter ((a ∷ b ∷ name) ∷ names) = b
letter names = 0

abbrev pub the_flags : Option Flags → Flags
the_flags None = no_flags
the_flags (Some flags) = flags

abbrev pub letter_of : Option Flags → ℕ
letter_of flags = letter (flag_words (the_flags flags))

-- whenever that was, the second message had \Flagged
flags_of_second : (names : List (List ℕ)) → FlagsOf marked_twice 3 8 names → letter names ≡ 70
flags_of_second names f = ap letter f.named ∙ sym (ap letter_of f.had) ∙ by f.moment f.since f.until
  where
    by : (m : ℕ) → 3 ≤ m → m ≤ 4 → letter_of (flags_in 8 (take m marked_twice)) ≡ 70
    by zero low high = absurd (omega (arith, low))
    by (suc zero) low high = absurd (omega (arith, low))
    by (suc (suc zero)) low high = absurd (omega (arith, low))
    by (suc (suc (suc zero))) low high = refl
    by (suc (suc (suc (suc zero)))) low high = refl
    by (suc (suc (suc (suc (suc m))))) low high = absurd (omega (arith, high))

-- and the first had none
flags_of_first : (names : List (List ℕ)) → FlagsOf marked_twice 3 7 names → letter names ≡ 0
flags_of_first names f = ap letter f.named ∙ sym (ap letter_of f.had) ∙ by f.moment f.since f.until
  where
    by : (m : ℕ) → 3 ≤ m → m ≤ 4 → letter_of (flags_in 7 (take m marked_twice)) ≡ 0
    by zero low high = absurd (omega (arith, low))
    by (suc zero) low high = absurd (omega (arith, low))
    by (suc (suc zero)) low high = absurd (omega (arith, low))
    by (suc (suc (suc zero))) low high = refl
    by (suc (suc (suc (suc zero)))) low high = refl
    by (suc (suc (suc (suc (suc m))))) low high = absurd (omega (arith, high))

abbrev pub with_names : List (List ℕ) → Known
with_names names = record { uid = None; flags = Some names }

abbrev flags_told : List ℕ → List Told
flags_told answer = told_both (codes "b FETCH 1:2 FLAGS") (answer ++ codes "b OK FETCH completed\r\n")

heard_none : hears_all None (flags_told (codes "* 2 FETCH (FLAGS ())\r\n")) ≡ Some (knowing (Some (unknown ∷ with_names [] ∷ [])))
unfolding read digits
heard_none = refl

heard_deleted : hears_all None (flags_told (codes "* 2 FETCH (FLAGS (\\Deleted))\r\n")) ≡ Some (knowing (Some (unknown ∷ with_names (codes "\\Deleted" ∷ []) ∷ [])))
unfolding read digits
heard_deleted = refl

heard_seen : hears_all None (flags_told (codes "* 2 FETCH (FLAGS (\\Seen))\r\n")) ≡ Some (knowing (Some (unknown ∷ with_names (codes "\\Seen" ∷ []) ∷ [])))
unfolding read digits
heard_seen = refl

heard_of_first : hears_all None (flags_told (codes "* 1 FETCH (FLAGS (\\Flagged))\r\n")) ≡ Some (knowing (Some (with_names (codes "\\Flagged" ∷ []) ∷ unknown ∷ [])))
unfolding read digits
heard_of_first = refl

module _ (v : SeatedVisitor) (s : Seen) where
  -- It was shown that the second message has \Flagged, and is told that it has no flag: that is older.
  older : (t : IsToldRight house 0 v at_last s) → t.told ≡ flags_told (codes "* 2 FETCH (FLAGS ())\r\n") → ⊥
  older t is = let byte : 0 ≡ 70 = flags_of_second _ ((right_flags t is _ heard_none).1.0 _ refl) in omega (arith, byte)

  -- It is told a flag that the message never had.
  never_had : (t : IsToldRight house 0 v at_last s) → t.told ≡ flags_told (codes "* 2 FETCH (FLAGS (\\Deleted))\r\n") → ⊥
  never_had t is = let byte : 68 ≡ 70 = flags_of_second _ ((right_flags t is _ heard_deleted).1.0 _ refl) in omega (arith, byte)

  -- It is told one of two flags that are set, and not the other, which was set before.
  not_both : (t : IsToldRight house 0 v at_last s) → t.told ≡ flags_told (codes "* 2 FETCH (FLAGS (\\Seen))\r\n") → ⊥
  not_both t is = let byte : 83 ≡ 70 = flags_of_second _ ((right_flags t is _ heard_seen).1.0 _ refl) in omega (arith, byte)

  -- It is told that the first message has the flag of the second.
  anothers_flags : (t : IsToldRight house 0 v at_last s) → t.told ≡ flags_told (codes "* 1 FETCH (FLAGS (\\Flagged))\r\n") → ⊥
  anothers_flags t is = let byte : 70 ≡ 0 = flags_of_first _ ((right_flags t is _ heard_of_first).0 _ refl) in omega (arith, byte)

-- ---- what was printed to it, and what it sent

abbrev pub first_of : List ℕ → ℕ
first_of [] = 0
first_of (x ∷ xs) = x

abbrev ok_a : List ℕ
ok_a = codes "a OK NOOP completed\r\n"

abbrev ok_b : List ℕ
ok_b = codes "b OK NOOP completed\r\n"

abbrev line_a : List ℕ
line_a = codes "a NOOP\r\n"

abbrev line_b : List ℕ
line_b = codes "b NOOP\r\n"

abbrev told_two : List Told
told_two = Answer (codes "a NOOP") ok_a ∷ Answer (codes "b NOOP") ok_b ∷ []

module _ (v : SeatedVisitor) (w : World) (s : Seen) where
  -- what was printed to it, and what still is to be
  abbrev told_in_all : List ℕ
  told_in_all = s.shown ++ v.session.unsaid

  -- It was never greeted.
  ungreeted : IsToldRight house 0 v w s → told_in_all ≡ [] → ⊥
  ungreeted t none = let size : 0 ≡ 34 + length (flat_map bytes_in t.told) = ap length (sym none ∙ t.shown) ∙ length-append hello (flat_map bytes_in t.told) in omega (arith, size)

  -- It has but the first bytes of the greeting, and nothing more is to be printed.
  greeting_cut : IsToldRight house 0 v w s → told_in_all ≡ take 5 hello → ⊥
  greeting_cut t cut = let size : 5 ≡ 34 + length (flat_map bytes_in t.told) = ap length (sym cut ∙ t.shown) ∙ length-append hello (flat_map bytes_in t.told) in omega (arith, size)

  -- It is greeted as by a house of the other profile.
  greeted_otherwise : (rest : List ℕ) → IsToldRight house 0 v w s → told_in_all ≡ greeting Compatible ++ rest → ⊥
  greeted_otherwise rest t other = let byte : 79 ≡ 80 = ap (λ (l : List ℕ). first_of (drop 2 l)) (sym other ∙ t.shown) in omega (arith, byte)

  -- The answer to its first line comes before the greeting.
  greeted_late : (rest : List ℕ) → IsToldRight house 0 v w s → told_in_all ≡ ok_a ++ rest → ⊥
  greeted_late rest t late = let byte : 97 ≡ 42 = ap first_of (sym late ∙ t.shown) in omega (arith, byte)

  module _ (t : IsToldRight house 0 v w s) (is : t.told ≡ told_two) where
    printed_so : told_in_all ≡ hello ++ (ok_a ++ (ok_b ++ []))
    printed_so = t.shown ∙ ap (λ (x : List Told). hello ++ flat_map bytes_in x) is

    -- The answer to its last line is left out.
    left_out : told_in_all ≡ hello ++ ok_a → ⊥
    left_out short = let size : 55 ≡ 76 = ap length (sym short ∙ printed_so) in omega (arith, size)

    -- That comes twice.
    told_twice : told_in_all ≡ hello ++ (ok_a ++ (ok_b ++ ok_b)) → ⊥
    told_twice twice = let size : 97 ≡ 76 = ap length (sym twice ∙ printed_so) in omega (arith, size)

    -- The answers come in the other order.
    other_order : told_in_all ≡ hello ++ (ok_b ++ ok_a) → ⊥
    other_order turned = let byte : 98 ≡ 97 = ap (λ (l : List ℕ). first_of (drop 34 l)) (sym turned ∙ printed_so) in omega (arith, byte)

    -- A line that no answer has stands between them.
    line_between : told_in_all ≡ hello ++ (ok_a ++ (codes "* 9 EXISTS\r\n" ++ ok_b)) → ⊥
    line_between more = let size : 88 ≡ 76 = ap length (sym more ∙ printed_so) in omega (arith, size)

    -- It is greeted twice.
    greeted_again : told_in_all ≡ hello ++ (hello ++ (ok_a ++ ok_b)) → ⊥
    greeted_again twice = let size : 110 ≡ 76 = ap length (sym twice ∙ printed_so) in omega (arith, size)

  -- Its second line is lost: it wasn't answered, and doesn't wait.
  lost : (t : IsToldRight house 0 v w s) → s.sent ≡ line_a ++ line_b → t.answered ≡ line_a → v.session.waits ≡ [] → ⊥
  lost t sent first none = let size : 16 ≡ 8 = ap length (sym sent ∙ t.sent ∙ ap (λ (x : List ℕ). x ++ v.session.waits) first ∙ ap (λ (x : List ℕ). line_a ++ x) none) in omega (arith, size)

  -- A line is answered that it never sent.
  never_sent : (t : IsToldRight house 0 v w s) → s.sent ≡ [] → t.answered ≡ line_a → ⊥
  never_sent t none line =
      let size : 0 ≡ 8 + length v.session.waits = ap length (sym none ∙ t.sent ∙ ap (λ (x : List ℕ). x ++ v.session.waits) line) ∙ length-append line_a v.session.waits in
      omega (arith, size)

  -- A line is answered, and waits to be answered once more.
  waits_still : (t : IsToldRight house 0 v w s) → s.sent ≡ line_a → t.answered ≡ line_a → v.session.waits ≡ line_a → ⊥
  waits_still t sent line waits = let size : 8 ≡ 16 = ap length (sym sent ∙ t.sent ∙ ap (λ (x : List ℕ). x ++ v.session.waits) line ∙ ap (λ (x : List ℕ). line_a ++ x) waits) in omega (arith, size)

  -- The second line is answered, while the first waits.
  second_first : (t : IsToldRight house 0 v w s) → s.sent ≡ line_a ++ line_b → t.answered ≡ line_b → ⊥
  second_first t sent second = let byte : 97 ≡ 98 = ap first_of (sym sent ∙ t.sent ∙ ap (λ (x : List ℕ). x ++ v.session.waits) second) in omega (arith, byte)
