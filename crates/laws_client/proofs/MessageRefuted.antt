-- What a client is never told of a message that it appended, which answers are no OK, and when a session counts less than all. Above each stands what somebody would have seen.
use Rattle.std.proofs.Common.{◌≡◌, ◌≢◌, ◌⊎◌, inl, inr, ℕ, zero, suc, ◌+◌, ◌^◌, ◌<◌, ◌==◌, Bool, true, false, not, ◌&&◌, ◌||◌, if◌then◌else◌, List, [], ◌∷◌, ◌++◌, length, take, drop, refl, Option, Some, None, Result, Ok, ap, ap₂, sym, subst, ◌∙◌, append_assoc, length-append, true≢false, eq-eqb, arith}
use Rattle.std.proofs.Math.Seq.{take-length}
use Rattle.std.proofs.lemmas.Fmt.{decimal_injective}
use Rattle.std.specs.Prelude.{Contains, codes, decimal, slice_index_or}
use Rattle.std.specs.Fmt.{digits}
use Rattle.std.specs.List.{list_all}
use Rattle.change_ring.specs.declared.change.Change.{Change}
use Rattle.change_ring.specs.declared.change.Change.TheVariants.{Add, Gone}
use Rattle.change_ring.specs.declared.change.Flags.{Flags}
use Rattle.change_ring.specs.Log.{no_flags, replay, shown, without}
use Rattle.change_ring.specs.Words.{flag_words}
use Rattle.delivery_token.specs.Keys.{Below}
use Rattle.delivery_token.specs.Text.{undated}
use Rattle.delivery_token.specs.declared.Job.{Job}
use Rattle.mail_date.specs.InternalBack.{internal_date}
use Rattle.mail_date.specs.declared.stamp.Stamp.{Stamp}
use Rattle.line_io.specs.Wire.{crlf}
use Rattle.world.specs.Law.{StandsOnce, pairs}
use Rattle.world.specs.World.{World, empty_world}
use Rattle.imap_grammar.specs.Bytes.{is_tag}
use Rattle.imap_grammar.specs.Reading.{read}
use Rattle.imap_grammar.specs.declared.command.Append.{Append}
use Rattle.imap_grammar.specs.declared.command.Command.{Command}
use Rattle.imap_grammar.specs.declared.command.Command.TheVariants as commands
use Rattle.imap_grammar.specs.declared.command.ImapFault.{ImapFault}
use Rattle.imap_session.specs.Commands.{appended_words, number_named}
use Rattle.imap_session.specs.Folders.{folders_of}
use Rattle.imap_session.specs.Happenings.{Answer, Told, Words}
use Rattle.exactly_once.specs.rows.Worlds.{by_number, hi, yo}
use Rattle.laws_client.specs.Clients.{EndsWith, IsOk, IsSpelled, as_it_stands, has_ok, last_line, of_noop, of_other, with_literal, with_response}
use Rattle.laws_client.specs.Flags.{CountsAll}
use Rattle.laws_client.specs.HouseClients.{Seen, SendsMessage, TellsOfMessage, point_of}
use Rattle.laws_client.proofs.MessageHolds.{at_work, box, dated, flagged, home, in_inbox, in_summer, mine, plain, sent, sent_by_alice, sent_dated, third, with_log}
use Rattle.laws_client.proofs.Served.{all_there}

-- ---- where bytes stand among others

-- these begin so
abbrev begins : List ℕ → List ℕ → Bool
begins [] bytes = true
begins (p ∷ pattern) [] = false
begins (p ∷ pattern) (b ∷ bytes) = (p == b) && begins pattern bytes

-- these have that among them, where it isn't empty
abbrev has : List ℕ → List ℕ → Bool
has pattern [] = false
has pattern (b ∷ bytes) = begins pattern (b ∷ bytes) || has pattern bytes

-- these have it at no other place than behind the first n
abbrev only_at : List ℕ → ℕ → List ℕ → Bool
only_at pattern n [] = true
only_at pattern zero (b ∷ bytes) = not (has pattern bytes)
only_at pattern (suc n) (b ∷ bytes) = not (begins pattern (b ∷ bytes)) && only_at pattern n bytes

begins_so : (pattern rest : List ℕ) → begins pattern (pattern ++ rest) ≡ true
begins_so [] rest = refl
begins_so (p ∷ pattern) rest = ap (λ (x : Bool). x && begins pattern (pattern ++ rest)) (eq-eqb p p refl) ∙ begins_so pattern rest

or_true : (a b : Bool) → b ≡ true → (a || b) ≡ true
or_true true b h = refl
or_true false b h = h

has_it : (front : List ℕ) (p : ℕ) (pattern rest : List ℕ) → has (p ∷ pattern) (front ++ (p ∷ pattern) ++ rest) ≡ true
has_it [] p pattern rest = ap (λ (x : Bool). x || has (p ∷ pattern) (pattern ++ rest)) (begins_so (p ∷ pattern) rest)
has_it (b ∷ front) p pattern rest = or_true _ _ (has_it front p pattern rest)

not_both : (a : Bool) → a ≡ true → not a ≡ true → ⊥
not_both true e h = true≢false (sym h)
not_both false e h = true≢false (sym e)

both_true : (a b : Bool) → (a && b) ≡ true → (a ≡ true) × (b ≡ true)
both_true true b h = (refl, h)
both_true false b h = absurd (true≢false (sym h))

stands_at : (front : List ℕ) (p : ℕ) (pattern rest : List ℕ) (n : ℕ) → only_at (p ∷ pattern) n (front ++ (p ∷ pattern) ++ rest) ≡ true → length front ≡ n
stands_at [] p pattern rest zero h = refl
stands_at [] p pattern rest (suc n) h = absurd (not_both _ (begins_so (p ∷ pattern) rest) (both_true _ _ h).0)
stands_at (b ∷ front) p pattern rest zero h = absurd (not_both _ (has_it front p pattern rest) h)
stands_at (b ∷ front) p pattern rest (suc n) h = ap suc (stands_at front p pattern rest n (both_true _ _ h).1)

take_front : {A : Type 0} (front rest : List A) → take (length front) (front ++ rest) ≡ front
take_front [] rest = refl
take_front {A} (b ∷ front) rest = ap (λ (x : List A). b ∷ x) (take_front front rest)

-- ---- which command a message came by

-- a message as it is sent: with the CRLF before it and that behind it
abbrev framed : List ℕ → List ℕ
framed text = 13 ∷ 10 ∷ (text ++ crlf)

abbrev lf : List ℕ
lf = 10 ∷ []

abbrev is_append : Result (List ℕ × Command) ImapFault → Bool
is_append (Ok (tag, commands.Append append)) = true
is_append line = false

-- no end of these bytes is an APPEND, nor are all of them
abbrev appends_none : List ℕ → Bool
appends_none [] = not (is_append (read []))
appends_none (b ∷ bytes) = not (is_append (read (b ∷ bytes))) && appends_none bytes

none_in : (front bytes : List ℕ) → appends_none (front ++ bytes) ≡ true → not (is_append (read bytes)) ≡ true
none_in [] [] h = h
none_in [] (b ∷ bytes) h = (both_true _ _ h).0
none_in (b ∷ front) bytes h = none_in front bytes (both_true _ _ h).1

regrouped : (front bytes c text behind : List ℕ) → front ++ (bytes ++ c) ++ text ++ c ++ behind ≡ (front ++ bytes) ++ (c ++ (text ++ c)) ++ behind
regrouped front bytes c text behind = simp append_assoc refl

-- whatever was sent of a message, its text stands so in it
text_stands : {sent tag : List ℕ} {append : Append} {text : List ℕ} → SendsMessage sent tag append text → has (framed text) sent ≡ true
text_stands {text} s = ap (has (framed text)) (s.whole ∙ regrouped s.front s.bytes crlf text s.behind) ∙ has_it (s.front ++ s.bytes) 13 (10 ∷ (text ++ crlf)) s.behind

cut_at_lf : (front bytes text rest : List ℕ) → front ++ (bytes ++ crlf ++ text ++ rest) ≡ (front ++ bytes ++ 13 ∷ []) ++ (10 ∷ []) ++ (text ++ rest)
cut_at_lf front bytes text rest = simp append_assoc refl

cut_at_response : (front bytes response : List ℕ) → front ++ (bytes ++ crlf ++ response) ≡ (front ++ bytes ++ 13 ∷ []) ++ (10 ∷ []) ++ response
cut_at_response front bytes response = simp append_assoc refl

-- a command in one line was sent as it stands
in_one_line : (front bytes line : List ℕ) → IsSpelled bytes line → has lf (front ++ bytes) ≡ false → line ≡ bytes
in_one_line front bytes line (as_it_stands same) none = refl
in_one_line front bytes line (with_literal before named found text rest spelled announces size) none =
    absurd (true≢false (sym (ap (has lf) (cut_at_lf front before text rest) ∙ has_it (front ++ before ++ 13 ∷ []) 10 [] (text ++ rest)) ∙ none))
in_one_line front bytes line (with_response before named tag a response spelled reads) none =
    absurd (true≢false (sym (ap (has lf) (cut_at_response front before response) ∙ has_it (front ++ before ++ 13 ∷ []) 10 [] response) ∙ none))

-- What stands before the text is a line, and no end of it but all of it is an APPEND: that is the command.
pub came_by : (all tag text : List ℕ) (append : Append) (n : ℕ) → SendsMessage all tag append text → only_at (framed text) n all ≡ true → has lf (take n all) ≡ false
    → appends_none (drop 1 (take n all)) ≡ true → read (take n all) ≡ Ok (tag, commands.Append append)
came_by all tag text append n s only one_line none = by s.front s.bytes s.line s.spelled s.reads line_is
  where
    whole : all ≡ (s.front ++ s.bytes) ++ framed text ++ s.behind
    whole = s.whole ∙ regrouped s.front s.bytes crlf text s.behind

    place : length (s.front ++ s.bytes) ≡ n
    place = stands_at (s.front ++ s.bytes) 13 (10 ∷ (text ++ crlf)) s.behind n (subst (λ (x : List ℕ). only_at (framed text) n x ≡ true) whole only)

    line_is : take n all ≡ s.front ++ s.bytes
    line_is =
        ap (take n) whole ∙ sym (ap (λ (m : ℕ). take m ((s.front ++ s.bytes) ++ framed text ++ s.behind)) place) ∙ ap (take (length (s.front ++ s.bytes))) (append_assoc (s.front ++ s.bytes) (framed text) s.behind)
        ∙ take_front (s.front ++ s.bytes) (framed text ++ s.behind)

    by : (front bytes line : List ℕ) → IsSpelled bytes line → read line ≡ Ok (tag, commands.Append append) → take n all ≡ front ++ bytes → read (take n all) ≡ Ok (tag, commands.Append append)
    by [] bytes line spelled reads is = ap read (is ∙ sym (in_one_line [] bytes line spelled (sym (ap (has lf) is) ∙ one_line))) ∙ reads
    by (b ∷ front) bytes line spelled reads is =
        let same = in_one_line (b ∷ front) bytes line spelled (sym (ap (has lf) is) ∙ one_line) in
        absurd (not_both (is_append (read bytes)) (ap (λ (x : List ℕ). is_append (read x)) (sym same) ∙ ap is_append reads) (none_in front bytes (sym (ap (λ (x : List ℕ). appends_none (drop 1 x)) is) ∙ none)))

-- ---- which copy it is

not_first : (x y : Job × ℕ) (xs : List (Job × ℕ)) → Contains (x ∷ xs) y → (x ≡ y → ⊥) → Contains xs y
not_first x y xs (zero, l, e) other = absurd (other e)
not_first x y xs (suc k, l, e) other = (k, omega (arith, l), e)

the_one : (x y : Job × ℕ) → Contains (x ∷ []) y → x ≡ y
the_one x y (zero, l, e) = e
the_one x y (suc k, l, e) = absurd (omega (arith, l))

-- it stands in the INBOX or in the folder, where nothing stands in Bob's
in_either : (inbox folder : List (Job × ℕ)) (m : ℕ) (x : Job × ℕ) → Contains (by_number (box inbox) (box folder) (box []) m).accepted x
    → ((m ≡ 0) × Contains inbox x) ⊎ ((m ≡ 1) × Contains folder x)
in_either inbox folder zero x there = inl (refl, there)
in_either inbox folder (suc zero) x there = inr (refl, there)
in_either inbox folder (suc (suc m)) x (k, l, e) = absurd (omega (arith, l))

in_it : (inbox : List (Job × ℕ)) (m : ℕ) (x : Job × ℕ) → Contains (by_number (box inbox) (box []) (box []) m).accepted x → (m ≡ 0) × Contains inbox x
in_it inbox zero x there = (refl, there)
in_it inbox (suc zero) x (k, l, e) = absurd (omega (arith, l))
in_it inbox (suc (suc m)) x (k, l, e) = absurd (omega (arith, l))

-- neither of the messages that came by mail
own_copy : (rest : List (Job × ℕ)) (copy : Job) (uid : ℕ) → copy.key.seat ≡ 2 → Contains ((hi, 7) ∷ (yo, 8) ∷ rest) (copy, uid) → Contains rest (copy, uid)
own_copy rest copy uid own there =
    not_first (yo, 8) (copy, uid) rest (not_first (hi, 7) (copy, uid) ((yo, 8) ∷ rest) there (λ e. apart 0 (ap (λ (x : Job × ℕ). x.0.key.seat) e) (omega arith)))
    (λ e. apart 1 (ap (λ (x : Job × ℕ). x.0.key.seat) e) (omega arith))
  where
    apart : (seat : ℕ) → seat ≡ copy.key.seat → seat < 2 → ⊥
    apart seat e l = omega (arith, e, l, own)

-- Where this copy stands third, it is what is told of, whatever was sent and told.
module _ {job : Job} {seen : Seen} {serial : ℕ} {tag words : List ℕ} (t : TellsOfMessage home 0 (in_inbox (third job)) seen serial tag words) where
  it_is : ◌≡◌ {A = Job × ℕ} (job, 9) (t.copy, t.uid)
  it_is = the_one _ _ (own_copy ((job, 9) ∷ []) t.copy t.uid t.own.0 (in_it (third job) t.copy.mailbox (t.copy, t.uid) t.stands).1)

  copy_is : job ≡ t.copy
  copy_is = ap (λ (x : Job × ℕ). x.0) it_is

  words_are : words ≡ appended_words 1 9
  words_are = t.told ∙ sym (ap (λ (x : Job × ℕ). appended_words 1 x.1) it_is)

  sends_it : SendsMessage seen.sent tag t.append job.text.bytes
  sends_it = subst (λ (x : Job). SendsMessage seen.sent tag t.append x.text.bytes) (sym copy_is) t.sends

  date_is : job.text.date ≡ t.append.date
  date_is = ap (λ (x : Job). x.text.date) copy_is ∙ t.as_sent.0

  flags_are : job.flags ≡ t.append.flags
  flags_are = ap (λ (x : Job). x.flags) copy_is ∙ t.as_sent.1

  seat_is : job.key.seat ≡ 2
  seat_is = ap (λ (x : Job). x.key.seat) copy_is ∙ t.own.0

  serial_is : job.key.serial ≡ serial
  serial_is = ap (λ (x : Job). x.key.serial) copy_is ∙ t.own.1

-- ---- what is told of UIDs

abbrev first_of : List ℕ → ℕ
first_of [] = 0
first_of (b ∷ bytes) = b

same_front : (xs ys zs : List ℕ) → xs ++ zs ≡ ys ++ zs → xs ≡ ys
same_front [] [] zs e = refl
same_front [] (y ∷ ys) zs e = absurd (let size : length zs ≡ suc (length ys) + length zs = ap length e ∙ length-append (y ∷ ys) zs in omega (arith, size))
same_front (x ∷ xs) [] zs e = absurd (let size : suc (length xs) + length zs ≡ length zs = sym (length-append (x ∷ xs) zs) ∙ ap length e in omega (arith, size))
same_front (x ∷ xs) (y ∷ ys) zs e = ap₂ (λ (b : ℕ) (l : List ℕ). b ∷ l) (ap first_of e) (same_front xs ys zs (ap (drop 1) e))

module _ (seen : Seen) (serial : ℕ) (tag : List ℕ) where
  -- It stands under 9, and another UID is told, whichever.
  another_uid : (n : ℕ) → n < 2 ^ 64 → n ≢ 9 → TellsOfMessage home 0 (in_inbox (third mine)) seen serial tag (appended_words 1 n) → ⊥
  unfolding digits
  another_uid n small other t = other (decimal_injective n 9 small (omega arith) (same_front (decimal n) (decimal 9) (codes "] APPEND completed") (ap (drop 16) (words_are t))))

  -- The UIDVALIDITY of the mailbox is 1, and another is told.
  another_uidvalidity : (n : ℕ) → n < 2 ^ 64 → n ≢ 1 → TellsOfMessage home 0 (in_inbox (third mine)) seen serial tag (appended_words n 9) → ⊥
  unfolding digits
  another_uidvalidity n small other t =
      other (decimal_injective n 1 small (omega arith) (same_front (decimal n) (decimal 1) (codes " 9] APPEND completed") (regroup (decimal n) ∙ ap (drop 14) (words_are t))))
    where
      regroup : (x : List ℕ) → x ++ codes " 9] APPEND completed" ≡ x ++ codes " " ++ codes "9" ++ codes "] APPEND completed"
      regroup x = simp append_assoc refl

  -- It stands under 9, and that of the same text is told, which came by mail.
  anothers_uid : TellsOfMessage home 0 (in_inbox (third mine)) seen serial tag (appended_words 1 7) → ⊥
  anothers_uid t = another_uid 7 (omega arith) (λ e. omega (arith, e)) t

  -- No copy stands in any mailbox: the message is lost.
  is_lost : (words : List ℕ) → TellsOfMessage home 0 (in_inbox ((hi, 7) ∷ (yo, 8) ∷ [])) seen serial tag words → ⊥
  is_lost words t = by (own_copy [] t.copy t.uid t.own.0 (in_it ((hi, 7) ∷ (yo, 8) ∷ []) t.copy.mailbox (t.copy, t.uid) t.stands).1)
    where
      by : Contains {X = Job × ℕ} [] (t.copy, t.uid) → ⊥
      by (k, l, e) = omega (arith, l)

  -- It stands there twice.
  stands_twice : (words : List ℕ) → TellsOfMessage home 0 (in_inbox ((hi, 7) ∷ (yo, 8) ∷ (mine, 9) ∷ (mine, 10) ∷ [])) seen serial tag words → ⊥
  stands_twice words t =
      let there = in_it all t.copy.mailbox (t.copy, t.uid) t.stands in
      let it : mine ≡ t.copy = by (own_copy ((mine, 9) ∷ (mine, 10) ∷ []) t.copy t.uid t.own.0 there.1) in
      twice (subst (λ (x : Job). StandsOnce (pairs (by_number (box all) (box []) (box []) x.mailbox).accepted) x.key t.uid) (sym it) t.once)
    where
      all : List (Job × ℕ)
      all = (hi, 7) ∷ (yo, 8) ∷ (mine, 9) ∷ (mine, 10) ∷ []

      by : Contains {X = Job × ℕ} ((mine, 9) ∷ (mine, 10) ∷ []) (t.copy, t.uid) → mine ≡ t.copy
      by (zero, l, e) = ap (λ (x : Job × ℕ). x.0) e
      by (suc zero, l, e) = ap (λ (x : Job × ℕ). x.0) e
      by (suc (suc k), l, e) = absurd (omega (arith, l))

      twice : StandsOnce (pairs ((hi, 7) ∷ (yo, 8) ∷ (mine, 9) ∷ (mine, 10) ∷ [])) mine.key t.uid → ⊥
      twice o = let one = o.alone 2 (mine.key, 9) (omega arith) refl in let other = o.alone 3 (mine.key, 9) (omega arith) refl in omega (arith, one, other)

  -- It stands as a copy of the other session's seat.
  of_another_seat : (words : List ℕ) → TellsOfMessage home 0 (in_inbox (third (record mine { key = record mine.key { seat = 3 } }))) seen serial tag words → ⊥
  of_another_seat words t = let seat : 3 ≡ 2 = seat_is t in omega (arith, seat)

  -- It stands as a copy of the client that was at this place before.
  of_earlier_client : (words : List ℕ) → TellsOfMessage home 0 (in_inbox (third mine)) seen 1 tag words → ⊥
  of_earlier_client words t = let number : 0 ≡ 1 = serial_is t in omega (arith, number)

  -- Two answers tell of messages, and one copy stands: a message is lost.
  of_one_by_two : (other words other_words : List ℕ) (first : TellsOfMessage home 0 (in_inbox (third mine)) seen serial tag words)
      (second : TellsOfMessage home 0 (in_inbox (third mine)) seen serial other other_words) → Below first.copy.key second.copy.key → ⊥
  of_one_by_two other words other_words first second turn =
      by (subst (λ (x : Job). Below mine.key x.key) (sym (copy_is second)) (subst (λ (x : Job). Below x.key second.copy.key) (sym (copy_is first)) turn))
    where
      by : Below mine.key mine.key → ⊥
      by (inl l) = omega (arith, l)
      by (inr (e, inl l)) = omega (arith, l)
      by (inr (e, inr (f, l))) = omega (arith, l)

-- ---- what was sent

abbrev job_with : List ℕ → Job
job_with text = record mine { text = undated text }

module _ (w : World) (serial : ℕ) (tag words : List ℕ) where
  -- It sent nothing at all.
  sent_nothing : TellsOfMessage home 0 w (sent_by_alice []) serial tag words → ⊥
  sent_nothing t = true≢false (sym (text_stands t.sends))

module _ (serial : ℕ) (tag words : List ℕ) where
  -- Another text stands there, as long as the one that was sent.
  another_text : TellsOfMessage home 0 (in_inbox (third (job_with (codes "yo\r\n")))) (sent_by_alice sent) serial tag words → ⊥
  another_text t = true≢false (sym (text_stands (sends_it t)))

  -- The text is without its last byte.
  last_byte_lost : TellsOfMessage home 0 (in_inbox (third (job_with (codes "hi\r")))) (sent_by_alice sent) serial tag words → ⊥
  last_byte_lost t = true≢false (sym (text_stands (sends_it t)))

  -- It is without its first byte.
  first_byte_lost : TellsOfMessage home 0 (in_inbox (third (job_with (codes "i\r\n")))) (sent_by_alice sent) serial tag words → ⊥
  first_byte_lost t = true≢false (sym (text_stands (sends_it t)))

  -- The text has a byte more.
  byte_more : TellsOfMessage home 0 (in_inbox (third (job_with (codes "hi\r\n\r")))) (sent_by_alice sent) serial tag words → ⊥
  byte_more t = true≢false (sym (text_stands (sends_it t)))

  -- The text came, and the CRLF that ends the command didn't.
  not_ended : TellsOfMessage home 0 (in_inbox (third mine)) (sent_by_alice (codes "a APPEND INBOX (\\Flagged) {4}\r\nhi\r\n")) serial tag words → ⊥
  not_ended t = true≢false (sym (text_stands (sends_it t)))

abbrev tag_in : Result (List ℕ × Command) ImapFault → List ℕ
tag_in (Ok (tag, command)) = tag
tag_in line = []

abbrev none_appended : Append
none_appended = record { name = []; flags = no_flags; date = None; literal = record { size = 0; waits = true } }

abbrev append_in : Result (List ℕ × Command) ImapFault → Append
append_in (Ok (tag, commands.Append append)) = append
append_in line = none_appended

-- so many flags
abbrev count_of : Flags → ℕ
count_of flags = length (flag_words flags)

-- the letter behind the backslash of the first one
abbrev letter_of : Flags → ℕ
letter_of flags = letter (flag_words flags)
  where
    letter : List (List ℕ) → ℕ
    letter ((a ∷ b ∷ name) ∷ names) = b
    letter names = 0

abbrev year_in : Option Stamp → ℕ
year_in None = 0
year_in (Some stamp) = stamp.year

abbrev number_in : Option ℕ → ℕ
number_in None = 9
number_in (Some n) = n

-- `hi` was sent by that line alone
line_of_hi : (tag : List ℕ) (append : Append) → SendsMessage sent tag append (codes "hi\r\n") → read (take 29 sent) ≡ Ok (tag, commands.Append append)
unfolding read digits
line_of_hi tag append s = came_by sent tag (codes "hi\r\n") append 29 s refl refl refl

tag_of_hi : (tag : List ℕ) (append : Append) → SendsMessage sent tag append (codes "hi\r\n") → codes "a" ≡ tag
unfolding read digits
tag_of_hi tag append s = ap tag_in (line_of_hi tag append s)

append_of_hi : (tag : List ℕ) (append : Append) → SendsMessage sent tag append (codes "hi\r\n") → plain ≡ append
unfolding read digits
append_of_hi tag append s = ap append_in (line_of_hi tag append s)

module _ (serial : ℕ) (tag words : List ℕ) where
  -- It stands there without its flag.
  without_flag : TellsOfMessage home 0 (in_inbox (third (record mine { flags = no_flags }))) (sent_by_alice sent) serial tag words → ⊥
  without_flag t = let count : 0 ≡ 1 = ap count_of (flags_are t ∙ sym (ap (λ (x : Append). x.flags) (append_of_hi tag t.append (sends_it t)))) in omega (arith, count)

  -- It has a flag more, that wasn't sent.
  with_more_flags : TellsOfMessage home 0 (in_inbox (third (record mine { flags = record flagged { seen = true } }))) (sent_by_alice sent) serial tag words → ⊥
  with_more_flags t = let count : 2 ≡ 1 = ap count_of (flags_are t ∙ sym (ap (λ (x : Append). x.flags) (append_of_hi tag t.append (sends_it t)))) in omega (arith, count)

  -- It has another flag than the one that was sent.
  with_another_flag : TellsOfMessage home 0 (in_inbox (third (record mine { flags = record no_flags { seen = true } }))) (sent_by_alice sent) serial tag words → ⊥
  with_another_flag t = let letter : 83 ≡ 70 = ap letter_of (flags_are t ∙ sym (ap (λ (x : Append). x.flags) (append_of_hi tag t.append (sends_it t)))) in omega (arith, letter)

  -- It has a date, and none was sent.
  with_made_up_date : TellsOfMessage home 0 (in_inbox (third (record mine { text = record { bytes = codes "hi\r\n"; date = Some in_summer } }))) (sent_by_alice sent) serial tag words → ⊥
  with_made_up_date t = let year : 1996 ≡ 0 = ap year_in (date_is t ∙ sym (ap (λ (x : Append). x.date) (append_of_hi tag t.append (sends_it t)))) in omega (arith, year)

-- so with its date
line_of_dated : (tag : List ℕ) (append : Append) → SendsMessage sent_dated tag append (codes "hi\r\n") → Some in_summer ≡ append.date
unfolding read internal_date digits
line_of_dated tag append s = ap (λ (x : Append). x.date) (ap append_in (came_by sent_dated tag (codes "hi\r\n") append 47 s refl refl refl))

module _ (serial : ℕ) (tag words : List ℕ) where
  -- It sent a date, and the copy has none.
  date_lost : TellsOfMessage home 0 (in_inbox (third (record dated { text = undated (codes "hi\r\n") }))) (sent_by_alice sent_dated) serial tag words → ⊥
  date_lost t = let year : 0 ≡ 1996 = ap year_in (date_is t ∙ sym (line_of_dated tag t.append (sends_it t))) in omega (arith, year)

  -- The copy has the date of another year.
  another_date : TellsOfMessage home 0 (in_inbox (third (record dated { text = record { bytes = codes "hi\r\n"; date = Some (record in_summer { year = 2026 }) } }))) (sent_by_alice sent_dated) serial tag words → ⊥
  another_date t = let year : 2026 ≡ 1996 = ap year_in (date_is t ∙ sym (line_of_dated tag t.append (sends_it t))) in omega (arith, year)

-- ---- in which mailbox

named_so : (tag : List ℕ) (append : Append) (user : List ℕ) → SendsMessage sent tag append (codes "hi\r\n")
    → number_named (codes "INBOX") (folders_of home.directory user) ≡ number_named append.name (folders_of home.directory user)
named_so tag append user s = ap (λ (x : Append). number_named x.name (folders_of home.directory user)) (append_of_hi tag append s)

module _ (serial : ℕ) (tag words : List ℕ) where
  -- It named its INBOX, and the message stands in its folder.
  in_another_mailbox : TellsOfMessage home 0 (record empty_world { box = by_number (box ((hi, 7) ∷ (yo, 8) ∷ [])) (box ((at_work, 9) ∷ [])) (box []) }) (sent_by_alice sent) serial tag words → ⊥
  in_another_mailbox t = elim (in_either ((hi, 7) ∷ (yo, 8) ∷ []) ((at_work, 9) ∷ []) t.copy.mailbox (t.copy, t.uid) t.stands) [
    | inl there ↦ none (own_copy [] t.copy t.uid t.own.0 there.1)
    | inr there ↦ folder there.0 (the_one (at_work, 9) (t.copy, t.uid) there.1)
  ]
    where
      none : Contains {X = Job × ℕ} [] (t.copy, t.uid) → ⊥
      none (k, l, e) = omega (arith, l)

      folder : t.copy.mailbox ≡ 1 → ◌≡◌ {A = Job × ℕ} (at_work, 9) (t.copy, t.uid) → ⊥
      folder one e =
          let text : t.copy.text.bytes ≡ codes "hi\r\n" = sym (ap (λ (x : Job × ℕ). x.0.text.bytes) e) in
          let number : 0 ≡ t.copy.mailbox = ap number_in (named_so tag t.append (codes "alice") (subst (SendsMessage sent tag t.append) text t.sends) ∙ t.named) in
          omega (arith, number, one)

  -- Bob's client named its INBOX, and the message stands in Alice's.
  in_anothers_mailbox : TellsOfMessage home 0 (in_inbox (third mine)) (record (sent_by_alice sent) { user = codes "bob" }) serial tag words → ⊥
  in_anothers_mailbox t =
      let place : 0 ≡ t.copy.mailbox = ap (λ (x : Job). x.mailbox) (copy_is t) in
      let number : 2 ≡ t.copy.mailbox = ap number_in (named_so tag t.append (codes "bob") (sends_it t) ∙ t.named) in
      omega (arith, place, number)

-- ---- under which tag, and by which line

abbrev sent_noop : List ℕ
sent_noop = codes "a NOOP\r\nhi\r\n\r\n"

line_of_noop : (tag : List ℕ) (append : Append) → SendsMessage sent_noop tag append (codes "hi\r\n") → false ≡ true
unfolding read digits
line_of_noop tag append s = ap is_append (came_by sent_noop tag (codes "hi\r\n") append 6 s refl refl refl)

-- two messages
abbrev sent_both : List ℕ
sent_both = codes "a APPEND INBOX (\\Flagged) {4}\r\nhi\r\n\r\nb APPEND INBOX (\\Flagged) {4}\r\nbye\n\r\n"

tag_of_first : (tag : List ℕ) (append : Append) → SendsMessage sent_both tag append (codes "hi\r\n") → codes "a" ≡ tag
unfolding read digits
tag_of_first tag append s = ap tag_in (came_by sent_both tag (codes "hi\r\n") append 29 s refl refl refl)

tag_before_noop : (tag : List ℕ) (append : Append) → SendsMessage (sent ++ codes "b NOOP\r\n") tag append (codes "hi\r\n") → codes "a" ≡ tag
unfolding read digits
tag_before_noop tag append s = ap tag_in (came_by (sent ++ codes "b NOOP\r\n") tag (codes "hi\r\n") append 29 s refl refl refl)

size_of_five : (tag : List ℕ) (append : Append) → SendsMessage (codes "a APPEND INBOX (\\Flagged) {5}\r\nhi\r\n\r\n") tag append (codes "hi\r\n") → 5 ≡ append.literal.size
unfolding read digits
size_of_five tag append s =
    ap (λ (x : Append). x.literal.size) (ap append_in (came_by (codes "a APPEND INBOX (\\Flagged) {5}\r\nhi\r\n\r\n") tag (codes "hi\r\n") append 29 s refl refl refl))

size_of_short : (tag : List ℕ) (append : Append) → SendsMessage sent tag append (codes "hi") → 4 ≡ append.literal.size
unfolding read digits
size_of_short tag append s = ap (λ (x : Append). x.literal.size) (ap append_in (came_by sent tag (codes "hi") append 29 s refl refl refl))

module _ (serial : ℕ) (words : List ℕ) where
  -- The line under that tag was a NOOP.
  of_a_noop : (tag : List ℕ) → TellsOfMessage home 0 (in_inbox (third mine)) (sent_by_alice sent_noop) serial tag words → ⊥
  of_a_noop tag t = true≢false (sym (line_of_noop tag t.append (sends_it t)))

  -- It is told under the tag of the line behind.
  under_another_tag : TellsOfMessage home 0 (in_inbox (third mine)) (sent_by_alice (sent ++ codes "b NOOP\r\n")) serial (codes "b") words → ⊥
  under_another_tag t = let byte : 97 ≡ 98 = ap first_of (tag_before_noop (codes "b") t.append (sends_it t)) in omega (arith, byte)

  -- It is told under a tag that it never sent, whichever.
  under_no_tag_of_its : (tag : List ℕ) → tag ≢ codes "a" → TellsOfMessage home 0 (in_inbox (third mine)) (sent_by_alice sent) serial tag words → ⊥
  under_no_tag_of_its tag other t = other (sym (tag_of_hi tag t.append (sends_it t)))

  -- It sent two messages, and behind the second it is told of the first.
  of_the_other_message : TellsOfMessage home 0 (in_inbox (third mine)) (sent_by_alice sent_both) serial (codes "b") words → ⊥
  of_the_other_message t = let byte : 97 ≡ 98 = ap first_of (tag_of_first (codes "b") t.append (sends_it t)) in omega (arith, byte)

  -- It announced five bytes, and a message of four stands there.
  of_another_size : (tag : List ℕ) → TellsOfMessage home 0 (in_inbox (third mine)) (sent_by_alice (codes "a APPEND INBOX (\\Flagged) {5}\r\nhi\r\n\r\n")) serial tag words → ⊥
  of_another_size tag t = let size : 4 ≡ 5 = (sends_it t).size ∙ sym (size_of_five tag t.append (sends_it t)) in omega (arith, size)

  -- The text stands there without the CRLF at its end.
  last_line_cut : (tag : List ℕ) → TellsOfMessage home 0 (in_inbox (third (job_with (codes "hi")))) (sent_by_alice sent) serial tag words → ⊥
  last_line_cut tag t = let size : 2 ≡ 4 = (sends_it t).size ∙ sym (size_of_short tag t.append (sends_it t)) in omega (arith, size)

-- ---- what is no OK

-- what an OK is the OK of
abbrev Says : Told → Type 0
Says (Answer line bytes) = (tag : List ℕ) × (read line ≡ Ok (tag, commands.Noop)) × (has_ok true tag bytes ≡ true)
Says (Words bytes) = (tag : List ℕ) × (words : List ℕ) × EndsWith tag (codes "OK " ++ words) bytes

says : (told : Told) → IsOk told → Says told
says told (of_noop line tag bytes reads ok) = (tag, reads, ok)
says told (of_other tag words bytes ends) = (tag, words, ends)

abbrev is_noop : Result (List ℕ × Command) ImapFault → Bool
is_noop (Ok (tag, commands.Noop)) = true
is_noop line = false

-- an answer to this NOOP is an OK only where it has the OK of its tag
noop_has_ok : (bytes : List ℕ) → IsOk (Answer (codes "b NOOP") bytes) → has_ok true (codes "b") bytes ≡ true
unfolding read digits
noop_has_ok bytes ok = let s = says _ ok in ap (λ (tag : List ℕ). has_ok true tag bytes) (ap tag_in s.1) ∙ s.2

-- A NOOP is answered NO.
noop_no : IsOk (Answer (codes "b NOOP") (codes "b NO Out of memory\r\n")) → ⊥
noop_no ok = true≢false (sym (noop_has_ok _ ok))

-- It is answered under another tag.
noop_under_another_tag : IsOk (Answer (codes "b NOOP") (codes "a OK NOOP completed\r\n")) → ⊥
noop_under_another_tag ok = true≢false (sym (noop_has_ok _ ok))

-- It is answered under a tag that ends as its own does.
noop_under_longer_tag : IsOk (Answer (codes "b NOOP") (codes "bb OK NOOP completed\r\n")) → ⊥
noop_under_longer_tag ok = true≢false (sym (noop_has_ok _ ok))

-- Its OK stands within a line.
noop_within_a_line : IsOk (Answer (codes "b NOOP") (codes "* BYE b OK NOOP completed\r\n")) → ⊥
noop_within_a_line ok = true≢false (sym (noop_has_ok _ ok))

-- It isn't answered at all.
noop_unanswered : IsOk (Answer (codes "b NOOP") []) → ⊥
noop_unanswered ok = true≢false (sym (noop_has_ok _ ok))

-- A FETCH by position is answered OK: it tells of no arrivals.
fetch_ok : IsOk (Answer (codes "b FETCH 1 UID") (codes "* 1 FETCH (UID 7)\r\nb OK FETCH completed\r\n")) → ⊥
unfolding read digits
fetch_ok ok = true≢false (sym (ap is_noop (says _ ok).1))

-- behind a tag stands an OK
abbrev after_tag : List ℕ → Bool
after_tag [] = false
after_tag (b ∷ line) = if is_tag b then after_tag line else begins (codes " OK ") (b ∷ line)

tag_and_ok : (tag words : List ℕ) → list_all is_tag tag ≡ true → after_tag (tag ++ 32 ∷ 79 ∷ 75 ∷ 32 ∷ words) ≡ true
tag_and_ok [] words all = refl
tag_and_ok (b ∷ tag) words all =
    let parts = both_true (is_tag b) (list_all is_tag tag) all in
    ap (λ (x : Bool). if x then after_tag (tag ++ 32 ∷ 79 ∷ 75 ∷ 32 ∷ words) else begins (codes " OK ") (b ∷ (tag ++ 32 ∷ 79 ∷ 75 ∷ 32 ∷ words))) parts.0 ∙ tag_and_ok tag words parts.1

-- words are an OK only where the last line begins so
words_have_ok : (bytes : List ℕ) → IsOk (Words bytes) → after_tag (last_line bytes) ≡ true
words_have_ok bytes ok = by (says _ ok)
  where
    by : (tag : List ℕ) × (words : List ℕ) × EndsWith tag (codes "OK " ++ words) bytes → after_tag (last_line bytes) ≡ true
    by (tag, words, ends) =
        ap after_tag (ends.last ∙ append_assoc tag (codes " ") (codes "OK " ++ words)) ∙ tag_and_ok tag words (both_true (list_all is_tag tag) (not (length tag == 0)) ends.chosen).0

-- The last line is of no tag.
untagged : IsOk (Words (codes "* OK Still here\r\n")) → ⊥
untagged ok = true≢false (sym (words_have_ok _ ok))

-- It asks the client to go on.
goes_on : IsOk (Words (codes "+ OK go ahead\r\n")) → ⊥
goes_on ok = true≢false (sym (words_have_ok _ ok))

-- It is a BAD.
is_bad : IsOk (Words (codes "b BAD Expected DONE\r\n")) → ⊥
is_bad ok = true≢false (sym (words_have_ok _ ok))

-- It is a NO, behind news.
is_no : IsOk (Words (codes "* 3 EXISTS\r\na NO [OVERQUOTA] Too many messages\r\n")) → ⊥
is_no ok = true≢false (sym (words_have_ok _ ok))

-- An OK stands before it.
another_behind : IsOk (Words (codes "b OK IDLE completed\r\n* 3 EXISTS\r\n")) → ⊥
another_behind ok = true≢false (sym (words_have_ok _ ok))

-- An OK stands in a text that it tells.
within_a_text : IsOk (Words (codes "* 1 FETCH (BODY[] {12}\r\nb OK done!\r\n)\r\n")) → ⊥
within_a_text ok = true≢false (sym (words_have_ok _ ok))

-- There are no words.
silent : IsOk (Words []) → ⊥
silent ok = true≢false (sym (words_have_ok _ ok))

-- ---- what a session doesn't count

-- what is counted behind one change more
one_more : (log : List Change) (view : List ℕ) (change : Change) → replay view (log ++ change ∷ []) ≡ shown (replay view log) change
one_more [] view change = refl
one_more (c ∷ log) view change = one_more log (shown view c) change

-- where a session was shown all but the last change and counts all, that changed nothing
last_is_idle : (log : List Change) (change : Change) → CountsAll (record { log = log ++ change ∷ []; cursor = length log }) → replay [] log ≡ shown (replay [] log) change
last_is_idle log change all =
    ap (replay []) (sym (take_front log (change ∷ []))) ∙ all ∙ sym (all_there (log ++ change ∷ []) (length (log ++ change ∷ [])) refl)
    ∙ ap (replay []) (take-length (log ++ change ∷ []))
    ∙ one_more log [] change

-- A message came, whatever there was, and its session was shown all but this.
not_the_last : (log : List Change) (uid : ℕ) → CountsAll (record { log = log ++ Add uid ∷ []; cursor = length log }) → ⊥
not_the_last log uid all =
    let size : length (replay [] log) ≡ length (replay [] log) + 1 = ap length (last_is_idle log (Add uid) all) ∙ length-append (replay [] log) (uid ∷ []) in omega (arith, size)

shorter : (uid : ℕ) (view : List ℕ) → Contains view uid → length (without uid view) + 1 ≡ length view
shorter uid [] (k, l, e) = absurd (omega (arith, l))
shorter uid (u ∷ view) (k, l, e) = by (u == uid) refl k l e (shorter uid view)
  where
    by : (same : Bool) → (u == uid) ≡ same → (k : ℕ) → k < length (u ∷ view) → slice_index_or (u ∷ view) k uid ≡ uid → (Contains view uid → length (without uid view) + 1 ≡ length view)
        → length (if same then view else u ∷ without uid view) + 1 ≡ length (u ∷ view)
    by true is k l e rest = omega arith
    by false is zero l e rest = absurd (true≢false (sym (eq-eqb u uid e) ∙ is))
    by false is (suc k) l e rest = let less = rest (k, omega (arith, l), e) in omega (arith, less)

-- One of the messages that it counts is gone, and its session was shown all but this.
still_counted : (log : List Change) (uid : ℕ) → Contains (replay [] log) uid → CountsAll (record { log = log ++ Gone uid ∷ []; cursor = length log }) → ⊥
still_counted log uid there all =
    let less = shorter uid (replay [] log) there in
    let size : length (replay [] log) ≡ length (without uid (replay [] log)) = ap length (last_is_idle log (Gone uid) all) in
    omega (arith, less, size)

-- A message came, and its session wasn't shown that.
not_yet_there : CountsAll (point_of (with_log (Add 7 ∷ Add 8 ∷ []) 1) 0) → ⊥
not_yet_there all = let size : 1 ≡ 2 = ap length all in omega (arith, size)

-- A message is gone, and its session wasn't shown that.
still_there : CountsAll (point_of (with_log (Add 7 ∷ Add 8 ∷ Gone 7 ∷ []) 2) 0) → ⊥
still_there all = let size : 2 ≡ 1 = ap length all in omega (arith, size)

-- One is gone and another came: it counts as many as there are, but not the same.
one_for_another : CountsAll (point_of (with_log (Add 7 ∷ Add 8 ∷ Gone 7 ∷ Add 9 ∷ []) 2) 0) → ⊥
one_for_another all = let uid : 7 ≡ 8 = ap first_of all in omega (arith, uid)

-- It was shown nothing yet.
shown_nothing : CountsAll (point_of (with_log (Add 7 ∷ []) 0) 0) → ⊥
shown_nothing all = let size : 0 ≡ 1 = ap length all in omega (arith, size)
