-- What no life of a session is, by the record of its house: of a client that sent nothing, however it was told what it was told, of one whose answers are cut otherwise, and of one that isn't answered. Above each stands what somebody would have seen.
use Rattle.std.proofs.Common.{◌≡◌, ◌⊎◌, inl, inr, ◌≤◌, ◌+◌, ℕ, List, [], ◌∷◌, ◌++◌, length, refl, Option, Some, None, ap, sym, subst, ◌∙◌, append-nil, append_assoc, length-append, arith}
use Rattle.std.specs.Prelude.{codes, flat_map}
use Rattle.std.specs.Fmt.{digits}
use Rattle.std.proofs.lemmas.Grind.{flat_map-append}
use Rattle.std.proofs.lemmas.Option.{none-some}
use Rattle.line_io.specs.Wire.{crlf}
use Rattle.world.specs.World.{World}
use Rattle.imap_grammar.specs.Reading.{read}
use Rattle.imap_session.specs.Commands.{turn_of}
use Rattle.imap_session.specs.Exchange.{Answer as StoreAnswer, Standing, Turn, nothing_more}
use Rattle.imap_session.specs.Happenings.{Answer, Happening, Heard, IsSentFor, IsTimely, Line, Literal, LongLine, Told, Turned, Words, bytes_in, leads_to, told_of}
use Rattle.imap_session.specs.declared.standing.After.TheVariants as afters
use Rattle.imap_session.specs.declared.standing.Selected.{Selected}
use Rattle.house_peers.specs.Visitor.{SeatedVisitor}
use Rattle.laws_client.specs.HouseClients.{IsToldRight, Lives, Seen, comes, first_standing, others, turns}
use Rattle.laws_client.proofs.AttendedRefuted.{Tells, answer, first_line, joins, noop}
use Rattle.laws_client.proofs.ToldHolds.{hello, house, selected, standing}
use Rattle.laws_client.proofs.ToldRefuted.{first_of}

-- ---- a client that sent nothing

same_turn : (a b : Turn) → ◌≡◌ {A = Option Turn} (Some a) (Some b) → a ≡ b
same_turn a b e = cc

empty_front : (xs ys : List ℕ) → xs ++ ys ≡ [] → (xs ≡ []) × (ys ≡ [])
empty_front [] ys e = (refl, e)
empty_front (x ∷ xs) ys e = absurd cc

-- where nothing was sent for it, a turn says nothing and changes nothing
record SaysNothing (now : Standing) (happening : Happening) (turn : Turn) : Type 0 where
  stands : turn.standing ≡ standing
  silent : bytes_in (told_of now happening turn.bytes) ≡ []

says_nothing : (now : Standing) (happening : Happening) (bytes : List ℕ) (turn : Turn) → IsSentFor happening bytes → bytes ≡ [] → leads_to standing happening ≡ Some turn → SaysNothing now happening turn
says_nothing now (Line line answers) bytes turn sends none e = absurd (let size : length line + 2 ≡ 0 = sym (length-append line crlf) ∙ ap length (sym sends ∙ none) in omega (arith, size))
says_nothing now LongLine bytes turn (line, long, uncut, is) none e = absurd (let size : length line + 2 ≡ 0 = sym (length-append line crlf) ∙ ap length (sym is ∙ none) in omega (arith, size))
says_nothing now (Turned []) bytes turn sends none e = subst (SaysNothing now (Turned [])) (same_turn (nothing_more afters.Idle standing) turn e) (record { stands = refl; silent = refl })
says_nothing now (Turned (one ∷ more)) bytes turn sends none e = absurd cc
says_nothing now (Literal kept literal) bytes turn sends none e = subst (SaysNothing now (Literal kept literal)) (same_turn (nothing_more afters.Go standing) turn e) (record { stands = refl; silent = refl })
says_nothing now (Heard verdict answers) bytes turn sends none e = absurd (none-some turn e)

silently : {began w : World} {sent : List ℕ} {told : List Told} {now : Standing} → Lives house.config 0 standing began sent told now w → sent ≡ [] → (now ≡ standing) × (flat_map bytes_in told ≡ [])
silently comes none = (refl, refl)
silently (others lives event v own step) none = silently lives none
silently (turns {sent = before} {told = earlier} {now = now} lives happening bytes turn v timely sends printed leads met) none =
    let parts = empty_front before bytes none in
    let so_far = silently lives parts.0 in
    let one = says_nothing now happening bytes turn sends parts.1 (subst (λ (n : Standing). leads_to n happening ≡ Some turn) so_far.0 leads) in
    let last : Told = told_of now happening turn.bytes in
    (one.stands, flat_map-append bytes_in earlier (last ∷ []) ∙ ap (λ (x : List ℕ). x ++ flat_map bytes_in (last ∷ [])) so_far.1 ∙ append-nil (bytes_in last) ∙ one.silent)

abbrev count_in : Option Selected → ℕ
count_in None = 0
count_in (Some here) = 1

-- It is Alice's session, and its client sent nothing.
module _ (v : SeatedVisitor) (w : World) (s : Seen) (t : IsToldRight house 0 v w s) (alices : s.user ≡ codes "alice") (none : s.sent ≡ []) where
  life : Lives house.config 0 standing s.began t.answered t.told v.session.standing w
  life = subst (λ (user : List ℕ). Lives house.config 0 (first_standing house user) s.began t.answered t.told v.session.standing w) alices t.lives

  unanswered : t.answered ≡ []
  unanswered = (empty_front t.answered v.session.waits (sym t.sent ∙ none)).0

  told_hello : s.shown ++ v.session.unsaid ≡ hello
  told_hello = t.shown ∙ ap (λ (x : List ℕ). hello ++ x) (silently life unanswered).1 ∙ append-nil hello

  -- It is told of messages, and didn't ask.
  told_unasked : s.shown ++ v.session.unsaid ≡ hello ++ codes "* 5 EXISTS\r\n" → ⊥
  told_unasked more = let size : 46 ≡ 34 = ap length (sym more ∙ told_hello) in omega (arith, size)

  -- It is greeted twice.
  greeted_twice : s.shown ++ v.session.unsaid ≡ hello ++ hello → ⊥
  greeted_twice more = let size : 68 ≡ 34 = ap length (sym more ∙ told_hello) in omega (arith, size)

  -- It has the answer to another's line.
  told_anothers : s.shown ++ v.session.unsaid ≡ hello ++ codes "a OK NOOP completed\r\n" → ⊥
  told_anothers more = let size : 55 ≡ 34 = ap length (sym more ∙ told_hello) in omega (arith, size)

  -- Bytes wait to be answered that it never sent.
  waits_unsent : v.session.waits ≡ codes "a NOOP\r\n" → ⊥
  waits_unsent waits = let size : 8 ≡ 0 = ap length (sym waits ∙ (empty_front t.answered v.session.waits (sym t.sent ∙ none)).1) in omega (arith, size)

  -- Its session has selected a mailbox.
  in_a_mailbox : v.session.standing ≡ selected → ⊥
  in_a_mailbox there = let where_it_is : 1 ≡ 0 = ap (λ (n : Standing). count_in n.selected) (sym there ∙ (silently life unanswered).0) in omega (arith, where_it_is)

-- ---- answers that are cut otherwise

-- the turn that told it the first thing
pub record FirstTurn (one : Told) : Type 0 where
  happening : Happening
  turn : Turn
  goes : leads_to standing happening ≡ Some turn
  tells : told_of standing happening turn.bytes ≡ one

none_told : {began w : World} {sent : List ℕ} {told : List Told} {now : Standing} → Lives house.config 0 standing began sent told now w → told ≡ [] → now ≡ standing
none_told comes none = refl
none_told (others lives event v own step) none = none_told lives none
none_told (turns {told = earlier} {now = now} lives happening bytes turn v timely sends printed leads met) none =
    absurd (let size : length earlier + 1 ≡ 0 = sym (length-append earlier (told_of now happening turn.bytes ∷ [])) ∙ ap length none in omega (arith, size))

-- the last one is the first, or another was told first
first_or_later : (earlier : List Told) (last one : Told) (more : List Told) → earlier ++ last ∷ [] ≡ one ∷ more
    → ((earlier ≡ []) × (last ≡ one)) ⊎ ((rest : List Told) × (earlier ≡ one ∷ rest))
first_or_later [] last one more e = inl (refl, cc)
first_or_later (x ∷ earlier) last one more e = let same : x ≡ one = cc in inr (earlier, ap (λ (y : Told). y ∷ earlier) same)

first_turn : {began w : World} {sent : List ℕ} {told : List Told} {now : Standing} (one : Told) (more : List Told) → Lives house.config 0 standing began sent told now w → told ≡ one ∷ more → FirstTurn one
first_turn one more comes is = absurd cc
first_turn one more (others lives event v own step) is = first_turn one more lives is
first_turn one more (turns {told = earlier} {now = now} lives happening bytes turn v timely sends printed leads met) is =
    elim (first_or_later earlier (told_of now happening turn.bytes) one more is) [
      | inl whole ↦ (let at = none_told lives whole.0 in record {
        happening = happening;
        turn = turn;
        goes = subst (λ (n : Standing). leads_to n happening ≡ Some turn) at leads;
        tells = subst (λ (n : Standing). told_of n happening turn.bytes ≡ one) at whole.1;
      })
      | inr before ↦ first_turn one before.0 lives before.1
    ]

abbrev line_in : Told → List ℕ
line_in (Answer line bytes) = line
line_in (Words bytes) = []

abbrev bytes_of : Option Turn → List ℕ
bytes_of None = []
bytes_of (Some turn) = turn.bytes

noop_turn : (answers : List StoreAnswer) (turn : Turn) → turn_of standing (codes "a NOOP") answers ≡ Some turn → (turn.standing ≡ standing) × (turn.bytes ≡ answer)
unfolding read digits
noop_turn [] turn e =
    subst (λ (t : Turn). (t.standing ≡ standing) × (t.bytes ≡ answer)) (same_turn (record { events = []; bytes = answer; after = afters.Go; standing = standing }) turn e) (refl, refl)
noop_turn (one ∷ more) turn e = absurd cc

-- what is told of the line that came first is its answer
first_answer : (bytes : List ℕ) → FirstTurn (Answer (codes "a NOOP") bytes) → bytes ≡ codes "a OK NOOP completed\r\n"
first_answer bytes t = by t.happening t.goes t.tells
  where
    by : (happening : Happening) → leads_to standing happening ≡ Some t.turn → told_of standing happening t.turn.bytes ≡ Answer (codes "a NOOP") bytes → bytes ≡ codes "a OK NOOP completed\r\n"
    by (Line line answers) goes tells = sym (ap bytes_in tells) ∙ (noop_turn answers t.turn (subst (λ (l : List ℕ). turn_of standing l answers ≡ Some t.turn) (ap line_in tells) goes)).1
    by LongLine goes tells = absurd cc
    by (Turned answers) goes tells = absurd cc
    by (Literal kept literal) goes tells = absurd cc
    by (Heard verdict answers) goes tells = absurd cc

-- and words that no line asked for are none, or that a line was too long
pub first_words : (bytes : List ℕ) → FirstTurn (Words bytes) → (first_of bytes ≡ 0) ⊎ (first_of bytes ≡ 42)
first_words bytes t = by t.happening t.goes t.tells
  where
    said : (happening : Happening) → told_of standing happening t.turn.bytes ≡ Words bytes → Words t.turn.bytes ≡ told_of standing happening t.turn.bytes → bytes ≡ t.turn.bytes
    said happening tells plain = sym (ap bytes_in (plain ∙ tells))

    by : (happening : Happening) → leads_to standing happening ≡ Some t.turn → told_of standing happening t.turn.bytes ≡ Words bytes → (first_of bytes ≡ 0) ⊎ (first_of bytes ≡ 42)
    by (Line line answers) goes tells = absurd cc
    by LongLine goes tells = inr (ap first_of (sym (ap bytes_in tells) ∙ sym (ap bytes_of goes)))
    by (Turned []) goes tells = inl (ap first_of (sym (ap bytes_in tells) ∙ sym (ap bytes_of goes)))
    by (Turned (one ∷ more)) goes tells = absurd cc
    by (Literal kept literal) goes tells = inl (ap first_of (sym (ap bytes_in tells) ∙ sym (ap bytes_of goes)))
    by (Heard verdict answers) goes tells = absurd (none-some t.turn goes)

-- ---- a line that isn't answered

-- of a turn for which no more was sent than NOOP
one_line : (happening : Happening) (bytes : List ℕ) (turn : Turn) → IsTimely standing happening → IsSentFor happening bytes
    → ((line : List ℕ) → bytes ≡ line ++ crlf → line ≡ codes "a NOOP") → leads_to standing happening ≡ Some turn
    → (turn.standing ≡ standing) × Tells bytes (bytes_in (told_of standing happening turn.bytes))
one_line (Line line answers) bytes turn timely sends only e =
    let is = only line sends in
    let n = noop_turn answers turn (subst (λ (l : List ℕ). turn_of standing l answers ≡ Some turn) is e) in
    (n.0, inr (sends ∙ ap (λ (l : List ℕ). l ++ crlf) is, n.1))
one_line LongLine bytes turn timely (line, long, uncut, is) only e = absurd (let size : length line ≡ 6 = ap length (only line is) in omega (arith, size, long))
one_line (Turned answers) bytes turn timely sends only e = let n = says_nothing standing (Turned answers) bytes turn sends sends e in (n.stands, inl (sends, n.silent))
one_line (Literal kept literal) bytes turn timely sends only e = absurd (let some = timely.1 in let due : length literal ≤ 0 = timely.2 in omega (arith, some, due))
one_line (Heard verdict answers) bytes turn timely sends only e = absurd (none-some turn e)

-- of the first bytes of NOOP none were answered, and nothing is told, or all were, and the answer is
noop_so : {began w : World} {sent : List ℕ} {told : List Told} {now : Standing} (rest : List ℕ) → Lives house.config 0 standing began sent told now w → sent ++ rest ≡ noop
    → (now ≡ standing) × Tells sent (flat_map bytes_in told)
noop_so rest comes e = (refl, inl (refl, refl))
noop_so rest (others lives event v own step) e = noop_so rest lives e
noop_so rest (turns {sent = before} {told = earlier} {now = now} lives happening bytes turn v timely sends printed leads met) e =
    let so_far = noop_so (bytes ++ rest) lives (sym (append_assoc before bytes rest) ∙ e) in
    let timely_there = subst (λ (n : Standing). IsTimely n happening) so_far.0 timely in
    let leads_there = subst (λ (n : Standing). leads_to n happening ≡ Some turn) so_far.0 leads in
    let one = one_line happening bytes turn timely_there sends (λ line is. first_line before bytes rest (flat_map bytes_in earlier) line e so_far.1 is) leads_there in
    let last : Told = told_of now happening turn.bytes in
    let tells = subst (λ (n : Standing). Tells bytes (bytes_in (told_of n happening turn.bytes))) (sym so_far.0) one.1 in
    let all = flat_map-append bytes_in earlier (last ∷ []) ∙ ap (λ (l : List ℕ). flat_map bytes_in earlier ++ l) (append-nil (bytes_in last)) in
    (one.0, subst (Tells (before ++ bytes)) (sym all) (joins before bytes rest (flat_map bytes_in earlier) (bytes_in last) e so_far.1 tells))

-- Of Alice's session, whatever its client sent.
module _ (v : SeatedVisitor) (w : World) (s : Seen) (t : IsToldRight house 0 v w s) (alices : s.user ≡ codes "alice") where
  its_life : Lives house.config 0 standing s.began t.answered t.told v.session.standing w
  its_life = subst (λ (user : List ℕ). Lives house.config 0 (first_standing house user) s.began t.answered t.told v.session.standing w) alices t.lives

  first_told : (one : Told) (more : List Told) → t.told ≡ one ∷ more → FirstTurn one
  first_told one more is = first_turn one more its_life is

  -- Its first line is given the answer to its second.
  given_the_seconds : (more : List Told) → t.told ≡ Answer (codes "a NOOP") (codes "b OK NOOP completed\r\n") ∷ more → ⊥
  given_the_seconds more is = let byte : 98 ≡ 97 = ap first_of (first_answer _ (first_told _ more is)) in omega (arith, byte)

  -- Both answers are given to the first line.
  given_both : (more : List Told) → t.told ≡ Answer (codes "a NOOP") (codes "a OK NOOP completed\r\nb OK NOOP completed\r\n") ∷ more → ⊥
  given_both more is = let size : 42 ≡ 21 = ap length (first_answer _ (first_told _ more is)) in omega (arith, size)

  -- A NOOP in no mailbox is told of messages.
  told_of_messages : (more : List Told) → t.told ≡ Answer (codes "a NOOP") (codes "* 5 EXISTS\r\na OK NOOP completed\r\n") ∷ more → ⊥
  told_of_messages more is = let byte : 42 ≡ 97 = ap first_of (first_answer _ (first_told _ more is)) in omega (arith, byte)

  -- The answer to a line is taken for words that came by themselves.
  as_words : (more : List Told) → t.told ≡ Words (codes "a OK NOOP completed\r\n") ∷ more → ⊥
  as_words more is = elim (first_words _ (first_told _ more is)) [ inl none ↦ (let byte : 97 ≡ 0 = none in omega (arith, byte)) | inr star ↦ (let byte : 97 ≡ 42 = star in omega (arith, byte)) ]

  -- Its line is never answered: it was taken for bytes of a literal, where none is due.
  unheard : s.sent ≡ noop → v.session.waits ≡ [] → s.shown ++ v.session.unsaid ≡ hello → ⊥
  unheard sent none silent = by (noop_so [] its_life all).1
    where
      all : t.answered ++ [] ≡ noop
      all = ap (λ (x : List ℕ). t.answered ++ x) (sym none) ∙ sym t.sent ∙ sent

      by : Tells t.answered (flat_map bytes_in t.told) → ⊥
      by (inl (nothing, told)) = let size : 0 ≡ 8 = ap (λ (x : List ℕ). length (x ++ [])) (sym nothing) ∙ ap length all in omega (arith, size)
      by (inr (line, told)) = let size : 34 ≡ 55 = ap length (sym silent ∙ t.shown ∙ ap (λ (x : List ℕ). hello ++ x) told) in omega (arith, size)
