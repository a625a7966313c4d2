-- How a connection of a server ends: what `ConnectionConcludes` lets pass, and what it refuses. Above each stands what somebody would have seen.
use Rattle.std.proofs.Common.{◌≡◌, ◌⊎◌, inl, inr, ℕ, Bool, true, false, List, [], ◌∷◌, ◌++◌, ◌&&◌, length, map, get_or, reverse, refl, ap, sym, subst, ◌∙◌, append-nil, arith}
use Rattle.std.specs.Prelude.{codes, nat_eq}
use Rattle.std.specs.List.{list_any, starts_with}
use Rattle.std.specs.Cmp.Lexicographic.{pointwise}
use Rattle.std.proofs.lemmas.Bool.{eq-eqb}
use Rattle.std.proofs.lemmas.List.{reverse-append}
use mathlib.Core.List.{IsPrefix}
use Rattle.delivery_token.specs.declared.Refusal.{Refusal}
use Rattle.delivery_token.specs.declared.Verdict.TheVariants.{Stored, Refused as IsRefused}
use Rattle.envelope.specs.Names.{Directory}
use Rattle.envelope.specs.Reading.{read}
use Rattle.house_history.specs.declared.event.Event.{Event}
use Rattle.house_history.specs.declared.event.Event.TheVariants.{Judged as WasToldOf}
use Rattle.house_history.proofs.Follow.{legal_empty}
use Rattle.lane_work.specs.Account.{Premises, setting_at}
use Rattle.lane_work.specs.Talk.{last_words, HasTaken, Judged, goes_on, greeted, submits}
use Rattle.line_io.specs.Wire.{IsCut}
use Rattle.line_io.specs.inner.WireLaws.{cut_none, cut_same, reading_cut}
use Rattle.lmtp_machine.specs.Conversation.{Conversation, Heard, Leads, line, none, opened, starved}
use Rattle.lmtp_machine.specs.Dialogue.{Data, Ended, Event as Spoken, Line, Phase, Ready, Setting, Standing, Start, Transaction, Turn, Waiting, dialogue, fresh, verdict_reply, wire}
use Rattle.lmtp_machine.specs.declared.reply.Reply.{Reply}
use Rattle.lmtp_machine.specs.declared.reply.Reply.TheVariants.{Bye, Greeting, ShuttingDown}
use Rattle.lmtp_machine.proofs.Pieces.{nil_back, nil_front}
use Rattle.serving_workers.specs.Leaving.{AreWritten, all_written, cut_short, never_greeted, with_last_words}
use Rattle.laws_relay.specs.Concludes.{Concludes, key_at, of_history}
use Rattle.laws_relay.specs.Handed.{Handed, handed_over}
use Rattle.laws_relay.specs.Served.{AreReplies, ConnectionConcludes, ServedRelaysConclude, nothing_said, replied as said_to}
use Rattle.laws_relay.specs.rows.HandedRows.{home, three}
use Rattle.laws_relay.specs.rows.AccountRows.{for_alice, known, replied}
use Rattle.lmtp_machine.proofs.Calls.{wire-append}
use Rattle.laws_relay.proofs.ConcludesHolds.{bobs, copy_of, hers, right, told}
use Rattle.laws_relay.proofs.ConcludesRefuted.{in_his, lost, never_sent, of_nobody, of_nothing, other_text, refused_stands, twice}

abbrev pub host : List ℕ
host = codes "mx.example.org"

abbrev pub house : Premises
house = record { directory = home; rooms = []; host = host; max_message = 1000; closings = [] }

-- worker 2's connection 4
abbrev pub setting : Setting
setting = setting_at house 2 4

-- ---- what may be seen

abbrev greets : List ℕ
greets = codes "220 mx.example.org LMTP ready\r\n"

abbrev shuts : List ℕ
shuts = codes "421 4.3.2 Shutting down\r\n"

abbrev quit : List ℕ
quit = codes "QUIT\r\n"

abbrev has_quit : Conversation
has_quit = record { standing = record { phase = Ended; submitted = 0 }; unfinished = [] }

abbrev bye : Turn
bye = record { standing = has_quit.standing; replies = Bye ∷ []; submissions = [] }

quit_leads : Leads setting home opened quit bye has_quit
unfolding read
quit_leads = record {
  lines = codes "QUIT" ∷ [];
  events = Line (codes "QUIT") ∷ [];
  cut = reading_cut quit;
  heard = line (codes "QUIT") none;
  may = (tt, tt);
  turns = refl;
  stands = refl;
  behind = inr (inr refl);
}

has_taken : HasTaken setting home quit (Greeting ∷ Bye ∷ []) [] has_quit
has_taken = goes_on quit bye has_quit greeted quit_leads refl

-- whatever of it was written, its peer may conclude, and nothing stands of it
module _ (law : ServedRelaysConclude) where
  it_concludes : {said : List ℕ} {failed : Bool} → AreWritten host quit (Greeting ∷ Bye ∷ []) Ended said failed → ConnectionConcludes house 2 4 [] quit said failed
  it_concludes written = record {
    taken = quit;
    replies = Greeting ∷ Bye ∷ [];
    phase = Ended;
    read = ([], refl);
    are = said_to [] has_quit has_taken;
    written = written;
    silent = λ unsaid. absurd (let e = ap length unsaid in omega (arith, e));
    concludes = λ front untold e.
        law house 2 4 quit (Greeting ∷ Bye ∷ []) [] has_quit [] refl refl has_taken legal_empty
        (record { stood = λ i d l. absurd (omega (arith, l)); all = λ copy verdict seat serial judged. absurd (let l = judged.1.1 in omega (arith, l)) }) [] front untold e;
  }

  -- It was greeted and said QUIT, and its peer was told goodbye.
  it_has_quit : ConnectionConcludes house 2 4 [] quit (greets ++ codes "221 2.0.0 Bye\r\n") false
  it_has_quit = it_concludes all_written

  -- The output failed within the greeting.
  it_is_cut : ConnectionConcludes house 2 4 [] quit (codes "220 mx") true
  it_is_cut = it_concludes (cut_short (codes ".example.org LMTP ready\r\n221 2.0.0 Bye\r\n", refl))

-- ---- where nothing came

no_lines : (lines : List (List ℕ)) (rest : List ℕ) → IsCut [] lines rest → (lines ≡ []) × (rest ≡ [])
no_lines lines rest h = cut_same [] lines [] rest [] h cut_none

no_events : {lines : List (List ℕ)} {events : List Spoken} → Heard lines events → lines ≡ [] → events ≡ []
no_events none e = refl
no_events (line l heard) e = absurd (let many = ap length e in omega (arith, many))
no_events (starved heard) e = absurd (let many = ap length e in omega (arith, many))

-- no byte leads nowhere
leads_nowhere : (directory : Directory) (c after : Conversation) (taken : List ℕ) (turn : Turn) → c ≡ opened → taken ≡ [] → Leads setting directory c taken turn after
    → (turn.replies ≡ []) × (turn.submissions ≡ []) × (after ≡ opened)
leads_nowhere directory c after taken turn at_first none_taken leads =
    let front : c.unfinished ++ taken ≡ [] = ap (λ (x : Conversation). x.unfinished ++ taken) at_first ∙ none_taken in
    let cut = no_lines leads.lines after.unfinished (subst (λ (x : List ℕ). IsCut x leads.lines after.unfinished) front leads.cut) in
    let silent = no_events leads.heard cut.0 in
    let is : turn ≡ dialogue setting directory fresh [] = leads.turns ∙ ap (λ (es : List Spoken). dialogue setting directory c.standing es) silent
    ∙ ap (λ (x : Conversation). dialogue setting directory x.standing []) at_first in
    let stands : after.standing ≡ fresh = leads.stands ∙ ap (λ (x : Turn). x.standing) is in (
      ap (λ (x : Turn). x.replies) is,
      ap (λ (x : Turn). x.submissions) is,
      same_conversation after stands cut.1,
    )
  where
    same_conversation : (x : Conversation) → x.standing ≡ fresh → x.unfinished ≡ [] → x ≡ opened
    same_conversation x e f =
        ap (λ (y : Standing). let r : Conversation = record { standing = y; unfinished = x.unfinished } in r) e
        ∙ ap (λ (y : List ℕ). let r : Conversation = record { standing = fresh; unfinished = y } in r) f

-- of no byte there is the greeting, and no other reply
untaken : {bytes : List ℕ} {replies : List Reply} {judged : List Judged} {c : Conversation} → HasTaken setting home bytes replies judged c → bytes ≡ []
    → (replies ≡ Greeting ∷ []) × (c ≡ opened)
untaken greeted e = (refl, refl)
untaken (goes_on {bytes} {said} {judged} {c} taken turn after before leads silent) e =
    let b = untaken before (nil_front bytes taken e) in
    let l = leads_nowhere home c after taken turn b.1 (nil_back bytes taken e) leads in
    (ap (λ (x : List Reply). x ++ turn.replies) b.0 ∙ ap (λ (x : List Reply). Greeting ∷ x) l.0, l.2)
untaken (submits {bytes} {said} {judged} {c} taken turn after message verdicts before leads only quiet many) e =
    let b = untaken before (nil_front bytes taken e) in
    let l = leads_nowhere home c after taken turn b.1 (nil_back bytes taken e) leads in
    absurd (let none_then = ap length (sym l.1 ∙ only) in omega (arith, none_then))

to_nothing : {bytes : List ℕ} {replies : List Reply} {phase : Phase} → AreReplies house 2 4 bytes replies phase → bytes ≡ []
    → (phase ≡ Start) × ((replies ≡ []) ⊎ (replies ≡ Greeting ∷ []))
to_nothing nothing_said e = (refl, inl refl)
to_nothing (said_to judged at taken) e = let u = untaken taken e in (ap (λ (x : Conversation). x.standing.phase) u.1, inr u.0)

-- what it may read then: nothing, the greeting, or that and that the server shuts down; and where the output failed, a beginning of both
abbrev may_read : List ℕ → (failed : Bool) → Bool
may_read said false = list_any (λ (x : List ℕ). pointwise nat_eq said x) ([] ∷ greets ∷ (greets ++ shuts) ∷ [])
may_read said true = starts_with nat_eq (greets ++ shuts) said

begins_so : (said rest : List ℕ) → starts_with nat_eq (said ++ rest) said ≡ true
begins_so [] rest = refl
begins_so (b ∷ said) rest = ap (λ (x : Bool). x && starts_with nat_eq (said ++ rest) said) (eq-eqb b b refl) ∙ begins_so said rest

is_front : (said all : List ℕ) → IsPrefix said all → starts_with nat_eq all said ≡ true
is_front said all (rest, e) = ap (λ (x : List ℕ). starts_with nat_eq x said) (sym e) ∙ begins_so said rest

with_words : (replies rs : List Reply) (phase : Phase) → phase ≡ Start → replies ≡ rs → wire host (replies ++ last_words phase) ≡ wire host (rs ++ ShuttingDown ∷ [])
with_words replies rs phase start e =
    ap (λ (p : Phase). wire host (replies ++ last_words p)) start ∙ ap (λ (x : List Reply). wire host (x ++ ShuttingDown ∷ [])) e

reads : {bytes : List ℕ} {replies : List Reply} {phase : Phase} {written : List ℕ} {failed : Bool} → AreWritten host bytes replies phase written failed
    → phase ≡ Start → replies ≡ Greeting ∷ [] → may_read written failed ≡ true
reads all_written start e = ap (λ (rs : List Reply). may_read (wire host rs) false) e
reads with_last_words start e = ap (λ (x : List ℕ). may_read x false) (with_words _ (Greeting ∷ []) _ start e)
reads (cut_short {written} front) start e = is_front written (greets ++ shuts) (subst (IsPrefix written) (with_words _ (Greeting ∷ []) _ start e) front)
reads (never_greeted nothing_taken) start e = refl

-- where nothing was said, nothing was written
reads_nothing : (said : List ℕ) (failed : Bool) → said ≡ [] → failed ≡ false → may_read said failed ≡ true
reads_nothing said failed unsaid whole = subst (λ (b : Bool). may_read said b ≡ true) (sym whole) (ap (λ (x : List ℕ). may_read x false) unsaid)

-- ---- what was written is wrong

-- its peer, which sent nothing, never reads this, whatever stands
abbrev NeverRead : (said : List ℕ) (failed : Bool) → Type 0
NeverRead said failed = (history : List Event) → ConnectionConcludes house 2 4 history [] said failed → ⊥

never : (said : List ℕ) (failed : Bool) → may_read said failed ≡ false → NeverRead said failed
never said failed not_so history c =
    let nothing = to_nothing c.are (nil_front c.taken c.read.0 c.read.1) in
    let so : may_read said failed ≡ true =
    elim nothing.1 [ inl unsaid ↦ reads_nothing said failed (c.silent unsaid).0 (c.silent unsaid).1 | inr e ↦ reads c.written nothing.0 e ] in
    let f : true ≡ false = sym so ∙ not_so in cc

-- It reads a reply to a command that it didn't send.
reply_to_nobody : NeverRead (codes "220 mx.example.org LMTP ready\r\n250 2.0.0 OK\r\n") false
reply_to_nobody = never _ _ refl

-- It is greeted twice.
greeted_twice : NeverRead (codes "220 mx.example.org LMTP ready\r\n220 mx.example.org LMTP ready\r\n") false
greeted_twice = never _ _ refl

-- It is greeted by another host.
another_host : NeverRead (codes "220 mx.other.org LMTP ready\r\n") false
another_host = never _ _ refl

-- Its greeting is cut, and the output is said to have taken all.
never_ended : NeverRead (codes "220 mx") false
never_ended = never _ _ refl

-- A reply stands before the greeting.
reply_first : NeverRead (codes "250 2.0.0 OK\r\n220 mx.example.org LMTP ready\r\n") false
reply_first = never _ _ refl

-- It is told that the server shuts down, and was never greeted.
shuts_unsaid : NeverRead (codes "421 4.3.2 Shutting down\r\n") false
shuts_unsaid = never _ _ refl

-- It is told twice that the server shuts down.
shuts_twice : NeverRead (codes "220 mx.example.org LMTP ready\r\n421 4.3.2 Shutting down\r\n421 4.3.2 Shutting down\r\n") false
shuts_twice = never _ _ refl

-- It is told that its message is delivered, and behind that that the server shuts down.
delivered_unsent : NeverRead (codes "220 mx.example.org LMTP ready\r\n250 2.1.5 Delivered\r\n421 4.3.2 Shutting down\r\n") false
delivered_unsent = never _ _ refl

-- ---- and where the output failed

-- It reads a reply to a command that it didn't send.
cut_behind_it : NeverRead (codes "220 mx.example.org LMTP ready\r\n250 2.0.0 OK\r\n") true
cut_behind_it = never _ _ refl

-- It reads a part of another greeting.
cut_within_another : NeverRead (codes "220 mx.oth") true
cut_within_another = never _ _ refl

-- ---- what stands is wrong: a message for alice, whose reply is 250, and for bob, whose reply is 452

-- what was written where the output took all: the replies, and perhaps the last words; or nothing
whole : {bytes : List ℕ} {replies : List Reply} {phase : Phase} {written : List ℕ} {failed : Bool} → AreWritten host bytes replies phase written failed → failed ≡ false
    → (written ≡ wire host replies) ⊎ (written ≡ wire host (replies ++ last_words phase)) ⊎ ((bytes ≡ []) × (written ≡ []))
whole all_written e = inl refl
whole with_last_words e = inr (inl refl)
whole (cut_short front) e = absurd (let f : true ≡ false = e in cc)
whole (never_greeted nothing_taken) e = inr (inr (nothing_taken, refl))

words : (phase : Phase) → (last_words phase ≡ []) ⊎ (last_words phase ≡ ShuttingDown ∷ [])
words Start = inr refl
words Ready = inr refl
words (Transaction sender recipients) = inr refl
words (Data sender recipients lines) = inl refl
words (Waiting count) = inr refl
words Ended = inl refl

-- its last words are those on bob's mailbox, and not that the server shuts down
not_shut : (replies : List Reply) → replied ≡ wire host (replies ++ ShuttingDown ∷ []) → ⊥
not_shut replies e =
    let back : reverse replied ≡ reverse shuts ++ reverse (wire host replies) = ap (λ (x : List ℕ). reverse x) (e ∙ wire-append host replies (ShuttingDown ∷ [])) ∙ reverse-append (wire host replies) shuts in
    let byte : 108 ≡ 110 = ap (λ (l : List ℕ). get_or l 2 0) back in omega (arith, byte)

-- its peer sent that and read this, with this history
abbrev HasRead : List Event → Type 0
HasRead history = ConnectionConcludes house 2 4 history three replied false

module _ (history : List Event) (c : HasRead history) where
  said_is : replied ≡ wire host c.replies
  said_is = elim (whole c.written refl) [
    | inl is ↦ is
    | inr (inl is) ↦ elim (words c.phase) [
      | inl silent ↦ is ∙ ap (λ (rs : List Reply). wire host (c.replies ++ rs)) silent ∙ ap (wire host) (append-nil c.replies)
      | inr shut ↦ absurd (not_shut c.replies (is ∙ ap (λ (rs : List Reply). wire host (c.replies ++ rs)) shut))
    ]
    | inr (inr (nothing_there, is)) ↦ absurd (let many : 269 ≡ 0 = ap length is in omega (arith, many))
  ]

  -- so the peer concludes by all of it
  concluded : Concludes home (of_history history) 2 4 told told
  concluded =
      let all = subst (λ (x : List ℕ). Concludes home (of_history history) 2 4 (handed_over three x) (handed_over three x)) (sym said_is) (c.concludes (wire host c.replies) [] (append-nil (wire host c.replies))) in
      subst (λ (ms : List Handed). Concludes home (of_history history) 2 4 ms ms) known all

-- It read 250 for alice, and forgets its own copy. Her mailbox refused it.
it_is_lost : (why : Refusal) → HasRead (WasToldOf hers (IsRefused why) 5 ∷ []) → ⊥
it_is_lost why c = lost _ (concluded _ c) refl

-- Nothing is known of it at all.
nowhere : HasRead [] → ⊥
nowhere c = lost _ (concluded _ c) refl

-- She finds it twice.
she_finds_two : HasRead (WasToldOf hers (Stored 7) 5 ∷ WasToldOf hers (Stored 8) 6 ∷ []) → ⊥
she_finds_two c = twice _ (concluded _ c) 7 7 8 (refl, (5, (0, omega arith, refl))) refl

-- Bob finds the message that was refused for him. It will come again.
it_was_refused : HasRead (WasToldOf hers (Stored 7) 5 ∷ WasToldOf bobs (Stored 1) 6 ∷ []) → ⊥
it_was_refused c = refused_stands _ (concluded _ c) 1 bobs 1 (refl, (6, (1, omega arith, refl))) refl

-- Alice finds a second one, for a recipient that nobody named.
for_nobody : HasRead (WasToldOf hers (Stored 7) 5 ∷ WasToldOf (copy_of (key_at 2 4 0 5) 0 right) (Stored 8) 6 ∷ []) → ⊥
for_nobody c = of_nobody _ (concluded _ c) 0 (copy_of (key_at 2 4 0 5) 0 right) 8 (refl, (6, (1, omega arith, refl))) refl

-- She finds a second one, of a message that nobody sent.
of_no_message : HasRead (WasToldOf hers (Stored 7) 5 ∷ WasToldOf (copy_of (key_at 2 4 3 0) 0 right) (Stored 8) 6 ∷ []) → ⊥
of_no_message c =
    never_sent _ (concluded _ c) 7 (refl, (5, (0, omega arith, refl))) 0 (copy_of (key_at 2 4 3 0) 0 right) 8 (refl, (6, (1, omega arith, refl))) refl

-- Bob finds her message, and she doesn't.
bob_finds_it : HasRead (WasToldOf (copy_of for_alice 1 right) (Stored 7) 5 ∷ []) → ⊥
bob_finds_it c = in_his _ (concluded _ c) (copy_of for_alice 1 right) 7 (refl, (5, (0, omega arith, refl))) refl

-- She reads another text than was sent.
another_text : HasRead (WasToldOf (copy_of for_alice 0 (codes "ha\r\n")) (Stored 7) 5 ∷ []) → ⊥
another_text c = other_text _ (concluded _ c) (copy_of for_alice 0 (codes "ha\r\n")) 7 (refl, (5, (0, omega arith, refl))) refl refl

-- ---- nothing was written to it

begins : {bytes : List ℕ} {replies : List Reply} {judged : List Judged} {c : Conversation} → HasTaken setting home bytes replies judged c → (more : List Reply) × (replies ≡ Greeting ∷ more)
begins greeted = ([], refl)
begins (goes_on taken turn after before leads silent) = let b = begins before in (b.0 ++ turn.replies, ap (λ (x : List Reply). x ++ turn.replies) b.1)
begins (submits taken turn after message verdicts before leads only quiet many) =
    let b = begins before in
    ((b.0 ++ turn.replies) ++ map verdict_reply verdicts, ap (λ (x : List Reply). (x ++ turn.replies) ++ map verdict_reply verdicts) b.1)

silent_or_greeted : {bytes : List ℕ} {replies : List Reply} {phase : Phase} → AreReplies house 2 4 bytes replies phase → (replies ≡ []) ⊎ ((more : List Reply) × (replies ≡ Greeting ∷ more))
silent_or_greeted nothing_said = inl refl
silent_or_greeted (said_to judged at taken) = inr (begins taken)

abbrev hers_alone : List Event
hers_alone = WasToldOf hers (Stored 7) 5 ∷ []

-- Alice finds a message of it, and its peer was told nothing.
untold : ConnectionConcludes house 2 4 hers_alone three [] false → ⊥
untold c = elim (silent_or_greeted c.are) [
  | inl none_said ↦ none_then none_said
  | inr (more, is) ↦ elim (whole c.written refl) [
    | inl e ↦ empty more [] (e ∙ ap (wire host) is ∙ ap (λ (rs : List Reply). wire host (Greeting ∷ rs)) (sym (append-nil more)))
    | inr (inl e) ↦ empty more (last_words c.phase) (e ∙ ap (λ (rs : List Reply). wire host (rs ++ last_words c.phase)) is)
    | inr (inr (nothing_taken, e)) ↦ elim (to_nothing c.are nothing_taken).1 [ inl none_said ↦ none_then none_said | inr alone ↦ greeted_then alone ]
  ]
]
  where
    none_then : c.replies ≡ [] → ⊥
    none_then e =
        of_nothing _ (subst (λ (rs : List Reply). Concludes home (of_history hers_alone) 2 4 (handed_over three []) (handed_over three (wire host rs))) e (c.concludes [] (wire host c.replies) refl))
        0 hers 7 (refl, (5, (0, omega arith, refl))) refl refl

    greeted_then : c.replies ≡ Greeting ∷ [] → ⊥
    greeted_then e =
        of_nothing _ (subst (λ (rs : List Reply). Concludes home (of_history hers_alone) 2 4 (handed_over three []) (handed_over three (wire host rs))) e (c.concludes [] (wire host c.replies) refl))
        0 hers 7 (refl, (5, (0, omega arith, refl))) refl refl

    empty : (more last : List Reply) → [] ≡ wire host (Greeting ∷ (more ++ last)) → ⊥
    empty more last e = let byte : 0 ≡ 50 = ap (λ (l : List ℕ). get_or l 0 0) e in omega (arith, byte)
