-- What it means that a client was attended, and what that refuses: one thing at a time is wrong. Above each stands what would have happened.
use Rattle.std.proofs.Common.{◌≡◌, ◌⊎◌, inl, inr, ℕ, true, false, List, [], ◌∷◌, ◌++◌, length, refl, Option, Some, None, ap, sym, ◌∙◌, append-nil, arith}
use Rattle.std.specs.Prelude.{codes}
use Rattle.std.proofs.lemmas.Bool.{false≢true, true≢false}
use Rattle.std.proofs.lemmas.Option.{none-some}
use Rattle.imap_session.specs.Dialogue.{ImapConnection}
use Rattle.imap_session.specs.Exchange.{begun_with}
use Rattle.session_thread.specs.Life.{Departs, IsForgotten, known_client}
use Rattle.session_thread.specs.Locks.{LockedStore}
use Rattle.session_thread.specs.declared.locked_store.Entry.{Entry}
use Rattle.imap_stream.specs.declared.client_slot.Parting.{Parting}
use Rattle.imap_stream.specs.declared.client_slot.Parting.TheVariants.{Broken, Gone, Over, Stopped}
use Rattle.imap_stream.specs.Attending.{Attended, Calls, Ends, HasParted, IsDismissed, no_call, one_more}
use Rattle.imap_stream.specs.Visits.{Visit, farewell, is_over}

-- ---- a visit, in no mailbox and in one

abbrev link : ImapConnection
link = record {
  session = begun_with (known_client None) [];
  cutter = record { max = 100; kept = []; after_cr = false; line = None };
}

abbrev outside : LockedStore
outside = record { mailboxes = 2; entered = None; history = [] }

abbrev entry : Entry
entry = record { mailbox = 0; start = 0; handle = record { number = 0; slot = 0; serial = 0; at = 0 } }

abbrev within : LockedStore
within = record { mailboxes = 2; entered = Some entry; history = [] }

abbrev greeted : Visit
greeted = record { link = link; selection = outside; taken = Some []; failed = false; closed = false; room = 100 }

abbrev selected : Visit
selected = record greeted { selection = within }

abbrev over : Visit
over = record greeted { closed = true }

abbrev noop : List ℕ
noop = codes "NOOP\r\n"

-- ---- what passes

-- A client that sends nothing, and goes, is told nothing.
says_nothing : Attended (Some []) (Some []) Gone greeted over
says_nothing = record {
  heard = [];
  dropped = [];
  came = refl;
  last = greeted;
  calls = no_call;
  next = greeted;
  ends = (refl, refl);
  left = record { departs = inl (inl (refl, refl)); rest = refl };
}

-- Where the server stops, it is told so, and what was read last isn't heard.
is_stopped : Attended (Some noop) (Some []) Stopped greeted (record over { taken = Some farewell })
is_stopped = record {
  heard = [];
  dropped = noop;
  came = refl;
  last = greeted;
  calls = no_call;
  next = record over { taken = Some farewell };
  ends = record { over = λ e. absurd (false≢true e); told = λ e. inl (refl, refl); ends = refl; link = refl; selection = refl };
  left = record { departs = inl (inl (refl, refl)); rest = refl };
}

-- ---- what was heard

-- of a client that goes, just what came was heard
all_heard : {came : List ℕ} {old new : Visit} (a : Attended (Some came) (Some []) Gone old new) → length came ≡ length a.heard
all_heard a = ap length (a.came ∙ append-nil (a.heard ++ a.dropped) ∙ ap (λ (d : List ℕ). a.heard ++ d) a.ends.1 ∙ append-nil a.heard)

-- It sent a line, and the server heard nothing of it.
unheard : {old new : Visit} (a : Attended (Some noop) (Some []) Gone old new) → a.heard ≡ [] → ⊥
unheard a none = let many : 6 ≡ 0 = all_heard a ∙ ap length none in omega (arith, many)

-- The server heard the first half alone.
half_heard : {old new : Visit} (a : Attended (Some noop) (Some []) Gone old new) → a.heard ≡ codes "NO" → ⊥
half_heard a half = let many : 6 ≡ 2 = all_heard a ∙ ap length half in omega (arith, many)

-- It heard the line twice.
heard_twice : {old new : Visit} (a : Attended (Some noop) (Some []) Gone old new) → a.heard ≡ noop ++ noop → ⊥
heard_twice a twice = let many : 6 ≡ 12 = all_heard a ∙ ap length twice in omega (arith, many)

-- It heard a line, and its client sent none.
never_came : {old new : Visit} (a : Attended (Some []) (Some []) Gone old new) → a.heard ≡ noop → ⊥
never_came a line = let many : 0 ≡ 6 = all_heard a ∙ ap length line in omega (arith, many)

abbrev first_byte : List ℕ → ℕ
first_byte [] = 0
first_byte (x ∷ xs) = x

-- It heard the second line before the first.
other_order : {old new : Visit} (a : Attended (Some (codes "NOOP\r\nLOGOUT\r\n")) (Some []) Gone old new) → a.heard ≡ codes "LOGOUT\r\nNOOP\r\n" → ⊥
other_order a turned =
    let came = a.came ∙ append-nil (a.heard ++ a.dropped) ∙ ap (λ (h : List ℕ). h ++ a.dropped) turned in
    let first : 78 ≡ 76 = ap first_byte came in
    omega (arith, first)

-- Its connection broke, and the half of a line was read and thrown away, and not heard.
thrown_away : Ends Broken (codes "OP\r\n") greeted greeted → ⊥
thrown_away e = let many : 4 ≡ 0 = ap length e.1 in omega (arith, many)

-- where nothing more is done for a client, no call was made
no_calls : {first : Visit} {heard : List ℕ} {last : Visit} → is_over first ≡ true → Calls first heard last → (heard ≡ []) × (last ≡ first)
no_calls ended no_call = (refl, refl)
no_calls ended (one_more heard piece now next calls goes has) = absurd (false≢true (sym goes ∙ ap is_over (no_calls ended calls).1 ∙ ended))

-- It was heard behind the end of its visit.
heard_when_over : (new : Visit) → Attended (Some noop) (Some []) Gone over new → ⊥
heard_when_over new a = unheard a (no_calls refl a.calls).0

-- ---- how it ended

-- how many bytes its output took
abbrev size_of : Option (List ℕ) → ℕ
size_of None = 0
size_of (Some bytes) = length bytes

abbrev sent : Visit → ℕ
sent visit = size_of visit.taken

-- It went, and was told a farewell.
told_though_gone : Ends Gone [] greeted (record over { taken = Some farewell }) → ⊥
told_though_gone e = let many : length farewell ≡ 0 = ap sent e.0 in omega (arith, many)

-- Its visit was over, and it was told a farewell.
told_when_over : Attended (Some []) (Some []) Gone over (record over { taken = Some farewell }) → ⊥
told_when_over a = let many : length farewell ≡ 0 = ap sent a.left.rest ∙ ap sent a.ends.0 ∙ ap sent (no_calls refl a.calls).1 in omega (arith, many)

-- The server closed the connection, as if the visit was over, and it wasn't.
still_takes : Ends Over [] greeted greeted → ⊥
still_takes e = true≢false e.2

-- It was over, and a line was read behind that, and lost.
read_behind : Ends Over noop over over → ⊥
read_behind e = let many : 6 ≡ 0 = ap length e.1 in omega (arith, many)

-- ---- a client that is dismissed

told_just : (bytes : List ℕ) → IsDismissed greeted (record over { taken = Some bytes }) → length bytes ≡ length farewell
told_just bytes d = elim (d.told refl) [ inl whole ↦ ap length whole.0 | inr part ↦ absurd (false≢true part.failed) ]

-- The server stops, and the client isn't told.
untold : IsDismissed greeted over → ⊥
untold d = let many : 0 ≡ length farewell = told_just [] d in omega (arith, many)

-- It is told the first word alone, though its output takes all.
cut : IsDismissed greeted (record over { taken = Some (codes "* BYE ") }) → ⊥
cut d = let many : 6 ≡ length farewell = told_just (codes "* BYE ") d in omega (arith, many)

-- It is told twice.
told_twice : IsDismissed greeted (record over { taken = Some (farewell ++ farewell) }) → ⊥
told_twice d = let many : length (farewell ++ farewell) ≡ length farewell = told_just (farewell ++ farewell) d in omega (arith, many)

-- It is told, and its visit goes on.
told_and_goes_on : IsDismissed greeted (record greeted { taken = Some farewell }) → ⊥
told_and_goes_on d = false≢true d.ends

-- ---- how its session parts

-- It is gone, and its visit goes on.
goes_on : (how : Parting) (old new : Visit) → new.closed ≡ false → Attended None None how old new → ⊥
goes_on how old new open_yet a = false≢true (sym open_yet ∙ ap (λ (v : Visit). v.closed) a.left.rest)

-- Something is sent to it as its session leaves.
told_at_parting : HasParted greeted (record over { taken = Some farewell }) → ⊥
told_at_parting p = let many : length farewell ≡ 0 = ap sent p.rest in omega (arith, many)

-- Its session has left its mailbox, and is in it still.
keeps_its_mailbox : Departs within within → ⊥
keeps_its_mailbox (inl (out, same)) = none-some entry (sym out)
keeps_its_mailbox (inr (gone, holds)) = none-some entry (sym (ap (λ (s : LockedStore). s.entered) holds.1))

-- Its mailbox doesn't know it, and its session says that it left.
forgotten_and_out : IsForgotten within outside → ⊥
forgotten_and_out f = none-some entry (ap (λ (s : LockedStore). s.entered) f.0)

abbrev box_of : Option Entry → ℕ
box_of None = 0
box_of (Some here) = here.mailbox

-- Its session is in another mailbox then.
in_another : HasParted selected (record selected { closed = true; selection = record within { entered = Some (record entry { mailbox = 1 }) } }) → ⊥
in_another p = by p.departs
  where
    by : Departs within (record within { entered = Some (record entry { mailbox = 1 }) }) ⊎ IsForgotten within (record within { entered = Some (record entry { mailbox = 1 }) }) → ⊥
    by (inl (inl (out, same))) = none-some entry (sym out)
    by (inl (inr (gone, holds))) = none-some (record entry { mailbox = 1 }) (sym (ap (λ (s : LockedStore). s.entered) holds.1))
    by (inr (same, here)) = let which : 1 ≡ 0 = ap (λ (s : LockedStore). box_of s.entered) same in omega (arith, which)
