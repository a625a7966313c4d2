-- What the answers of a session's store tell of flags, where the flags that are told were the message's at some moment that isn't before the cursor. What is proved of a turn by this
-- holds in a house of one thread, where that moment is now, and over mailboxes behind locks, where others may have changed flags since.
use Rattle.std.proofs.Common.{◌≡◌, ℕ, ◌+◌, ◌≤◌, List, [], ◌∷◌, ◌++◌, length, drop, refl, ap, ◌∙◌, arith, length-append, Some, None}
use Rattle.std.proofs.lemmas.List.{length-drop}
use Rattle.change_ring.specs.declared.change.Change.{Change}
use Rattle.change_ring.specs.declared.flag_op.FlagOp.{FlagOp}
use Rattle.change_ring.specs.Log.{IsLegalLog}
use Rattle.change_ring.specs.Words.{flag_words}
use Rattle.imap_session.specs.Exchange.{Call, Answer, Event, Entered, Found, Altered, Left, Read, Alter}
use Rattle.laws_client.specs.ListTurns.{Sees}
use Rattle.laws_client.specs.Flags.{FlagsOf, Point, counted}
use Rattle.laws_client.specs.FlagTurns.{IfInside, SeesAllFlags, SeesFlags, TellsFlags, shown_in}
use Rattle.laws_client.specs.ServedFlags.{OfToldFlags}
use Rattle.laws_client.proofs.Moments.{now_is_moment}

abbrev pub TellsMoments : Point → Call → Answer → Type 0
TellsMoments p call answer = OfToldFlags (FlagsOf p.log p.cursor) call answer

-- as `SeesFlags`, but for the moment of the flags that are told
pub record SeesMoments (p : Point) (event : Event) (q : Point) : Type 0 where
  pub sees : Sees (counted p) event (counted q)
  pub legal : IsLegalLog p.log
  pub within : p.cursor ≤ length p.log
  pub rest : List Change
  pub shows : drop p.cursor p.log ≡ shown_in event.answer ++ rest
  pub cursor : q.cursor ≡ p.cursor + length (shown_in event.answer)
  pub later : List Change
  pub log : q.log ≡ p.log ++ later
  pub tells : TellsMoments q event.call event.answer

abbrev pub SeesAllMoments : Point → List Event → Point → Type 0
SeesAllMoments p [] q = q ≡ p
SeesAllMoments p (event ∷ events) q = (mid : Point) × IfInside event.answer (SeesMoments p event mid) × SeesAllMoments mid events q

-- ---- flags that are now

row_moment : (p : Point) (uid : ℕ) (mark : _) (answer : Answer) → p.cursor ≤ length p.log → TellsFlags p (Read uid mark) answer → TellsMoments p (Read uid mark) answer
row_moment p uid mark (Found (Some row)) within has = now_is_moment p.log p.cursor uid row.flags (flag_words row.flags) within has refl
row_moment p uid mark (Found None) within has = tt
row_moment p uid mark _ within has = tt

store_moment : (p : Point) (uid : ℕ) (op : FlagOp) (answer : Answer) → p.cursor ≤ length p.log → TellsFlags p (Alter uid op) answer → TellsMoments p (Alter uid op) answer
store_moment p uid op (Altered (Some flags)) within has = now_is_moment p.log p.cursor uid flags (flag_words flags) within has refl
store_moment p uid op (Altered None) within has = tt
store_moment p uid op _ within has = tt

told_moment : (p : Point) (call : Call) (answer : Answer) → p.cursor ≤ length p.log → TellsFlags p call answer → TellsMoments p call answer
told_moment p (Read uid mark) answer within has = row_moment p uid mark answer within has
told_moment p (Alter uid op) answer within has = store_moment p uid op answer within has
told_moment p _ answer within has = tt

at_moment : (p : Point) (event : Event) (q : Point) → SeesFlags p event q → SeesMoments p event q
at_moment p event q s =
    let parts : length (drop p.cursor p.log) ≡ length (shown_in event.answer) + length s.rest = ap length s.shows ∙ length-append (shown_in event.answer) s.rest in
    let within : q.cursor ≤ length q.log = omega (arith, parts, length-drop p.cursor p.log, s.within, s.cursor, ap length s.log, length-append p.log s.later) in record {
      sees = s.sees;
      legal = s.legal;
      within = s.within;
      rest = s.rest;
      shows = s.shows;
      cursor = s.cursor;
      later = s.later;
      log = s.log;
      tells = told_moment q event.call event.answer within s.tells;
    }

inside_too : (answer : Answer) (P Q : Type 0) → (P → Q) → IfInside answer P → IfInside answer Q
inside_too (Entered opening) P Q f h = tt
inside_too (Left gone) P Q f h = tt
inside_too _ P Q f h = f h

pub at_moments : (p : Point) (events : List Event) (q : Point) → SeesAllFlags p events q → SeesAllMoments p events q
at_moments p [] q h = h
at_moments p (event ∷ events) q (mid, one, more) =
    (mid, inside_too event.answer (SeesFlags p event mid) (SeesMoments p event mid) (at_moment p event mid) one, at_moments mid events q more)
