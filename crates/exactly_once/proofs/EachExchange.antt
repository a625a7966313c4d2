-- What an exchange comes to, walked over once: what is so of each way that it may end, and of each piece and each call if it is so of what comes behind it, is so of its turn. And the same of a turn while a session idles.
use Rattle.std.proofs.Common.{zero, suc, ◌≡◌, ℕ, List, ◌∷◌, subst, Option, Some, None, []}
use Rattle.std.specs.Prelude.{IfSome, nat_lt, length, Bool, true, false, if◌then◌else◌}
use Rattle.std.specs.Option.{option_map}
use Rattle.change_ring.specs.declared.change.Change.{Change}
use Rattle.change_ring.specs.declared.change.Flags.{Flags}
use Rattle.change_ring.specs.declared.flag_op.FlagOp.{FlagOp}
use Rattle.cursor_set.specs.Lines.{lines}
use Rattle.mailbox.specs.declared.clients.MailFault.{MailFault}
use Rattle.mailbox.specs.declared.clients.MailFault.TheVariants.{Lapped, NoMemory, Stranger}
use Rattle.mailbox.specs.declared.clients.Opening.{Opening}
use Rattle.mailbox.specs.declared.clients.Row.{Row}
use Rattle.mailbox.specs.declared.mailbox.Status.{Status}
use Rattle.imap_grammar.specs.declared.set.SeqRange.{SeqRange}
use Rattle.imap_session.specs.declared.standing.After.{After}
use Rattle.imap_session.specs.declared.standing.After.TheVariants.{Bye}
use Rattle.imap_session.specs.declared.standing.After.TheVariants as afters
use Rattle.imap_session.specs.Commands.{idle_turn_in, most_changes}
use Rattle.imap_session.specs.declared.standing.Selected.{Selected}
use Rattle.imap_session.specs.declared.texts.ResponseText.TheVariants as texts
use Rattle.imap_session.specs.Texts.{response_text}
use Rattle.imap_session.specs.Exchange.{Call, Answer, Entered, Looked, Found, Counted, Altered, Expunged, Fed, Left, Discarded, Refused, Starved, Exchange, Done, Wait, Write, Put, Enter, Look, Read, Count, Alter, Expunge, Feed, Leave, Discard, Standing, Turn, Waiting, Asked, Unasked, Dropped, ForDone, ForLiteral, ForNothing, Purpose, bye, closed, having, nothing_more, played, refused, saying, tagged, unkept, waits_so, where_long, nameless, most_in_place}

-- It is so of what each step of an exchange comes to, under this tag, if it is so of what comes behind it.
pub record Plays (tag : List ℕ) (R : Standing → Exchange → Turn → Type 0) : Type 0 where
  -- the last line is said, or the session waits
  pub done : (now : Standing) (words : List ℕ) (how : After) → R now (Done words how) (saying (tagged tag words) (closed now how))
  pub waits : (now : Standing) (bytes : List ℕ) (w : Waiting) → R now (Wait bytes w) (waits_so tag bytes w now)
  -- memory is refused to who is to wait for a literal: its bytes are dropped, or the session ends
  pub drops : (now : Standing) (bytes : List ℕ) (purpose : Purpose) (size : ℕ) → R now (Wait bytes (ForLiteral Unasked purpose size)) (waits_so tag [] (ForLiteral Dropped (nameless purpose) size) now)
  pub parts : (now : Standing) (bytes : List ℕ) (purpose : Purpose) (size : ℕ)
      → R now (Wait bytes (ForLiteral Unasked purpose size)) (waits_so tag (bye (response_text texts.ByeOutOfMemory)) ForNothing now)
  -- memory is refused elsewhere, or the store refuses
  pub starves : (now : Standing) (x : Exchange) → R now x (refused tag now NoMemory)
  pub fails : (now : Standing) (x : Exchange) (call : Call) (fault : MailFault) → R now x (having call (Refused fault) (refused tag now fault))
  -- something is written
  pub writes : (now : Standing) (bytes : List ℕ) (x : Exchange) (s : Turn) → R now x s → R now (Write bytes x) (saying bytes s)
  pub puts : (now : Standing) (bytes : List ℕ) (x : Exchange) (s : Turn) → R now x s → R now (Put bytes x) (saying bytes s)
  -- the store answers
  pub enters : (now : Standing) (selected : Selected) (next : Opening → Exchange) (a : Opening) (s : Turn) → R (record now { selected = Some selected }) (next a) s
      → R now (Enter selected next) (having (Enter selected.mailbox) (Entered a) s)
  pub looks : (now : Standing) (by_uid : Bool) (set : List SeqRange) (next : List ℕ → Exchange) (a : List ℕ) (s : Turn) → R now (next a) s → R now (Look by_uid set next) (having (Look by_uid set) (Looked a) s)
  pub reads : (now : Standing) (uid : ℕ) (mark : Bool) (next : Option Row → Exchange) (a : Option Row) (s : Turn) → R now (next a) s → R now (Read uid mark next) (having (Read uid mark) (Found a) s)
  pub counts : (now : Standing) (mailbox : ℕ) (next : Status → Exchange) (a : Status) (s : Turn) → R now (next a) s → R now (Count mailbox next) (having (Count mailbox) (Counted a) s)
  pub alters : (now : Standing) (uid : ℕ) (op : FlagOp) (next : Option Flags → Exchange) (a : Option Flags) (s : Turn) → R now (next a) s → R now (Alter uid op next) (having (Alter uid op) (Altered a) s)
  pub expunges : (now : Standing) (uids : Option (List ℕ)) (x : Exchange) (met : List ℕ) (changes : List Change) (gone : ℕ) (s : Turn) → R now x s
      → R now (Expunge uids x) (having (Expunge uids) (Expunged met changes gone) (saying (lines met changes) s))
  pub feeds : (now : Standing) (limit : ℕ) (x : Exchange) (met : List ℕ) (changes : List Change) (s : Turn) → R now x s
      → R now (Feed limit x) (having (Feed limit) (Fed met changes) (saying (lines met changes) s))
  pub leaves : (now : Standing) (remove : Bool) (x : Exchange) (gone : ℕ) (s : Turn) → R (record now { selected = None }) x s → R now (Leave remove x) (having (Leave remove) (Left gone) s)
  pub discards : (now : Standing) (mailbox : ℕ) (uids : List ℕ) (x : Exchange) (s : Turn) → R now x s → R now (Discard mailbox uids x) (having (Discard mailbox uids) Discarded s)

-- ---- turns

-- how a turn ends: the session goes on as it is, or has ended
pub closed_so : (P : Turn → Type 0) (now : Standing) (how : After) → P (nothing_more how now) → P (nothing_more how (record now { ended = true })) → P (closed now how)
closed_so P now Bye p q = q
closed_so P now _ p q = p

-- what a session makes of the rest of its turn
made : {P : Turn → Type 0} (Q : Turn → Type 0) (f : Turn → Turn) (o : Option Turn) → ((s : Turn) → P s → Q (f s)) → IfSome o P → IfSome (option_map f o) Q
made Q f None p is = tt
made Q f (Some s) p is = p s is

if_long : (P : Turn → Type 0) (tag : List ℕ) (turn : Turn) → P turn → IfSome (where_long tag turn) P
if_long P tag turn p = by (nat_lt most_in_place (length tag))
  where
    by : (long : Bool) → IfSome (if long then Some turn else None) P
    by true = p
    by false = tt

-- it has a turn, of which it is so
pub at_turn : (P : Turn → Type 0) (o : Option Turn) (turn : Turn) → IfSome o P → o ≡ Some turn → P turn
at_turn P o turn is e = subst (λ (o : Option Turn). IfSome o P) e is

-- ---- the walk

module _ (tag : List ℕ) (R : Standing → Exchange → Turn → Type 0) (steps : Plays tag R) where
  unkept_so : (now : Standing) (bytes : List ℕ) (w : Waiting) (n : ℕ) → IfSome (unkept tag w now n) (R now (Wait bytes w))
  unkept_so now bytes ForDone zero = if_long (R now (Wait bytes ForDone)) tag (refused tag now NoMemory) (steps.starves now (Wait bytes ForDone))
  unkept_so now bytes (ForLiteral Asked purpose size) zero =
      let x : Exchange = Wait bytes (ForLiteral Asked purpose size) in if_long (R now x) tag (refused tag now NoMemory) (steps.starves now x)
  unkept_so now bytes (ForLiteral Unasked purpose size) zero = steps.drops now bytes purpose size
  unkept_so now bytes (ForLiteral Unasked purpose size) (suc zero) =
      if_long (R now (Wait bytes (ForLiteral Unasked purpose size))) tag (waits_so tag (bye (response_text texts.ByeOutOfMemory)) ForNothing now) (steps.parts now bytes purpose size)
  unkept_so now bytes _ _ = tt

  pub exchange_so : (now : Standing) (x : Exchange) (answers : List Answer) → IfSome (played tag now x answers) (R now x)
  exchange_so now (Done words how) [] = steps.done now words how
  exchange_so now (Wait bytes w) [] = steps.waits now bytes w
  exchange_so now (Wait bytes w) (Starved n ∷ []) = unkept_so now bytes w n
  exchange_so now (Write bytes x) [] = made (R now (Write bytes x)) (saying bytes) (played tag now x []) (steps.writes now bytes x) (exchange_so now x [])
  exchange_so now (Write bytes x) (Starved zero ∷ []) = steps.starves now (Write bytes x)
  exchange_so now (Write bytes x) (Starved (suc n) ∷ []) = made (R now (Write bytes x)) (saying bytes) (played tag now x (Starved n ∷ [])) (steps.writes now bytes x) (exchange_so now x (Starved n ∷ []))
  exchange_so now (Write bytes x) (given ∷ more) = made (R now (Write bytes x)) (saying bytes) (played tag now x (given ∷ more)) (steps.writes now bytes x) (exchange_so now x (given ∷ more))
  exchange_so now (Put bytes x) answers = made (R now (Put bytes x)) (saying bytes) (played tag now x answers) (steps.puts now bytes x) (exchange_so now x answers)
  exchange_so now (Enter selected next) (Entered a ∷ more) =
      let next_now : Standing = record now { selected = Some selected } in
      made (R now (Enter selected next)) (having (Enter selected.mailbox) (Entered a)) (played tag next_now (next a) more) (steps.enters now selected next a) (exchange_so next_now (next a) more)
  exchange_so now (Enter selected next) (Refused fault ∷ []) = steps.fails now (Enter selected next) (Enter selected.mailbox) fault
  exchange_so now (Look by_uid set next) (Looked a ∷ more) = made (R now (Look by_uid set next)) (having (Look by_uid set) (Looked a)) (played tag now (next a) more) (steps.looks now by_uid set next a) (exchange_so now (next a) more)
  exchange_so now (Look by_uid set next) (Refused fault ∷ []) = steps.fails now (Look by_uid set next) (Look by_uid set) fault
  exchange_so now (Read uid mark next) (Found a ∷ more) = made (R now (Read uid mark next)) (having (Read uid mark) (Found a)) (played tag now (next a) more) (steps.reads now uid mark next a) (exchange_so now (next a) more)
  exchange_so now (Read uid mark next) (Refused fault ∷ []) = steps.fails now (Read uid mark next) (Read uid mark) fault
  exchange_so now (Count mailbox next) (Counted a ∷ more) = made (R now (Count mailbox next)) (having (Count mailbox) (Counted a)) (played tag now (next a) more) (steps.counts now mailbox next a) (exchange_so now (next a) more)
  exchange_so now (Count mailbox next) (Refused fault ∷ []) = steps.fails now (Count mailbox next) (Count mailbox) fault
  exchange_so now (Alter uid op next) (Altered a ∷ more) = made (R now (Alter uid op next)) (having (Alter uid op) (Altered a)) (played tag now (next a) more) (steps.alters now uid op next a) (exchange_so now (next a) more)
  exchange_so now (Alter uid op next) (Refused fault ∷ []) = steps.fails now (Alter uid op next) (Alter uid op) fault
  exchange_so now (Expunge uids x) (Expunged met changes gone ∷ more) =
      made (R now (Expunge uids x)) (λ s. having (Expunge uids) (Expunged met changes gone) (saying (lines met changes) s)) (played tag now x more) (steps.expunges now uids x met changes gone) (exchange_so now x more)
  exchange_so now (Expunge uids x) (Refused fault ∷ []) = steps.fails now (Expunge uids x) (Expunge uids) fault
  exchange_so now (Feed limit x) (Fed met changes ∷ more) =
      made (R now (Feed limit x)) (λ s. having (Feed limit) (Fed met changes) (saying (lines met changes) s)) (played tag now x more) (steps.feeds now limit x met changes) (exchange_so now x more)
  exchange_so now (Feed limit x) (Refused fault ∷ []) = steps.fails now (Feed limit x) (Feed limit) fault
  exchange_so now (Leave remove x) (Left gone ∷ more) =
      let next_now : Standing = record now { selected = None } in
      made (R now (Leave remove x)) (having (Leave remove) (Left gone)) (played tag next_now x more) (steps.leaves now remove x gone) (exchange_so next_now x more)
  exchange_so now (Leave remove x) (Refused fault ∷ []) = steps.fails now (Leave remove x) (Leave remove) fault
  exchange_so now (Discard mailbox uids x) (Discarded ∷ more) = made (R now (Discard mailbox uids x)) (having (Discard mailbox uids) Discarded) (played tag now x more) (steps.discards now mailbox uids x) (exchange_so now x more)
  exchange_so now (Discard mailbox uids x) (Refused fault ∷ []) = steps.fails now (Discard mailbox uids x) (Discard mailbox uids) fault
  exchange_so now _ _ = tt

  -- the same of its turn
  pub turn_so : (now : Standing) (x : Exchange) (answers : List Answer) (turn : Turn) → played tag now x answers ≡ Some turn → R now x turn
  turn_so now x answers turn e = at_turn (R now x) (played tag now x answers) turn (exchange_so now x answers) e

-- the same, where it is so of an exchange of which something else is
with_premise : (P : Type 0) (Q : Turn → Type 0) (o : Option Turn) → IfSome o (λ s. P → Q s) → P → IfSome o Q
with_premise P Q None so p = tt
with_premise P Q (Some s) so p = so p

pub exchange_if : (tag : List ℕ) (P : Exchange → Type 0) (Q : Standing → Turn → Type 0) → Plays tag (λ now x turn. P x → Q now turn) → (now : Standing) (x : Exchange) (answers : List Answer) → P x
    → IfSome (played tag now x answers) (Q now)
exchange_if tag P Q steps now x answers p = with_premise (P x) (Q now) (played tag now x answers) (exchange_so tag (λ now x turn. P x → Q now turn) steps now x answers) p

-- ---- turns while it idles

-- it shows what is pending, or ends where the store refuses; or it does nothing
pub idle_so : (P : Turn → Type 0) (now : Standing) → ((met : List ℕ) (changes : List Change) → P (having (Feed most_changes) (Fed met changes) (saying (lines met changes) (nothing_more afters.Idle now))))
    → P (having (Feed most_changes) (Refused Lapped) (refused [] now Lapped)) → P (having (Feed most_changes) (Refused Stranger) (refused [] now Stranger)) → P (nothing_more afters.Idle now)
    → (selected : Option Selected) (idling : Bool) (answers : List Answer) → IfSome (idle_turn_in selected idling now answers) P
idle_so P now shows lapped stranger rests (Some selected) true (Fed met changes ∷ []) = shows met changes
idle_so P now shows lapped stranger rests (Some selected) true (Refused Lapped ∷ []) = lapped
idle_so P now shows lapped stranger rests (Some selected) true (Refused Stranger ∷ []) = stranger
idle_so P now shows lapped stranger rests (Some selected) true _ = tt
idle_so P now shows lapped stranger rests (Some selected) false [] = rests
idle_so P now shows lapped stranger rests None _ [] = rests
idle_so P now shows lapped stranger rests _ _ _ = tt

-- what is so of its session stays so
pub idle_keeps : (Q : Standing → Type 0) (selected : Option Selected) (idling : Bool) (now : Standing) (answers : List Answer) (turn : Turn) → Q now → Q (record now { ended = true })
    → idle_turn_in selected idling now answers ≡ Some turn → Q turn.standing
idle_keeps Q selected idling now answers turn here ended e =
    at_turn (λ (t : Turn). Q t.standing) (idle_turn_in selected idling now answers) turn
    (idle_so (λ (t : Turn). Q t.standing) now (λ met changes. here) ended ended here selected idling answers) e
