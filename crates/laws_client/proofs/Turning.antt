-- What a client reads of a turn, by the session's first call and its answer.
use Rattle.std.proofs.Common.{◌≡◌, ℕ, ◌+◌, ◌≤◌, List, ◌∷◌, ◌++◌, length, drop, ap, ap₂, ◌∙◌, sym, refl, subst, arith, append-nil, length-append, []}
use Rattle.std.specs.Prelude.{Option, Some}
use Rattle.std.proofs.lemmas.List.{length-drop, take-append-le}
use Rattle.change_ring.specs.declared.change.Change.{Change}
use Rattle.change_ring.specs.Log.{replay}
use Rattle.cursor_set.specs.Lines.{lines}
use Rattle.mailbox.specs.declared.clients.MailFault.{MailFault}
use Rattle.mailbox.specs.declared.clients.Row.{Row}
use Rattle.mailbox.specs.declared.mailbox.Status.{Status}
use Rattle.change_ring.specs.declared.change.Flags.{Flags}
use Rattle.imap_session.specs.declared.standing.After.{After}
use Rattle.imap_session.specs.Exchange.{Call, Answer, Looked, Found, Counted, Altered, Refused, Event, Exchange, Done, Wait, Write, Put, Enter, Look, Read, Count, Alter, Expunge, Feed, Leave, Standing, Turn, refusal_text, refusal_after, refused, closed, nothing_more, having, tagged, Discard, Discarded}
use Rattle.laws_client.specs.Client.{Known, Client, knowing, reads}
use Rattle.laws_client.specs.Beliefs.{Follows, MayShow, TellsNothing}
use Rattle.laws_client.specs.Clients.{Each}
use Rattle.laws_client.proofs.Bytes.{reads-append}
use Rattle.laws_client.proofs.Each.{each_weaker}
use Rattle.exactly_once.proofs.EachExchange.{at_turn}
use Rattle.laws_client.proofs.Turns.{closed_quiet, closed_silent}
use Rattle.laws_client.specs.Flags.{Believes, KnowsFlags, Point, counted}
use Rattle.laws_client.specs.FlagTurns.{IfInside, LeadsFlags, LeavesFlags, shown_in}
use Rattle.laws_client.proofs.FlagMoments.{SeesAllMoments, SeesMoments}
use Rattle.laws_client.proofs.Following.{lines_tell_flags}
use Rattle.laws_client.proofs.Moments.{flags_outlast}

-- what is said where the store refuses tells nothing of flags
abbrev pub Refusals : List ℕ → Type 0
Refusals tag = (p : Point) (fault : MailFault) → LeavesFlags p (refusal_text tag fault)

pub leaves : (p : Point) (text : List ℕ) → TellsNothing text → LeavesFlags p text
leaves p text nothing list right = record { after = list; reads = nothing (Some list); each = right }

-- Whatever the store answers, a client is as right about flags after each text of the exchange as before, wherever its session is then; and no mailbox is entered or left in it.
abbrev pub SaysFlags : List ℕ → Point → Exchange → Type 0
SaysFlags tag p (Done words how) = LeavesFlags p (tagged tag words)
SaysFlags tag p (Wait bytes waits) = LeavesFlags p bytes
SaysFlags tag p (Write bytes x) = LeavesFlags p bytes × SaysFlags tag p x
SaysFlags tag p (Put bytes x) = LeavesFlags p bytes × SaysFlags tag p x
SaysFlags tag p (Enter selected next) = ⊥
SaysFlags tag p (Look by_uid set next) = (copied : List ℕ) (q : Point) → SeesMoments p (record { call = (Look by_uid set); answer = Looked copied }) q → SaysFlags tag q (next copied)
SaysFlags tag p (Read uid mark next) = (row : Option Row) (q : Point) → SeesMoments p (record { call = Read uid mark; answer = Found row }) q → SaysFlags tag q (next row)
SaysFlags tag p (Count mailbox next) = (status : Status) (q : Point) → SeesMoments p (record { call = Count mailbox; answer = Counted status }) q → SaysFlags tag q (next status)
SaysFlags tag p (Alter uid change next) = (flags : Option Flags) (q : Point) → SeesMoments p (record { call = Alter uid change; answer = Altered flags }) q → SaysFlags tag q (next flags)
SaysFlags tag p (Expunge uids x) = (q : Point) → SaysFlags tag q x
SaysFlags tag p (Feed limit x) = (q : Point) → SaysFlags tag q x
SaysFlags tag p (Leave remove x) = ⊥
SaysFlags tag p (Discard mailbox uids x) = (q : Point) → SeesMoments p (record { call = Discard mailbox uids; answer = Discarded }) q → SaysFlags tag q x

-- ---- a call

-- where the cursor is then, in the log as it was
abbrev past_shown : Point → Event → Point
past_shown p event = record { log = p.log; cursor = p.cursor + length (shown_in event.answer) }

shown_within : (p : Point) (event : Event) (q : Point) → SeesMoments p event q → p.cursor + length (shown_in event.answer) ≤ length p.log
shown_within p event q s =
    let parts : length (drop p.cursor p.log) ≡ length (shown_in event.answer) + length s.rest = ap length s.shows ∙ length-append (shown_in event.answer) s.rest in
    omega (arith, parts, length-drop p.cursor p.log, s.within)

-- its cursor isn't past the end of its log
pub still_within : (p : Point) (event : Event) (q : Point) → SeesMoments p event q → q.cursor ≤ length q.log
still_within p event q s = omega (arith, shown_within p event q s, s.cursor, ap length s.log, length-append p.log s.later)

abbrev point_at : List Change → ℕ → Point
point_at log cursor = record { log = log; cursor = cursor }

-- the point that the call leads to, by what was logged and shown
the_point : (p : Point) (event : Event) (q : Point) (s : SeesMoments p event q) → point_at (p.log ++ s.later) (p.cursor + length (shown_in event.answer)) ≡ q
the_point p event q s = sym (ap₂ point_at s.log s.cursor)

-- the log grows, and what is believed stays so
pub grown : (p : Point) (event : Event) (q : Point) → SeesMoments p event q → (list : List Known) → KnowsFlags (past_shown p event) list → KnowsFlags q list
grown p event q s list right =
    let cursor : ℕ = p.cursor + length (shown_in event.answer) in
    let after : Point = record { log = p.log ++ s.later; cursor = cursor } in
    let view : counted after ≡ counted (past_shown p event) = ap (replay []) (take-append-le cursor p.log s.later (shown_within p event q s)) in
    let more : Each (Believes after) (counted (past_shown p event)) list =
    each_weaker (Believes (past_shown p event)) (Believes after) (λ u m b names e. flags_outlast p.log s.later cursor u names (b names e)) (counted (past_shown p event)) list right in
    subst (λ (r : Point). KnowsFlags r list) (the_point p event q s) (subst (λ (v : List ℕ). Each (Believes after) v list) (sym view) more)

-- nothing is shown
pub grown_still : (p : Point) (event : Event) (q : Point) → SeesMoments p event q → shown_in event.answer ≡ [] → (list : List Known) → KnowsFlags p list → KnowsFlags q list
grown_still p event q s none list right =
    let here : p.cursor ≡ p.cursor + length (shown_in event.answer) = omega (arith, ap length none) in
    grown p event q s list (subst (λ (n : ℕ). KnowsFlags (record { log = p.log; cursor = n }) list) here right)

pub then_tells : (p q : Point) (list : List Known) (one two : List ℕ) → (f : Follows (Believes p) list one (counted p)) → Follows (Believes q) f.after two (counted q) → Follows (Believes q) list (one ++ two) (counted q)
then_tells p q list one two f g = record {
  after = g.after;
  reads = reads-append (knowing (Some list)) one two ∙ ap (λ (c : Client). reads c two) f.reads ∙ g.reads;
  each = g.each;
}

-- ---- a turn by its first answer

-- a text that is written, and what comes behind it
pub said_first : (p : Point) (text : List ℕ) (more : Turn) (q : Point) → LeavesFlags p text → LeadsFlags p more.bytes q → LeadsFlags p (text ++ more.bytes) q
said_first p text more q stays behind list right = let f = stays list right in then_tells p q list text more.bytes f (behind f.after f.each)

-- a call that shows nothing
pub called_first : (p : Point) (call : Call) (answer : Answer) (more : Turn) (q : Point)
    → SeesAllMoments p (record { call = call; answer = answer } ∷ more.events) q → shown_in answer ≡ []
    → ((mid : Point) → IfInside answer (SeesMoments p (record { call = call; answer = answer }) mid) → SeesMoments p (record { call = call; answer = answer }) mid)
    → ((mid : Point) → SeesMoments p (record { call = call; answer = answer }) mid → SeesAllMoments mid more.events q → LeadsFlags mid more.bytes q)
    → LeadsFlags p more.bytes q
called_first p call answer more q s none inside behind list right =
    let one = inside s.0 s.1 in behind s.0 one s.2 list (grown_still p (record { call = call; answer = answer }) s.0 one none list right)

-- a call that shows changes
pub shown_first : (p : Point) (call : Call) (answer : Answer) (met : List ℕ) (changes : List Change)
    → ((mid : Point) → SeesMoments p (record { call = call; answer = answer }) mid → (met ≡ counted p) × MayShow (counted p) changes) → shown_in answer ≡ changes
    → ((mid : Point) → IfInside answer (SeesMoments p (record { call = call; answer = answer }) mid) → SeesMoments p (record { call = call; answer = answer }) mid)
    → (more : Turn) (q : Point) → SeesAllMoments p (record { call = call; answer = answer } ∷ more.events) q
    → ((mid : Point) → SeesAllMoments mid more.events q → LeadsFlags mid more.bytes q)
    → LeadsFlags p (lines met changes ++ more.bytes) q
shown_first p call answer met changes tells is inside more q s behind list right =
    let event : Event = record { call = call; answer = answer } in
    let one : SeesMoments p event s.0 = inside s.0 s.1 in
    let t = tells s.0 one in
    let d : drop p.cursor p.log ≡ changes ++ one.rest = subst (λ (cs : List Change). drop p.cursor p.log ≡ cs ++ one.rest) is one.shows in
    let after : Point = record { log = p.log; cursor = p.cursor + length changes } in
    let f : Follows (Believes after) list (lines met changes) (counted after) =
    subst (λ (v : List ℕ). Follows (Believes after) list (lines v changes) (counted after)) (sym t.0) (lines_tell_flags p changes one.rest one.legal one.within d t.1 list right) in
    let known : KnowsFlags s.0 f.after = grown p event s.0 one f.after (subst (λ (cs : List Change). KnowsFlags (record { log = p.log; cursor = p.cursor + length cs }) f.after) (sym is) f.each) in
    then_tells after q list (lines met changes) more.bytes f (behind s.0 s.2 f.after known)

-- ---- how a turn ends

-- nothing more is met, and this text is all
alone : (p : Point) (text : List ℕ) (last : Turn) (q : Point) → last.bytes ≡ [] → q ≡ p → LeavesFlags p text → LeadsFlags p (text ++ last.bytes) q
alone p text last q silent same stays list right =
    subst (λ (r : Point). Follows (Believes r) list (text ++ last.bytes) (counted r)) (sym same)
    (subst (λ (b : List ℕ). Follows (Believes p) list b (counted p)) (sym (ap (λ (b : List ℕ). text ++ b) silent ∙ append-nil text)) (stays list right))

pub ends_so : (p : Point) (now : Standing) (text : List ℕ) (how : After) (q : Point) → LeavesFlags p text → SeesAllMoments p (closed now how).events q → LeadsFlags p (text ++ (closed now how).bytes) q
ends_so p now text how q stays sees =
    alone p text (closed now how) q (closed_silent now how) (subst (λ (events : List Event). SeesAllMoments p events q) (closed_quiet now how) sees) stays

-- this is said, and the session waits
pub said_waiting : (p : Point) (bytes : List ℕ) (q : Point) → LeavesFlags p bytes → q ≡ p → LeadsFlags p (bytes ++ []) q
said_waiting p bytes q stays same list right =
    subst (λ (r : Point). Follows (Believes r) list (bytes ++ []) (counted r)) (sym same)
    (subst (λ (b : List ℕ). Follows (Believes p) list b (counted p)) (sym (append-nil bytes)) (stays list right))

-- memory was refused, or the store refused
pub starved_so : (tag : List ℕ) (refusals : Refusals tag) (p : Point) (now : Standing) (fault : MailFault) (q : Point) → SeesAllMoments p (refused tag now fault).events q → LeadsFlags p (refused tag now fault).bytes q
starved_so tag refusals p now fault q sees = ends_so p now (refusal_text tag fault) (refusal_after fault) q (refusals p fault) sees

pub refused_so : (tag : List ℕ) (refusals : Refusals tag) (p : Point) (now : Standing) (call : Call) (fault : MailFault) (q : Point)
    → SeesAllMoments p (having call (Refused fault) (refused tag now fault)).events q → LeadsFlags p (refused tag now fault).bytes q
refused_so tag refusals p now call fault q sees = called_first p call (Refused fault) (refused tag now fault) q sees refl (λ mid s. s) (λ mid s more. starved_so tag refusals mid now fault q more)

-- nothing is met, and nothing is written
pub rested_so : (p q : Point) → q ≡ p → LeadsFlags p [] q
rested_so p q same list right = subst (λ (r : Point). Follows (Believes r) list [] (counted r)) (sym same) (record { after = list; reads = refl; each = right })

pub rests_in : (p : Point) (how : After) (now : Standing) (turn : Turn) (q : Point) → Some (nothing_more how now) ≡ Some turn → SeesAllMoments p turn.events q → LeadsFlags p turn.bytes q
rests_in p how now turn q e sees = at_turn (λ (t : Turn). SeesAllMoments p t.events q → LeadsFlags p t.bytes q) (Some (nothing_more how now)) turn (rested_so p q) e sees
