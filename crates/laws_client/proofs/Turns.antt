-- What a client reads of a turn, by the session's first call and its answer.
use Rattle.std.proofs.Common.{◌≡◌, ℕ, List, ◌∷◌, ◌++◌, ap, ◌∙◌, sym, refl, subst, []}
use Rattle.std.specs.Prelude.{Option, Some, None}
use Rattle.std.proofs.lemmas.List.{append-nil}
use Rattle.change_ring.specs.declared.change.Change.{Change}
use Rattle.change_ring.specs.Log.{replay}
use Rattle.cursor_set.specs.Lines.{lines}
use Rattle.mailbox.specs.declared.clients.MailFault.{MailFault}
use Rattle.imap_session.specs.declared.standing.After.{After}
use Rattle.imap_session.specs.Exchange.{Call, Answer, Refused, Event, Standing, Turn, refusal_text, refusal_after, refused, closed, nothing_more, having}
use Rattle.imap_session.specs.Store.{ViewAfter}
use Rattle.laws_client.specs.Client.{Known, Client, knowing, reads}
use Rattle.laws_client.specs.Beliefs.{Follows, Leads, Leaves, MayShow}
use Rattle.laws_client.specs.Clients.{Each, IsOf}
use Rattle.laws_client.specs.ListTurns.{Fits, SeesAll}
use Rattle.laws_client.proofs.Bytes.{reads-append}
use Rattle.exactly_once.proofs.EachExchange.{at_turn, closed_so}
use Rattle.laws_client.proofs.Follows.{lines_are_followed}

-- what is said where the store refuses tells nothing of messages
abbrev pub Refusals : List ℕ → Type 0
Refusals tag = (view : List ℕ) (fault : MailFault) → Leaves view (refusal_text tag fault)

pub then_follows : (list : List Known) (one two view new : List ℕ) → (f : Follows IsOf list one view) → Follows IsOf f.after two new → Follows IsOf list (one ++ two) new
then_follows list one two view new f g = record {
  after = g.after;
  reads = reads-append (knowing (Some list)) one two ∙ ap (λ (c : Client). reads c two) f.reads ∙ g.reads;
  each = g.each;
}

abbrev pub the_turn : Turn → Option Turn → Turn
the_turn d None = d
the_turn d (Some t) = t

-- ---- a turn by its first answer

-- a text that is written, and what comes behind it
pub said_first : (view text : List ℕ) (more : Turn) (new : List ℕ) → Leaves view text → Leads view more.bytes new → Leads view (text ++ more.bytes) new
said_first view text more new leaves behind list right = let f = leaves list right in then_follows list text more.bytes view new f (behind f.after f.each)

-- a call that shows nothing
pub called_first : (view : List ℕ) (call : Call) (answer : Answer) (more : Turn) (new : List ℕ)
    → SeesAll view (record { call = call; answer = answer } ∷ more.events) new → ((mid : List ℕ) → ViewAfter view answer mid → mid ≡ view)
    → ((mid : List ℕ) → ViewAfter view answer mid → Fits view call answer → SeesAll view more.events new → Leads view more.bytes new)
    → Leads view more.bytes new
called_first view call answer more new s same behind = behind s.0 s.1.leads s.1.fits (subst (λ (v : List ℕ). SeesAll v more.events new) (same s.0 s.1.leads) s.2)

-- a call that shows changes
pub shown_first : (view : List ℕ) (call : Call) (answer : Answer) (met : List ℕ) (changes : List Change)
    → ((mid : List ℕ) → ViewAfter view answer mid → (met ≡ view) × (mid ≡ replay view changes)) → (Fits view call answer → MayShow view changes)
    → (more : Turn) (new : List ℕ) → SeesAll view (record { call = call; answer = answer } ∷ more.events) new
    → ((mid : List ℕ) → SeesAll mid more.events new → Leads mid more.bytes new)
    → Leads view (lines met changes ++ more.bytes) new
shown_first view call answer met changes tells fits more new s behind list right =
    let t = tells s.0 s.1.leads in
    let may = fits s.1.fits in
    let f : Follows IsOf list (lines met changes) (replay view changes) =
    subst (λ (v : List ℕ). Follows IsOf list (lines v changes) (replay view changes)) (sym t.0) (lines_are_followed view changes list may.few may.printed may.fits right) in
    then_follows list (lines met changes) more.bytes (replay view changes) new f (behind s.0 s.2 f.after (subst (λ (v : List ℕ). Each IsOf v f.after) (sym t.1) f.each))

-- ---- how a turn ends

pub closed_silent : (now : Standing) (how : After) → (closed now how).bytes ≡ []
closed_silent now how = closed_so (λ (s : Turn). s.bytes ≡ []) now how refl refl

pub closed_quiet : (now : Standing) (how : After) → (closed now how).events ≡ []
closed_quiet now how = closed_so (λ (s : Turn). s.events ≡ []) now how refl refl

-- nothing more is met, and this text is all
alone : (view text : List ℕ) (last : Turn) (new : List ℕ) → last.bytes ≡ [] → SeesAll view [] new → Leaves view text → Leads view (text ++ last.bytes) new
alone view text last new silent same leaves list right =
    subst (λ (v : List ℕ). Follows IsOf list (text ++ last.bytes) v) (sym same)
    (subst (λ (b : List ℕ). Follows IsOf list b view) (sym (ap (λ (b : List ℕ). text ++ b) silent ∙ append-nil text)) (leaves list right))

pub ends_so : (view : List ℕ) (now : Standing) (text : List ℕ) (how : After) (new : List ℕ) → Leaves view text → SeesAll view (closed now how).events new → Leads view (text ++ (closed now how).bytes) new
ends_so view now text how new leaves sees =
    alone view text (closed now how) new (closed_silent now how) (subst (λ (events : List Event). SeesAll view events new) (closed_quiet now how) sees) leaves

-- this is said, and the session waits
pub said_waiting : (view bytes new : List ℕ) → Leaves view bytes → new ≡ view → Leads view (bytes ++ []) new
said_waiting view bytes new leaves same list right =
    subst (λ (v : List ℕ). Follows IsOf list (bytes ++ []) v) (sym same) (subst (λ (b : List ℕ). Follows IsOf list b view) (sym (append-nil bytes)) (leaves list right))

-- memory was refused, or the store refused
pub starved_so : (tag : List ℕ) (refusals : Refusals tag) (view : List ℕ) (now : Standing) (fault : MailFault) (new : List ℕ) → SeesAll view (refused tag now fault).events new
    → Leads view (refused tag now fault).bytes new
starved_so tag refusals view now fault new sees = ends_so view now (refusal_text tag fault) (refusal_after fault) new (refusals view fault) sees

pub refused_so : (tag : List ℕ) (refusals : Refusals tag) (view : List ℕ) (now : Standing) (call : Call) (fault : MailFault) (new : List ℕ)
    → SeesAll view (having call (Refused fault) (refused tag now fault)).events new → Leads view (refused tag now fault).bytes new
refused_so tag refusals view now call fault new sees = called_first view call (Refused fault) (refused tag now fault) new sees (λ mid s. s) (λ mid after fits s. starved_so tag refusals view now fault new s)

-- nothing is met, and nothing is written
pub rested_so : (view new : List ℕ) → new ≡ view → Leads view [] new
rested_so view new same list right = subst (λ (v : List ℕ). Follows IsOf list [] v) (sym same) (record { after = list; reads = refl; each = right })

pub rests_in : (view : List ℕ) (how : After) (now : Standing) (turn : Turn) (new : List ℕ) → Some (nothing_more how now) ≡ Some turn → SeesAll view turn.events new → Leads view turn.bytes new
rests_in view how now turn new e sees = at_turn (λ (t : Turn). SeesAll view t.events new → Leads view t.bytes new) (Some (nothing_more how now)) turn (rested_so view new) e sees
