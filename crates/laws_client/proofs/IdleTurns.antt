-- A client reads what a session says in a turn while it idles.
use Rattle.std.proofs.Common.{ℕ, List, refl, []}
use Rattle.mailbox.specs.declared.clients.MailFault.{MailFault}
use Rattle.mailbox.specs.declared.clients.MailFault.TheVariants.{Stranger, Lapped}
use Rattle.imap_session.specs.declared.standing.After.TheVariants as afters
use Rattle.imap_session.specs.Exchange.{Fed, Refused, Feed, Standing, Turn, having, is_idling, nothing_more, refusal_text, refusal_after, refused}
use Rattle.imap_session.specs.Commands.{idle_turn_in, most_changes}
use Rattle.laws_client.specs.Beliefs.{Leads, TellsNothing}
use Rattle.laws_client.specs.ListTurns.{SeesAll}
use Rattle.laws_client.specs.ListLaws.{IdleTurnIsFollowed}
use Rattle.exactly_once.proofs.EachExchange.{at_turn, idle_so}
use Rattle.laws_client.proofs.Turns.{called_first, ends_so, rested_so, shown_first}
use Rattle.laws_client.proofs.Ends.{leaves}

-- the store refused
gives_up : (view : List ℕ) (now : Standing) (fault : MailFault) (new : List ℕ) → TellsNothing (refusal_text [] fault) → SeesAll view (having (Feed most_changes) (Refused fault) (refused [] now fault)).events new
    → Leads view (refused [] now fault).bytes new
gives_up view now fault new silent sees =
    called_first view (Feed most_changes) (Refused fault) (refused [] now fault) new sees (λ mid s. s) (λ mid after fits s. ends_so view now (refusal_text [] fault) (refusal_after fault) new (leaves view _ silent) s)

pub idle_turn_is_followed : IdleTurnIsFollowed
idle_turn_is_followed view now answers turn new e sees =
    let P : Turn → Type 0 = λ t. SeesAll view t.events new → Leads view t.bytes new in
    at_turn P (idle_turn_in now.selected (is_idling now) now answers) turn
    (idle_so P now (λ met changes sees. shown_first view (Feed most_changes) (Fed met changes) met changes (λ mid s. s) (λ may. may) (nothing_more afters.Idle now) new sees (λ mid s. rested_so mid new s))
    (gives_up view now Lapped new (λ messages. refl)) (gives_up view now Stranger new (λ messages. refl)) (rested_so view new) now.selected (is_idling now) answers) e sees
