-- What a session says in a turn while it idles tells flags.
use Rattle.std.proofs.Common.{◌≡◌, List, refl, []}
use Rattle.std.specs.Prelude.{Some}
use Rattle.mailbox.specs.declared.clients.MailFault.{MailFault}
use Rattle.mailbox.specs.declared.clients.MailFault.TheVariants.{Stranger, Lapped}
use Rattle.imap_session.specs.declared.standing.After.TheVariants as afters
use Rattle.imap_session.specs.Exchange.{Answer, Fed, Refused, Feed, Standing, Turn, having, is_idling, nothing_more, refusal_text, refusal_after, refused}
use Rattle.imap_session.specs.Commands.{idle_turn_in, most_changes}
use Rattle.laws_client.specs.Flags.{Point}
use Rattle.laws_client.specs.FlagTurns.{LeadsFlags}
use Rattle.laws_client.proofs.FlagMoments.{SeesAllMoments, at_moments}
use Rattle.laws_client.specs.FlagLaws.{IdleTellsFlags}
use Rattle.laws_client.specs.Beliefs.{TellsNothing}
use Rattle.exactly_once.proofs.EachExchange.{at_turn, idle_so}
use Rattle.laws_client.proofs.Turning.{called_first, ends_so, leaves, rested_so, shown_first}

-- the store refused
gives_up : (p : Point) (now : Standing) (fault : MailFault) (q : Point) → TellsNothing (refusal_text [] fault) → SeesAllMoments p (having (Feed most_changes) (Refused fault) (refused [] now fault)).events q
    → LeadsFlags p (refused [] now fault).bytes q
gives_up p now fault q silent sees =
    called_first p (Feed most_changes) (Refused fault) (refused [] now fault) q sees refl (λ mid s. s) (λ mid s more. ends_so mid now (refusal_text [] fault) (refusal_after fault) q (leaves mid _ silent) more)

pub idle_tells : (now : Standing) (p : Point) (answers : List Answer) (turn : Turn) (q : Point) → idle_turn_in now.selected (is_idling now) now answers ≡ Some turn → SeesAllMoments p turn.events q → LeadsFlags p turn.bytes q
idle_tells now p answers turn q e sees =
    let P : Turn → Type 0 = λ t. SeesAllMoments p t.events q → LeadsFlags p t.bytes q in
    at_turn P (idle_turn_in now.selected (is_idling now) now answers) turn
    (idle_so P now
    (λ met changes sees. shown_first p (Feed most_changes) (Fed met changes) met changes (λ mid s. (s.sees.leads.0, s.sees.fits)) refl (λ mid s. s) (nothing_more afters.Idle now) q sees (λ mid s. rested_so mid q s))
    (gives_up p now Lapped q (λ messages. refl)) (gives_up p now Stranger q (λ messages. refl)) (rested_so p q) now.selected (is_idling now) answers) e sees

pub idle_tells_flags : IdleTellsFlags
idle_tells_flags now p answers turn q e sees = idle_tells now p answers turn q e (at_moments p turn.events q sees)
