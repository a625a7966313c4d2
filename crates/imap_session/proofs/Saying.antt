-- Results that are handed on.
use Rattle.std.proofs.Common.{ℕ, List, [], ◌∷◌, Result, Ok, Err}
use Rattle.mailbox.specs.declared.clients.MailFault.{MailFault}
use Rattle.imap_session.specs.Exchange.{Call, Answer, Exchange, Standing}
use Rattle.imap_session.specs.Response.{Response}
use Rattle.imap_session.specs.inner.Store.{Reaches, Does}
use Rattle.imap_session.proofs.Runs.{nothing_added, reaches_then, reaches_write, stops_then}
use Rattle.imap_session.specs.Commands.{wanting, wanting_for}

-- what is done after an exchange has come so far
pub does_then : {S V : Type 0} (step : S → Call → Answer → S → Type 0) (x y : Exchange) (z : V → Exchange) (old mid new : S) (first second third : Response) (r : Result V MailFault)
    → ((tag : List ℕ) (now : Standing) → Reaches step tag now now x y old mid first second)
    → Does step y z mid new second third r → Does step x z old new first third r
does_then step x y z old mid new first second third (Ok v) p q = λ tag now. reaches_then step tag now now now x y (z v) old mid new first second third (p tag now) (q tag now)
does_then step x y z old mid new first second third (Err fault) p q = λ tag now. stops_then step tag now now now x y fault old mid new first second third (p tag now) (q tag now)

-- memory that was wanted first is there
pub does_wanting : {S V : Type 0} (step : S → Call → Answer → S → Type 0) (x : Exchange) (z : V → Exchange) (old new : S) (before after : Response) (r : Result V MailFault)
    → Does step x z old new before after r → Does step (wanting x) z old new before after r
does_wanting step x z old new before after r p =
    does_then step (wanting x) x z old old new before before after r (λ tag now. reaches_write step tag now [] x old before before (nothing_added before)) p

-- the same for UIDs, where there may be none
pub does_wanting_for : {S V : Type 0} (step : S → Call → Answer → S → Type 0) (uids : List ℕ) (x : Exchange) (z : V → Exchange) (old new : S) (before after : Response) (r : Result V MailFault)
    → Does step x z old new before after r → Does step (wanting_for uids x) z old new before after r
does_wanting_for step [] x z old new before after r p = p
does_wanting_for step (uid ∷ uids) x z old new before after r p = does_wanting step x z old new before after r p
