-- Mailboxes selected and left.
use Rattle.std.proofs.Common.{◌≡◌, ℕ, true, false, List, Option, Some, None, is_none, Ok, refl}
use Rattle.imap_session.specs.declared.standing.Selected.{Selected}
use Rattle.imap_session.specs.Exchange as ex
use Rattle.imap_session.specs.Exchange.{Call, Answer, Left, Exchange, Standing, untagged}
use Rattle.imap_session.specs.Commands.{closing}
use Rattle.imap_session.specs.Response.{Response}
use Rattle.imap_session.specs.inner.Response.{Adds}
use Rattle.imap_session.specs.inner.Store.{Reaches, Moves}
use Rattle.imap_session.proofs.Runs.{reaches_here, reaches_leave, reaches_put, reaches_then}
use Rattle.imap_session.specs.declared.texts.ResponseText.TheVariants as texts
use Rattle.imap_session.specs.Texts.{response_text}

abbrev pub closed_line : List ℕ
closed_line = untagged (response_text texts.PreviousClosed)

pub closing_some : (sel : Option Selected) (x : Exchange) → is_none sel ≡ false → closing sel x ≡ ex.Leave false (ex.Put closed_line x)
closing_some None x h = cc
closing_some (Some s) x h = refl

pub reaches_unclosed : {S : Type 0} (step : S → Call → Answer → S → Type 0) (tag : List ℕ) (now : Standing) (sel : Option Selected) (x : Exchange) (s : S) (text : Response)
    → is_none sel ≡ true → Reaches step tag now now (closing sel x) x s s text text
reaches_unclosed step tag now None x s text h = reaches_here step tag now x s text
reaches_unclosed step tag now (Some sel) x s text h = cc

pub moves_closed : {S : Type 0} (step : S → Call → Answer → S → Type 0) (sel : Option Selected) (x : Exchange) (gone : ℕ) (old new : S) (before after : Response) (u : Unit {0})
    → is_none sel ≡ false → step old (ex.Leave false) (Left gone) new → Adds closed_line before after
    → Moves step sel None (closing sel x) (λ _. x) old new before after (Ok u)
moves_closed step sel x gone old new before after u s h t = λ tag now was.
    rw (closing_some sel x s)
    (reaches_then step tag now (record now { selected = None }) (record now { selected = None }) (ex.Leave false (ex.Put closed_line x)) (ex.Put closed_line x) x old new new before before after
    (reaches_leave step tag now false (ex.Put closed_line x) gone old new before h)
    (reaches_put step tag (record now { selected = None }) closed_line x new before after t))
