use Rattle.std.proofs.Common.{rules, [], ◌∷◌, ◌≡◌, ◌∙◌, ◌<◌, ℕ, true, List, Some, Err, Ok, length, map, ap, arith}
use Rattle.std.proofs.lemmas.Result.{err_from_is_err_and}
use Rattle.imap_grammar.specs.Sets.{named_at}
use Rattle.imap_grammar.specs.declared.set.SeqRange.{SeqRange}
use Rattle.imap_grammar.specs.declared.command.Command.TheVariants as commands
use Rattle.imap_grammar.specs.declared.view.Named.{Named}
use Rattle.imap_session.specs.Exchange.{Answer, Call, Exchange, Expunge, Feed, Standing}
use Rattle.imap_session.specs.Response.{Response}
use Rattle.mailbox.specs.declared.clients.MailFault.TheVariants.{NoMemory}
use Rattle.imap_session.specs.Commands.{completed, unlimited, wanting_for}
use Rattle.imap_session.specs.inner.Store.{Stops, last}
use Rattle.imap_session.proofs.Runs.{stops_look, stops_write}
use Rattle.imap_session.proofs.Saying.{does_wanting_for}
use Rattle.imap_session.proofs.Choosing.{does_chosen, uids_chosen}
use Rattle.imap_session.proofs.expunge.expunge_set.Goals as goal
use Rattle.imap_session.specs.declared.texts.ResponseText.{ResponseText}

pub returns-in_err-messages : goal.returns-in_err-messages
returns-in_err-messages g c =
    let p = err_from_is_err_and c.from_residual.result c.from_residual.ensures.1 in
    rw (p.1, p.2) (λ tag now. stops_look g.S.Store.step tag now _ _ _ _ _ _ c.in_err-messages.ensures.event)

removed : List SeqRange → List ℕ → Exchange
removed set uids = Expunge (Some uids) (Feed unlimited (completed (commands.UidExpunge set)))

removing : List SeqRange → List ℕ → List ℕ → Exchange
unfolding removed
removing set view uids = wanting_for uids (removed set uids)

-- memory may be wanting where a message is named
stops_wanting : {S : Type 0} (step : S → Call → Answer → S → Type 0) (tag : List ℕ) (now : Standing) (view uids : List ℕ) (messages : List Named) (x : Exchange) (s : S) (text : Response)
    → messages ≡ map (named_at view) uids → 0 < length messages → Stops step tag now now (wanting_for uids x) NoMemory s s text text
stops_wanting step tag now view [] messages x s text are some = let none : length messages ≡ 0 = ap (length {A = Named}) are in absurd (omega (arith, none, some))
stops_wanting step tag now view (uid ∷ uids) messages x s text are some = stops_write step tag now [] x s text

pub returns-in_err-uids : goal.returns-in_err-uids
unfolding removed removing
returns-in_err-uids g c =
    let set = c.args.set.now in
    let p = err_from_is_err_and c.from_residual-in_err-uids.result c.from_residual-in_err-uids.ensures.1 in
    let looks = rw c.in-Some.is at c.in_ok-messages.ensures.event in
    rw (p.1, p.2) (does_chosen {V = ResponseText} g.S.Store.step true set (removing set) last looks.0 c.in-Some.messages.items _ _ _ _ (Err _) looks.1 looks.2
    (λ uids are tag now. stops_wanting g.S.Store.step tag now looks.0 uids c.in-Some.messages.items (removed set uids) _ _ are (search rules)))

named : (view : List ℕ) (uids : List ℕ) (messages : List Named) (told : List ℕ) → told ≡ map (λ (m : Named). m.uid) messages → messages ≡ map (named_at view) uids → told ≡ uids
named view uids messages told e are = e ∙ ap (map (λ (m : Named). m.uid)) are ∙ uids_chosen view uids

pub returns-in_err-remove_and_show : goal.returns-in_err-remove_and_show
unfolding removed removing
returns-in_err-remove_and_show g c =
    let set = c.args.set.now in
    let p = err_from_is_err_and c.from_residual-in_err-remove_and_show.result c.from_residual-in_err-remove_and_show.ensures.1 in
    let looks = rw c.in-Some.is at c.in_ok-messages.ensures.event in
    let told : c.as_slice-2.result.now ≡ map (λ (m : Named). m.uid) c.in-Some.messages.items = search rules in
    rw (p.1, p.2) (does_chosen {V = ResponseText} g.S.Store.step true set (removing set) last looks.0 c.in-Some.messages.items _ _ _ _ (Err _) looks.1 looks.2
    (λ uids are. does_wanting_for {V = ResponseText} g.S.Store.step uids (removed set uids) last _ _ _ _ (Err _)
    (rw (← named looks.0 uids c.in-Some.messages.items c.as_slice-2.result.now told are) (c.in_err-remove_and_show.ensures (completed (commands.UidExpunge set))))))

pub returns : goal.returns
unfolding removed removing
returns g c =
    let set = c.args.set.now in
    let looks = rw c.in-Some.is at c.in_ok-messages.ensures.event in
    let told : c.as_slice-2.result.now ≡ map (λ (m : Named). m.uid) c.in-Some.messages.items = search rules in
    does_chosen {V = Unit {0}} g.S.Store.step true set (removing set) (λ u. completed (commands.UidExpunge set)) looks.0 c.in-Some.messages.items _ _ _ _ (Ok tt) looks.1 looks.2
    (λ uids are. does_wanting_for {V = Unit {0}} g.S.Store.step uids (removed set uids) (λ u. completed (commands.UidExpunge set)) _ _ _ _ (Ok tt)
    (rw (← named looks.0 uids c.in-Some.messages.items c.as_slice-2.result.now told are) (c.in_ok-remove_and_show.ensures (completed (commands.UidExpunge set)))))
