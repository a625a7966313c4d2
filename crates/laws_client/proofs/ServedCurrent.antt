-- After a command that shows all that is pending last, the cursor of a session over mailboxes behind locks is at the end of the log, and its client's list is the mailbox.
use Rattle.std.proofs.Common.{◌≡◌, ℕ, true, false, List, [], ◌∷◌, ◌++◌, inr, refl, sym, subst, ap, ◌∙◌, Option, Some, None}
use Rattle.std.specs.Prelude.{IfSome, Result}
use Rattle.std.proofs.lemmas.Bool.{false≢true}
use Rattle.change_ring.specs.declared.change.Change.{Change}
use Rattle.imap_grammar.specs.declared.command.Command.{Command}
use Rattle.imap_grammar.specs.declared.command.ImapFault.{ImapFault}
use Rattle.imap_session.specs.Exchange.{Event, Standing}
use Rattle.imap_session.specs.Commands.{unlimited}
use Rattle.imap_session.specs.Store.{Met}
use Rattle.session_thread.specs.ByHistory.{ByHistory, WasShown, shown_then}
use Rattle.session_thread.specs.Locks.{LockedStore}
use Rattle.session_thread.proofs.ByHistory.{by_history, shown_by_history}
use Rattle.laws_client.specs.Client.{Client, reads}
use Rattle.laws_client.specs.Clients.{Asked, IsRightAbout, answered, asked, hears, hears_all}
use Rattle.laws_client.specs.Selecting.{Known_selected}
use Rattle.laws_client.specs.Served.{IsAtEnd, ServedCommandsMakeCurrent, ServedCommandsReachTheEnd, ServedDoneReachesTheEnd, counted_by, messages_in}
use Rattle.imap_session.specs.Happenings.{Answer as Answer_to, Line, Lived, Told, comes, told_line, told_of, turns}
use Rattle.laws_client.proofs.Living.{hears_last}
use Rattle.laws_client.proofs.OkCurrent.{has_list, last_was_fed, neither_shows}
use Rattle.laws_client.proofs.RecordCurrent.{FedAll, LastFed, done_fed}
use Rattle.laws_client.proofs.Selecting.{turn_sel}
use Rattle.laws_client.proofs.Served.{feeds_reach_the_end, of_entry, served_lists_are_current, served_lives, small_before, small_uids, stands_in, turn_held}

abbrev pub AtEnd : LockedStore → Type 0
AtEnd selection = IfSome selection.entered (IsAtEnd selection)

fed_at_end : (old new : LockedStore) (event : Event) (shown : List Change) → WasShown old shown → FedAll event → ByHistory old event.call event.answer new → AtEnd new
fed_at_end old new event shown was (met, changes, is) h =
    feeds_reach_the_end old new unlimited met changes shown was (subst (λ (e : Event). ByHistory old e.call e.answer new) is h) (inr refl)

pub last_at_end : (old new : LockedStore) (events : List Event) (shown : List Change) (P : Type 0) → WasShown old shown → (P → AtEnd old) → LastFed P events → Met ByHistory old events new → AtEnd new
last_at_end old new [] shown P was c h met = subst (λ (s : LockedStore). AtEnd s) (sym met) (c h)
last_at_end old new (event ∷ events) shown P was c h (mid, one, more) =
    let b = by_history old mid event.call event.answer shown one was in
    last_at_end mid new events (shown_then shown event.answer) (FedAll event) b.1 (λ fed. fed_at_end old mid event shown was fed one) h more

pub served_commands_reach_the_end : ServedCommandsReachTheEnd
served_commands_reach_the_end old new shown now line whole tag command selected answers turn front was there answer met came reads_as shows bytes =
    last_at_end old new turn.events shown (false ≡ true) was (λ e. absurd (false≢true e)) (last_was_fed now line whole tag command selected answers turn front there answer came reads_as shows bytes) met

pub served_done_reaches_the_end : ServedDoneReachesTheEnd
served_done_reaches_the_end old new shown now line tag selected answers turn was stands there answer met begun idling done ok =
    last_at_end old new turn.events shown (false ≡ true) was (λ e. absurd (false≢true e)) (done_fed now line tag selected answers turn stands.tags.0 there answer begun idling done ok) met

-- a client that knows where it is has a session that has selected a mailbox
pub knowing_served : (first : Standing) (began : LockedStore) {sent : List ℕ} {told : List Told} {now : Standing} {selection : LockedStore} → Lived ByHistory first began sent told now selection → Known_selected (hears_all None told) now
knowing_served first began comes = tt
knowing_served first began (turns {told = heard} {now = now} lives happening bytes turn next timely sent printed e met) =
    subst (λ (c : Option Client). Known_selected c turn.standing) (sym (hears_last None heard (told_of now happening turn.bytes)))
    (turn_sel now happening turn (hears_all None heard) e (knowing_served first began lives))

pub served_commands_make_current : ServedCommandsMakeCurrent
served_commands_make_current first began sent told now selection client line whole tag command answers turn next front here none stands legal lives knows answer met came reads_as shows bytes there =
    let K = stands_in first began none stands lives in
    let chosen : Known_selected (Some client) now = subst (λ (c : Option Client). Known_selected c now) knows (knowing_served first began lives) in
    let end : IsAtEnd next here = of_entry (IsAtEnd next) next.entered here there
    (served_commands_reach_the_end selection next K.shown now line whole tag command chosen.0 answers turn front K.was chosen.1 answer met came reads_as shows bytes) in
    let view : counted_by next ≡ messages_in here.mailbox next.history = served_lists_are_current next here there end in
    let went = shown_by_history selection next turn.events K.shown met K.was in
    let small = small_uids next.history legal in
    let right_before = served_lives first began none stands (small_before selection.history next.history went.0 small) lives in
    let after : IsRightAbout (counted_by next) (hears_all None (told ++ told_of now (Line line answers) turn.bytes ∷ [])) =
    subst (λ (c : Option Client). IsRightAbout (counted_by next) c) (sym (hears_last None told (told_of now (Line line answers) turn.bytes)))
    (turn_held selection next K.shown now (Line line answers) turn (hears_all None told) K.was K.at K.stands tt small answer met right_before) in
    let told_is : told_of now (Line line answers) turn.bytes ≡ Answer_to whole turn.bytes = ap (λ (o : Option (List ℕ)). told_line o turn.bytes) came in
    let heard : hears_all None (told ++ Answer_to whole turn.bytes ∷ []) ≡ Some (reads client turn.bytes) =
    hears_last None told (Answer_to whole turn.bytes) ∙ ap (λ (c : Option Client). hears c (Answer_to whole turn.bytes)) knows ∙ ap (λ (r : Result (List ℕ × Command) ImapFault). answered (asked r) turn.bytes (Some client)) reads_as
    ∙ ap (λ (x : Asked). answered x turn.bytes (Some client)) (neither_shows tag command shows) in
    let right : IsRightAbout (counted_by next) (hears_all None (told ++ Answer_to whole turn.bytes ∷ [])) =
    subst (λ (one : Told). IsRightAbout (counted_by next) (hears_all None (told ++ one ∷ []))) told_is after in
    let all : IsRightAbout (messages_in here.mailbox next.history) (hears_all None (told ++ Answer_to whole turn.bytes ∷ [])) =
    subst (λ (us : List ℕ). IsRightAbout us (hears_all None (told ++ Answer_to whole turn.bytes ∷ []))) view right in
    has_list (messages_in here.mailbox next.history) (reads client turn.bytes) (hears_all None (told ++ Answer_to whole turn.bytes ∷ [])) heard
    (subst (λ (c : Option Client). IsRightAbout (messages_in here.mailbox next.history) c) heard all)
