-- What a client was shown under a lock stands in every history that goes on from there.
use Rattle.std.proofs.Common.{◌≡◌, ℕ, ◌-◌, ◌≤◌, List, [], ◌++◌, length, take, drop, Option, Result, Ok, Err, IfOk, sym, ap, ap₂, ◌∙◌, subst, arith}
use mathlib.Core.List.{IsPrefix}
use Rattle.std.proofs.lemmas.List.{take-append-le, drop-append-le, length-drop}
use Rattle.change_ring.specs.declared.change.Change.{Change}
use Rattle.change_ring.specs.Log.{replay, view_at}
use Rattle.cursor_set.specs.Cursors.{CursorHandle}
use Rattle.cursor_set.specs.Lines.{lines}
use Rattle.delivery_token.specs.declared.CopyKey.{CopyKey}
use Rattle.mailbox.specs.declared.clients.MailFault.{MailFault}
use Rattle.mailbox.specs.Mailbox.{Mailbox, Stands, next_of}
use Rattle.workers_sync.specs.Holds.{DoesFeed}
use Rattle.house_history.specs.declared.event.Event.{Event}
use Rattle.house_history.specs.Events.{changes_in, concerns}
use Rattle.house_history.proofs.Follow.{changes_grow, changes_own}
use Rattle.shared_history.specs.Pages.{part}
use Rattle.locked_mailbox.specs.Locking.{Keeps}

longer_view : (at : ℕ) (log all : List Change) (longer : IsPrefix log all) → at ≤ length log → view_at all at ≡ view_at log at
longer_view at log all longer within = ap (λ (l : List Change). view_at l at) (sym longer.1) ∙ ap (replay []) (take-append-le at log longer.0 within)

longer_next : (at n : ℕ) (log all : List Change) (longer : IsPrefix log all) → at ≤ length log → n ≤ length log - at → next_of all at n ≡ next_of log at n
longer_next at n log all longer within few = let d = length-drop at log in
    ap (take n) (ap (drop at) (sym longer.1) ∙ drop-append-le at log longer.0 within) ∙ take-append-le n (drop at log) longer.0 (omega (arith, d, few))

fed : (found left : Mailbox) (log all : List Change) (handle next : CursorHandle) (limit : ℕ) (before after : List ℕ) (n : ℕ) → DoesFeed found handle limit before after (Ok n) left next → Stands found log → IsPrefix log all
    → after ≡ before ++ lines (view_at all handle.at) (next_of all handle.at n)
fed found left log all handle next limit before after n does stands longer =
    let long = stands.window.long in
    let known = does.does.known.within in
    let counted = does.counted in
    let count = does.does.count in
    let within : handle.at ≤ length log = omega (arith, long, known) in
    let few : n ≤ length log - handle.at = omega (arith, long, counted, count) in
    does.of_log log stands ∙ ap₂ (λ (view : List ℕ) (changes : List Change). before ++ lines view changes) (sym (longer_view handle.at log all longer within)) (sym (longer_next handle.at n log all longer within few))

pub fed_in : (found left : Mailbox) (n : ℕ) (events : List Event) (last : List (Option CopyKey)) (seen : List Event) (handle next : CursorHandle) (limit : ℕ) (before after : List ℕ) (result : Result ℕ MailFault)
    → DoesFeed found handle limit before after result left next → Keeps found n events last → part concerns n seen ≡ events
    → IfOk result (λ k. (h : List Event) → IsPrefix seen h → after ≡ before ++ lines (view_at (changes_in found.number h) handle.at) (next_of (changes_in found.number h) handle.at k))
fed_in found left n events last seen handle next limit before after (Ok k) does kept own = λ (h : List Event) (goes : IsPrefix seen h).
    subst (λ (m : ℕ). after ≡ before ++ lines (view_at (changes_in m h) handle.at) (next_of (changes_in m h) handle.at k)) kept.here
    (fed found left (changes_in n events) (changes_in n h) handle next limit before after k does kept.log (subst (λ (l : List Change). IsPrefix l (changes_in n h)) (changes_own n seen events own) (changes_grow n seen h goes)))
fed_in found left n events last seen handle next limit before after (Err fault) does kept own = tt
