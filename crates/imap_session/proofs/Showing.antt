-- What a store showed in a vector that was lent, as a response has it.
use Rattle.std.proofs.Common.{◌≡◌, ◌+◌, ◌≤◌, ◌<◌, ◌^◌, ◌⊎◌, inl, inr, ℕ, List, ◌++◌, Option, Result, Ok, Err, append_assoc, arith, ap, sym, ◌∙◌}
use Rattle.line_io.specs.Outlet.{Lot}
use Rattle.mailbox.specs.declared.clients.MailFault.{MailFault}
use Rattle.cursor_set.specs.Lines.{lines}
use Rattle.imap_session.specs.Exchange as ex
use Rattle.imap_session.specs.Exchange.{Answer, Call, Exchange}
use Rattle.imap_session.specs.Response.{Response}
use Rattle.imap_session.specs.Store.{Expunges, Feeds}
use Rattle.imap_session.specs.inner.Store.{Does}
use Rattle.imap_session.proofs.Runs.{reaches_expunge, reaches_feed, stops_expunge, stops_feed}

-- the room that is held is there behind a vector that was lent, written behind and taken back
pub room_behind : (held room lent lent_len lent_room new_len new_room back : ℕ) → held ≤ room → held < 2 ^ 64 → (lent_len + room ≤ lent_room) ⊎ (2 ^ 64 ≤ lent)
    → (lent_len + held ≤ lent_room → new_len + held ≤ new_room) → new_room ≤ new_len + back → lent ≤ back → held ≤ back
room_behind held room lent lent_len lent_room new_len new_room back h w (inl there) keeps b k =
    let still = keeps (omega (arith, h, there)) in
    omega (arith, still, b)
room_behind held room lent lent_len lent_room new_len new_room back h w (inr stays) keeps b k = omega (arith, w, stays, k)

-- a response of which other bytes were written
pub written_anew : {r : Response} (tag : List ℕ) (held : ℕ) (text new : List ℕ) (lot next : Lot) → next ≡ lot → record { tag = tag; held = held; text = text; lot = lot } ≡ r
    → record { tag = tag; held = held; text = new; lot = next } ≡ record r { text = new }
written_anew tag held text new lot next e same =
    ap (λ (l : Lot). record { tag = tag; held = held; text = new; lot = l }) e ∙ ap (λ (r : Response). record r { text = new }) same

-- ---- what was shown in the vector was shown behind what was said before

pub feeds_behind : (step : Answer → Type 0) (limit : ℕ) (kept lent now before after : List ℕ) (r : Result ℕ MailFault) → before ≡ kept ++ lent → after ≡ kept ++ now
    → Feeds step limit lent now r → Feeds step limit before after r
feeds_behind step limit kept lent now before after (Ok n) b a f =
    (f.0, f.1, f.2, f.3, f.4, a ∙ (ap (λ (t : List ℕ). kept ++ t) f.5 ∙ (sym (append_assoc kept lent (lines f.0 f.1)) ∙ ap (λ (t : List ℕ). t ++ lines f.0 f.1) (sym b))))
feeds_behind step limit kept lent now before after (Err fault) b a f = (f.0, a ∙ (ap (λ (t : List ℕ). kept ++ t) f.1 ∙ sym b))

pub expunges_behind : (step : Answer → Type 0) (kept lent now before after : List ℕ) (r : Result ℕ MailFault) → before ≡ kept ++ lent → after ≡ kept ++ now
    → Expunges step lent now r → Expunges step before after r
expunges_behind step kept lent now before after (Ok n) b a f =
    (f.0, f.1, f.2, a ∙ (ap (λ (t : List ℕ). kept ++ t) f.3 ∙ (sym (append_assoc kept lent (lines f.0 f.1)) ∙ ap (λ (t : List ℕ). t ++ lines f.0 f.1) (sym b))))
expunges_behind step kept lent now before after (Err fault) b a f = (f.0, a ∙ (ap (λ (t : List ℕ). kept ++ t) f.1 ∙ sym b))

-- ---- so that part of the exchange was done

pub does_fed : {S : Type 0} (step : S → Call → Answer → S → Type 0) (limit : ℕ) (x : Exchange) (old new : S) (before after : Response) (r : Result ℕ MailFault)
    → Feeds (λ a. step old (ex.Feed limit) a new) limit before.text after.text r → after ≡ record before { text = after.text }
    → Does {V = ℕ} step (ex.Feed limit x) (λ n. x) old new before after r
does_fed step limit x old new before after (Ok n) f same =
    λ tag now. reaches_feed step tag now limit x f.0 f.1 old new before after f.2 (same ∙ ap (λ (t : List ℕ). record before { text = t }) f.5)
does_fed step limit x old new before after (Err fault) f same =
    λ tag now. stops_feed step tag now limit x fault old new before after f.0 (same ∙ ap (λ (t : List ℕ). record before { text = t }) f.1)

pub does_purged : {S : Type 0} (step : S → Call → Answer → S → Type 0) (uids : Option (List ℕ)) (x : Exchange) (old new : S) (before after : Response) (r : Result ℕ MailFault)
    → Expunges (λ a. step old (ex.Expunge uids) a new) before.text after.text r → after ≡ record before { text = after.text }
    → Does {V = ℕ} step (ex.Expunge uids x) (λ n. x) old new before after r
does_purged step uids x old new before after (Ok n) f same =
    λ tag now. reaches_expunge step tag now uids x f.0 f.1 n old new before after f.2 (same ∙ ap (λ (t : List ℕ). record before { text = t }) f.3)
does_purged step uids x old new before after (Err fault) f same =
    λ tag now. stops_expunge step tag now uids x fault old new before after f.0 (same ∙ ap (λ (t : List ℕ). record before { text = t }) f.1)
