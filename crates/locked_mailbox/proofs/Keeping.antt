-- A mailbox is kept by what is done to it.
use Rattle.std.proofs.Common.{◌≡◌, ℕ, ◌<◌, ◌==◌, ◌&&◌, Bool, true, false, List, [], ◌∷◌, ◌++◌, length, Option, Some, None, Result, Ok, Err, IsErr, IfSome, All, Contains, not, option_map, suc, map, append_assoc, slice_index_or, slice_set, inl, inr, sym, refl, ap, ◌∙◌, subst, arith}
use mathlib.Core.Bool.{cond, false≢true}
use mathlib.Core.List.{IsPrefix}
use Rattle.std.proofs.lemmas.List.{append-nil, get_or-set_same, get_or-set_other}
use Rattle.std.proofs.lemmas.List.Elements.{All-filter, All-map, All-push, All-weaker, Contains-push, filter-append}
use Rattle.change_ring.specs.declared.change.Change.{Change}
use Rattle.change_ring.specs.declared.change.Flags.{Flags}
use Rattle.change_ring.specs.declared.flag_op.FlagOp.{FlagOp}
use Rattle.change_ring.specs.Log.{IsLegalLog, rows_of, arrival, discards, flags_after, flags_logged, removals, removals_if, seen_logged}
use Rattle.cursor_set.specs.Cursors.{CursorHandle}
use Rattle.delivery_token.specs.Text.{Text}
use Rattle.delivery_token.specs.declared.CopyKey.{CopyKey}
use Rattle.delivery_token.specs.declared.Job.{Job}
use Rattle.delivery_token.specs.declared.Refusal.{Refusal}
use Rattle.delivery_token.specs.declared.Verdict.{Verdict}
use Rattle.delivery_token.specs.declared.Verdict.TheVariants.{Stored, Refused}
use Rattle.delivery_token.specs.Keys.{Below, Precedes}
use Rattle.mailbox.specs.Answers.{verdict_of}
use Rattle.mailbox.specs.declared.clients.MailFault.{MailFault}
use Rattle.mailbox.specs.declared.clients.MailFault.TheVariants.{Lapped, NoMemory, Spent, Stranger}
use Rattle.mailbox.specs.declared.clients.Opening.{Opening}
use Rattle.mailbox.specs.declared.clients.Row.{Row}
use Rattle.mailbox.specs.declared.mailbox.Receipt.{Receipt}
use Rattle.mailbox.specs.Events.{in_set, mark, seen_after}
use Rattle.mailbox.specs.Mailbox.{Mailbox, Message, flagged, message_with, next_uid, remaining, row_of, rows, without, Stands}
use Rattle.mailbox.proofs.StandsLaws.{Stands-legal}
use Rattle.workers_sync.specs.Holds.{Discards, DoesAlter, DoesDeliver, DoesDiscard, DoesEnter, DoesExpunge, DoesFeed, DoesLeave, DoesRead, IsEvent}
use Rattle.house_history.specs.declared.event.Event.{Event}
use Rattle.house_history.specs.declared.event.Event.TheVariants.{Judged, Changed}
use Rattle.house_history.specs.declared.event.Step.{Step}
use Rattle.house_history.specs.declared.event.Step.TheVariants.{Alter, Discard, Expunge, Leave, Read}
use Rattle.house_history.specs.Events.{accepted_in, accepted_of, arrives, changes_in, concerns, judged_in, judged_of, logged}
use Rattle.house_history.specs.Legal.{HasText, IsBefore, Legal}
use Rattle.house_history.specs.Views.{MailboxPart}
use Rattle.house_history.proofs.Parts.{push_some, push_none, is_same, itself, same}
use Rattle.house_history.proofs.Follow.{changes_own, changes_push}
use Rattle.house_history.proofs.Standing.{text_in_whole, text_later}
use Rattle.shared_history.specs.Pages.{part}
use Rattle.locked_mailbox.specs.Locking.{Keeps, Knows, LockedMailbox, NotAbove, on_ok}

-- ---- texts

abbrev pub Texts : List Event → ℕ → List Message → Type 0
Texts events n messages = All (λ (m : Message). HasText events n m.uid m.text) messages

same_texts : (events : List Event) (n : ℕ) (old new : List Message) → new ≡ old → Texts events n old → Texts events n new
same_texts events n old new is texts = subst (Texts events n) (sym is) texts

flagged_text : (events : List Event) (n uid : ℕ) (op : FlagOp) (m : Message) (b : Bool) → HasText events n m.uid m.text
    → let x : Message = cond b (record m { flags = flags_after op m.flags }) m in HasText events n x.uid x.text
flagged_text events n uid op m true has = has
flagged_text events n uid op m false has = has

flagged_texts : (events : List Event) (n uid : ℕ) (op : FlagOp) (messages : List Message) → Texts events n messages → Texts events n (flagged uid op messages)
flagged_texts events n uid op messages texts =
    let f : Message → Message = λ m. cond (m.uid == uid) (record m { flags = flags_after op m.flags }) m in
    All-map (λ (m : Message). HasText events n m.uid m.text) f messages (All-weaker (λ m. HasText events n m.uid m.text) (λ m. HasText events n (f m).uid (f m).text) (λ m has. flagged_text events n uid op m (m.uid == uid) has) messages texts)

remaining_texts : (events : List Event) (n : ℕ) (test : ℕ → Bool) (messages : List Message) → Texts events n messages → Texts events n (remaining test messages)
remaining_texts events n test messages texts = All-filter (λ (m : Message). not (m.flags.deleted && test m.uid)) (λ m. HasText events n m.uid m.text) messages texts

seen_texts : (events : List Event) (n uid : ℕ) (mark_seen : Bool) (messages : List Message) → Texts events n messages → Texts events n (seen_after mark_seen uid messages)
seen_texts events n uid true messages texts = flagged_texts events n uid mark messages texts
seen_texts events n uid false messages texts = texts

left_texts : (events : List Event) (n : ℕ) (remove : Bool) (messages : List Message) → Texts events n messages → Texts events n (cond remove (remaining (λ uid. true) messages) messages)
left_texts events n true messages texts = remaining_texts events n (λ uid. true) messages texts
left_texts events n false messages texts = texts

later_texts : (events : List Event) (e : Event) (n : ℕ) (messages : List Message) → Texts events n messages → Texts (events ++ e ∷ []) n messages
later_texts events e n messages texts = All-weaker (λ m. HasText events n m.uid m.text) (λ m. HasText (events ++ e ∷ []) n m.uid m.text) (λ m has. text_later events e n m.uid m.text has) messages texts

no_messages : (messages : List Message) → map row_of messages ≡ [] → messages ≡ []
no_messages [] is = refl
no_messages (m ∷ ms) is = absurd (cc is)

-- a new mailbox
pub empty_keeps : (m : Mailbox) (n : ℕ) (last : List (Option CopyKey)) → n ≡ m.number → Stands m [] → m.accepted ≡ [] → Keeps m n [] last
empty_keeps m n last here stands accepted = record {
  here = here;
  log = stands;
  accepted = accepted;
  texts = same_texts [] n [] m.messages (no_messages m.messages stands.messages) (λ i d l. absurd (omega (arith, l)));
  above = λ p i d l. absurd (omega (arith, l));
}

-- ---- what a client does

-- an event of the mailbox logs what the house's event says
pub change_keeps : (found left : Mailbox) (n : ℕ) (events : List Event) (last : List (Option CopyKey)) (s : Step) (changes : List Change) → Keeps found n events last → IsEvent found left changes
    → changes ≡ logged s (rows found) → Texts events n left.messages → Keeps left n (events ++ Changed n s ∷ []) last
change_keeps found left n events last s changes kept event is texts = let log : List Change = changes_in n events in
    let it : changes_in n (events ++ Changed n s ∷ []) ≡ log ++ changes = changes_push n events (Changed n s) ∙ ap (λ (t : List Change). log ++ t)
    (ap (λ (b : Bool). cond b (logged s (rows_of log)) []) (itself n) ∙ (ap (logged s) (sym kept.log.messages) ∙ sym is)) in record {
      here = kept.here ∙ sym event.same.number;
      log = subst (Stands left) (sym it) (event.logs log kept.log);
      accepted = event.accepted ∙ (kept.accepted ∙ sym (push_none (accepted_of n) events (Changed n s) refl));
      texts = later_texts events (Changed n s) n left.messages texts;
      above = λ p. subst (All (λ j. NotAbove (slice_index_or last p None) j.key)) (sym (push_none (judged_of n p) events (Changed n s) refl)) (kept.above p);
    }

still_keeps : (found left : Mailbox) (n : ℕ) (events : List Event) (last : List (Option CopyKey)) → Keeps found n events last → IsEvent found left [] → left.messages ≡ found.messages → Keeps left n events last
still_keeps found left n events last kept event still = let log : List Change = changes_in n events in record {
  here = kept.here ∙ sym event.same.number;
  log = subst (Stands left) (append-nil log) (event.logs log kept.log);
  accepted = event.accepted ∙ kept.accepted;
  texts = same_texts events n found.messages left.messages still kept.texts;
  above = kept.above;
}

pub same_keeps : (found left : Mailbox) (n : ℕ) (events : List Event) (last : List (Option CopyKey)) → Keeps found n events last → left ≡ found → Keeps left n events last
same_keeps found left n events last kept is = subst (λ (m : Mailbox). Keeps m n events last) (sym is) kept

pub enter_keeps : (found left : Mailbox) (n : ℕ) (events : List Event) (last : List (Option CopyKey)) (result : Result (CursorHandle × Opening) MailFault) → DoesEnter found result left → Keeps found n events last → Keeps left n events last
enter_keeps found left n events last (Ok entered) does kept = still_keeps found left n events last kept does.event (ap (λ (m : Mailbox). m.messages) does.rest)
enter_keeps found left n events last (Err fault) does kept = same_keeps found left n events last kept does.1

pub feed_keeps : (found left : Mailbox) (n : ℕ) (events : List Event) (last : List (Option CopyKey)) (handle next : CursorHandle) (limit : ℕ) (before after : List ℕ) (result : Result ℕ MailFault)
    → DoesFeed found handle limit before after result left next → Keeps found n events last → Keeps left n events last
feed_keeps found left n events last handle next limit before after (Ok count) does kept = still_keeps found left n events last kept does.does.event (ap (λ (m : Mailbox). m.messages) does.does.rest)
feed_keeps found left n events last handle next limit before after (Err fault) does kept = same_keeps found left n events last kept does.refused.same

-- ---- a copy

abbrev Low : List (Option CopyKey) → ℕ → Job → Type 0
Low last p j = NotAbove (slice_index_or last p None) j.key

below_trans : (a b c : CopyKey) → Below a b → Below b c → Below a c
below_trans a b c (inl h) (inl k) = inl (omega (arith, h, k))
below_trans a b c (inl h) (inr (e, k)) = inl (omega (arith, h, e))
below_trans a b c (inr (e, h)) (inl k) = inl (omega (arith, e, k))
below_trans a b c (inr (e, inl h)) (inr (f, inl k)) = inr (e ∙ f, inl (omega (arith, h, k)))
below_trans a b c (inr (e, inl h)) (inr (f, inr (g, k))) = inr (e ∙ f, inl (omega (arith, h, g)))
below_trans a b c (inr (e, inr (d, h))) (inr (f, inl k)) = inr (e ∙ f, inl (omega (arith, d, k)))
below_trans a b c (inr (e, inr (d, h))) (inr (f, inr (g, k))) = inr (e ∙ f, inr (d ∙ g, omega (arith, h, k)))

low_below : (o : Option CopyKey) (a b : CopyKey) → NotAbove o a → ((k : CopyKey) → o ≡ Some k → Precedes k b) → Below a b
low_below None a b low up = absurd low
low_below (Some k) a b (inl e) up = subst (λ (x : CopyKey). Below x b) (sym e) (up k refl).1
low_below (Some k) a b (inr l) up = below_trans a k b l (up k refl).1

pub above : (m : Mailbox) (n : ℕ) (events : List Event) (last : List (Option CopyKey)) (j : Job) → Keeps m n events last → ((k : CopyKey) → slice_index_or last j.key.seat None ≡ Some k → Precedes k j.key)
    → All (λ i. IsBefore i j) (judged_in n j.key.seat events)
above m n events last j kept up = All-weaker (Low last j.key.seat) (λ i. IsBefore i j) (λ i low. low_below (slice_index_or last j.key.seat None) i.key j.key low up) (judged_in n j.key.seat events) (kept.above j.key.seat)

at_seat : (n : ℕ) (events : List Event) (last : List (Option CopyKey)) (j : Job) (v : Verdict) (t : ℕ) → j.mailbox ≡ n → j.key.seat < length last → All (λ i. IsBefore i j) (judged_in n j.key.seat events)
    → ((p : ℕ) → All (Low last p) (judged_in n p events)) → (p : ℕ) (b : Bool) → (j.key.seat == p) ≡ b
    → All (Low (slice_set last j.key.seat (Some j.key)) p) (judged_in n p (events ++ Judged j v t ∷ []))
at_seat n events last j v t here within up low p true is =
    let at : j.key.seat ≡ p = same j.key.seat p is in
    let last' : List (Option CopyKey) = slice_set last j.key.seat (Some j.key) in
    let set : slice_index_or last' p None ≡ Some j.key = ap (λ (k : ℕ). slice_index_or last' k None) (sym at) ∙ get_or-set_same last j.key.seat (Some j.key) None within in
    let old : All (λ i. IsBefore i j) (judged_in n p events) = subst (λ (k : ℕ). All (λ i. IsBefore i j) (judged_in n k events)) at up in
    subst (All (Low last' p)) (sym (push_some (judged_of n p) events (Judged j v t) j (λ i. cond (is_same j.mailbox n here i && is i) (Some j) None)))
    (All-push (Low last' p) (judged_in n p events) j
    (All-weaker (λ i. IsBefore i j) (Low last' p) (λ i less. subst (λ (o : Option CopyKey). NotAbove o i.key) (sym set) (inr less)) (judged_in n p events) old)
    (subst (λ (o : Option CopyKey). NotAbove o j.key) (sym set) (inl refl)))
at_seat n events last j v t here within up low p false is =
    let last' : List (Option CopyKey) = slice_set last j.key.seat (Some j.key) in
    let other : slice_index_or last' p None ≡ slice_index_or last p None = get_or-set_other last j.key.seat p (Some j.key) None (λ (e : p ≡ j.key.seat). absurd (false≢true (sym is ∙ is_same j.key.seat p (sym e)))) in
    subst (All (Low last' p)) (sym (push_none (judged_of n p) events (Judged j v t) (λ i. cond (is_same j.mailbox n here i && is i) (Some j) None)))
    (All-weaker (Low last p) (Low last' p) (λ i l. subst (λ (o : Option CopyKey). NotAbove o i.key) (sym other) l) (judged_in n p events) (low p))

judged_log : (n : ℕ) (events : List Event) (j : Job) (v : Verdict) (t : ℕ) → j.mailbox ≡ n → changes_in n (events ++ Judged j v t ∷ []) ≡ changes_in n events ++ arrives j v
judged_log n events j v t here = changes_push n events (Judged j v t) ∙ ap (λ (l : List Change). changes_in n events ++ l) (ap (λ (b : Bool). cond b (arrives j v) []) (is_same j.mailbox n here))

pub delivered_legal : (m : Mailbox) (n : ℕ) (events : List Event) (last : List (Option CopyKey)) (j : Job) (v : Verdict) (t : ℕ) → j.mailbox ≡ n → Keeps m n (events ++ Judged j v t ∷ []) last → IsLegalLog (changes_in n events ++ arrives j v)
delivered_legal m n events last j v t here kept = subst IsLegalLog (judged_log n events j v t here) (Stands-legal m (changes_in n (events ++ Judged j v t ∷ [])) kept.log)

pub deliver_keeps : (found left : Mailbox) (n : ℕ) (events : List Event) (last : List (Option CopyKey)) (j : Job) (t : ℕ) (delivered : Result Receipt Refusal) → DoesDeliver found j delivered left → Keeps found n events last
    → j.mailbox ≡ n → j.key.seat < length last → ((k : CopyKey) → slice_index_or last j.key.seat None ≡ Some k → Precedes k j.key)
    → Keeps left n (events ++ Judged j (verdict_of delivered) t ∷ []) (slice_set last j.key.seat (Some j.key))
deliver_keeps found left n events last j t (Ok receipt) does kept here within up = let u : ℕ = receipt.uid in let v : Verdict = Stored u in let log : List Change = changes_in n events in record {
  here = kept.here ∙ sym does.event.same.number;
  log = subst (Stands left) (sym (judged_log n events j v t here ∙ ap (λ (k : ℕ). log ++ arrival k j.flags) (ap (λ (r : Receipt). r.uid) does.answers))) (does.event.logs log kept.log);
  accepted = does.event.accepted ∙ (ap (λ (l : List (CopyKey × ℕ)). l ++ (j.key, next_uid found) ∷ []) kept.accepted ∙ (ap (λ (k : ℕ). accepted_in n events ++ (j.key, k) ∷ []) (sym (ap (λ (r : Receipt). r.uid) does.answers))
      ∙ sym (push_some (accepted_of n) events (Judged j v t) (j.key, u) (ap (λ (b : Bool). cond b (Some (j.key, u)) None) (is_same j.mailbox n here)))));
  texts = same_texts (events ++ Judged j v t ∷ []) n (found.messages ++ record { uid = next_uid found; flags = j.flags; text = j.text } ∷ []) left.messages does.messages
      (All-push (λ (m : Message). HasText (events ++ Judged j v t ∷ []) n m.uid m.text) found.messages (record { uid = next_uid found; flags = j.flags; text = j.text }) (later_texts events (Judged j v t) n found.messages kept.texts)
      (j, here, refl, (t, subst (λ (k : ℕ). Contains (events ++ Judged j v t ∷ []) (Judged j (Stored k) t)) (ap (λ (r : Receipt). r.uid) does.answers) (Contains-push events (Judged j v t)))));
  above = λ p. at_seat n events last j v t here within (above found n events last j kept up) kept.above p (j.key.seat == p) refl;
}
deliver_keeps found left n events last j t (Err why) does kept here within up = let v : Verdict = Refused why in let log : List Change = changes_in n events in record {
  here = kept.here ∙ ap (λ (m : Mailbox). m.number) (sym does.1);
  log = subst (Stands left) (sym (judged_log n events j v t here ∙ append-nil log)) (subst (λ (m : Mailbox). Stands m log) (sym does.1) kept.log);
  accepted = ap (λ (m : Mailbox). m.accepted) does.1 ∙ (kept.accepted ∙ sym (push_none (accepted_of n) events (Judged j v t) refl));
  texts = same_texts (events ++ Judged j v t ∷ []) n found.messages left.messages (ap (λ (m : Mailbox). m.messages) does.1) (later_texts events (Judged j v t) n found.messages kept.texts);
  above = λ p. at_seat n events last j v t here within (above found n events last j kept up) kept.above p (j.key.seat == p) refl;
}

-- ---- what who held it knows

prefix_trans : (a b c : List Event) → IsPrefix a b → IsPrefix b c → IsPrefix a c
prefix_trans a b c p q = (p.0 ++ q.0, sym (append_assoc a p.0 q.0) ∙ (ap (λ (l : List Event). l ++ q.0) p.1 ∙ q.1))

-- what had been seen of a mailbox begins what is seen of it now
part_grows : (n : ℕ) (before after events : List Event) → IsPrefix before after → part concerns n after ≡ events → IsPrefix (part concerns n before) events
part_grows n before after events p e = (part concerns n p.0, sym (filter-append (concerns n) before p.0) ∙ (ap (part concerns n) p.1 ∙ e))

abbrev pub held : Mailbox → List Event → List (Option CopyKey) → List Event → LockedMailbox
held m events last history = record { mailbox = m; events = events; last = last; history = history }

knows : (found left : Mailbox) (n : ℕ) (es said : List Event) (last : List (Option CopyKey)) (h before after : List Event) → Keeps found n es last → Keeps left n (es ++ said) last → IsPrefix before after → Legal after
    → IsPrefix (part concerns n before) es → part concerns n after ≡ es ++ said → Knows (held found es last h) (held left (es ++ said) last h) said before after
knows found left n es said last h before after kept keeps goes legal seen own = record {
  goes_on = goes;
  legal = legal;
  same = sym keeps.here ∙ kept.here;
  last = refl;
  history = refl;
  seen = subst (λ (i : ℕ). IsPrefix (part concerns i before) es) kept.here seen;
  events = refl;
  own = subst (λ (i : ℕ). part concerns i after ≡ es ++ said) kept.here own;
  all = subst (λ (i : ℕ). changes_in i after ≡ changes_in i (es ++ said)) kept.here (changes_own n after (es ++ said) own);
  found_log = subst (λ (i : ℕ). Stands found (changes_in i es)) kept.here kept.log;
  left_log = subst (λ (i : ℕ). Stands left (changes_in i (es ++ said))) kept.here keeps.log;
}

-- where the call was refused
pub no_event : {A F : Type 0} (r : Result A F) → IsErr r → (e : Event) → [] ≡ on_ok r e
no_event (Ok x) is e = absurd (cc is)
no_event (Err f) is e = refl

-- where nothing was said
pub looked_keeps : (left : Mailbox) (p looked : MailboxPart) (last : List (Option CopyKey)) → looked ≡ p → Keeps left p.number p.events last → Keeps left looked.number looked.events last
looked_keeps left p looked last same kept = subst (λ (r : MailboxPart). Keeps left r.number r.events last) (sym same) kept

pub looked_knows : (found left : Mailbox) (p looked : MailboxPart) (last : List (Option CopyKey)) (h before after : List Event) → looked ≡ p → Keeps found p.number p.events last → Keeps left p.number p.events last
    → IsPrefix before after × Legal after × (part concerns p.number after ≡ p.events) → Knows (held found p.events last h) (held left looked.events last h) [] before after
looked_knows found left p looked last h before after same kept keeps seen =
    let all : p.events ≡ p.events ++ [] = sym (append-nil p.events) in
    let is : looked.events ≡ p.events ++ [] = ap (λ (r : MailboxPart). r.events) same ∙ all in
    subst (λ (l : List Event). Knows (held found p.events last h) (held left l last h) [] before after) (sym is)
    (knows found left p.number p.events [] last h before after kept (subst (λ (l : List Event). Keeps left p.number l last) all keeps) seen.0 seen.1 (part_grows p.number before after p.events seen.0 seen.2) (seen.2 ∙ all))

-- where an event was
pub changed_keeps : (left : Mailbox) (p looked next : MailboxPart) (last : List (Option CopyKey)) (s : Step) → looked ≡ p → (next.number ≡ looked.number) × (next.events ≡ looked.events ++ Changed looked.number s ∷ [])
    → Keeps left p.number (p.events ++ Changed p.number s ∷ []) last → Keeps left next.number next.events last
changed_keeps left p looked next last s same went keeps =
    let k : Keeps left looked.number (looked.events ++ Changed looked.number s ∷ []) last = subst (λ (r : MailboxPart). Keeps left r.number (r.events ++ Changed r.number s ∷ []) last) (sym same) keeps in
    subst (λ (n : ℕ). Keeps left n next.events last) (sym went.0) (subst (λ (l : List Event). Keeps left looked.number l last) (sym went.1) k)

pub changed_knows : (found left : Mailbox) (p looked next : MailboxPart) (last : List (Option CopyKey)) (s : Step) (h before between after : List Event) → looked ≡ p
    → (next.number ≡ looked.number) × (next.events ≡ looked.events ++ Changed looked.number s ∷ []) → Keeps found p.number p.events last → Keeps left p.number (p.events ++ Changed p.number s ∷ []) last
    → IsPrefix before between × Legal between × (part concerns p.number between ≡ p.events) → IsPrefix between after × Legal after
    → part concerns looked.number after ≡ next.events
    → Knows (held found p.events last h) (held left next.events last h) (Changed found.number s ∷ []) before after
changed_knows found left p looked next last s h before between after same went kept keeps first goes own =
    let said : List Event = Changed p.number s ∷ [] in
    let is : next.events ≡ p.events ++ said = went.1 ∙ ap (λ (r : MailboxPart). r.events ++ Changed r.number s ∷ []) same in
    let here : part concerns p.number after ≡ p.events ++ said = subst (λ (r : MailboxPart). part concerns r.number after ≡ next.events) same own ∙ is in
    subst (λ (n : ℕ). Knows (held found p.events last h) (held left next.events last h) (Changed n s ∷ []) before after) kept.here
    (subst (λ (l : List Event). Knows (held found p.events last h) (held left l last h) said before after) (sym is)
    (knows found left p.number p.events said last h before after kept keeps (prefix_trans before between after first.0 goes.0) goes.1
    (part_grows p.number before between p.events first.0 first.2) here))

pub changed_own : (p looked next : MailboxPart) (s : Step) (after : List Event) → looked ≡ p → (next.number ≡ looked.number) × (next.events ≡ looked.events ++ Changed looked.number s ∷ []) → part concerns looked.number after ≡ next.events
    → part concerns p.number after ≡ p.events ++ Changed p.number s ∷ []
changed_own p looked next s after same went own = subst (λ (r : MailboxPart). part concerns r.number after ≡ r.events ++ Changed r.number s ∷ []) same (own ∙ went.1)

pub read_keeps : (found left : Mailbox) (n : ℕ) (events : List Event) (last : List (Option CopyKey)) (handle : CursorHandle) (uid : ℕ) (mark_seen : Bool) (row : Option Row) → DoesRead found handle uid mark_seen (Ok row) left → Keeps found n events last
    → Keeps left n (events ++ Changed n (Read uid mark_seen) ∷ []) last
read_keeps found left n events last handle uid mark_seen row does kept = change_keeps found left n events last (Read uid mark_seen) (seen_logged mark_seen (rows found) uid) kept does.event refl (same_texts events n _ left.messages does.messages (seen_texts events n uid mark_seen found.messages kept.texts))

pub alter_keeps : (found left : Mailbox) (n : ℕ) (events : List Event) (last : List (Option CopyKey)) (handle : CursorHandle) (uid : ℕ) (op : FlagOp) (flags : Option Flags) → DoesAlter found handle uid op (Ok flags) left → Keeps found n events last
    → Keeps left n (events ++ Changed n (Alter uid op) ∷ []) last
alter_keeps found left n events last handle uid op flags does kept = change_keeps found left n events last (Alter uid op) (flags_logged (rows found) uid op) kept does.event refl (same_texts events n _ left.messages does.messages (flagged_texts events n uid op found.messages kept.texts))

pub expunge_keeps : (found left : Mailbox) (n : ℕ) (events : List Event) (last : List (Option CopyKey)) (handle next : CursorHandle) (uids : Option (List ℕ)) (before after : List ℕ) (gone : ℕ) → DoesExpunge found handle uids before after (Ok gone) left next
    → Keeps found n events last → Keeps left n (events ++ Changed n (Expunge uids) ∷ []) last
expunge_keeps found left n events last handle next uids before after gone does kept = change_keeps found left n events last (Expunge uids) (removals (in_set uids) (rows found)) kept does.does.event refl (same_texts events n _ left.messages does.does.messages (remaining_texts events n (in_set uids) found.messages kept.texts))

pub leave_keeps : (found left : Mailbox) (n : ℕ) (events : List Event) (last : List (Option CopyKey)) (handle : CursorHandle) (remove : Bool) (gone : ℕ) → DoesLeave found handle remove (Ok gone) left → Keeps found n events last
    → Keeps left n (events ++ Changed n (Leave remove) ∷ []) last
leave_keeps found left n events last handle remove gone does kept = change_keeps found left n events last (Leave remove) (removals_if remove (rows found)) kept does.event refl (same_texts events n _ left.messages does.messages (left_texts events n remove found.messages kept.texts))

-- what a mailbox was discarded from is one event of it
discard_event : (found left : Mailbox) (uids : List ℕ) → Discards found uids left → IsEvent found left (discards (in_set (Some uids)) (rows found))
discard_event found left uids does = record {
  found_kept = does.kept;
  left_kept = does.left_kept;
  logs = does.logs;
  same = record {
    number = ap (λ (m : Mailbox). m.number) does.same;
    uidvalidity = ap (λ (m : Mailbox). m.uidvalidity) does.same;
    first_uid = ap (λ (m : Mailbox). m.first_uid) does.same;
    limit = ap (λ (m : Mailbox). m.limit) does.same;
    history = ap (λ (m : Mailbox). m.history) does.same;
  };
  accepted = ap (λ (m : Mailbox). m.accepted) does.same;
}

without_texts : (events : List Event) (n : ℕ) (test : ℕ → Bool) (messages : List Message) → Texts events n messages → Texts events n (without test messages)
without_texts events n test messages texts = All-filter (λ (m : Message). not (test m.uid)) (λ m. HasText events n m.uid m.text) messages texts

pub discard_keeps : (found left : Mailbox) (n : ℕ) (events : List Event) (last : List (Option CopyKey)) (uids : List ℕ) → Discards found uids left → Keeps found n events last
    → Keeps left n (events ++ Changed n (Discard uids) ∷ []) last
discard_keeps found left n events last uids does kept = change_keeps found left n events last (Discard uids) (discards (in_set (Some uids)) (rows found)) kept (discard_event found left uids does) refl
    (same_texts events n _ left.messages does.messages (without_texts events n (in_set (Some uids)) found.messages kept.texts))

pub discard_same : (found left : Mailbox) (uids : List ℕ) (fault : MailFault) → DoesDiscard found uids (Err fault) left → left ≡ found
discard_same found left uids Spent does = does.1
discard_same found left uids Stranger does = absurd does
discard_same found left uids Lapped does = absurd does
discard_same found left uids NoMemory does = absurd does

-- ---- what a read answers

found_text : (events : List Event) (n uid : ℕ) (messages : List Message) → Texts events n messages → IfSome (message_with uid messages) (λ (m : Message). HasText events n m.uid m.text)
found_text events n uid [] texts = tt
found_text events n uid (m ∷ ms) texts = go (m.uid == uid) (found_text events n uid ms (λ i d l. texts (suc i) d (omega (arith, l))))
  where
    go : (b : Bool) → IfSome (message_with uid ms) (λ (x : Message). HasText events n x.uid x.text) → IfSome (cond b (Some m) (message_with uid ms)) (λ (x : Message). HasText events n x.uid x.text)
    go true rest = texts 0 m (omega arith)
    go false rest = rest

answered_text : (events : List Event) (n : ℕ) (f : Message → Row) (o : Option Message) → ((m : Message) → (f m).uid ≡ m.uid) → ((m : Message) → (f m).text ≡ m.text) → IfSome o (λ (m : Message). HasText events n m.uid m.text)
    → IfSome (option_map f o) (λ (r : Row). HasText events n r.uid r.text)
answered_text events n f (Some m) uids texts has = subst (λ (x : ℕ × Text). HasText events n x.0 x.1) (λ i. (sym (uids m) i, sym (texts m) i)) has
answered_text events n f None uids texts has = tt

some_weaker : (o : Option Row) (P Q : Row → Type 0) → ((r : Row) → P r → Q r) → IfSome o P → IfSome o Q
some_weaker (Some r) P Q weaker h = weaker r h
some_weaker None P Q weaker h = tt

-- the text that is read is the one that the history says
pub read_text : (found left : Mailbox) (n : ℕ) (events : List Event) (last : List (Option CopyKey)) (handle : CursorHandle) (uid : ℕ) (mark_seen : Bool) (row : Option Row) (after : List Event)
    → DoesRead found handle uid mark_seen (Ok row) left → Keeps found n events last → Keeps left n (events ++ Changed n (Read uid mark_seen) ∷ []) last → part concerns n after ≡ events ++ Changed n (Read uid mark_seen) ∷ []
    → IfSome row (λ (r : Row). HasText after found.number r.uid r.text)
read_text found left n events last handle uid mark_seen row after does kept keeps own =
    let to : List Event = events ++ Changed n (Read uid mark_seen) ∷ [] in
    let here : IfSome (message_with uid left.messages) (λ (m : Message). HasText to n m.uid m.text) = found_text to n uid left.messages keeps.texts in
    let answered = answered_text to n _ (message_with uid left.messages) (λ m. refl) (λ m. refl) here in
    let told : IfSome row (λ (r : Row). HasText to n r.uid r.text) = subst (λ (o : Option Row). IfSome o (λ (r : Row). HasText to n r.uid r.text)) (sym does.answers) answered in
    let whole : IfSome row (λ (r : Row). HasText after n r.uid r.text) = some_weaker row (λ r. HasText to n r.uid r.text) (λ r. HasText after n r.uid r.text)
    (λ r has. text_in_whole (concerns n) after n r.uid r.text (subst (λ (l : List Event). HasText l n r.uid r.text) (sym own) has)) told in
    subst (λ (k : ℕ). IfSome row (λ (r : Row). HasText after k r.uid r.text)) kept.here whole
