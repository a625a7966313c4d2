-- Messages of a mailbox go by their UIDs, for no session.
use Rattle.std.proofs.Common.{◌≡◌, ℕ, ◌<◌, ◌≤◌, ◌⊎◌, inl, inr, Bool, List, [], length, map, get_or, set, length-set, refl, sym, ap, ◌∙◌, arith, subst, Result, Ok, Err}
use Rattle.std.specs.Prelude.{◌↔◌, ◌+◌, IfErr, OnOk, OnErr}
use Rattle.std.proofs.lemmas.Bool.{cases_lt}
use Rattle.change_ring.specs.declared.change.Change.{Change}
use Rattle.change_ring.specs.Log.{rows_of, discards, total}
use Rattle.cursor_set.specs.Cursors.{CursorSet}
use Rattle.mailbox.specs.declared.clients.MailFault.{MailFault}
use Rattle.mailbox.specs.declared.clients.MailFault.TheVariants.{Stranger, Spent}
use Rattle.mailbox.specs.Events.{Logs as MailLogs, Moves, IsTooMany}
use Rattle.mailbox.specs.Mailbox.{Mailbox, Message, SameMailbox, rows, without}
use Rattle.shard_queue.specs.Lane.{set_at}
use Rattle.world.specs.World.{Config, World, Discard, DiscardStep, discards_them, discard_spent, Logs, Step, most_changes}
use Rattle.world.specs.Law.{IsPart}
use Rattle.world.proofs.Base.{part_filter, part_map}
use Rattle.delivery_core.specs.DeliveryCore.{DeliveryCore}
use Rattle.delivery_core.specs.Attached.{AreAttached}
use Rattle.delivery_core.specs.Stands.{StandsFor, StandsForBox, text_of}
use Rattle.delivery_core.specs.Clients.{IsDiscarded}
use Rattle.delivery_core.proofs.Boxes.{same_rest}
use Rattle.delivery_core.proofs.Follow.{each_set, reached_step, set_back}
use Rattle.delivery_core.proofs.AttachedLaws.{cursors_same}
use Rattle.delivery_core.proofs.MailBoxes.{Becomes, box_logs, same_rows}
use Rattle.delivery_core.proofs.Mailed.{opened_same, stands_after}

-- what a mailbox says of a call that takes messages out: it was refused and nothing changed, or no more than messages and window did
pub record Spares {T : Type 0} (r : Result T MailFault) (b b2 : Mailbox) : Type 0 where
  pub only : IfErr r (λ fault. (fault ≡ Spent) × (b2 ≡ b))
  pub rest : OnOk r (b2 ≡ record b { messages = b2.messages; window = b2.window })

pub spared_cursors : {T : Type 0} (r : Result T MailFault) (b b2 : Mailbox) → Spares r b b2 → b2.cursors ≡ b.cursors
spared_cursors (Ok x) b b2 s = ap (λ (z : Mailbox). z.cursors) s.rest
spared_cursors (Err f) b b2 s = ap (λ (z : Mailbox). z.cursors) s.only.1

pub spared_history : {T : Type 0} (r : Result T MailFault) (b b2 : Mailbox) → Spares r b b2 → b2.history ≡ b.history
spared_history (Ok x) b b2 s = ap (λ (z : Mailbox). z.history) s.rest
spared_history (Err f) b b2 s = ap (λ (z : Mailbox). z.history) s.only.1

pub spared_same : {T : Type 0} (r : Result T MailFault) (b b2 : Mailbox) → Spares r b b2 → OnOk r (SameMailbox b b2)
spared_same (Ok x) b b2 s = same_rest b b2 b2.messages b2.window b.cursors s.rest
spared_same (Err f) b b2 s = tt

pub spared_known : {T : Type 0} (r : Result T MailFault) (b b2 : Mailbox) → Spares r b b2 → r ≡ Err Stranger → ⊥
spared_known (Ok x) b b2 s e = cc
spared_known (Err f) b b2 s e = let only : f ≡ Spent = s.only.0 in cc

pub spared_fault : {T : Type 0} (r : Result T MailFault) (b b2 : Mailbox) → Spares r b b2 → IfErr r (λ fault. (fault ≡ Stranger) ⊎ (fault ≡ Spent))
spared_fault (Ok x) b b2 s = tt
spared_fault (Err f) b b2 s = inr s.only.0

-- it was refused, and so nothing of the core changed
pub spared_core : {T : Type 0} (r : Result T MailFault) (old here : DeliveryCore) (i : ℕ) (b b2 : Mailbox) → Spares r b b2 → i < length old.boxes → b ≡ get_or old.boxes i b → old ≡ here → OnErr r (record old { boxes = set old.boxes i b2 } ≡ here)
spared_core (Ok x) old here i b b2 s l there same = tt
spared_core (Err f) old here i b b2 s l there same =
    ap (λ (bs : List Mailbox). let h : DeliveryCore = record old { boxes = bs } in h) (ap (set old.boxes i) s.only.1 ∙ set_back old.boxes i b l there) ∙ same

without_part : (test : ℕ → Bool) (old new : List Message) → new ≡ without test old → IsPart (map text_of new) (map text_of old)
without_part test old new e = subst (λ (ms : List Message). IsPart (map text_of ms) (map text_of old)) (sym e) (part_map text_of (part_filter _ old))

-- the mailbox of a core stands for this one afterwards
abbrev Goes : Config → World → DeliveryCore → (m i : ℕ) → Mailbox → (ℕ → Bool) → Result (Unit {0}) MailFault → Type 0
Goes k w old m i b2 goes r =
    (v : World) × Step k w (Discard m goes) v × StandsFor k (record old { boxes = set old.boxes i b2 }) v × IsDiscarded k m (discards goes (rows_of (w.box m).log)) w r v

pub discard_follows : (k : Config) (w : World) (old : DeliveryCore) (m i : ℕ) (b b2 : Mailbox) (goes : ℕ → Bool) (r : Result (Unit {0}) MailFault) → StandsFor k old w → i ≡ m → i < length old.boxes → b ≡ get_or old.boxes i b
    → (r ≡ Err Spent) ↔ IsTooMany b (discards goes (rows b)) → Spares r b b2 → OnOk r (MailLogs b b2 (discards goes (rows b))) → OnOk r (Moves b.cursors b.window b2.window (discards goes (rows b)))
    → OnOk r (b2.messages ≡ without goes b.messages) → Goes k w old m i b2 goes r
discard_follows k w old m i b b2 goes r S same within there spends spares logs moves messages = go r spends spares logs moves messages
  where
    here : StandsForBox k b (w.box m)
    here = subst (λ (j : ℕ). StandsForBox k b (w.box j)) same (subst (λ (x : Mailbox). StandsForBox k x (w.box i)) (sym there) (S.boxes i b within))

    mailbox_there : m < k.mailboxes
    mailbox_there = omega (arith, within, same, S.mailboxes)

    rows_same : discards goes (rows b) ≡ discards goes (rows_of (w.box m).log)
    rows_same = ap (discards goes) (same_rows k b (w.box m) here)

    done : (u : Unit {0}) → (IsTooMany b (discards goes (rows b)) → ⊥) → b2 ≡ record b { messages = b2.messages; window = b2.window } → MailLogs b b2 (discards goes (rows b))
        → Moves b.cursors b.window b2.window (discards goes (rows b)) → b2.messages ≡ without goes b.messages → Goes k w old m i b2 goes (Ok u)
    done u few rest logged moved left =
        let room : length (w.box m).log + length (discards goes (rows b)) ≤ most_changes = elim (cases_lt most_changes (total b.window + length (discards goes (rows b)))) [
          | inl many ↦ absurd (few many)
          | inr enough ↦ omega (arith, enough, here.log.window.long)
        ] in
        let y : Becomes k (w.box m) (discards goes (rows b)) b2 = box_logs k b b2 (w.box m) (discards goes (rows b)) b.cursors here room logged moved (without_part goes b.messages b2.messages left)
        (ap (λ (z : Mailbox). z.accepted) rest) (ap (λ (z : Mailbox). z.first_uid) rest) (ap (λ (z : Mailbox). z.limit) rest) (ap (λ (z : Mailbox). z.uidvalidity) rest) in
        let v : World = record w { box = set_at w.box m y.0 } in
        let logs_in = subst (λ (cs : List Change). Logs k (w.box m) cs [] y.0) rows_same y.1 in
        let step : DiscardStep k w m (discards goes (rows_of (w.box m).log)) v = discards_them y.0 mailbox_there logs_in refl in
        let kept : b2.cursors ≡ b.cursors = ap (λ (z : Mailbox). z.cursors) rest in (
          v,
          step,
          stands_after k w v old (set old.boxes i b2) old.clients S (reached_step k w (Discard m goes) v S.reached step)
              (length-set old.boxes i b2) refl refl refl refl refl
              (subst (λ (j : ℕ). (n : ℕ) (d : Mailbox) → n < length (set old.boxes i b2) → StandsForBox k (get_or (set old.boxes i b2) n d) (set_at w.box j y.0 n)) same (each_set (λ x z. StandsForBox k x z) old.boxes w.box i b2 y.0 S.boxes y.2))
              S.clients
              (opened_same old.boxes w.opened i b b2 S.opened within there (ap (λ (s : CursorSet). s.next) kept))
              (subst (λ (all : List CursorSet). AreAttached all old.clients) (sym (cursors_same old.boxes i b b2 within there kept)) S.attached),
          record { there = mailbox_there; mailbox = y.0; logs = logs_in; made = refl },
        )

    spent : (f : MailFault) → f ≡ Spent → b2 ≡ b → (f ≡ Spent → IsTooMany b (discards goes (rows b))) → Goes k w old m i b2 goes (Err f)
    spent f is still many =
        let full : most_changes < length (w.box m).log + length (discards goes (rows_of (w.box m).log)) = omega (arith, many is, here.log.window.long, ap length rows_same) in
        subst (λ (g : MailFault). Goes k w old m i b2 goes (Err g)) (sym is) (
          w,
          discard_spent mailbox_there full refl,
          subst (λ (bs : List Mailbox). StandsFor k (record old { boxes = bs }) w) (sym (ap (set old.boxes i) still ∙ set_back old.boxes i b within there)) S,
          (refl, (mailbox_there, full)),
        )

    go : (q : Result (Unit {0}) MailFault) → (q ≡ Err Spent) ↔ IsTooMany b (discards goes (rows b)) → Spares q b b2 → OnOk q (MailLogs b b2 (discards goes (rows b))) → OnOk q (Moves b.cursors b.window b2.window (discards goes (rows b)))
        → OnOk q (b2.messages ≡ without goes b.messages) → Goes k w old m i b2 goes q
    go (Ok u) spends spares logged moved left = done u (λ many. let e = spends.1 many in cc) spares.rest logged moved left
    go (Err f) spends spares logged moved left = spent f spares.only.0 spares.only.1 (λ e. spends.0 (ap (λ x. Err x) e))
