-- A mailbox's delivery is the world's.
use Rattle.std.proofs.Common.{◌≡◌, ℕ, ◌+◌, ◌<◌, ◌≤◌, ◌⊎◌, inl, inr, Bool, true, false, ◌||◌, nat_le, nat_lt, [], ◌∷◌, ◌++◌, length, map, refl, sym, ap, ◌∙◌, arith, subst, Result, Ok, Err, OnOk, OnErr, IfOk, ◌≢◌, get_or, set, length-set, get_or-set_same, get_or-set_other, List}
use Rattle.std.specs.Prelude.{◌↔◌}
use Rattle.std.proofs.lemmas.Bool.{cases_eq, leb-true, leb-false}
use Rattle.std.proofs.lemmas.Bool.Decides.{nat_tests}
use Rattle.delivery_core.proofs.Follow.{get_or-any}
use Rattle.std.proofs.lemmas.List.{length-map, map-append}
use Rattle.delivery_token.specs.declared.Job.{Job}
use Rattle.delivery_token.specs.declared.Verdict.TheVariants.{Stored}
use Rattle.delivery_token.specs.declared.Refusal.{Refusal}
use Rattle.delivery_token.specs.declared.Refusal.TheVariants.{Full, MailboxFull, NoMemory, Shut, UidSpent}
use Rattle.change_ring.specs.declared.change.Change.{Change}
use Rattle.change_ring.specs.declared.change.Flags.{Flags}
use Rattle.change_ring.specs.Log.{rows_of, arrival, Window, total, BaseAfter}
use Rattle.change_ring.proofs.WindowLaws.{BaseAfter-less}
use Rattle.cursor_set.specs.Cursors.{CursorSet, CursorHandle}
use Rattle.mailbox.specs.Mailbox.{Mailbox, Message, SameMailbox, next_uid as mail_uid, is_spent, is_full as mail_full, row_of}
use Rattle.mailbox.specs.Events.{Logs as MailLogs, Moves}
use Rattle.mailbox.specs.declared.mailbox.Receipt.{Receipt}
use Rattle.mailbox.specs.declared.history.History.TheVariants.{Kept}
use Rattle.mailbox.proofs.WindowMoves.{moves_base, moves_grows, moves_held, moves_max, moves_most}
use Rattle.world.specs.World.{Config, Box, HasUid, IsSpent, is_full, next_uid}
use Rattle.world.specs.Law.{IsPart, pair_of, pairs}
use Rattle.world.proofs.Base.{part_append}
use Rattle.delivery_core.specs.inner.DeliveryCore.{AreKept}
use Rattle.delivery_core.specs.Stands.{StandsForBox, text_of, accepted_text}
use Rattle.mailbox.specs.Answers.{verdict_of}
use Rattle.delivery_core.specs.inner.Boxes.{BoxDelivers, stores, has_no_uid, has_no_space, has_no_memory}

pub same_uid : (k : Config) (b : Mailbox) (w : Box) → StandsForBox k b w → mail_uid b ≡ next_uid k w
same_uid k b w S = omega (arith, S.first_uid, ap length S.accepted, length-map w.accepted pair_of)

pub same_rows : (k : Config) (b : Mailbox) (w : Box) → StandsForBox k b w → length b.messages ≡ length (rows_of w.log)
same_rows k b w S = sym (length-map b.messages row_of) ∙ ap length S.log.messages

or_false : (a b : Bool) → (a || b) ≡ false → (a ≡ false) × (b ≡ false)
or_false true b e = cc
or_false false b e = (refl, e)

or_true : (a b : Bool) → (a || b) ≡ true → (a ≡ true) ⊎ (b ≡ true)
or_true true b e = inl refl
or_true false b e = inr e

same_arrival : (k : Config) (flags : Flags) (b : Mailbox) (w : Box) → StandsForBox k b w → length (arrival (mail_uid b) flags) ≡ length (arrival (next_uid k w) flags)
same_arrival k flags b w S = ap (λ (u : ℕ). length (arrival u flags)) (same_uid k b w S)

not_less : (a b : ℕ) → nat_lt a b ≡ false → b ≤ a
not_less a b e = grind (arith, nat_tests)

is_less : (a b : ℕ) → nat_lt a b ≡ true → a < b
is_less a b e = grind (arith, nat_tests)

-- the tests of a mailbox, as the facts of its box
has_uid : (k : Config) (flags : Flags) (b : Mailbox) (w : Box) → StandsForBox k b w → is_spent flags b ≡ false → HasUid k flags w
has_uid k flags b w S e =
    let both : (nat_le 4294967295 (mail_uid b) ≡ false) × (nat_lt 4611686018427387904 (total b.window + length (arrival (mail_uid b) flags)) ≡ false) = or_false _ _ e in
    (omega (arith, leb-false _ _ both.0, same_uid k b w S), omega (arith, not_less _ _ both.1, same_arrival k flags b w S, S.log.window.long))

spent : (k : Config) (flags : Flags) (b : Mailbox) (w : Box) → StandsForBox k b w → is_spent flags b ≡ true → IsSpent k flags w
spent k flags b w S e = go (or_true _ _ e)
  where
    go : (nat_le 4294967295 (mail_uid b) ≡ true) ⊎ (nat_lt 4611686018427387904 (total b.window + length (arrival (mail_uid b) flags)) ≡ true) → IsSpent k flags w
    go (inl t) = inl (omega (arith, leb-true _ _ t, same_uid k b w S))
    go (inr t) = inr (omega (arith, is_less _ _ t, same_arrival k flags b w S, S.log.window.long))

full : (k : Config) (b : Mailbox) (w : Box) → StandsForBox k b w → mail_full b ≡ true → is_full k w
full k b w S e = omega (arith, leb-true _ _ e, same_rows k b w S, S.messages)

is_not_full : (k : Config) (b : Mailbox) (w : Box) → StandsForBox k b w → mail_full b ≡ false → length (rows_of w.log) < k.messages
is_not_full k b w S e = omega (arith, leb-false _ _ e, same_rows k b w S, S.messages)

base_after : (k : Config) (b new : Mailbox) (w : Box) (cs : List Change) → StandsForBox k b w → Moves b.cursors b.window new.window cs → BaseAfter k.ring (length w.log) w.base cs new.window.base
base_after k b new w cs S moves =
    subst (λ (n : ℕ). BaseAfter k.ring n w.base cs new.window.base) (sym S.log.window.long)
    (subst (λ (n : ℕ). BaseAfter k.ring (total b.window) n cs new.window.base) S.base
    (BaseAfter-less b.window.capacity k.ring (total b.window) b.window.base cs new.window.base S.ring (moves_base b.cursors b.window new.window cs moves)))

-- where a mailbox neither said that it has no UID nor that it has no room, it has both
open_of : (flags : Flags) (old : Mailbox) (A B : Type 0) → (A → ⊥) → (B → ⊥) → A ↔ (is_spent flags old ≡ true) → B ↔ ((is_spent flags old ≡ false) × (mail_full old ≡ true)) → (is_spent flags old ≡ false) × (mail_full old ≡ false)
open_of flags old A B na nb spends fills = go (is_spent flags old) (mail_full old) spends fills
  where
    go : (s f : Bool) → A ↔ (s ≡ true) → B ↔ ((s ≡ false) × (f ≡ true)) → (s ≡ false) × (f ≡ false)
    go true f a b = absurd (na (a.1 refl))
    go false true a b = absurd (nb (b.1 (refl, refl)))
    go false false a b = (refl, refl)

-- a copy that was stored
stored : (k : Config) (old new : Mailbox) (w : Box) (c : Job) (uid : ℕ) → StandsForBox k old w → (is_spent c.flags old ≡ false) × (mail_full old ≡ false)
    → MailLogs old new (arrival (mail_uid old) c.flags) → new.accepted ≡ old.accepted ++ (c.key, mail_uid old) ∷ []
    → new.messages ≡ old.messages ++ record { uid = mail_uid old; flags = c.flags; text = c.text } ∷ []
    → Moves old.cursors old.window new.window (arrival (mail_uid old) c.flags) → SameMailbox old new → uid ≡ mail_uid old → BoxDelivers k w c (Stored uid) new
stored k old new w c uid S room logs accepts messages drops stays is =
    let n : mail_uid old ≡ next_uid k w = same_uid k old w S in
    let has : HasUid k c.flags w = has_uid k c.flags old w S room.0 in
    stores
    (record { log = w.log ++ arrival (next_uid k w) c.flags; base = new.window.base; accepted = w.accepted ++ (c, next_uid k w) ∷ [] })
    has (is_not_full k old w S room.1)
    (record { room = has.1; log = refl; base = subst (λ (u : ℕ). BaseAfter k.ring (length w.log) w.base (arrival u c.flags) new.window.base) n (base_after k old new w (arrival (mail_uid old) c.flags) S drops); accepted = refl })
    (ap Stored (is ∙ n))
    (record {
      log = rw n at (logs w.log S.log);
      base = refl;
      accepted = accepts ∙ (ap (λ xs. xs ++ (c.key, mail_uid old) ∷ []) S.accepted ∙ (ap (λ u. pairs w.accepted ++ (c.key, u) ∷ []) n ∙ sym (map-append pair_of w.accepted ((c, next_uid k w) ∷ []))));
      texts = subst (λ xs. IsPart xs (map accepted_text (w.accepted ++ (c, next_uid k w) ∷ [])))
          (sym (ap (map text_of) messages ∙ (map-append text_of old.messages (_ ∷ []) ∙ ap (λ u. map text_of old.messages ++ (u, c.text) ∷ []) n)))
          (subst (λ ys. IsPart (map text_of old.messages ++ (next_uid k w, c.text) ∷ []) ys) (sym (map-append accepted_text w.accepted ((c, next_uid k w) ∷ [])))
          (part_append ((next_uid k w, c.text) ∷ []) S.texts));
      first_uid = stays.first_uid ∙ S.first_uid;
      uidvalidity = stays.uidvalidity ∙ S.uidvalidity;
      messages = stays.limit ∙ S.messages;
      ring = omega (arith, S.ring, moves_grows old.cursors old.window new.window (arrival (mail_uid old) c.flags) drops);
      held = moves_held old.cursors old.window new.window (arrival (mail_uid old) c.flags) S.held drops;
      most = moves_most old.cursors old.window new.window (arrival (mail_uid old) c.flags) S.most drops;
      ring_max = moves_max old.cursors old.window new.window (arrival (mail_uid old) c.flags) drops ∙ S.ring_max;
    })

pub box_delivers : (k : Config) (old new : Mailbox) (w : Box) (c : Job) (r : Result Receipt Refusal) → StandsForBox k old w
    → (r ≡ Err UidSpent) ↔ (is_spent c.flags old ≡ true) → (r ≡ Err MailboxFull) ↔ ((is_spent c.flags old ≡ false) × (mail_full old ≡ true)) → (r ≡ Err Full → ⊥) → (r ≡ Err Shut → ⊥)
    → OnErr r (new ≡ old) → OnOk r (MailLogs old new (arrival (mail_uid old) c.flags)) → OnOk r (new.accepted ≡ old.accepted ++ (c.key, mail_uid old) ∷ [])
    → OnOk r (new.messages ≡ old.messages ++ record { uid = mail_uid old; flags = c.flags; text = c.text } ∷ [])
    → OnOk r (Moves old.cursors old.window new.window (arrival (mail_uid old) c.flags)) → OnOk r (SameMailbox old new) → IfOk r (λ x. x ≡ record { mailbox = old.number; key = c.key; uid = mail_uid old; position = length old.accepted })
    → BoxDelivers k w c (verdict_of r) new
box_delivers k old new w c (Ok x) S spends fills queued shut same logs accepts messages drops stays uid = stored k old new w c x.uid S (open_of c.flags old _ _ (λ e. cc) (λ e. cc) spends fills) logs accepts messages drops stays (ap (λ y. y.uid) uid)
box_delivers k old new w c (Err UidSpent) S spends fills queued shut same logs accepts messages drops stays uid = has_no_uid (spent k c.flags old w S (spends.0 refl)) refl (rw same S)
box_delivers k old new w c (Err MailboxFull) S spends fills queued shut same logs accepts messages drops stays uid = has_no_space (has_uid k c.flags old w S (fills.0 refl).0) (full k old w S (fills.0 refl).1) refl (rw same S)
box_delivers k old new w c (Err NoMemory) S spends fills queued shut same logs accepts messages drops stays uid =
    let room : (is_spent c.flags old ≡ false) × (mail_full old ≡ false) = open_of c.flags old _ _ (λ e. cc) (λ e. cc) spends fills in
    has_no_memory (has_uid k c.flags old w S room.0) (is_not_full k old w S room.1) refl (rw same S)
box_delivers k old new w c (Err Full) S spends fills queued shut same logs accepts messages drops stays uid = absurd (queued refl)
box_delivers k old new w c (Err Shut) S spends fills queued shut same logs accepts messages drops stays uid = absurd (shut refl)

pub same_mailbox : (r : Result Receipt Refusal) (old new : Mailbox) → OnOk r (SameMailbox old new) → OnErr r (new ≡ old) → SameMailbox old new
same_mailbox (Ok x) old new same err = same
same_mailbox (Err x) old new same err = rw err (record { number = refl; uidvalidity = refl; first_uid = refl; limit = refl; history = refl })

-- one mailbox of a list took a copy
pub same_boxes : (boxes : List Mailbox) (i : ℕ) (old new : Mailbox) → i < length boxes → old ≡ get_or boxes i old → SameMailbox old new
    → (m : ℕ) (d : Mailbox) → SameMailbox (get_or boxes m d) (get_or (set boxes i new) m d)
same_boxes boxes i old new l there same m d = go (cases_eq m i)
  where
    same_self : (b : Mailbox) → SameMailbox b b
    same_self b = record { number = refl; uidvalidity = refl; first_uid = refl; limit = refl; history = refl }

    was : get_or boxes i d ≡ old
    was = get_or-any boxes i d old l ∙ sym there

    go : (m ≡ i) ⊎ (m ≢ i) → SameMailbox (get_or boxes m d) (get_or (set boxes i new) m d)
    go (inl e) = rw (e, get_or-set_same boxes i new d l, was) same
    go (inr e) = rw (get_or-set_other boxes i m new d e) (same_self (get_or boxes m d))

-- one mailbox of a list became another, which keeps its copies as it did
pub kept_set : (boxes : List Mailbox) (i : ℕ) (old new : Mailbox) → AreKept boxes → old ≡ get_or boxes i old → new.history ≡ old.history → AreKept (set boxes i new)
kept_set boxes i old new kept there same m d l = go (cases_eq m i)
  where
    within : m < length boxes
    within = omega (arith, l, length-set boxes i new)

    go : (m ≡ i) ⊎ (m ≢ i) → (get_or (set boxes i new) m d).history ≡ Kept
    go (inl e) =
        let here : i < length boxes = omega (arith, within, e) in
        ap (λ (j : ℕ). (get_or (set boxes i new) j d).history) e ∙ ap (λ (z : Mailbox). z.history) (get_or-set_same boxes i new d here)
        ∙ same ∙ ap (λ (z : Mailbox). z.history) there ∙ kept i old here
    go (inr other) = ap (λ (z : Mailbox). z.history) (get_or-set_other boxes i m new d other) ∙ kept m d within

-- what a client's call may change of its mailbox
pub same_rest : (b b2 : Mailbox) (ms : List Message) (w : Window) (s : CursorSet) → b2 ≡ record b { messages = ms; window = w; cursors = s } → SameMailbox b b2
same_rest b b2 ms w s is = record {
  number = ap (λ (z : Mailbox). z.number) is;
  uidvalidity = ap (λ (z : Mailbox). z.uidvalidity) is;
  first_uid = ap (λ (z : Mailbox). z.first_uid) is;
  limit = ap (λ (z : Mailbox). z.limit) is;
  history = ap (λ (z : Mailbox). z.history) is;
}

pub same_ok : {T E : Type 0} (r : Result T E) (boxes : List Mailbox) (i : ℕ) (b b2 : Mailbox) → i < length boxes → b ≡ get_or boxes i b → OnOk r (SameMailbox b b2)
    → OnOk r ((m : ℕ) (d : Mailbox) → SameMailbox (get_or boxes m d) (get_or (set boxes i b2) m d))
same_ok (Ok x) boxes i b b2 l there same = same_boxes boxes i b b2 l there same
same_ok (Err x) boxes i b b2 l there same = tt

pub rest_always : {T E : Type 0} (r : Result T E) (b b2 : Mailbox) (ms : List Message) (w : Window) (s : CursorSet) → b2 ≡ record b { messages = ms; window = w; cursors = s } → OnOk r (SameMailbox b b2)
rest_always (Ok x) b b2 ms w s is = same_rest b b2 ms w s is
rest_always (Err x) b b2 ms w s is = tt

-- a call that changes a mailbox, or nothing, leaves how it keeps its copies
pub history_stays : {T E : Type 0} (r : Result T E) (b b2 : Mailbox) (handle handle2 : CursorHandle) (before after : List ℕ) → OnErr r ((b2 ≡ b) × (handle2 ≡ handle) × (after ≡ before)) → OnOk r (SameMailbox b b2) → b2.history ≡ b.history
history_stays (Ok x) b b2 handle handle2 before after err same = same.history
history_stays (Err x) b b2 handle handle2 before after err same = ap (λ (z : Mailbox). z.history) err.0

pub rest_ok : {T E : Type 0} (r : Result T E) (b b2 : Mailbox) (ms : List Message) (w : Window) (s : CursorSet) → OnOk r (b2 ≡ record b { messages = ms; window = w; cursors = s }) → OnOk r (SameMailbox b b2)
rest_ok (Ok x) b b2 ms w s is = same_rest b b2 ms w s is
rest_ok (Err x) b b2 ms w s is = tt
