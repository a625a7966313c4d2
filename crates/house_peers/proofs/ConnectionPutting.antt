-- A copy was put, or a verdict was heard: the connection stands for its caller as before.
use Rattle.std.proofs.Common.{◌≡◌, ◌≢◌, ℕ, zero, suc, ◌+◌, ◌<◌, ◌≤◌, inl, inr, List, [], ◌∷◌, ◌++◌, length, drop, refl, ap, sym, ◌∙◌, subst, arith, Option, Some, None, get_or, length-append, append-nil}
use Rattle.change_ring.specs.Log.{no_flags}
use Rattle.std.specs.Prelude.{All}
use Rattle.std.proofs.lemmas.List.Elements.{All-contains}
use Rattle.delivery_token.specs.Copies.{heard_at_once, copies, SlotsFor}
use Rattle.delivery_token.specs.Keys.{Below, AtLeast, past}
use Rattle.delivery_token.specs.declared.CopyKey.{CopyKey}
use Rattle.delivery_token.specs.declared.Job.{Job}
use Rattle.delivery_token.specs.declared.Refusal.{Refusal}
use Rattle.delivery_token.specs.declared.Verdict.TheVariants.{Refused}
use Rattle.delivery_token.specs.declared.log.Noted.{Noted}
use Rattle.lmtp_machine.specs.Dialogue.{Phase, Setting, Submission, keys_from}
use Rattle.lmtp_machine.specs.Kept.{AreMessages, IsMessage}
use Rattle.delivery_token.specs.Laws.{TellPositions}
use Rattle.delivery_token.specs.Verdicts.{Hears}
use Rattle.delivery_token.specs.inner.Verdicts.{heard_verdict}
use Rattle.delivery_token.proofs.Copies.{behind_front, front_key, front_mailbox, front_within, length-copies}
use Rattle.delivery_token.proofs.Slots.{hears_slots, slot_more, slot_now, slots_push}
use Rattle.house_peers.specs.HouseConnection.{HouseConnection}
use Rattle.house_peers.specs.Caller.{Caller, Terms, copies_of, keys_of, setting_of}
use Rattle.house_peers.specs.Taking.{HearsVerdict, due, noted_put}
use Rattle.house_peers.specs.ConnectionStands.{IsAwaited, StandsForConnection}
use Rattle.house_peers.proofs.Copies.{copies-one, keys-one}

-- ---- keys by their positions

-- the keys of a message are numbered by their positions
pub key_at : (setting : Setting) (message j i : ℕ) (mailboxes : List ℕ) (d : CopyKey) → i < length (keys_from setting message j mailboxes)
    → get_or (keys_from setting message j mailboxes) i d ≡ record { seat = setting.seat; serial = setting.serial; message = message; recipient = j + i }
key_at setting message j i [] d h = absurd (omega arith)
key_at setting message j zero (m ∷ ms) d h = let e : j ≡ j + zero = omega arith in ap (λ (n : ℕ). record { seat = setting.seat; serial = setting.serial; message = message; recipient = n }) e
key_at setting message j (suc i) (m ∷ ms) d h =
    let e : (j + 1) + i ≡ j + suc i = omega arith in
    key_at setting message (j + 1) i ms d (omega arith) ∙ ap (λ (n : ℕ). record { seat = setting.seat; serial = setting.serial; message = message; recipient = n }) e

below_itself : (a : CopyKey) → Below a a → ⊥
below_itself a (inl h) = omega (arith, h)
below_itself a (inr (e, inl h)) = omega (arith, h)
below_itself a (inr (e, inr h)) = omega (arith, h.1)

-- ---- a copy was put

-- the one message at hand, where copies of it are still to be put
one_at_hand : (setting : Setting) (mailboxes : ℕ) (message submitted : ℕ) (pending : List Submission) (n : ℕ) (c : Job) (cs : List Job) → length pending ≤ 1 → AreMessages setting mailboxes message pending submitted → drop n (copies_of pending) ≡ c ∷ cs
    → (s : Submission) × (pending ≡ s ∷ []) × IsMessage setting mailboxes message s
one_at_hand setting mailboxes message submitted [] n c cs few m e = absurd (let l = front_within n [] c cs e in omega (arith, l))
one_at_hand setting mailboxes message submitted (s ∷ []) n c cs few m e = (s, refl, m.0)
one_at_hand setting mailboxes message submitted (s ∷ t ∷ ss) n c cs few m e = absurd (omega (arith, few))

few_pending : (pending : List Submission) (phase : Phase) → IsAwaited pending phase → length pending ≤ 1
few_pending [] phase a = omega arith
few_pending (s ∷ ss) phase a = let e = ap (λ (l : List Submission). length l) a.0 in omega (arith, e)

-- what is known of the copy that is next: its key is that of its position
pub record IsNextCopy (k : Terms) (seat : ℕ) (h : HouseConnection) (b : Caller) (message : ℕ) (c : Job) (others : List Job) : Type 0 where
  pub key : c.key ≡ record { seat = seat; serial = b.serial; message = message; recipient = length h.verdicts }
  pub room : length h.verdicts < length (keys_of b.talk.pending)
  pub few : length (keys_of b.talk.pending) ≤ 100
  pub here : (d : CopyKey) → get_or (keys_of b.talk.pending) (length h.verdicts) d ≡ c.key
  pub each : (i : ℕ) (d : CopyKey) → i < length (keys_of b.talk.pending) → get_or (keys_of b.talk.pending) i d ≡ record { seat = seat; serial = b.serial; message = message; recipient = i }
  pub front : b.to_put ≡ c ∷ others
  pub rest : drop (suc (length h.verdicts)) (copies_of b.talk.pending) ≡ others
  pub mailbox : c.mailbox < length k.directory.homes

module _ (k : Terms) (seat : ℕ) (next : CopyKey) (heard : List Noted) where
  pub next_copy : (h : HouseConnection) (b : Caller) (c : Job) (others : List Job) → (s : StandsForConnection k seat next heard h b) → due h ≡ c ∷ others → IsNextCopy k seat h b s.message c others
  next_copy h b c others s e =
      let n = length h.verdicts in
      let f : drop n (copies_of b.talk.pending) ≡ c ∷ others = ap (λ (ss : List Submission). drop n (copies_of ss)) (sym s.pending) ∙ e in
      let o = one_at_hand (setting_of k seat b.serial) (length k.directory.homes) s.message b.talk.at.standing.submitted b.talk.pending n c others (few_pending b.talk.pending b.talk.at.standing.phase s.awaited) s.numbered f in
      let g : drop n (copies o.0.keys o.0.mailboxes o.0.text no_flags) ≡ c ∷ others = sym (ap (drop n) (copies-one b.talk.pending o.0 o.1)) ∙ f in
      let w = front_within n (copies o.0.keys o.0.mailboxes o.0.text no_flags) c others g in
      let l = length-copies o.0.keys o.0.mailboxes o.0.text no_flags in
      let ks = keys-one b.talk.pending o.0 o.1 in
      let kl = ap (λ (x : List CopyKey). length x) ks in
      let room : n < length (keys_of b.talk.pending) = omega (arith, w, l, kl) in
      let each : (i : ℕ) (d : CopyKey) → i < length (keys_of b.talk.pending) → get_or (keys_of b.talk.pending) i d ≡ record { seat = seat; serial = b.serial; message = s.message; recipient = i }
      = λ i d h. let q = o.2.keys in let ql = ap (λ (x : List CopyKey). length x) q in let z : zero + i ≡ i = omega arith in
      ap (λ (x : List CopyKey). get_or x i d) (ks ∙ q) ∙ key_at (setting_of k seat b.serial) s.message 0 i o.0.mailboxes d (omega (arith, h, kl, ql))
      ∙ ap (λ (m : ℕ). record { seat = seat; serial = b.serial; message = s.message; recipient = m }) z in
      let here : (d : CopyKey) → get_or (keys_of b.talk.pending) n d ≡ c.key = λ d. ap (λ (x : List CopyKey). get_or x n d) ks ∙ front_key n o.0.keys o.0.mailboxes o.0.text no_flags c others d g in
      record {
        key = sym (here c.key) ∙ each n c.key room;
        room = room;
        few = let m = o.2.most in omega (arith, m, kl);
        here = here;
        each = each;
        front = s.to_put ∙ f;
        rest = behind_front n (copies_of b.talk.pending) c others f;
        mailbox = front_mailbox n o.0.keys o.0.mailboxes o.0.text no_flags c others (length k.directory.homes) o.2.each g;
      }

  pub put_stands : (h : HouseConnection) (b : Caller) (c : Job) (others : List Job) (why : Option Refusal) (after : CopyKey) (now : List Noted) → (s : StandsForConnection k seat next heard h b) → IsNextCopy k seat h b s.message c others
      → after ≡ past c.key → All (λ r. Below r.key c.key) heard → now ≡ heard ++ heard_at_once c.key c.mailbox why
      → StandsForConnection k seat after now (noted_put (heard_verdict why) h) (record { serial = b.serial; gone = b.gone; talk = b.talk; to_put = others })
  put_stands h b c others why after now s n ea above en = record {
    serial = s.serial;
    gone = s.gone;
    setting = s.setting;
    host = s.host;
    machine = s.machine;
    waits = s.waits;
    unsaid = s.unsaid;
    pending = s.pending;
    to_put = sym n.rest ∙ ap (λ (m : ℕ). drop m (copies_of b.talk.pending)) longer;
    verdicts = subst (λ (x : List Noted). SlotsFor x (keys_of b.talk.pending) (h.verdicts ++ heard_verdict why ∷ [])) (sym en) (slots why);
    awaited = s.awaited;
    kept = s.kept;
    message = s.message;
    numbered = s.numbered;
    ahead = inl (ea ∙ ap past n.key ∙ ap (λ (m : ℕ). record { seat = seat; serial = b.serial; message = s.message; recipient = m }) longer_by_one);
  }
    where
      longer : suc (length h.verdicts) ≡ length (h.verdicts ++ heard_verdict why ∷ [])
      longer = let l = length-append h.verdicts (heard_verdict why ∷ []) in omega (arith, l)

      longer_by_one : length h.verdicts + 1 ≡ length (h.verdicts ++ heard_verdict why ∷ [])
      longer_by_one = let l = length-append h.verdicts (heard_verdict why ∷ []) in omega (arith, l)

      other_key : (i : ℕ) (d : CopyKey) → i < length h.verdicts → c.key ≢ get_or (keys_of b.talk.pending) i d
      other_key i d lt e = let r = n.room in let x : length h.verdicts ≡ i = ap (λ (q : CopyKey). q.recipient) (sym n.key ∙ e ∙ n.each i d (omega (arith, lt, r))) in omega (arith, x, lt)

      slots : (y : Option Refusal) → SlotsFor (heard ++ heard_at_once c.key c.mailbox y) (keys_of b.talk.pending) (h.verdicts ++ heard_verdict y ∷ [])
      slots None = subst (λ (x : List Noted). SlotsFor x (keys_of b.talk.pending) (h.verdicts ++ None ∷ [])) (sym (append-nil heard))
          (slots_push heard (keys_of b.talk.pending) h.verdicts None n.room s.verdicts.each (λ d r m e. below_itself c.key (subst (λ (x : CopyKey). Below x c.key) (e ∙ n.here d) (All-contains (λ (x : Noted). Below x.key c.key) heard r above m))))
      slots (Some r) = let now : Noted = record { key = c.key; mailbox = c.mailbox; verdict = Refused r } in
          slots_push (heard ++ now ∷ []) (keys_of b.talk.pending) h.verdicts (Some (Refused r)) n.room
          (λ i key d lt. slot_more heard (get_or (keys_of b.talk.pending) i key) (get_or h.verdicts i d) now (s.verdicts.each i key d lt) (other_key i key lt))
          (λ key. slot_now heard (get_or (keys_of b.talk.pending) (length h.verdicts) key) now (sym (n.here key)))

  -- ---- a verdict was heard

  numbers : (b : Caller) (h : HouseConnection) → (s : StandsForConnection k seat next heard h b) → (i : ℕ) (d : CopyKey) → i < length (keys_of b.talk.pending) → get_or (keys_of b.talk.pending) i d ≡ record { seat = seat; serial = b.serial; message = s.message; recipient = i }
  numbers b h s = at b.talk.pending (few_pending b.talk.pending b.talk.at.standing.phase s.awaited) s.numbered
    where
      at : (pending : List Submission) → length pending ≤ 1 → AreMessages (setting_of k seat b.serial) (length k.directory.homes) s.message pending b.talk.at.standing.submitted
          → (i : ℕ) (d : CopyKey) → i < length (keys_of pending) → get_or (keys_of pending) i d ≡ record { seat = seat; serial = b.serial; message = s.message; recipient = i }
      at [] few m i d lt = absurd (omega arith)
      at (t ∷ []) few m i d lt =
          let q = m.0.keys in
          let l = ap (λ (x : List CopyKey). length x) (append-nil t.keys) in
          let ql = ap (λ (x : List CopyKey). length x) q in
          let z : zero + i ≡ i = omega arith in
          ap (λ (x : List CopyKey). get_or x i d) (append-nil t.keys ∙ q) ∙ key_at (setting_of k seat b.serial) s.message 0 i t.mailboxes d (omega (arith, lt, l, ql))
          ∙ ap (λ (n : ℕ). record { seat = seat; serial = b.serial; message = s.message; recipient = n }) z
      at (t ∷ u ∷ us) few m i d lt = absurd (omega (arith, few))

  pub heard_stands : (b : Caller) (h : HouseConnection) (r : Noted) (g : HouseConnection) (now : List Noted) → StandsForConnection k seat next heard h b → HearsVerdict h r g → now ≡ heard ++ r ∷ [] → StandsForConnection k seat next now g b
  heard_stands b h r g now s q en =
      let tell : TellPositions (keys_of b.talk.pending) = λ i d lt. ap (λ (x : CopyKey). x.recipient) (numbers b h s i d lt) in
      let keys = ap keys_of s.pending in
      let o = hears_slots heard (keys_of b.talk.pending) h.verdicts r g.verdicts tell s.verdicts (subst (λ (x : List CopyKey). Hears x h.verdicts r g.verdicts) keys q.hears) in
      subst (λ (x : HouseConnection). StandsForConnection k seat next now x b) (sym q.rest) (record {
        serial = s.serial;
        gone = s.gone;
        setting = s.setting;
        host = s.host;
        machine = s.machine;
        waits = s.waits;
        unsaid = s.unsaid;
        pending = s.pending;
        to_put = s.to_put ∙ ap (λ (m : ℕ). drop m (copies_of b.talk.pending)) (sym o.many);
        verdicts = subst (λ (x : List Noted). SlotsFor x (keys_of b.talk.pending) g.verdicts) (sym en) o.hold;
        awaited = s.awaited;
        kept = s.kept;
        message = s.message;
        numbered = s.numbered;
        ahead = subst (λ (m : ℕ). AtLeast next (record { seat = seat; serial = b.serial; message = s.message; recipient = m })) (sym o.many) s.ahead;
      })
