-- The keys of all copies rise: by connection, by message, by recipient.
use Rattle.std.proofs.Common.{◌≡◌, inl, inr, ℕ, ◌+◌, ◌<◌, ◌≤◌, List, [], ◌∷◌, ◌++◌, length, map, refl, sym, subst, ◌∙◌, length-append, arith}
use Rattle.std.specs.Prelude.{All, AllPairs, flat_map}
use Rattle.std.proofs.lemmas.List.Concat.{flat_map-append}
use Rattle.std.proofs.lemmas.List.Elements.{All-append, All-cons, All-head, All-nil, All-tail, All-weaker}
use Rattle.std.proofs.lemmas.List.Kept.{AllPairs-cons}
use Rattle.delivery_token.specs.declared.CopyKey.{CopyKey}
use Rattle.delivery_token.specs.Keys.{Precedes}
use Rattle.envelope.specs.Names.{Directory}
use Rattle.lane_work.specs.Account.{Premises, setting_at}
use Rattle.lane_work.specs.Talk.{Judged}
use Rattle.lmtp_machine.specs.Dialogue.{Setting, keys_from}
use Rattle.lmtp_machine.specs.Kept.{AreMessages}
use Rattle.running_house.specs.Conversing.{HaveConversed, none, next}
use Rattle.running_house.proofs.FullLaws.{messages_are}

abbrev keys_of : List Judged → List CopyKey
keys_of judged = flat_map (λ (j : Judged). j.message.keys) judged

abbrev Rising : List CopyKey → Type 0
Rising [] = Unit {0}
Rising (k ∷ ks) = All (Precedes k) ks × Rising ks

rising_append : (xs ys : List CopyKey) → Rising xs → Rising ys → All (λ (x : CopyKey). All (Precedes x) ys) xs → Rising (xs ++ ys)
rising_append [] ys h k across = k
rising_append (x ∷ xs) ys h k across =
    let P : CopyKey → Type 0 = λ (z : CopyKey). All (Precedes z) ys in
    (All-append (Precedes x) xs ys h.0 (All-head P x xs across), rising_append xs ys h.1 k (All-tail P x xs across))

rising_pairs : (xs : List CopyKey) → Rising xs → AllPairs Precedes xs
rising_pairs [] h = λ i j d below within. absurd (omega (arith, within))
rising_pairs (x ∷ xs) h = AllPairs-cons Precedes x xs h.0 (rising_pairs xs h.1)

-- ---- one message

-- a key of this message of a connection, of this recipient or a later one
abbrev OfMessage : ℕ → ℕ → ℕ → ℕ → CopyKey → Type 0
OfMessage seat serial message recipient k = (k.seat ≡ seat) × (k.serial ≡ serial) × (k.message ≡ message) × (recipient ≤ k.recipient)

-- a key of this message or a later one
abbrev OfMessages : ℕ → ℕ → ℕ → CopyKey → Type 0
OfMessages seat serial message k = (k.seat ≡ seat) × (k.serial ≡ serial) × (message ≤ k.message)

-- a key of the connections before this one
abbrev OfConnections : ℕ → ℕ → CopyKey → Type 0
OfConnections seat serial k = (k.seat ≡ seat) × (k.serial < serial)

of_message : (setting : Setting) (n i : ℕ) (mailboxes : List ℕ) → All (OfMessage setting.seat setting.serial n i) (keys_from setting n i mailboxes)
of_message setting n i [] = All-nil (OfMessage setting.seat setting.serial n i)
of_message setting n i (m ∷ ms) =
    let k : CopyKey = record { seat = setting.seat; serial = setting.serial; message = n; recipient = i } in
    let P : CopyKey → Type 0 = OfMessage setting.seat setting.serial n i in
    All-cons P k (keys_from setting n (i + 1) ms) (refl, refl, refl, omega arith)
    (All-weaker (OfMessage setting.seat setting.serial n (i + 1)) P (λ x h. (h.0, h.1, h.2, (let u = h.3 in omega (arith, u)))) (keys_from setting n (i + 1) ms) (of_message setting n (i + 1) ms))

message_rises : (setting : Setting) (n i : ℕ) (mailboxes : List ℕ) → Rising (keys_from setting n i mailboxes)
message_rises setting n i [] = tt
message_rises setting n i (m ∷ ms) =
    let k : CopyKey = record { seat = setting.seat; serial = setting.serial; message = n; recipient = i } in (
      All-weaker (OfMessage setting.seat setting.serial n (i + 1)) (Precedes k) (λ x h. (sym h.0, inr (sym h.1, inr (sym h.2, (let u = h.3 in omega (arith, u))))))
          (keys_from setting n (i + 1) ms) (of_message setting n (i + 1) ms),
      message_rises setting n (i + 1) ms,
    )

-- ---- one connection

record Rise (seat serial first : ℕ) (keys : List CopyKey) : Type 0 where
  rising : Rising keys
  own : All (OfMessages seat serial first) keys

messages_rise : (setting : Setting) (directory : Directory) (first last : ℕ) (js : List Judged) → AreMessages setting (length directory.homes) first (map (λ (j : Judged). j.message) js) last
    → Rise setting.seat setting.serial first (keys_of js)
messages_rise setting directory first last [] are = record { rising = tt; own = All-nil (OfMessages setting.seat setting.serial first) }
messages_rise setting directory first last (j ∷ js) are =
    let Here : CopyKey → Type 0 = OfMessage setting.seat setting.serial first 0 in
    let Later : CopyKey → Type 0 = OfMessages setting.seat setting.serial (first + 1) in
    let All_of : CopyKey → Type 0 = OfMessages setting.seat setting.serial first in
    let ks : List CopyKey = j.message.keys in
    let r = messages_rise setting directory (first + 1) last js are.1 in
    let here : All Here ks = subst (All Here) (sym are.0.keys) (of_message setting first 0 j.message.mailboxes) in
    let rises : Rising ks = subst Rising (sym are.0.keys) (message_rises setting first 0 j.message.mailboxes) in
    record {
      rising = rising_append ks (keys_of js) rises r.rising
          (All-weaker Here (λ (x : CopyKey). All (Precedes x) (keys_of js))
          (λ x h. All-weaker Later (Precedes x) (λ y k. (h.0 ∙ sym k.0, inr (h.1 ∙ sym k.1, inl (let u = k.2 in let e = h.2 in omega (arith, u, e))))) (keys_of js) r.own) ks here);
      own = All-append All_of ks (keys_of js)
          (All-weaker Here All_of (λ x h. (h.0, h.1, (let e = h.2 in omega (arith, e)))) ks here)
          (All-weaker Later All_of (λ x h. (h.0, h.1, (let u = h.2 in omega (arith, u)))) (keys_of js) r.own);
    }

-- ---- all connections

record RiseSoFar (seat count : ℕ) (keys : List CopyKey) : Type 0 where
  rising : Rising keys
  own : All (OfConnections seat count) keys

one_more : (seat count : ℕ) (xs ys : List CopyKey) → RiseSoFar seat count xs → Rise seat count 0 ys → RiseSoFar seat (count + 1) (xs ++ ys)
one_more seat count xs ys h k = record {
  rising = rising_append xs ys h.rising k.rising
      (All-weaker (OfConnections seat count) (λ (x : CopyKey). All (Precedes x) ys)
      (λ x p. All-weaker (OfMessages seat count 0) (Precedes x) (λ y q. (p.0 ∙ sym q.0, inl (let u = p.1 in let e = q.1 in omega (arith, u, e)))) ys k.own) xs h.own);
  own = All-append (OfConnections seat (count + 1)) xs ys
      (All-weaker (OfConnections seat count) (OfConnections seat (count + 1)) (λ x p. (p.0, (let u = p.1 in omega (arith, u)))) xs h.own)
      (All-weaker (OfMessages seat count 0) (OfConnections seat (count + 1)) (λ y q. (q.0, (let e = q.1 in omega (arith, e)))) ys k.own);
}

rise_so_far : (house : Premises) (seat : ℕ) {connections replies : List (List ℕ)} {judged : List Judged} → HaveConversed house seat connections replies judged
    → RiseSoFar seat (length connections) (keys_of judged)
rise_so_far house seat none = record { rising = tt; own = All-nil (OfConnections seat 0) }
rise_so_far house seat (next {connections = connections} {judged = judged} bytes own said more h marked d) =
    let setting : Setting = setting_at house seat (length connections) in
    let here = messages_rise setting own 0 _ more (messages_are setting own bytes said more d) in
    let both = one_more seat (length connections) (keys_of judged) (keys_of more) (rise_so_far house seat h) here in
    subst (RiseSoFar seat (length (connections ++ bytes ∷ []))) (sym (flat_map-append (λ (j : Judged). j.message.keys) judged more))
    (subst (λ (n : ℕ). RiseSoFar seat n (keys_of judged ++ keys_of more)) (sym (length-append connections (bytes ∷ []))) both)

pub keys_rise : (house : Premises) (seat : ℕ) {connections replies : List (List ℕ)} {judged : List Judged} → HaveConversed house seat connections replies judged → AllPairs Precedes (keys_of judged)
keys_rise house seat {judged = judged} h = rising_pairs (keys_of judged) (rise_so_far house seat h).rising
