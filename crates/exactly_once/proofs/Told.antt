-- What was told at a seat: verdicts on its own copies, as it heard them, by their keys in order.
use Rattle.std.proofs.Common.{◌≡◌, ℕ, ◌+◌, ◌<◌, ◌≤◌, ◌⊎◌, inl, inr, List, [], ◌∷◌, ◌++◌, map, Contains, refl, sym, ap, ◌∙◌, subst, arith}
use Rattle.delivery_token.specs.Keys.{Below}
use Rattle.delivery_token.specs.declared.CopyKey.{CopyKey}
use Rattle.delivery_token.specs.declared.Verdict.{Verdict}
use Rattle.delivery_token.specs.declared.log.Noted.{Noted}
use Rattle.lmtp_machine.specs.Dialogue.{Setting, Submission, keys_from}
use Rattle.house_peers.specs.Speech.{AreNumbered}
use Rattle.house_peers.specs.AnyCaller.{keys_of}
use Rattle.delivery_token.specs.Copies.{HeardFor}
use Rattle.world.proofs.Base.{Every, Rising, every_append, every_weaker}
use Rattle.world.proofs.Always.{every_front}

-- ---- lists in order

pub rising_append : {A : Type 0} (R : A → A → Type 0) (xs ys : List A) → Rising R xs → Rising R ys → Every (λ x. Every (R x) ys) xs → Rising R (xs ++ ys)
rising_append R [] ys h k all = k
rising_append R (x ∷ xs) ys h k all = (every_append (R x) xs ys h.0 all.0, rising_append R xs ys h.1 k all.1)

pub rising_front : {A : Type 0} (R : A → A → Type 0) (xs ys : List A) → Rising R (xs ++ ys) → Rising R xs
rising_front R [] ys h = tt
rising_front R (x ∷ xs) ys h = (every_front (R x) xs ys h.0, rising_front R xs ys h.1)

every_of_map : {A B : Type 0} (P : B → Type 0) (f : A → B) (xs : List A) → Every P (map f xs) → Every (λ x. P (f x)) xs
every_of_map P f [] h = tt
every_of_map P f (x ∷ xs) h = (h.0, every_of_map P f xs h.1)

rising_of_map : {A B : Type 0} (R : B → B → Type 0) (f : A → B) (xs : List A) → Rising R (map f xs) → Rising (λ a b. R (f a) (f b)) xs
rising_of_map R f [] h = tt
rising_of_map R f (x ∷ xs) h = (every_of_map (R (f x)) f xs h.0, rising_of_map R f xs h.1)

pub every_both : {A : Type 0} (P Q : A → Type 0) (xs : List A) → Every P xs → Every Q xs → Every (λ x. P x × Q x) xs
every_both P Q [] h k = tt
every_both P Q (x ∷ xs) h k = ((h.0, k.0), every_both P Q xs h.1 k.1)

-- ---- keys

-- a key before those of the connection of this serial, from its message of this number on
abbrev pub IsBefore : ℕ → ℕ → CopyKey → Type 0
IsBefore serial message key = (key.serial < serial) ⊎ ((key.serial ≡ serial) × (key.message < message))

abbrev pub InOrder : Noted → Noted → Type 0
InOrder a b = Below a.key b.key

-- of a verdict that was told at a seat
abbrev pub IsTold : ℕ → List Noted → ℕ → ℕ → Noted → Type 0
IsTold seat heard serial message noted = (noted.key.seat ≡ seat) × Contains heard noted × IsBefore serial message noted.key

-- of all that were
pub record AreTold (seat : ℕ) (heard : List Noted) (serial message : ℕ) (told : List Noted) : Type 0 where
  pub rising : Rising InOrder told
  pub each : Every (IsTold seat heard serial message) told

pub none_told : (seat : ℕ) (heard : List Noted) (serial message : ℕ) → AreTold seat heard serial message []
none_told seat heard serial message = record { rising = tt; each = tt }

-- more was heard, and later keys come next
pub told_grows : (seat : ℕ) (heard more : List Noted) (serial message later number : ℕ) (told : List Noted) → ((n : Noted) → Contains heard n → Contains more n)
    → ((key : CopyKey) → IsBefore serial message key → IsBefore later number key) → AreTold seat heard serial message told → AreTold seat more later number told
told_grows seat heard more serial message later number told grows before h = record {
  rising = h.rising;
  each = every_weaker (IsTold seat heard serial message) (IsTold seat more later number) (λ n x. (x.0, grows n x.1, before n.key x.2)) told h.each;
}

pub told_front : (seat : ℕ) (heard : List Noted) (serial message : ℕ) (told others : List Noted) → AreTold seat heard serial message (told ++ others) → AreTold seat heard serial message told
told_front seat heard serial message told others h = record {
  rising = rising_front InOrder told others h.rising;
  each = every_front (IsTold seat heard serial message) told others h.each;
}

-- a connection that is gone
pub before_next : (serial message next : ℕ) → serial < next → (key : CopyKey) → IsBefore serial message key → IsBefore next 0 key
before_next serial message next l key (inl b) = inl (omega (arith, l, b))
before_next serial message next l key (inr b) = let e = b.0 in inl (omega (arith, l, e))

-- a seat whose next connection comes later
pub before_later : (next later : ℕ) → next ≤ later → (key : CopyKey) → IsBefore next 0 key → IsBefore later 0 key
before_later next later l key (inl b) = inl (omega (arith, l, b))
before_later next later l key (inr b) = absurd (let x = b.1 in omega (arith, x))

before_message : (serial first number : ℕ) → first ≤ number → (key : CopyKey) → IsBefore serial first key → IsBefore serial number key
before_message serial first number l key (inl b) = inl b
before_message serial first number l key (inr b) = inr (b.0, let x = b.1 in omega (arith, l, x))

-- ---- the keys of the messages that are awaited

-- a key of one of a connection's messages, from the first number and below the last
abbrev pub IsWithin : Setting → ℕ → ℕ → CopyKey → Type 0
IsWithin setting first number key = (key.seat ≡ setting.seat) × (key.serial ≡ setting.serial) × (first ≤ key.message) × (key.message < number)

from_first : (setting : Setting) (message i : ℕ) (mailboxes : List ℕ) → Every (λ key. (key.seat ≡ setting.seat) × (key.serial ≡ setting.serial) × (key.message ≡ message) × (i ≤ key.recipient)) (keys_from setting message i mailboxes)
from_first setting message i [] = tt
from_first setting message i (m ∷ ms) = ((refl, refl, refl, omega arith), every_weaker _ _ (λ key x. (x.0, x.1, x.2, let l = x.3 in omega (arith, l))) (keys_from setting message (i + 1) ms) (from_first setting message (i + 1) ms))

from_rising : (setting : Setting) (message i : ℕ) (mailboxes : List ℕ) → Rising Below (keys_from setting message i mailboxes)
from_rising setting message i [] = tt
from_rising setting message i (m ∷ ms) = (
  every_weaker _ (Below (record { seat = setting.seat; serial = setting.serial; message = message; recipient = i }))
      (λ key x. inr (sym x.1, inr (sym x.2, let l = x.3 in omega (arith, l)))) (keys_from setting message (i + 1) ms) (from_first setting message (i + 1) ms),
  from_rising setting message (i + 1) ms,
)

never_falls : (setting : Setting) (mailboxes : ℕ) (first : ℕ) (pending : List Submission) (number : ℕ) → AreNumbered setting first pending number → first ≤ number
never_falls setting mailboxes first [] number h = omega (arith, h)
never_falls setting mailboxes first (s ∷ ss) number h = let l = never_falls setting mailboxes (first + 1) ss number h.1 in omega (arith, l)

pub pending_within : (setting : Setting) (mailboxes : ℕ) (first : ℕ) (pending : List Submission) (number : ℕ) → AreNumbered setting first pending number
    → Every (IsWithin setting first number) (keys_of pending)
pending_within setting mailboxes first [] number h = tt
pending_within setting mailboxes first (s ∷ ss) number h =
    let more = never_falls setting mailboxes (first + 1) ss number h.1 in
    let here : Every (IsWithin setting first number) s.keys = subst (Every (IsWithin setting first number)) (sym h.0)
    (every_weaker _ (IsWithin setting first number) (λ key x. (x.0, x.1, let e = x.2 in omega (arith, e), let e = x.2 in omega (arith, e, more)))
    (keys_from setting first 0 s.mailboxes) (from_first setting first 0 s.mailboxes)) in
    every_append (IsWithin setting first number) s.keys (keys_of ss) here
    (every_weaker (IsWithin setting (first + 1) number) (IsWithin setting first number) (λ key x. (x.0, x.1, let l = x.2 in omega (arith, l), x.3)) (keys_of ss)
    (pending_within setting mailboxes (first + 1) ss number h.1))

pub pending_rising : (setting : Setting) (mailboxes : ℕ) (first : ℕ) (pending : List Submission) (number : ℕ) → AreNumbered setting first pending number → Rising Below (keys_of pending)
pending_rising setting mailboxes first [] number h = tt
pending_rising setting mailboxes first (s ∷ ss) number h =
    rising_append Below s.keys (keys_of ss) (subst (Rising Below) (sym h.0) (from_rising setting first 0 s.mailboxes)) (pending_rising setting mailboxes (first + 1) ss number h.1)
    (subst (Every (λ a. Every (Below a) (keys_of ss))) (sym h.0)
    (every_weaker _ (λ a. Every (Below a) (keys_of ss))
    (λ a x. every_weaker (IsWithin setting (first + 1) number) (Below a) (λ b y. inr (x.1 ∙ sym y.1, inl (let e = x.2 in let l = y.2 in omega (arith, e, l)))) (keys_of ss)
    (pending_within setting mailboxes (first + 1) ss number h.1))
    (keys_from setting first 0 s.mailboxes) (from_first setting first 0 s.mailboxes)))

-- ---- the verdicts on them

-- the verdicts that were heard for these keys, one for each
pub record Heard (heard : List Noted) (keys : List CopyKey) (vs : List Verdict) : Type 0 where
  pub notes : List Noted
  pub keys_are : map (λ n. n.key) notes ≡ keys
  pub verdicts_are : map (λ n. n.verdict) notes ≡ vs
  pub each : Every (Contains heard) notes

pub heard_for : (heard : List Noted) (keys : List CopyKey) (vs : List Verdict) → HeardFor heard keys vs → Heard heard keys vs
heard_for heard [] [] h = record { notes = []; keys_are = refl; verdicts_are = refl; each = tt }
heard_for heard [] (v ∷ vs) h = absurd h
heard_for heard (key ∷ keys) [] h = absurd h
heard_for heard (key ∷ keys) (v ∷ vs) h =
    let more = heard_for heard keys vs h.1 in
    record {
      notes = record { key = key; mailbox = h.0.0; verdict = v } ∷ more.notes;
      keys_are = ap (λ (x : List CopyKey). key ∷ x) more.keys_are;
      verdicts_are = ap (λ (x : List Verdict). v ∷ x) more.verdicts_are;
      each = (h.0.1, more.each);
    }

-- the verdicts on the messages that were awaited are told after all others
pub told_more : (seat serial : ℕ) (heard : List Noted) (setting : Setting) (mailboxes : ℕ) (first number : ℕ) (pending : List Submission) (vs : List Verdict) (told : List Noted)
    → setting.seat ≡ seat → setting.serial ≡ serial → AreNumbered setting first pending number → (h : Heard heard (keys_of pending) vs) → AreTold seat heard serial first told
    → AreTold seat heard serial number (told ++ h.notes)
told_more seat serial heard setting mailboxes first number pending vs told at_seat of_serial messages h t =
    let within : Every (λ n. IsWithin setting first number n.key) h.notes = every_of_map (IsWithin setting first number) (λ n. n.key) h.notes
    (subst (Every (IsWithin setting first number)) (sym h.keys_are) (pending_within setting mailboxes first pending number messages)) in
    let l = never_falls setting mailboxes first pending number messages in
    record {
      rising = rising_append InOrder told h.notes t.rising (rising_of_map Below (λ n. n.key) h.notes (subst (Rising Below) (sym h.keys_are) (pending_rising setting mailboxes first pending number messages)))
          (every_weaker (IsTold seat heard serial first) (λ a. Every (InOrder a) h.notes)
          (λ a x. every_weaker (λ n. IsWithin setting first number n.key) (InOrder a) (λ b y. below a b x.2 (y.1 ∙ of_serial) y.2) h.notes within) told t.each);
      each = every_append (IsTold seat heard serial number) told h.notes
          (every_weaker (IsTold seat heard serial first) (IsTold seat heard serial number) (λ n x. (x.0, x.1, before_message serial first number l n.key x.2)) told t.each)
          (every_weaker (λ n. IsWithin setting first number n.key × Contains heard n) (IsTold seat heard serial number) (λ n x. (x.0.0 ∙ at_seat, x.1, inr (x.0.1 ∙ of_serial, x.0.3))) h.notes
          (every_both (λ n. IsWithin setting first number n.key) (Contains heard) h.notes within h.each));
    }
  where
    below : (a b : Noted) → IsBefore serial first a.key → b.key.serial ≡ serial → first ≤ b.key.message → Below a.key b.key
    below a b (inl x) e l = inl (omega (arith, x, e))
    below a b (inr x) e l = inr (x.0 ∙ sym e, inl (let y = x.1 in omega (arith, y, l)))

-- they are on the connection's own copies
pub of_connection : (heard : List Noted) (setting : Setting) (mailboxes : ℕ) (first number : ℕ) (pending : List Submission) (vs : List Verdict) → AreNumbered setting first pending number
    → (h : Heard heard (keys_of pending) vs) → Every (λ n. n.key.serial ≡ setting.serial) h.notes
of_connection heard setting mailboxes first number pending vs messages h =
    every_of_map (λ key. key.serial ≡ setting.serial) (λ n. n.key) h.notes
    (subst (Every (λ key. key.serial ≡ setting.serial)) (sym h.keys_are)
    (every_weaker (IsWithin setting first number) (λ key. key.serial ≡ setting.serial) (λ key x. x.1) (keys_of pending) (pending_within setting mailboxes first pending number messages)))
