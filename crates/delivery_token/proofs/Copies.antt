-- The copies of a message, one after another.
use Rattle.std.proofs.Common.{◌≡◌, refl, ℕ, zero, suc, ◌<◌, ◌≤◌, List, [], ◌∷◌, length, drop, ap, arith, get_or}
use Rattle.std.specs.Prelude.{All, slice_index_or}
use Rattle.std.proofs.lemmas.List.Elements.{All-head, All-tail}
use Rattle.std.proofs.Math.Seq.{drop-nil}
use Rattle.change_ring.specs.declared.change.Flags.{Flags}
use Rattle.delivery_token.specs.declared.CopyKey.{CopyKey}
use Rattle.delivery_token.specs.declared.Job.{Job}
use Rattle.delivery_token.specs.Text.{Text}
use Rattle.delivery_token.specs.Copies.{copies}

pub length-copies : (keys : List CopyKey) (mailboxes : List ℕ) (text : Text) (flags : Flags) → length (copies keys mailboxes text flags) ≤ length keys
length-copies [] mailboxes text flags = omega arith
length-copies (k ∷ ks) [] text flags = omega arith
length-copies (k ∷ ks) (m ∷ ms) text flags = let h = length-copies ks ms text flags in omega (arith, h)

-- the copy at a position, and those behind it
pub drop-copies : (i : ℕ) (keys : List CopyKey) (mailboxes : List ℕ) (text : Text) (flags : Flags) (d : CopyKey) (e : ℕ) → i < length keys → i < length mailboxes
    → drop i (copies keys mailboxes text flags) ≡ record { key = slice_index_or keys i d; mailbox = slice_index_or mailboxes i e; text = text; flags = flags } ∷ drop (suc i) (copies keys mailboxes text flags)
drop-copies i [] ms t f d e h l = absurd (omega arith)
drop-copies i (a ∷ ks) [] t f d e h l = absurd (omega arith)
drop-copies zero (a ∷ ks) (b ∷ ms) t f d e h l = refl
drop-copies (suc i) (a ∷ ks) (b ∷ ms) t f d e h l = drop-copies i ks ms t f d e (omega arith) (omega arith)

-- behind the last copy
pub no-key : (i : ℕ) (keys : List CopyKey) (mailboxes : List ℕ) (text : Text) (flags : Flags) → length keys ≤ i → drop i (copies keys mailboxes text flags) ≡ []
no-key i [] ms t f h = drop-nil i
no-key i (a ∷ ks) [] t f h = drop-nil i
no-key zero (a ∷ ks) (b ∷ ms) t f h = absurd (omega arith)
no-key (suc i) (a ∷ ks) (b ∷ ms) t f h = no-key i ks ms t f (omega arith)

pub no-mailbox : (i : ℕ) (keys : List CopyKey) (mailboxes : List ℕ) (text : Text) (flags : Flags) → length mailboxes ≤ i → drop i (copies keys mailboxes text flags) ≡ []
no-mailbox i [] ms t f h = drop-nil i
no-mailbox i (a ∷ ks) [] t f h = drop-nil i
no-mailbox zero (a ∷ ks) (b ∷ ms) t f h = absurd (omega arith)
no-mailbox (suc i) (a ∷ ks) (b ∷ ms) t f h = no-mailbox i ks ms t f (omega arith)

pub front_within : {A : Type 0} (n : ℕ) (xs : List A) (y : A) (ys : List A) → drop n xs ≡ y ∷ ys → n < length xs
front_within zero [] y ys e = absurd (let x : [] ≡ y ∷ ys = e in cc)
front_within (suc n) [] y ys e = absurd (let x : [] ≡ y ∷ ys = e in cc)
front_within zero (x ∷ xs) y ys e = omega arith
front_within (suc n) (x ∷ xs) y ys e = let h = front_within n xs y ys e in omega (arith, h)

pub behind_front : {A : Type 0} (n : ℕ) (xs : List A) (y : A) (ys : List A) → drop n xs ≡ y ∷ ys → drop (suc n) xs ≡ ys
behind_front zero [] y ys e = absurd (let x : [] ≡ y ∷ ys = e in cc)
behind_front (suc n) [] y ys e = absurd (let x : [] ≡ y ∷ ys = e in cc)
behind_front zero (x ∷ xs) y ys e = let h : xs ≡ ys = cc in h
behind_front (suc n) (x ∷ xs) y ys e = behind_front n xs y ys e

-- the key of the copy at a position
pub front_key : (n : ℕ) (keys : List CopyKey) (mailboxes : List ℕ) (text : Text) (flags : Flags) (c : Job) (cs : List Job) (d : CopyKey) → drop n (copies keys mailboxes text flags) ≡ c ∷ cs → get_or keys n d ≡ c.key
front_key n [] ms t f c cs d e = absurd (let l = front_within n [] c cs e in omega (arith, l))
front_key n (k ∷ ks) [] t f c cs d e = absurd (let l = front_within n [] c cs e in omega (arith, l))
front_key zero (k ∷ ks) (m ∷ ms) t f c cs d e = let h : record { key = k; mailbox = m; text = t; flags = f } ≡ c = cc in ap (λ (j : Job). j.key) h
front_key (suc n) (k ∷ ks) (m ∷ ms) t f c cs d e = front_key n ks ms t f c cs d e

-- the mailbox of the copy at a position
pub front_mailbox : (n : ℕ) (keys : List CopyKey) (mailboxes : List ℕ) (text : Text) (flags : Flags) (c : Job) (cs : List Job) (most : ℕ) → All (λ m. m < most) mailboxes → drop n (copies keys mailboxes text flags) ≡ c ∷ cs → c.mailbox < most
front_mailbox n [] ms t f c cs most a e = absurd (let l = front_within n [] c cs e in omega (arith, l))
front_mailbox n (k ∷ ks) [] t f c cs most a e = absurd (let l = front_within n [] c cs e in omega (arith, l))
front_mailbox zero (k ∷ ks) (m ∷ ms) t f c cs most a e = let h : record { key = k; mailbox = m; text = t; flags = f } ≡ c = cc in let q = ap (λ (j : Job). j.mailbox) h in let p = All-head (λ m. m < most) m ms a in omega (arith, p, q)
front_mailbox (suc n) (k ∷ ks) (m ∷ ms) t f c cs most a e = front_mailbox n ks ms t f c cs most (All-tail (λ m. m < most) m ms a) e

-- all copies are put where none is left
pub all_put : (i : ℕ) (keys : List CopyKey) (mailboxes : List ℕ) (text : Text) (flags : Flags) → length mailboxes ≡ length keys → drop i (copies keys mailboxes text flags) ≡ [] → length keys ≤ i
all_put i [] ms t f e h = omega arith
all_put i (k ∷ ks) [] t f e h = absurd (omega (arith, e))
all_put zero (k ∷ ks) (m ∷ ms) t f e h = absurd (let x : record { key = k; mailbox = m; text = t; flags = f } ∷ copies ks ms t f ≡ [] = h in cc)
all_put (suc i) (k ∷ ks) (m ∷ ms) t f e h = let r = all_put i ks ms t f (omega (arith, e)) h in omega (arith, r)
