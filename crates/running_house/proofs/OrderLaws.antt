-- Messages that stand in order and have the texts of their copies are met.
use Rattle.std.proofs.Common.{◌≡◌, inl, inr, ℕ, zero, suc, ◌<◌, ◌==◌, ◌&&◌, Bool, true, false, ap, refl, sym, subst, ◌∙◌, List, [], ◌∷◌, length, map, slice_index_or, arith, All, Contains, Option, Some, None, if◌then◌else◌}
use Rattle.std.specs.List.{AllPairs}
use Rattle.std.specs.List.Sorted.{IsStrictlyIncreasing}
use Rattle.std.proofs.lemmas.Bool.Decides.{Decides-eqb}
use Rattle.std.proofs.lemmas.List.Elements.{All-cons, All-nil, All-head, All-tail, All-contains}
use Rattle.std.proofs.lemmas.List.Kept.{AllPairs-from_increasing}
use Rattle.delivery_token.specs.Text.{Text}
use Rattle.delivery_token.specs.declared.CopyKey.{CopyKey}
use Rattle.delivery_token.specs.declared.Job.{Job}
use Rattle.delivery_token.specs.declared.log.Noted.{Noted}
use Rattle.running_house.specs.Lists.{IsOfCopy, MailboxAgrees}
use Rattle.running_house.specs.ListOrder.{AreTakenInOrder, HaveOneText, IsInOrder}
use Rattle.running_house.specs.Walk.{is_text, pair_with, is_key, copy_with, with_text, with_copy, behind, are_met, MailboxMet}
use Rattle.running_house.proofs.MetLaws.{IsTaken, copy_there, is_same_key}
use Rattle.running_house.proofs.TextLaws.{is_text-Decides}

-- ---- numbers that rise

abbrev pub Rising : {A : Type 0} → (A → ℕ) → List A → Type 0
Rising f [] = Unit {0}
Rising f (x ∷ xs) = All (λ y. f x < f y) xs × Rising f xs

all_above : {A : Type 0} (f : A → ℕ) (n : ℕ) (xs : List A) → ((j d : ℕ) → j < length (map f xs) → n < slice_index_or (map f xs) j d) → All (λ y. n < f y) xs
all_above f n [] p = All-nil (λ y. n < f y)
all_above f n (y ∷ ys) p = All-cons (λ y. n < f y) y ys (p 0 0 (omega arith)) (all_above f n ys (λ j d h. p (suc j) d (omega (arith, h))))

rising_pairs : {A : Type 0} (f : A → ℕ) (xs : List A) → AllPairs (λ x y. x < y) (map f xs) → Rising f xs
rising_pairs f [] p = tt
rising_pairs f (x ∷ xs) p =
    (all_above f (f x) xs (λ j d h. p 0 (suc j) d (omega arith) (omega (arith, h))), rising_pairs f xs (λ i j d h k. p (suc i) (suc j) d (omega (arith, h)) (omega (arith, k))))

pub rising : {A : Type 0} (f : A → ℕ) (xs : List A) → IsStrictlyIncreasing (map f xs) → Rising f xs
rising f xs h = rising_pairs f xs (AllPairs-from_increasing (map f xs) h)

-- ---- lists that were taken in order

taken_later : (m : ℕ) (pairs : List (CopyKey × ℕ)) (copy : Job) (copies : List Job) → AreTakenInOrder m pairs copies → AreTakenInOrder m pairs (copy ∷ copies)
taken_later m [] copy copies h = tt
taken_later m (pair ∷ pairs) copy copies h = inr h

taken_behind : (m : ℕ) (pair : CopyKey × ℕ) (pairs : List (CopyKey × ℕ)) (copies : List Job) → AreTakenInOrder m (pair ∷ pairs) copies → AreTakenInOrder m pairs copies
taken_behind m pair pairs [] h = absurd h
taken_behind m pair pairs (copy ∷ copies) (inl h) = taken_later m pairs copy copies h.2
taken_behind m pair pairs (copy ∷ copies) (inr h) = taken_later m pairs copy copies (taken_behind m pair pairs copies h)

if_true : {A : Type 0} (b : Bool) (x y : A) → b ≡ true → (if b then x else y) ≡ x
if_true true x y e = refl
if_true false x y e = absurd (let f : false ≡ true = e in cc)

if_false : {A : Type 0} (b : Bool) (x y : A) → (b ≡ true → ⊥) → (if b then x else y) ≡ y
if_false true x y e = absurd (e refl)
if_false false x y e = refl

-- the first copy with the first pair's key, and those behind it
abbrev pub CopyIsFound : ℕ → CopyKey → List (CopyKey × ℕ) → Option (Text × List Job) → Type 0
CopyIsFound m key pairs got = (found : Text × List Job) × (got ≡ Some found) × AreTakenInOrder m pairs found.1

copy_case : (m : ℕ) (key : CopyKey) (pairs : List (CopyKey × ℕ)) (copy : Job) (copies : List Job) (got : Option (Text × List Job)) (b : Bool) → AreTakenInOrder m pairs copies
    → CopyIsFound m key pairs got → CopyIsFound m key pairs (if b then Some (copy.text, copies) else got)
copy_case m key pairs copy copies got true h k = ((copy.text, copies), refl, h)
copy_case m key pairs copy copies got false h k = k

copy_found : (m : ℕ) (pair : CopyKey × ℕ) (pairs : List (CopyKey × ℕ)) (copies : List Job) → AreTakenInOrder m (pair ∷ pairs) copies → CopyIsFound m pair.0 pairs (copy_with m pair.0 copies)
copy_found m pair pairs [] h = absurd h
copy_found m pair pairs (copy ∷ copies) (inl h) =
    ((copy.text, copies), if_true (copy.mailbox == m && is_key copy.key pair.0) (Some (copy.text, copies)) (copy_with m pair.0 copies) (is_same_key m copy pair.0 h.0 h.1), h.2)
copy_found m pair pairs (copy ∷ copies) (inr h) =
    copy_case m pair.0 pairs copy copies (copy_with m pair.0 copies) (copy.mailbox == m && is_key copy.key pair.0) (taken_behind m pair pairs copies h) (copy_found m pair pairs copies h)

-- the pair with this UID, and those behind it
pub record PairIsFound (m : ℕ) (key : CopyKey) (uid : ℕ) (pairs : List (CopyKey × ℕ)) (copies : List Job) : Type 0 where
  pub others : List (CopyKey × ℕ)
  pub is : pair_with uid pairs ≡ Some (key, others)
  pub taken : AreTakenInOrder m ((key, uid) ∷ others) copies
  pub rise : Rising (λ pair. pair.1) others
  pub above : (x : CopyKey × ℕ) → Contains pairs x → uid < x.1 → Contains others x

pair_found : (m : ℕ) (key : CopyKey) (uid : ℕ) (pairs : List (CopyKey × ℕ)) (copies : List Job) → Rising (λ pair. pair.1) pairs → Contains pairs (key, uid) → AreTakenInOrder m pairs copies
    → PairIsFound m key uid pairs copies
pair_found m key uid [] copies rise (k, under, is) taken = absurd (omega (arith, under))
pair_found m key uid (pair ∷ pairs) copies rise (zero, under, is) taken =
    let e : pair ≡ (key, uid) = is in
    let n : pair.1 ≡ uid = ap (λ p. p.1) e in
    record {
      others = pairs;
      is = if_true (pair.1 == uid) (Some (pair.0, pairs)) (pair_with uid pairs) ((Decides-eqb pair.1 uid).1 n) ∙ ap (λ k. Some (k, pairs)) (ap (λ p. p.0) e);
      taken = subst (λ p. AreTakenInOrder m (p ∷ pairs) copies) e taken;
      rise = rise.1;
      above = λ x c. behind_first x c n;
    } where
      behind_first : (x : CopyKey × ℕ) → Contains (pair ∷ pairs) x → pair.1 ≡ uid → uid < x.1 → Contains pairs x
      behind_first x (zero, under, is) n less = absurd (let e : pair.1 ≡ x.1 = ap (λ p. p.1) is in omega (arith, e, n, less))
      behind_first x (suc k, under, is) n less = (k, (let u = under in omega (arith, u)), is)
pair_found m key uid (pair ∷ pairs) copies rise (suc k, under, is) taken =
    let c : Contains pairs (key, uid) = (k, (let u = under in omega (arith, u)), is) in
    let below : pair.1 < uid = All-contains (λ p. pair.1 < p.1) pairs (key, uid) rise.0 c in
    let f = pair_found m key uid pairs copies rise.1 c (taken_behind m pair pairs copies taken) in
    record {
      others = f.others;
      is = if_false (pair.1 == uid) (Some (pair.0, pairs)) (pair_with uid pairs) (λ t. let e = (Decides-eqb pair.1 uid).0 t in omega (arith, e, below)) ∙ f.is;
      taken = f.taken;
      rise = f.rise;
      above = λ x c less. f.above x (not_first x c below less) less;
    } where
      not_first : (x : CopyKey × ℕ) → Contains (pair ∷ pairs) x → pair.1 < uid → uid < x.1 → Contains pairs x
      not_first x (zero, under, is) below less = absurd (let e : pair.1 ≡ x.1 = ap (λ p. p.1) is in omega (arith, e, below, less))
      not_first x (suc k, under, is) below less = (k, (let u = under in omega (arith, u)), is)

-- each of the pairs has its copy
copy_of : (m : ℕ) (pairs : List (CopyKey × ℕ)) (copies : List Job) → AreTakenInOrder m pairs copies → (pair : CopyKey × ℕ) → Contains pairs pair
    → (copy : Job) × Contains copies copy × (copy.mailbox ≡ m) × (copy.key ≡ pair.0)
copy_of m [] copies h pair (k, under, is) = absurd (omega (arith, under))
copy_of m (x ∷ pairs) [] h pair c = absurd h
copy_of m (x ∷ pairs) (copy ∷ copies) (inl h) pair (zero, under, is) = (copy, (0, omega arith, refl), h.0, h.1 ∙ ap (λ p. p.0) is)
copy_of m (x ∷ pairs) (copy ∷ copies) (inl h) pair (suc k, under, is) =
    let f = copy_of m pairs copies h.2 pair (k, (let u = under in omega (arith, u)), is) in
    (f.0, (suc f.1.0, (let u = f.1.1 in omega (arith, u)), f.1.2), f.2, f.3)
copy_of m (x ∷ pairs) (copy ∷ copies) (inr h) pair c =
    let f = copy_of m (x ∷ pairs) copies h pair c in
    (f.0, (suc f.1.0, (let u = f.1.1 in omega (arith, u)), f.1.2), f.2, f.3)

-- ---- one message after another

all_both : {A : Type 0} (P Q R : A → Type 0) → ((x : A) → P x → Q x → R x) → (xs : List A) → All P xs → All Q xs → All R xs
all_both P Q R both [] p q = All-nil R
all_both P Q R both (x ∷ xs) p q = All-cons R x xs (both x (All-head P x xs p) (All-head Q x xs q)) (all_both P Q R both xs (All-tail P x xs p) (All-tail Q x xs q))

still_of_copy : (m : ℕ) (pairs less : List (CopyKey × ℕ)) (copies fewer : List Job) (uid : ℕ) → ((x : CopyKey × ℕ) → Contains pairs x → uid < x.1 → Contains less x)
    → ((x : Job) → Contains fewer x → Contains copies x) → HaveOneText m copies → AreTakenInOrder m less fewer
    → (t : ℕ × Text) → uid < t.0 → IsOfCopy m pairs copies t → IsOfCopy m less fewer t
still_of_copy m pairs less copies fewer uid above others once taken t later c =
    let p = above (c.copy.key, t.0) c.pair later in
    let f = copy_of m less fewer taken (c.copy.key, t.0) p in
    record {
      copy = f.0;
      taken = f.1;
      here = f.2;
      pair = subst (λ k. Contains less (k, t.0)) (sym f.3) p;
      text = c.text ∙ once c.copy f.0 c.taken (others f.0 f.1) c.here f.2 (sym f.3);
    }

pub met_in_order : (m : ℕ) (texts : List (ℕ × Text)) (pairs : List (CopyKey × ℕ)) (copies : List Job) → Rising (λ pair. pair.1) pairs → Rising (λ t. t.0) texts → AreTakenInOrder m pairs copies
    → HaveOneText m copies → All (IsOfCopy m pairs copies) texts → are_met m (Some (pairs, copies)) texts ≡ true
met_in_order m [] pairs copies rise texts_rise taken once all = refl
met_in_order m (t ∷ texts) pairs copies rise texts_rise taken once all =
    let c : IsOfCopy m pairs copies t = All-head (IsOfCopy m pairs copies) t texts all in
    let p : PairIsFound m c.copy.key t.0 pairs copies = pair_found m c.copy.key t.0 pairs copies rise c.pair taken in
    let f : CopyIsFound m c.copy.key p.others (copy_with m c.copy.key copies) = copy_found m (c.copy.key, t.0) p.others copies p.taken in
    let k : IsTaken m c.copy.key copies f.0 = copy_there m c.copy.key copies f.0 f.1 in
    let same : t.1 ≡ f.0.0 = c.text ∙ once c.copy k.copy c.taken k.taken c.here k.here (sym k.key_is) ∙ k.text in
    let e : behind m t (pairs, copies) ≡ Some (p.others, f.0.1) =
    ap (with_copy m t.1 copies) p.is ∙ ap (with_text t.1 p.others) f.1 ∙ if_true (is_text t.1 f.0.0) (Some (p.others, f.0.1)) None ((is_text-Decides t.1 f.0.0).1 same) in
    ap (λ l. are_met m l texts) e
    ∙ met_in_order m texts p.others f.0.1 p.rise texts_rise.1 f.2 (λ a b x y. once a b (k.others a x) (k.others b y))
    (all_both (λ x. t.0 < x.0) (IsOfCopy m pairs copies) (IsOfCopy m p.others f.0.1) (still_of_copy m pairs p.others copies f.0.1 t.0 p.above k.others once f.2) texts
    texts_rise.0 (All-tail (IsOfCopy m pairs copies) t texts all))

-- one mailbox's lists that agree and stand in order are met
pub met_when_in_order : (whole : Bool) (logs : List (List Noted)) (copies : List Job) (m : ℕ) (accepted : List (CopyKey × ℕ)) (texts : List (ℕ × Text))
    → IsInOrder copies m accepted texts → MailboxAgrees whole logs copies m accepted texts → MailboxMet whole logs copies m accepted texts
met_when_in_order whole logs copies m accepted texts order h = record {
  told = h.told;
  met = met_in_order m texts accepted copies (rising (λ pair. pair.1) accepted order.accepted_rise) (rising (λ t. t.0) texts order.texts_rise) order.taken order.once h.there;
  each = h.each;
}
