-- Messages that are met have the texts of their copies.
use Rattle.std.proofs.Common.{◌≡◌, ℕ, suc, ◌==◌, ◌&&◌, Bool, true, false, ap, ap₂, refl, sym, subst, ◌∙◌, List, [], ◌∷◌, arith, All, Contains, Option, Some, None, if◌then◌else◌}
use Rattle.std.proofs.lemmas.Bool.Decides.{Decides-and, Decides-eqb}
use Rattle.std.proofs.lemmas.List.Elements.{All-cons, All-nil}
use Rattle.delivery_token.specs.Text.{Text}
use Rattle.delivery_token.specs.declared.CopyKey.{CopyKey}
use Rattle.delivery_token.specs.declared.Job.{Job}
use Rattle.delivery_token.specs.declared.log.Noted.{Noted}
use Rattle.running_house.specs.Lists.{IsOfCopy, MailboxAgrees}
use Rattle.running_house.specs.Walk.{is_text, pair_with, is_key, copy_with, with_text, with_copy, are_met, MailboxMet}
use Rattle.running_house.proofs.TextLaws.{is_text-Decides}

later : {A : Type 0} (x y : A) (xs : List A) → Contains xs x → Contains (y ∷ xs) x
later x y xs c = (suc c.0, (let u = c.1 in omega (arith, u)), c.2)

first : {A : Type 0} (x : A) (xs : List A) → Contains (x ∷ xs) x
first x xs = (0, omega arith, refl)

-- ---- what is found is there, and what stands behind it too

pub record IsPair (uid : ℕ) (pairs : List (CopyKey × ℕ)) (found : CopyKey × List (CopyKey × ℕ)) : Type 0 where
  pub here : Contains pairs (found.0, uid)
  pub others : (x : CopyKey × ℕ) → Contains found.1 x → Contains pairs x

pair_case : (uid : ℕ) (pair : CopyKey × ℕ) (pairs : List (CopyKey × ℕ)) (b : Bool) → (b ≡ true → pair.1 ≡ uid) → (found : CopyKey × List (CopyKey × ℕ))
    → ((f : CopyKey × List (CopyKey × ℕ)) → pair_with uid pairs ≡ Some f → IsPair uid pairs f)
    → (if b then Some (pair.0, pairs) else pair_with uid pairs) ≡ Some found → IsPair uid (pair ∷ pairs) found
pair_case uid pair pairs true same found before is =
    subst (IsPair uid (pair ∷ pairs)) (some_is is)
    (record { here = subst (λ n. Contains (pair ∷ pairs) (pair.0, n)) (same refl) (first pair pairs); others = λ x h. later x pair pairs h }) where
      some_is : {A : Type 0} {x y : A} → Some x ≡ Some y → x ≡ y
      some_is e = cc
pair_case uid pair pairs false same found before is =
    let h = before found is in
    record { here = later (found.0, uid) pair pairs h.here; others = λ x k. later x pair pairs (h.others x k) }

pub pair_there : (uid : ℕ) (pairs : List (CopyKey × ℕ)) (found : CopyKey × List (CopyKey × ℕ)) → pair_with uid pairs ≡ Some found → IsPair uid pairs found
pair_there uid [] found is = absurd (no is) where
  no : {A : Type 0} {x : A} → None ≡ Some x → ⊥
  no e = cc
pair_there uid (pair ∷ pairs) found is = pair_case uid pair pairs (pair.1 == uid) (Decides-eqb pair.1 uid).0 found (pair_there uid pairs) is

pub record IsTaken (mailbox : ℕ) (key : CopyKey) (copies : List Job) (found : Text × List Job) : Type 0 where
  pub copy : Job
  pub taken : Contains copies copy
  pub here : copy.mailbox ≡ mailbox
  pub key_is : copy.key ≡ key
  pub text : copy.text ≡ found.0
  pub others : (x : Job) → Contains found.1 x → Contains copies x

-- keys that are equal field by field
same_key : (a b : CopyKey) → is_key a b ≡ true → a ≡ b
same_key a b h =
    let e = (Decides-and _ _ (Decides-eqb a.seat b.seat) (Decides-and _ _ (Decides-eqb a.serial b.serial) (Decides-and _ _ (Decides-eqb a.message b.message) (Decides-eqb a.recipient b.recipient)))).0 h in
    ap₂ (λ (x : ℕ × ℕ) (y : ℕ × ℕ). record { seat = x.0; serial = x.1; message = y.0; recipient = y.1 }) (ap₂ (λ s t. (s, t)) e.0 e.1.0) (ap₂ (λ s t. (s, t)) e.1.1.0 e.1.1.1)

copy_case : (mailbox : ℕ) (key : CopyKey) (copy : Job) (copies : List Job) (b : Bool) → (b ≡ true → (copy.mailbox ≡ mailbox) × (copy.key ≡ key)) → (found : Text × List Job)
    → ((f : Text × List Job) → copy_with mailbox key copies ≡ Some f → IsTaken mailbox key copies f)
    → (if b then Some (copy.text, copies) else copy_with mailbox key copies) ≡ Some found → IsTaken mailbox key (copy ∷ copies) found
copy_case mailbox key copy copies true same found before is =
    subst (IsTaken mailbox key (copy ∷ copies)) (some_is is)
    (record { copy = copy; taken = first copy copies; here = (same refl).0; key_is = (same refl).1; text = refl; others = λ x h. later x copy copies h }) where
      some_is : {A : Type 0} {x y : A} → Some x ≡ Some y → x ≡ y
      some_is e = cc
copy_case mailbox key copy copies false same found before is =
    let h = before found is in
    record { copy = h.copy; taken = later h.copy copy copies h.taken; here = h.here; key_is = h.key_is; text = h.text; others = λ x k. later x copy copies (h.others x k) }

pub copy_there : (mailbox : ℕ) (key : CopyKey) (copies : List Job) (found : Text × List Job) → copy_with mailbox key copies ≡ Some found → IsTaken mailbox key copies found
copy_there mailbox key [] found is = absurd (no is) where
  no : {A : Type 0} {x : A} → None ≡ Some x → ⊥
  no e = cc
copy_there mailbox key (copy ∷ copies) found is =
    copy_case mailbox key copy copies (copy.mailbox == mailbox && is_key copy.key key)
    (λ h. let e = (Decides-and _ _ (Decides-eqb copy.mailbox mailbox) (λ k. same_key copy.key key k, λ k. is_same copy.key key k)).0 h in e)
    found (copy_there mailbox key copies) is where
      is_same : (a b : CopyKey) → a ≡ b → is_key a b ≡ true
      is_same a b e = (Decides-and _ _ (Decides-eqb a.seat b.seat) (Decides-and _ _ (Decides-eqb a.serial b.serial) (Decides-and _ _ (Decides-eqb a.message b.message) (Decides-eqb a.recipient b.recipient)))).1
          (ap (λ k. k.seat) e, (ap (λ k. k.serial) e, (ap (λ k. k.message) e, ap (λ k. k.recipient) e)))

-- a copy that is found
pub is_same_key : (mailbox : ℕ) (copy : Job) (key : CopyKey) → copy.mailbox ≡ mailbox → copy.key ≡ key → (copy.mailbox == mailbox && is_key copy.key key) ≡ true
is_same_key mailbox copy key here e =
    let a = copy.key in
    (Decides-and _ _ (Decides-eqb copy.mailbox mailbox) (Decides-and _ _ (Decides-eqb a.seat key.seat) (Decides-and _ _ (Decides-eqb a.serial key.serial) (Decides-and _ _ (Decides-eqb a.message key.message) (Decides-eqb a.recipient key.recipient))))).1
    (here, (ap (λ k. k.seat) e, (ap (λ k. k.serial) e, (ap (λ k. k.message) e, ap (λ k. k.recipient) e))))

-- ---- each message that is met has the text of its copy

false_not_true : false ≡ true → ⊥
false_not_true e = cc

by_text : (mailbox : ℕ) (accepted : List (CopyKey × ℕ)) (copies : List Job) (message : ℕ × Text) (texts : List (ℕ × Text)) (left : List (CopyKey × ℕ) × List Job)
    → ((x : CopyKey × ℕ) → Contains left.0 x → Contains accepted x) → ((x : Job) → Contains left.1 x → Contains copies x) → ((l : List (CopyKey × ℕ) × List Job) → ((x : CopyKey × ℕ) → Contains l.0 x → Contains accepted x) → ((x : Job) → Contains l.1 x → Contains copies x) → are_met mailbox (Some l) texts ≡ true → All (IsOfCopy mailbox accepted copies) texts)
    → (found : CopyKey × List (CopyKey × ℕ)) (got : Text × List Job) → IsPair message.0 left.0 found → IsTaken mailbox found.0 left.1 got → (b : Bool) → (b ≡ true → message.1 ≡ got.0)
    → are_met mailbox (if b then Some (found.1, got.1) else None) texts ≡ true → All (IsOfCopy mailbox accepted copies) (message ∷ texts)
by_text mailbox accepted copies message texts left pairs_in copies_in again found got p t true same k =
    All-cons (IsOfCopy mailbox accepted copies) message texts
    (record {
      copy = t.copy;
      taken = copies_in t.copy t.taken;
      here = t.here;
      pair = subst (λ key. Contains accepted (key, message.0)) (sym t.key_is) (pairs_in (found.0, message.0) p.here);
      text = same refl ∙ sym t.text;
    })
    (again (found.1, got.1) (λ x m. pairs_in x (p.others x m)) (λ x m. copies_in x (t.others x m)) k)
by_text mailbox accepted copies message texts left pairs_in copies_in again found got p t false same k = absurd (false_not_true k)

by_copy : (mailbox : ℕ) (accepted : List (CopyKey × ℕ)) (copies : List Job) (message : ℕ × Text) (texts : List (ℕ × Text)) (left : List (CopyKey × ℕ) × List Job)
    → ((x : CopyKey × ℕ) → Contains left.0 x → Contains accepted x) → ((x : Job) → Contains left.1 x → Contains copies x) → ((l : List (CopyKey × ℕ) × List Job) → ((x : CopyKey × ℕ) → Contains l.0 x → Contains accepted x) → ((x : Job) → Contains l.1 x → Contains copies x) → are_met mailbox (Some l) texts ≡ true → All (IsOfCopy mailbox accepted copies) texts)
    → (found : CopyKey × List (CopyKey × ℕ)) → IsPair message.0 left.0 found → (got : Option (Text × List Job)) → copy_with mailbox found.0 left.1 ≡ got
    → are_met mailbox (with_text message.1 found.1 got) texts ≡ true → All (IsOfCopy mailbox accepted copies) (message ∷ texts)
by_copy mailbox accepted copies message texts left pairs_in copies_in again found p None is k = absurd (false_not_true k)
by_copy mailbox accepted copies message texts left pairs_in copies_in again found p (Some got) is k =
    by_text mailbox accepted copies message texts left pairs_in copies_in again found got p (copy_there mailbox found.0 left.1 got is) (is_text message.1 got.0) (is_text-Decides message.1 got.0).0 k

by_pair : (mailbox : ℕ) (accepted : List (CopyKey × ℕ)) (copies : List Job) (message : ℕ × Text) (texts : List (ℕ × Text)) (left : List (CopyKey × ℕ) × List Job)
    → ((x : CopyKey × ℕ) → Contains left.0 x → Contains accepted x) → ((x : Job) → Contains left.1 x → Contains copies x) → ((l : List (CopyKey × ℕ) × List Job) → ((x : CopyKey × ℕ) → Contains l.0 x → Contains accepted x) → ((x : Job) → Contains l.1 x → Contains copies x) → are_met mailbox (Some l) texts ≡ true → All (IsOfCopy mailbox accepted copies) texts)
    → (found : Option (CopyKey × List (CopyKey × ℕ))) → pair_with message.0 left.0 ≡ found
    → are_met mailbox (with_copy mailbox message.1 left.1 found) texts ≡ true → All (IsOfCopy mailbox accepted copies) (message ∷ texts)
by_pair mailbox accepted copies message texts left pairs_in copies_in again None is k = absurd (false_not_true k)
by_pair mailbox accepted copies message texts left pairs_in copies_in again (Some found) is k =
    by_copy mailbox accepted copies message texts left pairs_in copies_in again found (pair_there message.0 left.0 found is) (copy_with mailbox found.0 left.1) refl k

pub met_of_copies : (mailbox : ℕ) (accepted : List (CopyKey × ℕ)) (copies : List Job) (texts : List (ℕ × Text)) (left : List (CopyKey × ℕ) × List Job)
    → ((x : CopyKey × ℕ) → Contains left.0 x → Contains accepted x) → ((x : Job) → Contains left.1 x → Contains copies x)
    → are_met mailbox (Some left) texts ≡ true → All (IsOfCopy mailbox accepted copies) texts
met_of_copies mailbox accepted copies [] left pairs_in copies_in h = All-nil (IsOfCopy mailbox accepted copies)
met_of_copies mailbox accepted copies (message ∷ texts) left pairs_in copies_in h =
    by_pair mailbox accepted copies message texts left pairs_in copies_in (met_of_copies mailbox accepted copies texts) (pair_with message.0 left.0) refl h

-- one mailbox's lists that are met agree
pub agrees_when_met : (whole : Bool) (logs : List (List Noted)) (copies : List Job) (mailbox : ℕ) (accepted : List (CopyKey × ℕ)) (texts : List (ℕ × Text))
    → MailboxMet whole logs copies mailbox accepted texts → MailboxAgrees whole logs copies mailbox accepted texts
agrees_when_met whole logs copies mailbox accepted texts h =
    record { told = h.told; there = met_of_copies mailbox accepted copies texts (accepted, copies) (λ x m. m) (λ x m. m) h.met; each = h.each }
