-- What the producers know of the history together.
use Rattle.std.proofs.Common.{◌≡◌, ◌<◌, ◌≤◌, ◌+◌, ◌++◌, ◌∙◌, ℕ, zero, suc, Vec, List, [], ◌∷◌, All, length, map, take, sym, ap, slice_index_or, subst, arith}
use mathlib.Core.List.{IsPrefix}
use Rattle.std.proofs.lemmas.List.{length-take-le, take_all, take_more}
use Rattle.std.proofs.lemmas.List.Elements.{All-append, All-cons, All-head, All-nil, All-tail, All-weaker}
use Rattle.shard_queue.specs.Permits.{said}
use Rattle.shard_queue.specs.Reply.{received}
use Rattle.house_history.specs.declared.event.Event.{Event}
use Rattle.house_history.specs.Events.{accepted_in, sent_by}
use Rattle.house_history.specs.Legal.{Legal}
use Rattle.lane_work.specs.Backing.{IsBackedBy}
use Rattle.lane_work.specs.declared.worker.Worked.{Worked}
use Rattle.lane_work.proofs.BackingLaws.{backed_later, goes_farther}
use Rattle.house_shared.specs.Crew.{AllAt}
use Rattle.reckoning.specs.Histories.{AreBacked, IsKnownIn}
use Rattle.reckoning.specs.inner.Histories.{HasSentAll, IsKnown}
use Rattle.reckoning.specs.Shelves.{HasAccepted, IsTaught}
use Rattle.delivery_token.specs.declared.CopyKey.{CopyKey}
use Rattle.std.specs.Global.{Global}
use Rattle.locked_mailbox.specs.Locking.{LockedMailbox}

-- one more of those in front
pub one_more : {A : Type 0} (P : A → Type 0) (xs : List A) (n : ℕ) (x : A) → n < length xs → x ≡ slice_index_or xs n x → P x → All P (take n xs) → All P (take (n + 1) xs)
one_more P xs n x within is here all =
    let e : take (n + 1) xs ≡ take n xs ++ x ∷ [] = take_more xs n x within ∙ ap (λ y. take n xs ++ y ∷ []) (sym is) in
    subst (All P) (sym e) (All-append P (take n xs) (x ∷ []) all (All-cons P x [] here (All-nil P)))

pub all_of_them : {A : Type 0} (P : A → Type 0) (xs : List A) (n : ℕ) → length xs ≤ n → All P (take n xs) → All P xs
all_of_them P xs n past all = subst (All P) (take_all n xs past) all

-- one producer more has taught a front
pub taught : {B : Type 0} (worked : List (Worked B)) (number : ℕ) (one : Worked B) (before now : List Event) → number < length worked → one ≡ slice_index_or worked number one → IsPrefix before now → IsPrefix one.dispatch.history now
    → All (IsKnown before) (take number worked) → All (IsKnown now) (take (number + 1) worked)
taught worked number one before now within is grew mine all =
    one_more (IsKnown now) worked number one within is mine
    (All-weaker (IsKnown before) (IsKnown now) (λ w known. goes_farther w.dispatch.history before now known grew) (take number worked) all)

pub known_in : {B : Type 0} (history : List Event) (worked : List (Worked B)) → All (IsKnown history) worked → All (HasSentAll history) worked → All (IsKnownIn history) worked
known_in history [] known sent = All-nil (IsKnownIn history)
known_in history (w ∷ ws) known sent =
    let here = All-head (IsKnown history) w ws known in
    All-cons (IsKnownIn history) w ws (record { known = here; own = All-head (HasSentAll history) w ws sent here })
    (known_in history ws (All-tail (IsKnown history) w ws known) (All-tail (HasSentAll history) w ws sent))

abbrev pub IsBackedAt : {B : Type 0} → ℕ → Worked B → Type 0
IsBackedAt n w = IsBackedBy n w.dispatch (received w.receiver) (map said w.ended.items)

-- the history that each producer has is a beginning of one in which all of them have what they had
pub backed_of : {B : Type 0} (history : List Event) (n : ℕ) (ws : List (Worked B)) → AllAt IsBackedAt n ws → All (IsKnownIn history) ws → Legal history → AreBacked history n (map (λ w. w.ended.items) ws) (map (λ w. received w.receiver) ws)
backed_of history n [] each known legal = tt
backed_of history n (w ∷ ws) each known legal =
    let here = All-head (IsKnownIn history) w ws known in (
      backed_later n w.dispatch.history history (received w.receiver) (map said w.ended.items) here.known legal (subst (λ (p : ℕ). sent_by p history ≡ sent_by p w.dispatch.history) each.0.0 here.own) each.0.1,
      backed_of history (suc n) ws each.1 (All-tail (IsKnownIn history) w ws known) legal,
    )

-- ---- mailboxes

pub taught_later : (before now : List Event) → IsPrefix before now → (l : LockedMailbox) → IsTaught before l → IsTaught now l
taught_later before now grew l was = record { own = was.own; known = goes_farther l.history before now was.known grew }

-- one more behind those before it
pub all_at_push : {A : Type 0} (P : ℕ → A → Type 0) (n : ℕ) (xs : List A) (x : A) → AllAt P n xs → P (n + length xs) x → AllAt P n (xs ++ x ∷ [])
all_at_push P n [] x all here = (subst (λ (k : ℕ). P k x) (let e : n + 0 ≡ n = omega arith in e) here, tt)
all_at_push P n (y ∷ xs) x all here = (all.0, all_at_push P (suc n) xs x all.1 (subst (λ (k : ℕ). P k x) (let e : n + suc (length xs) ≡ suc n + length xs = omega arith in e) here))

-- the list at a position is what its mailbox accepted
pub accepted_at : (history : List Event) (n : ℕ) (xs : List (Vec (CopyKey × ℕ) Global)) → AllAt (HasAccepted history) n xs → (k : ℕ) → k < length xs → slice_index_or (map (λ v. v.items) xs) k [] ≡ accepted_in (n + k) history
accepted_at history n [] all k under = absurd (omega (arith, under))
accepted_at history n (x ∷ xs) all zero under = all.0 ∙ ap (λ m. accepted_in m history) (let e : n ≡ n + 0 = omega arith in e)
accepted_at history n (x ∷ xs) all (suc k) under =
    accepted_at history (suc n) xs all.1 k (omega (arith, under)) ∙ ap (λ m. accepted_in m history) (let e : suc n + k ≡ n + suc k = omega arith in e)

-- one more of those in front, each at its position
pub all_at_take : {A : Type 0} (P : ℕ → A → Type 0) (xs : List A) (n : ℕ) (x : A) → n < length xs → x ≡ slice_index_or xs n x → P n x → AllAt P 0 (take n xs) → AllAt P 0 (take (n + 1) xs)
all_at_take P xs n x within is here all =
    let e : take (n + 1) xs ≡ take n xs ++ x ∷ [] = take_more xs n x within ∙ ap (λ y. take n xs ++ y ∷ []) (sym is) in
    let front = take n xs in
    let as_many : length front ≡ n = length-take-le n xs (omega (arith, within)) in
    subst (AllAt P 0) (sym e) (all_at_push P 0 front x all (subst (λ k. P k x) (let at : n ≡ 0 + length front = omega (arith, as_many) in at) here))

pub all_at_all : {A : Type 0} (P : ℕ → A → Type 0) (xs : List A) (n : ℕ) → length xs ≤ n → AllAt P 0 (take n xs) → AllAt P 0 xs
all_at_all P xs n past all = subst (AllAt P 0) (take_all n xs past) all
