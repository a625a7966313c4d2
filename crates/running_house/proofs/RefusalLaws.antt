-- What is found of a lane, copy by copy, of one that was refused for want of room.
use Rattle.std.proofs.Common.{◌≡◌, ◌≢◌, Bool, true, append-nil, append_assoc, ◌<◌, ◌≤◌, ◌+◌, ◌-◌, ◌⊎◌, inl, inr, ◌++◌, ◌∙◌, ap, refl, sym, subst, ℕ, zero, suc, List, [], ◌∷◌, All, length, take, drop, slice_index_or, arith}
use Rattle.std.proofs.Math.Seq.{take-suc}
use Rattle.std.proofs.lemmas.List.{drop_all, length-drop, length-take-le, take-append-drop}
use Rattle.std.proofs.lemmas.List.Elements.{All-append, All-cons, All-head, All-nil, All-tail}
use Rattle.delivery_token.specs.declared.CopyKey.{CopyKey}
use Rattle.delivery_token.specs.declared.Job.{Job}
use Rattle.running_house.specs.Refusals.{AreTogether, BeginsLater, CameBehind, HadNoRoom, IsCopyFor, IsNotLater, MayWait, MayWaitTogether, StandAmong, WasFilled}
use Rattle.running_house.specs.inner.Refusals.{HasKey}
use Rattle.shard_queue.specs.declared.lane.Entry.{Entry}
use Rattle.shard_queue.specs.declared.lane.Entry.TheVariants.{Item, End}
use Rattle.shard_queue.specs.Lane.{producer}

all_suc : (P : Entry Job → Type 0) (entries : List (Entry Job)) (i : ℕ) (entry : Entry Job) → i < length entries → entry ≡ slice_index_or entries i entry → All P (take i entries) → P entry → All P (take (suc i) entries)
all_suc P [] i entry under is so here = absurd (omega arith)
all_suc P (x ∷ entries) zero entry under is so here = All-cons P x [] (subst P is here) (All-nil P)
all_suc P (x ∷ entries) (suc i) entry under is so here =
    All-cons P x (take (suc i) entries) (All-head P x (take i entries) so) (all_suc P entries i entry (omega arith) is (All-tail P x (take i entries) so) here)

-- one more stands ahead
pub all_next : (P : Entry Job → Type 0) (entries : List (Entry Job)) (i : ℕ) (entry : Entry Job) → i < length entries → entry ≡ slice_index_or entries i entry → All P (take i entries) → P entry
    → All P (take (i + 1) entries)
all_next P entries i entry under is so here = let e : suc i ≡ i + 1 = omega arith in subst (λ (n : ℕ). All P (take n entries)) e (all_suc P entries i entry under is so here)

-- the front that is one longer
next_front : {A : Type 0} (xs : List A) (i : ℕ) (d : A) → i < length xs → take (i + 1) xs ≡ take i xs ++ slice_index_or xs i d ∷ []
next_front xs i d under = let e : i + 1 ≡ suc i = omega arith in ap (λ (n : ℕ). take n xs) e ∙ take-suc xs i d under

-- the same, by the entry that stands there
next_entry : (entries : List (Entry Job)) (i : ℕ) (entry : Entry Job) → i < length entries → entry ≡ slice_index_or entries i entry → take (i + 1) entries ≡ take i entries ++ entry ∷ []
next_entry entries i entry under is = next_front entries i entry under ∙ ap (λ (e : Entry Job). take i entries ++ e ∷ []) (sym is)

drop_here : (entries : List (Entry Job)) (i : ℕ) (entry : Entry Job) → i < length entries → entry ≡ slice_index_or entries i entry → drop i entries ≡ entry ∷ drop (suc i) entries
drop_here [] i entry under is = absurd (omega arith)
drop_here (x ∷ entries) zero entry under is = ap (λ (y : Entry Job). y ∷ entries) (sym is)
drop_here (x ∷ entries) (suc i) entry under is = drop_here entries i entry (omega arith) is

drop_within : {A : Type 0} (from : ℕ) (xs ys : List A) → from ≤ length xs → drop from (xs ++ ys) ≡ drop from xs ++ ys
drop_within zero xs ys within = refl
drop_within (suc from) [] ys within = absurd (omega arith)
drop_within (suc from) (x ∷ xs) ys within = drop_within from xs ys (omega arith)

-- what holds of those from one position on holds of those from a later one on
all_later : (P : Entry Job → Type 0) (from later : ℕ) (entries : List (Entry Job)) → from ≤ later → All P (drop from entries) → All P (drop later entries)
all_later P zero zero entries within so = so
all_later P zero (suc later) [] within so = All-nil P
all_later P zero (suc later) (x ∷ entries) within so = all_later P zero later entries (omega arith) (All-tail P x entries so)
all_later P (suc from) zero entries within so = absurd (omega arith)
all_later P (suc from) (suc later) [] within so = All-nil P
all_later P (suc from) (suc later) (x ∷ entries) within so = all_later P from later entries (omega arith) so

together_later : (from later : ℕ) (entries : List (Entry Job)) → from ≤ later → AreTogether (drop from entries) → AreTogether (drop later entries)
together_later zero zero entries within so = so
together_later zero (suc later) [] within so = tt
together_later zero (suc later) (x ∷ entries) within so = together_later zero later entries (omega arith) so.1
together_later (suc from) zero entries within so = absurd (omega arith)
together_later (suc from) (suc later) [] within so = tt
together_later (suc from) (suc later) (x ∷ entries) within so = together_later from later entries (omega arith) so

together_push : (entries : List (Entry Job)) (last : Entry Job) → AreTogether entries → All (λ entry. MayWaitTogether entry last) entries → AreTogether (entries ++ last ∷ [])
together_push [] last so beside = (All-nil (MayWaitTogether last), tt)
together_push (x ∷ entries) last so beside =
    let rest = together_push entries last so.1 (All-tail (λ entry. MayWaitTogether entry last) x entries beside) in
    let here = All-head (λ entry. MayWaitTogether entry last) x entries beside in (
      All-append (MayWaitTogether x) entries (last ∷ []) so.0 (All-cons (MayWaitTogether x) last [] here (All-nil (MayWaitTogether x))),
      rest,
    )

-- those from one position on, with the entry that stands here
from_next : (entries : List (Entry Job)) (from i : ℕ) (entry : Entry Job) → i < length entries → entry ≡ slice_index_or entries i entry → from ≤ i
    → drop from (take (i + 1) entries) ≡ drop from (take i entries) ++ entry ∷ []
from_next entries from i entry under is within =
    let long = length-take-le i entries (omega (arith, under)) in
    ap (λ (l : List (Entry Job)). drop from l) (next_entry entries i entry under is) ∙ drop_within from (take i entries) (entry ∷ []) (omega (arith, long, within))

pub all_from_next : (P : Entry Job → Type 0) (entries : List (Entry Job)) (from i : ℕ) (entry : Entry Job) → i < length entries → entry ≡ slice_index_or entries i entry → from ≤ i
    → All P (drop from (take i entries)) → P entry → All P (drop from (take (i + 1) entries))
all_from_next P entries from i entry under is within so here =
    subst (λ (l : List (Entry Job)). All P l) (sym (from_next entries from i entry under is within)) (All-append P (drop from (take i entries)) (entry ∷ []) so (All-cons P entry [] here (All-nil P)))

none_from : (entries : List (Entry Job)) (i : ℕ) → i ≤ length entries → drop i (take i entries) ≡ []
none_from entries i within = drop_all i (take i entries) (omega (arith, length-take-le i entries within))

-- none from here on
pub all_from_end : (P : Entry Job → Type 0) (entries : List (Entry Job)) (i : ℕ) → i ≤ length entries → All P (drop i (take i entries))
all_from_end P entries i within = subst (λ (l : List (Entry Job)). All P l) (sym (none_from entries i within)) (All-nil P)

pub together_from_end : (entries : List (Entry Job)) (i : ℕ) → i ≤ length entries → AreTogether (drop i (take i entries))
together_from_end entries i within = subst AreTogether (sym (none_from entries i within)) tt

pub own_next : (key : CopyKey) (entries : List (Entry Job)) (begun from i : ℕ) (entry : Entry Job) → i < length entries → entry ≡ slice_index_or entries i entry → begun ≤ from → from ≤ i
    → All (MayWait key) (drop begun (take i entries)) → MayWait key entry → All (MayWait key) (drop from (take (i + 1) entries))
own_next key entries begun from i entry under is begins within so here =
    all_from_next (MayWait key) entries from i entry under is within (all_later (MayWait key) begun from (take i entries) begins so) here

pub together_next : (entries : List (Entry Job)) (begun from i : ℕ) (entry : Entry Job) → i < length entries → entry ≡ slice_index_or entries i entry → begun ≤ from → from ≤ i
    → AreTogether (drop begun (take i entries)) → All (λ other. MayWaitTogether other entry) (drop from (take i entries)) → AreTogether (drop from (take (i + 1) entries))
together_next entries begun from i entry under is begins within so beside =
    subst AreTogether (sym (from_next entries from i entry under is within))
    (together_push (drop from (take i entries)) entry (together_later begun from (take i entries) begins so) beside)

-- so many waited behind those that were gone, and nothing was put since
pub filled_now : (depth : ℕ) (key : CopyKey) (entries : List (Entry Job)) (begun : ℕ) → begun ≤ length entries → All (MayWait key) (drop begun entries) → AreTogether (drop begun entries)
    → depth ≤ length entries - begun → WasFilled depth key entries
filled_now depth key entries begun within own together many =
    let rest = length-drop begun entries in
    record {
      gone = take begun entries;
      waiting = drop begun entries;
      meanwhile = [];
      split = sym (take-append-drop begun entries) ∙ sym (append-nil (take begun entries ++ drop begun entries));
      own = own;
      together = together;
      others = All-nil (λ entry. producer entry ≢ key.seat);
      many = omega (arith, rest, many);
    }

-- another one put more
pub filled_still : (depth : ℕ) (key : CopyKey) (entries : List (Entry Job)) (entry : Entry Job) → WasFilled depth key entries → producer entry ≢ key.seat → WasFilled depth key (entries ++ entry ∷ [])
filled_still depth key entries entry was other = record {
  gone = was.gone;
  waiting = was.waiting;
  meanwhile = was.meanwhile ++ entry ∷ [];
  split = ap (λ (l : List (Entry Job)). l ++ entry ∷ []) was.split ∙ append_assoc (was.gone ++ was.waiting) was.meanwhile (entry ∷ []);
  own = was.own;
  together = was.together;
  others = All-append (λ e. producer e ≢ key.seat) was.meanwhile (entry ∷ []) was.others (All-cons (λ e. producer e ≢ key.seat) entry [] other (All-nil (λ e. producer e ≢ key.seat)));
  many = was.many;
}

-- up to the next position, where so many wait now or waited before and another one put the entry that stands here
pub filled_next : (depth : ℕ) (key : CopyKey) (entries : List (Entry Job)) (begun i : ℕ) (entry : Entry Job) (filled : Bool) → i < length entries → entry ≡ slice_index_or entries i entry
    → begun ≤ i + 1 → All (MayWait key) (drop begun (take (i + 1) entries)) → AreTogether (drop begun (take (i + 1) entries))
    → (filled ≡ true → WasFilled depth key (take i entries)) → (depth ≤ i + 1 - begun) ⊎ ((filled ≡ true) × (producer entry ≢ key.seat)) → WasFilled depth key (take (i + 1) entries)
filled_next depth key entries begun i entry filled under is begins own together was (inl many) =
    let long = length-take-le (i + 1) entries (omega (arith, under)) in
    filled_now depth key (take (i + 1) entries) begun (omega (arith, long, begins)) own together (omega (arith, long, many))
filled_next depth key entries begun i entry filled under is begins own together was (inr before) =
    subst (λ (l : List (Entry Job)). WasFilled depth key l) (sym (next_entry entries i entry under is)) (filled_still depth key (take i entries) entry (was before.0) before.1)

-- those from this position on begin with the entry that stands here
begins_here : (key : CopyKey) (entries : List (Entry Job)) (i : ℕ) (entry : Entry Job) → i < length entries → entry ≡ slice_index_or entries i entry → (IsNotLater key entry → ⊥) → BeginsLater key (drop i entries)
begins_here key entries i entry under is later = subst (BeginsLater key) (sym (drop_here entries i entry under is)) later

-- what was filled was so before the entry that stands here, which its own producer put later
pub no_room_before : (depth : ℕ) (key : CopyKey) (entries : List (Entry Job)) (i : ℕ) (entry : Entry Job) → i < length entries → entry ≡ slice_index_or entries i entry
    → (IsNotLater key entry → ⊥) → All (IsNotLater key) (take i entries) → WasFilled depth key (take i entries) → HadNoRoom depth key entries
no_room_before depth key entries i entry under is later own was = record {
  first = take i entries;
  later = drop i entries;
  split = sym (take-append-drop i entries);
  own = own;
  next = begins_here key entries i entry under is later;
  filled = was;
}

-- or it is all that was taken
pub no_room_at_all : (depth : ℕ) (key : CopyKey) (entries : List (Entry Job)) (i : ℕ) → i ≤ length entries → (i < length entries → ⊥) → All (IsNotLater key) (take i entries)
    → WasFilled depth key (take i entries) → HadNoRoom depth key entries
no_room_at_all depth key entries i within end own was = record {
  first = take i entries;
  later = drop i entries;
  split = sym (take-append-drop i entries);
  own = own;
  next = subst (BeginsLater key) (sym (drop_all i entries (omega (arith, within, end)))) tt;
  filled = was;
}

-- one more entry, which is none of those that were accepted
pub stand_still : (mailbox : ℕ) (accepted : List (CopyKey × ℕ)) (entries : List (Entry Job)) (entry : Entry Job) → StandAmong mailbox accepted entries → StandAmong mailbox accepted (entries ++ entry ∷ [])
stand_still mailbox [] entries entry so = tt
stand_still mailbox (pair ∷ accepted) [] entry so = absurd so
stand_still mailbox (pair ∷ accepted) (x ∷ entries) entry (inl here) = inl (here.0, stand_still mailbox accepted entries entry here.1)
stand_still mailbox (pair ∷ accepted) (x ∷ entries) entry (inr so) = inr (stand_still mailbox (pair ∷ accepted) entries entry so)

-- one more entry, which is the next of them
pub stand_with : (mailbox : ℕ) (accepted : List (CopyKey × ℕ)) (pair : CopyKey × ℕ) (entries : List (Entry Job)) (entry : Entry Job)
    → StandAmong mailbox accepted entries → IsCopyFor mailbox pair.0 entry → StandAmong mailbox (accepted ++ pair ∷ []) (entries ++ entry ∷ [])
stand_with mailbox [] pair [] entry so is = inl (is, tt)
stand_with mailbox [] pair (x ∷ entries) entry so is = inr (stand_with mailbox [] pair entries entry so is)
stand_with mailbox (other ∷ accepted) pair [] entry so is = absurd so
stand_with mailbox (other ∷ accepted) pair (x ∷ entries) entry (inl here) is = inl (here.0, stand_with mailbox accepted pair entries entry here.1 is)
stand_with mailbox (other ∷ accepted) pair (x ∷ entries) entry (inr so) is = inr (stand_with mailbox (other ∷ accepted) pair entries entry so is)

-- the same, where those are the first so many
pub stand_next : (mailbox : ℕ) (accepted : List (CopyKey × ℕ)) (found : ℕ) (d : CopyKey × ℕ) (entries : List (Entry Job)) (entry : Entry Job)
    → found < length accepted → IsCopyFor mailbox (slice_index_or accepted found d).0 entry
    → StandAmong mailbox (take found accepted) entries → StandAmong mailbox (take (found + 1) accepted) (entries ++ entry ∷ [])
stand_next mailbox accepted found d entries entry under is so =
    subst (λ (l : List (CopyKey × ℕ)). StandAmong mailbox l (entries ++ entry ∷ [])) (sym (next_front accepted found d under))
    (stand_with mailbox (take found accepted) (slice_index_or accepted found d) entries entry so is)

-- one more position was looked at
pub stand_at : (mailbox : ℕ) (accepted : List (CopyKey × ℕ)) (entries : List (Entry Job)) (i : ℕ) (entry : Entry Job) → i < length entries → entry ≡ slice_index_or entries i entry
    → StandAmong mailbox accepted (take i entries ++ entry ∷ []) → StandAmong mailbox accepted (take (i + 1) entries)
stand_at mailbox accepted entries i entry under is so = subst (λ (l : List (Entry Job)). StandAmong mailbox accepted l) (sym (next_entry entries i entry under is)) so

-- the copy stands behind so many that were accepted
pub stood_behind : (count found mailbox : ℕ) (key : CopyKey) (accepted : List (CopyKey × ℕ)) (entries : List (Entry Job)) (i : ℕ) (entry : Entry Job)
    → i < length entries → entry ≡ slice_index_or entries i entry → HasKey key entry
    → found ≤ length accepted → StandAmong mailbox (take found accepted) (take i entries) → count ≤ found → CameBehind count mailbox key accepted entries
stood_behind count found mailbox key accepted entries i (End p) under at is within so many = absurd is
stood_behind count found mailbox key accepted entries i (Item p job) under at is within so many =
    let long = length-take-le found accepted within in
    record {
      before = take i entries;
      producer = p;
      copy = job;
      after = drop (suc i) entries;
      split = sym (take-append-drop i entries) ∙ ap (λ (l : List (Entry Job)). take i entries ++ l) (drop_here entries i (Item p job) under at);
      is = is;
      first = take found accepted;
      others = drop found accepted;
      parts = sym (take-append-drop found accepted);
      stood = so;
      many = omega (arith, many, long);
    }
