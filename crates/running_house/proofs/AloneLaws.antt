-- What a full lane tells one producer: where that much is so, there is a lane that was full.
use Rattle.std.proofs.Common.{◌≡◌, ◌≢◌, ◌<◌, ◌≤◌, ◌-◌, ◌⊎◌, ◌++◌, ◌∷◌, ◌∙◌, ℕ, zero, suc, List, [], length, map, take, drop, replicate, ap, refl, sym, inl, inr, subst, arith, append-nil}
use Rattle.std.proofs.lemmas.Bool.{cases_lt}
use Rattle.std.proofs.lemmas.List.{length-drop, length-replicate, take-append-drop}
use Rattle.change_ring.specs.Log.{no_flags}
use Rattle.delivery_token.specs.Text.{undated}
use Rattle.delivery_token.specs.declared.Job.{Job}
use Rattle.lane_work.specs.Account.{FilledAlone, Room}
use Rattle.lane_work.proofs.FullLaws.{found_full}
use Rattle.running_house.specs.Alone.{CanBeFull, FilledAloneIsAll}
use Rattle.shard_queue.specs.declared.lane.Entry.{Entry}
use Rattle.shard_queue.specs.declared.lane.Entry.TheVariants.{Item, End}
use Rattle.shard_queue.specs.Lane.{EndsLast, of}
use Rattle.shard_queue.specs.Permits.{WasFull}
use Rattle.shard_queue.proofs.LaneLaws.{of_append, of_other, of_own}

-- copies alone, and no end
abbrev AreItems : List (Entry Job) → Type 0
AreItems [] = Unit {0}
AreItems (Item p job ∷ entries) = AreItems entries
AreItems (End p ∷ entries) = ⊥

same_or_not : (p q : ℕ) → (p ≡ q) ⊎ (p ≢ q)
same_or_not p q = go (cases_lt p q) (cases_lt q p) where
  go : (p < q) ⊎ (q ≤ p) → (q < p) ⊎ (p ≤ q) → (p ≡ q) ⊎ (p ≢ q)
  go (inl less) more = inr (λ same. omega (arith, less, same))
  go (inr least) (inl less) = inr (λ same. omega (arith, less, same))
  go (inr least) (inr most) = inl (omega (arith, least, most))

no_end : (p : ℕ) (entries : List (Entry Job)) → AreItems entries → EndsLast (of p entries)
no_end p [] items = tt
no_end p (Item q job ∷ entries) items = go (no_end p entries items) (same_or_not p q) where
  go : EndsLast (of p entries) → (p ≡ q) ⊎ (p ≢ q) → EndsLast (of p (Item q job ∷ entries))
  go rest (inl same) = subst EndsLast (sym (of_own p (Item q job) entries same)) rest
  go rest (inr other) = subst EndsLast (sym (of_other p (Item q job) entries other)) rest
no_end p (End q ∷ entries) items = absurd items

items_put : (seat : ℕ) (jobs : List Job) → AreItems (map (λ job. Item seat job) jobs)
items_put seat [] = tt
items_put seat (job ∷ jobs) = items_put seat jobs

items_full : (n seat : ℕ) (job : Job) → AreItems (replicate n (Item seat job))
items_full zero seat job = tt
items_full (suc n) seat job = items_full n seat job

items_both : (xs ys : List (Entry Job)) → AreItems xs → AreItems ys → AreItems (xs ++ ys)
items_both [] ys one two = two
items_both (Item p job ∷ xs) ys one two = items_both xs ys one two
items_both (End p ∷ xs) ys one two = absurd one

own_put : (seat : ℕ) (jobs : List Job) → of seat (map (λ job. Item seat job) jobs) ≡ map (λ job. Item seat job) jobs
own_put seat [] = refl
own_put seat (job ∷ jobs) = of_own seat (Item seat job) (map (λ job. Item seat job) jobs) refl ∙ ap (λ (l : List (Entry Job)). Item seat job ∷ l) (own_put seat jobs)

others_put : (p seat : ℕ) (jobs : List Job) → p ≢ seat → of p (map (λ job. Item seat job) jobs) ≡ []
others_put p seat [] other = refl
others_put p seat (job ∷ jobs) other = of_other p (Item seat job) (map (λ job. Item seat job) jobs) other ∙ others_put p seat jobs other

others_full : (p seat n : ℕ) (job : Job) → p ≢ seat → of p (replicate n (Item seat job)) ≡ []
others_full p seat zero job other = refl
others_full p seat (suc n) job other = of_other p (Item seat job) (replicate n (Item seat job)) other ∙ others_full p seat n job other

-- the only producer: the last that it has put wait
full_alone : (room : Room) (jobs : List Job) → room.producers ≡ 1 → room.capacity ≤ length (map (λ job. Item 0 job) jobs) → CanBeFull room 0 (map (λ job. Item 0 job) jobs)
full_alone room jobs alone many =
    let put = map (λ job. Item 0 job) jobs in
    let gone = length put - room.capacity in
    let parts = take-append-drop gone put in
    let rest = length-drop gone put in
    let long : length (drop gone put) ≡ room.capacity = omega (arith, rest, many) in (
      [],
      (
        record { sent = λ p. of p put; got = take gone put; waiting = drop gone put },
        record {
          each = λ p. ap (of p) parts;
          known = λ p beyond. others_put p 0 jobs (λ same. omega (arith, alone, beyond, same));
          within = omega (arith, long);
          legal = λ p. no_end p put (items_put 0 jobs);
        },
        long,
        own_put 0 jobs,
        (take gone put ++ drop gone put, refl),
      ),
    )

abbrev some_copy : Job
some_copy = record { key = record { seat = 0; serial = 0; message = 0; recipient = 0 }; mailbox = 0; text = undated []; flags = no_flags }

-- with another one: its copies wait
full_beside : (room : Room) (seat other : ℕ) (jobs : List Job) → seat < room.producers → other < room.producers → seat ≢ other → CanBeFull room seat (map (λ job. Item seat job) jobs)
full_beside room seat other jobs known known_too differ =
    let put = map (λ job. Item seat job) jobs in
    let others = replicate room.capacity (Item other some_copy) in (
      [],
      (
        record { sent = λ p. of p (put ++ others); got = put; waiting = others },
        record {
          each = λ p. refl;
          known = λ p beyond. of_append p put others
              ∙ ap (λ (l : List (Entry Job)). l ++ of p others) (others_put p seat jobs (λ same. omega (arith, known, beyond, same)))
              ∙ others_full p other room.capacity some_copy (λ same. omega (arith, known_too, beyond, same));
          within = omega (arith, length-replicate room.capacity (Item other some_copy));
          legal = λ p. no_end p (put ++ others) (items_both put others (items_put seat jobs) (items_full room.capacity other some_copy));
        },
        length-replicate room.capacity (Item other some_copy),
        of_append seat put others ∙ ap (λ (l : List (Entry Job)). of seat put ++ l) (others_full seat other room.capacity some_copy differ) ∙ append-nil (of seat put) ∙ own_put seat jobs,
        (put ++ others, refl),
      ),
    )

can_be_full : (room : Room) (seat : ℕ) (jobs : List Job) → seat < room.producers → FilledAlone room seat (map (λ job. Item seat job) jobs) → CanBeFull room seat (map (λ job. Item seat job) jobs)
can_be_full room seat jobs known filled = go (same_or_not room.producers 1) (same_or_not seat 0) where
  go : (room.producers ≡ 1) ⊎ (room.producers ≢ 1) → (seat ≡ 0) ⊎ (seat ≢ 0) → CanBeFull room seat (map (λ job. Item seat job) jobs)
  go (inl alone) (inl first) =
      subst (λ (n : ℕ). CanBeFull room n (map (λ job. Item n job) jobs)) (sym first)
      (full_alone room jobs alone (subst (λ (n : ℕ). room.capacity ≤ length (map (λ job. Item n job) jobs)) first (filled alone first)))
  go (inl alone) (inr later) = absurd (later (omega (arith, alone, known)))
  go (inr more) (inl first) = full_beside room seat 1 jobs known (omega (arith, more, known)) (λ same. omega (arith, first, same))
  go (inr more) (inr later) = full_beside room seat 0 jobs known (omega (arith, known)) later

pub filled_alone_is_all : FilledAloneIsAll
filled_alone_is_all room seat jobs known =
    (λ filled. can_be_full room seat jobs known filled, λ full. found_full room seat (map (λ job. Item seat job) jobs) full.0 full.1)

-- So whatever is so of each producer that finds its lane full, and speaks of the lane's room, the producer's number and what it had put, follows from `FilledAlone`.
pub nothing_says_more : (P : Room → ℕ → List (Entry Job) → Type 0)
    → ((room : Room) (seat : ℕ) (sent seen : List (Entry Job)) → WasFull room.producers room.capacity seat sent seen → P room seat sent)
    → (room : Room) (seat : ℕ) (jobs : List Job) → seat < room.producers → FilledAlone room seat (map (λ job. Item seat job) jobs) → P room seat (map (λ job. Item seat job) jobs)
nothing_says_more P so room seat jobs known filled =
    let full = can_be_full room seat jobs known filled in so room seat (map (λ job. Item seat job) jobs) full.0 full.1
