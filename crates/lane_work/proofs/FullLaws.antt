-- What a full lane tells its only producer.
use Rattle.std.proofs.Common.{◌≡◌, ◌++◌, ◌∙◌, ap, refl, sym, ℕ, zero, suc, List, [], ◌∷◌, length, arith}
use Rattle.std.proofs.lemmas.List.{length-append}
use Rattle.delivery_token.specs.declared.Job.{Job}
use Rattle.shard_queue.specs.declared.lane.Entry.{Entry}
use Rattle.shard_queue.specs.declared.lane.Entry.TheVariants.{Item, End}
use Rattle.shard_queue.specs.Lane.{of}
use Rattle.shard_queue.specs.Permits.{WasFull}
use Rattle.lane_work.specs.Account.{FilledAlone, Room}

-- where nobody else put anything all entries are the first producer's
all_own : (entries : List (Entry Job)) → ((p : ℕ) → of (suc p) entries ≡ []) → of 0 entries ≡ entries
all_own [] none = refl
all_own (Item zero job ∷ entries) none = ap (λ (l : List (Entry Job)). Item 0 job ∷ l) (all_own entries (λ p. grind (arith, none p)))
all_own (Item (suc q) job ∷ entries) none = absurd (grind (arith, none q))
all_own (End zero ∷ entries) none = ap (λ (l : List (Entry Job)). End 0 ∷ l) (all_own entries (λ p. grind (arith, none p)))
all_own (End (suc q) ∷ entries) none = absurd (grind (arith, none q))

pub found_full : (room : Room) (seat : ℕ) (sent seen : List (Entry Job)) → WasFull room.producers room.capacity seat sent seen → FilledAlone room seat sent
found_full room seat sent seen (l, merge, full, is, goes_on) alone first =
    let none : (p : ℕ) → of (suc p) (l.got ++ l.waiting) ≡ [] = λ p. merge.each (suc p) ∙ merge.known (suc p) (omega (arith, alone)) in
    let all : sent ≡ l.got ++ l.waiting = sym is ∙ ap l.sent first ∙ sym (merge.each 0) ∙ all_own (l.got ++ l.waiting) none in
    let long = ap length all ∙ length-append l.got l.waiting in
    omega (arith, long, full)
