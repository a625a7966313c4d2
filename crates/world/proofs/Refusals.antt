-- Why a put is refused, in two worlds.
use Rattle.std.proofs.Common.{◌≡◌, ℕ, [], ◌∷◌, All, refl, sym, subst, arith, inr}
use Rattle.std.proofs.lemmas.List.Elements.{All-cons, All-nil}
use Rattle.shard_queue.specs.Lane.{empty_lane, producer, put}
use Rattle.shard_queue.specs.declared.lane.Entry.{Entry}
use Rattle.shard_queue.specs.declared.lane.Entry.TheVariants.{Item, End}
use Rattle.shard_queue.proofs.AtLaws.{at_each, set_at-same}
use Rattle.delivery_token.specs.declared.Job.{Job}
use Rattle.delivery_token.specs.declared.Refusal.TheVariants.{Full, Shut}
use Rattle.world.specs.World.{World, EntryBelow, PutStep, empty_world, puts, put_joins, put_full, put_no_memory, put_shut, end_joins}
use Rattle.world.specs.First.{one_copy}
use Rattle.world.specs.Refusals.{narrow_house, ended, filled, next_copy, told, ShutComesFirst, FullIsNotShut}

only_shut : (v : World) → PutStep narrow_house ended 0 0 next_copy v → v ≡ told ended Shut
only_shut v (put_joins may live room e) = absurd (cc)
only_shut v (put_full may live room e) = absurd (cc)
only_shut v (put_no_memory may live room e) = absurd (cc)
only_shut v (put_shut may over e) = e

only_full : (v : World) → PutStep narrow_house filled 0 0 next_copy v → v ≡ told filled Full
only_full v (put_joins may live room e) = absurd (omega (arith, room))
only_full v (put_full may live room e) = e
only_full v (put_no_memory may live room e) = absurd (omega (arith, room))
only_full v (put_shut may over e) = absurd (cc)

-- what the seat sent, where it has put one entry, is below the next copy
above : (e : Entry Job) → EntryBelow next_copy.key e → (t : ℕ) → All (EntryBelow next_copy.key) (((puts empty_world 0 e).lane t).sent (producer e))
above e below = at_each (λ t l. All (EntryBelow next_copy.key) (l.sent (producer e))) empty_world.lane 0 (put empty_lane e) (λ t. All-nil (EntryBelow next_copy.key))
    (subst (λ es. All (EntryBelow next_copy.key) es) (sym (set_at-same (λ _. []) (producer e) (e ∷ []))) (All-cons (EntryBelow next_copy.key) e [] below (All-nil (EntryBelow next_copy.key))))

pub shut_comes_first : ShutComesFirst
shut_comes_first = record {
  world = (ended, end_joins (omega arith) (omega arith) refl (omega arith) refl, refl);
  refused = record {
    may = put_shut (record { seat = omega arith; own = refl; mailbox = omega arith; shard = (omega arith, refl); above_sent = above (End 0) tt; above_heard = λ i d l. absurd (omega arith) }) refl refl;
    only = only_shut;
  };
}

pub full_is_not_shut : FullIsNotShut
full_is_not_shut = record {
  world = (filled, put_joins (record { seat = omega arith; own = refl; mailbox = omega arith; shard = (omega arith, refl); above_sent = λ t i d l. absurd (omega arith); above_heard = λ i d l. absurd (omega arith) }) refl (omega arith) refl, refl);
  refused = record {
    may = put_full (record { seat = omega arith; own = refl; mailbox = omega arith; shard = (omega arith, refl); above_sent = above (Item 0 one_copy) (inr (refl, inr (refl, omega arith))); above_heard = λ i d l. absurd (omega arith) }) refl (omega arith) refl;
    only = only_full;
  };
}
