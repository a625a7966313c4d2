-- What a shared consumer keeps from turn to turn.
use Rattle.std.proofs.Common.{◌≡◌, ◌<◌, ◌∙◌, ◌++◌, ◌∷◌, ℕ, suc, zero, Bool, not, ◌||◌, List, [], All, Option, None, Some, length, map, slice_get, slice_index_or, refl, sym, ap, subst}
use Rattle.std.specs.List.{list_any}
use Rattle.std.proofs.lemmas.List.Elements.{All-head, All-tail}
use Rattle.std.proofs.lemmas.Option.{slice_get-get_or}
use Rattle.delivery_token.specs.declared.Job.{Job}
use Rattle.delivery_token.specs.declared.log.Noted.{Noted}
use Rattle.shard_queue.specs.declared.lane.Entry.{Entry}
use Rattle.shard_queue.specs.declared.lane.Entry.TheVariants.{Item, End}
use Rattle.shard_queue.specs.Permits.{ShardQueue}
use Rattle.shard_queue.specs.Reply.{SenderPermit}
use Rattle.shard_queue.specs.Reply.{said_on, sent_on}
use Rattle.shard_queue.specs.Permits.{IsConsumer, got}
use Rattle.lane_work.specs.Answering.{HaveClosed, WereAnswered, is_nobodys, is_ours, none}
use Rattle.lane_work.specs.inner.Answering.{HaveAnswered}
use Rattle.lane_work.specs.Permits.{AreSenders, AreSendersEnded}
use Rattle.lane_work.specs.Consuming.{IsConsumed}
use Rattle.lane_work.specs.declared.consumer.Consumed.{Consumed}
use Rattle.lane_work.specs.declared.consumer.Delivery.{Delivery}
use Rattle.lane_work.specs.declared.consumer.Stall.{Stall}
use Rattle.lane_work.proofs.AnswerLaws.{answers_close, torn_next}
use Rattle.shared_consumers.specs.Keeping.{IsOnLane, Parts, parts_of}
use Rattle.shared_consumers.specs.inner.Keeping.{IsAnswering, Keeps}

abbrev inside : {A : Type 0} → A → Option A → A
inside a None = a
inside a (Some x) = x

pub one_inside : {A : Type 0} (o : Option A) (a b : A) → o ≡ Some a → o ≡ Some b → a ≡ b
one_inside o a b is also = ap (inside a) (sym is ∙ also)

unsent_at : (ss : List (SenderPermit Noted)) → All (λ s. sent_on s ≡ []) ss → (p : ℕ) → slice_index_or (map sent_on ss) p [] ≡ []
unsent_at [] so p = refl
unsent_at (s ∷ ss) so zero = All-head (λ s. sent_on s ≡ []) s ss so
unsent_at (s ∷ ss) so (suc p) = unsent_at ss (All-tail (λ s. sent_on s ≡ []) s ss so) p

-- before its first turn
pub keeps_new : {B : Type 0} (lanes : Option (List (ShardQueue Job))) (delivery : Option Parts) (stall : Stall B) → ((ls : List (ShardQueue Job)) → lanes ≡ Some ls → IsOnLane ls stall)
    → ((d : Parts) → delivery ≡ Some d → AreSenders d.channels stall.shard stall.senders.items) → got stall.permit ≡ [] → All (λ s. sent_on s ≡ []) stall.senders.items
    → Keeps lanes delivery stall Bool.false
keeps_new lanes delivery stall on senders fresh unsent =
    record {
      on_lane = on;
      answering = λ d is. record {
        senders = senders d is;
        answered = λ p under. ([], subst (λ (l : List (Entry Job)). WereAnswered d.mailboxes stall.shard p l []) (sym fresh) none, unsent_at stall.senders.items unsent p);
        torn = ap (list_any (is_nobodys d.mailboxes (length d.channels))) (sym fresh);
      };
    }

-- after a turn, however it went
pub keeps_next : {B : Type 0} (lanes : Option (List (ShardQueue Job))) (delivery : Option Parts) (ls : List (ShardQueue Job)) (d : Parts) (old new : Stall B) (lane : ShardQueue Job) (torn more : Bool)
    → lanes ≡ Some ls → delivery ≡ Some d → slice_get ls old.shard ≡ Some lane → Keeps lanes delivery old torn
    → new.shard ≡ old.shard → IsConsumer lane new.permit → AreSenders d.channels old.shard new.senders.items
    → HaveAnswered d.mailboxes (length d.channels) old.shard (got new.permit) [] (map sent_on new.senders.items)
    → more ≡ list_any (is_nobodys d.mailboxes (length d.channels)) (got new.permit)
    → Keeps lanes delivery new more
keeps_next lanes delivery ls d old new lane torn more ls_is d_is here so shard permit senders answered torn_is =
    record {
      on_lane = λ others is. subst (λ l. IsOnLane l new) (one_inside lanes ls others ls_is is) on;
      answering = λ other is. subst (λ x. IsAnswering x new more) (one_inside delivery d other d_is is) answering;
    } where
      on : IsOnLane ls new
      on = record {
        there = subst (λ n. n < length ls) (sym shard) (so.on_lane ls ls_is).there;
        permit = λ other is. subst (λ q. IsConsumer q new.permit) (one_inside (slice_get ls old.shard) lane other here (subst (λ n. slice_get ls n ≡ Some other) shard is)) permit;
      }

      answering : IsAnswering d new more
      answering = record {
        senders = subst (λ n. AreSenders d.channels n new.senders.items) (sym shard) senders;
        answered = subst (λ n. HaveAnswered d.mailboxes (length d.channels) n (got new.permit) [] (map sent_on new.senders.items)) (sym shard) answered;
        torn = torn_is;
      }

-- whether one was nobody's, after a copy
pub torn_copy : (m n p : ℕ) (job : Job) (took more : List (Entry Job)) (torn ours : Bool) → more ≡ took ++ Item p job ∷ [] → ours ≡ is_ours m n p job
    → torn ≡ list_any (is_nobodys m n) took → (torn || not ours) ≡ list_any (is_nobodys m n) more
torn_copy m n p job took more torn ours grew is so = torn_next m n took more (Item p job) torn (not ours) grew (ap not is) so

-- the lane that the code reads at its shard
pub lane_at : (ls : List (ShardQueue Job)) (i n : ℕ) (lane : ShardQueue Job) → i ≡ n → n < length ls → lane ≡ slice_index_or ls i lane → slice_get ls n ≡ Some lane
lane_at ls i n lane same under is = slice_get-get_or ls n lane under ∙ ap (λ k. Some (slice_index_or ls k lane)) (sym same) ∙ ap Some (sym is)

-- what a shared consumer leaves, when its senders have ended
pub leaves : {B : Type 0} (lane : ShardQueue Job) (ls : List (ShardQueue Job)) (d : Delivery B) (stall : Stall B) (torn : Bool) (c : Consumed B) → IsOnLane ls stall → IsAnswering (parts_of d) stall torn
    → slice_get ls stall.shard ≡ Some lane → c.permit ≡ stall.permit → c.kept ≡ Bool.false → c.torn ≡ torn → AreSendersEnded d.channels.items stall.shard c.senders.items
    → HaveClosed stall.shard (map sent_on stall.senders.items) (map said_on c.senders.items) → IsConsumed lane d stall.shard [] c
leaves lane ls d stall torn c on so here permit kept is_torn ended closed =
    record {
      permit = subst (λ s. IsConsumer lane s) (sym permit) (on.permit lane here);
      senders = ended;
      kept = λ keeps. no_kept c.kept kept keeps;
      torn = is_torn ∙ so.torn ∙ ap (λ s. list_any (is_nobodys (length d.mailboxes.items) (length d.channels.items)) (got s)) (sym permit);
      said = subst (λ s. Said (got s)) (sym permit)
          (answers_close (length d.mailboxes.items) stall.shard (got stall.permit) d.channels.items stall.senders.items [] (map said_on c.senders.items) so.senders closed so.answered);
    } where
      no_kept : {P : Type 0} (b : Bool) → b ≡ Bool.false → b ≡ Bool.true → P
      no_kept b e f = cc (e, f)

      Said : List (Entry Job) → Type 0
      Said took = (p : ℕ) → p < length d.channels.items → (told : List (Entry Noted)) × WereAnswered (length d.mailboxes.items) stall.shard p took told
          × (slice_index_or (map said_on c.senders.items) p [] ≡ (slice_index_or [] p [] ++ told) ++ End stall.shard ∷ [])
