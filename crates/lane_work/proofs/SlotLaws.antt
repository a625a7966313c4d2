-- Slots that are filled.
use Rattle.std.proofs.Common.{sym, subst, ◌≡◌, ℕ, zero, suc, ◌<◌, ◌∙◌, ap, List, [], ◌∷◌, length, slice_index_or, slice_set, arith, Option, Some, None, ◌++◌, append_assoc, append-nil}
use Rattle.delivery_token.specs.declared.Verdict.{Verdict}
use Rattle.delivery_token.specs.declared.Job.{Job}
use Rattle.delivery_token.specs.declared.log.Noted.{Noted}
use Rattle.shard_queue.specs.declared.lane.Entry.{Entry}
use Rattle.shard_queue.specs.declared.lane.Entry.TheVariants.{Item}
use Rattle.shard_queue.specs.Shared.{IsStartOf}
use Rattle.lane_work.specs.Account.{IsHeard, note_of}
use Rattle.lane_work.specs.inner.Copies.{WereHeard}

-- ---- what was heard

pub start_same : {A : Type 0} (xs : List (Entry A)) → IsStartOf xs xs
start_same xs = ([], sym (append-nil xs))

pub start_on : {A : Type 0} (xs ys zs : List (Entry A)) → IsStartOf xs ys → IsStartOf ys zs → IsStartOf xs zs
start_on xs ys zs (more, e) (others, f) = (more ++ others, f ∙ ap (λ l. l ++ others) e ∙ append_assoc xs more others)

pub heard_later : (old new : List (Entry Noted)) (n : Noted) → IsStartOf old new → IsHeard old n → IsHeard new n
heard_later old new n (more, e) (shard, before, after, is) = (shard, before, after ++ more, e ∙ ap (λ l. l ++ more) is ∙ append_assoc before (Item shard n ∷ after) more)

pub were_heard_same : (heard : List (Entry Noted)) (cs : List Job) (ss : List (Option Verdict)) → WereHeard heard cs ss ss
were_heard_same heard [] ss = tt
were_heard_same heard (c ∷ cs) [] = tt
were_heard_same heard (c ∷ cs) (None ∷ ss) = were_heard_same heard cs ss
were_heard_same heard (c ∷ cs) (Some v ∷ ss) = were_heard_same heard cs ss

pub were_heard_later : (old new : List (Entry Noted)) (cs : List Job) (ss ts : List (Option Verdict)) → IsStartOf old new → WereHeard old cs ss ts → WereHeard new cs ss ts
were_heard_later old new [] ss ts grew h = tt
were_heard_later old new (c ∷ cs) [] ts grew h = tt
were_heard_later old new (c ∷ cs) (None ∷ ss) [] grew h = tt
were_heard_later old new (c ∷ cs) (Some u ∷ ss) [] grew h = tt
were_heard_later old new (c ∷ cs) (Some u ∷ ss) (t ∷ ts) grew h = were_heard_later old new cs ss ts grew h
were_heard_later old new (c ∷ cs) (None ∷ ss) (None ∷ ts) grew h = were_heard_later old new cs ss ts grew h
were_heard_later old new (c ∷ cs) (None ∷ ss) (Some v ∷ ts) grew h = (heard_later old new (note_of (c, v)) grew h.0, were_heard_later old new cs ss ts grew h.1)

pub were_heard_set : (heard : List (Entry Noted)) (cs : List Job) (ss ts : List (Option Verdict)) (i : ℕ) (v : Verdict) (c : Job) → i < length cs → slice_index_or cs i c ≡ c → IsHeard heard (note_of (c, v))
    → WereHeard heard cs ss ts → WereHeard heard cs ss (slice_set ts i (Some v))
were_heard_set heard [] ss ts i v c under there here h = tt
were_heard_set heard (x ∷ cs) [] ts i v c under there here h = tt
were_heard_set heard (x ∷ cs) (None ∷ ss) [] i v c under there here h = tt
were_heard_set heard (x ∷ cs) (Some u ∷ ss) [] i v c under there here h = tt
were_heard_set heard (x ∷ cs) (Some u ∷ ss) (t ∷ ts) zero v c under there here h = h
were_heard_set heard (x ∷ cs) (Some u ∷ ss) (t ∷ ts) (suc i) v c under there here h = were_heard_set heard cs ss ts i v c (omega arith) there here h
were_heard_set heard (x ∷ cs) (None ∷ ss) (None ∷ ts) zero v c under there here h = (subst (λ (y : Job). IsHeard heard (note_of (y, v))) (sym there) here, h)
were_heard_set heard (x ∷ cs) (None ∷ ss) (Some u ∷ ts) zero v c under there here h = (subst (λ (y : Job). IsHeard heard (note_of (y, v))) (sym there) here, h.1)
were_heard_set heard (x ∷ cs) (None ∷ ss) (None ∷ ts) (suc i) v c under there here h = were_heard_set heard cs ss ts i v c (omega arith) there here h
were_heard_set heard (x ∷ cs) (None ∷ ss) (Some u ∷ ts) (suc i) v c under there here h = (h.0, were_heard_set heard cs ss ts i v c (omega arith) there here h.1)

-- one more came that wasn't filled in
pub heard_still : (old new : List (Entry Noted)) (cs : List Job) (ss ts us : List (Option Verdict)) → IsStartOf old new → us ≡ ts → WereHeard old cs ss ts → WereHeard new cs ss us
heard_still old new cs ss ts us grew same h = subst (λ (l : List (Option Verdict)). WereHeard new cs ss l) (sym same) (were_heard_later old new cs ss ts grew h)
