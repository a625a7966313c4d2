-- How many verdicts were heard, and how many copies were put.
use Rattle.std.proofs.Common.{◌≡◌, ℕ, ◌+◌, ◌<◌, ◌++◌, ◌∙◌, ap, List, [], ◌∷◌, length, length-append, map, slice_index_or, slice_set, arith, Option, Some, None, MatchOption, Bool, true, false, refl, All}
use Rattle.std.proofs.lemmas.List.Elements.{All-head, All-tail, filter_map-append}
use Rattle.std.proofs.lemmas.List.Sums.{sum_by-cons, sum_by-set}
use Rattle.delivery_token.specs.declared.Job.{Job}
use Rattle.delivery_token.specs.declared.Verdict.{Verdict}
use Rattle.delivery_token.specs.declared.log.Noted.{Noted}
use Rattle.shard_queue.specs.declared.lane.Entry.{Entry}
use Rattle.shard_queue.specs.declared.lane.Entry.TheVariants.{Item, End}
use Rattle.delivery_token.specs.Verdicts.{unknown}
use Rattle.lane_work.specs.declared.desk.LanePermit.{LanePermit}
use Rattle.lane_work.specs.Account.{HaveEnded}
use Rattle.lane_work.specs.Awaiting.{copies_in, verdicts_in}
use Rattle.lane_work.specs.Consuming.{item_of, items_of}
use Rattle.lane_work.specs.Ends.{ends_in}
use Rattle.lane_work.specs.Permits.{IsNew, put_by}

-- an entry is an item or an end
pub item_or_end : {A : Type 0} (es : List (Entry A)) → length (items_of es) + ends_in es ≡ length es
item_or_end [] = omega arith
item_or_end (Item p x ∷ es) = let h = item_or_end es in omega (arith, h)
item_or_end (End p ∷ es) = let h = item_or_end es in omega (arith, h)

pub verdict_more : (es : List (Entry Noted)) (s : ℕ) (noted : Noted) → verdicts_in (es ++ Item s noted ∷ []) ≡ verdicts_in es + 1
verdict_more es s noted = ap length (filter_map-append item_of es (Item s noted ∷ [])) ∙ length-append (items_of es) (noted ∷ [])

abbrev count : List (Entry Job) → ℕ
count entries = length (items_of entries)

item_more : (es : List (Entry Job)) (p : ℕ) (job : Job) → count (es ++ Item p job ∷ []) ≡ count es + 1
item_more es p job = ap length (filter_map-append item_of es (Item p job ∷ [])) ∙ length-append (items_of es) (job ∷ [])

end_more : (es : List (Entry Job)) (p : ℕ) → count (es ++ End p ∷ []) ≡ count es
end_more es p = ap length (filter_map-append item_of es (End p ∷ [])) ∙ length-append (items_of es) [] ∙ omega arith

-- a copy was put, or what is known of it at once
pub tried_counts : (before after : List (List (Entry Job))) (shard p : ℕ) (job : Job) (slot : Option Verdict) (over : Bool) (w : Verdict) (B : Verdict → Type 0) → shard < length before
    → (over ≡ false → MatchOption slot (after ≡ slice_set before shard (slice_index_or before shard [] ++ Item p job ∷ [])) (λ v. (after ≡ before) × B v))
    → (over ≡ true → (slot ≡ Some w) × (after ≡ before))
    → copies_in after ≡ copies_in before + unknown (slot ∷ [])
tried_counts before after shard p job slot true w B under live closed =
    let e = ap copies_in (closed refl).1 in
    let f = ap (λ (s : Option Verdict). unknown (s ∷ [])) (closed refl).0 in
    omega (arith, e, f)
tried_counts before after shard p job (Some v) false w B under live closed = let e = ap copies_in (live refl).0 in omega (arith, e)
tried_counts before after shard p job None false w B under live closed =
    let e = ap copies_in (live refl) in
    let n = sum_by-set count before shard (slice_index_or before shard [] ++ Item p job ∷ []) [] under in
    let i = item_more (slice_index_or before shard []) p job in
    omega (arith, e, n, i)

pub unknown_next : (slots : List (Option Verdict)) (slot : Option Verdict) → unknown (slots ++ slot ∷ []) ≡ unknown slots + unknown (slot ∷ [])
unknown_next [] slot = omega arith
unknown_next (None ∷ slots) slot = let h = unknown_next slots slot in omega (arith, h)
unknown_next (Some v ∷ slots) slot = unknown_next slots slot

-- as many verdicts were heard as were unknown
pub heard_counts : (old new : List (Entry Noted)) (n : ℕ) → length new + ends_in old ≡ length old + n + ends_in new → verdicts_in new ≡ verdicts_in old + n
heard_counts old new n so = let a = item_or_end old in let b = item_or_end new in omega (arith, a, b, so)

-- nothing but ends was heard
pub quiet_counts : (old new : List (Entry Noted)) → length new + ends_in old ≡ length old + ends_in new → verdicts_in new ≡ verdicts_in old
quiet_counts old new so = let a = item_or_end old in let b = item_or_end new in omega (arith, a, b, so)

-- ---- all lanes

-- ends are no copies
pub ended_counts : (seat : ℕ) (before after : List (List (Entry Job))) → HaveEnded seat before after → copies_in after ≡ copies_in before
ended_counts seat before after ended = ap copies_in ended ∙ each before where
  each : (xs : List (List (Entry Job))) → copies_in (map (λ entries. entries ++ End seat ∷ []) xs) ≡ copies_in xs
  each [] = refl
  each (x ∷ xs) =
      let h = each xs in
      let e = end_more x seat in
      let a = sum_by-cons count (x ++ End seat ∷ []) (map (λ entries. entries ++ End seat ∷ []) xs) in
      let b = sum_by-cons count x xs in
      omega (arith, h, e, a, b)

-- new permits have put nothing
pub new_counts : (ss : List (LanePermit Job)) → All IsNew ss → copies_in (map put_by ss) ≡ 0
new_counts [] all = refl
new_counts (s ∷ ss) all =
    let h = new_counts ss (All-tail IsNew s ss all) in
    let e = ap count (All-head IsNew s ss all).0 in
    let a = sum_by-cons count (put_by s) (map put_by ss) in
    omega (arith, h, e, a)
