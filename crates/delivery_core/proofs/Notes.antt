-- What a seat's notes are, and the load, where one element of a list was changed.
use Rattle.std.proofs.Common.{◌≡◌, ℕ, zero, suc, ◌+◌, ◌<◌, ◌≤◌, List, [], ◌∷◌, ◌++◌, length, map, get_or, set, refl, sym, ap, ◌∙◌, arith, append-nil, None}
use Rattle.std.specs.Prelude.{sum_by}
use Rattle.std.proofs.lemmas.List.Sums.{sum_by-set, sum_by-append}
use Rattle.std.proofs.lemmas.List.{get_or-set_other, get_or-set_same, length-map}
use Rattle.delivery_token.specs.declared.Job.{Job}
use Rattle.delivery_token.specs.declared.log.Noted.{Noted}
use Rattle.delivery_token.specs.WorkerLog.{WorkerLog}
use Rattle.shard_queue.specs.PlainLane.{PlainLane}
use Rattle.shard_queue.specs.declared.lane.Entry.TheVariants.{Item}
use Rattle.delivery_core.specs.DeliveryCore.{DeliveryCore}
use Rattle.delivery_core.specs.Changes.{Hears}
use Rattle.delivery_core.specs.Load.{entry_load, lane_load}
use Rattle.delivery_core.specs.inner.Puts.{LanePuts, joins, has_no_room, has_no_memory, is_over}

abbrev notes : List WorkerLog → List (List Noted)
notes books = map (λ (b : WorkerLog). b.notes) books

notes_set : (books : List WorkerLog) (i : ℕ) (b : WorkerLog) → notes (set books i b) ≡ set (notes books) i b.notes
notes_set [] i b = refl
notes_set (x ∷ xs) zero b = refl
notes_set (x ∷ xs) (suc i) b = ap (λ (ns : List (List Noted)). x.notes ∷ ns) (notes_set xs i b)

notes_get : (books : List WorkerLog) (i : ℕ) (d : WorkerLog) → i < length books → get_or (notes books) i [] ≡ (get_or books i d).notes
notes_get [] i d l = absurd (omega arith)
notes_get (x ∷ xs) zero d l = refl
notes_get (x ∷ xs) (suc i) d l = notes_get xs i d (omega arith)

-- more was noted in a book
pub hears_more : (old new : DeliveryCore) (p : ℕ) (book0 book1 : WorkerLog) (more : List Noted) → p < length old.heard → book0 ≡ get_or old.heard p book0
    → book1.notes ≡ book0.notes ++ more → new.heard ≡ set old.heard p book1 → Hears old new p more
hears_more old new p book0 book1 more l first noted changed = record {
  here = after p ∙ (get_or-set_same (notes old.heard) p book1.notes [] within ∙ (noted ∙ ap (λ (ns : List Noted). ns ++ more) before));
  others = λ q other. after q ∙ get_or-set_other (notes old.heard) p q book1.notes [] other;
}
  where
    after : (q : ℕ) → get_or (notes new.heard) q [] ≡ get_or (set (notes old.heard) p book1.notes) q []
    after q = ap (λ (bs : List WorkerLog). get_or (notes bs) q []) changed ∙ ap (λ (ns : List (List Noted)). get_or ns q []) (notes_set old.heard p book1)

    within : p < length (notes old.heard)
    within = omega (arith, l, length-map old.heard (λ (b : WorkerLog). b.notes))

    before : book0.notes ≡ get_or (notes old.heard) p []
    before = ap (λ (b : WorkerLog). b.notes) first ∙ sym (notes_get old.heard p book0 l)

-- a book was replaced by one with the same notes
pub hears_none : (old new : DeliveryCore) (p : ℕ) (book0 book1 : WorkerLog) → p < length old.heard → book0 ≡ get_or old.heard p book0 → book1.notes ≡ book0.notes
    → new.heard ≡ set old.heard p book1 → Hears old new p []
hears_none old new p book0 book1 l first kept changed = hears_more old new p book0 book1 [] l first (kept ∙ sym (append-nil _)) changed

-- a copy that joined a lane is the work of four steps
pub put_load : (lanes : List (PlainLane Job)) (s p : ℕ) (c : Job) (l l2 : PlainLane Job) → s < length lanes → l ≡ get_or lanes s l → LanePuts l p c l2 None
    → sum_by lane_load (set lanes s l2) ≤ sum_by lane_load lanes + 4
put_load lanes s p c l l2 ins there (has_no_room live full e same) = absurd (cc)
put_load lanes s p c l l2 ins there (has_no_memory live room e same) = absurd (cc)
put_load lanes s p c l l2 ins there (is_over over e same) = absurd (cc)
put_load lanes s p c l l2 ins there (joins live room e put_it) =
    let more : lane_load l2 ≡ lane_load l + 4 = let a = ap lane_load put_it in let b = sum_by-append entry_load l.waiting (Item p c ∷ []) in omega (arith, a, b) in
    let all : sum_by lane_load (set lanes s l2) + lane_load (get_or lanes s l) ≡ sum_by lane_load lanes + lane_load l2 = sum_by-set lane_load lanes s l2 l ins in
    omega (arith, more, all, ap lane_load there)
