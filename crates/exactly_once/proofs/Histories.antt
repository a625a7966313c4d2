-- What stands in a history was put by its seat into the lane of the mailbox's shard.
use Rattle.std.proofs.Common.{◌≡◌, ◌≢◌, ℕ, ◌⊎◌, inl, inr, Bool, true, false, cond, ◌==◌, eqb, List, [], ◌∷◌, ◌++◌, map, filter, filter_map, refl, ap, sym, subst, ◌∙◌}
use Rattle.std.specs.Prelude.{Contains}
use Rattle.std.proofs.lemmas.Bool.{false≢true, eq-eqb}
use Rattle.std.proofs.lemmas.Bool.Decides.{eqb_tells}
use Rattle.std.proofs.lemmas.List.Elements.{All-contains}
use Rattle.delivery_token.specs.declared.Job.{Job}
use Rattle.shard_queue.specs.declared.lane.Entry.{Entry}
use Rattle.shard_queue.specs.declared.lane.Entry.TheVariants.{Item, End}
use Rattle.shard_queue.specs.Lane.{producer}
use Rattle.world.specs.World.{Config, World, shard_of}
use Rattle.world.specs.Law.{accepted_of, copies, copy_for, taken_copies}
use Rattle.world.proofs.Always.{accepted_taken, every_front}
use Rattle.world.proofs.Base.{Every, all_of_every, every_weaker, part_every}
use Rattle.world.proofs.Kept.{Kept, OwnCopy}
use Rattle.world.proofs.Mails.{IsIn}
use Rattle.exactly_once.proofs.Lanes.{put_by}

-- ---- lists

pub every_in : {A : Type 0} (P : A → Type 0) (x : A) (xs : List A) → Every P xs → IsIn x xs → P x
every_in P x [] h i = absurd i
every_in P x (y ∷ ys) h (inl e) = subst P (sym e) h.0
every_in P x (y ∷ ys) h (inr i) = every_in P x ys h.1 i

pub in_of_contains : {A : Type 0} (x : A) (xs : List A) → Contains xs x → IsIn x xs
in_of_contains {A} x xs c = All-contains (λ y. IsIn y xs) xs x (all_of_every (λ y. IsIn y xs) xs (itself xs)) c
  where
    itself : (ys : List A) → Every (λ y. IsIn y ys) ys
    itself [] = tt
    itself (y ∷ ys) = (inl refl, every_weaker (λ z. IsIn z ys) (λ z. IsIn z (y ∷ ys)) (λ z i. inr i) ys (itself ys))

in_map : {A B : Type 0} (f : A → B) (x : A) (xs : List A) → IsIn x xs → IsIn (f x) (map f xs)
in_map f x [] i = absurd i
in_map f x (y ∷ ys) (inl e) = inl (ap f e)
in_map f x (y ∷ ys) (inr i) = inr (in_map f x ys i)

-- what passes is among what passes
every_filter : {A : Type 0} (test : A → Bool) (xs : List A) → Every (λ x. test x ≡ true → IsIn x (filter test xs)) xs
every_filter test [] = tt
every_filter {A} test (x ∷ xs) = go (test x) refl (every_filter test xs)
  where
    go : (b : Bool) → test x ≡ b → Every (λ y. test y ≡ true → IsIn y (filter test xs)) xs → Every (λ y. test y ≡ true → IsIn y (cond b (x ∷ filter test xs) (filter test xs))) (x ∷ xs)
    go true t h = ((λ e. inl refl), every_weaker (λ y. test y ≡ true → IsIn y (filter test xs)) (λ y. test y ≡ true → IsIn y (x ∷ filter test xs)) (λ y f e. inr (f e)) xs h)
    go false t h = ((λ e. absurd (false≢true (sym t ∙ e))), h)

-- ---- lanes

-- what the consumer took of a seat for a mailbox
taken_every : (k : Config) (s p m : ℕ) (Q : Job → Type 0) (es : List (Entry Job)) → Every (OwnCopy k s) es → Every (λ e. (c : Job) → e ≡ Item p c → c.mailbox ≡ m → Q c) es
    → Every Q (filter_map (copy_for p m) es)
taken_every k s p m Q [] h q = tt
taken_every k s p m Q (Item r c ∷ es) h q = go (eqb_tells c.key.seat p) (eqb_tells c.mailbox m) (taken_every k s p m Q es h.1 q.1)
  where
    go : ((eqb c.key.seat p ≡ true) × (c.key.seat ≡ p)) ⊎ ((eqb c.key.seat p ≡ false) × (c.key.seat ≢ p))
        → ((eqb c.mailbox m ≡ true) × (c.mailbox ≡ m)) ⊎ ((eqb c.mailbox m ≡ false) × (c.mailbox ≢ m))
        → Every Q (filter_map (copy_for p m) es) → Every Q (filter_map (copy_for p m) (Item r c ∷ es))
    go (inl (t, i)) (inl (u, j)) rest = rw (t, u) (q.0 c (ap (λ (x : ℕ). Item x c) (sym h.0.0 ∙ i)) j, rest)
    go (inl (t, i)) (inr (u, j)) rest = rw (t, u) rest
    go (inr (t, i)) b rest = rw t rest
taken_every k s p m Q (End r ∷ es) h q = taken_every k s p m Q es h.1 q.1

-- a copy of its seat, for this mailbox, that it put
abbrev pub WasPut : World → (p s m : ℕ) → Job → Type 0
WasPut w p s m c = (c.mailbox ≡ m) × IsIn (Item p c) (put_by w p s)

pub history_was_put : (k : Config) (w : World) → Kept k w → (m : ℕ) (a : Job × ℕ) → Contains (w.box m).accepted a → WasPut w a.0.key.seat (shard_of k m) m a.0
history_was_put k w K m a there =
    let p : ℕ = a.0.key.seat in
    let s : ℕ = shard_of k m in
    let all : List (Entry Job) = (w.lane s).got ++ (w.lane s).waiting in
    let seen : Every (λ (e : Entry Job). (producer e == p) ≡ true → IsIn e (put_by w p s)) all =
    subst (λ (l : List (Entry Job)). Every (λ (e : Entry Job). (producer e == p) ≡ true → IsIn e l) all) ((K.lanes s).each p) (every_filter (λ (e : Entry Job). producer e == p) all) in
    let mine : Every (λ (e : Entry Job). (c : Job) → e ≡ Item p c → c.mailbox ≡ m → WasPut w p s m c) all =
    every_weaker (λ (e : Entry Job). (producer e == p) ≡ true → IsIn e (put_by w p s)) (λ (e : Entry Job). (c : Job) → e ≡ Item p c → c.mailbox ≡ m → WasPut w p s m c)
    (λ e f c is of_m. (of_m, subst (λ (x : Entry Job). IsIn x (put_by w p s)) is (f (ap (λ (x : Entry Job). producer x == p) is ∙ eq-eqb p p refl)))) all seen in
    let taken : Every (WasPut w p s m) (taken_copies k w p m) =
    taken_every k s p m (WasPut w p s m) (w.lane s).got (every_front (OwnCopy k s) (w.lane s).got (w.lane s).waiting (K.own s)) (every_front _ (w.lane s).got (w.lane s).waiting mine) in
    let stands : Every (WasPut w p s m) (copies (accepted_of w p m)) = part_every (WasPut w p s m) (accepted_taken k w K p m) taken in
    let of_seat : IsIn a (accepted_of w p m) =
    every_in (λ (x : Job × ℕ). (x.0.key.seat == p) ≡ true → IsIn x (accepted_of w p m)) a (w.box m).accepted (every_filter (λ (x : Job × ℕ). x.0.key.seat == p) (w.box m).accepted)
    (in_of_contains a (w.box m).accepted there) (eq-eqb p p refl) in
    every_in (WasPut w p s m) a.0 (copies (accepted_of w p m)) stands (in_map (λ (x : Job × ℕ). x.0) a (accepted_of w p m) of_seat)
