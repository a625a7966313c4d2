-- What stands in the mailboxes of a legal history.
use Rattle.std.proofs.Common.{◌≡◌, ◌≢◌, ℕ, zero, suc, ◌<◌, ◌≤◌, ◌==◌, ◌&&◌, Bool, true, false, List, [], ◌∷◌, ◌++◌, length, map, filter, Option, Some, None, All, AllPairs, Contains, slice_index_or, append_assoc, inl, inr, ◌⊎◌, sym, refl, ap, ◌∙◌, subst, arith}
use Rattle.std.specs.List.{filter_map, cons_option}
use Rattle.std.specs.List.Sorted.{IsStrictlyIncreasing}
use mathlib.Core.Bool.{cond}
use Rattle.std.proofs.lemmas.List.{append-nil}
use Rattle.std.proofs.lemmas.List.Kept.{AllPairs-from_increasing}
use Rattle.std.proofs.lemmas.Bool.{cases_lt}
use Rattle.std.proofs.lemmas.List.Elements.{Contains-append_left}
use Rattle.change_ring.specs.declared.change.Change.{Change}
use Rattle.change_ring.specs.Log.{added, rows_of, arrival}
use Rattle.change_ring.proofs.LogLaws.{added-append, arrival-added}
use Rattle.delivery_token.specs.Text.{Text}
use Rattle.delivery_token.specs.declared.CopyKey.{CopyKey}
use Rattle.delivery_token.specs.Keys.{Below}
use Rattle.delivery_token.specs.declared.Job.{Job}
use Rattle.delivery_token.specs.declared.Refusal.{Refusal}
use Rattle.delivery_token.specs.declared.Verdict.{Verdict}
use Rattle.delivery_token.specs.declared.Verdict.TheVariants.{Stored, Refused}
use Rattle.world.specs.Law.{IsPart, none, keeps, skips}
use Rattle.world.proofs.Base.{Every, Rising, every_of_all, rising_map, rising_pair, part_empty, part_rising}
use Rattle.world.proofs.Mails.{IsIn}
use Rattle.house_history.specs.declared.event.Event.{Event}
use Rattle.house_history.specs.declared.event.Event.TheVariants.{Sent, Withdrawn, Judged, Changed}
use Rattle.house_history.specs.Events.{accepted_in, accepted_of, changes_from, changes_in, judged_in, judged_of, keys_of_seat, logged, more, sent_by, sent_of, sent_to, sent_to_of, uids_of}
use Rattle.house_history.specs.Legal.{StandsAlone, HasText, IsBefore, Legal, Stands, WasJudged}
use Rattle.house_history.proofs.Follow.{had_been_sent, never_below, only_verdict}
use Rattle.house_history.proofs.Logs.{added_logged, rising_of}
use Rattle.house_history.proofs.Parts.{alone, default_any, given_of, itself, same}

-- ---- lists

module _ {X Y : Type 0} (f : X → Option Y) where
  gave : (x : X) (xs : List X) (y : Y) (o : Option Y) → f x ≡ o → ((Contains (filter_map f xs) y) → (z : X) × Contains xs z × (f z ≡ Some y)) → Contains (cons_option o (filter_map f xs)) y
      → (z : X) × Contains (x ∷ xs) z × (f z ≡ Some y)
  gave x xs y None is ih has = let r = ih has in (r.0, (suc r.1.0, (let l : r.1.0 < length xs = r.1.1 in let m : suc r.1.0 < suc (length xs) = omega arith in m), r.1.2), r.2)
  gave x xs y (Some u) is ih (zero, l, at) = (x, (0, (omega arith), refl), is ∙ ap (λ (z : Y). Some z) at)
  gave x xs y (Some u) is ih (suc k, l, at) = let r = ih (k, (omega (arith, l)), at) in (r.0, (suc r.1.0, (let l : r.1.0 < length xs = r.1.1 in let m : suc r.1.0 < suc (length xs) = omega arith in m), r.1.2), r.2)

  -- what f gave, it gave of an element
  pub given_by : (xs : List X) (y : Y) → Contains (filter_map f xs) y → (z : X) × Contains xs z × (f z ≡ Some y)
  given_by [] y has = absurd (let l = has.1 in omega (arith, l))
  given_by (x ∷ xs) y has = gave x xs y (f x) refl (given_by xs y) has

in_itself : {X : Type 0} (xs : List X) (i : ℕ) (d : X) → i < length xs → Contains xs (slice_index_or xs i d)
in_itself xs i d l = (i, l, default_any xs i (slice_index_or xs i d) d l)

is_in : {X : Type 0} (xs : List X) (x : X) (k : ℕ) → k < length xs → slice_index_or xs k x ≡ x → IsIn x xs
is_in [] x k l at = absurd (omega (arith, l))
is_in (y ∷ ys) x zero l at = inl (sym at)
is_in (y ∷ ys) x (suc k) l at = inr (is_in ys x k (omega (arith, l)) at)

every_back : {A B : Type 0} (P : B → Type 0) (f : A → B) (xs : List A) → Every P (map f xs) → Every (λ x. P (f x)) xs
every_back P f [] h = tt
every_back P f (x ∷ xs) h = (h.0, every_back P f xs h.1)

rising_back : {A B : Type 0} (R : B → B → Type 0) (f : A → B) (xs : List A) → Rising R (map f xs) → Rising (λ x y. R (f x) (f y)) xs
rising_back R f [] h = tt
rising_back R f (x ∷ xs) h = (every_back (R (f x)) f xs h.0, rising_back R f xs h.1)

-- what stands in a list behind x, and in y and the others, stands in the others, where x is y
still_behind : {A : Type 0} (R : A → A → Type 0) → ((a : A) → R a a → ⊥) → (x y : A) (ys : List A) → x ≡ y → (zs : List A) → Every (R x) zs → Every (λ z. IsIn z (y ∷ ys)) zs → Every (λ z. IsIn z ys) zs
still_behind R never x y ys e [] up within = tt
still_behind R never x y ys e (z ∷ zs) up (inl is, rest) = absurd (never x (subst (λ a. R x a) (is ∙ sym e) up.0))
still_behind R never x y ys e (z ∷ zs) up (inr l, rest) = (l, still_behind R never x y ys e zs up.1 rest)

in_every : {A : Type 0} (P : A → Type 0) (x : A) (ys : List A) → Every P ys → IsIn x ys → P x
in_every P x [] all here = absurd here
in_every P x (y ∷ ys) all (inl is) = subst P (sym is) all.0
in_every P x (y ∷ ys) all (inr l) = in_every P x ys all.1 l

-- and so it does where x is behind y
past_first : {A : Type 0} (R : A → A → Type 0) → ((a b : A) → R a b → R b a → ⊥) → (x y : A) (ys : List A) → R y x → (zs : List A) → Every (R x) zs → Every (λ z. IsIn z (y ∷ ys)) zs → Every (λ z. IsIn z ys) zs
past_first R never x y ys less [] up within = tt
past_first R never x y ys less (z ∷ zs) up (inl is, rest) = absurd (never y x less (subst (λ a. R x a) is up.0))
past_first R never x y ys less (z ∷ zs) up (inr l, rest) = (l, past_first R never x y ys less zs up.1 rest)

-- a rising list whose elements stand in another rising one is a part of it
rising_part : {A : Type 0} (R : A → A → Type 0) → ((a : A) → R a a → ⊥) → ((a b : A) → R a b → R b a → ⊥) → (ys xs : List A) → Rising R xs → Rising R ys → Every (λ x. IsIn x ys) xs → IsPart xs ys
rising_part R never either [] [] up up' within = none
rising_part R never either [] (x ∷ xs) up up' within = absurd within.0
rising_part R never either (y ∷ ys) [] up up' within = skips y (part_empty ys)
rising_part R never either (y ∷ ys) (x ∷ xs) up up' (inl is, rest) =
    subst (λ a. IsPart (a ∷ xs) (y ∷ ys)) (sym is) (keeps y (rising_part R never either ys xs up.1 up'.1 (still_behind R never x y ys is xs up.0 rest)))
rising_part R never either (y ∷ ys) (x ∷ xs) up up' (inr here, rest) =
    skips y (rising_part R never either ys (x ∷ xs) up up'.1 (here, past_first R either x y ys (in_every (R y) x ys up'.0 here) xs up.0 rest))

-- ---- UIDs

-- what an event adds to a mailbox's log is what the mailbox accepts with it
added_by : (m : ℕ) (log : List Change) (e : Event) (rest : List (CopyKey × ℕ)) → added (more m log e) ++ uids_of rest ≡ uids_of (cons_option (accepted_of m e) rest)
added_by m log (Sent j t) rest = refl
added_by m log (Withdrawn t) rest = refl
added_by m log (Judged j (Stored uid) t) rest = go (j.mailbox == m)
  where
    go : (b : Bool) → added (cond b (arrival uid j.flags) []) ++ uids_of rest ≡ uids_of (cons_option (cond b (Some (j.key, uid)) None) rest)
    go true = ap (λ (us : List ℕ). us ++ uids_of rest) (arrival-added uid j.flags)
    go false = refl
added_by m log (Judged j (Refused why) t) rest = go (j.mailbox == m)
  where
    go : (b : Bool) → added (cond b [] []) ++ uids_of rest ≡ uids_of rest
    go true = refl
    go false = refl
added_by m log (Changed n s) rest = go (n == m)
  where
    go : (b : Bool) → added (cond b (logged s (rows_of log)) []) ++ uids_of rest ≡ uids_of rest
    go true = ap (λ (us : List ℕ). us ++ uids_of rest) (added_logged s (rows_of log))
    go false = refl

added_from : (m : ℕ) (es : List Event) (log : List Change) → added (changes_from m log es) ≡ added log ++ uids_of (accepted_in m es)
added_from m [] log = sym (append-nil (added log))
added_from m (e ∷ es) log = added_from m es (log ++ more m log e)
    ∙ (ap (λ (us : List ℕ). us ++ uids_of (accepted_in m es)) (added-append log (more m log e))
    ∙ (append_assoc (added log) (added (more m log e)) (uids_of (accepted_in m es)) ∙ ap (λ (us : List ℕ). added log ++ us) (added_by m log e (accepted_in m es))))

pub added_in : (log : List Event) (m : ℕ) → added (changes_in m log) ≡ uids_of (accepted_in m log)
added_in log m = added_from m log []

pub uids_rise : (log : List Event) (m : ℕ) → Legal log → IsStrictlyIncreasing (uids_of (accepted_in m log)) × (added (changes_in m log) ≡ uids_of (accepted_in m log))
uids_rise log m legal = (subst IsStrictlyIncreasing (added_in log m) (legal.logs m).rising, added_in log m)

-- so of two that a mailbox accepted the earlier one has the lower UID
lower : (log : List Event) (m : ℕ) → Legal log → AllPairs (λ a b. a.1 < b.1) (accepted_in m log)
lower log m legal = rising_pair (λ a b. a.1 < b.1) (accepted_in m log)
    (rising_back (λ u v. u < v) (λ (a : CopyKey × ℕ). a.1) (accepted_in m log) (rising_of (λ u v. u < v) (uids_of (accepted_in m log)) (AllPairs-from_increasing _ (uids_rise log m legal).0)))

-- ---- what was accepted was stored

stored_by : (m : ℕ) (e : Event) (key : CopyKey) (uid : ℕ) → accepted_of m e ≡ Some (key, uid) → (j : Job) × (t : ℕ) × (e ≡ Judged j (Stored uid) t) × (j.key ≡ key) × (j.mailbox ≡ m)
stored_by m (Sent j t) key uid is = absurd (cc is)
stored_by m (Withdrawn t) key uid is = absurd (cc is)
stored_by m (Judged j (Stored u) t) key uid is = go (j.mailbox == m) refl is
  where
    go : (b : Bool) → (j.mailbox == m) ≡ b → cond {A = Option (CopyKey × ℕ)} b (Some (j.key, u)) None ≡ Some (key, uid) → (i : Job) × (s : ℕ) × (Judged j (Stored u) t ≡ Judged i (Stored uid) s) × (i.key ≡ key) × (i.mailbox ≡ m)
    go true here is = let pair : ◌≡◌ {A = CopyKey × ℕ} (j.key, u) (key, uid) = cc is in let a : j.key ≡ key = ap (λ (x : CopyKey × ℕ). x.0) pair in let b : u ≡ uid = ap (λ (x : CopyKey × ℕ). x.1) pair in (j, t, ap (λ (n : ℕ). Judged j (Stored n) t) b, a, same j.mailbox m here)
    go false here is = absurd (cc is)
stored_by m (Judged j (Refused why) t) key uid is = absurd (cc is)
stored_by m (Changed n s) key uid is = absurd (cc is)

pub was_stored : (log : List Event) (m uid : ℕ) (key : CopyKey) → Contains (accepted_in m log) (key, uid) → (j : Job) × (j.key ≡ key) × (j.mailbox ≡ m) × Stands log j uid
was_stored log m uid key has =
    let from = given_by (accepted_of m) log (key, uid) has in
    let is = stored_by m from.0 key uid from.2 in
    (is.0, is.3, is.4, (is.1, subst (λ (e : Event). Contains log e) is.2 from.1))

-- the pair at a position, of which only the key is known
was_stored_at : (log : List Event) (m i : ℕ) (d : CopyKey × ℕ) (key : CopyKey) → i < length (accepted_in m log) → (slice_index_or (accepted_in m log) i d).0 ≡ key
    → (j : Job) × (j.key ≡ key) × (j.mailbox ≡ m) × Stands log j (slice_index_or (accepted_in m log) i d).1
was_stored_at log m i d key l is = let x : CopyKey × ℕ = slice_index_or (accepted_in m log) i d in
    was_stored log m x.1 key (subst (λ (k : CopyKey). Contains (accepted_in m log) (k, x.1)) is (in_itself (accepted_in m log) i d l))

abbrev uid_of : Verdict → ℕ
uid_of (Stored uid) = uid
uid_of (Refused why) = 0

-- and the other way round
stands_there : (log : List Event) (j : Job) (uid : ℕ) → Stands log j uid → Contains (accepted_in j.mailbox log) (j.key, uid)
stands_there log j uid was = given_of (accepted_of j.mailbox) log was.1.0 (Judged j (Stored uid) was.0) (j.key, uid) was.1.1 was.1.2 (ap (λ (b : Bool). cond b (Some (j.key, uid)) None) (itself j.mailbox))

one_uid : (log : List Event) → Legal log → (i j : Job) (u w : ℕ) → Stands log i u → Stands log j w → i.key ≡ j.key → (i ≡ j) × (u ≡ w)
one_uid log legal i j u w a b e = let one = only_verdict log i j (Stored u) (Stored w) legal a b e in (one.0, ap uid_of one.1)

pub no_key_twice : (log : List Event) (m : ℕ) → Legal log → AllPairs (λ a b. a.0 ≢ b.0) (accepted_in m log)
no_key_twice log m legal i j d less l e =
    let a = was_stored_at log m i d _ (omega (arith, less, l)) e in
    let b = was_stored_at log m j d _ l refl in
    let same_uid = (one_uid log legal a.0 b.0 _ _ a.3 b.3 (a.1 ∙ sym b.1)).1 in
    let low = lower log m legal i j d less l in
    omega (arith, same_uid, low)

at_one : (xs : List (CopyKey × ℕ)) → AllPairs (λ a b. a.0 ≢ b.0) xs → (i k : ℕ) (d x : CopyKey × ℕ) → i < length xs → k < length xs → (slice_index_or xs i d).0 ≡ x.0 → slice_index_or xs k x ≡ x → (i < k) ⊎ (k ≤ i) → (k < i) ⊎ (i ≤ k) → i ≡ k
at_one xs apart i k d x l l' is at (inl less) other = absurd (apart i k d less l' (is ∙ sym (ap (λ (a : CopyKey × ℕ). a.0) (default_any xs k d x l' ∙ at))))
at_one xs apart i k d x l l' is at (inr least) (inl less) = absurd (apart k i d less l (ap (λ (a : CopyKey × ℕ). a.0) (default_any xs k d x l' ∙ at) ∙ sym is))
at_one xs apart i k d x l l' is at (inr least) (inr most) = omega (arith, least, most)

pub alone_there : (log : List Event) (j : Job) (uid : ℕ) → Legal log → Stands log j uid → StandsAlone log j uid
alone_there log j uid legal was = let here = stands_there log j uid was in record {
  once = record {
    position = here.0;
    within = here.1;
    here = here.2;
    alone = λ i d l is. at_one (accepted_in j.mailbox log) (no_key_twice log j.mailbox legal) i here.0 d (j.key, uid) l here.1 is here.2 (cases_lt i here.0) (cases_lt here.0 i);
  };
  nowhere_else = λ m w has. (let other = was_stored log m w j.key has in let one = one_uid log legal other.0 j w uid other.3 was other.1 in
      (sym other.2 ∙ ap (λ (i : Job). i.mailbox) one.0, one.1));
}

pub same_copy : (log : List Event) (i j : Job) (uid : ℕ) → Legal log → Stands log i uid → Stands log j uid → i.mailbox ≡ j.mailbox → i ≡ j
same_copy log i j uid legal a b e =
    let x = subst (λ (m : ℕ). Contains (accepted_in m log) (i.key, uid)) e (stands_there log i uid a) in
    let y = stands_there log j uid b in
    let pair : ◌≡◌ {A = CopyKey × ℕ} (i.key, uid) (j.key, uid) = alone (λ a b. a.1 < b.1) (accepted_in j.mailbox log) (i.key, uid) (j.key, uid) (lower log j.mailbox legal) x.0 y.0 x.1 y.1 x.2 y.2
    (λ less. omega (arith, less)) (λ less. omega (arith, less)) (cases_lt x.0 y.0) in
    (one_uid log legal i j uid uid a b (ap (λ (k : CopyKey × ℕ). k.0) pair)).0

picked : (g : Event → Bool) (x : Event) (xs : List Event) (y : Event) (b : Bool) → (Contains (filter g xs) y → Contains xs y) → Contains (cond b (x ∷ filter g xs) (filter g xs)) y → Contains (x ∷ xs) y
picked g x xs y true ih (zero, l, at) = (0, omega arith, at)
picked g x xs y true ih (suc k, l, at) = let r = ih (k, (omega (arith, l)), at) in (suc r.0, (let m : r.0 < length xs = r.1 in let n : suc r.0 < suc (length xs) = omega arith in n), r.2)
picked g x xs y false ih has = let r = ih has in (suc r.0, (let m : r.0 < length xs = r.1 in let n : suc r.0 < suc (length xs) = omega arith in n), r.2)

-- what stands in a part stands in the whole
pub in_whole : (g : Event → Bool) (xs : List Event) (y : Event) → Contains (filter g xs) y → Contains xs y
in_whole g [] y has = absurd (let l = has.1 in omega (arith, l))
in_whole g (x ∷ xs) y has = picked g x xs y (g x) (in_whole g xs y) has

pub text_in_whole : (g : Event → Bool) (log : List Event) (m uid : ℕ) (text : Text) → HasText (filter g log) m uid text → HasText log m uid text
text_in_whole g log m uid text has = (has.0, has.1, has.2, (has.3.0, in_whole g log (Judged has.0 (Stored uid) has.3.0) has.3.1))

pub text_later : (log : List Event) (e : Event) (m uid : ℕ) (text : Text) → HasText log m uid text → HasText (log ++ e ∷ []) m uid text
text_later log e m uid text has = (has.0, has.1, has.2, (has.3.0, Contains-append_left log (e ∷ []) (Judged has.0 (Stored uid) has.3.0) has.3.1))

stored_or_refused : (u : ℕ) (why : Refusal) → Stored u ≡ Refused why → ⊥
stored_or_refused u why is = absurd (cc is)

pub stands_nowhere : (log : List Event) (j : Job) (why : Refusal) (m : ℕ) → Legal log → WasJudged log j (Refused why) → All (λ a. a.0 ≢ j.key) (accepted_in m log)
stands_nowhere log j why m legal was i d l e = let a = was_stored_at log m i d j.key l e in
    stored_or_refused _ why (only_verdict log a.0 j (Stored _) (Refused why) legal a.3 was a.1).1

-- ---- the order

keys_part : (m p : ℕ) (es : List Event) → IsPart (keys_of_seat p (accepted_in m es)) (map (λ (j : Job). j.key) (judged_in m p es))
keys_part m p [] = none
keys_part m p (Sent j t ∷ es) = keys_part m p es
keys_part m p (Withdrawn t ∷ es) = keys_part m p es
keys_part m p (Judged j (Stored uid) t ∷ es) = go (j.mailbox == m) (j.key.seat == p) refl (keys_part m p es)
  where
    go : (a b : Bool) → (j.key.seat == p) ≡ b → IsPart (keys_of_seat p (accepted_in m es)) (map (λ (i : Job). i.key) (judged_in m p es))
        → IsPart (keys_of_seat p (cons_option (cond a (Some (j.key, uid)) None) (accepted_in m es))) (map (λ (i : Job). i.key) (cons_option (cond (a && b) (Some j) None) (judged_in m p es)))
    go true true is part = rw is (keeps j.key part)
    go true false is part = rw is part
    go false b is part = part
keys_part m p (Judged j (Refused why) t ∷ es) = go (j.mailbox == m && j.key.seat == p) (keys_part m p es)
  where
    go : (a : Bool) → IsPart (keys_of_seat p (accepted_in m es)) (map (λ (i : Job). i.key) (judged_in m p es))
        → IsPart (keys_of_seat p (accepted_in m es)) (map (λ (i : Job). i.key) (cons_option (cond a (Some j) None) (judged_in m p es)))
    go true part = skips j.key part
    go false part = part
keys_part m p (Changed n s ∷ es) = keys_part m p es

pub keys_in_order : (log : List Event) (m p : ℕ) → Legal log → AllPairs Below (keys_of_seat p (accepted_in m log))
keys_in_order log m p legal = rising_pair Below (keys_of_seat p (accepted_in m log))
    (part_rising Below (keys_part m p log) (rising_map Below (λ (j : Job). j.key) (judged_in m p log) (rising_of IsBefore (judged_in m p log) (legal.judged_rise m p))))

-- what a seat sent to a mailbox is some of what it sent
sent_part : (m p : ℕ) (es : List Event) → IsPart (sent_to m p es) (map (λ (a : Job × ℕ). a.0) (sent_by p es))
sent_part m p [] = none
sent_part m p (Sent j t ∷ es) = go (j.mailbox == m) (j.key.seat == p) (sent_part m p es)
  where
    go : (a b : Bool) → IsPart (sent_to m p es) (map (λ (x : Job × ℕ). x.0) (sent_by p es))
        → IsPart (cons_option (cond (a && b) (Some j) None) (sent_to m p es)) (map (λ (x : Job × ℕ). x.0) (cons_option (cond b (Some (j, t)) None) (sent_by p es)))
    go true true part = keeps j part
    go true false part = part
    go false true part = skips j part
    go false false part = part
sent_part m p (Withdrawn t ∷ es) = sent_part m p es
sent_part m p (Judged j v t ∷ es) = sent_part m p es
sent_part m p (Changed n s ∷ es) = sent_part m p es

sent_rises : (log : List Event) (m p : ℕ) → Legal log → Rising IsBefore (sent_to m p log)
sent_rises log m p legal = part_rising IsBefore (sent_part m p log) (rising_map IsBefore (λ (a : Job × ℕ). a.0) (sent_by p log) (rising_of (λ a b. IsBefore a.0 b.0) (sent_by p log) (legal.sent_rise p)))

judged_by : (m p : ℕ) (e : Event) (j : Job) → judged_of m p e ≡ Some j → (v : Verdict) × (t : ℕ) × (e ≡ Judged j v t) × ((j.mailbox == m && j.key.seat == p) ≡ true)
judged_by m p (Sent i t) j is = absurd (cc is)
judged_by m p (Withdrawn t) j is = absurd (cc is)
judged_by m p (Judged i v t) j is = go (i.mailbox == m && i.key.seat == p) refl is
  where
    go : (b : Bool) → (i.mailbox == m && i.key.seat == p) ≡ b → cond b (Some i) None ≡ Some j → (w : Verdict) × (s : ℕ) × (Judged i v t ≡ Judged j w s) × ((j.mailbox == m && j.key.seat == p) ≡ true)
    go true here is = let a : i ≡ j = cc is in (v, t, ap (λ (k : Job). Judged k v t) a, subst (λ (k : Job). (k.mailbox == m && k.key.seat == p) ≡ true) a here)
    go false here is = absurd (cc is)
judged_by m p (Changed n s) j is = absurd (cc is)

sent_event : (p : ℕ) (e : Event) (j : Job) (t : ℕ) → sent_of p e ≡ Some (j, t) → e ≡ Sent j t
sent_event p (Sent i s) j t is = go (i.key.seat == p) is
  where
    go : (b : Bool) → cond {A = Option (Job × ℕ)} b (Some (i, s)) None ≡ Some (j, t) → Sent i s ≡ Sent j t
    go true is = let pair : ◌≡◌ {A = Job × ℕ} (i, s) (j, t) = cc is in ap (λ (x : Job × ℕ). Sent x.0 x.1) pair
    go false is = absurd (cc is)
sent_event p (Withdrawn s) j t is = absurd (cc is)
sent_event p (Judged i v s) j t is = absurd (cc is)
sent_event p (Changed n s) j t is = absurd (cc is)

judged_was_sent_to : (log : List Event) (m p : ℕ) → Legal log → (j : Job) → Contains (judged_in m p log) j → IsIn j (sent_to m p log)
judged_was_sent_to log m p legal j has =
    let from = given_by (judged_of m p) log j has in
    let is = judged_by m p from.0 j from.2 in
    let sent = had_been_sent log legal j is.0 is.1 (subst (λ (e : Event). Contains log e) is.2 from.1) in
    let event = given_by (sent_of j.key.seat) log (j, is.1) sent in
    let there : Contains log (Sent j is.1) = subst (λ (e : Event). Contains log e) (sent_event j.key.seat event.0 j is.1 event.2) event.1 in
    let to : Contains (sent_to m p log) j = given_of (sent_to_of m p) log there.0 (Sent j is.1) j there.1 there.2 (ap (λ (b : Bool). cond b (Some j) None) is.3) in
    is_in (sent_to m p log) j to.0 to.1 to.2

below_trans : (a b c : CopyKey) → Below a b → Below b c → Below a c
below_trans a b c (inl h) (inl k) = inl (omega (arith, h, k))
below_trans a b c (inl h) (inr (e, k)) = inl (omega (arith, h, e))
below_trans a b c (inr (e, h)) (inl k) = inl (omega (arith, e, k))
below_trans a b c (inr (e, inl h)) (inr (f, inl k)) = inr (e ∙ f, inl (omega (arith, h, k)))
below_trans a b c (inr (e, inl h)) (inr (f, inr (g, k))) = inr (e ∙ f, inl (omega (arith, h, g)))
below_trans a b c (inr (e, inr (d, h))) (inr (f, inl k)) = inr (e ∙ f, inl (omega (arith, d, k)))
below_trans a b c (inr (e, inr (d, h))) (inr (f, inr (g, k))) = inr (e ∙ f, inr (d ∙ g, omega (arith, h, k)))

pub in_the_order_sent : (log : List Event) (m p : ℕ) → Legal log → IsPart (judged_in m p log) (sent_to m p log)
in_the_order_sent log m p legal = rising_part IsBefore (λ a less. never_below a.key less) (λ a b less more. never_below a.key (below_trans a.key b.key a.key less more)) (sent_to m p log) (judged_in m p log)
    (rising_of IsBefore (judged_in m p log) (legal.judged_rise m p)) (sent_rises log m p legal)
    (every_of_all (λ j. IsIn j (sent_to m p log)) (judged_in m p log) (λ i d l. judged_was_sent_to log m p legal _ (in_itself (judged_in m p log) i d l)))
