-- Which events may follow.
use Rattle.std.proofs.Common.{◌≡◌, ℕ, ◌<◌, ◌==◌, ◌&&◌, ◌||◌, Bool, true, false, List, [], ◌∷◌, ◌++◌, zero, suc, length, filter, Some, None, All, AllPairs, Contains, slice_index_or, append_assoc, inl, inr, ◌⊎◌, sym, refl, ap, ◌∙◌, subst, arith}
use mathlib.Core.Bool.{cond}
use mathlib.Core.List.{IsPrefix}
use Rattle.std.proofs.lemmas.List.{append-nil}
use Rattle.std.proofs.lemmas.List.Elements.{All-nil, All-push, Contains-push, filter_map-append}
use Rattle.std.proofs.lemmas.List.Quantifiers.{all_pairs_push}
use Rattle.std.proofs.lemmas.Bool.{cases_lt}
use Rattle.std.proofs.lemmas.Bool.Decides.{nat_tests}
use Rattle.shared_history.specs.Pages.{Adds, MayFollow, MayFollowBoth, ConcernsOne, ConcernsTwo, part}
use Rattle.change_ring.specs.declared.change.Change.{Change}
use Rattle.change_ring.specs.Log.{IsLegalLog, rows_of}
use Rattle.delivery_token.specs.declared.CopyKey.{CopyKey}
use Rattle.delivery_token.specs.Keys.{Below}
use Rattle.delivery_token.specs.declared.Job.{Job}
use Rattle.delivery_token.specs.declared.Verdict.{Verdict}
use Rattle.delivery_token.specs.declared.Verdict.TheVariants.{Stored, Refused}
use Rattle.delivery_token.specs.declared.log.Noted.{Noted}
use Rattle.house_history.specs.declared.event.Event.{Event}
use Rattle.house_history.specs.declared.event.Event.TheVariants.{Sent, Withdrawn, Judged, Changed}
use Rattle.house_history.specs.declared.event.Step.{Step}
use Rattle.house_history.specs.declared.event.Step.TheVariants.{Leave}
use Rattle.house_history.specs.Events.{accepted_in, accepted_of, concerns, seat_key, ticket_key, sent_of, sent_by, step_of, life, judged_of, judged_in, arrives, logged, more, changes_from, changes_in}
use Rattle.house_history.specs.Legal.{GivesUid, HasUid, IsBefore, IsLife, unused, under_way, judged, withdrawn, Legal, WasJudged, WasWithdrawn}
use Rattle.house_history.specs.Views.{IsNotedIn, IsSettledIn}
use Rattle.house_history.proofs.Logs.{legal_empty_log, legal_logged}
use Rattle.house_history.proofs.Parts.{of_part, push_some, push_none, given_of, alone, came_from, there, flip, same, is_same, itself, or_left, or_right, or_first, or_second, or_cases}

-- ---- what a part says is what the whole says

seats_apart : (p q : ℕ) → (seat_key p == seat_key q) ≡ false → (q == p) ≡ false
seats_apart p q e = grind (arith, nat_tests)

tickets_apart : (p q : ℕ) → (ticket_key p == ticket_key q) ≡ false → (q == p) ≡ false
tickets_apart p q e = grind (arith, nat_tests)

sent_elsewhere : (p : ℕ) (x : Event) → concerns (seat_key p) x ≡ false → sent_of p x ≡ None
sent_elsewhere p (Sent j t) e = ap (λ (b : Bool). cond b (Some (j, t)) None) (seats_apart p j.key.seat (or_left _ _ e))
sent_elsewhere p (Withdrawn t) e = refl
sent_elsewhere p (Judged j v t) e = refl
sent_elsewhere p (Changed m s) e = refl

step_elsewhere : (t : ℕ) (x : Event) → concerns (ticket_key t) x ≡ false → step_of t x ≡ None
step_elsewhere t (Sent j s) e = ap (λ (b : Bool). cond b (Some (Sent j s)) None) (tickets_apart t s (or_right _ _ e))
step_elsewhere t (Withdrawn s) e = ap (λ (b : Bool). cond b (Some (Withdrawn s)) None) (tickets_apart t s e)
step_elsewhere t (Judged j v s) e = ap (λ (b : Bool). cond b (Some (Judged j v s)) None) (tickets_apart t s (or_right _ _ e))
step_elsewhere t (Changed m s) e = refl

judged_elsewhere : (m p : ℕ) (x : Event) → concerns m x ≡ false → judged_of m p x ≡ None
judged_elsewhere m p (Sent j t) e = refl
judged_elsewhere m p (Withdrawn t) e = refl
judged_elsewhere m p (Judged j v t) e = ap (λ (b : Bool). cond (b && (j.key.seat == p)) (Some j) None) (flip m j.mailbox (or_left _ _ e))
judged_elsewhere m p (Changed n s) e = refl

pub sent_own : (p : ℕ) (log own : List Event) → part concerns (seat_key p) log ≡ own → sent_by p log ≡ sent_by p own
sent_own p log own is = sym (of_part (sent_of p) (concerns (seat_key p)) (sent_elsewhere p) log) ∙ ap (sent_by p) is

pub life_own : (t : ℕ) (log own : List Event) → part concerns (ticket_key t) log ≡ own → life t log ≡ life t own
life_own t log own is = sym (of_part (step_of t) (concerns (ticket_key t)) (step_elsewhere t) log) ∙ ap (life t) is

pub judged_own : (m p : ℕ) (log own : List Event) → part concerns m log ≡ own → judged_in m p log ≡ judged_in m p own
judged_own m p log own is = sym (of_part (judged_of m p) (concerns m) (judged_elsewhere m p) log) ∙ ap (judged_in m p) is

accepted_elsewhere : (m : ℕ) (x : Event) → concerns m x ≡ false → accepted_of m x ≡ None
accepted_elsewhere m (Sent j t) e = refl
accepted_elsewhere m (Withdrawn t) e = refl
accepted_elsewhere m (Judged j (Stored uid) t) e = ap (λ (b : Bool). cond b (Some (j.key, uid)) None) (flip m j.mailbox (or_left _ _ e))
accepted_elsewhere m (Judged j (Refused why) t) e = refl
accepted_elsewhere m (Changed n s) e = refl

pub accepted_own : (m : ℕ) (log own : List Event) → part concerns m log ≡ own → accepted_in m log ≡ accepted_in m own
accepted_own m log own is = sym (of_part (accepted_of m) (concerns m) (accepted_elsewhere m) log) ∙ ap (accepted_in m) is

none_elsewhere : (m : ℕ) (log : List Change) (x : Event) → concerns m x ≡ false → more m log x ≡ []
none_elsewhere m log (Sent j t) e = refl
none_elsewhere m log (Withdrawn t) e = refl
none_elsewhere m log (Judged j v t) e = ap (λ (b : Bool). cond b (arrives j v) []) (flip m j.mailbox (or_left _ _ e))
none_elsewhere m log (Changed n s) e = ap (λ (b : Bool). cond b (logged s (rows_of log)) []) (flip m n e)

changes_one : (m : ℕ) (log : List Change) (x : Event) (xs : List Event) (b : Bool) → (b ≡ false → more m log x ≡ []) → ((l : List Change) → changes_from m l (filter (concerns m) xs) ≡ changes_from m l xs)
    → changes_from m log (cond b (x ∷ filter (concerns m) xs) (filter (concerns m) xs)) ≡ changes_from m (log ++ more m log x) xs
changes_one m log x xs true unless ih = ih (log ++ more m log x)
changes_one m log x xs false unless ih = ih log ∙ ap (λ (l : List Change). changes_from m l xs) (sym (ap (λ (t : List Change). log ++ t) (unless refl) ∙ append-nil log))

changes_part : (m : ℕ) (xs : List Event) (log : List Change) → changes_from m log (filter (concerns m) xs) ≡ changes_from m log xs
changes_part m [] log = refl
changes_part m (x ∷ xs) log = changes_one m log x xs (concerns m x) (none_elsewhere m log x) (changes_part m xs)

pub changes_own : (m : ℕ) (log own : List Event) → part concerns m log ≡ own → changes_in m log ≡ changes_in m own
changes_own m log own is = sym (changes_part m log []) ∙ ap (changes_in m) is

-- ---- changes of a longer history

changes_behind : (m : ℕ) (xs ys : List Event) (log : List Change) → changes_from m log (xs ++ ys) ≡ changes_from m (changes_from m log xs) ys
changes_behind m [] ys log = refl
changes_behind m (x ∷ xs) ys log = changes_behind m xs ys (log ++ more m log x)

pub changes_push : (m : ℕ) (xs : List Event) (e : Event) → changes_in m (xs ++ e ∷ []) ≡ changes_in m xs ++ more m (changes_in m xs) e
changes_push m xs e = changes_behind m xs (e ∷ []) []

changes_longer : (m : ℕ) (xs : List Event) (log : List Change) → IsPrefix log (changes_from m log xs)
changes_longer m [] log = ([], append-nil log)
changes_longer m (x ∷ xs) log = let r = changes_longer m xs (log ++ more m log x) in (more m log x ++ r.0, sym (append_assoc log (more m log x) r.0) ∙ r.1)

pub changes_grow : (m : ℕ) (xs ys : List Event) → IsPrefix xs ys → IsPrefix (changes_in m xs) (changes_in m ys)
changes_grow m xs ys p = subst (λ (l : List Change). IsPrefix (changes_in m xs) l) (sym (changes_behind m xs p.0 []) ∙ ap (changes_in m) p.1) (changes_longer m p.0 (changes_in m xs))

changes_still : (m : ℕ) (xs : List Event) (e : Event) → more m (changes_in m xs) e ≡ [] → changes_in m (xs ++ e ∷ []) ≡ changes_in m xs
changes_still m xs e none = changes_push m xs e ∙ (ap (λ (t : List Change). changes_in m xs ++ t) none ∙ append-nil (changes_in m xs))

-- ---- lives

-- one copy's life goes on, and those of others stay
lives_go : (log : List Event) (e : Event) (t : ℕ) (was : List Event) → life t log ≡ was → IsLife t (was ++ e ∷ []) → step_of t e ≡ Some e → ((s : ℕ) → (t == s) ≡ false → step_of s e ≡ None) → ((s : ℕ) → IsLife s (life s log))
    → (s : ℕ) (b : Bool) → (t == s) ≡ b → IsLife s (life s (log ++ e ∷ []))
lives_go log e t was before now here elsewhere all s true is =
    let it : IsLife t (life t (log ++ e ∷ [])) = subst (IsLife t) (sym (push_some (step_of t) log e e here ∙ ap (λ (l : List Event). l ++ e ∷ []) before)) now in
    subst (λ (k : ℕ). IsLife k (life k (log ++ e ∷ []))) (same t s is) it
lives_go log e t was before now here elsewhere all s false is = subst (IsLife s) (sym (push_none (step_of s) log e (elsewhere s is))) (all s)

-- ---- a seat sends

abbrev Rises : Job × ℕ → Job × ℕ → Type 0
Rises a b = IsBefore a.0 b.0

sent_goes_on : (log : List Event) (j : Job) (t : ℕ) → All (λ i. IsBefore i.0 j) (sent_by j.key.seat log) → (q : ℕ) (b : Bool) → (j.key.seat == q) ≡ b → AllPairs Rises (sent_by q log) → AllPairs Rises (sent_by q (log ++ Sent j t ∷ []))
sent_goes_on log j t above q true is pairs =
    let all : All (λ i. IsBefore i.0 j) (sent_by q log) = subst (λ (r : ℕ). All (λ i. IsBefore i.0 j) (sent_by r log)) (same j.key.seat q is) above in
    subst (AllPairs Rises) (sym (push_some (sent_of q) log (Sent j t) (j, t) (ap (λ (b : Bool). cond b (Some (j, t)) None) is))) (all_pairs_push Rises (sent_by q log) (j, t) pairs all)
sent_goes_on log j t above q false is pairs = subst (AllPairs Rises) (sym (push_none (sent_of q) log (Sent j t) (ap (λ (b : Bool). cond b (Some (j, t)) None) is))) pairs

pub sent_follows : (seen own other : List Event) (j : Job) (t : ℕ) → All (λ i. IsBefore i.0 j) (sent_by j.key.seat own) → life t other ≡ []
    → MayFollowBoth Legal concerns seen (seat_key j.key.seat) own (ticket_key t) other (Sent j t)
sent_follows seen own other j t above fresh log legal pre mine theirs = let e : Event = Sent j t in
    let above' : All (λ i. IsBefore i.0 j) (sent_by j.key.seat log) = subst (All (λ i. IsBefore i.0 j)) (sym (sent_own j.key.seat log own mine)) above in record {
      sent_rise = λ q. sent_goes_on log j t above' q (j.key.seat == q) refl (legal.sent_rise q);
      lives = λ s. lives_go log e t [] (life_own t log other theirs ∙ fresh) (under_way j) (ap (λ (b : Bool). cond b (Some e) None) (itself t)) (λ k no'. ap (λ (b : Bool). cond b (Some e) None) no') legal.lives s (t == s) refl;
      judged_rise = λ m q. subst (AllPairs IsBefore) (sym (push_none (judged_of m q) log e refl)) (legal.judged_rise m q);
      logs = λ m. subst IsLegalLog (sym (changes_push m log e ∙ append-nil (changes_in m log))) (legal.logs m);
      uids = All-push GivesUid log e legal.uids tt;
    }

told : (a b m : ℕ) → ((m == a) ≡ true) ⊎ ((m == b) ≡ true) → (m ≡ a) ⊎ (m ≡ b)
told a b m (inl e) = inl (same m a e)
told a b m (inr e) = inr (same m b e)

either_is : (a b m : ℕ) → ((m == a) || (m == b)) ≡ true → (m ≡ a) ⊎ (m ≡ b)
either_is a b m is = told a b m (or_cases (m == a) (m == b) is)

pub two_are : (a b : ℕ) (f : ℕ → Bool) → ((m : ℕ) → f m ≡ ((m == a) || (m == b))) → (f a ≡ true) × (f b ≡ true) × ((m : ℕ) → f m ≡ true → (m ≡ a) ⊎ (m ≡ b))
two_are a b f is = (is a ∙ or_first (a == a) (a == b) (itself a), is b ∙ or_second (b == a) (b == b) (itself b), λ m yes'. either_is a b m (sym (is m) ∙ yes'))

-- ---- a mailbox judges

judged_goes_on : (log : List Event) (j : Job) (v : Verdict) (t : ℕ) → All (λ i. IsBefore i j) (judged_in j.mailbox j.key.seat log) → (m q : ℕ) (a b : Bool) → (j.mailbox == m) ≡ a → (j.key.seat == q) ≡ b
    → AllPairs IsBefore (judged_in m q log) → AllPairs IsBefore (judged_in m q (log ++ Judged j v t ∷ []))
judged_goes_on log j v t above m q true true is is' pairs =
    let all : All (λ i. IsBefore i j) (judged_in m q log) = subst (λ (t : ℕ × ℕ). All (λ i. IsBefore i j) (judged_in t.0 t.1 log)) (λ k. (same j.mailbox m is k, same j.key.seat q is' k)) above in
    subst (AllPairs IsBefore) (sym (push_some (judged_of m q) log (Judged j v t) j (λ k. cond (is k && is' k) (Some j) None))) (all_pairs_push IsBefore (judged_in m q log) j pairs all)
judged_goes_on log j v t above m q true false is is' pairs = subst (AllPairs IsBefore) (sym (push_none (judged_of m q) log (Judged j v t) (λ k. cond (is k && is' k) (Some j) None))) pairs
judged_goes_on log j v t above m q false b is is' pairs = subst (AllPairs IsBefore) (sym (push_none (judged_of m q) log (Judged j v t) (λ k. cond (is k && is' k) (Some j) None))) pairs

logs_go_on : (log own : List Event) (n : ℕ) (e : Event) → part concerns n log ≡ own → IsLegalLog (changes_in n (own ++ e ∷ [])) → ((m : ℕ) → (m == n) ≡ false → (l : List Change) → more m l e ≡ []) → ((m : ℕ) → IsLegalLog (changes_in m log))
    → (m : ℕ) (b : Bool) → (m == n) ≡ b → IsLegalLog (changes_in m (log ++ e ∷ []))
logs_go_on log own n e mine fits only all m true is =
    let at : m ≡ n = same m n is in
    let same_log : changes_in n log ≡ changes_in n own = changes_own n log own mine in
    let it : changes_in n (log ++ e ∷ []) ≡ changes_in n (own ++ e ∷ []) = changes_push n log e ∙ (ap (λ (l : List Change). l ++ more n l e) same_log ∙ sym (changes_push n own e)) in
    subst (λ (k : ℕ). IsLegalLog (changes_in k (log ++ e ∷ []))) (sym at) (subst (IsLegalLog) (sym it) fits)
logs_go_on log own n e mine fits only all m false is = subst (IsLegalLog) (sym (changes_still m log e (only m is (changes_in m log)))) (all m)

judged_log : (own : List Event) (j : Job) (v : Verdict) (t : ℕ) → changes_in j.mailbox (own ++ Judged j v t ∷ []) ≡ changes_in j.mailbox own ++ arrives j v
judged_log own j v t = changes_push j.mailbox own (Judged j v t) ∙ ap (λ (b : Bool). changes_in j.mailbox own ++ cond b (arrives j v) []) (itself j.mailbox)

pub judged_follows : (seen own other : List Event) (j : Job) (v : Verdict) (t : ℕ) → life t other ≡ Sent j t ∷ [] → All (λ i. IsBefore i j) (judged_in j.mailbox j.key.seat own)
    → IsLegalLog (changes_in j.mailbox own ++ arrives j v) → HasUid v → MayFollowBoth Legal concerns seen j.mailbox own (ticket_key t) other (Judged j v t)
judged_follows seen own other j v t sent above fits uid log legal pre mine theirs = let e : Event = Judged j v t in
    let fits' : IsLegalLog (changes_in j.mailbox (own ++ e ∷ [])) = subst IsLegalLog (sym (judged_log own j v t)) fits in
    let above' : All (λ i. IsBefore i j) (judged_in j.mailbox j.key.seat log) = subst (All (λ i. IsBefore i j)) (sym (judged_own j.mailbox j.key.seat log own mine)) above in record {
      sent_rise = λ q. subst (AllPairs Rises) (sym (push_none (sent_of q) log e refl)) (legal.sent_rise q);
      lives = λ s. lives_go log e t (Sent j t ∷ []) (life_own t log other theirs ∙ sent) (judged j v) (ap (λ (b : Bool). cond b (Some e) None) (itself t)) (λ k no'. ap (λ (b : Bool). cond b (Some e) None) no') legal.lives s (t == s) refl;
      judged_rise = λ m q. judged_goes_on log j v t above' m q (j.mailbox == m) (j.key.seat == q) refl refl (legal.judged_rise m q);
      logs = λ m. logs_go_on log own j.mailbox e mine fits' (λ k no' l. ap (λ (b : Bool). cond b (arrives j v) []) (flip k j.mailbox no')) legal.logs m (m == j.mailbox) refl;
      uids = All-push GivesUid log e legal.uids uid;
    }

-- ---- a seat withdraws, a client removes

pub withdrawn_follows : (seen own : List Event) (j : Job) (t : ℕ) → life t own ≡ Sent j t ∷ [] → MayFollow Legal concerns seen (ticket_key t) own (Withdrawn t)
withdrawn_follows seen own j t sent log legal pre mine = let e : Event = Withdrawn t in record {
  sent_rise = λ q. subst (AllPairs Rises) (sym (push_none (sent_of q) log e refl)) (legal.sent_rise q);
  lives = λ s. lives_go log e t (Sent j t ∷ []) (life_own t log own mine ∙ sent) (withdrawn j) (ap (λ (b : Bool). cond b (Some e) None) (itself t)) (λ k no'. ap (λ (b : Bool). cond b (Some e) None) no') legal.lives s (t == s) refl;
  judged_rise = λ m q. subst (AllPairs IsBefore) (sym (push_none (judged_of m q) log e refl)) (legal.judged_rise m q);
  logs = λ m. subst IsLegalLog (sym (changes_push m log e ∙ append-nil (changes_in m log))) (legal.logs m);
  uids = All-push GivesUid log e legal.uids tt;
}

-- what a client's call logs fits the log of its mailbox
changed_log : (own : List Event) (n : ℕ) (c : Step) → IsLegalLog (changes_in n own) → IsLegalLog (changes_in n (own ++ Changed n c ∷ []))
changed_log own n c legal = subst IsLegalLog (sym (changes_push n own (Changed n c) ∙ ap (λ (b : Bool). changes_in n own ++ cond b (logged c (rows_of (changes_in n own))) []) (itself n)))
    (legal_logged c (changes_in n own) legal)

pub changed_follows : (seen own : List Event) (n : ℕ) (c : Step) → MayFollow Legal concerns seen n own (Changed n c)
changed_follows seen own n c log legal pre mine = let e : Event = Changed n c in
    let fits : IsLegalLog (changes_in n (own ++ e ∷ [])) = changed_log own n c (subst IsLegalLog (changes_own n log own mine) (legal.logs n)) in record {
      sent_rise = λ q. subst (AllPairs Rises) (sym (push_none (sent_of q) log e refl)) (legal.sent_rise q);
      lives = λ s. subst (IsLife s) (sym (push_none (step_of s) log e refl)) (legal.lives s);
      judged_rise = λ m q. subst (AllPairs IsBefore) (sym (push_none (judged_of m q) log e refl)) (legal.judged_rise m q);
      logs = λ m. logs_go_on log own n e mine fits (λ k no' l. ap (λ (b : Bool). cond b (logged c (rows_of l)) []) (flip k n no')) legal.logs m (m == n) refl;
      uids = All-push GivesUid log e legal.uids tt;
    }

-- ---- what the calls of the tokens owe

pub apart : (key number other_key t : ℕ) → key ≡ number → number < 512 → other_key ≡ ticket_key t → other_key ≡ key → ⊥
apart key number other_key t is few is' e = omega (arith, is, is', few, e)

pub seat_concerns : (key number other_key : ℕ) (j : Job) (t : ℕ) → key ≡ seat_key number → other_key ≡ ticket_key t → j.key.seat ≡ number → ConcernsTwo concerns key other_key (Sent j t)
seat_concerns key number other_key j t is is' here = subst (λ (n : ℕ × ℕ). ConcernsTwo concerns n.0 n.1 (Sent j t)) (λ i. ((ap seat_key here ∙ sym is) i, sym is' i))
    (two_are (seat_key j.key.seat) (ticket_key t) (λ m. concerns m (Sent j t)) (λ m. refl))

pub seat_follows : (key number other_key : ℕ) (seen own other : List Event) (j : Job) (t : ℕ) → key ≡ seat_key number → other_key ≡ ticket_key t → j.key.seat ≡ number → All (λ i. IsBefore i.0 j) (sent_by number own) → life t other ≡ []
    → MayFollowBoth Legal concerns seen key own other_key other (Sent j t)
seat_follows key number other_key seen own other j t is is' here above fresh =
    let above' : All (λ i. IsBefore i.0 j) (sent_by j.key.seat own) = subst (λ (n : ℕ). All (λ i. IsBefore i.0 j) (sent_by n own)) (sym here) above in
    subst (λ (n : ℕ × ℕ). MayFollowBoth Legal concerns seen n.0 own n.1 other (Sent j t)) (λ i. ((ap seat_key here ∙ sym is) i, sym is' i)) (sent_follows seen own other j t above' fresh)

pub part_concerns : (key number other_key : ℕ) (j : Job) (v : Verdict) (t : ℕ) → key ≡ number → other_key ≡ ticket_key t → j.mailbox ≡ number → ConcernsTwo concerns key other_key (Judged j v t)
part_concerns key number other_key j v t is is' here = subst (λ (n : ℕ × ℕ). ConcernsTwo concerns n.0 n.1 (Judged j v t)) (λ i. ((here ∙ sym is) i, sym is' i))
    (two_are j.mailbox (ticket_key t) (λ m. concerns m (Judged j v t)) (λ m. refl))

pub part_follows : (key number other_key : ℕ) (seen own other : List Event) (j : Job) (v : Verdict) (t : ℕ) → key ≡ number → other_key ≡ ticket_key t → j.mailbox ≡ number → life t other ≡ Sent j t ∷ []
    → All (λ i. IsBefore i j) (judged_in number j.key.seat own) → IsLegalLog (changes_in number own ++ arrives j v) → HasUid v → MayFollowBoth Legal concerns seen key own other_key other (Judged j v t)
part_follows key number other_key seen own other j v t is is' here sent above fits uid =
    let above' : All (λ i. IsBefore i j) (judged_in j.mailbox j.key.seat own) = subst (λ (n : ℕ). All (λ i. IsBefore i j) (judged_in n j.key.seat own)) (sym here) above in
    let fits' : IsLegalLog (changes_in j.mailbox own ++ arrives j v) = subst (λ (n : ℕ). IsLegalLog (changes_in n own ++ arrives j v)) (sym here) fits in
    subst (λ (n : ℕ × ℕ). MayFollowBoth Legal concerns seen n.0 own n.1 other (Judged j v t)) (λ i. ((here ∙ sym is) i, sym is' i)) (judged_follows seen own other j v t sent above' fits' uid)

pub ticket_concerns : (key t : ℕ) → key ≡ ticket_key t → ConcernsOne concerns key (Withdrawn t)
ticket_concerns key t is = subst (λ (n : ℕ). ConcernsOne concerns n (Withdrawn t)) (sym is) (itself (ticket_key t), λ m e. same m (ticket_key t) e)

pub ticket_follows : (key t : ℕ) (seen own : List Event) (j : Job) → key ≡ ticket_key t → life t own ≡ Sent j t ∷ [] → MayFollow Legal concerns seen key own (Withdrawn t)
ticket_follows key t seen own j is sent = subst (λ (n : ℕ). MayFollow Legal concerns seen n own (Withdrawn t)) (sym is) (withdrawn_follows seen own j t sent)

pub change_concerns : (key number : ℕ) (c : Step) → key ≡ number → ConcernsOne concerns key (Changed number c)
change_concerns key number c is = subst (λ (n : ℕ). ConcernsOne concerns n (Changed number c)) (sym is) (itself number, λ m e. same m number e)

pub change_follows : (key number : ℕ) (seen own : List Event) (c : Step) → key ≡ number → MayFollow Legal concerns seen key own (Changed number c)
change_follows key number seen own c is = subst (λ (n : ℕ). MayFollow Legal concerns seen n own (Changed number c)) (sym is) (changed_follows seen own number c)

pub sent_push : (number : ℕ) (own : List Event) (j : Job) (t : ℕ) → j.key.seat ≡ number → sent_by number (own ++ Sent j t ∷ []) ≡ sent_by number own ++ (j, t) ∷ []
sent_push number own j t here = push_some (sent_of number) own (Sent j t) (j, t) (ap (λ (b : Bool). cond b (Some (j, t)) None) (is_same j.key.seat number here))

pub life_push : (t : ℕ) (own : List Event) (e : Event) → step_of t e ≡ Some e → life t (own ++ e ∷ []) ≡ life t own ++ e ∷ []
life_push t own e is = push_some (step_of t) own e e is

pub sent_there : (log new : List Event) (j : Job) (t : ℕ) → new ≡ log ++ Sent j t ∷ [] → Contains (sent_by j.key.seat new) (j, t)
sent_there log new j t is = subst (λ (l : List Event). Contains (sent_by j.key.seat l) (j, t)) (sym is) (subst (λ (l : List (Job × ℕ)). Contains l (j, t)) (sym (sent_push j.key.seat log j t refl)) (Contains-push (sent_by j.key.seat log) (j, t)))

pub added_behind : (before after : List Event) (e : Event) → Adds before after e → IsPrefix before after
added_behind before after e a = (a.1.0 ++ e ∷ [], sym (append_assoc before a.1.0 (e ∷ [])) ∙ (ap (λ (l : List Event). l ++ e ∷ []) a.1.1 ∙ sym a.2))

pub added_there : (before after : List Event) (e : Event) → Adds before after e → Contains after e
added_there before after e a = subst (λ (l : List Event). Contains l e) (sym a.2) (Contains-push a.0 e)

-- ---- at the start

pub legal_empty : Legal []
legal_empty = record {
  sent_rise = λ p i j d less within. absurd (omega (arith, within));
  lives = λ t. unused;
  judged_rise = λ m p i j d less within. absurd (omega (arith, within));
  logs = λ m. legal_empty_log;
  uids = All-nil GivesUid;
}

-- ---- laws

judged_life : (t : ℕ) (l : List Event) → IsLife t l → (j : Job) (v : Verdict) (k : ℕ) → k < length l → slice_index_or l k (Judged j v t) ≡ Judged j v t → l ≡ Sent j t ∷ Judged j v t ∷ []
judged_life t l unused j v k less at = absurd (omega (arith, less))
judged_life t l (under_way i) j v zero less at = absurd (cc at)
judged_life t l (under_way i) j v (suc k) less at = absurd (omega (arith, less))
judged_life t l (judged i w) j v zero less at = absurd (cc at)
judged_life t l (judged i w) j v (suc zero) less at = let a : i ≡ j = cc at in let b : w ≡ v = cc at in cc (a, b)
judged_life t l (judged i w) j v (suc (suc k)) less at = absurd (omega (arith, less))
judged_life t l (withdrawn i) j v zero less at = absurd (cc at)
judged_life t l (withdrawn i) j v (suc zero) less at = absurd (cc at)
judged_life t l (withdrawn i) j v (suc (suc k)) less at = absurd (omega (arith, less))

kept : (t : ℕ) (b : Bool) (e : Event) → (x z : Event) → cond b (Some e) None ≡ Some z → e ≡ x → x ≡ z
kept t true e x z is same' = cc (is, same')
kept t false e x z is same' = absurd (cc is)

keeps : (t : ℕ) (x z : Event) → step_of t x ≡ Some z → x ≡ z
keeps t (Sent j s) z is = kept t (s == t) (Sent j s) (Sent j s) z is refl
keeps t (Withdrawn s) z is = kept t (s == t) (Withdrawn s) (Withdrawn s) z is refl
keeps t (Judged j v s) z is = kept t (s == t) (Judged j v s) (Judged j v s) z is refl
keeps t (Changed m s) z is = absurd (cc is)

-- the life of a copy that was judged
pub life_of_judged : (log : List Event) → Legal log → (j : Job) (v : Verdict) (t : ℕ) → Contains log (Judged j v t) → life t log ≡ Sent j t ∷ Judged j v t ∷ []
life_of_judged log legal j v t has =
    let in_life : Contains (life t log) (Judged j v t) = given_of (step_of t) log has.0 (Judged j v t) (Judged j v t) has.1 has.2 (ap (λ (b : Bool). cond b (Some (Judged j v t)) None) (itself t)) in
    judged_life t (life t log) (legal.lives t) j v in_life.0 in_life.1 in_life.2

-- what was judged had been sent
pub had_been_sent : (log : List Event) → Legal log → (j : Job) (v : Verdict) (t : ℕ) → Contains log (Judged j v t) → Contains (sent_by j.key.seat log) (j, t)
had_been_sent log legal j v t has =
    let in_life : Contains (life t log) (Sent j t) = subst (λ (l : List Event). Contains l (Sent j t)) (sym (life_of_judged log legal j v t has)) (0, omega arith, refl) in
    let in_log : Contains log (Sent j t) = came_from (step_of t) (keeps t) log (Sent j t) in_life in
    given_of (sent_of j.key.seat) log in_log.0 (Sent j t) (j, t) in_log.1 in_log.2 (ap (λ (b : Bool). cond b (Some (j, t)) None) (itself j.key.seat))

pub never_below : (a : CopyKey) → Below a a → ⊥
never_below a (inl h) = omega (arith, h)
never_below a (inr (e, inl h)) = omega (arith, h)
never_below a (inr (e, inr (f, h))) = omega (arith, h)

-- of one key one copy was sent, with one ticket
pub sent_once : (log : List Event) → Legal log → (i j : Job) (s t : ℕ) → Contains (sent_by i.key.seat log) (i, s) → Contains (sent_by j.key.seat log) (j, t) → i.key ≡ j.key → ◌≡◌ {A = Job × ℕ} (i, s) (j, t)
sent_once log legal i j s t a b e =
    let b' : Contains (sent_by i.key.seat log) (j, t) = subst (λ (p : ℕ). Contains (sent_by p log) (j, t)) (sym (ap (λ (k : CopyKey). k.seat) e)) b in
    alone Rises (sent_by i.key.seat log) (i, s) (j, t) (legal.sent_rise i.key.seat) a.0 b'.0 a.1 b'.1 a.2 b'.2
    (λ less. never_below j.key (subst (λ (k : CopyKey). Below k j.key) e less)) (λ less. never_below j.key (subst (λ (k : CopyKey). Below j.key k) e less)) (cases_lt a.0 b'.0)

abbrev second : Event → List Event → Event
second d [] = d
second d (x ∷ []) = d
second d (x ∷ y ∷ l) = y

pub only_verdict : (log : List Event) (i j : Job) (v w : Verdict) → Legal log → WasJudged log i v → WasJudged log j w → i.key ≡ j.key → (i ≡ j) × (v ≡ w)
only_verdict log i j v w legal a b e =
    let one = sent_once log legal i j a.0 b.0 (had_been_sent log legal i v a.0 a.1) (had_been_sent log legal j w b.0 b.1) e in
    let t : a.0 ≡ b.0 = ap (λ x. x.1) one in
    let lives : Sent i a.0 ∷ Judged i v a.0 ∷ [] ≡ Sent j b.0 ∷ Judged j w b.0 ∷ [] = sym (life_of_judged log legal i v a.0 a.1) ∙ (ap (λ (k : ℕ). life k log) t ∙ life_of_judged log legal j w b.0 b.1) in
    let last : Judged i v a.0 ≡ Judged j w b.0 = ap (second (Changed 0 (Leave false))) lives in
    (cc last, cc last)

not_both : (t : ℕ) (i j : Job) (v : Verdict) (k : ℕ) → k < 2 → slice_index_or (Sent j t ∷ Judged j v t ∷ []) k (Withdrawn t) ≡ Withdrawn t → ⊥
not_both t i j v zero less at = absurd (cc at)
not_both t i j v (suc zero) less at = absurd (cc at)
not_both t i j v (suc (suc k)) less at = absurd (omega (arith, less))

pub never_judged : (log : List Event) (i j : Job) (v : Verdict) → Legal log → WasWithdrawn log i → WasJudged log j v → i.key ≡ j.key → ⊥
never_judged log i j v legal a b e =
    let one = sent_once log legal i j a.0 b.0 a.1 (had_been_sent log legal j v b.0 b.1) e in
    let t : a.0 ≡ b.0 = ap (λ x. x.1) one in
    let gone : Contains log (Withdrawn b.0) = subst (λ (k : ℕ). Contains log (Withdrawn k)) t a.2 in
    let in_life : Contains (life b.0 log) (Withdrawn b.0) = given_of (step_of b.0) log gone.0 (Withdrawn b.0) (Withdrawn b.0) gone.1 gone.2 (ap (λ (c : Bool). cond c (Some (Withdrawn b.0)) None) (itself b.0)) in
    let both : Contains (Sent j b.0 ∷ Judged j v b.0 ∷ []) (Withdrawn b.0) = subst (λ (l : List Event). Contains l (Withdrawn b.0)) (life_of_judged log legal j v b.0 b.1) in_life in
    not_both b.0 i j v both.0 both.1 both.2

-- who has said it knows that the copy was withdrawn
pub gone : (log own : List Event) (j : Job) (t : ℕ) → part concerns (ticket_key t) log ≡ own → life t own ≡ Sent j t ∷ Withdrawn t ∷ [] → WasWithdrawn log j
gone log own j t mine is =
    let all : life t log ≡ Sent j t ∷ Withdrawn t ∷ [] = life_own t log own mine ∙ is in
    let first : Contains log (Sent j t) = came_from (step_of t) (keeps t) log (Sent j t) (subst (λ (l : List Event). Contains l (Sent j t)) (sym all) (0, omega arith, refl)) in
    let last : Contains log (Withdrawn t) = came_from (step_of t) (keeps t) log (Withdrawn t) (subst (λ (l : List Event). Contains l (Withdrawn t)) (sym all) (1, omega arith, refl)) in
    (t, given_of (sent_of j.key.seat) log first.0 (Sent j t) (j, t) first.1 first.2 (ap (λ (b : Bool). cond b (Some (j, t)) None) (itself j.key.seat)), last)

was_later : (a b : List Event) (j : Job) (v : Verdict) → IsPrefix a b → WasJudged a j v → WasJudged b j v
was_later a b j v p was = (was.0, there a b (Judged j v was.0) p was.1)

pub noted_later : (a b : List Event) (noted : Noted) → IsPrefix a b → IsNotedIn a noted → IsNotedIn b noted
noted_later a b noted p was = (was.0, was.1, was.2, was_later a b was.0 noted.verdict p was.3)

pub noted_own : (history : List Event) (job : Job) (t : ℕ) (noted : Noted) → Legal history → Contains (sent_by job.key.seat history) (job, t) → noted.key ≡ job.key → IsNotedIn history noted → WasJudged history job noted.verdict
noted_own history job t noted legal sent e was =
    let one = sent_once history legal was.0 job was.3.0 t (had_been_sent history legal was.0 noted.verdict was.3.0 was.3.1) sent (was.1 ∙ e) in
    subst (λ (j : Job). WasJudged history j noted.verdict) (ap (λ x. x.0) one) was.3

-- ---- what is noted

pub withdrawn_later : (a b : List Event) (j : Job) → IsPrefix a b → WasWithdrawn a j → WasWithdrawn b j
withdrawn_later a b j p was = (
  was.0,
  there (sent_by j.key.seat a) (sent_by j.key.seat b) (j, was.0) (sent_by j.key.seat p.0, sym (filter_map-append (sent_of j.key.seat) a p.0) ∙ ap (sent_by j.key.seat) p.1) was.1,
  there a b (Withdrawn was.0) p was.2,
)

pub settled_later : (a b : List Event) (noted : Noted) → IsPrefix a b → IsSettledIn a noted → IsSettledIn b noted
settled_later a b noted p (inl is) = inl (noted_later a b noted p is)
settled_later a b noted p (inr (not, was)) = inr (not, (was.0, was.1, withdrawn_later a b was.0 p was.2))

pub settled_final : (history : List Event) (job : Job) (v : Verdict) (noted : Noted) → Legal history → IsSettledIn history noted → WasJudged history job v → job.key ≡ noted.key → noted.verdict ≡ v
settled_final history job v noted legal (inl is) was own = (only_verdict history is.0 job noted.verdict v legal is.3 was (is.1 ∙ sym own)).1
settled_final history job v noted legal (inr (not, gone)) was own = absurd (never_judged history gone.0 job v legal gone.2 was (gone.1 ∙ sym own))
