-- What the history has of a producer goes on with it; and what it says of the copies in the books.
use Rattle.std.proofs.Common.{append-nil, append_assoc, sym, subst, ◌≡◌, ◌⊎◌, inl, inr, ℕ, zero, suc, ◌<◌, ◌≤◌, ◌+◌, ◌∙◌, ap, refl, List, [], ◌∷◌, ◌++◌, length, map, slice_index_or, slice_set, arith, length-append, All, Contains, OnErr, Result, Ok, Err}
use Rattle.std.proofs.lemmas.List.Elements.{All-append, All-contains, All-head, All-tail, All-cons, All-nil, All-weaker, Contains-append_left, Contains-push, Contains-push_cases, filter_map-append}
use Rattle.std.proofs.lemmas.Nat.{mod_below}
use mathlib.Core.List.{IsPrefix}
use Rattle.delivery_token.specs.declared.Job.{Job}
use Rattle.delivery_token.specs.declared.Verdict.{Verdict}
use Rattle.delivery_token.specs.declared.Verdict.TheVariants.{Refused, Stored}
use Rattle.delivery_token.specs.declared.log.Noted.{Noted}
use Rattle.envelope.specs.Names.{Directory, shard_of}
use Rattle.house_history.specs.declared.event.Event.{Event}
use Rattle.house_history.specs.Events.{sent_by, sent_of}
use Rattle.house_history.specs.Legal.{Legal, WasJudged, WasWithdrawn}
use Rattle.house_history.specs.Views.{IsNotedIn, IsSettledIn}
use Rattle.house_history.proofs.Follow.{had_been_sent, never_judged, noted_own, settled_final, settled_later, withdrawn_later}
use Rattle.house_history.proofs.Parts.{there}
use Rattle.shard_queue.specs.Reply.{received, ReceiverPermit}
use Rattle.shard_queue.specs.Shared.{IsStartOf}
use Rattle.shard_queue.specs.declared.lane.Entry.{Entry}
use Rattle.shard_queue.specs.declared.lane.Entry.TheVariants.{Item, End}
use Rattle.lane_work.specs.declared.desk.LanePermit.{LanePermit}
use Rattle.lane_work.specs.Account.{HaveEnded, FilledAlone, IsAtOnce, IsHeard, Room, WerePut, elsewhere, none, note_of, put, refused, room_at}
use Rattle.lane_work.specs.Permits.{IsNew, put_by}
use Rattle.lane_work.specs.Backing.{AreAllOf, BooksStand, HaveStood, KeepsBacked, WordsStand, IsBacked, IsBackedBy, IsShown, WasPut, WasSent}
use Rattle.lane_work.specs.Ends.{ends_in}
use Rattle.lane_work.specs.declared.desk.Desk.{Desk}
use Rattle.lane_work.specs.inner.Backing.{GoesOnWith}
use Rattle.lane_work.specs.Dispatching.{Dispatch, HasLearned, SendsOrKeeps, keeps, sends}

-- ---- the history goes on

pub goes_nowhere : (a : List Event) → IsPrefix a a
goes_nowhere a = ([], append-nil a)

pub goes_farther : (a b c : List Event) → IsPrefix a b → IsPrefix b c → IsPrefix a c
goes_farther a b c p q = (p.0 ++ q.0, sym (append_assoc a p.0 q.0) ∙ (ap (λ (l : List Event). l ++ q.0) p.1 ∙ q.1))

pub sent_later : (seat : ℕ) (a b : List Event) (x : Job × ℕ) → IsPrefix a b → Contains (sent_by seat a) x → Contains (sent_by seat b) x
sent_later seat a b x p has = there (sent_by seat a) (sent_by seat b) x (sent_by seat p.0, sym (filter_map-append (sent_of seat) a p.0) ∙ ap (sent_by seat) p.1) has

sent_grows : (seat : ℕ) (a b : List Event) (p : IsPrefix a b) → sent_by seat b ≡ sent_by seat a ++ sent_by seat p.0
sent_grows seat a b p = ap (sent_by seat) (sym p.1) ∙ filter_map-append (sent_of seat) a p.0

nothing : {A : Type 0} (xs : List A) → length xs ≡ 0 → xs ≡ []
nothing [] none_there = refl
nothing (x ∷ xs) none_there = absurd (omega (arith, none_there))

-- what a seat has sent between two moments at which it had sent the same is that, too
pub sent_between : (seat : ℕ) (a b c : List Event) → IsPrefix a b → IsPrefix b c → sent_by seat c ≡ sent_by seat a → sent_by seat b ≡ sent_by seat a
sent_between seat a b c p q same =
    let more = sent_by seat p.0 in
    let rest = sent_by seat q.0 in
    let first = sent_grows seat a b p in
    let n = ap length first ∙ length-append (sent_by seat a) more in
    let m = ap length (sent_grows seat b c q) ∙ length-append (sent_by seat b) rest in
    let l = ap length same in
    first ∙ (ap (λ xs. sent_by seat a ++ xs) (nothing more (omega (arith, n, m, l))) ∙ append-nil (sent_by seat a))

was_sent_later : (a b : List Event) → IsPrefix a b → (e : Entry Job) → WasSent a e → WasSent b e
was_sent_later a b p (Item seat job) was = (was.0, sent_later job.key.seat a b (job, was.0) p was.1)
was_sent_later a b p (End seat) was = tt

shown_later : (a b : List Event) → IsPrefix a b → (e : Entry Noted) → IsShown a e → IsShown b e
shown_later a b p (Item shard noted) was = settled_later a b noted p was
shown_later a b p (End shard) was = tt

pub all_sent_later : (a b : List Event) → IsPrefix a b → (es : List (Entry Job)) → All (WasSent a) es → All (WasSent b) es
all_sent_later a b p es all = All-weaker (WasSent a) (WasSent b) (was_sent_later a b p) es all

-- of each copy that was sent it is known what became of it, also later
abbrev Accounted : (history : List Event) (lists : List (List (Entry Job))) → Job × ℕ → Type 0
Accounted history lists one = WasPut lists one.0 ⊎ WasWithdrawn history one.0

accounted_later : (a b : List Event) (lists new : List (List (Entry Job))) → IsPrefix a b → ((job : Job) → WasPut lists job → WasPut new job) → (one : Job × ℕ) → Accounted a lists one → Accounted b new one
accounted_later a b lists new p stays one (inl was) = inl (stays one.0 was)
accounted_later a b lists new p stays one (inr was) = inr (withdrawn_later a b one.0 p was)

-- where nothing more was sent
pub backed_later : (seat : ℕ) (a b : List Event) (heard : List (Entry Noted)) (lists : List (List (Entry Job))) → IsPrefix a b → Legal b → sent_by seat b ≡ sent_by seat a → IsBacked seat a heard lists → IsBacked seat b heard lists
backed_later seat a b heard lists p legal own was = record {
  legal = legal;
  sent = All-weaker (λ es. All (WasSent a) es) (λ es. All (WasSent b) es) (all_sent_later a b p) lists was.sent;
  shown = All-weaker (IsShown a) (IsShown b) (shown_later a b p) heard was.shown;
  only = subst (λ l. All (Accounted b lists) l) (sym own) (All-weaker (Accounted a lists) (Accounted b lists) (accounted_later a b lists lists p (λ job was. was)) (sent_by seat a) was.only);
}

pub learned_own : (seat : ℕ) (from to : Dispatch) → HasLearned from to → from.number ≡ seat → sent_by seat to.history ≡ sent_by seat from.history
learned_own seat from to learned is = ap (λ n. sent_by n to.history) (sym (learned.number ∙ is)) ∙ (learned.own ∙ ap (λ n. sent_by n from.history) is)

-- one entry more was heard
pub backed_heard : (from to : Dispatch) (old new : List (Entry Noted)) (e : Entry Noted) (lists : List (List (Entry Job))) → HasLearned from to → IsShown to.history e → new ≡ old ++ e ∷ []
    → (seat : ℕ) → IsBackedBy seat from old lists → IsBackedBy seat to new lists
backed_heard from to old new e lists learned shown is seat was =
    let later = backed_later seat from.history to.history old lists learned.goes_on learned.legal (learned_own seat from to learned was.0) was.1 in (
      learned.number ∙ was.0,
      subst (λ l. IsBacked seat to.history l lists) (sym is) (record {
        legal = later.legal;
        sent = later.sent;
        shown = All-append (IsShown to.history) old (e ∷ []) later.shown (All-cons (IsShown to.history) e [] shown (All-nil (IsShown to.history)));
        only = later.only;
      }),
    )

-- an end was heard, and nothing learned
pub backed_end_heard : (dispatch : Dispatch) (old new : List (Entry Noted)) (shard : ℕ) (lists : List (List (Entry Job))) → new ≡ old ++ End shard ∷ [] → (seat : ℕ) → IsBackedBy seat dispatch old lists → IsBackedBy seat dispatch new lists
backed_end_heard dispatch old new shard lists is seat was =
    backed_heard dispatch dispatch old new (End shard) lists (record { number = refl; sent = refl; tickets = refl; goes_on = goes_nowhere dispatch.history; legal = was.1.legal; own = refl }) tt is seat was

-- what was put on one lane is other entries
all_set : (P : List (Entry Job) → Type 0) (lists : List (List (Entry Job))) (i : ℕ) (es : List (Entry Job)) → All P lists → P es → All P (slice_set lists i es)
all_set P [] i es all here = All-nil P
all_set P (x ∷ xs) zero es all here = All-cons P es xs here (All-tail P x xs all)
all_set P (x ∷ xs) (suc i) es all here = All-cons P x (slice_set xs i es) (All-head P x xs all) (all_set P xs i es (All-tail P x xs all) here)

all_at : (P : List (Entry Job) → Type 0) (lists : List (List (Entry Job))) (i : ℕ) → P [] → All P lists → P (slice_index_or lists i [])
all_at P [] i empty all = empty
all_at P (x ∷ xs) zero empty all = All-head P x xs all
all_at P (x ∷ xs) (suc i) empty all = all_at P xs i empty (All-tail P x xs all)

-- what was put on the lanes stays, where one lane's entries do
put_stays : (lists : List (List (Entry Job))) (i : ℕ) (es : List (Entry Job)) (lane : ℕ) → ((e : Entry Job) → Contains (slice_index_or lists i []) e → Contains es e)
    → (e : Entry Job) → Contains (slice_index_or lists lane []) e → Contains (slice_index_or (slice_set lists i es) lane []) e
put_stays [] i es lane stays e has = has
put_stays (x ∷ xs) zero es zero stays e has = stays e has
put_stays (x ∷ xs) zero es (suc lane) stays e has = has
put_stays (x ∷ xs) (suc i) es zero stays e has = has
put_stays (x ∷ xs) (suc i) es (suc lane) stays e has = put_stays xs i es lane stays e has

put_here : (lists : List (List (Entry Job))) (i : ℕ) (es : List (Entry Job)) → i < length lists → slice_index_or (slice_set lists i es) i [] ≡ es
put_here [] i es under = absurd (omega (arith, under))
put_here (x ∷ xs) zero es under = refl
put_here (x ∷ xs) (suc i) es under = put_here xs i es (omega (arith, under))

put_now : (history : List Event) (lists : List (List (Entry Job))) (i : ℕ) (es : List (Entry Job)) → i < length lists → (one : Job × ℕ)
    → ((seat : ℕ) × Contains es (Item seat one.0)) ⊎ WasWithdrawn history one.0 → Accounted history (slice_set lists i es) one
put_now history lists i es under one (inl was) = inl (i, was.0, subst (λ l. Contains l (Item was.0 one.0)) (sym (put_here lists i es under)) was.1)
put_now history lists i es under one (inr was) = inr was

-- the history goes on with one lane
pub backed_put : (from to : Dispatch) (heard : List (Entry Noted)) (lists new : List (List (Entry Job))) (i : ℕ) (old es : List (Entry Job)) → i < length lists → slice_index_or lists i [] ≡ old → new ≡ slice_set lists i es
    → GoesOnWith from to old es → (seat : ℕ) → IsBackedBy seat from heard lists → IsBackedBy seat to heard new
backed_put from to heard lists new i old es under at is on seat was =
    let a = from.history in
    let b = to.history in
    let here : All (WasSent a) old = subst (λ l. All (WasSent a) l) at (all_at (λ l. All (WasSent a) l) lists i (All-nil (WasSent a)) was.1.sent) in
    let stays : (e : Entry Job) → Contains (slice_index_or lists i []) e → Contains es e = λ e has. on.stays e (subst (λ l. Contains l e) at has) in
    let own : sent_by seat b ≡ sent_by seat a ++ on.more = ap (λ n. sent_by n b) (sym (on.number ∙ was.0)) ∙ (on.own ∙ ap (λ n. sent_by n a ++ on.more) was.0) in (
      on.number ∙ was.0,
      subst (λ l. IsBacked seat b heard l) (sym is) (record {
        legal = on.legal was.1.legal;
        sent = all_set (λ l. All (WasSent b) l) lists i es (All-weaker (λ es. All (WasSent a) es) (λ es. All (WasSent b) es) (all_sent_later a b on.goes_on) lists was.1.sent) (on.sent here);
        shown = All-weaker (IsShown a) (IsShown b) (shown_later a b on.goes_on) heard was.1.shown;
        only = subst (λ l. All (Accounted b (slice_set lists i es)) l) (sym own)
            (All-append (Accounted b (slice_set lists i es)) (sent_by seat a) on.more
            (All-weaker (Accounted a lists) (Accounted b (slice_set lists i es))
            (accounted_later a b lists (slice_set lists i es) on.goes_on (λ job put. (put.0, put.1, put_stays lists i es put.0 stays (Item put.1 job) put.2)))
            (sent_by seat a) was.1.only)
            (All-weaker (λ (one : Job × ℕ). ((s : ℕ) × Contains es (Item s one.0)) ⊎ WasWithdrawn b one.0) (Accounted b (slice_set lists i es)) (put_now b lists i es under) on.more on.only));
      }),
    )

-- ---- what follows of the books

in_all : {A : Type 0} (P : A → Type 0) (xs ys : List A) (x : A) → All P (xs ++ x ∷ ys) → P x
in_all P [] ys x all = All-head P x ys all
in_all P (y ∷ xs) ys x all = in_all P xs ys x (All-tail P y (xs ++ x ∷ ys) all)

noted_of : (history : List Event) (noted : Noted) (uid : ℕ) → noted.verdict ≡ Stored uid → IsSettledIn history noted → IsNotedIn history noted
noted_of history noted uid is (inl was) = was
noted_of history noted uid is (inr was) = absurd (was.0 uid is)

-- whatever is heard of a copy that was put stands, where it is Stored
stood : (history : List Event) (heard : List (Entry Noted)) (p : ℕ) (copy : Job) (verdict : Verdict) → Legal history → All (IsShown history) heard → WasSent history (Item p copy) → IsHeard heard (note_of (copy, verdict))
    → (uid : ℕ) → verdict ≡ Stored uid → WasJudged history copy (Stored uid)
stood history heard p copy verdict legal shown sent (shard, before, after, is) uid tells =
    let here : IsShown history (Item shard (note_of (copy, verdict))) = in_all (IsShown history) before after (Item shard (note_of (copy, verdict))) (subst (λ l. All (IsShown history) l) is shown) in
    subst (λ v. WasJudged history copy v) tells (noted_own history copy sent.0 (note_of (copy, verdict)) legal sent.1 refl (noted_of history (note_of (copy, verdict)) uid tells here))

refused_not : {full : Type 0} (verdict : Verdict) (uid : ℕ) → IsAtOnce full verdict → verdict ≡ Stored uid → ⊥
refused_not verdict uid (inl why) is = (let e : Refused _ ≡ Stored uid = sym why.0 ∙ is in absurd cc)
refused_not verdict uid (inr why) is = (let e : Refused _ ≡ Stored uid = sym why ∙ is in absurd cc)

-- on one lane: those for its mailboxes that are told as stored stand
on_lane : (d : Directory) (room : Room) (p lane : ℕ) (history : List Event) (heard : List (Entry Noted)) {before jobs : List Job} {xs : List (Job × Verdict)} → Legal history → All (IsShown history) heard
    → All (WasSent history) (map (λ job. Item p job) jobs) → WerePut d room p lane heard before xs jobs
    → All (λ (one : Job × Verdict). shard_of d one.0.mailbox ≡ lane → (uid : ℕ) → one.1 ≡ Stored uid → WasJudged history one.0 (Stored uid)) xs
on_lane d room p lane history heard legal shown sent none = All-nil (λ (one : Job × Verdict). shard_of d one.0.mailbox ≡ lane → (uid : ℕ) → one.1 ≡ Stored uid → WasJudged history one.0 (Stored uid))
on_lane d room p lane history heard legal shown sent (put {jobs = js} {told = ts} c v here was others) =
    All-cons (λ (one : Job × Verdict). shard_of d one.0.mailbox ≡ lane → (uid : ℕ) → one.1 ≡ Stored uid → WasJudged history one.0 (Stored uid)) (c, v) ts
    (λ at. stood history heard p c v legal shown (All-head (WasSent history) (Item p c) (map (λ job. Item p job) js) sent) was)
    (on_lane d room p lane history heard legal shown (All-tail (WasSent history) (Item p c) (map (λ job. Item p job) js) sent) others)
on_lane d room p lane history heard legal shown sent (elsewhere {told = ts} c v off others) =
    All-cons (λ (one : Job × Verdict). shard_of d one.0.mailbox ≡ lane → (uid : ℕ) → one.1 ≡ Stored uid → WasJudged history one.0 (Stored uid)) (c, v) ts
    (λ at. absurd (off at))
    (on_lane d room p lane history heard legal shown sent others)
on_lane d room p lane history heard legal shown sent (refused {told = ts} c v here why others) =
    All-cons (λ (one : Job × Verdict). shard_of d one.0.mailbox ≡ lane → (uid : ℕ) → one.1 ≡ Stored uid → WasJudged history one.0 (Stored uid)) (c, v) ts
    (λ at uid is. absurd (refused_not v uid why is))
    (on_lane d room p lane history heard legal shown sent others)

-- each stands by the lane of its own mailbox
by_lanes : (d : Directory) (history : List Event) (lanes : ℕ) (xs : List (Job × Verdict))
    → ((lane : ℕ) → lane < lanes → All (λ (one : Job × Verdict). shard_of d one.0.mailbox ≡ lane → (uid : ℕ) → one.1 ≡ Stored uid → WasJudged history one.0 (Stored uid)) xs)
    → All (λ (one : Job × Verdict). shard_of d one.0.mailbox < lanes) xs → HaveStood history xs
by_lanes d history lanes [] each within = All-nil (λ (one : Job × Verdict). (uid : ℕ) → one.1 ≡ Stored uid → WasJudged history one.0 (Stored uid))
by_lanes d history lanes (x ∷ xs) each within =
    let P : ℕ → Job × Verdict → Type 0 = λ lane one. shard_of d one.0.mailbox ≡ lane → (uid : ℕ) → one.1 ≡ Stored uid → WasJudged history one.0 (Stored uid) in
    let under = All-head (λ (one : Job × Verdict). shard_of d one.0.mailbox < lanes) x xs within in
    All-cons (λ (one : Job × Verdict). (uid : ℕ) → one.1 ≡ Stored uid → WasJudged history one.0 (Stored uid)) x xs
    (All-head (P (shard_of d x.0.mailbox)) x xs (each (shard_of d x.0.mailbox) under) refl)
    (by_lanes d history lanes xs (λ lane few. All-tail (P lane) x xs (each lane few)) (All-tail (λ (one : Job × Verdict). shard_of d one.0.mailbox < lanes) x xs within))

all_of : {A : Type 0} (P : A → Type 0) → ((x : A) → P x) → (xs : List A) → All P xs
all_of P each [] = All-nil P
all_of P each (x ∷ xs) = All-cons P x xs (each x) (all_of P each xs)

-- and nothing else: whatever was put on a lane is told, with the verdict that was heard of it
told_too : {A : Type 0} (x y : A) (xs : List A) → Contains xs y → Contains (x ∷ xs) y
told_too x y xs has = (suc has.0, (let l : has.0 < length xs = has.1 in let m : suc has.0 < suc (length xs) = omega arith in m), has.2)

same_job : (p seat : ℕ) (c j : Job) → ◌≡◌ {A = Entry Job} (Item p c) (Item seat j) → c ≡ j
same_job p seat c j e = cc e

abbrev Heard : List (Entry Noted) → List (Job × Verdict) → Job → Type 0
Heard heard xs j = (v : Verdict) × IsHeard heard (note_of (j, v)) × Contains xs (j, v)

heard_too : (heard : List (Entry Noted)) (x : Job × Verdict) (xs : List (Job × Verdict)) (j : Job) → Heard heard xs j → Heard heard (x ∷ xs) j
heard_too heard x xs j h = (h.0, h.1, told_too x (j, h.0) xs h.2)

put_is_told : (d : Directory) (room : Room) (p lane : ℕ) (heard : List (Entry Noted)) {before jobs : List Job} {xs : List (Job × Verdict)} (seat : ℕ) (j : Job) → Contains (map (λ job. Item p job) jobs) (Item seat j) → WerePut d room p lane heard before xs jobs → Heard heard xs j
put_is_told d room p lane heard seat j has none = absurd (let l = has.1 in omega (arith, l))
put_is_told d room p lane heard seat j (zero, l, at) (put {told = ts} c v here was others) =
    subst (λ (k : Job). Heard heard ((c, v) ∷ ts) k) (same_job p seat c j at) (v, was, (zero, (let m : zero < suc (length ts) = omega arith in m), refl))
put_is_told d room p lane heard seat j (suc k, l, at) (put {jobs = js} {told = ts} c v here was others) =
    heard_too heard (c, v) ts j (put_is_told d room p lane heard seat j (k, (let m : suc k < suc (length (map (λ job. Item p job) js)) = l in omega (arith, m)), at) others)
put_is_told d room p lane heard seat j has (elsewhere {told = ts} c v off others) = heard_too heard (c, v) ts j (put_is_told d room p lane heard seat j has others)
put_is_told d room p lane heard seat j has (refused {told = ts} c v here why others) = heard_too heard (c, v) ts j (put_is_told d room p lane heard seat j has others)

lane_there : (lists : List (List (Entry Job))) (lane : ℕ) (e : Entry Job) → Contains (slice_index_or lists lane []) e → lane < length lists
lane_there [] lane e has = absurd (let l = has.1 in omega (arith, l))
lane_there (x ∷ xs) zero e has = omega arith
lane_there (x ∷ xs) (suc lane) e has = let r = lane_there xs lane e has in omega (arith, r)

-- the verdict that was heard is the one that there is
as_heard : (history : List Event) (heard : List (Entry Noted)) (copies : List (Job × Verdict)) (job : Job) (verdict : Verdict) → Legal history → All (IsShown history) heard → WasJudged history job verdict → Heard heard copies job → Contains copies (job, verdict)
as_heard history heard copies job verdict legal shown judged (own, (shard, before, after, is), has) =
    let here : IsShown history (Item shard (note_of (job, own))) = in_all (IsShown history) before after (Item shard (note_of (job, own))) (subst (λ l. All (IsShown history) l) is shown) in
    subst (λ (v : Verdict). Contains copies (job, v)) (settled_final history job verdict (note_of (job, own)) legal here judged refl) has

all_of_books : (d : Directory) (rooms : List Room) (p : ℕ) (copies : List (Job × Verdict)) (history : List Event) (heard : List (Entry Noted)) (lists : List (List (Entry Job)))
    → ((lane : ℕ) → lane < length lists → (jobs : List Job) × WerePut d (room_at rooms lane) p lane heard [] copies jobs × (slice_index_or lists lane [] ≡ map (λ job. Item p job) jobs))
    → IsBacked p history heard lists → AreAllOf p history copies
all_of_books d rooms p copies history heard lists books backed job verdict own judged =
    by (All-contains (Accounted history lists) (sent_by p history) (job, judged.0) backed.only
    (subst (λ n. Contains (sent_by n history) (job, judged.0)) own (had_been_sent history backed.legal job verdict judged.0 judged.1))) where
      by : Accounted history lists (job, judged.0) → Contains copies (job, verdict)
      by (inr gone) = absurd (never_judged history job job verdict backed.legal gone judged refl)
      by (inl (lane, seat, has)) =
          let b = books lane (lane_there lists lane (Item seat job) has) in
          as_heard history heard copies job verdict backed.legal backed.shown judged
          (put_is_told d (room_at rooms lane) p lane heard seat job (subst (λ l. Contains l (Item seat job)) b.2 has) b.1)

pub books_stand : BooksStand
books_stand d rooms p copies history heard lists some lanes books backed = record {
  stood = by_lanes d history (length lists) copies
      (λ lane under.
      let b = books.lanes lane under in
      on_lane d (room_at rooms lane) p lane history heard backed.legal backed.shown
      (subst (λ l. All (WasSent history) l) b.2 (all_at (λ l. All (WasSent history) l) lists lane (All-nil (WasSent history)) backed.sent)) b.1)
      (all_of (λ (one : Job × Verdict). shard_of d one.0.mailbox < length lists) (λ one. subst (λ n. shard_of d one.0.mailbox < n) lanes (mod_below one.0.mailbox d.shards some)) copies);
  all = all_of_books d rooms p copies history heard lists books.lanes backed;
}

-- ---- what is put

-- nothing was sent, and nothing put
pub kept_on : (d : Dispatch) (es : List (Entry Job)) → GoesOnWith d d es es
kept_on d es = record {
  number = refl;
  goes_on = goes_nowhere d.history;
  legal = λ l. l;
  sent = λ a. a;
  stays = λ e has. has;
  more = [];
  own = sym (append-nil (sent_by d.number d.history));
  only = All-nil (λ (one : Job × ℕ). ((seat : ℕ) × Contains es (Item seat one.0)) ⊎ WasWithdrawn d.history one.0);
}

-- the copy wasn't sent
pub refused_on : (job back : Job) (old new : Dispatch) (es : List (Entry Job)) → SendsOrKeeps job (Err back) old new → GoesOnWith old new es es
refused_on job back old new es (sends may is so) = absurd (let e : ◌≡◌ {A = Result Job Job} (Err back) (Ok job) = is in cc)
refused_on job back old new es (keeps not is same) = subst (λ (d : Dispatch). GoesOnWith old d es es) (sym same) (kept_on old es)

-- the copy was sent, and put
pub put_on : (job letter : Job) (old new : Dispatch) (seat : ℕ) (es more : List (Entry Job)) → SendsOrKeeps job (Ok letter) old new → letter ≡ job → more ≡ es ++ Item seat letter ∷ [] → GoesOnWith old new es more
put_on job letter old new seat es more (sends may is so) same grew = record {
  number = so.number;
  goes_on = so.goes_on;
  legal = λ _. so.legal;
  sent = λ all. subst (λ l. All (WasSent new.history) l) (sym grew)
      (All-append (WasSent new.history) es (Item seat letter ∷ []) (all_sent_later old.history new.history so.goes_on es all)
      (All-cons (WasSent new.history) (Item seat letter) [] (subst (λ (j : Job). WasSent new.history (Item seat j)) (sym same) (so.ticket, so.shown)) (All-nil (WasSent new.history))));
  stays = λ e has. subst (λ l. Contains l e) (sym grew) (Contains-append_left es (Item seat letter ∷ []) e has);
  more = (job, so.ticket) ∷ [];
  own = so.own;
  only = All-cons (λ (one : Job × ℕ). ((s : ℕ) × Contains more (Item s one.0)) ⊎ WasWithdrawn new.history one.0) (job, so.ticket) []
      (inl (seat, subst (λ l. Contains l (Item seat job)) (sym grew) (subst (λ (j : Job). Contains (es ++ Item seat letter ∷ []) (Item seat j)) same (Contains-push es (Item seat letter)))))
      (All-nil (λ (one : Job × ℕ). ((s : ℕ) × Contains more (Item s one.0)) ⊎ WasWithdrawn new.history one.0));
}
put_on job letter old new seat es more (keeps not is same') same grew = absurd (let e : ◌≡◌ {A = Result Job Job} (Ok letter) (Err job) = is in cc)

-- the copy was sent, and withdrawn, since there was no room
pub back_on : (job letter back : Job) (old between new : Dispatch) (es more : List (Entry Job)) → SendsOrKeeps job (Ok letter) old between → letter ≡ job → back ≡ letter → HasLearned between new → WasWithdrawn new.history back → more ≡ es → GoesOnWith old new es more
back_on job letter back old between new es more (sends may is so) same came learned gone still = record {
  number = learned.number ∙ so.number;
  goes_on = goes_farther old.history between.history new.history so.goes_on learned.goes_on;
  legal = λ _. learned.legal;
  sent = λ all. subst (λ l. All (WasSent new.history) l) (sym still) (all_sent_later old.history new.history (goes_farther old.history between.history new.history so.goes_on learned.goes_on) es all);
  stays = λ e has. subst (λ l. Contains l e) (sym still) has;
  more = (job, so.ticket) ∷ [];
  own = learned.own ∙ so.own;
  only = All-cons (λ (one : Job × ℕ). ((s : ℕ) × Contains more (Item s one.0)) ⊎ WasWithdrawn new.history one.0) (job, so.ticket) []
      (inr (subst (λ (j : Job). WasWithdrawn new.history j) (came ∙ same) gone))
      (All-nil (λ (one : Job × ℕ). ((s : ℕ) × Contains more (Item s one.0)) ⊎ WasWithdrawn new.history one.0));
}
back_on job letter back old between new es more (keeps not is same') same came learned gone still = absurd (let e : ◌≡◌ {A = Result Job Job} (Ok letter) (Err job) = is in cc)

-- what holds anyway holds behind an error
pub where_err : {A E : Type 0} (r : Result A E) (P : Type 0) → P → OnErr r P
where_err (Ok x) P holds_so = tt
where_err (Err e) P holds_so = holds_so

-- ---- the beginning and the end of a producer's life

all_new : (history : List Event) (permits : List (LanePermit Job)) → All IsNew permits → All (λ entries. All (WasSent history) entries) (map put_by permits)
all_new history [] fresh = All-nil (λ entries. All (WasSent history) entries)
all_new history (x ∷ xs) fresh =
    All-cons (λ entries. All (WasSent history) entries) (put_by x) (map put_by xs)
    (subst (λ l. All (WasSent history) l) (sym (All-head IsNew x xs fresh).0) (All-nil (WasSent history)))
    (all_new history xs (All-tail IsNew x xs fresh))

-- nothing was put or sent, and nothing heard
pub backed_begin : (seat : ℕ) (history : List Event) (heard : List (Entry Noted)) (permits : List (LanePermit Job)) → Legal history → sent_by seat history ≡ [] → heard ≡ [] → All IsNew permits → IsBacked seat history heard (map put_by permits)
backed_begin seat history heard permits legal unsent unheard fresh = record {
  legal = legal;
  sent = all_new history permits fresh;
  shown = subst (λ l. All (IsShown history) l) (sym unheard) (All-nil (IsShown history));
  only = subst (λ l. All (Accounted history (map put_by permits)) l) (sym unsent) (All-nil (Accounted history (map put_by permits)));
}

few : (more : List (Entry Noted)) → ends_in more ≤ length more
few [] = omega arith
few (Item shard noted ∷ more) = let f = few more in omega (arith, f)
few (End shard ∷ more) = let f = few more in omega (arith, f)

all_ends : (history : List Event) (more : List (Entry Noted)) → ends_in more ≡ length more → All (IsShown history) more
all_ends history [] same = All-nil (IsShown history)
all_ends history (Item shard noted ∷ more) same = absurd (let f = few more in omega (arith, same, f))
all_ends history (End shard ∷ more) same = All-cons (IsShown history) (End shard) more tt (all_ends history more (omega (arith, same)))

ends_both : (old more : List (Entry Noted)) → ends_in (old ++ more) ≡ ends_in old + ends_in more
ends_both [] more = omega arith
ends_both (Item shard noted ∷ old) more = ends_both old more
ends_both (End shard ∷ old) more = let h = ends_both old more in omega (arith, h)

-- where nothing but ends was heard since, the history has what was heard as it had what was heard before
pub ends_backed : (seat : ℕ) (history : List Event) (old new : List (Entry Noted)) (lists : List (List (Entry Job))) → IsStartOf old new → length new + ends_in old ≡ length old + ends_in new → IsBacked seat history old lists → IsBacked seat history new lists
ends_backed seat history old new lists grew quiet was =
    let ends = ap ends_in grew.1 ∙ ends_both old grew.0 in
    let long = ap length grew.1 ∙ length-append old grew.0 in
    subst (λ (l : List (Entry Noted)). IsBacked seat history l lists) (sym grew.1) (record {
      legal = was.legal;
      sent = was.sent;
      shown = All-append (IsShown history) old grew.0 was.shown (all_ends history grew.0 (omega (arith, ends, long, quiet)));
      only = was.only;
    })

-- nothing is put or heard, and no other dispatch is used
pub desk_kept : {B : Type 0} (old new : Desk B) → new.receiver ≡ old.receiver → map put_by new.permits.items ≡ map put_by old.permits.items → new.dispatch ≡ old.dispatch → KeepsBacked old new
desk_kept old new of_receiver of_put of_dispatch seat was =
    subst (λ (d : Dispatch). IsBackedBy seat d (received new.receiver) (map put_by new.permits.items)) (sym of_dispatch)
    (subst (λ (r : ReceiverPermit Noted). IsBackedBy seat old.dispatch (received r) (map put_by new.permits.items)) (sym of_receiver)
    (subst (λ (l : List (List (Entry Job))). IsBackedBy seat old.dispatch (received old.receiver) l) (sym of_put) was))

all_ended : (history : List Event) (seat : ℕ) (lists : List (List (Entry Job))) → All (λ entries. All (WasSent history) entries) lists → All (λ entries. All (WasSent history) entries) (map (λ entries. entries ++ End seat ∷ []) lists)
all_ended history seat [] all = All-nil (λ entries. All (WasSent history) entries)
all_ended history seat (x ∷ xs) all =
    All-cons (λ entries. All (WasSent history) entries) (x ++ End seat ∷ []) (map (λ entries. entries ++ End seat ∷ []) xs)
    (All-append (WasSent history) x (End seat ∷ []) (All-head (λ entries. All (WasSent history) entries) x xs all) (All-cons (WasSent history) (End seat) [] tt (All-nil (WasSent history))))
    (all_ended history seat xs (All-tail (λ entries. All (WasSent history) entries) x xs all))

-- behind the ends stands what was put, and what stands there was put
behind_ends : (seat : ℕ) (lists : List (List (Entry Job))) (lane : ℕ) (e : Entry Job) → Contains (slice_index_or lists lane []) e → Contains (slice_index_or (map (λ entries. entries ++ End seat ∷ []) lists) lane []) e
behind_ends seat [] lane e has = has
behind_ends seat (x ∷ xs) zero e has = Contains-append_left x (End seat ∷ []) e has
behind_ends seat (x ∷ xs) (suc lane) e has = behind_ends seat xs lane e has

no_end : (x : List (Entry Job)) (seat p : ℕ) (job : Job) → Contains x (Item p job) ⊎ ◌≡◌ {A = Entry Job} (End seat) (Item p job) → Contains x (Item p job)
no_end x seat p job (inl has) = has
no_end x seat p job (inr is) = absurd (let e : ◌≡◌ {A = Entry Job} (End seat) (Item p job) = is in cc)

before_ends : (seat : ℕ) (lists : List (List (Entry Job))) (lane p : ℕ) (job : Job) → Contains (slice_index_or (map (λ entries. entries ++ End seat ∷ []) lists) lane []) (Item p job) → Contains (slice_index_or lists lane []) (Item p job)
before_ends seat [] lane p job has = has
before_ends seat (x ∷ xs) zero p job has = no_end x seat p job (Contains-push_cases x (End seat) (Item p job) has)
before_ends seat (x ∷ xs) (suc lane) p job has = before_ends seat xs lane p job has

-- each lane got its end
pub backed_end : (seat number : ℕ) (history : List Event) (heard : List (Entry Noted)) (before after : List (List (Entry Job))) → HaveEnded number before after → IsBacked seat history heard before → IsBacked seat history heard after
backed_end seat number history heard before after ended was = subst (λ l. IsBacked seat history heard l) (sym ended) (record {
  legal = was.legal;
  sent = all_ended history number before was.sent;
  shown = was.shown;
  only = All-weaker (Accounted history before) (Accounted history (map (λ entries. entries ++ End number ∷ []) before))
      (accounted_later history history before (map (λ entries. entries ++ End number ∷ []) before) (goes_nowhere history) (λ job put. (put.0, put.1, behind_ends number before put.0 (Item put.1 job) put.2)))
      (sent_by seat history) was.only;
})

all_front : {A : Type 0} (P : A → Type 0) (xs ys : List A) → All P (xs ++ ys) → All P xs
all_front P [] ys all = All-nil P
all_front P (x ∷ xs) ys all = All-cons P x xs (All-head P x (xs ++ ys) all) (all_front P xs ys (All-tail P x (xs ++ ys) all))

before_end : (history : List Event) (seat : ℕ) (lists : List (List (Entry Job))) → All (λ entries. All (WasSent history) entries) (map (λ entries. entries ++ End seat ∷ []) lists) → All (λ entries. All (WasSent history) entries) lists
before_end history seat [] all = All-nil (λ entries. All (WasSent history) entries)
before_end history seat (x ∷ xs) all =
    All-cons (λ entries. All (WasSent history) entries) x xs
    (all_front (WasSent history) x (End seat ∷ []) (All-head (λ entries. All (WasSent history) entries) (x ++ End seat ∷ []) (map (λ entries. entries ++ End seat ∷ []) xs) all))
    (before_end history seat xs (All-tail (λ entries. All (WasSent history) entries) (x ++ End seat ∷ []) (map (λ entries. entries ++ End seat ∷ []) xs) all))

pub backed_before : (seat : ℕ) (history : List Event) (heard : List (Entry Noted)) (before after : List (List (Entry Job))) → HaveEnded seat before after → IsBacked seat history heard after → IsBacked seat history heard before
backed_before seat history heard before after ended backed =
    let was = subst (λ l. IsBacked seat history heard l) ended backed in record {
      legal = was.legal;
      sent = before_end history seat before was.sent;
      shown = was.shown;
      only = All-weaker (Accounted history (map (λ entries. entries ++ End seat ∷ []) before)) (Accounted history before)
          (accounted_later history history (map (λ entries. entries ++ End seat ∷ []) before) before (goes_nowhere history) (λ job put. (put.0, put.1, before_ends seat before put.0 put.1 job put.2)))
          (sent_by seat history) was.only;
    }

pub words_stand : WordsStand
words_stand d rooms p copies history heard lists words some lanes books ended backed = books_stand d rooms p copies history heard lists some lanes books (backed_before p history heard lists words ended backed)
