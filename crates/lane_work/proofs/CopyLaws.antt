-- Copies that are put one after another, and what is known of them.
use Rattle.std.proofs.Common.{◌≡◌, ◌≢◌, ◌⊎◌, inl, inr, ℕ, zero, suc, ◌+◌, ◌<◌, ◌++◌, ◌∙◌, ap, refl, sym, subst, List, [], ◌∷◌, length, map, zip, take, slice_index_or, slice_set, arith, Option, Some, None, Bool, true, false, eqb, MatchOption, All, append_assoc, append-nil, if◌then◌else◌, ◌==◌}
use Rattle.std.proofs.lemmas.Bool.Decides.{eqb_tells}
use Rattle.std.proofs.lemmas.List.Concat.{flat_map-append}
use Rattle.std.proofs.lemmas.List.Elements.{All-head, All-tail}
use Rattle.std.proofs.lemmas.List.{get_or-set_same, get_or-set_other, map-append, length-take-le}
use Rattle.change_ring.specs.Log.{no_flags}
use Rattle.delivery_token.specs.declared.CopyKey.{CopyKey}
use Rattle.delivery_token.specs.Text.{Text}
use Rattle.delivery_token.specs.declared.Job.{Job}
use Rattle.delivery_token.specs.declared.Verdict.{Verdict}
use Rattle.envelope.specs.Names.{Directory, shard_of}
use Rattle.shard_queue.specs.declared.lane.Entry.{Entry}
use Rattle.shard_queue.specs.declared.lane.Entry.TheVariants.{Item}
use Rattle.delivery_token.specs.declared.log.Noted.{Noted}
use Rattle.lmtp_machine.specs.Dialogue.{Submission}
use Rattle.shard_queue.specs.Shared.{IsStartOf}
use Rattle.lane_work.specs.Talk.{Judged}
use Rattle.lane_work.specs.declared.hearing.Torn.{Torn}
use Rattle.std.specs.Prelude.{Result, Ok, Err, IfOk}
use Rattle.lane_work.specs.Account.{AreBooks, AreBooksOf, FilledAlone, IsAtOnce, IsHeard, Room, WerePut, none, put, elsewhere, refused, copies, copies_of, note_of, room_at, told}
use Rattle.workers_sync.specs.Carried.{Carried, copy_of, judged_of}
use Rattle.delivery_token.specs.Verdicts.{Fills, FillsIn}
use Rattle.delivery_token.proofs.Fills.{fills_length}
use Rattle.lane_work.specs.inner.Copies.{WasJudged, AreTried, HavePut, WereHeard, WereTried, under_way}
use Rattle.lane_work.proofs.SlotLaws.{heard_later, were_heard_later, were_heard_set}

take_suc : {A : Type 0} (xs : List A) (i : ℕ) (x : A) → i < length xs → x ≡ slice_index_or xs i x → take (suc i) xs ≡ take i xs ++ x ∷ []
take_suc [] i x under is = absurd (omega arith)
take_suc (y ∷ ys) zero x under is = ap (λ z. z ∷ []) (sym is)
take_suc (y ∷ ys) (suc i) x under is = ap (λ l. y ∷ l) (take_suc ys i x (omega arith) is)

pub take_next : {A : Type 0} (xs : List A) (i : ℕ) (x : A) → i < length xs → x ≡ slice_index_or xs i x → take (i + 1) xs ≡ take i xs ++ x ∷ []
take_next xs i x under is = let e : i + 1 ≡ suc i = omega arith in ap (λ n. take n xs) e ∙ take_suc xs i x under is

pub all_at : {A : Type 0} (P : A → Type 0) (xs : List A) (i : ℕ) (x : A) → i < length xs → x ≡ slice_index_or xs i x → All P xs → P x
all_at P [] i x under is h = absurd (omega arith)
all_at P (y ∷ ys) zero x under is h = subst P (sym is) (All-head P y ys h)
all_at P (y ∷ ys) (suc i) x under is h = all_at P ys i x (omega arith) is (All-tail P y ys h)

pub copies_length : (keys : List CopyKey) (mailboxes : List ℕ) (text : Text) → length mailboxes ≡ length keys → length (copies keys mailboxes text) ≡ length keys
copies_length [] mailboxes text same = refl
copies_length (k ∷ ks) [] text same = absurd (omega arith)
copies_length (k ∷ ks) (m ∷ ms) text same = ap suc (copies_length ks ms text (omega arith))

pub copies_next : (keys : List CopyKey) (mailboxes : List ℕ) (text : Text) (k : CopyKey) (m : ℕ) → length mailboxes ≡ length keys
    → copies (keys ++ k ∷ []) (mailboxes ++ m ∷ []) text ≡ copies keys mailboxes text ++ record { key = k; mailbox = m; text = text; flags = no_flags } ∷ []
copies_next [] [] text k m same = refl
copies_next [] (x ∷ xs) text k m same = absurd (omega arith)
copies_next (y ∷ ys) [] text k m same = absurd (omega arith)
copies_next (y ∷ ys) (x ∷ xs) text k m same = ap (λ l. record { key = y; mailbox = x; text = text; flags = no_flags } ∷ l) (copies_next ys xs text k m (omega arith))

copies_at : (keys : List CopyKey) (mailboxes : List ℕ) (text : Text) (i : ℕ) (k : CopyKey) (m : ℕ) → i < length keys → i < length mailboxes → k ≡ slice_index_or keys i k → m ≡ slice_index_or mailboxes i m
    → (i < length (copies keys mailboxes text)) × (slice_index_or (copies keys mailboxes text) i (record { key = k; mailbox = m; text = text; flags = no_flags }) ≡ record { key = k; mailbox = m; text = text; flags = no_flags })
copies_at [] mailboxes text i k m under within kis mis = absurd (omega arith)
copies_at (x ∷ keys) [] text i k m under within kis mis = absurd (omega arith)
copies_at (x ∷ keys) (y ∷ mailboxes) text zero k m under within kis mis =
    (omega arith, ap (λ (z : CopyKey). let r : Job = record { key = z; mailbox = y; text = text; flags = no_flags } in r) (sym kis) ∙ ap (λ (n : ℕ). let r : Job = record { key = k; mailbox = n; text = text; flags = no_flags } in r) (sym mis))
copies_at (x ∷ keys) (y ∷ mailboxes) text (suc i) k m under within kis mis =
    let r = copies_at keys mailboxes text i k m (omega arith) (omega arith) kis mis in ((let u = r.0 in omega (arith, u)), r.1)

-- one more verdict was heard, and filled in at the position of its copy
pub heard_next : (old new : List (Entry Noted)) (keys : List CopyKey) (mailboxes : List ℕ) (text : Text) (ss ts us : List (Option Verdict)) (shard : ℕ) (n : Noted) → new ≡ old ++ Item shard n ∷ []
    → FillsIn keys mailboxes n ts us → WereHeard old (copies keys mailboxes text) ss ts → WereHeard new (copies keys mailboxes text) ss us
heard_next old new keys mailboxes text ss ts us shard n grew f h =
    let cs = copies keys mailboxes text in
    let copy : Job = record { key = n.key; mailbox = n.mailbox; text = text; flags = no_flags } in
    let position = n.key.recipient in
    let there = copies_at keys mailboxes text position n.key n.mailbox f.there.put.known f.there.known (sym (f.there.put.same n.key)) (sym (f.there.same n.mailbox)) in
    let here : IsHeard new (note_of (copy, n.verdict)) = (shard, old, [], grew) in
    subst (λ (l : List (Option Verdict)). WereHeard new cs ss l) (sym f.fills)
    (were_heard_set new cs ss ts position n.verdict copy there.0 there.1 here (were_heard_later old new cs ss ts (Item shard n ∷ [], grew) h))

pub under_way_next : (d : Directory) (lane : ℕ) (cs : List Job) (ss : List (Option Verdict)) (c : Job) (s : Option Verdict) → length ss ≡ length cs
    → under_way d lane (cs ++ c ∷ []) (ss ++ s ∷ []) ≡ under_way d lane cs ss ++ under_way d lane (c ∷ []) (s ∷ [])
under_way_next d lane [] [] c s same = refl
under_way_next d lane [] (x ∷ ss) c s same = absurd (omega arith)
under_way_next d lane (x ∷ cs) [] c s same = absurd (omega arith)
under_way_next d lane (x ∷ cs) (Some v ∷ ss) c s same = under_way_next d lane cs ss c s (omega arith)
under_way_next d lane (x ∷ cs) (None ∷ ss) c s same = go (under_way_next d lane cs ss c s (omega arith)) (shard_of d x.mailbox == lane) where
  go : under_way d lane (cs ++ c ∷ []) (ss ++ s ∷ []) ≡ under_way d lane cs ss ++ under_way d lane (c ∷ []) (s ∷ []) → (b : Bool) → (if b then x ∷ under_way d lane (cs ++ c ∷ []) (ss ++ s ∷ []) else under_way d lane (cs ++ c ∷ []) (ss ++ s ∷ []))
      ≡ (if b then x ∷ under_way d lane cs ss else under_way d lane cs ss) ++ under_way d lane (c ∷ []) (s ∷ [])
  go others true = ap (λ l. x ∷ l) others
  go others false = others

-- what one more put makes of a lane's list
pub put_next : (d : Directory) (sents after : List (List (Entry Job))) (before : List (Entry Job)) (shard lane p : ℕ) (copy : Job) (verdict : Option Verdict) (cs : List Job) (ss : List (Option Verdict)) (B : Verdict → Type 0)
    → length ss ≡ length cs → lane < length sents → shard ≡ shard_of d copy.mailbox
    → MatchOption verdict (after ≡ slice_set sents shard (slice_index_or sents shard [] ++ Item p copy ∷ [])) (λ v. (after ≡ sents) × B v)
    → slice_index_or sents lane [] ≡ before ++ map (λ job. Item p job) (under_way d lane cs ss)
    → slice_index_or after lane [] ≡ before ++ map (λ job. Item p job) (under_way d lane (cs ++ copy ∷ []) (ss ++ verdict ∷ []))
put_next d sents after before shard lane p copy (Some v) cs ss B same under at was so =
    ap (λ l. slice_index_or l lane []) was.0 ∙ so
    ∙ ap (λ l. before ++ map (λ job. Item p job) l) (sym (under_way_next d lane cs ss copy (Some v) same ∙ append-nil (under_way d lane cs ss)))
put_next d sents after before shard lane p copy None cs ss B same under at was so = ap (λ l. slice_index_or l lane []) was ∙ go (eqb_tells (shard_of d copy.mailbox) lane) where
  e : under_way d lane (cs ++ copy ∷ []) (ss ++ None ∷ []) ≡ under_way d lane cs ss ++ under_way d lane (copy ∷ []) (None ∷ [])
  e = under_way_next d lane cs ss copy None same

  go : ((eqb (shard_of d copy.mailbox) lane ≡ true) × (shard_of d copy.mailbox ≡ lane)) ⊎ ((eqb (shard_of d copy.mailbox) lane ≡ false) × (shard_of d copy.mailbox ≢ lane))
      → slice_index_or (slice_set sents shard (slice_index_or sents shard [] ++ Item p copy ∷ [])) lane [] ≡ before ++ map (λ job. Item p job) (under_way d lane (cs ++ copy ∷ []) (ss ++ None ∷ []))
  go (inl (is, here)) =
      let position : shard ≡ lane = at ∙ here in
      let one : under_way d lane (copy ∷ []) (None ∷ []) ≡ copy ∷ [] = ap (λ b. if b then copy ∷ [] else []) is in
      subst (λ n. slice_index_or (slice_set sents n (slice_index_or sents n [] ++ Item p copy ∷ [])) lane [] ≡ before ++ map (λ job. Item p job) (under_way d lane (cs ++ copy ∷ []) (ss ++ None ∷ []))) (sym position)
      (get_or-set_same sents lane (slice_index_or sents lane [] ++ Item p copy ∷ []) [] under
      ∙ ap (λ l. l ++ Item p copy ∷ []) so
      ∙ append_assoc before (map (λ job. Item p job) (under_way d lane cs ss)) (Item p copy ∷ [])
      ∙ ap (λ l. before ++ l) (sym (ap (map (λ job. Item p job)) (e ∙ ap (λ l. under_way d lane cs ss ++ l) one) ∙ map-append (λ job. Item p job) (under_way d lane cs ss) (copy ∷ []))))
  go (inr (is, there)) =
      let nil : under_way d lane (copy ∷ []) (None ∷ []) ≡ [] = ap (λ b. if b then copy ∷ [] else []) is in
      let away : lane ≢ shard = λ same_position. there (sym at ∙ sym same_position) in
      get_or-set_other sents shard lane (slice_index_or sents shard [] ++ Item p copy ∷ []) [] away ∙ so
      ∙ ap (λ l. before ++ map (λ job. Item p job) l) (sym (e ∙ ap (λ l. under_way d lane cs ss ++ l) nil ∙ append-nil (under_way d lane cs ss)))

-- the next copy of a message was put
pub puts_next : (d : Directory) (p q : ℕ) (keys : List CopyKey) (mailboxes : List ℕ) (text : Text) (i : ℕ) (k : CopyKey) (m : ℕ) (before sents after : List (List (Entry Job))) (verdict : Option Verdict)
    (slots more : List (Option Verdict)) (B : Verdict → Type 0)
    → length mailboxes ≡ length keys → i < length keys → k ≡ slice_index_or keys i k → m ≡ slice_index_or mailboxes i m
    → length slots ≡ i → more ≡ slots ++ verdict ∷ [] → length sents ≡ length before → q ≡ p
    → MatchOption verdict (after ≡ slice_set sents (shard_of d m) (slice_index_or sents (shard_of d m) [] ++ Item q (record { key = k; mailbox = m; text = text; flags = no_flags }) ∷ [])) (λ v. (after ≡ sents) × B v)
    → HavePut d p (copies (take i keys) (take i mailboxes) text) slots before sents
    → HavePut d p (copies (take (i + 1) keys) (take (i + 1) mailboxes) text) more before after
puts_next d p q keys mailboxes text i k m before sents after verdict slots more B same under kis mis len new as_many number h so lane within =
    let copy : Job = record { key = k; mailbox = m; text = text; flags = no_flags } in
    let lk : length (take i keys) ≡ i = length-take-le i keys (omega arith) in
    let lm : length (take i mailboxes) ≡ i = length-take-le i mailboxes (omega arith) in
    let cs = copies (take i keys) (take i mailboxes) text in
    let lc : length cs ≡ i = copies_length (take i keys) (take i mailboxes) text (lm ∙ sym lk) ∙ lk in
    let next : copies (take (i + 1) keys) (take (i + 1) mailboxes) text ≡ cs ++ copy ∷ [] =
    ap (λ ks. copies ks (take (i + 1) mailboxes) text) (take_next keys i k under kis)
    ∙ ap (λ ms. copies (take i keys ++ k ∷ []) ms text) (take_next mailboxes i m (omega arith) mis)
    ∙ copies_next (take i keys) (take i mailboxes) text k m (lm ∙ sym lk) in
    let was = subst (λ n. MatchOption verdict (after ≡ slice_set sents (shard_of d m) (slice_index_or sents (shard_of d m) [] ++ Item n copy ∷ [])) (λ v. (after ≡ sents) × B v)) number h in
    let one = put_next d sents after (slice_index_or before lane []) (shard_of d m) lane p copy verdict cs slots B (len ∙ sym lc) (omega arith) refl was (so lane within) in
    one ∙ ap (λ l. slice_index_or before lane [] ++ map (λ job. Item p job) l) (ap (λ l. under_way d lane l (slots ++ verdict ∷ [])) (sym next) ∙ ap (under_way d lane (copies (take (i + 1) keys) (take (i + 1) mailboxes) text)) (sym new))

-- ---- what was tried

-- one more copy was tried, where what stands of it is known of its lane as it was then
pub tried_next : (d : Directory) (room : Room) (p lane : ℕ) (before : List (Entry Job)) (cs : List Job) (ss : List (Option Verdict)) (c : Job) (s : Option Verdict) → length ss ≡ length cs
    → AreTried d room p lane before cs ss
    → AreTried d room p lane (before ++ map (λ job. Item p job) (under_way d lane cs ss)) (c ∷ []) (s ∷ [])
    → AreTried d room p lane before (cs ++ c ∷ []) (ss ++ s ∷ [])
tried_next d room p lane before [] [] c s same tried here = subst (λ (l : List (Entry Job)). AreTried d room p lane l (c ∷ []) (s ∷ [])) (append-nil before) here
tried_next d room p lane before [] (x ∷ ss) c s same tried here = absurd (omega arith)
tried_next d room p lane before (x ∷ cs) [] c s same tried here = absurd (omega arith)
tried_next d room p lane before (x ∷ cs) (Some v ∷ ss) c s same tried here = (tried.0, tried_next d room p lane before cs ss c s (omega arith) tried.1 here)
tried_next d room p lane before (x ∷ cs) (None ∷ ss) c s same tried here =
    go (λ l t h. tried_next d room p lane l cs ss c s (omega arith) t h) (shard_of d x.mailbox == lane) tried here where
      ways : List Job
      ways = under_way d lane cs ss

      go : ((l : List (Entry Job)) → AreTried d room p lane l cs ss → AreTried d room p lane (l ++ map (λ job. Item p job) ways) (c ∷ []) (s ∷ []) → AreTried d room p lane l (cs ++ c ∷ []) (ss ++ s ∷ []))
          → (b : Bool) → AreTried d room p lane (if b then before ++ Item p x ∷ [] else before) cs ss
          → AreTried d room p lane (before ++ map (λ job. Item p job) (if b then x ∷ ways else ways)) (c ∷ []) (s ∷ [])
          → AreTried d room p lane (if b then before ++ Item p x ∷ [] else before) (cs ++ c ∷ []) (ss ++ s ∷ [])
      go rest true t h = rest (before ++ Item p x ∷ []) t
          (subst (λ (l : List (Entry Job)). AreTried d room p lane l (c ∷ []) (s ∷ [])) (sym (append_assoc before (Item p x ∷ []) (map (λ job. Item p job) ways))) h)
      go rest false t h = rest before t h

-- what is known of a copy at once, at each lane
tried_here : (d : Directory) (rooms : List Room) (p lane : ℕ) (here : List (Entry Job)) (sents : List (List (Entry Job))) (c : Job) (verdict : Option Verdict) (A : Type 0) (B : Verdict → Type 0)
    → slice_index_or sents lane [] ≡ here
    → MatchOption verdict A (λ v. B v × IsAtOnce (FilledAlone (room_at rooms (shard_of d c.mailbox)) p (slice_index_or sents (shard_of d c.mailbox) [])) v)
    → AreTried d (room_at rooms lane) p lane here (c ∷ []) (verdict ∷ [])
tried_here d rooms p lane here sents c None A B so h = tt
tried_here d rooms p lane here sents c (Some v) A B so h = (
  (λ shard. subst (λ (l : List (Entry Job)). IsAtOnce (FilledAlone (room_at rooms lane) p l) v) so
      (subst (λ (n : ℕ). IsAtOnce (FilledAlone (room_at rooms n) p (slice_index_or sents n [])) v) shard h.1)),
  tt,
)

-- the next copy of a message was tried
pub tries_next : (d : Directory) (rooms : List Room) (p q : ℕ) (keys : List CopyKey) (mailboxes : List ℕ) (text : Text) (i : ℕ) (k : CopyKey) (m : ℕ) (before sents : List (List (Entry Job))) (verdict : Option Verdict)
    (slots more : List (Option Verdict)) (A : Type 0) (B : Verdict → Type 0)
    → length mailboxes ≡ length keys → i < length keys → k ≡ slice_index_or keys i k → m ≡ slice_index_or mailboxes i m
    → length slots ≡ i → more ≡ slots ++ verdict ∷ [] → q ≡ p
    → MatchOption verdict A (λ v. B v × IsAtOnce (FilledAlone (room_at rooms (shard_of d m)) q (slice_index_or sents (shard_of d m) [])) v)
    → HavePut d p (copies (take i keys) (take i mailboxes) text) slots before sents
    → WereTried d rooms p (copies (take i keys) (take i mailboxes) text) slots before
    → WereTried d rooms p (copies (take (i + 1) keys) (take (i + 1) mailboxes) text) more before
tries_next d rooms p q keys mailboxes text i k m before sents verdict slots more A B same under kis mis len new number h so tried lane within =
    let copy : Job = record { key = k; mailbox = m; text = text; flags = no_flags } in
    let lk : length (take i keys) ≡ i = length-take-le i keys (omega arith) in
    let lm : length (take i mailboxes) ≡ i = length-take-le i mailboxes (omega arith) in
    let cs = copies (take i keys) (take i mailboxes) text in
    let lc : length cs ≡ i = copies_length (take i keys) (take i mailboxes) text (lm ∙ sym lk) ∙ lk in
    let next : copies (take (i + 1) keys) (take (i + 1) mailboxes) text ≡ cs ++ copy ∷ [] =
    ap (λ ks. copies ks (take (i + 1) mailboxes) text) (take_next keys i k under kis)
    ∙ ap (λ ms. copies (take i keys ++ k ∷ []) ms text) (take_next mailboxes i m (omega arith) mis)
    ∙ copies_next (take i keys) (take i mailboxes) text k m (lm ∙ sym lk) in
    let was = subst (λ (n : ℕ). MatchOption verdict A (λ v. B v × IsAtOnce (FilledAlone (room_at rooms (shard_of d m)) n (slice_index_or sents (shard_of d m) [])) v)) number h in
    let begun = slice_index_or before lane [] in
    let here = tried_here d rooms p lane (begun ++ map (λ job. Item p job) (under_way d lane cs slots)) sents copy verdict A B (so lane within) was in
    let one = tried_next d (room_at rooms lane) p lane begun cs slots copy verdict (len ∙ sym lc) (tried lane within) here in
    subst (λ (l : List Job). AreTried d (room_at rooms lane) p lane begun l more) (sym next)
    (subst (AreTried d (room_at rooms lane) p lane begun (cs ++ copy ∷ [])) (sym new) one)

-- ---- what was put, where every verdict is known

pub were_put_more : (d : Directory) (room : Room) (p lane : ℕ) (heard : List (Entry Noted)) {before js ks : List Job} {xs ys : List (Job × Verdict)} → WerePut d room p lane heard before xs js → WerePut d room p lane heard (before ++ js) ys ks
    → WerePut d room p lane heard before (xs ++ ys) (js ++ ks)
were_put_more d room p lane heard {ks = ks} {ys = ys} (none {before = b}) more = subst (λ (l : List Job). WerePut d room p lane heard l ys ks) (append-nil b) more
were_put_more d room p lane heard {ks = ks} {ys = ys} (put {before = b} {jobs = js} c v here was others) more =
    put c v here was (were_put_more d room p lane heard others (subst (λ (l : List Job). WerePut d room p lane heard l ys ks) (sym (append_assoc b (c ∷ []) js)) more))
were_put_more d room p lane heard (elsewhere c v there others) more = elsewhere c v there (were_put_more d room p lane heard others more)
were_put_more d room p lane heard (refused c v here why others) more = refused c v here why (were_put_more d room p lane heard others more)

pub were_put : (d : Directory) (room : Room) (p lane : ℕ) (heard : List (Entry Noted)) (before : List Job) (cs : List Job) (slots : List (Option Verdict)) (vs : List Verdict) → length slots ≡ length cs
    → AreTried d room p lane (map (λ job. Item p job) before) cs slots → Fills slots (map (λ v. Some v) vs) → WereHeard heard cs slots (map (λ v. Some v) vs)
    → WerePut d room p lane heard before (zip cs vs) (under_way d lane cs slots)
were_put d room p lane heard before [] [] vs same tried fills listened = none
were_put d room p lane heard before [] (s ∷ ss) vs same tried fills listened = absurd (omega arith)
were_put d room p lane heard before (c ∷ cs) [] vs same tried fills listened = absurd (omega arith)
were_put d room p lane heard before (c ∷ cs) (s ∷ ss) [] same tried fills listened = absurd (omega (arith, fills_length (s ∷ ss) [] fills))
were_put d room p lane heard before (c ∷ cs) (Some u ∷ ss) (v ∷ vs) same tried fills listened =
    let e : Some v ≡ Some u = fills.0 in
    let is : v ≡ u = cc in
    go (were_put d room p lane heard before cs ss vs (omega arith) tried.1 fills.1 listened) (λ here. subst (IsAtOnce (FilledAlone room p (map (λ job. Item p job) before))) (sym is) (tried.0 here))
    (eqb_tells (shard_of d c.mailbox) lane) where
      go : WerePut d room p lane heard before (zip cs vs) (under_way d lane cs ss) → (shard_of d c.mailbox ≡ lane → IsAtOnce (FilledAlone room p (map (λ job. Item p job) before)) v)
          → ((eqb (shard_of d c.mailbox) lane ≡ true) × (shard_of d c.mailbox ≡ lane)) ⊎ ((eqb (shard_of d c.mailbox) lane ≡ false) × (shard_of d c.mailbox ≢ lane))
          → WerePut d room p lane heard before ((c, v) ∷ zip cs vs) (under_way d lane cs ss)
      go others why (inl (is, here)) = refused c v here (why here) others
      go others why (inr (is, there)) = elsewhere c v there others
were_put d room p lane heard before (c ∷ cs) (None ∷ ss) (v ∷ vs) same tried fills listened =
    go (λ l t. were_put d room p lane heard l cs ss vs (omega arith) t fills listened.1) listened.0 tried (eqb_tells (shard_of d c.mailbox) lane) where
      go : ((l : List Job) → AreTried d room p lane (map (λ job. Item p job) l) cs ss → WerePut d room p lane heard l (zip cs vs) (under_way d lane cs ss))
          → IsHeard heard (note_of (c, v)) → AreTried d room p lane (if shard_of d c.mailbox == lane then map (λ job. Item p job) before ++ Item p c ∷ [] else map (λ job. Item p job) before) cs ss
          → ((eqb (shard_of d c.mailbox) lane ≡ true) × (shard_of d c.mailbox ≡ lane)) ⊎ ((eqb (shard_of d c.mailbox) lane ≡ false) × (shard_of d c.mailbox ≢ lane))
          → WerePut d room p lane heard before ((c, v) ∷ zip cs vs) (under_way d lane (c ∷ cs) (None ∷ ss))
      go others was t (inl (is, here)) =
          let now = subst (λ b. AreTried d room p lane (if b then map (λ job. Item p job) before ++ Item p c ∷ [] else map (λ job. Item p job) before) cs ss) is t in
          let all = subst (λ (l : List (Entry Job)). AreTried d room p lane l cs ss) (sym (map-append (λ job. Item p job) before (c ∷ []))) now in
          subst (λ b. WerePut d room p lane heard before ((c, v) ∷ zip cs vs) (if b then c ∷ under_way d lane cs ss else under_way d lane cs ss)) (sym is) (put c v here was (others (before ++ c ∷ []) all))
      go others was t (inr (is, there)) =
          let now = subst (λ b. AreTried d room p lane (if b then map (λ job. Item p job) before ++ Item p c ∷ [] else map (λ job. Item p job) before) cs ss) is t in
          subst (λ b. WerePut d room p lane heard before ((c, v) ∷ zip cs vs) (if b then c ∷ under_way d lane cs ss else under_way d lane cs ss)) (sym is) (elsewhere c v there (others before now))

-- what was heard is heard for good
pub were_put_later : (d : Directory) (room : Room) (p lane : ℕ) (old new : List (Entry Noted)) {before js : List Job} {xs : List (Job × Verdict)} → IsStartOf old new → WerePut d room p lane old before xs js → WerePut d room p lane new before xs js
were_put_later d room p lane old new grew none = none
were_put_later d room p lane old new grew (put c v here was others) = put c v here (heard_later old new (note_of (c, v)) grew was) (were_put_later d room p lane old new grew others)
were_put_later d room p lane old new grew (elsewhere c v there others) = elsewhere c v there (were_put_later d room p lane old new grew others)
were_put_later d room p lane old new grew (refused c v here why others) = refused c v here why (were_put_later d room p lane old new grew others)

-- ---- a message that was judged, in the books

zip_next : {A B : Type 0} (xs : List A) (ys : List B) (x : A) (y : B) → length ys ≡ length xs → zip (xs ++ x ∷ []) (ys ++ y ∷ []) ≡ zip xs ys ++ (x, y) ∷ []
zip_next [] [] x y same = refl
zip_next [] (b ∷ ys) x y same = absurd (omega arith)
zip_next (a ∷ xs) [] x y same = absurd (omega arith)
zip_next (a ∷ xs) (b ∷ ys) x y same = ap (λ l. (a, b) ∷ l) (zip_next xs ys x y (omega arith))

pub notes_next : (keys : List CopyKey) (mailboxes : List ℕ) (text : Text) (verdicts : List Verdict) (i : ℕ) (k : CopyKey) (m : ℕ) (v : Verdict) (old was new : List Noted)
    → length mailboxes ≡ length keys → length verdicts ≡ length keys → i < length verdicts → k ≡ slice_index_or keys i k → m ≡ slice_index_or mailboxes i m → v ≡ slice_index_or verdicts i v
    → new ≡ was ++ record { key = k; mailbox = m; verdict = v } ∷ []
    → was ≡ old ++ map note_of (zip (copies (take i keys) (take i mailboxes) text) (take i verdicts))
    → new ≡ old ++ map note_of (zip (copies (take (i + 1) keys) (take (i + 1) mailboxes) text) (take (i + 1) verdicts))
notes_next keys mailboxes text verdicts i k m v old was new same as_many under kis mis vis is so =
    let copy : Job = record { key = k; mailbox = m; text = text; flags = no_flags } in
    let lk : length (take i keys) ≡ i = length-take-le i keys (omega arith) in
    let lm : length (take i mailboxes) ≡ i = length-take-le i mailboxes (omega arith) in
    let lv : length (take i verdicts) ≡ i = length-take-le i verdicts (omega arith) in
    let cs = copies (take i keys) (take i mailboxes) text in
    let lc : length cs ≡ i = copies_length (take i keys) (take i mailboxes) text (lm ∙ sym lk) ∙ lk in
    let next : copies (take (i + 1) keys) (take (i + 1) mailboxes) text ≡ cs ++ copy ∷ [] =
    ap (λ ks. copies ks (take (i + 1) mailboxes) text) (take_next keys i k (omega arith) kis)
    ∙ ap (λ ms. copies (take i keys ++ k ∷ []) ms text) (take_next mailboxes i m (omega arith) mis)
    ∙ copies_next (take i keys) (take i mailboxes) text k m (lm ∙ sym lk) in
    let both : zip (copies (take (i + 1) keys) (take (i + 1) mailboxes) text) (take (i + 1) verdicts) ≡ zip cs (take i verdicts) ++ (copy, v) ∷ [] =
    ap (λ l. zip l (take (i + 1) verdicts)) next ∙ ap (zip (cs ++ copy ∷ [])) (take_next verdicts i v under vis) ∙ zip_next cs (take i verdicts) copy v (lv ∙ sym lc) in
    is ∙ ap (λ l. l ++ record { key = k; mailbox = m; verdict = v } ∷ []) so
    ∙ append_assoc old (map note_of (zip cs (take i verdicts))) (record { key = k; mailbox = m; verdict = v } ∷ [])
    ∙ ap (λ l. old ++ l) (sym (ap (map note_of) both ∙ map-append note_of (zip cs (take i verdicts)) ((copy, v) ∷ [])))

pub told_more : (judged : List Judged) (m : Submission) (vs : List Verdict) → told (judged ++ record { message = m; verdicts = vs } ∷ []) ≡ told judged ++ zip (copies_of m) vs
told_more judged m vs = flat_map-append (λ (j : Judged). zip (copies_of j.message) j.verdicts) judged (record { message = m; verdicts = vs } ∷ []) ∙ ap (λ l. told judged ++ l) (append-nil (zip (copies_of m) vs))

pub books_more : (d : Directory) (rooms : List Room) (p : ℕ) (judged : List Judged) (keeps more : List (Job × Verdict) → Type 0) (heard hears : List (Entry Noted)) (m : Submission) (slots full : List (Option Verdict)) (vs : List Verdict) (before after : List (List (Entry Job)))
    → length m.mailboxes ≡ length m.keys → length slots ≡ length m.keys → WereTried d rooms p (copies_of m) slots before → Fills slots full → full ≡ map (λ v. Some v) vs
    → HavePut d p (copies_of m) slots before after → length after ≡ length before
    → ((copies : List (Job × Verdict)) → keeps copies → more (copies ++ zip (copies_of m) vs)) → IsStartOf heard hears → WereHeard hears (copies_of m) slots full
    → AreBooks d rooms p judged keeps heard before → AreBooks d rooms p (judged ++ record { message = m; verdicts = vs } ∷ []) more hears after
books_more d rooms p judged keeps more heard hears m slots full vs before after same as_many each fills known was len notes grew told_all books =
    let t = told_more judged m vs in
    record {
      noted = subst more (sym t) (notes (told judged) books.noted);
      lanes = λ lane under.
          let b = books.lanes lane (omega arith) in
          let jobs = under_way d lane (copies_of m) slots in
          let tried = subst (λ (l : List (Entry Job)). AreTried d (room_at rooms lane) p lane l (copies_of m) slots) b.2 (each lane (omega arith)) in
          let here = were_put d (room_at rooms lane) p lane hears b.0 (copies_of m) slots vs (as_many ∙ sym (copies_length m.keys m.mailboxes m.text same)) tried (subst (Fills slots) known fills) (subst (WereHeard hears (copies_of m) slots) known told_all) in (
            b.0 ++ jobs,
            subst (λ l. WerePut d (room_at rooms lane) p lane hears [] l (b.0 ++ jobs)) (sym t) (were_put_more d (room_at rooms lane) p lane hears (were_put_later d (room_at rooms lane) p lane heard hears grew b.1) here),
            was lane (omega arith) ∙ ap (λ l. l ++ map (λ job. Item p job) jobs) b.2 ∙ sym (map-append (λ job. Item p job) b.0 jobs),
          );
    }

-- ---- one copy, in the books

-- what was put on a lane where this copy's isn't, or is, and what was heard of it
one_put : (d : Directory) (rooms : List Room) (p : ℕ) (heard : List (Entry Noted)) (lane : ℕ) (copy : Job) (slot : Option Verdict) (verdict : Verdict) (before after : List (List (Entry Job))) (jobs : List Job)
    → shard_of d copy.mailbox < length before → slice_index_or before lane [] ≡ map (λ job. Item p job) jobs
    → MatchOption slot (after ≡ slice_set before (shard_of d copy.mailbox) (slice_index_or before (shard_of d copy.mailbox) [] ++ Item p copy ∷ []))
    (λ v. (after ≡ before) × IsAtOnce (FilledAlone (room_at rooms (shard_of d copy.mailbox)) p (slice_index_or before (shard_of d copy.mailbox) [])) v)
    → MatchOption slot (IsHeard heard (note_of (copy, verdict))) (λ v. verdict ≡ v)
    → ((eqb (shard_of d copy.mailbox) lane ≡ true) × (shard_of d copy.mailbox ≡ lane)) ⊎ ((eqb (shard_of d copy.mailbox) lane ≡ false) × (shard_of d copy.mailbox ≢ lane))
    → (more : List Job) × WerePut d (room_at rooms lane) p lane heard jobs ((copy, verdict) ∷ []) more × (slice_index_or after lane [] ≡ map (λ job. Item p job) (jobs ++ more))
one_put d rooms p heard lane copy None verdict before after jobs under so put_there told (inl (is, here)) = (
  copy ∷ [],
  put copy verdict here told none,
  ap (λ (l : List (List (Entry Job))). slice_index_or l lane []) put_there
      ∙ ap (λ (n : ℕ). slice_index_or (slice_set before (shard_of d copy.mailbox) (slice_index_or before (shard_of d copy.mailbox) [] ++ Item p copy ∷ [])) n []) (sym here)
      ∙ get_or-set_same before (shard_of d copy.mailbox) (slice_index_or before (shard_of d copy.mailbox) [] ++ Item p copy ∷ []) [] under
      ∙ ap (λ (n : ℕ). slice_index_or before n [] ++ Item p copy ∷ []) here
      ∙ ap (λ (l : List (Entry Job)). l ++ Item p copy ∷ []) so
      ∙ sym (map-append (λ job. Item p job) jobs (copy ∷ [])),
)
one_put d rooms p heard lane copy None verdict before after jobs under so put_there told (inr (is, there)) = (
  [],
  elsewhere copy verdict there none,
  ap (λ (l : List (List (Entry Job))). slice_index_or l lane []) put_there
      ∙ get_or-set_other before (shard_of d copy.mailbox) lane (slice_index_or before (shard_of d copy.mailbox) [] ++ Item p copy ∷ []) [] (λ same_position. there (sym same_position))
      ∙ so
      ∙ ap (map (λ job. Item p job)) (sym (append-nil jobs)),
)
one_put d rooms p heard lane copy (Some v) verdict before after jobs under so put_there told (inl (is, here)) = (
  [],
  refused copy verdict here
      (subst (λ (l : List (Entry Job)). IsAtOnce (FilledAlone (room_at rooms lane) p l) verdict) so
      (subst (λ (n : ℕ). IsAtOnce (FilledAlone (room_at rooms n) p (slice_index_or before n [])) verdict) here
      (subst (IsAtOnce (FilledAlone (room_at rooms (shard_of d copy.mailbox)) p (slice_index_or before (shard_of d copy.mailbox) []))) (sym told) put_there.1)))
      none,
  ap (λ (l : List (List (Entry Job))). slice_index_or l lane []) put_there.0 ∙ so ∙ ap (map (λ job. Item p job)) (sym (append-nil jobs)),
)
one_put d rooms p heard lane copy (Some v) verdict before after jobs under so put_there told (inr (is, there)) = (
  [],
  elsewhere copy verdict there none,
  ap (λ (l : List (List (Entry Job))). slice_index_or l lane []) put_there.0 ∙ so ∙ ap (map (λ job. Item p job)) (sym (append-nil jobs)),
)

-- a copy more that was tried, and the verdict on it
pub one_more : (d : Directory) (rooms : List Room) (p : ℕ) (done : List (Job × Verdict)) (keeps more : List (Job × Verdict) → Type 0) (heard hears : List (Entry Noted)) (copy : Job) (verdict : Verdict) (before after : List (List (Entry Job)))
    → WasJudged d rooms p copy verdict hears before after
    → ((copies : List (Job × Verdict)) → keeps copies → more (copies ++ (copy, verdict) ∷ [])) → IsStartOf heard hears
    → AreBooksOf d rooms p done keeps heard before → AreBooksOf d rooms p (done ++ (copy, verdict) ∷ []) more hears after
one_more d rooms p done keeps more heard hears copy verdict before after was notes grew books = record {
  noted = notes done books.noted;
  lanes = λ lane under.
      let len = was.lanes in
      let b = books.lanes lane (omega (arith, under, len)) in
      let one = one_put d rooms p hears lane copy was.at_once verdict before after b.0 was.within b.2 was.put was.told (eqb_tells (shard_of d copy.mailbox) lane) in (
        b.0 ++ one.0,
        were_put_more d (room_at rooms lane) p lane hears (were_put_later d (room_at rooms lane) p lane heard hears grew b.1) one.1,
        one.2,
      );
}

-- the same of a message more that a session submitted
pub carried_more : (d : Directory) (rooms : List Room) (p q : ℕ) (serial : ℕ) (done : List Carried) (one : Carried) (keeps more : List (Job × Verdict) → Type 0) (heard hears : List (Entry Noted)) (before after : List (List (Entry Job)))
    → q ≡ p → WasJudged d rooms p (copy_of p serial one) one.verdict hears before after
    → ((copies : List (Job × Verdict)) → keeps copies → more (copies ++ (copy_of p serial one, one.verdict) ∷ [])) → IsStartOf heard hears
    → AreBooksOf d rooms p (map (judged_of p serial) done) keeps heard before → AreBooksOf d rooms q (map (judged_of q serial) (done ++ one ∷ [])) more hears after
carried_more d rooms p q serial done one keeps more heard hears before after same was notes grew books =
    subst (λ (n : ℕ). AreBooksOf d rooms n (map (judged_of n serial) (done ++ one ∷ [])) more hears after) (sym same)
    (subst (λ (l : List (Job × Verdict)). AreBooksOf d rooms p l more hears after) (sym (map-append (judged_of p serial) done (one ∷ [])))
    (one_more d rooms p (map (judged_of p serial) done) keeps more heard hears (copy_of p serial one) one.verdict before after was notes grew books))

-- what `put_copy` and `hear_one` tell, as one
pub judged_at_once : (d : Directory) (rooms : List Room) (p : ℕ) (copy : Job) (slot : Option Verdict) (verdict : Verdict) (heard : List (Entry Noted)) (before after : List (List (Entry Job)))
    → shard_of d copy.mailbox < length before → length after ≡ length before → slot ≡ Some verdict
    → MatchOption slot (after ≡ slice_set before (shard_of d copy.mailbox) (slice_index_or before (shard_of d copy.mailbox) [] ++ Item p copy ∷ []))
    (λ v. (after ≡ before) × IsAtOnce (FilledAlone (room_at rooms (shard_of d copy.mailbox)) p (slice_index_or before (shard_of d copy.mailbox) [])) v)
    → WasJudged d rooms p copy verdict heard before after
judged_at_once d rooms p copy slot verdict heard before after within len is put_or_full = record {
  at_once = Some verdict;
  within = within;
  lanes = len;
  put = subst (λ (o : Option Verdict). MatchOption o (after ≡ slice_set before (shard_of d copy.mailbox) (slice_index_or before (shard_of d copy.mailbox) [] ++ Item p copy ∷ []))
      (λ v. (after ≡ before) × IsAtOnce (FilledAlone (room_at rooms (shard_of d copy.mailbox)) p (slice_index_or before (shard_of d copy.mailbox) [])) v)) is put_or_full;
  told = refl;
}

pub judged_later : (d : Directory) (rooms : List Room) (p : ℕ) (copy : Job) (slot : Option Verdict) (r : Result Verdict Torn) (heard : List (Entry Noted)) (before after : List (List (Entry Job)))
    → shard_of d copy.mailbox < length before → length after ≡ length before → slot ≡ None
    → MatchOption slot (after ≡ slice_set before (shard_of d copy.mailbox) (slice_index_or before (shard_of d copy.mailbox) [] ++ Item p copy ∷ []))
    (λ v. (after ≡ before) × IsAtOnce (FilledAlone (room_at rooms (shard_of d copy.mailbox)) p (slice_index_or before (shard_of d copy.mailbox) [])) v)
    → IfOk r (λ v. IsHeard heard (note_of (copy, v)))
    → IfOk r (λ v. WasJudged d rooms p copy v heard before after)
judged_later d rooms p copy slot (Ok verdict) heard before after within len is put_or_full told = record {
  at_once = None;
  within = within;
  lanes = len;
  put = subst (λ (o : Option Verdict). MatchOption o (after ≡ slice_set before (shard_of d copy.mailbox) (slice_index_or before (shard_of d copy.mailbox) [] ++ Item p copy ∷ []))
      (λ v. (after ≡ before) × IsAtOnce (FilledAlone (room_at rooms (shard_of d copy.mailbox)) p (slice_index_or before (shard_of d copy.mailbox) [])) v)) is put_or_full;
  told = told;
}
judged_later d rooms p copy slot (Err e) heard before after within len is put_or_full told = tt
