-- What a worker says, in the words of the lanes' histories.
use Rattle.std.proofs.Common.{◌≡◌, inl, inr, ℕ, zero, suc, ◌∙◌, ap, refl, sym, subst, List, [], ◌∷◌, map, Contains, arith}
use Rattle.std.proofs.lemmas.List.Elements.{All-contains}
use Rattle.delivery_token.specs.declared.Job.{Job}
use Rattle.delivery_token.specs.declared.Verdict.{Verdict}
use Rattle.delivery_token.specs.declared.Verdict.TheVariants.{Stored, Refused}
use Rattle.delivery_token.specs.declared.Refusal.TheVariants.{Full, NoMemory}
use Rattle.delivery_token.specs.declared.log.Noted.{Noted}
use Rattle.envelope.specs.Names.{Directory, shard_of}
use Rattle.shard_queue.specs.declared.lane.Entry.{Entry}
use Rattle.shard_queue.specs.Permits.{ShardQueue, Ended, ConsumerPermit, Closed, said, history, ended_number}
use Rattle.shard_queue.specs.Lane.{of}
use Rattle.lane_work.specs.Account.{Account, Premises, IsAtOnce, IsHeard, Room, WerePut, note_of, none, put, elsewhere, refused}
use Rattle.lane_work.specs.Histories.{AreHeard}
use Rattle.lane_work.specs.Permits.{AreEnded}
use Rattle.lane_work.specs.LanePermits.{AreClosed}
use Rattle.lane_work.specs.SharedLanes as lanes
use Rattle.lane_work.specs.SharedLanes.{AreIn}

pub said_is_taken : (lanes : List (ShardQueue Job)) (p : ℕ) (es : List (Ended Job)) (gots : List (List (Entry Job))) → AreEnded lanes p es → AreHeard es gots → map said es ≡ map (of p) gots
said_is_taken lanes p [] [] h k = refl
said_is_taken lanes p [] (g ∷ gs) h k = absurd k
said_is_taken lanes p (e ∷ es) [] h k = absurd k
said_is_taken [] p (e ∷ es) (g ∷ gs) h k = absurd h
said_is_taken (q ∷ qs) p (e ∷ es) (g ∷ gs) h k =
    let here : said e ≡ of p g = k.0 ∙ ap (λ n. of n g) h.0.1 in
    let others : map said es ≡ map (of p) gs = said_is_taken qs p es gs h.1 k.1 in
    ap (λ l. l ∷ map said es) here ∙ ap (λ l. of p g ∷ l) others

-- the account that a worker gives is one of the histories
pub account_of_history : (house : Premises) (p : ℕ) (connections replies : List (List ℕ)) (notes : List Noted) (heard_there : List (Entry Noted)) (lanes : List (ShardQueue Job)) (es : List (Ended Job)) (gots : List (List (Entry Job)))
    → AreEnded lanes p es → AreHeard es gots → Account house p connections replies notes heard_there (map said es) → Account house p connections replies notes heard_there (map (of p) gots)
account_of_history house p connections replies notes heard_there lanes es gots ended heard account = subst (Account house p connections replies notes heard_there) (said_is_taken lanes p es gots ended heard) account

later : {A : Type 0} (x y : A) (xs : List A) → Contains xs x → Contains (y ∷ xs) x
later x y xs c = (suc c.0, (let u = c.1 in omega (arith, u)), c.2)

-- a copy that was stored was put on its mailbox's lane, and its verdict was heard
pub stored_was_put : (d : Directory) (room : Room) (seat lane : ℕ) (heard : List (Entry Noted)) {before jobs : List Job} {told : List (Job × Verdict)} → WerePut d room seat lane heard before told jobs → (copy : Job) (uid : ℕ) → shard_of d copy.mailbox ≡ lane
    → Contains told (copy, Stored uid) → Contains jobs copy × IsHeard heard (note_of (copy, Stored uid))
stored_was_put d room seat lane heard none copy uid here (k, under, is) = absurd (omega (arith, under))
stored_was_put d room seat lane heard (put c v its was others) copy uid here (zero, under, is) =
    let e : (c, v) ≡ (copy, Stored uid) = is in ((0, omega arith, ap (λ x. x.0) e), subst (λ (x : Job × Verdict). IsHeard heard (note_of x)) e was)
stored_was_put d room seat lane heard (put {jobs = js} c v its was others) copy uid here (suc k, under, is) =
    let r = stored_was_put d room seat lane heard others copy uid here (k, (let u = under in omega (arith, u)), is) in (later copy c js r.0, r.1)
stored_was_put d room seat lane heard (elsewhere c v there others) copy uid here (zero, under, is) = absurd (there (let e : (c, v) ≡ (copy, Stored uid) = is in ap (λ x. shard_of d x.0.mailbox) e ∙ here))
stored_was_put d room seat lane heard (elsewhere c v there others) copy uid here (suc k, under, is) = stored_was_put d room seat lane heard others copy uid here (k, (let u = under in omega (arith, u)), is)
stored_was_put d room seat lane heard (refused c v its why others) copy uid here (zero, under, is) = absurd (not_at_once (let e : (c, v) ≡ (copy, Stored uid) = is in ap (λ x. x.1) e) why) where
  not_at_once : {u : Verdict} {full : Type 0} → u ≡ Stored uid → IsAtOnce full u → ⊥
  not_at_once e (inl f) = let x : Stored uid ≡ Refused Full = sym e ∙ f.0 in cc
  not_at_once e (inr f) = let x : Stored uid ≡ Refused NoMemory = sym e ∙ f in cc
stored_was_put d room seat lane heard (refused c v its why others) copy uid here (suc k, under, is) = stored_was_put d room seat lane heard others copy uid here (k, (let u = under in omega (arith, u)), is)

-- what each of these ended permits has said is what was taken of it
pub are_heard : {qs : List (ShardQueue Job)} {rs : List (List (Ended Job))} {ss : List (ConsumerPermit Job)} {cs : List (Closed Job)} → AreClosed qs rs ss cs → (es : List (Ended Job)) → AreIn es rs → AreHeard es (map history cs)
are_heard lanes.none [] h = tt
are_heard lanes.none (e ∷ es) h = absurd h
are_heard (lanes.next q r s c is others) [] h = absurd h
are_heard (lanes.next q r s c is others) (e ∷ es) h = (All-contains (λ e. said e ≡ of (ended_number e) (history c)) r e is.each h.0, are_heard others es h.1)
