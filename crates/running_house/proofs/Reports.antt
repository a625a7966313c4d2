-- A report of what the threads left, when all queues were closed and the lists agree.
use Rattle.std.proofs.Common.{◌≡◌, ◌<◌, ◌+◌, ◌==◌, ◌∙◌, ℕ, zero, suc, Bool, List, [], ◌∷◌, All, Some, Vec, take, drop, length, map, slice_get, slice_index_or, sym, ap, subst, arith}
use Rattle.std.specs.Global.{Global}
use Rattle.std.proofs.lemmas.List.{length-map, length-take-le}
use Rattle.std.proofs.lemmas.List.Elements.{All-weaker, All-cons, All-head, All-nil, All-tail}
use Rattle.running_house.specs.Lists.{ListsAgree}
use Rattle.running_house.specs.Walk.{ListsMet}
use Rattle.envelope.specs.Names.{Directory, shard_of}
use Rattle.lane_work.specs.Answering.{WereAnswered}
use Rattle.shard_queue.specs.declared.lane.Entry.TheVariants.{End}
use Rattle.shard_queue.specs.declared.lane.Entry.{Entry}
use Rattle.delivery_token.specs.declared.Job.{Job}
use Rattle.delivery_token.specs.declared.log.Noted.{Noted}
use Rattle.shard_queue.specs.Closing.{IsWhole}
use Rattle.shard_queue.specs.Lane.{of}
use Rattle.shard_queue.specs.Reply.{reply_history}
use Rattle.shard_queue.specs.Permits.{ShardQueue, capacity_of, history, numbers, producers_of}
use Rattle.lane_work.specs.Account.{Account}
use Rattle.lane_work.specs.Awaiting.{copies_in, verdicts_in}
use Rattle.lane_work.specs.Consuming.{items_of}
use Rattle.lane_work.specs.Speaking.{premises_of}
use Rattle.lane_work.specs.declared.consumer.Consumed.{Consumed}
use Rattle.lane_work.specs.declared.worker.Worked.{Worked}
use Rattle.lane_work.proofs.CloseLaws as lanes
use Rattle.house_shared.specs.Crew.{AllAt}
use Rattle.house_shared.specs.declared.shared.HouseShared.{HouseShared}
use Rattle.house_shared.specs.declared.shared.Guest.{Guest}
use Rattle.house_shared.specs.Left.{IsServiceOf}
use Rattle.running_house.specs.Produced.{IsProduceOf, SessionAccount}
use Rattle.reckoning.specs.Balancing.{IsBalanced}
use Rattle.reckoning.specs.declared.balancing.Books.{Books}
use Rattle.house_history.specs.Legal.{Legal}
use Rattle.lane_work.specs.Backing.{IsBacked}
use Rattle.house_history.specs.Events.{accepted_in}
use Rattle.reckoning.specs.Histories.{IsKnownIn}
use Rattle.reckoning.specs.Shelves.{HasAccepted}
use Rattle.reckoning.proofs.Histories.{accepted_at}
use Rattle.running_house.proofs.Accounts.{account_of, backed_by, only_of, session_account_of, seats_of}
use Rattle.reckoning.proofs.Accounts.{all_taken, answers_of, mapped_at}
use Rattle.reckoning.proofs.Parts.{some_at}
use Rattle.running_house.specs.Agree as report
use Rattle.running_house.specs.Agree.{Agrees, IsEmptied, WasAnswered}
use Rattle.running_house.specs.Order.{AreInLaneOrder}
use Rattle.running_house.specs.inner.Agree.{AreTexts, IsHouseSharedFor, IsNumbered}
use Rattle.running_house.specs.Plan.{connections_of, premises_for, producers_in}
use Rattle.running_house.specs.Refusals.{MayCome}
use Rattle.running_house.specs.declared.plan.Plan.{Plan}
use Rattle.running_house.specs.Report.{Report}
use Rattle.running_house.proofs.Ordered.{in_lane_order, numbered_from, told_once}
use Rattle.running_house.proofs.Moves.{behind, below, first_at, get_mapped, map_twice, mapped_take, moved, text_at}

-- nothing waits, so however much room there is will do
all_emptied : {A T : Type 0} (f : A → List (Entry T)) (producers room : ℕ) (cs : List A) → All (λ c. IsWhole producers room (f c)) cs → All (λ c. IsEmptied producers (f c)) cs
all_emptied {A} f producers room [] all = All-nil (λ (c : A). IsEmptied producers (f c))
all_emptied {A} f producers room (c ∷ cs) all =
    let one = All-head (λ (d : A). IsWhole producers room (f d)) c cs all in
    All-cons (λ (d : A). IsEmptied producers (f d)) c cs
    (record { merge = record { each = one.merge.each; known = one.merge.known; within = omega arith; legal = one.merge.legal }; closed = one.closed })
    (all_emptied f producers room cs (All-tail (λ (d : A). IsWhole producers room (f d)) c cs all))

-- what holds of each list of notes holds of the one at a position, and of none behind the last
pub all_noted : {A : Type 0} (notes : A → List Noted) (P : Noted → Type 0) (logs : List A) (p : ℕ) → All (λ log. All P (notes log)) logs → All P (slice_index_or (map notes logs) p [])
all_noted {A} notes P [] p all = All-nil P
all_noted {A} notes P (log ∷ logs) zero all = All-head (λ (l : A). All P (notes l)) log logs all
all_noted {A} notes P (log ∷ logs) (suc p) all = all_noted notes P logs p (All-tail (λ (l : A). All P (notes l)) log logs all)

module _ {B : Type 0} (plan : Plan) (shared : HouseShared B) (is : IsHouseSharedFor plan shared) (ws : List (Worked B)) (cs : List (Consumed B))
    (worked : AllAt (IsProduceOf shared plan.workers.items plan.sessions.items) 0 ws) (services : AllAt (IsServiceOf shared) 0 cs)
    (producers : length ws ≡ producers_in plan) (shards : length cs ≡ length shared.intake.lanes.items)
    (books : Books B) (balanced : IsBalanced shared.intake.lanes.items shared.delivery.channels.items ws cs books)
    (r : Report) (replies_are : r.replies.items ≡ take (length plan.workers.items) books.replies.items) (logs_are : r.logs ≡ books.logs) (lanes_are : r.closed.lanes ≡ books.closed.lanes) (channels_are : r.closed.channels ≡ books.closed.channels)
    (texts : AreTexts (drop (length plan.workers.items) books.replies.items) r.sessions.items) (count : length r.sessions.items ≡ length plan.sessions.items) where
  pub connections_count : length (connections_of plan) ≡ length plan.workers.items
  connections_count = length-map plan.workers.items (λ w. map (λ b. b.items) w.items)

  abbrev all_replies : List (List (List ℕ))
  all_replies = map (λ (w : Worked B). map (λ b. b.items) w.replies.items) ws

  replies_laid : map (λ (w : Vec (Vec ℕ Global) Global). map (λ b. b.items) w.items) books.replies.items ≡ all_replies
  replies_laid = ap (λ vs. map (λ (w : Vec (Vec ℕ Global) Global). map (λ b. b.items) w.items) vs) balanced.replies
      ∙ map_twice (λ (w : Vec (Vec ℕ Global) Global). map (λ b. b.items) w.items) (λ (w : Worked B). w.replies) ws

  pub replies_same : report.replies_of r ≡ take (length plan.workers.items) all_replies
  replies_same = ap (λ vs. map (λ (w : Vec (Vec ℕ Global) Global). map (λ b. b.items) w.items) vs) replies_are
      ∙ mapped_take (λ (w : Vec (Vec ℕ Global) Global). map (λ b. b.items) w.items) (length plan.workers.items) books.replies.items
      ∙ ap (λ vs. take (length plan.workers.items) vs) replies_laid

  pub notes_same : map (λ (w : Worked B). w.log.notes) ws ≡ report.notes_of r
  notes_same = sym (ap (λ v. map (λ l. l.notes) v.items) logs_are ∙ ap (λ ls. map (λ l. l.notes) ls) balanced.logs ∙ map_twice (λ l. l.notes) (λ (w : Worked B). w.log) ws)

  pub answers_same : map reply_history books.closed.channels.items ≡ report.answers r
  answers_same = sym (ap (λ c. map reply_history c.items) channels_are)

  pub histories_same : map history books.closed.lanes.items ≡ report.histories r
  histories_same = sym (ap (λ c. map history c.items) lanes_are)

  pub accounts : (p : ℕ) → p < length (connections_of plan)
      → Account (premises_for plan) p (slice_index_or (connections_of plan) p []) (slice_index_or (report.replies_of r) p []) (slice_index_or (report.notes_of r) p [])
      (slice_index_or (report.answers r) p []) (map (of p) (report.histories r))
  accounts p under =
      let within : p < length plan.workers.items = omega (arith, under, connections_count) in
      let here : slice_index_or all_replies p [] ≡ slice_index_or (report.replies_of r) p [] =
      sym (ap (λ (l : List (List (List ℕ))). slice_index_or l p []) replies_same ∙ first_at all_replies (length plan.workers.items) p [] within) in
      moved (λ house replies notes answers histories. Account house p (slice_index_or (connections_of plan) p []) replies notes answers histories) p
      (premises_of shared.intake) (premises_for plan) _ (slice_index_or (report.replies_of r) p []) _ (report.notes_of r) _ (report.answers r) _ (report.histories r)
      is.premises here notes_same answers_same histories_same
      (account_of shared plan.workers.items plan.sessions.items ws worked producers balanced.fates _ books.closed.lanes.items balanced.lanes_closed _ books.closed.channels.items balanced.channels_closed p within)

  pub sessions : (n : ℕ) (guest : Guest) → slice_get plan.sessions.items n ≡ Some guest
      → SessionAccount (premises_for plan) (length (premises_for plan).directory.homes) plan.turns (length plan.workers.items + n) guest (slice_index_or (report.said_of r) n [] ∷ [])
      (slice_index_or (report.notes_of r) (length plan.workers.items + n) []) (slice_index_or (report.answers r) (length plan.workers.items + n) []) (map (of (length plan.workers.items + n)) (report.histories r))
  sessions n guest at =
      let p = length plan.workers.items + n in
      let notes = slice_index_or (map (λ (w : Worked B). w.log.notes) ws) p [] in
      let heard = slice_index_or (map reply_history books.closed.channels.items) p [] in
      let taken = map (of p) (map history books.closed.lanes.items) in
      let under = below plan.sessions.items n guest at in
      let account = session_account_of shared plan.workers.items plan.sessions.items ws worked producers balanced.fates _ books.closed.lanes.items balanced.lanes_closed _ books.closed.channels.items balanced.channels_closed n guest at under in
      let w = some_at ws p (omega (arith, under, producers)) in
      let laid = ap (λ vs. slice_get vs p) balanced.replies ∙ get_mapped (λ (v : Worked B). v.replies) ws p w.0 w.1 in
      let one = sym (mapped_at (λ (v : Worked B). map (λ b. b.items) v.replies.items) ws p w.0 [] w.1) ∙ account.alone in
      let text = text_at (drop (length plan.workers.items) books.replies.items) r.sessions.items n w.0.replies account.text texts (behind books.replies.items (length plan.workers.items) n w.0.replies laid) one in
      let said : slice_index_or all_replies p [] ≡ slice_index_or (report.said_of r) n [] ∷ [] = account.alone ∙ ap (λ (t : List ℕ). t ∷ []) (sym text) in
      moved (λ house replies notes answers histories. SessionAccount house (length (premises_for plan).directory.homes) plan.turns p guest replies notes answers histories) p
      (premises_of shared.intake) (premises_for plan) (slice_index_or all_replies p []) (slice_index_or (report.said_of r) n [] ∷ []) _ (report.notes_of r) _ (report.answers r) _ (report.histories r)
      is.premises said notes_same answers_same histories_same
      (subst (λ x. SessionAccount (premises_of shared.intake) (length (premises_for plan).directory.homes) x p guest (slice_index_or all_replies p []) notes heard taken) is.turns
      (subst (λ x. SessionAccount (premises_of shared.intake) x shared.turns p guest (slice_index_or all_replies p []) notes heard taken) is.mailboxes account))

  pub taken_same : map (λ t. t.items) books.taken.items ≡ report.histories r
  taken_same = ap (λ vs. map (λ v. v.items) vs) balanced.taken ∙ map_twice (λ v. v.items) (λ (c : Consumed B). c.taken) cs
      ∙ all_taken shared cs books.closed.lanes.items _ services shards balanced.services balanced.lanes_closed ∙ histories_same

  pub copies_same : map (λ t. items_of t.items) books.taken.items ≡ report.copies_taken r
  copies_same = sym (map_twice items_of (λ t. t.items) books.taken.items) ∙ ap (λ hs. map items_of hs) taken_same

  pub seats_are : map (λ l. l.seat) r.logs.items ≡ numbers 0 (producers_in plan)
  seats_are = ap (λ v. map (λ l. l.seat) v.items) logs_are ∙ ap (λ ls. map (λ l. l.seat) ls) balanced.logs ∙ map_twice (λ l. l.seat) (λ (w : Worked B). w.log) ws
      ∙ seats_of shared plan.workers.items plan.sessions.items 0 ws worked ∙ ap (λ n. numbers 0 n) producers

  replies_count : length (report.replies_of r) ≡ length (connections_of plan)
  replies_count =
      let l = length-map ws (λ (w : Worked B). map (λ b. b.items) w.replies.items) in
      ap length replies_same ∙ length-take-le (length plan.workers.items) all_replies (omega (arith, l, producers)) ∙ sym connections_count

  shards_are : plan.config.shards ≡ length shared.intake.lanes.items
  shards_are = sym (sym is.house.shards ∙ ap (λ h. h.directory.shards) is.premises)

  pub answered : (s p : ℕ) → s < plan.config.shards → p < producers_in plan
      → WasAnswered (length (premises_for plan).directory.homes) s p (slice_index_or (report.histories r) s []) (slice_index_or (report.answers r) p [])
  answered s p shard seat =
      let channels_are = is.house.channels in
      let a = answers_of shared cs books.closed.lanes.items _ books.closed.channels.items _ services shards balanced.lanes_closed balanced.channels_closed s p (omega (arith, shard, shards_are)) (omega (arith, seat, channels_are)) in
      record {
        told = a.0;
        each = subst (λ (n : ℕ). WereAnswered n s p (slice_index_or (report.histories r) s []) a.0) is.mailboxes
            (subst (λ (hs : List (List (Entry Job))). WereAnswered (length shared.delivery.mailboxes.items) s p (slice_index_or hs s []) a.0) histories_same a.1);
        ended = ap (λ (xs : List (List (Entry Noted))). of s (slice_index_or xs p [])) (sym answers_same) ∙ a.2;
      }

  pub only : (p : ℕ) → p < producers_in plan → verdicts_in (slice_index_or (report.answers r) p []) ≡ copies_in (map (of p) (report.histories r))
  only p under =
      ap (λ (xs : List (List (Entry Noted))). verdicts_in (slice_index_or xs p [])) (sym answers_same)
      ∙ only_of shared plan.workers.items plan.sessions.items ws worked producers balanced.fates _ books.closed.lanes.items balanced.lanes_closed _ books.closed.channels.items balanced.channels_closed p under
      ∙ ap (λ (hs : List (List (Entry Job))). copies_in (map (of p) hs)) histories_same

  pub in_order : (whole : Bool) → ListsMet shared.intake.directory whole (report.notes_of r) (map (λ t. items_of t.items) books.taken.items) (report.accepted_of r) (report.texts_of r)
      → (m : ℕ) → m < length (premises_for plan).directory.homes
      → AreInLaneOrder m (slice_index_or (report.texts_of r) m []) (slice_index_or (report.accepted_of r) m []) (slice_index_or (report.copies_taken r) (shard_of (premises_for plan).directory m) [])
  in_order whole met m under =
      let same : shared.intake.directory ≡ (premises_for plan).directory = ap (λ h. h.directory) is.premises in
      let here = (subst (λ (d : Directory). ListsMet d whole (report.notes_of r) (map (λ t. items_of t.items) books.taken.items) (report.accepted_of r) (report.texts_of r)) same met).mailbox m under in
      subst (λ (copies : List (List Job)). AreInLaneOrder m (slice_index_or (report.texts_of r) m []) (slice_index_or (report.accepted_of r) m []) (slice_index_or copies (shard_of (premises_for plan).directory m) [])) copies_same
      (in_lane_order m (slice_index_or (report.texts_of r) m []) (slice_index_or (report.accepted_of r) m []) (slice_index_or (map (λ t. items_of t.items) books.taken.items) (shard_of (premises_for plan).directory m) []) here.met)

  logs_count : length r.logs.items ≡ producers_in plan
  logs_count = ap (λ v. length v.items) logs_are ∙ ap length balanced.logs ∙ length-map ws (λ (w : Worked B). w.log) ∙ producers

  pub refusals : All (λ log. All (MayCome plan.config shared.intake.directory (report.accepted_of r) (map (λ t. t.items) books.taken.items)) log.notes) r.logs.items
      → (p : ℕ) → p < producers_in plan
      → All (MayCome plan.config (premises_for plan).directory (report.accepted_of r) (report.histories r)) (slice_index_or (report.notes_of r) p [])
  refusals all p under =
      let same : shared.intake.directory ≡ (premises_for plan).directory = ap (λ h. h.directory) is.premises in
      let here = all_noted (λ l. l.notes) (MayCome plan.config shared.intake.directory (report.accepted_of r) (map (λ t. t.items) books.taken.items)) r.logs.items p all in
      subst (λ (d : Directory). All (MayCome plan.config d (report.accepted_of r) (report.histories r)) (slice_index_or (report.notes_of r) p [])) same
      (subst (λ (taken : List (List (Entry Job))). All (MayCome plan.config shared.intake.directory (report.accepted_of r) taken) (slice_index_or (report.notes_of r) p [])) taken_same here)

  pub backed : All (IsKnownIn r.history) ws → Legal r.history → (p : ℕ) → p < producers_in plan → IsBacked p r.history (slice_index_or (report.answers r) p []) (map (of p) (report.histories r))
  backed known legal p under =
      subst (λ (hs : List (List (Entry Job))). IsBacked p r.history (slice_index_or (report.answers r) p []) (map (of p) hs)) histories_same
      (subst (λ (xs : List (List (Entry Noted))). IsBacked p r.history (slice_index_or xs p []) (map (of p) (map history books.closed.lanes.items))) answers_same
      (backed_by shared plan.workers.items plan.sessions.items ws worked producers balanced.fates _ books.closed.lanes.items balanced.lanes_closed _ books.closed.channels.items balanced.channels_closed r.history known legal p under))

  pub agrees : (whole : Bool) → whole ≡ (length plan.sessions.items == 0)
      → ListsAgree shared.intake.directory whole (report.notes_of r) (map (λ t. items_of t.items) books.taken.items) (report.accepted_of r) (report.texts_of r)
      → ListsMet shared.intake.directory whole (report.notes_of r) (map (λ t. items_of t.items) books.taken.items) (report.accepted_of r) (report.texts_of r)
      → IsNumbered plan.config.first_uid r
      → All (λ log. All (MayCome plan.config shared.intake.directory (report.accepted_of r) (map (λ t. t.items) books.taken.items)) log.notes) r.logs.items
      → All (IsKnownIn r.history) ws → Legal r.history → AllAt (HasAccepted r.history) 0 r.accepted.items → Agrees plan r
  agrees whole all lists met numbered founded known legal accepted = record {
    accounts = accounts;
    sessions = sessions;
    lists = subst (λ x. ListsAgree x.directory (length plan.sessions.items == 0) (report.notes_of r) (report.copies_taken r) (report.accepted_of r) (report.texts_of r)) is.premises
        (subst (λ x. ListsAgree shared.intake.directory (length plan.sessions.items == 0) (report.notes_of r) x (report.accepted_of r) (report.texts_of r)) copies_same
        (subst (λ x. ListsAgree shared.intake.directory x (report.notes_of r) (map (λ t. items_of t.items) books.taken.items) (report.accepted_of r) (report.texts_of r)) all lists));
    answered = answered;
    only = only;
    uids = λ m under. numbered_from plan.config.first_uid r.accepted.items numbered.accepted numbered.begins m;
    once = λ m under. told_once r.texts.items numbered.once m;
    in_order = in_order whole met;
    refusals = refusals founded;
    legal = legal;
    backed = backed known legal;
    mailboxes = λ m under.
        let same : shared.intake.directory ≡ (premises_for plan).directory = ap (λ h. h.directory) is.premises in
        let many = (subst (λ (d : Directory). length (report.accepted_of r) ≡ length d.homes) same lists.mailboxes.0) in
        let mapped = length-map r.accepted.items (λ v. v.items) in
        let none : 0 + m ≡ m = omega arith in
        accepted_at r.history 0 r.accepted.items accepted m (omega (arith, under, many, mapped)) ∙ ap (λ k. accepted_in k r.history) none;
    seats = seats_are;
    replies = replies_count;
    said = count;
    shards = sym (ap length histories_same) ∙ length-map books.closed.lanes.items history ∙ lanes.closed_length balanced.lanes_closed.2 ∙ sym is.house.shards ∙ ap (λ h. h.directory.shards) is.premises;
    lanes = subst (λ c. All (λ d. IsEmptied (producers_in plan) (history d)) c.items) (sym lanes_are)
        (all_emptied history (producers_in plan) plan.config.depth books.closed.lanes.items (lanes.all_whole balanced.lanes_closed.2 (producers_in plan) plan.config.depth
        (All-weaker (λ (q : ShardQueue Job). (capacity_of q ≡ plan.config.depth) × (producers_of q ≡ producers_in plan)) (λ q. q.producers ≡ producers_in plan) (λ q h. h.1) shared.intake.lanes.items is.lanes)));
    producers = ap (λ c. length c.items) channels_are ∙ lanes.closed_length balanced.channels_closed.2 ∙ is.house.channels;
    channels = subst (λ c. All (λ d. IsEmptied plan.config.shards (reply_history d)) c.items) (sym channels_are)
        (lanes.all_whole balanced.channels_closed.2 plan.config.shards 0 is.channels);
  }
