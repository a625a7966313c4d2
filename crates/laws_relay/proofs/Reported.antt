-- A report that agrees says of each worker what its account beside the lists comes to.
use Rattle.std.proofs.Common.{◌≡◌, inl, inr, ℕ, zero, suc, ◌+◌, ◌-◌, ◌<◌, ◌==◌, List, [], ◌∷◌, length, map, Option, None, Some, refl, ap, sym, subst, ◌∙◌, Contains, arith}
use Rattle.std.specs.Prelude.{◌≤◌, Result, Ok, Err, slice_index_or}
use Rattle.std.specs.List.{range_with_len}
use Rattle.std.specs.List.Sorted.{IsStrictlyIncreasing}
use Rattle.std.proofs.lemmas.List.FromFn.{get_or-range_with_len, length-range_with_len}
use Rattle.std.proofs.lemmas.Bool.Decides.{Decides-eqb}
use Rattle.std.proofs.lemmas.List.{length-map}
use Rattle.std.proofs.lemmas.List.Elements.{All-contains}
use Rattle.workers_sync.specs.Carried.{Carried, judged_of}
use Rattle.delivery_token.specs.declared.CopyKey.{CopyKey}
use Rattle.delivery_token.specs.declared.Job.{Job}
use Rattle.delivery_token.specs.declared.Verdict.{Verdict}
use Rattle.envelope.specs.Names.{Home, words_read}
use Rattle.envelope.specs.declared.directory.DirectoryFault.{DirectoryFault}
use Rattle.shard_queue.specs.declared.lane.Entry.TheVariants.{Item}
use Rattle.shard_queue.specs.Lane.{of}
use Rattle.running_house.proofs.ListLaws.{unmapped}
use Rattle.running_house.specs.Lists.{AreTold}
use Rattle.settings.specs.Settings.{config_fault, fault_named, fault_of_numbers, names_first, words_of}
use Rattle.settings.specs.declared.config.Config.{Config}
use Rattle.settings.specs.declared.config.ConfigFault.{ConfigFault}
use Rattle.lane_work.specs.Account.{room_at}
use Rattle.lane_work.specs.Consuming.{items_of}
use Rattle.reckoning.proofs.Parts.{some_at}
use Rattle.laws_relay.specs.Handed.{IsInLine}
use Rattle.running_house.specs.Agree.{Agrees, accepted_of, answers, copies_taken, histories, notes_of, replies_of, texts_of}
use Rattle.running_house.specs.Plan.{after_settings, connections_of, plan_fault, premises_for, producers_in}
use Rattle.running_house.specs.Tells.{AccountsAreOfLines, TakenIsAProducers}
use Rattle.running_house.specs.declared.plan.Plan.{Plan}
use Rattle.running_house.specs.Report.{Report}
use Rattle.running_house.proofs.TellLaws.{less_or_not, so_many}
use Rattle.laws_relay.specs.AccountLaws.{AccountsConclude, AccountsKeepClosed, DoUidsRise, TakenIsItsOwn}
use Rattle.laws_relay.specs.Reports.{ReportsConclude}
use Rattle.laws_relay.proofs.Hosts.{host_in_line}
use Rattle.laws_relay.proofs.Ledger.{copied_seat}
use Rattle.laws_relay.proofs.AccountJoined.{in_some}
use Rattle.laws_relay.proofs.Put.{item_put, put_one_told}

-- ---- the host's name

settings_right : (plan : Plan) (fault : Option ConfigFault) → after_settings plan fault ≡ None → fault ≡ None
settings_right plan None e = refl
settings_right plan (Some fault) e = absurd (let k : ◌≡◌ {A = Option ConfigFault} (Some fault) None = e in cc)

words_right : (read : Result (List Home) DirectoryFault) (later : Option ConfigFault) → names_first read later ≡ None → (homes : List Home) × (read ≡ Ok homes)
words_right (Ok homes) later e = (homes, refl)
words_right (Err fault) later e = absurd (let k : ◌≡◌ {A = Option ConfigFault} (Some (fault_named fault)) None = e in cc)

pub plan_host : (plan : Plan) → plan_fault plan ≡ None → IsInLine (premises_for plan).host
plan_host plan right =
    let c : Config = plan.config in
    let r = words_right (words_read (c.host.items ∷ c.domain.items ∷ []) (words_of c)) (fault_of_numbers c) (settings_right plan (config_fault c) right) in
    host_in_line c.host.items (c.domain.items ∷ []) (words_of c) r.0 r.1

-- ---- logs

pub logs_are : (plan : Plan) (r : Report) → Agrees plan r → length (notes_of r) ≡ producers_in plan
logs_are plan r agrees =
    length-map r.logs.items (λ l. l.notes) ∙ sym (length-map r.logs.items (λ l. l.seat)) ∙ ap length agrees.seats ∙ so_many 0 (producers_in plan)

pub workers_are : (plan : Plan) → length (connections_of plan) ≡ length plan.workers.items
workers_are plan = length-map plan.workers.items (λ w. map (λ b. b.items) w.items)

-- ---- whose a copy is that was taken

at_list : {A B : Type 0} (f : List A → List B) (xs : List (List A)) (k : ℕ) → f [] ≡ [] → slice_index_or (map f xs) k [] ≡ f (slice_index_or xs k [])
at_list f [] k e = sym e
at_list f (x ∷ xs) zero e = refl
at_list f (x ∷ xs) (suc k) e = at_list f xs k e

-- the keys of what a session's client appended have its seat
carried_seat : (seat : ℕ) (carried : List Carried) (copy : Job) (verdict : Verdict) → Contains (map (judged_of seat 0) carried) (copy, verdict) → copy.key.seat ≡ seat
carried_seat seat carried copy verdict c = let m = unmapped (judged_of seat 0) carried (copy, verdict) c in sym (ap (λ (t : Job × Verdict). t.0.key.seat) m.2)

-- a copy that was taken of a producer has its seat
taken_seat : (accounts : AccountsAreOfLines) (plan : Plan) (r : Report) → Agrees plan r → (lane p : ℕ) (copy : Job) → p < producers_in plan
    → Contains (slice_index_or (map (of p) (histories r)) lane []) (Item p copy) → copy.key.seat ≡ p
taken_seat accounts plan r agrees lane p copy under there = elim (less_or_not p (length plan.workers.items)) [
  | inl worker ↦ (
      let many = workers_are plan in
      let a = accounts plan r agrees p (omega (arith, worker, many)) in
      let was = (a.put lane p copy (in_some (map (of p) (histories r)) lane (Item p copy) there) there).1 in
      copied_seat (premises_for plan) p (slice_index_or (connections_of plan) p []) (slice_index_or (replies_of r) p []) a.judged (slice_index_or (notes_of r) p []) a.dialogues a.verdicts was.message copy was.there was.among
      )
  | inr session ↦ (
      let n : ℕ = p - length plan.workers.items in
      let e : length plan.workers.items + n ≡ p = omega (arith, session) in
      let guest = some_at plan.sessions.items n (omega (arith, session, under)) in
      let a = agrees.sessions n guest.0 guest.1 in
      let i : ℕ = length plan.workers.items + n in
      let here : Contains (slice_index_or (map (of i) (histories r)) lane []) (Item p copy) =
      subst (λ (x : ℕ). Contains (slice_index_or (map (of x) (histories r)) lane []) (Item p copy)) (sym e) there in
      let on = a.copies.lanes lane (in_some (map (of i) (histories r)) lane (Item p copy) here) in
      let t = put_one_told (premises_for plan).directory (room_at (premises_for plan).rooms lane) i lane (slice_index_or (answers r) i []) on.0 (map (judged_of i 0) a.carried)
      (slice_index_or (map (of i) (histories r)) lane []) on.1 on.2 p copy here in
      carried_seat i a.carried copy t.0 t.1 ∙ e
      )
]

pub taken_is_its_own : (accounts : AccountsAreOfLines) (taken : TakenIsAProducers) (plan : Plan) (r : Report) → Agrees plan r → (w : ℕ)
    → TakenIsItsOwn w (copies_taken r) (map (of w) (histories r))
taken_is_its_own accounts taken plan r agrees w lane copy there seat =
    let here : Contains (items_of (slice_index_or (histories r) lane [])) copy = subst (λ (js : List Job). Contains js copy) (at_list items_of (histories r) lane refl) there in
    let p = item_put (slice_index_or (histories r) lane []) copy here in
    let own = taken plan r agrees lane p.0 copy (in_some (histories r) lane (Item p.0 copy) p.1) p.1 in
    let same : p.0 ≡ w = sym (taken_seat accounts plan r agrees lane p.0 copy own.0 own.1) ∙ seat in
    subst (λ (x : ℕ). Contains (slice_index_or (map (of x) (histories r)) lane []) (Item x copy)) same own.1

-- ---- UIDs

range_rises : (first n : ℕ) → IsStrictlyIncreasing (range_with_len first n)
range_rises first n k under =
    let l = length-range_with_len first n in
    let here = get_or-range_with_len first n k 0 (omega (arith, under, l)) in
    let next = get_or-range_with_len first n (k + 1) 0 (omega (arith, under, l)) in
    omega (arith, here, next)

past_all : (xs : List (List (CopyKey × ℕ))) (m : ℕ) → length xs ≤ m → slice_index_or xs m [] ≡ []
past_all [] m beyond = refl
past_all (x ∷ xs) zero beyond = absurd (omega (arith, beyond))
past_all (x ∷ xs) (suc m) beyond = past_all xs m (omega (arith, beyond))

-- what each mailbox accepted has rising UIDs, and where there is no mailbox nothing was accepted
uids_rise : (plan : Plan) (r : Report) → Agrees plan r → DoUidsRise (accepted_of r)
uids_rise plan r agrees m = elim (less_or_not m (length (premises_for plan).directory.homes)) [
  | inl there ↦ subst IsStrictlyIncreasing (sym (agrees.uids m there)) (range_rises plan.config.first_uid (length (slice_index_or (accepted_of r) m [])))
  | inr beyond ↦ (let many = agrees.lists.mailboxes.0 in
      subst (λ (l : List (CopyKey × ℕ)). IsStrictlyIncreasing (map (λ (pair : CopyKey × ℕ). pair.1) l)) (sym (past_all (accepted_of r) m (omega (arith, beyond, many)))) (range_rises 0 0))
]

-- ---- the report

pub reports_conclude : (concludes : AccountsConclude) (closed : AccountsKeepClosed) (accounts : AccountsAreOfLines) (taken : TakenIsAProducers) → ReportsConclude
reports_conclude concludes closed accounts taken plan r range right agrees =
    let some : 0 < plan.config.shards = (let least = range.shards.0 in omega (arith, least)) in
    let logs = logs_are plan r agrees in
    let many = workers_are plan in
    record {
      workers = λ w under. concludes (premises_for plan) w (slice_index_or (connections_of plan) w []) (slice_index_or (replies_of r) w []) (slice_index_or (answers r) w []) (map (of w) (histories r))
          (length plan.sessions.items == 0) (notes_of r) (copies_taken r) (accepted_of r) (texts_of r)
          (plan_host plan right) (omega (arith, under, logs, many)) (accounts plan r agrees w under) agrees.lists (uids_rise plan r agrees) (taken_is_its_own accounts taken plan r agrees w);
      closed = λ w under. closed (premises_for plan) w (slice_index_or (connections_of plan) w []) (slice_index_or (replies_of r) w []) (slice_index_or (answers r) w []) (map (of w) (histories r))
          (length plan.sessions.items == 0) (notes_of r) (copies_taken r) (accepted_of r) (texts_of r)
          some (omega (arith, under, logs, many)) (accounts plan r agrees w under) agrees.lists;
      nobody_else = λ mailbox uid key there.
          (let boxes = agrees.lists.mailboxes.0 in
          let within = in_some (accepted_of r) mailbox (key, uid) there in
          let told : AreTold (notes_of r) mailbox (slice_index_or (accepted_of r) mailbox []) = (agrees.lists.mailbox mailbox (omega (arith, boxes, within))).told in
          let owned : key.seat < length (notes_of r) =
          All-contains (λ (pair : CopyKey × ℕ). pair.0.seat < length (notes_of r)) (slice_index_or (accepted_of r) mailbox []) (key, uid) told.owned there in
          elim (less_or_not key.seat (length (connections_of plan))) [
            | inl worker ↦ inl worker
            | inr session ↦ inr (key.seat - length plan.workers.items, omega (arith, session, owned, logs, many), omega (arith, session, many))
          ]);
      all_there = λ none mailbox within. (agrees.lists.mailbox mailbox within).each ((Decides-eqb (length plan.sessions.items) 0).1 none);
    }
