-- What was put on a lane is one of the copies that were told of.
use Rattle.std.proofs.Common.{◌≡◌, inl, inr, ℕ, List, [], ◌∷◌, ◌++◌, map, Some, ap, subst, Contains}
use Rattle.std.proofs.lemmas.List.Elements.{Contains-append_cases}
use Rattle.delivery_token.specs.declared.Job.{Job}
use Rattle.delivery_token.specs.declared.Verdict.{Verdict}
use Rattle.delivery_token.specs.declared.log.Noted.{Noted}
use Rattle.envelope.specs.Names.{Directory}
use Rattle.lane_work.specs.Account.{Room, WerePut}
use Rattle.lane_work.specs.Account as were
use Rattle.lane_work.specs.Consuming.{item_of, items_of}
use Rattle.shard_queue.specs.declared.lane.Entry.{Entry}
use Rattle.shard_queue.specs.declared.lane.Entry.TheVariants.{Item, End}
use Rattle.running_house.proofs.ListLaws.{contains_cases, contains_none, first_of, later_of, unmapped}
use Rattle.laws_relay.proofs.Positions.{at_contains, contains_at, none_at, same_some, unmade_at}
use Rattle.running_house.proofs.LogLaws.{only_end}

-- an item that was taken was put by somebody
item_is : (e : Entry Job) (copy : Job) → item_of e ≡ Some copy → (p : ℕ) × (e ≡ Item p copy)
item_is (Item p x) copy h = (p, ap (Item p) (same_some h))
item_is (End p) copy h = absurd (none_at h)

pub item_put : (entries : List (Entry Job)) (copy : Job) → Contains (items_of entries) copy → (p : ℕ) × Contains entries (Item p copy)
item_put entries copy c =
    let at = contains_at (items_of entries) copy c in
    let x = unmade_at item_of entries at.0 copy at.1 in
    let is = item_is x.0 copy x.3 in
    (is.0, subst (Contains entries) is.1 (at_contains entries x.1 x.0 x.2))

-- which copies were put
put_told : (d : Directory) (room : Room) (seat lane : ℕ) (heard : List (Entry Noted)) {before jobs : List Job} {ts : List (Job × Verdict)} → WerePut d room seat lane heard before ts jobs
    → (copy : Job) → Contains jobs copy → (verdict : Verdict) × Contains ts (copy, verdict)
put_told d room seat lane heard were.none copy c = absurd (contains_none c)
put_told d room seat lane heard (were.put {jobs = js} {told = ts} job verdict here was others) copy c = elim (contains_cases copy job js c) [
  | inl e ↦ (verdict, subst (λ (x : Job). Contains ((job, verdict) ∷ ts) (x, verdict)) e (first_of (job, verdict) ts))
  | inr h ↦ (let r = put_told d room seat lane heard others copy h in (r.0, later_of (copy, r.0) (job, verdict) ts r.1))
]
put_told d room seat lane heard (were.elsewhere {told = ts} job verdict there others) copy c =
    let r = put_told d room seat lane heard others copy c in (r.0, later_of (copy, r.0) (job, verdict) ts r.1)
put_told d room seat lane heard (were.refused {told = ts} job verdict here why others) copy c =
    let r = put_told d room seat lane heard others copy c in (r.0, later_of (copy, r.0) (job, verdict) ts r.1)

-- of a list that is these copies and then the end
pub put_one_told : (d : Directory) (room : Room) (seat lane : ℕ) (heard : List (Entry Noted)) (jobs : List Job) (ts : List (Job × Verdict)) (entries : List (Entry Job))
    → WerePut d room seat lane heard [] ts jobs
    → entries ≡ map (λ (job : Job). Item seat job) jobs ++ End seat ∷ [] → (p : ℕ) (copy : Job) → Contains entries (Item p copy) → (verdict : Verdict) × Contains ts (copy, verdict)
put_one_told d room seat lane heard jobs ts entries were_put is p copy there =
    elim (Contains-append_cases (map (λ (job : Job). Item seat job) jobs) (End seat ∷ []) (Item p copy) (subst (λ (es : List (Entry Job)). Contains es (Item p copy)) is there)) [
      | inr c ↦ absurd (only_end seat p copy c)
      | inl c ↦ (
          let j = unmapped (λ (job : Job). Item seat job) jobs (Item p copy) c in
          let e : ◌≡◌ {A = Entry Job} (Item seat j.0) (Item p copy) = j.2 in
          let same : j.0 ≡ copy = cc in
          put_told d room seat lane heard were_put copy (subst (Contains jobs) same j.1)
          )
    ]
