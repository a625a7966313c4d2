-- A worker's log, beside its lanes.
use Rattle.std.proofs.Common.{◌≡◌, inl, inr, ℕ, ◌<◌, List, [], ◌∷◌, ◌++◌, length, map, slice_index_or, refl, ap, sym, subst, ◌∙◌, Contains, arith}
use Rattle.std.specs.Prelude.{All, AllPairs, flat_map, zip}
use Rattle.std.proofs.lemmas.List.{map-append}
use Rattle.std.proofs.lemmas.List.Elements.{All-head, All-tail, Contains-append_left, Contains-append_cases}
use Rattle.delivery_token.specs.Text.{Text}
use Rattle.delivery_token.specs.declared.CopyKey.{CopyKey}
use Rattle.delivery_token.specs.declared.Job.{Job}
use Rattle.delivery_token.specs.declared.Verdict.{Verdict}
use Rattle.delivery_token.specs.declared.Verdict.TheVariants.{Stored}
use Rattle.delivery_token.specs.declared.log.Noted.{Noted}
use Rattle.delivery_token.specs.Keys.{Precedes}
use Rattle.envelope.specs.Names.{Directory, shard_of}
use Rattle.lane_work.specs.Account.{AreAccountedFor, Premises, IsHeard, Room, WerePut, copies, copies_of, note_of, room_at, told}
use Rattle.lane_work.specs.Account as were
use Rattle.lane_work.specs.Talk.{Judged}
use Rattle.lane_work.proofs.HistoryLaws.{stored_was_put}
use Rattle.shard_queue.specs.declared.lane.Entry.{Entry}
use Rattle.shard_queue.specs.declared.lane.Entry.TheVariants.{Item, End}
use Rattle.running_house.specs.Laws.{AccountIsOfLines, LogHasEachVerdict, PutWasSubmitted, StoredIsOnItsLane}
use Rattle.running_house.specs.Storing.{IsFull, WasPut}
use Rattle.running_house.proofs.Connections.{dialogues, talked}
use Rattle.running_house.proofs.FullLaws.{all_full}
use Rattle.running_house.proofs.KeyLaws.{keys_rise}
use Rattle.running_house.proofs.ListLaws.{contains_cases, contains_none, first_of, later_of, mapped, unflattened, unmapped, zipped}

-- ---- a verdict for each copy

-- what is noted of one message
record Notes (keys : List CopyKey) (mailboxes : List ℕ) (verdicts : List Verdict) (notes : List Noted) : Type 0 where
  their_keys : map (λ (n : Noted). n.key) notes ≡ keys
  their_mailboxes : map (λ (n : Noted). n.mailbox) notes ≡ mailboxes
  their_verdicts : map (λ (n : Noted). n.verdict) notes ≡ verdicts

message_noted : (keys : List CopyKey) (mailboxes : List ℕ) (text : Text) (verdicts : List Verdict) → length mailboxes ≡ length keys → length verdicts ≡ length keys
    → Notes keys mailboxes verdicts (map note_of (zip (copies keys mailboxes text) verdicts))
message_noted [] [] text [] m v = record { their_keys = refl; their_mailboxes = refl; their_verdicts = refl }
message_noted [] (x ∷ xs) text verdicts m v = absurd (omega (arith, m))
message_noted [] [] text (y ∷ ys) m v = absurd (omega (arith, v))
message_noted (k ∷ ks) [] text verdicts m v = absurd (omega (arith, m))
message_noted (k ∷ ks) (x ∷ xs) text [] m v = absurd (omega (arith, v))
message_noted (k ∷ ks) (x ∷ xs) text (y ∷ ys) m v =
    let r = message_noted ks xs text ys (omega (arith, m)) (omega (arith, v)) in
    record {
      their_keys = ap (λ (l : List CopyKey). k ∷ l) r.their_keys;
      their_mailboxes = ap (λ (l : List ℕ). x ∷ l) r.their_mailboxes;
      their_verdicts = ap (λ (l : List Verdict). y ∷ l) r.their_verdicts;
    }

noted_more : {B : Type 0} (f : Noted → B) (one others : List (Job × Verdict)) (firsts rest : List B) → map f (map note_of one) ≡ firsts → map f (map note_of others) ≡ rest
    → map f (map note_of (one ++ others)) ≡ firsts ++ rest
noted_more f one others firsts rest here there =
    ap (map f) (map-append note_of one others) ∙ map-append f (map note_of one) (map note_of others)
    ∙ ap (λ l. l ++ map f (map note_of others)) here ∙ ap (λ l. firsts ++ l) there

all_noted : (judged : List Judged) → All IsFull judged
    → Notes (flat_map (λ (j : Judged). j.message.keys) judged) (flat_map (λ (j : Judged). j.message.mailboxes) judged) (flat_map (λ (j : Judged). j.verdicts) judged) (map note_of (told judged))
all_noted [] full = record { their_keys = refl; their_mailboxes = refl; their_verdicts = refl }
all_noted (j ∷ js) full =
    let h = All-head IsFull j js full in
    let one = message_noted j.message.keys j.message.mailboxes j.message.text j.verdicts h.mailboxes h.verdicts in
    let others = all_noted js (All-tail IsFull j js full) in
    let these : List (Job × Verdict) = zip (copies_of j.message) j.verdicts in
    record {
      their_keys = noted_more (λ (n : Noted). n.key) these (told js) _ _ one.their_keys others.their_keys;
      their_mailboxes = noted_more (λ (n : Noted). n.mailbox) these (told js) _ _ one.their_mailboxes others.their_mailboxes;
      their_verdicts = noted_more (λ (n : Noted). n.verdict) these (told js) _ _ one.their_verdicts others.their_verdicts;
    }

pub log_has_each_verdict : LogHasEachVerdict
log_has_each_verdict house seat connections replies notes heard said account =
    let full = all_full house seat (talked house seat account.talked) in
    let n = all_noted account.judged full in
    let keys : map (λ (x : Noted). x.key) notes ≡ flat_map (λ (j : Judged). j.message.keys) account.judged = ap (map (λ (x : Noted). x.key)) account.noted ∙ n.their_keys in
    record {
      full = full;
      keys = keys;
      mailboxes = ap (map (λ (x : Noted). x.mailbox)) account.noted ∙ n.their_mailboxes;
      verdicts = ap (map (λ (x : Noted). x.verdict)) account.noted ∙ n.their_verdicts;
      rise = subst (AllPairs Precedes) (sym keys) (keys_rise house seat (talked house seat account.talked));
    }

-- ---- what is stored was put

-- of every producer that accounts for its copies
pub stored_is_there : (house : Premises) (seat : ℕ) (copies : List (Job × Verdict)) (notes : List Noted) (heard : List (Entry Noted)) (said : List (List (Entry Job))) → AreAccountedFor house seat copies notes heard said
    → (noted : Noted) (uid lane : ℕ) → Contains notes noted → noted.verdict ≡ Stored uid → shard_of house.directory noted.mailbox ≡ lane → lane < length said
    → WasPut seat (slice_index_or said lane []) heard noted
stored_is_there house seat copies notes heard said account noted uid lane in_log stored shard under =
    let on = account.lanes lane under in
    let t = unmapped note_of copies noted (subst (λ (ns : List Noted). Contains ns noted) account.noted in_log) in
    let copy : Job = t.0.0 in
    let same : note_of t.0 ≡ noted = t.2 in
    let verdict : t.0.1 ≡ Stored uid = ap (λ (n : Noted). n.verdict) same ∙ stored in
    let mailbox : copy.mailbox ≡ noted.mailbox = ap (λ (n : Noted). n.mailbox) same in
    let was : Contains copies (copy, Stored uid) = subst (λ (v : Verdict). Contains copies (copy, v)) verdict t.1 in
    let r = stored_was_put house.directory (room_at house.rooms lane) seat lane heard on.1 copy uid (ap (λ n. shard_of house.directory n) mailbox ∙ shard) was in
    record {
      copy = copy;
      same_key = ap (λ (n : Noted). n.key) same;
      same_mailbox = mailbox;
      there = subst (λ (es : List (Entry Job)). Contains es (Item seat copy)) (sym on.2)
          (Contains-append_left (map (λ (job : Job). Item seat job) on.0) (End seat ∷ []) (Item seat copy) (mapped (λ (job : Job). Item seat job) on.0 copy r.0));
      verdict = subst (IsHeard heard) (ap (λ (v : Verdict). note_of (copy, v)) (sym verdict) ∙ same) r.1;
    }

pub stored_is_on_its_lane : StoredIsOnItsLane
stored_is_on_its_lane house seat connections replies notes heard said account noted uid lane in_log stored shard under =
    stored_is_there house seat (told account.judged) notes heard said (record { noted = account.noted; lanes = account.lanes }) noted uid lane in_log stored shard under

-- ---- what is put was submitted

put_was_told : (d : Directory) (room : Room) (seat lane : ℕ) (heard : List (Entry Noted)) {before jobs : List Job} {ts : List (Job × Verdict)} → WerePut d room seat lane heard before ts jobs
    → (copy : Job) → Contains jobs copy → (verdict : Verdict) × Contains ts (copy, verdict) × IsHeard heard (note_of (copy, verdict)) × (shard_of d copy.mailbox ≡ lane)
put_was_told d room seat lane heard were.none copy c = absurd (contains_none c)
put_was_told d room seat lane heard (were.put {jobs = js} {told = ts} job verdict here was others) copy c = elim (contains_cases copy job js c) [
  | inl e ↦ (
    verdict,
    subst (λ (x : Job). Contains ((job, verdict) ∷ ts) (x, verdict)) e (first_of (job, verdict) ts),
    subst (λ (x : Job). IsHeard heard (note_of (x, verdict))) e was,
    subst (λ (x : Job). shard_of d x.mailbox ≡ lane) e here,
  )
  | inr h ↦ (let r = put_was_told d room seat lane heard others copy h in (r.0, later_of (copy, r.0) (job, verdict) ts r.1, r.2, r.3))
]
put_was_told d room seat lane heard (were.elsewhere {told = ts} job verdict there others) copy c =
    let r = put_was_told d room seat lane heard others copy c in (r.0, later_of (copy, r.0) (job, verdict) ts r.1, r.2, r.3)
put_was_told d room seat lane heard (were.refused {told = ts} job verdict here why others) copy c =
    let r = put_was_told d room seat lane heard others copy c in (r.0, later_of (copy, r.0) (job, verdict) ts r.1, r.2, r.3)

pub only_end : (seat p : ℕ) (copy : Job) → Contains (End seat ∷ []) (Item p copy) → ⊥
only_end seat p copy c = elim (contains_cases (Item p copy) (End seat) [] c) [
  | inl e ↦ (let k : ◌≡◌ {A = Entry Job} (End seat) (Item p copy) = e in cc)
  | inr h ↦ contains_none h
]

pub put_was_submitted : PutWasSubmitted
put_was_submitted house seat connections replies notes heard said account lane p copy under there =
    let on = account.lanes lane under in
    elim (Contains-append_cases (map (λ (job : Job). Item seat job) on.0) (End seat ∷ []) (Item p copy) (subst (λ (es : List (Entry Job)). Contains es (Item p copy)) on.2 there)) [
      | inr c ↦ absurd (only_end seat p copy c)
      | inl c ↦ (
          let j = unmapped (λ (job : Job). Item seat job) on.0 (Item p copy) c in
          let e : ◌≡◌ {A = Entry Job} (Item seat j.0) (Item p copy) = j.2 in
          let same : j.0 ≡ copy = cc in
          let own : p ≡ seat = cc in
          let r = put_was_told house.directory (room_at house.rooms lane) seat lane heard on.1 copy (subst (Contains on.0) same j.1) in
          let m = unflattened (λ (x : Judged). zip (copies_of x.message) x.verdicts) account.judged (copy, r.0) r.1 in (
            own,
            record {
              message = m.0;
              there = m.1;
              among = zipped (copies_of m.0.message) m.0.verdicts copy r.0 m.2;
              shard = r.3;
              verdict = r.0;
              told = r.2;
              noted = subst (λ (ns : List Noted). Contains ns (note_of (copy, r.0))) (sym account.noted) (mapped note_of (told account.judged) (copy, r.0) r.1);
            },
          )
          )
    ]

pub account_is_of_lines : AccountIsOfLines
account_is_of_lines house seat connections replies notes heard said account = record {
  judged = account.judged;
  dialogues = dialogues house seat (talked house seat account.talked);
  verdicts = log_has_each_verdict house seat connections replies notes heard said account;
  stored = stored_is_on_its_lane house seat connections replies notes heard said account;
  put = put_was_submitted house seat connections replies notes heard said account;
}
