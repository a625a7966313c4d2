-- Of each connection of a worker that served, and of each worker of a server that stopped in order, a relay may conclude by the history.
use Rattle.std.proofs.Common.{◌≡◌, ◌⊎◌, inl, inr, ℕ, ◌+◌, ◌<◌, ◌==◌, Bool, true, false, List, [], ◌∷◌, ◌++◌, length, None, refl, ap, sym, subst, ◌∙◌, Contains, arith}
use Rattle.std.specs.Prelude.{All, if◌then◌else◌}
use Rattle.std.proofs.lemmas.Bool.Decides.{nat_tests}
use Rattle.std.proofs.lemmas.List.Concat.{flat_map-append}
use Rattle.std.proofs.lemmas.List.Elements.{All-weaker, Contains-append_cases}
use Rattle.delivery_token.specs.declared.Job.{Job}
use Rattle.delivery_token.specs.declared.Verdict.{Verdict}
use Rattle.delivery_token.specs.declared.Verdict.TheVariants.{Stored}
use Rattle.envelope.specs.Names.{Directory}
use Rattle.house_history.specs.declared.event.Event.{Event}
use Rattle.house_history.specs.Legal.{Legal, WasJudged, StandsAlone}
use Rattle.house_history.proofs.Standing.{alone_there, keys_in_order}
use Rattle.lane_work.specs.Account.{Premises, setting_at, told}
use Rattle.lane_work.specs.Talk.{HasTaken, Judged}
use Rattle.line_io.specs.Wire.{wire_lines}
use Rattle.lmtp_machine.specs.declared.reply.Reply.{Reply}
use Rattle.lmtp_machine.specs.Conversation.{Conversation}
use Rattle.lmtp_machine.specs.Dialogue.{wire}
use Rattle.running_house.specs.Laws.{TalkIsOfLines}
use Rattle.serving_workers.specs.Leaving.{HaveConversed, next, none, passed, Spoken}
use Rattle.laws_relay.specs.Concludes.{Concludes, of_history}
use Rattle.laws_relay.specs.Handed.{Between, IsInLine, handed, handed_over}
use Rattle.laws_relay.specs.Served.{ClientSlotsConclude, ConnectionStands, ServedRelaysConclude, ServersConclude, WorkersConclude, talk_on}
use Rattle.laws_relay.proofs.FateLaws.{taken_there}
use Rattle.laws_relay.proofs.Positions.{none_at}
use Rattle.laws_relay.proofs.ToldCopies.{all_left, all_right, taken_copy, told_of}

-- ---- what was judged on each connection

abbrev judged_on : {house : Premises} {seat connections : ℕ} {spoken : List Spoken} {judged : List Judged} → HaveConversed house seat connections spoken judged → ℕ → List Judged
judged_on none serial = []
judged_on (passed {n} before) serial = if serial == n then [] else judged_on before serial
judged_on (next {n} bytes replies more at dropped written failed before taken are) serial = if serial == n then more else judged_on before serial

told_both : (judged more : List Judged) → told (judged ++ more) ≡ told judged ++ told more
told_both judged more = flat_map-append told_of judged more

pub earlier : (serial n : ℕ) → serial < n + 1 → (serial == n) ≡ false → serial < n
earlier serial n under other = grind (arith, nat_tests)

pub is_this : (serial n : ℕ) → (serial == n) ≡ true → serial ≡ n
is_this serial n this = grind (arith, nat_tests)

not_this : (serial n : ℕ) → (serial == n) ≡ false → serial ≡ n → ⊥
not_this serial n other this = grind (arith, nat_tests)

-- what holds of all that was told holds of what was told of one connection
all_on : (P : Job × Verdict → Type 0) {house : Premises} {seat connections : ℕ} {spoken : List Spoken} {judged : List Judged} (conversed : HaveConversed house seat connections spoken judged) (serial : ℕ)
    → All P (told judged) → All P (told (judged_on conversed serial))
all_on P none serial all = all
all_on P (passed {n} before) serial all = by (all_on P before serial all) (serial == n)
  where
    by : All P (told (judged_on before serial)) → (b : Bool) → All P (told (if b then [] else judged_on before serial))
    by others true = λ i d under. absurd (omega (arith, under))
    by others false = others
all_on P (next {n} {spoken} {judged} bytes replies more at dropped written failed before taken are) serial all =
    let both : All P (told judged ++ told more) = subst (λ (l : List (Job × Verdict)). All P l) (told_both judged more) all in
    by (all_on P before serial (all_left P (told judged) (told more) both)) (all_right P (told judged) (told more) both) (serial == n)
  where
    by : All P (told (judged_on before serial)) → All P (told more) → (b : Bool) → All P (told (if b then more else judged_on before serial))
    by others here true = here
    by others here false = others

-- each copy that was told is of one of these connections
of_these : TalkIsOfLines → {house : Premises} {seat connections : ℕ} {spoken : List Spoken} {judged : List Judged} → HaveConversed house seat connections spoken judged → (copy : Job) (verdict : Verdict)
    → Contains (told judged) (copy, verdict) → copy.key.serial < connections
of_these lines none copy verdict has = absurd (let u = has.1 in omega (arith, u))
of_these lines (passed before) copy verdict has = let u = of_these lines before copy verdict has in omega (arith, u)
of_these lines {house} {seat} (next {n} {spoken} {judged} bytes replies more at dropped written failed before taken are) copy verdict has =
    elim (Contains-append_cases (told judged) (told more) (copy, verdict) (subst (λ (l : List (Job × Verdict)). Contains l (copy, verdict)) (told_both judged more) has)) [
      | inl there ↦ (let u = of_these lines before copy verdict there in omega (arith, u))
      | inr here ↦ (let e = (taken_copy lines (setting_at house seat n) house.directory bytes replies more at taken copy verdict here).of_serial in omega (arith, e))
    ]

-- and was told on that connection
told_on : TalkIsOfLines → {house : Premises} {seat connections : ℕ} {spoken : List Spoken} {judged : List Judged} (conversed : HaveConversed house seat connections spoken judged) (serial : ℕ) (copy : Job) (verdict : Verdict)
    → copy.key.serial ≡ serial → Contains (told judged) (copy, verdict) → Contains (told (judged_on conversed serial)) (copy, verdict)
told_on lines none serial copy verdict e has = has
told_on lines (passed {n} before) serial copy verdict e has = by (told_on lines before serial copy verdict e has) (of_these lines before copy verdict has) (serial == n) refl
  where
    by : Contains (told (judged_on before serial)) (copy, verdict) → copy.key.serial < n → (b : Bool) → (serial == n) ≡ b → Contains (told (if b then [] else judged_on before serial)) (copy, verdict)
    by there under true this = absurd (let same = is_this serial n this in omega (arith, e, same, under))
    by there under false other = there
told_on lines {house} {seat} (next {n} {spoken} {judged} bytes replies more at dropped written failed before taken are) serial copy verdict e has =
    elim (Contains-append_cases (told judged) (told more) (copy, verdict) (subst (λ (l : List (Job × Verdict)). Contains l (copy, verdict)) (told_both judged more) has)) [
      | inl there ↦ before_it (told_on lines before serial copy verdict e there) (of_these lines before copy verdict there) (serial == n) refl
      | inr here ↦ on_it here (taken_copy lines (setting_at house seat n) house.directory bytes replies more at taken copy verdict here).of_serial (serial == n) refl
    ]
  where
    before_it : Contains (told (judged_on before serial)) (copy, verdict) → copy.key.serial < n → (b : Bool) → (serial == n) ≡ b → Contains (told (if b then more else judged_on before serial)) (copy, verdict)
    before_it there under true this = absurd (let same = is_this serial n this in omega (arith, e, same, under))
    before_it there under false other = there

    on_it : Contains (told more) (copy, verdict) → copy.key.serial ≡ n → (b : Bool) → (serial == n) ≡ b → Contains (told (if b then more else judged_on before serial)) (copy, verdict)
    on_it here is true this = here
    on_it here is false other = absurd (not_this serial n other (sym e ∙ is))

-- ---- each connection

-- it took these bytes and said that, or nothing was said
record HasTalked (house : Premises) (seat serial : ℕ) (bytes : List ℕ) (said : List Reply) (judged : List Judged) : Type 0 where
  at : Conversation
  talk : HasTaken (setting_at house seat serial) house.directory bytes said judged at

abbrev IsTalkOrNone : Premises → (seat serial : ℕ) → List ℕ → List Reply → List Judged → Type 0
IsTalkOrNone house seat serial bytes said judged = HasTalked house seat serial bytes said judged ⊎ ((said ≡ []) × (judged ≡ []))

each_talk : {house : Premises} {seat connections : ℕ} {spoken : List Spoken} {judged : List Judged} (conversed : HaveConversed house seat connections spoken judged) (serial : ℕ) → serial < connections
    → IsTalkOrNone house seat serial (talk_on conversed serial).0 (talk_on conversed serial).1 (judged_on conversed serial)
each_talk none serial under = absurd (omega (arith, under))
each_talk {house} {seat} (passed {n} before) serial under = by (λ u. each_talk before serial u) (serial == n) refl
  where
    by : (serial < n → IsTalkOrNone house seat serial (talk_on before serial).0 (talk_on before serial).1 (judged_on before serial)) → (b : Bool) → (serial == n) ≡ b
        → IsTalkOrNone house seat serial (if b then ([], []) else talk_on before serial).0 (if b then ([], []) else talk_on before serial).1 (if b then [] else judged_on before serial)
    by others true this = inr (refl, refl)
    by others false other = others (earlier serial n under other)
each_talk {house} {seat} (next {n} bytes replies more at dropped written failed before taken are) serial under = by (λ u. each_talk before serial u) (serial == n) refl
  where
    by : (serial < n → IsTalkOrNone house seat serial (talk_on before serial).0 (talk_on before serial).1 (judged_on before serial)) → (b : Bool) → (serial == n) ≡ b
        → IsTalkOrNone house seat serial (if b then (bytes, replies) else talk_on before serial).0 (if b then (bytes, replies) else talk_on before serial).1 (if b then more else judged_on before serial)
    by others true this = inl (subst (λ (s : ℕ). HasTalked house seat s bytes replies more) (sym (is_this serial n this)) (record { at = at; talk = taken }))
    by others false other = others (earlier serial n under other)

-- a house in which no worker closes a shard
abbrev unclosed : Premises → Premises
unclosed house = record { directory = house.directory; rooms = house.rooms; host = house.host; max_message = house.max_message; closings = [] }

-- where nothing was said, nothing was handed over
none_told : (front untold : List ℕ) → front ++ untold ≡ [] → front ≡ []
none_told [] untold e = refl
none_told (x ∷ xs) untold e = absurd (cc e)

none_handed : (lines : List (List ℕ)) → handed Between lines [] ≡ []
none_handed [] = refl
none_handed (line ∷ lines) = refl

silent : (directory : Directory) (seat serial : ℕ) (host sent : List ℕ) (said : List Reply) (judged : List Judged) (history : List Event) → said ≡ [] → judged ≡ []
    → Legal history → ConnectionStands seat serial history (told judged) → (front untold : List ℕ) → front ++ untold ≡ wire host said
    → Concludes directory (of_history history) seat serial (handed_over sent front) (handed_over sent (wire host said))
silent directory seat serial host sent said judged history none_said none_judged legal stands front untold e =
    let quiet : front ≡ [] = none_told front untold (e ∙ ap (wire host) none_said) in
    let nothing : handed_over sent front ≡ [] = ap (handed_over sent) quiet ∙ none_handed (wire_lines sent) in
    let few : length (handed_over sent front) ≡ 0 = ap length nothing in
    record {
      number = λ k. None;
      rises = λ k m a b below ea eb. absurd (none_at ea);
      taken = λ k i t. absurd (let u = taken_there (handed_over sent front) k i t in omega (arith, u, few));
      refused = λ k i n under other ea mailbox copy uid there key. absurd (none_at ea);
      nothing_else = λ mailbox copy uid there own of_serial. absurd
          (let has : Contains (told []) (copy, Stored uid) = subst (λ (js : List Judged). Contains (told js) (copy, Stored uid)) none_judged (stands.all copy (Stored uid) own of_serial there.1) in
          let u = has.1 in omega (arith, u));
      in_order = λ mailbox. keys_in_order history mailbox seat legal;
    }

one_concludes : ServedRelaysConclude → (house : Premises) (seat serial : ℕ) (bytes : List ℕ) (said : List Reply) (judged : List Judged) (history : List Event) → IsInLine house.host
    → Legal history → ConnectionStands seat serial history (told judged) → IsTalkOrNone house seat serial bytes said judged → (more front untold : List ℕ) → front ++ untold ≡ wire house.host said
    → Concludes house.directory (of_history history) seat serial (handed_over (bytes ++ more) front) (handed_over (bytes ++ more) (wire house.host said))
one_concludes served house seat serial bytes said judged history in_line legal stands (inl talked) more front untold e =
    served (unclosed house) seat serial bytes said judged talked.at history in_line refl talked.talk legal stands more front untold e
one_concludes served house seat serial bytes said judged history in_line legal stands (inr (none_said, none_judged)) more front untold e =
    silent house.directory seat serial house.host (bytes ++ more) said judged history none_said none_judged legal stands front untold e

-- ---- a worker

pub workers_conclude : ServedRelaysConclude → TalkIsOfLines → WorkersConclude
workers_conclude served lines house seat connections spoken judged history in_line legal conversed stand = record {
  each = λ serial under more front untold e.
      one_concludes served house seat serial (talk_on conversed serial).0 (talk_on conversed serial).1 (judged_on conversed serial) history in_line legal
      (record {
        stood = all_on (λ (one : Job × Verdict). (uid : ℕ) → one.1 ≡ Stored uid → WasJudged history one.0 (Stored uid)) conversed serial stand.stood;
        all = λ copy verdict own of_serial judged. told_on lines conversed serial copy verdict of_serial (stand.all copy verdict own judged);
      })
      (each_talk conversed serial under) more front untold e;
  nothing_else = λ copy uid stands own. of_these lines conversed copy (Stored uid) (stand.all copy (Stored uid) own stands);
}

-- ---- a server

pub servers_conclude : WorkersConclude → ServersConclude
servers_conclude workers config finished kept in_line n worker =
    let mail = kept.mail n worker in
    workers kept.house n mail.connections mail.spoken mail.judged finished.front in_line kept.legal mail.conversed mail.stand

-- ---- a client slot

pub client_slots_conclude : ClientSlotsConclude
client_slots_conclude config finished kept n client_slot under =
    let appends = kept.clients n client_slot under in record {
      stand = appends.stand;
      once = All-weaker (λ (one : Job × Verdict). (uid : ℕ) → one.1 ≡ Stored uid → WasJudged finished.front one.0 (Stored uid)) (λ (one : Job × Verdict). (uid : ℕ) → one.1 ≡ Stored uid → StandsAlone finished.front one.0 uid)
          (λ one stood uid is. alone_there finished.front one.0 uid kept.legal (stood uid is)) appends.copies appends.stand.stood;
      in_order = λ mailbox. keys_in_order finished.front mailbox n kept.legal;
    }
