-- Of a connection of a server a relay may conclude by the history.
use Rattle.std.proofs.Common.{◌≡◌, ◌⊎◌, inl, inr, ℕ, ◌<◌, ◌≤◌, true, false, List, [], ◌∷◌, ◌++◌, length, map, suc, Some, refl, ap, sym, subst, ◌∙◌, append-nil, arith}
use Rattle.std.specs.Prelude.{◌||◌, Bool, slice_get, slice_index_or}
use Rattle.std.specs.List.{list_any}
use Rattle.std.proofs.lemmas.Bool.{cases_lt, false≢true}
use Rattle.std.proofs.lemmas.List.{length-map}
use Rattle.change_ring.specs.Log.{no_flags}
use Rattle.delivery_token.specs.declared.CopyKey.{CopyKey}
use Rattle.delivery_token.specs.declared.Job.{Job}
use Rattle.delivery_token.specs.declared.Verdict.{Verdict}
use Rattle.delivery_token.specs.declared.Verdict.TheVariants.{Stored}
use Rattle.envelope.specs.Names.{Directory, is_shut}
use Rattle.house_history.specs.declared.event.Event.{Event}
use Rattle.house_history.specs.Legal.{Legal, Stands, WasJudged}
use Rattle.house_history.proofs.Standing.{alone_there, keys_in_order}
use Rattle.lane_work.specs.Account.{IsMarkedBy, Premises, closings_of, is_closed_by, setting_at, told}
use Rattle.lane_work.specs.declared.desk.Closing.{Closing}
use Rattle.lane_work.specs.Talk.{Judged}
use Rattle.lmtp_machine.specs.Dialogue.{Submission, wire}
use Rattle.lmtp_machine.specs.Kept.{IsMessage}
use Rattle.running_house.specs.Conversing.{IsConnection}
use Rattle.running_house.specs.Laws.{TalkIsOfLines}
use Rattle.laws_relay.specs.AccountLaws.{ConnectionsAreKnown}
use Rattle.laws_relay.specs.Concludes.{Names, StandsAsSent, WasHandedOver, key_at, message_at, of_history}
use Rattle.laws_relay.specs.Conclusions.{FrontsAreCut, TakenAreStored, WhatIsReadStays}
use Rattle.laws_relay.specs.Fates.{AreCut, AreNamed, IsSubmitted}
use Rattle.laws_relay.specs.Handed.{Handed, handed_over, is_taken}
use Rattle.laws_relay.specs.Numbers.{MessagesAreNumbered}
use Rattle.laws_relay.specs.ReplyLaws.{is_stored}
use Rattle.laws_relay.specs.Served.{ConnectionStands, ServedRelaysConclude}
use Rattle.laws_relay.proofs.Concluded.{same_text}
use Rattle.laws_relay.proofs.FateLaws.{Knows, front_read, front_same, front_taken, knows, named_at, reply_there, stored_at, stored_is, taken_there}
use Rattle.laws_relay.proofs.Ledger.{copy_key_at, whole_message}
use Rattle.laws_relay.proofs.Positions.{at_map, at_unmap, same_some, within_at}
use Rattle.laws_relay.proofs.ToldCopies.{IsToldOf, of_copy, of_message, taken_dialogue, told_copy}

named_length : (directory : Directory) (lines : List (List ℕ)) (mailboxes : List ℕ) → AreNamed directory lines mailboxes → length lines ≡ length mailboxes
named_length directory [] [] h = refl
named_length directory [] (m ∷ ms) h = absurd h
named_length directory (l ∷ ls) [] h = absurd h
named_length directory (l ∷ ls) (m ∷ ms) h = ap suc (named_length directory ls ms h.1)

-- ---- a directory that its worker leaves as it is

or_not : (b : Bool) → b ≡ (b || false)
or_not true = refl
or_not false = refl

unmarked : (house : Premises) (seat serial : ℕ) → closings_of house seat ≡ [] → IsMarkedBy (closings_of house seat) serial house.directory house.directory
unmarked house seat serial none_closed = record {
  same = refl;
  marks = λ shard within.
      subst (λ (cs : List Closing). is_shut house.directory shard ≡ (is_shut house.directory shard || list_any (is_closed_by serial shard) cs)) (sym none_closed) (or_not (is_shut house.directory shard));
}

-- ---- a connection

-- All that is known of it: `part` is what the relay knows by what it was told so far, `whole` by all that was said.
record Known : Type 0 where
  directory : Directory
  seat : ℕ
  serial : ℕ
  max_message : ℕ
  history : List Event
  judged : List Judged
  part : List Handed
  whole : List Handed
  stays : WhatIsReadStays
  legal : Legal history
  messages : (n : ℕ) (j : Judged) → slice_get judged n ≡ Some j → IsMessage (record { seat = seat; serial = serial; max_message = max_message }) (length directory.homes) n j.message
  stands : ConnectionStands seat serial history (told judged)
  knows_whole : Knows directory whole (map (λ (j : Judged). j.message) judged) (map (λ (j : Judged). j.verdicts) judged)
  is_front : AreCut part whole

-- the message that was submitted under a number
message_is : (g : Known) (k n : ℕ) (j : Judged) → g.knows_whole.number k ≡ Some n → slice_get g.judged n ≡ Some j → IsSubmitted g.directory (message_at g.whole k) j.message
message_is g k n j e there =
    let s = g.knows_whole.submitted k n e in
    let same : s.0 ≡ j.message = same_some (sym s.1 ∙ at_map (λ (x : Judged). x.message) g.judged n j there) in
    subst (λ (x : Submission). IsSubmitted g.directory (message_at g.whole k) x) same s.2

-- and the verdict on its copies is what the relay reads
verdict_is : (g : Known) (k n i : ℕ) (j : Judged) → g.knows_whole.number k ≡ Some n → slice_get g.judged n ≡ Some j
    → is_taken (message_at g.whole k) i ≡ slice_index_or (map is_stored j.verdicts) i false
verdict_is g k n i j e there = g.knows_whole.verdict k n i j.verdicts e (at_map (λ (x : Judged). x.verdicts) g.judged n j there)

-- what stands of the connection was told
stands_told : (g : Known) (copy : Job) (uid : ℕ) → Stands g.history copy uid → copy.key.seat ≡ g.seat → copy.key.serial ≡ g.serial → IsToldOf g.seat g.serial g.judged copy (Stored uid)
stands_told g copy uid stands own of_serial =
    told_copy (record { seat = g.seat; serial = g.serial; max_message = g.max_message }) (length g.directory.homes) g.judged g.messages copy (Stored uid) (g.stands.all copy (Stored uid) own of_serial stands)

-- and the whole of the replies has 250 for it
stands_taken : (g : Known) (k : ℕ) (copy : Job) (uid : ℕ) → IsToldOf g.seat g.serial g.judged copy (Stored uid) → g.knows_whole.number k ≡ Some copy.key.message
    → is_taken (message_at g.whole k) copy.key.recipient ≡ true
stands_taken g k copy uid t e = verdict_is g k copy.key.message copy.key.recipient t.one e t.there ∙ stored_is t.one.verdicts copy.key.recipient uid t.judged_so

-- the relay has read that, or not so far
read_so_far : (g : Known) (k i : ℕ) → is_taken (message_at g.whole k) i ≡ true → (is_taken (message_at g.part k) i ≡ true) ⊎ (length (message_at g.part k).replies ≤ i)
read_so_far g k i t = elim (cases_lt i (length (message_at g.part k).replies)) [
  | inl u ↦ inl (front_read g.stays g.part g.whole g.is_front k i u ∙ t)
  | inr l ↦ inr l
]

-- a recipient whose reply it has read as 250
had : (g : Known) (k i : ℕ) → is_taken (message_at g.part k) i ≡ true
    → (n : ℕ) × (g.knows_whole.number k ≡ Some n) × StandsAsSent g.directory (of_history g.history) (key_at g.seat g.serial n i) (message_at g.part k) i
had g k i t =
    let t_all = front_taken g.stays g.part g.whole g.is_front k i t in
    let n = g.knows_whole.taken k i t_all in
    let s = g.knows_whole.submitted k n.0 n.1 in
    let j = at_unmap (λ (x : Judged). x.message) g.judged n.0 s.0 s.1 in
    let v = stored_at j.0.verdicts i (sym (verdict_is g k n.0 i j.0 n.1 j.1) ∙ t_all) in
    let is = message_is g k n.0 j.0 n.1 j.1 in
    let replies = reply_there (message_at g.whole k).replies i t_all in
    let m = within_at j.0.message.mailboxes i
    (let a = g.knows_whole.answered k n.0 n.1 in let b = named_length g.directory (message_at g.whole k).recipients j.0.message.mailboxes is.names in omega (arith, replies, a, b)) in
    let key = copy_key_at (record { seat = g.seat; serial = g.serial; max_message = g.max_message }) (length g.directory.homes) n.0 i m.0 j.0 (g.messages n.0 j.0 j.1) m.1 in
    let copy : Job = record { key = key_at g.seat g.serial n.0 i; mailbox = m.0; text = j.0.message.text; flags = no_flags } in
    let P : Job × Verdict → Type 0 = λ one. (uid : ℕ) → one.1 ≡ Stored uid → WasJudged g.history one.0 (Stored uid) in
    let stands = of_copy P j.0.message.keys j.0.message.mailboxes j.0.message.text j.0.verdicts i (key_at g.seat g.serial n.0 i) m.0 (Stored v.0) key m.1 v.1
    (of_message P g.judged n.0 j.0 j.1 g.stands.stood) v.0 refl in
    let alone = alone_there g.history copy v.0 g.legal stands in
    let same = front_same g.is_front k (taken_there g.part k i t) in (
      n.0,
      n.1,
      record {
        mailbox = m.0;
        names = subst (λ (rs : List (List ℕ)). Names g.directory (slice_index_or rs i []) m.0) (sym same.recipients) (named_at g.directory (message_at g.whole k).recipients j.0.message.mailboxes is.names i m.0 m.1);
        copy = copy;
        keyed = refl;
        text = same_text (message_at g.part k) (message_at g.whole k) j.0.message.text same (record { sender = is.sender; from = is.from; is = is.text });
        plain = refl;
        uid = v.0;
        stands = (refl, stands);
        once = alone.once;
        nowhere_else = alone.nowhere_else;
      },
    )

-- one whose reply it has read as another
not_had : (g : Known) (k i n : ℕ) → i < length (message_at g.part k).replies → is_taken (message_at g.part k) i ≡ false → g.knows_whole.number k ≡ Some n
    → (mailbox : ℕ) (copy : Job) (uid : ℕ) → (of_history g.history).Stands mailbox copy uid → copy.key ≡ key_at g.seat g.serial n i → ⊥
not_had g k i n under other e mailbox copy uid there key =
    let t = stands_told g copy uid there.1 (ap (λ (x : CopyKey). x.seat) key) (ap (λ (x : CopyKey). x.serial) key) in
    let numbered : g.knows_whole.number k ≡ Some copy.key.message = e ∙ ap (λ (x : CopyKey). Some x.message) (sym key) in
    let taken : is_taken (message_at g.whole k) i ≡ true = ap (λ (x : CopyKey). is_taken (message_at g.whole k) x.recipient) (sym key) ∙ stands_taken g k copy uid t numbered in
    false≢true (sym other ∙ front_read g.stays g.part g.whole g.is_front k i under ∙ taken)

-- whatever stands of the connection
handed : (g : Known) (mailbox : ℕ) (copy : Job) (uid : ℕ) → (of_history g.history).Stands mailbox copy uid → copy.key.seat ≡ g.seat → copy.key.serial ≡ g.serial
    → WasHandedOver g.directory g.knows_whole.number g.part g.whole mailbox copy
handed g mailbox copy uid there own of_serial =
    let t = stands_told g copy uid there.1 own of_serial in
    let k = g.knows_whole.each copy.key.message t.one.message (at_map (λ (x : Judged). x.message) g.judged copy.key.message t.one t.there) in
    let is = message_is g k.0 copy.key.message t.one k.1 t.there in
    record {
      k = k.0;
      numbered = k.1;
      names = subst (λ (m : ℕ). Names g.directory (slice_index_or (message_at g.whole k.0).recipients copy.key.recipient []) m) there.0
          (named_at g.directory (message_at g.whole k.0).recipients t.one.message.mailboxes is.names copy.key.recipient copy.mailbox t.mailbox);
      text = record { sender = is.sender; from = is.from; is = t.text ∙ is.text };
      read = read_so_far g k.0 copy.key.recipient (stands_taken g k.0 copy uid t k.1);
    }

pub served_relays_conclude : ConnectionsAreKnown → TalkIsOfLines → FrontsAreCut → WhatIsReadStays → TakenAreStored → MessagesAreNumbered → ServedRelaysConclude
served_relays_conclude known lines fronts stays taken numbers house seat serial bytes said judged at history in_line none_closed talk legal stands more front untold all_said =
    let d = house.directory in
    let replied = wire house.host said in
    let submissions = map (λ (j : Judged). j.message) judged in
    let answers = map (λ (j : Judged). j.verdicts) judged in
    let dialogue = taken_dialogue lines (setting_at house seat serial) d bytes said judged at talk in
    let connection : IsConnection house seat serial bytes replied judged = record { said = said; own = d; marked = unmarked house seat serial none_closed; dialogue = dialogue; replies = refl } in
    let all = handed_over (bytes ++ more) replied in
    let told_so_far = handed_over (bytes ++ more) front in
    let h = knows numbers taken house.host d all all submissions answers (length-map judged (λ (j : Judged). j.verdicts) ∙ sym (length-map judged (λ (j : Judged). j.message)))
    (known house seat serial bytes replied judged in_line connection more replied [] (append-nil replied)) in
    let g : Known = record {
      directory = d;
      seat = seat;
      serial = serial;
      max_message = house.max_message;
      history = history;
      judged = judged;
      part = told_so_far;
      whole = all;
      stays = stays;
      legal = legal;
      messages = whole_message (setting_at house seat serial) d bytes said judged dialogue;
      stands = stands;
      knows_whole = h;
      is_front = subst (λ (r : List ℕ). AreCut told_so_far (handed_over (bytes ++ more) r)) all_said (fronts (bytes ++ more) front untold);
    } in
    record {
      number = h.number;
      rises = h.rises;
      taken = had g;
      refused = not_had g;
      nothing_else = handed g;
      in_order = λ mailbox. keys_in_order history mailbox seat legal;
    }
