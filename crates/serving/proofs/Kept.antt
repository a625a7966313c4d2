-- What stands of all that a server was brought, by what it has left.
use Rattle.std.proofs.Common.{◌≡◌, ◌<◌, ◌≤◌, ◌∙◌, ◌++◌, ℕ, suc, List, [], ◌∷◌, length, map, slice_index_or, ap, subst, sym, arith}
use Rattle.std.proofs.lemmas.List.{length-map}
use Rattle.std.proofs.lemmas.List.Elements.{All-weaker}
use Rattle.change_ring.specs.declared.change.Change.{Change}
use Rattle.change_ring.specs.Log.{rows_of}
use Rattle.delivery_token.specs.declared.Job.{Job}
use Rattle.delivery_token.specs.declared.Verdict.{Verdict}
use Rattle.envelope.specs.Names.{Directory}
use Rattle.house_history.specs.declared.event.Event.{Event}
use Rattle.house_history.specs.Events.{concerns}
use Rattle.house_history.specs.Legal.{HasText}
use Rattle.house_history.proofs.Follow.{accepted_own, changes_own}
use Rattle.house_history.proofs.Standing.{text_in_whole}
use Rattle.house_shared.specs.Crew.{AllAt}
use Rattle.lane_work.specs.Account.{AreBooksOf, HaveEnded, told}
use Rattle.lane_work.specs.Backing.{StandAsTold}
use Rattle.lane_work.proofs.BackingLaws.{words_stand}
use Rattle.locked_mailbox.specs.Locking.{LockedMailbox}
use Rattle.mailbox.specs.Mailbox.{Message}
use Rattle.reckoning.specs.Shelves.{IsRecorded}
use Rattle.serving_workers.specs.Finished.{Finished}
use Rattle.settings.specs.Settings.{IsInRange}
use Rattle.settings.specs.declared.config.Config.{Config}
use Rattle.shard_queue.specs.Lane.{of}
use Rattle.shard_queue.specs.Permits.{history as taken_of}
use Rattle.shard_queue.specs.declared.lane.Entry.{Entry}
use Rattle.shard_queue.specs.declared.lane.Entry.TheVariants.{End}
use Rattle.serving.specs.Kept.{HasKept, IsAsLeft, KeptAppends, KeptMail}
use Rattle.serving.specs.Left.{HasLeft, answers, histories}

-- ---- mailboxes

as_left : (history : List Event) (number : ℕ) (locked : LockedMailbox) → IsRecorded history number locked → IsAsLeft history number locked
as_left history number locked recorded = record {
  here = recorded.here;
  rows = recorded.kept.log.messages ∙ ap (λ (log : List Change). rows_of log) (sym (changes_own number history locked.events recorded.own));
  texts = All-weaker (λ (m : Message). HasText locked.events number m.uid m.text) (λ (m : Message). HasText history number m.uid m.text)
      (λ m has. text_in_whole (concerns number) history number m.uid m.text
      (subst (λ (events : List Event). HasText events number m.uid m.text) (sym recorded.own) has)) locked.mailbox.messages recorded.kept.texts;
  accepted = recorded.kept.accepted ∙ sym (accepted_own number history locked.events recorded.own);
}

all_as_left : (history : List Event) (number : ℕ) (all : List LockedMailbox) → AllAt (IsRecorded history) number all → AllAt (IsAsLeft history) number all
all_as_left history number [] recorded = tt
all_as_left history number (locked ∷ all) recorded = (as_left history number locked recorded.0, all_as_left history (suc number) all recorded.1)

-- ---- producers

module _ (config : Config) (finished : Finished) (range : IsInRange config) (left : HasLeft config finished) where
  -- Of each producer just those copies stand of which its books tell Stored.
  books_stand : (n : ℕ) → n < length finished.channels.items → (copies : List (Job × Verdict)) (sent : List (List (Entry Job)))
      → AreBooksOf left.house.directory left.house.rooms n copies (λ told. Unit {0}) (slice_index_or (answers finished) n []) sent
      → HaveEnded n sent (map (of n) (histories finished)) → StandAsTold n finished.front copies
  books_stand n under copies sent books ended =
      let some : 0 < left.house.directory.shards = subst (λ (d : Directory). 0 < d.shards) (sym left.set.directory) (let few = range.shards.0 in omega (arith, few)) in
      let lanes : left.house.directory.shards ≡ length (map (of n) (histories finished)) =
      ap (λ (d : Directory). d.shards) left.set.directory ∙ sym left.shards ∙ sym (length-map finished.lanes.items taken_of) ∙ sym (length-map (histories finished) (of n)) in
      let as_many : left.house.directory.shards ≡ length sent = lanes ∙ ap length ended ∙ length-map sent (λ entries. entries ++ End n ∷ []) in
      words_stand left.house.directory left.house.rooms n copies finished.front (slice_index_or (answers finished) n []) sent (map (of n) (histories finished)) some as_many books ended (left.backed n under)

  mail_kept : (n : ℕ) → n < config.workers → KeptMail left.house n finished
  mail_kept n worker =
      let many = left.workers in
      let mail = left.mail n worker in
      let served = mail.served.served in record {
        line = mail.line;
        here = mail.here;
        connections = mail.served.connections;
        judged = served.judged;
        spoken = served.spoken;
        over = served.over;
        conversed = served.conversed;
        stand = books_stand n (omega (arith, worker, many)) (told served.judged) mail.served.sent served.books mail.served.ended;
      }

  appends_kept : (n : ℕ) → config.workers ≤ n → n < length finished.channels.items → KeptAppends n finished
  appends_kept n client_slot under =
      let has = left.clients n client_slot under in record {
        clients = has.clients;
        copies = has.served.0;
        appended = has.served.1;
        stand = books_stand n under has.served.0 has.sent has.served.2 has.ended;
      }

pub left_kept : (config : Config) (finished : Finished) → IsInRange config → HasLeft config finished → HasKept config finished
left_kept config finished range left = record {
  house = left.house;
  set = left.set;
  legal = left.legal;
  mailboxes = all_as_left finished.front 0 finished.mailboxes.items left.mailboxes;
  each_mailbox = left.each_mailbox;
  mail = mail_kept config finished range left;
  clients = appends_kept config finished range left;
}
