-- What a house came to, from what its producers and its shared consumers left and how it was closed.
use Rattle.std.proofs.Common.{◌≡◌, ◌<◌, ◌≤◌, ◌+◌, ◌++◌, ◌∙◌, ◌||◌, ℕ, zero, suc, Bool, true, false, List, [], ◌∷◌, All, Option, Some, length, map, slice_get, slice_index_or, ap, refl, sym, subst, arith, Result, Ok, Err}
use Rattle.std.specs.Prelude.{IfOk}
use Rattle.std.specs.List.{list_any}
use Rattle.std.proofs.lemmas.List.{map-append}
use Rattle.std.proofs.lemmas.List.Elements.{All-cons, All-head, All-nil, All-tail}
use Rattle.delivery_token.specs.declared.Job.{Job}
use Rattle.delivery_token.specs.declared.log.Noted.{Noted}
use Rattle.shard_queue.specs.Closing.{IsWhole}
use Rattle.shard_queue.specs.Lane.{of}
use Rattle.shard_queue.specs.Permits.{history, said, Closed, ConsumerPermit, Ended, ShardQueue}
use Rattle.shard_queue.specs.Reply.{received, reply_history, ReplyChannel, ReceiverPermit, ReplyClosed, SenderEnded}
use Rattle.shard_queue.specs.Shared.{IsStartOf}
use Rattle.shard_queue.specs.declared.lane.Entry.{Entry}
use Rattle.house_history.specs.declared.event.Event.{Event}
use Rattle.lane_work.specs.Account.{Premises, room_at}
use Rattle.lane_work.specs.Backing.{IsBacked}
use Rattle.lane_work.specs.Speaking.{premises_of}
use Rattle.lane_work.specs.declared.consumer.Consumed.{Consumed}
use Rattle.lane_work.proofs.CopyLaws.{were_put_later}
use Rattle.lane_work.proofs.HistoryLaws.{are_heard, said_is_taken}
use Rattle.lane_work.specs.ChannelPermits.{AreChannelsClosed}
use Rattle.lane_work.specs.LanePermits.{AreClosed}
use Rattle.lane_work.specs.SharedLanes as closings
use Rattle.shared_consumers.specs.ConsumerSet.{IsService}
use Rattle.shared_consumers.specs.declared.consumer_set.Dismissed.{Dismissed}
use Rattle.envelope.specs.Names.{Directory}
use Rattle.settings.specs.Settings.{directory_for}
use Rattle.settings.specs.declared.config.Config.{Config}
use Rattle.house_shared.specs.Crew.{AllAt}
use Rattle.house_shared.specs.Opening.{IsHouseShared}
use Rattle.house_shared.specs.declared.opening.Sizes.{Sizes}
use Rattle.house_shared.specs.declared.shared.HouseShared.{HouseShared}
use Rattle.house_shared.specs.Left.{IsServiceOf}
use Rattle.reckoning.proofs.Accounts.{answers_of, at_position, in_at}
use Rattle.reckoning.proofs.Parts.{some_at}
use Rattle.reckoning.specs.Histories.{AreBacked}
use Rattle.serving_workers.specs.Closing.{GoOn, WasClosed}
use Rattle.serving_workers.specs.Leaving.{HasServedClients, HasServedMail, IsServed, Told}
use Rattle.serving_workers.specs.declared.accepting.Served.{Served}
use Rattle.serving_workers.specs.Finished.{Finished, told_of}
use Rattle.serving.specs.Left.{HasLeft, IsWorkerOf, WasAnswered, answers, histories}
use Rattle.serving.specs.declared.fault.ServeFault.{ServeFault}
use Rattle.serving.specs.inner.Ending.{CameTo, FirstTakeMail, WereEmptied, WereHeardOut}

-- ---- who takes mail

all_false : (marks : List Bool) → All (λ mark. mark ≡ false) marks → All (λ mark. mark ≡ false) (marks ++ false ∷ [])
all_false [] all = All-cons (λ (mark : Bool). mark ≡ false) false [] refl all
all_false (mark ∷ marks) all =
    All-cons (λ (m : Bool). m ≡ false) mark (marks ++ false ∷ []) (All-head (λ (m : Bool). m ≡ false) mark marks all) (all_false marks (All-tail (λ (m : Bool). m ≡ false) mark marks all))

-- one more behind them, who takes none
one_without : (n : ℕ) (marks : List Bool) (mark : Bool) → mark ≡ false → FirstTakeMail n marks → FirstTakeMail n (marks ++ mark ∷ [])
one_without n marks mark is first = subst (λ (m : Bool). FirstTakeMail n (marks ++ m ∷ [])) (sym is) (by_cases n marks first) where
  by_cases : (n : ℕ) (marks : List Bool) → FirstTakeMail n marks → FirstTakeMail n (marks ++ false ∷ [])
  by_cases zero marks first = all_false marks first
  by_cases (suc n) [] first = absurd first
  by_cases (suc n) (m ∷ marks) first = (first.0, by_cases n marks first.1)

pub more_without : {A : Type 0} (f : A → Bool) (n : ℕ) (old new : List A) (x : A) → new ≡ old ++ x ∷ [] → f x ≡ false → FirstTakeMail n (map f old) → FirstTakeMail n (map f new)
more_without {A} f n old new x is none first =
    subst (FirstTakeMail n) (sym (ap (λ (xs : List A). map f xs) is ∙ map-append f old (x ∷ []))) (one_without n (map f old) (f x) none first)

-- all of them do
pub all_take : {A : Type 0} (f : A → Bool) (xs : List A) → All (λ x. f x ≡ true) xs → FirstTakeMail (length xs) (map f xs)
all_take {A} f [] all = All-nil (λ (mark : Bool). mark ≡ false)
all_take {A} f (x ∷ xs) all = (All-head (λ (y : A). f y ≡ true) x xs all, all_take f xs (All-tail (λ (y : A). f y ≡ true) x xs all))

takes_mail : {B L : Type 0} (workers n : ℕ) (served : List (Served B L)) (s : Served B L) → FirstTakeMail workers (map (λ s. s.mail) served) → n < workers → slice_get served n ≡ Some s → s.mail ≡ true
takes_mail zero n served s first under at = absurd (omega (arith, under))
takes_mail (suc workers) n [] s first under at = absurd first
takes_mail (suc workers) zero (x ∷ served) s first under at = (let same : x ≡ s = cc in ap (λ (y : Served _ _). y.mail) (sym same) ∙ first.0)
takes_mail (suc workers) (suc n) (x ∷ served) s first under at = takes_mail workers n served s first.1 (omega (arith, under)) at

takes_none : {B L : Type 0} (workers n : ℕ) (served : List (Served B L)) (s : Served B L) → FirstTakeMail workers (map (λ s. s.mail) served) → workers ≤ n → slice_get served n ≡ Some s → s.mail ≡ false
takes_none zero n [] s first past at = absurd (cc)
takes_none zero zero (x ∷ served) s first past at =
    (let same : x ≡ s = cc in ap (λ (y : Served _ _). y.mail) (sym same) ∙ All-head (λ (m : Bool). m ≡ false) x.mail (map (λ s. s.mail) served) first)
takes_none zero (suc n) (x ∷ served) s first past at = takes_none zero n served s (All-tail (λ (m : Bool). m ≡ false) x.mail (map (λ s. s.mail) served) first) (omega arith) at
takes_none (suc workers) n [] s first past at = absurd first
takes_none (suc workers) zero (x ∷ served) s first past at = absurd (omega (arith, past))
takes_none (suc workers) (suc n) (x ∷ served) s first past at = takes_none workers n served s first.1 (omega (arith, past)) at

there : {B L : Type 0} (workers n : ℕ) (served : List (Served B L)) → FirstTakeMail workers (map (λ s. s.mail) served) → n < workers → n < length served
there zero n served first under = absurd (omega (arith, under))
there (suc workers) n [] first under = absurd first
there (suc workers) zero (x ∷ served) first under = omega arith
there (suc workers) (suc n) (x ∷ served) first under = (let h = there workers n served first.1 (omega (arith, under)) in omega (arith, h))

-- ---- at a position

untorn : {B L : Type 0} (served : List (Served B L)) (n : ℕ) (s : Served B L) → list_any (λ s. s.torn) served ≡ false → slice_get served n ≡ Some s → s.torn ≡ false
untorn [] n s none at = absurd (cc)
untorn (x ∷ served) n s none at = by_case x.torn refl none (λ rest k there. untorn served k s rest there) n at where
  both : (b others : Bool) → (b || others) ≡ false → (b ≡ false) × (others ≡ false)
  both true others none = absurd (let e : true ≡ false = none in cc)
  both false others none = (refl, none)

  by_case : (b : Bool) → x.torn ≡ b → (b || list_any (λ s. s.torn) served) ≡ false → (list_any (λ s. s.torn) served ≡ false → (k : ℕ) → slice_get served k ≡ Some s → s.torn ≡ false)
      → (n : ℕ) → slice_get (x ∷ served) n ≡ Some s → s.torn ≡ false
  by_case b is none others zero at = (let same : x ≡ s = cc in ap (λ (y : Served _ _). y.torn) (sym same) ∙ is ∙ (both b (list_any (λ s. s.torn) served) none).0)
  by_case b is none others (suc n) at = others (both b (list_any (λ s. s.torn) served) none).1 n at

heard_at : {B L : Type 0} (served : List (Served B L)) (all : List (List (Entry Noted))) (n : ℕ) (s : Served B L) → GoOn (map (λ s. received s.receiver) served) all → slice_get served n ≡ Some s
    → IsStartOf (received s.receiver) (slice_index_or all n [])
heard_at [] all n s go at = absurd (cc)
heard_at (x ∷ served) [] n s go at = absurd go
heard_at (x ∷ served) (list ∷ all) zero s go at = (let same : x ≡ s = cc in subst (λ (y : Served _ _). IsStartOf (received y.receiver) list) same go.0)
heard_at (x ∷ served) (list ∷ all) (suc n) s go at = heard_at served all n s go.1 at

backed_at : {B L : Type 0} (first : ℕ) (served : List (Served B L)) (front : List Event) (all : List (List (Entry Noted))) (n : ℕ) (s : Served B L) → AreBacked front first (map (λ s. s.ended.items) served) all → slice_get served n ≡ Some s
    → IsBacked (first + n) front (slice_index_or all n []) (map said s.ended.items)
backed_at first [] front all n s are at = absurd (cc)
backed_at first (x ∷ served) front [] n s are at = absurd are
backed_at first (x ∷ served) front (list ∷ all) zero s are at =
    let same : x ≡ s = cc in
    let here : first ≡ first + 0 = omega arith in
    subst (λ (p : ℕ). IsBacked p front list (map said s.ended.items)) here (subst (λ (y : Served _ _). IsBacked first front list (map said y.ended.items)) same are.0)
backed_at first (x ∷ served) front (list ∷ all) (suc n) s are at =
    let next : suc first + n ≡ first + suc n = omega arith in
    subst (λ (p : ℕ). IsBacked p front (slice_index_or all n []) (map said s.ended.items)) next (backed_at (suc first) served front all n s are.1 at)

-- ---- what a worker's connections came to

-- more was heard since
mail_later : (house : Premises) (seat : ℕ) (line : Told) (heard hears : List (Entry Noted)) (words : List (List (Entry Job))) → IsStartOf heard hears → HasServedMail house seat line heard words
    → HasServedMail house seat line hears words
mail_later house seat line heard hears words grew has =
    let was = has.served in record {
      connections = has.connections;
      sent = has.sent;
      served = record {
        judged = was.judged;
        spoken = was.spoken;
        over = was.over;
        conversed = was.conversed;
        books = record {
          noted = tt;
          lanes = λ lane under. let b = was.books.lanes lane under in (b.0, were_put_later house.directory (room_at house.rooms lane) seat lane heard hears grew b.1, b.2);
        };
      };
      ended = has.ended;
    }

-- what is told of a line stands at its producer's position
line_at : {B L : Type 0} (told : L → Told) (served : List (Served B L)) (n : ℕ) (s : Served B L) (line : L) → slice_get served n ≡ Some s → s.line ≡ Some line
    → slice_get (map (λ s. told_of told s.line) served) n ≡ Some (Some (told line))
line_at told [] n s line at is = absurd (cc)
line_at told (x ∷ served) zero s line at is =
    let same : x ≡ s = cc in
    ap (λ (y : Served _ _). Some (told_of told y.line)) same ∙ ap (λ (o : Option _). Some (told_of told o)) is
line_at told (x ∷ served) (suc n) s line at is = line_at told served n s line at is

-- the same of a client slot
clients_later : (house : Premises) (seat : ℕ) (heard hears : List (Entry Noted)) (words : List (List (Entry Job))) → IsStartOf heard hears → HasServedClients house seat heard words
    → HasServedClients house seat hears words
clients_later house seat heard hears words grew has = record {
  clients = has.clients;
  sent = has.sent;
  served = (
    has.served.0,
    has.served.1,
    record {
      noted = tt;
      lanes = λ lane under. let b = has.served.2.lanes lane under in (b.0, were_put_later house.directory (room_at house.rooms lane) seat lane heard hears grew b.1, b.2);
    },
  );
  ended = has.ended;
}

-- ---- the queues

no_room : {T : Type 0} (producers room : ℕ) (got : List (Entry T)) → IsWhole producers room got → IsWhole producers 0 got
no_room producers room got one = record { merge = record { each = one.merge.each; known = one.merge.known; within = omega arith; legal = one.merge.legal }; closed = one.closed }

emptied : {qs : List (ShardQueue Job)} {rows : List (List (Ended Job))} {permits : List (ConsumerPermit Job)} {cs : List (Closed Job)} → AreClosed qs rows permits cs → WereEmptied qs cs
emptied closings.none = tt
emptied (closings.next q row permit c is others) = (no_room _ _ (history c) is.whole, emptied others)

heard_out : {qs : List (ReplyChannel Noted)} {rows : List (List (SenderEnded Noted))} {permits : List (ReceiverPermit Noted)} {cs : List (ReplyClosed Noted)} → AreChannelsClosed qs rows permits cs
    → WereHeardOut qs cs
heard_out closings.none = tt
heard_out (closings.next q row permit c is others) = (no_room _ _ (reply_history c) is.whole, heard_out others)

-- as many were closed as there were
closed_count : (lanes : List (ShardQueue Job)) (closed : List (Closed Job)) → WereEmptied lanes closed → length closed ≡ length lanes
closed_count [] [] were = refl
closed_count [] (c ∷ closed) were = absurd were
closed_count (lane ∷ lanes) [] were = absurd were
closed_count (lane ∷ lanes) (c ∷ closed) were = ap suc (closed_count lanes closed were.1)

heard_count : (channels : List (ReplyChannel Noted)) (closed : List (ReplyClosed Noted)) → WereHeardOut channels closed → length closed ≡ length channels
heard_count [] [] were = refl
heard_count [] (c ∷ closed) were = absurd were
heard_count (channel ∷ channels) [] were = absurd were
heard_count (channel ∷ channels) (c ∷ closed) were = ap suc (heard_count channels closed were.1)

-- ---- all of it

services_of : {B : Type 0} (shared : HouseShared B) (n : ℕ) (cs : List (Consumed B)) → AllAt (IsService shared.intake.lanes.items shared.delivery) n cs → AllAt (IsServiceOf shared) n cs
services_of shared n [] all = tt
services_of shared n (c ∷ cs) all =
    (record { each = λ lane at. ([], All-nil (λ (e : List (Entry Noted)). e ≡ []), all.0.each lane at) }, services_of shared (suc n) cs all.1)

module _ {B L : Type 0} (told : L → Told) (shared : HouseShared B) (workers : ℕ) (served : List (Served B L)) (d : Dismissed B) (finished : Finished) (all : AllAt (IsServed told shared) 0 served)
    (each : length served ≡ length shared.delivery.channels.items) (first : FirstTakeMail workers (map (λ s. s.mail) served)) (count : length d.consumed.items ≡ length shared.intake.lanes.items)
    (services : d.in_order ≡ true → AllAt (IsService shared.intake.lanes.items shared.delivery) 0 d.consumed.items) (was : WasClosed told shared served d finished) where
  -- what producer n left, and that what it said is what was taken
  left_by : (n : ℕ) → n < length served → (s : Served B L) × (slice_get served n ≡ Some s) × IsServed told shared n s × (map said s.ended.items ≡ map (of n) (histories finished))
  left_by n under =
      let s = some_at served n under in
      let e : 0 + n ≡ n = omega arith in
      let is : IsServed told shared n s.0 = subst (λ (i : ℕ). IsServed told shared i s.0) e (at_position (IsServed told shared) 0 n served s.0 all s.1) in
      let within = in_at (λ (x : Served B L). x.ended.items) served was.lanes.0 n s.0 was.lanes.1 s.1 in
      (s.0, s.1, is, said_is_taken shared.intake.lanes.items n s.0.ended.items (histories finished) is.ended (are_heard was.lanes.2 s.0.ended.items within))

  clients_of : (n : ℕ) → workers ≤ n → n < length served → HasServedClients (premises_of shared.intake) n (slice_index_or (answers finished) n []) (map (of n) (histories finished))
  clients_of n past under =
      let s = left_by n under in
      let clients = s.2.clients (takes_none workers n served s.0 first past s.1) (untorn served n s.0 was.producers s.1) in
      clients_later (premises_of shared.intake) n (received s.0.receiver) (slice_index_or (answers finished) n []) (map (of n) (histories finished)) (heard_at served (answers finished) n s.0 was.heard s.1)
      (subst (λ (words : List (List (Entry Job))). HasServedClients (premises_of shared.intake) n (received s.0.receiver) words) s.3 clients)

  mail_of : (n : ℕ) → n < workers → IsWorkerOf (premises_of shared.intake) n finished
  mail_of n under =
      let s = left_by n (there workers n served first under) in
      let mail = s.2.mail (takes_mail workers n served s.0 first under s.1) (untorn served n s.0 was.producers s.1) in
      let line = told mail.0 in record {
        line = line;
        here = ap (λ (lines : List (Option Told)). slice_get lines n) was.lines ∙ line_at told served n s.0 mail.0 s.1 mail.1;
        served = mail_later (premises_of shared.intake) n line (received s.0.receiver) (slice_index_or (answers finished) n []) (map (of n) (histories finished)) (heard_at served (answers finished) n s.0 was.heard s.1)
            (subst (λ (words : List (List (Entry Job))). HasServedMail (premises_of shared.intake) n line (received s.0.receiver) words) s.3 mail.2);
      }

  -- what it put and heard the history has
  backed_by : (n : ℕ) → n < length served → IsBacked n finished.front (slice_index_or (answers finished) n []) (map (of n) (histories finished))
  backed_by n under =
      let s = left_by n under in
      subst (IsBacked n finished.front (slice_index_or (answers finished) n [])) s.3
      (subst (λ (p : ℕ). IsBacked p finished.front (slice_index_or (answers finished) n []) (map said s.0.ended.items)) (let e : 0 + n ≡ n = omega arith in e)
      (backed_at 0 served finished.front (answers finished) n s.0 was.backed s.1))

  pub came_to : CameTo shared workers finished
  came_to = record {
    mail = mail_of;
    clients = λ n past under. clients_of n past (omega (arith, under, each));
    answered = λ s p lane channel.
        let a = answers_of shared d.consumed.items finished.lanes.items _ finished.channels.items _ (services_of shared 0 d.consumed.items (services was.in_order)) count was.lanes was.channels.2 s p lane channel in
        record { told = a.0; each = a.1; ended = a.2 };
    lanes = emptied was.lanes.2;
    channels = heard_out was.channels.2.2;
    legal = was.legal;
    backed = λ n under. backed_by n (omega (arith, under, each));
    mailboxes = was.mailboxes;
    each_mailbox = was.each_mailbox;
  }

-- what a house on this shared state has left is what these settings ask for
pub has_left : {B : Type 0} (config : Config) (sizes : Sizes) (shared : HouseShared B) (workers guests : ℕ) (finished : Finished) → IsHouseShared (directory_for config) sizes shared → sizes.host.now ≡ config.host.items
    → sizes.max_message ≡ config.max_message → workers ≡ config.workers → sizes.producers ≡ config.workers + guests → CameTo shared workers finished → HasLeft config finished
has_left config sizes shared workers guests finished is host most same producers came =
    let lanes = closed_count shared.intake.lanes.items finished.lanes.items came.lanes in
    let channels = heard_count shared.delivery.channels.items finished.channels.items came.channels in
    let shards = ap (λ (d : Directory). d.shards) is.is in
    let house = is.house in
    let of_lanes = house.shards in
    let of_channels = house.channels in
    let homes = is.mailboxes in record {
      house = premises_of shared.intake;
      set = record { directory = is.is; host = is.host ∙ host; max_message = is.max_message ∙ most };
      shards = omega (arith, lanes, shards, of_lanes);
      workers = omega (arith, channels, of_channels, producers);
      legal = came.legal;
      backed = λ n under. came.backed n (omega (arith, channels, under));
      mailboxes = came.mailboxes;
      each_mailbox = came.each_mailbox ∙ homes;
      mail = λ n under. came.mail n (omega (arith, under, same));
      clients = λ n past under. came.clients n (omega (arith, past, same)) (omega (arith, channels, under));
      answered = λ s p lane channel. subst (λ (m : ℕ). WasAnswered m s p (slice_index_or (histories finished) s []) (slice_index_or (answers finished) p [])) homes
          (came.answered s p (omega (arith, lane, lanes)) (omega (arith, channel, channels)));
    }

pub left_ok : {B : Type 0} (config : Config) (sizes : Sizes) (shared : HouseShared B) (workers guests : ℕ) (r : Result Finished ServeFault) → IsHouseShared (directory_for config) sizes shared → sizes.host.now ≡ config.host.items
    → sizes.max_message ≡ config.max_message → workers ≡ config.workers → sizes.producers ≡ config.workers + guests → IfOk r (CameTo shared workers) → IfOk r (HasLeft config)
left_ok config sizes shared workers guests (Ok finished) is host most same producers came = has_left config sizes shared workers guests finished is host most same producers came
left_ok config sizes shared workers guests (Err fault) is host most same producers came = tt
