-- A session's call comes to one event of that session in the world, or to none.
use Rattle.std.proofs.Common.{◌≡◌, ◌≢◌, ℕ, ◌<◌, ◌^◌, List, ◌∷◌, length, subst, ap, Some, []}
use Rattle.delivery_token.specs.declared.Job.{Job}
use Rattle.mailbox.specs.declared.clients.Opening.{Opening}
use Rattle.mailbox.specs.Events.{in_set}
use Rattle.world.specs.World as world
use Rattle.world.specs.World.{Config, World, Event, Step}
use Rattle.world.proofs.Base.{Every, all_of_every, every_of_all}
use Rattle.world.proofs.Always.{kept_step, every_front}
use Rattle.imap_session.specs.Exchange.{Call, Answer, Event as Happened, Look, Read as ReadCall, Count, Alter, Expunge as ExpungeCall, Feed as FeedCall, Leave as LeaveCall, Enter as EnterCall, Entered, Looked, Found, Counted, Altered, Expunged, Fed, Left, Refused, Discard as DiscardCall, Discarded}
use Rattle.imap_session.specs.Store.{Met}
use Rattle.house.specs.Meets.{Meets}
use Rattle.laws_client.specs.ListTurns.{SeesAll}
use Rattle.laws_client.specs.Sizes.{HasShortTexts}
use Rattle.laws_client.specs.HouseClients.{HasSmallNumbers}
use Rattle.laws_client.specs.Views.{view_of}
use Rattle.laws_client.specs.HouseClients.{IsOfOthers}
use Rattle.laws_client.proofs.Boxes.{box_goes, goes_small}
use Rattle.laws_client.proofs.Names.{Extends, extends_none, goes_extends}
use Rattle.laws_client.proofs.Seen.{opened, seen, turned_away, was_refused, discarded}
use Rattle.laws_client.proofs.ToldAll.{HearsAll, IsTold, OpensSo, sees_of}
use Rattle.laws_client.proofs.Texts.{PutsShort}
use Rattle.laws_client.proofs.RecordWorlds.{Sound}

pub data Moved (k : Config) (n : ℕ) (w v : World) : Type 0 where
  rested : v ≡ w → Moved k n w v
  stepped : (e : Event) → Step k w e v → ((j : ℕ) → j ≢ n → IsOfOthers j e) → PutsShort e → Moved k n w v

pub moved : (k : Config) (n : ℕ) (w : World) (call : Call) (answer : Answer) (v : World) → Meets k n w call answer v → Moved k n w v
moved k n w (EnterCall i) (Entered opening) v m = stepped (world.Enter n i) m.0 (λ j o. o) tt
moved k n w (EnterCall i) (Refused fault) v m = rested (turned_away k n i w fault v m)
moved k n w (Look by_uid set) (Looked copied) v m = rested m.0
moved k n w (Look by_uid set) (Refused fault) v m = rested (was_refused n w fault _ v m)
moved k n w (ReadCall uid mark) (Found row) v m = stepped (world.Read n uid mark) m.0 (λ j o. o) tt
moved k n w (ReadCall uid mark) (Refused fault) v m = rested (was_refused n w fault _ v m)
moved k n w (Count i) (Counted status) v m = rested m.0
moved k n w (Count i) (Refused fault) v m = rested m.0
moved k n w (Alter uid op) (Altered flags) v m = stepped (world.Store n uid op) m.0 (λ j o. o) tt
moved k n w (Alter uid op) (Refused fault) v m = rested (was_refused n w fault _ v m)
moved k n w (ExpungeCall uids) (Expunged met changes gone) v m = stepped (world.Expunge n (in_set uids)) m.0 (λ j o. o) tt
moved k n w (ExpungeCall uids) (Refused fault) v m = rested (was_refused n w fault _ v m)
moved k n w (FeedCall limit) (Fed met changes) v m = stepped (world.Feed n limit) m.0 (λ j o. o) tt
moved k n w (FeedCall limit) (Refused fault) v m = rested (was_refused n w fault _ v m)
moved k n w (LeaveCall remove) (Left gone) v m = stepped (world.Leave n remove) m.0.0 (λ j o. o) tt
moved k n w (LeaveCall remove) (Refused fault) v m = rested (was_refused n w fault _ v m)
moved k n w (DiscardCall i uids) Discarded v m = stepped (world.Discard i (in_set (Some uids))) (discarded k w n i uids v m) (λ j o. tt) tt
moved k n w (DiscardCall i uids) (Refused fault) v m = rested m.0
moved k n w _ _ v m = absurd m

-- ---- what stays

pub sound_step : (k : Config) (w : World) (e : Event) (v : World) → Sound k w → Step k w e v → Sound k v
sound_step k w e v S step = record { kept = kept_step k w e v S.kept step; small = λ m. goes_small k (w.box m) (v.box m) (box_goes k w e v m step) (S.small m) }

pub sound_moved : (k : Config) (n : ℕ) (w v : World) → Moved k n w v → Sound k w → Sound k v
sound_moved k n w v (rested e) S = rw e S
sound_moved k n w v (stepped e step own short) S = sound_step k w e v S step

-- texts that are short stay so backwards: a history only grows
pub short_before : (w v : World) → ((m : ℕ) → Extends (w.box m) (v.box m)) → HasShortTexts v → HasShortTexts w
short_before w v extends short m =
    let x = extends m in
    let P : Job × ℕ → Type 0 = λ (a : Job × ℕ). length a.0.text.bytes < 2 ^ 32 in
    all_of_every P (w.box m).accepted (every_front P (w.box m).accepted x.copies (subst (λ (xs : List (Job × ℕ)). Every P xs) x.accepted (every_of_all P (v.box m).accepted (short m))))

pub moved_extends : (k : Config) (n : ℕ) (w v : World) → Moved k n w v → (m : ℕ) → Extends (w.box m) (v.box m)
moved_extends k n w v (rested e) m = rw e (extends_none (w.box m))
moved_extends k n w v (stepped e step own short) m = goes_extends k (w.box m) (v.box m) (box_goes k w e v m step)

-- ---- several calls

abbrev pub Calls : Config → ℕ → World → Call → Answer → World → Type 0
Calls k n w call answer v = Meets k n w call answer v

pub sound_met : (k : Config) (n : ℕ) (w : World) (events : List Happened) (v : World) → Sound k w → Met (Calls k n) w events v → Sound k v
sound_met k n w [] v S met = rw met S
sound_met k n w (e ∷ events) v S (mid, one, more) = sound_met k n mid events v (sound_moved k n w mid (moved k n w e.call e.answer mid one) S) more

pub short_met : (k : Config) (n : ℕ) (w : World) (events : List Happened) (v : World) → Met (Calls k n) w events v → HasShortTexts v → HasShortTexts w
short_met k n w [] v met short = subst (λ (u : World). HasShortTexts u) met short
short_met k n w (e ∷ events) v (mid, one, more) short = short_before w mid (moved_extends k n w mid (moved k n w e.call e.answer mid one)) (short_met k n mid events v more short)

-- ---- and what SELECT tells

entry_told : (k : Config) (w : World) (n : ℕ) (call : Call) (opening : Opening) (v : World) → HasSmallNumbers k → Sound k w → Meets k n w call (Entered opening) v → IsTold opening (view_of v n)
entry_told k w n (EnterCall i) opening v h S m =
    let is = opened k w n i opening v h S m in record { count = is.count; few = is.few; uidvalidity = is.uidvalidity; uidnext = is.uidnext }
entry_told k w n _ opening v h S m = absurd m

opens_told : (k : Config) (w : World) (n : ℕ) (call : Call) (answer : Answer) (v : World) → HasSmallNumbers k → Sound k w → Meets k n w call answer v → OpensSo answer (view_of v n)
opens_told k w n call (Entered opening) v h S m = entry_told k w n call opening v h S m
opens_told k w n call _ v h S m = tt

pub hears_world : (k : Config) (n : ℕ) (w : World) (events : List Happened) (v : World) → HasSmallNumbers k → Sound k w → HasShortTexts v → Met (Calls k n) w events v → HearsAll (view_of w n) events (view_of v n)
hears_world k n w [] v h S short met = ap (λ (u : World). view_of u n) met
hears_world k n w (e ∷ events) v h S short (mid, one, more) =
    let moves = moved k n w e.call e.answer mid one in
    let short_mid = short_met k n mid events v more short in (
      view_of mid n,
      seen k w n e.call e.answer mid S h (short_before w mid (moved_extends k n w mid moves) short_mid) one,
      opens_told k w n e.call e.answer mid h S one,
      hears_world k n mid events v h (sound_moved k n w mid moves S) short more,
    )

pub sees_all : (k : Config) (n : ℕ) (w : World) (events : List Happened) (v : World) → HasSmallNumbers k → Sound k w → HasShortTexts v → Met (Calls k n) w events v → SeesAll (view_of w n) events (view_of v n)
sees_all k n w events v h S short met = sees_of (view_of w n) events (view_of v n) (hears_world k n w events v h S short met)
