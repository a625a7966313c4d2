-- A turn of a session that idles: over the delivery core, as what its visitor does in the scene, and when the house settles.
use Rattle.std.proofs.Common.{◌≡◌, ℕ, ◌+◌, ◌-◌, ◌<◌, ◌≤◌, ◌⊎◌, inl, inr, Bool, true, false, List, [], ◌∷◌, ◌++◌, length, take, get_or, refl, sym, ap, ◌∙◌, subst, arith, Option, Some, None, IsSome}
use Rattle.std.specs.Prelude.{◌&&◌, not, is_some}
use Rattle.std.proofs.lemmas.Bool.{cases_lt}
use Rattle.change_ring.specs.declared.change.Change.{Change}
use Rattle.cursor_set.specs.Lines.{lines}
use Rattle.mailbox.specs.declared.clients.MailFault.TheVariants.{Stranger, Lapped, Spent, NoMemory}
use Rattle.delivery_core.specs.Changes.{SameDelivery}
use Rattle.delivery_core.specs.DeliveryCore.{DeliveryCore, behind, client_of}
use Rattle.delivery_core.specs.Stands as core
use Rattle.house.specs.Setup.{Setup, session_seat}
use Rattle.imap_session.specs.declared.standing.After.TheVariants as afters
use Rattle.imap_session.specs.declared.standing.Selected.{Selected as Chosen}
use Rattle.imap_session.specs.Exchange.{Answer, Entered, Looked, Found, Counted, Altered, Expunged, Fed, Left, Discarded, Refused, Starved, Event, Feed, Standing, Turn, having, is_idling, nothing_more, refused, saying}
use Rattle.imap_session.specs.Exchange as calls
use Rattle.imap_session.specs.Commands.{count_shown, idle_turn, idle_turn_in, most_changes}
use Rattle.imap_session.specs.Store.{IdleTurns, Met, Starves}
use Rattle.house.specs.declared.core_store.CoreStore.{CoreStore}
use Rattle.house.specs.CoreStore.{CatchesUp, Serves}
use Rattle.house.specs.Meets.{Meets}
use Rattle.house.proofs.Served.{IsServing, carries, met_delivery}
use Rattle.house.proofs.Serving.{same_delivery}
use Rattle.delivery_token.specs.declared.CopyKey.{CopyKey}
use Rattle.delivery_token.specs.declared.log.Noted.{Noted}
use Rattle.delivery_core.specs.New.{first_key}
use Rattle.house.specs.inner.Printing.{Idled, IdledInPart, Missed}
use Rattle.house_peers.specs.Visitor.{Visitor, SeatedVisitor}
use Rattle.house_peers.specs.SeatedSession.{SeatedSession, StandsForSeated}
use Rattle.shard_queue.specs.Lane.{set_at}
use Rattle.shard_queue.proofs.AtLaws.{at_cases}
use Rattle.house.proofs.Seats.{place_kept}
use Rattle.house.specs.Printing.{Idles, with_session}
use Rattle.house.proofs.Carried.{idles_carried}
use Rattle.world.specs.World.{Config, Selected, Session, World, pending}
use Rattle.house.specs.House.{House}
use Rattle.house.specs.Effort.{turns_left}
use Rattle.house.specs.Scene.{IdlePlay, Scene, SessionIdles, with_visitor, with_world}
use Rattle.house.specs.Scene as scene
use Rattle.house.specs.Stands.{StandsFor}
use Rattle.house.specs.Steps.{MayIdle}
use Rattle.house.specs.inner.Steps.{HasNoTurn, PlaceIdled, PlaceIdledInPart, PlaceKept, StandsForSomebody}
use Rattle.house.proofs.Visiting.{IsAtPlace, at_place, delivery_then, parts_serial, visit_stands, who_stays, with_visits}

-- ---- which turns there are

some_is : {A : Type 0} (a b : A) → Some a ≡ Some b → a ≡ b
some_is a b e = cc

-- in a mailbox: what is pending is shown, or the session ends
data IdleCase (now : Standing) (answers : List Answer) (t : Turn) : Type 0 where
  is_shown : (view : List ℕ) (changes : List Change) → answers ≡ Fed view changes ∷ [] → t ≡ having (Feed most_changes) (Fed view changes) (saying (lines view changes) (nothing_more afters.Idle now)) → IdleCase now answers t
  is_lapped : answers ≡ Refused Lapped ∷ [] → t ≡ having (Feed most_changes) (Refused Lapped) (refused [] now Lapped) → IdleCase now answers t
  is_unknown : answers ≡ Refused Stranger ∷ [] → t ≡ having (Feed most_changes) (Refused Stranger) (refused [] now Stranger) → IdleCase now answers t

in_mailbox : (s : Chosen) (now : Standing) (answers : List Answer) (t : Turn) → idle_turn_in (Some s) true now answers ≡ Some t → IdleCase now answers t
in_mailbox s now [] t e = cc
in_mailbox s now (Fed view changes ∷ []) t e = is_shown view changes refl (sym (some_is _ t e))
in_mailbox s now (Fed view changes ∷ (b ∷ more)) t e = cc
in_mailbox s now (Refused Lapped ∷ []) t e = is_lapped refl (sym (some_is _ t e))
in_mailbox s now (Refused Lapped ∷ (b ∷ more)) t e = cc
in_mailbox s now (Refused Stranger ∷ []) t e = is_unknown refl (sym (some_is _ t e))
in_mailbox s now (Refused Stranger ∷ (b ∷ more)) t e = cc
in_mailbox s now (Refused Spent ∷ more) t e = cc
in_mailbox s now (Refused NoMemory ∷ more) t e = cc
in_mailbox s now (Entered opening ∷ more) t e = cc
in_mailbox s now (Looked view ∷ more) t e = cc
in_mailbox s now (Found row ∷ more) t e = cc
in_mailbox s now (Counted status ∷ more) t e = cc
in_mailbox s now (Altered flags ∷ more) t e = cc
in_mailbox s now (Expunged view changes gone ∷ more) t e = cc
in_mailbox s now (Left gone ∷ more) t e = cc
in_mailbox s now (Discarded ∷ more) t e = cc
in_mailbox s now (Starved n ∷ more) t e = cc

chosen : (o : Option Chosen) → IsSome o → (s : Chosen) × (o ≡ Some s)
chosen None h = cc
chosen (Some s) h = (s, refl)

case_of : (now : Standing) (answers : List Answer) (t : Turn) → idle_turn now answers ≡ Some t → is_idling now ≡ true → IsSome now.selected → IdleCase now answers t
case_of now answers t e idles some =
    let s = chosen now.selected some in
    in_mailbox s.0 now answers t (sym (ap (λ (x : Option Chosen). idle_turn_in x (is_idling now) now answers) s.1 ∙ ap (λ (b : Bool). idle_turn_in (Some s.0) b now answers) idles) ∙ e)

lives_of : (a b : Bool) → (a && not b) ≡ true → b ≡ false
lives_of true true e = sym e
lives_of false true e = sym e
lives_of a false e = refl

-- a session that idles has not ended
lives : (now : Standing) → is_idling now ≡ true → now.ended ≡ false
lives now e = lives_of (is_some now.idling) now.ended e

-- ---- at the store

-- something was shown, and the session is less behind; or it has ended
abbrev Gains : CoreStore → CoreStore → ℕ → Standing → Type 0
Gains old new count next = ((0 < count) × (behind new.core old.session < behind old.core old.session)) ⊎ (next.ended ≡ true)

pub gains : (now : Standing) (old new : CoreStore) (before after : List ℕ) (count : ℕ) (next : Standing) → IdleTurns Serves now old new before after count next → is_idling now ≡ true → IsSome now.selected
    → (IsSome (client_of old.core old.session) → behind old.core old.session ≡ 0 → ⊥) → Gains old new count next
gains now old new before after count next t idles some news = go (case_of now t.answers (record { events = t.events; bytes = t.bytes; after = t.how; standing = next }) t.played idles some)
  where
    go : IdleCase now t.answers (record { events = t.events; bytes = t.bytes; after = t.how; standing = next }) → Gains old new count next
    go (is_shown view changes a e) =
        let met = subst (λ (es : List Event). Met Serves old es new) (ap (λ (x : Turn). x.events) e) t.met in
        let less = subst (λ (d : CoreStore). CatchesUp old.session old.core (Feed most_changes) (Fed view changes) d.core) (sym met.2) met.1.behind in
        let counted : count ≡ length changes + 0 = t.shown ∙ ap count_shown a in
        elim (cases_lt 0 (behind old.core old.session)) [
          | inl l ↦ inl (omega (arith, counted, less.1, l), omega (arith, less.1, less.2, l))
          | inr z ↦ absurd (news less.0 (omega (arith, z)))
        ]
    go (is_lapped a e) = inr (ap (λ (x : Turn). x.standing.ended) e)
    go (is_unknown a e) = inr (ap (λ (x : Turn). x.standing.ended) e)

-- ---- where there is nothing to do

quiet : (shown : ℕ) (ended : Bool) → (0 < shown) ⊎ (ended ≡ true) → shown ≡ 0 → ended ≡ false → ⊥
quiet shown ended (inl h) e f = omega (arith, h, e)
quiet shown ended (inr h) e f = let g : true ≡ false = sym h ∙ f in cc

-- session n has selected a mailbox, and was shown all of its log
abbrev IsCurrent : World → ℕ → Type 0
IsCurrent w n = Selected w n (λ s. ((w.box s.mailbox).base ≤ s.cursor) × (pending (w.box s.mailbox) s ≡ []))

same_session : (w : World) (n : ℕ) (r s : Session) → w.session n ≡ Some r → w.session n ≡ Some s → r ≡ s
same_session w n r s a b = some_is r s (sym a ∙ b)

fed_nothing : (k : Config) (n : ℕ) (w v : World) (view : List ℕ) (changes : List Change) → Meets k n w (Feed most_changes) (Fed view changes) v → IsCurrent w n → changes ≡ []
fed_nothing k n w v view changes m c =
    let d = m.1 in
    let none = subst (λ (x : Session). pending (w.box x.mailbox) x ≡ []) (same_session w n c.0 d.0 c.1 d.1) c.2.1 in
    d.2.1.handed ∙ ap (λ (cs : List Change). take most_changes cs) none

not_lapped : (k : Config) (n : ℕ) (w v : World) → Meets k n w (Feed most_changes) (Refused Lapped) v → IsCurrent w n → ⊥
not_lapped k n w v m c =
    let d = m.1.1 in
    let low = subst (λ (x : Session). (w.box x.mailbox).base ≤ x.cursor) (same_session w n c.0 d.0 c.1 d.1) c.2.0 in
    let under = d.2 in
    omega (arith, low, under)

not_unknown : (k : Config) (n : ℕ) (w v : World) → Meets k n w (Feed most_changes) (Refused Stranger) v → IsCurrent w n → ⊥
not_unknown k n w v m c = let f : Some c.0 ≡ None = sym c.1 ∙ m.1 in cc

up_to_date : (k : Setup) (place : ℕ) (w v : World) (b : SeatedVisitor) (o : Option SeatedVisitor) (printed : List ℕ) → IsSome b.session.standing.selected → IsCurrent w place → SessionIdles k true place w b v o printed → ⊥
up_to_date k place w v b o printed some c i =
    go (case_of b.session.standing i.idles.turned.answers (record { events = i.idles.turned.events; bytes = i.idles.turned.bytes; after = i.idles.turned.how; standing = i.after.standing }) i.idles.turned.played i.idling some)
  where
    met_as : (es : List Event) → i.idles.turned.events ≡ es → Met (λ (x : World) call answer y. Meets k.config place x call answer y) w es i.mid
    met_as es e = subst (λ (xs : List Event). Met (λ (x : World) call answer y. Meets k.config place x call answer y) w xs i.mid) e i.idles.turned.met

    go : IdleCase b.session.standing i.idles.turned.answers (record { events = i.idles.turned.events; bytes = i.idles.turned.bytes; after = i.idles.turned.how; standing = i.after.standing }) → ⊥
    go (is_shown view changes a e) =
        let met = met_as (record { call = Feed most_changes; answer = Fed view changes } ∷ []) (ap (λ (x : Turn). x.events) e) in
        let none = fed_nothing k.config place w met.0 view changes met.1 c in
        quiet i.shown i.after.standing.ended i.something (i.idles.turned.shown ∙ ap count_shown a ∙ ap (λ (cs : List Change). length cs + 0) none) (ap (λ (x : Turn). x.standing.ended) e ∙ lives b.session.standing i.idling)
    go (is_lapped a e) =
        let met = met_as (record { call = Feed most_changes; answer = Refused Lapped } ∷ []) (ap (λ (x : Turn). x.events) e) in
        not_lapped k.config place w met.0 met.1 c
    go (is_unknown a e) =
        let met = met_as (record { call = Feed most_changes; answer = Refused Stranger } ∷ []) (ap (λ (x : Turn). x.events) e) in
        not_unknown k.config place w met.0 met.1 c

-- where its client is there, its standing is what the seat says
standing_is : (seat : ℕ) (next : CopyKey) (heard : List Noted) (p : SeatedSession) (b : SeatedVisitor) → StandsForSeated seat next heard p b → b.gone ≡ false → p.place.link.session ≡ b.session.standing
standing_is seat next heard p b s live = (s.place (s.gone ∙ live)).connection.session

pub none_new : (p : SeatedSession) (place : ℕ) (h : DeliveryCore) → IsSome p.place.link.session.selected → ((k : Config) (w : World) → core.StandsFor k h w → IsCurrent w place) → HasNoTurn place (Some p) h
none_new p place h some current k next heard w v b o printed stands there i =
    up_to_date k place w v b o printed (subst (λ (x : Standing). IsSome x.selected) (standing_is (session_seat k place) next heard p b there i.is_read) some) (current k.config w stands) i

-- ---- one turn

-- what it does over the store is what it does in the world
record Turned (k : Setup) (place number : ℕ) (b : SeatedVisitor) (after : Visitor) (count : ℕ) (w : World) (old store : CoreStore) (printed : List ℕ) : Type 0 where
  pub mid : World
  pub idles : Idles (λ (x : World) call answer y. Meets k.config place x call answer y) number b.session w mid after count printed
  pub serving : IsServing k.config place store mid
  pub rest : SameDelivery old.core store.core
  pub is_read : b.gone ≡ false
  pub idling : is_idling b.session.standing ≡ true
  pub something : (0 < count) ⊎ (after.standing.ended ≡ true)

turned : (k : Setup) (number count : ℕ) (next : CopyKey) (heard : List Noted) (b : SeatedVisitor) (after : Visitor) (old new : CoreStore) (printed : List ℕ) (w : World) (p : SeatedSession) → Idles Serves number b.session old new after count printed → old.session ≡ number - 1
    → core.StandsFor k.config old.core w → StandsForSeated (session_seat k (number - 1)) next heard p b → MayIdle p (number - 1) old.core → Turned k (number - 1) number b after count w old new printed
turned k number count next heard b after old new printed w p i at stands there may =
    let c = idles_carried Serves (λ x call answer v. Meets k.config (number - 1) x call answer v) (IsServing k.config (number - 1)) (carries k.config (number - 1)) number b.session old new after count printed w i (record { session = at; stands = stands }) in
    let read : b.gone ≡ false = sym there.gone ∙ may.is_read in
    let is = standing_is (session_seat k (number - 1)) next heard p b there read in
    let idling : is_idling b.session.standing ≡ true = ap is_idling (sym is) ∙ may.idling in
    record {
      mid = c.0;
      idles = c.1;
      serving = c.2;
      rest = met_delivery old new i.turned.events i.turned.met;
      is_read = read;
      idling = idling;
      something = elim (gains b.session.standing old new [] i.said count after.standing i.turned idling (subst (λ (x : Standing). IsSome x.selected) is may.selected)
          (subst (λ (n : ℕ). IsSome (client_of old.core n) → behind old.core n ≡ 0 → ⊥) (sym at) may.news)) [
            | inl some ↦ inl some.0
            | inr over ↦ inr over
          ];
    }

-- it remains at its place
pub idled : (k : Setup) (whole : Bool) (number count : ℕ) (next : CopyKey) (heard : List Noted) (b : SeatedVisitor) (old new : CoreStore) (w : World) (p q : SeatedSession) (before after : List ℕ) → 0 < number → old.session ≡ number - 1 → core.StandsFor k.config old.core w
    → StandsForSeated (session_seat k (number - 1)) next heard p b → MayIdle p (number - 1) old.core → Idled Serves whole (session_seat k (number - 1)) number count next heard b old new before after q → q.gone ≡ false → (whole ≡ true → q.place.link.session.ended ≡ false)
    → PlaceIdled k whole (number - 1) next heard w b old.core (Some q) new.core before after
idled k whole number count next heard b old new w p q before after some at stands there may o live going =
    let g = turned k number count next heard b o.after old new o.printed w p o.idles at stands there may in
    let counted : number ≡ (number - 1) + 1 = omega (arith, some) in
    record {
      left = Some (with_session o.after b);
      moved = g.mid;
      printed = o.printed;
      goes = record {
        is_read = g.is_read;
        idling = g.idling;
        after = o.after;
        mid = g.mid;
        shown = count;
        idles = subst (λ (n : ℕ). Idles (Meets k.config (number - 1)) n b.session w g.mid o.after count o.printed) counted g.idles;
        something = g.something;
        all = o.all;
        left = scene.remains (λ h e. absurd (let f = going h in let r = ap (λ (x : Standing). x.ended) (o.stands.place live).connection.session in let u = e in cc)) refl refl;
      };
      there = o.stands;
      core = g.serving.stands;
      rest = g.rest;
      out = o.out;
    }

-- it has parted, and left its mailbox
pub idled_out : (k : Setup) (number count : ℕ) (next : CopyKey) (heard : List Noted) (b : SeatedVisitor) (old mid new : CoreStore) (answer : Answer) (w : World) (p q : SeatedSession) (before after : List ℕ) → 0 < number → old.session ≡ number - 1 → core.StandsFor k.config old.core w
    → StandsForSeated (session_seat k (number - 1)) next heard p b → MayIdle p (number - 1) old.core → Idled Serves true (session_seat k (number - 1)) number count next heard b old mid before after q → q.gone ≡ false → q.place.link.session.ended ≡ true
    → Serves mid (calls.Leave false) answer new → PlaceIdled k true (number - 1) next heard w b old.core None new.core before after
idled_out k number count next heard b old mid new answer w p q before after some at stands there may o live over leaves =
    let g = turned k number count next heard b o.after old mid o.printed w p o.idles at stands there may in
    let counted : number ≡ (number - 1) + 1 = omega (arith, some) in
    let gone = carries k.config (number - 1) mid new (calls.Leave false) answer g.mid leaves g.serving in
    record {
      left = None;
      moved = gone.0;
      printed = o.printed;
      goes = record {
        is_read = g.is_read;
        idling = g.idling;
        after = o.after;
        mid = g.mid;
        shown = count;
        idles = subst (λ (n : ℕ). Idles (Meets k.config (number - 1)) n b.session w g.mid o.after count o.printed) counted g.idles;
        something = g.something;
        all = o.all;
        left = scene.parts (sym (ap (λ (x : Standing). x.ended) (o.stands.place live).connection.session) ∙ over) (o.all refl) (answer, gone.1) refl;
      };
      there = tt;
      core = gone.2.stands;
      rest = delivery_then old.core mid.core new.core g.rest leaves.rest;
      out = o.out;
    }

-- memory was refused before anything was done
missed : (k : Setup) (number : ℕ) (next : CopyKey) (heard : List Noted) (b : SeatedVisitor) (old new : CoreStore) (w : World) (q : SeatedSession) (before after : List ℕ) → old.session ≡ number - 1 → core.StandsFor k.config old.core w
    → Missed Serves (session_seat k (number - 1)) next heard b old new before after q → PlaceKept k (number - 1) next heard w b old.core (Some q) new.core before after
missed k number next heard b old new w q before after at stands m = go m.starves
  where
    go : Starves Serves old new → PlaceKept k (number - 1) next heard w b old.core (Some q) new.core before after
    go (inl same) = record {
      there = m.stands;
      core = subst (λ (d : CoreStore). core.StandsFor k.config d.core w) (sym same) stands;
      rest = subst (λ (d : CoreStore). SameDelivery old.core d.core) (sym same) (same_delivery old.core);
      out = m.out;
    }
    go (inr starved) =
        let c = carries k.config (number - 1) old new (Feed most_changes) (Refused NoMemory) w starved (record { session = at; stands = stands }) in
        record {
          there = m.stands;
          core = subst (λ (v : World). core.StandsFor k.config new.core v) c.1.0 c.2.stands;
          rest = starved.rest;
          out = m.out;
        }

pub idled_in_part : (k : Setup) (number : ℕ) (next : CopyKey) (heard : List Noted) (b : SeatedVisitor) (old new : CoreStore) (w : World) (p q : SeatedSession) (before after : List ℕ) → 0 < number → old.session ≡ number - 1 → core.StandsFor k.config old.core w
    → StandsForSeated (session_seat k (number - 1)) next heard p b → MayIdle p (number - 1) old.core → IdledInPart Serves (session_seat k (number - 1)) number next heard b old new before after q → q.gone ≡ false
    → PlaceIdledInPart k (number - 1) next heard w b old.core (Some q) new.core before after
idled_in_part k number next heard b old new w p q before after some at stands there may (inl m) live = inr (missed k number next heard b old new w q before after at stands m)
idled_in_part k number next heard b old new w p q before after some at stands there may (inr (count, o)) live =
    inl (idled k false number count next heard b old new w p q before after some at stands there may o live (λ e. absurd (let f : false ≡ true = e in cc)))

-- one that remains is less behind
pub turns_fewer : (p q : SeatedSession) (number count : ℕ) (said : List ℕ) (old new : CoreStore) → old.session ≡ number - 1 → MayIdle p (number - 1) old.core → IdleTurns Serves p.place.link.session old new [] said count q.place.link.session → q.place.link.session.ended ≡ false
    → turns_left (Some q) (behind new.core (number - 1)) < turns_left (Some p) (behind old.core (number - 1))
turns_fewer p q number count said old new at may t live =
    elim (gains p.place.link.session old new [] said count q.place.link.session t may.idling may.selected (subst (λ (n : ℕ). IsSome (client_of old.core n) → behind old.core n ≡ 0 → ⊥) (sym at) may.news)) [
      | inl some ↦ (let l = subst (λ (n : ℕ). behind new.core n < behind old.core n) at some.1 in omega (arith, l))
      | inr over ↦ absurd (let f : true ≡ false = sym over ∙ live in cc)
    ]

-- ---- the house

idle_serial : (k : Setup) (whole : Bool) (place : ℕ) (w : World) (a : SeatedVisitor) (v : World) (o : Option SeatedVisitor) (printed : List ℕ) (b : SeatedVisitor) → SessionIdles k whole place w a v o printed → o ≡ Some b → b.serial ≡ a.serial
idle_serial k whole place w a v o printed b i e = parts_serial k whole place (with_session i.after a) i.mid v o b i.left e

-- the serials stay
counted_still : (k : Setup) (h : House) (s : Scene) (place : ℕ) → StandsFor k h s → place < length h.visitors → (n : ℕ) → get_or h.entered place n ≡ s.entered place
counted_still k h s place st lt n = (st.visitors place (first_key 0) n None lt).counted

idled_at : (k : Setup) (whole : Bool) (h : House) (s : Scene) (place : ℕ) (p : SeatedSession) (q : Option SeatedSession) (c : DeliveryCore) (old new : List ℕ) → StandsFor k h s → place < length h.visitors → (a : IsAtPlace k s place (get_or h.core.next (session_seat k place) (first_key 0)) p)
    → PlaceIdled k whole place (get_or h.core.next (session_seat k place) (first_key 0)) (s.world.heard (session_seat k place)) s.world a.visitor h.core q c old new
    → (t : Scene) × (printed : List ℕ) × IdlePlay k whole s place t printed × StandsFor k (with_visits h c place q h.entered) t × (new ≡ old ++ printed)
idled_at k whole h s place p q c old new st within a m = (
  with_visitor (with_world s m.moved) place m.left,
  m.printed,
  record { visitor = a.visitor; there = a.here; moved = m.moved; left = m.left; goes = m.goes; after = refl },
  visit_stands k h c h.entered s m.moved s.entered place (first_key 0) q m.left st m.core m.rest within refl (λ n. counted_still k h s place st within n) (λ i n ne. refl) (λ i ne. refl)
      (who_stays (session_seat k place) (get_or h.core.next (session_seat k place) (first_key 0)) (s.world.heard (session_seat k place)) (s.entered place) q m.left p a.visitor m.there a.stands a.serial
      (λ x e. idle_serial k whole place s.world a.visitor m.moved m.left m.printed x m.goes e)),
  m.out,
)

pub idle_led : (k : Setup) (whole : Bool) (h : House) (s : Scene) (place : ℕ) (p : SeatedSession) (q : Option SeatedSession) (c : DeliveryCore) (old new : List ℕ) → StandsFor k h s → place < length h.visitors
    → get_or h.visitors place None ≡ Some p
    → ((next : CopyKey) (heard : List Noted) (w : World) (b : SeatedVisitor) → core.StandsFor k.config h.core w → StandsForSomebody (session_seat k place) next heard (Some p) (Some b) → PlaceIdled k whole place next heard w b h.core q c old new)
    → (t : Scene) × (printed : List ℕ) × IdlePlay k whole s place t printed × StandsFor k (with_visits h c place q h.entered) t × (new ≡ old ++ printed)
idle_led k whole h s place p q c old new st within some goes =
    let a = at_place k h s place (first_key 0) p st within some in
    idled_at k whole h s place p q c old new st within a (goes (get_or h.core.next (session_seat k place) (first_key 0)) (s.world.heard (session_seat k place)) s.world a.visitor st.core a.stands)

-- nothing was done there, and the house stands as it did
kept_stands : (k : Setup) (h : House) (s : Scene) (c : DeliveryCore) (place : ℕ) (p : SeatedSession) (q : Option SeatedSession) (old new : List ℕ) → StandsFor k h s → place < length h.visitors → (a : IsAtPlace k s place (get_or h.core.next (session_seat k place) (first_key 0)) p)
    → PlaceKept k place (get_or h.core.next (session_seat k place) (first_key 0)) (s.world.heard (session_seat k place)) s.world a.visitor h.core q c old new
    → StandsFor k (with_visits h c place q h.entered) s
kept_stands k h s c place p q old new st within a m =
    again (visit_stands k h c h.entered s s.world s.entered place (first_key 0) q (Some a.visitor) st m.core m.rest within refl (λ n. counted_still k h s place st within n) (λ i n ne. refl) (λ i ne. refl)
    (who_stays (session_seat k place) (get_or h.core.next (session_seat k place) (first_key 0)) (s.world.heard (session_seat k place)) (s.entered place) q (Some a.visitor) p a.visitor m.there a.stands a.serial (λ x e. same_there x e)))
  where
    same_there : (x : SeatedVisitor) → Some a.visitor ≡ Some x → x.serial ≡ a.visitor.serial
    same_there x e = let f : a.visitor ≡ x = cc in ap (λ (v : SeatedVisitor). v.serial) (sym f)

    -- at the place is who was there
    as_before : (i : ℕ) → set_at s.visitor place (Some a.visitor) i ≡ s.visitor i
    as_before i = at_cases (λ (v : Option SeatedVisitor). v ≡ s.visitor i) s.visitor place (Some a.visitor) i (λ e. sym a.here ∙ ap s.visitor (sym e)) (λ e. refl)

    again : StandsFor k (with_visits h c place q h.entered) (with_visitor s place (Some a.visitor)) → StandsFor k (with_visits h c place q h.entered) s
    again g = record {
      core = g.core;
      directory = g.directory;
      host = g.host;
      max_message = g.max_message;
      compatible = g.compatible;
      homes = g.homes;
      marks = g.marks;
      shards = g.shards;
      some_shard = g.some_shard;
      seats = g.seats;
      connections = g.connections;
      numbers = g.numbers;
      each = λ seat y i d l. let e = g.each seat y i d l in record { counted = e.counted; who = e.who };
      places = g.places;
      entries = g.entries;
      visitors = λ i y n d l. let e = g.visitors i y n d l in place_kept k (with_visitor s place (Some a.visitor)) s i _ _ _ _ _ _ e refl refl refl refl (sym (as_before i)) refl;
    }

pub idle_led_in_part : (k : Setup) (h : House) (s : Scene) (place : ℕ) (p : SeatedSession) (q : Option SeatedSession) (c : DeliveryCore) (old new : List ℕ) → StandsFor k h s → place < length h.visitors
    → get_or h.visitors place None ≡ Some p
    → ((next : CopyKey) (heard : List Noted) (w : World) (b : SeatedVisitor) → core.StandsFor k.config h.core w → StandsForSomebody (session_seat k place) next heard (Some p) (Some b) → PlaceIdledInPart k place next heard w b h.core q c old new)
    → ((t : Scene) × (printed : List ℕ) × IdlePlay k false s place t printed × StandsFor k (with_visits h c place q h.entered) t × (new ≡ old ++ printed)) ⊎ (StandsFor k (with_visits h c place q h.entered) s × (new ≡ old))
idle_led_in_part k h s place p q c old new st within some goes =
    let a = at_place k h s place (first_key 0) p st within some in
    part a (goes (get_or h.core.next (session_seat k place) (first_key 0)) (s.world.heard (session_seat k place)) s.world a.visitor st.core a.stands)
  where
    part : (a : IsAtPlace k s place (get_or h.core.next (session_seat k place) (first_key 0)) p) → PlaceIdledInPart k place (get_or h.core.next (session_seat k place) (first_key 0)) (s.world.heard (session_seat k place)) s.world a.visitor h.core q c old new
        → ((t : Scene) × (printed : List ℕ) × IdlePlay k false s place t printed × StandsFor k (with_visits h c place q h.entered) t × (new ≡ old ++ printed)) ⊎ (StandsFor k (with_visits h c place q h.entered) s × (new ≡ old))
    part a (inl m) = inl (idled_at k false h s place p q c old new st within a m)
    part a (inr m) = inr (kept_stands k h s c place p q old new st within a m, m.out)

-- where the session there has no turn, nobody is shown anything
pub idle_none : (k : Setup) (h : House) (s : Scene) (place : ℕ) (p : SeatedSession) (t : Scene) (printed : List ℕ) → StandsFor k h s → place < length h.visitors → get_or h.visitors place None ≡ Some p → HasNoTurn place (Some p) h.core
    → IdlePlay k true s place t printed → ⊥
idle_none k h s place p t printed st within some none play =
    let a = at_place k h s place (first_key 0) p st within some in
    let same : a.visitor ≡ play.visitor = some_is a.visitor play.visitor (sym a.here ∙ play.there) in
    none k (get_or h.core.next (session_seat k place) (first_key 0)) (s.world.heard (session_seat k place)) s.world play.moved play.visitor play.left printed st.core
    (subst (λ (b : SeatedVisitor). StandsForSeated (session_seat k place) (get_or h.core.next (session_seat k place) (first_key 0)) (s.world.heard (session_seat k place)) p b) same a.stands) play.goes
