-- A session's steps.
use Rattle.std.proofs.Common.{◌≡◌, ℕ, suc, ◌+◌, ◌<◌, ◌⊎◌, inl, inr, Bool, true, false, List, [], ◌∷◌, ◌++◌, length, take, drop, get_or, arith, refl, sym, ap, ap₂, ◌∙◌, subst, ◌&&◌, not, is_some, Option}
use Rattle.std.specs.Global.{Global}
use Rattle.std.specs.Prelude.{IfErr, OnErr, OnOk, Result, Ok, Err, Vec}
use Rattle.std.specs.Result.{IsErrAnd}
use Rattle.imap_session.specs.Commands.{greeting, most_changes}
use Rattle.imap_session.specs.declared.standing.Profile.TheVariants.{Standard}
use Rattle.std.proofs.Math.Seq.{split_at}
use Rattle.std.proofs.lemmas.List.{take_more}
use Rattle.imap_session.specs.declared.standing.SessionFault.{SessionFault}
use Rattle.imap_session.specs.declared.standing.SessionFault.TheVariants as faults
use Rattle.imap_session.specs.declared.standing.SessionFault.TheVariants.{Ended}
use Rattle.imap_session.specs.Exchange.{Feed, Folder, Refused, Standing, begun_with, is_idling}
use Rattle.mailbox.specs.declared.clients.MailFault.TheVariants.{NoMemory}
use Rattle.imap_session.specs.Dialogue as dialogue
use Rattle.imap_session.specs.Store.{IdleTurns}
use Rattle.imap_session.specs.Dialogue.{Dialogue, ImapConnection, StandsFor}
use Rattle.settings.specs.declared.step.Step.{Step}
use Rattle.settings.specs.declared.step.Step.TheVariants.{Say, Await}
use Rattle.session_thread.specs.Locks.{Holds, LockedStore, shown_in}
use Rattle.session_thread.specs.Life.{Awaits, Departs, Does, HasShown, HasTurn, IsForgotten, IsOver, IsShortInTurn, Lives, LivesInPart, Moment, Says, SaysInPart, Steps, StopsIn, Turns, another, goes_on, greeted_at, moment, takes_more, known_client}
use Rattle.workers_sync.specs.Carried.{Carried}
use Rattle.workers_sync.specs.declared.courier.Lost.{Lost}
use Rattle.workers_sync.specs.declared.courier.Lost.TheVariants as lost

-- ---- errors that are handed on

-- what holds whatever came holds of an error
pub on_err : {A E : Type 0} (r : Result A E) (P : Type 0) → P → OnErr r P
on_err (Ok x) P h = tt
on_err (Err e) P h = h

-- what holds of an error holds of it where it was handed on
pub handed_on : {A E : Type 0} (r : Result A E) (e : E) (P : E → Type 0) → IsErrAnd r (λ y. y ≡ e) → P e → IfErr r P
handed_on (Ok x) e P is h = tt
handed_on (Err y) e P is h = subst P (sym is) h

-- ---- turns

one_more : (k : ℕ) → suc k ≡ k + 1
one_more k = omega arith

true_false : {b : Bool} → b ≡ true → b ≡ false → ⊥
true_false e f = let g = sym e ∙ f in cc

-- there is something to wait for
pub not_over : (count : ℕ) (d : Dialogue) (selection : LockedStore) (text : List ℕ) (was : ImapConnection) → StandsFor was d → shown_in selection.entered < count → is_idling was.session ≡ true → IsOver count (moment d selection text) → ⊥
not_over count d selection text was stands few idles (inl enough) = absurd (omega (arith, few, enough))
not_over count d selection text was stands few idles (inr awake) = true_false (subst (λ (s : Standing). is_idling s ≡ true) stands.session idles) awake

-- a turn more
pub turned_on : (count k : ℕ) (first : Moment) (d next : Dialogue) (old new : LockedStore) (before after : List ℕ) (was : ImapConnection) → StandsFor was d → shown_in old.entered < count → is_idling was.session ≡ true
    → Turns count first k (moment d old before) → HasTurn (moment d old before) (moment next new after) → Turns count first (k + 1) (moment next new after)
turned_on count k first d next old new before after was stands few idles had t =
    subst (λ (j : ℕ). Turns count first j (moment next new after)) (one_more k)
    (another k (moment d old before) (moment next new after) had (not_over count d old before was stands few idles) t)

awake : (tag ended : Bool) → (tag && not ended) ≡ true → ended ≡ true → ⊥
awake true true e f = cc
awake false true e f = cc
awake tag false e f = cc

abbrev failed : SessionFault → Result ℕ SessionFault
failed fault = Err fault

-- what the connection idles, its dialogue does
pub idle_of : (d : Dialogue) (was : ImapConnection) → StandsFor was d → is_idling was.session ≡ true → is_idling d.standing ≡ true
idle_of d was s idles = subst (λ (x : Standing). is_idling x ≡ true) s.session idles

pub has_shown : (count : ℕ) (d : Dialogue) (old new : LockedStore) (before middle after : List ℕ) (was link : ImapConnection) → StandsFor was d → is_idling was.session ≡ true → middle ≡ before → dialogue.Turns Holds d old new middle after count link
    → (next : Dialogue) × StandsFor link next × HasShown count (moment d old before) (moment next new after)
has_shown count d old new before middle after was link s idles kept t = (
  record { standing = t.next; begun = d.begun },
  t.stands,
  (
    idle_of d was s idles,
    (
      record {
        count = count;
        turned = subst (λ (b : List ℕ). IdleTurns Holds d.standing old new b after count t.next) kept t.turned;
        begun = refl;
      },
      refl,
    ),
  ),
)

-- no turn: the session stands where it stood, and its mailbox refused it memory
pub no_turn : (d : Dialogue) (old new : LockedStore) (before middle after : List ℕ) (room : ℕ) (was link : ImapConnection) (fault : SessionFault) → StandsFor was d → is_idling was.session ≡ true → middle ≡ before
    → (failed fault ≡ failed Ended → was.session.ended ≡ true) → (failed fault ≡ failed faults.NoMemory → Holds old (Feed most_changes) (Refused NoMemory) new) → (link ≡ was) × (after ≡ middle)
    → StandsFor link d × (moment d new after ≡ moment d old before) × IsShortInTurn room (moment d new after)
no_turn d old new before middle after room was link Ended stands idles kept over starved same = absurd (awake (is_some was.session.idling) was.session.ended idles (over refl))
no_turn d old new before middle after room was link faults.NoMemory stands idles kept over starved same =
    let h : Holds old (Feed most_changes) (Refused NoMemory) new = starved refl in (
      subst (λ (l : ImapConnection). StandsFor l d) (sym same.0) stands,
      ap₂ (moment d) h.0 (same.1 ∙ kept),
      inr (subst (λ (p : LockedStore). Holds p (Feed most_changes) (Refused NoMemory) new) (sym h.0) h),
    )

-- ---- steps

pub lived_on : (turns : ℕ) (first : Moment) (steps : List Step) (i : ℕ) (step : Step) (carried more : List Carried) (now next : Moment) → i < length steps → step ≡ get_or steps i step → Lives turns first (take i steps) carried now → Steps turns step more now next
    → Lives turns first (take (i + 1) steps) (carried ++ more) next
lived_on turns first steps i step carried more now next l is lives does =
    subst (λ (xs : List Step). Lives turns first xs (carried ++ more) next) (sym (take_more steps i step l ∙ ap (λ (s : Step). take i steps ++ s ∷ []) (sym is))) (goes_on (take i steps) step carried more now next lives does)

-- a session that takes nothing more does nothing
pub rested : (turns : ℕ) (step : Step) (d : Dialogue) (selection : LockedStore) (text : List ℕ) (was : ImapConnection) → takes_more was.session ≡ false → StandsFor was d
    → (next : Dialogue) × StandsFor was next × Steps turns step [] (moment d selection text) (moment next selection text)
rested turns step d selection text was over stands = (d, stands, inl (subst (λ (s : Standing). takes_more s ≡ false) stands.session over, refl, refl))

-- what a step of this kind does
abbrev Leads : (Moment → Moment → Type 0) → ImapConnection → LockedStore → List ℕ → ImapConnection → LockedStore → List ℕ → Type 0
Leads P was old before link new after = (d : Dialogue) → StandsFor was d → (next : Dialogue) × StandsFor link next × P (moment d old before) (moment next new after)

did : (turns : ℕ) (step kind : Step) (carried : List Carried) (old new : LockedStore) (before after : List ℕ) (was link : ImapConnection) → takes_more was.session ≡ true → step ≡ kind
    → Leads (Does turns kind carried) was old before link new after → Leads (Steps turns step carried) was old before link new after
did turns step kind carried old new before after was link goes is does d stands =
    let t = does d stands in (
      t.0,
      t.1,
      inr (subst (λ (s : Standing). takes_more s ≡ true) stands.session goes, subst (λ (s : Step). Does turns s carried (moment d old before) (moment t.0 new after)) (sym is) t.2),
    )

pub said_step : {A E : Type 0} (r : Result A E) (Was Now : List Carried → Type 0) (turns : ℕ) (step : Step) (v : Vec ℕ Global) (bytes : List ℕ) (old new : LockedStore) (before after : List ℕ) (was link : ImapConnection) → takes_more was.session ≡ true → step ≡ Say v → bytes ≡ v.items
    → OnOk r ((carried : List Carried) × ((done : List Carried) → Was done → Now (done ++ carried)) × Leads (Says bytes carried) was old before link new after)
    → OnOk r ((carried : List Carried) × ((done : List Carried) → Was done → Now (done ++ carried)) × Leads (Steps turns step carried) was old before link new after)
said_step (Ok x) Was Now turns step v bytes old new before after was link goes is items h =
    (h.0, h.1, did turns step (Say v) h.0 old new before after was link goes is (subst (λ (b : List ℕ). Leads (Says b h.0) was old before link new after) items h.2))
said_step (Err e) Was Now turns step v bytes old new before after was link goes is items h = h

pub awaited_step : (turns : ℕ) (step : Step) (count : ℕ) (old new : LockedStore) (before after : List ℕ) (was link : ImapConnection) → takes_more was.session ≡ true → step ≡ Await count
    → Leads (Awaits turns count) was old before link new after → Leads (Steps turns step []) was old before link new after
awaited_step turns step count old new before after was link goes is h =
    did turns step (Await count) [] old new before after was link goes is (λ d stands. let t = h d stands in (t.0, t.1, (refl, t.2)))

-- a step was begun by a session whose client may send more, and the session stopped in it
abbrev Stops : ℕ → ℕ → Step → Lost → ImapConnection → LockedStore → List ℕ → ImapConnection → LockedStore → List ℕ → Type 0
Stops turns room step why was old before link new after = (d : Dialogue) → StandsFor was d → (x : Dialogue) × StandsFor link x × (takes_more d.standing ≡ true) × StopsIn turns room step why (moment d old before) (moment x new after)

stopped : (turns room : ℕ) (step kind : Step) (why : Lost) (old new : LockedStore) (before after : List ℕ) (was link : ImapConnection) → takes_more was.session ≡ true → step ≡ kind
    → Leads (StopsIn turns room kind why) was old before link new after → Stops turns room step why was old before link new after
stopped turns room step kind why old new before after was link goes is h d stands =
    let t = h d stands in (t.0, t.1, subst (λ (s : Standing). takes_more s ≡ true) stands.session goes, subst (λ (s : Step). StopsIn turns room s why (moment d old before) (moment t.0 new after)) (sym is) t.2)

pub said_in_part : {A : Type 0} (r : Result A Lost) (turns room : ℕ) (step : Step) (v : Vec ℕ Global) (bytes : List ℕ) (old new : LockedStore) (before after : List ℕ) (was link : ImapConnection) → takes_more was.session ≡ true → step ≡ Say v → bytes ≡ v.items
    → IfErr r (λ why. Leads (SaysInPart room bytes why) was old before link new after) → IfErr r (λ why. Stops turns room step why was old before link new after)
said_in_part (Ok x) turns room step v bytes old new before after was link goes is items h = h
said_in_part (Err why) turns room step v bytes old new before after was link goes is items h =
    stopped turns room step (Say v) why old new before after was link goes is (subst (λ (b : List ℕ). Leads (SaysInPart room b why) was old before link new after) items h)

pub awaited_in_part : (turns room : ℕ) (step : Step) (count : ℕ) (old new : LockedStore) (before after : List ℕ) (was link : ImapConnection) → takes_more was.session ≡ true → step ≡ Await count
    → ((d : Dialogue) → StandsFor was d → (next : Dialogue) × StandsFor link next × ((had : ℕ) × (had < turns) × Turns count (moment d old before) had (moment next new after) × (IsOver count (moment next new after) → ⊥)) × IsShortInTurn room (moment next new after))
    → Stops turns room step lost.NoMemory was old before link new after
awaited_in_part turns room step count old new before after was link goes is h =
    stopped turns room step (Await count) lost.NoMemory old new before after was link goes is (λ d stands. let t = h d stands in (t.0, t.1, (t.2.0, t.2.1, t.2.2, t.2.3, t.3, refl)))

-- the first steps were made, and in the next the session stopped
pub lived_in_part : (turns room : ℕ) (first : Moment) (steps : List Step) (i : ℕ) (step : Step) (carried : List Carried) (why : Lost) (now last : Moment) → i < length steps → step ≡ get_or steps i step → Lives turns first (take i steps) carried now
    → takes_more now.dialogue.standing ≡ true → StopsIn turns room step why now last → LivesInPart turns room first steps why last
lived_in_part turns room first steps i step carried why now last l is lives goes stops = record {
  made = take i steps;
  step = step;
  others = drop (suc i) steps;
  are = split_at steps i step l ∙ ap (λ (s : Step). take i steps ++ s ∷ drop (suc i) steps) (sym is);
  carried = carried;
  now = now;
  lives = lives;
  goes = goes;
  stops = stops;
}

-- ---- the whole life

-- a client that was just greeted
abbrev pub first_dialogue : Option ℕ → List Folder → Dialogue
first_dialogue most folders = record { standing = begun_with (known_client most) folders; begun = [] }

-- it left, or is forgotten
pub left_or_forgotten : {A E P Q : Type 0} (r : Result A E) → OnOk r P → OnErr r Q → P ⊎ Q
left_or_forgotten (Ok x) p q = inl p
left_or_forgotten (Err e) p q = inr q

-- So it lived: these messages were carried, and this was its last moment.
abbrev Lived : (Was Now : List Carried → Type 0) → ℕ → Moment → List Step → LockedStore → List ℕ → (Moment → Type 0) → Type 0
Lived Was Now turns first steps new after P =
    (carried : List Carried) × ((done : List Carried) → Was done → Now (done ++ carried)) × ((x : Moment) × Lives turns first steps carried x × (after ≡ x.text) × P x)

-- it was greeted as one of the standard profile
greeted_so : (most : Option ℕ) (folders : List Folder) (before text : List ℕ) (link : ImapConnection) → StandsFor link (first_dialogue most folders) → text ≡ before ++ greeting link.session.profile
    → text ≡ before ++ greeting Standard
greeted_so most folders before text link stands greets = greets ∙ ap (λ (s : Standing). before ++ greeting s.profile) stands.session

lived_whole : (Was Now : List Carried → Type 0) (P : Moment → Type 0) (turns : ℕ) (most : Option ℕ) (folders : List Folder) (steps : List Step) (old new : LockedStore) (before text after : List ℕ) (link last : ImapConnection)
    → StandsFor link (first_dialogue most folders) → text ≡ before ++ greeting link.session.profile
    → (carried : List Carried) × ((done : List Carried) → Was done → Now (done ++ carried)) × ((d : Dialogue) → StandsFor link d → (next : Dialogue) × StandsFor last next × Lives turns (moment d old text) steps carried (moment next new after))
    → ((d : Dialogue) → P (moment d new after)) → Lived Was Now turns (greeted_at most folders old (before ++ greeting Standard)) steps new after P
lived_whole Was Now P turns most folders steps old new before text after link last stands greets h goes =
    let t = h.2 (first_dialogue most folders) stands in
    (h.0, h.1, (moment t.0 new after, subst (λ (w : List ℕ). Lives turns (greeted_at most folders old w) steps h.0 (moment t.0 new after)) (greeted_so most folders before text link stands greets) t.2, refl, goes t.0))

pub lived : {A E : Type 0} (r : Result A E) (Was Now : List Carried → Type 0) (turns : ℕ) (most : Option ℕ) (folders : List Folder) (steps : List Step) (old new end : LockedStore) (before text after : List ℕ) (link last : ImapConnection)
    → StandsFor link (first_dialogue most folders) → text ≡ before ++ greeting link.session.profile
    → (carried : List Carried) × ((done : List Carried) → Was done → Now (done ++ carried)) × ((d : Dialogue) → StandsFor link d → (next : Dialogue) × StandsFor last next × Lives turns (moment d old text) steps carried (moment next new after))
    → OnOk r (Departs new end) → OnOk r (Lived Was Now turns (greeted_at most folders old (before ++ greeting Standard)) steps new after (λ x. Departs x.selection end))
lived (Ok x) Was Now turns most folders steps old new end before text after link last stands greets h goes =
    lived_whole Was Now (λ x. Departs x.selection end) turns most folders steps old new before text after link last stands greets h (λ d. goes)
lived (Err e) Was Now turns most folders steps old new end before text after link last stands greets h goes = tt

-- What came where it stopped: nothing, or a first part of its life, or all of it.
abbrev Stopped : (turns room : ℕ) → Moment → List Step → Lost → (old end : LockedStore) → (before after : List ℕ) → Type 0
Stopped turns room first steps why old end before after =
    (end ≡ old) × (after ≡ before) × (why ≡ lost.NoMemory)
    ⊎ ((x : Moment) × LivesInPart turns room first steps why x × (after ≡ x.text) × (Departs x.selection end ⊎ IsForgotten x.selection end))
    ⊎ ((carried : List Carried) × ((x : Moment) × Lives turns first steps carried x × (after ≡ x.text) × IsForgotten x.selection end × (why ≡ lost.Torn)))

pub lived_forgotten : {A : Type 0} (r : Result A Lost) (Was Now : List Carried → Type 0) (turns room : ℕ) (most : Option ℕ) (folders : List Folder) (steps : List Step) (old new end : LockedStore) (before text after : List ℕ) (link last : ImapConnection)
    → StandsFor link (first_dialogue most folders) → text ≡ before ++ greeting link.session.profile
    → (carried : List Carried) × ((done : List Carried) → Was done → Now (done ++ carried)) × ((d : Dialogue) → StandsFor link d → (next : Dialogue) × StandsFor last next × Lives turns (moment d old text) steps carried (moment next new after))
    → OnErr r (IsForgotten new end) → IfErr r (λ why. why ≡ lost.Torn) → IfErr r (λ why. Stopped turns room (greeted_at most folders old (before ++ greeting Standard)) steps why old end before after)
lived_forgotten (Ok x) Was Now turns room most folders steps old new end before text after link last stands greets h goes torn = tt
lived_forgotten (Err why) Was Now turns room most folders steps old new end before text after link last stands greets h goes torn =
    let t = lived_whole Was Now (λ x. IsForgotten x.selection end) turns most folders steps old new before text after link last stands greets h (λ d. goes) in
    inr (inr (t.0, (t.2.0, t.2.1, t.2.2, t.2.3, torn)))

pub lived_some : (turns room : ℕ) (why : Lost) (most : Option ℕ) (folders : List Folder) (steps : List Step) (old new end : LockedStore) (before text after : List ℕ) (link last : ImapConnection) → StandsFor link (first_dialogue most folders) → text ≡ before ++ greeting link.session.profile
    → ((d : Dialogue) → StandsFor link d → (next : Dialogue) × StandsFor last next × LivesInPart turns room (moment d old text) steps why (moment next new after)) → Departs new end ⊎ IsForgotten new end
    → Stopped turns room (greeted_at most folders old (before ++ greeting Standard)) steps why old end before after
lived_some turns room why most folders steps old new end before text after link last stands greets h goes =
    let t = h (first_dialogue most folders) stands in
    inr (inl (moment t.0 new after, subst (λ (w : List ℕ). LivesInPart turns room (greeted_at most folders old w) steps why (moment t.0 new after)) (greeted_so most folders before text link stands greets) t.2, refl, goes))
