-- What a client says, and the verdicts on the messages that it submits.
use Rattle.std.proofs.Common.{◌≡◌, ◌≢◌, ℕ, ◌+◌, ◌-◌, ◌<◌, ◌≤◌, ◌⊎◌, inl, inr, Bool, true, false, List, [], ◌∷◌, ◌++◌, length, length-drop, take, drop, append-nil, append_assoc, arith, refl, sym, ap, ◌∙◌, subst, Option, None, Some, if◌then◌else◌}
use Rattle.std.specs.Prelude.{Err, IfSome, IsErr, Ok, OnOk, Result}
use Rattle.std.specs.Option.{option_map}
use Rattle.std.proofs.lemmas.List.{take_rest}
use Rattle.delivery_token.specs.declared.Verdict.{Verdict}
use Rattle.workers_sync.specs.Carried.{Carried}
use Rattle.workers_sync.specs.declared.courier.Lost.{Lost}
use Rattle.workers_sync.specs.declared.courier.Lost.TheVariants as lost
use Rattle.imap_session.specs.declared.standing.After.{After}
use Rattle.imap_session.specs.declared.standing.After.TheVariants.{Bye, Go, Idle, Literal, Submit}
use Rattle.imap_session.specs.declared.standing.Append.{Append}
use Rattle.imap_session.specs.Exchange.{PendingLiteral, Sent, Standing, may_send, waits_begun, waits_idling, waits_sent}
use Rattle.imap_session.specs.Happenings.{kept_tag, answer_room, tag_len}
use Rattle.imap_session.specs.Store.{AnswersVerdict, Follows, to_follow}
use Rattle.imap_session.specs.declared.connection.Progress.{Progress}
use Rattle.imap_session.specs.Dialogue as dialogue
use Rattle.imap_session.specs.Dialogue.{Dialogue, ImapConnection, StandsFor, Took, may_follow}
use Rattle.house_history.specs.Legal.{HasUid}
use Rattle.session_thread.specs.Locks.{Holds, LockedStore}
use Rattle.session_thread.specs.Life.{Says, SaysInPart, Speaks, TellsVerdict, carried_of, hears, moment, short, takes, takes_more, unheard}
use Rattle.session_thread.specs.inner.Hearing.{HearsOn, verdicts_left}

-- what holds of an Ok alone says nothing of an error
pub never_ok : {A E : Type 0} (r : Result A E) (P : Type 0) → IsErr r → OnOk r P
never_ok (Ok x) P e = absurd (let none : false ≡ true = e in cc)
never_ok (Err x) P e = tt

-- ---- what was carried

pub none_more : (P : List Carried → Type 0) (done : List Carried) → P done → P (done ++ [])
none_more P done h = subst P (sym (append-nil done)) h

pub more_carried : (P Q R : List Carried → Type 0) (carried more : List Carried) → ((done : List Carried) → P done → Q (done ++ carried)) → ((done : List Carried) → Q done → R (done ++ more))
    → (done : List Carried) → P done → R (done ++ (carried ++ more))
more_carried P Q R carried more first second done h = subst R (append_assoc done carried more) (second (done ++ carried) (first done h))

-- ---- what a session waits for

-- what a client may send, by the parts of a standing that say it
abbrev sends : Bool → Option Sent → Option PendingLiteral → Option (List ℕ) → After
sends ended sent begun idling = if ended then Bye else waits_sent sent (waits_begun begun (waits_idling idling))

follows : (ended : Bool) (sent : Option Sent) (begun : Option PendingLiteral) (idling : Option (List ℕ)) → ended ≡ false → sent ≡ None → may_follow (sends ended sent begun idling) ≡ true
follows true sent begun idling going unsent = absurd (let x : true ≡ false = going in cc)
follows false (Some s) begun idling going unsent = absurd (let x : Some s ≡ None = unsent in cc)
follows false None None None going unsent = refl
follows false None None (Some tag) going unsent = refl
follows false None (Some a) idling going unsent = refl

-- one that has not ended, and awaits no verdict, takes more
pub takes_more_now : (now : Standing) → now.ended ≡ false → now.mailing.sent ≡ None → takes_more now ≡ true
takes_more_now now going unsent = follows now.ended now.mailing.sent now.mailing.begun now.idling going unsent

stops : (ended : Bool) (sent : Option Sent) (begun : Option PendingLiteral) (idling : Option (List ℕ)) → sends ended sent begun idling ≢ Submit → (may_follow (sends ended sent begun idling) ≡ true) ⊎ (ended ≡ true)
stops true sent begun idling not = inr refl
stops false (Some s) begun idling not = absurd (not refl)
stops false None None None not = inl refl
stops false None None (Some tag) not = inl refl
stops false None (Some a) idling not = inl refl

-- one that waits for none takes more, or has ended
pub goes_or_ended : (now : Standing) → may_send now ≢ Submit → (takes_more now ≡ true) ⊎ (now.ended ≡ true)
goes_or_ended now not = stops now.ended now.mailing.sent now.mailing.begun now.idling not

-- ---- a verdict

-- the message that waits, as it was submitted
pub sent_of : (sent : Option Sent) (append : Append) → Some append ≡ option_map (λ (s : Sent). s.append) sent → (s : Sent) × (sent ≡ Some s) × (append ≡ s.append)
sent_of None append is = cc
sent_of (Some s) append is = (s, refl, cc)

pub told_verdict : (d : Dialogue) (append : Append) (verdict : Verdict) (old middle new : LockedStore) (before between after : List ℕ) (how : After) (was link : ImapConnection) → StandsFor was d → Some append ≡ option_map (λ (s : Sent). s.append) was.session.mailing.sent
    → middle ≡ old → between ≡ before → HasUid verdict → dialogue.Hears Holds d verdict middle new between after how link
    → (next : Dialogue) × StandsFor link next × TellsVerdict (carried_of append verdict) (moment d old before) (moment next new after)
told_verdict d append verdict old middle new before between after how was link stands is store text uid h =
    let s = sent_of was.session.mailing.sent append is in
    let selection = subst (λ (p : LockedStore). AnswersVerdict Holds d.standing verdict p new between after how h.next) store h.answered in (
      record { standing = h.next; begun = d.begun },
      h.stands,
      record {
        sent = s.0;
        awaited = subst (λ (x : Standing). x.mailing.sent ≡ Some s.0) stands.session s.1;
        carries = ap (λ (a : Append). carried_of a verdict) s.2;
        uid = uid;
        how = how;
        answered = subst (λ (b : List ℕ). AnswersVerdict Holds d.standing verdict old new b after how h.next) text selection;
        begun = refl;
      },
    )

-- ---- bytes

-- So each dialogue was led on, by so many of the bytes, with these verdicts.
abbrev pub Spoken : List ℕ → ℕ → List Carried → ImapConnection → LockedStore → List ℕ → ImapConnection → LockedStore → List ℕ → Type 0
Spoken bytes used carried was old before link new after = (d : Dialogue) → StandsFor was d → (now : Dialogue) × StandsFor link now × Speaks bytes (moment d old before) used carried (moment now new after)

-- bytes more, which the session took from the rest
pub said_more : (bytes : List ℕ) (used : ℕ) (carried : List Carried) (old middle new : LockedStore) (before between after : List ℕ) (progress : Progress) (was mid link : ImapConnection) → mid.session.ended ≡ false → mid.session.mailing.sent ≡ None
    → progress.used ≤ length (take (length bytes - used) (drop used bytes)) → ((d : Dialogue) → StandsFor mid d → Took Holds d (take (length bytes - used) (drop used bytes)) middle new between after progress link)
    → Spoken bytes used carried was old before mid middle between → Spoken bytes (used + progress.used) carried was old before link new after
said_more bytes used carried old middle new before between after progress was mid link going unsent few takes_some spoken d stands =
    let rest : take (length bytes - used) (drop used bytes) ≡ drop used bytes = take_rest bytes used in
    let n = spoken d stands in
    let t = subst (λ (piece : List ℕ). Took Holds n.0 piece middle new between after progress link) rest (takes_some n.0 n.1) in
    let few_here = subst (λ (piece : List ℕ). progress.used ≤ length piece) rest few in (
      t.next,
      t.stands,
      takes used progress.used carried (moment n.0 middle between) (moment t.next new after) n.2 (subst (λ (s : Standing). takes_more s ≡ true) n.1.session (takes_more_now mid.session going unsent))
          (record { within = few_here; said = t.said; how = t.how; answered = t.answered; wrote = t.wrote }),
    )

-- verdicts more, which were answered
pub heard_more : (bytes : List ℕ) (used : ℕ) (carried more : List Carried) (old middle new : LockedStore) (before between after : List ℕ) (was mid link : ImapConnection)
    → ((d : Dialogue) → StandsFor mid d → (next : Dialogue) × StandsFor link next × HearsOn more (moment d middle between) (moment next new after))
    → Spoken bytes used carried was old before mid middle between → Spoken bytes used (carried ++ more) was old before link new after
heard_more bytes used carried more old middle new before between after was mid link tells spoken d stands =
    let n = spoken d stands in
    let t = tells n.0 n.1 in (t.0, t.1, t.2 bytes (moment d old before) used carried n.2)

-- ---- verdicts, one after another

-- So each dialogue was led on by these verdicts.
abbrev pub Heard : List Carried → ImapConnection → LockedStore → List ℕ → ImapConnection → LockedStore → List ℕ → Type 0
Heard carried was old before link new after = (d : Dialogue) → StandsFor was d → (next : Dialogue) × StandsFor link next × HearsOn carried (moment d old before) (moment next new after)

pub heard_none : (was : ImapConnection) (old : LockedStore) (before : List ℕ) → Heard [] was old before was old before
heard_none was old before d stands =
    (d, stands, λ bytes first used done spoken. subst (λ (all : List Carried). Speaks bytes first used all (moment d old before)) (sym (append-nil done)) spoken)

pub heard_one : (carried : List Carried) (one : Carried) (old middle new : LockedStore) (before between after : List ℕ) (was mid link : ImapConnection)
    → ((d : Dialogue) → StandsFor mid d → (next : Dialogue) × StandsFor link next × TellsVerdict one (moment d middle between) (moment next new after)) → Heard carried was old before mid middle between
    → Heard (carried ++ one ∷ []) was old before link new after
heard_one carried one old middle new before between after was mid link tells heard d stands =
    let n = heard d stands in
    let t = tells n.0 n.1 in (
      t.0,
      t.1,
      λ bytes first used done spoken.
          subst (λ (all : List Carried). Speaks bytes first used all (moment t.0 new after)) (append_assoc done carried (one ∷ []))
          (hears used (done ++ carried) one (moment n.0 middle between) (moment t.0 new after) (n.2 bytes first used done spoken) t.2),
    )

-- where no verdict came, nothing was done behind those before
pub heard_same : (carried : List Carried) (old middle new : LockedStore) (before between after : List ℕ) (was mid link : ImapConnection) → (link ≡ mid) × (new ≡ middle) × (after ≡ between) → Heard carried was old before mid middle between
    → Heard carried was old before link new after
heard_same carried old middle new before between after was mid link same heard =
    subst (λ (l : ImapConnection). Heard carried was old before l new after) (sym same.0)
    (subst (λ (s : LockedStore). Heard carried was old before mid s after) (sym same.1) (subst (λ (t : List ℕ). Heard carried was old before mid middle t) (sym same.2) heard))

submitted : (ended : Bool) (sent : Option Sent) (begun : Option PendingLiteral) (idling : Option (List ℕ)) → sends ended sent begun idling ≡ Submit → (s : Sent) × (sent ≡ Some s)
submitted true sent begun idling awaits = absurd (let x : Bye ≡ Submit = awaits in cc)
submitted false (Some s) begun idling awaits = (s, refl)
submitted false None None None awaits = absurd (let x : Go ≡ Submit = awaits in cc)
submitted false None None (Some tag) awaits = absurd (let x : Idle ≡ Submit = awaits in cc)
submitted false None (Some a) idling awaits = absurd (let x : Literal a.due ≡ Submit = awaits in cc)

fewer_left : (old new : Option Sent) (s : Sent) → old ≡ Some s → Follows old new → verdicts_left new < verdicts_left old
fewer_left old None s is f = subst (λ (o : Option Sent). 0 < verdicts_left o) (sym is) (omega arith)
fewer_left old (Some x) s is (inl e) = absurd (let y : Some x ≡ None = e in cc)
fewer_left old (Some x) s is (inr e) =
    let many : to_follow old ≡ to_follow (Some s) = ap to_follow is in
    subst (λ (o : Option Sent). verdicts_left (Some x) < verdicts_left o) (sym is) (omega (arith, e, many))

-- behind a verdict fewer are left
pub fewer_verdicts : (now : Standing) (new : Option Sent) → may_send now ≡ Submit → Follows now.mailing.sent new → verdicts_left new < verdicts_left now.mailing.sent
fewer_verdicts now new awaits f = let s = submitted now.ended now.mailing.sent now.mailing.begun now.idling awaits in fewer_left now.mailing.sent new s.0 s.1 f

settled : (ended : Bool) (sent : Option Sent) (begun : Option PendingLiteral) (idling : Option (List ℕ)) → ended ≡ false → sends ended sent begun idling ≢ Submit → sent ≡ None
settled true sent begun idling going not = absurd (let x : true ≡ false = going in cc)
settled false (Some s) begun idling going not = absurd (not refl)
settled false None begun idling going not = refl

-- a session that goes on and waits for no verdict has submitted nothing
pub unsent_now : (now : Standing) → now.ended ≡ false → may_send now ≢ Submit → now.mailing.sent ≡ None
unsent_now now going not = settled now.ended now.mailing.sent now.mailing.begun now.idling going not

-- ---- where it ends

-- the bytes were taken to their end, and the session takes more, or it has ended
abbrev pub WasAll : ℕ → List ℕ → Standing → Type 0
WasAll used bytes now = ((used ≡ length bytes) × (takes_more now ≡ true)) ⊎ (now.ended ≡ true)

-- so it is where no verdict is awaited behind what was taken
took_all : (bytes : List ℕ) (used more : ℕ) (now : Standing) (after : After) → used ≤ length bytes → after ≡ may_send now → (may_follow after ≡ true → more ≡ length (take (length bytes - used) (drop used bytes)))
    → (takes_more now ≡ true) ⊎ (now.ended ≡ true) → WasAll (used + more) bytes now
took_all bytes used more now after within is all (inl goes) =
    let whole : more ≡ length (take (length bytes - used) (drop used bytes)) = all (ap may_follow is ∙ goes) in
    let rest : length (take (length bytes - used) (drop used bytes)) ≡ length bytes - used = ap (length {A = ℕ}) (take_rest bytes used) ∙ length-drop used bytes in
    inl (omega (arith, whole, rest, within), goes)
took_all bytes used more now after within is all (inr over) = inr over

pub was_all : (bytes : List ℕ) (used : ℕ) (progress : Progress) (now : Standing) → used ≤ length bytes → (progress.after ≡ None → ⊥) → IfSome progress.after (λ after. after ≡ may_send now)
    → IfSome progress.after (λ after. may_follow after ≡ true → progress.used ≡ length (take (length bytes - used) (drop used bytes))) → may_send now ≢ Submit → WasAll (used + progress.used) bytes now
was_all bytes used progress now within some is all not = of progress.after within some is all where
  of : (after : Option After) → used ≤ length bytes → (after ≡ None → ⊥) → IfSome after (λ a. a ≡ may_send now) → IfSome after (λ a. may_follow a ≡ true → progress.used ≡ length (take (length bytes - used) (drop used bytes)))
      → WasAll (used + progress.used) bytes now
  of None w s i a = absurd (s refl)
  of (Some after) w s i a = took_all bytes used progress.used now after w i a (goes_or_ended now not)

-- all was said
pub said_all : (bytes : List ℕ) (used : ℕ) (carried : List Carried) (old new : LockedStore) (before after : List ℕ) (was link : ImapConnection) → WasAll used bytes link.session → Spoken bytes used carried was old before link new after
    → (d : Dialogue) → StandsFor was d → (next : Dialogue) × StandsFor link next × Says bytes carried (moment d old before) (moment next new after)
said_all bytes used carried old new before after was link whole spoken d stands =
    let n = spoken d stands in (n.0, n.1, record { used = used; speaks = n.2; all = subst (λ (s : Standing). WasAll used bytes s) n.1.session whole })

-- memory was refused before the next line
pub said_short : (room : ℕ) (bytes : List ℕ) (used : ℕ) (carried : List Carried) (old new : LockedStore) (before after : List ℕ) (was link : ImapConnection) → room < answer_room + tag_len (kept_tag link.session) → Spoken bytes used carried was old before link new after
    → (d : Dialogue) → StandsFor was d → (next : Dialogue) × StandsFor link next × SaysInPart room bytes lost.NoMemory (moment d old before) (moment next new after)
said_short room bytes used carried old new before after was link full spoken d stands =
    let n = spoken d stands in (n.0, n.1, short used carried n.2 (subst (λ (s : Standing). room < answer_room + tag_len (kept_tag s)) n.1.session full) refl)

-- no verdict came on the message that was submitted
pub said_unheard : (room : ℕ) (bytes : List ℕ) (used : ℕ) (carried : List Carried) (why : Lost) (old new : LockedStore) (before after : List ℕ) (was link : ImapConnection) → may_send link.session ≡ Submit
    → Spoken bytes used carried was old before link new after → (d : Dialogue) → StandsFor was d → (next : Dialogue) × StandsFor link next × SaysInPart room bytes why (moment d old before) (moment next new after)
said_unheard room bytes used carried why old new before after was link awaits spoken d stands =
    let n = spoken d stands in (n.0, n.1, unheard used carried n.2 (subst (λ (s : Standing). may_send s ≡ Submit) n.1.session awaits))
