-- After an OK that came to no command, so to DONE or to the verdict on a message, what the session counts is what is there, where it has selected a mailbox.
use Rattle.std.proofs.Common.{◌≡◌, ◌⊎◌, inl, inr, ℕ, Bool, true, false, List, [], ◌∷◌, ◌++◌, length, refl, sym, ap, ◌∙◌, subst, Option, Some, None, append_assoc}
use Rattle.std.specs.Prelude.{codes, IfSome, ◌==◌, if◌then◌else◌, nat_le}
use Rattle.std.proofs.lemmas.Bool.{false≢true}
use Rattle.std.proofs.lemmas.Option.{none-some}
use Rattle.delivery_token.specs.declared.Verdict.{Verdict}
use Rattle.delivery_token.specs.declared.Verdict.TheVariants as verdicts
use Rattle.mailbox.specs.declared.clients.MailFault.{MailFault}
use Rattle.world.specs.World.{Config, Event, IsWorld, Session, World}
use Rattle.world.proofs.Kept.{Kept}
use Rattle.imap_grammar.specs.Reading.{is_done}
use Rattle.imap_grammar.specs.declared.command.Command.TheVariants as commands
use Rattle.imap_session.specs.declared.standing.After.TheVariants.{Go}
use Rattle.imap_session.specs.declared.standing.Selected.{Selected}
use Rattle.imap_session.specs.Exchange.{Answer, Event as Happened, PendingLiteral, Counted, Refused, Count, Done, Feed, Sent, Standing, Turn, having, is_idling, played, refusal_text, refused, untagged, Origin, Batch, Copied, Discard, Discarded, Exchange, ForVerdict, Mailing, Wait, Client as FromClient, tagged}
use Rattle.imap_session.specs.Commands.{appended_words, completed, on_idle_line, on_verdict, refused_text, says, showing, turn_of, turn_with, unlimited, without_begun, without_sent, moving, copied_words, moved_words, on_stored, told_copied, told_appended, with_validity, submitting_first, taking_back, with_copy, copies_of, last_number}
use Rattle.imap_session.specs.Store.{Met}
use Rattle.laws_client.specs.Clients.{EndsWith, IsRight}
use Rattle.laws_client.specs.Client.{Client, Known, knowing, reads}
use Rattle.imap_session.specs.Happenings.{Answer as Answer_to, Happening, Heard, Line, Literal, LongLine, Told, Turned, VerdictsArePrinted, Words, leads_to, told_line, told_of, whole_line}
use Rattle.laws_client.proofs.Reading.{begins}
use Rattle.laws_client.proofs.IdleTags.{AreTagsOf}
use Rattle.laws_client.proofs.Talking.{happening_keeps_so}
use Rattle.laws_client.proofs.Turns.{the_turn}
use Rattle.laws_client.specs.Clients.{IsRightAbout, hears, hears_all}
use Rattle.laws_client.specs.Current.{IsCurrent}
use Rattle.laws_client.specs.HouseClients.{comes, others, turns}
use Rattle.laws_client.specs.HouseClients.{Lives}
use Rattle.laws_client.specs.Selecting.{Known_selected}
use Rattle.laws_client.specs.Sizes.{HasShortTexts}
use Rattle.laws_client.specs.HouseClients.{HasSmallNumbers}
use Rattle.laws_client.specs.RecordTurns.{Stands}
use Rattle.laws_client.specs.Views.{messages_of, view_of}
use Rattle.laws_client.proofs.RecordCurrent.{FedAll, LastFed, fed_or_not, last_current, last_weaker}
use Rattle.laws_client.proofs.RecordEntering.{mapped, only_done, only_refused}
use Rattle.laws_client.proofs.LastLines.{Apart, IsWord, Spares, TurnFine, apart_tells_none, refusal_apart, silence_tells_none, tagged_apart, behind_lines}
use Rattle.laws_client.proofs.LastRests.{long_line_apart, no_apart, part_fine, rest_fine}
use Rattle.laws_client.proofs.LastTurns.{IsFine, idle_fine, awaits_silent}
use Rattle.laws_client.proofs.Living.{hears_last, known_behind, lives_known}
use Rattle.laws_client.proofs.Moved.{Calls, short_met}
use Rattle.laws_client.proofs.OkCurrent.{has_list}
use Rattle.laws_client.proofs.Selecting.{knowing_is_selected}
use Rattle.laws_client.proofs.RecordWorlds.{sound_always}
use Rattle.imap_session.specs.declared.texts.ResponseText.TheVariants as texts
use Rattle.imap_session.specs.Texts.{response_text}
use Rattle.imap_grammar.specs.declared.command.Verb.TheVariants as verbs
use Rattle.laws_client.proofs.WholeLines.{turn_has}
use Rattle.imap_grammar.specs.Verbs.{copy_verb}
use Rattle.exactly_once.proofs.Whole.{IsWhole, ends, whole_append}
use Rattle.laws_client.proofs.Moves.{EndsSo, Moves, move_done, move_refused, moves_so}
use Rattle.mailbox.specs.declared.clients.MailFault.TheVariants.{Spent}
use Rattle.mailbox.specs.declared.clients.Row.{Row}

-- ---- words that say OK

starts_ok : List ℕ → Bool
starts_ok words = begins (codes "OK ") words

ok_spares : Spares starts_ok
unfolding starts_ok
ok_spares = record { no = λ rest. refl; bad = λ rest. refl }

-- it ends with an OK
abbrev pub SaysOk : List ℕ → Type 0
SaysOk bytes = (tag : List ℕ) × (words : List ℕ) × EndsWith tag (codes "OK " ++ words) bytes

never : (bytes : List ℕ) → Apart starts_ok bytes → SaysOk bytes → ⊥
unfolding starts_ok
never bytes p (tag, words, ends) = false≢true (sym (apart_tells_none starts_ok bytes p tag (codes "OK " ++ words) ends))

never_silent : (bytes : List ℕ) → bytes ≡ [] → SaysOk bytes → ⊥
unfolding starts_ok
never_silent bytes e (tag, words, ends) = false≢true (sym (silence_tells_none starts_ok bytes e tag (codes "OK " ++ words) ends))

never_fine : (bytes : List ℕ) → IsFine starts_ok bytes → SaysOk bytes → ⊥
never_fine bytes (inl e) ok = never_silent bytes e ok
never_fine bytes (inr p) ok = never bytes p ok

never_turn : (o : Option Turn) (turn : Turn) → TurnFine starts_ok o → o ≡ Some turn → SaysOk turn.bytes → ⊥
never_turn o turn p e ok = never_fine turn.bytes (subst (TurnFine starts_ok) e p) ok

-- ---- turns

-- the last call of a turn was for all that is pending, and was answered
abbrev pub FedLast : Turn → Type 0
FedLast turn = LastFed (false ≡ true) turn.events

-- a call before that
behind_call : (event : Happened) (events : List Happened) → LastFed (false ≡ true) events → LastFed (false ≡ true) (event ∷ events)
behind_call event events fed = last_weaker (false ≡ true) (FedAll event) events (λ h. absurd (false≢true h)) fed

fed_ok : (tag words : List ℕ) (now : Standing) (answers : List Answer) (turn : Turn) → IsWord tag → played tag now (Feed unlimited (Done words Go)) answers ≡ Some turn → SaysOk turn.bytes → FedLast turn
fed_ok tag words now answers turn t e ok = by (fed_or_not tag words Go now answers turn e)
  where
    by : FedLast turn ⊎ ((fault : MailFault) × (turn.bytes ≡ refusal_text tag fault)) → FedLast turn
    by (inl fed) = fed
    by (inr (fault, bytes)) = absurd (never turn.bytes (subst (Apart starts_ok) (sym bytes) (refusal_apart starts_ok ok_spares tag t fault)) ok)

-- the line that ends an IDLE
idle_line_fed : (tag line : List ℕ) (selected : Selected) (now : Standing) (answers : List Answer) (turn : Turn) → IsWord tag → played tag now (on_idle_line (Some selected) line) answers ≡ Some turn → SaysOk turn.bytes → FedLast turn
idle_line_fed tag line selected now answers turn t e ok = by (is_done line) e
  where
    by : (b : Bool) → played tag now (if b then showing (Some selected) (completed commands.Idle) else says (response_text texts.ExpectedDone)) answers ≡ Some turn → FedLast turn
    by true e = fed_ok tag (response_text (texts.Completed verbs.Idle)) now answers turn t e ok
    by false e =
        let d = only_done tag (response_text texts.ExpectedDone) Go now answers turn e in
        absurd (never turn.bytes (subst (Apart starts_ok) (sym d.bytes) (tagged_apart starts_ok tag (response_text texts.ExpectedDone) t refl (ok_spares.bad (codes "Expected DONE")))) ok)

-- the verdict on a message
refused_ok : (tag : List ℕ) → IsWord tag → (call : _) (now : Standing) (fault : MailFault) (turn : Turn) → Some (having call (Refused fault) (refused tag now fault)) ≡ Some turn → SaysOk turn.bytes → ⊥
refused_ok tag t call now fault turn e ok =
    let only = only_refused tag now fault (refused tag now fault) refl in
    never turn.bytes (subst (Apart starts_ok) (sym (sym (ap (λ (x : Turn). x.bytes) (ap (the_turn turn) e)) ∙ only.bytes)) (refusal_apart starts_ok ok_spares tag t fault)) ok

-- messages that are moved
moves_fed : (uidvalidity : ℕ) (batch : Batch) (tag : List ℕ) → IsWord tag → (selected : Selected) (now : Standing) (answers : List Answer) (turn : Turn)
    → played tag now (moving (Some selected) uidvalidity batch) answers ≡ Some turn → SaysOk turn.bytes → FedLast turn
moves_fed uidvalidity batch tag t selected now answers turn e ok = by (moves_so uidvalidity batch tag selected now answers turn e)
  where
    first : List ℕ
    first = untagged (moved_words uidvalidity batch)

    ended : (more : Turn) → turn.bytes ≡ first ++ more.bytes → more.events ≡ turn.events → EndsSo tag (response_text (texts.Completed (copy_verb batch.by_uid true))) more → FedLast turn
    ended more bytes events (move_done front whole is fed) = subst (λ (es : List Happened). LastFed (false ≡ true) es) events fed
    ended more bytes events (move_refused front whole fault is) =
        let all : turn.bytes ≡ (first ++ front) ++ refusal_text tag fault =
        bytes ∙ ap (λ (b : List ℕ). first ++ b) is ∙ sym (append_assoc first front (refusal_text tag fault)) in
        let before : IsWhole (first ++ front) = whole_append first front (ends (codes "* ") (moved_words uidvalidity batch)) whole in
        absurd
        (never turn.bytes
        (subst (Apart starts_ok) (sym all)
        (behind_lines starts_ok (first ++ front) (refusal_text tag fault) before (refusal_apart starts_ok ok_spares tag t fault))) ok)

    by : Moves uidvalidity batch tag turn → FedLast turn
    by m = ended m.more m.bytes m.events m.ends

copies_fed : (uidvalidity : ℕ) (batch : Batch) (moves : Bool) (tag : List ℕ) → IsWord tag → (selected : Selected) (now : Standing) (answers : List Answer) (turn : Turn)
    → played tag now (if moves then moving (Some selected) uidvalidity batch else showing (Some selected) (says (copied_words uidvalidity batch))) answers ≡ Some turn → SaysOk turn.bytes → FedLast turn
copies_fed uidvalidity batch true tag t selected now answers turn e ok = moves_fed uidvalidity batch tag t selected now answers turn e ok
copies_fed uidvalidity batch false tag t selected now answers turn e ok = fed_ok tag (copied_words uidvalidity batch) now answers turn t e ok

-- a mailbox is counted, and then it is so
counted_fed : (next : ℕ → Exchange) (mailbox : ℕ) (tag : List ℕ) → IsWord tag → (now : Standing) (answers : List Answer) (turn : Turn) → played tag now (with_validity mailbox next) answers ≡ Some turn → SaysOk turn.bytes
    → ((uidvalidity : ℕ) (rest : List Answer) (more : Turn) → played tag now (next uidvalidity) rest ≡ Some more → SaysOk more.bytes → FedLast more) → FedLast turn
counted_fed next mailbox tag t now [] turn e ok then_so = absurd (none-some turn e)
counted_fed next mailbox tag t now (Counted status ∷ rest) turn e ok then_so =
    let m = mapped (having (Count mailbox) (Counted status)) (played tag now (next status.uidvalidity) rest) turn e in
    subst FedLast m.makes (behind_call (record { call = Count mailbox; answer = Counted status }) m.more.events
    (then_so status.uidvalidity rest m.more m.is (subst (λ (x : Turn). SaysOk x.bytes) (sym m.makes) ok)))
counted_fed next mailbox tag t now (Refused fault ∷ []) turn e ok then_so = absurd (refused_ok tag t (Count mailbox) now fault turn e ok)
counted_fed next mailbox tag t now (_ ∷ rest) turn e ok then_so = absurd (none-some turn e)

-- a text that is no OK, also where copies are removed before it
no_ok : (tag : List ℕ) → IsWord tag → (text : List ℕ) (now : Standing) (answers : List Answer) (turn : Turn) → Apart starts_ok (tagged tag text) → played tag now (says text) answers ≡ Some turn → SaysOk turn.bytes → ⊥
no_ok tag t text now answers turn apart e ok =
    let d = only_done tag text Go now answers turn e in
    never turn.bytes (subst (Apart starts_ok) (sym d.bytes) apart) ok

back_ok : (tag : List ℕ) → IsWord tag → (text : List ℕ) (mailbox : ℕ) (copies : List ℕ) (now : Standing) (answers : List Answer) (turn : Turn) → Apart starts_ok (tagged tag text)
    → played tag now (taking_back mailbox copies (says text)) answers ≡ Some turn → SaysOk turn.bytes → ⊥
back_ok tag t text mailbox [] now answers turn apart e ok = no_ok tag t text now answers turn apart e ok
back_ok tag t text mailbox (uid ∷ uids) now [] turn apart e ok = absurd (none-some turn e)
back_ok tag t text mailbox (uid ∷ uids) now (Discarded ∷ rest) turn apart e ok =
    let m = mapped (having (Discard mailbox (uid ∷ uids)) Discarded) (played tag now (says text) rest) turn e in
    no_ok tag t text now rest m.more apart m.is (subst (λ (x : Turn). SaysOk x.bytes) (sym m.makes) ok)
back_ok tag t text mailbox (uid ∷ uids) now (Refused fault ∷ []) turn apart e ok = refused_ok tag t (Discard mailbox (uid ∷ uids)) now fault turn e ok
back_ok tag t text mailbox (uid ∷ uids) now (_ ∷ rest) turn apart e ok = absurd (none-some turn e)

-- one more copy of a batch is stored
batch_fed : (batch : Batch) (mailbox : ℕ) (tag : List ℕ) → IsWord tag → (mailing : Mailing) → (selected : Selected) (now : Standing) (answers : List Answer) (turn : Turn) → SaysOk turn.bytes → (left : List Row)
    → played tag now (submitting_first mailing batch mailbox (with_validity mailbox (told_copied (Some selected) batch)) left) answers ≡ Some turn → FedLast turn
batch_fed batch mailbox tag t mailing selected now answers turn ok [] e =
    counted_fed (told_copied (Some selected) batch) mailbox tag t now answers turn e ok
    (λ uidvalidity rest more d ok. copies_fed uidvalidity batch batch.moves tag t selected now rest more d ok)
batch_fed batch mailbox tag t mailing selected now answers turn ok (row ∷ left) e = by (nat_le last_number mailing.number) e
  where
    by : (b : Bool) → played tag now (if b then taking_back mailbox batch.copies (says (response_text texts.MailboxSpent)) else Wait [] (ForVerdict (Copied (record batch { left = left })) mailbox row.flags row.text)) answers ≡ Some turn
        → FedLast turn
    by true e = absurd (back_ok tag t (response_text texts.MailboxSpent) mailbox batch.copies now answers turn (refusal_apart starts_ok ok_spares tag t Spent) e ok)
    by false e = absurd (never_silent turn.bytes (awaits_silent tag (Copied (record batch { left = left })) mailbox row.flags row.text now answers turn e) ok)

stored_fed : (origin : Origin) (mailbox uid : ℕ) (tag : List ℕ) → IsWord tag → (mailing : Mailing) → (selected : Selected) (now : Standing) (answers : List Answer) (turn : Turn)
    → played tag now (on_stored mailing (Some selected) origin mailbox uid) answers ≡ Some turn → SaysOk turn.bytes → FedLast turn
stored_fed FromClient mailbox uid tag t mailing selected now answers turn e ok =
    counted_fed (told_appended (Some selected) uid) mailbox tag t now answers turn e ok
    (λ uidvalidity rest more d ok. fed_ok tag (appended_words uidvalidity uid) now rest more t d ok)
stored_fed (Copied batch) mailbox uid tag t mailing selected now answers turn e ok =
    batch_fed (with_copy uid batch) mailbox tag t mailing selected now answers turn ok batch.left e

verdict_fed : (origin : Origin) (mailbox : ℕ) (verdict : Verdict) (tag : List ℕ) → IsWord tag → (mailing : Mailing) → (selected : Selected) (now : Standing) (answers : List Answer) (turn : Turn)
    → played tag now (on_verdict mailing (Some selected) origin mailbox verdict) answers ≡ Some turn → SaysOk turn.bytes → FedLast turn
verdict_fed origin mailbox (verdicts.Stored uid) tag t mailing selected now answers turn e ok = stored_fed origin mailbox uid tag t mailing selected now answers turn e ok
verdict_fed origin mailbox (verdicts.Refused why) tag t mailing selected now answers turn e ok =
    absurd (back_ok tag t (response_text (refused_text why)) mailbox (copies_of origin) now answers turn (no_apart starts_ok ok_spares tag t why) e ok)

-- a line that came to no command
kept_fed : (now : Standing) (line : List ℕ) (selected : Selected) (answers : List Answer) (turn : Turn) → AreTagsOf IsWord now → now.selected ≡ Some selected → whole_line now line ≡ None → turn_of now line answers ≡ Some turn
    → SaysOk turn.bytes → FedLast turn
kept_fed now line selected answers turn t there none e ok =
    turn_has (λ whole o. whole ≡ None → o ≡ Some turn → FedLast turn) now line answers
    (λ tag b i h d. idle_line_fed tag line selected (record now { idling = None }) answers turn (subst (λ (o : Option (List ℕ)). IfSome o IsWord) i t.0)
    (subst (λ (o : Option Selected). played tag (record now { idling = None }) (on_idle_line o line) answers ≡ Some turn) there d) ok)
    (λ a mailbox flags date b p h d. absurd (never_turn _ turn (rest_fine starts_ok ok_spares now.mailing a (length line == 0) a.tag (begun_word a b) (without_begun now) answers) d ok))
    (λ a x b part h d. absurd (never_turn _ turn (part_fine starts_ok ok_spares x part a.tag (begun_word a b) (without_begun now) answers) d ok))
    (λ whole w h d. absurd (none-some whole (sym h))) none e
  where
    begun_word : (a : PendingLiteral) → now.mailing.begun ≡ Some a → IsWord a.tag
    begun_word a b = subst (λ (o : Option PendingLiteral). IfSome o (λ (x : PendingLiteral). IsWord x.tag)) b t.1

is_words : Told → List ℕ → Type 0
is_words (Words bytes) b = bytes ≡ b
is_words (Answer_to line bytes) b = ⊥

-- whatever came to no command
pub words_fed : (now : Standing) (happening : Happening) (selected : Selected) (turn : Turn) (bytes : List ℕ) → AreTagsOf IsWord now → now.selected ≡ Some selected → told_of now happening turn.bytes ≡ Words bytes → leads_to now happening ≡ Some turn
    → SaysOk turn.bytes → FedLast turn
unfolding is_words
words_fed now (Line line answers) selected turn bytes t there told e ok = by (whole_line now line) refl
  where
    by : (o : Option (List ℕ)) → whole_line now line ≡ o → FedLast turn
    by (Some whole) is =
        absurd (let x : is_words (Answer_to whole turn.bytes) bytes = subst (λ (one : Told). is_words one bytes) (sym told ∙ ap (λ (o : Option (List ℕ)). told_line o turn.bytes) is) refl in x)
    by None is = kept_fed now line selected answers turn t there is e ok
words_fed now LongLine selected turn bytes t there told e ok = absurd (never turn.bytes (subst (λ (x : Turn). Apart starts_ok x.bytes) (ap (the_turn turn) e) (long_line_apart starts_ok ok_spares now t)) ok)
words_fed now (Turned answers) selected turn bytes t there told e ok = absurd (never_turn _ turn (idle_fine starts_ok now.selected (is_idling now) now answers) e ok)
words_fed now (Literal kept literal) selected turn bytes t there told e ok = absurd (never_silent turn.bytes (sym (ap (λ (x : Turn). x.bytes) (ap (the_turn turn) e))) ok)
words_fed now (Heard verdict answers) selected turn bytes t there told e ok = by now.mailing.sent refl
  where
    by : (o : Option Sent) → now.mailing.sent ≡ o → FedLast turn
    by None is = absurd (none-some turn (subst (λ (o : Option Sent). turn_with o now verdict answers ≡ Some turn) is e))
    by (Some sent) is =
        let first : turn_with (Some sent) now verdict answers ≡ Some turn = subst (λ (o : Option Sent). turn_with o now verdict answers ≡ Some turn) is e in
        let second : played sent.tag (without_sent now) (on_verdict now.mailing (Some selected) sent.origin sent.append.mailbox verdict) answers ≡ Some turn =
        subst (λ (o : Option Selected). played sent.tag (without_sent now) (on_verdict now.mailing o sent.origin sent.append.mailbox verdict) answers ≡ Some turn) there first in
        verdict_fed sent.origin sent.append.mailbox verdict sent.tag (subst (λ (o : Option Sent). IfSome o (λ (s : Sent). IsWord s.tag)) is t.2) now.mailing selected (without_sent now) answers turn second ok

-- so what the session counts is what is there
words_current : (k : Config) (n : ℕ) (now : Standing) (happening : Happening) (selected : Selected) (w : World) (turn : Turn) (v : World) (bytes : List ℕ) → Kept k w → AreTagsOf IsWord now → now.selected ≡ Some selected
    → told_of now happening turn.bytes ≡ Words bytes → leads_to now happening ≡ Some turn → Met (Calls k n) w turn.events v → SaysOk turn.bytes → IsCurrent v n
words_current k n now happening selected w turn v bytes K t there told e met ok =
    last_current k n w turn.events v (false ≡ true) K (λ h. absurd (false≢true h)) (words_fed now happening selected turn bytes t there told e ok) met

-- ---- in a life

-- the tags that it keeps are words of tags all its life
pub lives_words : (k : Config) (n : ℕ) (first : Standing) (began : World) {sent : List ℕ} {told : List Told} {now : Standing} {w : World} → AreTagsOf IsWord first → Lives k n first began sent told now w → AreTagsOf IsWord now
lives_words k n first began t comes = t
lives_words k n first began t (turns {now = now} lives happening bytes turn v timely sent printed e met) = happening_keeps_so IsWord (λ tag word. word) now happening turn (lives_words k n first began t lives) e
lives_words k n first began t (others lives event v o step) = lives_words k n first began t lives

-- a client that knows where it is, and reads such an OK, has a list of the mailbox as it is
pub words_make_current : (k : Config) (events : List Event) (n : ℕ) (first : Standing) (began : World) (sent : List ℕ) (told : List Told) (now : Standing) (w : World) (client : Client) (happening : Happening) (turn : Turn) (v : World)
    (bytes : List ℕ) (s : Session) → HasSmallNumbers k → IsWorld k events began → HasShortTexts v → Stands first → AreTagsOf IsWord first → Lives k n first began sent told now w → hears_all None told ≡ Some client
    → VerdictsArePrinted happening → leads_to now happening ≡ Some turn → Met (Calls k n) w turn.events v → told_of now happening turn.bytes ≡ Words bytes → bytes ≡ turn.bytes → SaysOk bytes → v.session n ≡ Some s
    → (list : List Known) × (hears_all None (told ++ Words bytes ∷ []) ≡ Some (knowing (Some list))) × IsRight (messages_of (v.box s.mailbox)) list
words_make_current k events n first began sent told now w client happening turn v bytes s h is short stands words lives knows printed e met told_is wrote ok at =
    let short_w = short_met k n w turn.events v met short in
    let S = sound_always k events began h is in
    let before = lives_known k n first began h S stands lives short_w in
    let after = known_behind k n told now w happening turn v h short before printed e met in
    let chosen : Known_selected (Some client) now = subst (λ (c : Option Client). Known_selected c now) knows (knowing_is_selected k n first began sent told now w lives) in
    let current : view_of v n ≡ messages_of (v.box s.mailbox) =
    words_current k n now happening chosen.0 w turn v bytes before.sound.kept (lives_words k n first began words lives) chosen.1 told_is e met (subst SaysOk wrote ok) s at in
    let heard : hears_all None (told ++ Words bytes ∷ []) ≡ Some (reads client bytes) = hears_last None told (Words bytes) ∙ ap (λ (c : Option Client). hears c (Words bytes)) knows in
    let right : IsRightAbout (view_of v n) (hears_all None (told ++ Words bytes ∷ [])) = subst (λ (one : Told). IsRightAbout (view_of v n) (hears_all None (told ++ one ∷ []))) told_is after.right in
    let all : IsRightAbout (messages_of (v.box s.mailbox)) (hears_all None (told ++ Words bytes ∷ [])) = subst (λ (view : List ℕ). IsRightAbout view (hears_all None (told ++ Words bytes ∷ []))) current right in
    has_list (messages_of (v.box s.mailbox)) (reads client bytes) (hears_all None (told ++ Words bytes ∷ [])) heard (subst (λ (c : Option Client). IsRightAbout (messages_of (v.box s.mailbox)) c) heard all)
