-- What a turn of a session says last: to a verdict that a message is stored its UID, and to nothing else one.
use Rattle.std.proofs.Common.{◌≡◌, ◌⊎◌, inl, inr, ℕ, ◌+◌, Bool, true, false, List, ◌∷◌, ◌++◌, length, refl, sym, ap, ◌∙◌, subst, append-nil, append_assoc, Option, Some, None, zero, suc, []}
use Rattle.std.specs.Prelude.{codes, decimal, IfSome, nat_le, if◌then◌else◌}
use Rattle.std.specs.List.{list_all}
use Rattle.std.proofs.lemmas.List.Folds.{list_all-append}
use Rattle.std.proofs.lemmas.Option.{none-some}
use Rattle.line_io.specs.Wire.{crlf}
use Rattle.change_ring.specs.declared.change.Change.{Change}
use Rattle.change_ring.specs.declared.change.Change.TheVariants.{Add, Gone, Flags as SetFlags}
use Rattle.change_ring.specs.declared.change.Flags.{Flags}
use Rattle.change_ring.specs.Log.{shown}
use Rattle.cursor_set.specs.Lines.{line, lines}
use Rattle.change_ring.specs.View.{position}
use Rattle.change_ring.specs.Words.{flag_words, spaced}
use Rattle.delivery_token.specs.declared.Verdict.{Verdict}
use Rattle.delivery_token.specs.Text.{Text}
use Rattle.delivery_token.specs.declared.Verdict.TheVariants as verdicts
use Rattle.world.specs.World.{Config, World}
use Rattle.imap_session.specs.declared.standing.After.TheVariants.{Go}
use Rattle.imap_session.specs.declared.standing.Selected.{Selected}
use Rattle.imap_session.specs.Exchange as ex
use Rattle.imap_session.specs.Exchange.{Answer, Counted, Fed, Refused, Starved, Count, Feed, Sent, Standing, Turn, bye, having, is_idling, played, refused, saying, refusal_text, tagged, untagged, Discarded, Origin, Client, Copied, Batch, Mailing}
use Rattle.imap_session.specs.Commands.{appended_words, idle_turn_in, on_verdict, refused_text, says, showing, turn_of, turn_with, unlimited, without_sent, moving, copied_words, moved_words, on_stored, told_copied, told_appended, with_validity, submitting_first, taking_back, move_done as finished, with_copy, copies_of, last_number}
use Rattle.imap_session.specs.Store.{Met}
use Rattle.exactly_once.proofs.Whole.{line_whole, lines_whole, IsWhole, ends, whole_append}
use Rattle.laws_client.specs.ListTurns.{is_inner}
use Rattle.imap_session.specs.Happenings.{Happening, Heard, Line, Literal, LongLine, Turned, leads_to}
use Rattle.laws_client.proofs.Bytes.{both}
use Rattle.laws_client.proofs.IdleTags.{AreTagsOf}
use Rattle.laws_client.proofs.LinesRead.{flags_inner, flags_part}
use Rattle.exactly_once.proofs.EachExchange.{idle_so}
use Rattle.laws_client.proofs.Turns.{the_turn}
use Rattle.laws_client.proofs.Untold.{inner_both, plain_inner}
use Rattle.laws_client.specs.Appends.{SaysVerdict, TellsOfNone, SaysCopied, SaysMoved, tells_stored, SaysOfBatch, SaysRefused, awaits_next, has_no_number, all_stored}
use Rattle.laws_client.proofs.RecordEntering.{mapped, only_done, only_refused}
use Rattle.laws_client.proofs.LastLines.{Apart, IsWord, TurnFine, apart_tells_none, behind_lines, bye_apart, ends_tagged, silence_tells_none, untagged_apart, last_is, refusal_apart}
use Rattle.laws_client.proofs.LastRests.{long_line_apart}
use Rattle.laws_client.proofs.LastWords.{line_fine, uid_spares}
use Rattle.laws_client.proofs.Moved.{Calls}
use Rattle.imap_session.specs.declared.texts.ResponseText.TheVariants as texts
use Rattle.imap_session.specs.Texts.{response_text}
use Rattle.imap_session.specs.declared.texts.ResponseText.{ResponseText}
use Rattle.imap_grammar.specs.Verbs.{copy_verb}
use Rattle.laws_client.proofs.CopyWords.{copied_plain}
use Rattle.mailbox.specs.declared.clients.MailFault.{MailFault}
use Rattle.laws_client.proofs.Moves.{EndsSo, move_done, move_refused, moves_so}
use Rattle.laws_client.proofs.Decimals.{decimal_inner}
use Rattle.laws_client.proofs.TextRows.{row_inner}
use Rattle.mailbox.specs.declared.clients.Row.{Row}
use Rattle.laws_client.specs.Clients.{EndsWith, last_line}

-- ---- lines of changes

starred : (tells : List ℕ → Bool) (rest words : List ℕ) → list_all is_inner rest ≡ true → list_all is_inner words ≡ true → Apart tells ((42 ∷ rest) ++ (words ++ crlf))
starred tells rest words h k = subst (Apart tells) (append_assoc (42 ∷ rest) words crlf) (untagged_apart tells 42 (rest ++ words) refl (inner_both rest words h k))

pub words_inner : (f : Flags) → list_all is_inner (spaced (flag_words f)) ≡ true
words_inner f =
    let all : list_all is_inner (flags_part f ++ 41 ∷ []) ≡ true = flags_inner f.answered f.flagged f.deleted f.seen f.draft in
    let part = (both (list_all is_inner (flags_part f)) (list_all is_inner (41 ∷ [])) (sym (list_all-append is_inner (flags_part f) (41 ∷ [])) ∙ all)).0 in
    (both (list_all is_inner (spaced (flag_words f))) (list_all is_inner (41 ∷ [])) (sym (list_all-append is_inner (spaced (flag_words f)) (41 ∷ [])) ∙ part)).0

change_apart : (tells : List ℕ → Bool) (view : List ℕ) (c : Change) → Apart tells (line view c)
change_apart tells view (Add uid) = starred tells (32 ∷ decimal (length view + 1)) (codes " EXISTS") (decimal_inner (length view + 1)) refl
change_apart tells view (Gone uid) = starred tells (32 ∷ decimal (position uid view)) (codes " EXPUNGE") (decimal_inner (position uid view)) refl
change_apart tells view (SetFlags uid flags) =
    starred tells (32 ∷ decimal (position uid view) ++ codes " FETCH (UID " ++ decimal uid ++ codes " FLAGS (" ++ spaced (flag_words flags)) (codes "))")
    (inner_both (32 ∷ decimal (position uid view) ++ codes " FETCH (UID " ++ decimal uid ++ codes " FLAGS (") (spaced (flag_words flags))
    (inner_both (32 ∷ decimal (position uid view) ++ codes " FETCH (UID " ++ decimal uid) (codes " FLAGS (")
    (inner_both (32 ∷ decimal (position uid view) ++ codes " FETCH (UID ") (decimal uid)
    (inner_both (32 ∷ decimal (position uid view)) (codes " FETCH (UID ") (decimal_inner (position uid view)) refl) (decimal_inner uid)) refl) (words_inner flags)) refl

-- it says nothing, or ends in a last line of which this tells nothing
abbrev pub IsFine : (List ℕ → Bool) → List ℕ → Type 0
IsFine tells bytes = (bytes ≡ []) ⊎ Apart tells bytes

lines_fine : (tells : List ℕ → Bool) (view : List ℕ) (changes : List Change) → IsFine tells (lines view changes)
lines_fine tells view [] = inl refl
lines_fine tells view (c ∷ cs) = by (lines_fine tells (shown view c) cs)
  where
    by : IsFine tells (lines (shown view c) cs) → IsFine tells (line view c ++ lines (shown view c) cs)
    by (inl e) = inr (subst (λ (x : List ℕ). Apart tells (line view c ++ x)) (sym e) (subst (Apart tells) (sym (append-nil (line view c))) (change_apart tells view c)))
    by (inr p) = inr (behind_lines tells (line view c) (lines (shown view c) cs) (line_whole view c) p)

-- ---- a turn of a session that idles

bye_fine : (tells : List ℕ → Bool) (text : ResponseText) → IsFine tells (bye (response_text text) ++ [])
bye_fine tells text = inr (subst (Apart tells) (sym (append-nil (bye (response_text text)))) (bye_apart tells text))

pub idle_fine : (tells : List ℕ → Bool) (selected : Option Selected) (idling : Bool) (now : Standing) (answers : List Answer) → TurnFine tells (idle_turn_in selected idling now answers)
idle_fine tells selected idling now answers =
    idle_so (λ turn. IsFine tells turn.bytes) now (λ met changes. subst (IsFine tells) (sym (append-nil (lines met changes))) (lines_fine tells met changes))
    (bye_fine tells texts.ChangesMissed) (bye_fine tells texts.InternalFault) (inl refl) selected idling answers

-- ---- what tells no UID

tells_none : (bytes : List ℕ) → IsFine tells_stored bytes → TellsOfNone bytes
tells_none bytes (inl e) = silence_tells_none tells_stored bytes e
tells_none bytes (inr p) = apart_tells_none tells_stored bytes p

some_tells_none : (o : Option Turn) (turn : Turn) → TurnFine tells_stored o → o ≡ Some turn → TellsOfNone turn.bytes
some_tells_none o turn p e = tells_none turn.bytes (subst (TurnFine tells_stored) e p)

-- ---- the OK

-- a store that refused
abbrev Refuses : List ℕ → List ℕ → Type 0
Refuses tag bytes = (fault : MailFault) × (bytes ≡ refusal_text tag fault)

refused_says : (tag : List ℕ) (call : ex.Call) (now : Standing) (fault : _) (turn : Turn)
    → Some (having call (Refused fault) (refused tag now fault)) ≡ Some turn → Refuses tag turn.bytes
refused_says tag call now fault turn e =
    let only = only_refused tag now fault (refused tag now fault) refl in
    (fault, sym (ap (λ (x : Turn). x.bytes) (ap (the_turn turn) e)) ∙ only.bytes)

pub appended_inner : (v uid : ℕ) → list_all is_inner (appended_words v uid) ≡ true
appended_inner v uid =
    inner_both (codes "OK [APPENDUID " ++ decimal v ++ codes " " ++ decimal uid) (codes "] APPEND completed")
    (inner_both (codes "OK [APPENDUID " ++ decimal v ++ codes " ") (decimal uid)
    (inner_both (codes "OK [APPENDUID " ++ decimal v) (codes " ") (inner_both (codes "OK [APPENDUID ") (decimal v) refl (decimal_inner v)) refl) (decimal_inner uid)) refl

-- what is pending is shown, where a mailbox is selected, and then these last words are said
shows_then : (tag words : List ℕ) → IsWord tag → list_all is_inner words ≡ true
    → (selected : Option Selected) (now : Standing) (answers : List Answer) (turn : Turn)
    → played tag now (showing selected (says words)) answers ≡ Some turn
    → EndsWith tag words turn.bytes ⊎ ((fault : MailFault) × (turn.bytes ≡ refusal_text tag fault))
shows_then tag words t inner None now answers turn e =
    let d = only_done tag words Go now answers turn e in
    inl (subst (EndsWith tag words) (sym d.bytes) (ends_tagged [] tag words (inl refl) t inner))
shows_then tag words t inner (Some s) now [] turn e = absurd (none-some turn e)
shows_then tag words t inner (Some s) now (Fed view changes ∷ more) turn e =
    let m =
    mapped (λ (x : Turn). having (Feed unlimited) (Fed view changes) (saying (lines view changes) x)) (played tag now (says words) more) turn e in
    let d = only_done tag words Go now more m.more m.is in
    inl (subst (EndsWith tag words) (sym (ap (λ (b : List ℕ). lines view changes ++ b) d.bytes) ∙ ap (λ (x : Turn). x.bytes) m.makes)
    (ends_tagged (lines view changes) tag words (lines_whole view changes) t inner))
shows_then tag words t inner (Some s) now (Refused fault ∷ []) turn e =
    let only = only_refused tag now fault (refused tag now fault) refl in
    inr (fault, sym (ap (λ (x : Turn). x.bytes) (ap (the_turn turn) e)) ∙ only.bytes)
shows_then tag words t inner (Some s) now (_ ∷ more) turn e = absurd (none-some turn e)

-- behind whole lines the last line is the same
last_behind : (lines tag : List ℕ) (fault : MailFault) → IsWhole lines → IsWord tag
    → last_line (lines ++ refusal_text tag fault) ≡ last_line (refusal_text tag fault)
last_behind lines tag fault whole t =
    let p : Apart tells_stored (refusal_text tag fault) = refusal_apart tells_stored uid_spares tag t fault in
    ap (λ (x : List ℕ). last_line (lines ++ x)) p.is ∙ ap last_line (sym (append_assoc lines p.front (p.last ++ crlf)))
    ∙ last_is (lines ++ p.front) p.last (whole_append lines p.front whole p.whole) p.inner ∙ sym
    (ap last_line p.is ∙ last_is p.front p.last p.whole p.inner)

-- messages that are moved
moves_says : (v : ℕ) (batch : Batch) (tag : List ℕ) → IsWord tag → (selected : Option Selected) (now : Standing) (answers : List Answer) (turn : Turn)
    → played tag now (moving selected v batch) answers ≡ Some turn → SaysMoved v batch tag turn.bytes
moves_says v batch tag t selected now answers turn e = by selected e
  where
    first : List ℕ
    first = untagged (moved_words v batch)

    first_whole : IsWhole first
    first_whole = ends (codes "* ") (moved_words v batch)

    done : List ℕ
    done = response_text (texts.Completed (copy_verb batch.by_uid true))

    done_inner : list_all is_inner done ≡ true
    done_inner = row_inner (texts.Completed (copy_verb batch.by_uid true))

    ends_so : (more : Turn) → turn.bytes ≡ first ++ more.bytes → EndsSo tag done more
        → EndsWith tag done turn.bytes ⊎ ((fault : MailFault) × (last_line turn.bytes ≡ last_line (refusal_text tag fault)))
    ends_so more bytes (move_done front whole is fed) =
        let all : turn.bytes ≡ (first ++ front) ++ tagged tag done =
        bytes ∙ ap (λ (b : List ℕ). first ++ b) is ∙ sym (append_assoc first front (tagged tag done)) in
        inl (subst (EndsWith tag done) (sym all) (ends_tagged (first ++ front) tag done (whole_append first front first_whole whole) t done_inner))
    ends_so more bytes (move_refused front whole fault is) =
        let all : turn.bytes ≡ (first ++ front) ++ refusal_text tag fault =
        bytes ∙ ap (λ (b : List ℕ). first ++ b) is ∙ sym (append_assoc first front (refusal_text tag fault)) in
        inr (fault, ap last_line all ∙ last_behind (first ++ front) tag fault (whole_append first front first_whole whole) t)

    by : (s : Option Selected) → played tag now (moving s v batch) answers ≡ Some turn → SaysMoved v batch tag turn.bytes
    by None e =
        let m = mapped (saying first) (played tag now (finished batch) answers) turn e in
        let d = only_done tag done Go now answers m.more m.is in
        let all : turn.bytes ≡ first ++ tagged tag done = ap (λ (x : Turn). x.bytes) (sym m.makes) ∙ ap (λ (b : List ℕ). first ++ b) d.bytes in
        record { behind = tagged tag done; tells = all; ends = inl (subst (EndsWith tag done) (sym all) (ends_tagged first tag done first_whole t done_inner)) }
    by (Some s) e = let m = moves_so v batch tag s now answers turn e in record { behind = m.more.bytes; tells = m.bytes; ends = ends_so m.more m.bytes m.ends }

copies_says : (v : ℕ) (batch : Batch) (moves : Bool) (tag : List ℕ) → IsWord tag
    → (selected : Option Selected) (now : Standing) (answers : List Answer) (turn : Turn)
    → played tag now (if moves then moving selected v batch else showing selected (says (copied_words v batch))) answers ≡ Some turn
    → SaysCopied moves v batch tag turn.bytes ⊎ Refuses tag turn.bytes
copies_says v batch true tag t selected now answers turn e = inl (moves_says v batch tag t selected now answers turn e)
copies_says v batch false tag t selected now answers turn e =
    shows_then tag (copied_words v batch) t (plain_inner (copied_words v batch) (copied_plain v batch)) selected now answers turn e

-- the mailbox is counted first, for the house's UIDVALIDITY
counted_says : (k : Config) (n : ℕ) (Q : List ℕ → Type 0) (next : ℕ → ex.Exchange) (mailbox : ℕ) (tag : List ℕ) (now : Standing) (w : World) (answers : List Answer) (turn : Turn) (v : World)
    → played tag now (with_validity mailbox next) answers ≡ Some turn → Met (Calls k n) w turn.events v
    → ((rest : List Answer) (more : Turn) → played tag now (next k.uidvalidity) rest ≡ Some more → Q more.bytes ⊎ Refuses tag more.bytes) → Q turn.bytes ⊎ Refuses tag turn.bytes
counted_says k n Q next mailbox tag now w [] turn v e met says = absurd (none-some turn e)
counted_says k n Q next mailbox tag now w (Counted status ∷ rest) turn v e met says =
    let m = mapped (having (Count mailbox) (Counted status)) (played tag now (next status.uidvalidity) rest) turn e in
    let first : Met (Calls k n) w (record { call = Count mailbox; answer = Counted status } ∷ m.more.events) v =
    subst (λ (x : Turn). Met (Calls k n) w x.events v) (sym m.makes) met in
    let validity : status.uidvalidity ≡ k.uidvalidity = first.1.3 in
    subst (λ (x : Turn). Q x.bytes ⊎ Refuses tag x.bytes) m.makes
    (says rest m.more (subst (λ (x : ℕ). played tag now (next x) rest ≡ Some m.more) validity m.is))
counted_says k n Q next mailbox tag now w (Refused fault ∷ []) turn v e met says = inr (refused_says tag (Count mailbox) now fault turn e)
counted_says k n Q next mailbox tag now w (_ ∷ rest) turn v e met says = absurd (none-some turn e)

-- copies are removed again, where there are any, and then there is a NO
back_says : (tag words : List ℕ) (mailbox : ℕ) (copies : List ℕ) (now : Standing) (answers : List Answer) (turn : Turn)
    → played tag now (taking_back mailbox copies (says words)) answers ≡ Some turn → SaysRefused copies tag words turn.bytes
back_says tag words mailbox [] now answers turn e = (only_done tag words Go now answers turn e).bytes
back_says tag words mailbox (uid ∷ uids) now [] turn e = absurd (none-some turn e)
back_says tag words mailbox (uid ∷ uids) now (Discarded ∷ rest) turn e =
    let m = mapped (having (ex.Discard mailbox (uid ∷ uids)) Discarded) (played tag now (says words) rest) turn e in
    inl (ap (λ (x : Turn). x.bytes) (sym m.makes) ∙ (only_done tag words Go now rest m.more m.is).bytes)
back_says tag words mailbox (uid ∷ uids) now (Refused fault ∷ []) turn e = inr (refused_says tag (ex.Discard mailbox (uid ∷ uids)) now fault turn e)
back_says tag words mailbox (uid ∷ uids) now (_ ∷ rest) turn e = absurd (none-some turn e)

-- the next message is submitted, and nothing is said
pub awaits_silent : (tag : List ℕ) (origin : Origin) (mailbox : ℕ) (flags : Flags) (text : Text) (now : Standing) (answers : List Answer) (turn : Turn)
    → played tag now (ex.Wait [] (ex.ForVerdict origin mailbox flags text)) answers ≡ Some turn → turn.bytes ≡ []
awaits_silent tag origin mailbox flags text now [] turn e = sym (ap (λ (x : Turn). x.bytes) (ap (the_turn turn) e))
awaits_silent tag origin mailbox flags text now (ex.Starved zero ∷ []) turn e = absurd (none-some turn e)
awaits_silent tag origin mailbox flags text now (ex.Starved (suc n) ∷ []) turn e = absurd (none-some turn e)
awaits_silent tag origin mailbox flags text now (_ ∷ rest) turn e = absurd (none-some turn e)

-- one more copy of a batch is stored
batch_says : (k : Config) (n : ℕ) (batch : Batch) (mailbox : ℕ) (tag : List ℕ) → IsWord tag → (mailing : Mailing)
    → (selected : Option Selected) (now : Standing) (w : World) (answers : List Answer) (turn : Turn) (v : World)
    → Met (Calls k n) w turn.events v → (left : List Row) → batch.left ≡ left
    → played tag now (submitting_first mailing batch mailbox (with_validity mailbox (told_copied selected batch)) left) answers ≡ Some turn
    → (uid : ℕ) (uids : List ℕ) → batch.copies ≡ uid ∷ uids
    → SaysOfBatch k.uidvalidity batch tag turn.bytes ⊎ Refuses tag turn.bytes
batch_says k n batch mailbox tag t mailing selected now w answers turn v met [] is e uid uids some =
    counted_says k n (SaysOfBatch k.uidvalidity batch tag) (told_copied selected batch) mailbox tag now w answers turn v e met
    (λ rest more d. by more (copies_says k.uidvalidity batch batch.moves tag t selected now rest more d))
  where
    by : (more : Turn) → SaysCopied batch.moves k.uidvalidity batch tag more.bytes ⊎ Refuses tag more.bytes → SaysOfBatch k.uidvalidity batch tag more.bytes ⊎ Refuses tag more.bytes
    by more (inl s) = inl (all_stored is s)
    by more (inr f) = inr f
batch_says k n batch mailbox tag t mailing selected now w answers turn v met (row ∷ left) is e uid uids some = by (nat_le last_number mailing.number) e
  where
    removed : SaysRefused (uid ∷ uids) tag (response_text texts.MailboxSpent) turn.bytes → SaysOfBatch k.uidvalidity batch tag turn.bytes ⊎ Refuses tag turn.bytes
    removed (inl s) = inl (has_no_number row left is s)
    removed (inr f) = inr f

    by : (b : Bool) → played tag now (if b then taking_back mailbox batch.copies (says (response_text texts.MailboxSpent)) else ex.Wait [] (ex.ForVerdict (Copied (record batch { left = left })) mailbox row.flags row.text)) answers ≡ Some turn
        → SaysOfBatch k.uidvalidity batch tag turn.bytes ⊎ Refuses tag turn.bytes
    by true e =
        removed (subst (λ (copies : List ℕ). SaysRefused copies tag (response_text texts.MailboxSpent) turn.bytes) some (back_says tag (response_text texts.MailboxSpent) mailbox batch.copies now answers turn e))
    by false e = inl (awaits_next row left is (awaits_silent tag (Copied (record batch { left = left })) mailbox row.flags row.text now answers turn e))

-- what is last has something
some_last : (xs : List ℕ) (x : ℕ) → (y : ℕ) × (ys : List ℕ) × (xs ++ x ∷ [] ≡ y ∷ ys)
some_last [] x = (x, [], refl)
some_last (y ∷ ys) x = (y, ys ++ x ∷ [], refl)

stored_says : (k : Config) (n : ℕ) (origin : Origin) (mailbox uid : ℕ) (tag : List ℕ) → IsWord tag → (mailing : Mailing)
    → (selected : Option Selected) (now : Standing) (w : World) (answers : List Answer) (turn : Turn) (v : World)
    → played tag now (on_stored mailing selected origin mailbox uid) answers ≡ Some turn → Met (Calls k n) w turn.events v
    → SaysVerdict k.uidvalidity origin tag (verdicts.Stored uid) turn.bytes
stored_says k n Client mailbox uid tag t mailing selected now w answers turn v e met =
    counted_says k n (EndsWith tag (appended_words k.uidvalidity uid)) (told_appended selected uid) mailbox tag now w answers turn v e met
    (λ rest more d. shows_then tag (appended_words k.uidvalidity uid) t (appended_inner k.uidvalidity uid) selected now rest more d)
stored_says k n (Copied batch) mailbox uid tag t mailing selected now w answers turn v e met =
    let some = some_last batch.copies uid in
    batch_says k n (with_copy uid batch) mailbox tag t mailing selected now w answers turn v met batch.left refl e some.0 some.1 some.2

verdict_says : (k : Config) (n : ℕ) (origin : Origin) (mailbox : ℕ) (verdict : Verdict) (tag : List ℕ) → IsWord tag → (mailing : Mailing)
    → (selected : Option Selected) (now : Standing) (w : World) (answers : List Answer) (turn : Turn) (v : World)
    → played tag now (on_verdict mailing selected origin mailbox verdict) answers ≡ Some turn → Met (Calls k n) w turn.events v
    → SaysVerdict k.uidvalidity origin tag verdict turn.bytes
verdict_says k n origin mailbox (verdicts.Stored uid) tag t mailing selected now w answers turn v e met =
    stored_says k n origin mailbox uid tag t mailing selected now w answers turn v e met
verdict_says k n origin mailbox (verdicts.Refused why) tag t mailing selected now w answers turn v e met =
    back_says tag (response_text (refused_text why)) mailbox (copies_of origin) now answers turn e

-- ---- a turn

-- what is said to a verdict, of a session that waits for one
abbrev pub SaysSent : (uidvalidity : ℕ) → Verdict → List ℕ → Sent → Type 0
SaysSent uidvalidity verdict bytes sent = SaysVerdict uidvalidity sent.origin sent.tag verdict bytes

abbrev pub TurnTells : (uidvalidity : ℕ) → Standing → Happening → List ℕ → Type 0
TurnTells uidvalidity now (Heard verdict answers) bytes = IfSome now.mailing.sent (SaysSent uidvalidity verdict bytes)
TurnTells uidvalidity now happening bytes = TellsOfNone bytes

heard_tells : (k : Config) (n : ℕ) (sent : Option Sent) (now : Standing) (verdict : Verdict) (w : World) (answers : List Answer) (turn : Turn) (v : World) → IfSome sent (λ (s : Sent). IsWord s.tag)
    → turn_with sent now verdict answers ≡ Some turn → Met (Calls k n) w turn.events v → IfSome sent (SaysSent k.uidvalidity verdict turn.bytes)
heard_tells k n None now verdict w answers turn v t e met = tt
heard_tells k n (Some sent) now verdict w answers turn v t e met = verdict_says k n sent.origin sent.append.mailbox verdict sent.tag t now.mailing now.selected (without_sent now) w answers turn v e met

pub turn_tells : (k : Config) (n : ℕ) (now : Standing) (happening : Happening) (w : World) (turn : Turn) (v : World) → AreTagsOf IsWord now → leads_to now happening ≡ Some turn → Met (Calls k n) w turn.events v → TurnTells k.uidvalidity now happening turn.bytes
turn_tells k n now (Line line answers) w turn v t e met = some_tells_none (turn_of now line answers) turn (line_fine now line answers t) e
turn_tells k n now LongLine w turn v t e met = subst (λ (x : Turn). TellsOfNone x.bytes) (ap (the_turn turn) e) (apart_tells_none tells_stored _ (long_line_apart tells_stored uid_spares now t))
turn_tells k n now (Turned answers) w turn v t e met = some_tells_none (idle_turn_in now.selected (is_idling now) now answers) turn (idle_fine tells_stored now.selected (is_idling now) now answers) e
turn_tells k n now (Literal kept bytes) w turn v t e met = subst (λ (x : Turn). TellsOfNone x.bytes) (ap (the_turn turn) e) (silence_tells_none tells_stored [] refl)
turn_tells k n now (Heard verdict answers) w turn v t e met = heard_tells k n now.mailing.sent now verdict w answers turn v t.2 e met
