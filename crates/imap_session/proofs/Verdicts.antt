-- The verdict on an appended message, answered.
use Rattle.std.proofs.Common.{◌≡◌, ◌<◌, ◌≤◌, ◌^◌, ◌-◌, ◌==◌, ◌++◌, ℕ, arith, length, Bool, true, false, codes, Option, Some, None, List, [], ◌∷◌, refl, ap, ap₂, ◌∙◌, append_assoc}
use Rattle.std.specs.Prelude.{decimal, is_some, ◌&&◌, nat_le, if◌then◌else◌}
use Rattle.std.specs.List.{list_any}
use Rattle.std.specs.Option.{option_map}
use Rattle.mailbox.specs.declared.clients.Row.{Row}
use Rattle.imap_answers.specs.Answers.{uid_set}
use Rattle.std.proofs.lemmas.List.{length-append}
use Rattle.std.proofs.lemmas.Fmt.{length-decimal-le}
use Rattle.delivery_token.specs.declared.Verdict.{Verdict}
use Rattle.delivery_token.specs.declared.Verdict.TheVariants.{Stored, Refused}
use Rattle.delivery_token.specs.declared.Refusal.{Refusal}
use Rattle.delivery_token.specs.declared.Refusal.TheVariants.{Full}
use Rattle.imap_session.specs.declared.standing.Selected.{Selected}
use Rattle.imap_session.specs.Exchange.{Batch, Origin, Client, Copied, PendingLiteral, Discard, Exchange, Feed, ForVerdict, Mailing, Standing, Wait, tagged, untagged}
use Rattle.imap_session.specs.Commands.{appended_words, date_for, flags_for, is_over, kept_text, mailbox_for, last_number, nowhere, on_found, on_rest, on_text, on_verdict, refused_text, says, showing, over, taking, wanting, with_bytes, with_copy, with_validity, copied_words, copies_of, copy_code, move_done, moved_words, moving, on_stored, submitting_first, taking_back, told_copied, unlimited}
use Rattle.imap_session.specs.Shows.{IsNoOk, IsRefused, RestShowsNone, ShowsBefore, VerdictShowsInOrder, CopyGoesOn, CopyShows, StoredShows}
use Rattle.imap_session.specs.declared.texts.ResponseText.TheVariants as texts
use Rattle.imap_session.specs.Texts.{response_text}

pub ten_digits : (n : ℕ) → n < 2 ^ 32 → length (decimal n) ≤ 10
ten_digits n l = length-decimal-le 10 n (omega arith) (omega (arith, l)) (omega (arith, l))

-- ---- the line that tells where a message was stored

in_parts : (out tag space first validity gap number last end : List ℕ)
    → (((((out ++ tag) ++ (space ++ first)) ++ validity) ++ gap) ++ number) ++ (last ++ end) ≡ out ++ (((tag ++ space) ++ ((((first ++ validity) ++ gap) ++ number) ++ last)) ++ end)
in_parts out tag space first validity gap number last end = simp append_assoc refl

pub line_in_parts : (out tag : List ℕ) (validity number : ℕ) (a b c d e f : List ℕ) → a ≡ out ++ tag → b ≡ a ++ codes " OK [APPENDUID " → c ≡ b ++ decimal validity → d ≡ c ++ codes " " → e ≡ d ++ decimal number
    → f ≡ e ++ codes "] APPEND completed\r\n" → f ≡ out ++ tagged tag (appended_words validity number)
line_in_parts out tag validity number a b c d e f one two three four five six =
    six ∙ ap (λ (t : List ℕ). t ++ codes "] APPEND completed\r\n")
    (five ∙ ap (λ (t : List ℕ). t ++ decimal number) (four ∙ ap (λ (t : List ℕ). t ++ codes " ") (three ∙ ap (λ (t : List ℕ). t ++ decimal validity) (two ∙ ap (λ (t : List ℕ). t ++ codes " OK [APPENDUID ") one))))
    ∙ in_parts out tag (codes " ") (codes "OK [APPENDUID ") (decimal validity) (codes " ") (decimal number) (codes "] APPEND completed") (codes "\r\n")

-- ---- the lines that tell where the copy of a message was stored

code_parts : (out first validity gap number gap2 copy end : List ℕ)
    → (((((((out ++ first) ++ validity) ++ gap) ++ number) ++ gap2) ++ copy) ++ end) ≡ out ++ ((((((first ++ validity) ++ gap) ++ number) ++ gap2) ++ copy) ++ end)
code_parts out first validity gap number gap2 copy end = simp append_assoc refl

pub code_in_parts : (out : List ℕ) (validity : ℕ) (batch : Batch) (a b c d e f g : List ℕ) → a ≡ out ++ codes "OK [COPYUID " → b ≡ a ++ decimal validity → c ≡ b ++ codes " " → d ≡ c ++ uid_set batch.uids → e ≡ d ++ codes " "
    → f ≡ e ++ uid_set batch.copies → g ≡ f ++ codes "] " → g ≡ out ++ copy_code validity batch
code_in_parts out validity batch a b c d e f g one two three four five six seven =
    seven ∙ ap (λ (t : List ℕ). t ++ codes "] ")
    (six ∙ ap (λ (t : List ℕ). t ++ uid_set batch.copies) (five ∙ ap (λ (t : List ℕ). t ++ codes " ") (four ∙ ap (λ (t : List ℕ). t ++ uid_set batch.uids) (three ∙ ap (λ (t : List ℕ). t ++ codes " ")
    (two ∙ ap (λ (t : List ℕ). t ++ decimal validity) one)))))
    ∙ code_parts out (codes "OK [COPYUID ") (decimal validity) (codes " ") (uid_set batch.uids) (codes " ") (uid_set batch.copies) (codes "] ")

copied_parts : (out tag space code last end : List ℕ) → ((((out ++ tag) ++ space) ++ code) ++ (last ++ end)) ≡ out ++ (((tag ++ space) ++ (code ++ last)) ++ end)
copied_parts out tag space code last end = simp append_assoc refl

pub copied_in_parts : (out tag code : List ℕ) (a b c d : List ℕ) → a ≡ out ++ tag → b ≡ a ++ codes " " → c ≡ b ++ code → d ≡ c ++ codes "COPY completed\r\n" → d ≡ out ++ tagged tag (code ++ codes "COPY completed")
copied_in_parts out tag code a b c d one two three four =
    four ∙ ap (λ (t : List ℕ). t ++ codes "COPY completed\r\n") (three ∙ ap (λ (t : List ℕ). t ++ code) (two ∙ ap (λ (t : List ℕ). t ++ codes " ") one))
    ∙ copied_parts out tag (codes " ") code (codes "COPY completed") (codes "\r\n")

moved_parts : (out star code last end : List ℕ) → (((out ++ star) ++ code) ++ (last ++ end)) ≡ out ++ ((star ++ (code ++ last)) ++ end)
moved_parts out star code last end = simp append_assoc refl

pub moved_in_parts : (out code a b c : List ℕ) → a ≡ out ++ codes "* " → b ≡ a ++ code → c ≡ b ++ codes "Moved\r\n" → c ≡ out ++ untagged (code ++ codes "Moved")
moved_in_parts out code a b c one two three =
    three ∙ ap (λ (t : List ℕ). t ++ codes "Moved\r\n") (two ∙ ap (λ (t : List ℕ). t ++ code) one) ∙ moved_parts out (codes "* ") code (codes "Moved") (codes "\r\n")

-- ---- what shows changes

none_either : (b : Bool) (x y : Exchange) → RestShowsNone x → RestShowsNone y → RestShowsNone (if b then x else y)
none_either true x y p q = p
none_either false x y p q = q

over_none : (most : Option ℕ) → RestShowsNone (over most)
over_none None = refl
over_none (Some most) = refl

text_none : (mailing : Mailing) (a : PendingLiteral) (text : List ℕ) (mailbox : ℕ) → RestShowsNone (on_text mailing a text mailbox)
text_none mailing a text mailbox =
    none_either (is_over mailing.most a.size) (over mailing.most) _ (over_none mailing.most)
    (none_either (list_any (λ b. b == 0) text) (says (response_text texts.NulByte)) _ refl
    (none_either (nat_le last_number mailing.number) (says (response_text texts.MailboxSpent)) (wanting (Wait [] (ForVerdict Client mailbox (flags_for a.purpose) (record { bytes = text; date = date_for a.purpose })))) refl (refl, (refl, refl))))

named_none : (mailing : Mailing) (a : PendingLiteral) (text : List ℕ) (mailbox : Option ℕ) → RestShowsNone (on_found (on_text mailing a text) nowhere mailbox)
named_none mailing a text None = refl
named_none mailing a text (Some mailbox) = text_none mailing a text mailbox

kept_none : (mailing : Mailing) (a : PendingLiteral) (empty : Bool) (text : Option (List ℕ))
    → RestShowsNone (on_found (λ text. if empty then on_found (on_text mailing a text) nowhere (mailbox_for a.purpose) else says (response_text texts.InvalidArguments)) (says (response_text texts.OutOfMemory)) text)
kept_none mailing a empty None = refl
kept_none mailing a empty (Some text) = none_either empty (on_found (on_text mailing a text) nowhere (mailbox_for a.purpose)) (says (response_text texts.InvalidArguments)) (named_none mailing a text (mailbox_for a.purpose)) refl

pub rest_none : (mailing : Mailing) (a : PendingLiteral) (empty : Bool) → RestShowsNone (on_rest mailing a empty)
rest_none mailing a empty = kept_none mailing a empty a.text

shown_before : (selected : Option Selected) (words : List ℕ)
    → ShowsBefore (says words) (λ bytes. bytes ≡ []) true (is_some selected) false (showing selected (says words))
shown_before None words = λ must. absurd cc
shown_before (Some selected) words = (refl, refl, refl)

refused_says : (why : Refusal) → IsNoOk (response_text (refused_text why))
refused_says Full = refl
refused_says _ = refl

removed_shown : (selected : Option Selected) (batch : Batch) (says : List ℕ → Type 0)
    → ShowsBefore (move_done batch) says true (is_some selected) false (on_found (λ (s : Selected). Discard s.mailbox batch.uids (Feed unlimited (move_done batch))) (move_done batch) selected)
removed_shown None batch says = λ must. absurd cc
removed_shown (Some selected) batch says = (refl, refl, refl)

copy_shown : (selected : Option Selected) (batch : Batch) (moves : Bool) (uidvalidity : ℕ)
    → CopyShows selected batch moves uidvalidity (if moves then moving selected uidvalidity batch else showing selected (says (copied_words uidvalidity batch)))
copy_shown selected batch true uidvalidity = (refl, removed_shown selected batch (λ bytes. bytes ≡ untagged (moved_words uidvalidity batch)))
copy_shown selected batch false uidvalidity = shown_before selected (copied_words uidvalidity batch)

goes_either : (selected : Option Selected) (batch : Batch) (b : Bool) (x y : Exchange) → CopyGoesOn selected batch x → CopyGoesOn selected batch y → CopyGoesOn selected batch (if b then x else y)
goes_either selected batch true x y p q = p
goes_either selected batch false x y p q = q

taken_back_goes : (selected : Option Selected) (batch : Batch) (mailbox : ℕ) (copies : List ℕ) → CopyGoesOn selected batch (taking_back mailbox copies (says (response_text texts.MailboxSpent)))
taken_back_goes selected batch mailbox [] = refl
taken_back_goes selected batch mailbox (uid ∷ uids) = refl

copy_goes : (mailing : Mailing) (selected : Option Selected) (batch : Batch) (mailbox : ℕ) (left : List Row)
    → CopyGoesOn selected batch (submitting_first mailing batch mailbox (with_validity mailbox (told_copied selected batch)) left)
copy_goes mailing selected batch mailbox [] = λ status. copy_shown selected batch batch.moves status.uidvalidity
copy_goes mailing selected batch mailbox (row ∷ left) =
    goes_either selected batch (nat_le last_number mailing.number) (taking_back mailbox batch.copies (says (response_text texts.MailboxSpent))) (Wait [] (ForVerdict (Copied (record batch { left = left })) mailbox row.flags row.text))
    (taken_back_goes selected batch mailbox batch.copies) (refl, refl)

stored_shown : (mailing : Mailing) (selected : Option Selected) (origin : Origin) (mailbox uid : ℕ) → StoredShows selected origin uid (on_stored mailing selected origin mailbox uid)
stored_shown mailing selected Client mailbox uid = λ status. shown_before selected (appended_words status.uidvalidity uid)
stored_shown mailing selected (Copied batch) mailbox uid = copy_goes mailing selected (with_copy uid batch) mailbox batch.left

refused_shown : (mailbox : ℕ) (copies : List ℕ) (why : Refusal) → IsRefused (taking_back mailbox copies (says (response_text (refused_text why))))
refused_shown mailbox [] why = refused_says why
refused_shown mailbox (uid ∷ uids) why = refused_says why

pub verdict_shown : (mailing : Mailing) (selected : Option Selected) (origin : Origin) (mailbox : ℕ) (verdict : Verdict) → VerdictShowsInOrder selected origin verdict (on_verdict mailing selected origin mailbox verdict)
verdict_shown mailing selected origin mailbox (Stored uid) = stored_shown mailing selected origin mailbox uid
verdict_shown mailing selected origin mailbox (Refused why) = refused_shown mailbox (copies_of origin) why

-- ---- bytes of a literal

kept_again : (kept also_kept : Bool) (front back : List ℕ) (text : Option (List ℕ)) → kept_text also_kept back (kept_text kept front text) ≡ kept_text (kept && also_kept) (front ++ back) text
kept_again true true front back (Some text) = ap (λ t. Some t) (append_assoc text front back)
kept_again true false front back (Some text) = refl
kept_again false true front back (Some text) = refl
kept_again false false front back (Some text) = refl
kept_again true true front back None = refl
kept_again true false front back None = refl
kept_again false true front back None = refl
kept_again false false front back None = refl

due_again : (due : ℕ) (front back : List ℕ) → due - length front - length back ≡ due - length (front ++ back)
due_again due front back = rw (length-append front back) (omega arith)

taking_again : (kept also_kept : Bool) (front back : List ℕ) (a : PendingLiteral) → taking also_kept back (taking kept front a) ≡ taking (kept && also_kept) (front ++ back) a
taking_again kept also_kept front back a =
    ap₂ (λ (due : ℕ) (text : Option (List ℕ)). (let x : PendingLiteral = record { tag = a.tag; purpose = a.purpose; size = a.size; due = due; text = text } in x))
    (due_again a.due front back) (kept_again kept also_kept front back a.text)

pub cut_anywhere : (now : Standing) (front back : List ℕ) (kept also_kept : Bool) → with_bytes also_kept back (with_bytes kept front now) ≡ with_bytes (kept && also_kept) (front ++ back) now
cut_anywhere now front back kept also_kept = with_begun now front back kept also_kept now.mailing.begun
  where
    begun_as : Standing → Option PendingLiteral → Standing
    begun_as now b = record now { mailing = record now.mailing { begun = b } }

    with_begun : (now : Standing) (front back : List ℕ) (kept also_kept : Bool) (b : Option PendingLiteral)
        → begun_as now (option_map (taking also_kept back) (option_map (taking kept front) b)) ≡ begun_as now (option_map (taking (kept && also_kept) (front ++ back)) b)
    with_begun now front back kept also_kept None = refl
    with_begun now front back kept also_kept (Some a) = ap (λ (x : PendingLiteral). begun_as now (Some x)) (taking_again kept also_kept front back a)
