-- What COPY and MOVE come to: they say a last line, or all messages were read, and they wait for the verdict on the first one's copy. And what a verdict on a copy comes to.
use Rattle.std.proofs.Common.{◌≡◌, ℕ, suc, ◌+◌, Bool, true, false, List, [], ◌∷◌, ◌++◌, length, length-append, refl, sym, ap, ◌∙◌, subst, append-nil, append_assoc, Option, Some, None}
use Rattle.std.specs.Prelude.{◌&&◌, if◌then◌else◌, nat_le, nat_lt}
use Rattle.std.specs.List.{AllByRecursion}
use Rattle.mailbox.specs.declared.clients.Row.{Row}
use Rattle.imap_grammar.specs.Sets.{named_in}
use Rattle.imap_grammar.specs.Verbs.{verb_of}
use Rattle.imap_grammar.specs.declared.command.Command.TheVariants as commands
use Rattle.imap_grammar.specs.declared.command.CopyMessages.{CopyMessages}
use Rattle.imap_grammar.specs.declared.set.SeqRange.{SeqRange}
use Rattle.imap_session.specs.declared.standing.Selected.{Selected}
use Rattle.imap_session.specs.Exchange.{Batch, Copied, Discard, Exchange, ForVerdict, Look, Mailing, Read, Standing, Wait}
use Rattle.imap_session.specs.Commands.{completed, copy_messages, copy_of, copy_to, empty_batch, gathering, is_over, last_number, most_copied, most_in_batch, nowhere, number_named, on_chosen, on_command, on_found, on_stored, over, says, submitting_first, taking_back, told_copied, wanting, with_copy, with_message, with_validity, wrong_state}
use Rattle.imap_session.specs.declared.texts.ResponseText.{ResponseText}
use Rattle.imap_session.specs.declared.texts.ResponseText.TheVariants as texts
use Rattle.imap_session.specs.Texts.{response_text}
use Rattle.exactly_once.specs.Found.{AreSomeOf, none_named, one_found, one_gone}

-- each of these messages is as short as one that is copied has to be
abbrev pub EachFits : Standing → List Row → Type 0
EachFits now rows = AllByRecursion (λ (row : Row). is_over (most_copied now.mailing.most) (length row.text.bytes) ≡ false) rows

-- The copy of this message goes to the mailbox that was named: of the first one that was found of those that the command named in its form. The others are left, and none is too long.
pub record IsCopied (now : Standing) (copy : CopyMessages) (batch : Batch) (mailbox : ℕ) (row : Row) : Type 0 where
  pub view : List ℕ
  pub uids : List ℕ
  pub set : named_in copy.by_uid copy.set view ≡ Some uids
  pub some : AreSomeOf batch.uids uids
  pub all : copy.by_uid ≡ false → batch.uids ≡ uids
  pub by_uid : copy.by_uid ≡ batch.by_uid
  pub moves : copy.moves ≡ batch.moves
  pub first : batch.copies ≡ []
  pub others : suc (length batch.left) ≡ length batch.uids
  pub named : number_named copy.name now.folders ≡ Some mailbox
  pub fits : is_over (most_copied now.mailing.most) (length row.text.bytes) ≡ false
  pub others_fit : EachFits now batch.left

-- it is so of each last line; and so where memory is wanted, a set is looked up and a message is read, if it is so of what comes then
pub record Passes (P : Exchange → Type 0) : Type 0 where
  pub told : (text : ResponseText) → P (says (response_text text))
  pub wanted : (x : Exchange) → P x → P (wanting x)
  pub looked : (by_uid : Bool) (set : List SeqRange) (next : List ℕ → Exchange) → ((view : List ℕ) → P (next view)) → P (Look by_uid set next)
  pub found : (uid : ℕ) (mark : Bool) (next : Option Row → Exchange) → ((row : Option Row) → P (next row)) → P (Read uid mark next)

in_either : (P : Exchange → Type 0) (b : Bool) (x y : Exchange) → P x → P y → P (if b then x else y)
in_either P true x y p q = p
in_either P false x y p q = q

in_over : (P : Exchange → Type 0) → Passes P → (most : Option ℕ) → P (over most)
in_over P passes None = passes.told texts.NotOffered
in_over P passes (Some most) = passes.told texts.MessageTooBig

-- ---- the messages that were read

one_more : {some all : List ℕ} (uid : ℕ) → AreSomeOf some all → AreSomeOf (some ++ uid ∷ []) (all ++ uid ∷ [])
one_more uid none_named = one_found uid [] [] none_named
one_more uid (one_found first others named h) = one_found first (others ++ uid ∷ []) (named ++ uid ∷ []) (one_more uid h)
one_more {some} uid (one_gone first others named h) = one_gone first (some ++ uid ∷ []) (named ++ uid ∷ []) (one_more uid h)

one_less : {some all : List ℕ} (uid : ℕ) → AreSomeOf some all → AreSomeOf some (all ++ uid ∷ [])
one_less uid none_named = one_gone uid [] [] none_named
one_less uid (one_found first others named h) = one_found first others (named ++ uid ∷ []) (one_less uid h)
one_less {some} uid (one_gone first others named h) = one_gone first some (named ++ uid ∷ []) (one_less uid h)

each_and : (now : Standing) (rows : List Row) (row : Row) → EachFits now rows → is_over (most_copied now.mailing.most) (length row.text.bytes) ≡ false → EachFits now (rows ++ row ∷ [])
each_and now [] row each fits = (fits, tt)
each_and now (first ∷ rows) row each fits = (each.0, each_and now rows row each.1 fits)

-- of those that the command named these have had their turn, and the batch has what was found of them
record IsGathered (now : Standing) (copy : CopyMessages) (passed : List ℕ) (batch : Batch) : Type 0 where
  some : AreSomeOf batch.uids passed
  all : copy.by_uid ≡ false → batch.uids ≡ passed
  by_uid : copy.by_uid ≡ batch.by_uid
  moves : copy.moves ≡ batch.moves
  first : batch.copies ≡ []
  each : length batch.left ≡ length batch.uids
  fit : EachFits now batch.left

with_one : (now : Standing) (copy : CopyMessages) (passed : List ℕ) (batch : Batch) (uid : ℕ) (row : Row) → IsGathered now copy passed batch
    → is_over (most_copied now.mailing.most) (length row.text.bytes) ≡ false → IsGathered now copy (passed ++ uid ∷ []) (with_message uid row batch)
with_one now copy passed batch uid row g fits = record {
  some = one_more uid g.some;
  all = λ numbered. ap (λ (x : List ℕ). x ++ uid ∷ []) (g.all numbered);
  by_uid = g.by_uid;
  moves = g.moves;
  first = g.first;
  each = length-append batch.left (row ∷ []) ∙ ap (λ (n : ℕ). n + 1) g.each ∙ sym (length-append batch.uids (uid ∷ []));
  fit = each_and now batch.left row g.fit fits;
}

without_one : (now : Standing) (copy : CopyMessages) (passed : List ℕ) (batch : Batch) (uid : ℕ) → IsGathered now copy passed batch → copy.by_uid ≡ true → IsGathered now copy (passed ++ uid ∷ []) batch
without_one now copy passed batch uid g by_uid = record {
  some = one_less uid g.some;
  all = λ numbered. let never : true ≡ false = sym by_uid ∙ numbered in cc;
  by_uid = g.by_uid;
  moves = g.moves;
  first = g.first;
  each = g.each;
  fit = g.fit;
}

-- ---- the command

pub copies_so : (P : Exchange → Type 0) → Passes P → (tag : List ℕ) (now : Standing) (copy : CopyMessages)
    → ((batch : Batch) (mailbox : ℕ) (row : Row) → IsCopied now copy batch mailbox row → P (Wait [] (ForVerdict (Copied batch) mailbox row.flags row.text)))
    → P (on_command tag now (commands.Copy copy))
copies_so P passes tag now copy waits = selected now.selected
  where
    done : Exchange
    done = completed (commands.Copy copy)

    -- all had their turn
    spent : (mailbox : ℕ) (batch : Batch) → batch.copies ≡ [] → P (taking_back mailbox batch.copies (says (response_text texts.MailboxSpent)))
    spent mailbox batch none = subst (λ (copies : List ℕ). P (taking_back mailbox copies (says (response_text texts.MailboxSpent)))) (sym none) (passes.told texts.MailboxSpent)

    submits : (view uids : List ℕ) (mailbox : ℕ) → named_in copy.by_uid copy.set view ≡ Some uids → number_named copy.name now.folders ≡ Some mailbox
        → (batch : Batch) → IsGathered now copy uids batch → (left : List Row) → batch.left ≡ left → P (submitting_first now.mailing batch mailbox done left)
    submits view uids mailbox set named batch g [] is = passes.told (texts.Completed (verb_of (commands.Copy copy)))
    submits view uids mailbox set named batch g (row ∷ left) is =
        let fit : EachFits now (row ∷ left) = subst (EachFits now) is g.fit in
        in_either P (nat_le last_number now.mailing.number) _ _ (spent mailbox batch g.first)
        (waits (record batch { left = left }) mailbox row (record {
          view = view;
          uids = uids;
          set = set;
          some = g.some;
          all = g.all;
          by_uid = g.by_uid;
          moves = g.moves;
          first = g.first;
          others = sym (ap (λ (rows : List Row). length rows) is) ∙ g.each;
          named = named;
          fits = fit.0;
          others_fit = fit.1;
        }))

    read : (mailbox uid : ℕ) (passed uids : List ℕ) (batch : Batch) → IsGathered now copy passed batch
        → ((more : Batch) → IsGathered now copy (passed ++ uid ∷ []) more → P (gathering now.mailing copy mailbox uids more)) → (row : Option Row)
        → P (on_found (λ (row : Row). if is_over (most_copied now.mailing.most) (length row.text.bytes) then over (most_copied now.mailing.most) else gathering now.mailing copy mailbox uids (with_message uid row batch))
        (if copy.by_uid then gathering now.mailing copy mailbox uids batch else says (response_text texts.MessagesGone)) row)
    read mailbox uid passed uids batch g goes None = gone copy.by_uid refl
      where
        gone : (b : Bool) → copy.by_uid ≡ b → P (if b then gathering now.mailing copy mailbox uids batch else says (response_text texts.MessagesGone))
        gone true is = goes batch (without_one now copy passed batch uid g is)
        gone false is = passes.told texts.MessagesGone
    read mailbox uid passed uids batch g goes (Some row) = fitting (is_over (most_copied now.mailing.most) (length row.text.bytes)) refl
      where
        fitting : (big : Bool) → is_over (most_copied now.mailing.most) (length row.text.bytes) ≡ big
            → P (if big then over (most_copied now.mailing.most) else gathering now.mailing copy mailbox uids (with_message uid row batch))
        fitting true is = in_over P passes (most_copied now.mailing.most)
        fitting false is = goes (with_message uid row batch) (with_one now copy passed batch uid row g is)

    gathers : (view all : List ℕ) (mailbox : ℕ) → named_in copy.by_uid copy.set view ≡ Some all → number_named copy.name now.folders ≡ Some mailbox
        → (uids passed : List ℕ) → passed ++ uids ≡ all → (batch : Batch) → IsGathered now copy passed batch → P (gathering now.mailing copy mailbox uids batch)
    gathers view all mailbox set named [] passed is batch g =
        submits view all mailbox set named batch (subst (λ (x : List ℕ). IsGathered now copy x batch) (sym (append-nil passed) ∙ is) g) batch.left refl
    gathers view all mailbox set named (uid ∷ uids) passed is batch g =
        passes.found uid false _
        (read mailbox uid passed uids batch g (λ more h. gathers view all mailbox set named uids (passed ++ uid ∷ []) (append_assoc passed (uid ∷ []) uids ∙ is) more h))

    chosen : (view : List ℕ) (mailbox : ℕ) → number_named copy.name now.folders ≡ Some mailbox → (uids : Option (List ℕ))
        → named_in copy.by_uid copy.set view ≡ uids
        → P (on_chosen uids (copy_of now.mailing copy mailbox))
    chosen view mailbox named None is = passes.told texts.SequenceTooHigh
    chosen view mailbox named (Some uids) is =
        in_either P (nat_lt most_in_batch (length uids)) _ _ (passes.told texts.TooManyMessages)
        (passes.wanted (gathering now.mailing copy mailbox uids (empty_batch copy))
        (gathers view uids mailbox is named uids [] refl (empty_batch copy) (record { some = none_named; all = λ numbered. refl; by_uid = refl; moves = refl; first = refl; each = refl; fit = tt })))

    to : (found : Option ℕ) → number_named copy.name now.folders ≡ found → P (on_found (copy_to now.mailing copy) nowhere found)
    to None named = passes.told texts.TryCreate
    to (Some mailbox) named =
        passes.looked copy.by_uid copy.set (λ view. on_chosen (named_in copy.by_uid copy.set view) (copy_of now.mailing copy mailbox))
        (λ view. chosen view mailbox named (named_in copy.by_uid copy.set view) refl)

    selected : (s : Option Selected) → P (on_found (copy_messages now copy) wrong_state s)
    selected None = passes.told texts.WrongState
    selected (Some s) =
        in_either P (copy.moves && s.read_only) (says (response_text texts.ReadOnly)) _ (passes.told texts.ReadOnly)
        (passes.wanted (on_found (copy_to now.mailing copy) nowhere (number_named copy.name now.folders)) (to (number_named copy.name now.folders) refl))

-- ---- verdicts on copies

-- it is so of each last line, and so where messages are removed, if it is so of what comes then
pub record TakesBack (P : Exchange → Type 0) : Type 0 where
  pub told : (text : ResponseText) → P (says (response_text text))
  pub removed : (mailbox : ℕ) (uids : List ℕ) (x : Exchange) → P x → P (Discard mailbox uids x)

pub back_so : (P : Exchange → Type 0) → TakesBack P → (mailbox : ℕ) (copies : List ℕ) (text : ResponseText) → P (taking_back mailbox copies (says (response_text text)))
back_so P takes mailbox [] text = takes.told text
back_so P takes mailbox (uid ∷ uids) text = takes.removed mailbox (uid ∷ uids) (says (response_text text)) (takes.told text)

-- One more copy of a batch stands: the next of those that are left is submitted, or there is no number for it; or all copies stand.
pub stored_so : (P : Exchange → Type 0) → TakesBack P → (mailing : Mailing) (selected : Option Selected) (batch : Batch) (mailbox uid : ℕ)
    → ((row : Row) (left : List Row) → batch.left ≡ row ∷ left → P (Wait [] (ForVerdict (Copied (record (with_copy uid batch) { left = left })) mailbox row.flags row.text)))
    → (batch.left ≡ [] → P (with_validity mailbox (told_copied selected (with_copy uid batch))))
    → P (on_stored mailing selected (Copied batch) mailbox uid)
stored_so P takes mailing selected batch mailbox uid waits all = by batch.left refl
  where
    by : (left : List Row) → batch.left ≡ left
        → P (submitting_first mailing (with_copy uid batch) mailbox (with_validity mailbox (told_copied selected (with_copy uid batch))) left)
    by [] is = all is
    by (row ∷ left) is =
        in_either P (nat_le last_number mailing.number) _ _ (back_so P takes mailbox (batch.copies ++ uid ∷ []) texts.MailboxSpent) (waits row left is)
