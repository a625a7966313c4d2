-- What is said of a message that a client appends.
use Rattle.std.specs.Prelude.{nat_lt, if◌then◌else◌}
use Rattle.std.proofs.lemmas.Bool.Decides.{nat_tests}
use Rattle.std.proofs.Common.{◌≡◌, ◌<◌, ◌≤◌, ◌+◌, arith, ℕ, Bool, true, false, Option, List, [], ◌∷◌, ◌++◌, None, Some, ap, sym, ◌∙◌, append-nil, length, refl, subst}
use Rattle.mail_date.specs.declared.stamp.Stamp.{Stamp}
use Rattle.delivery_token.specs.Text.{Text}
use Rattle.imap_session.specs.declared.standing.After.TheVariants.{Go, Bye, Literal}
use Rattle.imap_session.specs.Exchange.{Argument, Asked, Coming, Dropped, Exchange, Origin, Unasked, continuing, Folder, Message, Purpose, ForLiteral, ForNothing, ForVerdict, Standing, Starved, Wait, Waiting, after_waiting, bye, most_in_place, played, tagged, text_before, waiting}
use Rattle.change_ring.specs.declared.change.Flags.{Flags}
use Rattle.imap_grammar.specs.declared.command.Append.{Append}
use Rattle.imap_grammar.specs.declared.command.Literal.{Literal as Announced}
use Rattle.imap_session.specs.inner.Appends.{Leads}
use Rattle.imap_session.specs.Commands.{appending, asking, awaiting_argument, coming, most_line, most_unasked, nowhere, is_over, number_named, on_found, over, says, wanting}
use Rattle.imap_session.specs.declared.texts.ResponseText.TheVariants as texts
use Rattle.imap_session.specs.Texts.{response_text}

-- ---- what was said behind what was written before

pub said_under : (words after out given text tag : List ℕ) → after ≡ out ++ tagged given words → out ≡ text → given ≡ tag → after ≡ text ++ tagged tag words
said_under words after out given text tag e same own = e ∙ ap (λ t. t ++ tagged given words) same ∙ ap (λ t. text ++ tagged t words) own

-- ---- where an exchange without a call leads

pub leads_says : (tag words : List ℕ) (now next : Standing) (x : Exchange) (before text : List ℕ) → x ≡ says words → text ≡ before ++ tagged tag words → next ≡ now → Leads tag now x before text Go next
leads_says tag words now next x before text e w same =
    subst (λ (n : Standing). Leads tag now x before text Go n) (sym same)
    ([], tagged tag words ++ [], ap (λ y. played tag now y []) e, w ∙ ap (λ t. before ++ t) (sym (append-nil (tagged tag words))))

pub leads_waits : (tag bytes : List ℕ) (waits : Waiting) (now next : Standing) (x : Exchange) (before text : List ℕ)
    → x ≡ Wait bytes waits → text ≡ before ++ bytes → next ≡ waiting tag waits now → Leads tag now x before text (after_waiting waits) next
leads_waits tag bytes waits now next x before text e w same =
    subst (λ (n : Standing). Leads tag now x before text (after_waiting waits) n) (sym same)
    ([], bytes ++ [], ap (λ y. played tag now y []) e, w ∙ ap (λ t. before ++ t) (sym (append-nil bytes)))

-- memory is refused before anything is done
pub leads_starved : (tag : List ℕ) (now next : Standing) (x y : Exchange) (before text : List ℕ) → x ≡ wanting y → text ≡ before ++ tagged tag (response_text texts.OutOfMemory) → next ≡ now
    → Leads tag now x before text Go next
leads_starved tag now next x y before text e w same =
    subst (λ (n : Standing). Leads tag now x before text Go n) (sym same)
    (Starved 0 ∷ [], tagged tag (response_text texts.OutOfMemory) ++ [], ap (λ z. played tag now z (Starved 0 ∷ [])) e, w ∙ ap (λ t. before ++ t) (sym (append-nil (tagged tag (response_text texts.OutOfMemory)))))

-- memory that may be wanted is there
pub leads_wanting_says : (tag words : List ℕ) (now next : Standing) (x : Exchange) (before text : List ℕ) → x ≡ wanting (says words) → text ≡ before ++ tagged tag words → next ≡ now
    → Leads tag now x before text Go next
leads_wanting_says tag words now next x before text e w same =
    subst (λ (n : Standing). Leads tag now x before text Go n) (sym same)
    ([], tagged tag words ++ [], ap (λ y. played tag now y []) e, w ∙ ap (λ t. before ++ t) (sym (append-nil (tagged tag words))))

pub leads_wanting_waits : (tag bytes : List ℕ) (waits : Waiting) (now next : Standing) (x : Exchange) (before text : List ℕ)
    → x ≡ wanting (Wait bytes waits) → text ≡ before ++ bytes → next ≡ waiting tag waits now → Leads tag now x before text (after_waiting waits) next
leads_wanting_waits tag bytes waits now next x before text e w same =
    subst (λ (n : Standing). Leads tag now x before text (after_waiting waits) n) (sym same)
    ([], bytes ++ [], ap (λ y. played tag now y []) e, w ∙ ap (λ t. before ++ t) (sym (append-nil bytes)))

pub submitted_again : {s now : Standing} (origin : Origin) (mailbox : ℕ) (own flags : Flags) (t u : Text) (tag : List ℕ) → own ≡ flags → t ≡ u → s ≡ now
    → waiting tag (ForVerdict origin mailbox own t) s ≡ waiting tag (ForVerdict origin mailbox flags u) now
submitted_again {s} {now} origin mailbox own flags t u tag same e f =
    ap (λ (y : Flags). waiting tag (ForVerdict origin mailbox y t) s) same
    ∙ ap (λ (y : Text). waiting tag (ForVerdict origin mailbox flags y) s) e ∙ ap (λ (x : Standing). waiting tag (ForVerdict origin mailbox flags u) x) f

-- the same under a tag that was copied
pub submitted_under : {s now : Standing} (origin : Origin) (mailbox : ℕ) (flags : Flags) (text : Text) (t tag : List ℕ) → t ≡ tag → s ≡ now
    → waiting t (ForVerdict origin mailbox flags text) s ≡ waiting tag (ForVerdict origin mailbox flags text) now
submitted_under {s} {now} origin mailbox flags text t tag e f =
    ap (λ (y : List ℕ). waiting y (ForVerdict origin mailbox flags text) s) e ∙ ap (λ (x : Standing). waiting tag (ForVerdict origin mailbox flags text) x) f

-- ---- the line of an APPEND

abbrev begins : List ℕ → Purpose → ℕ → Option (List ℕ) → Standing → Standing
begins tag purpose size text s = record s { mailing = record s.mailing { begun = Some (record { tag = tag; purpose = purpose; size = size; due = size; text = text }) } }

pub begun_again : {s now : Standing} (how : Coming) (p purpose : Purpose) (size : ℕ) (t tag : List ℕ) (y : Option (List ℕ)) → p ≡ purpose → t ≡ tag → y ≡ text_before how → s ≡ now
    → begins t p size y s ≡ waiting tag (ForLiteral how purpose size) now
begun_again {s} {now} how p purpose size t tag y named e f same =
    ap (λ (z : Option (List ℕ)). begins t p size z s) f
    ∙ ap (λ (o : Purpose). begins t o size (text_before how) s) named
    ∙ ap (λ (z : List ℕ). waiting z (ForLiteral how purpose size) s) e
    ∙ ap (waiting tag (ForLiteral how purpose size)) same

pub less_true : (a b : ℕ) → a < b → nat_lt a b ≡ true
less_true a b l = grind (arith, nat_tests)

pub not_less : (a b : ℕ) → b ≤ a → nat_lt a b ≡ false
not_less a b l = grind (arith, nat_tests)

-- memory is refused for a literal that comes unasked: its bytes are dropped, or, where the tag is too long to be kept, the session ends
pub leads_dropping : (tag : List ℕ) (mailbox : Option ℕ) (flags : Flags) (date : Option Stamp) (size : ℕ) (now next : Standing) (before text : List ℕ) → text ≡ before → next ≡ waiting tag (ForLiteral Dropped (Message None flags date) size) now
    → Leads tag now (coming mailbox flags date size) before text (Literal size) next
leads_dropping tag mailbox flags date size now next before text w same =
    subst (λ (n : Standing). Leads tag now (coming mailbox flags date size) before text (Literal size) n) (sym same)
    (Starved 0 ∷ [], [], refl, w ∙ sym (append-nil before))

pub leads_parting : (tag : List ℕ) (mailbox : Option ℕ) (flags : Flags) (date : Option Stamp) (size : ℕ) (now next : Standing) (before text : List ℕ) → most_in_place < length tag → text ≡ before ++ bye (response_text texts.ByeOutOfMemory)
    → next ≡ record now { ended = true } → Leads tag now (coming mailbox flags date size) before text Bye next
leads_parting tag mailbox flags date size now next before text long w same =
    subst (λ (n : Standing). Leads tag now (coming mailbox flags date size) before text Bye n) (sym same) (
      Starved 1 ∷ [],
      bye (response_text texts.ByeOutOfMemory) ++ [],
      ap (λ (b : Bool). if b then Some (record { events = []; bytes = bye (response_text texts.ByeOutOfMemory) ++ []; after = Bye; standing = record now { ended = true } }) else None) (less_true most_in_place (length tag) long),
      w ∙ ap (λ t. before ++ t) (sym (append-nil (bye (response_text texts.ByeOutOfMemory)))),
    )

-- a literal that is asked for
abbrev pub asked_at : Option ℕ → Append → Option ℕ → Exchange
asked_at most a o = on_found (λ mailbox. if is_over most a.literal.size then over most else asking mailbox a.flags a.date a.literal.size) nowhere o

pub asked : (most : Option ℕ) (folders : List Folder) (a : Append) → a.literal.waits ≡ true → appending most folders a ≡ wanting (asked_at most a (number_named a.name folders))
asked most folders a e = rw e refl

abbrev pub sent_at : Option ℕ → Append → Option ℕ → Exchange
sent_at most a o = if nat_lt most_unasked a.literal.size then Wait (bye (response_text texts.LiteralTooBig)) ForNothing else coming o a.flags a.date a.literal.size

pub unasked : (most : Option ℕ) (folders : List Folder) (a : Append) → a.literal.waits ≡ false → appending most folders a ≡ sent_at most a (number_named a.name folders)
unasked most folders a e = rw e refl

pub ended_again : {s now : Standing} → s ≡ now → record s { ended = true } ≡ record now { ended = true }
ended_again {s} {now} e = ap (λ (x : Standing). record x { ended = true }) e

-- where there is no such mailbox, where the message is too big, and where it isn't
pub asked_nowhere : (most : Option ℕ) (folders : List Folder) (a : Append) → a.literal.waits ≡ true → number_named a.name folders ≡ None → appending most folders a ≡ wanting nowhere
asked_nowhere most folders a e none = asked most folders a e ∙ ap (λ o. wanting (asked_at most a o)) none

if_fits : Option ℕ → Append → ℕ → Bool → Exchange
if_fits most a number big = wanting (if big then over most else asking number a.flags a.date a.literal.size)

pub asked_over : (most : Option ℕ) (number : ℕ) (folders : List Folder) (a : Append) → a.literal.waits ≡ true → number_named a.name folders ≡ Some number → is_over most a.literal.size ≡ true → appending most folders a ≡ wanting (over most)
unfolding if_fits
asked_over most number folders a e some big =
    asked most folders a e ∙ ap (λ o. wanting (asked_at most a o)) some ∙ ap (if_fits most a number) big

if_asked : Option ℕ → Append → Option ℕ → Bool → Exchange
if_asked most a o big = if big then Wait (bye (response_text texts.LiteralTooBig)) ForNothing else coming o a.flags a.date a.literal.size

pub sent_too_big : (most : Option ℕ) (folders : List Folder) (a : Append) → a.literal.waits ≡ false → most_unasked < a.literal.size → appending most folders a ≡ Wait (bye (response_text texts.LiteralTooBig)) ForNothing
unfolding if_asked
sent_too_big most folders a e big = unasked most folders a e ∙ ap (if_asked most a (number_named a.name folders)) (less_true most_unasked a.literal.size big)

pub sent_fits : (most : Option ℕ) (folders : List Folder) (a : Append) → a.literal.waits ≡ false → a.literal.size ≤ most_unasked → appending most folders a ≡ coming (number_named a.name folders) a.flags a.date a.literal.size
unfolding if_asked
sent_fits most folders a e fits = unasked most folders a e ∙ ap (if_asked most a (number_named a.name folders)) (not_less most_unasked a.literal.size fits)

-- ---- a literal that is an argument

argument_at : List ℕ → Announced → Bool → Bool → Bool → Exchange
argument_at before literal waits long big =
    if waits
    then (if long then says (response_text texts.LineTooLong) else wanting (Wait (continuing (response_text texts.Ready)) (ForLiteral Asked (Argument before) literal.size)))
    else (if big then Wait (bye (response_text texts.LiteralTooBig)) ForNothing else Wait [] (ForLiteral Unasked (Argument before) literal.size))

pub argument_too_long : (before : List ℕ) (literal : Announced) → literal.waits ≡ true → most_line < length before + literal.size → awaiting_argument before literal ≡ says (response_text texts.LineTooLong)
unfolding argument_at
argument_too_long before literal w l =
    ap (λ b. argument_at before literal b (nat_lt most_line (length before + literal.size)) (nat_lt most_unasked literal.size)) w
    ∙ ap (λ b. argument_at before literal true b (nat_lt most_unasked literal.size)) (less_true most_line (length before + literal.size) l)

pub argument_asked : (before : List ℕ) (literal : Announced) → literal.waits ≡ true → length before + literal.size ≤ most_line
    → awaiting_argument before literal ≡ wanting (Wait (continuing (response_text texts.Ready)) (ForLiteral Asked (Argument before) literal.size))
unfolding argument_at
argument_asked before literal w l =
    ap (λ b. argument_at before literal b (nat_lt most_line (length before + literal.size)) (nat_lt most_unasked literal.size)) w
    ∙ ap (λ b. argument_at before literal true b (nat_lt most_unasked literal.size)) (not_less most_line (length before + literal.size) l)

pub argument_too_big : (before : List ℕ) (literal : Announced) → literal.waits ≡ false → most_unasked < literal.size → awaiting_argument before literal ≡ Wait (bye (response_text texts.LiteralTooBig)) ForNothing
unfolding argument_at
argument_too_big before literal w l =
    ap (λ b. argument_at before literal b (nat_lt most_line (length before + literal.size)) (nat_lt most_unasked literal.size)) w
    ∙ ap (λ b. argument_at before literal false (nat_lt most_line (length before + literal.size)) b) (less_true most_unasked literal.size l)

pub argument_comes : (before : List ℕ) (literal : Announced) → literal.waits ≡ false → literal.size ≤ most_unasked → awaiting_argument before literal ≡ Wait [] (ForLiteral Unasked (Argument before) literal.size)
unfolding argument_at
argument_comes before literal w l =
    ap (λ b. argument_at before literal b (nat_lt most_line (length before + literal.size)) (nat_lt most_unasked literal.size)) w
    ∙ ap (λ b. argument_at before literal false (nat_lt most_line (length before + literal.size)) b) (not_less most_unasked literal.size l)

-- memory is refused for one that comes unasked
pub leads_dropping_argument : (tag before_literal : List ℕ) (size : ℕ) (now next : Standing) (x : Exchange) (before text : List ℕ) → x ≡ Wait [] (ForLiteral Unasked (Argument before_literal) size) → text ≡ before
    → next ≡ waiting tag (ForLiteral Dropped (Argument []) size) now → Leads tag now x before text (Literal size) next
leads_dropping_argument tag line size now next x before text e w same =
    subst (λ (n : Standing). Leads tag now x before text (Literal size) n) (sym same)
    (Starved 0 ∷ [], [], ap (λ y. played tag now y (Starved 0 ∷ [])) e, w ∙ sym (append-nil before))

pub leads_parting_argument : (tag line : List ℕ) (size : ℕ) (now next : Standing) (x : Exchange) (before text : List ℕ) → x ≡ Wait [] (ForLiteral Unasked (Argument line) size) → most_in_place < length tag
    → text ≡ before ++ bye (response_text texts.ByeOutOfMemory) → next ≡ record now { ended = true } → Leads tag now x before text Bye next
leads_parting_argument tag line size now next x before text e long w same =
    subst (λ (n : Standing). Leads tag now x before text Bye n) (sym same) (
      Starved 1 ∷ [],
      bye (response_text texts.ByeOutOfMemory) ++ [],
      ap (λ y. played tag now y (Starved 1 ∷ [])) e
          ∙ ap (λ (b : Bool). if b then Some (record { events = []; bytes = bye (response_text texts.ByeOutOfMemory) ++ []; after = Bye; standing = record now { ended = true } }) else None) (less_true most_in_place (length tag) long),
      w ∙ ap (λ t. before ++ t) (sym (append-nil (bye (response_text texts.ByeOutOfMemory)))),
    )
