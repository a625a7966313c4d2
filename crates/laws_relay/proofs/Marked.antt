-- What is printed with marks tells the bytes that were said, where no line of them has an LF.
use Rattle.std.proofs.Common.{◌≡◌, ℕ, Bool, true, false, ◌&&◌, List, [], ◌∷◌, ◌++◌, refl, ap, sym, subst, ◌∙◌, append_assoc}
use Rattle.std.specs.Prelude.{codes, decimal, flat_map}
use Rattle.std.specs.List.{list_all}
use Rattle.std.proofs.lemmas.Bool.{false≢true}
use Rattle.std.proofs.lemmas.List.Folds.{list_all-append}
use Rattle.line_io.specs.Wire.{marked, joined, wire_lines}
use Rattle.line_io.specs.inner.WireLaws.{wire_joined}
use Rattle.lmtp_machine.specs.declared.reply.Reply.{Reply}
use Rattle.lmtp_machine.specs.declared.reply.Reply.TheVariants.{Greeting, LineTooLong, CommandUnknown, NotImplemented, BadClientName, InvalidArguments, PathTooLong, ParameterUnknown, BadSequence, Extensions, SenderOk, DomainUnknown, MailboxUnknown, TooManyRecipients, RecipientOk, StartInput, Okay, CannotVerify, Bye, ShuttingDown, Delivered, ShardFull, ShardClosed, MailboxFull, OutOfMemory, NoUidLeft, MessageTooBig, NulByte}
use Rattle.lmtp_machine.specs.Dialogue.{wire}
use Rattle.laws_relay.specs.Handed.{IsInLine}
use Rattle.laws_relay.proofs.Cuts.{all_joined, all_lines, all_uncut, around, is_inner, lines_of}

-- lines with no LF
abbrev AreInner : List (List ℕ) → Type 0
AreInner [] = Unit {0}
AreInner (line ∷ lines) = (list_all is_inner line ≡ true) × AreInner lines

inner_append : (xs ys : List (List ℕ)) → AreInner xs → AreInner ys → AreInner (xs ++ ys)
inner_append [] ys h k = k
inner_append (x ∷ xs) ys h k = (h.0, inner_append xs ys h.1 k)

and_right : (p q : Bool) → (p && q) ≡ true → q ≡ true
and_right true q e = e
and_right false q e = absurd (false≢true e)

tail_inner : (x : ℕ) (xs : List ℕ) → list_all is_inner (x ∷ xs) ≡ true → list_all is_inner xs ≡ true
tail_inner x xs h = and_right (is_inner x) (list_all is_inner xs) h

-- ---- one line

not_lf : (y : ℕ) (ys : List ℕ) → list_all is_inner (y ∷ ys) ≡ true → 10 ≡ y → ⊥
not_lf y ys h e = false≢true (subst (λ (n : ℕ). list_all is_inner (n ∷ ys) ≡ true) (sym e) h)

cut_at : (xs ys first second : List ℕ) → list_all is_inner xs ≡ true → list_all is_inner ys ≡ true → xs ++ 10 ∷ first ≡ ys ++ 10 ∷ second → (xs ≡ ys) × (first ≡ second)
cut_at [] [] first second h k e = let x : first ≡ second = cc in (refl, x)
cut_at [] (y ∷ ys) first second h k e = let x : 10 ≡ y = cc in absurd (not_lf y ys k x)
cut_at (x ∷ xs) [] first second h k e = let y : 10 ≡ x = cc in absurd (not_lf x xs h y)
cut_at (x ∷ xs) (y ∷ ys) first second h k e =
    let same : x ≡ y = cc in
    let rest : xs ++ 10 ∷ first ≡ ys ++ 10 ∷ second = cc in
    let both = cut_at xs ys first second (tail_inner x xs h) (tail_inner y ys k) rest in
    (ap (λ (n : ℕ). n ∷ xs) same ∙ ap (λ (l : List ℕ). y ∷ l) both.0, both.1)

cancel : (xs first second : List ℕ) → xs ++ first ≡ xs ++ second → first ≡ second
cancel [] first second e = e
cancel (x ∷ xs) first second e = let rest : xs ++ first ≡ xs ++ second = cc in cancel xs first second rest

-- ---- lines with marks

abbrev with_mark : List ℕ → List ℕ → List ℕ
with_mark mark line = mark ++ line ++ 10 ∷ []

regroup : (mark line rest : List ℕ) → (mark ++ line ++ 10 ∷ []) ++ rest ≡ mark ++ (line ++ (10 ∷ rest))
regroup mark line rest = simp append_assoc refl

marks_tell : (letter : ℕ) (mark : List ℕ) (xs ys : List (List ℕ)) → AreInner xs → AreInner ys
    → flat_map (with_mark (letter ∷ mark)) xs ≡ flat_map (with_mark (letter ∷ mark)) ys → xs ≡ ys
marks_tell letter mark [] [] h k e = refl
marks_tell letter mark [] (y ∷ ys) h k e = absurd cc
marks_tell letter mark (x ∷ xs) [] h k e = absurd cc
marks_tell letter mark (x ∷ xs) (y ∷ ys) h k e =
    let first : List ℕ = flat_map (with_mark (letter ∷ mark)) xs in
    let second : List ℕ = flat_map (with_mark (letter ∷ mark)) ys in
    let same : x ++ 10 ∷ first ≡ y ++ 10 ∷ second =
    cancel (letter ∷ mark) (x ++ 10 ∷ first) (y ++ 10 ∷ second) (sym (regroup (letter ∷ mark) x first) ∙ e ∙ regroup (letter ∷ mark) y second) in
    let both = cut_at x y first second h.0 k.0 same in
    ap (λ (l : List ℕ). l ∷ xs) both.0 ∙ ap (λ (ls : List (List ℕ)). y ∷ ls) (marks_tell letter mark xs ys h.1 k.1 both.1)

-- ---- replies

lines_inner : (host : List ℕ) (reply : Reply) → IsInLine host → AreInner (lines_of host reply)
lines_inner host Greeting h = (around (codes "220 ") host (codes " LMTP ready") refl h refl, tt)
lines_inner host LineTooLong h = (refl, tt)
lines_inner host CommandUnknown h = (refl, tt)
lines_inner host NotImplemented h = (refl, tt)
lines_inner host BadClientName h = (refl, tt)
lines_inner host InvalidArguments h = (refl, tt)
lines_inner host PathTooLong h = (refl, tt)
lines_inner host ParameterUnknown h = (refl, tt)
lines_inner host BadSequence h = (refl, tt)
lines_inner host Extensions h = (list_all-append is_inner (codes "250-") host ∙ h, (refl, (refl, (refl, tt))))
lines_inner host SenderOk h = (refl, tt)
lines_inner host DomainUnknown h = (refl, tt)
lines_inner host MailboxUnknown h = (refl, tt)
lines_inner host TooManyRecipients h = (refl, tt)
lines_inner host RecipientOk h = (refl, tt)
lines_inner host StartInput h = (refl, tt)
lines_inner host Okay h = (refl, tt)
lines_inner host CannotVerify h = (refl, tt)
lines_inner host Bye h = (refl, tt)
lines_inner host ShuttingDown h = (refl, tt)
lines_inner host Delivered h = (refl, tt)
lines_inner host ShardFull h = (refl, tt)
lines_inner host ShardClosed h = (refl, tt)
lines_inner host MailboxFull h = (refl, tt)
lines_inner host OutOfMemory h = (refl, tt)
lines_inner host NoUidLeft h = (refl, tt)
lines_inner host MessageTooBig h = (refl, tt)
lines_inner host NulByte h = (refl, tt)

all_inner : (host : List ℕ) (replies : List Reply) → IsInLine host → AreInner (all_lines host replies)
all_inner host [] h = tt
all_inner host (reply ∷ replies) h = inner_append (lines_of host reply) (all_lines host replies) (lines_inner host reply h) (all_inner host replies h)

lines_written : (host : List ℕ) (replies : List Reply) → IsInLine host → wire_lines (wire host replies) ≡ all_lines host replies
lines_written host replies h = ap wire_lines (sym (all_joined host replies)) ∙ (wire_joined (all_lines host replies) (all_uncut host replies h)).0

-- two lists of replies that are printed alike are the same bytes
pub prints_tell : (host : List ℕ) (letter n : ℕ) (xs ys : List Reply) → IsInLine host → marked letter n (wire host xs) ≡ marked letter n (wire host ys) → wire host xs ≡ wire host ys
prints_tell host letter n xs ys h e =
    let printed : (replies : List Reply) → marked letter n (wire host replies) ≡ flat_map (with_mark (letter ∷ (decimal n ++ codes " "))) (all_lines host replies) =
    λ replies. ap (flat_map (with_mark (letter ∷ (decimal n ++ codes " ")))) (lines_written host replies h) in
    let same : all_lines host xs ≡ all_lines host ys =
    marks_tell letter (decimal n ++ codes " ") (all_lines host xs) (all_lines host ys) (all_inner host xs h) (all_inner host ys h) (sym (printed xs) ∙ e ∙ printed ys) in
    sym (all_joined host xs) ∙ ap joined same ∙ all_joined host ys

-- and what prints nothing says nothing
pub prints_nothing : (host : List ℕ) (letter n : ℕ) (xs : List Reply) → IsInLine host → marked letter n (wire host xs) ≡ [] → wire host xs ≡ []
prints_nothing host letter n xs h e = prints_tell host letter n xs [] h e
