-- The answers of LIST, LSUB and STATUS tell a client nothing of messages.
use Rattle.std.proofs.Common.{◌≡◌, ℕ, ◌^◌, ◌<◌, ◌==◌, Bool, true, false, List, [], ◌∷◌, ◌++◌, map, ap, arith, ◌∙◌, sym, subst, refl, append_assoc}
use Rattle.std.specs.Prelude.{decimal, codes, flat_map, IfSome, Option, Some, if◌then◌else◌}
use Rattle.std.specs.List.{list_all}
use Rattle.std.proofs.lemmas.List.Folds.{list_all-append}
use Rattle.change_ring.specs.Words.{spaced}
use Rattle.mailbox.specs.declared.mailbox.Status.{Status}
use Rattle.imap_answers.specs.Answers.{asks_for_root, is_listed, list_answer, listed, name_answer, root_answer, status_answer, status_number, status_text}
use Rattle.imap_grammar.specs.Grammar.{status_word}
use Rattle.imap_grammar.specs.declared.items.StatusItem.{StatusItem}
use Rattle.imap_grammar.specs.declared.items.StatusItem.TheVariants as status
use Rattle.imap_session.specs.Exchange.{Folder}
use Rattle.imap_session.specs.Commands.{folder_of, is_named}
use Rattle.laws_client.specs.Client.{Client, Messages, knowing, reads}
use Rattle.laws_client.specs.Beliefs.{TellsNothing}
use Rattle.laws_client.specs.Commands.{AreNames}
use Rattle.laws_client.specs.ListTurns.{is_inner, IsCounted, IsPlain}
use Rattle.laws_client.proofs.Reading.{told}
use Rattle.laws_client.proofs.Bytes.{decimal_word_wide, reads-append, whole_line, words_are_inner}
use Rattle.laws_client.proofs.LinesRead.{not_a_count}
use Rattle.imap_answers.specs.declared.list.Listing.{Listing}
use Rattle.imap_answers.specs.declared.list.Listing.TheVariants.{All, Subscribed}

pub both_tell_nothing : (one two : List ℕ) → TellsNothing one → TellsNothing two → TellsNothing (one ++ two)
both_tell_nothing one two h k messages = reads-append (knowing messages) one two ∙ ap (λ (c : Client). reads c two) (h messages) ∙ k messages

pub inner_both : (a b : List ℕ) → list_all is_inner a ≡ true → list_all is_inner b ≡ true → list_all is_inner (a ++ b) ≡ true
inner_both a b h k = list_all-append is_inner a b ∙ rw (h, k) refl

-- a line that tells nothing as it stands
pub line_tells_nothing : (front : List ℕ) (last : ℕ) → (last == 125) ≡ false → list_all is_inner (front ++ last ∷ []) ≡ true → ((messages : Messages) → told (front ++ last ∷ []) messages ≡ messages)
    → TellsNothing ((front ++ last ∷ []) ++ 13 ∷ 10 ∷ [])
line_tells_nothing front last other inner nothing messages =
    whole_line messages (front ++ last ∷ []) inner (not_a_count front last other) ∙ ap knowing (nothing messages)

-- ---- LIST and LSUB

pub name_tells_nothing : (listing : Listing) (name : List ℕ) → IsPlain name → TellsNothing (name_answer listing name)
name_tells_nothing All name plain messages =
    ap (λ (n : List ℕ). reads (knowing messages) (name_answer All n)) plain.is
    ∙ line_tells_nothing (codes "* LIST () \"/\" " ++ plain.front) plain.last plain.no_count plain.inner (λ o. refl) messages
name_tells_nothing Subscribed name plain messages =
    ap (λ (n : List ℕ). reads (knowing messages) (name_answer Subscribed n)) plain.is
    ∙ line_tells_nothing (codes "* LSUB () \"/\" " ++ plain.front) plain.last plain.no_count plain.inner (λ o. refl) messages

if_listed : (b : Bool) (listing : Listing) (name : List ℕ) → IsPlain name → TellsNothing (if b then name_answer listing name else [])
if_listed true listing name plain = name_tells_nothing listing name plain
if_listed false listing name plain = λ messages. refl

names_tell_nothing : (listing : Listing) (pattern : List ℕ) (folders : List Folder) → AreNames folders → TellsNothing (flat_map (listed listing pattern) (map (λ (folder : Folder). folder.name) folders))
names_tell_nothing listing pattern [] plain = λ messages. refl
names_tell_nothing listing pattern (folder ∷ folders) plain =
    both_tell_nothing (listed listing pattern folder.name) (flat_map (listed listing pattern) (map (λ (f : Folder). f.name) folders))
    (if_listed (is_listed pattern folder.name) listing folder.name plain.0) (names_tell_nothing listing pattern folders plain.1)

root_tells_nothing : (listing : Listing) → TellsNothing (root_answer listing)
root_tells_nothing All messages = refl
root_tells_nothing Subscribed messages = refl

pub list_tells_nothing : (listing : Listing) (reference pattern : List ℕ) (folders : List Folder) → AreNames folders → TellsNothing (list_answer listing reference pattern (map (λ (folder : Folder). folder.name) folders))
list_tells_nothing listing reference pattern folders plain = by (asks_for_root reference pattern)
  where
    by : (b : Bool) → TellsNothing (if b then root_answer listing else flat_map (listed listing (reference ++ pattern)) (map (λ (folder : Folder). folder.name) folders))
    by true = root_tells_nothing listing
    by false = names_tell_nothing listing (reference ++ pattern) folders plain

-- ---- STATUS

pub word_inner : (item : StatusItem) → list_all is_inner (status_word item ++ codes " ") ≡ true
word_inner status.Messages = refl
word_inner _ = refl

number_small : (s : Status) (item : StatusItem) → IsCounted s → status_number s item < 10 ^ 64
number_small s status.Messages h = omega (arith, h.messages)
number_small s status.UidNext h = omega (arith, h.uidnext)
number_small s status.UidValidity h = omega (arith, h.uidvalidity)
number_small s status.Unseen h = omega (arith, h.unseen)
number_small s status.Deleted h = omega (arith, h.deleted)
number_small s status.Size h = omega (arith, h.size)
number_small s status.Recent h = omega arith

text_inner : (s : Status) (item : StatusItem) → IsCounted s → list_all is_inner (status_text s item) ≡ true
text_inner s item h =
    let n : ℕ = status_number s item in
    inner_both (status_word item ++ codes " ") (decimal n) (word_inner item) (words_are_inner (decimal n) (decimal_word_wide n (number_small s item h)))

texts_inner : (s : Status) (items : List StatusItem) → IsCounted s → list_all is_inner (spaced (map (status_text s) items)) ≡ true
texts_inner s [] h = refl
texts_inner s (item ∷ []) h = text_inner s item h
texts_inner s (item ∷ other ∷ items) h =
    inner_both (status_text s item) (32 ∷ spaced (map (status_text s) (other ∷ items))) (text_inner s item h) (texts_inner s (other ∷ items) h)

pub plain_inner : (name : List ℕ) → IsPlain name → list_all is_inner name ≡ true
plain_inner name plain = ap (list_all is_inner) plain.is ∙ plain.inner

pub status_tells_nothing : (name : List ℕ) (items : List StatusItem) (s : Status) → IsPlain name → IsCounted s → TellsNothing (status_answer name items s)
status_tells_nothing name items s plain h messages =
    let front : List ℕ = codes "* STATUS " ++ name ++ codes " (" in
    let texts : List ℕ = spaced (map (status_text s) items) in
    ap (reads (knowing messages)) (sym (append_assoc (front ++ texts) (41 ∷ []) (13 ∷ 10 ∷ [])))
    ∙ line_tells_nothing (front ++ texts) 41 refl
    (inner_both (front ++ texts) (41 ∷ []) (inner_both front texts (inner_both (codes "* STATUS " ++ name) (codes " (") (plain_inner name plain) refl) (texts_inner s items h)) refl)
    (λ o. refl) messages

-- ---- mailboxes by name

pub folder_plain : (name : List ℕ) (folders : List Folder) → AreNames folders → IfSome (folder_of name folders) (λ folder. IsPlain folder.name)
folder_plain name [] plain = tt
folder_plain name (folder ∷ folders) plain = by (is_named name folder) (folder_plain name folders plain.1)
  where
    by : (b : Bool) → IfSome (folder_of name folders) (λ f. IsPlain f.name) → IfSome (if b then Some folder else folder_of name folders) (λ f. IsPlain f.name)
    by true more = plain.0
    by false more = more

pub named_plain : (name : List ℕ) (folders : List Folder) (folder : Folder) → AreNames folders → folder_of name folders ≡ Some folder → IsPlain folder.name
named_plain name folders folder names is = subst (λ (o : Option Folder). IfSome o (λ f. IsPlain f.name)) is (folder_plain name folders names)
