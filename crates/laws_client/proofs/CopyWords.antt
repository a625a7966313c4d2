-- What is told of copies stands in one line, and tells nothing of the selected mailbox.
use Rattle.std.proofs.Common.{◌≡◌, ℕ, true, List, [], ◌∷◌, ◌++◌, refl, ap, sym, ◌∙◌, append_assoc}
use Rattle.std.specs.Prelude.{codes, decimal}
use Rattle.std.specs.List.{list_all}
use Rattle.imap_answers.specs.Answers.{uid_set}
use Rattle.imap_session.specs.Exchange.{Batch, untagged}
use Rattle.imap_session.specs.Commands.{copied_words, moved_words}
use Rattle.laws_client.specs.Beliefs.{TellsNothing}
use Rattle.laws_client.specs.Client.{Messages, knowing, reads}
use Rattle.laws_client.specs.ListTurns.{IsPlain, is_inner}
use Rattle.laws_client.proofs.Reading.{into_first, status, words_from}
use Rattle.laws_client.proofs.Decimals.{decimal_inner}
use Rattle.laws_client.proofs.UidSets.{set_all}
use Rattle.laws_client.proofs.Untold.{inner_both, line_tells_nothing}

-- ---- sets of UIDs

set_inner : (uids : List ℕ) → list_all is_inner (uid_set uids) ≡ true
set_inner = set_all is_inner (record { digits = decimal_inner; colon = refl; comma = refl })

-- ---- the words

-- up to the last of the numbers
abbrev numbers : (uidvalidity : ℕ) → Batch → List ℕ
numbers uidvalidity batch = codes "OK [COPYUID " ++ decimal uidvalidity ++ codes " " ++ uid_set batch.uids ++ codes " " ++ uid_set batch.copies

numbers_inner : (uidvalidity : ℕ) (batch : Batch) → list_all is_inner (numbers uidvalidity batch) ≡ true
numbers_inner v batch =
    let u = uid_set batch.uids in
    let c = uid_set batch.copies in
    inner_both (codes "OK [COPYUID " ++ decimal v ++ codes " " ++ u ++ codes " ") c
    (inner_both (codes "OK [COPYUID " ++ decimal v ++ codes " " ++ u) (codes " ")
    (inner_both (codes "OK [COPYUID " ++ decimal v ++ codes " ") u
    (inner_both (codes "OK [COPYUID " ++ decimal v) (codes " ") (inner_both (codes "OK [COPYUID ") (decimal v) refl (decimal_inner v)) refl)
    (set_inner batch.uids)) refl) (set_inner batch.copies)

-- words behind them, but for the last byte
ends_in : (a x y front last : List ℕ) → x ++ y ≡ front ++ last → (a ++ x) ++ y ≡ (a ++ front) ++ last
ends_in a x y front last e = append_assoc a x y ∙ ap (λ (t : List ℕ). a ++ t) e ∙ sym (append_assoc a front last)

with_words : (uidvalidity : ℕ) (batch : Batch) (front : List ℕ) (last : ℕ) → list_all is_inner front ≡ true → list_all is_inner (last ∷ []) ≡ true
    → list_all is_inner ((numbers uidvalidity batch ++ front) ++ last ∷ []) ≡ true
with_words v batch front last h k = inner_both (numbers v batch ++ front) (last ∷ []) (inner_both (numbers v batch) front (numbers_inner v batch) h) k

pub copied_plain : (uidvalidity : ℕ) (batch : Batch) → IsPlain (copied_words uidvalidity batch)
copied_plain v batch = record {
  front = numbers v batch ++ codes "] COPY complete";
  last = 100;
  is = ends_in (numbers v batch) (codes "] ") (codes "COPY completed") (codes "] COPY complete") (100 ∷ []) refl;
  no_count = refl;
  inner = with_words v batch (codes "] COPY complete") 100 refl refl;
}

pub moved_plain : (uidvalidity : ℕ) (batch : Batch) → IsPlain (moved_words uidvalidity batch)
moved_plain v batch = record {
  front = numbers v batch ++ codes "] Move";
  last = 100;
  is = ends_in (numbers v batch) (codes "] ") (codes "Moved") (codes "] Move") (100 ∷ []) refl;
  no_count = refl;
  inner = with_words v batch (codes "] Move") 100 refl refl;
}

-- a word in brackets that begins otherwise than that of a list that is over
other_status : (words : List (List ℕ)) (o : Messages) → status (into_first 91 (into_first 67 (into_first 79 words))) o ≡ o
other_status [] o = refl
other_status (word ∷ words) o = refl

-- the line that is told of copies before their messages are removed
pub moved_tells_nothing : (uidvalidity : ℕ) (batch : Batch) → TellsNothing (untagged (moved_words uidvalidity batch))
moved_tells_nothing v batch messages =
    ap (λ (w : List ℕ). reads (knowing messages) (untagged w)) (ends_in (numbers v batch) (codes "] ") (codes "Moved") (codes "] Move") (100 ∷ []) refl)
    ∙ line_tells_nothing (codes "* " ++ (numbers v batch ++ codes "] Move")) 100 refl
    (inner_both (codes "* ") ((numbers v batch ++ codes "] Move") ++ 100 ∷ []) refl (with_words v batch (codes "] Move") 100 refl refl))
    (other_status (words_from true ((codes "PYUID " ++ decimal v ++ codes " " ++ uid_set batch.uids ++ codes " " ++ uid_set batch.copies ++ codes "] Move") ++ 100 ∷ []))) messages
