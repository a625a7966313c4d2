-- What is told of a mailbox that was entered, read by a client with no messages.
use Rattle.std.proofs.Common.{◌≡◌, ℕ, ◌-◌, ◌^◌, ◌<◌, Bool, true, false, List, [], ◌∷◌, ◌++◌, length, ap, ◌∙◌, sym, refl, subst, arith, append_assoc}
use Rattle.std.specs.Prelude.{Some, codes, decimal, if◌then◌else◌}
use Rattle.std.specs.List.{list_all}
use Rattle.std.proofs.lemmas.Bool.{le-leb}
use Rattle.std.proofs.lemmas.Option.{none-some}
use Rattle.cursor_set.specs.Lines.{exists_line}
use Rattle.mailbox.specs.declared.clients.Opening.{Opening}
use Rattle.imap_answers.specs.Answers.{name_answer, all_flags, opening_text}
use Rattle.laws_client.specs.Client.{Client, Messages, exists, knowing, reads}
use Rattle.laws_client.specs.Beliefs.{TellsNothing}
use Rattle.laws_client.specs.Clients.{Each, IsOf}
use Rattle.laws_client.specs.ListLaws.{OpeningIsFollowed}
use Rattle.laws_client.specs.ListTurns.{is_inner, IsPlain}
use Rattle.laws_client.proofs.Reading.{into_first, more, status, words_from}
use Rattle.laws_client.proofs.Bytes.{decimal_word, reads-append, words_are_inner}
use Rattle.laws_client.proofs.LinesRead.{reads_exists}
use Rattle.laws_client.proofs.Untold.{both_tell_nothing, inner_both, line_tells_nothing, name_tells_nothing}
use Rattle.imap_answers.specs.declared.list.Listing.TheVariants.{All}

-- as many messages as a view has, and nothing known of them
unknown_all : (view : List ℕ) → Each IsOf view (more (length view))
unknown_all [] = tt
unknown_all (uid ∷ view) = ((λ n e. absurd (none-some n e)), unknown_all view)

exists_of_none : (n : ℕ) → exists n [] ≡ Some (more n)
exists_of_none n =
    let all : n - 0 ≡ n = omega arith in
    rw (le-leb 0 n (omega arith)) (ap (λ (k : ℕ). Some (more k)) all)

abbrev pub flags_line : List ℕ
flags_line = codes "* FLAGS (" ++ all_flags ++ codes ")\r\n"

abbrev pub validity_line : ℕ → List ℕ
validity_line n = codes "* OK [UIDVALIDITY " ++ decimal n ++ codes "] UIDs valid\r\n"

abbrev pub next_line : ℕ → List ℕ
next_line n = codes "* OK [UIDNEXT " ++ decimal n ++ codes "] Predicted next UID\r\n"

abbrev pub permanent_line : Bool → List ℕ
permanent_line read_only = codes "* OK [PERMANENTFLAGS (" ++ (if read_only then [] else all_flags) ++ codes ")] Flags kept\r\n"

flags_told : TellsNothing flags_line
flags_told messages = refl

permanent_told : (read_only : Bool) → TellsNothing (permanent_line read_only)
permanent_told true messages = refl
permanent_told false messages = refl

-- a line with a number in it, which ends in these words
line_shape : (a d x y z : List ℕ) → a ++ d ++ ((x ++ y) ++ z) ≡ ((a ++ d ++ x) ++ y) ++ z
line_shape a d x y z = simp append_assoc

numbered_inner : (a x : List ℕ) (n last : ℕ) → n < 2 ^ 64 → list_all is_inner a ≡ true → list_all is_inner (x ++ last ∷ []) ≡ true → list_all is_inner ((a ++ decimal n ++ x) ++ last ∷ []) ≡ true
numbered_inner a x n last h front back =
    ap (list_all is_inner) (append_assoc (a ++ decimal n) x (last ∷ []))
    ∙ inner_both (a ++ decimal n) (x ++ last ∷ []) (inner_both a (decimal n) front (words_are_inner (decimal n) (decimal_word n h))) back

-- a word in brackets that begins otherwise than that of a list that is over
other_status : (words : List (List ℕ)) (o : Messages) → status (into_first 91 (into_first 85 words)) o ≡ o
other_status [] o = refl
other_status (word ∷ words) o = refl

validity_told : (n : ℕ) → n < 2 ^ 64 → TellsNothing (validity_line n)
validity_told n h messages =
    ap (reads (knowing messages)) (line_shape (codes "* OK [UIDVALIDITY ") (decimal n) (codes "] UIDs vali") (100 ∷ []) (13 ∷ 10 ∷ []))
    ∙ line_tells_nothing (codes "* OK [UIDVALIDITY " ++ decimal n ++ codes "] UIDs vali") 100 refl
    (numbered_inner (codes "* OK [UIDVALIDITY ") (codes "] UIDs vali") n 100 h refl refl)
    (other_status (words_from true ((codes "IDVALIDITY " ++ decimal n ++ codes "] UIDs vali") ++ 100 ∷ []))) messages

next_told : (n : ℕ) → n < 2 ^ 64 → TellsNothing (next_line n)
next_told n h messages =
    ap (reads (knowing messages)) (line_shape (codes "* OK [UIDNEXT ") (decimal n) (codes "] Predicted next UI") (68 ∷ []) (13 ∷ 10 ∷ []))
    ∙ line_tells_nothing (codes "* OK [UIDNEXT " ++ decimal n ++ codes "] Predicted next UI") 68 refl
    (numbered_inner (codes "* OK [UIDNEXT ") (codes "] Predicted next UI") n 68 h refl refl)
    (other_status (words_from true ((codes "IDNEXT " ++ decimal n ++ codes "] Predicted next UI") ++ 68 ∷ []))) messages

-- the lines behind the number of messages
abbrev pub behind : Bool → List ℕ → ℕ → ℕ → List ℕ
behind read_only name validity next = validity_line validity ++ (next_line next ++ (permanent_line read_only ++ name_answer All name))

behind_told : (read_only : Bool) (name : List ℕ) (validity next : ℕ) → IsPlain name → validity < 2 ^ 64 → next < 2 ^ 64 → TellsNothing (behind read_only name validity next)
behind_told read_only name validity next plain h k =
    both_tell_nothing (validity_line validity) (next_line next ++ (permanent_line read_only ++ name_answer All name)) (validity_told validity h)
    (both_tell_nothing (next_line next) (permanent_line read_only ++ name_answer All name) (next_told next k)
    (both_tell_nothing (permanent_line read_only) (name_answer All name) (permanent_told read_only) (name_tells_nothing All name plain)))

-- the lines one behind the other, as they are written
lines_shape : (a f b s c e t v u r n m p q w l name z : List ℕ)
    → a ++ f ++ (b ++ s) ++ c ++ e ++ t ++ v ++ u ++ r ++ n ++ m ++ p ++ q ++ w ++ l ++ name ++ z
    ≡ (a ++ f ++ b) ++ ((s ++ c ++ e) ++ ((t ++ v ++ u) ++ ((r ++ n ++ m) ++ ((p ++ q ++ w) ++ (l ++ name ++ z)))))
lines_shape a f b s c e t v u r n m p q w l name z = simp append_assoc

pub opening_shape : (read_only : Bool) (name : List ℕ) (o : Opening) → opening_text read_only name o ≡ flags_line ++ (exists_line o.count ++ behind read_only name o.uidvalidity o.uidnext)
opening_shape read_only name o =
    lines_shape (codes "* FLAGS (") all_flags (codes ")\r\n") (codes "* ") (decimal o.count) (codes " EXISTS\r\n") (codes "* OK [UIDVALIDITY ") (decimal o.uidvalidity) (codes "] UIDs valid\r\n")
    (codes "* OK [UIDNEXT ") (decimal o.uidnext) (codes "] Predicted next UID\r\n") (codes "* OK [PERMANENTFLAGS (") (if read_only then [] else all_flags) (codes ")] Flags kept\r\n")
    (codes "* LIST () \"/\" ") name (codes "\r\n")

-- it is read, and so many messages are there of which nothing is known
pub opening_told : (read_only : Bool) (name : List ℕ) (opening : Opening) → IsPlain name → opening.count < 2 ^ 64 → opening.uidvalidity < 2 ^ 64 → opening.uidnext < 2 ^ 64
    → reads (knowing (Some [])) (opening_text read_only name opening) ≡ knowing (Some (more opening.count))
opening_told read_only name opening plain few validity next =
    let rest : List ℕ = behind read_only name opening.uidvalidity opening.uidnext in
    let entered : Client = knowing (Some []) in
    ap (reads entered) (opening_shape read_only name opening)
    ∙ reads-append entered flags_line (exists_line opening.count ++ rest)
    ∙ ap (λ (c : Client). reads c (exists_line opening.count ++ rest)) (flags_told (Some []))
    ∙ reads-append entered (exists_line opening.count) rest
    ∙ ap (λ (c : Client). reads c rest) (reads_exists (Some []) opening.count few ∙ ap knowing (exists_of_none opening.count))
    ∙ behind_told read_only name opening.uidvalidity opening.uidnext plain validity next (Some (more opening.count))

pub opening_is_followed : OpeningIsFollowed
opening_is_followed read_only name opening view plain count few validity next = record {
  after = more opening.count;
  reads = opening_told read_only name opening plain few validity next;
  each = subst (λ (n : ℕ). Each IsOf view (more n)) (sym count) (unknown_all view);
}
