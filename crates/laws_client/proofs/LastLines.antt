-- How an answer ends: in a last line of which a test tells nothing, as that of words that tell a UID; or it says nothing.
use Rattle.std.proofs.Common.{◌≡◌, ◌⊎◌, inl, inr, ℕ, zero, suc, Bool, true, false, List, ◌∷◌, ◌++◌, refl, sym, ap, ◌∙◌, subst, arith, append_assoc, append-nil, Option, Some, None, []}
use Rattle.std.specs.Prelude.{codes, IfSome, drop, length, not, reverse, ◌==◌, if◌then◌else◌}
use Rattle.std.specs.List.{list_all}
use Rattle.std.specs.Option.{option_map}
use Rattle.std.proofs.lemmas.Bool.{eqb-true, false≢true}
use Rattle.std.proofs.lemmas.Grind.{reverse_onto}
use Rattle.std.proofs.lemmas.List.{reverse-append, reverse-reverse}
use Rattle.std.proofs.lemmas.List.Folds.{list_all-append}
use Rattle.change_ring.specs.declared.change.Flags.{Flags}
use Rattle.cursor_set.specs.Lines.{lines}
use Rattle.line_io.specs.Wire.{crlf}
use Rattle.mailbox.specs.declared.clients.MailFault.{MailFault}
use Rattle.mailbox.specs.declared.clients.MailFault.TheVariants.{Stranger, Lapped, Spent, NoMemory}
use Rattle.mailbox.specs.declared.clients.Opening.{Opening}
use Rattle.mailbox.specs.declared.clients.Row.{Row}
use Rattle.mailbox.specs.declared.mailbox.Status.{Status}
use Rattle.imap_grammar.specs.Bytes.{is_tag}
use Rattle.imap_grammar.specs.Items.{is_word_of}
use Rattle.imap_session.specs.declared.standing.After.{After}
use Rattle.imap_session.specs.Exchange as ex
use Rattle.imap_session.specs.Exchange.{Answer, Starved, Exchange, Standing, Turn, Waiting, Asked, Unasked, Dropped, ForDone, ForLiteral, ForVerdict, ForNothing, played, refused, refusal_text, refusal_after, saying, closed, tagged, bye, continuing, untagged}
use Rattle.imap_session.proofs.Unkept.{unkept_by}
use Rattle.exactly_once.proofs.Whole.{IsWhole, lines_whole, whole_append}
use Rattle.laws_client.specs.ListTurns.{is_inner}
use Rattle.exactly_once.proofs.EachExchange.{Plays, closed_so, exchange_if}
use Rattle.laws_client.proofs.Bytes.{both, first_of, rest_of}
use Rattle.laws_client.proofs.Tags.{inner_all}
use Rattle.laws_client.proofs.Untold.{inner_both}
use Rattle.imap_session.specs.declared.texts.ResponseText.TheVariants as texts
use Rattle.imap_session.specs.Texts.{response_text}
use Rattle.imap_session.specs.declared.texts.ResponseText.{ResponseText}
use Rattle.laws_client.proofs.TextRows.{behind, row_inner}
use Rattle.laws_client.specs.Clients.{EndsWith, before_lf, last_line}

-- ---- the last line of whole lines

inner_back : (xs : List ℕ) → list_all is_inner xs ≡ true → list_all is_inner (reverse xs) ≡ true
inner_back [] h = refl
inner_back (b ∷ bs) h =
    ap (list_all is_inner) (reverse_onto bs b [])
    ∙ list_all-append is_inner (reverse bs) (b ∷ [])
    ∙ rw (inner_back bs (rest_of is_inner b bs h), first_of is_inner b bs h) refl

-- nothing stands there, or an LF stands first
abbrev StartsAnew : List ℕ → Type 0
StartsAnew rest = (rest ≡ []) ⊎ ((more : List ℕ) × (rest ≡ 10 ∷ more))

before_is : (xs rest : List ℕ) → list_all is_inner xs ≡ true → StartsAnew rest → before_lf (xs ++ rest) ≡ xs
before_is [] rest h (inl e) = rw e refl
before_is [] rest h (inr (more, e)) = rw e refl
before_is (b ∷ bs) rest h s = by (b == 10) (first_of is_inner b bs h) (before_is bs rest (rest_of is_inner b bs h) s)
  where
    by : (t : Bool) → (if t then false else true) ≡ true → before_lf (bs ++ rest) ≡ bs → (if t then [] else b ∷ before_lf (bs ++ rest)) ≡ b ∷ bs
    by true e more = absurd (false≢true e)
    by false e more = ap (λ (x : List ℕ). b ∷ x) more

anew : (front : List ℕ) → IsWhole front → StartsAnew (reverse front)
anew front (inl e) = inl (ap reverse e)
anew front (inr (f, e)) = inr (13 ∷ reverse f, ap reverse e ∙ reverse-append f crlf)

pub last_is : (front last : List ℕ) → IsWhole front → list_all is_inner last ≡ true → last_line (front ++ (last ++ crlf)) ≡ last
last_is front last whole inner =
    let back : reverse (front ++ (last ++ crlf)) ≡ 10 ∷ 13 ∷ (reverse last ++ reverse front) =
    reverse-append front (last ++ crlf) ∙ ap (λ (x : List ℕ). x ++ reverse front) (reverse-append last crlf) in
    ap (λ (x : List ℕ). reverse (before_lf (drop 2 x))) back
    ∙ ap reverse (before_is (reverse last) (reverse front) (inner_back last inner) (anew front whole))
    ∙ reverse-reverse last

-- ---- lines of which a test tells nothing

-- a tag as a client may choose it
abbrev pub IsWord : List ℕ → Type 0
IsWord tag = is_word_of is_tag tag ≡ true

-- whatever the tag, behind it stands nothing that this tells
abbrev pub IsOther : (List ℕ → Bool) → List ℕ → Type 0
IsOther tells line = (tag words : List ℕ) → IsWord tag → line ≡ tag ++ codes " " ++ words → tells words ≡ false

-- It tells nothing of words that begin with NO or BAD.
pub record Spares (tells : List ℕ → Bool) : Type 0 where
  pub no : (rest : List ℕ) → tells (codes "NO " ++ rest) ≡ false
  pub bad : (rest : List ℕ) → tells (codes "BAD " ++ rest) ≡ false

-- Whole lines, and then a last one behind whose tag nothing stands that this tells.
pub record Apart (tells : List ℕ → Bool) (bytes : List ℕ) : Type 0 where
  pub front : List ℕ
  pub last : List ℕ
  pub is : bytes ≡ front ++ (last ++ crlf)
  pub whole : IsWhole front
  pub inner : list_all is_inner last ≡ true
  pub other : IsOther tells last

pub apart_tells_none : (tells : List ℕ → Bool) → (bytes : List ℕ) → Apart tells bytes → (tag words : List ℕ) → EndsWith tag words bytes → tells words ≡ false
apart_tells_none tells bytes p tag words e = p.other tag words e.chosen (sym (ap last_line p.is ∙ last_is p.front p.last p.whole p.inner) ∙ e.last)

pub silence_tells_none : (tells : List ℕ → Bool) → (bytes : List ℕ) → bytes ≡ [] → (tag words : List ℕ) → EndsWith tag words bytes → tells words ≡ false
silence_tells_none tells bytes e tag words ends = by tag ends.chosen (sym (ap last_line e) ∙ ends.last)
  where
    by : (tag : List ℕ) → IsWord tag → [] ≡ tag ++ codes " " ++ words → tells words ≡ false
    by [] h e = absurd (false≢true h)
    by (b ∷ bs) h e = absurd (omega (arith, ap length e))

first_byte : List ℕ → ℕ
first_byte [] = 0
first_byte (b ∷ bs) = b

rest_bytes : List ℕ → List ℕ
rest_bytes [] = []
rest_bytes (b ∷ bs) = bs

word_all : (tag : List ℕ) → IsWord tag → list_all is_tag tag ≡ true
word_all tag h = (both (list_all is_tag tag) (not (length tag == 0)) h).0

-- a line whose first byte is no byte of a tag
no_tag : (b : ℕ) (bytes tag words : List ℕ) → is_tag b ≡ false → IsWord tag → b ∷ bytes ≡ tag ++ codes " " ++ words → ⊥
unfolding first_byte
no_tag b bytes [] words n h e = false≢true h
no_tag b bytes (c ∷ cs) words n h e = false≢true (sym n ∙ subst (λ (x : ℕ). is_tag x ≡ true) (sym (ap first_byte e)) (first_of is_tag c cs (word_all (c ∷ cs) h)))

-- a word of a tag begins with another byte
pub tag_byte : (b : ℕ) (bs : List ℕ) (c : ℕ) → is_tag c ≡ false → IsWord (b ∷ bs) → (c == b) ≡ false
tag_byte b bs c n h = by (c == b) refl
  where
    by : (t : Bool) → (c == b) ≡ t → (c == b) ≡ false
    by true e = absurd (false≢true (sym n ∙ ap is_tag (eqb-true c b e) ∙ first_of is_tag b bs (word_all (b ∷ bs) h)))
    by false e = e

pub untagged_apart : (tells : List ℕ → Bool) → (b : ℕ) (bytes : List ℕ) → is_tag b ≡ false → list_all is_inner (b ∷ bytes) ≡ true → Apart tells ((b ∷ bytes) ++ crlf)
untagged_apart tells b bytes n inner = record {
  front = [];
  last = b ∷ bytes;
  is = refl;
  whole = inl refl;
  inner = inner;
  other = λ tag words h e. absurd (no_tag b bytes tag words n h e);
}

-- a tag ends at the first space
same_words : (one two first second : List ℕ) → list_all is_tag one ≡ true → list_all is_tag two ≡ true → one ++ codes " " ++ first ≡ two ++ codes " " ++ second → first ≡ second
unfolding first_byte rest_bytes
same_words [] [] first second h k e = ap rest_bytes e
same_words [] (c ∷ cs) first second h k e = absurd (false≢true (subst (λ (x : ℕ). is_tag x ≡ true) (sym (ap first_byte e)) (first_of is_tag c cs k)))
same_words (b ∷ bs) [] first second h k e = absurd (false≢true (subst (λ (x : ℕ). is_tag x ≡ true) (ap first_byte e) (first_of is_tag b bs h)))
same_words (b ∷ bs) (c ∷ cs) first second h k e = same_words bs cs first second (rest_of is_tag b bs h) (rest_of is_tag c cs k) (ap rest_bytes e)

pub words_of_tags : (one two first second : List ℕ) → IsWord one → IsWord two → one ++ codes " " ++ first ≡ two ++ codes " " ++ second → first ≡ second
words_of_tags one two first second h k e = same_words one two first second (word_all one h) (word_all two k) e

same_tags : (one two first second : List ℕ) → list_all is_tag one ≡ true → list_all is_tag two ≡ true → one ++ codes " " ++ first ≡ two ++ codes " " ++ second → one ≡ two
unfolding first_byte rest_bytes
same_tags [] [] first second h k e = refl
same_tags [] (c ∷ cs) first second h k e = absurd (false≢true (subst (λ (x : ℕ). is_tag x ≡ true) (sym (ap first_byte e)) (first_of is_tag c cs k)))
same_tags (b ∷ bs) [] first second h k e = absurd (false≢true (subst (λ (x : ℕ). is_tag x ≡ true) (ap first_byte e) (first_of is_tag b bs h)))
same_tags (b ∷ bs) (c ∷ cs) first second h k e =
    let head : b ≡ c = ap first_byte e in
    let tail = same_tags bs cs first second (rest_of is_tag b bs h) (rest_of is_tag c cs k) (ap rest_bytes e) in
    ap (λ (x : ℕ). x ∷ bs) head ∙ ap (λ (x : List ℕ). c ∷ x) tail

pub tags_of_words : (one two first second : List ℕ) → IsWord one → IsWord two → one ++ codes " " ++ first ≡ two ++ codes " " ++ second → one ≡ two
tags_of_words one two first second h k e = same_tags one two first second (word_all one h) (word_all two k) e

pub word_inner : (tag : List ℕ) → IsWord tag → list_all is_inner tag ≡ true
word_inner tag h = inner_all tag (word_all tag h)

tagged_inner : (tag words : List ℕ) → IsWord tag → list_all is_inner words ≡ true → list_all is_inner (tag ++ codes " " ++ words) ≡ true
tagged_inner tag words h inner = inner_both (tag ++ codes " ") words (inner_both tag (codes " ") (word_inner tag h) refl) inner

-- what ends in a tagged line
pub ends_tagged : (front tag words : List ℕ) → IsWhole front → IsWord tag → list_all is_inner words ≡ true → EndsWith tag words (front ++ tagged tag words)
ends_tagged front tag words whole h inner = record { chosen = h; last = last_is front (tag ++ codes " " ++ words) whole (tagged_inner tag words h inner) }

pub tagged_apart : (tells : List ℕ → Bool) → (tag words : List ℕ) → IsWord tag → list_all is_inner words ≡ true → tells words ≡ false → Apart tells (tagged tag words)
tagged_apart tells tag words h inner none = record {
  front = [];
  last = tag ++ codes " " ++ words;
  is = refl;
  whole = inl refl;
  inner = tagged_inner tag words h inner;
  other = λ other behind k e. subst (λ (x : List ℕ). tells x ≡ false) (words_of_tags tag other words behind h k e) none;
}

pub bye_apart : (tells : List ℕ → Bool) → (text : ResponseText) → Apart tells (bye (response_text text))
bye_apart tells text = untagged_apart tells 42 (codes " BYE " ++ response_text text) refl (row_inner text)

pub star_apart : (tells : List ℕ → Bool) → (text : ResponseText) → Apart tells (untagged (response_text text))
star_apart tells text = untagged_apart tells 42 (codes " " ++ response_text text) refl (row_inner text)

pub plus_apart : (tells : List ℕ → Bool) → (text : ResponseText) → Apart tells (continuing (response_text text))
plus_apart tells text = untagged_apart tells 43 (codes " " ++ response_text text) refl (row_inner text)

pub refusal_apart : (tells : List ℕ → Bool) → Spares tells → (tag : List ℕ) → IsWord tag → (fault : MailFault) → Apart tells (refusal_text tag fault)
refusal_apart tells spares tag t Stranger = bye_apart tells texts.InternalFault
refusal_apart tells spares tag t Lapped = bye_apart tells texts.ChangesMissed
refusal_apart tells spares tag t Spent = tagged_apart tells tag (response_text texts.MailboxSpent) t refl (spares.no (behind 3 texts.MailboxSpent))
refusal_apart tells spares tag t NoMemory = tagged_apart tells tag (response_text texts.OutOfMemory) t refl (spares.no (behind 3 texts.OutOfMemory))

closed_apart : (tells : List ℕ → Bool) → (bytes : List ℕ) (now : Standing) (how : After) → Apart tells bytes → Apart tells (saying bytes (closed now how)).bytes
closed_apart tells bytes now how p = let whole = subst (Apart tells) (sym (append-nil bytes)) p in closed_so (λ s. Apart tells (saying bytes s).bytes) now how whole whole

pub refused_apart : (tells : List ℕ → Bool) → Spares tells → (tag : List ℕ) → IsWord tag → (now : Standing) (fault : MailFault) → Apart tells (refused tag now fault).bytes
refused_apart tells spares tag t now fault = closed_apart tells (refusal_text tag fault) now (refusal_after fault) (refusal_apart tells spares tag t fault)

-- with whole lines in front
pub behind_lines : (tells : List ℕ → Bool) → (lines bytes : List ℕ) → IsWhole lines → Apart tells bytes → Apart tells (lines ++ bytes)
behind_lines tells lines bytes whole p = record {
  front = lines ++ p.front;
  last = p.last;
  is = ap (λ (x : List ℕ). lines ++ x) p.is ∙ sym (append_assoc lines p.front (p.last ++ crlf));
  whole = whole_append lines p.front whole p.whole;
  inner = p.inner;
  other = p.other;
}

-- ---- an exchange

-- where memory is refused to who waits so, something is said
abbrev pub IsAloud : Waiting → Type 0
IsAloud ForDone = Unit {0}
IsAloud (ForLiteral Asked purpose size) = Unit {0}
IsAloud (ForLiteral Unasked purpose size) = ⊥
IsAloud (ForLiteral Dropped purpose size) = Unit {0}
IsAloud (ForVerdict origin mailbox flags text) = Unit {0}
IsAloud ForNothing = Unit {0}

-- Whatever the store answers, each piece that it writes is whole lines, and of the last words this tells nothing. It says something where it waits.
abbrev pub SaysApart : (List ℕ → Bool) → Exchange → Type 0
SaysApart tells (ex.Done words how) = (list_all is_inner words ≡ true) × (tells words ≡ false)
SaysApart tells (ex.Wait bytes waits) = Apart tells bytes × IsAloud waits
SaysApart tells (ex.Write bytes x) = IsWhole bytes × SaysApart tells x
SaysApart tells (ex.Put bytes x) = IsWhole bytes × SaysApart tells x
SaysApart tells (ex.Enter selected next) = (opening : Opening) → SaysApart tells (next opening)
SaysApart tells (ex.Look by_uid set next) = (view : List ℕ) → SaysApart tells (next view)
SaysApart tells (ex.Read uid mark next) = (row : Option Row) → SaysApart tells (next row)
SaysApart tells (ex.Count mailbox next) = (status : Status) → SaysApart tells (next status)
SaysApart tells (ex.Alter uid op next) = (flags : Option Flags) → SaysApart tells (next flags)
SaysApart tells (ex.Expunge uids x) = SaysApart tells x
SaysApart tells (ex.Feed limit x) = SaysApart tells x
SaysApart tells (ex.Leave remove x) = SaysApart tells x
SaysApart tells (ex.Discard mailbox uids x) = SaysApart tells x

-- of a turn, if there is one
abbrev pub TurnApart : (List ℕ → Bool) → Option Turn → Type 0
TurnApart tells turn = IfSome turn (λ s. Apart tells s.bytes)

ending : (tells : List ℕ → Bool) → Spares tells → (tag : List ℕ) → IsWord tag → Plays tag (λ now x turn. SaysApart tells x → Apart tells turn.bytes)
ending tells spares tag t = record {
  done = λ now words how p. closed_apart tells (tagged tag words) now how (tagged_apart tells tag words t p.0 p.1);
  waits = λ now bytes w p. subst (Apart tells) (sym (append-nil bytes)) p.0;
  drops = λ now bytes purpose size p. absurd p.1;
  parts = λ now bytes purpose size p. absurd p.1;
  starves = λ now x p. refused_apart tells spares tag t now NoMemory;
  fails = λ now x call fault p. refused_apart tells spares tag t now fault;
  writes = λ now bytes x s so p. behind_lines tells bytes s.bytes p.0 (so p.1);
  puts = λ now bytes x s so p. behind_lines tells bytes s.bytes p.0 (so p.1);
  enters = λ now selected next a s so p. so (p a);
  looks = λ now by_uid set next a s so p. so (p a);
  reads = λ now uid mark next a s so p. so (p a);
  counts = λ now mailbox next a s so p. so (p a);
  alters = λ now uid op next a s so p. so (p a);
  expunges = λ now uids x met changes gone s so p. behind_lines tells (lines met changes) s.bytes (lines_whole met changes) (so p);
  feeds = λ now limit x met changes s so p. behind_lines tells (lines met changes) s.bytes (lines_whole met changes) (so p);
  leaves = λ now remove x gone s so. so;
  discards = λ now mailbox uids x s so. so;
}

pub played_apart : (tells : List ℕ → Bool) → Spares tells → (tag : List ℕ) → IsWord tag → (now : Standing) (x : Exchange) (answers : List Answer) → SaysApart tells x → TurnApart tells (played tag now x answers)
played_apart tells spares tag t now x answers p = exchange_if tag (SaysApart tells) (λ now turn. Apart tells turn.bytes) (ending tells spares tag t) now x answers p

-- ---- one that says nothing

-- it says nothing, or ends in such a line
abbrev pub TurnFine : (List ℕ → Bool) → Option Turn → Type 0
TurnFine tells turn = IfSome turn (λ s. (s.bytes ≡ []) ⊎ Apart tells s.bytes)

pub fine : (tells : List ℕ → Bool) → (o : Option Turn) → TurnApart tells o → TurnFine tells o
fine tells None p = tt
fine tells (Some turn) p = inr p

-- it waits, and says nothing
pub fine_wait : (tells : List ℕ → Bool) → Spares tells → (tag : List ℕ) → IsWord tag → (now : Standing) (waits : Waiting) (answers : List Answer) → TurnFine tells (played tag now (ex.Wait [] waits) answers)
fine_wait tells spares tag t now waits [] = inl refl
fine_wait tells spares tag t now waits (Starved n ∷ []) =
    unkept_by (TurnFine tells) tt tag now (inr (refused_apart tells spares tag t now NoMemory)) (λ purpose size. inl refl)
    (inr (subst (Apart tells) (sym (append-nil (bye (response_text texts.ByeOutOfMemory)))) (bye_apart tells texts.ByeOutOfMemory))) waits n
fine_wait tells spares tag t now waits _ = tt

nothing_said : (tells : List ℕ → Bool) → (o : Option Turn) → TurnFine tells o → TurnFine tells (option_map (saying []) o)
nothing_said tells None p = tt
nothing_said tells (Some turn) p = p

pub fine_wanting : (tells : List ℕ → Bool) → Spares tells → (tag : List ℕ) → IsWord tag → (now : Standing) (x : Exchange) → ((answers : List Answer) → TurnFine tells (played tag now x answers)) → (answers : List Answer) → TurnFine tells (played tag now (ex.Write [] x) answers)
fine_wanting tells spares tag t now x p [] = nothing_said tells _ (p [])
fine_wanting tells spares tag t now x p (Starved zero ∷ []) = inr (refused_apart tells spares tag t now NoMemory)
fine_wanting tells spares tag t now x p (Starved (suc n) ∷ []) = nothing_said tells _ (p (Starved n ∷ []))
fine_wanting tells spares tag t now x p (given ∷ more) = nothing_said tells _ (p (given ∷ more))
