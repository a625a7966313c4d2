-- The texts of the table as a client reads them: none has an LF, and none ends in the count of a literal.
use Rattle.std.proofs.Common.{◌≡◌, ℕ, Bool, true, false, ◌==◌, List, [], ◌∷◌, refl, subst}
use Rattle.std.specs.Prelude.{drop, if◌then◌else◌}
use Rattle.std.specs.List.{list_all}
use Rattle.std.proofs.lemmas.Bool.{eqb-true, false≢true}
use Rattle.imap_session.proofs.TextLaws.{on_a_line, server_line}
use Rattle.imap_session.specs.Texts.{is_printable, response_text, server_text}
use Rattle.imap_session.specs.declared.texts.ResponseText.{ResponseText}
use Rattle.imap_session.specs.declared.texts.ServerText.{ServerText}
use Rattle.laws_client.specs.ListTurns.{IsPlain, is_inner}
use Rattle.laws_client.proofs.Bytes.{both}

printed_inner : (b : ℕ) → is_printable b ≡ true → is_inner b ≡ true
printed_inner b h = by (b == 10) refl
  where
    by : (t : Bool) → (b == 10) ≡ t → (if t then false else true) ≡ true
    by true e = absurd (false≢true (subst (λ (x : ℕ). is_printable x ≡ true) (eqb-true b 10 e) h))
    by false e = refl

all_inner : (bs : List ℕ) → list_all is_printable bs ≡ true → list_all is_inner bs ≡ true
all_inner [] h = refl
all_inner (b ∷ bs) h =
    let p = both (is_printable b) (list_all is_printable bs) h in
    rw (printed_inner b p.0, all_inner bs p.1) refl

pub row_inner : (text : ResponseText) → list_all is_inner (response_text text) ≡ true
row_inner text = all_inner (response_text text) (on_a_line text).printable

pub text_plain : (text : ResponseText) → IsPlain (response_text text)
text_plain text =
    let line = on_a_line text in
    record { front = line.front; last = line.last; is = line.is; no_count = line.no_count; inner = subst (λ (bytes : List ℕ). list_all is_inner bytes ≡ true) line.is (row_inner text) }

-- and those that are said of the server
pub server_inner : (text : ServerText) → list_all is_inner (server_text text) ≡ true
server_inner text = all_inner (server_text text) (server_line text).printable

pub server_plain : (text : ServerText) → IsPlain (server_text text)
server_plain text =
    let line = server_line text in
    record { front = line.front; last = line.last; is = line.is; no_count = line.no_count; inner = subst (λ (bytes : List ℕ). list_all is_inner bytes ≡ true) line.is (server_inner text) }

-- a text behind its first bytes: NO and a space are three, BAD and a space four
abbrev pub behind : ℕ → ResponseText → List ℕ
behind n text = drop n (response_text text)
