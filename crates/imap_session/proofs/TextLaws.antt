-- What holds of each text: it is short, and goes on a line.
use Rattle.std.proofs.Common.{◌≡◌, ◌≤◌, ◌++◌, ◌==◌, ℕ, true, false, List, [], ◌∷◌, length, arith, refl}
use Rattle.std.specs.List.{list_all}
use Rattle.imap_grammar.specs.declared.command.Verb.TheVariants as verbs
use Rattle.imap_grammar.specs.declared.command.Verb.{Verb}
use Rattle.imap_session.specs.declared.texts.ResponseText.{ResponseText}
use Rattle.imap_session.specs.declared.texts.ResponseText.TheVariants as texts
use Rattle.imap_session.specs.Texts.{IsLineText, is_printable, response_text, server_text}
use Rattle.imap_session.specs.declared.texts.ServerText.{ServerText}
use Rattle.imap_session.specs.declared.texts.ServerText.TheVariants.{Greeting, Capabilities, Namespaces, Identity, NoneEnabled}
use Rattle.imap_session.specs.declared.standing.Profile.TheVariants.{Standard, Compatible}

completed_short : (verb : Verb) → length (response_text (texts.Completed verb)) ≤ 45
completed_short verbs.Noop = omega arith
completed_short _ = omega arith

pub text_short : (text : ResponseText) → length (response_text text) ≤ 45
text_short (texts.Completed verb) = completed_short verb
text_short _ = omega arith

-- all but the last byte, and that one
abbrev front_of : List ℕ → List ℕ
front_of [] = []
front_of (b ∷ []) = []
front_of (b ∷ c ∷ bytes) = b ∷ front_of (c ∷ bytes)

abbrev last_of : List ℕ → ℕ
last_of [] = 0
last_of (b ∷ []) = b
last_of (b ∷ c ∷ bytes) = last_of (c ∷ bytes)

line_text : (text : List ℕ) → text ≡ front_of text ++ last_of text ∷ [] → list_all is_printable text ≡ true → (last_of text == 125) ≡ false → IsLineText text
line_text text is printable other = record { front = front_of text; last = last_of text; is = is; printable = printable; no_count = other }

completed_line : (verb : Verb) → IsLineText (response_text (texts.Completed verb))
completed_line verbs.Noop = line_text _ refl refl refl
completed_line verb = line_text (response_text (texts.Completed verb)) refl refl refl

pub on_a_line : (text : ResponseText) → IsLineText (response_text text)
on_a_line (texts.Completed verb) = completed_line verb
on_a_line text = line_text (response_text text) refl refl refl

pub server_line : (text : ServerText) → IsLineText (server_text text)
server_line (Greeting Standard) = line_text _ refl refl refl
server_line (Greeting Compatible) = line_text _ refl refl refl
server_line (Capabilities Standard) = line_text _ refl refl refl
server_line (Capabilities Compatible) = line_text _ refl refl refl
server_line Namespaces = line_text _ refl refl refl
server_line Identity = line_text _ refl refl refl
server_line NoneEnabled = line_text _ refl refl refl
