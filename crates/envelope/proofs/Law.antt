-- The one reading that the grammar allows.
use Rattle.std.proofs.Common.{◌≡◌, ℕ, Bool, true, false, cond, List, ◌++◌, length, take, drop, refl, ap, sym, subst, ◌∙◌}
use Rattle.std.specs.Prelude.{Option, Some, None, Result, Ok, Err, ◌==◌}
use Rattle.std.specs.List.{prefix_len, list_all}
use Rattle.std.proofs.lemmas.List.{take-append-drop}
use Rattle.envelope.proofs.Tokens.{Stops}
use Rattle.envelope.proofs.Begins.{read_begins, after_gap_stops, stopped_gap, verb_sound}
use Rattle.envelope.proofs.Tails.{stops_after}
use Rattle.envelope.proofs.Forms.{is_read}
use Rattle.envelope.proofs.FormsSound.{is_line}
use Rattle.envelope.specs.declared.command.Verb.{Verb}
use Rattle.envelope.specs.declared.command.CommandFault.{CommandFault}
use Rattle.envelope.specs.declared.command.CommandFault.TheVariants.{Unknown, Syntax, PathTooLong, Parameter}
use Rattle.envelope.specs.Values.{Command}
use Rattle.envelope.specs.Values as say
use Rattle.envelope.specs.Bytes.{is_not_space}
use Rattle.envelope.specs.Grammar.{Keyword, Anything, Form, Plain, Mail, Rcpt, Line, name_of, is_lhlo, Begins, judged, is_too_long, is_body, IsFault, Reads}
use Rattle.envelope.specs.Reading.{verb_of, of_form, of_verb, form_of, read}

abbrev IsKnown : Result Command CommandFault → Type 0
IsKnown r = ((r ≡ Err Unknown) → ⊥) × ((b : Bool) → (r ≡ Err (Syntax b)) → ⊥)

tested : (long known : Bool) (command : Command) → IsKnown (cond long (Err PathTooLong) (cond known (Ok command) (Err Parameter)))
tested true known command = ((λ e. cc), (λ b e. cc))
tested false true command = ((λ e. cc), (λ b e. cc))
tested false false command = ((λ e. cc), (λ b e. cc))

-- a form is never an unknown line, nor one of a wrong form
judged_known : (form : Form) → IsKnown (judged form)
judged_known (Plain command) = ((λ e. cc), (λ b e. cc))
judged_known (Mail spelled path words) = tested (is_too_long spelled path) (list_all is_body words) (say.Mail path)
judged_known (Rcpt spelled path words) = tested (is_too_long spelled path) (length words == 0) (say.Rcpt path)

of_form_known : (v : Verb) (o : Option Form) → of_form v o ≡ Err Unknown → ⊥
of_form_known v None e = cc
of_form_known v (Some form) e = (judged_known form).0 e

read_begun : (v : Verb) (line : List ℕ) → (b : Begins v line) → read line ≡ of_form v (form_of v b.back)
read_begun v line b = ap read b.parts ∙ read_begins v b.front b.back b.first (after_gap_stops Anything b.back b.second)

-- a line of a form is read as what the form is
read_form : (form : Form) (line : List ℕ) → Line form line → read line ≡ judged form
read_form form line h =
    let r = is_read form line h in
    ap read r.parts ∙ read_begins r.verb r.text r.rest r.named r.stops ∙ ap (of_form r.verb) r.is

reads_judged : (form : Form) (line : List ℕ) → Line form line → (r : Result Command CommandFault) → judged form ≡ r → Reads line r
reads_judged form line h (Ok command) e = (form, h, e)
reads_judged form line h (Err Unknown) e = absurd ((judged_known form).0 e)
reads_judged form line h (Err (Syntax b)) e = absurd ((judged_known form).1 b e)
reads_judged form line h (Err PathTooLong) e = (form, h, e)
reads_judged form line h (Err Parameter) e = (form, h, e)

unknown_is : (line : List ℕ) → read line ≡ Err Unknown → IsFault line Unknown
unknown_is line e verb b = of_form_known verb (form_of verb b.back) (sym (read_begun verb line b) ∙ e)

begun : (v : Verb) (line text rest : List ℕ) → line ≡ text ++ rest → Keyword (name_of v) text → Stops is_not_space rest → Begins v line
begun v line text rest e h s = record { front = text; back = rest; parts = e; first = h; second = stopped_gap rest s }

found_form : (v : Verb) (line text rest : List ℕ) → line ≡ text ++ rest → Keyword (name_of v) text → Stops is_not_space rest
    → (o : Option Form) → form_of v rest ≡ o → read line ≡ of_form v o → Reads line (of_form v o)
found_form v line text rest e h s None f r = (v, begun v line text rest e h s, refl, λ form l. (judged_known form).1 (is_lhlo v) (sym (read_form form line l) ∙ r))
found_form v line text rest e h s (Some form) f r =
    reads_judged form line (subst (Line form) (sym e) (is_line v text rest form h s f)) (judged form) refl

found_verb : (line text rest : List ℕ) (o : Option Verb) → line ≡ text ++ rest → Stops is_not_space rest → verb_of text ≡ o → read line ≡ of_verb o rest → Reads line (of_verb o rest)
found_verb line text rest None e s v r = unknown_is line r
found_verb line text rest (Some verb) e s v r = found_form verb line text rest e (verb_sound text verb v) s (form_of verb rest) refl r

read_is : (line : List ℕ) → read line ≡ of_verb (verb_of (take (prefix_len is_not_space line) line)) (drop (prefix_len is_not_space line) line)
unfolding read
read_is line = refl

pub reads : (line : List ℕ) → Reads line (read line)
reads line =
    let n = prefix_len is_not_space line in
    subst (Reads line) (sym (read_is line))
    (found_verb line (take n line) (drop n line) (verb_of (take n line)) (sym (take-append-drop n line)) (stops_after is_not_space line) refl (read_is line))

-- and there is no other
not_begun : (line : List ℕ) (o : Option Verb) (text rest : List ℕ) → line ≡ text ++ rest → Stops is_not_space rest → verb_of text ≡ o → IsFault line Unknown → of_verb o rest ≡ Err Unknown
not_begun line None text rest e s v h = refl
not_begun line (Some verb) text rest e s v h = absurd (h verb (begun verb line text rest e (verb_sound text verb v) s))

no_form : (v : Verb) (line : List ℕ) → (b : Begins v line) → (o : Option Form) → form_of v b.back ≡ o → ((form : Form) → Line form line → ⊥) → of_form v o ≡ Err (Syntax (is_lhlo v))
no_form v line b None e h = refl
no_form v line b (Some form) e h =
    absurd (h form (subst (Line form) (sym b.parts) (is_line v b.front b.back form b.first (after_gap_stops Anything b.back b.second) e)))

pub only : (line : List ℕ) (r : Result Command CommandFault) → Reads line r → r ≡ read line
only line (Ok command) h = sym (read_form h.0 line h.1 ∙ h.2)
only line (Err Unknown) h =
    let n = prefix_len is_not_space line in
    sym (read_is line ∙ not_begun line (verb_of (take n line)) (take n line) (drop n line) (sym (take-append-drop n line)) (stops_after is_not_space line) refl h)
only line (Err (Syntax lhlo)) h =
    sym (read_begun h.0 line h.1 ∙ no_form h.0 line h.1 (form_of h.0 h.1.back) refl h.3 ∙ ap (λ (b : Bool). Err (Syntax b)) (sym h.2))
only line (Err PathTooLong) h = sym (read_form h.0 line h.1 ∙ h.2)
only line (Err Parameter) h = sym (read_form h.0 line h.1 ∙ h.2)
