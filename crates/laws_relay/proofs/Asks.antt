-- What a line that reads as a command asks for, and what a reply of another code changes.
use Rattle.std.proofs.Common.{◌≡◌, ℕ, Bool, true, false, cond, List, [], ◌∷◌, ◌++◌, length, take, refl, ap, sym, subst, ◌∙◌}
use Rattle.std.specs.Prelude.{codes, map, Result, Ok, Err, ◌||◌, ◌==◌, if◌then◌else◌}
use Rattle.std.specs.List.{list_all}
use Rattle.std.specs.Char.{to_ascii_lowercase}
use Rattle.std.specs.Str.{bytes_eq, str_eq_ignore_ascii_case as is_same}
use Rattle.std.proofs.lemmas.List.{length-map, take_at}
use Rattle.envelope.specs.declared.command.CommandFault.{CommandFault}
use Rattle.envelope.specs.declared.command.CommandFault.TheVariants.{Parameter, PathTooLong}
use Rattle.envelope.specs.Grammar.{Form, Plain, Mail, Rcpt, Line, Reads, is_body, is_too_long, judged}
use Rattle.envelope.specs.Reading.{read}
use Rattle.envelope.specs.Values.{Path, Command}
use Rattle.envelope.specs.Values as say
use Rattle.envelope.proofs.Law.{reads}
use Rattle.laws_relay.specs.Handed.{is_code, Ask, AsksMail, AsksRcpt, AsksData, AsksDrop, AsksOther, Relay, Between, Begun, Sends, after_reply, ask_of, begins}

-- the word of a command
abbrev pub word : Command → List ℕ
word say.Lhlo = codes "LHLO"
word (say.Mail path) = codes "MAIL"
word (say.Rcpt path) = codes "RCPT"
word say.Data = codes "DATA"
word say.Rset = codes "RSET"
word say.Quit = codes "QUIT"
word say.Noop = codes "NOOP"
word say.Vrfy = codes "VRFY"
word say.Expn = codes "EXPN"
word say.Help = codes "HELP"

-- and what it asks for
abbrev pub asks : Command → Ask
asks say.Lhlo = AsksDrop
asks (say.Mail path) = AsksMail
asks (say.Rcpt path) = AsksRcpt
asks say.Data = AsksData
asks say.Rset = AsksDrop
asks say.Quit = AsksOther
asks say.Noop = AsksOther
asks say.Vrfy = AsksOther
asks say.Expn = AsksOther
asks say.Help = AsksOther

-- the line begins with this word
record Named (name line : List ℕ) : Type 0 where
  front : List ℕ
  back : List ℕ
  parts : line ≡ front ++ back
  is : map to_ascii_lowercase front ≡ map to_ascii_lowercase name

-- ---- the word of a line that reads as a command

named_as : (line : List ℕ) (a b : Command) → ◌≡◌ {A = Result Command CommandFault} (Ok a) (Ok b) → Named (word a) line → Named (word b) line
named_as line a b e h = let same : a ≡ b = cc in subst (λ (c : Command). Named (word c) line) same h

mail_is : (long known : Bool) (path : Path) (command : Command) → cond long (Err PathTooLong) (cond known (Ok (say.Mail path)) (Err Parameter)) ≡ Ok command → say.Mail path ≡ command
mail_is true known path command e = absurd cc
mail_is false true path command e = cc
mail_is false false path command e = absurd cc

rcpt_is : (long none : Bool) (path : Path) (command : Command) → cond long (Err PathTooLong) (cond none (Ok (say.Rcpt path)) (Err Parameter)) ≡ Ok command → say.Rcpt path ≡ command
rcpt_is true none path command e = absurd cc
rcpt_is false true path command e = cc
rcpt_is false false path command e = absurd cc

form_named : (form : Form) (line : List ℕ) (command : Command) → Line form line → judged form ≡ Ok command → Named (word command) line
form_named (Plain say.Lhlo) line command h e = named_as line say.Lhlo command e (record { front = h.front; back = h.back; parts = h.parts; is = h.first })
form_named (Plain say.Data) line command h e = named_as line say.Data command e (record { front = h.front; back = h.back; parts = h.parts; is = h.first })
form_named (Plain say.Rset) line command h e = named_as line say.Rset command e (record { front = h.front; back = h.back; parts = h.parts; is = h.first })
form_named (Plain say.Quit) line command h e = named_as line say.Quit command e (record { front = h.front; back = h.back; parts = h.parts; is = h.first })
form_named (Plain say.Noop) line command h e = named_as line say.Noop command e (record { front = h.front; back = h.back; parts = h.parts; is = h.first })
form_named (Plain say.Vrfy) line command h e = named_as line say.Vrfy command e (record { front = h.front; back = h.back; parts = h.parts; is = h.first })
form_named (Plain say.Expn) line command h e = named_as line say.Expn command e (record { front = h.front; back = h.back; parts = h.parts; is = h.first })
form_named (Plain say.Help) line command h e = named_as line say.Help command e (record { front = h.front; back = h.back; parts = h.parts; is = h.first })
form_named (Plain (say.Mail path)) line command h e = absurd h
form_named (Plain (say.Rcpt path)) line command h e = absurd h
form_named (Mail spelled path words) line command h e =
    subst (λ (c : Command). Named (word c) line) (mail_is (is_too_long spelled path) (list_all is_body words) path command e) (record { front = h.front; back = h.back; parts = h.parts; is = h.first })
form_named (Rcpt spelled path words) line command h e =
    subst (λ (c : Command). Named (word c) line) (rcpt_is (is_too_long spelled path) (length words == 0) path command e) (record { front = h.front; back = h.back; parts = h.parts; is = h.first })

line_named : (line : List ℕ) (command : Command) → read line ≡ Ok command → Named (word command) line
line_named line command e =
    let h : Reads line (Ok command) = subst (Reads line) e (reads line) in
    form_named h.0 line command h.1 h.2

-- ---- what it asks for

four : (command : Command) → length (word command) ≡ 4
four say.Lhlo = refl
four _ = refl

-- whether it begins with a word of four letters is whether that word is its own
begins_as : (other name line : List ℕ) → Named name line → length name ≡ 4 → length other ≡ 4 → begins other line ≡ is_same name other
begins_as other name line h n m =
    let size : length h.front ≡ length other = sym (length-map h.front to_ascii_lowercase) ∙ ap length h.is ∙ length-map name to_ascii_lowercase ∙ n ∙ sym m in
    ap (λ (l : List ℕ). is_same (take (length other) l) other) h.parts
    ∙ ap (λ (l : List ℕ). is_same l other) (take_at h.front h.back (length other) size)
    ∙ ap (λ (l : List ℕ). bytes_eq l (map to_ascii_lowercase other)) h.is

abbrev ask_by : Bool → Bool → Bool → Bool → Bool → Ask
ask_by m r d s l = if m then AsksMail else if r then AsksRcpt else if d then AsksData else if s || l then AsksDrop else AsksOther

abbrev ask_by_word : List ℕ → Ask
ask_by_word name =
    ask_by (is_same name (codes "MAIL")) (is_same name (codes "RCPT")) (is_same name (codes "DATA")) (is_same name (codes "RSET")) (is_same name (codes "LHLO"))

word_asks : (command : Command) → ask_by_word (word command) ≡ asks command
word_asks say.Lhlo = refl
word_asks _ = refl

named_asks : (name line : List ℕ) → Named name line → length name ≡ 4 → ask_of line ≡ ask_by_word name
named_asks name line h n =
    let m = begins_as (codes "MAIL") name line h n refl in
    let r = begins_as (codes "RCPT") name line h n refl in
    let d = begins_as (codes "DATA") name line h n refl in
    let s = begins_as (codes "RSET") name line h n refl in
    let l = begins_as (codes "LHLO") name line h n refl in
    ap (λ (b : Bool). ask_by b (begins (codes "RCPT") line) (begins (codes "DATA") line) (begins (codes "RSET") line) (begins (codes "LHLO") line)) m
    ∙ ap (λ (b : Bool). ask_by (is_same name (codes "MAIL")) b (begins (codes "DATA") line) (begins (codes "RSET") line) (begins (codes "LHLO") line)) r
    ∙ ap (λ (b : Bool). ask_by (is_same name (codes "MAIL")) (is_same name (codes "RCPT")) b (begins (codes "RSET") line) (begins (codes "LHLO") line)) d
    ∙ ap (λ (b : Bool). ask_by (is_same name (codes "MAIL")) (is_same name (codes "RCPT")) (is_same name (codes "DATA")) b (begins (codes "LHLO") line)) s
    ∙ ap (λ (b : Bool). ask_by (is_same name (codes "MAIL")) (is_same name (codes "RCPT")) (is_same name (codes "DATA")) (is_same name (codes "RSET")) b) l

pub line_asks : (line : List ℕ) (command : Command) → read line ≡ Ok command → ask_of line ≡ asks command
line_asks line command e = named_asks (word command) line (line_named line command e) (four command) ∙ word_asks command

-- ---- replies that change nothing

-- the code is neither 250 nor 354
abbrev pub IsNo : List ℕ → Type 0
IsNo reply = (is_code (codes "250") reply ≡ false) × (is_code (codes "354") reply ≡ false)

pub unchanged : (ask : Ask) (relay : Relay) (line reply : List ℕ) → IsNo reply → after_reply ask relay line reply ≡ relay
unchanged AsksMail Between line reply h = ap (λ (b : Bool). if b then Begun line [] else Between) h.0
unchanged AsksRcpt (Begun mail recipients) line reply h = ap (λ (b : Bool). if b then Begun mail (recipients ++ line ∷ []) else Begun mail recipients) h.0
unchanged AsksData (Begun mail recipients) line reply h = ap (λ (b : Bool). if b then Sends mail recipients [] else Begun mail recipients) h.1
unchanged AsksDrop (Begun mail recipients) line reply h = ap (λ (b : Bool). if b then Between else Begun mail recipients) h.0
unchanged _ _ line reply h = refl
