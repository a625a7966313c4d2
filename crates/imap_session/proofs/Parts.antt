-- Lines of a command that aren't whole yet, or are given up: what is done about them is one of five things.
use Rattle.std.proofs.Common.{◌≡◌, ℕ, Bool, true, false, List, [], ◌++◌, sym, take, subst, Option, Some, None, Result, Ok, Err, refl, ap, length, codes, ◌+◌, ◌==◌, if◌then◌else◌}
use Rattle.std.specs.Prelude.{nat_lt}
use Rattle.std.specs.Option.{option_map}
use Rattle.imap_grammar.specs.declared.command.Command.{Command}
use Rattle.imap_grammar.specs.declared.command.ImapFault.{ImapFault}
use Rattle.imap_grammar.specs.declared.command.Literal.{Literal}
use Rattle.imap_grammar.specs.Literals.{announced, quoted}
use Rattle.imap_grammar.specs.Reading.{read}
use Rattle.imap_session.specs.declared.standing.Profile.{Profile}
use Rattle.imap_session.specs.declared.standing.Profile.TheVariants.{Standard, Compatible}
use Rattle.imap_session.specs.declared.texts.ResponseText.{ResponseText}
use Rattle.imap_session.specs.declared.texts.ResponseText.TheVariants as texts
use Rattle.imap_session.specs.Exchange.{Answer, Argument, Asked, Exchange, ForLiteral, ForNothing, Message, PendingLiteral, Purpose, Response, Standing, Turn, Unasked, Wait, bye, continuing, played}
use Rattle.imap_session.specs.Commands.{awaiting_argument, awaiting_response, comes_unasked, fault_tag, given_up, lacks_literal, lacks_part, literal_in, most_line, most_unasked, on_behind, on_joined, on_part, on_read, on_rest, on_rest_of, on_text_line, response_in, says, unfinished, wanting, wants_response, without_begun}
use Rattle.imap_session.specs.Texts.{response_text}
use Rattle.imap_session.specs.Shows.{IsNoOk, PartShowsNone}

-- what a line is told that is given up, and what is said where the session ends with it
abbrev pub is_told : ResponseText → Bool
is_told texts.LineTooLong = true
is_told texts.OutOfMemory = true
is_told _ = false

abbrev pub is_parting : ResponseText → Bool
is_parting texts.LiteralTooBig = true
is_parting texts.ByeOutOfMemory = true
is_parting _ = false

pub data IsPart (x : Exchange) : Type 0 where
  tells_part : (text : ResponseText) → is_told text ≡ true → x ≡ says (response_text text) → IsPart x
  ends_part : (text : ResponseText) → is_parting text ≡ true → x ≡ Wait (bye (response_text text)) ForNothing → IsPart x
  asks_part : (line : List ℕ) (size : ℕ) → x ≡ wanting (Wait (continuing (response_text texts.Ready)) (ForLiteral Asked (Argument line) size)) → IsPart x
  comes_part : (line : List ℕ) (size : ℕ) → x ≡ Wait [] (ForLiteral Unasked (Argument line) size) → IsPart x
  challenge_part : (line : List ℕ) → x ≡ wanting (Wait (continuing []) (ForLiteral Asked (Response line) 0)) → IsPart x

either_part : (b : Bool) (x y : Exchange) → IsPart x → IsPart y → IsPart (if b then x else y)
either_part true x y p q = p
either_part false x y p q = q

pub argument_part : (before : List ℕ) (literal : Literal) → IsPart (awaiting_argument before literal)
argument_part before literal =
    either_part literal.waits _ _
    (either_part (nat_lt most_line (length before + literal.size)) _ _ (tells_part texts.LineTooLong refl refl) (asks_part before literal.size refl))
    (either_part (nat_lt most_unasked literal.size) _ _ (ends_part texts.LiteralTooBig refl refl) (comes_part before literal.size refl))

pub given_part : (rest : List ℕ) (told parting : ResponseText) → is_told told ≡ true → is_parting parting ≡ true → IsPart (given_up rest told parting)
given_part rest told parting t p = either_part (comes_unasked (announced rest)) _ _ (ends_part parting p refl) (tells_part told t refl)

-- what holds of each part, and of a line that is whole, holds of a line
pub text_line_has : (Q : Option Turn → Type 0) (now : Standing) (line : List ℕ) (answers : List Answer)
    → ((tag : List ℕ) (x : Exchange) → IsPart x → Q (played tag now x answers)) → Q (on_read now (read line) answers) → Q (on_text_line now line answers)
text_line_has Q now line answers part whole = by (read line) refl
  where
    literal : (fault : ImapFault) (tag : Option (List ℕ)) (found : Option (ℕ × Literal)) → Q (on_read now (read line) answers) → Q (on_part (lacks_literal line tag found) now line answers)
    literal fault None found w = w
    literal fault (Some tag) None w = w
    literal fault (Some tag) (Some f) w = part tag _ (argument_part _ f.1)

    in_profile : (profile : Profile) (fault : ImapFault) → Q (on_part (literal_in profile line fault) now line answers)
    in_profile Standard fault = whole
    in_profile Compatible fault = literal fault (fault_tag fault) (announced line) whole

    response : (b : Bool) (tag : List ℕ) → Q (on_part (if b then Some (tag, awaiting_response line) else None) now line answers)
    response true tag = part tag _ (challenge_part line refl)
    response false tag = whole

    by : (r : Result (List ℕ × Command) ImapFault) → r ≡ read line → Q (on_part (lacks_part now.profile now.login line r) now line answers)
    by (Ok said) e = response (wants_response now.login said.1) said.0
    by (Err fault) e = in_profile now.profile fault

pub joined_has : (Q : Option Turn → Type 0) (tag : List ℕ) (now : Standing) (line rest : List ℕ) (answers : List Answer)
    → ((x : Exchange) → IsPart x → Q (played tag now x answers)) → Q (on_text_line now line answers) → Q (on_joined tag now line rest answers)
joined_has Q tag now line rest answers part whole = by (nat_lt most_line (length line))
  where
    by : (b : Bool) → Q (if b then played tag now (given_up rest texts.LineTooLong texts.LiteralTooBig) answers else on_text_line now line answers)
    by true = part _ (given_part rest texts.LineTooLong texts.LiteralTooBig refl refl)
    by false = whole

-- what holds of the rest behind a message, of each part, and of each line, holds of the rest behind a literal
pub rest_has : (Q : Option Turn → Type 0) (a : PendingLiteral) (now : Standing) (line : List ℕ) (answers : List Answer)
    → Q (played a.tag (without_begun now) (on_rest now.mailing a (length line == 0)) answers)
    → ((x : Exchange) → IsPart x → Q (played a.tag (without_begun now) x answers))
    → ((whole : List ℕ) → Q (on_text_line (without_begun now) whole answers))
    → Q (on_rest_of a.purpose a now line answers)
rest_has Q a now line answers message part whole = by a.purpose
  where
    behind : (line_with : List ℕ → List ℕ) (text : Option (List ℕ)) → Q (on_behind a.tag (without_begun now) (option_map line_with text) line answers)
    behind line_with None = part _ (given_part line texts.OutOfMemory texts.ByeOutOfMemory refl refl)
    behind line_with (Some text) = joined_has Q a.tag (without_begun now) (line_with text) line answers part (whole _)

    by : (purpose : Purpose) → Q (on_rest_of purpose a now line answers)
    by (Message mailbox flags date) = message
    by (Argument before) = behind (λ text. before ++ quoted text ++ line) a.text
    by (Response before) = behind (λ text. before ++ codes " " ++ response_in line) a.text

-- ---- what they show

starts_no_ok : (text : ResponseText) → is_told text ≡ true → IsNoOk (response_text text)
starts_no_ok texts.LineTooLong h = refl
starts_no_ok texts.OutOfMemory h = refl
starts_no_ok _ h = cc

pub part_shows_none : (x : Exchange) → IsPart x → PartShowsNone x
part_shows_none x (tells_part text h e) = subst PartShowsNone (sym e) (starts_no_ok text h)
part_shows_none x (ends_part text h e) = subst PartShowsNone (sym e) tt
part_shows_none x (asks_part line size e) = subst PartShowsNone (sym e) (refl, tt)
part_shows_none x (comes_part line size e) = subst PartShowsNone (sym e) tt
part_shows_none x (challenge_part line e) = subst PartShowsNone (sym e) (refl, tt)

pub unfinished_shows_none : (profile : Profile) (login : Option (List ℕ)) (line tag : List ℕ) (x : Exchange) → unfinished profile login line ≡ Some (tag, x) → PartShowsNone x
unfinished_shows_none profile login line tag x e = by (read line) e
  where
    right : (t u : List ℕ) (y : Exchange) → IsPart y → ◌≡◌ {A = Option (List ℕ × Exchange)} (Some (t, y)) (Some (u, x)) → PartShowsNone x
    right t u y p h = subst PartShowsNone (ap (λ o. or_part o) h) (part_shows_none y p)
      where
        or_part : Option (List ℕ × Exchange) → Exchange
        or_part None = says []
        or_part (Some part) = part.1

    literal : (t : Option (List ℕ)) (found : Option (ℕ × Literal)) → lacks_literal line t found ≡ Some (tag, x) → PartShowsNone x
    literal None found h = absurd cc
    literal (Some t) None h = absurd cc
    literal (Some t) (Some f) h = right t tag _ (argument_part (take f.0 line) f.1) h

    in_profile : (p : Profile) (fault : ImapFault) → literal_in p line fault ≡ Some (tag, x) → PartShowsNone x
    in_profile Standard fault h = absurd cc
    in_profile Compatible fault h = literal (fault_tag fault) (announced line) h

    response : (b : Bool) (t : List ℕ) → ◌≡◌ {A = Option (List ℕ × Exchange)} (if b then Some (t, awaiting_response line) else None) (Some (tag, x)) → PartShowsNone x
    response true t h = right t tag _ (challenge_part line refl) h
    response false t h = absurd cc

    by : (r : Result (List ℕ × Command) ImapFault) → lacks_part profile login line r ≡ Some (tag, x) → PartShowsNone x
    by (Ok said) h = response (wants_response login said.1) said.0 h
    by (Err fault) h = in_profile profile fault h

pub given_up_shows_none : (rest : List ℕ) → PartShowsNone (given_up rest texts.LineTooLong texts.LiteralTooBig) × PartShowsNone (given_up rest texts.OutOfMemory texts.ByeOutOfMemory)
given_up_shows_none rest =
    (part_shows_none _ (given_part rest texts.LineTooLong texts.LiteralTooBig refl refl), part_shows_none _ (given_part rest texts.OutOfMemory texts.ByeOutOfMemory refl refl))
