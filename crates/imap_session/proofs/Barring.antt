-- Commands that aren't carried out, and those that log a client in.
use Rattle.std.proofs.Common.{◌≡◌, ◌⊎◌, inl, inr, ℕ, Bool, true, false, List, Option, Some, None, is_some, not, refl, if◌then◌else◌}
use Rattle.imap_grammar.specs.Verbs.{verb_of}
use Rattle.imap_grammar.specs.declared.command.Command.{Command}
use Rattle.imap_grammar.specs.declared.command.Command.TheVariants as commands
use Rattle.imap_grammar.specs.declared.command.Verb.{Verb}
use Rattle.imap_grammar.specs.declared.command.Verb.TheVariants as verbs
use Rattle.imap_session.specs.declared.standing.Profile.{Profile}
use Rattle.imap_session.specs.declared.standing.Profile.TheVariants.{Standard, Compatible}
use Rattle.imap_session.specs.declared.texts.ResponseText.{ResponseText}
use Rattle.imap_session.specs.declared.texts.ResponseText.TheVariants as texts
use Rattle.imap_session.specs.Exchange.{Answer, Exchange, Standing, Turn, played}
use Rattle.imap_session.specs.Commands.{answering, arguments_text, asks_compatible, barred, barred_at, before_login, completed, lacking_or, logged_in, logs_in_as, on_command, on_found, on_line, refused_login, says, standard_lacks, unoffered, without_login}
use Rattle.imap_session.specs.Plain.{is_plain, plain_in}
use Rattle.imap_grammar.specs.declared.command.Authenticate.{Authenticate}
use Rattle.imap_session.specs.Texts.{response_text}

-- a text that refuses a command for what it is
abbrev pub refuses : ResponseText → Bool
refuses texts.WrongState = true
refuses texts.UnknownCommand = true
refuses texts.NotOffered = true
refuses texts.InvalidArguments = true
refuses texts.LoginFailed = true
refuses _ = false

abbrev pub Refuses : Option ResponseText → Type 0
Refuses None = Unit {0}
Refuses (Some text) = refuses text ≡ true

lacking_refuses : (verb : Verb) → Refuses (standard_lacks verb)
lacking_refuses verbs.Login = refl
lacking_refuses verbs.Authenticate = refl
lacking_refuses verbs.Enable = refl
lacking_refuses verbs.Id = refl
lacking_refuses verbs.Check = refl
lacking_refuses verbs.Lsub = refl
lacking_refuses verbs.Subscribe = refl
lacking_refuses verbs.Unsubscribe = refl
lacking_refuses verbs.Search = refl
lacking_refuses verbs.UidSearch = refl
lacking_refuses verbs.Copy = refl
lacking_refuses verbs.UidCopy = refl
lacking_refuses verbs.Move = refl
lacking_refuses verbs.UidMove = refl
lacking_refuses _ = tt

unoffered_refuses : (profile : Profile) (command : Command) → Refuses (unoffered profile command)
unoffered_refuses Standard command = by (asks_compatible command)
  where
    by : (t : Bool) → Refuses (if t then Some texts.InvalidArguments else standard_lacks (verb_of command))
    by true = refl
    by false = lacking_refuses (verb_of command)
unoffered_refuses Compatible command = tt

early_refuses : (verb : Verb) → Refuses (before_login verb)
early_refuses verbs.Capability = tt
early_refuses verbs.Noop = tt
early_refuses verbs.Logout = tt
early_refuses verbs.Login = refl
early_refuses verbs.Id = tt
early_refuses verbs.StartTls = refl
early_refuses _ = refl

login_refuses : (a : Authenticate) → refuses (refused_login a) ≡ true
login_refuses a = by (is_plain a.mechanism) (is_some (plain_in a.initial))
  where
    by : (plain proves : Bool) → refuses (if not plain then texts.NotOffered else if proves then texts.LoginFailed else texts.InvalidArguments) ≡ true
    by false proves = refl
    by true true = refl
    by true false = refl

without_refuses : (command : Command) → Refuses (without_login command)
without_refuses (commands.Authenticate a) = login_refuses a
without_refuses command = early_refuses (verb_of command)

pub barred_refuses : (login : Option (List ℕ)) (profile : Profile) (command : Command) → Refuses (barred_at login profile command)
barred_refuses None profile command = unoffered_refuses profile command
barred_refuses (Some user) profile command = without_refuses command

pub arguments_refuse : (profile : Profile) (verb : Verb) → refuses (arguments_text profile verb) ≡ true
arguments_refuse Standard verb = by (standard_lacks verb) (lacking_refuses verb)
  where
    by : (o : Option ResponseText) → Refuses o → refuses (lacking_or o) ≡ true
    by None h = refl
    by (Some text) h = h
arguments_refuse Compatible verb = refl

-- a command is carried out, or it is refused
pub answering_has : (P : Exchange → Type 0) (tag : List ℕ) (now : Standing) (command : Command) → ((text : ResponseText) → refuses text ≡ true → P (says (response_text text))) → P (on_command tag now command)
    → P (answering tag now command)
answering_has P tag now command refused done = by (barred now command) (barred_refuses now.login now.profile command)
  where
    by : (o : Option ResponseText) → Refuses o → P (on_found (λ text. says (response_text text)) (on_command tag now command) o)
    by None h = done
    by (Some text) h = refused text h

-- the same of the turn that it leads to: a command logs the client in, is refused, or is carried out
pub line_has : (Q : Option Turn → Type 0) (now : Standing) (tag : List ℕ) (command : Command) (answers : List Answer)
    → (logs_in_as now.login command ≡ true → Q (played tag (logged_in now) (completed command) answers))
    → ((text : ResponseText) → refuses text ≡ true → Q (played tag now (says (response_text text)) answers))
    → Q (played tag now (on_command tag now command) answers)
    → Q (on_line (logs_in_as now.login command) now tag command answers)
line_has Q now tag command answers right refused done = by (logs_in_as now.login command) refl
  where
    by : (b : Bool) → logs_in_as now.login command ≡ b → Q (on_line b now tag command answers)
    by true e = right e
    by false e = answering_has (λ x. Q (played tag now x answers)) tag now command refused done

-- only LOGIN and AUTHENTICATE log a client in
pub logs_in : (login : Option (List ℕ)) (command : Command) → logs_in_as login command ≡ true → (verb_of command ≡ verbs.Login) ⊎ (verb_of command ≡ verbs.Authenticate)
logs_in None command e = cc
logs_in (Some user) (commands.Login name password) e = inl refl
logs_in (Some user) (commands.Authenticate a) e = inr refl
logs_in (Some user) _ e = cc
