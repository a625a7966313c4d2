-- What an error of clap says of the words, and what the program's own errors say.
use Rattle.std.proofs.Common.{◌≡◌, ◌∙◌, inl, inr, true, List, [], ap, refl, sym, subst, Result, Ok, Err}
use Rattle.std.specs.Prelude.{IsErr, IsErrAnd, MatchResult}
use Rattle.clap.specs.Words.{App, HasKind, HasMatchesOf, IsAmong, Kinds, Text, app_of, fault_of, is_simple, is_simple_and_free, kind_of, subcommand_rows_of}
use Rattle.clap.specs.declared.builder.command.Command.{Command}
use Rattle.clap.specs.declared.error.Error.{Error}
use Rattle.clap.specs.declared.parser.matches.ArgMatches.{ArgMatches}
use Rattle.command_line.specs.Asking.{AsksBy, AsksFor}
use Rattle.command_line.specs.Words.{FailsWith, faults_at, own_faults, program}
use Rattle.command_line.specs.declared.asked.Asked.{Asked}

is_free : is_simple_and_free program ≡ true
is_free = refl

-- of the command that the program is, clap tells which errors it may give
pub here : (c : Command) (words : List Text) (P : Kinds → Type 0) → app_of c ≡ program → (is_simple_and_free (app_of c) ≡ true → P (fault_of (app_of c) words)) → P (faults_at words)
here c words P is kinds = subst (λ (a : App). P (fault_of a words)) is (kinds (ap is_simple_and_free is ∙ is_free))

-- clap's own
fails_by_clap : (faults : Kinds) (e : Error) → HasKind faults e → FailsWith faults (kind_of e)
fails_by_clap faults e (inl memory) = inl memory
fails_by_clap faults e (inr among) = inr (inl among)

pub passed_on : {T : Type 0} (faults : Kinds) (e : Error) (r : Result T Error) → HasKind faults e → IsErr r → IsErrAnd r (λ f. f ≡ e)
    → MatchResult r (λ done. faults ≡ []) (λ f. FailsWith faults (kind_of f))
passed_on faults e (Ok x) has err same = absurd (let z : ⊥ = cc err in z)
passed_on faults e (Err f) has err same = subst (λ (g : Error). FailsWith faults (kind_of g)) (sym same) (fails_by_clap faults e has)

-- the program's own, where clap has none
pub own : (faults : Kinds) (e : Error) → faults ≡ [] → IsAmong (kind_of e) own_faults → FailsWith faults (kind_of e)
own faults e none among = inr (inr (none, among))

is_plain : is_simple program ≡ true
is_plain = refl

-- what is asked for by what clap found is asked for by the words
pub asks_for : (c : Command) (words : List Text) (m : ArgMatches) (asked : Asked) → app_of c ≡ program → HasMatchesOf (app_of c) words m → AsksBy (subcommand_rows_of m) asked → AsksFor words asked
asks_for c words m asked is has asks =
    let found = (subst (λ (a : App). HasMatchesOf a words m) is has is_plain).1 in
    subst (λ o. AsksBy o asked) found asks
