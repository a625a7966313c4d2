-- How a command grows, argument by argument, as clap's own calls say it.
use Rattle.std.proofs.Common.{◌≡◌, ◌<◌, ◌+◌, ◌∙◌, ◌++◌, ◌∷◌, ◌||◌, ℕ, Bool, true, false, List, [], length, map, take, get_or, append_assoc, ap, ap₂, refl, sym, subst}
use Rattle.std.proofs.lemmas.List.{map_more}
use Rattle.clap.specs.Words.{AddsArg, App, Rule, app_of, rule_of, with_rule}
use Rattle.clap.specs.declared.builder.arg.Arg.{Arg}
use Rattle.clap.specs.declared.builder.command.Command.{Command}
use Rattle.command_line.specs.inner.Words.{HasMore, rule_for, with_rules}
use Rattle.command_line.specs.declared.options.NumberOption.{NumberOption}

or_none : (b c : Bool) → c ≡ false → (b || c) ≡ b
or_none true c e = refl
or_none false c e = e

pub adds_first : (old new : Command) (a : Arg) (r : Rule) → AddsArg old a new → a.global ≡ false → rule_of a ≡ r → HasMore (r ∷ []) old new
adds_first old new a r adds global rule = record {
  app = adds.shape global ∙ ap (with_rule (app_of old)) rule;
  local = adds.globals ∙ or_none _ a.global global;
}

-- rules, behind them others
regrouped : (a : App) (first then_ : List Rule) → with_rules (with_rules a first) then_ ≡ with_rules a (first ++ then_)
regrouped a first then_ = ap (λ (rules : List Rule). record a { top = record a.top { rules = rules } }) (append_assoc a.top.rules first then_)

pub adds_one : (rules : List Rule) (old mid new : Command) (a : Arg) (r : Rule) → HasMore rules old mid → AddsArg mid a new → a.global ≡ false → rule_of a ≡ r
    → HasMore (rules ++ r ∷ []) old new
adds_one rules old mid new a r more adds global rule = record {
  app = adds.shape global ∙ ap₂ with_rule more.app rule ∙ regrouped (app_of old) rules (r ∷ []);
  local = adds.globals ∙ or_none _ a.global global ∙ more.local;
}

pub joined : (rules others : List Rule) (old mid new : Command) → HasMore rules old mid → HasMore others mid new → HasMore (rules ++ others) old new
joined rules others old mid new first more = record {
  app = more.app ∙ ap (λ (a : App). with_rules a others) first.app ∙ regrouped (app_of old) rules others;
  local = more.local ∙ first.local;
}

-- the option at this index
pub adds_next : (options : List NumberOption) (i : ℕ) (old mid new : Command) (a : Arg) (d : NumberOption) → i < length options
    → HasMore (map rule_for (take i options)) old mid → AddsArg mid a new → a.global ≡ false → rule_of a ≡ rule_for (get_or options i d) → HasMore (map rule_for (take (i + 1) options)) old new
adds_next options i old mid new a d under more adds global rule =
    subst (λ rules. HasMore rules old new) (sym (map_more rule_for options i d under))
    (adds_one (map rule_for (take i options)) old mid new a (rule_for (get_or options i d)) more adds global rule)
