-- A text whose unit was taken off is a size as the digits before it are one of that unit, and what a limit comes to.
use Rattle.std.proofs.Common.{◌≡◌, ◌∙◌, ◌++◌, ℕ, Option, Some, None, ap, append-nil, lit<, refl, subst, sym}
use Rattle.std.specs.Borrow.{Bor}
use Rattle.std.specs.Prelude.{Contains, IfSome, option_map}
use Rattle.clap.specs.Matches.{first_value}
use Rattle.clap.specs.Words.{Text, first_of, rows_of}
use Rattle.clap.specs.declared.parser.matches.Found.{Found}
use Rattle.clap.proofs.WalkLemmas.{first_value-rows}
use Rattle.command_line.specs.Asking.{GivesMemory, IsSize, limit_of, units}
use Rattle.command_line.specs.inner.Sizes.{IsSizeIn, bytes_of, letter_of}
use Rattle.command_line.specs.declared.asked.Unit.{Unit}
use Rattle.command_line.specs.declared.asked.Unit.TheVariants.{Byte, Kibibyte, Mebibyte, Gibibyte}

is_known : (unit : Unit) → Contains units (letter_of unit, bytes_of unit)
is_known Byte = (0, lit< tt, refl)
is_known Kibibyte = (1, lit< tt, refl)
is_known Mebibyte = (2, lit< tt, refl)
is_known Gibibyte = (3, lit< tt, refl)

pub sized : (text digits : Text) (unit : Unit) (r : Option ℕ) → text ≡ digits ++ letter_of unit → IfSome r (IsSizeIn digits unit) → IfSome r (IsSize text)
sized text digits unit None spelled size = tt
sized text digits unit (Some n) spelled size = record {
  digits = digits;
  unit = letter_of unit;
  each = bytes_of unit;
  spelled = spelled;
  numeral = size.numeral;
  known = is_known unit;
  is = size.is;
}

pub plain : (text : Text) (r : Option ℕ) → IfSome r (IsSizeIn text Byte) → IfSome r (IsSize text)
plain text r size = sized text text Byte r (sym (append-nil text)) size

pub no_memory : (f : Found) (id : Text) (o : Option (Bor Text)) → option_map (λ s. s.now) o ≡ first_value f id → o ≡ None → GivesMemory (first_of id (rows_of f)) None
no_memory f id o is none =
    subst (λ (given : Option Text). GivesMemory given None) (ap (option_map (λ (s : Bor Text). s.now)) (sym none) ∙ is ∙ first_value-rows f id) refl

pub some_memory : (f : Found) (id : Text) (o : Option (Bor Text)) (text : Bor Text) (size : ℕ) (limit : Option ℕ) → option_map (λ s. s.now) o ≡ first_value f id → o ≡ Some text
    → IsSize text.now size → limit ≡ limit_of size → GivesMemory (first_of id (rows_of f)) limit
some_memory f id o text size limit is some sized limited =
    subst (λ (given : Option Text). GivesMemory given limit) (ap (option_map (λ (s : Bor Text). s.now)) (sym some) ∙ is ∙ first_value-rows f id) (size, sized, limited)
