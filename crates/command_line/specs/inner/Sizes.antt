-- What bodies and proofs say besides: what stands for a unit of sizes, how many bytes it is, and what digits come to in it.
use Rattle.std.specs.Prelude.{◌≡◌, ◌*◌, ℕ, [], codes}
use Rattle.std.specs.Str.Parse.{IsNumeral, digits_value}
use Rattle.clap.specs.Words.{Text}
use Rattle.command_line.specs.declared.asked.Unit.{Unit}
use Rattle.command_line.specs.declared.asked.Unit.TheVariants.{Byte, Kibibyte, Mebibyte, Gibibyte}

abbrev pub letter_of : Unit → Text
letter_of Byte = []
letter_of Kibibyte = codes "K"
letter_of Mebibyte = codes "M"
letter_of Gibibyte = codes "G"

abbrev pub bytes_of : Unit → ℕ
bytes_of Byte = 1
bytes_of Kibibyte = 1024
bytes_of Mebibyte = 1048576
bytes_of Gibibyte = 1073741824

-- so many of this unit as these digits say are so many bytes
pub record IsSizeIn (digits : Text) (unit : Unit) (size : ℕ) : Type 0 where
  pub numeral : IsNumeral 10 digits
  pub is : size ≡ digits_value 10 digits * bytes_of unit
