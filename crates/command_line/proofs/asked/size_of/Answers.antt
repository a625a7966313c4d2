use Rattle.std.proofs.Common.{Some, lit<}
use Rattle.std.proofs.lemmas.Str.Pattern.{strip_suffix_char}
use Rattle.command_line.specs.declared.asked.Unit.TheVariants.{Gibibyte, Kibibyte, Mebibyte}
use Rattle.command_line.proofs.SizeLaws.{plain, sized}
use Rattle.command_line.proofs.asked.size_of.Goals as goal

pub returns-in-Some : goal.returns-in-Some
returns-in-Some c =
    sized c.args.text.now c.in-Some.digits.now Kibibyte c.bytes_in.result (strip_suffix_char 75 c.args.text.now (Some c.in-Some.digits) c.in-Some.ensures.cases (lit< tt)) c.bytes_in.ensures

pub returns-in-Some-strip_suffix : goal.returns-in-Some-strip_suffix
returns-in-Some-strip_suffix c =
    let digits = c.in-Some-strip_suffix.digits in
    sized c.args.text.now digits.now Mebibyte c.bytes_in-in-Some-strip_suffix.result (strip_suffix_char 77 c.args.text.now (Some digits) c.in-Some-strip_suffix.ensures.cases (lit< tt))
    c.bytes_in-in-Some-strip_suffix.ensures

pub returns-in-Some-strip_suffix-2 : goal.returns-in-Some-strip_suffix-2
returns-in-Some-strip_suffix-2 c =
    let digits = c.in-Some-strip_suffix-2.digits in
    sized c.args.text.now digits.now Gibibyte c.bytes_in-in-Some-strip_suffix-2.result (strip_suffix_char 71 c.args.text.now (Some digits) c.in-Some-strip_suffix-2.ensures.cases (lit< tt))
    c.bytes_in-in-Some-strip_suffix-2.ensures

pub returns : goal.returns
returns c = plain c.args.text.now c.bytes_in-2.result c.bytes_in-2.ensures
