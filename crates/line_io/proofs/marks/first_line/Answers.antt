-- The first CRLF ends the first line; where none is there is no line.
use Rattle.std.proofs.Common.{◌+◌, ◌∙◌, ◌∷◌, ap, sym, take}
use Rattle.std.proofs.lemmas.List.{take_rest}
use Rattle.line_io.specs.Wire.{wire_lines}
use Rattle.line_io.proofs.FirstLine.{no_line, line_at}
use Rattle.line_io.proofs.marks.first_line.Goals as goal

pub returns-in-Some-clause-first : goal.returns-in-Some-clause-first
returns-in-Some-clause-first c =
    line_at c.args.bytes.now c.in-Some.at c.in-Some.ensures.within c.in-Some.ensures.cr c.in-Some.ensures.lf c.in-Some.ensures.before ∙ ap (λ t. take c.in-Some.at c.args.bytes.now ∷ wire_lines t) (sym (take_rest c.args.bytes.now (c.in-Some.at + 2)))

pub returns-in-None-clause-none : goal.returns-in-None-clause-none
returns-in-None-clause-none c = no_line c.args.bytes.now c.in-None.ensures.none
