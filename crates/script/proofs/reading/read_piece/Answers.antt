use Rattle.std.proofs.Common.{rules}
use Rattle.script.proofs.KeptLaws.{asks_the_same, left_behind, line_kept, nothing_came, shows_the_same, something_came}
use Rattle.script.proofs.reading.read_piece.Goals as goal

pub returns-clause-some : goal.returns-clause-some
returns-clause-some g c xs is =
    asks_the_same c.read_front.new.line.items _
    (line_kept xs (g.R.Read.remaining c.read_front.new.reader) c.read_front.new.line.items c.in_ok-ended.ended (search rules) (search rules))

pub returns-clause-front : goal.returns-clause-front
returns-clause-front g c xs is =
    shows_the_same c.read_front.new.line.items _
    (line_kept xs (g.R.Read.remaining c.read_front.new.reader) c.read_front.new.line.items c.in_ok-ended.ended (search rules) (search rules))

pub returns-clause-rest : goal.returns-clause-rest
returns-clause-rest g c xs is =
    left_behind xs _ _ c.read_front.new.line.items c.in_ok-ended.ended (search rules) c.in_ok-skip_rest.ensures.behind

pub returns-clause-end : goal.returns-clause-end
returns-clause-end g c none xs is =
    nothing_came xs c.read_front.new.line.items
    (line_kept xs (g.R.Read.remaining c.read_front.new.reader) c.read_front.new.line.items c.in_ok-ended.ended (search rules) (search rules)) (search rules)

pub returns-clause-more : goal.returns-clause-more
returns-clause-more g c some xs is =
    something_came xs c.read_front.new.line.items
    (line_kept xs (g.R.Read.remaining c.read_front.new.reader) c.read_front.new.line.items c.in_ok-ended.ended (search rules) (search rules)) (search rules)
