use Rattle.std.proofs.Common.{codes, decimal}
use Rattle.change_ring.specs.Words.{flag_words, spaced}
use Rattle.cursor_set.proofs.Numbers.{seven_parts}
use Rattle.cursor_set.proofs.lines.put_fetch.Goals as goal

pub returns-clause-items : goal.returns-clause-items
returns-clause-items c =
    rw (c.put-2.ensures.items, c.put_flags.ensures.items, c.put.ensures.items, c.put_number.ensures.items, c.put_numbered.ensures.items)
    (seven_parts c.args.out.now.items (codes "* ") (decimal c.args.number) (codes " FETCH (UID ") (decimal c.args.uid) (codes " FLAGS (") (spaced (flag_words c.args.flags)) (codes "))\r\n"))
