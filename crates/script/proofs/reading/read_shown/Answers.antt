use Rattle.std.proofs.Common.{rules, subst, sym}
use Rattle.std.specs.Io.BufRead.{FillKeeps}
use Rattle.std.proofs.BufReadLemmas.{Consumes_shown}
use Rattle.script.specs.inner.Kept.{HasRead}
use Rattle.script.proofs.KeptLaws.{reads_shown}
use Rattle.script.proofs.reading.read_shown.Goals as goal

pub returns-clause-read : goal.returns-clause-read
returns-clause-read g c xs is =
    let rested = c.fill_buf.follows.lender-at-none in
    let filled = subst (FillKeeps _ (g.R.Read.remaining rested) (g.R.BufRead.consumable_len rested)) c.in-Ok.is c.fill_buf.follows.holds-at-none in
    let part = c.part_of_line-used in
    let moved = Consumes_shown _ _ _ _ c.in-Ok.shown.now part.result.0 part.ensures.within c.in-Ok.ensures.front c.in-Ok.ensures.end filled.0 filled.1 c.consume.ensures.bytes in
    subst (λ l. HasRead xs c.args.line.now.items (g.R.Read.remaining c.consume.new.self) l part.result.1) (sym (search rules))
    (reads_shown _ _ xs c.in-Ok.shown.now c.args.line.now.items part.result.0 part.result.1 is moved.0 c.in-Ok.ensures.end part.ensures.part)
