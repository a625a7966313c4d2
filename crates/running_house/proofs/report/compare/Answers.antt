use Rattle.std.proofs.Common.{All, length, map, subst}
use Rattle.running_house.specs.Refusals.{MayCome}
use Rattle.running_house.proofs.report.compare.Goals as goal

pub returns-clause-refusals : goal.returns-clause-refusals
returns-clause-refusals g c =
    let all = c.all_may_come.ensures c.if-not-all_may_come.false in
    let config = c.args.config.now in
    let directory = c.args.directory.now in
    let accepted = c.as_slice.result.now in
    subst (λ logs. All (λ log. All (MayCome config directory (map (λ own. own.items) c.args.shelves.accepted.items) (map (λ own. own.items) c.args.books.taken.items)) log.notes) logs)
    c.as_slice-3.ensures.value
    (subst (λ them. All (λ log. All (MayCome config directory (map (λ own. own.items) them) (map (λ own. own.items) c.args.books.taken.items)) log.notes) c.as_slice-3.result.now)
    c.as_slice.ensures.value
    (subst (λ them. All (λ log. All (MayCome config directory (map (λ own. own.items) accepted) (map (λ own. own.items) them)) log.notes) c.as_slice-3.result.now)
    c.as_slice-2.ensures.value all))
