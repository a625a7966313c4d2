use Rattle.std.proofs.Common.{◌≡◌, ◌∙◌, [], sym}
use Rattle.imap_session.proofs.Runs.{nothing_added, reaches_write}
use Rattle.imap_session.proofs.Searching.{last_named, none_at_end, none_named}
use Rattle.imap_session.proofs.search.search_view.Goals as goal

pub returns-in_default : goal.returns-in_default
returns-in_default g c response view uids are done tag now =
    let none : uids ≡ [] = none_named view uids (sym are ∙ none_at_end c.args.messages.now c.in_default.ensures.value) in
    rw (none, c.new.ensures.items) (reaches_write g.S.Store.step tag now [] (done []) c.args.store.now response response (nothing_added response))

pub returns : goal.returns
returns g c response view uids are done =
    rw (← last_named view uids c.args.messages.now c.in-Some.last.now are c.in-Some.ensures.value) (c.search_all.ensures response view uids are done)
