use Rattle.std.proofs.Common.{◌-◌, ◌∙◌, false, true, sym, Result, Ok, Err, OnOk, OnErr}
use Rattle.house.specs.Setup.{session_seat}
use Rattle.house.proofs.SessionEvents.{gone_there, talks_there}
use Rattle.house.proofs.Visiting.{visited_gone, visited_there}
use Rattle.house.proofs.sessions.visitor_goes_on.Goals as goal

on_ok : {A E P Q : Type 0} (r : Result A E) → OnOk r P → (P → Q) → OnOk r Q
on_ok (Ok x) p f = f p
on_ok (Err e) p f = tt

on_err : {A E P Q : Type 0} (r : Result A E) → OnErr r P → (P → Q) → OnErr r Q
on_err (Ok x) p f = tt
on_err (Err e) p f = f p

pub returns-then-is_left-clause-ok : goal.returns-then-is_left-clause-ok
returns-then-is_left-clause-ok c k next heard w b stands there =
    visited_gone k (c.args.number - 1) next heard w b c.visitor_lingers.new.place c.args.store.now.core c.args.out.now.items
    (gone_there (session_seat k (c.args.number - 1)) next heard c.args.place.now b there (sym c.is_left.ensures ∙ c.if-is_left.true)) stands
    (c.visitor_lingers.ensures.who (session_seat k (c.args.number - 1)) next heard b there)

pub returns-clause-ok : goal.returns-clause-ok
returns-clause-ok c = on_ok c.visitor_talks.result c.visitor_talks.ensures.ok (λ goes k next heard w b stands there.
    visited_there k true (c.args.number - 1) next heard w b c.visitor_talks.new.place c.visitor_talks.new.store.core c.args.out.now.items c.visitor_talks.new.out.items
    (talks_there (session_seat k (c.args.number - 1)) next heard c.args.place.now b there (sym c.is_left.ensures ∙ c.if-is_left.false)) (goes k next heard w b stands there))

pub returns-clause-err : goal.returns-clause-err
returns-clause-err c = on_err c.visitor_talks.result c.visitor_talks.ensures.err (λ goes k next heard w b stands there.
    visited_there k false (c.args.number - 1) next heard w b c.visitor_talks.new.place c.visitor_talks.new.store.core c.args.out.now.items c.visitor_talks.new.out.items
    (talks_there (session_seat k (c.args.number - 1)) next heard c.args.place.now b there (sym c.is_left.ensures ∙ c.if-is_left.false)) (goes k next heard w b stands there))
