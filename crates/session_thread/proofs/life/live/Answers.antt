use Rattle.session_thread.proofs.Living.{handed_on, left_or_forgotten, lived, lived_forgotten, lived_some}
use Rattle.session_thread.proofs.life.live.Goals as goal

pub returns-clause-ok : goal.returns-clause-ok
returns-clause-ok g c =
    let m = c.make_all-lived in
    lived c.depart-gone.result (g.C.Courier.carried c.args.courier.now) (g.C.Courier.carried m.new.courier) c.args.turns c.args.most c.args.folders.items c.args.steps.now c.args.store.now m.new.store c.depart-gone.new.store (g.O.Outlet.said c.args.out.now) (g.O.Outlet.said c.greet.new.out) (g.O.Outlet.said m.new.out)
    c.in_ok-connection.connection m.new.connection c.in_ok-connection.ensures c.in_ok-greet.ensures.ok c.in_ok-lived.ensures.ok c.depart-gone.ensures.gone

pub returns-clause-err : goal.returns-clause-err
returns-clause-err g c =
    let m = c.make_all-lived in
    lived_forgotten c.depart-gone.result (g.C.Courier.carried c.args.courier.now) (g.C.Courier.carried m.new.courier) c.args.turns _ c.args.most c.args.folders.items c.args.steps.now c.args.store.now m.new.store c.depart-gone.new.store (g.O.Outlet.said c.args.out.now) (g.O.Outlet.said c.greet.new.out) (g.O.Outlet.said m.new.out)
    c.in_ok-connection.connection m.new.connection c.in_ok-connection.ensures c.in_ok-greet.ensures.ok c.in_ok-lived.ensures.ok c.depart-gone.ensures.forgotten c.depart-gone.ensures.torn

pub returns-in_err-lived-clause-err : goal.returns-in_err-lived-clause-err
returns-in_err-lived-clause-err g c =
    let m = c.make_all-lived in
    handed_on c.from_residual-in_err-lived.result c.in_err-lived.field-0.0 _ c.from_residual-in_err-lived.ensures.1
    (lived_some c.args.turns _ c.in_err-lived.field-0.0 c.args.most c.args.folders.items c.args.steps.now c.args.store.now m.new.store c.depart-gone.new.store (g.O.Outlet.said c.args.out.now) (g.O.Outlet.said c.greet.new.out) (g.O.Outlet.said m.new.out) c.in_ok-connection.connection m.new.connection
    c.in_ok-connection.ensures c.in_ok-greet.ensures.ok c.in_err-lived.ensures.err (left_or_forgotten c.depart-gone.result c.depart-gone.ensures.gone c.depart-gone.ensures.forgotten))
