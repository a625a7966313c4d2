use Rattle.std.proofs.Common.{arith}
use Rattle.session_thread.proofs.Living.{has_shown, no_turn}
use Rattle.session_thread.proofs.turns.idle_turn.Goals as goal

pub returns-in-Err-NoMemory-clause-err : goal.returns-in-Err-NoMemory-clause-err
returns-in-Err-NoMemory-clause-err g c d s =
    let e = c.in-Err-NoMemory.ensures in
    no_turn d c.args.store.now c.idle_turn.new.store (g.O.Outlet.said c.args.out.now) (g.O.Outlet.said c.hold.new.self) (g.O.Outlet.said c.idle_turn.new.out) _ c.args.connection.now c.idle_turn.new.self c.in-Err-NoMemory.field-0 s c.requires c.hold.ensures.said e.ended.0
    (λ is. e.asked is (omega (arith, c.in_ok-hold.ensures.room))) e.refused

pub returns-in-Ok-clause-ok : goal.returns-in-Ok-clause-ok
returns-in-Ok-clause-ok g c d s =
    has_shown c.in-Ok.shown d c.args.store.now c.idle_turn.new.store (g.O.Outlet.said c.args.out.now) (g.O.Outlet.said c.hold.new.self) (g.O.Outlet.said c.idle_turn.new.out) c.args.connection.now c.idle_turn.new.self s c.requires c.hold.ensures.said
    (c.in-Ok.ensures.turned d s)
