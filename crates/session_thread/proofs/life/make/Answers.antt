use Rattle.std.proofs.Common.{[], ◌∙◌, sym}
use Rattle.workers_sync.specs.declared.courier.Lost.TheVariants as lost
use Rattle.session_thread.proofs.Living.{awaited_in_part, awaited_step, handed_on, rested, said_in_part, said_step}
use Rattle.session_thread.proofs.Spoken.{none_more}
use Rattle.session_thread.proofs.life.make.Goals as goal

pub returns-then-not-takes_more-clause-ok : goal.returns-then-not-takes_more-clause-ok
returns-then-not-takes_more-clause-ok g c = (
  [],
  none_more (g.C.Courier.carried c.args.courier.now),
  λ d s. rested c.args.turns c.args.step.now d c.args.store.now (g.O.Outlet.said c.args.out.now) c.args.connection.now (sym c.takes_more.ensures.is ∙ c.if-not-takes_more.true) s,
)

pub returns-in-Say-clause-ok : goal.returns-in-Say-clause-ok
returns-in-Say-clause-ok g c =
    let a = c.answer in
    said_step a.result (g.C.Courier.carried c.args.courier.now) (g.C.Courier.carried a.new.courier) c.args.turns c.args.step.now c.in-Say.bytes c.deref.result.now c.args.store.now a.new.store (g.O.Outlet.said c.args.out.now) (g.O.Outlet.said a.new.out) c.args.connection.now a.new.connection
    (sym c.takes_more.ensures.is ∙ c.if-not-takes_more.false) c.in-Say.is c.deref.ensures.value a.ensures.ok

pub returns-in-Say-clause-err : goal.returns-in-Say-clause-err
returns-in-Say-clause-err g c =
    let a = c.answer in
    said_in_part a.result c.args.turns (g.O.Outlet.room a.new.out) c.args.step.now c.in-Say.bytes c.deref.result.now c.args.store.now a.new.store (g.O.Outlet.said c.args.out.now) (g.O.Outlet.said a.new.out) c.args.connection.now a.new.connection
    (sym c.takes_more.ensures.is ∙ c.if-not-takes_more.false) c.in-Say.is c.deref.ensures.value a.ensures.err

pub returns-in_ok-wait_for-in-Await-clause-ok : goal.returns-in_ok-wait_for-in-Await-clause-ok
returns-in_ok-wait_for-in-Await-clause-ok g c =
    let w = c.wait_for.new in (
      [],
      none_more (g.C.Courier.carried c.args.courier.now),
      awaited_step c.args.turns c.args.step.now c.in-Await.count c.args.store.now w.store (g.O.Outlet.said c.args.out.now) (g.O.Outlet.said w.out) c.args.connection.now w.connection (sym c.takes_more.ensures.is ∙ c.if-not-takes_more.false) c.in-Await.is c.in_ok-wait_for-in-Await.ensures.ok,
    )

pub returns-in_err-wait_for-in-Await-clause-err : goal.returns-in_err-wait_for-in-Await-clause-err
returns-in_err-wait_for-in-Await-clause-err g c =
    let w = c.wait_for.new in
    handed_on c.from_residual.result lost.NoMemory _ c.from_residual.ensures.1
    (awaited_in_part c.args.turns (g.O.Outlet.room w.out) c.args.step.now c.in-Await.count c.args.store.now w.store (g.O.Outlet.said c.args.out.now) (g.O.Outlet.said w.out) c.args.connection.now w.connection (sym c.takes_more.ensures.is ∙ c.if-not-takes_more.false) c.in-Await.is
    c.in_err-wait_for-in-Await.ensures.err)
