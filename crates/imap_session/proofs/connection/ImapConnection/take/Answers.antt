use Rattle.std.proofs.Common.{◌+◌, ◌≡◌, ◌∙◌, false, refl, ap, sym, subst, arith, [], length, take, append-nil, inr}
use Rattle.std.proofs.lemmas.List.{take_rest, length-drop}
use Rattle.imap_session.specs.declared.standing.After.{After}
use Rattle.imap_session.specs.Dialogue.{Answered}
use Rattle.imap_session.proofs.Asking.{asks_none, asks_then}
use Rattle.imap_session.proofs.Conversing.{goes_to, nothing_taken, some_of, taken_on, took_nothing}
use Rattle.imap_session.proofs.connection.ImapConnection.take.Goals as goal

pub loop-fed-init : goal.loop-fed-init
loop-fed-init g c = record {
  within = some_of c.args.piece.now c.is_empty.result c.is_empty.ensures c.if-is_empty.false;
  asked = asks_none g.S.Store.step c.args.store.now c.args.store.now refl;
  goes_on = c.requires.going;
  unsent = c.requires.unsent;
  lot = refl;
  took = λ d s. ([], d, nothing_taken g.S.Store.step d c.args.store.now, s, sym (append-nil (g.O.Outlet.said c.args.out.now)));
}

pub loop-fed-preserved : goal.loop-fed-preserved
loop-fed-preserved g c =
    let i = c.loop-fed.invariant in
    let e = c.in-Ok.ensures in
    let live : c.feed.new.self.session.ended ≡ false = sym c.has_ended.ensures ∙ c.if-has_ended.false in
    record {
      within = omega (arith, e.used, ap length (take_rest c.args.piece.now c.loop-fed.used), length-drop c.loop-fed.used c.args.piece.now, c.if-used-piece.false);
      asked = asks_then g.S.Store.step c.args.store.now c.loop-fed.store c.feed.new.store i.asked e.asked;
      goes_on = live;
      unsent = c.awaits_verdict.ensures.none c.if-awaits_verdict.false;
      lot = e.lot ∙ i.lot;
      took = λ d s.
          let t = i.took d s in
          let m = taken_on g.S.Store.step d t.1 c.args.piece.now c.loop-fed.used c.args.store.now c.loop-fed.store c.feed.new.store t.0 (g.O.Outlet.said c.args.out.now) (g.O.Outlet.said c.loop-fed.out) (g.O.Outlet.said c.feed.new.out)
          c.in-Ok.fed c.loop-fed.self c.feed.new.self t.2 t.3 i.goes_on i.unsent t.4 e.sends (e.ok t.1 t.3) in
          let after = goes_to c.in-Ok.fed.after c.feed.new.self m.next e.sends live m.stands in
          (m.said, m.next, subst (λ (a : After). Answered g.S.Store.step d (take (c.loop-fed.used + c.in-Ok.fed.used) c.args.piece.now) c.args.store.now c.feed.new.store m.said a m.next) after m.answered, m.stands, m.wrote);
    }

pub returns-then-used-piece-clause-took : goal.returns-then-used-piece-clause-took
returns-then-used-piece-clause-took g c d s =
    let i = c.loop-fed.invariant in
    let e = c.in-Ok.ensures in
    let t = i.took d s in
    let m = taken_on g.S.Store.step d t.1 c.args.piece.now c.loop-fed.used c.args.store.now c.loop-fed.store c.feed.new.store t.0 (g.O.Outlet.said c.args.out.now) (g.O.Outlet.said c.loop-fed.out) (g.O.Outlet.said c.feed.new.out)
    c.in-Ok.fed c.loop-fed.self c.feed.new.self t.2 t.3 i.goes_on i.unsent t.4 e.sends (e.ok t.1 t.3) in
    record { said = m.said; how = c.in-Ok.fed.after; next = m.next; answered = m.answered; stands = m.stands; wrote = m.wrote; is = inr refl }

pub returns-then-used-piece-clause-asked : goal.returns-then-used-piece-clause-asked
returns-then-used-piece-clause-asked g c = asks_then g.S.Store.step c.args.store.now c.loop-fed.store c.feed.new.store c.loop-fed.invariant.asked c.in-Ok.ensures.asked

pub returns-then-is_empty-clause-took : goal.returns-then-is_empty-clause-took
returns-then-is_empty-clause-took g c d s =
    took_nothing g.S.Store.step d c.args.piece.now (g.O.Outlet.said c.args.out.now) c.args.store.now c.args.self.now c.may_send.result s c.requires.going c.may_send.ensures
