use Rattle.std.proofs.Common.{rules, ◌≡◌, ◌<◌, ◌^◌, ◌++◌, ◌∙◌, ℕ, List, ap, sym, vec_len}
use Rattle.std.specs.Vec.{vec_capacity}
use Rattle.imap_session.specs.Exchange.{Feed}
use Rattle.imap_session.specs.Response.{Response}
use Rattle.imap_session.proofs.Showing.{does_fed, feeds_behind, room_behind, written_anew}
use Rattle.imap_session.proofs.response.Response.show.Goals as goal

pub invariant_of-self : goal.invariant_of-self
invariant_of-self g c =
    let w : c.self.inside.held < 2 ^ 64 = search rules in (
      c.self.invariant.0,
      room_behind c.self.inside.held (g.O.Outlet.room c.self.inside.out) (g.O.Outlet.room c.lend-part.new.self) (vec_len c.lend-part.result) (vec_capacity c.lend-part.result) (vec_len c.feed-shown.new.out) (vec_capacity c.feed-shown.new.out) (g.O.Outlet.room c.take_back.new.self)
          c.self.invariant.1 w c.lend-part.ensures.room c.feed-shown.ensures.spare c.take_back.ensures.room c.take_back.ensures.kept,
    )

pub returns-clause-event : goal.returns-clause-event
returns-clause-event g c =
    let kept : List ℕ = g.O.Outlet.said c.lend-part.new.self in
    let lent : List ℕ = c.lend-part.result.items in
    let before : c.args.self.now.text ≡ kept ++ lent = sym (ap (λ (r : Response). r.text) c.self.view_is) ∙ c.lend-part.ensures.said in
    feeds_behind (λ a. g.S.Store.step c.args.store.now (Feed c.args.limit) a c.feed-shown.new.self) c.args.limit kept lent c.feed-shown.new.out.items c.args.self.now.text (g.O.Outlet.said c.take_back.new.self) c.feed-shown.result
    before c.take_back.ensures.said c.feed-shown.ensures.event

pub returns-clause-done : goal.returns-clause-done
returns-clause-done g c x =
    let kept : List ℕ = g.O.Outlet.said c.lend-part.new.self in
    let lent : List ℕ = c.lend-part.result.items in
    let text : List ℕ = g.O.Outlet.said c.take_back.new.self in
    let inside = c.self.inside in
    let before : c.args.self.now.text ≡ kept ++ lent = sym (ap (λ (r : Response). r.text) c.self.view_is) ∙ c.lend-part.ensures.said in
    let after : Response = record { tag = inside.tag.now; held = inside.held; text = text; lot = g.O.Outlet.lot c.take_back.new.self } in
    does_fed g.S.Store.step c.args.limit x c.args.store.now c.feed-shown.new.self c.args.self.now after c.feed-shown.result
    (feeds_behind (λ a. g.S.Store.step c.args.store.now (Feed c.args.limit) a c.feed-shown.new.self) c.args.limit kept lent c.feed-shown.new.out.items c.args.self.now.text text c.feed-shown.result
    before c.take_back.ensures.said c.feed-shown.ensures.event)
    (written_anew inside.tag.now inside.held (g.O.Outlet.said inside.out) text (g.O.Outlet.lot inside.out) (g.O.Outlet.lot c.take_back.new.self) (c.take_back.ensures.lot ∙ c.lend-part.ensures.lot) c.self.view_is)
