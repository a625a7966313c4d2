use Rattle.std.proofs.Common.{rules, ◌≡◌, ◌<◌, ◌^◌, ◌++◌, ◌∙◌, ℕ, List, ap, sym, vec_len}
use Rattle.std.specs.Option.{option_copied}
use Rattle.std.specs.Vec.{vec_capacity}
use Rattle.imap_session.specs.Exchange.{Expunge}
use Rattle.imap_session.specs.Response.{Response}
use Rattle.imap_session.proofs.Showing.{does_purged, expunges_behind, room_behind, written_anew}
use Rattle.imap_session.proofs.response.Response.purge.Goals as goal

pub invariant_of-self : goal.invariant_of-self
invariant_of-self g c =
    let w : c.self.inside.held < 2 ^ 64 = search rules in (
      c.self.invariant.0,
      room_behind c.self.inside.held (g.O.Outlet.room c.self.inside.out) (g.O.Outlet.room c.lend-part.new.self) (vec_len c.lend-part.result) (vec_capacity c.lend-part.result) (vec_len c.expunge-gone.new.out) (vec_capacity c.expunge-gone.new.out) (g.O.Outlet.room c.take_back.new.self)
          c.self.invariant.1 w c.lend-part.ensures.room c.expunge-gone.ensures.spare c.take_back.ensures.room c.take_back.ensures.kept,
    )

pub returns : goal.returns
returns g c x =
    let kept : List ℕ = g.O.Outlet.said c.lend-part.new.self in
    let lent : List ℕ = c.lend-part.result.items in
    let text : List ℕ = g.O.Outlet.said c.take_back.new.self in
    let inside = c.self.inside in
    let uids = option_copied c.args.uids in
    let before : c.args.self.now.text ≡ kept ++ lent = sym (ap (λ (r : Response). r.text) c.self.view_is) ∙ c.lend-part.ensures.said in
    let after : Response = record { tag = inside.tag.now; held = inside.held; text = text; lot = g.O.Outlet.lot c.take_back.new.self } in
    does_purged g.S.Store.step uids x c.args.store.now c.expunge-gone.new.self c.args.self.now after c.expunge-gone.result
    (expunges_behind (λ a. g.S.Store.step c.args.store.now (Expunge uids) a c.expunge-gone.new.self) kept lent c.expunge-gone.new.out.items c.args.self.now.text text c.expunge-gone.result
    before c.take_back.ensures.said c.expunge-gone.ensures.event)
    (written_anew inside.tag.now inside.held (g.O.Outlet.said inside.out) text (g.O.Outlet.lot inside.out) (g.O.Outlet.lot c.take_back.new.self) (c.take_back.ensures.lot ∙ c.lend-part.ensures.lot) c.self.view_is)
