use Rattle.std.proofs.Common.{◌++◌, ap, codes, refl, subst, List, ℕ}
use Rattle.std.specs.Option.{option_map}
use Rattle.imap_grammar.specs.Literals.{quoted}
use Rattle.imap_session.specs.Commands.{given_up, on_rest_of, response_in}
use Rattle.imap_session.specs.declared.texts.ResponseText.TheVariants as texts
use Rattle.imap_session.specs.inner.Appends.{Leads}
use Rattle.imap_session.specs.inner.Lines.{AnswersJoined}
use Rattle.imap_session.specs.inner.Seen.{pending_of, purpose_of}
use Rattle.imap_session.proofs.Lines.{joined_is, part_given_up, part_joined}
use Rattle.imap_session.proofs.session.Session.part_line.Goals as goal

pub returns-in_default-clause-answered : goal.returns-in_default-clause-answered
returns-in_default-clause-answered g c =
    let now = c.args.self.now in
    let a = pending_of c.args.begun in
    part_given_up g.S.Store.step now c.give_up.new.self a c.args.rest.now c.args.store.now (g.O.Outlet.said c.args.out.now) (g.O.Outlet.said c.give_up.new.out) c.give_up.result c.requires.alone c.requires.awake c.requires.part
    (ap (option_map (λ t. t.items)) c.in_default.is)
    (subst (λ (tag : List ℕ). Leads tag now (given_up c.args.rest.now texts.OutOfMemory texts.ByeOutOfMemory) (g.O.Outlet.said c.args.out.now) (g.O.Outlet.said c.give_up.new.out) c.give_up.result c.give_up.new.self) c.as_slice-tag.ensures c.give_up.ensures.leads)

pub returns-in-Argument-clause-answered : goal.returns-in-Argument-clause-answered
returns-in-Argument-clause-answered g c =
    let now = c.args.self.now in
    let a = pending_of c.args.begun in
    let rest = c.args.rest.now in
    let front = c.in-Argument.before.items in
    let whole = front ++ quoted c.deref.result.now ++ rest in
    part_joined g.S.Store.step now c.joined_line.new.self a (λ text. front ++ quoted text ++ rest) c.in-Some.text.items whole rest c.args.store.now c.joined_line.new.store (g.O.Outlet.said c.args.out.now) (g.O.Outlet.said c.joined_line.new.out) c.joined_line.result
    (λ answers. ap (λ p. on_rest_of (purpose_of p) a now rest answers) c.in-Argument.is) c.requires.alone c.requires.awake (ap (option_map (λ t. t.items)) c.in-Some.is)
    (ap (λ t. front ++ quoted t ++ rest) c.deref.ensures.value)
    (subst (λ (tag : List ℕ). AnswersJoined g.S.Store.step tag now whole rest c.args.store.now c.joined_line.new.store (g.O.Outlet.said c.args.out.now) (g.O.Outlet.said c.joined_line.new.out) c.joined_line.result c.joined_line.new.self) c.as_slice-tag.ensures
    (c.joined_line.ensures.answered whole (joined_is c.with_argument-line.result whole c.with_argument-line.ensures.joined c.with_argument-line.ensures.too_long)))

pub returns-in-Response-clause-answered : goal.returns-in-Response-clause-answered
returns-in-Response-clause-answered g c =
    let now = c.args.self.now in
    let a = pending_of c.args.begun in
    let rest = c.args.rest.now in
    let front = c.in-Response.before.items in
    let whole = front ++ codes " " ++ response_in rest in
    part_joined g.S.Store.step now c.joined_line-in-Response.new.self a (λ text. front ++ codes " " ++ response_in rest) c.in-Some.text.items whole rest c.args.store.now c.joined_line-in-Response.new.store (g.O.Outlet.said c.args.out.now)
    (g.O.Outlet.said c.joined_line-in-Response.new.out) c.joined_line-in-Response.result
    (λ answers. ap (λ p. on_rest_of (purpose_of p) a now rest answers) c.in-Response.is) c.requires.alone c.requires.awake (ap (option_map (λ t. t.items)) c.in-Some.is)
    refl
    (subst (λ (tag : List ℕ). AnswersJoined g.S.Store.step tag now whole rest c.args.store.now c.joined_line-in-Response.new.store (g.O.Outlet.said c.args.out.now) (g.O.Outlet.said c.joined_line-in-Response.new.out) c.joined_line-in-Response.result c.joined_line-in-Response.new.self) c.as_slice-tag.ensures
    (c.joined_line-in-Response.ensures.answered whole (joined_is c.with_response-line.result whole c.with_response-line.ensures.joined c.with_response-line.ensures.too_long)))
