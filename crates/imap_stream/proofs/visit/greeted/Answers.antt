use Rattle.std.proofs.Common.{◌≡◌, ◌∙◌, List, ℕ, [], ◌++◌, ap, subst}
use Rattle.std.specs.Prelude.{Option, Some}
use Rattle.imap_session.specs.Commands.{greeting}
use Rattle.line_io.specs.Outlet.{Buffer}
use Rattle.line_io.specs.Outgoing.{Outgoing, lot_of, said_of}
use Rattle.imap_stream.specs.inner.Visits.{TookFirst, taken_of}
use Rattle.imap_stream.proofs.Flushing.{first_went, sink_has}
use Rattle.imap_stream.proofs.visit.greeted.Goals as goal

pub returns-in_default-flush-clause-cut : goal.returns-in_default-flush-clause-cut
returns-in_default-flush-clause-cut g c =
    let start = g.W.Sink.taken c.args.output in
    let words = greeting c.args.connection.now.session.profile in
    let fresh = c.new-out.result in
    let after = c.flush.new.self in
    let lot : lot_of fresh.buffer ≡ record { start = start; memory = Some c.new.result.memory } =
    ap (λ (o : Outgoing). lot_of o.buffer) c.new-out.ensures ∙ ap (λ (s : Option (List ℕ)). record { start = s; memory = Some c.new.result.memory }) (ap (λ (b : Buffer). b.start) c.new.ensures) in
    let went = first_went start c.new.result.memory c.flush.result c.in_default-flush.field-0 c.greet.new.out after c.in_default-flush.is (c.greet.ensures.lot ∙ lot) c.flush.ensures in
    let none : said_of fresh.buffer fresh.kept ≡ [] = ap (λ (o : Outgoing). said_of o.buffer o.kept) c.new-out.ensures ∙ ap (λ (b : Buffer). b.said) c.new.ensures in
    let said : said_of c.greet.new.out.buffer c.greet.new.out.kept ≡ words = c.in-Ok.ensures.ok ∙ ap (λ (s : List ℕ). s ++ words) none in
    let took : TookFirst start words (taken_of after) = subst (λ (s : List ℕ). TookFirst start s (taken_of after)) said went.took in
    subst (λ (t : Option (List ℕ)). TookFirst start words t) (sink_has (g.W.Sink.taken c.in-Some.output) (g.W.Sink.failed c.in-Some.output) after went.there.0 went.there.1 c.in-Some.ensures.sink) took
