use Rattle.std.proofs.Common.{◌≡◌, ◌∙◌, List, ℕ, ◌++◌, ap, subst, refl}
use Rattle.std.specs.Io.KnownBytes.{Appends}
use Rattle.line_io.specs.Outgoing.{said_of}
use Rattle.imap_stream.specs.Visits.{Visit, farewell}
use Rattle.imap_stream.specs.inner.Visits.{TookFirst, taken_of}
use Rattle.imap_stream.proofs.Flushing.{all_went_begun, first_went_begun, nothing_said}
use Rattle.imap_stream.proofs.Sending.{sends_first}
use Rattle.imap_stream.proofs.visit.Visit.dismiss.Goals as goal

pub returns-in_default-clause-cut : goal.returns-in_default-clause-cut
returns-in_default-clause-cut g c =
    let old = c.self.inside.out in
    let went = first_went_begun _ old c.begin.new.self c.put.new.self c.flush.new.self c.flush.result c.in_default.field-0 c.self.invariant c.begin.ensures c.put.ensures.lot c.in_default.is c.flush.ensures in
    let said : said_of c.put.new.self.buffer c.put.new.self.kept ≡ farewell = c.put.ensures.said ∙ ap (λ (s : List ℕ). s ++ farewell) (nothing_said _ old c.begin.new.self c.self.invariant c.begin.ensures) in
    let took : TookFirst (taken_of old) farewell (taken_of c.flush.new.self) = subst (λ (s : List ℕ). TookFirst (taken_of old) s (taken_of c.flush.new.self)) said went.took in
    sends_first c.args.self.now _ _ farewell c.self.view_is took went.failed refl

pub returns-clause-ok : goal.returns-clause-ok
returns-clause-ok g c goes =
    let old = c.self.inside.out in
    let went = all_went_begun _ old c.begin.new.self c.put.new.self c.flush.new.self c.flush.result c.in-Ok.field-0 c.self.invariant c.begin.ensures c.put.ensures.lot c.in-Ok.is c.flush.ensures in
    let said : said_of c.put.new.self.buffer c.put.new.self.kept ≡ farewell = c.put.ensures.said ∙ ap (λ (s : List ℕ). s ++ farewell) (nothing_said _ old c.begin.new.self c.self.invariant c.begin.ensures) in
    let took : Appends (taken_of old) (taken_of c.flush.new.self) farewell = subst (λ (s : List ℕ). Appends (taken_of old) (taken_of c.flush.new.self) s) said went.took in
    (subst (λ (v : Visit). Appends v.taken (taken_of c.flush.new.self) farewell) c.self.view_is took, went.live)
