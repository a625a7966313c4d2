use Rattle.std.proofs.Common.{◌≡◌, ◌+◌, ◌≤◌, ◌<◌, ◌++◌, ◌∙◌, sym, ap, subst, refl, List, ℕ, Bool, false, min, take, length, if◌then◌else◌, arith}
use Rattle.imap_session.specs.declared.standing.After.TheVariants.{Bye}
use Rattle.std.proofs.Math.Seq.{take-length}
use Rattle.line_io.specs.Cutting as cutting
use Rattle.line_io.specs.Wire.{wire_lines}
use Rattle.line_io.specs.Cutting.{EndsLine}
use Rattle.imap_session.specs.Exchange.{Standing, may_send, waits_for}
use Rattle.imap_session.specs.Store.{Answers, TakesBytes}
use Rattle.imap_session.specs.Commands.{due_of, long_line_text, turn_of_long_line}
use Rattle.imap_session.specs.Dialogue.{ImapConnection, begins, ends, most_bytes, reads, too_long}
use Rattle.imap_session.proofs.Feeding.{has_begun, line_ends, literal_taken, none_due, some_same, stands_anew}
use Rattle.imap_session.proofs.connection.ImapConnection.feed.Goals as goal

pub invariant_of-self : goal.invariant_of-self
invariant_of-self g c =
    (c.take-cut.ensures.max ∙ c.self.invariant.0, (c.self.invariant.1.0 ++ take c.take-cut.result.used c.args.piece.now, c.take-cut.ensures.stands c.self.invariant.1.0 c.self.invariant.1.1))

pub returns-in-NeedMore-clause-ok : goal.returns-in-NeedMore-clause-ok
returns-in-NeedMore-clause-ok g c d s =
    let same : c.self.inside.session ≡ d.standing = ap (λ (l : ImapConnection). l.session) c.self.view_is ∙ s.session in
    let cut : cutting.StandsFor c.self.inside.cutter d.begun = subst (λ (l : ImapConnection). cutting.StandsFor l.cutter d.begun) (sym c.self.view_is) s.cutter in
    let used : c.take-cut.result.used ≡ length c.args.piece.now = c.take-cut.ensures.all_used c.in-NeedMore.is in
    let all : take c.take-cut.result.used c.args.piece.now ≡ c.args.piece.now = ap (λ n. take n c.args.piece.now) used ∙ take-length c.args.piece.now in
    let tells = subst (λ w. cutting.Tells w c.take-cut.new.self d.begun (take c.take-cut.result.used c.args.piece.now)) c.in-NeedMore.is (c.take-cut.ensures.lines d.begun cut) in
    let live : d.standing.ended ≡ false = ap (λ x. x.ended) (sym same) ∙ sym c.ended.ensures ∙ c.if-ended.false in
    begins live used (c.may_send.ensures ∙ ap may_send same ∙ ap (λ (b : Bool). if b then Bye else waits_for d.standing) live) refl (c.hold.ensures.said)
    (has_begun c.self.inside.session c.take-cut.new.self d c.args.piece.now same s.uncut (none_due c.self.inside.session d.standing same c.literal_due.result c.literal_due.ensures (omega (arith, c.if-literal_due-gt0.false)))
    (subst (λ (t : List ℕ). cutting.StandsFor c.take-cut.new.self (d.begun ++ t)) all (c.take-cut.ensures.stands d.begun cut))
    (subst (λ (t : List ℕ). wire_lines (d.begun ++ t) ≡ wire_lines d.begun) all tells))

pub returns-in-Ok-clause-ok : goal.returns-in-Ok-clause-ok
returns-in-Ok-clause-ok g c d s =
    let same : c.self.inside.session ≡ d.standing = ap (λ (l : ImapConnection). l.session) c.self.view_is ∙ s.session in
    let cut : cutting.StandsFor c.self.inside.cutter d.begun = subst (λ (l : ImapConnection). cutting.StandsFor l.cutter d.begun) (sym c.self.view_is) s.cutter in
    let used : List ℕ = take c.take-cut.result.used c.args.piece.now in
    let told = subst (λ w. cutting.Tells w c.take-cut.new.self d.begun (take c.take-cut.result.used c.args.piece.now)) c.in-Line.is (c.take-cut.ensures.lines d.begun cut) in
    let is : told.0 ≡ c.line.result.now = some_same told.0 c.line.result.now (sym told.3 ∙ c.line.ensures) in
    let ended = subst (λ (l : List ℕ). EndsLine d.begun (take c.take-cut.result.used c.args.piece.now) l) is told.1 in
    let max : c.take-cut.new.self.max ≡ 8192 = c.take-cut.ensures.max ∙ c.self.invariant.0 in
    let short : length c.line.result.now + 2 ≤ most_bytes = subst (λ (n : ℕ). length c.line.result.now + 2 ≤ n) max (subst (λ (l : List ℕ). length l + 2 ≤ c.take-cut.new.self.max) is told.2) in
    let whole = line_ends d used c.line.result.now s.uncut ended in
    ends c.line.result.now c.line-in-Line.new.self (ap (λ x. x.ended) (sym same) ∙ sym c.ended.ensures ∙ c.if-ended.false) whole.0 whole.1 (none_due c.self.inside.session d.standing same c.literal_due.result c.literal_due.ensures (omega (arith, c.if-literal_due-gt0.false)))
    (reads short
    (subst (λ (now : Standing). Answers g.S.Store.step now c.line.result.now c.args.store.now c.line-in-Line.new.store (g.O.Outlet.said c.args.out.now) (g.O.Outlet.said c.line-in-Line.new.out) c.in-Ok.after c.line-in-Line.new.self) same
    (subst (λ (t : List ℕ). Answers g.S.Store.step c.self.inside.session c.line.result.now c.args.store.now c.line-in-Line.new.store t (g.O.Outlet.said c.line-in-Line.new.out) c.in-Ok.after c.line-in-Line.new.self) c.hold.ensures.said
    c.in-Ok.ensures.answered)))
    (stands_anew c.line-in-Line.new.self c.take-cut.new.self d.begun used c.line.result.now (c.take-cut.ensures.stands d.begun cut) ended)

pub returns-in-Ok-long_line-clause-ok : goal.returns-in-Ok-long_line-clause-ok
returns-in-Ok-long_line-clause-ok g c d s =
    let same : c.self.inside.session ≡ d.standing = ap (λ (l : ImapConnection). l.session) c.self.view_is ∙ s.session in
    let cut : cutting.StandsFor c.self.inside.cutter d.begun = subst (λ (l : ImapConnection). cutting.StandsFor l.cutter d.begun) (sym c.self.view_is) s.cutter in
    let used : List ℕ = take c.take-cut.result.used c.args.piece.now in
    let told = subst (λ w. cutting.Tells w c.take-cut.new.self d.begun (take c.take-cut.result.used c.args.piece.now)) c.in-TooLong.is (c.take-cut.ensures.lines d.begun cut) in
    let max : c.take-cut.new.self.max ≡ 8192 = c.take-cut.ensures.max ∙ c.self.invariant.0 in
    let whole = line_ends d used told.0 s.uncut told.1 in
    ends told.0 c.long_line.new.self (ap (λ x. x.ended) (sym same) ∙ sym c.ended.ensures ∙ c.if-ended.false) whole.0 whole.1 (none_due c.self.inside.session d.standing same c.literal_due.result c.literal_due.ensures (omega (arith, c.if-literal_due-gt0.false)))
    (too_long (subst (λ (n : ℕ). n < length told.0 + 2) max told.2) refl (c.in-Ok-long_line.ensures.answered.1 ∙ ap (λ (t : List ℕ). t ++ long_line_text c.self.inside.session) c.hold.ensures.said ∙ ap (λ (x : Standing). (g.O.Outlet.said c.args.out.now) ++ long_line_text x) same)
    c.in-Ok-long_line.ensures.answered.0 (c.in-Ok-long_line.ensures.standing ∙ ap (λ (x : Standing). (turn_of_long_line x).standing) same))
    (stands_anew c.long_line.new.self c.take-cut.new.self d.begun used told.0 (c.take-cut.ensures.stands d.begun cut) told.1)

pub returns-then-literal_due-gt0-clause-ok : goal.returns-then-literal_due-gt0-clause-ok
returns-then-literal_due-gt0-clause-ok g c d s =
    let same : c.self.inside.session ≡ d.standing = ap (λ (l : ImapConnection). l.session) c.self.view_is ∙ s.session in
    let live : d.standing.ended ≡ false = ap (λ x. x.ended) (sym same) ∙ sym c.ended.ensures ∙ c.if-ended.false in
    let e = c.take_literal.ensures in
    let positive : 0 < c.literal_due.result = omega (arith, c.if-literal_due-gt0.true) in
    let due : 0 < due_of d.standing.mailing.begun = subst (λ (n : ℕ). 0 < n) (c.literal_due.ensures ∙ ap (λ (x : Standing). due_of x.mailing.begun) same) positive in
    literal_taken g.S.Store.step d c.args.piece.now c.args.store.now (g.O.Outlet.said c.args.out.now) c.take_literal.result c.args.self.now c.take_literal.new.self s live due
    (e.used ∙ ap (λ (x : Standing). min (length c.args.piece.now) (due_of x.mailing.begun)) s.session) e.none
    (λ some. subst (λ (x : Standing). TakesBytes x (take c.take_literal.result.used c.args.piece.now) c.take_literal.new.self.session) s.session (e.takes some)) e.cutter e.sends
