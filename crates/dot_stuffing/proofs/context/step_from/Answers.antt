use Rattle.dot_stuffing.proofs.Contexts.{start_dot, start_byte, dot_cr, dot_byte, dot_cr_byte, dot_cr_lf, inside_byte, cr_byte, cr_lf}
use Rattle.dot_stuffing.proofs.context.step_from.Goals as goal

pub returns-then-byte-eq-DOT : goal.returns-then-byte-eq-DOT
returns-then-byte-eq-DOT c = rw c.in-Start.is (λ wire h. start_dot c.args.byte wire c.if-byte-eq-DOT.true h)

pub returns-else-byte-eq-DOT : goal.returns-else-byte-eq-DOT
returns-else-byte-eq-DOT c = rw (c.in-Start.is, c.after.ensures) (λ wire h. start_byte c.args.byte wire c.if-byte-eq-DOT.false h)

pub returns-then-byte-eq-CR : goal.returns-then-byte-eq-CR
returns-then-byte-eq-CR c = rw c.in-Dot.is (λ wire h. dot_cr c.args.byte wire c.if-byte-eq-CR.true h)

pub returns-else-byte-eq-CR : goal.returns-else-byte-eq-CR
returns-else-byte-eq-CR c = rw (c.in-Dot.is, c.after-else-byte-eq-CR.ensures) (λ wire h. dot_byte c.args.byte wire c.if-byte-eq-CR.false h)

pub returns-then-byte-eq-LF : goal.returns-then-byte-eq-LF
returns-then-byte-eq-LF c = rw c.in-DotCr.is (λ wire h. dot_cr_lf c.args.byte wire c.if-byte-eq-LF.true h)

pub returns-else-byte-eq-LF : goal.returns-else-byte-eq-LF
returns-else-byte-eq-LF c = rw (c.in-DotCr.is, c.after-else-byte-eq-LF.ensures) (λ wire h. dot_cr_byte c.args.byte wire c.if-byte-eq-LF.false h)

pub returns-in-Inside : goal.returns-in-Inside
returns-in-Inside c = rw (c.in-Inside.is, c.after-in-Inside.ensures) (λ wire h. inside_byte c.args.byte wire h)

pub returns-then-byte-eq-LF-2 : goal.returns-then-byte-eq-LF-2
returns-then-byte-eq-LF-2 c = rw c.in-Cr.is (λ wire h. cr_lf c.args.byte wire c.if-byte-eq-LF-2.true h)

pub returns-else-byte-eq-LF-2 : goal.returns-else-byte-eq-LF-2
returns-else-byte-eq-LF-2 c = rw (c.in-Cr.is, c.after-else-byte-eq-LF-2.ensures) (λ wire h. cr_byte c.args.byte wire c.if-byte-eq-LF-2.false h)
