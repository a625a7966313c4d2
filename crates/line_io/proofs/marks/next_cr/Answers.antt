use Rattle.std.proofs.Common.{◌≡◌, ℕ, ◌+◌, ◌-◌, ◌<◌, ◌≤◌, List, length, take, drop, get_or, ap, ◌∙◌, arith}
use Rattle.std.proofs.lemmas.Bool.{eq-eqb}
use Rattle.std.proofs.lemmas.List.{get_or-take, get_or-drop}
use Rattle.line_io.proofs.marks.next_cr.Goals as goal

-- a byte of the rest
in_rest : (bytes : List ℕ) (from k : ℕ) → from ≤ k → k < length bytes → get_or (take (length bytes - from) (drop from bytes)) (k - from) 0 ≡ get_or bytes k 0
in_rest bytes from k l h =
    let e : from + (k - from) ≡ k = omega arith in
    get_or-take (length bytes - from) (drop from bytes) (k - from) 0 (omega arith) ∙ get_or-drop from bytes (k - from) 0 ∙ ap (λ n. get_or bytes n 0) e

pub returns-in-Some-clause-before : goal.returns-in-Some-clause-before
returns-in-Some-clause-before c k l h e =
    c.in-Some.ensures.0.before (k - c.args.from) (omega arith) (omega arith) (eq-eqb _ 13 (in_rest c.args.bytes.now c.args.from k l (omega (arith, c.in-Some.ensures.0.high)) ∙ e))

pub returns-in-None-clause-none : goal.returns-in-None-clause-none
returns-in-None-clause-none c k l h e =
    c.in-None.ensures (k - c.args.from) (omega arith) (omega arith) (eq-eqb _ 13 (in_rest c.args.bytes.now c.args.from k l h ∙ e))
