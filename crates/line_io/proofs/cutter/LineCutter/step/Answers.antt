use Rattle.std.proofs.Common.{◌≡◌, ◌-◌, [], ◌∙◌, sym, ap, refl, arith, true, false, take, length, Some, None}
use Rattle.std.specs.Prelude.{if◌then◌else◌}
use Rattle.std.proofs.lemmas.Bool.Decides.{nat_tests}
use Rattle.line_io.specs.Cutting.{LineCutter}
use Rattle.line_io.proofs.Lines.{stands_more, stands_line, stands_long, fields, kept_room, kept_full}
use Rattle.line_io.proofs.cutter.LineCutter.step.Goals as goal
use Rattle.line_io.proofs.cutter.LineCutter.step.Goals.{else-byte-eq-LF-via-then-byte-eq-LF+else-self, else-byte-eq-LF-via-else-byte-eq-LF, then-len-self-2, else-len-self-2}

pub returns-then-len-self-clause-lines : goal.returns-then-len-self-clause-lines
returns-then-len-self-clause-lines c stream at =
    let f = fields _ _ _ _ c.args.self.now c.self.view_is c.requires in
    let new : LineCutter = record { max = c.self.inside.max; kept = []; after_cr = false; line = Some c.truncate.new.self.items } in
    let len : length c.args.self.now.kept ≡ c.len-len.result = ap length f.2 ∙ sym c.self.inside.bytes.ok.0 ∙ sym c.len-len.ensures in
    let w = stands_line c.args.self.now new stream c.args.byte at c.if-byte-eq-LF.true (f.3 ∙ c.if-self.true) refl refl (omega arith) in
    let same : take (c.len-len.result - 1) c.self.inside.bytes.items ≡ take (length c.args.self.now.kept - 1) c.args.self.now.kept = rw (len, f.2) refl in
    (w.0, (w.1.0, w.1.1, omega (arith, w.1.2), ap Some (c.truncate.ensures.items ∙ same ∙ w.1.3)))

pub returns-else-len-self-clause-lines : goal.returns-else-len-self-clause-lines
returns-else-len-self-clause-lines c stream at =
    let f = fields _ _ _ _ c.args.self.now c.self.view_is c.requires in
    let len : length c.args.self.now.kept ≡ c.len-len.result = ap length f.2 ∙ sym c.self.inside.bytes.ok.0 ∙ sym c.len-len.ensures in
    let w = stands_long c.args.self.now (record { max = c.self.inside.max; kept = (if c.self.inside.is_ready then [] else c.clear.new.self.items); after_cr = false; line = (if c.self.inside.is_ready then Some c.clear.new.self.items else None) }) stream c.args.byte at c.if-byte-eq-LF.true (f.3 ∙ c.if-self.true) (rw f.0 c.clear.ensures.items) refl (omega arith) in
    (w.0, (w.1.0, w.1.1, omega (arith, w.1.2)))

pub returns-after-len-self-2-clause-lines : goal.returns-after-len-self-2-clause-lines
returns-after-len-self-2-clause-lines c stream at =
    let f = fields _ _ _ _ c.args.self.now c.self.view_is c.requires in
    let len : length c.args.self.now.kept ≡ c.len.result = ap length f.2 ∙ sym c.self.inside.bytes.ok.0 ∙ sym c.len.ensures in
    stands_more c.args.self.now _ stream c.args.byte at
    (elim c.if-len-self-2.branch [ then-len-self-2 w ↦ rw w.self-inside-is (sym f.1) | else-len-self-2 w ↦ rw w.self-inside-is (sym f.1) ])
    (elim c.if-len-self-2.branch [
      | then-len-self-2 w ↦ rw (w.self-inside-is, f.0) (kept_room _ _ _ _ _ f.2 w.push_reserved.ensures.items (omega arith))
      | else-len-self-2 w ↦ rw (w.self-inside-is, f.0) (kept_full _ _ _ _ f.2 (omega arith))
    ])
    (λ t. grind (arith, nat_tests))
    (λ t e. grind (arith, nat_tests))
    (λ b t. elim c.else-byte-eq-LF.branch [ else-byte-eq-LF-via-then-byte-eq-LF+else-self w ↦ (let e : true ≡ false = sym t ∙ f.3 ∙ w.if-self.false in cc) | else-byte-eq-LF-via-else-byte-eq-LF w ↦ w.if-byte-eq-LF.false b ])
