-- A cutter whose stream was taken on by others.
use Rattle.std.specs.Prelude.{◌≡◌, ℕ, List, [], ◌++◌, take, true, false}
use Rattle.std.proofs.Common.{◌∙◌, ap, sym, subst}
use Rattle.line_io.specs.Wire.{EndsInCr, wire_rest}
use Rattle.line_io.specs.inner.WireLaws.{wire_join}
use Rattle.line_io.specs.Cutting.{LineCutter, StandsFor}

-- between two lines a cutter stands also for a stream with whole lines more, which another took, as mail data
pub stands_over : (cutter : LineCutter) (stream data_bytes : List ℕ) → StandsFor cutter stream →
    wire_rest stream ≡ [] → wire_rest data_bytes ≡ [] → StandsFor cutter (stream ++ data_bytes)
stands_over cutter stream data_bytes s e d =
    let r : wire_rest stream ≡ wire_rest (stream ++ data_bytes) = e ∙ sym d ∙ sym (wire_join stream data_bytes e).1 in
    record {
      kept = s.kept ∙ ap (λ t. take cutter.max t) r;
      cr = subst (λ (t : List ℕ). cutter.after_cr ≡ true → EndsInCr t) r s.cr;
      no_cr = subst (λ (t : List ℕ). cutter.after_cr ≡ false → EndsInCr t → ⊥) r s.no_cr;
    }
