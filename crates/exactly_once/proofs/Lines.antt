-- What a session says is whole lines, whatever it speaks, and what it does to a world is events of that world.
use Rattle.std.proofs.Common.{◌≡◌, inl, inr, ℕ, Bool, List, [], ◌∷◌, ◌++◌, refl, sym, ap, ◌∙◌, subst, append_assoc, append-nil}
use Rattle.delivery_token.specs.declared.log.Noted.{Noted}
use Rattle.line_io.specs.Wire.{IsCut, crlf, wire_lines, wire_rest}
use Rattle.line_io.specs.inner.WireLaws.{cut_end, cut_more, cut_none, reading_cut}
use Rattle.world.specs.World.{Config, World}
use Rattle.house.specs.Setup.{AreGuests, AreLines, Peers, Reached}
use Rattle.house_peers.specs.AnyVisitor.{GoesOn, SeatedVisitor, answers, rests, stalls, waits, works}
use Rattle.exactly_once.proofs.Grown.{stays, reached_then}

pub whole_append : (a b : List ℕ) → AreLines a → AreLines b → AreLines (a ++ b)
whole_append a b p (inl e) = subst (λ (x : List ℕ). AreLines (a ++ x)) (sym e) (subst AreLines (sym (append-nil a)) p)
whole_append a b p (inr (front, e)) = inr (a ++ front, ap (λ (x : List ℕ). a ++ x) e ∙ sym (append_assoc a front crlf))

-- these are lines
pub cut_of : (bytes : List ℕ) → AreLines bytes → (lines : List (List ℕ)) × IsCut bytes lines []
cut_of bytes (inl e) = ([], subst (λ (x : List ℕ). IsCut x [] []) (sym e) cut_none)
cut_of bytes (inr (front, e)) =
    let more = cut_more front (wire_lines front) (wire_rest front) 13 (reading_cut front) (λ lf cr. let x : 13 ≡ 10 = lf in cc) in
    let cut = cut_end (front ++ 13 ∷ []) (wire_lines front) (wire_rest front ++ 13 ∷ []) (wire_rest front) more refl in
    (wire_lines front ++ wire_rest front ∷ [], subst (λ (x : List ℕ). IsCut x (wire_lines front ++ wire_rest front ∷ []) []) (append_assoc front (13 ∷ []) (10 ∷ []) ∙ sym e) cut)

module _ (peers : Peers) (visits : AreGuests peers) where
  -- of one that goes on in a world
  pub goes_both : (k : Config) (place : ℕ) (whole : Bool) (seat : ℕ) (heard : List Noted) (v : SeatedVisitor peers.guest) (old new : World) (after : SeatedVisitor peers.guest) (said : List ℕ)
      → GoesOn peers.guest (peers.Meets k place) whole seat heard v old new after said → AreLines said × Reached k old new
  goes_both k place whole seat heard v old new after said (works none w) = visits.answers k place v.session.standing after.session.standing v.session.waits after.session.waits said old new w.answers
  goes_both k place whole seat heard v old new after said (answers verdict mid first second how next going is a w f) =
      let one = visits.hears k place v.session.standing next verdict how first old mid a in
      let two = visits.answers k place next after.session.standing v.session.waits after.session.waits second mid new w.answers in
      (subst AreLines (sym f) (whole_append first second one.0 two.0), reached_then k old mid new one.1 two.1)
  goes_both k place whole seat heard v old new after said (waits a f g silent) = (inl silent, stays k old new f)
  goes_both k place whole seat heard v old new after said (rests over f g silent) = (inl silent, stays k old new f)
  goes_both k place whole seat heard v old new after said (stalls part f g silent) = (inl silent, stays k old new f)
