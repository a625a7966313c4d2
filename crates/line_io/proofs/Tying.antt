-- What is said through a buffer, and what of it was sent: how the one is tied to the other behind each call.
use Rattle.std.proofs.Common.{rules, ◌≡◌, ℕ, ◌<◌, List, [], ◌++◌, length, take, drop, sym, ◌∙◌, ap, arith, refl, append_assoc, subst, Option, Some, None, Bool, Result, Ok, Err, OnOk, IfErr, true, false}
use Rattle.std.specs.Io.KnownBytes.{Appends}
use Rattle.std.proofs.Math.ListN.{take-append-drop}
use Rattle.std.proofs.lemmas.List.{length-drop, length-append}
use Rattle.std.specs.Result.{is_err}
use Rattle.line_io.specs.declared.sink.SendFault.{SendFault}
use Rattle.line_io.specs.inner.Buffer.{Tied}
use Rattle.line_io.proofs.Appended.{appends_two}

pub appends_none : (a : Option (List ℕ)) → Appends a a []
appends_none None = tt
appends_none (Some xs) = search rules

-- nothing was said
pub tied_new : (a : Option (List ℕ)) (row : List ℕ) → Tied a a [] (take 0 row) false
tied_new a row = record { sent = []; rest = []; whole = refl; took = appends_none a; going = λ _. refl; short = λ e. absurd cc; none = λ e. absurd cc }

-- what is pending was sent
pub tied_sent : (s t u : Option (List ℕ)) (said p row : List ℕ) → Tied s t said p false → Appends t u p → Tied s u said (take 0 row) false
tied_sent s t u said p row w h = record {
  sent = w.sent ++ p;
  rest = [];
  whole = w.whole ∙ ap (λ r. w.sent ++ r) (w.going refl) ∙ search rules;
  took = appends_two s t u w.sent p w.took h;
  going = λ _. refl;
  short = λ e. absurd cc;
  none = λ e. absurd cc;
}

-- the first bytes of what is pending were sent, and the sink failed
pub tied_cut : (s t u : Option (List ℕ)) (said p : List ℕ) (k : ℕ) → k < length p → Tied s t said p false → Appends t u (take k p) → Tied s u said [] true
tied_cut s t u said p k lt w h = record {
  sent = w.sent ++ take k p;
  rest = drop k p;
  whole = w.whole ∙ ap (λ r. w.sent ++ r) (w.going refl ∙ sym (take-append-drop k p)) ∙ sym (append_assoc w.sent (take k p) (drop k p));
  took = appends_two s t u w.sent (take k p) w.took h;
  going = λ e. absurd cc;
  short = λ _. omega (arith, length-drop k p, lt);
  none = λ _. refl;
}

-- more is said, and stands behind what is pending
pub tied_kept : (s t : Option (List ℕ)) (said p bs : List ℕ) → Tied s t said p false → Tied s t (said ++ bs) (p ++ bs) false
tied_kept s t said p bs w = record {
  sent = w.sent;
  rest = w.rest ++ bs;
  whole = ap (λ r. r ++ bs) w.whole ∙ append_assoc w.sent w.rest bs;
  took = w.took;
  going = λ e. ap (λ r. r ++ bs) (w.going refl);
  short = λ e. absurd cc;
  none = λ e. absurd cc;
}

-- more is said behind a failure
pub tied_lost : (s t : Option (List ℕ)) (said p bs : List ℕ) → Tied s t said p true → Tied s t (said ++ bs) p true
tied_lost s t said p bs w = record {
  sent = w.sent;
  rest = w.rest ++ bs;
  whole = ap (λ r. r ++ bs) w.whole ∙ append_assoc w.sent w.rest bs;
  took = w.took;
  going = λ e. absurd cc;
  short = λ e. omega (arith, length-append w.rest bs, w.short refl);
  none = w.none;
}

-- what is pending was sent, or its first bytes
pub tied_poured : (s t u : Option (List ℕ)) (said p : List ℕ) (b : Bool) (r : Result (Unit {0}) SendFault) → b ≡ false → Tied s t said p b
    → OnOk r (Appends t u p) → IfErr r (λ f. Appends t u (take f.sent p)) → IfErr r (λ f. f.sent < length p) → Tied s u said [] (is_err r)
tied_poured s t u said p b (Ok x) e w all some few = tied_sent s t u said p [] (subst (λ (y : Bool). Tied s t said p y) e w) all
tied_poured s t u said p b (Err f) e w all some few = tied_cut s t u said p f.sent few (subst (λ (y : Bool). Tied s t said p y) e w) some

-- more is said, and sent behind nothing that is pending
pub tied_passed : (s t u : Option (List ℕ)) (said p bs : List ℕ) (b : Bool) (r : Result (Unit {0}) SendFault) → b ≡ false → p ≡ [] → Tied s t said p b
    → OnOk r (Appends t u bs) → IfErr r (λ f. Appends t u (take f.sent bs)) → IfErr r (λ f. f.sent < length bs) → Tied s u (said ++ bs) [] (is_err r)
tied_passed s t u said p bs b r e none w all some few =
    let start : Tied s t said [] false = subst (λ (q : List ℕ). Tied s t said q false) none (subst (λ (y : Bool). Tied s t said p y) e w) in
    tied_poured s t u (said ++ bs) bs false r refl (tied_kept s t said [] bs start) all some few

-- a sink that took all has not failed, and one that took less has
pub same_failed : (r : Result (Unit {0}) SendFault) (kept sink : Bool) → kept ≡ is_err r → OnOk r (sink ≡ false) → IfErr r (λ f. sink ≡ true) → kept ≡ sink
same_failed (Ok x) kept sink e live gone = e ∙ sym live
same_failed (Err f) kept sink e live gone = e ∙ sym gone
