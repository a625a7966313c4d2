-- The conversation at a position among bytes that lead somewhere.
use Rattle.std.proofs.Common.{◌≡◌, ◌⊎◌, inl, inr, ℕ, List, [], ◌∷◌, ◌++◌, refl, ap, sym, subst, ◌∙◌}
use Rattle.std.specs.Prelude.{codes}
use Rattle.envelope.specs.Names.{Directory}
use Rattle.line_io.specs.Wire.{IsCut, joined, wire_lines, wire_rest}
use Rattle.line_io.specs.inner.WireLaws.{lines_are, reading_cut}
use Rattle.lmtp_machine.specs.Dialogue.{Standing, Setting, Event, Line, Starved, Turn, dialogue, on_event}
use Rattle.lmtp_machine.specs.Conversation.{◌⨾◌, Heard, none, line, starved, IsListening, EachMayBeHeard}
use Rattle.lmtp_machine.specs.Laws.{AnyPosition}
use Rattle.lmtp_machine.proofs.Pieces.{cut-append, goes_on, hears, nil_back, nil_front}

-- what is heard of some lines and then of others
record Parts (ls ms : List (List ℕ)) (events : List Event) : Type 0 where
  first : List Event
  second : List Event
  is : events ≡ first ++ second
  one : Heard ls first
  two : Heard ms second

split : (ls ms : List (List ℕ)) {xs : List (List ℕ)} {events : List Event} → Heard xs events → xs ≡ ls ++ ms → Parts ls ms events
split [] ms {events = events} h e = record { first = []; second = events; is = refl; one = none; two = subst (λ (x : List (List ℕ)). Heard x events) e h }
split (l ∷ ls) ms none e = absurd (let k : ◌≡◌ {A = List (List ℕ)} [] (l ∷ (ls ++ ms)) = e in cc)
split (l ∷ ls) ms (line {lines = xs} k h) e =
    let a : k ≡ l = cc in
    let b : xs ≡ ls ++ ms = cc in
    let p = split ls ms h b in
    record {
      first = Line k ∷ p.first;
      second = p.second;
      is = ap (λ (x : List Event). Line k ∷ x) p.is;
      one = subst (λ (x : List ℕ). Heard (x ∷ ls) (Line k ∷ p.first)) a (line k p.one);
      two = p.two;
    }
split (l ∷ ls) ms (starved {lines = xs} h) e =
    let a : codes "." ≡ l = cc in
    let b : xs ≡ ls ++ ms = cc in
    let p = split ls ms h b in
    record {
      first = Starved ∷ p.first;
      second = p.second;
      is = ap (λ (x : List Event). Starved ∷ x) p.is;
      one = subst (λ (x : List ℕ). Heard (x ∷ ls) (Starved ∷ p.first)) a (starved p.one);
      two = p.two;
    }

may_first : (setting : Setting) (directory : Directory) (s : Standing) (es fs : List Event) → EachMayBeHeard setting directory s (es ++ fs) → EachMayBeHeard setting directory s es
may_first setting directory s [] fs h = tt
may_first setting directory s (e ∷ es) fs h = (h.0, may_first setting directory (on_event setting directory s e).standing es fs h.1)

may_then : (setting : Setting) (directory : Directory) (s : Standing) (es fs : List Event) → EachMayBeHeard setting directory s (es ++ fs)
    → EachMayBeHeard setting directory (dialogue setting directory s es).standing fs
may_then setting directory s [] fs h = h
may_then setting directory s (e ∷ es) fs h = may_then setting directory (on_event setting directory s e).standing es fs h.1

pub any_position : AnyPosition
any_position setting directory a c first second t h =
    let x : List ℕ = a.unfinished ++ first in
    let y : List ℕ = wire_rest x ++ second in
    let bytes : List ℕ = a.unfinished ++ (first ++ second) in
    let cut : IsCut bytes (wire_lines x ++ wire_lines y) (wire_rest y) = cut-append a.unfinished first (wire_rest x) second (wire_rest y) (wire_lines x) (wire_lines y) (reading_cut x) (reading_cut y) in
    let once = lines_are bytes h.lines c.unfinished h.cut in
    let again = lines_are bytes (wire_lines x ++ wire_lines y) (wire_rest y) cut in
    let rest : wire_rest y ≡ c.unfinished = sym again.1 ∙ once.1 in
    let p : Parts (wire_lines x) (wire_lines y) h.events = split (wire_lines x) (wire_lines y) h.heard (sym once.0 ∙ again.0) in
    let may : EachMayBeHeard setting directory a.standing (p.first ++ p.second) = subst (λ (es : List Event). EachMayBeHeard setting directory a.standing es) p.is h.may in
    let one : Turn = dialogue setting directory a.standing p.first in
    let two : Turn = dialogue setting directory one.standing p.second in
    let turns : t ≡ one ⨾ two = h.turns ∙ ap (λ (es : List Event). dialogue setting directory a.standing es) p.is ∙ goes_on setting directory a.standing p.first p.second in
    let after : EachMayBeHeard setting directory one.standing p.second = may_then setting directory a.standing p.first p.second may in
    let heard : IsListening one.standing.phase ⊎ ((wire_lines y ≡ []) × (p.second ≡ [])) = hears setting directory one.standing p.two after in
    -- where nothing is heard behind the position, the dialogue stands there where it stands in the end
    let same : p.second ≡ [] → t.standing ≡ one.standing = λ e. ap (λ (v : Turn). v.standing) turns ∙ ap (λ (es : List Event). (dialogue setting directory one.standing es).standing) e in
    let left : wire_lines y ≡ [] → wire_rest x ++ second ≡ c.unfinished = λ e. (reading_cut y).whole ∙ ap (λ (ls : List (List ℕ)). joined ls ++ wire_rest y) e ∙ rest in
    record {
      middle = record { standing = one.standing; unfinished = wire_rest x };
      one = one;
      two = two;
      to_it = record {
        lines = wire_lines x;
        events = p.first;
        cut = reading_cut x;
        heard = p.one;
        may = may_first setting directory a.standing p.first p.second may;
        turns = refl;
        stands = refl;
        behind = elim heard [
          | inl l ↦ inl l
          | inr n ↦ elim h.behind [
            | inl l ↦ inl (subst (λ (s : Standing). IsListening s.phase) (same n.1) l)
            | inr (inl e) ↦ inr (inl (nil_front first second e))
            | inr (inr e) ↦ inr (inr (nil_front (wire_rest x) second (left n.0 ∙ e)))
          ]
        ];
      };
      from_it = record {
        lines = wire_lines y;
        events = p.second;
        cut = subst (λ (r : List ℕ). IsCut y (wire_lines y) r) rest (reading_cut y);
        heard = p.two;
        may = after;
        turns = refl;
        stands = h.stands ∙ ap (λ (v : Turn). v.standing) turns;
        behind = elim h.behind [
          | inl l ↦ inl (subst (λ (v : Turn). IsListening v.standing.phase) turns l)
          | inr (inl e) ↦ inr (inl (nil_back first second e))
          | inr (inr e) ↦ inr (inr e)
        ];
      };
      turns = turns;
      listens = elim heard [
        | inl l ↦ inl l
        | inr n ↦ elim h.behind [
          | inl l ↦ inl (subst (λ (s : Standing). IsListening s.phase) (same n.1) l)
          | inr (inl e) ↦ inr (nil_back first second e)
          | inr (inr e) ↦ inr (nil_back (wire_rest x) second (left n.0 ∙ e))
        ]
      ];
    }
