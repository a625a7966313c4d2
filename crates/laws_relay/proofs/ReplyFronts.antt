-- What is read of the front of what was written.
use Rattle.std.proofs.Common.{◌≡◌, ℕ, Bool, true, false, List, [], ◌∷◌, ◌++◌, refl, ap, sym, ◌∙◌, append_assoc}
use Rattle.std.specs.Prelude.{map, if◌then◌else◌}
use Rattle.line_io.specs.Wire.{joined, wire_lines, wire_rest}
use Rattle.line_io.specs.inner.WireLaws.{reading_cut, wire_join, wire_joined}
use Rattle.lmtp_machine.specs.declared.reply.Reply.{Reply}
use Rattle.lmtp_machine.specs.Dialogue.{wire}
use Rattle.laws_relay.specs.Handed.{goes_on, last_lines, replies_of, IsInLine}
use Rattle.laws_relay.specs.ReplyLaws.{last_line}
use Rattle.laws_relay.proofs.Cuts.{replies_are_read}

-- the lines of a front are the first of all lines
pub lines_of_front : (front back : List ℕ) → wire_lines (front ++ back) ≡ wire_lines front ++ wire_lines (wire_rest front ++ back)
lines_of_front front back =
    let cut = reading_cut front in
    let whole = wire_joined (wire_lines front) cut.each in
    ap (λ (l : List ℕ). wire_lines (l ++ back)) cut.whole
    ∙ ap wire_lines (append_assoc (joined (wire_lines front)) (wire_rest front) back)
    ∙ (wire_join (joined (wire_lines front)) (wire_rest front ++ back) whole.1).0
    ∙ ap (λ (ls : List (List ℕ)). ls ++ wire_lines (wire_rest front ++ back)) whole.0

last_lines-append : (xs ys : List (List ℕ)) → last_lines (xs ++ ys) ≡ last_lines xs ++ last_lines ys
last_lines-append [] ys = refl
last_lines-append (x ∷ xs) ys = by (goes_on x) (last_lines-append xs ys)
  where
    by : (b : Bool) → last_lines (xs ++ ys) ≡ last_lines xs ++ last_lines ys
        → (if b then last_lines (xs ++ ys) else x ∷ last_lines (xs ++ ys)) ≡ (if b then last_lines xs else x ∷ last_lines xs) ++ last_lines ys
    by true more = more
    by false more = ap (λ (l : List (List ℕ)). x ∷ l) more

-- what is read of a front is the first of what is read of all
pub replies_of_front : (told untold : List ℕ) → replies_of (told ++ untold) ≡ replies_of told ++ last_lines (wire_lines (wire_rest told ++ untold))
replies_of_front told untold = ap last_lines (lines_of_front told untold) ∙ last_lines-append (wire_lines told) (wire_lines (wire_rest told ++ untold))

pub fronts_are_read : (host : List ℕ) (replies : List Reply) (told untold : List ℕ) → IsInLine host → told ++ untold ≡ wire host replies
    → (more : List (List ℕ)) × (map (last_line host) replies ≡ replies_of told ++ more)
fronts_are_read host replies told untold h e = (
  last_lines (wire_lines (wire_rest told ++ untold)),
  sym (replies_are_read host replies h) ∙ ap replies_of (sym e) ∙ replies_of_front told untold,
)
