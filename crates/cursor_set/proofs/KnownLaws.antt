-- What a feed asks of the cursor's caller, and that it holds of the next feed too.
use Rattle.std.proofs.Common.{◌≡◌, ℕ, ◌+◌, ◌-◌, ◌≤◌, List, Option, Some, None, take, drop, sym, subst, ap, ◌∙◌, refl, arith}
use Rattle.std.specs.Prelude.{option_map}
use Rattle.std.proofs.lemmas.List.{take-append-drop, drop-drop}
use Rattle.change_ring.specs.declared.change.Change.{Change}
use Rattle.change_ring.specs.Log.{Window, total, changes_from}
use Rattle.cursor_set.specs.Cursors.{CursorSet, Open, CursorHandle, Updates, after_showing, held, next_changes}
use Rattle.cursor_set.specs.Legal.{IsLegalOn}
use Rattle.cursor_set.proofs.LegalLaws.{legal_rest}
use Rattle.cursor_set.proofs.OpenedLemmas.{held_in_slot}

-- the cursor's next change is within the log, and the changes from there on may be shown to its client
pub record IsKnownTo (s : CursorSet) (handle : CursorHandle) (w : Window) : Type 0 where
  pub known : (o : Open) → held s handle ≡ Some o → w.base ≤ handle.at → (handle.at ≤ total w) × IsLegalOn o.view (changes_from handle.at w)

from_map : (f : Open → Open) (x : Option Open) (o : Open) → option_map f x ≡ Some o → (p : Open) × (x ≡ Some p) × (o ≡ f p)
from_map f None o e = absurd (cc)
from_map f (Some p) o e = (p, refl, cc)

-- after a feed of n changes
pub known_after : (old new : CursorSet) (handle : CursorHandle) (w : Window) (n : ℕ) → IsKnownTo old handle w → w.base ≤ handle.at → n ≤ total w - handle.at →
    Updates old new handle.slot (option_map (after_showing (next_changes w handle.at n)) (held old handle)) → IsKnownTo new (record handle { at = handle.at + n }) w
known_after old new handle w n h low few u = record {
  known = λ o e _.
      let there : option_map (after_showing (next_changes w handle.at n)) (held old handle) ≡ Some o = sym u.changed ∙ held_in_slot new (record handle { at = handle.at + n }) o e in
      let was = from_map (after_showing (next_changes w handle.at n)) (held old handle) o there in
      let all = changes_from handle.at w in
      let k = h.known was.0 was.1 low in
      let rest : drop n all ≡ changes_from (handle.at + n) w =
      drop-drop n (handle.at - w.base) w.changes ∙ (let e : handle.at - w.base + n ≡ handle.at + n - w.base = omega arith in ap (λ (i : ℕ). drop i w.changes) e) in
      let legal : IsLegalOn (after_showing (next_changes w handle.at n) was.0).view (drop n all) =
      legal_rest was.0.view (take n all) (drop n all) (subst (IsLegalOn was.0.view) (sym (take-append-drop n all)) k.1) in
      (omega (arith, k.0, few), subst (λ (cs : List Change). IsLegalOn o.view cs) rest (subst (λ (p : Open). IsLegalOn p.view (drop n all)) (sym was.2) legal));
}
