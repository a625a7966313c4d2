use Rattle.std.proofs.Common.{◌+◌, ◌++◌, ℕ, List, ap, ap₂, sym, subst, ◌∙◌, append_assoc, length-append}
use Rattle.change_ring.specs.Log.{replay}
use Rattle.change_ring.proofs.LogLaws.{replay-append}
use Rattle.cursor_set.specs.Cursors.{Open}
use Rattle.cursor_set.specs.Legal.{IsLegalOn}
use Rattle.cursor_set.specs.Lines.{lines}
use Rattle.cursor_set.proofs.LegalLaws.{legal_first, legal_rest}
use Rattle.cursor_set.proofs.ShowLaws.{lines-append}
use Rattle.cursor_set.proofs.set.Cursor.show.Goals as goal

pub show_changes-requires-clause-legal : goal.show_changes-requires-clause-legal
show_changes-requires-clause-legal c =
    subst (λ (v : List ℕ). IsLegalOn v c.args.first.now) (sym c.reserve.ensures.items) (legal_first c.args.self.now.view.items c.args.first.now c.args.rest.now c.requires.legal)

pub show_changes-requires-2-clause-legal : goal.show_changes-requires-2-clause-legal
show_changes-requires-2-clause-legal c =
    let between = c.show_changes.ensures.view ∙ ap (λ (v : List ℕ). replay v c.args.first.now) c.reserve.ensures.items in
    subst (λ (v : List ℕ). IsLegalOn v c.args.rest.now) (sym between) (legal_rest c.args.self.now.view.items c.args.first.now c.args.rest.now c.requires.legal)

pub returns-clause-cursor : goal.returns-clause-cursor
returns-clause-cursor c =
    let between = c.show_changes.ensures.view ∙ ap (λ (v : List ℕ). replay v c.args.first.now) c.reserve.ensures.items in
    ap₂ (λ (n : ℕ) (v : List ℕ). let o : Open = record { serial = c.args.self.now.serial; at = c.args.self.now.at + n; view = v } in o)
    (sym (length-append c.args.first.now c.args.rest.now))
    (c.show_changes-2.ensures.view ∙ ap (λ (v : List ℕ). replay v c.args.rest.now) between ∙ sym (replay-append c.args.self.now.view.items c.args.first.now c.args.rest.now))

pub returns-clause-text : goal.returns-clause-text
returns-clause-text c =
    let view = c.args.self.now.view.items in
    let between = c.show_changes.ensures.view ∙ ap (λ (v : List ℕ). replay v c.args.first.now) c.reserve.ensures.items in
    c.show_changes-2.ensures.text
    ∙ ap₂ (λ (t v : List ℕ). t ++ lines v c.args.rest.now) (c.show_changes.ensures.text ∙ ap₂ (λ (t v : List ℕ). t ++ lines v c.args.first.now) c.reserve-2.ensures.items c.reserve.ensures.items) between
    ∙ append_assoc c.args.out.now.items (lines view c.args.first.now) (lines (replay view c.args.first.now) c.args.rest.now)
    ∙ sym (ap (λ (t : List ℕ). c.args.out.now.items ++ t) (lines-append view c.args.first.now c.args.rest.now))
