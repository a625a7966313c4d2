use Rattle.std.proofs.Common.{◌≡◌, ℕ, List, ◌++◌, length, ap, sym, ◌∙◌}
use Rattle.std.specs.Prelude.{codes, decimal}
use Rattle.imap_grammar.specs.declared.items.FetchItem.{FetchItem}
use Rattle.imap_answers.specs.Answers.{item_text}
use Rattle.imap_answers.proofs.fetch.put_item.Goals as goal

pub returns-in-Size-clause-said : goal.returns-in-Size-clause-said
returns-in-Size-clause-said g c =
    let old : List ℕ = g.O.Outlet.said c.args.out.now in
    c.put_number-in-Size.ensures.said
    ∙ ap (λ (text : List ℕ). old ++ (codes "RFC822.SIZE " ++ decimal (length text))) c.as_slice.ensures
    ∙ ap (λ (item : FetchItem). old ++ item_text c.args.row.now item) (sym c.in-Size.is)
