use Rattle.std.proofs.Common.{◌≡◌, ℕ, codes, decimal, List, [], ◌++◌, ap, if◌then◌else◌, ◌∙◌}
use Rattle.imap_answers.specs.Answers.{all_flags}
use Rattle.imap_answers.proofs.OpeningParts.{opening_in_lines}
use Rattle.imap_answers.proofs.opening.put_opening.Goals as goal

pub returns-clause-items : goal.returns-clause-items
returns-clause-items g c =
    let count : c.as_bytes-count.result.now ≡ decimal c.args.opening.now.count = c.as_bytes-count.ensures.value ∙ c.format.ensures.text in
    let valid : c.as_bytes-uidvalidity.result.now ≡ decimal c.args.opening.now.uidvalidity = c.as_bytes-uidvalidity.ensures.value ∙ c.format-2.ensures.text in
    let next : c.as_bytes-uidnext.result.now ≡ decimal c.args.opening.now.uidnext = c.as_bytes-uidnext.ensures.value ∙ c.format-3.ensures.text in
    let kept : c.kept_flags-kept.result.now ≡ (if c.args.read_only then [] else all_flags) = c.kept_flags-kept.ensures.kept ∙ ap (λ (t : List ℕ). if c.args.read_only then [] else t) c.as_slice-all.ensures in
    opening_in_lines c.args.read_only c.args.name.now c.args.opening.now (g.O.Outlet.said c.args.out.now) (g.O.Outlet.said c.put_between.new.out) (g.O.Outlet.said c.put_between-2.new.out) (g.O.Outlet.said c.put_between-3.new.out)
    (g.O.Outlet.said c.put_between-4.new.out) (g.O.Outlet.said c.put_between-5.new.out) (g.O.Outlet.said c.put_between-6.new.out)
    (c.put_between.ensures.items ∙ ap (λ (t : List ℕ). g.O.Outlet.said c.args.out.now ++ (codes "* FLAGS (" ++ t ++ codes ")\r\n")) c.as_slice-all.ensures)
    (c.put_between-2.ensures.items ∙ ap (λ (t : List ℕ). g.O.Outlet.said c.put_between.new.out ++ (codes "* " ++ t ++ codes " EXISTS\r\n")) count)
    (c.put_between-3.ensures.items ∙ ap (λ (t : List ℕ). g.O.Outlet.said c.put_between-2.new.out ++ (codes "* OK [UIDVALIDITY " ++ t ++ codes "] UIDs valid\r\n")) valid)
    (c.put_between-4.ensures.items ∙ ap (λ (t : List ℕ). g.O.Outlet.said c.put_between-3.new.out ++ (codes "* OK [UIDNEXT " ++ t ++ codes "] Predicted next UID\r\n")) next)
    (c.put_between-5.ensures.items ∙ ap (λ (t : List ℕ). g.O.Outlet.said c.put_between-4.new.out ++ (codes "* OK [PERMANENTFLAGS (" ++ t ++ codes ")] Flags kept\r\n")) kept)
    c.put_between-6.ensures.items
