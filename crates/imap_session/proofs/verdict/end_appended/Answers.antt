use Rattle.std.proofs.Common.{ap, ◌∙◌, ◌++◌, List, ℕ}
use Rattle.imap_session.proofs.Verdicts.{line_in_parts}
use Rattle.imap_session.proofs.verdict.end_appended.Goals as goal

pub returns-clause-text : goal.returns-clause-text
returns-clause-text g c =
    let first = c.put-3.ensures.said ∙ ap (λ (t : List ℕ). (g.O.Outlet.said c.put-2.new.self) ++ t) (c.as_bytes.ensures.value ∙ c.format.ensures.text) in
    let second = c.put-5.ensures.said ∙ ap (λ (t : List ℕ). (g.O.Outlet.said c.put-4.new.self) ++ t) (c.as_bytes-2.ensures.value ∙ c.format-2.ensures.text) in
    rw (← c.release-tag.ensures.text, ← c.release-tag.ensures.tag)
    (line_in_parts (g.O.Outlet.said c.release-tag.new.out) c.release-tag.result.now c.args.uidvalidity c.args.uid (g.O.Outlet.said c.put.new.self) (g.O.Outlet.said c.put-2.new.self) (g.O.Outlet.said c.put-3.new.self) (g.O.Outlet.said c.put-4.new.self) (g.O.Outlet.said c.put-5.new.self) (g.O.Outlet.said c.put-6.new.self)
    c.put.ensures.said c.put-2.ensures.said first c.put-4.ensures.said second c.put-6.ensures.said)
