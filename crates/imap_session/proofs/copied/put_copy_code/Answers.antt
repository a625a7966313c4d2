use Rattle.std.proofs.Common.{ap, ◌∙◌, ◌++◌, List, ℕ}
use Rattle.imap_answers.specs.Answers.{uid_set}
use Rattle.imap_session.specs.inner.Seen.{batch_of}
use Rattle.imap_session.proofs.Verdicts.{code_in_parts}
use Rattle.imap_session.proofs.copied.put_copy_code.Goals as goal

pub returns-clause-text : goal.returns-clause-text
returns-clause-text g c =
    let first = c.put-2.ensures.said ∙ ap (λ (t : List ℕ). (g.O.Outlet.said c.put.new.self) ++ t) (c.as_bytes.ensures.value ∙ c.format.ensures.text) in
    let second = c.put_uid_set.ensures.text ∙ ap (λ (u : List ℕ). (g.O.Outlet.said c.put-3.new.self) ++ uid_set u) c.as_slice.ensures.value in
    let third = c.put_uid_set-2.ensures.text ∙ ap (λ (u : List ℕ). (g.O.Outlet.said c.put-4.new.self) ++ uid_set u) c.as_slice-2.ensures.value in
    code_in_parts (g.O.Outlet.said c.args.out.now) c.args.uidvalidity (batch_of c.args.batch.now) (g.O.Outlet.said c.put.new.self) (g.O.Outlet.said c.put-2.new.self) (g.O.Outlet.said c.put-3.new.self) (g.O.Outlet.said c.put_uid_set.new.out) (g.O.Outlet.said c.put-4.new.self) (g.O.Outlet.said c.put_uid_set-2.new.out) (g.O.Outlet.said c.put-5.new.self)
    c.put.ensures.said first c.put-3.ensures.said second c.put-4.ensures.said third c.put-5.ensures.said
