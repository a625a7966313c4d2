use Rattle.std.proofs.Common.{◌≡◌, ℕ, List, ◌++◌, ap, ◌∙◌, append_assoc}
use Rattle.std.specs.Prelude.{codes}
use Rattle.delivery_token.specs.Text.{date_of}
use Rattle.mail_date.specs.Internal.{internal_text}
use Rattle.imap_answers.proofs.date.put_date.Goals as goal

in_order : (out front date last one two three : List ℕ) → one ≡ out ++ front → two ≡ one ++ date → three ≡ two ++ last → three ≡ out ++ ((front ++ date) ++ last)
in_order out front date last one two three a b c = rw (c, b, a) (simp append_assoc)

pub returns-clause-said : goal.returns-clause-said
returns-clause-said g c =
    in_order (g.O.Outlet.said c.args.out.now) (codes "INTERNALDATE \"") (internal_text (date_of c.args.text.now)) (codes "\"")
    (g.O.Outlet.said c.put.new.self) (g.O.Outlet.said c.put-2.new.self) (g.O.Outlet.said c.put-3.new.self)
    c.put.ensures.said
    (c.put-2.ensures.said ∙ ap (λ (date : List ℕ). g.O.Outlet.said c.put.new.self ++ date) (c.internal_date.ensures ∙ ap internal_text c.date.ensures.date))
    c.put-3.ensures.said
