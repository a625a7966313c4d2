use Rattle.std.proofs.Common.{[], ◌∷◌, ◌++◌, ◌∙◌, ap, arith}
use Rattle.std.proofs.lemmas.List.{length-append}
use Rattle.imap_grammar.specs.Literals.{backslashed}
use Rattle.imap_grammar.proofs.Steps.{quoted_parts}
use Rattle.imap_grammar.proofs.literal.put_quoted.Goals as goal

pub put_backslashed-requires : goal.put_backslashed-requires
put_backslashed-requires c = record { fits = omega (arith, c.requires.fits, c.push_reserved.ensures.len, c.push_reserved.ensures.capacity, length-append (backslashed c.args.text.now) (34 ∷ [])) }

pub push_reserved-requires-2 : goal.push_reserved-requires-2
push_reserved-requires-2 c =
    omega (arith, c.requires.fits, c.push_reserved.ensures.len, c.push_reserved.ensures.capacity, c.put_backslashed.ensures.len, c.put_backslashed.ensures.capacity, length-append (backslashed c.args.text.now) (34 ∷ []))

pub returns-clause-text : goal.returns-clause-text
returns-clause-text c =
    c.push_reserved-2.ensures.items ∙ ap (λ l. l ++ 34 ∷ []) (c.put_backslashed.ensures.text ∙ ap (λ l. l ++ backslashed c.args.text.now) c.push_reserved.ensures.items) ∙ quoted_parts c.args.out.now.items c.args.text.now

pub returns-clause-len : goal.returns-clause-len
returns-clause-len c =
    omega (arith, c.push_reserved.ensures.len, c.put_backslashed.ensures.len, c.push_reserved-2.ensures.len, length-append (backslashed c.args.text.now) (34 ∷ []))
