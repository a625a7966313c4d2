use Rattle.std.proofs.Common.{rules, sym, ◌∙◌, ap, true, Bool, length}
use Rattle.std.specs.Prelude.{◌==◌}
use Rattle.envelope.specs.Values.{forward_path}
use Rattle.envelope.specs.Reading.{words}
use Rattle.envelope.proofs.Addressed.{rcpt_gives, chosen, is_none, is_some}
use Rattle.envelope.proofs.reading.rcpt.Goals as goal

pub returns-then-not-forward_fits : goal.returns-then-not-forward_fits
returns-then-not-forward_fits c =
    let tail = c.in-Some-forward_at.tail.now in
    let path = forward_path c.in-Some-forward_at.path in
    let e = rcpt_gives c.args.rest.now c.after_spaces.result.now c.in-Some.rest.now c.after_spaces-start.result.now tail path c.forward_fits.result
    c.after_spaces.ensures.value c.in-Some.ensures.value c.after_spaces-start.ensures.value c.in-Some-forward_at.ensures.value (search rules) c.forward_fits.ensures in
    sym (e ∙ ap (λ (f : Bool). chosen f (length (words tail) == 0) path) c.if-not-forward_fits.true)

pub returns-then-count_words-ne0 : goal.returns-then-count_words-ne0
returns-then-count_words-ne0 c =
    let tail = c.in-Some-forward_at.tail.now in
    let path = forward_path c.in-Some-forward_at.path in
    let e = rcpt_gives c.args.rest.now c.after_spaces.result.now c.in-Some.rest.now c.after_spaces-start.result.now tail path c.forward_fits.result
    c.after_spaces.ensures.value c.in-Some.ensures.value c.after_spaces-start.ensures.value c.in-Some-forward_at.ensures.value (search rules) c.forward_fits.ensures in
    let none = is_some c.count_words.result (length (words tail)) c.count_words.ensures c.if-count_words-ne0.true in
    sym (e ∙ ap (λ (f : Bool). chosen f (length (words tail) == 0) path) c.if-not-forward_fits.false ∙ ap (λ (n : Bool). chosen true n path) none)

pub returns : goal.returns
returns c =
    let tail = c.in-Some-forward_at.tail.now in
    let path = forward_path c.in-Some-forward_at.path in
    let e = rcpt_gives c.args.rest.now c.after_spaces.result.now c.in-Some.rest.now c.after_spaces-start.result.now tail path c.forward_fits.result
    c.after_spaces.ensures.value c.in-Some.ensures.value c.after_spaces-start.ensures.value c.in-Some-forward_at.ensures.value (search rules) c.forward_fits.ensures in
    let none = is_none c.count_words.result (length (words tail)) c.count_words.ensures c.if-count_words-ne0.false in
    sym (e ∙ ap (λ (f : Bool). chosen f (length (words tail) == 0) path) c.if-not-forward_fits.false ∙ ap (λ (n : Bool). chosen true n path) none)
