use Rattle.std.proofs.Common.{rules, ◌≡◌, Bool, true, ◌++◌, take, drop, subst}
use Rattle.imap_answers.specs.Answers.{is_crlf, header, header_from}
use Rattle.imap_answers.proofs.Headers.{crlf_within, header_over}
use Rattle.imap_answers.proofs.sections.header_len.Goals as goal

pub loop-at-preserved-then-is_crlf : goal.loop-at-preserved-then-is_crlf
loop-at-preserved-then-is_crlf c =
    let text = c.args.text.now in
    let at = c.loop-at.at in
    let e : is_crlf (drop at text) ≡ true = search rules in
    record {
      within = crlf_within text at e;
      front = header_over text at e (subst (λ (f : Bool). take at text ++ header_from f (drop at text) ≡ header text) c.if-fresh.false c.loop-at.invariant.front);
    }
