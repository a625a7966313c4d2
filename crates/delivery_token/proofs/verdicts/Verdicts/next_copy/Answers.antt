use Rattle.std.proofs.Common.{◌≡◌, ◌∙◌, ℕ, suc, sym, subst, drop, [], ◌∷◌, arith, length}
use Rattle.std.specs.Prelude.{slice_index_or}
use Rattle.delivery_token.specs.declared.CopyKey.{CopyKey}
use Rattle.delivery_token.specs.Copies.{copies, due}
use Rattle.delivery_token.specs.Verdicts.{Verdicts}
use Rattle.delivery_token.proofs.Copies.{drop-copies, no-key, no-mailbox}
use Rattle.delivery_token.proofs.verdicts.Verdicts.next_copy.Goals as goal
use Rattle.delivery_token.proofs.verdicts.Verdicts.next_copy.Goals.{then-position-message-via-then-position-message, then-position-message-via-else-position-message+then-position-message-2}

pub returns-then-position-message-clause-none : goal.returns-then-position-message-clause-none
returns-then-position-message-clause-none c e =
    let m = c.args.message in
    let n = c.self.inside.slots.items in
    subst (λ (v : Verdicts). due (copies m.keys.now m.mailboxes.now m.text.now m.flags) v.slots ≡ []) c.self.view_is
    (elim c.then-position-message.branch [
      | then-position-message-via-then-position-message w ↦ no-key (length n) m.keys.now m.mailboxes.now m.text.now m.flags (omega arith)
      | then-position-message-via-else-position-message+then-position-message-2 w ↦ no-mailbox (length n) m.keys.now m.mailboxes.now m.text.now m.flags (omega arith)
    ])

pub returns-clause-some : goal.returns-clause-some
returns-clause-some c =
    let m = c.args.message in
    let n = length c.self.inside.slots.items in
    let k : CopyKey = record { seat = 0; serial = 0; message = 0; recipient = 0 } in
    let even = c.len-position.ensures ∙ c.self.inside.slots.ok.0 in (
      drop (suc n) (copies m.keys.now m.mailboxes.now m.text.now m.flags),
      subst (λ (v : Verdicts). due (copies m.keys.now m.mailboxes.now m.text.now m.flags) v.slots ≡ record { key = slice_index_or m.keys.now c.len-position.result k; mailbox = slice_index_or m.mailboxes.now c.len-position.result 0; text = m.text.now; flags = m.flags } ∷ drop (suc n) (copies m.keys.now m.mailboxes.now m.text.now m.flags)) c.self.view_is
          (subst (λ (i : ℕ). drop n (copies m.keys.now m.mailboxes.now m.text.now m.flags) ≡ record { key = slice_index_or m.keys.now i k; mailbox = slice_index_or m.mailboxes.now i 0; text = m.text.now; flags = m.flags } ∷ drop (suc n) (copies m.keys.now m.mailboxes.now m.text.now m.flags)) (sym even)
          (drop-copies n m.keys.now m.mailboxes.now m.text.now m.flags k 0 (omega (arith, even)) (omega (arith, even)))),
    )
