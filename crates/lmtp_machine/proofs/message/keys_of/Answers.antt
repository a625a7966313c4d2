use Rattle.std.proofs.Common.{arith, ◌++◌, ◌∷◌, [], ap, sym, ◌∙◌, List}
use Rattle.std.proofs.lemmas.List.{length-take-le}
use Rattle.delivery_token.specs.declared.CopyKey.{CopyKey}
use Rattle.lmtp_machine.proofs.Replies.{keys_more}
use Rattle.lmtp_machine.proofs.message.keys_of.Goals as goal

pub loop-i-preserved : goal.loop-i-preserved
loop-i-preserved c = record {
  room = omega (arith, c.push_reserved.ensures.capacity, c.loop-i.invariant.room);
  len = omega (arith, c.push_reserved.ensures.len, c.loop-i.invariant.len);
  keys = λ most.
      let key : CopyKey = record { seat = c.args.seat; serial = c.args.serial; message = c.args.message; recipient = c.loop-i.i } in
      c.push_reserved.ensures.items ∙ ap (λ (l : List CopyKey). l ++ key ∷ []) (c.loop-i.invariant.keys most)
      ∙ sym (keys_more (record { seat = c.args.seat; serial = c.args.serial; max_message = most }) c.args.message c.loop-i.i c.args.recipients.now c.loop-i-test.true
      (length-take-le c.loop-i.i c.args.recipients.now (omega (arith, c.loop-i-test.true))));
}
