use Rattle.std.proofs.Common.{◌≡◌, true}
use Rattle.delivery_token.proofs.Slots.{known_all}
use Rattle.delivery_token.proofs.verdicts.Verdicts.known.Goals as goal

pub known_in-requires-clause-known : goal.known_in-requires-clause-known
known_in-requires-clause-known c =
    let is : c.are_known.result ≡ true = (let e = c.if-not-are_known.false in cc) in
    let k = c.are_known.ensures.known is in
    known_all _ k.0 k.1.each
