-- What waits behind a message.
use Rattle.std.proofs.Common.{ℕ, List, ◌++◌, sym, ap, ◌∙◌, subst}
use Rattle.lmtp_machine.specs.Dialogue.{Phase}
use Rattle.lmtp_machine.specs.Conversation.{IsListening}
use Rattle.lmtp_machine.proofs.Pieces.{takes_while_listening}
use Rattle.house_peers.specs.Laws.{KeepsWhatWaits}

pub keeps_what_waits : KeepsWhatWaits
keeps_what_waits setting directory before after turn what count e w =
    let none = takes_while_listening setting directory before.at after.at w.taken turn w.leads (λ l. subst (λ (p : Phase). IsListening p) e l) in
    record { waits = sym (w.waited ∙ ap (λ (t : List ℕ). t ++ after.waits) none.none); quiet = none.quiet }
