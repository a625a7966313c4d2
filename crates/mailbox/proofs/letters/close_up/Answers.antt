use Rattle.std.proofs.Common.{rules, of_calls, ◌≡◌, ◌∙◌, ap, sym, length, List, ℕ}
use Rattle.std.specs.Prelude.{is_some}
use Rattle.std.proofs.lemmas.Fn.{filter_same}
use Rattle.std.proofs.lemmas.List.{length-map}
use Rattle.mailbox.specs.declared.letters.Letter.{Letter}
use Rattle.mailbox.specs.inner.Letters.{filed, messages_of}
use Rattle.mailbox.specs.Mailbox.{Message, uids_of}
use Rattle.mailbox.proofs.LetterLaws.{length_there, messages_there, there}
use Rattle.mailbox.proofs.letters.close_up.Goals as goal

-- those that are kept
kept : (c : goal.After-retain) → c.retain.new.self.items ≡ there c.args.letters.now.items
kept c = filter_same _ (λ (l : Letter). is_some l.text) _ (λ x b f k. search (rules, of_calls)) c.args.letters.now.items c.retain.new.self.items c.retain.ensures.filtered

-- their UIDs
uids : (c : goal.After-retain) → c.close_uids.new.uids.items ≡ uids_of (messages_of (filed c.args.uids.now.items c.args.letters.now.items))
uids c = c.close_uids.ensures ∙ ap (λ (ls : List Letter). uids_of (messages_of (filed c.args.uids.now.items ls))) c.deref.ensures.value

pub returns-clause-messages : goal.returns-clause-messages
returns-clause-messages c =
    let ls = c.args.letters.now.items in
    ap (λ (xs : List Letter). messages_of (filed c.close_uids.new.uids.items xs)) (kept c) ∙ ap (λ (vs : List ℕ). messages_of (filed vs (there ls))) (uids c)
    ∙ messages_there c.args.uids.now.items ls

pub returns-clause-beside : goal.returns-clause-beside
returns-clause-beside c =
    let us = c.args.uids.now.items in
    let ls = c.args.letters.now.items in
    ap length (kept c) ∙ length_there us ls c.requires ∙ sym (ap length (uids c) ∙ length-map (messages_of (filed us ls)) (λ (m : Message). m.uid))
