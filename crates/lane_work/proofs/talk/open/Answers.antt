use Rattle.std.proofs.Common.{◌++◌, ◌∙◌, ◌∷◌, [], ap, sym}
use Rattle.lmtp_machine.specs.declared.reply.Reply.TheVariants.{Greeting}
use Rattle.lmtp_machine.specs.Conversation.{opened}
use Rattle.lmtp_machine.specs.Dialogue.{wire}
use Rattle.lane_work.proofs.talk.open.Goals as goal

pub returns-clause-stands : goal.returns-clause-stands
returns-clause-stands g c = (c.in_ok-greet.ensures.ok c.args.intake.now.directory opened c.in_ok-machine.ensures.stands).stands

pub returns-clause-greeted : goal.returns-clause-greeted
returns-clause-greeted g c =
    (c.in_ok-greet.ensures.ok c.args.intake.now.directory opened c.in_ok-machine.ensures.stands).said ∙ ap (λ l. l ++ wire c.in_ok-machine.machine.host (Greeting ∷ [])) c.requires.none
    ∙ ap (λ h. wire h (Greeting ∷ [])) (sym c.in_ok-greet.ensures.same.1)
