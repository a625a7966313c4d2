-- LMTP is such a dialogue.
use Rattle.std.specs.Prelude.{◌++◌}
use Rattle.line_io.specs.Wire.{crlf}
use Rattle.lmtp_machine.specs.declared.reply.Reply.{Reply}
use Rattle.lmtp_machine.specs.declared.reply.Reply.TheVariants.{Delivered}
use Rattle.lmtp_machine.specs.Dialogue.{reply_text, Turn, on_event, verdict_reply}
use Rattle.lmtp_machine.specs.Calls.{Tells}
use Rattle.lmtp_machine.specs.Kept.{Kept}
use Rattle.lmtp_machine.specs.Dialogue as dialogue
use Rattle.lmtp_machine.specs.Conversation.{Conversation, Leads, led_by, opened}
use Rattle.house_peers.specs.Speech.{Occasion, Opened, Answered, Speech}

abbrev pub event_of : Occasion → dialogue.Event
event_of Opened = dialogue.Opened
event_of (Answered verdicts) = dialogue.Answered verdicts

abbrev pub lmtp : Speech
lmtp = record {
  At = Conversation;
  Turn = Turn;
  Reply = Reply;
  replies = λ turn. turn.replies;
  submissions = λ turn. turn.submissions;
  text = λ host reply. reply_text host reply ++ crlf;
  telling = verdict_reply;
  delivered = Delivered;
  Leads = Leads;
  Tells = Tells;
  opened = opened;
  moved = λ setting directory at occasion. led_by setting directory at (event_of occasion);
  said = λ setting directory at occasion. (on_event setting directory at.standing (event_of occasion)).replies;
  count = λ at. at.standing.submitted;
  Kept = λ mailboxes at. Kept mailboxes at.standing;
}
