-- IMAP is such a dialogue.
use Rattle.std.specs.Prelude.{◌≡◌, ◌<◌, ℕ, true, false, List, [], ◌++◌, flat_map, Some}
use Rattle.line_io.specs.Wire.{IsUncut}
use Rattle.imap_session.specs.declared.standing.After.{After}
use Rattle.imap_session.specs.Exchange.{Admission, Call, Answer, Folder, Leave, Sent, Standing, begun_with, is_idling, may_send}
use Rattle.imap_session.specs.Commands.{due_of, greeting}
use Rattle.imap_session.specs.Store.{AnswersVerdict, IdleTurns}
use Rattle.imap_session.specs.Dialogue.{Converses, Sends, may_follow, spelled}
use Rattle.imap_session.specs.Folders.{admission_of, folders_of}
use Rattle.house_peers.specs.Speech.{Guest}

module _ {S : Type 0} (step : S → Call → Answer → S → Type 0) (at : Standing) (waits : List ℕ) (old new : S) where
  -- some of the bytes that waited were answered over a store, in their order, and this was said
  pub record AnswersBytes (next : Standing) (still said : List ℕ) : Type 0 where
    pub sent : List Sends
    pub how : After
    pub waited : waits ≡ flat_map spelled sent ++ still
    pub converses : Converses step at sent old new said how next

abbrev pub imap : Guest
imap = record {
  At = Standing;
  ended = λ at. at.ended;
  idling = is_idling;
  Coming = Admission × List Folder;
  comes = λ directory compatible max_message user. (admission_of compatible (Some max_message) user, folders_of directory user);
  opened = λ coming. begun_with coming.0 coming.1;
  greeting = λ coming. greeting coming.0.profile;
  Sent = Sent;
  sent = λ at. at.mailing.sent;
  message = λ sent. sent.append.message;
  mailbox = λ sent. sent.append.mailbox;
  text = λ sent. sent.append.text;
  flags = λ sent. sent.append.flags;
  Call = Call;
  Answer = Answer;
  leave = Leave false;
  After = After;
  Answers = AnswersBytes;
  Hears = λ step at verdict old new said how next. AnswersVerdict step at verdict old new [] said how next;
  Idles = λ step at old new shown said next. IdleTurns step at old new [] said shown next;
  -- no line, and no byte where bytes of a literal are due; a session that has ended, or awaits a verdict, answers nothing
  HasAnswered = λ at waits. may_follow (may_send at) ≡ true → IsUncut waits × (0 < due_of at.mailing.begun → waits ≡ []);
}
