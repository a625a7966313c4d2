-- Talks, as they go: a copy has come, and a NOOP shows it; a client appends a message to the mailbox that it selected.
use Rattle.std.specs.Prelude.{codes, true, false, [], ◌∷◌, None, Some}
use Rattle.std.proofs.Common.{refl, arith}
use Rattle.change_ring.specs.declared.change.Change.TheVariants.{Add}
use Rattle.std.specs.Fmt.{digits}
use Rattle.imap_grammar.specs.Reading.{read}
use Rattle.change_ring.specs.Log.{no_flags}
use Rattle.delivery_token.specs.declared.Verdict.TheVariants.{Stored}
use Rattle.delivery_token.specs.Text.{undated}
use Rattle.mailbox.specs.declared.mailbox.Status.{Status}
use Rattle.imap_session.specs.declared.standing.After.TheVariants.{Go, Submit}
use Rattle.imap_session.specs.declared.standing.After.TheVariants as afters
use Rattle.imap_session.specs.Commands.{unlimited, with_bytes, without_begun, without_sent}
use Rattle.imap_session.specs.declared.standing.Profile.TheVariants.{Standard}
use Rattle.imap_session.specs.Exchange.{Count, Counted, Fed, Feed, ForLiteral, ForVerdict, Message, Standing, begun_with, waiting, Unasked, Client}
use Rattle.laws_client.specs.Talks.{Talks}
use Rattle.imap_session.specs.Happenings.{Heard, Line, Literal}

abbrev pub selected : Standing
selected = record (begun_with (record { most = Some 10; profile = Standard; login = None }) []) { selected = Some (record { mailbox = 0; read_only = false }) }

a_noop : Talks selected [] (Line (codes "a1 NOOP") (Fed [] (Add 1 ∷ []) ∷ []) ∷ []) (codes "* 1 EXISTS\r\na1 OK NOOP completed\r\n") (1 ∷ [])
unfolding read digits
a_noop = (
  record { events = record { call = Feed unlimited; answer = Fed [] (Add 1 ∷ []) } ∷ []; bytes = codes "* 1 EXISTS\r\na1 OK NOOP completed\r\n"; after = Go; standing = selected },
  1 ∷ [],
  [],
  record { stays = refl; numbered = record { few = omega arith; small = tt }; names = tt; parts = tt },
  refl,
  (1 ∷ [], record { leads = (refl, refl); fits = record { fits = (tt, tt); printed = tt; few = omega arith } }, refl),
  refl,
  (refl, refl),
)

-- its session, as the message comes: the literal is due, its byte is there, it is submitted, and the verdict was heard
abbrev pub with_inbox : Standing
with_inbox = record selected { folders = record { name = codes "INBOX"; mailbox = 0 } ∷ [] }

abbrev pub due : Standing
due = waiting (codes "a1") (ForLiteral Unasked (Message (Some 0) no_flags None) 1) with_inbox

abbrev pub come : Standing
come = with_bytes true (codes "x") due

abbrev pub submitted : Standing
submitted = waiting (codes "a1") (ForVerdict Client 0 no_flags (undated (codes "x"))) (without_begun come)

abbrev pub counted : Status
counted = record { messages = 1; uidnext = 2; uidvalidity = 7; unseen = 1; deleted = 0; size = 1 }

an_append : Talks with_inbox []
    (Line (codes "a1 APPEND INBOX {1+}") [] ∷ Literal true (codes "x") ∷ Line [] [] ∷ Heard (Stored 1) (Counted counted ∷ Fed [] (Add 1 ∷ []) ∷ []) ∷ [])
    (codes "* 1 EXISTS\r\na1 OK [APPENDUID 7 1] APPEND completed\r\n") (1 ∷ [])
unfolding read digits
an_append = (
  record { events = []; bytes = []; after = afters.Literal 1; standing = due },
  [],
  codes "* 1 EXISTS\r\na1 OK [APPENDUID 7 1] APPEND completed\r\n",
  record {
    stays = refl;
    numbered = record { few = omega arith; small = tt };
    names = (record { front = codes "INBO"; last = 88; is = refl; no_count = refl; inner = refl }, tt);
    parts = tt;
  },
  refl,
  refl,
  refl,
  (
    record { events = []; bytes = []; after = afters.Literal 0; standing = come },
    [],
    codes "* 1 EXISTS\r\na1 OK [APPENDUID 7 1] APPEND completed\r\n",
    tt,
    refl,
    refl,
    refl,
    (
      record { events = []; bytes = []; after = Submit; standing = submitted },
      [],
      codes "* 1 EXISTS\r\na1 OK [APPENDUID 7 1] APPEND completed\r\n",
      tt,
      refl,
      refl,
      refl,
      (
        record {
          events = record { call = Count 0; answer = Counted counted } ∷ record { call = Feed unlimited; answer = Fed [] (Add 1 ∷ []) } ∷ [];
          bytes = codes "* 1 EXISTS\r\na1 OK [APPENDUID 7 1] APPEND completed\r\n";
          after = Go;
          standing = without_sent submitted;
        },
        1 ∷ [],
        [],
        omega arith,
        refl,
        (
          [],
          record { leads = refl; fits = record { messages = omega arith; uidnext = omega arith; uidvalidity = omega arith; unseen = omega arith; deleted = omega arith; size = omega arith } },
          (1 ∷ [], record { leads = (refl, refl); fits = record { fits = (tt, tt); printed = tt; few = omega arith } }, refl),
        ),
        refl,
        (refl, refl),
      ),
    ),
  ),
)
