-- One life is lived.
use Rattle.std.proofs.Common.{[], ◌∷◌, refl, arith, inl}
use Rattle.std.specs.Prelude.{codes}
use Rattle.std.specs.Fmt.{digits}
use Rattle.shard_queue.specs.declared.lane.Entry.TheVariants.{Item}
use Rattle.change_ring.specs.declared.change.Change.TheVariants.{Add}
use Rattle.imap_grammar.specs.Reading.{read}
use Rattle.imap_session.specs.declared.standing.After.TheVariants.{Go}
use Rattle.imap_session.specs.Exchange.{Enter as EnterCall, Entered, Fed, Feed as FeedCall, Turn}
use Rattle.imap_session.specs.Commands.{unlimited}
use Rattle.world.specs.World.{Put, Take, Deliver, Answer as AnswerEvent, Hear, put_joins, takes, delivers, answers, hears_one, enters, mails}
use Rattle.world.specs.First.{one_copy, one_reply}
use Rattle.imap_session.specs.Happenings.{Line}
use Rattle.laws_client.specs.HouseClients.{comes, turns, others}
use Rattle.laws_client.specs.RecordLife.{OneLifeIsLived, one_last}
use Rattle.world.proofs.FirstRun.{box}
use Rattle.laws_client.proofs.Bytes.{uncut}

unfoldable pub selects : Turn
selects = record {
  events = record { call = EnterCall 0; answer = Entered (record { count = 0; uidvalidity = 1; uidnext = 1 }) } ∷ [];
  bytes = codes "* FLAGS (\\Answered \\Flagged \\Deleted \\Seen \\Draft)\r\n* 0 EXISTS\r\n* OK [UIDVALIDITY 1] UIDs valid\r\n* OK [UIDNEXT 1] Predicted next UID\r\n* OK [PERMANENTFLAGS (\\Answered \\Flagged \\Deleted \\Seen \\Draft)] Flags kept\r\n* LIST () \"/\" INBOX\r\na1 OK [READ-WRITE] SELECT completed\r\n";
  after = Go;
  standing = one_last;
}

unfoldable pub shows_it : Turn
shows_it = record { events = record { call = FeedCall unlimited; answer = Fed [] (Add 1 ∷ []) } ∷ []; bytes = codes "* 1 EXISTS\r\na2 OK NOOP completed\r\n"; after = Go; standing = one_last }

unfoldable pub one_life_is_lived : OneLifeIsLived
unfolding read digits selects shows_it
one_life_is_lived = (
  _,
  turns
      (others
      (others
      (others
      (others
      (others
      (turns comes (Line (codes "a1 SELECT INBOX") (Entered (record { count = 0; uidvalidity = 1; uidnext = 1 }) ∷ [])) (codes "a1 SELECT INBOX\r\n") selects _ (refl, refl, omega arith, uncut (codes "a1 SELECT INBOX") refl) refl tt refl
      (_, (enters (omega arith) (omega arith) refl (omega arith) refl, (_, refl, refl), (refl, refl), refl), refl))
      (Put 0 0 one_copy) _ tt
      (put_joins (record { seat = omega arith; own = refl; mailbox = omega arith; shard = (omega arith, refl); above_sent = λ t i d l. absurd (omega arith); above_heard = λ i d l. absurd (omega arith) }) refl (omega arith) refl))
      (Take 0) _ tt (takes (Item 0 one_copy) [] refl refl refl))
      (Deliver 0) _ tt (delivers one_copy box refl (omega arith, omega arith) (omega arith) (record { room = omega arith; log = refl; base = inl refl; accepted = refl }) refl))
      (AnswerEvent 0) _ tt (answers one_reply refl (omega arith) refl))
      (Hear 0) _ tt (hears_one 0 one_reply [] refl refl))
      (Line (codes "a2 NOOP") (Fed [] (Add 1 ∷ []) ∷ [])) (codes "a2 NOOP\r\n") shows_it _ (refl, refl, omega arith, uncut (codes "a2 NOOP") refl) refl tt refl (
        _,
        (
          (_, refl, mails box (omega arith) (record { room = omega arith; log = refl; base = refl; accepted = refl }) refl),
          (
            _,
            refl,
            (
              record { kept = omega arith; mailbox = box; logs = record { room = omega arith; log = refl; base = refl; accepted = refl }; made = refl },
              record { kept = omega arith; counted = refl; handed = refl },
            ),
          ),
        ),
        refl,
      ),
  refl,
  refl,
)
