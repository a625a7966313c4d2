-- One life is lived, in which a client knows newer flags than those that its session was shown.
use Rattle.std.proofs.Common.{[], ◌∷◌, refl, arith, inl}
use Rattle.std.specs.Prelude.{codes, false, true, Some}
use Rattle.std.specs.Fmt.{digits}
use Rattle.change_ring.specs.Log.{no_flags}
use Rattle.change_ring.specs.declared.change.Change.TheVariants.{Add, Flags as SetFlags}
use Rattle.change_ring.specs.declared.change.Flags.{Flags}
use Rattle.change_ring.specs.declared.flag_op.FlagOp.TheVariants.{Insert}
use Rattle.imap_grammar.specs.Reading.{read}
use Rattle.imap_grammar.specs.declared.set.SeqNumber.TheVariants.{Number}
use Rattle.imap_session.specs.declared.standing.After.TheVariants.{Go}
use Rattle.imap_session.specs.Exchange.{Alter, Altered, Look, Looked, Turn}
use Rattle.world.specs.World.{Box, mails}
use Rattle.world.specs.First.{one_copy}
use Rattle.imap_session.specs.Happenings.{Line}
use Rattle.laws_client.specs.HouseClients.{turns}
use Rattle.laws_client.specs.RecordLife.{one_last}
use Rattle.laws_client.proofs.Bytes.{uncut}
use Rattle.laws_client.proofs.RecordOneLife.{one_life_is_lived, selects, shows_it}
use Rattle.laws_client.specs.FlagLife.{OneLifeKnowsFlags}

abbrev flagged : Flags
flagged = record no_flags { flagged = true }

abbrev marked : Box
marked = record { log = Add 1 ∷ SetFlags 1 flagged ∷ []; base = 0; accepted = (one_copy, 1) ∷ [] }

sets_it : Turn
sets_it = record {
  events = record { call = Look false (record { from = Number 1; to = Number 1 } ∷ []); answer = Looked (1 ∷ []) } ∷ record { call = Alter 1 (Insert flagged); answer = Altered (Some flagged) } ∷ [];
  bytes = codes "* 1 FETCH (FLAGS (\\Flagged))\r\na3 OK STORE completed\r\n";
  after = Go;
  standing = one_last;
}

pub one_life_knows_flags : OneLifeKnowsFlags
unfolding read digits selects shows_it one_life_is_lived sets_it
one_life_knows_flags = (
  _,
  turns
      one_life_is_lived.1
      (Line (codes "a3 STORE 1 +FLAGS (\\Flagged)") (Looked (1 ∷ []) ∷ Altered (Some flagged) ∷ [])) (codes "a3 STORE 1 +FLAGS (\\Flagged)\r\n") sets_it _ (refl, refl, omega arith, uncut (codes "a3 STORE 1 +FLAGS (\\Flagged)") refl) refl tt refl (
        _,
        (refl, (_, refl, refl)),
        (
          _,
          (
            (_, refl, mails marked (omega arith) (record { room = omega arith; log = refl; base = inl refl; accepted = refl }) refl),
            (
              _,
              refl,
              (
                record { kept = omega arith; mailbox = marked; logs = record { room = omega arith; log = refl; base = inl refl; accepted = refl }; made = refl },
                (omega arith, refl),
              ),
            ),
          ),
          refl,
        ),
      ),
  refl,
  refl,
)
