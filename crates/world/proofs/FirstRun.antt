-- One run leads to a world.
use Rattle.std.proofs.Common.{◌≡◌, [], ◌∷◌, refl, arith, inl, Some}
use Rattle.shard_queue.specs.declared.lane.Entry.TheVariants.{Item}
use Rattle.change_ring.specs.declared.change.Change.TheVariants.{Add}
use Rattle.world.specs.World.{World, Box, put_joins, takes, delivers, answers, hears_one, enters, mails, IsWorld}
use Rattle.world.specs.First.{one_house, one_copy, one_reply, one_run}

abbrev pub box : Box
box = record { log = Add 1 ∷ []; base = 0; accepted = (one_copy, 1) ∷ [] }

pub one_run_leads : (w : World) × IsWorld one_house one_run w × (w.heard 0 ≡ one_reply ∷ []) × (w.box 0 ≡ box) × (w.session 0 ≡ Some (record { mailbox = 0; start = 0; cursor = 1; shown = Add 1 ∷ [] }))
one_run_leads = (
  _,
  (
    _,
    enters (omega arith) (omega arith) refl (omega arith) refl,
    (
      _,
      put_joins (record { seat = omega arith; own = refl; mailbox = omega arith; shard = (omega arith, refl); above_sent = λ t i d l. absurd (omega arith); above_heard = λ i d l. absurd (omega arith) }) refl (omega arith) refl,
      (
        _,
        takes (Item 0 one_copy) [] refl refl refl,
        (
          _,
          delivers one_copy box refl (omega arith, omega arith) (omega arith) (record { room = omega arith; log = refl; base = inl refl; accepted = refl }) refl,
          (
            _,
            answers one_reply refl (omega arith) refl,
            (
              _,
              hears_one 0 one_reply [] refl refl,
              (
                _,
                (_, refl, mails box (omega arith) (record { room = omega arith; log = refl; base = refl; accepted = refl }) refl),
                refl,
              ),
            ),
          ),
        ),
      ),
    ),
  ),
  refl,
  refl,
  refl,
)
