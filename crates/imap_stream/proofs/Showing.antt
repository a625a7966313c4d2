-- Turns of a session that idles, and what stands behind them.
use Rattle.std.proofs.Common.{◌≡◌, ℕ, true, List, refl, sym, subst}
use Rattle.imap_session.specs.Exchange.{is_idling}
use Rattle.imap_session.specs.Dialogue.{Dialogue, ImapConnection, StandsFor}
use Rattle.session_thread.specs.Locks.{LockedStore}
use Rattle.session_thread.specs.Life.{HasShown, IsShortInTurn, Moment, moment}
use Rattle.session_thread.proofs.Living.{idle_of}
use Rattle.workers_sync.specs.Carried.{Carried}
use Rattle.workers_sync.specs.declared.courier.Lost.TheVariants as lost
use Rattle.session_thread.specs.Life.{Says}
use Rattle.imap_stream.specs.Visits.{GoesOnShowing, Hears, HearsInPart, ShowsAll, ShowsInPart, nothing_left, within_turns}

pub shows_in_part : (room : ℕ) (first : Moment) (d : Dialogue) (old new : LockedStore) (before after : List ℕ) (was : ImapConnection) → StandsFor was d → is_idling was.session ≡ true → GoesOnShowing first (moment d old before)
    → moment d new after ≡ moment d old before → IsShortInTurn room (moment d new after) → ShowsInPart room first (moment d new after)
shows_in_part room first d old new before after was s idles showed same short = record {
  showed = subst (λ (m : Moment). GoesOnShowing first m) (sym same) showed;
  idles = idle_of d was s idles;
  short = short;
}

pub shows_all : (count : ℕ) (first now last : Moment) → GoesOnShowing first now → HasShown count now last → count ≡ 0 → ShowsAll first last
shows_all count first now last showed had none = nothing_left now showed (subst (λ (k : ℕ). HasShown k now last) none had)

-- ---- turns behind a piece

pub heard : (piece : List ℕ) (carried : List Carried) (old middle new : LockedStore) (before between after : List ℕ) (was link last : ImapConnection)
    → ((d : Dialogue) → StandsFor was d → (next : Dialogue) × StandsFor link next × Says piece carried (moment d old before) (moment next middle between))
    → ((d : Dialogue) → StandsFor link d → (next : Dialogue) × StandsFor last next × ShowsAll (moment d middle between) (moment next new after))
    → (d : Dialogue) → StandsFor was d → (next : Dialogue) × StandsFor last next × Hears piece carried (moment d old before) (moment next new after)
heard piece carried old middle new before between after was link last said shown d s =
    let t = said d s in
    let n = shown t.0 t.1 in (n.0, n.1, record { between = moment t.0 middle between; says = t.2; shows = n.2 })

pub heard_in_part : (room : ℕ) (piece : List ℕ) (carried : List Carried) (old middle new : LockedStore) (before between after : List ℕ) (was link last : ImapConnection)
    → ((d : Dialogue) → StandsFor was d → (next : Dialogue) × StandsFor link next × Says piece carried (moment d old before) (moment next middle between))
    → ((d : Dialogue) → StandsFor link d → (next : Dialogue) × StandsFor last next × ShowsInPart room (moment d middle between) (moment next new after))
    → (d : Dialogue) → StandsFor was d → (next : Dialogue) × StandsFor last next × HearsInPart room piece lost.NoMemory (moment d old before) (moment next new after)
heard_in_part room piece carried old middle new before between after was link last said shown d s =
    let t = said d s in
    let n = shown t.0 t.1 in (n.0, n.1, within_turns (moment t.0 middle between) carried t.2 n.2 refl)
