-- What the turns of sessions do to lanes and to what was heard, whatever these speak: nothing.
use Rattle.std.proofs.Common.{ℕ, Bool, ◌+◌, List, Option}
use Rattle.delivery_token.specs.declared.log.Noted.{Noted}
use Rattle.world.specs.World.{World}
use Rattle.house.specs.AnyScene.{Speaks, lingers, parts, remains, talks}
use Rattle.house.specs.AnyScene as any
use Rattle.house.specs.Setup.{Setup, session_seat}
use Rattle.house_peers.specs.AnyVisitor.{GoesOn, SeatedVisitor, Works, answers, rests, stalls, told, waits, works}
use Rattle.laws_relay.specs.RecordLaws.{AreStill, IsStill, Sessions, peers_of}
use Rattle.laws_relay.proofs.Sessions.{same_world, still_then}

module _ (sessions : Sessions) (still : AreStill sessions) where
  abbrev Seated : Type 0
  Seated = SeatedVisitor sessions.guest

  works_still : (k : Setup) (place seat : ℕ) (v : Seated) (old new : World) (after : Seated) (said : List ℕ)
      → Works sessions.guest (sessions.Meets k.config place) seat v old new after said → IsStill old new
  works_still k place seat v old new after said w = still.answers k.config place v.session.standing after.session.standing v.session.waits after.session.waits said old new w.answers

  goes_on_still : (k : Setup) (place : ℕ) (whole : Bool) (seat : ℕ) (heard : List Noted) (v : Seated) (old new : World) (after : Seated) (said : List ℕ)
      → GoesOn sessions.guest (sessions.Meets k.config place) whole seat heard v old new after said → IsStill old new
  goes_on_still k place whole seat heard v old new after said (works n w) = works_still k place seat v old new after said w
  goes_on_still k place whole seat heard v old new after said (answers verdict mid first second how next goes known a w e) =
      still_then old mid new (still.hears k.config place v.session.standing next verdict how first old mid a) (works_still k place seat (told sessions.guest v next) mid new after second w)
  goes_on_still k place whole seat heard v old new after said (waits awaited same is silent) = same_world old new same
  goes_on_still k place whole seat heard v old new after said (rests over same is silent) = same_world old new same
  goes_on_still k place whole seat heard v old new after said (stalls part same is silent) = same_world old new same

  speaks_still : (k : Setup) (place : ℕ) (whole : Bool) (seat n : ℕ) (heard : List Noted) (w mid : World) (before after : Seated) (printed : List ℕ)
      → Speaks sessions.guest (sessions.Meets k.config place) whole seat n heard before w mid after printed → IsStill w mid
  speaks_still k place whole seat n heard w mid before after printed s = goes_on_still k place whole seat heard before w mid s.spoken s.said s.goes

  pub leaves_still : (k : Setup) (place : ℕ) (w v : World) → any.LeavesMailbox (peers_of sessions) k place w v → IsStill w v
  leaves_still k place w v l = still.meets k.config place w sessions.guest.leave l.0 v l.1

  parts_still : (k : Setup) (whole : Bool) (place : ℕ) (after : Seated) (w v : World) (o : Option Seated) → any.Parts (peers_of sessions) k whole place after w v o → IsStill w v
  parts_still k whole place after w v o (parts ended said l e) = leaves_still k place w v l
  parts_still k whole place after w v o (remains on e f) = same_world w v e

  pub talks_still : (k : Setup) (whole : Bool) (place : ℕ) (heard : List Noted) (w : World) (before : Seated) (v : World) (o : Option Seated) (printed : List ℕ)
      → any.SessionTalks (peers_of sessions) k whole place heard w before v o printed → IsStill w v
  talks_still k whole place heard w before v o printed t =
      still_then w t.mid v (speaks_still k place whole (session_seat k place) (place + 1) heard w t.mid before t.after printed t.speaks) (parts_still k whole place t.after t.mid v o t.left)

  pub goes_still : (k : Setup) (whole : Bool) (place : ℕ) (heard : List Noted) (w : World) (before : Seated) (v : World) (o : Option Seated) (printed : List ℕ)
      → any.SessionGoes (peers_of sessions) k whole place heard w before v o printed → IsStill w v
  goes_still k whole place heard w before v o printed (talks there t) = talks_still k whole place heard w before v o printed t
  goes_still k whole place heard w before v o printed (lingers gone l same silent) = same_world w v same

  pub idles_still : (k : Setup) (whole : Bool) (place : ℕ) (w : World) (before : Seated) (v : World) (o : Option Seated) (printed : List ℕ)
      → any.SessionIdles (peers_of sessions) k whole place w before v o printed → IsStill w v
  idles_still k whole place w before v o printed i =
      still_then w i.mid v (still.idles k.config place before.session.standing i.after.standing i.shown i.idles.said w i.mid i.idles.turned) (parts_still k whole place _ i.mid v o i.left)
