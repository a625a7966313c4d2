-- What each event of the house prints and leads to, and many of them, where connections speak LMTP and sessions IMAP.
use Rattle.std.proofs.Common.{◌≡◌, ℕ, Bool, false, List, ◌++◌, Option}
use Rattle.delivery_token.specs.declared.log.Noted.{Noted}
use Rattle.world.specs.World.{Config, World}
use Rattle.world.specs.Law.{Headline}
use Rattle.house_peers.specs.Visitor.{SeatedVisitor}
use Rattle.house.specs.LmtpAndImap.{lmtp_and_imap}
use Rattle.house.specs.Meets.{Meets}
use Rattle.house.specs.Setup.{Reached, Setup}
use Rattle.house.specs.Printing.{Speaks}
use Rattle.house.specs.Scene.{Parts, Plays, Scene, empty_scene}
use Rattle.house.specs.Settling.{Happened}
use Rattle.house.specs.declared.event.Event.{Event}
use Rattle.exactly_once.specs.Promise.{Entry, ExactlyOnce, IsRecord, NoneTwice, Piece, TellsOnce, verdicts_of}
use Rattle.exactly_once.proofs.AnyGoing as any
use Rattle.exactly_once.proofs.Imap.{imap_is}
use Rattle.exactly_once.proofs.Lines.{goes_both}
use Rattle.exactly_once.proofs.Lmtp.{lmtp_is}
pub use Rattle.exactly_once.proofs.AnyGoing.{below_itself, none_yet}

abbrev pub SceneOk : (k : Setup) (told : ℕ → List Noted) (s : Scene) → Type 0
SceneOk = any.SceneOk lmtp_and_imap lmtp_is imap_is

abbrev pub with_piece : (ℕ → List Noted) → Piece → ℕ → List Noted
with_piece = any.with_piece lmtp_and_imap lmtp_is imap_is

abbrev pub Did : (k : Setup) (told : ℕ → List Noted) (s : Scene) (e : Event) (t : Scene) (printed : List ℕ) → Type 0
Did = any.Did lmtp_and_imap lmtp_is imap_is

abbrev pub Went : (k : Setup) (told : ℕ → List Noted) (s t : Scene) (printed : List ℕ) → Type 0
Went = any.Went lmtp_and_imap lmtp_is imap_is

abbrev pub WentBy : (k : Setup) (told : ℕ → List Noted) (es : List Event) (s t : Scene) (printed : List ℕ) → Type 0
WentBy = any.WentBy lmtp_and_imap lmtp_is imap_is

pub told_same : (k : Setup) (told more : ℕ → List Noted) (s : Scene) → ((p : ℕ) → told p ≡ more p) → SceneOk k told s → SceneOk k more s
told_same = any.told_same lmtp_and_imap lmtp_is imap_is

pub speaks_reached : (k : Config) (place : ℕ) (whole : Bool) (seat n : ℕ) (heard : List Noted) (w mid : World) (before after : SeatedVisitor) (printed : List ℕ) → Speaks (Meets k place) whole seat n heard before w mid after printed → Reached k w mid
speaks_reached k place whole seat n heard w mid before after printed s = (goes_both lmtp_and_imap imap_is k place whole seat heard before w mid s.spoken s.said s.goes).1

pub parts_reached : (k : Setup) (whole : Bool) (place : ℕ) (after : SeatedVisitor) (w v : World) (o : Option SeatedVisitor) → Parts k whole place after w v o → Reached k.config w v
parts_reached = any.parts_reached lmtp_and_imap lmtp_is imap_is

pub plays_did : (k : Setup) (told : ℕ → List Noted) (s : Scene) (e : Event) (t : Scene) (printed : List ℕ) → SceneOk k told s → Plays k false s e t printed → Did k told s e t printed
plays_did = any.plays_did lmtp_and_imap lmtp_is imap_is

pub entry_went : (k : Setup) (told : ℕ → List Noted) (s : Scene) (e : Event) (t : Scene) (printed : List ℕ) → Plays k false s e t printed → Did k told s e t printed → Went k told s t printed
entry_went = any.entry_went lmtp_and_imap lmtp_is imap_is

pub record_append : (k : Setup) (es fs : List Entry) (s m t : Scene) → IsRecord k es s m → IsRecord k fs m t → IsRecord k (es ++ fs) s t
record_append = any.record_append lmtp_and_imap lmtp_is imap_is

pub verdicts-append : (p : ℕ) (es fs : List Entry) → verdicts_of p (es ++ fs) ≡ verdicts_of p es ++ verdicts_of p fs
verdicts-append = any.verdicts-append lmtp_and_imap lmtp_is imap_is

pub happened_went : (k : Setup) (told : ℕ → List Noted) (es : List Event) (s t : Scene) (printed : List ℕ) → SceneOk k told s → Happened k es s t printed → WentBy k told es s t printed
happened_went = any.happened_went lmtp_and_imap lmtp_is imap_is

pub nobody_ok : (k : Setup) → SceneOk k none_yet (empty_scene k)
nobody_ok = any.nobody_ok lmtp_and_imap lmtp_is imap_is

pub tells_once : (k : Setup) (t : Scene) (entries : List Entry) → Headline k.config t.world → SceneOk k (λ p. verdicts_of p entries) t → TellsOnce t.world entries
tells_once = any.tells_once lmtp_and_imap lmtp_is imap_is

pub none_twice : (w : World) (entries : List Entry) → TellsOnce w entries → NoneTwice entries
none_twice = any.none_twice lmtp_and_imap

pub happened_once : (k : Setup) (es : List Event) (t : Scene) (printed : List ℕ) → Happened k es (empty_scene k) t printed → ExactlyOnce k es t printed
happened_once = any.happened_once lmtp_and_imap lmtp_is imap_is
