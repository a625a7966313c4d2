-- What a house promises whatever happened in it, where its connections speak LMTP and its sessions IMAP; and what events come to that are tried.
use Rattle.std.specs.Prelude.{◌≡◌, ℕ, ◌⊎◌, true, List, [], ◌∷◌, ◌++◌, Option}
use Rattle.delivery_token.specs.declared.log.Noted.{Noted}
use Rattle.lmtp_machine.specs.declared.reply.Reply.{Reply}
use Rattle.world.specs.World.{World}
use Rattle.house_peers.specs.Caller.{Caller}
use Rattle.house.specs.LmtpAndImap.{lmtp_and_imap}
use Rattle.house.specs.Setup.{Setup}
use Rattle.house.specs.Scene.{HasNothing, Plays, Scene}
use Rattle.house.specs.Steps.{IsBusy, IsNobody}
use Rattle.house.specs.declared.event.Event as house
use Rattle.house.specs.Settling.{BreaksOff}
use Rattle.house.specs.Stands.{StandsFor}
use Rattle.house.specs.House.{House}
use Rattle.exactly_once.specs.AnyPromise as any
pub use Rattle.exactly_once.specs.AnyPromise.{Verdict, Other, Replies, Lines, Silence}

-- ---- the record of a house

abbrev pub Said : Type 0
Said = any.Said lmtp_and_imap

abbrev pub reply_of : Said → Reply
reply_of = any.reply_of lmtp_and_imap

abbrev pub verdict_in : Said → Option Noted
verdict_in = any.verdict_in lmtp_and_imap

abbrev pub Piece : Type 0
Piece = any.Piece lmtp_and_imap

abbrev pub text_of : Setup → Piece → List ℕ
text_of = any.text_of lmtp_and_imap

abbrev pub serial_of : (next : ℕ) → Option Caller → ℕ
serial_of = any.serial_of lmtp_and_imap

abbrev pub HearsItsOwn : Scene → ℕ → List Said → Type 0
HearsItsOwn = any.HearsItsOwn lmtp_and_imap

abbrev pub PutsLines : (k : Setup) (s : Scene) (number n : ℕ) (lines : List (List ℕ)) (t : Scene) → Type 0
PutsLines = any.PutsLines lmtp_and_imap

abbrev pub HearsLines : (k : Setup) (s : Scene) (number n : ℕ) (lines : List (List ℕ)) (t : Scene) → Type 0
HearsLines = any.HearsLines lmtp_and_imap

abbrev pub IsOwn : Setup → Scene → house.Event → Scene → Piece → Type 0
IsOwn = any.IsOwn lmtp_and_imap

abbrev pub Entry : Type 0
Entry = any.Entry lmtp_and_imap

abbrev pub IsEntry : (k : Setup) (before : Scene) (entry : Entry) → Type 0
IsEntry = any.IsEntry lmtp_and_imap

abbrev pub IsRecord : Setup → List Entry → Scene → Scene → Type 0
IsRecord = any.IsRecord lmtp_and_imap

-- ---- exactly once

abbrev pub told_in : ℕ → Piece → List Noted
told_in = any.told_in lmtp_and_imap

abbrev pub verdicts_of : ℕ → List Entry → List Noted
verdicts_of = any.verdicts_of lmtp_and_imap

abbrev pub TellsOnce : (w : World) (entries : List Entry) → Type 0
TellsOnce = any.TellsOnce lmtp_and_imap

abbrev pub NoneTwice : (entries : List Entry) → Type 0
NoneTwice = any.NoneTwice lmtp_and_imap

-- exactly-once delivery, of the events of a new house, of what they led to, and of all that they printed
abbrev pub ExactlyOnce : (k : Setup) (events : List house.Event) (after : Scene) (printed : List ℕ) → Type 0
ExactlyOnce = any.ExactlyOnce lmtp_and_imap

-- ---- events that are tried

-- An event was tried: it happened, or nobody was there, or the place was taken, or there was nothing to do, and then nothing changed.
pub data IsTried (k : Setup) (h : House) (s : Scene) (e : house.Event) (t : Scene) (printed : List ℕ) : Type 0 where
  happens : Plays k true s e t printed → IsTried k h s e t printed
  refused : IsNobody h e ⊎ (IsBusy h e ⊎ HasNothing k s e) → t ≡ s → printed ≡ [] → IsTried k h s e t printed

-- These events were tried, one after another, in a house that stood for the first scene and stands for the last.
abbrev pub EachTried : Setup → List house.Event → House → Scene → House → Scene → List ℕ → Type 0
EachTried k [] h s g t printed = (g ≡ h) × (t ≡ s) × (printed ≡ [])
EachTried k (e ∷ es) h s g t printed = (i : House) × (m : Scene) × (one : List ℕ) × (two : List ℕ)
    × IsTried k h s e m one × StandsFor k i m × EachTried k es i m g t two × (printed ≡ one ++ two)

-- So it was from this scene, and this was appended on the way.
pub record TriedFrom (k : Setup) (es : List house.Event) (h : House) (s : Scene) (g : House) (old new : List ℕ) : Type 0 where
  pub after : Scene
  pub printed : List ℕ
  pub tried : EachTried k es h s g after printed
  pub stands : StandsFor k g after
  pub out : new ≡ old ++ printed

-- Memory was wanting: the first of these events were tried so, and the next one broke off. Those behind it weren't tried.
pub record TriedInPart (k : Setup) (es : List house.Event) (h : House) (s : Scene) (g : House) (old new : List ℕ) : Type 0 where
  pub done : List house.Event
  pub next : house.Event
  pub others : List house.Event
  pub split : es ≡ done ++ next ∷ others
  pub between : House
  pub scene : Scene
  pub one : List ℕ
  pub tried : EachTried k done h s between scene one
  pub after : Scene
  pub two : List ℕ
  pub breaks : BreaksOff k scene next after two
  pub stands : StandsFor k g after
  pub out : new ≡ old ++ one ++ two

-- these are some of the others, in their order
abbrev pub AreSomeOf : List house.Event → List house.Event → Type 0
AreSomeOf [] all = Unit {0}
AreSomeOf (e ∷ some) [] = ⊥
AreSomeOf (e ∷ some) (f ∷ all) = ((e ≡ f) × AreSomeOf some all) ⊎ AreSomeOf (e ∷ some) all

-- In a house that was new some of these events happened, in their order; it stands for what they led to, and this was appended on the way.
pub record CameOnce (k : Setup) (es : List house.Event) (h : House) (old new : List ℕ) : Type 0 where
  pub events : List house.Event
  pub among : AreSomeOf events es
  pub after : Scene
  pub printed : List ℕ
  pub stands : StandsFor k h after
  pub out : new ≡ old ++ printed
  pub once : ExactlyOnce k events after printed
