-- A connection of the house at its seat, whatever it speaks, and what it does by itself with the bytes that came and the verdicts that were heard.
use Rattle.std.specs.Prelude.{◌≡◌, ℕ, ◌<◌, Bool, true, false, List, [], ◌∷◌, ◌++◌, length}
use Rattle.change_ring.specs.Log.{no_flags}
use Rattle.delivery_token.specs.declared.CopyKey.{CopyKey}
use Rattle.delivery_token.specs.declared.Job.{Job}
use Rattle.delivery_token.specs.declared.Verdict.{Verdict}
use Rattle.delivery_token.specs.declared.log.Noted.{Noted}
use Rattle.envelope.specs.Names.{Directory}
use Rattle.lmtp_machine.specs.declared.connection.What.{What}
use Rattle.lmtp_machine.specs.declared.connection.What.TheVariants.{More, Submit, Quit}
use Rattle.lmtp_machine.specs.Dialogue.{Setting, Submission}
use Rattle.delivery_token.specs.Copies.{copies, AreAnswered}
use Rattle.house_peers.specs.Speech.{Occasion, Opened, Answered, Speech, wire}

-- on which terms connections are served: by this directory, with the marks that it has now, with this host's name, and up to so many bytes a message
pub record Terms : Type 0 where
  pub directory : Directory
  pub host : List ℕ
  pub max_message : ℕ

abbrev pub setting_of : Terms → ℕ → ℕ → Setting
setting_of k seat serial = record { seat = seat; serial = serial; max_message = k.max_message }

-- the copies of the messages at hand, of which there is one at most, and their keys. What connections bring has no flags
abbrev pub copies_of : List Submission → List Job
copies_of [] = []
copies_of (s ∷ ss) = copies s.keys s.mailboxes s.text no_flags ++ copies_of ss

abbrev pub keys_of : List Submission → List CopyKey
keys_of [] = []
keys_of (s ∷ ss) = s.keys ++ keys_of ss

module _ (speech : Speech) where
  -- where the dialogue stands; the bytes that came and are not taken yet; what was said and is not printed yet; the message whose
  -- verdicts are awaited, if there is one
  pub record Talk : Type 0 where
    pub at : speech.At
    pub waits : List ℕ
    pub unsaid : List ℕ
    pub pending : List Submission

  module _ (setting : Setting) (directory : Directory) where
    -- Some of the bytes that waited, taken in their order, lead from the one talk to the other; this turn is said and submitted on the way.
    pub record WorksOff (before : Talk) (turn : speech.Turn) (what : What) (after : Talk) : Type 0 where
      pub taken : List ℕ
      pub waited : before.waits ≡ taken ++ after.waits
      pub leads : speech.Leads setting directory before.at taken turn after.at
      pub tells : speech.Tells what turn
      pub submits : after.pending ≡ speech.submissions turn

  -- a connection at a seat: its serial, its talk, and the copies of the message at hand that are still to be put. Its peer may be gone:
  -- then nothing more comes, nothing more is said, and it only waits for its verdicts.
  pub record Caller : Type 0 where
    pub serial : ℕ
    pub gone : Bool
    pub talk : Talk
    pub to_put : List Job

  -- every copy of the message at hand was put, and for each a verdict was heard
  abbrev pub IsAnswered : List Noted → Caller → List Verdict → Type 0
  IsAnswered heard b verdicts = AreAnswered heard b.to_put (keys_of b.talk.pending) verdicts

  module _ (k : Terms) (whole : Bool) (seat : ℕ) where
    -- It takes what waits, as far as that goes: what it says stands behind what it had still to say. `whole` says that memory wasn't wanting.
    pub record Works (b : Caller) (what : What) (after : Caller) : Type 0 where
      pub turn : speech.Turn
      pub talk : Talk
      pub works : WorksOff (setting_of k seat b.serial) k.directory b.talk turn what talk
      pub said : talk.unsaid ≡ b.talk.unsaid ++ wire speech k.host (speech.replies turn)
      pub all : whole ≡ true → what ≡ More → talk.waits ≡ []
      pub is : after ≡ record b { talk = talk; to_put = copies_of (speech.submissions turn) }

  -- something that isn't a line happens to the dialogue, before more is worked off
  abbrev pub meets : Terms → ℕ → Caller → Occasion → Caller
  meets k seat b event =
      let setting = setting_of k seat b.serial in
      record b {
        to_put = [];
        talk = record b.talk {
          at = speech.moved setting k.directory b.talk.at event;
          unsaid = b.talk.unsaid ++ wire speech k.host (speech.said setting k.directory b.talk.at event);
          pending = [];
        };
      }

  abbrev pub more_waits : Caller → List ℕ → Caller
  more_waits b piece = record b { talk = record b.talk { waits = b.talk.waits ++ piece } }

  -- a new connection at a seat, which is greeted
  abbrev pub greeted : Terms → ℕ → ℕ → Caller
  greeted k seat serial = meets k seat (record {
    serial = serial;
    gone = false;
    to_put = [];
    talk = record { at = speech.opened; waits = []; unsaid = []; pending = [] };
  }) Opened

  -- so much of what it said is still to be printed
  abbrev pub with_unsaid : List ℕ → Caller → Caller
  with_unsaid unsaid b = record b { talk = record b.talk { unsaid = unsaid } }

  module _ (k : Terms) (whole : Bool) (seat : ℕ) where
    -- It goes on as far as it can, by what its seat has heard: where verdicts are awaited it waits for the last one, and says them all; then it
    -- takes what waits.
    pub data GoesOn (heard : List Noted) (b : Caller) (what : What) (after : Caller) : Type 0 where
      works : b.talk.pending ≡ [] → Works k whole seat b what after → GoesOn heard b what after
      waits : 0 < length b.talk.pending → ((vs : List Verdict) → IsAnswered heard b vs → ⊥) → what ≡ Submit → after ≡ b → GoesOn heard b what after
      answers : (vs : List Verdict) → 0 < length b.talk.pending → IsAnswered heard b vs → Works k whole seat (meets k seat b (Answered vs)) what after
          → GoesOn heard b what after
      -- memory was refused before anything was said
      stalls : whole ≡ false → what ≡ More → after ≡ b → GoesOn heard b what after

    -- It does what it can now: it goes on; or, where its peer is gone, it has nothing to say, and is done as soon as every copy was put and each
    -- verdict is heard.
    pub data Proceeds (heard : List Noted) (b : Caller) (what : What) (after : Caller) : Type 0 where
      talks : b.gone ≡ false → GoesOn heard b what after → Proceeds heard b what after
      lingers : b.gone ≡ true → b.talk.unsaid ≡ [] → ((vs : List Verdict) → IsAnswered heard b vs → ⊥) → what ≡ Submit → after ≡ b
          → Proceeds heard b what after
      fades : (vs : List Verdict) → b.gone ≡ true → b.talk.unsaid ≡ [] → IsAnswered heard b vs → what ≡ Quit → after ≡ b → Proceeds heard b what after

  -- the peer is gone: what waited and what was still to be printed is dropped
  abbrev pub unread : Caller → Caller
  unread b = record b { gone = true; talk = record b.talk { waits = []; unsaid = [] } }
