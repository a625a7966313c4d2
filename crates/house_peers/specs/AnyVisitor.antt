-- A session at its seat, whatever it speaks, and what it does by itself with the bytes that came and the verdict that was heard: the messages that it
-- submits go through a lane as copies.
use Rattle.std.specs.Prelude.{◌≡◌, ◌⊎◌, ℕ, Bool, true, false, List, [], ◌∷◌, ◌++◌, Option, Some, None}
use Rattle.std.specs.Option.{is_some}
use Rattle.delivery_token.specs.declared.CopyKey.{CopyKey}
use Rattle.delivery_token.specs.declared.Job.{Job}
use Rattle.delivery_token.specs.declared.Verdict.{Verdict}
use Rattle.delivery_token.specs.declared.log.Noted.{Noted}
use Rattle.delivery_token.specs.Copies.{copies, AreAnswered}
use Rattle.house_peers.specs.Speech.{Guest}

module _ (guest : Guest) where
  -- where its session stands; the bytes that came and aren't answered yet; and what was said and isn't printed yet
  pub record Visitor : Type 0 where
    pub standing : guest.At
    pub waits : List ℕ
    pub unsaid : List ℕ

  -- One that was just let in, and comes in so. Its greeting is still to be printed.
  abbrev pub greeted : guest.Coming → Visitor
  greeted coming = record { standing = guest.opened coming; waits = []; unsaid = guest.greeting coming }

  abbrev pub session_more_waits : Visitor → List ℕ → Visitor
  session_more_waits v piece = record v { waits = v.waits ++ piece }

  -- The session; the serial of its keys; whether its client is gone, in which case nothing more comes, nothing more is said, and it only waits for
  -- its verdict; and the copy of the message that it submitted, where that is still to be put.
  pub record SeatedVisitor : Type 0 where
    pub session : Visitor
    pub serial : ℕ
    pub gone : Bool
    pub to_put : List Job

  -- ---- the message that was submitted: one copy, for one mailbox

  abbrev pub keys_of : (seat serial : ℕ) → Option guest.Sent → List CopyKey
  keys_of seat serial None = []
  keys_of seat serial (Some sent) = record { seat = seat; serial = serial; message = guest.message sent; recipient = 0 } ∷ []

  abbrev pub copies_of : (seat serial : ℕ) → Option guest.Sent → List Job
  copies_of seat serial None = []
  copies_of seat serial (Some sent) = copies (keys_of seat serial (Some sent)) (guest.mailbox sent ∷ []) (guest.text sent) (guest.flags sent)

  -- it awaits the verdict on a message
  abbrev pub sent_by : SeatedVisitor → Option guest.Sent
  sent_by v = guest.sent v.session.standing

  -- its copy was put, and this verdict on it was heard
  abbrev pub IsAnswered : (seat : ℕ) → List Noted → SeatedVisitor → Verdict → Type 0
  IsAnswered seat heard v verdict = AreAnswered heard v.to_put (keys_of seat v.serial (sent_by v)) (verdict ∷ [])

  -- it awaits the verdict on a message, and its seat hasn't heard that
  pub record Awaits (seat : ℕ) (heard : List Noted) (v : SeatedVisitor) : Type 0 where
    pub submitted : is_some (sent_by v) ≡ true
    pub unheard : (verdict : Verdict) → IsAnswered seat heard v verdict → ⊥

  -- it awaits none, or its seat has heard that
  abbrev pub IsSettled : (seat : ℕ) → List Noted → SeatedVisitor → Type 0
  IsSettled seat heard v = (sent_by v ≡ None) ⊎ ((verdict : Verdict) × IsAnswered seat heard v verdict)

  -- ---- what it does

  abbrev pub seated_greeted : (serial : ℕ) → guest.Coming → SeatedVisitor
  seated_greeted serial coming = record { session = greeted coming; serial = serial; gone = false; to_put = [] }

  module _ {S : Type 0} (step : S → guest.Call → guest.Answer → S → Type 0) (seat : ℕ) (v : SeatedVisitor) where
    -- It answers what waits over a store, as far as that goes, and says this. Where that ends with a message, the copy of it is to be put.
    pub record Works (old new : S) (after : SeatedVisitor) (said : List ℕ) : Type 0 where
      pub answers : guest.Answers step v.session.standing v.session.waits old new after.session.standing after.session.waits said
      pub is : after ≡ record v { session = after.session; to_put = copies_of seat v.serial (sent_by after) }

  -- the verdict was answered, and the session stands so
  abbrev pub told : SeatedVisitor → guest.At → SeatedVisitor
  told v next = record v { session = record v.session { standing = next }; to_put = [] }

  module _ {S : Type 0} (step : S → guest.Call → guest.Answer → S → Type 0) (whole : Bool) (seat : ℕ) (heard : List Noted) (v : SeatedVisitor) where
    -- It goes on over a store as far as it can, by what its seat has heard: where a verdict is awaited it waits for that, and answers it; then it
    -- answers what waits. Where its session has ended nothing is answered.
    pub data GoesOn (old new : S) (after : SeatedVisitor) (said : List ℕ) : Type 0 where
      works : sent_by v ≡ None → Works step seat v old new after said → GoesOn old new after said
      answers : (verdict : Verdict) (mid : S) (first second : List ℕ) (how : guest.After) (next : guest.At) → guest.ended v.session.standing ≡ false
          → IsAnswered seat heard v verdict → guest.Hears step v.session.standing verdict old mid first how next
          → Works step seat (told v next) mid new after second → said ≡ first ++ second → GoesOn old new after said
      waits : Awaits seat heard v → new ≡ old → after ≡ v → said ≡ [] → GoesOn old new after said
      -- its session has ended
      rests : guest.ended v.session.standing ≡ true → new ≡ old → after ≡ v → said ≡ [] → GoesOn old new after said
      -- memory was refused before anything was said
      stalls : whole ≡ false → new ≡ old → after ≡ v → said ≡ [] → GoesOn old new after said

  -- its client is gone: what waited and what was still to be printed is dropped
  abbrev pub unread : SeatedVisitor → SeatedVisitor
  unread v = record v { session = record v.session { waits = []; unsaid = [] }; gone = true }
