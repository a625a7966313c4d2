-- Messages that stand in a mailbox in the order in which their copies were accepted there and taken from the lane.
use Rattle.std.specs.Prelude.{◌≡◌, ℕ, List, [], ◌∷◌, ◌++◌}
use Rattle.delivery_token.specs.Text.{Text}
use Rattle.delivery_token.specs.declared.CopyKey.{CopyKey}
use Rattle.delivery_token.specs.declared.Job.{Job}

-- The first of these messages is of a copy that was accepted under its UID, and taken for this mailbox with its text; and the others are of copies
-- that were accepted and taken behind that one, in this order. Others may have been accepted and taken between them.
pub data AreInLaneOrder (mailbox : ℕ) : (texts : List (ℕ × Text)) → (accepted : List (CopyKey × ℕ)) → (copies : List Job) → Type 0 where
  none : {accepted : List (CopyKey × ℕ)} {copies : List Job} → AreInLaneOrder mailbox [] accepted copies
  next : {texts : List (ℕ × Text)} {accepted : List (CopyKey × ℕ)} {copies : List Job} (others : List (CopyKey × ℕ)) (meanwhile : List Job)
      (copy : Job) (uid : ℕ)
      → copy.mailbox ≡ mailbox → AreInLaneOrder mailbox texts accepted copies
      → AreInLaneOrder mailbox ((uid, copy.text) ∷ texts) (others ++ (copy.key, uid) ∷ accepted) (meanwhile ++ copy ∷ copies)
