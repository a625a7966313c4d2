-- Whose folders a client of a client slot is shown, and how it comes in.
use Rattle.std.proofs.Common.{◌≡◌, ℕ, Bool, List, Option, Some, ap, subst, ◌∙◌}
use Rattle.imap_session.specs.Exchange.{Admission, Folder}
use Rattle.imap_session.specs.Folders.{admission_of}
use Rattle.imap_stream.specs.Visits.{IsGreeted, Visit}
use Rattle.session_thread.specs.Locks.{LockedStore}

pub greeted_as : (compatible : Bool) (name : List ℕ) (admission : Admission) (most limit : ℕ) (given folders : List Folder) (store own : LockedStore) (taken : Option (List ℕ)) (visit : Visit)
    → admission ≡ admission_of compatible (Some most) name → most ≡ limit → given ≡ folders → store ≡ own
    → IsGreeted admission given store taken visit → IsGreeted (admission_of compatible (Some limit) name) folders own taken visit
greeted_as compatible name admission most limit given folders store own taken visit a m f s greeted =
    subst (λ (d : Admission). IsGreeted d folders own taken visit) (a ∙ ap (λ (n : ℕ). admission_of compatible (Some n) name) m)
    (subst (λ (fs : List Folder). IsGreeted admission fs own taken visit) f (subst (λ (x : LockedStore). IsGreeted admission given x taken visit) s greeted))
