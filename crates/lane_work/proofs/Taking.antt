-- A piece, turn by turn.
use Rattle.std.proofs.Common.{◌≡◌, ◌⊎◌, ℕ, ◌-◌, ◌+◌, ◌++◌, ◌∙◌, ap, refl, sym, subst, List, [], length, take, drop, Bool, true, false, append_assoc, append-nil, length-append, ◌<◌, arith, Result, Ok, Err}
use Rattle.delivery_token.specs.declared.Job.{Job}
use Rattle.delivery_token.specs.declared.Verdict.{Verdict}
use Rattle.delivery_token.specs.declared.log.Noted.{Noted}
use Rattle.envelope.specs.Names.{Directory}
use Rattle.lmtp_machine.specs.Dialogue.{Setting, wire}
use Rattle.lmtp_machine.specs.LmtpMachine.{LmtpMachine}
use Rattle.shard_queue.specs.declared.lane.Entry.{Entry}
use Rattle.shard_queue.specs.Shared.{IsStartOf}
use Rattle.lane_work.specs.Talk.{Judged, HasTaken}
use Rattle.lane_work.specs.Account.{AreBooks, Room, told}
use Rattle.lane_work.specs.declared.worker.Stop.{Stop}
use Rattle.lane_work.specs.Speaking.{Stands}
use Rattle.lane_work.proofs.TalkLaws.{piece_more, split_there}
use Rattle.lane_work.specs.declared.piece.Next.{Next}
use Rattle.lane_work.specs.declared.piece.Next.TheVariants as nexts
use Rattle.lane_work.specs.inner.Pieces.{TookPiece, SaidByThen}

module _ (d : Directory) (rooms : List Room) (p : ℕ) (done : List Judged) (bytes piece : List ℕ) (m : LmtpMachine) (out : List ℕ) (keeps : List (Job × Verdict) → Type 0) (heard : List (Entry Noted)) (sent : List (List (Entry Job))) where
  -- one turn more
  pub turned : (used more : ℕ) (over : Bool) → Stands d d rooms p done ((bytes ++ take used piece) ++ take more (take (length piece - used) (drop used piece))) over m out keeps heard sent
      → Stands d d rooms p done (bytes ++ take (used + more) piece) over m out keeps heard sent
  turned used more over = subst (λ l. Stands d d rooms p done l over m out keeps heard sent)
      (append_assoc bytes (take used piece) (take more (take (length piece - used) (drop used piece))) ∙ ap (λ l. bytes ++ l) (piece_more piece used more))

  -- so far it was taken
  pub took : (used : ℕ) (over : Bool) (next : Next) → (next ≡ nexts.Read → (drop used piece ≡ []) ⊎ (over ≡ true))
      → Stands d d rooms p done (bytes ++ take used piece) over m out keeps heard sent
      → TookPiece d rooms p done bytes piece next m out keeps heard sent
  took used over next all s = record {
    taken = take used piece;
    left = drop used piece;
    over = over;
    whole = split_there piece used;
    all = all;
    stands = s;
  }

  -- nothing was taken
  pub took_none : Stands d d rooms p done bytes false m out keeps heard sent → TookPiece d rooms p done bytes piece nexts.Shut m out keeps heard sent
  took_none s = record {
    taken = [];
    left = piece;
    over = false;
    whole = refl;
    all = λ e. absurd (let x : nexts.Shut ≡ nexts.Read = e in cc);
    stands = subst (λ l. Stands d d rooms p done l false m out keeps heard sent) (sym (append-nil bytes)) s;
  }

  -- memory was refused, and what the turn before left in `out` is there still
  pub wanted : (used : ℕ) (setting : Setting) (host after : List ℕ) (keeps' : List (Job × Verdict) → Type 0) (heard' : List (Entry Noted)) (sent' : List (List (Entry Job)))
      → m.setting ≡ setting → m.host ≡ host → after ≡ out → ((copies : List (Job × Verdict)) → keeps copies → keeps' copies) → sent' ≡ sent → heard' ≡ heard
      → Stands d d rooms p done (bytes ++ take used piece) false m out keeps heard sent
      → SaidByThen setting host d rooms p done bytes piece after keeps' heard' sent'
  wanted used setting host after keeps' heard' sent' set same kept tells puts hears s = record {
    taken = take used piece;
    left = drop used piece;
    said = s.said;
    judged = s.judged;
    at = s.at;
    whole = split_there piece used;
    talk = subst (λ x. HasTaken x d (bytes ++ take used piece) s.said s.judged s.at) set s.talk;
    replies = kept ∙ s.replies ∙ ap (λ h. wire h s.said) same;
    books = subst (λ l. AreBooks d rooms p (done ++ s.judged) keeps' heard' l) (sym puts) (subst (λ l. AreBooks d rooms p (done ++ s.judged) keeps' l sent) (sym hears) (record { noted = tells (told (done ++ s.judged)) s.books.noted; lanes = s.books.lanes }));
  }

fault_or : {A : Type 0} → Stop → Result A Stop → Stop
fault_or d (Ok a) = d
fault_or d (Err e) = e

-- the same fault of two results
pub same_fault : {A : Type 0} {B : Type 0} (x y : Stop) → ◌≡◌ {A = Result A Stop} (Err x) (Err y) → ◌≡◌ {A = Result B Stop} (Err x) (Err y)
unfolding fault_or
same_fault x y e = ap (λ z. Err z) (ap (fault_or x) e)

-- what was heard since the beginning is no less than what was heard since
pub longer : {A : Type 0} (old mid new : List (Entry A)) → IsStartOf old mid → length mid < length new → length old < length new
longer old mid new (more, e) under = let l = ap length e ∙ length-append old more in omega (arith, l, under)
