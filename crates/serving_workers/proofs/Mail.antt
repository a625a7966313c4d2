-- What a worker's connections came to.
use Rattle.std.proofs.Common.{◌≡◌, ◌≢◌, ◌+◌, ◌++◌, ◌∷◌, ℕ, Bool, List, [], Option, Some, None, Result, Err, IfSome, All, map, refl, subst, sym, ◌∙◌, false}
use mathlib.Core.List.{IsPrefix}
use Rattle.delivery_token.specs.declared.Job.{Job}
use Rattle.delivery_token.specs.declared.log.Noted.{Noted}
use Rattle.shard_queue.specs.Reply.{received, ReceiverPermit}
use Rattle.shard_queue.specs.declared.lane.Entry.{Entry}
use Rattle.lane_work.specs.Account.{HaveEnded, Premises, setting_at, rooms_of}
use Rattle.lane_work.specs.Permits.{IsNew, put_by}
use Rattle.lane_work.specs.Speaking.{premises_of}
use Rattle.lane_work.specs.Streaming.{IsPlayed}
use Rattle.lmtp_machine.specs.Dialogue.{Phase}
use Rattle.lmtp_machine.specs.declared.reply.Reply.{Reply}
use Rattle.lane_work.specs.declared.outcome.Ending.{Ending}
use Rattle.lane_work.specs.declared.outcome.TalkFault.{TalkFault}
use Rattle.lane_work.specs.declared.outcome.TalkFault.TheVariants.{Torn}
use Rattle.lane_work.specs.declared.desk.LanePermit.{LanePermit}
use Rattle.lane_work.specs.declared.desk.Intake.{Intake}
use Rattle.lane_work.proofs.ServedLaws.{books_begin}
use Rattle.serving_workers.specs.Leaving.{AreServed, AreWritten, HasServedMail, all_written, cut_short, never_greeted, next, none, passed, with_last_words, Closed, IsFresh, IsUnwritten, Spoken, Told, Took}
use Rattle.serving_workers.proofs.Spoken.{front_of, none_over, nothing_read, over_more, what_was_written, written_of}

nothing_of : (a b : List ℕ) → a ++ b ≡ [] → a ≡ []
nothing_of [] b e = refl
nothing_of (x ∷ a) b e = absurd (cc e)

-- where nothing came, nothing was taken
of_taken : (host came taken dropped : List ℕ) {written : List ℕ} {replies : List Reply} {phase : Phase} {failed : Bool} → came ≡ taken ++ dropped → AreWritten host came replies phase written failed
    → AreWritten host taken replies phase written failed
of_taken host came taken dropped is all_written = all_written
of_taken host came taken dropped is with_last_words = with_last_words
of_taken host came taken dropped is (cut_short front) = cut_short front
of_taken host came taken dropped is (never_greeted nothing) = never_greeted (nothing_of taken dropped (sym is ∙ nothing))

module _ {house : Premises} {seat n : ℕ} (before since after : Told) (stream output : Option (List ℕ)) (failed : Bool) (took : Took before since stream) (closed : Closed since after output failed)
    {heard : List (Entry Noted)} {sent : List (List (Entry Job))} (was : AreServed house seat before n heard sent) where
  -- nothing was said on a connection
  pub passed_by : IsUnwritten since output → failed ≡ false → AreServed house seat after (n + 1) heard sent
  passed_by fresh live =
      let one : Spoken = record { read = []; written = []; failed = false } in record {
        judged = was.judged;
        spoken = was.spoken ++ one ∷ [];
        over = over_more before since after stream output failed was.spoken one took closed (nothing_read stream) fresh live was.over;
        conversed = passed was.conversed;
        books = was.books;
      }

  -- and on another it was
  pub played_by : {rest : Option (List ℕ)} {fresh : Option (List ℕ)} {hears : List (Entry Noted)} {puts : List (List (Entry Job))} {result : Result Ending TalkFault} → IsUnwritten since fresh
      → IsPlayed house (setting_at house seat n) seat was.judged stream rest fresh output failed (λ told. Unit {0}) hears puts result → result ≢ Err Torn
      → AreServed house seat after (n + 1) hears puts
  played_by {rest} {fresh} {result = result} unwritten played whole =
      let ends = what_was_written fresh output failed house.host played.said played.at.standing.phase played.came rest played.dropped result played.ends in
      let taken = played.taken in
      let one : Spoken = record { read = taken ++ played.dropped; written = ends.0; failed = failed } in record {
        judged = was.judged ++ played.judged;
        spoken = was.spoken ++ one ∷ [];
        over = over_more before since after stream output failed was.spoken one took closed
            (subst (λ (bytes : List ℕ). IfSome stream (IsPrefix bytes)) played.whole (front_of stream rest played.came played.read)) (written_of since fresh output ends.0 unwritten ends.1) refl was.over;
        conversed = next taken played.said played.judged played.at played.dropped ends.0 failed was.conversed played.talk (of_taken house.host played.came taken played.dropped played.whole ends.2);
        books = played.books whole;
      }

-- before the first
pub mail_begins : {B : Type 0} (intake : Intake B) (seat : ℕ) (line : Told) (receiver : ReceiverPermit Noted) (permits : List (LanePermit Job)) → All IsNew permits → IsFresh line
    → AreServed (premises_of intake) seat line 0 (received receiver) (map put_by permits)
mail_begins intake seat line receiver permits fresh none_came =
    let begun = books_begin intake.directory (rooms_of intake.lanes.items) seat [] (received receiver) permits refl fresh in
    record { judged = []; spoken = []; over = none_over line none_came.came none_came.said; conversed = none; books = record { noted = tt; lanes = begun.lanes } }

-- and where its permits have ended
pub mail_ends : (house : Premises) (seat number connections : ℕ) (line : Told) (heard : List (Entry Noted)) (sent words : List (List (Entry Job))) → number ≡ seat
    → AreServed house seat line connections heard sent → HaveEnded number sent words → HasServedMail house seat line heard words
mail_ends house seat number connections line heard sent words same served ended =
    record { connections = connections; sent = sent; served = served; ended = subst (λ (n : ℕ). HaveEnded n sent words) same ended }
