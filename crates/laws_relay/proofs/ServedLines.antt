-- What a line tells of a worker's connections is what was spoken there, so a relay may conclude by it.
use Rattle.std.proofs.Common.{◌≡◌, ℕ, zero, suc, ◌+◌, ◌<◌, ◌==◌, Bool, true, false, List, [], ◌∷◌, ◌++◌, Some, length, length-append, append_assoc, map, refl, ap, sym, subst, ◌∙◌, arith}
use Rattle.std.specs.Prelude.{if◌then◌else◌, slice_index_or}
use mathlib.Core.List.{IsPrefix}
use Rattle.house_history.specs.declared.event.Event.{Event}
use Rattle.lane_work.specs.Account.{Premises}
use Rattle.envelope.specs.Names.{Directory}
use Rattle.lane_work.specs.Talk.{HasTaken, Judged, goes_on, greeted, submits}
use Rattle.lmtp_machine.specs.Conversation.{Conversation}
use Rattle.lmtp_machine.specs.Dialogue.{Phase, Setting, Start, verdict_reply, wire}
use Rattle.lmtp_machine.specs.declared.reply.Reply.{Reply}
use Rattle.serving_workers.specs.Leaving.{AreWritten, HaveConversed, all_written, next, none, passed, AreRead, Spoken, Told, WereOver}
use Rattle.laws_relay.specs.Concludes.{Concludes, of_history}
use Rattle.laws_relay.specs.Handed.{handed_over}
use Rattle.laws_relay.specs.Served.{AreReplies, nothing_said, replied, ConnectionConcludes, LineConcludes, LinesConclude, ServersConclude, WorkerConcludes, talk_on}
use Rattle.laws_relay.proofs.ServedWorkers.{earlier, is_this}

abbrev quiet : Spoken
quiet = record { read = []; written = []; failed = false }

-- ---- at a position

at_front : {A : Type 0} (xs ys : List A) (k : ℕ) (d : A) → k < length xs → slice_index_or (xs ++ ys) k d ≡ slice_index_or xs k d
at_front [] ys k d under = absurd (omega (arith, under))
at_front (x ∷ xs) ys zero d under = refl
at_front (x ∷ xs) ys (suc k) d under = at_front xs ys k d (omega (arith, under))

at_last : {A : Type 0} (xs : List A) (x : A) (k : ℕ) (d : A) → k ≡ length xs → slice_index_or (xs ++ x ∷ []) k d ≡ x
at_last [] x zero d e = refl
at_last [] x (suc k) d e = absurd (omega (arith, e))
at_last (y ∷ xs) x zero d e = absurd (omega (arith, e))
at_last (y ∷ xs) x (suc k) d e = at_last xs x k d (omega (arith, e))

read_at : (spoken : List Spoken) (came : List (List ℕ)) (k : ℕ) → AreRead spoken came → k < length spoken → IsPrefix (slice_index_or spoken k quiet).read (slice_index_or came k [])
read_at [] came k are under = absurd (omega (arith, under))
read_at (s ∷ spoken) [] k are under = absurd are
read_at (s ∷ spoken) (bytes ∷ came) zero are under = are.0
read_at (s ∷ spoken) (bytes ∷ came) (suc k) are under = read_at spoken came k are.1 (omega (arith, under))

read_count : (spoken : List Spoken) (came : List (List ℕ)) → AreRead spoken came → length came ≡ length spoken
read_count [] [] are = refl
read_count [] (bytes ∷ came) are = absurd are
read_count (s ∷ spoken) [] are = absurd are
read_count (s ∷ spoken) (bytes ∷ came) are = ap suc (read_count spoken came are.1)

abbrev end_of : Spoken → List ℕ × Bool
end_of s = (s.written, s.failed)

written_at : (spoken : List Spoken) (k : ℕ) → slice_index_or (map end_of spoken) k ([], false) ≡ end_of (slice_index_or spoken k quiet)
written_at [] k = refl
written_at (s ∷ spoken) zero = refl
written_at (s ∷ spoken) (suc k) = written_at spoken k

written_count : (spoken : List Spoken) → length (map end_of spoken) ≡ length spoken
written_count [] = refl
written_count (s ∷ spoken) = ap suc (written_count spoken)

-- ---- what was spoken on each connection

-- these bytes were taken of it, and perhaps more was read, and these are the replies to them, which were written
record WasSpoken (house : Premises) (seat serial : ℕ) (bytes : List ℕ) (replies : List Reply) (one : Spoken) : Type 0 where
  dropped : List ℕ
  phase : Phase
  read : one.read ≡ bytes ++ dropped
  are : AreReplies house seat serial bytes replies phase
  written : AreWritten house.host bytes replies phase one.written one.failed
  silent : replies ≡ [] → (one.written ≡ []) × (one.failed ≡ false)

-- whoever speaks is greeted first
is_greeted : {setting : Setting} {directory : Directory} {bytes : List ℕ} {replies : List Reply} {judged : List Judged} {c : Conversation}
    → HasTaken setting directory bytes replies judged c → 0 < length replies
is_greeted greeted = omega arith
is_greeted (goes_on {said = said} taken turn after before leads silent) =
    let some = is_greeted before in let many = length-append said turn.replies in omega (arith, some, many)
is_greeted (submits {said = said} taken turn after message verdicts before leads only quiet many) =
    let some = is_greeted before in
    let first = length-append said turn.replies in
    let both = length-append (said ++ turn.replies) (map verdict_reply verdicts) in
    omega (arith, some, first, both)

spoken_count : {house : Premises} {seat connections : ℕ} {spoken : List Spoken} {judged : List Judged} → HaveConversed house seat connections spoken judged → length spoken ≡ connections
spoken_count none = refl
spoken_count (passed {n} {spoken} before) = length-append spoken (quiet ∷ []) ∙ ap (λ k. k + 1) (spoken_count before)
spoken_count (next {n} {spoken} bytes replies more at dropped written failed before taken are) =
    length-append spoken (record { read = bytes ++ dropped; written = written; failed = failed } ∷ []) ∙ ap (λ k. k + 1) (spoken_count before)

each_spoken : {house : Premises} {seat connections : ℕ} {spoken : List Spoken} {judged : List Judged} (conversed : HaveConversed house seat connections spoken judged) (serial : ℕ) → serial < connections
    → WasSpoken house seat serial (talk_on conversed serial).0 (talk_on conversed serial).1 (slice_index_or spoken serial quiet)
each_spoken none serial under = absurd (omega (arith, under))
each_spoken {house} {seat} (passed {n} {spoken} before) serial under = by (λ u. each_spoken before serial u) (serial == n) refl
  where
    by : (serial < n → WasSpoken house seat serial (talk_on before serial).0 (talk_on before serial).1 (slice_index_or spoken serial quiet)) → (b : Bool) → (serial == n) ≡ b
        → WasSpoken house seat serial (if b then ([], []) else talk_on before serial).0 (if b then ([], []) else talk_on before serial).1 (slice_index_or (spoken ++ quiet ∷ []) serial quiet)
    by others true this =
        subst (WasSpoken house seat serial [] []) (sym (at_last spoken quiet serial quiet (is_this serial n this ∙ sym (spoken_count before))))
        (record { dropped = []; phase = Start; read = refl; are = nothing_said; written = all_written; silent = λ none. (refl, refl) })
    by others false other =
        let u = earlier serial n under other in
        subst (WasSpoken house seat serial (talk_on before serial).0 (talk_on before serial).1)
        (sym (at_front spoken (quiet ∷ []) serial quiet (let e = spoken_count before in omega (arith, u, e)))) (others u)
each_spoken {house} {seat} (next {n} {spoken} bytes replies more at dropped written failed before taken are) serial under = by (λ u. each_spoken before serial u) (serial == n) refl
  where
    one : Spoken
    one = record { read = bytes ++ dropped; written = written; failed = failed }

    by : (serial < n → WasSpoken house seat serial (talk_on before serial).0 (talk_on before serial).1 (slice_index_or spoken serial quiet)) → (b : Bool) → (serial == n) ≡ b
        → WasSpoken house seat serial (if b then (bytes, replies) else talk_on before serial).0 (if b then (bytes, replies) else talk_on before serial).1 (slice_index_or (spoken ++ one ∷ []) serial quiet)
    by others true this =
        let here : AreReplies house seat serial bytes replies at.standing.phase = subst (λ (k : ℕ). AreReplies house seat k bytes replies at.standing.phase) (sym (is_this serial n this)) (replied more at taken) in
        subst (WasSpoken house seat serial bytes replies) (sym (at_last spoken one serial quiet (is_this serial n this ∙ sym (spoken_count before))))
        (record { dropped = dropped; phase = at.standing.phase; read = refl; are = here; written = are; silent = λ none. absurd (let some = is_greeted taken in let e = ap length none in omega (arith, some, e)) })
    by others false other =
        let u = earlier serial n under other in
        subst (WasSpoken house seat serial (talk_on before serial).0 (talk_on before serial).1)
        (sym (at_front spoken (one ∷ []) serial quiet (let e = spoken_count before in omega (arith, u, e)))) (others u)

-- ---- the line

one_concludes : {house : Premises} {seat connections : ℕ} {spoken : List Spoken} {judged : List Judged} (history : List Event) (conversed : HaveConversed house seat connections spoken judged)
    → WorkerConcludes house seat history conversed → (serial : ℕ) → serial < connections → (came : List ℕ) → IsPrefix (slice_index_or spoken serial quiet).read came
    → ConnectionConcludes house seat serial history came (slice_index_or spoken serial quiet).written (slice_index_or spoken serial quiet).failed
one_concludes {house} {seat} history conversed worker serial under came read =
    let was = each_spoken conversed serial under in
    let bytes = (talk_on conversed serial).0 in
    let all = wire house.host (talk_on conversed serial).1 in
    let is : bytes ++ (was.dropped ++ read.0) ≡ came = sym (append_assoc bytes was.dropped read.0) ∙ (ap (λ (l : List ℕ). l ++ read.0) (sym was.read) ∙ read.1) in record {
      taken = bytes;
      replies = (talk_on conversed serial).1;
      phase = was.phase;
      read = (was.dropped ++ read.0, is);
      are = was.are;
      written = was.written;
      silent = was.silent;
      concludes = λ front untold e.
          subst (λ (l : List ℕ). Concludes house.directory (of_history history) seat serial (handed_over l front) (handed_over l all)) is (worker.each serial under (was.dropped ++ read.0) front untold e);
    }

line_concludes : {house : Premises} {seat connections : ℕ} {spoken : List Spoken} {judged : List Judged} (history : List Event) (came : List (List ℕ)) (said : List (List ℕ × Bool)) (conversed : HaveConversed house seat connections spoken judged)
    → WorkerConcludes house seat history conversed → AreRead spoken came → said ≡ map end_of spoken → LineConcludes house seat history came said
line_concludes {house} {seat} {connections} {spoken} history came said conversed worker read written =
    let count = spoken_count conversed in
    let many : length said ≡ length spoken = ap length written ∙ written_count spoken in record {
      as_many = read_count spoken came read ∙ sym many;
      each = λ serial under.
          let is : slice_index_or said serial ([], false) ≡ end_of (slice_index_or spoken serial quiet) =
          ap (λ (l : List (List ℕ × Bool)). slice_index_or l serial ([], false)) written ∙ written_at spoken serial in
          subst (λ (e : List ℕ × Bool). ConnectionConcludes house seat serial history (slice_index_or came serial []) e.0 e.1) (sym is)
          (one_concludes history conversed worker serial (omega (arith, under, many, count)) (slice_index_or came serial []) (read_at spoken came serial read (omega (arith, under, many))));
      nothing_else = λ copy uid stands own. let u = worker.nothing_else copy uid stands own in omega (arith, u, many, count);
    }

pub lines_conclude : ServersConclude → LinesConclude
lines_conclude servers config finished kept in_line n worker came said here =
    let mail = kept.mail n worker in
    let is : mail.line ≡ record { came = Some came; said = Some said } = same (sym mail.here ∙ here) in
    let over : WereOver (record { came = Some came; said = Some said }) mail.spoken = subst (λ (line : Told). WereOver line mail.spoken) is mail.over in
    line_concludes finished.front came said mail.conversed (servers config finished kept in_line n worker) over.read over.written
  where
    same : {a b : Told} → Some (Some a) ≡ Some (Some b) → a ≡ b
    same e = cc
