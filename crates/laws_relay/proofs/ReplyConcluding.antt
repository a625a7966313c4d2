-- What a relay knows where what it was told ends early.
use Rattle.std.proofs.Common.{◌≡◌, ℕ, zero, suc, ◌<◌, Bool, true, false, List, [], ◌∷◌, ◌++◌, length, map, take, drop, refl, ap, sym, subst, ◌∙◌, arith}
use Rattle.std.specs.Prelude.{codes, slice_index_or, if◌then◌else◌}
use Rattle.delivery_token.specs.declared.Verdict.{Verdict}
use Rattle.envelope.specs.Names.{Directory}
use Rattle.line_io.specs.Wire.{wire_lines, wire_rest}
use Rattle.lmtp_machine.specs.declared.reply.Reply.{Reply}
use Rattle.lmtp_machine.specs.declared.reply.Reply.TheVariants.{Greeting}
use Rattle.lmtp_machine.specs.Dialogue.{Submission, dialogue, fresh, wire}
use Rattle.laws_relay.specs.Handed.{is_code, last_lines, replies_of, IsInLine, Handed, Relay, Between, Begun, Sends, after_reply, ask_of, handed, handed_over, is_end, is_taken, no_message}
use Rattle.laws_relay.specs.ReplyLaws.{last_line}
use Rattle.laws_relay.specs.Fates.{Unheard, AreCut, AreKnown, cut, lines_of, none, same, was_stored}
use Rattle.laws_relay.specs.Moments.{dialogue_over, events_of}
use Rattle.laws_relay.specs.Conclusions.{FrontsAreCut, MayForget, MessagesAreKnownByBytes, RelaysMayForget, RelaysMayForgetWhileShardsAreShut, WhatIsReadStays}
use Rattle.laws_relay.proofs.Cuts.{replies_are_read}
use Rattle.laws_relay.proofs.ReplyFronts.{replies_of_front}
use Rattle.laws_relay.proofs.Known.{between_none, messages_are_known, messages_are_known_while_shards_are_shut}
use Rattle.laws_relay.proofs.Taken.{taken_are_stored, taken_within}

-- ---- of lines and replies

-- of these replies the first so many are told, or what is told is the first of them
data Parts (count : ℕ) (told untold : List (List ℕ)) : Type 0 where
  whole : take count (told ++ untold) ≡ take count told → drop count (told ++ untold) ≡ drop count told ++ untold → Parts count told untold
  short : (more : List (List ℕ)) → take count (told ++ untold) ≡ take count told ++ more → drop count told ≡ [] → Parts count told untold

parts_more : (count : ℕ) (reply : List ℕ) (told untold : List (List ℕ)) → Parts count told untold → Parts (suc count) (reply ∷ told) untold
parts_more count reply told untold (whole t d) = whole (ap (λ (rs : List (List ℕ)). reply ∷ rs) t) d
parts_more count reply told untold (short more t d) = short more (ap (λ (rs : List (List ℕ)). reply ∷ rs) t) d

parts : (count : ℕ) (told untold : List (List ℕ)) → Parts count told untold
parts zero told untold = whole refl refl
parts (suc count) [] untold = short (take (suc count) untold) refl refl
parts (suc count) (reply ∷ told) untold = parts_more count reply told untold (parts count told untold)

abbrev message_of : List ℕ → List (List ℕ) → List (List ℕ) → List (List ℕ) → Handed
message_of mail recipients lines replies = record { mail = mail; recipients = recipients; lines = lines; replies = replies }

end_cut : (mail : List ℕ) (recipients lines sent told untold : List (List ℕ)) → Parts (length recipients) told untold
    → AreCut (handed Between sent (drop (length recipients) told)) (handed Between sent (drop (length recipients) told ++ untold))
    → AreCut (message_of mail recipients lines (take (length recipients) told) ∷ handed Between sent (drop (length recipients) told))
    (message_of mail recipients lines (take (length recipients) (told ++ untold)) ∷ handed Between sent (drop (length recipients) (told ++ untold)))
end_cut mail recipients lines sent told untold (whole t d) others =
    let count : ℕ = length recipients in
    let first : Handed = message_of mail recipients lines (take count told) in
    let all : message_of mail recipients lines (take count (told ++ untold)) ∷ handed Between sent (drop count (told ++ untold)) ≡ first ∷ handed Between sent (drop count told ++ untold) =
    ap (λ (rs : List (List ℕ)). message_of mail recipients lines rs ∷ handed Between sent (drop count (told ++ untold))) t ∙ ap (λ (rs : List (List ℕ)). first ∷ handed Between sent rs) d in
    subst (λ (ms : List Handed). AreCut (first ∷ handed Between sent (drop count told)) ms) (sym all) (same first others)
end_cut mail recipients lines sent told untold (short more t d) others =
    let count : ℕ = length recipients in
    let first : Handed = message_of mail recipients lines (take count told) in
    let rest : List Handed = handed Between sent (drop count (told ++ untold)) in
    let front : first ∷ handed Between sent (drop count told) ≡ first ∷ [] = ap (λ (rs : List (List ℕ)). first ∷ handed Between sent rs) d ∙ ap (λ (ms : List Handed). first ∷ ms) (between_none sent [] tt) in
    let all : message_of mail recipients lines (take count (told ++ untold)) ∷ rest ≡ message_of mail recipients lines (take count told ++ more) ∷ rest =
    ap (λ (rs : List (List ℕ)). message_of mail recipients lines rs ∷ rest) t in
    subst (λ (ms : List Handed). AreCut ms (message_of mail recipients lines (take count (told ++ untold)) ∷ rest)) (sym front)
    (subst (λ (ms : List Handed). AreCut (first ∷ []) ms) (sym all) (cut mail recipients lines (take count told) more))

pub fronts_known : (relay : Relay) (sent told untold : List (List ℕ)) → AreCut (handed relay sent told) (handed relay sent (told ++ untold))
fronts_known Between [] told untold = none
fronts_known (Begun mail recipients) [] told untold = none
fronts_known (Sends mail recipients lines) [] told untold = none
fronts_known Between (line ∷ sent) [] untold = none
fronts_known Between (line ∷ sent) (reply ∷ told) untold = fronts_known (after_reply (ask_of line) Between line reply) sent told untold
fronts_known (Begun mail recipients) (line ∷ sent) [] untold = none
fronts_known (Begun mail recipients) (line ∷ sent) (reply ∷ told) untold = fronts_known (after_reply (ask_of line) (Begun mail recipients) line reply) sent told untold
fronts_known (Sends mail recipients lines) (line ∷ sent) told untold =
    by (is_end line) (fronts_known (Sends mail recipients (lines ++ line ∷ [])) sent told untold) (fronts_known Between sent (drop (length recipients) told) untold)
  where
    by : (b : Bool) → AreCut (handed (Sends mail recipients (lines ++ line ∷ [])) sent told) (handed (Sends mail recipients (lines ++ line ∷ [])) sent (told ++ untold))
        → AreCut (handed Between sent (drop (length recipients) told)) (handed Between sent (drop (length recipients) told ++ untold))
        → AreCut
        (if b then message_of mail recipients lines (take (length recipients) told) ∷ handed Between sent (drop (length recipients) told) else handed (Sends mail recipients (lines ++ line ∷ [])) sent told)
        (if b then message_of mail recipients lines (take (length recipients) (told ++ untold)) ∷ handed Between sent (drop (length recipients) (told ++ untold))
        else handed (Sends mail recipients (lines ++ line ∷ [])) sent (told ++ untold))
    by false more others = more
    by true more others = end_cut mail recipients lines sent told untold (parts (length recipients) told untold) others

-- ---- of bytes

behind_greeting : (lines told untold : List (List ℕ)) → AreCut (handed Between lines (drop 1 told)) (handed Between lines (drop 1 (told ++ untold)))
behind_greeting lines [] untold = subst (λ (ms : List Handed). AreCut ms (handed Between lines (drop 1 untold))) (sym (between_none lines [] tt)) none
behind_greeting lines (reply ∷ told) untold = fronts_known Between lines told untold

pub fronts_are_cut : FrontsAreCut
fronts_are_cut sent told untold =
    subst (λ (rs : List (List ℕ)). AreCut (handed_over sent told) (handed Between (wire_lines sent) (drop 1 rs))) (sym (replies_of_front told untold))
    (behind_greeting (wire_lines sent) (replies_of told) (last_lines (wire_lines (wire_rest told ++ untold))))

reply_of_front : (told untold : List (List ℕ)) (i : ℕ) → i < length told → slice_index_or told i [] ≡ slice_index_or (told ++ untold) i []
reply_of_front [] untold i h = absurd (omega arith)
reply_of_front (reply ∷ told) untold zero h = refl
reply_of_front (reply ∷ told) untold (suc i) h = reply_of_front told untold i (omega arith)

none_within : {A : Type 0} (i : ℕ) → i < 0 → A
none_within i h = absurd (omega arith)

reads_on : {front whole : List Handed} → AreCut front whole → (k i : ℕ) → i < length (slice_index_or front k no_message).replies
    → slice_index_or (slice_index_or front k no_message).replies i [] ≡ slice_index_or (slice_index_or whole k no_message).replies i []
reads_on none k i h = none_within i h
reads_on (same message c) zero i h = refl
reads_on (same message c) (suc k) i h = reads_on c k i h
reads_on (cut mail recipients lines told untold) zero i h = reply_of_front told untold i h
reads_on (cut mail recipients lines told untold) (suc k) i h = none_within i h

pub what_is_read_stays : WhatIsReadStays
what_is_read_stays front all c = reads_on c

-- ---- of a server

-- what is known by lines and replies is known by the bytes
known_by_bytes : (host : List ℕ) (directory : Directory) (lines : List (List ℕ)) (replies : List Reply) (ends : List (List Submission)) (submissions : List Submission) (answers : List (List Verdict)) (sent told : List ℕ) → IsInLine host
    → wire_lines sent ≡ lines → told ≡ wire host (Greeting ∷ replies) → AreKnown host directory (handed Between lines (map (last_line host) replies)) ends submissions answers
    → AreKnown host directory (handed_over sent told) ends submissions answers
known_by_bytes host directory lines replies ends submissions answers sent told h s t k =
    let read : handed_over sent told ≡ handed Between lines (map (last_line host) replies) =
    ap (λ (ls : List (List ℕ)). handed Between ls (drop 1 (replies_of told))) s
    ∙ ap (λ (rs : List (List ℕ)). handed Between lines (drop 1 rs)) (ap replies_of t ∙ replies_are_read host (Greeting ∷ replies) h) in
    subst (λ (ms : List Handed). AreKnown host directory ms ends submissions answers) (sym read) k

pub messages_are_known_by_bytes : MessagesAreKnownByBytes
messages_are_known_by_bytes host setting directory events left sent told h may s t =
    known_by_bytes host directory (lines_of events ++ left) (dialogue setting directory fresh events).replies _ _ _ sent told h s t (messages_are_known host setting directory events left may)

may_forget : (host : List ℕ) (directory : Directory) (known all : List Handed) (ends : List (List Submission)) (submissions : List Submission) (answers : List (List Verdict)) → AreCut known all
    → AreKnown host directory all ends submissions answers → MayForget host directory known all submissions answers
may_forget host directory known all ends submissions answers c k =
    let tells : (m i : ℕ) → i < length (slice_index_or known m no_message).replies → is_taken (slice_index_or known m no_message) i ≡ was_stored (slice_index_or k.fates m Unheard) i =
    λ m i h. ap (is_code (codes "250")) (reads_on c m i h) ∙ taken_are_stored host directory all k.fates k.each m i in
    record {
      fates = k.fates;
      each = k.each;
      submissions_are = k.submissions_are;
      answers_are = k.answers_are;
      stored = λ m i e. sym (tells m i (taken_within (slice_index_or known m no_message).replies i e)) ∙ e;
      tells = tells;
    }

forget_by_bytes : (host : List ℕ) (directory : Directory) (lines : List (List ℕ)) (replies : List Reply) (ends : List (List Submission)) (submissions : List Submission) (answers : List (List Verdict)) (sent told untold : List ℕ)
    → IsInLine host → wire_lines sent ≡ lines → told ++ untold ≡ wire host (Greeting ∷ replies)
    → AreKnown host directory (handed Between lines (map (last_line host) replies)) ends submissions answers
    → MayForget host directory (handed_over sent told) (handed_over sent (told ++ untold)) submissions answers
forget_by_bytes host directory lines replies ends submissions answers sent told untold h s t k =
    may_forget host directory (handed_over sent told) (handed_over sent (told ++ untold)) ends submissions answers (fronts_are_cut sent told untold)
    (known_by_bytes host directory lines replies ends submissions answers sent (told ++ untold) h s t k)

pub relays_may_forget : RelaysMayForget
relays_may_forget host setting directory events left sent told untold h may s t =
    forget_by_bytes host directory (lines_of events ++ left) (dialogue setting directory fresh events).replies _ _ _ sent told untold h s t (messages_are_known host setting directory events left may)

pub relays_may_forget_while_shards_are_shut : RelaysMayForgetWhileShardsAreShut
relays_may_forget_while_shards_are_shut host setting directory moments left sent told untold h may s t =
    forget_by_bytes host directory (lines_of (events_of moments) ++ left) (dialogue_over setting directory fresh moments).replies _ _ _ sent told untold h s t
    (messages_are_known_while_shards_are_shut host setting directory moments left may)
