-- The messages that a connection submitted have its numbers, one after the other.
use Rattle.std.proofs.Common.{◌≡◌, ℕ, zero, suc, ◌+◌, ◌<◌, List, [], ◌∷◌, ◌++◌, length, refl, sym, subst, arith}
use Rattle.std.specs.Prelude.{slice_index_or}
use Rattle.envelope.specs.Names.{Directory, marked}
use Rattle.lmtp_machine.specs.Dialogue.{Setting, Standing, Submission, Turn, fresh, on_event}
use Rattle.lmtp_machine.specs.Kept.{AreMessages, IsMessage, Kept, KeptAfter}
use Rattle.lmtp_machine.proofs.Kept.{event_keeps, fresh_kept}
use Rattle.laws_relay.specs.Moments.{Moment, dialogue_over}
use Rattle.laws_relay.specs.Numbers.{no_submission}
use Rattle.laws_relay.specs.Connections.{NumbersMessages}

messages-append : (setting : Setting) (homes a : ℕ) (xs : List Submission) (b : ℕ) (ys : List Submission) (c : ℕ) → AreMessages setting homes a xs b → AreMessages setting homes b ys c
    → AreMessages setting homes a (xs ++ ys) c
messages-append setting homes a [] b ys c h k = subst (λ n. AreMessages setting homes n ys c) (sym h) k
messages-append setting homes a (x ∷ xs) b ys c h k = (h.0, messages-append setting homes (a + 1) xs b ys c h.1 k)

moments_keep : (setting : Setting) (directory : Directory) (s : Standing) (moments : List Moment) → Kept (length directory.homes) s
    → AreMessages setting (length directory.homes) s.submitted (dialogue_over setting directory s moments).submissions (dialogue_over setting directory s moments).standing.submitted
moments_keep setting directory s [] h = refl
moments_keep setting directory s (m ∷ ms) h =
    let t : Turn = on_event setting (marked m.shut directory) s m.event in
    let k : KeptAfter setting (length directory.homes) s t.submissions t.standing = event_keeps setting (marked m.shut directory) s m.event h in
    messages-append setting (length directory.homes) s.submitted t.submissions t.standing.submitted _ _ k.numbered.are (moments_keep setting directory t.standing ms k.kept)

message_at : (setting : Setting) (homes first : ℕ) (submissions : List Submission) (last : ℕ) → AreMessages setting homes first submissions last → (n : ℕ) → n < length submissions
    → IsMessage setting homes (first + n) (slice_index_or submissions n no_submission)
message_at setting homes first [] last h n lt = absurd (omega (arith, lt))
message_at setting homes first (x ∷ xs) last h zero lt = let e : first ≡ first + 0 = omega arith in subst (λ (m : ℕ). IsMessage setting homes m x) e h.0
message_at setting homes first (x ∷ xs) last h (suc n) lt =
    let e : (first + 1) + n ≡ first + suc n = omega arith in
    subst (λ (m : ℕ). IsMessage setting homes m (slice_index_or xs n no_submission)) e (message_at setting homes (first + 1) xs last h.1 n (omega (arith, lt)))

pub numbers_messages : NumbersMessages
numbers_messages setting directory taken said submitted told c h n lt =
    let last : ℕ = (dialogue_over setting directory fresh h.moments).standing.submitted in
    let all : AreMessages setting (length directory.homes) 0 submitted last =
    subst (λ (ss : List Submission). AreMessages setting (length directory.homes) 0 ss last) h.submitted_is (moments_keep setting directory fresh h.moments (fresh_kept directory)) in
    let e : 0 + n ≡ n = omega arith in
    subst (λ (m : ℕ). IsMessage setting (length directory.homes) m (slice_index_or submitted n no_submission)) e (message_at setting (length directory.homes) 0 submitted last all n lt)
