-- What was spoken on the connections of a line, one more of them, and what of a connection's replies was written.
use Rattle.std.proofs.Common.{◌≡◌, ◌≢◌, ◌++◌, ◌∙◌, ◌⊎◌, inl, inr, ℕ, Bool, List, [], ◌∷◌, Option, Some, None, Result, Ok, Err, IfSome, map, take, drop, refl, sym, ap, subst}
use mathlib.Core.List.{IsPrefix}
use Rattle.std.specs.Io.KnownBytes.{Appends, Consumes}
use Rattle.std.proofs.lemmas.List.{append-nil, append_assoc, map-append, take-append-drop}
use Rattle.lmtp_machine.specs.declared.reply.Reply.{Reply}
use Rattle.lmtp_machine.specs.Dialogue.{Phase, wire}
use Rattle.lmtp_machine.proofs.Calls.{wire-append}
use Rattle.lane_work.specs.declared.outcome.Ending.{Ending}
use Rattle.lane_work.specs.declared.outcome.Ending.TheVariants.{Quit, Gone, Stopped}
use Rattle.lane_work.specs.declared.outcome.TalkFault.{TalkFault}
use Rattle.lane_work.specs.declared.outcome.TalkFault.TheVariants.{Read, Write, NoMemory, Torn}
use Rattle.lane_work.specs.Streaming.{AreCutShort, AreSent, EndsBy}
use Rattle.lane_work.specs.Talk.{last_words}
use Rattle.serving_workers.specs.Leaving.{AreWritten, all_written, cut_short, never_greeted, with_last_words, AreRead, Closed, IsUnwritten, OneMore, Spoken, Told, Took, WereOver, with_end}

same_some : {A : Type 0} {a b : A} → Some a ≡ Some b → a ≡ b
same_some e = cc

-- ---- one connection more

read_push : (spoken : List Spoken) (came : List (List ℕ)) (one : Spoken) (bytes : List ℕ) → AreRead spoken came → IsPrefix one.read bytes → AreRead (spoken ++ one ∷ []) (came ++ bytes ∷ [])
read_push [] [] one bytes were is = (is, tt)
read_push [] (b ∷ came) one bytes were is = absurd were
read_push (s ∷ spoken) [] one bytes were is = absurd were
read_push (s ∷ spoken) (b ∷ came) one bytes were is = (were.0, read_push spoken came one bytes were.1 is)

read_more : (before after : Option (List (List ℕ))) (stream : Option (List ℕ)) (spoken : List Spoken) (one : Spoken) → OneMore before after stream → IfSome stream (IsPrefix one.read)
    → IfSome before (AreRead spoken) → IfSome after (AreRead (spoken ++ one ∷ []))
read_more None after stream spoken one more is was = subst (λ (o : Option (List (List ℕ))). IfSome o (AreRead (spoken ++ one ∷ []))) (sym more) tt
read_more (Some all) after stream spoken one more is was =
    subst (λ (o : Option (List (List ℕ))). IfSome o (AreRead (spoken ++ one ∷ []))) (sym more.2)
    (read_push spoken all one more.0 was (subst (λ (o : Option (List ℕ)). IfSome o (IsPrefix one.read)) more.1 is))

abbrev end_of : Spoken → List ℕ × Bool
end_of s = (s.written, s.failed)

abbrev AreEnds : List Spoken → List (List ℕ × Bool) → Type 0
AreEnds spoken all = all ≡ map end_of spoken

written_more : (before after : Option (List (List ℕ × Bool))) (output : Option (List ℕ)) (failed : Bool) (spoken : List Spoken) (one : Spoken) → OneMore before after (with_end output failed)
    → IfSome before (λ all. output ≡ Some one.written) → failed ≡ one.failed → IfSome before (AreEnds spoken) → IfSome after (AreEnds (spoken ++ one ∷ []))
written_more None after output failed spoken one more is end was = subst (λ (o : Option (List (List ℕ × Bool))). IfSome o (AreEnds (spoken ++ one ∷ []))) (sym more) tt
written_more (Some all) after output failed spoken one more is end was =
    let here : more.0 ≡ end_of one = same_some (sym more.1 ∙ (ap (λ (o : Option (List ℕ)). with_end o failed) is ∙ ap (λ (b : Bool). Some (one.written, b)) end)) in
    let e : all ++ more.0 ∷ [] ≡ map end_of (spoken ++ one ∷ []) =
    ap (λ (l : List (List ℕ × Bool)). l ++ more.0 ∷ []) was ∙ (ap (λ (b : List ℕ × Bool). map end_of spoken ++ b ∷ []) here ∙ sym (map-append end_of spoken (one ∷ []))) in
    subst (λ (o : Option (List (List ℕ × Bool))). IfSome o (AreEnds (spoken ++ one ∷ []))) (sym more.2) e

-- a connection came and is over
pub over_more : (before since after : Told) (stream output : Option (List ℕ)) (failed : Bool) (spoken : List Spoken) (one : Spoken) → Took before since stream → Closed since after output failed
    → IfSome stream (IsPrefix one.read) → IfSome since.said (λ all. output ≡ Some one.written) → failed ≡ one.failed → WereOver before spoken → WereOver after (spoken ++ one ∷ [])
over_more before since after stream output failed spoken one took closed read written end was = record {
  read = subst (λ (o : Option (List (List ℕ))). IfSome o (AreRead (spoken ++ one ∷ []))) (sym closed.came) (read_more before.came since.came stream spoken one took.came read was.read);
  written = written_more since.said after.said output failed spoken one closed.said written end (subst (λ (o : Option (List (List ℕ × Bool))). IfSome o (AreEnds spoken)) (sym took.said) was.written);
}

none_read : (came : Option (List (List ℕ))) → IfSome came (λ all. all ≡ []) → IfSome came (AreRead [])
none_read None is = tt
none_read (Some all) is = subst (AreRead []) (sym is) tt

-- no connection was there yet
pub none_over : (line : Told) → IfSome line.came (λ all. all ≡ []) → IfSome line.said (λ all. all ≡ []) → WereOver line []
none_over line came said = record { read = none_read line.came came; written = said }

-- ---- what was read and written

pub nothing_read : (stream : Option (List ℕ)) → IfSome stream (IsPrefix [])
nothing_read None = tt
nothing_read (Some all) = (all, refl)

-- what was consumed stood in front
pub front_of : (stream rest : Option (List ℕ)) (bytes : List ℕ) → Consumes stream rest bytes → IfSome stream (IsPrefix bytes)
front_of None rest bytes is = tt
front_of (Some all) None bytes is = absurd is
front_of (Some all) (Some left) bytes is = (left, sym is)

appended : (after : Option (List ℕ)) (bytes : List ℕ) → Appends (Some []) after bytes → after ≡ Some bytes
appended None bytes is = absurd is
appended (Some all) bytes is = ap Some is

by_said : {A : Type 0} (said : Option A) (before after : Option (List ℕ)) (bytes : List ℕ) → Appends before after bytes → IfSome said (λ all. before ≡ Some []) → IfSome said (λ all. after ≡ Some bytes)
by_said None before after bytes is none = tt
by_said (Some all) before after bytes is none = appended after bytes (subst (λ (o : Option (List ℕ)). Appends o after bytes) none is)

-- nothing was there before, so all that is there was written
pub written_of : (line : Told) (before after : Option (List ℕ)) (bytes : List ℕ) → IsUnwritten line before → Appends before after bytes → IfSome line.said (λ all. after ≡ Some bytes)
written_of line before after bytes fresh is = by_said line.said before after bytes is fresh

front_trans : (a b c : List ℕ) → IsPrefix a b → IsPrefix b c → IsPrefix a c
front_trans a b c p q = (p.0 ++ q.0, sym (append_assoc a p.0 q.0) ∙ (ap (λ (l : List ℕ). l ++ q.0) p.1 ∙ q.1))

module _ (before after : Option (List ℕ)) (failed : Bool) (host : List ℕ) (said : List Reply) (phase : Phase) (came : List ℕ) where
  -- so much of these replies was written
  abbrev pub WasWritten : Type 0
  WasWritten = (written : List ℕ) × Appends before after written × AreWritten host came said phase written failed

  abbrev all_said : List ℕ
  all_said = wire host (said ++ last_words phase)

  ends_as : {written : List ℕ} {b : Bool} → failed ≡ b → Appends before after written → AreWritten host came said phase written b → WasWritten
  ends_as {written} is more are = (written, more, subst (AreWritten host came said phase written) (sym is) are)

  cut : (bytes : List ℕ) → IsPrefix bytes all_said → AreCutShort before after failed bytes → WasWritten
  cut bytes front is =
      ends_as is.0 is.3 (cut_short (front_trans (take is.1 bytes) bytes all_said (drop is.1 bytes, take-append-drop is.1 bytes) front))

  in_front : IsPrefix (wire host said) all_said
  in_front = (wire host (last_words phase), sym (wire-append host said (last_words phase)))

  whole : IsPrefix all_said all_said
  whole = ([], append-nil all_said)

  pub what_was_written : (rest : Option (List ℕ)) (dropped : List ℕ) (result : Result Ending TalkFault) → EndsBy before after failed host rest came dropped said phase result → WasWritten
  what_was_written rest dropped (Ok Quit) ends = ends_as ends.1.0 ends.1.1 all_written
  what_was_written rest dropped (Ok Gone) ends = ends_as ends.3.0 ends.3.1 all_written
  what_was_written rest dropped (Ok Stopped) ends = ends_as ends.0 ends.1 with_last_words
  what_was_written rest dropped (Err Read) ends = ends_as ends.2.0 ends.2.1 all_written
  what_was_written rest dropped (Err Write) (inl ends) = cut (wire host said) in_front ends
  what_was_written rest dropped (Err Write) (inr ends) = cut all_said whole ends
  what_was_written rest dropped (Err NoMemory) (inl (inl ends)) = ends_as ends.0 ends.1 all_written
  what_was_written rest dropped (Err NoMemory) (inl (inr ends)) = cut (wire host said) in_front ends
  what_was_written rest dropped (Err NoMemory) (inr ends) = ends_as ends.1.0 ends.1.1 (never_greeted ends.0)
  what_was_written rest dropped (Err Torn) ends = ends_as ends.0 ends.1 all_written
