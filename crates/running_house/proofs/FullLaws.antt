-- Each message has a verdict and a mailbox for each of its keys.
use Rattle.std.proofs.Common.{◌≡◌, ℕ, ◌+◌, List, [], ◌∷◌, length, map, sym, subst}
use Rattle.std.specs.Prelude.{All}
use Rattle.std.proofs.lemmas.List.Elements.{All-append, All-cons, All-head, All-nil, All-tail}
use Rattle.envelope.specs.Names.{Directory}
use Rattle.lane_work.specs.Account.{Premises}
use Rattle.lane_work.specs.Talk.{Judged}
use Rattle.lmtp_machine.specs.declared.reply.Reply.{Reply}
use Rattle.lmtp_machine.specs.Dialogue.{Standing, Setting, Submission, Event, dialogue, fresh}
use Rattle.lmtp_machine.specs.Kept.{AreMessages}
use Rattle.lmtp_machine.proofs.Kept.{dialogue_keeps, fresh_kept}
use Rattle.running_house.specs.Conversing.{HaveConversed, none, next}
use Rattle.running_house.specs.Storing.{IsFull}
use Rattle.running_house.specs.Woven.{IsWholeDialogue, Woven}
use Rattle.running_house.specs.Woven as woven

abbrev HasVerdicts : Judged → Type 0
HasVerdicts j = length j.verdicts ≡ length j.message.keys

woven_verdicts : (setting : Setting) (directory : Directory) {s t : Standing} {ls : List (List ℕ)} {js : List Judged} {es : List Event} → Woven setting directory s ls js es t → All HasVerdicts js
woven_verdicts setting directory woven.none = All-nil HasVerdicts
woven_verdicts setting directory (woven.line l event is may quiet h) = woven_verdicts setting directory h
woven_verdicts setting directory (woven.submits {judged = js} l event message verdicts is may one many h) =
    All-cons HasVerdicts (record { message = message; verdicts = verdicts }) js many (woven_verdicts setting directory h)

messages_full : (setting : Setting) (directory : Directory) (first last : ℕ) (js : List Judged) → AreMessages setting (length directory.homes) first (map (λ (j : Judged). j.message) js) last
    → All HasVerdicts js → All IsFull js
messages_full setting directory first last [] are verdicts = All-nil IsFull
messages_full setting directory first last (j ∷ js) are verdicts =
    All-cons IsFull j js (record { mailboxes = are.0.as_many; verdicts = All-head HasVerdicts j js verdicts })
    (messages_full setting directory (first + 1) last js are.1 (All-tail HasVerdicts j js verdicts))

-- the messages of one connection, by number
pub messages_are : (setting : Setting) (directory : Directory) (bytes : List ℕ) (said : List Reply) (judged : List Judged) → (d : IsWholeDialogue setting directory bytes said judged)
    → AreMessages setting (length directory.homes) 0 (map (λ (j : Judged). j.message) judged) (dialogue setting directory fresh d.events).standing.submitted
messages_are setting directory bytes said judged d =
    let last : ℕ = (dialogue setting directory fresh d.events).standing.submitted in
    let kept = dialogue_keeps setting directory fresh d.events (fresh_kept directory) in
    subst (λ (ms : List Submission). AreMessages setting (length directory.homes) 0 ms last) (sym d.messages) kept.numbered.are

dialogue_full : (setting : Setting) (directory : Directory) (bytes : List ℕ) (said : List Reply) (judged : List Judged) → IsWholeDialogue setting directory bytes said judged → All IsFull judged
dialogue_full setting directory bytes said judged d =
    messages_full setting directory 0 (dialogue setting directory fresh d.events).standing.submitted judged (messages_are setting directory bytes said judged d) (woven_verdicts setting directory d.woven)

-- those of all
pub all_full : (house : Premises) (seat : ℕ) {connections replies : List (List ℕ)} {judged : List Judged} → HaveConversed house seat connections replies judged → All IsFull judged
all_full house seat none = All-nil IsFull
all_full house seat (next {judged = judged} bytes own said more h marked d) = All-append IsFull judged more (all_full house seat h) (dialogue_full _ own bytes said more d)
