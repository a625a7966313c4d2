-- All connections of a worker, one after the other and by number.
use Rattle.std.proofs.Common.{◌≡◌, inl, inr, ℕ, ◌+◌, List, [], ◌∷◌, ◌++◌, length, refl, ap, sym, subst, ◌∙◌, append-nil, length-append, arith}
use Rattle.std.specs.Prelude.{flat_map}
use Rattle.std.proofs.lemmas.List.Concat.{flat_map-append}
use Rattle.envelope.specs.Names.{Directory}
use Rattle.lane_work.specs.Account.{HaveTalked, IsMarkedBy, Premises, closings_of, setting_at}
use Rattle.lane_work.specs.Account as account
use Rattle.lane_work.specs.Talk.{Judged}
use Rattle.lmtp_machine.specs.declared.reply.Reply.{Reply}
use Rattle.lmtp_machine.specs.Dialogue.{wire}
use Rattle.running_house.specs.Conversing.{AreDialogues, HaveConversed, IsConnection, none, next}
use Rattle.running_house.specs.Laws.{ConnectionsHaveTalked, EachIsADialogue, TalksAreOfLines}
use Rattle.running_house.specs.Woven.{IsWholeDialogue}
use Rattle.running_house.proofs.BackLaws.{lines_are_a_talk}
use Rattle.running_house.proofs.ListLaws.{at_before, at_push, below_or_at}
use Rattle.running_house.proofs.TalkLines.{talk_is_of_lines}

pub talked : (house : Premises) (seat : ℕ) {connections replies : List (List ℕ)} {judged : List Judged} → HaveTalked house seat connections replies judged
    → HaveConversed house seat connections replies judged
talked house seat account.none = none
talked house seat (account.next {connections = connections} bytes own said more h marked w) =
    next bytes own said more (talked house seat h) marked (talk_is_of_lines (setting_at house seat (length connections)) own bytes said more w)

pub talks_are_of_lines : TalksAreOfLines
talks_are_of_lines house seat connections replies judged h = talked house seat h

back : (house : Premises) (seat : ℕ) {connections replies : List (List ℕ)} {judged : List Judged} → HaveConversed house seat connections replies judged
    → HaveTalked house seat connections replies judged
back house seat none = account.none
back house seat (next {connections = connections} bytes own said more h marked d) =
    account.next bytes own said more (back house seat h) marked (lines_are_a_talk (setting_at house seat (length connections)) own bytes said more d)

pub connections_have_talked : ConnectionsHaveTalked
connections_have_talked house seat connections replies judged h = back house seat h

connection_as : (house : Premises) (seat i j : ℕ) (bytes bytes_there replied replied_there : List ℕ) (part part_there : List Judged) → i ≡ j → bytes ≡ bytes_there → replied ≡ replied_there → part ≡ part_there
    → IsConnection house seat i bytes replied part → IsConnection house seat j bytes_there replied_there part_there
connection_as house seat i j bytes bytes_there replied replied_there part part_there ei eb er ep h =
    subst (λ x. IsConnection house seat x bytes_there replied_there part_there) ei
    (subst (λ x. IsConnection house seat i x replied_there part_there) eb
    (subst (λ x. IsConnection house seat i bytes x part_there) er
    (subst (λ x. IsConnection house seat i bytes replied x) ep h)))

one_more : (house : Premises) (seat : ℕ) (connections replies : List (List ℕ)) (judged : List Judged) (bytes : List ℕ) (own : Directory) (said : List Reply) (more : List Judged)
    → AreDialogues house seat connections replies judged → IsMarkedBy (closings_of house seat) (length connections) house.directory own
    → IsWholeDialogue (setting_at house seat (length connections)) own bytes said more
    → AreDialogues house seat (connections ++ bytes ∷ []) (replies ++ wire house.host said ∷ []) (judged ++ more)
one_more house seat connections replies judged bytes own said more r marked d = record {
  parts = r.parts ++ more ∷ [];
  as_many_replies = length-append replies (wire house.host said ∷ []) ∙ ap (λ n. n + 1) r.as_many_replies ∙ sym (length-append connections (bytes ∷ []));
  as_many_parts = length-append r.parts (more ∷ []) ∙ ap (λ n. n + 1) r.as_many_parts ∙ sym (length-append connections (bytes ∷ []));
  together = ap (λ (js : List Judged). js ++ more) r.together
      ∙ ap (λ (js : List Judged). flat_map (λ (part : List Judged). part) r.parts ++ js) (sym (append-nil more))
      ∙ sym (flat_map-append (λ (part : List Judged). part) r.parts (more ∷ []));
  each = λ i under. elim (below_or_at i (length connections) (let n = length-append connections (bytes ∷ []) in omega (arith, n, under))) [
    | inl before ↦ connection_as house seat i i _ _ _ _ _ _ refl
        (sym (at_before connections bytes [] i before))
        (sym (at_before replies (wire house.host said) [] i (let n = r.as_many_replies in omega (arith, n, before))))
        (sym (at_before r.parts more [] i (let n = r.as_many_parts in omega (arith, n, before))))
        (r.each i before)
    | inr last ↦ connection_as house seat (length connections) i bytes _ (wire house.host said) _ more _ (sym last)
        (sym (at_push connections bytes [] i last))
        (sym (at_push replies (wire house.host said) [] i (last ∙ sym r.as_many_replies)))
        (sym (at_push r.parts more [] i (last ∙ sym r.as_many_parts)))
        (record { said = said; own = own; marked = marked; dialogue = d; replies = refl })
  ];
}

pub dialogues : (house : Premises) (seat : ℕ) {connections replies : List (List ℕ)} {judged : List Judged} → HaveConversed house seat connections replies judged
    → AreDialogues house seat connections replies judged
dialogues house seat none = record { parts = []; as_many_replies = refl; as_many_parts = refl; together = refl; each = λ i under. absurd (omega (arith, under)) }
dialogues house seat (next {connections = connections} {replies = replies} {judged = judged} bytes own said more h marked d) =
    one_more house seat connections replies judged bytes own said more (dialogues house seat h) marked d

pub each_is_a_dialogue : EachIsADialogue
each_is_a_dialogue house seat connections replies judged h = dialogues house seat h
