-- A talk, turn by turn, is one dialogue over the whole lines of its bytes.
use Rattle.std.proofs.Common.{◌≡◌, inl, inr, ℕ, List, [], ◌∷◌, ◌++◌, map, refl, ap, sym, subst, ◌∙◌, append-nil, append_assoc}
use Rattle.std.specs.Prelude.{All}
use Rattle.std.proofs.lemmas.List.Concat.{flat_map-append}
use Rattle.std.proofs.lemmas.List.Elements.{All-nil}
use Rattle.delivery_token.specs.declared.Verdict.{Verdict}
use Rattle.envelope.specs.Names.{Directory}
use Rattle.lane_work.specs.Talk.{Judged, HasTaken}
use Rattle.lane_work.specs.Talk as talk
use Rattle.line_io.specs.Wire.{IsCut, IsUncut, crlf, joined, wire_lines, wire_rest}
use Rattle.line_io.specs.inner.WireLaws.{cut_none, lines_are, reading_cut, uncut_nil}
use Rattle.lmtp_machine.specs.declared.reply.Reply.{Reply}
use Rattle.lmtp_machine.specs.declared.reply.Reply.TheVariants.{Greeting}
use Rattle.lmtp_machine.specs.Conversation.{Conversation, Leads}
use Rattle.lmtp_machine.specs.Dialogue.{Phase, Waiting, Standing, Setting, Event, Answered, Turn, dialogue, fresh, on_event, on_verdicts, verdict_reply}
use Rattle.lmtp_machine.proofs.Pieces.{cut-append, goes_on}
use Rattle.running_house.specs.Laws.{HeardAreFirst, TalkIsOfLines}
use Rattle.running_house.specs.Woven.{Woven, none}
use Rattle.running_house.proofs.ListLaws.{all_front}
use Rattle.running_house.proofs.WovenLaws.{Submitted, quiet_woven, submitted, woven-append, woven_messages, woven_stands}

-- what a talk so far comes to
record Came (setting : Setting) (directory : Directory) (bytes : List ℕ) (said : List Reply) (judged : List Judged) (c : Conversation) : Type 0 where
  lines : List (List ℕ)
  events : List Event
  cut : IsCut bytes lines c.unfinished
  woven : Woven setting directory fresh lines judged events c.standing
  replies : said ≡ Greeting ∷ (dialogue setting directory fresh events).replies

-- what is said of events, and then of more
replies_then : (setting : Setting) (directory : Directory) (s t : Standing) (events more : List Event) → (dialogue setting directory s events).standing ≡ t
    → (dialogue setting directory s (events ++ more)).replies ≡ (dialogue setting directory s events).replies ++ (dialogue setting directory t more).replies
replies_then setting directory s t events more e =
    ap (λ (x : Turn). x.replies) (goes_on setting directory s events more)
    ∙ ap (λ (x : Standing). (dialogue setting directory s events).replies ++ (dialogue setting directory x more).replies) e

pub said_verdicts : (phase : Phase) (n count : ℕ) (vs : List Verdict) → phase ≡ Waiting count → (on_verdicts phase n vs).replies ≡ map verdict_reply vs
said_verdicts phase n count vs e = subst (λ (x : Phase). (on_verdicts x n vs).replies ≡ map verdict_reply vs) (sym e) refl

-- and then of verdicts that are awaited
replies_answered : (setting : Setting) (directory : Directory) (s : Standing) (events : List Event) (count : ℕ) (vs : List Verdict)
    → (dialogue setting directory s events).standing.phase ≡ Waiting count
    → (dialogue setting directory s (events ++ Answered vs ∷ [])).replies ≡ (dialogue setting directory s events).replies ++ map verdict_reply vs
replies_answered setting directory s events count vs waits =
    let t : Standing = (dialogue setting directory s events).standing in
    replies_then setting directory s t events (Answered vs ∷ []) refl
    ∙ ap (λ (x : List Reply). (dialogue setting directory s events).replies ++ x) (append-nil (on_event setting directory t (Answered vs)).replies ∙ said_verdicts t.phase t.submitted count vs waits)

-- bytes that submit nothing
came_on : (setting : Setting) (directory : Directory) (bytes taken : List ℕ) (said : List Reply) (judged : List Judged) (c after : Conversation) (turn : Turn)
    → Came setting directory bytes said judged c → Leads setting directory c taken turn after → turn.submissions ≡ []
    → Came setting directory (bytes ++ taken) (said ++ turn.replies) judged after
came_on setting directory bytes taken said judged c after turn b leads quiet =
    let there : Turn = dialogue setting directory c.standing leads.events in
    let more : Woven setting directory c.standing leads.lines [] leads.events there.standing =
    quiet_woven setting directory c.standing leads.heard leads.may (sym (ap (λ (x : Turn). x.submissions) leads.turns) ∙ quiet) in
    let stands : there.standing ≡ after.standing = sym (leads.stands ∙ ap (λ (x : Turn). x.standing) leads.turns) in
    let both : Woven setting directory fresh (b.lines ++ leads.lines) (judged ++ []) (b.events ++ leads.events) there.standing = woven-append setting directory b.woven more in
    record {
      lines = b.lines ++ leads.lines;
      events = b.events ++ leads.events;
      cut = cut-append [] bytes c.unfinished taken after.unfinished b.lines leads.lines b.cut leads.cut;
      woven = subst (λ (js : List Judged). Woven setting directory fresh (b.lines ++ leads.lines) js (b.events ++ leads.events) after.standing) (append-nil judged)
          (subst (λ (s : Standing). Woven setting directory fresh (b.lines ++ leads.lines) (judged ++ []) (b.events ++ leads.events) s) stands both);
      replies =
          ap (λ (x : List Reply). x ++ turn.replies) b.replies
          ∙ ap (λ (x : Turn). Greeting ∷ ((dialogue setting directory fresh b.events).replies ++ x.replies)) leads.turns
          ∙ ap (λ (x : List Reply). Greeting ∷ x) (sym (replies_then setting directory fresh c.standing b.events leads.events (woven_stands setting directory b.woven)));
    }

-- bytes that submit a message, and its verdicts
came_judged : (setting : Setting) (directory : Directory) (bytes taken : List ℕ) (said : List Reply) (judged : List Judged) (c after : Conversation) (turn : Turn) (one : Judged)
    → Came setting directory bytes said judged c → (leads : Leads setting directory c taken turn after)
    → Submitted setting directory c.standing leads.lines leads.events one.message one.verdicts
    → Came setting directory (bytes ++ taken) ((said ++ turn.replies) ++ map verdict_reply one.verdicts) (judged ++ one ∷ [])
    (record { standing = (on_event setting directory after.standing (Answered one.verdicts)).standing; unfinished = after.unfinished })
came_judged setting directory bytes taken said judged c after turn one b leads sent =
    let vs : List Verdict = one.verdicts in
    let there : Turn = dialogue setting directory c.standing leads.events in
    let stands : there.standing ≡ after.standing = sym (leads.stands ∙ ap (λ (x : Turn). x.standing) leads.turns) in
    let events : List Event = leads.events ++ Answered vs ∷ [] in
    let both : Woven setting directory fresh (b.lines ++ leads.lines) (judged ++ one ∷ []) (b.events ++ events) (on_event setting directory there.standing (Answered vs)).standing =
    woven-append setting directory b.woven sent.woven in
    let before : List Reply = (dialogue setting directory fresh b.events).replies in
    record {
      lines = b.lines ++ leads.lines;
      events = b.events ++ events;
      cut = cut-append [] bytes c.unfinished taken after.unfinished b.lines leads.lines b.cut leads.cut;
      woven = subst (λ (s : Standing). Woven setting directory fresh (b.lines ++ leads.lines) (judged ++ one ∷ []) (b.events ++ events) (on_event setting directory s (Answered vs)).standing) stands both;
      replies =
          ap (λ (x : List Reply). (x ++ turn.replies) ++ map verdict_reply vs) b.replies
          ∙ ap (λ (x : List Reply). Greeting ∷ x) (append_assoc before turn.replies (map verdict_reply vs)
          ∙ ap (λ (x : Turn). before ++ (x.replies ++ map verdict_reply vs)) leads.turns
          ∙ ap (λ (x : List Reply). before ++ x) (sym (replies_answered setting directory c.standing leads.events sent.count vs sent.waits))
          ∙ sym (replies_then setting directory fresh c.standing b.events events (woven_stands setting directory b.woven)));
    }

came : (setting : Setting) (directory : Directory) {bytes : List ℕ} {said : List Reply} {judged : List Judged} {c : Conversation}
    → HasTaken setting directory bytes said judged c → Came setting directory bytes said judged c
came setting directory talk.greeted = record { lines = []; events = []; cut = cut_none; woven = none; replies = refl }
came setting directory (talk.goes_on {bytes = bytes} {said = said} {judged = judged} {c = c} taken turn after h leads quiet) =
    came_on setting directory bytes taken said judged c after turn (came setting directory h) leads quiet
came setting directory (talk.submits {bytes = bytes} {said = said} {judged = judged} {c = c} taken turn after message verdicts h leads one quiet many) =
    let sent = submitted setting directory message verdicts many c.standing leads.heard leads.may (sym (ap (λ (x : Turn). x.submissions) leads.turns) ∙ one) quiet in
    came_judged setting directory bytes taken said judged c after turn (record { message = message; verdicts = verdicts }) (came setting directory h) leads sent

uncut_lines : (s : List ℕ) → IsUncut s → wire_lines s ≡ []
uncut_lines s h = (lines_are s [] s (record { whole = refl; each = All-nil IsUncut; open_end = h })).0

pub talk_is_of_lines : TalkIsOfLines
talk_is_of_lines setting directory bytes said judged w =
    let b = came setting directory w.talk in
    let x : List ℕ = w.last.unfinished ++ w.left in
    let cut : IsCut (w.taken ++ w.left) (b.lines ++ wire_lines x) (wire_rest x) = cut-append [] w.taken w.last.unfinished w.left (wire_rest x) b.lines (wire_lines x) b.cut (reading_cut x) in
    record {
      lines = b.lines;
      unheard = wire_lines x;
      events = b.events;
      last = w.last.standing;
      whole = ap wire_lines w.whole ∙ (lines_are (w.taken ++ w.left) (b.lines ++ wire_lines x) (wire_rest x) cut).0;
      woven = b.woven;
      replies = b.replies;
      messages = woven_messages setting directory b.woven;
      stands = woven_stands setting directory b.woven;
      ended = elim w.ended [
        | inl e ↦ inl (ap (λ (l : List ℕ). wire_lines (w.last.unfinished ++ l)) e ∙ ap wire_lines (append-nil w.last.unfinished) ∙ uncut_lines w.last.unfinished b.cut.open_end)
        | inr e ↦ inr e
      ];
    }

-- some of the lines of these bytes, and what comes behind them
pub behind_lines : (bytes : List ℕ) (lines more : List (List ℕ)) → wire_lines bytes ≡ lines ++ more → bytes ≡ joined lines ++ (joined more ++ wire_rest bytes)
behind_lines bytes lines more e = (reading_cut bytes).whole
    ∙ ap (λ (ls : List (List ℕ)). joined ls ++ wire_rest bytes) e
    ∙ ap (λ (l : List ℕ). l ++ wire_rest bytes) (flat_map-append (λ l. l ++ crlf) lines more)
    ∙ append_assoc (joined lines) (joined more) (wire_rest bytes)

pub heard_are_first : HeardAreFirst
heard_are_first setting directory bytes said judged h = elim h.ended [
  | inl none_left ↦ record {
    taken = bytes;
    left = [];
    rest = wire_rest bytes;
    whole = sym (append-nil bytes);
    cut = subst (λ (ls : List (List ℕ)). IsCut bytes ls (wire_rest bytes)) (h.whole ∙ ap (λ (ls : List (List ℕ)). h.lines ++ ls) none_left ∙ append-nil h.lines) (reading_cut bytes);
    ended = inl refl;
  }
  | inr over ↦ record {
    taken = joined h.lines;
    left = joined h.unheard ++ wire_rest bytes;
    rest = [];
    whole = behind_lines bytes h.lines h.unheard h.whole;
    cut = record {
      whole = sym (append-nil (joined h.lines));
      each = all_front IsUncut h.lines h.unheard (subst (λ (ls : List (List ℕ)). All IsUncut ls) h.whole (reading_cut bytes).each);
      open_end = uncut_nil;
    };
    ended = inr (over, refl);
  }
]
