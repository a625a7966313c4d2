-- What a connection prints is the next of what it has said, or nothing.
use Rattle.std.proofs.Common.{◌≡◌, ℕ, ◌+◌, ◌⊎◌, inl, inr, Bool, true, false, List, [], ◌++◌, refl, subst, ap, ap₂, sym, ◌∙◌, append-nil, Option, Some, None}
use Rattle.std.proofs.lemmas.Bool.{false≢true}
use Rattle.std.proofs.lemmas.Grind.{flat_map-append}
use Rattle.delivery_token.specs.declared.Job.{Job}
use Rattle.delivery_token.specs.declared.log.Noted.{Noted}
use Rattle.shard_queue.specs.declared.lane.Entry.{Entry}
use Rattle.lmtp_machine.specs.Calls.{Tells}
use Rattle.lmtp_machine.specs.declared.connection.What.{What}
use Rattle.lmtp_machine.specs.declared.connection.What.TheVariants.{More, Submit, Quit}
use Rattle.lmtp_machine.specs.declared.reply.Reply.{Reply}
use Rattle.lmtp_machine.specs.Dialogue.{wire}
use Rattle.house_peers.specs.Caller.{GoesOn, Caller, Proceeds, Terms, Works, answers, fades, lingers, stalls, talks, waits, with_unsaid, works}
use Rattle.line_io.specs.Wire.{marked}
use Rattle.house.specs.Printing.{ConnectionGoes, Leaves, Prints, goes, of_connection, prints_all, prints_none, stays}
use Rattle.house.proofs.Callers.{does_serial}
use Rattle.laws_relay.specs.Handed.{IsInLine}
use Rattle.laws_relay.proofs.Marked.{prints_nothing, prints_tell}
use Rattle.laws_relay.proofs.Seated.{IsKnown, proceeds_known, with_marks}

wire-append : (host : List ℕ) (xs ys : List Reply) → wire host (xs ++ ys) ≡ wire host xs ++ wire host ys
wire-append host xs ys = flat_map-append _ xs ys

-- nothing was told, and so much is still to be printed
same_known : (g : Terms) (seat : ℕ) (heard : List Noted) (sent : ℕ → List (Entry Job)) (came told more : List ℕ) (b : Caller) (still : List ℕ)
    → still ≡ b.talk.unsaid → more ≡ [] → IsKnown g seat heard sent came told b → IsKnown g seat heard sent came (told ++ more) (with_unsaid still b)
same_known g seat heard sent came told more b still e none h = record {
  taken = h.taken;
  waited = h.waited;
  said = h.said;
  printed = h.printed;
  unprinted = h.unprinted;
  submitted = h.submitted;
  judged = h.judged;
  answered = h.answered;
  come = h.come;
  came_is = h.came_is;
  said_is = h.said_is;
  told_is = ap (λ (l : List ℕ). told ++ l) none ∙ append-nil told ∙ h.told_is;
  reads = h.reads;
  says = λ x. e ∙ h.says x;
  silent = λ x. e ∙ h.silent x;
  awaited = h.awaited;
  parts = h.parts;
  heard_each = h.heard_each;
  sent_each = h.sent_each;
  left = h.left;
}

-- all of it was told
all_known : (g : Terms) (seat : ℕ) (heard : List Noted) (sent : ℕ → List (Entry Job)) (came told more : List ℕ) (b : Caller) (still : List ℕ)
    → b.gone ≡ false → still ≡ [] → (h : IsKnown g seat heard sent came told b) → wire g.host h.unprinted ≡ more → IsKnown g seat heard sent came (told ++ more) (with_unsaid still b)
all_known g seat heard sent came told more b still there e h same = record {
  taken = h.taken;
  waited = h.waited;
  said = h.said;
  printed = h.printed ++ h.unprinted;
  unprinted = [];
  submitted = h.submitted;
  judged = h.judged;
  answered = h.answered;
  come = h.come;
  came_is = h.came_is;
  said_is = h.said_is ∙ sym (append-nil (h.printed ++ h.unprinted));
  told_is = ap₂ (λ (x y : List ℕ). x ++ y) h.told_is (sym same) ∙ sym (wire-append g.host h.printed h.unprinted);
  reads = h.reads;
  says = λ x. e;
  silent = λ x. e;
  awaited = h.awaited;
  parts = h.parts;
  heard_each = h.heard_each;
  sent_each = h.sent_each;
  left = h.left;
}

printed_known : (g : Terms) (seat : ℕ) (heard : List Noted) (sent : ℕ → List (Entry Job)) (came told : List ℕ) (b : Caller) (still printed : List ℕ) (replies : List Reply)
    → IsInLine g.host
    → IsKnown g seat heard sent came told b → Prints of_connection (seat + 1) b.talk.unsaid still printed → printed ≡ marked of_connection (seat + 1) (wire g.host replies)
    → IsKnown g seat heard sent came (told ++ wire g.host replies) (with_unsaid still b)
printed_known g seat heard sent came told b still printed replies in_line h (prints_none l p) e =
    same_known g seat heard sent came told (wire g.host replies) b still l (prints_nothing g.host of_connection (seat + 1) replies in_line (sym e ∙ p)) h
printed_known g seat heard sent came told b still printed replies in_line h (prints_all l p) e = by b.gone refl
  where
    by : (gone : Bool) → b.gone ≡ gone → IsKnown g seat heard sent came (told ++ wire g.host replies) (with_unsaid still b)
    by true there =
        let silent : b.talk.unsaid ≡ [] = h.silent there in
        let none : printed ≡ [] = p ∙ ap (λ (l : List ℕ). marked of_connection (seat + 1) l) silent in
        same_known g seat heard sent came told (wire g.host replies) b still (l ∙ sym silent) (prints_nothing g.host of_connection (seat + 1) replies in_line (sym e ∙ none)) h
    by false there =
        all_known g seat heard sent came told (wire g.host replies) b still there l h
        (prints_tell g.host of_connection (seat + 1) h.unprinted replies in_line (ap (λ (l : List ℕ). marked of_connection (seat + 1) l) (sym (h.says there)) ∙ sym p ∙ e))

-- ---- what it went on to

-- what came for a connection, what it was told, and whether its peer was gone
pub record Past : Type 0 where
  pub came : List ℕ
  pub told : List ℕ
  pub gone : Bool

-- where its peer was there to the end, nothing is awaited of it and nothing still to be printed
abbrev pub HasEnded : Caller → Type 0
HasEnded b = b.gone ≡ false → (b.talk.pending ≡ []) × (b.talk.unsaid ≡ [])

-- what the connection of a serial went on to, and whether it stands there still
pub record WentOn (g : Terms) (seat : ℕ) (heard : List Noted) (sent : ℕ → List (Entry Job)) (past : Past) (serial : ℕ) (o : Option Caller) : Type 0 where
  pub last : Caller
  pub serial_is : last.serial ≡ serial
  pub known : IsKnown g seat heard sent past.came past.told last
  pub gone_is : last.gone ≡ past.gone
  pub here : ((o ≡ None) × HasEnded last) ⊎ (o ≡ Some last)

goes_gone : (k : Terms) (whole : Bool) (seat : ℕ) (heard : List Noted) (b : Caller) (what : What) (after : Caller) → GoesOn k whole seat heard b what after → after.gone ≡ b.gone
goes_gone k whole seat heard b what after (works none w) = ap (λ (x : Caller). x.gone) w.is
goes_gone k whole seat heard b what after (waits some unknown is same) = ap (λ (x : Caller). x.gone) same
goes_gone k whole seat heard b what after (answers vs some is w) = ap (λ (x : Caller). x.gone) w.is
goes_gone k whole seat heard b what after (stalls part is same) = ap (λ (x : Caller). x.gone) same

proceeds_gone : (k : Terms) (whole : Bool) (seat : ℕ) (heard : List Noted) (b : Caller) (what : What) (after : Caller) → Proceeds k whole seat heard b what after
    → after.gone ≡ b.gone
proceeds_gone k whole seat heard b what after (talks there g) = goes_gone k whole seat heard b what after g
proceeds_gone k whole seat heard b what after (lingers gone silent unknown is same) = ap (λ (x : Caller). x.gone) same
proceeds_gone k whole seat heard b what after (fades vs gone silent answered is same) = ap (λ (x : Caller). x.gone) same

-- one that has ended awaits nothing
works_quits : (k : Terms) (whole : Bool) (seat : ℕ) (b : Caller) (what : What) (after : Caller) → what ≡ Quit → Works k whole seat b what after → after.talk.pending ≡ []
works_quits k whole seat b what after q w =
    let tells : Tells Quit w.turn = subst (λ (x : What). Tells x w.turn) q w.works.tells in
    ap (λ (x : Caller). x.talk.pending) w.is ∙ w.works.submits ∙ tells.0

not_submit : Submit ≡ Quit → ⊥
not_submit e = cc

not_more : More ≡ Quit → ⊥
not_more e = cc

proceeds_quits : (k : Terms) (whole : Bool) (seat : ℕ) (heard : List Noted) (b : Caller) (what : What) (after : Caller) → what ≡ Quit → b.gone ≡ false
    → Proceeds k whole seat heard b what after
    → after.talk.pending ≡ []
proceeds_quits k whole seat heard b what after q there (talks read (works none w)) = works_quits k whole seat b what after q w
proceeds_quits k whole seat heard b what after q there (talks read (waits some unknown is same)) = absurd (not_submit (sym is ∙ q))
proceeds_quits k whole seat heard b what after q there (talks read (answers vs some is w)) = works_quits k whole seat _ what after q w
proceeds_quits k whole seat heard b what after q there (talks read (stalls part is same)) = absurd (not_more (sym is ∙ q))
proceeds_quits k whole seat heard b what after q there (lingers gone silent unknown is same) = absurd (false≢true (sym there ∙ gone))
proceeds_quits k whole seat heard b what after q there (fades vs gone silent answered is same) = absurd (false≢true (sym there ∙ gone))

pub goes_on_known : (g : Terms) (shut : List Bool) (whole : Bool) (seat : ℕ) (heard : List Noted) (sent : ℕ → List (Entry Job)) (came told : List ℕ) (b : Caller)
    (o : Option Caller) (printed : List ℕ) (replies : List Reply)
    → IsInLine g.host → IsKnown g seat heard sent came told b → ConnectionGoes (with_marks shut g) whole seat heard b o printed → printed ≡ marked of_connection (seat + 1) (wire g.host replies)
    → WentOn g seat heard sent (record { came = came; told = told ++ wire g.host replies; gone = b.gone }) b.serial o
goes_on_known g shut whole seat heard sent came told b o printed replies in_line h c e = record {
  last = with_unsaid c.still c.after;
  serial_is = does_serial (with_marks shut g) whole seat heard b c.what c.after c.proceeds;
  known = printed_known g seat heard sent came told c.after c.still printed replies in_line (proceeds_known g shut whole seat heard sent came told b c.what c.after h c.proceeds) c.prints e;
  gone_is = gone;
  here = by c.leaves;
}
  where
    gone : c.after.gone ≡ b.gone
    gone = proceeds_gone (with_marks shut g) whole seat heard b c.what c.after c.proceeds

    by : Leaves whole c.what (with_unsaid c.still c.after) o → ((o ≡ None) × HasEnded (with_unsaid c.still c.after)) ⊎ (o ≡ Some (with_unsaid c.still c.after))
    by (goes q u x) = inl (x, λ there. (proceeds_quits (with_marks shut g) whole seat heard b c.what c.after q (sym gone ∙ there) c.proceeds, u))
    by (stays q f x) = inr x
