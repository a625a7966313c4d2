-- What a call of `feed` leads to.
use Rattle.std.proofs.Common.{◌≡◌, ℕ, ◌+◌, ◌<◌, Bool, true, false, List, [], ◌∷◌, ◌++◌, length, take, map, refl, ap, sym, subst, ◌∙◌, inl, inr, append_assoc, arith}
use Rattle.std.specs.Prelude.{All, ◌==◌, ◌≢◌, ◌⊎◌, if◌then◌else◌}
use Rattle.std.proofs.lemmas.Bool.{eqb-true}
use Rattle.std.proofs.lemmas.List.{append-nil, same_from_push, length-replicate}
use Rattle.std.proofs.lemmas.List.Elements.{All-nil, All-append, All-head, All-tail}
use Rattle.std.proofs.lemmas.List.Concat.{flat_map-append}
use Rattle.line_io.specs.Wire.{crlf, IsCut, IsUncut, EndsInCr, joined, wire_lines, wire_rest}
use Rattle.line_io.specs.inner.WireLaws.{reading_cut, lines_are, wire_join, wire_joined, uncut_nil}
use Rattle.line_io.specs.Cutting.{LineCutter, EndsLine, StandsFor as HasTaken}
use Rattle.dot_stuffing.specs.Data.{dot, Plain}
use Rattle.dot_stuffing.specs.Unstuffing.{IsBehind, Unstuffer, Tells as TellsData, StandsFor as HasUnstuffed}
use Rattle.dot_stuffing.specs.declared.Outcome.{Outcome}
use Rattle.dot_stuffing.specs.declared.Outcome.TheVariants as outcomes
use Rattle.dot_stuffing.specs.declared.Progress.TheVariants.{Done}
use Rattle.envelope.specs.Names.{Directory}
use Rattle.lmtp_machine.specs.declared.commands.Stage.{Stage}
use Rattle.lmtp_machine.specs.declared.commands.Stage.TheVariants as stages
use Rattle.lmtp_machine.specs.declared.connection.What.{What}
use Rattle.lmtp_machine.specs.declared.connection.What.TheVariants.{More, Quit}
use Rattle.lmtp_machine.specs.declared.reply.Reply.{Reply}
use Rattle.lmtp_machine.specs.declared.reply.Reply.TheVariants.{LineTooLong, OutOfMemory, MessageTooBig, NulByte}
use Rattle.lmtp_machine.specs.Dialogue.{wire, Phase, Start, Ready, Transaction, Data, Waiting, Ended, Standing, Setting, Submission, Event, Line, Starved, Turn, turn, dialogue, on_event, on_line, on_command_line, on_outcome, at_end, is_dot}
use Rattle.lmtp_machine.specs.Message.{plain, outcome, return_path}
use Rattle.lmtp_machine.specs.Standing.{Commands, standing_of, phase_of, IsOpen, Takes}
use Rattle.lmtp_machine.specs.Conversation.{Conversation, Heard, none, line, starved, IsListening, MayHear, EachMayBeHeard, ◌⨾◌, IsQuiet}
use Rattle.lmtp_machine.specs.LmtpMachine.{LmtpMachine, BetweenLines, WithinData, IsHere, StandsFor}
use Rattle.lmtp_machine.specs.inner.LmtpMachine.{IsPending}
use Rattle.lmtp_machine.specs.Calls.{Follows, Tells}
use Rattle.lmtp_machine.specs.inner.Ending.{Becomes, Does, IsBetween, what_of}
use Rattle.lmtp_machine.proofs.Pieces.{goes_on, heard-append, may-append}
use Rattle.lmtp_machine.proofs.Turns.{IsGoing, Spoken, line_spoken, too_long, outcome_is, is_refused}

-- ---- wire lines

uncut_is : (s : List ℕ) → IsUncut s → (wire_lines s ≡ []) × (wire_rest s ≡ s)
uncut_is s h = lines_are s [] s (record { whole = refl; each = All-nil IsUncut; open_end = h })

uncut_from : (s : List ℕ) → wire_lines s ≡ [] → IsUncut s
uncut_from s e =
    let c : IsCut s [] (wire_rest s) = subst (λ (ls : List (List ℕ)). IsCut s ls (wire_rest s)) e (reading_cut s) in
    subst (λ (t : List ℕ). IsUncut t) (sym c.whole) c.open_end

-- a cutter knows its stream by what has not ended
taken_as : (cutter : LineCutter) (s t : List ℕ) → wire_rest s ≡ wire_rest t → HasTaken cutter s → HasTaken cutter t
taken_as cutter s t r h = record {
  kept = h.kept ∙ ap (λ (u : List ℕ). take cutter.max u) r;
  cr = subst (λ (u : List ℕ). cutter.after_cr ≡ true → EndsInCr u) r h.cr;
  no_cr = subst (λ (u : List ℕ). cutter.after_cr ≡ false → EndsInCr u → ⊥) r h.no_cr;
}

-- ---- stages

between_open : (stage : Stage) (m : LmtpMachine) (c : Conversation) → IsOpen stage → IsHere stage m c → BetweenLines m c
between_open stages.Start m c o h = h
between_open stages.Ready m c o h = h
between_open stages.Transaction m c o h = h
between_open stages.Data m c o h = absurd o
between_open stages.Waiting m c o h = absurd o
between_open stages.Ended m c o h = absurd o

here_between : (stage : Stage) (m : LmtpMachine) (c : Conversation) → IsBetween stage → BetweenLines m c → IsHere stage m c
here_between stages.Start m c b h = h
here_between stages.Ready m c b h = h
here_between stages.Transaction m c b h = h
here_between stages.Data m c b h = absurd b
here_between stages.Waiting m c b h = h
here_between stages.Ended m c b h = absurd b

open_going : (stage : Stage) (sender recipients : List ℕ) → IsOpen stage → IsGoing (phase_of stage sender recipients)
open_going stages.Start sender recipients o = tt
open_going stages.Ready sender recipients o = tt
open_going stages.Transaction sender recipients o = tt
open_going stages.Data sender recipients o = absurd o
open_going stages.Waiting sender recipients o = absurd o
open_going stages.Ended sender recipients o = absurd o

open_between : (stage : Stage) → IsOpen stage → IsBetween stage
open_between stages.Start o = tt
open_between stages.Ready o = tt
open_between stages.Transaction o = tt
open_between stages.Data o = absurd o
open_between stages.Waiting o = absurd o
open_between stages.Ended o = absurd o

open_listening : (stage : Stage) (sender recipients : List ℕ) → IsOpen stage → IsListening (phase_of stage sender recipients)
open_listening stages.Start sender recipients o = tt
open_listening stages.Ready sender recipients o = tt
open_listening stages.Transaction sender recipients o = tt
open_listening stages.Data sender recipients o = absurd o
open_listening stages.Waiting sender recipients o = absurd o
open_listening stages.Ended sender recipients o = absurd o

-- between commands, where a command line may come
listens_at : (m : LmtpMachine) (c : Conversation) → IsOpen m.commands.stage → BetweenLines m c → IsListening c.standing.phase
listens_at m c o b = subst (λ (x : Standing). IsListening x.phase) (sym b.standing) (open_listening m.commands.stage m.commands.sender m.commands.recipients o)

open_more : (stage : Stage) → IsOpen stage → what_of stage ≡ More
open_more stages.Start o = refl
open_more stages.Ready o = refl
open_more stages.Transaction o = refl
open_more stages.Data o = absurd o
open_more stages.Waiting o = absurd o
open_more stages.Ended o = absurd o

pub open_pending : (stage : Stage) (recipients : List ℕ) (pending : List Submission) → IsOpen stage → IsPending stage recipients pending → pending ≡ []
open_pending stages.Start recipients pending o h = h
open_pending stages.Ready recipients pending o h = h
open_pending stages.Transaction recipients pending o h = h
open_pending stages.Data recipients pending o h = absurd o
open_pending stages.Waiting recipients pending o h = absurd o
open_pending stages.Ended recipients pending o h = absurd o

open_not_ended : (stage : Stage) (sender recipients : List ℕ) → IsOpen stage → phase_of stage sender recipients ≡ Ended → ⊥
open_not_ended stages.Start sender recipients o e = let k : ◌≡◌ {A = Phase} Start Ended = e in cc
open_not_ended stages.Ready sender recipients o e = let k : ◌≡◌ {A = Phase} Ready Ended = e in cc
open_not_ended stages.Transaction sender recipients o e = let k : ◌≡◌ {A = Phase} (Transaction sender recipients) Ended = e in cc
open_not_ended stages.Data sender recipients o e = absurd o
open_not_ended stages.Waiting sender recipients o e = absurd o
open_not_ended stages.Ended sender recipients o e = absurd o

line_at : (setting : Setting) (directory : Directory) (stage : Stage) (sender recipients : List ℕ) (n : ℕ) (l : List ℕ) → IsOpen stage
    → on_line setting directory (phase_of stage sender recipients) n l ≡ on_command_line directory (record { phase = phase_of stage sender recipients; submitted = n }) l
line_at setting directory stages.Start sender recipients n l o = refl
line_at setting directory stages.Ready sender recipients n l o = refl
line_at setting directory stages.Transaction sender recipients n l o = refl
line_at setting directory stages.Data sender recipients n l o = absurd o
line_at setting directory stages.Waiting sender recipients n l o = absurd o
line_at setting directory stages.Ended sender recipients n l o = absurd o

tells_of : (stage : Stage) (sender recipients : List ℕ) (t : Turn) → phase_of stage sender recipients ≡ t.standing.phase → Spoken t → Tells (what_of stage) t
tells_of stages.Start sender recipients t e s = (s.submissions, subst (λ (p : Phase). IsListening p) e tt)
tells_of stages.Ready sender recipients t e s = (s.submissions, subst (λ (p : Phase). IsListening p) e tt)
tells_of stages.Transaction sender recipients t e s = (s.submissions, subst (λ (p : Phase). IsListening p) e tt)
tells_of stages.Data sender recipients t e s = (s.submissions, subst (λ (p : Phase). IsListening p) e tt)
tells_of stages.Waiting sender recipients t e s = absurd (subst (λ (p : Phase). IsGoing p) (sym e) s.going)
tells_of stages.Ended sender recipients t e s = (s.submissions, sym e)

-- ---- events

one_event : (setting : Setting) (directory : Directory) (s : Standing) (e : Event) → dialogue setting directory s (e ∷ []) ≡ on_event setting directory s e
one_event setting directory s e =
    let t : Turn = on_event setting directory s e in
    ap (λ (rs : List Reply). let u : Turn = record { standing = t.standing; replies = rs; submissions = t.submissions ++ [] } in u) (append-nil t.replies)
    ∙ ap (λ (ss : List Submission). let u : Turn = record { standing = t.standing; replies = t.replies; submissions = ss } in u) (append-nil t.submissions)

-- before the only event nothing happens
before_only : (setting : Setting) (directory : Directory) (s : Standing) (e : Event) (events : List Event) (last : Event) → e ∷ [] ≡ events ++ last ∷ [] → IsQuiet (dialogue setting directory s events)
before_only setting directory s e [] last h = (refl, refl)
before_only setting directory s e (f ∷ []) last h = absurd (let k : ◌≡◌ {A = List Event} [] (last ∷ []) = cc in cc)
before_only setting directory s e (f ∷ g ∷ events) last h = absurd (let k : ◌≡◌ {A = List Event} [] (g ∷ events ++ last ∷ []) = cc in cc)

before_none : (setting : Setting) (directory : Directory) (s : Standing) (events : List Event) (last : Event) → [] ≡ events ++ last ∷ [] → IsQuiet (dialogue setting directory s events)
before_none setting directory s [] last h = (refl, refl)
before_none setting directory s (f ∷ events) last h = absurd (let k : ◌≡◌ {A = List Event} [] (f ∷ events ++ last ∷ []) = h in cc)

-- ---- a command line

after_line : (stage : Stage) (new : LmtpMachine) (t : Turn) → new.commands.stage ≡ stage → standing_of new.commands ≡ t.standing → IsGoing t.standing.phase → HasTaken new.cutter [] → HasUnstuffed new.unstuffer []
    → (new.commands.stage ≡ stages.Data → IsBehind new.unstuffer.collected (return_path new.commands.sender))
    → IsHere stage new (record { standing = t.standing; unfinished = [] })
after_line stages.Start new t e s g k u f = record { standing = sym s; cutter = k; unstuffer = u }
after_line stages.Ready new t e s g k u f = record { standing = sym s; cutter = k; unstuffer = u }
after_line stages.Transaction new t e s g k u f = record { standing = sym s; cutter = k; unstuffer = u }
after_line stages.Data new t e s g k u f =
    let p : t.standing.phase ≡ Data new.commands.sender new.commands.recipients [] =
    ap (λ (x : Standing). x.phase) (sym s) ∙ ap (λ (x : Stage). phase_of x new.commands.sender new.commands.recipients) e in
    record {
      lines = [];
      each = All-nil IsUncut;
      some = subst (λ (x : Phase). IsGoing x) p g;
      phase = p;
      submitted = ap (λ (x : Standing). x.submitted) (sym s);
      cutter = k;
      unstuffer = u;
      behind = f e;
    }
after_line stages.Waiting new t e s g k u f = record { standing = sym s; cutter = k; unstuffer = u }
after_line stages.Ended new t e s g k u f = sym s

pub line_follows : (m new : LmtpMachine) (directory : Directory) (c : Conversation) (piece : List ℕ) (used : ℕ) (what : What) (old out l : List ℕ)
    → IsOpen m.commands.stage → StandsFor m c → (HasUnstuffed m.unstuffer [] → HasUnstuffed new.unstuffer [])
    → (new.commands.stage ≡ stages.Data → IsBehind new.unstuffer.collected (return_path new.commands.sender)) → HasTaken new.cutter (c.unfinished ++ take used piece)
    → EndsLine c.unfinished (take used piece) l → Takes m.host (on_command_line directory (standing_of m.commands) l) new.commands old out
    → new.pending ≡ [] → what ≡ what_of new.commands.stage
    → Follows (StandsFor new) m.setting m.host directory c piece (record { used = used; what = what }) old out new.pending
line_follows m new directory c piece used what old out l o s goes behind kt el tk ep ew =
    let b : BetweenLines m c = between_open m.commands.stage m c o s.here in
    let t : Turn = on_command_line directory (standing_of m.commands) l in
    let spoken : Spoken t = line_spoken directory (phase_of m.commands.stage m.commands.sender m.commands.recipients) m.commands.submitted l (open_going m.commands.stage m.commands.sender m.commands.recipients o) in
    let bytes : List ℕ = c.unfinished ++ take used piece in
    let ls : wire_lines bytes ≡ l ∷ [] = el.lines ∙ ap (λ (x : List (List ℕ)). x ++ l ∷ []) (uncut_is c.unfinished s.open_end).0 in
    let after : Conversation = record { standing = t.standing; unfinished = [] } in
    record {
      turn = t;
      after = after;
      leads = record {
        lines = l ∷ [];
        events = Line l ∷ [];
        cut = subst (λ (x : List (List ℕ)). IsCut bytes x []) ls (subst (λ (x : List ℕ). IsCut bytes (wire_lines bytes) x) el.rest (reading_cut bytes));
        heard = line l none;
        may = (listens_at m c o b, tt);
        turns =
            sym (line_at m.setting directory m.commands.stage m.commands.sender m.commands.recipients m.commands.submitted l o)
            ∙ sym (one_event m.setting directory (standing_of m.commands) (Line l))
            ∙ ap (λ (x : Standing). dialogue m.setting directory x (Line l ∷ [])) (sym b.standing);
        stands = refl;
        behind = inr (inr refl);
      };
      stands = record {
        open_end = uncut_nil;
        here = after_line new.commands.stage new t refl tk.standing spoken.going (taken_as new.cutter bytes [] el.rest kt) (goes b.unstuffer) behind;
      };
      said = tk.said;
      tells = subst (λ (w : What). Tells w t) (sym ew) (tells_of new.commands.stage new.commands.sender new.commands.recipients t (ap (λ (x : Standing). x.phase) tk.standing) spoken);
      submits = ep ∙ sym spoken.submissions;
      stops = λ h. inl (let one = spoken.said in omega (arith, one));
      one = λ events last h. before_only m.setting directory c.standing (Line l) events last h;
      ended = λ e. absurd (open_not_ended m.commands.stage m.commands.sender m.commands.recipients o (ap (λ (x : Standing). x.phase) (sym b.standing) ∙ e));
    }

-- the line has not ended
pub more_follows : (m new : LmtpMachine) (directory : Directory) (c : Conversation) (piece : List ℕ) (used : ℕ) (what : What) (old out : List ℕ)
    → IsOpen m.commands.stage → StandsFor m c → new.commands ≡ m.commands → new.unstuffer ≡ m.unstuffer → HasTaken new.cutter (c.unfinished ++ take used piece)
    → wire_lines (c.unfinished ++ take used piece) ≡ wire_lines c.unfinished → used ≡ length piece → out ≡ old → new.pending ≡ [] → what ≡ what_of new.commands.stage
    → Follows (StandsFor new) m.setting m.host directory c piece (record { used = used; what = what }) old out new.pending
more_follows m new directory c piece used what old out o s ec eu kt el all eo ep ew =
    let b : BetweenLines m c = between_open m.commands.stage m c o s.here in
    let bytes : List ℕ = c.unfinished ++ take used piece in
    let uncut : IsUncut bytes = uncut_from bytes (el ∙ (uncut_is c.unfinished s.open_end).0) in
    let t : Turn = turn c.standing.phase c.standing.submitted [] in
    let after : Conversation = record { standing = c.standing; unfinished = bytes } in
    let o' : IsOpen new.commands.stage = subst (λ (x : Commands). IsOpen x.stage) (sym ec) o in
    record {
      turn = t;
      after = after;
      leads = record { lines = []; events = []; cut = record { whole = refl; each = All-nil IsUncut; open_end = uncut }; heard = none; may = tt; turns = refl; stands = refl; behind = inl (listens_at m c o b) };
      stands = record {
        open_end = uncut;
        here = here_between new.commands.stage new after (open_between new.commands.stage o') (record {
          standing = b.standing ∙ ap (λ (x : Commands). standing_of x) (sym ec);
          cutter = kt;
          unstuffer = subst (λ (u : Unstuffer). HasUnstuffed u []) (sym eu) b.unstuffer;
        });
      };
      said = eo ∙ sym (append-nil old);
      tells = subst (λ (w : What). Tells w t) (sym (ew ∙ open_more new.commands.stage o'))
          (refl, subst (λ (x : Standing). IsListening x.phase) (sym b.standing) (open_listening m.commands.stage m.commands.sender m.commands.recipients o));
      submits = ep;
      stops = λ h. absurd (omega (arith, h, all));
      one = λ events last h. before_none m.setting directory c.standing events last h;
      ended = λ e. absurd (open_not_ended m.commands.stage m.commands.sender m.commands.recipients o (ap (λ (x : Standing). x.phase) (sym b.standing) ∙ e));
    }

-- a line that is too long was answered as one
pub long_takes : (m new : LmtpMachine) (directory : Directory) (l old out : List ℕ) → new.commands ≡ m.commands → 512 < length l + 2 → out ≡ old ++ wire m.host (LineTooLong ∷ [])
    → Takes m.host (on_command_line directory (standing_of m.commands) l) new.commands old out
long_takes m new directory l old out ec h eo =
    let e = too_long directory (phase_of m.commands.stage m.commands.sender m.commands.recipients) m.commands.submitted l h in
    record {
      standing = ap (λ (x : Commands). standing_of x) ec ∙ ap (λ (t : Turn). t.standing) (sym e);
      said = eo ∙ ap (λ (t : Turn). old ++ wire m.host t.replies) (sym e);
    }

-- where the commands stay, no data begins
pub no_data_begins : (m new : LmtpMachine) → IsOpen m.commands.stage → new.commands ≡ m.commands
    → new.commands.stage ≡ stages.Data → IsBehind new.unstuffer.collected (return_path new.commands.sender)
no_data_begins m new o ec e = absurd (subst (λ (x : Stage). IsOpen x) (ap (λ (x : Commands). x.stage) (sym ec) ∙ e) o)

-- the same answer under other names
pub takes_as : (directory : Directory) (host host' : List ℕ) (a a' b b' : Commands) (l l' old old' out out' : List ℕ)
    → host ≡ host' → a ≡ a' → b ≡ b' → l ≡ l' → old ≡ old' → out ≡ out'
    → Takes host (on_command_line directory (standing_of a) l) b old out → Takes host' (on_command_line directory (standing_of a') l') b' old' out'
takes_as directory host host' a a' b b' l l' old old' out out' eh ea eb el eo en k =
    subst (λ (x : List ℕ). Takes x (on_command_line directory (standing_of a') l') b' old' out') eh
    (subst (λ (x : Commands). Takes host (on_command_line directory (standing_of x) l') b' old' out') ea
    (subst (λ (x : Commands). Takes host (on_command_line directory (standing_of a) l') x old' out') eb
    (subst (λ (x : List ℕ). Takes host (on_command_line directory (standing_of a) x) b old' out') el
    (subst (λ (x : List ℕ). Takes host (on_command_line directory (standing_of a) l) b x out') eo
    (subst (λ (x : List ℕ). Takes host (on_command_line directory (standing_of a) l) b old x) en k)))))

-- between commands the cutter has what has come of the next line
pub cutter_of : (m : LmtpMachine) (c : Conversation) → IsOpen m.commands.stage → StandsFor m c → HasTaken m.cutter c.unfinished
cutter_of m c o s = (between_open m.commands.stage m c o s.here).cutter

-- ---- data

is_not_dot : (l : List ℕ) → l ≢ dot → is_dot l ≡ false
is_not_dot [] h = refl
is_not_dot (b ∷ c ∷ bs) h = refl
is_not_dot (b ∷ []) h = decide (b == 46) refl
  where
    decide : (t : Bool) → (b == 46) ≡ t → (b == 46) ≡ false
    decide true e = absurd (h (ap (λ (x : ℕ). x ∷ []) (eqb-true b 46 e)))
    decide false e = e

all_right : (xs ys : List (List ℕ)) → All (λ l. l ≢ dot) (xs ++ ys) → All (λ l. l ≢ dot) ys
all_right [] ys h = h
all_right (x ∷ xs) ys h = all_right xs ys (All-tail (λ l. l ≢ dot) x (xs ++ ys) h)

nil_front : {X : Type 0} → (xs ys : List X) → xs ++ ys ≡ [] → xs ≡ []
nil_front [] ys e = refl
nil_front (x ∷ xs) ys e = absurd (let k : x ∷ (xs ++ ys) ≡ [] = e in cc)

heard_lines : (ls : List (List ℕ)) → Heard ls (map Line ls)
heard_lines [] = none
heard_lines (l ∷ ls) = line l (heard_lines ls)

abbrev in_data : List ℕ → List ℕ → List (List ℕ) → ℕ → Standing
in_data sender recipients lines n = record { phase = Data sender recipients lines; submitted = n }

-- lines of data are kept, and nothing is said
data_lines : (setting : Setting) (directory : Directory) (n : ℕ) (sender recipients : List ℕ) (lines ls : List (List ℕ)) → All (λ l. l ≢ dot) ls
    → dialogue setting directory (in_data sender recipients lines n) (map Line ls) ≡ turn (Data sender recipients (lines ++ ls)) n []
data_lines setting directory n sender recipients lines [] h = ap (λ (x : List (List ℕ)). turn (Data sender recipients x) n []) (sym (append-nil lines))
data_lines setting directory n sender recipients lines (l ∷ ls) h =
    let f : Bool → Turn = λ b.
    let first : Turn = (if b then at_end setting false n sender recipients lines else turn (Data sender recipients (lines ++ l ∷ [])) n []) in
    first ⨾ dialogue setting directory first.standing (map Line ls) in
    ap f (is_not_dot l (All-head (λ l. l ≢ dot) l ls h))
    ∙ data_lines setting directory n sender recipients (lines ++ l ∷ []) ls (All-tail (λ l. l ≢ dot) l ls h)
    ∙ ap (λ (x : List (List ℕ)). turn (Data sender recipients x) n []) (append_assoc lines (l ∷ []) ls)

-- and each of them may be heard
data_may : (setting : Setting) (directory : Directory) (n : ℕ) (sender recipients : List ℕ) (lines ls : List (List ℕ)) → All (λ l. l ≢ dot) ls
    → EachMayBeHeard setting directory (in_data sender recipients lines n) (map Line ls)
data_may setting directory n sender recipients lines [] h = tt
data_may setting directory n sender recipients lines (l ∷ ls) h =
    let next : Bool → Turn = λ b. (if b then at_end setting false n sender recipients lines else turn (Data sender recipients (lines ++ l ∷ [])) n []) in (
      tt,
      subst (λ (b : Bool). EachMayBeHeard setting directory (next b).standing (map Line ls)) (sym (is_not_dot l (All-head (λ l. l ≢ dot) l ls h)))
          (data_may setting directory n sender recipients (lines ++ l ∷ []) ls (All-tail (λ l. l ≢ dot) l ls h)),
    )

-- a quiet dialogue was quiet on the way
quiet_before : (setting : Setting) (directory : Directory) (s : Standing) (events more : List Event) → IsQuiet (dialogue setting directory s (events ++ more)) → IsQuiet (dialogue setting directory s events)
quiet_before setting directory s events more h =
    let first : Turn = dialogue setting directory s events in
    let others : Turn = dialogue setting directory first.standing more in
    let e : dialogue setting directory s (events ++ more) ≡ first ⨾ others = goes_on setting directory s events more in
    (nil_front first.replies others.replies (ap (λ (t : Turn). t.replies) (sym e) ∙ h.0), nil_front first.submissions others.submissions (ap (λ (t : Turn). t.submissions) (sym e) ∙ h.1))

within : (m : LmtpMachine) (c : Conversation) → m.commands.stage ≡ stages.Data → StandsFor m c → WithinData m c
within m c e s = subst (λ (x : Stage). IsHere x m c) e s.here

standing_in : (m : LmtpMachine) (c : Conversation) (d : WithinData m c) → c.standing ≡ in_data m.commands.sender m.commands.recipients d.lines m.commands.submitted
standing_in m c d =
    ap (λ (p : Phase). let s : Standing = record { phase = p; submitted = c.standing.submitted } in s) d.phase
    ∙ ap (λ (n : ℕ). in_data m.commands.sender m.commands.recipients d.lines n) d.submitted

may_at : (setting : Setting) (directory : Directory) (m : LmtpMachine) (c : Conversation) (d : WithinData m c) (events : List Event)
    → EachMayBeHeard setting directory (in_data m.commands.sender m.commands.recipients d.lines m.commands.submitted) events → EachMayBeHeard setting directory c.standing events
may_at setting directory m c d events h = subst (λ (x : Standing). EachMayBeHeard setting directory x events) (sym (standing_in m c d)) h

not_ended_in_data : (m : LmtpMachine) (c : Conversation) → WithinData m c → c.standing.phase ≡ Ended → ⊥
not_ended_in_data m c d e = let k : ◌≡◌ {A = Phase} (Data m.commands.sender m.commands.recipients d.lines) Ended = sym d.phase ∙ e in cc

-- the lines and the rest of data that goes on
data_joined : (lines : List (List ℕ)) (bytes : List ℕ) → All IsUncut lines → (wire_lines (joined lines ++ bytes) ≡ lines ++ wire_lines bytes) × (wire_rest (joined lines ++ bytes) ≡ wire_rest bytes)
data_joined lines bytes h =
    let j = wire_joined lines h in
    let k = wire_join (joined lines) bytes j.1 in
    (k.0 ∙ ap (λ (x : List (List ℕ)). x ++ wire_lines bytes) j.0, k.1)

pub data_more_follows : (m new : LmtpMachine) (directory : Directory) (c : Conversation) (piece : List ℕ) (used : ℕ) (old out : List ℕ)
    → m.commands.stage ≡ stages.Data → StandsFor m c → new.commands ≡ m.commands → new.cutter ≡ m.cutter
    → ((wire : List ℕ) → HasUnstuffed m.unstuffer wire → HasUnstuffed new.unstuffer (wire ++ take used piece))
    → ((front : List ℕ) → IsBehind m.unstuffer.collected front → IsBehind new.unstuffer.collected front)
    → used ≡ length piece → out ≡ old → new.pending ≡ []
    → Follows (StandsFor new) m.setting m.host directory c piece (record { used = used; what = More }) old out new.pending
data_more_follows m new directory c piece used old out es s ec ek goes stays all eo ep =
    let d : WithinData m c = within m c es s in
    let bytes : List ℕ = c.unfinished ++ take used piece in
    let u : HasUnstuffed new.unstuffer (joined d.lines ++ bytes) = subst (λ (w : List ℕ). HasUnstuffed new.unstuffer w) (append_assoc (joined d.lines) c.unfinished (take used piece)) (goes (joined d.lines ++ c.unfinished) d.unstuffer) in
    let j = data_joined d.lines bytes d.each in
    let news : List (List ℕ) = wire_lines bytes in
    let none_dot : All (λ l. l ≢ dot) news = all_right d.lines news (subst (λ (x : List (List ℕ)). All (λ l. l ≢ dot) x) j.0 u.wire_at.is_open) in
    let cut : IsCut bytes news (wire_rest bytes) = reading_cut bytes in
    let t : Turn = turn (Data m.commands.sender m.commands.recipients (d.lines ++ news)) m.commands.submitted [] in
    let after : Conversation = record { standing = t.standing; unfinished = wire_rest bytes } in
    let said : dialogue m.setting directory c.standing (map Line news) ≡ t =
    ap (λ (x : Standing). dialogue m.setting directory x (map Line news)) (standing_in m c d)
    ∙ data_lines m.setting directory m.commands.submitted m.commands.sender m.commands.recipients d.lines news none_dot in
    let whole : joined d.lines ++ bytes ≡ joined (d.lines ++ news) ++ wire_rest bytes =
    ap (λ (x : List ℕ). joined d.lines ++ x) cut.whole ∙ sym (append_assoc (joined d.lines) (joined news) (wire_rest bytes))
    ∙ ap (λ (x : List ℕ). x ++ wire_rest bytes) (sym (flat_map-append (λ l. l ++ crlf) d.lines news)) in
    let w : WithinData new after = record {
      lines = d.lines ++ news;
      each = All-append IsUncut d.lines news d.each cut.each;
      some = subst (λ (x : Commands). 0 < length x.recipients) (sym ec) d.some;
      phase = ap (λ (x : Commands). Data x.sender x.recipients (d.lines ++ news)) (sym ec);
      submitted = ap (λ (x : Commands). x.submitted) (sym ec);
      cutter = subst (λ (k : LineCutter). HasTaken k []) (sym ek) d.cutter;
      unstuffer = subst (λ (x : List ℕ). HasUnstuffed new.unstuffer x) whole u;
      behind = stays (return_path new.commands.sender) (subst (λ (x : Commands). IsBehind m.unstuffer.collected (return_path x.sender)) (sym ec) d.behind);
    } in
    record {
      turn = t;
      after = after;
      leads = record {
        lines = news;
        events = map Line news;
        cut = cut;
        heard = heard_lines news;
        may = may_at m.setting directory m c d (map Line news) (data_may m.setting directory m.commands.submitted m.commands.sender m.commands.recipients d.lines news none_dot);
        turns = sym said;
        stands = refl;
        behind = inl tt;
      };
      stands = record { open_end = cut.open_end; here = subst (λ (x : Stage). IsHere x new after) (sym (ap (λ (x : Commands). x.stage) ec ∙ es)) w };
      said = eo ∙ sym (append-nil old);
      tells = (refl, tt);
      submits = ep;
      stops = λ h. absurd (omega (arith, h, all));
      one = λ events last h. quiet_before m.setting directory c.standing events (last ∷ [])
          (subst (λ (x : List Event). IsQuiet (dialogue m.setting directory c.standing x)) h (subst (λ (x : Turn). IsQuiet x) (sym said) (refl, refl)));
      ended = λ e. absurd (not_ended_in_data m c d e);
    }

-- the event that ends data
abbrev ends_by : Bool → Event
ends_by true = Starved
ends_by false = Line dot

heard_end : (refused : Bool) → Heard (dot ∷ []) (ends_by refused ∷ [])
heard_end true = starved none
heard_end false = line dot none

end_may : (refused : Bool) (sender recipients : List ℕ) (lines : List (List ℕ)) → MayHear (Data sender recipients lines) (ends_by refused)
end_may true sender recipients lines = tt
end_may false sender recipients lines = tt

end_event : (setting : Setting) (directory : Directory) (refused : Bool) (sender recipients : List ℕ) (lines : List (List ℕ)) (n : ℕ)
    → on_event setting directory (in_data sender recipients lines n) (ends_by refused) ≡ at_end setting refused n sender recipients lines
end_event setting directory true sender recipients lines n = refl
end_event setting directory false sender recipients lines n = refl

something : (setting : Setting) (n : ℕ) (sender recipients : List ℕ) (lines : List (List ℕ)) (o : Outcome) → 0 < length recipients
    → (0 < length (on_outcome setting n sender recipients lines o).replies) ⊎ (0 < length (on_outcome setting n sender recipients lines o).submissions)
something setting n sender recipients lines outcomes.TooBig h = inl (omega (arith, h, length-replicate (length recipients) MessageTooBig))
something setting n sender recipients lines outcomes.Nul h = inl (omega (arith, h, length-replicate (length recipients) NulByte))
something setting n sender recipients lines outcomes.NoMemory h = inl (omega (arith, h, length-replicate (length recipients) OutOfMemory))
something setting n sender recipients lines outcomes.Ok h = inr (omega arith)

-- the last line is the dot, and the lines before it are the text
record EndedBy (lines news lines' : List (List ℕ)) : Type 0 where
  front : List (List ℕ)
  news_are : news ≡ front ++ dot ∷ []
  lines_are : lines' ≡ lines ++ front

end_found : (lines news lines' : List (List ℕ)) → All (λ l. l ≢ dot) lines → lines ++ news ≡ lines' ++ dot ∷ [] → EndedBy lines news lines'
end_found lines news lines' h e = elim (last_of_lines news) [
  | inl n ↦ absurd (
      let k : lines ≡ lines' ++ dot ∷ [] = sym (append-nil lines) ∙ ap (λ (x : List (List ℕ)). lines ++ x) (sym n) ∙ e in
      All-head (λ l. l ≢ dot) dot [] (all_right lines' (dot ∷ []) (subst (λ (x : List (List ℕ)). All (λ l. l ≢ dot) x) k h)) refl)
  | inr w ↦
      let k : (lines ++ w.0) ++ w.1 ∷ [] ≡ lines' ++ dot ∷ [] = append_assoc lines w.0 (w.1 ∷ []) ∙ ap (λ (x : List (List ℕ)). lines ++ x) (sym w.2) ∙ e in
      let p = same_from_push (lines ++ w.0) lines' w.1 dot k in
      record { front = w.0; news_are = w.2 ∙ ap (λ (x : List ℕ). w.0 ++ x ∷ []) p.1; lines_are = sym p.0 }
]
  where
    last_of_lines : (xs : List (List ℕ)) → (xs ≡ []) ⊎ ((ys : List (List ℕ)) × (y : List ℕ) × (xs ≡ ys ++ y ∷ []))
    last_of_lines [] = inl refl
    last_of_lines (x ∷ xs) = elim (last_of_lines xs) [ inl e ↦ inr ([], x, ap (λ t. x ∷ t) e) | inr w ↦ inr (x ∷ w.0, w.1, ap (λ t. x ∷ t) w.2) ]

pub data_done_follows : (m new : LmtpMachine) (fresh : Unstuffer) (directory : Directory) (c : Conversation) (piece : List ℕ) (used : ℕ) (what : What) (old out : List ℕ) (u : Unstuffer) (o : Outcome)
    → m.commands.stage ≡ stages.Data → StandsFor m c → HasUnstuffed fresh []
    → ((wire : List ℕ) → HasUnstuffed m.unstuffer wire → TellsData (Done o) u wire (take used piece))
    → ((front : List ℕ) → IsBehind m.unstuffer.collected front → IsBehind u.collected front)
    → u.collected.max ≡ m.setting.max_message
    → ((lines : List (List ℕ)) → IsBehind u.collected (return_path m.commands.sender) → (o ≡ outcomes.Ok → u.collected.bytes ≡ plain lines) → (final : Outcome) × Becomes o final
    × Does (record m { unstuffer = fresh }) (on_outcome m.setting m.commands.submitted m.commands.sender m.commands.recipients lines final) new what old out)
    → Follows (StandsFor new) m.setting m.host directory c piece (record { used = used; what = what }) old out new.pending
data_done_follows m new fresh directory c piece used what old out u o es s ef tells stays em does =
    let d : WithinData m c = within m c es s in
    let bytes : List ℕ = c.unfinished ++ take used piece in
    let n : ℕ = m.commands.submitted in
    let sender : List ℕ = m.commands.sender in
    let recipients : List ℕ = m.commands.recipients in
    let told = tells (joined d.lines ++ c.unfinished) d.unstuffer in
    let whole : (joined d.lines ++ c.unfinished) ++ take used piece ≡ joined d.lines ++ bytes = append_assoc (joined d.lines) c.unfinished (take used piece) in
    let p : Plain (joined d.lines ++ bytes) told.0 = subst (λ (w : List ℕ). Plain w told.0) whole told.1 in
    let j = data_joined d.lines bytes d.each in
    let before = data_joined d.lines c.unfinished d.each in
    let none_before : All (λ l. l ≢ dot) d.lines =
    subst (λ (x : List (List ℕ)). All (λ l. l ≢ dot) x) (before.0 ∙ ap (λ (x : List (List ℕ)). d.lines ++ x) (uncut_is c.unfinished s.open_end).0 ∙ append-nil d.lines) d.unstuffer.wire_at.is_open in
    let f : EndedBy d.lines (wire_lines bytes) p.lines = end_found d.lines (wire_lines bytes) p.lines none_before (sym j.0 ∙ p.wire_is) in
    let lines : List (List ℕ) = d.lines ++ f.front in
    let text : told.0 ≡ plain lines = p.text_is ∙ ap (λ (x : List (List ℕ)). plain x) f.lines_are in
    let did = does lines (stays (return_path sender) d.behind) (λ e. told.3 e ∙ text) in
    let final : Outcome = did.0 in
    let k : Does (record m { unstuffer = fresh }) (on_outcome m.setting n sender recipients lines final) new what old out = did.2 in
    let t : Turn = on_outcome m.setting n sender recipients lines final in
    let refused : Bool = is_refused final in
    let judged : outcome m.setting.max_message refused (plain lines) ≡ final =
    ap (λ (x : List ℕ). outcome m.setting.max_message refused x) (sym text) ∙ ap (λ (x : ℕ). outcome x refused told.0) (sym em) ∙ outcome_is o final u.collected.max told.0 told.2 did.1 in
    let none_front : All (λ l. l ≢ dot) f.front = all_right d.lines f.front (subst (λ (x : List (List ℕ)). All (λ l. l ≢ dot) x) f.lines_are p.none_dot) in
    let front_said : dialogue m.setting directory c.standing (map Line f.front) ≡ turn (Data sender recipients lines) n [] =
    ap (λ (x : Standing). dialogue m.setting directory x (map Line f.front)) (standing_in m c d) ∙ data_lines m.setting directory n sender recipients d.lines f.front none_front in
    let end_said : dialogue m.setting directory (in_data sender recipients lines n) (ends_by refused ∷ []) ≡ t =
    one_event m.setting directory (in_data sender recipients lines n) (ends_by refused) ∙ end_event m.setting directory refused sender recipients lines n
    ∙ ap (λ (x : Outcome). on_outcome m.setting n sender recipients lines x) judged in
    let said : dialogue m.setting directory c.standing (map Line f.front ++ ends_by refused ∷ []) ≡ t =
    goes_on m.setting directory c.standing (map Line f.front) (ends_by refused ∷ [])
    ∙ ap (λ (x : Turn). x ⨾ dialogue m.setting directory x.standing (ends_by refused ∷ [])) front_said
    ∙ end_said in
    let ended : wire_rest bytes ≡ [] = sym j.1 ∙ p.ended in
    let cut : IsCut bytes (f.front ++ dot ∷ []) [] =
    subst (λ (x : List (List ℕ)). IsCut bytes x []) f.news_are (subst (λ (x : List ℕ). IsCut bytes (wire_lines bytes) x) ended (reading_cut bytes)) in
    let after : Conversation = record { standing = t.standing; unfinished = [] } in
    record {
      turn = t;
      after = after;
      leads = record {
        lines = f.front ++ dot ∷ [];
        events = map Line f.front ++ ends_by refused ∷ [];
        cut = cut;
        heard = heard-append (heard_lines f.front) (heard_end refused);
        may = may-append m.setting directory c.standing (map Line f.front) (ends_by refused ∷ [])
            (may_at m.setting directory m c d (map Line f.front) (data_may m.setting directory n sender recipients d.lines f.front none_front))
            (subst (λ (x : Turn). EachMayBeHeard m.setting directory x.standing (ends_by refused ∷ [])) (sym front_said) (end_may refused sender recipients lines, tt));
        turns = sym said;
        stands = refl;
        behind = inr (inr refl);
      };
      stands = record {
        open_end = uncut_nil;
        here = here_between new.commands.stage new after k.stage (record {
          standing = sym k.standing;
          cutter = subst (λ (x : LineCutter). HasTaken x []) (sym k.cutter) d.cutter;
          unstuffer = subst (λ (x : Unstuffer). HasUnstuffed x []) (sym k.unstuffer) ef;
        });
      };
      said = k.said;
      tells = k.tells;
      submits = k.pending;
      stops = λ _. elim (something m.setting n sender recipients lines final d.some) [ inl r ↦ inl r | inr r ↦ inr (inl r) ];
      one = λ events last h.
          let e = same_from_push (map Line f.front) events (ends_by refused) last h in
          subst (λ (x : List Event). IsQuiet (dialogue m.setting directory c.standing x)) e.0 (subst (λ (x : Turn). IsQuiet x) (sym front_said) (refl, refl));
      ended = λ e. absurd (not_ended_in_data m c d e);
    }

-- ---- who listens

-- a connection that has not ended and awaits no verdicts listens
pub still_listens : (m : LmtpMachine) (c : Conversation) → StandsFor m c → (m.commands.stage ≡ stages.Ended → ⊥) → ((n : ℕ) → c.standing.phase ≡ Waiting n → ⊥)
    → IsListening c.standing.phase
still_listens m c s going unawaited = by_stage m.commands.stage refl s.here
  where
    at : (stage : Stage) → m.commands.stage ≡ stage → c.standing ≡ standing_of m.commands → c.standing.phase ≡ phase_of stage m.commands.sender m.commands.recipients
    at stage e b = ap (λ (x : Standing). x.phase) b ∙ ap (λ (x : Stage). phase_of x m.commands.sender m.commands.recipients) e

    by_stage : (stage : Stage) → m.commands.stage ≡ stage → IsHere stage m c → IsListening c.standing.phase
    by_stage stages.Start e h = subst (λ (p : Phase). IsListening p) (sym (at stages.Start e h.standing)) tt
    by_stage stages.Ready e h = subst (λ (p : Phase). IsListening p) (sym (at stages.Ready e h.standing)) tt
    by_stage stages.Transaction e h = subst (λ (p : Phase). IsListening p) (sym (at stages.Transaction e h.standing)) tt
    by_stage stages.Data e h = subst (λ (p : Phase). IsListening p) (sym h.phase) tt
    by_stage stages.Waiting e h = absurd (unawaited (length m.commands.recipients) (at stages.Waiting e h.standing))
    by_stage stages.Ended e h = absurd (going e)

-- ---- the end

pub ended_follows : (m : LmtpMachine) (directory : Directory) (c : Conversation) (piece old : List ℕ) → m.commands.stage ≡ stages.Ended → StandsFor m c → m.pending ≡ []
    → Follows (StandsFor m) m.setting m.host directory c piece (record { used = 0; what = Quit }) old old m.pending
ended_follows m directory c piece old es s ep =
    let here : c.standing ≡ standing_of m.commands = subst (λ (x : Stage). IsHere x m c) es s.here in
    let phase : c.standing.phase ≡ Ended = ap (λ (x : Standing). x.phase) here ∙ ap (λ (x : Stage). phase_of x m.commands.sender m.commands.recipients) es in
    record {
      turn = turn c.standing.phase c.standing.submitted [];
      after = c;
      leads = record { lines = []; events = []; cut = record { whole = append-nil c.unfinished; each = All-nil IsUncut; open_end = s.open_end }; heard = none; may = tt; turns = refl; stands = refl; behind = inr (inl refl) };
      stands = s;
      said = sym (append-nil old);
      tells = (refl, phase);
      submits = ep;
      stops = λ _. inr (inr phase);
      one = λ events last h. before_none m.setting directory c.standing events last h;
      ended = λ _. refl;
    }
