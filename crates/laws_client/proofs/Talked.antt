-- What a session answers and says goes on from what it answered and said before.
use Rattle.std.proofs.Common.{◌≡◌, ℕ, List, [], ◌∷◌, ◌++◌, Contains, refl, sym, subst, ap, ap₂, ◌∙◌, append-nil, append_assoc}
use Rattle.std.specs.Prelude.{Bool, false, IfSome, Option, Some, None, flat_map}
use Rattle.std.proofs.lemmas.Grind.{flat_map-append}
use Rattle.line_io.specs.Wire.{IsUncut, crlf}
use Rattle.delivery_token.specs.declared.Verdict.{Verdict}
use Rattle.delivery_token.specs.Copies.{HeardFor}
use Rattle.delivery_token.specs.declared.log.Noted.{Noted}
use Rattle.world.specs.World.{Config, Event, Step, World}
use Rattle.imap_session.specs.declared.standing.After.{After}
use Rattle.imap_session.specs.Exchange.{Answer, Event as Happened, Sent, Standing, Turn, may_send, nothing_more}
use Rattle.imap_session.specs.Commands.{due_of, turn_of_long_line, with_bytes}
use Rattle.imap_session.specs.Store.{AnswersVerdict, IdleTurns, Met}
use Rattle.imap_session.specs.Dialogue as dialogue
use Rattle.imap_session.specs.Dialogue.{AnswersLine, AnswersOne, Converses, Sends, goes_on, parts, reads, silent, spelled, too_long}
use Rattle.house_peers.specs.Visitor.{Visitor, GoesOn, IsAnswered, SeatedVisitor, Works, keys_of, sent_by}
use Rattle.house_peers.specs.Visitor as seated
use Rattle.imap_session.specs.Happenings.{Happening, Heard, IsPrinted, IsSentFor, IsTimely, Line, Literal, LongLine, Told, Turned, bytes_in, leads_to, told_of}
use Rattle.laws_client.specs.HouseClients.{comes, turns, others}
use Rattle.laws_client.specs.HouseClients.{Lives}
use Rattle.laws_client.specs.HouseClients.{IsOfOthers}
use Rattle.laws_client.proofs.Out.{Fate, copy_of, fate_met, fate_step}
use Rattle.laws_client.proofs.Answered.{Came, KnownAt, HappensSo, HasHeard, Notes, no_notes, notes_later, notes_turn, so_printed, told_bytes}
use Rattle.laws_client.proofs.LastLines.{IsWord}
use Rattle.laws_client.proofs.Moved.{Calls, Moved, moved, rested, stepped}
use Rattle.laws_client.proofs.IdleTags.{AreTagsOf}
use Rattle.exactly_once.proofs.Grown.{heard_stays_heard}

-- since it came it answered these bytes, and said those
pub record Talked (k : Config) (n : ℕ) (first : Came) (began : World) (sent said : List ℕ) (now : Standing) (w : World) : Type 0 where
  pub told : List Told
  pub lives : Lives k n first.standing began sent told now w
  pub bytes : flat_map bytes_in told ≡ said
  pub notes : Notes k.uidvalidity first sent told now (KnownAt k first w)

pub talked_none : (k : Config) (n : ℕ) (first : Came) (began : World) → AreTagsOf IsWord first.standing → first.standing.mailing.begun ≡ None → first.standing.mailing.sent ≡ None → Talked k n first began [] [] first.standing began
talked_none k n first began tags unbegun none = record { told = []; lives = comes; bytes = refl; notes = no_notes k.uidvalidity first (KnownAt k first began) tags unbegun none }

-- what a seat has heard stays heard by what a session asks
call_hears : (k : Config) (n : ℕ) (w v : World) (p : ℕ) (note : Noted) → Moved k n w v → Contains (w.heard p) note → Contains (v.heard p) note
call_hears k n w v p note (rested e) c = rw e c
call_hears k n w v p note (stepped event step own short) c = heard_stays_heard k w (event ∷ []) v p note (v, step, refl) c

pub met_hears : (k : Config) (n : ℕ) (w : World) (events : List Happened) (v : World) (p : ℕ) (note : Noted) → Met (Calls k n) w events v → Contains (w.heard p) note → Contains (v.heard p) note
met_hears k n w [] v p note met c = rw met c
met_hears k n w (e ∷ events) v p note (mid, one, more) c = met_hears k n mid events v p note more (call_hears k n w mid p note (moved k n w e.call e.answer mid one) c)

-- what is known of its answers behind a turn
pub turn_notes : (k : Config) (n : ℕ) (first : Came) (sent bytes : List ℕ) (told : List Told) (now : Standing) (w : World) (happening : Happening) (turn : Turn) (v : World) → Notes k.uidvalidity first sent told now (KnownAt k first w)
    → HappensSo k first w now happening → IsSentFor happening bytes → leads_to now happening ≡ Some turn → Met (Calls k n) w turn.events v → Notes k.uidvalidity first (sent ++ bytes) (told ++ told_of now happening turn.bytes ∷ []) turn.standing (KnownAt k first v)
turn_notes k n first sent bytes told now w happening turn v t so for e met =
    notes_later k.uidvalidity first (sent ++ bytes) (told ++ told_of now happening turn.bytes ∷ []) turn.standing (KnownAt k first w) (KnownAt k first v)
    (λ note message h. (met_hears k n w turn.events v first.seat note met h.0, fate_met k n w turn.events v first.seat (copy_of first.seat first.serial message) met h.1))
    (notes_turn k n first sent bytes told now w happening turn v t so for e met)

-- a turn
pub talked_turn : (k : Config) (n : ℕ) (first : Came) (began : World) (sent said : List ℕ) (now : Standing) (w : World) (happening : Happening) (bytes : List ℕ) (turn : Turn) (v : World)
    → Talked k n first began sent said now w → IsTimely now happening → IsSentFor happening bytes → HappensSo k first w now happening → leads_to now happening ≡ Some turn → Met (Calls k n) w turn.events v
    → Talked k n first began (sent ++ bytes) (said ++ turn.bytes) turn.standing v
talked_turn k n first began sent said now w happening bytes turn v t timely is so e met = record {
  told = t.told ++ told_of now happening turn.bytes ∷ [];
  lives = turns t.lives happening bytes turn v timely is (so_printed k first w now happening so) e met;
  bytes = flat_map-append bytes_in t.told (told_of now happening turn.bytes ∷ [])
      ∙ ap₂ (λ (a b : List ℕ). a ++ b) t.bytes (append-nil (bytes_in (told_of now happening turn.bytes)) ∙ told_bytes now happening turn.bytes);
  notes = turn_notes k n first sent bytes t.told now w happening turn v t.notes so is e met;
}

-- what others do
pub talked_others : (k : Config) (n : ℕ) (first : Came) (began : World) (sent said : List ℕ) (now : Standing) (w : World) (event : Event) (v : World)
    → Talked k n first began sent said now w → IsOfOthers n event → Step k w event v → Talked k n first began sent said now v
talked_others k n first began sent said now w event v t o step = record {
  told = t.told;
  lives = others t.lives event v o step;
  bytes = t.bytes;
  notes = notes_later k.uidvalidity first sent t.told now (KnownAt k first w) (KnownAt k first v)
      (λ note message h. (heard_stays_heard k w (event ∷ []) v first.seat note (v, step, refl) h.0, fate_step k w event v first.seat (copy_of first.seat first.serial message) step h.1)) t.notes;
}

-- ---- what its client sends

line_talked : (k : Config) (n : ℕ) (first : Came) (began : World) (sent heard : List ℕ) (now : Standing) (line : List ℕ) (old new : World) (said : List ℕ) (how : After) (next : Standing)
    → AnswersLine (Calls k n) now line old new [] said how next → now.ended ≡ false → due_of now.mailing.begun ≡ 0 → IsUncut line → Talked k n first began sent heard now old → Talked k n first began (sent ++ (line ++ crlf)) (heard ++ said) next new
line_talked k n first began sent heard now line old new said how next (reads few a) live due uncut t =
    let turn : Turn = record { events = a.events; bytes = a.bytes; after = how; standing = next } in
    subst (λ (b : List ℕ). Talked k n first began (sent ++ (line ++ crlf)) (heard ++ b) next new) (sym a.wrote)
    (talked_turn k n first began sent heard now old (Line line a.answers) (line ++ crlf) turn new t (live, due, few, uncut) refl (due, tt) a.played a.met)
line_talked k n first began sent heard now line old new said how next (too_long many same w h e) live due uncut t =
    subst (λ (s : Standing). Talked k n first began (sent ++ (line ++ crlf)) (heard ++ said) s new) (sym e)
    (subst (λ (b : List ℕ). Talked k n first began (sent ++ (line ++ crlf)) (heard ++ b) (turn_of_long_line now).standing new) (sym w)
    (talked_turn k n first began sent heard now old LongLine (line ++ crlf) (turn_of_long_line now) new t (live, due) (line, many, uncut, refl) (tt, tt) refl same))

one_talked : (k : Config) (n : ℕ) (first : Came) (began : World) (sent heard : List ℕ) (now : Standing) (one : Sends) (old new : World) (said : List ℕ) (how : After) (next : Standing)
    → AnswersOne (Calls k n) now one old new [] said how next → Talked k n first began sent heard now old → Talked k n first began (sent ++ spelled one) (heard ++ said) next new
one_talked k n first began sent heard now (dialogue.Line line) old new said how next a t = line_talked k n first began sent heard now line old new said how next a.2 a.0 a.1 a.3 t
one_talked k n first began sent heard now (dialogue.Bytes bytes) old new said how next a t =
    let kept : Bool = a.takes.0 in
    let turn : Turn = nothing_more (may_send (with_bytes kept bytes now)) (with_bytes kept bytes now) in
    subst (λ (s : Standing). Talked k n first began (sent ++ bytes) (heard ++ said) s new) (sym a.takes.1)
    (subst (λ (b : List ℕ). Talked k n first began (sent ++ bytes) (heard ++ b) (with_bytes kept bytes now) new) (sym a.silent)
    (talked_turn k n first began sent heard now old (Literal kept bytes) bytes turn new t (a.goes, a.some, a.due, a.takes.2) refl (a.due, tt) refl a.unasked))

pub converses_talked : (k : Config) (n : ℕ) (first : Came) (began : World) (sent heard : List ℕ) {now next : Standing} {sends : List Sends} {old new : World} {said : List ℕ} {how : After}
    → Converses (Calls k n) now sends old new said how next → Talked k n first began sent heard now old → Talked k n first began (sent ++ flat_map spelled sends) (heard ++ said) next new
converses_talked k n first began sent heard (silent now old) t =
    subst (λ (s : List ℕ). Talked k n first began s (heard ++ []) now old) (sym (append-nil sent)) (subst (λ (h : List ℕ). Talked k n first began sent h now old) (sym (append-nil heard)) t)
converses_talked k n first began sent heard (parts now next one old new said how stops a) t =
    subst (λ (s : List ℕ). Talked k n first began (sent ++ s) (heard ++ said) next new) (sym (append-nil (spelled one))) (one_talked k n first began sent heard now one old new said how next a t)
converses_talked k n first began sent heard (goes_on now between next one more old mid new before behind how follows a rest) t =
    subst (λ (s : List ℕ). Talked k n first began s (heard ++ (before ++ behind)) next new) (append_assoc sent (spelled one) (flat_map spelled more))
    (subst (λ (h : List ℕ). Talked k n first began ((sent ++ spelled one) ++ flat_map spelled more) h next new) (append_assoc heard before behind)
    (converses_talked k n first began (sent ++ spelled one) (heard ++ before) rest (one_talked k n first began sent heard now one old mid before _ between a t)))

-- ---- a session at its seat

-- each UID of which its seat has heard can be printed
abbrev pub AreHeardSmall : List Noted → Type 0
AreHeardSmall heard = (noted : Noted) → Contains heard noted → IsPrinted noted.verdict

-- it has talked, and these bytes of its client came and all but those that wait were answered
pub record Reached (k : Config) (n : ℕ) (first : Came) (began : World) (came said : List ℕ) (v : Visitor) (w : World) : Type 0 where
  pub sent : List ℕ
  pub talked : Talked k n first began sent said v.standing w
  pub waits : came ≡ sent ++ v.waits

works_reached : (k : Config) (n seat : ℕ) (first : Came) (began : World) (came heard : List ℕ) (v after : SeatedVisitor) (old new : World) (said : List ℕ)
    → Works (Calls k n) seat v old new after said → Reached k n first began came heard v.session old → Reached k n first began came (heard ++ said) after.session new
works_reached k n seat first began came heard v after old new said w r = record {
  sent = r.sent ++ flat_map spelled w.answers.sent;
  talked = converses_talked k n first began r.sent heard w.answers.converses r.talked;
  waits = r.waits ∙ ap (λ (x : List ℕ). r.sent ++ x) w.answers.waited ∙ sym (append_assoc r.sent (flat_map spelled w.answers.sent) after.session.waits);
}

-- Each UID among these notes can be printed. They are notes of the session's own seat, which has its serial; and where it has put the copy of its message, that is out.
pub record Heeds (k : Config) (first : Came) (seat : ℕ) (v : SeatedVisitor) (notes : List Noted) (w : World) : Type 0 where
  pub small : AreHeardSmall notes
  pub at : seat ≡ first.seat
  pub own : v.serial ≡ first.serial
  pub out : v.to_put ≡ [] → IfSome (sent_by v) (λ (message : Sent). Fate k w first.seat (copy_of first.seat first.serial message))
  pub heard : (noted : Noted) → Contains notes noted → Contains (w.heard first.seat) noted

-- so a verdict that it answers can be printed, and was heard
pub verdict_so : (k : Config) (first : Came) (seat : ℕ) (notes : List Noted) (w : World) (v : SeatedVisitor) (verdict : Verdict) (answers : List Answer) → Heeds k first seat v notes w → IsAnswered seat notes v verdict
    → HappensSo k first w v.session.standing (Heard verdict answers)
verdict_so k first seat notes w v verdict answers heeds known = (tt, by (sent_by v) known.each (heeds.out known.put))
  where
    by : (o : Option Sent) → HeardFor notes (keys_of seat v.serial o) (verdict ∷ []) → IfSome o (λ (message : Sent). Fate k w first.seat (copy_of first.seat first.serial message))
        → IsPrinted verdict × IfSome o (HasHeard first (KnownAt k first w) verdict)
    by None h fate = absurd h
    by (Some sent) h fate =
        let noted : Noted = record { key = record { seat = seat; serial = v.serial; message = sent.append.message; recipient = 0 }; mailbox = h.0.0; verdict = verdict } in
        (heeds.small noted h.0.1, (h.0.0, (there seat v.serial heeds.at heeds.own (heeds.heard noted h.0.1), fate)))
      where
        there : (p number : ℕ) → p ≡ first.seat → number ≡ first.serial → Contains (w.heard first.seat) (record { key = record { seat = p; serial = number; message = sent.append.message; recipient = 0 }; mailbox = h.0.0; verdict = verdict })
            → Contains (w.heard first.seat) (record { key = record { seat = first.seat; serial = first.serial; message = sent.append.message; recipient = 0 }; mailbox = h.0.0; verdict = verdict })
        there p number e f c =
            subst (λ (x : ℕ). Contains (w.heard first.seat) (record { key = record { seat = x; serial = first.serial; message = sent.append.message; recipient = 0 }; mailbox = h.0.0; verdict = verdict })) e
            (subst (λ (y : ℕ). Contains (w.heard first.seat) (record { key = record { seat = p; serial = y; message = sent.append.message; recipient = 0 }; mailbox = h.0.0; verdict = verdict })) f c)

verdict_talked : (k : Config) (n : ℕ) (first : Came) (began : World) (sent heard : List ℕ) (now : Standing) (verdict : Verdict) (old new : World) (said : List ℕ) (how : After) (next : Standing) → ((answers : List Answer) → HappensSo k first old now (Heard verdict answers))
    → AnswersVerdict (Calls k n) now verdict old new [] said how next → Talked k n first began sent heard now old → Talked k n first began (sent ++ []) (heard ++ said) next new
verdict_talked k n first began sent heard now verdict old new said how next so a t =
    let turn : Turn = record { events = a.events; bytes = a.bytes; after = how; standing = next } in
    subst (λ (b : List ℕ). Talked k n first began (sent ++ []) (heard ++ b) next new) (sym a.wrote)
    (talked_turn k n first began sent heard now old (Heard verdict a.answers) [] turn new t tt refl (so a.answers) a.played a.met)

same_reached : (k : Config) (n : ℕ) (first : Came) (began : World) (came heard : List ℕ) (v after : SeatedVisitor) (old new : World) (said : List ℕ) → new ≡ old → after ≡ v → said ≡ []
    → Reached k n first began came heard v.session old → Reached k n first began came (heard ++ said) after.session new
same_reached k n first began came heard v after old new said e f g r = rw (e, f, g, append-nil heard) r

pub goes_reached : (k : Config) (n : ℕ) (whole : Bool) (seat : ℕ) (notes : List Noted) (first : Came) (began : World) (came heard : List ℕ) (v after : SeatedVisitor) (old new : World) (said : List ℕ) → Heeds k first seat v notes old
    → GoesOn (Calls k n) whole seat notes v old new after said → Reached k n first began came heard v.session old → Reached k n first began came (heard ++ said) after.session new
goes_reached k n whole seat notes first began came heard v after old new said small (seated.works none w) r = works_reached k n seat first began came heard v after old new said w r
goes_reached k n whole seat notes first began came heard v after old new said small (seated.answers verdict mid one two how next still known a w e) r =
    let t = verdict_talked k n first began r.sent heard v.session.standing verdict old mid one how next (λ answers. verdict_so k first seat notes old v verdict answers small known) a r.talked in
    let between : Reached k n first began came (heard ++ one) (record { standing = next; waits = v.session.waits; unsaid = v.session.unsaid }) mid =
    record { sent = r.sent ++ []; talked = t; waits = r.waits ∙ ap (λ (s : List ℕ). s ++ v.session.waits) (sym (append-nil r.sent)) } in
    subst (λ (h : List ℕ). Reached k n first began came h after.session new) (append_assoc heard one two ∙ ap (λ (s : List ℕ). heard ++ s) (sym e))
    (works_reached k n seat first began came (heard ++ one) (seated.told v next) after mid new two w between)
goes_reached k n whole seat notes first began came heard v after old new said small (seated.waits a e f g) r = same_reached k n first began came heard v after old new said e f g r
goes_reached k n whole seat notes first began came heard v after old new said small (seated.rests a e f g) r = same_reached k n first began came heard v after old new said e f g r
goes_reached k n whole seat notes first began came heard v after old new said small (seated.stalls a e f g) r = same_reached k n first began came heard v after old new said e f g r

pub idles_reached : (k : Config) (n : ℕ) (first : Came) (began : World) (came heard : List ℕ) (v after : Visitor) (old new : World) (said : List ℕ) (count : ℕ)
    → IdleTurns (Calls k n) v.standing old new [] said count after.standing → after.waits ≡ v.waits → Reached k n first began came heard v old → Reached k n first began came (heard ++ said) after new
idles_reached k n first began came heard v after old new said count a waits r =
    let turn : Turn = record { events = a.events; bytes = a.bytes; after = a.how; standing = after.standing } in
    record {
      sent = r.sent ++ [];
      talked = subst (λ (b : List ℕ). Talked k n first began (r.sent ++ []) (heard ++ b) after.standing new) (sym a.wrote)
          (talked_turn k n first began r.sent heard v.standing old (Turned a.answers) [] turn new r.talked tt refl (tt, tt) a.played a.met);
      waits = r.waits ∙ ap₂ (λ (s w : List ℕ). s ++ w) (sym (append-nil r.sent)) (sym waits);
    }
