-- What a client was told at one entry of a record, behind what it had been told before: the last of it ends where the entry does.
use Rattle.std.proofs.Common.{◌≡◌, ℕ, List, [], ◌∷◌, ◌++◌, refl, sym, subst, ap, ap₂, ◌∙◌, append-nil, append_assoc}
use Rattle.std.specs.Prelude.{Bool, false, Some, flat_map}
use Rattle.std.proofs.lemmas.Grind.{flat_map-append}
use Rattle.line_io.specs.Wire.{IsUncut, crlf}
use Rattle.delivery_token.specs.declared.Verdict.{Verdict}
use Rattle.delivery_token.specs.declared.log.Noted.{Noted}
use Rattle.world.specs.World.{Config, World}
use Rattle.imap_session.specs.declared.standing.After.{After}
use Rattle.imap_session.specs.Exchange.{Answer, Standing, Turn, may_send, nothing_more}
use Rattle.imap_session.specs.Commands.{due_of, turn_of_long_line, with_bytes}
use Rattle.imap_session.specs.Store.{AnswersVerdict, Met}
use Rattle.imap_session.specs.Dialogue as dialogue
use Rattle.imap_session.specs.Dialogue.{AnswersLine, AnswersOne, Converses, Sends, goes_on, parts, reads, silent, spelled, too_long}
use Rattle.house_peers.specs.Visitor.{Visitor, GoesOn, SeatedVisitor, Works}
use Rattle.house_peers.specs.Visitor as seated
use Rattle.imap_session.specs.Happenings.{Happening, Heard, IsSentFor, IsTimely, Line, Literal, LongLine, Told, VerdictsArePrinted, bytes_in, leads_to, told_of}
use Rattle.laws_client.specs.HouseClients.{turns}
use Rattle.laws_client.specs.HouseClients.{Lives}
use Rattle.laws_client.proofs.Moved.{Calls}
use Rattle.laws_client.proofs.Answered.{Came, HappensSo, so_printed, told_bytes}
use Rattle.laws_client.proofs.Talked.{Heeds, Talked, turn_notes, verdict_so}

-- it was told nothing since, or the last that it was told was said in a turn that ended in this world
pub data Fresh (k : Config) (n : ℕ) (first : Came) (began : World) (base told : List Told) (w : World) : Type 0 where
  untold : told ≡ base → Fresh k n first began base told w
  turned : (new : List Told) (sent : List ℕ) (now : Standing) (u : World) → Lives k n first.standing began sent (base ++ new) now u → (happening : Happening) (turn : Turn) → VerdictsArePrinted happening
      → told ≡ (base ++ new) ++ told_of now happening turn.bytes ∷ [] → leads_to now happening ≡ Some turn → Met (Calls k n) u turn.events w → Fresh k n first began base told w

pub fresh_grown : (k : Config) (n : ℕ) (first : Came) (began : World) (base told : List Told) (w : World) → Fresh k n first began base told w → (new : List Told) × (told ≡ base ++ new)
fresh_grown k n first began base told w (untold e) = ([], e ∙ sym (append-nil base))
fresh_grown k n first began base told w (turned new sent now u lives happening turn printed e leads met) =
    (new ++ told_of now happening turn.bytes ∷ [], e ∙ append_assoc base new (told_of now happening turn.bytes ∷ []))

pub record Since (k : Config) (n : ℕ) (first : Came) (began : World) (base : List Told) (sent said : List ℕ) (now : Standing) (w : World) : Type 0 where
  pub talked : Talked k n first began sent said now w
  pub fresh : Fresh k n first began base talked.told w

since_turn : (k : Config) (n : ℕ) (first : Came) (began : World) (base : List Told) (sent said : List ℕ) (now : Standing) (w : World) (happening : Happening) (bytes : List ℕ) (turn : Turn) (v : World)
    → Since k n first began base sent said now w → IsTimely now happening → IsSentFor happening bytes → HappensSo k first w now happening → leads_to now happening ≡ Some turn → Met (Calls k n) w turn.events v
    → Since k n first began base (sent ++ bytes) (said ++ turn.bytes) turn.standing v
since_turn k n first began base sent said now w happening bytes turn v t timely is so e met =
    let grown = fresh_grown k n first began base t.talked.told w t.fresh in
    let one : Told = told_of now happening turn.bytes in record {
      talked = record {
        told = t.talked.told ++ one ∷ [];
        lives = turns t.talked.lives happening bytes turn v timely is (so_printed k first w now happening so) e met;
        bytes = flat_map-append bytes_in t.talked.told (one ∷ []) ∙ ap₂ (λ (a b : List ℕ). a ++ b) t.talked.bytes (append-nil (bytes_in one) ∙ told_bytes now happening turn.bytes);
        notes = turn_notes k n first sent bytes t.talked.told now w happening turn v t.talked.notes so is e met;
      };
      fresh = turned grown.0 sent now w (subst (λ (told : List Told). Lives k n first.standing began sent told now w) grown.1 t.talked.lives) happening turn (so_printed k first w now happening so) (ap (λ (told : List Told). told ++ one ∷ []) grown.1) e met;
    }

-- ---- what its client sends

line_since : (k : Config) (n : ℕ) (first : Came) (began : World) (base : List Told) (sent heard : List ℕ) (now : Standing) (line : List ℕ) (old new : World) (said : List ℕ) (how : After) (next : Standing)
    → AnswersLine (Calls k n) now line old new [] said how next → now.ended ≡ false → due_of now.mailing.begun ≡ 0 → IsUncut line → Since k n first began base sent heard now old → Since k n first began base (sent ++ (line ++ crlf)) (heard ++ said) next new
line_since k n first began base sent heard now line old new said how next (reads few a) live due uncut t =
    let turn : Turn = record { events = a.events; bytes = a.bytes; after = how; standing = next } in
    subst (λ (b : List ℕ). Since k n first began base (sent ++ (line ++ crlf)) (heard ++ b) next new) (sym a.wrote)
    (since_turn k n first began base sent heard now old (Line line a.answers) (line ++ crlf) turn new t (live, due, few, uncut) refl (due, tt) a.played a.met)
line_since k n first began base sent heard now line old new said how next (too_long many same w h e) live due uncut t =
    subst (λ (s : Standing). Since k n first began base (sent ++ (line ++ crlf)) (heard ++ said) s new) (sym e)
    (subst (λ (b : List ℕ). Since k n first began base (sent ++ (line ++ crlf)) (heard ++ b) (turn_of_long_line now).standing new) (sym w)
    (since_turn k n first began base sent heard now old LongLine (line ++ crlf) (turn_of_long_line now) new t (live, due) (line, many, uncut, refl) (tt, tt) refl same))

one_since : (k : Config) (n : ℕ) (first : Came) (began : World) (base : List Told) (sent heard : List ℕ) (now : Standing) (one : Sends) (old new : World) (said : List ℕ) (how : After) (next : Standing)
    → AnswersOne (Calls k n) now one old new [] said how next → Since k n first began base sent heard now old → Since k n first began base (sent ++ spelled one) (heard ++ said) next new
one_since k n first began base sent heard now (dialogue.Line line) old new said how next a t = line_since k n first began base sent heard now line old new said how next a.2 a.0 a.1 a.3 t
one_since k n first began base sent heard now (dialogue.Bytes bytes) old new said how next a t =
    let kept : Bool = a.takes.0 in
    let turn : Turn = nothing_more (may_send (with_bytes kept bytes now)) (with_bytes kept bytes now) in
    subst (λ (s : Standing). Since k n first began base (sent ++ bytes) (heard ++ said) s new) (sym a.takes.1)
    (subst (λ (b : List ℕ). Since k n first began base (sent ++ bytes) (heard ++ b) (with_bytes kept bytes now) new) (sym a.silent)
    (since_turn k n first began base sent heard now old (Literal kept bytes) bytes turn new t (a.goes, a.some, a.due, a.takes.2) refl (a.due, tt) refl a.unasked))

pub converses_since : (k : Config) (n : ℕ) (first : Came) (began : World) (base : List Told) (sent heard : List ℕ) {now next : Standing} {sends : List Sends} {old new : World} {said : List ℕ} {how : After}
    → Converses (Calls k n) now sends old new said how next → Since k n first began base sent heard now old → Since k n first began base (sent ++ flat_map spelled sends) (heard ++ said) next new
converses_since k n first began base sent heard (silent now old) t =
    subst (λ (s : List ℕ). Since k n first began base s (heard ++ []) now old) (sym (append-nil sent)) (subst (λ (h : List ℕ). Since k n first began base sent h now old) (sym (append-nil heard)) t)
converses_since k n first began base sent heard (parts now next one old new said how stops a) t =
    subst (λ (s : List ℕ). Since k n first began base (sent ++ s) (heard ++ said) next new) (sym (append-nil (spelled one))) (one_since k n first began base sent heard now one old new said how next a t)
converses_since k n first began base sent heard (goes_on now between next one more old mid new before behind how follows a rest) t =
    subst (λ (s : List ℕ). Since k n first began base s (heard ++ (before ++ behind)) next new) (append_assoc sent (spelled one) (flat_map spelled more))
    (subst (λ (h : List ℕ). Since k n first began base ((sent ++ spelled one) ++ flat_map spelled more) h next new) (append_assoc heard before behind)
    (converses_since k n first began base (sent ++ spelled one) (heard ++ before) rest (one_since k n first began base sent heard now one old mid before _ between a t)))

-- ---- a session at its seat

-- it has talked, and these bytes of its client came and all but those that wait were answered
pub record Lately (k : Config) (n : ℕ) (first : Came) (began : World) (base : List Told) (came said : List ℕ) (v : Visitor) (w : World) : Type 0 where
  pub sent : List ℕ
  pub since : Since k n first began base sent said v.standing w
  pub waits : came ≡ sent ++ v.waits

works_lately : (k : Config) (n seat : ℕ) (first : Came) (began : World) (base : List Told) (came heard : List ℕ) (v after : SeatedVisitor) (old new : World) (said : List ℕ)
    → Works (Calls k n) seat v old new after said → Lately k n first began base came heard v.session old → Lately k n first began base came (heard ++ said) after.session new
works_lately k n seat first began base came heard v after old new said w r = record {
  sent = r.sent ++ flat_map spelled w.answers.sent;
  since = converses_since k n first began base r.sent heard w.answers.converses r.since;
  waits = r.waits ∙ ap (λ (x : List ℕ). r.sent ++ x) w.answers.waited ∙ sym (append_assoc r.sent (flat_map spelled w.answers.sent) after.session.waits);
}

verdict_since : (k : Config) (n : ℕ) (first : Came) (began : World) (base : List Told) (sent heard : List ℕ) (now : Standing) (verdict : Verdict) (old new : World) (said : List ℕ) (how : After) (next : Standing) → ((answers : List Answer) → HappensSo k first old now (Heard verdict answers))
    → AnswersVerdict (Calls k n) now verdict old new [] said how next → Since k n first began base sent heard now old → Since k n first began base (sent ++ []) (heard ++ said) next new
verdict_since k n first began base sent heard now verdict old new said how next so a t =
    let turn : Turn = record { events = a.events; bytes = a.bytes; after = how; standing = next } in
    subst (λ (b : List ℕ). Since k n first began base (sent ++ []) (heard ++ b) next new) (sym a.wrote)
    (since_turn k n first began base sent heard now old (Heard verdict a.answers) [] turn new t tt refl (so a.answers) a.played a.met)

same_lately : (k : Config) (n : ℕ) (first : Came) (began : World) (base : List Told) (came heard : List ℕ) (v after : SeatedVisitor) (old new : World) (said : List ℕ) → new ≡ old → after ≡ v → said ≡ []
    → Lately k n first began base came heard v.session old → Lately k n first began base came (heard ++ said) after.session new
same_lately k n first began base came heard v after old new said e f g r = rw (e, f, g, append-nil heard) r

pub goes_lately : (k : Config) (n : ℕ) (whole : Bool) (seat : ℕ) (notes : List Noted) (first : Came) (began : World) (base : List Told) (came heard : List ℕ) (v after : SeatedVisitor) (old new : World) (said : List ℕ) → Heeds k first seat v notes old
    → GoesOn (Calls k n) whole seat notes v old new after said → Lately k n first began base came heard v.session old → Lately k n first began base came (heard ++ said) after.session new
goes_lately k n whole seat notes first began base came heard v after old new said small (seated.works none w) r = works_lately k n seat first began base came heard v after old new said w r
goes_lately k n whole seat notes first began base came heard v after old new said small (seated.answers verdict mid one two how next still known a w e) r =
    let t = verdict_since k n first began base r.sent heard v.session.standing verdict old mid one how next (λ answers. verdict_so k first seat notes old v verdict answers small known) a r.since in
    let between : Lately k n first began base came (heard ++ one) (record { standing = next; waits = v.session.waits; unsaid = v.session.unsaid }) mid =
    record { sent = r.sent ++ []; since = t; waits = r.waits ∙ ap (λ (s : List ℕ). s ++ v.session.waits) (sym (append-nil r.sent)) } in
    subst (λ (h : List ℕ). Lately k n first began base came h after.session new) (append_assoc heard one two ∙ ap (λ (s : List ℕ). heard ++ s) (sym e))
    (works_lately k n seat first began base came (heard ++ one) (seated.told v next) after mid new two w between)
goes_lately k n whole seat notes first began base came heard v after old new said small (seated.waits a e f g) r = same_lately k n first began base came heard v after old new said e f g r
goes_lately k n whole seat notes first began base came heard v after old new said small (seated.rests a e f g) r = same_lately k n first began base came heard v after old new said e f g r
goes_lately k n whole seat notes first began base came heard v after old new said small (seated.stalls a e f g) r = same_lately k n first began base came heard v after old new said e f g r
