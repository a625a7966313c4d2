-- SELECT and EXAMINE begin a list of which no flags are known, and CLOSE and UNSELECT end one.
use Rattle.std.proofs.Common.{◌≡◌, ℕ, Bool, true, false, List, [], ◌∷◌, refl, sym, subst, ap, ◌∙◌}
use Rattle.std.specs.Prelude.{Option, Some, None, if◌then◌else◌}
use Rattle.std.proofs.lemmas.Option.{none-some}
use Rattle.imap_session.specs.declared.standing.After.TheVariants.{Go}
use Rattle.imap_session.specs.declared.standing.Selected.{Selected}
use Rattle.imap_session.specs.Exchange.{Answer, Left, Refused, Event, Leave, Standing, Turn, having, played, refusal_text, refused, tagged}
use Rattle.imap_session.specs.Commands.{on_found, says, selecting, wrong_state}
use Rattle.laws_client.specs.Client.{Client, reads}
use Rattle.laws_client.specs.Beliefs.{Follows, TellsNothing}
use Rattle.laws_client.specs.Commands.{AreNames}
use Rattle.laws_client.specs.ListTurns.{IsTag}
use Rattle.laws_client.proofs.Reading.{fresh, more}
use Rattle.laws_client.proofs.Ends.{refusal_tells_nothing, tagged_tells_nothing}
use Rattle.laws_client.specs.Clients.{has_ok, reads_on}
use Rattle.laws_client.proofs.RecordEntering.{IfOk, mapped, only_done, only_refused, selecting_known}
use Rattle.laws_client.specs.Flags.{Believes, Point, counted}
use Rattle.laws_client.specs.FlagTurns.{LeadsFlags, shown_in}
use Rattle.laws_client.specs.Flags.{IsRightOnFlags}
use Rattle.laws_client.proofs.FlagMoments.{SeesAllMoments, SeesMoments}
use Rattle.laws_client.proofs.ToldAll.{HearsAll}
use Rattle.laws_client.proofs.Turning.{grown_still, leaves}
use Rattle.imap_session.specs.declared.texts.ResponseText.TheVariants as texts
use Rattle.imap_session.specs.Texts.{response_text}
use Rattle.laws_client.proofs.TextRows.{text_plain}
use Rattle.imap_session.specs.declared.texts.ResponseText.{ResponseText}

-- ---- SELECT and EXAMINE

-- a client that asked for a mailbox, and was told no OK
pub not_entered_right : (tag bytes : List ℕ) (p : Point) → has_ok true tag bytes ≡ false → IsRightOnFlags p (if has_ok true tag bytes then Some (reads fresh bytes) else None)
not_entered_right tag bytes p none = rw none tt

-- a client that asked for a mailbox: of no message it knows flags
entering_right : (tag bytes : List ℕ) (p : Point) → IfOk (Believes p) tag bytes (counted p) → IsRightOnFlags p (if has_ok true tag bytes then Some (reads fresh bytes) else None)
entering_right tag bytes p known = by (has_ok true tag bytes) known
  where
    by : (b : Bool) → (b ≡ true → Follows (Believes p) [] bytes (counted p)) → IsRightOnFlags p (if b then Some (reads fresh bytes) else None)
    by true f = let g = f refl in (g.after, g.reads, g.each)
    by false f = tt

pub selects_right : (tag : List ℕ) (now : Standing) (old : List ℕ) (read_only : Bool) (name : List ℕ) (answers : List Answer) (turn : Turn) (q : Point)
    → IsTag tag → AreNames now.folders → played tag now (selecting now.profile now.folders now.selected read_only name) answers ≡ Some turn → HearsAll old turn.events (counted q)
    → IsRightOnFlags q (if has_ok true tag turn.bytes then Some (reads fresh turn.bytes) else None)
selects_right tag now old read_only name answers turn q t names e met =
    entering_right tag turn.bytes q (selecting_known (Believes q) (λ u names e. absurd (none-some names e)) tag now old read_only name answers turn (counted q) t names e met)

-- ---- CLOSE and UNSELECT

-- a client that reads on
pub reads_right : (p : Point) (bytes : List ℕ) (q : Point) (client : Option Client) → LeadsFlags p bytes q → IsRightOnFlags p client → IsRightOnFlags q (reads_on bytes client)
reads_right p bytes q None leads right = tt
reads_right p bytes q (Some c) leads (list, is, right) = let f = leads list right in (f.after, ap (λ (d : Client). reads d bytes) is ∙ f.reads, f.each)

-- one that asked to leave, where it was told nothing of messages
stays_right : (tag bytes : List ℕ) (p : Point) (client : Option Client) → TellsNothing bytes → IsRightOnFlags p client → IsRightOnFlags p (if has_ok true tag bytes then None else reads_on bytes client)
stays_right tag bytes p client nothing right = by (has_ok true tag bytes)
  where
    reads_it : (c : Option Client) → IsRightOnFlags p c → IsRightOnFlags p (reads_on bytes c)
    reads_it None r = tt
    reads_it (Some c) (list, is, r) = (list, ap (λ (d : Client). reads d bytes) is ∙ nothing (Some list), r)

    by : (b : Bool) → IsRightOnFlags p (if b then None else reads_on bytes client)
    by true = tt
    by false = reads_it client right

-- it was told OK, and knows nothing more
gone_right : (tag bytes text : List ℕ) (p : Point) (client : Option Client) → bytes ≡ text → has_ok true tag text ≡ true → IsRightOnFlags p (if has_ok true tag bytes then None else reads_on bytes client)
gone_right tag bytes text p client e ok = rw (ap (has_ok true tag) e, ok) tt

later_right : (p : Point) (event : Event) (q : Point) (client : Option Client) → SeesMoments p event q → shown_in event.answer ≡ [] → IsRightOnFlags p client → IsRightOnFlags q client
later_right p event q None s none right = tt
later_right p event q (Some c) s none (list, is, right) = (list, is, grown_still p event q s none list right)

leaving_right : (tag words : List ℕ) (now : Standing) (p : Point) (remove : Bool) (answers : List Answer) (turn : Turn) (q : Point) (client : Option Client) → IsTag tag
    → has_ok true tag (tagged tag words) ≡ true → played tag now (Leave remove (says words)) answers ≡ Some turn → SeesAllMoments p turn.events q → IsRightOnFlags p client
    → IsRightOnFlags q (if has_ok true tag turn.bytes then None else reads_on turn.bytes client)
leaving_right tag words now p remove [] turn q client t ok e met right = absurd (none-some turn e)
leaving_right tag words now p remove (Left gone ∷ more) turn q client t ok e met right =
    let m = mapped (having (Leave remove) (Left gone)) (played tag (record now { selected = None }) (says words) more) turn e in
    gone_right tag turn.bytes (tagged tag words) q client
    (ap (λ (s : Turn). s.bytes) (sym m.makes) ∙ (only_done tag words Go (record now { selected = None }) more m.more m.is).bytes) ok
leaving_right tag words now p remove (Refused fault ∷ []) turn q client t ok e met right =
    let m = mapped (having (Leave remove) (Refused fault)) (Some (refused tag now fault)) turn e in
    let only = only_refused tag now fault m.more m.is in
    let met1 : SeesAllMoments p (record { call = Leave remove; answer = Refused fault } ∷ m.more.events) q = subst (λ (s : Turn). SeesAllMoments p s.events q) (sym m.makes) met in
    let last : q ≡ met1.0 = subst (λ (es : List Event). SeesAllMoments met1.0 es q) only.events met1.2 in
    let bytes : turn.bytes ≡ refusal_text tag fault = ap (λ (s : Turn). s.bytes) (sym m.makes) ∙ only.bytes in
    subst (λ (b : List ℕ). IsRightOnFlags q (if has_ok true tag b then None else reads_on b client)) (sym bytes)
    (stays_right tag (refusal_text tag fault) q client (refusal_tells_nothing tag fault t) (later_right p (record { call = Leave remove; answer = Refused fault }) q client (subst (λ (r : Point). SeesMoments p (record { call = Leave remove; answer = Refused fault }) r) (sym last) met1.1) refl right))
leaving_right tag words now p remove (_ ∷ more) turn q client t ok e met right = absurd (none-some turn e)

-- a client that reads on behind a line with this text alone
pub still_right : (tag : List ℕ) (text : ResponseText) (now : Standing) (p : Point) (answers : List Answer) (turn : Turn) (q : Point) (client : Option Client) → IsTag tag
    → played tag now (says (response_text text)) answers ≡ Some turn → SeesAllMoments p turn.events q → IsRightOnFlags p client → IsRightOnFlags q (reads_on turn.bytes client)
still_right tag text now p answers turn q client t e met right =
    let only = only_done tag (response_text text) Go now answers turn e in
    let last : q ≡ p = subst (λ (es : List Event). SeesAllMoments p es q) only.events met in
    subst (λ (b : List ℕ). IsRightOnFlags q (reads_on b client)) (sym only.bytes)
    (reads_right q (tagged tag (response_text text)) q client (leaves q _ (tagged_tells_nothing tag (response_text text) t (text_plain text))) (subst (λ (r : Point). IsRightOnFlags r client) (sym last) right))

-- it was refused
pub not_left_right : (tag : List ℕ) (text : ResponseText) (now : Standing) (p : Point) (answers : List Answer) (turn : Turn) (q : Point) (client : Option Client) → IsTag tag
    → played tag now (says (response_text text)) answers ≡ Some turn → SeesAllMoments p turn.events q → IsRightOnFlags p client → IsRightOnFlags q (if has_ok true tag turn.bytes then None else reads_on turn.bytes client)
not_left_right tag text now p answers turn q client t e met right =
    let only = only_done tag (response_text text) Go now answers turn e in
    let last : q ≡ p = subst (λ (es : List Event). SeesAllMoments p es q) only.events met in
    subst (λ (b : List ℕ). IsRightOnFlags q (if has_ok true tag b then None else reads_on b client)) (sym only.bytes)
    (stays_right tag (tagged tag (response_text text)) q client (tagged_tells_nothing tag (response_text text) t (text_plain text)) (subst (λ (r : Point). IsRightOnFlags r client) (sym last) right))

-- CLOSE or UNSELECT, where a mailbox is selected or none is
pub closes_right : (tag words : List ℕ) (now : Standing) (p : Point) (remove : Selected → Bool) (selected : Option Selected) (answers : List Answer) (turn : Turn) (q : Point) (client : Option Client) → IsTag tag
    → has_ok true tag (tagged tag words) ≡ true → played tag now (on_found (λ s. Leave (remove s) (says words)) wrong_state selected) answers ≡ Some turn → SeesAllMoments p turn.events q → IsRightOnFlags p client
    → IsRightOnFlags q (if has_ok true tag turn.bytes then None else reads_on turn.bytes client)
closes_right tag words now p remove None answers turn q client t ok e met right = not_left_right tag texts.WrongState now p answers turn q client t e met right
closes_right tag words now p remove (Some selected) answers turn q client t ok e met right = leaving_right tag words now p (remove selected) answers turn q client t ok e met right
