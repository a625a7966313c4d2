-- What SELECT, EXAMINE, CLOSE and UNSELECT say, as a client hears it that knows that it asked for that.
use Rattle.std.proofs.Common.{zero, suc, ◌≡◌, ℕ, Bool, true, false, ◌==◌, List, [], ◌∷◌, ◌++◌, refl, sym, subst, ap, ◌∙◌, append-nil, append_assoc, ◌<◌, ◌^◌, length}
use Rattle.std.specs.Prelude.{Option, Some, None, IfSome, codes, ◌&&◌, ◌||◌, if◌then◌else◌}
use Rattle.std.specs.Option.{option_map}
use Rattle.std.specs.List.{list_all}
use Rattle.std.proofs.lemmas.Bool.{eq-eqb, false≢true}
use Rattle.std.proofs.lemmas.Option.{none-some}
use Rattle.mailbox.specs.declared.clients.MailFault.{MailFault}
use Rattle.mailbox.specs.declared.clients.MailFault.TheVariants.{Stranger, Lapped, Spent, NoMemory}
use Rattle.mailbox.specs.declared.clients.Opening.{Opening}
use Rattle.imap_session.specs.declared.standing.After.{After}
use Rattle.imap_session.specs.declared.standing.After.TheVariants.{Go}
use Rattle.imap_session.specs.declared.standing.Selected.{Selected}
use Rattle.imap_session.specs.Exchange.{Answer, Entered, Left, Refused, Starved, Event, Exchange, Done, Write, Put, Enter, Leave, Folder, Standing, Turn, closed, having, played, refusal_after, refusal_text, refused, saying, tagged}
use Rattle.imap_session.specs.Commands.{closing, entering, folder_of, on_folder, on_found, opened, says, selecting, telling_recent, wanting, wrong_state, entered_text}
use Rattle.imap_answers.specs.Answers.{opening_text}
use Rattle.laws_client.specs.Client.{Client, Known, reads, unknown}
use Rattle.laws_client.specs.Beliefs.{Follows, Leads, TellsNothing}
use Rattle.laws_client.specs.Clients.{Each, IsOf}
use Rattle.laws_client.specs.Commands.{AreNames}
use Rattle.laws_client.specs.ListTurns.{is_inner, IsPlain, IsTag}
use Rattle.laws_client.proofs.Reading.{begins, fresh, more}
use Rattle.laws_client.proofs.Bytes.{first_of, reads-append, rest_of}
use Rattle.laws_client.proofs.Ends.{leaves, refusal_tells_nothing, tagged_tells_nothing}
use Rattle.laws_client.proofs.Opening.{opening_told}
use Rattle.laws_client.proofs.ToldAll.{HearsAll}
use Rattle.laws_client.proofs.Turns.{the_turn, closed_silent, closed_quiet}
use Rattle.laws_client.proofs.Untold.{both_tell_nothing, folder_plain}
use Rattle.laws_client.specs.Clients.{IsRightAbout, has_ok, reads_on}
use Rattle.imap_session.specs.declared.texts.ResponseText.TheVariants as texts
use Rattle.imap_session.specs.Texts.{response_text}
use Rattle.imap_session.specs.declared.texts.ResponseText.{ResponseText}
use Rattle.laws_client.proofs.TextRows.{text_plain}
use Rattle.imap_session.specs.declared.standing.Profile.{Profile}
use Rattle.imap_session.specs.declared.standing.Profile.TheVariants.{Standard, Compatible}

-- ---- a tagged OK, or none

begins_both : (t a b : List ℕ) → begins (t ++ a) (t ++ b) ≡ begins a b
begins_both [] a b = refl
begins_both (x ∷ t) a b = rw (eq-eqb x x refl) (begins_both t a b)

skips : (xs rest tag : List ℕ) → list_all is_inner xs ≡ true → has_ok false tag (xs ++ rest) ≡ has_ok false tag rest
skips [] rest tag h = refl
skips (x ∷ xs) rest tag h = by (x == 10) (first_of is_inner x xs h) (skips xs rest tag (rest_of is_inner x xs h))
  where
    by : (b : Bool) → (if b then false else true) ≡ true → has_ok false tag (xs ++ rest) ≡ has_ok false tag rest → has_ok b tag (xs ++ rest) ≡ has_ok false tag rest
    by true e more = absurd (false≢true e)
    by false e more = more

not_lf : (x : ℕ) → is_inner x ≡ true → (x == 10) ≡ false
not_lf x h = by (x == 10) h
  where
    by : (b : Bool) → (if b then false else true) ≡ true → b ≡ false
    by true e = absurd (false≢true e)
    by false e = refl

-- a line that begins with its tag
at_tag : (f : ℕ) (o rest : List ℕ) → list_all is_inner (f ∷ o) ≡ true → has_ok true (f ∷ o) ((f ∷ o) ++ rest) ≡ (begins (codes " OK ") rest || has_ok false (f ∷ o) rest)
at_tag f o rest h =
    ap (λ (b : Bool). b || has_ok (f == 10) (f ∷ o) (o ++ rest)) (begins_both (f ∷ o) (codes " OK ") rest)
    ∙ ap (λ (b : Bool). begins (codes " OK ") rest || has_ok b (f ∷ o) (o ++ rest)) (not_lf f (first_of is_inner f o h))
    ∙ ap (λ (b : Bool). begins (codes " OK ") rest || b) (skips o rest (f ∷ o) (rest_of is_inner f o h))

regroup : (a b c d : List ℕ) → a ++ b ++ c ++ d ≡ a ++ (b ++ (c ++ d))
regroup a b c d = simp append_assoc

pub tagged_has : (tag words : List ℕ) → IsTag tag → has_ok true tag (tagged tag words) ≡ (begins (codes " OK ") (codes " " ++ (words ++ codes "\r\n")) || has_ok false tag (codes " " ++ (words ++ codes "\r\n")))
tagged_has tag words t =
    ap (has_ok true tag) (regroup tag (codes " ") words (codes "\r\n"))
    ∙ subst (λ (g : List ℕ). has_ok true g (g ++ (codes " " ++ (words ++ codes "\r\n"))) ≡ (begins (codes " OK ") (codes " " ++ (words ++ codes "\r\n")) || has_ok false g (codes " " ++ (words ++ codes "\r\n"))))
    (sym t.is) (at_tag t.first t.others (codes " " ++ (words ++ codes "\r\n")) t.inner)

-- a line that begins with a star has none
pub at_star : (tag rest : List ℕ) → IsTag tag → has_ok true tag (42 ∷ rest) ≡ has_ok false tag rest
at_star tag rest t = ap (λ (b : Bool). b || has_ok false tag rest) none
  where
    none : begins (tag ++ codes " OK ") (42 ∷ rest) ≡ false
    none = ap (λ (g : List ℕ). begins (g ++ codes " OK ") (42 ∷ rest)) t.is ∙ ap (λ (b : Bool). b && begins (t.others ++ codes " OK ") rest) t.no_star

pub refusal_has_none : (tag : List ℕ) (fault : MailFault) → IsTag tag → has_ok true tag (refusal_text tag fault) ≡ false
refusal_has_none tag Stranger t = at_star tag _ t
refusal_has_none tag Lapped t = at_star tag _ t
refusal_has_none tag Spent t = tagged_has tag (response_text texts.MailboxSpent) t
refusal_has_none tag NoMemory t = tagged_has tag (response_text texts.OutOfMemory) t

-- ---- turns

-- a turn that is this text and no event
pub record Only (text : List ℕ) (turn : Turn) : Type 0 where
  pub bytes : turn.bytes ≡ text
  pub events : turn.events ≡ []

only_closed : (now : Standing) (text : List ℕ) (how : After) (turn : Turn) → saying text (closed now how) ≡ turn → Only text turn
only_closed now text how turn e = record {
  bytes = ap (λ (t : Turn). t.bytes) (sym e) ∙ ap (λ (b : List ℕ). text ++ b) (closed_silent now how) ∙ append-nil text;
  events = ap (λ (t : Turn). t.events) (sym e) ∙ closed_quiet now how;
}

pub only_refused : (tag : List ℕ) (now : Standing) (fault : MailFault) (turn : Turn) → Some (refused tag now fault) ≡ Some turn → Only (refusal_text tag fault) turn
only_refused tag now fault turn e = only_closed now (refusal_text tag fault) (refusal_after fault) turn (ap (the_turn turn) e)

pub only_done : (tag words : List ℕ) (how : After) (now : Standing) (answers : List Answer) (turn : Turn) → played tag now (Done words how) answers ≡ Some turn → Only (tagged tag words) turn
only_done tag words how now [] turn e = only_closed now (tagged tag words) how turn (ap (the_turn turn) e)
only_done tag words how now (a ∷ more) turn e = absurd (none-some turn e)

pub record Mapped (f : Turn → Turn) (rest : Option Turn) (turn : Turn) : Type 0 where
  pub more : Turn
  pub is : rest ≡ Some more
  pub makes : f more ≡ turn

pub mapped : (f : Turn → Turn) (rest : Option Turn) (turn : Turn) → option_map f rest ≡ Some turn → Mapped f rest turn
mapped f None turn e = absurd (none-some turn e)
mapped f (Some more) turn e = record { more = more; is = refl; makes = ap (the_turn turn) e }

-- what was written comes first, unless memory was refused to it
pub data Wrote (tag : List ℕ) (now : Standing) (bytes : List ℕ) (x : Exchange) (turn : Turn) : Type 0 where
  wanted : Only (refusal_text tag NoMemory) turn → turn.standing.selected ≡ now.selected → Wrote tag now bytes x turn
  wrote : (answers : List Answer) → Mapped (saying bytes) (played tag now x answers) turn → Wrote tag now bytes x turn

pub writes : (tag : List ℕ) (now : Standing) (bytes : List ℕ) (x : Exchange) (answers : List Answer) (turn : Turn) → played tag now (Write bytes x) answers ≡ Some turn → Wrote tag now bytes x turn
writes tag now bytes x [] turn e = wrote [] (mapped (saying bytes) (played tag now x []) turn e)
writes tag now bytes x (Starved zero ∷ []) turn e = wanted (only_refused tag now NoMemory turn e) (ap (λ (s : Turn). s.standing.selected) (sym (ap (the_turn turn) e)))
writes tag now bytes x (Starved (suc n) ∷ []) turn e = wrote (Starved n ∷ []) (mapped (saying bytes) (played tag now x (Starved n ∷ [])) turn e)
writes tag now bytes x (given ∷ more) turn e = wrote (given ∷ more) (mapped (saying bytes) (played tag now x (given ∷ more)) turn e)

-- ---- SELECT and EXAMINE

-- what is told of recent messages, in this profile
abbrev pub recent_line : Profile → List ℕ
recent_line Standard = []
recent_line Compatible = codes "* " ++ response_text texts.NoneRecent ++ codes "\r\n"

pub recent_tells_nothing : (profile : Profile) → TellsNothing (recent_line profile)
recent_tells_nothing Standard messages = refl
recent_tells_nothing Compatible messages = refl

-- it comes before the last line
pub recent_done : (profile : Profile) (tag words : List ℕ) (now : Standing) (answers : List Answer) (turn : Turn) → played tag now (telling_recent profile (says words)) answers ≡ Some turn
    → Only (recent_line profile ++ tagged tag words) turn
recent_done Standard tag words now answers turn e = only_done tag words Go now answers turn e
recent_done Compatible tag words now answers turn e =
    let m = mapped (saying (recent_line Compatible)) (played tag now (says words) answers) turn e in
    let d = only_done tag words Go now answers m.more m.is in record {
      bytes = ap (λ (s : Turn). s.bytes) (sym m.makes) ∙ ap (λ (b : List ℕ). recent_line Compatible ++ b) d.bytes;
      events = ap (λ (s : Turn). s.events) (sym m.makes) ∙ d.events;
    }

-- where these bytes have the tagged OK, a client with no messages reads them, and has a list of this view of which this holds
abbrev pub IfOk : (ℕ → Known → Type 0) → List ℕ → List ℕ → List ℕ → Type 0
IfOk P tag bytes view = has_ok true tag bytes ≡ true → Follows P [] bytes view

-- of messages that are new nothing is known
unknown_all : (P : ℕ → Known → Type 0) (new : (u : ℕ) → P u unknown) (view : List ℕ) → Each P view (more (length view))
unknown_all P new [] = tt
unknown_all P new (u ∷ us) = (new u, unknown_all P new us)

opening_at : (P : ℕ → Known → Type 0) (new : (u : ℕ) → P u unknown) (read_only : Bool) (name : List ℕ) (o : Opening) (view : List ℕ) → IsPlain name → o.count ≡ length view → o.count < 2 ^ 64 → o.uidvalidity < 2 ^ 64
    → o.uidnext < 2 ^ 64 → Follows P [] (opening_text read_only name o) view
opening_at P new read_only name o view plain count few validity next = record {
  after = more o.count;
  reads = opening_told read_only name o plain few validity next;
  each = subst (λ (n : ℕ). Each P view (more n)) (sym count) (unknown_all P new view);
}

none_said : (P : ℕ → Known → Type 0) (new : (u : ℕ) → P u unknown) (tag bytes text view : List ℕ) → bytes ≡ text → has_ok true tag text ≡ false → IfOk P tag bytes view
none_said P new tag bytes text view e none ok = absurd (false≢true (sym none ∙ ap (has_ok true tag) (sym e) ∙ ok))

refused_none : (P : ℕ → Known → Type 0) (new : (u : ℕ) → P u unknown) (tag : List ℕ) (fault : MailFault) (turn : Turn) (view : List ℕ) → IsTag tag → Only (refusal_text tag fault) turn → IfOk P tag turn.bytes view
refused_none P new tag fault turn view t only = none_said P new tag turn.bytes (refusal_text tag fault) view only.bytes (refusal_has_none tag fault t)

then_nothing : (P : ℕ → Known → Type 0) (new : (u : ℕ) → P u unknown) (text behind view : List ℕ) → TellsNothing behind → Follows P [] text view → Follows P [] (text ++ behind) view
then_nothing P new text behind view nothing f = record {
  after = f.after;
  reads = reads-append fresh text behind ∙ ap (λ (c : Client). reads c behind) f.reads ∙ nothing (Some f.after);
  each = f.each;
}

-- what is told of a mailbox that was entered, and the lines behind it
opened_known : (P : ℕ → Known → Type 0) (new : (u : ℕ) → P u unknown) (tag : List ℕ) (now : Standing) (profile : Profile) (read_only : Bool) (name : List ℕ) (o : Opening) (answers : List Answer) (turn : Turn) (view : List ℕ) → IsTag tag
    → Follows P [] (opening_text read_only name o) view → played tag now (opened profile read_only name o) answers ≡ Some turn → IfOk P tag turn.bytes view × (turn.events ≡ [])
opened_known P new tag now profile read_only name o answers turn view t f e =
    let text : ResponseText = entered_text read_only in
    let m = mapped (saying (opening_text read_only name o)) (played tag now (telling_recent profile (says (response_text text))) answers) turn e in
    let d = recent_done profile tag (response_text text) now answers m.more m.is in
    let behind : List ℕ = recent_line profile ++ tagged tag (response_text text) in
    let bytes : turn.bytes ≡ opening_text read_only name o ++ behind = ap (λ (s : Turn). s.bytes) (sym m.makes) ∙ ap (λ (b : List ℕ). opening_text read_only name o ++ b) d.bytes in
    let nothing : TellsNothing behind = both_tell_nothing (recent_line profile) (tagged tag (response_text text)) (recent_tells_nothing profile) (tagged_tells_nothing tag (response_text text) t (text_plain text)) in
    ((λ ok. subst (λ (b : List ℕ). Follows P [] b view) (sym bytes) (then_nothing P new (opening_text read_only name o) behind view nothing f)), ap (λ (s : Turn). s.events) (sym m.makes) ∙ d.events)

-- a mailbox is entered
enters_known : (P : ℕ → Known → Type 0) (new : (u : ℕ) → P u unknown) (tag : List ℕ) (now : Standing) (old : List ℕ) (profile : Profile) (read_only : Bool) (folder : Folder) (answers : List Answer) (turn : Turn) (view : List ℕ) → IsTag tag → IsPlain folder.name
    → played tag now (entering profile read_only folder) answers ≡ Some turn → HearsAll old turn.events view → IfOk P tag turn.bytes view
enters_known P new tag now old profile read_only folder [] turn view t plain e met = absurd (none-some turn e)
enters_known P new tag now old profile read_only folder (Entered o ∷ more) turn view t plain e met =
    let selected : Selected = record { mailbox = folder.mailbox; read_only = read_only } in
    let m = mapped (having (Enter folder.mailbox) (Entered o)) (played tag (record now { selected = Some selected }) (opened profile read_only folder.name o) more) turn e in
    let met1 : HearsAll old (record { call = Enter folder.mailbox; answer = Entered o } ∷ m.more.events) view = subst (λ (s : Turn). HearsAll old s.events view) (sym m.makes) met in
    let told = met1.2 in
    let f : Follows P [] (opening_text read_only folder.name o) met1.0 = opening_at P new read_only folder.name o met1.0 plain told.count told.few told.uidvalidity told.uidnext in
    let known = opened_known P new tag (record now { selected = Some selected }) profile read_only folder.name o more m.more met1.0 t f m.is in
    let last : view ≡ met1.0 = subst (λ (es : List Event). HearsAll met1.0 es view) known.1 met1.3 in
    subst (λ (s : Turn). IfOk P tag s.bytes view) m.makes (subst (λ (u : List ℕ). IfOk P tag m.more.bytes u) (sym last) known.0)
enters_known P new tag now old profile read_only folder (Refused fault ∷ []) turn view t plain e met =
    let m = mapped (having (Enter folder.mailbox) (Refused fault)) (Some (refused tag now fault)) turn e in
    subst (λ (s : Turn). IfOk P tag s.bytes view) m.makes (refused_none P new tag fault m.more view t (only_refused tag now fault m.more m.is))
enters_known P new tag now old profile read_only folder (_ ∷ more) turn view t plain e met = absurd (none-some turn e)

-- the mailbox is looked for
named_known : (P : ℕ → Known → Type 0) (new : (u : ℕ) → P u unknown) (tag : List ℕ) (now : Standing) (old : List ℕ) (profile : Profile) (read_only : Bool) (name : List ℕ) (folders : List Folder) (answers : List Answer) (turn : Turn) (view : List ℕ)
    → IsTag tag → AreNames folders → played tag now (on_folder name folders (entering profile read_only)) answers ≡ Some turn → HearsAll old turn.events view → IfOk P tag turn.bytes view
named_known P new tag now old profile read_only name folders answers turn view t names e met = by (folder_of name folders) (folder_plain name folders names) e
  where
    missing : List ℕ
    missing = response_text texts.NoSuchMailbox

    by : (found : Option Folder) → IfSome found (λ f. IsPlain f.name) → played tag now (on_found (entering profile read_only) (says (response_text texts.NoSuchMailbox)) found) answers ≡ Some turn → IfOk P tag turn.bytes view
    by None plain d =
        none_said P new tag turn.bytes (tagged tag (response_text texts.NoSuchMailbox)) view (only_done tag (response_text texts.NoSuchMailbox) Go now answers turn d).bytes
        (tagged_has tag (response_text texts.NoSuchMailbox) t)
    by (Some folder) plain d = enters_known P new tag now old profile read_only folder answers turn view t plain d met

abbrev pub closed_line : List ℕ
closed_line = codes "* " ++ response_text texts.PreviousClosed ++ codes "\r\n"

behind_closed : (P : ℕ → Known → Type 0) (new : (u : ℕ) → P u unknown) (tag bytes view : List ℕ) → IsTag tag → IfOk P tag bytes view → IfOk P tag (closed_line ++ bytes) view
behind_closed P new tag bytes view t known ok =
    let f = known (sym (at_star tag _ t) ∙ ok) in record {
      after = f.after;
      reads = reads-append fresh closed_line bytes ∙ f.reads;
      each = f.each;
    }

-- memory is wanted, and the mailbox is looked for
wanted_known : (P : ℕ → Known → Type 0) (new : (u : ℕ) → P u unknown) (tag : List ℕ) (now : Standing) (old : List ℕ) (profile : Profile) (read_only : Bool) (name : List ℕ) (folders : List Folder) (answers : List Answer) (turn : Turn) (view : List ℕ)
    → IsTag tag → AreNames folders → played tag now (wanting (on_folder name folders (entering profile read_only))) answers ≡ Some turn → HearsAll old turn.events view → IfOk P tag turn.bytes view
wanted_known P new tag now old profile read_only name folders answers turn view t names e met = by (writes tag now [] (on_folder name folders (entering profile read_only)) answers turn e)
  where
    by : Wrote tag now [] (on_folder name folders (entering profile read_only)) turn → IfOk P tag turn.bytes view
    by (wanted only stays) = refused_none P new tag NoMemory turn view t only
    by (wrote others p) =
        subst (λ (s : Turn). IfOk P tag s.bytes view) p.makes
        (named_known P new tag now old profile read_only name folders others p.more view t names p.is (subst (λ (s : Turn). HearsAll old s.events view) (sym p.makes) met))

-- the mailbox that was selected is left first
closing_known : (P : ℕ → Known → Type 0) (new : (u : ℕ) → P u unknown) (tag : List ℕ) (now : Standing) (old : List ℕ) (profile : Profile) (read_only : Bool) (name : List ℕ) (folders : List Folder) (selected : Option Selected) (answers : List Answer) (turn : Turn) (view : List ℕ)
    → IsTag tag → AreNames folders
    → played tag now (closing selected (wanting (on_folder name folders (entering profile read_only)))) answers ≡ Some turn → HearsAll old turn.events view → IfOk P tag turn.bytes view
closing_known P new tag now old profile read_only name folders None answers turn view t names e met = wanted_known P new tag now old profile read_only name folders answers turn view t names e met
closing_known P new tag now old profile read_only name folders (Some selected) [] turn view t names e met = absurd (none-some turn e)
closing_known P new tag now old profile read_only name folders (Some selected) (Left gone ∷ more) turn view t names e met =
    let next : Standing = record now { selected = None } in
    let tail : Exchange = wanting (on_folder name folders (entering profile read_only)) in
    let m = mapped (having (Leave false) (Left gone)) (played tag next (Put closed_line tail) more) turn e in
    let met1 : HearsAll old (record { call = Leave false; answer = Left gone } ∷ m.more.events) view = subst (λ (s : Turn). HearsAll old s.events view) (sym m.makes) met in
    let p = mapped (saying closed_line) (played tag next tail more) m.more m.is in
    let met2 : HearsAll met1.0 p.more.events view = subst (λ (s : Turn). HearsAll met1.0 s.events view) (sym p.makes) met1.3 in
    subst (λ (s : Turn). IfOk P tag s.bytes view) m.makes
    (subst (λ (s : Turn). IfOk P tag s.bytes view) p.makes
    (behind_closed P new tag p.more.bytes view t (wanted_known P new tag next met1.0 profile read_only name folders more p.more view t names p.is met2)))
closing_known P new tag now old profile read_only name folders (Some selected) (Refused fault ∷ []) turn view t names e met =
    let m = mapped (having (Leave false) (Refused fault)) (Some (refused tag now fault)) turn e in
    subst (λ (s : Turn). IfOk P tag s.bytes view) m.makes (refused_none P new tag fault m.more view t (only_refused tag now fault m.more m.is))
closing_known P new tag now old profile read_only name folders (Some selected) (_ ∷ more) turn view t names e met = absurd (none-some turn e)

pub selecting_known : (P : ℕ → Known → Type 0) (new : (u : ℕ) → P u unknown) (tag : List ℕ) (now : Standing) (old : List ℕ) (read_only : Bool) (name : List ℕ) (answers : List Answer) (turn : Turn) (view : List ℕ)
    → IsTag tag → AreNames now.folders
    → played tag now (selecting now.profile now.folders now.selected read_only name) answers ≡ Some turn → HearsAll old turn.events view → IfOk P tag turn.bytes view
selecting_known P new tag now old read_only name answers turn view t names e met = closing_known P new tag now old now.profile read_only name now.folders now.selected answers turn view t names e met

pub selected_known : (tag : List ℕ) (now : Standing) (old : List ℕ) (read_only : Bool) (name : List ℕ) (answers : List Answer) (turn : Turn) (view : List ℕ) → IsTag tag → AreNames now.folders
    → played tag now (selecting now.profile now.folders now.selected read_only name) answers ≡ Some turn → HearsAll old turn.events view → IfOk IsOf tag turn.bytes view
selected_known tag now old read_only name answers turn view t names e met = selecting_known IsOf (λ u n is. absurd (none-some n is)) tag now old read_only name answers turn view t names e met

-- a client that asked for a mailbox, and was told no OK
pub not_entered_right : (tag bytes view : List ℕ) → has_ok true tag bytes ≡ false → IsRightAbout view (if has_ok true tag bytes then Some (reads fresh bytes) else None)
not_entered_right tag bytes view none = rw none tt

-- a client that asked for a mailbox
pub entering_right : (tag bytes view : List ℕ) → IfOk IsOf tag bytes view → IsRightAbout view (if has_ok true tag bytes then Some (reads fresh bytes) else None)
entering_right tag bytes view known = by (has_ok true tag bytes) known
  where
    by : (b : Bool) → (b ≡ true → Follows IsOf [] bytes view) → IsRightAbout view (if b then Some (reads fresh bytes) else None)
    by true f = let g = f refl in (g.after, g.reads, g.each)
    by false f = tt

-- ---- CLOSE and UNSELECT

-- a client that reads on
pub reads_right : (view bytes new : List ℕ) (client : Option Client) → Leads view bytes new → IsRightAbout view client → IsRightAbout new (reads_on bytes client)
reads_right view bytes new None leads right = tt
reads_right view bytes new (Some c) leads (list, is, right) = let f = leads list right in (f.after, ap (λ (d : Client). reads d bytes) is ∙ f.reads, f.each)

-- one that asked to leave, where it was told nothing of messages
stays_right : (tag bytes view : List ℕ) (client : Option Client) → TellsNothing bytes → IsRightAbout view client → IsRightAbout view (if has_ok true tag bytes then None else reads_on bytes client)
stays_right tag bytes view client nothing right = by (has_ok true tag bytes)
  where
    reads_it : (c : Option Client) → IsRightAbout view c → IsRightAbout view (reads_on bytes c)
    reads_it None r = tt
    reads_it (Some c) (list, is, r) = (list, ap (λ (d : Client). reads d bytes) is ∙ nothing (Some list), r)

    by : (b : Bool) → IsRightAbout view (if b then None else reads_on bytes client)
    by true = tt
    by false = reads_it client right

-- it was told OK, and knows nothing more
gone_right : (tag bytes text view : List ℕ) (client : Option Client) → bytes ≡ text → has_ok true tag text ≡ true → IsRightAbout view (if has_ok true tag bytes then None else reads_on bytes client)
gone_right tag bytes text view client e ok = rw (ap (has_ok true tag) e, ok) tt

same_view : (old new : List ℕ) (client : Option Client) → new ≡ old → IsRightAbout old client → IsRightAbout new client
same_view old new client e right = rw e right

pub leaving_right : (tag words : List ℕ) (now : Standing) (old : List ℕ) (remove : Bool) (answers : List Answer) (turn : Turn) (new : List ℕ) (client : Option Client) → IsTag tag
    → has_ok true tag (tagged tag words) ≡ true → played tag now (Leave remove (says words)) answers ≡ Some turn → HearsAll old turn.events new → IsRightAbout old client
    → IsRightAbout new (if has_ok true tag turn.bytes then None else reads_on turn.bytes client)
leaving_right tag words now old remove [] turn new client t ok e met right = absurd (none-some turn e)
leaving_right tag words now old remove (Left gone ∷ more) turn new client t ok e met right =
    let m = mapped (having (Leave remove) (Left gone)) (played tag (record now { selected = None }) (says words) more) turn e in
    gone_right tag turn.bytes (tagged tag words) new client
    (ap (λ (s : Turn). s.bytes) (sym m.makes) ∙ (only_done tag words Go (record now { selected = None }) more m.more m.is).bytes) ok
leaving_right tag words now old remove (Refused fault ∷ []) turn new client t ok e met right =
    let m = mapped (having (Leave remove) (Refused fault)) (Some (refused tag now fault)) turn e in
    let only = only_refused tag now fault m.more m.is in
    let met1 : HearsAll old (record { call = Leave remove; answer = Refused fault } ∷ m.more.events) new = subst (λ (s : Turn). HearsAll old s.events new) (sym m.makes) met in
    let last : new ≡ met1.0 = subst (λ (es : List Event). HearsAll met1.0 es new) only.events met1.3 in
    let bytes : turn.bytes ≡ refusal_text tag fault = ap (λ (s : Turn). s.bytes) (sym m.makes) ∙ only.bytes in
    subst (λ (b : List ℕ). IsRightAbout new (if has_ok true tag b then None else reads_on b client)) (sym bytes)
    (stays_right tag (refusal_text tag fault) new client (refusal_tells_nothing tag fault t) (same_view old new client (last ∙ met1.1.leads) right))
leaving_right tag words now old remove (_ ∷ more) turn new client t ok e met right = absurd (none-some turn e)

-- a client that reads on behind a line with this text alone
pub still_right : (tag : List ℕ) (text : ResponseText) (now : Standing) (old : List ℕ) (answers : List Answer) (turn : Turn) (new : List ℕ) (client : Option Client) → IsTag tag
    → played tag now (says (response_text text)) answers ≡ Some turn → HearsAll old turn.events new → IsRightAbout old client → IsRightAbout new (reads_on turn.bytes client)
still_right tag text now old answers turn new client t e met right =
    let only = only_done tag (response_text text) Go now answers turn e in
    let last : new ≡ old = subst (λ (es : List Event). HearsAll old es new) only.events met in
    subst (λ (b : List ℕ). IsRightAbout new (reads_on b client)) (sym only.bytes)
    (reads_right new (tagged tag (response_text text)) new client (leaves new _ (tagged_tells_nothing tag (response_text text) t (text_plain text))) (same_view old new client last right))

-- it was refused
pub not_left_right : (tag : List ℕ) (text : ResponseText) (now : Standing) (old : List ℕ) (answers : List Answer) (turn : Turn) (new : List ℕ) (client : Option Client) → IsTag tag
    → played tag now (says (response_text text)) answers ≡ Some turn → HearsAll old turn.events new → IsRightAbout old client → IsRightAbout new (if has_ok true tag turn.bytes then None else reads_on turn.bytes client)
not_left_right tag text now old answers turn new client t e met right =
    let only = only_done tag (response_text text) Go now answers turn e in
    let last : new ≡ old = subst (λ (es : List Event). HearsAll old es new) only.events met in
    subst (λ (b : List ℕ). IsRightAbout new (if has_ok true tag b then None else reads_on b client)) (sym only.bytes)
    (stays_right tag (tagged tag (response_text text)) new client (tagged_tells_nothing tag (response_text text) t (text_plain text)) (same_view old new client last right))

-- CLOSE or UNSELECT, where a mailbox is selected or none is
pub closes_right : (tag words : List ℕ) (now : Standing) (old : List ℕ) (remove : Selected → Bool) (selected : Option Selected) (answers : List Answer) (turn : Turn) (new : List ℕ) (client : Option Client) → IsTag tag
    → has_ok true tag (tagged tag words) ≡ true → played tag now (on_found (λ s. Leave (remove s) (says words)) wrong_state selected) answers ≡ Some turn → HearsAll old turn.events new → IsRightAbout old client
    → IsRightAbout new (if has_ok true tag turn.bytes then None else reads_on turn.bytes client)
closes_right tag words now old remove None answers turn new client t ok e met right = not_left_right tag texts.WrongState now old answers turn new client t e met right
closes_right tag words now old remove (Some selected) answers turn new client t ok e met right = leaving_right tag words now old (remove selected) answers turn new client t ok e met right
