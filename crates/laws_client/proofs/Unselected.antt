-- A SELECT or EXAMINE that isn't answered OK leaves no mailbox selected.
use Rattle.std.proofs.Common.{◌≡◌, ◌<◌, ◌⊎◌, inl, inr, ℕ, ◌+◌, arith, length, Bool, true, false, ◌==◌, List, [], ◌∷◌, ◌++◌, refl, sym, subst, ap, ◌∙◌, append_assoc}
use Rattle.std.specs.Prelude.{Option, Some, None, Result, Ok, Err, codes, decimal, ◌&&◌, ◌||◌, if◌then◌else◌, IfSome}
use Rattle.std.proofs.lemmas.Bool.{false≢true}
use Rattle.std.proofs.lemmas.Option.{none-some}
use Rattle.mailbox.specs.declared.clients.MailFault.{MailFault}
use Rattle.mailbox.specs.declared.clients.MailFault.TheVariants.{Stranger, Lapped, Spent, NoMemory}
use Rattle.mailbox.specs.declared.clients.Opening.{Opening}
use Rattle.world.specs.World as world
use Rattle.world.specs.World.{Config, IsWorld, World, most_changes}
use Rattle.world.proofs.Always.{kept_always}
use Rattle.imap_grammar.specs.Reading.{read}
use Rattle.imap_grammar.specs.declared.command.Command.{Command}
use Rattle.imap_grammar.specs.declared.command.Command.TheVariants as commands
use Rattle.imap_grammar.specs.declared.command.ImapFault.{ImapFault}
use Rattle.imap_session.specs.declared.standing.Selected.{Selected}
use Rattle.imap_session.specs.Exchange.{Answer, Entered, Left, Refused, Event, Exchange, Put, Enter, Leave, Folder, Standing, Turn, closed, having, played, refusal_after, refused, saying, tagged}
use Rattle.imap_session.specs.Commands.{closing, entering, folder_of, on_command, on_folder, on_found, on_read, opened, says, telling_recent, wanting, entered_text, barred_at, logs_in_as, on_line, on_text_line, without_begun}
use Rattle.imap_session.specs.Store.{Met}
use Rattle.imap_answers.specs.Answers.{all_flags, opening_text}
use Rattle.laws_client.specs.ListTurns.{IsTag}
use Rattle.laws_client.proofs.Reading.{asked_by, begins}
use Rattle.laws_client.proofs.Tags.{Tagged, read_tagged}
use Rattle.laws_client.proofs.Turns.{the_turn}
use Rattle.laws_client.specs.Clients.{Asked, Entering, Leaving, Neither, asked, has_ok}
use Rattle.laws_client.specs.Selecting.{HasLoggedIn, RefusedSelectsNone}
use Rattle.laws_client.proofs.RecordEntering.{Wrote, at_star, closed_line, recent_done, recent_line, mapped, only_refused, tagged_has, wanted, writes, wrote}
use Rattle.laws_client.proofs.Moved.{Calls}
use Rattle.laws_client.proofs.Selecting.{given_up, selected_stays}
use Rattle.imap_session.specs.declared.texts.ResponseText.TheVariants as texts
use Rattle.imap_session.specs.Texts.{response_text}
use Rattle.imap_session.specs.declared.standing.Profile.{Profile}
use Rattle.imap_session.specs.declared.standing.Profile.TheVariants.{Standard, Compatible}
use Rattle.imap_session.specs.declared.texts.ResponseText.{ResponseText}
use Rattle.laws_client.proofs.Barred.{login_asks}
use Rattle.laws_client.proofs.WholeLines.{unfinished_asks, text_has, whole_turn}

-- ---- the OK behind what is told of a mailbox that was entered

or_true : (b : Bool) → (b || true) ≡ true
or_true true = refl
or_true false = refl

-- a line has ended there, and so the tagged OK begins one
behind_line : (at : Bool) (tag front rest : List ℕ) → has_ok true tag rest ≡ true → has_ok at tag (front ++ (13 ∷ 10 ∷ rest)) ≡ true
behind_line at tag [] rest h =
    ap (λ (b : Bool). (at && begins (tag ++ codes " OK ") (13 ∷ 10 ∷ rest)) || b) h ∙ or_true (at && begins (tag ++ codes " OK ") (13 ∷ 10 ∷ rest))
behind_line at tag (c ∷ front) rest h =
    ap (λ (b : Bool). (at && begins (tag ++ codes " OK ") (c ∷ (front ++ (13 ∷ 10 ∷ rest)))) || b) (behind_line (c == 10) tag front rest h)
    ∙ or_true (at && begins (tag ++ codes " OK ") (c ∷ (front ++ (13 ∷ 10 ∷ rest))))

abbrev but_its_end : Bool → List ℕ → Opening → List ℕ
but_its_end read_only name o =
    codes "* FLAGS (" ++ all_flags ++ codes ")\r\n* " ++ decimal o.count ++ codes " EXISTS\r\n" ++ codes "* OK [UIDVALIDITY " ++ decimal o.uidvalidity ++ codes "] UIDs valid\r\n"
    ++ codes "* OK [UIDNEXT " ++ decimal o.uidnext ++ codes "] Predicted next UID\r\n" ++ codes "* OK [PERMANENTFLAGS (" ++ (if read_only then [] else all_flags) ++ codes ")] Flags kept\r\n"
    ++ codes "* LIST () \"/\" " ++ name

ok_behind : (tag rest : List ℕ) (read_only : Bool) (name : List ℕ) (o : Opening) → has_ok true tag rest ≡ true → has_ok true tag (opening_text read_only name o ++ rest) ≡ true
ok_behind tag rest read_only name o h =
    ap (has_ok true tag) (append_assoc (but_its_end read_only name o) (codes "\r\n") rest) ∙ behind_line true tag (but_its_end read_only name o) rest h

-- behind what is told of recent messages
ok_recent : (profile : Profile) (tag rest : List ℕ) → IsTag tag → has_ok true tag rest ≡ true → has_ok true tag (recent_line profile ++ rest) ≡ true
ok_recent Standard tag rest t h = h
ok_recent Compatible tag rest t h = behind_line true tag (codes "* " ++ response_text texts.NoneRecent) rest h

entered_ok : (tag : List ℕ) (read_only : Bool) → IsTag tag → has_ok true tag (tagged tag (response_text (entered_text read_only))) ≡ true
entered_ok tag true t = tagged_has tag (response_text texts.ExamineCompleted) t
entered_ok tag false t = tagged_has tag (response_text texts.SelectCompleted) t

opened_ok : (tag : List ℕ) (now : Standing) (profile : Profile) (read_only : Bool) (name : List ℕ) (o : Opening) (answers : List Answer) (turn : Turn) → IsTag tag
    → played tag now (opened profile read_only name o) answers ≡ Some turn → has_ok true tag turn.bytes ≡ true
opened_ok tag now profile read_only name o answers turn t e =
    let words : List ℕ = response_text (entered_text read_only) in
    let m = mapped (saying (opening_text read_only name o)) (played tag now (telling_recent profile (says words)) answers) turn e in
    let bytes : turn.bytes ≡ opening_text read_only name o ++ (recent_line profile ++ tagged tag words) =
    ap (λ (s : Turn). s.bytes) (sym m.makes) ∙ ap (λ (b : List ℕ). opening_text read_only name o ++ b) (recent_done profile tag words now answers m.more m.is).bytes in
    ap (has_ok true tag) bytes ∙ ok_behind tag (recent_line profile ++ tagged tag words) read_only name o (ok_recent profile tag (tagged tag words) t (entered_ok tag read_only t))

-- ---- no OK, and no mailbox

enters_none : (tag : List ℕ) (now : Standing) (profile : Profile) (read_only : Bool) (folder : Folder) (answers : List Answer) (turn : Turn) → IsTag tag → now.selected ≡ None
    → played tag now (entering profile read_only folder) answers ≡ Some turn → has_ok true tag turn.bytes ≡ false → turn.standing.selected ≡ None
enters_none tag now profile read_only folder [] turn t none e unsaid = absurd (none-some turn e)
enters_none tag now profile read_only folder (Entered o ∷ more) turn t none e unsaid =
    let next : Standing = record now { selected = Some (record { mailbox = folder.mailbox; read_only = read_only }) } in
    let m = mapped (having (Enter folder.mailbox) (Entered o)) (played tag next (opened profile read_only folder.name o) more) turn e in
    absurd (false≢true (sym unsaid ∙ ap (λ (s : Turn). has_ok true tag s.bytes) (sym m.makes) ∙ opened_ok tag next profile read_only folder.name o more m.more t m.is))
enters_none tag now profile read_only folder (Refused fault ∷ []) turn t none e unsaid =
    let m = mapped (having (Enter folder.mailbox) (Refused fault)) (Some (refused tag now fault)) turn e in
    ap (λ (s : Turn). s.standing.selected) (sym m.makes) ∙ given_up tag now fault m.more m.is ∙ none
enters_none tag now profile read_only folder (_ ∷ more) turn t none e unsaid = absurd (none-some turn e)

named_none : (tag : List ℕ) (now : Standing) (profile : Profile) (read_only : Bool) (name : List ℕ) (folders : List Folder) (answers : List Answer) (turn : Turn) → IsTag tag → now.selected ≡ None
    → played tag now (on_folder name folders (entering profile read_only)) answers ≡ Some turn → has_ok true tag turn.bytes ≡ false → turn.standing.selected ≡ None
named_none tag now profile read_only name folders answers turn t none e unsaid = by (folder_of name folders) e
  where
    by : (found : Option Folder) → played tag now (on_found (entering profile read_only) (says (response_text texts.NoSuchMailbox)) found) answers ≡ Some turn → turn.standing.selected ≡ None
    by None d = selected_stays tag now (says (response_text texts.NoSuchMailbox)) answers turn tt d ∙ none
    by (Some folder) d = enters_none tag now profile read_only folder answers turn t none d unsaid

wanted_none : (tag : List ℕ) (now : Standing) (profile : Profile) (read_only : Bool) (name : List ℕ) (folders : List Folder) (answers : List Answer) (turn : Turn) → IsTag tag → now.selected ≡ None
    → played tag now (wanting (on_folder name folders (entering profile read_only))) answers ≡ Some turn → has_ok true tag turn.bytes ≡ false → turn.standing.selected ≡ None
wanted_none tag now profile read_only name folders answers turn t none e unsaid = by (writes tag now [] (on_folder name folders (entering profile read_only)) answers turn e)
  where
    by : Wrote tag now [] (on_folder name folders (entering profile read_only)) turn → turn.standing.selected ≡ None
    by (wanted only stays) = stays ∙ none
    by (wrote rest p) =
        ap (λ (s : Turn). s.standing.selected) (sym p.makes)
        ∙ named_none tag now profile read_only name folders rest p.more t none p.is (ap (λ (s : Turn). has_ok true tag s.bytes) p.makes ∙ unsaid)

-- the store refused to let the session leave the mailbox, and nothing else was asked of it
record Kept (now : Standing) (turn : Turn) : Type 0 where
  fault : MailFault
  events : turn.events ≡ record { call = Leave false; answer = Refused fault } ∷ []
  standing : turn.standing ≡ (closed now (refusal_after fault)).standing

closing_none : (tag : List ℕ) (now : Standing) (profile : Profile) (read_only : Bool) (name : List ℕ) (folders : List Folder) (selected : Option Selected) (answers : List Answer) (turn : Turn) → IsTag tag → now.selected ≡ selected
    → played tag now (closing selected (wanting (on_folder name folders (entering profile read_only)))) answers ≡ Some turn → has_ok true tag turn.bytes ≡ false → (turn.standing.selected ≡ None) ⊎ Kept now turn
closing_none tag now profile read_only name folders None answers turn t is e unsaid = inl (wanted_none tag now profile read_only name folders answers turn t is e unsaid)
closing_none tag now profile read_only name folders (Some selected) [] turn t is e unsaid = absurd (none-some turn e)
closing_none tag now profile read_only name folders (Some selected) (Left gone ∷ more) turn t is e unsaid =
    let next : Standing = record now { selected = None } in
    let tail : Exchange = wanting (on_folder name folders (entering profile read_only)) in
    let m = mapped (having (Leave false) (Left gone)) (played tag next (Put closed_line tail) more) turn e in
    let p = mapped (saying closed_line) (played tag next tail more) m.more m.is in
    let behind : has_ok true tag p.more.bytes ≡ false =
    sym (at_star tag _ t) ∙ ap (λ (s : Turn). has_ok true tag s.bytes) p.makes ∙ ap (λ (s : Turn). has_ok true tag s.bytes) m.makes ∙ unsaid in
    inl (ap (λ (s : Turn). s.standing.selected) (sym m.makes) ∙ ap (λ (s : Turn). s.standing.selected) (sym p.makes) ∙ wanted_none tag next profile read_only name folders more p.more t refl p.is behind)
closing_none tag now profile read_only name folders (Some selected) (Refused fault ∷ []) turn t is e unsaid =
    let m = mapped (having (Leave false) (Refused fault)) (Some (refused tag now fault)) turn e in
    inr (record {
      fault = fault;
      events = ap (λ (s : Turn). s.events) (sym m.makes) ∙ ap (λ (es : List Event). record { call = Leave false; answer = Refused fault } ∷ es) (only_refused tag now fault m.more m.is).events;
      standing = ap (λ (s : Turn). s.standing) (sym m.makes) ∙ ap (λ (s : Turn). s.standing) (sym (ap (the_turn m.more) m.is));
    })
closing_none tag now profile read_only name folders (Some selected) (_ ∷ more) turn t is e unsaid = absurd (none-some turn e)

-- ---- lines

abbrev tag_of : Asked → List ℕ
tag_of (Entering tag) = tag
tag_of (Leaving tag) = tag
tag_of Neither = []

command_none : (now : Standing) (tag asks : List ℕ) (command : Command) (answers : List Answer) (turn : Turn) → IsTag tag → asked_by tag command ≡ Entering asks → played tag now (on_command tag now command) answers ≡ Some turn
    → has_ok true asks turn.bytes ≡ false → (turn.standing.selected ≡ None) ⊎ Kept now turn
command_none now tag asks (commands.Select name) answers turn t a e unsaid =
    closing_none tag now now.profile false name now.folders now.selected answers turn t refl e (ap (λ (g : List ℕ). has_ok true g turn.bytes) (ap tag_of a) ∙ unsaid)
command_none now tag asks (commands.Examine name) answers turn t a e unsaid =
    closing_none tag now now.profile true name now.folders now.selected answers turn t refl e (ap (λ (g : List ℕ). has_ok true g turn.bytes) (ap tag_of a) ∙ unsaid)
command_none now tag asks commands.Close answers turn t a e unsaid = absurd cc
command_none now tag asks commands.Unselect answers turn t a e unsaid = absurd cc
command_none now tag asks _ answers turn t a e unsaid = absurd cc

-- who asks for a mailbox is refused only where it is still to log in
abbrev early_text : Option (List ℕ) → Option ResponseText
early_text None = None
early_text (Some user) = Some texts.WrongState

entering_barred : (login : Option (List ℕ)) (profile : Profile) (tag asks : List ℕ) (command : Command) → asked_by tag command ≡ Entering asks → barred_at login profile command ≡ early_text login
entering_barred None Standard tag asks (commands.Select name) a = refl
entering_barred None Standard tag asks (commands.Examine name) a = refl
entering_barred None Standard tag asks commands.Close a = absurd cc
entering_barred None Standard tag asks commands.Unselect a = absurd cc
entering_barred None Standard tag asks _ a = absurd cc
entering_barred None Compatible tag asks command a = refl
entering_barred (Some user) profile tag asks (commands.Select name) a = refl
entering_barred (Some user) profile tag asks (commands.Examine name) a = refl
entering_barred (Some user) profile tag asks commands.Close a = absurd cc
entering_barred (Some user) profile tag asks commands.Unselect a = absurd cc
entering_barred (Some user) profile tag asks _ a = absurd cc

barred_none : (now : Standing) (tag asks : List ℕ) (command : Command) (answers : List Answer) (turn : Turn) → IsTag tag → HasLoggedIn now → asked_by tag command ≡ Entering asks
    → on_line (logs_in_as now.login command) now tag command answers ≡ Some turn → has_ok true asks turn.bytes ≡ false → (turn.standing.selected ≡ None) ⊎ Kept now turn
barred_none now tag asks command answers turn t h a e unsaid = by (logs_in_as now.login command) refl e
  where
    either : (login : Option (List ℕ)) → IfSome login (λ user. now.selected ≡ None) → played tag now (on_found (λ text. says (response_text text)) (on_command tag now command) (early_text login)) answers ≡ Some turn
        → (turn.standing.selected ≡ None) ⊎ Kept now turn
    either None h d = command_none now tag asks command answers turn t a d unsaid
    either (Some user) h d = inl (selected_stays tag now (says (response_text texts.WrongState)) answers turn tt d ∙ h)

    by : (b : Bool) → logs_in_as now.login command ≡ b → on_line b now tag command answers ≡ Some turn → (turn.standing.selected ≡ None) ⊎ Kept now turn
    by true logs d = let other : Neither ≡ Entering asks = sym (login_asks now.login tag command logs) ∙ a in absurd cc
    by false logs d =
        either now.login h
        (subst (λ (o : Option ResponseText). played tag now (on_found (λ text. says (response_text text)) (on_command tag now command) o) answers ≡ Some turn) (entering_barred now.login now.profile tag asks command a) d)

read_none : (now : Standing) (r : Result (List ℕ × Command) ImapFault) (asks : List ℕ) (answers : List Answer) (turn : Turn) → Tagged r → HasLoggedIn now → asked r ≡ Entering asks → on_read now r answers ≡ Some turn
    → has_ok true asks turn.bytes ≡ false → (turn.standing.selected ≡ None) ⊎ Kept now turn
read_none now (Ok line) asks answers turn t h a e unsaid = barred_none now line.0 asks line.1 answers turn t h a e unsaid
read_none now (Err fault) asks answers turn t h a e unsaid = absurd cc

text_none : (now : Standing) (line asks : List ℕ) (answers : List Answer) (turn : Turn) → HasLoggedIn now → asked (read line) ≡ Entering asks → on_text_line now line answers ≡ Some turn
    → has_ok true asks turn.bytes ≡ false → (turn.standing.selected ≡ None) ⊎ Kept now turn
text_none now line asks answers turn h a e unsaid =
    text_has IsTag (λ o. o ≡ Some turn → (turn.standing.selected ≡ None) ⊎ Kept now turn) now line answers (read_tagged line)
    (λ tag x t part lacks d. let other : Neither ≡ Entering asks = sym (unfinished_asks now.login (read line) lacks) ∙ a in absurd cc)
    (λ d. read_none now (read line) asks answers turn (read_tagged line) h a d unsaid) e

-- ---- in a world: there who has selected a mailbox may leave it

kept_ends : (k : Config) (events : List world.Event) (w : World) (n : ℕ) (now : Standing) (turn : Turn) (v : World) → IsWorld k events w → Kept now turn → Met (Calls k n) w turn.events v → turn.standing.ended ≡ true
kept_ends k events w n now turn v is kept met = by kept.fault kept.standing (subst (λ (es : List Event). Met (Calls k n) w es v) kept.events met)
  where
    by : (fault : MailFault) → turn.standing ≡ (closed now (refusal_after fault)).standing → Met (Calls k n) w (record { call = Leave false; answer = Refused fault } ∷ []) v → turn.standing.ended ≡ true
    by Stranger e m = ap (λ (s : Standing). s.ended) e
    by Lapped e m = absurd m.1.1.1.2
    by Spent e m =
        let s = m.1.1.1.0 in
        let full : most_changes < length (w.box s.mailbox).log + 0 = m.1.1.1.2 in
        absurd (omega (arith, full, ((kept_always k events w is).boxes s.mailbox).room))
    by NoMemory e m = absurd m.1.1.1.2

pub refused_selects_none : RefusedSelectsNone
refused_selects_none k events w n now line whole tag answers turn v is h came asks e met unsaid = by (text_none (without_begun now) whole tag answers turn h asks (sym (whole_turn now line whole answers came) ∙ e) unsaid)
  where
    by : (turn.standing.selected ≡ None) ⊎ Kept (without_begun now) turn → (turn.standing.selected ≡ None) ⊎ (turn.standing.ended ≡ true)
    by (inl none) = inl none
    by (inr kept) = inr (kept_ends k events w n (without_begun now) turn v is kept met)
