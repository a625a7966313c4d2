-- How an exchange ends: the last words are written, and the whole answers a line.
use Rattle.std.proofs.Common.{◌≡◌, ℕ, Bool, false, List, [], ◌∷◌, ◌++◌, Option, Some, None, Result, Ok, Err, refl, ap, sym, ◌∙◌, subst, append_assoc, append-nil}
use Rattle.mailbox.specs.declared.clients.MailFault.{MailFault}
use Rattle.imap_grammar.specs.declared.command.Command.{Command}
use Rattle.imap_grammar.specs.declared.command.Command.TheVariants as commands
use Rattle.std.specs.Option.{option_map}
use Rattle.imap_session.specs.declared.standing.After.{After}
use Rattle.imap_session.specs.declared.standing.After.TheVariants.{Go, Bye}
use Rattle.imap_session.specs.declared.standing.Profile.{Profile}
use Rattle.imap_session.specs.declared.standing.Selected.{Selected}
use Rattle.imap_session.specs.Exchange as ex
use Rattle.imap_session.specs.Exchange.{Call, Answer, Exchange, Folder, Mailing, Standing, Event, played, saying, closed, tagged, refusal_text, refusal_after, Counted, having}
use Rattle.imap_session.specs.Commands.{notice, noticing, on_command, on_found, wrong_state}
use Rattle.imap_session.specs.Store.{Met}
use Rattle.imap_session.specs.Response.{Response}
use Rattle.imap_session.specs.inner.Store.{Reaches, Stops, Does, Moves, Plays, after_command, behind_first_line, ending, first_line, notice_line, last_words, after_result, onward}
use Rattle.imap_session.proofs.Runs.{Met-append, reaches_here}
use Rattle.imap_session.specs.declared.texts.ResponseText.TheVariants as texts
use Rattle.imap_session.specs.Texts.{response_text}
use Rattle.imap_grammar.specs.declared.command.Verb.TheVariants as verbs
use Rattle.imap_session.specs.declared.texts.ResponseText.{ResponseText}
use Rattle.mailbox.specs.declared.mailbox.Status.{Status}

-- what is done where the selected mailbox stays
pub moves_still : {S V : Type 0} (step : S → Call → Answer → S → Type 0) (sel : Option Selected) (x : Exchange) (y : V → Exchange) (old new : S) (before after : Response) (r : Result V MailFault)
    → Does step x y old new before after r → Moves step sel sel x y old new before after r
moves_still step sel x y old new before after (Ok v) d = λ tag now was.
    let P : Option Selected → Type 0 = λ s. Reaches step tag now (record now { selected = s }) x (y v) old new before after in
    subst P was (d tag now)
moves_still step sel x y old new before after (Err fault) d = λ tag now was.
    let P : Option Selected → Type 0 = λ s. Stops step tag now (record now { selected = s }) x fault old new before after in
    subst P was (d tag now)

-- where none is selected
pub moves_refused : {S : Type 0} (step : S → Call → Answer → S → Type 0) (sel : Option Selected) (f : Selected → Exchange) (s : S) (text : Response)
    → sel ≡ None
    → (tag : List ℕ) (now : Standing) → now.selected ≡ sel → Reaches step tag now (record now { selected = sel }) (on_found f wrong_state sel) wrong_state s s text text
moves_refused step sel f s text n tag now was =
    let P : Option Selected → Type 0 = λ z. Reaches step tag now (record now { selected = z }) (on_found f wrong_state sel) wrong_state s s text text in
    subst P was (rw n (reaches_here step tag now wrong_state s text))

-- ---- the last words

ends : {S : Type 0} (step : S → Call → Answer → S → Type 0) (tag : List ℕ) (now next : Standing) (x : Exchange) (old new : S) (before mid final : List ℕ) (events : List Event) (bytes words : List ℕ) (how : After)
    → (whole : List Answer) → played tag now x whole ≡ Some (onward events bytes (saying words (closed next how)))
    → Met step old events new → mid ≡ before ++ bytes → final ≡ mid ++ words
    → Plays step tag now next x old new before final how
ends step tag now next x old new before mid final events bytes words Go whole p m w e = record {
  answers = whole;
  events = events ++ [];
  bytes = bytes ++ (words ++ []);
  leads = p;
  met = Met-append step old new new events [] m refl;
  wrote = e ∙ (ap (λ t. t ++ words) w ∙ (append_assoc before bytes words ∙ ap (λ t. before ++ (bytes ++ t)) (sym (append-nil words))));
}
ends step tag now next x old new before mid final events bytes words how whole p m w e = record {
  answers = whole;
  events = events ++ [];
  bytes = bytes ++ (words ++ []);
  leads = p;
  met = Met-append step old new new events [] m refl;
  wrote = e ∙ (ap (λ t. t ++ words) w ∙ (append_assoc before bytes words ∙ ap (λ t. before ++ (bytes ++ t)) (sym (append-nil words))));
}

-- an exchange that was done but for its last line, and then that line, or what is said of the fault that stopped it
pub plays_moved : {S : Type 0} (step : S → Call → Answer → S → Type 0) (now : Standing) (to : Option Selected) (after : After) (x : Exchange) (old new : S) (before mid : Response) (final : List ℕ) (r : Result ResponseText MailFault)
    → Moves step now.selected to x (ending after) old new before mid r → final ≡ mid.text ++ last_words mid.tag r
    → Plays step before.tag now (record now { selected = to }) x old new before.text final (after_result after r)
plays_moved step now to after x old new before mid final (Ok text) m e =
    let words : List ℕ = response_text text in
    let p = m before.tag now refl in
    let next : Standing = record now { selected = to } in
    let led = p.leads [] (saying (tagged before.tag words) (closed next after)) refl in
    ends step before.tag now next x old new before.text mid.text final p.events p.bytes (tagged before.tag words) after led.0 led.1 p.met p.wrote.2
    (e ∙ ap (λ (t : List ℕ). mid.text ++ tagged t words) p.wrote.0)
plays_moved step now to after x old new before mid final (Err fault) m e =
    let p = m before.tag now refl in
    let next : Standing = record now { selected = to } in
    ends step before.tag now next x old new before.text mid.text final p.events p.bytes (refusal_text before.tag fault) (refusal_after fault) p.leads.0 p.leads.1 p.met p.wrote.2
    (e ∙ ap (λ (t : List ℕ). mid.text ++ refusal_text t fault) p.wrote.0)

standing_of : List Folder → Profile → Option (List ℕ) → Option Selected → Option (List ℕ) → Bool → Mailing → Standing
standing_of folders profile login selected idling ended mailing =
    record { folders = folders; profile = profile; login = login; selected = selected; idling = idling; ended = ended; mailing = mailing }

-- a command that was carried out behind its first line, and its last line
pub plays_command : {S : Type 0} (step : S → Call → Answer → S → Type 0) (now : Standing) (folders : List Folder) (profile : Profile) (login : Option (List ℕ)) (from to : Option Selected) (idling : Option (List ℕ)) (ended : Bool) (mailing : Mailing) (command : Command) (old new : S) (before mid : Response) (final : List ℕ) (r : Result ResponseText MailFault) (after how : After)
    → (let s : Standing = record { folders = folders; profile = profile; login = login; selected = from; idling = idling; ended = ended; mailing = mailing } in s) ≡ now → now.ended ≡ false → now.idling ≡ None
    → Moves step from to (behind_first_line before.tag (record { folders = folders; profile = profile; login = login; selected = from; idling = None; ended = false; mailing = mailing }) command) (ending (after_command command)) old new before mid r
    → after ≡ after_command command → final ≡ mid.text ++ last_words mid.tag r → how ≡ after_result after r
    → Plays step before.tag now (record now { selected = to }) (behind_first_line before.tag now command) old new before.text final how
unfolding standing_of
plays_command step now folders profile login from to idling ended mailing command old new before mid final r after how e going awake m a f h =
    let P : Standing → Type 0 = λ s. Plays step before.tag s (record s { selected = to }) (behind_first_line before.tag s command) old new before.text final how in
    let open_now : false ≡ ended = sym (ap (λ (s : Standing). s.ended) e ∙ going) in
    let awake_now : None ≡ idling = sym (ap (λ (s : Standing). s.idling) e ∙ awake) in
    let same : standing_of folders profile login from None false mailing ≡ now = ap (λ b. standing_of folders profile login from None b mailing) open_now ∙ ap (λ i. standing_of folders profile login from i ended mailing) awake_now ∙ e in
    subst P same (rw (h, a) (plays_moved step (standing_of folders profile login from None false mailing) to (after_command command) (behind_first_line before.tag (standing_of folders profile login from None false mailing) command) old new before mid final r m f))

-- the same with the first line
plays_put : {S : Type 0} (step : S → Call → Answer → S → Type 0) (tag line : List ℕ) (now next : Standing) (x : Exchange) (old new : S) (before mid final : List ℕ) (how : After)
    → mid ≡ before ++ line → Plays step tag now next x old new mid final how → Plays step tag now next (ex.Put line x) old new before final how
plays_put step tag line now next x old new before mid final how e p = record {
  answers = p.answers;
  events = p.events;
  bytes = line ++ p.bytes;
  leads = ap (option_map (saying line)) p.leads;
  met = p.met;
  wrote = p.wrote ∙ (ap (λ t. t ++ p.bytes) e ∙ append_assoc before line p.bytes);
}

-- a notice, and then what is behind it
plays_noticed : {S : Type 0} (step : S → Call → Answer → S → Type 0) (tag : List ℕ) (now next : Standing) (words : Option (List ℕ)) (x : Exchange) (old new : S) (before mid final : List ℕ) (how : After)
    → mid ≡ before ++ notice_line words → Plays step tag now next x old new mid final how → Plays step tag now next (noticing words x) old new before final how
plays_noticed step tag now next None x old new before mid final how e p =
    subst (λ (t : List ℕ). Plays step tag now next x old new t final how) (e ∙ append-nil before) p
plays_noticed step tag now next (Some words) x old new before mid final how e p =
    plays_put step tag (notice_line (Some words)) now next x old new before mid final how e p

-- each command but LOGOUT is its notice, and then what is behind it
abbrev SaidFirst : (tag : List ℕ) → Standing → Command → Type 0
SaidFirst tag now commands.Logout = Unit {0}
SaidFirst tag now command = on_command tag now command ≡ noticing (notice now.profile command) (behind_first_line tag now command)

said_first : (tag : List ℕ) (now : Standing) (command : Command) → SaidFirst tag now command
said_first tag now commands.Logout = tt
said_first tag now _ = refl

pub plays_first_line : {S : Type 0} (step : S → Call → Answer → S → Type 0) (tag : List ℕ) (now next : Standing) (command : Command) (old new : S) (before mid final : List ℕ) (how : After)
    → mid ≡ before ++ first_line now.profile command → Plays step tag now next (behind_first_line tag now command) old new mid final how
    → Plays step tag now next (on_command tag now command) old new before final how
plays_first_line step tag now next commands.Logout old new before mid final how e p =
    plays_put step tag (first_line now.profile commands.Logout) now next (ex.Done (response_text (texts.Completed verbs.Logout)) Bye) old new before mid final how e p
plays_first_line step tag now next command old new before mid final how e p =
    subst (λ (x : Exchange). Plays step tag now next x old new before final how) (sym (said_first tag now command))
    (plays_noticed step tag now next (notice now.profile command) (behind_first_line tag now command) old new before mid final how e p)

-- ---- last words that stand nowhere before

-- an exchange was done but for its last line, and then that line
pub plays_said : {S : Type 0} (step : S → Call → Answer → S → Type 0) (words : List ℕ) (now : Standing) (x : Exchange) (old new : S) (before mid : Response) (final : List ℕ)
    → Reaches step before.tag now now x (ex.Done words Go) old new before mid → final ≡ mid.text ++ tagged mid.tag words → Plays step before.tag now now x old new before.text final Go
plays_said step words now x old new before mid final p e =
    let led = p.leads [] (saying (tagged before.tag words) (closed now Go)) refl in
    ends step before.tag now now x old new before.text mid.text final p.events p.bytes (tagged before.tag words) Go led.0 led.1 p.met p.wrote.2
    (e ∙ ap (λ (t : List ℕ). mid.text ++ tagged t words) p.wrote.0)

-- a mailbox was counted, and then the rest was played
pub plays_counted : {S : Type 0} (step : S → Call → Answer → S → Type 0) (tag : List ℕ) (now next : Standing) (mailbox : ℕ) (f : Status → Exchange) (status : Status) (old mid new : S) (before after : List ℕ) (how : After)
    → step old (ex.Count mailbox) (Counted status) mid → Plays step tag now next (f status) mid new before after how → Plays step tag now next (ex.Count mailbox f) old new before after how
plays_counted step tag now next mailbox f status old mid new before after how h p = record {
  answers = Counted status ∷ p.answers;
  events = record { call = ex.Count mailbox; answer = Counted status } ∷ p.events;
  bytes = p.bytes;
  leads = ap (option_map (having (ex.Count mailbox) (Counted status))) p.leads;
  met = (mid, h, p.met);
  wrote = p.wrote;
}

-- a fault stopped it, and that was said
pub plays_stopped : {S : Type 0} (step : S → Call → Answer → S → Type 0) (now : Standing) (x : Exchange) (fault : MailFault) (old new : S) (before mid : Response) (final : List ℕ) (how : After)
    → Stops step before.tag now now x fault old new before mid → final ≡ mid.text ++ refusal_text mid.tag fault → how ≡ refusal_after fault → Plays step before.tag now now x old new before.text final how
plays_stopped step now x fault old new before mid final how p e h =
    rw h (ends step before.tag now now x old new before.text mid.text final p.events p.bytes (refusal_text before.tag fault) (refusal_after fault) p.leads.0 p.leads.1 p.met p.wrote.2
    (e ∙ ap (λ (t : List ℕ). mid.text ++ refusal_text t fault) p.wrote.0))
