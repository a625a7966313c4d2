-- How parts of an exchange join.
use Rattle.std.proofs.Common.{◌≡◌, ℕ, zero, suc, Bool, List, [], ◌∷◌, ◌++◌, Option, Some, None, refl, ap, sym, ◌∙◌, subst, append_assoc, append-nil}
use Rattle.std.specs.Option.{option_map}
use Rattle.change_ring.specs.declared.change.Change.{Change}
use Rattle.mailbox.specs.declared.clients.MailFault.{MailFault}
use Rattle.mailbox.specs.declared.clients.MailFault.TheVariants.{NoMemory}
use Rattle.mailbox.specs.declared.clients.Row.{Row}
use Rattle.mailbox.specs.declared.mailbox.Status.{Status}
use Rattle.change_ring.specs.declared.change.Flags.{Flags}
use Rattle.change_ring.specs.declared.flag_op.FlagOp.{FlagOp}
use Rattle.cursor_set.specs.Lines.{lines}
use Rattle.mailbox.specs.declared.clients.Opening.{Opening}
use Rattle.imap_session.specs.declared.standing.Selected.{Selected}
use Rattle.imap_grammar.specs.declared.set.SeqRange.{SeqRange}
use Rattle.imap_session.specs.Exchange as ex
use Rattle.imap_session.specs.Exchange.{Call, Answer, Entered, Looked, Found, Counted, Altered, Expunged, Fed, Left, Discarded, Refused, Starved, Event, Exchange, Standing, refused, saying, having}
use Rattle.imap_session.specs.Store.{Met}
use Rattle.imap_session.specs.Response.{Response}
use Rattle.imap_session.specs.inner.Response.{Adds, adding}
use Rattle.imap_session.specs.inner.Store.{LeadsOn, onward, Reaches, Stops}

-- ---- what was written

pub nothing_added : (r : Response) → Adds [] r r
nothing_added r = (refl, refl, sym (append-nil r.text))

pub added : (bytes : List ℕ) (before after : Response) → after ≡ adding bytes before → Adds bytes before after
added bytes before after e = (ap (λ (r : Response). r.tag) e, ap (λ (r : Response). r.lot) e, ap (λ (r : Response). r.text) e)

pub same_still : (before after : Response) → after ≡ before → Adds [] before after
same_still before after e = (ap (λ (r : Response). r.tag) e, ap (λ (r : Response). r.lot) e, ap (λ (r : Response). r.text) e ∙ sym (append-nil before.text))

-- nothing was written, and more room is held
pub held_more : (before after : Response) (held : ℕ) → after ≡ record before { held = held } → Adds [] before after
held_more before after held e = (ap (λ (r : Response). r.tag) e, ap (λ (r : Response). r.lot) e, ap (λ (r : Response). r.text) e ∙ sym (append-nil before.text))

pub added_twice : (a b : List ℕ) (first second third : Response) → Adds a first second → Adds b second third → Adds (a ++ b) first third
added_twice a b first second third p q = (q.0 ∙ p.0, q.1 ∙ p.1, q.2 ∙ (ap (λ (t : List ℕ). t ++ b) p.2 ∙ append_assoc first.text a b))

-- ---- runs of the store

pub Met-append : {S : Type 0} (step : S → Call → Answer → S → Type 0) (old mid new : S) (a b : List Event)
    → Met step old a mid → Met step mid b new → Met step old (a ++ b) new
Met-append step old mid new [] b p q = subst (λ s. Met step s b new) p q
Met-append step old mid new (e ∷ a) b p q = (p.0, p.1, Met-append step p.0 mid new a b p.2 q)

-- ---- nothing, and one after the other

pub reaches_here : {S : Type 0} (step : S → Call → Answer → S → Type 0) (tag : List ℕ) (now : Standing) (x : Exchange) (s : S) (text : Response)
    → Reaches step tag now now x x s s text text
reaches_here step tag now x s text = record {
  events = [];
  bytes = [];
  leads = λ more turn h. (more, h);
  met = refl;
  wrote = nothing_added text;
}

-- the same where nothing was written and room may have been used
pub reaches_unsaid : {S : Type 0} (step : S → Call → Answer → S → Type 0) (tag : List ℕ) (now : Standing) (x : Exchange) (s : S) (before after : Response)
    → Adds [] before after → Reaches step tag now now x x s s before after
reaches_unsaid step tag now x s before after h = record {
  events = [];
  bytes = [];
  leads = λ more turn h. (more, h);
  met = refl;
  wrote = h;
}

pub leads_then : (tag : List ℕ) (a b c : Standing) (x y z : Exchange) (e f : List Event) (m n : List ℕ)
    → LeadsOn tag a b x y e m → LeadsOn tag b c y z f n → LeadsOn tag a c x z (e ++ f) (m ++ n)
leads_then tag a b c x y z e f m n p q more turn h =
    let second = q more turn h in
    let first = p second.0 (onward f n turn) second.1 in
    (first.0, simp append_assoc first.1)

pub reaches_then : {S : Type 0} (step : S → Call → Answer → S → Type 0) (tag : List ℕ) (a b c : Standing) (x y z : Exchange) (old mid new : S) (first second third : Response)
    → Reaches step tag a b x y old mid first second → Reaches step tag b c y z mid new second third
    → Reaches step tag a c x z old new first third
reaches_then step tag a b c x y z old mid new first second third p q = record {
  events = p.events ++ q.events;
  bytes = p.bytes ++ q.bytes;
  leads = leads_then tag a b c x y z p.events q.events p.bytes q.bytes p.leads q.leads;
  met = Met-append step old mid new p.events q.events p.met q.met;
  wrote = added_twice p.bytes q.bytes first second third p.wrote q.wrote;
}

pub stops_then : {S : Type 0} (step : S → Call → Answer → S → Type 0) (tag : List ℕ) (a b c : Standing) (x y : Exchange) (fault : MailFault) (old mid new : S) (first second third : Response)
    → Reaches step tag a b x y old mid first second → Stops step tag b c y fault mid new second third
    → Stops step tag a c x fault old new first third
stops_then step tag a b c x y fault old mid new first second third p q =
    let led = p.leads q.leads.0 (onward q.events q.bytes (refused tag c fault)) q.leads.1 in
    record {
      events = p.events ++ q.events;
      bytes = p.bytes ++ q.bytes;
      leads = (led.0, simp append_assoc led.1);
      met = Met-append step old mid new p.events q.events p.met q.met;
      wrote = added_twice p.bytes q.bytes first second third p.wrote q.wrote;
    }

-- ---- writes

pub leads_write : (tag : List ℕ) (now : Standing) (bytes : List ℕ) (x : Exchange) → LeadsOn tag now now (ex.Write bytes x) x [] bytes
leads_write tag now bytes x [] turn h = ([], ap (option_map (saying bytes)) h)
leads_write tag now bytes x (Starved n ∷ []) turn h = (Starved (suc n) ∷ [], ap (option_map (saying bytes)) h)
leads_write tag now bytes x (Starved zero ∷ b ∷ more) turn h = (Starved zero ∷ b ∷ more, ap (option_map (saying bytes)) h)
leads_write tag now bytes x (Starved (suc n) ∷ b ∷ more) turn h = (Starved (suc n) ∷ b ∷ more, ap (option_map (saying bytes)) h)
leads_write tag now bytes x (Entered o ∷ more) turn h = (Entered o ∷ more, ap (option_map (saying bytes)) h)
leads_write tag now bytes x (Looked v ∷ more) turn h = (Looked v ∷ more, ap (option_map (saying bytes)) h)
leads_write tag now bytes x (Found r ∷ more) turn h = (Found r ∷ more, ap (option_map (saying bytes)) h)
leads_write tag now bytes x (Counted s ∷ more) turn h = (Counted s ∷ more, ap (option_map (saying bytes)) h)
leads_write tag now bytes x (Altered f ∷ more) turn h = (Altered f ∷ more, ap (option_map (saying bytes)) h)
leads_write tag now bytes x (Expunged v c n ∷ more) turn h = (Expunged v c n ∷ more, ap (option_map (saying bytes)) h)
leads_write tag now bytes x (Fed v c ∷ more) turn h = (Fed v c ∷ more, ap (option_map (saying bytes)) h)
leads_write tag now bytes x (Left n ∷ more) turn h = (Left n ∷ more, ap (option_map (saying bytes)) h)
leads_write tag now bytes x (Discarded ∷ more) turn h = (Discarded ∷ more, ap (option_map (saying bytes)) h)
leads_write tag now bytes x (Refused f ∷ more) turn h = (Refused f ∷ more, ap (option_map (saying bytes)) h)

pub reaches_write : {S : Type 0} (step : S → Call → Answer → S → Type 0) (tag : List ℕ) (now : Standing) (bytes : List ℕ) (x : Exchange) (s : S) (before after : Response)
    → Adds bytes before after → Reaches step tag now now (ex.Write bytes x) x s s before after
reaches_write step tag now bytes x s before after h = record {
  events = [];
  bytes = bytes;
  leads = leads_write tag now bytes x;
  met = refl;
  wrote = h;
}

pub stops_write : {S : Type 0} (step : S → Call → Answer → S → Type 0) (tag : List ℕ) (now : Standing) (bytes : List ℕ) (x : Exchange) (s : S) (text : Response)
    → Stops step tag now now (ex.Write bytes x) NoMemory s s text text
stops_write step tag now bytes x s text = record {
  events = [];
  bytes = [];
  leads = (Starved zero ∷ [], refl);
  met = refl;
  wrote = nothing_added text;
}

-- in room that was held
leads_put : (tag : List ℕ) (now : Standing) (bytes : List ℕ) (x : Exchange) → LeadsOn tag now now (ex.Put bytes x) x [] bytes
leads_put tag now bytes x more turn h = (more, ap (option_map (saying bytes)) h)

pub reaches_put : {S : Type 0} (step : S → Call → Answer → S → Type 0) (tag : List ℕ) (now : Standing) (bytes : List ℕ) (x : Exchange) (s : S) (before after : Response)
    → Adds bytes before after → Reaches step tag now now (ex.Put bytes x) x s s before after
reaches_put step tag now bytes x s before after h = record {
  events = [];
  bytes = bytes;
  leads = leads_put tag now bytes x;
  met = refl;
  wrote = h;
}

-- ---- reads

pub reaches_read : {S : Type 0} (step : S → Call → Answer → S → Type 0) (tag : List ℕ) (now : Standing) (uid : ℕ) (mark : Bool) (next : Option Row → Exchange) (row : Option Row) (old new : S) (text : Response)
    → step old (ex.Read uid mark) (Found row) new → Reaches step tag now now (ex.Read uid mark next) (next row) old new text text
reaches_read step tag now uid mark next row old new text h = record {
  events = record { call = ex.Read uid mark; answer = Found row } ∷ [];
  bytes = [];
  leads = λ more turn e. (Found row ∷ more, ap (option_map (having (ex.Read uid mark) (Found row))) e);
  met = (new, h, refl);
  wrote = nothing_added text;
}

pub stops_read : {S : Type 0} (step : S → Call → Answer → S → Type 0) (tag : List ℕ) (now : Standing) (uid : ℕ) (mark : Bool) (next : Option Row → Exchange) (fault : MailFault) (old new : S) (text : Response)
    → step old (ex.Read uid mark) (Refused fault) new → Stops step tag now now (ex.Read uid mark next) fault old new text text
stops_read step tag now uid mark next fault old new text h = record {
  events = record { call = ex.Read uid mark; answer = Refused fault } ∷ [];
  bytes = [];
  leads = (Refused fault ∷ [], refl);
  met = (new, h, refl);
  wrote = nothing_added text;
}

-- ---- feeds

pub reaches_feed : {S : Type 0} (step : S → Call → Answer → S → Type 0) (tag : List ℕ) (now : Standing) (limit : ℕ) (x : Exchange) (view : List ℕ) (changes : List Change) (old new : S) (before after : Response)
    → step old (ex.Feed limit) (Fed view changes) new → after ≡ adding (lines view changes) before
    → Reaches step tag now now (ex.Feed limit x) x old new before after
reaches_feed step tag now limit x view changes old new before after h e = record {
  events = record { call = ex.Feed limit; answer = Fed view changes } ∷ [];
  bytes = lines view changes;
  leads = λ more turn p. (Fed view changes ∷ more, ap (option_map (λ t. having (ex.Feed limit) (Fed view changes) (saying (lines view changes) t))) p);
  met = (new, h, refl);
  wrote = added (lines view changes) before after e;
}

pub stops_feed : {S : Type 0} (step : S → Call → Answer → S → Type 0) (tag : List ℕ) (now : Standing) (limit : ℕ) (x : Exchange) (fault : MailFault) (old new : S) (before after : Response)
    → step old (ex.Feed limit) (Refused fault) new → after ≡ before → Stops step tag now now (ex.Feed limit x) fault old new before after
stops_feed step tag now limit x fault old new before after h e = record {
  events = record { call = ex.Feed limit; answer = Refused fault } ∷ [];
  bytes = [];
  leads = (Refused fault ∷ [], refl);
  met = (new, h, refl);
  wrote = same_still before after e;
}

-- ---- looks

pub reaches_look : {S : Type 0} (step : S → Call → Answer → S → Type 0) (tag : List ℕ) (now : Standing) (by_uid : Bool) (set : List SeqRange) (next : List ℕ → Exchange) (view : List ℕ) (s : S) (text : Response)
    → step s (ex.Look by_uid set) (Looked view) s → Reaches step tag now now (ex.Look by_uid set next) (next view) s s text text
reaches_look step tag now by_uid set next view s text h = record {
  events = record { call = ex.Look by_uid set; answer = Looked view } ∷ [];
  bytes = [];
  leads = λ more turn p. (Looked view ∷ more, ap (option_map (having (ex.Look by_uid set) (Looked view))) p);
  met = (s, h, refl);
  wrote = nothing_added text;
}

pub stops_look : {S : Type 0} (step : S → Call → Answer → S → Type 0) (tag : List ℕ) (now : Standing) (by_uid : Bool) (set : List SeqRange) (next : List ℕ → Exchange) (fault : MailFault) (s : S) (text : Response)
    → step s (ex.Look by_uid set) (Refused fault) s → Stops step tag now now (ex.Look by_uid set next) fault s s text text
stops_look step tag now by_uid set next fault s text h = record {
  events = record { call = ex.Look by_uid set; answer = Refused fault } ∷ [];
  bytes = [];
  leads = (Refused fault ∷ [], refl);
  met = (s, h, refl);
  wrote = nothing_added text;
}

-- ---- mailboxes entered and left

pub reaches_leave : {S : Type 0} (step : S → Call → Answer → S → Type 0) (tag : List ℕ) (now : Standing) (remove : Bool) (x : Exchange) (gone : ℕ) (old new : S) (text : Response)
    → step old (ex.Leave remove) (Left gone) new → Reaches step tag now (record now { selected = None }) (ex.Leave remove x) x old new text text
reaches_leave step tag now remove x gone old new text h = record {
  events = record { call = ex.Leave remove; answer = Left gone } ∷ [];
  bytes = [];
  leads = λ more turn p. (Left gone ∷ more, ap (option_map (having (ex.Leave remove) (Left gone))) p);
  met = (new, h, refl);
  wrote = nothing_added text;
}

pub stops_leave : {S : Type 0} (step : S → Call → Answer → S → Type 0) (tag : List ℕ) (now : Standing) (remove : Bool) (x : Exchange) (fault : MailFault) (old new : S) (text : Response)
    → step old (ex.Leave remove) (Refused fault) new → Stops step tag now now (ex.Leave remove x) fault old new text text
stops_leave step tag now remove x fault old new text h = record {
  events = record { call = ex.Leave remove; answer = Refused fault } ∷ [];
  bytes = [];
  leads = (Refused fault ∷ [], refl);
  met = (new, h, refl);
  wrote = nothing_added text;
}

pub reaches_enter : {S : Type 0} (step : S → Call → Answer → S → Type 0) (tag : List ℕ) (now : Standing) (selected : Selected) (next : Opening → Exchange) (opening : Opening) (old new : S) (text : Response)
    → step old (ex.Enter selected.mailbox) (Entered opening) new → Reaches step tag now (record now { selected = Some selected }) (ex.Enter selected next) (next opening) old new text text
reaches_enter step tag now selected next opening old new text h = record {
  events = record { call = ex.Enter selected.mailbox; answer = Entered opening } ∷ [];
  bytes = [];
  leads = λ more turn p. (Entered opening ∷ more, ap (option_map (having (ex.Enter selected.mailbox) (Entered opening))) p);
  met = (new, h, refl);
  wrote = nothing_added text;
}

pub stops_enter : {S : Type 0} (step : S → Call → Answer → S → Type 0) (tag : List ℕ) (now : Standing) (selected : Selected) (next : Opening → Exchange) (fault : MailFault) (old new : S) (text : Response)
    → step old (ex.Enter selected.mailbox) (Refused fault) new → Stops step tag now now (ex.Enter selected next) fault old new text text
stops_enter step tag now selected next fault old new text h = record {
  events = record { call = ex.Enter selected.mailbox; answer = Refused fault } ∷ [];
  bytes = [];
  leads = (Refused fault ∷ [], refl);
  met = (new, h, refl);
  wrote = nothing_added text;
}

-- ---- counts and changes of flags

pub reaches_count : {S : Type 0} (step : S → Call → Answer → S → Type 0) (tag : List ℕ) (now : Standing) (mailbox : ℕ) (next : Status → Exchange) (answer : Status) (old new : S) (text : Response)
    → step old (ex.Count mailbox) (Counted answer) new → Reaches step tag now now (ex.Count mailbox next) (next answer) old new text text
reaches_count step tag now mailbox next answer old new text h = record {
  events = record { call = ex.Count mailbox; answer = Counted answer } ∷ [];
  bytes = [];
  leads = λ more turn e. (Counted answer ∷ more, ap (option_map (having (ex.Count mailbox) (Counted answer))) e);
  met = (new, h, refl);
  wrote = nothing_added text;
}

pub stops_count : {S : Type 0} (step : S → Call → Answer → S → Type 0) (tag : List ℕ) (now : Standing) (mailbox : ℕ) (next : Status → Exchange) (fault : MailFault) (old new : S) (text : Response)
    → step old (ex.Count mailbox) (Refused fault) new → Stops step tag now now (ex.Count mailbox next) fault old new text text
stops_count step tag now mailbox next fault old new text h = record {
  events = record { call = ex.Count mailbox; answer = Refused fault } ∷ [];
  bytes = [];
  leads = (Refused fault ∷ [], refl);
  met = (new, h, refl);
  wrote = nothing_added text;
}

pub reaches_alter : {S : Type 0} (step : S → Call → Answer → S → Type 0) (tag : List ℕ) (now : Standing) (uid : ℕ) (op : FlagOp) (next : Option Flags → Exchange) (answer : Option Flags) (old new : S) (text : Response)
    → step old (ex.Alter uid op) (Altered answer) new → Reaches step tag now now (ex.Alter uid op next) (next answer) old new text text
reaches_alter step tag now uid op next answer old new text h = record {
  events = record { call = ex.Alter uid op; answer = Altered answer } ∷ [];
  bytes = [];
  leads = λ more turn e. (Altered answer ∷ more, ap (option_map (having (ex.Alter uid op) (Altered answer))) e);
  met = (new, h, refl);
  wrote = nothing_added text;
}

pub stops_alter : {S : Type 0} (step : S → Call → Answer → S → Type 0) (tag : List ℕ) (now : Standing) (uid : ℕ) (op : FlagOp) (next : Option Flags → Exchange) (fault : MailFault) (old new : S) (text : Response)
    → step old (ex.Alter uid op) (Refused fault) new → Stops step tag now now (ex.Alter uid op next) fault old new text text
stops_alter step tag now uid op next fault old new text h = record {
  events = record { call = ex.Alter uid op; answer = Refused fault } ∷ [];
  bytes = [];
  leads = (Refused fault ∷ [], refl);
  met = (new, h, refl);
  wrote = nothing_added text;
}

-- ---- removals

pub reaches_expunge : {S : Type 0} (step : S → Call → Answer → S → Type 0) (tag : List ℕ) (now : Standing) (uids : Option (List ℕ)) (x : Exchange) (view : List ℕ) (changes : List Change) (gone : ℕ) (old new : S) (before after : Response)
    → step old (ex.Expunge uids) (Expunged view changes gone) new → after ≡ adding (lines view changes) before
    → Reaches step tag now now (ex.Expunge uids x) x old new before after
reaches_expunge step tag now uids x view changes gone old new before after h e = record {
  events = record { call = ex.Expunge uids; answer = Expunged view changes gone } ∷ [];
  bytes = lines view changes;
  leads = λ more turn p. (Expunged view changes gone ∷ more, ap (option_map (λ t. having (ex.Expunge uids) (Expunged view changes gone) (saying (lines view changes) t))) p);
  met = (new, h, refl);
  wrote = added (lines view changes) before after e;
}

pub stops_expunge : {S : Type 0} (step : S → Call → Answer → S → Type 0) (tag : List ℕ) (now : Standing) (uids : Option (List ℕ)) (x : Exchange) (fault : MailFault) (old new : S) (before after : Response)
    → step old (ex.Expunge uids) (Refused fault) new → after ≡ before → Stops step tag now now (ex.Expunge uids x) fault old new before after
stops_expunge step tag now uids x fault old new before after h e = record {
  events = record { call = ex.Expunge uids; answer = Refused fault } ∷ [];
  bytes = [];
  leads = (Refused fault ∷ [], refl);
  met = (new, h, refl);
  wrote = same_still before after e;
}

pub reaches_discard : {S : Type 0} (step : S → Call → Answer → S → Type 0) (tag : List ℕ) (now : Standing) (mailbox : ℕ) (uids : List ℕ) (x : Exchange) (old new : S) (text : Response)
    → step old (ex.Discard mailbox uids) Discarded new → Reaches step tag now now (ex.Discard mailbox uids x) x old new text text
reaches_discard step tag now mailbox uids x old new text h = record {
  events = record { call = ex.Discard mailbox uids; answer = Discarded } ∷ [];
  bytes = [];
  leads = λ more turn e. (Discarded ∷ more, ap (option_map (having (ex.Discard mailbox uids) Discarded)) e);
  met = (new, h, refl);
  wrote = nothing_added text;
}

pub stops_discard : {S : Type 0} (step : S → Call → Answer → S → Type 0) (tag : List ℕ) (now : Standing) (mailbox : ℕ) (uids : List ℕ) (x : Exchange) (fault : MailFault) (old new : S) (text : Response)
    → step old (ex.Discard mailbox uids) (Refused fault) new → Stops step tag now now (ex.Discard mailbox uids x) fault old new text text
stops_discard step tag now mailbox uids x fault old new text h = record {
  events = record { call = ex.Discard mailbox uids; answer = Refused fault } ∷ [];
  bytes = [];
  leads = (Refused fault ∷ [], refl);
  met = (new, h, refl);
  wrote = nothing_added text;
}
