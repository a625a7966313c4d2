-- How what a client sends is answered, one call after another.
use Rattle.std.proofs.Common.{◌≡◌, ℕ, ◌+◌, ◌-◌, List, [], ◌∷◌, ◌++◌, length, take, drop, flat_map, inr, nat_eq, ◌<◌, arith, refl, sym, ap, ◌∙◌, subst, append-nil, append_assoc, Bool, true, false, if◌then◌else◌, Option, Some, None}
use Rattle.std.proofs.lemmas.List.{take_all}
use Rattle.std.proofs.lemmas.List.Concat.{flat_map-append}
use Rattle.line_io.proofs.Appended.{take_two_of}
use Rattle.imap_session.specs.declared.standing.After.{After}
use Rattle.imap_session.specs.declared.standing.After.TheVariants.{Bye}
use Rattle.imap_session.specs.declared.connection.Fed.{Fed}
use Rattle.imap_session.specs.Exchange.{PendingLiteral, Call, Answer, Sent, Standing, may_send, waits_begun, waits_for, waits_idling, waits_sent}
use Rattle.imap_session.specs.Dialogue.{Answered, AnswersLine, AnswersOne, Bytes, Converses, Dialogue, Line, ImapConnection, Sends, StandsFor, Takes, Took, begins, ends, goes_on, has_ended, may_follow, parts, reads, silent, spelled, takes, too_long}

-- what was written for a line is what is said of it alone
said_alone : {S : Type 0} (step : S → Call → Answer → S → Type 0) (now : Standing) (line : List ℕ) (old new : S) (before after : List ℕ) (how : After) (next : Standing)
    → AnswersLine step now line old new before after how next → (said : List ℕ) × (after ≡ before ++ said) × AnswersLine step now line old new [] said how next
said_alone step now line old new before after how next (reads short a) =
    (a.bytes, a.wrote, reads short (record { answers = a.answers; events = a.events; bytes = a.bytes; played = a.played; met = a.met; wrote = refl }))
said_alone step now line old new before after how next (too_long long same wrote go stays) = (_, wrote, too_long long same refl go stays)

-- one thing alone
alone : {S : Type 0} (step : S → Call → Answer → S → Type 0) (now : Standing) (one : Sends) (old new : S) (said : List ℕ) (how : After) (next : Standing) (follows : Bool)
    → may_follow how ≡ follows → (follows ≡ true → how ≡ waits_for next) → AnswersOne step now one old new [] said how next → Converses step now (one ∷ []) old new said how next
alone step now one old new said how next false f e a = parts now next one old new said how f a
alone step now one old new said how next true f e a =
    let same = e refl in
    let on = subst (λ (h : After). AnswersOne step now one old new [] said h next) same a in
    subst (λ (h : After). Converses step now (one ∷ []) old new said h next) (sym same)
    (subst (λ (t : List ℕ). Converses step now (one ∷ []) old new t (waits_for next) next) (append-nil said)
    (goes_on now next next one [] old new new said [] (waits_for next) (subst (λ (h : After). may_follow h ≡ true) same f) on (silent next new)))

-- where more may follow, the session waits for it
follows_on : (how : After) (over : Bool) (next : Standing) → how ≡ (if over then Bye else waits_for next) → may_follow how ≡ true → how ≡ waits_for next
follows_on how true next e f = absurd (let g : may_follow Bye ≡ true = subst (λ (h : After). may_follow h ≡ true) e f in cc)
follows_on how false next e f = e

idling_free : (idling : Option (List ℕ)) → may_follow (waits_idling idling) ≡ true
idling_free None = refl
idling_free (Some tag) = refl

begun_free : (begun : Option PendingLiteral) (idling : Option (List ℕ)) → may_follow (waits_begun begun (waits_idling idling)) ≡ true
begun_free None idling = idling_free idling
begun_free (Some a) idling = refl

-- a session that awaits no verdict may be sent more
pub free : (now : Standing) → now.mailing.sent ≡ None → may_follow (waits_for now) ≡ true
free now e = ap (λ (s : Option Sent). may_follow (waits_sent s (waits_begun now.mailing.begun (waits_idling now.idling)))) e ∙ begun_free now.mailing.begun now.idling

-- some of it, and then some more
converses_on : {S : Type 0} (step : S → Call → Answer → S → Type 0) (now between next : Standing) (sent others : List Sends) (old mid new : S) (one two : List ℕ) (first how : After)
    → Converses step now sent old mid one first between → may_follow first ≡ true → Converses step between others mid new two how next → Converses step now (sent ++ others) old new (one ++ two) how next
converses_on step now between next sent others old mid new one two first how (silent a b) f q = q
converses_on step now between next sent others old mid new one two first how (parts a b x c d said h last y) f q = absurd cc
converses_on step now between next sent others old mid new one two first how (goes_on a b c x rest d m e one1 two1 h follows y more) f q =
    subst (λ (t : List ℕ). Converses step now (x ∷ (rest ++ others)) old new t how next) (sym (append_assoc one1 two1 two))
    (goes_on now b next x (rest ++ others) old m new one1 (two1 ++ two) how follows y (converses_on step b between next rest others m mid new two1 two first how more f q))

-- ---- what a call takes behind what was taken

pub record TookMore {S : Type 0} (step : S → Call → Answer → S → Type 0) (d : Dialogue) (bytes : List ℕ) (old new : S) (said before after : List ℕ) (how : After) (link : ImapConnection) : Type 0 where
  pub more : List ℕ
  pub next : Dialogue
  pub answered : Answered step d bytes old new (said ++ more) how next
  pub stands : StandsFor link next
  pub wrote : after ≡ before ++ more

one_more : {S : Type 0} (step : S → Call → Answer → S → Type 0) (d between : Dialogue) (bytes used : List ℕ) (old mid new : S) (said more before after : List ℕ) (how : After) (next : Standing) (link : ImapConnection) (one : Sends)
    → Answered step d bytes old mid said (waits_for between.standing) between → may_follow (waits_for between.standing) ≡ true → how ≡ may_send next → between.begun ++ used ≡ spelled one
    → AnswersOne step between.standing one mid new [] more how next → StandsFor link (record { standing = next; begun = [] }) → after ≡ before ++ more
    → TookMore step d (bytes ++ used) old new said before after how link
one_more step d between bytes used old mid new said more before after how next link one h f sends whole a stands wrote =
    let spelt : flat_map spelled (h.sent ++ one ∷ []) ≡ flat_map spelled h.sent ++ spelled one = flat_map-append spelled h.sent (one ∷ []) ∙ ap (λ (t : List ℕ). flat_map spelled h.sent ++ t) (append-nil (spelled one)) in
    record {
      more = more;
      next = record { standing = next; begun = [] };
      answered = record {
        sent = h.sent ++ one ∷ [];
        whole = sym (append_assoc d.begun bytes used) ∙ ap (λ (t : List ℕ). t ++ used) h.whole ∙ append_assoc (flat_map spelled h.sent) between.begun used
            ∙ ap (λ (t : List ℕ). flat_map spelled h.sent ++ t) whole ∙ sym spelt ∙ sym (append-nil (flat_map spelled (h.sent ++ one ∷ [])));
        converses = converses_on step d.standing between.standing next h.sent (one ∷ []) old mid new said more (waits_for between.standing) how h.converses f
            (alone step between.standing one mid new more how next (may_follow how) refl (follows_on how next.ended next sends) a);
      };
      stands = stands;
      wrote = wrote;
    }

pub took_more : {S : Type 0} (step : S → Call → Answer → S → Type 0) (d between : Dialogue) (bytes piece : List ℕ) (old mid new : S) (said before after : List ℕ) (fed : Fed) (link : ImapConnection)
    → Answered step d bytes old mid said (waits_for between.standing) between → between.standing.ended ≡ false → may_follow (waits_for between.standing) ≡ true → fed.after ≡ may_send link.session → Takes step between piece mid new before after fed link
    → TookMore step d (bytes ++ take fed.used piece) old new said before after fed.after link
took_more {S} step d between bytes piece old mid new said before after fed link h live f sends (has_ended ended used bye same quiet stands) = absurd (let e = live in let o = ended in cc)
took_more {S} step d between bytes piece old mid new said before after fed link h live f sends (begins o used go same quiet stands) =
    let all : take fed.used piece ≡ piece = take_all fed.used piece (omega (arith, used)) in
    record {
      more = [];
      next = record { standing = between.standing; begun = between.begun ++ piece };
      answered = record {
        sent = h.sent;
        whole = sym (append_assoc d.begun bytes (take fed.used piece)) ∙ ap (λ (t : List ℕ). t ++ take fed.used piece) h.whole ∙ append_assoc (flat_map spelled h.sent) between.begun (take fed.used piece)
            ∙ ap (λ (t : List ℕ). flat_map spelled h.sent ++ (between.begun ++ t)) all;
        converses = subst (λ (t : List ℕ). Converses step d.standing h.sent old new t fed.after between.standing) (sym (append-nil said))
            (subst (λ (a : After). Converses step d.standing h.sent old new said a between.standing) (sym go)
            (subst (λ (s : S). Converses step d.standing h.sent old s said (waits_for between.standing) between.standing) (sym same) h.converses));
      };
      stands = stands;
      wrote = quiet ∙ sym (append-nil before);
    }
took_more {S} step d between bytes piece old mid new said before after fed link h live f sends (ends line next o whole uncut z a stands) =
    let one = said_alone step between.standing line mid new before after fed.after next a in
    one_more step d between bytes (take fed.used piece) old mid new said one.0 before after fed.after next link (Line line) h f (sends ∙ ap may_send stands.session) whole (o, z, one.2, uncut) stands one.1
took_more {S} step d between bytes piece old mid new said before after fed link h live f sends (takes next o none t stands) =
    one_more step d between bytes (take fed.used piece) old mid new said [] before after fed.after next link (Bytes (take fed.used piece)) h f (sends ∙ ap may_send stands.session) (ap (λ (b : List ℕ). b ++ take fed.used piece) none)
    (record { goes = t.goes; some = t.some; due = t.due; takes = t.takes; unasked = t.unasked; silent = refl; waits = t.waits }) stands (t.silent ∙ sym (append-nil before))

-- what was taken of a piece so far, and what it came to
pub record TookTo {S : Type 0} (step : S → Call → Answer → S → Type 0) (d : Dialogue) (bytes : List ℕ) (old new : S) (before after : List ℕ) (how : After) (link : ImapConnection) : Type 0 where
  pub said : List ℕ
  pub next : Dialogue
  pub answered : Answered step d bytes old new said how next
  pub stands : StandsFor link next
  pub wrote : after ≡ before ++ said

pub taken_on : {S : Type 0} (step : S → Call → Answer → S → Type 0) (d between : Dialogue) (piece : List ℕ) (used : ℕ) (old mid new : S) (said first before after : List ℕ) (fed : Fed) (link new_link : ImapConnection)
    → Answered step d (take used piece) old mid said (waits_for between.standing) between → StandsFor link between → link.session.ended ≡ false → link.session.mailing.sent ≡ None → before ≡ first ++ said → fed.after ≡ may_send new_link.session
    → Takes step between (take (length piece - used) (drop used piece)) mid new before after fed new_link
    → TookTo step d (take (used + fed.used) piece) old new first after fed.after new_link
taken_on step d between piece used old mid new said first before after fed link new_link h stands live unsent so_far sends taken =
    let m = took_more step d between (take used piece) (take (length piece - used) (drop used piece)) old mid new said before after fed new_link h (ap (λ (s : Standing). s.ended) (sym stands.session) ∙ live)
    (free between.standing (ap (λ (s : Standing). s.mailing.sent) (sym stands.session) ∙ unsent)) sends taken in
    record {
      said = said ++ m.more;
      next = m.next;
      answered = subst (λ (t : List ℕ). Answered step d t old new (said ++ m.more) fed.after m.next) (take_two_of used fed.used piece) m.answered;
      stands = m.stands;
      wrote = m.wrote ∙ ap (λ (t : List ℕ). t ++ m.more) so_far ∙ append_assoc first said m.more;
    }

pub nothing_taken : {S : Type 0} (step : S → Call → Answer → S → Type 0) (d : Dialogue) (old : S) → Answered step d [] old old [] (waits_for d.standing) d
nothing_taken step d old = record { sent = []; whole = append-nil d.begun; converses = silent d.standing old }

-- what may follow, where the session goes on
pub goes_to : (how : After) (link : ImapConnection) (next : Dialogue) → how ≡ may_send link.session → link.session.ended ≡ false → StandsFor link next → how ≡ waits_for next.standing
goes_to how link next sends live stands =
    sends ∙ ap (λ (b : Bool). if b then Bye else waits_for link.session) live ∙ ap waits_for stands.session

-- ---- a piece of no bytes

pub some_of : (piece : List ℕ) (empty : Bool) → empty ≡ nat_eq (length piece) 0 → empty ≡ false → 0 < length piece
some_of [] empty is e = absurd (let f : true ≡ false = sym is ∙ e in cc)
some_of (x ∷ xs) empty is e = omega arith

-- nothing was taken, and the connection says what it waits for
pub took_nothing : {S : Type 0} (step : S → Call → Answer → S → Type 0) (d : Dialogue) (piece text : List ℕ) (store : S) (link : ImapConnection) (sends : After) → StandsFor link d → link.session.ended ≡ false → sends ≡ may_send link.session
    → Took step d piece store store text text (record { used = 0; after = Some sends }) link
took_nothing step d piece text store link sends s live is = record {
  said = [];
  how = waits_for d.standing;
  next = d;
  answered = nothing_taken step d store;
  stands = s;
  wrote = sym (append-nil text);
  is = inr (ap (λ (a : After). Some a) (goes_to sends link d is live s));
}
