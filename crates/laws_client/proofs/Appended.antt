-- What a session tells of the messages that its client appended, over a whole record.
use Rattle.std.proofs.Common.{◌≡◌, inl, inr, ℕ, true, false, List, [], ◌∷◌, ◌++◌, Contains, refl, sym, ◌∙◌, subst, Option, Some, None, ap, Bool, ◌⊎◌}
use Rattle.std.specs.Prelude.{filter_map, ◌||◌}
use Rattle.std.proofs.lemmas.Bool.{false≢true}
use Rattle.delivery_token.specs.declared.CopyKey.{CopyKey}
use Rattle.delivery_token.specs.declared.Job.{Job}
use Rattle.delivery_token.specs.declared.Verdict.{Verdict}
use Rattle.delivery_token.specs.declared.Verdict.TheVariants as verdicts
use Rattle.delivery_token.specs.declared.log.Noted.{Noted}
use Rattle.world.specs.World.{Config, Event, IsWorld, Steps, World}
use Rattle.world.specs.Law.{StandsOnce, pairs}
use Rattle.world.proofs.Always.{always}
use Rattle.world.proofs.Base.{Every, Rising, rising_pair}
use Rattle.imap_session.specs.Commands.{appended_words, copied_words, refused_text, with_copy, copies_of}
use Rattle.imap_session.specs.Telling.{tells_uid}
use Rattle.imap_session.specs.Exchange as calls
use Rattle.imap_session.specs.Exchange.{Event as Happened, Sent, refusal_text, tagged, Origin, Client, Copied, Batch}
use Rattle.exactly_once.proofs.Grown.{heard_stays_heard}
use Rattle.laws_client.proofs.Talked.{met_hears}
use Rattle.imap_session.specs.Folders.{folders_of}
use Rattle.house.specs.Scene.{LeavesMailbox, empty_scene}
use Rattle.house.specs.Setup.{Setup, session_seat}
use Rattle.laws_client.specs.Appends.{AppendsAreKept, AppendsWereKept, AppendsWereTold, TellsOfAppends, AnswersNoted, AppendsAreTold, AreAnswered, Author, IsAnswered, SaysVerdict, TellsKept, TellsOfNone, as_it_is, author_at, copy_under, CameBy, SaysCopied, tells_stored, tells_copy, IsCopyOf, SaysMoved, TellsCopied, SaysOfBatch, SaysRefused, awaits_next, has_no_number, all_stored, EarlierStand}
use Rattle.imap_session.specs.Happenings.{Told, bytes_in}
use Rattle.laws_client.specs.ClientRecords.{sent_by_then, shown_by_then}
use Rattle.laws_client.proofs.Answered.{Came, AreNoted, InTurn, IsNoted, KnownAt, still_noted, EarlierNoted}
use Rattle.laws_client.proofs.Entries.{the_client, the_serial}
use Rattle.laws_client.proofs.RecordKeeping.{KeptBy, kept_by, the_finished, KeepsBy, all_known, arrival_by_then, keeps_by, nobody}
use Rattle.laws_client.proofs.LastLines.{apart_tells_none, refusal_apart, silence_tells_none, tags_of_words, words_of_tags, IsWord}
use Rattle.laws_client.proofs.LastRests.{no_apart}
use Rattle.laws_client.proofs.LastWords.{uid_spares, row_tells_neither}
use Rattle.laws_client.proofs.Out.{copy_of, fate_met, fate_step}
use Rattle.laws_client.proofs.Recording.{Arrival, Finished, came_as}
use Rattle.laws_client.proofs.Stored.{stored_copy}
use Rattle.imap_session.specs.Texts.{response_text}
use Rattle.imap_session.specs.declared.texts.ResponseText.TheVariants as texts
use Rattle.imap_grammar.specs.Verbs.{copy_verb}
use Rattle.mailbox.specs.declared.clients.MailFault.{MailFault}
use Rattle.delivery_token.specs.declared.Refusal.{Refusal}
use Rattle.imap_session.specs.declared.texts.ResponseText.{ResponseText}
use Rattle.mailbox.specs.declared.clients.MailFault.TheVariants.{Spent}
use Rattle.laws_client.specs.Clients.{EndsWith, last_line}

-- ---- each answer

-- its author, where it was let in so
author_is : (k : Setup) (place serial : ℕ) (a : Arrival) (sent : List ℕ) → Author
author_is k place serial a sent = record { place = place; serial = serial; folders = folders_of k.directory a.user; sent = sent }

-- a copy that was stored stands once, under its UID, and with the text and the flags of its message
record StandsSo (w : World) (noted : Noted) (message : Sent) (uid : ℕ) : Type 0 where
  pub heard : Contains (w.heard noted.key.seat) noted
  pub once : StandsOnce (pairs (w.box noted.mailbox).accepted) noted.key uid
  pub mailbox : noted.mailbox ≡ message.append.mailbox
  pub copy : Contains (w.box noted.mailbox).accepted (copy_under noted.key message, uid)

heard_there : (w : World) (seat : ℕ) (noted : Noted) → noted.key.seat ≡ seat → Contains (w.heard seat) noted → Contains (w.heard noted.key.seat) noted
heard_there w seat noted same heard = subst (λ (p : ℕ). Contains (w.heard p) noted) (sym same) heard

stands_so : (k : Setup) (events : List Event) (w : World) (place : ℕ) (a : Arrival) (noted : Noted) (message : Sent) (uid : ℕ) → IsWorld k.config events w → noted.key.seat ≡ session_seat k place
    → KnownAt k.config (came_as k place a) w noted message → noted.key ≡ (copy_of (session_seat k place) a.serial message).key → noted.verdict ≡ verdicts.Stored uid → StandsSo w noted message uid
stands_so k events w place a noted message uid came seat known key e = record {
  heard = there;
  once = once;
  mailbox = s.0;
  copy = subst (λ (x : CopyKey). Contains (w.box noted.mailbox).accepted (copy_under x message, uid)) (sym key) s.1;
}
  where
    there : Contains (w.heard noted.key.seat) noted
    there = heard_there w (session_seat k place) noted seat known.0

    once : StandsOnce (pairs (w.box noted.mailbox).accepted) noted.key uid
    once = (always k.config events w came).answered noted.key.seat uid noted there e

    c : Job
    c = copy_of (session_seat k place) a.serial message

    s : (noted.mailbox ≡ c.mailbox) × Contains (w.box noted.mailbox).accepted (c, uid)
    s = stored_copy k.config events w (session_seat k place) noted.mailbox uid c came refl (subst (λ (x : CopyKey). StandsOnce (pairs (w.box noted.mailbox).accepted) x uid) key once) known.1

-- each earlier copy of its batch
earlier_stand : (k : Setup) (events : List Event) (w : World) (place serial : ℕ) (a : Arrival) (sent : List ℕ) (last : Sent) (origin : Origin) → IsWorld k.config events w → serial ≡ a.serial
    → EarlierNoted (came_as k place a) sent (KnownAt k.config (came_as k place a) w) last origin → EarlierStand k w (author_is k place serial a sent) last origin
unfolding author_is
earlier_stand k events w place serial a sent last Client came own h = tt
earlier_stand k events w place serial a sent last (Copied batch) came own h = λ copies uid behind is.
    let e = h copies uid behind is in
    let s = stands_so k events w place a e.noted e.message uid came e.seat e.heard e.key e.stored in record {
      noted = e.noted;
      message = e.message;
      rest = e.rest;
      number = e.number;
      origin = e.origin;
      came = e.came;
      before = e.before;
      under = e.under;
      named = e.named;
      seat = e.seat;
      own = e.own ∙ sym own;
      heard = s.heard;
      stored = e.stored;
      once = s.once;
      mailbox = s.mailbox;
      copy = s.copy;
    }

one_answered : (k : Setup) (events : List Event) (w : World) (place serial : ℕ) (a : Arrival) (sent bytes : List ℕ) (verdict : Option Noted) → IsWorld k.config events w → serial ≡ a.serial
    → IsNoted k.config.uidvalidity (came_as k place a) sent (KnownAt k.config (came_as k place a) w) bytes verdict → IsAnswered k w (author_is k place serial a sent) bytes verdict
unfolding author_is
one_answered k events w place serial a sent bytes None came own h = h
one_answered k events w place serial a sent bytes (Some noted) came own h = record {
  seat = h.seat;
  own = h.own ∙ sym own;
  heard = heard_there w (session_seat k place) noted h.seat h.heard.0;
  message = h.message;
  number = h.number;
  came = h.came;
  chosen = h.chosen;
  says = h.says;
  stands = λ uid e. (stands_so k events w place a noted h.message uid came h.seat h.heard h.key e).once;
  stored = λ uid e. let s = stands_so k events w place a noted h.message uid came h.seat h.heard h.key e in (s.mailbox, s.copy);
  earlier = earlier_stand k events w place serial a sent h.message h.message.origin came own h.earlier;
}

all_answered : (k : Setup) (events : List Event) (w : World) (place serial : ℕ) (a : Arrival) (sent : List ℕ) (told : List Told) (verdicts : List (Option Noted)) → IsWorld k.config events w → serial ≡ a.serial
    → AreNoted k.config.uidvalidity (came_as k place a) sent (KnownAt k.config (came_as k place a) w) told verdicts → AreAnswered k w (author_is k place serial a sent) told verdicts
all_answered k events w place serial a sent [] [] came own h = tt
all_answered k events w place serial a sent [] (v ∷ vs) came own h = absurd h
all_answered k events w place serial a sent (t ∷ ts) [] came own h = absurd h
all_answered k events w place serial a sent (t ∷ ts) (v ∷ vs) came own h = (one_answered k events w place serial a sent (bytes_in t) v came own h.0, all_answered k events w place serial a sent ts vs came own h.1)

-- ---- one that tells a UID

-- words of the first kind, and of the second
uid_stored : (words : List ℕ) → tells_uid words ≡ true → tells_stored words ≡ true
uid_stored words e = ap (λ (b : Bool). b || tells_copy words) e

copy_stored : (words : List ℕ) → tells_copy words ≡ true → tells_stored words ≡ true
copy_stored words e = by (tells_uid words)
  where
    by : (b : Bool) → (b || tells_copy words) ≡ true
    by true = refl
    by false = e

untold : (bytes tag words : List ℕ) → TellsOfNone bytes → EndsWith tag words bytes → tells_stored words ≡ true → ⊥
untold bytes tag words none ends tells = false≢true (sym (none tag words ends) ∙ tells)

-- what is said where a message was refused, or the store refuses, tells none
refusal_untold : (tag : List ℕ) → IsWord tag → (bytes : List ℕ) (why : Refusal) → bytes ≡ tagged tag (response_text (refused_text why))
    → TellsOfNone bytes
refusal_untold tag t bytes why s = subst TellsOfNone (sym s) (apart_tells_none tells_stored _ (no_apart tells_stored uid_spares tag t why))

fault_untold : (tag : List ℕ) → IsWord tag → (bytes : List ℕ) (fault : MailFault) → last_line bytes ≡ last_line (refusal_text tag fault)
    → TellsOfNone bytes
fault_untold tag t bytes fault s other words ends =
    apart_tells_none tells_stored (refusal_text tag fault) (refusal_apart tells_stored uid_spares tag t fault) other words
    (record { chosen = ends.chosen; last = sym s ∙ ends.last })

-- two last lines of one answer have the same words
same_end : (bytes tag words other said : List ℕ) → EndsWith tag words bytes → EndsWith other said bytes → words ≡ said
same_end bytes tag words other said a b = words_of_tags tag other words said a.chosen b.chosen (sym a.last ∙ b.last)

-- where copies were removed again, or could not be
back_untold : (tag : List ℕ) → IsWord tag → (bytes : List ℕ) (why : Refusal) (copies : List ℕ) → SaysRefused copies tag (response_text (refused_text why)) bytes → TellsOfNone bytes
back_untold tag t bytes why [] s = refusal_untold tag t bytes why s
back_untold tag t bytes why (uid ∷ uids) (inl s) = refusal_untold tag t bytes why s
back_untold tag t bytes why (uid ∷ uids) (inr (fault, s)) = fault_untold tag t bytes fault (ap last_line s)

-- of a MOVE
moved_untold : (v : ℕ) (batch : Batch) (tag bytes : List ℕ) → IsWord tag → SaysMoved v batch tag bytes → TellsOfNone bytes
moved_untold v batch tag bytes t s other words ends = by s.ends
  where
    done : ResponseText
    done = texts.Completed (copy_verb batch.by_uid true)

    by : EndsWith tag (response_text done) bytes ⊎ ((fault : MailFault) × (last_line bytes ≡ last_line (refusal_text tag fault)))
        → tells_stored words ≡ false
    by (inl own) = ap tells_stored (same_end bytes other words tag (response_text done) ends own) ∙ row_tells_neither done
    by (inr (fault, e)) = fault_untold tag t bytes fault e other words ends

-- all messages of a COPY are stored, and that is told
record AllAreTold (v : ℕ) (batch : Batch) (tag bytes : List ℕ) : Type 0 where
  pub left : batch.left ≡ []
  pub stays : batch.moves ≡ false
  pub ends : EndsWith tag (copied_words v batch) bytes

-- of a batch nothing is told else
batch_tells : (v : ℕ) (batch : Batch) (tag bytes : List ℕ) → IsWord tag → SaysOfBatch v batch tag bytes → TellsOfNone bytes ⊎ AllAreTold v batch tag bytes
batch_tells v batch tag bytes t (awaits_next row left is none) = inl (silence_tells_none tells_stored bytes none)
batch_tells v batch tag bytes t (has_no_number row left is s) = inl (fault_untold tag t bytes Spent (ap last_line s))
batch_tells v batch tag bytes t (all_stored none s) = by batch.moves refl s
  where
    by : (moves : Bool) → batch.moves ≡ moves → SaysCopied moves v batch tag bytes → TellsOfNone bytes ⊎ AllAreTold v batch tag bytes
    by true is s = inl (moved_untold v batch tag bytes t s)
    by false is s = inr (record { left = none; stays = is; ends = s })

-- what was said to a verdict tells a UID where that is stored
said_kept : (k : Setup) (w : World) (author : Author) (bytes tag words : List ℕ) (noted : Noted) → AnswersNoted k w author bytes noted
    → EndsWith tag words bytes → tells_uid words ≡ true → TellsKept k w author tag words noted
said_kept k w author bytes tag words noted h ends tells = by h.message.origin refl h.came noted.verdict refl h.says
  where
    none : TellsOfNone bytes → ⊥
    none n = untold bytes tag words n ends (uid_stored words tells)

    copied : (batch : Batch) → TellsOfNone bytes ⊎ AllAreTold k.config.uidvalidity batch h.message.tag bytes → ⊥
    copied batch (inl n) = none n
    copied batch (inr s) =
        let same : words ≡ copied_words k.config.uidvalidity batch =
        same_end bytes tag words h.message.tag (copied_words k.config.uidvalidity batch) ends s.ends in
        false≢true (sym (ap tells_uid same) ∙ tells)

    by : (origin : Origin) → h.message.origin ≡ origin → CameBy origin author.folders author.sent h.message → (verdict : Verdict)
        → noted.verdict ≡ verdict
        → SaysVerdict k.config.uidvalidity origin h.message.tag verdict bytes → TellsKept k w author tag words noted
    by origin is came (verdicts.Refused why) e s = absurd (none (back_untold h.message.tag h.chosen bytes why (copies_of origin) s))
    by (Copied batch) is came (verdicts.Stored uid) e (inl s) =
        absurd (copied (with_copy uid batch) (batch_tells k.config.uidvalidity (with_copy uid batch) h.message.tag bytes h.chosen s))
    by Client is came (verdicts.Stored uid) e (inl s) = record {
      message = h.message;
      number = h.number;
      origin = is;
      came = came;
      under = tags_of_words tag h.message.tag words (appended_words k.config.uidvalidity uid) ends.chosen h.chosen (sym ends.last ∙ s.last);
      uid = uid;
      words = same_end bytes tag words h.message.tag (appended_words k.config.uidvalidity uid) ends s;
      seat = h.seat;
      own = h.own;
      heard = h.heard;
      stored = e;
      once = h.stands uid e;
      mailbox = (h.stored uid e).0;
      copy = (h.stored uid e).1;
    }
    by origin is came (verdicts.Stored uid) e (inr (fault, s)) = absurd (none (fault_untold h.message.tag h.chosen bytes fault (ap last_line s)))

-- or a COPYUID, of messages that were copied
said_copied : (k : Setup) (w : World) (author : Author) (bytes tag words : List ℕ) (noted : Noted) → AnswersNoted k w author bytes noted
    → EndsWith tag words bytes → tells_copy words ≡ true → TellsCopied k w author tag words noted
said_copied k w author bytes tag words noted h ends tells = by h.message.origin refl h.came noted.verdict refl h.says
  where
    none : TellsOfNone bytes → ⊥
    none n = untold bytes tag words n ends (copy_stored words tells)

    copied : (batch : Batch) → h.message.origin ≡ Copied batch → IsCopyOf author.folders author.sent h.message batch → (uid : ℕ)
        → noted.verdict ≡ verdicts.Stored uid
        → TellsOfNone bytes ⊎ AllAreTold k.config.uidvalidity (with_copy uid batch) h.message.tag bytes
        → TellsCopied k w author tag words noted
    copied batch is came uid e (inl n) = absurd (none n)
    copied batch is came uid e (inr s) = record {
      message = h.message;
      batch = batch;
      number = h.number;
      origin = is;
      stays = s.stays;
      last = s.left;
      came = came;
      under = tags_of_words tag h.message.tag words (copied_words k.config.uidvalidity (with_copy uid batch)) ends.chosen h.chosen (sym ends.last ∙ s.ends.last);
      uid = uid;
      words = same_end bytes tag words h.message.tag (copied_words k.config.uidvalidity (with_copy uid batch)) ends s.ends;
      seat = h.seat;
      own = h.own;
      heard = h.heard;
      stored = e;
      once = h.stands uid e;
      mailbox = (h.stored uid e).0;
      copy = (h.stored uid e).1;
      earlier = subst (λ (o : Origin). EarlierStand k w author h.message o) is h.earlier;
    }

    by : (origin : Origin) → h.message.origin ≡ origin → CameBy origin author.folders author.sent h.message → (verdict : Verdict)
        → noted.verdict ≡ verdict
        → SaysVerdict k.config.uidvalidity origin h.message.tag verdict bytes → TellsCopied k w author tag words noted
    by origin is came (verdicts.Refused why) e s = absurd (none (back_untold h.message.tag h.chosen bytes why (copies_of origin) s))
    by (Copied batch) is came (verdicts.Stored uid) e (inl s) =
        copied batch is came uid e (batch_tells k.config.uidvalidity (with_copy uid batch) h.message.tag bytes h.chosen s)
    by Client is came (verdicts.Stored uid) e (inl s) =
        let same : words ≡ appended_words k.config.uidvalidity uid =
        same_end bytes tag words h.message.tag (appended_words k.config.uidvalidity uid) ends s in
        absurd (false≢true (sym (ap tells_copy same) ∙ tells))
    by origin is came (verdicts.Stored uid) e (inr (fault, s)) = absurd (none (fault_untold h.message.tag h.chosen bytes fault (ap last_line s)))

-- the answer at a place among all
answered_at : (k : Setup) (w : World) (author : Author) (before after : List Told) (one : Told) (verdicts : List (Option Noted))
    → AreAnswered k w author (before ++ one ∷ after) verdicts
    → (verdict : Option Noted) × IsAnswered k w author (bytes_in one) verdict
answered_at k w author [] after one [] h = absurd h
answered_at k w author [] after one (v ∷ vs) h = (v, h.0)
answered_at k w author (t ∷ ts) after one [] h = absurd h
answered_at k w author (t ∷ ts) after one (v ∷ vs) h = answered_at k w author ts after one vs h.1

copied_in : (k : Setup) (w : World) (author : Author) (bytes tag words : List ℕ) (verdict : Option Noted) → IsAnswered k w author bytes verdict
    → EndsWith tag words bytes → tells_copy words ≡ true
    → (noted : Noted) × TellsCopied k w author tag words noted
copied_in k w author bytes tag words None h ends tells = absurd (untold bytes tag words h ends (copy_stored words tells))
copied_in k w author bytes tag words (Some noted) h ends tells = (noted, said_copied k w author bytes tag words noted h ends tells)

-- an answer that tells a UID was said to a verdict
record SaidTo (k : Setup) (w : World) (author : Author) (tag words : List ℕ) (Q : Noted → Type 0) : Type 0 where
  pub noted : Noted
  pub kept : TellsKept k w author tag words noted
  pub so : Q noted

said_to : (k : Setup) (w : World) (author : Author) (bytes tag words : List ℕ) (verdict : Option Noted) (others : List (Option Noted)) (Q : Noted → Type 0) → IsAnswered k w author bytes verdict
    → EndsWith tag words bytes → tells_uid words ≡ true → Every Q (filter_map as_it_is (verdict ∷ others)) → SaidTo k w author tag words Q
said_to k w author bytes tag words None others Q h ends tells all = absurd (untold bytes tag words h ends (uid_stored words tells))
said_to k w author bytes tag words (Some noted) others Q h ends tells all = record { noted = noted; kept = said_kept k w author bytes tag words noted h ends tells; so = all.0 }

others_every : (verdict : Option Noted) (others : List (Option Noted)) (Q : Noted → Type 0) → Every Q (filter_map as_it_is (verdict ∷ others)) → Every Q (filter_map as_it_is others)
others_every None others Q all = all
others_every (Some noted) others Q all = all.1

said_at : (k : Setup) (w : World) (author : Author) (before after : List Told) (one : Told) (tag words : List ℕ) (verdicts : List (Option Noted)) (Q : Noted → Type 0) → AreAnswered k w author (before ++ one ∷ after) verdicts
    → EndsWith tag words (bytes_in one) → tells_uid words ≡ true → Every Q (filter_map as_it_is verdicts) → SaidTo k w author tag words Q
said_at k w author [] after one tag words [] Q h ends tells all = absurd h
said_at k w author [] after one tag words (v ∷ vs) Q h ends tells all = said_to k w author (bytes_in one) tag words v vs Q h.0 ends tells all
said_at k w author (t ∷ ts) after one tag words [] Q h ends tells all = absurd h
said_at k w author (t ∷ ts) after one tag words (v ∷ vs) Q h ends tells all = said_at k w author ts after one tag words vs Q h.1 ends tells (others_every v vs Q all)

-- two of them, one behind the other
record BothSaid (k : Setup) (w : World) (author : Author) (tag words other_tag other_words : List ℕ) : Type 0 where
  pub first : Noted
  pub second : Noted
  pub one : TellsKept k w author tag words first
  pub two : TellsKept k w author other_tag other_words second
  pub order : InTurn first second

first_of_both : (k : Setup) (w : World) (author : Author) (mid after : List Told) (two : Told) (bytes tag words other_tag other_words : List ℕ) (verdict : Option Noted) (others : List (Option Noted)) → IsAnswered k w author bytes verdict
    → AreAnswered k w author (mid ++ two ∷ after) others → EndsWith tag words bytes → tells_uid words ≡ true → EndsWith other_tag other_words (bytes_in two) → tells_uid other_words ≡ true
    → Rising InTurn (filter_map as_it_is (verdict ∷ others)) → BothSaid k w author tag words other_tag other_words
first_of_both k w author mid after two bytes tag words other_tag other_words None others h more ends tells other_ends other_tells rising = absurd (untold bytes tag words h ends (uid_stored words tells))
first_of_both k w author mid after two bytes tag words other_tag other_words (Some noted) others h more ends tells other_ends other_tells rising =
    let s = said_at k w author mid after two other_tag other_words others (InTurn noted) more other_ends other_tells rising.0 in
    record { first = noted; second = s.noted; one = said_kept k w author bytes tag words noted h ends tells; two = s.kept; order = s.so }

others_rise : (verdict : Option Noted) (others : List (Option Noted)) → Rising InTurn (filter_map as_it_is (verdict ∷ others)) → Rising InTurn (filter_map as_it_is others)
others_rise None others rising = rising
others_rise (Some noted) others rising = rising.1

both_said : (k : Setup) (w : World) (author : Author) (before mid after : List Told) (one two : Told) (tag words other_tag other_words : List ℕ) (verdicts : List (Option Noted)) → AreAnswered k w author (before ++ one ∷ (mid ++ two ∷ after)) verdicts
    → EndsWith tag words (bytes_in one) → tells_uid words ≡ true → EndsWith other_tag other_words (bytes_in two) → tells_uid other_words ≡ true → Rising InTurn (filter_map as_it_is verdicts) → BothSaid k w author tag words other_tag other_words
both_said k w author [] mid after one two tag words other_tag other_words [] h ends tells other_ends other_tells rising = absurd h
both_said k w author [] mid after one two tag words other_tag other_words (v ∷ vs) h ends tells other_ends other_tells rising =
    first_of_both k w author mid after two (bytes_in one) tag words other_tag other_words v vs h.0 h.1 ends tells other_ends other_tells rising
both_said k w author (t ∷ ts) mid after one two tag words other_tag other_words [] h ends tells other_ends other_tells rising = absurd h
both_said k w author (t ∷ ts) mid after one two tag words other_tag other_words (v ∷ vs) h ends tells other_ends other_tells rising =
    both_said k w author ts mid after one two tag words other_tag other_words vs h.1 ends tells other_ends other_tells (others_rise v vs rising)

every_noted : (xs : List Noted) → Every (λ (n : Noted). Unit {0}) xs
every_noted [] = tt
every_noted (x ∷ xs) = (tt, every_noted xs)

-- ---- over a record

-- all that was told, where its verdicts are known
tells_so : (k : Setup) (events : List Event) (w : World) (place serial : ℕ) (a : Arrival) (sent : List ℕ) (told : List Told) (verdicts : List (Option Noted)) → IsWorld k.config events w → serial ≡ a.serial
    → AreNoted k.config.uidvalidity (came_as k place a) sent (KnownAt k.config (came_as k place a) w) told verdicts → Rising InTurn (filter_map as_it_is verdicts) → TellsOfAppends k w (author_is k place serial a sent) told
tells_so k events w place serial a sent told verdicts came own noted order =
    let author : Author = author_is k place serial a sent in
    let each : AreAnswered k w author told verdicts = all_answered k events w place serial a sent told verdicts came own noted in record {
      verdicts = verdicts;
      each = each;
      in_order = rising_pair InTurn (filter_map as_it_is verdicts) order;
      known = record {
        kept = λ before after one tag words e ends tells.
            let s = said_at k w author before after one tag words verdicts (λ n. Unit {0}) (subst (λ (told : List Told). AreAnswered k w author told verdicts) e each) ends tells (every_noted (filter_map as_it_is verdicts)) in
            (s.noted, s.kept);
        copied = λ before after one tag words e ends tells.
            let a = answered_at k w author before after one verdicts (subst (λ (told : List Told). AreAnswered k w author told verdicts) e each) in
            copied_in k w author (bytes_in one) tag words a.0 a.1 ends tells;
        apart = λ before mid after one two tag words other_tag other_words e ends tells other_ends other_tells.
            let b = both_said k w author before mid after one two tag words other_tag other_words verdicts (subst (λ (told : List Told). AreAnswered k w author told verdicts) e each) ends tells other_ends other_tells order in
            (b.first, b.second, b.one, b.two, b.order);
      };
    }

-- what waits of all that its client sent
all_sent : (u : ℕ) (first : Came) (sent waits all : List ℕ) (notes more : Noted → Sent → Type 0) → all ≡ sent ++ waits → ((n : Noted) (m : Sent) → notes n m → more n m) → (told : List Told) (verdicts : List (Option Noted))
    → AreNoted u first sent notes told verdicts → AreNoted u first all more told verdicts
all_sent u first sent waits all notes more e grows told verdicts each =
    subst (λ (x : List ℕ). AreNoted u first x more told verdicts) (sym e) (still_noted u first sent waits notes more grows told verdicts each)

pub appends_are_told : AppendsAreTold
unfolding author_is
appends_are_told k entries t place v printable is there read =
    let K = all_known k entries t printable.numbers is in
    let a : Arrival = arrival_by_then place nobody (empty_scene k) entries in
    let c = the_client k (λ n. arrival_by_then n nobody (empty_scene k) entries) _ _ t place v K there read in
    let kb : KeepsBy k entries place v t c.reached.talked.told = keeps_by k entries t place v printable is c in
    let notes = c.reached.talked.notes in
    let own : v.serial ≡ a.serial = (the_serial k (λ n. arrival_by_then n nobody (empty_scene k) entries) _ _ t place v K there).own in
    let sent : List ℕ = sent_by_then place [] entries in
    let known : Noted → Sent → Type 0 = KnownAt k.config (came_as k place a) t.world in
    let so : TellsOfAppends k t.world (author_at k entries place v.serial) c.reached.talked.told =
    tells_so k K.events t.world place v.serial a sent c.reached.talked.told notes.verdicts K.came own
    (all_sent k.config.uidvalidity (came_as k place a) c.reached.sent v.session.waits sent known known c.reached.waits (λ n m h. h) c.reached.talked.told notes.verdicts notes.each) notes.order in
    (kb.keeps, subst (TellsOfAppends k t.world (author_at k entries place v.serial)) (sym kb.is) so)

-- ---- of one that has ended

-- what is known stays so
known_steps : (k : Config) (first : Came) (events : List Event) (w v : World) → Steps k w events v → (n : Noted) (m : Sent) → KnownAt k first w n m → KnownAt k first v n m
known_steps k first [] w v e n m h = subst (λ (u : World). KnownAt k first u n m) (sym e) h
known_steps k first (event ∷ events) w v (u, step, more) n m h =
    known_steps k first events u v more n m (heard_stays_heard k w (event ∷ []) u first.seat n (u, step, refl) h.0, fate_step k w event u first.seat (copy_of first.seat first.serial m) step h.1)

-- also behind the leave of its mailbox
known_left : (k : Setup) (place : ℕ) (first : Came) (w v : World) → LeavesMailbox k place w v → (n : Noted) (m : Sent) → KnownAt k.config first w n m → KnownAt k.config first v n m
known_left k place first w v leaves n m h =
    let happened : Happened = record { call = calls.Leave false; answer = leaves.0 } in
    (met_hears k.config place w (happened ∷ []) v first.seat n (v, leaves.1, refl) h.0, fate_met k.config place w (happened ∷ []) v first.seat (copy_of first.seat first.serial m) (v, leaves.1, refl) h.1)

pub appends_were_told : AppendsWereTold
unfolding author_is
appends_were_told k entries t place printable is stays none =
    let K = all_known k entries t printable.numbers is in
    let a : Arrival = arrival_by_then place nobody (empty_scene k) entries in
    let f : Finished k place a (sent_by_then place [] entries) (shown_by_then place [] entries) t.world = the_finished k entries t place printable is stays none in
    let talked = f.client.reached.talked in
    let kb : KeptBy k entries place t talked.told = kept_by k entries t place printable is f in
    let first : Came = came_as k place a in
    let so : TellsOfAppends k t.world (author_at k entries place a.serial) talked.told =
    tells_so k K.events t.world place a.serial a (sent_by_then place [] entries) talked.told talked.notes.verdicts K.came refl
    (all_sent k.config.uidvalidity first f.client.reached.sent f.visitor.waits (sent_by_then place [] entries) (KnownAt k.config first f.last) (KnownAt k.config first t.world) f.client.reached.waits
    (λ n m h. known_steps k.config first f.later f.left t.world f.moved n m (known_left k place first f.last f.left f.leaves n m h)) talked.told talked.notes.verdicts talked.notes.each) talked.notes.order in
    (kb.kept, subst (TellsOfAppends k t.world (author_at k entries place a.serial)) (sym kb.is) so)

-- ---- without the verdicts

pub appends_are_kept : AppendsAreKept
appends_are_kept k entries t place v printable is there read =
    let told = appends_are_told k entries t place v printable is there read in
    (told.0, told.1.known)

pub appends_were_kept : AppendsWereKept
appends_were_kept k entries t place printable is stays none =
    let told = appends_were_told k entries t place printable is stays none in
    (told.0, told.1.known)
