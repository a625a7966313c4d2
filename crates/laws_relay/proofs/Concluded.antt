-- Of each connection of an account beside lists that agree a relay may conclude.
use Rattle.std.proofs.Common.{◌≡◌, ℕ, ◌<◌, true, false, List, [], ◌∷◌, ◌++◌, length, map, Some, refl, ap, ap₂, sym, subst, ◌∙◌, append-nil, Contains, arith}
use Rattle.std.specs.Prelude.{◌==◌, All, slice_get, slice_index_or}
use Rattle.std.specs.List.{list_any}
use Rattle.std.proofs.lemmas.Bool.{false≢true}
use Rattle.std.proofs.lemmas.Bool.Decides.{Decides-eqb}
use Rattle.std.proofs.lemmas.List.{length-map}
use Rattle.std.proofs.lemmas.List.Elements.{All-contains}
use Rattle.delivery_token.specs.Text.{Text, undated}
use Rattle.delivery_token.specs.declared.CopyKey.{CopyKey}
use Rattle.delivery_token.specs.declared.Verdict.TheVariants.{Stored}
use Rattle.delivery_token.specs.declared.log.Noted.{Noted}
use Rattle.envelope.specs.Names.{shard_of}
use Rattle.lane_work.specs.Account.{closings_of, is_closed_by}
use Rattle.lane_work.specs.Talk.{Judged}
use Rattle.lmtp_machine.specs.Dialogue.{Submission}
use Rattle.lmtp_machine.specs.Message.{stored_text}
use Rattle.running_house.specs.Laws.{ClosedGetNothing}
use Rattle.laws_relay.specs.ReplyLaws.{is_stored}
use Rattle.laws_relay.specs.Handed.{IsInLine, Handed, handed_over, is_taken}
use Rattle.laws_relay.specs.Fates.{AreCut, IsSubmitted}
use Rattle.laws_relay.specs.Concludes.{IsSender, Names, IsTextOf, key_at, message_at}
use Rattle.laws_relay.specs.Conclusions.{FrontsAreCut, TakenAreStored, WhatIsReadStays}
use Rattle.laws_relay.specs.Numbers.{MessagesAreNumbered}
use Rattle.laws_relay.specs.Concluding.{ConnectionConcludes, IsStored}
use Rattle.laws_relay.specs.Entries.{StandsNowhere, StandsOnce, with_uid}
use Rattle.running_house.specs.Walk.{is_key}
use Rattle.laws_relay.specs.AccountLaws.{AccountsConclude, AccountsKeepClosed, ConnectionsAreKnown, DoUidsRise, TakenIsItsOwn}
use Rattle.laws_relay.proofs.EntryLaws.{uids_alone}
use Rattle.laws_relay.proofs.Positions.{at_contains, at_map, at_unmap, at_within, kept, same_some, the_one, unkept, within_at}
use Rattle.laws_relay.proofs.FateLaws.{IsSame, Knows, front_read, front_same, front_taken, knows, named_at, one_number, stored_at, stored_is, taken_there}
use Rattle.laws_relay.proofs.Ledger.{connection_message, copy_noted, full_at, part_at}
use Rattle.laws_relay.proofs.AccountJoined.{IsFrom, Joined, entered, entries_at, homes_in, noted_stands, notes_in, parts_in, stands_in_order, stands_nowhere, text_from}

-- the laws on which this rests
pub record Grounds : Type 0 where
  pub known : ConnectionsAreKnown
  pub fronts : FrontsAreCut
  pub stays : WhatIsReadStays
  pub taken : TakenAreStored
  pub numbers : MessagesAreNumbered

-- what a relay knows of a connection's part of what was judged
abbrev pub KnowsPart : Joined → ℕ → List Handed → Type 0
KnowsPart g serial messages =
    Knows g.house.directory messages (map (λ (j : Judged). j.message) (part_at (parts_in g) serial)) (map (λ (j : Judged). j.verdicts) (part_at (parts_in g) serial))

knows_part : (laws : Grounds) (g : Joined) → IsInLine g.house.host → (serial : ℕ) → serial < length g.connections → (more : List ℕ)
    → KnowsPart g serial (handed_over (slice_index_or g.connections serial [] ++ more) (slice_index_or g.replies serial []))
knows_part laws g i serial under more =
    let bytes : List ℕ = slice_index_or g.connections serial [] in
    let replied : List ℕ = slice_index_or g.replies serial [] in
    let part : List Judged = part_at (parts_in g) serial in
    knows laws.numbers laws.taken g.house.host g.house.directory (handed_over (bytes ++ more) replied) (handed_over (bytes ++ more) replied) _ _
    (length-map part (λ (j : Judged). j.verdicts) ∙ sym (length-map part (λ (j : Judged). j.message)))
    (laws.known g.house g.seat serial bytes replied (part_at (parts_in g) serial) i (g.account.dialogues.each serial under) more replied [] (append-nil replied))

-- ---- a message and its part

-- the verdict on a copy of the n-th message is what the relay reads
read_verdict : (g : Joined) (serial : ℕ) (messages : List Handed) (h : KnowsPart g serial messages) (k n i : ℕ) (j : Judged) → h.number k ≡ Some n → slice_get (part_at (parts_in g) serial) n ≡ Some j
    → is_taken (message_at messages k) i ≡ slice_index_or (map is_stored j.verdicts) i false
read_verdict g serial messages h k n i j e there = h.verdict k n i j.verdicts e (at_map (λ (x : Judged). x.verdicts) (part_at (parts_in g) serial) n j there)

read_message : (g : Joined) (serial : ℕ) (messages : List Handed) (h : KnowsPart g serial messages) (k n : ℕ) (j : Judged) → h.number k ≡ Some n → slice_get (part_at (parts_in g) serial) n ≡ Some j
    → IsSubmitted g.house.directory (message_at messages k) j.message
read_message g serial messages h k n j e there =
    let s = h.submitted k n e in
    let same : s.0 ≡ j.message = same_some (sym s.1 ∙ at_map (λ (x : Judged). x.message) (part_at (parts_in g) serial) n j there) in
    subst (λ (x : Submission). IsSubmitted g.house.directory (message_at messages k) x) same s.2

-- ---- of the whole of what was replied

-- a copy that was taken, by the numbers of the house
record IsHad (g : Joined) (serial n i : ℕ) (message : Handed) : Type 0 where
  mailbox : ℕ
  there : mailbox < homes_in g
  names : Names g.house.directory (slice_index_or message.recipients i []) mailbox
  uid : ℕ
  once : StandsOnce g.accepted (key_at g.seat serial n i) mailbox uid

had : (g : Joined) (serial : ℕ) → serial < length g.connections → (messages : List Handed) (h : KnowsPart g serial messages) (k n i : ℕ) → h.number k ≡ Some n
    → is_taken (message_at messages k) i ≡ true
    → IsHad g serial n i (message_at messages k)
had g serial under messages h k n i e t =
    let part : List Judged = part_at (parts_in g) serial in
    let s = h.submitted k n e in
    let j = at_unmap (λ (x : Judged). x.message) part n s.0 s.1 in
    let v = stored_at j.0.verdicts i (sym (read_verdict g serial messages h k n i j.0 e j.1) ∙ t) in
    let full = full_at g.house g.seat g.connections g.replies g.account.judged (notes_in g) g.account.dialogues g.account.verdicts serial n j.0 j.1 in
    let within : i < length j.0.verdicts = at_within j.0.verdicts i (Stored v.0) v.1 in
    let m = within_at j.0.message.mailboxes i (let a = full.mailboxes in let b = full.verdicts in omega (arith, within, a, b)) in
    let is = connection_message g.house g.seat serial _ _ part (g.account.dialogues.each serial under) n j.0 j.1 in
    let home : m.0 < homes_in g = All-contains (λ x. x < homes_in g) j.0.message.mailboxes m.0 is.each (at_contains j.0.message.mailboxes i m.0 m.1) in
    let noted = copy_noted g.house g.seat g.connections g.replies g.account.judged (notes_in g) g.account.dialogues g.account.verdicts serial n i j.0 m.0 (Stored v.0) j.1 m.1 v.1 in
    let note : Noted = record { key = key_at g.seat serial n i; mailbox = m.0; verdict = Stored v.0 } in
    record {
      mailbox = m.0;
      there = home;
      names = named_at g.house.directory (message_at messages k).recipients j.0.message.mailboxes (read_message g serial messages h k n j.0 e j.1).names i m.0 m.1;
      uid = v.0;
      once = noted_stands g note (key_at g.seat serial n i) m.0 v.0 noted refl refl refl refl home;
    }

-- where the reply is another, no copy
not_had : (g : Joined) (serial : ℕ) (messages : List Handed) (h : KnowsPart g serial messages) (k n i : ℕ) → h.number k ≡ Some n → is_taken (message_at messages k) i ≡ false
    → StandsNowhere g.accepted (key_at g.seat serial n i)
not_had g serial messages h k n i e f = stands_nowhere g (key_at g.seat serial n i) refl (λ noted uid of key stored.
    let there : slice_get (part_at (parts_in g) serial) n ≡ Some of.judged = ap (λ (x : CopyKey). slice_get (part_at (parts_in g) x.serial) x.message) (sym key) ∙ of.there in
    let verdict : slice_get of.judged.verdicts i ≡ Some (Stored uid) = ap (λ (x : CopyKey). slice_get of.judged.verdicts x.recipient) (sym key) ∙ of.verdict ∙ ap Some stored in
    false≢true (sym f ∙ read_verdict g serial messages h k n i of.judged e there ∙ stored_is of.judged.verdicts i uid verdict))

-- an entry is of a recipient whose reply is 250
whose : (g : Joined) (serial : ℕ) (messages : List Handed) (h : KnowsPart g serial messages) (mailbox uid : ℕ) (key : CopyKey) → Contains (entries_at g mailbox) (key, uid)
    → key.seat ≡ g.seat → key.serial ≡ serial
    → (k : ℕ) × (h.number k ≡ Some key.message) × (is_taken (message_at messages k) key.recipient ≡ true)
whose g serial messages h mailbox uid key there seat of_serial =
    let e = entered g mailbox uid key there seat in
    let same : e.noted.key ≡ key = e.stored.key_is in
    let in_part : slice_get (part_at (parts_in g) serial) key.message ≡ Some e.of.judged =
    ap₂ (λ (x y : ℕ). slice_get (part_at (parts_in g) x) y) (sym (ap (λ (k : CopyKey). k.serial) same ∙ of_serial)) (sym (ap (λ (k : CopyKey). k.message) same)) ∙ e.of.there in
    let verdict : slice_get e.of.judged.verdicts key.recipient ≡ Some (Stored uid) =
    ap (λ (k : CopyKey). slice_get e.of.judged.verdicts k.recipient) (sym same) ∙ e.of.verdict ∙ ap Some e.stored.verdict_is in
    let k = h.each key.message e.of.judged.message (at_map (λ (x : Judged). x.message) (part_at (parts_in g) serial) key.message e.of.judged in_part) in
    (k.0, k.1, read_verdict g serial messages h k.0 key.message key.recipient e.of.judged k.1 in_part ∙ stored_is e.of.judged.verdicts key.recipient uid verdict)

-- and a message that is there has the text of a message that was handed over, where its entry is of this connection
whose_text : (g : Joined) (serial : ℕ) (messages : List Handed) (h : KnowsPart g serial messages) (mailbox uid : ℕ) (text : Text) → (from : IsFrom g mailbox uid text)
    → from.key.seat ≡ g.seat → from.key.serial ≡ serial
    → (k : ℕ) × (h.number k ≡ Some from.key.message) × IsTextOf (message_at messages k) text
whose_text g serial messages h mailbox uid text from seat of_serial =
    let own = from.own seat in
    let j : Judged = own.0 in
    let in_part : slice_get (part_at (parts_in g) serial) from.key.message ≡ Some j = ap (λ (x : ℕ). slice_get (part_at (parts_in g) x) from.key.message) (sym of_serial) ∙ own.1 in
    let k = h.each from.key.message j.message (at_map (λ (x : Judged). x.message) (part_at (parts_in g) serial) from.key.message j in_part) in
    let is = read_message g serial messages h k.0 from.key.message j k.1 in_part in
    (k.0, k.1, record { sender = is.sender; from = is.from; is = own.2 ∙ is.text })

-- ---- of a front

pub same_text : (a b : Handed) (text : Text) → IsSame a b → IsTextOf b text → IsTextOf a text
same_text a b text s t = record {
  sender = t.sender;
  from = subst (λ (m : List ℕ). IsSender m t.sender) (sym s.mail) t.from;
  is = t.is ∙ ap (λ (lines : List (List ℕ)). undated (stored_text t.sender lines)) (sym s.lines);
}

-- where just one copy was accepted under a UID, the text with it is that copy's
text_alone : (g : Joined) → TakenIsItsOwn g.seat g.copies g.said → (serial : ℕ) (messages : List Handed) (h : KnowsPart g serial messages) (k n i mailbox uid : ℕ) → h.number k ≡ Some n
    → with_uid uid (entries_at g mailbox) ≡ (key_at g.seat serial n i, uid) ∷ [] → (text : Text) → Contains (slice_index_or g.texts mailbox []) (uid, text) → IsTextOf (message_at messages k) text
text_alone g own serial messages h k n i mailbox uid e alone text there =
    let from = text_from g own mailbox uid text there in
    let under : Contains (with_uid uid (entries_at g mailbox)) (from.key, uid) =
    kept (λ (pair : CopyKey × ℕ). pair.1 == uid) (entries_at g mailbox) (from.key, uid) from.entry ((Decides-eqb uid uid).1 refl) in
    let only : Contains ((key_at g.seat serial n i, uid) ∷ []) (from.key, uid) = subst (λ (ps : List (CopyKey × ℕ)). Contains ps (from.key, uid)) alone under in
    let key : from.key ≡ key_at g.seat serial n i = ap (λ (p : CopyKey × ℕ). p.0) (sym (the_one (key_at g.seat serial n i, uid) (from.key, uid) only)) in
    let w = whose_text g serial messages h mailbox uid text from (ap (λ (x : CopyKey). x.seat) key) (ap (λ (x : CopyKey). x.serial) key) in
    let same : w.0 ≡ k = one_number g.house.directory messages _ _ h w.0 k from.key.message n w.1 e (ap (λ (x : CopyKey). x.message) key) in
    subst (λ (x : ℕ). IsTextOf (message_at messages x) text) same w.2

the_first : {A : Type 0} (x : A) → Contains (x ∷ []) x
the_first x = (0, omega arith, refl)

front_stored : (laws : Grounds) (g : Joined) → DoUidsRise g.accepted → TakenIsItsOwn g.seat g.copies g.said → (serial : ℕ) → serial < length g.connections
    → (messages known : List Handed) (h : KnowsPart g serial messages) → AreCut known messages
    → (k i : ℕ) → is_taken (message_at known k) i ≡ true
    → (n : ℕ) × (h.number k ≡ Some n) × IsStored g.house.directory g.accepted g.texts (key_at g.seat serial n i) (message_at known k) i
front_stored laws g rise own serial under messages known h c k i t =
    let t_all : is_taken (message_at messages k) i ≡ true = front_taken laws.stays known messages c k i t in
    let n = h.taken k i t_all in
    let is = had g serial under messages h k n.0 i n.1 t_all in
    let same : IsSame (message_at known k) (message_at messages k) = front_same c k (taken_there known k i t) in
    let stands : Contains (entries_at g is.mailbox) (key_at g.seat serial n.0 i, is.uid) =
    (unkept (λ (pair : CopyKey × ℕ). is_key pair.0 (key_at g.seat serial n.0 i)) (entries_at g is.mailbox) (key_at g.seat serial n.0 i, is.uid)
    (subst (λ (ps : List (CopyKey × ℕ)). Contains ps (key_at g.seat serial n.0 i, is.uid)) (sym is.once.here) (the_first (key_at g.seat serial n.0 i, is.uid)))).0 in
    let alone = uids_alone (entries_at g is.mailbox) (rise is.mailbox) (key_at g.seat serial n.0 i) is.uid stands in (
      n.0,
      n.1,
      record {
        mailbox = is.mailbox;
        there = is.there;
        names = subst (λ (rs : List (List ℕ)). Names g.house.directory (slice_index_or rs i []) is.mailbox) (sym same.recipients) is.names;
        uid = is.uid;
        once = is.once;
        alone = alone;
        text = λ text there. same_text (message_at known k) (message_at messages k) text same (text_alone g own serial messages h k n.0 i is.mailbox is.uid n.1 alone text there);
      },
    )

-- ---- a connection, and all

connection_concludes : (laws : Grounds) (g : Joined) → DoUidsRise g.accepted → TakenIsItsOwn g.seat g.copies g.said → IsInLine g.house.host → (serial : ℕ) → serial < length g.connections → (more : List ℕ)
    → ConnectionConcludes g.house.directory g.seat serial (slice_index_or g.connections serial [] ++ more) (slice_index_or g.replies serial []) g.accepted g.texts
connection_concludes laws g rise own i serial under more =
    let sent : List ℕ = slice_index_or g.connections serial [] ++ more in
    let replied : List ℕ = slice_index_or g.replies serial [] in
    let messages : List Handed = handed_over sent replied in
    let h : KnowsPart g serial messages = knows_part laws g i serial under more in
    let front : (told untold : List ℕ) → told ++ untold ≡ replied → AreCut (handed_over sent told) messages =
    λ told untold e. subst (λ (all : List ℕ). AreCut (handed_over sent told) (handed_over sent all)) e (laws.fronts sent told untold) in
    record {
      number = h.number;
      rises = h.rises;
      taken = λ told untold e k r t. front_stored laws g rise own serial under messages (handed_over sent told) h (front told untold e) k r t;
      refused = λ told untold e k r u f n num.
          not_had g serial messages h k n r num (sym (front_read laws.stays (handed_over sent told) messages (front told untold e) k r u) ∙ f);
      answered = h.answered;
      different = λ k m a b r s ea eb same.
          (one_number g.house.directory messages _ _ h k m a b ea eb (ap (λ (x : CopyKey). x.message) same), ap (λ (x : CopyKey). x.recipient) same);
      nothing_else = λ mailbox uid key there seat of_serial. whose g serial messages h mailbox uid key there seat of_serial;
      texts_are = λ mailbox uid text there.
          (let from = text_from g own mailbox uid text there in
          (from.key, from.entry, λ seat of_serial. whose_text g serial messages h mailbox uid text from seat of_serial));
    }

pub accounts_conclude : (laws : Grounds) → AccountsConclude
accounts_conclude laws house seat connections replies heard said all logs copies accepted texts i under account lists rise own =
    let g : Joined = record {
      house = house;
      seat = seat;
      connections = connections;
      replies = replies;
      heard = heard;
      said = said;
      whole = all;
      logs = logs;
      copies = copies;
      accepted = accepted;
      texts = texts;
      under = under;
      account = account;
      lists = lists;
    } in
    record {
      replied = account.dialogues.as_many_replies;
      each = λ serial below more. connection_concludes laws g rise own i serial below more;
      nothing_else = λ mailbox uid key there of_seat.
          (let e = entered g mailbox uid key there of_seat in subst (λ (k : CopyKey). k.serial < length connections) e.stored.key_is e.of.serial);
      in_order = stands_in_order g;
    }

-- ---- shards that were closed

pub accounts_keep_closed : (closed : ClosedGetNothing) → AccountsKeepClosed
accounts_keep_closed closed house seat connections replies heard said all logs copies accepted texts some under account lists mailbox uid key there of_seat =
    let g : Joined = record {
      house = house;
      seat = seat;
      connections = connections;
      replies = replies;
      heard = heard;
      said = said;
      whole = all;
      logs = logs;
      copies = copies;
      accepted = accepted;
      texts = texts;
      under = under;
      account = account;
      lists = lists;
    } in
    let e = entered g mailbox uid key there of_seat in
    let serial : ℕ = e.noted.key.serial in
    let IsOpen : ℕ → Type 0 = λ box. list_any (is_closed_by serial (shard_of house.directory box)) (closings_of house seat) ≡ false in
    let part : List Judged = part_at (parts_in g) serial in
    let each : All (λ (j : Judged). All IsOpen j.message.mailboxes) part = closed house seat serial _ _ part (account.dialogues.each serial e.of.serial) some in
    let one : All IsOpen e.of.judged.message.mailboxes =
    All-contains (λ (j : Judged). All IsOpen j.message.mailboxes) part e.of.judged each (at_contains part e.noted.key.message e.of.judged e.of.there) in
    let box : IsOpen e.noted.mailbox =
    All-contains IsOpen e.of.judged.message.mailboxes e.noted.mailbox one (at_contains e.of.judged.message.mailboxes e.noted.key.recipient e.noted.mailbox e.of.mailbox) in
    subst (λ (n : ℕ). list_any (is_closed_by n (shard_of house.directory mailbox)) (closings_of house seat) ≡ false) (ap (λ (k : CopyKey). k.serial) e.stored.key_is)
    (subst IsOpen e.stored.mailbox_is box)
