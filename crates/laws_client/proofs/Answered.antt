-- Turn by turn: to which verdicts the answers of a session were said, and that those are on its messages one after the other.
use Rattle.std.proofs.Common.{◌≡◌, ◌⊎◌, inl, inr, ℕ, ◌<◌, ◌≤◌, List, [], ◌∷◌, ◌++◌, Contains, refl, sym, ap, ◌∙◌, subst, arith, append-nil, Option, Some, None, length, length-append}
use Rattle.std.specs.Prelude.{filter_map, IfSome}
use Rattle.std.proofs.lemmas.List.Elements.{filter_map-append}
use Rattle.std.proofs.lemmas.Option.{none-some}
use Rattle.delivery_token.specs.Keys.{Below}
use Rattle.delivery_token.specs.Text.{Text}
use Rattle.delivery_token.specs.declared.CopyKey.{CopyKey}
use Rattle.delivery_token.specs.declared.Verdict.{Verdict}
use Rattle.delivery_token.specs.declared.log.Noted.{Noted}
use Rattle.world.specs.World.{Config, World}
use Rattle.world.proofs.Base.{Every, Rising, every_append, every_weaker, rising_push}
use Rattle.imap_session.specs.Exchange.{Answer, PendingLiteral, ForDone, ForLiteral, ForNothing, ForVerdict, Mailing, Sent, Standing, Turn, Waiting, waiting, Batch, Client, Copied, Origin}
use Rattle.imap_session.specs.Commands.{on_verdict, turn_of, turn_with, without_sent, copies_of, with_copy}
use Rattle.imap_session.specs.Store.{IdleTurns, Met}
use Rattle.house_peers.proofs.Rising.{NumbersRise, idles_keep, then_rises}
use Rattle.imap_session.specs.Happenings.{Happening, Heard, IsPrinted, IsSentFor, Line, Literal, LongLine, Told, Turned, VerdictsArePrinted, bytes_in, leads_to, told_line, told_of, whole_line}
use Rattle.laws_client.proofs.Folders.{line_stays}
use Rattle.laws_client.proofs.IdleTags.{AreTagsOf, Keeps, played_keeps}
use Rattle.laws_client.proofs.Talking.{happening_keeps_so}
use Rattle.laws_client.proofs.Turns.{the_turn}
use Rattle.laws_client.specs.Appends.{CameAs, SaysVerdict, TellsOfNone, as_it_is, CameBy, IsCopyOf}
use Rattle.laws_client.proofs.Out.{Fate, copy_of}
use Rattle.laws_client.proofs.Submitted.{ComesInTurn, IsBegunAs, Mailed, mail_turn, sent_more, copied_more}
use Rattle.laws_client.proofs.LastLines.{IsWord}
use Rattle.laws_client.proofs.LastTurns.{SaysSent, turn_tells}
use Rattle.laws_client.proofs.Moved.{Calls}
use Rattle.change_ring.specs.declared.change.Flags.{Flags}
use Rattle.mailbox.specs.declared.clients.Row.{Row}
use Rattle.delivery_token.specs.declared.Verdict.TheVariants.{Stored}
use Rattle.laws_client.proofs.Firsts.{StartsNew, line_starts}
use Rattle.laws_client.proofs.Waiting.{ForTheNext, IsMail, IsNext as IsNextMessage, verdict_mail}

-- ---- numbers of messages

numbers_wait : (base : Mailing) (tag : List ℕ) (now : Standing) (w : Waiting) → NumbersRise base now.mailing → NumbersRise base (waiting tag w now).mailing
numbers_wait base tag now ForDone k = k
numbers_wait base tag now (ForLiteral coming purpose size) k = k
numbers_wait base tag now (ForVerdict origin mailbox flags text) k = then_rises base now.mailing (waiting tag (ForVerdict origin mailbox flags text) now).mailing k (
  omega arith,
  λ s is. let e : record { tag = tag; append = record { message = now.mailing.number; mailbox = mailbox; text = text; flags = flags }; origin = origin } ≡ s = cc in let m : now.mailing.number ≡ s.append.message = ap (λ (x : Sent). x.append.message) e in
      inr (omega (arith, m), omega (arith, m)),
)
numbers_wait base tag now ForNothing k = k

numbers_keep : (base : Mailing) (tag : List ℕ) → Keeps (λ (s : Standing). NumbersRise base s.mailing) tag
numbers_keep base tag = record { ends = λ now k. k; enters = λ now selected k. k; waits = numbers_wait base tag }

same_numbers : (now : Mailing) → NumbersRise now now
same_numbers now = (omega arith, λ s is. inl is)

line_rises : (now : Standing) (line : List ℕ) (answers : List Answer) (turn : Turn) → turn_of now line answers ≡ Some turn → NumbersRise now.mailing turn.standing.mailing
line_rises now line answers turn e =
    line_stays (λ (s : Standing). NumbersRise now.mailing s.mailing) (numbers_keep now.mailing) now line answers turn (same_numbers now.mailing) (same_numbers now.mailing) (same_numbers now.mailing) e

turned_keeps : (k : Config) (n : ℕ) (now : Standing) (answers : List Answer) (w : World) (turn : Turn) (v : World) → leads_to now (Turned answers) ≡ Some turn → Met (Calls k n) w turn.events v → turn.standing.mailing ≡ now.mailing
turned_keeps k n now answers w turn v e met =
    let i : IdleTurns (Calls k n) now w v [] turn.bytes _ turn.standing = record { answers = answers; events = turn.events; bytes = turn.bytes; how = turn.after; played = e; met = met; wrote = refl; shown = refl } in
    idles_keep (Calls k n) now w v [] turn.bytes _ turn.standing i

turned_rises : (k : Config) (n : ℕ) (now : Standing) (answers : List Answer) (w : World) (turn : Turn) (v : World) → leads_to now (Turned answers) ≡ Some turn → Met (Calls k n) w turn.events v → NumbersRise now.mailing turn.standing.mailing
turned_rises k n now answers w turn v e met =
    let i : IdleTurns (Calls k n) now w v [] turn.bytes _ turn.standing = record { answers = answers; events = turn.events; bytes = turn.bytes; how = turn.after; played = e; met = met; wrote = refl; shown = refl } in
    subst (λ (m : Mailing). NumbersRise now.mailing m) (sym (idles_keep (Calls k n) now w v [] turn.bytes _ turn.standing i)) (same_numbers now.mailing)

heard_rises : (now : Standing) (verdict : Verdict) (sent : Sent) (answers : List Answer) (turn : Turn) → turn_with (Some sent) now verdict answers ≡ Some turn → NumbersRise (without_sent now).mailing turn.standing.mailing
heard_rises now verdict sent answers turn e =
    played_keeps (λ (s : Standing). NumbersRise (without_sent now).mailing s.mailing) sent.tag (numbers_keep (without_sent now).mailing sent.tag) (without_sent now) (on_verdict now.mailing now.selected sent.origin sent.append.mailbox verdict) answers turn
    (same_numbers (without_sent now).mailing) e

-- ---- what is known of a session's answers

-- how a session came: how it stood, at which seat, under which serial
pub record Came : Type 0 where
  pub standing : Standing
  pub seat : ℕ
  pub serial : ℕ

abbrev key_of : Came → Sent → CopyKey
key_of first sent = record { seat = first.seat; serial = first.serial; message = sent.append.message; recipient = 0 }

-- this verdict on a message of it is known so
abbrev pub HasHeard : Came → (Noted → Sent → Type 0) → Verdict → Sent → Type 0
HasHeard first notes verdict sent = (mailbox : ℕ) × notes (record { key = record { seat = first.seat; serial = first.serial; message = sent.append.message; recipient = 0 }; mailbox = mailbox; verdict = verdict }) sent

-- in this world its seat has heard so, and the copy of the message is out, or was refused
abbrev pub KnownAt : Config → Came → World → Noted → Sent → Type 0
KnownAt k first w noted message = Contains (w.heard first.seat) noted × Fate k w first.seat (copy_of first.seat first.serial message)

-- a verdict that it answers can be printed, and its seat has heard that
abbrev pub VerdictSo : Config → Came → World → Standing → Happening → Type 0
VerdictSo k first w now (Heard verdict answers) = IsPrinted verdict × IfSome now.mailing.sent (HasHeard first (KnownAt k first w) verdict)
VerdictSo k first w now happening = Unit {0}

-- and what comes comes in its turn
abbrev pub HappensSo : Config → Came → World → Standing → Happening → Type 0
HappensSo k first w now happening = ComesInTurn now happening × VerdictSo k first w now happening

verdict_printed : (k : Config) (first : Came) (w : World) (now : Standing) (happening : Happening) → VerdictSo k first w now happening → VerdictsArePrinted happening
verdict_printed k first w now (Heard verdict answers) h = h.0
verdict_printed k first w now (Line line answers) h = tt
verdict_printed k first w now LongLine h = tt
verdict_printed k first w now (Turned answers) h = tt
verdict_printed k first w now (Literal kept bytes) h = tt

pub so_printed : (k : Config) (first : Came) (w : World) (now : Standing) (happening : Happening) → HappensSo k first w now happening → VerdictsArePrinted happening
so_printed k first w now happening h = verdict_printed k first w now happening h.1

-- An earlier copy of a batch was noted, of the message behind those of which these copies were stored: under this UID.
pub record Earlier (first : Came) (sent : List ℕ) (notes : Noted → Sent → Type 0) (last : Sent) (batch : Batch) (copies : List ℕ) (uid : ℕ) : Type 0 where
  pub noted : Noted
  pub message : Sent
  pub rest : List Row
  pub heard : notes noted message
  pub seat : noted.key.seat ≡ first.seat
  pub own : noted.key.serial ≡ first.serial
  pub number : noted.key.message ≡ message.append.message
  pub key : noted.key ≡ (copy_of first.seat first.serial message).key
  pub origin : message.origin ≡ Copied (record batch { left = rest; copies = copies })
  pub came : IsCopyOf first.standing.folders sent message (record batch { left = rest; copies = copies })
  pub before : message.append.message < last.append.message
  pub under : message.tag ≡ last.tag
  pub named : message.append.mailbox ≡ last.append.mailbox
  pub stored : noted.verdict ≡ Stored uid

-- of a message of a batch, each of the copies that are stored
abbrev pub EarlierNoted : Came → (sent : List ℕ) → (Noted → Sent → Type 0) → Sent → Origin → Type 0
EarlierNoted first sent notes last Client = Unit {0}
EarlierNoted first sent notes last (Copied batch) =
    (copies : List ℕ) (uid : ℕ) (behind : List ℕ) → batch.copies ≡ copies ++ uid ∷ behind → Earlier first sent notes last batch copies uid

earlier_more : (first : Came) (sent bytes : List ℕ) (notes more : Noted → Sent → Type 0) → ((n : Noted) (m : Sent) → notes n m → more n m) → (last : Sent) (origin : Origin)
    → EarlierNoted first sent notes last origin → EarlierNoted first (sent ++ bytes) more last origin
earlier_more first sent bytes notes more grows last Client h = tt
earlier_more first sent bytes notes more grows last (Copied batch) h = λ copies uid behind is. let e = h copies uid behind is in record {
  noted = e.noted;
  message = e.message;
  rest = e.rest;
  heard = grows e.noted e.message e.heard;
  seat = e.seat;
  own = e.own;
  number = e.number;
  key = e.key;
  origin = e.origin;
  came = copied_more first.standing.folders sent bytes e.message (record batch { left = e.rest; copies = copies }) e.came;
  before = e.before;
  under = e.under;
  named = e.named;
  stored = e.stored;
}

-- of the first message of a command there is none
none_earlier : (first : Came) (sent : List ℕ) (notes : Noted → Sent → Type 0) (last : Sent) (origin : Origin) → copies_of origin ≡ [] → EarlierNoted first sent notes last origin
none_earlier first sent notes last Client none = tt
none_earlier first sent notes last (Copied batch) none =
    λ copies uid behind is. absurd (omega (arith, ap (length {A = ℕ}) (sym none ∙ is), length-append copies (uid ∷ behind)))

-- these bytes were said to the verdict on a copy of it, of a message that its client sent
pub record Noting (uidvalidity : ℕ) (first : Came) (sent : List ℕ) (notes : Noted → Sent → Type 0) (bytes : List ℕ) (noted : Noted) : Type 0 where
  pub seat : noted.key.seat ≡ first.seat
  pub own : noted.key.serial ≡ first.serial
  pub message : Sent
  pub heard : notes noted message
  pub number : noted.key.message ≡ message.append.message
  pub key : noted.key ≡ (copy_of first.seat first.serial message).key
  pub came : CameAs first.standing.folders sent message
  pub chosen : IsWord message.tag
  pub says : SaysVerdict uidvalidity message.origin message.tag noted.verdict bytes
  pub earlier : EarlierNoted first sent notes message message.origin

abbrev pub IsNoted : (uidvalidity : ℕ) → Came → (sent : List ℕ) → (Noted → Sent → Type 0) → List ℕ → Option Noted → Type 0
IsNoted uidvalidity first sent notes bytes None = TellsOfNone bytes
IsNoted uidvalidity first sent notes bytes (Some noted) = Noting uidvalidity first sent notes bytes noted

abbrev pub AreNoted : (uidvalidity : ℕ) → Came → (sent : List ℕ) → (Noted → Sent → Type 0) → List Told → List (Option Noted) → Type 0
AreNoted uidvalidity first sent notes [] [] = Unit {0}
AreNoted uidvalidity first sent notes [] (verdict ∷ verdicts) = ⊥
AreNoted uidvalidity first sent notes (one ∷ told) [] = ⊥
AreNoted uidvalidity first sent notes (one ∷ told) (verdict ∷ verdicts) = IsNoted uidvalidity first sent notes (bytes_in one) verdict × AreNoted uidvalidity first sent notes told verdicts

noted_append : (u : ℕ) (first : Came) (sent : List ℕ) (notes : Noted → Sent → Type 0) (told more : List Told) (verdicts others : List (Option Noted)) → AreNoted u first sent notes told verdicts → AreNoted u first sent notes more others
    → AreNoted u first sent notes (told ++ more) (verdicts ++ others)
noted_append u first sent notes [] more [] others h k = k
noted_append u first sent notes [] more (v ∷ vs) others h k = absurd h
noted_append u first sent notes (t ∷ ts) more [] others h k = absurd h
noted_append u first sent notes (t ∷ ts) more (v ∷ vs) others h k = (h.0, noted_append u first sent notes ts more vs others h.1 k)

one_more : (u : ℕ) (first : Came) (sent bytes : List ℕ) (notes more : Noted → Sent → Type 0) → ((n : Noted) (m : Sent) → notes n m → more n m) → (said : List ℕ) (verdict : Option Noted) → IsNoted u first sent notes said verdict
    → IsNoted u first (sent ++ bytes) more said verdict
one_more u first sent bytes notes more grows said None h = h
one_more u first sent bytes notes more grows said (Some n) h = record {
  seat = h.seat;
  own = h.own;
  heard = grows n h.message h.heard;
  message = h.message;
  number = h.number;
  key = h.key;
  came = sent_more first.standing.folders sent bytes h.message h.came;
  chosen = h.chosen;
  says = h.says;
  earlier = earlier_more first sent bytes notes more grows h.message h.message.origin h.earlier;
}

-- what its seat has heard stays heard, and what its client has sent stays sent
pub still_noted : (u : ℕ) (first : Came) (sent bytes : List ℕ) (notes more : Noted → Sent → Type 0) → ((n : Noted) (m : Sent) → notes n m → more n m) → (told : List Told) (verdicts : List (Option Noted)) → AreNoted u first sent notes told verdicts
    → AreNoted u first (sent ++ bytes) more told verdicts
still_noted u first sent bytes notes more grows [] [] h = h
still_noted u first sent bytes notes more grows [] (v ∷ vs) h = absurd h
still_noted u first sent bytes notes more grows (t ∷ ts) [] h = absurd h
still_noted u first sent bytes notes more grows (t ∷ ts) (v ∷ vs) h = (one_more u first sent bytes notes more grows (bytes_in t) v h.0, still_noted u first sent bytes notes more grows ts vs h.1)

-- in the order of their keys
abbrev pub InTurn : Noted → Noted → Type 0
InTurn a b = Below a.key b.key

-- of this session, and below the number of its next message
abbrev IsBefore : Came → ℕ → Noted → Type 0
IsBefore first number n = (n.key.serial ≡ first.serial) × (n.key.message < number)

-- each message that was answered is before the one that waits for its verdict, which is before the next
abbrev IsNext : Came → Mailing → List Noted → Type 0
IsNext first mailing answered = (s : Sent) → mailing.sent ≡ Some s → Every (IsBefore first s.append.message) answered × (s.append.message < mailing.number)

-- What is known of all that a session was told so far.
pub record Notes (u : ℕ) (first : Came) (sent : List ℕ) (told : List Told) (now : Standing) (notes : Noted → Sent → Type 0) : Type 0 where
  pub verdicts : List (Option Noted)
  pub each : AreNoted u first sent notes told verdicts
  pub tags : AreTagsOf IsWord now
  pub mail : Mailed first.standing.folders sent now
  pub order : Rising InTurn (filter_map as_it_is verdicts)
  pub before : Every (IsBefore first now.mailing.number) (filter_map as_it_is verdicts)
  pub next : IsNext first now.mailing (filter_map as_it_is verdicts)
  pub earlier : (s : Sent) → now.mailing.sent ≡ Some s → EarlierNoted first sent notes s s.origin

pub no_notes : (u : ℕ) (first : Came) (notes : Noted → Sent → Type 0) → AreTagsOf IsWord first.standing → first.standing.mailing.begun ≡ None → first.standing.mailing.sent ≡ None → Notes u first [] [] first.standing notes
no_notes u first notes tags unbegun none = record {
  verdicts = [];
  each = tt;
  tags = tags;
  mail = record {
    same = refl;
    begun = subst (λ (o : Option PendingLiteral). IfSome o (IsBegunAs first.standing.folders [])) (sym unbegun) tt;
    waits = subst (λ (o : Option Sent). IfSome o (CameAs first.standing.folders [])) (sym none) tt;
  };
  order = tt;
  before = tt;
  next = λ s is. absurd (none-some s (sym none ∙ is));
  earlier = λ s is. absurd (none-some s (sym none ∙ is));
}

pub notes_later : (u : ℕ) (first : Came) (sent : List ℕ) (told : List Told) (now : Standing) (notes more : Noted → Sent → Type 0) → ((n : Noted) (m : Sent) → notes n m → more n m) → Notes u first sent told now notes → Notes u first sent told now more
notes_later u first sent told now notes more grows t = record {
  verdicts = t.verdicts;
  each = subst (λ (x : List ℕ). AreNoted u first x more told t.verdicts) (append-nil sent) (still_noted u first sent [] notes more grows told t.verdicts t.each);
  tags = t.tags;
  mail = t.mail;
  order = t.order;
  before = t.before;
  next = t.next;
  earlier = λ s is. subst (λ (x : List ℕ). EarlierNoted first x more s s.origin) (append-nil sent) (earlier_more first sent [] notes more grows s s.origin (t.earlier s is));
}

-- ---- one more

lower : (first : Came) (a b : ℕ) → a ≤ b → (n : Noted) → IsBefore first a n → IsBefore first b n
lower first a b l n h = let m = h.1 in (h.0, omega (arith, l, m))

-- an answer that was said to no verdict
silent_turn : (u : ℕ) (first : Came) (sent bytes : List ℕ) (told : List Told) (one : Told) (now next : Standing) (notes : Noted → Sent → Type 0) → Notes u first sent told now notes → TellsOfNone (bytes_in one) → AreTagsOf IsWord next
    → Mailed first.standing.folders (sent ++ bytes) next → NumbersRise now.mailing next.mailing
    → StartsNew now.mailing next.mailing → Notes u first (sent ++ bytes) (told ++ one ∷ []) next notes
silent_turn u first sent bytes told one now next notes t none tags mail rises starts =
    let same : filter_map as_it_is (t.verdicts ++ None ∷ []) ≡ filter_map as_it_is t.verdicts = filter_map-append as_it_is t.verdicts (None ∷ []) ∙ append-nil (filter_map as_it_is t.verdicts) in
    let later : Every (IsBefore first next.mailing.number) (filter_map as_it_is t.verdicts) =
    every_weaker (IsBefore first now.mailing.number) (IsBefore first next.mailing.number) (lower first now.mailing.number next.mailing.number rises.0) (filter_map as_it_is t.verdicts) t.before in record {
      verdicts = t.verdicts ++ None ∷ [];
      each = noted_append u first (sent ++ bytes) notes told (one ∷ []) t.verdicts (None ∷ []) (still_noted u first sent bytes notes notes (λ n m c. c) told t.verdicts t.each) (none, tt);
      tags = tags;
      mail = mail;
      order = subst (Rising InTurn) (sym same) t.order;
      before = subst (Every (IsBefore first next.mailing.number)) (sym same) later;
      next = λ s is. subst (λ (answered : List Noted). Every (IsBefore first s.append.message) answered × (s.append.message < next.mailing.number)) (sym same) (by s (rises.1 s is));
      earlier = λ s is. begun s is starts;
    }
  where
    begun : (s : Sent) → next.mailing.sent ≡ Some s → StartsNew now.mailing next.mailing → EarlierNoted first (sent ++ bytes) notes s s.origin
    begun s is (inl e) = earlier_more first sent bytes notes notes (λ n m c. c) s s.origin (t.earlier s (sym e ∙ is))
    begun s is (inr first_one) = none_earlier first (sent ++ bytes) notes s s.origin (first_one s is)

    by : (s : Sent) → (now.mailing.sent ≡ Some s) ⊎ ((now.mailing.number ≤ s.append.message) × (s.append.message < next.mailing.number))
        → Every (IsBefore first s.append.message) (filter_map as_it_is t.verdicts) × (s.append.message < next.mailing.number)
    by s (inl e) = let x = t.next s e in let a = x.1 in let b = rises.0 in (x.0, omega (arith, a, b))
    by s (inr r) = (every_weaker (IsBefore first now.mailing.number) (IsBefore first s.append.message) (lower first now.mailing.number s.append.message r.0) (filter_map as_it_is t.verdicts) t.before, r.1)

-- what ends in one more, cut at some place: there, or before
split_last : (xs : List ℕ) (x : ℕ) (front : List ℕ) (y : ℕ) (rest : List ℕ) → xs ++ x ∷ [] ≡ front ++ y ∷ rest → ((front ≡ xs) × (y ≡ x)) ⊎ ((more : List ℕ) × (xs ≡ front ++ y ∷ more))
split_last [] x [] y rest e = inl (refl, cc)
split_last [] x (f ∷ front) y rest e = absurd (omega (arith, ap (length {A = ℕ}) e, length-append front (y ∷ rest)))
split_last (a ∷ xs) x [] y rest e = inr (xs, cc)
split_last (a ∷ xs) x (f ∷ front) y rest e = by (split_last xs x front y rest cc)
  where
    head : a ≡ f
    head = cc

    by : ((front ≡ xs) × (y ≡ x)) ⊎ ((more : List ℕ) × (xs ≡ front ++ y ∷ more)) → ((f ∷ front ≡ a ∷ xs) × (y ≡ x)) ⊎ ((more : List ℕ) × (a ∷ xs ≡ (f ∷ front) ++ y ∷ more))
    by (inl (same, last)) = inl (ap (λ (b : ℕ). b ∷ front) (sym head) ∙ ap (λ (l : List ℕ). a ∷ l) same, last)
    by (inr (more, same)) = inr (more, ap (λ (b : ℕ). b ∷ xs) head ∙ ap (λ (l : List ℕ). f ∷ l) same)

-- the next message of a batch, behind one whose copy was stored
next_earlier : (first : Came) (sent : List ℕ) (notes : Noted → Sent → Type 0) (message : Sent) (verdict : Verdict) (number to : ℕ) (flags : Flags) (text : Text) (origin : Origin) → CameAs first.standing.folders sent message
    → HasHeard first notes verdict message → EarlierNoted first sent notes message message.origin → message.append.message < number → to ≡ message.append.mailbox → IsNextMessage message.origin verdict origin flags text
    → EarlierNoted first sent notes (record { tag = message.tag; append = record { message = number; mailbox = to; text = text; flags = flags }; origin = origin }) origin
next_earlier first sent notes message verdict number to flags text origin came heard earlier above same n =
    subst (λ (o : Origin). EarlierNoted first sent notes next o) (sym n.is) (λ copies uid behind e. by copies uid (split_last n.batch.copies n.uid copies uid behind e))
  where
    next : Sent
    next = record { tag = message.tag; append = record { message = number; mailbox = to; text = text; flags = flags }; origin = origin }

    batch : Batch
    batch = record (with_copy n.uid n.batch) { left = n.left }

    older : EarlierNoted first sent notes message (Copied n.batch)
    older = subst (λ (o : Origin). EarlierNoted first sent notes message o) n.was earlier

    own : IsCopyOf first.standing.folders sent message n.batch
    own = subst (λ (o : Origin). CameBy o first.standing.folders sent message) n.was came

    by : (copies : List ℕ) (uid : ℕ) → ((copies ≡ n.batch.copies) × (uid ≡ n.uid)) ⊎ ((more : List ℕ) × (n.batch.copies ≡ copies ++ uid ∷ more)) → Earlier first sent notes next batch copies uid
    by copies uid (inl (all, last)) = record {
      noted = record { key = record { seat = first.seat; serial = first.serial; message = message.append.message; recipient = 0 }; mailbox = heard.0; verdict = verdict };
      message = message;
      rest = n.batch.left;
      heard = heard.1;
      seat = refl;
      own = refl;
      number = refl;
      key = refl;
      origin = n.was ∙ ap (λ (x : List ℕ). Copied (record n.batch { copies = x })) (sym all);
      came = subst (λ (x : List ℕ). IsCopyOf first.standing.folders sent message (record n.batch { copies = x })) (sym all) own;
      before = above;
      under = refl;
      named = sym same;
      stored = n.stored ∙ ap (λ (x : ℕ). Stored x) (sym last);
    }
    by copies uid (inr (more, is)) = let e = older copies uid more is in record {
      noted = e.noted;
      message = e.message;
      rest = e.rest;
      heard = e.heard;
      seat = e.seat;
      own = e.own;
      number = e.number;
      key = e.key;
      origin = e.origin;
      came = e.came;
      before = omega (arith, e.before, above);
      under = e.under;
      named = e.named ∙ sym same;
      stored = e.stored;
    }

abbrev the_sent : Sent → Option Sent → Sent
the_sent d None = d
the_sent d (Some s) = s

-- nothing is awaited behind a verdict, or that message is
verdict_earlier : (first : Came) (sent : List ℕ) (notes : Noted → Sent → Type 0) (message : Sent) (verdict : Verdict) (now next : Standing) → CameAs first.standing.folders sent message
    → HasHeard first notes verdict message → EarlierNoted first sent notes message message.origin → message.append.message < now.mailing.number
    → IsMail (ForTheNext message.origin message.append.mailbox verdict) message.tag (without_sent now).mailing next.mailing
    → (s : Sent) → next.mailing.sent ≡ Some s → EarlierNoted first sent notes s s.origin
verdict_earlier first sent notes message verdict now next came heard earlier above (inl e) s is = absurd (none-some s (sym (ap (λ (x : Mailing). x.sent) e) ∙ is))
verdict_earlier first sent notes message verdict now next came heard earlier above (inr (ForDone, p, e)) s is = absurd p
verdict_earlier first sent notes message verdict now next came heard earlier above (inr (ForNothing, p, e)) s is = absurd p
verdict_earlier first sent notes message verdict now next came heard earlier above (inr (ForLiteral coming q size, p, e)) s is = absurd p
verdict_earlier first sent notes message verdict now next came heard earlier above (inr (ForVerdict origin to flags text, p, e)) s is =
    let new : Sent = record { tag = message.tag; append = record { message = now.mailing.number; mailbox = to; text = text; flags = flags }; origin = origin } in
    let same : new ≡ s = ap (the_sent s) (sym (ap (λ (x : Mailing). x.sent) e) ∙ is) in
    subst (λ (x : Sent). EarlierNoted first sent notes x x.origin) same
    (next_earlier first sent notes message verdict now.mailing.number to flags text origin came heard earlier above p.1 p.0)

-- one that was said to a verdict
verdict_turn : (u : ℕ) (first : Came) (sent bytes : List ℕ) (told : List Told) (one : Told) (message : Sent) (verdict : Verdict) (now next : Standing) (notes : Noted → Sent → Type 0) → Notes u first sent told now notes → now.mailing.sent ≡ Some message
    → IsWord message.tag → HasHeard first notes verdict message → SaysSent u verdict (bytes_in one) message → AreTagsOf IsWord next → Mailed first.standing.folders (sent ++ bytes) next → NumbersRise (without_sent now).mailing next.mailing
    → IsMail (ForTheNext message.origin message.append.mailbox verdict) message.tag (without_sent now).mailing next.mailing → Notes u first (sent ++ bytes) (told ++ one ∷ []) next notes
verdict_turn u first sent bytes told one message verdict now next notes t there word heard says tags mail rises waits =
    let own : CameAs first.standing.folders sent message = subst (λ (o : Option Sent). IfSome o (CameAs first.standing.folders sent)) there t.mail.waits in
    let noted : Noted = record { key = record { seat = first.seat; serial = first.serial; message = message.append.message; recipient = 0 }; mailbox = heard.0; verdict = verdict } in
    let answered : List Noted = filter_map as_it_is t.verdicts in
    let more : filter_map as_it_is (t.verdicts ++ Some noted ∷ []) ≡ answered ++ noted ∷ [] = filter_map-append as_it_is t.verdicts (Some noted ∷ []) in
    let here = t.next message there in
    let below : Every (λ n. InTurn n noted) answered = every_weaker (IsBefore first message.append.message) (λ n. InTurn n noted) (λ n h. inr (h.0, inl h.1)) answered here.0 in
    let old : Every (IsBefore first now.mailing.number) (answered ++ noted ∷ []) = every_append (IsBefore first now.mailing.number) answered (noted ∷ []) t.before ((refl, here.1), tt) in
    record {
      verdicts = t.verdicts ++ Some noted ∷ [];
      each = noted_append u first (sent ++ bytes) notes told (one ∷ []) t.verdicts (Some noted ∷ []) (still_noted u first sent bytes notes notes (λ n m c. c) told t.verdicts t.each)
          (record { seat = refl; own = refl; heard = heard.1; message = message; number = refl; key = refl; came = sent_more first.standing.folders sent bytes message own; chosen = word; says = says; earlier = earlier_more first sent bytes notes notes (λ n m c. c) message message.origin (t.earlier message there) }, tt);
      tags = tags;
      mail = mail;
      order = subst (Rising InTurn) (sym more) (rising_push InTurn answered noted t.order below);
      before = subst (Every (IsBefore first next.mailing.number)) (sym more)
          (every_weaker (IsBefore first now.mailing.number) (IsBefore first next.mailing.number) (lower first now.mailing.number next.mailing.number rises.0) (answered ++ noted ∷ []) old);
      next = λ s is. subst (λ (x : List Noted). Every (IsBefore first s.append.message) x × (s.append.message < next.mailing.number)) (sym more) (by s (answered ++ noted ∷ []) old (rises.1 s is));
      earlier = λ s is. earlier_more first sent bytes notes notes (λ n m c. c) s s.origin (verdict_earlier first sent notes message verdict now next own heard (t.earlier message there) here.1 waits s is);
    }
  where
    by : (s : Sent) (answered : List Noted) → Every (IsBefore first now.mailing.number) answered → (None ≡ Some s) ⊎ ((now.mailing.number ≤ s.append.message) × (s.append.message < next.mailing.number))
        → Every (IsBefore first s.append.message) answered × (s.append.message < next.mailing.number)
    by s answered old (inl e) = absurd (none-some s e)
    by s answered old (inr r) = (every_weaker (IsBefore first now.mailing.number) (IsBefore first s.append.message) (lower first now.mailing.number s.append.message r.0) answered old, r.1)

line_bytes : (whole : Option (List ℕ)) (bytes : List ℕ) → bytes_in (told_line whole bytes) ≡ bytes
line_bytes None bytes = refl
line_bytes (Some line) bytes = refl

pub told_bytes : (now : Standing) (happening : Happening) (bytes : List ℕ) → bytes_in (told_of now happening bytes) ≡ bytes
told_bytes now (Line line answers) bytes = line_bytes (whole_line now line) bytes
told_bytes now LongLine bytes = refl
told_bytes now (Turned answers) bytes = refl
told_bytes now (Literal kept bytes) b = refl
told_bytes now (Heard verdict answers) bytes = refl

-- a turn, whatever happens
pub notes_turn : (k : Config) (n : ℕ) (first : Came) (sent bytes : List ℕ) (told : List Told) (now : Standing) (w : World) (happening : Happening) (turn : Turn) (v : World) → Notes k.uidvalidity first sent told now (KnownAt k first w) → HappensSo k first w now happening
    → IsSentFor happening bytes → leads_to now happening ≡ Some turn → Met (Calls k n) w turn.events v → Notes k.uidvalidity first (sent ++ bytes) (told ++ told_of now happening turn.bytes ∷ []) turn.standing (KnownAt k first w)
notes_turn k n first sent bytes told now w (Line line answers) turn v t so for e met =
    silent_turn k.uidvalidity first sent bytes told (told_of now (Line line answers) turn.bytes) now turn.standing (KnownAt k first w) t
    (subst TellsOfNone (sym (told_bytes now (Line line answers) turn.bytes)) (turn_tells k n now (Line line answers) w turn v t.tags e met))
    (happening_keeps_so IsWord (λ tag word. word) now (Line line answers) turn t.tags e) (mail_turn k n first.standing.folders sent bytes now w (Line line answers) turn v t.mail so.0 for e met) (line_rises now line answers turn e) (line_starts now line answers turn e)
notes_turn k n first sent bytes told now w LongLine turn v t so for e met =
    silent_turn k.uidvalidity first sent bytes told (told_of now LongLine turn.bytes) now turn.standing (KnownAt k first w) t (turn_tells k n now LongLine w turn v t.tags e met)
    (happening_keeps_so IsWord (λ tag word. word) now LongLine turn t.tags e) (mail_turn k n first.standing.folders sent bytes now w LongLine turn v t.mail so.0 for e met) (subst (λ (s : Turn). NumbersRise now.mailing s.standing.mailing) (ap (the_turn turn) e) (same_numbers now.mailing))
    (inl (ap (λ (s : Turn). s.standing.mailing.sent) (sym (ap (the_turn turn) e))))
notes_turn k n first sent bytes told now w (Turned answers) turn v t so for e met =
    silent_turn k.uidvalidity first sent bytes told (told_of now (Turned answers) turn.bytes) now turn.standing (KnownAt k first w) t (turn_tells k n now (Turned answers) w turn v t.tags e met)
    (happening_keeps_so IsWord (λ tag word. word) now (Turned answers) turn t.tags e) (mail_turn k n first.standing.folders sent bytes now w (Turned answers) turn v t.mail so.0 for e met) (turned_rises k n now answers w turn v e met)
    (inl (ap (λ (m : Mailing). m.sent) (turned_keeps k n now answers w turn v e met)))
notes_turn k n first sent bytes told now w (Literal kept literal) turn v t so for e met =
    silent_turn k.uidvalidity first sent bytes told (told_of now (Literal kept literal) turn.bytes) now turn.standing (KnownAt k first w) t (turn_tells k n now (Literal kept literal) w turn v t.tags e met)
    (happening_keeps_so IsWord (λ tag word. word) now (Literal kept literal) turn t.tags e) (mail_turn k n first.standing.folders sent bytes now w (Literal kept literal) turn v t.mail so.0 for e met) (subst (λ (s : Turn). NumbersRise now.mailing s.standing.mailing) (ap (the_turn turn) e) (same_numbers now.mailing))
    (inl (ap (λ (s : Turn). s.standing.mailing.sent) (sym (ap (the_turn turn) e))))
notes_turn k n first sent bytes told now w (Heard verdict answers) turn v t so for e met = by now.mailing.sent refl
  where
    says : IfSome now.mailing.sent (SaysSent k.uidvalidity verdict turn.bytes)
    says = turn_tells k n now (Heard verdict answers) w turn v t.tags e met

    by : (o : Option Sent) → now.mailing.sent ≡ o → Notes k.uidvalidity first (sent ++ bytes) (told ++ told_of now (Heard verdict answers) turn.bytes ∷ []) turn.standing (KnownAt k first w)
    by None is = absurd (none-some turn (subst (λ (o : Option Sent). turn_with o now verdict answers ≡ Some turn) is e))
    by (Some message) is =
        verdict_turn k.uidvalidity first sent bytes told (told_of now (Heard verdict answers) turn.bytes) message verdict now turn.standing (KnownAt k first w) t is
        (subst (λ (o : Option Sent). IfSome o (λ (s : Sent). IsWord s.tag)) is t.tags.2)
        (subst (λ (o : Option Sent). IfSome o (HasHeard first (KnownAt k first w) verdict)) is so.1.1) (subst (λ (o : Option Sent). IfSome o (SaysSent k.uidvalidity verdict turn.bytes)) is says)
        (happening_keeps_so IsWord (λ tag word. word) now (Heard verdict answers) turn t.tags e) (mail_turn k n first.standing.folders sent bytes now w (Heard verdict answers) turn v t.mail so.0 for e met) (heard_rises now verdict message answers turn (subst (λ (o : Option Sent). turn_with o now verdict answers ≡ Some turn) is e))
        (verdict_mail message.tag (without_sent now) now.mailing now.selected message.origin message.append.mailbox verdict answers turn (subst (λ (o : Option Sent). turn_with o now verdict answers ≡ Some turn) is e))
