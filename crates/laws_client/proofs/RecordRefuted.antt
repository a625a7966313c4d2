-- What the definitions refuse: a list that is too short, a UID that is another's, events of the session's own, bytes that weren't answered so, a record that leaves out the greeting, two copies of one UID; an OK with another copy's UID, an OK without a verdict, two for one copy; a cut in the middle of an answer.
use Rattle.std.proofs.Common.{true, ◌≡◌, ◌≢◌, ℕ, ◌^◌, ◌<◌, inl, inr, List, [], ◌∷◌, ◌++◌, length, AllPairs, Contains, ap, ◌∙◌, sym, subst, refl, arith, length-append, ◌⊎◌}
use Rattle.std.proofs.lemmas.Bool.{false≢true}
use Rattle.std.specs.Prelude.{Some, None, codes, filter_map, flat_map}
use Rattle.delivery_token.specs.declared.Job.{Job}
use Rattle.delivery_token.specs.Keys.{Below}
use Rattle.delivery_token.specs.declared.Refusal.{Refusal}
use Rattle.delivery_token.specs.declared.Verdict.TheVariants.{Refused, Stored}
use Rattle.delivery_token.specs.declared.log.Noted.{Noted}
use Rattle.line_io.specs.Wire.{crlf}
use Rattle.world.specs.World.{Box, Feed, World, empty_world}
use Rattle.imap_session.specs.Exchange.{Answer as StoreAnswer, Origin, Client as FromClient, Batch, Copied, Sent, refusal_text}
use Rattle.imap_session.specs.Commands.{appended_words, greeting, copies_of, refused_text, with_copy}
use Rattle.imap_session.proofs.Telling.{words_tell_which}
use Rattle.house.specs.Setup.{Setup}
use Rattle.house.specs.Scene.{Scene, empty_scene}
use Rattle.house_peers.specs.Visitor.{SeatedVisitor}
use Rattle.laws_client.specs.Clients.{EndsWith, IsRight}
use Rattle.laws_client.specs.Client.{Client, Known, Messages}
use Rattle.imap_session.specs.Happenings.{IsSentFor, LongLine, Told, Turned, bytes_in}
use Rattle.laws_client.specs.Appends.{Author, IsAnswered, SaysVerdict, TellsKept, TellsOfAppends, as_it_is, copy_under, tells_stored, SaysRefused, IsEarlier, SaysOfBatch, all_stored, awaits_next, has_no_number}
use Rattle.laws_client.specs.Clients.{IsRightAbout}
use Rattle.laws_client.specs.Cuts.{Cutter, IsOneAnswer, ends, opens, CutsSo}
use Rattle.laws_client.proofs.Reading.{fresh}
use Rattle.laws_client.proofs.LastLines.{Apart, IsWord, apart_tells_none, refusal_apart, words_of_tags, silence_tells_none}
use Rattle.laws_client.proofs.LastRests.{no_apart}
use Rattle.laws_client.proofs.LastWords.{uid_spares}
use Rattle.exactly_once.specs.Promise.{Entry}
use Rattle.exactly_once.proofs.Going.{below_itself}
use Rattle.laws_client.specs.ClientRecords.{KeepsUp, KeptUp, began_by_then, first_words}
use Rattle.laws_client.specs.HouseClients.{first_standing}
use Rattle.laws_client.specs.Views.{NamesTheSame}
use Rattle.laws_client.specs.HouseClients.{IsOfOthers}
use Rattle.imap_session.specs.declared.standing.Profile.{Profile}
use Rattle.imap_session.specs.declared.standing.Profile.TheVariants.{Standard, Compatible}
use Rattle.imap_session.specs.Texts.{response_text}
use Rattle.mailbox.specs.declared.clients.Row.{Row}
use Rattle.mailbox.specs.declared.clients.MailFault.{MailFault}
use Rattle.mailbox.specs.declared.clients.MailFault.TheVariants.{Spent}

abbrev the_list : Messages → List Known
the_list None = []
the_list (Some list) = list

-- a list with no messages, of a mailbox with one
too_short : IsRightAbout (7 ∷ []) (Some fresh) → ⊥
too_short (list, is, right) = subst (λ (l : List Known). IsRight (7 ∷ []) l) (sym (ap (λ (c : Client). the_list c.messages) is)) right

-- a client that was told the UID of another message
another_uid : IsRight (7 ∷ []) (record { uid = Some 8; flags = None } ∷ []) → ⊥
another_uid right = absurd (omega (arith, right.0 8 refl))

-- a Feed of the session's own
its_own : IsOfOthers 3 (Feed 3 9) → ⊥
its_own h = h refl

-- bytes that a turn of an IDLE answered, and a line of one byte that was too long
idle_bytes : (answers : List StoreAnswer) → IsSentFor (Turned answers) (codes "a") → ⊥
idle_bytes answers e = absurd (omega (arith, ap length e))

short_line : IsSentFor LongLine (codes "a\r\n") → ⊥
short_line (line, many, uncut, e) = absurd (omega (arith, many, ap length e, length-append line crlf))

-- each greeting says something
greeting_some : (profile : Profile) → 0 < length (greeting profile)
greeting_some Standard = omega arith
greeting_some Compatible = omega arith

-- one that keeps up, and was never greeted: nothing was printed to it, and nothing is still to be printed
not_greeted : (k : Setup) (place : ℕ) (v : SeatedVisitor) (t : Scene) → v.session.unsaid ≡ [] → KeepsUp k [] place v t → ⊥
not_greeted k place v t none keeps = absurd (omega (arith, ap length keeps.printed, ap length none, length-append (first_words k []) (flat_map bytes_in keeps.told), greeting_some (first_standing k []).profile))

-- nor one that keeps up since another world than that in which it was let in
began_elsewhere : (k : Setup) (entries : List Entry) (place : ℕ) (v : SeatedVisitor) (t : Scene) (w : World) → w ≢ began_by_then place empty_world (empty_scene k) entries → (keeps : KeepsUp k entries place v t) → keeps.began ≡ w → ⊥
began_elsewhere k entries place v t w other keeps e = other (sym e ∙ keeps.let_in)

-- and one that kept up to the end, and was never greeted
not_greeted_to_the_end : (k : Setup) (place : ℕ) (t : Scene) → KeptUp k [] place t → ⊥
not_greeted_to_the_end k place t kept = absurd (omega (arith, ap length kept.printed, length-append (first_words k []) (flat_map bytes_in kept.told), greeting_some (first_standing k []).profile))

-- two copies under one UID
two_copies : (uid : ℕ) (before now : Box) (a b : Job) → a ≢ b → Contains now.accepted (a, uid) → Contains now.accepted (b, uid) → NamesTheSame uid before now → ⊥
two_copies uid before now a b differ one two same = differ (same.alone a one ∙ sym (same.alone b two))

-- ---- the OK of an APPEND

-- it tells the UID of another copy
another_copys : (v uid other : ℕ) (tag bytes : List ℕ) → v < 2 ^ 64 → uid < 2 ^ 64 → other < 2 ^ 64 → uid ≢ other → IsWord tag → SaysVerdict v FromClient tag (Stored uid) bytes → EndsWith tag (appended_words v other) bytes → ⊥
another_copys v uid other tag bytes h k l differ word (inl s) said =
    differ (words_tell_which v uid v other h k h l (words_of_tags tag tag (appended_words v uid) (appended_words v other) word word (sym s.last ∙ said.last))).1
another_copys v uid other tag bytes h k l differ word (inr (fault, s)) said =
    false≢true (sym (apart_tells_none tells_stored bytes (subst (Apart tells_stored) (sym s) (refusal_apart tells_stored uid_spares tag word fault)) tag (appended_words v other) said))

-- it was said to no verdict
no_verdict : (k : Setup) (w : World) (author : Author) (v uid : ℕ) (tag bytes : List ℕ) → IsAnswered k w author bytes None → EndsWith tag (appended_words v uid) bytes → ⊥
no_verdict k w author v uid tag bytes none said = false≢true (sym (none tag (appended_words v uid) said))

-- or to one that the message was refused
refused_message : (v uid : ℕ) (origin : Origin) (tag bytes : List ℕ) (why : Refusal) → IsWord tag → SaysVerdict v origin tag (Refused why) bytes → EndsWith tag (appended_words v uid) bytes → ⊥
refused_message v uid origin tag bytes why word s said = by (copies_of origin) s
  where
    other : (words : List ℕ) → Apart tells_stored words → bytes ≡ words → ⊥
    other words apart e = false≢true (sym (apart_tells_none tells_stored bytes (subst (Apart tells_stored) (sym e) apart) tag (appended_words v uid) said))

    by : (copies : List ℕ) → SaysRefused copies tag (response_text (refused_text why)) bytes → ⊥
    by [] e = other _ (no_apart tells_stored uid_spares tag word why) e
    by (copy ∷ copies) (inl e) = other _ (no_apart tells_stored uid_spares tag word why) e
    by (copy ∷ copies) (inr (fault, e)) = other _ (refusal_apart tells_stored uid_spares tag word fault) e

-- of a copy in another mailbox than the APPEND named
another_mailboxs : (k : Setup) (w : World) (author : Author) (tag said : List ℕ) (noted : Noted) → (kept : TellsKept k w author tag said noted) → noted.mailbox ≢ kept.message.append.mailbox → ⊥
another_mailboxs k w author tag said noted kept other = other kept.mailbox

-- of a UID under which another text stands there than was sent
another_text : (k : Setup) (w : World) (author : Author) (tag said : List ℕ) (noted : Noted) → (kept : TellsKept k w author tag said noted)
    → ((copy : Job) → Contains (w.box noted.mailbox).accepted (copy, kept.uid) → copy.text ≢ kept.message.append.text) → ⊥
another_text k w author tag said noted kept other = other (copy_under noted.key kept.message) kept.copy refl

-- of a UID under which it stands with another date there than its APPEND brought
another_date : (k : Setup) (w : World) (author : Author) (tag said : List ℕ) (noted : Noted) → (kept : TellsKept k w author tag said noted)
    → ((copy : Job) → Contains (w.box noted.mailbox).accepted (copy, kept.uid) → copy.text.date ≢ kept.came.append.date) → ⊥
another_date k w author tag said noted kept other = other (copy_under noted.key kept.message) kept.copy kept.came.date

-- of a copy of another session
another_sessions : (k : Setup) (w : World) (author : Author) (tag said : List ℕ) (noted : Noted) → noted.key.serial ≢ author.serial → TellsKept k w author tag said noted → ⊥
another_sessions k w author tag said noted other kept = other kept.own

-- under another tag than that of the APPEND which sent it
another_tag : (k : Setup) (w : World) (author : Author) (tag said : List ℕ) (noted : Noted) → (kept : TellsKept k w author tag said noted) → tag ≢ kept.message.tag → ⊥
another_tag k w author tag said noted kept other = other kept.under

-- of a message that its client never sent
never_sent : (k : Setup) (w : World) (author : Author) (tag said : List ℕ) (noted : Noted) → author.sent ≡ [] → TellsKept k w author tag said noted → ⊥
never_sent k w author tag said noted none kept =
    let c = kept.came in
    absurd (omega (arith, ap length (sym c.whole ∙ none), length-append (c.front ++ (c.bytes ++ crlf) ++ kept.message.append.text.bytes ++ crlf) c.behind, length-append (c.front ++ (c.bytes ++ crlf) ++ kept.message.append.text.bytes) crlf))

-- and two such answers about one copy
one_copy_twice : (k : Setup) (w : World) (author : Author) (told : List Told) (a b : Noted) → a.key ≡ b.key → (tells : TellsOfAppends k w author told) → filter_map as_it_is tells.verdicts ≡ a ∷ b ∷ [] → ⊥
one_copy_twice k w author told a b same tells is =
    let apart : AllPairs (λ (x y : Noted). Below x.key y.key) (a ∷ b ∷ []) = subst (AllPairs (λ (x y : Noted). Below x.key y.key)) is tells.in_order in
    below_itself a.key b.key (apart 0 1 a (omega arith) (omega arith)) same

-- ---- the OK of a COPY

-- an answer that tells of copies while messages of the batch are left
told_too_soon : (v uid : ℕ) (batch : Batch) (row : Row) (left : List Row) (tag words bytes : List ℕ) → IsWord tag → batch.left ≡ row ∷ left → SaysVerdict v (Copied batch) tag (Stored uid) bytes → EndsWith tag words bytes
    → tells_stored words ≡ true → ⊥
told_too_soon v uid batch row left tag words bytes word more s said tells = by s
  where
    silent : bytes ≡ [] → ⊥
    silent e = false≢true (sym (silence_tells_none tells_stored bytes e tag words said) ∙ tells)

    refused : (fault : MailFault) → bytes ≡ refusal_text tag fault → ⊥
    refused fault e = false≢true (sym (apart_tells_none tells_stored bytes (subst (Apart tells_stored) (sym e) (refusal_apart tells_stored uid_spares tag word fault)) tag words said) ∙ tells)

    of_batch : SaysOfBatch v (with_copy uid batch) tag bytes → ⊥
    of_batch (awaits_next next rest is e) = silent e
    of_batch (has_no_number next rest is e) = refused Spent e
    of_batch (all_stored none e) = absurd (omega (arith, ap (length {A = Row}) (sym none ∙ more)))

    by : SaysOfBatch v (with_copy uid batch) tag bytes ⊎ ((fault : MailFault) × (bytes ≡ refusal_text tag fault)) → ⊥
    by (inl h) = of_batch h
    by (inr (fault, e)) = refused fault e

-- an earlier copy in another mailbox than the COPY named
earlier_elsewhere : (k : Setup) (w : World) (author : Author) (last : Sent) (batch : Batch) (copies : List ℕ) (uid : ℕ) → (earlier : IsEarlier k w author last batch copies uid) → earlier.noted.mailbox ≢ last.append.mailbox → ⊥
earlier_elsewhere k w author last batch copies uid earlier other = other (earlier.mailbox ∙ earlier.named)

-- ---- cuts

-- an answer that is cut in its middle: behind its tagged line more of it would come
in_the_middle : IsOneAnswer (codes "a OK NOOP completed\r\n* 2 EXISTS\r\n") → ⊥
in_the_middle (opens h) = absurd (omega (arith, ap (λ (c : Cutter). length c.answers) (h [] [])))
in_the_middle (ends h) = absurd (omega (arith, ap (λ (c : Cutter). length c.begun) (h [] [])))

-- or one with two tagged lines
two_in_one : IsOneAnswer (codes "a OK NOOP completed\r\nb OK NOOP completed\r\n") → ⊥
two_in_one (opens h) = absurd (omega (arith, ap (λ (c : Cutter). length c.answers) (h [] [])))
two_in_one (ends h) = absurd (omega (arith, ap (λ (c : Cutter). length c.answers) (h [] [])))

-- all that was printed, without the greeting
never_greeted : (profile : Profile) → CutsSo profile [] [] → ⊥
never_greeted profile h = absurd (omega (arith, ap (λ (c : Cutter). length c.begun) h.cut, greeting_some profile))

-- one that ends within a line
within_a_line : IsOneAnswer (codes "* 2 EXI") → ⊥
within_a_line (opens h) = absurd (omega (arith, ap (λ (c : Cutter). length c.line) (h [] [])))
within_a_line (ends h) = absurd (omega (arith, ap (λ (c : Cutter). length c.line) (h [] [])))
