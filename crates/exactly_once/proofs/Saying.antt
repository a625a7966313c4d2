-- What a connection has said and not printed yet, and what it prints: verdicts that its seat has heard, in order, and replies that say nothing of a copy.
use Rattle.std.proofs.Common.{◌≡◌, ℕ, ◌+◌, ◌<◌, ◌≤◌, ◌⊎◌, inl, inr, Bool, false, true, List, [], ◌∷◌, ◌++◌, length, map, filter_map, Contains, refl, sym, ap, ◌∙◌, subst, arith, append-nil, append_assoc, Option, Some, None}
use Rattle.std.proofs.lemmas.List.{map-append}
use Rattle.std.proofs.lemmas.Grind.{flat_map-append}
use Rattle.std.proofs.lemmas.List.Elements.{filter_map-append}
use Rattle.delivery_token.specs.declared.Verdict.{Verdict}
use Rattle.delivery_token.specs.declared.log.Noted.{Noted}
use Rattle.lmtp_machine.specs.declared.connection.What.{What}
use Rattle.lmtp_machine.specs.Dialogue.{Submission}
use Rattle.envelope.specs.Names.{marked}
use Rattle.house_peers.specs.Speech.{Answered, Opened, AreNumbered, AreQuiet, IsSpeech, wire}
use Rattle.line_io.specs.Wire.{marked as with_mark}
use Rattle.house.specs.Setup.{Peers, Setup, terms_of}
use Rattle.house_peers.specs.AnyCaller.{Caller, Terms, GoesOn, Proceeds, IsAnswered, Works, with_unsaid, works, waits, answers, stalls, talks, lingers, fades, greeted, keys_of, meets, setting_of, unread}
use Rattle.house.specs.AnyScene.{ConnectionGoes, Leaves, Prints, goes, of_connection as mark_of_connection, prints_all, prints_none, stays}
use Rattle.exactly_once.specs.AnyPromise as promise
use Rattle.exactly_once.specs.AnyPromise.{Said, Other, reply_of, verdict_in}
use Rattle.world.proofs.Base.{Every, every_append}
use Rattle.exactly_once.proofs.Told.{AreTold, Heard, IsBefore, before_later, before_next, heard_for, of_connection, told_front, told_grows, told_more}

module _ (peers : Peers) (speaks : IsSpeech peers.speech) where
  -- who stands there keeps the serial
  goes_serial : (k : Terms) (whole : Bool) (seat : ℕ) (heard : List Noted) (a : Caller peers.speech) (what : What) (after : Caller peers.speech) → GoesOn peers.speech k whole seat heard a what after → after.serial ≡ a.serial
  goes_serial k whole seat heard a what after (works none w) = ap (λ (v : Caller peers.speech). v.serial) w.is
  goes_serial k whole seat heard a what after (waits some not q f) = ap (λ (v : Caller peers.speech). v.serial) f
  goes_serial k whole seat heard a what after (answers vs some is w) = ap (λ (v : Caller peers.speech). v.serial) w.is
  goes_serial k whole seat heard a what after (stalls f q g) = ap (λ (v : Caller peers.speech). v.serial) g

  does_serial : (k : Terms) (whole : Bool) (seat : ℕ) (heard : List Noted) (a : Caller peers.speech) (what : What) (after : Caller peers.speech) → Proceeds peers.speech k whole seat heard a what after → after.serial ≡ a.serial
  does_serial k whole seat heard a what after (talks l g) = goes_serial k whole seat heard a what after g
  does_serial k whole seat heard a what after (lingers g u n f q) = ap (λ (v : Caller peers.speech). v.serial) q
  does_serial k whole seat heard a what after (fades vs g u n f q) = ap (λ (v : Caller peers.speech). v.serial) q

  -- ---- what is said

  -- the verdicts in what was said
  abbrev pub verdicts : List (Said peers) → List Noted
  verdicts said = filter_map (verdict_in peers) said

  abbrev pub bytes_of : Setup → List (Said peers) → List ℕ
  bytes_of k said = wire peers.speech k.host (map (reply_of peers) said)

  abbrev pub says_line : List ℕ → peers.speech.Reply → List ℕ
  says_line host reply = peers.speech.text host reply

  joins : (k : Setup) (x y : List (Said peers)) → bytes_of k x ++ bytes_of k y ≡ bytes_of k (x ++ y)
  joins k x y = sym (flat_map-append (says_line k.host) (map (reply_of peers) x) (map (reply_of peers) y)) ∙ ap (λ (r : List peers.speech.Reply). wire peers.speech k.host r) (sym (map-append (reply_of peers) x y))

  -- replies that aren't verdicts
  pub record Others (rs : List peers.speech.Reply) : Type 0 where
    pub said : List (Said peers)
    pub is : map (reply_of peers) said ≡ rs
    pub none : verdicts said ≡ []

  others : (rs : List peers.speech.Reply) → AreQuiet peers.speech rs → Others rs
  others [] q = record { said = []; is = refl; none = refl }
  others (r ∷ rs) q =
      let more = others rs q.1 in
      record { said = Other r q.0 ∷ more.said; is = ap (λ (x : List peers.speech.Reply). r ∷ x) more.is; none = more.none }

  notes_said : (notes : List Noted) → verdicts (map promise.Verdict notes) ≡ notes
  notes_said [] = refl
  notes_said (n ∷ ns) = ap (λ (x : List Noted). n ∷ x) (notes_said ns)

  notes_replies : (notes : List Noted) → map (reply_of peers) (map promise.Verdict notes) ≡ map peers.speech.telling (map (λ n. n.verdict) notes)
  notes_replies [] = refl
  notes_replies (n ∷ ns) = ap (λ (x : List peers.speech.Reply). peers.speech.telling n.verdict ∷ x) (notes_replies ns)

  -- each is on a copy of this connection
  abbrev pub AreOf : ℕ → List (Said peers) → Type 0
  AreOf serial said = Every (λ n. n.key.serial ≡ serial) (verdicts said)

  of_both : (serial : ℕ) (x y : List (Said peers)) → AreOf serial x → AreOf serial y → AreOf serial (x ++ y)
  of_both serial x y p q = subst (Every (λ n. n.key.serial ≡ serial)) (sym (filter_map-append (verdict_in peers) x y)) (every_append (λ n. n.key.serial ≡ serial) (verdicts x) (verdicts y) p q)

  -- ---- a caller

  -- The connection at a seat stands here, and these verdicts were told there: what it has still to print is such replies, the verdicts among them come next, and after them those of
  -- the messages that are awaited.
  pub record IsTalking (k : Setup) (seat serial : ℕ) (heard : List Noted) (next : ℕ) (told : List Noted) (at : peers.speech.At) (unsaid : List ℕ) (pending : List Submission) : Type 0 where
    pub said : List (Said peers)
    pub is : unsaid ≡ bytes_of k said
    pub message : ℕ
    pub in_order : AreTold seat heard serial message (told ++ verdicts said)
    pub numbered : AreNumbered (setting_of (terms_of k k.directory.shut) seat serial) message pending (peers.speech.count at)
    pub kept : peers.speech.Kept (length k.directory.homes) at
    pub older : serial < next
    pub own : AreOf serial said

  -- who stands at a seat whose next connection has this serial
  abbrev pub ConnectionOk : Setup → ℕ → List Noted → ℕ → List Noted → Option (Caller peers.speech) → Type 0
  ConnectionOk k seat heard next told None = AreTold seat heard next 0 told
  ConnectionOk k seat heard next told (Some b) = IsTalking k seat b.serial heard next told b.talk.at b.talk.unsaid b.talk.pending

  same_before : (serial message : ℕ) → (key : _) → IsBefore serial message key → IsBefore serial message key
  same_before serial message key x = x

  talking_grows : (k : Setup) (seat serial : ℕ) (heard more : List Noted) (next later : ℕ) (told : List Noted) (at : peers.speech.At) (unsaid : List ℕ) (pending : List Submission)
      → ((n : Noted) → Contains heard n → Contains more n) → next ≤ later → IsTalking k seat serial heard next told at unsaid pending → IsTalking k seat serial more later told at unsaid pending
  talking_grows k seat serial heard more next later told at unsaid pending grows l t = record {
    said = t.said;
    is = t.is;
    message = t.message;
    in_order = told_grows seat heard more serial t.message serial t.message (told ++ verdicts t.said) grows (same_before serial t.message) t.in_order;
    numbered = t.numbered;
    kept = t.kept;
    older = let o = t.older in omega (arith, o, l);
    own = t.own;
  }

  -- more was heard, and more connections were opened
  pub caller_grows : (k : Setup) (seat : ℕ) (heard more : List Noted) (next later : ℕ) (told : List Noted) (o : Option (Caller peers.speech)) → ((n : Noted) → Contains heard n → Contains more n) → next ≤ later
      → ConnectionOk k seat heard next told o → ConnectionOk k seat more later told o
  caller_grows k seat heard more next later told None grows l c = told_grows seat heard more next 0 later 0 told grows (before_later next later l) c
  caller_grows k seat heard more next later told (Some b) grows l c = talking_grows k seat b.serial heard more next later told b.talk.at b.talk.unsaid b.talk.pending grows l c

  -- a connection is gone, and what it had still to print is dropped
  drops : (k : Setup) (seat serial : ℕ) (heard : List Noted) (next : ℕ) (told : List Noted) (at : peers.speech.At) (unsaid : List ℕ) (pending : List Submission)
      → IsTalking k seat serial heard next told at unsaid pending → AreTold seat heard next 0 told
  drops k seat serial heard next told at unsaid pending t =
      told_grows seat heard heard serial t.message next 0 told (λ n c. c) (before_next serial t.message next t.older) (told_front seat heard serial t.message told (verdicts t.said) t.in_order)

  -- the same, where it stands there still
  pub falls_silent : (k : Setup) (seat serial : ℕ) (heard : List Noted) (next : ℕ) (told : List Noted) (at : peers.speech.At) (unsaid : List ℕ) (pending : List Submission)
      → IsTalking k seat serial heard next told at unsaid pending → IsTalking k seat serial heard next told at [] pending
  falls_silent k seat serial heard next told at unsaid pending t = record {
    said = [];
    is = refl;
    message = t.message;
    in_order = subst (AreTold seat heard serial t.message) (sym (append-nil told)) (told_front seat heard serial t.message told (verdicts t.said) t.in_order);
    numbered = t.numbered;
    kept = t.kept;
    older = t.older;
    own = tt;
  }

  -- what it had still to print was printed
  says_all : (k : Setup) (seat serial : ℕ) (heard : List Noted) (next : ℕ) (told : List Noted) (at : peers.speech.At) (unsaid : List ℕ) (pending : List Submission)
      → (t : IsTalking k seat serial heard next told at unsaid pending) → IsTalking k seat serial heard next (told ++ verdicts t.said) at [] pending
  says_all k seat serial heard next told at unsaid pending t = record {
    said = [];
    is = refl;
    message = t.message;
    in_order = subst (AreTold seat heard serial t.message) (sym (append-nil (told ++ verdicts t.said))) t.in_order;
    numbered = t.numbered;
    kept = t.kept;
    older = t.older;
    own = tt;
  }

  -- ---- what is printed

  -- what the connection at a seat printed, and who stands there then
  pub record Spoke (k : Setup) (seat serial : ℕ) (heard : List Noted) (next : ℕ) (told : List Noted) (o : Option (Caller peers.speech)) (printed : List ℕ) : Type 0 where
    pub said : List (Said peers)
    pub is : printed ≡ with_mark mark_of_connection (seat + 1) (bytes_of k said)
    pub own : AreOf serial said
    pub left : ConnectionOk k seat heard next (told ++ verdicts said) o

  silent : (k : Setup) (seat serial : ℕ) (heard : List Noted) (next : ℕ) (told : List Noted) (o : Option (Caller peers.speech)) (printed : List ℕ) → ConnectionOk k seat heard next told o → printed ≡ [] → Spoke k seat serial heard next told o printed
  silent k seat serial heard next told o printed c e = record { said = []; is = e; own = tt; left = subst (λ (x : List Noted). ConnectionOk k seat heard next x o) (sym (append-nil told)) c }

  -- The dialogue went on from where nothing is awaited.
  went_on : (k : Setup) (shut : List Bool) (seat serial : ℕ) (heard : List Noted) (next : ℕ) (told : List Noted) (at after : peers.speech.At) (unsaid taken : List ℕ) (turn : peers.speech.Turn)
      → IsTalking k seat serial heard next told at unsaid [] → peers.speech.Leads (setting_of (terms_of k shut) seat serial) (marked shut k.directory) at taken turn after
      → IsTalking k seat serial heard next told after (unsaid ++ wire peers.speech k.host (peers.speech.replies turn)) (peers.speech.submissions turn)
  went_on k shut seat serial heard next told at after unsaid taken turn t l =
      let law = speaks.talks (setting_of (terms_of k shut) seat serial) (marked shut k.directory) at taken turn after l t.kept in
      let more = others (peers.speech.replies turn) law.0 in
      let here : t.message ≡ peers.speech.count at = t.numbered in
      record {
        said = t.said ++ more.said;
        is = ap (λ (x : List ℕ). x ++ wire peers.speech k.host (peers.speech.replies turn)) t.is ∙ ap (λ (x : List peers.speech.Reply). bytes_of k t.said ++ wire peers.speech k.host x) (sym more.is) ∙ joins k t.said more.said;
        message = peers.speech.count at;
        in_order = subst (AreTold seat heard serial (peers.speech.count at))
            (ap (λ (x : List Noted). told ++ x) (sym (append-nil (verdicts t.said)) ∙ ap (λ (x : List Noted). verdicts t.said ++ x) (sym more.none) ∙ sym (filter_map-append (verdict_in peers) t.said more.said)))
            (subst (λ (n : ℕ). AreTold seat heard serial n (told ++ verdicts t.said)) here t.in_order);
        numbered = law.2;
        kept = law.1;
        older = t.older;
        own = of_both serial t.said more.said t.own (subst (Every (λ n. n.key.serial ≡ serial)) (sym more.none) tt);
      }

  -- who stands there, by who has gone on
  left_ok : (k : Setup) (whole : Bool) (seat : ℕ) (heard : List Noted) (next : ℕ) (told : List Noted) (what : What) (after : Caller peers.speech) (o : Option (Caller peers.speech))
      → ConnectionOk k seat heard next told (Some after) → Leaves peers.speech whole what after o → ConnectionOk k seat heard next told o
  left_ok k whole seat heard next told what after o t (goes q n e) = rw e (drops k seat after.serial heard next told after.talk.at after.talk.unsaid after.talk.pending t)
  left_ok k whole seat heard next told what after o t (stays f g e) = rw e t

  -- what it had to say is printed, or is still to be
  prints_spoke : (k : Setup) (whole : Bool) (seat : ℕ) (heard : List Noted) (next : ℕ) (told : List Noted) (what : What) (after : Caller peers.speech) (still : List ℕ) (o : Option (Caller peers.speech)) (printed : List ℕ)
      → ConnectionOk k seat heard next told (Some after) → Prints mark_of_connection (seat + 1) after.talk.unsaid still printed → Leaves peers.speech whole what (with_unsaid peers.speech still after) o → Spoke k seat after.serial heard next told o printed
  prints_spoke k whole seat heard next told what after still o printed t (prints_all e p) l = record {
    said = t.said;
    is = p ∙ ap (λ (x : List ℕ). with_mark mark_of_connection (seat + 1) x) t.is;
    own = t.own;
    left = left_ok k whole seat heard next (told ++ verdicts t.said) what (with_unsaid peers.speech still after) o
        (subst (λ (x : List ℕ). IsTalking k seat after.serial heard next (told ++ verdicts t.said) after.talk.at x after.talk.pending) (sym e)
        (says_all k seat after.serial heard next told after.talk.at after.talk.unsaid after.talk.pending t)) l;
  }
  prints_spoke k whole seat heard next told what after still o printed t (prints_none e p) l =
      silent k seat after.serial heard next told o printed (left_ok k whole seat heard next told what (with_unsaid peers.speech still after) o
      (subst (λ (x : List ℕ). IsTalking k seat after.serial heard next told after.talk.at x after.talk.pending) (sym e) t) l) p

  -- it took what waited
  works_ok : (k : Setup) (shut : List Bool) (whole : Bool) (seat : ℕ) (heard : List Noted) (next : ℕ) (told : List Noted) (b : Caller peers.speech) (what : What) (after : Caller peers.speech)
      → IsTalking k seat b.serial heard next told b.talk.at b.talk.unsaid [] → Works peers.speech (terms_of k shut) whole seat b what after → ConnectionOk k seat heard next told (Some after)
  works_ok k shut whole seat heard next told b what after s w =
      let t = went_on k shut seat b.serial heard next told b.talk.at w.talk.at b.talk.unsaid w.works.taken w.turn s w.works.leads in
      let u = subst (λ (x : List ℕ). IsTalking k seat b.serial heard next told w.talk.at x (peers.speech.submissions w.turn)) (sym w.said) t in
      rw w.is (subst (IsTalking k seat b.serial heard next told w.talk.at w.talk.unsaid) (sym w.works.submits) u)

  -- ---- verdicts that are known

  -- what is said of them
  pub record Says (heard : List Noted) (pending : List Submission) (vs : List Verdict) (rs : List peers.speech.Reply) (told : List Noted) (seat serial number : ℕ) : Type 0 where
    pub said : List (Said peers)
    pub is : map (reply_of peers) said ≡ rs
    pub in_order : AreTold seat heard serial number (told ++ verdicts said)
    pub own : AreOf serial said

  -- none of them, or all
  verdicts_said : (k : Setup) (seat serial : ℕ) (heard told : List Noted) (first : ℕ) (pending : List Submission) (vs : List Verdict) (rs : List peers.speech.Reply) (n : ℕ)
      → AreNumbered (setting_of (terms_of k k.directory.shut) seat serial) first pending n → (h : Heard heard (keys_of pending) vs) → AreTold seat heard serial first told
      → (rs ≡ []) ⊎ (rs ≡ map peers.speech.telling vs) → Says heard pending vs rs told seat serial n
  verdicts_said k seat serial heard told first pending vs rs n messages h t = by
    where
      all : AreTold seat heard serial n (told ++ h.notes)
      all = told_more seat serial heard (setting_of (terms_of k k.directory.shut) seat serial) (length k.directory.homes) first n pending vs told refl refl messages h t

      by : (rs ≡ []) ⊎ (rs ≡ map peers.speech.telling vs) → Says heard pending vs rs told seat serial n
      by (inl none) = record { said = []; is = sym none; in_order = subst (AreTold seat heard serial n) (sym (append-nil told)) (told_front seat heard serial n told h.notes all); own = tt }
      by (inr them) = record {
        said = map promise.Verdict h.notes;
        is = notes_replies h.notes ∙ ap (λ (x : List Verdict). map peers.speech.telling x) h.verdicts_are ∙ sym them;
        in_order = subst (λ (x : List Noted). AreTold seat heard serial n (told ++ x)) (sym (notes_said h.notes)) all;
        own = subst (Every (λ n. n.key.serial ≡ serial)) (sym (notes_said h.notes)) (of_connection heard (setting_of (terms_of k k.directory.shut) seat serial) (length k.directory.homes) first n pending vs messages h);
      }

  answers_talking : (k : Setup) (shut : List Bool) (seat : ℕ) (heard : List Noted) (next : ℕ) (told : List Noted) (b : Caller peers.speech) (vs : List Verdict)
      → IsTalking k seat b.serial heard next told b.talk.at b.talk.unsaid b.talk.pending → IsAnswered peers.speech heard b vs
      → IsTalking k seat b.serial heard next told (meets peers.speech (terms_of k shut) seat b (Answered vs)).talk.at (meets peers.speech (terms_of k shut) seat b (Answered vs)).talk.unsaid []
  answers_talking k shut seat heard next told b vs t is =
      let at : peers.speech.At = b.talk.at in
      let setting = setting_of (terms_of k shut) seat b.serial in
      let law = speaks.answers setting (marked shut k.directory) at vs t.kept in
      let rs : List peers.speech.Reply = peers.speech.said setting (marked shut k.directory) at (Answered vs) in
      let n = peers.speech.count at in
      let says = verdicts_said k seat b.serial heard (told ++ verdicts t.said) t.message b.talk.pending vs rs n t.numbered (heard_for heard (keys_of b.talk.pending) vs is.each) t.in_order law.0 in
      record {
        said = t.said ++ says.said;
        is = ap (λ (x : List ℕ). x ++ wire peers.speech k.host rs) t.is ∙ ap (λ (x : List peers.speech.Reply). bytes_of k t.said ++ wire peers.speech k.host x) (sym says.is) ∙ joins k t.said says.said;
        message = n;
        in_order = subst (AreTold seat heard b.serial n)
            (append_assoc told (verdicts t.said) (verdicts says.said) ∙ ap (λ (x : List Noted). told ++ x) (sym (filter_map-append (verdict_in peers) t.said says.said))) says.in_order;
        numbered = sym law.2;
        kept = law.1;
        older = t.older;
        own = of_both b.serial t.said says.said t.own says.own;
      }

  -- ---- going on

  goes_ok : (k : Setup) (shut : List Bool) (whole : Bool) (seat : ℕ) (heard : List Noted) (next : ℕ) (told : List Noted) (b : Caller peers.speech) (what : What) (after : Caller peers.speech)
      → ConnectionOk k seat heard next told (Some b) → GoesOn peers.speech (terms_of k shut) whole seat heard b what after → ConnectionOk k seat heard next told (Some after)
  goes_ok k shut whole seat heard next told b what after s (works none w) =
      works_ok k shut whole seat heard next told b what after (subst (IsTalking k seat b.serial heard next told b.talk.at b.talk.unsaid) none s) w
  goes_ok k shut whole seat heard next told b what after s (waits some not q e) = rw e s
  goes_ok k shut whole seat heard next told b what after s (answers vs some is w) = works_ok k shut whole seat heard next told (meets peers.speech (terms_of k shut) seat b (Answered vs)) what after (answers_talking k shut seat heard next told b vs s is) w
  goes_ok k shut whole seat heard next told b what after s (stalls f q e) = rw e s

  does_ok : (k : Setup) (shut : List Bool) (whole : Bool) (seat : ℕ) (heard : List Noted) (next : ℕ) (told : List Noted) (b : Caller peers.speech) (what : What) (after : Caller peers.speech)
      → ConnectionOk k seat heard next told (Some b) → Proceeds peers.speech (terms_of k shut) whole seat heard b what after → ConnectionOk k seat heard next told (Some after)
  does_ok k shut whole seat heard next told b what after s (talks there g) = goes_ok k shut whole seat heard next told b what after s g
  does_ok k shut whole seat heard next told b what after s (lingers gone none not q e) = rw e s
  does_ok k shut whole seat heard next told b what after s (fades vs gone none is q e) = rw e s

  pub proceeds_spoke : (k : Setup) (shut : List Bool) (whole : Bool) (seat : ℕ) (heard : List Noted) (next : ℕ) (told : List Noted) (b : Caller peers.speech) (o : Option (Caller peers.speech)) (printed : List ℕ)
      → ConnectionOk k seat heard next told (Some b) → ConnectionGoes peers.speech (terms_of k shut) whole seat heard b o printed → Spoke k seat b.serial heard next told o printed
  proceeds_spoke k shut whole seat heard next told b o printed s g =
      subst (λ (n : ℕ). Spoke k seat n heard next told o printed) (does_serial (terms_of k shut) whole seat heard b g.what g.after g.proceeds)
      (prints_spoke k whole seat heard next told g.what g.after g.still o printed (does_ok k shut whole seat heard next told b g.what g.after s g.proceeds) g.prints g.leaves)

  -- one whose peer is gone has nothing to say, and is as it was
  unread_same : (k : Terms) (whole : Bool) (seat : ℕ) (heard : List Noted) (b : Caller peers.speech) (what : What) (after : Caller peers.speech) → Proceeds peers.speech k whole seat heard (unread peers.speech b) what after → after ≡ unread peers.speech b
  unread_same k whole seat heard b what after (talks there g) = absurd (let x : true ≡ false = there in cc)
  unread_same k whole seat heard b what after (lingers gone none not q e) = e
  unread_same k whole seat heard b what after (fades vs gone none is q e) = e

  prints_nothing : (n : ℕ) (unsaid still printed : List ℕ) → unsaid ≡ [] → Prints mark_of_connection n unsaid still printed → (still ≡ []) × (printed ≡ [])
  prints_nothing n unsaid still printed none (prints_all e p) = (e, p ∙ ap (λ (x : List ℕ). with_mark mark_of_connection n x) none)
  prints_nothing n unsaid still printed none (prints_none e p) = (e ∙ none, p)

  pub unread_silent : (k : Setup) (shut : List Bool) (whole : Bool) (seat : ℕ) (heard : List Noted) (next : ℕ) (told : List Noted) (b : Caller peers.speech) (o : Option (Caller peers.speech)) (printed : List ℕ)
      → ConnectionOk k seat heard next told (Some b) → ConnectionGoes peers.speech (terms_of k shut) whole seat heard (unread peers.speech b) o printed → ConnectionOk k seat heard next told o × (printed ≡ [])
  unread_silent k shut whole seat heard next told b o printed s g =
      let same = unread_same (terms_of k shut) whole seat heard b g.what g.after g.proceeds in
      let quiet = prints_nothing (seat + 1) g.after.talk.unsaid g.still printed (ap (λ (x : Caller peers.speech). x.talk.unsaid) same) g.prints in
      let silent_b : ConnectionOk k seat heard next told (Some (unread peers.speech b)) = falls_silent k seat b.serial heard next told b.talk.at b.talk.unsaid b.talk.pending s in (
        left_ok k whole seat heard next told g.what (with_unsaid peers.speech g.still g.after) o
            (subst (λ (x : Caller peers.speech). ConnectionOk k seat heard next told (Some (with_unsaid peers.speech g.still x))) (sym same) (subst (λ (u : List ℕ). ConnectionOk k seat heard next told (Some (with_unsaid peers.speech u (unread peers.speech b)))) (sym quiet.0) silent_b)) g.leaves,
        quiet.1,
      )

  -- a connection that was just opened has said its greeting
  pub greeted_talking : (k : Setup) (shut : List Bool) (seat serial : ℕ) (heard told : List Noted) (next : ℕ) → serial < next → AreTold seat heard serial 0 told → ConnectionOk k seat heard next told (Some (greeted peers.speech (terms_of k shut) seat serial))
  greeted_talking k shut seat serial heard told next l t =
      let law = speaks.greets (setting_of (terms_of k shut) seat serial) (marked shut k.directory) in
      let more = others (peers.speech.said (setting_of (terms_of k shut) seat serial) (marked shut k.directory) peers.speech.opened Opened) law.0 in
      record {
        said = more.said;
        is = ap (λ (x : List peers.speech.Reply). wire peers.speech k.host x) (sym more.is);
        message = 0;
        in_order = subst (λ (x : List Noted). AreTold seat heard serial 0 (told ++ x)) (sym more.none) (subst (AreTold seat heard serial 0) (sym (append-nil told)) t);
        numbered = sym law.2;
        kept = law.1;
        older = l;
        own = subst (Every (λ n. n.key.serial ≡ serial)) (sym more.none) tt;
      }
