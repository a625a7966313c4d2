-- What a connection's steps come to, from the machine's own promises.
use Rattle.change_ring.specs.Log.{no_flags}
use Rattle.std.proofs.Common.{◌≡◌, ℕ, ◌+◌, ◌<◌, ◌≤◌, Bool, true, false, List, [], ◌∷◌, ◌++◌, length, drop, refl, ap, sym, ◌∙◌, subst, arith, Option, Some, None}
use Rattle.delivery_token.specs.declared.CopyKey.{CopyKey}
use Rattle.delivery_token.specs.declared.Verdict.{Verdict}
use Rattle.delivery_token.specs.declared.log.Noted.{Noted}
use Rattle.envelope.specs.Names.{Directory, marked}
use Rattle.lmtp_machine.specs.declared.connection.What.{What}
use Rattle.lmtp_machine.specs.declared.connection.What.TheVariants.{More, Submit, Quit}
use Rattle.lmtp_machine.specs.Dialogue.{wire, Phase, Start, Ready, Transaction, Data, Waiting, Ended, Standing, Setting, Submission, Turn, on_event}
use Rattle.lmtp_machine.specs.Dialogue as dialogue
use Rattle.lmtp_machine.specs.Conversation.{Conversation, IsListening, opened}
use Rattle.lmtp_machine.specs.Calls.{Happens, Tells}
use Rattle.lmtp_machine.specs.inner.Calls.{Taken}
use Rattle.lmtp_machine.specs.Kept.{AreMessages, IsMessage}
use Rattle.lmtp_machine.specs.LmtpMachine.{LmtpMachine, StandsFor}
use Rattle.lmtp_machine.specs.declared.commands.Stage.TheVariants as stages
use Rattle.lmtp_machine.proofs.Calls.{nothing_taken}
use Rattle.lmtp_machine.proofs.Follow.{still_listens}
use Rattle.lmtp_machine.proofs.Kept.{taken_keeps, event_keeps}
use Rattle.house_peers.specs.HouseConnection.{HouseConnection}
use Rattle.house_peers.specs.Caller.{Caller, IsAnswered, Terms, answers, copies_of, fades, greeted, keys_of, lingers, setting_of, talks, unread, waits, with_unsaid, works}
use Rattle.house_peers.specs.inner.Meeting.{meets}
use Rattle.house_peers.specs.Taking.{AreKnown, with_all_said, with_nobody_there}
use Rattle.house_peers.specs.inner.Taking.{TakenBy}
use Rattle.delivery_token.specs.Keys.{AtLeast}
use Rattle.delivery_token.specs.Copies.{SlotsFor}
use Rattle.house_peers.specs.ConnectionStands.{IsAwaited, Proceeded, StandsForConnection}
use Rattle.house_peers.specs.inner.ConnectionStands.{WentOn, WorkedOff}
use Rattle.house_peers.specs.inner.ConnectionSteps.{SaidVerdicts}
use Rattle.delivery_token.proofs.Copies.{all_put, no-key}
use Rattle.delivery_token.proofs.Slots.{all-full, heard-for, no-slots}
use Rattle.house_peers.proofs.Copies.{copies-one, keys-one, none-due}
use Rattle.house_peers.proofs.Keys.{later-message}

-- nothing was put of a message that isn't there
none_put : (heard : List Noted) (slots : List (Option Verdict)) (pending : List Submission) → pending ≡ [] → SlotsFor heard (keys_of pending) slots → slots ≡ []
none_put heard [] pending e h = refl
none_put heard (o ∷ os) pending e h = absurd (let f = h.few in let l = ap (λ (ss : List Submission). length (keys_of ss)) e in omega (arith, f, l))

-- ---- taking what waits

listens : (phase : Phase) (n : ℕ) → IsListening phase → phase ≡ Waiting n → ⊥
listens Start n h e = cc
listens Ready n h e = cc
listens (Transaction a b) n h e = cc
listens (Data a b c) n h e = cc
listens (Waiting m) n h e = h
listens Ended n h e = cc

-- whether verdicts are awaited now
awaits : (what : What) (turn : Turn) (pending : List Submission) (phase : Phase) → Tells what turn → pending ≡ turn.submissions → phase ≡ turn.standing.phase → IsAwaited pending phase
awaits More turn pending phase t e p = subst (λ (ss : List Submission). IsAwaited ss phase) (sym (e ∙ t.0)) (λ n q. listens turn.standing.phase n t.1 (sym p ∙ q))
awaits Submit turn pending phase t e p = subst (λ (ss : List Submission). IsAwaited ss phase) (sym (e ∙ t.only)) (refl, p ∙ t.waits)
awaits Quit turn pending phase t e p = subst (λ (ss : List Submission). IsAwaited ss phase) (sym (e ∙ t.0)) (λ n q. let a : Ended ≡ Waiting n = sym (p ∙ t.1) ∙ q in cc)

module _ (k : Terms) (seat : ℕ) (next : CopyKey) (heard : List Noted) where
  took : (whole : Bool) (b : Caller) (h : HouseConnection) (m : LmtpMachine) (bytes left said : List ℕ) (what : What)
      → StandsForConnection k seat next heard h b → h.machine.pending ≡ [] → h.waits ≡ bytes ++ left → m.setting ≡ h.machine.setting → m.host ≡ h.machine.host
      → (whole ≡ true → what ≡ More → left ≡ [])
      → Taken (StandsFor m) (setting_of k seat b.serial) k.host k.directory b.talk.at bytes h.unsaid said what m.pending
      → WorkedOff k whole seat next heard b what (record { serial = h.serial; gone = h.gone; machine = m; waits = left; unsaid = said; verdicts = h.verdicts })
  took whole b h m bytes left said what s quiet split es eh all t =
      let none = none_put heard h.verdicts b.talk.pending (sym s.pending ∙ quiet) s.verdicts in
      let after = taken_keeps (StandsFor m) (setting_of k seat b.serial) k.host k.directory b.talk.at bytes h.unsaid said what m.pending s.kept t in
      let first : s.message ≡ b.talk.at.standing.submitted = subst (λ (ss : List Submission). AreMessages (setting_of k seat b.serial) (length k.directory.homes) s.message ss b.talk.at.standing.submitted) (sym s.pending ∙ quiet) s.numbered in
      record {
        after = record { serial = b.serial; gone = b.gone; talk = record { at = t.after; waits = left; unsaid = said; pending = m.pending }; to_put = copies_of t.turn.submissions };
        works = record {
          turn = t.turn;
          talk = record { at = t.after; waits = left; unsaid = said; pending = m.pending };
          works = record { taken = bytes; waited = sym s.waits ∙ split; leads = t.leads; tells = t.tells; submits = t.submits };
          said = t.said ∙ ap (λ (l : List ℕ). l ++ wire k.host t.turn.replies) s.unsaid;
          all = all;
          is = refl;
        };
        stands = record {
          serial = s.serial;
          gone = s.gone;
          setting = es ∙ s.setting;
          host = eh ∙ s.host;
          machine = t.stands;
          waits = refl;
          unsaid = refl;
          pending = refl;
          to_put = ap copies_of (sym t.submits) ∙ ap (λ (os : List (Option Verdict)). drop (length os) (copies_of m.pending)) (sym none);
          verdicts = subst (λ (os : List (Option Verdict)). SlotsFor heard (keys_of m.pending) os) (sym none) (no-slots heard (keys_of m.pending));
          awaited = awaits what t.turn m.pending t.after.standing.phase t.tells t.submits (ap (λ (x : Standing). x.phase) t.leads.stands);
          kept = after.kept;
          message = b.talk.at.standing.submitted;
          numbered = after.numbered.are;
          ahead = subst (λ (n : ℕ). AtLeast next (record { seat = seat; serial = b.serial; message = n; recipient = length h.verdicts })) first s.ahead;
        };
      }

  -- by the machine's own setting
  own : (b : Caller) (h : HouseConnection) (m : LmtpMachine) (bytes said : List ℕ) (what : What) → StandsForConnection k seat next heard h b
      → Taken (StandsFor m) h.machine.setting h.machine.host k.directory b.talk.at bytes h.unsaid said what m.pending
      → Taken (StandsFor m) (setting_of k seat b.serial) k.host k.directory b.talk.at bytes h.unsaid said what m.pending
  own b h m bytes said what s t =
      subst (λ (n : List ℕ). Taken (StandsFor m) (setting_of k seat b.serial) n k.directory b.talk.at bytes h.unsaid said what m.pending) s.host
      (subst (λ (x : Setting). Taken (StandsFor m) x h.machine.host k.directory b.talk.at bytes h.unsaid said what m.pending) s.setting t)

  pub took_all : (b : Caller) (h : HouseConnection) (m : LmtpMachine) (bytes left said : List ℕ) (what : What)
      → StandsForConnection k seat next heard h b → h.machine.pending ≡ [] → h.waits ≡ bytes ++ left → m.setting ≡ h.machine.setting → m.host ≡ h.machine.host
      → (what ≡ More → left ≡ []) → TakenBy (StandsFor m) h.machine.setting h.machine.host k.directory b.talk.at bytes h.unsaid said (Some what) m.pending
      → WorkedOff k true seat next heard b what (record { serial = h.serial; gone = h.gone; machine = m; waits = left; unsaid = said; verdicts = h.verdicts })
  took_all b h m bytes left said what s quiet split es eh all t = took true b h m bytes left said what s quiet split es eh (λ w. all) (own b h m bytes said what s t)

  -- memory was wanting
  pub took_part : (b : Caller) (h : HouseConnection) (m : LmtpMachine) (bytes left said : List ℕ)
      → StandsForConnection k seat next heard h b → h.machine.pending ≡ [] → h.waits ≡ bytes ++ left → m.setting ≡ h.machine.setting → m.host ≡ h.machine.host
      → TakenBy (StandsFor m) h.machine.setting h.machine.host k.directory b.talk.at bytes h.unsaid said None m.pending
      → (what : What) × WorkedOff k false seat next heard b what (record { serial = h.serial; gone = h.gone; machine = m; waits = left; unsaid = said; verdicts = h.verdicts })
  took_part b h m bytes left said s quiet split es eh t =
      (t.0, took false b h m bytes left said t.0 s quiet split es eh (λ w. absurd (let y : false ≡ true = w in cc)) (own b h m bytes said t.0 s t.1))

  -- nothing waits, and the dialogue goes on
  pub took_nothing : (b : Caller) (h : HouseConnection) → StandsForConnection k seat next heard h b → h.machine.pending ≡ [] → h.waits ≡ [] → (h.machine.commands.stage ≡ stages.Ended → ⊥)
      → WorkedOff k true seat next heard b More h
  took_nothing b h s quiet none going =
      let unawaited : IsAwaited [] b.talk.at.standing.phase = subst (λ (ss : List Submission). IsAwaited ss b.talk.at.standing.phase) (sym s.pending ∙ quiet) s.awaited in
      let listens : IsListening b.talk.at.standing.phase = still_listens h.machine b.talk.at s.machine going unawaited in
      subst (λ (l : List ℕ). WorkedOff k true seat next heard b More (record { serial = h.serial; gone = h.gone; machine = h.machine; waits = l; unsaid = h.unsaid; verdicts = h.verdicts })) (sym none)
      (took_all b h h.machine [] [] h.unsaid More s quiet none refl refl (λ _. refl)
      (nothing_taken (StandsFor h.machine) h.machine.setting h.machine.host k.directory b.talk.at h.unsaid More h.machine.pending s.machine.open_end s.machine quiet (refl, listens)))

  -- ---- verdicts that are known

  the_one : (setting : Setting) (mailboxes : ℕ) (message submitted : ℕ) (phase : Phase) (pending : List Submission) → length pending ≡ 1 → AreMessages setting mailboxes message pending submitted → IsAwaited pending phase
      → (s : Submission) × (pending ≡ s ∷ []) × IsMessage setting mailboxes message s × (message + 1 ≡ submitted) × (phase ≡ Waiting (length s.keys))
  the_one setting mailboxes message submitted phase [] one n a = absurd (omega (arith, one))
  the_one setting mailboxes message submitted phase (s ∷ []) one n a = (s, refl, n.0, n.1, a.1)
  the_one setting mailboxes message submitted phase (s ∷ t ∷ ss) one n a = absurd (omega (arith, one))

  -- where none is left to put, each key has its slot
  counted : (submitted n : ℕ) (setting : Setting) (message : ℕ) (phase : Phase) (pending : List Submission) → AreMessages setting (length k.directory.homes) message pending submitted → IsAwaited pending phase
      → drop n (copies_of pending) ≡ [] → length (keys_of pending) ≤ n
  counted submitted n setting message phase [] m a e = omega arith
  counted submitted n setting message phase (x ∷ xs) m a e =
      let one : length (x ∷ xs) ≡ 1 = let l = ap (λ (ss : List Submission). length ss) a.0 in omega (arith, l) in
      let o = the_one setting (length k.directory.homes) message submitted phase (x ∷ xs) one m a in
      let c = ap (drop n) (copies-one (x ∷ xs) o.0 o.1) in
      let p = all_put n o.0.keys o.0.mailboxes o.0.text no_flags o.2.as_many (sym c ∙ e) in
      let q = ap (λ (ks : List CopyKey). length ks) (keys-one (x ∷ xs) o.0 o.1) in
      omega (arith, p, q)

  -- what was heard is known
  known_of : (b : Caller) (h : HouseConnection) (vs : List Verdict) → StandsForConnection k seat next heard h b → IsAnswered heard b vs → (us : List Verdict) × AreKnown h us
  known_of b h vs s a =
      let f = all-full heard (keys_of b.talk.pending) h.verdicts vs s.verdicts a.each in
      let n = counted b.talk.at.standing.submitted (length h.verdicts) (setting_of k seat b.serial) s.message b.talk.at.standing.phase b.talk.pending s.numbered s.awaited (sym s.to_put ∙ a.put) in
      let r = s.verdicts.few in
      let t = ap (λ (ss : List Submission). length (keys_of ss)) s.pending in
      (f.0, record { all = omega (arith, n, r, t); each = f.1 })

  -- what is known was heard
  answered_of : (b : Caller) (h : HouseConnection) (vs : List Verdict) → StandsForConnection k seat next heard h b → AreKnown h vs → IsAnswered heard b vs
  answered_of b h vs s known =
      let a = known.all in
      let t = ap (λ (ss : List Submission). length (keys_of ss)) s.pending in
      let long : length (keys_of b.talk.pending) ≤ length h.verdicts = omega (arith, a, t) in
      record {
        put = s.to_put ∙ none-due (length h.verdicts) b.talk.pending long;
        each = heard-for heard (keys_of b.talk.pending) h.verdicts vs s.verdicts long known.each;
      }

  -- the verdicts are said
  pub said_verdicts : (b : Caller) (h : HouseConnection) (m : LmtpMachine) (vs : List Verdict) (said : List ℕ) → StandsForConnection k seat next heard h b → 0 < length b.talk.pending → length h.machine.pending ≡ 1 → AreKnown h vs
      → m.setting ≡ h.machine.setting → m.host ≡ h.machine.host → m.pending ≡ []
      → ((d : Directory) (c : Conversation) → StandsFor h.machine c → Happens (StandsFor m) h.machine.setting h.machine.host d c (dialogue.Answered vs) h.unsaid said)
      → SaidVerdicts k seat next heard b vs (record { serial = h.serial; gone = h.gone; machine = m; waits = h.waits; unsaid = said; verdicts = [] })
  said_verdicts b h m vs said s more one known es eh quiet happens =
      let o = the_one (setting_of k seat b.serial) (length k.directory.homes) s.message b.talk.at.standing.submitted b.talk.at.standing.phase b.talk.pending (ap (λ (x : List Submission). length x) (sym s.pending) ∙ one) s.numbered s.awaited in
      let c = ap (drop (length h.verdicts)) (copies-one b.talk.pending o.0 o.1) in
      let q = ap (λ (ks : List CopyKey). length ks) (ap keys_of s.pending ∙ keys-one b.talk.pending o.0 o.1) in
      let a = known.all in
      let put : b.to_put ≡ [] = s.to_put ∙ c ∙ no-key (length h.verdicts) o.0.keys o.0.mailboxes o.0.text no_flags (omega (arith, a, q)) in
      let long : length (keys_of b.talk.pending) ≤ length h.verdicts = let r = ap (λ (ss : List Submission). length (keys_of ss)) s.pending in omega (arith, a, r) in
      let h1 = happens k.directory b.talk.at s.machine in
      let h2 = subst (λ (n : List ℕ). Happens (StandsFor m) (setting_of k seat b.serial) n k.directory b.talk.at (dialogue.Answered vs) h.unsaid said) s.host (subst (λ (x : Setting). Happens (StandsFor m) x h.machine.host k.directory b.talk.at (dialogue.Answered vs) h.unsaid said) s.setting h1) in
      record {
        answered = record { put = put; each = heard-for heard (keys_of b.talk.pending) h.verdicts vs s.verdicts long known.each };
        stands = record {
          serial = s.serial;
          gone = s.gone;
          setting = es ∙ s.setting;
          host = eh ∙ s.host;
          machine = h2.stands;
          waits = s.waits;
          unsaid = h2.said ∙ ap (λ (l : List ℕ). l ++ wire k.host (on_event (setting_of k seat b.serial) k.directory b.talk.at.standing (dialogue.Answered vs)).replies) s.unsaid;
          pending = quiet;
          to_put = refl;
          verdicts = no-slots heard [];
          awaited = λ n e. answered_phase vs b.talk.at.standing.phase _ n o.4 e;
          kept = (event_keeps (setting_of k seat b.serial) k.directory b.talk.at.standing (dialogue.Answered vs) s.kept).kept;
          message = (on_event (setting_of k seat b.serial) k.directory b.talk.at.standing (dialogue.Answered vs)).standing.submitted;
          numbered = refl;
          ahead = later-message next seat b.serial s.message _ (length h.verdicts) s.ahead (answered_number vs b.talk.at.standing.phase b.talk.at.standing.submitted s.message _ o.4 o.3);
        };
      }
    where
      answered_phase : (vs : List Verdict) (phase : Phase) (count n : ℕ) → phase ≡ Waiting count → (dialogue.on_verdicts phase b.talk.at.standing.submitted vs).standing.phase ≡ Waiting n → ⊥
      answered_phase vs phase count n e f = let x : Ready ≡ Waiting n = sym (ap (λ (p : Phase). (dialogue.on_verdicts p b.talk.at.standing.submitted vs).standing.phase) e) ∙ f in cc

      answered_number : (vs : List Verdict) (phase : Phase) (submitted message count : ℕ) → phase ≡ Waiting count → message + 1 ≡ submitted → message < (dialogue.on_verdicts phase submitted vs).standing.submitted
      answered_number vs phase submitted message count e f = let x : (dialogue.on_verdicts phase submitted vs).standing.submitted ≡ submitted = ap (λ (p : Phase). (dialogue.on_verdicts p submitted vs).standing.submitted) e in omega (arith, x, f)

  -- ---- going on

  pub went_works : (whole : Bool) (b : Caller) (h new_h : HouseConnection) (what : What) → StandsForConnection k seat next heard h b → h.machine.pending ≡ []
      → WorkedOff k whole seat next heard b what new_h → WentOn k whole seat next heard b what new_h
  went_works whole b h new_h what s quiet w = record { after = w.after; goes = works (sym s.pending ∙ quiet) w.works; stands = w.stands }

  some_pending : (ss ts : List Submission) → ss ≡ ts → length ss ≡ 1 → 0 < length ts
  some_pending ss ts e h = let l = ap (λ (x : List Submission). length x) e in omega (arith, l, h)

  pub went_answers : (whole : Bool) (b : Caller) (vs : List Verdict) (h m new_h : HouseConnection) (what : What) → StandsForConnection k seat next heard h b → length h.machine.pending ≡ 1
      → SaidVerdicts k seat next heard b vs m → WorkedOff k whole seat next heard (meets k seat b (dialogue.Answered vs)) what new_h → WentOn k whole seat next heard b what new_h
  went_answers whole b vs h m new_h what s one said w =
      record { after = w.after; goes = answers vs (some_pending _ _ s.pending one) said.answered w.works; stands = w.stands }

  -- before every verdict is known nothing is done
  pub went_waits : (b : Caller) (h : HouseConnection) → StandsForConnection k seat next heard h b → length h.machine.pending ≡ 1
      → ((vs : List Verdict) → AreKnown h vs → ⊥) → WentOn k true seat next heard b Submit h
  went_waits b h s one unknown = record {
    after = b;
    goes = waits (some_pending _ _ s.pending one) (λ vs a. let u = known_of b h vs s a in unknown u.0 u.1) refl refl;
    stands = s;
  }

  -- ---- a caller whose peer may be gone

  pub proceeds : (whole : Bool) (b : Caller) (what : What) (h new_h : HouseConnection) → StandsForConnection k seat next heard h b → h.gone ≡ false
      → WentOn k whole seat next heard b what new_h → Proceeded k whole seat next heard b what new_h
  proceeds whole b what h new_h s live w = record { after = w.after; proceeds = talks (sym s.gone ∙ live) w.goes; stands = w.stands }

  pub lingered : (b : Caller) (h : HouseConnection) → StandsForConnection k seat next heard h b → h.gone ≡ true → h.unsaid ≡ [] → ((vs : List Verdict) → AreKnown h vs → ⊥) → Proceeded k true seat next heard b Submit h
  lingered b h s gone silent unknown = record {
    after = b;
    proceeds = lingers (sym s.gone ∙ gone) (sym s.unsaid ∙ silent) (λ vs a. let u = known_of b h vs s a in unknown u.0 u.1) refl refl;
    stands = s;
  }

  pub faded : (b : Caller) (h : HouseConnection) → StandsForConnection k seat next heard h b → h.gone ≡ true → h.unsaid ≡ [] → ((vs : List Verdict) × AreKnown h vs) → Proceeded k true seat next heard b Quit h
  faded b h s gone silent known = record {
    after = b;
    proceeds = fades known.0 (sym s.gone ∙ gone) (sym s.unsaid ∙ silent) (answered_of b h known.0 s known.1) refl refl;
    stands = s;
  }

  pub unread_stands : (h : HouseConnection) (b : Caller) → StandsForConnection k seat next heard h b → StandsForConnection k seat next heard (with_nobody_there h) (unread b)
  unread_stands h b s = record {
    serial = s.serial;
    gone = refl;
    setting = s.setting;
    host = s.host;
    machine = s.machine;
    waits = refl;
    unsaid = refl;
    pending = s.pending;
    to_put = s.to_put;
    verdicts = s.verdicts;
    awaited = s.awaited;
    kept = s.kept;
    message = s.message;
    numbered = s.numbered;
    ahead = s.ahead;
  }

  -- all that it said is printed
  pub printed_stands : (h : HouseConnection) (b : Caller) → StandsForConnection k seat next heard h b → StandsForConnection k seat next heard (with_all_said h) (with_unsaid [] b)
  printed_stands h b s = record {
    serial = s.serial;
    gone = s.gone;
    setting = s.setting;
    host = s.host;
    machine = s.machine;
    waits = s.waits;
    unsaid = refl;
    pending = s.pending;
    to_put = s.to_put;
    verdicts = s.verdicts;
    awaited = s.awaited;
    kept = s.kept;
    message = s.message;
    numbered = s.numbered;
    ahead = s.ahead;
  }

  -- ---- a new connection

  pub opened_stands : (serial limit : ℕ) (host said : List ℕ) (m n : LmtpMachine) → StandsFor m opened → m.setting ≡ record { seat = seat; serial = serial; max_message = limit } → m.host ≡ host → m.pending ≡ []
      → ((d : Directory) (c : Conversation) → StandsFor m c → Happens (StandsFor n) m.setting m.host d c dialogue.Opened [] said) → n.setting ≡ m.setting → n.host ≡ m.host → n.pending ≡ m.pending
      → k.host ≡ host → k.max_message ≡ limit → AtLeast next (record { seat = seat; serial = serial; message = 0; recipient = 0 })
      → StandsForConnection k seat next heard (record { serial = serial; gone = false; machine = n; waits = []; unsaid = said; verdicts = [] }) (greeted k seat serial)
  opened_stands serial limit host said m n st es eh quiet happens ss sh sp kh kl ahead =
      let set : m.setting ≡ setting_of k seat serial = es ∙ ap (λ (l : ℕ). record { seat = seat; serial = serial; max_message = l }) (sym kl) in
      let h1 = happens k.directory opened st in
      let h2 = subst (λ (x : List ℕ). Happens (StandsFor n) (setting_of k seat serial) x k.directory opened dialogue.Opened [] said) (eh ∙ sym kh) (subst (λ (x : Setting). Happens (StandsFor n) x m.host k.directory opened dialogue.Opened [] said) set h1) in
      record {
        serial = refl;
        gone = refl;
        setting = ss ∙ set;
        host = sh ∙ eh ∙ sym kh;
        machine = h2.stands;
        waits = refl;
        unsaid = h2.said;
        pending = sp ∙ quiet;
        to_put = refl;
        verdicts = no-slots heard [];
        awaited = λ n e. let x : Start ≡ Waiting n = e in cc;
        kept = record { here = omega arith };
        message = 0;
        numbered = refl;
        ahead = ahead;
      }

-- ---- shards that are shut

-- the same terms, where these shards are shut
abbrev pub under : List Bool → Terms → Terms
under shut k = record k { directory = marked shut k.directory }

-- a connection that stands for a caller does so whichever shards are shut
pub stands_marked : (k : Terms) (shut : List Bool) (seat : ℕ) (next : CopyKey) (heard : List Noted) (h : HouseConnection) (b : Caller)
    → StandsForConnection k seat next heard h b → StandsForConnection (under shut k) seat next heard h b
stands_marked k shut seat next heard h b s = record {
  serial = s.serial;
  gone = s.gone;
  setting = s.setting;
  host = s.host;
  machine = s.machine;
  waits = s.waits;
  unsaid = s.unsaid;
  pending = s.pending;
  to_put = s.to_put;
  verdicts = s.verdicts;
  awaited = s.awaited;
  kept = s.kept;
  message = s.message;
  numbered = s.numbered;
  ahead = s.ahead;
}
