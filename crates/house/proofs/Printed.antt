-- What connections and sessions did, and what the house printed of it.
use Rattle.std.specs.declared.alloc.AllocError.{AllocError}
use Rattle.std.proofs.Common.{Result, Ok, Err, OnOk, OnErr, ◌≡◌, ℕ, ◌+◌, Bool, true, false, List, [], ◌++◌, refl, sym, ap, ◌∙◌, subst, append-nil, Some, None}
use Rattle.delivery_token.specs.declared.CopyKey.{CopyKey}
use Rattle.delivery_token.specs.declared.log.Noted.{Noted}
use Rattle.line_io.specs.Wire.{marked}
use Rattle.lmtp_machine.specs.declared.connection.What.{What}
use Rattle.lmtp_machine.specs.declared.connection.What.TheVariants.{More, Submit, Quit}
use Rattle.imap_session.specs.Exchange.{Call, Answer}
use Rattle.house_peers.specs.HouseConnection.{HouseConnection}
use Rattle.house_peers.specs.Caller.{Caller, GoesOn, Proceeds, Terms, Works, answers, fades, lingers, stalls, talks, waits, with_unsaid, works}
use Rattle.house_peers.specs.ConnectionStands.{Proceeded}
use Rattle.house_peers.specs.Taking.{with_all_said}
use Rattle.house_peers.proofs.Connections.{printed_stands}
use Rattle.house_peers.specs.HouseSession.{with_all_said as with_all_said_at}
use Rattle.house_peers.specs.SeatedSession.{Proceeded as SessionProceeded, SeatedSession, SeatedTurned, StandsForSeated, with_place}
use Rattle.house_peers.specs.Visitor as seated
use Rattle.house_peers.specs.Visitor.{SeatedVisitor}
use Rattle.house.specs.Printing.{goes, of_connection, of_session, prints_all, prints_none, stays, with_session}
use Rattle.house.specs.inner.Printing.{still_unsaid}
use Rattle.house.specs.inner.Printing.{Idled, WentOn}
use Rattle.house.specs.inner.Steps.{ConnectionWent}

-- ---- what a whole turn does, one that is cut short may do as well

works_part : (k : Terms) (seat : ℕ) (b : Caller) (what : What) (after : Caller) → Works k true seat b what after → Works k false seat b what after
works_part k seat b what after w = record { turn = w.turn; talk = w.talk; works = w.works; said = w.said; all = λ x. absurd (let y : false ≡ true = x in cc); is = w.is }

goes_part : (k : Terms) (seat : ℕ) (heard : List Noted) (b : Caller) (what : What) (after : Caller) → GoesOn k true seat heard b what after → GoesOn k false seat heard b what after
goes_part k seat heard b what after (works e w) = works e (works_part k seat b what after w)
goes_part k seat heard b what after (waits l n e f) = waits l n e f
goes_part k seat heard b what after (answers vs l a w) = answers vs l a (works_part k seat _ what after w)
goes_part k seat heard b what after (stalls w e f) = cc

pub proceeds_part : (k : Terms) (seat : ℕ) (heard : List Noted) (b : Caller) (what : What) (after : Caller) → Proceeds k true seat heard b what after → Proceeds k false seat heard b what after
proceeds_part k seat heard b what after (talks l g) = talks l (goes_part k seat heard b what after g)
proceeds_part k seat heard b what after (lingers g u n e f) = lingers g u n e f
proceeds_part k seat heard b what after (fades vs g u a e f) = fades vs g u a e f

-- ---- connections

module _ (k : Terms) (seat : ℕ) (next : CopyKey) (heard : List Noted) where
  marks : (number : ℕ) (h : HouseConnection) (after : Caller) → number ≡ seat + 1 → h.unsaid ≡ after.talk.unsaid → marked of_connection number h.unsaid ≡ marked of_connection (seat + 1) after.talk.unsaid
  marks number h after e f = ap (λ (n : ℕ). marked of_connection n h.unsaid) e ∙ ap (marked of_connection (seat + 1)) f

  -- all was done, and all is printed
  pub went : (number : ℕ) (b : Caller) (what : What) (h : HouseConnection) (old new : List ℕ) → number ≡ seat + 1 → Proceeded k true seat next heard b what h → new ≡ old ++ marked of_connection number h.unsaid
      → ConnectionWent k true seat next heard b what (with_all_said h) old new
  went number b Quit h old new e p o = record {
    left = None;
    printed = marked of_connection number h.unsaid;
    goes = record { what = Quit; after = p.after; proceeds = p.proceeds; still = []; prints = prints_all refl (marks number h p.after e p.stands.unsaid); all = λ w. refl; leaves = goes refl refl refl };
    there = refl;
    out = o;
  }
  went number b More h old new e p o = record {
    left = Some (with_unsaid [] p.after);
    printed = marked of_connection number h.unsaid;
    goes = record {
      what = More;
      after = p.after;
      proceeds = p.proceeds;
      still = [];
      prints = prints_all refl (marks number h p.after e p.stands.unsaid);
      all = λ w. refl;
      leaves = stays (λ q w. let x : More ≡ Quit = q in cc) (λ q g. let x : More ≡ Quit = q in cc) refl;
    };
    there = ((λ q. let x : More ≡ Quit = q in cc), printed_stands k seat next heard h p.after p.stands);
    out = o;
  }
  went number b Submit h old new e p o = record {
    left = Some (with_unsaid [] p.after);
    printed = marked of_connection number h.unsaid;
    goes = record {
      what = Submit;
      after = p.after;
      proceeds = p.proceeds;
      still = [];
      prints = prints_all refl (marks number h p.after e p.stands.unsaid);
      all = λ w. refl;
      leaves = stays (λ q w. let x : Submit ≡ Quit = q in cc) (λ q g. let x : Submit ≡ Quit = q in cc) refl;
    };
    there = ((λ q. let x : Submit ≡ Quit = q in cc), printed_stands k seat next heard h p.after p.stands);
    out = o;
  }

  -- memory was wanting, and what was said is printed
  pub went_in_part : (number : ℕ) (b : Caller) (what : What) (h : HouseConnection) (old new : List ℕ) → number ≡ seat + 1 → Proceeded k false seat next heard b what h → (h.gone ≡ true → ⊥)
      → new ≡ old ++ marked of_connection number h.unsaid → ConnectionWent k false seat next heard b More (with_all_said h) old new
  went_in_part number b what h old new e p live o = record {
    left = Some (with_unsaid [] p.after);
    printed = marked of_connection number h.unsaid;
    goes = record {
      what = what;
      after = p.after;
      proceeds = p.proceeds;
      still = [];
      prints = prints_all refl (marks number h p.after e p.stands.unsaid);
      all = λ w. refl;
      leaves = stays (λ q w. let x : false ≡ true = w in cc) (λ q g. live (p.stands.gone ∙ g)) refl;
    };
    there = ((λ q. let x : More ≡ Quit = q in cc), printed_stands k seat next heard h p.after p.stands);
    out = o;
  }

  -- printing was refused
  pub went_unprinted : (b : Caller) (what : What) (h : HouseConnection) (old new : List ℕ) → Proceeded k false seat next heard b what h → (h.gone ≡ true → ⊥) → new ≡ old
      → ConnectionWent k false seat next heard b More h old new
  went_unprinted b what h old new p live o = record {
    left = Some p.after;
    printed = [];
    goes = record {
      what = what;
      after = p.after;
      proceeds = p.proceeds;
      still = p.after.talk.unsaid;
      prints = prints_none refl refl;
      all = λ w. absurd (let x : false ≡ true = w in cc);
      leaves = stays (λ q w. let x : false ≡ true = w in cc) (λ q g. live (p.stands.gone ∙ g)) refl;
    };
    there = ((λ q. let x : More ≡ Quit = q in cc), p.stands);
    out = o ∙ sym (append-nil old);
  }

  -- the same, whatever came of printing
  pub part_printed : (number : ℕ) (b : Caller) (what : What) (h g : HouseConnection) (old new : List ℕ) → number ≡ seat + 1 → Proceeded k false seat next heard b what h → h.gone ≡ false
      → (r : Result Unit AllocError) → OnOk r ((g ≡ with_all_said h) × (new ≡ old ++ marked of_connection number h.unsaid)) → OnErr r ((g ≡ h) × (new ≡ old)) → ConnectionWent k false seat next heard b More g old new
  part_printed number b what h g old new e p live (Ok tt) ok err = subst (λ (x : HouseConnection). ConnectionWent k false seat next heard b More x old new) (sym ok.0) (went_in_part number b what h old new e p (λ x. let y : true ≡ false = sym x ∙ live in cc) ok.1)
  part_printed number b what h g old new e p live (Err fault) ok err = subst (λ (x : HouseConnection). ConnectionWent k false seat next heard b More x old new) (sym err.0) (went_unprinted b what h old new p (λ x. let y : true ≡ false = sym x ∙ live in cc) err.1)

  pub in_part : (b : Caller) (what : What) (h : HouseConnection) → Proceeded k true seat next heard b what h → Proceeded k false seat next heard b what h
  in_part b what h p = record { after = p.after; proceeds = proceeds_part k seat heard b what p.after p.proceeds; stands = p.stands }

-- ---- sessions

-- memory may have been wanting
pub said_in_part : {S : Type 0} (step : S → Call → Answer → S → Type 0) (seat : ℕ) (heard : List Noted) (v : SeatedVisitor) (old new : S) (after : SeatedVisitor) (said : List ℕ) → seated.GoesOn step true seat heard v old new after said
    → seated.GoesOn step false seat heard v old new after said
said_in_part step seat heard v old new after said (seated.works n w) = seated.works n w
said_in_part step seat heard v old new after said (seated.answers verdict mid first second how next still known a w e) = seated.answers verdict mid first second how next still known a w e
said_in_part step seat heard v old new after said (seated.waits a n e f) = seated.waits a n e f
said_in_part step seat heard v old new after said (seated.rests a n e f) = seated.rests a n e f
said_in_part step seat heard v old new after said (seated.stalls w n e f) = seated.stalls refl n e f

in_part_too : {S : Type 0} (step : S → Call → Answer → S → Type 0) (whole : Bool) (seat : ℕ) (heard : List Noted) (v : SeatedVisitor) (old new : S) (after : SeatedVisitor) (said : List ℕ) → seated.GoesOn step whole seat heard v old new after said
    → seated.GoesOn step false seat heard v old new after said
in_part_too step true seat heard v old new after said g = said_in_part step seat heard v old new after said g
in_part_too step false seat heard v old new after said g = g

-- a client that is there is spoken to
talking : {S : Type 0} (step : S → Call → Answer → S → Type 0) (whole : Bool) (seat : ℕ) (heard : List Noted) (v : SeatedVisitor) (old new : S) (after : SeatedVisitor) (said : List ℕ) → v.gone ≡ false → seated.Proceeds step whole seat heard v old new after said
    → seated.GoesOn step whole seat heard v old new after said
talking step whole seat heard v old new after said there (seated.talks l g) = g
talking step whole seat heard v old new after said there (seated.lingers l n e f) = absurd (let x : true ≡ false = sym l ∙ there in cc)

-- it stands for the session with its words, whatever of them is still to be printed
unsaid_stands : (seat : ℕ) (next : CopyKey) (heard : List Noted) (p : SeatedSession) (v : SeatedVisitor) → StandsForSeated seat next heard p v → StandsForSeated seat next heard p (still_unsaid v.session.unsaid v)
unsaid_stands seat next heard p v s = record {
  place = λ live. let x = s.place live in record { begun = x.begun; connection = x.connection; waits = x.waits; unsaid = x.unsaid };
  submitted = s.submitted;
  number = s.number;
  serial = s.serial;
  gone = s.gone;
  to_put = s.to_put;
  verdicts = s.verdicts;
  numbered = s.numbered;
  ahead = s.ahead;
}

all_said_stands : (seat : ℕ) (next : CopyKey) (heard : List Noted) (p : SeatedSession) (v : SeatedVisitor) → StandsForSeated seat next heard p v → StandsForSeated seat next heard (with_place (with_all_said_at p.place) p) (still_unsaid [] v)
all_said_stands seat next heard p v s = record {
  place = λ live. let x = s.place live in record { begun = x.begun; connection = x.connection; waits = x.waits; unsaid = refl };
  submitted = s.submitted;
  number = s.number;
  serial = s.serial;
  gone = s.gone;
  to_put = s.to_put;
  verdicts = s.verdicts;
  numbered = s.numbered;
  ahead = s.ahead;
}

-- all that was said is printed
pub went_on : {S : Type 0} (step : S → Call → Answer → S → Type 0) (whole : Bool) (seat n : ℕ) (next : CopyKey) (heard : List Noted) (v : SeatedVisitor) (old new : S) (text text_after : List ℕ) (p : SeatedSession) → v.gone ≡ false → p.gone ≡ false
    → SessionProceeded step whole seat next heard v old new p → text_after ≡ text ++ marked of_session n p.place.unsaid → WentOn step whole seat n next heard v old new text text_after (with_place (with_all_said_at p.place) p)
went_on step whole seat n next heard v old new text text_after p there live a printed = record {
  after = still_unsaid [] a.after;
  printed = marked of_session n p.place.unsaid;
  speaks = record {
    spoken = a.after;
    said = a.said;
    goes = talking step whole seat heard v old new a.after a.said there a.proceeds;
    still = [];
    prints = prints_all refl (ap (marked of_session n) ((a.stands.place live).unsaid ∙ a.kept));
    is = refl;
  };
  all = λ w. record { said = refl; answered = a.all w there };
  stands = all_said_stands seat next heard p a.after a.stands;
  out = printed;
}

-- a growth was refused
pub unprinted : {S : Type 0} (step : S → Call → Answer → S → Type 0) (whole : Bool) (seat n : ℕ) (next : CopyKey) (heard : List Noted) (v : SeatedVisitor) (old new : S) (text : List ℕ) (p : SeatedSession) → v.gone ≡ false
    → SessionProceeded step whole seat next heard v old new p → WentOn step false seat n next heard v old new text text p
unprinted step whole seat n next heard v old new text p there a = record {
  after = still_unsaid a.after.session.unsaid a.after;
  printed = [];
  speaks = record {
    spoken = a.after;
    said = a.said;
    goes = in_part_too step whole seat heard v old new a.after a.said (talking step whole seat heard v old new a.after a.said there a.proceeds);
    still = a.after.session.unsaid;
    prints = prints_none a.kept refl;
    is = refl;
  };
  all = λ e. absurd (let f : false ≡ true = e in cc);
  stands = unsaid_stands seat next heard p a.after a.stands;
  out = sym (append-nil text);
}

-- memory was refused before, whatever came of printing
pub session_part : {S : Type 0} (step : S → Call → Answer → S → Type 0) (seat n : ℕ) (next : CopyKey) (heard : List Noted) (v : SeatedVisitor) (old new : S) (text text_after : List ℕ) (p q : SeatedSession) → v.gone ≡ false → p.gone ≡ false
    → SessionProceeded step false seat next heard v old new p → (r : Result Unit AllocError) → OnOk r ((q ≡ with_place (with_all_said_at p.place) p) × (text_after ≡ text ++ marked of_session n p.place.unsaid)) → OnErr r ((q ≡ p) × (text_after ≡ text))
    → WentOn step false seat n next heard v old new text text_after q
session_part step seat n next heard v old new text text_after p q there live a (Ok tt) ok err =
    subst (λ (x : SeatedSession). WentOn step false seat n next heard v old new text text_after x) (sym ok.0) (went_on step false seat n next heard v old new text text_after p there live a ok.1)
session_part step seat n next heard v old new text text_after p q there live a (Err fault) ok err =
    subst (λ (x : SeatedSession). WentOn step false seat n next heard v old new text text_after x) (sym err.0)
    (subst (λ (t : List ℕ). WentOn step false seat n next heard v old new text t p) (sym err.1) (unprinted step false seat n next heard v old new text p there a))

-- all that was said in a turn is printed
pub idled : {S : Type 0} (step : S → Call → Answer → S → Type 0) (seat n count : ℕ) (next : CopyKey) (heard : List Noted) (v : SeatedVisitor) (old new : S) (text text_after : List ℕ) (p : SeatedSession) → p.gone ≡ false
    → SeatedTurned step count seat next heard v old new p → text_after ≡ text ++ marked of_session n p.place.unsaid
    → Idled step true seat n count next heard v old new text text_after (with_place (with_all_said_at p.place) p)
idled step seat n count next heard v old new text text_after p live t printed = record {
  after = record { standing = t.session.standing; waits = t.session.waits; unsaid = [] };
  printed = marked of_session n p.place.unsaid;
  idles = record { said = t.said; turned = t.turned; waits = t.waits; prints = prints_all refl (ap (marked of_session n) ((t.stands.place live).unsaid ∙ t.kept)) };
  all = λ w. refl;
  stands = all_said_stands seat next heard p (with_session t.session v) t.stands;
  out = printed;
}

pub idled_unprinted : {S : Type 0} (step : S → Call → Answer → S → Type 0) (seat n count : ℕ) (next : CopyKey) (heard : List Noted) (v : SeatedVisitor) (old new : S) (text : List ℕ) (p : SeatedSession) → SeatedTurned step count seat next heard v old new p
    → Idled step false seat n count next heard v old new text text p
idled_unprinted step seat n count next heard v old new text p t = record {
  after = t.session;
  printed = [];
  idles = record { said = t.said; turned = t.turned; waits = t.waits; prints = prints_none t.kept refl };
  all = λ w. absurd (let f : false ≡ true = w in cc);
  stands = t.stands;
  out = sym (append-nil text);
}
