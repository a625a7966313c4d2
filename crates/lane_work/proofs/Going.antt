-- A connection over a stream, read by read.
use Rattle.std.proofs.Common.{◌≡◌, ◌≢◌, ◌⊎◌, inl, inr, ℕ, suc, zero, ◌+◌, ◌++◌, ◌∙◌, ap, refl, sym, subst, List, [], ◌∷◌, length, take, Bool, true, false, append_assoc, append-nil, length-append, Option, None, Some, Result, Ok, Err, arith}
use Rattle.std.specs.Io.KnownBytes.{Appends, Consumes, Keeps}
use Rattle.std.proofs.KnownBytes.{Consumes-nil, Consumes-trans, Consumes-kept, Appends-nil, Appends-trans}
use Rattle.std.proofs.lemmas.List.Concat.{flat_map-append}
use Rattle.delivery_token.specs.declared.Job.{Job}
use Rattle.delivery_token.specs.declared.Verdict.{Verdict}
use Rattle.delivery_token.specs.declared.log.Noted.{Noted}
use Rattle.line_io.specs.Wire.{crlf}
use Rattle.lmtp_machine.specs.declared.commands.Stage.TheVariants as stages
use Rattle.lmtp_machine.specs.declared.reply.Reply.{Reply}
use Rattle.lmtp_machine.specs.declared.reply.Reply.TheVariants.{Greeting}
use Rattle.lmtp_machine.specs.Conversation.{Conversation, opened}
use Rattle.lmtp_machine.specs.Dialogue.{Ended, Phase, Setting, reply_text, wire}
use Rattle.lmtp_machine.specs.LmtpMachine.{LmtpMachine, StandsFor}
use Rattle.shard_queue.specs.declared.lane.Entry.{Entry}
use Rattle.lane_work.specs.Talk.{Judged, HasTaken, greeted}
use Rattle.lane_work.specs.Account.{AreBooks, Premises}
use Rattle.lane_work.specs.Speaking.{Stands}
use Rattle.lane_work.specs.declared.outcome.Ending.{Ending}
use Rattle.lane_work.specs.declared.outcome.Ending.TheVariants.{Quit, Gone, Stopped}
use Rattle.lane_work.specs.declared.outcome.TalkFault.{TalkFault}
use Rattle.lane_work.specs.declared.outcome.TalkFault.TheVariants.{Read, Write, NoMemory, Torn}
use Rattle.lane_work.specs.declared.piece.Next.TheVariants as nexts
use Rattle.lane_work.specs.inner.Pieces.{TookPiece, SaidByThen}
use Rattle.lane_work.specs.Streaming.{AreSent, AreCutShort, AreGivenUp, SaysLast, EndsBy, IsPlayed}
use Rattle.lane_work.specs.Talk.{last_words}
use Rattle.lane_work.proofs.LastWords.{goes_on}

-- Between two reads: `told` was sent, and `out` is still to be sent. All that came was taken, where the dialogue goes on.
pub record Goes (house : Premises) (seat : ℕ) (done : List Judged) (stream rest before after : Option (List ℕ)) (m : LmtpMachine) (out : List ℕ) (keeps : List (Job × Verdict) → Type 0) (heard : List (Entry Noted)) (sent : List (List (Entry Job))) : Type 0 where
  pub came : List ℕ
  pub taken : List ℕ
  pub dropped : List ℕ
  pub told : List ℕ
  pub over : Bool
  pub read : Consumes stream rest came
  pub whole : came ≡ taken ++ dropped
  pub all : (dropped ≡ []) ⊎ (over ≡ true)
  pub sunk : Appends before after told
  pub stands : Stands house.directory house.directory house.rooms seat done taken over m (told ++ out) keeps heard sent

wire_more : (host : List ℕ) (one two : List Reply) → wire host (one ++ two) ≡ wire host one ++ wire host two
wire_more host one two = flat_map-append (λ reply. reply_text host reply ++ crlf) one two

pub keeps_of : (a b : Option (List ℕ)) → Consumes a b [] → Keeps a b
keeps_of None b c = tt
keeps_of (Some x) None c = absurd c
keeps_of (Some x) (Some y) c = sym c

take_behind : (n k : ℕ) (told more : List ℕ) → k ≡ length told + n → take k (told ++ more) ≡ told ++ take n more
take_behind n k [] more e = let same : k ≡ n = omega (arith, e) in ap (λ i. take i more) same
take_behind n zero (x ∷ told) more e = absurd (omega (arith, e))
take_behind n (suc k) (x ∷ told) more e = ap (λ l. x ∷ l) (take_behind n k told more (omega (arith, e)))

-- what is sent behind what was sent
module _ (before mid after : Option (List ℕ)) (failed : Bool) (told : List ℕ) (sunk : Appends before mid told) where
  pub sent_behind : (more : List ℕ) → AreSent mid after failed more → AreSent before after failed (told ++ more)
  sent_behind more s = (s.0, Appends-trans before mid after told more sunk s.1)

  pub cut_behind : (more : List ℕ) → AreCutShort mid after failed more → AreCutShort before after failed (told ++ more)
  cut_behind more (fails, n, under, appends) = (
    fails,
    length told + n,
    (let l = length-append told more in omega (arith, l, under)),
    subst (Appends before after) (sym (take_behind n (length told + n) told more refl)) (Appends-trans before mid after told (take n more) sunk appends),
  )

  pub given_up_behind : (more : List ℕ) → AreGivenUp mid after failed more → AreGivenUp before after failed (told ++ more)
  given_up_behind more (inl s) = inl (sent_behind more s)
  given_up_behind more (inr c) = inr (cut_behind more c)

module _ (house : Premises) (seat : ℕ) (done : List Judged) (stream before : Option (List ℕ)) where
  -- nothing was read yet, and nothing sent
  pub goes_begin : (m : LmtpMachine) (out : List ℕ) (keeps : List (Job × Verdict) → Type 0) (heard : List (Entry Noted)) (sent : List (List (Entry Job)))
      → Stands house.directory house.directory house.rooms seat done [] false m out keeps heard sent → Goes house seat done stream stream before before m out keeps heard sent
  goes_begin m out keeps heard sent s = record {
    came = [];
    taken = [];
    dropped = [];
    told = [];
    over = false;
    read = Consumes-nil stream;
    whole = refl;
    all = inl refl;
    sunk = Appends-nil before;
    stands = s;
  }

  -- all that was said is sent
  pub goes_sent : (rest mid after : Option (List ℕ)) (m : LmtpMachine) (out left : List ℕ) (keeps : List (Job × Verdict) → Type 0) (heard : List (Entry Noted)) (sent : List (List (Entry Job)))
      → left ≡ [] → Appends mid after out
      → Goes house seat done stream rest before mid m out keeps heard sent → Goes house seat done stream rest before after m left keeps heard sent
  goes_sent rest mid after m out left keeps heard sent none appends g = record {
    came = g.came;
    taken = g.taken;
    dropped = g.dropped;
    told = g.told ++ out;
    over = g.over;
    read = g.read;
    whole = g.whole;
    all = g.all;
    sunk = Appends-trans before mid after g.told out g.sunk appends;
    stands = subst (λ l. Stands house.directory house.directory house.rooms seat done g.taken g.over m l keeps heard sent) (sym (append-nil (g.told ++ out)) ∙ ap (λ l. (g.told ++ out) ++ l) (sym none)) g.stands;
  }

  -- a new connection was greeted
  pub begun : (m : LmtpMachine) (out : List ℕ) (keeps : List (Job × Verdict) → Type 0) (heard : List (Entry Noted)) (sent : List (List (Entry Job))) → StandsFor m opened → out ≡ wire m.host (Greeting ∷ [])
      → AreBooks house.directory house.rooms seat done keeps heard sent → Stands house.directory house.directory house.rooms seat done [] false m out keeps heard sent
  begun m out keeps heard sent stands said books = record {
    said = Greeting ∷ [];
    judged = [];
    at = opened;
    talk = greeted;
    machine = stands;
    ended = λ e. absurd (let x : false ≡ true = e in cc);
    replies = said;
    books = subst (λ l. AreBooks house.directory house.rooms seat l keeps heard sent) (sym (append-nil done)) books;
  }

  -- memory was refused before it was greeted
  pub ends_unopened : (setting : Setting) (failed : Bool) (keeps : List (Job × Verdict) → Type 0) (heard : List (Entry Noted)) (sent : List (List (Entry Job))) → failed ≡ false
      → AreBooks house.directory house.rooms seat done keeps heard sent → IsPlayed house setting seat done stream stream before before failed keeps heard sent (Err NoMemory)
  ends_unopened setting failed keeps heard sent live books = record {
    came = [];
    taken = [];
    dropped = [];
    said = Greeting ∷ [];
    judged = [];
    at = opened;
    read = Consumes-nil stream;
    whole = refl;
    talk = greeted;
    ends = inr (refl, (live, Appends-nil before));
    books = λ _. subst (λ l. AreBooks house.directory house.rooms seat l keeps heard sent) (sym (append-nil done)) books;
  }

  module _ (rest after : Option (List ℕ)) (m : LmtpMachine) (out : List ℕ) (keeps : List (Job × Verdict) → Type 0) (heard : List (Entry Noted)) (sent : List (List (Entry Job))) where
    -- where the dialogue goes on
    pub going : (g : Goes house seat done stream rest before after m out keeps heard sent) → (m.commands.stage ≡ stages.Ended → ⊥)
        → (g.dropped ≡ []) × (g.stands.at.standing.phase ≢ Ended) × (g.over ≡ false)
    going g not =
        let still = goes_on m g.stands.at not g.stands.machine in
        let unended : g.over ≡ true → ⊥ = λ e. still (g.stands.ended e) in
        (none g.dropped g.over g.all unended, still, is_false g.over unended) where
          none : (l : List ℕ) (over : Bool) → (l ≡ []) ⊎ (over ≡ true) → (over ≡ true → ⊥) → l ≡ []
          none l over (inl e) no_end = e
          none l over (inr e) no_end = absurd (no_end e)

          is_false : (b : Bool) → (b ≡ true → ⊥) → b ≡ false
          is_false true no_end = absurd (no_end refl)
          is_false false no_end = refl

    -- so it stood, when this was read
    pub stood : (g : Goes house seat done stream rest before after m out keeps heard sent) → (m.commands.stage ≡ stages.Ended → ⊥)
        → Stands house.directory house.directory house.rooms seat done g.taken false m (g.told ++ out) keeps heard sent
    stood g not = subst (λ b. Stands house.directory house.directory house.rooms seat done g.taken b m (g.told ++ out) keeps heard sent) (going g not).2 g.stands

    -- all that came was taken
    pub all_taken : (g : Goes house seat done stream rest before after m out keeps heard sent) → (m.commands.stage ≡ stages.Ended → ⊥) → g.came ≡ g.taken
    all_taken g not = g.whole ∙ ap (λ l. g.taken ++ l) (going g not).0 ∙ append-nil g.taken

    -- this piece was read behind it
    pub more_read : (g : Goes house seat done stream rest before after m out keeps heard sent) → (m.commands.stage ≡ stages.Ended → ⊥)
        → (less : Option (List ℕ)) (piece taken left : List ℕ) → Consumes rest less piece → piece ≡ taken ++ left
        → Consumes stream less (g.came ++ piece) × (g.came ++ piece ≡ (g.taken ++ taken) ++ left)
    more_read g not less piece taken left c whole = (
      Consumes-trans stream rest less g.came piece g.read c,
      ap (λ l. l ++ piece) (all_taken g not) ∙ ap (λ l. g.taken ++ l) whole ∙ sym (append_assoc g.taken taken left),
    )

    -- the piece was taken, and the next may be read
    pub goes_piece : (g : Goes house seat done stream rest before after m out keeps heard sent) → (m.commands.stage ≡ stages.Ended → ⊥)
        → (less : Option (List ℕ)) (piece : List ℕ) (m' : LmtpMachine) (out' : List ℕ) (keeps' : List (Job × Verdict) → Type 0) (heard' : List (Entry Noted)) (sent' : List (List (Entry Job)))
        → Consumes rest less piece → TookPiece house.directory house.rooms seat done g.taken piece nexts.Read m' (g.told ++ out') keeps' heard' sent'
        → Goes house seat done stream less before after m' out' keeps' heard' sent'
    goes_piece g not less piece m' out' keeps' heard' sent' c t =
        let more = more_read g not less piece t.taken t.left c t.whole in
        record {
          came = g.came ++ piece;
          taken = g.taken ++ t.taken;
          dropped = t.left;
          told = g.told;
          over = t.over;
          read = more.0;
          whole = more.1;
          all = t.all refl;
          sunk = g.sunk;
          stands = t.stands;
        }

    -- all was sent before, and here it ends
    pub ends_here : (g : Goes house seat done stream rest before after m out keeps heard sent) (less : Option (List ℕ)) (setting : Setting) (failed : Bool) (result : Result Ending TalkFault)
        → out ≡ [] → m.setting ≡ setting → m.host ≡ house.host → failed ≡ false → Keeps rest less
        → (AreSent before after failed (wire house.host g.stands.said) → EndsBy before after failed house.host less g.came g.dropped g.stands.said g.stands.at.standing.phase result)
        → IsPlayed house setting seat done stream less before after failed keeps heard sent result
    ends_here g less setting failed result none set same live stays ends = record {
      came = g.came;
      taken = g.taken;
      dropped = g.dropped;
      said = g.stands.said;
      judged = g.stands.judged;
      at = g.stands.at;
      read = Consumes-kept stream rest less g.came g.read stays;
      whole = g.whole;
      talk = subst (λ x. HasTaken x house.directory g.taken g.stands.said g.stands.judged g.stands.at) set g.stands.talk;
      ends = ends (live, subst (Appends before after) (sym (append-nil g.told) ∙ ap (λ l. g.told ++ l) (sym none) ∙ g.stands.replies ∙ ap (λ h. wire h g.stands.said) same) g.sunk);
      books = λ _. g.stands.books;
    }

    -- the sink failed
    pub ends_cut : (g : Goes house seat done stream rest before after m out keeps heard sent) (final : Option (List ℕ)) (setting : Setting) (failed : Bool)
        → m.setting ≡ setting → m.host ≡ house.host → AreCutShort after final failed out
        → IsPlayed house setting seat done stream rest before final failed keeps heard sent (Err Write)
    ends_cut g final setting failed set same cut = record {
      came = g.came;
      taken = g.taken;
      dropped = g.dropped;
      said = g.stands.said;
      judged = g.stands.judged;
      at = g.stands.at;
      read = g.read;
      whole = g.whole;
      talk = subst (λ x. HasTaken x house.directory g.taken g.stands.said g.stands.judged g.stands.at) set g.stands.talk;
      ends = inl (subst (AreCutShort before final failed) (g.stands.replies ∙ ap (λ h. wire h g.stands.said) same) (cut_behind before after final failed g.told g.sunk out cut));
      books = λ _. g.stands.books;
    }

    -- the house stops: the piece was taken so far, and what is said last was offered
    pub ends_shut : (g : Goes house seat done stream rest before after m out keeps heard sent) → (m.commands.stage ≡ stages.Ended → ⊥)
        → (less final : Option (List ℕ)) (failed : Bool) (setting : Setting) (piece : List ℕ) (m' : LmtpMachine) (out' : List ℕ) (keeps' : List (Job × Verdict) → Type 0) (heard' : List (Entry Noted)) (sent' : List (List (Entry Job))) (result : Result Ending TalkFault)
        → m'.setting ≡ setting → m'.host ≡ house.host
        → Consumes rest less piece → TookPiece house.directory house.rooms seat done g.taken piece nexts.Shut m' (g.told ++ out') keeps' heard' sent'
        → ((c : Conversation) → StandsFor m' c → SaysLast after final failed m'.host out' c.standing.phase result)
        → IsPlayed house setting seat done stream less before final failed keeps' heard' sent' result
    ends_shut g not less final failed setting piece m' out' keeps' heard' sent' result set same c t says =
        let more = more_read g not less piece t.taken t.left c t.whole in
        let s = t.stands in
        record {
          came = g.came ++ piece;
          taken = g.taken ++ t.taken;
          dropped = t.left;
          said = s.said;
          judged = s.judged;
          at = s.at;
          read = more.0;
          whole = more.1;
          talk = subst (λ x. HasTaken x house.directory (g.taken ++ t.taken) s.said s.judged s.at) set s.talk;
          ends = how s.said s.at.standing.phase result s.replies (says s.at s.machine);
          books = λ _. s.books;
        } where
          all_of : (said : List Reply) (phase : Phase) → g.told ++ out' ≡ wire m'.host said → g.told ++ (out' ++ wire m'.host (last_words phase)) ≡ wire house.host (said ++ last_words phase)
          all_of said phase replies =
              sym (append_assoc g.told out' (wire m'.host (last_words phase))) ∙ ap (λ l. l ++ wire m'.host (last_words phase)) replies
              ∙ sym (wire_more m'.host said (last_words phase)) ∙ ap (λ h. wire h (said ++ last_words phase)) same

          how : (said : List Reply) (phase : Phase) (r : Result Ending TalkFault) → g.told ++ out' ≡ wire m'.host said
              → SaysLast after final failed m'.host out' phase r → EndsBy before final failed house.host less (g.came ++ piece) t.left said phase r
          how said phase (Ok Quit) replies h = absurd h
          how said phase (Ok Gone) replies h = absurd h
          how said phase (Ok Stopped) replies h = subst (AreSent before final failed) (all_of said phase replies) (sent_behind before after final failed g.told g.sunk _ h)
          how said phase (Err Read) replies h = absurd h
          how said phase (Err Write) replies h = inr (subst (AreCutShort before final failed) (all_of said phase replies) (cut_behind before after final failed g.told g.sunk _ h))
          how said phase (Err NoMemory) replies h = inl (subst (AreGivenUp before final failed) (replies ∙ ap (λ x. wire x said) same) (given_up_behind before after final failed g.told g.sunk _ h))
          how said phase (Err Torn) replies h = absurd h

    -- memory was refused, and what was said by final was offered
    pub ends_wanting : (g : Goes house seat done stream rest before after m out keeps heard sent) → (m.commands.stage ≡ stages.Ended → ⊥)
        → (less final : Option (List ℕ)) (failed : Bool) (setting : Setting) (piece out' : List ℕ) (keeps' : List (Job × Verdict) → Type 0) (heard' : List (Entry Noted)) (sent' : List (List (Entry Job)))
        → m.setting ≡ setting → m.host ≡ house.host
        → Consumes rest less piece → SaidByThen m.setting m.host house.directory house.rooms seat done g.taken piece (g.told ++ out') keeps' heard' sent'
        → AreGivenUp after final failed out'
        → IsPlayed house setting seat done stream less before final failed keeps' heard' sent' (Err NoMemory)
    ends_wanting g not less final failed setting piece out' keeps' heard' sent' set same c t given =
        let more = more_read g not less piece t.taken t.left c t.whole in
        record {
          came = g.came ++ piece;
          taken = g.taken ++ t.taken;
          dropped = t.left;
          said = t.said;
          judged = t.judged;
          at = t.at;
          read = more.0;
          whole = more.1;
          talk = subst (λ x. HasTaken x house.directory (g.taken ++ t.taken) t.said t.judged t.at) set t.talk;
          ends = inl (subst (AreGivenUp before final failed) (t.replies ∙ ap (λ x. wire x t.said) same) (given_up_behind before after final failed g.told g.sunk out' given));
          books = λ _. t.books;
        }

    -- a verdict came that wasn't awaited: of the piece nothing counts
    pub ends_torn : (g : Goes house seat done stream rest before after m out keeps heard sent) → (m.commands.stage ≡ stages.Ended → ⊥)
        → (less : Option (List ℕ)) (failed : Bool) (setting : Setting) (piece : List ℕ) (keeps' : List (Job × Verdict) → Type 0) (heard' : List (Entry Noted)) (sent' : List (List (Entry Job)))
        → out ≡ [] → m.setting ≡ setting → m.host ≡ house.host → failed ≡ false → Consumes rest less piece
        → IsPlayed house setting seat done stream less before after failed keeps' heard' sent' (Err Torn)
    ends_torn g not less failed setting piece keeps' heard' sent' none set same live c =
        let more = more_read g not less piece [] piece c refl in
        record {
          came = g.came ++ piece;
          taken = g.taken;
          dropped = piece;
          said = g.stands.said;
          judged = g.stands.judged;
          at = g.stands.at;
          read = more.0;
          whole = more.1 ∙ ap (λ l. l ++ piece) (append-nil g.taken);
          talk = subst (λ x. HasTaken x house.directory g.taken g.stands.said g.stands.judged g.stands.at) set g.stands.talk;
          ends = (live, subst (Appends before after) (sym (append-nil g.told) ∙ ap (λ l. g.told ++ l) (sym none) ∙ g.stands.replies ∙ ap (λ h. wire h g.stands.said) same) g.sunk);
          books = λ torn. absurd (torn refl);
        }
