-- The answers into which a record cuts what was printed are those that the bytes allow.
use Rattle.std.proofs.Common.{◌≡◌, inl, inr, ℕ, Bool, true, false, List, [], ◌∷◌, ◌++◌, refl, sym, ap, ◌∙◌, subst, Option, Some, None}
use Rattle.std.specs.Prelude.{Ok, flat_map, if◌then◌else◌}
use Rattle.mailbox.specs.declared.clients.Row.{Row}
use Rattle.world.specs.World.{Config, Event as WorldEvent, IsWorld, World}
use Rattle.imap_session.specs.Commands.{greeting}
use Rattle.imap_session.specs.Exchange.{Alter, Call, Count, Enter, Event as Happened, Expunge, Feed, Found, Leave, Look, Read, Answer as StoreAnswer, Entered, Looked, Counted, Altered, Expunged, Fed, Left, Refused, Starved, Standing, Turn, Discard, Discarded}
use Rattle.imap_session.specs.Happenings.{kept_tag, Answer, Happening, Heard, Line, Literal, LongLine, Told, Turned, Words, bytes_in, leads_to, told_line, told_of, whole_line}
use Rattle.imap_session.specs.Store.{Met}
use Rattle.house.specs.Meets.{Meets}
use Rattle.house.specs.Setup.{Setup}
use Rattle.imap_session.specs.Exchange as calls
use Rattle.laws_client.specs.ListTurns.{IsRead, IsRowOf, Sees, SeesAll}
use Rattle.laws_client.proofs.IdleTags.{AreTagsOf}
use Rattle.laws_client.specs.Cuts.{AnswersAreCut, AnswersWereCut, CutsSo, Cutter, EachIsOne, IsAnswered, IsOneAnswer, between, cut_between, cuts, ends, has_any, is_ended, leaves_open, opens}
use Rattle.laws_client.specs.HouseClients.{comes, others, turns}
use Rattle.laws_client.specs.HouseClients.{Lives}
use Rattle.laws_client.specs.ClientRecords.{first_words, shown_by_then, user_by_then}
use Rattle.laws_client.specs.HouseClients.{IsPrintable, first_standing}
use Rattle.laws_client.specs.Sizes.{HasShortTexts}
use Rattle.laws_client.specs.HouseClients.{HasSmallNumbers}
use Rattle.laws_client.specs.RecordTurns.{Stands}
use Rattle.laws_client.specs.Commands.{AreNames}
use Rattle.imap_grammar.specs.Reading.{read}
use Rattle.imap_grammar.specs.declared.command.Command.{Command}
use Rattle.laws_client.specs.Views.{view_of}
use Rattle.laws_client.proofs.Answered.{told_bytes}
use Rattle.laws_client.proofs.Boxes.{box_goes}
use Rattle.laws_client.proofs.CutBytes.{cuts-append}
use Rattle.laws_client.proofs.CutTexts.{server_passes}
use Rattle.imap_session.specs.declared.standing.Profile.{Profile}
use Rattle.imap_session.specs.declared.texts.ServerText.TheVariants as server
use Rattle.laws_client.proofs.CutTurns.{AreShort, IsShort, IsShortAnswer, OneOf, command_one, ended, kept_open, turn_cut}
use Rattle.laws_client.proofs.RecordKeeping.{clients_keep_up, clients_kept_up, short_steps, first_stands, texts_stay_short}
use Rattle.laws_client.proofs.LastLines.{IsWord}
use Rattle.laws_client.proofs.Living.{lives_known}
use Rattle.laws_client.proofs.Moved.{Calls, moved, moved_extends, sees_all, short_before, short_met}
use Rattle.laws_client.proofs.Names.{goes_extends}
use Rattle.laws_client.proofs.WordsCurrent.{lives_words}
use Rattle.laws_client.proofs.RecordWorlds.{Sound, sound_always}

-- ---- texts that are read are short

row_short : (uid : ℕ) (row : Option Row) → IsRowOf uid row → IsShort row
row_short uid None h = tt
row_short uid (Some row) h = h.1

found_short : (k : Config) (n : ℕ) (w : World) (call : Call) (row : Option Row) (v : World) → Meets k n w call (Found row) v → IsRead call row → IsShort row
found_short k n w (Enter i) row v m h = absurd m
found_short k n w (Look by_uid set) row v m h = absurd m
found_short k n w (Read uid mark) row v m h = row_short uid row h
found_short k n w (Count i) row v m h = absurd m
found_short k n w (Alter uid op) row v m h = absurd m
found_short k n w (Expunge uids) row v m h = absurd m
found_short k n w (Feed limit) row v m h = absurd m
found_short k n w (Leave remove) row v m h = absurd m
found_short k n w (Discard i uids) row v m h = absurd m

answer_short : (k : Config) (n : ℕ) (w : World) (call : Call) (answer : StoreAnswer) (v : World) (view new : List ℕ) → Meets k n w call answer v → Sees view (record { call = call; answer = answer }) new → IsShortAnswer answer
answer_short k n w call (Found row) v view new m s = found_short k n w call row v m s.fits
answer_short k n w call _ v view new m s = tt

all_short : (k : Config) (n : ℕ) (w : World) (events : List Happened) (v : World) (view new : List ℕ) → Met (Calls k n) w events v → SeesAll view events new → AreShort events
all_short k n w [] v view new met sees = tt
all_short k n w (e ∷ events) v view new (mid, one, more) (seen, s, rest) = (answer_short k n w e.call e.answer mid view seen one s, all_short k n mid events v seen new more rest)

-- ---- all that was told

one_more : (told : List Told) (one : Told) → EachIsOne told → IsOneAnswer (bytes_in one) → EachIsOne (told ++ one ∷ [])
one_more [] one h k = (k, tt)
one_more (t ∷ ts) one h k = (h.0, one_more ts one h.1 k)

lives_cut : (k : Config) (n : ℕ) (first : Standing) (began : World) {sent : List ℕ} {told : List Told} {now : Standing} {w : World} → HasSmallNumbers k → Sound k began → Stands first → AreTagsOf IsWord first
    → Lives k n first began sent told now w → HasShortTexts w → EachIsOne told
lives_cut k n first began h S stands words comes short = tt
lives_cut k n first began h S stands words (turns {told = told} {now = now} {w = w} lives happening bytes turn v timely sent printed e met) short =
    let short_w = short_met k n w turn.events v met short in
    let K = lives_known k n first began h S stands lives short_w in
    let sees = sees_all k n w turn.events v h K.sound short met in
    let one : IsOneAnswer turn.bytes = turn_cut now happening turn (lives_words k n first began words lives) K.stands.names e (all_short k n w turn.events v (view_of w n) (view_of v n) met sees) in
    one_more told (told_of now happening turn.bytes) (lives_cut k n first began h S stands words lives short_w) (subst IsOneAnswer (sym (told_bytes now happening turn.bytes)) one)
lives_cut k n first began h S stands words (others {told = told} {now = now} {w = w} lives event v o step) short =
    lives_cut k n first began h S stands words lives (short_before w v (λ m. goes_extends k (w.box m) (v.box m) (box_goes k w event v m step)) short)

-- ---- whose answers they are

-- one that was said to a command
abbrev IsOwn : Told → Type 0
IsOwn (Answer line bytes) = (tag : List ℕ) (command : Command) → read line ≡ Ok (tag, command) → IsAnswered tag command bytes
IsOwn (Words bytes) = Unit {0}

abbrev AreOwn : List Told → Type 0
AreOwn [] = Unit {0}
AreOwn (one ∷ told) = IsOwn one × AreOwn told

one_own : (told : List Told) (one : Told) → AreOwn told → IsOwn one → AreOwn (told ++ one ∷ [])
one_own [] one h k = (k, tt)
one_own (t ∷ ts) one h k = (h.0, one_own ts one h.1 k)

answered_so : (tag : List ℕ) (command : Command) (bytes : List ℕ) → OneOf tag (leaves_open command) bytes → IsAnswered tag command bytes
answered_so tag command bytes (kept_open p why) = inr (ap (λ (c : Cutter). has_any c.answers) (p [] []), why)
answered_so tag command bytes (ended p own) = inl (ap (λ (c : Cutter). has_any c.answers) (p [] []), own)

turn_own : (now : Standing) (happening : Happening) (turn : Turn) → AreNames now.folders → leads_to now happening ≡ Some turn → AreShort turn.events → IsOwn (told_of now happening turn.bytes)
turn_own now (Line line answers) turn names e short = by (whole_line now line) refl
  where
    by : (o : Option (List ℕ)) → whole_line now line ≡ o → IsOwn (told_line o turn.bytes)
    by (Some whole) came = λ tag command reads. answered_so tag command turn.bytes (command_one now line whole tag command answers turn names came reads e short)
    by None came = tt
turn_own now LongLine turn names e short = tt
turn_own now (Turned answers) turn names e short = tt
turn_own now (Literal kept bytes) turn names e short = tt
turn_own now (Heard verdict answers) turn names e short = tt

lives_own : (k : Config) (n : ℕ) (first : Standing) (began : World) {sent : List ℕ} {told : List Told} {now : Standing} {w : World} → HasSmallNumbers k → Sound k began → Stands first
    → Lives k n first began sent told now w → HasShortTexts w → AreOwn told
lives_own k n first began h S stands comes short = tt
lives_own k n first began h S stands (turns {told = told} {now = now} {w = w} lives happening bytes turn v timely sent printed e met) short =
    let short_w = short_met k n w turn.events v met short in
    let K = lives_known k n first began h S stands lives short_w in
    let sees = sees_all k n w turn.events v h K.sound short met in
    one_own told (told_of now happening turn.bytes) (lives_own k n first began h S stands lives short_w)
    (turn_own now happening turn K.stands.names e (all_short k n w turn.events v (view_of w n) (view_of v n) met sees))
lives_own k n first began h S stands (others {told = told} {now = now} {w = w} lives event v o step) short =
    lives_own k n first began h S stands lives (short_before w v (λ m. goes_extends k (w.box m) (v.box m) (box_goes k w event v m step)) short)

own_at : (before after : List Told) (one : Told) → AreOwn (before ++ one ∷ after) → IsOwn one
own_at [] after one h = h.0
own_at (t ∷ ts) after one h = own_at ts after one h.1

-- ---- the cut

-- a client that cuts the bytes cuts between the answers
cut_so : (begun : List ℕ) (answers : List (List ℕ)) (told : List Told) → EachIsOne told → cuts (between begun answers) (flat_map bytes_in told) ≡ cut_between begun answers told
cut_so begun answers [] h = refl
cut_so begun answers (one ∷ told) h =
    cuts-append (between begun answers) (bytes_in one) (flat_map bytes_in told) ∙ by h.0 (cut_so (begun ++ bytes_in one) answers told h.1) (cut_so [] (answers ++ (begun ++ bytes_in one) ∷ []) told h.1)
  where
    by : IsOneAnswer (bytes_in one) → cuts (between (begun ++ bytes_in one) answers) (flat_map bytes_in told) ≡ cut_between (begun ++ bytes_in one) answers told
        → cuts (between [] (answers ++ (begun ++ bytes_in one) ∷ [])) (flat_map bytes_in told) ≡ cut_between [] (answers ++ (begun ++ bytes_in one) ∷ []) told
        → cuts (cuts (between begun answers) (bytes_in one)) (flat_map bytes_in told) ≡ (if is_ended (bytes_in one) then cut_between [] (answers ++ (begun ++ bytes_in one) ∷ []) told else cut_between (begun ++ bytes_in one) answers told)
    by (opens p) open_rest ended_rest =
        let not : is_ended (bytes_in one) ≡ false = ap (λ (c : Cutter). has_any c.answers) (p [] []) in
        ap (λ (c : Cutter). cuts c (flat_map bytes_in told)) (p begun answers) ∙ open_rest
        ∙ sym (ap (λ (b : Bool). if b then cut_between [] (answers ++ (begun ++ bytes_in one) ∷ []) told else cut_between (begun ++ bytes_in one) answers told) not)
    by (ends p) open_rest ended_rest =
        let yes : is_ended (bytes_in one) ≡ true = ap (λ (c : Cutter). has_any c.answers) (p [] []) in
        ap (λ (c : Cutter). cuts c (flat_map bytes_in told)) (p begun answers) ∙ ended_rest
        ∙ sym (ap (λ (b : Bool). if b then cut_between [] (answers ++ (begun ++ bytes_in one) ∷ []) told else cut_between (begun ++ bytes_in one) answers told) yes)

-- the greeting and all that was told
cut_printed : (profile : Profile) (told : List Told) (printed : List ℕ) → EachIsOne told → greeting profile ++ flat_map bytes_in told ≡ printed → cuts (between [] []) printed ≡ cut_between (greeting profile) [] told
cut_printed profile told printed each e =
    ap (cuts (between [] [])) (sym e) ∙ cuts-append (between [] []) (greeting profile) (flat_map bytes_in told)
    ∙ ap (λ (c : Cutter). cuts c (flat_map bytes_in told)) (server_passes (server.Greeting profile) [] []) ∙ cut_so (greeting profile) [] told each

-- a life from its start to wherever it has come
cuts_so : (k : Setup) (place : ℕ) (user : List ℕ) (began : World) (events : List WorldEvent) {sent : List ℕ} {told : List Told} {now : Standing} {w : World} (printed : List ℕ) → IsPrintable k → IsWorld k.config events began
    → Lives k.config place (first_standing k user) began sent told now w → HasShortTexts w → first_words k user ++ flat_map bytes_in told ≡ printed → CutsSo (first_standing k user).profile told printed
cuts_so k place user began events {told = told} printed printable came lives short e =
    let sound = sound_always k.config events began printable.numbers came in
    let stands = first_stands k user printable in
    let each : EachIsOne told = lives_cut k.config place (first_standing k user) began printable.numbers sound stands (tt, tt, tt) lives short in record {
      each = each;
      own = λ before after line tag bytes command same reads.
          own_at before after (Answer line bytes) (subst AreOwn same (lives_own k.config place (first_standing k user) began printable.numbers sound stands lives short)) tag command reads;
      cut = cut_printed (first_standing k user).profile told printed each e;
    }

pub answers_are_cut : AnswersAreCut
answers_are_cut k entries t place v printable is there read =
    let keeps = clients_keep_up k entries t place v printable is there read in
    (keeps, cuts_so k place (user_by_then place [] entries) keeps.began keeps.events (shown_by_then place [] entries ++ v.session.unsaid) printable keeps.came keeps.lives (texts_stay_short k entries t printable.texts is) keeps.printed)

pub answers_were_cut : AnswersWereCut
answers_were_cut k entries t place printable is stays none =
    let kept = clients_kept_up k entries t place printable is stays none in
    let short : HasShortTexts kept.last = short_before kept.last kept.left (moved_extends k.config place kept.last kept.left (moved k.config place kept.last (calls.Leave false) kept.leaves.0 kept.left kept.leaves.1))
    (short_steps k.config kept.later kept.left t.world kept.moved (texts_stay_short k entries t printable.texts is)) in
    (kept, cuts_so k place (user_by_then place [] entries) kept.began kept.events (shown_by_then place [] entries) printable kept.came kept.lives short kept.printed)
