-- The client of a session of a house on one thread is right, by the record: what `KeepsUp` and `KnowsFlagsToo` say of it in more words.
use Rattle.std.proofs.Common.{◌≡◌, ℕ, ◌+◌, ◌==◌, Bool, true, false, List, [], ◌∷◌, ◌++◌, append-nil, refl, sym, subst, ap, ◌∙◌}
use Rattle.std.specs.Prelude.{codes, if◌then◌else◌, flat_map, Contains, Ok, Option, Some, None}
use Rattle.delivery_token.specs.Keys.{Below}
use Rattle.delivery_token.specs.declared.log.Noted.{Noted}
use Rattle.imap_grammar.specs.Reading.{read}
use Rattle.imap_grammar.specs.declared.command.Command.TheVariants as commands
use Rattle.world.specs.Law.{StandsOnce, pairs}
use Rattle.world.specs.World.{World, Session}
use Rattle.imap_session.specs.Commands.{greeting, number_named}
use Rattle.imap_session.specs.Folders.{folders_of}
use Rattle.imap_session.specs.Happenings.{Told, bytes_in}
use Rattle.house.specs.Setup.{Setup, session_seat}
use Rattle.house.specs.Scene.{Scene, empty_scene, place_of}
use Rattle.house.specs.declared.event.Event as house
use Rattle.house.specs.declared.event.Event.TheVariants.{Bytes, Vanish, Put, Take, Deliver, Answer, Hear, End, Close, Enter, Say, Idle, Leave}
use Rattle.exactly_once.specs.Promise.{Entry}
use Rattle.laws_client.specs.Appends.{Author, KeptAsTold, TellsKept, author_at, copy_under}
use Rattle.laws_client.specs.Clients.{EndsWith, IsOf, IsRightAbout, hears_all}
use Rattle.laws_client.specs.ClientRecords.{began_by_then, began_in, lets_in, sent_by_then, sent_in, shown_by_then, unless, user_by_then, user_in}
use Rattle.laws_client.specs.Flags.{Believes, counted}
use Rattle.laws_client.specs.HouseClients.{ClientsAreRight, Lives, Seen, TellsOfMessage, first_standing, point_in, point_of, seen_by_then, seen_in, shown_in, unseen}
use Rattle.laws_client.specs.RecordTurns.{Stands}
use Rattle.laws_client.specs.Views.{view_in}
use Rattle.laws_client.proofs.Appended.{appends_are_kept}
use Rattle.laws_client.proofs.Each.{right_both}
use Rattle.laws_client.proofs.FlagKnown.{lives_flags}
use Rattle.laws_client.proofs.Folded.{folders_plain}
use Rattle.laws_client.proofs.RecordKeeping.{texts_stay_short}
use Rattle.laws_client.proofs.RecordWorlds.{sound_always}

-- ---- what a record has of the session at a place

-- behind an entry it is what the words of `ClientRecords` say
record StepsSo (place : ℕ) (s : Scene) (event : house.Event) (seen : Seen) : Type 0 where
  user : (seen_in place s event seen).user ≡ user_in place event seen.user
  began : (seen_in place s event seen).began ≡ began_in place s event seen.began
  sent : (seen_in place s event seen).sent ≡ unless (lets_in place event) seen.sent ++ sent_in place event
  shown : (seen_in place s event seen).shown ≡ unless (lets_in place event) seen.shown

steps_so : (place : ℕ) (s : Scene) (event : house.Event) (seen : Seen) → StepsSo place s event seen
steps_so place s (Enter session user) seen = record {
  user = user_so (place_of session == place);
  began = began_so (place_of session == place);
  sent = sent_so (place_of session == place);
  shown = shown_so (place_of session == place);
}
  where
    other : Bool → Seen
    other b = if b then record { user = user.now; began = s.world; sent = []; shown = [] } else seen

    user_so : (b : Bool) → (other b).user ≡ (if b then user.now else seen.user)
    user_so true = refl
    user_so false = refl

    began_so : (b : Bool) → (other b).began ≡ (if b then s.world else seen.began)
    began_so true = refl
    began_so false = refl

    sent_so : (b : Bool) → (other b).sent ≡ unless b seen.sent ++ []
    sent_so true = refl
    sent_so false = sym (append-nil seen.sent)

    shown_so : (b : Bool) → (other b).shown ≡ unless b seen.shown
    shown_so true = refl
    shown_so false = refl
steps_so place s (Say session bytes) seen = record {
  user = user_so (place_of session == place);
  began = began_so (place_of session == place);
  sent = sent_so (place_of session == place);
  shown = shown_so (place_of session == place);
}
  where
    other : Bool → Seen
    other b = if b then record seen { sent = seen.sent ++ bytes.now } else seen

    user_so : (b : Bool) → (other b).user ≡ seen.user
    user_so true = refl
    user_so false = refl

    began_so : (b : Bool) → (other b).began ≡ seen.began
    began_so true = refl
    began_so false = refl

    sent_so : (b : Bool) → (other b).sent ≡ seen.sent ++ (if b then bytes.now else [])
    sent_so true = refl
    sent_so false = sym (append-nil seen.sent)

    shown_so : (b : Bool) → (other b).shown ≡ seen.shown
    shown_so true = refl
    shown_so false = refl
steps_so place s (Bytes connection bytes) seen = record { user = refl; began = refl; sent = sym (append-nil seen.sent); shown = refl }
steps_so place s (Vanish connection) seen = record { user = refl; began = refl; sent = sym (append-nil seen.sent); shown = refl }
steps_so place s (Put number) seen = record { user = refl; began = refl; sent = sym (append-nil seen.sent); shown = refl }
steps_so place s (Take shard) seen = record { user = refl; began = refl; sent = sym (append-nil seen.sent); shown = refl }
steps_so place s (Deliver shard) seen = record { user = refl; began = refl; sent = sym (append-nil seen.sent); shown = refl }
steps_so place s (Answer shard) seen = record { user = refl; began = refl; sent = sym (append-nil seen.sent); shown = refl }
steps_so place s (Hear number) seen = record { user = refl; began = refl; sent = sym (append-nil seen.sent); shown = refl }
steps_so place s (End number shard) seen = record { user = refl; began = refl; sent = sym (append-nil seen.sent); shown = refl }
steps_so place s (Close shard) seen = record { user = refl; began = refl; sent = sym (append-nil seen.sent); shown = refl }
steps_so place s (Idle session) seen = record { user = refl; began = refl; sent = sym (append-nil seen.sent); shown = refl }
steps_so place s (Leave session) seen = record { user = refl; began = refl; sent = sym (append-nil seen.sent); shown = refl }

-- and so it is behind all of them
record IsSo (place : ℕ) (s : Scene) (entries : List Entry) (seen : Seen) : Type 0 where
  user : (seen_by_then place s entries seen).user ≡ user_by_then place seen.user entries
  began : (seen_by_then place s entries seen).began ≡ began_by_then place seen.began s entries
  sent : (seen_by_then place s entries seen).sent ≡ sent_by_then place seen.sent entries
  shown : (seen_by_then place s entries seen).shown ≡ shown_by_then place seen.shown entries

is_so : (place : ℕ) (s : Scene) (entries : List Entry) (seen : Seen) → IsSo place s entries seen
is_so place s [] seen = record { user = refl; began = refl; sent = refl; shown = refl }
is_so place s (entry ∷ entries) seen =
    let now = seen_in place s entry.event seen in
    let step = steps_so place s entry.event seen in
    let more = is_so place entry.after entries (record now { shown = now.shown ++ shown_in place entry.piece }) in record {
      user = more.user ∙ ap (λ (x : List ℕ). user_by_then place x entries) step.user;
      began = more.began ∙ ap (λ (x : World). began_by_then place x entry.after entries) step.began;
      sent = more.sent ∙ ap (λ (x : List ℕ). sent_by_then place x entries) step.sent;
      shown = more.shown ∙ ap (λ (x : List ℕ). shown_by_then place (x ++ shown_in place entry.piece) entries) step.shown;
    }

-- ---- what it is right about

-- what a session counts, by where it is
counted_there : (w : World) (s : Option Session) → view_in w s ≡ counted (point_in w s)
counted_there w None = refl
counted_there w (Some s) = refl

-- what an answer tells of a message, by the words of `Appends`
tells_of : (k : Setup) (place : ℕ) (w : World) (seen : Seen) (author : Author) (tag words : List ℕ) (noted : Noted) → author.place ≡ place → seen.sent ≡ author.sent → folders_of k.directory seen.user ≡ author.folders
    → TellsKept k w author tag words noted → TellsOfMessage k place w seen author.serial tag words
tells_of k place w seen author tag words noted here sent folders x =
    let came = x.came in record {
      append = came.append;
      copy = copy_under noted.key x.message;
      sends = record {
        front = came.front;
        bytes = came.bytes;
        line = came.line;
        behind = came.behind;
        spelled = came.spelled;
        reads = subst (λ (t : List ℕ). read came.line ≡ Ok (t, commands.Append came.append)) (sym x.under) came.reads;
        size = came.size;
        whole = sent ∙ came.whole;
      };
      named = ap (number_named came.append.name) folders ∙ came.named;
      as_sent = (came.date, came.flags);
      own = (x.seat ∙ ap (session_seat k) here, x.own);
      uid = x.uid;
      told = x.words;
      stands = subst (λ (m : ℕ). Contains (w.box m).accepted (copy_under noted.key x.message, x.uid)) x.mailbox x.copy;
      once = subst (λ (m : ℕ). StandsOnce (pairs (w.box m).accepted) noted.key x.uid) x.mailbox x.once;
    }

pub clients_are_right : ClientsAreRight
unfolding tells_of
clients_are_right k entries t place v printable is there is_read =
    let kept = appends_are_kept k entries t place v printable is there is_read in
    let u = kept.0 in
    let so = is_so place (empty_scene k) entries unseen in
    let user : List ℕ = user_by_then place [] entries in
    let stands : Stands (first_standing k user) = record { tags = (tt, tt, tt); names = folders_plain k.directory user printable.names } in
    let flags = lives_flags k.config place (first_standing k user) u.began printable.numbers (sound_always k.config u.events u.began printable.numbers u.came) stands u.lives (texts_stay_short k entries t printable.texts is) in record {
      answered = u.sent;
      told = u.told;
      lives = subst (λ (x : World). LivesFrom (seen_by_then place (empty_scene k) entries unseen).user x u.sent u.told) (u.let_in ∙ sym so.began)
          (subst (λ (x : List ℕ). LivesFrom x u.began u.sent u.told) (sym so.user) u.lives);
      sent = so.sent ∙ u.answered;
      shown = ap (λ (x : List ℕ). x ++ v.session.unsaid) so.shown ∙ sym u.printed ∙ ap (λ (x : List ℕ). greeting (first_standing k x).profile ++ flat_map bytes_in u.told) (sym so.user);
      list = right_both IsOf (Believes (point_of t.world place)) (counted (point_of t.world place)) (hears_all None u.told)
          (subst (λ (x : List ℕ). IsRightAbout x (hears_all None u.told)) (counted_there t.world (t.world.session place)) u.right) flags.right;
      messages = λ before after one tag rest split ends. by kept.1 before after one tag rest split ends;
      in_turn = λ before mid after one two a x b y split ends other_ends. both kept.1 before mid after one two a x b y split ends other_ends;
    }
  where
    LivesFrom : (user : List ℕ) (began : World) (sent : List ℕ) (told : List Told) → Type 0
    LivesFrom user began sent told = Lives k.config place (first_standing k user) began sent told v.session.standing t.world

    by : {told : List Told} → KeptAsTold k t.world (author_at k entries place v.serial) told → (before after : List Told) (one : Told) (tag rest : List ℕ) → told ≡ before ++ one ∷ after
        → EndsWith tag (codes "OK [APPENDUID " ++ rest) (bytes_in one)
        → TellsOfMessage k place t.world (seen_by_then place (empty_scene k) entries unseen) v.serial tag (codes "OK [APPENDUID " ++ rest)
    by known before after one tag rest split ends =
        let so = is_so place (empty_scene k) entries unseen in
        let x = known.kept before after one tag (codes "OK [APPENDUID " ++ rest) split ends refl in
        tells_of k place t.world (seen_by_then place (empty_scene k) entries unseen) (author_at k entries place v.serial) tag (codes "OK [APPENDUID " ++ rest) x.0 refl so.sent (ap (folders_of k.directory) so.user) x.1

    both : {told : List Told} → KeptAsTold k t.world (author_at k entries place v.serial) told → (before mid after : List Told) (one two : Told) (a x b y : List ℕ) → told ≡ before ++ one ∷ (mid ++ two ∷ after)
        → EndsWith a (codes "OK [APPENDUID " ++ x) (bytes_in one) → EndsWith b (codes "OK [APPENDUID " ++ y) (bytes_in two)
        → (first : TellsOfMessage k place t.world (seen_by_then place (empty_scene k) entries unseen) v.serial a (codes "OK [APPENDUID " ++ x))
        × (second : TellsOfMessage k place t.world (seen_by_then place (empty_scene k) entries unseen) v.serial b (codes "OK [APPENDUID " ++ y)) × Below first.copy.key second.copy.key
    both known before mid after one two a x b y split ends other_ends =
        let so = is_so place (empty_scene k) entries unseen in
        let seen : Seen = seen_by_then place (empty_scene k) entries unseen in
        let author : Author = author_at k entries place v.serial in
        let h = known.apart before mid after one two a (codes "OK [APPENDUID " ++ x) b (codes "OK [APPENDUID " ++ y) split ends refl other_ends refl in (
          tells_of k place t.world seen author a (codes "OK [APPENDUID " ++ x) h.0 refl so.sent (ap (folders_of k.directory) so.user) h.2,
          tells_of k place t.world seen author b (codes "OK [APPENDUID " ++ y) h.1 refl so.sent (ap (folders_of k.directory) so.user) h.3,
          h.4,
        )
