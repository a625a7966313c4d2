-- Behind the OK of a NOOP or DONE a session counts all that is in its mailbox: in a house on one thread, and over mailboxes behind locks.
use Rattle.std.proofs.Common.{◌≡◌, ℕ, ◌+◌, true, false, List, [], ◌∷◌, ◌++◌, length, refl, sym, subst, ap, ◌∙◌, arith, length-append, Option, Some, None}
use Rattle.std.specs.Prelude.{IfSome, codes, map}
use Rattle.std.proofs.lemmas.Bool.{false≢true}
use Rattle.change_ring.specs.Log as change
use Rattle.change_ring.specs.Log.{rows_of}
use Rattle.world.specs.World.{Config, Session, World}
use Rattle.house_history.specs.Events.{changes_in}
use Rattle.imap_session.specs.Exchange.{Event, Standing, Turn, begun_with}
use Rattle.imap_session.specs.declared.standing.Selected.{Selected}
use Rattle.imap_session.specs.Folders.{folders_of}
use Rattle.imap_session.specs.Happenings.{Answer, Happening, Line, Lived, Told, Words, bytes_in, comes as comes_in, leads_to, told_of, turns as has_turn}
use Rattle.session_thread.specs.declared.locked_store.Entry.{Entry}
use Rattle.session_thread.specs.ByHistory.{ByHistory}
use Rattle.session_thread.specs.Locks.{LockedStore}
use Rattle.laws_client.specs.Client.{Client}
use Rattle.laws_client.specs.Clients.{EndsWith, IsOk, has_ok, hears_all, of_noop, of_other}
use Rattle.laws_client.specs.Current.{IsCurrent}
use Rattle.laws_client.specs.Flags.{CountsAll}
use Rattle.laws_client.specs.HouseClients.{Lives, OksCountAll, comes, first_standing, others, point_in, turns}
use Rattle.laws_client.specs.RecordTurns.{Stands}
use Rattle.laws_client.specs.Selecting.{Known_selected}
use Rattle.laws_client.specs.Served.{IsAtEnd, IsVisit, VisitorsCountAll, counted_in, place_in}
use Rattle.laws_client.specs.Views.{messages_of, view_in}
use Rattle.laws_client.proofs.Answered.{told_bytes}
use Rattle.laws_client.proofs.AtEntries.{answers_line, last_same}
use Rattle.laws_client.proofs.Folded.{folders_plain}
use Rattle.laws_client.proofs.IdleTags.{AreTagsOf}
use Rattle.laws_client.proofs.LastLines.{IsWord}
use Rattle.laws_client.proofs.Moved.{sound_met, sound_step}
use Rattle.laws_client.proofs.RecordCurrent.{LastFed, last_current, noop_fed}
use Rattle.laws_client.proofs.RecordWorlds.{Sound, sound_always}
use Rattle.laws_client.proofs.Selecting.{knowing_is_selected}
use Rattle.laws_client.proofs.Served.{served_lists_are_current, stands_in}
use Rattle.laws_client.proofs.ServedCurrent.{AtEnd, knowing_served, last_at_end}
use Rattle.laws_client.proofs.Talking.{happening_keeps_so}
use Rattle.laws_client.proofs.WordsCurrent.{lives_words, words_fed}

-- ---- over any store

-- the last call of a turn that says such an OK was for all that is pending, and was answered
ok_fed : (now : Standing) (happening : Happening) (selected : Selected) (turn : Turn) (one : Told) → AreTagsOf IsWord now → now.selected ≡ Some selected → leads_to now happening ≡ Some turn → told_of now happening turn.bytes ≡ one → IsOk one
    → LastFed (false ≡ true) turn.events
ok_fed now happening selected turn one tags there leads told (of_noop line tag bytes reads ok) =
    let a = answers_line now happening turn line bytes told in
    noop_fed now a.line line tag selected a.answers turn there (subst (λ (x : Happening). leads_to now x ≡ Some turn) a.is leads) a.came reads (ap (has_ok true tag) a.wrote ∙ ok)
ok_fed now happening selected turn one tags there leads told (of_other tag words bytes ends) =
    let wrote : bytes ≡ turn.bytes = sym (ap bytes_in told) ∙ told_bytes now happening turn.bytes in
    words_fed now happening selected turn bytes tags there told leads (tag, words, subst (λ (b : List ℕ). EndsWith tag (codes "OK " ++ words) b) wrote ends)

-- ---- in a house on one thread

lives_sound : (k : Config) (n : ℕ) (first : Standing) (began : World) {sent : List ℕ} {told : List Told} {now : Standing} {w : World} → Sound k began → Lives k n first began sent told now w → Sound k w
lives_sound k n first began S comes = S
lives_sound k n first began S (turns {w = w} lives happening bytes turn v timely sent printed e met) = sound_met k n w turn.events v (lives_sound k n first began S lives) met
lives_sound k n first began S (others {w = w} lives event v o step) = sound_step k w event v (lives_sound k n first began S lives) step

-- where it has selected none it counts nothing
current_counts : (w : World) (n : ℕ) → IsCurrent w n → CountsAll (point_in w (w.session n))
current_counts w n current = by (w.session n) refl
  where
    by : (o : Option Session) → w.session n ≡ o → CountsAll (point_in w o)
    by None is = refl
    by (Some s) is = sym (ap (view_in w) is) ∙ current s is

pub oks_count_all : OksCountAll
oks_count_all k place user events began sent told now w client happening turn v printable is lives knows leads met ok =
    let chosen : Known_selected (Some client) now = subst (λ (c : Option Client). Known_selected c now) knows (knowing_is_selected k.config place (first_standing k user) began sent told now w lives) in
    let sound : Sound k.config w = lives_sound k.config place (first_standing k user) began (sound_always k.config events began printable.numbers is) lives in
    let fed = ok_fed now happening chosen.0 turn (told_of now happening turn.bytes) (lives_words k.config place (first_standing k user) began (tt, tt, tt) lives) chosen.1 leads refl ok in
    current_counts v place (last_current k.config place w turn.events v (false ≡ true) sound.kept (λ e. absurd (false≢true e)) fed met)

-- ---- over mailboxes behind locks

served_words : (first : Standing) (began : LockedStore) {sent : List ℕ} {told : List Told} {now : Standing} {selection : LockedStore} → AreTagsOf IsWord first → Lived ByHistory first began sent told now selection → AreTagsOf IsWord now
served_words first began t comes_in = t
served_words first began t (has_turn {now = now} lives happening bytes turn next timely sent printed e met) = happening_keeps_so IsWord (λ tag word. word) now happening turn (served_words first began t lives) e

-- the last turn of a life whose last words are such an OK
ends_fed : (first : Standing) (began : LockedStore) {sent : List ℕ} {all : List Told} {now : Standing} {selection : LockedStore} → began.entered ≡ None → Stands first → AreTagsOf IsWord first → Lived ByHistory first began sent all now selection
    → (told : List Told) (one : Told) (client : Client) → all ≡ told ++ one ∷ [] → hears_all None told ≡ Some client → IsOk one → AtEnd selection
ends_fed first began none stands tags comes_in told one client is knows ok = absurd (omega (arith, ap length is, length-append told (one ∷ [])))
ends_fed first began none stands tags (has_turn {told = earlier} {now = now} {s = selection} lives happening bytes turn next timely sent printed e met) told one client is knows ok =
    let both = last_same earlier told (told_of now happening turn.bytes) one is in
    let K = stands_in first began none stands lives in
    let chosen : Known_selected (Some client) now = subst (λ (c : Option Client). Known_selected c now) (ap (hears_all None) both.0 ∙ knows) (knowing_served first began lives) in
    last_at_end selection next turn.events K.shown (false ≡ true) K.was (λ h. absurd (false≢true h)) (ok_fed now happening chosen.0 turn one (served_words first began tags lives) chosen.1 e both.1 ok) met

end_counts : (selection : LockedStore) → AtEnd selection → CountsAll (place_in selection.history selection.entered)
end_counts selection end = by selection.entered refl
  where
    by : (o : Option Entry) → selection.entered ≡ o → CountsAll (place_in selection.history o)
    by None is = refl
    by (Some here) is = sym (ap (counted_in selection.history) is) ∙ served_lists_are_current selection here is (subst (λ (o : Option Entry). IfSome o (IsAtEnd selection)) is end)

pub visitors_count_all : VisitorsCountAll
visitors_count_all told one client visit v knows ok =
    let first : Standing = begun_with v.admission (folders_of v.directory v.user) in
    end_counts visit.selection (ends_fed first v.store v.outside (record { tags = (tt, tt, tt); names = folders_plain v.directory v.user v.folders }) (tt, tt, tt) v.lived.lives told one client refl knows ok)
