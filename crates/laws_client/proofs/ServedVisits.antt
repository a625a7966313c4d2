-- The life of a visit, and what its client is right about.
use Rattle.std.proofs.Common.{◌≡◌, ℕ, List, [], Option, Some, None, refl, subst}
use Rattle.house_history.specs.declared.event.Event as house
use Rattle.imap_session.specs.Exchange.{begun_with}
use Rattle.imap_session.specs.Folders.{folders_of}
use Rattle.session_thread.specs.declared.locked_store.Entry.{Entry}
use Rattle.settings.specs.Settings.{directory_for}
use Rattle.imap_stream.proofs.Living as visits
use Rattle.laws_client.specs.ServedVisits.{AttendedClientsLive, CallsGoOn, VisitorsKeepUp, VisitorsStand, VisitsAreByHistory, VisitsBegin, VisitsGoOn}
use Rattle.laws_client.specs.Clients.{IsOf, IsRightAbout, hears_all}
use Rattle.laws_client.specs.Flags.{Believes, counted}
use Rattle.laws_client.specs.Served.{VisitorsAreRight, counted_in, place_in, place_of}
use Rattle.laws_client.proofs.Each.{right_both}
use Rattle.laws_client.proofs.Folded.{folders_plain, settings_can_be_printed}
use Rattle.laws_client.proofs.Served.{served_lives_are_known}
use Rattle.laws_client.proofs.ServedFlags.{served_lives_tell_flags}

pub visits_begin : VisitsBegin
visits_begin = visits.visits_begin

pub visits_go_on : VisitsGoOn
visits_go_on = visits.visits_go_on

pub calls_go_on : CallsGoOn
calls_go_on beginning before heard told old new lived calls = visits.calls_went beginning before told old lived calls

pub attended_clients_live : AttendedClientsLive
attended_clients_live admission folders store taken before after how old new legal greeted attended =
    visits.calls_went (record { first = _; store = store; taken = taken }) [] [] old (visits.visits_begin admission folders store taken old legal greeted) attended.calls

pub visits_are_by_history : VisitsAreByHistory
visits_are_by_history = visits.lived_by_history

pub visitors_stand : VisitorsStand
visitors_stand config admission user range faultless = record { tags = (tt, tt, tt); names = folders_plain (directory_for config) user (settings_can_be_printed config range faultless).names }

pub visitors_keep_up : VisitorsKeepUp
visitors_keep_up beginning heard told v none stands L = (
  served_lives_are_known beginning.first beginning.store L.answered told L.dialogue.standing v.selection none stands L.legal L.lives,
  served_lives_tell_flags beginning.first beginning.store L.answered told L.dialogue.standing v.selection none stands L.legal L.lives,
)

-- what it counts, by where it is
counted_there : (history : List house.Event) (here : Option Entry) → counted_in history here ≡ counted (place_in history here)
counted_there history None = refl
counted_there history (Some here) = refl

pub visitors_are_right : VisitorsAreRight
visitors_are_right told v x =
    let right = visitors_keep_up (record { first = begun_with x.admission (folders_of x.directory x.user); store = x.store; taken = x.taken }) x.heard told v x.outside
    (record { tags = (tt, tt, tt); names = folders_plain x.directory x.user x.folders }) x.lived in
    right_both IsOf (Believes (place_of v.selection)) (counted (place_of v.selection)) (hears_all None told)
    (subst (λ (view : List ℕ). IsRightAbout view (hears_all None told)) (counted_there v.selection.history v.selection.entered) right.0) right.1
