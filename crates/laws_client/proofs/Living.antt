-- A session's whole life, as its client hears it.
use Rattle.std.proofs.Common.{◌≡◌, ℕ, List, [], ◌∷◌, ◌++◌, refl, sym, subst, ap, ◌∙◌}
use Rattle.std.specs.Prelude.{Bool, Option, Some, None, if◌then◌else◌}
use Rattle.world.specs.World.{Config, World}
use Rattle.imap_session.specs.Exchange.{Standing, Turn}
use Rattle.laws_client.specs.Client.{Client, reads}
use Rattle.laws_client.specs.Clients.{Asked, IsRightAbout, KnowsWhereItIs, StaysThere, answered, hears, hears_all}
use Rattle.laws_client.specs.Lives.{LivesAreKnown}
use Rattle.laws_client.specs.HouseClients.{comes, turns, others}
use Rattle.laws_client.specs.HouseClients.{Lives}
use Rattle.laws_client.specs.Sizes.{HasShortTexts}
use Rattle.laws_client.specs.HouseClients.{HasSmallNumbers}
use Rattle.laws_client.specs.RecordTurns.{Stands}
use Rattle.imap_session.specs.Happenings.{Answer, Happening, Told, VerdictsArePrinted, Words, leads_to, told_of}
use Rattle.imap_session.specs.Store.{Met}
use Rattle.laws_client.specs.Views.{view_of}
use Rattle.laws_client.proofs.Reading.{fresh}
use Rattle.laws_client.proofs.Boxes.{box_goes}
use Rattle.laws_client.proofs.RecordKnown.{stands_still, turn_known}
use Rattle.laws_client.proofs.Moved.{Calls, short_before, short_met, sound_met, sound_step}
use Rattle.laws_client.proofs.Names.{goes_extends}
use Rattle.laws_client.proofs.RecordWorlds.{Sound, goes_grows, session_stays, sound_always, view_kept}

pub hears_last : (client : Option Client) (told : List Told) (one : Told) → hears_all client (told ++ one ∷ []) ≡ hears (hears_all client told) one
hears_last client [] one = refl
hears_last client (first ∷ told) one = hears_last (hears client first) told one

pub record Known (k : Config) (n : ℕ) (told : List Told) (now : Standing) (w : World) : Type 0 where
  pub sound : Sound k w
  pub stands : Stands now
  pub right : IsRightAbout (view_of w n) (hears_all None told)

-- what is known behind a turn, by what was known before it, whether the turn was due or not
pub known_behind : (k : Config) (n : ℕ) (told : List Told) (now : Standing) (w : World) (happening : Happening) (turn : Turn) (v : World) → HasSmallNumbers k → HasShortTexts v → Known k n told now w
    → VerdictsArePrinted happening → leads_to now happening ≡ Some turn → Met (Calls k n) w turn.events v → Known k n (told ++ told_of now happening turn.bytes ∷ []) turn.standing v
known_behind k n told now w happening turn v h short K printed e met = record {
  sound = sound_met k n w turn.events v K.sound met;
  stands = stands_still now happening turn K.stands e;
  right = subst (λ (c : Option Client). IsRightAbout (view_of v n) c) (sym (hears_last None told (told_of now happening turn.bytes)))
      (turn_known k n now w happening turn v (hears_all None told) h K.sound short K.stands printed e met K.right);
}

-- the last turn comes after all that was known before it
pub lives_known : (k : Config) (n : ℕ) (first : Standing) (began : World) {sent : List ℕ} {told : List Told} {now : Standing} {w : World} → HasSmallNumbers k → Sound k began → Stands first
    → Lives k n first began sent told now w → HasShortTexts w → Known k n told now w
lives_known k n first began h S stands comes short = record { sound = S; stands = stands; right = tt }
lives_known k n first began h S stands (turns {told = told} {now = now} {w = w} lives happening bytes turn v timely sent printed e met) short =
    known_behind k n told now w happening turn v h short (lives_known k n first began h S stands lives (short_met k n w turn.events v met short)) printed e met
lives_known k n first began h S stands (others {told = told} {now = now} {w = w} lives event v o step) short =
    let K = lives_known k n first began h S stands lives (short_before w v (λ m. goes_extends k (w.box m) (v.box m) (box_goes k w event v m step)) short) in record {
      sound = sound_step k w event v K.sound step;
      stands = K.stands;
      right = subst (λ (view : List ℕ). IsRightAbout view (hears_all None told))
          (sym (view_kept k w v n K.sound.kept (session_stays k w event v n o step) (λ m. goes_grows k (w.box m) (v.box m) (box_goes k w event v m step)))) K.right;
    }

pub lives_are_known : LivesAreKnown
lives_are_known k events n first began sent told now w h is short stands lives =
    (lives_known k n first began h (sound_always k events began h is) stands lives short).right

-- ---- when it knows where it is

knows_on : (client : Client) (told : List Told) → StaysThere told → (after : Client) × (hears_all (Some client) told ≡ Some after)
knows_on client [] there = (client, refl)
knows_on client (Words bytes ∷ told) there = knows_on (reads client bytes) told there
knows_on client (Answer line bytes ∷ told) there =
    let more = knows_on (reads client bytes) told there.1 in
    (more.0, ap (λ (a : Asked). hears_all (answered a bytes (Some client)) told) there.0 ∙ more.1)

pub knows_where_it_is : KnowsWhereItIs
knows_where_it_is before line tag bytes told asks ok there =
    let more = knows_on (reads fresh bytes) told there in
    (more.0, ap (λ (a : Asked). hears_all (answered a bytes before) told) asks ∙ ap (λ (b : Bool). hears_all (if b then Some (reads fresh bytes) else None) told) ok ∙ more.1)
