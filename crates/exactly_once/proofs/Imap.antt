-- IMAP says whole lines, and does to a world only what the store's calls do.
use Rattle.std.proofs.Common.{◌≡◌, ℕ, [], refl, sym, subst}
use Rattle.world.specs.World.{Config, World}
use Rattle.imap_session.specs.Exchange.{Call, Answer}
use Rattle.imap_session.proofs.Carried.{Carries, converses_carried, turns_carried, verdict_carried}
use Rattle.house.specs.LmtpAndImap.{lmtp_and_imap}
use Rattle.house.specs.Meets.{Meets}
use Rattle.house.specs.Setup.{AreGuests, Reached}
use Rattle.exactly_once.proofs.Calls.{meets_reached}
use Rattle.exactly_once.proofs.Grown.{stays, reached_then}
use Rattle.exactly_once.proofs.Whole.{converses_whole, verdict_answered, idles_whole, greeting_whole}

-- whatever goes from one world to the next by the store's calls goes by events of the world

each : (k : Config) (n : ℕ) (w : World) → Carries (Meets k n) (λ (a : World) (call : Call) (answer : Answer) (b : World). Reached k a b) (λ (v x : World). (x ≡ v) × Reached k w v)
each k n w old new call answer t step stands = (new, subst (λ (y : World). Reached k y new) (sym stands.0) (meets_reached k n old call answer new step), (refl, reached_then k w old new stands.1 (meets_reached k n old call answer new step)))

pub imap_is : AreGuests lmtp_and_imap
imap_is = record {
  greets = λ coming. greeting_whole coming.0.profile;
  meets = meets_reached;
  answers = λ k n at next waits still said w v a. (converses_whole (Meets k n) a.converses, (converses_carried (Meets k n) _ _ (each k n w) at a.sent w v said a.how next w a.converses (refl, stays k w w refl)).2.1);
  hears = λ k n at next verdict how said w v a. (verdict_answered (Meets k n) at verdict w v said how next a, (verdict_carried (Meets k n) _ _ (each k n w) at verdict w v [] said how next w a (refl, stays k w w refl)).2.1);
  idles = λ k n at next shown said w v a. (idles_whole (Meets k n) at w v said shown next a, (turns_carried (Meets k n) _ _ (each k n w) at w v [] said shown next w a (refl, stays k w w refl)).2.1);
}
