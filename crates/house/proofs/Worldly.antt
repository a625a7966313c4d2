-- Events of the world in which nobody says a word.
use Rattle.std.proofs.Common.{◌≡◌, ℕ, List, [], ◌∷◌, refl, ap, ◌∙◌}
use Rattle.world.specs.World.{Config, World}
use Rattle.world.specs.World as world
use Rattle.delivery_core.specs.DeliveryCore.{DeliveryCore}
use Rattle.delivery_core.specs.Stands as core
use Rattle.delivery_core.specs.declared.steps.Fault.{Fault}
use Rattle.delivery_core.specs.declared.steps.Fault.TheVariants as faults
use Rattle.house.specs.declared.event.HouseFault.TheVariants as house_faults
use Rattle.house.specs.House.{House}
use Rattle.house.specs.Setup.{Setup}
use Rattle.house.specs.Scene.{Moves, Scene, with_world}
use Rattle.house.specs.Stands.{StandsFor}
use Rattle.house.specs.inner.Steps.{fault_of}
use Rattle.house.proofs.Seats.{moved, one_step}

pub is_nothing : (f : Fault) → fault_of f ≡ house_faults.Nothing → f ≡ faults.Nothing
is_nothing faults.Nobody e = cc
is_nothing faults.Nothing e = refl

-- the world moves as the delivery side does
pub moves : (k : Setup) (h : House) (c : DeliveryCore) (s : Scene) (e : world.Event) → StandsFor k h s → ((x : Config) → core.Follows x h.core (e ∷ []) c) → c.heard ≡ h.core.heard → c.next ≡ h.core.next
    → (v : World) × Moves k s e (with_world s v) [] × StandsFor k (record { core = c; callers = h.callers; serials = h.serials; visitors = h.visitors; entered = h.entered; directory = h.directory; host = h.host; max_message = h.max_message; compatible = h.compatible }) (with_world s v)
moves k h c s e st f eh en =
    let g = f k.config s.world st.core in
    (g.0, record { moved = g.0; step = one_step k.config s.world g.0 e g.1; after = refl; silent = refl }, moved k h c s g.0 st g.2 eh en)

-- what changes nothing in any world changes nothing in any scene
pub nothing_changes : (k : Setup) (h : House) (s : Scene) (e : world.Event) → StandsFor k h s → ((x : Config) → core.ChangesNothing x h.core e) → (t : Scene) (printed : List ℕ) → Moves k s e t printed → (t ≡ s) × (printed ≡ [])
nothing_changes k h s e st still t printed m = (m.after ∙ ap (with_world s) (still k.config s.world m.moved st.core m.step), m.silent)
