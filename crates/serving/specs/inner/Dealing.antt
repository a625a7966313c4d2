-- What bodies and proofs say besides: what is dealt to the threads of a server.
use Rattle.std.specs.Prelude.{◌≡◌, ◌≤◌, ℕ, [], All, length, vec_len, vec_capacity}
use Rattle.house_shared.specs.Crew.{AllAt, IsPost}
use Rattle.house_shared.specs.declared.shared.HouseShared.{HouseShared}
use Rattle.serving.specs.declared.run.Dealt.{Dealt}
use Rattle.serving.specs.declared.run.Supplies.{Supplies}
use Rattle.serving_workers.specs.Leaving.{IsOutfit, Told}

-- a post for each producer; for each worker its outfit, and for each client slot its ear and a buffer
pub record AreSupplies {B L : Type 0} (told : L → Told) (shared : HouseShared B) (workers client_slots : ℕ) (supplies : Supplies B L) : Type 0 where
  pub posts : AllAt (IsPost shared) 0 supplies.posts.items
  pub each_post : vec_len supplies.posts ≡ length shared.delivery.channels.items
  pub outfits : All (λ o. IsOutfit told o) supplies.equipment.outfits.items
  pub each_worker : vec_len supplies.equipment.outfits ≡ workers
  pub ears : vec_len supplies.ears ≡ client_slots
  pub client_buffers : vec_len supplies.equipment.client_buffers ≡ client_slots

-- these, and room for what each producer leaves
pub record IsDealt {B L : Type 0} (told : L → Told) (shared : HouseShared B) (workers client_slots : ℕ) (dealt : Dealt B L) : Type 0 where
  pub supplies : AreSupplies told shared workers client_slots dealt.supplies
  pub served : (dealt.served.items ≡ []) × (length shared.delivery.channels.items ≤ vec_capacity dealt.served)
