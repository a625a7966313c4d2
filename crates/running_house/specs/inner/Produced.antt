-- That each producer of a plan has left what it was to leave.
use Rattle.std.specs.Prelude.{◌≡◌, ◌+◌, List, [], length, vec_len}
use Rattle.house_shared.specs.declared.left.Ran.{Ran}
use Rattle.house_shared.specs.declared.shared.HouseShared.{HouseShared}
use Rattle.house_shared.specs.declared.shared.Guest.{Guest}
use Rattle.running_house.specs.Produced.{Plans}

-- every actor has left what it was to leave, and nothing is left of what was dealt
pub record LeavesAll {B : Type 0} (shared : HouseShared B) (plans : Plans) (guests : List Guest) (ran : Ran B) : Type 0 where
  pub consumed : vec_len ran.consumed ≡ length shared.intake.lanes.items
  pub worked : vec_len ran.worked ≡ length plans + length guests
  pub stands : ran.stands.items ≡ []
  pub posts : ran.posts.items ≡ []
