-- What was never handed to a thread, as it was dealt.
use Rattle.std.proofs.Common.{◌≡◌, ℕ, suc, List, [], ◌∷◌, All, length, ap, arith}
use Rattle.std.proofs.lemmas.List.Elements.{All-cons, All-nil}
use Rattle.lane_work.proofs.PermitLaws.{permits_length, senders_length}
use Rattle.house_shared.specs.Crew.{AllAt, IsPost, IsStand}
use Rattle.house_shared.specs.declared.shared.HouseShared.{HouseShared}
use Rattle.house_shared.specs.declared.shared.Post.{Post}
use Rattle.house_shared.specs.declared.shared.Stand.{Stand}
use Rattle.house_shared.specs.Left.{IsPostLeft, IsStandLeft}

pub posts_left : {B : Type 0} (shared : HouseShared B) (n : ℕ) (ps : List (Post B)) → AllAt (IsPost shared) n ps → All (IsPostLeft (length shared.intake.lanes.items)) ps
posts_left shared n [] all = All-nil (IsPostLeft (length shared.intake.lanes.items))
posts_left shared n (p ∷ ps) all =
    let permits = permits_length shared.intake.lanes.items n p.desk.permits.items all.0.permits in
    let none : length p.room.items ≡ 0 = ap length all.0.empty in
    All-cons (IsPostLeft (length shared.intake.lanes.items)) p ps (omega (arith, permits, none, p.desk.permits.ok.0, p.room.ok.0)) (posts_left shared (suc n) ps all.1)

pub stands_left : {B : Type 0} (shared : HouseShared B) (producers : ℕ) → length shared.delivery.channels.items ≡ producers → (n : ℕ) (ss : List (Stand B)) → AllAt (IsStand shared) n ss → All (IsStandLeft producers) ss
stands_left shared producers same n [] all = All-nil (IsStandLeft producers)
stands_left shared producers same n (s ∷ ss) all =
    let senders = senders_length shared.delivery.channels.items n s.stall.senders.items all.0.senders in
    All-cons (IsStandLeft producers) s ss (omega (arith, senders, same, s.stall.senders.ok.0), all.0.empty) (stands_left shared producers same (suc n) ss all.1)
