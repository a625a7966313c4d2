-- Where a call finds nothing to do, its event changes nothing in the world.
use Rattle.std.proofs.Common.{◌≡◌, ◌∙◌, ℕ, ◌<◌, Bool, true, false, not, [], ◌∷◌, length, get_or, refl, sym, ap, arith}
use Rattle.std.specs.Prelude.{◌↔◌}
use Rattle.delivery_token.specs.declared.Job.{Job}
use Rattle.delivery_token.specs.declared.log.Noted.{Noted}
use Rattle.shard_queue.specs.Plain.{StandsForLane, starts_with_item}
use Rattle.shard_queue.specs.PlainLane.{PlainLane}
use Rattle.world.specs.declared.hand.Hand.{Hand}
use Rattle.world.specs.declared.hand.Hand.TheVariants.{Empty, Taken, Done}
use Rattle.world.specs.World.{Config, World, AnswerStep, answers, answer_full, DeliverStep, delivers, deliver_spent, deliver_full, deliver_no_memory, EndStep, end_joins, end_full, HearStep, hears_one, TakeStep, takes, take_empty, reply_room}
use Rattle.delivery_core.specs.DeliveryCore.{DeliveryCore}
use Rattle.delivery_core.specs.Stands.{StandsFor}

module _ (k : Config) (w v : World) (old : DeliveryCore) (s : ℕ) (S : StandsFor k old w) where
  -- what a consumer has in its hand, it has in the world
  hand_is : (h : Hand) → s < length old.hands → h ≡ get_or old.hands s h → w.hand s ≡ h
  hand_is h within there = sym (there ∙ S.hands s h within)

  pub still_take : (h : Hand) → s < length old.hands → h ≡ get_or old.hands s h → (h ≡ Empty → ⊥) → TakeStep w s v → v ≡ w
  still_take h within there never (takes e others empty waits is) = absurd (never (sym (hand_is h within there) ∙ empty))
  still_take h within there never (take_empty empty waits is) = is

  pub still_taken : (l : PlainLane Job) → s < length old.lanes → l ≡ get_or old.lanes s l → l.waiting ≡ [] → TakeStep w s v → v ≡ w
  still_taken l within there nothing (takes e others empty waits is) =
      let was : StandsForLane k.seats k.depth l (w.lane s) = rw there (S.lanes s l within) in
      let none : [] ≡ e ∷ others = sym nothing ∙ was.waiting ∙ waits in absurd (cc)
  still_taken l within there nothing (take_empty empty waits is) = is

  pub still_deliver : (h : Hand) → s < length old.hands → h ≡ get_or old.hands s h → ((c : Job) → h ≡ Taken c → ⊥) → DeliverStep k w s v → v ≡ w
  still_deliver h within there never (delivers c b taken uid room logs is) = absurd (never c (sym (hand_is h within there) ∙ taken))
  still_deliver h within there never (deliver_spent c taken spent is) = absurd (never c (sym (hand_is h within there) ∙ taken))
  still_deliver h within there never (deliver_full c taken uid full is) = absurd (never c (sym (hand_is h within there) ∙ taken))
  still_deliver h within there never (deliver_no_memory c taken uid room is) = absurd (never c (sym (hand_is h within there) ∙ taken))

  pub still_answer : (h : Hand) → s < length old.hands → h ≡ get_or old.hands s h → ((r : Noted) → h ≡ Done r → ⊥) → AnswerStep w s v → v ≡ w
  still_answer h within there never (answers r done room is) = absurd (never r (sym (hand_is h within there) ∙ done))
  still_answer h within there never (answer_full r done full is) = is

  pub still_answer_full : (r : Noted) (l : PlainLane Noted) → s < length old.hands → Done r ≡ get_or old.hands s (Done r) → r.key.seat < length old.replies → l ≡ get_or old.replies r.key.seat l
      → length l.waiting ≡ l.capacity → AnswerStep w s v → v ≡ w
  still_answer_full r l within there seat lane full (answers q done room is) =
      let was : StandsForLane k.shards reply_room l (w.replies r.key.seat) = rw lane (S.replies r.key.seat l seat) in
      let same : Done r ≡ Done q = sym (hand_is (Done r) within there) ∙ done in
      let one : q ≡ r = cc in
      let less : length (w.replies r.key.seat).waiting < reply_room = rw (sym one) room in absurd (omega (arith, less, full, was.capacity, ap length was.waiting))
  still_answer_full r l within there seat lane full (answer_full q done no_room is) = is

  pub still_hear : (l : PlainLane Noted) → s < length old.replies → l ≡ get_or old.replies s l → starts_with_item l.waiting ≡ false → HearStep w s v → v ≡ w
  still_hear l within there nothing (hears_one i r others waits is) =
      let was : StandsForLane k.shards reply_room l (w.replies s) = rw there (S.replies s l within) in
      let item : starts_with_item l.waiting ≡ true = ap starts_with_item (was.waiting ∙ waits) in
      let both : true ≡ false = sym item ∙ nothing in absurd (cc)

  pub still_end : (p : ℕ) (l : PlainLane Job) → s < length old.lanes → l ≡ get_or old.lanes s l → get_or l.live p false ≡ false → EndStep k w p s v → v ≡ w
  still_end p l within there over (end_joins seat shard live room is) =
      let was : StandsForLane k.seats k.depth l (w.lane s) = rw there (S.lanes s l within) in
      let both : false ≡ true = sym live ∙ was.live p false (omega (arith, was.producers)) ∙ ap not over in absurd (cc)
  still_end p l within there over (end_full seat shard live full is) = is

  pub still_end_full : (p : ℕ) (l : PlainLane Job) → s < length old.lanes → l ≡ get_or old.lanes s l → length l.waiting ≡ l.capacity → EndStep k w p s v → v ≡ w
  still_end_full p l within there full (end_joins seat shard live room is) =
      let was : StandsForLane k.seats k.depth l (w.lane s) = rw there (S.lanes s l within) in absurd (omega (arith, room, full, was.capacity, ap length was.waiting))
  still_end_full p l within there full (end_full seat shard live no_room is) = is

-- what a test says of a seat that may put no more
pub is_over : (b test : Bool) → (test ≡ true) ↔ (b ≡ true) → test ≡ false → b ≡ false
is_over true test same said = let both : true ≡ false = sym (same.1 refl) ∙ said in absurd (cc)
is_over false test same said = refl
