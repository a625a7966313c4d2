use Rattle.std.proofs.Common.{◌≡◌, ◌∙◌, sym, rules, tests, ap}
use Rattle.std.specs.List.{list_any}
use Rattle.std.proofs.lemmas.Iterator.{YieldsList-from_slice}
use Rattle.std.proofs.lemmas.Iterator.Search.{any_from_yields_List}
use Rattle.delivery_core.specs.DeliveryCore.{DeliveryCore, has_ended, is_ended}
use Rattle.delivery_core.specs.declared.group.Shard.{Shard}
use Rattle.delivery_core.proofs.Groups.{any_read}
use Rattle.delivery_core.proofs.steps.DeliveryCore.has_ended.Goals as goal

pub returns : goal.returns
returns c =
    let test = λ (s : Shard). is_ended c.args.seat s.lane in
    let any : c.any.result ≡ list_any test c.self.inside.shards.items = any_from_yields_List test _ _ c.any.result c.any.ensures.ran (YieldsList-from_slice c.self.inside.shards.items cc) (λ x b q k. search (rules, tests)) in
    any ∙ sym (any_read (is_ended c.args.seat) (λ (s : Shard). s.lane) c.self.inside.shards.items) ∙ ap (λ (h : DeliveryCore). has_ended h c.args.seat) c.self.view_is
