use Rattle.std.proofs.Common.{rules, refl, vec_len}
use Rattle.tests_threads.proofs.RoundLaws.{is_room, none_yet}
use Rattle.tests_threads.proofs.tests.rounds.run_in.Goals as goal

pub collect_all-told-requires-clause-lists : goal.collect_all-told-requires-clause-lists
collect_all-told-requires-clause-lists g c = none_yet c.args.shared.intake.lanes.items _ _ c.args.baskets.lists c.requires.baskets.lists refl

pub collect_all-told-requires-clause-room : goal.collect_all-told-requires-clause-room
collect_all-told-requires-clause-room g c = is_room _ _ (vec_len c.work_off-consumer_set.result.1) c.args.baskets.lists c.requires.baskets.lists (search rules)
