use Rattle.imap_grammar.proofs.Rising.{never_falls}
use Rattle.imap_grammar.proofs.set.SeqSet.resolve.Goals as goal

pub find-requires : goal.find-requires
find-requires c = never_falls c.uids-shown.result.now c.uids-shown.ensures.rising

pub find_none-requires-clause-rising : goal.find_none-requires-clause-rising
find_none-requires-clause-rising c = never_falls c.uids-shown.result.now c.uids-shown.ensures.rising
