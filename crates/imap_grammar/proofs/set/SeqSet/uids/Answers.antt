use Rattle.std.proofs.Common.{sym, subst}
use Rattle.std.specs.List.Sorted.{IsStrictlyIncreasing}
use Rattle.std.proofs.lemmas.List.Kept.{IsStrictlyIncreasing-filter}
use Rattle.imap_grammar.specs.Sets.{is_named, last_uid}
use Rattle.imap_grammar.proofs.Rising.{named_rise}
use Rattle.imap_grammar.proofs.set.SeqSet.uids.Goals as goal

pub returns-then-by_uid-clause-rising : goal.returns-then-by_uid-clause-rising
returns-then-by_uid-clause-rising c = λ h.
    subst IsStrictlyIncreasing (sym c.in_ok-uids_in.ensures) (IsStrictlyIncreasing-filter (is_named c.deref.result.now (last_uid c.args.view.now)) c.args.view.now h)

pub returns-clause-rising : goal.returns-clause-rising
returns-clause-rising c = λ h. named_rise _ c.args.view.now _ c.in_ok-positions_in.ensures h
