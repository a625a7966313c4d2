use Rattle.imap_answers.proofs.GlobLaw.{glob_matches, matches_glob}
use Rattle.imap_answers.proofs.laws.patterns_match_what_they_stand_for.Goals as goal

pub returns-clause-passes : goal.returns-clause-passes
returns-clause-passes c = λ pattern name g. glob_matches g

pub returns-clause-alone : goal.returns-clause-alone
returns-clause-alone c = λ pattern name h. matches_glob pattern name h
