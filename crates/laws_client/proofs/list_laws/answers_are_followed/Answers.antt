use Rattle.laws_client.proofs.Commands.{answer_is_followed, long_line_tells_nothing, verdict_is_followed}
use Rattle.laws_client.proofs.IdleTags.{kept_tags_are_tags}
use Rattle.laws_client.proofs.Tags.{tags_are_tags}
use Rattle.laws_client.proofs.list_laws.answers_are_followed.Goals as goal

pub returns-clause-tags : goal.returns-clause-tags
returns-clause-tags c = tags_are_tags

pub returns-clause-answer : goal.returns-clause-answer
returns-clause-answer c = answer_is_followed

pub returns-clause-long_line : goal.returns-clause-long_line
returns-clause-long_line c = long_line_tells_nothing

pub returns-clause-kept_tags : goal.returns-clause-kept_tags
returns-clause-kept_tags c = kept_tags_are_tags

pub returns-clause-verdict : goal.returns-clause-verdict
returns-clause-verdict c = verdict_is_followed
