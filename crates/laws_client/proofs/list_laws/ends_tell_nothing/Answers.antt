use Rattle.laws_client.proofs.Ends.{bye_tells_nothing, greeting_tells_nothing, refusal_tells_nothing, tagged_tells_nothing}
use Rattle.laws_client.proofs.list_laws.ends_tell_nothing.Goals as goal

pub returns-clause-tagged : goal.returns-clause-tagged
returns-clause-tagged c = tagged_tells_nothing

pub returns-clause-bye : goal.returns-clause-bye
returns-clause-bye c = bye_tells_nothing

pub returns-clause-refusal : goal.returns-clause-refusal
returns-clause-refusal c = refusal_tells_nothing

pub returns-clause-greeting : goal.returns-clause-greeting
returns-clause-greeting c = greeting_tells_nothing
