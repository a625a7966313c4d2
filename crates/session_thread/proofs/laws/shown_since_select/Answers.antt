use Rattle.session_thread.proofs.ByHistory.{holds_are_by_history, shown_by_history}
use Rattle.session_thread.proofs.SinceSelect.{by_call, since_select}
use Rattle.session_thread.proofs.laws.shown_since_select.Goals as goal

pub returns-clause-call : goal.returns-clause-call
returns-clause-call c = by_call

pub returns-clause-since : goal.returns-clause-since
returns-clause-since c = since_select

pub returns-clause-history : goal.returns-clause-history
returns-clause-history c = holds_are_by_history

pub returns-clause-by_history : goal.returns-clause-by_history
returns-clause-by_history c = shown_by_history
