use Rattle.laws_client.proofs.Chosen.{small_in}
use Rattle.laws_client.proofs.Each.{is_in}
use Rattle.laws_client.proofs.Fetched.{flags_leave, row_leaves}
use Rattle.laws_client.proofs.Opening.{opening_is_followed}
use Rattle.laws_client.proofs.list_laws.messages_are_told.Goals as goal

pub returns-clause-row : goal.returns-clause-row
returns-clause-row c = λ view uid by_uid items row there numbered is parts.
    row_leaves view uid by_uid items row (is_in uid view there) numbered.few (small_in uid view numbered.small (is_in uid view there)) is.0 is.1 parts

pub returns-clause-flags : goal.returns-clause-flags
returns-clause-flags c = λ view uid by_uid flags there numbered.
    flags_leave view uid by_uid flags (is_in uid view there) numbered.few (small_in uid view numbered.small (is_in uid view there))

pub returns-clause-opening : goal.returns-clause-opening
returns-clause-opening c = opening_is_followed
