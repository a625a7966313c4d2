use Rattle.laws_client.specs.Clients.{IsOf}
use Rattle.laws_client.proofs.Each.{each_length}
use Rattle.laws_client.proofs.Follows.{lines_are_followed}
use Rattle.laws_client.proofs.list_laws.lines_are_followed.Goals as goal

pub returns-clause-lines : goal.returns-clause-lines
returns-clause-lines c = λ view changes may list right. lines_are_followed view changes list may.few may.printed may.fits right

pub returns-clause-length : goal.returns-clause-length
returns-clause-length c = each_length IsOf
