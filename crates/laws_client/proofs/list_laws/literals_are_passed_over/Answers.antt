use Rattle.laws_client.proofs.Bytes.{reads-append}
use Rattle.laws_client.proofs.Literals.{literal_leaves_its_count, literals_are_alike}
use Rattle.laws_client.proofs.list_laws.literals_are_passed_over.Goals as goal

pub returns-clause-pieces : goal.returns-clause-pieces
returns-clause-pieces c = reads-append

pub returns-clause-count : goal.returns-clause-count
returns-clause-count c = literal_leaves_its_count

pub returns-clause-alike : goal.returns-clause-alike
returns-clause-alike c = literals_are_alike
