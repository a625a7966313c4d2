use Rattle.script.proofs.Words.{cut_is}
use Rattle.script.proofs.line.cut_word.Goals as goal

pub returns : goal.returns
returns c = λ word one. cut_is c.args.line.now word c.split_once_str.result c.split_once_str.ensures one
