-- A word that was cut, as the mailbox that it names.
use Rattle.std.specs.Option.{option_copied}
use Rattle.envelope.specs.Names.{Home}
use Rattle.envelope.specs.declared.word.Word.{Word}

abbrev pub word_home : Word → Home
word_home w = record { user = w.user.now; folder = option_copied w.folder }
