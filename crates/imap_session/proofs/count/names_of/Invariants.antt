use Rattle.std.proofs.Common.{◌≡◌, map, take}
use Rattle.imap_session.specs.Exchange.{Folder}
use Rattle.imap_session.proofs.count.names_of.Given as goal

abbrev pub invariant-loop-folder : goal.invariant-loop-folder
invariant-loop-folder l = map (λ name. name.now) l.names.items ≡ map (λ (folder : Folder). folder.name) (take l.folder-index l.folders)
