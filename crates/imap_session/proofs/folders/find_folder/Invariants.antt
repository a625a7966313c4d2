use Rattle.std.proofs.Common.{◌≡◌, drop}
use Rattle.imap_session.specs.Commands.{folder_of}
use Rattle.imap_session.proofs.folders.find_folder.Given as goal

abbrev pub invariant-loop-folder : goal.invariant-loop-folder
invariant-loop-folder l = folder_of l.name l.folders ≡ folder_of l.name (drop l.folder-index l.folders)
