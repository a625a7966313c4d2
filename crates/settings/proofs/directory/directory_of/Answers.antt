use Rattle.std.proofs.Common.{◌∷◌, []}
use Rattle.settings.specs.Settings.{words_of}
use Rattle.settings.proofs.Directories.{read_homes, directory_is}
use Rattle.settings.proofs.directory.directory_of.Goals as goal

pub returns-in-None-clause-directory : goal.returns-in-None-clause-directory
returns-in-None-clause-directory c =
    let config = c.args.config.now in
    let made = c.in_ok-directory.ensures in
    directory_is config c.in_ok-directory.directory made.domains
    (read_homes (config.host.items ∷ config.domain.items ∷ []) (words_of config) c.in_ok-directory.directory.homes made.homes) made.shards made.shut
