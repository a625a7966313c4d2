use Rattle.std.proofs.Common.{rules, vec_len}
use Rattle.settings.specs.Settings.{directory_for}
use Rattle.house_shared.specs.Opening.{IsHouseShared}
use Rattle.serving.proofs.Endings.{left_ok}
use Rattle.serving.proofs.Users.{each_there}
use Rattle.serving.proofs.server.serve_in.Goals as goal

pub run_house_in-requires-clause-imap : goal.run_house_in-requires-clause-imap
run_house_in-requires-clause-imap g c κs lives =
    each_there c.args.ready.layout.directory.homes (vec_len c.args.ready.listeners.sockets.imap) c.requires.imap c.args.ready.layout.guests.items c.requires.named

pub returns-clause-left : goal.returns-clause-left
returns-clause-left g c =
    let config = c.args.config.now in
    let sizes = c.sizes_of-sizes.result in
    let shared = c.in_ok-opened.opened.shared in
    let is : IsHouseShared (directory_for config) sizes shared = search rules in
    left_ok config sizes shared c.from-workers.result (vec_len c.args.ready.layout.guests) c.run_house_in.result is c.sizes_of-sizes.ensures.host c.sizes_of-sizes.ensures.max_message (search rules) (search rules) c.run_house_in.ensures.whole
