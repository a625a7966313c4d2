use Rattle.clap.specs.Matches.{found_of}
use Rattle.clap.specs.Words.{rows_of}
use Rattle.command_line.proofs.GivenLaws.{all_given}
use Rattle.command_line.proofs.asked.set_given.Goals as goal

pub returns-clause-given : goal.returns-clause-given
returns-clause-given c is =
    let names = c.in_ok-set_names.ensures in
    let sizes = c.in_ok-set_sizes.ensures in
    let windows = c.in_ok-set_windows.ensures in
    let uids = c.in_ok-set_uids_and_profile.ensures in
    all_given (rows_of (found_of c.args.matches.now)) c.args.config.now c.set_names.new.config c.set_sizes.new.config c.set_windows.new.config c.set_uids_and_profile.new.config is
    names.host names.domain c.set_names.ensures.rest sizes.shards sizes.depth sizes.messages sizes.max_message c.set_sizes.ensures.rest windows.ring windows.ring_max c.set_windows.ensures.rest
    uids.uidvalidity uids.first_uid uids.compatible c.set_uids_and_profile.ensures.rest
