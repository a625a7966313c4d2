use Rattle.std.proofs.Common.{refl}
use Rattle.clap.specs.Matches.{found_of}
use Rattle.clap.specs.Words.{rows_of}
use Rattle.command_line.proofs.GivenLaws.{server_given}
use Rattle.command_line.proofs.asked.server_of.Goals as goal

pub returns-clause-asks : goal.returns-clause-asks
returns-clause-asks c =
    let rows = rows_of (found_of c.args.matches.now) in
    let shards = c.in_ok-set_server_shards.ensures in
    let set = c.in_ok-set_server.ensures in (
      rows,
      refl,
      server_given rows c.in_ok-config.config c.set_server_shards.new.config c.set_server.new.config c.uidvalidity_of.result c.in_ok-report.report c.in_ok-config.ensures.given
          shards.shards c.set_server_shards.ensures.rest set.lmtp_port set.imap_port set.workers set.sessions set.memory c.set_server.ensures.rest c.uidvalidity_of.ensures c.in_ok-report.ensures,
    )
