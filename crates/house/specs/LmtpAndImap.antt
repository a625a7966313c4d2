-- Connections that speak LMTP, and sessions that speak IMAP.
use Rattle.house_peers.specs.Lmtp.{lmtp}
use Rattle.house_peers.specs.Imap.{imap}
use Rattle.house.specs.Meets.{Meets}
use Rattle.house.specs.Setup.{Peers}

abbrev pub lmtp_and_imap : Peers
lmtp_and_imap = record { speech = lmtp; guest = imap; Meets = Meets }
