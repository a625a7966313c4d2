use Rattle.imap_stream.proofs.Flushing.{fresh_traded, ready_begun}
use Rattle.imap_stream.proofs.visit.leave_row.Goals as goal

pub trade-requires : goal.trade-requires
trade-requires g c = record { ready = ready_begun _ _ c.requires c.begin.ensures }

pub returns : goal.returns
returns g c = fresh_traded _ _ c.trade.new.self _ _ c.requires c.begin.ensures c.trade.ensures.trades
