use Rattle.lane_work.proofs.Torn.{channels_close, lanes_close}
use Rattle.lane_work.proofs.permit_laws.whole_lanes_close.Goals as goal

pub returns-clause-lanes : goal.returns-clause-lanes
returns-clause-lanes c = lanes_close

pub returns-clause-channels : goal.returns-clause-channels
returns-clause-channels c = channels_close
