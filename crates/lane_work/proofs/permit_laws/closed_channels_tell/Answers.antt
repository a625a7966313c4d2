use Rattle.lane_work.proofs.CloseLaws.{all_whole, closed_length, histories_taken, said_is_history}
use Rattle.shard_queue.specs.Reply.{is_of}
use Rattle.lane_work.proofs.permit_laws.closed_channels_tell.Goals as goal

pub returns-clause-said : goal.returns-clause-said
returns-clause-said c channels rows permits closed are s ended is within = said_is_history are is_of s ended is within

pub returns-clause-whole : goal.returns-clause-whole
returns-clause-whole c channels rows permits closed are = (closed_length are, histories_taken are, λ senders all. all_whole are senders 0 all)
