-- What a plan says: what each peer sends, and what may be wrong with it.
use Rattle.std.specs.Prelude.{◌≡◌, ◌⊎◌, ◌==◌, ◌+◌, ℕ, Bool, List, length, map, filter, replicate, nat_lt, nat_le, Vec, Option, Some, None, is_none, if◌then◌else◌}
use Rattle.std.specs.Global.{Global}
use Rattle.std.specs.List.{list_any}
use Rattle.envelope.specs.Names.{Home}
use Rattle.settings.specs.Settings.{config_fault, directory_for}
use Rattle.settings.specs.declared.config.ConfigFault.{ConfigFault}
use Rattle.settings.specs.declared.config.ConfigFault.TheVariants as settings
use Rattle.house_shared.specs.Users.{user_numbered}
use Rattle.house_shared.specs.declared.shared.Guest.{Guest}
use Rattle.lane_work.specs.declared.desk.Closing.{Closing}
use Rattle.lane_work.specs.Account.{Premises}
use Rattle.reckoning.specs.declared.gather.Fault.{Fault}
use Rattle.reckoning.specs.declared.gather.Fault.TheVariants as reckoned
use Rattle.running_house.specs.declared.plan.Plan.{Plan}
use Rattle.running_house.specs.declared.plan.WorkFault.{WorkFault}
use Rattle.running_house.specs.declared.plan.WorkFault.TheVariants.{Config, NoMemory, Spawn, Torn}

-- Who brings mail: each worker, and each session, whose client may append messages. The sessions' seats are those behind the workers'.
abbrev pub producers_in : Plan → ℕ
producers_in plan = length plan.workers.items + length plan.sessions.items

-- what the connections of the house are told of it, and how much room its lanes have
abbrev pub premises_for : Plan → Premises
premises_for plan =
    record {
      directory = directory_for plan.config;
      rooms = replicate plan.config.shards (record { producers = producers_in plan; capacity = plan.config.depth });
      host = plan.config.host.items;
      max_message = plan.config.max_message;
      closings = map (λ c. c.items) plan.closings.items;
    }

-- for each worker, for each of its connections, the bytes that its peer sends
abbrev pub connections_of : Plan → List (List (List ℕ))
connections_of plan = map (λ w. map (λ b. b.items) w.items) plan.workers.items

-- at most so many workers
abbrev pub most_workers : ℕ
most_workers = 8

-- and so many producers, workers and sessions together: a seat's number is below that
abbrev pub most_producers : ℕ
most_producers = 255

-- ---- what may be wrong

-- how many of these sessions are of this user
abbrev pub count_of : ℕ → List Guest → ℕ
count_of user guests = length (filter (λ (v : Guest). v.user == user) guests)

-- some user has more sessions than this
abbrev pub are_too_many : ℕ → List Guest → Bool
are_too_many most guests = list_any (λ (v : Guest). nat_lt most (count_of v.user guests)) guests

-- some session's user isn't there
abbrev pub is_someone_missing : List Home → List Guest → Bool
is_someone_missing homes guests = list_any (λ (v : Guest). is_none (user_numbered v.user homes)) guests

-- some worker is to close a shard that isn't there
abbrev pub is_shard_missing : ℕ → List (Vec Closing Global) → Bool
is_shard_missing shards closings = list_any (λ (own : Vec Closing Global). list_any (λ (c : Closing). nat_le shards c.shard) own.items) closings

abbrev pub after_settings : Plan → Option ConfigFault → Option ConfigFault
after_settings plan (Some fault) = Some fault
after_settings plan None =
    if nat_lt most_workers (length plan.workers.items) then Some settings.TooMany
    else if nat_lt most_producers (producers_in plan) then Some settings.TooMany
    else if are_too_many plan.config.sessions plan.sessions.items then Some settings.TooMany
    else if is_shard_missing plan.config.shards plan.closings.items then Some settings.TooMany
    else if is_someone_missing (directory_for plan.config).homes plan.sessions.items then Some settings.BadName
    else None

-- what is wrong: with the settings; that there are too many workers, producers, or sessions of one user; that a shard that is to be closed, or a
-- session's user, isn't there
abbrev pub plan_fault : Plan → Option ConfigFault
plan_fault plan = after_settings plan (config_fault plan.config)

-- how a fault of the settings is told
abbrev pub of_config : ConfigFault → WorkFault
of_config settings.NoMemory = NoMemory
of_config fault = Config fault

-- how a fault of the threads is told
abbrev pub of_reckoning : Fault → WorkFault
of_reckoning reckoned.Spawn = Spawn
of_reckoning reckoned.NoMemory = NoMemory
of_reckoning reckoned.Torn = Torn

-- before anything runs: want of memory, or the plan's own fault
abbrev pub IsFaultOf : Plan → WorkFault → Type 0
IsFaultOf plan fault = (fault ≡ NoMemory) ⊎ ((wrong : ConfigFault) × (plan_fault plan ≡ Some wrong) × (fault ≡ Config wrong))

-- why a run has no report: the plan's own fault, before anything runs, or one that isn't the plan's
abbrev pub IsFault : Plan → WorkFault → Type 0
IsFault plan Spawn = plan_fault plan ≡ None
IsFault plan Torn = plan_fault plan ≡ None
IsFault plan fault = IsFaultOf plan fault
