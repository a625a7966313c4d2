-- Who brings mail to a server, and what may be wrong with its settings beside what a house has against them.
use Rattle.std.specs.Prelude.{ℕ, ◌+◌, ◌*◌, length, nat_lt, Option, Some, None, if◌then◌else◌}
use Rattle.settings.specs.Settings.{config_fault, directory_for}
use Rattle.settings.specs.declared.config.Config.{Config}
use Rattle.settings.specs.declared.config.ConfigFault.{ConfigFault}
use Rattle.settings.specs.declared.config.ConfigFault.TheVariants as settings
use Rattle.serving.specs.Announcing.{users_of}

-- The client slots of a user: as many as sessions may be open at a time. In the compatible profile there is one more, where one too many is told so.
abbrev pub client_slots_of_user : Config → ℕ
client_slots_of_user c = if c.compatible then c.sessions + 1 else c.sessions

-- the client slots of all users
abbrev pub client_slots_in : Config → ℕ
client_slots_in c = client_slots_of_user c * length (users_of (directory_for c).homes)

-- each worker, and each client slot, whose clients may append messages
abbrev pub producers_in : Config → ℕ
producers_in c = c.workers + client_slots_in c

abbrev pub after_settings : Config → Option ConfigFault → Option ConfigFault
after_settings c (Some fault) = Some fault
after_settings c None = if nat_lt 255 (producers_in c) then Some settings.TooMany else None

-- The first fault of the settings, if there is one: what a house has against them, or that there would be more producers than a seat's number tells
-- apart.
abbrev pub server_fault : Config → Option ConfigFault
server_fault c = after_settings c (config_fault c)
