-- The exit statuses of the program.
use Rattle.std.specs.Prelude.{ℕ}
use Rattle.settings.specs.declared.config.ConfigFault.{ConfigFault}
use Rattle.settings.specs.declared.config.ConfigFault.TheVariants as config_faults
use Rattle.post_house.specs.declared.failure.Failure.{Failure}
use Rattle.post_house.specs.declared.failure.Failure.TheVariants.{Config, Device, NoMemory, Torn}
use Rattle.script.specs.declared.run.RunFault.{RunFault}
use Rattle.script.specs.declared.run.RunFault.TheVariants as run_faults
use Rattle.script.specs.declared.program.ScriptFault.{ScriptFault}
use Rattle.script.specs.declared.program.ScriptFault.TheVariants as script_faults
use Rattle.serving.specs.declared.fault.ServeFault.{ServeFault}
use Rattle.serving.specs.declared.fault.ServeFault.TheVariants as serve_faults

abbrev pub status_of : Failure → ℕ
status_of (Config fault) = 3
status_of Device = 4
status_of NoMemory = 5
status_of Torn = 6

-- settings are wrong, or they couldn't be looked at for want of memory
abbrev pub config_failure : ConfigFault → Failure
config_failure config_faults.TooMany = Config config_faults.TooMany
config_failure config_faults.BadName = Config config_faults.BadName
config_failure config_faults.Twice = Config config_faults.Twice
config_failure config_faults.Ring = Config config_faults.Ring
config_failure config_faults.Ports = Config config_faults.Ports
config_failure config_faults.NoMemory = NoMemory

abbrev pub run_failure : RunFault → Failure
run_failure run_faults.Read = Device
run_failure (run_faults.Write sent) = Device
run_failure run_faults.NoMemory = NoMemory

abbrev pub script_failure : ScriptFault → Failure
script_failure (script_faults.Config fault) = config_failure fault
script_failure (script_faults.Run fault) = run_failure fault

abbrev pub serve_failure : ServeFault → Failure
serve_failure (serve_faults.Config fault) = config_failure fault
serve_failure serve_faults.Device = Device
serve_failure serve_faults.Spawn = Device
serve_failure serve_faults.NoMemory = NoMemory
serve_failure serve_faults.Torn = Torn
