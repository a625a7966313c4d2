-- How faults of the settings are told by a server.
use Rattle.settings.specs.declared.config.ConfigFault.{ConfigFault}
use Rattle.settings.specs.declared.config.ConfigFault.TheVariants as settings
use Rattle.serving.specs.declared.fault.ServeFault.{ServeFault}
use Rattle.serving.specs.declared.fault.ServeFault.TheVariants.{Config, NoMemory}

-- want of memory is no fault of the settings
abbrev pub of_config : ConfigFault → ServeFault
of_config settings.NoMemory = NoMemory
of_config fault = Config fault
