-- What bodies and proofs say besides: how faults of the settings are told by a server.
use Rattle.std.specs.Prelude.{⊤}
use Rattle.serving.specs.declared.fault.ServeFault.{ServeFault}
use Rattle.serving.specs.declared.fault.ServeFault.TheVariants.{Config, Device, NoMemory}

-- what sockets and memory for them may come to
abbrev pub IsOfSocket : ServeFault → Type 0
IsOfSocket Device = ⊤
IsOfSocket NoMemory = ⊤
IsOfSocket fault = ⊥

-- what settings, and memory for what they lay out, may come to
abbrev pub IsOfSettings : ServeFault → Type 0
IsOfSettings (Config fault) = ⊤
IsOfSettings NoMemory = ⊤
IsOfSettings fault = ⊥
