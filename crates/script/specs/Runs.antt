-- What a script with its settings comes to: what was told and written of it, by how it went.
use Rattle.std.specs.Prelude.{◌≡◌, ℕ, List, Option, Result, Ok, Err}
use Rattle.house.specs.Setup.{setup_of}
use Rattle.settings.specs.declared.asking.Form.{Form}
use Rattle.settings.specs.declared.config.Config.{Config}
use Rattle.settings.specs.declared.config.ConfigFault.{ConfigFault}
use Rattle.settings.specs.declared.config.ConfigFault.TheVariants as config_faults
use Rattle.script.specs.declared.program.ScriptFault.{ScriptFault}
use Rattle.script.specs.declared.program.ScriptFault.TheVariants as faults
use Rattle.script.specs.declared.run.RunFault.TheVariants as run_faults
use Rattle.script.specs.Script.{ScriptLine}
use Rattle.script.specs.Wrote.{RunWrote}
use Rattle.script.specs.Telling.{RunTold}

-- settings are wrong, or they couldn't be looked at for want of memory
abbrev pub script_fault : ConfigFault → ScriptFault
script_fault config_faults.TooMany = faults.Config config_faults.TooMany
script_fault config_faults.BadName = faults.Config config_faults.BadName
script_fault config_faults.Twice = faults.Config config_faults.Twice
script_fault config_faults.Ring = faults.Config config_faults.Ring
script_fault config_faults.Ports = faults.Config config_faults.Ports
script_fault config_faults.NoMemory = faults.Run run_faults.NoMemory

-- What was told of these lines with these settings, in this form. Nothing is told where the settings are wrong.
abbrev pub ScriptTold : Form → Config → (lines : List (List ℕ)) → Result (Unit {0}) ScriptFault → (old new : Option (List ℕ)) → Type 0
ScriptTold form config lines (Ok done) old new = RunTold form (setup_of config) lines (Ok done) old new
ScriptTold form config lines (Err (faults.Run fault)) old new = RunTold form (setup_of config) lines (Err fault) old new
ScriptTold form config lines (Err (faults.Config fault)) old new = new ≡ old

-- the same of what was written, where it is told as it is printed
abbrev pub ScriptWrote : Config → List ScriptLine → Result (Unit {0}) ScriptFault → (old new : Option (List ℕ)) → Type 0
ScriptWrote config lines (Ok done) old new = RunWrote (setup_of config) lines (Ok done) old new
ScriptWrote config lines (Err (faults.Run fault)) old new = RunWrote (setup_of config) lines (Err fault) old new
ScriptWrote config lines (Err (faults.Config fault)) old new = new ≡ old
