-- What bodies and proofs say besides: the exit statuses of the program.
use Rattle.std.specs.Prelude.{ℕ, [], ◌∷◌, Contains, Result, Ok, Err}
use Rattle.post_house.specs.declared.outcome.Done.{Done}
use Rattle.post_house.specs.declared.outcome.Done.TheVariants.{Played, Served}
use Rattle.script.specs.declared.program.ScriptFault.{ScriptFault}
use Rattle.serving.specs.declared.fault.ServeFault.{ServeFault}
use Rattle.post_house.specs.Status.{status_of, script_failure, serve_failure}

-- all went well, the command line, the settings, a device, memory, a server that was torn
abbrev pub IsStatus : ℕ → Type 0
IsStatus n = Contains (0 ∷ 2 ∷ 3 ∷ 4 ∷ 5 ∷ 6 ∷ []) n

-- the exit status of a script that was played, or of why it wasn't, or not to its end
abbrev pub status_for : Result (Unit {0}) ScriptFault → ℕ
status_for (Ok done) = 0
status_for (Err fault) = status_of (script_failure fault)

-- the exit status of a server that was stopped, or of why it didn't serve
abbrev pub status_served : Result (Unit {0}) ServeFault → ℕ
status_served (Ok done) = 0
status_served (Err fault) = status_of (serve_failure fault)

-- the exit status of either
abbrev pub status_of_done : Done → ℕ
status_of_done (Played result) = status_for result
status_of_done (Served result) = status_served result
