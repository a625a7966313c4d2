-- What a run of a script wrote: which of its lines were played, and that what these print delivers exactly once.
use Rattle.std.specs.Prelude.{◌≡◌, ℕ, ◌<◌, List, [], ◌++◌, length, Option, Result, Ok, Err}
use Rattle.house.specs.Setup.{Setup}
use Rattle.house.specs.Scene.{empty_scene}
use Rattle.script.specs.Promise.{DeliveredOnce}
use Rattle.script.specs.Script.{Script, ScriptLine, none_held}
use Rattle.script.specs.declared.run.RunFault.{RunFault}
use Rattle.script.specs.declared.run.RunFault.TheVariants as faults

-- The first lines of the script were played; what they print delivers exactly once, and what was written is a beginning of it.
pub record WroteOnce (k : Setup) (lines : List ScriptLine) (old new : Option (List ℕ)) : Type 0 where
  pub some : List ScriptLine
  pub others : List ScriptLine
  pub split : lines ≡ some ++ others
  pub delivered : DeliveredOnce k old new
  pub counted : delivered.count ≡ length some
  pub script : Script k 1 (none_held k) some (empty_scene k) delivered.after delivered.printed

module _ (k : Setup) (lines : List ScriptLine) (old new : Option (List ℕ)) where
  -- All lines were played, and all that they print was written.
  pub record WroteAll : Type 0 where
    pub wrote : WroteOnce k lines old new
    pub all : wrote.others ≡ []
    pub whole : wrote.delivered.sent ≡ length wrote.delivered.printed

  -- Of what the lines print that were played the first `sent` bytes were written, and not all.
  pub record WroteFirst (sent : ℕ) : Type 0 where
    pub wrote : WroteOnce k lines old new
    pub stopped : wrote.delivered.sent ≡ sent
    pub within : sent < length wrote.delivered.printed

  -- All that the lines print that were played was written.
  pub record WroteSome : Type 0 where
    pub wrote : WroteOnce k lines old new
    pub whole : wrote.delivered.sent ≡ length wrote.delivered.printed

-- what a run wrote of these lines, by how it ended
abbrev pub RunWrote : Setup → List ScriptLine → Result (Unit {0}) RunFault → (old new : Option (List ℕ)) → Type 0
RunWrote k lines (Ok done) old new = WroteAll k lines old new
RunWrote k lines (Err (faults.Write sent)) old new = WroteFirst k lines old new sent
RunWrote k lines (Err faults.NoMemory) old new = WroteSome k lines old new
RunWrote k lines (Err faults.Read) old new = WroteSome k lines old new
