-- What the program does with a script, and as a server, by how it went.
use Rattle.std.specs.Prelude.{◌≡◌, ℕ, ◌⊎◌, Bool, true, List, [], Option, Some, None, Result, Err, OnOk}
use Rattle.house.specs.Setup.{setup_of}
use Rattle.settings.specs.Settings.{config_fault}
use Rattle.settings.specs.declared.config.Config.{Config}
use Rattle.settings.specs.declared.config.ConfigFault.{ConfigFault}
use Rattle.clap.specs.Words.{Text}
use Rattle.command_line.specs.Asking.{AsksFor, IsAskedInRange}
use Rattle.command_line.specs.Words.{faults_at}
use Rattle.post_house.specs.inner.Status.{status_of_done}
use Rattle.post_house.specs.inner.Telling.{HasRefused}
use Rattle.post_house.specs.declared.outcome.Done.{Done}
use Rattle.post_house.specs.declared.outcome.Done.TheVariants.{Played, Served}
use Rattle.post_house.specs.declared.outcome.Outcome.{Outcome}
use Rattle.post_house.specs.declared.outcome.Outcome.TheVariants.{Did, Refused}
use Rattle.command_line.specs.declared.asked.Asked.{Asked}
use Rattle.command_line.specs.declared.asked.Asked.TheVariants.{Script, Serve}
use Rattle.script.specs.Wrote.{WroteOnce}
use Rattle.script.specs.Runs.{ScriptTold, ScriptWrote}
use Rattle.script.specs.declared.program.ScriptFault.{ScriptFault}
use Rattle.script.specs.declared.program.ScriptFault.TheVariants as script_faults
use Rattle.script.specs.declared.run.RunFault.TheVariants as run_faults
use Rattle.script.specs.Script.{script_of}
use Rattle.script.specs.Telling.{lines_of}
use Rattle.settings.specs.declared.asking.Form.{Form}
use Rattle.settings.specs.declared.asking.Form.TheVariants as forms
use Rattle.serving.specs.Announcing.{HasAnnounced, HasBegun}
use Rattle.settings.specs.declared.asking.Uidvalidity.{Uidvalidity}
use Rattle.serving.specs.Producers.{server_fault}
use Rattle.serving.specs.declared.fault.ServeFault.{ServeFault}
use Rattle.serving.specs.declared.fault.ServeFault.TheVariants as serve_faults

-- These bytes were played as a script with these settings, and told in this form, and so it went. As text what was written delivers exactly once.
pub record RanScript (form : Form) (config : Config) (bytes : List ℕ) (failed : Bool) (result : Result (Unit {0}) ScriptFault)
    (old new : Option (List ℕ)) : Type 0 where
  pub wrong : (fault : ConfigFault) → result ≡ Err (script_faults.Config fault) → config_fault config ≡ Some fault
  pub right : OnOk result (config_fault config ≡ None)
  pub told : ScriptTold form config (lines_of bytes) result old new
  pub wrote : form ≡ forms.Text → ScriptWrote config (script_of bytes) result old new
  pub once : form ≡ forms.Text → WroteOnce (setup_of config) (script_of bytes) old new
  pub failing : (sent : ℕ) → result ≡ Err (script_faults.Run (run_faults.Write sent)) → failed ≡ true

-- A server with these settings, and with a page where a port is given for it, ended so; a beginning of its lines was written, and all of them where
-- all went well.
pub record HasServed (config : Config) (given : Option ℕ) (uidvalidity : Uidvalidity) (result : Result (Unit {0}) ServeFault)
    (old new : Option (List ℕ)) : Type 0 where
  pub wrong : (fault : ConfigFault) → result ≡ Err (serve_faults.Config fault) → server_fault config ≡ Some fault
  pub right : OnOk result (server_fault config ≡ None)
  -- wrong settings are told, or want of memory is, and nothing was written
  pub refused : (fault : ConfigFault) → server_fault config ≡ Some fault
      → ((result ≡ Err (serve_faults.Config fault)) ⊎ (result ≡ Err serve_faults.NoMemory)) × (new ≡ old)
  pub told : HasBegun config given uidvalidity old new
  pub all : OnOk result (HasAnnounced config given uidvalidity old new)

-- This came of what was asked for: of a script, from an input of which this remained, if that is known, or of a server.
abbrev pub HasDone : Asked → Done → (remaining : Option (List ℕ)) → (failed : Bool) → (old new : Option (List ℕ)) → Type 0
HasDone (Script config form) (Played result) remaining failed old new = (bytes : List ℕ) → remaining ≡ Some bytes
    → RanScript form config bytes failed result old new
HasDone (Serve config uidvalidity report) (Served result) remaining failed old new = HasServed config report.status uidvalidity result old new
HasDone asked done remaining failed old new = ⊥

-- Clap takes the words, they ask for this, with settings that are in their ranges, it was done, and the status tells what came of it.
pub record HasDoneAsked (words : List Text) (asked : Asked) (done : Done) (remaining : Option (List ℕ)) (failed : Bool) (status : ℕ)
    (old new : Option (List ℕ)) : Type 0 where
  pub taken : faults_at words ≡ []
  pub asks : AsksFor words asked
  pub range : IsAskedInRange asked
  pub did : HasDone asked done remaining failed old new
  pub status_is : status ≡ status_of_done done

-- What the words ask for was done; or they ask for nothing that is done, the input wasn't touched (`unread`), and that was told.
abbrev pub HasRun : (words : List Text) → Outcome → (unread : Type 0) → (remaining : Option (List ℕ)) → (untouched : Type 0) → (failed : Bool)
    → (status : ℕ)
    → (old new : Option (List ℕ)) → Type 0
HasRun words (Did asked done) unread remaining untouched failed status old new = HasDoneAsked words asked done remaining failed status old new
HasRun words (Refused why) unread remaining untouched failed status old new = unread × HasRefused words why untouched failed status old new
