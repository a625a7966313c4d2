-- From what a run promises of its house to what a script with its settings comes to.
use Rattle.std.proofs.Common.{◌≡◌, ◌⊎◌, ◌∙◌, ap, ℕ, List, inl, inr, refl, sym, subst, Option, Some, None, Result, Ok, Err}
use Rattle.std.specs.Prelude.{IfSome}
use Rattle.house.specs.Setup.{setup_of}
use Rattle.house.specs.House.{House}
use Rattle.settings.specs.declared.config.Config.{Config}
use Rattle.settings.specs.declared.config.ConfigFault.{ConfigFault}
use Rattle.settings.specs.declared.config.ConfigFault.TheVariants as config_faults
use Rattle.settings.specs.declared.asking.Form.{Form}
use Rattle.settings.specs.declared.asking.Form.TheVariants.{Text}
use Rattle.script.specs.declared.run.RunFault.{RunFault}
use Rattle.script.specs.declared.run.RunFault.TheVariants as run_faults
use Rattle.script.specs.declared.program.ScriptFault.{ScriptFault}
use Rattle.script.specs.declared.program.ScriptFault.TheVariants as faults
use Rattle.script.specs.Wrote.{RunWrote, WroteOnce, WroteSome}
use Rattle.script.specs.Runs.{ScriptTold, ScriptWrote, script_fault}
use Rattle.script.specs.Script.{ScriptLine, script_of}
use Rattle.script.specs.Telling.{RunTells, RunTold, lines_of}
use Rattle.script.proofs.RunLaws.{nothing_told, run_unbegun}
use Rattle.script.proofs.TellingLaws.{run_told, run_wrote, run_wrote_once}

-- ---- settings that are wrong, or want of memory as they were looked at: nothing was written

pub wrong_told : (form : Form) (config : Config) (lines : List (List ℕ)) (old : Option (List ℕ)) (f : ConfigFault) (r : ScriptFault) → r ≡ script_fault f
    → ScriptTold form config lines (Err r) old old
wrong_told form config lines old config_faults.NoMemory r e =
    subst (λ (x : ScriptFault). ScriptTold form config lines (Err x) old old) (sym e) (nothing_told form (setup_of config) lines old)
wrong_told form config lines old config_faults.TooMany r e = subst (λ (x : ScriptFault). ScriptTold form config lines (Err x) old old) (sym e) refl
wrong_told form config lines old config_faults.BadName r e = subst (λ (x : ScriptFault). ScriptTold form config lines (Err x) old old) (sym e) refl
wrong_told form config lines old config_faults.Twice r e = subst (λ (x : ScriptFault). ScriptTold form config lines (Err x) old old) (sym e) refl
wrong_told form config lines old config_faults.Ring r e = subst (λ (x : ScriptFault). ScriptTold form config lines (Err x) old old) (sym e) refl
wrong_told form config lines old config_faults.Ports r e = subst (λ (x : ScriptFault). ScriptTold form config lines (Err x) old old) (sym e) refl

-- what delivers nothing delivers exactly once
none_written : (config : Config) (lines : List ScriptLine) (old : Option (List ℕ)) → WroteSome (setup_of config) lines old old
none_written config lines old = (run_unbegun (setup_of config) lines old (λ number held others s. Unit {0}) tt).writes

pub none_once : (config : Config) (lines : List ScriptLine) (old : Option (List ℕ)) → WroteOnce (setup_of config) lines old old
none_once config lines old = (none_written config lines old).wrote

pub wrong_wrote : (config : Config) (lines : List ScriptLine) (old : Option (List ℕ)) (f : ConfigFault) (r : ScriptFault) → r ≡ script_fault f
    → ScriptWrote config lines (Err r) old old
wrong_wrote config lines old config_faults.NoMemory r e =
    subst (λ (x : ScriptFault). ScriptWrote config lines (Err x) old old) (sym e) (none_written config lines old)
wrong_wrote config lines old config_faults.TooMany r e = subst (λ (x : ScriptFault). ScriptWrote config lines (Err x) old old) (sym e) refl
wrong_wrote config lines old config_faults.BadName r e = subst (λ (x : ScriptFault). ScriptWrote config lines (Err x) old old) (sym e) refl
wrong_wrote config lines old config_faults.Twice r e = subst (λ (x : ScriptFault). ScriptWrote config lines (Err x) old old) (sym e) refl
wrong_wrote config lines old config_faults.Ring r e = subst (λ (x : ScriptFault). ScriptWrote config lines (Err x) old old) (sym e) refl
wrong_wrote config lines old config_faults.Ports r e = subst (λ (x : ScriptFault). ScriptWrote config lines (Err x) old old) (sym e) refl

-- ---- which fault is told

told_fault : (f x : ConfigFault) → script_fault f ≡ faults.Config x → f ≡ x
told_fault config_faults.TooMany x e = cc
told_fault config_faults.BadName x e = cc
told_fault config_faults.Twice x e = cc
told_fault config_faults.Ring x e = cc
told_fault config_faults.Ports x e = cc
told_fault config_faults.NoMemory x e = absurd (none_told e)
  where
    none_told : faults.Run run_faults.NoMemory ≡ faults.Config x → ⊥
    none_told e = cc

no_config : (x : ConfigFault) → script_fault config_faults.NoMemory ≡ faults.Config x → ⊥
no_config x e = cc

same_script : (a b : ScriptFault) → ◌≡◌ {A = Result (Unit {0}) ScriptFault} (Err a) (Err b) → a ≡ b
same_script a b e = cc

same_fault : (A : Type 0) (a b : ConfigFault) → ◌≡◌ {A = Result A ConfigFault} (Err a) (Err b) → a ≡ b
same_fault A a b e = cc

-- what is wrong with the settings is what is told
pub fault_named : (A : Type 0) (o : Option ConfigFault) (f : ConfigFault) (r : ScriptFault) (x : ConfigFault)
    → IfSome o (λ y. ◌≡◌ {A = Result A ConfigFault} (Err f) (Err y) ⊎ ◌≡◌ {A = Result A ConfigFault} (Err f) (Err config_faults.NoMemory)) → (o ≡ None → f ≡ config_faults.NoMemory)
    → r ≡ script_fault f → ◌≡◌ {A = Result (Unit {0}) ScriptFault} (Err r) (Err (faults.Config x)) → o ≡ Some x
fault_named A None f r x some none is e =
    absurd (no_config x (ap script_fault (sym (none refl)) ∙ sym is ∙ same_script r (faults.Config x) e))
fault_named A (Some y) f r x (inl s) none is e =
    ap (λ (z : ConfigFault). Some z) (sym (same_fault A f y s) ∙ told_fault f x (sym is ∙ same_script r (faults.Config x) e))
fault_named A (Some y) f r x (inr s) none is e =
    absurd (no_config x (ap script_fault (sym (same_fault A f config_faults.NoMemory s)) ∙ sym is ∙ same_script r (faults.Config x) e))

-- where there is a house nothing is wrong with them
pub right_of : (A : Type 0) (o : Option ConfigFault) (h : A)
    → IfSome o (λ y. ◌≡◌ {A = Result A ConfigFault} (Ok h) (Err y) ⊎ ◌≡◌ {A = Result A ConfigFault} (Ok h) (Err config_faults.NoMemory)) → o ≡ None
right_of A None h some = refl
right_of A (Some y) h (inl e) = absurd (cc)
right_of A (Some y) h (inr e) = absurd (cc)

pub not_wrong : (A : Type 0) (o : Option ConfigFault) (h : A)
    → IfSome o (λ y. ◌≡◌ {A = Result A ConfigFault} (Ok h) (Err y) ⊎ ◌≡◌ {A = Result A ConfigFault} (Ok h) (Err config_faults.NoMemory))
    → (y : ConfigFault) → o ≡ Some y → ⊥
not_wrong A o h some y e = let n : o ≡ None = right_of A o h some in cc

-- where they are wrong, that is told or want of memory is
pub refused_as : (A : Type 0) (o : Option ConfigFault) (f y : ConfigFault) (r : ScriptFault)
    → IfSome o (λ z. ◌≡◌ {A = Result A ConfigFault} (Err f) (Err z) ⊎ ◌≡◌ {A = Result A ConfigFault} (Err f) (Err config_faults.NoMemory)) → o ≡ Some y → r ≡ script_fault f
    → ◌≡◌ {A = Result (Unit {0}) ScriptFault} (Err r) (Err (script_fault y)) ⊎ ◌≡◌ {A = Result (Unit {0}) ScriptFault} (Err r) (Err (faults.Run run_faults.NoMemory))
refused_as A None f y r some e is = absurd (cc)
refused_as A (Some z) f y r (inl s) e is = let b : z ≡ y = cc in inl (ap (λ (x : ScriptFault). Err x) (is ∙ ap script_fault (same_fault A f z s ∙ b)))
refused_as A (Some z) f y r (inr s) e is = inr (ap (λ (x : ScriptFault). Err x) (is ∙ ap script_fault (same_fault A f config_faults.NoMemory s)))

-- ---- a run, by how it ended

pub ran_wrote : (form : Form) (config : Config) (input : List ℕ) (h : House) (r : Result (Unit {0}) RunFault) (old new : Option (List ℕ)) → form ≡ Text
    → RunTells form (setup_of config) (lines_of input) h r old new → RunWrote (setup_of config) (script_of input) r old new
ran_wrote form config input h r old new is w =
    run_wrote (setup_of config) input r old new
    (subst (λ (x : Form). RunTold x (setup_of config) (lines_of input) r old new) is (run_told form (setup_of config) (lines_of input) h r old new w))

pub ran_once : (form : Form) (config : Config) (input : List ℕ) (h : House) (r : Result (Unit {0}) RunFault) (old new : Option (List ℕ)) → form ≡ Text
    → RunTells form (setup_of config) (lines_of input) h r old new → WroteOnce (setup_of config) (script_of input) old new
ran_once form config input h r old new is w =
    run_wrote_once (setup_of config) input r old new
    (subst (λ (x : Form). RunTold x (setup_of config) (lines_of input) r old new) is (run_told form (setup_of config) (lines_of input) h r old new w))

pub same_run : (a b : RunFault) → ◌≡◌ {A = Result (Unit {0}) ScriptFault} (Err (faults.Run a)) (Err (faults.Run b)) → ◌≡◌ {A = Result (Unit {0}) RunFault} (Err a) (Err b)
same_run a b e = let i : a ≡ b = cc in ap (λ (x : RunFault). Err x) i
