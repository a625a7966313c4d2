-- The name of a house that has settings stands in a line.
use Rattle.std.proofs.Common.{◌≡◌, ◌≢◌, ℕ, ◌⊎◌, inl, inr, Bool, true, false, eqb, not, ◌&&◌, if◌then◌else◌, List, [], ◌∷◌, refl, subst, Option, Some, None, Result, Err}
use Rattle.std.specs.List.{list_all}
use Rattle.std.proofs.lemmas.Bool.{false≢true}
use Rattle.std.proofs.lemmas.Bool.Decides.{eqb_tells}
use Rattle.envelope.specs.Names.{Home, has_length, is_name, is_name_byte}
use Rattle.envelope.specs.declared.directory.DirectoryFault.{DirectoryFault}
use Rattle.envelope.specs.declared.directory.DirectoryFault.TheVariants.{TooMany, BadName}
use Rattle.settings.specs.Settings.{fault_of_numbers, names_first}
use Rattle.settings.specs.declared.config.ConfigFault.{ConfigFault}
use Rattle.laws_relay.proofs.Cuts.{is_inner}
use Rattle.laws_relay.specs.RecordLaws.{SettingsAreInLine}

both : (p q : Bool) → (p && q) ≡ true → (p ≡ true) × (q ≡ true)
both true q e = (refl, e)
both false q e = absurd (false≢true e)

some_fault : (fault : ConfigFault) → Some fault ≡ None → ⊥
some_fault fault e = cc

are_names : (many names : Bool) (homes : Result (List Home) DirectoryFault) (later : Option ConfigFault)
    → names_first (if many then Err TooMany else if not names then Err BadName else homes) later ≡ None → names ≡ true
are_names true names homes later e = absurd (some_fault _ e)
are_names false false homes later e = absurd (some_fault _ e)
are_names false true homes later e = refl

inner_byte : (b : ℕ) → is_name_byte b ≡ true → is_inner b ≡ true
inner_byte b h = by (eqb_tells b 10)
  where
    by : ((eqb b 10 ≡ true) × (b ≡ 10)) ⊎ ((eqb b 10 ≡ false) × (b ≢ 10)) → is_inner b ≡ true
    by (inl (t, e)) = absurd (false≢true (subst (λ (x : ℕ). is_name_byte x ≡ true) e h))
    by (inr (t, e)) = rw t refl

all_inner : (name : List ℕ) → list_all is_name_byte name ≡ true → list_all is_inner name ≡ true
all_inner [] h = refl
all_inner (b ∷ bs) h =
    let x = both (is_name_byte b) (list_all is_name_byte bs) h in
    rw (inner_byte b x.0) (all_inner bs x.1)

pub settings_are_in_line : SettingsAreInLine
settings_are_in_line c e =
    let names = are_names _ (list_all is_name (c.host.items ∷ c.domain.items ∷ [])) _ (fault_of_numbers c) e in
    let host = both (is_name c.host.items) (list_all is_name (c.domain.items ∷ [])) names in
    all_inner c.host.items (both (has_length 1 255 c.host.items) (list_all is_name_byte c.host.items) host.0).1
