-- The directory that the settings name.
use Rattle.std.proofs.Common.{◌≡◌, ℕ, Bool, true, false, List, [], ◌∷◌, length, map, ap, ◌∙◌, Option, Some, None, Ok, Err}
use Rattle.std.specs.Prelude.{nat_lt, not, if◌then◌else◌}
use Rattle.std.specs.List.{list_all}
use Rattle.envelope.specs.Names.{Directory, Home, none_shut, is_name, home_of, words_read, first_fault, homes_unless}
use Rattle.envelope.specs.declared.directory.DirectoryFault.{DirectoryFault}
use Rattle.envelope.specs.declared.directory.DirectoryFault.TheVariants.{TooMany, BadName}
use Rattle.settings.specs.declared.config.Config.{Config}
use Rattle.settings.specs.Settings.{directory_for, words_of}

-- words that are read are the mailboxes that they name
homes_are : (many right : Bool) (fault : Option DirectoryFault) (homes read : List Home)
    → (if many then Err TooMany else if not right then Err BadName else homes_unless fault homes) ≡ Ok read → read ≡ homes
homes_are true right fault homes read e = absurd (cc)
homes_are false false fault homes read e = absurd (cc)
homes_are false true None homes read e = cc
homes_are false true (Some fault) homes read e = absurd (cc)

pub read_homes : (domains words : List (List ℕ)) (read : List Home) → words_read domains words ≡ Ok read → read ≡ map home_of words
read_homes domains words read e = homes_are (nat_lt 64 (length words)) (list_all is_name domains) (first_fault [] (map home_of words)) (map home_of words) read e

pub directory_is : (c : Config) (d : Directory) → d.domains ≡ c.domain.items ∷ [] → d.homes ≡ map home_of (words_of c) → d.shards ≡ c.shards → d.shut ≡ none_shut c.shards → d ≡ directory_for c
directory_is c d domains homes shards shut =
    ap (λ (x : List (List ℕ)). let r : Directory = record { domains = x; homes = d.homes; shards = d.shards; shut = d.shut } in r) domains
    ∙ ap (λ (x : List Home). let r : Directory = record { domains = c.domain.items ∷ []; homes = x; shards = d.shards; shut = d.shut } in r) homes
    ∙ ap (λ (x : ℕ). let r : Directory = record { domains = c.domain.items ∷ []; homes = map home_of (words_of c); shards = x; shut = d.shut } in r) shards
    ∙ ap (λ (x : List Bool). let r : Directory = record { domains = c.domain.items ∷ []; homes = map home_of (words_of c); shards = c.shards; shut = x } in r) shut
