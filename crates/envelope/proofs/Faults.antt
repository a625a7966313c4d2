-- What is wrong with the names of a directory, said of names where they lie in memory.
use Rattle.std.proofs.Common.{◌≡◌, ℕ, Bool, true, false, List, [], ◌∷◌, length, Bor, refl, ap, ap₂, ◌∙◌}
use Rattle.std.specs.Prelude.{nat_lt, not, ◌&&◌, if◌then◌else◌, map, Option, Some, None, Err}
use Rattle.std.specs.List.{list_all}
use Rattle.std.specs.Result.{result_err}
use Rattle.std.proofs.lemmas.List.{length-map}
use Rattle.envelope.specs.Names.{Home, is_name, texts, home_of, words_read, first_fault, homes_unless}
use Rattle.envelope.specs.declared.directory.DirectoryFault.{DirectoryFault}
use Rattle.envelope.specs.declared.directory.DirectoryFault.TheVariants.{TooMany, BadName}

all_texts : (p : List ℕ → Bool) (names : List (Bor (List ℕ))) → list_all p (texts names) ≡ list_all (λ n. p n.now) names
all_texts p [] = refl
all_texts p (x ∷ xs) = ap (λ b. p x.now && b) (all_texts p xs)

in_order : (many right : Bool) (fault : Option DirectoryFault) (homes : List Home) →
    result_err (if many then Err TooMany else if not right then Err BadName else homes_unless fault homes)
    ≡ (if many then Some TooMany else if not right then Some BadName else fault)
in_order true right fault homes = refl
in_order false false fault homes = refl
in_order false true None homes = refl
in_order false true (Some fault) homes = refl

pub fault_is : (domains words : List (Bor (List ℕ))) →
    result_err (words_read (texts domains) (texts words))
    ≡ (if nat_lt 64 (length words) then Some TooMany
    else if not (list_all (λ d. is_name d.now) domains) then Some BadName
    else first_fault [] (map home_of (texts words)))
fault_is domains words =
    let homes = map home_of (texts words) in
    in_order (nat_lt 64 (length (texts words))) (list_all is_name (texts domains)) (first_fault [] homes) homes
    ∙ ap₂ (λ n right. if nat_lt 64 n then Some TooMany else if not right then Some BadName else first_fault [] homes)
    (length-map words (λ w. w.now)) (all_texts is_name domains)
