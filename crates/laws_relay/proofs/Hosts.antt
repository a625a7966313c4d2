-- A host's name that the settings let in can stand in a line.
use Rattle.std.proofs.Common.{◌≡◌, ℕ, Bool, true, false, List, [], ◌∷◌, refl, ap, subst, ◌∙◌}
use Rattle.std.specs.Prelude.{◌==◌, ◌&&◌, not, Result, Ok, Err, length, map, nat_lt, if◌then◌else◌}
use Rattle.std.specs.List.{list_all}
use Rattle.std.proofs.lemmas.Bool.{false≢true}
use Rattle.std.proofs.lemmas.Bool.Decides.{Decides-eqb}
use Rattle.envelope.specs.Names.{Home, first_fault, has_length, home_of, homes_unless, is_name, is_name_byte, words_read}
use Rattle.envelope.specs.declared.directory.DirectoryFault.{DirectoryFault}
use Rattle.envelope.specs.declared.directory.DirectoryFault.TheVariants.{BadName, TooMany}
use Rattle.laws_relay.specs.Handed.{IsInLine}

both : (a b : Bool) → (a && b) ≡ true → (a ≡ true) × (b ≡ true)
both true b e = (refl, e)
both false b e = absurd (false≢true e)

no_fault : {homes : List Home} {fault : DirectoryFault} → ◌≡◌ {A = Result (List Home) DirectoryFault} (Err fault) (Ok homes) → ⊥
no_fault e = cc

-- a byte of a name ends no line
no_end : (b : ℕ) → is_name_byte b ≡ true → not (b == 10) ≡ true
no_end b e = by_test (b == 10) refl
  where
    by_test : (t : Bool) → (b == 10) ≡ t → not t ≡ true
    by_test false h = refl
    by_test true h = absurd (false≢true (subst (λ (x : ℕ). is_name_byte x ≡ true) ((Decides-eqb b 10).0 h) e))

all_in_line : (name : List ℕ) → list_all is_name_byte name ≡ true → IsInLine name
all_in_line [] e = refl
all_in_line (b ∷ bs) e =
    let h = both (is_name_byte b) (list_all is_name_byte bs) e in
    ap (λ (t : Bool). t && list_all (λ x. not (x == 10)) bs) (no_end b h.0) ∙ all_in_line bs h.1

name_in_line : (name : List ℕ) → is_name name ≡ true → IsInLine name
name_in_line name e = all_in_line name (both (has_length 1 255 name) (list_all is_name_byte name) e).1

-- the words were read only where the names are right
pub names_right : (names words : List (List ℕ)) (homes : List Home) → words_read names words ≡ Ok homes → list_all is_name names ≡ true
names_right names words homes e = by_tests (nat_lt 64 (length words)) (list_all is_name names) e
  where
    by_tests : (long right : Bool)
        → (if long then Err TooMany else if not right then Err BadName else homes_unless (first_fault [] (map home_of words)) (map home_of words)) ≡ Ok homes → right ≡ true
    by_tests true right h = absurd (no_fault h)
    by_tests false true h = refl
    by_tests false false h = absurd (no_fault h)

pub host_in_line : (host : List ℕ) (others words : List (List ℕ)) (homes : List Home) → words_read (host ∷ others) words ≡ Ok homes → IsInLine host
host_in_line host others words homes e = name_in_line host (both (is_name host) (list_all is_name others) (names_right (host ∷ others) words homes e)).0
