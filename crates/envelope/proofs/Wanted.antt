-- The mailbox that a value names, found piece by piece.
use Rattle.std.proofs.Common.{◌≡◌, ℕ, suc, ◌+◌, Bool, true, false, cond, List, [], ◌∷◌, take, drop, refl, arith}
use Rattle.std.specs.Prelude.{not, ◌||◌, ◌&&◌, if◌then◌else◌, Option, None}
use Rattle.std.specs.List.{list_any, prefix_len}
use Rattle.std.specs.Char.{eq_ignore_ascii_case}
use Rattle.std.specs.Str.{str_eq_ignore_ascii_case as is_same}
use Rattle.envelope.specs.Names.{is_home, is_same_folder, wanted, folder_named, is_plus}
use Rattle.envelope.specs.LocalPart.{past_user}
use Rattle.envelope.specs.inner.LocalPart.{says_folder_after}

-- a value's parts at its first +
abbrev front : List ℕ → ℕ
front value = prefix_len (λ b. not (is_plus b)) value

abbrev names : (n : ℕ) (some : Bool) (value user : List ℕ) (folder : Option (List ℕ)) → Bool
names n some value user folder = is_same (take n value) user && is_same_folder (if some then folder_named (drop (n + 1) value) else None) folder

no_user : (b h : Bool) (n c : ℕ) (cs : List ℕ) (folder : Option (List ℕ)) →
    names (cond (not b) (1 + n) 0) (b || h) (c ∷ cs) [] folder ≡ (if b then is_same_folder (folder_named cs) folder else false)
no_user true h n c cs folder = refl
no_user false h n c cs folder = let e : 1 + n ≡ suc n = omega arith in rw e refl

first_byte : (e x y : Bool) (rest : Option (List ℕ)) (folder : Option (List ℕ)) →
    (x && y) ≡ says_folder_after rest folder → ((e && x) && y) ≡ says_folder_after (if not e then None else rest) folder
first_byte true x y rest folder h = h
first_byte false x y rest folder h = refl

one_byte : (b h : Bool) (n c u : ℕ) (cs us : List ℕ) (folder : Option (List ℕ)) →
    names n h cs us folder ≡ says_folder_after (past_user us cs) folder →
    names (cond (not b) (1 + n) 0) (b || h) (c ∷ cs) (u ∷ us) folder
    ≡ says_folder_after (if b || not (eq_ignore_ascii_case c u) then None else past_user us cs) folder
one_byte true h n c u cs us folder ih = refl
one_byte false h n c u cs us folder ih =
    let e : 1 + n ≡ suc n = omega arith in
    let k : suc n + 1 ≡ suc (n + 1) = omega arith in
    rw (e, k) (first_byte (eq_ignore_ascii_case c u) _ _ (past_user us cs) folder ih)

said_by : (value user : List ℕ) (folder : Option (List ℕ)) →
    names (front value) (list_any is_plus value) value user folder ≡ says_folder_after (past_user user value) folder
said_by [] [] folder = refl
said_by (c ∷ cs) [] folder = no_user (is_plus c) (list_any is_plus cs) (front cs) c cs folder
said_by [] (u ∷ us) folder = refl
said_by (c ∷ cs) (u ∷ us) folder = one_byte (is_plus c) (list_any is_plus cs) (front cs) c u cs us folder (said_by cs us folder)

pub wanted_is : (value user : List ℕ) (folder : Option (List ℕ)) →
    is_home (wanted value) (record { user = user; folder = folder }) ≡ says_folder_after (past_user user value) folder
wanted_is value user folder = said_by value user folder
