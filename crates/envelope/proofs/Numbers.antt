-- A word and the mailbox that it names tell the same.
use Rattle.std.proofs.Common.{◌≡◌, ℕ, suc, ◌+◌, Bool, true, false, cond, List, [], ◌∷◌, ◌++◌, take, drop, Decides, refl, ap, ap₂, sym, ◌∙◌, arith}
use Rattle.std.specs.Prelude.{nat_lt, not, ◌||◌, ◌&&◌, if◌then◌else◌, map, Option, Some, None, position}
use Rattle.std.specs.List.{list_any, prefix_len}
use Rattle.std.specs.Str.{bytes_eq}
use Rattle.std.proofs.lemmas.List.{length-map}
use Rattle.std.proofs.lemmas.Bool.{eqb-true}
use Rattle.std.proofs.lemmas.Bool.Decides.{same_from_decides}
use Rattle.std.proofs.lemmas.Slice.Eq.{bytes_eq-Decides}
use Rattle.envelope.specs.Bytes.{is_slash}
use Rattle.envelope.specs.Names.{Directory, Home, home_of, is_exact_folder, is_exactly, number_of}

-- ---- the word of a mailbox

abbrev folder_text : Option (List ℕ) → List ℕ
folder_text None = []
folder_text (Some folder) = 47 ∷ folder

abbrev word_of : Home → List ℕ
word_of home = home.user ++ folder_text home.folder

abbrev spelled : (n : ℕ) (some : Bool) (word : List ℕ) → List ℕ
spelled n some word = take n word ++ folder_text (if some then Some (drop (n + 1) word) else None)

one_byte : (b h : Bool) (n c : ℕ) (cs : List ℕ) → (b ≡ true → c ≡ 47) → spelled n h cs ≡ cs →
    spelled (cond (not b) (1 + n) 0) (b || h) (c ∷ cs) ≡ c ∷ cs
one_byte true h n c cs slash ih = ap (λ x. x ∷ cs) (sym (slash refl))
one_byte false h n c cs slash ih =
    let e : 1 + n ≡ suc n = omega arith in
    let k : suc n + 1 ≡ suc (n + 1) = omega arith in
    rw (e, k) (ap (λ xs. c ∷ xs) ih)

back : (word : List ℕ) → word_of (home_of word) ≡ word
back [] = refl
back (c ∷ cs) = one_byte (is_slash c) (list_any is_slash cs) (prefix_len (λ b. not (is_slash b)) cs) c cs (eqb-true c 47) (back cs)

one_home : (a b : List ℕ) → home_of a ≡ home_of b → a ≡ b
one_home a b e = sym (back a) ∙ ap word_of e ∙ back b

-- ---- mailboxes compared byte by byte

both : {P Q : Type 0} (x y : Bool) → Decides x P → Decides y Q → Decides (x && y) (P × Q)
both true true p q = (λ _. (p.0 refl, q.0 refl), λ _. refl)
both true false p q = (λ e. absurd (let k : true ≡ false = sym e in cc), λ w. q.1 w.1)
both false y p q = (λ e. absurd (let k : true ≡ false = sym e in cc), λ w. p.1 w.0)

same_folder : (x y : Option (List ℕ)) → Decides (is_exact_folder x y) (x ≡ y)
same_folder None None = (λ _. refl, λ _. refl)
same_folder None (Some b) = (λ e. cc, λ e. cc)
same_folder (Some a) None = (λ e. cc, λ e. cc)
same_folder (Some a) (Some b) =
    let d = bytes_eq-Decides a b in
    (λ e. ap (λ (f : List ℕ). Some f) (d.0 e), λ e. d.1 cc)

same_home : (x y : Home) → Decides (is_exactly x y) (x ≡ y)
same_home x y =
    let d = both (bytes_eq x.user y.user) (is_exact_folder x.folder y.folder) (bytes_eq-Decides x.user y.user) (same_folder x.folder y.folder) in
    (λ e. let w = d.0 e in ap₂ home w.0 w.1, λ e. d.1 (ap (λ (h : Home). h.user) e, ap (λ (h : Home). h.folder) e))
  where
    home : List ℕ → Option (List ℕ) → Home
    home user folder = record { user = user; folder = folder }

same_word : (a b : List ℕ) → is_exactly (home_of a) (home_of b) ≡ bytes_eq a b
same_word a b =
    let d = same_home (home_of a) (home_of b) in
    same_from_decides (is_exactly (home_of a) (home_of b)) (bytes_eq a b) (λ e. one_home a b (d.0 e), λ e. d.1 (ap home_of e)) (bytes_eq-Decides a b)

-- ---- positions

same_position : (word : List ℕ) (words : List (List ℕ)) →
    prefix_len (λ h. not (is_exactly (home_of word) h)) (map home_of words) ≡ prefix_len (λ w. not (bytes_eq word w)) words
same_position word [] = refl
same_position word (w ∷ ws) = ap₂ (λ b n. cond (not b) (1 + n) 0) (same_word word w) (same_position word ws)

pub number_is_position : (directory : Directory) (words : List (List ℕ)) (word : List ℕ) →
    directory.homes ≡ map home_of words → number_of directory word ≡ position (bytes_eq word) words
number_is_position directory words word e =
    ap (position (is_exactly (home_of word))) e
    ∙ ap₂ (λ index len. if nat_lt index len then Some index else None) (same_position word words) (length-map words home_of)
