-- The names of a user's mailboxes stand in lines.
use Rattle.std.proofs.Common.{◌≡◌, ℕ, ◌+◌, ◌==◌, Bool, true, false, List, [], ◌∷◌, ◌++◌, length, refl, ap, sym, arith}
use Rattle.std.specs.Prelude.{Option, Some, None, IfSome, Err, codes, nat_lt, ◌&&◌, not, map, if◌then◌else◌}
use Rattle.std.specs.List.{list_all, list_any}
use Rattle.std.specs.Str.{bytes_eq, str_eq_ignore_ascii_case as is_same}
use Rattle.std.proofs.lemmas.Bool.{false≢true}
use Rattle.std.proofs.lemmas.Option.{none-some}
use Rattle.envelope.specs.Names.{Directory, Home, is_home, first_fault, has_length, has_right_folder, home_of, homes_unless, inbox_of, is_folder, is_folder_byte, is_name, is_right, is_user, or_fault, word_fault, words_read}
use Rattle.envelope.specs.declared.directory.DirectoryFault.{DirectoryFault}
use Rattle.envelope.specs.declared.directory.DirectoryFault.TheVariants.{TooMany, BadName, Twice}
use Rattle.imap_grammar.proofs.Tokens.{excludes, not_true}
use Rattle.imap_session.specs.Folders.{folders_from, folders_of, name_of}
use Rattle.laws_client.specs.Commands.{AreNames}
use Rattle.laws_client.specs.ListTurns.{is_inner, IsPlain}
use Rattle.laws_client.proofs.Bytes.{first_of, rest_of}
use Rattle.laws_client.proofs.Ends.{plain_words}
use Rattle.settings.specs.declared.config.ConfigFault.{ConfigFault}
use Rattle.settings.specs.Settings.{fault_of_numbers, names_first, words_of}
use Rattle.laws_client.specs.ClientRecords.{SettingsCanBePrinted}
use Rattle.laws_client.specs.HouseClients.{AreFolders}

inner_byte : (b : ℕ) → is_folder_byte b ≡ true → is_inner b ≡ true
inner_byte b h = rw (not_true (b == 10) (excludes is_folder_byte 10 refl b h)) refl

plain_all : (b : ℕ) (bs : List ℕ) → list_all is_folder_byte (b ∷ bs) ≡ true → IsPlain (b ∷ bs)
plain_all b [] h = record {
  front = [];
  last = b;
  is = refl;
  no_count = not_true (b == 125) (excludes is_folder_byte 125 refl b (first_of is_folder_byte b [] h));
  inner = rw (inner_byte b (first_of is_folder_byte b [] h)) refl;
}
plain_all b (c ∷ cs) h = more (plain_all c cs (rest_of is_folder_byte b (c ∷ cs) h))
  where
    more : IsPlain (c ∷ cs) → IsPlain (b ∷ c ∷ cs)
    more p = record {
      front = b ∷ p.front;
      last = p.last;
      is = ap (λ (xs : List ℕ). b ∷ xs) p.is;
      no_count = p.no_count;
      inner = rw (inner_byte b (first_of is_folder_byte b (c ∷ cs) h), p.inner) refl;
    }

left_true : (a b : Bool) → (a && b) ≡ true → a ≡ true
left_true true b h = refl
left_true false b h = absurd (false≢true h)

right_true : (a b : Bool) → (a && b) ≡ true → b ≡ true
right_true true b h = h
right_true false b h = absurd (false≢true h)

folder_plain : (name : List ℕ) → is_folder name ≡ true → IsPlain name
folder_plain [] h = absurd (false≢true h)
folder_plain (b ∷ bs) h =
    plain_all b bs
    (right_true (has_length 1 64 (b ∷ bs)) (list_all is_folder_byte (b ∷ bs))
    (left_true (has_length 1 64 (b ∷ bs) && list_all is_folder_byte (b ∷ bs)) (not (is_same (b ∷ bs) (codes "INBOX"))) h))

name_plain : (folder : Option (List ℕ)) → IfSome folder (λ name. is_folder name ≡ true) → IsPlain (name_of folder)
name_plain None h = plain_words (codes "INBO") 88 refl refl
name_plain (Some name) h = folder_plain name h

from_plain : (m : ℕ) (user : List ℕ) (homes : List Home) → AreFolders homes → AreNames (folders_from m user homes)
from_plain m user [] h = tt
from_plain m user (home ∷ homes) h = by (bytes_eq user home.user) (from_plain (m + 1) user homes h.1)
  where
    by : (b : Bool) → AreNames (folders_from (m + 1) user homes)
        → AreNames (if b then record { name = name_of home.folder; mailbox = m } ∷ folders_from (m + 1) user homes else folders_from (m + 1) user homes)
    by true more = (name_plain home.folder h.0, more)
    by false more = more

pub folders_plain : (directory : Directory) (user : List ℕ) → AreFolders directory.homes → AreNames (folders_of directory user)
folders_plain directory user h = from_plain 0 user directory.homes h

-- ---- where the settings are right

no_faults : (a b : Option DirectoryFault) → or_fault a b ≡ None → (a ≡ None) × (b ≡ None)
no_faults None b h = (refl, h)
no_faults (Some fault) b h = absurd (none-some fault (sym h))

right_word : (earlier : List Home) (home : Home) → word_fault earlier home ≡ None → IfSome home.folder (λ name. is_folder name ≡ true)
right_word earlier home h = folder home.folder (right (is_right earlier home) (list_any (is_home home) earlier) h)
  where
    right : (a b : Bool) → (if not a then Some BadName else if b then Some Twice else None) ≡ None → a ≡ true
    right true b e = refl
    right false b e = absurd (none-some BadName (sym e))

    folder : (f : Option (List ℕ)) → (is_user home.user && has_right_folder earlier home f) ≡ true → IfSome f (λ name. is_folder name ≡ true)
    folder None e = tt
    folder (Some name) e = left_true (is_folder name) (list_any (is_home (inbox_of home)) earlier) (right_true (is_user home.user) (is_folder name && list_any (is_home (inbox_of home)) earlier) e)

right_words : (earlier homes : List Home) → first_fault earlier homes ≡ None → AreFolders homes
right_words earlier [] h = tt
right_words earlier (home ∷ homes) h =
    let n = no_faults (word_fault earlier home) (first_fault (earlier ++ home ∷ []) homes) h in
    (right_word earlier home n.0, right_words (earlier ++ home ∷ []) homes n.1)

-- words in which nothing is wrong name such folders
pub names_right : (domains words : List (List ℕ)) (later : Option ConfigFault) → names_first (words_read domains words) later ≡ None → AreFolders (map home_of words)
names_right domains words later h = by (nat_lt 64 (length words)) (not (list_all is_name domains)) (first_fault [] (map home_of words)) refl h
  where
    by : (a b : Bool) (f : Option DirectoryFault) → first_fault [] (map home_of words) ≡ f
        → names_first (if a then Err TooMany else if b then Err BadName else homes_unless f (map home_of words)) later ≡ None → AreFolders (map home_of words)
    by true b f e k = absurd (none-some _ (sym k))
    by false true f e k = absurd (none-some _ (sym k))
    by false false None e k = right_words [] (map home_of words) e
    by false false (Some fault) e k = absurd (none-some _ (sym k))

pub settings_can_be_printed : SettingsCanBePrinted
settings_can_be_printed c range right = record {
  numbers = record { first_uid = omega (arith, range.first_uid.1); uidvalidity = omega (arith, range.uidvalidity.1) };
  names = names_right (c.host.items ∷ c.domain.items ∷ []) (words_of c) (fault_of_numbers c) right;
  texts = omega (arith, range.max_message.1);
}
