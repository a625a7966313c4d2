-- The names of hosts, domains, users and folders, the words that a directory is made of, and which mailbox a path names there.
use Rattle.std.specs.Prelude.{ℕ, Bool, true, false, codes, List, [], ◌∷◌, ◌++◌, length, map, position, Option, Some, None, Result, Ok, Err, ◌&&◌, ◌||◌, not, nat_le, nat_lt, if◌then◌else◌, drop, ◌==◌, ◌%◌, replicate, slice_index_or}
use Rattle.std.specs.List.{list_any, list_all, before_first, after_first}
use Rattle.std.specs.Str.{str_eq_ignore_ascii_case as is_same, bytes_eq}
use Rattle.std.specs.Borrow.{Bor}
use Rattle.envelope.specs.Bytes.{is_in, is_slash, is_alphanumeric}
use Rattle.envelope.specs.declared.directory.DirectoryFault.{DirectoryFault}
use Rattle.envelope.specs.declared.directory.DirectoryFault.TheVariants.{TooMany, BadName, Twice}
use Rattle.std.specs.Option.{ok_or}
use Rattle.envelope.specs.Values.{Path, Null, Postmaster, To}
use Rattle.envelope.specs.declared.directory.NoSuch.{NoSuch}
use Rattle.envelope.specs.declared.directory.NoSuch.TheVariants.{System, User}

-- ---- which mailbox a path names

-- a mailbox: a user's folder, or the user's INBOX
pub record Home : Type 0 where
  pub user : List ℕ
  pub folder : Option (List ℕ)

-- Mailboxes are numbered in their order. Of each shard there is a mark whether it is shut: mail for its mailboxes is taken no more.
pub record Directory : Type 0 where
  pub domains : List (List ℕ)
  pub homes : List Home
  pub shards : ℕ
  pub shut : List Bool

-- ---- what a local part says

abbrev pub begins_quoted : List ℕ → Bool
begins_quoted [] = false
begins_quoted (b ∷ bs) = b == 34

-- what stands in a quoted string, without the backslashes that quote; after one of them is `escaped`
abbrev pub unquoted : Bool → List ℕ → List ℕ
unquoted escaped [] = []
unquoted true (b ∷ bs) = b ∷ unquoted false bs
unquoted false (b ∷ bs) =
    if b == 34 then [] else if b == 92 then unquoted true bs else b ∷ unquoted false bs

-- the value of a local part as spelled
abbrev pub value_of : List ℕ → List ℕ
value_of local = if begins_quoted local then unquoted false (drop 1 local) else local

abbrev pub is_plus : ℕ → Bool
is_plus b = b == 43

abbrev pub folder_named : List ℕ → Option (List ℕ)
folder_named name = if is_same name (codes "INBOX") then None else Some name

-- the user before the first +, and the folder behind it
abbrev pub wanted : List ℕ → Home
wanted value = record {
  user = before_first is_plus value;
  folder = if list_any is_plus value then folder_named (after_first is_plus value) else None;
}

-- ---- lookup

abbrev pub is_same_folder : Option (List ℕ) → Option (List ℕ) → Bool
is_same_folder None None = true
is_same_folder None (Some b) = false
is_same_folder (Some a) None = false
is_same_folder (Some a) (Some b) = is_same a b

abbrev pub is_home : Home → Home → Bool
is_home a b = is_same a.user b.user && is_same_folder a.folder b.folder

-- the number of a mailbox
abbrev pub numbered : Directory → Home → Result ℕ NoSuch
numbered directory home = ok_or (position (is_home home) directory.homes) User

-- the mailbox of a path. `<postmaster>` needs no domain and is that user; the null path is nobody's
abbrev pub lookup : Directory → Path → Result ℕ NoSuch
lookup directory Null = Err User
lookup directory Postmaster = numbered directory (wanted (codes "postmaster"))
lookup directory (To address) =
    if list_any (is_same address.domain) directory.domains
    then numbered directory (wanted (value_of address.local))
    else Err System

abbrev pub shard_of : Directory → ℕ → ℕ
shard_of directory mailbox = mailbox % directory.shards

-- ---- shards that are shut

-- whether the shard is marked as shut; one that isn't there is not
abbrev pub is_shut : Directory → ℕ → Bool
is_shut directory shard = slice_index_or directory.shut shard false

-- the directory with these marks, and as it was else
abbrev pub marked : List Bool → Directory → Directory
marked shut directory = record directory { shut = shut }

-- no shard is shut
abbrev pub none_shut : ℕ → List Bool
none_shut shards = replicate shards false

abbrev pub has_length : (least most : ℕ) → List ℕ → Bool
has_length least most name = nat_le least (length name) && nat_le (length name) most

-- ---- hosts and domains: 1 to 255 letters, digits, - and .

abbrev pub is_name_byte : ℕ → Bool
is_name_byte b = is_alphanumeric b || is_in (codes "-.") b

abbrev pub is_name : List ℕ → Bool
is_name name = has_length 1 255 name && list_all is_name_byte name

-- ---- users: 1 to 64 lower letters, digits, ., _ and -

abbrev pub is_user_byte : ℕ → Bool
is_user_byte b = (nat_le 97 b && nat_le b 122) || (nat_le 48 b && nat_le b 57) || is_in (codes "._-") b

abbrev pub is_user : List ℕ → Bool
is_user name = has_length 1 64 name && list_all is_user_byte name

-- ---- folders: 1 to 64 letters, digits, _ and -, and no spelling of INBOX

abbrev pub is_folder_byte : ℕ → Bool
is_folder_byte b = is_alphanumeric b || is_in (codes "_-") b

abbrev pub is_folder : List ℕ → Bool
is_folder name = has_length 1 64 name && list_all is_folder_byte name && not (is_same name (codes "INBOX"))

-- ---- words: `user`, or `user/folder`

-- the mailbox that a word names: the user before its first slash, and the folder behind it
abbrev pub home_of : List ℕ → Home
home_of word = record {
  user = before_first is_slash word;
  folder = if list_any is_slash word then Some (after_first is_slash word) else None;
}

abbrev pub inbox_of : Home → Home
inbox_of home = record { user = home.user; folder = None }

-- a folder's name is right, and its user has a word of its own before it
abbrev pub has_right_folder : List Home → Home → Option (List ℕ) → Bool
has_right_folder earlier home None = true
has_right_folder earlier home (Some folder) = is_folder folder && list_any (is_home (inbox_of home)) earlier

abbrev pub is_right : List Home → Home → Bool
is_right earlier home = is_user home.user && has_right_folder earlier home home.folder

-- what is wrong with a word, where these mailboxes have words before it
abbrev pub word_fault : List Home → Home → Option DirectoryFault
word_fault earlier home =
    if not (is_right earlier home) then Some BadName
    else if list_any (is_home home) earlier then Some Twice
    else None

abbrev pub or_fault : Option DirectoryFault → Option DirectoryFault → Option DirectoryFault
or_fault None later = later
or_fault (Some fault) later = Some fault

-- what is wrong with the first word that has a fault
abbrev pub first_fault : List Home → List Home → Option DirectoryFault
first_fault earlier [] = None
first_fault earlier (home ∷ homes) = or_fault (word_fault earlier home) (first_fault (earlier ++ home ∷ []) homes)

-- ---- all of it

-- texts, without where they lie in memory
abbrev pub texts : List (Bor (List ℕ)) → List (List ℕ)
texts names = map (λ name. name.now) names

abbrev pub homes_unless : Option DirectoryFault → List Home → Result (List Home) DirectoryFault
homes_unless None homes = Ok homes
homes_unless (Some fault) homes = Err fault

-- the mailboxes of the words in their order, or the fault: too many words, then the domains, then word by word
abbrev pub words_read : (domains words : List (List ℕ)) → Result (List Home) DirectoryFault
words_read domains words =
    if nat_lt 64 (length words) then Err TooMany
    else if not (list_all is_name domains) then Err BadName
    else homes_unless (first_fault [] (map home_of words)) (map home_of words)

-- ---- the mailbox of a word

abbrev pub is_exact_folder : Option (List ℕ) → Option (List ℕ) → Bool
is_exact_folder None None = true
is_exact_folder None (Some b) = false
is_exact_folder (Some a) None = false
is_exact_folder (Some a) (Some b) = bytes_eq a b

abbrev pub is_exactly : Home → Home → Bool
is_exactly a b = bytes_eq a.user b.user && is_exact_folder a.folder b.folder

-- the number of the mailbox that a word names, compared byte by byte
abbrev pub number_of : Directory → List ℕ → Option ℕ
number_of directory word = position (is_exactly (home_of word)) directory.homes
