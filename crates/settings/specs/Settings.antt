-- The settings of a house: those that stand where none are given, their ranges, what may be wrong with them, and the directory of their mailboxes.
use Rattle.std.specs.Prelude.{◌≡◌, ◌≢◌, ℕ, ◌+◌, ◌*◌, ◌<◌, ◌≤◌, ◌==◌, ◌&&◌, ◌||◌, not, Bool, false, nat_lt, List, [], ◌∷◌, length, map, count_by, codes, Option, Some, None, Result, Ok, Err, if◌then◌else◌}
use Rattle.std.specs.List.{list_any}
use Rattle.envelope.specs.Names.{Directory, Home, none_shut, home_of, words_read}
use Rattle.envelope.specs.declared.directory.DirectoryFault.{DirectoryFault}
use Rattle.envelope.specs.declared.directory.DirectoryFault.TheVariants as names
use Rattle.settings.specs.declared.config.Config.{Config}
use Rattle.settings.specs.declared.config.ConfigFault.{ConfigFault}
use Rattle.settings.specs.declared.config.ConfigFault.TheVariants.{TooMany, BadName, Twice, Ring, Ports, NoMemory}

-- the words of the mailboxes
abbrev pub words_of : Config → List (List ℕ)
words_of c = map (λ w. w.items) c.mailboxes.items

-- the settings that stand where none are given, with the mailboxes of these words
pub record IsDefault (c : Config) (words : List (List ℕ)) : Type 0 where
  pub host : c.host.items ≡ codes "mx.example.org"
  pub domain : c.domain.items ≡ codes "example.org"
  pub mailboxes : words_of c ≡ words
  pub shards : c.shards ≡ 1
  pub depth : c.depth ≡ 64
  pub ring : c.ring ≡ 2048
  pub ring_max : c.ring_max ≡ 0
  pub messages : c.messages ≡ 1024
  pub max_message : c.max_message ≡ 1048576
  pub uidvalidity : c.uidvalidity ≡ 1
  pub first_uid : c.first_uid ≡ 1
  pub sessions : c.sessions ≡ 2
  pub workers : c.workers ≡ 4
  pub lmtp_port : c.lmtp_port ≡ 2424
  pub imap_port : c.imap_port ≡ 14300
  pub memory : c.memory ≡ None
  pub compatible : c.compatible ≡ false

-- ---- the ranges of the numbers

abbrev pub IsFrom : (least most n : ℕ) → Type 0
IsFrom least most n = (least ≤ n) × (n ≤ most)

-- so many sessions of one user may be open at a time, in the compatible profile and in the standard one
abbrev pub most_sessions : Bool → ℕ
most_sessions compatible = if compatible then 16 else 4

-- each number is in its range, and there is a mailbox
pub record IsInRange (c : Config) : Type 0 where
  pub mailboxes : 0 < length c.mailboxes.items
  pub shards : IsFrom 1 8 c.shards
  pub depth : IsFrom 1 1024 c.depth
  pub ring : IsFrom 16 65536 c.ring
  pub ring_max : IsFrom 0 65536 c.ring_max
  pub messages : IsFrom 1 32768 c.messages
  pub max_message : IsFrom 1 16777216 c.max_message
  pub uidvalidity : IsFrom 1 4294967295 c.uidvalidity
  pub first_uid : IsFrom 1 4294967294 c.first_uid
  pub sessions : IsFrom 1 (most_sessions c.compatible) c.sessions
  pub workers : IsFrom 1 8 c.workers
  -- 0 is for ports that the system chooses
  pub lmtp_port : IsFrom 0 65535 c.lmtp_port
  pub imap_port : IsFrom 0 65472 c.imap_port
  pub imap_given : c.imap_port ≢ 0 → 1024 ≤ c.imap_port

-- ---- what may be wrong

-- what is wrong with a name
abbrev pub fault_named : DirectoryFault → ConfigFault
fault_named names.TooMany = TooMany
fault_named names.BadName = BadName
fault_named names.Twice = Twice
fault_named names.NoMemory = NoMemory

-- the ring is to keep two changes for each message, and where it may grow, its most is not to be less than it
abbrev pub is_ring_wrong : Config → Bool
is_ring_wrong c = nat_lt c.ring (2 * c.messages) || (not (c.ring_max == 0) && nat_lt c.ring_max c.ring)

-- a word with a slash names a folder, the others each a user
abbrev pub has_slash : List ℕ → Bool
has_slash word = list_any (λ b. b == 47) word

abbrev pub users_in : Config → ℕ
users_in c = count_by (λ w. not (has_slash w.items)) c.mailboxes.items

-- The port that mail comes to is not that of SMTP, nor that of some user: these are as many as there are users, from the first one on. 0 is no port
-- of a user: the system chooses theirs then.
abbrev pub are_ports_wrong : Config → Bool
are_ports_wrong c = (c.lmtp_port == 25) || (not (c.imap_port == 0)
    && (not (nat_lt c.lmtp_port c.imap_port) && nat_lt c.lmtp_port (c.imap_port + users_in c)))

-- what is wrong with the numbers, where the names are right
unfoldable pub fault_of_numbers : Config → Option ConfigFault
fault_of_numbers c = if is_ring_wrong c then Some Ring else if are_ports_wrong c then Some Ports else None

abbrev pub names_first : Result (List Home) DirectoryFault → Option ConfigFault → Option ConfigFault
names_first (Err fault) later = Some (fault_named fault)
names_first (Ok homes) later = later

-- what is wrong: too many words, the host's name, the domain's, the words one by one, the ring, and the ports last
abbrev pub config_fault : Config → Option ConfigFault
config_fault c = names_first (words_read (c.host.items ∷ c.domain.items ∷ []) (words_of c)) (fault_of_numbers c)

-- ---- the directory

-- the directory that the settings settle: their domain, a mailbox for each word, and no shard shut
abbrev pub directory_for : Config → Directory
directory_for c = record { domains = c.domain.items ∷ []; homes = map home_of (words_of c); shards = c.shards; shut = none_shut c.shards }
