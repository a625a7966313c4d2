-- What is given for each setting, as clap's getters read it.
use Rattle.std.proofs.Common.{◌≡◌, ◌∙◌, ◌<◌, ◌^◌, ◌&&◌, ◌∷◌, ℕ, Bool, true, false, if◌then◌else◌, is_some, List, [], Option, Some, None, Result, Ok, Err, ap, codes, length, map, refl, sym}
use Rattle.std.specs.Borrow.{Bor}
use Rattle.std.specs.Box.{box_value}
use Rattle.std.specs.Prelude.{Box, OkIff, option_map, unwrap_or}
use Rattle.std.specs.Char.{is_ascii_digit}
use Rattle.std.specs.List.{list_all}
use Rattle.std.specs.Str.{all_ascii_digits}
use Rattle.std.specs.Str.Parse.{ParsesUnsigned, digits_value}
use Rattle.std.proofs.lemmas.Str.Parse.{numerals_by_value, parse_digits, tells_all_ascii_digits}
use Rattle.clap.specs.Matches.{first_value, found_of, matched_of, raw_values, subcommand_name_of}
use Rattle.clap.specs.Words.{Row, Text, all_of, first_of, rows_of, subcommand_rows, subcommand_rows_of}
use Rattle.clap.specs.declared.parser.matches.ArgMatches.{ArgMatches}
use Rattle.clap.specs.declared.parser.matches.ArgMatches.TheViews.{out-ArgMatches, out-SubCommand}
use Rattle.clap.specs.declared.parser.matches.Found.{Found}
use Rattle.clap.specs.declared.parser.matches.SubCommand.{SubCommand}
use Rattle.clap.proofs.WalkLemmas.{first_value-rows, raw_values-rows}
use Rattle.settings.specs.Settings.{IsDefault, words_of}
use Rattle.settings.specs.declared.config.Config.{Config}
use Rattle.settings.specs.declared.asking.Reporting.{Reporting}
use Rattle.settings.specs.declared.asking.Uidvalidity.{Uidvalidity}
use Rattle.settings.specs.declared.asking.Uidvalidity.TheVariants.{Given, Default}
use Rattle.std.proofs.lemmas.List.{length-map}
use Rattle.command_line.specs.Asking.{AreHouseSettings, AsksForScript, AsksForServer, GivesMemory, is_flag, is_given, mailboxes_given, number_given, number_or, port_of, reporting_given, server_shards, text_given, uidvalidity_given}

-- ---- one option

first_is : (f : Found) (id : Text) (o : Option (Bor Text)) → option_map (λ s. s.now) o ≡ first_value f id → option_map (λ s. s.now) o ≡ first_of id (rows_of f)
first_is f id o is = is ∙ first_value-rows f id

pub not_given : (f : Found) (id : Text) (default : ℕ) (o : Option (Bor Text)) → option_map (λ s. s.now) o ≡ first_value f id → o ≡ None → default ≡ number_given (rows_of f) id default
not_given f id default o is none =
    ap (λ (p : Option Text). number_or p default) (ap (option_map (λ (s : Bor Text). s.now)) (sym none) ∙ first_is f id o is)

all_digits : (bs : Text) → list_all is_ascii_digit bs ≡ all_ascii_digits bs
all_digits [] = refl
all_digits (b ∷ bs) = ap (λ (rest : Bool). is_ascii_digit b && rest) (all_digits bs)

at_ok : {E : Type 0} (P : Type 0) (v value : ℕ) (r : Result ℕ E) → r ≡ Ok value → OkIff r P v → value ≡ v
at_ok P v value (Ok x) is h = (let same : x ≡ value = cc in sym same ∙ h.1)
at_ok P v value (Err e) is h = absurd (cc)

-- digits are read as the number that they spell
pub read_digits : {E : Type 0} (bs : Text) (r : Result ℕ E) (value : ℕ) → ParsesUnsigned 64 10 bs r → list_all is_ascii_digit bs ≡ true → r ≡ Ok value → value ≡ digits_value 10 bs
read_digits {E} bs r value parses digits is =
    let own = numerals_by_value (λ (ds : Text). all_ascii_digits ds ≡ true) tells_all_ascii_digits in
    at_ok ((0 < length bs) × (digits_value 10 bs < 2 ^ 64)) (digits_value 10 bs) value r is (parse_digits own 64 bs r parses (sym (all_digits bs) ∙ digits))

pub was_given : (f : Found) (id : Text) (default value : ℕ) (o : Option (Bor Text)) (text : Bor Text) → option_map (λ s. s.now) o ≡ first_value f id → o ≡ Some text
    → value ≡ digits_value 10 text.now → value ≡ number_given (rows_of f) id default
was_given f id default value o text is some read =
    read ∙ ap (λ (p : Option Text). number_or p default) (ap (option_map (λ (s : Bor Text). s.now)) (sym some) ∙ first_is f id o is)

-- ---- the names

pub no_name : (f : Found) (id old : Text) (o : Option (Bor Text)) → option_map (λ s. s.now) o ≡ first_value f id → o ≡ None → old ≡ text_given (rows_of f) id old
no_name f id old o is none = ap (λ (p : Option Text). unwrap_or p old) (ap (option_map (λ (s : Bor Text). s.now)) (sym none) ∙ first_is f id o is)

pub some_name : (f : Found) (id old new : Text) (o : Option (Bor Text)) (text : Bor Text) → option_map (λ s. s.now) o ≡ first_value f id → o ≡ Some text → new ≡ text.now
    → new ≡ text_given (rows_of f) id old
some_name f id old new o text is some same = same ∙ ap (λ (p : Option Text). unwrap_or p old) (ap (option_map (λ (s : Bor Text). s.now)) (sym some) ∙ first_is f id o is)

-- ---- whether there is a UIDVALIDITY

pub some_uidvalidity : (f : Found) (o : Option (Bor Text)) (text : Bor Text) → option_map (λ s. s.now) o ≡ first_value f (codes "uidvalidity") → o ≡ Some text
    → Given ≡ uidvalidity_given (rows_of f)
some_uidvalidity f o text is some =
    ap (λ (p : Option Text). if is_some p then Given else Default) (ap (option_map (λ (s : Bor Text). s.now)) (sym some) ∙ first_is f (codes "uidvalidity") o is)

pub no_uidvalidity : (f : Found) (o : Option (Bor Text)) → option_map (λ s. s.now) o ≡ first_value f (codes "uidvalidity") → o ≡ None → Default ≡ uidvalidity_given (rows_of f)
no_uidvalidity f o is none =
    ap (λ (p : Option Text). if is_some p then Given else Default) (ap (option_map (λ (s : Bor Text). s.now)) (sym none) ∙ first_is f (codes "uidvalidity") o is)

-- ---- the page

pub no_page : (f : Found) (o : Option (Bor Text)) → option_map (λ s. s.now) o ≡ first_value f (codes "status-port") → o ≡ None → None ≡ port_of (first_of (codes "status-port") (rows_of f))
no_page f o is none = ap port_of (ap (option_map (λ (s : Bor Text). s.now)) (sym none) ∙ first_is f (codes "status-port") o is)

pub some_page : (f : Found) (o : Option (Bor Text)) (text : Bor Text) (number port : ℕ) → option_map (λ s. s.now) o ≡ first_value f (codes "status-port") → o ≡ Some text
    → number ≡ number_given (rows_of f) (codes "status-port") 0 → port ≡ number → Some port ≡ port_of (first_of (codes "status-port") (rows_of f))
some_page f o text number port is some given same =
    let at : Some text.now ≡ first_of (codes "status-port") (rows_of f) = ap (option_map (λ (s : Bor Text). s.now)) (sym some) ∙ first_is f (codes "status-port") o is in
    ap (λ (n : ℕ). Some n) (same ∙ given ∙ ap (λ (p : Option Text). number_or p 0) (sym at)) ∙ ap port_of at

-- ---- whether an option is given that has no value

pub some_flag : (f : Found) (name : Text) (o : Option (Bor Text)) (value : Bor Text) → option_map (λ s. s.now) o ≡ first_value f name → o ≡ Some value → is_flag (Some value.now) ≡ is_given name (rows_of f)
some_flag f name o value is some = ap is_flag (ap (option_map (λ (s : Bor Text). s.now)) (sym some) ∙ first_is f name o is)

pub no_flag : (f : Found) (name : Text) (o : Option (Bor Text)) → option_map (λ s. s.now) o ≡ first_value f name → o ≡ None → false ≡ is_given name (rows_of f)
no_flag f name o is none = ap is_flag (ap (option_map (λ (s : Bor Text). s.now)) (sym none) ∙ first_is f name o is)

-- ---- the mailboxes

some_of : {X : Type 0} (f : Found) (id : Text) (read : X → List Text) (o : Option X) (p : Option (List Text)) → option_map read o ≡ option_map raw_values (matched_of f id) → option_map read o ≡ p
    → unwrap_or p [] ≡ unwrap_or (all_of id (rows_of f)) []
some_of f id read o p is here = ap (λ (x : Option (List Text)). unwrap_or x []) (sym here ∙ is ∙ raw_values-rows f id)

pub some_words : (f : Found) (id : Text) (o : Option (Bor (List (Bor Text)))) (words : Bor (List (Bor Text)))
    → option_map (λ s. map (λ v. v.now) s.now) o ≡ option_map raw_values (matched_of f id) → o ≡ Some words → map (λ word. word.now) words.now ≡ unwrap_or (all_of id (rows_of f)) []
some_words f id o words is some =
    some_of f id (λ (s : Bor (List (Bor Text))). map (λ v. v.now) s.now) o (Some (map (λ v. v.now) words.now)) is (ap (option_map (λ (s : Bor (List (Bor Text))). map (λ v. v.now) s.now)) some)

pub no_words : (f : Found) (id : Text) (o : Option (Bor (List (Bor Text)))) → option_map (λ s. map (λ v. v.now) s.now) o ≡ option_map raw_values (matched_of f id) → o ≡ None
    → [] ≡ unwrap_or (all_of id (rows_of f)) []
no_words f id o is none =
    some_of f id (λ (s : Bor (List (Bor Text))). map (λ v. v.now) s.now) o None is (ap (option_map (λ (s : Bor (List (Bor Text))). map (λ v. v.now) s.now)) none)

-- ---- all settings, one kind after another

module _ (rows : List Row) (c0 c1 c2 c3 c4 : Config) (is : IsDefault c0 (mailboxes_given rows))
    (host : c1.host.items ≡ text_given rows (codes "host") c0.host.items) (domain : c1.domain.items ≡ text_given rows (codes "domain") c0.domain.items)
    (rest1 : c1 ≡ record c0 { host = c1.host; domain = c1.domain })
    (shards : c2.shards ≡ number_given rows (codes "shards") c1.shards) (depth : c2.depth ≡ number_given rows (codes "depth") c1.depth)
    (messages : c2.messages ≡ number_given rows (codes "messages") c1.messages) (max_message : c2.max_message ≡ number_given rows (codes "max-message") c1.max_message)
    (rest2 : c2 ≡ record c1 { shards = c2.shards; depth = c2.depth; messages = c2.messages; max_message = c2.max_message })
    (ring : c3.ring ≡ number_given rows (codes "ring") c2.ring) (ring_max : c3.ring_max ≡ number_given rows (codes "ring-max") c2.ring_max)
    (rest3 : c3 ≡ record c2 { ring = c3.ring; ring_max = c3.ring_max })
    (uidvalidity : c4.uidvalidity ≡ number_given rows (codes "uidvalidity") c3.uidvalidity) (first_uid : c4.first_uid ≡ number_given rows (codes "first-uid") c3.first_uid)
    (compatible : c4.compatible ≡ is_given (codes "compatible") rows)
    (rest4 : c4 ≡ record c3 { uidvalidity = c4.uidvalidity; first_uid = c4.first_uid; compatible = c4.compatible }) where
  house : AreHouseSettings rows 1 c4
  house = record {
    host = ap (λ (c : Config). c.host.items) rest4 ∙ ap (λ (c : Config). c.host.items) rest3 ∙ ap (λ (c : Config). c.host.items) rest2 ∙ host ∙ ap (text_given rows (codes "host")) is.host;
    domain = ap (λ (c : Config). c.domain.items) rest4 ∙ ap (λ (c : Config). c.domain.items) rest3 ∙ ap (λ (c : Config). c.domain.items) rest2 ∙ domain
        ∙ ap (text_given rows (codes "domain")) is.domain;
    mailboxes = ap words_of rest4 ∙ ap words_of rest3 ∙ ap words_of rest2 ∙ ap words_of rest1 ∙ is.mailboxes;
    shards = ap (λ (c : Config). c.shards) rest4 ∙ ap (λ (c : Config). c.shards) rest3 ∙ shards ∙ ap (number_given rows (codes "shards")) (ap (λ (c : Config). c.shards) rest1 ∙ is.shards);
    depth = ap (λ (c : Config). c.depth) rest4 ∙ ap (λ (c : Config). c.depth) rest3 ∙ depth ∙ ap (number_given rows (codes "depth")) (ap (λ (c : Config). c.depth) rest1 ∙ is.depth);
    messages = ap (λ (c : Config). c.messages) rest4 ∙ ap (λ (c : Config). c.messages) rest3 ∙ messages
        ∙ ap (number_given rows (codes "messages")) (ap (λ (c : Config). c.messages) rest1 ∙ is.messages);
    max_message = ap (λ (c : Config). c.max_message) rest4 ∙ ap (λ (c : Config). c.max_message) rest3 ∙ max_message
        ∙ ap (number_given rows (codes "max-message")) (ap (λ (c : Config). c.max_message) rest1 ∙ is.max_message);
    ring = ap (λ (c : Config). c.ring) rest4 ∙ ring ∙ ap (number_given rows (codes "ring")) (ap (λ (c : Config). c.ring) rest2 ∙ ap (λ (c : Config). c.ring) rest1 ∙ is.ring);
    ring_max = ap (λ (c : Config). c.ring_max) rest4 ∙ ring_max
        ∙ ap (number_given rows (codes "ring-max")) (ap (λ (c : Config). c.ring_max) rest2 ∙ ap (λ (c : Config). c.ring_max) rest1 ∙ is.ring_max);
    uidvalidity = uidvalidity ∙ ap (number_given rows (codes "uidvalidity"))
        (ap (λ (c : Config). c.uidvalidity) rest3 ∙ ap (λ (c : Config). c.uidvalidity) rest2 ∙ ap (λ (c : Config). c.uidvalidity) rest1 ∙ is.uidvalidity);
    first_uid = first_uid ∙ ap (number_given rows (codes "first-uid"))
        (ap (λ (c : Config). c.first_uid) rest3 ∙ ap (λ (c : Config). c.first_uid) rest2 ∙ ap (λ (c : Config). c.first_uid) rest1 ∙ is.first_uid);
    compatible = compatible;
  }

  pub all_given : AsksForScript rows c4
  all_given = record {
    house = house;
    server = record {
      lmtp_port = ap (λ (c : Config). c.lmtp_port) rest4 ∙ ap (λ (c : Config). c.lmtp_port) rest3 ∙ ap (λ (c : Config). c.lmtp_port) rest2 ∙ ap (λ (c : Config). c.lmtp_port) rest1 ∙ is.lmtp_port;
      imap_port = ap (λ (c : Config). c.imap_port) rest4 ∙ ap (λ (c : Config). c.imap_port) rest3 ∙ ap (λ (c : Config). c.imap_port) rest2 ∙ ap (λ (c : Config). c.imap_port) rest1 ∙ is.imap_port;
      workers = ap (λ (c : Config). c.workers) rest4 ∙ ap (λ (c : Config). c.workers) rest3 ∙ ap (λ (c : Config). c.workers) rest2 ∙ ap (λ (c : Config). c.workers) rest1 ∙ is.workers;
      sessions = ap (λ (c : Config). c.sessions) rest4 ∙ ap (λ (c : Config). c.sessions) rest3 ∙ ap (λ (c : Config). c.sessions) rest2 ∙ ap (λ (c : Config). c.sessions) rest1 ∙ is.sessions;
      memory = ap (λ (c : Config). c.memory) rest4 ∙ ap (λ (c : Config). c.memory) rest3 ∙ ap (λ (c : Config). c.memory) rest2 ∙ ap (λ (c : Config). c.memory) rest1 ∙ is.memory;
    };
  }

-- a server's shards behind them
shards_given : (rows : List Row) (b c : Config) → AsksForScript rows b → c.shards ≡ number_given rows (codes "shards") (server_shards (length b.mailboxes.items))
    → c ≡ record b { shards = c.shards } → AreHouseSettings rows (server_shards (length (mailboxes_given rows))) c
shards_given rows b c given shards rest =
    let count : length b.mailboxes.items ≡ length (mailboxes_given rows) = sym (length-map b.mailboxes.items (λ w. w.items)) ∙ ap length given.house.mailboxes in
    record {
      host = ap (λ (x : Config). x.host.items) rest ∙ given.house.host;
      domain = ap (λ (x : Config). x.domain.items) rest ∙ given.house.domain;
      mailboxes = ap words_of rest ∙ given.house.mailboxes;
      shards = shards ∙ ap (λ n. number_given rows (codes "shards") (server_shards n)) count;
      depth = ap (λ (x : Config). x.depth) rest ∙ given.house.depth;
      ring = ap (λ (x : Config). x.ring) rest ∙ given.house.ring;
      ring_max = ap (λ (x : Config). x.ring_max) rest ∙ given.house.ring_max;
      messages = ap (λ (x : Config). x.messages) rest ∙ given.house.messages;
      max_message = ap (λ (x : Config). x.max_message) rest ∙ given.house.max_message;
      uidvalidity = ap (λ (x : Config). x.uidvalidity) rest ∙ given.house.uidvalidity;
      first_uid = ap (λ (x : Config). x.first_uid) rest ∙ given.house.first_uid;
      compatible = ap (λ (x : Config). x.compatible) rest ∙ given.house.compatible;
    }

-- and what else is given to a server
pub server_given : (rows : List Row) (b c d : Config) (u : Uidvalidity) (r : Reporting) → AsksForScript rows b → c.shards ≡ number_given rows (codes "shards") (server_shards (length b.mailboxes.items))
    → c ≡ record b { shards = c.shards } → d.lmtp_port ≡ number_given rows (codes "lmtp-port") c.lmtp_port
    → d.imap_port ≡ number_given rows (codes "imap-port") c.imap_port → d.workers ≡ number_given rows (codes "workers") c.workers
    → d.sessions ≡ number_given rows (codes "sessions") c.sessions → GivesMemory (first_of (codes "memory") rows) d.memory
    → d ≡ record c { lmtp_port = d.lmtp_port; imap_port = d.imap_port; workers = d.workers; sessions = d.sessions; memory = d.memory } → u ≡ uidvalidity_given rows → r ≡ reporting_given rows → AsksForServer rows d u r
server_given rows b c d u r given shards rest1 lmtp_port imap_port workers sessions memory rest warned told =
    let house = shards_given rows b c given shards rest1 in
    record {
      house = record {
        host = ap (λ (x : Config). x.host.items) rest ∙ house.host;
        domain = ap (λ (x : Config). x.domain.items) rest ∙ house.domain;
        mailboxes = ap words_of rest ∙ house.mailboxes;
        shards = ap (λ (x : Config). x.shards) rest ∙ house.shards;
        depth = ap (λ (x : Config). x.depth) rest ∙ house.depth;
        ring = ap (λ (x : Config). x.ring) rest ∙ house.ring;
        ring_max = ap (λ (x : Config). x.ring_max) rest ∙ house.ring_max;
        messages = ap (λ (x : Config). x.messages) rest ∙ house.messages;
        max_message = ap (λ (x : Config). x.max_message) rest ∙ house.max_message;
        uidvalidity = ap (λ (x : Config). x.uidvalidity) rest ∙ house.uidvalidity;
        first_uid = ap (λ (x : Config). x.first_uid) rest ∙ house.first_uid;
        compatible = ap (λ (x : Config). x.compatible) rest ∙ house.compatible;
      };
      server = record {
        lmtp_port = lmtp_port ∙ ap (number_given rows (codes "lmtp-port")) (ap (λ (x : Config). x.lmtp_port) rest1 ∙ given.server.lmtp_port);
        imap_port = imap_port ∙ ap (number_given rows (codes "imap-port")) (ap (λ (x : Config). x.imap_port) rest1 ∙ given.server.imap_port);
        workers = workers ∙ ap (number_given rows (codes "workers")) (ap (λ (x : Config). x.workers) rest1 ∙ given.server.workers);
        sessions = sessions ∙ ap (number_given rows (codes "sessions")) (ap (λ (x : Config). x.sessions) rest1 ∙ given.server.sessions);
        memory = memory;
      };
      warned = warned;
      told = told;
    }

-- ---- the subcommand

-- the subcommand of this name was met, with these rows
pub found_is : (m : ArgMatches) (name : Text) (rows : List Row) → subcommand_name_of m ≡ Some name → option_map (λ p. p.1) (subcommand_rows (out-ArgMatches m).subcommand) ≡ Some rows
    → subcommand_rows_of m ≡ Some (name, rows)
found_is m name rows named are = by_case (out-ArgMatches m).subcommand named are where
  by_case : {Z : Type 0} (o : Option (Box SubCommand Z)) → option_map (λ b. (out-SubCommand (box_value b)).name.now) o ≡ Some name → option_map (λ p. p.1) (subcommand_rows o) ≡ Some rows
      → subcommand_rows o ≡ Some (name, rows)
  by_case None named are = absurd (cc)
  by_case (Some b) named are =
      let a : (out-SubCommand (box_value b)).name.now ≡ name = cc in
      let r : rows_of (found_of (out-SubCommand (box_value b)).matches) ≡ rows = cc in
      ap (λ (n : Text). Some (n, rows_of (found_of (out-SubCommand (box_value b)).matches))) a ∙ ap (λ (rs : List Row). Some (name, rs)) r
