-- Lines and what they are.
use Rattle.std.specs.Prelude.{◌≡◌, ℕ, codes, List, [], ◌∷◌, ◌++◌, Ok, Err, true, false, replicate, refl, slice_set, Some, None, Option}
use Rattle.envelope.specs.Values.{Path, Null, Postmaster, To, Lhlo, Mail, Rcpt, Data, Noop, Help}
use Rattle.envelope.specs.Names.{Directory, Home, is_shut, lookup, marked, none_shut, is_name, words_read, number_of}
use Rattle.envelope.specs.declared.directory.DirectoryFault.TheVariants.{TooMany, BadName, Twice}
use Rattle.envelope.specs.declared.directory.NoSuch.TheVariants.{System, User}
use Rattle.envelope.specs.Reading.{read, forward_at, past_hops, past_all_hops}
use Rattle.envelope.specs.declared.command.CommandFault.TheVariants.{Unknown, Syntax, PathTooLong, Parameter}

abbrev at : List ℕ → List ℕ → Path
at local domain = To (record { local = local; domain = domain })

lhlo : read (codes "LHLO c.example") ≡ Ok Lhlo
unfolding read forward_at
lhlo = refl

mail : read (codes "MAIL FROM:<s@a.example>") ≡ Ok (Mail (at (codes "s") (codes "a.example")))
unfolding read forward_at
mail = refl

null : read (codes "mail from: <>") ≡ Ok (Mail Null)
unfolding read forward_at
null = refl

rcpt : read (codes "RCPT TO:<Alice+work@EXAMPLE.ORG>") ≡ Ok (Rcpt (at (codes "Alice+work") (codes "EXAMPLE.ORG")))
unfolding read forward_at
rcpt = refl

route : read (codes "RCPT TO:<@r.example:bob@example.org>") ≡ Ok (Rcpt (at (codes "bob") (codes "example.org")))
unfolding read forward_at past_hops past_all_hops
route = refl

two_hops : read (codes "RCPT TO:<@r.example,@[1::2]:bob@example.org>  ") ≡ Ok (Rcpt (at (codes "bob") (codes "example.org")))
unfolding read forward_at past_hops past_all_hops
two_hops = refl

quoted : read (codes "RCPT TO:<\"a \\\" b\"@example.org>") ≡ Ok (Rcpt (at (codes "\"a \\\" b\"") (codes "example.org")))
unfolding read forward_at
quoted = refl

mail_with_body : read (codes "MAIL FROM:<s@a.example> BODY=8BITMIME  ") ≡ Ok (Mail (at (codes "s") (codes "a.example")))
unfolding read forward_at
mail_with_body = refl

address_literal : read (codes "RCPT TO:<\"a\\ b\"@[192.0.2.1]>") ≡ Ok (Rcpt (at (codes "\"a\\ b\"") (codes "[192.0.2.1]")))
unfolding read forward_at
address_literal = refl

data_and_a_space : read (codes "data ") ≡ Ok Data
unfolding read forward_at
data_and_a_space = refl

noop : read (codes "NOOP anything") ≡ Ok Noop
unfolding read forward_at
noop = refl

help_alone : read (codes "HELP") ≡ Ok Help
unfolding read forward_at
help_alone = refl

empty : read [] ≡ Err Unknown
unfolding read forward_at
empty = refl

blank_before : read (codes " NOOP") ≡ Err Unknown
unfolding read forward_at
blank_before = refl

helo : read (codes "HELO c.example") ≡ Err Unknown
unfolding read forward_at
helo = refl

two_names : read (codes "LHLO a b") ≡ Err (Syntax true)
unfolding read forward_at
two_names = refl

data_now : read (codes "DATA now") ≡ Err (Syntax false)
unfolding read forward_at
data_now = refl

open_path : read (codes "MAIL FROM:<s@a.example") ≡ Err (Syntax false)
unfolding read forward_at
open_path = refl

null_recipient : read (codes "RCPT TO:<>") ≡ Err (Syntax false)
unfolding read forward_at
null_recipient = refl

body_of_a_recipient : read (codes "RCPT TO:<s@a.example> BODY=7BIT") ≡ Err Parameter
unfolding read forward_at
body_of_a_recipient = refl

postmaster : read (codes "RCPT TO:<PostMaster>") ≡ Ok (Rcpt Postmaster)
unfolding read forward_at
postmaster = refl

size : read (codes "MAIL FROM:<s@a.example> SIZE=5") ≡ Err Parameter
unfolding read forward_at
size = refl

body : read (codes "MAIL FROM:<s@a.example>  body=8bitmime ") ≡ Ok (Mail (at (codes "s") (codes "a.example")))
unfolding read forward_at
body = refl

glued : read (codes "MAIL FROM:<s@a.example>SIZE=5") ≡ Err (Syntax false)
unfolding read forward_at
glued = refl

ehlo : read (codes "EHLO c.example") ≡ Err Unknown
unfolding read forward_at
ehlo = refl

bare_lhlo : read (codes "LHLO") ≡ Err (Syntax true)
unfolding read forward_at
bare_lhlo = refl

quit_more : read (codes "QUIT x") ≡ Err (Syntax false)
unfolding read forward_at
quit_more = refl

help : read (codes "HELP x") ≡ Ok Help
unfolding read forward_at
help = refl

long_enough : read (codes "RCPT TO:<" ++ replicate 64 97 ++ codes "@example.org>") ≡ Ok (Rcpt (at (replicate 64 97) (codes "example.org")))
unfolding read forward_at
long_enough = refl

too_long : read (codes "RCPT TO:<" ++ replicate 65 97 ++ codes "@example.org>") ≡ Err PathTooLong
unfolding read forward_at
too_long = refl

control : read (codes "NOOP " ++ 7 ∷ []) ≡ Err (Syntax false)
unfolding read forward_at
control = refl

-- ---- the directory: alice, alice/Work, bob

abbrev home : List ℕ → Option (List ℕ) → Home
home user folder = record { user = user; folder = folder }

abbrev three : Directory
three = record {
  domains = codes "example.org" ∷ [];
  homes = home (codes "alice") None ∷ home (codes "alice") (Some (codes "Work")) ∷ home (codes "bob") None ∷ [];
  shards = 2;
  shut = none_shut 2;
}

work : lookup three (at (codes "Alice+work") (codes "EXAMPLE.ORG")) ≡ Ok 1
work = refl

inbox : lookup three (at (codes "alice+INBOX") (codes "example.org")) ≡ Ok 0
inbox = refl

bob : lookup three (at (codes "\"b\\ob\"") (codes "example.org")) ≡ Ok 2
bob = refl

elsewhere : lookup three (at (codes "alice") (codes "b.example")) ≡ Err System
elsewhere = refl

no_folder : lookup three (at (codes "alice+") (codes "example.org")) ≡ Err User
no_folder = refl

slash : lookup three (at (codes "alice/work") (codes "example.org")) ≡ Err User
slash = refl

nobody : lookup three Postmaster ≡ Err User
nobody = refl

-- ---- the words of a directory

abbrev at_home : List (List ℕ)
at_home = codes "example.org" ∷ []

homes : words_read at_home (codes "alice" ∷ codes "alice/Work" ∷ codes "bob" ∷ []) ≡ Ok three.homes
homes = refl

many : words_read (codes "no name" ∷ []) (replicate 65 (codes "alice")) ≡ Err TooMany
many = refl

bad_domain : words_read (codes "example_org" ∷ []) (codes "alice" ∷ codes "alice" ∷ []) ≡ Err BadName
bad_domain = refl

twice : words_read at_home (codes "alice" ∷ codes "alice/Work" ∷ codes "alice/WORK" ∷ codes "*" ∷ []) ≡ Err Twice
twice = refl

orphan : words_read at_home (codes "alice/Work" ∷ codes "alice" ∷ []) ≡ Err BadName
orphan = refl

own_inbox : words_read at_home (codes "alice" ∷ codes "alice/inBox" ∷ []) ≡ Err BadName
own_inbox = refl

two_slashes : words_read at_home (codes "alice" ∷ codes "alice/a/b" ∷ []) ≡ Err BadName
two_slashes = refl

upper_user : words_read at_home (codes "Alice" ∷ []) ≡ Err BadName
upper_user = refl

work_number : number_of three (codes "alice/Work") ≡ Some 1
work_number = refl

no_number : number_of three (codes "alice/work") ≡ None
no_number = refl

longest_name : is_name (replicate 255 97) ≡ true
longest_name = refl

too_long_name : is_name (replicate 256 97) ≡ false
too_long_name = refl

-- ---- shards that are shut

-- of three mailboxes on two shards, those of the second are not shut with the first
the_first_is_shut : is_shut (marked (slice_set three.shut 0 true) three) 0 ≡ true
the_first_is_shut = refl

the_second_is_not : is_shut (marked (slice_set three.shut 0 true) three) 1 ≡ false
the_second_is_not = refl

none_is_at_first : is_shut three 0 ≡ false
none_is_at_first = refl

one_that_is_not_there : is_shut (marked (slice_set three.shut 0 true) three) 2 ≡ false
one_that_is_not_there = refl

-- who is looked up doesn't hang on the marks
work_is_there_still : lookup (marked (slice_set three.shut 1 true) three) (at (codes "Alice+work") (codes "EXAMPLE.ORG")) ≡ Ok 1
work_is_there_still = refl
