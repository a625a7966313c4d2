-- Worked cases: ID, ENABLE and AUTHENTICATE, literals at the end of a line, and texts in quotes.
use Rattle.std.specs.Prelude.{◌≡◌, ℕ, List, Bool, codes, [], Ok, Err, true, false, refl, Some, None, Option}
use Rattle.imap_grammar.specs.Literals.{announced, quoted}
use Rattle.imap_grammar.specs.Reading.{past_fields, read}
use Rattle.imap_grammar.specs.declared.command.Authenticate.{Authenticate}
use Rattle.imap_grammar.specs.declared.command.Command.TheVariants as say
use Rattle.imap_grammar.specs.declared.command.ImapFault.TheVariants.{Arguments}
use Rattle.imap_grammar.specs.declared.command.Literal.{Literal}
use Rattle.imap_grammar.specs.declared.command.Verb.TheVariants as verbs

abbrev wanted : List ℕ → Option (List ℕ) → Authenticate
wanted mechanism initial = record { mechanism = mechanism; initial = initial }

abbrev literal : ℕ → Bool → Literal
literal size waits = record { size = size; waits = waits }

abbrev at : ℕ → ℕ → Bool → Option (ℕ × Literal)
at before size waits = Some (before, literal size waits)

-- ---- ID

-- RFC 2971, 3.1
id_nil : read (codes "a042 ID NIL") ≡ Ok (codes "a042", say.Id)
unfolding read past_fields
id_nil = refl

id_fields : read (codes "a023 ID (\"name\" \"sodr\" \"version\" \"19.34\" \"vendor\" \"Pink Floyd Music Limited\")") ≡ Ok (codes "a023", say.Id)
unfolding read past_fields
id_fields = refl

id_nil_value : read (codes "a ID (\"name\" \"x\" \"version\" NIL)") ≡ Ok (codes "a", say.Id)
unfolding read past_fields
id_nil_value = refl

id_none : read (codes "a ID ()") ≡ Ok (codes "a", say.Id)
unfolding read past_fields
id_none = refl

id_in_any_case : read (codes "a id  nil  ") ≡ Ok (codes "a", say.Id)
unfolding read past_fields
id_in_any_case = refl

id_escaped : read (codes "a ID (\"na\\\"me\"  \")\")") ≡ Ok (codes "a", say.Id)
unfolding read past_fields
id_escaped = refl

id_alone : read (codes "a ID") ≡ Err (Arguments (codes "a") verbs.Id)
unfolding read past_fields
id_alone = refl

id_nil_field : read (codes "a ID (NIL \"a\")") ≡ Err (Arguments (codes "a") verbs.Id)
unfolding read past_fields
id_nil_field = refl

id_half : read (codes "a ID (\"a\")") ≡ Err (Arguments (codes "a") verbs.Id)
unfolding read past_fields
id_half = refl

id_three : read (codes "a ID (\"a\" \"b\" \"c\")") ≡ Err (Arguments (codes "a") verbs.Id)
unfolding read past_fields
id_three = refl

id_joined : read (codes "a ID (\"a\"\"b\")") ≡ Err (Arguments (codes "a") verbs.Id)
unfolding read past_fields
id_joined = refl

id_loose : read (codes "a ID (\"a\" \"b\" )") ≡ Err (Arguments (codes "a") verbs.Id)
unfolding read past_fields
id_loose = refl

id_open : read (codes "a ID (\"a\" \"b\"") ≡ Err (Arguments (codes "a") verbs.Id)
unfolding read past_fields
id_open = refl

id_more : read (codes "a ID (\"a\" \"b\") x") ≡ Err (Arguments (codes "a") verbs.Id)
unfolding read past_fields
id_more = refl

id_atom : read (codes "a ID (a b)") ≡ Err (Arguments (codes "a") verbs.Id)
unfolding read past_fields
id_atom = refl

id_nils : read (codes "a ID NILS") ≡ Err (Arguments (codes "a") verbs.Id)
unfolding read past_fields
id_nils = refl

-- ---- ENABLE

-- RFC 9051, 6.3.1
enable : read (codes "t2 ENABLE CONDSTORE") ≡ Ok (codes "t2", say.Enable)
unfolding read
enable = refl

enable_two : read (codes "t2 enable a  b ") ≡ Ok (codes "t2", say.Enable)
unfolding read
enable_two = refl

enable_alone : read (codes "t2 ENABLE") ≡ Err (Arguments (codes "t2") verbs.Enable)
unfolding read
enable_alone = refl

enable_spaces : read (codes "t2 ENABLE  ") ≡ Err (Arguments (codes "t2") verbs.Enable)
unfolding read
enable_spaces = refl

enable_list : read (codes "t2 ENABLE (CONDSTORE)") ≡ Err (Arguments (codes "t2") verbs.Enable)
unfolding read
enable_list = refl

-- ---- AUTHENTICATE

-- RFC 9051, 6.2.2
authenticate : read (codes "A01 AUTHENTICATE PLAIN") ≡ Ok (codes "A01", say.Authenticate (wanted (codes "PLAIN") None))
unfolding read
authenticate = refl

authenticate_at_once : read (codes "A01 AUTHENTICATE PLAIN AHRpbQB0YW5zdGFhZnRhbnN0YWFm") ≡ Ok (codes "A01", say.Authenticate (wanted (codes "PLAIN") (Some (codes "AHRpbQB0YW5zdGFhZnRhbnN0YWFm"))))
unfolding read
authenticate_at_once = refl

authenticate_empty : read (codes "A01 AUTHENTICATE EXTERNAL =") ≡ Ok (codes "A01", say.Authenticate (wanted (codes "EXTERNAL") (Some (codes "="))))
unfolding read
authenticate_empty = refl

authenticate_spaces : read (codes "A01 authenticate  plain  a+/=  ") ≡ Ok (codes "A01", say.Authenticate (wanted (codes "plain") (Some (codes "a+/="))))
unfolding read
authenticate_spaces = refl

authenticate_alone : read (codes "A01 AUTHENTICATE") ≡ Err (Arguments (codes "A01") verbs.Authenticate)
unfolding read
authenticate_alone = refl

authenticate_two : read (codes "A01 AUTHENTICATE PLAIN a b") ≡ Err (Arguments (codes "A01") verbs.Authenticate)
unfolding read
authenticate_two = refl

authenticate_no_base64 : read (codes "A01 AUTHENTICATE PLAIN a-b") ≡ Err (Arguments (codes "A01") verbs.Authenticate)
unfolding read
authenticate_no_base64 = refl

authenticate_star : read (codes "A01 AUTHENTICATE PLAIN *") ≡ Err (Arguments (codes "A01") verbs.Authenticate)
unfolding read
authenticate_star = refl

authenticate_quoted : read (codes "A01 AUTHENTICATE \"PLAIN\"") ≡ Err (Arguments (codes "A01") verbs.Authenticate)
unfolding read
authenticate_quoted = refl

-- ---- literals at the end of a line (RFC 9051, 4.3; RFC 7888)

a_literal : announced (codes "a LOGIN {5}") ≡ at 8 5 true
unfolding announced
a_literal = refl

a_literal_at_once : announced (codes "a LOGIN {5+}") ≡ at 8 5 false
unfolding announced
a_literal_at_once = refl

a_literal_and_a_space : announced (codes "a LOGIN {5} ") ≡ None
unfolding announced
a_literal_and_a_space = refl

no_size : announced (codes "a LOGIN {}") ≡ None
unfolding announced
no_size = refl

no_digit : announced (codes "a LOGIN {5-}") ≡ None
unfolding announced
no_digit = refl

a_literal_alone : announced (codes "{0}") ≡ at 0 0 true
unfolding announced
a_literal_alone = refl

two_literals : announced (codes "a {1}{2}") ≡ at 5 2 true
unfolding announced
two_literals = refl

a_brace_behind : announced (codes "a {1} {") ≡ None
unfolding announced
a_brace_behind = refl

an_open_size : announced (codes "a {1") ≡ None
unfolding announced
an_open_size = refl

nothing : announced (codes "") ≡ None
unfolding announced
nothing = refl

the_most : announced (codes "a {99999999999999999999+}") ≡ at 2 18446744073709551615 false
unfolding announced
the_most = refl

-- ---- texts in quotes

no_text : quoted [] ≡ codes "\"\""
no_text = refl

some_text : quoted (codes "my \"sec\\ret\"") ≡ codes "\"my \\\"sec\\\\ret\\\"\""
some_text = refl
