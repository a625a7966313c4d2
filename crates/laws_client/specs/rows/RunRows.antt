-- A small script in the small house of `exactly_once`, to which nobody comes: what each line asks for, and what tells of it, each by computing.
use Rattle.std.specs.Prelude.{◌≡◌, ℕ, codes, List, [], ◌∷◌, ◌++◌, Some, refl}
use Rattle.std.specs.Fmt.{digits}
use Rattle.envelope.specs.Names.{number_of}
use Rattle.line_io.specs.Wire.{crlf}
use Rattle.exactly_once.specs.rows.Entries.{the_house}
use Rattle.house.specs.Window.{window_text}
use Rattle.script.specs.Script.{Sends, Tail, Skip, Bad, script_of}
use Rattle.script.specs.Promise.{refusal}
use Rattle.script.specs.Telling.{joined, lines_of, object_of, told}
use Rattle.settings.specs.declared.asking.Form.TheVariants.{Text, Json}

-- A comment; a connection that the house doesn't have; Alice's window; and what is no line of a script.
abbrev pub the_input : List ℕ
the_input = codes "# nobody\r\nL3 NOOP\r\nTAIL alice\ndeliver"

pub they_are : lines_of the_input ≡ codes "# nobody" ∷ codes "L3 NOOP" ∷ codes "TAIL alice" ∷ codes "deliver" ∷ []
they_are = refl

pub they_ask : script_of the_input ≡ Skip ∷ Sends 3 (codes "NOOP" ++ crlf) ∷ Tail (codes "alice") ∷ Bad ∷ []
they_ask = refl

-- nothing is printed of the comment
abbrev pub the_texts : List (List ℕ)
the_texts = [] ∷ codes "? 2 Nobody\n" ∷ codes "T alice total 0\n" ∷ codes "? 4 Line\n" ∷ []

abbrev pub all_told : List ℕ
all_told = codes "? 2 Nobody\nT alice total 0\n? 4 Line\n"

pub as_text : told Text 1 (lines_of the_input) the_texts ≡ all_told
as_text = refl

pub as_printed : joined the_texts ≡ all_told
as_printed = refl

-- in JSON nothing tells of the comment
abbrev pub all_objects : List ℕ
all_objects = joined (
    object_of 2 (codes "L3 NOOP") (codes "? 2 Nobody\n")
    ∷ object_of 3 (codes "TAIL alice") (codes "T alice total 0\n")
    ∷ object_of 4 (codes "deliver") (codes "? 4 Line\n")
    ∷ []
    )

pub as_objects : told Json 1 (lines_of the_input) the_texts ≡ all_objects
as_objects = refl

-- ---- why it is printed

pub nobody_there : refusal 2 (codes "Nobody") ≡ codes "? 2 Nobody\n"
unfolding digits
nobody_there = refl

pub no_line : refusal 4 (codes "Line") ≡ codes "? 4 Line\n"
unfolding digits
no_line = refl

pub nothing_came : window_text (codes "alice") (record { log = []; base = 0; accepted = [] }) ≡ codes "T alice total 0\n"
unfolding digits
nothing_came = refl

pub alices : number_of the_house.directory (codes "alice") ≡ Some 0
alices = refl
