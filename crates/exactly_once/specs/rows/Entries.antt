-- What connections were told in the small house, by hand, and what each word of the promise says of that.
use Rattle.std.specs.Prelude.{◌≡◌, ◌≢◌, codes, false, List, [], ◌∷◌, None, map}
use Rattle.std.proofs.Common.{refl}
use Rattle.std.specs.Fmt.{digits}
use Rattle.lmtp_machine.specs.declared.reply.Reply.TheVariants.{Delivered, Greeting, OutOfMemory, RecipientOk}
use Rattle.house.specs.Scene.{Scene}
use Rattle.house.specs.Setup.{Setup}
use Rattle.house.specs.declared.event.Event.TheVariants.{Take}
use Rattle.exactly_once.specs.Promise.{Entry, Lines, Other, Piece, Replies, Silence, Verdict, reply_of, text_of, verdicts_of}
use Rattle.exactly_once.specs.rows.Worlds.{hi_refused, hi_stored, now, small}

-- nobody stands there: who does plays no part in what was told
abbrev pub a_scene : Scene
a_scene = record { world = now; caller = λ _. None; next = λ _. 0; visitor = λ _. None; entered = λ _. 0; shut = [] }

-- an entry that printed this, whatever happened
abbrev pub printing : Piece → Entry
printing piece = record { event = Take 0; after = a_scene; piece = piece }

pub greets : Greeting ≢ Delivered
greets e = cc

pub accepts : RecipientOk ≢ Delivered
accepts e = cc

pub runs_out : OutOfMemory ≢ Delivered
runs_out e = cc

-- Both connections were greeted. The first sent its message for Alice and Bob, and was told of each. A session said a line.
abbrev pub told : List Entry
told =
    printing (Replies 0 (Other Greeting greets ∷ []))
    ∷ printing (Replies 1 (Other Greeting greets ∷ []))
    ∷ printing (Replies 0 (Other RecipientOk accepts ∷ Other RecipientOk accepts ∷ []))
    ∷ printing Silence
    ∷ printing (Lines 1 (codes "* 1 EXISTS" ∷ []))
    ∷ printing (Replies 0 (Verdict hi_stored ∷ Verdict hi_refused ∷ []))
    ∷ []

-- each seat's verdicts, in the order in which they were told: the second connection was told none
first_was_told : verdicts_of 0 told ≡ hi_stored ∷ hi_refused ∷ []
first_was_told = refl

second_was_told : verdicts_of 1 told ≡ []
second_was_told = refl

-- the replies that they are: `250 2.1.5 Delivered` for what is stored alone
as_replies : map reply_of (Verdict hi_stored ∷ Verdict hi_refused ∷ Other Greeting greets ∷ []) ≡ Delivered ∷ OutOfMemory ∷ Greeting ∷ []
as_replies = refl

-- ---- as it is printed

abbrev pub the_house : Setup
the_house = record {
  config = small;
  connections = 2;
  directory = record {
    domains = codes "example.org" ∷ [];
    homes = record { user = codes "alice"; folder = None } ∷ record { user = codes "bob"; folder = None } ∷ [];
    shards = 2;
    shut = false ∷ false ∷ [];
  };
  host = codes "mx.example.org";
  max_message = 1000;
  compatible = false;
}

verdicts_printed : text_of the_house (Replies 0 (Verdict hi_stored ∷ Verdict hi_refused ∷ [])) ≡ codes "L1 250 2.1.5 Delivered\nL1 451 4.3.0 Out of memory\n"
unfolding digits
verdicts_printed = refl

lines_printed : text_of the_house (Lines 1 (codes "* 1 EXISTS" ∷ codes "a OK NOOP completed" ∷ [])) ≡ codes "I1 * 1 EXISTS\nI1 a OK NOOP completed\n"
unfolding digits
lines_printed = refl

-- A refusal is printed alike, whether the record has it as a verdict or as another reply. So of refusals `TellsOnce` counts those alone that a record has as
-- verdicts; which lines there are is said by `IsRecord`.
printed_alike : text_of the_house (Replies 0 (Verdict hi_refused ∷ [])) ≡ text_of the_house (Replies 0 (Other OutOfMemory runs_out ∷ []))
printed_alike = refl

not_counted : verdicts_of 0 (printing (Replies 0 (Verdict hi_stored ∷ Other OutOfMemory runs_out ∷ [])) ∷ []) ≡ hi_stored ∷ []
not_counted = refl
