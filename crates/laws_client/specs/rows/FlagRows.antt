-- A client that changes flags itself, while another does too; what it reads, and the moments of which that is.
use Rattle.std.specs.Prelude.{◌≡◌, ℕ, false, true, codes, List, [], ◌∷◌, ◌++◌, Some, None}
use Rattle.std.proofs.Common.{refl, arith}
use Rattle.std.specs.Fmt.{digits}
use Rattle.change_ring.specs.declared.change.Change.{Change}
use Rattle.change_ring.specs.declared.change.Change.TheVariants.{Add, Gone, Flags as SetFlags}
use Rattle.change_ring.specs.declared.change.Flags.{Flags}
use Rattle.change_ring.specs.Log.{no_flags}
use Rattle.cursor_set.specs.Lines.{lines}
use Rattle.change_ring.specs.Words.{flag_words}
use Rattle.imap_session.specs.Exchange.{Altered, Fed}
use Rattle.imap_answers.specs.Answers.{flags_answer}
use Rattle.session_thread.specs.ByHistory.{flags_in}
use Rattle.laws_client.specs.Client.{knowing, reads, unknown}
use Rattle.laws_client.specs.Flags.{FlagsOf, Point, counted}
use Rattle.laws_client.specs.FlagTurns.{shown_in}

abbrev pub flagged : Flags
flagged = record no_flags { flagged = true }

abbrev pub both : Flags
both = record no_flags { flagged = true; seen = true }

abbrev flagged_names : List (List ℕ)
flagged_names = codes "\\Flagged" ∷ []

abbrev both_names : List (List ℕ)
both_names = codes "\\Flagged" ∷ codes "\\Seen" ∷ []

-- a message came and was shown; another client set \Flagged, and this one \Seen behind it
abbrev pub the_log : List Change
the_log = Add 7 ∷ SetFlags 7 flagged ∷ SetFlags 7 both ∷ []

-- ---- its own STORE is told first, then the older change of the other, then its own

abbrev shown_one : Point
shown_one = record { log = the_log; cursor = 1 }

stored_read : reads (knowing (Some (unknown ∷ []))) (flags_answer false 1 7 both) ≡ knowing (Some (record { uid = None; flags = Some both_names } ∷ []))
unfolding digits
stored_read = refl

stored_moment : FlagsOf the_log 1 7 both_names
stored_moment = record { moment = 3; since = omega arith; until = omega arith; flags = both; had = refl; named = refl }

older_line : lines (counted shown_one) (SetFlags 7 flagged ∷ []) ≡ codes "* 1 FETCH (UID 7 FLAGS (\\Flagged))\r\n"
unfolding digits
older_line = refl

older_read : reads (knowing (Some (record { uid = None; flags = Some both_names } ∷ []))) (codes "* 1 FETCH (UID 7 FLAGS (\\Flagged))\r\n") ≡ knowing (Some (record { uid = Some 7; flags = Some flagged_names } ∷ []))
older_read = refl

older_moment : FlagsOf the_log 2 7 flagged_names
older_moment = record { moment = 2; since = omega arith; until = omega arith; flags = flagged; had = refl; named = refl }

own_read : reads (knowing (Some (record { uid = Some 7; flags = Some flagged_names } ∷ []))) (codes "* 1 FETCH (UID 7 FLAGS (\\Flagged \\Seen))\r\n") ≡ knowing (Some (record { uid = Some 7; flags = Some both_names } ∷ []))
own_read = refl

own_moment : FlagsOf the_log 3 7 both_names
own_moment = record { moment = 3; since = omega arith; until = omega arith; flags = both; had = refl; named = refl }

-- ---- moments

-- of a message that isn't there yet, of one without flags, and of one that went
not_yet : flags_in 7 [] ≡ None
not_yet = refl

bare : flags_in 7 (Add 6 ∷ Add 7 ∷ SetFlags 6 both ∷ []) ≡ Some no_flags
bare = refl

gone : flags_in 7 (the_log ++ Gone 7 ∷ []) ≡ None
gone = refl

-- flags of which none is set are told by no name
none_named : flag_words no_flags ≡ []
none_named = refl

-- ---- points

-- what a session counts that was shown two of three changes
two_shown : counted (record { log = Add 6 ∷ Add 7 ∷ Gone 6 ∷ []; cursor = 2 }) ≡ 6 ∷ 7 ∷ []
two_shown = refl

-- what an answer shows
fed : shown_in (Fed (7 ∷ []) (SetFlags 7 both ∷ [])) ≡ SetFlags 7 both ∷ []
fed = refl

altered : shown_in (Altered (Some both)) ≡ []
altered = refl
