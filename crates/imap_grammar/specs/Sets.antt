-- Sets of messages: how they are spelled, and which messages they name (RFC 9051, 9: sequence-set).
use Rattle.std.specs.Prelude.{ℕ, ◌+◌, ◌-◌, Bool, true, false, List, [], ◌∷◌, length, filter, Option, Some, None, map, option_map, min, max, nat_le, nat_lt, is_some, ◌==◌, ◌&&◌, ◌||◌, if◌then◌else◌, slice_index}
use Rattle.std.specs.List.{list_all, list_any, slice_split, filter_map}
use Rattle.change_ring.specs.View.{position}
use Rattle.envelope.specs.Reading.{◌>>=◌, first_is}
use Rattle.imap_grammar.specs.Bytes.{is_comma}
use Rattle.imap_grammar.specs.Numbers.{number_up_to}
use Rattle.imap_grammar.specs.Cuts.{cut_at}
use Rattle.imap_grammar.specs.declared.set.SeqNumber.{SeqNumber}
use Rattle.imap_grammar.specs.declared.set.SeqNumber.TheVariants.{Number, Star}
use Rattle.imap_grammar.specs.declared.set.SeqRange.{SeqRange}
use Rattle.imap_grammar.specs.declared.view.Named.{Named}

-- ---- spelling

abbrev pub is_star : List ℕ → Bool
is_star text = first_is 42 text && (length text == 1)

abbrev pub seq_number_of : List ℕ → Option SeqNumber
seq_number_of text =
    if is_star text then Some Star
    else if first_is 48 text then None
    else (number_up_to 4294967295 text >>= λ n. Some (Number n))

-- one number, or two with a colon between
abbrev pub range_of_cut : List ℕ → Option (List ℕ × List ℕ) → Option SeqRange
range_of_cut text None = do
  n ← seq_number_of text
  Some (record { from = n; to = n })
range_of_cut text (Some cut) = do
  m ← seq_number_of cut.0
  n ← seq_number_of cut.1
  Some (record { from = m; to = n })

abbrev pub range_of : List ℕ → Option SeqRange
range_of text = range_of_cut text (cut_at 58 text)

-- the ranges between the commas
abbrev pub ranges_of : List ℕ → List SeqRange
ranges_of text = filter_map range_of (slice_split is_comma text)

-- the ranges of a word that is a set
abbrev pub set_at : List ℕ → Option (List SeqRange)
set_at word = if list_all (λ part. is_some (range_of part)) (slice_split is_comma word) then Some (ranges_of word) else None

-- ---- meaning

-- the number, where `*` is the greatest
abbrev pub numeric : ℕ → SeqNumber → ℕ
numeric greatest (Number n) = n
numeric greatest Star = greatest

abbrev pub is_between : ℕ → ℕ → ℕ → Bool
is_between a b n = nat_le (min a b) n && nat_le n (max a b)

-- a range of the set names the number
abbrev pub is_named : List SeqRange → ℕ → ℕ → Bool
is_named set greatest n = list_any (λ range. is_between (numeric greatest range.from) (numeric greatest range.to) n) set

-- the UIDs whose positions pass the test, the first of them at this position
abbrev pub at_positions : (ℕ → Bool) → ℕ → List ℕ → List ℕ
at_positions test position [] = []
at_positions test position (uid ∷ uids) = if test position then uid ∷ at_positions test (position + 1) uids else at_positions test (position + 1) uids

-- a message that isn't there is named
abbrev pub is_above : ℕ → SeqNumber → Bool
is_above count (Number n) = nat_lt count n
is_above count Star = count == 0

abbrev pub is_too_high : List SeqRange → ℕ → Bool
is_too_high set count = list_any (λ range. is_above count range.from || is_above count range.to) set

-- the greatest UID, which is the last
abbrev pub last_uid : List ℕ → ℕ
last_uid view = slice_index view (length view - 1)

-- the UIDs of the view that a set of UIDs names
abbrev pub by_uid : List SeqRange → List ℕ → List ℕ
by_uid set view = filter (is_named set (last_uid view)) view

-- the UIDs of the messages that a set of positions in the view names, or nothing where one isn't there
abbrev pub by_position : List SeqRange → List ℕ → Option (List ℕ)
by_position set view = if is_too_high set (length view) then None else Some (at_positions (is_named set (length view)) 1 view)

-- the messages that a set names in a view
abbrev pub named_in : Bool → List SeqRange → List ℕ → Option (List ℕ)
named_in true set view = Some (by_uid set view)
named_in false set view = by_position set view

-- a message of a view, at its position there
abbrev pub named_at : List ℕ → ℕ → Named
named_at view uid = record { position = position uid view; uid = uid }

-- the same, each at its position
abbrev pub messages_in : Bool → List SeqRange → List ℕ → Option (List Named)
messages_in by_uid set view = option_map (map (named_at view)) (named_in by_uid set view)

-- a message is named
abbrev pub is_one_there : Option (List ℕ) → Bool
is_one_there None = false
is_one_there (Some []) = false
is_one_there (Some (uid ∷ uids)) = true

-- the set names a message of the view
abbrev pub names_one : Bool → List SeqRange → List ℕ → Bool
names_one by_uid set view = is_one_there (named_in by_uid set view)
