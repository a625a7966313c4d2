-- What follows a verb: what is spelled is read, and what is read is spelled.
use Rattle.std.proofs.Common.{◌≡◌, ℕ, zero, suc, Bool, true, false, cond, List, [], ◌∷◌, ◌++◌, length, take, drop, refl, ap, sym, subst, ◌∙◌, arith, append_assoc}
use Rattle.std.specs.Prelude.{Option, Some, None, IfSome, codes, map}
use Rattle.std.specs.Char.{to_ascii_lowercase}
use Rattle.std.specs.Str.{bytes_eq, str_eq_ignore_ascii_case as is_same}
use Rattle.std.proofs.lemmas.List.{length-map, map-append, take_at, drop_at, take-append-drop}
use Rattle.change_ring.specs.declared.change.Flags.{Flags}
use Rattle.change_ring.specs.declared.flag_op.FlagOp.{FlagOp}
use Rattle.change_ring.specs.declared.flag_op.FlagOp.TheVariants.{Set, Insert, Remove}
use Rattle.envelope.proofs.Begins.{stopped_gap}
use Rattle.envelope.proofs.Sound.{bind_some}
use Rattle.envelope.proofs.Tokens.{Stops}
use Rattle.envelope.proofs.Words.{append_none}
use Rattle.envelope.specs.Bytes.{is_space, is_not_space}
use Rattle.envelope.specs.Grammar.{Many, Some1, Spaces, Gap, Exactly, Keyword, Anything, AfterGap, Joined}
use Rattle.envelope.specs.Reading.{◌>>=◌}
use Rattle.imap_grammar.specs.Bytes.{is_atom, is_pattern}
use Rattle.imap_grammar.specs.Grammar.{GivenDate, GivenFlags, LiteralIs, Name, StringOf, SetIs, ItemsAre, StatusItemIs, Separated, Parenthesized, FlagsAre, operation_word, flags_of, ChangeIs, ArgumentsOf, CapabilityNames, IdParameters}
use Rattle.imap_grammar.specs.Items.{status_item_of}
use Rattle.imap_grammar.specs.Reading.{word_at, string_at, if_end, in_parentheses, name_alone, fetch_items_at, status_items_in, flags_at, operation_of, change_with, fetch_at, store_at, set_alone, pair_at, status_at, search_at, copy_at, command_at}
use Rattle.imap_grammar.specs.Front.{past_gap}
use Rattle.imap_grammar.specs.Sets.{set_at}
use Rattle.imap_grammar.specs.Verbs.{alone, copy_verb, verb_of}
use Rattle.imap_grammar.specs.declared.arguments.Operation.{Operation}
use Rattle.imap_grammar.specs.declared.arguments.Operation.TheVariants as operations
use Rattle.imap_grammar.specs.declared.set.SeqRange.{SeqRange}
use Rattle.imap_grammar.specs.declared.items.FetchItem.{FetchItem}
use Rattle.imap_grammar.specs.declared.items.StatusItem.{StatusItem}
use Rattle.imap_grammar.specs.declared.command.Verb.{Verb}
use Rattle.imap_grammar.specs.declared.command.Verb.TheVariants as verbs
use Rattle.imap_grammar.specs.declared.command.Fetch.{Fetch}
use Rattle.imap_grammar.specs.declared.command.Store.{Store}
use Rattle.imap_grammar.specs.declared.command.CopyMessages.{CopyMessages}
use Rattle.imap_grammar.specs.declared.command.Command.{Command}
use Rattle.imap_grammar.specs.declared.command.Command.TheVariants as say
use Rattle.imap_grammar.proofs.AppendLaw.{AppendIs, append_again, append_sound}
use Rattle.imap_grammar.proofs.CopyLaw.{copy_again, copy_regroup, copy_sound, copy_ungroup}
use Rattle.imap_grammar.proofs.IdLaw.{id_again, id_sound}
use Rattle.imap_grammar.proofs.NamedWords.{enable_again, enable_sound, authenticate_again, authenticate_regroup, authenticate_sound, authenticate_ungroup}
use Rattle.imap_grammar.proofs.ChosenLaw.{SearchIs, search_again, search_sound, search_regroup, search_ungroup}
use Rattle.imap_grammar.specs.declared.command.Search.{Search}
use Rattle.imap_grammar.specs.declared.command.Append.{Append}
use Rattle.imap_grammar.proofs.Chains.{regroup, ungroup, behind, inside, past, gap_first, end_again, end_sound, nothing_again, name_read, set_read, string_read}
use Rattle.imap_grammar.proofs.Keywords.{word_length, word_clean, map_take, same_sound}
use Rattle.imap_grammar.proofs.Tokens.{not_true, starts, many_joined, spaced_first, blank_first, gap_again, gap_sound, word_again, word_parts, string_sound}
use Rattle.imap_grammar.proofs.SetLaw.{set_sound}
use Rattle.imap_grammar.proofs.ItemLaw.{status_again, status_sound, status_bare, status_open}
use Rattle.imap_grammar.proofs.ListLaw.{listed_again, listed_sound, items_again, items_sound, items_starts, flags_again, flags_sound, flags_starts}

-- ---- names

name_ends : (List ℕ → Command) → List ℕ × List ℕ → Option Command
name_ends make read = if_end (make read.0) read.1

name_again : (make : List ℕ → Command) (name rest : List ℕ) → Joined Gap (Joined (Name name) Spaces) rest → name_alone make rest ≡ Some (make name)
unfolding name_ends
name_again make name rest q =
    let n = name_read name Spaces q.back q.second (blank_first q.second.back q.second.second) in
    ap (λ o. o >>= (λ start. string_at is_atom start >>= name_ends make)) (past (Joined (Name name) Spaces) rest q n.1)
    ∙ ap (λ o. o >>= name_ends make) n.0
    ∙ end_again (make name) q.second.back q.second.second

name_sound : (make : List ℕ → Command) (c : Command) (rest : List ℕ) → name_alone make rest ≡ Some c → (name : List ℕ) × (make name ≡ c) × Joined Gap (Joined (Name name) Spaces) rest
unfolding name_ends
name_sound make c rest e =
    let a = bind_some (past_gap rest) (λ start. string_at is_atom start >>= name_ends make) c e in
    let b = bind_some (string_at is_atom a.0) (name_ends make) c a.2 in
    let d = end_sound (make b.0.0) c b.0.1 b.2 in
    let g = gap_sound rest a.0 a.1 in
    let s = string_sound is_atom refl a.0 b.0.0 b.0.1 b.1 in
    (b.0.0, d.0, record { front = g.gap; back = a.0; parts = g.parts; first = g.is; second = record { front = s.text; back = b.0.1; parts = s.parts; first = s.is; second = d.1 } })

-- ---- a name and another string

pair_made : (List ℕ → List ℕ → Command) → List ℕ → List ℕ × List ℕ → Option Command
pair_made make name other = if_end (make name other.0) other.1

pair_next : (ℕ → Bool) → (List ℕ → List ℕ → Command) → List ℕ × List ℕ → Option Command
pair_next class make name = past_gap name.1 >>= (λ next. string_at class next >>= pair_made make name.0)

PairIs : (ℕ → Bool) → List ℕ → List ℕ → List ℕ → Type 0
PairIs class name other = Joined Gap (Joined (Name name) (Joined Gap (Joined (StringOf class other) Spaces)))

pair_again : (class : ℕ → Bool) → class 34 ≡ false → class 32 ≡ false → (make : List ℕ → List ℕ → Command) (name other rest : List ℕ) → PairIs class name other rest → pair_at class make rest ≡ Some (make name other)
unfolding pair_made pair_next PairIs
pair_again class quote blank make name other rest q =
    let r = q.second in
    let g = r.second in
    let p = g.second in
    let n = name_read name _ q.back r (gap_first _ r.back g) in
    let m = string_read class quote blank other Spaces g.back p (blank_first p.back p.second) in
    ap (λ o. o >>= (λ start. string_at is_atom start >>= pair_next class make)) (past _ rest q n.1)
    ∙ ap (λ o. o >>= pair_next class make) n.0
    ∙ ap (λ o. o >>= (λ next. string_at class next >>= pair_made make name)) (past _ r.back g m.1)
    ∙ ap (λ o. o >>= pair_made make name) m.0
    ∙ end_again (make name other) p.back p.second

pair_sound : (class : ℕ → Bool) → class 34 ≡ false → (make : List ℕ → List ℕ → Command) (c : Command) (rest : List ℕ) → pair_at class make rest ≡ Some c
    → (name : List ℕ) × (other : List ℕ) × (make name other ≡ c) × PairIs class name other rest
unfolding pair_made pair_next PairIs
pair_sound class quote make c rest e =
    let a = bind_some (past_gap rest) (λ start. string_at is_atom start >>= pair_next class make) c e in
    let b = bind_some (string_at is_atom a.0) (pair_next class make) c a.2 in
    let d = bind_some (past_gap b.0.1) (λ next. string_at class next >>= pair_made make b.0.0) c b.2 in
    let f = bind_some (string_at class d.0) (pair_made make b.0.0) c d.2 in
    let h = end_sound (make b.0.0 f.0.0) c f.0.1 f.2 in
    let g = gap_sound rest a.0 a.1 in
    let s = string_sound is_atom refl a.0 b.0.0 b.0.1 b.1 in
    let i = gap_sound b.0.1 d.0 d.1 in
    let t = string_sound class quote d.0 f.0.0 f.0.1 f.1 in (
      b.0.0,
      f.0.0,
      h.0,
      record {
        front = g.gap;
        back = a.0;
        parts = g.parts;
        first = g.is;
        second = record {
          front = s.text;
          back = b.0.1;
          parts = s.parts;
          first = s.is;
          second = record {
            front = i.gap;
            back = d.0;
            parts = i.parts;
            first = i.is;
            second = record { front = t.text; back = f.0.1; parts = t.parts; first = t.is; second = h.1 };
          };
        };
      },
    )

-- the arguments in their own order, and what is behind the last
pair_regroup : (class : ℕ → Bool) (name other rest : List ℕ) → Joined (Joined Gap (Joined (Name name) (Joined Gap (StringOf class other)))) Spaces rest → PairIs class name other rest
unfolding PairIs
pair_regroup class name other rest q =
    behind Gap _ _ (λ l p. behind (Name name) _ _ (λ l p. regroup Gap (StringOf class other) Spaces l p) l (regroup _ _ Spaces l p)) rest (regroup _ _ Spaces rest q)

pair_ungroup : (class : ℕ → Bool) (name other rest : List ℕ) → PairIs class name other rest → Joined (Joined Gap (Joined (Name name) (Joined Gap (StringOf class other)))) Spaces rest
unfolding PairIs
pair_ungroup class name other rest q =
    ungroup _ _ Spaces rest (behind Gap _ _ (λ l p. ungroup _ _ Spaces l (behind (Name name) _ _ (λ l p. ungroup Gap (StringOf class other) Spaces l p) l p)) rest q)

-- ---- STATUS

status_made : List ℕ → List StatusItem → Option Command
status_made name items = Some (say.Status name items)

status_next : List ℕ × List ℕ → Option Command
status_next name = past_gap name.1 >>= (λ rest. in_parentheses rest >>= (λ inner. status_items_in inner >>= status_made name.0))

StatusIs : List ℕ → List StatusItem → List ℕ → Type 0
StatusIs name items = Joined Gap (Joined (Name name) (Joined Gap (Joined (Parenthesized (Separated Gap StatusItemIs items)) Spaces)))

paren_stops : (P : List ℕ → Type 0) (text rest : List ℕ) → Parenthesized P text → Stops is_space (text ++ rest)
paren_stops P text rest q = subst (λ l. Stops is_space (l ++ rest)) (sym (q.parts ∙ ap (λ l. l ++ q.back) q.first)) refl

status_reads : (name : List ℕ) (items : List StatusItem) (rest : List ℕ) → StatusIs name items rest → status_at rest ≡ Some (say.Status name items)
unfolding status_made status_next StatusIs
status_reads name items rest q =
    let r = q.second in
    let g = r.second in
    let p = g.second in
    let n = name_read name _ q.back r (gap_first _ r.back g) in
    let s : Stops is_space g.back = subst (Stops is_space) (sym p.parts) (paren_stops (Separated Gap StatusItemIs items) p.front p.back p.first) in
    let k = listed_again status_item_of StatusItemIs status_again status_bare status_open items p.front p.back p.first p.second in
    ap (λ o. o >>= (λ start. string_at is_atom start >>= status_next)) (past _ rest q n.1)
    ∙ ap (λ o. o >>= status_next) n.0
    ∙ ap (λ o. o >>= (λ rest. in_parentheses rest >>= (λ inner. status_items_in inner >>= status_made name))) (past _ r.back g s)
    ∙ ap (λ l. in_parentheses l >>= (λ inner. status_items_in inner >>= status_made name)) p.parts
    ∙ ap (λ o. o >>= (λ inner. status_items_in inner >>= status_made name)) k.found
    ∙ ap (λ o. o >>= status_made name) k.read

status_spelled : (c : Command) (rest : List ℕ) → status_at rest ≡ Some c → (name : List ℕ) × (items : List StatusItem) × (say.Status name items ≡ c) × StatusIs name items rest
unfolding status_made status_next StatusIs
status_spelled c rest e =
    let a = bind_some (past_gap rest) (λ start. string_at is_atom start >>= status_next) c e in
    let b = bind_some (string_at is_atom a.0) status_next c a.2 in
    let d = bind_some (past_gap b.0.1) (λ r. in_parentheses r >>= (λ inner. status_items_in inner >>= status_made b.0.0)) c b.2 in
    let f = bind_some (in_parentheses d.0) (λ inner. status_items_in inner >>= status_made b.0.0) c d.2 in
    let h = bind_some (status_items_in f.0) (status_made b.0.0) c f.2 in
    let g = gap_sound rest a.0 a.1 in
    let s = string_sound is_atom refl a.0 b.0.0 b.0.1 b.1 in
    let i = gap_sound b.0.1 d.0 d.1 in (
      b.0.0,
      h.0,
      inside (say.Status b.0.0 h.0) c h.2,
      record {
        front = g.gap;
        back = a.0;
        parts = g.parts;
        first = g.is;
        second = record {
          front = s.text;
          back = b.0.1;
          parts = s.parts;
          first = s.is;
          second = record { front = i.gap; back = d.0; parts = i.parts; first = i.is; second = listed_sound status_item_of StatusItemIs status_sound d.0 f.0 h.0 f.1 h.1 };
        };
      },
    )

-- ---- sets

expunge_ends : List ℕ × List ℕ → Option Command
expunge_ends word = set_at word.0 >>= (λ set. if_end (say.UidExpunge set) word.1)

expunge_again : (s : List SeqRange) (rest : List ℕ) → Joined Gap (Joined (SetIs s) Spaces) rest → set_alone rest ≡ Some (say.UidExpunge s)
unfolding expunge_ends
expunge_again s rest q =
    let k = set_read s Spaces q.back q.second (blank_first q.second.back q.second.second) in
    ap (λ o. o >>= (λ start. expunge_ends (word_at start))) (past _ rest q k.2)
    ∙ ap expunge_ends k.0
    ∙ ap (λ o. o >>= (λ set. if_end (say.UidExpunge set) q.second.back)) k.1
    ∙ end_again (say.UidExpunge s) q.second.back q.second.second

expunge_sound : (c : Command) (rest : List ℕ) → set_alone rest ≡ Some c → (s : List SeqRange) × (say.UidExpunge s ≡ c) × Joined Gap (Joined (SetIs s) Spaces) rest
unfolding expunge_ends
expunge_sound c rest e =
    let a = bind_some (past_gap rest) (λ start. expunge_ends (word_at start)) c e in
    let b = bind_some (set_at (word_at a.0).0) (λ set. if_end (say.UidExpunge set) (word_at a.0).1) c a.2 in
    let d = end_sound (say.UidExpunge b.0) c (word_at a.0).1 b.2 in
    let g = gap_sound rest a.0 a.1 in (
      b.0,
      d.0,
      record {
        front = g.gap;
        back = a.0;
        parts = g.parts;
        first = g.is;
        second = record { front = (word_at a.0).0; back = (word_at a.0).1; parts = word_parts a.0; first = set_sound b.0 (word_at a.0).0 b.1; second = d.1 };
      },
    )

-- ---- FETCH

fetch_made : Bool → List SeqRange → List FetchItem → Option Command
fetch_made by_uid set items = let f : Fetch = record { by_uid = by_uid; set = set; items = items } in Some (say.Fetch f)

fetch_next : Bool → List ℕ × List ℕ → Option Command
fetch_next by_uid word = set_at word.0 >>= (λ set. past_gap word.1 >>= (λ rest. fetch_items_at rest >>= fetch_made by_uid set))

FetchIs : List SeqRange → List FetchItem → List ℕ → Type 0
FetchIs set items = Joined Gap (Joined (SetIs set) (Joined Gap (Joined (ItemsAre items) Spaces)))

fetch_again : (by_uid : Bool) (set : List SeqRange) (items : List FetchItem) (rest : List ℕ) → FetchIs set items rest → fetch_at by_uid rest ≡ fetch_made by_uid set items
unfolding fetch_made fetch_next FetchIs
fetch_again by_uid set items rest q =
    let g = q.second.second in
    let i = g.second in
    let k = set_read set _ q.back q.second (gap_first _ q.second.back g) in
    let s : Stops is_space g.back = subst (Stops is_space) (sym i.parts) (items_starts items i.front i.back i.first) in
    ap (λ o. o >>= (λ start. fetch_next by_uid (word_at start))) (past _ rest q k.2)
    ∙ ap (fetch_next by_uid) k.0
    ∙ ap (λ o. o >>= (λ set. past_gap q.second.back >>= (λ r. fetch_items_at r >>= fetch_made by_uid set))) k.1
    ∙ ap (λ o. o >>= (λ r. fetch_items_at r >>= fetch_made by_uid set)) (past _ q.second.back g s)
    ∙ ap (λ l. fetch_items_at l >>= fetch_made by_uid set) i.parts
    ∙ ap (λ o. o >>= fetch_made by_uid set) (items_again items i.front i.back i.first i.second)

fetch_sound : (by_uid : Bool) (c : Command) (rest : List ℕ) → fetch_at by_uid rest ≡ Some c
    → (set : List SeqRange) × (items : List FetchItem) × (fetch_made by_uid set items ≡ Some c) × FetchIs set items rest
unfolding fetch_made fetch_next FetchIs
fetch_sound by_uid c rest e =
    let a = bind_some (past_gap rest) (λ start. fetch_next by_uid (word_at start)) c e in
    let w = word_at a.0 in
    let b = bind_some (set_at w.0) (λ set. past_gap w.1 >>= (λ r. fetch_items_at r >>= fetch_made by_uid set)) c a.2 in
    let d = bind_some (past_gap w.1) (λ r. fetch_items_at r >>= fetch_made by_uid b.0) c b.2 in
    let f = bind_some (fetch_items_at d.0) (fetch_made by_uid b.0) c d.2 in
    let g = gap_sound rest a.0 a.1 in
    let i = gap_sound w.1 d.0 d.1 in (
      b.0,
      f.0,
      f.2,
      record {
        front = g.gap;
        back = a.0;
        parts = g.parts;
        first = g.is;
        second = record {
          front = w.0;
          back = w.1;
          parts = word_parts a.0;
          first = set_sound b.0 w.0 b.1;
          second = record { front = i.gap; back = d.0; parts = i.parts; first = i.is; second = items_sound f.0 d.0 f.1 };
        };
      },
    )

-- ---- STORE

silent_word : Bool → List ℕ
silent_word silent = cond silent (codes ".SILENT") []

operation_lowered : List ℕ → Option (Operation × Bool)
operation_lowered low =
    cond (bytes_eq low (map to_ascii_lowercase (codes "FLAGS"))) (Some (operations.Set, false))
    (cond (bytes_eq low (map to_ascii_lowercase (codes "+FLAGS"))) (Some (operations.Insert, false))
    (cond (bytes_eq low (map to_ascii_lowercase (codes "-FLAGS"))) (Some (operations.Remove, false))
    (cond (bytes_eq low (map to_ascii_lowercase (codes "FLAGS.SILENT"))) (Some (operations.Set, true))
    (cond (bytes_eq low (map to_ascii_lowercase (codes "+FLAGS.SILENT"))) (Some (operations.Insert, true))
    (cond (bytes_eq low (map to_ascii_lowercase (codes "-FLAGS.SILENT"))) (Some (operations.Remove, true)) None)))))

operation : FlagOp → Operation
operation (Set flags) = operations.Set
operation (Insert flags) = operations.Insert
operation (Remove flags) = operations.Remove

operation_known : (silent : Bool) (change : FlagOp) → operation_lowered (map to_ascii_lowercase (operation_word change) ++ map to_ascii_lowercase (silent_word silent)) ≡ Some (operation change, silent)
unfolding operation_lowered operation silent_word
operation_known true (Set flags) = refl
operation_known true (Insert flags) = refl
operation_known true (Remove flags) = refl
operation_known false (Set flags) = refl
operation_known false (Insert flags) = refl
operation_known false (Remove flags) = refl

change_again : (change : FlagOp) → change_with (operation change) (flags_of change) ≡ change
unfolding operation
change_again (Set flags) = refl
change_again (Insert flags) = refl
change_again (Remove flags) = refl

operation_again : (silent : Bool) (change : FlagOp) (a b : List ℕ) → Keyword (operation_word change) a → Keyword (silent_word silent) b → operation_of (a ++ b) ≡ Some (operation change, silent)
unfolding operation_lowered
operation_again silent change a b h k =
    ap operation_lowered (map-append to_ascii_lowercase a b ∙ ap (λ l. l ++ map to_ascii_lowercase b) h ∙ ap (λ l. map to_ascii_lowercase (operation_word change) ++ l) k)
    ∙ operation_known silent change

operation_clean : (change : FlagOp) (a : List ℕ) → Keyword (operation_word change) a → Some1 is_not_space a
operation_clean (Set flags) a h = (let n = word_length (codes "FLAGS") a h in omega (arith, n), word_clean 32 refl a _ h (refl, (refl, (refl, (refl, (refl, tt))))))
operation_clean (Insert flags) a h = (let n = word_length (codes "+FLAGS") a h in omega (arith, n), word_clean 32 refl a _ h (refl, (refl, (refl, (refl, (refl, (refl, tt)))))))
operation_clean (Remove flags) a h = (let n = word_length (codes "-FLAGS") a h in omega (arith, n), word_clean 32 refl a _ h (refl, (refl, (refl, (refl, (refl, (refl, tt)))))))

silent_clean : (silent : Bool) (b : List ℕ) → Keyword (silent_word silent) b → Many is_not_space b
unfolding silent_word
silent_clean true b h = word_clean 32 refl b _ h (refl, (refl, (refl, (refl, (refl, (refl, (refl, tt)))))))
silent_clean false b h = word_clean 32 refl b _ h tt

split_word : (a b w : List ℕ) → Keyword (a ++ b) w → Joined (Keyword a) (Keyword b) w
split_word a b w h =
    let n = length a in
    let size : length (map to_ascii_lowercase a) ≡ n = length-map a to_ascii_lowercase in
    let both : map to_ascii_lowercase w ≡ map to_ascii_lowercase a ++ map to_ascii_lowercase b = h ∙ map-append to_ascii_lowercase a b in
    record {
      front = take n w;
      back = drop n w;
      parts = sym (take-append-drop n w);
      first = map_take n w ∙ ap (take n) both ∙ take_at (map to_ascii_lowercase a) (map to_ascii_lowercase b) n size;
      second = map_drop n w ∙ ap (drop n) both ∙ drop_at (map to_ascii_lowercase a) (map to_ascii_lowercase b) n size;
    }
  where
    map_drop : (k : ℕ) (text : List ℕ) → map to_ascii_lowercase (drop k text) ≡ drop k (map to_ascii_lowercase text)
    map_drop zero text = refl
    map_drop (suc k) [] = refl
    map_drop (suc k) (x ∷ xs) = map_drop k xs

Operated : Operation × Bool → List ℕ → Type 0
Operated o w = (flags : Flags) → Joined (Keyword (operation_word (change_with o.0 flags))) (Keyword (silent_word o.1)) w

operation_step : (t : Bool) (word w : List ℕ) (x o : Operation × Bool) (other : Option (Operation × Bool)) → is_same w word ≡ t → cond t (Some x) other ≡ Some o
    → (Keyword word w → Operated x w) → (other ≡ Some o → Operated o w) → Operated o w
operation_step true word w x o other e h here next = subst (λ y. Operated y w) (inside x o h) (here (same_sound word w e))
operation_step false word w x o other e h here next = next h

operation_sound : (w : List ℕ) (o : Operation × Bool) → operation_of w ≡ Some o → Operated o w
unfolding Operated silent_word
operation_sound w o e =
    operation_step (is_same w (codes "FLAGS")) (codes "FLAGS") w (operations.Set, false) o _ refl e (λ h flags. split_word (codes "FLAGS") [] w h)
    (λ e. operation_step (is_same w (codes "+FLAGS")) (codes "+FLAGS") w (operations.Insert, false) o _ refl e (λ h flags. split_word (codes "+FLAGS") [] w h)
    (λ e. operation_step (is_same w (codes "-FLAGS")) (codes "-FLAGS") w (operations.Remove, false) o _ refl e (λ h flags. split_word (codes "-FLAGS") [] w h)
    (λ e. operation_step (is_same w (codes "FLAGS.SILENT")) (codes "FLAGS.SILENT") w (operations.Set, true) o _ refl e (λ h flags. split_word (codes "FLAGS") (codes ".SILENT") w h)
    (λ e. operation_step (is_same w (codes "+FLAGS.SILENT")) (codes "+FLAGS.SILENT") w (operations.Insert, true) o _ refl e (λ h flags. split_word (codes "+FLAGS") (codes ".SILENT") w h)
    (λ e. operation_step (is_same w (codes "-FLAGS.SILENT")) (codes "-FLAGS.SILENT") w (operations.Remove, true) o _ refl e (λ h flags. split_word (codes "-FLAGS") (codes ".SILENT") w h)
    (λ e. absurd (let bad : None ≡ Some o = e in cc)))))))

store_made : Bool → List SeqRange → Bool → FlagOp → Option Command
store_made by_uid set silent change = let s : Store = record { by_uid = by_uid; set = set; silent = silent; change = change } in Some (say.Store s)

store_last : Bool → List SeqRange → List ℕ × List ℕ → Option Command
store_last by_uid set word = operation_of word.0 >>= (λ o. past_gap word.1 >>= (λ last. flags_at last >>= (λ flags. store_made by_uid set o.1 (change_with o.0 flags))))

store_next : Bool → List ℕ × List ℕ → Option Command
store_next by_uid word = set_at word.0 >>= (λ set. past_gap word.1 >>= (λ rest. store_last by_uid set (word_at rest)))

StoreIs : List SeqRange → Bool → FlagOp → List ℕ → Type 0
StoreIs set silent change =
    Joined Gap (Joined (SetIs set) (Joined Gap (Joined (Keyword (operation_word change)) (Joined (Keyword (silent_word silent)) (Joined Gap (Joined (FlagsAre (flags_of change)) Spaces))))))

store_again : (by_uid : Bool) (set : List SeqRange) (silent : Bool) (change : FlagOp) (rest : List ℕ) → StoreIs set silent change rest → store_at by_uid rest ≡ store_made by_uid set silent change
unfolding store_made store_last store_next StoreIs
store_again by_uid set silent change rest q =
    let g = q.second.second in
    let a = g.second in
    let b = a.second in
    let h = b.second in
    let f = h.second in
    let word : List ℕ = a.front ++ b.front in
    let k = set_read set _ q.back q.second (gap_first _ q.second.back g) in
    let o = operation_clean change a.front a.first in
    let whole : g.back ≡ word ++ (h.front ++ h.back) = a.parts ∙ ap (λ l. a.front ++ l) (b.parts ∙ ap (λ l. b.front ++ l) h.parts) ∙ sym (append_assoc a.front b.front (h.front ++ h.back)) in
    let s : Stops is_space g.back = subst (Stops is_space) (sym a.parts) (starts is_not_space (λ x e. not_true (is_space x) e) a.front a.back o) in
    let t : Stops is_space h.back = subst (Stops is_space) (sym f.parts) (flags_starts (flags_of change) f.front f.back f.first) in
    let pair : List ℕ × List ℕ = (word, h.front ++ h.back) in
    let cut : word_at g.back ≡ pair =
    ap word_at whole ∙ word_again word (h.front ++ h.back) (many_joined is_not_space a.front b.front o.1 (silent_clean silent b.front b.first)) (spaced_first h.front h.back h.first) in
    ap (λ x. x >>= (λ start. store_next by_uid (word_at start))) (past _ rest q k.2)
    ∙ ap (store_next by_uid) k.0
    ∙ ap (λ x. x >>= (λ set. past_gap q.second.back >>= (λ r. store_last by_uid set (word_at r)))) k.1
    ∙ ap (λ x. x >>= (λ r. store_last by_uid set (word_at r))) (past _ q.second.back g s)
    ∙ ap (store_last by_uid set) cut
    ∙ ap (λ x. x >>= (λ o. past_gap (h.front ++ h.back) >>= (λ last. flags_at last >>= (λ flags. store_made by_uid set o.1 (change_with o.0 flags))))) (operation_again silent change a.front b.front a.first b.first)
    ∙ ap (λ x. x >>= (λ last. flags_at last >>= (λ flags. store_made by_uid set silent (change_with (operation change) flags)))) (gap_again h.front h.back h.first t)
    ∙ ap (λ l. flags_at l >>= (λ flags. store_made by_uid set silent (change_with (operation change) flags))) f.parts
    ∙ ap (λ x. x >>= (λ flags. store_made by_uid set silent (change_with (operation change) flags))) (flags_again (flags_of change) f.front f.back f.first f.second)
    ∙ ap (store_made by_uid set silent) (change_again change)

flags_with : (o : Operation) (flags : Flags) → flags_of (change_with o flags) ≡ flags
flags_with operations.Set flags = refl
flags_with operations.Insert flags = refl
flags_with operations.Remove flags = refl

store_sound : (by_uid : Bool) (c : Command) (rest : List ℕ) → store_at by_uid rest ≡ Some c
    → (set : List SeqRange) × (silent : Bool) × (change : FlagOp) × (store_made by_uid set silent change ≡ Some c) × StoreIs set silent change rest
unfolding store_made store_last store_next StoreIs Operated
store_sound by_uid c rest e =
    let a = bind_some (past_gap rest) (λ start. store_next by_uid (word_at start)) c e in
    let w = word_at a.0 in
    let b = bind_some (set_at w.0) (λ set. past_gap w.1 >>= (λ r. store_last by_uid set (word_at r))) c a.2 in
    let d = bind_some (past_gap w.1) (λ r. store_last by_uid b.0 (word_at r)) c b.2 in
    let v = word_at d.0 in
    let f = bind_some (operation_of v.0) (λ o. past_gap v.1 >>= (λ last. flags_at last >>= (λ flags. store_made by_uid b.0 o.1 (change_with o.0 flags)))) c d.2 in
    let h = bind_some (past_gap v.1) (λ last. flags_at last >>= (λ flags. store_made by_uid b.0 f.0.1 (change_with f.0.0 flags))) c f.2 in
    let i = bind_some (flags_at h.0) (λ flags. store_made by_uid b.0 f.0.1 (change_with f.0.0 flags)) c h.2 in
    let g = gap_sound rest a.0 a.1 in
    let j = gap_sound w.1 d.0 d.1 in
    let l = gap_sound v.1 h.0 h.1 in
    let o = operation_sound v.0 f.0 f.1 i.0 in
    let m = flags_sound i.0 h.0 l.stops i.1 in
    let flags = subst (λ x. Joined (FlagsAre x) Spaces h.0) (sym (flags_with f.0.0 i.0)) m in (
      b.0,
      f.0.1,
      change_with f.0.0 i.0,
      i.2,
      record {
        front = g.gap;
        back = a.0;
        parts = g.parts;
        first = g.is;
        second = record {
          front = w.0;
          back = w.1;
          parts = word_parts a.0;
          first = set_sound b.0 w.0 b.1;
          second = record {
            front = j.gap;
            back = d.0;
            parts = j.parts;
            first = j.is;
            second = record {
              front = o.front;
              back = o.back ++ v.1;
              parts = word_parts d.0 ∙ ap (λ x. x ++ v.1) o.parts ∙ append_assoc o.front o.back v.1;
              first = o.first;
              second = record {
                front = o.back;
                back = v.1;
                parts = refl;
                first = o.second;
                second = record { front = l.gap; back = h.0; parts = l.parts; first = l.is; second = flags };
              };
            };
          };
        };
      },
    )

-- ---- all commands

search_verb : (by_uid : Bool) (rest : List ℕ) → command_at (cond by_uid verbs.UidSearch verbs.Search) rest ≡ search_at by_uid rest
search_verb true rest = refl
search_verb false rest = refl

fetch_verb : (by_uid : Bool) (rest : List ℕ) → command_at (cond by_uid verbs.UidFetch verbs.Fetch) rest ≡ fetch_at by_uid rest
fetch_verb true rest = refl
fetch_verb false rest = refl

store_verb : (by_uid : Bool) (rest : List ℕ) → command_at (cond by_uid verbs.UidStore verbs.Store) rest ≡ store_at by_uid rest
store_verb true rest = refl
store_verb false rest = refl

copy_verb_reads : (by_uid moves : Bool) (rest : List ℕ) → command_at (copy_verb by_uid moves) rest ≡ copy_at by_uid moves rest
copy_verb_reads true true rest = refl
copy_verb_reads true false rest = refl
copy_verb_reads false true rest = refl
copy_verb_reads false false rest = refl

store_regroup : (set : List SeqRange) (silent : Bool) (change : FlagOp) (rest : List ℕ) → Joined (Joined Gap (Joined (SetIs set) (Joined Gap (ChangeIs silent change)))) Spaces rest → StoreIs set silent change rest
unfolding StoreIs silent_word
store_regroup set silent change rest q =
    behind Gap _ _ (λ l p. behind (SetIs set) _ _ (λ l p. behind Gap _ _ (λ l p. behind (Keyword (operation_word change)) _ _ (λ l p. behind (Keyword (cond silent (codes ".SILENT") [])) _ _
    (λ l p. regroup Gap (FlagsAre (flags_of change)) Spaces l p) l (regroup _ _ Spaces l p)) l (regroup _ _ Spaces l p)) l (regroup _ _ Spaces l p)) l (regroup _ _ Spaces l p)) rest (regroup _ _ Spaces rest q)

store_ungroup : (set : List SeqRange) (silent : Bool) (change : FlagOp) (rest : List ℕ) → StoreIs set silent change rest → Joined (Joined Gap (Joined (SetIs set) (Joined Gap (ChangeIs silent change)))) Spaces rest
unfolding StoreIs silent_word
store_ungroup set silent change rest q =
    ungroup _ _ Spaces rest (behind Gap _ _ (λ l p. ungroup _ _ Spaces l (behind (SetIs set) _ _ (λ l p. ungroup _ _ Spaces l (behind Gap _ _ (λ l p. ungroup _ _ Spaces l
    (behind (Keyword (operation_word change)) _ _ (λ l p. ungroup _ _ Spaces l (behind (Keyword (cond silent (codes ".SILENT") [])) _ _ (λ l p. ungroup Gap (FlagsAre (flags_of change)) Spaces l p) l p)) l p)) l p)) l p)) rest q)

append_regroup : (a : Append) (rest : List ℕ) → Joined (ArgumentsOf (say.Append a)) Spaces rest → AppendIs a rest
append_regroup a rest q =
    behind Gap _ _ (λ l p. behind (Name a.name) _ _ (λ l p. behind Gap _ _ (λ l p. behind (GivenFlags a.flags) _ _ (λ l p. regroup (GivenDate a.date) (LiteralIs a.literal) Spaces l p) l (regroup _ _ Spaces l p))
    l (regroup _ _ Spaces l p)) l (regroup _ _ Spaces l p)) rest (regroup _ _ Spaces rest q)

append_ungroup : (a : Append) (rest : List ℕ) → AppendIs a rest → Joined (ArgumentsOf (say.Append a)) Spaces rest
append_ungroup a rest q =
    ungroup _ _ Spaces rest (behind Gap _ _ (λ l p. ungroup _ _ Spaces l (behind (Name a.name) _ _ (λ l p. ungroup _ _ Spaces l (behind Gap _ _ (λ l p. ungroup _ _ Spaces l
    (behind (GivenFlags a.flags) _ _ (λ l p. ungroup (GivenDate a.date) (LiteralIs a.literal) Spaces l p) l p)) l p)) l p)) rest q)

pub command_again : (c : Command) (rest : List ℕ) → Joined (ArgumentsOf c) Spaces rest → command_at (verb_of c) rest ≡ Some c
unfolding PairIs StatusIs FetchIs fetch_made store_made
command_again (say.Login user password) rest q = pair_again is_atom refl refl say.Login user password rest (pair_regroup is_atom user password rest q)
command_again (say.Authenticate a) rest q = authenticate_again a rest (authenticate_regroup a rest q)
command_again say.StartTls rest q = refl
command_again (say.Select name) rest q = name_again say.Select name rest (regroup Gap (Name name) Spaces rest q)
command_again (say.Examine name) rest q = name_again say.Examine name rest (regroup Gap (Name name) Spaces rest q)
command_again (say.List reference pattern) rest q = pair_again is_pattern refl refl say.List reference pattern rest (pair_regroup is_pattern reference pattern rest q)
command_again (say.Status name items) rest q =
    status_reads name items rest
    (behind Gap _ _ (λ l p. behind (Name name) _ _ (λ l p. regroup Gap (Parenthesized (Separated Gap StatusItemIs items)) Spaces l p) l (regroup _ _ Spaces l p)) rest (regroup _ _ Spaces rest q))
command_again (say.UidExpunge set) rest q = expunge_again set rest (regroup Gap (SetIs set) Spaces rest q)
command_again (say.Fetch f) rest q =
    fetch_verb f.by_uid rest
    ∙ fetch_again f.by_uid f.set f.items rest
    (behind Gap _ _ (λ l p. behind (SetIs f.set) _ _ (λ l p. regroup Gap (ItemsAre f.items) Spaces l p) l (regroup _ _ Spaces l p)) rest (regroup _ _ Spaces rest q))
command_again (say.Store s) rest q = store_verb s.by_uid rest ∙ store_again s.by_uid s.set s.silent s.change rest (store_regroup s.set s.silent s.change rest q)
command_again (say.Copy m) rest q = copy_verb_reads m.by_uid m.moves rest ∙ copy_again m rest (copy_regroup m rest q)
command_again (say.Append a) rest q = append_again a rest (append_regroup a rest q)
command_again (say.Search s) rest q = search_verb s.by_uid rest ∙ search_again s rest (search_regroup s rest q)
command_again (say.Lsub reference pattern) rest q = pair_again is_pattern refl refl say.Lsub reference pattern rest (pair_regroup is_pattern reference pattern rest q)
command_again (say.Subscribe name) rest q = name_again say.Subscribe name rest (regroup Gap (Name name) Spaces rest q)
command_again (say.Unsubscribe name) rest q = name_again say.Unsubscribe name rest (regroup Gap (Name name) Spaces rest q)
command_again say.Enable rest q = enable_again rest (regroup Gap CapabilityNames Spaces rest q)
command_again say.Id rest q = id_again rest (regroup Gap IdParameters Spaces rest q)
command_again c rest q = nothing_again c rest q

-- a command of this verb, and what it is spelled with
pub record Fits (v : Verb) (c : Command) (rest : List ℕ) : Type 0 where
  pub verb : verb_of c ≡ v
  pub is : Joined (ArgumentsOf c) Spaces rest

nothing : (rest : List ℕ) → Spaces rest → Joined (Exactly []) Spaces rest
nothing rest s = record { front = []; back = rest; parts = refl; first = refl; second = s }

any_rest : (rest : List ℕ) → Stops is_not_space rest → Joined (AfterGap Anything) Spaces rest
any_rest rest s = record { front = rest; back = []; parts = sym (append_none rest); first = stopped_gap rest s; second = tt }

named : (v : Verb) (make : List ℕ → Command) (c : Command) (rest : List ℕ) → ((name : List ℕ) → Joined Gap (Joined (Name name) Spaces) rest → Fits v (make name) rest)
    → name_alone make rest ≡ Some c → Fits v c rest
named v make c rest f e = let k = name_sound make c rest e in subst (λ x. Fits v x rest) k.1 (f k.0 k.2)

fetch_fits : (v : Verb) (f : Fetch) (x : Command) (rest : List ℕ) → verb_of (say.Fetch f) ≡ v → Some (say.Fetch f) ≡ Some x → FetchIs f.set f.items rest → Fits v x rest
unfolding FetchIs
fetch_fits v f x rest e h q =
    subst (λ y. Fits v y rest) (inside (say.Fetch f) x h) (record {
      verb = e;
      is = ungroup _ _ Spaces rest (behind Gap _ _ (λ l p. ungroup _ _ Spaces l (behind (SetIs f.set) _ _ (λ l p. ungroup Gap (ItemsAre f.items) Spaces l p) l p)) rest q);
    })

store_fits : (v : Verb) (s : Store) (x : Command) (rest : List ℕ) → verb_of (say.Store s) ≡ v → Some (say.Store s) ≡ Some x → StoreIs s.set s.silent s.change rest → Fits v x rest
store_fits v s x rest e h q = subst (λ y. Fits v y rest) (inside (say.Store s) x h) (record { verb = e; is = store_ungroup s.set s.silent s.change rest q })

copy_fits : (by_uid moves : Bool) (c : Command) (rest : List ℕ) → copy_at by_uid moves rest ≡ Some c → Fits (copy_verb by_uid moves) c rest
copy_fits by_uid moves c rest e =
    let k = copy_sound by_uid moves c rest e in
    let m : CopyMessages = record { by_uid = by_uid; moves = moves; set = k.0; name = k.1 } in
    subst (λ y. Fits (copy_verb by_uid moves) y rest) k.2 (record { verb = refl; is = copy_ungroup m rest k.3 })

search_fits : (v : Verb) (s : Search) (x : Command) (rest : List ℕ) → verb_of (say.Search s) ≡ v → say.Search s ≡ x → SearchIs s rest → Fits v x rest
search_fits v s x rest e h q = subst (λ y. Fits v y rest) h (record { verb = e; is = search_ungroup s rest q })

ended : (v : Verb) (x c : Command) (rest : List ℕ) → (Spaces rest → Fits v x rest) → if_end x rest ≡ Some c → Fits v c rest
ended v x c rest f e = let k = end_sound x c rest e in subst (λ y. Fits v y rest) k.0 (f k.1)

-- what a verb is with nothing after it
abbrev IsAlone : Verb → Option Command → Type 0
IsAlone v o = IfSome o (λ x. (verb_of x ≡ v) × ((rest : List ℕ) → Spaces rest → Joined (ArgumentsOf x) Spaces rest))

alone_fits : (v : Verb) → IsAlone v (alone v)
alone_fits verbs.Login = tt
alone_fits verbs.Authenticate = tt
alone_fits verbs.StartTls = tt
alone_fits verbs.Select = tt
alone_fits verbs.Examine = tt
alone_fits verbs.List = tt
alone_fits verbs.Status = tt
alone_fits verbs.Fetch = tt
alone_fits verbs.Store = tt
alone_fits verbs.UidFetch = tt
alone_fits verbs.UidStore = tt
alone_fits verbs.UidExpunge = tt
alone_fits verbs.Append = tt
alone_fits verbs.Search = tt
alone_fits verbs.UidSearch = tt
alone_fits verbs.Create = tt
alone_fits verbs.Delete = tt
alone_fits verbs.Rename = tt
alone_fits verbs.Subscribe = tt
alone_fits verbs.Unsubscribe = tt
alone_fits verbs.Copy = tt
alone_fits verbs.Move = tt
alone_fits verbs.Enable = tt
alone_fits verbs.UidCopy = tt
alone_fits verbs.UidMove = tt
alone_fits verbs.Lsub = tt
alone_fits verbs.Id = tt
alone_fits _ = (refl, nothing)

alone_sound : (v : Verb) (o : Option Command) (c : Command) (rest : List ℕ) → IsAlone v o → (o >>= λ x. if_end x rest) ≡ Some c → Fits v c rest
alone_sound v None c rest f e = absurd cc
alone_sound v (Some x) c rest f e = ended v x c rest (λ b. record { verb = f.0; is = f.1 rest b }) e

pub command_sound : (v : Verb) (c : Command) (rest : List ℕ) → Stops is_not_space rest → command_at v rest ≡ Some c → Fits v c rest
unfolding PairIs StatusIs fetch_made store_made
command_sound verbs.Login c rest s e =
    let k = pair_sound is_atom refl say.Login c rest e in
    subst (λ y. Fits verbs.Login y rest) k.2 (record { verb = refl; is = pair_ungroup is_atom k.0 k.1 rest k.3 })
command_sound verbs.Authenticate c rest s e =
    let k = authenticate_sound c rest e in
    subst (λ y. Fits verbs.Authenticate y rest) k.1 (record { verb = refl; is = authenticate_ungroup k.0 rest k.2 })
command_sound verbs.StartTls c rest s e = subst (λ y. Fits verbs.StartTls y rest) (inside say.StartTls c e) (record { verb = refl; is = any_rest rest s })
command_sound verbs.Select c rest s e = named verbs.Select say.Select c rest (λ name q. record { verb = refl; is = ungroup Gap (Name name) Spaces rest q }) e
command_sound verbs.Examine c rest s e = named verbs.Examine say.Examine c rest (λ name q. record { verb = refl; is = ungroup Gap (Name name) Spaces rest q }) e
command_sound verbs.List c rest s e =
    let k = pair_sound is_pattern refl say.List c rest e in
    subst (λ y. Fits verbs.List y rest) k.2 (record { verb = refl; is = pair_ungroup is_pattern k.0 k.1 rest k.3 })
command_sound verbs.Status c rest s e =
    let k = status_spelled c rest e in
    subst (λ y. Fits verbs.Status y rest) k.2 (record {
      verb = refl;
      is = ungroup _ _ Spaces rest (behind Gap _ _ (λ l p. ungroup _ _ Spaces l (behind (Name k.0) _ _ (λ l p. ungroup Gap (Parenthesized (Separated Gap StatusItemIs k.1)) Spaces l p) l p)) rest k.3);
    })
command_sound verbs.Lsub c rest s e =
    let k = pair_sound is_pattern refl say.Lsub c rest e in
    subst (λ y. Fits verbs.Lsub y rest) k.2 (record { verb = refl; is = pair_ungroup is_pattern k.0 k.1 rest k.3 })
command_sound verbs.Subscribe c rest s e = named verbs.Subscribe say.Subscribe c rest (λ name q. record { verb = refl; is = ungroup Gap (Name name) Spaces rest q }) e
command_sound verbs.Unsubscribe c rest s e = named verbs.Unsubscribe say.Unsubscribe c rest (λ name q. record { verb = refl; is = ungroup Gap (Name name) Spaces rest q }) e
command_sound verbs.Enable c rest s e =
    let k = enable_sound c rest e in
    subst (λ y. Fits verbs.Enable y rest) k.0 (record { verb = refl; is = ungroup Gap CapabilityNames Spaces rest k.1 })
command_sound verbs.Id c rest s e =
    let k = id_sound c rest e in
    subst (λ y. Fits verbs.Id y rest) k.0 (record { verb = refl; is = ungroup Gap IdParameters Spaces rest k.1 })
command_sound verbs.UidExpunge c rest s e =
    let k = expunge_sound c rest e in
    subst (λ y. Fits verbs.UidExpunge y rest) k.1 (record { verb = refl; is = ungroup Gap (SetIs k.0) Spaces rest k.2 })
command_sound verbs.Fetch c rest s e = let k = fetch_sound false c rest e in let f : Fetch = record { by_uid = false; set = k.0; items = k.1 } in fetch_fits verbs.Fetch f c rest refl k.2 k.3
command_sound verbs.UidFetch c rest s e = let k = fetch_sound true c rest e in let f : Fetch = record { by_uid = true; set = k.0; items = k.1 } in fetch_fits verbs.UidFetch f c rest refl k.2 k.3
command_sound verbs.Store c rest s e = let k = store_sound false c rest e in let f : Store = record { by_uid = false; set = k.0; silent = k.1; change = k.2 } in store_fits verbs.Store f c rest refl k.3 k.4
command_sound verbs.UidStore c rest s e = let k = store_sound true c rest e in let f : Store = record { by_uid = true; set = k.0; silent = k.1; change = k.2 } in store_fits verbs.UidStore f c rest refl k.3 k.4
command_sound verbs.Copy c rest s e = copy_fits false false c rest e
command_sound verbs.UidCopy c rest s e = copy_fits true false c rest e
command_sound verbs.Move c rest s e = copy_fits false true c rest e
command_sound verbs.UidMove c rest s e = copy_fits true true c rest e
command_sound verbs.Append c rest s e =
    let k = append_sound c rest e in
    subst (λ y. Fits verbs.Append y rest) k.1 (record { verb = refl; is = append_ungroup k.0 rest k.2 })
command_sound verbs.Search c rest s e =
    let k = search_sound false c rest e in
    search_fits verbs.Search k.0 c rest (ap (λ t. cond t verbs.UidSearch verbs.Search) k.1) k.2 k.3
command_sound verbs.UidSearch c rest s e =
    let k = search_sound true c rest e in
    search_fits verbs.UidSearch k.0 c rest (ap (λ t. cond t verbs.UidSearch verbs.Search) k.1) k.2 k.3
command_sound v c rest s e = alone_sound v (alone v) c rest (alone_fits v) e
