-- Keys that are asked of one message, one after another.
use Rattle.std.proofs.Common.{◌≡◌, ℕ, zero, suc, ◌-◌, ◌<◌, Bool, true, false, cond, List, [], ◌∷◌, length, refl, ap, sym, ◌∙◌, arith, length-append}
use Rattle.std.specs.Prelude.{Option, Some, None, ◌&&◌}
use Rattle.std.specs.List.{list_all}
use Rattle.std.specs.Option.{option_map}
use Rattle.envelope.specs.Reading.{◌>>=◌, past_byte}
use Rattle.imap_grammar.specs.Front.{is_blank}
use Rattle.imap_grammar.specs.Keys.{Key, all_of}
use Rattle.imap_grammar.specs.SearchReading.{Reader, key_word_of, key_word_at, next_start, others_from, others_at, keys_at, group_at, worded_at}
use Rattle.imap_grammar.specs.SearchReading.{either_at, key_at, keys_in}
use Rattle.imap_grammar.specs.inner.Asking.{so, so_and_rest, all_and_rest}
use Rattle.imap_grammar.specs.declared.keys.Asked.{Asked}
use Rattle.imap_grammar.proofs.SearchLaw.{keys_next, keys_read, more_read, whole_read, key_rest_shorter, next_sound}
use Rattle.imap_grammar.proofs.Tokens.{gap_sound}

abbrev answer : Bool → List ℕ → Option (Bool × List ℕ)
answer t rest = Some (t, rest)

abbrev said : Asked → Option (Key × List ℕ) → Option (Bool × List ℕ)
said asked o = option_map (so_and_rest asked) o

-- ---- levels

pub none_left : (asked : Asked) (levels : ℕ) (bytes : List ℕ) → levels ≡ 0 → None ≡ said asked (key_at levels bytes)
unfolding key_at
none_left asked zero bytes e = refl
none_left asked (suc n) bytes e = absurd (omega (arith, e))

level_less : (levels : ℕ) (bytes : List ℕ) → 0 < levels → key_at levels bytes ≡ either_at (key_at (levels - 1)) (past_byte 40 bytes) bytes
unfolding key_at
level_less zero bytes h = absurd (omega (arith, h))
level_less (suc n) bytes h = let e : n ≡ suc n - 1 = omega arith in ap (λ k. either_at (key_at k) (past_byte 40 bytes) bytes) e

pub grouped : (asked : Asked) (levels : ℕ) (bytes start : List ℕ) (r : Option (Bool × List ℕ)) → 0 < levels → Some start ≡ past_byte 40 bytes
    → r ≡ said asked (group_at (key_at (levels - 1)) start) → r ≡ said asked (key_at levels bytes)
grouped asked levels bytes start r h e k =
    k ∙ ap (λ o. said asked (either_at (key_at (levels - 1)) o bytes)) e ∙ sym (ap (said asked) (level_less levels bytes h))

pub ungrouped : (asked : Asked) (levels : ℕ) (bytes : List ℕ) (r : Option (Bool × List ℕ)) → 0 < levels → None ≡ past_byte 40 bytes
    → r ≡ said asked (worded_at (key_at (levels - 1)) (key_word_of (key_word_at bytes).0) (key_word_at bytes))
    → r ≡ said asked (key_at levels bytes)
ungrouped asked levels bytes r h e k =
    k ∙ ap (λ o. said asked (either_at (key_at (levels - 1)) o bytes)) e ∙ sym (ap (said asked) (level_less levels bytes h))

-- ---- what is known of a key that was read

record Known (asked : Asked) (o : Option (Key × List ℕ)) (t : Bool) (rest : List ℕ) : Type 0 where
  key : Key
  is : o ≡ Some (key, rest)
  said : so asked key ≡ t

known : (asked : Asked) (o : Option (Key × List ℕ)) (t : Bool) (rest : List ℕ) → answer t rest ≡ said asked o → Known asked o t rest
known asked None t rest e = absurd cc
known asked (Some read) t rest e =
    let a : Bool × List ℕ = (t, rest) in
    let k : a ≡ so_and_rest asked read = cc in
    let r : Key → List ℕ → Option (Key × List ℕ) = λ x l. Some (x, l) in
    record { key = read.0; is = ap (r read.0) (sym (ap (λ (p : Bool × List ℕ). p.1) k)); said = sym (ap (λ (p : Bool × List ℕ). p.0) k) }

-- ---- keys one after the other

and_true : (t : Bool) → t ≡ (t && true)
and_true true = refl
and_true false = refl

and_assoc : (a b c : Bool) → (a && (b && c)) ≡ ((a && b) && c)
and_assoc true b c = refl
and_assoc false b c = refl

all_so : (asked : Asked) (key : Key) (others : List Key) → so asked (all_of key others) ≡ (so asked key && list_all (so asked) others)
all_so asked key [] = and_true (so asked key)
all_so asked key (next ∷ others) = ap (λ t. so asked key && t) (all_so asked next others)

keys_case : (asked : Asked) (key : Key) (o : Option (List Key × List ℕ))
    → option_map (all_and_rest asked (so asked key)) o ≡ said asked (o >>= keys_read key)
keys_case asked key None = refl
keys_case asked key (Some more) = ap (λ t. answer t more.1) (sym (all_so asked key more.0))

pub keys_said : (asked : Asked) (each : Reader) (bytes rest : List ℕ) (first : Bool) (r : Option (Bool × List ℕ))
    → answer first rest ≡ said asked (each bytes)
    → r ≡ option_map (all_and_rest asked first) (others_at each (suc (length rest)) rest) → r ≡ said asked (keys_at each bytes)
keys_said asked each bytes rest first r e h =
    let k = known asked (each bytes) first rest e in
    h
    ∙ ap (λ t. option_map (all_and_rest asked t) (others_at each (suc (length rest)) rest)) (sym k.said)
    ∙ keys_case asked k.key (others_at each (suc (length rest)) rest)
    ∙ sym (ap (λ o. said asked (o >>= keys_next each)) k.is)

others_case : (asked : Asked) (all : Bool) (key : Key) (o : Option (List Key × List ℕ))
    → option_map (all_and_rest asked (all && so asked key)) o ≡ option_map (all_and_rest asked all) (o >>= more_read key)
others_case asked all key None = refl
others_case asked all key (Some more) = ap (λ t. answer t more.1) (sym (and_assoc all (so asked key) (list_all (so asked) more.0)))

pub rest_smaller : (asked : Asked) (levels : ℕ) (rest start others : List ℕ) (one : Bool) → Some start ≡ next_start rest
    → answer one others ≡ said asked (key_at levels start) → length others < length rest
rest_smaller asked levels rest start others one e h =
    let k = known asked (key_at levels start) one others h in
    let g = gap_sound rest start (next_sound rest start (sym e)) in
    omega (arith, key_rest_shorter levels start k.key others k.is, ap length g.parts, length-append g.gap start)

abbrev Remains : Asked → Reader → Bool → List ℕ → Option (Bool × List ℕ) → Type 0
Remains asked each all rest whole = (n : ℕ) × (length rest < n) × (option_map (all_and_rest asked all) (others_at each n rest) ≡ whole)

remains_case : (asked : Asked) (each : Reader) (n : ℕ) (all one : Bool) (rest start others : List ℕ) (whole : Option (Bool × List ℕ))
    → Some start ≡ next_start rest
    → answer one others ≡ said asked (each start) → length others < length rest → length rest < n
    → option_map (all_and_rest asked all) (others_at each n rest) ≡ whole
    → Remains asked each (all && one) others whole
remains_case asked each zero all one rest start others whole e h s lt k = absurd (omega (arith, lt))
remains_case asked each (suc n) all one rest start others whole e h s lt k =
    let f = known asked (each start) one others h in
    let size : length others < n = omega (arith, s, lt) in (
      n,
      size,
      ap (λ t. option_map (all_and_rest asked (all && t)) (others_at each n others)) (sym f.said)
          ∙ others_case asked all f.key (others_at each n others)
          ∙ sym (ap (λ o. option_map (all_and_rest asked all) (o >>= (λ read. others_at each n read.1 >>= more_read read.0))) f.is)
          ∙ ap (λ o. option_map (all_and_rest asked all) (others_from each (others_at each n) o rest)) e
          ∙ k,
    )

pub one_more : (asked : Asked) (levels : ℕ) (all one : Bool) (rest start others : List ℕ) (whole : Option (Bool × List ℕ))
    → Some start ≡ next_start rest
    → answer one others ≡ said asked (key_at levels start) → Remains asked (key_at levels) all rest whole
    → Remains asked (key_at levels) (all && one) others whole
one_more asked levels all one rest start others whole e h (n, lt, k) =
    remains_case asked (key_at levels) n all one rest start others whole e h (rest_smaller asked levels rest start others one e h) lt k

-- ---- keys and nothing more

pub none_said : (asked : Asked) (text : List ℕ) → None ≡ said asked (keys_at (key_at 33) text) → None ≡ option_map (so asked) (keys_in text)
unfolding keys_in
none_said asked text e = by (keys_at (key_at 33) text) e
  where
    by : (o : Option (Key × List ℕ)) → None ≡ said asked o → None ≡ option_map (so asked) (o >>= whole_read)
    by None h = refl
    by (Some read) h = absurd cc

pub whole_said : (asked : Asked) (text rest : List ℕ) (all : Bool) → answer all rest ≡ said asked (keys_at (key_at 33) text) → is_blank rest ≡ true
    → Some all ≡ option_map (so asked) (keys_in text)
unfolding keys_in
whole_said asked text rest all e b =
    let k = known asked (keys_at (key_at 33) text) all rest e in
    sym (ap (λ o. option_map (so asked) (o >>= whole_read)) k.is ∙ ap (λ (t : Bool). option_map (so asked) (cond t (Some k.key) None)) b
    ∙ ap (λ (t : Bool). Some t) k.said)

pub more_said : (asked : Asked) (text rest : List ℕ) (all : Bool) → answer all rest ≡ said asked (keys_at (key_at 33) text) → is_blank rest ≡ false
    → None ≡ option_map (so asked) (keys_in text)
unfolding keys_in
more_said asked text rest all e b =
    let k = known asked (keys_at (key_at 33) text) all rest e in
    sym (ap (λ o. option_map (so asked) (o >>= whole_read)) k.is ∙ ap (λ (t : Bool). option_map (so asked) (cond t (Some k.key) None)) b)
