-- What follows APPEND: what is spelled is read, and what is read is spelled.
use Rattle.std.proofs.Common.{◌≡◌, ℕ, Bool, true, false, cond, List, [], ◌∷◌, ◌++◌, length, take, drop, refl, ap, sym, subst, ◌∙◌, arith, append_assoc, length-append, inl, inr}
use Rattle.std.specs.Prelude.{Option, Some, None, ◌⊎◌, ◌+◌, ◌-◌, codes, min}
use Rattle.std.proofs.lemmas.List.{take_at, drop_at, take-append-drop}
use Rattle.change_ring.specs.Log.{no_flags}
use Rattle.change_ring.specs.declared.change.Flags.{Flags}
use Rattle.std.specs.List.{list_all, prefix_len}
use Rattle.envelope.proofs.Sound.{bind_some, byte_sound, either, guard_some, many_taken, some_sound}
use Rattle.envelope.proofs.Words.{all_of}
use Rattle.envelope.proofs.Tokens.{Stops, some_again}
use Rattle.envelope.specs.Bytes.{is_space}
use Rattle.envelope.specs.Grammar.{Many, Spaces, Gap, Joined}
use Rattle.envelope.specs.Reading.{◌>>=◌, first_is, past_byte, some_len}
use Rattle.mail_date.specs.InternalBack.{internal_date}
use Rattle.mail_date.specs.declared.stamp.Stamp.{Stamp}
use Rattle.imap_grammar.specs.Bytes.{is_atom, is_digit}
use Rattle.imap_grammar.specs.Cuts.{cut_at}
use Rattle.imap_grammar.specs.Grammar.{FlagList, FlagWords, GivenDate, GivenFlags, InQuotes, LiteralIs, Name, Quoted, QuotedText, StringOf}
use Rattle.imap_grammar.specs.Numbers.{most_size, number_of}
use Rattle.imap_grammar.specs.Reading.{append_at, flag_list_at, flags_in, given_flags_at, if_end, is_tight, literal_at, literal_end, parens_at, given_date_at, quoted_date_at, quoted_len, string_at}
use Rattle.imap_grammar.specs.Front.{past_gap}
use Rattle.imap_grammar.specs.declared.command.Append.{Append}
use Rattle.imap_grammar.specs.declared.command.Command.{Command}
use Rattle.imap_grammar.specs.declared.command.Command.TheVariants as say
use Rattle.imap_grammar.specs.declared.command.Literal.{Literal}
use Rattle.imap_grammar.proofs.Chains.{end_again, end_sound, gap_first, name_read, past}
use Rattle.imap_grammar.proofs.Cuts.{cut_again, cut_sound, is_other}
use Rattle.imap_grammar.proofs.ListLaw.{flag_words_read, inner_flags, paren_text, text_paren}
use Rattle.imap_grammar.proofs.Tokens.{gap_again, gap_sound, string_sound, quoted_again, quoted_sound, FoundQuoted}

-- the digits at the front are digits
pub taken_digits : (bytes : List ℕ) → list_all is_digit (take (prefix_len is_digit bytes) bytes) ≡ true
taken_digits bytes = all_of is_digit is_digit (take (prefix_len is_digit bytes) bytes) (λ b e. e) (many_taken is_digit bytes)

-- the text begins with this byte
abbrev pub Opens : ℕ → List ℕ → Type 0
Opens b bytes = (more : List ℕ) × (bytes ≡ b ∷ more)

-- ---- flags

tight_cut : List ℕ × List ℕ → Option (List ℕ × List ℕ)
tight_cut cut = cond (is_tight cut.0) (Some cut) None

pub parens_again : (inner rest : List ℕ) → Many (is_other 41) inner → is_tight inner ≡ true → parens_at ((40 ∷ (inner ++ 41 ∷ [])) ++ rest) ≡ Some (inner, rest)
unfolding tight_cut
parens_again inner rest h t =
    let pair : List ℕ × List ℕ = (inner, rest) in
    let cut : cut_at 41 ((inner ++ 41 ∷ []) ++ rest) ≡ Some pair = ap (cut_at 41) (append_assoc inner (41 ∷ []) rest) ∙ cut_again 41 inner rest h in
    ap (λ o. o >>= tight_cut) cut ∙ ap (λ (u : Bool). cond u (Some pair) None) t

pub record FoundCut (bytes : List ℕ) (cut : List ℕ × List ℕ) : Type 0 where
  pub parts : bytes ≡ (40 ∷ (cut.0 ++ 41 ∷ [])) ++ cut.1
  pub tight : is_tight cut.0 ≡ true

pub parens_sound : (bytes : List ℕ) (cut : List ℕ × List ℕ) → parens_at bytes ≡ Some cut → FoundCut bytes cut
unfolding tight_cut
parens_sound bytes cut e =
    let a = bind_some (past_byte 40 bytes) (λ start. cut_at 41 start >>= tight_cut) cut e in
    let b = bind_some (cut_at 41 a.0) tight_cut cut a.2 in
    let k = guard_some (is_tight b.0.0) b.0 cut b.2 in
    let w = cut_sound 41 a.0 b.0.0 b.0.1 b.1 in
    subst (FoundCut bytes) k.1 (record {
      parts = byte_sound 40 bytes a.0 a.1 ∙ ap (λ l. 40 ∷ l) (w.whole ∙ sym (append_assoc b.0.0 (41 ∷ []) b.0.1));
      tight = k.0;
    })

with_rest : Flags → List ℕ → Option (Flags × List ℕ)
with_rest flags rest = Some (flags, rest)

list_ends : List ℕ × List ℕ → Option (Flags × List ℕ)
list_ends cut = flags_in cut.0 >>= (λ flags. past_gap cut.1 >>= with_rest flags)

flag_list_again : (flags : Flags) (list gap rest : List ℕ) → FlagList flags list → Gap gap → Stops is_space rest → flag_list_at (list ++ (gap ++ rest)) ≡ Some (flags, rest)
unfolding with_rest list_ends
flag_list_again flags list gap rest q g s =
    let p = paren_text (FlagWords q.0) list q.2 in
    let r = flag_words_read q.0 p.0 flags p.2 q.1 in
    ap (λ l. flag_list_at (l ++ (gap ++ rest))) p.1
    ∙ ap (λ o. o >>= list_ends) (parens_again p.0 (gap ++ rest) r.0 r.1)
    ∙ ap (λ o. o >>= (λ flags. past_gap (gap ++ rest) >>= with_rest flags)) r.2
    ∙ ap (λ o. o >>= with_rest flags) (gap_again gap rest g s)

list_opens : (flags : Flags) (list rest : List ℕ) → FlagList flags list → Opens 40 (list ++ rest)
list_opens flags list rest q =
    let p = paren_text (FlagWords q.0) list q.2 in
    ((p.0 ++ 41 ∷ []) ++ rest, ap (λ l. l ++ rest) p.1)

given_again : (flags : Flags) (text rest : List ℕ) → GivenFlags flags text → Stops is_space rest → first_is 40 rest ≡ false → given_flags_at (text ++ rest) ≡ Some (flags, rest)
unfolding with_rest
given_again flags text rest (inl h) s n =
    ap (λ l. given_flags_at (l ++ rest)) h.1
    ∙ ap (λ (t : Bool). cond t (flag_list_at rest) (with_rest no_flags rest)) n
    ∙ ap (λ (f : Flags). with_rest f rest) (sym h.0)
given_again flags text rest (inr q) s n =
    let whole : text ++ rest ≡ q.front ++ (q.back ++ rest) = ap (λ l. l ++ rest) q.parts ∙ append_assoc q.front q.back rest in
    let o = list_opens flags q.front (q.back ++ rest) q.first in
    let bytes : List ℕ = q.front ++ (q.back ++ rest) in
    ap given_flags_at whole
    ∙ ap (λ (t : Bool). cond t (flag_list_at bytes) (with_rest no_flags bytes)) (ap (first_is 40) o.1)
    ∙ flag_list_again flags q.front q.back rest q.first q.second s

given_starts : (flags : Flags) (text rest : List ℕ) → GivenFlags flags text → Stops is_space rest → Stops is_space (text ++ rest)
given_starts flags text rest (inl h) s = subst (λ l. Stops is_space (l ++ rest)) (sym h.1) s
given_starts flags text rest (inr q) s =
    let whole : text ++ rest ≡ q.front ++ (q.back ++ rest) = ap (λ l. l ++ rest) q.parts ∙ append_assoc q.front q.back rest in
    let o = list_opens flags q.front (q.back ++ rest) q.first in
    subst (Stops is_space) (sym (whole ∙ o.1)) refl

flags_in_pair : Option (Flags × List ℕ) → Flags
flags_in_pair (Some x) = x.0
flags_in_pair None = no_flags

rest_in_pair : {A : Type 0} → Option (A × List ℕ) → List ℕ
rest_in_pair (Some x) = x.1
rest_in_pair None = []

record FoundGiven (bytes : List ℕ) (flags : Flags) (rest : List ℕ) : Type 0 where
  text : List ℕ
  parts : bytes ≡ text ++ rest
  is : GivenFlags flags text

list_sound : (bytes : List ℕ) (x : Flags × List ℕ) → flag_list_at bytes ≡ Some x → FoundGiven bytes x.0 x.1
unfolding with_rest list_ends flags_in_pair rest_in_pair
list_sound bytes x e =
    let a = bind_some (parens_at bytes) list_ends x e in
    let b = bind_some (flags_in a.0.0) (λ flags. past_gap a.0.1 >>= with_rest flags) x a.2 in
    let d = bind_some (past_gap a.0.1) (with_rest b.0) x b.2 in
    let p = parens_sound bytes a.0 a.1 in
    let g = gap_sound a.0.1 d.0 d.1 in
    let w = inner_flags a.0.0 b.0 p.tight b.1 in
    let list : List ℕ = 40 ∷ (a.0.0 ++ 41 ∷ []) in
    let same : b.0 ≡ x.0 = ap flags_in_pair d.2 in
    let left : d.0 ≡ x.1 = ap rest_in_pair d.2 in
    let is : FlagList b.0 list = (w.0, w.1, text_paren (FlagWords w.0) a.0.0 w.2) in
    record {
      text = list ++ g.gap;
      parts = p.parts ∙ ap (λ l. list ++ l) (g.parts ∙ ap (λ l. g.gap ++ l) left) ∙ sym (append_assoc list g.gap x.1);
      is = inr (record { front = list; back = g.gap; parts = refl; first = subst (λ f. FlagList f list) same is; second = g.is });
    }

given_sound : (bytes : List ℕ) (x : Flags × List ℕ) → given_flags_at bytes ≡ Some x → FoundGiven bytes x.0 x.1
unfolding flags_in_pair rest_in_pair
given_sound bytes x e =
    elim (either (first_is 40 bytes) (flag_list_at bytes) (Some (no_flags, bytes)) (Some x) e) [
      | inl q ↦ list_sound bytes x q.1
      | inr q ↦ record { text = []; parts = ap rest_in_pair q.1; is = inl (sym (ap flags_in_pair q.1), refl) }
    ]

-- ---- the date

-- a quoted string, whatever it says
abbrev pub AnyQuoted : List ℕ → Type 0
AnyQuoted text = (value : List ℕ) × InQuotes value text

quoted_opens : (inner text rest : List ℕ) → QuotedText inner text → text ++ rest ≡ 34 ∷ (inner ++ 34 ∷ rest)
quoted_opens inner text rest q =
    let whole : text ≡ codes "\"" ++ (inner ++ codes "\"") =
    q.parts ∙ ap (λ l. l ++ q.back) q.first ∙ ap (λ l. codes "\"" ++ l) (q.second.parts ∙ ap (λ l. l ++ q.second.back) q.second.first.0 ∙ ap (λ l. inner ++ l) q.second.second) in
    ap (λ l. l ++ rest) whole ∙ ap (λ l. 34 ∷ l) (append_assoc inner (34 ∷ []) rest)

with_date : Option Stamp → List ℕ → Option (Option Stamp × List ℕ)
with_date date rest = Some (date, rest)

-- the length that a string has from behind its first quote on, and what is read by it
read_by : List ℕ → ℕ → Option (Option Stamp × List ℕ)
read_by start n = past_gap (drop n start) >>= with_date (internal_date (take (n - 1) start))

quoted_date_again : (inner front back rest : List ℕ) → QuotedText inner front → Gap back → Stops is_space rest
    → quoted_date_at (front ++ (back ++ rest)) ≡ Some (internal_date inner, rest)
unfolding with_date read_by
quoted_date_again inner front back rest q g s =
    let behind : List ℕ = back ++ rest in
    let start : List ℕ = inner ++ 34 ∷ behind in
    let is : Quoted q.second.first.1.0 inner = subst (Quoted q.second.first.1.0) q.second.first.0 q.second.first.1.1 in
    let taken : take (length inner + 1 - 1) start ≡ inner = take_at inner (34 ∷ behind) (length inner + 1 - 1) (omega arith) in
    let left : drop (length inner + 1) start ≡ behind =
    ap (drop (length inner + 1)) (sym (append_assoc inner (34 ∷ []) behind)) ∙ drop_at (inner ++ 34 ∷ []) behind (length inner + 1) (length-append inner (34 ∷ [])) in
    ap quoted_date_at (quoted_opens inner front behind q)
    ∙ ap (λ o. o >>= read_by start) (quoted_again is behind)
    ∙ ap (λ l. past_gap l >>= with_date (internal_date (take (length inner + 1 - 1) start))) left
    ∙ ap (λ x. x >>= with_date (internal_date (take (length inner + 1 - 1) start))) (gap_again back rest g s)
    ∙ ap (λ l. Some (internal_date l, rest)) taken

date_again : (date : Option Stamp) (text rest : List ℕ) → GivenDate date text → Stops is_space rest → first_is 34 rest ≡ false → given_date_at (text ++ rest) ≡ Some (date, rest)
unfolding with_date
date_again date text rest (inl h) s n =
    ap (λ l. given_date_at (l ++ rest)) h.1
    ∙ ap (λ (t : Bool). cond t (quoted_date_at rest) (with_date None rest)) n
    ∙ ap (λ d. with_date d rest) (sym h.0)
date_again date text rest (inr q) s n =
    let behind : List ℕ = q.2.back ++ rest in
    let bytes : List ℕ = q.2.front ++ behind in
    let whole : text ++ rest ≡ bytes = ap (λ l. l ++ rest) q.2.parts ∙ append_assoc q.2.front q.2.back rest in
    ap given_date_at whole
    ∙ ap (λ (t : Bool). cond t (quoted_date_at bytes) (with_date None bytes)) (ap (first_is 34) (quoted_opens q.0 q.2.front behind q.2.first))
    ∙ quoted_date_again q.0 q.2.front q.2.back rest q.2.first q.2.second s
    ∙ ap (λ d. with_date d rest) q.1

date_opens : (date : Option Stamp) (text rest : List ℕ) → GivenDate date text → Opens 123 rest → Opens 123 (text ++ rest) ⊎ Opens 34 (text ++ rest)
date_opens date text rest (inl h) o = inl (o.0, ap (λ l. l ++ rest) h.1 ∙ o.1)
date_opens date text rest (inr q) o =
    inr (q.0 ++ 34 ∷ (q.2.back ++ rest), ap (λ l. l ++ rest) q.2.parts ∙ append_assoc q.2.front q.2.back rest ∙ quoted_opens q.0 q.2.front (q.2.back ++ rest) q.2.first)

record FoundDate (bytes : List ℕ) (date : Option Stamp) (rest : List ℕ) : Type 0 where
  text : List ℕ
  parts : bytes ≡ text ++ rest
  is : GivenDate date text

-- a string that begins with a quote is a quoted one
pub quoted_only : (value text rest more : List ℕ) → text ++ rest ≡ 34 ∷ more → StringOf is_atom value text → AnyQuoted text
quoted_only value text rest more e (inr q) = (value, q)
quoted_only value [] rest more e (inl h) = absurd (omega (arith, h.1.0))
quoted_only value (x ∷ xs) rest more e (inl h) =
    let first : x ≡ 34 = first_same x (xs ++ rest) more e in
    let yes : is_atom 34 ≡ true = subst (λ (b : ℕ). is_atom b ≡ true) first h.1.1.0 in
    absurd cc
  where
    head_or : List ℕ → ℕ
    head_or [] = 0
    head_or (y ∷ ys) = y

    first_same : (x : ℕ) (xs more : List ℕ) → x ∷ xs ≡ 34 ∷ more → x ≡ 34
    first_same x xs more k = ap head_or k

pub opens_first : (b : ℕ) (bytes : List ℕ) → first_is b bytes ≡ true → Opens b bytes
opens_first b bytes e = let k = byte_sound b bytes (drop 1 bytes) (ap (λ (t : Bool). cond t (Some (drop 1 bytes)) None) e) in (drop 1 bytes, k)

date_in_pair : Option (Option Stamp × List ℕ) → Option Stamp
date_in_pair (Some x) = x.0
date_in_pair None = None

quoted_date_sound : (start : List ℕ) (x : Option Stamp × List ℕ) → quoted_len false start >>= read_by start ≡ Some x → FoundDate (34 ∷ start) x.0 x.1
unfolding with_date read_by date_in_pair rest_in_pair
quoted_date_sound start x e =
    let a = bind_some (quoted_len false start) (read_by start) x e in
    let f : FoundQuoted start a.0 = quoted_sound false start a.0 a.1 in
    let b = bind_some (past_gap (drop a.0 start)) (with_date (internal_date (take (a.0 - 1) start))) x a.2 in
    let g = gap_sound (drop a.0 start) b.0 b.1 in
    let taken : take (a.0 - 1) start ≡ f.content = ap (take (a.0 - 1)) f.parts ∙ take_at f.content (34 ∷ f.rest) (a.0 - 1) (omega (arith, f.size)) in
    let left : drop a.0 start ≡ f.rest =
    ap (drop a.0) (f.parts ∙ sym (append_assoc f.content (34 ∷ []) f.rest)) ∙ drop_at (f.content ++ 34 ∷ []) f.rest a.0 (length-append f.content (34 ∷ []) ∙ sym f.size) in
    let text : List ℕ = 34 ∷ (f.content ++ 34 ∷ []) in
    let rest : f.rest ≡ g.gap ++ x.1 = sym left ∙ g.parts ∙ ap (λ l. g.gap ++ l) (ap rest_in_pair b.2) in
    let date : internal_date f.content ≡ x.0 = ap internal_date (sym taken) ∙ ap date_in_pair b.2 in
    let is : QuotedText f.content text = record {
      front = 34 ∷ [];
      back = f.content ++ 34 ∷ [];
      parts = refl;
      first = refl;
      second = record { front = f.content; back = 34 ∷ []; parts = refl; first = (refl, (f.value, f.is)); second = refl };
    } in
    record {
      text = text ++ g.gap;
      parts = ap (λ l. 34 ∷ l) (f.parts ∙ ap (λ l. f.content ++ 34 ∷ l) rest ∙ sym (append_assoc f.content (34 ∷ g.gap) x.1) ∙ ap (λ l. l ++ x.1) (sym (append_assoc f.content (34 ∷ []) g.gap)));
      is = inr (f.content, date, record { front = text; back = g.gap; parts = refl; first = is; second = g.is });
    }

date_sound : (bytes : List ℕ) (x : Option Stamp × List ℕ) → given_date_at bytes ≡ Some x → FoundDate bytes x.0 x.1
unfolding with_date read_by date_in_pair rest_in_pair
date_sound bytes x e =
    elim (either (first_is 34 bytes) (quoted_date_at bytes) (Some (None, bytes)) (Some x) e) [
      | inl q ↦
          let o = opens_first 34 bytes q.0 in
          subst (λ l. FoundDate l x.0 x.1) (sym o.1) (quoted_date_sound o.0 x (ap (λ l. quoted_len false (drop 1 l) >>= read_by (drop 1 l)) (sym o.1) ∙ q.1))
      | inr q ↦ record { text = []; parts = ap rest_in_pair q.1; is = inl (sym (ap date_in_pair q.1), refl) }
    ]

-- ---- the literal

unfoldable pub closing : Bool → List ℕ
closing waits = cond waits (codes "}") (codes "+}")

ends_again : (waits : Bool) (back rest : List ℕ) → back ≡ closing waits → (literal_end (back ++ rest) ≡ Some (waits, rest)) × Stops is_digit (back ++ rest)
unfolding closing
ends_again true back rest e = (ap (λ l. literal_end (l ++ rest)) e, subst (λ l. Stops is_digit (l ++ rest)) (sym e) refl)
ends_again false back rest e = (ap (λ l. literal_end (l ++ rest)) e, subst (λ l. Stops is_digit (l ++ rest)) (sym e) refl)

ends_sound : (bytes : List ℕ) (x : Bool × List ℕ) → literal_end bytes ≡ Some x → bytes ≡ closing x.0 ++ x.1
unfolding closing opens_first
ends_sound bytes x e =
    elim (either (first_is 43 bytes) (past_byte 125 (drop 1 bytes) >>= (λ rest. Some (false, rest))) (past_byte 125 bytes >>= (λ rest. Some (true, rest))) (Some x) e) [
      | inl q ↦
          let o = opens_first 43 bytes q.0 in
          let k = bind_some (past_byte 125 (drop 1 bytes)) (λ rest. Some (false, rest)) x q.1 in
          let is : (false, k.0) ≡ x = cc in
          o.1 ∙ ap (λ l. 43 ∷ l) (byte_sound 125 (drop 1 bytes) k.0 k.1) ∙ ap (λ (p : Bool × List ℕ). closing p.0 ++ p.1) is
      | inr q ↦
          let k = bind_some (past_byte 125 bytes) (λ rest. Some (true, rest)) x q.1 in
          let is : (true, k.0) ≡ x = cc in
          byte_sound 125 bytes k.0 k.1 ∙ ap (λ (p : Bool × List ℕ). closing p.0 ++ p.1) is
    ]

literal_made : List ℕ → Bool × List ℕ → Option (Literal × List ℕ)
literal_made digits last = Some (record { size = min (number_of digits) most_size; waits = last.0 }, last.1)

sized_at : List ℕ → ℕ → Option (Literal × List ℕ)
sized_at start n = literal_end (drop n start) >>= literal_made (take n start)

pub literal_again : (l : Literal) (text rest : List ℕ) → LiteralIs l text → literal_at (text ++ rest) ≡ Some (l, rest)
unfolding literal_made sized_at closing
literal_again l text rest q =
    let digits : List ℕ = q.second.front in
    let behind : List ℕ = q.second.back ++ rest in
    let k = ends_again l.waits q.second.back rest q.second.second in
    let whole : text ++ rest ≡ 123 ∷ (digits ++ behind) =
    ap (λ t. t ++ rest) (q.parts ∙ ap (λ t. t ++ q.back) q.first ∙ ap (λ t. 123 ∷ t) q.second.parts)
    ∙ ap (λ t. 123 ∷ t) (append_assoc digits q.second.back rest) in
    ap literal_at whole
    ∙ ap (λ o. o >>= sized_at (digits ++ behind)) (some_again is_digit digits behind q.second.first.0 k.1)
    ∙ ap (λ t. literal_end t >>= literal_made (take (length digits) (digits ++ behind))) (drop_at digits behind (length digits) refl)
    ∙ ap (λ t. literal_end behind >>= literal_made t) (take_at digits behind (length digits) refl)
    ∙ ap (λ o. o >>= literal_made digits) k.0
    ∙ ap (λ (n : ℕ). Some (record { size = n; waits = l.waits }, rest)) (sym q.second.first.1)

literal_opens : (l : Literal) (text rest : List ℕ) → LiteralIs l text → Opens 123 (text ++ rest)
literal_opens l text rest q = (q.back ++ rest, ap (λ t. t ++ rest) (q.parts ∙ ap (λ t. t ++ q.back) q.first))

pub record FoundLiteral (bytes : List ℕ) (l : Literal) (rest : List ℕ) : Type 0 where
  pub text : List ℕ
  pub parts : bytes ≡ text ++ rest
  pub is : LiteralIs l text

pub literal_sound : (bytes : List ℕ) (x : Literal × List ℕ) → literal_at bytes ≡ Some x → FoundLiteral bytes x.0 x.1
unfolding literal_made sized_at closing
literal_sound bytes x e =
    let a = bind_some (past_byte 123 bytes) (λ start. some_len is_digit start >>= sized_at start) x e in
    let b = bind_some (some_len is_digit a.0) (sized_at a.0) x a.2 in
    let d = bind_some (literal_end (drop b.0 a.0)) (literal_made (take b.0 a.0)) x b.2 in
    let digits : List ℕ = take b.0 a.0 in
    let end = ends_sound (drop b.0 a.0) d.0 d.1 in
    let made : Literal × List ℕ = (record { size = min (number_of digits) most_size; waits = d.0.0 }, d.0.1) in
    let is : made ≡ x = cc in
    subst (λ (y : Literal × List ℕ). FoundLiteral bytes y.0 y.1) is (record {
      text = 123 ∷ (digits ++ closing d.0.0);
      parts = byte_sound 123 bytes a.0 a.1 ∙ ap (λ l. 123 ∷ l) (sym (take-append-drop b.0 a.0) ∙ ap (λ l. digits ++ l) end ∙ sym (append_assoc digits (closing d.0.0) d.0.1));
      is = record {
        front = 123 ∷ [];
        back = digits ++ closing d.0.0;
        parts = refl;
        first = refl;
        second = record { front = digits; back = closing d.0.0; parts = refl; first = (some_sound is_digit a.0 b.0 b.1, refl); second = refl };
      };
    })

-- ---- the whole

abbrev pub AppendIs : Append → List ℕ → Type 0
AppendIs a = Joined Gap (Joined (Name a.name) (Joined Gap (Joined (GivenFlags a.flags) (Joined (GivenDate a.date) (Joined (LiteralIs a.literal) Spaces)))))

append_made : List ℕ → Flags → Option Stamp → Literal × List ℕ → Option Command
append_made name flags date literal = if_end (say.Append (record { name = name; flags = flags; date = date; literal = literal.0 })) literal.1

append_literal : List ℕ → Flags → Option Stamp × List ℕ → Option Command
append_literal name flags date = literal_at date.1 >>= append_made name flags date.0

append_dated : List ℕ → Flags × List ℕ → Option Command
append_dated name flags = given_date_at flags.1 >>= append_literal name flags.0

append_named : List ℕ × List ℕ → Option Command
append_named name = past_gap name.1 >>= (λ next. given_flags_at next >>= append_dated name.0)

dated_stops : (bytes : List ℕ) → Opens 123 bytes ⊎ Opens 34 bytes → Stops is_space bytes × (first_is 40 bytes ≡ false)
dated_stops bytes (inl o) = (subst (Stops is_space) (sym o.1) refl, ap (first_is 40) o.1)
dated_stops bytes (inr o) = (subst (Stops is_space) (sym o.1) refl, ap (first_is 40) o.1)

pub append_again : (a : Append) (rest : List ℕ) → AppendIs a rest → append_at rest ≡ Some (say.Append a)
unfolding append_made append_literal append_dated append_named
append_again a rest q =
    let n = q.second in
    let g = n.second in
    let f = g.second in
    let d = f.second in
    let l = d.second in
    let o : Opens 123 d.back = (let k = literal_opens a.literal l.front l.back l.first in (k.0, l.parts ∙ k.1)) in
    let p : Opens 123 f.back ⊎ Opens 34 f.back = subst (λ t. Opens 123 t ⊎ Opens 34 t) (sym d.parts) (date_opens a.date d.front d.back d.first o) in
    let s = dated_stops f.back p in
    let name = name_read a.name _ q.back n (gap_first _ n.back g) in
    let start : Stops is_space g.back = subst (Stops is_space) (sym f.parts) (given_starts a.flags f.front f.back f.first s.0) in
    ap (λ x. x >>= (λ start. string_at is_atom start >>= append_named)) (past _ rest q name.1)
    ∙ ap (λ x. x >>= append_named) name.0
    ∙ ap (λ x. x >>= (λ next. given_flags_at next >>= append_dated a.name)) (past _ n.back g start)
    ∙ ap (λ t. given_flags_at t >>= append_dated a.name) f.parts
    ∙ ap (λ x. x >>= append_dated a.name) (given_again a.flags f.front f.back f.first s.0 s.1)
    ∙ ap (λ t. given_date_at t >>= append_literal a.name a.flags) d.parts
    ∙ ap (λ x. x >>= append_literal a.name a.flags) (date_again a.date d.front d.back d.first (subst (Stops is_space) (sym o.1) refl) (ap (first_is 34) o.1))
    ∙ ap (λ t. literal_at t >>= append_made a.name a.flags a.date) l.parts
    ∙ ap (λ x. x >>= append_made a.name a.flags a.date) (literal_again a.literal l.front l.back l.first)
    ∙ end_again (say.Append a) l.back l.second

pub append_sound : (c : Command) (rest : List ℕ) → append_at rest ≡ Some c → (a : Append) × (say.Append a ≡ c) × AppendIs a rest
unfolding append_made append_literal append_dated append_named
append_sound c rest e =
    let a = bind_some (past_gap rest) (λ start. string_at is_atom start >>= append_named) c e in
    let b = bind_some (string_at is_atom a.0) append_named c a.2 in
    let d = bind_some (past_gap b.0.1) (λ next. given_flags_at next >>= append_dated b.0.0) c b.2 in
    let f = bind_some (given_flags_at d.0) (append_dated b.0.0) c d.2 in
    let h = bind_some (given_date_at f.0.1) (append_literal b.0.0 f.0.0) c f.2 in
    let i = bind_some (literal_at h.0.1) (append_made b.0.0 f.0.0 h.0.0) c h.2 in
    let j = end_sound (say.Append (record { name = b.0.0; flags = f.0.0; date = h.0.0; literal = i.0.0 })) c i.0.1 i.2 in
    let g = gap_sound rest a.0 a.1 in
    let s = string_sound is_atom refl a.0 b.0.0 b.0.1 b.1 in
    let k = gap_sound b.0.1 d.0 d.1 in
    let x = given_sound d.0 f.0 f.1 in
    let y = date_sound f.0.1 h.0 h.1 in
    let z = literal_sound h.0.1 i.0 i.1 in (
      record { name = b.0.0; flags = f.0.0; date = h.0.0; literal = i.0.0 },
      j.0,
      record {
        front = g.gap;
        back = a.0;
        parts = g.parts;
        first = g.is;
        second = record {
          front = s.text;
          back = b.0.1;
          parts = s.parts;
          first = s.is;
          second = record {
            front = k.gap;
            back = d.0;
            parts = k.parts;
            first = k.is;
            second = record {
              front = x.text;
              back = f.0.1;
              parts = x.parts;
              first = x.is;
              second = record {
                front = y.text;
                back = h.0.1;
                parts = y.parts;
                first = y.is;
                second = record { front = z.text; back = i.0.1; parts = z.parts; first = z.is; second = j.1 };
              };
            };
          };
        };
      },
    )
