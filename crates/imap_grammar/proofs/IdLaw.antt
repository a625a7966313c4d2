-- What follows ID: what is spelled is read, and what is read is spelled.
use Rattle.std.proofs.Common.{◌≡◌, ℕ, zero, suc, ◌<◌, Bool, true, false, cond, List, [], ◌∷◌, ◌++◌, length, drop, refl, ap, sym, subst, ◌∙◌, arith, append_assoc, length-append, inl, inr}
use Rattle.std.specs.Prelude.{Option, Some, None, codes, map}
use Rattle.std.specs.Char.{to_ascii_lowercase}
use Rattle.envelope.proofs.Sound.{bind_some, byte_sound, either, first_cons}
use Rattle.envelope.proofs.Tokens.{Stops}
use Rattle.envelope.specs.Bytes.{is_space}
use Rattle.envelope.specs.Grammar.{Many, Spaces, Gap, Exactly, Keyword, Joined}
use Rattle.envelope.specs.Reading.{◌>>=◌, first_is, past_byte, past_keyword}
use Rattle.imap_grammar.specs.Bytes.{is_atom}
use Rattle.imap_grammar.specs.Front.{past_gap}
use Rattle.imap_grammar.specs.Grammar.{IdField, IdParameters, IdValue, InQuotes, Others, Separated}
use Rattle.imap_grammar.specs.Reading.{id_at, if_end, next_field, past_all_fields, past_field, past_fields, past_list, past_parameters, past_string, past_value, string_at}
use Rattle.imap_grammar.specs.declared.command.Command.{Command}
use Rattle.imap_grammar.specs.declared.command.Command.TheVariants as say
use Rattle.imap_grammar.proofs.AppendLaw.{opens_first, quoted_only}
use Rattle.imap_grammar.proofs.Chains.{past, end_again, end_sound}
use Rattle.imap_grammar.proofs.Cuts.{is_other}
use Rattle.imap_grammar.proofs.Keywords.{word_length, word_clean, past_again, past_sound}
use Rattle.imap_grammar.proofs.ListLaw.{first_other, paren_text, text_paren}
use Rattle.imap_grammar.proofs.Tokens.{between, quoted_whole, gap_again, gap_sound, string_sound}

-- a field, and what is said in it
abbrev pub Field : Type 0
Field = List ℕ × Option (List ℕ)

abbrev behind_name : List ℕ × List ℕ → Option (List ℕ)
behind_name read = Some read.1

-- ---- NIL

-- the text of NIL begins with no byte but its own letters
nil_first : (c : ℕ) → to_ascii_lowercase c ≡ c → Many (is_other c) (map to_ascii_lowercase (codes "NIL")) → (text rest : List ℕ) → Keyword (codes "NIL") text → first_is c (text ++ rest) ≡ false
nil_first c e m text rest h =
    let n = word_length (codes "NIL") text h in
    first_other c text rest (omega (arith, n)) (word_clean c e text (map to_ascii_lowercase (codes "NIL")) h m)

first_stops : (bytes : List ℕ) → first_is 32 bytes ≡ false → Stops is_space bytes
first_stops [] e = tt
first_stops (x ∷ xs) e = e

-- ---- quoted strings

quotes_open : (value text rest : List ℕ) → InQuotes value text → first_is 34 (text ++ rest) ≡ true
quotes_open value text rest q = ap (λ l. first_is 34 (l ++ rest)) (q.parts ∙ ap (λ l. l ++ q.back) q.first)

quotes_stop : (value text rest : List ℕ) → InQuotes value text → Stops is_space (text ++ rest)
quotes_stop value text rest q = subst (λ l. Stops is_space (l ++ rest)) (sym (q.parts ∙ ap (λ l. l ++ q.back) q.first)) refl

string_past : (value text rest : List ℕ) → InQuotes value text → past_string (text ++ rest) ≡ Some rest
string_past value text rest q =
    let whole = between text q.front q.back q.second.front q.second.back (34 ∷ []) (34 ∷ []) q.parts q.first q.second.parts q.second.second in
    ap (λ (t : Bool). cond t (string_at is_atom (text ++ rest) >>= behind_name) None) (quotes_open value text rest q)
    ∙ ap (λ l. string_at is_atom (l ++ rest) >>= behind_name) whole
    ∙ ap (λ o. o >>= behind_name) (quoted_whole is_atom q.second.front value rest q.second.first)

record FoundValue (bytes rest : List ℕ) : Type 0 where
  value : List ℕ
  text : List ℕ
  parts : bytes ≡ text ++ rest
  is : InQuotes value text

string_found : (bytes rest : List ℕ) → past_string bytes ≡ Some rest → FoundValue bytes rest
string_found bytes rest e =
    elim (either (first_is 34 bytes) (string_at is_atom bytes >>= behind_name) None (Some rest) e) [
      | inl q ↦
          let a = bind_some (string_at is_atom bytes) behind_name rest q.1 in
          let s = string_sound is_atom refl bytes a.0.0 a.0.1 a.1 in
          let o = opens_first 34 bytes q.0 in
          let v = quoted_only a.0.0 s.text a.0.1 o.0 (sym s.parts ∙ o.1) s.is in
          let left : a.0.1 ≡ rest = cc in
          record { value = v.0; text = s.text; parts = s.parts ∙ ap (λ l. s.text ++ l) left; is = v.1 }
      | inr q ↦ absurd (let bad : None ≡ Some rest = q.1 in cc)
    ]

-- ---- what is said in a field

value_past : (value : Option (List ℕ)) (text rest : List ℕ) → IdValue value text → (past_value (text ++ rest) ≡ Some rest) × Stops is_space (text ++ rest)
value_past None text rest h = (
  ap (λ (t : Bool). cond t (past_string (text ++ rest)) (past_keyword (codes "NIL") (text ++ rest))) (nil_first 34 refl (refl, (refl, (refl, tt))) text rest h)
      ∙ past_again (codes "NIL") text rest h,
  first_stops (text ++ rest) (nil_first 32 refl (refl, (refl, (refl, tt))) text rest h),
)
value_past (Some value) text rest q = (
  ap (λ (t : Bool). cond t (past_string (text ++ rest)) (past_keyword (codes "NIL") (text ++ rest))) (quotes_open value text rest q) ∙ string_past value text rest q,
  quotes_stop value text rest q,
)

record FoundSaid (bytes rest : List ℕ) : Type 0 where
  value : Option (List ℕ)
  text : List ℕ
  parts : bytes ≡ text ++ rest
  is : IdValue value text

value_found : (bytes rest : List ℕ) → past_value bytes ≡ Some rest → FoundSaid bytes rest
value_found bytes rest e =
    elim (either (first_is 34 bytes) (past_string bytes) (past_keyword (codes "NIL") bytes) (Some rest) e) [
      | inl q ↦ let f = string_found bytes rest q.1 in record { value = Some f.value; text = f.text; parts = f.parts; is = f.is }
      | inr q ↦ let f = past_sound (codes "NIL") bytes rest q.1 in record { value = None; text = f.text; parts = f.parts; is = f.is }
    ]

-- ---- fields

abbrev behind_field : List ℕ → Option (List ℕ)
behind_field rest = past_gap rest >>= past_value

field_past : (field : Field) (text rest : List ℕ) → IdField field text → (past_field (text ++ rest) ≡ Some rest) × (first_is 34 (text ++ rest) ≡ true)
field_past field text rest q =
    let g = q.second in
    let v = value_past field.1 g.back rest g.second in
    let tail : List ℕ = g.front ++ (g.back ++ rest) in
    let whole : text ++ rest ≡ q.front ++ tail =
    ap (λ l. l ++ rest) (q.parts ∙ ap (λ l. q.front ++ l) g.parts) ∙ append_assoc q.front (g.front ++ g.back) rest ∙ ap (λ l. q.front ++ l) (append_assoc g.front g.back rest) in (
      ap past_field whole
          ∙ ap (λ o. o >>= behind_field) (string_past field.0 q.front tail q.first)
          ∙ ap (λ o. o >>= past_value) (gap_again g.front (g.back ++ rest) g.first v.1)
          ∙ v.0,
      ap (first_is 34) whole ∙ quotes_open field.0 q.front tail q.first,
    )

pub record FoundField (bytes rest : List ℕ) : Type 0 where
  pub field : Field
  pub text : List ℕ
  pub parts : bytes ≡ text ++ rest
  pub is : IdField field text

pub field_found : (bytes rest : List ℕ) → past_field bytes ≡ Some rest → FoundField bytes rest
field_found bytes rest e =
    let a = bind_some (past_string bytes) behind_field rest e in
    let b = bind_some (past_gap a.0) past_value rest a.2 in
    let n = string_found bytes a.0 a.1 in
    let g = gap_sound a.0 b.0 b.1 in
    let v = value_found b.0 rest b.2 in
    let inner : List ℕ = g.gap ++ v.text in
    record {
      field = (n.value, v.value);
      text = n.text ++ inner;
      parts = n.parts ∙ ap (λ l. n.text ++ l) (g.parts ∙ ap (λ l. g.gap ++ l) v.parts ∙ sym (append_assoc g.gap v.text rest)) ∙ sym (append_assoc n.text inner rest);
      is = record {
        front = n.text;
        back = inner;
        parts = refl;
        first = n.is;
        second = record { front = g.gap; back = v.text; parts = refl; first = g.is; second = v.is };
      };
    }

field_some : (field : Field) (text : List ℕ) → IdField field text → 0 < length text
field_some field text q =
    let whole : text ≡ 34 ∷ (q.first.back ++ q.back) = q.parts ∙ ap (λ l. l ++ q.back) (q.first.parts ∙ ap (λ l. l ++ q.first.back) q.first.first) in
    omega (arith, ap length whole)

pub field_shorter : (bytes rest : List ℕ) → past_field bytes ≡ Some rest → length rest < length bytes
field_shorter bytes rest e =
    let f = field_found bytes rest e in
    omega (arith, ap length f.parts, length-append f.text rest, field_some f.field f.text f.is)

-- further fields, up to the parenthesis that closes
fields_past : (n : ℕ) (fields : List Field) (text more : List ℕ) → Others Gap IdField fields text → length (text ++ 41 ∷ more) < n → past_fields n (text ++ 41 ∷ more) ≡ Some (41 ∷ more)
unfolding past_fields
fields_past zero fields text more q lt = absurd (omega (arith, lt))
fields_past (suc n) [] text more q lt = ap (λ l. past_fields (suc n) (l ++ 41 ∷ more)) q
fields_past (suc n) (field ∷ fields) text more q lt =
    let f = q.second in
    let rest : List ℕ = f.back ++ 41 ∷ more in
    let whole : text ++ 41 ∷ more ≡ q.front ++ (f.front ++ rest) =
    ap (λ l. l ++ 41 ∷ more) (q.parts ∙ ap (λ l. q.front ++ l) f.parts) ∙ append_assoc q.front (f.front ++ f.back) (41 ∷ more) ∙ ap (λ l. q.front ++ l) (append_assoc f.front f.back (41 ∷ more)) in
    let k = field_past field f.front rest f.first in
    let stops : Stops is_space (f.front ++ rest) = open_stops (f.front ++ rest) k.1 in
    let size : length rest < n = omega (arith, lt, ap length whole, length-append q.front (f.front ++ rest), length-append f.front rest, q.first.0) in
    ap (λ l. next_field (past_gap l) (past_fields n) l) whole
    ∙ ap (λ o. next_field o (past_fields n) (q.front ++ (f.front ++ rest))) (gap_again q.front (f.front ++ rest) q.first stops)
    ∙ ap (λ o. o >>= past_fields n) k.0
    ∙ fields_past n fields f.back more f.second size
  where
    open_stops : (bytes : List ℕ) → first_is 34 bytes ≡ true → Stops is_space bytes
    open_stops bytes e = subst (Stops is_space) (sym (first_cons 34 bytes e)) refl

record FoundFields (bytes rest : List ℕ) : Type 0 where
  fields : List Field
  text : List ℕ
  parts : bytes ≡ text ++ rest
  is : Others Gap IdField fields text

fields_found : (n : ℕ) (bytes rest : List ℕ) → past_fields n bytes ≡ Some rest → FoundFields bytes rest
unfolding past_fields
fields_found zero bytes rest e = absurd cc
fields_found (suc n) bytes rest e = by (past_gap bytes) refl e (λ left h. fields_found n left rest h)
  where
    by : (o : Option (List ℕ)) → past_gap bytes ≡ o → next_field o (past_fields n) bytes ≡ Some rest
        → ((left : List ℕ) → past_fields n left ≡ Some rest → FoundFields left rest) → FoundFields bytes rest
    by None g h again = record { fields = []; text = []; parts = (let same : bytes ≡ rest = cc in same); is = refl }
    by (Some start) g h again =
        let a = bind_some (past_field start) (past_fields n) rest h in
        let gap = gap_sound bytes start g in
        let f = field_found start a.0 a.1 in
        let more = again a.0 a.2 in
        let inner : List ℕ = f.text ++ more.text in
        record {
          fields = f.field ∷ more.fields;
          text = gap.gap ++ inner;
          parts = gap.parts ∙ ap (λ l. gap.gap ++ l) (f.parts ∙ ap (λ l. f.text ++ l) more.parts ∙ sym (append_assoc f.text more.text rest)) ∙ sym (append_assoc gap.gap inner rest);
          is = record {
            front = gap.gap;
            back = inner;
            parts = refl;
            first = gap.is;
            second = record { front = f.text; back = more.text; parts = refl; first = f.is; second = more.is };
          };
        }

-- ---- the parameters

all_fields_past : (fields : List Field) (inner more : List ℕ) → Separated Gap IdField fields inner → past_list (inner ++ 41 ∷ more) ≡ Some more
all_fields_past [] inner more q = absurd q
all_fields_past (field ∷ fields) inner more q =
    let rest : List ℕ = q.back ++ 41 ∷ more in
    let whole : inner ++ 41 ∷ more ≡ q.front ++ rest = ap (λ l. l ++ 41 ∷ more) q.parts ∙ append_assoc q.front q.back (41 ∷ more) in
    let k = field_past field q.front rest q.first in
    let other : first_is 41 (q.front ++ rest) ≡ false = ap (first_is 41) (first_cons 34 (q.front ++ rest) k.1) in
    ap past_list whole
    ∙ ap (λ (t : Bool). cond t (Some (drop 1 (q.front ++ rest))) (past_all_fields (q.front ++ rest) >>= past_byte 41)) other
    ∙ ap (λ o. (o >>= (λ r. past_fields (suc (length r)) r)) >>= past_byte 41) k.0
    ∙ ap (λ o. o >>= past_byte 41) (fields_past (suc (length rest)) fields q.back more q.second (omega arith))

abbrev list_or : Bool → List ℕ → Option (List ℕ)
list_or opens bytes = cond opens (past_list (drop 1 bytes)) (past_keyword (codes "NIL") bytes)

parameters_past : (text rest : List ℕ) → IdParameters text → (past_parameters (text ++ rest) ≡ Some rest) × Stops is_space (text ++ rest)
parameters_past text rest (inl h) = (
  ap (λ (t : Bool). list_or t (text ++ rest)) (nil_first 40 refl (refl, (refl, (refl, tt))) text rest h) ∙ past_again (codes "NIL") text rest h,
  first_stops (text ++ rest) (nil_first 32 refl (refl, (refl, (refl, tt))) text rest h),
)
parameters_past text rest (inr (inl q)) =
    let p = paren_text (Exactly []) text q in
    let whole : text ≡ 40 ∷ 41 ∷ [] = p.1 ∙ ap (λ l. 40 ∷ (l ++ 41 ∷ [])) p.2 in
    (ap (λ l. past_parameters (l ++ rest)) whole, subst (λ l. Stops is_space (l ++ rest)) (sym whole) refl)
parameters_past text rest (inr (inr (fields, q))) =
    let p = paren_text (Separated Gap IdField fields) text q in
    let whole : text ++ rest ≡ 40 ∷ (p.0 ++ 41 ∷ rest) = ap (λ l. l ++ rest) p.1 ∙ ap (λ l. 40 ∷ l) (append_assoc p.0 (41 ∷ []) rest) in
    (ap past_parameters whole ∙ all_fields_past fields p.0 rest p.2, subst (Stops is_space) (sym whole) refl)

record FoundParameters (bytes rest : List ℕ) : Type 0 where
  text : List ℕ
  parts : bytes ≡ text ++ rest
  is : IdParameters text

list_found : (start rest : List ℕ) → past_list start ≡ Some rest → FoundParameters (40 ∷ start) rest
list_found start rest e =
    elim (either (first_is 41 start) (Some (drop 1 start)) (past_all_fields start >>= past_byte 41) (Some rest) e) [
      | inl q ↦
          let left : drop 1 start ≡ rest = cc in
          let none : List ℕ = [] in
          record {
            text = 40 ∷ (none ++ 41 ∷ []);
            parts = ap (λ l. 40 ∷ l) (first_cons 41 start q.0 ∙ ap (λ l. 41 ∷ l) left);
            is = inr (inl (text_paren (Exactly []) none refl));
          }
      | inr q ↦
          let a = bind_some (past_all_fields start) (past_byte 41) rest q.1 in
          let b = bind_some (past_field start) (λ r. past_fields (suc (length r)) r) a.0 a.1 in
          let f = field_found start b.0 b.1 in
          let more = fields_found (suc (length b.0)) b.0 a.0 b.2 in
          let end = byte_sound 41 a.0 rest a.2 in
          let inner : List ℕ = f.text ++ more.text in
          record {
            text = 40 ∷ (inner ++ 41 ∷ []);
            parts = ap (λ l. 40 ∷ l) (f.parts ∙ ap (λ l. f.text ++ l) (more.parts ∙ ap (λ l. more.text ++ l) end) ∙ sym (append_assoc f.text more.text (41 ∷ rest)) ∙ sym (append_assoc inner (41 ∷ []) rest));
            is = inr (inr (
              f.field ∷ more.fields,
              text_paren (Separated Gap IdField (f.field ∷ more.fields)) inner (record { front = f.text; back = more.text; parts = refl; first = f.is; second = more.is }),
            ));
          }
    ]

parameters_found : (bytes rest : List ℕ) → past_parameters bytes ≡ Some rest → FoundParameters bytes rest
parameters_found [] rest e =
    let f = past_sound (codes "NIL") [] rest e in
    record { text = f.text; parts = f.parts; is = inl f.is }
parameters_found (x ∷ xs) rest e =
    elim (either (first_is 40 (x ∷ xs)) (past_list xs) (past_keyword (codes "NIL") (x ∷ xs)) (Some rest) e) [
      | inl q ↦
          let f = list_found xs rest q.1 in
          record { text = f.text; parts = first_cons 40 (x ∷ xs) q.0 ∙ f.parts; is = f.is }
      | inr q ↦ let f = past_sound (codes "NIL") (x ∷ xs) rest q.1 in record { text = f.text; parts = f.parts; is = inl f.is }
    ]

-- ---- the whole

abbrev pub IdIs : List ℕ → Type 0
IdIs = Joined Gap (Joined IdParameters Spaces)

id_ends : List ℕ → Option Command
id_ends rest = if_end say.Id rest

pub id_again : (rest : List ℕ) → IdIs rest → id_at rest ≡ Some say.Id
unfolding id_ends
id_again rest q =
    let p = q.second in
    let k = parameters_past p.front p.back p.first in
    ap (λ o. o >>= (λ start. past_parameters start >>= id_ends)) (past _ rest q (subst (Stops is_space) (sym p.parts) k.1))
    ∙ ap (λ l. past_parameters l >>= id_ends) p.parts
    ∙ ap (λ o. o >>= id_ends) k.0
    ∙ end_again say.Id p.back p.second

pub id_sound : (c : Command) (rest : List ℕ) → id_at rest ≡ Some c → (say.Id ≡ c) × IdIs rest
unfolding id_ends
id_sound c rest e =
    let a = bind_some (past_gap rest) (λ start. past_parameters start >>= id_ends) c e in
    let b = bind_some (past_parameters a.0) id_ends c a.2 in
    let d = end_sound say.Id c b.0 b.2 in
    let g = gap_sound rest a.0 a.1 in
    let f = parameters_found a.0 b.0 b.1 in (
      d.0,
      record {
        front = g.gap;
        back = a.0;
        parts = g.parts;
        first = g.is;
        second = record { front = f.text; back = b.0; parts = f.parts; first = f.is; second = d.1 };
      },
    )
