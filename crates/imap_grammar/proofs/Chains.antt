-- Parts of a command, one after the other: gaps, names, sets, and the end of the line.
use Rattle.std.proofs.Common.{◌≡◌, ℕ, Bool, false, cond, List, [], ◌++◌, refl, ap, sym, subst, ◌∙◌, append_assoc}
use Rattle.std.specs.Prelude.{Some, None, ◌==◌}
use Rattle.envelope.proofs.Begins.{gap_stops}
use Rattle.envelope.proofs.Sound.{guard_some}
use Rattle.envelope.proofs.Tokens.{Stops}
use Rattle.envelope.specs.Bytes.{is_space, is_not_space}
use Rattle.envelope.specs.Grammar.{Spaces, Gap, Exactly, Joined}
use Rattle.imap_grammar.specs.Bytes.{is_atom}
use Rattle.imap_grammar.specs.Grammar.{Name, StringOf, SetIs}
use Rattle.imap_grammar.specs.Reading.{word_at, string_at, if_end}
use Rattle.imap_grammar.specs.Front.{past_gap, is_blank}
use Rattle.imap_grammar.specs.Sets.{set_at}
use Rattle.imap_grammar.specs.declared.set.SeqRange.{SeqRange}
use Rattle.imap_grammar.proofs.SetLaw.{set_again, set_bytes}
use Rattle.imap_grammar.proofs.Tokens.{excludes, not_true, starts, stops_class, gap_again, string_again, string_starts, word_again}
use Rattle.imap_grammar.proofs.Parens.{blank_again, blank_sound}

-- ---- chains of rules

pub regroup : (P Q R : List ℕ → Type 0) (text : List ℕ) → Joined (Joined P Q) R text → Joined P (Joined Q R) text
regroup P Q R text q = record {
  front = q.first.front;
  back = q.first.back ++ q.back;
  parts = q.parts ∙ ap (λ l. l ++ q.back) q.first.parts ∙ append_assoc q.first.front q.first.back q.back;
  first = q.first.first;
  second = record { front = q.first.back; back = q.back; parts = refl; first = q.first.second; second = q.second };
}

pub ungroup : (P Q R : List ℕ → Type 0) (text : List ℕ) → Joined P (Joined Q R) text → Joined (Joined P Q) R text
ungroup P Q R text q = record {
  front = q.front ++ q.second.front;
  back = q.second.back;
  parts = q.parts ∙ ap (λ l. q.front ++ l) q.second.parts ∙ sym (append_assoc q.front q.second.front q.second.back);
  first = record { front = q.front; back = q.second.front; parts = refl; first = q.first; second = q.second.first };
  second = q.second.second;
}

pub behind : (P Q R : List ℕ → Type 0) → ((l : List ℕ) → Q l → R l) → (text : List ℕ) → Joined P Q text → Joined P R text
behind P Q R f text q = record { front = q.front; back = q.back; parts = q.parts; first = q.first; second = f q.back q.second }

pub inside : {A : Type 0} (y z : A) → Some y ≡ Some z → y ≡ z
inside y z h = cc

-- what follows a gap
pub past : (P : List ℕ → Type 0) (bytes : List ℕ) → (q : Joined Gap P bytes) → Stops is_space q.back → past_gap bytes ≡ Some q.back
past P bytes q s = ap past_gap q.parts ∙ gap_again q.front q.back q.first s

pub gap_first : (P : List ℕ → Type 0) (bytes : List ℕ) → Joined Gap P bytes → Stops is_not_space bytes
gap_first P bytes q = gap_stops q.front q.back bytes q.parts q.first

-- ---- nothing more

pub end_again : {A : Type 0} (x : A) (rest : List ℕ) → Spaces rest → if_end x rest ≡ Some x
end_again x rest s = ap (λ (t : Bool). cond t (Some x) None) (blank_again rest s)

pub end_sound : {A : Type 0} (x y : A) (rest : List ℕ) → if_end x rest ≡ Some y → (x ≡ y) × Spaces rest
end_sound x y rest e = let k = guard_some (is_blank rest) x y e in (k.1, blank_sound rest k.0)

pub nothing_again : {A : Type 0} (x : A) (rest : List ℕ) → Joined (Exactly []) Spaces rest → if_end x rest ≡ Some x
nothing_again x rest q = ap (if_end x) (q.parts ∙ ap (λ l. l ++ q.back) q.first) ∙ end_again x q.back q.second

-- ---- names

-- a string of a class with neither quotes nor spaces
pub string_read : (class : ℕ → Bool) → class 34 ≡ false → class 32 ≡ false → (name : List ℕ) (P : List ℕ → Type 0) (bytes : List ℕ) → (q : Joined (StringOf class name) P bytes) → Stops is_not_space q.back
    → (string_at class bytes ≡ Some (name, q.back)) × Stops is_space bytes
string_read class quote blank name P bytes q s = (
  ap (string_at class) q.parts ∙ string_again class name q.front q.back quote q.first (stops_class class blank q.back s),
  subst (Stops is_space) (sym q.parts) (string_starts class (λ b e. not_true (b == 32) (excludes class 32 blank b e)) name q.front q.back q.first),
)

pub name_read : (name : List ℕ) (P : List ℕ → Type 0) (bytes : List ℕ) → (q : Joined (Name name) P bytes) → Stops is_not_space q.back
    → (string_at is_atom bytes ≡ Some (name, q.back)) × Stops is_space bytes
name_read = string_read is_atom refl refl

-- ---- sets

pub set_read : (s : List SeqRange) (P : List ℕ → Type 0) (bytes : List ℕ) → (q : Joined (SetIs s) P bytes) → Stops is_not_space q.back
    → (word_at bytes ≡ (q.front, q.back)) × (set_at q.front ≡ Some s) × Stops is_space bytes
set_read s P bytes q t =
    let b = set_bytes s q.front q.first in (
      ap word_at q.parts ∙ word_again q.front q.back b.1 t,
      set_again s q.front q.first,
      subst (Stops is_space) (sym q.parts) (starts is_not_space (λ x e. not_true (is_space x) e) q.front q.back b),
    )
