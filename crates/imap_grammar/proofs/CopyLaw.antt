-- COPY and MOVE: what is spelled is read, and what is read is spelled.
use Rattle.std.proofs.Common.{◌≡◌, ℕ, Bool, List, refl, ap, ◌∙◌}
use Rattle.std.specs.Prelude.{Option, Some}
use Rattle.envelope.proofs.Sound.{bind_some}
use Rattle.envelope.specs.Grammar.{Spaces, Gap, Joined}
use Rattle.envelope.specs.Reading.{◌>>=◌}
use Rattle.imap_grammar.specs.Bytes.{is_atom}
use Rattle.imap_grammar.specs.Grammar.{ArgumentsOf, Name, SetIs}
use Rattle.imap_grammar.specs.Reading.{word_at, string_at, if_end, copy_at}
use Rattle.imap_grammar.specs.Front.{past_gap}
use Rattle.imap_grammar.specs.Sets.{set_at}
use Rattle.imap_grammar.specs.declared.set.SeqRange.{SeqRange}
use Rattle.imap_grammar.specs.declared.command.CopyMessages.{CopyMessages}
use Rattle.imap_grammar.specs.declared.command.Command.{Command}
use Rattle.imap_grammar.specs.declared.command.Command.TheVariants as say
use Rattle.imap_grammar.proofs.Chains.{regroup, ungroup, behind, past, gap_first, end_again, end_sound, name_read, set_read}
use Rattle.imap_grammar.proofs.Tokens.{blank_first, gap_sound, word_parts, string_sound}
use Rattle.imap_grammar.proofs.SetLaw.{set_sound}

abbrev pub copied : (by_uid moves : Bool) → List SeqRange → List ℕ → CopyMessages
copied by_uid moves set name = record { by_uid = by_uid; moves = moves; set = set; name = name }

copy_ends : (by_uid moves : Bool) → List SeqRange → List ℕ × List ℕ → Option Command
copy_ends by_uid moves set read = if_end (say.Copy (copied by_uid moves set read.0)) read.1

copy_next : (by_uid moves : Bool) → List ℕ × List ℕ → Option Command
copy_next by_uid moves word = set_at word.0 >>= (λ set. past_gap word.1 >>= (λ rest. string_at is_atom rest >>= copy_ends by_uid moves set))

abbrev pub CopyIs : CopyMessages → List ℕ → Type 0
CopyIs m = Joined Gap (Joined (SetIs m.set) (Joined Gap (Joined (Name m.name) Spaces)))

pub copy_again : (m : CopyMessages) (rest : List ℕ) → CopyIs m rest → copy_at m.by_uid m.moves rest ≡ Some (say.Copy m)
unfolding copy_ends copy_next
copy_again m rest q =
    let g = q.second.second in
    let p = g.second in
    let k = set_read m.set _ q.back q.second (gap_first _ q.second.back g) in
    let n = name_read m.name Spaces g.back p (blank_first p.back p.second) in
    ap (λ o. o >>= (λ start. copy_next m.by_uid m.moves (word_at start))) (past _ rest q k.2)
    ∙ ap (copy_next m.by_uid m.moves) k.0
    ∙ ap (λ o. o >>= (λ set. past_gap q.second.back >>= (λ r. string_at is_atom r >>= copy_ends m.by_uid m.moves set))) k.1
    ∙ ap (λ o. o >>= (λ r. string_at is_atom r >>= copy_ends m.by_uid m.moves m.set)) (past _ q.second.back g n.1)
    ∙ ap (λ o. o >>= copy_ends m.by_uid m.moves m.set) n.0
    ∙ end_again (say.Copy m) p.back p.second

pub copy_sound : (by_uid moves : Bool) (c : Command) (rest : List ℕ) → copy_at by_uid moves rest ≡ Some c
    → (set : List SeqRange) × (name : List ℕ) × (say.Copy (copied by_uid moves set name) ≡ c) × CopyIs (copied by_uid moves set name) rest
unfolding copy_ends copy_next
copy_sound by_uid moves c rest e =
    let a = bind_some (past_gap rest) (λ start. copy_next by_uid moves (word_at start)) c e in
    let w = word_at a.0 in
    let b = bind_some (set_at w.0) (λ set. past_gap w.1 >>= (λ r. string_at is_atom r >>= copy_ends by_uid moves set)) c a.2 in
    let d = bind_some (past_gap w.1) (λ r. string_at is_atom r >>= copy_ends by_uid moves b.0) c b.2 in
    let f = bind_some (string_at is_atom d.0) (copy_ends by_uid moves b.0) c d.2 in
    let h = end_sound (say.Copy (copied by_uid moves b.0 f.0.0)) c f.0.1 f.2 in
    let g = gap_sound rest a.0 a.1 in
    let i = gap_sound w.1 d.0 d.1 in
    let s = string_sound is_atom refl d.0 f.0.0 f.0.1 f.1 in (
      b.0,
      f.0.0,
      h.0,
      record {
        front = g.gap;
        back = a.0;
        parts = g.parts;
        first = g.is;
        second = record {
          front = w.0;
          back = w.1;
          parts = word_parts a.0;
          first = set_sound b.0 w.0 b.1;
          second = record {
            front = i.gap;
            back = d.0;
            parts = i.parts;
            first = i.is;
            second = record { front = s.text; back = f.0.1; parts = s.parts; first = s.is; second = h.1 };
          };
        };
      },
    )

-- the arguments in their own order, and what is behind the last
pub copy_regroup : (m : CopyMessages) (rest : List ℕ) → Joined (ArgumentsOf (say.Copy m)) Spaces rest → CopyIs m rest
copy_regroup m rest q =
    behind Gap _ _ (λ l p. behind (SetIs m.set) _ _ (λ l p. regroup Gap (Name m.name) Spaces l p) l (regroup _ _ Spaces l p)) rest (regroup _ _ Spaces rest q)

pub copy_ungroup : (m : CopyMessages) (rest : List ℕ) → CopyIs m rest → Joined (ArgumentsOf (say.Copy m)) Spaces rest
copy_ungroup m rest q =
    ungroup _ _ Spaces rest (behind Gap _ _ (λ l p. ungroup _ _ Spaces l (behind (SetIs m.set) _ _ (λ l p. ungroup Gap (Name m.name) Spaces l p) l p)) rest q)
