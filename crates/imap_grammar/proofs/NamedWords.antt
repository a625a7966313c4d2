-- What follows ENABLE and AUTHENTICATE: what is spelled is read, and what is read is spelled.
use Rattle.std.proofs.Common.{◌≡◌, ℕ, ◌<◌, Bool, true, false, cond, List, [], ◌∷◌, ◌++◌, length, refl, ap, sym, subst, ◌∙◌, arith, inl, inr}
use Rattle.std.specs.Prelude.{Option, Some, None, is_some, ◌==◌, ◌&&◌, not}
use Rattle.std.specs.List.{list_all}
use Rattle.envelope.proofs.Sound.{bind_some, guard_some, either}
use Rattle.envelope.proofs.Tokens.{Stops}
use Rattle.envelope.proofs.Words.{both_true, is_both}
use Rattle.envelope.specs.Bytes.{is_space, is_not_space}
use Rattle.envelope.specs.Grammar.{Many, Some1, Spaces, Gap, Joined}
use Rattle.envelope.specs.Reading.{◌>>=◌, words}
use Rattle.imap_grammar.specs.Bytes.{is_atom, is_base64}
use Rattle.imap_grammar.specs.Front.{past_gap, is_blank}
use Rattle.imap_grammar.specs.Grammar.{ArgumentsOf, CapabilityNames, InitialIs, Separated, WordOf}
use Rattle.imap_grammar.specs.Items.{is_word_of}
use Rattle.imap_grammar.specs.Reading.{are_atoms, authenticate_at, enable_at, if_end, initial_at, word_at, word_if}
use Rattle.imap_grammar.specs.declared.command.Authenticate.{Authenticate}
use Rattle.imap_grammar.specs.declared.command.Command.{Command}
use Rattle.imap_grammar.specs.declared.command.Command.TheVariants as say
use Rattle.imap_grammar.proofs.Chains.{regroup, ungroup, behind, inside, past, end_again, end_sound}
use Rattle.imap_grammar.proofs.Fields.{word_of_again, word_of_sound}
use Rattle.imap_grammar.proofs.ListLaw.{none_empty, some_parts}
use Rattle.imap_grammar.proofs.Parens.{blank_again, blank_sound, separated_starts}
use Rattle.imap_grammar.proofs.Separated.{words_again, words_sound}
use Rattle.imap_grammar.proofs.Tokens.{excludes, many_map, not_true, starts, blank_first, spaced_first, gap_sound, word_again, word_parts}

-- ---- a word of a class

word_if_again : (p : ℕ → Bool) (word text : List ℕ) → WordOf p word text → word_if p text ≡ Some word
word_if_again p word text h = ap (λ (t : Bool). cond t (Some text) None) (word_of_again p text h.1) ∙ ap (λ l. Some l) h.0

word_if_sound : (p : ℕ → Bool) (word text : List ℕ) → word_if p text ≡ Some word → WordOf p word text
word_if_sound p word text e = let k = guard_some (is_word_of p text) text word e in (k.1, word_of_sound p text k.0)

-- a class without a space
word_bare : (p : ℕ → Bool) → p 32 ≡ false → (word text : List ℕ) → WordOf p word text → Some1 is_not_space text
word_bare p out word text h = (h.1.0, many_map p is_not_space (λ b e. excludes p 32 out b e) text h.1.1)

word_starts : (p : ℕ → Bool) → p 32 ≡ false → (word text rest : List ℕ) → WordOf p word text → Stops is_space (text ++ rest)
word_starts p out word text rest h = starts is_not_space (λ b e. not_true (is_space b) e) text rest (word_bare p out word text h)

-- ---- ENABLE

all_atoms : (ws : List (List ℕ)) → list_all (λ w. is_some (word_if is_atom w)) ws ≡ true → list_all (is_word_of is_atom) ws ≡ true
all_atoms [] e = refl
all_atoms (w ∷ ws) e =
    let b = both_true (is_some (word_if is_atom w)) (list_all (λ v. is_some (word_if is_atom v)) ws) e in
    is_both (is_word_of is_atom w) (list_all (is_word_of is_atom) ws) (by (is_word_of is_atom w) b.0) (all_atoms ws b.1)
  where
    by : (t : Bool) → is_some (cond t (Some w) None) ≡ true → t ≡ true
    by true k = refl
    by false k = absurd cc

atoms_all : (ws : List (List ℕ)) → list_all (is_word_of is_atom) ws ≡ true → list_all (λ w. is_some (word_if is_atom w)) ws ≡ true
atoms_all [] e = refl
atoms_all (w ∷ ws) e =
    let b = both_true (is_word_of is_atom w) (list_all (is_word_of is_atom) ws) e in
    ap (λ (t : Bool). is_some (cond t (Some w) None) && list_all (λ v. is_some (word_if is_atom v)) ws) b.0 ∙ atoms_all ws b.1

abbrev pub EnableIs : List ℕ → Type 0
EnableIs = Joined Gap (Joined CapabilityNames Spaces)

enable_made : List ℕ → Option Command
enable_made start = cond (are_atoms start) (Some say.Enable) None

-- names and the spaces behind them
names_read : (names : List (List ℕ)) (text sp : List ℕ) → Separated Gap (WordOf is_atom) names text → Spaces sp → (are_atoms (text ++ sp) ≡ true) × Stops is_space (text ++ sp)
names_read [] text sp q s = absurd q
names_read (x ∷ xs) text sp q s =
    let k = words_again (word_if is_atom) (WordOf is_atom) (word_if_again is_atom) (word_bare is_atom refl) x xs text sp q s in
    let ws = words (text ++ sp) in (
      is_both (list_all (is_word_of is_atom) ws) (not (length ws == 0)) (all_atoms ws k.all) (some_parts (word_if is_atom) ws x xs k.are),
      separated_starts (WordOf is_atom) (word_bare is_atom refl) x xs text sp q,
    )

pub enable_again : (rest : List ℕ) → EnableIs rest → enable_at rest ≡ Some say.Enable
unfolding enable_made
enable_again rest q =
    let n = q.second in
    let k = names_read n.first.0 n.front n.back n.first.1 n.second in
    ap (λ o. o >>= enable_made) (past _ rest q (subst (Stops is_space) (sym n.parts) k.1))
    ∙ ap enable_made n.parts
    ∙ ap (λ (t : Bool). cond t (Some say.Enable) None) k.0

pub enable_sound : (c : Command) (rest : List ℕ) → enable_at rest ≡ Some c → (say.Enable ≡ c) × EnableIs rest
unfolding enable_made
enable_sound c rest e =
    let a = bind_some (past_gap rest) enable_made c e in
    let k = guard_some (are_atoms a.0) say.Enable c a.2 in
    let g = gap_sound rest a.0 a.1 in
    let ws = words a.0 in
    let b = both_true (list_all (is_word_of is_atom) ws) (not (length ws == 0)) k.0 in
    let w = words_sound (word_if is_atom) (WordOf is_atom) (word_if_sound is_atom) a.0 g.stops (none_empty a.0 b.1) (atoms_all ws b.0) in (
      k.1,
      record {
        front = g.gap;
        back = a.0;
        parts = g.parts;
        first = g.is;
        second = record { front = w.text; back = w.spaces; parts = w.parts; first = (w.found.first ∷ w.found.others, w.found.is); second = w.blank };
      },
    )

-- ---- AUTHENTICATE

abbrev pub AuthenticateIs : Authenticate → List ℕ → Type 0
AuthenticateIs a = Joined Gap (Joined (WordOf is_atom a.mechanism) (Joined (InitialIs a.initial) Spaces))

pub authenticate_regroup : (a : Authenticate) (rest : List ℕ) → Joined (ArgumentsOf (say.Authenticate a)) Spaces rest → AuthenticateIs a rest
authenticate_regroup a rest q =
    behind Gap _ _ (λ l p. regroup (WordOf is_atom a.mechanism) (InitialIs a.initial) Spaces l p) rest (regroup _ _ Spaces rest q)

pub authenticate_ungroup : (a : Authenticate) (rest : List ℕ) → AuthenticateIs a rest → Joined (ArgumentsOf (say.Authenticate a)) Spaces rest
authenticate_ungroup a rest q =
    ungroup _ _ Spaces rest (behind Gap _ _ (λ l p. ungroup (WordOf is_atom a.mechanism) (InitialIs a.initial) Spaces l p) rest q)

response_ends : List ℕ × List ℕ → List ℕ → Option (Option (List ℕ))
response_ends cut word = if_end (Some word) cut.1

response_at : List ℕ × List ℕ → Option (Option (List ℕ))
response_at cut = word_if is_base64 cut.0 >>= response_ends cut

some_initial : List ℕ → Option (Option (List ℕ))
some_initial bytes = past_gap bytes >>= (λ start. response_at (word_at start))

-- a gap and a word are no spaces alone
word_unblank : (text rest : List ℕ) → 0 < length text → Stops is_space (text ++ rest) → is_blank (text ++ rest) ≡ false
word_unblank [] rest n s = absurd (omega (arith, n))
word_unblank (x ∷ xs) rest n s = ap (λ (t : Bool). t && list_all is_space (xs ++ rest)) s

gap_unblank : (gap rest : List ℕ) → Many is_space gap → is_blank rest ≡ false → is_blank (gap ++ rest) ≡ false
gap_unblank [] rest g n = n
gap_unblank (x ∷ xs) rest g n = ap (λ (t : Bool). t && list_all is_space (xs ++ rest)) g.0 ∙ gap_unblank xs rest g.1 n

initial_again : (i : Option (List ℕ)) (bytes : List ℕ) → Joined (InitialIs i) Spaces bytes → (initial_at bytes ≡ Some i) × Stops is_not_space bytes
unfolding response_ends response_at some_initial
initial_again None bytes q =
    let whole : bytes ≡ q.back = q.parts ∙ ap (λ l. l ++ q.back) q.first in (
      ap (λ (t : Bool). cond t (Some None) (some_initial bytes)) (ap is_blank whole ∙ blank_again q.back q.second),
      subst (Stops is_not_space) (sym whole) (blank_first q.back q.second),
    )
initial_again (Some word) bytes q =
    let r = regroup Gap (WordOf is_base64 word) Spaces bytes q in
    let w = r.second in
    let s = word_starts is_base64 refl word w.front w.back w.first in
    let blank : is_blank bytes ≡ false =
    ap is_blank (r.parts ∙ ap (λ l. r.front ++ l) w.parts) ∙ gap_unblank r.front (w.front ++ w.back) r.first.1 (word_unblank w.front w.back w.first.1.0 s) in (
      ap (λ (t : Bool). cond t (Some None) (some_initial bytes)) blank
          ∙ ap (λ o. o >>= (λ start. response_at (word_at start))) (past _ bytes r (subst (Stops is_space) (sym w.parts) s))
          ∙ ap response_at (ap word_at w.parts ∙ word_again w.front w.back (word_bare is_base64 refl word w.front w.first).1 (blank_first w.back w.second))
          ∙ ap (λ o. o >>= response_ends (w.front, w.back)) (word_if_again is_base64 word w.front w.first)
          ∙ end_again (Some word) w.back w.second,
      subst (Stops is_not_space) (sym r.parts) (spaced_first r.front r.back r.first),
    )

initial_sound : (i : Option (List ℕ)) (bytes : List ℕ) → initial_at bytes ≡ Some i → Joined (InitialIs i) Spaces bytes
unfolding response_ends response_at some_initial
initial_sound i bytes e =
    elim (either (is_blank bytes) (Some None) (some_initial bytes) (Some i) e) [
      | inl q ↦
          let none : Option (List ℕ) = None in
          let is : none ≡ i = inside none i q.1 in
          subst (λ o. Joined (InitialIs o) Spaces bytes) is (record { front = []; back = bytes; parts = refl; first = refl; second = blank_sound bytes q.0 })
      | inr q ↦
          let a = bind_some (past_gap bytes) (λ start. response_at (word_at start)) i q.1 in
          let w = word_at a.0 in
          let b = bind_some (word_if is_base64 w.0) (response_ends w) i a.2 in
          let d = end_sound (Some b.0) i w.1 b.2 in
          let g = gap_sound bytes a.0 a.1 in
          subst (λ o. Joined (InitialIs o) Spaces bytes) d.0
          (ungroup Gap (WordOf is_base64 b.0) Spaces bytes (record {
            front = g.gap;
            back = a.0;
            parts = g.parts;
            first = g.is;
            second = record { front = w.0; back = w.1; parts = word_parts a.0; first = word_if_sound is_base64 b.0 w.0 b.1; second = d.1 };
          }))
    ]

authenticate_made : List ℕ → Option (List ℕ) → Option Command
authenticate_made mechanism initial = let a : Authenticate = record { mechanism = mechanism; initial = initial } in Some (say.Authenticate a)

authenticate_next : List ℕ × List ℕ → Option Command
authenticate_next cut = word_if is_atom cut.0 >>= (λ mechanism. initial_at cut.1 >>= authenticate_made mechanism)

pub authenticate_again : (a : Authenticate) (rest : List ℕ) → AuthenticateIs a rest → authenticate_at rest ≡ Some (say.Authenticate a)
unfolding authenticate_made authenticate_next
authenticate_again a rest q =
    let m = q.second in
    let i = initial_again a.initial m.back m.second in
    ap (λ o. o >>= (λ start. authenticate_next (word_at start))) (past _ rest q (subst (Stops is_space) (sym m.parts) (word_starts is_atom refl a.mechanism m.front m.back m.first)))
    ∙ ap authenticate_next (ap word_at m.parts ∙ word_again m.front m.back (word_bare is_atom refl a.mechanism m.front m.first).1 i.1)
    ∙ ap (λ o. o >>= (λ mechanism. initial_at m.back >>= authenticate_made mechanism)) (word_if_again is_atom a.mechanism m.front m.first)
    ∙ ap (λ o. o >>= authenticate_made a.mechanism) i.0

pub authenticate_sound : (c : Command) (rest : List ℕ) → authenticate_at rest ≡ Some c → (a : Authenticate) × (say.Authenticate a ≡ c) × AuthenticateIs a rest
unfolding authenticate_made authenticate_next
authenticate_sound c rest e =
    let a = bind_some (past_gap rest) (λ start. authenticate_next (word_at start)) c e in
    let w = word_at a.0 in
    let b = bind_some (word_if is_atom w.0) (λ mechanism. initial_at w.1 >>= authenticate_made mechanism) c a.2 in
    let d = bind_some (initial_at w.1) (authenticate_made b.0) c b.2 in
    let made : Authenticate = record { mechanism = b.0; initial = d.0 } in
    let g = gap_sound rest a.0 a.1 in (
      made,
      inside (say.Authenticate made) c d.2,
      record {
        front = g.gap;
        back = a.0;
        parts = g.parts;
        first = g.is;
        second = record { front = w.0; back = w.1; parts = word_parts a.0; first = word_if_sound is_atom b.0 w.0 b.1; second = initial_sound d.0 w.1 d.1 };
      },
    )
