-- A stream of lines that grows by a byte.
use Rattle.std.proofs.Common.{◌≡◌, ℕ, ◌+◌, ◌-◌, ◌<◌, ◌≤◌, List, [], ◌∷◌, ◌++◌, length, take, refl, sym, ◌∙◌, ap, arith, append_assoc, Bool, true, false, zero, suc, subst, get_or, append-nil, drop}
use Rattle.std.specs.Prelude.{Some, None, if◌then◌else◌}
use Rattle.std.proofs.lemmas.List.{same_from_push, take_all, length_push, take_at, length-take}
use Rattle.std.proofs.Math.Seq.{take-suc, take-append-add}
use Rattle.line_io.specs.Wire.{EndsInCr, IsCut, wire_lines, wire_rest}
use Rattle.line_io.specs.inner.WireLaws.{cut_more, cut_end, reading_cut, lines_are, wire_more}
use Rattle.line_io.proofs.Appended.{take_two_of}
use Rattle.line_io.specs.Cutting.{LineCutter, StandsFor, EndsLine, Tells}
use Rattle.line_io.specs.declared.What.{What}
use Rattle.line_io.specs.declared.What.TheVariants.{NeedMore, Line, TooLong}

-- the cutter has taken this stream, which has these lines and this rest
pub record StandsAt (cutter : LineCutter) (stream : List ℕ) (lines : List (List ℕ)) (rest : List ℕ) : Type 0 where
  pub cut : IsCut stream lines rest
  pub kept : cutter.kept ≡ take cutter.max rest
  pub cr : cutter.after_cr ≡ true → EndsInCr rest
  pub no_cr : cutter.after_cr ≡ false → EndsInCr rest → ⊥

pub at_stands : (c : LineCutter) (stream : List ℕ) → StandsFor c stream → StandsAt c stream (wire_lines stream) (wire_rest stream)
at_stands c stream s = record { cut = reading_cut stream; kept = s.kept; cr = s.cr; no_cr = s.no_cr }

pub stands_at : (c : LineCutter) (stream : List ℕ) (lines : List (List ℕ)) (rest : List ℕ) → StandsAt c stream lines rest → StandsFor c stream
stands_at c stream lines rest at =
    let e : rest ≡ wire_rest stream = sym (lines_are stream lines rest at.cut).1 in
    record {
      kept = at.kept ∙ ap (λ t. take c.max t) e;
      cr = subst (λ (t : List ℕ). c.after_cr ≡ true → EndsInCr t) e at.cr;
      no_cr = subst (λ (t : List ℕ). c.after_cr ≡ false → EndsInCr t → ⊥) e at.no_cr;
    }

-- what is kept of one byte more
pub take_kept : (max : ℕ) (rest : List ℕ) (byte : ℕ) → take max (take max rest ++ byte ∷ []) ≡ take max (rest ++ byte ∷ [])
take_kept zero rest byte = refl
take_kept (suc max) [] byte = refl
take_kept (suc max) (x ∷ rest) byte = ap (λ t. x ∷ t) (take_kept max rest byte)

-- the cutter after a byte that ends no line
at_more : (old new : LineCutter) (stream : List ℕ) (lines : List (List ℕ)) (rest : List ℕ) (byte : ℕ) →
    StandsAt old stream lines rest →
    new.max ≡ old.max →
    new.kept ≡ take old.max (old.kept ++ byte ∷ []) →
    (new.after_cr ≡ true → byte ≡ 13) →
    (new.after_cr ≡ false → byte ≡ 13 → ⊥) →
    (byte ≡ 10 → old.after_cr ≡ true → ⊥) →
    StandsAt new (stream ++ byte ∷ []) lines (rest ++ byte ∷ [])
at_more old new stream lines rest byte at m k cr no_cr not_end = record {
  cut = cut_more stream lines rest byte at.cut (λ b w. elim_bool old.after_cr (λ t. not_end b t) (λ f. at.no_cr f w));
  kept = k ∙ ap (λ t. take old.max (t ++ byte ∷ [])) at.kept ∙ take_kept old.max rest byte ∙ ap (λ t. take t (rest ++ byte ∷ [])) (sym m);
  cr = λ t. (rest, ap (λ b. rest ++ b ∷ []) (cr t));
  no_cr = λ f w. no_cr f (same_from_push rest w.0 byte 13 w.1).1;
}
  where
    elim_bool : (b : Bool) → (b ≡ true → ⊥) → (b ≡ false → ⊥) → ⊥
    elim_bool true t f = t refl
    elim_bool false t f = f refl

-- a cutter that begins a line
pub stands_new : (c : LineCutter) (stream : List ℕ) (lines : List (List ℕ)) → IsCut stream lines [] → c.kept ≡ [] → c.after_cr ≡ false → StandsAt c stream lines []
stands_new c stream lines h k f = record {
  cut = h;
  kept = k ∙ sym (none c.max);
  cr = λ t. absurd (let e : false ≡ true = sym f ∙ t in cc);
  no_cr = λ _ w. uncut_end w.0 w.1;
}
  where
    none : (n : ℕ) → take {A = ℕ} n [] ≡ []
    none zero = refl
    none (suc n) = refl

    uncut_end : (front : List ℕ) → [] ≡ front ++ 13 ∷ [] → ⊥
    uncut_end [] e = cc
    uncut_end (x ∷ front) e = cc

-- the line that ends at an LF after a CR, where what was kept is shorter than max
at_line : (old new : LineCutter) (stream : List ℕ) (lines : List (List ℕ)) (rest : List ℕ) (byte : ℕ) →
    StandsAt old stream lines rest → byte ≡ 10 → old.after_cr ≡ true → new.kept ≡ [] → new.after_cr ≡ false →
    length old.kept < old.max →
    (line : List ℕ) × StandsAt new (stream ++ byte ∷ []) (lines ++ line ∷ []) [] × (length line + 2 ≤ old.max) × (take (length old.kept - 1) old.kept ≡ line)
at_line old new stream lines rest byte at b t k f l =
    let w = at.cr t in
    let le : length (take old.max rest) < old.max = rw (← at.kept) l in
    let short : length rest < old.max = omega (arith, length-take old.max rest) in
    let all : old.kept ≡ w.0 ++ 13 ∷ [] = at.kept ∙ take_all old.max rest (omega arith) ∙ w.1 in
    let len : length rest ≡ length w.0 + 1 = ap length w.1 ∙ length_push w.0 13 in (
      w.0,
      stands_new new _ _ (rw b (cut_end stream lines rest w.0 at.cut w.1)) k f,
      omega arith,
      rw all (take_at w.0 (13 ∷ []) _ (omega (arith, length_push w.0 13))),
    )

-- the line that ends there, where max bytes were kept
at_long : (old new : LineCutter) (stream : List ℕ) (lines : List (List ℕ)) (rest : List ℕ) (byte : ℕ) →
    StandsAt old stream lines rest → byte ≡ 10 → old.after_cr ≡ true → new.kept ≡ [] → new.after_cr ≡ false →
    old.max ≤ length old.kept →
    (line : List ℕ) × StandsAt new (stream ++ byte ∷ []) (lines ++ line ∷ []) [] × (old.max < length line + 2)
at_long old new stream lines rest byte at b t k f l =
    let w = at.cr t in
    let le : old.max ≤ length (take old.max rest) = rw (← at.kept) l in
    let len : length rest ≡ length w.0 + 1 = ap length w.1 ∙ length_push w.0 13 in (
      w.0,
      stands_new new _ _ (rw b (cut_end stream lines rest w.0 at.cut w.1)) k f,
      omega (arith, length-take old.max rest),
    )

-- the fields of a cutter that has no line to give
pub fields : (max : ℕ) (bytes : List ℕ) (after_cr is_ready : Bool) (c : LineCutter) →
    record { max = max; kept = (if is_ready then [] else bytes); after_cr = after_cr; line = (if is_ready then Some bytes else None) } ≡ c →
    c.line ≡ None →
    (is_ready ≡ false) × (c.max ≡ max) × (c.kept ≡ bytes) × (c.after_cr ≡ after_cr)
fields max bytes after_cr true c e n = absurd (let h : Some bytes ≡ None = ap (λ (c : LineCutter). c.line) e ∙ n in cc)
fields max bytes after_cr false c e n = (refl, sym (ap (λ (c : LineCutter). c.max) e), sym (ap (λ (c : LineCutter). c.kept) e), sym (ap (λ (c : LineCutter). c.after_cr) e))

-- a cutter that lets go of its line
pub stands_begun : (c : LineCutter) (stream : List ℕ) → StandsFor c stream → StandsFor (record c { line = None }) stream
stands_begun c stream at = record { kept = at.kept; cr = at.cr; no_cr = at.no_cr }

ends_joined : (stream more used line : List ℕ) → wire_lines (stream ++ more) ≡ wire_lines stream → EndsLine (stream ++ more) used line → EndsLine stream (more ++ used) line
ends_joined stream more used line e t = record {
  lines = ap wire_lines (sym (append_assoc stream more used)) ∙ t.lines ∙ ap (λ u. u ++ line ∷ []) e;
  rest = ap wire_rest (sym (append_assoc stream more used)) ∙ t.rest;
}

-- an answer after bytes that ended no line
pub tells_joined : (what : What) (c : LineCutter) (stream more used : List ℕ) →
    wire_lines (stream ++ more) ≡ wire_lines stream → Tells what c (stream ++ more) used → Tells what c stream (more ++ used)
tells_joined NeedMore c stream more used e t = ap wire_lines (sym (append_assoc stream more used)) ∙ t ∙ e
tells_joined Line c stream more used e t = (t.0, ends_joined stream more used t.0 e t.1, t.2, t.3)
tells_joined TooLong c stream more used e t = (t.0, ends_joined stream more used t.0 e t.1, t.2)

-- what is kept of one byte more, where there is room for it, and where there is none
pub kept_room : (max : ℕ) (kept bytes more : List ℕ) (byte : ℕ) → kept ≡ bytes → more ≡ bytes ++ byte ∷ [] → length kept < max → more ≡ take max (kept ++ byte ∷ [])
kept_room max kept bytes more byte k m l = m ∙ ap (λ t. t ++ byte ∷ []) (sym k) ∙ sym (take_all max (kept ++ byte ∷ []) (omega (arith, length_push kept byte)))

pub kept_full : (max : ℕ) (kept bytes : List ℕ) (byte : ℕ) → kept ≡ bytes → length kept ≡ max → bytes ≡ take max (kept ++ byte ∷ [])
kept_full max kept bytes byte k l = sym k ∙ sym (take_at kept (byte ∷ []) max l)

-- the same, of the stream alone
pub stands_more : (old new : LineCutter) (stream : List ℕ) (byte : ℕ) →
    StandsFor old stream →
    new.max ≡ old.max →
    new.kept ≡ take old.max (old.kept ++ byte ∷ []) →
    (new.after_cr ≡ true → byte ≡ 13) →
    (new.after_cr ≡ false → byte ≡ 13 → ⊥) →
    (byte ≡ 10 → old.after_cr ≡ true → ⊥) →
    StandsFor new (stream ++ byte ∷ []) × (wire_lines (stream ++ byte ∷ []) ≡ wire_lines stream)
stands_more old new stream byte s m k cr no_cr not_end =
    let at = at_more old new stream _ _ byte (at_stands old stream s) m k cr no_cr not_end in
    (stands_at new _ _ _ at, (lines_are _ _ _ at.cut).0)

ends_at : (c : LineCutter) (stream used line : List ℕ) → StandsAt c (stream ++ used) (wire_lines stream ++ line ∷ []) [] → StandsFor c (stream ++ used) × EndsLine stream used line
ends_at c stream used line at = let e = lines_are _ _ _ at.cut in (stands_at c _ _ _ at, record { lines = e.0; rest = e.1 })

pub stands_line : (old new : LineCutter) (stream : List ℕ) (byte : ℕ) →
    StandsFor old stream → byte ≡ 10 → old.after_cr ≡ true → new.kept ≡ [] → new.after_cr ≡ false →
    length old.kept < old.max →
    StandsFor new (stream ++ byte ∷ []) × ((line : List ℕ) × EndsLine stream (byte ∷ []) line × (length line + 2 ≤ old.max) × (take (length old.kept - 1) old.kept ≡ line))
stands_line old new stream byte s b t k f l =
    let w = at_line old new stream _ _ byte (at_stands old stream s) b t k f l in
    let e = ends_at new stream (byte ∷ []) w.0 w.1 in
    (e.0, (w.0, e.1, w.2, w.3))

pub stands_long : (old new : LineCutter) (stream : List ℕ) (byte : ℕ) →
    StandsFor old stream → byte ≡ 10 → old.after_cr ≡ true → new.kept ≡ [] → new.after_cr ≡ false →
    old.max ≤ length old.kept →
    StandsFor new (stream ++ byte ∷ []) × ((line : List ℕ) × EndsLine stream (byte ∷ []) line × (old.max < length line + 2))
stands_long old new stream byte s b t k f l =
    let w = at_long old new stream _ _ byte (at_stands old stream s) b t k f l in
    let e = ends_at new stream (byte ∷ []) w.0 w.1 in
    (e.0, (w.0, e.1, w.2))

-- ---- a run of bytes without LF

-- what is kept of bytes of which there is room for so many
pub kept_run : (max : ℕ) (bytes run : List ℕ) (room : ℕ) → length bytes + room ≡ max → bytes ++ take room run ≡ take max (bytes ++ run)
kept_run max bytes run room e = rw (← e) (sym (take-append-add bytes run room))

take_run_kept : (max : ℕ) (rest run : List ℕ) → take max (take max rest ++ run) ≡ take max (rest ++ run)
take_run_kept zero rest run = refl
take_run_kept (suc max) [] run = refl
take_run_kept (suc max) (x ∷ rest) run = ap (λ t. x ∷ t) (take_run_kept max rest run)

run_more : (stream piece : List ℕ) (n : ℕ) → n ≤ length piece → ((k : ℕ) → k < n → get_or piece k 0 ≡ 10 → ⊥) →
    (wire_lines (stream ++ take n piece) ≡ wire_lines stream) × (wire_rest (stream ++ take n piece) ≡ wire_rest stream ++ take n piece)
run_more stream piece zero h no_lf =
    (ap wire_lines (append-nil stream), ap wire_rest (append-nil stream) ∙ sym (append-nil (wire_rest stream)))
run_more stream piece (suc n) h no_lf =
    let before = run_more stream piece n (omega arith) (λ k l. no_lf k (omega arith)) in
    let byte = get_or piece n 0 in
    let one = wire_more (stream ++ take n piece) byte (λ e _. no_lf n (omega arith) e) in
    let more : stream ++ take (suc n) piece ≡ (stream ++ take n piece) ++ byte ∷ [] =
    ap (λ t. stream ++ t) (take-suc piece n 0 (omega arith)) ∙ sym (append_assoc stream (take n piece) (byte ∷ [])) in (
      ap wire_lines more ∙ one.0 ∙ before.0,
      ap wire_rest more ∙ one.1 ∙ ap (λ t. t ++ byte ∷ []) before.1 ∙ append_assoc (wire_rest stream) (take n piece) (byte ∷ [])
          ∙ ap (λ t. wire_rest stream ++ t) (sym (take-suc piece n 0 (omega arith))),
    )

pub stands_run : (old new : LineCutter) (stream piece : List ℕ) (n last : ℕ) → StandsFor old stream →
    n ≡ suc last → n ≤ length piece → ((k : ℕ) → k < n → get_or piece k 0 ≡ 10 → ⊥) →
    new.max ≡ old.max → new.kept ≡ take old.max (old.kept ++ take n piece) →
    (new.after_cr ≡ true → get_or piece last 0 ≡ 13) →
    (new.after_cr ≡ false → get_or piece last 0 ≡ 13 → ⊥) →
    StandsFor new (stream ++ take n piece) × (wire_lines (stream ++ take n piece) ≡ wire_lines stream)
stands_run old new stream piece n last s e h no_lf m k cr no_cr =
    let w = run_more stream piece n h no_lf in
    let rest = wire_rest stream in
    let ends : take n piece ≡ take last piece ++ get_or piece last 0 ∷ [] = ap (λ t. take t piece) e ∙ take-suc piece last 0 (omega arith) in
    let whole : wire_rest (stream ++ take n piece) ≡ (rest ++ take last piece) ++ get_or piece last 0 ∷ [] =
    w.1 ∙ ap (λ t. rest ++ t) ends ∙ sym (append_assoc rest (take last piece) (get_or piece last 0 ∷ [])) in (
      record {
        kept = k ∙ ap (λ t. take old.max (t ++ take n piece)) s.kept ∙ take_run_kept old.max rest (take n piece)
            ∙ ap (λ t. take old.max t) (sym w.1) ∙ ap (λ t. take t (wire_rest (stream ++ take n piece))) (sym m);
        cr = λ t. (rest ++ take last piece, whole ∙ ap (λ b. (rest ++ take last piece) ++ b ∷ []) (cr t));
        no_cr = λ f v. no_cr f (same_from_push (rest ++ take last piece) v.0 (get_or piece last 0) 13 (sym whole ∙ v.1)).1;
      },
      w.0,
    )

-- a part of a piece and a run behind it
pub run_joined : (c : LineCutter) (stream piece : List ℕ) (i n : ℕ) → wire_lines (stream ++ take i piece) ≡ wire_lines stream →
    (let after = (stream ++ take i piece) ++ take n (take (length piece - i) (drop i piece)) in
    StandsFor c after × (wire_lines after ≡ wire_lines (stream ++ take i piece))) →
    StandsFor c (stream ++ take (i + n) piece) × (wire_lines (stream ++ take (i + n) piece) ≡ wire_lines stream)
run_joined c stream piece i n before after =
    let more = take n (take (length piece - i) (drop i piece)) in
    let e : stream ++ take (i + n) piece ≡ (stream ++ take i piece) ++ more =
    ap (λ t. stream ++ t) (sym (take_two_of i n piece)) ∙ sym (append_assoc stream (take i piece) more) in
    (subst (λ (t : List ℕ). StandsFor c t) (sym e) after.0, ap wire_lines e ∙ after.1 ∙ before)
