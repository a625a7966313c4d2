-- A run of bytes within a line, and a piece that is used in parts.
use Rattle.std.proofs.Common.{◌≡◌, ℕ, ◌+◌, ◌-◌, ◌<◌, ◌≤◌, List, [], ◌∷◌, ◌++◌, length, take, drop, get_or, refl, sym, ◌∙◌, ap, arith, add-one, append_assoc, append-nil, Bool, true, false, zero, suc, subst}
use Rattle.std.specs.Prelude.{if◌then◌else◌, ◌==◌, ◌&&◌}
use Rattle.std.proofs.Math.Seq.{take-suc, take-length}
use Rattle.std.proofs.lemmas.Bool.{eqb-true, eq-eqb}
use Rattle.std.proofs.lemmas.List.{take_more, length-take-le, get_or-take}
use Rattle.memchr.specs.Find.{OccursAt}
use Rattle.line_io.proofs.Appended.{take_two_of}
use Rattle.dot_stuffing.specs.Data.{Plain}
use Rattle.dot_stuffing.specs.Unstuffing.{text_so_far, Collects, IsOpenAt, StandsFor, Tells, Unstuffer}
use Rattle.dot_stuffing.specs.inner.Unstuffing.{after, after_two}
use Rattle.dot_stuffing.specs.declared.context.Context.{Context}
use Rattle.dot_stuffing.specs.declared.context.Context.TheVariants.{Start, Cr, Inside}
use Rattle.dot_stuffing.specs.declared.Progress.{Progress}
use Rattle.dot_stuffing.specs.declared.Progress.TheVariants.{More, Done}
use Rattle.dot_stuffing.proofs.Contexts.{cr_byte, cr_lf, inside_byte, start_byte}

never : {A : Type 0} → (b : Bool) → b ≡ true → b ≡ false → A
never b t f = absurd (let e : true ≡ false = sym t ∙ f in cc)

after_is : (byte : ℕ) (b : Bool) → (byte == 13) ≡ b → after byte ≡ (if b then Cr else Inside)
after_is byte b e = ap (λ (t : Bool). if t then Cr else Inside) e

-- a byte of the text behind two others
after_byte : (first second byte : ℕ) (wire : List ℕ) → IsOpenAt (after_two first second) wire → (first ≡ 13 → second ≡ 10 → byte ≡ 46 → ⊥) →
    IsOpenAt (after_two second byte) (wire ++ byte ∷ []) × (text_so_far (after_two second byte) (wire ++ byte ∷ []) ≡ text_so_far (after_two first second) wire ++ byte ∷ [])
after_byte first second byte wire at no_dot = cases (second == 13) refl (first == 13) refl (second == 10) refl (byte == 10) refl (byte == 13) refl at
  where
    Added : Context → Context → Type 0
    Added context next = IsOpenAt next (wire ++ byte ∷ []) × (text_so_far next (wire ++ byte ∷ []) ≡ text_so_far context wire ++ byte ∷ [])

    goal : (context : Context) (next : Context) → Added context (after byte) → next ≡ after byte → Added context next
    goal context next h e = subst (λ (n : Context). Added context n) (sym e) h

    cases : (s13 : Bool) → (second == 13) ≡ s13 → (f13 : Bool) → (first == 13) ≡ f13 → (s10 : Bool) → (second == 10) ≡ s10 → (b10 : Bool) → (byte == 10) ≡ b10 → (b13 : Bool) → (byte == 13) ≡ b13 →
        IsOpenAt (if s13 then Cr else if f13 && s10 then Start else Inside) wire →
        Added (if s13 then Cr else if f13 && s10 then Start else Inside) (if b13 then Cr else if s13 && b10 then Start else Inside)
    cases true s f13 f s10 t true b true c at = absurd (let x : byte ≡ 10 = eqb-true byte 10 b in let y : byte ≡ 13 = eqb-true byte 13 c in omega arith)
    cases true s f13 f s10 t true b false c at = cr_lf byte wire (eqb-true byte 10 b) at
    cases true s f13 f s10 t false b true c at = goal Cr Cr (cr_byte byte wire (λ e. never (byte == 10) (eq-eqb byte 10 e) b) at) (sym (after_is byte true c))
    cases true s f13 f s10 t false b false c at = goal Cr Inside (cr_byte byte wire (λ e. never (byte == 10) (eq-eqb byte 10 e) b) at) (sym (after_is byte false c))
    cases false s true f true t b10 b b13 c at = goal Start (if b13 then Cr else Inside) (start_byte byte wire (no_dot (eqb-true first 13 f) (eqb-true second 10 t)) at) (sym (after_is byte b13 c))
    cases false s true f false t b10 b b13 c at = goal Inside (if b13 then Cr else Inside) (inside_byte byte wire at) (sym (after_is byte b13 c))
    cases false s false f s10 t b10 b b13 c at = goal Inside (if b13 then Cr else Inside) (inside_byte byte wire at) (sym (after_is byte b13 c))

-- the context after the first n bytes of a run, where it was inside a line before them
abbrev context_at : List ℕ → ℕ → Context
context_at run n = after_two (get_or (0 ∷ 0 ∷ run) n 0) (get_or (0 ∷ run) n 0)

-- bytes that have no dot behind a CRLF add themselves
pub text_run : (wire run : List ℕ) (n : ℕ) → n ≤ length run →
    ((k : ℕ) → k + 2 < n → get_or run k 0 ≡ 13 → get_or run (k + 1) 0 ≡ 10 → get_or run (k + 2) 0 ≡ 46 → ⊥) → IsOpenAt Inside wire →
    IsOpenAt (context_at run n) (wire ++ take n run) × (text_so_far (context_at run n) (wire ++ take n run) ≡ text_so_far Inside wire ++ take n run)
text_run wire run zero h no_dot at = (
  subst (λ (w : List ℕ). IsOpenAt Inside w) (sym (append-nil wire)) at,
  ap (λ w. text_so_far Inside w) (append-nil wire) ∙ sym (append-nil (text_so_far Inside wire)),
)
text_run wire run (suc n) h no_dot at =
    let before = text_run wire run n (omega arith) (λ k l. no_dot k (omega arith)) at in
    let byte = get_or run n 0 in
    let front : List ℕ = wire ++ take n run in
    let text : List ℕ = text_so_far Inside wire in
    let one = after_byte (get_or (0 ∷ 0 ∷ run) n 0) (get_or (0 ∷ run) n 0) byte front before.0 (third n no_dot) in
    let last : take (suc n) run ≡ take n run ++ byte ∷ [] = take-suc run n 0 (omega arith) in
    let more : wire ++ take (suc n) run ≡ front ++ byte ∷ [] = ap (λ t. wire ++ t) last ∙ sym (append_assoc wire (take n run) (byte ∷ [])) in
    let next : Context = context_at run (suc n) in (
      subst (λ (w : List ℕ). IsOpenAt next w) (sym more) one.0,
      ap (λ w. text_so_far next w) more ∙ one.1 ∙ ap (λ t. t ++ byte ∷ []) before.1
          ∙ append_assoc text (take n run) (byte ∷ []) ∙ ap (λ t. text ++ t) (sym last),
    )
  where
    third : (n : ℕ) → ((k : ℕ) → k + 2 < suc n → get_or run k 0 ≡ 13 → get_or run (k + 1) 0 ≡ 10 → get_or run (k + 2) 0 ≡ 46 → ⊥) →
        get_or (0 ∷ 0 ∷ run) n 0 ≡ 13 → get_or (0 ∷ run) n 0 ≡ 10 → get_or run n 0 ≡ 46 → ⊥
    third zero none a b c = let e : ◌≡◌ {A = ℕ} 0 13 = a in omega (arith, e)
    third (suc zero) none a b c = let e : ◌≡◌ {A = ℕ} 0 13 = a in omega (arith, e)
    third (suc (suc k)) none a b c = none k (omega arith) a (rw (add-one k) b) (ap (λ m. get_or run m 0) (let e : k + 2 ≡ suc (suc k) = omega arith in e) ∙ c)

-- the context after all of them
pub context_at_end : (run : List ℕ) (context : Context) → (length run ≡ 0 → context ≡ Inside) → (length run ≡ 1 → context ≡ after (get_or run 0 0)) →
    ((n : ℕ) → length run ≡ n + 2 → context ≡ after_two (get_or run n 0) (get_or run (n + 1) 0)) → context ≡ context_at run (length run)
context_at_end run context none one more = cases (length run) refl
  where
    cases : (n : ℕ) → length run ≡ n → context ≡ context_at run n
    cases zero e = none e
    cases (suc zero) e = one e
    cases (suc (suc n)) e = let two : length run ≡ n + 2 = omega (arith, e) in more n two ∙ ap (λ k. after_two (get_or run n 0) (get_or run k 0)) (add-one n)

-- what the unstuffer knows after such bytes
pub stands_run : (old new : Unstuffer) (wire piece : List ℕ) (n : ℕ) → StandsFor old wire → old.context ≡ Inside → new.context ≡ context_at (take n piece) (length (take n piece)) →
    n ≤ length piece → ((k : ℕ) → k + 2 < n → get_or piece k 0 ≡ 13 → get_or piece (k + 1) 0 ≡ 10 → get_or piece (k + 2) 0 ≡ 46 → ⊥) →
    ((text : List ℕ) → Collects old.collected text → Collects new.collected (text ++ take n piece)) →
    StandsFor new (wire ++ take n piece)
stands_run old new wire piece n s from to h no_dot add =
    let run : List ℕ = take n piece in
    let len : length run ≡ n = length-take-le n piece h in
    let none : (k : ℕ) → k + 2 < length run → get_or run k 0 ≡ 13 → get_or run (k + 1) 0 ≡ 10 → get_or run (k + 2) 0 ≡ 46 → ⊥ =
    λ k l a b c. no_dot k (omega (arith, len)) (sym (get_or-take n piece k 0 (omega (arith, len))) ∙ a) (sym (get_or-take n piece (k + 1) 0 (omega (arith, len))) ∙ b) (sym (get_or-take n piece (k + 2) 0 (omega (arith, len))) ∙ c) in
    let w = text_run wire run (length run) (omega arith) none (subst (λ (p : Context). IsOpenAt p wire) from s.wire_at) in
    let v = subst (λ (r : List ℕ). IsOpenAt (context_at run (length run)) (wire ++ r) × (text_so_far (context_at run (length run)) (wire ++ r) ≡ text_so_far Inside wire ++ r)) (take-length run) w in
    let text : text_so_far new.context (wire ++ run) ≡ text_so_far old.context wire ++ run =
    ap (λ p. text_so_far p (wire ++ run)) to ∙ v.1 ∙ ap (λ p. text_so_far p wire ++ run) (sym from) in
    record {
      wire_at = subst (λ (p : Context). IsOpenAt p (wire ++ run)) (sym to) v.0;
      collects = subst (λ (t : List ℕ). Collects new.collected t) (sym text) (add _ s.collects);
    }

-- three bytes where they stand
pub occurs_here : (piece needle : List ℕ) (k : ℕ) → needle ≡ 13 ∷ 10 ∷ 46 ∷ [] → k + 2 < length piece →
    get_or piece k 0 ≡ 13 → get_or piece (k + 1) 0 ≡ 10 → get_or piece (k + 2) 0 ≡ 46 → OccursAt piece needle k
occurs_here piece needle k e h a b c = subst (λ (n : List ℕ). OccursAt piece n k) (sym e) (record { fits = omega arith; reads = reads })
  where
    reads : (j : ℕ) → j < 3 → get_or piece (k + j) 0 ≡ get_or (13 ∷ 10 ∷ 46 ∷ []) j 0
    reads zero l = ap (λ n. get_or piece n 0) (let e : k + 0 ≡ k = omega arith in e) ∙ a
    reads (suc zero) l = b
    reads (suc (suc zero)) l = c
    reads (suc (suc (suc j))) l = absurd (omega (arith, l))

-- the first bytes of a piece, so many of the rest, and one byte
in_parts : (wire piece : List ℕ) (i n : ℕ) → i + n < length piece →
    wire ++ take (i + n + 1) piece ≡ ((wire ++ take i piece) ++ take n (take (length piece - i) (drop i piece))) ++ get_or piece (i + n) 0 ∷ []
in_parts wire piece i n h =
    let more : List ℕ = take n (take (length piece - i) (drop i piece)) in
    ap (λ t. wire ++ t) (take_more piece (i + n) 0 h)
    ∙ sym (append_assoc wire (take (i + n) piece) (get_or piece (i + n) 0 ∷ []))
    ∙ ap (λ t. t ++ get_or piece (i + n) 0 ∷ []) (ap (λ t. wire ++ t) (sym (take_two_of i n piece)) ∙ sym (append_assoc wire (take i piece) more))

-- the first bytes of a piece, and so many of the rest
pub run_in_parts : (u : Unstuffer) (wire piece : List ℕ) (i n : ℕ) → StandsFor u ((wire ++ take i piece) ++ take n (take (length piece - i) (drop i piece))) → StandsFor u (wire ++ take (i + n) piece)
run_in_parts u wire piece i n s =
    let more : List ℕ = take n (take (length piece - i) (drop i piece)) in
    subst (λ (w : List ℕ). StandsFor u w) (append_assoc wire (take i piece) more ∙ ap (λ t. wire ++ t) (take_two_of i n piece)) s

-- an answer about that byte, where none before it told anything, is one about all of them
pub tells_in_parts : (what : Progress) (u : Unstuffer) (wire piece : List ℕ) (i n : ℕ) → i + n < length piece →
    Tells what u ((wire ++ take i piece) ++ take n (take (length piece - i) (drop i piece))) (get_or piece (i + n) 0 ∷ []) →
    Tells what u wire (take (i + n + 1) piece)
tells_in_parts More u wire piece i n h t = subst (λ (w : List ℕ). StandsFor u w) (sym (in_parts wire piece i n h)) t
tells_in_parts (Done outcome) u wire piece i n h t =
    (t.0, subst (λ (w : List ℕ). Plain w t.0) (sym (in_parts wire piece i n h)) t.1, t.2, t.3)
