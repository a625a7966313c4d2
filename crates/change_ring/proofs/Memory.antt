-- What the five walks share. Assumes `Logic`.
--     Cr, Bs      the rows of `Cells` and of `Base`.        word_made, mark_made      a value of one pointer and one of no bytes are made of nothing
--     block_had, block_made      what the owner has is taken apart, and put together.        cell_out      a cell is room, and what an item in it makes of the block
--     seen_from, seen_before      of items that a `&` reaches, those from one on, and those before it
use mathlib.Core.Path.{◌≡◌, refl, sym, ap, subst, ◌∙◌}
use Prim.Native.Nat.{ℕ, zero, suc, ◌+◌, ◌-◌, ◌*◌, ◌<◌, ◌≤◌, ◌^◌}
use native.Mathlib.Omega.{arith}
use native.Mathlib.Nat.{zero-mul, suc-mul}
use mathlib.Core.List.{List, [], ◌∷◌, ◌++◌}
use lib.Dec.{T}
use mathlib.Core.Logic.{inl, inr}
use lib.ListN.{length, take, drop, set, get_or, length-set, length-append}
use lib.Seq.{set_split}
use seplogic.Ra.Ura.{Ura}
use base.Fraction.{full_share}
use mir.Syntax.{Ty, ty_array}
use mir.Val.{Val, vstruct, vcons, vnil, has_ty, WT}
use base.Logic.{SProp, ent, sep, emp, wand, via, fst∗, snd∗, mono_r, never, id⊢}
use base.Fml.{Fml, Lft, ffalse, fsep, flt, froom}
use types.Logic.{Logic, sem}
use types.Kit.{Item, Goal, Seq, Step, step, ‵, given, ◌⊛◌, ◌$◌, ◌∵◌, !, qed, move, keep, use1, use2, split, learn, assume, frame, rewrite, fsplit, fsplit3, fjoin, fjoin3, fpack, feq_i, flt_l, flt_i, done}
use denote.RattleType.{RattleType, Valss}
use denote.Laws.{Typed}
use denote.Index.{others}
use denote.Memory.{part_at, shares, shared_of}
use denote.Array.{Array}
use denote.RawPtr.{Ptr, block_ptr, null_ptr, ptr_val, in_a_block}
use denote.Shadow.{makes_shadow}
use denote.Slice.{elements_shared}
use denote.Steps.{nothing}
use denote.Struct.Struct.{Struct, within}
use denote.Struct.Owning.{shape}
use denote.Struct.Declared as Declared
use denote.Struct.Tuple.{Tuple, tuple_type}
use Rattle.core.specs.Allocator.{array_of, block_with_items}
use Rattle.core.specs.Mem.{type_size}
use Rattle.std.proofs.lemmas.Bool.{cases_lt}
use Rattle.std.proofs.Common.{drop_of_length-le}
use Rattle.std.proofs.lemmas.List.{take_all}
use Rattle.std_alloc.proofs.RawLayout.{as_raw, as_written}
use Rattle.std_alloc.proofs.RcSteps.{word}
use Rattle.std_alloc.proofs.VecSteps.El.{El, R, P, el_x, elτ, sz}
use Rattle.std_alloc.proofs.VecSteps.Rows.{take_out, put_in, el_room, spare, snoc}
use Rattle.change_ring.specs.inner.Ownership.{cells_own}
use Rattle.change_ring.specs.contracts.cells.Base as B-type
use Rattle.change_ring.specs.contracts.cells.Cells as C-type

abbrev pub mark : Val
mark = vstruct (vcons (vstruct vnil) vnil)

module _ (E : El) where
  abbrev pub Cr : RattleType
  Cr = C-type.the_row (R E) (P E) E.al.g

  abbrev pub Bs : RattleType
  Bs = B-type.the_row (R E)

  -- the one field of `Cells`
  abbrev pub Mark : RattleType
  Mark = Struct (shape (C-type.the_type (R E) (P E) E.al.g))

  module _ {M : Type 1} {𝓤 : Ura M} (𝓛 : Logic 𝓤) where
    pub word_made : (p : Ptr) → ent 𝓤 (emp 𝓤) (sem 𝓛 (Bs.own_val (record { ptr = p }) (word p ∷ [])))
    word_made p = makes_shadow 𝓛 (Bs.own_val (record { ptr = p }) (word p ∷ [])) (λ _. (tt, (tt, tt))) ((ptr_val p ∷ [], tt), (refl, (refl, tt)))

    pub mark_made : ent 𝓤 (emp 𝓤) (sem 𝓛 (Mark.own_val (tt, tt) (mark ∷ [])))
    mark_made = makes_shadow 𝓛 (Mark.own_val (tt, tt) (mark ∷ [])) (λ vss. (tt, ((λ uss. (tt, tt)), tt))) ((vstruct vnil ∷ [], tt), (refl, ((tt, (refl, tt)), tt)))

-- a value of one machine value, of its type
pub alone : (τ : Ty) (vs : List Val) → Typed (τ ∷ []) vs → (v : Val) × ((vs ≡ v ∷ []) × (T (has_ty τ v) × WT v))
alone τ [] t = absurd t
alone τ (v ∷ []) t = (v, (refl, t.0))
alone τ (v ∷ w ∷ vs) t = absurd t.1

abbrev pub two_val : Val → Val → Val
two_val u v = vstruct (vcons u (vcons v vnil))

pub two_of : {M : Type 1} {𝓤 : Ura M} (𝓛 : Logic 𝓤) (S S' : RattleType) (x : S.Denot) (y : S'.Denot) (u v : Val)
    → ent 𝓤 (sep 𝓤 (sem 𝓛 (S.own_val x (u ∷ []))) (sem 𝓛 (S'.own_val y (v ∷ [])))) (sem 𝓛 ((Tuple (S ∷ S' ∷ [])).own_val (x, y) (two_val u v ∷ [])))
two_of 𝓛 S S' x y u v =
    qed 𝓛 (‵ (S.own_val x (u ∷ [])) ∷ ‵ (S'.own_val y (v ∷ [])) ∷ []) ∵ nothing ! $ move ! (2 ∷ 0 ∷ []) $ fjoin ! $ move ! (1 ∷ 0 ∷ []) $ fjoin ! $
    feq_i ! (List Val) (two_val u v ∷ []) (two_val u v ∷ []) refl $ fjoin ! $
    fpack ! (Valss (S ∷ S' ∷ [])) (within (Declared.shape (tuple_type (S ∷ S' ∷ []))) (x, (y, tt)) (two_val u v ∷ [])) (u ∷ [], (v ∷ [], tt)) $ done !

module _ (E : El) (n b o : ℕ) where
  -- the items of a block, and the room behind them
  abbrev pub items_at : List (el_x E) → Fml
  items_at xs = part_at (Array (R E) (length xs)) full_share xs b o

  abbrev pub room_past : List (el_x E) → Fml
  room_past xs = froom (ty_array (elτ E) (n - length xs)) b (o + length xs * sz E)

nowhere : (E : El) {M : Type 1} {𝓤 : Ura M} (𝓛 : Logic 𝓤) (t : Ty → Ptr → Fml) (n : ℕ) (xs : List (el_x E)) → ent 𝓤 (sem 𝓛 (cells_own t (R E) null_ptr n xs)) (never 𝓤)
nowhere E {𝓤 = 𝓤} 𝓛 t n xs =
    let small : Fml = flt (n * sz E) (2 ^ 63) in
    let held : Fml = block_with_items t (R E) null_ptr (length xs) n xs in
    via 𝓤 (sem 𝓛 held) (snd∗ 𝓤 (sem 𝓛 small) (sem 𝓛 held)) (fst∗ 𝓤 (never 𝓤) (sem 𝓛 (fsep ffalse (t (array_of (R E) n) null_ptr))))

module _ (E : El) {M : Type 1} {𝓤 : Ura M} {𝓛 : Logic 𝓤} {K : Type 0} {Γ : List (Item 𝓤)} {G : Goal 𝓤 𝓛.H} where
  pub block_had : K → (t : Ty → Ptr → Fml) (p : Ptr) (n : ℕ) (xs : List (el_x E))
      → ((b o : ℕ) → p ≡ block_ptr b o → n * sz E < 2 ^ 63 → Seq K 𝓛 (‵ (items_at E n b o xs) ∷ ‵ (room_past E n b o xs) ∷ ‵ (t (array_of (R E) n) (block_ptr b o)) ∷ Γ) G)
      → Seq K 𝓛 (‵ (cells_own t (R E) p n xs) ∷ Γ) G
  block_had k t p n xs next =
      in_a_block k p (λ q. cells_own t (R E) q n xs) (nowhere E 𝓛 t n xs) (λ b o e. fsplit k $ flt_l k (λ small. fsplit3 k $ move k (1 ∷ []) $
      as_written k (ty_array (elτ E) (n - length xs)) b (o + length xs * sz E) $ move k (1 ∷ []) $ next b o e small))

  pub block_made : K → (t : Ty → Ptr → Fml) (b o n : ℕ) (xs : List (el_x E)) → n * sz E < 2 ^ 63
      → Step K 𝓛 (‵ (cells_own t (R E) (block_ptr b o) n xs) ∷ Γ) G (‵ (items_at E n b o xs) ∷ ‵ (room_past E n b o xs) ∷ ‵ (t (array_of (R E) n) (block_ptr b o)) ∷ Γ) G
  block_made k t b o n xs small = step (λ s. move k (1 ∷ []) $ as_raw k (ty_array (elτ E) (n - length xs)) b (o + length xs * sz E) $ move k (1 ∷ 0 ∷ 2 ∷ []) $ fjoin3 k $ flt_i k (n * sz E) (2 ^ 63) small $ fjoin k $ s)

-- the items, where the i-th is written or is the first one behind them
abbrev pub with_cell : {X : Type 0} → List X → ℕ → X → List X
with_cell xs i x = take i xs ++ x ∷ drop (i + 1) xs

set_is : {X : Type 0} (xs : List X) (i : ℕ) (x : X) → i < length xs → set xs i x ≡ with_cell xs i x
set_is xs i x lt = let next : suc i ≡ i + 1 = omega arith in set_split xs i x lt ∙ ap (λ (k : ℕ). take i xs ++ x ∷ drop k xs) next

push_is : {X : Type 0} (xs : List X) (i : ℕ) (x : X) → i ≡ length xs → xs ++ x ∷ [] ≡ with_cell xs i x
push_is {X} xs i x e =
    let all : length xs ≤ i = omega (arith, e) in
    let past : length xs ≤ i + 1 = omega (arith, e) in
    ap (λ (ys : List X). ys ++ x ∷ []) (sym (take_all i xs all)) ∙ ap (λ (zs : List X). take i xs ++ x ∷ zs) (sym (drop_of_length-le xs past))

module _ (E : El) {M : Type 1} {𝓤 : Ura M} (𝓛 : Logic 𝓤) (n b o : ℕ) (xs : List (el_x E)) (i : ℕ) (x : el_x E) where
  open 𝓛 use {H}

  abbrev at : ℕ
  at = i * sz E + o

  abbrev Whole : List (el_x E) → SProp 𝓤
  Whole ys = sep 𝓤 (sem 𝓛 (items_at E n b o ys)) (sem 𝓛 (room_past E n b o ys))

  abbrev pub Fills : List (el_x E) → SProp 𝓤
  Fills ys = wand 𝓤 (sem 𝓛 (part_at (R E) full_share x b at)) (Whole ys)

  -- an item that was written is let go
  over : i < length xs → ent 𝓤 (Whole xs) (sep 𝓤 (H.room (elτ E) b at) (Fills (set xs i x)))
  over lt = qed 𝓛 (‵ (items_at E n b o xs) ∷ ‵ (room_past E n b o xs) ∷ []) ∵
      use1 𝓛 (given (length xs ≡ length xs) (‵ (part_at (R E) full_share (get_or xs i x) b at) ⊛ ‵ (others (shares (R E)) full_share xs i b o))) (take_out E 𝓛 (length xs) xs i x b o lt) $ learn ! (λ l. split ! $
      use1 𝓛 (‵ (froom (elτ E) b at)) (el_room E 𝓛 (get_or xs i x) b at) $ frame ! $ assume ! (‵ (part_at (R E) full_share x b at)) $
      use2 𝓛 (‵ (part_at (Array (R E) (length xs)) full_share (set xs i x) b o)) (put_in E 𝓛 (length xs) xs i x b o lt refl) $
      rewrite ! 0 (λ (k : ℕ). ‵ (part_at (Array (R E) k) full_share (set xs i x) b o)) (sym (length-set xs i x)) refl $
      rewrite ! 1 (λ (k : ℕ). ‵ (froom (ty_array (elτ E) (n - k)) b (o + k * sz E))) (sym (length-set xs i x)) refl $ done !)

  -- the first cell behind the items is room
  behind : i ≡ length xs → i < n → ent 𝓤 (Whole xs) (sep 𝓤 (H.room (elτ E) b at) (Fills (xs ++ x ∷ [])))
  behind e lt =
      let m : ℕ = length xs in let one : m + 1 ≡ length (xs ++ x ∷ []) = sym (length-append xs (x ∷ [])) in let less : m < n = omega (arith, e) in
      qed 𝓛 (‵ (items_at E n b o xs) ∷ ‵ (room_past E n b o xs) ∷ []) ∵ move ! (1 ∷ []) $
      use1 𝓛 (‵ (froom (elτ E) b (m * sz E + o)) ⊛ ‵ (froom (ty_array (elτ E) (n - (m + 1))) b (o + (m + 1) * sz E))) (spare E 𝓛 b o m n less) $ split ! $
      rewrite ! 0 (λ (k : ℕ). ‵ (froom (elτ E) b (k * sz E + o))) (sym e) refl $ frame ! $ assume ! (‵ (part_at (R E) full_share x b at)) $
      rewrite ! 0 (λ (k : ℕ). ‵ (part_at (R E) full_share x b (k * sz E + o))) e refl $ move ! (2 ∷ 0 ∷ []) $
      use2 𝓛 (‵ (part_at (Array (R E) (m + 1)) full_share (xs ++ x ∷ []) b o)) (snoc E 𝓛 b o m xs x) $
      rewrite ! 0 (λ (k : ℕ). ‵ (part_at (Array (R E) k) full_share (xs ++ x ∷ []) b o)) one refl $
      rewrite ! 1 (λ (k : ℕ). ‵ (froom (ty_array (elτ E) (n - k)) b (o + k * sz E))) one refl $ done !

  abbrev CellOut : List (el_x E) → Type 1
  CellOut ys = ent 𝓤 (Whole xs) (sep 𝓤 (H.room (elτ E) b at) (Fills ys))

  pub cell_out : i ≤ length xs → i < n → CellOut (with_cell xs i x)
  cell_out le lt = elim (cases_lt i (length xs)) [
    | inl inside ↦ subst CellOut (set_is xs i x inside) (over inside)
    | inr past ↦ let last : i ≡ length xs = omega (arith, le, past) in subst CellOut (push_is xs i x last) (behind last lt)
  ]

module _ (S : RattleType) {M : Type 1} {𝓤 : Ura M} (𝓛 : Logic 𝓤) (κ : Lft) (b : ℕ) where
  abbrev Seen : List S.Denot → ℕ → SProp 𝓤
  Seen xs o = sem 𝓛 (elements_shared S xs b o κ)

  pub seen_from : (xs : List S.Denot) (i o at : ℕ) → i ≤ length xs → at ≡ i * type_size S + o → ent 𝓤 (Seen xs o) (Seen (drop i xs) at)
  seen_from xs zero o at le e = let same : o ≡ at = omega (arith, zero-mul (type_size S), e) in subst (λ (k : ℕ). ent 𝓤 (Seen xs o) (Seen xs k)) same (id⊢ 𝓤 (Seen xs o))
  seen_from [] (suc i) o at le e = absurd (omega arith)
  seen_from (x ∷ xs) (suc i) o at le e =
      via 𝓤 (Seen xs (o + type_size S)) (snd∗ 𝓤 (sem 𝓛 (shared_of S x b o κ)) (Seen xs (o + type_size S))) (seen_from xs i (o + type_size S) at (omega arith) (omega (arith, suc-mul i (type_size S), e)))

  pub seen_before : (xs : List S.Denot) (i o : ℕ) → ent 𝓤 (Seen xs o) (Seen (take i xs) o)
  seen_before xs zero o = qed 𝓛 (‵ (elements_shared S xs b o κ) ∷ []) ∵ keep ! [] $ done !
  seen_before [] (suc i) o = id⊢ 𝓤 (emp 𝓤)
  seen_before (x ∷ xs) (suc i) o = mono_r 𝓤 (sem 𝓛 (shared_of S x b o κ)) (seen_before xs i (o + type_size S))
