-- `slices` shows the items that the cells hold, in two runs. Assumes `Logic`.
use mathlib.Core.Path.{◌≡◌, refl, sym, ap, subst, ◌∙◌}
use Prim.Native.Nat.{ℕ, ◌+◌, ◌-◌, ◌*◌, ◌<◌, ◌≤◌, ◌^◌}
use native.Mathlib.Omega.{arith}
use mathlib.Core.List.{List, [], ◌∷◌, ◌++◌}
use lib.ListN.{length, take, drop, length-drop}
use base.Fraction.{full_share}
use mir.MapTy.{inst_fn}
use mir.Syntax.{Fn, named, w64}
use mir.Val.{Val, vptr, vint}
use base.Logic.{SProp, emp}
use base.Fml.{Lft, Share, ftrue, fat, flft}
use prog.Wp.{Env, WpFn}
use contract.BorrowLft.{◌⊑◌}
use contract.Monad.{fact, fact_i}
use contract.Running.{tables}
use types.Kit.{Item, ‵, raw, ◌⊛◌, prop, at_ret, ◌$◌, ◌∵◌, !, qed, by, move, keep, drop as skip, use0, use1, use2, split, join, rewrite, regoal, fsplit, fsplit3, fjoin, feq_i, flt_l, flt_i}
use types.Part.{whole, sub, agg}
use types.Run.{stop, fld, bin, of_opd, and_then, no_more, size_word, first, blocks, exec, returns, enter}
use types.ByLocal.{alloc_all, pass_all, free_all, look_at, get, get_in, sets, sets_last, take_at, give_at, is, env}
use denote.Builtin.{RefOf, usize}
use denote.Exit.{yes, no}
use denote.Opens.{hide, unhide, laws_dup}
use denote.Param.{layout}
use denote.Param.Laws.{param_laws}
use denote.RattleType.{RattleType, owns}
use denote.RawPtr.{Ptr, InBlock, block_ptr, block_of, count_of, at_block}
use denote.Ref.{ShrRef}
use denote.Signature.{plain}
use denote.Slice.{ShrSlice, slice_val, elements_shared, elements_shr_laws}
use denote.Steps.{nothing, heard}
use denote.Struct.Lending.{in_block_says}
use denote.Struct.Tuple.{Tuple}
use denote.Triple.Walked.{Stays, stay_dropped, walk_of, Goes-dropped}
use Rattle.core.proofs.ptr.Rows.{times_below}
use Rattle.core.proofs.slots.Leases.{uncapped}
use Rattle.std.proofs.lemmas.List.{length-take-le}
use Rattle.std.proofs.raw_atomic.Walks.{proved_at, leaves}
use Rattle.std_alloc.proofs.RcSteps.{word, word-Good}
use Rattle.std_alloc.proofs.VecSteps.El.{El, R, args, el_x, sz}
use Rattle.std_alloc.proofs.VecSteps.Shapes.{after}
use Rattle.change_ring.proofs.Memory.{Cr, Bs, two_val, two_of, seen_from, seen_before}
use Rattle.change_ring.proofs.cells.Base.TheLaws as base-laws
use Rattle.change_ring.specs.contracts.cells.Cells.slices as F
use Rattle.change_ring.specs.contracts.cells.Cells.slices.Key.{name as #self}
use Rattle.change_ring.proofs.cells.Cells.slices.Statement.{statement}
use Rattle.change_ring.proofs.cells.Cells.slices.Code as code

pub slices_spec : {M : Type 1} → statement M
slices_spec 𝓤 𝓛 𝓜 𝓡 wired X W LX LW g d dd met md =
    let E : El = record { row = X; laws = LX; al = record { row = W; laws = LW; g = g; d = d; drops = dd } } in
    let H = 𝓛.H in let 𝓣 = tables 𝓤 H 𝓜 𝓡 𝓡.env in
    let En = F.ended X W g d dd in let c = F.clauses X W g d dd 𝓛 𝓜.mem 𝓡.returns in let fn : Fn = inst_fn (args E) code.function in
    let owner = RefOf (0 ∷ []) tt (plain (λ _. Cr E)) (λ _. tt) in
    let hs : Stays En.signature.params En.kept = (stay_dropped owner yes, (stay_dropped (plain (λ _. Bs E)) no, (stay_dropped (plain (λ _. usize)) yes, (stay_dropped (plain (λ _. usize)) yes, tt)))) in
    let number = Goes-dropped 𝓛 3 (plain (λ _. usize)) yes (λ κs x f. refl) in
    proved_at 𝓛 En hs c 𝓜 𝓡 (Goes-dropped 𝓛 3 owner yes (λ κs x f. refl), (Goes-dropped 𝓛 3 (plain (λ _. Bs E)) no (λ κs x f. refl), (number, (number, tt))))
    (#self (args E)) fn (code.unfolded 𝓤 H 𝓜 𝓡 wired (X, (W, tt)) d dd) (λ z are.
    let κ : Lft = z.0.0.0 in let q : Share = z.0.1.0 in let rb = z.0.3.0.ref_ptr.0 in let ro = z.0.3.0.ref_ptr.1 in let d = z.0.3.0.now in
    let base = z.0.3.1.0 in let used = z.0.3.1.1.0 in let i = z.0.3.1.1.1.0 in
    let n = d.capacity in let xs : List (el_x E) = d.written in let low : List (el_x E) = take i xs in let high : List (el_x E) = drop i xs in
    let b = block_of d.at in let o = count_of d.at in let s = sz E in let at : ℕ × ℕ = (b, i * s + o) in
    let Asks : Type 0 = (base.ptr ≡ d.at) × (length xs ≡ used) × (used ≤ n) × (i ≤ used) in let Shown : Type 0 = (high ≡ high) × (low ≡ low) in
    let others : Item 𝓤 = ‵ (flft z.0.0.1.0 z.0.1.1.0) ⊛ ‵ (flft z.0.0.1.1.0 z.0.1.1.1.0) ⊛ ‵ ftrue in
    let Post : Val → SProp 𝓤 = (walk_of 𝓛 En hs c).post z in
    let Run : RattleType = ShrSlice (named 0) κ (R E) in
    let out : Val = two_val (slice_val at (used - i)) (slice_val (b, o) i) in
    let e1 = (base-laws.lowers (R E) (param_laws 0 X LX)).val_is base z.0.4.1.0 are.1.0 in
    qed 𝓛 (((‵ (flft κ q) ⊛ others) ⊛ ‵ (owns (ShrRef (named 0) κ (Cr E) ∷ Bs E ∷ usize ∷ usize ∷ []) z.0.3 z.0.4))
    ∷ (raw (fact 𝓤 (z.0.0.1.0 ⊑ X.lives)) ⊛ raw (fact 𝓤 (z.0.0.1.1.0 ⊑ W.lives)) ⊛ raw (fact 𝓤 Asks)) ∷ []) ∵
    move ! (1 ∷ []) $ split ! $ skip ! $ split ! $ skip ! $ heard ! Asks (λ asked.
    split ! $ split ! $ move ! (2 ∷ []) $ fsplit3 ! $ fsplit ! $ skip ! $ keep ! (0 ∷ 3 ∷ 4 ∷ []) $
    -- [self; its token; other tokens]
    regoal ! (λ (us : List Val). prop (WpFn 𝓤 H 𝓣.C 𝓣.Λ fn us Post)) (λ j. are.0.0 j ++ (e1 j ++ (are.1.1.0.0 j ++ (are.1.1.1.0.0 j ++ [])))) refl $
    enter ! 𝓣.C 𝓣.Λ fn (vptr rb ro ∷ word base.ptr ∷ vint w64 used ∷ vint w64 i ∷ []) Post $
    let fits_used = are.1.1.0.1 in let fits = are.1.1.1.0.1 in
    alloc_all ! (λ l. pass_all ! refl ((tt, tt), (word-Good [] base.ptr, ((tt, record { fits = fits_used }), ((tt, record { fits = fits }), tt)))) $
    let env' : Env 𝓤 H = env fn.locals l in
    unhide ! $ fsplit ! $ skip ! $ fsplit ! $ flt_l ! (λ small. fsplit ! $ use1 𝓛 (raw (fact 𝓤 (InBlock d.at))) (in_block_says 𝓛 d.at) $ heard ! (InBlock d.at) (λ inside. fsplit ! $ skip ! $
    hide ! $ laws_dup ! (elements_shared (R E) xs b o) (elements_shr_laws (R E) (param_laws 0 X LX).shr_laws xs b o) κ $
    let e : d.at ≡ block_ptr b o = at_block d.at inside in
    let len_low : length low ≡ i = length-take-le i xs (omega (arith, asked.1, asked.3)) in
    let len_high : length high ≡ used - i = omega (arith, length-drop i xs, asked.1) in
    let far : i * s < 2 ^ 64 = omega (arith, times_below i n s (2 ^ 63) (omega (arith, asked.2, asked.3)) small) in
    let fits_rest : used - i < 2 ^ 64 = omega (arith, fits_used) in
    -- [the items; the items; self's token; other tokens]
    unhide ! $ use1 𝓛 (‵ (elements_shared (R E) low b o κ)) (seen_before (R E) 𝓛 κ b xs i o) $ hide ! $
    flt_i ! (length low * s) (2 ^ 63) (times_below (length low) n s (2 ^ 63) (omega (arith, len_low, asked.2, asked.3)) small) $ flt_i ! (length low) (2 ^ 64) (omega (arith, len_low, fits)) $ fjoin ! $
    feq_i ! (List Val) (slice_val (b, o) i ∷ []) (slice_val (b, o) (length low) ∷ []) (ap (λ (k : ℕ). slice_val (b, o) k ∷ []) (sym len_low)) $ fjoin ! $ fjoin ! $ move ! (1 ∷ []) $
    unhide ! $ use1 𝓛 (‵ (elements_shared (R E) high b (i * s + o) κ)) (seen_from (R E) 𝓛 κ b xs i o (i * s + o) (omega (arith, asked.1, asked.3)) refl) $ hide ! $
    flt_i ! (length high * s) (2 ^ 63) (times_below (length high) n s (2 ^ 63) (omega (arith, len_high, asked.2)) small) $ flt_i ! (length high) (2 ^ 64) (omega (arith, len_high, fits_rest)) $ fjoin ! $
    feq_i ! (List Val) (slice_val at (used - i) ∷ []) (slice_val at (length high) ∷ []) (ap (λ (k : ℕ). slice_val at k ∷ []) (sym len_high)) $ fjoin ! $ fjoin ! $
    use2 𝓛 (‵ ((Tuple (Run ∷ Run ∷ [])).own_val (record { ref_ptr = at; now = high }, record { ref_ptr = (b, o); now = low }) (out ∷ [])))
    (two_of 𝓛 Run Run (record { ref_ptr = at; now = high }) (record { ref_ptr = (b, o); now = low }) (slice_val at (used - i)) (slice_val (b, o) i)) $
    take_at ! 2 $ rewrite ! 0 (λ (p : Ptr). ‵ (fat full_share (layout (Bs E)) (l 2) 0 (word p))) (asked.0 ∙ e) refl $ give_at ! 2 $ first ! $ blocks ! $
    sets ! (is ! (bin ! (get ! refl) (size_word !) (record { fits = subst (λ (k : ℕ). k < 2 ^ 64) (sym (uncapped i s far)) far })) (ap (vint w64) (uncapped i s far))) refl (tt, record { fits = far }) $
    sets ! (bin ! (get_in ! (fld ! refl (stop !)) (sub ! 0 refl (whole !))) (get ! refl) tt) refl (tt, tt) $
    sets ! (bin ! (get ! refl) (get ! refl) asked.3) refl (tt, record { fits = fits_rest }) $
    sets ! (agg ! (and_then ! (get ! refl) (and_then ! (get ! refl) (no_more !)))) refl (tt, (tt, (record { fits = fits_rest }, tt))) $
    sets ! (agg ! (and_then ! (get_in ! (fld ! refl (stop !)) (sub ! 0 refl (whole !))) (and_then ! (get ! refl) (no_more !)))) refl (tt, (tt, (record { fits = fits }, tt))) $
    sets_last ! (agg ! (and_then ! (get ! refl) (and_then ! (get ! refl) (no_more !)))) refl (tt, ((tt, (record { fits = fits_rest }, tt)), ((tt, (record { fits = fits }, tt)), tt))) $
    exec ! 𝓣.C 𝓣.Λ env' (after 1 fn.body) (at_ret env' Post) $ sets ! (of_opd ! (get ! refl)) refl (tt, ((tt, (record { fits = fits_rest }, tt)), ((tt, (record { fits = fits }, tt)), tt))) $
    returns ! (look_at ! 0 refl) $ free_all ! refl $ keep ! (1 ∷ 2 ∷ 0 ∷ []) $ join ! $ move ! (1 ∷ []) $
    use0 𝓛 (raw (fact 𝓤 Shown)) (fact_i 𝓤 Shown (emp 𝓤) (refl, refl)) $ move ! (1 ∷ []) $ nothing ! $ nothing ! $ fjoin ! $ nothing ! $ fjoin ! $ nothing ! $ fjoin ! $ nothing ! $ fjoin ! $
    move ! (3 ∷ 0 ∷ 1 ∷ 2 ∷ []) $ by ! (leaves 𝓛 En hs c z out (record { ref_ptr = at; now = high }, record { ref_ptr = (b, o); now = low }) (tt, (tt, (tt, (tt, tt)))) (tt, (tt, (tt, (tt, tt))))))))))
