-- `deallocate` makes the block of its cells, whatever they hold, and hands it back with the allocator's token. Assumes `Logic`.
use mathlib.Core.Path.{◌≡◌, refl, sym, ap, subst, ◌∙◌}
use Prim.Native.Nat.{ℕ, ◌*◌, ◌<◌, ◌≤◌, ◌^◌}
use native.Mathlib.Omega.{arith}
use mathlib.Core.List.{List, [], ◌∷◌, ◌++◌}
use lib.Dec.{T}
use lib.ListN.{length}
use mir.MapTy.{inst_fn}
use mir.Syntax.{Fn, Ty, named, w64, ty_unit, ty_array}
use mir.Val.{Val, vptr, vint, vunit, has_ty, WT}
use base.Logic.{SProp}
use base.Fml.{Lft, Share, ftrue, froom, flft, Incl-trans}
use prog.Capped.{capped_is, capped_fits}
use prog.Memory.{align, capped}
use prog.RawLaws.{size-raw, align-raw}
use prog.Wp.{Env, WpFn}
use contract.BorrowLft.{◌⊑◌}
use contract.Monad.{fact}
use contract.Running.{tables}
use types.Kit.{Item, ‵, raw, ◌⊛◌, given, later, await, learn, prop, at_ret, ◌$◌, ◌∵◌, !, qed, by, move, keep, drop, group, use1, use2, split, join, rewrite, regoal, fsplit, fsplit3, fjoin, feq_i}
use types.Part.{whole, sub}
use types.Run.{stop, fld, bin, unit_lit, of_opd, and_then, no_more, size_word, align_word, first, blocks, exec, returns, enter}
use types.ByLocal.{alloc_all, pass_all, free_all, look_at, get, get_in, sets, lands_last, is, env}
use denote.Builtin.{RefOf, usize}
use denote.Exit.{yes, no}
use denote.Param.Laws.{param_laws}
use denote.RattleType.{owns}
use denote.RawPtr.{Ptr, ptr_val}
use denote.Ref.{ShrRef}
use denote.Signature.{plain}
use denote.Steps.{nothing, heard}
use denote.Triple.Call.{calls_at_last}
use denote.Triple.Table.{framed}
use denote.Triple.Walked.{Stays, stay_dropped, walk_of, Goes-dropped}
use Rattle.core.proofs.alloc.Calls.{token, Gives, at_gives, Gives-goes, Gives-Gives, Goes-blank}
use Rattle.core.proofs.slots.Leases.{uncapped}
use Rattle.core.specs.Allocator.{array_of}
use Rattle.std.proofs.raw_atomic.Walks.{proved_at, leaves}
use Rattle.std_alloc.proofs.RawLayout.{as_raw}
use Rattle.std_alloc.proofs.RcSteps.{word, word-Good}
use Rattle.std_alloc.proofs.VecSteps.El.{El, R, P, args, elτ, sz}
use Rattle.std_alloc.proofs.VecSteps.Rows.{all_room}
use Rattle.std_alloc.proofs.VecSteps.Shapes.{after}
use Rattle.change_ring.specs.inner.Ownership.{cells_own}
use Rattle.change_ring.proofs.Memory.{Cr, Bs, mark, block_had}
use Rattle.change_ring.proofs.cells.Base.TheLaws as base-laws
use Rattle.change_ring.proofs.cells.Cells.TheLaws as cells-laws
use Rattle.change_ring.specs.contracts.cells.deallocate as F
use Rattle.change_ring.specs.contracts.cells.deallocate.Key.{name as #self}
use Rattle.change_ring.proofs.cells.deallocate.Statement.{statement}
use Rattle.change_ring.proofs.cells.deallocate.Code as code

pub deallocate_spec : {M : Type 1} → statement M
deallocate_spec 𝓤 𝓛 𝓜 𝓡 wired X W LX LW g d dd met md =
    let E : El = record { row = X; laws = LX; al = record { row = W; laws = LW; g = g; d = d; drops = dd } } in
    let H = 𝓛.H in let 𝓣 = tables 𝓤 H 𝓜 𝓡 𝓡.env in
    let En = F.ended X W g d dd in let c = F.clauses X W g d dd 𝓛 𝓜.mem 𝓡.returns in let fn : Fn = inst_fn (args E) code.function in
    let hs : Stays En.signature.params En.kept =
    (stay_dropped (RefOf (0 ∷ []) tt (plain (λ _. P E)) (λ _. tt)) yes, (stay_dropped (plain (λ _. Bs E)) no, (stay_dropped (plain (λ _. usize)) yes, (stay_dropped (plain (λ _. Cr E)) no, tt)))) in
    proved_at 𝓛 En hs c 𝓜 𝓡
    (Goes-dropped 𝓛 3 (RefOf (0 ∷ []) tt (plain (λ _. P E)) (λ _. tt)) yes (λ κs x f. refl), (Goes-dropped 𝓛 3 (plain (λ _. Bs E)) no (λ κs x f. refl), (Goes-dropped 𝓛 3 (plain (λ _. usize)) yes (λ κs x f. refl), (Goes-blank 𝓛 3 (plain (λ _. Cr E)) no (λ κs x f. tt), tt))))
    (#self (args E)) fn (code.unfolded 𝓤 H 𝓜 𝓡 wired (X, (W, tt)) d dd) (λ z are.
    let κ : Lft = z.0.0.0 in let q : Share = z.0.1.0 in let a = z.0.3.0.now in let rb = z.0.3.0.ref_ptr.0 in let ro = z.0.3.0.ref_ptr.1 in
    let base = z.0.3.1.0 in let n = z.0.3.1.1.0 in let cells = z.0.3.1.1.1.0 in let xs = cells.written in
    let Asks : Type 0 = (cells.at ≡ base.ptr) × (cells.capacity ≡ n) × (cells.alloc ≡ a) × (length xs ≤ n) in
    let others : Item 𝓤 = ‵ (flft z.0.0.1.0 z.0.1.1.0) ⊛ ‵ (flft z.0.0.1.1.0 z.0.1.1.1.0) ⊛ ‵ ftrue in
    let Post : Val → SProp 𝓤 = (walk_of 𝓛 En hs c).post z in
    let s = sz E in let al : ℕ = capped (align (elτ E)) in let τ : Ty = array_of (R E) n in
    let e1 = (base-laws.lowers (R E) (param_laws 0 X LX)).val_is base z.0.4.1.0 are.1.0 in
    let e3 = (cells-laws.lowers (R E) (P E) g (param_laws 0 X LX) (param_laws 1 W LW)).val_is cells z.0.4.1.1.1.0 are.1.1.1.0 in
    qed 𝓛 (((‵ (flft κ q) ⊛ others) ⊛ ‵ (owns (ShrRef (named 0) κ (P E) ∷ Bs E ∷ usize ∷ Cr E ∷ []) z.0.3 z.0.4))
    ∷ (raw (fact 𝓤 (z.0.0.1.0 ⊑ X.lives)) ⊛ raw (fact 𝓤 (z.0.0.1.1.0 ⊑ W.lives)) ⊛ raw (fact 𝓤 Asks)) ∷ []) ∵
    move ! (1 ∷ []) $ split ! $ drop ! $ split ! $ heard ! (z.0.0.1.1.0 ⊑ W.lives) (λ within. heard ! Asks (λ asked.
    split ! $ split ! $ move ! (2 ∷ []) $ fsplit3 ! $ fsplit ! $ drop ! $ move ! (2 ∷ []) $ fsplit3 ! $ move ! (1 ∷ []) $ fsplit ! $ keep ! (1 ∷ 4 ∷ 6 ∷ 7 ∷ []) $
    -- [the cells; the handle; its token; other tokens]
    regoal ! (λ (us : List Val). prop (WpFn 𝓤 H 𝓣.C 𝓣.Λ fn us Post)) (λ i. are.0.0 i ++ (e1 i ++ (are.1.1.0.0 i ++ (e3 i ++ [])))) refl $
    enter ! 𝓣.C 𝓣.Λ fn (vptr rb ro ∷ word base.ptr ∷ vint w64 n ∷ mark ∷ []) Post $
    alloc_all ! (λ l. pass_all ! refl ((tt, tt), (word-Good [] base.ptr, ((tt, record { fits = are.1.1.0.1 }), ((tt, (tt, tt)), tt)))) $
    let env' : Env 𝓤 H = env fn.locals l in
    rewrite ! 0 (λ (x : W.Denot × Ptr × ℕ). ‵ (cells_own (token E.al x.0) (R E) x.1 x.2 xs)) (λ i. (asked.2 i, asked.0 i, asked.1 i)) refl $
    block_had E ! (token E.al a) base.ptr n xs (λ b o e small.
    let bytes : n * s < 2 ^ 64 = omega arith in
    let y : (Gives E.al 𝓛 𝓜.mem 𝓡.returns).Ghost = at_gives E.al 𝓛 𝓜.mem 𝓡.returns κ q (rb, ro) a b o (n * s) al τ in
    use2 𝓛 (‵ (froom (ty_array (elτ E) n) b o)) (all_room E 𝓛 b o (length xs) n xs asked.3) $ as_raw ! (ty_array (elτ E) n) b o $ first ! $ blocks ! $
    sets ! (is ! (of_opd ! (get_in ! (fld ! refl (stop !)) (sub ! 0 refl (whole !)))) (ap ptr_val e)) refl (tt, tt) $
    sets ! (is ! (bin ! (get ! refl) (size_word !) (record { fits = subst (λ (k : ℕ). k < 2 ^ 64) (sym (uncapped n s bytes)) bytes })) (ap (vint w64) (uncapped n s bytes))) refl (tt, record { fits = bytes }) $
    group ! 4 $ use1 𝓛 (raw ((Gives E.al 𝓛 𝓜.mem 𝓡.returns).pre y))
    (Gives-goes E.al 𝓛 𝓜.mem 𝓡.returns κ q (rb, ro) a (Incl-trans z.0.2.0 within) b o (n * s) al τ (ap capped (size-raw (ty_array (elτ E) n)) ∙ capped_is (n * s) bytes) (ap capped (align-raw (ty_array (elτ E) n))) bytes (capped_fits (align (elτ E)))) $
    calls_at_last ! (framed 𝓤 H 𝓜 𝓣) (Gives E.al 𝓛 𝓜.mem 𝓡.returns) (met.deallocate dd) y (and_then ! (get ! refl) (and_then ! (get ! refl) (and_then ! (get ! refl) (and_then ! (align_word !) (no_more !))))) (λ v.
    use1 𝓛 (later (given (v ≡ vunit) (‵ (flft κ q)))) (Gives-Gives E.al 𝓛 𝓜.mem 𝓡.returns κ q (rb, ro) a b o (n * s) al τ v) $ await ! tt $ learn ! (λ is_unit.
    lands_last ! refl (subst (λ (u : Val). T (has_ty ty_unit u) × WT u) (sym is_unit) (tt, tt)) $ exec ! 𝓣.C 𝓣.Λ env' (after 1 fn.body) (at_ret env' Post) $
    sets ! (of_opd ! (unit_lit !)) refl (tt, tt) $ returns ! (look_at ! 0 refl) $ free_all ! refl $ keep ! (0 ∷ 1 ∷ []) $ join ! $
    nothing ! $ feq_i ! (List Val) (vunit ∷ []) (vunit ∷ []) refl $ nothing ! $ nothing ! $ fjoin ! $ nothing ! $ fjoin ! $ nothing ! $ fjoin ! $ nothing ! $ fjoin ! $
    move ! (3 ∷ 0 ∷ 1 ∷ 2 ∷ []) $ by ! (leaves 𝓛 En hs c z vunit tt (tt, (tt, (tt, (tt, tt)))) (tt, (tt, (tt, (tt, tt))))))))))))
