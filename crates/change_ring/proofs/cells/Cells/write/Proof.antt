-- `write` puts an item into a cell that was written, or into the first that wasn't. Assumes `Logic`.
use mathlib.Core.Path.{◌≡◌, refl, sym, ap, subst, ◌∙◌}
use Prim.Native.Nat.{ℕ, ◌+◌, ◌*◌, ◌<◌, ◌≤◌, ◌^◌}
use native.Mathlib.Omega.{arith}
use mathlib.Core.List.{List, [], ◌∷◌, ◌++◌}
use lib.ListN.{length}
use base.Fraction.{full_share}
use mir.MapTy.{inst_fn}
use mir.Syntax.{Fn, named, w64}
use mir.Val.{Val, vptr, vint, vunit}
use base.Logic.{SProp, sep, emp, apply∗}
use base.Fml.{Lft, Share, ftrue, fat, froom, flft}
use prog.Wp.{Env, WpFn}
use contract.BorrowLft.{◌⊑◌}
use contract.Monad.{fact, fact_i}
use contract.Running.{tables}
use types.Logic.{sem}
use types.Kit.{Item, ‵, raw, ◌⊛◌, prop, at_ret, ◌$◌, ◌∵◌, !, qed, by, move, keep, drop, use0, use2, split, join, rewrite, regoal, fsplit, fsplit3, fjoin, fjoin3, feq_i}
use types.Part.{whole, sub}
use types.Run.{init, stop, fld, bin, unit_lit, of_opd, size_word, assigns_last, first, blocks, exec, returns, enter}
use types.ByLocal.{alloc_all, pass_all, free_all, look_at, get, get_in, through, sets, take_at, give_at, is, env}
use denote.Builtin.{usize}
use denote.Exit.{yes, no}
use denote.Memory.{part_at}
use denote.Param.{layout}
use denote.Param.Laws.{param_laws}
use denote.RattleType.{owns}
use denote.RawPtr.{Ptr}
use denote.Ref.{MutRef}
use denote.Signature.{plain}
use denote.Steps.{nothing, heard, opens, closes}
use denote.Triple.Walked.{Stays, stay_dropped, stay_ref, walk_of, Goes-dropped, Goes-ref}
use Rattle.core.proofs.alloc.Calls.{token}
use Rattle.core.proofs.ptr.Rows.{times_below}
use Rattle.core.proofs.slots.Leases.{uncapped}
use Rattle.std.proofs.raw_atomic.Walks.{proved_at, leaves}
use Rattle.std_alloc.proofs.RcSteps.{word, word-Good}
use Rattle.std_alloc.proofs.VecSteps.El.{El, R, args, el_lawful, elτ, sz}
use Rattle.std_alloc.proofs.VecSteps.Rows.{el_in}
use Rattle.std_alloc.proofs.VecSteps.Shapes.{after}
use Rattle.change_ring.specs.inner.Ownership.{cells_own}
use Rattle.change_ring.proofs.Memory.{Cr, Bs, alone, items_at, room_past, with_cell, Fills, cell_out, block_had, block_made}
use Rattle.change_ring.proofs.cells.Base.TheLaws as base-laws
use Rattle.change_ring.specs.contracts.cells.Cells.write as F
use Rattle.change_ring.specs.contracts.cells.Cells.write.Key.{name as #self}
use Rattle.change_ring.proofs.cells.Cells.write.Statement.{statement}
use Rattle.change_ring.proofs.cells.Cells.write.Code as code

pub write_spec : {M : Type 1} → statement M
write_spec 𝓤 𝓛 𝓜 𝓡 wired X W LX LW g d dd met md =
    let E : El = record { row = X; laws = LX; al = record { row = W; laws = LW; g = g; d = d; drops = dd } } in
    let H = 𝓛.H in let 𝓣 = tables 𝓤 H 𝓜 𝓡 𝓡.env in
    let En = F.ended X W g d dd in let c = F.clauses X W g d dd 𝓛 𝓜.mem 𝓡.returns in let fn : Fn = inst_fn (args E) code.function in
    let hs : Stays En.signature.params En.kept =
    (stay_ref (0 ∷ []) tt (plain (λ _. Cr E)), (stay_dropped (plain (λ _. Bs E)) no, (stay_dropped (plain (λ _. usize)) yes, (stay_dropped (plain (λ _. R E)) no, tt)))) in
    proved_at 𝓛 En hs c 𝓜 𝓡
    (Goes-ref 𝓛 3 0 tt (plain (λ _. Cr E)), (Goes-dropped 𝓛 3 (plain (λ _. Bs E)) no (λ κs x f. refl), (Goes-dropped 𝓛 3 (plain (λ _. usize)) yes (λ κs x f. refl), (Goes-dropped 𝓛 3 (plain (λ _. R E)) no (λ κs x f. refl), tt))))
    (#self (args E)) fn (code.unfolded 𝓤 H 𝓜 𝓡 wired (X, (W, tt)) d dd) (λ z are.
    let κ : Lft = z.0.0.0 in let q : Share = z.0.1.0 in let rb = z.0.3.0.ref_ptr.0 in let ro = z.0.3.0.ref_ptr.1 in let d = z.0.3.0.now in
    let base = z.0.3.1.0 in let index = z.0.3.1.1.0 in let item = z.0.3.1.1.1.0 in
    let n = d.capacity in let xs = d.written in let ys = with_cell xs index item in let new : (Cr E).Denot = record d { written = ys } in
    let Asks : Type 0 = (base.ptr ≡ d.at) × (index ≤ length xs) × (index < n) in let Done : Type 0 = new ≡ new in
    let others : Item 𝓤 = ‵ (flft z.0.0.1.0 z.0.1.1.0) ⊛ ‵ (flft z.0.0.1.1.0 z.0.1.1.1.0) ⊛ ‵ ftrue in
    let Post : Val → SProp 𝓤 = (walk_of 𝓛 En hs c).post z in
    let s = sz E in let t = token E.al d.alloc in
    let e1 = (base-laws.lowers (R E) (param_laws 0 X LX)).val_is base z.0.4.1.0 are.1.0 in
    let one = alone (elτ E) z.0.4.1.1.1.0 ((el_lawful E 𝓛).typed item z.0.4.1.1.1.0 are.1.1.1.0) in let v = one.0 in let good = one.1.1 in
    qed 𝓛 (((‵ (flft κ q) ⊛ others) ⊛ ‵ (owns (MutRef (named 0) κ (Cr E) ∷ Bs E ∷ usize ∷ R E ∷ []) z.0.3 z.0.4))
    ∷ (raw (fact 𝓤 (z.0.0.1.0 ⊑ X.lives)) ⊛ raw (fact 𝓤 (z.0.0.1.1.0 ⊑ W.lives)) ⊛ raw (fact 𝓤 Asks)) ∷ []) ∵
    move ! (1 ∷ []) $ split ! $ drop ! $ split ! $ drop ! $ heard ! Asks (λ asked.
    split ! $ split ! $ move ! (2 ∷ []) $ fsplit3 ! $ fsplit3 ! $ drop ! $ move ! (3 ∷ []) $ fsplit3 ! $ keep ! (3 ∷ 4 ∷ 6 ∷ 1 ∷ 7 ∷ []) $
    rewrite ! 3 (λ (us : List Val). ‵ ((R E).own_val item us)) one.1.0 refl $
    -- [self, in two; its token; what the item owns; other tokens]
    regoal ! (λ (us : List Val). prop (WpFn 𝓤 H 𝓣.C 𝓣.Λ fn us Post)) (λ i. are.0.0 i ++ (e1 i ++ (are.1.1.0.0 i ++ (one.1.0 i ++ [])))) refl $
    enter ! 𝓣.C 𝓣.Λ fn (vptr rb ro ∷ word base.ptr ∷ vint w64 index ∷ v ∷ []) Post $
    alloc_all ! (λ l. pass_all ! refl ((tt, tt), (word-Good [] base.ptr, ((tt, record { fits = are.1.1.0.1 }), (good, tt)))) $
    let env' : Env 𝓤 H = env fn.locals l in
    opens ! tt (Cr E) {h = d} rb ro (λ vs. move ! (1 ∷ []) $ fsplit ! $ move ! (1 ∷ []) $ block_had E ! t d.at n xs (λ b o e small.
    let far : index * s < 2 ^ 64 = omega (arith, times_below index n s (2 ^ 63) (omega (arith, asked.2)) small) in
    use2 𝓛 (‵ (froom (elτ E) b (index * s + o)) ⊛ raw (Fills E 𝓛 n b o xs index item ys)) (cell_out E 𝓛 n b o xs index item asked.1 asked.2) $ split ! $
    take_at ! 2 $ rewrite ! 0 (λ (p : Ptr). ‵ (fat full_share (layout (Bs E)) (l 2) 0 (word p))) (asked.0 ∙ e) refl $ give_at ! 2 $ first ! $ blocks ! $
    sets ! (is ! (bin ! (get ! refl) (size_word !) (record { fits = subst (λ (k : ℕ). k < 2 ^ 64) (sym (uncapped index s far)) far })) (ap (vint w64) (uncapped index s far))) refl (tt, record { fits = far }) $
    sets ! (bin ! (get_in ! (fld ! refl (stop !)) (sub ! 0 refl (whole !))) (get ! refl) tt) refl (tt, tt) $
    -- [the room; what the rest waits for; the token; the mark; its cell; the open borrow, in three; what the item owns]
    sets ! (of_opd ! (get ! refl)) refl good $ assigns_last ! (of_opd ! (get ! refl)) (through ! refl (stop !)) (init ! 0 refl good) $
    exec ! 𝓣.C 𝓣.Λ env' (after 1 fn.body) (at_ret env' Post) $ sets ! (of_opd ! (unit_lit !)) refl (tt, tt) $
    move ! (0 ∷ 8 ∷ []) $ use2 𝓛 (‵ (part_at (R E) full_share item b (index * s + o))) (el_in E 𝓛 full_share item b (index * s + o) v) $
    use2 𝓛 (‵ (items_at E n b o ys) ⊛ ‵ (room_past E n b o ys)) (apply∗ 𝓤 (sem 𝓛 (part_at (R E) full_share item b (index * s + o))) (sep 𝓤 (sem 𝓛 (items_at E n b o ys)) (sem 𝓛 (room_past E n b o ys)))) $ split ! $
    block_made E ! t b o n ys small $ rewrite ! 0 (λ (p : Ptr). ‵ (cells_own t (R E) p n ys)) (sym e) refl $
    move ! (1 ∷ 0 ∷ []) $ fjoin ! $ move ! (1 ∷ 0 ∷ []) $ closes ! tt (Cr E) new vs rb ro $
    returns ! (look_at ! 0 refl) $ free_all ! refl $ keep ! (2 ∷ 3 ∷ 0 ∷ 1 ∷ []) $ join ! $
    use0 𝓛 (raw (fact 𝓤 Done)) (fact_i 𝓤 Done (emp 𝓤) refl) $ feq_i ! (List Val) (vunit ∷ []) (vunit ∷ []) refl $
    move ! (3 ∷ 4 ∷ []) $ feq_i ! (List Val) z.0.4.0 (vptr rb ro ∷ []) are.0.0 $ fjoin3 ! $ nothing ! $ nothing ! $ fjoin ! $ nothing ! $ fjoin ! $ nothing ! $ fjoin ! $ move ! (1 ∷ 0 ∷ []) $ fjoin ! $
    move ! (3 ∷ 0 ∷ 1 ∷ 2 ∷ []) $ by ! (leaves 𝓛 En hs c z vunit tt (new, (tt, (tt, (tt, tt)))) (tt, (tt, (tt, (tt, tt))))))))))
