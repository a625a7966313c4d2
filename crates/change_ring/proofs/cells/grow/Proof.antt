-- `grow` hands the block to the allocator, and has what comes back. Assumes `Logic`.
use mathlib.Core.Path.{◌≡◌, refl, sym, subst, ◌∙◌}
use mathlib.Core.Bool.{true, false}
use Prim.Native.Nat.{ℕ, ◌+◌, ◌-◌, ◌*◌, ◌≤◌}
use mathlib.Core.List.{List, [], ◌∷◌, ◌++◌}
use lib.Dec.{T, lit<}
use lib.ListN.{length}
use base.Fraction.{full_share}
use mir.MapTy.{inst_fn}
use mir.Syntax.{Fn, Body, named, w64, ty_array}
use mir.Val.{Val, vptr, vint, vstruct, vcons, vnil, has_ty, WT}
use base.Logic.{SProp, ex, emp}
use base.Fml.{Lft, Share, ftrue, fat, froom, flft, fobs, fbor, Incl-trans}
use prog.Wp.{Env, Wp, WpFn, after_seq, at_return}
use contract.BorrowLft.{◌⊑◌}
use contract.Monad.{fact, fact_i}
use contract.Running.{tables}
use types.SemTy.{Body as Borrowed}
use types.Kit.{Item, Sq, ‵, raw, ◌⊛◌, later, await, prop, at_ret, any_q, Post as After, ◌$◌, ◌∵◌, !, qed, by, move, keep, drop, use0, use1, use2, split, split3, join, rewrite, regoal, fsplit, fsplit3, fjoin, fjoin3, feq_i}
use types.Match.{live, vrt, in_variant}
use types.Part.{whole, sub, agg}
use types.Run.{stop, fld, lit, of_opd, and_then, no_more, first, blocks, switches_on, exec, returns, enter}
use types.ByLocal.{alloc_all, pass_all, free_all, look_at, get, get_in, get_tag, sets, sets_last, lands_last, take_at, give_at, is, env}
use denote.Builtin.{RefOf, usize}
use denote.Exit.{yes, no}
use denote.Laws.{Is}
use denote.Array.{Array}
use denote.Memory.{mem, part_at}
use denote.Param.{layout}
use denote.Param.Laws.{param_laws}
use denote.RattleType.{RattleType, owns}
use denote.RawPtr.{Ptr, block_ptr}
use denote.Ref.{ShrRef, MutRef}
use denote.Signature.{plain}
use denote.Steps.{nothing, heard, owned, opens, closes}
use denote.Struct.Struct.{Struct, Struct-Makes}
use denote.Struct.Declared as Declared
use denote.Triple.Call.{calls_at_last}
use denote.Triple.Table.{framed}
use denote.Triple.Walked.{Stays, stay_dropped, stay_ref, walk_of, Goes-dropped, Goes-ref}
use Rattle.core.proofs.alloc.Calls.{token, Answer, Answer-typed}
use Rattle.core.proofs.alloc.Resizes.{Grows, Resizes, at_resizes, Resizes-goes, Resizes-gives, Flagged, left_by, flagged}
use Rattle.core.specs.contracts.result.Result as RS
use Rattle.core.specs.contracts.alloc.AllocError as AE
use Rattle.std.proofs.raw_atomic.Walks.{proved_at, leaves}
use Rattle.std.specs.Prelude.{IfOk, OnErr, Ok, Err}
use Rattle.std.specs.Vec.Ownership.{FitsInBlock}
use Rattle.std_alloc.proofs.RawLayout.{as_raw, as_written}
use Rattle.std_alloc.proofs.RcSteps.{word, word-Good, first_Good}
use Rattle.std_alloc.proofs.ResultValues.{ok_of, err_of}
use Rattle.std_alloc.proofs.VecSteps.El.{El, R, P, args, el_x, elτ, sz}
use Rattle.std_alloc.proofs.VecSteps.Shapes.{after, head, arm_body}
use Rattle.change_ring.specs.inner.Ownership.{cells_own}
use Rattle.change_ring.proofs.Memory.{Cr, Bs, word_made, block_had, block_made}
use Rattle.change_ring.proofs.cells.Base.TheLaws as base-laws
use Rattle.change_ring.specs.contracts.cells.grow as F
use Rattle.change_ring.specs.contracts.cells.grow.Key.{name as #self}
use Rattle.change_ring.proofs.cells.grow.Statement.{statement}
use Rattle.change_ring.proofs.cells.grow.Code as code

pub grow_spec : {M : Type 1} → statement M
grow_spec 𝓤 𝓛 𝓜 𝓡 wired X W LX LW g d dd met md =
    let E : El = record { row = X; laws = LX; al = record { row = W; laws = LW; g = g; d = d; drops = dd } } in
    let H = 𝓛.H in let 𝓣 = tables 𝓤 H 𝓜 𝓡 𝓡.env in
    let En = F.ended X W g d dd in let c = F.clauses X W g d dd 𝓛 𝓜.mem 𝓡.returns in let fn : Fn = inst_fn (args E) code.function in
    let handle = RefOf (0 ∷ []) tt (plain (λ _. P E)) (λ _. tt) in let number = stay_dropped (plain (λ _. usize)) yes in let went = Goes-dropped 𝓛 4 (plain (λ _. usize)) yes (λ κs x f. refl) in
    let hs : Stays En.signature.params En.kept = (stay_dropped handle yes, (stay_dropped (plain (λ _. Bs E)) no, (number, (number, (number, (stay_ref (1 ∷ []) tt (plain (λ _. Cr E)), tt)))))) in
    let Out : RattleType = RS.the_row (Bs E) AE.the_row in
    proved_at 𝓛 En hs c 𝓜 𝓡
    (Goes-dropped 𝓛 4 handle yes (λ κs x f. refl), (Goes-dropped 𝓛 4 (plain (λ _. Bs E)) no (λ κs x f. refl), (went, (went, (went, (Goes-ref 𝓛 4 1 tt (plain (λ _. Cr E)), tt))))))
    (#self (args E)) fn (code.unfolded 𝓤 H 𝓜 𝓡 wired (X, (W, tt)) d dd) (λ z are.
    let κs = z.0.0 in let qs = z.0.1 in let κ : Lft = κs.0 in let q : Share = qs.0 in let κ₁ : Lft = κs.1.0 in let κ₂ : Lft = κs.1.1.0 in let q₂ : Share = qs.1.1.0 in
    let a = z.0.3.0.now in let rb = z.0.3.0.ref_ptr.0 in let ro = z.0.3.0.ref_ptr.1 in
    let base = z.0.3.1.0 in let used = z.0.3.1.1.0 in let n = z.0.3.1.1.1.0 in let more = z.0.3.1.1.1.1.0 in
    let owner = z.0.3.1.1.1.1.1.0 in let cb = owner.ref_ptr.0 in let co = owner.ref_ptr.1 in let d' = owner.now in let xs : List (el_x E) = d'.written in
    let Asks : Type 0 = (d'.at ≡ base.ptr) × (d'.capacity ≡ n) × (d'.alloc ≡ a) × (length xs ≡ used) × (used ≤ n) × (n ≤ more) × FitsInBlock (R E) more in
    let Ok_says : Out.Denot → (Cr E).Denot → Type 0 = λ r w. IfOk r (λ b. w ≡ record d' { at = b.ptr; capacity = more }) in
    let Err_says : Out.Denot → (Cr E).Denot → Type 0 = λ r w. OnErr r (w ≡ d') in
    let Post : Val → SProp 𝓤 = (walk_of 𝓛 En hs c).post z in
    let s = sz E in let both : Body = head (after 2 fn.body) in
    let e1 = (base-laws.lowers (R E) (param_laws 0 X LX)).val_is base z.0.4.1.0 are.1.0 in
    let rest : Item 𝓤 = ‵ (flft κs.1.1.1.0 qs.1.1.1.0) ⊛ ‵ ftrue in
    let Left : Out.Denot → Val → (Cr E).Denot → List (Item 𝓤) = λ r v w.
    ‵ (Out.own_val r (v ∷ [])) ∷ ‵ (fobs owner.ghost_name ((Cr E).coded.code w)) ∷ ‵ (fbor κ₁ (Borrowed (mem (Cr E)) cb co owner.ghost_name)) ∷ ‵ (flft κ₁ qs.1.0) ∷ ‵ (flft κ q) ∷ ‵ (flft κ₂ q₂) ∷ rest ∷ [] in
    let exits : (r : Out.Denot) (v : Val) (w : (Cr E).Denot) → Ok_says r w → Err_says r w → Sq 𝓛 (Left r v w) (prop (Post v)) = λ r v w ok err.
    move ! (5 ∷ 6 ∷ []) $ join ! $ move ! (4 ∷ 0 ∷ []) $ join ! $ move ! (4 ∷ 0 ∷ []) $ join ! $
    use0 𝓛 (raw (fact 𝓤 (Err_says r w))) (fact_i 𝓤 (Err_says r w) (emp 𝓤) err) $ use0 𝓛 (raw (fact 𝓤 (Ok_says r w))) (fact_i 𝓤 (Ok_says r w) (emp 𝓤) ok) $ join ! $ move ! (2 ∷ []) $
    move ! (3 ∷ 4 ∷ []) $ feq_i ! (List Val) z.0.4.1.1.1.1.1.0 (vptr cb co ∷ []) are.1.1.1.1.1.0.0 $ fjoin3 ! $ nothing ! $ move ! (1 ∷ 0 ∷ []) $ fjoin ! $
    nothing ! $ fjoin ! $ nothing ! $ fjoin ! $ nothing ! $ fjoin ! $ nothing ! $ fjoin ! $ nothing ! $ fjoin ! $ move ! (3 ∷ 0 ∷ 1 ∷ 2 ∷ []) $
    by ! (leaves 𝓛 En hs c z v r (tt, (tt, (tt, (tt, (tt, (w, tt)))))) (tt, (tt, (tt, (tt, (tt, (tt, tt))))))) in
    qed 𝓛 (((‵ (flft κ q) ⊛ ‵ (flft κ₁ qs.1.0) ⊛ ‵ (flft κ₂ q₂) ⊛ rest) ⊛ ‵ (owns (ShrRef (named 0) κ (P E) ∷ Bs E ∷ usize ∷ usize ∷ usize ∷ MutRef (named 1) κ₁ (Cr E) ∷ []) z.0.3 z.0.4))
    ∷ (raw (fact 𝓤 (κ₂ ⊑ X.lives)) ⊛ raw (fact 𝓤 (κs.1.1.1.0 ⊑ W.lives)) ⊛ raw (fact 𝓤 Asks)) ∷ []) ∵
    move ! (1 ∷ []) $ split ! $ heard ! (κ₂ ⊑ X.lives) (λ lives. split ! $ heard ! (κs.1.1.1.0 ⊑ W.lives) (λ within. heard ! Asks (λ asked.
    split ! $ split3 ! $ move ! (2 ∷ []) $ split ! $ move ! (4 ∷ []) $ fsplit3 ! $ fsplit ! $ drop ! $ move ! (2 ∷ []) $ fsplit3 ! $ move ! (2 ∷ []) $ fsplit3 ! $ move ! (1 ∷ []) $ fsplit3 ! $
    keep ! (1 ∷ 2 ∷ 12 ∷ 7 ∷ 11 ∷ 9 ∷ 10 ∷ []) $
    -- [the owner, in two; its token; the handle; three tokens]
    let fits = are.1.1.0.1 in let fits_n = are.1.1.1.0.1 in let fits_more = are.1.1.1.1.0.1 in
    regoal ! (λ (us : List Val). prop (WpFn 𝓤 H 𝓣.C 𝓣.Λ fn us Post)) (λ i. are.0.0 i ++ (e1 i ++ (are.1.1.0.0 i ++ (are.1.1.1.0.0 i ++ (are.1.1.1.1.0.0 i ++ (are.1.1.1.1.1.0.0 i ++ [])))))) refl $
    enter ! 𝓣.C 𝓣.Λ fn (vptr rb ro ∷ word base.ptr ∷ vint w64 used ∷ vint w64 n ∷ vint w64 more ∷ vptr cb co ∷ []) Post $
    alloc_all ! (λ l. pass_all ! refl ((tt, tt), (word-Good [] base.ptr, ((tt, record { fits = fits }), ((tt, record { fits = fits_n }), ((tt, record { fits = fits_more }), ((tt, tt), tt)))))) $
    let env' : Env 𝓤 H = env fn.locals l in
    let Then : After 𝓤 H = any_q (after_seq 𝓤 H (Wp 𝓤 H 𝓣.C 𝓣.Λ env' (after 3 fn.body) (at_return 𝓤 H env' Post)) (at_return 𝓤 H env' Post)) in
    opens ! tt (Cr E) {h = d'} cb co (λ vs. move ! (1 ∷ []) $ fsplit ! $ move ! (1 ∷ []) $
    rewrite ! 0 (λ (x : W.Denot × Ptr × ℕ). ‵ (cells_own (token E.al x.0) (R E) x.1 x.2 xs)) (λ i. (asked.2 i, asked.0 i, asked.1 i)) refl $
    block_had E ! (token E.al a) base.ptr n xs (λ b o e small.
    -- [the items; the room; the right; the mark; its cell; its open borrow, in three; the handle; three tokens]
    rewrite ! 0 (λ (k : ℕ). ‵ (part_at (Array (R E) k) full_share xs b o)) asked.3 refl $ rewrite ! 1 (λ (k : ℕ). ‵ (froom (ty_array (elτ E) (n - k)) b (o + k * s))) asked.3 refl $
    move ! (1 ∷ []) $ as_raw ! (ty_array (elτ E) (n - used)) b (o + used * s) $ move ! (1 ∷ 0 ∷ 2 ∷ []) $ fjoin3 ! $
    take_at ! 2 $ rewrite ! 0 (λ (p : Ptr). ‵ (fat full_share (layout (Bs E)) (l 2) 0 (word p))) e refl $ give_at ! 2 $
    move ! (7 ∷ 8 ∷ []) $ join ! $ move ! (7 ∷ 0 ∷ []) $ join ! $ move ! (1 ∷ 0 ∷ []) $
    let y : (Resizes E.al X (Grows X) 𝓛 𝓜.mem 𝓡.returns).Ghost = at_resizes E.al X (Grows X) 𝓛 𝓜.mem 𝓡.returns κ κ₂ q q₂ (rb, ro) a b o used n more xs in
    let By = left_by E.al X (Grows X) 𝓛 𝓜.mem 𝓡.returns κ κ₂ q q₂ (rb, ro) a b o used n more xs in
    use2 𝓛 (raw ((Resizes E.al X (Grows X) 𝓛 𝓜.mem 𝓡.returns).pre y))
    (Resizes-goes E.al X (Grows X) 𝓛 𝓜.mem 𝓡.returns κ κ₂ q q₂ (rb, ro) a b o used n more xs (Incl-trans z.0.2.0 within) lives (asked.4, asked.5, asked.6.0) fits fits_n fits_more) $
    first ! $ blocks ! $ calls_at_last ! (framed 𝓤 H 𝓜 𝓣) (Resizes E.al X (Grows X) 𝓛 𝓜.mem 𝓡.returns) (met.grow dd X LX) y
    (and_then ! (get ! refl) (and_then ! (get_in ! (fld ! refl (stop !)) (sub ! 0 refl (whole !))) (and_then ! (get ! refl) (and_then ! (get ! refl) (and_then ! (get ! refl) (no_more !)))))) (λ v.
    use1 𝓛 (later (raw (ex 𝓤 (Flagged 𝓛 By v)) ⊛ ‵ (flft κ q) ⊛ ‵ (flft κ₂ q₂))) (Resizes-gives E.al X (Grows X) 𝓛 𝓜.mem 𝓡.returns κ κ₂ q q₂ (rb, ro) a b o used n more xs v) $ await ! tt $ split3 ! $
    flagged ! v By
    (λ b' o' e'.
    let p : Ptr = block_ptr b' o' in let to : (Bs E).Denot = record { ptr = p } in
    let new : (Cr E).Denot = record d' { at = p; capacity = more } in
    let ok = first_Good (layout (Bs E)) (word p) (word-Good [] p) in
    lands_last ! refl (subst (λ (u : Val). T (has_ty (layout Answer) u) × WT u) (sym e') (Answer-typed true b' o')) $ exec ! 𝓣.C 𝓣.Λ env' (after 1 fn.body) (at_ret env' Post) $
    sets ! (is ! (of_opd ! (get ! refl)) e') refl (Answer-typed true b' o') $ first ! $ switches_on ! (get_tag ! (vrt ! refl (fld ! refl (stop !))) (whole !)) $ exec ! 𝓣.C 𝓣.Λ env' (arm_body 0 both) Then $
    sets ! (of_opd ! (get_in ! (vrt ! refl (fld ! refl (stop !))) (in_variant ! 0 0 refl refl (whole !)))) refl (tt, tt) $
    sets ! (agg ! (and_then ! (get ! refl) (no_more !))) refl (word-Good [] p) $ sets_last ! (agg ! (and_then ! (lit ! tt) (and_then ! (get ! refl) (no_more !)))) refl ok $
    exec ! 𝓣.C 𝓣.Λ env' (after 3 fn.body) (at_ret env' Post) $ sets ! (of_opd ! (get ! refl)) refl ok $
    -- [the block; two tokens; the mark; its cell; its open borrow, in three; a token]
    fsplit3 ! $ rewrite ! 0 (λ (k : ℕ). ‵ (part_at (Array (R E) k) full_share xs b' o')) (sym asked.3) refl $
    move ! (1 ∷ []) $ as_written ! (ty_array (elτ E) (more - used)) b' (o' + used * s) $ rewrite ! 0 (λ (k : ℕ). ‵ (froom (ty_array (elτ E) (more - k)) b' (o' + k * s))) (sym asked.3) refl $
    move ! (1 ∷ []) $ block_made E ! (token E.al a) b' o' more xs asked.6.0 $ rewrite ! 0 (λ (x : W.Denot). ‵ (cells_own (token E.al x) (R E) p more xs)) (sym asked.2) refl $
    move ! (3 ∷ 0 ∷ []) $ fjoin ! $ move ! (3 ∷ 0 ∷ 4 ∷ 5 ∷ 6 ∷ []) $ closes ! tt (Cr E) new vs cb co $
    use0 𝓛 (‵ ((Bs E).own_val to (word p ∷ []))) (word_made E 𝓛 p) $ use1 𝓛 (‵ (Out.own_val (Ok to) (live 0 (vcons (word p) vnil) ∷ []))) (ok_of 𝓛 (Bs E) AE.the_row to (word p)) $
    returns ! (look_at ! 0 refl) $ free_all ! refl $ exits (Ok to) (live 0 (vcons (word p) vnil)) new refl tt)
    (λ e'.
    let Refusal : RattleType = Struct (Declared.shape AE.the_type) in
    let refused : Val = live 1 (vcons (vstruct vnil) vnil) in
    lands_last ! refl (subst (λ (u : Val). T (has_ty (layout Answer) u) × WT u) (sym e') (Answer-typed false 0 0)) $ exec ! 𝓣.C 𝓣.Λ env' (after 1 fn.body) (at_ret env' Post) $
    sets ! (is ! (of_opd ! (get ! refl)) e') refl (Answer-typed false 0 0) $ first ! $ switches_on ! (get_tag ! (vrt ! refl (fld ! refl (stop !))) (whole !)) $ exec ! 𝓣.C 𝓣.Λ env' (arm_body 1 both) Then $
    sets ! (of_opd ! (get_in ! (vrt ! refl (fld ! refl (stop !))) (in_variant ! 1 0 refl refl (whole !)))) refl (tt, tt) $
    sets_last ! (agg ! (and_then ! (lit ! tt) (and_then ! (get ! refl) (no_more !)))) refl (tt, (record { fits = lit< tt }, (tt, tt))) $
    exec ! 𝓣.C 𝓣.Λ env' (after 3 fn.body) (at_ret env' Post) $ sets ! (of_opd ! (get ! refl)) refl (tt, (record { fits = lit< tt }, (tt, tt))) $
    fsplit3 ! $ rewrite ! 0 (λ (k : ℕ). ‵ (part_at (Array (R E) k) full_share xs b o)) (sym asked.3) refl $
    move ! (1 ∷ []) $ as_written ! (ty_array (elτ E) (n - used)) b (o + used * s) $ rewrite ! 0 (λ (k : ℕ). ‵ (froom (ty_array (elτ E) (n - k)) b (o + k * s))) (sym asked.3) refl $
    move ! (1 ∷ []) $ block_made E ! (token E.al a) b o n xs small $
    rewrite ! 0 (λ (x : W.Denot × Ptr × ℕ). ‵ (cells_own (token E.al x.0) (R E) x.1 x.2 xs)) (sym (λ i. (asked.2 i, (asked.0 ∙ e) i, asked.1 i))) refl $
    move ! (3 ∷ 0 ∷ []) $ fjoin ! $ move ! (3 ∷ 0 ∷ 4 ∷ 5 ∷ 6 ∷ []) $ closes ! tt (Cr E) d' vs cb co $
    owned ! Refusal (Is Refusal) (Struct-Makes 𝓛 (Declared.shape AE.the_type) tt) tt (vstruct vnil ∷ []) (tt, (refl, tt)) $
    use1 𝓛 (‵ (Out.own_val (Err (record {})) (refused ∷ []))) (err_of 𝓛 (Bs E) AE.the_row (record {}) (vstruct vnil)) $
    returns ! (look_at ! 0 refl) $ free_all ! refl $ exits (Err (record {})) refused d' tt refl)))))))))
