-- `allocate` has a block of cells from the allocator, none of them written, and its token. Assumes `Logic`.
use mathlib.Core.Path.{◌≡◌, refl, sym, ap, subst, ◌∙◌}
use mathlib.Core.Bool.{true, false}
use Prim.Native.Nat.{ℕ, ◌+◌, ◌-◌, ◌*◌, ◌<◌, ◌^◌}
use native.Mathlib.Nat.{zero-mul}
use native.Mathlib.Omega.{arith}
use mathlib.Core.List.{List, [], ◌∷◌, ◌++◌}
use lib.Dec.{lit<}
use lib.ListN.{length}
use base.Fraction.{full_share}
use mir.MapTy.{inst_fn}
use mir.Syntax.{Fn, Body, Ty, named, w64, ty_array}
use mir.Val.{Val, vptr, vint, vstruct, vcons, vnil}
use base.Logic.{SProp, emp}
use base.Fml.{Lft, Share, ftrue, froom, flft, Incl-trans}
use prog.Capped.{capped_is, capped_fits}
use prog.Memory.{align, capped}
use prog.RawLaws.{size-raw, align-raw}
use prog.Wp.{Env, Wp, WpFn, after_seq, at_return}
use contract.BorrowLft.{◌⊑◌}
use contract.Monad.{fact, fact_i}
use contract.Running.{tables}
use types.Kit.{Item, Sq, ‵, raw, ◌⊛◌, later, await, prop, at_ret, any_q, Post as After, ◌$◌, ◌∵◌, !, qed, by, move, keep, drop, use0, use1, use2, split, join, rewrite, regoal, fsplit, fjoin}
use types.Match.{live, vrt, in_variant}
use types.Part.{whole, agg}
use types.Run.{stop, fld, bin, lit, of_opd, and_then, no_more, size_word, align_word, first, switches_on, exec, returns, enter}
use types.ByLocal.{alloc_all, pass_all, free_all, look_at, get, get_in, get_tag, sets, sets_last, lands_as, is, env}
use denote.Array.{Array}
use denote.Builtin.{RefOf, usize}
use denote.Exit.{yes}
use denote.Laws.{Is}
use denote.Memory.{part_at}
use denote.Param.{layout}
use denote.RattleType.{RattleType, owns}
use denote.RawPtr.{Ptr, block_ptr}
use denote.Ref.{ShrRef}
use denote.Signature.{plain}
use denote.Steps.{nothing, heard, owned}
use denote.Struct.Struct.{Struct, Struct-Makes}
use denote.Struct.Declared as Declared
use denote.Struct.Tuple.{Tuple}
use denote.Triple.Call.{calls_at}
use denote.Triple.Table.{framed}
use denote.Triple.Walked.{Stays, stay_dropped, walk_of, Goes-dropped}
use Rattle.core.proofs.alloc.Calls.{token, Answer-typed, Takes, at_takes, Answered, Takes-goes, Takes-gives, answers}
use Rattle.core.proofs.slots.Leases.{uncapped}
use Rattle.core.specs.Allocator.{array_of}
use Rattle.core.specs.contracts.result.Result as RS
use Rattle.core.specs.contracts.alloc.AllocError as AE
use Rattle.std.proofs.raw_atomic.Walks.{proved_at, leaves}
use Rattle.std.specs.Prelude.{IfOk, Ok, Err}
use Rattle.std.specs.Vec.Ownership.{FitsInBlock}
use Rattle.std_alloc.proofs.RawLayout.{as_written}
use Rattle.std_alloc.proofs.RcSteps.{word, word-Good, first_Good, Good}
use Rattle.std_alloc.proofs.ResultValues.{ok_of, err_of}
use Rattle.std_alloc.proofs.VecSteps.El.{El, R, P, args, el_x, elτ, sz}
use Rattle.std_alloc.proofs.VecSteps.Rows.{empty}
use Rattle.std_alloc.proofs.VecSteps.Shapes.{after, head, arm_body}
use Rattle.change_ring.proofs.Memory.{Cr, Bs, Mark, mark, word_made, mark_made, block_made, two_val, two_of}
use Rattle.change_ring.specs.contracts.cells.allocate as F
use Rattle.change_ring.specs.contracts.cells.allocate.Key.{name as #self}
use Rattle.change_ring.proofs.cells.allocate.Statement.{statement}
use Rattle.change_ring.proofs.cells.allocate.Code as code

pub allocate_spec : {M : Type 1} → statement M
allocate_spec 𝓤 𝓛 𝓜 𝓡 wired X W LX LW g d dd met md =
    let E : El = record { row = X; laws = LX; al = record { row = W; laws = LW; g = g; d = d; drops = dd } } in
    let H = 𝓛.H in let 𝓣 = tables 𝓤 H 𝓜 𝓡 𝓡.env in
    let En = F.ended X W g d dd in let c = F.clauses X W g d dd 𝓛 𝓜.mem 𝓡.returns in let fn : Fn = inst_fn (args E) code.function in
    let handle = RefOf (0 ∷ []) tt (plain (λ _. P E)) (λ _. tt) in
    let hs : Stays En.signature.params En.kept = (stay_dropped handle yes, (stay_dropped (plain (λ _. usize)) yes, tt)) in
    let Two : RattleType = Tuple (Bs E ∷ Cr E ∷ []) in let Out : RattleType = RS.the_row Two AE.the_row in
    proved_at 𝓛 En hs c 𝓜 𝓡 (Goes-dropped 𝓛 3 handle yes (λ κs x f. refl), (Goes-dropped 𝓛 3 (plain (λ _. usize)) yes (λ κs x f. refl), tt))
    (#self (args E)) fn (code.unfolded 𝓤 H 𝓜 𝓡 wired (X, (W, tt)) d dd) (λ z are.
    let κ : Lft = z.0.0.0 in let q : Share = z.0.1.0 in let a = z.0.3.0.now in let rb = z.0.3.0.ref_ptr.0 in let ro = z.0.3.0.ref_ptr.1 in let n = z.0.3.1.0 in
    let others : Item 𝓤 = ‵ (flft z.0.0.1.0 z.0.1.1.0) ⊛ ‵ (flft z.0.0.1.1.0 z.0.1.1.1.0) ⊛ ‵ ftrue in
    let Post : Val → SProp 𝓤 = (walk_of 𝓛 En hs c).post z in
    let s = sz E in let al : ℕ = capped (align (elτ E)) in let τ : Ty = array_of (R E) n in
    let both : Body = head (after 2 fn.body) in
    let Made : Out.Denot → Type 0 = λ r. IfOk r (λ t. (t.1.at ≡ t.0.ptr) × (t.1.capacity ≡ n) × (t.1.written ≡ []) × (t.1.alloc ≡ a)) in
    let exits : (r : Out.Denot) (v : Val) → Made r → Sq 𝓛 (‵ (Out.own_val r (v ∷ [])) ∷ ‵ (flft κ q) ∷ others ∷ []) (prop (Post v)) = λ r v made.
    move ! (1 ∷ 2 ∷ []) $ join ! $ use0 𝓛 (raw (fact 𝓤 (Made r))) (fact_i 𝓤 (Made r) (emp 𝓤) made) $ move ! (2 ∷ []) $ nothing ! $ nothing ! $ fjoin ! $ nothing ! $ fjoin ! $
    move ! (3 ∷ 0 ∷ 1 ∷ 2 ∷ []) $ by ! (leaves 𝓛 En hs c z v r (tt, (tt, tt)) (tt, (tt, tt))) in
    qed 𝓛 (((‵ (flft κ q) ⊛ others) ⊛ ‵ (owns (ShrRef (named 0) κ (P E) ∷ usize ∷ []) z.0.3 z.0.4))
    ∷ (raw (fact 𝓤 (z.0.0.1.0 ⊑ X.lives)) ⊛ raw (fact 𝓤 (z.0.0.1.1.0 ⊑ W.lives)) ⊛ raw (fact 𝓤 (FitsInBlock (R E) n))) ∷ []) ∵
    move ! (1 ∷ []) $ split ! $ drop ! $ split ! $ heard ! (z.0.0.1.1.0 ⊑ W.lives) (λ within. heard ! (FitsInBlock (R E) n) (λ asked.
    split ! $ split ! $ move ! (2 ∷ []) $ fsplit ! $ fsplit ! $ drop ! $ keep ! (0 ∷ 2 ∷ 3 ∷ []) $
    -- [the handle; its token; other tokens]
    let small : n * s < 2 ^ 63 = asked.0 in let bytes : n * s < 2 ^ 64 = omega arith in
    let y : (Takes E.al 𝓛 𝓜.mem 𝓡.returns).Ghost = at_takes E.al 𝓛 𝓜.mem 𝓡.returns κ q (rb, ro) a (n * s) al τ in
    regoal ! (λ (us : List Val). prop (WpFn 𝓤 H 𝓣.C 𝓣.Λ fn us Post)) (λ i. are.0.0 i ++ (are.1.0.0 i ++ [])) refl $
    enter ! 𝓣.C 𝓣.Λ fn (vptr rb ro ∷ vint w64 n ∷ []) Post $ alloc_all ! (λ l. pass_all ! refl ((tt, tt), ((tt, record { fits = are.1.0.1 }), tt)) $
    let env' : Env 𝓤 H = env fn.locals l in
    let Then : After 𝓤 H = any_q (after_seq 𝓤 H (Wp 𝓤 H 𝓣.C 𝓣.Λ env' (after 3 fn.body) (at_return 𝓤 H env' Post)) (at_return 𝓤 H env' Post)) in
    sets ! (is ! (bin ! (get ! refl) (size_word !) (record { fits = subst (λ (k : ℕ). k < 2 ^ 64) (sym (uncapped n s bytes)) bytes })) (ap (vint w64) (uncapped n s bytes))) refl (tt, record { fits = bytes }) $
    use2 𝓛 (raw ((Takes E.al 𝓛 𝓜.mem 𝓡.returns).pre y))
    (Takes-goes E.al 𝓛 𝓜.mem 𝓡.returns κ q (rb, ro) a (Incl-trans z.0.2.0 within) (n * s) al τ (ap capped (size-raw (ty_array (elτ E) n)) ∙ capped_is (n * s) bytes) (ap capped (align-raw (ty_array (elτ E) n))) bytes (capped_fits (align (elτ E)))) $
    calls_at ! (framed 𝓤 H 𝓜 𝓣) (Takes E.al 𝓛 𝓜.mem 𝓡.returns) (met.allocate dd) y (and_then ! (get ! refl) (and_then ! (get ! refl) (and_then ! (align_word !) (no_more !)))) (λ v.
    use1 𝓛 (later (raw (Answered E.al 𝓛 𝓜.mem 𝓡.returns a τ v) ⊛ ‵ (flft κ q))) (Takes-gives E.al 𝓛 𝓜.mem 𝓡.returns κ q (rb, ro) a (n * s) al τ v) $ await ! tt $ split ! $
    answers E.al ! 𝓜.mem 𝓡.returns a τ v
    (λ b o e.
    let p : Ptr = block_ptr b o in
    let base : (Bs E).Denot = record { ptr = p } in
    let cells : (Cr E).Denot = record { mark = record {}; at = p; capacity = n; written = []; alloc = a } in
    let made : Val = two_val (word p) mark in
    let typed : Good (layout Two) made = (tt, ((tt, tt), ((tt, tt), tt))) in
    let ok = first_Good (layout Two) made typed in
    let none : List (el_x E) = [] in let here : o ≡ o + length none * s = omega (arith, zero-mul s) in let all : n ≡ n - length none = omega arith in
    lands_as ! e refl (Answer-typed true b o) $ first ! $ switches_on ! (get_tag ! (vrt ! refl (fld ! refl (stop !))) (whole !)) $ exec ! 𝓣.C 𝓣.Λ env' (arm_body 0 both) Then $
    sets ! (of_opd ! (get_in ! (vrt ! refl (fld ! refl (stop !))) (in_variant ! 0 0 refl refl (whole !)))) refl (tt, tt) $ sets ! (of_opd ! (get ! refl)) refl (tt, tt) $
    sets ! (agg ! (and_then ! (get ! refl) (no_more !))) refl (word-Good [] p) $ sets ! (agg ! (no_more !)) refl (tt, tt) $ sets ! (agg ! (and_then ! (get ! refl) (no_more !))) refl (tt, (tt, tt)) $
    sets ! (agg ! (and_then ! (get ! refl) (and_then ! (get ! refl) (no_more !)))) refl typed $ sets_last ! (agg ! (and_then ! (lit ! tt) (and_then ! (get ! refl) (no_more !)))) refl ok $
    exec ! 𝓣.C 𝓣.Λ env' (after 3 fn.body) (at_ret env' Post) $ sets ! (of_opd ! (get ! refl)) refl ok $
    as_written ! (ty_array (elτ E) n) b o $ rewrite ! 0 (λ (x : ℕ × ℕ). ‵ (froom (ty_array (elτ E) x.0) b x.1)) (λ i. (all i, here i)) refl $
    use0 𝓛 (‵ (part_at (Array (R E) (length none)) full_share none b o)) (empty E 𝓛 none b o refl) $ block_made E ! (token E.al a) b o n none small $
    use0 𝓛 (‵ ((Mark E).own_val (tt, tt) (mark ∷ []))) (mark_made E 𝓛) $ fjoin ! $ use0 𝓛 (‵ ((Bs E).own_val base (word p ∷ []))) (word_made E 𝓛 p) $
    use2 𝓛 (‵ (Two.own_val (base, cells) (made ∷ []))) (two_of 𝓛 (Bs E) (Cr E) base cells (word p) mark) $
    use1 𝓛 (‵ (Out.own_val (Ok (base, cells)) (live 0 (vcons made vnil) ∷ []))) (ok_of 𝓛 Two AE.the_row (base, cells) made) $
    returns ! (look_at ! 0 refl) $ free_all ! refl $ keep ! (0 ∷ 1 ∷ 2 ∷ []) $ exits (Ok (base, cells)) (live 0 (vcons made vnil)) (refl, refl, refl, refl))
    (λ e.
    let Refusal : RattleType = Struct (Declared.shape AE.the_type) in
    let refused : Val = live 1 (vcons (vstruct vnil) vnil) in
    lands_as ! e refl (Answer-typed false 0 0) $ first ! $ switches_on ! (get_tag ! (vrt ! refl (fld ! refl (stop !))) (whole !)) $ exec ! 𝓣.C 𝓣.Λ env' (arm_body 1 both) Then $
    sets ! (of_opd ! (get_in ! (vrt ! refl (fld ! refl (stop !))) (in_variant ! 1 0 refl refl (whole !)))) refl (tt, tt) $
    sets_last ! (agg ! (and_then ! (lit ! tt) (and_then ! (get ! refl) (no_more !)))) refl (tt, (record { fits = lit< tt }, (tt, tt))) $
    exec ! 𝓣.C 𝓣.Λ env' (after 3 fn.body) (at_ret env' Post) $ sets ! (of_opd ! (get ! refl)) refl (tt, (record { fits = lit< tt }, (tt, tt))) $
    owned ! Refusal (Is Refusal) (Struct-Makes 𝓛 (Declared.shape AE.the_type) tt) tt (vstruct vnil ∷ []) (tt, (refl, tt)) $
    use1 𝓛 (‵ (Out.own_val (Err (record {})) (refused ∷ []))) (err_of 𝓛 Two AE.the_row (record {}) (vstruct vnil)) $
    returns ! (look_at ! 0 refl) $ free_all ! refl $ keep ! (0 ∷ 1 ∷ 2 ∷ []) $ exits (Err (record {})) refused tt))))))
