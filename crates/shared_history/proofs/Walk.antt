-- What the walks cite, and how each ends. Assumes `Logic`.
pub use Rattle.std.proofs.Common.{◌≡◌, ◌≢◌, ℕ, ◌^◌, ◌<◌, ◌≤◌, ◌+◌, ◌-◌, List, [], ◌∷◌, ◌++◌, length, sym, refl, ap, ◌∙◌, subst, arith, lit<, w64}
pub use Rattle.std.proofs.raw_atomic.Walks.{proved}
pub use mathlib.Core.List.{IsPrefix}
pub use mir.Syntax.{a_type, dcons, dnil, named}
pub use mir.Val.{Val, vunit, vint, vptr, vstruct, vcons, vnil, of_list}
pub use mir.MapTy.{inst_fn}
pub use base.Logic.{SProp, emp, id⊢}
pub use base.Fml.{Fml, ftrue, fsep, fex, feq, flft, fhide}
pub use contract.Monad.{fact, fact_i}
pub use contract.Running.{tables}
pub use denote.Builtin.{RefOf, u64, usize, unit}
pub use denote.Exit.{yes}
pub use denote.Memory.{hidden_shr}
pub use denote.Opens.{unhide}
pub use denote.Param.{param, bounded}
pub use denote.Plain.{uint_vals, uint_Tells}
pub use denote.RattleType.{RattleType, owns, Valss}
pub use denote.Ref.{mut_vals, mut_Tells, shr_vals, shr_Tells}
pub use denote.Signature.{types_at, plain}
pub use denote.Steps.{nothing, opens, closes}
pub use denote.Struct.Lending.{lent_out}
pub use denote.Struct.Tuple.{Tuple}
pub use denote.Triple.Walked.{Stays, stay_dropped, stay_ref, walk_of, Goes-dropped, Goes-ref}
pub use types.Kit.{‵, raw, ◌⊛◌, some, given, later, ◌$◌, ◌∵◌, !, qed, by, move, keep, drop, split, join, fsplit, fsplit3, fjoin, fjoin3, fpack, pick, learn, use0, use1, use2, use3, await, rewrite, feq_i}
pub use types.Run.{of_opd, unit_lit, no_more, and_then, returns, enter}
pub use types.ByLocal.{alloc_all, pass_all, free_all, look_at, get, sets}
pub use types.Part.{agg}
pub use Rattle.shared_history.specs.Pages.{Book, part, Adds}
pub use Rattle.shared_history.specs.inner.Kept.{rules, begins, seen_owns, owner_owns, rights_own}
pub use Rattle.shared_history.proofs.Machine.{bare, Bare, bare_made}
use seplogic.Ra.Ura.{Ura}
use base.Logic.{ent, sep, via, emp∗, mono∗}
use types.Logic.{Logic, sem}
use denote.Signature.{type_at}
use denote.Triple.Clauses.{Ended, Clauses, Lasts, at_exit}
use denote.Triple.Entry.{Res, alive}
use denote.Triple.Walked.{Fit, has_of}
use Rattle.std.proofs.raw_atomic.Walks.{leaves}

-- a clause of the `ensures` that is a plain fact, before the others
pub and_told : {M : Type 1} (𝓤 : Ura M) {φ : Type 0} {Q : SProp 𝓤} → φ → ent 𝓤 (emp 𝓤) Q → ent 𝓤 (emp 𝓤) (sep 𝓤 (fact 𝓤 φ) Q)
and_told 𝓤 {φ} so others = via 𝓤 (sep 𝓤 (emp 𝓤) (emp 𝓤)) (emp∗ 𝓤 (emp 𝓤)) (mono∗ 𝓤 (fact_i 𝓤 φ (emp 𝓤) so) others)

-- the tokens, what is left of the parameters and the result, where each clause of the `ensures` is a plain fact
pub ends_with : {M : Type 1} {𝓤 : Ura M} (𝓛 : Logic 𝓤) (T : Ended) (hs : Stays T.signature.params T.kept) (c : Clauses 𝓤 T) (y : (walk_of 𝓛 T hs c).Ghost) (v : Val)
    (r : Res T.signature y.0.0) (ws : Lasts T y.0.0 y.0.3) → Fit T hs y.0.0 y.0.3 ws → ent 𝓤 (emp 𝓤) ((c y.0.0 y.0.3).ensures y.1 r (at_exit T y.0.0 y.0.3 ws))
    → ent 𝓤 (sep 𝓤 (alive 𝓛 T.signature y.0.0 y.0.1) (sep 𝓤 (sem 𝓛 (has_of y.0.0 T.signature.params T.kept hs y.0.3 ws y.0.4)) (sem 𝓛 ((type_at T.signature.result y.0.0).own_val r (v ∷ [])))))
    ((walk_of 𝓛 T hs c).post y v)
ends_with 𝓛 T hs c y v r ws fit told =
    qed 𝓛 (raw (alive 𝓛 T.signature y.0.0 y.0.1) ∷ ‵ (has_of y.0.0 T.signature.params T.kept hs y.0.3 ws y.0.4) ∷ ‵ ((type_at T.signature.result y.0.0).own_val r (v ∷ [])) ∷ []) ∵
    use0 𝓛 (raw ((c y.0.0 y.0.3).ensures y.1 r (at_exit T y.0.0 y.0.3 ws))) told $ move ! (1 ∷ 2 ∷ 3 ∷ 0 ∷ []) $ by ! (leaves 𝓛 T hs c y v r ws fit)
