use Rattle.std.proofs.Common.{◌≡◌, ◌∙◌, ℕ, List, subst, sym}
use Rattle.std.specs.Prelude.{remove, MatchResult, Result}
use Rattle.std.specs.List.Sorted.{IsStrictlyIncreasing}
use Rattle.change_ring.specs.Log.{without}
use Rattle.mailbox.proofs.MarkLaws.{searched_out}
use Rattle.mailbox.proofs.messages.unmark.Goals as goal

pub returns-in-Ok-clause-items : goal.returns-in-Ok-clause-items
returns-in-Ok-clause-items c =
    let us = c.args.marked.now.items in
    let vs = c.deref.result.now in
    let same = c.deref.ensures.value in
    let uid = c.args.uid in
    let out = searched_out uid vs c.binary_search.result (subst IsStrictlyIncreasing (sym same) c.requires.rising) c.binary_search.ensures.position in
    let ok = subst (λ (r : Result ℕ ℕ). MatchResult r (λ position. remove vs position ≡ without uid vs) (λ position. vs ≡ without uid vs)) c.in-Ok.is out in
    c.remove.ensures.items ∙ subst (λ (xs : List ℕ). remove xs c.in-Ok.position ≡ without uid xs) same ok

pub returns-in_default-clause-items : goal.returns-in_default-clause-items
returns-in_default-clause-items c =
    let vs = c.deref.result.now in
    let same = c.deref.ensures.value in
    let uid = c.args.uid in
    let out = searched_out uid vs c.binary_search.result (subst IsStrictlyIncreasing (sym same) c.requires.rising) c.binary_search.ensures.position in
    let err = subst (λ (r : Result ℕ ℕ). MatchResult r (λ position. remove vs position ≡ without uid vs) (λ position. vs ≡ without uid vs)) c.in_default.is out in
    subst (λ (xs : List ℕ). xs ≡ without uid xs) same err
