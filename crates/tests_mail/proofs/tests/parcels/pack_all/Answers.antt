use Rattle.std.proofs.Common.{rules, ◌++◌, List, [], ◌∷◌, All, subst, sym}
use Rattle.std.proofs.lemmas.List.Elements.{All-cons, All-head, All-nil, All-push, All-tail}
use Rattle.std.specs.Mem.{manually_drop_value}
use Rattle.shard_queue.specs.declared.permits.Permit.{Permit}
use Rattle.shard_queue.specs.SharedLane.{IsPermit}
use Rattle.tests_mail.proofs.tests.parcels.pack_all.Goals as goal

-- the last is taken off
popped : {A : Type 0} (P : A → Type 0) (xs : List A) (x : A) → All P (xs ++ x ∷ []) → All P xs × P x
popped P [] x all = (All-nil P, All-head P x [] all)
popped P (y ∷ ys) x all =
    let rest = popped P ys x (All-tail P y (ys ++ x ∷ []) all) in
    (All-cons P y ys (All-head P y (ys ++ x ∷ []) all) rest.0, rest.1)

pub loop-permit-preserved : goal.loop-permit-preserved
loop-permit-preserved g c =
    let P : Permit g.row.C-Pass.Denot → Type 0 = λ s. IsPermit g.C.Carrier.view g.C.Carrier.is_of c.args.lane.now s in
    let v = c.loop-permit.invariant in
    let parted = popped P c.pop.new.self.items c.in-Some.permit (subst (All P) c.in-Some.ensures.items v.0) in (
      parted.0,
      search rules,
      search rules,
      subst (All (λ s. P (manually_drop_value s))) (sym c.push_reserved.ensures.items)
          (All-push (λ s. P (manually_drop_value s)) c.loop-permit.parcels.items c.packed.result v.3 (subst P (sym c.packed.ensures) parted.1)),
    )
