-- Lanes that are closed one after another, whatever carries their entries.
use Rattle.std.proofs.Common.{◌≡◌, ℕ, ◌++◌, ◌∙◌, ap, refl, sym, subst, List, [], ◌∷◌, map, append_assoc, append-nil, All, length, suc, arith}
use Rattle.std.proofs.lemmas.List.Elements.{All-contains, All-nil, All-cons, All-head, All-tail}
use Rattle.shard_queue.specs.declared.shared.View.{View}
use Rattle.shard_queue.specs.declared.permits.SharedLane.{SharedLane}
use Rattle.shard_queue.specs.declared.permits.EndedPermit.{EndedPermit}
use Rattle.shard_queue.specs.declared.permits.ConsumersPermit.{ConsumersPermit}
use Rattle.shard_queue.specs.declared.permits.ClosedLane.{ClosedLane}
use Rattle.shard_queue.specs.Closing.{IsNotAll, IsWhole}
use Rattle.shard_queue.specs.Lane.{of}
use Rattle.shard_queue.specs.SharedLane.{taken, said, all_taken, ended_number}
use Rattle.lane_work.specs.SharedLanes.{AreConsumers, AreEnded, AreIn, EndedRows, AreClosed, none, next, IsClosedLane, IsTorn, here, later}

module _ {T C P : Type 0} (view : P → View T) (is_of : C → P → Type 0) where
  pub ended_rest : (qs less : List (SharedLane C)) (q : SharedLane C) (rs fewer : List (List (EndedPermit P))) (r : List (EndedPermit P)) → qs ≡ q ∷ less → rs ≡ r ∷ fewer → EndedRows view is_of qs rs → EndedRows view is_of less fewer
  ended_rest qs less q rs fewer r e f h = (subst (λ l. EndedRows view is_of (q ∷ less) l) f (subst (λ l. EndedRows view is_of l rs) e h)).1

  pub consumers_rest : (qs less : List (SharedLane C)) (q : SharedLane C) (ss fewer : List (ConsumersPermit P)) (s : ConsumersPermit P) → qs ≡ q ∷ less → ss ≡ s ∷ fewer → AreConsumers view is_of qs ss → AreConsumers view is_of less fewer
  consumers_rest qs less q ss fewer s e f h = (subst (λ l. AreConsumers view is_of (q ∷ less) l) f (subst (λ l. AreConsumers view is_of l ss) e h)).1

module _ {T C P : Type 0} (view : P → View T) (room : SharedLane C → ℕ) (qs : List (SharedLane C)) (rs : List (List (EndedPermit P))) (ss : List (ConsumersPermit P)) (q : SharedLane C) (r : List (EndedPermit P)) (s : ConsumersPermit P)
    (qs' : List (SharedLane C)) (rs' : List (List (EndedPermit P))) (ss' : List (ConsumersPermit P)) (qe : qs ≡ q ∷ qs') (re : rs ≡ r ∷ rs') (se : ss ≡ s ∷ ss') where
  -- the lane that was closed, before those that are closed later
  pub closed_next : (QS : List (SharedLane C)) (RS : List (List (EndedPermit P))) (SS : List (ConsumersPermit P)) (cs cs' : List (ClosedLane P)) (c : ClosedLane P)
      → ((more : List (ClosedLane P)) → AreClosed view room qs rs ss more → AreClosed view room QS RS SS (cs ++ more)) → IsClosedLane view room q r s c → cs' ≡ cs ++ c ∷ []
      → (more : List (ClosedLane P)) → AreClosed view room qs' rs' ss' more → AreClosed view room QS RS SS (cs' ++ more)
  closed_next QS RS SS cs cs' c so is new more h =
      let all : AreClosed view room (q ∷ qs') (r ∷ rs') (s ∷ ss') (c ∷ more) = next q r s c is h in
      let back : AreClosed view room qs rs ss (c ∷ more) =
      subst (λ l. AreClosed view room l rs ss (c ∷ more)) (sym qe) (subst (λ l. AreClosed view room (q ∷ qs') l ss (c ∷ more)) (sym re) (subst (λ l. AreClosed view room (q ∷ qs') (r ∷ rs') l (c ∷ more)) (sym se) all)) in
      subst (AreClosed view room QS RS SS) (sym (ap (λ l. l ++ more) new ∙ append_assoc cs (c ∷ []) more)) (so (c ∷ more) back)

  as_one : IsTorn view (q ∷ qs') (r ∷ rs') (s ∷ ss') → IsTorn view qs rs ss
  as_one t = subst (λ l. IsTorn view l rs ss) (sym qe) (subst (λ l. IsTorn view (q ∷ qs') l ss) (sym re) (subst (λ l. IsTorn view (q ∷ qs') (r ∷ rs') l) (sym se) t))

  pub torn_here : IsNotAll ended_number q.producers r (taken view s) → IsTorn view qs rs ss
  torn_here h = as_one (here q r s h)

  pub torn_later : IsTorn view qs' rs' ss' → IsTorn view qs rs ss
  torn_later t = as_one (later q r s t)

module _ {T C P : Type 0} (view : P → View T) (is_of : C → P → Type 0) (room : SharedLane C → ℕ) where
  -- nothing is left to be closed
  pub all_closed : (qs : List (SharedLane C)) (rs : List (List (EndedPermit P))) (ss : List (ConsumersPermit P)) (QS : List (SharedLane C)) (RS : List (List (EndedPermit P))) (SS : List (ConsumersPermit P)) (cs : List (ClosedLane P))
      → qs ≡ [] → EndedRows view is_of qs rs → AreConsumers view is_of qs ss → ((more : List (ClosedLane P)) → AreClosed view room qs rs ss more → AreClosed view room QS RS SS (cs ++ more)) → AreClosed view room QS RS SS cs
  all_closed [] [] [] QS RS SS cs e h k so = subst (AreClosed view room QS RS SS) (append-nil cs) (so [] none)
  all_closed [] [] (s ∷ ss) QS RS SS cs e h k so = absurd k
  all_closed [] (r ∷ rs) ss QS RS SS cs e h k so = absurd h
  all_closed (q ∷ qs) rs ss QS RS SS cs e h k so = absurd (let x : q ∷ qs ≡ [] = e in cc)

module _ {T C P : Type 0} {view : P → View T} {room : SharedLane C → ℕ} where
  pub closed_length : {ls : List (SharedLane C)} {rs : List (List (EndedPermit P))} {ss : List (ConsumersPermit P)} {cs : List (ClosedLane P)} → AreClosed view room ls rs ss cs
      → length cs ≡ length ls
  closed_length none = refl
  closed_length (next l r s c is others) = ap suc (closed_length others)

  pub histories_taken : {ls : List (SharedLane C)} {rs : List (List (EndedPermit P))} {ss : List (ConsumersPermit P)} {cs : List (ClosedLane P)} → AreClosed view room ls rs ss cs
      → map (all_taken view) cs ≡ map (taken view) ss
  histories_taken none = refl
  histories_taken (next {permits = ss} {cs = cs} l r s c is others) = ap (λ h. h ∷ map (all_taken view) cs) is.taken ∙ ap (λ h. taken view s ∷ h) (histories_taken others)

  -- what this producer has said is what was taken of it
  pub said_is_history : {ls : List (SharedLane C)} {rs : List (List (EndedPermit P))} {ss : List (ConsumersPermit P)} {cs : List (ClosedLane P)} → AreClosed view room ls rs ss cs
      → (is_of : C → P → Type 0) (p : ℕ) (es : List (EndedPermit P)) → AreEnded view is_of ls p es → AreIn es rs → map (said view) es ≡ map (of p) (map (all_taken view) cs)
  said_is_history none is_of p [] h k = refl
  said_is_history none is_of p (e ∷ es) h k = absurd k
  said_is_history (next l r s c is others) is_of p [] h k = absurd k
  said_is_history (next l r s c is others) is_of p (e ∷ es) h k =
      let here : said view e ≡ of p (all_taken view c) =
      All-contains (λ e. said view e ≡ of (ended_number e) (all_taken view c)) r e is.each k.0 ∙ ap (λ n. of n (all_taken view c)) h.0.1 in
      ap (λ x. x ∷ map (said view) es) here ∙ ap (λ x. of p (all_taken view c) ∷ x) (said_is_history others is_of p es h.1 k.1)

  -- each history is whole, whatever room its lane had: nothing waits
  pub all_whole : {ls : List (SharedLane C)} {rs : List (List (EndedPermit P))} {ss : List (ConsumersPermit P)} {cs : List (ClosedLane P)} → AreClosed view room ls rs ss cs
      → (producers depth : ℕ) → All (λ l. l.producers ≡ producers) ls → All (λ c. IsWhole producers depth (all_taken view c)) cs
  all_whole none producers depth all = All-nil (λ (c : ClosedLane P). IsWhole producers depth (all_taken view c))
  all_whole (next {ls = ls} {cs = cs} l r s c is others) producers depth all =
      let Has : SharedLane C → Type 0 = λ l. l.producers ≡ producers in
      let one = is.whole in
      All-cons (λ (c : ClosedLane P). IsWhole producers depth (all_taken view c)) c cs
      (subst (λ n. IsWhole n depth (all_taken view c)) (All-head Has l ls all)
      (record { merge = record { each = one.merge.each; known = one.merge.known; within = omega arith; legal = one.merge.legal }; closed = one.closed }))
      (all_whole others producers depth (All-tail Has l ls all))
