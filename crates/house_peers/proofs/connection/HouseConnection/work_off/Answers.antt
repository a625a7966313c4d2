use Rattle.std.proofs.Common.{◌≡◌, true, false, ◌∙◌, ◌+◌, ◌*◌, ◌≤◌, refl, ap, sym, subst, take, drop, List, ℕ, length, Option, None, Some, take-append-drop}
use Rattle.std.specs.Option.{ok_or}
use Rattle.std.specs.Prelude.{IfOk, OnErr, Result}
use Rattle.envelope.specs.Names.{Directory}
use Rattle.lmtp_machine.specs.LmtpMachine.{StandsFor}
use Rattle.lmtp_machine.specs.Dialogue.{Submission}
use Rattle.lmtp_machine.specs.declared.connection.What.{What}
use Rattle.lmtp_machine.specs.declared.connection.What.TheVariants.{More}
use Rattle.house_peers.specs.HouseConnection.{HouseConnection}
use Rattle.house_peers.specs.Taking.{line_effort}
use Rattle.house_peers.specs.inner.Taking.{TakenBy}
use Rattle.house_peers.specs.Caller.{copies_of}
use Rattle.house_peers.specs.ConnectionStands.{IsAwaited, StandsForConnection}
use Rattle.house_peers.specs.inner.ConnectionStands.{WorkedOff}
use Rattle.house_peers.proofs.Connections.{took_all, took_nothing, took_part}
use Rattle.house_peers.proofs.Efforts.{all_dropped, empty_of, took_less}
use Rattle.house_peers.proofs.connection.HouseConnection.work_off.Goals as goal

pub returns-then-not-has_ended-clause-ok : goal.returns-then-not-has_ended-clause-ok
returns-then-not-has_ended-clause-ok c k seat next heard b e s =
    let i = c.self.inside in
    let h : HouseConnection = record { serial = i.serial; gone = i.is_gone; machine = i.machine; waits = i.incoming; unsaid = i.unsaid.items; verdicts = i.verdicts.slots } in
    let s1 = subst (λ (x : HouseConnection). StandsForConnection k seat next heard x b) (sym c.self.view_is) s in
    let quiet = ap (λ (x : HouseConnection). x.machine.pending) c.self.view_is ∙ c.requires.quiet in
    subst (λ (x : HouseConnection). WorkedOff k true seat next heard b More x) c.self.view_is
    (took_nothing k seat next heard b h s1 quiet (sym c.as_slice.ensures ∙ empty_of c.as_slice.result.now c.is_empty.result c.is_empty.ensures c.if-is_empty.true) (c.if-not-has_ended.ensures.going refl))

pub returns-clause-less : goal.returns-clause-less
returns-clause-less c =
    let i = c.self.inside in
    let r = c.take_all-progress in
    let f = r.ensures in
    let quiet = ap (λ (x : HouseConnection). x.machine.pending) c.self.view_is ∙ c.requires.quiet in
    let here = c.as_slice-2.ensures in
    subst (λ (x : HouseConnection). 501 * length c.take.new.self + 5 * length (drop (length i.verdicts.slots) (copies_of r.new.machine.pending)) ≤ line_effort x) c.self.view_is
    (subst (λ (w : List ℕ). 501 * length w + 5 * length (drop (length i.verdicts.slots) (copies_of r.new.machine.pending)) ≤ 501 * length i.incoming + 5 * length (drop (length i.verdicts.slots) (copies_of i.machine.pending))) (sym c.take.ensures)
    (took_less i.incoming r.result.used (length i.verdicts.slots) r.result.what i.machine.pending r.new.machine.pending quiet (subst (λ (w : List ℕ). r.result.used ≤ length w) here f.used) f.moves f.awaits f.most))

-- what was taken comes to an outcome, where there was memory
some_of : {A E : Type 0} (o : Option A) (e : E) (r : Result A E) (P : A → Type 0) → r ≡ ok_or o e → ((x : A) → o ≡ Some x → P x) → IfOk r P
some_of None e r P is f = subst (λ (x : Result _ _). IfOk x P) (sym is) tt
some_of (Some x) e r P is f = subst (λ (y : Result _ _). IfOk y P) (sym is) (f x refl)

none_of : {A E : Type 0} (o : Option A) (e : E) (r : Result A E) (P : Type 0) → r ≡ ok_or o e → (o ≡ None → P) → OnErr r P
none_of None e r P is f = subst (λ (x : Result _ _). OnErr x P) (sym is) (f refl)
none_of (Some x) e r P is f = subst (λ (y : Result _ _). OnErr y P) (sym is) tt

pub returns-clause-ok : goal.returns-clause-ok
returns-clause-ok c =
    some_of c.take_all-progress.result.what _ c.ok_or.result _ c.ok_or.ensures.value λ what is k seat next heard b e s.
    let i = c.self.inside in
    let r = c.take_all-progress in
    let f = r.ensures in
    let h : HouseConnection = record { serial = i.serial; gone = i.is_gone; machine = i.machine; waits = i.incoming; unsaid = i.unsaid.items; verdicts = i.verdicts.slots } in
    let s1 = subst (λ (x : HouseConnection). StandsForConnection k seat next heard x b) (sym c.self.view_is) s in
    let quiet = ap (λ (x : HouseConnection). x.machine.pending) c.self.view_is ∙ c.requires.quiet in
    let here = c.as_slice-2.ensures in
    subst (λ (w : List ℕ). WorkedOff k true seat next heard b what (record { serial = i.serial; gone = i.is_gone; machine = r.new.machine; waits = w; unsaid = r.new.out.items; verdicts = i.verdicts.slots })) (sym c.take.ensures)
    (took_all k seat next heard b h r.new.machine (take r.result.used i.incoming) (drop r.result.used i.incoming) r.new.out.items what
    s1 quiet (sym (take-append-drop r.result.used i.incoming)) f.same.0 f.same.1
    (λ m. all_dropped r.result.used i.incoming (f.all (is ∙ ap (λ (w : What). Some w) m) ∙ ap (λ (w : List ℕ). length w) here))
    (subst (λ (w : Option What). TakenBy (StandsFor r.new.machine) i.machine.setting i.machine.host k.directory b.talk.at (take r.result.used i.incoming) i.unsaid.items r.new.out.items w r.new.machine.pending) is
    (subst (λ (w : List ℕ). TakenBy (StandsFor r.new.machine) i.machine.setting i.machine.host k.directory b.talk.at (take r.result.used w) i.unsaid.items r.new.out.items r.result.what r.new.machine.pending) here
    (subst (λ (d : Directory). TakenBy (StandsFor r.new.machine) i.machine.setting i.machine.host d b.talk.at (take r.result.used c.as_slice-2.result.now) i.unsaid.items r.new.out.items r.result.what r.new.machine.pending) e
    (f.taken b.talk.at s1.machine (subst (λ (ss : List Submission). IsAwaited ss b.talk.at.standing.phase) (sym s1.pending ∙ quiet) s1.awaited))))))

pub returns-clause-err : goal.returns-clause-err
returns-clause-err c =
    none_of c.take_all-progress.result.what _ c.ok_or.result _ c.ok_or.ensures.value λ is k seat next heard b e s.
    let i = c.self.inside in
    let r = c.take_all-progress in
    let f = r.ensures in
    let h : HouseConnection = record { serial = i.serial; gone = i.is_gone; machine = i.machine; waits = i.incoming; unsaid = i.unsaid.items; verdicts = i.verdicts.slots } in
    let s1 = subst (λ (x : HouseConnection). StandsForConnection k seat next heard x b) (sym c.self.view_is) s in
    let quiet = ap (λ (x : HouseConnection). x.machine.pending) c.self.view_is ∙ c.requires.quiet in
    let here = c.as_slice-2.ensures in
    subst (λ (w : List ℕ). (what : What) × WorkedOff k false seat next heard b what (record { serial = i.serial; gone = i.is_gone; machine = r.new.machine; waits = w; unsaid = r.new.out.items; verdicts = i.verdicts.slots })) (sym c.take.ensures)
    (took_part k seat next heard b h r.new.machine (take r.result.used i.incoming) (drop r.result.used i.incoming) r.new.out.items
    s1 quiet (sym (take-append-drop r.result.used i.incoming)) f.same.0 f.same.1
    (subst (λ (w : Option What). TakenBy (StandsFor r.new.machine) i.machine.setting i.machine.host k.directory b.talk.at (take r.result.used i.incoming) i.unsaid.items r.new.out.items w r.new.machine.pending) is
    (subst (λ (w : List ℕ). TakenBy (StandsFor r.new.machine) i.machine.setting i.machine.host k.directory b.talk.at (take r.result.used w) i.unsaid.items r.new.out.items r.result.what r.new.machine.pending) here
    (subst (λ (d : Directory). TakenBy (StandsFor r.new.machine) i.machine.setting i.machine.host d b.talk.at (take r.result.used c.as_slice-2.result.now) i.unsaid.items r.new.out.items r.result.what r.new.machine.pending) e
    (f.taken b.talk.at s1.machine (subst (λ (ss : List Submission). IsAwaited ss b.talk.at.standing.phase) (sym s1.pending ∙ quiet) s1.awaited))))))
