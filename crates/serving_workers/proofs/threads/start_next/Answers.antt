use Rattle.std.proofs.Common.{◌≡◌, ◌+◌, ◌∷◌, [], All, true, length, subst, sym, arith}
use Rattle.std.proofs.lemmas.List.Elements.{All-append, All-cons, All-nil}
use Rattle.house_shared.proofs.Positions.{more_at}
use Rattle.serving_workers.specs.Leaving.{IsSpawned, serves_mail}
use Rattle.serving_workers.specs.declared.threads.Spawned.{Spawned}
use Rattle.serving_workers.proofs.threads.start_next.Goals as goal

pub returns-clause-spawned : goal.returns-clause-spawned
returns-clause-spawned g c =
    let had = c.args.spawned.now in
    let count = c.requires.spawned.1 in
    let len = c.push_reserved.ensures.len in
    let at : c.args.number ≡ 0 + length had.items = omega (arith, count, had.ok.0) in (
      more_at (IsSpawned g.L.Line.told c.args.workplace.now.shared) 0 had.items c.push_reserved.new.self.items c.start_worker.result c.args.number c.push_reserved.ensures.items c.requires.spawned.0 at c.start_worker.ensures.spawned,
      omega (arith, len, count),
    )

pub returns-clause-mail : goal.returns-clause-mail
returns-clause-mail g c =
    let Mail : Spawned _ _ _ _ → Type 0 = λ h. serves_mail h ≡ true in
    let one = All-cons Mail c.start_worker.result [] c.start_worker.ensures.mail (All-nil Mail) in
    subst (All Mail) (sym c.push_reserved.ensures.items) (All-append Mail c.args.spawned.now.items (c.start_worker.result ∷ []) c.requires.mail one)
