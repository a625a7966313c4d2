use Rattle.std.proofs.Common.{◌≡◌, true, false, length, subst, Err, Option, arith}
use Rattle.std.specs.Prelude.{IfOk, IfSome, OnOk}
use Rattle.serving_workers.specs.Finished.{Finished}
use Rattle.serving.specs.declared.fault.ServeFault.TheVariants as faults
use Rattle.serving_workers.specs.Closing.{WasClosed}
use Rattle.serving.specs.inner.Ending.{CameTo}
use Rattle.serving.proofs.Endings.{came_to}
use Rattle.serving.proofs.Serving.{by_end}
use Rattle.serving.proofs.closing.close_or_spend.Goals as goal

pub returns-clause-setting : goal.returns-clause-setting
returns-clause-setting g c fault =
    by_end c.args.over.all_started c.args.over.is_told c.close_all-finished.result c.told.result (λ r. r ≡ Err (faults.Config fault) → ⊥)
    c.told.ensures.spawn c.told.ensures.device c.told.ensures.torn c.told.ensures.done (λ all e. cc) (λ e. cc) (λ e. cc) (λ taken said is e. cc)

pub returns-clause-whole : goal.returns-clause-whole
returns-clause-whole g c =
    let site = c.args.site in
    let workers = length site.shutdown_handles.mail.items in
    let served = c.args.over.served in
    let dismissed = c.dismiss_all-dismissed.result in
    let told = g.L.Line.told in
    let left = c.requires.served c.if-none_started.false in
    let each : length served.items ≡ length site.workplace.shared.delivery.channels.items = (let n = left.1 in omega (arith, n, served.ok.0)) in
    let count : length dismissed.consumed.items ≡ length site.workplace.shared.intake.lanes.items = (let n = c.dismiss_all-dismissed.ensures.count in omega (arith, n, dismissed.consumed.ok.0)) in
    by_end c.args.over.all_started c.args.over.is_told c.close_all-finished.result c.told.result (λ r. IfOk r (CameTo site.workplace.shared workers))
    c.told.ensures.spawn c.told.ensures.device c.told.ensures.torn c.told.ensures.done (λ all. tt) tt tt (λ taken said is.
    came_to told site.workplace.shared workers served.items dismissed taken left.0 each (c.requires.mail c.if-none_started.false) count c.dismiss_all-dismissed.ensures.services
    (subst (λ (o : Option Finished). IfSome o (WasClosed told site.workplace.shared served.items dismissed)) is c.close_all-finished.ensures))

pub returns-clause-told : goal.returns-clause-told
returns-clause-told g c =
    by_end c.args.over.all_started c.args.over.is_told c.close_all-finished.result c.told.result (λ r. OnOk r (c.args.over.is_told ≡ true))
    c.told.ensures.spawn c.told.ensures.device c.told.ensures.torn c.told.ensures.done (λ all. tt) tt tt (λ taken said is. said)

pub returns-clause-unsaid : goal.returns-clause-unsaid
returns-clause-unsaid g c =
    by_end c.args.over.all_started c.args.over.is_told c.close_all-finished.result c.told.result (λ r. r ≡ Err faults.Spawn → c.args.over.all_started ≡ false)
    c.told.ensures.spawn c.told.ensures.device c.told.ensures.torn c.told.ensures.done (λ all e. all) (λ e. absurd cc) (λ e. absurd cc) (λ taken said is e. absurd cc)

pub returns-clause-untried : goal.returns-clause-untried
returns-clause-untried g c =
    by_end c.args.over.all_started c.args.over.is_told c.close_all-finished.result c.told.result (λ r. r ≡ Err faults.NoMemory → c.args.over.none_started ≡ true)
    c.told.ensures.spawn c.told.ensures.device c.told.ensures.torn c.told.ensures.done (λ all e. absurd cc) (λ e. absurd cc) (λ e. absurd cc) (λ taken said is e. absurd cc)
