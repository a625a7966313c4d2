use Rattle.std.proofs.Common.{◌+◌, length}
use Rattle.running_house.proofs.Abandoned.{consumed_for, worked_for}
use Rattle.running_house.proofs.Floors.{shared_for, house_of}
use Rattle.running_house.proofs.run.run_house.Goals as goal

pub report_of-requires-clause-shared : goal.report_of-requires-clause-shared
report_of-requires-clause-shared g c =
    shared_for c.args.plan.now c.in_ok-directory.directory c.sizes_of-sizes.result c.in_ok-shared.field-0.shared c.in_ok-directory.ensures.directory c.sizes_of-sizes.ensures c.in_ok-shared.ensures.shared

pub abandon-requires-clause-worked : goal.abandon-requires-clause-worked
abandon-requires-clause-worked g c =
    let shared = c.in_ok-shared.field-0.shared in
    let is = shared_for c.args.plan.now c.in_ok-directory.directory c.sizes_of-sizes.result shared c.in_ok-directory.ensures.directory c.sizes_of-sizes.ensures c.in_ok-shared.ensures.shared in
    let workers = c.as_slice-workers in
    let sessions = c.as_slice-sessions in
    worked_for shared (length workers.result.now + length sessions.result.now) (house_of c.args.plan.now shared is workers.result.now sessions.result.now workers.ensures.value sessions.ensures.value) workers.result.now sessions.result.now c.run_threads-ran.result c.run_threads-ran.ensures.worked

pub abandon-requires-clause-consumed : goal.abandon-requires-clause-consumed
abandon-requires-clause-consumed g c =
    let shared = c.in_ok-shared.field-0.shared in
    let is = shared_for c.args.plan.now c.in_ok-directory.directory c.sizes_of-sizes.result shared c.in_ok-directory.ensures.directory c.sizes_of-sizes.ensures c.in_ok-shared.ensures.shared in
    let workers = c.as_slice-workers in
    let sessions = c.as_slice-sessions in
    consumed_for shared (length workers.result.now + length sessions.result.now) (house_of c.args.plan.now shared is workers.result.now sessions.result.now workers.ensures.value sessions.ensures.value) c.run_threads-ran.result c.run_threads-ran.ensures.consumed c.run_threads-ran.ensures.left

pub abandon-requires-in-NoMemory-clause-worked : goal.abandon-requires-in-NoMemory-clause-worked
abandon-requires-in-NoMemory-clause-worked g c =
    let shared = c.in_ok-shared.field-0.shared in
    let is = shared_for c.args.plan.now c.in_ok-directory.directory c.sizes_of-sizes.result shared c.in_ok-directory.ensures.directory c.sizes_of-sizes.ensures c.in_ok-shared.ensures.shared in
    let workers = c.as_slice-workers in
    let sessions = c.as_slice-sessions in
    worked_for shared (length workers.result.now + length sessions.result.now) (house_of c.args.plan.now shared is workers.result.now sessions.result.now workers.ensures.value sessions.ensures.value) workers.result.now sessions.result.now c.run_threads-ran.result c.run_threads-ran.ensures.worked

pub abandon-requires-in-NoMemory-clause-consumed : goal.abandon-requires-in-NoMemory-clause-consumed
abandon-requires-in-NoMemory-clause-consumed g c =
    let shared = c.in_ok-shared.field-0.shared in
    let is = shared_for c.args.plan.now c.in_ok-directory.directory c.sizes_of-sizes.result shared c.in_ok-directory.ensures.directory c.sizes_of-sizes.ensures c.in_ok-shared.ensures.shared in
    let workers = c.as_slice-workers in
    let sessions = c.as_slice-sessions in
    consumed_for shared (length workers.result.now + length sessions.result.now) (house_of c.args.plan.now shared is workers.result.now sessions.result.now workers.ensures.value sessions.ensures.value) c.run_threads-ran.result c.run_threads-ran.ensures.consumed c.run_threads-ran.ensures.left
