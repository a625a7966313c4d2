use Rattle.envelope.specs.Names.{is_shut}
use Rattle.house.specs.Settled.{is_held}
use Rattle.house.proofs.Settlement.{first_breaks, first_wants, round_of, second_wants, then_puts, then_serves, third_wants, visits_wanting}
use Rattle.house.proofs.house.House.go_round.Goals as goal

pub returns-in_err-closed-clause-came : goal.returns-in_err-closed-clause-came
returns-in_err-closed-clause-came c =
    visits_wanting _ c.from_residual.result c.from_residual.ensures.0 (first_breaks (is_held c.args.held.now) (is_shut c.args.self.now.directory) c.args.self.now c.args.out.now.items c.close_all.new.self c.close_all.new.out.items c.in_err-closed.ensures.came)

pub returns-in_err-put-clause-came : goal.returns-in_err-put-clause-came
returns-in_err-put-clause-came c =
    visits_wanting _ c.from_residual-in_err-put.result c.from_residual-in_err-put.ensures.0 (first_wants (is_held c.args.held.now) (is_shut c.args.self.now.directory) c.args.self.now c.args.out.now.items c.close_all.new.self c.close_all.new.out.items c.put_all.new.self c.put_all.new.out.items c.in_ok-closed.closed
    c.in_ok-closed.ensures.came c.in_err-put.ensures.came)

pub returns-in_err-served-clause-came : goal.returns-in_err-served-clause-came
returns-in_err-served-clause-came c =
    visits_wanting _ c.from_residual-in_err-served.result c.from_residual-in_err-served.ensures.0 (second_wants (is_held c.args.held.now) (is_shut c.args.self.now.directory) c.args.self.now c.args.out.now.items c.put_all.new.self c.put_all.new.out.items c.serve_all.new.self c.serve_all.new.out.items _
    (then_puts (is_shut c.args.self.now.directory) c.args.self.now c.args.out.now.items c.close_all.new.self c.close_all.new.out.items c.put_all.new.self c.put_all.new.out.items c.in_ok-closed.closed c.in_ok-put.put c.in_ok-closed.ensures.came c.in_ok-put.ensures.came)
    c.in_err-served.ensures.came)

pub returns-in_err-heard-clause-came : goal.returns-in_err-heard-clause-came
returns-in_err-heard-clause-came c =
    visits_wanting _ c.from_residual-in_err-heard.result c.from_residual-in_err-heard.ensures.0 (third_wants (is_held c.args.held.now) (is_shut c.args.self.now.directory) c.args.self.now c.args.out.now.items c.serve_all.new.self c.serve_all.new.out.items c.hear_all.new.self c.hear_all.new.out.items _
    (then_serves (is_held c.args.held.now) (is_shut c.args.self.now.directory) c.args.self.now c.args.out.now.items c.put_all.new.self c.put_all.new.out.items c.serve_all.new.self c.serve_all.new.out.items _ c.in_ok-served.served
    (then_puts (is_shut c.args.self.now.directory) c.args.self.now c.args.out.now.items c.close_all.new.self c.close_all.new.out.items c.put_all.new.self c.put_all.new.out.items c.in_ok-closed.closed c.in_ok-put.put c.in_ok-closed.ensures.came c.in_ok-put.ensures.came)
    c.in_ok-served.ensures.came)
    c.in_err-heard.ensures.came)

pub returns-clause-came : goal.returns-clause-came
returns-clause-came c =
    round_of (is_held c.args.held.now) (is_shut c.args.self.now.directory) c.args.self.now c.args.out.now.items c.serve_all.new.self c.serve_all.new.out.items c.hear_all.new.self c.hear_all.new.out.items _ c.in_ok-heard.heard
    (then_serves (is_held c.args.held.now) (is_shut c.args.self.now.directory) c.args.self.now c.args.out.now.items c.put_all.new.self c.put_all.new.out.items c.serve_all.new.self c.serve_all.new.out.items _ c.in_ok-served.served
    (then_puts (is_shut c.args.self.now.directory) c.args.self.now c.args.out.now.items c.close_all.new.self c.close_all.new.out.items c.put_all.new.self c.put_all.new.out.items c.in_ok-closed.closed c.in_ok-put.put c.in_ok-closed.ensures.came c.in_ok-put.ensures.came)
    c.in_ok-served.ensures.came)
    c.in_ok-heard.ensures.came
