use Rattle.std.proofs.Common.{◌∙◌, subst}
use Rattle.envelope.specs.Names.{Directory, is_shut}
use Rattle.house.specs.Settled.{is_held}
use Rattle.house.proofs.Settlement.{DidRound, WantsRound, on_err, round_again, rounds_done, rounds_want, same_marks}
use Rattle.house.proofs.house.House.go_rounds.Goals as goal

pub returns-in_err-moved-clause-err : goal.returns-in_err-moved-clause-err
returns-in_err-moved-clause-err c = on_err c.from_residual.result _ (record {
  broke_off = λ k s q st.
      rounds_want (is_held c.args.held.now) (is_shut c.args.self.now.directory) k s c.loop-moved.self c.go_round.new.self c.args.out.now.items c.loop-moved.out.items c.go_round.new.out.items (same_marks k c.args.self.now s st)
      (c.loop-moved.invariant.1 k s st) (subst (λ (d : Directory). WantsRound (is_held c.args.held.now) (is_shut d) c.loop-moved.self c.loop-moved.out.items c.go_round.new.self c.go_round.new.out.items) c.loop-moved.invariant.0 c.in_err-moved.ensures.came);
})

pub returns-then-not-moved-clause-ok : goal.returns-then-not-moved-clause-ok
returns-then-not-moved-clause-ok c k s q st =
    rounds_done (is_held c.args.held.now) (is_shut c.args.self.now.directory) k s c.loop-moved.self c.go_round.new.self c.args.out.now.items c.loop-moved.out.items c.go_round.new.out.items c.in_ok-moved.moved (same_marks k c.args.self.now s st) c.if-not-moved.true (c.loop-moved.invariant.1 k s st)
    (subst (λ (d : Directory). DidRound (is_held c.args.held.now) (is_shut d) c.loop-moved.self c.loop-moved.out.items c.go_round.new.self c.go_round.new.out.items c.in_ok-moved.moved) c.loop-moved.invariant.0 c.in_ok-moved.ensures.came)

pub loop-moved-preserved : goal.loop-moved-preserved
loop-moved-preserved c = (
  c.in_ok-moved.ensures.marks ∙ c.loop-moved.invariant.0,
  λ k s st. round_again (is_held c.args.held.now) (is_shut c.args.self.now.directory) k s c.loop-moved.self c.go_round.new.self c.args.out.now.items c.loop-moved.out.items c.go_round.new.out.items c.in_ok-moved.moved (c.loop-moved.invariant.1 k s st)
      (subst (λ (d : Directory). DidRound (is_held c.args.held.now) (is_shut d) c.loop-moved.self c.loop-moved.out.items c.go_round.new.self c.go_round.new.out.items c.in_ok-moved.moved) c.loop-moved.invariant.0 c.in_ok-moved.ensures.came),
)
