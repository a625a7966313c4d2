use Rattle.std.proofs.Common.{rules, inl, inr, ◌+◌, ◌++◌, ◌∙◌, ◌≡◌, ap, sym, subst, map, take, false, arith}
use Rattle.shard_queue.specs.Reply.{received}
use Rattle.lane_work.specs.Account.{rooms_of}
use Rattle.lane_work.specs.Permits.{AreInForce, put_by}
use Rattle.lane_work.specs.Speaking.{Stands, is_quit}
use Rattle.lane_work.specs.declared.worker.Stop.TheVariants.{NoMemory, Torn}
use Rattle.lane_work.proofs.SlotLaws.{start_on}
use Rattle.lane_work.proofs.TalkLaws.{none_left}
use Rattle.lane_work.specs.declared.piece.Next.TheVariants as nexts
use Rattle.lane_work.proofs.Taking.{turned, took, took_none, wanted, same_fault, longer}
use Rattle.lane_work.proofs.piece.take_piece.Goals as goal

pub returns-then-load-clause-took : goal.returns-then-load-clause-took
returns-then-load-clause-took g c done bytes told begun =
    took_none c.args.context.now.intake.now.directory (rooms_of c.args.context.now.intake.now.lanes.items) c.args.producer.now.desk.number done bytes c.args.piece.now c.args.machine.now (told ++ c.args.out.now.items) (g.N.VerdictLog.tells c.args.producer.now.book)
    (received c.args.producer.now.desk.receiver) (map put_by c.args.producer.now.desk.permits.items) begun

pub returns-in-Err-clause-no_memory : goal.returns-in-Err-clause-no_memory
returns-in-Err-clause-no_memory g c why done bytes told begun =
    let v = c.loop-used.invariant in
    let d = c.args.context.now.intake.now.directory in
    let p = c.args.producer.now.desk.number in
    let so_far = bytes ++ take c.loop-used.used c.args.piece.now in
    let before = v.9 done bytes told begun in
    let here = subst (λ n. Stands d d (rooms_of c.args.context.now.intake.now.lanes.items) n done so_far false c.loop-used.machine (told ++ c.loop-used.out.items) (g.N.VerdictLog.tells c.loop-used.producer.book) (received c.loop-used.producer.desk.receiver) (map put_by c.loop-used.producer.desk.permits.items)) (sym v.2) before in
    let starts = c.in-Err.ensures.kept done so_far told here in
    let kept : c.truncate.new.self.items ≡ c.loop-used.out.items = c.truncate.ensures.items ∙ ap (λ n. take n c.turn.new.out.items) (c.len-said.ensures ∙ c.loop-used.out.ok.0) ∙ starts in
    wanted d (rooms_of c.args.context.now.intake.now.lanes.items) p done bytes c.args.piece.now c.loop-used.machine (told ++ c.loop-used.out.items) (g.N.VerdictLog.tells c.loop-used.producer.book) (received c.loop-used.producer.desk.receiver) (map put_by c.loop-used.producer.desk.permits.items)
    c.loop-used.used c.args.machine.now.setting c.args.machine.now.host (told ++ c.truncate.new.self.items) (g.N.VerdictLog.tells c.turn.new.producer.book) (received c.turn.new.producer.desk.receiver) (map put_by c.turn.new.producer.desk.permits.items)
    v.6 v.7 (ap (λ l. told ++ l) kept) (c.in-Err.ensures.noted (same_fault c.in-Err.why NoMemory why)) (c.in-Err.ensures.err (same_fault c.in-Err.why NoMemory why)).0 (c.in-Err.ensures.err (same_fault c.in-Err.why NoMemory why)).1 before

pub loop-used-preserved-in-More : goal.loop-used-preserved-in-More
loop-used-preserved-in-More g c =
    let v = c.loop-used.invariant in
    let lanes = c.args.context.now.intake.now.lanes.items in (
      subst (λ n. AreInForce c.args.context.now.intake.now.directory lanes n c.turn.new.producer.desk.permits.items) v.2 c.in-Ok.ensures.permits,
      c.in-Ok.ensures.receiver,
      c.in-Ok.ensures.number ∙ v.2,
      (let e = c.in-Ok.ensures.ends in omega (arith, e, v.3)),
      c.in-Ok.ensures.owner ∙ v.4,
      c.in-Ok.ensures.quiet,
      c.in-Ok.ensures.same.0 ∙ v.6,
      c.in-Ok.ensures.same.1 ∙ v.7,
      search rules,
      λ done bytes told begun.
          let d = c.args.context.now.intake.now.directory in
          let so_far = bytes ++ take c.loop-used.used c.args.piece.now in
          let at_number = subst (λ n. Stands d d (rooms_of lanes) n done so_far false c.loop-used.machine (told ++ c.loop-used.out.items) (g.N.VerdictLog.tells c.loop-used.producer.book) (received c.loop-used.producer.desk.receiver) (map put_by c.loop-used.producer.desk.permits.items)) (sym v.2) (v.9 done bytes told begun) in
          let after = c.in-Ok.ensures.stands done so_far told at_number in
          let here = turned d (rooms_of lanes) c.loop-used.producer.desk.number done bytes c.args.piece.now c.turn.new.machine (told ++ c.turn.new.out.items) (g.N.VerdictLog.tells c.turn.new.producer.book) (received c.turn.new.producer.desk.receiver) (map put_by c.turn.new.producer.desk.permits.items) c.loop-used.used c.in-Ok.fed.used (is_quit c.in-Ok.fed.what) after in
          let named = subst (λ n. Stands d d (rooms_of lanes) n done (bytes ++ take (c.loop-used.used + c.in-Ok.fed.used) c.args.piece.now) (is_quit c.in-Ok.fed.what) c.turn.new.machine (told ++ c.turn.new.out.items) (g.N.VerdictLog.tells c.turn.new.producer.book) (received c.turn.new.producer.desk.receiver) (map put_by c.turn.new.producer.desk.permits.items)) v.2 here in
          subst (λ b. Stands d d (rooms_of lanes) c.args.producer.now.desk.number done (bytes ++ take (c.loop-used.used + c.in-Ok.fed.used) c.args.piece.now) b c.turn.new.machine (told ++ c.turn.new.out.items) (g.N.VerdictLog.tells c.turn.new.producer.book) (received c.turn.new.producer.desk.receiver) (map put_by c.turn.new.producer.desk.permits.items))
          (ap is_quit c.in-More.is) named,
      start_on (received c.args.producer.now.desk.receiver) (received c.loop-used.producer.desk.receiver) (received c.turn.new.producer.desk.receiver) v.10 c.in-Ok.ensures.grew,
      λ seat was. c.in-Ok.ensures.backed seat (v.11 seat was),
    )

pub loop-used-preserved : goal.loop-used-preserved
loop-used-preserved g c =
    let v = c.loop-used.invariant in
    let lanes = c.args.context.now.intake.now.lanes.items in (
      subst (λ n. AreInForce c.args.context.now.intake.now.directory lanes n c.turn.new.producer.desk.permits.items) v.2 c.in-Ok.ensures.permits,
      c.in-Ok.ensures.receiver,
      c.in-Ok.ensures.number ∙ v.2,
      (let e = c.in-Ok.ensures.ends in omega (arith, e, v.3)),
      c.in-Ok.ensures.owner ∙ v.4,
      c.in-Ok.ensures.quiet,
      c.in-Ok.ensures.same.0 ∙ v.6,
      c.in-Ok.ensures.same.1 ∙ v.7,
      search rules,
      λ done bytes told begun.
          let d = c.args.context.now.intake.now.directory in
          let so_far = bytes ++ take c.loop-used.used c.args.piece.now in
          let at_number = subst (λ n. Stands d d (rooms_of lanes) n done so_far false c.loop-used.machine (told ++ c.loop-used.out.items) (g.N.VerdictLog.tells c.loop-used.producer.book) (received c.loop-used.producer.desk.receiver) (map put_by c.loop-used.producer.desk.permits.items)) (sym v.2) (v.9 done bytes told begun) in
          let after = c.in-Ok.ensures.stands done so_far told at_number in
          let here = turned d (rooms_of lanes) c.loop-used.producer.desk.number done bytes c.args.piece.now c.turn.new.machine (told ++ c.turn.new.out.items) (g.N.VerdictLog.tells c.turn.new.producer.book) (received c.turn.new.producer.desk.receiver) (map put_by c.turn.new.producer.desk.permits.items) c.loop-used.used c.in-Ok.fed.used (is_quit c.in-Ok.fed.what) after in
          let named = subst (λ n. Stands d d (rooms_of lanes) n done (bytes ++ take (c.loop-used.used + c.in-Ok.fed.used) c.args.piece.now) (is_quit c.in-Ok.fed.what) c.turn.new.machine (told ++ c.turn.new.out.items) (g.N.VerdictLog.tells c.turn.new.producer.book) (received c.turn.new.producer.desk.receiver) (map put_by c.turn.new.producer.desk.permits.items)) v.2 here in
          subst (λ b. Stands d d (rooms_of lanes) c.args.producer.now.desk.number done (bytes ++ take (c.loop-used.used + c.in-Ok.fed.used) c.args.piece.now) b c.turn.new.machine (told ++ c.turn.new.out.items) (g.N.VerdictLog.tells c.turn.new.producer.book) (received c.turn.new.producer.desk.receiver) (map put_by c.turn.new.producer.desk.permits.items))
          (ap is_quit c.in-Submit.is) named,
      start_on (received c.args.producer.now.desk.receiver) (received c.loop-used.producer.desk.receiver) (received c.turn.new.producer.desk.receiver) v.10 c.in-Ok.ensures.grew,
      λ seat was. c.in-Ok.ensures.backed seat (v.11 seat was),
    )

pub returns-in-Quit-clause-took : goal.returns-in-Quit-clause-took
returns-in-Quit-clause-took g c done bytes told begun =
    let v = c.loop-used.invariant in
    let lanes = c.args.context.now.intake.now.lanes.items in
    let d = c.args.context.now.intake.now.directory in
    let so_far = bytes ++ take c.loop-used.used c.args.piece.now in
    let at_number = subst (λ n. Stands d d (rooms_of lanes) n done so_far false c.loop-used.machine (told ++ c.loop-used.out.items) (g.N.VerdictLog.tells c.loop-used.producer.book) (received c.loop-used.producer.desk.receiver) (map put_by c.loop-used.producer.desk.permits.items)) (sym v.2) (v.9 done bytes told begun) in
    let after = c.in-Ok.ensures.stands done so_far told at_number in
    let here = turned d (rooms_of lanes) c.loop-used.producer.desk.number done bytes c.args.piece.now c.turn.new.machine (told ++ c.turn.new.out.items) (g.N.VerdictLog.tells c.turn.new.producer.book) (received c.turn.new.producer.desk.receiver) (map put_by c.turn.new.producer.desk.permits.items) c.loop-used.used c.in-Ok.fed.used (is_quit c.in-Ok.fed.what) after in
    let named = subst (λ n. Stands d d (rooms_of lanes) n done (bytes ++ take (c.loop-used.used + c.in-Ok.fed.used) c.args.piece.now) (is_quit c.in-Ok.fed.what) c.turn.new.machine (told ++ c.turn.new.out.items) (g.N.VerdictLog.tells c.turn.new.producer.book) (received c.turn.new.producer.desk.receiver) (map put_by c.turn.new.producer.desk.permits.items)) v.2 here in
    took d (rooms_of lanes) c.args.producer.now.desk.number done bytes c.args.piece.now c.turn.new.machine (told ++ c.turn.new.out.items) (g.N.VerdictLog.tells c.turn.new.producer.book) (received c.turn.new.producer.desk.receiver) (map put_by c.turn.new.producer.desk.permits.items)
    (c.loop-used.used + c.in-Ok.fed.used) (is_quit c.in-Ok.fed.what) nexts.Read (λ e. inr (ap is_quit c.in-Quit.is)) named

pub returns-then-load-2-clause-took : goal.returns-then-load-2-clause-took
returns-then-load-2-clause-took g c done bytes told begun =
    let v = c.loop-used.invariant in
    let lanes = c.args.context.now.intake.now.lanes.items in
    let d = c.args.context.now.intake.now.directory in
    let so_far = bytes ++ take c.loop-used.used c.args.piece.now in
    let at_number = subst (λ n. Stands d d (rooms_of lanes) n done so_far false c.loop-used.machine (told ++ c.loop-used.out.items) (g.N.VerdictLog.tells c.loop-used.producer.book) (received c.loop-used.producer.desk.receiver) (map put_by c.loop-used.producer.desk.permits.items)) (sym v.2) (v.9 done bytes told begun) in
    let after = c.in-Ok.ensures.stands done so_far told at_number in
    let here = turned d (rooms_of lanes) c.loop-used.producer.desk.number done bytes c.args.piece.now c.turn.new.machine (told ++ c.turn.new.out.items) (g.N.VerdictLog.tells c.turn.new.producer.book) (received c.turn.new.producer.desk.receiver) (map put_by c.turn.new.producer.desk.permits.items) c.loop-used.used c.in-Ok.fed.used (is_quit c.in-Ok.fed.what) after in
    let named = subst (λ n. Stands d d (rooms_of lanes) n done (bytes ++ take (c.loop-used.used + c.in-Ok.fed.used) c.args.piece.now) (is_quit c.in-Ok.fed.what) c.turn.new.machine (told ++ c.turn.new.out.items) (g.N.VerdictLog.tells c.turn.new.producer.book) (received c.turn.new.producer.desk.receiver) (map put_by c.turn.new.producer.desk.permits.items)) v.2 here in
    took d (rooms_of lanes) c.args.producer.now.desk.number done bytes c.args.piece.now c.turn.new.machine (told ++ c.turn.new.out.items) (g.N.VerdictLog.tells c.turn.new.producer.book) (received c.turn.new.producer.desk.receiver) (map put_by c.turn.new.producer.desk.permits.items)
    (c.loop-used.used + c.in-Ok.fed.used) (is_quit c.in-Ok.fed.what) nexts.Shut (λ e. absurd (let x : nexts.Shut ≡ nexts.Read = e in cc)) named

pub returns-clause-took : goal.returns-clause-took
returns-clause-took g c done bytes told begun =
    let v = c.loop-used.invariant in
    took c.args.context.now.intake.now.directory (rooms_of c.args.context.now.intake.now.lanes.items) c.args.producer.now.desk.number done bytes c.args.piece.now c.loop-used.machine (told ++ c.loop-used.out.items) (g.N.VerdictLog.tells c.loop-used.producer.book) (received c.loop-used.producer.desk.receiver) (map put_by c.loop-used.producer.desk.permits.items)
    c.loop-used.used false nexts.Read (λ e. inl (none_left c.args.piece.now c.loop-used.used (search rules))) (v.9 done bytes told begun)

pub returns-in-Err-clause-grew : goal.returns-in-Err-clause-grew
returns-in-Err-clause-grew g c = start_on (received c.args.producer.now.desk.receiver) (received c.loop-used.producer.desk.receiver) (received c.turn.new.producer.desk.receiver) c.loop-used.invariant.10 c.in-Err.ensures.grew

pub returns-in-Err-clause-torn : goal.returns-in-Err-clause-torn
returns-in-Err-clause-torn g c why = longer (received c.args.producer.now.desk.receiver) (received c.loop-used.producer.desk.receiver) (received c.turn.new.producer.desk.receiver) c.loop-used.invariant.10 (c.in-Err.ensures.torn (same_fault c.in-Err.why Torn why))

pub returns-in-Quit-clause-grew : goal.returns-in-Quit-clause-grew
returns-in-Quit-clause-grew g c = start_on (received c.args.producer.now.desk.receiver) (received c.loop-used.producer.desk.receiver) (received c.turn.new.producer.desk.receiver) c.loop-used.invariant.10 c.in-Ok.ensures.grew

pub returns-then-load-2-clause-grew : goal.returns-then-load-2-clause-grew
returns-then-load-2-clause-grew g c = start_on (received c.args.producer.now.desk.receiver) (received c.loop-used.producer.desk.receiver) (received c.turn.new.producer.desk.receiver) c.loop-used.invariant.10 c.in-Ok.ensures.grew

pub returns-in-Err-clause-backed : goal.returns-in-Err-clause-backed
returns-in-Err-clause-backed g c seat was = c.in-Err.ensures.backed seat (c.loop-used.invariant.11 seat was)

pub returns-in-Quit-clause-backed : goal.returns-in-Quit-clause-backed
returns-in-Quit-clause-backed g c seat was = c.in-Ok.ensures.backed seat (c.loop-used.invariant.11 seat was)

pub returns-then-load-2-clause-backed : goal.returns-then-load-2-clause-backed
returns-then-load-2-clause-backed g c seat was = c.in-Ok.ensures.backed seat (c.loop-used.invariant.11 seat was)
