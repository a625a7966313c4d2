use Rattle.std.proofs.Common.{rules, inl, inr, ◌+◌, ◌-◌, ◌++◌, ◌∙◌, ap, sym, subst, length, map, take, drop, [], false, arith}
use Rattle.shard_queue.specs.Reply.{received}
use Rattle.lane_work.specs.Account.{notes_tell, rooms_of}
use Rattle.lane_work.specs.Permits.{AreInForce, put_by}
use Rattle.lane_work.specs.Speaking.{Stands, is_quit}
use Rattle.lane_work.proofs.TalkLaws.{spoke, split_there, none_left, piece_more}
use Rattle.lane_work.proofs.worker.speak.Goals as goal

pub returns-in-Quit-clause-spoke : goal.returns-in-Quit-clause-spoke
returns-in-Quit-clause-spoke g c done begun =
    let v = c.loop-fed.invariant in
    let d = c.args.context.now.intake.now.directory in
    let bytes = c.args.bytes.now in
    let before = v.9 done begun in
    let at_number = subst (λ n. Stands c.args.directory.now d (rooms_of c.args.context.now.intake.now.lanes.items) n done (take c.loop-fed.used bytes) false c.loop-fed.machine c.loop-fed.out.items (notes_tell c.loop-fed.producer.book.notes) (received c.loop-fed.producer.desk.receiver) (map put_by c.loop-fed.producer.desk.permits.items)) (sym v.2) before in
    let after = c.in_ok-fed.ensures.stands done (take c.loop-fed.used bytes) [] at_number in
    let here = subst (λ n. Stands c.args.directory.now d (rooms_of c.args.context.now.intake.now.lanes.items) n done (take c.loop-fed.used bytes ++ take c.in_ok-fed.fed.used (take (length bytes - c.loop-fed.used) (drop c.loop-fed.used bytes))) (is_quit c.in_ok-fed.fed.what) c.turn.new.machine c.turn.new.out.items (notes_tell c.turn.new.producer.book.notes) (received c.turn.new.producer.desk.receiver) (map put_by c.turn.new.producer.desk.permits.items)) v.2 after in
    let whole = subst (λ l. Stands c.args.directory.now d (rooms_of c.args.context.now.intake.now.lanes.items) c.args.producer.now.desk.number done l (is_quit c.in_ok-fed.fed.what) c.turn.new.machine c.turn.new.out.items (notes_tell c.turn.new.producer.book.notes) (received c.turn.new.producer.desk.receiver) (map put_by c.turn.new.producer.desk.permits.items))
    (piece_more bytes c.loop-fed.used c.in_ok-fed.fed.used) here in
    spoke c.args.directory.now d (rooms_of c.args.context.now.intake.now.lanes.items) c.args.producer.now.desk.number done bytes (take (c.loop-fed.used + c.in_ok-fed.fed.used) bytes) (drop (c.loop-fed.used + c.in_ok-fed.fed.used) bytes) (is_quit c.in_ok-fed.fed.what) c.turn.new.machine
    c.args.machine.now.setting c.args.machine.now.host c.turn.new.out.items (notes_tell c.turn.new.producer.book.notes) (received c.turn.new.producer.desk.receiver) (map put_by c.turn.new.producer.desk.permits.items) (split_there bytes (c.loop-fed.used + c.in_ok-fed.fed.used))
    (inr (ap is_quit c.in-Quit.is)) (c.in_ok-fed.ensures.same.0 ∙ v.6) (c.in_ok-fed.ensures.same.1 ∙ v.7) whole

pub returns-then-used-bytes-clause-spoke : goal.returns-then-used-bytes-clause-spoke
returns-then-used-bytes-clause-spoke g c done begun =
    let v = c.loop-fed.invariant in
    let d = c.args.context.now.intake.now.directory in
    let bytes = c.args.bytes.now in
    let before = v.9 done begun in
    let at_number = subst (λ n. Stands c.args.directory.now d (rooms_of c.args.context.now.intake.now.lanes.items) n done (take c.loop-fed.used bytes) false c.loop-fed.machine c.loop-fed.out.items (notes_tell c.loop-fed.producer.book.notes) (received c.loop-fed.producer.desk.receiver) (map put_by c.loop-fed.producer.desk.permits.items)) (sym v.2) before in
    let after = c.in_ok-fed.ensures.stands done (take c.loop-fed.used bytes) [] at_number in
    let here = subst (λ n. Stands c.args.directory.now d (rooms_of c.args.context.now.intake.now.lanes.items) n done (take c.loop-fed.used bytes ++ take c.in_ok-fed.fed.used (take (length bytes - c.loop-fed.used) (drop c.loop-fed.used bytes))) (is_quit c.in_ok-fed.fed.what) c.turn.new.machine c.turn.new.out.items (notes_tell c.turn.new.producer.book.notes) (received c.turn.new.producer.desk.receiver) (map put_by c.turn.new.producer.desk.permits.items)) v.2 after in
    let whole = subst (λ l. Stands c.args.directory.now d (rooms_of c.args.context.now.intake.now.lanes.items) c.args.producer.now.desk.number done l (is_quit c.in_ok-fed.fed.what) c.turn.new.machine c.turn.new.out.items (notes_tell c.turn.new.producer.book.notes) (received c.turn.new.producer.desk.receiver) (map put_by c.turn.new.producer.desk.permits.items))
    (piece_more bytes c.loop-fed.used c.in_ok-fed.fed.used) here in
    spoke c.args.directory.now d (rooms_of c.args.context.now.intake.now.lanes.items) c.args.producer.now.desk.number done bytes (take (c.loop-fed.used + c.in_ok-fed.fed.used) bytes) (drop (c.loop-fed.used + c.in_ok-fed.fed.used) bytes) (is_quit c.in_ok-fed.fed.what) c.turn.new.machine
    c.args.machine.now.setting c.args.machine.now.host c.turn.new.out.items (notes_tell c.turn.new.producer.book.notes) (received c.turn.new.producer.desk.receiver) (map put_by c.turn.new.producer.desk.permits.items) (split_there bytes (c.loop-fed.used + c.in_ok-fed.fed.used))
    (inl (none_left bytes (c.loop-fed.used + c.in_ok-fed.fed.used) (search rules))) (c.in_ok-fed.ensures.same.0 ∙ v.6) (c.in_ok-fed.ensures.same.1 ∙ v.7) whole

pub loop-fed-preserved-in-Submit : goal.loop-fed-preserved-in-Submit
loop-fed-preserved-in-Submit g c =
    let v = c.loop-fed.invariant in
    let lanes = c.args.context.now.intake.now.lanes.items in (
      subst (λ n. AreInForce c.args.directory.now lanes n c.turn.new.producer.desk.permits.items) v.2 c.in_ok-fed.ensures.permits,
      c.in_ok-fed.ensures.receiver,
      c.in_ok-fed.ensures.number ∙ v.2,
      (let e = c.in_ok-fed.ensures.ends in omega (arith, e, v.3)),
      c.in_ok-fed.ensures.owner ∙ v.4,
      c.in_ok-fed.ensures.quiet,
      c.in_ok-fed.ensures.same.0 ∙ v.6,
      c.in_ok-fed.ensures.same.1 ∙ v.7,
      search rules,
      λ done begun.
          let w = v in
          let d = c.args.context.now.intake.now.directory in
          let bytes = c.args.bytes.now in
          let before = v.9 done begun in
          let at_number = subst (λ n. Stands c.args.directory.now d (rooms_of c.args.context.now.intake.now.lanes.items) n done (take c.loop-fed.used bytes) false c.loop-fed.machine c.loop-fed.out.items (notes_tell c.loop-fed.producer.book.notes) (received c.loop-fed.producer.desk.receiver) (map put_by c.loop-fed.producer.desk.permits.items)) (sym v.2) before in
          let after = c.in_ok-fed.ensures.stands done (take c.loop-fed.used bytes) [] at_number in
          let here = subst (λ n. Stands c.args.directory.now d (rooms_of c.args.context.now.intake.now.lanes.items) n done (take c.loop-fed.used bytes ++ take c.in_ok-fed.fed.used (take (length bytes - c.loop-fed.used) (drop c.loop-fed.used bytes))) (is_quit c.in_ok-fed.fed.what) c.turn.new.machine c.turn.new.out.items (notes_tell c.turn.new.producer.book.notes) (received c.turn.new.producer.desk.receiver) (map put_by c.turn.new.producer.desk.permits.items)) v.2 after in
          let whole = subst (λ l. Stands c.args.directory.now d (rooms_of c.args.context.now.intake.now.lanes.items) c.args.producer.now.desk.number done l (is_quit c.in_ok-fed.fed.what) c.turn.new.machine c.turn.new.out.items (notes_tell c.turn.new.producer.book.notes) (received c.turn.new.producer.desk.receiver) (map put_by c.turn.new.producer.desk.permits.items))
          (piece_more bytes c.loop-fed.used c.in_ok-fed.fed.used) here in
          subst (λ b. Stands c.args.directory.now d (rooms_of c.args.context.now.intake.now.lanes.items) c.args.producer.now.desk.number done (take (c.loop-fed.used + c.in_ok-fed.fed.used) bytes) b c.turn.new.machine c.turn.new.out.items (notes_tell c.turn.new.producer.book.notes) (received c.turn.new.producer.desk.receiver) (map put_by c.turn.new.producer.desk.permits.items))
          (ap is_quit c.in-Submit.is) whole,
      (let own = c.in_ok-fed.ensures.only in omega (arith, own, v.10)),
      λ seat was. c.in_ok-fed.ensures.backed seat (v.11 seat was),
    )

pub loop-fed-preserved : goal.loop-fed-preserved
loop-fed-preserved g c =
    let v = c.loop-fed.invariant in
    let lanes = c.args.context.now.intake.now.lanes.items in (
      subst (λ n. AreInForce c.args.directory.now lanes n c.turn.new.producer.desk.permits.items) v.2 c.in_ok-fed.ensures.permits,
      c.in_ok-fed.ensures.receiver,
      c.in_ok-fed.ensures.number ∙ v.2,
      (let e = c.in_ok-fed.ensures.ends in omega (arith, e, v.3)),
      c.in_ok-fed.ensures.owner ∙ v.4,
      c.in_ok-fed.ensures.quiet,
      c.in_ok-fed.ensures.same.0 ∙ v.6,
      c.in_ok-fed.ensures.same.1 ∙ v.7,
      search rules,
      λ done begun.
          let w = v in
          let d = c.args.context.now.intake.now.directory in
          let bytes = c.args.bytes.now in
          let before = v.9 done begun in
          let at_number = subst (λ n. Stands c.args.directory.now d (rooms_of c.args.context.now.intake.now.lanes.items) n done (take c.loop-fed.used bytes) false c.loop-fed.machine c.loop-fed.out.items (notes_tell c.loop-fed.producer.book.notes) (received c.loop-fed.producer.desk.receiver) (map put_by c.loop-fed.producer.desk.permits.items)) (sym v.2) before in
          let after = c.in_ok-fed.ensures.stands done (take c.loop-fed.used bytes) [] at_number in
          let here = subst (λ n. Stands c.args.directory.now d (rooms_of c.args.context.now.intake.now.lanes.items) n done (take c.loop-fed.used bytes ++ take c.in_ok-fed.fed.used (take (length bytes - c.loop-fed.used) (drop c.loop-fed.used bytes))) (is_quit c.in_ok-fed.fed.what) c.turn.new.machine c.turn.new.out.items (notes_tell c.turn.new.producer.book.notes) (received c.turn.new.producer.desk.receiver) (map put_by c.turn.new.producer.desk.permits.items)) v.2 after in
          let whole = subst (λ l. Stands c.args.directory.now d (rooms_of c.args.context.now.intake.now.lanes.items) c.args.producer.now.desk.number done l (is_quit c.in_ok-fed.fed.what) c.turn.new.machine c.turn.new.out.items (notes_tell c.turn.new.producer.book.notes) (received c.turn.new.producer.desk.receiver) (map put_by c.turn.new.producer.desk.permits.items))
          (piece_more bytes c.loop-fed.used c.in_ok-fed.fed.used) here in
          subst (λ b. Stands c.args.directory.now d (rooms_of c.args.context.now.intake.now.lanes.items) c.args.producer.now.desk.number done (take (c.loop-fed.used + c.in_ok-fed.fed.used) bytes) b c.turn.new.machine c.turn.new.out.items (notes_tell c.turn.new.producer.book.notes) (received c.turn.new.producer.desk.receiver) (map put_by c.turn.new.producer.desk.permits.items))
          (ap is_quit c.in-More.is) whole,
      (let own = c.in_ok-fed.ensures.only in omega (arith, own, v.10)),
      λ seat was. c.in_ok-fed.ensures.backed seat (v.11 seat was),
    )

pub returns-in-Quit-clause-only : goal.returns-in-Quit-clause-only
returns-in-Quit-clause-only g c = let own = c.in_ok-fed.ensures.only in omega (arith, own, c.loop-fed.invariant.10)

pub returns-then-used-bytes-clause-only : goal.returns-then-used-bytes-clause-only
returns-then-used-bytes-clause-only g c = let own = c.in_ok-fed.ensures.only in omega (arith, own, c.loop-fed.invariant.10)

pub returns-in_err-fed-clause-backed : goal.returns-in_err-fed-clause-backed
returns-in_err-fed-clause-backed g c seat was = c.turn.ensures.backed seat (c.loop-fed.invariant.11 seat was)

pub returns-in-Quit-clause-backed : goal.returns-in-Quit-clause-backed
returns-in-Quit-clause-backed g c seat was = c.turn.ensures.backed seat (c.loop-fed.invariant.11 seat was)

pub returns-then-used-bytes-clause-backed : goal.returns-then-used-bytes-clause-backed
returns-then-used-bytes-clause-backed g c seat was = c.turn.ensures.backed seat (c.loop-fed.invariant.11 seat was)
