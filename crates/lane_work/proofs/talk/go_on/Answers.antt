use Rattle.std.proofs.Common.{rules, List, ℕ, ◌++◌, ◌∙◌, ◌≡◌, ap, refl, sym, subst, map, take, false, Err, Ok, arith}
use Rattle.std.proofs.lemmas.Int.{clamps}
use Rattle.std.specs.Io.KnownBytes.{Appends, Consumes}
use Rattle.std.proofs.KnownBytes.{Keeps-refl}
use Rattle.shard_queue.specs.Reply.{received}
use Rattle.lane_work.proofs.SlotLaws.{start_on, start_same}
use Rattle.lane_work.specs.Account.{rooms_of}
use Rattle.lane_work.specs.Permits.{AreInForce, put_by}
use Rattle.lane_work.specs.Speaking.{Stands, premises_of}
use Rattle.lane_work.specs.declared.outcome.Ending.TheVariants.{Quit, Gone}
use Rattle.lane_work.specs.declared.outcome.TalkFault.{TalkFault}
use Rattle.lane_work.specs.declared.outcome.TalkFault.TheVariants.{Read}
use Rattle.lane_work.specs.declared.piece.Next.{Next}
use Rattle.lane_work.specs.inner.Pieces.{SaidByThen, TookPiece}
use Rattle.lane_work.specs.Streaming.{AreCutShort, AreGivenUp, IsPlayed}
use Rattle.lane_work.proofs.LastWords.{has_ended}
use Rattle.lane_work.proofs.Taking.{longer}
use Rattle.lane_work.proofs.Going.{goes_begin, goes_sent, goes_piece, going, stood, keeps_of, ends_here, ends_cut, ends_shut, ends_wanting, ends_torn}
use Rattle.lane_work.proofs.talk.go_on.Goals as goal

pub loop-init : goal.loop-init
loop-init g c = (
  c.requires.permits,
  c.requires.receiver,
  refl,
  omega arith,
  refl,
  c.requires.quiet,
  refl,
  refl,
  c.requires.live,
  omega arith,
  omega (arith, clamps),
  λ done begun. goes_begin (premises_of c.args.context.now.intake.now) c.args.producer.now.desk.number done (g.I.Read.remaining c.args.input.now) (g.O.Sink.taken c.args.output.now) c.args.machine.now c.args.buffers.now.output.items (g.N.VerdictLog.tells c.args.producer.now.book)
      (received c.args.producer.now.desk.receiver) (map put_by c.args.producer.now.desk.permits.items) begun,
  start_same (received c.args.producer.now.desk.receiver),
  λ seat was. was,
)

pub returns-in_default-clause-played : goal.returns-in_default-clause-played
returns-in_default-clause-played g c done begun =
    let v = c.loop.invariant in
    let s = g.O.Sink in
    let house = premises_of c.args.context.now.intake.now in
    let cut : AreCutShort (s.taken c.loop.output) (s.taken c.send.new.w) (s.failed c.send.new.w) c.as_slice.result.now = (c.in_default.ensures.failed, c.in_default.field-0.sent, c.in_default.ensures.sent, c.in_default.ensures.fault) in
    ends_cut house c.args.producer.now.desk.number done (g.I.Read.remaining c.args.input.now) (s.taken c.args.output.now) (g.I.Read.remaining c.loop.input) (s.taken c.loop.output) c.loop.machine c.loop.buffers.output.items (g.N.VerdictLog.tells c.loop.producer.book)
    (received c.loop.producer.desk.receiver) (map put_by c.loop.producer.desk.permits.items) (v.11 done begun) (s.taken c.send.new.w) c.args.machine.now.setting (s.failed c.send.new.w) v.6 (v.7 ∙ c.requires.host)
    (subst (AreCutShort (s.taken c.loop.output) (s.taken c.send.new.w) (s.failed c.send.new.w)) c.as_slice.ensures.value cut)

pub returns-then-has_ended-clause-played : goal.returns-then-has_ended-clause-played
returns-then-has_ended-clause-played g c done begun =
    let v = c.loop.invariant in
    let s = g.O.Sink in
    let house = premises_of c.args.context.now.intake.now in
    let p = c.args.producer.now.desk.number in
    let stream = g.I.Read.remaining c.args.input.now in
    let rest = g.I.Read.remaining c.loop.input in
    let before = s.taken c.args.output.now in
    let after = s.taken c.send.new.w in
    let m = c.loop.machine in
    let heard = received c.loop.producer.desk.receiver in
    let put = map put_by c.loop.producer.desk.permits.items in
    let keeps = g.N.VerdictLog.tells c.loop.producer.book in
    let here = goes_sent house p done stream before rest (s.taken c.loop.output) after m c.loop.buffers.output.items c.clear.new.self.items keeps heard put c.clear.ensures.items (subst (Appends (s.taken c.loop.output) after) c.as_slice.ensures.value c.in-Ok.ensures.ok) (v.11 done begun) in
    ends_here house p done stream before rest after m c.clear.new.self.items keeps heard put here rest c.args.machine.now.setting (s.failed c.send.new.w) (Ok Quit) c.clear.ensures.items v.6 (v.7 ∙ c.requires.host) c.in-Ok.ensures.live
    (Keeps-refl rest) (λ all. (has_ended m here.stands.at (c.has_ended.ensures.ended c.if-has_ended.true) here.stands.machine, all))

pub returns-in_default-read_piece-clause-played : goal.returns-in_default-read_piece-clause-played
returns-in_default-read_piece-clause-played g c done begun =
    let v = c.loop.invariant in
    let s = g.O.Sink in
    let house = premises_of c.args.context.now.intake.now in
    let p = c.args.producer.now.desk.number in
    let stream = g.I.Read.remaining c.args.input.now in
    let rest = g.I.Read.remaining c.loop.input in
    let before = s.taken c.args.output.now in
    let after = s.taken c.send.new.w in
    let m = c.loop.machine in
    let heard = received c.loop.producer.desk.receiver in
    let put = map put_by c.loop.producer.desk.permits.items in
    let keeps = g.N.VerdictLog.tells c.loop.producer.book in
    let not = c.has_ended.ensures.going c.if-has_ended.false in
    let here = goes_sent house p done stream before rest (s.taken c.loop.output) after m c.loop.buffers.output.items c.clear.new.self.items keeps heard put c.clear.ensures.items (subst (Appends (s.taken c.loop.output) after) c.as_slice.ensures.value c.in-Ok.ensures.ok) (v.11 done begun) in
    let on = going house p done stream before rest after m c.clear.new.self.items keeps heard put here not in
    ends_here house p done stream before rest after m c.clear.new.self.items keeps heard put here (g.I.Read.remaining c.read_piece.new.input) c.args.machine.now.setting (s.failed c.send.new.w) (Err Read) c.clear.ensures.items v.6 (v.7 ∙ c.requires.host) c.in-Ok.ensures.live
    c.in_default-read_piece.ensures.none (λ all. (on.1, on.0, all))

pub returns-then-not-load-clause-played : goal.returns-then-not-load-clause-played
returns-then-not-load-clause-played g c done begun =
    let v = c.loop.invariant in
    let s = g.O.Sink in
    let house = premises_of c.args.context.now.intake.now in
    let p = c.args.producer.now.desk.number in
    let stream = g.I.Read.remaining c.args.input.now in
    let rest = g.I.Read.remaining c.loop.input in
    let less = g.I.Read.remaining c.read_piece.new.input in
    let before = s.taken c.args.output.now in
    let after = s.taken c.send.new.w in
    let m = c.loop.machine in
    let heard = received c.loop.producer.desk.receiver in
    let put = map put_by c.loop.producer.desk.permits.items in
    let keeps = g.N.VerdictLog.tells c.loop.producer.book in
    let not = c.has_ended.ensures.going c.if-has_ended.false in
    let here = goes_sent house p done stream before rest (s.taken c.loop.output) after m c.loop.buffers.output.items c.clear.new.self.items keeps heard put c.clear.ensures.items (subst (Appends (s.taken c.loop.output) after) c.as_slice.ensures.value c.in-Ok.ensures.ok) (v.11 done begun) in
    let on = going house p done stream before rest after m c.clear.new.self.items keeps heard put here not in
    let none : c.in-Ok-read_piece.count ≡ 0 = search rules in
    ends_here house p done stream before rest after m c.clear.new.self.items keeps heard put here less c.args.machine.now.setting (s.failed c.send.new.w) (Ok Gone) c.clear.ensures.items v.6 (v.7 ∙ c.requires.host) c.in-Ok.ensures.live
    (keeps_of rest less (subst (λ n. Consumes rest less (take n c.read_piece.new.buffer.items)) none c.in-Ok-read_piece.ensures.came)) (λ all. (on.1, on.0, c.in-Ok-read_piece.ensures.end none, all))

pub loop-preserved : goal.loop-preserved
loop-preserved g c =
    let v = c.loop.invariant in
    let lanes = c.args.context.now.intake.now.lanes.items in (
      subst (λ n. AreInForce c.args.context.now.intake.now.directory lanes n c.take_piece.new.producer.desk.permits.items) v.2 c.in-Ok-Read.ensures.permits,
      c.in-Ok-Read.ensures.receiver,
      c.in-Ok-Read.ensures.number ∙ v.2,
      (let e = c.in-Ok-Read.ensures.ends in omega (arith, e, v.3)),
      c.in-Ok-Read.ensures.owner ∙ v.4,
      c.in-Ok-Read.ensures.quiet,
      c.in-Ok-Read.ensures.same.0 ∙ v.6,
      c.in-Ok-Read.ensures.same.1 ∙ v.7,
      c.in-Ok.ensures.live,
      (let e = c.in-Ok-read_piece.ensures.len in let w = c.widen.ensures.longer in omega (arith, e, v.9, w)),
      (let e = c.in-Ok-read_piece.ensures.len in let w = c.widen.ensures.most in omega (arith, clamps, e, v.10, w)),
      λ done begun.
          let s = g.O.Sink in
          let house = premises_of c.args.context.now.intake.now in
          let p = c.args.producer.now.desk.number in
          let stream = g.I.Read.remaining c.args.input.now in
          let rest = g.I.Read.remaining c.loop.input in
          let less = g.I.Read.remaining c.read_piece.new.input in
          let before = s.taken c.args.output.now in
          let after = s.taken c.send.new.w in
          let m = c.loop.machine in
          let heard = received c.loop.producer.desk.receiver in
          let put = map put_by c.loop.producer.desk.permits.items in
          let keeps = g.N.VerdictLog.tells c.loop.producer.book in
          let out = c.clear.new.self.items in
          let piece = take c.in-Ok-read_piece.count c.deref.result.now in
          let came = subst (λ (xs : List ℕ). Consumes rest less (take c.in-Ok-read_piece.count xs)) (sym c.deref.ensures.value) c.in-Ok-read_piece.ensures.came in
          let not = c.has_ended.ensures.going c.if-has_ended.false in
          let here = goes_sent house p done stream before rest (s.taken c.loop.output) after m c.loop.buffers.output.items out keeps heard put c.clear.ensures.items (subst (Appends (s.taken c.loop.output) after) c.as_slice.ensures.value c.in-Ok.ensures.ok) (v.11 done begun) in
          let was = stood house p done stream before rest after m out keeps heard put here not in
          let at_number = subst (λ n. Stands c.args.context.now.intake.now.directory c.args.context.now.intake.now.directory (rooms_of lanes) n done here.taken false m (here.told ++ out) keeps heard put) (sym v.2) was in
          let took = c.in-Ok-Read.ensures.took done here.taken here.told at_number in
          let named = subst (λ n. TookPiece c.args.context.now.intake.now.directory (rooms_of lanes) n done here.taken piece c.in-Ok-Read.field-0 c.take_piece.new.machine (here.told ++ c.take_piece.new.out.items) (g.N.VerdictLog.tells c.take_piece.new.producer.book) (received c.take_piece.new.producer.desk.receiver) (map put_by c.take_piece.new.producer.desk.permits.items)) v.2 took in
          let read = subst (λ (n : Next). TookPiece c.args.context.now.intake.now.directory (rooms_of lanes) p done here.taken piece n c.take_piece.new.machine (here.told ++ c.take_piece.new.out.items) (g.N.VerdictLog.tells c.take_piece.new.producer.book) (received c.take_piece.new.producer.desk.receiver) (map put_by c.take_piece.new.producer.desk.permits.items)) c.in-Ok-Read.field-0-is named in
          goes_piece house p done stream before rest after m out keeps heard put here not less piece c.take_piece.new.machine c.take_piece.new.out.items (g.N.VerdictLog.tells c.take_piece.new.producer.book) (received c.take_piece.new.producer.desk.receiver) (map put_by c.take_piece.new.producer.desk.permits.items)
          came read,
      start_on (received c.args.producer.now.desk.receiver) (received c.loop.producer.desk.receiver) (received c.take_piece.new.producer.desk.receiver) v.12 c.in-Ok-Read.ensures.grew,
      λ seat was. c.in-Ok-Read.ensures.backed seat (v.13 seat was),
    )

pub returns-in-Ok-Shut-clause-played : goal.returns-in-Ok-Shut-clause-played
returns-in-Ok-Shut-clause-played g c done begun =
    let v = c.loop.invariant in
    let s = g.O.Sink in
    let lanes = c.args.context.now.intake.now.lanes.items in
    let house = premises_of c.args.context.now.intake.now in
    let p = c.args.producer.now.desk.number in
    let stream = g.I.Read.remaining c.args.input.now in
    let rest = g.I.Read.remaining c.loop.input in
    let less = g.I.Read.remaining c.read_piece.new.input in
    let before = s.taken c.args.output.now in
    let after = s.taken c.send.new.w in
    let m = c.loop.machine in
    let heard = received c.loop.producer.desk.receiver in
    let put = map put_by c.loop.producer.desk.permits.items in
    let keeps = g.N.VerdictLog.tells c.loop.producer.book in
    let out = c.clear.new.self.items in
    let piece = take c.in-Ok-read_piece.count c.deref.result.now in
    let came = subst (λ (xs : List ℕ). Consumes rest less (take c.in-Ok-read_piece.count xs)) (sym c.deref.ensures.value) c.in-Ok-read_piece.ensures.came in
    let not = c.has_ended.ensures.going c.if-has_ended.false in
    let here = goes_sent house p done stream before rest (s.taken c.loop.output) after m c.loop.buffers.output.items out keeps heard put c.clear.ensures.items (subst (Appends (s.taken c.loop.output) after) c.as_slice.ensures.value c.in-Ok.ensures.ok) (v.11 done begun) in
    let was = stood house p done stream before rest after m out keeps heard put here not in
    let at_number = subst (λ n. Stands c.args.context.now.intake.now.directory c.args.context.now.intake.now.directory (rooms_of lanes) n done here.taken false m (here.told ++ out) keeps heard put) (sym v.2) was in
    let took = c.in-Ok-Shut.ensures.took done here.taken here.told at_number in
    let named = subst (λ n. TookPiece c.args.context.now.intake.now.directory (rooms_of lanes) n done here.taken piece c.in-Ok-Shut.field-0 c.take_piece.new.machine (here.told ++ c.take_piece.new.out.items) (g.N.VerdictLog.tells c.take_piece.new.producer.book) (received c.take_piece.new.producer.desk.receiver) (map put_by c.take_piece.new.producer.desk.permits.items)) v.2 took in
    let shut = subst (λ (n : Next). TookPiece c.args.context.now.intake.now.directory (rooms_of lanes) p done here.taken piece n c.take_piece.new.machine (here.told ++ c.take_piece.new.out.items) (g.N.VerdictLog.tells c.take_piece.new.producer.book) (received c.take_piece.new.producer.desk.receiver) (map put_by c.take_piece.new.producer.desk.permits.items)) c.in-Ok-Shut.field-0-is named in
    ends_shut house p done stream before rest after m out keeps heard put here not less (s.taken c.shut_down.new.output) (s.failed c.shut_down.new.output) c.args.machine.now.setting piece c.take_piece.new.machine c.take_piece.new.out.items
    (g.N.VerdictLog.tells c.take_piece.new.producer.book) (received c.take_piece.new.producer.desk.receiver) (map put_by c.take_piece.new.producer.desk.permits.items) c.shut_down.result (c.in-Ok-Shut.ensures.same.0 ∙ v.6) (c.in-Ok-Shut.ensures.same.1 ∙ v.7 ∙ c.requires.host)
    came shut c.shut_down.ensures.last

pub returns-in-Err-NoMemory-clause-played : goal.returns-in-Err-NoMemory-clause-played
returns-in-Err-NoMemory-clause-played g c done begun =
    let v = c.loop.invariant in
    let s = g.O.Sink in
    let lanes = c.args.context.now.intake.now.lanes.items in
    let house = premises_of c.args.context.now.intake.now in
    let p = c.args.producer.now.desk.number in
    let stream = g.I.Read.remaining c.args.input.now in
    let rest = g.I.Read.remaining c.loop.input in
    let less = g.I.Read.remaining c.read_piece.new.input in
    let before = s.taken c.args.output.now in
    let after = s.taken c.send.new.w in
    let last = s.taken c.give_up.new.output in
    let failed = s.failed c.give_up.new.output in
    let m = c.loop.machine in
    let heard = received c.loop.producer.desk.receiver in
    let put = map put_by c.loop.producer.desk.permits.items in
    let keeps = g.N.VerdictLog.tells c.loop.producer.book in
    let out = c.clear.new.self.items in
    let piece = take c.in-Ok-read_piece.count c.deref.result.now in
    let came = subst (λ (xs : List ℕ). Consumes rest less (take c.in-Ok-read_piece.count xs)) (sym c.deref.ensures.value) c.in-Ok-read_piece.ensures.came in
    let not = c.has_ended.ensures.going c.if-has_ended.false in
    let here = goes_sent house p done stream before rest (s.taken c.loop.output) after m c.loop.buffers.output.items out keeps heard put c.clear.ensures.items (subst (Appends (s.taken c.loop.output) after) c.as_slice.ensures.value c.in-Ok.ensures.ok) (v.11 done begun) in
    let was = stood house p done stream before rest after m out keeps heard put here not in
    let at_number = subst (λ n. Stands c.args.context.now.intake.now.directory c.args.context.now.intake.now.directory (rooms_of lanes) n done here.taken false m (here.told ++ out) keeps heard put) (sym v.2) was in
    let by_then = c.in-Err-NoMemory.ensures.no_memory (ap (λ x. Err x) c.in-Err-NoMemory.field-0-is) done here.taken here.told at_number in
    let named = subst (λ n. SaidByThen m.setting m.host c.args.context.now.intake.now.directory (rooms_of lanes) n done here.taken piece (here.told ++ c.take_piece.new.out.items) (g.N.VerdictLog.tells c.take_piece.new.producer.book) (received c.take_piece.new.producer.desk.receiver) (map put_by c.take_piece.new.producer.desk.permits.items)) v.2 by_then in
    let given : AreGivenUp after last failed c.take_piece.new.out.items = subst (AreGivenUp after last failed) c.as_slice-in-Err-NoMemory.ensures.value c.give_up.ensures.sent in
    subst (λ (f : TalkFault). IsPlayed house c.args.machine.now.setting p done stream less before last failed (g.N.VerdictLog.tells c.take_piece.new.producer.book) (received c.take_piece.new.producer.desk.receiver) (map put_by c.take_piece.new.producer.desk.permits.items) (Err f)) (sym c.give_up.ensures.fault)
    (ends_wanting house p done stream before rest after m out keeps heard put here not less last failed c.args.machine.now.setting piece c.take_piece.new.out.items
    (g.N.VerdictLog.tells c.take_piece.new.producer.book) (received c.take_piece.new.producer.desk.receiver) (map put_by c.take_piece.new.producer.desk.permits.items) v.6 (v.7 ∙ c.requires.host)
    came named given)

pub returns-in-Err-Torn-clause-played : goal.returns-in-Err-Torn-clause-played
returns-in-Err-Torn-clause-played g c done begun =
    let v = c.loop.invariant in
    let s = g.O.Sink in
    let house = premises_of c.args.context.now.intake.now in
    let p = c.args.producer.now.desk.number in
    let stream = g.I.Read.remaining c.args.input.now in
    let rest = g.I.Read.remaining c.loop.input in
    let less = g.I.Read.remaining c.read_piece.new.input in
    let before = s.taken c.args.output.now in
    let after = s.taken c.send.new.w in
    let m = c.loop.machine in
    let heard = received c.loop.producer.desk.receiver in
    let put = map put_by c.loop.producer.desk.permits.items in
    let keeps = g.N.VerdictLog.tells c.loop.producer.book in
    let out = c.clear.new.self.items in
    let piece = take c.in-Ok-read_piece.count c.read_piece.new.buffer.items in
    let not = c.has_ended.ensures.going c.if-has_ended.false in
    let here = goes_sent house p done stream before rest (s.taken c.loop.output) after m c.loop.buffers.output.items out keeps heard put c.clear.ensures.items (subst (Appends (s.taken c.loop.output) after) c.as_slice.ensures.value c.in-Ok.ensures.ok) (v.11 done begun) in
    ends_torn house p done stream before rest after m out keeps heard put here not less (s.failed c.send.new.w) c.args.machine.now.setting piece
    (g.N.VerdictLog.tells c.take_piece.new.producer.book) (received c.take_piece.new.producer.desk.receiver) (map put_by c.take_piece.new.producer.desk.permits.items) c.clear.ensures.items v.6 (v.7 ∙ c.requires.host) c.in-Ok.ensures.live c.in-Ok-read_piece.ensures.came

pub returns-in-Ok-Shut-clause-grew : goal.returns-in-Ok-Shut-clause-grew
returns-in-Ok-Shut-clause-grew g c = start_on (received c.args.producer.now.desk.receiver) (received c.loop.producer.desk.receiver) (received c.take_piece.new.producer.desk.receiver) c.loop.invariant.12 c.in-Ok-Shut.ensures.grew

pub returns-in-Err-NoMemory-clause-grew : goal.returns-in-Err-NoMemory-clause-grew
returns-in-Err-NoMemory-clause-grew g c = start_on (received c.args.producer.now.desk.receiver) (received c.loop.producer.desk.receiver) (received c.take_piece.new.producer.desk.receiver) c.loop.invariant.12 c.in-Err-NoMemory.ensures.grew

pub returns-in-Err-Torn-clause-grew : goal.returns-in-Err-Torn-clause-grew
returns-in-Err-Torn-clause-grew g c = start_on (received c.args.producer.now.desk.receiver) (received c.loop.producer.desk.receiver) (received c.take_piece.new.producer.desk.receiver) c.loop.invariant.12 c.in-Err-Torn.ensures.grew

pub returns-in-Err-Torn-clause-torn : goal.returns-in-Err-Torn-clause-torn
returns-in-Err-Torn-clause-torn g c why = longer (received c.args.producer.now.desk.receiver) (received c.loop.producer.desk.receiver) (received c.take_piece.new.producer.desk.receiver) c.loop.invariant.12 (c.in-Err-Torn.ensures.torn (ap (λ x. Err x) c.in-Err-Torn.field-0-is))

pub returns-in-Ok-Shut-clause-backed : goal.returns-in-Ok-Shut-clause-backed
returns-in-Ok-Shut-clause-backed g c seat was = c.in-Ok-Shut.ensures.backed seat (c.loop.invariant.13 seat was)

pub returns-in-Err-NoMemory-clause-backed : goal.returns-in-Err-NoMemory-clause-backed
returns-in-Err-NoMemory-clause-backed g c seat was = c.in-Err-NoMemory.ensures.backed seat (c.loop.invariant.13 seat was)

pub returns-in-Err-Torn-clause-backed : goal.returns-in-Err-Torn-clause-backed
returns-in-Err-Torn-clause-backed g c seat was = c.in-Err-Torn.ensures.backed seat (c.loop.invariant.13 seat was)
