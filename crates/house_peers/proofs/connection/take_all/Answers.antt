use Rattle.std.proofs.Common.{◌≡◌, ◌∙◌, ap, subst, refl, [], ℕ, arith, length, length-drop}
use Rattle.lmtp_machine.specs.Calls.{Awaits, Tells}
use Rattle.lmtp_machine.specs.Dialogue.{Phase, Start, Ready, Transaction, Data, Waiting, Ended, turn}
use Rattle.lmtp_machine.specs.LmtpMachine.{StandsFor}
use Rattle.lmtp_machine.specs.declared.connection.What.{What}
use Rattle.lmtp_machine.specs.declared.connection.What.TheVariants.{More, Quit}
use Rattle.lmtp_machine.proofs.Calls.{nothing_taken, taken_more, the_rest}
use Rattle.house_peers.proofs.connection.take_all.Goals as goal

-- before any byte: the dialogue listens, or it has ended
quiet : (phase : Phase) (n : ℕ) → ((m : ℕ) → phase ≡ Waiting m → ⊥) → (what : What) × Tells what (turn phase n [])
quiet Start n h = (More, (refl, tt))
quiet Ready n h = (More, (refl, tt))
quiet (Transaction sender recipients) n h = (More, (refl, tt))
quiet (Data sender recipients lines) n h = (More, (refl, tt))
quiet (Waiting m) n h = absurd (h m refl)
quiet Ended n h = (Quit, (refl, refl))

pub loop-fed-init : goal.loop-fed-init
loop-fed-init c = record {
  within = omega arith;
  quiet = c.requires;
  setting = refl;
  host = refl;
  taken = λ d s h. let q = quiet d.standing.phase d.standing.submitted h in
      (q.0, nothing_taken (StandsFor c.args.machine.now) c.args.machine.now.setting c.args.machine.now.host c.args.directory.now d c.args.out.now.items q.0 c.args.machine.now.pending s.open_end s c.requires q.1);
}

pub loop-fed-preserved : goal.loop-fed-preserved
loop-fed-preserved c =
    let i = c.loop-fed.invariant in
    let e = c.in-Ok.ensures in
    record {
      within = omega (arith, e.used, ap length (the_rest c.loop-fed.used c.args.piece.now), length-drop c.loop-fed.used c.args.piece.now);
      quiet = subst (λ (w : What). Awaits w c.feed.new.self.pending) c.in-More.is e.awaits;
      setting = e.same.0 ∙ i.setting;
      host = e.same.1 ∙ i.host;
      taken = λ d s h. let t = i.taken d s h in (
        c.in-Ok.fed.what,
        taken_more (StandsFor c.loop-fed.machine) (StandsFor c.feed.new.self) c.args.machine.now.setting c.loop-fed.machine.setting c.args.machine.now.host c.loop-fed.machine.host
            c.args.directory.now d c.args.piece.now _ c.args.out.now.items c.loop-fed.out.items c.feed.new.out.items c.loop-fed.used t.0 c.in-Ok.fed c.loop-fed.machine.pending c.feed.new.self.pending
            i.setting i.host i.quiet (the_rest c.loop-fed.used c.args.piece.now) t.1 e.ok,
      );
    }

pub returns-in-More-2-clause-taken : goal.returns-in-More-2-clause-taken
returns-in-More-2-clause-taken c d s h =
    let i = c.loop-fed.invariant in
    let t = i.taken d s h in
    taken_more (StandsFor c.loop-fed.machine) (StandsFor c.feed.new.self) c.args.machine.now.setting c.loop-fed.machine.setting c.args.machine.now.host c.loop-fed.machine.host
    c.args.directory.now d c.args.piece.now _ c.args.out.now.items c.loop-fed.out.items c.feed.new.out.items c.loop-fed.used t.0 c.in-Ok.fed c.loop-fed.machine.pending c.feed.new.self.pending
    i.setting i.host i.quiet (the_rest c.loop-fed.used c.args.piece.now) t.1 c.in-Ok.ensures.ok

pub returns-in-Submit-clause-taken : goal.returns-in-Submit-clause-taken
returns-in-Submit-clause-taken c d s h =
    let i = c.loop-fed.invariant in
    let t = i.taken d s h in
    taken_more (StandsFor c.loop-fed.machine) (StandsFor c.feed.new.self) c.args.machine.now.setting c.loop-fed.machine.setting c.args.machine.now.host c.loop-fed.machine.host
    c.args.directory.now d c.args.piece.now _ c.args.out.now.items c.loop-fed.out.items c.feed.new.out.items c.loop-fed.used t.0 c.in-Ok.fed c.loop-fed.machine.pending c.feed.new.self.pending
    i.setting i.host i.quiet (the_rest c.loop-fed.used c.args.piece.now) t.1 c.in-Ok.ensures.ok

pub returns-in-Quit-clause-taken : goal.returns-in-Quit-clause-taken
returns-in-Quit-clause-taken c d s h =
    let i = c.loop-fed.invariant in
    let t = i.taken d s h in
    taken_more (StandsFor c.loop-fed.machine) (StandsFor c.feed.new.self) c.args.machine.now.setting c.loop-fed.machine.setting c.args.machine.now.host c.loop-fed.machine.host
    c.args.directory.now d c.args.piece.now _ c.args.out.now.items c.loop-fed.out.items c.feed.new.out.items c.loop-fed.used t.0 c.in-Ok.fed c.loop-fed.machine.pending c.feed.new.self.pending
    i.setting i.host i.quiet (the_rest c.loop-fed.used c.args.piece.now) t.1 c.in-Ok.ensures.ok
