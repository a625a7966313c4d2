use Rattle.std.proofs.Common.{rules, [], refl, arith}
use Rattle.std.proofs.lemmas.Int.{clamps}
use Rattle.std.proofs.KnownBytes.{Consumes-nil}
use Rattle.imap_stream.specs.declared.client_slot.Parting.TheVariants.{Over}
use Rattle.imap_stream.proofs.Attending.{hears_further, hears_nothing, hears_out}
use Rattle.imap_stream.proofs.client_slot.ClientSlot.serve.Goals as goal

pub loop-init : goal.loop-init
loop-init g c = (
  c.requires.ready,
  λ first was. was,
  hears_nothing (g.I.Read.remaining c.args.input.now) c.args.visit.now,
  λ some. some,
  omega (arith, clamps),
)

pub loop-preserved : goal.loop-preserved
loop-preserved g c =
    let v = c.loop.invariant in
    let r = g.I.Read in (
      c.go_on.ensures.ready,
      λ first was. c.go_on.ensures.kept first (v.1 first was),
      hears_further (r.remaining c.args.input.now) (r.remaining c.loop.input) (r.remaining c.go_on.new.input) c.args.visit.now c.loop.visit c.go_on.new.visit v.2 (c.go_on.ensures.on (search rules)),
      λ some. c.go_on.ensures.some (v.3 some),
      (let most = c.go_on.ensures.most in omega (arith, clamps, most, v.4)),
    )

pub returns-then-not-takes_bytes-clause-out : goal.returns-then-not-takes_bytes-clause-out
returns-then-not-takes_bytes-clause-out g c =
    let r = g.I.Read in
    hears_out (r.remaining c.args.input.now) (r.remaining c.loop.input) (r.remaining c.loop.input) Over [] c.args.visit.now c.loop.visit c.loop.visit c.loop.invariant.2 (Consumes-nil (r.remaining c.loop.input)) (refl, refl, search rules)

pub returns-then-not-takes_bytes-clause-most : goal.returns-then-not-takes_bytes-clause-most
returns-then-not-takes_bytes-clause-most g c = c.loop.invariant.4

pub returns-in-Some-go_on-clause-out : goal.returns-in-Some-go_on-clause-out
returns-in-Some-go_on-clause-out g c =
    let r = g.I.Read in
    let out = c.in-Some-go_on.ensures.out in
    hears_out (r.remaining c.args.input.now) (r.remaining c.loop.input) (r.remaining c.go_on.new.input) c.in-Some-go_on.parting out.0 c.args.visit.now c.loop.visit c.go_on.new.visit c.loop.invariant.2 out.1 out.2

pub returns-in-Some-go_on-clause-gone : goal.returns-in-Some-go_on-clause-gone
returns-in-Some-go_on-clause-gone g c some gone = c.in-Some-go_on.ensures.gone (c.loop.invariant.3 some) gone

pub returns-in-Some-go_on-clause-most : goal.returns-in-Some-go_on-clause-most
returns-in-Some-go_on-clause-most g c =
    let most = c.in-Some-go_on.ensures.most in
    let so_far = c.loop.invariant.4 in omega (arith, clamps, most, so_far)
