use Rattle.std.proofs.Common.{◌∙◌, ℕ, ap, arith, subst, sym}
use Rattle.envelope.specs.Names.{Directory, is_shut}
use Rattle.house.specs.House.{House}
use Rattle.house.specs.Stands.{StandsFor}
use Rattle.house.proofs.Closing.{close_led}
use Rattle.house.specs.contracts.house.House.{the_view}
use Rattle.house.proofs.house.House.close.Goals as goal

pub returns-clause-follows : goal.returns-clause-follows
returns-clause-follows c k s old st =
    let i = c.self.inside in
    let h : House = the_view i in
    let st1 = subst (λ (x : House). StandsFor k x s) (sym c.self.view_is) st in
    let r = close_led k h s c.args.shard old st1 (let a = c.if-shard-shards.false in let d = c.shards.ensures.value in omega (arith, a, d)) (ap (λ (n : ℕ). is_shut i.directory n) (sym c.from.ensures) ∙ sym c.is_shut.ensures ∙ c.if-is_shut.false) in
    record {
      after = r.0;
      printed = r.1;
      plays = r.2;
      stands = subst (λ (d : Directory). StandsFor k (record { core = i.store.core; callers = i.connections.peers.items; serials = i.connections.serials.items; visitors = i.sessions.peers.items; entered = i.sessions.serials.items; directory = d; host = i.host.items; max_message = i.max_message; compatible = i.compatible }) r.0) (sym c.shut.ensures) r.3;
      out = r.4;
    }
