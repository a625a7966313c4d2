use Rattle.std.proofs.Common.{arith, refl, ◌≡◌, ◌+◌, ◌++◌, [], ◌∙◌, None, rules, inl, inr, sym}
use Rattle.session_thread.specs.Life.{silent}
use Rattle.session_thread.proofs.Living.{handed_on}
use Rattle.session_thread.proofs.Spoken.{heard_more, more_carried, none_more, said_all, said_more, said_short, said_unheard, takes_more_now, unsent_now, was_all}
use Rattle.session_thread.proofs.speaking.answer.Goals as goal

pub loop-alloc-init : goal.loop-alloc-init
loop-alloc-init g c = (
  c.requires.ready,
  λ first h. h,
  omega arith,
  c.requires.going,
  c.requires.unsent,
  refl,
  ([], none_more (g.C.Courier.carried c.args.courier.now), λ d s. (d, s, silent)),
)

pub returns-then-is_none-clause-err : goal.returns-then-is_none-clause-err
returns-then-is_none-clause-err g c =
    let v = c.loop-alloc.invariant in
    let l = c.loop-alloc in
    let t = c.take-progress in
    let full = t.ensures.full (search rules) in
    said_short (g.O.Outlet.room t.new.out) c.args.bytes.now (l.used + t.result.used) v.6.0 c.args.store.now t.new.store (g.O.Outlet.said c.args.out.now) (g.O.Outlet.said t.new.out) c.args.connection.now t.new.self full
    (said_more c.args.bytes.now l.used v.6.0 c.args.store.now l.store t.new.store (g.O.Outlet.said c.args.out.now) (g.O.Outlet.said l.out) (g.O.Outlet.said t.new.out) t.result c.args.connection.now l.connection t.new.self v.3 v.4 t.ensures.used t.ensures.took v.6.2)

pub returns-then-not-awaits_verdict-clause-ok : goal.returns-then-not-awaits_verdict-clause-ok
returns-then-not-awaits_verdict-clause-ok g c =
    let v = c.loop-alloc.invariant in
    let l = c.loop-alloc in
    let t = c.take-progress in
    let some : t.result.after ≡ None → ⊥ = search rules in (
      v.6.0,
      v.6.1,
      said_all c.args.bytes.now (l.used + t.result.used) v.6.0 c.args.store.now t.new.store (g.O.Outlet.said c.args.out.now) (g.O.Outlet.said t.new.out) c.args.connection.now t.new.self
          (was_all c.args.bytes.now l.used t.result t.new.self.session v.2 some t.ensures.sends t.ensures.all (c.awaits_verdict.ensures.no c.if-not-awaits_verdict.true))
          (said_more c.args.bytes.now l.used v.6.0 c.args.store.now l.store t.new.store (g.O.Outlet.said c.args.out.now) (g.O.Outlet.said l.out) (g.O.Outlet.said t.new.out) t.result c.args.connection.now l.connection t.new.self v.3 v.4 t.ensures.used t.ensures.took v.6.2),
    )

pub returns-in_err-hear_verdicts-clause-err : goal.returns-in_err-hear_verdicts-clause-err
returns-in_err-hear_verdicts-clause-err g c =
    let v = c.loop-alloc.invariant in
    let l = c.loop-alloc in
    let t = c.take-progress in
    let h = c.hear_verdicts.new in
    let more = c.in_err-hear_verdicts.ensures.told in
    handed_on c.from_residual.result c.in_err-hear_verdicts.field-0.0 _ c.from_residual.ensures.1
    (said_unheard (g.O.Outlet.room h.out) c.args.bytes.now (l.used + t.result.used) (v.6.0 ++ more.0) c.in_err-hear_verdicts.field-0.0 c.args.store.now h.store (g.O.Outlet.said c.args.out.now) (g.O.Outlet.said h.out) c.args.connection.now h.connection c.in_err-hear_verdicts.ensures.unheard
    (heard_more c.args.bytes.now (l.used + t.result.used) v.6.0 more.0 c.args.store.now t.new.store h.store (g.O.Outlet.said c.args.out.now) (g.O.Outlet.said t.new.out) (g.O.Outlet.said h.out) c.args.connection.now t.new.self h.connection more.2
    (said_more c.args.bytes.now l.used v.6.0 c.args.store.now l.store t.new.store (g.O.Outlet.said c.args.out.now) (g.O.Outlet.said l.out) (g.O.Outlet.said t.new.out) t.result c.args.connection.now l.connection t.new.self v.3 v.4 t.ensures.used t.ensures.took v.6.2)))

pub returns-then-has_ended-clause-ok : goal.returns-then-has_ended-clause-ok
returns-then-has_ended-clause-ok g c =
    let v = c.loop-alloc.invariant in
    let l = c.loop-alloc in
    let t = c.take-progress in
    let h = c.hear_verdicts.new in
    let more = c.in_ok-hear_verdicts.ensures.told in (
      v.6.0 ++ more.0,
      more_carried (g.C.Courier.carried c.args.courier.now) (g.C.Courier.carried l.courier) (g.C.Courier.carried h.courier) v.6.0 more.0 v.6.1 more.1,
      said_all c.args.bytes.now (l.used + t.result.used) (v.6.0 ++ more.0) c.args.store.now h.store (g.O.Outlet.said c.args.out.now) (g.O.Outlet.said h.out) c.args.connection.now h.connection (inr (sym c.has_ended.ensures ∙ c.if-has_ended.true))
          (heard_more c.args.bytes.now (l.used + t.result.used) v.6.0 more.0 c.args.store.now t.new.store h.store (g.O.Outlet.said c.args.out.now) (g.O.Outlet.said t.new.out) (g.O.Outlet.said h.out) c.args.connection.now t.new.self h.connection more.2
          (said_more c.args.bytes.now l.used v.6.0 c.args.store.now l.store t.new.store (g.O.Outlet.said c.args.out.now) (g.O.Outlet.said l.out) (g.O.Outlet.said t.new.out) t.result c.args.connection.now l.connection t.new.self v.3 v.4 t.ensures.used t.ensures.took v.6.2)),
    )

pub returns-then-used-bytes-clause-ok : goal.returns-then-used-bytes-clause-ok
returns-then-used-bytes-clause-ok g c =
    let v = c.loop-alloc.invariant in
    let l = c.loop-alloc in
    let t = c.take-progress in
    let h = c.hear_verdicts.new in
    let more = c.in_ok-hear_verdicts.ensures.told in (
      v.6.0 ++ more.0,
      more_carried (g.C.Courier.carried c.args.courier.now) (g.C.Courier.carried l.courier) (g.C.Courier.carried h.courier) v.6.0 more.0 v.6.1 more.1,
      said_all c.args.bytes.now (l.used + t.result.used) (v.6.0 ++ more.0) c.args.store.now h.store (g.O.Outlet.said c.args.out.now) (g.O.Outlet.said h.out) c.args.connection.now h.connection
          (inl (c.if-used-bytes.true, takes_more_now h.connection.session (sym c.has_ended.ensures ∙ c.if-has_ended.false) (unsent_now h.connection.session (sym c.has_ended.ensures ∙ c.if-has_ended.false) c.in_ok-hear_verdicts.ensures.settled)))
          (heard_more c.args.bytes.now (l.used + t.result.used) v.6.0 more.0 c.args.store.now t.new.store h.store (g.O.Outlet.said c.args.out.now) (g.O.Outlet.said t.new.out) (g.O.Outlet.said h.out) c.args.connection.now t.new.self h.connection more.2
          (said_more c.args.bytes.now l.used v.6.0 c.args.store.now l.store t.new.store (g.O.Outlet.said c.args.out.now) (g.O.Outlet.said l.out) (g.O.Outlet.said t.new.out) t.result c.args.connection.now l.connection t.new.self v.3 v.4 t.ensures.used t.ensures.took v.6.2)),
    )

pub loop-alloc-preserved : goal.loop-alloc-preserved
loop-alloc-preserved g c =
    let v = c.loop-alloc.invariant in
    let l = c.loop-alloc in
    let t = c.take-progress in
    let h = c.hear_verdicts.new in
    let more = c.in_ok-hear_verdicts.ensures.told in (
      c.in_ok-hear_verdicts.ensures.ready,
      λ first k. c.in_ok-hear_verdicts.ensures.kept first (v.1 first k),
      search rules,
      sym c.has_ended.ensures ∙ c.if-has_ended.false,
      unsent_now h.connection.session (sym c.has_ended.ensures ∙ c.if-has_ended.false) c.in_ok-hear_verdicts.ensures.settled,
      c.in_ok-hear_verdicts.ensures.lot ∙ (t.ensures.lot ∙ v.5),
      (
        v.6.0 ++ more.0,
        more_carried (g.C.Courier.carried c.args.courier.now) (g.C.Courier.carried l.courier) (g.C.Courier.carried h.courier) v.6.0 more.0 v.6.1 more.1,
        heard_more c.args.bytes.now (l.used + t.result.used) v.6.0 more.0 c.args.store.now t.new.store h.store (g.O.Outlet.said c.args.out.now) (g.O.Outlet.said t.new.out) (g.O.Outlet.said h.out) c.args.connection.now t.new.self h.connection more.2
            (said_more c.args.bytes.now l.used v.6.0 c.args.store.now l.store t.new.store (g.O.Outlet.said c.args.out.now) (g.O.Outlet.said l.out) (g.O.Outlet.said t.new.out) t.result c.args.connection.now l.connection t.new.self v.3 v.4 t.ensures.used t.ensures.took v.6.2),
      ),
    )
