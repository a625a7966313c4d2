use Rattle.std.proofs.Common.{List, [], ◌++◌, take, drop, sym, ap, ap₂, ◌∙◌, subst, arith}
use Rattle.std.proofs.lemmas.List.{take-append-drop}
use Rattle.change_ring.specs.declared.change.Change.{Change}
use Rattle.change_ring.specs.Log.{added, replay}
use Rattle.change_ring.proofs.LogLaws.{added-append, replay-append}
use Rattle.change_ring.proofs.WindowLaws.{changes_from-log}
use Rattle.mailbox.specs.Mailbox.{IsKept}
use Rattle.mailbox.specs.inner.Seen.{mail_of}
use Rattle.mailbox.proofs.StandsLaws.{Stands-rising, view-all}
use Rattle.mailbox.proofs.laws.every_mailbox_keeps.Goals as goal

pub returns : goal.returns
returns c =
    let m = mail_of c.mailbox.inside in
    let log = c.mailbox.invariant.2.0 in
    let s = c.mailbox.invariant.2.1 in
    subst IsKept c.mailbox.view_is (record {
      views = λ slot o found low.
          ap₂ replay (s.cursors slot o found).view (changes_from-log m.window log o.at s.window low)
          ∙ sym (replay-append [] (take o.at log) (drop o.at log)) ∙ ap (replay []) (take-append-drop o.at log) ∙ sym (view-all m log s);
      within = λ slot o found. omega (arith, (s.cursors slot o found).within, s.window.long);
      rising = Stands-rising m log s;
      numbered = s.numbered;
      last = (
        added (take m.window.base log),
        s.accepted ∙ ap added (sym (take-append-drop m.window.base log)) ∙ added-append (take m.window.base log) (drop m.window.base log)
            ∙ ap (λ (cs : List Change). added (take m.window.base log) ++ added cs) s.window.rest,
      );
      held = c.capacity-room.ensures.within;
      most = c.capacity-room.ensures.most;
      few = omega (arith, c.total-logged.ensures.total, c.total-logged.ensures.small);
      handles = c.mailbox.invariant.3;
    })
