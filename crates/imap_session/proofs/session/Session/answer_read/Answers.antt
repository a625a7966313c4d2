use Rattle.std.proofs.Common.{◌≡◌, ◌++◌, true, false, List, Option, Some, ℕ, Ok, ◌∙◌, ap, refl, subst, sym}
use Rattle.imap_grammar.specs.Reading.{read}
use Rattle.imap_session.specs.declared.standing.Profile.{Profile}
use Rattle.imap_session.specs.inner.Appends.{Leads}
use Rattle.imap_session.specs.Response.{Response}
use Rattle.imap_grammar.specs.declared.command.Command.TheVariants as commands
use Rattle.imap_session.specs.Commands.{appending, barred_at, logs_in_as, on_command, wants_response}
use Rattle.imap_session.specs.Exchange.{played}
use Rattle.imap_session.specs.inner.Lines.{Had}
use Rattle.imap_session.specs.inner.Store.{first_line}
use Rattle.imap_session.proofs.Ending.{plays_first_line}
use Rattle.imap_session.proofs.Lines.{IsTaken, answers_append, answers_barred, answers_challenge, answers_command, answers_copy, answers_idle, answers_login, is_taken}
use Rattle.std.specs.Option.{option_copied}
use Rattle.imap_session.proofs.session.Session.answer_read.Goals as goal

pub returns-then-wants_response-clause-answered : goal.returns-then-wants_response-clause-answered
returns-then-wants_response-clause-answered g c found =
    let now = c.args.self.now in
    let wanted : wants_response now.login c.args.command.now ≡ true = ap (λ (l : Option (List ℕ)). wants_response l c.args.command.now) (sym c.awaited.ensures) ∙ sym c.wants_response.ensures ∙ c.if-wants_response.true in
    answers_challenge g.S.Store.step now c.await_response.new.self c.args.line.now c.args.tag.now c.args.command.now c.args.store.now (g.O.Outlet.said c.args.out.now) (g.O.Outlet.said c.await_response.new.out) c.await_response.result found wanted c.await_response.ensures.leads

pub returns-then-logs_in_as-clause-answered : goal.returns-then-logs_in_as-clause-answered
returns-then-logs_in_as-clause-answered g c found =
    let now = c.args.self.now in
    let whole : wants_response now.login c.args.command.now ≡ false = ap (λ (l : Option (List ℕ)). wants_response l c.args.command.now) (sym c.awaited.ensures) ∙ sym c.wants_response.ensures ∙ c.if-wants_response.false in
    let right : logs_in_as now.login c.args.command.now ≡ true = ap (λ (l : Option (List ℕ)). logs_in_as l c.args.command.now) (sym c.awaited-2.ensures) ∙ sym c.logs_in_as.ensures ∙ c.if-logs_in_as.true in
    rw c.log_in.ensures.after
    (answers_login g.S.Store.step now c.log_in.new.self c.args.line.now c.args.tag.now c.args.command.now c.verb.result c.args.store.now (g.O.Outlet.said c.args.out.now) (g.O.Outlet.said c.log_in.new.out) found whole right c.verb.ensures c.log_in.ensures.standing c.log_in.ensures.text)

pub returns-in-Some-clause-answered : goal.returns-in-Some-clause-answered
returns-in-Some-clause-answered g c found =
    let now = c.args.self.now in
    let whole : wants_response now.login c.args.command.now ≡ false = ap (λ (l : Option (List ℕ)). wants_response l c.args.command.now) (sym c.awaited.ensures) ∙ sym c.wants_response.ensures ∙ c.if-wants_response.false in
    let other : logs_in_as now.login c.args.command.now ≡ false = ap (λ (l : Option (List ℕ)). logs_in_as l c.args.command.now) (sym c.awaited-2.ensures) ∙ sym c.logs_in_as.ensures ∙ c.if-logs_in_as.false in
    let bars : barred_at now.login now.profile c.args.command.now ≡ Some c.in-Some.text =
    ap (λ (l : Option (List ℕ)). barred_at l now.profile c.args.command.now) (sym c.awaited-3.ensures) ∙ ap (λ (p : Profile). barred_at (option_copied c.awaited-3.result) p c.args.command.now) (sym c.profile.ensures) ∙ sym c.barred_at.ensures ∙ c.in-Some.is in
    answers_barred g.S.Store.step now now c.args.line.now c.args.tag.now c.args.command.now c.in-Some.text c.args.store.now (g.O.Outlet.said c.args.out.now) (g.O.Outlet.said c.put_last.new.out) found whole other bars refl c.put_last.ensures.text

pub returns-then-is_idle-clause-answered : goal.returns-then-is_idle-clause-answered
returns-then-is_idle-clause-answered g c read_so =
    let now = c.args.self.now in
    let response : Response = c.new-response-then-is_idle.result in
    let tag : response.tag ≡ c.args.tag.now = ap (λ (r : Response). r.tag) c.new-response-then-is_idle.ensures in
    let kept : response.text ≡ (g.O.Outlet.said c.args.out.now) = ap (λ (r : Response). r.text) c.new-response-then-is_idle.ensures in
    let found : read c.args.line.now ≡ Ok (response.tag, c.args.command.now) = read_so ∙ ap (λ t. Ok (t, c.args.command.now)) (sym tag) in
    let taken : IsTaken now c.args.command.now = is_taken now c.args.command.now _ _ _ _ _ _ _ c.awaited.ensures c.wants_response.ensures c.if-wants_response.false c.awaited-2.ensures c.logs_in_as.ensures c.if-logs_in_as.false c.awaited-3.ensures c.profile.ensures c.barred_at.ensures c.in_default.is in
    answers_idle g.S.Store.step now c.begin_idling.new.self c.args.line.now response c.args.command.now c.args.store.now (g.O.Outlet.said c.args.out.now) (g.O.Outlet.said c.begin_idling.new.out) c.begin_idling.result
    found taken kept (sym c.is_idle.ensures ∙ c.if-is_idle.true) c.begin_idling.ensures.only c.begin_idling.ensures.begun c.begin_idling.ensures.starved

pub returns-clause-answered : goal.returns-clause-answered
returns-clause-answered g c read_so =
    let now = c.args.self.now in
    let response : Response = c.new-response-2.result in
    let tag : response.tag ≡ c.args.tag.now = ap (λ (r : Response). r.tag) c.new-response-2.ensures in
    let found : read c.args.line.now ≡ Ok (response.tag, c.args.command.now) = read_so ∙ ap (λ t. Ok (t, c.args.command.now)) (sym tag) in
    let taken : IsTaken now c.args.command.now = is_taken now c.args.command.now _ _ _ _ _ _ _ c.awaited.ensures c.wants_response.ensures c.if-wants_response.false c.awaited-2.ensures c.logs_in_as.ensures c.if-logs_in_as.false c.awaited-3.ensures c.profile.ensures c.barred_at.ensures c.in_default.is in
    let kept : response.text ≡ (g.O.Outlet.said c.args.out.now) ++ first_line now.profile c.args.command.now =
    ap (λ (r : Response). r.text) c.new-response-2.ensures ∙ c.put_first_line-first.ensures.line
    ∙ ap (λ (p : Profile). (g.O.Outlet.said c.args.out.now) ++ first_line p c.args.command.now) c.profile-2.ensures in
    let next = record now { selected = c.answer.new.self.selected } in
    answers_command g.S.Store.step now next c.answer.new.self c.args.line.now response.tag c.args.command.now c.args.store.now
    c.answer.new.store (g.O.Outlet.said c.args.out.now) (g.O.Outlet.said c.answer.new.out) c.answer.result found taken
    (plays_first_line g.S.Store.step response.tag now next c.args.command.now _ _ (g.O.Outlet.said c.args.out.now) response.text _ _ kept c.answer.ensures.plays) c.answer.ensures.standing

pub returns-in-Some-append_of-clause-answered : goal.returns-in-Some-append_of-clause-answered
returns-in-Some-append_of-clause-answered g c read_so =
    let now = c.args.self.now in
    let response : Response = c.new-response.result in
    let tag : response.tag ≡ c.args.tag.now = ap (λ (r : Response). r.tag) c.new-response.ensures in
    let kept : response.text ≡ (g.O.Outlet.said c.args.out.now) = ap (λ (r : Response). r.text) c.new-response.ensures in
    let found : read c.args.line.now ≡ Ok (response.tag, c.args.command.now) = read_so ∙ ap (λ t. Ok (t, c.args.command.now)) (sym tag) in
    let taken : IsTaken now c.args.command.now = is_taken now c.args.command.now _ _ _ _ _ _ _ c.awaited.ensures c.wants_response.ensures c.if-wants_response.false c.awaited-2.ensures c.logs_in_as.ensures c.if-logs_in_as.false c.awaited-3.ensures c.profile.ensures c.barred_at.ensures c.in_default.is in
    let P : List ℕ → Type 0 = λ before. Leads response.tag now (appending now.mailing.most now.folders c.in-Some-append_of.append.now) before (g.O.Outlet.said c.begin_append.new.out) c.begin_append.result c.begin_append.new.self in
    answers_append g.S.Store.step now c.begin_append.new.self c.args.line.now response.tag c.args.command.now c.in-Some-append_of.append.now c.args.store.now (g.O.Outlet.said c.args.out.now) (g.O.Outlet.said c.begin_append.new.out) c.begin_append.result
    found taken c.in-Some-append_of.ensures.some (subst P kept c.begin_append.ensures.leads)

pub returns-in-Some-copy_of-clause-answered : goal.returns-in-Some-copy_of-clause-answered
returns-in-Some-copy_of-clause-answered g c read_so =
    let now = c.args.self.now in
    let response : Response = c.new-response-in-Some-copy_of.result in
    let tag : response.tag ≡ c.args.tag.now = ap (λ (r : Response). r.tag) c.new-response-in-Some-copy_of.ensures in
    let kept : response.text ≡ (g.O.Outlet.said c.args.out.now) = ap (λ (r : Response). r.text) c.new-response-in-Some-copy_of.ensures in
    let found : read c.args.line.now ≡ Ok (response.tag, c.args.command.now) = read_so ∙ ap (λ t. Ok (t, c.args.command.now)) (sym tag) in
    let taken : IsTaken now c.args.command.now = is_taken now c.args.command.now _ _ _ _ _ _ _ c.awaited.ensures c.wants_response.ensures c.if-wants_response.false c.awaited-2.ensures c.logs_in_as.ensures c.if-logs_in_as.false c.awaited-3.ensures c.profile.ensures c.barred_at.ensures c.in_default.is in
    let copy = c.in-Some-copy_of.copy.now in
    let P : List ℕ → Type 0 = λ before. Had (played response.tag now (on_command response.tag now (commands.Copy copy))) g.S.Store.step c.args.store.now c.begin_copy.new.store before (g.O.Outlet.said c.begin_copy.new.out) c.begin_copy.result c.begin_copy.new.self in
    answers_copy g.S.Store.step now c.begin_copy.new.self c.args.line.now response.tag c.args.command.now copy c.args.store.now c.begin_copy.new.store (g.O.Outlet.said c.args.out.now) (g.O.Outlet.said c.begin_copy.new.out) c.begin_copy.result
    found taken c.in-Some-copy_of.ensures.some (subst P kept c.begin_copy.ensures.had)
