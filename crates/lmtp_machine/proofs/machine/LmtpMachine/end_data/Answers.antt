use Rattle.std.proofs.Common.{◌≡◌, ℕ, ◌+◌, ◌++◌, List, [], ◌∷◌, length, refl, ap, sym, subst, ◌∙◌}
use Rattle.std.proofs.Common.{arith, ◌≤◌}
use Rattle.std.proofs.lemmas.List.Elements.{All-cons, All-nil}
use Rattle.std.proofs.lemmas.List.{append-nil}
use Rattle.dot_stuffing.specs.declared.Outcome.TheVariants as outcomes
use Rattle.delivery_token.specs.Text.{undated}
use Rattle.lmtp_machine.specs.Message.{return_path, stored_text}
use Rattle.lmtp_machine.specs.Standing.{Commands, standing_of}
use Rattle.lmtp_machine.specs.Dialogue.{Waiting, Standing, Submission, keys_from}
use Rattle.lmtp_machine.specs.LmtpMachine.{LmtpMachine}
use Rattle.lmtp_machine.specs.inner.LmtpMachine.{IsPending}
use Rattle.lmtp_machine.specs.Calls.{submission_of}
use Rattle.lmtp_machine.specs.inner.Ending.{so, IsBetween}
use Rattle.lmtp_machine.proofs.Kept.{keys_length}
use Rattle.lmtp_machine.proofs.machine.LmtpMachine.end_data.Goals as goal

pub invariant_of-self : goal.invariant_of-self
invariant_of-self c =
    let s : Submission = submission_of c.in-Ok-build.submission in
    let e : length s.keys ≡ length c.self.inside.commands.recipients =
    ap (λ (x : Submission). length x.keys) c.in-Ok-build.ensures.made
    ∙ keys_length c.args.self.now.setting c.args.self.now.commands.submitted 0 c.args.self.now.commands.recipients
    ∙ ap (λ (x : LmtpMachine). length x.commands.recipients) (sym c.self.view_is) in (
      c.self.invariant.0,
      c.self.invariant.1,
      c.self.invariant.2,
      c.self.invariant.3,
      subst (λ (x : Commands). IsPending x.stage x.recipients (s ∷ [])) (sym c.submit.ensures) (s, refl, e),
    )

pub returns-in-Ok-build-clause-most : goal.returns-in-Ok-build-clause-most
returns-in-Ok-build-clause-most c =
    let e : length (submission_of c.in-Ok-build.submission).keys ≡ length c.args.self.now.commands.recipients =
    ap (λ (x : Submission). length x.keys) c.in-Ok-build.ensures.made
    ∙ keys_length c.args.self.now.setting c.args.self.now.commands.submitted 0 c.args.self.now.commands.recipients in
    let few = c.in-Ok-build.ensures.few in
    All-cons (λ (s : Submission). length s.keys ≤ 100) (submission_of c.in-Ok-build.submission) [] (omega (arith, e, few)) (All-nil (λ (s : Submission). length s.keys ≤ 100))

pub returns-in-Ok-build-clause-paired : goal.returns-in-Ok-build-clause-paired
returns-in-Ok-build-clause-paired c =
    let mailboxes : length (submission_of c.in-Ok-build.submission).mailboxes ≡ length c.args.self.now.commands.recipients =
    ap (λ (x : Submission). length x.mailboxes) c.in-Ok-build.ensures.made in
    let keys : length (submission_of c.in-Ok-build.submission).keys ≡ length c.args.self.now.commands.recipients =
    ap (λ (x : Submission). length x.keys) c.in-Ok-build.ensures.made
    ∙ keys_length c.args.self.now.setting c.args.self.now.commands.submitted 0 c.args.self.now.commands.recipients in
    All-cons (λ (s : Submission). length s.mailboxes ≡ length s.keys) (submission_of c.in-Ok-build.submission) [] (mailboxes ∙ sym keys) (All-nil (λ (s : Submission). length s.mailboxes ≡ length s.keys))

pub returns-in-Ok-build-clause-does : goal.returns-in-Ok-build-clause-does
returns-in-Ok-build-clause-does c lines b k =
    let m : LmtpMachine = c.args.self.now in
    let n : ℕ = m.commands.submitted in
    let text : c.text.result.items ≡ stored_text m.commands.sender lines =
    c.text.ensures (return_path m.commands.sender) b ∙ ap (λ (x : List ℕ). return_path m.commands.sender ++ x) (k c.in-Ok.is) in (
      outcomes.Ok,
      so (sym c.in-Ok.is),
      record {
        cutter = ap (λ (x : LmtpMachine). x.cutter) c.self.view_is;
        unstuffer = ap (λ (x : LmtpMachine). x.unstuffer) c.self.view_is;
        stage = subst (λ (x : Commands). IsBetween x.stage) (sym c.submit.ensures) tt;
        standing = ap (λ (x : Commands). standing_of x) c.submit.ensures
            ∙ ap (λ (x : LmtpMachine). let s : Standing = record { phase = Waiting (length x.commands.recipients); submitted = x.commands.submitted + 1 } in s) c.self.view_is;
        pending = ap (λ (x : Submission). x ∷ []) (c.in-Ok-build.ensures.made
            ∙ ap (λ (x : List ℕ). let s : Submission = record {
              keys = keys_from m.setting n 0 m.commands.recipients;
              mailboxes = m.commands.recipients;
              text = undated x;
            } in s) text);
        said = sym (append-nil c.args.out.now.items);
        tells = record {
          submission = _;
          only = refl;
          waits = ap (λ (x : ℕ). Waiting x) (sym (keys_length m.setting n 0 m.commands.recipients));
        };
      },
    )
