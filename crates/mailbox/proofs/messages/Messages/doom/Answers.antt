use Rattle.std.proofs.Common.{◌≡◌, ◌∙◌, Some, List, ap, sym, subst}
use Rattle.std.specs.Prelude.{option_map}
use Rattle.change_ring.specs.declared.change.Flags.{Flags}
use Rattle.change_ring.specs.Log.{flags_after}
use Rattle.cursor_set.proofs.Positions.{Rises-from}
use Rattle.mailbox.specs.inner.Letters.{reflagged}
use Rattle.mailbox.specs.inner.Marks.{doom}
use Rattle.mailbox.specs.Mailbox.{Message, flagged, message_with, uids_of}
use Rattle.mailbox.proofs.MessageLaws.{found_by, flagged_none}
use Rattle.mailbox.proofs.messages.Messages.doom.Goals as goal

pub returns-in_default : goal.returns-in_default
returns-in_default c =
    let none = ap (message_with c.args.uid) (sym c.self.view_is) ∙ sym c.in_default.ensures in
    sym (flagged_none doom c.args.uid c.args.self.now none)

pub returns : goal.returns
returns c =
    let ms = c.self.inside.letters in
    let uid = c.args.uid in
    let there : option_map (λ (m : Message). m.flags) (message_with uid ms) ≡ Some c.in-Some.old = ap (option_map (λ (m : Message). m.flags)) (sym c.in-Some.ensures) in
    let found = found_by uid doom ms c.in-Some.old (Rises-from (uids_of ms) c.len-len.ensures.rising) there in
    c.set_flags.ensures ∙ ap (λ (f : Flags). reflagged uid f c.args.self.now) c.after.ensures
    ∙ subst (λ (ns : List Message). reflagged uid (flags_after doom c.in-Some.old) ns ≡ flagged uid doom ns) c.self.view_is (sym found.flagged)
