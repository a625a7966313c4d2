use Rattle.std.proofs.Common.{◌≡◌, ◌∙◌, List, [], ◌∷◌, map, sym, ap, subst, refl}
use Rattle.std.specs.List.Sorted.{IsStrictlyIncreasing}
use Rattle.std.proofs.lemmas.Result.{IfOk-weaker}
use Rattle.mailbox.specs.Mailbox.{Mailbox, Message, texts_of, uids_of}
use Rattle.mailbox.specs.inner.Seen.{mail_of}
use Rattle.mailbox.proofs.StandsLaws.{Stands-rising}
use Rattle.mailbox.proofs.mailbox.Mailbox.texts.Goals as goal

-- the texts have the messages' UIDs
uids_told : (ms : List Message) → map (λ t. t.0) (texts_of ms) ≡ uids_of ms
uids_told [] = refl
uids_told (m ∷ ms) = ap (λ us. m.uid ∷ us) (uids_told ms)

pub returns-clause-all : goal.returns-clause-all
returns-clause-all c = IfOk-weaker c.texts.result _ _ (λ v h. h ∙ ap texts_of (ap (λ (m : Mailbox). m.messages) c.self.view_is)) c.texts.ensures

pub returns-clause-rising : goal.returns-clause-rising
returns-clause-rising c =
    let b = c.self.inside in
    let rising = Stands-rising (mail_of b) c.self.invariant.2.0 c.self.invariant.2.1 in
    IfOk-weaker c.texts.result _ _ (λ v h. subst IsStrictlyIncreasing (sym (ap (map (λ t. t.0)) h ∙ uids_told b.messages)) rising) c.texts.ensures
