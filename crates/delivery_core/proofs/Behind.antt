-- How far a session is behind its mailbox's log.
use Rattle.std.proofs.Common.{◌≡◌, ℕ, zero, suc, ◌∷◌, ◌+◌, ◌-◌, ◌<◌, ◌≤◌, List, [], length, drop, get_or, set, length-set, get_or-set_same, refl, sym, ap, ◌∙◌, arith, subst, Result, Ok, Err, Option, Some, None}
use Rattle.std.specs.Prelude.{min, IfOk}
use Rattle.change_ring.specs.Log.{Window, total}
use Rattle.cursor_set.specs.Cursors.{CursorHandle}
use Rattle.cursor_set.specs.declared.set.FeedFault.{FeedFault}
use Rattle.cursor_set.specs.declared.set.FeedFault.TheVariants as lapse
use Rattle.mailbox.specs.declared.clients.MailFault.{MailFault}
use Rattle.mailbox.specs.Mailbox.{Mailbox}
use Rattle.world.specs.World.{Config, World, Session, Selected, pending}
use Rattle.delivery_core.specs.declared.client.Client.{Client}
use Rattle.delivery_core.specs.DeliveryCore.{DeliveryCore, behind, behind_in, window_at}
use Rattle.delivery_core.specs.Attached.{client_at, cursors_of, AreAttached}
use Rattle.delivery_core.specs.Stands.{StandsFor, StandsForBox, StandsForClient}
use Rattle.mailbox.specs.Answers.{answer_of}
use Rattle.delivery_core.proofs.Looks.{window_get}
use Rattle.delivery_core.proofs.Mailed.{mailbox_within, session_at}
use Rattle.delivery_core.proofs.AttachedLaws.{place_within}

pub behind_here : (old : DeliveryCore) (n m : ℕ) (c : Client) (b : Mailbox) → m < length old.boxes → client_at old.clients n ≡ Some c → m ≡ c.mailbox → b ≡ get_or old.boxes m b → behind old n ≡ total b.window - c.handle.at
behind_here old n m c b within e same there =
    ap (behind_in old) e ∙ ap (λ (j : ℕ). total (window_at old.boxes j) - c.handle.at) (sym same)
    ∙ ap (λ (x : Window). total x - c.handle.at) (window_get old.boxes m b within ∙ ap (λ (z : Mailbox). z.window) (sym there))

-- what was shown is no longer behind
pub feed_less : (old : DeliveryCore) (n p m : ℕ) (c : Client) (b b2 : Mailbox) (handle2 : CursorHandle) (vacant : Option Client) (limit : ℕ) (r : Result ℕ FeedFault) (q : Result ℕ MailFault)
    → AreAttached (cursors_of old.boxes) old.clients → client_at old.clients n ≡ Some c → p ≡ n → m ≡ c.mailbox → b ≡ get_or old.boxes m b → q ≡ answer_of r
    → IfOk r (λ j. j ≡ min limit (total b.window - c.handle.at)) → IfOk r (λ j. handle2 ≡ record c.handle { at = c.handle.at + j }) → b2 ≡ record b { cursors = b2.cursors }
    → IfOk q (λ j. (j ≡ min limit (behind old n)) × (behind (record old { boxes = set old.boxes m b2; clients = set (set old.clients p vacant) p (Some (record { mailbox = c.mailbox; handle = handle2 })) }) n + j ≡ behind old n))
feed_less old n p m c b b2 handle2 vacant limit r q S e place same there tells count is rest =
    subst (λ (z : Result ℕ MailFault). IfOk z (λ (j : ℕ). (j ≡ min limit (behind old n)) × (behind new n + j ≡ behind old n))) (sym tells) (go r count is)
  where
    next : Client
    next = record { mailbox = c.mailbox; handle = handle2 }

    new : DeliveryCore
    new = record old { boxes = set old.boxes m b2; clients = set (set old.clients p vacant) p (Some (record { mailbox = c.mailbox; handle = handle2 })) }

    within : m < length old.boxes
    within = mailbox_within old.boxes old.clients n m c S e same

    attached : client_at (set (set old.clients p vacant) p (Some (record { mailbox = c.mailbox; handle = handle2 }))) n ≡ Some (record { mailbox = c.mailbox; handle = handle2 })
    attached = ap (client_at (set (set old.clients p vacant) p (Some (record { mailbox = c.mailbox; handle = handle2 })))) (sym place)
        ∙ get_or-set_same (set old.clients p vacant) p _ None (omega (arith, place_within old.clients n c e, place, length-set old.clients p vacant))

    was : behind old n ≡ total b.window - c.handle.at
    was = behind_here old n m c b within e same there

    now : behind new n ≡ total b2.window - handle2.at
    now = behind_here new n m next b2 (omega (arith, within, length-set old.boxes m b2)) attached same (sym (get_or-set_same old.boxes m b2 b2 within))

    long : total b2.window ≡ total b.window
    long = ap (λ (z : Mailbox). total z.window) rest

    go : (z : Result ℕ FeedFault) → IfOk z (λ j. j ≡ min limit (total b.window - c.handle.at)) → IfOk z (λ j. handle2 ≡ record c.handle { at = c.handle.at + j })
        → IfOk (answer_of z) (λ (j : ℕ). (j ≡ min limit (behind old n)) × (behind new n + j ≡ behind old n))
    go (Ok j) count is =
        let moved : handle2.at ≡ c.handle.at + j = ap (λ (z : CursorHandle). z.at) is in
        (omega (arith, count, was), omega (arith, was, now, long, moved, count))
    go (Err lapse.Stranger) count is = tt
    go (Err lapse.Lapped) count is = tt
    go (Err lapse.NoMemory) count is = tt

-- ---- in a world

drop_all : {A : Type 0} (n : ℕ) (xs : List A) → length xs ≤ n → drop n xs ≡ []
drop_all zero [] l = refl
drop_all (suc n) [] l = refl
drop_all zero (x ∷ xs) l = absurd (omega arith)
drop_all (suc n) (x ∷ xs) l = drop_all n xs (omega arith)

-- a session that isn't behind has all that its mailbox logged
pub up_to_date : (k : Config) (w : World) (old : DeliveryCore) (n m : ℕ) (c : Client) (b : Mailbox) → StandsFor k old w → client_at old.clients n ≡ Some c → m ≡ c.mailbox → b ≡ get_or old.boxes m b → total b.window ≤ c.handle.at
    → Selected w n (λ s. ((w.box s.mailbox).base ≤ s.cursor) × (pending (w.box s.mailbox) s ≡ []))
up_to_date k w old n m c b S e same there all = go (session_at k w old n c S e)
  where
    within : m < length old.boxes
    within = mailbox_within old.boxes old.clients n m c S.attached e same

    go : (s : Session) × (w.session n ≡ Some s) × StandsForClient c s → Selected w n (λ s. ((w.box s.mailbox).base ≤ s.cursor) × (pending (w.box s.mailbox) s ≡ []))
    go (s, is, one) =
        let here : StandsForBox k b (w.box s.mailbox) = subst (λ (i : ℕ). StandsForBox k b (w.box i)) (same ∙ one.mailbox) (subst (λ (x : Mailbox). StandsForBox k x (w.box m)) (sym there) (S.boxes m b within)) in
        let at : c.handle.at ≡ s.cursor = one.cursor in
        (s, is, (omega (arith, here.base, at, all), drop_all s.cursor (w.box s.mailbox).log (omega (arith, here.log.window.long, at, all))))
