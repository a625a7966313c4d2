-- A session at its seat: its serial, and the copy of the message that it submitted, which is still to be put, or out.
use Rattle.std.proofs.Common.{◌≡◌, ◌⊎◌, inl, inr, ℕ, List, [], ◌∷◌, length, refl, sym, ap, ◌∙◌, subst, arith, Option, Some, None}
use Rattle.std.specs.Prelude.{Bool, IfSome}
use Rattle.delivery_token.specs.declared.Job.{Job}
use Rattle.delivery_token.specs.declared.log.Noted.{Noted}
use Rattle.world.specs.World.{Config, Event, Put, Step, World, shard_of}
use Rattle.imap_session.specs.Exchange.{Event as Happened, Mailing, Sent}
use Rattle.imap_session.specs.Store.{IdleTurns, Met}
use Rattle.house.specs.Meets.{Meets}
use Rattle.house_peers.proofs.Rising.{idles_keep}
use Rattle.house_peers.specs.Visitor.{Visitor, GoesOn, SeatedVisitor, Works, answers, copies_of, rests, sent_by, stalls, works}
use Rattle.house_peers.specs.Visitor as seated
use Rattle.laws_client.proofs.Moved.{Calls}
use Rattle.laws_client.proofs.Out.{Fate, copy_of, fate_met, fate_step, put_fate}

-- its copy is out, or was refused
abbrev pub IsFated : Config → World → (seat serial : ℕ) → Sent → Type 0
IsFated k w seat serial message = Fate k w seat (copy_of seat serial message)

-- it has a serial; and its copy is still to be put, or it was put
pub record IsHere (k : Config) (seat serial : ℕ) (w : World) (v : SeatedVisitor) : Type 0 where
  pub own : v.serial ≡ serial
  pub due : (v.to_put ≡ []) ⊎ (v.to_put ≡ copies_of seat v.serial (sent_by v))
  pub out : v.to_put ≡ [] → IfSome (sent_by v) (IsFated k w seat v.serial)

-- the world moves on
weaker : (P Q : Sent → Type 0) → ((m : Sent) → P m → Q m) → (o : Option Sent) → IfSome o P → IfSome o Q
weaker P Q f None h = tt
weaker P Q f (Some m) h = f m h

pub here_step : (k : Config) (seat serial : ℕ) (w : World) (e : Event) (u : World) (v : SeatedVisitor) → Step k w e u → IsHere k seat serial w v → IsHere k seat serial u v
here_step k seat serial w e u v step h =
    record { own = h.own; due = h.due; out = λ none. weaker (IsFated k w seat v.serial) (IsFated k u seat v.serial) (λ m f. fate_step k w e u seat (copy_of seat v.serial m) step f) (sent_by v) (h.out none) }

pub here_met : (k : Config) (n seat serial : ℕ) (w : World) (events : List Happened) (u : World) (v : SeatedVisitor) → Met (Calls k n) w events u → IsHere k seat serial w v → IsHere k seat serial u v
here_met k n seat serial w events u v met h =
    record { own = h.own; due = h.due; out = λ none. weaker (IsFated k w seat v.serial) (IsFated k u seat v.serial) (λ m f. fate_met k n w events u seat (copy_of seat v.serial m) met f) (sent_by v) (h.out none) }

-- one with the same message and copy
pub here_as : (k : Config) (seat serial : ℕ) (w : World) (v u : SeatedVisitor) → u.serial ≡ v.serial → u.to_put ≡ v.to_put → sent_by u ≡ sent_by v → IsHere k seat serial w v → IsHere k seat serial w u
here_as k seat serial w v u e f g h = record { own = e ∙ h.own; due = rw (e, f, g) h.due; out = rw (e, f, g) h.out }

no_copy : (seat serial : ℕ) (P : Sent → Type 0) (o : Option Sent) → copies_of seat serial o ≡ [] → IfSome o P
no_copy seat serial P None e = tt
no_copy seat serial P (Some message) e = absurd (omega (arith, ap length e))

works_here : (k : Config) (seat n serial : ℕ) (v after : SeatedVisitor) (old new u : World) (said : List ℕ) → Works (Meets k n) seat v old new after said → v.serial ≡ serial → IsHere k seat serial u after
works_here k seat n serial v after old new u said w own =
    let same : after.serial ≡ v.serial = ap (λ (x : SeatedVisitor). x.serial) w.is in
    let copies : after.to_put ≡ copies_of seat after.serial (sent_by after) = ap (λ (x : SeatedVisitor). x.to_put) w.is ∙ ap (λ (n : ℕ). copies_of seat n (sent_by after)) (sym same) in
    record { own = same ∙ own; due = inr copies; out = λ none. no_copy seat after.serial (IsFated k u seat after.serial) (sent_by after) (sym copies ∙ none) }

pub goes_here : (k : Config) (n : ℕ) (whole : Bool) (seat serial : ℕ) (heard : List Noted) (b after : SeatedVisitor) (w u : World) (said : List ℕ) → GoesOn (Meets k n) whole seat heard b w u after said → IsHere k seat serial w b → IsHere k seat serial u after
goes_here k n whole seat serial heard b after w u said (works none g) h = works_here k seat n serial b after w u u said g h.own
goes_here k n whole seat serial heard b after w u said (answers verdict mid one two how next going known s g e) h = works_here k seat n serial (seated.told b next) after mid u u two g h.own
goes_here k n whole seat serial heard b after w u said (seated.waits awaits e f g) h = rw (e, f) h
goes_here k n whole seat serial heard b after w u said (rests ended e f g) h = rw (e, f) h
goes_here k n whole seat serial heard b after w u said (stalls part e f g) h = rw (e, f) h

-- ---- its copy is put

first_job : Job → List Job → Job
first_job d [] = d
first_job d (c ∷ cs) = c

rest_jobs : List Job → List Job
rest_jobs [] = []
rest_jobs (c ∷ cs) = cs

pub put_here : (k : Config) (seat serial : ℕ) (w u : World) (v : SeatedVisitor) (copy : Job) (others : List Job) → v.to_put ≡ copy ∷ others → Step k w (Put seat (shard_of k copy.mailbox) copy) u → IsHere k seat serial w v
    → IsHere k seat serial u (record { session = v.session; serial = v.serial; gone = v.gone; to_put = others })
unfolding first_job rest_jobs
put_here k seat serial w u v copy others front step h = by h.due
  where
    of_sent : (o : Option Sent) → copy ∷ others ≡ copies_of seat v.serial o → (others ≡ []) × IfSome o (IsFated k u seat v.serial)
    of_sent None e = absurd (omega (arith, ap length e))
    of_sent (Some message) e = (ap rest_jobs e, subst (Fate k u seat) (ap (first_job copy) e) (put_fate k w u seat copy step))

    by : (v.to_put ≡ []) ⊎ (v.to_put ≡ copies_of seat v.serial (sent_by v)) → IsHere k seat serial u (record { session = v.session; serial = v.serial; gone = v.gone; to_put = others })
    by (inl none) = absurd (omega (arith, ap length (sym front ∙ none)))
    by (inr e) = let x = of_sent (sent_by v) (sym front ∙ e) in record { own = h.own; due = inl x.0; out = λ none. x.1 }

-- ---- it has a turn while it idles

pub idle_here : (k : Config) (n seat serial : ℕ) (w u : World) (v : SeatedVisitor) (after : Visitor) (said : List ℕ) (count : ℕ) → IdleTurns (Meets k n) v.session.standing w u [] said count after.standing → IsHere k seat serial w v
    → IsHere k seat serial u (record { session = after; serial = v.serial; gone = v.gone; to_put = v.to_put })
idle_here k n seat serial w u v after said count t h =
    let mail = idles_keep (Meets k n) v.session.standing w u [] said count after.standing t in
    here_as k seat serial u v (record { session = after; serial = v.serial; gone = v.gone; to_put = v.to_put }) refl refl (ap (λ (m : Mailing). m.sent) mail) (here_met k n seat serial w t.events u v t.met h)
