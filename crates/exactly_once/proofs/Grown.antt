-- What a seat has heard stays heard, whatever happens; and events of a world, one after another.
use Rattle.std.proofs.Common.{◌≡◌, ℕ, List, [], ◌∷◌, ◌++◌, Contains, refl, sym, subst}
use Rattle.std.proofs.lemmas.List.Elements.{Contains-append_left}
use Rattle.shard_queue.proofs.AtLaws.{at_cases}
use Rattle.delivery_token.specs.declared.log.Noted.{Noted}
use Rattle.world.specs.World as world
use Rattle.world.specs.World.{Config, World, Event, Put, PutEnd, Take, Deliver, Answer, Hear, Enter, Status, Read, Store, Expunge, Feed, Leave, Discard, Step, Steps, put_joins, put_full, put_no_memory, put_shut, hears_one}
use Rattle.world.proofs.Heard.{heard_stays}
use Rattle.world.proofs.Always.{steps_join}
pub use Rattle.house.specs.Setup.{Reached}

-- ---- what was heard

-- seat p heard more
heard_more : (w : World) (q p : ℕ) (r n : Noted) → Contains (w.heard p) n → Contains ((world.hears w q r).heard p) n
heard_more w q p r n c = at_cases (λ rs. Contains rs n) w.heard q (w.heard q ++ r ∷ []) p
    (λ same. Contains-append_left (w.heard q) (r ∷ []) n (subst (λ (i : ℕ). Contains (w.heard i) n) same c)) (λ other. c)

heard_step : (k : Config) (w : World) (e : Event) (v : World) (p : ℕ) (n : Noted) → Step k w e v → Contains (w.heard p) n → Contains (v.heard p) n
heard_step k w (Put q s job) v p n (put_joins may live room e) c = rw e c
heard_step k w (Put q s job) v p n (put_full may live room e) c = rw e (heard_more w q p _ n c)
heard_step k w (Put q s job) v p n (put_no_memory may live room e) c = rw e (heard_more w q p _ n c)
heard_step k w (Put q s job) v p n (put_shut may ended e) c = rw e (heard_more w q p _ n c)
heard_step k w (Hear q) v p n (hears_one s r others front e) c = rw e (heard_more w q p r n c)
heard_step k w (PutEnd q s) v p n step c = subst (λ (rs : List Noted). Contains rs n) (sym (heard_stays k w (PutEnd q s) v p tt step)) c
heard_step k w (Take s) v p n step c = subst (λ (rs : List Noted). Contains rs n) (sym (heard_stays k w (Take s) v p tt step)) c
heard_step k w (Deliver s) v p n step c = subst (λ (rs : List Noted). Contains rs n) (sym (heard_stays k w (Deliver s) v p tt step)) c
heard_step k w (Answer s) v p n step c = subst (λ (rs : List Noted). Contains rs n) (sym (heard_stays k w (Answer s) v p tt step)) c
heard_step k w (Enter i m) v p n step c = subst (λ (rs : List Noted). Contains rs n) (sym (heard_stays k w (Enter i m) v p tt step)) c
heard_step k w (Status m) v p n step c = subst (λ (rs : List Noted). Contains rs n) (sym (heard_stays k w (Status m) v p tt step)) c
heard_step k w (Read i u mark) v p n step c = subst (λ (rs : List Noted). Contains rs n) (sym (heard_stays k w (Read i u mark) v p tt step)) c
heard_step k w (Store i u op) v p n step c = subst (λ (rs : List Noted). Contains rs n) (sym (heard_stays k w (Store i u op) v p tt step)) c
heard_step k w (Expunge i may_go) v p n step c = subst (λ (rs : List Noted). Contains rs n) (sym (heard_stays k w (Expunge i may_go) v p tt step)) c
heard_step k w (Feed i limit) v p n step c = subst (λ (rs : List Noted). Contains rs n) (sym (heard_stays k w (Feed i limit) v p tt step)) c
heard_step k w (Leave i removing) v p n step c = subst (λ (rs : List Noted). Contains rs n) (sym (heard_stays k w (Leave i removing) v p tt step)) c
heard_step k w (Discard m goes) v p n step c = subst (λ (rs : List Noted). Contains rs n) (sym (heard_stays k w (Discard m goes) v p tt step)) c

pub heard_stays_heard : (k : Config) (w : World) (es : List Event) (v : World) (p : ℕ) (n : Noted) → Steps k w es v → Contains (w.heard p) n → Contains (v.heard p) n
heard_stays_heard k w [] v p n e c = rw e c
heard_stays_heard k w (x ∷ es) v p n (u, one, others) c = heard_stays_heard k u es v p n others (heard_step k w x u p n one c)

-- ---- one after the other

pub stays : (k : Config) (w v : World) → v ≡ w → Reached k w v
stays k w v e = ([], e)

pub moves : (k : Config) (w v : World) (e : Event) → Step k w e v → Reached k w v
moves k w v e step = (e ∷ [], (v, step, refl))

pub reached_then : (k : Config) (w u v : World) → Reached k w u → Reached k u v → Reached k w v
reached_then k w u v (es, a) (fs, b) = (es ++ fs, steps_join k w es u fs v a b)
