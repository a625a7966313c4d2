-- A copy that was stored under a UID is the copy of the message that was submitted.
use Rattle.std.proofs.Common.{◌≡◌, inl, inr, ℕ, zero, suc, ◌<◌, List, [], ◌∷◌, Contains, map, length, refl, sym, ap, ◌∙◌, subst, arith}
use Rattle.std.specs.Prelude.{slice_index_or}
use Rattle.std.proofs.lemmas.List.Elements.{All-contains}
use Rattle.delivery_token.specs.declared.CopyKey.{CopyKey}
use Rattle.delivery_token.specs.declared.Job.{Job}
use Rattle.delivery_token.specs.declared.Verdict.TheVariants.{Refused}
use Rattle.shard_queue.specs.declared.lane.Entry.TheVariants.{Item}
use Rattle.world.specs.Law.{StandsOnce, pair_of, pairs}
use Rattle.world.specs.World.{Config, Event, IsWorld, World, shard_of}
use Rattle.world.proofs.Always.{always, kept_always}
use Rattle.world.proofs.Mails.{IsIn, is_in_contains}
use Rattle.exactly_once.proofs.Histories.{every_in, history_was_put}
use Rattle.exactly_once.proofs.Lanes.{put_by}
use Rattle.laws_client.proofs.Out.{Fate, IsOnly}

-- the entry of a key that stands once
entry_at : (accepted : List (Job × ℕ)) (position : ℕ) (pair : CopyKey × ℕ) → position < length (map pair_of accepted) → slice_index_or (map pair_of accepted) position pair ≡ pair
    → (a : Job × ℕ) × IsIn a accepted × (pair_of a ≡ pair)
entry_at [] position pair l e = absurd (omega (arith, l))
entry_at (a ∷ accepted) zero pair l e = (a, inl refl, e)
entry_at (a ∷ accepted) (suc position) pair l e =
    let rest = entry_at accepted position pair (omega (arith, l)) e in
    (rest.0, inr rest.1, rest.2)

-- it is that copy, in the mailbox that it is for
pub stored_copy : (k : Config) (events : List Event) (w : World) (seat mailbox uid : ℕ) (c : Job) → IsWorld k events w → c.key.seat ≡ seat → StandsOnce (pairs (w.box mailbox).accepted) c.key uid → Fate k w seat c
    → (mailbox ≡ c.mailbox) × Contains (w.box mailbox).accepted (c, uid)
stored_copy k events w seat mailbox uid c came own once fate = by (entry_at (w.box mailbox).accepted once.position (c.key, uid) once.within once.here) fate
  where
    by : (entry : (a : Job × ℕ) × IsIn a (w.box mailbox).accepted × (pair_of a ≡ (c.key, uid))) → Fate k w seat c → (mailbox ≡ c.mailbox) × Contains (w.box mailbox).accepted (c, uid)
    by (a, there, is) (inr (refused_at, why, heard)) =
        let same : a.0.key ≡ c.key = ap (λ (x : CopyKey × ℕ). x.0) is in
        absurd (All-contains (λ (x : Job × ℕ). (x.0.key ≡ c.key) → ⊥) (w.box mailbox).accepted a ((always k events w came).refused seat (record { key = c.key; mailbox = refused_at; verdict = Refused why }) why heard refl mailbox)
        (is_in_contains a (w.box mailbox).accepted there) same)
    by (a, there, is) (inl out) =
        let same : a.0.key ≡ c.key = ap (λ (x : CopyKey × ℕ). x.0) is in
        let put = history_was_put k w (kept_always k events w came) mailbox a (is_in_contains a (w.box mailbox).accepted there) in
        let at : a.0.key.seat ≡ seat = ap (λ (x : CopyKey). x.seat) same ∙ own in
        let found : IsIn (Item seat a.0) (put_by w seat (shard_of k mailbox)) = subst (λ (p : ℕ). IsIn (Item p a.0) (put_by w p (shard_of k mailbox))) at put.1 in
        let only : a.0 ≡ c = every_in (IsOnly c) (Item seat a.0) (put_by w seat (shard_of k mailbox)) (out.alone (shard_of k mailbox)) found same in
        let whole : a ≡ (c, uid) = ap (λ (x : Job). (x, a.1)) only ∙ ap (λ (x : CopyKey × ℕ). (c, x.1)) is in
        (sym put.0 ∙ ap (λ (x : Job). x.mailbox) only, is_in_contains (c, uid) (w.box mailbox).accepted (subst (λ (x : Job × ℕ). IsIn x (w.box mailbox).accepted) whole there))
