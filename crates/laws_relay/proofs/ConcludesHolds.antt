-- What the promise to a relay lets pass, whatever keeps the copies: one connection, what was replied there, and what stands of it. `ConcludesRefuted` has one
-- thing wrong at a time.
use Rattle.std.proofs.Common.{◌≡◌, ◌<◌, ◌==◌, inl, ℕ, zero, suc, Bool, true, false, List, [], ◌∷◌, length, refl, Option, Some, None, ap, sym, subst, ◌∙◌, Contains, AllPairs, arith}
use Rattle.std.specs.Prelude.{Ok, Result, codes}
use Rattle.std.proofs.lemmas.Bool.{eqb-true, false≢true}
use Rattle.change_ring.specs.Log.{no_flags}
use Rattle.delivery_token.specs.Keys.{Below}
use Rattle.delivery_token.specs.Text.{undated}
use Rattle.delivery_token.specs.declared.CopyKey.{CopyKey}
use Rattle.delivery_token.specs.declared.Job.{Job}
use Rattle.envelope.specs.Names.{lookup}
use Rattle.envelope.specs.Reading.{read, forward_at}
use Rattle.envelope.specs.Values.{Command, Path, Rcpt}
use Rattle.envelope.specs.declared.command.CommandFault.{CommandFault}
use Rattle.envelope.specs.declared.directory.NoSuch.{NoSuch}
use Rattle.house_history.specs.Events.{keys_of_seat}
use Rattle.world.specs.Law.{StandsOnce}
use Rattle.laws_relay.specs.Concludes.{Concludes, Copies, Names, StandsAsSent, WasHandedOver, key_at, message_at}
use Rattle.laws_relay.specs.Handed.{Handed, is_taken}
use Rattle.laws_relay.specs.rows.HandedRows.{bob, home, path_to}
use Rattle.laws_relay.specs.rows.AccountRows.{for_alice, for_bob, its_text, names_alice, the_message}
use Rattle.laws_relay.proofs.Positions.{the_one}

-- ---- seat 2's connection 4: a message for alice, whose reply is 250, and for bob, whose reply is 452

abbrev pub told : List Handed
told = the_message ∷ []

abbrev pub right : List ℕ
right = codes "Return-Path: <s@a.example>\r\nhi\r\n"

abbrev pub copy_of : CopyKey → (mailbox : ℕ) → (bytes : List ℕ) → Job
copy_of key mailbox bytes = record { key = key; mailbox = mailbox; text = undated bytes; flags = no_flags }

abbrev pub hers : Job
hers = copy_of for_alice 0 right

abbrev pub bobs : Job
bobs = copy_of for_bob 1 right

-- ---- which mailbox a line names

pub names_bob : Names home bob 1
unfolding read forward_at
names_bob = (path_to (codes "bob"), refl, refl)

same_path : (a b : Path) → ◌≡◌ {A = Result Command CommandFault} (Ok (Rcpt a)) (Ok (Rcpt b)) → a ≡ b
same_path a b e = cc

same_mailbox : (a b : ℕ) → ◌≡◌ {A = Result ℕ NoSuch} (Ok a) (Ok b) → a ≡ b
same_mailbox a b e = cc

-- a line names one mailbox
pub one_mailbox : (line : List ℕ) (a b : ℕ) → Names home line a → Names home line b → a ≡ b
one_mailbox line a b n o = same_mailbox a b (sym n.2 ∙ ap (lookup home) (same_path n.0 o.0 (sym n.1 ∙ o.1)) ∙ o.2)

-- ---- all that is promised of this connection

abbrev numbers : ℕ → Option ℕ
numbers zero = Some 0
numbers (suc k) = None

alone_numbered : (k n : ℕ) → numbers k ≡ Some n → k ≡ 0
alone_numbered zero n e = refl
alone_numbered (suc k) n e = absurd (let none : ◌≡◌ {A = Option ℕ} None (Some n) = e in cc)

-- hers was stored, and nothing else stands
pub record HersStands (copies : Copies) : Type 0 where
  pub stands : copies.Stands 0 hers 7
  pub only : (mailbox : ℕ) (copy : Job) (uid : ℕ) → copies.Stands mailbox copy uid → (0 ≡ mailbox) × (hers ≡ copy)
  pub here : copies.accepted 0 ≡ (for_alice, 7) ∷ []
  pub elsewhere : (mailbox : ℕ) → (0 == mailbox) ≡ false → copies.accepted mailbox ≡ []

module _ (copies : Copies) (h : HersStands copies) where
  -- what a mailbox accepted, by whether it is hers
  box_is : (m : ℕ) (b : Bool) → (0 == m) ≡ b → (P : List (CopyKey × ℕ) → Type 0) → ((0 ≡ m) → P ((for_alice, 7) ∷ [])) → P [] → P (copies.accepted m)
  box_is m true e P hers_is none_is = subst (λ (n : ℕ). P (copies.accepted n)) (eqb-true 0 m e) (subst P (sym h.here) (hers_is (eqb-true 0 m e)))
  box_is m false e P hers_is none_is = subst P (sym (h.elsewhere m e)) none_is

  pub it_stands : StandsAsSent home copies for_alice the_message 0
  it_stands = record {
    mailbox = 0;
    names = names_alice;
    copy = hers;
    keyed = refl;
    text = its_text;
    plain = refl;
    uid = 7;
    stands = h.stands;
    once = subst (λ (l : List (CopyKey × ℕ)). StandsOnce l for_alice 7) (sym h.here) (record { position = 0; within = omega arith; here = refl; alone = λ i d l e. omega (arith, l) });
    nowhere_else = λ m w c. box_is m (0 == m) refl (λ (l : List (CopyKey × ℕ)). Contains l (for_alice, w) → (m ≡ 0) × (w ≡ 7))
        (λ is there. (sym is, sym (ap (λ (x : CopyKey × ℕ). x.1) (the_one (for_alice, 7) (for_alice, w) there)))) (λ there. absurd (let within = there.1 in omega (arith, within))) c;
  }

  pub it_concludes : Concludes home copies 2 4 told told
  it_concludes = record {
    number = numbers;
    rises = λ k m a b before e f. absurd (let first = alone_numbered k a e in let second = alone_numbered m b f in omega (arith, before, first, second));
    taken = taken;
    refused = refused;
    nothing_else = λ mailbox copy uid stands seat serial.
        let is = h.only mailbox copy uid stands in
        subst (λ (m : ℕ). WasHandedOver home numbers told told m copy) is.0
        (subst (λ (c : Job). WasHandedOver home numbers told told 0 c) is.1 (record { k = 0; numbered = refl; names = names_alice; text = its_text; read = inl refl }));
    in_order = λ mailbox. box_is mailbox (0 == mailbox) refl (λ (l : List (CopyKey × ℕ)). AllPairs Below (keys_of_seat 2 l))
        (λ is i j d before within. absurd (omega (arith, before, within))) (λ i j d before within. absurd (omega (arith, within)));
  }
    where
      taken : (k i : ℕ) → is_taken (message_at told k) i ≡ true → (n : ℕ) × (numbers k ≡ Some n) × StandsAsSent home copies (key_at 2 4 n i) (message_at told k) i
      taken zero zero e = (0, refl, it_stands)
      taken zero (suc zero) e = absurd (false≢true e)
      taken zero (suc (suc i)) e = absurd (false≢true e)
      taken (suc k) i e = absurd (false≢true e)

      refused : (k i n : ℕ) → i < length (message_at told k).replies → is_taken (message_at told k) i ≡ false → numbers k ≡ Some n
          → (mailbox : ℕ) (copy : Job) (uid : ℕ) → copies.Stands mailbox copy uid → copy.key ≡ key_at 2 4 n i → ⊥
      refused zero zero n l e numbered mailbox copy uid stands keyed = false≢true (sym e)
      refused zero (suc i) n l e numbered mailbox copy uid stands keyed =
          let which : 0 ≡ suc i = ap (λ (c : Job). c.key.recipient) (h.only mailbox copy uid stands).1 ∙ ap (λ (key : CopyKey). key.recipient) keyed in
          omega (arith, which)
      refused (suc k) i n l e numbered mailbox copy uid stands keyed = omega (arith, l)
