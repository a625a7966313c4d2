-- What a relay may conclude of a house by its record, in the words in which it is said of a server too: by what became of each message (`ByTheRecord`).
use Rattle.std.proofs.Common.{◌≡◌, ℕ, ◌<◌, ◌==◌, Bool, true, false, List, [], ◌∷◌, ◌++◌, length, map, filter, Option, Some, refl, ap, sym, subst, ◌∙◌, Contains, AllPairs, if◌then◌else◌, arith}
use Rattle.std.specs.Prelude.{◌≤◌, ◌⊎◌, slice_get, slice_index_or}
use Rattle.delivery_token.specs.Keys.{Below}
use Rattle.delivery_token.specs.declared.CopyKey.{CopyKey}
use Rattle.delivery_token.specs.declared.Job.{Job}
use Rattle.envelope.specs.Names.{Directory}
use Rattle.house_history.specs.Events.{keys_of_seat}
use Rattle.world.specs.Law.{StandsOnce, keys, pair_of, pairs}
use Rattle.world.specs.World.{World}
use Rattle.laws_relay.specs.Concluded.{MayConclude}
use Rattle.laws_relay.specs.Concludes.{Concludes, Names, StandsAsSent, WasHandedOver, key_at, message_at, of_world}
use Rattle.laws_relay.specs.Handed.{Handed, handed_over, is_taken}
use Rattle.laws_relay.specs.Numbers.{AreNumbered, number_of}
use Rattle.laws_relay.specs.RecordLaws.{ByTheRecord, RelaysConcludeByRecords, Sessions, came_for, new_house}
use Rattle.laws_relay.proofs.FateLaws.{given_if, given_is, number_given}
use Rattle.laws_relay.proofs.Numbered.{messages_are_numbered}
use Rattle.laws_relay.proofs.Positions.{at_contains, at_or, at_unmap, at_within, contains_at, same_some, within_at}

-- ---- what a mailbox accepted, by keys and UIDs

-- a key that stands there is a copy's
unpaired : (xs : List (Job × ℕ)) (pair : CopyKey × ℕ) → Contains (pairs xs) pair → (entry : Job × ℕ) × Contains xs entry × (pair_of entry ≡ pair)
unpaired xs pair c =
    let at = contains_at (pairs xs) pair c in
    let entry = at_unmap pair_of xs at.0 pair at.1 in
    (entry.0, at_contains xs at.0 entry.0 entry.1, entry.2)

-- one that stands once stands under one UID
one_uid : (history : List (CopyKey × ℕ)) (key : CopyKey) (uid w : ℕ) → StandsOnce history key uid → Contains history (key, w) → w ≡ uid
one_uid history key uid w once c =
    let at = contains_at history (key, w) c in
    let there = within_at history once.position once.within in
    let it : there.0 ≡ (key, uid) = sym (at_or history once.position there.0 (key, uid) there.1) ∙ once.here in
    let same : at.0 ≡ once.position =
    once.alone at.0 (key, w) (at_within history at.0 (key, w) at.1) (ap (λ (p : CopyKey × ℕ). p.0) (at_or history at.0 (key, w) (key, w) at.1)) in
    let both : (key, w) ≡ there.0 = same_some (sym at.1 ∙ ap (λ (i : ℕ). slice_get history i) same ∙ there.1) in
    ap (λ (p : CopyKey × ℕ). p.1) (both ∙ it)

-- a seat's keys
keys_same : (seat : ℕ) (xs : List (Job × ℕ)) → keys (filter (λ a. a.0.key.seat == seat) xs) ≡ keys_of_seat seat (pairs xs)
keys_same seat [] = refl
keys_same seat (x ∷ xs) = by (x.0.key.seat == seat) (keys_same seat xs)
  where
    by : (b : Bool) → keys (filter (λ a. a.0.key.seat == seat) xs) ≡ keys_of_seat seat (pairs xs)
        → keys (if b then x ∷ filter (λ a. a.0.key.seat == seat) xs else filter (λ a. a.0.key.seat == seat) xs)
        ≡ map (λ (a : CopyKey × ℕ). a.0) (if b then pair_of x ∷ filter (λ a. a.0.seat == seat) (pairs xs) else filter (λ a. a.0.seat == seat) (pairs xs))
    by true same = ap (λ (ks : List CopyKey). x.0.key ∷ ks) same
    by false same = same

-- ---- a connection

module _ (host : List ℕ) (directory : Directory) (w : World) (seat serial : ℕ) (sent told unread : List ℕ) (may : MayConclude host directory w seat serial sent told unread) where
  abbrev known : List Handed
  known = handed_over sent told

  abbrev whole : List Handed
  whole = handed_over sent (told ++ may.untold)

  abbrev number : ℕ → Option ℕ
  number k = number_given may.fates k

  rises : (k m a b : ℕ) → k < m → number k ≡ Some a → number m ≡ Some b → a < b
  rises k m a b below ea eb =
      let are : AreNumbered directory whole may.fates = messages_are_numbered host directory whole may.fates may.each in
      let first = given_is _ _ a ea in
      let second = given_is _ _ b eb in
      let less : number_of may.fates k < number_of may.fates m = are.rises k m below first.0 in
      let is_a : number_of may.fates k ≡ a = first.1 in
      let is_b : number_of may.fates m ≡ b = second.1 in omega (arith, less, is_a, is_b)

  taken : (k i : ℕ) → is_taken (message_at known k) i ≡ true → (n : ℕ) × (number k ≡ Some n) × StandsAsSent directory (of_world w) (key_at seat serial n i) (message_at known k) i
  taken k i t =
      let n : ℕ = number_of may.fates k in
      let key : CopyKey = key_at seat serial n i in
      let found = may.taken k i t in
      let stands = found.1 in
      let alone : (other u : ℕ) → Contains (pairs (w.box other).accepted) (key, u) → other ≡ stands.mailbox = λ other u c.
      (let entry = unpaired (w.box other).accepted (key, u) c in (stands.alone other entry.0 entry.1 (ap (λ (p : CopyKey × ℕ). p.0) entry.2)).0) in (
        n,
        ap (λ (b : Bool). given_if b n) found.0.0,
        record {
          mailbox = stands.mailbox;
          names = stands.named;
          copy = stands.copy;
          keyed = ap (λ (copy : Job). copy.key) stands.is;
          text = record { sender = stands.sender; from = stands.from; is = ap (λ (copy : Job). copy.text) stands.is };
          plain = ap (λ (copy : Job). copy.flags) stands.is;
          uid = stands.uid;
          stands = stands.here;
          once = stands.once;
          nowhere_else = λ other u c.
              let is = alone other u c in
              (is, one_uid (pairs (w.box stands.mailbox).accepted) key stands.uid u stands.once (subst (λ (m : ℕ). Contains (pairs (w.box m).accepted) (key, u)) is c));
        },
      )

  refused : (k i n : ℕ) → i < length (message_at known k).replies → is_taken (message_at known k) i ≡ false → number k ≡ Some n
      → (mailbox : ℕ) (copy : Job) (uid : ℕ) → (of_world w).Stands mailbox copy uid → copy.key ≡ key_at seat serial n i → ⊥
  refused k i n under other numbered mailbox copy uid here keyed =
      let is = given_is _ _ n numbered in
      may.refused k i copy.key under other (is.0, keyed ∙ ap (λ (m : ℕ). key_at seat serial m i) (sym is.1)) mailbox (copy, uid) here refl

  nothing_else : (mailbox : ℕ) (copy : Job) (uid : ℕ) → (of_world w).Stands mailbox copy uid → copy.key.seat ≡ seat → copy.key.serial ≡ serial
      → WasHandedOver directory number known whole mailbox copy
  nothing_else mailbox copy uid here own of_serial =
      let h = may.nothing_else mailbox (copy, uid) here own of_serial in
      let recipient : h.j ≡ copy.key.recipient = ap (λ (key : CopyKey). key.recipient) (sym h.key.1) in
      record {
        k = h.i;
        numbered = ap (λ (b : Bool). given_if b (number_of may.fates h.i)) h.key.0 ∙ ap (λ (key : CopyKey). Some key.message) (sym h.key.1);
        names = subst (λ (j : ℕ). Names directory (slice_index_or (message_at whole h.i).recipients j []) mailbox) recipient h.named;
        text = record { sender = h.sender; from = h.from; is = h.text };
        read = subst (λ (j : ℕ). (is_taken (message_at known h.i) j ≡ true) ⊎ (length (message_at known h.i).replies ≤ j)) recipient h.read;
      }

  it_concludes : Concludes directory (of_world w) seat serial known whole
  it_concludes = record {
    number = number;
    rises = rises;
    taken = taken;
    refused = refused;
    nothing_else = nothing_else;
    in_order = λ mailbox. subst (λ (ks : List CopyKey). AllPairs Below ks) (keys_same seat (w.box mailbox).accepted) (may.stand_in_order mailbox);
  }

-- ---- of every record of a house

pub relays_conclude : (sessions : Sessions) → ByTheRecord sessions → RelaysConcludeByRecords sessions
relays_conclude sessions by_the_record k entries after steps in_line is_record came =
    let all = by_the_record k entries after steps in_line is_record came in record {
      each = λ seat serial at_seat opened later told unread front.
          let may = (all.each seat serial at_seat opened later told unread front).0 in
          let sent = came_for sessions seat serial (new_house sessions k) entries ++ later in (
            may.unprinted,
            may.replies,
            ap (λ (untold : List ℕ). told ++ untold) (sym may.begins) ∙ may.said,
            (all.each seat serial at_seat opened later told unread front).1,
            subst (λ (untold : List ℕ). Concludes k.directory (of_world after.world) seat serial (handed_over sent told) (handed_over sent (told ++ untold))) may.begins
                (it_concludes k.host k.directory after.world seat serial sent told unread may),
          );
      opened = all.opened;
    }
