-- A worker's account beside lists that agree: which entries are of which copies.
use Rattle.std.proofs.Common.{◌≡◌, ◌⊎◌, inl, inr, ℕ, zero, suc, ◌<◌, Bool, List, [], ◌∷◌, length, Some, refl, sym, subst, ◌∙◌, Contains, arith}
use Rattle.std.specs.Prelude.{slice_get, slice_index_or}
use Rattle.std.proofs.lemmas.List.Elements.{All-contains}
use Rattle.delivery_token.specs.Text.{Text}
use Rattle.delivery_token.specs.declared.CopyKey.{CopyKey}
use Rattle.delivery_token.specs.declared.Job.{Job}
use Rattle.delivery_token.specs.declared.Verdict.TheVariants.{Stored}
use Rattle.delivery_token.specs.declared.log.Noted.{Noted}
use Rattle.delivery_token.specs.Keys.{Below}
use Rattle.envelope.specs.Names.{shard_of}
use Rattle.lane_work.specs.Account.{Premises}
use Rattle.lane_work.specs.Talk.{Judged}
use Rattle.shard_queue.specs.declared.lane.Entry.{Entry}
use Rattle.shard_queue.specs.declared.lane.Entry.TheVariants.{Item}
use Rattle.running_house.specs.Accounting.{AccountOfLines}
use Rattle.running_house.specs.Lists.{IsOfCopy, IsTold, ListsAgree, Rise, keys_of, of_seat}
use Rattle.laws_relay.specs.Entries.{StandsNowhere, StandsOnce}
use Rattle.laws_relay.specs.AccountLaws.{TakenIsItsOwn}
use Rattle.laws_relay.proofs.EntryLaws.{NotesStored, entry_noted, note_entered, entries_in_order, stands_not, stands_once}
use Rattle.laws_relay.proofs.Ledger.{IsNoted, copied_from, note_copied, part_at, same_note}

-- all that is given
pub record Joined : Type 0 where
  pub house : Premises
  pub seat : ℕ
  pub connections : List (List ℕ)
  pub replies : List (List ℕ)
  pub heard : List (Entry Noted)
  pub said : List (List (Entry Job))
  pub whole : Bool
  pub logs : List (List Noted)
  pub copies : List (List Job)
  pub accepted : List (List (CopyKey × ℕ))
  pub texts : List (List (ℕ × Text))
  pub under : seat < length logs
  pub account : AccountOfLines house seat connections replies (slice_index_or logs seat []) heard said
  pub lists : ListsAgree house.directory whole logs copies accepted texts

abbrev pub notes_in : Joined → List Noted
notes_in g = slice_index_or g.logs g.seat []

abbrev pub parts_in : Joined → List (List Judged)
parts_in g = g.account.dialogues.parts

abbrev pub entries_at : Joined → ℕ → List (CopyKey × ℕ)
entries_at g mailbox = slice_index_or g.accepted mailbox []

abbrev pub homes_in : Joined → ℕ
homes_in g = length g.house.directory.homes

-- ---- mailboxes

pub in_some : {A : Type 0} (xs : List (List A)) (m : ℕ) (x : A) → Contains (slice_index_or xs m []) x → m < length xs
in_some [] m x c = absurd (let u = c.1 in omega (arith, u))
in_some (y ∷ ys) zero x c = omega arith
in_some (y ∷ ys) (suc m) x c = let u : m < length ys = in_some ys m x c in omega (arith, u)

in_or_none : {A : Type 0} (xs : List (List A)) (m : ℕ) → (m < length xs) ⊎ (slice_index_or xs m [] ≡ [])
in_or_none [] m = inr refl
in_or_none (y ∷ ys) zero = inl (omega arith)
in_or_none (y ∷ ys) (suc m) = elim (in_or_none ys m) [ inl u ↦ inl (omega (arith, u)) | inr e ↦ inr e ]

mailbox_there : (g : Joined) (mailbox : ℕ) → mailbox < length g.accepted → mailbox < homes_in g
mailbox_there g mailbox u = let many = g.lists.mailboxes.0 in omega (arith, u, many)

told_at : (g : Joined) (mailbox : ℕ) → mailbox < homes_in g → IsTold mailbox (entries_at g mailbox) g.seat (notes_in g)
told_at g mailbox u = (g.lists.mailbox mailbox u).told.told g.seat g.under

-- ---- entries and notes

-- an entry of this seat is noted, as of its copy
pub record IsEntered (g : Joined) (mailbox uid : ℕ) (key : CopyKey) : Type 0 where
  pub noted : Noted
  pub there : Contains (notes_in g) noted
  pub stored : NotesStored mailbox uid key noted
  pub of : IsNoted g.seat (length g.connections) (parts_in g) noted

pub note_of_copy : (g : Joined) (noted : Noted) → Contains (notes_in g) noted → IsNoted g.seat (length g.connections) (parts_in g) noted
note_of_copy g noted there = note_copied g.house g.seat g.connections g.replies g.account.judged (notes_in g) g.account.dialogues g.account.verdicts noted there

pub entered : (g : Joined) (mailbox uid : ℕ) (key : CopyKey) → Contains (entries_at g mailbox) (key, uid) → key.seat ≡ g.seat → IsEntered g mailbox uid key
entered g mailbox uid key there own =
    let told = told_at g mailbox (mailbox_there g mailbox (in_some g.accepted mailbox (key, uid) there)) in
    let n = entry_noted mailbox (entries_at g mailbox) g.seat (notes_in g) told key uid own there in
    record { noted = n.0; there = n.1; stored = n.2; of = note_of_copy g n.0 n.1 }

-- a stored note's copy stands once
pub noted_stands : (g : Joined) (noted : Noted) (key : CopyKey) (mailbox uid : ℕ) → Contains (notes_in g) noted → noted.key ≡ key → noted.mailbox ≡ mailbox → noted.verdict ≡ Stored uid
    → key.seat ≡ g.seat → mailbox < homes_in g → StandsOnce g.accepted key mailbox uid
noted_stands g noted key mailbox uid there ek em ev own within =
    let told = told_at g mailbox within in
    let entry : Contains (entries_at g mailbox) (key, uid) =
    subst (λ (k : CopyKey). Contains (entries_at g mailbox) (k, uid)) ek (note_entered mailbox (entries_at g mailbox) g.seat (notes_in g) told noted uid there em ev) in
    record {
      here = stands_once key uid (entries_at g mailbox) (subst (λ (s : ℕ). Rise (keys_of (of_seat s (entries_at g mailbox)))) (sym own) told.rising) entry;
      elsewhere = λ other differs. stands_not key (entries_at g other) (λ n c.
          (let e = entered g other n key c own in
          let same = same_note g.seat (length g.connections) (parts_in g) e.noted noted e.of (note_of_copy g noted there) (e.stored.key_is ∙ sym ek) in
          differs (sym e.stored.mailbox_is ∙ same.0 ∙ em)));
    }

-- where no note says that a copy is stored, it stands nowhere
pub stands_nowhere : (g : Joined) (key : CopyKey) → key.seat ≡ g.seat
    → ((noted : Noted) (uid : ℕ) → IsNoted g.seat (length g.connections) (parts_in g) noted → noted.key ≡ key → noted.verdict ≡ Stored uid → ⊥) → StandsNowhere g.accepted key
stands_nowhere g key own none mailbox = stands_not key (entries_at g mailbox) (λ uid c. let e = entered g mailbox uid key c own in none e.noted uid e.of e.stored.key_is e.stored.verdict_is)

-- ---- texts

-- a message that is there is of an accepted copy; if it is of this seat, it has the text of the message of its key
pub record IsFrom (g : Joined) (mailbox uid : ℕ) (text : Text) : Type 0 where
  pub key : CopyKey
  pub entry : Contains (entries_at g mailbox) (key, uid)
  pub own : key.seat ≡ g.seat → (j : Judged) × (slice_get (part_at (parts_in g) key.serial) key.message ≡ Some j) × (text ≡ j.message.text)

pub text_from : (g : Joined) → TakenIsItsOwn g.seat g.copies g.said → (mailbox uid : ℕ) (text : Text) → Contains (slice_index_or g.texts mailbox []) (uid, text) → IsFrom g mailbox uid text
text_from g taken mailbox uid text there =
    let within : mailbox < homes_in g = (let u = in_some g.texts mailbox (uid, text) there in let many = g.lists.mailboxes.1 in omega (arith, u, many)) in
    let lane : ℕ = shard_of g.house.directory mailbox in
    let is = All-contains (IsOfCopy mailbox (entries_at g mailbox) (slice_index_or g.copies lane [])) (slice_index_or g.texts mailbox []) (uid, text) (g.lists.mailbox mailbox within).there there in
    record {
      key = is.copy.key;
      entry = is.pair;
      own = λ seat.
          (let put = taken lane is.copy is.taken seat in
          let was = (g.account.put lane g.seat is.copy (in_some g.said lane (Item g.seat is.copy) put) put).1 in
          let from = copied_from g.house g.seat g.connections g.replies g.account.judged (notes_in g) g.account.dialogues g.account.verdicts was.message is.copy was.there was.among in
          (was.message, from.0, is.text ∙ from.1));
    }

-- ---- order

rises_at : (g : Joined) (mailbox : ℕ) → Rise (keys_of (of_seat g.seat (entries_at g mailbox)))
rises_at g mailbox = elim (in_or_none g.accepted mailbox) [
  | inl u ↦ (told_at g mailbox (mailbox_there g mailbox u)).rising
  | inr e ↦ subst (λ (ps : List (CopyKey × ℕ)). Rise (keys_of (of_seat g.seat ps))) (sym e) tt
]

pub stands_in_order : (g : Joined) (mailbox i j uid other : ℕ) (earlier later : CopyKey) → slice_get (entries_at g mailbox) i ≡ Some (earlier, uid) → slice_get (entries_at g mailbox) j ≡ Some (later, other)
    → earlier.seat ≡ g.seat → later.seat ≡ g.seat → Below earlier later → i < j
stands_in_order g mailbox i j uid other earlier later ei ej own also below = entries_in_order g.seat (entries_at g mailbox) (rises_at g mailbox) i j uid other earlier later ei ej own also below
