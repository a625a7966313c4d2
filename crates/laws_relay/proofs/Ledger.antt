-- What a worker's log has of each copy, by the number of its connection, its message and its recipient.
use Rattle.std.proofs.Common.{◌≡◌, ℕ, zero, suc, ◌+◌, ◌<◌, List, [], ◌∷◌, length, map, Some, refl, ap, ap₂, sym, subst, ◌∙◌, Contains, arith}
use Rattle.std.specs.Prelude.{All, flat_map, slice_get, slice_index_or}
use Rattle.std.proofs.lemmas.List.Elements.{All-contains, All-weaker}
use Rattle.change_ring.specs.Log.{no_flags}
use Rattle.delivery_token.specs.Text.{Text}
use Rattle.delivery_token.specs.declared.CopyKey.{CopyKey}
use Rattle.delivery_token.specs.declared.Job.{Job}
use Rattle.delivery_token.specs.declared.Verdict.{Verdict}
use Rattle.delivery_token.specs.declared.log.Noted.{Noted}
use Rattle.envelope.specs.Names.{Directory}
use Rattle.lane_work.specs.Account.{Premises, setting_at, copies, copies_of}
use Rattle.lane_work.specs.Talk.{Judged}
use Rattle.lmtp_machine.specs.declared.reply.Reply.{Reply}
use Rattle.lmtp_machine.specs.Dialogue.{Setting, Submission, dialogue, fresh, keys_from}
use Rattle.lmtp_machine.specs.Kept.{AreMessages, IsMessage}
use Rattle.lmtp_machine.proofs.Kept.{dialogue_keeps, fresh_kept}
use Rattle.running_house.specs.Conversing.{AreDialogues, IsConnection}
use Rattle.running_house.specs.Storing.{AreVerdicts, IsFull}
use Rattle.running_house.specs.Woven.{IsWholeDialogue}
use Rattle.laws_relay.specs.Concludes.{key_at}
use Rattle.laws_relay.proofs.Positions.{AsMany, at_contains, at_map, at_or, at_position, at_unmap, at_within, contains_at, none_at, position_from, position_of, same_some, within_at}

-- ---- the messages of a connection, by number

-- the key of the i-th copy
keys_at : (setting : Setting) (n first : ℕ) (mailboxes : List ℕ) (i mailbox : ℕ) → slice_get mailboxes i ≡ Some mailbox
    → slice_get (keys_from setting n first mailboxes) i ≡ Some (key_at setting.seat setting.serial n (first + i))
keys_at setting n first [] i mailbox e = absurd (none_at e)
keys_at setting n first (m ∷ ms) zero mailbox e = ap (λ (r : ℕ). Some (key_at setting.seat setting.serial n r)) (let z : first ≡ first + 0 = omega arith in z)
keys_at setting n first (m ∷ ms) (suc i) mailbox e =
    keys_at setting n (first + 1) ms i mailbox e ∙ ap (λ (r : ℕ). Some (key_at setting.seat setting.serial n r)) (let z : (first + 1) + i ≡ first + suc i = omega arith in z)

message_of : (setting : Setting) (homes first last : ℕ) (judged : List Judged) → AreMessages setting homes first (map (λ (j : Judged). j.message) judged) last
    → (n : ℕ) (j : Judged) → slice_get judged n ≡ Some j → IsMessage setting homes (first + n) j.message
message_of setting homes first last [] are n j e = absurd (none_at e)
message_of setting homes first last (x ∷ xs) are zero j e =
    let z : first ≡ first + 0 = omega arith in
    subst (λ (m : ℕ). IsMessage setting homes m j.message) z (subst (λ (y : Judged). IsMessage setting homes first y.message) (same_some e) are.0)
message_of setting homes first last (x ∷ xs) are (suc n) j e =
    let z : (first + 1) + n ≡ first + suc n = omega arith in
    subst (λ (m : ℕ). IsMessage setting homes m j.message) z (message_of setting homes (first + 1) last xs are.1 n j e)

pub whole_message : (setting : Setting) (directory : Directory) (bytes : List ℕ) (said : List Reply) (judged : List Judged) → IsWholeDialogue setting directory bytes said judged
    → (n : ℕ) (j : Judged) → slice_get judged n ≡ Some j → IsMessage setting (length directory.homes) n j.message
whole_message setting directory bytes said judged d n j e =
    let last : ℕ = (dialogue setting directory fresh d.events).standing.submitted in
    let keeps = dialogue_keeps setting directory fresh d.events (fresh_kept directory) in
    let all : AreMessages setting (length directory.homes) 0 (map (λ (j : Judged). j.message) judged) last =
    subst (λ (ms : List Submission). AreMessages setting (length directory.homes) 0 ms last) (sym d.messages) keeps.numbered.are in
    let z : 0 + n ≡ n = omega arith in
    subst (λ (m : ℕ). IsMessage setting (length directory.homes) m j.message) z (message_of setting (length directory.homes) 0 last judged all n j e)

pub connection_message : (house : Premises) (seat serial : ℕ) (bytes replied : List ℕ) (judged : List Judged) → IsConnection house seat serial bytes replied judged
    → (n : ℕ) (j : Judged) → slice_get judged n ≡ Some j → IsMessage (setting_at house seat serial) (length house.directory.homes) n j.message
connection_message house seat serial bytes replied judged is n j e =
    subst (λ (homes : ℕ). IsMessage (setting_at house seat serial) homes n j.message) (ap (λ (d : Directory). length d.homes) is.marked.same)
    (whole_message (setting_at house seat serial) is.own bytes is.said judged is.dialogue n j e)

-- ---- all of them

abbrev pub part_at : List (List Judged) → ℕ → List Judged
part_at parts c = slice_index_or parts c []

inner_at : (parts : List (List Judged)) (c n : ℕ) (j : Judged) → slice_get (part_at parts c) n ≡ Some j → slice_get parts c ≡ Some (part_at parts c)
inner_at [] c n j e = absurd (none_at e)
inner_at (part ∷ parts) zero n j e = refl
inner_at (part ∷ parts) (suc c) n j e = inner_at parts c n j e

-- The note is of the copy of its key: that of a recipient of a message of a connection.
pub record IsNoted (seat count : ℕ) (parts : List (List Judged)) (noted : Noted) : Type 0 where
  pub seat_is : noted.key.seat ≡ seat
  pub serial : noted.key.serial < count
  pub judged : Judged
  pub there : slice_get (part_at parts noted.key.serial) noted.key.message ≡ Some judged
  pub mailbox : slice_get judged.message.mailboxes noted.key.recipient ≡ Some noted.mailbox
  pub verdict : slice_get judged.verdicts noted.key.recipient ≡ Some noted.verdict

noted_is : (noted : Noted) (key : CopyKey) (mailbox : ℕ) (verdict : Verdict) → noted.key ≡ key → noted.mailbox ≡ mailbox → noted.verdict ≡ verdict
    → noted ≡ (let r : Noted = record { key = key; mailbox = mailbox; verdict = verdict } in r)
noted_is noted key mailbox verdict ek em ev =
    ap₂ (λ (x : CopyKey × ℕ) (v : Verdict). let r : Noted = record { key = x.0; mailbox = x.1; verdict = v } in r) (ap₂ (λ (a : CopyKey) (b : ℕ). (a, b)) ek em) ev

abbrev keys_in : Judged → List CopyKey
keys_in j = j.message.keys

abbrev mailboxes_in : Judged → List ℕ
mailboxes_in j = j.message.mailboxes

abbrev verdicts_in : Judged → List Verdict
verdicts_in j = j.verdicts

abbrev itself : List Judged → List Judged
itself part = part

-- where one of a connection stands among all
whole_at : (house : Premises) (seat : ℕ) (connections replies : List (List ℕ)) (judged : List Judged) → (d : AreDialogues house seat connections replies judged)
    → (c n : ℕ) (j : Judged) → slice_get (part_at d.parts c) n ≡ Some j → slice_get judged (position_of itself d.parts c n) ≡ Some j
whole_at house seat connections replies judged d c n j there =
    ap (λ (js : List Judged). slice_get js (position_of itself d.parts c n)) d.together ∙ at_position itself itself d.parts (λ k e h. refl) c (part_at d.parts c) (inner_at d.parts c n j there) n j there

-- and of which connection one of all is
record OfConnection (count : ℕ) (parts : List (List Judged)) (j : Judged) : Type 0 where
  c : ℕ
  n : ℕ
  under : c < count
  there : slice_get (part_at parts c) n ≡ Some j

of_connection : (house : Premises) (seat : ℕ) (connections replies : List (List ℕ)) (judged : List Judged) → (d : AreDialogues house seat connections replies judged)
    → (q : ℕ) (j : Judged) → slice_get judged q ≡ Some j → OfConnection (length connections) d.parts j
of_connection house seat connections replies judged d q j there =
    let w = position_from itself d.parts q j (ap (λ (js : List Judged). slice_get js q) (sym d.together) ∙ there) in
    let same_part : part_at d.parts w.k ≡ w.x = at_or d.parts w.k w.x [] w.one in
    record {
      c = w.k;
      n = w.i;
      under = (let b = at_within d.parts w.k w.x w.one in let many = d.as_many_parts in omega (arith, b, many));
      there = ap (λ (js : List Judged). slice_get js w.i) same_part ∙ w.within;
    }

-- a message of a connection has a verdict and a mailbox for each of its keys
pub full_at : (house : Premises) (seat : ℕ) (connections replies : List (List ℕ)) (judged : List Judged) (notes : List Noted)
    → (d : AreDialogues house seat connections replies judged) → AreVerdicts judged notes → (c n : ℕ) (j : Judged) → slice_get (part_at d.parts c) n ≡ Some j → IsFull j
full_at house seat connections replies judged notes d v c n j there =
    All-contains IsFull judged j v.full (at_contains judged (position_of itself d.parts c n) j (whole_at house seat connections replies judged d c n j there))

-- ---- what stands at a copy's position in the log

-- the key of the i-th copy of a message
pub copy_key_at : (setting : Setting) (homes n i mailbox : ℕ) (j : Judged) → IsMessage setting homes n j.message → slice_get j.message.mailboxes i ≡ Some mailbox
    → slice_get j.message.keys i ≡ Some (key_at setting.seat setting.serial n i)
copy_key_at setting homes n i mailbox j is there =
    let z : 0 + i ≡ i = omega arith in
    let all : slice_get j.message.keys i ≡ slice_get (keys_from setting n 0 j.message.mailboxes) i = ap (λ (ks : List CopyKey). slice_get ks i) is.keys in
    let one : slice_get (keys_from setting n 0 j.message.mailboxes) i ≡ Some (key_at setting.seat setting.serial n i) =
    keys_at setting n 0 j.message.mailboxes i mailbox there ∙ ap (λ (r : ℕ). Some (key_at setting.seat setting.serial n r)) z in
    all ∙ one

noted_key : (judged : List Judged) (notes : List Noted) → AreVerdicts judged notes → (q i : ℕ) (j : Judged) (key : CopyKey) → slice_get judged q ≡ Some j → slice_get j.message.keys i ≡ Some key
    → slice_get (map (λ (x : Noted). x.key) notes) (position_of keys_in judged q i) ≡ Some key
noted_key judged notes v q i j key there here =
    let all : slice_get (flat_map keys_in judged) (position_of keys_in judged q i) ≡ Some key = at_position keys_in keys_in judged (λ k e h. refl) q j there i key here in
    ap (λ (ks : List CopyKey). slice_get ks (position_of keys_in judged q i)) v.keys ∙ all

noted_mailbox : (judged : List Judged) (notes : List Noted) → AreVerdicts judged notes → (q i : ℕ) (j : Judged) (mailbox : ℕ) → slice_get judged q ≡ Some j → slice_get j.message.mailboxes i ≡ Some mailbox
    → slice_get (map (λ (x : Noted). x.mailbox) notes) (position_of keys_in judged q i) ≡ Some mailbox
noted_mailbox judged notes v q i j mailbox there here =
    let many : All (AsMany keys_in mailboxes_in) judged = All-weaker IsFull (AsMany keys_in mailboxes_in) (λ x h. h.mailboxes) judged v.full in
    let all : slice_get (flat_map mailboxes_in judged) (position_of keys_in judged q i) ≡ Some mailbox = at_position keys_in mailboxes_in judged many q j there i mailbox here in
    ap (λ (ms : List ℕ). slice_get ms (position_of keys_in judged q i)) v.mailboxes ∙ all

noted_verdict : (judged : List Judged) (notes : List Noted) → AreVerdicts judged notes → (q i : ℕ) (j : Judged) (verdict : Verdict) → slice_get judged q ≡ Some j → slice_get j.verdicts i ≡ Some verdict
    → slice_get (map (λ (x : Noted). x.verdict) notes) (position_of keys_in judged q i) ≡ Some verdict
noted_verdict judged notes v q i j verdict there here =
    let many : All (AsMany keys_in verdicts_in) judged = All-weaker IsFull (AsMany keys_in verdicts_in) (λ x h. h.verdicts) judged v.full in
    let all : slice_get (flat_map verdicts_in judged) (position_of keys_in judged q i) ≡ Some verdict = at_position keys_in verdicts_in judged many q j there i verdict here in
    ap (λ (vs : List Verdict). slice_get vs (position_of keys_in judged q i)) v.verdicts ∙ all

-- what the note has that stands there
same_at : {A : Type 0} (f : Noted → A) (notes : List Noted) (p : ℕ) (noted : Noted) (x : A) → slice_get notes p ≡ Some noted → slice_get (map f notes) p ≡ Some x → f noted ≡ x
same_at f notes p noted x there e = same_some (sym (at_map f notes p noted there) ∙ e)

-- each copy of each message is noted with its verdict
pub copy_noted : (house : Premises) (seat : ℕ) (connections replies : List (List ℕ)) (judged : List Judged) (notes : List Noted)
    → (d : AreDialogues house seat connections replies judged) → AreVerdicts judged notes
    → (c n i : ℕ) (j : Judged) (mailbox : ℕ) (verdict : Verdict) → slice_get (part_at d.parts c) n ≡ Some j → slice_get j.message.mailboxes i ≡ Some mailbox → slice_get j.verdicts i ≡ Some verdict
    → Contains notes (let r : Noted = record { key = key_at seat c n i; mailbox = mailbox; verdict = verdict } in r)
copy_noted house seat connections replies judged notes d v c n i j mailbox verdict there at_mailbox at_verdict =
    let part = inner_at d.parts c n j there in
    let under : c < length connections = (let u = at_within d.parts c (part_at d.parts c) part in let many = d.as_many_parts in omega (arith, u, many)) in
    let q : ℕ = position_of itself d.parts c n in
    let all : slice_get judged q ≡ Some j = whole_at house seat connections replies judged d c n j there in
    let p : ℕ = position_of keys_in judged q i in
    let is = connection_message house seat c _ _ _ (d.each c under) n j there in
    let of_key = noted_key judged notes v q i j (key_at seat c n i) all (copy_key_at (setting_at house seat c) _ n i mailbox j is at_mailbox) in
    let note = at_unmap (λ (x : Noted). x.key) notes p (key_at seat c n i) of_key in
    subst (Contains notes) (noted_is note.0 (key_at seat c n i) mailbox verdict note.2
    (same_at (λ (x : Noted). x.mailbox) notes p note.0 mailbox note.1 (noted_mailbox judged notes v q i j mailbox all at_mailbox))
    (same_at (λ (x : Noted). x.verdict) notes p note.0 verdict note.1 (noted_verdict judged notes v q i j verdict all at_verdict)))
    (at_contains notes p note.0 note.1)

-- and each note is of such a copy
noted_as : (seat count : ℕ) (parts : List (List Judged)) (noted : Noted) (c n i : ℕ) (j : Judged) → noted.key ≡ key_at seat c n i → c < count → slice_get (part_at parts c) n ≡ Some j
    → slice_get j.message.mailboxes i ≡ Some noted.mailbox → slice_get j.verdicts i ≡ Some noted.verdict → IsNoted seat count parts noted
noted_as seat count parts noted c n i j e under there at_mailbox at_verdict =
    let serial : noted.key.serial ≡ c = ap (λ (k : CopyKey). k.serial) e in
    let message : noted.key.message ≡ n = ap (λ (k : CopyKey). k.message) e in
    let recipient : noted.key.recipient ≡ i = ap (λ (k : CopyKey). k.recipient) e in
    record {
      seat_is = ap (λ (k : CopyKey). k.seat) e;
      serial = subst (λ (x : ℕ). x < count) (sym serial) under;
      judged = j;
      there = ap₂ (λ (x y : ℕ). slice_get (part_at parts x) y) serial message ∙ there;
      mailbox = ap (λ (x : ℕ). slice_get j.message.mailboxes x) recipient ∙ at_mailbox;
      verdict = ap (λ (x : ℕ). slice_get j.verdicts x) recipient ∙ at_verdict;
    }

pub note_copied : (house : Premises) (seat : ℕ) (connections replies : List (List ℕ)) (judged : List Judged) (notes : List Noted)
    → (d : AreDialogues house seat connections replies judged) → AreVerdicts judged notes
    → (noted : Noted) → Contains notes noted → IsNoted seat (length connections) d.parts noted
note_copied house seat connections replies judged notes d v noted there =
    let at = contains_at notes noted there in
    let p : ℕ = at.0 in
    let of_key : slice_get (flat_map keys_in judged) p ≡ Some noted.key = ap (λ (ks : List CopyKey). slice_get ks p) (sym v.keys) ∙ at_map (λ (x : Noted). x.key) notes p noted at.1 in
    let u = position_from keys_in judged p noted.key of_key in
    let j : Judged = u.x in
    let w = of_connection house seat connections replies judged d u.k j u.one in
    let c : ℕ = w.c in
    let is = connection_message house seat c _ _ _ (d.each c w.under) w.n j w.there in
    let full : IsFull j = All-contains IsFull judged j v.full (at_contains judged u.k j u.one) in
    let within : u.i < length j.message.keys = at_within j.message.keys u.i noted.key u.within in
    let m = within_at j.message.mailboxes u.i (let many = full.mailboxes in omega (arith, within, many)) in
    let t = within_at j.verdicts u.i (let many = full.verdicts in omega (arith, within, many)) in
    let key : Some noted.key ≡ Some (key_at seat c w.n u.i) = sym u.within ∙ copy_key_at (setting_at house seat c) _ w.n u.i m.0 j is m.1 in
    let here : slice_get notes (position_of keys_in judged u.k u.i) ≡ Some noted = subst (λ (x : ℕ). slice_get notes x ≡ Some noted) u.is at.1 in
    let mailbox : noted.mailbox ≡ m.0 = same_at (λ (x : Noted). x.mailbox) notes (position_of keys_in judged u.k u.i) noted m.0 here (noted_mailbox judged notes v u.k u.i j m.0 u.one m.1) in
    let verdict : noted.verdict ≡ t.0 = same_at (λ (x : Noted). x.verdict) notes (position_of keys_in judged u.k u.i) noted t.0 here (noted_verdict judged notes v u.k u.i j t.0 u.one t.1) in
    noted_as seat (length connections) d.parts noted c w.n u.i j (same_some key) w.under w.there (m.1 ∙ ap Some (sym mailbox)) (t.1 ∙ ap Some (sym verdict))

-- two notes of one copy are alike
pub same_note : (seat count : ℕ) (parts : List (List Judged)) (a b : Noted) → IsNoted seat count parts a → IsNoted seat count parts b → a.key ≡ b.key
    → (a.mailbox ≡ b.mailbox) × (a.verdict ≡ b.verdict)
same_note seat count parts a b h k e =
    let one : h.judged ≡ k.judged =
    same_some (sym h.there ∙ ap (λ (x : CopyKey). slice_get (part_at parts x.serial) x.message) e ∙ k.there) in (
      same_some (sym h.mailbox ∙ ap₂ (λ (x : Judged) (y : CopyKey). slice_get x.message.mailboxes y.recipient) one e ∙ k.mailbox),
      same_some (sym h.verdict ∙ ap₂ (λ (x : Judged) (y : CopyKey). slice_get x.verdicts y.recipient) one e ∙ k.verdict),
    )

-- ---- copies

record IsCopyAt (keys : List CopyKey) (text : Text) (i : ℕ) (copy : Job) : Type 0 where
  key : slice_get keys i ≡ Some copy.key
  text_is : copy.text ≡ text

copy_at : (keys : List CopyKey) (mailboxes : List ℕ) (text : Text) (i : ℕ) (copy : Job) → slice_get (copies keys mailboxes text) i ≡ Some copy → IsCopyAt keys text i copy
copy_at [] mailboxes text i copy e = absurd (none_at e)
copy_at (k ∷ ks) [] text i copy e = absurd (none_at e)
copy_at (k ∷ ks) (m ∷ ms) text zero copy e =
    let first : Job = record { key = k; mailbox = m; text = text; flags = no_flags } in
    let same : first ≡ copy = same_some e in
    record { key = ap (λ (c : Job). Some c.key) same; text_is = sym (ap (λ (c : Job). c.text) same) }
copy_at (k ∷ ks) (m ∷ ms) text (suc i) copy e = let r = copy_at ks ms text i copy e in record { key = r.key; text_is = r.text_is }

-- a copy of a message that was judged has the key of its recipient
copy_key : (house : Premises) (seat : ℕ) (connections replies : List (List ℕ)) (judged : List Judged) (notes : List Noted)
    → (d : AreDialogues house seat connections replies judged) → AreVerdicts judged notes
    → (j : Judged) (copy : Job) → Contains judged j → Contains (copies_of j.message) copy
    → (w : OfConnection (length connections) d.parts j) × (i : ℕ) × (copy.key ≡ key_at seat w.c w.n i) × (copy.text ≡ j.message.text)
copy_key house seat connections replies judged notes d v j copy there among =
    let at = contains_at judged j there in
    let w = of_connection house seat connections replies judged d at.0 j at.1 in
    let i = contains_at (copies_of j.message) copy among in
    let one = copy_at j.message.keys j.message.mailboxes j.message.text i.0 copy i.1 in
    let is = connection_message house seat w.c _ _ _ (d.each w.c w.under) w.n j w.there in
    let full : IsFull j = All-contains IsFull judged j v.full there in
    let within : i.0 < length j.message.keys = at_within j.message.keys i.0 copy.key one.key in
    let m = within_at j.message.mailboxes i.0 (let many = full.mailboxes in omega (arith, within, many)) in
    let key : copy.key ≡ key_at seat w.c w.n i.0 = same_some (sym one.key ∙ copy_key_at (setting_at house seat w.c) _ w.n i.0 m.0 j is m.1) in
    (w, i.0, key, one.text_is)

-- it is of the message of its key
pub copied_from : (house : Premises) (seat : ℕ) (connections replies : List (List ℕ)) (judged : List Judged) (notes : List Noted)
    → (d : AreDialogues house seat connections replies judged) → AreVerdicts judged notes
    → (j : Judged) (copy : Job) → Contains judged j → Contains (copies_of j.message) copy
    → (slice_get (part_at d.parts copy.key.serial) copy.key.message ≡ Some j) × (copy.text ≡ j.message.text)
copied_from house seat connections replies judged notes d v j copy there among =
    let r = copy_key house seat connections replies judged notes d v j copy there among in
    (ap (λ (k : CopyKey). slice_get (part_at d.parts k.serial) k.message) r.2 ∙ r.0.there, r.3)

-- and of this seat
pub copied_seat : (house : Premises) (seat : ℕ) (connections replies : List (List ℕ)) (judged : List Judged) (notes : List Noted)
    → AreDialogues house seat connections replies judged → AreVerdicts judged notes
    → (j : Judged) (copy : Job) → Contains judged j → Contains (copies_of j.message) copy → copy.key.seat ≡ seat
copied_seat house seat connections replies judged notes d v j copy there among =
    ap (λ (k : CopyKey). k.seat) (copy_key house seat connections replies judged notes d v j copy there among).2
