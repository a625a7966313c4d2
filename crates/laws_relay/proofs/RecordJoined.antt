-- What a relay knows of one connection, joined with what stands in the mailboxes.
use Rattle.std.proofs.Common.{◌≡◌, ℕ, zero, suc, ◌+◌, ◌<◌, ◌≤◌, ◌⊎◌, inl, inr, Bool, true, false, List, [], ◌∷◌, ◌++◌, length, map, refl, ap, ap₂, sym, subst, ◌∙◌, append_assoc, append-nil, arith}
use Rattle.std.specs.Prelude.{Contains, slice_index_or}
use Rattle.std.proofs.lemmas.Bool.{false≢true, cases_lt}
use Rattle.std.proofs.lemmas.Grind.{flat_map-append}
use Rattle.std.proofs.lemmas.List.Elements.{All-contains}
use Rattle.change_ring.specs.Log.{no_flags}
use Rattle.delivery_token.specs.Keys.{Below}
use Rattle.delivery_token.specs.Text.{Text, undated}
use Rattle.delivery_token.specs.declared.CopyKey.{CopyKey}
use Rattle.delivery_token.specs.declared.Job.{Job}
use Rattle.delivery_token.specs.declared.Verdict.{Verdict}
use Rattle.delivery_token.specs.declared.Verdict.TheVariants.{Stored, Refused}
use Rattle.delivery_token.specs.declared.log.Noted.{Noted}
use Rattle.envelope.specs.Names.{Directory}
use Rattle.shard_queue.specs.declared.lane.Entry.{Entry}
use Rattle.shard_queue.specs.declared.lane.Entry.TheVariants.{Item}
use Rattle.lmtp_machine.specs.declared.reply.Reply.{Reply}
use Rattle.lmtp_machine.specs.declared.reply.Reply.TheVariants.{Greeting}
use Rattle.lmtp_machine.specs.Dialogue.{Setting, Submission, wire}
use Rattle.lmtp_machine.specs.Message.{stored_text}
use Rattle.house_peers.specs.Caller.{Caller, Terms, copies_of, setting_of}
use Rattle.laws_relay.specs.Conclusions.{MayForget}
use Rattle.laws_relay.specs.Fates.{AreCut, Fate, HaveFates, IsSubmitted, all_submitted, all_told, was_stored}
use Rattle.laws_relay.specs.Concludes.{IsSender, Names}
use Rattle.laws_relay.specs.Handed.{Handed, handed_over, is_taken, IsInLine}
use Rattle.laws_relay.specs.ReplyLaws.{is_stored}
use Rattle.laws_relay.specs.Numbers.{AreNumbered, no_submission, number_of, was_submitted}
use Rattle.laws_relay.proofs.ReplyConcluding.{fronts_are_cut}
use Rattle.laws_relay.proofs.Connected.{concludes}
use Rattle.laws_relay.proofs.Numbered.{messages_are_numbered}
use Rattle.laws_relay.proofs.Taken.{taken_within}
use Rattle.world.specs.Law.{Headline, StandsOnce, pair_of, pairs}
use Rattle.world.specs.World.{Config, World, shard_of}
use Rattle.world.proofs.Base.{Every, all_of_every}
use Rattle.world.proofs.Kept.{Kept}
use Rattle.world.proofs.Mails.{IsIn, is_in_contains}
use Rattle.laws_relay.specs.Concluded.{IsHandedOver, IsKeyOf, KnowsAll, MayConclude, StandsAsSent, StandsNowhere, fate_at, key_at, message_at}
use Rattle.laws_relay.proofs.Copies.{HeardOf, IsCopy, copy_at, copy_key, each_is_copy, heard_at, named_at}
use Rattle.laws_relay.proofs.RecordFronts.{IsFrontOf, all_replied, front_at, judged_at, stored_submitted}
use Rattle.exactly_once.proofs.Histories.{every_in, history_was_put}
use Rattle.exactly_once.proofs.Lanes.{put_by}
use Rattle.laws_relay.proofs.Seated.{AreFrom, AreHeard, IsKnown, IsOneOf, messages_from}

-- ---- what is known of one connection

record Facts (k : Config) (w : World) (host : List ℕ) (directory : Directory) (setting : Setting) (known whole : List Handed) : Type 0 where
  pub kept : Kept k w
  pub world : Headline k w
  pub fates : List Fate
  pub each : HaveFates host directory whole fates
  pub numbered : AreNumbered directory whole fates
  pub front : AreCut known whole
  pub answered : List (List Verdict)
  pub judged : List Submission
  pub pending : List Submission
  pub submitted_are : all_submitted fates ≡ judged ++ pending
  pub answers_are : all_told fates ≡ answered
  pub from : AreFrom setting (length directory.homes) 0 (judged ++ pending)
  pub heard : AreHeard (w.heard setting.seat) judged answered
  pub sent : (t : ℕ) → Every (IsOneOf setting.serial (copies_of (judged ++ pending))) (put_by w setting.seat t)
  pub stored : (i j : ℕ) → is_taken (message_at known i) j ≡ true → was_stored (fate_at fates i) j ≡ true
  pub tells : (i j : ℕ) → j < length (message_at known i).replies → is_taken (message_at known i) j ≡ was_stored (fate_at fates i) j

-- the n-th message that was submitted
abbrev submission_at : List Submission → ℕ → Submission
submission_at ss n = slice_index_or ss n no_submission

-- ---- copies that stand

-- a copy by its key
copy_is : (setting : Setting) (ss : List Submission) (job : Job) (n j : ℕ) → IsCopy setting 0 ss job → job.key ≡ copy_key setting n j
    → (n < length ss) × (j < length (submission_at ss n).mailboxes) × (job ≡ copy_at setting n (submission_at ss n) j)
copy_is setting ss job n j x e =
    let message : 0 + x.n ≡ n = sym (ap (λ (c : Job). c.key.message) x.is) ∙ ap (λ (key : CopyKey). key.message) e in
    let number : x.n ≡ n = omega (arith, message) in
    let recipient : x.i ≡ j = sym (ap (λ (c : Job). c.key.recipient) x.is) ∙ ap (λ (key : CopyKey). key.recipient) e in
    let same : copy_at setting (0 + x.n) (submission_at ss x.n) x.i ≡ copy_at setting x.n (submission_at ss x.n) x.i =
    (let z : 0 + x.n ≡ x.n = omega arith in ap (λ (m : ℕ). copy_at setting m (submission_at ss x.n) x.i) z) in
    let here : (x.n < length ss) × (x.i < length (submission_at ss x.n).mailboxes) × (job ≡ copy_at setting x.n (submission_at ss x.n) x.i) = (x.there, x.within, x.is ∙ same) in
    subst (λ (m : ℕ). (m < length ss) × (j < length (submission_at ss m).mailboxes) × (job ≡ copy_at setting m (submission_at ss m) j)) number
    (subst (λ (i : ℕ). (x.n < length ss) × (i < length (submission_at ss x.n).mailboxes) × (job ≡ copy_at setting x.n (submission_at ss x.n) i)) recipient here)

-- what stands of the connection is a copy of a message that it submitted
entry_is_copy : (k : Config) (w : World) (host : List ℕ) (directory : Directory) (setting : Setting) (known whole : List Handed) (f : Facts k w host directory setting known whole)
    → (m : ℕ) (a : Job × ℕ) → Contains (w.box m).accepted a → a.0.key.seat ≡ setting.seat → a.0.key.serial ≡ setting.serial → IsCopy setting 0 (f.judged ++ f.pending) a.0 × (a.0.mailbox ≡ m)
entry_is_copy k w host directory setting known whole f m a there seat serial =
    let put = history_was_put k w f.kept m a there in
    let s : ℕ = shard_of k m in
    let mine : IsIn (Item setting.seat a.0) (put_by w setting.seat s) = subst (λ (p : ℕ). IsIn (Item p a.0) (put_by w p s)) seat put.1 in
    let copies : List Job = copies_of (f.judged ++ f.pending) in
    let own : Contains copies a.0 = every_in (IsOneOf setting.serial copies) (Item setting.seat a.0) (put_by w setting.seat s) (f.sent s) mine serial in
    let each : Every (IsCopy setting 0 (f.judged ++ f.pending)) copies = each_is_copy setting (length directory.homes) 0 (f.judged ++ f.pending) f.from in
    (All-contains (IsCopy setting 0 (f.judged ++ f.pending)) copies a.0 (all_of_every (IsCopy setting 0 (f.judged ++ f.pending)) copies each) own, put.0)

-- the entry of a key that stands once
entry_at : (accepted : List (Job × ℕ)) (position : ℕ) (pair : CopyKey × ℕ) → position < length (map pair_of accepted) → slice_index_or (map pair_of accepted) position pair ≡ pair
    → (a : Job × ℕ) × IsIn a accepted × (pair_of a ≡ pair)
entry_at [] position pair l e = absurd (omega (arith, l))
entry_at (a ∷ accepted) zero pair l e = (a, inl refl, e)
entry_at (a ∷ accepted) (suc position) pair l e =
    let rest = entry_at accepted position pair (omega (arith, l)) e in
    (rest.0, inr rest.1, rest.2)

-- ---- a recipient's copy

-- its key, by the message's position among those that were submitted
abbrev number : {k : Config} {w : World} {host : List ℕ} {directory : Directory} {setting : Setting} {known whole : List Handed} → Facts k w host directory setting known whole → ℕ → ℕ
number f i = number_of f.fates i

-- a message that was submitted is this submission
submission_of : (k : Config) (w : World) (host : List ℕ) (directory : Directory) (setting : Setting) (known whole : List Handed) (f : Facts k w host directory setting known whole)
    → (i : ℕ) → was_submitted (fate_at f.fates i) ≡ true
    → (number f i < length (f.judged ++ f.pending)) × IsSubmitted directory (message_at whole i) (submission_at (f.judged ++ f.pending) (number f i))
submission_of k w host directory setting known whole f i e =
    subst (λ (ss : List Submission). (number f i < length ss) × IsSubmitted directory (message_at whole i) (submission_at ss (number f i))) f.submitted_are (f.numbered.of_message i e)

-- the verdict on it, where one was told
verdict_of : (k : Config) (w : World) (host : List ℕ) (directory : Directory) (setting : Setting) (known whole : List Handed) (f : Facts k w host directory setting known whole)
    → (i j : ℕ) → was_submitted (fate_at f.fates i) ≡ true → j < length (message_at known i).replies
    → HeardOf (w.heard setting.seat) (copy_key setting (number f i) j) (is_taken (message_at known i) j)
verdict_of k w host directory setting known whole f i j e l =
    let n : ℕ = number f i in
    let more : j < length (message_at whole i).replies = (front_at f.front i j l).1 in
    let many : j < length (slice_index_or f.answered n []) =
    subst (λ (vs : List (List Verdict)). j < length (slice_index_or vs n [])) f.answers_are (judged_at host directory f.each i j e more) in
    let told : was_stored (fate_at f.fates i) j ≡ slice_index_or (map is_stored (slice_index_or f.answered n [])) j false =
    f.numbered.of_verdicts i j e ∙ ap (λ (vs : List (List Verdict)). slice_index_or (map is_stored (slice_index_or vs n [])) j false) f.answers_are in
    let z : 0 + n ≡ n = omega arith in
    let here : HeardOf (w.heard setting.seat) (copy_key setting n j) (slice_index_or (map is_stored (slice_index_or f.answered n [])) j false) =
    subst (λ (m : ℕ). HeardOf (w.heard setting.seat) (copy_key setting m j) (slice_index_or (map is_stored (slice_index_or f.answered n [])) j false)) z
    (heard_at (w.heard setting.seat) setting (length directory.homes) 0 f.judged f.pending f.answered f.from f.heard n j many) in
    subst (HeardOf (w.heard setting.seat) (copy_key setting n j)) (sym (f.tells i j l ∙ told)) here

-- a verdict that it is stored
stored_uid : (verdict : Verdict) → is_stored verdict ≡ true → (uid : ℕ) × (verdict ≡ Stored uid)
stored_uid (Stored uid) e = (uid, refl)
stored_uid (Refused why) e = absurd (false≢true e)

-- ---- what the relay may conclude

is_submitted_at : (k : Config) (w : World) (host : List ℕ) (directory : Directory) (setting : Setting) (known whole : List Handed) (f : Facts k w host directory setting known whole)
    → (i j : ℕ) → is_taken (message_at known i) j ≡ true → was_submitted (fate_at f.fates i) ≡ true
is_submitted_at k w host directory setting known whole f i j e = stored_submitted (fate_at f.fates i) j (f.stored i j e)

taken_stands : (k : Config) (w : World) (host : List ℕ) (directory : Directory) (setting : Setting) (known whole : List Handed) (f : Facts k w host directory setting known whole)
    → (i j : ℕ) → is_taken (message_at known i) j ≡ true → StandsAsSent directory w (message_at known i) j (copy_key setting (number f i) j)
taken_stands k w host directory setting known whole f i j e =
    let ss : List Submission = f.judged ++ f.pending in
    let n : ℕ = number f i in
    let key : CopyKey = copy_key setting n j in
    let known_i : Handed = message_at known i in
    let within : j < length known_i.replies = taken_within known_i.replies j e in
    let was : was_submitted (fate_at f.fates i) ≡ true = is_submitted_at k w host directory setting known whole f i j e in
    let s = submission_of k w host directory setting known whole f i was in
    let same : IsFrontOf known_i (message_at whole i) = (front_at f.front i j within).0 in
    let v = verdict_of k w host directory setting known whole f i j was within in
    let u = stored_uid v.verdict (v.is ∙ e) in
    let once : StandsOnce (pairs (w.box v.mailbox).accepted) key u.0 = f.world.answered setting.seat u.0 (record { key = key; mailbox = v.mailbox; verdict = v.verdict }) v.noted u.1 in
    let entry = entry_at (w.box v.mailbox).accepted once.position (key, u.0) once.within once.here in
    let there : Contains (w.box v.mailbox).accepted entry.0 = is_in_contains entry.0 (w.box v.mailbox).accepted entry.1 in
    let of_key : entry.0.0.key ≡ key = ap (λ (p : CopyKey × ℕ). p.0) entry.2 in
    let of_uid : entry.0.1 ≡ u.0 = ap (λ (p : CopyKey × ℕ). p.1) entry.2 in
    let copy = entry_is_copy k w host directory setting known whole f v.mailbox entry.0 there (ap (λ (x : CopyKey). x.seat) of_key) (ap (λ (x : CopyKey). x.serial) of_key) in
    let is = copy_is setting ss entry.0.0 n j copy.0 of_key in
    let mailbox : slice_index_or (submission_at ss n).mailboxes j 0 ≡ v.mailbox = sym (ap (λ (c : Job). c.mailbox) is.2) ∙ copy.1 in
    let names = named_at directory (message_at whole i).recipients (submission_at ss n).mailboxes s.1.names j is.1 in
    let text : (submission_at ss n).text ≡ undated (stored_text s.1.sender known_i.lines) = s.1.text ∙ ap (λ (lines : List (List ℕ)). undated (stored_text s.1.sender lines)) (sym same.lines) in
    record {
      mailbox = v.mailbox;
      named = subst (λ (m : ℕ). Names directory (slice_index_or known_i.recipients j []) m) mailbox
          (subst (λ (lines : List (List ℕ)). Names directory (slice_index_or lines j []) (slice_index_or (submission_at ss n).mailboxes j 0)) (sym same.recipients) names.1);
      sender = s.1.sender;
      from = subst (λ (line : List ℕ). IsSender line s.1.sender) (sym same.mail) s.1.from;
      uid = u.0;
      once = once;
      copy = entry.0.0;
      is = is.2 ∙ ap₂ (λ (m : ℕ) (t : Text). record { key = key; mailbox = m; text = t; flags = no_flags }) mailbox text;
      here = subst (λ (x : ℕ). Contains (w.box v.mailbox).accepted (entry.0.0, x)) of_uid there;
      alone = λ other a c same_key.
          let another = entry_is_copy k w host directory setting known whole f other a c (ap (λ (x : CopyKey). x.seat) same_key) (ap (λ (x : CopyKey). x.serial) same_key) in
          let again = copy_is setting ss a.0 n j another.0 same_key in
          let equal : a.0 ≡ entry.0.0 = again.2 ∙ sym is.2 in
          (sym another.1 ∙ ap (λ (c : Job). c.mailbox) equal ∙ copy.1, equal);
    }

refused_stands_nowhere : (k : Config) (w : World) (host : List ℕ) (directory : Directory) (setting : Setting) (known whole : List Handed) (f : Facts k w host directory setting known whole)
    → (i j : ℕ) → j < length (message_at known i).replies → is_taken (message_at known i) j ≡ false → was_submitted (fate_at f.fates i) ≡ true → StandsNowhere w (copy_key setting (number f i) j)
refused_stands_nowhere k w host directory setting known whole f i j l e was mailbox entry there same =
    let v = verdict_of k w host directory setting known whole f i j was l in
    by v.verdict v.mailbox v.noted (v.is ∙ e)
  where
    by : (verdict : Verdict) (m : ℕ) → Contains (w.heard setting.seat) (record { key = copy_key setting (number f i) j; mailbox = m; verdict = verdict }) → is_stored verdict ≡ false → ⊥
    by (Stored uid) m noted not_stored = false≢true (sym not_stored)
    by (Refused why) m noted not_stored =
        All-contains (λ (a : Job × ℕ). (a.0.key ≡ copy_key setting (number f i) j) → ⊥) (w.box mailbox).accepted entry
        (f.world.refused setting.seat (record { key = copy_key setting (number f i) j; mailbox = m; verdict = Refused why }) why noted refl mailbox) there same

all_in_order : (k : Config) (w : World) (host : List ℕ) (directory : Directory) (setting : Setting) (known whole : List Handed) (f : Facts k w host directory setting known whole)
    → (i j m n : ℕ) (a b : CopyKey) → IsKeyOf setting.seat setting.serial f.fates i j a → IsKeyOf setting.seat setting.serial f.fates m n b → (i < m) ⊎ ((i ≡ m) × (j < n)) → Below a b
all_in_order k w host directory setting known whole f i j m n a b x y o =
    subst (λ (key : CopyKey). Below key b) (sym x.1) (subst (Below (key_at setting.seat setting.serial f.fates i j)) (sym y.1) (by o))
  where
    by : (i < m) ⊎ ((i ≡ m) × (j < n)) → Below (key_at setting.seat setting.serial f.fates i j) (key_at setting.seat setting.serial f.fates m n)
    by (inl l) = inr (refl, inl (f.numbered.rises i m l x.0))
    by (inr (e, l)) = inr (refl, inr (ap (number_of f.fates) e, l))

nothing_else : (k : Config) (w : World) (host : List ℕ) (directory : Directory) (setting : Setting) (known whole : List Handed) (f : Facts k w host directory setting known whole)
    → (mailbox : ℕ) (entry : Job × ℕ) → Contains (w.box mailbox).accepted entry → entry.0.key.seat ≡ setting.seat → entry.0.key.serial ≡ setting.serial
    → IsHandedOver directory setting.seat setting.serial f.fates known whole mailbox entry.0
nothing_else k w host directory setting known whole f mailbox entry there seat serial =
    let ss : List Submission = f.judged ++ f.pending in
    let copy = entry_is_copy k w host directory setting known whole f mailbox entry there seat serial in
    let z : 0 + copy.0.n ≡ copy.0.n = omega arith in
    let key : entry.0.key ≡ copy_key setting copy.0.n copy.0.i = ap (λ (c : Job). c.key) copy.0.is ∙ ap (λ (m : ℕ). copy_key setting m copy.0.i) z in
    let is = copy_is setting ss entry.0 copy.0.n copy.0.i copy.0 key in
    let position = f.numbered.each copy.0.n (subst (λ (xs : List Submission). copy.0.n < length xs) (sym f.submitted_are) copy.0.there) in
    let own : entry.0.key ≡ copy_key setting (number f position.0) copy.0.i = key ∙ ap (λ (m : ℕ). copy_key setting m copy.0.i) (sym position.3) in
    let s = submission_of k w host directory setting known whole f position.0 position.2 in
    let is_here = copy_is setting ss entry.0 (number f position.0) copy.0.i copy.0 own in
    let names = named_at directory (message_at whole position.0).recipients (submission_at ss (number f position.0)).mailboxes s.1.names copy.0.i is_here.1 in
    record {
      i = position.0;
      j = copy.0.i;
      key = (position.2, own);
      within = names.0;
      named = subst (λ (m : ℕ). Names directory (slice_index_or (message_at whole position.0).recipients copy.0.i []) m) (sym (ap (λ (c : Job). c.mailbox) is_here.2) ∙ copy.1) names.1;
      sender = s.1.sender;
      from = s.1.from;
      text = ap (λ (c : Job). c.text) is_here.2 ∙ s.1.text;
      read = by position.0 copy.0.i position.2 own;
    }
  where
    by : (m n : ℕ) → was_submitted (fate_at f.fates m) ≡ true → entry.0.key ≡ copy_key setting (number f m) n
        → (is_taken (message_at known m) n ≡ true) ⊎ (length (message_at known m).replies ≤ n)
    by m n was own = read (cases_lt n (length (message_at known m).replies))
      where
        taken : n < length (message_at known m).replies → (b : Bool) → is_taken (message_at known m) n ≡ b → (is_taken (message_at known m) n ≡ true) ⊎ (length (message_at known m).replies ≤ n)
        taken l true e = inl e
        taken l false e = absurd (refused_stands_nowhere k w host directory setting known whole f m n l e was mailbox entry there own)

        read : (n < length (message_at known m).replies) ⊎ (length (message_at known m).replies ≤ n) → (is_taken (message_at known m) n ≡ true) ⊎ (length (message_at known m).replies ≤ n)
        read (inl l) = taken l (is_taken (message_at known m) n) refl
        read (inr l) = inr l

-- ---- of a connection at its seat

wire-append : (host : List ℕ) (xs ys : List Reply) → wire host (xs ++ ys) ≡ wire host xs ++ wire host ys
wire-append host xs ys = flat_map-append _ xs ys

abbrev facts_of : (k : Config) (w : World) → Kept k w → Headline k w → (g : Terms) (seat : ℕ) (b : Caller) (came told : List ℕ)
    → (h : IsKnown g seat (w.heard seat) (put_by w seat) came told b)
    → (known whole : List Handed) → AreCut known whole → MayForget g.host g.directory known whole h.submitted h.answered
    → Facts k w g.host g.directory (setting_of g seat b.serial) known whole
facts_of k w kept world g seat b came told h known whole front m = record {
  kept = kept;
  world = world;
  fates = m.fates;
  each = m.each;
  numbered = messages_are_numbered g.host g.directory whole m.fates m.each;
  front = front;
  answered = h.answered;
  judged = h.judged;
  pending = b.talk.pending;
  submitted_are = m.submissions_are ∙ h.parts;
  answers_are = m.answers_are;
  from = subst (AreFrom (setting_of g seat b.serial) (length g.directory.homes) 0) h.parts
      (messages_from (setting_of g seat b.serial) g.directory h.taken h.said h.submitted h.answered b.talk.at h.come);
  heard = h.heard_each;
  sent = λ t. subst (λ (ss : List Submission). Every (IsOneOf b.serial (copies_of ss)) (put_by w seat t)) h.parts (h.sent_each t);
  stored = m.stored;
  tells = m.tells;
}

-- what may be concluded of that
abbrev may_of : (k : Config) (w : World) → Headline k w → (g : Terms) (seat serial : ℕ) (sent heard unread unprinted untold : List ℕ) (replies : List Reply) → untold ≡ unread ++ unprinted
    → heard ++ untold ≡ wire g.host (Greeting ∷ replies)
    → Facts k w g.host g.directory (setting_of g seat serial) (handed_over sent heard) (handed_over sent (heard ++ untold)) → MayConclude g.host g.directory w seat serial sent heard unread
may_of k w world g seat serial sent heard unread unprinted untold replies begins said f =
    let setting : Setting = setting_of g seat serial in
    let known : List Handed = handed_over sent heard in
    let whole : List Handed = handed_over sent (heard ++ untold) in
    record {
      replies = replies;
      unprinted = unprinted;
      untold = untold;
      begins = begins;
      said = said;
      fates = f.fates;
      each = f.each;
      taken = λ i j x. ((is_submitted_at k w g.host g.directory setting known whole f i j x, refl), taken_stands k w g.host g.directory setting known whole f i j x);
      refused = λ i j key l x is mailbox entry there same. refused_stands_nowhere k w g.host g.directory setting known whole f i j l x is.0 mailbox entry there (same ∙ is.1);
      in_order = all_in_order k w g.host g.directory setting known whole f;
      stand_in_order = λ mailbox. world.in_order seat mailbox;
      nothing_else = nothing_else k w g.host g.directory setting known whole f;
    }

-- all bytes that were sent, as those that were taken and others
sent_is : (g : Terms) (seat : ℕ) (heard : List Noted) (sent : ℕ → List (Entry Job)) (came told later : List ℕ) (b : Caller) → (h : IsKnown g seat heard sent came told b)
    → h.taken ++ (h.waited ++ later) ≡ came ++ later
sent_is g seat heard sent came told later b h = sym (ap (λ (l : List ℕ). l ++ later) h.came_is ∙ append_assoc h.taken h.waited later)

-- and all that was said, as what was printed and what wasn't
said_is : (g : Terms) (seat : ℕ) (heard : List Noted) (sent : ℕ → List (Entry Job)) (came told : List ℕ) (b : Caller) → (h : IsKnown g seat heard sent came told b)
    → told ++ wire g.host h.unprinted ≡ wire g.host (Greeting ∷ h.said)
said_is g seat heard sent came told b h =
    ap (λ (l : List ℕ). l ++ wire g.host h.unprinted) h.told_is ∙ sym (wire-append g.host h.printed h.unprinted) ∙ ap (wire g.host) (sym h.said_is)

-- it may conclude that, and these bytes weren't printed
pub record Concludes (host : List ℕ) (directory : Directory) (w : World) (seat serial : ℕ) (sent told unread unprinted : List ℕ) : Type 0 where
  pub may : MayConclude host directory w seat serial sent told unread
  pub rest : may.unprinted ≡ unprinted

pub connection_concludes : (k : Config) (w : World) → Kept k w → Headline k w → (g : Terms) → IsInLine g.host → (seat : ℕ) (b : Caller) (came told : List ℕ)
    → (h : IsKnown g seat (w.heard seat) (put_by w seat) came told b)
    → (later heard unheard : List ℕ) → heard ++ unheard ≡ told → Concludes g.host g.directory w seat b.serial (came ++ later) heard unheard (wire g.host h.unprinted)
connection_concludes k w kept world g in_line seat b came told h later heard unheard e =
    let setting : Setting = setting_of g seat b.serial in
    let unprinted : List ℕ = wire g.host h.unprinted in
    let untold : List ℕ = unheard ++ unprinted in
    let sent : List ℕ = h.taken ++ (h.waited ++ later) in
    let known : List Handed = handed_over sent heard in
    let whole : List Handed = handed_over sent (heard ++ untold) in
    let said : heard ++ untold ≡ wire g.host (Greeting ∷ h.said) =
    sym (append_assoc heard unheard (wire g.host h.unprinted)) ∙ ap (λ (l : List ℕ). l ++ wire g.host h.unprinted) e ∙ said_is g seat (w.heard seat) (put_by w seat) came told b h in
    let m = concludes g.host setting g.directory h.taken h.said h.submitted h.answered b.talk.at in_line h.come (h.waited ++ later) heard untold said in
    let f : Facts k w g.host g.directory setting known whole = facts_of k w kept world g seat b came told h known whole (fronts_are_cut sent heard untold) m in
    subst (λ (x : List ℕ). Concludes g.host g.directory w seat b.serial x heard unheard unprinted) (sent_is g seat (w.heard seat) (put_by w seat) came told later b h)
    (record { may = may_of k w world g seat b.serial sent heard unheard unprinted untold h.said refl said f; rest = refl })

-- ---- where nothing more is to be said

heard_many : (heard : List Noted) (ss : List Submission) (answered : List (List Verdict)) → AreHeard heard ss answered → length ss ≡ length answered
heard_many heard [] [] h = refl
heard_many heard [] (vs ∷ answered) h = absurd h
heard_many heard (s ∷ ss) [] h = absurd h
heard_many heard (s ∷ ss) (vs ∷ answered) h = ap suc (heard_many heard ss answered h.1)

-- each copy that stands has its reply read
each_is_read : (k : Config) (w : World) (host : List ℕ) (directory : Directory) (setting : Setting) (known whole : List Handed) (f : Facts k w host directory setting known whole) → known ≡ whole
    → f.pending ≡ []
    → (mailbox : ℕ) (entry : Job × ℕ) → Contains (w.box mailbox).accepted entry → entry.0.key.seat ≡ setting.seat → entry.0.key.serial ≡ setting.serial
    → (i : ℕ) × (j : ℕ) × IsKeyOf setting.seat setting.serial f.fates i j entry.0.key × (is_taken (message_at known i) j ≡ true)
each_is_read k w host directory setting known whole f all none mailbox entry there at of = by o.read
  where
    o : IsHandedOver directory setting.seat setting.serial f.fates known whole mailbox entry.0
    o = nothing_else k w host directory setting known whole f mailbox entry there at of

    many : length (all_told f.fates) ≡ length (all_submitted f.fates)
    many =
        let a = ap length f.answers_are in
        let b = heard_many (w.heard setting.seat) f.judged f.answered f.heard in
        let c = ap length (f.submitted_are ∙ ap (λ (ss : List Submission). f.judged ++ ss) none ∙ append-nil f.judged) in
        omega (arith, a, b, c)

    within : o.j < length (message_at known o.i).replies
    within =
        let a = all_replied host directory f.each many o.i o.key.0 in
        let b = ap (λ (ms : List Handed). length (message_at ms o.i).replies) all in
        let l = o.within in
        omega (arith, a, b, l)

    by : (is_taken (message_at known o.i) o.j ≡ true) ⊎ (length (message_at known o.i).replies ≤ o.j)
        → (i : ℕ) × (j : ℕ) × IsKeyOf setting.seat setting.serial f.fates i j entry.0.key × (is_taken (message_at known i) j ≡ true)
    by (inl e) = (o.i, o.j, o.key, e)
    by (inr l) = absurd (omega (arith, l, within))

pub connection_knows_all : (k : Config) (w : World) → Kept k w → Headline k w → (g : Terms) → IsInLine g.host → (seat : ℕ) (b : Caller) (came told : List ℕ)
    → IsKnown g seat (w.heard seat) (put_by w seat) came told b → b.gone ≡ false → b.talk.pending ≡ [] → b.talk.unsaid ≡ []
    → (later : List ℕ) → KnowsAll g.host g.directory w seat b.serial (came ++ later) told
connection_knows_all k w kept world g in_line seat b came told h there none silent later =
    let setting : Setting = setting_of g seat b.serial in
    let sent : List ℕ = h.taken ++ (h.waited ++ later) in
    let known : List Handed = handed_over sent told in
    let whole : List Handed = handed_over sent (told ++ []) in
    let said : told ++ [] ≡ wire g.host (Greeting ∷ h.said) =
    ap (λ (l : List ℕ). told ++ l) (sym (sym (h.says there) ∙ silent)) ∙ said_is g seat (w.heard seat) (put_by w seat) came told b h in
    let m = concludes g.host setting g.directory h.taken h.said h.submitted h.answered b.talk.at in_line h.come (h.waited ++ later) told [] said in
    let f : Facts k w g.host g.directory setting known whole = facts_of k w kept world g seat b came told h known whole (fronts_are_cut sent told []) m in
    let all : KnowsAll g.host g.directory w seat b.serial sent told = record {
      may = may_of k w world g seat b.serial sent told [] [] [] h.said refl said f;
      none_untold = refl;
      read = each_is_read k w g.host g.directory setting known whole f (ap (handed_over sent) (sym (append-nil told))) none;
    } in
    subst (λ (x : List ℕ). KnowsAll g.host g.directory w seat b.serial x told) (sent_is g seat (w.heard seat) (put_by w seat) came told later b h) all
