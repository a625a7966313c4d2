-- A copy on which a verdict was told: of which message it is, and of which of its recipients.
use Rattle.std.proofs.Common.{◌≡◌, inl, ℕ, zero, suc, List, [], ◌∷◌, ◌++◌, length, zip, Some, refl, ap, sym, subst, ◌∙◌, append-nil, Contains}
use Rattle.std.specs.Prelude.{All, slice_get}
use Rattle.std.proofs.lemmas.List.Elements.{All-cons, All-head, All-nil, All-tail}
use Rattle.change_ring.specs.Log.{no_flags}
use Rattle.delivery_token.specs.Text.{Text}
use Rattle.delivery_token.specs.declared.CopyKey.{CopyKey}
use Rattle.delivery_token.specs.declared.Job.{Job}
use Rattle.delivery_token.specs.declared.Verdict.{Verdict}
use Rattle.envelope.specs.Names.{Directory}
use Rattle.lane_work.specs.Account.{copies, copies_of, told}
use Rattle.lane_work.specs.Talk.{HasTaken, Judged}
use Rattle.lmtp_machine.specs.declared.reply.Reply.{Reply}
use Rattle.lmtp_machine.specs.Conversation.{Conversation}
use Rattle.lmtp_machine.specs.Dialogue.{Setting}
use Rattle.lmtp_machine.specs.Kept.{IsMessage}
use Rattle.running_house.specs.Laws.{TalkIsOfLines}
use Rattle.running_house.specs.Woven.{IsWholeDialogue}
use Rattle.laws_relay.specs.Concludes.{key_at}
use Rattle.laws_relay.proofs.Ledger.{copy_key_at, whole_message}
use Rattle.laws_relay.proofs.Positions.{contains_at, none_at, position_from, same_some}

-- ---- among all that was told of several messages

pub all_left : {A : Type 0} (P : A → Type 0) (xs ys : List A) → All P (xs ++ ys) → All P xs
all_left P [] ys all = All-nil P
all_left P (x ∷ xs) ys all = All-cons P x xs (All-head P x (xs ++ ys) all) (all_left P xs ys (All-tail P x (xs ++ ys) all))

pub all_right : {A : Type 0} (P : A → Type 0) (xs ys : List A) → All P (xs ++ ys) → All P ys
all_right P [] ys all = all
all_right P (x ∷ xs) ys all = all_right P xs ys (All-tail P x (xs ++ ys) all)

-- the copies of one message, each with its verdict
abbrev pub told_of : Judged → List (Job × Verdict)
told_of j = zip (copies_of j.message) j.verdicts

pub of_message : (P : Job × Verdict → Type 0) (judged : List Judged) (n : ℕ) (j : Judged) → slice_get judged n ≡ Some j → All P (told judged) → All P (told_of j)
of_message P [] n j there all = absurd (none_at there)
of_message P (x ∷ xs) zero j there all = subst (λ (y : Judged). All P (told_of y)) (same_some there) (all_left P (told_of x) (told xs) all)
of_message P (x ∷ xs) (suc n) j there all = of_message P xs n j there (all_right P (told_of x) (told xs) all)

pub of_copy : (P : Job × Verdict → Type 0) (keys : List CopyKey) (mailboxes : List ℕ) (text : Text) (verdicts : List Verdict) (i : ℕ) (key : CopyKey) (mailbox : ℕ) (verdict : Verdict)
    → slice_get keys i ≡ Some key → slice_get mailboxes i ≡ Some mailbox → slice_get verdicts i ≡ Some verdict → All P (zip (copies keys mailboxes text) verdicts)
    → P ((let r : Job = record { key = key; mailbox = mailbox; text = text; flags = no_flags } in r), verdict)
of_copy P [] mailboxes text verdicts i key mailbox verdict ek em ev all = absurd (none_at ek)
of_copy P (k ∷ ks) [] text verdicts i key mailbox verdict ek em ev all = absurd (none_at em)
of_copy P (k ∷ ks) (m ∷ ms) text [] i key mailbox verdict ek em ev all = absurd (none_at ev)
of_copy P (k ∷ ks) (m ∷ ms) text (v ∷ vs) zero key mailbox verdict ek em ev all =
    let here = All-head P ((let r : Job = record { key = k; mailbox = m; text = text; flags = no_flags } in r), v) (zip (copies ks ms text) vs) all in
    subst (λ (a : CopyKey). P ((let r : Job = record { key = a; mailbox = mailbox; text = text; flags = no_flags } in r), verdict)) (same_some ek)
    (subst (λ (b : ℕ). P ((let r : Job = record { key = k; mailbox = b; text = text; flags = no_flags } in r), verdict)) (same_some em)
    (subst (λ (w : Verdict). P ((let r : Job = record { key = k; mailbox = m; text = text; flags = no_flags } in r), w)) (same_some ev) here))
of_copy P (k ∷ ks) (m ∷ ms) text (v ∷ vs) (suc i) key mailbox verdict ek em ev all =
    of_copy P ks ms text vs i key mailbox verdict ek em ev (All-tail P ((let r : Job = record { key = k; mailbox = m; text = text; flags = no_flags } in r), v) (zip (copies ks ms text) vs) all)

-- ---- the recipient of a copy

-- what stands at the copy's position in the lists of its message
record IsAt (keys : List CopyKey) (mailboxes : List ℕ) (text : Text) (verdicts : List Verdict) (copy : Job) (verdict : Verdict) : Type 0 where
  i : ℕ
  key : slice_get keys i ≡ Some copy.key
  mailbox : slice_get mailboxes i ≡ Some copy.mailbox
  same_text : copy.text ≡ text
  judged_so : slice_get verdicts i ≡ Some verdict

at_recipient : (keys : List CopyKey) (mailboxes : List ℕ) (text : Text) (verdicts : List Verdict) (p : ℕ) (one : Job × Verdict) → slice_get (zip (copies keys mailboxes text) verdicts) p ≡ Some one
    → IsAt keys mailboxes text verdicts one.0 one.1
at_recipient [] mailboxes text verdicts p one e = absurd (none_at e)
at_recipient (k ∷ ks) [] text verdicts p one e = absurd (none_at e)
at_recipient (k ∷ ks) (m ∷ ms) text [] p one e = absurd (none_at e)
at_recipient (k ∷ ks) (m ∷ ms) text (v ∷ vs) zero one e =
    let first : Job = record { key = k; mailbox = m; text = text; flags = no_flags } in
    let same : ◌≡◌ {A = Job × Verdict} (first, v) one = same_some e in
    record {
      i = 0;
      key = ap (λ (x : Job × Verdict). Some x.0.key) same;
      mailbox = ap (λ (x : Job × Verdict). Some x.0.mailbox) same;
      same_text = sym (ap (λ (x : Job × Verdict). x.0.text) same);
      judged_so = ap (λ (x : Job × Verdict). Some x.1) same;
    }
at_recipient (k ∷ ks) (m ∷ ms) text (v ∷ vs) (suc p) one e =
    let r = at_recipient ks ms text vs p one e in
    record { i = suc r.i; key = r.key; mailbox = r.mailbox; same_text = r.same_text; judged_so = r.judged_so }

-- The copy is of the message and of the recipient that its key names, and that was the verdict.
pub record IsToldOf (seat serial : ℕ) (judged : List Judged) (copy : Job) (verdict : Verdict) : Type 0 where
  pub own : copy.key.seat ≡ seat
  pub of_serial : copy.key.serial ≡ serial
  pub one : Judged
  pub there : slice_get judged copy.key.message ≡ Some one
  pub mailbox : slice_get one.message.mailboxes copy.key.recipient ≡ Some copy.mailbox
  pub text : copy.text ≡ one.message.text
  pub judged_so : slice_get one.verdicts copy.key.recipient ≡ Some verdict

told_at : (seat serial : ℕ) (judged : List Judged) (copy : Job) (verdict : Verdict) (n i : ℕ) (j : Judged) → copy.key ≡ key_at seat serial n i → slice_get judged n ≡ Some j
    → slice_get j.message.mailboxes i ≡ Some copy.mailbox → copy.text ≡ j.message.text → slice_get j.verdicts i ≡ Some verdict → IsToldOf seat serial judged copy verdict
told_at seat serial judged copy verdict n i j key there mailbox text judged_so =
    let recipient : copy.key.recipient ≡ i = ap (λ (k : CopyKey). k.recipient) key in
    record {
      own = ap (λ (k : CopyKey). k.seat) key;
      of_serial = ap (λ (k : CopyKey). k.serial) key;
      one = j;
      there = ap (λ (k : CopyKey). slice_get judged k.message) key ∙ there;
      mailbox = ap (λ (x : ℕ). slice_get j.message.mailboxes x) recipient ∙ mailbox;
      text = text;
      judged_so = ap (λ (x : ℕ). slice_get j.verdicts x) recipient ∙ judged_so;
    }

pub told_copy : (setting : Setting) (homes : ℕ) (judged : List Judged) → ((n : ℕ) (j : Judged) → slice_get judged n ≡ Some j → IsMessage setting homes n j.message)
    → (copy : Job) (verdict : Verdict) → Contains (told judged) (copy, verdict) → IsToldOf setting.seat setting.serial judged copy verdict
told_copy setting homes judged are copy verdict has =
    let at = contains_at (told judged) (copy, verdict) has in
    let p = position_from told_of judged at.0 (copy, verdict) at.1 in
    let r = at_recipient p.x.message.keys p.x.message.mailboxes p.x.message.text p.x.verdicts p.i (copy, verdict) p.within in
    let key : copy.key ≡ key_at setting.seat setting.serial p.k r.i = same_some (sym r.key ∙ copy_key_at setting homes p.k r.i copy.mailbox p.x (are p.k p.x p.one) r.mailbox) in
    told_at setting.seat setting.serial judged copy verdict p.k r.i p.x key p.one r.mailbox r.same_text r.judged_so

-- ---- a connection, as far as it has come

pub taken_dialogue : TalkIsOfLines → (setting : Setting) (directory : Directory) (bytes : List ℕ) (said : List Reply) (judged : List Judged) (at : Conversation)
    → HasTaken setting directory bytes said judged at → IsWholeDialogue setting directory bytes said judged
taken_dialogue lines setting directory bytes said judged at talk =
    lines setting directory bytes said judged (record { taken = bytes; left = []; last = at; whole = sym (append-nil bytes); talk = talk; ended = inl refl })

-- each copy of which it told has its seat and its serial
pub taken_copy : TalkIsOfLines → (setting : Setting) (directory : Directory) (bytes : List ℕ) (said : List Reply) (judged : List Judged) (at : Conversation)
    → HasTaken setting directory bytes said judged at → (copy : Job) (verdict : Verdict) → Contains (told judged) (copy, verdict) → IsToldOf setting.seat setting.serial judged copy verdict
taken_copy lines setting directory bytes said judged at talk copy verdict has =
    told_copy setting (length directory.homes) judged (whole_message setting directory bytes said judged (taken_dialogue lines setting directory bytes said judged at talk)) copy verdict has
