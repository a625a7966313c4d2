-- The copies of the messages that a connection submitted, by the number of the message and of the recipient, and the verdicts on them.
use Rattle.std.proofs.Common.{◌≡◌, ℕ, zero, suc, ◌+◌, ◌<◌, Bool, false, List, [], ◌∷◌, ◌++◌, length, map, refl, ap, sym, subst, ◌∙◌, arith}
use Rattle.std.specs.Prelude.{Contains, slice_index_or}
use Rattle.change_ring.specs.Log.{no_flags}
use Rattle.delivery_token.specs.Text.{Text}
use Rattle.delivery_token.specs.declared.CopyKey.{CopyKey}
use Rattle.delivery_token.specs.declared.Job.{Job}
use Rattle.delivery_token.specs.declared.Verdict.{Verdict}
use Rattle.delivery_token.specs.declared.log.Noted.{Noted}
use Rattle.envelope.specs.Names.{Directory}
use Rattle.delivery_token.specs.Copies.{copies, HeardFor}
use Rattle.lmtp_machine.specs.Dialogue.{Setting, Submission, keys_from}
use Rattle.house_peers.specs.Caller.{copies_of}
use Rattle.laws_relay.specs.Fates.{AreNamed}
use Rattle.laws_relay.specs.Concludes.{Names}
use Rattle.laws_relay.specs.ReplyLaws.{is_stored}
use Rattle.laws_relay.specs.Numbers.{no_submission}
use Rattle.world.proofs.Base.{Every, every_append, every_weaker}
use Rattle.laws_relay.proofs.Seated.{AreFrom, AreHeard}

-- ---- copies

-- the key of this connection's copy
abbrev pub copy_key : Setting → ℕ → ℕ → CopyKey
copy_key setting n i = record { seat = setting.seat; serial = setting.serial; message = n; recipient = i }

-- the copy for the i-th recipient of a message that has this number
abbrev pub copy_at : Setting → ℕ → Submission → ℕ → Job
copy_at setting n s i = record { key = copy_key setting n i; mailbox = slice_index_or s.mailboxes i 0; text = s.text; flags = no_flags }

-- a copy of one of these messages
pub record IsCopy (setting : Setting) (first : ℕ) (ss : List Submission) (job : Job) : Type 0 where
  pub n : ℕ
  pub i : ℕ
  pub there : n < length ss
  pub within : i < length (slice_index_or ss n no_submission).mailboxes
  pub is : job ≡ copy_at setting (first + n) (slice_index_or ss n no_submission) i

-- of one message, from this recipient on
abbrev IsFrom : Setting → ℕ → ℕ → List ℕ → Text → Job → Type 0
IsFrom setting n first mailboxes text job = (i : ℕ) × (i < length mailboxes) ×
    (job ≡ record { key = copy_key setting n (first + i); mailbox = slice_index_or mailboxes i 0; text = text; flags = no_flags })

each_from : (setting : Setting) (n first : ℕ) (mailboxes : List ℕ) (text : Text) → Every (IsFrom setting n first mailboxes text) (copies (keys_from setting n first mailboxes) mailboxes text no_flags)
each_from setting n first [] text = tt
each_from setting n first (m ∷ ms) text = (
  (0, omega arith, (let e : first ≡ first + 0 = omega arith in ap (λ (x : ℕ). record { key = copy_key setting n x; mailbox = m; text = text; flags = no_flags }) e)),
  every_weaker (IsFrom setting n (first + 1) ms text) (IsFrom setting n first (m ∷ ms) text)
      (λ job h. (
        suc h.0,
        (let l : h.0 < length ms = h.1 in omega (arith, l)),
        h.2 ∙ (let e : (first + 1) + h.0 ≡ first + suc h.0 = omega arith in ap
            (λ (x : ℕ). record { key = copy_key setting n x; mailbox = slice_index_or ms h.0 0; text = text; flags = no_flags }) e),
      ))
      (copies (keys_from setting n (first + 1) ms) ms text no_flags) (each_from setting n (first + 1) ms text),
)

pub each_is_copy : (setting : Setting) (homes first : ℕ) (ss : List Submission) → AreFrom setting homes first ss → Every (IsCopy setting first ss) (copies_of ss)
each_is_copy setting homes first [] h = tt
each_is_copy setting homes first (s ∷ ss) h =
    every_append (IsCopy setting first (s ∷ ss)) (copies s.keys s.mailboxes s.text no_flags) (copies_of ss)
    (subst (λ (keys : List CopyKey). Every (IsCopy setting first (s ∷ ss)) (copies keys s.mailboxes s.text no_flags)) (sym h.0.keys)
    (every_weaker (IsFrom setting first 0 s.mailboxes s.text) (IsCopy setting first (s ∷ ss))
    (λ job x. record {
      n = 0;
      i = x.0;
      there = omega arith;
      within = x.1;
      is = x.2 ∙ (let e : first ≡ first + 0 = omega arith in let f : 0 + x.0 ≡ x.0 = omega arith in
          ap (λ (i : ℕ). record { key = copy_key setting first i; mailbox = slice_index_or s.mailboxes x.0 0; text = s.text; flags = no_flags }) f
          ∙ ap (λ (m : ℕ). copy_at setting m s x.0) e);
    })
    (copies (keys_from setting first 0 s.mailboxes) s.mailboxes s.text no_flags) (each_from setting first 0 s.mailboxes s.text)))
    (every_weaker (IsCopy setting (first + 1) ss) (IsCopy setting first (s ∷ ss))
    (λ job x. record {
      n = suc x.n;
      i = x.i;
      there = (let l : x.n < length ss = x.there in omega (arith, l));
      within = x.within;
      is = x.is ∙ (let e : (first + 1) + x.n ≡ first + suc x.n = omega arith in ap (λ (m : ℕ). copy_at setting m (slice_index_or ss x.n no_submission) x.i) e);
    })
    (copies_of ss) (each_is_copy setting homes (first + 1) ss h.1))

-- ---- verdicts

-- the verdict that was heard for a key
pub record HeardOf (heard : List Noted) (key : CopyKey) (stored : Bool) : Type 0 where
  pub mailbox : ℕ
  pub verdict : Verdict
  pub noted : Contains heard (record { key = key; mailbox = mailbox; verdict = verdict })
  pub is : is_stored verdict ≡ stored

heard_of : (heard : List Noted) (setting : Setting) (n first : ℕ) (mailboxes : List ℕ) (vs : List Verdict) → HeardFor heard (keys_from setting n first mailboxes) vs → (j : ℕ) → j < length vs
    → HeardOf heard (copy_key setting n (first + j)) (slice_index_or (map is_stored vs) j false)
heard_of heard setting n first [] [] h j l = absurd (omega (arith, l))
heard_of heard setting n first [] (v ∷ vs) h j l = absurd h
heard_of heard setting n first (m ∷ ms) [] h j l = absurd h
heard_of heard setting n first (m ∷ ms) (v ∷ vs) h zero l =
    let e : first ≡ first + 0 = omega arith in
    subst (λ (x : ℕ). HeardOf heard (copy_key setting n x) (is_stored v)) e (record { mailbox = h.0.0; verdict = v; noted = h.0.1; is = refl })
heard_of heard setting n first (m ∷ ms) (v ∷ vs) h (suc j) l =
    let e : (first + 1) + j ≡ first + suc j = omega arith in
    subst (λ (x : ℕ). HeardOf heard (copy_key setting n x) (slice_index_or (map is_stored vs) j false)) e (heard_of heard setting n (first + 1) ms vs h.1 j (omega (arith, l)))

-- of the messages that were judged, which are the first of those that were submitted
pub heard_at : (heard : List Noted) (setting : Setting) (homes first : ℕ) (judged pending : List Submission) (answered : List (List Verdict)) → AreFrom setting homes first (judged ++ pending)
    → AreHeard heard judged answered
    → (n j : ℕ) → j < length (slice_index_or answered n []) → HeardOf heard (copy_key setting (first + n) j) (slice_index_or (map is_stored (slice_index_or answered n [])) j false)
heard_at heard setting homes first [] pending [] f h n j l = absurd (omega (arith, l))
heard_at heard setting homes first [] pending (vs ∷ answered) f h n j l = absurd h
heard_at heard setting homes first (s ∷ ss) pending [] f h n j l = absurd h
heard_at heard setting homes first (s ∷ ss) pending (vs ∷ answered) f h zero j l =
    let each : HeardFor heard (keys_from setting first 0 s.mailboxes) vs = subst (λ (keys : List CopyKey). HeardFor heard keys vs) f.0.keys h.0 in
    let e : first ≡ first + 0 = omega arith in
    let g : 0 + j ≡ j = omega arith in
    subst (λ (x : ℕ). HeardOf heard (copy_key setting x j) (slice_index_or (map is_stored vs) j false)) e
    (subst (λ (x : ℕ). HeardOf heard (copy_key setting first x) (slice_index_or (map is_stored vs) j false)) g (heard_of heard setting first 0 s.mailboxes vs each j l))
heard_at heard setting homes first (s ∷ ss) pending (vs ∷ answered) f h (suc n) j l =
    let e : (first + 1) + n ≡ first + suc n = omega arith in
    subst (λ (x : ℕ). HeardOf heard (copy_key setting x j) (slice_index_or (map is_stored (slice_index_or answered n [])) j false)) e
    (heard_at heard setting homes (first + 1) ss pending answered f.1 h.1 n j l)

-- ---- names

pub named_at : (directory : Directory) (lines : List (List ℕ)) (mailboxes : List ℕ) → AreNamed directory lines mailboxes → (j : ℕ) → j < length mailboxes
    → (j < length lines) × Names directory (slice_index_or lines j []) (slice_index_or mailboxes j 0)
named_at directory [] [] h j l = absurd (omega (arith, l))
named_at directory [] (m ∷ ms) h j l = absurd h
named_at directory (line ∷ lines) [] h j l = absurd h
named_at directory (line ∷ lines) (m ∷ ms) h zero l = (omega arith, h.0)
named_at directory (line ∷ lines) (m ∷ ms) h (suc j) l =
    let rest = named_at directory lines ms h.1 j (omega (arith, l)) in
    let there : j < length lines = rest.0 in
    (omega (arith, there), rest.1)
