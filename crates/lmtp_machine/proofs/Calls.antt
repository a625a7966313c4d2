-- One call after others.
use Rattle.std.proofs.Common.{◌≡◌, inl, inr, ℕ, zero, suc, ◌+◌, ◌-◌, ◌≤◌, List, [], ◌∷◌, ◌++◌, length, take, drop, refl, ap, sym, subst, ◌∙◌, append_assoc, arith, length-drop}
use Rattle.std.proofs.lemmas.List.{append-nil}
use Rattle.line_io.specs.Wire.{IsUncut, crlf}
use Rattle.envelope.specs.Names.{Directory}
use Rattle.lmtp_machine.specs.declared.reply.Reply.{Reply}
use Rattle.lmtp_machine.specs.declared.connection.Fed.{Fed}
use Rattle.lmtp_machine.specs.declared.connection.What.{What}
use Rattle.lmtp_machine.specs.declared.connection.What.TheVariants.{More, Submit, Quit}
use Rattle.lmtp_machine.specs.Dialogue.{wire, reply_text, Setting, Submission, Turn, turn}
use Rattle.lmtp_machine.specs.Conversation.{Conversation, Leads, ◌⨾◌, none}
use Rattle.lmtp_machine.specs.Calls.{Follows, Tells}
use Rattle.lmtp_machine.specs.inner.Calls.{Taken}
use Rattle.lmtp_machine.proofs.Pieces.{any_pieces}

pub wire-append : (host : List ℕ) (a b : List Reply) → wire host (a ++ b) ≡ wire host a ++ wire host b
wire-append host [] b = refl
wire-append host (r ∷ rs) b = ap (λ (l : List ℕ). (reply_text host r ++ crlf) ++ l) (wire-append host rs b) ∙ sym (append_assoc (reply_text host r ++ crlf) (wire host rs) (wire host b))

take-none : (m : ℕ) → take {A = ℕ} m [] ≡ []
take-none zero = refl
take-none (suc m) = refl

take-then : (n m : ℕ) (xs : List ℕ) → take n xs ++ take m (drop n xs) ≡ take (n + m) xs
take-then zero m xs = let k : m ≡ zero + m = omega arith in ap (λ (j : ℕ). take j xs) k
take-then (suc n) m [] = take-none m ∙ sym (take-none (suc n + m))
take-then (suc n) m (x ∷ xs) =
    let k : suc (n + m) ≡ suc n + m = omega arith in
    ap (λ (l : List ℕ). x ∷ l) (take-then n m xs) ∙ ap (λ (j : ℕ). take j (x ∷ xs)) k

take-enough : (n : ℕ) (xs : List ℕ) → length xs ≤ n → take n xs ≡ xs
take-enough zero [] h = refl
take-enough (suc n) [] h = refl
take-enough zero (x ∷ xs) h = absurd (omega arith)
take-enough (suc n) (x ∷ xs) h = ap (λ (l : List ℕ). x ∷ l) (take-enough n xs (omega arith))

pub the_rest : (u : ℕ) (piece : List ℕ) → take (length piece - u) (drop u piece) ≡ drop u piece
the_rest u piece = take-enough (length piece - u) (drop u piece) (omega (arith, length-drop u piece))

-- before any byte
pub nothing_taken : (S : Conversation → Type 0) (setting : Setting) (host : List ℕ) (directory : Directory) (c : Conversation) (old : List ℕ) (what : What) (pending : List Submission)
    → IsUncut c.unfinished → S c → pending ≡ [] → Tells what (turn c.standing.phase c.standing.submitted []) → Taken S setting host directory c [] old old what pending
nothing_taken S setting host directory c old what pending p s e tells = record {
  turn = turn c.standing.phase c.standing.submitted [];
  after = c;
  leads = record { lines = []; events = []; cut = record { whole = append-nil c.unfinished; each = λ k d h. absurd (omega arith); open_end = p }; heard = none; may = tt; turns = refl; stands = refl; behind = inr (inl refl) };
  stands = s;
  said = sym (append-nil old);
  tells = tells;
  submits = e;
}

-- what a call tells of its turn, after a turn that submitted nothing
tells_after : (w : What) (t u : Turn) → t.submissions ≡ [] → Tells w u → Tells w (t ⨾ u)
tells_after More t u e h = (ap (λ (l : List Submission). l ++ u.submissions) e ∙ h.0, h.1)
tells_after Submit t u e h = record { submission = h.submission; only = ap (λ (l : List Submission). l ++ u.submissions) e ∙ h.only; waits = h.waits }
tells_after Quit t u e h = (ap (λ (l : List Submission). l ++ u.submissions) e ∙ h.0, h.1)

-- a call more
pub taken_more : (S T : Conversation → Type 0) (setting set : Setting) (host name : List ℕ) (directory : Directory) (c : Conversation) (piece part old mid new : List ℕ) (u : ℕ) (first : What) (fed : Fed) (before pending : List Submission)
    → set ≡ setting → name ≡ host → before ≡ [] → part ≡ drop u piece
    → Taken S setting host directory c (take u piece) old mid first before
    → ((d : Conversation) → S d → Follows T set name directory d part fed mid new pending)
    → Taken T setting host directory c (take (u + fed.used) piece) old new fed.what pending
taken_more S T setting set host name directory c piece part old mid new u first fed before pending es eh eb ep t f =
    let k = f t.after t.stands in
    let leads : Leads setting directory t.after (take fed.used (drop u piece)) k.turn k.after = subst (λ (l : List ℕ). Leads setting directory t.after (take fed.used l) k.turn k.after) ep (subst (λ (x : Setting). Leads x directory t.after (take fed.used part) k.turn k.after) es k.leads) in
    record {
      turn = t.turn ⨾ k.turn;
      after = k.after;
      leads = subst (λ (l : List ℕ). Leads setting directory c l (t.turn ⨾ k.turn) k.after) (take-then u fed.used piece)
          (any_pieces setting directory c t.after k.after (take u piece) (take fed.used (drop u piece)) t.turn k.turn t.leads leads);
      stands = k.stands;
      said = k.said ∙ ap (λ (h : List ℕ). mid ++ wire h k.turn.replies) eh ∙ ap (λ (l : List ℕ). l ++ wire host k.turn.replies) t.said
          ∙ append_assoc old (wire host t.turn.replies) (wire host k.turn.replies) ∙ ap (λ (l : List ℕ). old ++ l) (sym (wire-append host t.turn.replies k.turn.replies));
      tells = tells_after fed.what t.turn k.turn (sym t.submits ∙ eb) k.tells;
      submits = k.submits ∙ ap (λ (l : List Submission). l ++ k.turn.submissions) (sym eb ∙ t.submits);
    }
