-- The lines that end an answer tell a client nothing of messages.
use Rattle.std.proofs.Common.{◌≡◌, ℕ, true, false, ◌==◌, List, [], ◌∷◌, ◌++◌, ap, ◌∙◌, sym, refl, append_assoc}
use Rattle.std.specs.Prelude.{reverse, codes, Some}
use Rattle.std.specs.List.{list_all}
use Rattle.std.proofs.lemmas.List.Folds.{list_all-append}
use Rattle.mailbox.specs.declared.clients.MailFault.TheVariants.{Stranger, Lapped, Spent, NoMemory}
use Rattle.imap_session.specs.declared.standing.Profile.TheVariants.{Standard, Compatible}
use Rattle.imap_session.specs.Exchange.{bye, tagged}
use Rattle.laws_client.specs.Client.{Messages, knowing, reads, literal_of}
use Rattle.laws_client.specs.Beliefs.{Leaves, TellsNothing}
use Rattle.laws_client.specs.ListTurns.{is_inner, IsPlain, IsTag}
use Rattle.laws_client.specs.ListLaws.{ByeTellsNothing, GreetingTellsNothing, RefusalTellsNothing, TaggedTellsNothing}
use Rattle.laws_client.proofs.Reading.{told}
use Rattle.laws_client.proofs.Bytes.{whole_line}
use Rattle.laws_client.proofs.LinesRead.{not_a_count}
use Rattle.laws_client.proofs.Literals.{reads_other}
use Rattle.laws_client.proofs.Turns.{Refusals}
use Rattle.imap_session.specs.declared.texts.ResponseText.TheVariants as texts
use Rattle.imap_session.specs.Texts.{response_text}
use Rattle.laws_client.proofs.TextRows.{text_plain}

-- what tells nothing leaves a client as right as it was
pub leaves : (view text : List ℕ) → TellsNothing text → Leaves view text
leaves view text nothing list right = record { after = list; reads = nothing (Some list); each = right }

tagged_read : (b : ℕ) (bs front : List ℕ) (c : ℕ) → (b == 42) ≡ false → list_all is_inner (b ∷ bs) ≡ true → (c == 125) ≡ false → list_all is_inner (front ++ c ∷ []) ≡ true
    → TellsNothing (tagged (b ∷ bs) (front ++ c ∷ []))
tagged_read b bs front c star inner other plain messages =
    let t : List ℕ = (bs ++ 32 ∷ []) ++ (front ++ c ∷ []) in
    reads_other messages b t star
    (list_all-append is_inner ((b ∷ bs) ++ 32 ∷ []) (front ++ c ∷ []) ∙ rw (list_all-append is_inner (b ∷ bs) (32 ∷ []), inner, plain) refl)
    (ap (λ (l : List ℕ). literal_of (reverse l)) (sym (append_assoc ((b ∷ bs) ++ 32 ∷ []) front (c ∷ []))) ∙ not_a_count (((b ∷ bs) ++ 32 ∷ []) ++ front) c other)

pub tagged_tells_nothing : TaggedTellsNothing
tagged_tells_nothing tag text t plain messages =
    ap (λ (g : List ℕ). reads (knowing messages) (tagged g text)) t.is
    ∙ ap (λ (l : List ℕ). reads (knowing messages) (tagged (t.first ∷ t.others) l)) plain.is
    ∙ tagged_read t.first t.others plain.front plain.last t.no_star t.inner plain.no_count plain.inner messages

bye_told : (rest : List ℕ) (messages : Messages) → told (codes "* BYE " ++ rest) messages ≡ messages
bye_told rest messages = refl

bye_read : (front : List ℕ) (c : ℕ) → (c == 125) ≡ false → list_all is_inner (front ++ c ∷ []) ≡ true → TellsNothing (bye (front ++ c ∷ []))
bye_read front c other plain messages =
    whole_line messages (codes "* BYE " ++ (front ++ c ∷ [])) plain
    (ap (λ (l : List ℕ). literal_of (reverse l)) (sym (append_assoc (codes "* BYE ") front (c ∷ []))) ∙ not_a_count (codes "* BYE " ++ front) c other)
    ∙ ap knowing (bye_told (front ++ c ∷ []) messages)

pub bye_tells_nothing : ByeTellsNothing
bye_tells_nothing text plain messages =
    ap (λ (l : List ℕ). reads (knowing messages) (bye l)) plain.is ∙ bye_read plain.front plain.last plain.no_count plain.inner messages

-- words that are written out are plain by their bytes
pub plain_words : (front : List ℕ) (last : ℕ) → (last == 125) ≡ false → list_all is_inner (front ++ last ∷ []) ≡ true → IsPlain (front ++ last ∷ [])
plain_words front last other inner = record { front = front; last = last; is = refl; no_count = other; inner = inner }

pub refusal_tells_nothing : RefusalTellsNothing
refusal_tells_nothing tag Stranger t messages = refl
refusal_tells_nothing tag Lapped t messages = refl
refusal_tells_nothing tag Spent t messages = tagged_tells_nothing tag (response_text texts.MailboxSpent) t (text_plain texts.MailboxSpent) messages
refusal_tells_nothing tag NoMemory t messages = tagged_tells_nothing tag (response_text texts.OutOfMemory) t (text_plain texts.OutOfMemory) messages

pub greeting_tells_nothing : GreetingTellsNothing
greeting_tells_nothing Standard messages = refl
greeting_tells_nothing Compatible messages = refl

pub refusals : (tag : List ℕ) → IsTag tag → Refusals tag
refusals tag t view fault = leaves view _ (refusal_tells_nothing tag fault t)
