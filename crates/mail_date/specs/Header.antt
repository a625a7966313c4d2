-- Where the date of a message stands, as rules (RFC 5322, sections 2.2, 2.2.3 and 3.6.7): in which field, and where in
-- it. By the law `a_message_has_the_date_that_it_says` they settle `message_date` of Fields.antt, together with
-- Grammar.antt: whoever believes these rules need not read the functions there.
use Rattle.std.specs.Prelude.{◌≡◌, ℕ, ◌≤◌, true, false, codes, List, [], ◌∷◌, ◌++◌, length, ◌==◌, not}
use Rattle.std.specs.Str.{str_eq_ignore_ascii_case as is_same}
use Rattle.mail_date.specs.declared.stamp.Stamp.{Stamp}
use Rattle.mail_date.specs.Bytes.{is_blank, is_folded, is_in}
use Rattle.mail_date.specs.Fields.{is_empty_line}
use Rattle.mail_date.specs.Grammar.{DateTime, Many, Inside}

-- the text of one field, folded or not: a space or a tab stands behind each LF
pub data Unbroken : List ℕ → Type 0 where
  end : Unbroken []
  byte : {b : ℕ} {text : List ℕ} → (b == 10) ≡ false → Unbroken text → Unbroken (b ∷ text)
  fold : {b : ℕ} {text : List ℕ} → is_blank b ≡ true → Unbroken (b ∷ text) → Unbroken (10 ∷ b ∷ text)

-- what stands behind a field: nothing, or an LF behind which the next line isn't folded
pub data AtEnd : List ℕ → Type 0 where
  text : AtEnd []
  line : {more : List ℕ} → is_folded more ≡ false → AtEnd (10 ∷ more)

-- A text that begins with a field of this name, in upper or lower case, and what stands behind the field's colon.
-- Spaces and tabs may stand before the colon (RFC 5322, section 4.5.3).
pub record Named (word text behind : List ℕ) : Type 0 where
  pub name : List ℕ
  pub blanks : List ℕ
  pub parts : text ≡ name ++ (blanks ++ 58 ∷ behind)
  pub same : is_same name word ≡ true
  pub between : Many is_blank blanks

-- A header whose first field named Received has this body: it is the first field, or the first is another one and the
-- fields behind that are such a header. The header ends at its first empty line.
pub data FirstReceived : List ℕ → List ℕ → Type 0 where
  here : {text : List ℕ} (body rest : List ℕ) → Named (codes "Received") text (body ++ rest) → Unbroken body → AtEnd rest → FirstReceived text body
  later : {text body : List ℕ} (field more : List ℕ) → text ≡ field ++ 10 ∷ more → Unbroken field → is_folded more ≡ false
      → is_empty_line text ≡ false → ((behind : List ℕ) → Named (codes "Received") text behind → ⊥) → FirstReceived more body
      → FirstReceived text body

-- ---- the date within the field

-- what stands between the quotes of a quoted string: a backslash quotes the byte after it
pub data Quoted : List ℕ → Type 0 where
  end : Quoted []
  plain : {b : ℕ} {text : List ℕ} → not (is_in (codes "\"\\") b) ≡ true → Quoted text → Quoted (b ∷ text)
  escaped : {b : ℕ} {text : List ℕ} → Quoted text → Quoted (92 ∷ b ∷ text)

-- a text in which each quoted string and each comment that begins also ends
pub data Closed : List ℕ → Type 0 where
  end : Closed []
  byte : {b : ℕ} {text : List ℕ} → not (is_in (codes "\"(") b) ≡ true → Closed text → Closed (b ∷ text)
  string : {text : List ℕ} (inner rest : List ℕ) → text ≡ 34 ∷ (inner ++ 34 ∷ rest) → Quoted inner → Closed rest → Closed text
  comment : {text : List ℕ} (inner rest : List ℕ) → text ≡ 40 ∷ (inner ++ 41 ∷ rest) → Inside inner → Closed rest → Closed text

-- what stands behind the last semicolon that is in no quoted string and no comment
pub record BehindLast (body part : List ℕ) : Type 0 where
  pub front : List ℕ
  pub parts : body ≡ front ++ 59 ∷ part
  pub closed : Closed front
  pub last : (other rest : List ℕ) → body ≡ other ++ 59 ∷ rest → Closed other → length other ≤ length front

-- a message whose first Received field says this date
pub record Says (text : List ℕ) (s : Stamp) : Type 0 where
  pub body : List ℕ
  pub part : List ℕ
  pub field : FirstReceived text body
  pub place : BehindLast body part
  pub date : DateTime s part
