-- What letters and their UIDs, which rise, say of the messages, and what is counted of these.
use Rattle.std.proofs.Common.{◌≡◌, ◌≢◌, ℕ, zero, suc, ◌+◌, ◌*◌, ◌<◌, ◌≤◌, Bool, true, false, cond, ◌==◌, not, List, [], ◌∷◌, ◌++◌, length, filter, get_or, take, drop, ltb, Option, Some, None, All, refl, sym, ap, subst, ◌∙◌, inl, inr, arith, eq-eqb}
use Rattle.std.specs.Prelude.{if◌then◌else◌, option_map, slice_get, slice_set, sum_by, is_some, Contains}
use Rattle.std.specs.Int.{from_bool}
use Rattle.std.specs.List.{AllByRecursion}
use Rattle.std.specs.List.Sorted.{IsPartitionPoint, IsStrictlyIncreasing}
use Rattle.std.specs.Global.{Vec}
use Rattle.std.proofs.lemmas.Bool.{cases_lt, ltb-true, ltb-false}
use Rattle.std.proofs.lemmas.Bool.Decides.{eqb_tells}
use Rattle.std.proofs.lemmas.List.{append_assoc, drop-set-lt, drop_more, get_or_default, length-set, take_more_set}
use Rattle.std.proofs.lemmas.List.Elements.{All-from_recursion, All-push, recursion_from_All}
use Rattle.std.proofs.lemmas.List.Sums.{count_by-le-length, sum_by-cons, sum_by-le, sum_by_push}
use Rattle.std.proofs.lemmas.Option.{slice_get-get_or, slice_get_within}
use Rattle.change_ring.specs.declared.change.Flags.{Flags}
use Rattle.cursor_set.proofs.Positions.{Rises, Rises-first, Rises-from, Rises-to}
use Rattle.delivery_token.specs.Text.{Text}
use Rattle.mailbox.proofs.MarkLaws.{length_reflagged, not_falling}
use Rattle.mailbox.specs.Counts.{bytes_in_all, unseen_count}
use Rattle.mailbox.specs.declared.letters.Letter.{Letter}
use Rattle.mailbox.specs.declared.letters.Letters.TheInside.{Inside}
use Rattle.mailbox.specs.inner.Letters.{AreCounted, Filed, filed, in_front, letter_uids, message_of, messages_of, reflagged, under, without_message}
use Rattle.mailbox.specs.Mailbox.{Message, message_with, uids_of}

-- 1 where it is so
abbrev pub one_if : Bool → ℕ
one_if b = cond b 1 0

pub one_at_most : (b : Bool) → one_if b ≤ 1
one_at_most true = omega arith
one_at_most false = omega arith

same_message : {x y : Message} → Some x ≡ Some y → x ≡ y
same_message e = cc

eqb_above : (a b : ℕ) → b < a → (a == b) ≡ false
eqb_above a b l = elim (eqb_tells a b) [
  | inl t ↦ absurd (omega (arith, t.1, l))
  | inr t ↦ t.0
]

eqb_below : (a b : ℕ) → a < b → (a == b) ≡ false
eqb_below a b l = elim (eqb_tells a b) [
  | inl t ↦ absurd (omega (arith, t.1, l))
  | inr t ↦ t.0
]

-- a message that has flags is there, and one that has none isn't
pub flags_of_one : (x : Option Message) (flags : Flags) → Some flags ≡ option_map (λ (m : Message). m.flags) x → (m : Message) × (x ≡ Some m) × (m.flags ≡ flags)
flags_of_one None flags e = cc
flags_of_one (Some m) flags e = (m, refl, cc)

pub flags_of_none : (x : Option Message) → None ≡ option_map (λ (m : Message). m.flags) x → x ≡ None
flags_of_none None e = refl
flags_of_none (Some m) e = cc

-- ---- a letter of another UID in front of messages

front_with : (uid u : ℕ) (flags : Flags) (t : Option Text) (ms : List Message) → (u == uid) ≡ false → message_with uid (in_front u flags t ms) ≡ message_with uid ms
front_with uid u flags None ms off = refl
front_with uid u flags (Some t) ms off = ap (λ (b : Bool). if b then Some (message_of u flags t) else message_with uid ms) off

front_without : (uid u : ℕ) (flags : Flags) (t : Option Text) (ms : List Message) → (u == uid) ≡ false → without_message uid (in_front u flags t ms) ≡ in_front u flags t (without_message uid ms)
front_without uid u flags None ms off = refl
front_without uid u flags (Some t) ms off = ap (λ (b : Bool). if b then ms else message_of u flags t ∷ without_message uid ms) off

front_reflagged : (uid u : ℕ) (new flags : Flags) (t : Option Text) (ms : List Message) → (u == uid) ≡ false →
    reflagged uid new (in_front u flags t ms) ≡ in_front u flags t (reflagged uid new ms)
front_reflagged uid u new flags None ms off = refl
front_reflagged uid u new flags (Some t) ms off = ap (λ (b : Bool). if b then record (message_of u flags t) { flags = new } ∷ ms else message_of u flags t ∷ reflagged uid new ms) off

-- none is there that is above it
none_above : (uid : ℕ) (ls : List Filed) → AllByRecursion (λ v. uid < v) (letter_uids ls) → message_with uid (messages_of ls) ≡ None
none_above uid [] h = refl
none_above uid (l ∷ ls) h = front_with uid l.uid l.flags l.text (messages_of ls) (eqb_above l.uid uid h.0) ∙ none_above uid ls h.1

-- ---- where no message has the UID

pub without_none : (uid : ℕ) (ms : List Message) → message_with uid ms ≡ None → without_message uid ms ≡ ms
without_none uid [] none = refl
without_none uid (m ∷ ms) none = by_case (m.uid == uid) none (λ f. without_none uid ms f)
  where
    by_case : (b : Bool) → (if b then Some m else message_with uid ms) ≡ None → (message_with uid ms ≡ None → without_message uid ms ≡ ms) → (if b then ms else m ∷ without_message uid ms) ≡ m ∷ ms
    by_case true f h = cc
    by_case false f h = ap (λ (ns : List Message). m ∷ ns) (h f)

pub reflagged_none : (uid : ℕ) (flags : Flags) (ms : List Message) → message_with uid ms ≡ None → reflagged uid flags ms ≡ ms
reflagged_none uid flags [] none = refl
reflagged_none uid flags (m ∷ ms) none = by_case (m.uid == uid) none (λ f. reflagged_none uid flags ms f)
  where
    by_case : (b : Bool) → (if b then Some m else message_with uid ms) ≡ None → (message_with uid ms ≡ None → reflagged uid flags ms ≡ ms) →
        (if b then record m { flags = flags } ∷ ms else m ∷ reflagged uid flags ms) ≡ m ∷ ms
    by_case true f h = cc
    by_case false f h = ap (λ (ns : List Message). m ∷ ns) (h f)

-- ---- a letter at a position

-- the first one is below it
low : (u : ℕ) (ls : List Filed) (k : ℕ) (l : Filed) → AllByRecursion (λ v. u < v) (letter_uids ls) → k < length ls → get_or ls k l ≡ l → u < l.uid
low u [] k l up within at = absurd (omega (arith, within))
low u (x ∷ ls) zero l up within at = subst (λ (y : Filed). u < y.uid) at up.0
low u (x ∷ ls) (suc k) l up within at = low u ls k l up.1 (omega (arith, within)) at

-- what is found
pub with_at : (ls : List Filed) (position : ℕ) (l : Filed) → Rises (letter_uids ls) → position < length ls → get_or ls position l ≡ l →
    message_with l.uid (messages_of ls) ≡ option_map (λ (t : Text). message_of l.uid l.flags t) l.text
with_at [] position l up within at = absurd (omega (arith, within))
with_at (x ∷ ls) zero l up within at = subst (λ (y : Filed). message_with y.uid (messages_of (x ∷ ls)) ≡ option_map (λ (t : Text). message_of y.uid y.flags t) y.text) at (by_case x.text)
  where
    by_case : (t : Option Text) → message_with x.uid (in_front x.uid x.flags t (messages_of ls)) ≡ option_map (λ (y : Text). message_of x.uid x.flags y) t
    by_case None = none_above x.uid ls up.0
    by_case (Some t) = ap (λ (b : Bool). if b then Some (message_of x.uid x.flags t) else message_with x.uid (messages_of ls)) (eq-eqb x.uid x.uid refl)
with_at (x ∷ ls) (suc k) l up within at =
    front_with l.uid x.uid x.flags x.text (messages_of ls) (eqb_below x.uid l.uid (low x.uid ls k l up.0 (omega (arith, within)) at)) ∙ with_at ls k l up.1 (omega (arith, within)) at

-- its flags are set
pub reflagged_at : (flags : Flags) (ls : List Filed) (position : ℕ) (l : Filed) → Rises (letter_uids ls) → position < length ls → get_or ls position l ≡ l →
    messages_of (slice_set ls position (record { uid = l.uid; flags = flags; text = l.text })) ≡ reflagged l.uid flags (messages_of ls)
reflagged_at flags [] position l up within at = absurd (omega (arith, within))
reflagged_at flags (x ∷ ls) zero l up within at =
    subst (λ (y : Filed). messages_of (slice_set (x ∷ ls) 0 (record { uid = y.uid; flags = flags; text = y.text })) ≡ reflagged y.uid flags (messages_of (x ∷ ls))) at (by_case x.text)
  where
    by_case : (t : Option Text) → in_front x.uid flags t (messages_of ls) ≡ reflagged x.uid flags (in_front x.uid x.flags t (messages_of ls))
    by_case None = sym (reflagged_none x.uid flags (messages_of ls) (none_above x.uid ls up.0))
    by_case (Some t) = sym (ap (λ (b : Bool). if b then message_of x.uid flags t ∷ messages_of ls else message_of x.uid x.flags t ∷ reflagged x.uid flags (messages_of ls)) (eq-eqb x.uid x.uid refl))
reflagged_at flags (x ∷ ls) (suc k) l up within at =
    ap (in_front x.uid x.flags x.text) (reflagged_at flags ls k l up.1 (omega (arith, within)) at)
    ∙ sym (front_reflagged l.uid x.uid flags x.flags x.text (messages_of ls) (eqb_below x.uid l.uid (low x.uid ls k l up.0 (omega (arith, within)) at)))

-- its text is taken
pub without_at : (ls : List Filed) (position : ℕ) (l : Filed) → Rises (letter_uids ls) → position < length ls → get_or ls position l ≡ l →
    messages_of (slice_set ls position (record { uid = l.uid; flags = l.flags; text = None })) ≡ without_message l.uid (messages_of ls)
without_at [] position l up within at = absurd (omega (arith, within))
without_at (x ∷ ls) zero l up within at =
    subst (λ (y : Filed). messages_of (slice_set (x ∷ ls) 0 (record { uid = y.uid; flags = y.flags; text = None })) ≡ without_message y.uid (messages_of (x ∷ ls))) at (by_case x.text)
  where
    by_case : (t : Option Text) → messages_of ls ≡ without_message x.uid (in_front x.uid x.flags t (messages_of ls))
    by_case None = sym (without_none x.uid (messages_of ls) (none_above x.uid ls up.0))
    by_case (Some t) = sym (ap (λ (b : Bool). if b then messages_of ls else message_of x.uid x.flags t ∷ without_message x.uid (messages_of ls)) (eq-eqb x.uid x.uid refl))
without_at (x ∷ ls) (suc k) l up within at =
    ap (in_front x.uid x.flags x.text) (without_at ls k l up.1 (omega (arith, within)) at)
    ∙ sym (front_without l.uid x.uid x.flags x.text (messages_of ls) (eqb_below x.uid l.uid (low x.uid ls k l up.0 (omega (arith, within)) at)))

-- ---- letters and UIDs, position by position

pub uids_filed : (us : List ℕ) (ls : List Letter) → length ls ≡ length us → letter_uids (filed us ls) ≡ us
uids_filed [] ls beside = refl
uids_filed (u ∷ us) [] beside = absurd (omega (arith, beside))
uids_filed (u ∷ us) (l ∷ ls) beside = ap (λ (vs : List ℕ). u ∷ vs) (uids_filed us ls (omega (arith, beside)))

pub length_filed : (us : List ℕ) (ls : List Letter) → length ls ≡ length us → length (filed us ls) ≡ length us
length_filed [] ls beside = refl
length_filed (u ∷ us) [] beside = absurd (omega (arith, beside))
length_filed (u ∷ us) (l ∷ ls) beside = ap suc (length_filed us ls (omega (arith, beside)))

same_uid : {u v : ℕ} → Some u ≡ Some v → u ≡ v
same_uid e = cc

filed_get : (us : List ℕ) (ls : List Letter) (position uid : ℕ) (l : Letter) → length ls ≡ length us → slice_get us position ≡ Some uid → get_or ls position l ≡ l → get_or (filed us ls) position (under uid l) ≡ under uid l
filed_get [] ls position uid l beside found at = refl
filed_get (u ∷ us) [] position uid l beside found at = refl
filed_get (u ∷ us) (x ∷ ls) zero uid l beside found at = ap (λ (v : ℕ). under v x) (same_uid found) ∙ ap (under uid) at
filed_get (u ∷ us) (x ∷ ls) (suc k) uid l beside found at = filed_get us ls k uid l (omega (arith, beside)) found at

filed_set : (us : List ℕ) (ls : List Letter) (position uid : ℕ) (new : Letter) → slice_get us position ≡ Some uid → filed us (slice_set ls position new) ≡ slice_set (filed us ls) position (under uid new)
filed_set [] ls position uid new found = cc
filed_set (u ∷ us) [] position uid new found = refl
filed_set (u ∷ us) (x ∷ ls) zero uid new found = ap (λ (v : ℕ). under v new ∷ filed us ls) (same_uid found)
filed_set (u ∷ us) (x ∷ ls) (suc k) uid new found = ap (λ (ps : List Filed). under u x ∷ ps) (filed_set us ls k uid new found)

filed_more : (us : List ℕ) (ls : List Letter) (uid : ℕ) (l : Letter) → length ls ≡ length us → filed (us ++ uid ∷ []) (ls ++ l ∷ []) ≡ filed us ls ++ under uid l ∷ []
filed_more [] [] uid l beside = refl
filed_more [] (x ∷ ls) uid l beside = absurd (omega (arith, beside))
filed_more (u ∷ us) [] uid l beside = absurd (omega (arith, beside))
filed_more (u ∷ us) (x ∷ ls) uid l beside = ap (λ (ps : List Filed). under u x ∷ ps) (filed_more us ls uid l (omega (arith, beside)))

-- ---- where a UID is, and where it isn't

-- no position has the UID that isn't where it would stand
pub absent : (uid : ℕ) (us : List ℕ) (position : ℕ) → IsStrictlyIncreasing us → IsPartitionPoint (λ (u : ℕ). ltb u uid ≡ true) (λ (u : ℕ). ltb u uid ≡ false) us position →
    slice_get us position ≢ Some uid → Contains us uid → ⊥
absent uid us position up point other there = elim (cases_lt there.0 position) [
  | inl before ↦ let less = ltb-true (get_or us there.0 uid) uid (point.0 there.0 uid (omega arith) before) in omega (arith, less, there.2)
  | inr behind ↦
      let within : position < length us = omega (arith, behind, there.1) in
      let least = ltb-false (get_or us position uid) uid (point.1 position uid (omega arith) within) in
      let same : get_or us position uid ≡ uid = omega (arith, least, not_falling us up position there.0 uid behind there.1, there.2) in
      other (slice_get-get_or us position uid within ∙ ap Some same)
]

pub none_there : (uid : ℕ) (us : List ℕ) (ls : List Letter) → (Contains us uid → ⊥) → message_with uid (messages_of (filed us ls)) ≡ None
none_there uid [] ls none = refl
none_there uid (u ∷ us) [] none = refl
none_there uid (u ∷ us) (l ∷ ls) none = elim (eqb_tells u uid) [
  | inl t ↦ absurd (none (0, omega arith, t.1))
  | inr t ↦ front_with uid u l.flags l.text (messages_of (filed us ls)) t.0 ∙ none_there uid us ls (λ there. none (suc there.0, omega (arith, there.1), there.2))
]

-- what is known of the letter at a position that has a UID
pub record IsAt (us : List ℕ) (ls : List Letter) (position uid : ℕ) (l : Letter) : Type 0 where
  pub found : message_with uid (messages_of (filed us ls)) ≡ option_map (λ (t : Text). message_of uid l.flags t) l.text
  pub set : (flags : Flags) → messages_of (filed us (slice_set ls position (record { flags = flags; text = l.text }))) ≡ reflagged uid flags (messages_of (filed us ls))
  pub taken : messages_of (filed us (slice_set ls position (record { flags = l.flags; text = None }))) ≡ without_message uid (messages_of (filed us ls))

pub at_position : (us : List ℕ) (ls : List Letter) (position uid : ℕ) (l : Letter) → IsStrictlyIncreasing us → length ls ≡ length us → slice_get us position ≡ Some uid → l ≡ get_or ls position l → IsAt us ls position uid l
at_position us ls position uid l rising beside found is =
    let ps = filed us ls in
    let up = Rises-from (letter_uids ps) (subst IsStrictlyIncreasing (sym (uids_filed us ls beside)) rising) in
    let few = slice_get_within us position uid found in
    let within : position < length ps = omega (arith, few, length_filed us ls beside) in
    let here = filed_get us ls position uid l beside found (sym is) in
    record {
      found = with_at ps position (under uid l) up within here;
      set = λ flags. ap messages_of (filed_set us ls position uid (record { flags = flags; text = l.text }) found) ∙ reflagged_at flags ps position (under uid l) up within here;
      taken = ap messages_of (filed_set us ls position uid (record { flags = l.flags; text = None }) found) ∙ without_at ps position (under uid l) up within here;
    }

-- its text was taken
pub text_gone : (t : Option Text) → is_some t ≡ false → t ≡ None
text_gone None e = refl
text_gone (Some t) e = cc

-- and where it wasn't it is there
pub text_there : (t : Option Text) → is_some t ≡ true → (x : Text) × (t ≡ Some x)
text_there None e = cc
text_there (Some x) e = (x, refl)

-- ---- one more UID

rises_push : (us : List ℕ) (uid : ℕ) → AllByRecursion (λ u. u < uid) us → Rises us → Rises (us ++ uid ∷ [])
rises_push [] uid below up = (tt, tt)
rises_push (u ∷ us) uid below up = (all_push us up.0, rises_push us uid below.1 up.1)
  where
    all_push : (vs : List ℕ) → AllByRecursion (λ v. u < v) vs → AllByRecursion (λ v. u < v) (vs ++ uid ∷ [])
    all_push [] h = (below.0, tt)
    all_push (v ∷ vs) h = (h.0, all_push vs h.1)

pub rising_more : (us : List ℕ) (uid : ℕ) → All (λ u. u < uid) us → IsStrictlyIncreasing us → IsStrictlyIncreasing (us ++ uid ∷ [])
rising_more us uid below up = Rises-to (us ++ uid ∷ []) (rises_push us uid (recursion_from_All (λ u. u < uid) us below) (Rises-from us up))

pub rising_first : (us : List ℕ) (uid : ℕ) → IsStrictlyIncreasing (us ++ uid ∷ []) → IsStrictlyIncreasing us
rising_first us uid up = Rises-to us (Rises-first us (uid ∷ []) (Rises-from (us ++ uid ∷ []) up))

-- ---- letters come and go

messages_more : (ls : List Filed) (l : Filed) → messages_of (ls ++ l ∷ []) ≡ messages_of ls ++ in_front l.uid l.flags l.text []
messages_more [] l = refl
messages_more (x ∷ ls) l = by_case x.text (messages_more ls l)
  where
    by_case : (t : Option Text) → messages_of (ls ++ l ∷ []) ≡ messages_of ls ++ in_front l.uid l.flags l.text [] →
        in_front x.uid x.flags t (messages_of (ls ++ l ∷ [])) ≡ in_front x.uid x.flags t (messages_of ls) ++ in_front l.uid l.flags l.text []
    by_case None h = h
    by_case (Some t) h = ap (λ (ms : List Message). message_of x.uid x.flags t ∷ ms) h

-- one letter more
pub messages_added : (us more : List ℕ) (ls after : List Letter) (uid : ℕ) (l : Letter) → length ls ≡ length us → more ≡ us ++ uid ∷ [] → after ≡ ls ++ l ∷ [] →
    messages_of (filed more after) ≡ messages_of (filed us ls) ++ in_front uid l.flags l.text []
messages_added us more ls after uid l beside is at =
    ap (λ (vs : List ℕ). messages_of (filed vs after)) is ∙ ap (λ (xs : List Letter). messages_of (filed (us ++ uid ∷ []) xs)) at ∙ ap messages_of (filed_more us ls uid l beside)
    ∙ messages_more (filed us ls) (under uid l)

-- those whose text is there
abbrev pub there : List Letter → List Letter
there ls = filter (λ (l : Letter). is_some l.text) ls

-- they are the same messages under the messages' UIDs
pub messages_there : (us : List ℕ) (ls : List Letter) → messages_of (filed (uids_of (messages_of (filed us ls))) (there ls)) ≡ messages_of (filed us ls)
messages_there [] ls = refl
messages_there (u ∷ us) [] = refl
messages_there (u ∷ us) (l ∷ ls) = by_case l.text refl (messages_there us ls)
  where
    by_case : (t : Option Text) → l.text ≡ t → messages_of (filed (uids_of (messages_of (filed us ls))) (there ls)) ≡ messages_of (filed us ls) →
        messages_of (filed (uids_of (in_front u l.flags t (messages_of (filed us ls)))) (cond (is_some t) (l ∷ there ls) (there ls))) ≡ in_front u l.flags t (messages_of (filed us ls))
    by_case None is h = h
    by_case (Some t) is h =
        ap (λ (x : Option Text). in_front u l.flags x (messages_of (filed (uids_of (messages_of (filed us ls))) (there ls)))) is ∙ ap (λ (ms : List Message). message_of u l.flags t ∷ ms) h

-- and as many
pub length_there : (us : List ℕ) (ls : List Letter) → length ls ≡ length us → length (there ls) ≡ length (messages_of (filed us ls))
length_there [] [] beside = refl
length_there [] (l ∷ ls) beside = absurd (omega (arith, beside))
length_there (u ∷ us) [] beside = absurd (omega (arith, beside))
length_there (u ∷ us) (l ∷ ls) beside = by_case l.text (length_there us ls (omega (arith, beside)))
  where
    by_case : (t : Option Text) → length (there ls) ≡ length (messages_of (filed us ls)) → length (cond (is_some t) (l ∷ there ls) (there ls)) ≡ length (in_front u l.flags t (messages_of (filed us ls)))
    by_case None h = h
    by_case (Some t) h = ap suc h

-- the messages' UIDs rise
module _ (P : ℕ → Type 0) where
  all_there : (ls : List Filed) → AllByRecursion P (letter_uids ls) → AllByRecursion P (uids_of (messages_of ls))
  all_there [] h = tt
  all_there (l ∷ ls) h = by_case l.text (all_there ls h.1)
    where
      by_case : (t : Option Text) → AllByRecursion P (uids_of (messages_of ls)) → AllByRecursion P (uids_of (in_front l.uid l.flags t (messages_of ls)))
      by_case None rest = rest
      by_case (Some t) rest = (h.0, rest)

rising_there : (ls : List Filed) → Rises (letter_uids ls) → Rises (uids_of (messages_of ls))
rising_there [] up = tt
rising_there (l ∷ ls) up = by_case l.text (rising_there ls up.1)
  where
    by_case : (t : Option Text) → Rises (uids_of (messages_of ls)) → Rises (uids_of (in_front l.uid l.flags t (messages_of ls)))
    by_case None rest = rest
    by_case (Some t) rest = (all_there (λ v. l.uid < v) ls up.0, rest)

pub messages_rise : (us : List ℕ) (ls : List Letter) → length ls ≡ length us → IsStrictlyIncreasing us → IsStrictlyIncreasing (uids_of (messages_of (filed us ls)))
messages_rise us ls beside up =
    let ps = filed us ls in
    Rises-to (uids_of (messages_of ps)) (rising_there ps (subst Rises (sym (uids_filed us ls beside)) (Rises-from us up)))

pub messages_few : (us : List ℕ) (ls : List Letter) → length (messages_of (filed us ls)) ≤ length us
messages_few [] ls = omega arith
messages_few (u ∷ us) [] = omega arith
messages_few (u ∷ us) (l ∷ ls) = by_case l.text (messages_few us ls)
  where
    by_case : (t : Option Text) → length (messages_of (filed us ls)) ≤ length us → length (in_front u l.flags t (messages_of (filed us ls))) ≤ suc (length us)
    by_case None h = omega (arith, h)
    by_case (Some t) h = omega (arith, h)

-- where no position was given up, each UID is a message's
pub each_there : (us : List ℕ) (ls : List Letter) → length (messages_of (filed us ls)) ≡ length us → uids_of (messages_of (filed us ls)) ≡ us
each_there [] ls full = refl
each_there (u ∷ us) [] full = absurd (omega (arith, full))
each_there (u ∷ us) (l ∷ ls) full = by_case l.text full (messages_few us ls) (λ e. each_there us ls e)
  where
    by_case : (t : Option Text) → length (in_front u l.flags t (messages_of (filed us ls))) ≡ suc (length us) → length (messages_of (filed us ls)) ≤ length us →
        (length (messages_of (filed us ls)) ≡ length us → uids_of (messages_of (filed us ls)) ≡ us) → uids_of (in_front u l.flags t (messages_of (filed us ls))) ≡ u ∷ us
    by_case None full few h = absurd (omega (arith, full, few))
    by_case (Some t) full few h = ap (λ (vs : List ℕ). u ∷ vs) (h (omega (arith, full)))

-- what is to come begins with the letter at this position
comes : (us : List ℕ) (ls : List Letter) (position u : ℕ) (l : Letter) → position < length us → length ls ≡ length us → u ≡ get_or us position u → l ≡ get_or ls position l →
    messages_of (filed (drop position us) (drop position ls)) ≡ in_front u l.flags l.text (messages_of (filed (drop (position + 1) us) (drop (position + 1) ls)))
comes us ls position u l within beside is at =
    let uids : drop position us ≡ u ∷ drop (position + 1) us = drop_more us position u within ∙ ap (λ (v : ℕ). v ∷ drop (position + 1) us) (sym is) in
    let letters : drop position ls ≡ l ∷ drop (position + 1) ls = drop_more ls position l (omega (arith, within, beside)) ∙ ap (λ (x : Letter). x ∷ drop (position + 1) ls) (sym at) in
    ap (λ (vs : List ℕ). messages_of (filed vs (drop position ls))) uids ∙ ap (λ (xs : List Letter). messages_of (filed (u ∷ drop (position + 1) us) xs)) letters

-- where its text is there it is a message
pub comes_one : (us : List ℕ) (ls : List Letter) (position u : ℕ) (l : Letter) (t : Text) → position < length us → length ls ≡ length us → u ≡ get_or us position u → l ≡ get_or ls position l →
    l.text ≡ Some t → messages_of (filed (drop position us) (drop position ls)) ≡ message_of u l.flags t ∷ messages_of (filed (drop (position + 1) us) (drop (position + 1) ls))
comes_one us ls position u l t within beside is at there =
    comes us ls position u l within beside is at ∙ ap (λ (x : Option Text). in_front u l.flags x (messages_of (filed (drop (position + 1) us) (drop (position + 1) ls)))) there

-- and where it was taken none
pub comes_none : (us : List ℕ) (ls : List Letter) (position : ℕ) (l : Letter) → position < length us → length ls ≡ length us → l ≡ get_or ls position l → l.text ≡ None →
    messages_of (filed (drop position us) (drop position ls)) ≡ messages_of (filed (drop (position + 1) us) (drop (position + 1) ls))
comes_none us ls position l within beside at gone =
    let u = get_or us position 0 in
    comes us ls position u l within beside (get_or_default us position 0 u within) at
    ∙ ap (λ (x : Option Text). in_front u l.flags x (messages_of (filed (drop (position + 1) us) (drop (position + 1) ls)))) gone

-- ---- the UIDs close up

-- the UIDs that are kept, with those of the messages to come, are all
pub record IsClosing (whole now : List ℕ) (ls : List Letter) (kept position : ℕ) : Type 0 where
  pub told : take kept now ++ uids_of (messages_of (filed (drop position now) (drop position ls))) ≡ whole
  pub behind : kept ≤ position
  pub beside : length ls ≡ length now

-- a position that was given up
pub closing_past : (whole now : List ℕ) (ls : List Letter) (kept position : ℕ) (l : Letter) → IsClosing whole now ls kept position → position < length now → l ≡ get_or ls position l → is_some l.text ≡ false →
    IsClosing whole now ls kept (position + 1)
closing_past whole now ls kept position l h within at gone = record {
  told = ap (λ (ms : List Message). take kept now ++ uids_of ms) (sym (comes_none now ls position l within h.beside at (text_gone l.text gone))) ∙ h.told;
  behind = omega (arith, h.behind);
  beside = h.beside;
}

-- a message's UID moves up
pub closing_more : (whole now : List ℕ) (ls : List Letter) (kept position u : ℕ) (l : Letter) → IsClosing whole now ls kept position → position < length now → u ≡ get_or now position u → l ≡ get_or ls position l →
    is_some l.text ≡ true → IsClosing whole (slice_set now kept u) ls (kept + 1) (position + 1)
closing_more whole now ls kept position u l h within is at there =
    let left = uids_of (messages_of (filed (drop (position + 1) now) (drop (position + 1) ls))) in
    let front : take (kept + 1) (slice_set now kept u) ≡ take kept now ++ u ∷ [] = take_more_set now kept u (omega (arith, within, h.behind)) in
    let rest : drop (position + 1) (slice_set now kept u) ≡ drop (position + 1) now = drop-set-lt (position + 1) now kept u (omega (arith, h.behind)) in
    let text = text_there l.text there in
    record {
      told =
          ap (λ (vs : List ℕ). take (kept + 1) (slice_set now kept u) ++ uids_of (messages_of (filed vs (drop (position + 1) ls)))) rest ∙ ap (λ (vs : List ℕ). vs ++ left) front
          ∙ append_assoc (take kept now) (u ∷ []) left ∙ ap (λ (ms : List Message). take kept now ++ uids_of ms) (sym (comes_one now ls position u l text.0 within h.beside is at text.1)) ∙ h.told;
      behind = omega (arith, h.behind);
      beside = omega (arith, h.beside, length-set now kept u);
    }

-- ---- sums over the messages

module _ (f : Message → ℕ) where
  pub sum_reflagged : (uid : ℕ) (flags : Flags) (ms : List Message) (x : Message) → message_with uid ms ≡ Some x →
      sum_by f (reflagged uid flags ms) + f x ≡ sum_by f ms + f (record x { flags = flags })
  sum_reflagged uid flags [] x found = cc
  sum_reflagged uid flags (m ∷ ms) x found = by_case (m.uid == uid) found (λ h. sum_reflagged uid flags ms x h)
    where
      by_case : (b : Bool) → (if b then Some m else message_with uid ms) ≡ Some x →
          (message_with uid ms ≡ Some x → sum_by f (reflagged uid flags ms) + f x ≡ sum_by f ms + f (record x { flags = flags })) →
          sum_by f (if b then record m { flags = flags } ∷ ms else m ∷ reflagged uid flags ms) + f x ≡ sum_by f (m ∷ ms) + f (record x { flags = flags })
      by_case true e h =
          let same : f m ≡ f x = ap f (same_message e) in
          let set : f (record m { flags = flags }) ≡ f (record x { flags = flags }) = ap (λ (y : Message). f (record y { flags = flags })) (same_message e) in
          omega (arith, sum_by-cons f m ms, sum_by-cons f (record m { flags = flags }) ms, same, set)
      by_case false e h = omega (arith, sum_by-cons f m ms, sum_by-cons f m (reflagged uid flags ms), h e)

  pub sum_without : (uid : ℕ) (ms : List Message) (x : Message) → message_with uid ms ≡ Some x → sum_by f (without_message uid ms) + f x ≡ sum_by f ms
  sum_without uid [] x found = cc
  sum_without uid (m ∷ ms) x found = by_case (m.uid == uid) found (λ h. sum_without uid ms x h)
    where
      by_case : (b : Bool) → (if b then Some m else message_with uid ms) ≡ Some x → (message_with uid ms ≡ Some x → sum_by f (without_message uid ms) + f x ≡ sum_by f ms) →
          sum_by f (if b then ms else m ∷ without_message uid ms) + f x ≡ sum_by f (m ∷ ms)
      by_case true e h = let same : f m ≡ f x = ap f (same_message e) in omega (arith, sum_by-cons f m ms, same)
      by_case false e h = omega (arith, sum_by-cons f m ms, sum_by-cons f m (without_message uid ms), h e)

-- one message less
pub length_without : (uid : ℕ) (ms : List Message) (x : Message) → message_with uid ms ≡ Some x → length (without_message uid ms) + 1 ≡ length ms
length_without uid [] x found = cc
length_without uid (m ∷ ms) x found = by_case (m.uid == uid) found (λ h. length_without uid ms x h)
  where
    by_case : (b : Bool) → (if b then Some m else message_with uid ms) ≡ Some x → (message_with uid ms ≡ Some x → length (without_message uid ms) + 1 ≡ length ms) →
        length (if b then ms else m ∷ without_message uid ms) + 1 ≡ suc (length ms)
    by_case true e h = omega arith
    by_case false e h = omega (arith, h e)

-- ---- what holds of each message, where its text alone counts

module _ (P : Text → Type 0) where
  texts_without : (uid : ℕ) (ms : List Message) → AllByRecursion (λ (m : Message). P m.text) ms → AllByRecursion (λ (m : Message). P m.text) (without_message uid ms)
  texts_without uid [] h = tt
  texts_without uid (m ∷ ms) h = by_case (m.uid == uid) (texts_without uid ms h.1)
    where
      by_case : (b : Bool) → AllByRecursion (λ (m : Message). P m.text) (without_message uid ms) → AllByRecursion (λ (m : Message). P m.text) (if b then ms else m ∷ without_message uid ms)
      by_case true rest = h.1
      by_case false rest = (h.0, rest)

  texts_reflagged : (uid : ℕ) (flags : Flags) (ms : List Message) → AllByRecursion (λ (m : Message). P m.text) ms → AllByRecursion (λ (m : Message). P m.text) (reflagged uid flags ms)
  texts_reflagged uid flags [] h = tt
  texts_reflagged uid flags (m ∷ ms) h = by_case (m.uid == uid) (texts_reflagged uid flags ms h.1)
    where
      by_case : (b : Bool) → AllByRecursion (λ (m : Message). P m.text) (reflagged uid flags ms) →
          AllByRecursion (λ (m : Message). P m.text) (if b then record m { flags = flags } ∷ ms else m ∷ reflagged uid flags ms)
      by_case true rest = (h.0, h.1)
      by_case false rest = (h.0, rest)

  pub all_without : (uid : ℕ) (ms : List Message) → All (λ (m : Message). P m.text) ms → All (λ (m : Message). P m.text) (without_message uid ms)
  all_without uid ms h = All-from_recursion (λ (m : Message). P m.text) (without_message uid ms) (texts_without uid ms (recursion_from_All (λ (m : Message). P m.text) ms h))

  pub all_reflagged : (uid : ℕ) (flags : Flags) (ms : List Message) → All (λ (m : Message). P m.text) ms → All (λ (m : Message). P m.text) (reflagged uid flags ms)
  all_reflagged uid flags ms h = All-from_recursion (λ (m : Message). P m.text) (reflagged uid flags ms) (texts_reflagged uid flags ms (recursion_from_All (λ (m : Message). P m.text) ms h))

-- ---- what is counted

-- the texts are few
pub bytes_few : (ms : List Message) → All (λ (m : Message). length m.text.bytes ≤ 0xffff_ffff_ffff_ffff) ms → bytes_in_all ms ≤ length ms * 0xffff_ffff_ffff_ffff
bytes_few ms small = sum_by-le (λ (m : Message). length m.text.bytes) 0xffff_ffff_ffff_ffff ms small

pub AreCounted-add : (b : Inside) (us : Vec ℕ) (ls : Vec Letter) (x : Message) → AreCounted b → IsStrictlyIncreasing us.items → length ls.items ≡ length us.items →
    messages_of (filed us.items ls.items) ≡ messages_of (filed b.uids.items b.letters.items) ++ x ∷ [] → x.flags.seen ≡ false → length x.text.bytes ≤ 0xffff_ffff_ffff_ffff →
    AreCounted (record { uids = us; letters = ls; count = b.count + 1; unseen = b.unseen + 1; bytes = b.bytes + length x.text.bytes })
AreCounted-add b us ls x h rising beside is off short =
    let ms = messages_of (filed b.uids.items b.letters.items) in
    let one : one_if (not x.flags.seen) ≡ 1 = ap (λ (s : Bool). one_if (not s)) off in
    record {
      rising = rising;
      beside = beside;
      count = omega (arith, h.count, ap length is, length_push ms x);
      unseen = omega (arith, h.unseen, ap unseen_count is, sum_by_push (λ (m : Message). one_if (not m.flags.seen)) ms x, one);
      bytes = omega (arith, h.bytes, ap bytes_in_all is, sum_by_push (λ (m : Message). length m.text.bytes) ms x);
      small = subst (All (λ (m : Message). length m.text.bytes ≤ 0xffff_ffff_ffff_ffff)) (sym is) (All-push (λ (m : Message). length m.text.bytes ≤ 0xffff_ffff_ffff_ffff) ms x h.small short);
    }
  where
    length_push : (ms : List Message) (x : Message) → length (ms ++ x ∷ []) ≡ length ms + 1
    length_push [] x = refl
    length_push (m ∷ ms) x = omega (arith, length_push ms x)

pub AreCounted-set : (b : Inside) (new : Vec Letter) (uid : ℕ) (flags : Flags) (x : Message) (unseen : ℕ) → AreCounted b → length new.items ≡ length b.uids.items →
    messages_of (filed b.uids.items new.items) ≡ reflagged uid flags (messages_of (filed b.uids.items b.letters.items)) → message_with uid (messages_of (filed b.uids.items b.letters.items)) ≡ Some x →
    unseen + one_if (not x.flags.seen) ≡ b.unseen + one_if (not flags.seen) → AreCounted (record { uids = b.uids; letters = new; count = b.count; unseen = unseen; bytes = b.bytes })
AreCounted-set b new uid flags x unseen h beside is found counts =
    let ms = messages_of (filed b.uids.items b.letters.items) in
    record {
      rising = h.rising;
      beside = beside;
      count = omega (arith, h.count, ap length is, length_reflagged uid flags ms);
      unseen = omega (arith, counts, h.unseen, ap unseen_count is, sum_reflagged (λ (m : Message). one_if (not m.flags.seen)) uid flags ms x found);
      bytes = omega (arith, h.bytes, ap bytes_in_all is, sum_reflagged (λ (m : Message). length m.text.bytes) uid flags ms x found);
      small = subst (All (λ (m : Message). length m.text.bytes ≤ 0xffff_ffff_ffff_ffff)) (sym is) (all_reflagged (λ (t : Text). length t.bytes ≤ 0xffff_ffff_ffff_ffff) uid flags ms h.small);
    }

pub AreCounted-remove : (b : Inside) (new : Vec Letter) (uid : ℕ) (x : Message) (count unseen bytes : ℕ) → AreCounted b → length new.items ≡ length b.uids.items →
    messages_of (filed b.uids.items new.items) ≡ without_message uid (messages_of (filed b.uids.items b.letters.items)) → message_with uid (messages_of (filed b.uids.items b.letters.items)) ≡ Some x →
    count + 1 ≡ b.count → unseen + one_if (not x.flags.seen) ≡ b.unseen → bytes + length x.text.bytes ≡ b.bytes → AreCounted (record { uids = b.uids; letters = new; count = count; unseen = unseen; bytes = bytes })
AreCounted-remove b new uid x count unseen bytes h beside is found less counts sums =
    let ms = messages_of (filed b.uids.items b.letters.items) in
    record {
      rising = h.rising;
      beside = beside;
      count = omega (arith, less, h.count, ap length is, length_without uid ms x found);
      unseen = omega (arith, counts, h.unseen, ap unseen_count is, sum_without (λ (m : Message). one_if (not m.flags.seen)) uid ms x found);
      bytes = omega (arith, sums, h.bytes, ap bytes_in_all is, sum_without (λ (m : Message). length m.text.bytes) uid ms x found);
      small = subst (All (λ (m : Message). length m.text.bytes ≤ 0xffff_ffff_ffff_ffff)) (sym is) (all_without (λ (t : Text). length t.bytes ≤ 0xffff_ffff_ffff_ffff) uid ms h.small);
    }

-- the same messages in other letters
pub AreCounted-same : (b : Inside) (us : Vec ℕ) (ls : Vec Letter) → AreCounted b → IsStrictlyIncreasing us.items → length ls.items ≡ length us.items →
    messages_of (filed us.items ls.items) ≡ messages_of (filed b.uids.items b.letters.items) → AreCounted (record { uids = us; letters = ls; count = b.count; unseen = b.unseen; bytes = b.bytes })
AreCounted-same b us ls h rising beside is = record {
  rising = rising;
  beside = beside;
  count = h.count ∙ sym (ap length is);
  unseen = h.unseen ∙ sym (ap unseen_count is);
  bytes = h.bytes ∙ sym (ap bytes_in_all is);
  small = subst (All (λ (m : Message). length m.text.bytes ≤ 0xffff_ffff_ffff_ffff)) (sym is) h.small;
}

-- one of them is at most all
pub unseen_there : (uid : ℕ) (ms : List Message) (x : Message) → message_with uid ms ≡ Some x → one_if (not x.flags.seen) ≤ unseen_count ms
unseen_there uid ms x found = omega (arith, sum_without (λ (m : Message). one_if (not m.flags.seen)) uid ms x found)

pub bytes_there : (uid : ℕ) (ms : List Message) (x : Message) → message_with uid ms ≡ Some x → length x.text.bytes ≤ bytes_in_all ms
bytes_there uid ms x found = omega (arith, sum_without (λ (m : Message). length m.text.bytes) uid ms x found)

pub unseen_few : (ms : List Message) → unseen_count ms ≤ length ms
unseen_few ms = count_by-le-length (λ (m : Message). not m.flags.seen) ms

-- a truth as a number
pub number_of : (b : Bool) → from_bool b ≡ one_if b
number_of true = refl
number_of false = refl
