-- The lines of a message's copies, one after another.
use Rattle.std.proofs.Common.{◌≡◌, ◌+◌, ◌<◌, ◌++◌, ◌∙◌, ℕ, ap, sym, subst, List, [], ◌∷◌, Some, length, zip, take, slice_index_or, arith, refl, append_assoc, append-nil, Result, Ok, Err, OnErr}
use Rattle.std.proofs.lemmas.List.Concat.{flat_map-append}
use Rattle.std.proofs.lemmas.List.{length-take-le}
use Rattle.std.proofs.Transfers.{starts_with_of_append, starts_with_trans}
use Rattle.std.specs.Io.{StartsWith}
use Rattle.change_ring.specs.Log.{no_flags}
use Rattle.delivery_token.specs.Text.{Text}
use Rattle.delivery_token.specs.declared.CopyKey.{CopyKey}
use Rattle.delivery_token.specs.declared.Job.{Job}
use Rattle.delivery_token.specs.declared.Verdict.{Verdict}
use Rattle.envelope.specs.Names.{Home}
use Rattle.lane_work.specs.Account.{copies}
use Rattle.lane_work.proofs.CopyLaws.{copies_length, copies_next, take_next}
use Rattle.server_report.specs.Lines.{call_number, copy_line, mail_line, mail_lines}
use Rattle.server_report.specs.declared.line.Caller.TheVariants.{Mail}

zip_next : {A B : Type 0} (xs : List A) (ys : List B) (x : A) (y : B) → length ys ≡ length xs → zip (xs ++ x ∷ []) (ys ++ y ∷ []) ≡ zip xs ys ++ (x, y) ∷ []
zip_next [] [] x y same = refl
zip_next [] (b ∷ ys) x y same = absurd (omega arith)
zip_next (a ∷ xs) [] x y same = absurd (omega arith)
zip_next (a ∷ xs) (b ∷ ys) x y same = ap (λ l. (a, b) ∷ l) (zip_next xs ys x y (omega arith))

-- the line of one copy more
pub lines_next : (homes : List Home) (workers : ℕ) (keys : List CopyKey) (mailboxes : List ℕ) (text : Text) (verdicts : List Verdict) (i : ℕ) (k : CopyKey) (m : ℕ) (v : Verdict) (size : ℕ) (old was new : List ℕ)
    → size ≡ length text.bytes → length mailboxes ≡ length keys → length verdicts ≡ length keys → i < length verdicts → k ≡ slice_index_or keys i k → m ≡ slice_index_or mailboxes i m → v ≡ slice_index_or verdicts i v
    → new ≡ was ++ copy_line homes (Mail (call_number workers k.seat k.serial)) k.message m (Some size) v
    → was ≡ old ++ mail_lines homes workers (zip (copies (take i keys) (take i mailboxes) text) (take i verdicts))
    → new ≡ old ++ mail_lines homes workers (zip (copies (take (i + 1) keys) (take (i + 1) mailboxes) text) (take (i + 1) verdicts))
lines_next homes workers keys mailboxes text verdicts i k m v size old was new sized same as_many under kis mis vis is so =
    let copy : Job = record { key = k; mailbox = m; text = text; flags = no_flags } in
    let lk : length (take i keys) ≡ i = length-take-le i keys (omega arith) in
    let lm : length (take i mailboxes) ≡ i = length-take-le i mailboxes (omega arith) in
    let lv : length (take i verdicts) ≡ i = length-take-le i verdicts (omega arith) in
    let cs = copies (take i keys) (take i mailboxes) text in
    let lc : length cs ≡ i = copies_length (take i keys) (take i mailboxes) text (lm ∙ sym lk) ∙ lk in
    let next : copies (take (i + 1) keys) (take (i + 1) mailboxes) text ≡ cs ++ copy ∷ [] =
    ap (λ ks. copies ks (take (i + 1) mailboxes) text) (take_next keys i k (omega arith) kis)
    ∙ ap (λ ms. copies (take i keys ++ k ∷ []) ms text) (take_next mailboxes i m (omega arith) mis)
    ∙ copies_next (take i keys) (take i mailboxes) text k m (lm ∙ sym lk) in
    let both : zip (copies (take (i + 1) keys) (take (i + 1) mailboxes) text) (take (i + 1) verdicts) ≡ zip cs (take i verdicts) ++ (copy, v) ∷ [] =
    ap (λ l. zip l (take (i + 1) verdicts)) next ∙ ap (zip (cs ++ copy ∷ [])) (take_next verdicts i v under vis) ∙ zip_next cs (take i verdicts) copy v (lv ∙ sym lc) in
    let line : List ℕ = mail_line homes workers (copy, v) in
    let before : List ℕ = mail_lines homes workers (zip cs (take i verdicts)) in
    let more : mail_lines homes workers (zip (copies (take (i + 1) keys) (take (i + 1) mailboxes) text) (take (i + 1) verdicts)) ≡ before ++ line =
    ap (mail_lines homes workers) both ∙ flat_map-append (mail_line homes workers) (zip cs (take i verdicts)) ((copy, v) ∷ [])
    ∙ ap (λ l. before ++ l) (append-nil line) in
    let here : new ≡ was ++ line = subst (λ (n : ℕ). new ≡ was ++ copy_line homes (Mail (call_number workers k.seat k.serial)) k.message m (Some n) v) sized is in
    here ∙ ap (λ l. l ++ line) so ∙ append_assoc old before line ∙ ap (λ l. old ++ l) (sym more)

-- ---- parts, one behind the other

pub five_parts : (old a b c d e o1 o2 o3 o4 o5 : List ℕ) → o1 ≡ old ++ a → o2 ≡ o1 ++ b → o3 ≡ o2 ++ c → o4 ≡ o3 ++ d → o5 ≡ o4 ++ e → o5 ≡ old ++ (a ++ b ++ c ++ d ++ e)
five_parts old a b c d e o1 o2 o3 o4 o5 e1 e2 e3 e4 e5 =
    e5 ∙ ap (λ l. l ++ e) (e4 ∙ ap (λ l. l ++ d) (e3 ∙ ap (λ l. l ++ c) (e2 ∙ ap (λ l. l ++ b) e1 ∙ append_assoc old a b) ∙ append_assoc old (a ++ b) c) ∙ append_assoc old (a ++ b ++ c) d)
    ∙ append_assoc old (a ++ b ++ c ++ d) e

pub seven_parts : (old a b c d e f g o1 o2 o3 o4 o5 o6 o7 : List ℕ) → o1 ≡ old ++ a → o2 ≡ o1 ++ b → o3 ≡ o2 ++ c → o4 ≡ o3 ++ d → o5 ≡ o4 ++ e → o6 ≡ o5 ++ f → o7 ≡ o6 ++ g
    → o7 ≡ old ++ (a ++ b ++ c ++ d ++ e ++ f ++ g)
seven_parts old a b c d e f g o1 o2 o3 o4 o5 o6 o7 e1 e2 e3 e4 e5 e6 e7 =
    e7 ∙ ap (λ l. l ++ g) (e6 ∙ ap (λ l. l ++ f) (five_parts old a b c d e o1 o2 o3 o4 o5 e1 e2 e3 e4 e5) ∙ append_assoc old (a ++ b ++ c ++ d ++ e) f)
    ∙ append_assoc old (a ++ b ++ c ++ d ++ e ++ f) g

-- three parts of a loop of calls
pub three_parts : (old a b c o1 o2 o3 : List ℕ) → o1 ≡ old ++ a → o2 ≡ o1 ++ b → o3 ≡ o2 ++ c → o3 ≡ old ++ (a ++ b ++ c)
three_parts old a b c o1 o2 o3 e1 e2 e3 = e3 ∙ ap (λ l. l ++ c) (e2 ∙ ap (λ l. l ++ b) e1 ∙ append_assoc old a b) ∙ append_assoc old (a ++ b) c

-- ---- parts that are appended by one call

four_left : (a b c d : List ℕ) → a ++ (b ++ (c ++ (d ++ []))) ≡ a ++ b ++ c ++ d
four_left a b c d = ap (λ l. a ++ (b ++ (c ++ l))) (append-nil d) ∙ sym (append_assoc a b (c ++ d)) ∙ sym (append_assoc (a ++ b) c d)

five_left : (a b c d e : List ℕ) → a ++ (b ++ (c ++ (d ++ (e ++ [])))) ≡ a ++ b ++ c ++ d ++ e
five_left a b c d e =
    ap (λ l. a ++ (b ++ (c ++ (d ++ l)))) (append-nil e) ∙ sym (append_assoc a b (c ++ (d ++ e))) ∙ sym (append_assoc (a ++ b) c (d ++ e)) ∙ sym (append_assoc (a ++ b ++ c) d e)

-- each of the parts is known by another name
pub four_told : (old new a b c d a1 b1 c1 d1 : List ℕ) → new ≡ old ++ (a1 ++ (b1 ++ (c1 ++ (d1 ++ [])))) → a1 ≡ a → b1 ≡ b → c1 ≡ c → d1 ≡ d → new ≡ old ++ (a ++ b ++ c ++ d)
four_told old new a b c d a1 b1 c1 d1 is ea eb ec ed =
    is ∙ ap (λ x. old ++ (x ++ (b1 ++ (c1 ++ (d1 ++ []))))) ea ∙ ap (λ x. old ++ (a ++ (x ++ (c1 ++ (d1 ++ []))))) eb
    ∙ ap (λ x. old ++ (a ++ (b ++ (x ++ (d1 ++ []))))) ec ∙ ap (λ x. old ++ (a ++ (b ++ (c ++ (x ++ []))))) ed ∙ ap (λ l. old ++ l) (four_left a b c d)

pub five_told : (old new a b c d e a1 b1 c1 d1 e1 : List ℕ) → new ≡ old ++ (a1 ++ (b1 ++ (c1 ++ (d1 ++ (e1 ++ []))))) → a1 ≡ a → b1 ≡ b → c1 ≡ c → d1 ≡ d → e1 ≡ e
    → new ≡ old ++ (a ++ b ++ c ++ d ++ e)
five_told old new a b c d e a1 b1 c1 d1 e1 is ea eb ec ed ee =
    is ∙ ap (λ x. old ++ (x ++ (b1 ++ (c1 ++ (d1 ++ (e1 ++ [])))))) ea ∙ ap (λ x. old ++ (a ++ (x ++ (c1 ++ (d1 ++ (e1 ++ [])))))) eb
    ∙ ap (λ x. old ++ (a ++ (b ++ (x ++ (d1 ++ (e1 ++ [])))))) ec ∙ ap (λ x. old ++ (a ++ (b ++ (c ++ (x ++ (e1 ++ [])))))) ed
    ∙ ap (λ x. old ++ (a ++ (b ++ (c ++ (d ++ (x ++ [])))))) ee ∙ ap (λ l. old ++ l) (five_left a b c d e)

-- what holds anyway holds where the answer is an error
pub where_err : {A E P : Type 0} (r : Result A E) → P → OnErr r P
where_err (Ok x) holds_so = tt
where_err (Err e) holds_so = holds_so

-- what begins with what two parts were appended to begins with what was there
pub begins_before : (old a b o1 o2 o3 : List ℕ) → o1 ≡ old ++ a → o2 ≡ o1 ++ b → StartsWith o3 o2 → StartsWith o3 old
begins_before old a b o1 o2 o3 e1 e2 begins = starts_with_trans o3 o2 old begins (starts_with_of_append o2 old (a ++ b) (e2 ∙ ap (λ l. l ++ b) e1 ∙ append_assoc old a b))
