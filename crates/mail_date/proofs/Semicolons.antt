-- The semicolon that is found is the last one which no quoted string and no comment holds.
use Rattle.std.proofs.Common.{◌≡◌, ℕ, suc, ◌+◌, ◌≤◌, Bool, true, false, cond, List, [], ◌∷◌, ◌++◌, length, drop, refl, ap, sym, subst, ◌∙◌, arith, inl, inr, ◌⊎◌}
use Rattle.std.specs.Prelude.{Option, Some, None, ◌==◌, ◌&&◌}
use Rattle.std.proofs.lemmas.Bool.Decides.{Decides-eqb}
use Rattle.mail_date.specs.declared.place.Place.{Place}
use Rattle.mail_date.specs.Fields.{last_semicolon, date_part}
use Rattle.mail_date.specs.Header.{Closed, BehindLast}
use Rattle.mail_date.specs.Reading.{◌>>=◌, outside, is_outside, behind}
use Rattle.mail_date.proofs.Blanks.{bind_some}
use Rattle.mail_date.proofs.Places.{after, closed_after, closed_by}

-- where the text begins at this place, no semicolon is outside
abbrev NoneIn : Place → List ℕ → Type 0
NoneIn p text = (front rest : List ℕ) → text ≡ front ++ 59 ∷ rest → is_outside (after p front) ≡ true → ⊥

-- where the text begins at this place, behind so many bytes: its last semicolon outside, and the number that is told of it
record Last (p : Place) (text : List ℕ) (seen n : ℕ) : Type 0 where
  front : List ℕ
  part : List ℕ
  parts : text ≡ front ++ 59 ∷ part
  is : is_outside (after p front) ≡ true
  told : n ≡ suc (seen + length front)
  last : (other rest : List ℕ) → text ≡ other ++ 59 ∷ rest → is_outside (after p other) ≡ true → length other ≤ length front

-- what is answered: a semicolon that was found before, if there is none here, or the last one here
abbrev Answer : Place → List ℕ → ℕ → Option ℕ → Option ℕ → Type 0
Answer p text seen found None = (found ≡ None) × NoneIn p text
Answer p text seen found (Some n) = ((found ≡ Some n) × NoneIn p text) ⊎ Last p text seen n

both : (t u : Bool) → (t && u) ≡ true → (t ≡ true) × (u ≡ true)
both true u e = (refl, e)
both false u e = absurd cc

clash : (t u : Bool) → (t && u) ≡ false → t ≡ true → u ≡ true → ⊥
clash true u e f g = absurd cc
clash false u e f g = absurd cc

-- no semicolon at the first byte and none behind it
none_further : (p : Place) (b : ℕ) (bs : List ℕ) → (is_outside p && (b == 59)) ≡ false → NoneIn (behind p b) bs → NoneIn p (b ∷ bs)
none_further p b bs f n [] rest e o =
    let is : b ≡ 59 = cc in
    clash (is_outside p) (b == 59) f o ((Decides-eqb b 59).1 is)
none_further p b bs f n (x ∷ xs) rest e o =
    let first : x ≡ b = cc in
    let more : bs ≡ xs ++ 59 ∷ rest = cc in
    n xs rest more (subst (λ (y : ℕ). is_outside (after (behind p y) xs) ≡ true) first o)

further : (p : Place) (b : ℕ) (bs : List ℕ) (seen n : ℕ) → Last (behind p b) bs (seen + 1) n → Last p (b ∷ bs) seen n
further p b bs seen n l =
    let told = l.told in
    record {
      front = b ∷ l.front;
      part = l.part;
      parts = ap (λ (t : List ℕ). b ∷ t) l.parts;
      is = l.is;
      told = omega (arith, told);
      last = later l.last;
    }
  where
    later : ((other rest : List ℕ) → bs ≡ other ++ 59 ∷ rest → is_outside (after (behind p b) other) ≡ true → length other ≤ length l.front)
        → (other rest : List ℕ) → b ∷ bs ≡ other ++ 59 ∷ rest → is_outside (after p other) ≡ true → length other ≤ suc (length l.front)
    later h [] rest e o = omega arith
    later h (x ∷ xs) rest e o =
        let first : x ≡ b = cc in
        let more : bs ≡ xs ++ 59 ∷ rest = cc in
        let k = h xs rest more (subst (λ (y : ℕ). is_outside (after (behind p y) xs) ≡ true) first o) in
        omega (arith, k)

-- the first byte is the last semicolon
at_first : (p : Place) (b : ℕ) (bs : List ℕ) (seen n : ℕ) → (is_outside p && (b == 59)) ≡ true → seen + 1 ≡ n → NoneIn (behind p b) bs → Last p (b ∷ bs) seen n
at_first p b bs seen n t e none =
    let k = both (is_outside p) (b == 59) t in
    record {
      front = [];
      part = bs;
      parts = ap (λ (x : ℕ). x ∷ bs) ((Decides-eqb b 59).0 k.1);
      is = k.0;
      told = omega (arith, e);
      last = later;
    }
  where
    later : (other rest : List ℕ) → b ∷ bs ≡ other ++ 59 ∷ rest → is_outside (after p other) ≡ true → length other ≤ 0
    later [] rest e o = omega arith
    later (x ∷ xs) rest e o =
        let first : x ≡ b = cc in
        let more : bs ≡ xs ++ 59 ∷ rest = cc in
        absurd (none xs rest more (subst (λ (y : ℕ). is_outside (after (behind p y) xs) ≡ true) first o))

step : (p : Place) (b : ℕ) (bs : List ℕ) (seen : ℕ) (found : Option ℕ) (t : Bool) → (is_outside p && (b == 59)) ≡ t → (answer : Option ℕ)
    → Answer (behind p b) bs (seen + 1) (cond t (Some (seen + 1)) found) answer → Answer p (b ∷ bs) seen found answer
step p b bs seen found true e None (f, n) = absurd cc
step p b bs seen found false e None (f, n) = (f, none_further p b bs e n)
step p b bs seen found t e (Some n) (inr l) = inr (further p b bs seen n l)
step p b bs seen found true e (Some n) (inl (f, none)) = inr (at_first p b bs seen n e (let k : seen + 1 ≡ n = cc in k) none)
step p b bs seen found false e (Some n) (inl (f, none)) = inl (f, none_further p b bs e none)

none_left : (p : Place) → NoneIn p []
none_left p [] rest e o = absurd cc
none_left p (x ∷ xs) rest e o = absurd cc

at_end : (p : Place) (seen : ℕ) (found : Option ℕ) → Answer p [] seen found found
at_end p seen None = (refl, none_left p)
at_end p seen (Some n) = inl (refl, none_left p)

answered : (p : Place) (seen : ℕ) (found : Option ℕ) (text : List ℕ) → Answer p text seen found (last_semicolon p seen found text)
answered p seen found [] = at_end p seen found
answered p seen found (b ∷ bs) =
    let t = is_outside p && (b == 59) in
    let more = cond t (Some (seen + 1)) found in
    step p b bs seen found t refl (last_semicolon (behind p b) (seen + 1) more bs) (answered (behind p b) (seen + 1) more bs)

-- ---- the date's part

behind_front : (xs ys : List ℕ) (b : ℕ) → drop (suc (length xs)) (xs ++ b ∷ ys) ≡ ys
behind_front [] ys b = refl
behind_front (x ∷ xs) ys b = behind_front xs ys b

is_closed : {text : List ℕ} → Closed text → is_outside (after outside text) ≡ true
is_closed c = ap is_outside (closed_after c)

pub part_sound : (body part : List ℕ) → date_part body ≡ Some part → BehindLast body part
part_sound body part e =
    let n = bind_some (last_semicolon outside 0 None body) (λ (n : ℕ). Some (drop n body)) part e in
    by n.0 (subst (Answer outside body 0 None) n.1 (answered outside 0 None body)) (let k : drop n.0 body ≡ part = cc in k)
  where
    by : (n : ℕ) → Answer outside body 0 None (Some n) → drop n body ≡ part → BehindLast body part
    by n (inl (f, none)) k = absurd cc
    by n (inr l) k =
        let told = l.told in
        let size : n ≡ suc (length l.front) = omega (arith, told) in
        let same : l.part ≡ part =
        sym (behind_front l.front l.part 59) ∙ ap (drop (suc (length l.front))) (sym l.parts) ∙ ap (λ (m : ℕ). drop m body) (sym size) ∙ k in
        record {
          front = l.front;
          parts = l.parts ∙ ap (λ (t : List ℕ). l.front ++ 59 ∷ t) same;
          closed = closed_by l.front l.is;
          last = λ other rest e c. l.last other rest e (is_closed c);
        }

pub part_again : (body part : List ℕ) → BehindLast body part → date_part body ≡ Some part
part_again body part h = by (last_semicolon outside 0 None body) (answered outside 0 None body)
  where
    by : (o : Option ℕ) → Answer outside body 0 None o → (o >>= (λ (n : ℕ). Some (drop n body))) ≡ Some part
    by None (f, none) = absurd (none h.front part h.parts (is_closed h.closed))
    by (Some n) (inl (f, none)) = absurd cc
    by (Some n) (inr l) =
        let told = l.told in
        let low = l.last h.front part h.parts (is_closed h.closed) in
        let high = h.last l.front l.part l.parts (closed_by l.front l.is) in
        let size : n ≡ suc (length h.front) = omega (arith, told, low, high) in
        ap (λ (m : ℕ). Some (drop m body)) size
        ∙ ap (λ (t : List ℕ). Some (drop (suc (length h.front)) t)) h.parts
        ∙ ap (λ (t : List ℕ). Some t) (behind_front h.front part 59)
