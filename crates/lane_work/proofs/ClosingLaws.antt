-- Which shards are marked before which connection.
use Rattle.std.proofs.Common.{◌≡◌, ℕ, zero, suc, ◌+◌, ◌∙◌, Bool, true, false, List, [], ◌∷◌, length, refl, ap, sym, subst, arith, take, ◌==◌, ◌&&◌, ◌||◌}
use Rattle.std.specs.Prelude.{nat_lt, nat_le}
use Rattle.std.specs.List.{list_any}
use Rattle.std.proofs.lemmas.Bool.Decides.{nat_tests}
use Rattle.envelope.specs.Names.{Directory, is_shut, marked}
use Rattle.lane_work.specs.declared.desk.Closing.{Closing}
use Rattle.lane_work.specs.Account.{IsMarkedBy, is_closed_by}
use Rattle.lane_work.specs.inner.Closing.{IsMarkedBefore, Marks, is_closed_at, is_closed_before}
use Rattle.delivery_token.specs.declared.Job.{Job}
use Rattle.lane_work.specs.declared.desk.LanePermit.{LanePermit}
use Rattle.lane_work.specs.Permits.{AreShutWhereOver}
use Rattle.lane_work.proofs.RoundLaws.{over_within}

or_assoc : (a b c : Bool) → ((a || b) || c) ≡ (a || (b || c))
or_assoc true b c = refl
or_assoc false b c = refl

none_before : (shard : ℕ) (cs : List Closing) → list_any (is_closed_before 0 shard) cs ≡ false
none_before shard [] = refl
none_before shard (c ∷ cs) =
    let first : nat_lt c.connection 0 ≡ false = grind (arith, nat_tests) in
    ap (λ b. (b && (c.shard == shard)) || list_any (is_closed_before 0 shard) cs) first ∙ none_before shard cs

-- before a connection: before it, or before an earlier one
one_by : (c i : ℕ) (b : Bool) → ((nat_lt c i && b) || ((c == i) && b)) ≡ (nat_le c i && b)
one_by c i true = grind (arith, nat_tests)
one_by c i false = grind (arith, nat_tests)

or_swap : (a b c d : Bool) → ((a || b) || (c || d)) ≡ ((a || c) || (b || d))
or_swap true b c d = refl
or_swap false true true d = refl
or_swap false true false d = refl
or_swap false false c d = refl

closed_by : (i shard : ℕ) (cs : List Closing) → (list_any (is_closed_before i shard) cs || list_any (is_closed_at i shard) cs) ≡ list_any (is_closed_by i shard) cs
closed_by i shard [] = refl
closed_by i shard (c ∷ cs) =
    or_swap (is_closed_before i shard c) (list_any (is_closed_before i shard) cs) (is_closed_at i shard c) (list_any (is_closed_at i shard) cs)
    ∙ ap (λ b. b || (list_any (is_closed_before i shard) cs || list_any (is_closed_at i shard) cs)) (one_by c.connection i (c.shard == shard))
    ∙ ap (λ b. is_closed_by i shard c || b) (closed_by i shard cs)

one_next : (c i : ℕ) → nat_lt c (i + 1) ≡ nat_le c i
one_next c i = grind (arith, nat_tests)

before_next : (i shard : ℕ) (cs : List Closing) → list_any (is_closed_before (i + 1) shard) cs ≡ list_any (is_closed_by i shard) cs
before_next i shard [] = refl
before_next i shard (c ∷ cs) = ap (λ b. (b && (c.shard == shard)) || list_any (is_closed_before (i + 1) shard) cs) (one_next c.connection i) ∙ ap (λ b. is_closed_by i shard c || b) (before_next i shard cs)

or_none : (b : Bool) → (b || false) ≡ b
or_none true = refl
or_none false = refl

pub marked_first : (closings : List Closing) (house own : Directory) → own ≡ house → length own.shut ≡ own.shards → IsMarkedBefore closings 0 house own
marked_first closings house own same as_many = record {
  same = same ∙ ap (λ (d : Directory). marked d.shut house) (sym same);
  as_many = as_many;
  marks = λ shard within. ap (λ (d : Directory). is_shut d shard) same ∙ sym (ap (λ b. is_shut house shard || b) (none_before shard closings) ∙ or_none (is_shut house shard));
}

-- the shards of this connection are marked
pub marked_at : (closings : List Closing) (i : ℕ) (house old new : Directory) → IsMarkedBefore closings i house old → Marks i closings old new → IsMarkedBy closings i house new
marked_at closings i house old new was now = record {
  same = now.0 ∙ ap (marked new.shut) was.same;
  marks = λ shard within.
      let shards : old.shards ≡ house.shards = ap (λ (d : Directory). d.shards) was.same in
      now.2 shard (omega (arith, within, shards))
      ∙ ap (λ b. b || list_any (is_closed_at i shard) closings) (was.marks shard within)
      ∙ or_assoc (is_shut house shard) (list_any (is_closed_before i shard) closings) (list_any (is_closed_at i shard) closings)
      ∙ ap (λ b. is_shut house shard || b) (closed_by i shard closings);
}

pub marked_next : (closings : List Closing) (i : ℕ) (house old new : Directory) → IsMarkedBefore closings i house old → Marks i closings old new → IsMarkedBefore closings (i + 1) house new
marked_next closings i house old new was now =
    let here = marked_at closings i house old new was now in
    record {
      same = here.same;
      as_many = now.1 ∙ was.as_many ∙ sym (ap (λ (d : Directory). d.shards) now.0);
      marks = λ shard within. here.marks shard within ∙ ap (λ b. is_shut house shard || b) (sym (before_next i shard closings));
    }

-- ---- one after another

pub none_marked : (i : ℕ) (d : Directory) → Marks i [] d d
none_marked i d = (refl, refl, λ shard within. sym (or_none (is_shut d shard)))

take_all : (cs : List Closing) (k : ℕ) → k ≡ length cs → take k cs ≡ cs
take_all [] zero e = refl
take_all [] (suc k) e = refl
take_all (c ∷ cs) zero e = absurd (omega arith)
take_all (c ∷ cs) (suc k) e = ap (λ l. c ∷ l) (take_all cs k (omega arith))

pub all_marked : (i : ℕ) (cs : List Closing) (k : ℕ) (first now : Directory) → k ≡ length cs → Marks i (take k cs) first now → Marks i cs first now
all_marked i cs k first now e h = subst (λ l. Marks i l first now) (take_all cs k e) h

-- ---- permits over such a directory

pub still_shut : (i : ℕ) (cs : List Closing) (old new : Directory) (ss : List (LanePermit Job)) (lanes : ℕ) → length ss ≡ lanes → lanes ≡ old.shards → Marks i cs old new → AreShutWhereOver old ss → AreShutWhereOver new ss
still_shut i cs old new ss lanes as_many shards marks were lane over =
    let w = over_within ss lane over in
    marks.2 lane (omega (arith, w, as_many, shards)) ∙ ap (λ b. b || list_any (is_closed_at i lane) cs) (were lane over)
