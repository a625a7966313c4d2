-- Refusals that no report can have: what the definitions refuse.
use Rattle.std.proofs.Common.{rules, ◌≡◌, ◌≢◌, ◌≤◌, ◌<◌, ◌++◌, ◌∷◌, ◌∙◌, ℕ, suc, List, [], length, ap, inl, inr, arith, append_assoc, refl, subst, sym, All}
use Rattle.std.proofs.lemmas.List.Elements.{All-head, All-tail}
use Rattle.std.proofs.lemmas.List.{length-append}
use Rattle.delivery_token.specs.declared.CopyKey.{CopyKey}
use Rattle.delivery_token.specs.declared.Job.{Job}
use Rattle.delivery_token.specs.declared.Refusal.TheVariants as why
use Rattle.delivery_token.specs.declared.Verdict.TheVariants.{Refused}
use Rattle.envelope.specs.Names.{Directory}
use Rattle.settings.specs.declared.config.Config.{Config}
use Rattle.running_house.specs.Refusals.{Allows, AreTogether, CameBehind, HadNoRoom, IsNotLater, MayWait, MayWaitTogether, StandAmong, WasFilled}
use Rattle.shard_queue.specs.declared.lane.Entry.{Entry}
use Rattle.shard_queue.specs.declared.lane.Entry.TheVariants.{Item}

-- a lane from which fewer entries were taken than have room there was never full, however many producers it has
pub never_full : (depth : ℕ) (key : CopyKey) (taken : List (Entry Job)) → length taken < depth → HadNoRoom depth key taken → ⊥
never_full depth key taken few had =
    let split = ap length had.split ∙ length-append had.first had.later in
    let inner = ap length had.filled.split ∙ length-append (had.filled.gone ++ had.filled.waiting) had.filled.meanwhile in
    let front = length-append had.filled.gone had.filled.waiting in
    let many = had.filled.many in
    absurd (omega (arith, few, split, inner, front, many))

-- nor was one with room for two, where the first entry was another producer's, and the next was put by the copy's own producer later
pub never_full_before : (key : CopyKey) (other : Entry Job) (own : Entry Job) (rest : List (Entry Job)) → (IsNotLater key own → ⊥) → HadNoRoom 2 key (other ∷ own ∷ rest) → ⊥
never_full_before key other own rest later had = go had.first had.split had.own (long had.first had.filled) where
  long : (first : List (Entry Job)) → WasFilled 2 key first → 2 ≤ length first
  long first filled =
      let inner = ap length filled.split ∙ length-append (filled.gone ++ filled.waiting) filled.meanwhile in
      let front = length-append filled.gone filled.waiting in
      let many = filled.many in
      omega (arith, inner, front, many)

  go : (first : List (Entry Job)) → other ∷ own ∷ rest ≡ first ++ had.later → All (IsNotLater key) first → 2 ≤ length first → ⊥
  go [] split all many = absurd (omega (arith, many))
  go (x ∷ []) split all many = absurd (omega (arith, many))
  go (x ∷ y ∷ first) split all many =
      let same : own ≡ y = cc in
      later (subst (IsNotLater key) (sym same) (All-head (IsNotLater key) y first (All-tail (IsNotLater key) x (y ∷ first) all)))

-- some of these waited
one_waited : (P : Entry Job → Type 0) (gone waiting rest entries : List (Entry Job)) → entries ≡ (gone ++ waiting) ++ rest → All (λ entry. P entry → ⊥) entries → All P waiting → 0 < length waiting → ⊥
one_waited P gone [] rest entries split none all some = absurd (omega (arith, some))
one_waited P [] (x ∷ waiting) rest [] split none all some = absurd (omega (arith, ap length split))
one_waited P [] (x ∷ waiting) rest (y ∷ entries) split none all some =
    let same : y ≡ x = cc in
    All-head (λ entry. P entry → ⊥) y entries none (subst P (sym same) (All-head P x waiting all))
one_waited P (x ∷ gone) (z ∷ waiting) rest [] split none all some = absurd (omega (arith, ap length split))
one_waited P (x ∷ gone) (z ∷ waiting) rest (y ∷ entries) split none all some =
    let others : entries ≡ (gone ++ z ∷ waiting) ++ rest = cc in
    one_waited P gone (z ∷ waiting) rest entries others (All-tail (λ entry. P entry → ⊥) y entries none) all some

-- nor was one that had nothing but copies of earlier messages of the copy's own producer: each was answered, and so taken, before the next message
pub never_full_of_answered : (depth : ℕ) (key : CopyKey) (taken : List (Entry Job)) → 0 < depth → All (λ entry. MayWait key entry → ⊥) taken → HadNoRoom depth key taken → ⊥
never_full_of_answered depth key taken some none had =
    let filled = had.filled in
    let many = filled.many in
    let split : taken ≡ (filled.gone ++ filled.waiting) ++ (filled.meanwhile ++ had.later) =
    had.split ∙ ap (λ (l : List (Entry Job)). l ++ had.later) filled.split ∙ append_assoc (filled.gone ++ filled.waiting) filled.meanwhile had.later in
    one_waited (MayWait key) filled.gone filled.waiting (filled.meanwhile ++ had.later) taken split none filled.own (omega (arith, some, many))

-- nor was one with room for two, from which two copies of different messages of one other producer were taken, and nothing else: the second was put when the first was answered
pub never_full_in_turn : (key : CopyKey) (producer : ℕ) (one other : Job) → one.key.message ≢ other.key.message → HadNoRoom 2 key (Item producer one ∷ Item producer other ∷ []) → ⊥
never_full_in_turn key producer one other differ had =
    go had.filled.gone had.filled.waiting (had.filled.meanwhile ++ had.later)
    (had.split ∙ ap (λ (l : List (Entry Job)). l ++ had.later) had.filled.split ∙ append_assoc (had.filled.gone ++ had.filled.waiting) had.filled.meanwhile had.later)
    had.filled.together had.filled.many where
      go : (gone waiting rest : List (Entry Job)) → Item producer one ∷ Item producer other ∷ [] ≡ (gone ++ waiting) ++ rest → AreTogether waiting → 2 ≤ length waiting → ⊥
      go gone [] rest split together many = absurd (omega (arith, many))
      go gone (x ∷ []) rest split together many = absurd (omega (arith, many))
      go [] (x ∷ y ∷ waiting) rest split together many =
          let first : Item producer one ≡ x = cc in
          let second : Item producer other ≡ y = cc in
          let beside = subst (MayWaitTogether (Item producer one)) (sym second)
          (subst (λ (e : Entry Job). MayWaitTogether e y) (sym first) (All-head (MayWaitTogether x) y waiting together.0)) in
          absurd (differ (beside refl).1)
      go (z ∷ gone) (x ∷ y ∷ waiting) rest split together many =
          let long = ap length split in
          let front = length-append (gone ++ x ∷ y ∷ waiting) rest in
          let inner = length-append gone (x ∷ y ∷ waiting) in
          absurd (omega (arith, long, front, inner))

-- so many can't be the first of none
none_first : {count : ℕ} (first others : List (CopyKey × ℕ)) → [] ≡ first ++ others → count ≤ length first → 0 < count → ⊥
none_first [] others parts many some = absurd (omega (arith, many, some))
none_first (x ∷ first) others parts many some = absurd (omega (arith, ap length parts))

-- a mailbox that accepted no copy was never full
pub never_full_mailbox : (config : Config) (directory : Directory) (taken : List (List (Entry Job))) (key : CopyKey) (mailbox : ℕ) → 0 < config.messages
    → Allows config directory [] taken key mailbox (Refused why.MailboxFull) → ⊥
never_full_mailbox config directory taken key mailbox some allows = none_first allows.first allows.others allows.parts allows.many some

-- and its UIDs, which began at 1, weren't spent
pub never_spent : (config : Config) (directory : Directory) (taken : List (List (Entry Job))) (key : CopyKey) (mailbox : ℕ) → config.first_uid ≡ 1
    → Allows config directory [] taken key mailbox (Refused why.UidSpent) → ⊥
never_spent config directory taken key mailbox begins allows = none_first allows.first allows.others allows.parts allows.many (omega (arith, begins))

-- the first copy that was taken from a lane stands behind none, so it found no mailbox full, whatever was accepted later
pub first_has_room : (count mailbox producer : ℕ) (copy : Job) (accepted : List (CopyKey × ℕ)) → 0 < count → CameBehind count mailbox copy.key accepted (Item producer copy ∷ []) → ⊥
first_has_room count mailbox producer copy accepted some came = go came.before came.first came.split came.stood came.many where
  go : (before : List (Entry Job)) (first : List (CopyKey × ℕ)) → Item producer copy ∷ [] ≡ before ++ Item came.producer came.copy ∷ came.after → StandAmong mailbox first before → count ≤ length first → ⊥
  go [] [] split stood many = absurd (omega (arith, some, many))
  go [] (x ∷ first) split stood many = absurd stood
  go (x ∷ before) first split stood many = let long = ap length split ∙ ap suc (length-append before (Item came.producer came.copy ∷ came.after)) in absurd (omega (arith, long))

-- nor did the second of three, where the first was refused and the third was the first that the mailbox accepted
pub refused_copies_take_no_room : (mailbox producer : ℕ) (refused copy stored : Job) (uid : ℕ) → refused.key ≢ stored.key → refused.key ≢ copy.key → stored.key ≢ copy.key
    → CameBehind 1 mailbox copy.key ((stored.key, uid) ∷ []) (Item producer refused ∷ Item producer copy ∷ Item producer stored ∷ []) → ⊥
refused_copies_take_no_room mailbox producer refused copy stored uid other not_first not_third came = go came.before came.first came.split came.parts came.stood came.many where
  go : (before : List (Entry Job)) (first : List (CopyKey × ℕ)) → Item producer refused ∷ Item producer copy ∷ Item producer stored ∷ [] ≡ before ++ Item came.producer came.copy ∷ came.after
      → (stored.key, uid) ∷ [] ≡ first ++ came.others → StandAmong mailbox first before → 1 ≤ length first → ⊥
  go before [] split parts stood many = absurd (omega (arith, many))
  go [] (x ∷ first) split parts stood many = absurd stood
  go (e ∷ []) (x ∷ first) split parts (inl here) many = absurd (search rules)
  go (e ∷ []) (x ∷ first) split parts (inr stood) many = absurd stood
  go (e ∷ f ∷ []) (x ∷ first) split parts stood many = absurd (search rules)
  go (e ∷ f ∷ g ∷ before) (x ∷ first) split parts stood many =
      let long = ap length split in
      let more = length-append before (Item came.producer came.copy ∷ came.after) in
      absurd (omega (arith, long, more))
