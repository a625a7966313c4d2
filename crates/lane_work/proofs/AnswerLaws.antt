-- What a consumer says on its channels.
use Rattle.std.proofs.Common.{◌≡◌, ◌≢◌, ◌⊎◌, inl, inr, ℕ, zero, suc, ◌<◌, ◌++◌, ◌∙◌, ap, refl, sym, subst, List, [], ◌∷◌, length, map, slice_index_or, slice_set, append_assoc, append-nil, true, false, Bool, Option, Some, None, IfSome, MatchOption, ◌||◌, eqb, arith}
use Rattle.std.specs.List.{list_any}
use Rattle.std.proofs.lemmas.Bool.Decides.{eqb_tells}
use Rattle.std.proofs.lemmas.List.{get_or-set_same, get_or-set_other, length-map, map-set}
use Rattle.delivery_token.specs.declared.CopyKey.{CopyKey}
use Rattle.delivery_token.specs.declared.Job.{Job}
use Rattle.delivery_token.specs.declared.Verdict.{Verdict}
use Rattle.delivery_token.specs.declared.log.Noted.{Noted}
use Rattle.shard_queue.specs.declared.lane.Entry.{Entry}
use Rattle.shard_queue.specs.declared.lane.Entry.TheVariants.{Item, End}
use Rattle.shard_queue.specs.Reply.{ReplyChannel}
use Rattle.shard_queue.specs.Reply.{SenderPermit}
use Rattle.shard_queue.specs.Reply.{sender_number, sent_on}
use Rattle.lane_work.specs.Answering.{HaveClosed, IsVerdict, Serves, WereAnswered, answered, is_nobodys, none, passed, telling}
use Rattle.lane_work.specs.inner.Answering.{HaveAnswered}
use Rattle.lane_work.specs.Permits.{AreSenders}
use Rattle.lane_work.proofs.PermitLaws.{senders_length}

any_next : {A : Type 0} (f : A → Bool) (xs : List A) (x : A) → list_any f (xs ++ x ∷ []) ≡ (list_any f xs || f x)
any_next f [] x = one (f x) where
  one : (b : Bool) → (b || false) ≡ b
  one true = refl
  one false = refl
any_next f (y ∷ ys) x = ap (λ b. f y || b) (any_next f ys x) ∙ sym (assoc (f y) (list_any f ys) (f x)) where
  assoc : (a b c : Bool) → ((a || b) || c) ≡ (a || (b || c))
  assoc true b c = refl
  assoc false b c = refl

sent_on_at : (ss : List (SenderPermit Noted)) (i : ℕ) (d : SenderPermit Noted) → i < length ss → slice_index_or (map sent_on ss) i [] ≡ sent_on (slice_index_or ss i d)
sent_on_at [] i d under = absurd (omega arith)
sent_on_at (s ∷ ss) zero d under = refl
sent_on_at (s ∷ ss) (suc i) d under = sent_on_at ss i d (omega arith)

-- what is noted of a copy, by its parts
pub noted_of : (noted : Noted) (job : Job) → noted.key ≡ job.key → noted.mailbox ≡ job.mailbox → noted ≡ record { key = job.key; mailbox = job.mailbox; verdict = noted.verdict }
noted_of noted job ke me =
    ap (λ (key : CopyKey). let x : Noted = record { key = key; mailbox = noted.mailbox; verdict = noted.verdict } in x) ke
    ∙ ap (λ mailbox. let x : Noted = record { key = job.key; mailbox = mailbox; verdict = noted.verdict } in x) me

-- a copy was kept, where it could be
pub kept_copy : (entry : Option (Entry Job)) (one : Entry Job) (kept all : Bool) (before after : List (Entry Job)) → IfSome entry (λ e. (kept ≡ true) × (e ≡ one))
    → MatchOption entry (all ≡ false) (λ e. all ≡ true → after ≡ before ++ e ∷ []) → all ≡ true → (kept ≡ true) × (after ≡ before ++ one ∷ [])
kept_copy None one kept all before after is never whole = absurd (let a : all ≡ false = never in cc)
kept_copy (Some e) one kept all before after is some whole = (is.0, some whole ∙ ap (λ x. before ++ x ∷ []) is.1)

-- a producer was told the verdict on its copy
pub serves_at : (mailboxes channels shard i : ℕ) (ss : List (SenderPermit Noted)) (old new : SenderPermit Noted) (job : Job) (verdict : Verdict)
    → i < channels → i < length ss → old ≡ slice_index_or ss i old → sender_number old ≡ shard
    → sent_on new ≡ sent_on old ++ telling (sender_number old) job verdict ∷ [] → IsVerdict mailboxes job verdict
    → Serves mailboxes channels shard i job (map sent_on ss) (map sent_on (slice_set ss i new))
serves_at mailboxes channels shard i ss old new job verdict under at is number says judged =
    inl (
      under,
      verdict,
      judged,
      map-set sent_on ss i new
          ∙ ap (slice_set (map sent_on ss) i) (says ∙ ap (λ n. sent_on old ++ telling n job verdict ∷ []) number
          ∙ ap (λ l. l ++ telling shard job verdict ∷ []) (ap sent_on is ∙ sym (sent_on_at ss i old at))),
    )

-- before the first copy
pub answers_begin : (mailboxes channels shard : ℕ) (got : List (Entry Job)) (before : List (List (Entry Noted))) → got ≡ [] → HaveAnswered mailboxes channels shard got before before
answers_begin mailboxes channels shard got before is p under =
    ([], subst (λ (l : List (Entry Job)). WereAnswered mailboxes shard p l []) (sym is) none, sym (append-nil (slice_index_or before p [])))

-- one more copy was served
pub answers_item : (mailboxes channels shard q : ℕ) (job : Job) (got more : List (Entry Job)) (before mid after : List (List (Entry Noted)))
    → more ≡ got ++ Item q job ∷ [] → length mid ≡ channels → Serves mailboxes channels shard q job mid after
    → HaveAnswered mailboxes channels shard got before mid → HaveAnswered mailboxes channels shard more before after
answers_item mailboxes channels shard q job got more before mid after is as_many (inr (beyond, still)) so p under =
    let a = so p under in (
      a.0,
      subst (λ (l : List (Entry Job)). WereAnswered mailboxes shard p l a.0) (sym is) (passed (Item q job) a.1 (λ (e : q ≡ p). omega (arith, e, beyond, under))),
      ap (λ l. slice_index_or l p []) still ∙ a.2,
    )
answers_item mailboxes channels shard q job got more before mid after is as_many (inl (within, verdict, judged, grew)) so p under = go (so p under) (eqb_tells q p) where
  Done : Type 0
  Done = (told : List (Entry Noted)) × WereAnswered mailboxes shard p more told × (slice_index_or after p [] ≡ slice_index_or before p [] ++ told)

  go : (told : List (Entry Noted)) × WereAnswered mailboxes shard p got told × (slice_index_or mid p [] ≡ slice_index_or before p [] ++ told)
      → ((eqb q p ≡ true) × (q ≡ p)) ⊎ ((eqb q p ≡ false) × (q ≢ p)) → Done
  go (told, were, mids) (inl (same, here)) =
      let at : p < length mid = omega (arith, as_many, under) in
      let put : slice_index_or after p [] ≡ slice_index_or mid p [] ++ telling shard job verdict ∷ [] =
      ap (λ l. slice_index_or l p []) grew
      ∙ ap (λ (n : ℕ). slice_index_or (slice_set mid n (slice_index_or mid n [] ++ telling shard job verdict ∷ [])) p []) here
      ∙ get_or-set_same mid p (slice_index_or mid p [] ++ telling shard job verdict ∷ []) [] at in (
        told ++ telling shard job verdict ∷ [],
        subst (λ (l : List (Entry Job)). WereAnswered mailboxes shard p l (told ++ telling shard job verdict ∷ [])) (ap (λ n. got ++ Item n job ∷ []) (sym here) ∙ sym is) (answered job verdict were judged),
        put ∙ ap (λ l. l ++ telling shard job verdict ∷ []) mids ∙ append_assoc (slice_index_or before p []) told (telling shard job verdict ∷ []),
      )
  go (told, were, mids) (inr (same, there)) = (
    told,
    subst (λ (l : List (Entry Job)). WereAnswered mailboxes shard p l told) (sym is) (passed (Item q job) were there),
    ap (λ l. slice_index_or l p []) grew
        ∙ get_or-set_other mid q p (slice_index_or mid q [] ++ telling shard job verdict ∷ []) [] (λ e. there (sym e)) ∙ mids,
  )

-- an end came
pub answers_end : (mailboxes channels shard q : ℕ) (got more : List (Entry Job)) (before mid : List (List (Entry Noted)))
    → more ≡ got ++ End q ∷ [] → HaveAnswered mailboxes channels shard got before mid → HaveAnswered mailboxes channels shard more before mid
answers_end mailboxes channels shard q got more before mid is so p under =
    let a = so p under in
    (a.0, subst (λ (l : List (Entry Job)). WereAnswered mailboxes shard p l a.0) (sym is) (passed (End q) a.1 (λ e. e)), a.2)

-- the senders have ended
pub answers_close : (mailboxes shard : ℕ) (got : List (Entry Job)) (qs : List (ReplyChannel Noted)) (ss : List (SenderPermit Noted)) (before after : List (List (Entry Noted))) → AreSenders qs shard ss
    → HaveClosed shard (map sent_on ss) after → HaveAnswered mailboxes (length qs) shard got before (map sent_on ss)
    → (p : ℕ) → p < length qs → (told : List (Entry Noted)) × WereAnswered mailboxes shard p got told × (slice_index_or after p [] ≡ (slice_index_or before p [] ++ told) ++ End shard ∷ [])
answers_close mailboxes shard got qs ss before after permits closed so p under =
    let a = so p under in
    let n = senders_length qs shard ss permits in
    let m = length-map ss sent_on in
    (a.0, a.1, ap (λ l. slice_index_or l p []) closed ∙ at_end (map sent_on ss) p (omega (arith, n, m, under)) ∙ ap (λ l. l ++ End shard ∷ []) a.2) where
      at_end : (xs : List (List (Entry Noted))) (i : ℕ) → i < length xs → slice_index_or (map (λ entries. entries ++ End shard ∷ []) xs) i [] ≡ slice_index_or xs i [] ++ End shard ∷ []
      at_end [] i h = absurd (omega arith)
      at_end (x ∷ xs) zero h = refl
      at_end (x ∷ xs) (suc i) h = at_end xs i (omega arith)

-- whether one was nobody's, after one more entry
pub torn_next : (mailboxes channels : ℕ) (got more : List (Entry Job)) (entry : Entry Job) (torn one : Bool) → more ≡ got ++ entry ∷ [] → one ≡ is_nobodys mailboxes channels entry
    → torn ≡ list_any (is_nobodys mailboxes channels) got → (torn || one) ≡ list_any (is_nobodys mailboxes channels) more
torn_next mailboxes channels got more entry torn one is known so =
    ap (λ b. b || one) so ∙ ap (λ b. list_any (is_nobodys mailboxes channels) got || b) known ∙ sym (ap (list_any (is_nobodys mailboxes channels)) is ∙ any_next (is_nobodys mailboxes channels) got entry)

-- an end is nobody's copy
pub torn_end : (mailboxes channels : ℕ) (got more : List (Entry Job)) (q : ℕ) → more ≡ got ++ End q ∷ [] → list_any (is_nobodys mailboxes channels) got ≡ list_any (is_nobodys mailboxes channels) more
torn_end mailboxes channels got more q is =
    no_more (list_any (is_nobodys mailboxes channels) got) ∙ sym (ap (list_any (is_nobodys mailboxes channels)) is ∙ any_next (is_nobodys mailboxes channels) got (End q)) where
      no_more : (b : Bool) → b ≡ (b || false)
      no_more true = refl
      no_more false = refl
