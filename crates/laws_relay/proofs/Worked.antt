-- A whole account beside lists that agree, as the laws take them: one worker's one connection, on which a message for alice was handed over and stored.
use Rattle.std.proofs.Common.{◌≡◌, inl, inr, ℕ, zero, suc, ◌<◌, true, false, List, [], ◌∷◌, refl, subst, Contains, arith}
use Rattle.std.specs.Prelude.{codes, slice_index_or, ◌||◌}
use Rattle.std.proofs.lemmas.List.Elements.{All-cons, All-nil}
use Rattle.change_ring.specs.Log.{no_flags}
use Rattle.delivery_token.specs.Text.{Text, undated}
use Rattle.delivery_token.specs.declared.CopyKey.{CopyKey}
use Rattle.delivery_token.specs.declared.Job.{Job}
use Rattle.delivery_token.specs.declared.Verdict.TheVariants.{Stored}
use Rattle.delivery_token.specs.declared.log.Noted.{Noted}
use Rattle.envelope.specs.Names.{is_shut, shard_of}
use Rattle.envelope.specs.Reading.{read, forward_at}
use Rattle.lane_work.specs.Account.{Premises, setting_at}
use Rattle.lane_work.specs.Talk.{Judged}
use Rattle.lmtp_machine.specs.declared.reply.Reply.{Reply}
use Rattle.lmtp_machine.specs.declared.reply.Reply.TheVariants.{Greeting, Extensions, SenderOk, RecipientOk, StartInput, Bye, Delivered}
use Rattle.lmtp_machine.specs.Dialogue.{Ended, Line, Answered, wire}
use Rattle.shard_queue.specs.declared.lane.Entry.{Entry}
use Rattle.shard_queue.specs.declared.lane.Entry.TheVariants.{Item, End}
use Rattle.running_house.specs.Accounting.{AccountOfLines}
use Rattle.running_house.specs.Conversing.{AreDialogues, IsConnection}
use Rattle.running_house.specs.Storing.{AreVerdicts, IsFull, WasPut, WasSubmitted}
use Rattle.running_house.specs.Woven.{IsWholeDialogue, line, none, submits}
use Rattle.running_house.specs.rows.Rows.{alice}
use Rattle.running_house.proofs.ListLaws.{contains_cases, contains_none, first_of}
use Rattle.running_house.specs.Lists.{IsOfCopy, IsTold, ListsAgree, MailboxAgrees}
use Rattle.laws_relay.specs.Concluding.{RelaysConclude}
use Rattle.laws_relay.specs.Concludes.{key_at}
use Rattle.laws_relay.specs.AccountLaws.{AccountsConclude, DoUidsRise, TakenIsItsOwn}
use Rattle.laws_relay.proofs.Positions.{the_one}

-- ---- the connection

abbrev house : Premises
house = record {
  directory = alice;
  rooms = record { producers = 1; capacity = 4 } ∷ [];
  host = codes "mx.example.org";
  max_message = 1000;
  closings = [];
}

abbrev one_message : List ℕ
one_message = codes "LHLO c.example\r\nMAIL FROM:<s@a.example>\r\nRCPT TO:<alice@example.org>\r\nDATA\r\nhi\r\n.\r\nQUIT\r\n"

abbrev key : CopyKey
key = key_at 0 0 0 0

abbrev judged : List Judged
judged = record {
  message = record { keys = key ∷ []; mailboxes = 0 ∷ []; text = undated (codes "Return-Path: <s@a.example>\r\nhi\r\n") };
  verdicts = Stored 7 ∷ [];
} ∷ []

abbrev replies : List Reply
replies = Greeting ∷ Extensions ∷ SenderOk ∷ RecipientOk ∷ StartInput ∷ Delivered ∷ Bye ∷ []

spoken : IsWholeDialogue (setting_at house 0 0) alice one_message replies judged
unfolding read forward_at
spoken = record {
  lines = codes "LHLO c.example" ∷ codes "MAIL FROM:<s@a.example>" ∷ codes "RCPT TO:<alice@example.org>" ∷ codes "DATA" ∷ codes "hi" ∷ codes "." ∷ codes "QUIT" ∷ [];
  unheard = [];
  events = Line (codes "LHLO c.example") ∷ Line (codes "MAIL FROM:<s@a.example>") ∷ Line (codes "RCPT TO:<alice@example.org>") ∷ Line (codes "DATA") ∷ Line (codes "hi")
      ∷ Line (codes ".") ∷ Answered (Stored 7 ∷ []) ∷ Line (codes "QUIT") ∷ [];
  last = record { phase = Ended; submitted = 1 };
  whole = refl;
  woven = line (codes "LHLO c.example") (Line (codes "LHLO c.example")) refl tt refl (line (codes "MAIL FROM:<s@a.example>") (Line (codes "MAIL FROM:<s@a.example>")) refl tt refl
      (line (codes "RCPT TO:<alice@example.org>") (Line (codes "RCPT TO:<alice@example.org>")) refl tt refl (line (codes "DATA") (Line (codes "DATA")) refl tt refl (line (codes "hi") (Line (codes "hi")) refl tt refl
      (submits (codes ".") (Line (codes ".")) (record { keys = key ∷ []; mailboxes = 0 ∷ []; text = undated (codes "Return-Path: <s@a.example>\r\nhi\r\n") }) (Stored 7 ∷ []) refl tt refl refl
      (line (codes "QUIT") (Line (codes "QUIT")) refl tt refl none))))));
  replies = refl;
  messages = refl;
  stands = refl;
  ended = inl refl;
}

abbrev replied : List ℕ
replied = wire (codes "mx.example.org") replies

connection : IsConnection house 0 0 one_message replied judged
connection = record { said = replies; own = alice; marked = record { same = refl; marks = λ shard within. unmarked shard within }; dialogue = spoken; replies = refl }
  where
    unmarked : (shard : ℕ) → shard < 1 → is_shut alice shard ≡ (is_shut alice shard || false)
    unmarked zero within = refl
    unmarked (suc shard) within = absurd (omega (arith, within))

dialogues : AreDialogues house 0 (one_message ∷ []) (replied ∷ []) judged
dialogues = record { parts = judged ∷ []; as_many_replies = refl; as_many_parts = refl; together = refl; each = each }
  where
    each : (i : ℕ) → i < 1 → IsConnection house 0 i (slice_index_or (one_message ∷ []) i []) (slice_index_or (replied ∷ []) i []) (slice_index_or (judged ∷ []) i [])
    each zero under = connection
    each (suc i) under = absurd (omega (arith, under))

-- ---- the log, and the lane

abbrev note : Noted
note = record { key = key; mailbox = 0; verdict = Stored 7 }

abbrev copy : Job
copy = record { key = key; mailbox = 0; text = undated (codes "Return-Path: <s@a.example>\r\nhi\r\n"); flags = no_flags }

abbrev entries : List (Entry Job)
entries = Item 0 copy ∷ End 0 ∷ []

abbrev heard : List (Entry Noted)
heard = Item 0 note ∷ []

verdicts : AreVerdicts judged (note ∷ [])
verdicts = record {
  full = All-cons IsFull _ [] (record { mailboxes = refl; verdicts = refl }) (All-nil IsFull);
  keys = refl;
  mailboxes = refl;
  verdicts = refl;
  rise = λ i j d below within. absurd (omega (arith, below, within));
}

was_put : (noted : Noted) → note ≡ noted → WasPut 0 entries heard noted
was_put noted e = subst (WasPut 0 entries heard) e (record { copy = copy; same_key = refl; same_mailbox = refl; there = first_of (Item 0 copy) (End 0 ∷ []); verdict = (0, [], [], refl) })

end_is_none : (p : ℕ) (c : Job) → ◌≡◌ {A = Entry Job} (End 0) (Item p c) → ⊥
end_is_none p c e = cc

same_entry : (p : ℕ) (c : Job) → ◌≡◌ {A = Entry Job} (Item 0 copy) (Item p c) → (p ≡ 0) × (copy ≡ c)
same_entry p c e = (cc, cc)

on_lane : (p : ℕ) (c : Job) → Contains entries (Item p c) → (p ≡ 0) × (copy ≡ c)
on_lane p c there = elim (contains_cases (Item p c) (Item 0 copy) (End 0 ∷ []) there) [
  | inl e ↦ same_entry p c e
  | inr l ↦ elim (contains_cases (Item p c) (End 0) [] l) [ inl e ↦ absurd (end_is_none p c e) | inr n ↦ absurd (contains_none n) ]
]

account : AccountOfLines house 0 (one_message ∷ []) (replied ∷ []) (note ∷ []) heard (entries ∷ [])
account = record {
  judged = judged;
  dialogues = dialogues;
  verdicts = verdicts;
  stored = stored;
  put = put;
}
  where
    stored : (noted : Noted) (uid lane : ℕ) → Contains (note ∷ []) noted → noted.verdict ≡ Stored uid → shard_of alice noted.mailbox ≡ lane → lane < 1 → WasPut 0 (slice_index_or (entries ∷ []) lane []) heard noted
    stored noted uid zero c v s under = was_put noted (the_one note noted c)
    stored noted uid (suc lane) c v s under = absurd (omega (arith, under))

    put : (lane p : ℕ) (c : Job) → lane < 1 → Contains (slice_index_or (entries ∷ []) lane []) (Item p c) → (p ≡ 0) × WasSubmitted alice judged (note ∷ []) heard lane c
    put zero p c under there =
        let o = on_lane p c there in (
          o.0,
          subst (WasSubmitted alice judged (note ∷ []) heard 0) o.1
              (record { message = _; there = first_of _ []; among = first_of copy []; shard = refl; verdict = Stored 7; told = (0, [], [], refl); noted = first_of note [] }),
        )
    put (suc lane) p c under there = absurd (omega (arith, under))

-- ---- the lists

abbrev accepted : List (List (CopyKey × ℕ))
accepted = ((key, 7) ∷ []) ∷ []

abbrev texts : List (List (ℕ × Text))
texts = ((7, copy.text) ∷ []) ∷ []

agree : ListsAgree alice true ((note ∷ []) ∷ []) ((copy ∷ []) ∷ []) accepted texts
agree = record { mailboxes = (refl, refl); mailbox = mailbox }
  where
    told : (p : ℕ) → p < 1 → IsTold 0 ((key, 7) ∷ []) p (slice_index_or ((note ∷ []) ∷ []) p [])
    told zero under = record { stored = refl; rising = tt }
    told (suc p) under = absurd (omega (arith, under))

    mailbox : (m : ℕ) → m < 1 → MailboxAgrees true ((note ∷ []) ∷ []) (slice_index_or ((copy ∷ []) ∷ []) (shard_of alice m) []) m (slice_index_or accepted m []) (slice_index_or texts m [])
    mailbox zero under = record {
      told = record { told = told; owned = All-cons (λ (pair : CopyKey × ℕ). pair.0.seat < 1) (key, 7) [] (omega arith) (All-nil (λ (pair : CopyKey × ℕ). pair.0.seat < 1)) };
      there = All-cons (IsOfCopy 0 ((key, 7) ∷ []) (copy ∷ [])) (7, copy.text) [] (record { copy = copy; taken = first_of copy []; here = refl; pair = first_of (key, 7) []; text = refl })
          (All-nil (IsOfCopy 0 ((key, 7) ∷ []) (copy ∷ [])));
      each = λ w. refl;
    }
    mailbox (suc m) under = absurd (omega (arith, under))

own : TakenIsItsOwn 0 ((copy ∷ []) ∷ []) (entries ∷ [])
own zero c there seat = subst (λ (x : Job). Contains entries (Item 0 x)) (the_one copy c there) (first_of (Item 0 copy) (End 0 ∷ []))
own (suc lane) c there seat = absurd (contains_none there)

rise : DoUidsRise accepted
rise zero k under = absurd (omega (arith, under))
rise (suc m) k under = absurd (omega (arith, under))

-- ---- so a relay may conclude

worked : AccountsConclude → RelaysConclude alice 0 (one_message ∷ []) (replied ∷ []) accepted texts
worked conclude = conclude house 0 (one_message ∷ []) (replied ∷ []) heard (entries ∷ []) true ((note ∷ []) ∷ []) ((copy ∷ []) ∷ []) accepted texts refl (omega arith) account agree rise own
