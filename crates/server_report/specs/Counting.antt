-- How a server counts what becomes of its copies.
use Rattle.std.specs.Prelude.{ℕ, ◌+◌, ◌-◌, ◌^◌, min, List, [], ◌∷◌}
use Rattle.delivery_token.specs.declared.Refusal.{Refusal}
use Rattle.delivery_token.specs.declared.Refusal.TheVariants.{Full, MailboxFull, NoMemory, UidSpent, Shut}
use Rattle.delivery_token.specs.declared.Verdict.{Verdict}
use Rattle.delivery_token.specs.declared.Verdict.TheVariants.{Stored, Refused as WasRefused}
use Rattle.server_report.specs.declared.counts.Counts.{Counts}
use Rattle.server_report.specs.declared.counts.Refused.{Refused}

-- so many more; a count stays where 64 bits have no room for more
abbrev pub more : (by count : ℕ) → ℕ
more by count = min (count + by) (2 ^ 64 - 1)

-- one copy more that was refused for this reason
abbrev pub with_refusal : Refusal → Refused → Refused
with_refusal MailboxFull r = record r { mailbox_full = more 1 r.mailbox_full }
with_refusal Full r = record r { shard_full = more 1 r.shard_full }
with_refusal Shut r = record r { shard_closed = more 1 r.shard_closed }
with_refusal UidSpent r = record r { uids_spent = more 1 r.uids_spent }
with_refusal NoMemory r = record r { no_memory = more 1 r.no_memory }

-- one copy more, which had this verdict
abbrev pub with_verdict : Verdict → Counts → Counts
with_verdict (Stored uid) c = record c { stored = more 1 c.stored }
with_verdict (WasRefused why) c = record c { refused = with_refusal why c.refused }

-- so many copies more, in this order
abbrev pub with_verdicts : List Verdict → Counts → Counts
with_verdicts [] c = c
with_verdicts (v ∷ vs) c = with_verdicts vs (with_verdict v c)

-- one message more, whose copies had these verdicts
abbrev pub with_message : List Verdict → Counts → Counts
with_message verdicts c = with_verdicts verdicts (record c { messages = more 1 c.messages })

-- nothing has happened
abbrev pub no_counts : Counts
no_counts = record {
  messages = 0;
  stored = 0;
  refused = record { mailbox_full = 0; shard_full = 0; shard_closed = 0; uids_spent = 0; no_memory = 0 };
  connections = 0;
  sessions = 0;
  lost = 0;
}
