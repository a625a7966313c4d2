-- What a relay may conclude, by the record of a house.
use Rattle.std.proofs.Common.{◌≡◌, ◌≢◌, ◌==◌, eqb, ℕ, ◌<◌, ◌≤◌, ◌⊎◌, inl, inr, true, false, List, [], ◌++◌, refl, ap, sym, subst, ◌∙◌, arith, Option, Some, None}
use Rattle.std.specs.Prelude.{Contains, if◌then◌else◌}
use Rattle.std.proofs.lemmas.Bool.{cases_lt}
use Rattle.std.proofs.lemmas.Bool.Decides.{eqb_tells}
use Rattle.delivery_token.specs.declared.Job.{Job}
use Rattle.house_peers.specs.Caller.{Caller}
use Rattle.lmtp_machine.specs.Dialogue.{wire}
use Rattle.shard_queue.specs.declared.lane.Entry.TheVariants.{Item}
use Rattle.script.specs.Promise.{entries_of}
use Rattle.script.proofs.Parts.{parts_record}
use Rattle.world.specs.World.{shard_of}
use Rattle.world.proofs.Always.{always, kept_always}
use Rattle.world.proofs.Kept.{Kept}
use Rattle.laws_relay.specs.Concluded.{KnowsAll, MayConclude}
use Rattle.laws_relay.specs.RecordLaws.{ByTheRecord, IsDone, OfAllEvents, OfScripts, unsaid_by, came_for, has_vanished, new_house, told_to, AreStill, Sessions, imap_sessions}
use Rattle.laws_relay.proofs.Happening.{no_pasts, nothing_known, past_after, record_known}
use Rattle.exactly_once.proofs.Histories.{every_in, history_was_put}
use Rattle.laws_relay.proofs.RecordJoined.{Concludes, connection_concludes, connection_knows_all}
use Rattle.exactly_once.proofs.Lanes.{put_by}
use Rattle.laws_relay.proofs.Printed.{HasEnded}
use Rattle.laws_relay.proofs.Scenes.{SceneKnown}
use Rattle.laws_relay.proofs.Seated.{IsOneOf}
use Rattle.laws_relay.proofs.Seats.{Opened, opened_below, own_terms}
use Rattle.laws_relay.proofs.Sessions.{imap_is_still}

abbrev serial_in : Option Caller → ℕ
serial_in None = 0
serial_in (Some c) = c.serial

-- what who stood there last has still to print
still_unsaid : (serial : ℕ) (o : Option Caller) (last : Caller) → last.serial ≡ serial → last.gone ≡ false → HasEnded last ⊎ (o ≡ Some last) → ((b : Caller) → o ≡ Some b → b.serial ≡ serial → b ≡ last)
    → last.talk.unsaid ≡ unsaid_by serial o
still_unsaid serial None last is there (inl ended) only = (ended there).1
still_unsaid serial None last is there (inr stands) only = absurd (let x : ◌≡◌ {A = Option Caller} None (Some last) = stands in cc)
still_unsaid serial (Some b) last is there ended only = by (eqb_tells b.serial serial)
  where
    away : b.serial ≢ serial → HasEnded last ⊎ (Some b ≡ Some last) → last.talk.unsaid ≡ []
    away other (inl e) = (e there).1
    away other (inr e) = absurd (other (ap (λ (o : Option Caller). serial_in o) e ∙ is))

    by : ((eqb b.serial serial ≡ true) × (b.serial ≡ serial)) ⊎ ((eqb b.serial serial ≡ false) × (b.serial ≢ serial)) → last.talk.unsaid ≡ (if b.serial == serial then b.talk.unsaid else [])
    by (inl (t, e)) = rw t (ap (λ (c : Caller). c.talk.unsaid) (sym (only b refl e)))
    by (inr (f, other)) = rw f (away other ended)

module _ (sessions : Sessions) (still : AreStill sessions) where
  pub by_the_record : ByTheRecord sessions
  by_the_record k entries after steps in_line r came = record { each = each; all = knows_all; opened = opened }
    where
      all : SceneKnown sessions k (past_after sessions still k (no_pasts sessions still) (new_house sessions k) entries) after
      all = record_known sessions still k (no_pasts sessions still) (new_house sessions k) entries after in_line (nothing_known sessions still k) r

      kept : Kept k.config after.world
      kept = kept_always k.config steps after.world came

      each : (seat serial : ℕ) → seat < k.connections → serial < after.next seat → (later told unread : List ℕ) → told ++ unread ≡ told_to sessions k seat serial (new_house sessions k) entries
          → (may : MayConclude k.host k.directory after.world seat serial (came_for sessions seat serial (new_house sessions k) entries ++ later) told unread)
          × (has_vanished sessions seat serial (new_house sessions k) entries ≡ false → may.unprinted ≡ unsaid_by serial (after.caller seat))
      each seat serial l m later told unread e =
          let was = opened_below k seat (after.world.heard seat) (put_by after.world seat) (after.next seat) (past_after sessions still k (no_pasts sessions still) (new_house sessions k) entries seat) (after.caller seat)
          (all.seats seat l) serial m in
          let c = subst (λ (n : ℕ). Concludes k.host k.directory after.world seat n (came_for sessions seat serial (new_house sessions k) entries ++ later) told unread (wire k.host was.known.unprinted)) was.serial_is
          (connection_concludes k.config after.world kept (always k.config steps after.world came) (own_terms k) in_line seat was.last (came_for sessions seat serial (new_house sessions k) entries)
          (told_to sessions k seat serial (new_house sessions k) entries) was.known later told unread e) in
          (c.may, λ stays. c.rest ∙ sym (was.known.says (was.gone_is ∙ stays)) ∙ still_unsaid serial (after.caller seat) was.last was.serial_is (was.gone_is ∙ stays) was.ended was.only)

      knows_all : (seat serial : ℕ) → seat < k.connections → serial < after.next seat → has_vanished sessions seat serial (new_house sessions k) entries ≡ false → IsDone sessions after seat serial
          → (later : List ℕ) → KnowsAll k.host k.directory after.world seat serial (came_for sessions seat serial (new_house sessions k) entries ++ later) (told_to sessions k seat serial (new_house sessions k) entries)
      knows_all seat serial l m stays done later = by was.ended
        where
          was : Opened k seat (after.world.heard seat) (put_by after.world seat) serial (past_after sessions still k (no_pasts sessions still) (new_house sessions k) entries seat serial) (after.caller seat)
          was = opened_below k seat (after.world.heard seat) (put_by after.world seat) (after.next seat) (past_after sessions still k (no_pasts sessions still) (new_house sessions k) entries seat) (after.caller seat)
              (all.seats seat l) serial m

          there : was.last.gone ≡ false
          there = was.gone_is ∙ stays

          knows : (was.last.talk.pending ≡ []) × (was.last.talk.unsaid ≡ [])
              → KnowsAll k.host k.directory after.world seat serial (came_for sessions seat serial (new_house sessions k) entries ++ later) (told_to sessions k seat serial (new_house sessions k) entries)
          knows q = subst (λ (n : ℕ). KnowsAll k.host k.directory after.world seat n (came_for sessions seat serial (new_house sessions k) entries ++ later)
              (told_to sessions k seat serial (new_house sessions k) entries)) was.serial_is
              (connection_knows_all k.config after.world kept (always k.config steps after.world came) (own_terms k) in_line seat was.last (came_for sessions seat serial (new_house sessions k) entries)
              (told_to sessions k seat serial (new_house sessions k) entries) was.known there q.0 q.1 later)

          by : HasEnded was.last ⊎ (after.caller seat ≡ Some was.last) → KnowsAll k.host k.directory after.world seat serial (came_for sessions seat serial (new_house sessions k) entries ++ later)
              (told_to sessions k seat serial (new_house sessions k) entries)
          by (inl ended) = knows (ended there)
          by (inr stands) = knows (done was.last stands was.serial_is)

      opened : (mailbox : ℕ) (entry : Job × ℕ) → Contains (after.world.box mailbox).accepted entry → entry.0.key.seat < k.connections → entry.0.key.serial < after.next entry.0.key.seat
      opened mailbox entry there l = by (cases_lt entry.0.key.serial (after.next (entry.0.key.seat)))
        where
          none : Contains [] entry.0 → ⊥
          none c = let x = c.1 in omega (arith, x)

          by : (entry.0.key.serial < after.next (entry.0.key.seat)) ⊎ (after.next (entry.0.key.seat) ≤ entry.0.key.serial) → entry.0.key.serial < after.next (entry.0.key.seat)
          by (inl x) = x
          by (inr x) =
              let put = history_was_put k.config after.world kept mailbox entry there in
              let new = (all.seats (entry.0.key.seat) l).later entry.0.key.serial x in
              absurd (none (every_in (IsOneOf entry.0.key.serial []) (Item (entry.0.key.seat) entry.0) (put_by after.world (entry.0.key.seat) (shard_of k.config mailbox))
              (new.1 (shard_of k.config mailbox)) put.1 refl))

  pub of_all_events : OfAllEvents sessions
  of_all_events k events after printed in_line once = by_the_record k once.entries after once.steps in_line once.leads once.came

-- ---- of scripts

pub of_scripts : OfScripts
of_scripts k count after printed in_line once =
    by_the_record imap_sessions imap_is_still k (entries_of once.parts) after once.steps in_line (parts_record k once.parts (new_house imap_sessions k) after once.leads) once.came
