-- Sessions that are refused: what a relay asks of them isn't so of them. Each is IMAP but for one thing. Above each stands what the relay would have seen.
use Rattle.std.proofs.Common.{◌≡◌, ℕ, false, List, [], ◌∷◌, length, refl, ap, arith}
use Rattle.change_ring.specs.Log.{no_flags}
use Rattle.delivery_token.specs.Text.{undated}
use Rattle.delivery_token.specs.declared.Job.{Job}
use Rattle.delivery_token.specs.declared.Verdict.TheVariants.{Stored}
use Rattle.delivery_token.specs.declared.log.Noted.{Noted}
use Rattle.shard_queue.specs.Lane.{Lane, put}
use Rattle.shard_queue.specs.declared.lane.Entry.TheVariants.{Item}
use Rattle.world.specs.World.{Config, World, empty_world}
use Rattle.imap_session.specs.Exchange.{Discarded, Leave, Standing}
use Rattle.house_peers.specs.Imap.{imap}
use Rattle.laws_relay.specs.RecordLaws.{AreStill, IsStill, Sessions, imap_sessions}

-- a copy of the first connection's first message
abbrev copy : Job
copy = record { key = record { seat = 0; serial = 0; message = 0; recipient = 0 }; mailbox = 0; text = undated []; flags = no_flags }

abbrev with_copy : World → World
with_copy w = record w { lane = λ s. put (w.lane s) (Item 0 copy) }

abbrev with_verdict : World → World
with_verdict w = record w { heard = λ seat. (record { key = copy.key; mailbox = 0; verdict = Stored 1 } ∷ w.heard seat) }

no_copy_comes : IsStill empty_world (with_copy empty_world) → ⊥
no_copy_comes s = let e : 1 ≡ 0 = ap (λ (lane : ℕ → Lane Job). length (lane 0).waiting) s.0 in omega (arith, e)

no_verdict_comes : IsStill empty_world (with_verdict empty_world) → ⊥
no_verdict_comes s = let e : 1 ≡ 0 = ap (λ (heard : ℕ → List Noted). length (heard 0)) s.1 in omega (arith, e)

-- Whatever a session asks of its mailbox, a copy is put at the first connection's seat: a message stands there that this relay never sent.
abbrev puts_for_another : Sessions
puts_for_another = record { guest = imap; Meets = λ k place w call answer v. v ≡ with_copy w }

no_session_puts_for_another : (k : Config) → AreStill puts_for_another → ⊥
no_session_puts_for_another k still = no_copy_comes (still.meets k 0 empty_world (Leave false) Discarded (with_copy empty_world) refl)

-- By the same a verdict comes to every seat: a reply 250 about a copy that no mailbox has.
abbrev hears_for_another : Sessions
hears_for_another = record { guest = imap; Meets = λ k place w call answer v. v ≡ with_verdict w }

no_session_hears_for_another : (k : Config) → AreStill hears_for_another → ⊥
no_session_hears_for_another k still = no_verdict_comes (still.meets k 0 empty_world (Leave false) Discarded (with_verdict empty_world) refl)

-- A turn of an IDLE may do anything to the house: a message goes out while nobody sends one.
abbrev idles_anyhow : Sessions
idles_anyhow = record imap_sessions { guest = record imap { Idles = λ step at old new shown said next. Unit {0} } }

no_turn_does_anything : (k : Config) (at : Standing) → AreStill idles_anyhow → ⊥
no_turn_does_anything k at still = no_copy_comes (still.idles k 0 at at 0 [] empty_world (with_copy empty_world) tt)

-- So may what it answers to a line.
abbrev answers_anyhow : Sessions
answers_anyhow = record imap_sessions { guest = record imap { Answers = λ step at waits old new next still said. Unit {0} } }

no_line_does_anything : (k : Config) (at : Standing) → AreStill answers_anyhow → ⊥
no_line_does_anything k at still = no_copy_comes (still.answers k 0 at at [] [] [] empty_world (with_copy empty_world) tt)
