-- An outlet that was written to and flushed: its sink took what was said, or the first bytes of it.
use Rattle.std.proofs.Common.{arith, ◌≡◌, ◌∙◌, ℕ, ◌<◌, true, false, Bool, List, [], ◌++◌, length, take, refl, sym, ap, subst}
use Rattle.std.specs.Prelude.{Result, Ok, Err, Option, Some, None, IfSome}
use Rattle.std.specs.Option.{option_map_or}
use Rattle.std.proofs.lemmas.List.{length-append}
use Rattle.std.proofs.Math.Seq.{take-append_seam}
use Rattle.std.specs.Io.KnownBytes.{Appends}
use Rattle.line_io.specs.declared.buffer.FlushFault.{FlushFault}
use Rattle.line_io.specs.Outlet.{Buffer, Lot}
use Rattle.line_io.specs.Outgoing.{Flushed, IsReady, Outgoing, lot_of, room_of, said_of}
use Rattle.imap_stream.specs.inner.Visits.{HasSent, IsFresh, TookFirst, failed_of, taken_of}

-- what an outlet says that is flushed into a sink which had taken `start` when nothing was said yet
abbrev pub IsFlushed : Outgoing → Result (Unit {0}) FlushFault → Outgoing → Type 0
IsFlushed before r after = IfSome before.buffer (λ (b : Buffer). (a : Buffer) × (after ≡ record before { buffer = Some a }) × Flushed b r a)

-- all that was said was sent
pub record AllWent (start : Option (List ℕ)) (before after : Outgoing) : Type 0 where
  pub took : Appends start (taken_of after) (said_of before.buffer before.kept)
  pub live : failed_of after ≡ false
  pub there : (b : Buffer) × (after.buffer ≡ Some b)
  pub room : room_of after.buffer after.spare ≡ room_of before.buffer before.spare

-- the first bytes of it were, and not all
pub record FirstWent (start : Option (List ℕ)) (before after : Outgoing) : Type 0 where
  pub took : TookFirst start (said_of before.buffer before.kept) (taken_of after)
  pub failed : failed_of after ≡ true
  pub there : (b : Buffer) × (after.buffer ≡ Some b)
  pub room : room_of after.buffer after.spare ≡ room_of before.buffer before.spare

counted : (start taken : Option (List ℕ)) (said sent rest : List ℕ) → said ≡ sent ++ rest → 0 < length rest → Appends start taken sent → TookFirst start said taken
counted start taken said sent rest is more took =
    let few : length sent < length said = omega (arith, ap length is, length-append sent rest, more) in
    let front : take (length sent) said ≡ sent = ap (take (length sent)) is ∙ take-append_seam sent rest in
    (length sent, few, subst (λ (bytes : List ℕ). Appends start taken bytes) (sym front) took)

start_of : (start : Option (List ℕ)) (b a : Buffer) (r : Result (Unit {0}) FlushFault) → b.start ≡ start → Flushed b r a → a.start ≡ start
start_of start b a r from f = ap (λ (x : Buffer). x.start) f.same ∙ from

said_by : (b a : Buffer) (r : Result (Unit {0}) FlushFault) → Flushed b r a → a.said ≡ b.said
said_by b a r f = ap (λ (x : Buffer). x.said) f.same

all_of : (start : Option (List ℕ)) (b a : Buffer) (u : Unit {0}) → b.start ≡ start → Flushed b (Ok u) a → Appends start a.taken b.said
all_of start b a u from f =
    subst (λ (s : Option (List ℕ)). Appends s a.taken b.said) (start_of start b a (Ok u) from f) (subst (λ (t : List ℕ). Appends a.start a.taken t) (said_by b a (Ok u) f) f.all)

first_of : (start : Option (List ℕ)) (b a : Buffer) (e : FlushFault) → b.start ≡ start → Flushed b (Err e) a → TookFirst start b.said a.taken
first_of start b a e from f =
    let h = f.first in
    subst (λ (s : Option (List ℕ)). TookFirst s b.said a.taken) (start_of start b a (Err e) from f) (subst (λ (t : List ℕ). TookFirst a.start t a.taken) (said_by b a (Err e) f)
    (counted a.start a.taken a.said h.0 h.1 h.2 h.3 h.4))

-- An outlet that has memory of its own has its buffer in its place.
went : (start : Option (List ℕ)) (memory : ℕ) (u : Unit {0}) (before after : Outgoing) (x : Option Buffer) → before.buffer ≡ x → lot_of x ≡ record { start = start; memory = Some memory }
    → IfSome x (λ (b : Buffer). (a : Buffer) × (after ≡ record before { buffer = Some a }) × Flushed b (Ok u) a) → AllWent start before after
went start memory u before after None here lot h = let e : ◌≡◌ {A = Option ℕ} None (Some memory) = ap (λ (l : Lot). l.memory) lot in cc
went start memory u before after (Some b) here lot h =
    let there : after.buffer ≡ Some h.0 = ap (λ (o : Outgoing). o.buffer) h.1 in
    let said : said_of before.buffer before.kept ≡ b.said = ap (λ (o : Option Buffer). said_of o before.kept) here in
    let taken : taken_of after ≡ h.0.taken = ap (λ (o : Option Buffer). option_map_or (λ (y : Buffer). y.taken) o None) there in
    record {
      took = subst (λ (t : List ℕ). Appends start (taken_of after) t) (sym said) (subst (λ (o : Option (List ℕ)). Appends start o b.said) (sym taken) (all_of start b h.0 u (ap (λ (l : Lot). l.start) lot) h.2));
      live = ap (λ (o : Option Buffer). option_map_or (λ (y : Buffer). y.failed) o true) there ∙ h.2.failed;
      there = (h.0, there);
      room = ap (λ (o : Option Buffer). room_of o after.spare) there ∙ sym (ap (λ (o : Option Buffer). room_of o before.spare) here);
    }

cut : (start : Option (List ℕ)) (memory : ℕ) (e : FlushFault) (before after : Outgoing) (x : Option Buffer) → before.buffer ≡ x → lot_of x ≡ record { start = start; memory = Some memory }
    → IfSome x (λ (b : Buffer). (a : Buffer) × (after ≡ record before { buffer = Some a }) × Flushed b (Err e) a) → FirstWent start before after
cut start memory e before after None here lot h = let e : ◌≡◌ {A = Option ℕ} None (Some memory) = ap (λ (l : Lot). l.memory) lot in cc
cut start memory e before after (Some b) here lot h =
    let there : after.buffer ≡ Some h.0 = ap (λ (o : Outgoing). o.buffer) h.1 in
    let said : said_of before.buffer before.kept ≡ b.said = ap (λ (o : Option Buffer). said_of o before.kept) here in
    let taken : taken_of after ≡ h.0.taken = ap (λ (o : Option Buffer). option_map_or (λ (y : Buffer). y.taken) o None) there in
    record {
      took = subst (λ (t : List ℕ). TookFirst start t (taken_of after)) (sym said) (subst (λ (o : Option (List ℕ)). TookFirst start b.said o) (sym taken) (first_of start b h.0 e (ap (λ (l : Lot). l.start) lot) h.2));
      failed = ap (λ (o : Option Buffer). option_map_or (λ (y : Buffer). y.failed) o true) there ∙ h.2.failed;
      there = (h.0, there);
      room = ap (λ (o : Option Buffer). room_of o after.spare) there ∙ sym (ap (λ (o : Option Buffer). room_of o before.spare) here);
    }

pub all_went : (start : Option (List ℕ)) (memory : ℕ) (r : Result (Unit {0}) FlushFault) (u : Unit {0}) (before after : Outgoing) → r ≡ Ok u → lot_of before.buffer ≡ record { start = start; memory = Some memory } → IsFlushed before r after
    → AllWent start before after
all_went start memory r u before after is lot h = went start memory u before after before.buffer refl lot (subst (λ (x : Result (Unit {0}) FlushFault). IsFlushed before x after) is h)

pub first_went : (start : Option (List ℕ)) (memory : ℕ) (r : Result (Unit {0}) FlushFault) (e : FlushFault) (before after : Outgoing) → r ≡ Err e → lot_of before.buffer ≡ record { start = start; memory = Some memory } → IsFlushed before r after
    → FirstWent start before after
first_went start memory r e before after is lot h = cut start memory e before after before.buffer refl lot (subst (λ (x : Result (Unit {0}) FlushFault). IsFlushed before x after) is h)

-- the sink that is given back took what the outlet's had taken
pub sink_has : (t : Option (List ℕ)) (f : Bool) (out : Outgoing) (b : Buffer) → out.buffer ≡ Some b → IfSome out.buffer (λ (x : Buffer). (t ≡ x.taken) × (f ≡ x.failed)) → taken_of out ≡ t
sink_has t f out b is h =
    let k = subst (λ (o : Option Buffer). IfSome o (λ (x : Buffer). (t ≡ x.taken) × (f ≡ x.failed))) is h in
    ap (λ (o : Option Buffer). option_map_or (λ (y : Buffer). y.taken) o None) is ∙ sym k.0

-- ---- behind a fresh beginning

-- nothing was said yet
pub none_of_fresh : (start : Option (List ℕ)) (fresh : Outgoing) → IsFresh start fresh → said_of fresh.buffer fresh.kept ≡ []
none_of_fresh start fresh f = ap (λ (o : Option Buffer). said_of o fresh.kept) f.1 ∙ f.4

lot_of_fresh : (start : Option (List ℕ)) (fresh : Outgoing) (f : IsFresh start fresh) → lot_of fresh.buffer ≡ record { start = start; memory = Some f.0.memory }
lot_of_fresh start fresh f = ap lot_of f.1 ∙ ap (λ (t : Option (List ℕ)). record { start = t; memory = Some f.0.memory }) f.5

-- an outlet whose buffer has another row has room as before
rested : (start : Option (List ℕ)) (before after fresh : Outgoing) → AllWent start before after → IsFresh (taken_of after) fresh → AllWent start before fresh
rested start before after fresh went f =
    let taken : taken_of fresh ≡ taken_of after = ap (λ (o : Option Buffer). option_map_or (λ (y : Buffer). y.taken) o None) f.1 ∙ f.6 in
    record {
      took = subst (λ (t : Option (List ℕ)). Appends start t (said_of before.buffer before.kept)) (sym taken) went.took;
      live = ap (λ (o : Option Buffer). option_map_or (λ (y : Buffer). y.failed) o true) f.1 ∙ f.2;
      there = (f.0, f.1);
      room = ap (λ (o : Option Buffer). room_of o fresh.spare) f.1 ∙ sym (ap (λ (o : Option Buffer). room_of o after.spare) went.there.1) ∙ went.room;
    }

pub all_went_behind : (start : Option (List ℕ)) (fresh before after last : Outgoing) (r : Result (Unit {0}) FlushFault) (u : Unit {0}) → IsFresh start fresh → lot_of before.buffer ≡ lot_of fresh.buffer → r ≡ Ok u → IsFlushed before r after
    → IsFresh (taken_of after) last → AllWent start before last
all_went_behind start fresh before after last r u f lot is h then_fresh =
    rested start before after last (all_went start f.0.memory r u before after is (lot ∙ lot_of_fresh start fresh f) h) then_fresh

pub first_went_behind : (start : Option (List ℕ)) (fresh before after : Outgoing) (r : Result (Unit {0}) FlushFault) (e : FlushFault) → IsFresh start fresh → lot_of before.buffer ≡ lot_of fresh.buffer → r ≡ Err e → IsFlushed before r after
    → FirstWent start before after
first_went_behind start fresh before after r e f lot is h = first_went start f.0.memory r e before after is (lot ∙ lot_of_fresh start fresh f) h

-- ---- where it was begun anew

-- what is known of an outlet that was begun anew
abbrev pub IsBegun : Outgoing → Outgoing → Type 0
IsBegun old begun = IfSome old.buffer (λ (b : Buffer). begun ≡ record old { buffer = Some (record b { said = []; start = b.taken }) })

begun_as : (closed : Bool) (old begun : Outgoing) (sent : HasSent closed old) → IsBegun old begun → begun ≡ record old { buffer = Some (record sent.0 { said = []; start = sent.0.taken }) }
begun_as closed old begun sent h = subst (λ (x : Option Buffer). IfSome x (λ (b : Buffer). begun ≡ record old { buffer = Some (record b { said = []; start = b.taken }) })) sent.1 h

-- nothing was said yet
pub nothing_said : (closed : Bool) (old begun : Outgoing) → HasSent closed old → IsBegun old begun → said_of begun.buffer begun.kept ≡ []
nothing_said closed old begun sent h = ap (λ (o : Outgoing). said_of o.buffer o.kept) (begun_as closed old begun sent h)

lot_begun : (closed : Bool) (old begun : Outgoing) (sent : HasSent closed old) → IsBegun old begun → lot_of begun.buffer ≡ record { start = taken_of old; memory = Some sent.0.memory }
lot_begun closed old begun sent h =
    let taken : taken_of old ≡ sent.0.taken = ap (λ (o : Option Buffer). option_map_or (λ (y : Buffer). y.taken) o None) sent.1 in
    ap (λ (o : Outgoing). lot_of o.buffer) (begun_as closed old begun sent h) ∙ ap (λ (t : Option (List ℕ)). record { start = t; memory = Some sent.0.memory }) (sym taken)

pub all_went_begun : (closed : Bool) (old begun before after : Outgoing) (r : Result (Unit {0}) FlushFault) (u : Unit {0}) → HasSent closed old → IsBegun old begun → lot_of before.buffer ≡ lot_of begun.buffer → r ≡ Ok u → IsFlushed before r after
    → AllWent (taken_of old) before after
all_went_begun closed old begun before after r u sent began lot is h = all_went (taken_of old) sent.0.memory r u before after is (lot ∙ lot_begun closed old begun sent began) h

pub first_went_begun : (closed : Bool) (old begun before after : Outgoing) (r : Result (Unit {0}) FlushFault) (e : FlushFault) → HasSent closed old → IsBegun old begun → lot_of before.buffer ≡ lot_of begun.buffer → r ≡ Err e → IsFlushed before r after
    → FirstWent (taken_of old) before after
first_went_begun closed old begun before after r e sent began lot is h = first_went (taken_of old) sent.0.memory r e before after is (lot ∙ lot_begun closed old begun sent began) h

-- ---- in another row

ready_as : (old begun : Outgoing) (ready : IsReady old) → IsBegun old begun → begun ≡ record old { buffer = Some (record ready.0 { said = []; start = ready.0.taken }) }
ready_as old begun ready h = subst (λ (x : Option Buffer). IfSome x (λ (b : Buffer). begun ≡ record old { buffer = Some (record b { said = []; start = b.taken }) })) ready.1 h

-- an outlet that was begun anew is ready still
pub ready_begun : (old begun : Outgoing) → IsReady old → IsBegun old begun → IsReady begun
ready_begun old begun ready h = (record ready.0 { said = []; start = ready.0.taken }, ap (λ (o : Outgoing). o.buffer) (ready_as old begun ready h), ready.2, ready.3)

-- nothing was said yet where it was begun anew and waits in another row
pub fresh_traded : (old begun traded : Outgoing) (limit memory : ℕ) → IsReady old → IsBegun old begun
    → IfSome begun.buffer (λ (b : Buffer). traded ≡ record begun { buffer = Some (record b { limit = limit; memory = memory }) }) → IsFresh (taken_of old) traded
fresh_traded old begun traded limit memory ready began h =
    let b : Buffer = record ready.0 { said = []; start = ready.0.taken } in
    let here : begun.buffer ≡ Some b = ap (λ (o : Outgoing). o.buffer) (ready_as old begun ready began) in
    let is = subst (λ (x : Option Buffer). IfSome x (λ (y : Buffer). traded ≡ record begun { buffer = Some (record y { limit = limit; memory = memory }) })) here h in
    let taken : ready.0.taken ≡ taken_of old = sym (ap (λ (o : Option Buffer). option_map_or (λ (y : Buffer). y.taken) o None) ready.1) in
    (record b { limit = limit; memory = memory }, ap (λ (o : Outgoing). o.buffer) is, ready.2, ready.3, refl, taken, taken)
