-- What was said is sent: from the parts of a visit to the visit.
use Rattle.std.proofs.Common.{◌≡◌, ℕ, ◌<◌, ◌⊎◌, inl, inr, true, false, List, [], ◌++◌, length, take, sym, subst}
use Rattle.std.specs.Prelude.{IfErr, OnErr, OnOk, Result, Ok, Err}
use Rattle.workers_sync.specs.Carried.{Carried}
use Rattle.workers_sync.specs.declared.courier.Lost.{Lost}
use Rattle.std.specs.Io.KnownBytes.{Appends}
use Rattle.imap_session.specs.Dialogue.{Dialogue, StandsFor}
use Rattle.session_thread.specs.Life.{Moment, moment}
use Rattle.imap_stream.specs.declared.visit.VisitFault.{VisitFault}
use Rattle.imap_stream.specs.Visits.{Hears, HearsInPart, LeadsTo, SendsAll, SendsFirst, Tells, Visit}

-- each dialogue was led by P, behind what stood in the room before
abbrev pub Led : (Moment → Moment → Type 0) → Visit → List ℕ → List ℕ → Visit → Type 0
Led P old before said new = (d : Dialogue) → StandsFor old.link d → (next : Dialogue) × StandsFor new.link next × P (moment d old.selection before) (moment next new.selection said)

-- the output took the first bytes
abbrev pub TookFirst : Visit → List ℕ → Visit → Type 0
TookFirst old said new = (sent : ℕ) × (sent < length said) × Appends old.taken new.taken (take sent said)

led : (P : Moment → Moment → Type 0) (old new : Visit) (before said : List ℕ) → before ≡ [] → Led P old before said new → LeadsTo P old said new
led P old new before said empty h d s =
    let t = h d s in (t.0, t.1, subst (λ (b : List ℕ). P (moment d old.selection b) (moment t.0 new.selection said)) empty t.2)

pub tells_all : (P : Moment → Moment → Type 0) (old seen new : Visit) (before said : List ℕ) → seen ≡ old → before ≡ [] → Led P seen before said new
    → Appends seen.taken new.taken said → new.failed ≡ false → Tells P SendsAll old new
tells_all P old seen new before said is empty h took live = subst (λ (o : Visit). Tells P SendsAll o new) is
    (record { said = said; leads = led P seen new before said empty h; sends = record { took = took; live = live } })

-- the same where memory was refused, out of as many bytes as there is room for now
pub tells_all_in_part : (P : ℕ → Moment → Moment → Type 0) (room now : ℕ) (old seen new : Visit) (before said : List ℕ) → now ≡ room → seen ≡ old → before ≡ [] → Led (P room) seen before said new
    → Appends seen.taken new.taken said → new.failed ≡ false → Tells (P now) SendsAll old new
tells_all_in_part P room now old seen new before said same is empty h took live =
    tells_all (P now) old seen new before said is empty (subst (λ (r : ℕ). Led (P r) seen before said new) (sym same) h) took live

tells_first : (P : Moment → Moment → Type 0) (old seen new : Visit) (before said : List ℕ) → seen ≡ old → before ≡ [] → Led P seen before said new
    → TookFirst seen said new → new.failed ≡ true → new.closed ≡ true → Tells P SendsFirst old new
tells_first P old seen new before said is empty h took failed over = subst (λ (o : Visit). Tells P SendsFirst o new) is
    (record { said = said; leads = led P seen new before said empty h; sends = record { sent = took.0; few = took.1; took = took.2; failed = failed; over = over } })

-- the output failed, whatever was said
pub tells_what_went : {A E : Type 0} (r : Result A E) (P : Moment → Moment → Type 0) (Q : ℕ → Moment → Moment → Type 0) (room now : ℕ) (old seen new : Visit) (before said : List ℕ) → now ≡ room → seen ≡ old → before ≡ []
    → OnOk r (Led P seen before said new) → OnErr r (Led (Q room) seen before said new) → TookFirst seen said new → new.failed ≡ true → new.closed ≡ true → Tells P SendsFirst old new ⊎ Tells (Q now) SendsFirst old new
tells_what_went (Ok x) P Q room now old seen new before said same is empty h k took failed over = inl (tells_first P old seen new before said is empty h took failed over)
tells_what_went (Err e) P Q room now old seen new before said same is empty h k took failed over =
    inr (tells_first (Q now) old seen new before said is empty (subst (λ (r : ℕ). Led (Q r) seen before said new) (sym same) k) took failed over)

-- a piece was heard, and what was said was sent
abbrev pub HeardAll : (List Carried → Type 0) → (List Carried → Type 0) → List ℕ → Visit → List ℕ → List ℕ → Visit → Type 0
HeardAll Was Now piece old before said new = (carried : List Carried) × ((done : List Carried) → Was done → Now (done ++ carried)) × Led (Hears piece carried) old before said new

pub hears_all : (Was Now : List Carried → Type 0) (piece : List ℕ) (old seen new : Visit) (before said : List ℕ) → seen ≡ old → before ≡ [] → HeardAll Was Now piece seen before said new → Appends seen.taken new.taken said → new.failed ≡ false
    → (carried : List Carried) × ((done : List Carried) → Was done → Now (done ++ carried)) × Tells (Hears piece carried) SendsAll old new
hears_all Was Now piece old seen new before said is empty h took live = (h.0, h.1, tells_all (Hears piece h.0) old seen new before said is empty h.2 took live)

pub the_fault : {A : Type 0} {x y : VisitFault} → ◌≡◌ {A = Result A VisitFault} (Err x) (Err y) → x ≡ y
the_fault is = cc

-- the session stopped, and what was said was sent
pub hears_in_part : {A : Type 0} (r : Result A Lost) (found why : Lost) (piece : List ℕ) (room now : ℕ) (old seen new : Visit) (before said : List ℕ) → r ≡ Err found → found ≡ why → now ≡ room → seen ≡ old → before ≡ []
    → IfErr r (λ lost. Led (HearsInPart room piece lost) seen before said new) → Appends seen.taken new.taken said → new.failed ≡ false → Tells (HearsInPart now piece why) SendsAll old new
hears_in_part r found why piece room now old seen new before said stops is same at empty h took live =
    let stopped : Led (HearsInPart room piece why) seen before said new = subst (λ (l : Lost). Led (HearsInPart room piece l) seen before said new) is (subst (λ (x : Result _ Lost). IfErr x (λ l. Led (HearsInPart room piece l) seen before said new)) stops h) in
    tells_all_in_part (λ (n : ℕ). HearsInPart n piece why) room now old seen new before said same at empty stopped took live

-- the output failed, whatever was heard
pub hears_what_went : {A : Type 0} (r : Result A Lost) (Was Now : List Carried → Type 0) (piece : List ℕ) (room now : ℕ) (old seen new : Visit) (before said : List ℕ) → now ≡ room → seen ≡ old → before ≡ []
    → OnOk r (HeardAll Was Now piece seen before said new) → IfErr r (λ why. Led (HearsInPart room piece why) seen before said new) → TookFirst seen said new → new.failed ≡ true → new.closed ≡ true
    → ((carried : List Carried) × ((done : List Carried) → Was done → Now (done ++ carried)) × Tells (Hears piece carried) SendsFirst old new) ⊎ ((why : Lost) × Tells (HearsInPart now piece why) SendsFirst old new)
hears_what_went (Ok x) Was Now piece room now old seen new before said same is empty h k took failed over = inl (h.0, h.1, tells_first (Hears piece h.0) old seen new before said is empty h.2 took failed over)
hears_what_went (Err why) Was Now piece room now old seen new before said same is empty h k took failed over =
    inr (why, tells_first (HearsInPart now piece why) old seen new before said is empty (subst (λ (r : ℕ). Led (HearsInPart r piece why) seen before said new) (sym same) k) took failed over)

pub sends_first : (old seen new : Visit) (said : List ℕ) → seen ≡ old → TookFirst seen said new → new.failed ≡ true → new.closed ≡ true → SendsFirst old said new
sends_first old seen new said is took failed over = subst (λ (o : Visit). SendsFirst o said new) is
    (record { sent = took.0; few = took.1; took = took.2; failed = failed; over = over })
