-- What a client slot does with its client, call by call.
use Rattle.std.proofs.Common.{◌≡◌, ◌≢◌, ◌⊎◌, inl, inr, ℕ, Bool, true, false, List, [], ◌++◌, ◌||◌, Option, append_assoc, append-nil, refl, sym, subst, take}
use Rattle.std.specs.Prelude.{IfErr, IfOk, OnErr, OnOk, Result, Ok, Err, if◌then◌else◌}
use Rattle.std.specs.Io.KnownBytes.{Consumes, Keeps}
use Rattle.std.proofs.KnownBytes.{Consumes-kept, Consumes-nil, Consumes-trans}
use Rattle.workers_sync.specs.Carried.{Carried}
use Rattle.workers_sync.specs.declared.courier.Lost.{Lost}
use Rattle.workers_sync.specs.declared.courier.Lost.TheVariants as lost
use Rattle.imap_session.specs.declared.standing.After.{After}
use Rattle.imap_session.specs.declared.standing.After.TheVariants.{Bye}
use Rattle.imap_session.specs.Dialogue.{may_follow}
use Rattle.imap_session.specs.Exchange.{waits_for}
use Rattle.imap_stream.specs.declared.client_slot.Parting.{Parting}
use Rattle.imap_stream.specs.declared.visit.VisitFault.{VisitFault}
use Rattle.imap_stream.specs.declared.visit.VisitFault.TheVariants.{NoMemory, Torn, Write}
use Rattle.imap_stream.specs.Attending.{Calls, Ends, HasCalled, heard, heard_and_cut, heard_in_part, heard_in_part_and_cut, looked, looked_and_cut, looked_in_part, looked_in_part_and_cut, no_call, one_more}
use Rattle.imap_stream.specs.Visits.{Hears, HearsInPart, SendsAll, SendsFirst, ShowsAll, ShowsInPart, Tells, Visit, is_over, takes_bytes}
use Rattle.imap_stream.specs.inner.Attending.{HearsOn, HearsOut}

takes_when : (closed ended : Bool) (how : After) → may_follow (if closed then Bye else if ended then Bye else how) ≡ true → closed || ended ≡ false
takes_when true ended how takes = absurd cc
takes_when false true how takes = absurd cc
takes_when false false how takes = refl

-- a visit that takes bytes isn't over
pub goes_on : (visit : Visit) → takes_bytes visit ≡ true → is_over visit ≡ false
goes_on visit takes = takes_when visit.closed visit.link.session.ended (waits_for visit.link.session) takes

-- a piece was heard, by what `hear` answered
pub by_hearing : (r : Result After VisitFault) (Was Now : List Carried → Type 0) (piece : List ℕ) (old new : Visit) → takes_bytes old ≡ true
    → OnOk r (takes_bytes old ≡ true → (carried : List Carried) × ((done : List Carried) → Was done → Now (done ++ carried)) × Tells (Hears piece carried) SendsAll old new)
    → OnOk r (new.closed ≡ old.closed) → OnErr r (new.closed ≡ true)
    → (r ≡ Err NoMemory → Tells (HearsInPart new.room piece lost.NoMemory) SendsAll old new) → (r ≡ Err Torn → Tells (HearsInPart new.room piece lost.Torn) SendsAll old new)
    → (r ≡ Err Write → ((carried : List Carried) × ((done : List Carried) → Was done → Now (done ++ carried)) × Tells (Hears piece carried) SendsFirst old new) ⊎ ((why : Lost) × Tells (HearsInPart new.room piece why) SendsFirst old new))
    → HasCalled piece old new
by_hearing (Ok after) Was Now piece old new takes ok same ends short torn cut = let all = ok takes in heard all.0 all.2 same
by_hearing (Err NoMemory) Was Now piece old new takes ok same ends short torn cut = heard_in_part lost.NoMemory (short refl) ends
by_hearing (Err Torn) Was Now piece old new takes ok same ends short torn cut = heard_in_part lost.Torn (torn refl) ends
by_hearing (Err Write) Was Now piece old new takes ok same ends short torn cut = heard_first (cut refl) where
  heard_first : ((carried : List Carried) × ((done : List Carried) → Was done → Now (done ++ carried)) × Tells (Hears piece carried) SendsFirst old new) ⊎ ((why : Lost) × Tells (HearsInPart new.room piece why) SendsFirst old new) → HasCalled piece old new
  heard_first (inl all) = heard_and_cut all.0 all.2
  heard_first (inr part) = heard_in_part_and_cut part.0 part.1

looked_first : (old new : Visit) → Tells ShowsAll SendsFirst old new ⊎ Tells (ShowsInPart new.room) SendsFirst old new → HasCalled [] old new
looked_first old new (inl all) = looked_and_cut refl all
looked_first old new (inr part) = looked_in_part_and_cut refl part

-- a visit that takes bytes had a look, by what `look` answered
pub by_looking : (r : Result After VisitFault) (old new : Visit) → takes_bytes old ≡ true → IfErr r (λ fault. fault ≢ Torn) → OnOk r (is_over old ≡ false → Tells ShowsAll SendsAll old new) → OnOk r (new.closed ≡ old.closed)
    → (r ≡ Err NoMemory → new.closed ≡ old.closed) → (r ≡ Err NoMemory → Tells (ShowsInPart new.room) SendsAll old new)
    → (r ≡ Err Write → Tells ShowsAll SendsFirst old new ⊎ Tells (ShowsInPart new.room) SendsFirst old new) → HasCalled [] old new
by_looking (Ok after) old new takes untorn ok same waits short cut = looked refl (ok (goes_on old takes)) same
by_looking (Err NoMemory) old new takes untorn ok same waits short cut = looked_in_part refl (short refl) (waits refl)
by_looking (Err Write) old new takes untorn ok same waits short cut = looked_first old new (cut refl)
by_looking (Err Torn) old new takes untorn ok same waits short cut = absurd (untorn refl)

-- ---- call behind call

calls_join : (first mid : Visit) (before : List ℕ) {after : List ℕ} {last : Visit} → Calls first before mid → Calls mid after last → Calls first (before ++ after) last
calls_join first mid before calls no_call = subst (λ (bytes : List ℕ). Calls first bytes mid) (sym (append-nil before)) calls
calls_join first mid before calls (one_more so_far piece now next earlier goes call) =
    subst (λ (bytes : List ℕ). Calls first bytes next) (append_assoc before so_far piece) (one_more (before ++ so_far) piece now next (calls_join first mid before calls earlier) goes call)

-- nothing has come yet
pub hears_nothing : (stream : Option (List ℕ)) (visit : Visit) → HearsOn stream stream visit visit
hears_nothing stream visit = record { heard = []; came = Consumes-nil stream; calls = no_call }

-- nothing was read, and no call was made
pub hears_still : {before after : Option (List ℕ)} {old new : Visit} → new ≡ old → Keeps before after → HearsOn before after old new
hears_still {before} {after} {old} same keeps =
    subst (λ (v : Visit). HearsOn before after old v) (sym same) (record { heard = []; came = Consumes-kept before before after [] (Consumes-nil before) keeps; calls = no_call })

-- a piece was read and heard, in one call
pub hears_read : {before after : Option (List ℕ)} {piece : List ℕ} {old mid new : Visit} → HasCalled piece mid new → mid ≡ old → takes_bytes old ≡ true → Consumes before after piece → HearsOn before after old new
hears_read {before} {after} {piece} {old} {mid} {new} call same takes came =
    record { heard = piece; came = came; calls = one_more [] piece old new no_call (goes_on old takes) (subst (λ (v : Visit). HasCalled piece v new) same call) }

pub hears_further : (start mid end : Option (List ℕ)) (old between new : Visit) → HearsOn start mid old between → HearsOn mid end between new → HearsOn start end old new
hears_further start mid end old between new one two = record {
  heard = one.heard ++ two.heard;
  came = Consumes-trans start mid end one.heard two.heard one.came two.came;
  calls = calls_join old between one.heard one.calls two.calls;
}

-- and then it ended
pub hears_out : (start mid end : Option (List ℕ)) (how : Parting) (dropped : List ℕ) (old last new : Visit) → HearsOn start mid old last → Consumes mid end dropped → Ends how dropped last new → HearsOut start end how old new
hears_out start mid end how dropped old last new one came ends = record {
  heard = one.heard;
  dropped = dropped;
  came = Consumes-trans start mid end one.heard dropped one.came came;
  last = last;
  calls = one.calls;
  ends = ends;
}

-- nothing came
pub nothing_came : (before after : Option (List ℕ)) → Keeps before after → Consumes before after []
nothing_came before after keeps = Consumes-kept before before after [] (Consumes-nil before) keeps

-- so many bytes were read, or none
pub was_read : {A : Type 0} (before after : Option (List ℕ)) (bytes : List ℕ) (r : Result ℕ A) → IfOk r (λ n. Consumes before after (take n bytes)) → OnErr r (Keeps before after) → (dropped : List ℕ) × Consumes before after dropped
was_read before after bytes (Ok n) came none = (take n bytes, came)
was_read before after bytes (Err e) came none = ([], nothing_came before after none)
