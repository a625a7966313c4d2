-- The parts of a SEARCH.
use Rattle.std.proofs.Common.{◌≡◌, ℕ, zero, suc, ◌+◌, ◌-◌, ◌<◌, false, length, drop, get_or, add-one, drop-cons, List, [], ◌∷◌, ◌++◌, append-nil, arith, map, Some, None, refl, ap, sym, subst}
use Rattle.std.proofs.lemmas.List.{length-map}
use Rattle.std.specs.List.{slice_get}
use Rattle.std.specs.Prelude.{slice_index}
use Rattle.imap_grammar.specs.Sets.{last_uid, named_at}
use Rattle.imap_grammar.specs.declared.command.Search.{Search}
use Rattle.imap_grammar.specs.declared.view.Named.{Named}
use Rattle.imap_session.specs.Exchange as ex
use Rattle.imap_session.specs.Exchange.{Call, Answer, Exchange, Standing}
use Rattle.imap_session.specs.Commands.{found_in, on_found, searching}
use Rattle.imap_session.specs.Response.{Response}
use Rattle.imap_session.specs.inner.Store.{Reaches}
use Rattle.imap_session.proofs.Runs.{reaches_then}

-- what is left of a SEARCH is a read of the next message
pub searching_next : (search : Search) (last : Named) (view : List ℕ) (done : List ℕ → Exchange) (uids : List ℕ) (i : ℕ) (found : List ℕ) → i < length uids
    → searching search last view done (drop i uids) found ≡ ex.Read (get_or uids i 0) false (on_found
    (λ row. searching search last view done (drop (i + 1) uids) (found ++ found_in search last (named_at view (get_or uids i 0)) row))
    (searching search last view done (drop (i + 1) uids) found))
searching_next search last view done uids i found h = rw (add-one, drop-cons uids i 0) refl

-- a message that is gone leaves what was found as it is
pub gone_adds_nothing : (search : Search) (last : Named) (view : List ℕ) (done : List ℕ → Exchange) (uids found : List ℕ) → searching search last view done uids found ≡ searching search last view done uids (found ++ [])
gone_adds_nothing search last view done uids found = ap (λ f. searching search last view done uids f) (sym (append-nil found))

-- a SEARCH goes on by one message
pub searches_more : {S : Type 0} (step : S → Call → Answer → S → Type 0) (tag : List ℕ) (now : Standing) (search : Search) (last : Named) (view : List ℕ) (done : List ℕ → Exchange) (uids : List ℕ) (i : ℕ) (found more kept : List ℕ) (x : Exchange) (old mid new : S) (text : Response)
    → i < length uids → kept ≡ found ++ more
    → Reaches step tag now now x (searching search last view done (drop i uids) found) old mid text text
    → Reaches step tag now now
    (ex.Read (get_or uids i 0) false (on_found
    (λ row. searching search last view done (drop (i + 1) uids) (found ++ found_in search last (named_at view (get_or uids i 0)) row))
    (searching search last view done (drop (i + 1) uids) found)))
    (searching search last view done (drop (i + 1) uids) (found ++ more)) mid new text text
    → Reaches step tag now now x (searching search last view done (drop (i + 1) uids) kept) old new text text
searches_more step tag now search last view done uids i found more kept x old mid new text lt e p q =
    let P : Exchange → Type 0 = λ y. Reaches step tag now now x y old mid text text in
    rw e (reaches_then step tag now now now x _ _ old mid new text text text (subst P (searching_next search last view done uids i found lt) p) q)

-- ---- the last message of a view

there_at_end : (m : Named) (ms : List Named) → None ≡ slice_get (m ∷ ms) (length ms) → ⊥
there_at_end m [] e = cc
there_at_end m (n ∷ ms) e = there_at_end n ms e

pub none_at_end : (ms : List Named) → None ≡ slice_get ms (length ms - 1) → ms ≡ []
none_at_end [] e = refl
none_at_end (m ∷ ms) e =
    let n : length (m ∷ ms) - 1 ≡ length ms = omega arith in
    absurd (there_at_end m ms (subst (λ (k : ℕ). None ≡ slice_get (m ∷ ms) k) n e))

pub none_named : (view uids : List ℕ) → map (named_at view) uids ≡ [] → uids ≡ []
none_named view [] e = refl
none_named view (uid ∷ uids) e = cc

named_there : (view uids : List ℕ) (i : ℕ) (m : Named) → Some m ≡ slice_get (map (named_at view) uids) i → m ≡ named_at view (slice_index uids i)
named_there view [] i m e = cc
named_there view (uid ∷ uids) zero m e = cc
named_there view (uid ∷ uids) (suc i) m e = named_there view uids i m e

pub last_named : (view uids : List ℕ) (messages : List Named) (m : Named) → messages ≡ map (named_at view) uids → Some m ≡ slice_get messages (length messages - 1) → m ≡ named_at view (last_uid uids)
last_named view uids messages m are e =
    named_there view uids (length uids - 1) m
    (subst (λ (n : ℕ). Some m ≡ slice_get (map (named_at view) uids) (n - 1)) (length-map uids (named_at view)) (subst (λ (ms : List Named). Some m ≡ slice_get ms (length ms - 1)) are e))
