-- What the definitions refuse: flags older than what was shown, flags that another message has, an answer that tells none, changes that are left out, and an answer to STORE with flags that are no more.
use Rattle.std.proofs.Common.{◌≡◌, ℕ, zero, suc, ◌≤◌, Bool, true, false, List, [], ◌∷◌, length, take, ap, ◌∙◌, sym, refl, subst, arith}
use Rattle.std.specs.Prelude.{Option, Some, None, codes}
use Rattle.std.proofs.lemmas.Bool.{false≢true}
use Rattle.std.proofs.lemmas.Option.{none-some}
use Rattle.change_ring.specs.declared.change.Change.{Change}
use Rattle.change_ring.specs.declared.change.Change.TheVariants.{Add, Gone, Flags as SetFlags}
use Rattle.change_ring.specs.declared.change.Flags.{Flags}
use Rattle.change_ring.specs.Log.{no_flags}
use Rattle.change_ring.specs.Words.{flag_words}
use Rattle.imap_session.specs.Exchange.{Alter, Altered, Fed, Feed}
use Rattle.imap_session.specs.Commands.{unlimited}
use Rattle.change_ring.specs.declared.flag_op.FlagOp.{FlagOp}
use Rattle.session_thread.specs.ByHistory.{flags_in}
use Rattle.laws_client.specs.Beliefs.{Follows}
use Rattle.laws_client.specs.Clients.{Each}
use Rattle.laws_client.specs.Client.{Client, Known, Messages, unknown}
use Rattle.laws_client.specs.FlagLaws.{HearsFlags}
use Rattle.laws_client.specs.Flags.{FlagsOf, KnowsFlags, HasNow, Point}
use Rattle.laws_client.specs.FlagTurns.{SeesFlags}
use Rattle.laws_client.specs.rows.FlagRows.{both, flagged, the_log}

abbrev the_flags : Option Flags → Flags
the_flags None = no_flags
the_flags (Some flags) = flags

-- the flags at a moment are the ones that are named
named_so : (flags had : Flags) (names : List (List ℕ)) → Some flags ≡ Some had → names ≡ flag_words had → names ≡ flag_words flags
named_so flags had names e named = named ∙ sym (ap (λ (o : Option Flags). flag_words (the_flags o)) e)

-- it was shown \Flagged, and believes that no flag is set: that is older
older : FlagsOf the_log 2 7 [] → ⊥
older f = by f.moment f.since f.until f.had
  where
    by : (m : ℕ) → 2 ≤ m → m ≤ 3 → flags_in 7 (take m the_log) ≡ Some f.flags → ⊥
    by zero low high had = absurd (omega (arith, low))
    by (suc zero) low high had = absurd (omega (arith, low))
    by (suc (suc zero)) low high had = absurd (omega (arith, ap length (named_so flagged f.flags [] had f.named)))
    by (suc (suc (suc zero))) low high had = absurd (omega (arith, ap length (named_so both f.flags [] had f.named)))
    by (suc (suc (suc (suc m)))) low high had = absurd (omega (arith, high))

-- two messages were shown, then the first went, and the second has \Seen
abbrev seen : Flags
seen = record no_flags { seen = true }

abbrev one_gone : List Change
one_gone = Add 6 ∷ Add 7 ∷ Gone 6 ∷ SetFlags 7 seen ∷ []

-- A FETCH of its flags that is numbered by the mailbox, as the first: the client, which counts two, takes them for the other's.
numbered_by_the_mailbox : KnowsFlags (record { log = one_gone; cursor = 2 }) (record { uid = None; flags = Some (codes "\\Seen" ∷ []) } ∷ unknown ∷ []) → ⊥
numbered_by_the_mailbox right = wrong (right.0 (codes "\\Seen" ∷ []) refl)
  where
    wrong : FlagsOf one_gone 2 6 (codes "\\Seen" ∷ []) → ⊥
    wrong f = by f.moment f.since f.until f.had
      where
        by : (m : ℕ) → 2 ≤ m → m ≤ 4 → flags_in 6 (take m one_gone) ≡ Some f.flags → ⊥
        by zero low high had = absurd (omega (arith, low))
        by (suc zero) low high had = absurd (omega (arith, low))
        by (suc (suc zero)) low high had = absurd (omega (arith, ap length (named_so no_flags f.flags (codes "\\Seen" ∷ []) had f.named)))
        by (suc (suc (suc zero))) low high had = none-some f.flags had
        by (suc (suc (suc (suc zero)))) low high had = none-some f.flags had
        by (suc (suc (suc (suc (suc m))))) low high had = absurd (omega (arith, high))

-- a client that believes \Flagged alone, when nothing is pending and both are set
not_now : HasNow the_log 7 (codes "\\Flagged" ∷ []) → ⊥
not_now h = absurd (omega (arith, ap length (named_so both h.flags (codes "\\Flagged" ∷ []) h.has h.named)))

-- ---- texts

abbrev the_list : Messages → List Known
the_list None = []
the_list (Some list) = list

-- an answer that tells a UID alone: of flags nothing is heard
unheard : HearsFlags (7 ∷ []) 7 (codes "\\Seen" ∷ []) (codes "* 1 FETCH (UID 7)\r\n") → ⊥
unheard hears = by (hears (unknown ∷ []) refl)
  where
    by : Follows (λ (u : ℕ) (m : Known). u ≡ 7 → m.flags ≡ Some (codes "\\Seen" ∷ [])) (unknown ∷ []) (codes "* 1 FETCH (UID 7)\r\n") (7 ∷ []) → ⊥
    by f =
        let after : record { uid = Some 7; flags = None } ∷ [] ≡ f.after = ap (λ (c : Client). the_list c.messages) f.reads in
        none-some (codes "\\Seen" ∷ []) ((subst (λ (l : List Known). Each (λ (u : ℕ) (m : Known). u ≡ 7 → m.flags ≡ Some (codes "\\Seen" ∷ [])) (7 ∷ []) l) (sym after) f.each).0 refl)

-- ---- stores

abbrev first_seen : List Change → Bool
first_seen [] = false
first_seen (Add uid ∷ cs) = false
first_seen (Gone uid ∷ cs) = false
first_seen (SetFlags uid flags ∷ cs) = flags.seen

-- one that leaves out the first of the changes that are pending
left_out : (q : Point) → SeesFlags (record { log = the_log; cursor = 1 }) (record { call = Feed unlimited; answer = Fed (7 ∷ []) (SetFlags 7 both ∷ []) }) q → ⊥
left_out q s = false≢true (ap first_seen s.shows)

-- one that answers a STORE with the flags that were there before it
as_before : (q : Point) (op : FlagOp) → q.log ≡ the_log → SeesFlags (record { log = Add 7 ∷ SetFlags 7 flagged ∷ []; cursor = 1 }) (record { call = Alter 7 op; answer = Altered (Some flagged) }) q → ⊥
as_before q op e s = false≢true (sym (ap (λ (o : Option Flags). (the_flags o).seen) (sym (ap (flags_in 7) e) ∙ s.tells)))
