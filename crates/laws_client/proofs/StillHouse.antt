-- The small house of `exactly_once` before anybody comes: it settles at once and prints nothing, and each line of the small script of `RunRows` prints one text.
use Rattle.std.proofs.Common.{◌≡◌, inl, inr, ℕ, zero, suc, ◌-◌, ◌<◌, ◌≤◌, Bool, true, List, [], ◌∷◌, ◌++◌, All, replicate, refl, ap, sym, subst, ◌∙◌, append-nil, arith, Option, Some, None}
use Rattle.std.specs.Prelude.{codes}
use Rattle.delivery_token.specs.declared.Job.{Job}
use Rattle.delivery_token.specs.declared.log.Noted.{Noted}
use Rattle.envelope.specs.Names.{number_of}
use Rattle.shard_queue.specs.declared.lane.Entry.{Entry}
use Rattle.world.specs.declared.hand.Hand.{Hand}
use Rattle.world.specs.declared.hand.Hand.TheVariants.{Empty, Taken, Done}
use Rattle.world.specs.World.{AnswerStep, DeliverStep, TakeStep, World, answer_full, answers, deliver_full, deliver_no_memory, deliver_spent, delivers, empty_world, take_empty, takes}
use Rattle.world.proofs.Base.{Every, all_of_every, every_append}
use Rattle.house_peers.specs.Caller.{Caller}
use Rattle.house_peers.specs.Visitor.{SeatedVisitor}
use Rattle.house.specs.Setup.{Setup}
use Rattle.house.specs.Scene.{BytesPlay, HasNothing, Scene, connection_hears, connection_puts, empty_scene, goes_on, is_shut_in, opens, session_hears, session_puts, with_world}
use Rattle.house.specs.Settled.{is_held}
use Rattle.house.specs.Settling.{InTurn, Settles, Stints, Tries, happens, idle_turns, in_a_row, passes, round}
use Rattle.house.specs.Window.{window_text}
use Rattle.house.specs.declared.event.Event.{Event}
use Rattle.house.specs.declared.event.Event.TheVariants.{Answer, Deliver, Hear, Idle, Put, Take}
use Rattle.exactly_once.specs.rows.Entries.{the_house}
use Rattle.script.specs.Script.{Bad, LineDoes, LinePlays, ScriptLine, Sends, Skip, Tail, held_after, is_bad, none_held, sends, sends_to_nobody, sends_to_owing, skips, tails, tails_nobody}
use Rattle.laws_client.specs.rows.RunRows.{alices, no_line, nobody_there, nothing_came}

-- ---- where no event has anything to do, settling changes nothing

module _ (k : Setup) (s : Scene) where
  -- none of these events has
  abbrev AreIdle : List Event → Type 0
  AreIdle es = Every (HasNothing k s) es

  abbrev AllIdle : List (List Event) → Type 0
  AllIdle groups = Every AreIdle groups

  tried : (e : Event) (t : Scene) (printed : List ℕ) → HasNothing k s e → Tries k s e t printed → (t ≡ s) × (printed ≡ [])
  tried e t printed idle (happens plays) = idle t printed plays
  tried e t printed idle (passes nothing same silent) = (same, silent)

  in_turn : (es : List Event) (t : Scene) (printed : List ℕ) → AreIdle es → InTurn k es s t printed → (t ≡ s) × (printed ≡ [])
  in_turn [] t printed idle went = went
  in_turn (e ∷ es) t printed idle (m, one, two, first, rest, both) =
      let a = tried e m one idle.0 first in
      let b = in_turn es t two idle.1 (subst (λ (x : Scene). InTurn k es x t two) a.0 rest) in
      (b.0, both ∙ ap (λ (x : List ℕ). x ++ two) a.1 ∙ b.1)

  over_again : {A : Type 0} (P : A → Type 0) (group : List A) (times : ℕ) → Every P group → Every P (in_a_row (replicate times group))
  over_again P group zero h = tt
  over_again P group (suc times) h = every_append P group (in_a_row (replicate times group)) h (over_again P group times h)

  in_stints : (groups : List (List Event)) (t : Scene) (printed : List ℕ) → AllIdle groups → Stints k groups s t printed → (t ≡ s) × (printed ≡ [])
  in_stints [] t printed idle went = went
  in_stints (group ∷ groups) t printed idle (m, one, two, first, rest, both) =
      let a = in_turn (in_a_row (replicate first.times group)) m one (over_again (HasNothing k s) group first.times idle.0) first.goes in
      let b = in_stints groups t two idle.1 (subst (λ (x : Scene). Stints k groups x t two) a.0 rest) in
      (b.0, both ∙ ap (λ (x : List ℕ). x ++ two) a.1 ∙ b.1)

  each_done : (groups : List (List Event)) → AllIdle groups → All (λ (group : List Event). All (HasNothing k s) group) groups
  each_done groups idle =
      all_of_every (λ (group : List Event). All (HasNothing k s) group) groups (each groups idle)
    where
      each : (gs : List (List Event)) → AllIdle gs → Every (λ (group : List Event). All (HasNothing k s) group) gs
      each [] h = tt
      each (g ∷ gs) h = (all_of_every (HasNothing k s) g h.0, each gs h.1)

-- ---- nobody has anything to do

abbrev pub at_first : Scene
at_first = empty_scene the_house

no_caller : (b : Caller) → ◌≡◌ {A = Option Caller} None (Some b) → ⊥
no_caller b e = cc

no_visitor : (v : SeatedVisitor) → ◌≡◌ {A = Option SeatedVisitor} None (Some v) → ⊥
no_visitor v e = cc

abbrev IsIdle : Event → Type 0
IsIdle e = HasNothing the_house at_first e

put_idle : (n : ℕ) → IsIdle (Put n)
put_idle n t printed (connection_puts under p) = absurd (no_caller p.caller p.there)
put_idle n t printed (session_puts place is p) = absurd (no_visitor p.visitor p.there)

hear_idle : (n : ℕ) → IsIdle (Hear n)
hear_idle n t printed (connection_hears under p) = absurd (no_caller p.caller p.there)
hear_idle n t printed (session_hears place is p) = absurd (no_visitor p.visitor p.there)

turn_idle : (session : ℕ) → IsIdle (Idle session)
turn_idle session t printed p = absurd (no_visitor p.visitor p.there)

nothing_waits : (e : Entry Job) (others : List (Entry Job)) → ◌≡◌ {A = List (Entry Job)} [] (e ∷ others) → ⊥
nothing_waits e others same = cc

not_taken : (c : Job) → ◌≡◌ {A = Hand} Empty (Taken c) → ⊥
not_taken c e = cc

not_done : (r : Noted) → ◌≡◌ {A = Hand} Empty (Done r) → ⊥
not_done r e = cc

takes_nothing : (v : World) (shard : ℕ) → TakeStep empty_world shard v → v ≡ empty_world
takes_nothing v shard (takes entry others empty waiting after) = absurd (nothing_waits entry others waiting)
takes_nothing v shard (take_empty empty none_waits after) = after

delivers_nothing : (v : World) (shard : ℕ) → DeliverStep the_house.config empty_world shard v → ⊥
delivers_nothing v shard (delivers c b is uid room logs after) = not_taken c is
delivers_nothing v shard (deliver_spent c is spent after) = not_taken c is
delivers_nothing v shard (deliver_full c is uid full after) = not_taken c is
delivers_nothing v shard (deliver_no_memory c is uid room after) = not_taken c is

answers_nothing : (v : World) (shard : ℕ) → AnswerStep empty_world shard v → ⊥
answers_nothing v shard (answers r is room after) = not_done r is
answers_nothing v shard (answer_full r is full after) = not_done r is

take_idle : (shard : ℕ) → IsIdle (Take shard)
take_idle shard t printed p = (p.after ∙ ap (λ (w : World). with_world at_first w) (takes_nothing p.moved shard p.step), p.silent)

deliver_idle : (shard : ℕ) → IsIdle (Deliver shard)
deliver_idle shard t printed p = absurd (delivers_nothing p.moved shard p.step)

answer_idle : (shard : ℕ) → IsIdle (Answer shard)
answer_idle shard t printed p = absurd (answers_nothing p.moved shard p.step)

-- ---- so it settles at once

-- no shard is held, and none is shut
abbrev a_round : List (List Event)
a_round = round the_house (is_held (none_held the_house)) (is_shut_in at_first)

shard_idle : (shard : ℕ) → AreIdle the_house at_first (Take shard ∷ Deliver shard ∷ Answer shard ∷ [])
shard_idle shard = (take_idle shard, (deliver_idle shard, (answer_idle shard, tt)))

round_idle : AllIdle the_house at_first a_round
round_idle =
    ((put_idle 1, tt), ((put_idle 2, tt), ((put_idle 3, tt), (shard_idle 0, (shard_idle 1, ((hear_idle 1, tt), ((hear_idle 2, tt), ((hear_idle 3, tt), tt))))))))

turns_idle : AllIdle the_house at_first (idle_turns the_house.config.sessions)
turns_idle = ((turn_idle 1, tt), tt)

settles_at_once : (t : Scene) (printed : List ℕ) → Settles the_house (is_held (none_held the_house)) at_first t printed → (t ≡ at_first) × (printed ≡ [])
settles_at_once t printed g =
    let a = in_stints the_house at_first (in_a_row (replicate g.goes.rounds a_round)) g.between g.one
    (over_again the_house at_first (AreIdle the_house at_first) a_round g.goes.rounds round_idle) g.goes.goes in
    let b = in_stints the_house at_first (idle_turns the_house.config.sessions) t g.two turns_idle
    (subst (λ (x : Scene). Stints the_house (idle_turns the_house.config.sessions) x t g.two) a.0 g.turns) in
    (b.0, g.both ∙ ap (λ (x : List ℕ). x ++ g.two) a.1 ∙ b.1)

-- and it may do so
is_settled : Settles the_house (is_held (none_held the_house)) at_first at_first []
is_settled = record {
  between = at_first;
  one = [];
  two = [];
  goes = record { rounds = 0; goes = (refl, refl); done = each_done the_house at_first a_round round_idle };
  turns = (at_first, [], [], record { times = 0; goes = (refl, refl); done = all_of_every IsIdle (Idle 1 ∷ []) turns_idle.0 }, (refl, refl), refl);
  both = refl;
}

-- ---- what a line prints

-- it prints this alone, and holds no shard
pub record Prints (number : ℕ) (asks : ScriptLine) (text : List ℕ) : Type 0 where
  pub may : LineDoes the_house number at_first at_first text asks
  pub only : (t : Scene) (printed : List ℕ) → LineDoes the_house number at_first t printed asks → (t ≡ at_first) × (printed ≡ text)
  pub free : held_after (none_held the_house) asks ≡ none_held the_house

pub comment_prints : Prints 1 Skip []
comment_prints = record { may = skips refl refl; only = only; free = refl }
  where
    only : (t : Scene) (printed : List ℕ) → LineDoes the_house 1 at_first t printed Skip → (t ≡ at_first) × (printed ≡ [])
    only t printed (skips same silent) = (same, silent)

no_bytes : (seat : ℕ) (bytes : List ℕ) (t : Scene) (printed : List ℕ) → 2 ≤ seat → BytesPlay the_house true at_first seat bytes t printed → ⊥
no_bytes seat bytes t printed beyond (opens under nobody serials o g after) = let l : seat < 2 = under in omega (arith, beyond, l)
no_bytes seat bytes t printed beyond (goes_on b there alive o g after) = no_caller b there

pub nobody_prints : Prints 2 (Sends 3 (codes "NOOP\r\n")) (codes "? 2 Nobody\n")
nobody_prints = record { may = sends_to_nobody 3 (codes "NOOP\r\n") (inl (inr (omega arith))) refl (sym nobody_there); only = λ t printed does. only 3 (codes "NOOP\r\n") (omega arith) t printed does; free = refl }
  where
    only : (connection : ℕ) (bytes : List ℕ) → 3 ≤ connection → (t : Scene) (printed : List ℕ) → LineDoes the_house 2 at_first t printed (Sends connection bytes)
        → (t ≡ at_first) × (printed ≡ codes "? 2 Nobody\n")
    only connection bytes beyond t printed (sends c b play) = absurd (no_bytes (connection - 1) bytes t printed (omega (arith, beyond)) play)
    only connection bytes beyond t printed (sends_to_nobody c b nobody same is) = (same, is ∙ nobody_there)
    only connection bytes beyond t printed (sends_to_owing c b owing same is) = absurd (no_caller owing.0 owing.1)

no_such_mailbox : ◌≡◌ {A = Option ℕ} (Some 0) None → ⊥
no_such_mailbox e = cc

pub window_prints : Prints 3 (Tail (codes "alice")) (codes "T alice total 0\n")
window_prints = record { may = tails (codes "alice") 0 alices refl (sym nothing_came); only = λ t printed does. only (codes "alice") refl t printed does; free = refl }
  where
    only : (word : List ℕ) → word ≡ codes "alice" → (t : Scene) (printed : List ℕ) → LineDoes the_house 3 at_first t printed (Tail word)
        → (t ≡ at_first) × (printed ≡ codes "T alice total 0\n")
    only word e t printed (tails w m named same is) = (same, is ∙ ap (λ (x : List ℕ). window_text x (record { log = []; base = 0; accepted = [] })) e ∙ nothing_came)
    only word e t printed (tails_nobody w unknown same is) = absurd (no_such_mailbox (sym alices ∙ ap (number_of the_house.directory) (sym e) ∙ unknown))

pub bad_prints : Prints 4 Bad (codes "? 4 Line\n")
bad_prints = record { may = is_bad refl (sym no_line); only = only; free = refl }
  where
    only : (t : Scene) (printed : List ℕ) → LineDoes the_house 4 at_first t printed Bad → (t ≡ at_first) × (printed ≡ codes "? 4 Line\n")
    only t printed (is_bad same is) = (same, is ∙ no_line)

-- ---- a line that is played, and then the house settles

pub plays_so : (number : ℕ) (asks : ScriptLine) (text : List ℕ) → Prints number asks text → (t : Scene) (printed : List ℕ)
    → LinePlays the_house number (none_held the_house) asks at_first t printed → (t ≡ at_first) × (printed ≡ text)
plays_so number asks text prints t printed p =
    let d = prints.only p.between p.one p.does in
    let from_first = subst (λ (x : Scene). Settles the_house (is_held (held_after (none_held the_house) asks)) x t p.two) d.0 p.settles in
    let q = settles_at_once t p.two (subst (λ (held : List Bool). Settles the_house (is_held held) at_first t p.two) prints.free from_first) in
    (q.0, p.both ∙ ap (λ (x : List ℕ). p.one ++ x) q.1 ∙ append-nil p.one ∙ d.1)

pub may_play : (number : ℕ) (asks : ScriptLine) (text : List ℕ) → Prints number asks text → LinePlays the_house number (none_held the_house) asks at_first at_first text
may_play number asks text prints = record {
  between = at_first;
  one = text;
  two = [];
  does = prints.may;
  settles = subst (λ (held : List Bool). Settles the_house (is_held held) at_first at_first []) (sym prints.free) is_settled;
  both = sym (append-nil text);
}
