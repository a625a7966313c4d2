-- Lines and dialogues go on where they stopped.
use Rattle.std.proofs.Common.{◌≡◌, ◌⊎◌, inl, inr, ℕ, List, [], ◌∷◌, ◌++◌, refl, ap, sym, subst, ◌∙◌, append_assoc, arith}
use Rattle.std.proofs.lemmas.List.{append-nil}
use Rattle.envelope.specs.Names.{Directory}
use Rattle.std.proofs.lemmas.List.Concat.{flat_map-append}
use Rattle.std.proofs.lemmas.List.Elements.{All-append}
use Rattle.line_io.specs.Wire.{IsCut, IsUncut, joined, crlf}
use Rattle.lmtp_machine.specs.Dialogue.{Phase, Start, Ready, Transaction, Data, Waiting, Ended, Standing, Setting, Event, Turn, dialogue, on_event}
use Rattle.lmtp_machine.specs.Conversation.{Conversation, ◌⨾◌, Heard, none, line, starved, IsInData, IsListening, EachMayBeHeard, Leads}
use Rattle.lmtp_machine.specs.Laws.{GoesOn, AnyPieces, TakesWhileListening}

then_assoc : (t u v : Turn) → (t ⨾ u) ⨾ v ≡ t ⨾ (u ⨾ v)
then_assoc t u v = grind (arith, append_assoc)

pub goes_on : GoesOn
goes_on setting directory s [] more = refl
goes_on setting directory s (e ∷ es) more =
    let first = on_event setting directory s e in
    let rest = goes_on setting directory first.standing es more in
    ap (λ (u : Turn). first ⨾ u) rest ∙ sym (then_assoc first (dialogue setting directory first.standing es) (dialogue setting directory (dialogue setting directory first.standing es).standing more))

pub heard-append : {ls ms : List (List ℕ)} {es fs : List Event} → Heard ls es → Heard ms fs → Heard (ls ++ ms) (es ++ fs)
heard-append none k = k
heard-append (line l h) k = line l (heard-append h k)
heard-append (starved h) k = starved (heard-append h k)

-- what may be heard, and then may be heard where that leads
pub may-append : (setting : Setting) (directory : Directory) (s : Standing) (es fs : List Event) → EachMayBeHeard setting directory s es
    → EachMayBeHeard setting directory (dialogue setting directory s es).standing fs → EachMayBeHeard setting directory s (es ++ fs)
may-append setting directory s [] fs h k = k
may-append setting directory s (e ∷ es) fs h k = (h.0, may-append setting directory (on_event setting directory s e).standing es fs h.1 k)

-- ---- where nothing was taken

pub nil_front : (xs ys : List ℕ) → xs ++ ys ≡ [] → xs ≡ []
nil_front [] ys e = refl
nil_front (x ∷ xs) ys e = absurd (let k : x ∷ (xs ++ ys) ≡ [] = e in cc)

pub nil_back : (xs ys : List ℕ) → xs ++ ys ≡ [] → ys ≡ []
nil_back [] ys e = e
nil_back (x ∷ xs) ys e = absurd (let k : x ∷ (xs ++ ys) ≡ [] = e in cc)

-- within one line there is no whole line
no_lines : (s : List ℕ) (lines : List (List ℕ)) (rest : List ℕ) → IsUncut s → s ≡ joined lines ++ rest → lines ≡ []
no_lines s [] rest h e = refl
no_lines s (l ∷ ls) rest h e = absurd (h (l, joined ls ++ rest, e ∙ append_assoc (l ++ crlf) (joined ls) rest ∙ append_assoc l crlf (joined ls ++ rest)))

heard_none : {events : List Event} → Heard [] events → events ≡ []
heard_none none = refl

-- no byte leads nowhere
stays : (setting : Setting) (directory : Directory) (b c : Conversation) (taken : List ℕ) (u : Turn) → IsUncut b.unfinished → (k : Leads setting directory b taken u c) → taken ≡ []
    → u.standing ≡ b.standing
stays setting directory b c taken u open_end k e =
    let whole : b.unfinished ≡ joined k.lines ++ c.unfinished = sym (append-nil b.unfinished) ∙ ap (λ (t : List ℕ). b.unfinished ++ t) (sym e) ∙ k.cut.whole in
    let lines : k.lines ≡ [] = no_lines b.unfinished k.lines c.unfinished open_end whole in
    let heard : Heard [] k.events = subst (λ (ls : List (List ℕ)). Heard ls k.events) lines k.heard in
    ap (λ (v : Turn). v.standing) k.turns ∙ ap (λ (es : List Event). (dialogue setting directory b.standing es).standing) (heard_none heard)

-- what was taken behind the last line of both
behind-append : (setting : Setting) (directory : Directory) (a b c : Conversation) (first second : List ℕ) (t u : Turn) → (h : Leads setting directory a first t b) → (k : Leads setting directory b second u c)
    → IsListening u.standing.phase ⊎ (first ++ second ≡ []) ⊎ (c.unfinished ≡ [])
behind-append setting directory a b c first second t u h k = elim k.behind [
  | inl l ↦ inl l
  | inr (inr e) ↦ inr (inr e)
  | inr (inl e) ↦ elim h.behind [
    | inl l ↦ inl (subst (λ (s : Standing). IsListening s.phase) (sym (stays setting directory b c second u h.cut.open_end k e ∙ h.stands)) l)
    | inr (inl f) ↦ inr (inl (ap (λ (x : List ℕ). x ++ second) f ∙ e))
    | inr (inr f) ↦ inr (inr (nil_back (joined k.lines) c.unfinished (sym k.cut.whole ∙ ap (λ (x : List ℕ). x ++ second) f ∙ e)))
  ]
]

-- ---- one piece after the other

-- whole lines and then more whole lines
pub cut-append : (a first b second c : List ℕ) (ls ms : List (List ℕ)) → IsCut (a ++ first) ls b → IsCut (b ++ second) ms c → IsCut (a ++ (first ++ second)) (ls ++ ms) c
cut-append a first b second c ls ms h k = record {
  whole =
      sym (append_assoc a first second)
      ∙ ap (λ (t : List ℕ). t ++ second) h.whole
      ∙ append_assoc (joined ls) b second
      ∙ ap (λ (t : List ℕ). joined ls ++ t) k.whole
      ∙ sym (append_assoc (joined ls) (joined ms) c)
      ∙ ap (λ (t : List ℕ). t ++ c) (sym (flat_map-append (λ l. l ++ crlf) ls ms));
  each = All-append IsUncut ls ms h.each k.each;
  open_end = k.open_end;
}

pub any_pieces : AnyPieces
any_pieces setting directory a b c first second t u h k = record {
  lines = h.lines ++ k.lines;
  events = h.events ++ k.events;
  cut = cut-append a.unfinished first b.unfinished second c.unfinished h.lines k.lines h.cut k.cut;
  heard = heard-append h.heard k.heard;
  may = may-append setting directory a.standing h.events k.events h.may
      (subst (λ (s : Standing). EachMayBeHeard setting directory s k.events) (h.stands ∙ ap (λ (v : Turn). v.standing) h.turns) k.may);
  turns =
      ap (λ (v : Turn). v ⨾ u) h.turns
      ∙ ap (λ (v : Turn). dialogue setting directory a.standing h.events ⨾ v) (k.turns ∙ ap (λ (s : Standing). dialogue setting directory s k.events) (h.stands ∙ ap (λ (v : Turn). v.standing) h.turns))
      ∙ sym (goes_on setting directory a.standing h.events k.events);
  stands = k.stands;
  behind = behind-append setting directory a b c first second t u h k;
}

-- ---- where the dialogue doesn't listen

in_data : (phase : Phase) → IsInData phase → IsListening phase
in_data Start h = absurd h
in_data Ready h = absurd h
in_data (Transaction sender recipients) h = absurd h
in_data (Data sender recipients lines) h = tt
in_data (Waiting count) h = absurd h
in_data Ended h = absurd h

-- where a line is heard, the dialogue listens
pub hears : (setting : Setting) (directory : Directory) (s : Standing) {lines : List (List ℕ)} {events : List Event} → Heard lines events
    → EachMayBeHeard setting directory s events → IsListening s.phase ⊎ ((lines ≡ []) × (events ≡ []))
hears setting directory s none may = inr (refl, refl)
hears setting directory s (line l h) may = inl may.0
hears setting directory s (starved h) may = inl (in_data s.phase may.0)

-- nothing is heard elsewhere
unheard : (setting : Setting) (directory : Directory) (s : Standing) {lines : List (List ℕ)} {events : List Event} → Heard lines events → (IsListening s.phase → ⊥)
    → EachMayBeHeard setting directory s events → (lines ≡ []) × (events ≡ [])
unheard setting directory s h deaf may = elim (hears setting directory s h may) [ inl l ↦ absurd (deaf l) | inr n ↦ n ]

pub takes_while_listening : TakesWhileListening
takes_while_listening setting directory before after taken turn h deaf =
    let no = unheard setting directory before.standing h.heard deaf h.may in
    let said : turn ≡ dialogue setting directory before.standing [] = h.turns ∙ ap (λ (es : List Event). dialogue setting directory before.standing es) no.1 in
    let stays : turn.standing ≡ before.standing = ap (λ (t : Turn). t.standing) said in
    let left : before.unfinished ++ taken ≡ after.unfinished = h.cut.whole ∙ ap (λ (ls : List (List ℕ)). joined ls ++ after.unfinished) no.0 in
    record {
      none = elim h.behind [
        | inl l ↦ absurd (deaf (subst (λ (s : Standing). IsListening s.phase) stays l))
        | inr (inl e) ↦ e
        | inr (inr e) ↦ nil_back before.unfinished taken (left ∙ e)
      ];
      quiet = (ap (λ (t : Turn). t.replies) said, ap (λ (t : Turn). t.submissions) said);
      stays = h.stands ∙ stays;
    }
