-- The one reading that the grammar allows.
use Rattle.std.proofs.Common.{◌≡◌, ℕ, Bool, true, false, cond, List, [], ◌∷◌, ◌++◌, length, refl, ap, sym, subst, ◌∙◌, arith, append_assoc, length-append, inl, inr}
use Rattle.std.specs.Prelude.{Option, Some, None, Result, Ok, Err}
use Rattle.envelope.proofs.Begins.{gap_stops, after_gap_stops, stopped_gap, not_not}
use Rattle.envelope.proofs.Tails.{stops_after}
use Rattle.envelope.proofs.Tokens.{Stops}
use Rattle.envelope.specs.Bytes.{is_space, is_not_space}
use Rattle.envelope.specs.Grammar.{Some1, Spaces, Gap, Exactly, Anything, AfterGap, Joined}
use Rattle.envelope.specs.Reading.{after_spaces}
use Rattle.imap_grammar.specs.Bytes.{is_tag}
use Rattle.imap_grammar.specs.Grammar.{TagIs, VerbIs, ArgumentsOf, Line, BeginsWith, IsFault, Reads}
use Rattle.imap_grammar.specs.Items.{is_word_of}
use Rattle.imap_grammar.specs.Reading.{word_at, verb_at, command_at, of_command, of_verb, read}
use Rattle.imap_grammar.specs.Verbs.{copy_verb, is_left_out, verb_of}
use Rattle.imap_grammar.specs.declared.command.Verb.{Verb}
use Rattle.imap_grammar.specs.declared.command.Verb.TheVariants as verbs
use Rattle.imap_grammar.specs.declared.command.Command.{Command}
use Rattle.imap_grammar.specs.declared.command.Command.TheVariants as say
use Rattle.imap_grammar.specs.declared.command.ImapFault.{ImapFault}
use Rattle.imap_grammar.specs.declared.command.ImapFault.TheVariants.{NoTag, Unknown, LeftOut, Arguments}
use Rattle.imap_grammar.proofs.Tokens.{excludes, many_map, blank_first, spaces_over, some_gap, word_again, word_parts}
use Rattle.imap_grammar.proofs.Fields.{word_of_again, word_of_sound}
use Rattle.imap_grammar.proofs.CommandLaw.{command_again, command_sound}
use Rattle.imap_grammar.proofs.VerbLaw.{verb_begins, FoundVerb, verb_sound}

-- ---- tags and verbs at the front

abbrev reading : List ℕ × List ℕ → Result (List ℕ × Command) ImapFault
reading cut = cond (is_word_of is_tag cut.0) (of_verb cut.0 (verb_at (after_spaces cut.1))) (Err NoTag)

tag_word : (text rest : List ℕ) → Some1 is_tag text → Stops is_not_space rest → word_at (text ++ rest) ≡ (text, rest)
tag_word text rest h s = word_again text rest (many_map is_tag is_not_space (λ b e. excludes is_tag 32 refl b e) text h.1) s

tagged : (tag text rest : List ℕ) → TagIs tag text → Stops is_not_space rest → read (text ++ rest) ≡ of_verb tag (verb_at (after_spaces rest))
unfolding read
tagged tag text rest h s =
    ap reading (tag_word text rest h.1 s)
    ∙ ap (λ (t : Bool). cond t (of_verb text (verb_at (after_spaces rest))) (Err NoTag)) (word_of_again is_tag text h.1)
    ∙ ap (λ t. of_verb t (verb_at (after_spaces rest))) h.0

read_begun : (R : List ℕ → Type 0) → ((l : List ℕ) → R l → Stops is_not_space l) → (tag : List ℕ) (v : Verb) (line : List ℕ)
    → (q : Joined (TagIs tag) (Joined Gap (Joined (VerbIs v) R)) line) → read line ≡ of_verb tag (Some (v, q.second.second.back))
read_begun R stops tag v line q =
    let g = q.second in
    let b = g.second in
    let k = verb_begins v b.front b.back b.first (stops b.back b.second) in
    let start : Stops is_space g.back = subst (Stops is_space) (sym b.parts) k.1 in
    let over : after_spaces q.back ≡ g.back = ap after_spaces g.parts ∙ spaces_over g.front g.back g.first.1 start in
    ap read q.parts
    ∙ tagged tag q.front q.back q.first (gap_stops g.front g.back q.back g.parts g.first)
    ∙ ap (λ l. of_verb tag (verb_at l)) (over ∙ b.parts)
    ∙ ap (of_verb tag) k.0

-- ---- what follows the verb of a command

gap_first : (P : List ℕ → Type 0) (l : List ℕ) → Joined (Joined Gap P) Spaces l → Stops is_not_space l
gap_first P l q =
    gap_stops q.first.front (q.first.back ++ q.back) l (q.parts ∙ ap (λ x. x ++ q.back) q.first.parts ∙ append_assoc q.first.front q.first.back q.back) q.first.first

none_first : (l : List ℕ) → Joined (Exactly []) Spaces l → Stops is_not_space l
none_first l q = subst (Stops is_not_space) (sym (q.parts ∙ ap (λ x. x ++ q.back) q.first)) (blank_first q.back q.second)

any_first : (l front back : List ℕ) → l ≡ front ++ back → AfterGap Anything front → Spaces back → Stops is_not_space l
any_first l front back e (inl h) s = subst (Stops is_not_space) (sym (e ∙ ap (λ x. x ++ back) h)) (blank_first back s)
any_first l front back e (inr q) s = gap_stops q.front (q.back ++ back) l (e ∙ ap (λ x. x ++ back) q.parts ∙ append_assoc q.front q.back back) q.first

arguments_first : (c : Command) (l : List ℕ) → Joined (ArgumentsOf c) Spaces l → Stops is_not_space l
arguments_first (say.Login user password) l q = gap_first _ l q
arguments_first (say.Authenticate a) l q = gap_first _ l q
arguments_first say.StartTls l q = any_first l q.front q.back q.parts q.first q.second
arguments_first (say.Select name) l q = gap_first _ l q
arguments_first (say.Examine name) l q = gap_first _ l q
arguments_first (say.List reference pattern) l q = gap_first _ l q
arguments_first (say.Status name items) l q = gap_first _ l q
arguments_first (say.UidExpunge set) l q = gap_first _ l q
arguments_first (say.Fetch f) l q = gap_first _ l q
arguments_first (say.Store s) l q = gap_first _ l q
arguments_first (say.Copy m) l q = gap_first _ l q
arguments_first (say.Append a) l q = gap_first _ l q
arguments_first (say.Lsub reference pattern) l q = gap_first _ l q
arguments_first (say.Subscribe name) l q = gap_first _ l q
arguments_first (say.Unsubscribe name) l q = gap_first _ l q
arguments_first (say.Search s) l q = gap_first _ l q
arguments_first say.Enable l q = gap_first _ l q
arguments_first say.Id l q = gap_first _ l q
arguments_first _ l q = none_first l q

kept_fetch : (by_uid : Bool) → is_left_out (cond by_uid verbs.UidFetch verbs.Fetch) ≡ false
kept_fetch true = refl
kept_fetch false = refl

kept_store : (by_uid : Bool) → is_left_out (cond by_uid verbs.UidStore verbs.Store) ≡ false
kept_store true = refl
kept_store false = refl

kept_copy : (by_uid moves : Bool) → is_left_out (copy_verb by_uid moves) ≡ false
kept_copy true true = refl
kept_copy true false = refl
kept_copy false true = refl
kept_copy false false = refl

kept_search : (by_uid : Bool) → is_left_out (cond by_uid verbs.UidSearch verbs.Search) ≡ false
kept_search true = refl
kept_search false = refl

kept : (c : Command) → is_left_out (verb_of c) ≡ false
kept (say.Fetch f) = kept_fetch f.by_uid
kept (say.Store s) = kept_store s.by_uid
kept (say.Copy m) = kept_copy m.by_uid m.moves
kept (say.Search s) = kept_search s.by_uid
kept _ = refl

-- what is read behind a verb
abbrev outcome : List ℕ → Verb → List ℕ → Result (List ℕ × Command) ImapFault
outcome tag v rest = of_verb tag (Some (v, rest))

offered_outcome : (tag : List ℕ) (v : Verb) (rest : List ℕ) → is_left_out v ≡ false → outcome tag v rest ≡ of_command tag v (command_at v rest)
offered_outcome tag v rest e = ap (λ (t : Bool). cond t (Err (LeftOut tag)) (of_command tag v (command_at v rest))) e

left_outcome : (tag : List ℕ) (v : Verb) (rest : List ℕ) → is_left_out v ≡ true → outcome tag v rest ≡ Err (LeftOut tag)
left_outcome tag v rest e = ap (λ (t : Bool). cond t (Err (LeftOut tag)) (of_command tag v (command_at v rest))) e

-- a command's line is read as that command
pub line_again : (tag : List ℕ) (c : Command) (line : List ℕ) → Line tag c line → read line ≡ Ok (tag, c)
line_again tag c line q =
    let rest = q.second.second.back in
    read_begun (Joined (ArgumentsOf c) Spaces) (arguments_first c) tag (verb_of c) line q
    ∙ offered_outcome tag (verb_of c) rest (kept c)
    ∙ ap (of_command tag (verb_of c)) (command_again c rest q.second.second.second)

begun : (tag : List ℕ) (v : Verb) (line : List ℕ) → (q : BeginsWith tag v line) → read line ≡ outcome tag v q.second.second.back
begun tag v line q = read_begun (AfterGap Anything) (λ l h. after_gap_stops Anything l h) tag v line q

-- ---- what was read

of_command_known : (tag t : List ℕ) (v : Verb) (o : Option Command) → of_command tag v o ≡ Err (Unknown t) → ⊥
of_command_known tag t v None e = cc
of_command_known tag t v (Some c) e = cc

outcome_case : (b : Bool) (tag t : List ℕ) (v : Verb) (o : Option Command) → cond b (Err (LeftOut tag)) (of_command tag v o) ≡ Err (Unknown t) → ⊥
outcome_case true tag t v o e = cc
outcome_case false tag t v o e = of_command_known tag t v o e

outcome_known : (tag t : List ℕ) (v : Verb) (rest : List ℕ) → outcome tag v rest ≡ Err (Unknown t) → ⊥
outcome_known tag t v rest e = outcome_case (is_left_out v) tag t v (command_at v rest) e

-- a tag's end, the gap behind it and a verb
gap_verb : (back rest : List ℕ) (v : Verb) (R : List ℕ → Type 0) → Stops is_not_space back → FoundVerb (after_spaces back) rest v → R rest → Joined Gap (Joined (VerbIs v) R) back
gap_verb [] rest v R s f r = absurd (omega (arith, f.some, ap length f.parts, length-append f.text rest))
gap_verb (b ∷ bs) rest v R s f r =
    let g = some_gap b bs (not_not (is_space b) s) in
    record { front = g.gap; back = after_spaces (b ∷ bs); parts = g.parts; first = g.is; second = record { front = f.text; back = rest; parts = f.parts; first = f.is; second = r } }

-- the parts of a line that begins with a tag
record Opened (line tag back : List ℕ) : Type 0 where
  parts : line ≡ tag ++ back
  is : TagIs tag tag
  stops : Stops is_not_space back

with_verb : (line tag back rest : List ℕ) (v : Verb) (R : List ℕ → Type 0) → Opened line tag back → FoundVerb (after_spaces back) rest v → R rest → Joined (TagIs tag) (Joined Gap (Joined (VerbIs v) R)) line
with_verb line tag back rest v R o f r = record { front = tag; back = back; parts = o.parts; first = o.is; second = gap_verb back rest v R o.stops f r }

begins : (line tag back rest : List ℕ) (v : Verb) → Opened line tag back → FoundVerb (after_spaces back) rest v → BeginsWith tag v line
begins line tag back rest v o f = with_verb line tag back rest v (AfterGap Anything) o f (stopped_gap rest f.stops)

spelled : (line tag back rest : List ℕ) (v : Verb) (c : Command) → Opened line tag back → FoundVerb (after_spaces back) rest v → command_at v rest ≡ Some c → Line tag c line
spelled line tag back rest v c o f e =
    let k = command_sound v c rest f.stops e in
    let g : FoundVerb (after_spaces back) rest (verb_of c) = subst (FoundVerb (after_spaces back) rest) (sym k.verb) f in
    with_verb line tag back rest (verb_of c) (Joined (ArgumentsOf c) Spaces) o g k.is

command_case : (line tag back rest : List ℕ) (v : Verb) (o : Option Command) → command_at v rest ≡ o → is_left_out v ≡ false → Opened line tag back → FoundVerb (after_spaces back) rest v
    → read line ≡ of_command tag v o → Reads line (of_command tag v o)
command_case line tag back rest v None e k o f r =
    (k, begins line tag back rest v o f, λ c h. let ok = line_again tag c line h in let bad : Ok (tag, c) ≡ Err (Arguments tag v) = sym ok ∙ r in cc)
command_case line tag back rest v (Some c) e k o f r = spelled line tag back rest v c o f e

left_case : (line tag back rest : List ℕ) (v : Verb) (b : Bool) → is_left_out v ≡ b → Opened line tag back → FoundVerb (after_spaces back) rest v
    → read line ≡ cond b (Err (LeftOut tag)) (of_command tag v (command_at v rest)) → Reads line (cond b (Err (LeftOut tag)) (of_command tag v (command_at v rest)))
left_case line tag back rest v true e o f r = (v, e, begins line tag back rest v o f)
left_case line tag back rest v false e o f r = command_case line tag back rest v (command_at v rest) refl e o f r

verb_case : (line tag back : List ℕ) (x : Option (Verb × List ℕ)) → verb_at (after_spaces back) ≡ x → Opened line tag back → read line ≡ of_verb tag x → Reads line (of_verb tag x)
verb_case line tag back None e o r = (
  record { front = tag; back = back; parts = o.parts; first = o.is; second = stopped_gap back o.stops },
  λ v b. outcome_known tag tag v b.second.second.back (sym (begun tag v line b) ∙ r),
)
verb_case line tag back (Some c) e o r = left_case line tag back c.1 c.0 (is_left_out c.0) refl o (verb_sound (after_spaces back) c.1 c.0 e) r

opened : (line : List ℕ) → is_word_of is_tag (word_at line).0 ≡ true → Opened line (word_at line).0 (word_at line).1
opened line e = record { parts = word_parts line; is = (refl, word_of_sound is_tag (word_at line).0 e); stops = stops_after is_not_space line }

no_tag : (line tag : List ℕ) → is_word_of is_tag (word_at line).0 ≡ false → Joined (TagIs tag) (AfterGap Anything) line → ⊥
no_tag line tag e q =
    let cut = ap word_at q.parts ∙ tag_word q.front q.back q.first.1 (after_gap_stops Anything q.back q.second) in
    let yes : is_word_of is_tag (word_at line).0 ≡ true = ap (λ (c : List ℕ × List ℕ). is_word_of is_tag c.0) cut ∙ word_of_again is_tag q.front q.first.1 in
    let both : false ≡ true = sym e ∙ yes in
    cc

tag_case : (line : List ℕ) (b : Bool) → is_word_of is_tag (word_at line).0 ≡ b
    → Reads line (cond b (of_verb (word_at line).0 (verb_at (after_spaces (word_at line).1))) (Err NoTag))
unfolding read
tag_case line true e =
    let w = word_at line in
    verb_case line w.0 w.1 (verb_at (after_spaces w.1)) refl (opened line e) (ap (λ (t : Bool). cond t (of_verb w.0 (verb_at (after_spaces w.1))) (Err NoTag)) e)
tag_case line false e = λ tag q. no_tag line tag e q

-- what is read is what the grammar says
pub reads : (line : List ℕ) → Reads line (read line)
unfolding read
reads line = tag_case line (is_word_of is_tag (word_at line).0) refl

-- ---- the grammar says nothing else

no_tag_only : (line : List ℕ) (b : Bool) → is_word_of is_tag (word_at line).0 ≡ b → IsFault line NoTag → read line ≡ Err NoTag
unfolding read
no_tag_only line true e h =
    let o = opened line e in
    absurd (h (word_at line).0 (record { front = (word_at line).0; back = (word_at line).1; parts = o.parts; first = o.is; second = stopped_gap (word_at line).1 o.stops }))
no_tag_only line false e h = ap (λ (t : Bool). cond t (of_verb (word_at line).0 (verb_at (after_spaces (word_at line).1))) (Err NoTag)) e

unknown_only : (line tag back : List ℕ) (x : Option (Verb × List ℕ)) → verb_at (after_spaces back) ≡ x → Opened line tag back → ((v : Verb) → BeginsWith tag v line → ⊥) → of_verb tag x ≡ Err (Unknown tag)
unknown_only line tag back None e o n = refl
unknown_only line tag back (Some c) e o n = absurd (n c.0 (begins line tag back c.1 c.0 o (verb_sound (after_spaces back) c.1 c.0 e)))

arguments_only : (line tag : List ℕ) (v : Verb) (q : BeginsWith tag v line) (o : Option Command) → command_at v q.second.second.back ≡ o → ((c : Command) → Line tag c line → ⊥)
    → of_command tag v o ≡ Err (Arguments tag v)
arguments_only line tag v q None e n = refl
arguments_only line tag v q (Some c) e n =
    let rest = q.second.second.back in
    let k = command_sound v c rest (after_gap_stops Anything rest q.second.second.second) e in
    let verb : VerbIs (verb_of c) q.second.second.front = subst (λ x. VerbIs x q.second.second.front) (sym k.verb) q.second.second.first in
    absurd (n c (record {
      front = q.front;
      back = q.back;
      parts = q.parts;
      first = q.first;
      second = record {
        front = q.second.front;
        back = q.second.back;
        parts = q.second.parts;
        first = q.second.first;
        second = record { front = q.second.second.front; back = rest; parts = q.second.second.parts; first = verb; second = k.is };
      };
    }))

fault_only : (line : List ℕ) (fault : ImapFault) → IsFault line fault → read line ≡ Err fault
fault_only line NoTag h = no_tag_only line (is_word_of is_tag (word_at line).0) refl h
fault_only line (Unknown tag) h =
    let q = h.0 in
    let stops = after_gap_stops Anything q.back q.second in
    let o : Opened line tag q.back = record { parts = q.parts ∙ ap (λ l. l ++ q.back) q.first.0; is = subst (TagIs tag) q.first.0 q.first; stops = stops } in
    ap read q.parts ∙ tagged tag q.front q.back q.first stops ∙ unknown_only line tag q.back (verb_at (after_spaces q.back)) refl o h.1
fault_only line (LeftOut tag) h = begun tag h.0 line h.2 ∙ left_outcome tag h.0 h.2.second.second.back h.1
fault_only line (Arguments tag v) h =
    begun tag v line h.1
    ∙ offered_outcome tag v h.1.second.second.back h.0
    ∙ arguments_only line tag v h.1 (command_at v h.1.second.second.back) refl h.2

pub only : (line : List ℕ) (r : Result (List ℕ × Command) ImapFault) → Reads line r → r ≡ read line
only line (Ok p) h = sym (line_again p.0 p.1 line h)
only line (Err fault) h = sym (fault_only line fault h)
