-- The tag of a line that was read is one.
use Rattle.std.proofs.Common.{◌≡◌, ℕ, Bool, true, false, ◌==◌, ◌&&◌, List, [], ◌∷◌, length, refl, subst}
use Rattle.std.specs.Prelude.{Option, Some, None, Result, Ok, Err, not, if◌then◌else◌}
use Rattle.std.specs.List.{list_all}
use Rattle.std.proofs.lemmas.Bool.{false≢true}
use Rattle.envelope.specs.Reading.{after_spaces}
use Rattle.imap_grammar.specs.Bytes.{is_tag}
use Rattle.imap_grammar.specs.Items.{is_word_of}
use Rattle.imap_grammar.specs.Reading.{command_at, of_command, of_verb, read, verb_at, word_at}
use Rattle.imap_grammar.specs.Verbs.{is_left_out}
use Rattle.imap_grammar.specs.declared.command.Command.{Command}
use Rattle.imap_grammar.specs.declared.command.ImapFault.{ImapFault}
use Rattle.imap_grammar.specs.declared.command.ImapFault.TheVariants.{NoTag, Unknown, LeftOut, Arguments}
use Rattle.imap_grammar.specs.declared.command.Verb.{Verb}
use Rattle.imap_grammar.proofs.Tokens.{excludes, not_true}
use Rattle.laws_client.specs.ListTurns.{is_inner, IsTag}
use Rattle.laws_client.specs.ListLaws.{TagsAreTags}
use Rattle.laws_client.proofs.Bytes.{first_of, rest_of}

-- the tag that is read, or told in a fault, is so
abbrev pub TaggedOf : (List ℕ → Type 0) → Result (List ℕ × Command) ImapFault → Type 0
TaggedOf P (Ok line) = P line.0
TaggedOf P (Err NoTag) = Unit {0}
TaggedOf P (Err (Unknown tag)) = P tag
TaggedOf P (Err (LeftOut tag)) = P tag
TaggedOf P (Err (Arguments tag verb)) = P tag

abbrev pub Tagged : Result (List ℕ × Command) ImapFault → Type 0
Tagged r = TaggedOf IsTag r

inner_tag : (b : ℕ) → is_tag b ≡ true → is_inner b ≡ true
inner_tag b h = rw (not_true (b == 10) (excludes is_tag 10 refl b h)) refl

pub inner_all : (tag : List ℕ) → list_all is_tag tag ≡ true → list_all is_inner tag ≡ true
inner_all [] h = refl
inner_all (b ∷ bs) h = rw (inner_tag b (first_of is_tag b bs h), inner_all bs (rest_of is_tag b bs h)) refl

pub word_is_tag : (tag : List ℕ) → is_word_of is_tag tag ≡ true → IsTag tag
word_is_tag [] h = absurd (false≢true h)
word_is_tag (b ∷ bs) h =
    let all : list_all is_tag (b ∷ bs) ≡ true = word_all (list_all is_tag (b ∷ bs)) (not (length (b ∷ bs) == 0)) h in record {
      first = b;
      others = bs;
      is = refl;
      no_star = not_true (b == 42) (excludes is_tag 42 refl b (first_of is_tag b bs all));
      inner = inner_all (b ∷ bs) all;
    }
  where
    word_all : (s t : Bool) → (s && t) ≡ true → s ≡ true
    word_all true t e = refl
    word_all false t e = absurd (false≢true e)

verb_tagged : (P : List ℕ → Type 0) (tag : List ℕ) → P tag → (verb : Option (Verb × List ℕ)) → TaggedOf P (of_verb tag verb)
verb_tagged P tag t None = t
verb_tagged P tag t (Some found) = by (is_left_out found.0) (command_at found.0 found.1)
  where
    by : (b : Bool) (command : Option Command) → TaggedOf P (if b then Err (LeftOut tag) else of_command tag found.0 command)
    by true command = t
    by false None = t
    by false (Some command) = t

-- whatever holds of all words of tags holds of the tag of a line
pub read_tagged_so : (P : List ℕ → Type 0) → ((tag : List ℕ) → is_word_of is_tag tag ≡ true → P tag) → (line : List ℕ) → TaggedOf P (read line)
unfolding read
read_tagged_so P make line = by (is_word_of is_tag (word_at line).0) refl
  where
    by : (b : Bool) → is_word_of is_tag (word_at line).0 ≡ b
        → TaggedOf P (if b then of_verb (word_at line).0 (verb_at (after_spaces (word_at line).1)) else Err NoTag)
    by true e = verb_tagged P (word_at line).0 (make (word_at line).0 e) (verb_at (after_spaces (word_at line).1))
    by false e = tt

pub read_tagged : (line : List ℕ) → Tagged (read line)
read_tagged = read_tagged_so IsTag word_is_tag

pub tags_are_tags : TagsAreTags
tags_are_tags line tag command e = subst (λ (r : Result (List ℕ × Command) ImapFault). Tagged r) e (read_tagged line)
