use Rattle.std.proofs.Common.{◌≡◌, ◌∙◌, sym, rules, tests, List, ℕ, Bor}
use Rattle.std.specs.Prelude.{map}
use Rattle.std.specs.List.{list_any}
use Rattle.std.proofs.lemmas.Iterator.{YieldsList-from_slice}
use Rattle.std.proofs.lemmas.Iterator.Search.{any_from_yields_List}
use Rattle.envelope.specs.Names.{is_home, home_of}
use Rattle.envelope.specs.Word.{word_home}
use Rattle.envelope.proofs.Cut.{list_any-map}
use Rattle.envelope.proofs.word.Word.is_among.Goals as goal

pub returns : goal.returns
returns c =
    let test = λ (w : Bor (List ℕ)). is_home (word_home c.args.self) (home_of w.now) in
    let by_word : c.any.result ≡ list_any test c.args.words.now =
    any_from_yields_List test _ _ c.any.result c.any.ensures.ran (YieldsList-from_slice c.args.words.now cc) (λ x b q k. search (rules, tests)) in
    let same = is_home (word_home c.args.self) in
    by_word ∙ sym (list_any-map same home_of (map (λ w. w.now) c.args.words.now) ∙ list_any-map (λ word. same (home_of word)) (λ w. w.now) c.args.words.now)
