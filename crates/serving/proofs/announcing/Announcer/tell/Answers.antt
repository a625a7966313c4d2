use Rattle.std.proofs.Common.{List, ℕ, length, le_refl, rules, subst, sym}
use Rattle.std.specs.Io.KnownBytes.{Appends}
use Rattle.std.proofs.lemmas.List.{take_all}
use Rattle.serving.proofs.announcing.Announcer.tell.Goals as goal

pub returns-clause-told : goal.returns-clause-told
returns-clause-told g c =
    let xs = c.args.self.lines.now in
    (length xs, subst (λ (t : List ℕ). Appends (g.W.Sink.taken c.args.self.output.now) (g.W.Sink.taken c.send.new.w) t) (sym (take_all (length xs) xs (le_refl _))) (search rules))
