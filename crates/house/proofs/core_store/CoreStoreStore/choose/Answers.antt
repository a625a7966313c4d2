use Rattle.std.proofs.Common.{◌≡◌, map, Err, None, ap, refl, sym}
use Rattle.std.specs.Prelude.{option_map}
use Rattle.std.proofs.lemmas.Result.{err_from_is_err_and}
use Rattle.imap_grammar.specs.Sets.{named_at, named_in}
use Rattle.house.proofs.Serving.{looked, not_looked, refused_memory}
use Rattle.house.proofs.core_store.CoreStoreStore.choose.Goals as goal

pub returns-in_err-view-clause-event : goal.returns-in_err-view-clause-event
returns-in_err-view-clause-event c =
    let p = err_from_is_err_and c.from_residual.result c.from_residual.ensures.1 in
    rw (p.1, p.2) (not_looked c.args.self.now.core c.args.self.now.session c.args.by_uid c.args.set.now c.in_err-view.field-0.0 c.in_err-view.ensures.faults (c.in_err-view.ensures.stranger.0 refl))

pub returns-in-Err-TooHigh-clause-event : goal.returns-in-Err-TooHigh-clause-event
returns-in-Err-TooHigh-clause-event c =
    let view = c.in_ok-view.view in
    let seen = looked c.args.self.now.core c.args.self.now.session c.args.by_uid c.args.set.now view view refl c.in_ok-view.ensures.shown c.in_ok-view.ensures.log in
    let none : named_in c.args.by_uid c.args.set.now view ≡ None = c.in-Err-TooHigh.ensures.too_high.0 (ap (λ f. Err f) c.in-Err-TooHigh.field-0-is) in
    (view, seen, sym (ap (option_map (map (named_at view))) none))

pub returns-in-Ok-clause-event : goal.returns-in-Ok-clause-event
returns-in-Ok-clause-event c =
    let view = c.in_ok-view.view in
    let seen = looked c.args.self.now.core c.args.self.now.session c.args.by_uid c.args.set.now view view refl c.in_ok-view.ensures.shown c.in_ok-view.ensures.log in
    (view, seen, sym c.in-Ok.ensures.found)

pub returns-in-Err-NoMemory-clause-event : goal.returns-in-Err-NoMemory-clause-event
returns-in-Err-NoMemory-clause-event c =
    let named = c.in-Err-NoMemory.ensures.memory (ap (λ f. Err f) c.in-Err-NoMemory.field-0-is) in
    refused_memory c.args.self.now.core c.args.self.now.session c.args.by_uid c.args.set.now c.in_ok-view.view named c.in_ok-view.ensures.shown c.in_ok-view.ensures.log
