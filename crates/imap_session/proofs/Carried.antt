-- What was answered over one store was answered over another, where each call of the one is the same call of the other.
use Rattle.std.proofs.Common.{ℕ, List, [], ◌∷◌, refl, sym, subst}
use Rattle.imap_session.specs.declared.standing.After.{After}
use Rattle.delivery_token.specs.declared.Verdict.{Verdict}
use Rattle.imap_session.specs.Exchange.{Call, Answer, Event, Standing, waits_for}
use Rattle.imap_session.specs.Store.{AnswersVerdict, IdleTurns, Met}
use Rattle.imap_session.specs.Dialogue.{AnswersLine, AnswersOne, Bytes, Converses, Line, Sends, goes_on, parts, reads, silent, too_long}

-- each call of a store for which another stood is that call of the other, which stands afterwards
abbrev pub Carries : {S T : Type 0} → (S → Call → Answer → S → Type 0) → (T → Call → Answer → T → Type 0) → (S → T → Type 0) → Type 0
Carries {S} {T} step other Stands = (old new : S) (call : Call) (answer : Answer) (t : T) → step old call answer new → Stands old t → (u : T) × other t call answer u × Stands new u

pub met_carried : {S T : Type 0} (step : S → Call → Answer → S → Type 0) (other : T → Call → Answer → T → Type 0) (Stands : S → T → Type 0) → Carries step other Stands
    → (old new : S) (events : List Event) (t : T) → Met step old events new → Stands old t → (u : T) × Met other t events u × Stands new u
met_carried step other Stands carries old new [] t met stands = (t, refl, subst (λ s. Stands s t) (sym met) stands)
met_carried step other Stands carries old new (e ∷ events) t met stands =
    let one = carries old met.0 e.call e.answer t met.1 stands in
    let rest = met_carried step other Stands carries met.0 new events one.0 met.2 one.2 in
    (rest.0, (one.0, one.1, rest.1), rest.2)

pub line_carried : {S T : Type 0} (step : S → Call → Answer → S → Type 0) (other : T → Call → Answer → T → Type 0) (Stands : S → T → Type 0) → Carries step other Stands
    → (now : Standing) (line : List ℕ) (old new : S) (before after : List ℕ) (how : After) (next : Standing) (t : T) → AnswersLine step now line old new before after how next → Stands old t
    → (u : T) × AnswersLine other now line t u before after how next × Stands new u
line_carried step other Stands carries now line old new before after how next t (reads short a) stands =
    let m = met_carried step other Stands carries old new a.events t a.met stands in
    (m.0, reads short (record { answers = a.answers; events = a.events; bytes = a.bytes; played = a.played; met = m.1; wrote = a.wrote }), m.2)
line_carried step other Stands carries now line old new before after how next t (too_long long same wrote go stays) stands =
    (t, too_long long refl wrote go stays, subst (λ s. Stands s t) (sym same) stands)

pub one_carried : {S T : Type 0} (step : S → Call → Answer → S → Type 0) (other : T → Call → Answer → T → Type 0) (Stands : S → T → Type 0) → Carries step other Stands
    → (now : Standing) (one : Sends) (old new : S) (before after : List ℕ) (how : After) (next : Standing) (t : T) → AnswersOne step now one old new before after how next → Stands old t
    → (u : T) × AnswersOne other now one t u before after how next × Stands new u
one_carried step other Stands carries now (Line line) old new before after how next t a stands =
    let k = line_carried step other Stands carries now line old new before after how next t a.2 stands in
    (k.0, (a.0, a.1, k.1, a.3), k.2)
one_carried step other Stands carries now (Bytes bytes) old new before after how next t a stands =
    (t, record { goes = a.goes; some = a.some; due = a.due; takes = a.takes; unasked = refl; silent = a.silent; waits = a.waits }, subst (λ s. Stands s t) (sym a.unasked) stands)

pub converses_carried : {S T : Type 0} (step : S → Call → Answer → S → Type 0) (other : T → Call → Answer → T → Type 0) (Stands : S → T → Type 0) → Carries step other Stands
    → (now : Standing) (sent : List Sends) (old new : S) (said : List ℕ) (how : After) (next : Standing) (t : T) → Converses step now sent old new said how next → Stands old t
    → (u : T) × Converses other now sent t u said how next × Stands new u
converses_carried step other Stands carries now sent old new said how next t (silent a b) stands = (t, silent now t, stands)
converses_carried step other Stands carries now sent old new said how next t (parts a b one c d x h stops answered) stands =
    let k = one_carried step other Stands carries now one old new [] said how next t answered stands in
    (k.0, parts now next one t k.0 said how stops k.1, k.2)
converses_carried step other Stands carries now sent old new said how next t (goes_on a between b one others c mid d first second e follows answered more) stands =
    let k = one_carried step other Stands carries now one old mid [] first (waits_for between) between t answered stands in
    let rest = converses_carried step other Stands carries between others mid new second how next k.0 more k.2 in
    (rest.0, goes_on now between next one others t k.0 rest.0 first second how follows k.1 rest.1, rest.2)

-- ---- verdicts

pub verdict_carried : {S T : Type 0} (step : S → Call → Answer → S → Type 0) (other : T → Call → Answer → T → Type 0) (Stands : S → T → Type 0) → Carries step other Stands
    → (now : Standing) (verdict : Verdict) (old new : S) (before after : List ℕ) (how : After) (next : Standing) (t : T) → AnswersVerdict step now verdict old new before after how next → Stands old t
    → (u : T) × AnswersVerdict other now verdict t u before after how next × Stands new u
verdict_carried step other Stands carries now verdict old new before after how next t a stands =
    let m = met_carried step other Stands carries old new a.events t a.met stands in
    (m.0, record { answers = a.answers; events = a.events; bytes = a.bytes; played = a.played; met = m.1; wrote = a.wrote }, m.2)

-- ---- turns while it idles

pub turns_carried : {S T : Type 0} (step : S → Call → Answer → S → Type 0) (other : T → Call → Answer → T → Type 0) (Stands : S → T → Type 0) → Carries step other Stands
    → (now : Standing) (old new : S) (before after : List ℕ) (count : ℕ) (next : Standing) (t : T) → IdleTurns step now old new before after count next → Stands old t
    → (u : T) × IdleTurns other now t u before after count next × Stands new u
turns_carried step other Stands carries now old new before after count next t a stands =
    let m = met_carried step other Stands carries old new a.events t a.met stands in
    (m.0, record { answers = a.answers; events = a.events; bytes = a.bytes; how = a.how; played = a.played; met = m.1; wrote = a.wrote; shown = a.shown }, m.2)
