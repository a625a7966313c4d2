-- A ticket owns what its seat owns.
use Rattle.budget.proofs.Walk.{◌≡◌, List, [], ◌∷◌, refl, proved, leaves, Val, SProp, emp, ftrue, fact, fact_i, tables, yes, Valss, owns, plain, types_at, nothing, within, shape, alive, Stays, stay_dropped, walk_of, Goes-dropped, ‵, raw, ◌⊛◌, ◌$◌, ◌∵◌, !, qed, by, move, keep, split, fjoin, fpack, use0, feq_i, of_opd, no_more, and_then, returns, enter, alloc_all, pass_all, free_all, look_at, get, sets, agg, token_val, SeatRow, TicketRow, ticket_val, seat_told}
use Rattle.budget.specs.contracts.ticket.Ticket.{the_type}
use Rattle.budget.specs.contracts.ticket.Ticket.new as f
use Rattle.budget.specs.contracts.ticket.Ticket.new.Key.{name as #key}
use Rattle.budget.proofs.ticket.Ticket.new.Statement.{statement}
use Rattle.budget.proofs.ticket.Ticket.new.Code as code

abbrev stayed : Stays f.ended.signature.params f.ended.kept
stayed = (stay_dropped (plain (λ _. SeatRow)) yes, tt)

pub new_spec : {M : Type 1} → statement M
new_spec 𝓤 𝓛 𝓜 𝓡 wired =
    let 𝓣 = tables 𝓤 𝓛.H 𝓜 𝓡 𝓡.env in let c = f.clauses 𝓛 𝓜.mem 𝓡.returns in let fn = code.function in
    proved 𝓛 f.ended stayed c 𝓜 𝓡 (Goes-dropped 𝓛 0 (plain (λ _. SeatRow)) yes (λ κs x w. refl), tt) #key fn (code.unfolded 𝓤 𝓛.H 𝓜 𝓡 wired)
    (λ κs. ((λ _. token_val ∷ []), tt)) (λ κs. (seat_told, tt)) (λ κs qs bounds a gh are.
    let r : TicketRow.Denot = record { seat = a.0 } in let Told : Type 0 = r.seat ≡ a.0 in
    let y : (walk_of 𝓛 f.ended stayed c).Ghost = ((κs, qs, bounds, a, (token_val ∷ [], tt)), gh) in let Post : Val → SProp 𝓤 = (walk_of 𝓛 f.ended stayed c).post y in
    qed 𝓛 ((raw (alive 𝓛 f.signature κs qs) ⊛ ‵ (owns (types_at f.signature.params κs) a y.0.4)) ∷ ‵ ftrue ∷ []) ∵
    keep ! (0 ∷ []) $ split ! $ move ! (1 ∷ []) $
    -- [what the seat owns, as the only field; the tokens]
    feq_i ! (List Val) (ticket_val ∷ []) (ticket_val ∷ []) refl $ fjoin ! $
    fpack ! (Valss (SeatRow ∷ [])) (within (shape the_type) (a.0, tt) (ticket_val ∷ [])) (token_val ∷ [], tt) $
    nothing ! $ move ! (1 ∷ 0 ∷ []) $ fjoin ! $
    enter ! 𝓣.C 𝓣.Λ fn (token_val ∷ []) Post $ alloc_all ! (λ l. pass_all ! refl ((tt, (tt, tt)), tt) $
    sets ! (of_opd ! (get ! refl)) refl (tt, (tt, tt)) $ sets ! (agg ! (and_then ! (get ! refl) (no_more !))) refl (tt, ((tt, tt), tt)) $
    use0 𝓛 (raw (fact 𝓤 Told)) (fact_i 𝓤 Told (emp 𝓤) refl) $ nothing ! $ nothing ! $ fjoin ! $
    returns ! (look_at ! 0 refl) $ free_all ! refl $ keep ! (3 ∷ 0 ∷ 2 ∷ 1 ∷ []) $ by ! (leaves 𝓛 f.ended stayed c y ticket_val r (tt, tt) (tt, tt))))
