-- The seat owns what the ticket owned.
use Rattle.budget.proofs.Walk.{◌≡◌, List, [], ◌∷◌, refl, proved, leaves, Val, SProp, emp, ftrue, fact, fact_i, tables, yes, shows, owns, plain, types_at, nothing, peeks, alive, Stays, stay_dropped, walk_of, Goes-blank, ‵, raw, ◌⊛◌, ◌$◌, ◌∵◌, !, qed, by, move, keep, drop, split, fsplit, fjoin, fpick, use0, rewrite, stop, fld, of_opd, returns, enter, alloc_all, pass_all, free_all, look_at, get, get_in, sets, sub, whole, token_val, SeatRow, TicketRow, ticket_val, seat_told, ticket_told}
use Rattle.budget.specs.contracts.ticket.Ticket.into_seat as f
use Rattle.budget.specs.contracts.ticket.Ticket.into_seat.Key.{name as #key}
use Rattle.budget.proofs.ticket.Ticket.into_seat.Statement.{statement}
use Rattle.budget.proofs.ticket.Ticket.into_seat.Code as code

abbrev stayed : Stays f.ended.signature.params f.ended.kept
stayed = (stay_dropped (plain (λ _. TicketRow)) yes, tt)

pub into_seat_spec : {M : Type 1} → statement M
into_seat_spec 𝓤 𝓛 𝓜 𝓡 wired =
    let 𝓣 = tables 𝓤 𝓛.H 𝓜 𝓡 𝓡.env in let c = f.clauses 𝓛 𝓜.mem 𝓡.returns in let fn = code.function in
    proved 𝓛 f.ended stayed c 𝓜 𝓡 (Goes-blank 𝓛 0 (plain (λ _. TicketRow)) yes (λ κs x w. tt), tt) #key fn (code.unfolded 𝓤 𝓛.H 𝓜 𝓡 wired)
    (λ κs. ((λ _. ticket_val ∷ []), tt)) (λ κs. (ticket_told, tt)) (λ κs qs bounds a gh are.
    let seat : SeatRow.Denot = a.0.seat in let Told : Type 0 = seat ≡ seat in
    let y : (walk_of 𝓛 f.ended stayed c).Ghost = ((κs, qs, bounds, a, (ticket_val ∷ [], tt)), gh) in let Post : Val → SProp 𝓤 = (walk_of 𝓛 f.ended stayed c).post y in
    qed 𝓛 ((raw (alive 𝓛 f.signature κs qs) ⊛ ‵ (owns (types_at f.signature.params κs) a y.0.4)) ∷ ‵ ftrue ∷ []) ∵
    keep ! (0 ∷ []) $ split ! $ move ! (1 ∷ []) $ fsplit ! $ fsplit ! $ fpick ! (λ vss. fsplit ! $ drop ! $ fsplit ! $
    -- [what the seat owns; nothing; nothing; nothing; the tokens]
    keep ! (0 ∷ 4 ∷ []) $ peeks ! SeatRow _ (shows 𝓛 SeatRow) seat vss.0 (λ is. rewrite ! 0 (λ (us : List Val). ‵ (SeatRow.own_val seat us)) (seat_told seat vss.0 is) refl $
    enter ! 𝓣.C 𝓣.Λ fn (ticket_val ∷ []) Post $ alloc_all ! (λ l. pass_all ! refl ((tt, ((tt, tt), tt)), tt) $
    sets ! (of_opd ! (get_in ! (fld ! refl (stop !)) (sub ! 0 refl (whole !)))) refl (tt, (tt, tt)) $ sets ! (of_opd ! (get ! refl)) refl (tt, (tt, tt)) $
    use0 𝓛 (raw (fact 𝓤 Told)) (fact_i 𝓤 Told (emp 𝓤) refl) $ nothing ! $ nothing ! $ fjoin ! $
    returns ! (look_at ! 0 refl) $ free_all ! refl $ keep ! (3 ∷ 0 ∷ 2 ∷ 1 ∷ []) $ by ! (leaves 𝓛 f.ended stayed c y token_val seat ((tt, tt), tt) (tt, tt))))))
