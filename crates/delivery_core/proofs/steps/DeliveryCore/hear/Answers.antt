use Rattle.std.proofs.Common.{◌∙◌, sym, refl, ap, subst, arith, ◌++◌, ◌∷◌, [], List}
use Rattle.std.proofs.lemmas.List.{length-map, map-set}
use Rattle.delivery_token.specs.declared.log.Noted.{Noted}
use Rattle.delivery_core.specs.DeliveryCore.{DeliveryCore}
use Rattle.delivery_core.specs.Stands.{StandsFor}
use Rattle.delivery_core.specs.declared.group.Seat.{Seat}
use Rattle.delivery_core.specs.Load.{reply_load}
use Rattle.delivery_core.proofs.Groups.{kept_at, read_at}
use Rattle.delivery_core.proofs.Loads.{sum_changes}
use Rattle.delivery_core.proofs.Still.{still_hear}
use Rattle.delivery_core.proofs.Notes.{hears_more}
use Rattle.delivery_core.proofs.Takes.{hear_follows}
use Rattle.delivery_core.proofs.steps.DeliveryCore.hear.Goals as goal

pub returns-clause-follows : goal.returns-clause-follows
returns-clause-follows c k w S =
    let seats = c.self.inside.seats.items in
    let old = c.index_mut-own.result.now in
    let new : Seat = record { replies = c.take.new.self; heard = c.note.new.self; next = old.next } in
    rw (← c.from-at.ensures) (hear_follows k w _ _ c.from-at.result c.in-Item.field-0 c.in-Item.noted old.replies c.take.new.self old.heard c.note.new.self
    (subst (λ (h : DeliveryCore). StandsFor k h w) (sym c.self.view_is) S)
    (omega (arith, c.len.ensures, c.if-at-len.false, length-map seats (λ (s : Seat). s.replies))) (omega (arith, c.len.ensures, c.if-at-len.false, length-map seats (λ (s : Seat). s.heard)))
    (read_at (λ (s : Seat). s.replies) seats c.from-at.result old c.index_mut-own.ensures.value) c.in-Item.ensures.taken
    (read_at (λ (s : Seat). s.heard) seats c.from-at.result old c.index_mut-own.ensures.value) (c.note.ensures.notes ∙ ap (λ (ns : List Noted). ns ++ c.in-Item.noted ∷ []) c.reserve.ensures.notes)
    (map-set (λ (s : Seat). s.replies) seats c.from-at.result new) (map-set (λ (s : Seat). s.heard) seats c.from-at.result new) refl refl refl
    (kept_at (λ (s : Seat). s.next) seats c.from-at.result old new c.index_mut-own.ensures.value refl) refl)

pub returns-clause-heard : goal.returns-clause-heard
returns-clause-heard c =
    let seats = c.self.inside.seats.items in
    let old = c.index_mut-own.result.now in
    let new : Seat = record { replies = c.take.new.self; heard = c.note.new.self; next = old.next } in
    rw (← c.self.view_is, ← c.from-at.ensures) (hears_more _ _ c.from-at.result old.heard c.note.new.self (c.in-Item.noted ∷ [])
    (omega (arith, c.len.ensures, c.if-at-len.false, length-map seats (λ (s : Seat). s.heard))) (read_at (λ (s : Seat). s.heard) seats c.from-at.result old c.index_mut-own.ensures.value)
    (c.note.ensures.notes ∙ ap (λ (ns : List Noted). ns ++ c.in-Item.noted ∷ []) c.reserve.ensures.notes) (map-set (λ (s : Seat). s.heard) seats c.from-at.result new))

pub returns-then-not-has_item-clause-changes_nothing : goal.returns-then-not-has_item-clause-changes_nothing
returns-then-not-has_item-clause-changes_nothing c e k w v S step =
    let seats = c.self.inside.seats.items in
    let x = c.index.result.now in
    still_hear k w v _ c.args.seat (subst (λ (h : DeliveryCore). StandsFor k h w) (sym c.self.view_is) S) x.replies
    (omega (arith, c.len.ensures, c.if-at-len.false, c.from-at.ensures, length-map seats (λ (s : Seat). s.replies)))
    (rw c.from-at.ensures at (read_at (λ (s : Seat). s.replies) seats c.from-at.result x c.index.ensures)) (sym c.has_item.ensures ∙ c.if-not-has_item.true) step

pub returns-clause-next : goal.returns-clause-next
returns-clause-next c =
    let old = c.index_mut-own.result.now in
    let new : Seat = record { replies = c.take.new.self; heard = c.note.new.self; next = old.next } in
    rw (← c.self.view_is) (kept_at (λ (s : Seat). s.next) c.self.inside.seats.items c.from-at.result old new c.index_mut-own.ensures.value refl)

pub returns-clause-load : goal.returns-clause-load
returns-clause-load c =
    let seats = c.self.inside.seats.items in
    let old = c.index_mut-own.result.now in
    let new : Seat = record { replies = c.take.new.self; heard = c.note.new.self; next = old.next } in
    let replies = sum_changes reply_load (λ (s : Seat). s.replies) seats c.from-at.result old new (omega (arith, c.len.ensures, c.if-at-len.false)) c.index_mut-own.ensures.value in
    let more = ap reply_load c.in-Item.ensures.taken in
    rw (← c.self.view_is) (omega (arith, replies, more))
