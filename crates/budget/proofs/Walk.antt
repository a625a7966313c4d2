-- What the walks of a ticket cite, and how a ticket lies in memory. Assumes nothing.
pub use Rattle.std.proofs.Common.{◌≡◌, List, [], ◌∷◌, ◌++◌, refl, ap, ◌∙◌}
pub use Rattle.std.proofs.raw_atomic.Walks.{proved, leaves}
pub use mir.Val.{Val, vstruct, vcons, vnil, of_list}
pub use base.Logic.{SProp, emp}
pub use base.Fml.{ftrue}
pub use contract.Monad.{fact, fact_i}
pub use contract.Running.{tables}
pub use denote.Builtin.{u8}
pub use denote.Exit.{yes}
pub use denote.Laws.{shows}
pub use denote.RattleType.{RattleType, Valss, owns}
pub use denote.Signature.{plain, types_at}
pub use denote.Steps.{nothing, peeks}
pub use denote.Struct.Struct.{within}
pub use denote.Struct.Owning.{shape}
pub use denote.Triple.Entry.{alive}
pub use denote.Triple.Walked.{Stays, stay_dropped, walk_of, Goes-dropped}
pub use types.Kit.{‵, raw, ◌⊛◌, ◌$◌, ◌∵◌, !, qed, by, move, keep, drop, split, fsplit, fjoin, fpick, fpack, use0, rewrite, feq_i}
pub use types.Run.{stop, fld, of_opd, no_more, and_then, returns, enter}
pub use types.ByLocal.{alloc_all, pass_all, free_all, look_at, get, get_in, sets}
pub use types.Part.{agg, sub, whole}
pub use Rattle.std.proofs.alloc.Calls.{Goes-blank}
pub use Rattle.atomic_table.proofs.Fields.{token_val, token_told}
use denote.Laws.{Is}
use Rattle.atomic_table.specs.contracts.shared.Seat as seat
use Rattle.budget.specs.contracts.counting.Stay as stay
use Rattle.budget.specs.contracts.ticket.Ticket as ticket

abbrev pub SeatRow : RattleType
SeatRow = seat.the_row u8 stay.the_row

abbrev pub TicketRow : RattleType
TicketRow = ticket.the_row

-- A struct of one seat, which has no bytes.
abbrev pub ticket_val : Val
ticket_val = vstruct (vcons token_val vnil)

pub seat_told : (x : SeatRow.Denot) (vs : List Val) → Is SeatRow x vs → vs ≡ token_val ∷ []
seat_told x vs so = token_told u8 stay.the_row vs so.0

pub ticket_told : (x : TicketRow.Denot) (vs : List Val) → Is TicketRow x vs → vs ≡ ticket_val ∷ []
ticket_told x vs so = so.0.1.0 ∙ ap (λ (us : List Val). vstruct (of_list (us ++ [])) ∷ []) (seat_told x.seat so.0.0.0 so.0.1.1.0)
