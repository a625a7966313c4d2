use Rattle.std.proofs.Common.{◌≡◌, ◌++◌, ◌+◌, ◌≤◌, flat_map, drop, length}
use Rattle.imap_answers.proofs.words.put_parts.Given as goal

abbrev pub invariant-loop-part : goal.invariant-loop-part
invariant-loop-part g l = record {
  so_far : g.O.Outlet.said l.out ++ flat_map (λ p. p.now) (drop l.part-index l.parts) ≡ g.O.Outlet.said l.initial.out ++ flat_map (λ p. p.now) l.parts;
  lot : g.O.Outlet.lot l.out ≡ g.O.Outlet.lot l.initial.out;
  fits : length (flat_map (λ p. p.now) (drop l.part-index l.parts)) ≤ g.O.Outlet.room l.out;
  room : g.O.Outlet.room l.initial.out + length (flat_map (λ p. p.now) (drop l.part-index l.parts)) ≤ g.O.Outlet.room l.out + length (flat_map (λ p. p.now) l.parts);
}
