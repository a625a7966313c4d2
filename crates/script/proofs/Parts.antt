-- The house's entries among the parts of a script are a record.
use Rattle.std.proofs.Common.{List, [], ◌∷◌}
use Rattle.house.specs.Scene.{Scene}
use Rattle.house.specs.Setup.{Setup}
use Rattle.exactly_once.specs.Promise.{IsRecord}
use Rattle.script.specs.Promise.{AreParts, OfHouse, Part, Refusal, Window, entries_of}

pub parts_record : (k : Setup) (parts : List Part) (s t : Scene) → AreParts k parts s t → IsRecord k (entries_of parts) s t
parts_record k [] s t h = h
parts_record k (OfHouse entry ∷ parts) s t h = (h.0, parts_record k parts entry.after t h.1)
parts_record k (Refusal number why ∷ parts) s t h = parts_record k parts s t h.1
parts_record k (Window word box ∷ parts) s t h = parts_record k parts s t h.1
