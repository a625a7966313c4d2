-- The clients of a house know flags.
use Rattle.std.proofs.Common.{ℕ, List, []}
use Rattle.std.specs.Prelude.{None}
use Rattle.house.specs.Scene.{empty_scene}
use Rattle.script.specs.Promise.{entries_of}
use Rattle.script.proofs.Parts.{parts_record}
use Rattle.laws_client.specs.Clients.{hears_all}
use Rattle.laws_client.specs.ClientRecords.{user_by_then}
use Rattle.laws_client.specs.HouseClients.{first_standing}
use Rattle.laws_client.specs.Sizes.{HasShortTexts}
use Rattle.laws_client.specs.RecordTurns.{Stands}
use Rattle.laws_client.proofs.Folded.{folders_plain}
use Rattle.laws_client.proofs.RecordKeeping.{clients_keep_up, texts_stay_short}
use Rattle.laws_client.proofs.RecordWorlds.{sound_always}
use Rattle.laws_client.specs.FlagRecords.{ClientsKnowFlags, ClientsOfHousesKnowFlags, ClientsOfScriptsKnowFlags}
use Rattle.laws_client.proofs.FlagCurrent.{all_was_shown, flags_now}
use Rattle.laws_client.proofs.FlagKnown.{lives_flags}

pub clients_know_flags : ClientsKnowFlags
clients_know_flags k entries t place v printable is there read =
    let u = clients_keep_up k entries t place v printable is there read in
    let short : HasShortTexts t.world = texts_stay_short k entries t printable.texts is in
    let user : List ℕ = user_by_then place [] entries in
    let first : Stands (first_standing k user) = record { tags = (tt, tt, tt); names = folders_plain k.directory user printable.names } in
    let known = lives_flags k.config place (first_standing k user) u.began printable.numbers (sound_always k.config u.events u.began printable.numbers u.came) first u.lives short in record {
      keeps = u;
      flags = known.right;
      now = λ s at none. flags_now t.world place s (hears_all None u.told) at (all_was_shown k.config t.world place s known.sound.kept at none) known.right;
    }

pub clients_of_houses_know_flags : ClientsOfHousesKnowFlags
clients_of_houses_know_flags k events t printed once place v printable there read = clients_know_flags k once.entries t place v printable once.leads there read

pub clients_of_scripts_know_flags : ClientsOfScriptsKnowFlags
clients_of_scripts_know_flags k count t printed once place v printable there read =
    clients_know_flags k (entries_of once.parts) t place v printable (parts_record k once.parts (empty_scene k) t once.leads) there read
