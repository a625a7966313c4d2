-- A new house stands for the empty scene.
use Rattle.std.proofs.Common.{refl, ◌≡◌, ℕ, ◌+◌, ◌<◌, Bool, true, false, List, [], ◌∷◌, length, map, sym, ap, ◌∙◌, arith, inl, subst, Option, Some, None, Ok, Err, get_or, replicate}
use Rattle.std.specs.Prelude.{nat_lt, not, if◌then◌else◌}
use Rattle.std.specs.List.{list_all}
use Rattle.std.proofs.lemmas.List.{length-map, length-replicate, get_or-replicate}
use Rattle.delivery_token.specs.declared.CopyKey.{CopyKey}
use Rattle.delivery_core.specs.New.{first_key}
use Rattle.delivery_core.specs.Stands as core
use Rattle.envelope.specs.Names.{Directory, Home, none_shut, is_name, home_of, words_read, first_fault, homes_unless}
use Rattle.envelope.specs.declared.directory.DirectoryFault.{DirectoryFault}
use Rattle.envelope.specs.declared.directory.DirectoryFault.TheVariants.{TooMany, BadName}
use Rattle.settings.specs.declared.config.Config.{Config}
use Rattle.house_peers.specs.HouseConnection.{HouseConnection}
use Rattle.house.specs.House.{House}
use Rattle.house.specs.Scene.{empty_scene}
use Rattle.house.specs.Setup.{connection_seats, places as all_places, setup_of, session_seat, terms_of}
use Rattle.settings.specs.Settings.{words_of}
use Rattle.house.specs.Stands.{StandsFor, StandsForOne, StandsForVisit}
use Rattle.house_peers.specs.SeatedSession.{SeatedSession}

pub new_house : (c : Config) (h : House) → core.StandsFor (setup_of c).config h.core (empty_scene (setup_of c)).world
    → ((p : ℕ) (d : CopyKey) → p < connection_seats + all_places → get_or h.core.next p d ≡ first_key p)
    → h.callers ≡ replicate connection_seats None → h.serials ≡ replicate connection_seats 0 → h.visitors ≡ replicate all_places None → h.entered ≡ replicate all_places 0 → h.directory ≡ (setup_of c).directory → h.host ≡ c.host.items → h.max_message ≡ c.max_message → h.compatible ≡ c.compatible
    → 0 < c.shards
    → StandsFor (setup_of c) h (empty_scene (setup_of c))
new_house c h stands keys callers serials places entered directory host most profile some = record {
  core = stands;
  directory = directory;
  host = host;
  max_message = most;
  compatible = profile;
  marks = length-replicate c.shards false;
  shards = refl;
  some_shard = some;
  homes = length-map (words_of c) home_of;
  seats = let a : length h.callers ≡ connection_seats = ap length callers in let b : length h.visitors ≡ all_places = ap length places in omega (arith, a, b);
  connections = ap length callers;
  numbers = ap length serials;
  each = λ seat y n d below.
      let lt : seat < connection_seats = let e : length h.callers ≡ connection_seats = ap length callers in omega (arith, below, e) in
      let nobody : get_or h.callers seat d ≡ None = ap (λ (xs : List (Option HouseConnection)). get_or xs seat d) callers ∙ get_or-replicate connection_seats seat None d lt in
      record {
        counted = ap (λ (xs : List ℕ). get_or xs seat n) serials ∙ get_or-replicate connection_seats seat 0 n lt;
        who = subst (λ (o : Option HouseConnection). StandsForOne (terms_of (setup_of c) (none_shut c.shards)) seat (get_or h.core.next seat y) [] 0 o None) (sym nobody) (inl (keys seat y (omega (arith, lt))));
      };
  places = ap length places;
  entries = ap length entered;
  visitors = λ place y n d below.
      let lt : place < all_places = let e : length h.visitors ≡ all_places = ap length places in omega (arith, below, e) in
      let free : get_or h.visitors place d ≡ None = ap (λ (xs : List (Option SeatedSession)). get_or xs place d) places ∙ get_or-replicate all_places place None d lt in
      record {
        counted = ap (λ (xs : List ℕ). get_or xs place n) entered ∙ get_or-replicate all_places place 0 n lt;
        who = subst (λ (o : Option SeatedSession). StandsForVisit (session_seat (setup_of c) place) (get_or h.core.next (session_seat (setup_of c) place) y) [] 0 o None) (sym free) (inl (keys (session_seat (setup_of c) place) y (omega (arith, lt))));
      };
}
