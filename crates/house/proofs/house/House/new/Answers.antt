use Rattle.std.proofs.Common.{◌≡◌, ℕ, length, map, ap, ◌∙◌, refl, sym}
use Rattle.std.proofs.lemmas.List.{length-map}
use Rattle.envelope.specs.Names.{Directory, home_of}
use Rattle.house.specs.Setup.{setup_of}
use Rattle.settings.specs.Settings.{words_of}
use Rattle.house.proofs.NewHouse.{new_house}
use Rattle.house.proofs.house.House.new.Goals as goal

pub returns-clause-stands : goal.returns-clause-stands
returns-clause-stands c =
    let config = c.args.config.now in
    let made = c.in_ok-directory.ensures in
    let homes : c.in_ok-directory.directory.homes ≡ map home_of (words_of config) =
    ap (λ (d : Directory). d.homes) made.directory in
    let counted : length c.in_ok-directory.directory.homes ≡ length (words_of config) = ap length homes ∙ length-map (words_of config) home_of in
    let many : length (words_of config) ≡ c.mailboxes.result = cc (c.mailboxes.ensures.value, counted) in
    new_house config _
    (c.in_ok-new.ensures.stands (setup_of config).config
    (record { seats = refl; shards = refl; mailboxes = many; depth = refl; messages = refl; ring = refl; ring_max = refl; first_uid = refl; uidvalidity = refl; sessions = sym c.from.ensures }))
    c.in_ok-new.ensures.next c.in_ok-empty.ensures.peers c.in_ok-empty.ensures.serials c.in_ok-empty-2.ensures.peers c.in_ok-empty-2.ensures.serials
    (c.directory.view_is ∙ made.directory)
    (c.in_ok-from_slice.ensures.items ∙ c.deref.ensures.value) refl refl c.requires.shards.0
