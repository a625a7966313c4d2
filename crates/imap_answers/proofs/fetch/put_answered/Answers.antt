use Rattle.std.proofs.Common.{◌≡◌, ℕ, ◌+◌, ◌≤◌, arith, refl}
use Rattle.std.specs.Prelude.{◌&&◌}
use Rattle.imap_answers.specs.Answers.{item_text, uid_first, flags_last}
use Rattle.imap_answers.specs.inner.Joined.{is_none}
use Rattle.imap_answers.proofs.JoinedLaws.{three_joined, three_sizes, three_written}
use Rattle.imap_answers.proofs.fetch.put_answered.Goals as goal

second_fits : (whole a b c one two : ℕ) → whole ≡ a + (b + c) → whole ≤ one → one ≤ two + a → b ≤ two
second_fits whole a b c one two e fits room = omega (arith, e, fits, room)

third_fits : (whole a b c one two three : ℕ) → whole ≡ a + (b + c) → whole ≤ one → one ≤ two + a → two ≤ three + b → c ≤ three
third_fits whole a b c one two three e fits room more = omega (arith, e, fits, room, more)

all_taken : (whole a b c one two three four : ℕ) → whole ≡ a + (b + c) → one ≤ two + a → two ≤ three + b → three ≤ four + c → one ≤ four + whole
all_taken whole a b c one two three four e room more last = omega (arith, e, room, more, last)

pub put_items-bare-requires : goal.put_items-bare-requires
put_items-bare-requires g c =
    let items = c.args.items.now in
    let row = c.args.row.now in
    let bare = c.put_uid-bare.result in
    record {
      fits = second_fits _ _ _ _ _ _
          (three_sizes (item_text row) (uid_first c.args.by_uid items) items (flags_last row.newly_seen items) bare (bare && is_none items) c.put_uid-bare.ensures.first refl)
          c.requires.fits c.put_uid-bare.ensures.room;
    }

pub put_seen-requires : goal.put_seen-requires
put_seen-requires g c =
    let items = c.args.items.now in
    let row = c.args.row.now in
    record {
      fits = third_fits _ _ _ _ _ _ _
          (three_sizes (item_text row) (uid_first c.args.by_uid items) items (flags_last row.newly_seen items) c.put_uid-bare.result c.put_items-bare.result
          c.put_uid-bare.ensures.first c.put_items-bare.ensures.first)
          c.requires.fits c.put_uid-bare.ensures.room c.put_items-bare.ensures.room;
    }

pub returns-clause-said : goal.returns-clause-said
returns-clause-said g c =
    let items = c.args.items.now in
    let row = c.args.row.now in
    three_written _ _ _ _ _ _ _ _ c.put_uid-bare.ensures.said c.put_items-bare.ensures.said c.put_seen.ensures.said
    (three_joined (item_text row) (uid_first c.args.by_uid items) items (flags_last row.newly_seen items) c.put_uid-bare.result c.put_items-bare.result
    c.put_uid-bare.ensures.first c.put_items-bare.ensures.first)

pub returns-clause-room : goal.returns-clause-room
returns-clause-room g c =
    let items = c.args.items.now in
    let row = c.args.row.now in
    all_taken _ _ _ _ _ _ _ _
    (three_sizes (item_text row) (uid_first c.args.by_uid items) items (flags_last row.newly_seen items) c.put_uid-bare.result c.put_items-bare.result
    c.put_uid-bare.ensures.first c.put_items-bare.ensures.first)
    c.put_uid-bare.ensures.room c.put_items-bare.ensures.room c.put_seen.ensures.room
