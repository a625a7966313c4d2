use Rattle.std.proofs.Common.{◌≡◌, ◌≤◌, ◌+◌, ◌∷◌, ◌++◌, [], ℕ, List, Some, length, refl, sym, ap, subst, ◌∙◌, arith}
use Rattle.std.specs.List.Sorted.{IsStrictlyIncreasing}
use Rattle.std.proofs.lemmas.List.{length_push}
use Rattle.change_ring.specs.Log.{no_flags}
use Rattle.mailbox.specs.declared.letters.Letter.{Letter}
use Rattle.mailbox.specs.inner.Letters.{AreCounted, filed, message_of, messages_of}
use Rattle.mailbox.specs.Mailbox.{Message}
use Rattle.mailbox.proofs.LetterLaws.{AreCounted-add, AreCounted-same, bytes_few, messages_added, messages_few, rising_first, unseen_few}
use Rattle.mailbox.proofs.letters.Letters.add.Goals as goal

pub overflow_add-self : goal.overflow_add-self
overflow_add-self c =
    let v = c.self.inside.uids in
    omega (arith, c.self.invariant.count, messages_few v.items c.self.inside.letters.items, v.ok.0, v.ok.1, v.small)

pub overflow_add-self-2 : goal.overflow_add-self-2
overflow_add-self-2 c =
    let v = c.self.inside.uids in
    let ls = c.self.inside.letters.items in
    omega (arith, c.self.invariant.unseen, unseen_few (messages_of (filed v.items ls)), messages_few v.items ls, v.ok.0, v.ok.1, v.small)

pub overflow_add-self-3 : goal.overflow_add-self-3
overflow_add-self-3 c =
    let v = c.self.inside.uids in
    let ls = c.self.inside.letters.items in
    omega (arith, c.self.invariant.bytes, bytes_few (messages_of (filed v.items ls)) c.self.invariant.small, messages_few v.items ls, v.ok.0, v.ok.1, v.small, c.as_slice.type_inv.0)

pub invariant_of-self-in_err-reserve-2 : goal.invariant_of-self-in_err-reserve-2
invariant_of-self-in_err-reserve-2 c =
    let us = c.make_way.new.uids.items in
    let uids : c.reserve.new.self.items ≡ us = c.reserve.ensures.items in
    let letters : c.reserve-2.new.self.items ≡ c.make_way.new.letters.items = c.reserve-2.ensures.items in
    AreCounted-same c.self.inside c.reserve.new.self c.reserve-2.new.self c.self.invariant (subst IsStrictlyIncreasing (sym uids) (rising_first us c.args.uid c.make_way.ensures.rising))
    (ap length letters ∙ c.make_way.ensures.beside ∙ sym (ap length uids))
    (ap (λ (vs : List ℕ). messages_of (filed vs c.reserve-2.new.self.items)) uids ∙ ap (λ (xs : List Letter). messages_of (filed us xs)) letters ∙ c.make_way.ensures.messages)

-- the message that is added, and its letter
abbrev added : goal.After-self-3-1 → Message
added c = message_of c.args.uid no_flags c.args.text

abbrev letter : goal.After-self-3-1 → Letter
letter c = record { flags = no_flags; text = Some c.args.text }

-- the vectors then
uids : (c : goal.After-self-3-1) → c.push_reserved.new.self.items ≡ c.make_way.new.uids.items ++ c.args.uid ∷ []
uids c = c.push_reserved.ensures.items ∙ ap (λ (us : List ℕ). us ++ c.args.uid ∷ []) c.reserve.ensures.items

letters : (c : goal.After-self-3-1) → c.push_reserved-2.new.self.items ≡ c.make_way.new.letters.items ++ letter c ∷ []
letters c = c.push_reserved-2.ensures.items ∙ ap (λ (ls : List Letter). ls ++ letter c ∷ []) c.reserve-2.ensures.items

-- the messages then
more : (c : goal.After-self-3-1) → messages_of (filed c.push_reserved.new.self.items c.push_reserved-2.new.self.items) ≡ messages_of (filed c.self.inside.uids.items c.self.inside.letters.items) ++ added c ∷ []
more c =
    messages_added c.make_way.new.uids.items c.push_reserved.new.self.items c.make_way.new.letters.items c.push_reserved-2.new.self.items c.args.uid (letter c) c.make_way.ensures.beside (uids c) (letters c)
    ∙ ap (λ (ms : List Message). ms ++ added c ∷ []) c.make_way.ensures.messages

pub invariant_of-self-2 : goal.invariant_of-self-2
invariant_of-self-2 c =
    let short : length c.args.text.bytes ≤ 0xffff_ffff_ffff_ffff = omega (arith, ap length c.as_slice.ensures, c.as_slice.type_inv.0) in
    let rising = subst IsStrictlyIncreasing (sym (uids c)) c.make_way.ensures.rising in
    let beside : length c.push_reserved-2.new.self.items ≡ length c.push_reserved.new.self.items =
    omega (arith, ap length (letters c), length_push c.make_way.new.letters.items (letter c), ap length (uids c), length_push c.make_way.new.uids.items c.args.uid, c.make_way.ensures.beside) in
    subst (λ (n : ℕ). AreCounted (record { uids = c.push_reserved.new.self; letters = c.push_reserved-2.new.self; count = c.self.inside.count + 1; unseen = c.self.inside.unseen + 1; bytes = c.self.inside.bytes + n }))
    (ap length (sym c.as_slice.ensures))
    (AreCounted-add c.self.inside c.push_reserved.new.self c.push_reserved-2.new.self (added c) c.self.invariant rising beside (more c) refl short)

pub returns-clause-ok : goal.returns-clause-ok
returns-clause-ok c = more c ∙ ap (λ (ms : List Message). ms ++ added c ∷ []) c.self.view_is
