-- Lines of a script, what they ask for, and what tells of them, each by computing.
use Rattle.std.specs.Prelude.{◌≡◌, codes, [], ◌∷◌, ◌++◌, refl}
use Rattle.hex.specs.Hex.{decode_pairs}
use Rattle.line_io.specs.Wire.{crlf}
use Rattle.script.specs.Script.{Sends, Vanishes, Enters, Asks, Leaves, Hold, Free, Closes, Tail, Skip, Bad, asked, line_of, pieces}
use Rattle.script.specs.Telling.{rendered}
use Rattle.settings.specs.declared.asking.Form.TheVariants.{Json}

an_empty_line_comes : asked (codes "L1") ≡ Sends 1 (codes "" ++ crlf)
an_empty_line_comes = refl

one_space_goes : asked (codes "L1 ") ≡ Sends 1 (codes "" ++ crlf)
one_space_goes = refl

another_space_stays : asked (codes "L1  x") ≡ Sends 1 (codes " x" ++ crlf)
another_space_stays = refl

the_eighth_connection : asked (codes "L8 LHLO a") ≡ Sends 8 (codes "LHLO a" ++ crlf)
the_eighth_connection = refl

a_tail : asked (codes "TAIL alice/Work") ≡ Tail (codes "alice/Work")
a_tail = refl

a_comment : asked (codes "# L1 x") ≡ Skip
a_comment = refl

nothing : asked (codes "") ≡ Skip
nothing = refl

no_ninth_connection : asked (codes "L9 x") ≡ Bad
no_ninth_connection = refl

no_connection_0 : asked (codes "L0 x") ≡ Bad
no_connection_0 = refl

hexadecimal_without_digits : asked (codes "L1x") ≡ Bad
hexadecimal_without_digits = refl

two_spaces_before_digits : asked (codes "L1x  00") ≡ Bad
two_spaces_before_digits = refl

digits_in_either_case : asked (codes "L1x 0d0A") ≡ Sends 1 (13 ∷ 10 ∷ [])
unfolding decode_pairs
digits_in_either_case = refl

a_capital_x : asked (codes "L1X 00") ≡ Bad
a_capital_x = refl

a_peer_is_gone : asked (codes "L1!") ≡ Vanishes 1
a_peer_is_gone = refl

nothing_behind_gone : asked (codes "L1! ") ≡ Bad
nothing_behind_gone = refl

a_session : asked (codes "I1=alice") ≡ Enters 1 (codes "alice")
a_session = refl

a_session_of_nobody : asked (codes "I1=") ≡ Enters 1 (codes "")
a_session_of_nobody = refl

no_ninth_session : asked (codes "I9=alice") ≡ Bad
no_ninth_session = refl

an_empty_line_of_a_session : asked (codes "I1") ≡ Asks 1 (codes "" ++ crlf)
an_empty_line_of_a_session = refl

a_session_says : asked (codes "I1  x") ≡ Asks 1 (codes " x" ++ crlf)
a_session_says = refl

a_session_in_digits : asked (codes "I1x 0d0A") ≡ Asks 1 (13 ∷ 10 ∷ [])
unfolding decode_pairs
a_session_in_digits = refl

a_client_is_gone : asked (codes "I1!") ≡ Leaves 1
a_client_is_gone = refl

nothing_behind_a_client : asked (codes "I1! ") ≡ Bad
nothing_behind_a_client = refl

a_small_i : asked (codes "i1") ≡ Bad
a_small_i = refl

a_number_with_zeros : asked (codes "HOLD 00") ≡ Hold 0
a_number_with_zeros = refl

a_shard_that_is_not_there : asked (codes "FREE 256") ≡ Free 256
a_shard_that_is_not_there = refl

a_close : asked (codes "CLOSE 01") ≡ Closes 1
a_close = refl

a_close_of_nothing : asked (codes "CLOSE") ≡ Bad
a_close_of_nothing = refl

a_close_of_no_digit : asked (codes "CLOSE ") ≡ Bad
a_close_of_no_digit = refl

a_close_and_a_space : asked (codes "CLOSE 1 ") ≡ Bad
a_close_and_a_space = refl

two_spaces : asked (codes "HOLD  0") ≡ Bad
two_spaces = refl

a_space_behind : asked (codes "HOLD 0 ") ≡ Bad
a_space_behind = refl

no_digit : asked (codes "HOLD ") ≡ Bad
no_digit = refl

a_sign : asked (codes "HOLD +1") ≡ Bad
a_sign = refl

small_letters : asked (codes "hold 0") ≡ Bad
small_letters = refl

a_small_l : asked (codes "l1") ≡ Bad
a_small_l = refl

two_words : asked (codes "TAIL a b") ≡ Bad
two_words = refl

two_spaces_before_a_word : asked (codes "TAIL  a") ≡ Bad
two_spaces_before_a_word = refl

a_space_before : asked (codes " TAIL a") ≡ Bad
a_space_before = refl

a_tail_of_nothing : asked (codes "TAIL") ≡ Bad
a_tail_of_nothing = refl

another_word : asked (codes "TAILS a") ≡ Bad
another_word = refl

a_word_within : asked (codes "L1 TAIL a") ≡ Sends 1 (codes "TAIL a" ++ crlf)
a_word_within = refl

-- ---- pieces of the input

crlf_comes_off : line_of (codes "L1 x\r\n") ≡ codes "L1 x"
crlf_comes_off = refl

lf_comes_off : line_of (codes "L1 x\n") ≡ codes "L1 x"
lf_comes_off = refl

one_cr_comes_off : line_of (codes "L1 x\r\r\n") ≡ codes "L1 x\r"
one_cr_comes_off = refl

a_cr_alone_stays : line_of (codes "L1 x\r") ≡ codes "L1 x\r"
a_cr_alone_stays = refl

three_pieces : pieces (codes "L1\r\n\nx") ≡ codes "L1\r\n" ∷ codes "\n" ∷ codes "x" ∷ []
three_pieces = refl

-- ---- what tells of a line in JSON

nothing_of_a_comment : rendered Json 7 (codes "# x") [] ≡ []
nothing_of_a_comment = refl
