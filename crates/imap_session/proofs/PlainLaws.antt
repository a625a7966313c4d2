-- What a response is once it is decoded.
use Rattle.std.proofs.Common.{◌≡◌, ℕ, Bool, true, false, List, [], ◌∷◌, ◌++◌, refl, Option, Some, None, Result, Ok, Err, ap, sym, ◌∙◌, length, take, drop, if◌then◌else◌}
use Rattle.std.specs.Result.{is_ok}
use Rattle.base64.specs.Decode.{decode_slice_result, decoded_bytes, groups_before_last, groups_error, lone_error, or_else, or_error, suffix_error}
use Rattle.base64.specs.declared.engine.DecodePaddingMode.{DecodePaddingMode}
use Rattle.std.specs.Prelude.{nat_lt, ◌*◌, ◌/◌}
use Rattle.base64.specs.declared.decode.DecodeError.{DecodeError}
use Rattle.base64.specs.declared.decode.DecodeSliceError.{DecodeSliceError}
use Rattle.base64.specs.declared.decode.DecodeSliceError.TheVariants.{OutputSliceTooSmall}
use Rattle.base64.specs.Engines.{standard}
use Rattle.base64.specs.GeneralPurpose.{decode_slice_of, decoded_bytes_of}
use Rattle.imap_session.specs.Plain.{decoded, most_decoded}

if_decoded : List ℕ → Result ℕ DecodeSliceError → Option (List ℕ)
if_decoded text r = if is_ok r then Some (decoded_bytes_of standard text) else None

pub decoded_none : (text : List ℕ) (n : ℕ) (e : DecodeSliceError) → n ≡ most_decoded → Err e ≡ decode_slice_of standard text n → None ≡ decoded text
unfolding decoded if_decoded
decoded_none text n e full h = ap (if_decoded text) h ∙ ap (λ m. if_decoded text (decode_slice_of standard text m)) full

-- it answers how many bytes there are
counted : (a b : Option DecodeError) (c d : Bool) (n k : ℕ) → or_error a (if c then Err OutputSliceTooSmall else or_error b (if d then Err OutputSliceTooSmall else Ok n)) ≡ Ok k → n ≡ k
counted None None false false n k h = cc
counted None None false true n k h = absurd cc
counted None (Some e) false d n k h = absurd cc
counted None b true d n k h = absurd cc
counted (Some e) b c d n k h = absurd cc

count_of : (dec : List ℕ) (pad : ℕ) (allow : Bool) (mode : DecodePaddingMode) (s : List ℕ) (n k : ℕ) → decode_slice_result dec pad allow mode s n ≡ Ok k → length (decoded_bytes dec pad s) ≡ k
count_of dec pad allow mode s n k h =
    counted (lone_error dec pad s) (or_else (groups_error dec s (groups_before_last (length s))) (suffix_error dec pad allow mode (4 * groups_before_last (length s)) s))
    (nat_lt (n / 3) (groups_before_last (length s))) (nat_lt n (length (decoded_bytes dec pad s))) (length (decoded_bytes dec pad s)) k h

take_front : (a b : List ℕ) → take (length a) (a ++ b) ≡ a
take_front [] b = refl
take_front (x ∷ a) b = ap (λ l. x ∷ l) (take_front a b)

pub decoded_some : (text old new : List ℕ) (n k : ℕ) → n ≡ most_decoded → Ok k ≡ decode_slice_of standard text n → new ≡ decoded_bytes_of standard text ++ drop (length (decoded_bytes_of standard text)) old
    → Some (take k new) ≡ decoded text
unfolding decoded if_decoded
decoded_some text old new n k full h wrote =
    let bytes = decoded_bytes_of standard text in
    let count : length bytes ≡ k = count_of standard.decode_table standard.padding.value standard.config.decode_allow_trailing_bits standard.config.decode_padding_mode text n k (sym h) in
    ap (λ l. Some (take k l)) wrote ∙ ap (λ m. Some (take m (bytes ++ drop (length bytes) old))) (sym count) ∙ ap (λ l. Some l) (take_front bytes (drop (length bytes) old))
    ∙ ap (if_decoded text) h ∙ ap (λ m. if_decoded text (decode_slice_of standard text m)) full
