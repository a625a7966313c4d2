-- What is told of a mailbox that was entered, in its parts.
use Rattle.std.proofs.Common.{◌≡◌, ◌<◌, ◌≤◌, ◌^◌, ℕ, Bool, codes, decimal, length, if◌then◌else◌, List, [], ◌++◌, refl, ap, ◌∙◌, arith, append_assoc}
use Rattle.std.proofs.lemmas.Fmt.{length-decimal-le}
use Rattle.mailbox.specs.declared.clients.Opening.{Opening}
use Rattle.imap_answers.specs.Answers.{all_flags, opening_text}

pub ten_digits : (n : ℕ) → n < 2 ^ 32 → length (decimal n) ≤ 10
ten_digits n l = length-decimal-le 10 n (omega arith) (omega (arith, l)) (omega (arith, l))

pub twenty_digits : (n : ℕ) → n < 2 ^ 64 → length (decimal n) ≤ 20
twenty_digits n l = length-decimal-le 20 n (omega arith) (omega (arith, l)) (omega (arith, l))

-- lines that each have three parts, one behind the other, where the break between two of them is in a part of the whole
regrouped : (out a all b c count d e valid f g next h i kept j k name l : List ℕ)
    → ((((((out ++ (a ++ all ++ b)) ++ (c ++ count ++ d)) ++ (e ++ valid ++ f)) ++ (g ++ next ++ h)) ++ (i ++ kept ++ j)) ++ (k ++ name ++ l))
    ≡ out ++ (a ++ all ++ (b ++ c) ++ count ++ d ++ e ++ valid ++ f ++ g ++ next ++ h ++ i ++ kept ++ j ++ k ++ name ++ l)
regrouped out a all b c count d e valid f g next h i kept j k name l = simp append_assoc refl

pub opening_in_lines : (read_only : Bool) (name : List ℕ) (o : Opening) (out one two three four five six : List ℕ)
    → one ≡ out ++ (codes "* FLAGS (" ++ all_flags ++ codes ")\r\n")
    → two ≡ one ++ (codes "* " ++ decimal o.count ++ codes " EXISTS\r\n")
    → three ≡ two ++ (codes "* OK [UIDVALIDITY " ++ decimal o.uidvalidity ++ codes "] UIDs valid\r\n")
    → four ≡ three ++ (codes "* OK [UIDNEXT " ++ decimal o.uidnext ++ codes "] Predicted next UID\r\n")
    → five ≡ four ++ (codes "* OK [PERMANENTFLAGS (" ++ (if read_only then [] else all_flags) ++ codes ")] Flags kept\r\n")
    → six ≡ five ++ (codes "* LIST () \"/\" " ++ name ++ codes "\r\n")
    → six ≡ out ++ opening_text read_only name o
opening_in_lines read_only name o out one two three four five six first second third fourth fifth sixth =
    let kept : List ℕ = if read_only then [] else all_flags in
    sixth ∙ ap (λ (t : List ℕ). t ++ (codes "* LIST () \"/\" " ++ name ++ codes "\r\n"))
    (fifth ∙ ap (λ (t : List ℕ). t ++ (codes "* OK [PERMANENTFLAGS (" ++ kept ++ codes ")] Flags kept\r\n"))
    (fourth ∙ ap (λ (t : List ℕ). t ++ (codes "* OK [UIDNEXT " ++ decimal o.uidnext ++ codes "] Predicted next UID\r\n"))
    (third ∙ ap (λ (t : List ℕ). t ++ (codes "* OK [UIDVALIDITY " ++ decimal o.uidvalidity ++ codes "] UIDs valid\r\n"))
    (second ∙ ap (λ (t : List ℕ). t ++ (codes "* " ++ decimal o.count ++ codes " EXISTS\r\n")) first))))
    ∙ regrouped out (codes "* FLAGS (") all_flags (codes ")\r\n") (codes "* ") (decimal o.count) (codes " EXISTS\r\n") (codes "* OK [UIDVALIDITY ") (decimal o.uidvalidity)
    (codes "] UIDs valid\r\n") (codes "* OK [UIDNEXT ") (decimal o.uidnext) (codes "] Predicted next UID\r\n") (codes "* OK [PERMANENTFLAGS (") kept
    (codes ")] Flags kept\r\n") (codes "* LIST () \"/\" ") name (codes "\r\n")
