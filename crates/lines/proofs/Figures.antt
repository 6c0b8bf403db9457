-- A word of digits, and the number that it writes.
use Rattle.std.proofs.Common.{◌≡◌, ℕ, ◌^◌, ◌<◌, ◌≤◌, true, leb, List, [], ◌∷◌, length, Ok, Err, IsUtf8, ◌∙◌, arith}
use Rattle.std.specs.Str.Parse.{digits_value, IsNumeral, without_leading_plus}
use Rattle.std.specs.Str.{all_ascii_digits}
use Rattle.std.proofs.lemmas.Str.{IsUtf8-from_ascii}
use Rattle.std.proofs.lemmas.Fmt.{IsAscii-from_digits}
use Rattle.std.proofs.lemmas.Str.Parse.{IsNumeralModel, numerals_by_value, tells_all_ascii_digits, parse_digits}
use Rattle.std.proofs.lemmas.Bool.{cond-true, cond-false, lt-leb, le-leb}
use Rattle.lines.specs.declared.fault.LineFault.TheVariants.{TooLarge}
use Rattle.lines.specs.Fields.{number_in}

-- the test for digits and the number that they write belong together
pub figures : IsNumeralModel (λ ds. all_ascii_digits ds ≡ true) (digits_value 10)
figures = numerals_by_value _ tells_all_ascii_digits

pub digits_are_text : (w : List ℕ) → all_ascii_digits w ≡ true → IsUtf8 w
digits_are_text w d = IsUtf8-from_ascii w (IsAscii-from_digits w (figures.to w d))

-- the number of a word of digits is the number in the field, where it is not too large
pub number_held : (most n : ℕ) (w : List ℕ) → 0 < length w → all_ascii_digits w ≡ true → digits_value 10 w ≤ most → number_in most n w ≡ Ok (digits_value 10 w)
number_held most n [] s d h = absurd (omega arith)
number_held most n (b ∷ bs) s d h = cond-true (all_ascii_digits (b ∷ bs)) _ _ d ∙ cond-true (leb (digits_value 10 (b ∷ bs)) most) _ _ (le-leb _ _ h)

-- digits that are no number of 64 bits write one that is too large for any field
pub number_past : (most n : ℕ) (w : List ℕ) → 0 < length w → all_ascii_digits w ≡ true → most < 2 ^ 64 → (IsNumeral 10 (without_leading_plus w) × (digits_value 10 (without_leading_plus w) < 2 ^ 64) → ⊥) → number_in most n w ≡ Err (TooLarge n most)
number_past most n [] s d m h = absurd (omega arith)
number_past most n (b ∷ bs) s d m h =
    let large : most < digits_value 10 (b ∷ bs) = omega (arith, λ (v : digits_value 10 (b ∷ bs) < 2 ^ 64). parse_digits figures {E = ℕ} 64 (b ∷ bs) (Err 0) h d (s, v)) in
    cond-true (all_ascii_digits (b ∷ bs)) _ _ d ∙ cond-false (leb (digits_value 10 (b ∷ bs)) most) _ _ (lt-leb _ _ large)
