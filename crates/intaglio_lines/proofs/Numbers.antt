-- A number in decimal is a line that is a number, and says that number.
use Rattle.intaglio_lines.proofs.Names.{common_steps, all_ascii_digits, digits_value, All-from_get_or, and_parts, not-true, cases_eq, IsLine, is_number}
use Rattle.std.proofs.Common.{◌≡◌, ◌≢◌, ℕ, ◌^◌, ◌<◌, true, not, eqb, List, [], ◌∷◌, length, get_or, decimal, arith}
use Rattle.std.proofs.lemmas.Str.Parse.{IsNumeralModel, numerals_by_value, tells_all_ascii_digits, digit_at}
use Rattle.std.proofs.lemmas.Fmt.{digits_decimal, digits_value-decimal, decimal_nonempty, first_decimal, decimal_digit, decimal-digits_value}

-- a text of decimal digits, and the number that it says
pub digits : IsNumeralModel (λ ds. all_ascii_digits ds ≡ true) (digits_value 10)
digits = numerals_by_value (λ ds. all_ascii_digits ds ≡ true) tells_all_ascii_digits

-- digits are a number where there is one, and where the first of several isn't 0
pub is_number-from-digits : (ds : List ℕ) → all_ascii_digits ds ≡ true → 0 < length ds →
    (get_or ds 0 0 ≡ 48 → length ds ≡ 1) → is_number ds ≡ true
is_number-from-digits [] all some first = absurd (omega arith)
is_number-from-digits (d ∷ []) all some first = all
is_number-from-digits (d ∷ e ∷ more) all some first = grind (arith, common_steps, all, first)

-- the digits of a number: one at least, and the first is 0 only if it is alone
pub record IsNumber (ds : List ℕ) : Type 0 where
  pub all : all_ascii_digits ds ≡ true
  pub some : 0 < length ds
  pub first : get_or ds 0 0 ≡ 48 → length ds ≡ 1

-- a line that is a number is digits, one at least, and begins with 0 only if that is its only digit
pub digits-from-number : (ds : List ℕ) → is_number ds ≡ true → IsNumber ds
digits-from-number [] is = cc
digits-from-number (d ∷ []) is = record { all = is; some = omega arith; first = λ _. omega arith }
digits-from-number (d ∷ e ∷ more) is = grind (arith, common_steps, and_parts (not (eqb d 48)) (all_ascii_digits (d ∷ e ∷ more)) is, not-true)

-- a number below 2 ^ 64 begins with 0 in decimal only if that is its only digit
decimal-first : (n : ℕ) → n < 2 ^ 64 → get_or (decimal n) 0 0 ≡ 48 → length (decimal n) ≡ 1
decimal-first n small zero = grind (arith, cases_eq, decimal_digit, first_decimal)

-- a number below 2 ^ 64 in decimal is a line that is a number
pub is_number-decimal : (n : ℕ) → n < 2 ^ 64 → is_number (decimal n) ≡ true
is_number-decimal n small = grind (arith, common_steps, is_number-from-digits, decimal, digits_decimal, digits, decimal_nonempty, decimal-first)

-- a number below 2 ^ 64 in decimal says that number
pub number-decimal : (n : ℕ) → n < 2 ^ 64 → digits_value 10 (decimal n) ≡ n
number-decimal n small = digits_value-decimal digits n small

-- and a line that is a number is that number in decimal
pub decimal-number : (ds : List ℕ) → is_number ds ≡ true → digits_value 10 ds < 2 ^ 64 →
    decimal (digits_value 10 ds) ≡ ds
decimal-number ds is small = grind (arith, common_steps, digits-from-number ds is, decimal-digits_value digits ds)

-- digits hold no byte 10
pub IsLine-digits : (ds : List ℕ) → all_ascii_digits ds ≡ true → IsLine ds
IsLine-digits ds all =
    All-from_get_or (λ b. b ≢ 10) ds 0 (λ i lt ten.
    absurd (omega (arith, ten, digit_at ds i (digits.to ds all) lt)))
