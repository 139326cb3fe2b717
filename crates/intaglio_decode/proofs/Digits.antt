-- The number that digits say, digit by digit.
use Rattle.intaglio_decode.proofs.Names.{common_steps, digits_value, AllDigits, take_all, digits}
use Rattle.std.proofs.Common.{◌≡◌, subst, ℕ, ◌+◌, ◌*◌, ◌-◌, ◌^◌, ◌<◌, ◌≤◌, min, true, false, List, length, get_or, take, arith}
use Rattle.std.specs.Char.{is_ascii_digit, digit_value}
use Rattle.std.specs.Str.{all_ascii_digits}
use Rattle.std.proofs.lemmas.Bool.{false_from_ne_true}
use Rattle.std.proofs.lemmas.Int.Digits.{digits_more, digits_value_more}
use Rattle.std.proofs.lemmas.Str.Parse.{digit_at}

-- the value of a digit is how far it is behind `0`
digit-value : (b : ℕ) → is_ascii_digit b ≡ true → digit_value b ≡ b - 48
digit-value b is = grind (arith, common_steps)

-- one digit more
pub more_digits : (bs : List ℕ) (i : ℕ) → i < length bs → is_ascii_digit (get_or bs i 0) ≡ true →
    AllDigits 10 (take i bs) → AllDigits 10 (take (i + 1) bs)
more_digits bs i within is all = grind (arith, common_steps, digits_more, digit-value)

-- ten times the value so far, plus the next digit, is the value with that digit, all cut at 2 ^ 64 - 1
pub more_value : (bs : List ℕ) (i value : ℕ) → i < length bs → is_ascii_digit (get_or bs i 0) ≡ true →
    value ≡ min (digits_value 10 (take i bs)) (2 ^ 64 - 1)
    → min (value * 10 + (get_or bs i 0 - 48)) (2 ^ 64 - 1) ≡ min (digits_value 10 (take (i + 1) bs))
    (2 ^ 64 - 1)
more_value bs i value within is so =
    omega (arith, so, digits_value_more 10 bs i within, digit-value (get_or bs i 0) is)

-- where one byte is no digit, not all are
pub not_digits : (bs : List ℕ) (i : ℕ) → i < length bs → is_ascii_digit (get_or bs i 0) ≡ false →
    all_ascii_digits bs ≡ false
not_digits bs i within other = grind (arith, common_steps, false_from_ne_true, digit_at, digits)

-- if the first i bytes are digits and there are no more than i, all bytes are digits
pub digits_all : (bs : List ℕ) (i : ℕ) → length bs ≤ i → AllDigits 10 (take i bs) → all_ascii_digits bs ≡ true
digits_all bs i past all = digits.from bs (subst (AllDigits 10) (take_all i bs past) all)
