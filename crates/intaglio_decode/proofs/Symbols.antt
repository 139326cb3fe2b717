-- The lines of symbols, one by one.
use Rattle.std.proofs.Common.{suc, ◌≡◌, ◌∙◌, ap, refl, ℕ, ◌-◌, ◌≤◌, one-add, true, false, eqb, List, [], ◌∷◌, length, get_or, Option, IsUtf8, arith}
use Rattle.std.specs.Option.{option_or}
use Rattle.intaglio_decode.proofs.Names.{before_first, lines_of, is_ended, Fault, is_blank, is_number, symbol_lines, digits, digits-from-number}
use Rattle.std.proofs.lemmas.Str.{IsUtf8-from_ascii}
use Rattle.std.proofs.lemmas.Fmt.{IsAscii-from_digits}
use Rattle.intaglio_decode.specs.RestoreError.{Reports}
use Rattle.intaglio_decode.specs.declared.error.RestoreError.{RestoreError}
use Rattle.intaglio_decode.specs.declared.error.RestoreError.TheVariants.{Stream}

-- if the first line isn't empty, the symbol lines are that line and those of what follows it
pub symbol_lines-more : (bytes line after : List ℕ) → lines_of bytes ≡ line ∷ lines_of after →
    is_blank line ≡ false → symbol_lines bytes ≡ line ∷ symbol_lines after
symbol_lines-more bytes line after lines written =
    ap (before_first is_blank) lines ∙ rw (written, one-add) refl

-- an error that reports the first fault of two
pub reports-or : (e : RestoreError) (fault more : Option Fault) → Reports e fault →
    Reports e (option_or fault more)
reports-or (Stream failure) fault more is = tt
reports-or _ fault more is = rw is refl

-- if there is a byte, the test whether the last one is 10 says whether the bytes are ended
pub is_ended_last : (bytes : List ℕ) → 1 ≤ length bytes →
    eqb (get_or bytes (length bytes - 1) 0) 10 ≡ is_ended bytes
is_ended_last [] some = absurd (omega arith)
is_ended_last (byte ∷ []) some = refl
is_ended_last (byte ∷ next ∷ more) some =
    let at : length (byte ∷ next ∷ more) - 1 ≡ suc (length (next ∷ more) - 1) = omega arith in
    rw at (is_ended_last (next ∷ more) (omega arith))

-- a number has digits alone, which are ASCII and so UTF-8
pub number_utf8 : (line : List ℕ) → is_number line ≡ true → IsUtf8 line
number_utf8 line is = IsUtf8-from_ascii line (IsAscii-from_digits line (digits.to line (digits-from-number line is).all))
