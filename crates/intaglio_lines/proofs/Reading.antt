-- Bytes have no fault exactly if they hold symbols and spellings, and they hold them in one way.
use Rattle.intaglio_lines.proofs.Names.{common_steps, drop-append-add, flat_map, position_or_len, before_first, after_first, list_any, AllByRecursion, digits_value, take_at, nil_from_length, split_at_first, passes_at_first, All-nil, recursion_from_All, lines_of, spelling_line, output_of, IsLine, Holds, Decodes, is_ended, is_blank, symbol_lines, spellings_of, spelling_count, first_fault, fault_of, AreKnown}
use Rattle.std.proofs.Common.{◌≢◌, ◌≡◌, ◌↔◌, ap, refl, ℕ, ◌+◌, ◌^◌, ◌<◌, ◌≤◌, true, false, lt-ltb, ltb-true, eqb-true, List, [], ◌∷◌, ◌++◌, length, map, decimal, Some, None, append_assoc, length-append, length-drop, arith}
use Rattle.std.proofs.lemmas.List.Concat.{flat_map-append}
use Rattle.std.proofs.lemmas.List.Folds.{flat_map-map, list_any-append}
use Rattle.intaglio_lines.proofs.ByLines.{lines_of-are-lines, length-lines_of, lines_of-flat_map, flat_map-lines_of, is_ended-flat_map, length-le-flat_map}
use Rattle.intaglio_lines.proofs.Numbers.{digits-from-number, IsLine-digits, is_number-decimal, number-decimal, decimal-number}

-- an output is its lines: the numbers, an empty one, and the spellings
abbrev output_lines : List ℕ → List (List ℕ) → List (List ℕ)
output_lines symbols spellings = map decimal symbols ++ [] ∷ spellings

-- an output is its lines, with a byte 10 behind each
output-lines : (symbols : List ℕ) (spellings : List (List ℕ)) →
    output_of symbols spellings ≡ flat_map spelling_line (output_lines symbols spellings)
output-lines symbols spellings = grind (arith, flat_map-map spelling_line decimal symbols, flat_map-append spelling_line (map decimal symbols) ([] ∷ spellings))

-- numbers that fit 64 bits
abbrev AreSmall : List ℕ → Type 0
AreSmall symbols = AllByRecursion (λ n. n < 2 ^ 64) symbols

-- what holds of the decimal of each number that fits 64 bits
decimals : (P : List ℕ → Type 0) → ((n : ℕ) → n < 2 ^ 64 → P (decimal n)) → (symbols : List ℕ) →
    AreSmall symbols → AllByRecursion P (map decimal symbols)
decimals P go [] small = tt
decimals P go (n ∷ symbols) small = (go n small.0, decimals P go symbols small.1)

-- the decimals of numbers that fit 64 bits have no byte 10
lines-decimal : (symbols : List ℕ) → AreSmall symbols → AllByRecursion IsLine (map decimal symbols)
lines-decimal = decimals IsLine (λ n small. IsLine-digits (decimal n) (digits-from-number (decimal n) (is_number-decimal n small)).all)

-- if numbers fit 64 bits and spellings are lines, both, with an empty one between, are their output's lines
lines_of-output : (symbols : List ℕ) (spellings : List (List ℕ)) → AreSmall symbols →
    AllByRecursion IsLine spellings
    → lines_of (output_of symbols spellings) ≡ output_lines symbols spellings
lines_of-output symbols spellings small lines = grind (arith, common_steps, output-lines, lines_of-flat_map, decimal, lines-decimal, All-nil (λ (byte : ℕ). byte ≢ 10))

-- the first empty line of lines
abbrev AreWritten : List (List ℕ) → Type 0
AreWritten lines = AllByRecursion (λ line. is_blank line ≡ false) lines

-- the decimals of numbers that fit 64 bits aren't empty
written-decimal : (symbols : List ℕ) → AreSmall symbols → AreWritten (map decimal symbols)
written-decimal = decimals (λ line. is_blank line ≡ false) (λ n small. let is = digits-from-number (decimal n) (is_number-decimal n small) in grind (arith, common_steps, is.some))

-- if the lines in front of an empty one aren't empty, it is the first empty one
first-blank : (front back : List (List ℕ)) → AreWritten front →
    position_or_len is_blank (front ++ [] ∷ back) ≡ length front
first-blank [] back written = refl
first-blank (line ∷ front) back written = rw (written.0, first-blank front back written.1) (omega arith)

-- if the lines in front of an empty one aren't empty, they are those before the first empty one, and those
-- behind it are those after the first empty one, which there is
blank : (front back : List (List ℕ)) → AreWritten front → (before_first is_blank (front ++ [] ∷ back) ≡ front)
    × (after_first is_blank (front ++ [] ∷ back) ≡ back) × (list_any is_blank (front ++ [] ∷ back) ≡ true)
blank front back written = grind (arith, take_at, first-blank front back written, drop-append-add front ([] ∷ back) 1, list_any-append is_blank front ([] ∷ back))

-- an output has at least as many bytes as spellings
length-output : (symbols : List ℕ) (spellings : List (List ℕ)) →
    length spellings ≤ length (output_of symbols spellings)
length-output symbols spellings = grind (arith, length-append, length-le-flat_map)

-- bytes that hold symbols of 64 bits and spellings, and what is read of them
pub record Reads (symbols : List ℕ) (spellings : List (List ℕ)) (bytes : List ℕ) : Type 0 where
  small : AreSmall symbols
  known : AllByRecursion (λ symbol. symbol < length spellings) symbols
  whole : bytes ≡ flat_map spelling_line (output_lines symbols spellings)
  symbols_read : map (digits_value 10) (symbol_lines bytes) ≡ symbols
  front : symbol_lines bytes ≡ map decimal symbols
  strings : spellings_of bytes ≡ spellings
  any : list_any is_blank (lines_of bytes) ≡ true

-- the number of each line
numbers-decimal : (symbols : List ℕ) → AreSmall symbols →
    map (digits_value 10) (map decimal symbols) ≡ symbols
numbers-decimal [] small = refl
numbers-decimal (n ∷ symbols) small = rw (number-decimal n small.0, numbers-decimal symbols small.1) refl

-- fewer than 2 ^ 64 bytes that hold symbols and spellings are their lines, and the symbols fit 64 bits
reads : (symbols : List ℕ) (spellings : List (List ℕ)) (bytes : List ℕ) → length bytes < 2 ^ 64 →
    Holds symbols spellings bytes → Reads symbols spellings bytes
reads symbols spellings bytes few holds =
    let small : AreSmall symbols = recursion_from_All (λ n. n < 2 ^ 64) symbols (λ i d lt.
    omega (arith, holds.known i d lt, length-output symbols spellings, ap length holds.whole)) in
    grind (arith, recursion_from_All, output-lines, lines_of-output, blank (map decimal symbols) spellings (written-decimal symbols small), numbers-decimal symbols small)

-- bytes are read in one way
pub one-reading : (bytes symbols others : List ℕ) (spellings strings : List (List ℕ)) → length bytes < 2 ^ 64
    → Holds symbols spellings bytes → Holds others strings bytes → (symbols ≡ others) × (spellings ≡ strings)
one-reading bytes symbols others spellings strings few left right =
    let a = reads symbols spellings bytes few left in
    let b = reads others strings bytes few right in
    grind (arith, a.symbols_read, b.symbols_read, a.strings, b.strings)

-- and decoded in one way
pub one-output : (bytes output other : List ℕ) → length bytes < 2 ^ 64 → Decodes bytes output →
    Decodes bytes other → output ≡ other
one-output bytes output other few left right = grind (arith, one-reading)

-- the decimals of symbols that are below the count, and fit 64 bits, have no fault
first-right : (count number : ℕ) (symbols : List ℕ) → AreSmall symbols →
    AllByRecursion (λ symbol. symbol < count) symbols
    → first_fault (Some count) number (map decimal symbols) ≡ None
first-right count number [] small known = refl
first-right count number (n ∷ symbols) small known = grind (arith, is_number-decimal n small.0, number-decimal n small.0, lt-ltb n count known.0, first-right count (number + 1) symbols small.1 known.1)

-- what holds symbols and spellings has no fault
pub no-fault : (bytes symbols : List ℕ) (spellings : List (List ℕ)) → length bytes < 2 ^ 64 →
    Holds symbols spellings bytes → fault_of bytes ≡ None
no-fault bytes symbols spellings few holds =
    let read = reads symbols spellings bytes few holds in
    grind (arith, read.any, read.front, read.whole, is_ended-flat_map (output_lines symbols spellings), read.strings, first-right (length spellings) 1 symbols read.small read.known)

-- if lines have no fault under a count, each is a number below the count
pub known-lines : (count number : ℕ) (lines : List (List ℕ)) → first_fault (Some count) number lines ≡ None →
    AreKnown count lines
known-lines count number [] none = tt
known-lines count number (line ∷ lines) none = grind (arith, known-lines count (number + 1) lines, ltb-true (digits_value 10 line) count)

-- lines that are numbers below a count are these numbers in decimal, if the count fits 64 bits, and these are
-- below it
known-decimals : (count : ℕ) (lines : List (List ℕ)) → count < 2 ^ 64 → AreKnown count lines →
    (map decimal (map (digits_value 10) lines) ≡ lines)
    × AllByRecursion (λ symbol. symbol < count) (map (digits_value 10) lines)
known-decimals count [] few known = (refl, tt)
known-decimals count (line ∷ lines) few known =
    let go = known-decimals count lines few known.1 in
    (rw (decimal-number line known.0.0 (omega (arith, known.0.1)), go.0) refl, (known.0.1, go.1))

-- if one of the lines is empty, the first empty one is within the lines
any-place : (lines : List (List ℕ)) → list_any is_blank lines ≡ true →
    position_or_len is_blank lines < length lines
any-place [] any = cc
any-place (line ∷ lines) any = grind (arith, any-place lines)

-- lines of which one is empty
pub at-blank : (lines : List (List ℕ)) → list_any is_blank lines ≡ true →
    lines ≡ before_first is_blank lines ++ [] ∷ after_first is_blank lines
at-blank lines any = grind (arith, any-place lines any, passes_at_first is_blank lines [], split_at_first is_blank lines [], nil_from_length, eqb-true)

-- what has no fault has none in its symbols, an empty line, and an ended last line
fault-none : (bytes : List ℕ) → fault_of bytes ≡ None → (first_fault (spelling_count bytes) 1 (symbol_lines bytes) ≡ None)
    × (list_any is_blank (lines_of bytes) ≡ true) × (is_ended bytes ≡ true)
fault-none bytes none = grind arith

-- what has no fault holds the numbers of its lines, and its strings
pub holds-read : (bytes : List ℕ) → length bytes < 2 ^ 64 → fault_of bytes ≡ None →
    Holds (map (digits_value 10) (symbol_lines bytes)) (spellings_of bytes) bytes
holds-read bytes few none = grind (arith, common_steps, fault-none bytes none, known-lines, at-blank, length-lines_of, length-drop, decimal, known-decimals, flat_map-lines_of, output-lines, append_assoc, lines_of-are-lines)

-- fewer than 2 ^ 64 bytes have no fault exactly if they hold some symbols and spellings
pub faults-exact : (bytes : List ℕ) → length bytes < 2 ^ 64
    → (fault_of bytes ≡ None) ↔
    ((symbols : List ℕ) × (spellings : List (List ℕ)) × Holds symbols spellings bytes)
faults-exact bytes few = (λ none. (_, _, holds-read bytes few none), λ held. no-fault bytes held.0 held.1 few held.2)
