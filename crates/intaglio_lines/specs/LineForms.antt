-- What the lines of an input are taken as.
use Rattle.std.specs.Prelude.{◌≡◌, ℕ, ◌+◌, ◌<◌, ◌≤◌, List, [], ◌++◌, Bool, not, length, map}
use Rattle.std.specs.List.{position_or_len}
use Rattle.intaglio_content.specs.Key.{Key}
use Rattle.intaglio_interner.specs.Issue.{interned_all}
use Rattle.intaglio_interner.specs.State.{State}
use Rattle.intaglio_lines.specs.Lines.{lines_of}

-- how many lines come before the first one that doesn't fit
abbrev pub fit_count : (List ℕ → Bool) → List ℕ → ℕ
fit_count fits input = position_or_len (λ line. not (fits line)) (lines_of input)

abbrev pub AllLinesFit : (List ℕ → Bool) → List ℕ → Type 0
AllLinesFit fits input = fit_count fits input ≡ length (lines_of input)

-- the first line doesn't fit
abbrev pub StartsUnfit : (List ℕ → Bool) → List ℕ → Type 0
StartsUnfit fits input = (fit_count fits input ≡ 0) × (0 < length (lines_of input))

-- the first line that doesn't fit has this number; lines are counted from 1
abbrev pub IsFirstUnfit : (List ℕ → Bool) → List ℕ → ℕ → Type 0
IsFirstUnfit fits input n = (n ≡ fit_count fits input + 1) × (n ≤ length (lines_of input))

-- the lines are the spellings of the forms, and the lines of the rest
abbrev pub StartsWithForms : {F : Type 0} → (F → List ℕ) → List F → List ℕ → List ℕ → Type 0
StartsWithForms spelling forms rest input = lines_of input ≡ map spelling forms ++ lines_of rest

-- how many lines differ by their keys
abbrev pub distinct_count : (List ℕ → Key) → List ℕ → ℕ
distinct_count key input = length (interned_all key [] (lines_of input))

-- the state's contents are the lines, each by its first spelling
abbrev pub HoldsLines : {C : Type 0} → (C → List ℕ) → (List ℕ → Key) → State C → List ℕ → Type 0
HoldsLines spelling key state input = map spelling state.contents ≡ interned_all key [] (lines_of input)
