-- An input that is translated piece by piece.
use Rattle.std.specs.Prelude.{◌≡◌, ℕ, ◌-◌, ◌^◌, min, Bool, true, false, List, [], ◌∷◌, ◌++◌, length, Option, None, Some, IfSome, All}
use Rattle.std.specs.List.{flat_map}
use Rattle.std.specs.Io.KnownBytes.{Appends, Consumes, append_known}
use Rattle.intaglio_lines.specs.Puts.{IsFront}
use Rattle.intaglio_columns.specs.declared.translate.TranslateError.{TranslateError}
use Rattle.intaglio_columns.specs.declared.translate.TranslateError.TheVariants.{Misfit, Stream}

-- the pieces of bytes that are at most one piece
abbrev pub last_piece : List ℕ → List (List ℕ)
last_piece [] = []
last_piece (b ∷ bs) = (b ∷ bs) ∷ []

-- a count, which stops at the largest `u64`
abbrev pub count_of : List (List ℕ) → ℕ
count_of xs = min (length xs) (2 ^ 64 - 1)

module _ (pieces : List ℕ → List (List ℕ)) where
  -- whatever follows the bytes, their pieces begin with these, and the others are those of the rest
  abbrev pub StartsWith : List ℕ → List (List ℕ) → List ℕ → Type 0
  StartsWith bytes front rest = (more : List ℕ) → pieces (bytes ++ more) ≡ front ++ pieces (rest ++ more)

  -- the pieces of an input are these, and then those of bytes that were read and of what is left to be read
  abbrev pub IsSplit : Option (List ℕ) → List (List ℕ) → List ℕ → Option (List ℕ) → Type 0
  IsSplit None front bytes left = Unit {0}
  IsSplit (Some input) front bytes None = ⊥
  IsSplit (Some input) front bytes (Some left) = pieces input ≡ front ++ pieces (bytes ++ left)

module _ (fits : List ℕ → Bool) where
  -- each piece can be translated
  abbrev pub AllFit : List (List ℕ) → Type 0
  AllFit xs = All (λ x. fits x ≡ true) xs

  -- the first piece that can't be translated has this position, counted from 0, and this size
  pub record IsFirstMisfit (xs : List (List ℕ)) (position size : ℕ) : Type 0 where
    pub before : List (List ℕ)
    pub misfit : List ℕ
    pub after : List (List ℕ)
    pub parts : xs ≡ before ++ misfit ∷ after
    pub fit : AllFit before
    pub unfit : fits misfit ≡ false
    pub place : position ≡ count_of before
    pub long : size ≡ length misfit

  -- the error reports the first piece that can't be translated, or that an
  -- allocation, a read or a write failed
  abbrev pub ReportsMisfit : TranslateError → List (List ℕ) → Type 0
  ReportsMisfit (Misfit position size) xs = IsFirstMisfit xs position size
  ReportsMisfit (Stream failure) xs = Unit {0}

  -- the same of one piece, at this position
  abbrev pub ReportsPiece : TranslateError → List ℕ → ℕ → Type 0
  ReportsPiece (Misfit position size) piece number =
      (fits piece ≡ false) × (position ≡ number) × (size ≡ length piece)
  ReportsPiece (Stream failure) piece number = Unit {0}

-- some bytes more were read
abbrev pub ReadsMore : Option (List ℕ) → Option (List ℕ) → List ℕ → List ℕ → Type 0
ReadsMore old new before after = (read : List ℕ) × (after ≡ before ++ read) × Consumes old new read

-- an allocation, a read or a write failed
abbrev pub IsFailure : TranslateError → Type 0
IsFailure (Misfit position size) = ⊥
IsFailure (Stream failure) = Unit {0}

-- what is written is the front of a block and of what the first pieces are
-- translated to, each of which can be
pub record WritesPart (fits : List ℕ → Bool) (translated : List ℕ → List ℕ) (old : Option (List ℕ))
    (block : List ℕ) (new : Option (List ℕ))
    (xs : List (List ℕ)) : Type 0 where
  pub before : List (List ℕ)
  pub after : List (List ℕ)
  pub parts : xs ≡ before ++ after
  pub fit : AllFit fits before
  pub front : IsFront old new (block ++ flat_map translated before)

-- of an input, the pieces before bytes that were read were translated, so many, and of the input this is
-- left. What they are translated to is written or in the block
pub record HasTranslated (pieces : List ℕ → List (List ℕ)) (fits : List ℕ →
    Bool) (translated : List ℕ → List ℕ)
    (input old new : Option (List ℕ)) (block bytes : List ℕ) (left : Option (List ℕ))
    (count : ℕ) : Type 0 where
  pub front : List (List ℕ)
  pub split : IsSplit pieces input front bytes left
  pub fit : AllFit fits front
  pub put : Appends old (append_known new block) (flat_map translated front)
  pub written : IsFront old new (flat_map translated front)
  pub counted : count ≡ count_of front

module _ (pieces : List ℕ → List (List ℕ)) (fits : List ℕ → Bool) (translated : List ℕ → List ℕ) where
  -- whatever came before: these bytes were translated up to a rest
  abbrev pub GoesOn : Option (List ℕ) → List ℕ → List ℕ → ℕ → Option (List ℕ) → List ℕ → List ℕ → ℕ → Type 0
  GoesOn mid block bytes number new later rest count = (input old left : Option (List ℕ)) →
      HasTranslated pieces fits translated input old mid block bytes left number
      → HasTranslated pieces fits translated input old new later rest left count

  -- whatever came before: these bytes have the piece that is reported
  abbrev pub StopsIn : Option (List ℕ) → List ℕ → List ℕ → ℕ → TranslateError → Type 0
  StopsIn mid block bytes number e = (input old left : Option (List ℕ)) →
      HasTranslated pieces fits translated input old mid block bytes left number
      → IfSome input (λ input. ReportsMisfit fits e (pieces input))

  -- whatever came before: what is written is the front of what pieces are translated to that can be
  abbrev pub WritesIn : Option (List ℕ) → List ℕ → List ℕ → ℕ → Option (List ℕ) → Type 0
  WritesIn mid block bytes number new = (input old left : Option (List ℕ)) →
      HasTranslated pieces fits translated input old mid block bytes left number
      → IfSome input (λ input. WritesPart fits translated old [] new (pieces input))

-- whatever pieces fit before these and follow them: the error reports the first that can't be translated
abbrev pub ReportsAmong : (List ℕ → Bool) → TranslateError → List (List ℕ) → ℕ → Type 0
ReportsAmong fits e xs number = (front more : List (List ℕ)) → AllFit fits front → number ≡ count_of front →
    ReportsMisfit fits e (front ++ (xs ++ more))
