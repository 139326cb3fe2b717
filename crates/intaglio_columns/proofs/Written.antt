-- What is written of codes is a column of them.
use Rattle.intaglio_columns.proofs.Names.{common_steps, append_assoc, flat_map, w16, w32, w64, to_le_bytes, ne_eqb, get_or-append-add, number, bytes_of, greatest, missing, width_for, fits, checksum_of, codes_at, kind, widened, rows, source_kind, source_of, strings, width, AreCodes, IsCode, HasGap, rows_of, HasChecksum, IsHeaderOf, end_of, magic, HasRanges, code_bytes, file_of, header_for, header_of, reserved_bytes, source_bytes, start_of, RowSource, Width, One, Two, Four}
use Rattle.std.proofs.Common.{◌≡◌, ◌≢◌, ◌∙◌, ◌==◌, ℕ, zero, suc, ◌+◌, ◌*◌, ◌/◌, ◌%◌, ◌^◌, ◌<◌, ◌≤◌, inl, inr, ◌⊎◌, true, false, List, [], ◌∷◌, ◌++◌, length, slice_get, Some, Bool, refl, sym, ap, subst, arith, eq-eqb, length-append}
use Rattle.intaglio_hash.specs.Numbers.{u32_at, u64_at}
use Rattle.intaglio_frozen.specs.Id.{kind_number}
use Rattle.intaglio_columns.specs.Layout.{code_at, codes}
use Rattle.intaglio_columns.specs.declared.file.header.ColumnHeader.{ColumnHeader}

-- a number behind other bytes
number-behind : (xs ys : List ℕ) (j n : ℕ) → number (xs ++ ys) (length xs) j n ≡ number ys 0 j n
number-behind xs ys j zero = refl
number-behind xs ys j (suc n) = grind (arith, common_steps, get_or-append-add)

-- the code right behind some bytes is the first one of what follows them
code-behind : (xs ys : List ℕ) (w : Width) (at : ℕ) → at ≡ length xs →
    code_at (xs ++ ys) w at ≡ code_at ys w 0
unfolding code_at
code-behind xs ys w at e = ap (λ p. widened w (number (xs ++ ys) p 0 (bytes_of w))) e
    ∙ ap (widened w) (number-behind xs ys 0 (bytes_of w))

-- a number below 2 ^ 16 is read from its two little-endian bytes
le2 : (x : ℕ) → x < 2 ^ 16 → number (to_le_bytes w16 x) 0 0 2 ≡ x
le2 x l = grind (arith, common_steps)

-- a number below 2 ^ 32 is read from its four little-endian bytes
le4 : (x : ℕ) → x < 2 ^ 32 → number (to_le_bytes w32 x) 0 0 4 ≡ x
le4 x l = grind (arith, common_steps)

-- a number below 2 ^ 64 is read from its eight little-endian bytes
le8 : (x : ℕ) → x < 2 ^ 64 → number (to_le_bytes w64 x) 0 0 8 ≡ x
le8 x l = grind (arith, common_steps)

-- the number of a kind
kind-le : (b : Bool) → number (to_le_bytes w32 (kind_number b)) 0 0 4 ≡ kind_number b
kind-le true = refl
kind-le false = refl

kind-small : (b : Bool) (n : ℕ) → n ≡ kind_number b → n ≤ 1
kind-small true n e = omega arith
kind-small false n e = omega arith

-- a code that a width has
abbrev Fits : Width → ℕ → Type 0
Fits w c = (c < greatest w) ⊎ (c ≡ missing)

-- the number that is read of a code that fits is the code when it is widened
code-read : (w : Width) (c m : ℕ) → Fits w c → (c < greatest w → m ≡ c) → (c ≡ missing → m ≡ greatest w) →
    widened w m ≡ c
code-read w c m (inl l) less gone =
    let other : c ≢ greatest w = omega (arith, l) in rw (less l, ne_eqb c (greatest w) other) refl
code-read w c m (inr e) less gone = rw (eq-eqb m (greatest w) (gone e)) (sym e)

-- a code that fits a width is read from its bytes, whatever follows them
code-back : (w : Width) (c : ℕ) (ys : List ℕ) → Fits w c → code_at (code_bytes w c ++ ys) w 0 ≡ c
unfolding code_at
code-back One c ys fit =
    code-read One c (number (code_bytes One c ++ ys) 0 0 1) fit (λ l. omega (arith, l)) (λ e. omega (arith, e))
code-back Two c ys fit =
    let read : number (code_bytes Two c ++ ys) 0 0 2 ≡ c % 2 ^ 16 = le2 (c % 2 ^ 16) (omega arith) in
    code-read Two c (number (code_bytes Two c ++ ys) 0 0 2) fit (λ l. omega (arith, read, l)) (λ e. omega (arith, read, e))
code-back Four c ys fit =
    code-read Four c (number (code_bytes Four c ++ ys) 0 0 4) fit (λ l. le4 c (omega (arith, l)))
    (λ e. omega (arith, le4 c (omega (arith, e)), e))

-- a code has as many bytes as its width says
code-size : (w : Width) (c : ℕ) → length (code_bytes w c) ≡ bytes_of w
code-size One c = refl
code-size Two c = refl
code-size Four c = refl

-- each of these codes fits the width
abbrev AllFit : Width → List ℕ → Type 0
AllFit w cs = (row code : ℕ) → slice_get cs row ≡ Some code → Fits w code

-- codes that fit a width are read from their bytes, where these begin behind other bytes
codes-back : (w : Width) (cs xs : List ℕ) (at : ℕ) → at ≡ length xs → AllFit w cs →
    codes_at (xs ++ flat_map (code_bytes w) cs) w at (length cs) ≡ cs
codes-back w [] xs at e fit = refl
codes-back w (c ∷ cs) xs at e fit =
    let rest = flat_map (code_bytes w) cs in
    let tail = codes-back w cs (xs ++ code_bytes w c) (at + bytes_of w)
    (omega (arith, e, length-append xs (code_bytes w c), code-size w c))
    (λ row code is. fit (suc row) code is) in
    let head = code-behind xs (code_bytes w c ++ rest) w at e ∙ code-back w c rest (fit 0 c refl) in
    let moved = rw (append_assoc xs (code_bytes w c) rest) at tail in
    cc

-- the code of one of fewer than 2 ^ 32 strings, or the missing one, fits the width for so many
fits-width : (n c : ℕ) → n < 2 ^ 32 → IsCode n c → Fits (width_for n) c
fits-width n c few (inr e) = inr e
fits-width n c few (inl l) = grind (arith, common_steps)

-- the bytes of codes are the bytes of the width, times the number of codes
codes-size : (w : Width) (cs : List ℕ) → length (flat_map (code_bytes w) cs) ≡ bytes_of w * length cs
codes-size w [] = omega arith
codes-size w (c ∷ cs) =
    let rest = flat_map (code_bytes w) cs in
    omega (arith, length-append (code_bytes w c) rest, code-size w c, codes-size w cs)

-- the number of bytes of a width
width-le : (w : Width) → number (to_le_bytes w32 (bytes_of w)) 0 0 4 ≡ bytes_of w
width-le One = refl
width-le Two = refl
width-le Four = refl

-- whether a kind that was written is that of texts
kind-back : (b : Bool) (n : ℕ) → n ≡ kind_number b → (n == 1) ≡ b
kind-back true n e = rw e refl
kind-back false n e = rw e refl

-- a source is what its five parts are
same-source : (a : ℕ) (b : Bool) (c d e : ℕ) (s : RowSource) → a ≡ s.shards → b ≡ s.is_text → c ≡ s.hash0 →
    d ≡ s.hash1 → e ≡ s.shard →
    ◌≡◌ {A = RowSource} (record { shards = a; is_text = b; hash0 = c; hash1 = d; shard = e }) s
same-source a b c d e s ea eb ec ed ee = rw (ea, eb, ec, ed, ee) refl

-- the bytes of a column of codes are one
pub record IsFileOf (h : ColumnHeader) (cs bytes : List ℕ) : Type 0 where
  pub checksum : HasChecksum bytes
  pub same_codes : codes bytes ≡ cs
  pub known : AreCodes (strings bytes) (codes bytes)
  pub header : IsHeaderOf bytes h
  pub same : h ≡ header_for h.id h.shards h.source cs

module _ {h : ColumnHeader} (cs : List ℕ) (wide : h.width ≡ width_for h.id.count)
    (long : h.rows ≡ length cs) (fit : fits h.shards h.source ≡ true) (few : h.id.count < 2 ^ 32)
    (r : HasRanges h) (small : checksum_of (header_of h ++ flat_map (code_bytes h.width) cs) < 2 ^ 64)
    (ok : AreCodes h.id.count cs) where
  abbrev rest : List ℕ
  rest = flat_map (code_bytes h.width) cs

  -- the header with its checksum
  abbrev head : List ℕ
  head = start_of h ++ to_le_bytes w64 (checksum_of (header_of h ++ rest)) ++ source_bytes h.source
      ++ reserved_bytes

  abbrev bs : List ℕ
  bs = head ++ rest

  strings-same : strings bs ≡ h.id.count
  unfolding u64_at
  strings-same = le8 h.id.count (omega (arith, few))

  width-same : width bs ≡ h.width
  width-same = ap width_for strings-same ∙ sym wide

  rows-same : rows bs ≡ length cs
  unfolding u64_at
  rows-same = le8 h.rows r.rows ∙ long

  codes-there : codes bs ≡ cs
  unfolding codes
  codes-there =
      ap (λ v. codes_at bs v 128 (rows bs)) width-same ∙ ap (λ n. codes_at bs h.width 128 n) rows-same
      ∙ codes-back h.width cs head 128 refl (λ row code is.
      subst (λ (v : Width). Fits v code) (sym wide) (fits-width h.id.count code few (ok row code is)))

  size-same : length bs ≡ end_of bs
  size-same =
      length-append head rest ∙ ap (λ k. 128 + k) (codes-size h.width cs)
      ∙ ap (λ v. 128 + bytes_of v * length cs) (sym width-same)
      ∙ ap (λ n. 128 + bytes_of (width bs) * n) (sym rows-same)

  source-there : source_of bs ≡ h.source
  unfolding u32_at u64_at
  source-there =
      same-source _ _ _ _ _ h.source (le4 h.source.shards r.from_shards)
      (kind-back h.source.is_text (source_kind bs) (kind-le h.source.is_text))
      (le8 h.source.hash0 r.from_hash0) (le8 h.source.hash1 r.from_hash1) (le4 h.source.shard r.from_shard)

  checksum-there : HasChecksum bs
  unfolding u32_at u64_at
  checksum-there = record {
    rows = record {
      header = record {
        source = record {
          width = record {
            kind = record {
              version = record {
                magic = (omega (arith, size-same), refl);
                version = refl;
              };
              long = omega (arith, size-same);
              kind = kind-small h.id.is_text (kind bs) (kind-le h.id.is_text);
            };
            few = omega (arith, strings-same, few);
            width = width-le h.width ∙ ap bytes_of (sym width-same);
          };
          kind = kind-small h.source.is_text (source_kind bs) (kind-le h.source.is_text);
          fits = ap (λ n. fits n (source_of bs)) (le4 h.shards r.shards)
              ∙ ap (fits h.shards) source-there ∙ fit;
        };
        reserved = record { at_92 = refl; at_96 = refl; at_104 = refl; at_112 = refl; at_120 = refl };
      };
      whole = size-same;
    };
    checksum = le8 (checksum_of (header_of h ++ rest)) small;
  }

  header-there : IsHeaderOf bs h
  unfolding u32_at u64_at
  header-there = record {
    id = record {
      kind = sym (kind-le h.id.is_text);
      count = sym strings-same;
      hash0 = sym (le8 h.id.hash0 r.hash0);
      hash1 = sym (le8 h.id.hash1 r.hash1);
    };
    shards = sym (le4 h.shards r.shards);
    source = sym source-there;
    width = sym width-same;
    rows = long ∙ sym rows-same;
  }

  -- such bytes are a column: the header and the codes are read back as they were written
  pub file-is : {bytes : List ℕ} → bytes ≡ file_of h cs → IsFileOf h cs bytes
  file-is is = rw is (record {
    checksum = checksum-there;
    same_codes = codes-there;
    known = λ row code at.
        subst (λ (k : ℕ). IsCode k code) (sym strings-same) (ok row code (rw codes-there at at));
    header = header-there;
    same = rw (← wide, ← long) refl;
  })

-- a row can't be missing where none is
pub no-gap : (cs : List ℕ) (row : ℕ) → rows_of missing cs ≡ [] → HasGap cs row → ⊥
no-gap cs row none gap = grind (arith, common_steps)
