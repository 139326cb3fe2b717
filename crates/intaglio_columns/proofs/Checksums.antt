-- The checksum of a column.
use Rattle.intaglio_columns.proofs.Names.{common_steps, write_byte, take-append-drop}
use Rattle.std.proofs.Common.{◌≡◌, ◌∙◌, ◌≤◌, ℕ, List, ◌++◌, drop, length, take, sym, ap, arith}
use Rattle.std.specs.Hash.DefaultHasher.{write}
use Rattle.std.specs.declared.hash.DefaultHasher.{DefaultHasher}
use Rattle.std.proofs.lemmas.List.Sums.{fold-append}
use Rattle.std.proofs.lemmas.Slice.{drop-put_mid, take-put_mid}
use borrow.Rule.Slice.PartMut.{put_mid}

-- bytes behind others
write-behind : (h : DefaultHasher) (xs ys : List ℕ) → write (write h xs) ys ≡ write h (xs ++ ys)
unfolding write
write-behind h xs ys = sym (fold-append write_byte h xs ys)

-- three parts that are written after some bytes are written at once
pub of-parts : (h0 h1 h2 h3 h4 : DefaultHasher) (cs xs ys zs : List ℕ) → h1 ≡ write h0 cs →
    h2 ≡ write h1 xs → h3 ≡ write h2 ys → h4 ≡ write h3 zs → h4 ≡ write (write h0 cs) (xs ++ ys ++ zs)
of-parts h0 h1 h2 h3 h4 cs xs ys zs e1 e2 e3 e4 = grind (arith, common_steps, write-behind)

-- eight bytes that are written behind the first 56
pub put-at-56 : (xs ys : List ℕ) → 128 ≤ length xs → length ys ≡ 8 →
    put_mid 56 8 xs ys ≡ take 56 xs ++ ys ++ drop 64 xs
put-at-56 xs ys long eight =
    let all = put_mid 56 8 xs ys in
    let front : take 64 all ≡ take 56 xs ++ ys =
    take-put_mid 56 8 xs ys 64 (omega (arith, eight)) (omega (arith, long)) in
    let back : drop 64 all ≡ drop 64 xs = drop-put_mid 56 8 xs ys 64 (omega arith) (omega (arith, long)) eight in
    sym (take-append-drop 64 all) ∙ ap (λ t. t ++ drop 64 all) front ∙ ap (λ t. (take 56 xs ++ ys) ++ t) back
