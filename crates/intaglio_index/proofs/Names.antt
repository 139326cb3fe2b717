-- The names that several proofs cite, passed on from one place.
pub use Rattle.std.proofs.Math.Nat.{div-eq_of_lt, div-lt_iff_lt-mul, mul-le-mul_left, mul-le-mul_right}
pub use Rattle.std.proofs.lemmas.Bool.{cases_lt, cond_both, eq-eqb, eqb-false, eqb-true, false≢true, le-leb, le-ltb, leb-true, lt-ltb, ltb-false, ltb-true, ne_eqb, true≢false}
pub use Rattle.std.proofs.lemmas.Bool.Decides.{eqb_tells}
pub use Rattle.std.proofs.lemmas.Grind.{common_steps}
pub use Rattle.std.proofs.lemmas.List.{append-nil, get_or-set_other, get_or-set_same, get_or-take, get_or_append_left, get_or_at, get_or_default, get_or_push, get_or_read, length-set, length-take-le, nil_from_length, set-get_or}
pub use Rattle.std.proofs.lemmas.List.Elements.{All-from_recursion, Contains-append_right, recursion_from_All}
pub use Rattle.std.proofs.lemmas.Nat.{and_mask, div-add-mod', div-mul-add, div_below, le-div, mod-mul-add, mul-add-lt, pow-add, pow_below, pow_pos, xor_mod, xor_shr}
pub use Rattle.std.proofs.lemmas.Nat.Bits.{bit_at-zero, bit_at_set_other, bit_at_set_same}
pub use Rattle.std.specs.Int.{IsPowerOfTwo}
pub use Rattle.std.specs.Int.RustNames.{bit_and, bit_xor}
pub use Rattle.std.specs.List.{AllByRecursion, Contains}
pub use Rattle.std.specs.Option.{IfSome, MatchOption, is_some, option_map}
pub use Rattle.intaglio_content.specs.Work.{Event, placed, step}
pub use Rattle.intaglio_symbol.specs.declared.symbol.Symbol.{Symbol}
pub use Rattle.intaglio_index.specs.Filter.{IsFiltered, IsMarked}
pub use Rattle.intaglio_index.specs.Found.{HasPassed, IsAt, IsBehind, IsFound, IsPassed, IsReached}
pub use Rattle.intaglio_index.specs.Heads.{IsHead, IsHeaded, IsWord}
pub use Rattle.intaglio_index.specs.Links.{IsLinked, IsPath, IsThread, entry_of, next_of, target_of}
pub use Rattle.intaglio_index.specs.Placed.{AreSorted, BeginsAtOrAbove, IsBucket, IsEntry, IsPredecessor, Placed, bucket_of, chain_from, first_symbol_of, first_symbol_with, head_of, insert_sorted, members, places_from, symbols_of}
pub use Rattle.intaglio_index.specs.declared.index.head.Head.{Head}
