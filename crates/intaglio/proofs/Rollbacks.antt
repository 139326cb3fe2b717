-- What a rollback to a mark restores, if every call since the mark kept the contents.
use Rattle.std.proofs.Common.{◌≡◌, ◌≤◌, ◌∙◌, ap, refl, arith, List, length, take, Result, Ok, Err, IsOk}
use Rattle.intaglio.proofs.Names.{length-take, Key, State, TakesBack, Keeps, keeps-front}
use Rattle.intaglio_symbol.specs.declared.error.StaleMark.{StaleMark}

module _ {C : Type 0} (key : C → Key) where
  -- after a call that keeps the contents there are no fewer
  pub kept_count : (old next : State C) → Keeps key old next → length old.contents ≤ length next.contents
  kept_count old next kept =
      let front : length (take (length old.contents) next.contents) ≡ length old.contents =
      ap (λ (cs : List C). length cs) (keeps-front key old next kept) in
      omega (arith, front, length-take (length old.contents) next.contents)

  module _ (old next new : State C) (kept : Keeps key old next) where
    -- the mark isn't stale
    pub not_stale : (r : Result (Unit {0}) StaleMark) → TakesBack next (length old.contents) r new → IsOk r
    not_stale (Ok _) step = refl
    not_stale (Err _) step = let le = kept_count old next kept in let lt = step.0 in absurd (omega arith)

    -- and the contents are those at the time of the mark
    pub rolled_back : (r : Result (Unit {0}) StaleMark) → TakesBack next (length old.contents) r new →
        new.contents ≡ old.contents
    rolled_back (Ok _) step = step.contents ∙ keeps-front key old next kept
    rolled_back (Err _) step = let le = kept_count old next kept in let lt = step.0 in absurd (omega arith)
