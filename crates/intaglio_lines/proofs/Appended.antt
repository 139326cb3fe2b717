-- What was written, piece by piece.
use Rattle.intaglio_lines.proofs.Names.{common_steps, take-add, take-append-add, append_cancel_left, take-append-le, take_min, take_rest, Appends, Keeps, append_known}
use Rattle.std.proofs.Common.{◌∙◌, sym, refl, ℕ, ◌+◌, ◌-◌, min, List, [], ◌++◌, length, take, drop, append_assoc, append-nil, Option, Some, None, arith}
use Rattle.intaglio_lines.specs.Puts.{IsFront}

-- two pieces are one
pub Appends-append : (old mid new : Option (List ℕ)) (front more : List ℕ) → Appends old mid front →
    Appends mid new more → Appends old new (front ++ more)
Appends-append None mid new front more one other = tt
Appends-append (Some xs) None new front more one other = absurd one
Appends-append (Some xs) (Some ys) None front more one other = absurd other
Appends-append (Some xs) (Some ys) (Some zs) front more one other =
    rw (other, one) (append_assoc xs front more)

-- bytes that stay as they were have grown by none
pub keeps-none : (old new : Option (List ℕ)) → Keeps old new → Appends old new []
keeps-none None new keeps = tt
keeps-none (Some x) None keeps = absurd keeps
keeps-none (Some x) (Some y) keeps = keeps ∙ sym (append-nil x)

-- the bytes so far, and some of the rest
pub written_next : (old mid new : Option (List ℕ)) (bytes : List ℕ) (at n : ℕ) →
    Appends old mid (take at bytes)
    → Appends mid new (take n (take (length bytes - at) (drop at bytes))) →
    Appends old new (take (at + n) bytes)
written_next old mid new bytes at n before more = grind (arith, common_steps, take_rest, take-add)

-- nothing was written
pub front-none : (old : Option (List ℕ)) (bytes : List ℕ) → IsFront old old bytes
front-none None bytes = (0, tt)
front-none (Some x) bytes = (0, sym (append-nil x))

-- an empty block holds nothing
pub held-none : (old : Option (List ℕ)) → Appends old (append_known old []) []
held-none None = tt
held-none (Some x) = refl

-- what known bytes grow by, they also grow by with an empty block behind them
pub held-nothing : (old new : Option (List ℕ)) (bytes : List ℕ) → Appends old new bytes →
    Appends (append_known old []) new bytes
held-nothing None new bytes put = tt
held-nothing (Some x) None bytes put = absurd put
held-nothing (Some x) (Some y) bytes put = rw (append-nil x) put

-- a front of bytes is one of more bytes
pub front_more : (old new : Option (List ℕ)) (bytes more : List ℕ) → IsFront old new bytes →
    IsFront old new (bytes ++ more)
front_more old new bytes more front = (min front.0 (length bytes), rw (take-append-le (min front.0 (length bytes)) bytes more (omega arith), take_min front.0 bytes) front.1)

-- bytes were put to a block or written, and then the front of the block and of others
pub front-then : (old mid new : Option (List ℕ)) (block later bytes more : List ℕ) →
    Appends (append_known old block) (append_known mid later) bytes
    → IsFront old mid (block ++ bytes) → IsFront mid new (later ++ more) →
    IsFront old new (block ++ (bytes ++ more))
front-then None mid new block later bytes more put front next = (0, tt)
front-then (Some x) None new block later bytes more put front next = absurd put
front-then (Some x) (Some y) None block later bytes more put front next = absurd next.1
front-then (Some x) (Some y) (Some z) block later bytes more put front next =
    let part = take front.0 (block ++ bytes) in (
      length part + next.0,
      grind (arith, append_cancel_left, append_assoc, take-append-add part (later ++ more) next.0, put, front.1, next.1),
    )
