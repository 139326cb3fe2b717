-- What the checks of all strings of a table go by.
use Rattle.std.specs.Prelude.{◌≡◌, ◌≢◌, ℕ, ◌+◌, ◌<◌, List, length, get_or, slice_get, Some}
use Rattle.std.specs.Str.{IsCharBoundary}
use Rattle.intaglio_frozen.specs.Layout.{strings}
use Rattle.intaglio_frozen.specs.LookUp.{hash, find}

-- the string at i has this hash; it is found at i; it isn't
abbrev pub IsHashAt : List ℕ → ℕ → ℕ → Type 0
IsHashAt bs i h = (w : List ℕ) → slice_get (strings bs) i ≡ Some w → h ≡ hash bs w

abbrev pub IsFoundAt : List ℕ → ℕ → Type 0
IsFoundAt bs i = (w : List ℕ) → slice_get (strings bs) i ≡ Some w → find bs w ≡ Some i

abbrev pub IsNotFoundAt : List ℕ → ℕ → Type 0
IsNotFoundAt bs i = (w : List ℕ) × (slice_get (strings bs) i ≡ Some w) × (find bs w ≢ Some i)

-- the strings below a position are found
abbrev pub AreFoundBelow : List ℕ → ℕ → Type 0
AreFoundBelow bs n = (k : ℕ) → k < n → IsFoundAt bs k

-- the strings from a position on have these hashes; so many of them are found
abbrev pub AreHashesFrom : List ℕ → ℕ → List ℕ → Type 0
AreHashesFrom bs start hs = (k : ℕ) → k < length hs → IsHashAt bs (start + k) (get_or hs k 0)

abbrev pub AreFoundFrom : List ℕ → ℕ → ℕ → Type 0
AreFoundFrom bs start n = (k : ℕ) → k < n → IsFoundAt bs (start + k)

-- the string at i is the first from a position on that isn't found
abbrev pub IsFirstNotFoundFrom : List ℕ → ℕ → ℕ → Type 0
IsFirstNotFoundFrom bs start i = (n : ℕ) × (i ≡ start + n) × AreFoundFrom bs start n × IsNotFoundAt bs i

-- a character of the text ends at each of these
abbrev pub AreCharEnds : List ℕ → List ℕ → Type 0
AreCharEnds text es = (k : ℕ) → k < length es → IsCharBoundary text (get_or es k 0)
