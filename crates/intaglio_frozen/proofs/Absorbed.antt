-- What stands at the symbols that strings are given, one list after the other.
use Rattle.intaglio_frozen.proofs.Names.{common_steps, flat_map-append, Key, InternError, Overflow, Memory, IfOverflow, issued, interned, issue_from, interned_all, content-still, interned_all-append, interned_all-longer, first-key, issued-found, mapped-some, string_key, union, AreKeys, AreMaps, IsMap}
use Rattle.std.proofs.Common.{◌≡◌, ◌∙◌, ℕ, ◌<◌, List, [], ◌∷◌, ◌++◌, length, take, drop, refl, sym, ap, subst, Some, arith, Result, Ok, Err, IfOk, OnOk, flat_map, slice_get, take-append-drop}
use Rattle.intaglio_interner.proofs.Room.{bytes-none, grows-none}

-- what grows where nothing was interned
pub ruleset none_grows = (bytes-none, grows-none)

-- a string stands at its symbol
issued-there : (held : List (List ℕ)) (w : List ℕ) →
    slice_get (interned string_key held w) (issued string_key held w) ≡ Some w
issued-there held w =
    let h = mapped-some string_key _ (string_key w)
    (first-key string_key (interned string_key held w) (string_key w) (issued string_key held w) (issued-found string_key held w)) in
    let same : h.0 ≡ w = cc in
    h.1 ∙ ap Some same

-- a map stays one while strings are interned
pub map-still : (held more ws : List (List ℕ)) (numbers : List ℕ) → IsMap ws held numbers →
    IsMap ws (interned_all string_key held more) numbers
map-still held more [] [] is = refl
map-still held more (w ∷ ws) (n ∷ numbers) is =
    rw (content-still string_key held more n w (cc), map-still held more ws numbers (cc)) refl
map-still held more ws numbers is = cc

-- the symbols that strings are given are their map
pub issued-map : (held ws : List (List ℕ)) →
    IsMap ws (interned_all string_key held ws) (issue_from string_key held ws)
issued-map held [] = refl
issued-map held (w ∷ ws) =
    let next = interned string_key held w in
    rw (
      content-still string_key next ws (issued string_key held w) w (issued-there held w),
      issued-map next ws,
    ) refl

-- the same by keys that are those of strings
pub issued_map_by : (key : List ℕ → Key) → AreKeys key → (held ws new : List (List ℕ)) (symbols : List ℕ) →
    symbols ≡ issue_from key held ws → new ≡ interned_all key held ws
    → IsMap ws new symbols
issued_map_by key same held ws new symbols given after =
    let keys : string_key ≡ key = λ i w. sym (same w) i in
    rw (given, after) (subst (λ (k : List ℕ → Key). IsMap ws (interned_all k held ws) (issue_from k held ws))
    keys (issued-map held ws))

-- maps stay maps while strings are interned
pub maps-still : (held more : List (List ℕ)) (lists : List (List (List ℕ))) (maps : List (List ℕ)) →
    AreMaps lists held maps → AreMaps lists (interned_all string_key held more) maps
maps-still held more [] [] are = refl
maps-still held more (ws ∷ lists) (m ∷ maps) are =
    rw (map-still held more ws m (cc), maps-still held more lists maps (cc)) refl
maps-still held more lists maps are = cc

-- what is held after the lists so far and one more, and the maps
module _ (lists : List (List (List ℕ))) (ws : List (List ℕ)) where
  -- the union with one more list is what is held after this list is interned into that of the others
  pub union-next : union (lists ++ ws ∷ []) ≡ interned_all string_key (union lists) ws
  union-next = grind (arith, common_steps, interned_all-append)

  -- maps of the lists so far, and that of one more list, are maps to the union with it
  pub maps-next : (maps : List (List ℕ)) (symbols : List ℕ) → AreMaps lists (union lists) maps →
      IsMap ws (union (lists ++ ws ∷ [])) symbols
      → AreMaps (lists ++ ws ∷ []) (union (lists ++ ws ∷ [])) (maps ++ symbols ∷ [])
  maps-next maps symbols are is =
      let before : AreMaps lists (union (lists ++ ws ∷ [])) maps =
      rw union-next (maps-still (union lists) ws lists maps are) in
      grind (arith, common_steps)

-- what is more than the limit after the first lists is more than it after all
pub union-over : (limit i : ℕ) (lists : List (List (List ℕ))) → limit < length (union (take i lists)) →
    limit < length (union lists)
union-over limit i lists over =
    let all = λ (strings : List (List ℕ)). strings in
    let front = take i lists in
    let back = drop i lists in
    let whole : front ++ back ≡ lists = take-append-drop i lists in
    let parts : union (front ++ back) ≡ interned_all string_key (union front) (flat_map all back) = grind (arith, common_steps, flat_map-append, interned_all-append) in
    let longer = interned_all-longer string_key (union front) (flat_map all back) in
    let same : union lists ≡ interned_all string_key (union front) (flat_map all back) =
    ap union (sym whole) ∙ parts in
    omega (arith, over, longer, ap length same)

-- what follows of an overflow
pub if-overflow : {P Q : Type 0} (e : InternError) → (P → Q) → IfOverflow e P → IfOverflow e Q
if-overflow (Overflow full) f p = f p
if-overflow (Memory refused) f p = tt

-- what follows of a value and of what holds beside it
pub ok_both : {V E Q : Type 0} (P R : V → Type 0) (r : Result V E) → IfOk r P → OnOk r Q →
    ((v : V) → P v → Q → R v) → IfOk r R
ok_both P R (Ok v) p q f = f v p q
ok_both P R (Err e) p q f = tt
