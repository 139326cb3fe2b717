-- What is made of the items of a list, one after the other.
use Rattle.std.proofs.Common.{◌≡◌, ◌∙◌, ℕ, ◌+◌, List, [], ◌∷◌, ◌++◌, take, Option, Some, refl, ap, sym}
use Rattle.intaglio_columns.proofs.Names.{slice_get, flat_map, fold, Appends, append_known, append-nil, flat_map-append, fold-append, take_at_read, slice_get_within, get_or_from_slice_get, IsFront, Appends-append, front-then}

module _ {X : Type 0} (xs : List X) (n : ℕ) (x : X) (at : slice_get xs n ≡ Some x) where
  -- the items so far, and the next one
  pub next : take (n + 1) xs ≡ take n xs ++ x ∷ []
  next = (take_at_read xs n x (slice_get_within xs n x at)).1
      ∙ ap (λ t. take n xs ++ t ∷ []) (get_or_from_slice_get xs n x x at)

  -- a fold over one item more takes one step more
  pub fold-next : {B : Type 0} (f : B → X → B) (a : B) →
      fold f a (take (n + 1) xs) ≡ f (fold f a (take n xs)) x
  fold-next f a = rw (next, fold-append f a (take n xs) (x ∷ [])) refl

  -- the pieces so far, and that of one item more
  pub flat_map-next : (f : X → List ℕ) → flat_map f (take (n + 1) xs) ≡ flat_map f (take n xs) ++ f x
  flat_map-next f = rw (next, flat_map-append f (take n xs) (x ∷ []), append-nil (f x)) refl

  -- the lines so far, and that of one item more
  pub appends-next : (f : X → List ℕ) (old mid new : Option (List ℕ)) (line : List ℕ) → line ≡ f x
      → Appends old mid (flat_map f (take n xs)) → Appends mid new line →
      Appends old new (flat_map f (take (n + 1) xs))
  appends-next f old mid new line same before more =
      rw (flat_map-next f) (Appends-append old mid new _ _ before (rw same at more))

  -- the front of a block, of the lines so far, and of that of one item more
  pub front-next : (f : X → List ℕ) (old mid new : Option (List ℕ)) (block later : List ℕ) →
      Appends (append_known old block) (append_known mid later) (flat_map f (take n xs))
      → IsFront old mid (block ++ flat_map f (take n xs)) → IsFront mid new (later ++ f x) →
      IsFront old new (block ++ flat_map f (take (n + 1) xs))
  front-next f old mid new block later before front more =
      rw (flat_map-next f) (front-then old mid new block later (flat_map f (take n xs)) (f x) before
      front more)

  -- pieces of other items, which are the same so far, and one more
  pub same-next : {Y : Type 0} (h : Y → List ℕ) (ys : List Y) (y : Y) (f : X → List ℕ) →
      flat_map h ys ≡ flat_map f (take n xs) → h y ≡ f x
      → flat_map h (ys ++ y ∷ []) ≡ flat_map f (take (n + 1) xs)
  same-next h ys y f before same =
      rw (flat_map-append h ys (y ∷ []), append-nil (h y), before, same) (sym (flat_map-next f))
