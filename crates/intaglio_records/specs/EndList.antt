-- What a contract sees of the ends of strings in one buffer.
use Rattle.std.specs.Prelude.{◌≡◌, ℕ, ◌-◌, ◌^◌, ◌<◌, List, ◌∷◌, drop, Bool, refl, if◌then◌else◌}
use Rattle.std.specs.Coded.{Coded, code_by, coded×, coded_ℕ, coded_list}

-- the ends, for how many there is room in total, and the largest number that an end can be
pub record EndList : Type 0 where
  pub list : List ℕ
  pub most : ℕ
  pub largest : ℕ

-- it is stored as the tuple of its fields
abbrev pub end_list_code : Coded EndList
end_list_code =
    code_by
    (List ℕ × (ℕ × ℕ))
    (coded× (coded_list coded_ℕ) (coded× coded_ℕ coded_ℕ))
    (λ v. (v.list, (v.most, v.largest)))
    (λ p. record { list = p.0; most = p.1.0; largest = p.1.1 })
    (λ _. refl)

-- a long end is any number of a machine word, a short one any number below 2^32
abbrev pub largest_end : Bool → ℕ
largest_end long = if long then 2 ^ 64 - 1 else 2 ^ 32 - 1

-- a list that has any room begins with this
pub record BeginsWith {T : Type 0} (first : T) (room : ℕ) (items : List T) : Type 0 where
  pub begins : 0 < room → items ≡ first ∷ drop 1 items
