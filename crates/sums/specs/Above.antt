-- The first number above a bound.
use Rattle.std.specs.Prelude.{◌≡◌, ℕ, ◌+◌, ◌<◌, Bool, true, false, cond, ltb, List, [], ◌∷◌, length, Some, None, Option, nat_lt}
use Rattle.rules.specs.Lists.{any}

module _ {X : Type 0} (value : X → ℕ) (most : ℕ) where
  -- some number is above the most
  abbrev pub any_above : List X → Bool
  any_above numbers = any (λ n. ltb most (value n)) numbers

  -- the first number above the most, where they are counted from k, and 0 where there is none
  abbrev pub place_above : ℕ → List X → ℕ
  place_above k [] = 0
  place_above k (n ∷ ns) = cond (nat_lt most (value n)) k (place_above (k + 1) ns)

  -- none is above the most; or some is, and the first of them stands at the place
  abbrev pub FirstAbove : List X → Option ℕ → Type 0
  FirstAbove numbers None = any_above numbers ≡ false
  FirstAbove numbers (Some place) = (any_above numbers ≡ true) × (place + 1 ≡ place_above 1 numbers) × (place < length numbers)
