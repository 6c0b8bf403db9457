-- Sums over a list and membership of it.
use Rattle.std.specs.Prelude.{◌≡◌, ℕ, zero, suc, ◌+◌, Bool, false, ◌||◌, ◌⊎◌, List, [], ◌∷◌}

abbrev pub total : {X : Type 0} → (X → ℕ) → List X → ℕ
total f [] = 0
total f (x ∷ xs) = f x + total f xs

abbrev pub any : {X : Type 0} → (X → Bool) → List X → Bool
any p [] = false
any p (x ∷ xs) = p x || any p xs

abbrev pub In : {X : Type 0} → X → List X → Type 0
In x [] = ⊥
In x (y ∷ ys) = (x ≡ y) ⊎ In x ys

-- f at k, k + 1 and so on, n of them
abbrev pub listed : {X : Type 0} → (ℕ → X) → ℕ → ℕ → List X
listed f k zero = []
listed f k (suc n) = f k ∷ listed f (suc k) n

-- f of each with its number, where the first has the number k
abbrev pub each_with : {X Y : Type 0} → (ℕ → X → Y) → ℕ → List X → List Y
each_with f k [] = []
each_with f k (x ∷ xs) = f k x ∷ each_with f (suc k) xs
