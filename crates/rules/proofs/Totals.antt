-- Sums over lists, and membership.
use Rattle.std.proofs.Common.{◌≡◌, ℕ, zero, suc, ◌+◌, ◌<◌, ◌≤◌, ◌⊎◌, List, [], ◌∷◌, ◌++◌, map, length, get_or, set, refl, ap, ◌∙◌, inl, inr, arith}
use Rattle.rules.specs.Lists.{total, In, listed}

module _ {X : Type 0} where
  pub total_le : (f g : X → ℕ) (xs : List X) → ((x : X) → In x xs → f x ≤ g x) → total f xs ≤ total g xs
  total_le f g [] h = omega arith
  total_le f g (x ∷ xs) h = omega (arith, h x (inl refl), total_le f g xs (λ y i. h y (inr i)))

  pub total_same : (f g : X → ℕ) (xs : List X) → ((x : X) → In x xs → f x ≡ g x) → total f xs ≡ total g xs
  total_same f g [] h = refl
  total_same f g (x ∷ xs) h = omega (arith, h x (inl refl), total_same f g xs (λ y i. h y (inr i)))

  pub total_none : (f : X → ℕ) (xs : List X) → ((x : X) → In x xs → f x ≡ 0) → total f xs ≡ 0
  total_none f [] h = refl
  total_none f (x ∷ xs) h = omega (arith, h x (inl refl), total_none f xs (λ y i. h y (inr i)))

  pub total_plus : (f g : X → ℕ) (xs : List X) → total (λ x. f x + g x) xs ≡ total f xs + total g xs
  total_plus f g [] = refl
  total_plus f g (x ∷ xs) = omega (arith, total_plus f g xs)

  pub total_push : (f : X → ℕ) (xs : List X) (y : X) → total f (xs ++ (y ∷ [])) ≡ total f xs + f y
  total_push f [] y = omega arith
  total_push f (x ∷ xs) y = omega (arith, total_push f xs y)

  pub total_set : (f : X → ℕ) (xs : List X) (i : ℕ) (y d : X) → i < length xs → total f (set xs i y) + f (get_or xs i d) ≡ total f xs + f y
  total_set f [] i y d h = absurd (omega arith)
  total_set f (x ∷ xs) zero y d h = omega arith
  total_set f (x ∷ xs) (suc i) y d h = omega (arith, total_set f xs i y d (omega arith))

  -- some x of the list has a larger f than g, or none
  pub some_or_none : (f : X → ℕ) (xs : List X) → (((x : X) → In x xs → f x ≡ 0) ⊎ ((x : X) × In x xs × (0 < f x)))
  some_or_none f [] = inl (λ x i. elim i [ ])
  some_or_none f (x ∷ xs) = go (f x) refl (some_or_none f xs)
    where
      first : f x ≡ 0 → ((y : X) → In y xs → f y ≡ 0) → (y : X) → In y (x ∷ xs) → f y ≡ 0
      first e h y (inl p) = ap f p ∙ e
      first e h y (inr i) = h y i

      go : (n : ℕ) → f x ≡ n → (((y : X) → In y xs → f y ≡ 0) ⊎ ((y : X) × In y xs × (0 < f y))) → (((y : X) → In y (x ∷ xs) → f y ≡ 0) ⊎ ((y : X) × In y (x ∷ xs) × (0 < f y)))
      go (suc n) e r = inr (x, inl refl, omega arith)
      go zero e (inl h) = inl (first e h)
      go zero e (inr w) = inr (w.0, inr w.1, w.2)

  pub in_push : (xs : List X) (y x : X) → In x (xs ++ (y ∷ [])) → In x xs ⊎ (x ≡ y)
  in_push [] y x (inl p) = inr p
  in_push [] y x (inr i) = elim i [ ]
  in_push (z ∷ xs) y x (inl p) = inl (inl p)
  in_push (z ∷ xs) y x (inr i) = later (in_push xs y x i)
    where
      later : In x xs ⊎ (x ≡ y) → In x (z ∷ xs) ⊎ (x ≡ y)
      later (inl j) = inl (inr j)
      later (inr p) = inr p

  pub in_set : (xs : List X) (i : ℕ) (y x : X) → In x (set xs i y) → In x xs ⊎ (x ≡ y)
  in_set [] i y x h = elim h [ ]
  in_set (z ∷ xs) zero y x (inl p) = inr p
  in_set (z ∷ xs) zero y x (inr j) = inl (inr j)
  in_set (z ∷ xs) (suc i) y x (inl p) = inl (inl p)
  in_set (z ∷ xs) (suc i) y x (inr j) = later (in_set xs i y x j)
    where
      later : In x xs ⊎ (x ≡ y) → In x (z ∷ xs) ⊎ (x ≡ y)
      later (inl k) = inl (inr k)
      later (inr p) = inr p

  pub in_at : (xs : List X) (i : ℕ) (d : X) → i < length xs → In (get_or xs i d) xs
  in_at [] i d h = absurd (omega arith)
  in_at (x ∷ xs) zero d h = inl refl
  in_at (x ∷ xs) (suc i) d h = inr (in_at xs i d (omega arith))

pub total_map : {X Y : Type 0} (f : Y → ℕ) (g : X → Y) (xs : List X) → total f (map g xs) ≡ total (λ x. f (g x)) xs
total_map f g [] = refl
total_map f g (x ∷ xs) = ap (λ n. f (g x) + n) (total_map f g xs)

pub in_map : {X Y : Type 0} (g : X → Y) (xs : List X) (y : Y) → In y (map g xs) → (x : X) × In x xs × (y ≡ g x)
in_map g [] y i = elim i [ ]
in_map g (x ∷ xs) y (inl p) = (x, inl refl, p)
in_map g (x ∷ xs) y (inr i) = let r = in_map g xs y i in (r.0, inr r.1, r.2)

pub map_in : {X Y : Type 0} (g : X → Y) (xs : List X) (x : X) → In x xs → In (g x) (map g xs)
map_in g (y ∷ xs) x (inl p) = inl (ap g p)
map_in g (y ∷ xs) x (inr i) = inr (map_in g xs x i)
map_in g [] x i = elim i [ ]

pub map_same : {X Y : Type 0} (f g : X → Y) (xs : List X) → ((x : X) → In x xs → f x ≡ g x) → map f xs ≡ map g xs
map_same f g [] h = refl
map_same f g (x ∷ xs) h = let e = h x (inl refl) in let r = map_same f g xs (λ y i. h y (inr i)) in cc

pub map_map : {X Y Z : Type 0} (f : Y → Z) (g : X → Y) (xs : List X) → map f (map g xs) ≡ map (λ x. f (g x)) xs
map_map f g [] = refl
map_map f g (x ∷ xs) = ap (λ r. f (g x) ∷ r) (map_map f g xs)

pub listed_at : {X : Type 0} (f : ℕ → X) (k n j m : ℕ) (d : X) → j < n → m ≡ k + j → get_or (listed f k n) j d ≡ f m
listed_at f k zero j m d l e = absurd (omega arith)
listed_at f k (suc n) zero m d l e = ap f (omega arith)
listed_at f k (suc n) (suc j) m d l e = listed_at f (suc k) n j m d (omega arith) (omega arith)
