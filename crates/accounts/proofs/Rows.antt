-- The first rows of a table, read through a function.
use Rattle.std.proofs.Common.{◌≡◌, ℕ, zero, suc, ◌+◌, ◌<◌, ◌≤◌, List, [], ◌∷◌, ◌++◌, map, length, get_or, take, set, sym, refl, ap, ◌∙◌, arith}
use Rattle.std.proofs.lemmas.List.{length-map, length-take-le, get_or-take, get_or-map, map_push, take_more_set, take-map}

-- a write and a cut of the list may change places
pub take_set : {X : Type 0} (n : ℕ) (xs : List X) (i : ℕ) (y : X) → take n (set xs i y) ≡ set (take n xs) i y
take_set zero xs i y = refl
take_set (suc n) [] i y = refl
take_set (suc n) (x ∷ xs) zero y = refl
take_set (suc n) (x ∷ xs) (suc i) y = ap (λ r. x ∷ r) (take_set n xs i y)

module _ {X Y : Type 0} (f : X → Y) where
  -- there are n of the first n
  pub front_length : (n : ℕ) (xs : List X) → n ≤ length xs → length (map f (take n xs)) ≡ n
  front_length n xs within = length-map (take n xs) f ∙ length-take-le n xs within

  -- a row among the first n
  pub front_at : (n : ℕ) (xs : List X) (i : ℕ) (d : X) (e : Y) → i < n → n ≤ length xs → f (get_or xs i d) ≡ get_or (map f (take n xs)) i e
  front_at n xs i d e here within =
      let l : i < length (take n xs) = omega (arith, length-take-le n xs within) in
      ap f (sym (get_or-take n xs i d here)) ∙ sym (get_or-map f (take n xs) i d e l)

  -- a row written behind the first n
  pub front_push : (n : ℕ) (xs : List X) (y : X) → n < length xs → map f (take (n + 1) (set xs n y)) ≡ map f (take n xs) ++ f y ∷ []
  front_push n xs y within = ap (map f) (take_more_set xs n y within) ∙ map_push f (take n xs) y

  -- a row changed
  pub front_set : (n : ℕ) (xs ys : List X) (i : ℕ) (y : Y) → map f ys ≡ set (map f xs) i y → map f (take n ys) ≡ set (map f (take n xs)) i y
  front_set n xs ys i y changed = sym (take-map f n ys) ∙ ap (take n) changed ∙ take_set n (map f xs) i y ∙ ap (λ r. set r i y) (take-map f n xs)
