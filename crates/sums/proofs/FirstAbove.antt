-- The first number above a bound; and the seat whose deposit is over the limit.
use Rattle.std.proofs.Common.{◌≡◌, ℕ, zero, suc, ◌+◌, ◌<◌, ◌≤◌, Bool, true, false, cond, ltb, List, [], ◌∷◌, length, get_or, take, Some, sym, refl, ap, ◌∙◌, add-zero, arith}
use Rattle.std.proofs.lemmas.List.{take_all}
use Rattle.std.proofs.lemmas.Bool.{cond-true, cond-false, or_parts, or_from, or_left, or_right}
use Rattle.std.specs.Prelude.{None, Option, nat_lt}
use Rattle.std.specs.List.{position, position_or_len}
use Rattle.std.proofs.lemmas.Grind.{common_steps}
use Rattle.std.proofs.lemmas.List.Sums.{fails_before_first}
use Rattle.std.proofs.lemmas.List.Quantifiers.{position-Some}
use Rattle.rules.specs.Sales.{seat_over}
use Rattle.sums.specs.Above.{any_above, place_above, FirstAbove}

module _ {X : Type 0} (value : X → ℕ) (most : ℕ) where
  -- none is above, where each was passed
  pub none_all : (ns : List X) (i : ℕ) → length ns ≤ i → any_above value most (take i ns) ≡ false → any_above value most ns ≡ false
  none_all ns i past none = ap (any_above value most) (sym (take_all i ns past)) ∙ none

  counted : (ns : List X) (i k : ℕ) (d : X) → i < length ns → ltb most (value (get_or ns i d)) ≡ true → any_above value most (take i ns) ≡ false
      → (any_above value most ns ≡ true) × (k + i ≡ place_above value most k ns)
  counted [] i k d here above none = absurd (omega arith)
  counted (n ∷ ns) zero k d here above none = (or_left _ _ above, add-zero k ∙ sym (cond-true _ _ _ above))
  counted (n ∷ ns) (suc i) k d here above none =
      let parts = or_parts (ltb most (value n)) (any_above value most (take i ns)) none in
      let rest = counted ns i (k + 1) d (omega arith) above parts.1 in
      let next : k + suc i ≡ k + 1 + i = omega arith in
      (or_right _ _ rest.0, next ∙ rest.1 ∙ sym (cond-false _ _ _ parts.0))

  none_before : (ns : List X) (i : ℕ) (d : X) → i ≤ length ns → ((k : ℕ) → k < i → ltb most (value (get_or ns k d)) ≡ false) → any_above value most (take i ns) ≡ false
  none_before ns zero d few misses = refl
  none_before [] (suc i) d few misses = absurd (omega arith)
  none_before (n ∷ ns) (suc i) d few misses = or_from _ _ (misses 0 (omega arith)) (none_before ns i d (omega arith) (λ k l. misses (suc k) (omega arith)))

  -- what `position` answers is the first number above
  pub first_is : (ns : List X) → (r : Option ℕ) → r ≡ position (λ n. nat_lt most (value n)) ns → FirstAbove value most ns r
  first_is [] None e = refl
  first_is [] (Some i) e = let f : i < 0 = grind (arith, common_steps) in absurd (omega arith)
  first_is (n ∷ ns) None e =
      let p : X → Bool = λ m. ltb most (value m) in
      let past : length (n ∷ ns) ≤ position_or_len p (n ∷ ns) = grind (arith, common_steps) in
      none_all (n ∷ ns) (length (n ∷ ns)) (omega arith) (none_before (n ∷ ns) (length (n ∷ ns)) n (omega arith) (λ k l. fails_before_first p (n ∷ ns) k n (omega arith)))
  first_is (n ∷ ns) (Some i) e =
      let f = position-Some (λ m. nat_lt most (value m)) (n ∷ ns) i n (sym e) in
      let found = counted (n ∷ ns) i 1 n f.0 f.1 (none_before (n ∷ ns) i n (omega arith) f.2) in
      let swap : i + 1 ≡ 1 + i = omega arith in
      (found.0, swap ∙ found.1, f.0)

-- the seat of the first deposit over 20,000,000 dollars is the first number above that
pub seat_over_is : (k : ℕ) (deposits : List ℕ) → seat_over k deposits ≡ place_above (λ d. d) 20_000_000 k deposits
seat_over_is k [] = refl
seat_over_is k (d ∷ ds) = ap (λ n. cond (ltb 20_000_000 d) k n) (seat_over_is (k + 1) ds)
