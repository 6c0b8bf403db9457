-- A row of increments and what fills it up to seven, place by place.
use Rattle.std.proofs.Common.{◌≡◌, ℕ, zero, suc, ◌+◌, ◌-◌, ◌≤◌, List, [], ◌∷◌, ◌++◌, map, length, get_or, replicate, refl, sym, ap, ◌∙◌, cond, nat_lt, false, true, arith}
use Rattle.std.proofs.lemmas.Grind.{common_steps}
use Rattle.std.proofs.lemmas.Bool.{cond-false, cond-true}
use Rattle.std.specs.List.{range_with_len}
use Rattle.std.proofs.lemmas.List.{length-replicate}
use Rattle.std.proofs.lemmas.List.FromFn.{fill_by_all}
use Rattle.rules.specs.Sales.{fixed, padded}

-- the increment at a place: the row's, or 0 where it has none
abbrev pub pad_at : List ℕ → ℕ → ℕ
pad_at row i = cond (nat_lt i (length row)) (fixed (get_or row i 0)) 0

zeros : (n k : ℕ) → ◌≡◌ {A = ℕ} (get_or (replicate {A = ℕ} n 0) k 0) 0
zeros zero k = refl
zeros (suc n) zero = refl
zeros (suc n) (suc k) = zeros n k

at_padded : (row : List ℕ) (n k : ℕ) → get_or (map fixed row ++ replicate n 0) k 0 ≡ pad_at row k
at_padded [] n k = let e : nat_lt k 0 ≡ false = grind (arith, common_steps) in zeros n k ∙ sym (cond-false (nat_lt k 0) 50 0 e)
at_padded (x ∷ row) n zero = let e : nat_lt 0 (length (x ∷ row)) ≡ true = grind (arith, common_steps) in sym (cond-true _ (fixed x) 0 e)
at_padded (x ∷ row) n (suc k) = let e : nat_lt k (length row) ≡ nat_lt (suc k) (length (x ∷ row)) = grind (arith, common_steps) in at_padded row n k ∙ ap (λ b. cond b (fixed (get_or row k 0)) 0) e

long : (row : List ℕ) (n : ℕ) → length (map fixed row ++ replicate n 0) ≡ length row + n
long [] n = let e : length (replicate {A = ℕ} n 0) ≡ n = length-replicate n 0 in omega arith
long (x ∷ row) n = let e = long row n in omega arith

pub padded_is : (row : List ℕ) → length row ≤ 7 → map (pad_at row) (range_with_len 0 7) ≡ padded row
padded_is row few = sym (fill_by_all (pad_at row) (padded row) 7 0 (let e = long row (7 - length row) in omega arith) (λ k l. at_padded row (7 - length row) k))
