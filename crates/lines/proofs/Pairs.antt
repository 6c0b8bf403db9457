-- A row and its increments, two bytes for each.
use Rattle.std.proofs.Common.{◌≡◌, ℕ, zero, suc, ◌+◌, ◌*◌, ◌<◌, List, [], ◌∷◌, map, length, get_or, sym, ap, arith}
use Rattle.std.specs.List.{range_with_len}
use Rattle.std.proofs.lemmas.List.FromFn.{fill_by_all}
use Rattle.lines.specs.Row.{increments}

-- an increment is read from its two bytes
abbrev pub pair_at : List ℕ → ℕ → ℕ
pair_at row k = get_or row (2 * k) 0 * 256 + get_or row (2 * k + 1) 0

increment_at : (row : List ℕ) (k : ℕ) → 2 * k + 1 < length row → get_or (increments row) k 0 ≡ pair_at row k
increment_at [] k h = absurd (omega arith)
increment_at (a ∷ []) k h = absurd (omega arith)
increment_at (a ∷ b ∷ bs) zero h = omega arith
increment_at (a ∷ b ∷ bs) (suc k) h =
    let e : 2 * suc k ≡ suc (suc (2 * k)) = omega arith in
    let d : suc (suc (2 * k)) + 1 ≡ suc (suc (2 * k + 1)) = omega arith in
    rw (e, d) (increment_at bs k (omega arith))

pub length_increments : (n : ℕ) (row : List ℕ) → length row ≡ 2 * n → length (increments row) ≡ n
length_increments n [] e = omega arith
length_increments n (a ∷ []) e = absurd (omega arith)
length_increments zero (a ∷ b ∷ bs) e = absurd (omega arith)
length_increments (suc n) (a ∷ b ∷ bs) e = ap suc (length_increments n bs (omega arith))

pub increments_are : (n : ℕ) (row : List ℕ) → length row ≡ 2 * n → map (pair_at row) (range_with_len 0 n) ≡ increments row
increments_are n row e = sym (fill_by_all (pair_at row) (increments row) n 0 (length_increments n row e) (λ k h. increment_at row k (omega arith)))
