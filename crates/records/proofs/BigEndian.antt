-- A number is read back from its own bytes, at any width.
use Rattle.std.proofs.Common.{◌≡◌, ℕ, zero, suc, ◌+◌, ◌/◌, ◌%◌, ◌^◌, ◌<◌, ◌≤◌, List, ◌∷◌, length, take, sym, refl, ap, ◌∙◌, mod-eq_of_lt, add-one, arith}
use native.Mathlib.Nat.{pow-succ', mod-one}
use lib.Arith.{mod-mul}
use Rattle.std.proofs.lemmas.List.{get_or-take}
use Rattle.records.specs.Bytes.{be, bytes_of}

power_positive : (k : ℕ) → 0 < 256 ^ k
power_positive zero = omega arith
power_positive (suc k) = let p = power_positive k in rw (pow-succ' 256 k) (omega arith)

-- one byte more in front
be_behind : (k x : ℕ) (bs : List ℕ) (at : ℕ) → be k (x ∷ bs) (suc at) ≡ be k bs at
be_behind zero x bs at = refl
be_behind (suc k) x bs at = rw (add-one (suc at), add-one at, be_behind k x bs (suc at))

be_bytes_of : (k n : ℕ) → be k (bytes_of k n) 0 ≡ n % 256 ^ k
be_bytes_of zero n = sym (mod-one n)
be_bytes_of (suc k) n =
    rw (be_behind k (n / 256 ^ k % 256) (bytes_of k n) 0, be_bytes_of k n, pow-succ' 256 k) (sym (mod-mul n {m = 256} {c = 256 ^ k} (omega arith) (power_positive k)))

pub number_back : (k n : ℕ) → n < 256 ^ k → be k (bytes_of k n) 0 ≡ n
number_back k n h = be_bytes_of k n ∙ mod-eq_of_lt h

pub length_bytes_of : (k n : ℕ) → length (bytes_of k n) ≡ k
length_bytes_of zero n = refl
length_bytes_of (suc k) n = ap suc (length_bytes_of k n)

-- a number is read from its own bytes alone
pub be_take : (k : ℕ) (bs : List ℕ) (i n : ℕ) → i + k ≤ n → be k (take n bs) i ≡ be k bs i
be_take zero bs i n h = refl
be_take (suc k) bs i n h = rw (get_or-take n bs i 0 (omega arith), be_take k bs (i + 1) n (omega arith))
