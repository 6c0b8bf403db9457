-- Lines one behind the other.
use Rattle.std.proofs.Common.{◌≡◌, ℕ, zero, suc, ◌-◌, ◌≤◌, List, [], ◌∷◌, ◌++◌, ◌∙◌, append_assoc, add-one, arith}
use Rattle.listings.specs.Texts.{up_to}

-- one line more
pub up_to_more : (line : ℕ → List ℕ) (n : ℕ) (text longer new s : List ℕ) → 1 ≤ n → text ≡ up_to line (n - 1) → longer ≡ text ++ s → s ≡ line n → new ≡ longer ++ (10 ∷ []) → new ≡ up_to line n
up_to_more line zero text longer new s h p r q t = absurd (omega arith)
up_to_more line (suc n) text longer new s h p r q t =
    let e : suc n - 1 ≡ n = omega arith in
    t ∙ rw (r, p, q, e, add-one n) (append_assoc (up_to line n) (line (suc n)) (10 ∷ []))
