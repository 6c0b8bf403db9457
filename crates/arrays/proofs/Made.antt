-- Arrays that are made by a closure which stays as it is.
use Rattle.std.proofs.Common.{◌≡◌, ℕ, zero, suc, ◌+◌, ◌<◌, List, map, length, get_or, refl, sym, ap, ◌∙◌, subst, arith}
use denote.Param.Members.{Mut, Called}
use Rattle.std.specs.List.{range_with_len}
use Rattle.std.specs.Array.{IsFromFnResultFrom, IsFromFnResult, IsMapOf}
use Rattle.std.proofs.lemmas.List.FromFn.{fill_by_all}
use Rattle.std.proofs.lemmas.Simd.{map-map}

-- what `from_fn` makes
module _ {F : Type 0} (g : Mut F (ℕ × Unit {0}) ℕ) (f : F) (h : ℕ → ℕ) (says : (i y : ℕ) (q : F) → Called g f (i, tt) y q → (q ≡ f) × (y ≡ h i)) where
  made_at : (ys : List ℕ) (n i k : ℕ) → IsFromFnResultFrom g f ys i n → k < n → get_or ys (i + k) 0 ≡ h (i + k)
  made_at ys zero i k m l = absurd (omega arith)
  made_at ys (suc n) i zero m l = let e : i + 0 ≡ i = omega arith in rw e (m.2.1 0 ∙ (says i m.1 m.0 m.3).1)
  made_at ys (suc n) i (suc k) m l =
      let e : i + suc k ≡ (i + 1) + k = omega arith in
      rw e (made_at ys n (i + 1) k (subst (λ q. IsFromFnResultFrom g q ys (i + 1) n) (says i m.1 m.0 m.3).0 m.4) (omega arith))

  pub made_is : (ys : List ℕ) (n : ℕ) → IsFromFnResult g f ys n → ys ≡ map h (range_with_len 0 n)
  made_is ys n m = fill_by_all h ys n 0 m.long (λ k l. let e : 0 + k ≡ k = omega arith in rw e at (made_at ys n 0 k m.each l))

-- what `map` makes
pub mapped_is : {F B : Type 0} (g : Mut F (ℕ × Unit {0}) B) (f : F) (h : ℕ → B) → ((p q : F) (x : ℕ) (y : B) → Called g p (x, tt) y q → y ≡ h x) → (xs : List ℕ) (ys : List B) (n : ℕ) → length xs ≡ n → IsMapOf g f xs ys n → ys ≡ map h xs
mapped_is g f h says xs ys n l m =
    fill_by_all (λ k. h (get_or xs k 0)) ys n (h 0) m.long (λ k j. let c = m.at k 0 (h 0) j in says c.0 c.1 _ _ c.2)
    ∙ sym (map-map _ _ _)
    ∙ ap (λ (zs : List ℕ). map h zs) (sym (fill_by_all (λ k. get_or xs k 0) xs n 0 l (λ k j. refl)))
