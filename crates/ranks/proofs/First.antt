-- A scan for the first of a group behind a place: one turn of it, and that there is one answer.
use Rattle.std.proofs.Common.{◌≡◌, ℕ, ◌+◌, ◌<◌, ◌≤◌, Bool, true, false, List, [], ◌∷◌, length, get_or, Some, None, Option, refl, subst, ⊎_elim, arith, below_more}
use Rattle.std.proofs.lemmas.Bool.{cases_Bool, both_ways}
use Rattle.ranks.specs.Order.{Within, Stands, First, FirstBelow, FirstBehind}

-- the record at place k comes before the best so far; it does where there is none
abbrev pub leads_best : {R : Type 0} → (R → R → Bool) → R → List R → ℕ → Option ℕ → Bool
leads_best precedes d list k None = true
leads_best precedes d list k (Some p) = precedes (get_or list k d) (get_or list p d)

-- a place below n is below a larger number
pub within_more : (n m : ℕ) (best : Option ℕ) → n ≤ m → Within n best → Within m best
within_more n m None l h = tt
within_more n m (Some p) l h = omega arith

module _ {R : Type 0} (group : R → ℕ) (precedes : R → R → Bool) (d : R) (list : List R) (g : ℕ) (behind : Option ℕ) where
  -- a place that does not stand changes nothing
  pub first_passes : (n : ℕ) (best : Option ℕ) → FirstBelow group precedes d list g behind n best → (Stands group precedes d list g behind n → ⊥) → FirstBelow group precedes d list g behind (n + 1) best
  first_passes n None f not = below_more _ _ f not
  first_passes n (Some p) f not = record {
    below = omega (arith, f.below);
    stands = f.stands;
    leads = below_more _ _ f.leads (λ s. absurd (not s));
    lowest = below_more _ _ f.lowest (λ s. absurd (not s));
  }

  -- one that does not precede the best changes nothing
  pub first_keeps : (n : ℕ) (best : Option ℕ) → FirstBelow group precedes d list g behind n best → leads_best precedes d list n best ≡ false → FirstBelow group precedes d list g behind (n + 1) best
  first_keeps n None f e = absurd (both_ways true e refl)
  first_keeps n (Some p) f e = record {
    below = omega (arith, f.below);
    stands = f.stands;
    leads = below_more _ _ f.leads (λ _. e);
    lowest = below_more _ _ f.lowest (λ _ _. omega (arith, f.below));
  }

  -- one that stands and precedes the best is the new best
  pub first_takes : (alike : R → R → Type 0)
      → ((x : R) → precedes x x ≡ false)
      → ((x y z : R) → precedes x y ≡ true → precedes y z ≡ true → precedes x z ≡ true)
      → ((x y : R) → precedes x y ≡ false → precedes y x ≡ false → alike x y)
      → ((x y z : R) → alike x y → precedes x z ≡ true → precedes y z ≡ true)
      → (n : ℕ) (best : Option ℕ) → FirstBelow group precedes d list g behind n best → Stands group precedes d list g behind n → leads_best precedes d list n best ≡ true → First group precedes d list g behind (n + 1) n
  first_takes alike apart chains ties same n None f s e = record {
    below = omega arith;
    stands = s;
    leads = below_more _ _ (λ k h t. absurd (f k h t)) (λ _. apart _);
    lowest = below_more _ _ (λ k h t. absurd (f k h t)) (λ _ _. omega arith);
  }
  first_takes alike apart chains ties same n (Some p) f s e =
      let behind-new : (k : ℕ) → k < n → Stands group precedes d list g behind k → precedes (get_or list k d) (get_or list n d) ≡ false
      = λ k h t. ⊎_elim (λ y. absurd (both_ways _ (f.leads k h t) (chains _ _ _ y e))) (λ z. z) (cases_Bool (precedes (get_or list k d) (get_or list n d))) in
      record {
        below = omega arith;
        stands = s;
        leads = below_more _ _ behind-new (λ _. apart _);
        lowest = below_more _ _ (λ k h t u. absurd (both_ways _ (f.leads k h t) (same _ _ _ (ties _ _ u (behind-new k h t)) e))) (λ _ _. omega arith);
      }

  -- there is one first of the places below n
  pub first_below_one : (n : ℕ) (a b : Option ℕ) → FirstBelow group precedes d list g behind n a → FirstBelow group precedes d list g behind n b → a ≡ b
  first_below_one n None None f h = refl
  first_below_one n None (Some q) f h = absurd (f q h.below h.stands)
  first_below_one n (Some p) None f h = absurd (h p f.below f.stands)
  first_below_one n (Some p) (Some q) f h =
      let a : p ≤ q = f.lowest q h.below h.stands (h.leads p f.below f.stands) in
      let b : q ≤ p = h.lowest p f.below f.stands (f.leads q h.below h.stands) in
      let e : p ≡ q = omega arith in rw e

-- whatever stands for a record past the end: there is one first of the places below n of a list
pub first_one : {R : Type 0} (group : R → ℕ) (precedes : R → R → Bool) (list : List R) (g : ℕ) (behind : Option ℕ) (n : ℕ) (a b : Option ℕ) → n ≤ length list
    → Within n a → ((d : R) → FirstBelow group precedes d list g behind n a)
    → Within n b → ((d : R) → FirstBelow group precedes d list g behind n b) → a ≡ b
first_one group precedes [] g behind n None None l v f w h = refl
first_one group precedes [] g behind n None (Some q) l v f w h = absurd (omega arith)
first_one group precedes [] g behind n (Some p) b l v f w h = absurd (omega arith)
first_one group precedes (x ∷ xs) g behind n a b l v f w h = first_below_one group precedes x (x ∷ xs) g behind n a b (f x) (h x)

-- a list has one first of a group behind a place
pub first_behind_one : {R : Type 0} (group : R → ℕ) (precedes : R → R → Bool) (list : List R) (g : ℕ) (behind a b : Option ℕ)
    → FirstBehind group precedes list g behind a → FirstBehind group precedes list g behind b → a ≡ b
first_behind_one group precedes list g behind a b f h = first_one group precedes list g behind (length list) a b (omega arith) f.within f.first h.within h.first

-- nothing ranks behind a place past the end
pub none_past : {R : Type 0} (group : R → ℕ) (precedes : R → R → Bool) (list : List R) (g q : ℕ) → length list ≤ q → FirstBehind group precedes list g (Some q) None
none_past group precedes list g q past = record { within = tt; first = λ d k h s. absurd (omega (arith, s.2.0)) }

-- the first of all places passed is the first of the list
pub first_passed : {R : Type 0} (group : R → ℕ) (precedes : R → R → Bool) (list : List R) (g : ℕ) (behind best : Option ℕ) (n : ℕ) → n ≡ length list
    → Within n best → ((d : R) → FirstBelow group precedes d list g behind n best) → FirstBehind group precedes list g behind best
first_passed group precedes list g behind best n all w f = record { within = subst (λ (m : ℕ). Within m best) all w; first = λ d. subst (λ (m : ℕ). FirstBelow group precedes d list g behind m best) all (f d) }
