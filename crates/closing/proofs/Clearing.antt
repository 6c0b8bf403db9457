-- The lowest discount among the steps that pass a test.
use Rattle.std.proofs.Common.{◌≡◌, ℕ, ◌-◌, ◌≤◌, min, Bool, true, false, cond, ◌&&◌, eqb, ltb, List, [], ◌∷◌, map, Some, None, Option, sym, refl, ap, ◌∙◌, inl, inr, arith}
use Rattle.steps.specs.declared.record.StepRecord.{StepRecord}
use Rattle.rules.specs.Lists.{In}
use Rattle.rules.specs.Books.{wins, hands, lower, least}

abbrev pub lowest : (StepRecord → Bool) → List StepRecord → Option ℕ
lowest test [] = None
lowest test (x ∷ xs) = cond (test x) (lower x.bid.discount (lowest test xs)) (lowest test xs)

pub lowest_same : (p q : StepRecord → Bool) (xs : List StepRecord) → ((x : StepRecord) → In x xs → p x ≡ q x) → lowest p xs ≡ lowest q xs
lowest_same p q [] h = refl
lowest_same p q (x ∷ xs) h = let e = h x (inl refl) in let r = lowest_same p q xs (λ y i. h y (inr i)) in cc

pub lowest_none : (p : StepRecord → Bool) (xs : List StepRecord) → ((x : StepRecord) → In x xs → p x ≡ false) → lowest p xs ≡ None
lowest_none p [] h = refl
lowest_none p (x ∷ xs) h = ap (λ t. cond t (lower x.bid.discount (lowest p xs)) (lowest p xs)) (h x (inl refl)) ∙ lowest_none p xs (λ y i. h y (inr i))

lower_some : (a b : ℕ) (o : Option ℕ) → b ≤ a → o ≡ Some b → lower a o ≡ Some b
lower_some a b o l e = ap (lower a) e ∙ ap (λ n. Some n) (omega arith)

lower_twice : (a b : ℕ) (o : Option ℕ) → b ≤ a → lower b o ≡ Some b → lower b (lower a o) ≡ Some b
lower_twice a b None l e = ap (λ n. Some n) (omega arith)
lower_twice a b (Some c) l e = let q : min b c ≡ b = (cc) in ap (λ n. Some n) (omega arith)

-- a discount that no passing step is below stays the lowest
lower_all : (p : StepRecord → Bool) (d : ℕ) (xs : List StepRecord) → ((x : StepRecord) → In x xs → p x ≡ true → d ≤ x.bid.discount) → lower d (lowest p xs) ≡ Some d
lower_all p d [] h = refl
lower_all p d (x ∷ xs) h = go (p x) refl (lower_all p d xs (λ y i. h y (inr i)))
  where
    go : (t : Bool) → p x ≡ t → lower d (lowest p xs) ≡ Some d → lower d (cond t (lower x.bid.discount (lowest p xs)) (lowest p xs)) ≡ Some d
    go true e r = lower_twice x.bid.discount d (lowest p xs) (h x (inl refl) e) r
    go false e r = r

-- the lowest is that of a passing step that no passing step is below
pub lowest_at : (p : StepRecord → Bool) (y : StepRecord) (xs : List StepRecord) → In y xs → p y ≡ true → ((x : StepRecord) → In x xs → p x ≡ true → y.bid.discount ≤ x.bid.discount) → lowest p xs ≡ Some y.bid.discount
lowest_at p y [] i t h = elim i [ ]
lowest_at p y (x ∷ xs) (inl e) t h =
    let here : p x ≡ true = sym (ap p e) ∙ t in
    let same : y.bid.discount ≡ x.bid.discount = ap (λ (z : StepRecord). z.bid.discount) e in
    ap (λ b. cond b (lower x.bid.discount (lowest p xs)) (lowest p xs)) here
    ∙ lower_all p x.bid.discount xs (λ z j q. omega (arith, h z (inr j) q))
    ∙ ap (λ n. Some n) (sym same)
lowest_at p y (x ∷ xs) (inr i) t h = go (p x) refl (lowest_at p y xs i t (λ z j. h z (inr j)))
  where
    go : (b : Bool) → p x ≡ b → lowest p xs ≡ Some y.bid.discount → cond b (lower x.bid.discount (lowest p xs)) (lowest p xs) ≡ Some y.bid.discount
    go true e r = lower_some x.bid.discount y.bid.discount (lowest p xs) (h x (inl refl) e) r
    go false e r = r

-- the clearing discount of a market is the lowest among its steps that won
pub clearing_lowest : (m lots : ℕ) (all xs : List StepRecord) → least m (map (hands lots all) xs) ≡ lowest (λ x. eqb x.bid.market m && ltb 0 (wins lots all x)) xs
clearing_lowest m lots all [] = refl
clearing_lowest m lots all (x ∷ xs) =
    let e : x.shares.standing - (x.shares.standing - wins lots all x) ≡ wins lots all x = omega arith in
    let r = clearing_lowest m lots all xs in
    ap (λ n. cond (eqb x.bid.market m && ltb 0 n) (lower x.bid.discount (least m (map (hands lots all) xs))) (least m (map (hands lots all) xs))) e
    ∙ ap (λ o. cond (eqb x.bid.market m && ltb 0 (wins lots all x)) (lower x.bid.discount o) o) r
