-- The rank is a strict order, total where numbers differ; and sums down the rank.
use Rattle.std.proofs.Common.{◌≡◌, ℕ, zero, suc, ◌+◌, ◌-◌, ◌<◌, ◌≤◌, min, Bool, true, false, cond, eqb, ◌⊎◌, List, [], ◌∷◌, ◌++◌, map, length, get_or, set, sym, refl, ap, ◌∙◌, subst, inl, inr, arith}
use Rattle.std.proofs.lemmas.Bool.{eqb-true, eqb-false, both_ways, cases_lt, ne_eqb}
use Rattle.std.proofs.lemmas.Bool.Decides.{nat_tests}
use Rattle.rules.specs.Lists.{total, In}
use Rattle.steps.specs.declared.record.Bid.{Bid}
use Rattle.steps.specs.Rank.{before}
use Rattle.rules.specs.Books.{ahead, front}
use Rattle.rules.proofs.Totals.{total_le, total_same, total_plus, total_none, some_or_none}

pub irreflexive : (a : Bid) → before a a ≡ false
irreflexive a = grind (arith, nat_tests)

pub transitive : (a b c : Bid) → before a b ≡ true → before b c ≡ true → before a c ≡ true
transitive a b c p q = grind (arith, nat_tests)

pub total_order : (a b : Bid) → (a.number ≡ b.number → ⊥) → before a b ≡ false → before b a ≡ true
total_order a b ne p = grind (arith, nat_tests)

pub discounts_fall : (a b : Bid) → before a b ≡ true → b.discount ≤ a.discount
discounts_fall a b p = grind (arith, nat_tests)

pub ahead_self : (a : Bid) → ahead a a ≡ false
unfolding ahead
ahead_self a = grind (arith, nat_tests)

ahead_trans : (a b c : Bid) → ahead a b ≡ true → ahead b c ≡ true → ahead a c ≡ true
unfolding ahead
ahead_trans a b c p q = grind (arith, nat_tests)

pub ahead_by_discount : (a b : Bid) → a.market ≡ b.market → b.discount < a.discount → ahead a b ≡ true
unfolding ahead
ahead_by_discount a b e h = grind (arith, nat_tests)

pub ahead_market : (a b : Bid) → ahead a b ≡ true → a.market ≡ b.market
unfolding ahead
ahead_market a b p = grind (arith, nat_tests)

ahead_or : (a b : Bid) → a.market ≡ b.market → (a.number ≡ b.number → ⊥) → before b a ≡ false → ahead a b ≡ true
unfolding ahead
ahead_or a b e ne p = grind (arith, nat_tests)

pub cond_mono : (p q : Bool) (m n : ℕ) → (p ≡ true → q ≡ true) → m ≤ n → cond p m 0 ≤ cond q n 0
cond_mono true true m n h l = l
cond_mono true false m n h l = absurd (both_ways false refl (h refl))
cond_mono false q m n h l = omega arith

cond_pos : (p : Bool) (m : ℕ) → 0 < cond p m 0 → (p ≡ true) × (0 < m)
cond_pos true m h = (refl, h)
cond_pos false m h = absurd (omega arith)

cond_gap : (p : Bool) (m n : ℕ) → m ≤ n → cond p (n - m) 0 ≡ 0 → cond p m 0 ≡ cond p n 0
cond_gap true m n l e = omega arith
cond_gap false m n l e = refl

module _ {X : Type 0} (bid : X → Bid) where
  pub front_le : (f g : X → ℕ) (xs : List X) (b : Bid) → ((x : X) → In x xs → f x ≤ g x) → front bid f xs b ≤ front bid g xs b
  front_le f g xs b h = total_le _ _ xs (λ x i. cond_mono (ahead (bid x) b) _ _ _ (λ p. p) (h x i))

  pub front_same : (f g : X → ℕ) (xs : List X) (b : Bid) → ((x : X) → In x xs → f x ≡ g x) → front bid f xs b ≡ front bid g xs b
  front_same f g xs b h = total_same _ _ xs (λ x i. ap (λ n. cond (ahead (bid x) b) n 0) (h x i))

  -- y is ahead of b: so is all that is ahead of y, and y
  pub front_step : (f : X → ℕ) (xs : List X) (y : X) (b : Bid) → In y xs → ahead (bid y) b ≡ true → front bid f xs (bid y) + f y ≤ front bid f xs b
  front_step f [] y b i p = elim i [ ]
  front_step f (x ∷ xs) y b (inl e) p =
      let same : cond (ahead (bid x) (bid y)) (f x) 0 ≡ 0 = subst (λ z. cond (ahead (bid z) (bid y)) (f z) 0 ≡ 0) e (ap (λ t. cond t (f y) 0) (ahead_self (bid y))) in
      let mine : cond (ahead (bid x) b) (f x) 0 ≡ f y = subst (λ z. cond (ahead (bid z) b) (f z) 0 ≡ f y) e (ap (λ t. cond t (f y) 0) p) in
      let others : front bid f xs (bid y) ≤ front bid f xs b = total_le _ _ xs (λ z i. cond_mono _ _ _ _ (λ q. ahead_trans (bid z) (bid y) b q p) (omega arith)) in
      omega arith
  front_step f (x ∷ xs) y b (inr i) p =
      let mine : cond (ahead (bid x) (bid y)) (f x) 0 ≤ cond (ahead (bid x) b) (f x) 0 = cond_mono _ _ _ _ (λ q. ahead_trans (bid x) (bid y) b q p) (omega arith) in
      omega (arith, front_step f xs y b i p)

  module _ (f g : X → ℕ) (lots : ℕ) (xs : List X) (small : (x : X) → In x xs → f x ≤ g x)
      (gap : (x : X) → In x xs → f x < g x → lots ≤ front bid g xs (bid x) + f x) where
    gap_in : (n : ℕ) (b : Bid) → front bid (λ _. 1) xs b < n → (front bid f xs b ≡ front bid g xs b) ⊎ (lots ≤ front bid f xs b)
    gap_in zero b h = absurd (omega arith)
    gap_in (suc n) b h = go (gap_in n) (some_or_none (λ z. cond (ahead (bid z) b) (g z - f z) 0) xs)
      where
        up : (y : X) → In y xs → ahead (bid y) b ≡ true → f y < g y → (front bid f xs (bid y) ≡ front bid g xs (bid y)) ⊎ (lots ≤ front bid f xs (bid y)) → (front bid f xs b ≡ front bid g xs b) ⊎ (lots ≤ front bid f xs b)
        up y i p l (inl e) = inr (omega (arith, gap y i l, front_step f xs y b i p))
        up y i p l (inr k) = inr (omega (arith, front_step f xs y b i p))

        go : ((b : Bid) → front bid (λ _. 1) xs b < n → (front bid f xs b ≡ front bid g xs b) ⊎ (lots ≤ front bid f xs b)) → (((z : X) → In z xs → cond (ahead (bid z) b) (g z - f z) 0 ≡ 0) ⊎ ((z : X) × In z xs × (0 < cond (ahead (bid z) b) (g z - f z) 0))) → (front bid f xs b ≡ front bid g xs b) ⊎ (lots ≤ front bid f xs b)
        go ih (inl none) = inl (total_same _ _ xs (λ z i. cond_gap (ahead (bid z) b) (f z) (g z) (small z i) (none z i)))
        go ih (inr w) =
            let y = w.0 in
            let p = cond_pos (ahead (bid y) b) (g y - f y) w.2 in
            up y w.1 p.0 (omega arith) (ih (bid y) (omega (arith, front_step (λ _. 1) xs y b w.1 p.0)))

    pub either : (b : Bid) → (front bid f xs b ≡ front bid g xs b) ⊎ (lots ≤ front bid f xs b)
    either b = gap_in (suc (front bid (λ _. 1) xs b)) b (omega arith)

    -- what x gets of f down the rank is what it gets of g
    pub same_share : (x : X) → In x xs → min (f x) (lots - front bid f xs (bid x)) ≡ min (g x) (lots - front bid g xs (bid x))
    same_share x i = go (either (bid x)) (cases_lt (f x) (g x))
      where
        go : (front bid f xs (bid x) ≡ front bid g xs (bid x)) ⊎ (lots ≤ front bid f xs (bid x)) → (f x < g x) ⊎ (g x ≤ f x) → min (f x) (lots - front bid f xs (bid x)) ≡ min (g x) (lots - front bid g xs (bid x))
        go (inl e) (inl l) = omega (arith, gap x i l)
        go (inl e) (inr l) = omega (arith, small x i)
        go (inr k) c = omega (arith, front_le f g xs (bid x) small)

    -- where x has less of f, the lots are gone by then
    pub gone_by : (x : X) → In x xs → f x < g x → lots ≤ front bid f xs (bid x) + f x
    gone_by x i l = go (either (bid x))
      where
        go : (front bid f xs (bid x) ≡ front bid g xs (bid x)) ⊎ (lots ≤ front bid f xs (bid x)) → lots ≤ front bid f xs (bid x) + f x
        go (inl e) = omega (arith, gap x i l)
        go (inr k) = omega arith

-- Numbers by place: the first of xs has the number k.
abbrev pub Numbered : {X : Type 0} → (X → Bid) → ℕ → List X → Type 0
Numbered bid k [] = Unit {0}
Numbered bid k (x ∷ xs) = ((bid x).number ≡ k) × Numbered bid (suc k) xs

module _ {X : Type 0} (bid : X → Bid) where
  pub numbers_from : (k : ℕ) (xs : List X) (x : X) → Numbered bid k xs → In x xs → k ≤ (bid x).number
  numbers_from k [] x h i = elim i [ ]
  numbers_from k (y ∷ xs) x h (inl e) = omega (arith, ap (λ z. (bid z).number) e, h.0)
  numbers_from k (y ∷ xs) x h (inr i) = omega (arith, numbers_from (suc k) xs x h.1 i)

  pub unique : (k : ℕ) (xs : List X) (x y : X) → Numbered bid k xs → In x xs → In y xs → (bid x).number ≡ (bid y).number → x ≡ y
  unique k [] x y h i j e = elim i [ ]
  unique k (z ∷ xs) x y h (inl p) (inl q) e = p ∙ sym q
  unique k (z ∷ xs) x y h (inl p) (inr j) e = absurd (omega (arith, ap (λ z. (bid z).number) p, h.0, numbers_from (suc k) xs y h.1 j))
  unique k (z ∷ xs) x y h (inr i) (inl q) e = absurd (omega (arith, ap (λ z. (bid z).number) q, h.0, numbers_from (suc k) xs x h.1 i))
  unique k (z ∷ xs) x y h (inr i) (inr j) e = unique (suc k) xs x y h.1 i j e

  never : (n m k : ℕ) (xs : List X) → Numbered bid k xs → n < k → total (λ x. cond (eqb (bid x).number n) m 0) xs ≡ 0
  never n m k [] h l = refl
  never n m k (x ∷ xs) h l =
      let no : eqb (bid x).number n ≡ false = ne_eqb _ _ (λ e. omega (arith, h.0)) in
      omega (arith, ap (λ t. cond t m 0) no, never n m (suc k) xs h.1 (omega arith))

  once : (n m k : ℕ) (xs : List X) → Numbered bid k xs → total (λ x. cond (eqb (bid x).number n) m 0) xs ≤ m
  once n m k [] h = omega arith
  once n m k (x ∷ xs) h = go (eqb (bid x).number n) refl (once n m (suc k) xs h.1)
    where
      go : (t : Bool) → eqb (bid x).number n ≡ t → total (λ x. cond (eqb (bid x).number n) m 0) xs ≤ m → cond (eqb (bid x).number n) m 0 + total (λ x. cond (eqb (bid x).number n) m 0) xs ≤ m
      go true e r = omega (arith, ap (λ t. cond t m 0) e, never n m (suc k) xs h.1 (omega (arith, eqb-true _ _ e, h.0)))
      go false e r = omega (arith, ap (λ t. cond t m 0) e)

  -- the last in rank of those with g, if any
  abbrev Last : (X → ℕ) → List X → Type 0
  Last g xs = (z : X) × In z xs × (0 < g z) × ((y : X) → In y xs → 0 < g y → before (bid z) (bid y) ≡ false)

  abbrev NoneOf : (X → ℕ) → List X → Type 0
  NoneOf g xs = (x : X) → In x xs → g x ≡ 0

  none_more : (g : X → ℕ) (x : X) (xs : List X) → g x ≡ 0 → NoneOf g xs → NoneOf g (x ∷ xs)
  none_more g x xs e h y (inl p) = ap g p ∙ e
  none_more g x xs e h y (inr i) = h y i

  -- z is last in x ∷ xs if it is so at x and in xs
  last_more : (g : X → ℕ) (x : X) (xs : List X) (z : X) → before (bid z) (bid x) ≡ false → ((y : X) → In y xs → 0 < g y → before (bid z) (bid y) ≡ false) →
      (y : X) → In y (x ∷ xs) → 0 < g y → before (bid z) (bid y) ≡ false
  last_more g x xs z p h y (inl e) l = ap (λ y. before (bid z) (bid y)) e ∙ p
  last_more g x xs z p h y (inr i) l = h y i l

  later : (z x y : X) → before (bid z) (bid x) ≡ true → before (bid z) (bid y) ≡ false → before (bid x) (bid y) ≡ false
  later z x y p q = go (before (bid x) (bid y)) refl
    where
      go : (t : Bool) → before (bid x) (bid y) ≡ t → before (bid x) (bid y) ≡ false
      go true e = absurd (both_ways (before (bid z) (bid y)) q (transitive (bid z) (bid x) (bid y) p e))
      go false e = e

  last_of : (g : X → ℕ) (xs : List X) → NoneOf g xs ⊎ Last g xs
  last_of g [] = inl (λ x i. elim i [ ])
  last_of g (x ∷ xs) = go (last_of g xs) (g x) refl
    where
      at_x : (w : Last g xs) → 0 < g x → (t : Bool) → before (bid w.0) (bid x) ≡ t → Last g (x ∷ xs)
      at_x w l true e = (x, inl refl, l, last_more g x xs x (irreflexive (bid x)) (λ y i k. later w.0 x y e (w.3 y i k)))
      at_x w l false e = (w.0, inr w.1, w.2, last_more g x xs w.0 e w.3)

      skip : (w : Last g xs) → g x ≡ 0 → (y : X) → In y (x ∷ xs) → 0 < g y → before (bid w.0) (bid y) ≡ false
      skip w e y (inl p) l = absurd (omega (arith, ap g p))
      skip w e y (inr i) l = w.3 y i l

      go : NoneOf g xs ⊎ Last g xs → (n : ℕ) → g x ≡ n → NoneOf g (x ∷ xs) ⊎ Last g (x ∷ xs)
      go (inl h) zero e = inl (none_more g x xs e h)
      go (inl h) (suc n) e = inr (x, inl refl, omega arith, last_more g x xs x (irreflexive (bid x)) (λ y i l. absurd (omega (arith, h y i))))
      go (inr w) zero e = inr (w.0, inr w.1, w.2, skip w e)
      go (inr w) (suc n) e = inr (at_x w (omega arith) (before (bid w.0) (bid x)) refl)

  -- what is handed out in a market is at most the lots
  module _ (f : X → ℕ) (lots m : ℕ) (xs : List X) (numbered : Numbered bid 1 xs) where
    abbrev handed : X → ℕ
    handed x = cond (eqb (bid x).market m) (min (f x) (lots - front bid f xs (bid x))) 0

    bounded : (z : X) → In z xs → 0 < handed z → ((y : X) → In y xs → 0 < handed y → before (bid z) (bid y) ≡ false) →
        (y : X) → In y xs → handed y ≤ cond (ahead (bid y) (bid z)) (f y) 0 + cond (eqb (bid y).number (bid z).number) (handed z) 0
    bounded z j l h y i = go (handed y) refl (eqb (bid y).number (bid z).number) refl
      where
        go : (n : ℕ) → handed y ≡ n → (t : Bool) → eqb (bid y).number (bid z).number ≡ t → handed y ≤ cond (ahead (bid y) (bid z)) (f y) 0 + cond (eqb (bid y).number (bid z).number) (handed z) 0
        go zero e t q = omega arith
        go (suc n) e true q =
            let same : handed y ≡ handed z = ap handed (unique 1 xs y z numbered i j (eqb-true (bid y).number (bid z).number q)) in
            omega (arith, ap (λ t. cond t (handed z) 0) q)
        go (suc n) e false q =
            let here = cond_pos (eqb (bid y).market m) (min (f y) (lots - front bid f xs (bid y))) (omega arith) in
            let there = cond_pos (eqb (bid z).market m) (min (f z) (lots - front bid f xs (bid z))) l in
            let p = ahead_or (bid y) (bid z) (eqb-true (bid y).market m here.0 ∙ sym (eqb-true (bid z).market m there.0)) (eqb-false (bid y).number (bid z).number q) (h y i (omega arith)) in
            omega (arith, ap (λ t. cond t (f y) 0) p, ap (λ t. cond t (min (f y) (lots - front bid f xs (bid y))) 0) here.0)

    pub handed_most : total handed xs ≤ lots
    handed_most = go (last_of handed xs)
      where
        go : NoneOf handed xs ⊎ Last handed xs → total handed xs ≤ lots
        go (inl h) = omega (arith, total_none handed xs h)
        go (inr w) =
            let z = w.0 in
            let all : total handed xs ≤ total (λ y. cond (ahead (bid y) (bid z)) (f y) 0 + cond (eqb (bid y).number (bid z).number) (handed z) 0) xs = total_le _ _ xs (bounded z w.1 w.2 w.3) in
            let here = cond_pos (eqb (bid z).market m) (min (f z) (lots - front bid f xs (bid z))) w.2 in
            omega (
              arith,
              all,
              total_plus (λ y. cond (ahead (bid y) (bid z)) (f y) 0) (λ y. cond (eqb (bid y).number (bid z).number) (handed z) 0) xs,
              once (bid z).number (handed z) 1 xs numbered,
              ap (λ t. cond t (min (f z) (lots - front bid f xs (bid z))) 0) here.0,
              w.2,
            )

pub numbered_map : {X Y : Type 0} (bid : X → Bid) (bid' : Y → Bid) (g : X → Y) → ((x : X) → (bid' (g x)).number ≡ (bid x).number) → (k : ℕ) (xs : List X) → Numbered bid k xs → Numbered bid' k (map g xs)
numbered_map bid bid' g e k [] h = tt
numbered_map bid bid' g e k (x ∷ xs) h = (e x ∙ h.0, numbered_map bid bid' g e (suc k) xs h.1)

module _ {X : Type 0} (bid : X → Bid) where
  pub numbered_push : (k : ℕ) (xs : List X) (y : X) → (bid y).number ≡ k + length xs → Numbered bid k xs → Numbered bid k (xs ++ (y ∷ []))
  numbered_push k [] y e h = (omega arith, tt)
  numbered_push k (x ∷ xs) y e h = (h.0, numbered_push (suc k) xs y (omega arith) h.1)

  pub numbered_set : (k : ℕ) (xs : List X) (i : ℕ) (y d : X) → (bid y).number ≡ (bid (get_or xs i d)).number → Numbered bid k xs → Numbered bid k (set xs i y)
  numbered_set k [] i y d e h = tt
  numbered_set k (x ∷ xs) zero y d e h = (e ∙ h.0, h.1)
  numbered_set k (x ∷ xs) (suc i) y d e h = (h.0, numbered_set (suc k) xs i y d e h.1)
