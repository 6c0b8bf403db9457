-- Handing lots out down a ranked list gives each what the lots reach behind all that rank ahead of it.
use Rattle.std.proofs.Common.{◌≡◌, ℕ, suc, ◌+◌, ◌-◌, min, Bool, true, false, cond, eqb, ◌⊎◌, List, [], ◌∷◌, sym, refl, ap, ◌∙◌, inl, inr, arith}
use Rattle.std.proofs.lemmas.Bool.{eqb-true, eqb-false, eq-eqb, ne_eqb}
use Rattle.std.proofs.lemmas.Bool.Decides.{nat_tests}
use Rattle.steps.specs.declared.record.Bid.{Bid}
use Rattle.steps.specs.Rank.{before}
use Rattle.rules.specs.Lists.{total, In}
use Rattle.rules.specs.Books.{ahead, front}
use Rattle.rules.specs.DownRank.{ranked_in, in_rank, handed_down}
use Rattle.rules.proofs.Totals.{total_none}
use Rattle.rules.proofs.Ranks.{Numbered, numbers_from, transitive, total_order, ahead_self}

asymmetric : (a b : Bid) → before a b ≡ true → ahead b a ≡ false
unfolding ahead
asymmetric a b p = grind (arith, nat_tests)

ahead_before : (a b : Bid) → a.market ≡ b.market → before a b ≡ true → ahead a b ≡ true
unfolding ahead
ahead_before a b e p = grind (arith, nat_tests)

other_market : (a b : Bid) (m : ℕ) → b.market ≡ m → eqb a.market m ≡ false → ahead a b ≡ false
unfolding ahead
other_market a b m e p = grind (arith, nat_tests)

module _ {X : Type 0} (bid : X → Bid) where
  total_ranked_in : (f : X → ℕ) (x : X) (ys : List X) → total f (ranked_in bid x ys) ≡ f x + total f ys
  total_ranked_in f x [] = refl
  total_ranked_in f x (y ∷ ys) = go (before (bid x) (bid y)) (total_ranked_in f x ys)
    where
      go : (t : Bool) → total f (ranked_in bid x ys) ≡ f x + total f ys → total f (cond t (x ∷ y ∷ ys) (y ∷ ranked_in bid x ys)) ≡ f x + total f (y ∷ ys)
      go true r = refl
      go false r = omega arith

  -- those of another market have nothing ahead of b
  front_in_rank : (f : X → ℕ) (m : ℕ) (xs : List X) (b : Bid) → b.market ≡ m → front bid f (in_rank bid m xs) b ≡ front bid f xs b
  front_in_rank f m [] b e = refl
  front_in_rank f m (x ∷ xs) b e = go (eqb (bid x).market m) refl (front_in_rank f m xs b e)
    where
      F : X → ℕ
      F y = cond (ahead (bid y) b) (f y) 0

      go : (t : Bool) → eqb (bid x).market m ≡ t → front bid f (in_rank bid m xs) b ≡ front bid f xs b →
          front bid f (cond t (ranked_in bid x (in_rank bid m xs)) (in_rank bid m xs)) b ≡ front bid f (x ∷ xs) b
      go true p r = omega (arith, total_ranked_in F x (in_rank bid m xs))
      go false p r = omega (arith, ap (λ t. cond t (f x) 0) (other_market (bid x) b m e p))

  in_ranked_in : (x z : X) (ys : List X) → In z (ranked_in bid x ys) → (z ≡ x) ⊎ In z ys
  in_ranked_in x z [] (inl p) = inl p
  in_ranked_in x z [] (inr i) = inr i
  in_ranked_in x z (y ∷ ys) i = go (before (bid x) (bid y)) i (in_ranked_in x z ys)
    where
      later : (z ≡ x) ⊎ In z ys → (z ≡ x) ⊎ In z (y ∷ ys)
      later (inl p) = inl p
      later (inr j) = inr (inr j)

      go : (t : Bool) → In z (cond t (x ∷ y ∷ ys) (y ∷ ranked_in bid x ys)) → (In z (ranked_in bid x ys) → (z ≡ x) ⊎ In z ys) → (z ≡ x) ⊎ In z (y ∷ ys)
      go true (inl p) r = inl p
      go true (inr j) r = inr j
      go false (inl p) r = inr (inl p)
      go false (inr j) r = later (r j)

  ranked_in_in : (x z : X) (ys : List X) → (z ≡ x) ⊎ In z ys → In z (ranked_in bid x ys)
  ranked_in_in x z [] (inl p) = inl p
  ranked_in_in x z [] (inr i) = elim i [ ]
  ranked_in_in x z (y ∷ ys) w = go (before (bid x) (bid y)) w (ranked_in_in x z ys)
    where
      go : (t : Bool) → (z ≡ x) ⊎ In z (y ∷ ys) → ((z ≡ x) ⊎ In z ys → In z (ranked_in bid x ys)) → In z (cond t (x ∷ y ∷ ys) (y ∷ ranked_in bid x ys))
      go true (inl p) r = inl p
      go true (inr j) r = inr j
      go false (inl p) r = inr (r (inl p))
      go false (inr (inl p)) r = inl p
      go false (inr (inr j)) r = inr (r (inr j))

  -- the ranked list has those of the market
  pub from_rank : (m : ℕ) (z : X) (xs : List X) → In z (in_rank bid m xs) → In z xs × ((bid z).market ≡ m)
  from_rank m z [] i = elim i [ ]
  from_rank m z (x ∷ xs) i = go (eqb (bid x).market m) refl i (from_rank m z xs)
    where
      here : eqb (bid x).market m ≡ true → (z ≡ x) ⊎ In z (in_rank bid m xs) → (In z (in_rank bid m xs) → In z xs × ((bid z).market ≡ m)) → In z (x ∷ xs) × ((bid z).market ≡ m)
      here p (inl e) r = (inl e, ap (λ y. (bid y).market) e ∙ eqb-true (bid x).market m p)
      here p (inr j) r = let q = r j in (inr q.0, q.1)

      go : (t : Bool) → eqb (bid x).market m ≡ t → In z (cond t (ranked_in bid x (in_rank bid m xs)) (in_rank bid m xs)) → (In z (in_rank bid m xs) → In z xs × ((bid z).market ≡ m)) → In z (x ∷ xs) × ((bid z).market ≡ m)
      go true p j r = here p (in_ranked_in x z (in_rank bid m xs) j) r
      go false p j r = let q = r j in (inr q.0, q.1)

  pub into_rank : (m : ℕ) (z : X) (xs : List X) → (bid z).market ≡ m → In z xs → In z (in_rank bid m xs)
  into_rank m z [] e i = elim i [ ]
  into_rank m z (x ∷ xs) e i = go (eqb (bid x).market m) refl i (into_rank m z xs e)
    where
      go : (t : Bool) → eqb (bid x).market m ≡ t → In z (x ∷ xs) → (In z xs → In z (in_rank bid m xs)) → In z (cond t (ranked_in bid x (in_rank bid m xs)) (in_rank bid m xs))
      go true p (inl q) r = ranked_in_in x z (in_rank bid m xs) (inl q)
      go true p (inr j) r = ranked_in_in x z (in_rank bid m xs) (inr (r j))
      go false p (inl q) r = absurd (eqb-false (bid x).market m p (sym (ap (λ y. (bid y).market) q) ∙ e))
      go false p (inr j) r = r j

  -- each ranks before all behind it, and has a number of its own
  abbrev pub Leads : X → List X → Type 0
  Leads x ys = (y : X) → In y ys → (before (bid x) (bid y) ≡ true) × ((bid x).number ≡ (bid y).number → ⊥)

  abbrev pub Sorted : List X → Type 0
  Sorted [] = Unit {0}
  Sorted (x ∷ xs) = Leads x xs × Sorted xs

  abbrev Apart : X → List X → Type 0
  Apart x ys = (y : X) → In y ys → (bid x).number ≡ (bid y).number → ⊥

  sorted_in : (x : X) (ys : List X) → Apart x ys → Sorted ys → Sorted (ranked_in bid x ys)
  sorted_in x [] a s = (λ y i. elim i [ ], tt)
  sorted_in x (y ∷ ys) a s = go (before (bid x) (bid y)) refl (sorted_in x ys (λ z i. a z (inr i)) s.1)
    where
      first : before (bid x) (bid y) ≡ true → Leads x (y ∷ ys)
      first p z (inl e) = (ap (λ w. before (bid x) (bid w)) e ∙ p, a z (inl e))
      first p z (inr i) = (transitive (bid x) (bid y) (bid z) p (s.0 z i).0, a z (inr i))

      behind : before (bid x) (bid y) ≡ false → (z : X) → (z ≡ x) ⊎ In z ys → (before (bid y) (bid z) ≡ true) × ((bid y).number ≡ (bid z).number → ⊥)
      behind p z (inl e) =
          (ap (λ w. before (bid y) (bid w)) e ∙ total_order (bid x) (bid y) (a y (inl refl)) p, λ q. a y (inl refl) (sym (ap (λ w. (bid w).number) e) ∙ sym q))
      behind p z (inr i) = s.0 z i

      go : (t : Bool) → before (bid x) (bid y) ≡ t → Sorted (ranked_in bid x ys) → Sorted (cond t (x ∷ y ∷ ys) (y ∷ ranked_in bid x ys))
      go true p r = (first p, s)
      go false p r = (λ z i. behind p z (in_ranked_in x z ys i), r)

  pub in_rank_sorted : (m k : ℕ) (xs : List X) → Numbered bid k xs → Sorted (in_rank bid m xs)
  in_rank_sorted m k [] n = tt
  in_rank_sorted m k (x ∷ xs) n = go (eqb (bid x).market m) (in_rank_sorted m (suc k) xs n.1)
    where
      apart : Apart x (in_rank bid m xs)
      apart y i e = omega (arith, numbers_from bid (suc k) xs y n.1 (from_rank m y xs i).0, n.0)

      go : (t : Bool) → Sorted (in_rank bid m xs) → Sorted (cond t (ranked_in bid x (in_rank bid m xs)) (in_rank bid m xs))
      go true s = sorted_in x (in_rank bid m xs) apart s
      go false s = s

  -- down a sorted list of one market
  down_sorted : (f : X → ℕ) (m lots : ℕ) (ys : List X) (z : X) → Sorted ys → ((y : X) → In y ys → (bid y).market ≡ m) → In z ys →
      handed_down bid f lots ys (bid z).number ≡ min (f z) (lots - front bid f ys (bid z))
  down_sorted f m lots [] z s one i = elim i [ ]
  down_sorted f m lots (y ∷ ys) z s one (inl e) =
      let mine : eqb (bid y).number (bid z).number ≡ true = eq-eqb _ _ (sym (ap (λ w. (bid w).number) e)) in
      let none : front bid f ys (bid z) ≡ 0 = total_none _ ys (λ w i. ap (λ t. cond t (f w) 0) (ap (λ v. ahead (bid w) (bid v)) e ∙ asymmetric (bid y) (bid w) (s.0 w i).0)) in
      let self : ahead (bid y) (bid z) ≡ false = ap (λ v. ahead (bid y) (bid v)) e ∙ ahead_self (bid y) in
      let first = ap (λ t. cond t (min (f y) lots) (handed_down bid f (lots - f y) ys (bid z).number)) mine in
      omega (arith, first, ap f e, ap (λ t. cond t (f y) 0) self)
  down_sorted f m lots (y ∷ ys) z s one (inr i) =
      let other : eqb (bid y).number (bid z).number ≡ false = ne_eqb _ _ (s.0 z i).1 in
      let before-z : ahead (bid y) (bid z) ≡ true = ahead_before (bid y) (bid z) (one y (inl refl) ∙ sym (one z (inr i))) (s.0 z i).0 in
      let rest = ap (λ t. cond t (min (f y) lots) (handed_down bid f (lots - f y) ys (bid z).number)) other in
      omega (arith, rest, down_sorted f m (lots - f y) ys z s.1 (λ w j. one w (inr j)) i, ap (λ t. cond t (f y) 0) before-z)

  -- what one gets down the rank of its market, as a sum
  pub down_the_rank : (f : X → ℕ) (lots : ℕ) (xs : List X) (z : X) → Numbered bid 1 xs → In z xs →
      handed_down bid f lots (in_rank bid (bid z).market xs) (bid z).number ≡ min (f z) (lots - front bid f xs (bid z))
  down_the_rank f lots xs z n i =
      let m = (bid z).market in
      let r = in_rank bid m xs in
      omega (
        arith,
        down_sorted f m lots r z (in_rank_sorted m 1 xs n) (λ y j. (from_rank m y xs j).1) (into_rank m z xs refl i),
        front_in_rank f m xs (bid z) refl,
      )
