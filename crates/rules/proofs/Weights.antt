-- Weighted sums of a seat's shares, from call to call.
use Rattle.std.proofs.Common.{◌≡◌, ℕ, zero, suc, ◌+◌, ◌-◌, ◌*◌, ◌<◌, ◌≤◌, Bool, true, false, cond, eqb, List, [], ◌∷◌, ◌++◌, map, length, get_or, set, sym, refl, ap, ◌∙◌, inl, inr, mul-le-mul_right, mul_comm, add-mul, mul-add, arith}
use Rattle.std.proofs.lemmas.Bool.{eqb-true, ltb-false}
use Rattle.rules.specs.Lists.{In}
use Rattle.sheets.specs.Figures.{Figures, Lawful}
use Rattle.steps.specs.declared.record.StepRecord.{StepRecord}
use Rattle.steps.specs.Rule.{no_step}
use Rattle.rules.specs.Books.{standing_of, won, rejects, hands, settled, weighted, of_seat}
use Rattle.rules.specs.declared.account.Account.{Account}
use Rattle.rules.specs.Sales.{State, nobody, dollars, fixed, less, owed, lapses, carried, standing_weight}
use Rattle.rules.proofs.Totals.{total_le, total_push, total_set, total_map}

module _ (w : ℕ → ℕ) (k : ℕ) where
  times_le : (t : Bool) (m n c : ℕ) → m ≤ n → cond t (m * c) 0 ≤ cond t (n * c) 0
  times_le true m n c l = mul-le-mul_right c l
  times_le false m n c l = omega arith

  pub weighted_le : (f g : StepRecord → ℕ) (xs : List StepRecord) → ((x : StepRecord) → In x xs → f x ≤ g x) → weighted w k f xs ≤ weighted w k g xs
  weighted_le f g xs h = total_le _ _ xs (λ x i. times_le (eqb x.bid.seat k) (f x) (g x) (w x.bid.market) (h x i))

  pub weighted_won : (xs : List StepRecord) → weighted w k won xs ≤ weighted w k standing_of xs
  weighted_won xs = weighted_le won standing_of xs (λ x i. omega arith)

  pub weighted_closed : (lots : ℕ) (xs : List StepRecord) → weighted w k standing_of (settled lots (map rejects xs)) ≤ weighted w k standing_of xs
  weighted_closed lots xs =
      let F : StepRecord → ℕ = λ x. cond (eqb x.bid.seat k) (x.shares.standing * w x.bid.market) 0 in
      omega (arith, total_map F (hands lots (map rejects xs)) (map rejects xs), total_map F rejects xs, weighted_le (λ x. x.shares.standing - x.shares.losing) standing_of xs (λ x i. omega arith))

  moved : (t : Bool) (n s c : ℕ) → s ≤ n → cond t ((n - s) * c) 0 + cond t (s * c) 0 ≡ cond t (n * c) 0
  moved true n s c l = sym (add-mul (n - s) s c) ∙ ap (λ m. m * c) (omega arith)
  moved false n s c l = refl

  pub weighted_raised : (xs : List StepRecord) (p s : ℕ) (n : StepRecord) → p < length xs → s ≤ (get_or xs p no_step).shares.standing →
      n.bid.seat ≡ (get_or xs p no_step).bid.seat → n.bid.market ≡ (get_or xs p no_step).bid.market → n.shares.standing ≡ s →
      weighted w k standing_of (set xs p (less s (get_or xs p no_step)) ++ (n ∷ [])) ≡ weighted w k standing_of xs
  weighted_raised xs p s n within enough seats markets stands =
      let F : StepRecord → ℕ = λ x. cond (eqb x.bid.seat k) (x.shares.standing * w x.bid.market) 0 in
      let z = get_or xs p no_step in
      let new : F n ≡ cond (eqb z.bid.seat k) (s * w z.bid.market) 0 = rw (seats, markets, stands) in
      omega (arith, total_push F (set xs p (less s z)) n, total_set F xs p (less s z) no_step within, new, moved (eqb z.bid.seat k) z.shares.standing s (w z.bid.market) enough)

  -- where each step is of market 1
  pub one_market : (f : StepRecord → ℕ) (xs : List StepRecord) → ((x : StepRecord) → In x xs → x.bid.market ≡ 1) → weighted w k f xs ≡ w 1 * of_seat k f xs
  one_market f [] h = omega arith
  one_market f (x ∷ xs) h =
      omega (arith, one_market f xs (λ y i. h y (inr i)), here (eqb x.bid.seat k) (f x) x.bid.market (h x (inl refl)), mul-add (w 1) (cond (eqb x.bid.seat k) (f x) 0) (of_seat k f xs))
    where
      here : (t : Bool) (n m : ℕ) → m ≡ 1 → cond t (n * w m) 0 ≡ w 1 * cond t n 0
      here true n m e = ap (λ m. n * w m) e ∙ mul_comm n (w 1)
      here false n m e = omega arith

pub owed_most : (f : Figures) (round now : ℕ) → Lawful f → owed f round now ≤ now
owed_most f round now l = omega (arith, mul-le-mul_right now (l.parts round))

pub lapses_now : (s : State) (k : ℕ) (rest : List Account) (j n : ℕ) → n ≡ k + j →
    (get_or (lapses s k rest) j nobody).eligible ≡ (get_or rest j nobody).eligible - (owed s.figures s.round (get_or rest j nobody).eligible - standing_weight s n)
lapses_now s k [] j n e = omega arith
lapses_now s k (a ∷ rest) zero n e = ap (λ m. a.eligible - (owed s.figures s.round a.eligible - standing_weight s m)) (omega arith)
lapses_now s k (a ∷ rest) (suc j) n e = lapses_now s (suc k) rest j n (omega arith)

pub lapses_bought : (s : State) (k : ℕ) (rest : List Account) (j : ℕ) → (get_or (lapses s k rest) j nobody).bought ≡ (get_or rest j nobody).bought
lapses_bought s k [] j = refl
lapses_bought s k (a ∷ rest) zero = refl
lapses_bought s k (a ∷ rest) (suc j) = lapses_bought s (suc k) rest j

pub length_lapses : (s : State) (k : ℕ) (rest : List Account) → length (lapses s k rest) ≡ length rest
length_lapses s k [] = refl
length_lapses s k (a ∷ rest) = ap suc (length_lapses s (suc k) rest)

pub carried_bought : (first : State) (k : ℕ) (rest : List Account) (j n : ℕ) → n ≡ k + j →
    (get_or (carried first k rest) j nobody).bought ≡ (get_or rest j nobody).bought - first.figures.weight 1 * of_seat n won first.steps
carried_bought first k [] j n e = omega arith
carried_bought first k (a ∷ rest) zero n e = ap (λ m. a.bought - first.figures.weight 1 * of_seat m won first.steps) (omega arith)
carried_bought first k (a ∷ rest) (suc j) n e = carried_bought first (suc k) rest j n (omega arith)

pub carried_now : (first : State) (k : ℕ) (rest : List Account) (j : ℕ) → (get_or (carried first k rest) j nobody).eligible ≡ (get_or (carried first k rest) j nobody).bought
carried_now first k [] j = refl
carried_now first k (a ∷ rest) zero = refl
carried_now first k (a ∷ rest) (suc j) = carried_now first (suc k) rest j

pub length_carried : (first : State) (k : ℕ) (rest : List Account) → length (carried first k rest) ≡ length rest
length_carried first k [] = refl
length_carried first k (a ∷ rest) = ap suc (length_carried first (suc k) rest)

pub dollars_now : (ds : List ℕ) (j : ℕ) → (get_or (map dollars ds) j nobody).eligible ≡ (get_or (map dollars ds) j nobody).bought
dollars_now [] j = refl
dollars_now (d ∷ ds) zero = refl
dollars_now (d ∷ ds) (suc j) = dollars_now ds j

pub fixed_some : (n : ℕ) → 1 ≤ fixed n
fixed_some zero = omega arith
fixed_some (suc n) = grind (arith, Rattle.std.proofs.lemmas.Bool.Decides.nat_tests)
