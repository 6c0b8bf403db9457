-- Accounts that are cut one after the other.
use Rattle.std.proofs.Common.{◌≡◌, ℕ, zero, suc, ◌+◌, ◌-◌, ◌<◌, ◌≤◌, false, List, [], ◌∷◌, length, get_or, set, refl, sym, ap, ◌∙◌, arith}
use Rattle.std.proofs.lemmas.Bool.{cond-false}
use Rattle.std.proofs.lemmas.Bool.Decides.{nat_tests}
use Rattle.sheets.specs.Figures.{Figures}
use Rattle.steps.specs.declared.record.StepRecord.{StepRecord}
use Rattle.rules.specs.declared.account.Account.{Account}
use Rattle.rules.specs.Lists.{each_with}
use Rattle.rules.specs.Sales.{nobody, outside, owed}
use Rattle.rules.specs.Books.{weighted, standing_of}
use Rattle.rules.specs.Parts.{closed_account}
use Rattle.accounts.specs.Accounts.{cut_by, with_cut}

-- f of each of the first i, with its number from k on, and the others as they are
abbrev pub first_with : {X : Type 0} → (ℕ → X → X) → ℕ → ℕ → List X → List X
first_with f k zero xs = xs
first_with f k (suc i) [] = []
first_with f k (suc i) (x ∷ xs) = f k x ∷ first_with f (suc k) i xs

module _ {X : Type 0} (f : ℕ → X → X) where
  length_first : (k i : ℕ) (xs : List X) → length (first_with f k i xs) ≡ length xs
  length_first k zero xs = refl
  length_first k (suc i) [] = refl
  length_first k (suc i) (x ∷ xs) = ap suc (length_first (suc k) i xs)

  next_untouched : (k i : ℕ) (xs : List X) (d : X) → get_or (first_with f k i xs) i d ≡ get_or xs i d
  next_untouched k zero xs d = refl
  next_untouched k (suc i) [] d = refl
  next_untouched k (suc i) (x ∷ xs) d = next_untouched (suc k) i xs d

  one_more : (k i n : ℕ) (xs : List X) (d : X) → i < length xs → n ≡ k + i → set (first_with f k i xs) i (f n (get_or xs i d)) ≡ first_with f k (suc i) xs
  one_more k i n [] d h e = absurd (omega arith)
  one_more k zero n (x ∷ xs) d h e = ap (λ m. f m x ∷ xs) (omega arith)
  one_more k (suc i) n (x ∷ xs) d h e = ap (λ ys. f k x ∷ ys) (one_more (suc k) i n xs d (omega arith) (omega arith))

  pub all_with : (k i : ℕ) (xs : List X) → length xs ≤ i → first_with f k i xs ≡ each_with f k xs
  all_with k zero [] h = refl
  all_with k zero (x ∷ xs) h = absurd (omega arith)
  all_with k (suc i) [] h = refl
  all_with k (suc i) (x ∷ xs) h = ap (λ ys. f k x ∷ ys) (all_with (suc k) i xs (omega arith))

is_seat : (i n : ℕ) → i < n → outside (i + 1) n ≡ false
is_seat i n h = grind (arith, nat_tests)

-- the account of seat i + 1 is cut by what it owes and hasn't standing
pub cut_more : (figures : Figures) (round : ℕ) (steps : List StepRecord) (old now after : List Account) (i by : ℕ) → i < length old →
    now ≡ first_with (closed_account figures round steps) 1 i old →
    by ≡ owed figures round (get_or now (i + 1 - 1) nobody).eligible - weighted figures.weight (i + 1) standing_of steps → after ≡ with_cut (i + 1) by now →
    after ≡ first_with (closed_account figures round steps) 1 (i + 1) old
cut_more figures round steps old now after i by h is lacks cut =
    let f = closed_account figures round steps in
    let a = get_or old i nobody in
    let place : i + 1 - 1 ≡ i = omega arith in
    let next : suc i ≡ i + 1 = omega arith in
    let long : length now ≡ length old = ap length is ∙ length_first f 1 i old in
    let here : get_or now (i + 1 - 1) nobody ≡ a = ap (λ n. get_or now n nobody) place ∙ ap (λ xs. get_or xs i nobody) is ∙ next_untouched f 1 i old nobody in
    let mine : (get_or now (i + 1 - 1) nobody).eligible ≡ a.eligible = ap (λ (x : Account). x.eligible) here in
    let less : by ≡ owed figures round a.eligible - weighted figures.weight (i + 1) standing_of steps = lacks ∙ ap (λ n. owed figures round n - weighted figures.weight (i + 1) standing_of steps) mine in
    let new : cut_by by (get_or now (i + 1 - 1) nobody) ≡ f (i + 1) a = ap (cut_by by) here ∙ ap (λ n. cut_by n a) less in
    let made : with_cut (i + 1) by now ≡ set now (i + 1 - 1) (cut_by by (get_or now (i + 1 - 1) nobody)) = cond-false _ _ _ (is_seat i (length now) (omega arith)) in
    cut ∙ made ∙ ap (λ x. set now (i + 1 - 1) x) new ∙ ap (λ n. set now n (f (i + 1) a)) place ∙ ap (λ xs. set xs i (f (i + 1) a)) is
    ∙ one_more f 1 i (i + 1) old nobody h (omega arith) ∙ ap (λ n. first_with f 1 n old) next

-- the same, told by the number of the seat
pub cut_next : (figures : Figures) (round : ℕ) (steps : List StepRecord) (old now after : List Account) (seat by : ℕ) → 1 ≤ seat → seat ≤ length old →
    now ≡ first_with (closed_account figures round steps) 1 (seat - 1) old →
    by ≡ owed figures round (get_or now (seat - 1) nobody).eligible - weighted figures.weight seat standing_of steps → after ≡ with_cut seat by now →
    after ≡ first_with (closed_account figures round steps) 1 seat old
cut_next figures round steps old now after seat by one most is lacks cut =
    let here : seat - 1 + 1 ≡ seat = omega arith in
    cut_more figures round steps old now after (seat - 1) by (omega arith) is
    (lacks ∙ ap (λ n. owed figures round (get_or now (n - 1) nobody).eligible - weighted figures.weight n standing_of steps) (sym here))
    (cut ∙ ap (λ n. with_cut n by now) (sym here))
    ∙ ap (λ n. first_with (closed_account figures round steps) 1 n old) here
