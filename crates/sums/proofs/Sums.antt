-- Sums over the steps of a book, one step more, and their bounds.
use Rattle.std.proofs.Common.{◌≡◌, ℕ, ◌+◌, ◌-◌, ◌*◌, ◌<◌, ◌≤◌, false, cond, eqb, List, length, get_or, take, sym, ap, ◌∙◌, mul-le-mul_right, add-mul, arith}
use Rattle.std.proofs.lemmas.List.{take_more}
use Rattle.std.proofs.lemmas.Bool.{cond-true, eq-eqb, and_from, le-leb, both_ways}
use Rattle.steps.specs.declared.record.StepRecord.{StepRecord}
use Rattle.steps.specs.Rule.{no_step}
use Rattle.books.specs.Replies.{held, at}
use Rattle.rules.specs.Lists.{total}
use Rattle.rules.proofs.Totals.{total_push}

-- a book's count answers how many steps there are, and then its size
pub first_part : {p : ℕ × ℕ} (a b : ℕ) → p ≡ (a, b) → p.0 ≡ a
first_part a b e = ap (λ (q : ℕ × ℕ). q.0) e

-- a book has a step of each number up to its length
pub none_missing : (xs : List StepRecord) (number : ℕ) → 1 ≤ number → number ≤ length xs → held xs number ≡ false → ⊥
none_missing xs number one most lacks = both_ways (held xs number) lacks (and_from _ _ (le-leb 1 number one) (le-leb number (length xs) most))

-- the sum over the steps up to that number, where v is what the step read at it adds
pub sum_more : (f : StepRecord → ℕ) (xs : List StepRecord) (number : ℕ) (x : StepRecord) (n v : ℕ) → 1 ≤ number → number ≤ length xs → x ≡ at xs number
    → n ≡ total f (take (number - 1) xs) → v ≡ f x → n + v ≡ total f (take number xs)
sum_more f xs number x n v one most read so_far adds =
    let within : number - 1 < length xs = omega arith in
    let same : f (get_or xs (number - 1) no_step) ≡ f x = ap f (sym read) in
    let more : total f (take (number - 1 + 1) xs) ≡ total f (take (number - 1) xs) + f (get_or xs (number - 1) no_step) = ap (total f) (take_more xs (number - 1) no_step within) ∙ total_push f (take (number - 1) xs) (get_or xs (number - 1) no_step) in
    let back : number - 1 + 1 ≡ number = omega arith in
    let all : total f (take (number - 1 + 1) xs) ≡ total f (take number xs) = ap (λ k. total f (take k xs)) back in
    omega arith

-- each of the numbers before it added at most m, and so does one more
pub most_more : (number m n v : ℕ) → 1 ≤ number → n ≤ (number - 1) * m → v ≤ m → n + v ≤ number * m
most_more number m n v one so_far adds =
    let back : number - 1 + 1 ≡ number = omega arith in
    let more : (number - 1 + 1) * m ≡ number * m = ap (λ k. k * m) back in
    omega (arith, add-mul (number - 1) 1 m)

-- a book has at most 1,024 steps
pub most_all : (i m n : ℕ) → i ≤ 1024 → n ≤ i * m → n ≤ 1024 * m
most_all i m n few so_far = omega (arith, mul-le-mul_right m few)

-- what a step x of the seat adds, where y is a copy of it
pub seat_weight : (weight : ℕ → ℕ) (seat : ℕ) (x y : StepRecord) (w : ℕ) → y ≡ x → y.bid.seat ≡ seat → w ≡ weight y.bid.market
    → y.shares.standing * w ≡ cond (eqb x.bid.seat seat) (x.shares.standing * weight x.bid.market) 0
seat_weight weight seat x y w same own is =
    ap (λ n. y.shares.standing * n) is ∙ sym (cond-true _ _ _ (eq-eqb _ _ own))
    ∙ ap (λ (z : StepRecord). cond (eqb z.bid.seat seat) (z.shares.standing * weight z.bid.market) 0) same
