-- The accounts that a later sale starts with, seat by seat.
use Rattle.std.proofs.Common.{◌≡◌, ℕ, zero, suc, ◌+◌, ◌-◌, ◌<◌, ◌≤◌, true, List, [], ◌∷◌, ◌++◌, length, get_or, take, sym, ap, ◌∙◌, arith, length-take}
use Rattle.std.proofs.lemmas.List.{take_more, get_or_past}
use Rattle.std.proofs.lemmas.Bool.{lt-ltb, cond-true}
use Rattle.std.proofs.lemmas.Bool.Decides.{nat_tests}
use Rattle.rules.specs.declared.account.Account.{Account}
use Rattle.rules.specs.Sales.{State, nobody, account, outside, carried}
use Rattle.rules.specs.Parts.{left_to}
use Rattle.rules.proofs.Weights.{length_carried}
use Rattle.accounts.specs.Accounts.{opened_with, with_opened}

past_seats : (n top : ℕ) → 1 ≤ n → outside n top ≡ true → top ≤ n - 1
past_seats n top low e = grind (arith, nat_tests)

-- there is nothing for a seat that isn't there
pub nothing_left : (s : State) (seat : ℕ) → 1 ≤ seat → outside seat (length s.accounts) ≡ true → 0 ≡ left_to s seat (account s (seat - 1))
nothing_left s seat low e =
    let none : (account s (seat - 1)).bought ≡ 0 = ap (λ (a : Account). a.bought) (get_or_past s.accounts (seat - 1) nobody (past_seats seat (length s.accounts) low e)) in
    omega arith

carried_at : (first : State) (k : ℕ) (rest : List Account) (j n : ℕ) → n ≡ k + j → j < length rest →
    get_or (carried first k rest) j nobody ≡ opened_with (left_to first n (get_or rest j nobody))
carried_at first k [] j n e l = absurd (omega arith)
carried_at first k (a ∷ rest) zero n e l = ap (λ m. opened_with (left_to first m a)) (omega arith)
carried_at first k (a ∷ rest) (suc j) n e l = carried_at first (suc k) rest j n (omega arith) (omega arith)

-- one account more is opened, with what is left to its seat
pub carried_more : (s : State) (seats : List Account) (i v : ℕ) → i < length s.accounts → i < 24 → v ≡ left_to s (i + 1) (account s (i + 1 - 1)) → seats ≡ take i (carried s 1 s.accounts) →
    (after : List Account) → after ≡ with_opened v seats → after ≡ take (i + 1) (carried s 1 s.accounts)
carried_more s seats i v within room e is after opened =
    let all = carried s 1 s.accounts in
    let long : length all ≡ length s.accounts = length_carried s 1 s.accounts in
    let many : length seats ≡ i = ap length is ∙ omega (arith, length-take i all) in
    let fits : with_opened v seats ≡ seats ++ opened_with v ∷ [] = cond-true _ _ _ (lt-ltb (length seats) 24 (omega arith)) in
    let here : opened_with v ≡ get_or all i nobody =
    ap opened_with (e ∙ ap (λ k. left_to s (i + 1) (account s k)) (omega arith)) ∙ sym (carried_at s 1 s.accounts i (i + 1) (omega arith) within) in
    opened ∙ fits ∙ ap (λ xs. xs ++ opened_with v ∷ []) is ∙ ap (λ a. take i all ++ a ∷ []) here ∙ sym (take_more all i nobody (omega arith))

-- the same, told by the number of the seat
pub carried_next : (s : State) (seats : List Account) (seat v : ℕ) → 1 ≤ seat → seat ≤ length s.accounts → seat ≤ 24 → v ≡ left_to s seat (account s (seat - 1)) → seats ≡ take (seat - 1) (carried s 1 s.accounts) →
    (after : List Account) → after ≡ with_opened v seats → after ≡ take seat (carried s 1 s.accounts)
carried_next s seats seat v one most few e is after opened =
    let here : seat - 1 + 1 ≡ seat = omega arith in
    carried_more s seats (seat - 1) v (omega arith) (omega arith) (e ∙ ap (λ n. left_to s n (account s (n - 1))) (sym here)) is after opened ∙ ap (λ n. take n (carried s 1 s.accounts)) here
