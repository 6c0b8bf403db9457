-- The accounts that a table holds, as a list.
use Rattle.std.proofs.Common.{◌≡◌, ℕ, ◌+◌, ◌<◌, List, [], ◌∷◌, ◌++◌, map, length, get_or, take, set, sym, ap, ◌∙◌, arith}
use Rattle.std.proofs.lemmas.List.{get_or-take, get_or-map, map-set, take-map}
use Rattle.rules.specs.Sales.{nobody}
use Rattle.accounts.specs.declared.account.SeatAccount.{SeatAccount}
use Rattle.accounts.specs.declared.seats.Seats.{Seats}
use Rattle.accounts.specs.Accounts.{cut_by}
use Rattle.accounts.specs.Seated.{plain_of, seated}
use Rattle.accounts.proofs.Rows.{front_length, front_at, front_push, front_set}

-- there are as many as the table counts
pub length_seated : (s : Seats) → length (seated s) ≡ s.count
length_seated s =
    let few = s.few in
    let full = s.full in
    front_length plain_of s.count s.rows (omega arith)

-- the row at a place below the count has the account at that place; d stands where there is no row
pub account_at : (s : Seats) (place : ℕ) (d : SeatAccount) → place < s.count → (get_or s.rows place d).account ≡ get_or (seated s) place nobody
account_at s place d here =
    let few = s.few in
    let full = s.full in
    front_at plain_of s.count s.rows place d nobody here (omega arith)

-- a row written behind those in use
pub appends : (s : Seats) (row : SeatAccount) → s.count < 24 → map plain_of (take (s.count + 1) (set s.rows s.count row)) ≡ seated s ++ row.account ∷ []
appends s row room = let full = s.full in front_push plain_of s.count s.rows row (omega arith)

-- a row whose account is cut, in a list of rows; d stands where there is none
pub row_cut : (rows : List SeatAccount) (place : ℕ) (d row : SeatAccount) (by : ℕ) → place < length rows → row.account ≡ cut_by by (get_or rows place d).account
    → map plain_of (set rows place row) ≡ set (map plain_of rows) place (cut_by by (get_or (map plain_of rows) place nobody))
row_cut rows place d row by within is =
    map-set plain_of rows place row ∙ ap (λ a. set (map plain_of rows) place a) (is ∙ ap (cut_by by) (sym (get_or-map plain_of rows place d nobody within)))

-- rows of which one in use is cut
pub cuts : (s : Seats) (rows : List SeatAccount) (place by : ℕ) → place < s.count
    → map plain_of rows ≡ set (map plain_of s.rows) place (cut_by by (get_or (map plain_of s.rows) place nobody))
    → map plain_of (take s.count rows) ≡ set (seated s) place (cut_by by (get_or (seated s) place nobody))
cuts s rows place by here cut =
    let old = map plain_of s.rows in
    let same : get_or old place nobody ≡ get_or (seated s) place nobody
    = sym (get_or-take s.count old place nobody here) ∙ ap (λ r. get_or r place nobody) (take-map plain_of s.count s.rows) in
    front_set plain_of s.count s.rows rows place (cut_by by (get_or old place nobody)) cut ∙ ap (λ a. set (seated s) place (cut_by by a)) same
