-- What it is to be the first of a group behind a given place, in an order that may have ties.
use Rattle.std.specs.Prelude.{◌≡◌, ℕ, ◌<◌, ◌≤◌, Bool, true, false, List, length, Some, None, Option, slice_index_or}

-- a place below n, or none
abbrev pub Within : ℕ → Option ℕ → Type 0
Within n None = Unit {0}
Within n (Some p) = p < n

-- In what follows d is any record, read where a list has none; every place that counts is within the list.

-- the record at place k comes after the one at the given place of the list; where none is given, every record does
abbrev pub Behind : {R : Type 0} → (R → R → Bool) → R → List R → Option ℕ → ℕ → Type 0
Behind precedes d list None k = Unit {0}
Behind precedes d list (Some q) k = (q < length list) × (precedes (slice_index_or list q d) (slice_index_or list k d) ≡ true)

-- place k has a record of group g that comes after the one at the given place
abbrev pub Stands : {R : Type 0} → (R → ℕ) → (R → R → Bool) → R → List R → ℕ → Option ℕ → ℕ → Type 0
Stands group precedes d list g behind k = (k < length list) × (group (slice_index_or list k d) ≡ g) × Behind precedes d list behind k

-- of the places below n that stand so, p is one, no record precedes its record, and of those that p's does not precede it is the lowest
pub record First {R : Type 0} (group : R → ℕ) (precedes : R → R → Bool) (d : R) (list : List R) (g : ℕ) (behind : Option ℕ) (n p : ℕ) : Type 0 where
  pub below : p < n
  pub stands : Stands group precedes d list g behind p
  pub leads : (k : ℕ) → k < n → Stands group precedes d list g behind k → precedes (slice_index_or list k d) (slice_index_or list p d) ≡ false
  pub lowest : (k : ℕ) → k < n → Stands group precedes d list g behind k → precedes (slice_index_or list p d) (slice_index_or list k d) ≡ false → p ≤ k

-- the first of the places below n, or none where none stands so
abbrev pub FirstBelow : {R : Type 0} → (R → ℕ) → (R → R → Bool) → R → List R → ℕ → Option ℕ → ℕ → Option ℕ → Type 0
FirstBelow group precedes d list g behind n None = (k : ℕ) → k < n → Stands group precedes d list g behind k → ⊥
FirstBelow group precedes d list g behind n (Some p) = First group precedes d list g behind n p

-- the answer is the place of group g's first record behind the given place of the list, or none where there is none
pub record FirstBehind {R : Type 0} (group : R → ℕ) (precedes : R → R → Bool) (list : List R) (g : ℕ) (behind answer : Option ℕ) : Type 0 where
  pub within : Within (length list) answer
  pub first : (d : R) → FirstBelow group precedes d list g behind (length list) answer

-- a record comes after the one at the start, where there is one
abbrev pub comes_after : {R : Type 0} → (R → R → Bool) → Option R → R → Bool
comes_after precedes None x = true
comes_after precedes (Some start) x = precedes start x

-- a record comes before the best so far; it does where there is none
abbrev pub comes_ahead : {R : Type 0} → (R → R → Bool) → Option R → R → Bool
comes_ahead precedes None x = true
comes_ahead precedes (Some best) x = precedes x best
