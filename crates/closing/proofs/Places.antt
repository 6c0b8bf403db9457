-- Steps numbered by their places: what a book's law says of each, and what a change of one step makes of a list.
use Rattle.std.proofs.Common.{◌≡◌, ℕ, zero, suc, ◌+◌, ◌*◌, ◌<◌, ◌≤◌, true, eqb, leb, List, [], ◌∷◌, map, length, get_or, set, sym, refl, subst, inl, inr, arith}
use Rattle.std.proofs.lemmas.Bool.{eqb-true, and_parts, leb-true}
use Rattle.steps.specs.declared.record.StepRecord.{StepRecord}
use Rattle.steps.specs.Rule.{step_ok, offer_ok, shares_ok, no_step}
use Rattle.books.specs.Lawful.{SoundBelow}
use Rattle.rules.specs.Lists.{total, In}
use Rattle.rules.specs.Books.{bid_of}
use Rattle.rules.proofs.Totals.{map_same, total_same}
use Rattle.rules.proofs.Ranks.{Numbered, numbers_from}

-- what holds at each place holds of each in the list
pub each : {X : Type 0} (P : X → Type 0) (xs : List X) (d : X) → ((i : ℕ) → i < length xs → P (get_or xs i d)) → (x : X) → In x xs → P x
each P [] d h x i = elim i [ ]
each P (y ∷ xs) d h x (inl e) = subst P (sym e) (h 0 (omega arith))
each P (y ∷ xs) d h x (inr i) = each P xs d (λ k l. h (suc k) (omega arith)) x i

-- numbers that count by places from k
numbered_from : (k : ℕ) (xs : List StepRecord) → ((i : ℕ) → i < length xs → (get_or xs i no_step).bid.number ≡ k + i) → Numbered bid_of k xs
numbered_from k [] h = tt
numbered_from k (x ∷ xs) h = (omega (arith, h 0 (omega arith)), numbered_from (suc k) xs (λ i l. omega (arith, h (suc i) (omega arith))))

-- the step's rule, by its parts
pub record Kept (x : StepRecord) : Type 0 where
  pub market_least : 1 ≤ x.bid.market
  pub market_most : x.bid.market ≤ 7
  pub losing_most : x.shares.losing ≤ x.shares.standing
  pub shares_most : x.shares.standing + x.shares.rejected ≤ 100

kept : (x : StepRecord) → step_ok x ≡ true → Kept x
kept x h =
    let p = and_parts (offer_ok x.bid.market x.bid.discount) (shares_ok x.shares) h in
    let q = and_parts (leb 1 x.bid.market) _ p.0 in
    let o = and_parts (leb x.bid.market 7) _ q.1 in
    let s = and_parts (leb x.shares.losing x.shares.standing) _ p.1 in
    record { market_least = leb-true _ _ q.0; market_most = leb-true _ _ o.0; losing_most = leb-true _ _ s.0; shares_most = leb-true _ _ s.1 }

-- the steps of a book, which are sound
module _ (xs : List StepRecord) (sound : SoundBelow xs (length xs)) where
  pub sound_number : (i : ℕ) → i < length xs → (get_or xs i no_step).bid.number ≡ i + 1
  sound_number i l = eqb-true _ _ (and_parts (eqb (get_or xs i no_step).bid.number (i + 1)) _ (sound i l)).0

  pub sound_numbered : Numbered bid_of 1 xs
  sound_numbered = numbered_from 1 xs (λ i l. omega (arith, sound_number i l))

  pub sound_kept : (x : StepRecord) → In x xs → Kept x
  sound_kept = each Kept xs no_step (λ i l. kept _ (and_parts (eqb (get_or xs i no_step).bid.number (i + 1)) _ (sound i l)).1)

-- f and g agree on every step but that of number n
abbrev Elsewhere : {Y : Type 0} → (StepRecord → Y) → (StepRecord → Y) → ℕ → List StepRecord → Type 0
Elsewhere f g n xs = (x : StepRecord) → In x xs → (x.bid.number ≡ n → ⊥) → f x ≡ g x

-- behind the first, no step has the first's number
behind_first : {Y : Type 0} (f g : StepRecord → Y) (k : ℕ) (x : StepRecord) (xs : List StepRecord) → Numbered bid_of (suc k) xs → Elsewhere f g (k + 0) (x ∷ xs) → (y : StepRecord) → In y xs → f y ≡ g y
behind_first f g k x xs n same y i = same y (inr i) (λ e. omega (arith, numbers_from bid_of (suc k) xs y n i))

-- a write at place i, where f and g agree elsewhere
pub map_one : (f g : StepRecord → StepRecord) (k : ℕ) (xs : List StepRecord) (i : ℕ) (new : StepRecord) → Numbered bid_of k xs → i < length xs → new ≡ g (get_or xs i no_step) → Elsewhere f g (k + i) xs → set (map f xs) i new ≡ map g xs
map_one f g k [] i new n l e same = absurd (omega arith)
map_one f g k (x ∷ xs) zero new n l e same = let r = map_same f g xs (behind_first f g k x xs n.1 same) in cc
map_one f g k (x ∷ xs) (suc i) new n l e same =
    let here = same x (inl refl) (λ q. omega (arith, n.0)) in
    let r = map_one f g (suc k) xs i new n.1 (omega arith) e (λ y j ne. same y (inr j) (λ q. ne (omega arith))) in
    cc

-- the sum of g, where f and g agree elsewhere
pub total_one : (f g : StepRecord → ℕ) (k : ℕ) (xs : List StepRecord) (i : ℕ) → Numbered bid_of k xs → i < length xs → Elsewhere f g (k + i) xs → total g xs + f (get_or xs i no_step) ≡ total f xs + g (get_or xs i no_step)
total_one f g k [] i n l same = absurd (omega arith)
total_one f g k (x ∷ xs) zero n l same = omega (arith, total_same f g xs (behind_first f g k x xs n.1 same))
total_one f g k (x ∷ xs) (suc i) n l same =
    let here = same x (inl refl) (λ q. omega (arith, n.0)) in
    let r = total_one f g (suc k) xs i n.1 (omega arith) (λ y j ne. same y (inr j) (λ q. ne (omega arith))) in
    omega arith

-- a sum of figures that are each at most c
pub total_most : (f : StepRecord → ℕ) (c : ℕ) (xs : List StepRecord) → ((x : StepRecord) → In x xs → f x ≤ c) → total f xs ≤ c * length xs
total_most f c [] h = omega arith
total_most f c (x ∷ xs) h = omega (arith, h x (inl refl), total_most f c xs (λ y i. h y (inr i)))

-- the bids of steps whose bids were kept
pub bid_at : (g : StepRecord → StepRecord) → ((x : StepRecord) → (g x).bid ≡ x.bid) → (xs : List StepRecord) (i : ℕ) → (get_or (map g xs) i no_step).bid ≡ (get_or xs i no_step).bid
bid_at g same [] i = refl
bid_at g same (x ∷ xs) zero = same x
bid_at g same (x ∷ xs) (suc i) = bid_at g same xs i
