-- One turn of the loop that rejects losing shares, its start and its end.
use Rattle.std.proofs.Common.{◌≡◌, ℕ, ◌+◌, ◌-◌, ◌<◌, ◌≤◌, true, false, cond, leb, List, map, length, get_or, set, sym, ap, ◌∙◌, arith}
use Rattle.std.proofs.lemmas.List.{length-map, map-id, get_or-map}
use Rattle.std.proofs.lemmas.Bool.{lt-leb, le-leb}
use Rattle.std.proofs.lemmas.Bool.Decides.{nat_tests}
use Rattle.steps.specs.declared.record.StepRecord.{StepRecord}
use Rattle.steps.specs.Rule.{no_step}
use Rattle.books.specs.Replies.{at, held}
use Rattle.books.proofs.After.{held_true}
use Rattle.books.specs.Lawful.{SoundBelow}
use Rattle.rules.specs.Lists.{In}
use Rattle.rules.specs.Books.{bid_of, rejects}
use Rattle.rules.proofs.Totals.{map_same}
use Rattle.rules.proofs.Ranks.{numbers_from}
use Rattle.closing.proofs.Places.{sound_numbered, sound_number, each, map_one}

-- the losing shares of the step are rejected if its number is at most k
abbrev rejects_to : ℕ → StepRecord → StepRecord
rejects_to k x = cond (leb x.bid.number k) (rejects x) x

-- the steps xs, those up to the number k with their losing shares rejected
abbrev pub rejected_to : ℕ → List StepRecord → List StepRecord
rejected_to k xs = map (rejects_to k) xs

-- a number other than k + 1 is at most k + 1 just if it is at most k
same_test : (n k : ℕ) → (n ≡ k + 1 → ⊥) → leb n k ≡ leb n (k + 1)
same_test n k ne = grind (arith, nat_tests)

module _ (xs : List StepRecord) (sound : SoundBelow xs (length xs)) where
  -- before the first step nothing is rejected
  pub rejected_none : xs ≡ rejected_to 0 xs
  rejected_none =
      let none : (x : StepRecord) → In x xs → leb x.bid.number 0 ≡ false = λ x i. lt-leb x.bid.number 0 (numbers_from bid_of 1 xs x (sound_numbered xs sound) i) in
      sym (map_same _ (λ x. x) xs (λ x i. ap (λ t. cond t (rejects x) x) (none x i)) ∙ map-id xs)

  module _ (ys : List StepRecord) (k : ℕ) (r : ys ≡ rejected_to k xs) where
    -- the next step is held
    pub rejected_held : k < length xs → held ys (k + 1) ≡ true
    rejected_held l = let e = ap length r ∙ length-map xs (rejects_to k) in held_true ys (k + 1) (omega arith) (omega arith)

    module _ (within : k < length xs) where
      abbrev x : StepRecord
      x = get_or xs k no_step

      not_yet : leb x.bid.number k ≡ false
      not_yet = lt-leb x.bid.number k (omega (arith, sound_number xs sound k within))

      now_done : leb x.bid.number (k + 1) ≡ true
      now_done = le-leb x.bid.number (k + 1) (omega (arith, sound_number xs sound k within))

      -- no step is read after its shares were rejected
      read_as_was : at ys (k + 1) ≡ x
      read_as_was =
          ap (λ i. get_or ys i no_step) (omega arith)
          ∙ ap (λ v. get_or v k no_step) r
          ∙ get_or-map (rejects_to k) xs k no_step no_step within
          ∙ ap (λ t. cond t (rejects x) x) not_yet

      -- one step more
      pub rejected_more : (zs : List StepRecord) → zs ≡ set ys (k + 1 - 1) (rejects (at ys (k + 1))) → zs ≡ rejected_to (k + 1) xs
      rejected_more zs made =
          made
          ∙ ap (λ i. set ys i (rejects (at ys (k + 1)))) (omega arith)
          ∙ ap (λ z. set ys k (rejects z)) read_as_was
          ∙ ap (λ v. set v k (rejects x)) r
          ∙ map_one (rejects_to k) (rejects_to (k + 1)) 1 xs k (rejects x) (sound_numbered xs sound) within (sym (ap (λ t. cond t (rejects x) x) now_done)) (λ z i ne. ap (λ t. cond t (rejects z) z) (same_test z.bid.number k (λ e. ne (omega arith))))

    module _ (done : length xs ≤ k) where
      -- every step was reached
      all_done : (x : StepRecord) → In x xs → leb x.bid.number k ≡ true
      all_done = each (λ x. leb x.bid.number k ≡ true) xs no_step (λ i l. le-leb _ _ (omega (arith, sound_number xs sound i l)))

      pub rejected_steps : ys ≡ map rejects xs
      rejected_steps = r ∙ map_same _ _ xs (λ x i. ap (λ t. cond t (rejects x) x) (all_done x i))

  -- the same, told by the number of the step
  module _ (ys : List StepRecord) (number : ℕ) (one : 1 ≤ number) (r : ys ≡ rejected_to (number - 1) xs) (within : number ≤ length xs) where
    here : number - 1 + 1 ≡ number
    here = omega arith

    pub next_held : held ys number ≡ true
    next_held = ap (held ys) (sym here) ∙ rejected_held ys (number - 1) r (omega arith)

    pub next_rejected : (zs : List StepRecord) → zs ≡ set ys (number - 1) (rejects (at ys number)) → zs ≡ rejected_to number xs
    next_rejected zs made =
        rejected_more ys (number - 1) r (omega arith) zs (made ∙ ap (λ n. set ys (n - 1) (rejects (at ys n))) (sym here)) ∙ ap (λ n. rejected_to n xs) here
