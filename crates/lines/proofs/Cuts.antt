-- Where the blanks in front of a text end, and where its first word does.
use Rattle.std.proofs.Common.{◌≡◌, ℕ, suc, ◌+◌, Bool, true, false, not, cond, ltb, Some, None, List, [], ◌∷◌, length, take, drop, refl, ap, arith}
use Rattle.std.specs.Option.{unwrap_or}
use Rattle.std.specs.List.{position, position_or_len}
use Rattle.std.proofs.lemmas.Bool.Decides.{nat_tests}
use Rattle.std.proofs.lemmas.List.Sums.{prefix_len-le-length}
use Rattle.lines.specs.Words.{blank, skip, front, back}

-- the first place at which a test passes, or the length where it never does
pub found_or_len : (p : ℕ → Bool) (bs : List ℕ) → unwrap_or (position p bs) (length bs) ≡ position_or_len p bs
found_or_len p bs = go (ltb (position_or_len p bs) (length bs)) refl
  where
    go : (t : Bool) → ltb (position_or_len p bs) (length bs) ≡ t → unwrap_or (cond t (Some (position_or_len p bs)) None) (length bs) ≡ position_or_len p bs
    go true e = refl
    go false e = let h = prefix_len-le-length (λ b. not (p b)) bs in grind (arith, nat_tests)

one_more : (n : ℕ) → 1 + n ≡ suc n
one_more n = omega arith

-- the blanks in front are skipped
pub skip_is : (bs : List ℕ) → skip bs ≡ drop (position_or_len (λ b. not (blank b)) bs) bs
skip_is [] = refl
skip_is (b ∷ bs) = go (blank b) (skip_is bs)
  where
    go : (t : Bool) → skip bs ≡ drop (position_or_len (λ x. not (blank x)) bs) bs → cond t (skip bs) (b ∷ bs) ≡ drop (cond (not (not t)) (1 + position_or_len (λ x. not (blank x)) bs) 0) (b ∷ bs)
    go true h = rw one_more h
    go false h = refl

-- a text is its first word and what follows: one byte in front, by whether it is blank
pub front_is : (bs : List ℕ) → front bs ≡ take (position_or_len blank bs) bs
front_is [] = refl
front_is (b ∷ bs) = go (blank b) (front_is bs)
  where
    go : (t : Bool) → front bs ≡ take (position_or_len blank bs) bs → cond t [] (b ∷ front bs) ≡ take (cond (not t) (1 + position_or_len blank bs) 0) (b ∷ bs)
    go true h = refl
    go false h = rw one_more (ap (λ (l : List ℕ). b ∷ l) h)

pub back_is : (bs : List ℕ) → back bs ≡ drop (position_or_len blank bs) bs
back_is [] = refl
back_is (b ∷ bs) = go (blank b) (back_is bs)
  where
    go : (t : Bool) → back bs ≡ drop (position_or_len blank bs) bs → cond t (b ∷ bs) (back bs) ≡ drop (cond (not t) (1 + position_or_len blank bs) 0) (b ∷ bs)
    go true h = refl
    go false h = rw one_more h
