-- What a scan sees of a record, told from its place in the list.
use Rattle.std.proofs.Common.{◌≡◌, ℕ, ◌<◌, Bool, ◌&&◌, eqb, List, length, get_or, Some, None, Option, refl, sym, ◌∙◌, ap}
use Rattle.std.specs.Bool.{Decides}
use Rattle.std.specs.Option.{option_map}
use Rattle.std.proofs.lemmas.Bool.Decides.{Decides-and, Decides-eqb, Decides-like}
use Rattle.std.proofs.lemmas.List.{get_or_default}
use Rattle.ranks.specs.Order.{Stands, comes_after, comes_ahead}
use Rattle.ranks.proofs.First.{leads_best}

module _ {R : Type 0} where
  -- the start is the record at the given place, and none where no place is given
  abbrev pub StartsAt : List R → Option ℕ → Option R → Type 0
  StartsAt list None start = start ≡ None
  StartsAt list (Some q) start = (q < length list) × ((d : R) → start ≡ Some (get_or list q d))

  -- a place comes with its record, by a reference to it
  abbrev pub ReadAt : {S : Type 0} → (S → R) → List R → Option (ℕ × S) → Type 0
  ReadAt at list None = Unit {0}
  ReadAt at list (Some b) = (d : R) → at b.1 ≡ get_or list b.0 d

  -- what is told of a record x at place k, whatever stands for a record past the end
  module _ (precedes : R → R → Bool) (d : R) (list : List R) (k : ℕ) (x : R) (within : k < length list) (read : x ≡ get_or list k x) where
    here : get_or list k d ≡ x
    here = get_or_default list k d x within ∙ sym read

    -- it is of the group and comes after the start, if and only if its place stands so
    pub stands_decided : (group : R → ℕ) (g : ℕ) (behind : Option ℕ) (start : Option R) → StartsAt list behind start
        → Decides (eqb (group x) g && comes_after precedes start x) (Stands group precedes d list g behind k)
    stands_decided group g None start s =
        Decides-like _ (λ w. (within, ap group here ∙ w.0, tt)) (λ w. (sym (ap group here) ∙ w.1, ap (λ t. comes_after precedes t x) s))
        (Decides-and _ _ (Decides-eqb (group x) g) (λ h. h, λ h. h))
    stands_decided group g (Some q) start s =
        let told = ap (λ t. comes_after precedes t x) (s.1 d) in
        Decides-like _ (λ w. (within, ap group here ∙ w.0, (s.0, ap (precedes (get_or list q d)) here ∙ sym told ∙ w.1)))
        (λ w. (sym (ap group here) ∙ w.1, told ∙ sym (ap (precedes (get_or list q d)) here) ∙ w.2.1))
        (Decides-and _ _ (Decides-eqb (group x) g) (λ h. h, λ h. h))

    -- it comes before the best so far, as the places tell
    pub leads_told : {S : Type 0} (at : S → R) (best : Option (ℕ × S)) → ReadAt at list best
        → comes_ahead precedes (option_map (λ b. at b.1) best) x ≡ leads_best precedes d list k (option_map (λ b. b.0) best)
    leads_told at None i = refl
    leads_told at (Some b) i = ap (λ y. precedes y (at b.1)) (sym here) ∙ ap (precedes (get_or list k d)) (i d)
