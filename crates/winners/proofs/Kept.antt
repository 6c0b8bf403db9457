-- What a test keeps of a ranked list.
use Rattle.std.proofs.Common.{◌≡◌, Bool, true, false, cond, List, [], ◌∷◌, filter, sym, refl, ap, ◌∙◌, inl, inr, arith}
use Rattle.std.proofs.lemmas.Bool.Decides.{nat_tests}
use Rattle.steps.specs.declared.record.Bid.{Bid}
use Rattle.steps.specs.declared.record.StepRecord.{StepRecord}
use Rattle.steps.specs.Rank.{before, step_precedes}
use Rattle.rules.specs.Lists.{In}
use Rattle.rules.specs.Books.{bid_of}
use Rattle.rules.proofs.Ranks.{irreflexive}
use Rattle.rules.proofs.DownRank.{Sorted}

-- of two bids at most one ranks before the other
asymmetric : (a b : Bid) → before a b ≡ true → before b a ≡ false
asymmetric a b p = grind (arith, nat_tests)

-- tests that agree on a list keep the same of it
kept_same : (p q : StepRecord → Bool) (ys : List StepRecord) → ((y : StepRecord) → In y ys → p y ≡ q y) → filter p ys ≡ filter q ys
kept_same p q [] h = refl
kept_same p q (y ∷ ys) h = let e = h y (inl refl) in let r = kept_same p q ys (λ z i. h z (inr i)) in cc

-- one that all pass keeps all
pub kept_all : (p : StepRecord → Bool) (ys : List StepRecord) → ((y : StepRecord) → In y ys → p y ≡ true) → filter p ys ≡ ys
kept_all p [] h = refl
kept_all p (y ∷ ys) h = ap (λ t. cond t (y ∷ filter p ys) (filter p ys)) (h y (inl refl)) ∙ ap (λ zs. y ∷ zs) (kept_all p ys (λ z i. h z (inr i)))

-- .. and one that none pass keeps none
pub kept_none : (p : StepRecord → Bool) (ys : List StepRecord) → ((y : StepRecord) → In y ys → p y ≡ false) → filter p ys ≡ []
kept_none p [] h = refl
kept_none p (y ∷ ys) h = ap (λ t. cond t (y ∷ filter p ys) (filter p ys)) (h y (inl refl)) ∙ kept_none p ys (λ z i. h z (inr i))

-- the test p keeps y of a ranked list, none that ranks before y, and all behind it
pub kept_from : (p : StepRecord → Bool) (y : StepRecord) (ys : List StepRecord) → Sorted bid_of ys → In y ys → p y ≡ true
    → ((z : StepRecord) → In z ys → step_precedes z y ≡ true → p z ≡ false)
    → ((z : StepRecord) → In z ys → step_precedes y z ≡ true → p z ≡ true)
    → filter p ys ≡ y ∷ filter (step_precedes y) ys
kept_from p y [] s i here ahead after = elim i [ ]
kept_from p y (x ∷ ys) s (inl e) here ahead after =
    let first : p x ≡ true = sym (ap p e) ∙ here in
    let self : step_precedes y x ≡ false = ap (λ z. step_precedes y z) (sym e) ∙ irreflexive y.bid in
    let behind-y = λ (z : StepRecord) (j : In z ys). ap (λ w. step_precedes w z) e ∙ (s.0 z j).0 in
    let rest = kept_same p (step_precedes y) ys (λ z j. after z (inr j) (behind-y z j) ∙ sym (behind-y z j)) in
    cc
kept_from p y (x ∷ ys) s (inr i) here ahead after =
    let before-y = (s.0 y i).0 in
    let left : p x ≡ false = ahead x (inl refl) before-y in
    let skipped : step_precedes y x ≡ false = asymmetric x.bid y.bid before-y in
    let rest = kept_from p y ys s.1 i here (λ z j. ahead z (inr j)) (λ z j. after z (inr j)) in
    cc
