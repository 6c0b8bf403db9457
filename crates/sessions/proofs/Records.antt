-- The bytes of a record, where the header may be read.
use Rattle.std.proofs.Common.{◌≡◌, ℕ, ◌+◌, Bool, true, false, cond, List, Ok, Err, Result, sym, refl, ap, ◌∙◌, subst}
use Rattle.std.specs.List.{between}
use Rattle.faults.specs.declared.section.Section.{Section}
use Rattle.faults.specs.declared.file.FileFault.{FileFault}
use Rattle.faults.specs.declared.file.FileFault.TheVariants.{NoRecord}
use Rattle.sessions.specs.Layout.{count, place, width}
use Rattle.sessions.specs.Reading.{opened, numbered, record_at, next}

-- the bytes of a record, where the header may be read
pub opened_record : (s : Section) (bs : List ℕ) (k p : ℕ) → opened bs ≡ Ok tt → place s bs k ≡ p → record_at s bs k ≡ cond (numbered k (count s bs)) (Ok (between p (p + width s) bs)) (Err (NoRecord k))
opened_record s bs k p h e = subst (λ (r : Result (Unit {0}) FileFault). next (next r (λ _. cond (numbered k (count s bs)) (Ok (place s bs k)) (Err (NoRecord k)))) (λ z. Ok (between z (z + width s) bs)) ≡ cond (numbered k (count s bs)) (Ok (between p (p + width s) bs)) (Err (NoRecord k))) (sym h) (go (numbered k (count s bs)))
  where
    go : (b : Bool) → next (cond b (Ok (place s bs k)) (Err (NoRecord k))) (λ z. Ok (between z (z + width s) bs)) ≡ cond b (Ok (between p (p + width s) bs)) (Err (NoRecord k))
    go true = ap (λ z. Ok (between z (z + width s) bs)) e
    go false = refl

-- a record that the header counts
pub record_read : (s : Section) (bs : List ℕ) (k p : ℕ) (r : List ℕ) → opened bs ≡ Ok tt → numbered k (count s bs) ≡ true → place s bs k ≡ p → between p (p + width s) bs ≡ r → record_at s bs k ≡ Ok r
record_read s bs k p r h n e q = opened_record s bs k p h e ∙ rw (n, q)
