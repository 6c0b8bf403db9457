use Rattle.std.proofs.Common.{◌≡◌, ◌++◌, IfOk, string_bytes, codes, decimal, append_assoc}
use Rattle.std.proofs.lemmas.Result.{IfOk-weaker}
use Rattle.listings.proofs.list.refused.Goals as goal

pub returns : goal.returns
returns c =
    let told : IfOk c.format.result (λ s. string_bytes s ≡ codes "F " ++ (decimal c.number.result ++ (codes " " ++ (decimal c.place.result ++ codes "\n")))) = c.format.ensures.ok in
    IfOk-weaker c.format.result _ _ (λ s h. simp append_assoc (rw (← c.number.ensures, ← c.place.ensures) h)) told
