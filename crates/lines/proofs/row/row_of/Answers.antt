use Rattle.std.proofs.Common.{◌≡◌, map, rules, ap, ◌∙◌, arith}
use Rattle.std.specs.List.{flat_map}
use Rattle.std.proofs.lemmas.List.Folds.{flat_map-map}
use Rattle.records.specs.Bytes.{bytes_of}
use Rattle.arrays.proofs.Made.{mapped_is}
use Rattle.lines.proofs.row.row_of.Goals as goal

pub returns : goal.returns
returns c =
    let pairs : c.map-pairs.result ≡ map (bytes_of 2) c.args.steps = mapped_is _ _ (bytes_of 2) (λ p q x y k. search rules) _ _ 7 (omega arith) c.map-pairs.ensures.items in
    c.copy_from_slice.ensures.after ∙ c.as_flattened.ensures.value ∙ ap (λ ps. flat_map (λ x. x) ps) pairs ∙ flat_map-map (λ x. x) (bytes_of 2) c.args.steps
