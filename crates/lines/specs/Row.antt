-- An opening's row: increments of two bytes each, the higher byte first.
use Rattle.std.specs.Prelude.{ℕ, List, [], ◌∷◌}
use Rattle.std.specs.List.{flat_map}
use Rattle.records.specs.Bytes.{be, bytes_of}

-- the row that keeps these increments
abbrev pub row_of : List ℕ → List ℕ
row_of ns = flat_map (bytes_of 2) ns

-- the increments that a row keeps
abbrev pub increments : List ℕ → List ℕ
increments [] = []
increments (a ∷ []) = []
increments (a ∷ b ∷ bs) = be 2 (a ∷ b ∷ []) 0 ∷ increments bs
