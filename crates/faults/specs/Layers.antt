-- The name that a layer is printed under.
use Rattle.std.specs.Prelude.{ℕ, List, codes}
use Rattle.faults.specs.declared.layer.Layer.{Layer}
use Rattle.faults.specs.declared.layer.Layer.TheVariants.{Book, Sale, File}

abbrev pub layer_name : Layer → List ℕ
layer_name Book = codes "book"
layer_name Sale = codes "sale"
layer_name File = codes "file"
