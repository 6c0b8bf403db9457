-- How far a sale is, as the rules have it: by whether a round is open, and whether it has ended.
use Rattle.std.specs.Prelude.{Bool, true, false}
use Rattle.sale_parts.specs.declared.stage.Stage.{Stage}
use Rattle.sale_parts.specs.declared.stage.Stage.TheVariants.{Ended, Shut, Open}

abbrev pub is_open : Stage → Bool
is_open Ended = false
is_open Shut = false
is_open Open = true

abbrev pub has_ended : Stage → Bool
has_ended Ended = true
has_ended Shut = false
has_ended Open = false
