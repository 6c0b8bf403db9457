-- With which status a program ends.
use Rattle.std.specs.Prelude.{ℕ, Ok, Err, Result}

-- 0 where all went well, else 1
abbrev pub status_of : {T E : Type 0} → Result T E → ℕ
status_of (Ok x) = 0
status_of (Err e) = 1
