-- The byte that stands for each kind of an event.
use Rattle.std.specs.Prelude.{◌≡◌, ℕ, ◌<◌, ◌⊎◌, Result, MatchResult}
use Rattle.faults.specs.declared.record.RecordFault.{RecordFault}
use Rattle.faults.specs.declared.record.RecordFault.TheVariants.{UnknownKind}
use Rattle.records.specs.declared.kind.Kind.{Kind}
use Rattle.records.specs.declared.kind.Kind.TheVariants.{Open, NewStep, Raise, Close, Changeover}

abbrev pub byte_of : Kind → ℕ
byte_of Open = 1
byte_of NewStep = 2
byte_of Raise = 3
byte_of Close = 4
byte_of Changeover = 5

-- the result is the kind that the byte stands for, or a refusal of a byte that stands for none
abbrev pub Decodes : ℕ → Result Kind RecordFault → Type 0
Decodes byte r = MatchResult r (λ kind. byte_of kind ≡ byte) (λ f. (f ≡ UnknownKind) × ((byte < 1) ⊎ (5 < byte)))
