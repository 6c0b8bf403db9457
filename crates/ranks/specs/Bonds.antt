-- The order of seats by bond.
use Rattle.std.specs.Prelude.{◌≡◌, Bool, ◌&&◌, ◌||◌, ◌==◌, nat_lt}
use Rattle.ranks.specs.declared.bond.SeatBond.{SeatBond}

-- the larger bond comes first, then the lower seat
abbrev pub bond_precedes : SeatBond → SeatBond → Bool
bond_precedes x y = nat_lt y.dollars x.dollars || (x.dollars == y.dollars && nat_lt x.seat y.seat)

-- the same bond of the same seat
abbrev pub BondAlike : SeatBond → SeatBond → Type 0
BondAlike x y = (x.dollars ≡ y.dollars) × (x.seat ≡ y.seat)
