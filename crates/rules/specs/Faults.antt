-- The number, the layer and the place of each refusal of a sale.
use Rattle.std.specs.Prelude.{ℕ}
use Rattle.faults.specs.declared.layer.Layer.{Layer}
use Rattle.faults.specs.declared.layer.Layer.TheVariants.{Book as BookLayer, Sale as SaleLayer}
use Rattle.steps.specs.Faults.{fault_number}
use Rattle.rules.specs.declared.fault.SaleFault.{SaleFault}
use Rattle.rules.specs.declared.fault.SaleFault.TheVariants.{Book, SeatCount, DepositSize, Taken, SaleEnded, RoundOpen, RowLength, IncrementSize, RoundShut, NoSeat, NoMarket, ShareCount, DiscountSize, StampBehind, EntryOver, NotEligible, OtherSeat, RaiseShares, NoClearing, LowRaise, FirstGoing, FirstMarkets, NothingLeft}

abbrev pub sale_number : SaleFault → ℕ
sale_number (Book f) = fault_number f
sale_number (SeatCount _) = 4
sale_number (DepositSize _) = 5
sale_number Taken = 6
sale_number SaleEnded = 7
sale_number RoundOpen = 8
sale_number RowLength = 9
sale_number IncrementSize = 10
sale_number RoundShut = 11
sale_number NoSeat = 12
sale_number NoMarket = 13
sale_number ShareCount = 14
sale_number DiscountSize = 15
sale_number StampBehind = 16
sale_number EntryOver = 17
sale_number NotEligible = 18
sale_number OtherSeat = 19
sale_number RaiseShares = 20
sale_number NoClearing = 21
sale_number LowRaise = 22
sale_number FirstGoing = 23
sale_number FirstMarkets = 24
sale_number NothingLeft = 25

-- a book's refusal stays the book's
abbrev pub sale_layer : SaleFault → Layer
sale_layer (Book _) = BookLayer
sale_layer (SeatCount _) = SaleLayer
sale_layer (DepositSize _) = SaleLayer
sale_layer Taken = SaleLayer
sale_layer SaleEnded = SaleLayer
sale_layer RoundOpen = SaleLayer
sale_layer RowLength = SaleLayer
sale_layer IncrementSize = SaleLayer
sale_layer RoundShut = SaleLayer
sale_layer NoSeat = SaleLayer
sale_layer NoMarket = SaleLayer
sale_layer ShareCount = SaleLayer
sale_layer DiscountSize = SaleLayer
sale_layer StampBehind = SaleLayer
sale_layer EntryOver = SaleLayer
sale_layer NotEligible = SaleLayer
sale_layer OtherSeat = SaleLayer
sale_layer RaiseShares = SaleLayer
sale_layer NoClearing = SaleLayer
sale_layer LowRaise = SaleLayer
sale_layer FirstGoing = SaleLayer
sale_layer FirstMarkets = SaleLayer
sale_layer NothingLeft = SaleLayer

-- a start is refused for the number of its deposits, or at a seat; the others have no place of their own
abbrev pub sale_place : SaleFault → ℕ
sale_place (SeatCount n) = n
sale_place (DepositSize seat) = seat
sale_place (Book _) = 0
sale_place Taken = 0
sale_place SaleEnded = 0
sale_place RoundOpen = 0
sale_place RowLength = 0
sale_place IncrementSize = 0
sale_place RoundShut = 0
sale_place NoSeat = 0
sale_place NoMarket = 0
sale_place ShareCount = 0
sale_place DiscountSize = 0
sale_place StampBehind = 0
sale_place EntryOver = 0
sale_place NotEligible = 0
sale_place OtherSeat = 0
sale_place RaiseShares = 0
sale_place NoClearing = 0
sale_place LowRaise = 0
sale_place FirstGoing = 0
sale_place FirstMarkets = 0
sale_place NothingLeft = 0
