use Rattle.std.proofs.Common.{◌≡◌, ◌-◌}
use Rattle.accounts.specs.Seated.{seated}
use Rattle.rules.specs.Parts.{closed_account}
use Rattle.rounds.proofs.Cut.{first_with}
use Rattle.rounds.proofs.close.cut_seats.Given as goal

abbrev pub invariant-loop-seat : goal.invariant-loop-seat
invariant-loop-seat g l =
    seated l.seats ≡ first_with (closed_account (g.S.PhaseSheet.figures l.sheet) l.round (g.B.StepBook.steps l.book)) 1 (l.seat - 1) (seated l.initial.seats)
