-- A small sale, computed: 60 and 60 at two discounts, a raise, a second closing, and a changeover.
use Rattle.std.proofs.Common.{◌≡◌, cond, eqb, ltb, leb, List, [], ◌∷◌, map, refl}
use Rattle.sheets.specs.Figures.{Figures}
use Rattle.steps.specs.declared.record.StepRecord.{StepRecord}
use Rattle.rules.specs.Books.{ahead, won}
use Rattle.rules.specs.Sales.{State, fresh, Call, start, opening, enter, raise, close, run}
use Rattle.rules.specs.Tallies.{blank, tally, heard, gets}

abbrev sheet : Figures
sheet = record { markets = 1; openings = 2; percent = λ r. cond (ltb 0 r) (cond (leb r 2) 50 0) 0; weight = λ m. cond (eqb m 1) 10 0 }

abbrev calls : List Call
calls =
    start (500_000 ∷ 1_000_000 ∷ []) ∷ opening (0 ∷ [])
    ∷ enter 1 1 60 100 1 ∷ enter 2 1 60 200 2 ∷ close
    ∷ opening (0 ∷ []) ∷ raise 1 1 30 250 3 ∷ close
    ∷ opening (0 ∷ []) ∷ close ∷ []

abbrev end : State
end = run (fresh sheet 8 []) calls

standings : map (λ (x : StepRecord). x.shares.standing) end.steps ≡ (10 ∷ 60 ∷ 30 ∷ [])
unfolding ahead
standings = refl

winnings : map won end.steps ≡ (10 ∷ 60 ∷ 30 ∷ [])
unfolding ahead
winnings = refl

rejections : map (λ (x : StepRecord). x.shares.rejected) end.steps ≡ (20 ∷ 0 ∷ 0 ∷ [])
unfolding ahead
rejections = refl

tallied : map (gets (tally (fresh sheet 8 []) blank calls)) (tally (fresh sheet 8 []) blank calls).entries ≡ (10 ∷ 60 ∷ 30 ∷ [])
unfolding ahead heard
tallied = refl
