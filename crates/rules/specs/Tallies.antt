-- The tally, which hears the calls and the replies and knows nothing of the sale.
use Rattle.std.specs.Prelude.{ℕ, suc, ◌-◌, min, List, [], ◌∷◌, ◌++◌, length, Ok, Err, Result, slice_index_or, slice_set}
use Rattle.steps.specs.declared.record.Bid.{Bid}
use Rattle.steps.specs.Rule.{no_bid}
use Rattle.rules.specs.declared.answer.Answer.{Answer}
use Rattle.rules.specs.declared.fault.SaleFault.{SaleFault}
use Rattle.rules.specs.Books.{front}
use Rattle.rules.specs.declared.answer.Answer.TheVariants.{Told, Closed}
use Rattle.rules.specs.Sales.{State, Call, start, changeover, opening, enter, raise, close, reply, after}

-- a bid that was accepted, with its shares
pub record Entry : Type 0 where
  pub bid : Bid
  pub shares : ℕ

-- the lots that a start or a changeover answered, and the entries, numbered like steps
pub record Tally : Type 0 where
  pub lots : ℕ
  pub entries : List Entry

abbrev pub blank : Tally
blank = record { lots = 0; entries = [] }

abbrev pub no_entry : Entry
no_entry = record { bid = no_bid; shares = 0 }

abbrev pub new_entry : List Entry → ℕ → ℕ → ℕ → ℕ → ℕ → Entry
new_entry es seat market shares discount stamp = record {
  bid = record { number = suc (length es); seat = seat; market = market; discount = discount; stamp = stamp };
  shares = shares;
}

abbrev pub fewer : ℕ → Entry → Entry
fewer n e = record { bid = e.bid; shares = e.shares - n }

-- an accepted call is heard, with the number that it answered
unfoldable pub heard : Tally → ℕ → Call → Tally
heard t n (start deposits) = record { lots = 100; entries = t.entries }
heard t n (changeover first) = record { lots = n; entries = t.entries }
heard t n (opening row) = t
heard t n (enter seat market shares discount stamp) = record {
  lots = t.lots;
  entries = t.entries ++ (new_entry t.entries seat market shares discount stamp ∷ []);
}
heard t n (raise seat number shares discount stamp) =
    let e = slice_index_or t.entries (number - 1) no_entry in
    record {
      lots = t.lots;
      entries = slice_set t.entries (number - 1) (fewer shares e) ++ (new_entry t.entries e.bid.seat e.bid.market shares discount stamp ∷ []);
    }
heard t n close = t

-- a refused call is not
abbrev pub noted : Tally → Call → Result Answer SaleFault → Tally
noted t c (Ok (Told n)) = heard t n c
noted t c (Ok (Closed n b)) = t
noted t c (Err n) = t

-- the tally of a list of calls
abbrev pub tally : State → Tally → List Call → Tally
tally s t [] = t
tally s t (c ∷ cs) = tally (after s c) (noted t c (reply s c)) cs

abbrev pub entry_bid : Entry → Bid
entry_bid e = e.bid

abbrev pub entry_shares : Entry → ℕ
entry_shares e = e.shares

-- what an entry gets: its shares, as far as the lots reach behind all that rank ahead of it in its market
abbrev pub gets : Tally → Entry → ℕ
gets t e = min e.shares (t.lots - front entry_bid entry_shares t.entries e.bid)
