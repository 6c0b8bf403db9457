-- What a sale and its tally keep to from call to call.
use Rattle.std.proofs.Common.{◌≡◌, ℕ, zero, suc, ◌+◌, ◌-◌, ◌*◌, ◌<◌, ◌≤◌, Bool, true, false, cond, eqb, ltb, leb, ◌⊎◌, List, [], ◌∷◌, ◌++◌, map, length, get_or, set, replicate, None, Ok, Err, sym, refl, ap, ◌∙◌, subst, inl, inr, arith, length-set}
use lib.ListN.{length-map}
use Rattle.std.proofs.lemmas.List.{nil_from_length, map_push, map-set, get_or-map}
use Rattle.std.proofs.lemmas.Bool.{eqb-true, eqb-false, ltb-false, leb-false, both_ways, or_parts, not-false}
use Rattle.rules.specs.Lists.{In, listed}
use Rattle.sheets.specs.Figures.{Figures, Lawful}
use Rattle.steps.specs.declared.record.StepRecord.{StepRecord}
use Rattle.steps.specs.Rule.{no_step, all_standing}
use Rattle.rules.specs.Books.{bid_of, standing_of, rejects, hands, least, weighted}
use Rattle.rules.specs.declared.account.Account.{Account}
use Rattle.rules.specs.Sales.{State, fresh, nobody, account, increment, clearing_at, standing_weight, won_in, outside, taken, short, less, new_step, dollars, fixed, next_round, carried, settled_steps, Call, start, changeover, opening, enter, raise, close, Test, tests, Verdict, passed, failed, unless, verdict_of, verdict, done, answer, by_verdict, reply, after, run}
use Rattle.rules.specs.Parts.{begun}
use Rattle.rules.specs.Tallies.{Tally, Entry, blank, heard, noted, tally, no_entry, new_entry, fewer}
use Rattle.rules.specs.Fair.{entry_of}
use Rattle.rules.proofs.Totals.{total_push, in_push, in_set, in_at, in_map, listed_at}
use Rattle.rules.proofs.Ranks.{Numbered, numbered_map, numbered_push, numbered_set}
use Rattle.rules.proofs.Fits.{Above, Fit, EachFits, entered_fit, raised_fit, closed_fit, closed_entries}
use Rattle.rules.proofs.Weights.{weighted_closed, weighted_raised, owed_most, lapses_now, lapses_bought, carried_now, dollars_now, fixed_some}

-- a sale that has not begun
pub record Waiting (s : State) (t : Tally) : Type 0 where
  pub lawful : Lawful s.figures
  pub unseated : length s.accounts ≡ 0
  pub shut : s.opened ≡ false
  pub over : s.ended ≡ true
  pub no_lots : s.lots ≡ 0
  pub no_entries : t.entries ≡ []

-- a sale that has
pub record Going (s : State) (t : Tally) : Type 0 where
  pub lawful : Lawful s.figures
  pub same_lots : t.lots ≡ s.lots
  pub mirrored : t.entries ≡ map entry_of s.steps
  pub numbered : Numbered bid_of 1 s.steps
  pub fit : EachFits s.lots s.steps (clearing_at s)
  pub placed : (x : StepRecord) → In x s.steps → (1 ≤ x.bid.market) × (x.bid.market ≤ s.figures.markets)
  pub covered : (k : ℕ) → standing_weight s (suc k) ≤ (account s k).eligible
  pub within : (k : ℕ) → (account s k).eligible ≤ (account s k).bought
  pub stepped : s.opened ≡ true → (m : ℕ) → 1 ≤ m → m ≤ s.figures.markets → 1 ≤ increment s m

abbrev pub Phase : State → Tally → Type 0
Phase s t = Waiting s t ⊎ Going s t

-- a call that passes passes each test
abbrev pub Passed : List Test → Type 0
Passed [] = Unit {0}
Passed (t ∷ ts) = (t.fails ≡ false) × Passed ts

pub all_pass : (ts : List Test) → verdict_of ts ≡ passed → Passed ts
all_pass [] e = tt
all_pass (t ∷ ts) e = go t.fails refl (all_pass ts)
  where
    go : (b : Bool) → t.fails ≡ b → (verdict_of ts ≡ passed → Passed ts) → (t.fails ≡ false) × Passed ts
    go true p r =
        let f : failed t.refusal ≡ passed = sym (ap (λ b. unless b t.refusal (verdict_of ts)) p) ∙ e in
        let z : ◌≡◌ {A = ℕ} 0 1 = cc in absurd (omega arith)
    go false p r = (p, r (sym (ap (λ b. unless b t.refusal (verdict_of ts)) p) ∙ e))

pub inside : (n top : ℕ) → outside n top ≡ false → (1 ≤ n) × (n ≤ top)
inside n top e =
    let p = or_parts (eqb n 0) (ltb top n) e in
    (go n (eqb-false n 0 p.0), ltb-false top n p.1)
  where
    go : (n : ℕ) → (n ≡ 0 → ⊥) → 1 ≤ n
    go zero h = absurd (h refl)
    go (suc n) h = omega arith

pub free : (s : State) → taken s ≡ false → (length s.accounts ≡ 0) × (length s.steps ≡ 0)
free s e =
    let p = or_parts (ltb 0 (length s.accounts)) (ltb 0 (length s.steps)) e in
    (omega (arith, ltb-false 0 (length s.accounts) p.0), omega (arith, ltb-false 0 (length s.steps) p.1))

empty : (xs : List StepRecord) → length xs ≡ 0 → (x : StepRecord) → In x xs → ⊥
empty [] e x i = i
empty (y ∷ xs) e x i = omega arith

begins : (s : State) (t : Tally) (n : ℕ) (accounts : List Account) → Phase s t → taken s ≡ false →
    ((k : ℕ) → (get_or accounts k nobody).eligible ≡ (get_or accounts k nobody).bought) → Going (begun s n accounts) (record { lots = n; entries = t.entries })
begins s t n accounts ph e equal =
    let none = nil_from_length s.steps (free s e).1 in
    let no = empty s.steps (free s e).1 in
    record {
      lawful = lawful_of ph;
      same_lots = refl;
      mirrored = no_entries_of ph none ∙ sym (ap (map entry_of) none);
      numbered = subst (Numbered bid_of 1) (sym none) tt;
      fit = λ x i. absurd (no x i);
      placed = λ x i. absurd (no x i);
      covered = λ k. omega (arith, ap (weighted s.figures.weight (suc k) standing_of) none);
      within = λ k. omega (arith, equal k);
      stepped = stepped_of ph;
    }
  where
    lawful_of : Phase s t → Lawful s.figures
    lawful_of (inl w) = w.lawful
    lawful_of (inr g) = g.lawful

    no_entries_of : Phase s t → s.steps ≡ [] → t.entries ≡ []
    no_entries_of (inl w) none = w.no_entries
    no_entries_of (inr g) none = g.mirrored ∙ ap (map entry_of) none

    stepped_of : Phase s t → s.opened ≡ true → (m : ℕ) → 1 ≤ m → m ≤ s.figures.markets → 1 ≤ increment s m
    stepped_of (inl w) o = absurd (both_ways s.opened w.shut o)
    stepped_of (inr g) o = g.stepped o

-- one entry more beside one step more
entry_with : ℕ → ℕ → ℕ → ℕ → ℕ → ℕ → Entry
entry_with number seat market discount stamp shares = record { bid = record { number = number; seat = seat; market = market; discount = discount; stamp = stamp }; shares = shares }

abbrev step_with : List StepRecord → ℕ → ℕ → ℕ → ℕ → ℕ → StepRecord
step_with xs seat market shares discount stamp = record {
  bid = record { number = suc (length xs); seat = seat; market = market; discount = discount; stamp = stamp };
  shares = all_standing shares;
}

new_same : (es : List Entry) (xs : List StepRecord) → es ≡ map entry_of xs → (seat market shares discount stamp : ℕ) →
    new_entry es seat market shares discount stamp ≡ entry_of (step_with xs seat market shares discount stamp)
unfolding entry_with
new_same es xs e seat market shares discount stamp =
    let number : suc (length es) ≡ suc (length xs) = omega (arith, ap length e, length-map xs entry_of) in
    let sum : shares ≡ shares + 0 = omega arith in
    ap (λ n. entry_with n seat market discount stamp shares) number ∙ ap (entry_with (suc (length xs)) seat market discount stamp) sum

pushed : (es : List Entry) (xs : List StepRecord) → es ≡ map entry_of xs → (seat market shares discount stamp : ℕ) →
    es ++ (new_entry es seat market shares discount stamp ∷ []) ≡ map entry_of (xs ++ (step_with xs seat market shares discount stamp ∷ []))
pushed es xs e seat market shares discount stamp =
    let n = new_same es xs e seat market shares discount stamp in
    let m = map_push entry_of xs (step_with xs seat market shares discount stamp) in
    cc

enters : (s : State) (t : Tally) (seat market shares discount stamp : ℕ) → Going s t → Passed (tests s (enter seat market shares discount stamp)) →
    Going (done s (enter seat market shares discount stamp)) (heard t (suc (length s.steps)) (enter seat market shares discount stamp))
unfolding heard
enters s t seat market shares discount stamp g p =
    let n = new_step s seat market shares discount stamp in
    let placed-new = inside market s.figures.markets p.1.1.0 in
    record {
      lawful = g.lawful;
      same_lots = g.same_lots;
      mirrored = pushed t.entries s.steps g.mirrored seat market shares discount stamp;
      numbered = numbered_push bid_of 1 s.steps n (omega arith) g.numbered;
      fit = entered_fit s.lots s.steps (clearing_at s) n refl refl g.fit;
      placed = λ x i. at_new x (in_push s.steps n x i);
      covered = λ k. covers k (eqb seat (suc k)) refl;
      within = g.within;
      stepped = g.stepped;
    }
  where
    at_new : (x : StepRecord) → In x s.steps ⊎ (x ≡ new_step s seat market shares discount stamp) → (1 ≤ x.bid.market) × (x.bid.market ≤ s.figures.markets)
    at_new x (inl i) = g.placed x i
    at_new x (inr e) = let q = ap (λ y. y.bid.market) e in omega (arith, inside market s.figures.markets p.1.1.0)

    F : ℕ → StepRecord → ℕ
    F k x = cond (eqb x.bid.seat (suc k)) (x.shares.standing * s.figures.weight x.bid.market) 0

    covers : (k : ℕ) (b : Bool) → eqb seat (suc k) ≡ b → weighted s.figures.weight (suc k) standing_of (s.steps ++ (new_step s seat market shares discount stamp ∷ [])) ≤ (account s k).eligible
    covers k true e =
        let same = eqb-true seat (suc k) e in
        let enough = ltb-false (account s (seat - 1)).eligible (standing_weight s seat + shares * s.figures.weight market) p.1.1.1.1.1.1.1.0 in
        let here : (account s (seat - 1)).eligible ≡ (account s k).eligible = ap (λ j. (account s j).eligible) (omega arith) in
        omega (arith, total_push (F k) s.steps (new_step s seat market shares discount stamp), ap (λ b. cond b (shares * s.figures.weight market) 0) e, ap (standing_weight s) same)
    covers k false e =
        omega (arith, total_push (F k) s.steps (new_step s seat market shares discount stamp), ap (λ b. cond b (shares * s.figures.weight market) 0) e, g.covered k)

-- shares of an entry moved to a new one, beside the step's
moved_entry : (es : List Entry) (xs : List StepRecord) → es ≡ map entry_of xs → (i shares discount stamp : ℕ) → i < length xs → shares ≤ (get_or xs i no_step).shares.standing →
    set es i (fewer shares (get_or es i no_entry)) ++ (new_entry es (get_or es i no_entry).bid.seat (get_or es i no_entry).bid.market shares discount stamp ∷ [])
    ≡ map entry_of (set xs i (less shares (get_or xs i no_step)) ++ (step_with xs (get_or xs i no_step).bid.seat (get_or xs i no_step).bid.market shares discount stamp ∷ []))
moved_entry es xs e i shares discount stamp l enough =
    let x = get_or xs i no_step in
    let n = step_with xs x.bid.seat x.bid.market shares discount stamp in
    let q : get_or es i no_entry ≡ entry_of x = ap (λ es. get_or es i no_entry) e ∙ get_or-map entry_of xs i no_step no_entry l in
    let a : fewer shares (get_or es i no_entry) ≡ entry_of (less shares x) = ap (fewer shares) q ∙ ap (λ k. record { bid = x.bid; shares = k }) (omega arith) in
    let b : new_entry es (get_or es i no_entry).bid.seat (get_or es i no_entry).bid.market shares discount stamp ≡ entry_of n =
    ap (λ u. new_entry es u.bid.seat u.bid.market shares discount stamp) q ∙ new_same es xs e x.bid.seat x.bid.market shares discount stamp in
    let m₁ = map_push entry_of (set xs i (less shares x)) n in
    let m₂ = map-set entry_of xs i (less shares x) in
    cc

raises : (s : State) (t : Tally) (seat number shares discount stamp : ℕ) → Going s t → Passed (tests s (raise seat number shares discount stamp)) →
    Going (done s (raise seat number shares discount stamp)) (heard t (suc (length s.steps)) (raise seat number shares discount stamp))
unfolding heard
raises s t seat number shares discount stamp g p =
    record {
      lawful = g.lawful;
      same_lots = g.same_lots;
      mirrored = moved_entry t.entries xs g.mirrored i shares discount stamp there enough.1;
      numbered = numbered_push bid_of 1 ys n (omega (arith, length-set xs i y)) (numbered_set bid_of 1 xs i y no_step refl g.numbered);
      fit = raised_fit s.lots xs (clearing_at s) i shares (increment s x.bid.market) n there enough.1 (g.stepped (not-false s.opened p.0) x.bid.market old_placed.0 old_placed.1) refl refl refl refl
          p.1.1.1.1.1.1.1.0 bids.0 (leb-false discount x.bid.discount bids.1) g.fit;
      placed = λ z j. at_new z (in_push ys n z j);
      covered = λ k. omega (arith, weighted_raised s.figures.weight (suc k) xs i shares n there enough.1 refl refl refl, g.covered k);
      within = g.within;
      stepped = g.stepped;
    }
  where
    xs : List StepRecord
    xs = s.steps

    i : ℕ
    i = number - 1

    x : StepRecord
    x = get_or s.steps (number - 1) no_step

    y : StepRecord
    y = less shares x

    ys : List StepRecord
    ys = set s.steps (number - 1) y

    n : StepRecord
    n = new_step s x.bid.seat x.bid.market shares discount stamp

    there : number - 1 < length s.steps
    there = omega (arith, inside number (length s.steps) p.1.1.0)

    enough : (1 ≤ shares) × (shares ≤ x.shares.standing)
    enough = inside shares x.shares.standing p.1.1.1.1.0

    bids : (short (clearing_at s x.bid.market) (increment s x.bid.market) discount ≡ false) × (leb discount x.bid.discount ≡ false)
    bids = or_parts (short (clearing_at s x.bid.market) (increment s x.bid.market) discount) (leb discount x.bid.discount) p.1.1.1.1.1.1.1.1.0

    old_placed : (1 ≤ x.bid.market) × (x.bid.market ≤ s.figures.markets)
    old_placed = g.placed x (in_at s.steps (number - 1) no_step there)

    at_set : (z : StepRecord) → In z s.steps ⊎ (z ≡ y) → (1 ≤ z.bid.market) × (z.bid.market ≤ s.figures.markets)
    at_set z (inl j) = g.placed z j
    at_set z (inr e) = let q : z.bid.market ≡ x.bid.market = ap (λ v. v.bid.market) e in omega (arith, old_placed)

    at_new : (z : StepRecord) → In z ys ⊎ (z ≡ n) → (1 ≤ z.bid.market) × (z.bid.market ≤ s.figures.markets)
    at_new z (inl j) = at_set z (in_set s.steps (number - 1) y z j)
    at_new z (inr e) = let q : z.bid.market ≡ x.bid.market = ap (λ v. v.bid.market) e in omega (arith, old_placed)

pub closes : (s : State) (t : Tally) → Going s t → Going (done s close) t
closes s t g = record {
  lawful = g.lawful;
  same_lots = g.same_lots;
  mirrored = g.mirrored ∙ sym (closed_entries s.lots s.steps (clearing_at s) g.fit);
  numbered = numbered_map bid_of bid_of (hands s.lots (map rejects s.steps)) (λ x. refl) 1 (map rejects s.steps) (numbered_map bid_of bid_of rejects (λ x. refl) 1 s.steps g.numbered);
  fit = λ x i. refit x (put x i) (closed_fit s.lots s.steps (clearing_at s) g.fit x i);
  placed = λ x i. put x i;
  covered = λ k. omega (arith, weighted_closed s.figures.weight (suc k) s.lots s.steps, g.covered k, lapses_now s 1 s.accounts k (suc k) (omega arith), owed_most s.figures s.round (account s k).eligible g.lawful);
  within = λ k. omega (arith, lapses_now s 1 s.accounts k (suc k) (omega arith), lapses_bought s 1 s.accounts k, g.within k);
  stepped = λ o. absurd (both_ways false refl o);
}
  where
    -- the list of clearing discounts has each market's
    refit : (x : StepRecord) → (1 ≤ x.bid.market) × (x.bid.market ≤ s.figures.markets) → Fit s.lots (settled_steps s) (λ m. least m (settled_steps s)) x →
        Fit s.lots (settled_steps s) (λ m. get_or (listed (λ m. least m (settled_steps s)) 1 7) (m - 1) None) x
    refit x p f = record {
      fits = f.fits;
      filled = f.filled;
      cleared = λ l. subst (Above x.bid.discount) (sym (listed_at (λ m. least m (settled_steps s)) 1 7 (x.bid.market - 1) x.bid.market None (omega (arith, g.lawful.few_markets)) (omega arith))) (f.cleared l);
    }

    put : (x : StepRecord) → In x (settled_steps s) → (1 ≤ x.bid.market) × (x.bid.market ≤ s.figures.markets)
    put x i =
        let u = in_map (hands s.lots (map rejects s.steps)) (map rejects s.steps) x i in
        let v = in_map rejects s.steps u.0 u.1 in
        let e : x.bid.market ≡ v.0.bid.market = ap (λ z. z.bid.market) u.2 ∙ ap (λ z. z.bid.market) v.2 in
        omega (arith, g.placed v.0 v.1)

starts : (s : State) (t : Tally) (deposits : List ℕ) → Phase s t → Passed (tests s (start deposits)) → Going (done s (start deposits)) (heard t 100 (start deposits))
unfolding heard
starts s t deposits ph p = begins s t 100 (map dollars deposits) ph p.1.1.0 (dollars_now deposits)

changes : (s : State) (t : Tally) (first : State) → Phase s t → Passed (tests s (changeover first)) →
    Going (done s (changeover first)) (heard t (first.lots - won_in first) (changeover first))
unfolding heard
changes s t first ph p = begins s t (first.lots - won_in first) (carried first 1 first.accounts) ph p.1.1.1.0 (carried_now first 1 first.accounts)

padded_some : (row : List ℕ) (k j : ℕ) → j < length row → 1 ≤ get_or (map fixed row ++ replicate k 0) j 0
padded_some [] k j h = absurd (omega arith)
padded_some (n ∷ row) k zero h = fixed_some n
padded_some (n ∷ row) k (suc j) h = padded_some row k j (omega arith)

opens : (s : State) (t : Tally) (row : List ℕ) → length row ≡ s.figures.markets → Going s t → Going (done s (opening row)) (heard t (next_round s) (opening row))
unfolding heard
opens s t row long g = record {
  lawful = g.lawful;
  same_lots = g.same_lots;
  mirrored = g.mirrored;
  numbered = g.numbered;
  fit = g.fit;
  placed = g.placed;
  covered = g.covered;
  within = g.within;
  stepped = λ o m low high. padded_some row (7 - length row) (m - 1) (omega arith);
}

-- an accepted call leaves a sale that has begun
accepted : (s : State) (t : Tally) (c : Call) → Phase s t → Passed (tests s c) → Going (done s c) (noted t c (Ok (answer s c)))
accepted s t (start deposits) ph p = starts s t deposits ph p
accepted s t (changeover first) ph p = changes s t first ph p
accepted s t (opening row) (inl w) p = absurd (both_ways s.ended p.0 w.over)
accepted s t (opening row) (inr g) p = opens s t row (eqb-true (length row) s.figures.markets (not-false _ p.1.1.0)) g
accepted s t (enter seat market shares discount stamp) (inl w) p = absurd (both_ways s.opened w.shut (not-false s.opened p.0))
accepted s t (enter seat market shares discount stamp) (inr g) p = enters s t seat market shares discount stamp g p
accepted s t (raise seat number shares discount stamp) (inl w) p = absurd (both_ways s.opened w.shut (not-false s.opened p.0))
accepted s t (raise seat number shares discount stamp) (inr g) p = raises s t seat number shares discount stamp g p
accepted s t close (inl w) p = absurd (both_ways s.opened w.shut (not-false s.opened p.0))
accepted s t close (inr g) p = closes s t g

pub stays : (s : State) (t : Tally) (c : Call) → Phase s t → Phase (after s c) (noted t c (reply s c))
stays s t c ph = go (verdict s c) refl
  where
    go : (v : Verdict) → verdict s c ≡ v → Phase (by_verdict v (done s c) (λ _. s)) (noted t c (by_verdict v (Ok (answer s c)) Err))
    go passed e = inr (accepted s t c ph (all_pass (tests s c) e))
    go (failed n) e = ph

pub stays_run : (s : State) (t : Tally) (cs : List Call) → Phase s t → Phase (run s cs) (tally s t cs)
stays_run s t [] ph = ph
stays_run s t (c ∷ cs) ph = stays_run (after s c) (noted t c (reply s c)) cs (stays s t c ph)

pub waits : (f : Figures) (size : ℕ) (book : List StepRecord) → Lawful f → Phase (fresh f size book) blank
waits f size book l = inl (record { lawful = l; unseated = refl; shut = refl; over = refl; no_lots = refl; no_entries = refl })

-- so every run of a new sale is in one of the phases
pub reaches : (f : Figures) → Lawful f → (size : ℕ) (book : List StepRecord) (calls : List Call) → Phase (run (fresh f size book) calls) (tally (fresh f size book) blank calls)
reaches f l size book calls = stays_run (fresh f size book) blank calls (waits f size book l)
