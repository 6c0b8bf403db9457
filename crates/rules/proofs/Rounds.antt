-- How many rounds a sale can have: past the opening rounds each but the last has a raise, which adds a step to one that was there.
use Rattle.std.specs.List.{AllByRecursion}
use Rattle.std.proofs.Common.{◌≡◌, ℕ, zero, suc, ◌+◌, ◌-◌, ◌<◌, ◌≤◌, max, Bool, true, false, not, ◌&&◌, eqb, ltb, ◌⊎◌, List, [], ◌∷◌, map, length, set, sym, refl, ap, ◌∙◌, inl, inr, arith, length-set}
use lib.ListN.{length-map}
use Rattle.std.proofs.lemmas.List.{length_push}
use Rattle.std.proofs.lemmas.Bool.{eqb-false, ltb-false, both_ways, not-false, cases_lt}
use Rattle.sheets.specs.Figures.{Figures}
use Rattle.steps.specs.declared.record.StepRecord.{StepRecord}
use Rattle.rules.specs.declared.account.Account.{Account}
use Rattle.rules.specs.Parts.{begun, unsold}
use Rattle.rules.specs.Sales.{State, fresh, step_at, taken, Verdict, passed, failed, dollars, carried, new_step, less, Call, start, changeover, opening, enter, raise, close, tests, verdict, done, by_verdict, after, run}
use Rattle.rules.specs.Books.{rejects, hands}
use Rattle.rules.specs.Fair.{Seated, RealCall}
use Rattle.rules.specs.Rounds.{most_rounds}
use Rattle.rules.proofs.Weights.{length_lapses, length_carried}
use Rattle.rules.proofs.Phases.{Passed, all_pass, inside, free}
use Rattle.rules.proofs.Runs.{some_lots}

-- as many rounds as the steps so far allow for
abbrev pace : State → ℕ
pace s = s.figures.openings + max 1 (length s.steps)

record Unbegun (s : State) : Type 0 where
  no_round : s.round ≡ 0
  over : s.ended ≡ true
  shut : s.opened ≡ false

record Timely (s : State) : Type 0 where
  in_time : s.round ≤ pace s
  -- a round more is left once somebody raised, and before an opening
  once_raised : s.opened ≡ true → s.raised ≡ true → s.round < pace s
  before_opening : s.opened ≡ false → s.ended ≡ false → s.round < pace s
  room : Seated s → length s.steps ≤ s.size
  unbegun : length s.accounts ≡ 0 → Unbegun s

begins_timely : (s : State) (lots : ℕ) (accounts : List Account) → taken s ≡ false → Timely s → 0 < length accounts → Timely (begun s lots accounts)
begins_timely s lots accounts e t some =
    let f = free s e in
    let u = t.unbegun f.0 in
    record {
      in_time = t.in_time;
      once_raised = λ o r. omega (arith, u.no_round);
      before_opening = λ o n. omega (arith, u.no_round);
      room = λ h. omega (arith, f.1);
      unbegun = λ none. absurd (omega arith);
    }

-- a step more
record Longer (s s' : State) : Type 0 where
  same_openings : s'.figures.openings ≡ s.figures.openings
  one_more : length s'.steps ≡ suc (length s.steps)
  same_round : s'.round ≡ s.round
  same_size : s'.size ≡ s.size
  same_accounts : s'.accounts ≡ s.accounts
  still_open : s'.opened ≡ true

longer_timely : (s s' : State) → Longer s s' → s.opened ≡ true → eqb (length s.steps) s.size ≡ false → Timely s → (s'.raised ≡ true → s.round < pace s') → Timely s'
longer_timely s s' l o full t raises = record {
  in_time = omega (arith, l.same_openings, l.one_more, l.same_round, t.in_time);
  once_raised = λ _ r. omega (arith, l.same_round, raises r);
  before_opening = λ shut _. absurd (both_ways s'.opened shut l.still_open);
  room = λ h. fits (t.room (omega (arith, ap length l.same_accounts))) (eqb-false (length s.steps) s.size full);
  unbegun = λ none. absurd (both_ways s.opened (t.unbegun (sym (ap length l.same_accounts) ∙ none)).shut o);
}
  where
    fits : length s.steps ≤ s.size → (length s.steps ≡ s.size → ⊥) → length s'.steps ≤ s'.size
    fits most ne = go (cases_lt (length s.steps) s.size)
      where
        go : (length s.steps < s.size) ⊎ (s.size ≤ length s.steps) → length s'.steps ≤ s'.size
        go (inl h) = omega (arith, l.one_more, l.same_size)
        go (inr h) = absurd (ne (omega arith))

closes_timely : (s : State) → s.opened ≡ true → Timely s → Timely (done s close)
closes_timely s o t =
    let long : length (done s close).steps ≡ length s.steps = length-map (map rejects s.steps) (hands s.lots (map rejects s.steps)) ∙ length-map s.steps rejects in
    record {
      in_time = omega (arith, t.in_time);
      once_raised = λ open' _. absurd (both_ways false refl open');
      before_opening = λ _ goes. go_on long (ltb s.figures.openings s.round) s.raised refl refl goes;
      room = λ h. omega (arith, length_lapses s 1 s.accounts, t.room (omega (arith, length_lapses s 1 s.accounts)));
      unbegun = λ none. absurd (both_ways s.opened (t.unbegun (sym (length_lapses s 1 s.accounts) ∙ none)).shut o);
    }
  where
    go_on : length (done s close).steps ≡ length s.steps → (past raised : Bool) → ltb s.figures.openings s.round ≡ past → s.raised ≡ raised → (past && not raised) ≡ false → s.round < pace (done s close)
    go_on long past true p r e = omega (arith, t.once_raised o r)
    go_on long false false p r e = omega (arith, ltb-false s.figures.openings s.round p)
    go_on long true false p r e = absurd (both_ways true e refl)

-- a first sale with lots has a seat
abbrev pub Peopled : State → Type 0
Peopled first = 0 < first.lots → Seated first

carries_timely : (s first : State) → Timely s → Peopled first → Passed (tests s (changeover first)) → Timely (done s (changeover first))
carries_timely s first t peopled p =
    begins_timely s (unsold first) (carried first 1 first.accounts) p.1.1.1.0 t
    (omega (arith, length_carried first 1 first.accounts, peopled (omega (arith, some_lots first p.1.1.0))))

opens_timely : (s : State) (row : List ℕ) → Timely s → Passed (tests s (opening row)) → Timely (done s (opening row))
opens_timely s row t p = record {
  in_time = omega (arith, t.before_opening p.1.0 p.0);
  once_raised = λ _ r. absurd (both_ways false refl r);
  before_opening = λ shut _. absurd (both_ways true shut refl);
  room = t.room;
  unbegun = λ none. absurd (both_ways s.ended p.0 (t.unbegun none).over);
}

enters_timely : (s : State) (seat market shares discount stamp : ℕ) → Timely s → Passed (tests s (enter seat market shares discount stamp)) → Timely (done s (enter seat market shares discount stamp))
enters_timely s seat market shares discount stamp t p =
    let o = not-false s.opened p.0 in
    let long = length_push s.steps (new_step s seat market shares discount stamp) in
    longer_timely s (done s (enter seat market shares discount stamp))
    (record { same_openings = refl; one_more = omega (arith, long); same_round = refl; same_size = refl; same_accounts = refl; still_open = o })
    o p.1.1.1.1.1.1.1.1.0 t (λ r. omega (arith, long, t.once_raised o r))

raises_timely : (s : State) (seat number shares discount stamp : ℕ) → Timely s → Passed (tests s (raise seat number shares discount stamp)) → Timely (done s (raise seat number shares discount stamp))
raises_timely s seat number shares discount stamp t p =
    let o = not-false s.opened p.0 in
    let x = step_at s number in
    let kept = set s.steps (number - 1) (less shares x) in
    let long : length (done s (raise seat number shares discount stamp)).steps ≡ suc (length s.steps) =
    omega (arith, length_push kept (new_step s x.bid.seat x.bid.market shares discount stamp), length-set s.steps (number - 1) (less shares x)) in
    longer_timely s (done s (raise seat number shares discount stamp))
    (record { same_openings = refl; one_more = long; same_round = refl; same_size = refl; same_accounts = refl; still_open = o })
    o p.1.1.1.1.1.1.1.1.1.0 t (λ _. omega (arith, inside number (length s.steps) p.1.1.0, t.in_time))

timely_done : (s : State) (c : Call) → Timely s → RealCall Peopled c → Passed (tests s c) → Timely (done s c)
timely_done s (start deposits) t f p =
    begins_timely s 100 (map dollars deposits) p.1.1.0 t (omega (arith, length-map deposits dollars, inside (length deposits) 24 p.0))
timely_done s (changeover first) t f p = carries_timely s first t f p
timely_done s (opening row) t f p = opens_timely s row t p
timely_done s (enter seat market shares discount stamp) t f p = enters_timely s seat market shares discount stamp t p
timely_done s (raise seat number shares discount stamp) t f p = raises_timely s seat number shares discount stamp t p
timely_done s close t f p = closes_timely s (not-false s.opened p.0) t

timely_after : (s : State) (c : Call) → Timely s → RealCall Peopled c → Timely (after s c)
timely_after s c t f = go (verdict s c) refl
  where
    go : (v : Verdict) → verdict s c ≡ v → Timely (by_verdict v (done s c) (λ _. s))
    go passed e = timely_done s c t f (all_pass (tests s c) e)
    go (failed n) e = t

timely_run : (s : State) (cs : List Call) → Timely s → AllByRecursion (RealCall Peopled) cs → Timely (run s cs)
timely_run s [] t f = t
timely_run s (c ∷ cs) t f = timely_run (after s c) cs (timely_after s c t f.0) f.1

fresh_timely : (f : Figures) (size : ℕ) (book : List StepRecord) → Timely (fresh f size book)
fresh_timely f size book = record {
  in_time = omega arith;
  once_raised = λ o _. absurd (both_ways false refl o);
  before_opening = λ _ e. absurd (both_ways true e refl);
  room = λ h. absurd (omega arith);
  unbegun = λ _. record { no_round = refl; over = refl; shut = refl };
}

pub few_rounds : (f : Figures) (size : ℕ) (book : List StepRecord) (calls : List Call) → AllByRecursion (RealCall Peopled) calls →
    (run (fresh f size book) calls).round ≤ most_rounds (run (fresh f size book) calls)
few_rounds f size book calls real = go (length s.accounts) refl (timely_run (fresh f size book) calls (fresh_timely f size book) real)
  where
    s : State
    s = run (fresh f size book) calls

    go : (n : ℕ) → length (run (fresh f size book) calls).accounts ≡ n → Timely (run (fresh f size book) calls) →
        (run (fresh f size book) calls).round ≤ most_rounds (run (fresh f size book) calls)
    go zero e t = omega (arith, (t.unbegun e).no_round)
    go (suc n) e t = omega (arith, t.in_time, t.room (omega arith))
