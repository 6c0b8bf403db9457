-- Every run is fair.
use Rattle.std.specs.List.{AllByRecursion}
use Rattle.std.proofs.Common.{◌≡◌, ℕ, zero, suc, ◌+◌, ◌-◌, ◌*◌, ◌<◌, ◌≤◌, false, eqb, ◌⊎◌, List, [], ◌∷◌, ◌++◌, length, get_or, sym, refl, ap, ◌∙◌, subst, inl, inr, arith}
use lib.ListN.{length-map}
use Rattle.std.proofs.lemmas.Bool.{eqb-false, ltb-false, both_ways, not-false, cases_lt}
use Rattle.rules.specs.Lists.{In}
use Rattle.sheets.specs.Figures.{Lawful}
use Rattle.steps.specs.declared.record.StepRecord.{StepRecord}
use Rattle.rules.specs.Books.{won, of_seat}
use Rattle.rules.specs.Sales.{State, fresh, nobody, account, clearing_at, standing_weight, won_in, dollars, lapses, carried, settled_steps, Call, start, changeover, opening, enter, raise, close, tests, Verdict, passed, failed, verdict, done, by_verdict, after, run}
use Rattle.rules.specs.Tallies.{Tally, blank, noted, tally}
use Rattle.rules.specs.Fair.{Seated, WonAsTallied, FairRun, RunsFair, RealCall, Real, Shared, ChangeoversFair, RunsAreFair, new_sale, Reached, Shares, FairOutcome, StaysFair}
use Rattle.rules.proofs.Fits.{closed_won, closed_market}
use Rattle.rules.proofs.Weights.{weighted_won, one_market, lapses_now, lapses_bought, length_lapses, carried_bought, length_carried}
use Rattle.rules.proofs.Phases.{Going, Phase, Passed, all_pass, inside, free, closes, stays, stays_run, reaches}

-- what stays while a sale has a seat
record Steady (s s' : State) : Type 0 where
  seated : Seated s'
  lots_same : s'.lots ≡ s.lots
  bought_same : (k : ℕ) → (account s' k).bought ≡ (account s k).bought
  now_falls : (k : ℕ) → (account s' k).eligible ≤ (account s k).eligible

same : (s s' : State) → Seated s → s'.accounts ≡ s.accounts → s'.lots ≡ s.lots → Steady s s'
same s s' h a l = record {
  seated = omega (arith, ap length a);
  lots_same = l;
  bought_same = λ k. ap (λ as'. (get_or as' k nobody).bought) a;
  now_falls = λ k. omega (arith, ap (λ as'. (get_or as' k nobody).eligible) a);
}

steady_done : (s : State) (c : Call) → Seated s → Passed (tests s c) → Steady s (done s c)
steady_done s (start deposits) h p = absurd (omega (arith, free s p.1.1.0))
steady_done s (changeover first) h p = absurd (omega (arith, free s p.1.1.1.0))
steady_done s (opening row) h p = same s (done s (opening row)) h refl refl
steady_done s (enter seat market shares discount stamp) h p = same s (done s (enter seat market shares discount stamp)) h refl refl
steady_done s (raise seat number shares discount stamp) h p = same s (done s (raise seat number shares discount stamp)) h refl refl
steady_done s close h p = record {
  seated = omega (arith, length_lapses s 1 s.accounts);
  lots_same = refl;
  bought_same = lapses_bought s 1 s.accounts;
  now_falls = λ k. omega (arith, lapses_now s 1 s.accounts k (suc k) (omega arith));
}

steady : (s : State) (c : Call) → Seated s → Steady s (after s c)
steady s c h = go (verdict s c) refl
  where
    go : (v : Verdict) → verdict s c ≡ v → Steady s (by_verdict v (done s c) (λ _. s))
    go passed e = steady_done s c h (all_pass (tests s c) e)
    go (failed n) e = same s s h refl refl

steady_run : (s : State) (cs : List Call) → Seated s → Steady s (run s cs)
steady_run s [] h = same s s h refl refl
steady_run s (c ∷ cs) h =
    let a = steady s c h in
    let b = steady_run (after s c) cs a.seated in
    record {
      seated = b.seated;
      lots_same = b.lots_same ∙ a.lots_same;
      bought_same = λ k. b.bought_same k ∙ a.bought_same k;
      now_falls = λ k. omega (arith, a.now_falls k, b.now_falls k);
    }

-- a sale that is open has begun
pub going_open : (s : State) (t : Tally) → Phase s t → verdict s close ≡ passed → Going s t
going_open s t (inl w) e = absurd (both_ways s.opened w.shut (not-false s.opened (all_pass (tests s close) e).0))
going_open s t (inr g) e = g

pub going_seated : (s : State) (t : Tally) → Phase s t → Seated s → Going s t
going_seated s t (inl w) h = absurd (omega (arith, w.unseated))
going_seated s t (inr g) h = g

fair : (s : State) (t : Tally) → Phase s t → FairRun s t
fair s t ph = record {
  kept = λ h. let g = going_seated s t ph h in
      record { mirrored = g.mirrored; covered = g.covered; within = g.within; falls = λ c k. (steady s c h).now_falls k };
  won_fairly = λ e. let g = going_open s t ph e in
      subst (λ v. WonAsTallied (by_verdict v (done s close) (λ _. s)) t) (sym e) (closed_won s.lots s.steps (clearing_at s) g.fit t g.same_lots g.mirrored);
}

runs_fair : RunsFair
runs_fair f l size book calls = fair (run (fresh f size book) calls) (tally (fresh f size book) blank calls) (reaches f l size book calls)

-- a sale that is what a run leaves has a hundred lots at most, and a seat if it has any
pub record Sound (s : State) : Type 0 where
  pub few : s.lots ≤ 100
  pub has_seat : 0 < s.lots → Seated s

sound_done : (s : State) (c : Call) → Sound s → RealCall Sound c → Passed (tests s c) → Sound (done s c)
sound_done s (start deposits) h r p = record { few = omega arith; has_seat = λ _. omega (arith, length-map deposits dollars, inside (length deposits) 24 p.0) }
sound_done s (changeover first) h r p = record { few = omega (arith, r.few); has_seat = λ l. omega (arith, length_carried first 1 first.accounts, r.has_seat (omega arith)) }
sound_done s (opening row) h r p = record { few = h.few; has_seat = h.has_seat }
sound_done s (enter seat market shares discount stamp) h r p = record { few = h.few; has_seat = h.has_seat }
sound_done s (raise seat number shares discount stamp) h r p = record { few = h.few; has_seat = h.has_seat }
sound_done s close h r p = record { few = h.few; has_seat = λ l. omega (arith, length_lapses s 1 s.accounts, h.has_seat l) }

sound_after : (s : State) (c : Call) → Sound s → RealCall Sound c → Sound (after s c)
sound_after s c h r = go (verdict s c) refl
  where
    go : (v : Verdict) → verdict s c ≡ v → Sound (by_verdict v (done s c) (λ _. s))
    go passed e = sound_done s c h r (all_pass (tests s c) e)
    go (failed n) e = h

sound_run : (s : State) (cs : List Call) → Sound s → AllByRecursion (RealCall Sound) cs → Sound (run s cs)
sound_run s [] h r = h
sound_run s (c ∷ cs) h r = sound_run (after s c) cs (sound_after s c h r.0) r.1

real_call : (P Q : State → Type 0) → ((s : State) → P s → Q s) → (c : Call) → RealCall P c → RealCall Q c
real_call P Q f (start deposits) r = tt
real_call P Q f (changeover first) r = f first r
real_call P Q f (opening row) r = tt
real_call P Q f (enter seat market shares discount stamp) r = tt
real_call P Q f (raise seat number shares discount stamp) r = tt
real_call P Q f close r = tt

pub real_calls : (P Q : State → Type 0) → ((s : State) → P s → Q s) → (cs : List Call) → AllByRecursion (RealCall P) cs → AllByRecursion (RealCall Q) cs
real_calls P Q f [] r = tt
real_calls P Q f (c ∷ cs) r = (real_call P Q f c r.0, real_calls P Q f cs r.1)

pub real_sound : (n : ℕ) (s : State) → Real n s → Sound s
real_sound zero s r = elim r [ ]
real_sound (suc n) s r =
    subst Sound (sym r.6) (sound_run (fresh r.0 r.2 r.3) r.4 (record { few = omega arith; has_seat = λ l. absurd (omega arith) }) (real_calls (Real n) Sound (real_sound n) r.4 r.5))

real_phase : (n : ℕ) (s : State) → Real n s → (t : Tally) × Phase s t
real_phase zero s r = elim r [ ]
real_phase (suc n) s r =
    let start = fresh r.0 r.2 r.3 in
    let t = tally start blank r.4 in
    (t, subst (λ s. Phase s t) (sym r.6) (reaches r.0 r.1 r.2 r.3 r.4))

going_lots : (s : State) (t : Tally) → Phase s t → 0 < s.lots → Going s t
going_lots s t (inl w) h = absurd (omega (arith, w.no_lots))
going_lots s t (inr g) h = g

pub some_lots : (first : State) → eqb (first.lots - won_in first) 0 ≡ false → won_in first < first.lots
some_lots first e = go (cases_lt (won_in first) first.lots)
  where
    go : (won_in first < first.lots) ⊎ (first.lots ≤ won_in first) → won_in first < first.lots
    go (inl l) = l
    go (inr l) = absurd (eqb-false (first.lots - won_in first) 0 e (omega arith))

-- a sale right after an accepted changeover
record Carried (first s : State) : Type 0 where
  left : won_in first < first.lots
  one : first.figures.markets ≤ 1
  lots_left : s.lots ≡ first.lots - won_in first
  seats_same : length s.accounts ≡ length first.accounts
  bought_left : (k : ℕ) → (account s k).bought ≡ (account first k).bought - first.figures.weight 1 * of_seat (suc k) won first.steps

carried_over : (s first : State) → verdict s (changeover first) ≡ passed → Carried first (after s (changeover first))
carried_over s first e =
    let p = all_pass (tests s (changeover first)) e in
    subst (λ v. Carried first (by_verdict v (done s (changeover first)) (λ _. s))) (sym e) (record {
      left = some_lots first p.1.1.0;
      one = ltb-false 1 first.figures.markets p.1.0;
      lots_left = refl;
      seats_same = length_carried first 1 first.accounts;
      bought_left = λ k. carried_bought first 1 first.accounts k (suc k) (omega arith);
    })

-- a later closing, where the sale was carried over from first
shared : (first s later : State) (t₁ t : Tally) → Sound first → Going first t₁ → Carried first s → Steady s later → Going later t → Shared first (done later close)
shared first s later t₁ t sound g₁ c st g = record {
  lots_shared = λ m. omega (arith, closed_market later.lots later.steps (clearing_at later) g.fit m g.numbered, st.lots_same, c.lots_left, c.left, sound.few);
  paid = λ k.
      omega (
        arith,
        one_market first.figures.weight (suc k) won first.steps ones,
        weighted_won first.figures.weight (suc k) first.steps,
        g₁.covered k,
        g₁.within k,
        weighted_won later.figures.weight (suc k) (settled_steps later),
        (closes later t g).covered k,
        (closes later t g).within k,
        lapses_bought later 1 later.accounts k,
        st.bought_same k,
        c.bought_left k,
      );
}
  where
    ones : (x : StepRecord) → In x first.steps → x.bid.market ≡ 1
    ones x i = omega (arith, g₁.placed x i, c.one)

changeovers_fair : ChangeoversFair
changeovers_fair f l size book calls rest first n r e e₂ =
    let s = run (fresh f size book) calls in
    let t = tally (fresh f size book) blank calls in
    let s₂ = after s (changeover first) in
    let t₂ = noted t (changeover first) (Rattle.rules.specs.Sales.reply s (changeover first)) in
    let later = run s₂ rest in
    let t₃ = tally s₂ t₂ rest in
    let ph = stays_run s₂ t₂ rest (stays s t (changeover first) (reaches f l size book calls)) in
    let c = carried_over s first e in
    let sound = real_sound n first r in
    let first-phase = real_phase n first r in
    let g₁ = going_lots first first-phase.0 first-phase.1 (omega (arith, c.left)) in
    let seated : Seated s₂ = omega (arith, c.seats_same, sound.has_seat (omega (arith, c.left))) in
    subst (λ v. Shared first (by_verdict v (done later close) (λ _. later))) (sym e₂)
    (shared first s₂ later first-phase.0 t₃ sound g₁ c (steady_run s₂ rest seated) (going_open later t₃ ph e₂))

pub runs_are_fair : RunsAreFair
runs_are_fair = (runs_fair, changeovers_fair)

-- a call leaves the sheet and the size
record SameSale (s s' : State) : Type 0 where
  figures_same : s'.figures ≡ s.figures
  size_same : s'.size ≡ s.size

same_done : (s : State) (c : Call) → SameSale s (done s c)
same_done s (start deposits) = record { figures_same = refl; size_same = refl }
same_done s (changeover first) = record { figures_same = refl; size_same = refl }
same_done s (opening row) = record { figures_same = refl; size_same = refl }
same_done s (enter seat market shares discount stamp) = record { figures_same = refl; size_same = refl }
same_done s (raise seat number shares discount stamp) = record { figures_same = refl; size_same = refl }
same_done s close = record { figures_same = refl; size_same = refl }

same_after : (s : State) (c : Call) → SameSale s (after s c)
same_after s c = go (verdict s c)
  where
    go : (v : Verdict) → SameSale s (by_verdict v (done s c) (λ _. s))
    go passed = same_done s c
    go (failed n) = record { figures_same = refl; size_same = refl }

same_run : (s : State) (cs : List Call) → SameSale s (run s cs)
same_run s [] = record { figures_same = refl; size_same = refl }
same_run s (c ∷ cs) =
    let a = same_after s c in
    let b = same_run (after s c) cs in
    record { figures_same = b.figures_same ∙ a.figures_same; size_same = b.size_same ∙ a.size_same }

pub run_append : (s : State) (cs ds : List Call) → run s (cs ++ ds) ≡ run (run s cs) ds
run_append s [] ds = refl
run_append s (c ∷ cs) ds = run_append (after s c) cs ds

shares : (s : State) (book : List StepRecord) (calls : List Call) → Lawful s.figures → Reached s book calls → Shares s book calls
shares s book calls l r earlier rest first n real e e₁ e₂ =
    let whole : s ≡ run (after (run (new_sale s book) earlier) (changeover first)) rest =
    r ∙ ap (run (new_sale s book)) e ∙ run_append (new_sale s book) earlier (changeover first ∷ rest) in
    subst (λ z. Shared first (after z close)) (sym whole)
    (changeovers_fair s.figures l s.size book earlier rest first n real e₁ (subst (λ z. verdict z close ≡ passed) whole e₂))

-- a call adds one round at most
rounds_done : (s : State) (c : Call) → (done s c).round ≤ s.round + 1
rounds_done s (start deposits) = omega arith
rounds_done s (changeover first) = omega arith
rounds_done s (opening row) = omega arith
rounds_done s (enter seat market shares discount stamp) = omega arith
rounds_done s (raise seat number shares discount stamp) = omega arith
rounds_done s close = omega arith

rounds_after : (s : State) (c : Call) → (after s c).round ≤ s.round + 1
rounds_after s c = go (verdict s c)
  where
    go : (v : Verdict) → (by_verdict v (done s c) (λ _. s)).round ≤ s.round + 1
    go passed = rounds_done s c
    go (failed n) = omega arith

rounds_run : (s : State) (cs : List Call) → (run s cs).round ≤ s.round + length cs
rounds_run s [] = omega arith
rounds_run s (c ∷ cs) = omega (arith, rounds_after s c, rounds_run (after s c) cs)

outcome : (s : State) (book : List StepRecord) (calls : List Call) → Lawful s.figures → Reached s book calls → FairOutcome s book calls
outcome s book calls l r = record {
  reached = r;
  fair = subst (λ z. FairRun z (tally (new_sale s book) blank calls)) (sym r) (runs_fair s.figures l s.size book calls);
  shares = shares s book calls l r;
  rounds = omega (arith, ap (λ z. z.round) r, rounds_run (new_sale s book) calls);
  real = λ n all. (s.figures, l, s.size, book, calls, all, r);
}

reached_run : (s : State) (more : List Call) (book : List StepRecord) (calls : List Call) → Reached s book calls → Reached (run s more) book (calls ++ more)
reached_run s more book calls r =
    let same = same_run s more in
    let new : new_sale (run s more) book ≡ new_sale s book = ap (λ f. fresh f (run s more).size book) same.figures_same ∙ ap (λ n. fresh s.figures n book) same.size_same in
    ap (λ z. run z more) r ∙ sym (run_append (new_sale s book) calls more) ∙ ap (λ z. run z (calls ++ more)) (sym new)

-- whatever led to s, a run goes on fairly from it
pub stays_fair : (s s' : State) (more : List Call) → Lawful s.figures → s' ≡ run s more → StaysFair s more s'
unfolding StaysFair
stays_fair s s' more l e =
    subst (StaysFair s more) (sym e)
    (λ book calls r. outcome (run s more) book (calls ++ more) (subst Lawful (sym (same_run s more).figures_same) l) (reached_run s more book calls r))
