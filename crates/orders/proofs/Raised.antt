-- A raise's two changes of the book: the new step is put, then the shares are taken out of the old one.
use Rattle.std.proofs.Common.{◌≡◌, ℕ, suc, ◌+◌, ◌-◌, ◌<◌, ◌≤◌, true, leb, List, [], ◌∷◌, ◌++◌, length, set, Ok, sym, ap, ◌∙◌, arith}
use Rattle.std.proofs.lemmas.List.{length_push, get_or_append_left, set-append_left}
use Rattle.std.proofs.lemmas.Bool.{and_parts, leb-true}
use Rattle.offers.specs.declared.Raise.{Raise}
use Rattle.steps.specs.declared.record.StepRecord.{StepRecord}
use Rattle.steps.specs.Rule.{no_step}
use Rattle.books.specs.Replies.{held, at, entered, put_reply, put_after}
use Rattle.books.proofs.After.{put_accepted, held_true}
use Rattle.rules.specs.declared.answer.Answer.TheVariants.{Told}
use Rattle.rules.specs.Sales.{State, step_at, less}
use Rattle.sale_parts.specs.State.{Obeys, PassesButFull, raising}
use Rattle.orders.proofs.Obeyed.{obeys_put}

within : (xs : List StepRecord) (number : ℕ) → held xs number ≡ true → (1 ≤ number) × (number ≤ length xs)
within xs number h =
    let p = and_parts (leb 1 number) (leb number (length xs)) h in
    (leb-true 1 number p.0, leb-true number (length xs) p.1)

-- a step that was there is there still when another is put behind it
module _ (size : ℕ) (xs ys : List StepRecord) (number n : ℕ) (x new : StepRecord) (is : x ≡ at xs number) (there : held xs number ≡ true)
    (taken : Ok n ≡ put_reply size xs new) (grown : ys ≡ put_after size xs new) where
  longer : ys ≡ xs ++ new ∷ []
  longer = grown ∙ (put_accepted size xs new n taken).3

  inside : number - 1 < length xs
  inside = omega (arith, within xs number there)

  pub still_held : held ys number ≡ true
  still_held =
      let w = within xs number there in
      held_true ys number w.0 (omega (arith, ap length longer, length_push xs new, w.1))

  pub still_at : x ≡ at ys number
  still_at = is ∙ sym (get_or_append_left xs (new ∷ []) no_step (number - 1) inside) ∙ ap (λ zs. at zs number) (sym longer)

  -- both changes together
  pub moved : (shares : ℕ) (zs : List StepRecord) → zs ≡ set ys (number - 1) (less shares x) → zs ≡ set xs (number - 1) (less shares (at xs number)) ++ new ∷ []
  moved shares zs e =
      e ∙ ap (λ vs. set vs (number - 1) (less shares x)) longer ∙ set-append_left xs (new ∷ []) (number - 1) (less shares x) inside
      ∙ ap (λ v. set xs (number - 1) (less shares v) ++ new ∷ []) is

-- the sale after the shares were moved is what the rules leave
pub raise_obeyed : (s : State) (asked : Raise) (n size : ℕ) (x : StepRecord) (zs : List StepRecord) →
    PassesButFull s (raising asked) → (length s.steps ≡ s.size → ⊥) → n ≡ length s.steps + 1 → x ≡ step_at s asked.step → x.bid.seat ≡ asked.seat →
    zs ≡ set s.steps (asked.step - 1) (less asked.shares (step_at s asked.step)) ++ entered s.steps (record { seat = asked.seat; market = x.bid.market; shares = asked.shares; discount = asked.discount; stamp = asked.stamp }) ∷ [] → size ≡ s.size →
    Obeys s (raising asked) (Ok (Told n)) (record {
      figures = s.figures;
      size = size;
      steps = zs;
      lots = s.lots;
      round = s.round;
      opened = s.opened;
      ended = s.ended;
      increments = s.increments;
      clearing = s.clearing;
      raised = true;
      last_stamp = asked.stamp;
      accounts = s.accounts;
    })
raise_obeyed s asked n size x zs passes room answers is own steps same =
    let next : n ≡ suc (length s.steps) = omega arith in
    let number-next : length s.steps + 1 ≡ suc (length s.steps) = omega arith in
    obeys_put s (raising asked) _ _ passes room (ap (λ k. Ok (Told k)) next) (cc)
