-- What follows from a book's replies.
use Rattle.std.proofs.Common.{◌≡◌, ℕ, ◌+◌, ◌-◌, ◌≤◌, true, eqb, leb, List, [], ◌∷◌, ◌++◌, length, Some, None, Ok, Err, Option, Result, refl, ◌∙◌, inl, inr, arith, MatchResult}
use Rattle.std.proofs.lemmas.Bool.{cases_Bool, eqb-false, le-leb, and_from, both_ways}
use Rattle.std.proofs.lemmas.List.{length_push, get_or_push}
use Rattle.ranks.proofs.First.{first_behind_one}
use Rattle.steps.specs.declared.record.StepRecord.{StepRecord}
use Rattle.steps.specs.declared.step.Step.{Step}
use Rattle.steps.specs.declared.fault.BookFault.{BookFault}
use Rattle.steps.specs.Rule.{step_ok, no_step}
use Rattle.steps.specs.Rank.{market_of, step_precedes}
use Rattle.books.specs.Replies.{put_reply, put_after, at, held, place_of, answered, Numbered, ReadReply, NextReply}

-- a put that answered a number had a step that keeps the rule and a free place, and the step came last
pub put_accepted : (size : ℕ) (steps : List StepRecord) (new : StepRecord) (n : ℕ) → Ok n ≡ put_reply size steps new
    → (step_ok new ≡ true) × (length steps ≡ size → ⊥) × (n ≡ length steps + 1) × (put_after size steps new ≡ steps ++ new ∷ [])
put_accepted size steps new n h =
    elim (cases_Bool (step_ok new)) [
      | inl s ↦ elim (cases_Bool (eqb (length steps) size)) [
        | inl t ↦ let z : ◌≡◌ {A = ℕ} 0 1 = let e = simp (s, t) at h in (cc) in absurd (omega arith)
        | inr t ↦ let e : ◌≡◌ {A = Result ℕ BookFault} (Ok n) (Ok (length steps + 1)) = simp (s, t) at h in (s, eqb-false _ _ t, (cc), simp (s, t))
      ]
      | inr s ↦ let z : ◌≡◌ {A = ℕ} 0 1 = let e = simp s at h in (cc) in absurd (omega arith)
    ]

-- the step that came last has the last number
pub at_last : (steps : List StepRecord) (new : StepRecord) → at (steps ++ new ∷ []) (length steps + 1) ≡ new
at_last steps new = get_or_push steps new no_step (length steps + 1 - 1) (omega arith)

-- a number from 1 to the count is held
pub held_true : (steps : List StepRecord) (number : ℕ) → 1 ≤ number → number ≤ length steps → held steps number ≡ true
held_true steps number one most = and_from (leb 1 number) (leb number (length steps)) (le-leb 1 number one) (le-leb number (length steps) most)

-- a step that was put is read back: the read does not refuse, so whatever is asked of a refusal holds
pub read_back : (Q : BookFault → Type 0) (size : ℕ) (steps after : List StepRecord) (new : StepRecord) (n : ℕ) (r : Result Step BookFault)
    → Ok n ≡ put_reply size steps new → after ≡ put_after size steps new → ReadReply after n r → MatchResult r (λ step. step.stored ≡ new) Q
read_back Q size steps after new n (Ok step) h a q =
    let k = put_accepted size steps new n h in
    let e : at after n ≡ new = simp (a, k.3, k.2) (at_last steps new) in
    q.1 ∙ e
read_back Q size steps after new n (Err fault) h a q =
    let k = put_accepted size steps new n h in
    let e : held after n ≡ true = simp (a, k.3, k.2) (held_true (steps ++ new ∷ []) (length steps + 1) (omega arith) (simp length_push (omega arith))) in
    absurd (both_ways _ q.0 e)

-- two answered numbers with one place are one
same_number : (a b : Option ℕ) → Numbered a → Numbered b → answered a ≡ answered b → a ≡ b
same_number None None v w e = refl
same_number None (Some m) v w e = let z : ◌≡◌ {A = ℕ} 0 1 = (cc) in absurd (omega arith)
same_number (Some n) None v w e = let z : ◌≡◌ {A = ℕ} 0 1 = (cc) in absurd (omega arith)
same_number (Some n) (Some m) v w e =
    let d : n - 1 ≡ m - 1 = (cc) in
    let s : n ≡ m = omega arith in
    rw s

-- next has one answer
pub next_one : (steps : List StepRecord) (market number : ℕ) (r s : Result (Option ℕ) BookFault) → NextReply steps market number r → NextReply steps market number s → r ≡ s
next_one steps market number (Err e) (Err f) h k = let a = h.1 in let b = k.1 in (cc)
next_one steps market number (Err e) (Ok b) h k = absurd (omega (arith, h.0, k.0))
next_one steps market number (Ok a) (Err f) h k = absurd (omega (arith, h.0, k.0))
next_one steps market number (Ok a) (Ok b) h k =
    let e = same_number a b h.1 k.1 (first_behind_one market_of step_precedes steps market (place_of number) (answered a) (answered b) h.2 k.2) in
    (cc)
