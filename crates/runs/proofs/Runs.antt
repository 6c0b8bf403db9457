-- One call more of a run.
use Rattle.std.proofs.Common.{◌≡◌, ℕ, suc, ◌+◌, ◌<◌, List, [], ◌∷◌, ◌++◌, map, length, get_or, take, Result, sym, refl, ap, ◌∙◌}
use Rattle.std.proofs.lemmas.List.{take_more, map-append}
use Rattle.rules.specs.declared.answer.Answer.{Answer}
use Rattle.rules.specs.declared.fault.SaleFault.{SaleFault}
use Rattle.rules.specs.Sales.{State, Call, reply, after, run}
use Rattle.rules.specs.Parts.{replies}
use Rattle.rules.proofs.Runs.{run_append}
use Rattle.sale_parts.specs.State.{Obeys}

replies_push : (s : State) (cs : List Call) (c : Call) → replies s (cs ++ c ∷ []) ≡ replies s cs ++ reply (run s cs) c ∷ []
replies_push s [] c = refl
replies_push s (d ∷ cs) c = ap (λ rs. reply s d ∷ rs) (replies_push (after s d) cs c)

-- there is a reply for each call
pub reply_for_each : {X : Type 0} (f : X → Call) (s : State) (xs : List X) → length (replies s (map f xs)) ≡ length xs
reply_for_each f s [] = refl
reply_for_each f s (x ∷ xs) = ap suc (reply_for_each f (after s (f x)) xs)

-- x is the next of the calls, and it was made
module _ {X : Type 0} (f : X → Call) (xs : List X) (i : ℕ) (x : X) (below : i < length xs) (is : x ≡ get_or xs i x) where
  made_more : map f (take (i + 1) xs) ≡ map f (take i xs) ++ f x ∷ []
  made_more = ap (map f) (take_more xs i x below) ∙ map-append f (take i xs) (get_or xs i x ∷ []) ∙ ap (λ y. map f (take i xs) ++ f y ∷ []) (sym is)

  module _ (s now next : State) (r : Result Answer SaleFault) (led : now ≡ run s (map f (take i xs))) (o : Obeys now (f x) r next) where
    pub one_call_more : next ≡ run s (map f (take (i + 1) xs))
    one_call_more = o.left ∙ ap (λ z. after z (f x)) led ∙ sym (run_append s (map f (take i xs)) (f x ∷ [])) ∙ ap (run s) (sym made_more)

    pub one_reply_more : (old new : List (Result Answer SaleFault)) → old ≡ replies s (map f (take i xs)) → new ≡ old ++ r ∷ [] → new ≡ replies s (map f (take (i + 1) xs))
    one_reply_more old new e n =
        n ∙ ap (λ rs. rs ++ r ∷ []) e ∙ ap (λ a. replies s (map f (take i xs)) ++ a ∷ []) (o.answered ∙ ap (λ z. reply z (f x)) led)
        ∙ sym (replies_push s (map f (take i xs)) (f x)) ∙ ap (replies s) (sym made_more)
