-- What every step of a sale's book keeps to, from call to call.
use Rattle.std.proofs.Common.{◌≡◌, ℕ, ◌+◌, ◌-◌, ◌<◌, ◌≤◌, Bool, true, false, cond, ◌&&◌, eqb, ltb, ◌⊎◌, List, [], ◌∷◌, ◌++◌, map, length, get_or, set, Some, None, Option, sym, refl, ap, ◌∙◌, subst, inl, inr, arith}
use Rattle.std.proofs.lemmas.Bool.{eqb-true, and_parts, ltb-true, ltb-false, both_ways, cases_lt}
use Rattle.rules.specs.Lists.{In}
use Rattle.steps.specs.declared.record.Bid.{Bid}
use Rattle.steps.specs.declared.record.StepRecord.{StepRecord}
use Rattle.steps.specs.Rule.{no_step}
use Rattle.rules.specs.Books.{ahead, front, bid_of, standing_of, won, rejects, wins, hands, settled, lower, least, of_market}
use Rattle.rules.specs.Sales.{missing, short, less}
use Rattle.rules.specs.Tallies.{Tally, entry_bid, entry_shares, gets}
use Rattle.rules.specs.Fair.{entry_of}
use Rattle.rules.proofs.Totals.{total_same, total_push, total_set, total_map, in_push, in_set, in_at, in_map, map_same, map_map}
use Rattle.rules.proofs.Ranks.{ahead_self, ahead_by_discount, ahead_market, front_le, front_same, front_step, either, same_share, gone_by, Numbered, numbered_map, handed_most}

-- what a step's entry has
abbrev pub held : StepRecord → ℕ
held x = x.shares.standing + x.shares.rejected

abbrev pub Above : ℕ → Option ℕ → Type 0
Above d None = Unit {0}
Above d (Some c) = d ≤ c

pub record Fit (lots : ℕ) (xs : List StepRecord) (clearing : ℕ → Option ℕ) (x : StepRecord) : Type 0 where
  pub fits : x.shares.losing ≤ x.shares.standing
  pub filled : 0 < x.shares.rejected + x.shares.losing → lots ≤ front bid_of held xs x.bid + (x.shares.standing - x.shares.losing)
  pub cleared : 0 < x.shares.rejected + x.shares.losing → Above x.bid.discount (clearing x.bid.market)

abbrev pub EachFits : ℕ → List StepRecord → (ℕ → Option ℕ) → Type 0
EachFits lots xs clearing = (x : StepRecord) → In x xs → Fit lots xs clearing x

new_fit : (lots : ℕ) (xs : List StepRecord) (clearing : ℕ → Option ℕ) (x n : StepRecord) → n.shares.losing ≡ 0 → n.shares.rejected ≡ 0 → x ≡ n → Fit lots xs clearing x
new_fit lots xs clearing x n p q e =
    let l : x.shares.losing ≡ 0 = ap (λ y. y.shares.losing) e ∙ p in
    let r : x.shares.rejected ≡ 0 = ap (λ y. y.shares.rejected) e ∙ q in
    record { fits = omega arith; filled = λ h. absurd (omega arith); cleared = λ h. absurd (omega arith) }

-- a step stays fit where no less is ahead of it
still_fit : (lots : ℕ) (xs ys : List StepRecord) (clearing : ℕ → Option ℕ) (x : StepRecord) →
    (0 < x.shares.rejected + x.shares.losing → front bid_of held xs x.bid ≤ front bid_of held ys x.bid) → Fit lots xs clearing x → Fit lots ys clearing x
still_fit lots xs ys clearing x h f = record { fits = f.fits; filled = λ l. omega (arith, h l, f.filled l); cleared = f.cleared }

pub entered_fit : (lots : ℕ) (xs : List StepRecord) (clearing : ℕ → Option ℕ) (n : StepRecord) → n.shares.losing ≡ 0 → n.shares.rejected ≡ 0 →
    EachFits lots xs clearing → EachFits lots (xs ++ (n ∷ [])) clearing
entered_fit lots xs clearing n p q h x i = go (in_push xs n x i)
  where
    go : In x xs ⊎ (x ≡ n) → Fit lots (xs ++ (n ∷ [])) clearing x
    go (inl j) = still_fit lots xs (xs ++ (n ∷ [])) clearing x (λ _. omega (arith, total_push (λ y. cond (ahead y.bid x.bid) (held y) 0) xs n)) (h x j)
    go (inr e) = new_fit lots (xs ++ (n ∷ [])) clearing x n p q e

outbids : (o : Option ℕ) (i d y : ℕ) → 1 ≤ i → missing o ≡ false → short o i d ≡ false → Above y o → y < d
outbids None i d y l p q a = absurd (both_ways true p refl)
outbids (Some c) i d y l p q a = omega (arith, ltb-false d (c + i) q)

-- a raise: s shares go from the step at place p to a new one n, of a larger discount
module _ (lots : ℕ) (xs : List StepRecord) (clearing : ℕ → Option ℕ) (p s i : ℕ) (n : StepRecord) (within : p < length xs)
    (enough : s ≤ (get_or xs p no_step).shares.standing) (one : 1 ≤ i)
    (same-market : n.bid.market ≡ (get_or xs p no_step).bid.market) (stands : n.shares.standing ≡ s) (no-losing : n.shares.losing ≡ 0) (no-rejected : n.shares.rejected ≡ 0)
    (there : missing (clearing (get_or xs p no_step).bid.market) ≡ false)
    (outbid : short (clearing (get_or xs p no_step).bid.market) i n.bid.discount ≡ false)
    (raised : (get_or xs p no_step).bid.discount < n.bid.discount) (h : EachFits lots xs clearing) where
  abbrev raised_list : List StepRecord
  raised_list = set xs p (less s (get_or xs p no_step)) ++ (n ∷ [])

  front_is : (b : Bid) → front bid_of held raised_list b + cond (ahead (get_or xs p no_step).bid b) (held (get_or xs p no_step)) 0
      ≡ front bid_of held xs b + cond (ahead (get_or xs p no_step).bid b) (held (less s (get_or xs p no_step))) 0 + cond (ahead n.bid b) (held n) 0
  front_is b =
      let F : StepRecord → ℕ = λ y. cond (ahead y.bid b) (held y) 0 in
      omega (arith, total_push F (set xs p (less s (get_or xs p no_step))) n, total_set F xs p (less s (get_or xs p no_step)) no_step within)

  -- no less is ahead of what the raise outbids
  no_less : (b : Bid) → ((get_or xs p no_step).bid.market ≡ b.market → b.discount < n.bid.discount) → front bid_of held xs b ≤ front bid_of held raised_list b
  no_less b l = go (ahead (get_or xs p no_step).bid b) refl
    where
      go : (t : Bool) → ahead (get_or xs p no_step).bid b ≡ t → front bid_of held xs b ≤ front bid_of held raised_list b
      go true e =
          let m = ahead_market (get_or xs p no_step).bid b e in
          let a = ahead_by_discount n.bid b (same-market ∙ m) (l m) in
          let moved = rw (e, a) at (front_is b) in
          omega arith
      go false e =
          let moved = rw e at (front_is b) in
          omega arith

  pub raised_fit : EachFits lots raised_list clearing
  raised_fit x j = go (in_push _ n x j)
    where
      old : In x xs → 0 < x.shares.rejected + x.shares.losing → (get_or xs p no_step).bid.market ≡ x.bid.market → x.bid.discount < n.bid.discount
      old k l m = outbids (clearing (get_or xs p no_step).bid.market) i n.bid.discount x.bid.discount one there outbid
          (subst (λ m. Above x.bid.discount (clearing m)) (sym m) ((h x k).cleared l))

      own_fit : Fit lots raised_list clearing (less s (get_or xs p no_step))
      own_fit =
          let z = get_or xs p no_step in
          let f = h z (in_at xs p no_step within) in
          let a = ahead_by_discount n.bid z.bid same-market raised in
          let moved = rw (ahead_self z.bid, a) at (front_is z.bid) in
          record {
            fits = omega (arith, f.fits);
            filled = λ l. omega (arith, f.fits, f.filled (omega arith));
            cleared = λ l. f.cleared (omega arith);
          }

      here : In x xs ⊎ (x ≡ less s (get_or xs p no_step)) → Fit lots raised_list clearing x
      here (inl k) = still_fit lots xs raised_list clearing x (λ l. no_less x.bid (old k l)) (h x k)
      here (inr e) = subst (Fit lots raised_list clearing) (sym e) own_fit

      go : In x (set xs p (less s (get_or xs p no_step))) ⊎ (x ≡ n) → Fit lots raised_list clearing x
      go (inl k) = here (in_set xs p (less s (get_or xs p no_step)) x k)
      go (inr e) = new_fit lots raised_list clearing x n no-losing no-rejected e

-- d is at most the clearing discount where it is at most each winner's
least_above : (d m : ℕ) (xs : List StepRecord) → ((x : StepRecord) → In x xs → x.bid.market ≡ m → 0 < won x → d ≤ x.bid.discount) → Above d (least m xs)
least_above d m [] h = tt
least_above d m (x ∷ xs) h = go (eqb x.bid.market m && ltb 0 (won x)) refl (least_above d m xs (λ y i. h y (inr i)))
  where
    lowered : (o : Option ℕ) → d ≤ x.bid.discount → Above d o → Above d (lower x.bid.discount o)
    lowered None l a = l
    lowered (Some c) l a = omega arith

    go : (t : Bool) → (eqb x.bid.market m && ltb 0 (won x)) ≡ t → Above d (least m xs) → Above d (cond t (lower x.bid.discount (least m xs)) (least m xs))
    go true e r =
        let both = and_parts (eqb x.bid.market m) (ltb 0 (won x)) e in
        lowered (least m xs) (h x (inl refl) (eqb-true x.bid.market m both.0) (ltb-true 0 (won x) both.1)) r
    go false e r = r

-- a closing
module _ (lots : ℕ) (xs : List StepRecord) (clearing : ℕ → Option ℕ) (h : EachFits lots xs clearing) where
  abbrev left : List StepRecord
  left = map rejects xs

  abbrev after_closing : List StepRecord
  after_closing = settled lots left

  held_rejects : (x : StepRecord) → In x xs → held (rejects x) ≡ held x
  held_rejects x i = omega (arith, (h x i).fits)

  front_left : (b : Bid) → front bid_of held left b ≡ front bid_of held xs b
  front_left b = total_map (λ y. cond (ahead y.bid b) (held y) 0) rejects xs ∙ front_same bid_of (λ x. held (rejects x)) held xs b held_rejects

  front_closed : (b : Bid) → front bid_of held after_closing b ≡ front bid_of held left b
  front_closed b = total_map (λ y. cond (ahead y.bid b) (held y) 0) (hands lots left) left

  small : (z : StepRecord) → In z left → z.shares.standing ≤ held z
  small z i = omega arith

  gap : (z : StepRecord) → In z left → z.shares.standing < held z → lots ≤ front bid_of held left z.bid + z.shares.standing
  gap z i l =
      let w = in_map rejects xs z i in
      let x = w.0 in
      let s : z.shares.standing ≡ x.shares.standing - x.shares.losing = ap (λ y. y.shares.standing) w.2 in
      let r : z.shares.rejected ≡ x.shares.rejected + x.shares.losing = ap (λ y. y.shares.rejected) w.2 in
      let b : front bid_of held left z.bid ≡ front bid_of held xs x.bid = front_left z.bid ∙ ap (λ y. front bid_of held xs y.bid) w.2 in
      omega (arith, (h x w.1).filled (omega arith))

  -- where z has rejected or losing shares after the closing, the lots are gone by then
  gone : (z : StepRecord) → In z left → 0 < z.shares.rejected + (z.shares.standing - wins lots left z) → lots ≤ front bid_of standing_of left z.bid + z.shares.standing
  gone z i l = go (cases_lt 0 z.shares.rejected)
    where
      go : (0 < z.shares.rejected) ⊎ (z.shares.rejected ≤ 0) → lots ≤ front bid_of standing_of left z.bid + z.shares.standing
      go (inl r) = gone_by bid_of standing_of held lots left small gap z i (omega arith)
      go (inr r) = omega arith

  closed_fit_at : (z : StepRecord) → In z left → Fit lots after_closing (λ m. least m after_closing) (hands lots left z)
  closed_fit_at z i = record {
    fits = omega arith;
    filled = λ l. fill l (either bid_of standing_of held lots left small gap z.bid);
    cleared = λ l. least_above z.bid.discount z.bid.market after_closing (beats l);
  }
    where
      fill : 0 < z.shares.rejected + (z.shares.standing - wins lots left z) → (front bid_of standing_of left z.bid ≡ front bid_of held left z.bid) ⊎ (lots ≤ front bid_of standing_of left z.bid) →
          lots ≤ front bid_of held after_closing z.bid + (z.shares.standing - (z.shares.standing - wins lots left z))
      fill l (inl e) = omega (arith, gone z i l, front_closed z.bid)
      fill l (inr k) = omega (arith, front_closed z.bid, front_le bid_of standing_of held left z.bid small)

      beats : 0 < z.shares.rejected + (z.shares.standing - wins lots left z) → (y : StepRecord) → In y after_closing → y.bid.market ≡ z.bid.market → 0 < won y → z.bid.discount ≤ y.bid.discount
      beats l y j m g =
          let w = in_map (hands lots left) left y j in
          let u = w.0 in
          let b : y.bid ≡ u.bid = ap (λ v. v.bid) w.2 in
          let v : won y ≡ won (hands lots left u) = ap won w.2 in
          lots_left (cases_lt y.bid.discount z.bid.discount) u b v
        where
          lots_left : (y.bid.discount < z.bid.discount) ⊎ (z.bid.discount ≤ y.bid.discount) → (u : StepRecord) → y.bid ≡ u.bid → won y ≡ won (hands lots left u) → z.bid.discount ≤ y.bid.discount
          lots_left (inr k) u b v = k
          lots_left (inl k) u b v =
              let a = ahead_by_discount z.bid u.bid (sym m ∙ ap (λ c. c.market) b) (omega (arith, ap (λ c. c.discount) b)) in
              absurd (omega (arith, gone z i l, front_step bid_of standing_of left z u.bid i a))

  pub closed_fit : EachFits lots after_closing (λ m. least m after_closing)
  closed_fit y j =
      let w = in_map (hands lots left) left y j in
      subst (Fit lots after_closing (λ m. least m after_closing)) (sym w.2) (closed_fit_at w.0 w.1)

  -- a closing alters no entry
  pub closed_entries : map entry_of after_closing ≡ map entry_of xs
  closed_entries =
      map_map entry_of (hands lots left) left ∙ map_map entry_of rejects xs
      ∙ map_same (λ x. entry_of (rejects x)) entry_of xs (λ x i. ap (λ n. record { bid = x.bid; shares = n }) (held_rejects x i))

  -- each step wins what its entry gets
  pub closed_won : (t : Tally) → t.lots ≡ lots → t.entries ≡ map entry_of xs → map won after_closing ≡ map (gets t) t.entries
  closed_won t e m =
      map_map won (hands lots left) left ∙ map_same (λ z. won (hands lots left z)) (λ z. gets t (entry_of z)) left each ∙ sym (map_map (gets t) entry_of left) ∙ ap (map (gets t)) back
    where
      back : map entry_of left ≡ t.entries
      back = map_map entry_of rejects xs ∙ map_same (λ x. entry_of (rejects x)) entry_of xs (λ x i. ap (λ n. record { bid = x.bid; shares = n }) (held_rejects x i)) ∙ sym m

      fronts : (b : Bid) → front entry_bid entry_shares t.entries b ≡ front bid_of held left b
      fronts b = ap (λ es. front entry_bid entry_shares es b) (sym back) ∙ total_map (λ y. cond (ahead y.bid b) y.shares 0) entry_of left

      each : (z : StepRecord) → In z left → won (hands lots left z) ≡ gets t (entry_of z)
      each z i = omega (arith, same_share bid_of standing_of held lots left small gap z i, fronts z.bid, e)

  pub closed_market : (m : ℕ) → Numbered bid_of 1 xs → of_market m won after_closing ≤ lots
  closed_market m n =
      omega (
        arith,
        handed_most bid_of standing_of lots m left (numbered_map bid_of bid_of rejects (λ x. refl) 1 xs n),
        total_map (λ y. cond (eqb y.bid.market m) (won y) 0) (hands lots left) left,
        total_same (λ z. cond (eqb z.bid.market m) (won (hands lots left z)) 0) (λ z. cond (eqb z.bid.market m) (wins lots left z) 0) left
            (λ z i. ap (λ n. cond (eqb z.bid.market m) n 0) (omega arith)),
      )
