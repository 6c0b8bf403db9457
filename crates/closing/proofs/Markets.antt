-- Market after market: what was handed out in the markets before changes nothing of the next, and the seven are all.
use Rattle.std.proofs.Common.{◌≡◌, ℕ, zero, suc, ◌+◌, ◌-◌, ◌<◌, ◌≤◌, min, Bool, true, false, cond, eqb, leb, ◌≢◌, List, map, length, get_or, set, sym, refl, ap, ◌∙◌, arith, below_more}
use Rattle.std.proofs.lemmas.List.{map-id, ext_get_or, get_or-set_same, get_or-set_other}
use Rattle.std.proofs.lemmas.Bool.{lt-leb, le-leb}
use Rattle.std.proofs.lemmas.Bool.Decides.{nat_tests}
use Rattle.steps.specs.declared.record.StepRecord.{StepRecord}
use Rattle.books.specs.Lawful.{SoundBelow}
use Rattle.rules.specs.Lists.{listed}
use Rattle.rules.specs.Books.{ahead, front, bid_of, standing_of, hands, settled, least}
use Rattle.rules.proofs.Totals.{map_same, map_map, total_map, total_same, listed_at}
use Rattle.closing.specs.HandOut.{handed}
use Rattle.closing.proofs.Places.{sound_kept}

-- the steps with the lots of the first k markets handed out
abbrev pub upto : ℕ → ℕ → List StepRecord → List StepRecord
upto k lots xs = handed (λ b. leb b.market k) lots xs

module _ (lots : ℕ) (xs : List StepRecord) (t : StepRecord → Bool) where
  -- the step, handed its lots if it passes the test
  abbrev part : StepRecord → StepRecord
  part x = cond (t x) (hands lots xs x) x

  counts_same : (b : Bool) (x z : StepRecord) → cond (ahead (cond b (hands lots xs z) z).bid x.bid) (cond b (hands lots xs z) z).shares.standing 0 ≡ cond (ahead z.bid x.bid) z.shares.standing 0
  counts_same true x z = refl
  counts_same false x z = refl

  -- as much stands ahead of a step as before
  front_same : (x : StepRecord) → front bid_of standing_of (map part xs) x.bid ≡ front bid_of standing_of xs x.bid
  front_same x = total_map _ part xs ∙ total_same _ _ xs (λ z i. counts_same (t z) x z)

  -- whoever was handed lots already is handed them as at first
  hands_same : (x : StepRecord) → hands lots (map part xs) (part x) ≡ hands lots xs x
  hands_same x = go (t x)
    where
      behind_all : hands lots (map part xs) x ≡ hands lots xs x
      behind_all = ap (λ k. record { bid = x.bid; shares = record { standing = x.shares.standing; losing = x.shares.standing - min x.shares.standing (lots - k); rejected = x.shares.rejected } }) (front_same x)

      go : (b : Bool) → hands lots (map part xs) (cond b (hands lots xs x) x) ≡ hands lots xs x
      go true = behind_all
      go false = behind_all

  settled_same : settled lots (map part xs) ≡ settled lots xs
  settled_same = map_map _ part xs ∙ map_same _ _ xs (λ x i. hands_same x)

  part_market : (x : StepRecord) → (part x).bid.market ≡ x.bid.market
  part_market x = go (t x)
    where
      go : (b : Bool) → (cond b (hands lots xs x) x).bid.market ≡ x.bid.market
      go true = refl
      go false = refl

-- those of market k + 1 and those of the first k are those of the first k + 1
joined : (h x : StepRecord) (n m k : ℕ) → m ≡ k + 1 → cond (eqb n m) h (cond (leb n k) h x) ≡ cond (leb n (k + 1)) h x
joined h x n m k e = grind (arith, nat_tests)

module _ (lots : ℕ) (xs : List StepRecord) where
  -- before the first market none is handed lots
  pub upto_none : SoundBelow xs (length xs) → xs ≡ upto 0 lots xs
  upto_none sound = sym (map_same _ (λ x. x) xs (λ x i. ap (λ t. cond t (hands lots xs x) x) (lt-leb x.bid.market 0 (sound_kept xs sound x i).market_least)) ∙ map-id xs)

  -- one market more
  pub upto_more : (k m : ℕ) (ys zs : List StepRecord) → m ≡ k + 1 → ys ≡ upto k lots xs → zs ≡ handed (λ b. eqb b.market m) lots ys → zs ≡ upto (k + 1) lots xs
  upto_more k m ys zs next is made =
      let t = λ (x : StepRecord). leb x.bid.market k in
      let g = part lots xs t in
      let one : (x : StepRecord) → cond (eqb (g x).bid.market m) (hands lots (map g xs) (g x)) (g x) ≡ cond (leb x.bid.market (k + 1)) (hands lots xs x) x = λ x.
      ap (λ h. cond (eqb (g x).bid.market m) h (g x)) (hands_same lots xs t x)
      ∙ ap (λ n. cond (eqb n m) (hands lots xs x) (g x)) (part_market lots xs t x)
      ∙ joined (hands lots xs x) x x.bid.market m k next in
      made ∙ ap (handed (λ b. eqb b.market m) lots) is ∙ map_map _ g xs ∙ map_same _ _ xs (λ x i. one x)

  -- a market clears as at first
  pub upto_clearing : (k m : ℕ) (ys : List StepRecord) → ys ≡ upto k lots xs → least m (settled lots ys) ≡ least m (settled lots xs)
  upto_clearing k m ys is = ap (λ v. least m (settled lots v)) is ∙ ap (least m) (settled_same lots xs (λ x. leb x.bid.market k))

  -- every market is among the first seven
  pub upto_all : SoundBelow xs (length xs) → (k : ℕ) (ys : List StepRecord) → 7 ≤ k → ys ≡ upto k lots xs → ys ≡ settled lots xs
  upto_all sound k ys l is = is ∙ map_same _ _ xs (λ x i. ap (λ t. cond t (hands lots xs x) x) (le-leb x.bid.market k (omega (arith, (sound_kept xs sound x i).market_most))))

length_listed : {X : Type 0} (f : ℕ → X) (k n : ℕ) → length (listed f k n) ≡ n
length_listed f k zero = refl
length_listed f k (suc n) = ap suc (length_listed f (suc k) n)

-- a table, as that of the clearing discounts, has f of 1, 2 and so on at its first k places
abbrev pub Filled : {X : Type 0} → (ℕ → X) → X → ℕ → List X → Type 0
Filled f d k table = (i : ℕ) → i < k → get_or table i d ≡ f (i + 1)

pub filled_more : {X : Type 0} (f : ℕ → X) (d : X) (k m : ℕ) (table : List X) (new : X) → m ≡ k + 1 → k < length table → Filled f d k table → new ≡ f m → Filled f d (k + 1) (set table k new)
filled_more f d k m table new next l filled e =
    below_more _ _ (λ i h. let ne : i ≢ k = omega arith in rw get_or-set_other (filled i h)) (get_or-set_same table k new d l ∙ e ∙ ap f next)

pub filled_all : {X : Type 0} (f : ℕ → X) (d : X) (k n : ℕ) (table : List X) → length table ≡ n → n ≤ k → Filled f d k table → table ≡ listed f 1 n
filled_all f d k n table l most filled =
    ext_get_or d table (listed f 1 n) (l ∙ sym (length_listed f 1 n)) (λ i h. filled i (omega arith) ∙ sym (listed_at f 1 n i (i + 1) d (omega arith) (omega arith)))
