-- Records of one width, one behind the other.
use Rattle.std.proofs.Common.{◌≡◌, ℕ, zero, suc, ◌+◌, ◌-◌, ◌*◌, ◌<◌, ◌≤◌, List, [], ◌∷◌, ◌++◌, length, get_or, take, drop, sym, refl, ap, ◌∙◌, append_assoc, mul-le-mul_left, mul-zero, mul-suc, arith}
use borrow.Rule.Slice.PartMut.{put_mid}
use Rattle.std.specs.List.{between, flat_map}
use Rattle.std.proofs.lemmas.List.{length-append, length-drop, take_at, drop_at, drop-drop, take_more, take-append-le, drop-append-le, flat_map_more}
use Rattle.session_writer.specs.Writing.{written}
use Rattle.std.proofs.lemmas.Slice.{take-put_mid}
use Rattle.session_writer.proofs.Written.{drop_written, part_written}

-- what stands behind the front p
pub drop_behind : (p q : List ℕ) (n j : ℕ) → length p ≡ n → drop (n + j) (p ++ q) ≡ drop j q
drop_behind p q n j h = sym (drop-drop j n (p ++ q)) ∙ ap (λ l. drop j l) (drop_at p q n h)

pub between_behind : (p q : List ℕ) (n i j : ℕ) → length p ≡ n → between (n + i) (n + j) (p ++ q) ≡ between i j q
between_behind p q n i j h = let e : n + j - (n + i) ≡ j - i = omega arith in rw e (ap (λ l. take (j - i) l) (drop_behind p q n i h))

pub between_front : (p q : List ℕ) (i j : ℕ) → i ≤ j → j ≤ length p → between i j (p ++ q) ≡ between i j p
between_front p q i j a b =
    rw (drop-append-le i p q (omega arith)) (take-append-le (j - i) (drop i p) q (omega (arith, length-drop i p)))

module _ {X : Type 0} (f : X → List ℕ) (w : ℕ) (d : X) where
  -- each of them has w bytes
  abbrev pub Even : List X → Type 0
  Even xs = (k : ℕ) → k < length xs → length (f (get_or xs k d)) ≡ w

  even_rest : (x : X) (xs : List X) → Even (x ∷ xs) → Even xs
  even_rest x xs e k h = e (suc k) (omega arith)

  pub length_joined : (xs : List X) → Even xs → length (flat_map f xs) ≡ w * length xs
  length_joined [] e = sym (mul-zero w)
  length_joined (x ∷ xs) e =
      let a = e 0 (omega arith) in
      let b = length_joined xs (even_rest x xs e) in
      let c = mul-suc w (length xs) in
      length-append (f x) (flat_map f xs) ∙ omega arith

  part_at : (xs : List X) → Even xs → (k p : ℕ) → k < length xs → p ≡ w * k → take w (drop p (flat_map f xs)) ≡ f (get_or xs k d)
  part_at (x ∷ xs) e zero p h q = let z : p ≡ 0 = q ∙ mul-zero w in rw z (take_at (f x) (flat_map f xs) w (e 0 (omega arith)))
  part_at (x ∷ xs) e (suc k) p h q =
      let c = mul-suc w k in
      let z : p ≡ w + w * k = omega arith in
      rw z (ap (λ l. take w l) (drop_behind (f x) (flat_map f xs) w (w * k) (e 0 (omega arith))) ∙ part_at xs (even_rest x xs e) k (w * k) (omega arith) refl)
  part_at [] e k p h q = absurd (omega arith)

  -- the record at the place k
  pub joined_part : (xs : List X) → Even xs → (k : ℕ) → k < length xs → between (w * k) (w * k + w) (flat_map f xs) ≡ f (get_or xs k d)
  joined_part xs e k h = let z : w * k + w - w * k ≡ w = omega arith in rw z (part_at xs e k (w * k) h refl)

-- bytes written behind others that were written
pub written_more : (ms : List ℕ) (at : ℕ) (xs ys : List ℕ) → at + length xs + length ys ≤ length ms → written (written ms at xs) (at + length xs) ys ≡ written ms at (xs ++ ys)
written_more ms at xs ys room =
    let front : take (at + length xs) (written ms at xs) ≡ take at ms ++ xs = take-put_mid at (length xs) ms xs (at + length xs) refl (omega arith) in
    let back : drop (at + length xs) (written ms at xs) ≡ drop (at + length xs) ms = drop_written ms xs at (omega arith) (at + length xs) (omega arith) in
    let rest : drop (length ys) (drop (at + length xs) ms) ≡ drop (length (xs ++ ys)) (drop at ms) = drop-drop (length ys) (at + length xs) ms ∙ ap (λ n. drop n ms) (omega (arith, length-append xs ys)) ∙ sym (drop-drop (length (xs ++ ys)) at ms) in
    rw (front, back, rest) (append_assoc (take at ms) xs _ ∙ ap (λ l. take at ms ++ l) (sym (append_assoc xs ys _)))

-- one turn of the loop that writes records of w bytes: the code's write to the next part
pub part_more : {X : Type 0} (f : X → List ℕ) (w : ℕ) (ms : List ℕ) (from : ℕ) (xs : List X) (i : ℕ) (x : X) (now ys : List ℕ) (k : ℕ) → from + w * length xs ≤ length ms → i < length xs → x ≡ get_or xs i x → (now ≡ written ms from (flat_map f (take i xs))) × (length (flat_map f (take i xs)) ≡ w * i) → ys ≡ f x → length ys ≡ w → k ≡ w → (put_mid (from + w * i) k now ys ≡ written ms from (flat_map f (take (i + 1) xs))) × (length (flat_map f (take (i + 1) xs)) ≡ w * (i + 1))
part_more f w ms from xs i x now ys k room h here so_far bytes long size =
    let front = flat_map f (take i xs) in
    let grown : flat_map f (take (i + 1) xs) ≡ front ++ ys = ap (λ l. flat_map f l) (take_more xs i x h) ∙ sym (flat_map_more f [] (take i xs) (get_or xs i x)) ∙ ap (λ z. front ++ f z) (sym here) ∙ ap (λ z. front ++ z) (sym bytes) in
    let fits : w * suc i ≤ w * length xs = mul-le-mul_left w (omega arith) in
    let more = mul-suc w i in
    let add = length-append front ys in (
      sym (part_written now ys ys (from + w * i) k refl (size ∙ sym long))
          ∙ ap (λ l. written l (from + w * i) ys) so_far.0
          ∙ ap (λ z. written (written ms from front) (from + z) ys) (sym so_far.1)
          ∙ written_more ms from front ys (omega (arith, so_far.1))
          ∙ ap (λ l. written ms from l) (sym grown),
      ap length grown ∙ omega (arith, so_far.1),
    )
