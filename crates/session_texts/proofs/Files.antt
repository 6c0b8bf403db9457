-- The file of deposits and events whose rows fit.
use Rattle.std.proofs.Common.{◌≡◌, ℕ, Bor, zero, suc, ◌+◌, ◌≤◌, true, List, [], ◌∷◌, ◌++◌, map, length, take, Ok, Err, Result, IsOk, sym, refl, ap, subst, ◌∙◌, arith}
use Rattle.std.proofs.lemmas.Bool.Decides.{nat_tests}
use Rattle.std.specs.List.{flat_map, AllByRecursion}
use Rattle.std.proofs.lemmas.List.{length-append, take_at, drop_all, append-nil}
use Rattle.faults.specs.declared.file.FileFault.{FileFault}
use Rattle.records.specs.declared.event.Event.{Event}
use Rattle.records.specs.Bytes.{bytes_of}
use Rattle.records.specs.Event.{EventValue, value_of, opening, new_step, raise, close, changeover, encoded, row_fits}
use Rattle.lines.specs.Record.{Record}
use Rattle.sessions.specs.Layout.{size_of}
use Rattle.sessions.specs.Reading.{next}
use Rattle.session_writer.proofs.Sections.{Even, length_joined}
use Rattle.session_writer.proofs.Wholes.{even_deposits}
use Rattle.session_texts.specs.Records.{file_size, deposits_in, events_in, file_of}
use Rattle.session_texts.proofs.Drafts.{size_counted}
use Rattle.session_writer.specs.Writing.{written, room_for, rows_fit, session_bytes, session_put, Wrote}

abbrev pub AllFit : List EventValue → Type 0
AllFit vs = AllByRecursion (λ e. row_fits e ≡ true) vs

encoded_long : (e : EventValue) → row_fits e ≡ true → length (encoded e) ≡ 16
encoded_long (opening row) h = let n : length row ≡ 14 = grind (arith, nat_tests) in omega arith
encoded_long (new_step a b c d t) h = refl
encoded_long (raise a b s d t) h = refl
encoded_long close h = refl
encoded_long changeover h = refl

even_fit : (vs : List EventValue) → AllFit vs → Even encoded 16 close vs
even_fit [] h k l = absurd (omega arith)
even_fit (e ∷ es) h zero l = encoded_long e h.0
even_fit (e ∷ es) h (suc k) l = even_fit es h.1 k (omega arith)

pub length_session : (ds : List ℕ) (vs : List EventValue) → AllFit vs → length (session_bytes ds vs) ≡ size_of (length ds) (length vs)
length_session ds vs h =
    let a = length-append (flat_map (bytes_of 4) ds) (flat_map encoded vs) in
    let b = length_joined (bytes_of 4) 4 0 ds (even_deposits ds) in
    let c = length_joined encoded 16 close vs (even_fit vs h) in
    omega arith

all_rows_fit : (n : ℕ) (vs : List EventValue) → AllFit vs → rows_fit n vs ≡ Ok tt
all_rows_fit n [] h = refl
all_rows_fit n (e ∷ es) h = rw h.0 (all_rows_fit (n + 1) es h.1)

module _ (ms ds : List ℕ) (vs : List EventValue) (fit : AllFit vs) (size : length ms ≡ size_of (length ds) (length vs)) (small : size_of (length ds) (length vs) ≤ 65536) where
  room_found : room_for (length ms) (length ds) (length vs) ≡ Ok tt
  room_found = grind (arith, nat_tests)

  pub session_is_file : session_put ms ds vs ≡ Ok (session_bytes ds vs)
  session_is_file =
      ap (λ r. next (next r (λ _. rows_fit 1 vs)) (λ _. Ok (written ms 0 (session_bytes ds vs)))) room_found
      ∙ ap (λ r. next r (λ _. Ok (written ms 0 (session_bytes ds vs)))) (all_rows_fit 1 vs fit)
      ∙ ap (λ l. Ok (session_bytes ds vs ++ l)) (drop_all (length (session_bytes ds vs)) ms (omega (arith, length_session ds vs fit)))
      ∙ ap Ok (append-nil (session_bytes ds vs))

pub rows_of_values : (es : List (Event (Bor (List ℕ)))) → AllByRecursion (λ e. row_fits (value_of e) ≡ true) es → AllFit (map value_of es)
rows_of_values [] h = tt
rows_of_values (e ∷ es) h = (h.0, rows_of_values es h.1)

-- the file of some records is put into a memory of its size, and fills it
pub file_put : (ms ds : List ℕ) (es : List (Event (Bor (List ℕ)))) (rs : List Record) → length ms ≡ file_size rs → file_size rs ≤ 65536 → ds ≡ deposits_in rs → map value_of es ≡ events_in rs → AllByRecursion (λ e. row_fits (value_of e) ≡ true) es
    → (session_put ms ds (map value_of es) ≡ Ok (file_of rs)) × (length (file_of rs) ≡ length ms)
file_put ms ds es rs long small p q rows =
    let a = size_counted rs in
    let fit = subst AllFit q (rows_of_values es rows) in (
      ap (λ l. session_put ms l (map value_of es)) p ∙ ap (λ l. session_put ms (deposits_in rs) l) q ∙ session_is_file ms (deposits_in rs) (events_in rs) fit (omega arith) (omega arith),
      length_session (deposits_in rs) (events_in rs) fit ∙ sym a ∙ sym long,
    )

-- what the writer answers, and leaves, where it puts a file
pub put_accepted : (r : Result (Unit {0}) FileFault) (old new file : List ℕ) (put : Result (List ℕ) FileFault) → Wrote r old new put → put ≡ Ok file → IsOk r
put_accepted (Ok x) old new file put h e = refl
put_accepted (Err f) old new file put h e = absurd (let p = h.0 in let z : ◌≡◌ {A = ℕ} 0 1 = cc in omega arith)

pub put_left : (r : Result (Unit {0}) FileFault) (x : Unit {0}) (old new file rest : List ℕ) (put : Result (List ℕ) FileFault) (size : ℕ) → Wrote r old new put → put ≡ Ok file → r ≡ Ok x → length file ≡ size → take size (new ++ rest) ≡ file
put_left r x old new file rest put size h e o n =
    let p : put ≡ Ok new = rw o at h in
    let same : new ≡ file = cc in
    take_at new rest size (ap length same ∙ n) ∙ same
