-- The listing of a file in the standard layout is the text of its records.
use Rattle.std.proofs.Common.{◌≡◌, ℕ, zero, suc, ◌+◌, ◌^◌, ◌<◌, ◌≤◌, true, false, eqb, ltb, List, [], ◌∷◌, ◌++◌, map, length, get_or, take, Ok, sym, refl, ap, ◌∙◌, subst, append_assoc, add-one, arith}
use Rattle.std.proofs.lemmas.Bool.Decides.{nat_tests}
use Rattle.std.specs.List.{flat_map, AllByRecursion}
use Rattle.std.proofs.lemmas.List.{append-nil, take_more, take_all, flat_map_more}
use Rattle.faults.specs.declared.section.Section.TheVariants.{Deposits, Events}
use Rattle.records.specs.Event.{EventValue, opening, new_step, raise, close, changeover, encoded, row_fits, Sized}
use Rattle.records.proofs.ReadBack.{keeps}
use Rattle.lines.specs.Record.{Record, deposit, event, line_of, Fits}
use Rattle.lines.specs.Shown.{shown_record}
use Rattle.listings.specs.Texts.{ended_line, up_to}
use Rattle.listings.specs.Listed.{record_line, line_or, section_lines, listed, listed_or}
use Rattle.sessions.specs.Layout.{size_of}
use Rattle.sessions.specs.Reading.{admitted, count_in, next, of_number}
use Rattle.session_writer.specs.Writing.{session_bytes}
use Rattle.session_writer.specs.RoundTrip.{SessionIn, AllKept}
use Rattle.session_writer.proofs.Wholes.{session_in}
use Rattle.session_texts.specs.Again.{records_from}
use Rattle.session_texts.proofs.Files.{AllFit, length_session}
use Rattle.session_texts.proofs.Heard.{text_of}

-- the lines of the numbers 1 to n are those of a list's elements
module _ {X : Type 0} (line : ℕ → List ℕ) (shown : X → List ℕ) (xs : List X) (d : X) (each : (k : ℕ) → k < length xs → line (k + 1) ≡ shown (get_or xs k d)) where
  first_lines : (i : ℕ) → i ≤ length xs → up_to line i ≡ flat_map (λ x. ended_line (shown x)) (take i xs)
  first_lines zero h = refl
  first_lines (suc i) h =
      let more : take (suc i) xs ≡ take i xs ++ (get_or xs i d ∷ []) = ap (λ n. take n xs) (sym (add-one i)) ∙ take_more xs i d (omega arith) in
      ap (λ l. up_to line i ++ ended_line l) (each i (omega arith))
      ∙ ap (λ l. l ++ ended_line (shown (get_or xs i d))) (first_lines i (omega arith))
      ∙ flat_map_more (λ x. ended_line (shown x)) [] (take i xs) (get_or xs i d)
      ∙ sym (ap (λ l. flat_map (λ x. ended_line (shown x)) l) more)

  all_lines : (n : ℕ) → n ≡ length xs → up_to line n ≡ flat_map (λ x. ended_line (shown x)) xs
  all_lines n e = ap (λ m. up_to line m) e ∙ first_lines (length xs) (omega arith) ∙ ap (λ l. flat_map (λ x. ended_line (shown x)) l) (take_all (length xs) xs (omega arith))

joined_map : {X : Type 0} (f : X → Record) (xs : List X) → flat_map (λ x. ended_line (shown_record (f x))) xs ≡ text_of (map f xs)
joined_map f [] = refl
joined_map f (x ∷ xs) = ap (λ l. ended_line (shown_record (f x)) ++ l) (joined_map f xs)

text_append : (xs ys : List Record) → text_of (xs ++ ys) ≡ text_of xs ++ text_of ys
text_append [] ys = refl
text_append (x ∷ xs) ys = ap (λ l. ended_line (shown_record x) ++ l) (text_append xs ys) ∙ sym (append_assoc (ended_line (shown_record x)) (text_of xs) (text_of ys))

-- an event that fits can be kept and has a line
sized_row_fits : (e : EventValue) → Sized e → row_fits e ≡ true
sized_row_fits (opening row) h = grind (arith, nat_tests)
sized_row_fits (new_step a b c d t) h = refl
sized_row_fits (raise a b s d t) h = refl
sized_row_fits close h = refl
sized_row_fits changeover h = refl

has_line : (e : EventValue) → Sized e → line_of e ≡ Ok (event e)
has_line (opening row) h = let n : eqb (length row) 14 ≡ true = grind (arith, nat_tests) in rw n
has_line (new_step a b c d t) h = refl
has_line (raise a b s d t) h = refl
has_line close h = refl
has_line changeover h = refl

-- what fits, by its place
fits_deposit : (ds : List ℕ) (es : List EventValue) → AllByRecursion Fits (records_from ds es) → (k : ℕ) → get_or ds k 0 < 2 ^ 32
fits_deposit [] es h k = omega arith
fits_deposit (d ∷ ds) es h zero = h.0
fits_deposit (d ∷ ds) es h (suc k) = fits_deposit ds es h.1 k

fits_event : (ds : List ℕ) (es : List EventValue) → AllByRecursion Fits (records_from ds es) → (k : ℕ) → Sized (get_or es k close)
fits_event (d ∷ ds) es h k = fits_event ds es h.1 k
fits_event [] [] h k = tt
fits_event [] (e ∷ es) h zero = h.0.0
fits_event [] (e ∷ es) h (suc k) = fits_event [] es h.1 k

all_fit : (ds : List ℕ) (es : List EventValue) → AllByRecursion Fits (records_from ds es) → AllFit es
all_fit (d ∷ ds) es h = all_fit ds es h.1
all_fit [] [] h = tt
all_fit [] (e ∷ es) h = (sized_row_fits e h.0.0, all_fit [] es h.1)

module _ (ds : List ℕ) (es : List EventValue) (fit : AllByRecursion Fits (records_from ds es)) (small : size_of (length ds) (length es) ≤ 65536) where
  kept : AllKept es
  kept k h = (sized_row_fits (get_or es k close) (fits_event ds es fit k), keeps (encoded (get_or es k close)) (get_or es k close) (fits_event ds es fit k) refl)

  in_file : SessionIn (session_bytes ds es) ds es
  in_file = subst (λ (bs : List ℕ). SessionIn bs ds es) (append-nil (session_bytes ds es)) (session_in ds es [] (omega arith) (omega arith) (fits_deposit ds es fit) kept)

  file_admitted : admitted (session_bytes ds es) ≡ Ok tt
  file_admitted =
      let n = length_session ds es (all_fit ds es fit) in
      let z : ltb 65536 (length (session_bytes ds es)) ≡ false = grind (arith, nat_tests) in
      rw z in_file.opens

  deposit_line : (k : ℕ) → k < length ds → record_line Deposits (session_bytes ds es) (k + 1) ≡ shown_record (deposit (get_or ds k 0))
  deposit_line k h = ap (λ r. line_or Deposits (k + 1) (next r (λ dollars. Ok (deposit dollars)))) (in_file.all_deposits k h)

  event_line : (k : ℕ) → k < length es → record_line Events (session_bytes ds es) (k + 1) ≡ shown_record (event (get_or es k close))
  event_line k h =
      ap (λ r. line_or Events (k + 1) (next r (λ e. of_number (k + 1) (line_of e)))) (in_file.all_events k h)
      ∙ ap (λ r. line_or Events (k + 1) (of_number (k + 1) r)) (has_line (get_or es k close) (fits_event ds es fit k))

  pub listed_text : listed (session_bytes ds es) ≡ text_of (records_from ds es)
  listed_text =
      let c : count_in Deposits (session_bytes ds es) ≡ length ds = rw in_file.opens in_file.deposits in
      let m : count_in Events (session_bytes ds es) ≡ length es = rw in_file.opens in_file.events in
      ap (λ r. listed_or r (session_bytes ds es)) file_admitted
      ∙ ap (λ l. l ++ section_lines Events (session_bytes ds es)) (all_lines (record_line Deposits (session_bytes ds es)) (λ d. shown_record (deposit d)) ds 0 deposit_line _ c ∙ joined_map deposit ds)
      ∙ ap (λ l. text_of (map deposit ds) ++ l) (all_lines (record_line Events (session_bytes ds es)) (λ e. shown_record (event e)) es close event_line _ m ∙ joined_map event es)
      ∙ sym (text_append (map deposit ds) (map event es))
