-- A text cut at its newlines, piece by piece.
use Rattle.std.proofs.Common.{◌≡◌, ℕ, ◌+◌, Bool, true, false, cond, List, [], ◌∷◌, ◌++◌, length, get_or, Some, Ok, Err, Result, Bor, sym, ap, ◌∙◌, subst, arith}
use denote.Param.Members.{Mut, Called}
use Rattle.std.specs.Bool.{◌==◌, MatchBool}
use Rattle.std.specs.List.{All, IsFirstMatchOrLen}
use Rattle.std.specs.Slice.Iter.{split_rest, split_done, split_callee, split_steps}
use Rattle.std.specs.declared.slice.Split.{Split}
use Rattle.std.proofs.lemmas.Fn.{always_returns_same}
use Rattle.std.proofs.lemmas.Grind.{common_steps}
use Rattle.std.proofs.lemmas.List.Splits.{slice_split_none, slice_split_at}
use Rattle.lines.specs.Record.{Record}
use Rattle.lines.specs.Parsed.{parsed}
use Rattle.session_texts.specs.declared.fault.TextFault.{TextFault}
use Rattle.session_texts.specs.declared.fault.MakeFault.{MakeFault}
use Rattle.session_texts.specs.declared.fault.MakeFault.TheVariants.{Line as AtLine, Memory}
use Rattle.session_texts.specs.Lines.{lines_of}
use Rattle.session_texts.specs.Told.{told, heard, heard_from, heard_all}
use Rattle.session_texts.specs.Drafts.{Heard, ToldBy}

-- the lines that an iterator has left
abbrev pub lines_left : {F : Type 0} → Split ℕ F → List (List ℕ)
lines_left s = cond (split_done s) [] (lines_of (split_rest s))

line_cut : (text line rest : List ℕ) (done : Bool) → MatchBool done (text ≡ line) ((b : ℕ) × (text ≡ line ++ (b ∷ rest))) → IsFirstMatchOrLen (λ b. b == 10) text (length line) → lines_of text ≡ line ∷ cond done [] (lines_of rest)
line_cut text line rest true e h = ap lines_of e ∙ slice_split_none (λ b. b == 10) line (λ k d l. subst (λ (bs : List ℕ). (get_or bs k d == 10) ≡ false) e (h.0 k d (omega arith) l))
line_cut text line rest false e h =
    let front : All (λ b. (b == 10) ≡ false) line = λ k d l. let a = h.0 k d (omega arith) l in let b = e.1 in grind (arith, common_steps) in
    let hit : (e.0 == 10) ≡ true = let b = e.1 in let a = h.1 (grind (arith, common_steps)) e.0 in grind (arith, common_steps) in
    ap lines_of e.1 ∙ slice_split_at (λ b. b == 10) line e.0 rest front hit

-- one line is taken off
pub line_taken : {F : Type 0} (g : Mut F (Bor ℕ × Unit {0}) Bool) (s t : Split ℕ F) (line : Bor (List ℕ)) → split_steps g s (Some line) t → ((a : Bor ℕ × Unit {0}) (r : Bool) (q : F) → Called g (split_callee s) a r q → (r ≡ (a.0.now == 10)) × (q ≡ split_callee s)) → lines_left s ≡ line.now ∷ lines_left t
line_taken g s t line k says =
    ap (λ b. cond b [] (lines_of (split_rest s))) k.0
    ∙ line_cut (split_rest s) line.now (split_rest t) (split_done t) k.1 (k.2 (λ b. b == 10) (always_returns_same g (λ a r. r ≡ (a.0.now == 10)) (split_callee s) says)).1

module _ (n m : ℕ) (rs : List Record) (left more : List (List ℕ)) (line : List ℕ) (whole : Result (List Record) (ℕ × TextFault)) (cut : left ≡ line ∷ more) (before : heard_all n left rs ≡ whole) where
  pub heard_more : (new : List Record) → m ≡ n + 1 → heard rs (parsed line) ≡ Ok new → heard_all m more new ≡ whole
  heard_more new e h = ap (λ k. heard_all k more new) e ∙ sym (ap (λ r. heard_from n r (heard_all (n + 1) more)) h) ∙ sym (ap (λ ls. heard_all n ls rs) cut) ∙ before

  pub heard_stopped : (f : TextFault) → heard rs (parsed line) ≡ Err f → whole ≡ Err (n, f)
  heard_stopped f h = sym before ∙ ap (λ ls. heard_all n ls rs) cut ∙ ap (λ r. heard_from n r (heard_all (n + 1) more)) h

-- and one at fault decides: the answer on it is that on the text
pub told_stopped : (text : List ℕ) (n m : ℕ) (rs new : List Record) (left more : List (List ℕ)) (line : List ℕ) (e : MakeFault) → left ≡ line ∷ more → heard_all n left rs ≡ told text → m ≡ n → Heard (Err e) m (heard rs (parsed line)) new → ToldBy (Err e) text
told_stopped text n m rs new left more line (AtLine k f) cut before e h =
    heard_stopped n n rs left more line (told text) cut before f h.1 ∙ ap (λ j. Err (j, f)) (sym (h.0 ∙ e))
told_stopped text n m rs new left more line Memory cut before e h = tt
