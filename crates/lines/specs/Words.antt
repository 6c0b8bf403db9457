-- The words of a line, and the number that a word writes.
use Rattle.std.specs.Prelude.{ℕ, Bool, cond, ◌||◌, List, [], ◌∷◌, ◌==◌}

-- what stands between words: a space, a tab or a carriage return
abbrev pub blank : ℕ → Bool
blank b = b == 32 || (b == 9 || b == 13)

-- a text without the blanks in front
abbrev pub skip : List ℕ → List ℕ
skip [] = []
skip (b ∷ bs) = cond (blank b) (skip bs) (b ∷ bs)

-- what stands before the first blank
abbrev pub front : List ℕ → List ℕ
front [] = []
front (b ∷ bs) = cond (blank b) [] (b ∷ front bs)

-- and what stands from there on
abbrev pub back : List ℕ → List ℕ
back [] = []
back (b ∷ bs) = cond (blank b) (b ∷ bs) (back bs)

-- the first word of a text, empty where there is none
abbrev pub word : List ℕ → List ℕ
word text = front (skip text)

-- what follows the first word
abbrev pub rest : List ℕ → List ℕ
rest text = back (skip text)
