-- Text read: its lines, how often a byte stands in it, and the word that it begins with.
use Rattle.std.specs.Prelude.{ℕ, ◌+◌, Bool, true, false, cond, ◌&&◌, List, [], ◌∷◌, ◌++◌, eqb}

-- the lines of a text, each without the byte 10 that ends it; `line` is what was read of the first one so far, and what
-- no byte 10 ends is no line
unfoldable pub lines_from : List ℕ → List ℕ → List (List ℕ)
lines_from line [] = []
lines_from line (b ∷ text) = cond (eqb b 10) (line ∷ lines_from [] text) (lines_from (line ++ (b ∷ [])) text)

abbrev pub lines_of : List ℕ → List (List ℕ)
lines_of text = lines_from [] text

-- how often byte b stands in a text
unfoldable pub times_in : ℕ → List ℕ → ℕ
times_in b [] = 0
times_in b (a ∷ text) = cond (eqb a b) 1 0 + times_in b text

-- a text begins with a word
unfoldable pub begins : List ℕ → List ℕ → Bool
begins [] text = true
begins (b ∷ word) [] = false
begins (b ∷ word) (a ∷ text) = eqb a b && begins word text

-- over the lines that begin with a word: what v gives for each, summed
unfoldable pub tally : List ℕ → (List ℕ → ℕ) → List (List ℕ) → ℕ
tally word v [] = 0
tally word v (line ∷ lines) = cond (begins word line) (v line) 0 + tally word v lines
