-- Small ballot tables of the first season, of which the cases are made.
use Rattle.std.specs.Prelude.{ℕ, ◌-◌, ◌/◌, ◌%◌, ◌^◌, Bool, List, [], ◌∷◌, ◌++◌, length}
use Rattle.ballot.specs.declared.item.Audits.TheVariants.{Bare}
use Rattle.clash.specs.Clash as rule

-- n peers with threshold t, no honest peer, one period and no items
abbrev pub empty : ℕ → ℕ → List ℕ
empty n t = n ∷ t ∷ 0 ∷ 0 ∷ 1 ∷ 0 ∷ []

-- one peer, one period and the one item with this text
abbrev pub single : List ℕ → List ℕ
single text = 1 ∷ 1 ∷ 0 ∷ 0 ∷ 1 ∷ 1 ∷ 0 ∷ 10 ∷ 0 ∷ length text ∷ text

-- an item of ballot 7: its kind byte, and the bytes after it
abbrev pub item : ℕ → List ℕ → List ℕ
item kind rest = 0 ∷ 0 ∷ 0 ∷ 7 ∷ kind ∷ rest

abbrev pub vote : List ℕ → List ℕ
vote preferences = item 1 preferences

abbrev pub audit : List ℕ
audit = item 2 []

abbrev pub cancellation : List ℕ
cancellation = item 3 []

-- two items with these texts clash in such a table
abbrev pub clash : List ℕ → List ℕ → Bool
clash a b = rule.clash Bare a b

-- one peer, one period and two items with texts of five bytes
abbrev pub two_fives : List ℕ → List ℕ
two_fives texts = 1 ∷ 1 ∷ 0 ∷ 0 ∷ 1 ∷ 2 ∷ 0 ∷ 14 ∷ 0 ∷ 5 ∷ 0 ∷ 19 ∷ 0 ∷ 5 ∷ texts

-- one peer, one period and three items of ballot 7: a vote, an audit and a cancellation
abbrev pub three : List ℕ
three =
    1 ∷ 1 ∷ 0 ∷ 0 ∷ 1 ∷ 3 ∷ 0 ∷ 18 ∷ 0 ∷ 6 ∷ 0 ∷ 24 ∷ 0 ∷ 5 ∷ 0 ∷ 29 ∷ 0 ∷ 5 ∷
    (vote (0 ∷ []) ++ (audit ++ cancellation))

-- n peers with threshold t, of which the first h are honest, P periods, and two votes of ballot 7, which clash
abbrev pub votes_over : ℕ → ℕ → ℕ → ℕ → List ℕ
votes_over P n t h =
    let honest = 2 ^ h - 1 in
    n ∷ t ∷ honest / 256 ∷ honest % 256 ∷ P ∷ 2 ∷ 0 ∷ 14 ∷ 0 ∷ 6 ∷ 0 ∷ 20 ∷ 0 ∷ 6 ∷
    (vote (0 ∷ []) ++ vote (1 ∷ []))

-- the same with one period
abbrev pub two_votes : ℕ → ℕ → ℕ → List ℕ
two_votes = votes_over 1

-- the table of case R
abbrev pub case_r : List ℕ
case_r = 1 ∷ 1 ∷ 0 ∷ 1 ∷ 1 ∷ 1 ∷ 0 ∷ 10 ∷ 0 ∷ 5 ∷ 0 ∷ 0 ∷ 0 ∷ 7 ∷ 2 ∷ []
