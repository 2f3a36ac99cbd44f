-- The inputs of the worked runs: tables, and calls with the answers that they must get. Each is a case of the folder
-- cases, named in brackets.
use Rattle.std.specs.Prelude.{ℕ, not, List, [], ◌∷◌, eqb, leb}
use Rattle.base.specs.Weight.{ones}
use Rattle.rules.specs.Table.{Table}

-- n peers of which the first h are honest, with threshold t, P periods, and m items of which any two clash
abbrev pub table : ℕ → ℕ → ℕ → ℕ → ℕ → Table
table n t h P m = record {
  n = n;
  t = t;
  honest = λ k. leb k h;
  weight_of = ones;
  periods = P;
  items = m;
  clash = λ x y. not (eqb x y);
}

-- the thirteen bytes of a call: op, peer, other, period, item (also entry number), and a board of items below 8
abbrev pub bytes : ℕ → ℕ → ℕ → ℕ → ℕ → ℕ → List ℕ
bytes op j k p x B = op ∷ j ∷ k ∷ p ∷ x ∷ 0 ∷ 0 ∷ 0 ∷ 0 ∷ 0 ∷ 0 ∷ 0 ∷ B ∷ []

-- calls, each with its answer
abbrev pub Worked : Type 0
Worked = List (List ℕ × ℕ)

abbrev pub calls : Worked → List (List ℕ)
calls [] = []
calls (c ∷ rest) = c.0 ∷ calls rest

abbrev pub due : Worked → List ℕ
due [] = []
due (c ∷ rest) = c.1 ∷ due rest

-- Case R of document 01 (case-r): the smallest board, from post to publish.
abbrev pub table_r : Table
table_r = table 1 1 1 1 1

abbrev pub case_r : Worked
case_r =
    (bytes 1 0 0 0 0 0, 0)  -- post 0
    ∷ (bytes 2 1 0 0 0 0, 0)  -- hand 1 0
    ∷ (bytes 3 1 0 0 0 0, 0)  -- sign 1 0
    ∷ (bytes 5 1 0 0 0 0, 0)  -- share 1 0
    ∷ (bytes 6 0 0 0 0 0, 0)  -- receipt 0 0
    ∷ (bytes 7 1 0 0 0 0, 0)  -- close 1
    ∷ (bytes 9 1 0 0 0 0, 0)  -- hash 1 0
    ∷ (bytes 10 1 0 0 0 0, 0)  -- hear 1 entry 0
    ∷ (bytes 11 1 0 0 0 0, 0)  -- back 1
    ∷ (bytes 12 0 0 0 1 0, 0)  -- publish entry 1
    ∷ []

-- A dishonest peer of four that signs for both of two clashing votes (two-faced).
abbrev pub table_two_faced : Table
table_two_faced = table 4 3 3 1 2

abbrev pub two_faced : Worked
two_faced =
    (bytes 1 0 0 0 0 0, 0)  -- post 0
    ∷ (bytes 1 0 0 0 1 0, 0)  -- post 1
    -- peers 1 and 2 are handed the first vote, peer 3 the second; peer 4 signs both and gives receipt shares for both
    ∷ (bytes 2 1 0 0 0 0, 0)  -- hand 1 0
    ∷ (bytes 2 2 0 0 0 0, 0)  -- hand 2 0
    ∷ (bytes 2 3 0 0 1 0, 0)  -- hand 3 1
    ∷ (bytes 3 1 0 0 0 0, 0)  -- sign 1 0
    ∷ (bytes 3 2 0 0 0 0, 0)  -- sign 2 0
    ∷ (bytes 3 3 0 0 1 0, 0)  -- sign 3 1
    ∷ (bytes 13 4 0 0 0 0, 0)  -- false signature 4 0 0
    ∷ (bytes 13 4 0 0 1 0, 0)  -- false signature 4 0 1
    ∷ (bytes 4 1 2 0 0 0, 0)  -- take 1 2 0 0
    ∷ (bytes 4 1 4 0 0 0, 0)  -- take 1 4 0 0
    ∷ (bytes 4 2 1 0 0 0, 0)  -- take 2 1 0 0
    ∷ (bytes 4 2 4 0 0 0, 0)  -- take 2 4 0 0
    ∷ (bytes 4 3 4 0 1 0, 0)  -- take 3 4 0 1
    ∷ (bytes 5 1 0 0 0 0, 0)  -- share 1 0
    ∷ (bytes 5 2 0 0 0 0, 0)  -- share 2 0
    ∷ (bytes 5 3 0 0 1 0, 12)  -- share 3 1
    ∷ (bytes 14 4 0 0 0 0, 0)  -- false share 4 0 0
    ∷ (bytes 14 4 0 0 1 0, 0)  -- false share 4 0 1
    ∷ (bytes 6 0 0 0 0 0, 0)  -- receipt 0 0
    ∷ (bytes 6 0 0 0 1 0, 12)  -- receipt 0 1
    -- after the close peer 4 sends two hashes and backs two boards
    ∷ (bytes 7 1 0 0 0 0, 0)  -- close 1
    ∷ (bytes 7 2 0 0 0 0, 0)  -- close 2
    ∷ (bytes 7 3 0 0 0 0, 0)  -- close 3
    ∷ (bytes 9 1 0 0 0 0, 0)  -- hash 1 0
    ∷ (bytes 9 2 0 0 0 0, 0)  -- hash 2 0
    ∷ (bytes 9 3 0 0 0 0, 0)  -- hash 3 0
    ∷ (bytes 15 4 0 0 0 1, 0)  -- false hash 4 0 board of item 0
    ∷ (bytes 15 4 0 0 0 0, 0)  -- false hash 4 0 board of no item
    ∷ (bytes 10 1 0 0 0 0, 0)  -- hear 1 entry 0
    ∷ (bytes 10 1 0 0 1 0, 0)  -- hear 1 entry 1
    ∷ (bytes 10 1 0 0 3 0, 0)  -- hear 1 entry 3
    ∷ (bytes 11 1 0 0 0 0, 0)  -- back 1
    ∷ (bytes 10 2 0 0 0 0, 0)  -- hear 2 entry 0
    ∷ (bytes 10 2 0 0 1 0, 0)  -- hear 2 entry 1
    ∷ (bytes 10 2 0 0 4 0, 0)  -- hear 2 entry 4
    ∷ (bytes 11 2 0 0 0 0, 12)  -- back 2
    ∷ (bytes 10 3 0 0 2 0, 0)  -- hear 3 entry 2
    ∷ (bytes 10 3 0 0 4 0, 0)  -- hear 3 entry 4
    ∷ (bytes 11 3 0 0 0 0, 12)  -- back 3
    ∷ (bytes 16 4 0 0 0 0, 0)  -- false backing 4 0 board of no item
    ∷ (bytes 16 4 0 0 0 1, 0)  -- false backing 4 0 board of item 0
    ∷ (bytes 12 0 0 0 6 0, 12)  -- publish entry 6
    ∷ (bytes 12 0 0 0 7 0, 12)  -- publish entry 7
    -- peer 3 fetches what it lacks, and the board with the first vote has three backers
    ∷ (bytes 8 3 1 0 0 0, 0)  -- fetch 3 1 0
    ∷ (bytes 9 3 0 0 0 0, 0)  -- hash 3 0
    ∷ (bytes 10 3 0 0 0 0, 0)  -- hear 3 entry 0
    ∷ (bytes 10 3 0 0 1 0, 0)  -- hear 3 entry 1
    ∷ (bytes 10 3 0 0 8 0, 0)  -- hear 3 entry 8
    ∷ (bytes 11 3 0 0 0 0, 0)  -- back 3
    ∷ (bytes 12 0 0 0 7 0, 0)  -- publish entry 7
    ∷ (bytes 12 0 0 0 6 0, 12)  -- publish entry 6
    ∷ (bytes 10 2 0 0 8 0, 0)  -- hear 2 entry 8
    ∷ (bytes 11 2 0 0 0 0, 0)  -- back 2
    ∷ []

-- The failure behind the board: a peer is asked for a receipt share of a period that it has just left (left-period).
abbrev pub table_left : Table
table_left = table 4 3 3 2 1

abbrev pub left_period : Worked
left_period =
    (bytes 1 0 0 0 0 0, 0)  -- post 0
    ∷ (bytes 2 1 0 0 0 0, 0)  -- hand 1 0
    ∷ (bytes 3 1 0 0 0 0, 0)  -- sign 1 0
    ∷ (bytes 2 3 0 0 0 0, 0)  -- hand 3 0
    ∷ (bytes 3 3 0 0 0 0, 0)  -- sign 3 0
    ∷ (bytes 13 4 0 0 0 0, 0)  -- false signature 4 0 0
    -- peer 3 is down while the signatures of the others come to it
    ∷ (bytes 17 3 0 0 0 0, 0)  -- down 3
    ∷ (bytes 4 3 1 0 0 0, 8)  -- take 3 1 0 0
    ∷ (bytes 4 3 4 0 0 0, 8)  -- take 3 4 0 0
    ∷ (bytes 4 1 3 0 0 0, 0)  -- take 1 3 0 0
    ∷ (bytes 4 1 4 0 0 0, 0)  -- take 1 4 0 0
    ∷ (bytes 5 1 0 0 0 0, 0)  -- share 1 0
    ∷ (bytes 14 4 0 0 0 0, 0)  -- false share 4 0 0
    -- the others close; peer 3 comes back, closes, and backs a board without the vote
    ∷ (bytes 7 1 0 0 0 0, 0)  -- close 1
    ∷ (bytes 7 2 0 0 0 0, 0)  -- close 2
    ∷ (bytes 18 3 0 0 0 0, 0)  -- up 3
    ∷ (bytes 7 3 0 0 0 0, 0)  -- close 3
    ∷ (bytes 9 1 0 0 0 0, 0)  -- hash 1 0
    ∷ (bytes 9 2 0 0 0 0, 0)  -- hash 2 0
    ∷ (bytes 9 3 0 0 0 0, 0)  -- hash 3 0
    ∷ (bytes 15 4 0 0 0 0, 0)  -- false hash 4 0 board of no item
    ∷ (bytes 10 1 0 0 0 0, 0)  -- hear 1 entry 0
    ∷ (bytes 10 1 0 0 1 0, 0)  -- hear 1 entry 1
    ∷ (bytes 10 1 0 0 2 0, 0)  -- hear 1 entry 2
    ∷ (bytes 10 1 0 0 3 0, 0)  -- hear 1 entry 3
    ∷ (bytes 10 2 0 0 0 0, 0)  -- hear 2 entry 0
    ∷ (bytes 10 2 0 0 1 0, 0)  -- hear 2 entry 1
    ∷ (bytes 10 2 0 0 2 0, 0)  -- hear 2 entry 2
    ∷ (bytes 10 2 0 0 3 0, 0)  -- hear 2 entry 3
    ∷ (bytes 10 3 0 0 0 0, 0)  -- hear 3 entry 0
    ∷ (bytes 10 3 0 0 1 0, 0)  -- hear 3 entry 1
    ∷ (bytes 10 3 0 0 2 0, 0)  -- hear 3 entry 2
    ∷ (bytes 10 3 0 0 3 0, 0)  -- hear 3 entry 3
    ∷ (bytes 11 1 0 0 0 0, 12)  -- back 1
    ∷ (bytes 11 2 0 0 0 0, 0)  -- back 2
    ∷ (bytes 11 3 0 0 0 0, 0)  -- back 3
    -- peer 1's database comes to peer 3, which is asked for its receipt share
    ∷ (bytes 8 3 1 0 0 0, 0)  -- fetch 3 1 0
    ∷ (bytes 5 3 0 0 0 0, 12)  -- share 3 0
    ∷ (bytes 6 0 0 0 0 0, 12)  -- receipt 0 0
    -- the board goes out without the vote, and nobody has a receipt for it
    ∷ (bytes 8 2 1 0 0 0, 0)  -- fetch 2 1 0
    ∷ (bytes 16 4 0 0 0 0, 0)  -- false backing 4 0 board of no item
    ∷ (bytes 12 0 0 0 4 0, 0)  -- publish entry 4
    ∷ []

-- Two dishonest peers of four, with threshold 3: too few honest ones for demand 3 (example-6-1-two-liars).
abbrev pub table_liars : Table
table_liars = table 4 3 2 1 2

abbrev pub two_liars : Worked
two_liars =
    (bytes 1 0 0 0 0 0, 0)  -- post 0
    ∷ (bytes 1 0 0 0 1 0, 0)  -- post 1
    -- the first vote, with peers 1, 3 and 4
    ∷ (bytes 2 1 0 0 0 0, 0)  -- hand 1 0
    ∷ (bytes 3 1 0 0 0 0, 0)  -- sign 1 0
    ∷ (bytes 13 3 0 0 0 0, 0)  -- false signature 3 0 0
    ∷ (bytes 13 4 0 0 0 0, 0)  -- false signature 4 0 0
    ∷ (bytes 4 1 3 0 0 0, 0)  -- take 1 3 0 0
    ∷ (bytes 4 1 4 0 0 0, 0)  -- take 1 4 0 0
    ∷ (bytes 5 1 0 0 0 0, 0)  -- share 1 0
    ∷ (bytes 14 3 0 0 0 0, 0)  -- false share 3 0 0
    ∷ (bytes 14 4 0 0 0 0, 0)  -- false share 4 0 0
    ∷ (bytes 6 0 0 0 0 0, 0)  -- receipt 0 0
    -- the second, with peers 2, 3 and 4
    ∷ (bytes 2 2 0 0 1 0, 0)  -- hand 2 1
    ∷ (bytes 3 2 0 0 1 0, 0)  -- sign 2 1
    ∷ (bytes 13 3 0 0 1 0, 0)  -- false signature 3 0 1
    ∷ (bytes 13 4 0 0 1 0, 0)  -- false signature 4 0 1
    ∷ (bytes 4 2 3 0 1 0, 0)  -- take 2 3 0 1
    ∷ (bytes 4 2 4 0 1 0, 0)  -- take 2 4 0 1
    ∷ (bytes 5 2 0 0 1 0, 0)  -- share 2 1
    ∷ (bytes 14 3 0 0 1 0, 0)  -- false share 3 0 1
    ∷ (bytes 14 4 0 0 1 0, 0)  -- false share 4 0 1
    ∷ (bytes 6 0 0 0 1 0, 0)  -- receipt 0 1
    ∷ []

-- What a line may deliver: bytes that are no step, names out of range, steps out of place (odd-bytes).
abbrev pub table_odd : Table
table_odd = table 3 3 2 2 1

abbrev pub odd_bytes : Worked
odd_bytes =
    (bytes 0 0 0 0 0 0, 5)  -- no op 0
    ∷ (bytes 19 1 0 0 0 0, 5)  -- no op 19
    ∷ (bytes 1 0 0 0 0 0, 0)  -- post 0
    ∷ (bytes 1 1 0 0 0 0, 5)  -- a post that names a peer
    ∷ (bytes 2 1 0 0 0 1, 5)  -- a hand with a board
    ∷ (bytes 2 0 0 0 0 0, 6)  -- hand 0 0
    ∷ (bytes 2 4 0 0 0 0, 6)  -- hand 4 0
    ∷ (bytes 2 1 0 0 1 0, 6)  -- hand 1 1
    ∷ (bytes 2 3 0 0 0 0, 7)  -- hand 3 0
    ∷ (bytes 2 1 0 0 0 0, 0)  -- hand 1 0
    ∷ (bytes 2 1 0 0 0 0, 0)  -- hand 1 0
    ∷ (bytes 13 1 0 0 0 0, 7)  -- false signature 1 0 0
    ∷ (bytes 13 3 0 2 0 0, 6)  -- false signature 3 2 0
    ∷ (bytes 13 3 0 1 0 0, 0)  -- false signature 3 1 0
    ∷ (bytes 4 1 3 1 0 0, 9)  -- take 1 3 1 0
    ∷ (bytes 4 1 3 0 0 0, 10)  -- take 1 3 0 0
    ∷ (bytes 15 3 0 0 0 3, 6)  -- false hash 3 0 board of items 0 and 1
    ∷ (bytes 15 3 0 0 0 1, 0)  -- false hash 3 0 board of item 0
    ∷ (bytes 10 1 0 0 0 0, 9)  -- hear 1 entry 0
    ∷ (bytes 10 1 0 0 255 0, 10)  -- hear 1 entry 255
    ∷ (bytes 12 0 0 0 0 0, 10)  -- publish entry 0
    ∷ (bytes 11 1 0 0 0 0, 9)  -- back 1
    ∷ (1 ∷ 0 ∷ 0 ∷ [], 5)  -- a short tail
    ∷ []
