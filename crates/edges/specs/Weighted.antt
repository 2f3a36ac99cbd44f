-- Tables of the third season, what they are refused for, and a run on one of them.
use Rattle.std.specs.Prelude.{ℕ, true, false, List, [], ◌∷◌, ◌++◌, ◌≡◌, replicate}
use Rattle.header.specs.Header.{head_of, threshold_of, total_weight, honest_count}
use Rattle.header.specs.Quorum.{reaches, honest_weight}
use Rattle.ballot.specs.Table.{refusal}
use Rattle.edges.specs.Tables.{empty, vote, audit}
use Rattle.edges.specs.Cases.{bytes, Worked}
use Rattle.edges.specs.Seasons.{audit_from, two_places}
use Rattle.edges.specs.Weights.{SameButOnes}

-- a table of the third season, with this after its two first bytes
abbrev pub third : List ℕ → List ℕ
third s = 0 ∷ 3 ∷ s

-- four peers with threshold t and no honest peer, one period and no items, and these weights
abbrev pub fours : ℕ → List ℕ → List ℕ
fours t weights = third (empty 4 t ++ weights)

-- as many peers as may be, each of the greatest weight: they weigh 64
abbrev pub heaviest : ℕ → List ℕ
heaviest t = third (empty 16 t ++ replicate 16 4)

-- one peer of weight 1, one period and one item of six bytes, its pair with this offset
abbrev pub one_item : ℕ → List ℕ → List ℕ
one_item offset text = third (1 ∷ 1 ∷ 0 ∷ 0 ∷ 1 ∷ 1 ∷ 1 ∷ 0 ∷ offset ∷ 0 ∷ 6 ∷ text)

-- The table `two_places` with weights, each of which is 1.
abbrev pub ones_places : List ℕ
ones_places =
    third (4 ∷ 3 ∷ 0 ∷ 7 ∷ 1 ∷ 2 ∷ 1 ∷ 1 ∷ 1 ∷ 1 ∷ 0 ∷ 20 ∷ 0 ∷ 6 ∷ 0 ∷ 26 ∷ 0 ∷ 6 ∷ (audit_from 5 ++ audit_from 6))

-- Four peers of weights 4, 1, 1 and 1, threshold 5, this honest set, two periods; a vote, and an audit of another
-- ballot (weights-carry).
abbrev pub carry_table : ℕ → List ℕ
carry_table honest =
    third (4 ∷ 5 ∷ 0 ∷ honest ∷ 2 ∷ 2 ∷ 4 ∷ 1 ∷ 1 ∷ 1 ∷ 0 ∷ 20 ∷ 0 ∷ 6 ∷ 0 ∷ 26 ∷ 0 ∷ 6 ∷
    0 ∷ 0 ∷ 0 ∷ 7 ∷ 1 ∷ 1 ∷ 0 ∷ 0 ∷ 0 ∷ 8 ∷ 2 ∷ 5 ∷ [])

-- All are honest. Peers 1 and 2 carry the vote to its receipt and its board; peers 2, 3 and 4 do not carry the audit.
abbrev pub weights_carry : Worked
weights_carry =
    (bytes 1 0 0 0 0 0, 0)  -- post 0
    ∷ (bytes 1 0 0 0 1 0, 0)  -- post 1
    -- the vote, with peers 1 and 2 alone, which weigh 5
    ∷ (bytes 2 1 0 0 0 0, 0)  -- hand 1 0
    ∷ (bytes 2 2 0 0 0 0, 0)  -- hand 2 0
    ∷ (bytes 3 1 0 0 0 0, 0)  -- sign 1 0
    ∷ (bytes 5 1 0 0 0 0, 12)  -- share 1 0
    ∷ (bytes 3 2 0 0 0 0, 0)  -- sign 2 0
    ∷ (bytes 4 1 2 0 0 0, 0)  -- take 1 2 0 0
    ∷ (bytes 4 2 1 0 0 0, 0)  -- take 2 1 0 0
    ∷ (bytes 5 1 0 0 0 0, 0)  -- share 1 0
    ∷ (bytes 6 0 0 0 0 0, 12)  -- receipt 0 0
    ∷ (bytes 5 2 0 0 0 0, 0)  -- share 2 0
    ∷ (bytes 6 0 0 0 0 0, 0)  -- receipt 0 0
    -- the audit, with peers 2, 3 and 4, which weigh 3
    ∷ (bytes 2 2 0 0 1 0, 0)  -- hand 2 1
    ∷ (bytes 2 3 0 0 1 0, 0)  -- hand 3 1
    ∷ (bytes 2 4 0 0 1 0, 0)  -- hand 4 1
    ∷ (bytes 3 2 0 0 1 0, 0)  -- sign 2 1
    ∷ (bytes 3 3 0 0 1 0, 0)  -- sign 3 1
    ∷ (bytes 3 4 0 0 1 0, 0)  -- sign 4 1
    ∷ (bytes 4 2 3 0 1 0, 0)  -- take 2 3 0 1
    ∷ (bytes 4 2 4 0 1 0, 0)  -- take 2 4 0 1
    ∷ (bytes 4 3 2 0 1 0, 0)  -- take 3 2 0 1
    ∷ (bytes 4 3 4 0 1 0, 0)  -- take 3 4 0 1
    ∷ (bytes 5 2 0 0 1 0, 12)  -- share 2 1
    ∷ (bytes 5 3 0 0 1 0, 12)  -- share 3 1
    ∷ (bytes 6 0 0 0 1 0, 12)  -- receipt 0 1
    -- all close; the board of each has the vote alone
    ∷ (bytes 7 1 0 0 0 0, 0)  -- close 1
    ∷ (bytes 7 2 0 0 0 0, 0)  -- close 2
    ∷ (bytes 7 3 0 0 0 0, 0)  -- close 3
    ∷ (bytes 7 4 0 0 0 0, 0)  -- close 4
    ∷ (bytes 8 3 2 0 0 0, 0)  -- fetch 3 2 0
    ∷ (bytes 8 4 2 0 0 0, 0)  -- fetch 4 2 0
    -- three hashes that weigh 3, and two that weigh 5
    ∷ (bytes 9 2 0 0 0 0, 0)  -- hash 2 0
    ∷ (bytes 9 3 0 0 0 0, 0)  -- hash 3 0
    ∷ (bytes 9 4 0 0 0 0, 0)  -- hash 4 0
    ∷ (bytes 10 2 0 0 0 0, 0)  -- hear 2 entry 0
    ∷ (bytes 10 2 0 0 1 0, 0)  -- hear 2 entry 1
    ∷ (bytes 10 2 0 0 2 0, 0)  -- hear 2 entry 2
    ∷ (bytes 11 2 0 0 0 0, 12)  -- back 2
    ∷ (bytes 9 1 0 0 0 0, 0)  -- hash 1 0
    ∷ (bytes 10 1 0 0 3 0, 0)  -- hear 1 entry 3
    ∷ (bytes 11 1 0 0 0 0, 12)  -- back 1
    ∷ (bytes 10 1 0 0 0 0, 0)  -- hear 1 entry 0
    ∷ (bytes 11 1 0 0 0 0, 0)  -- back 1
    ∷ (bytes 12 0 0 0 4 0, 12)  -- publish entry 4
    ∷ (bytes 10 2 0 0 3 0, 0)  -- hear 2 entry 3
    ∷ (bytes 11 2 0 0 0 0, 0)  -- back 2
    ∷ (bytes 12 0 0 0 4 0, 0)  -- publish entry 4
    -- in the next period
    ∷ (bytes 5 2 0 0 0 0, 17)  -- share 2 0
    ∷ []

-- Four peers of weights 4, 1, 1 and 1, threshold 5, this honest set, two periods; two votes of one ballot, which clash.
abbrev pub clash_table : ℕ → List ℕ
clash_table honest =
    third (4 ∷ 5 ∷ 0 ∷ honest ∷ 2 ∷ 2 ∷ 4 ∷ 1 ∷ 1 ∷ 1 ∷ 0 ∷ 20 ∷ 0 ∷ 6 ∷ 0 ∷ 26 ∷ 0 ∷ 6 ∷
    (vote (0 ∷ []) ++ vote (1 ∷ [])))

-- Peers 2, 3 and 4 are honest, three of four heads, and weigh 3. With peer 1, which weighs 4, each of two of them
-- carries one of the clashing votes to its receipt (weights-lie).
abbrev pub weights_lie : Worked
weights_lie =
    (bytes 1 0 0 0 0 0, 0)  -- post 0
    ∷ (bytes 1 0 0 0 1 0, 0)  -- post 1
    ∷ (bytes 2 2 0 0 0 0, 0)  -- hand 2 0
    ∷ (bytes 3 2 0 0 0 0, 0)  -- sign 2 0
    ∷ (bytes 2 3 0 0 1 0, 0)  -- hand 3 1
    ∷ (bytes 3 3 0 0 1 0, 0)  -- sign 3 1
    ∷ (bytes 13 1 0 0 0 0, 0)  -- false signature 1 0 0
    ∷ (bytes 13 1 0 0 1 0, 0)  -- false signature 1 0 1
    ∷ (bytes 4 2 1 0 0 0, 0)  -- take 2 1 0 0
    ∷ (bytes 4 3 1 0 1 0, 0)  -- take 3 1 0 1
    ∷ (bytes 5 2 0 0 0 0, 0)  -- share 2 0
    ∷ (bytes 5 3 0 0 1 0, 0)  -- share 3 1
    ∷ (bytes 14 1 0 0 0 0, 0)  -- false share 1 0 0
    ∷ (bytes 14 1 0 0 1 0, 0)  -- false share 1 0 1
    ∷ (bytes 6 0 0 0 0 0, 0)  -- receipt 0 0
    ∷ (bytes 6 0 0 0 1 0, 0)  -- receipt 0 1
    ∷ []

-- Peers 1 and 2 are honest, two of four heads, and weigh 5, just t. The two others sign, share and back whatever there
-- is, and one of the clashing votes is receipted and published (weights-hold).
abbrev pub weights_hold : Worked
weights_hold =
    (bytes 1 0 0 0 0 0, 0)  -- post 0
    ∷ (bytes 1 0 0 0 1 0, 0)  -- post 1
    ∷ (bytes 2 1 0 0 0 0, 0)  -- hand 1 0
    ∷ (bytes 2 2 0 0 1 0, 0)  -- hand 2 1
    ∷ (bytes 3 1 0 0 0 0, 0)  -- sign 1 0
    ∷ (bytes 3 2 0 0 1 0, 0)  -- sign 2 1
    ∷ (bytes 13 3 0 0 0 0, 0)  -- false signature 3 0 0
    ∷ (bytes 13 3 0 0 1 0, 0)  -- false signature 3 0 1
    ∷ (bytes 13 4 0 0 0 0, 0)  -- false signature 4 0 0
    ∷ (bytes 13 4 0 0 1 0, 0)  -- false signature 4 0 1
    ∷ (bytes 4 1 3 0 0 0, 0)  -- take 1 3 0 0
    ∷ (bytes 4 2 3 0 1 0, 0)  -- take 2 3 0 1
    ∷ (bytes 4 2 4 0 1 0, 0)  -- take 2 4 0 1
    -- the first vote has two signers, which weigh 5, and the second three, which weigh 3
    ∷ (bytes 5 1 0 0 0 0, 0)  -- share 1 0
    ∷ (bytes 5 2 0 0 1 0, 12)  -- share 2 1
    ∷ (bytes 14 3 0 0 0 0, 0)  -- false share 3 0 0
    ∷ (bytes 14 3 0 0 1 0, 0)  -- false share 3 0 1
    ∷ (bytes 14 4 0 0 1 0, 0)  -- false share 4 0 1
    ∷ (bytes 6 0 0 0 0 0, 0)  -- receipt 0 0
    ∷ (bytes 6 0 0 0 1 0, 12)  -- receipt 0 1
    ∷ (bytes 7 1 0 0 0 0, 0)  -- close 1
    ∷ (bytes 7 2 0 0 0 0, 0)  -- close 2
    ∷ (bytes 8 2 1 0 0 0, 0)  -- fetch 2 1 0
    ∷ (bytes 9 1 0 0 0 0, 0)  -- hash 1 0
    ∷ (bytes 9 2 0 0 0 0, 0)  -- hash 2 0
    ∷ (bytes 15 3 0 0 0 2, 0)  -- false hash 3 0 board of item 1
    ∷ (bytes 10 1 0 0 0 0, 0)  -- hear 1 entry 0
    ∷ (bytes 10 1 0 0 1 0, 0)  -- hear 1 entry 1
    ∷ (bytes 11 1 0 0 0 0, 0)  -- back 1
    ∷ (bytes 10 2 0 0 1 0, 0)  -- hear 2 entry 1
    ∷ (bytes 10 2 0 0 2 0, 0)  -- hear 2 entry 2
    ∷ (bytes 11 2 0 0 0 0, 12)  -- back 2
    ∷ (bytes 10 2 0 0 0 0, 0)  -- hear 2 entry 0
    ∷ (bytes 11 2 0 0 0 0, 0)  -- back 2
    ∷ (bytes 16 3 0 0 0 2, 0)  -- false backing 3 0 board of item 1
    ∷ (bytes 16 4 0 0 0 2, 0)  -- false backing 4 0 board of item 1
    ∷ (bytes 12 0 0 0 5 0, 12)  -- publish entry 5
    ∷ (bytes 12 0 0 0 3 0, 0)  -- publish entry 3
    ∷ []

-- 0 is taken, 1 header, 2 pairs, 3 item
pub record WeightCases : Type 0 where
  -- the weights are there, one for each peer
  pub carry_taken : refusal (carry_table 15) ≡ 0
  pub two_bytes_lem : refusal (third []) ≡ 1
  pub seven_bytes : refusal (third (1 ∷ 1 ∷ 0 ∷ 0 ∷ 1 ∷ [])) ≡ 1
  pub no_weight : refusal (third (empty 1 1)) ≡ 1
  pub one-weight : refusal (third (empty 1 1 ++ (1 ∷ []))) ≡ 0
  pub one_weight_short : refusal (fours 5 (4 ∷ 1 ∷ 1 ∷ [])) ≡ 1
  pub no_peers : refusal (third (empty 0 0)) ≡ 1
  pub seventeen_peers : refusal (third (empty 17 12 ++ replicate 17 1)) ≡ 1
  -- each is 1 to 4
  pub weight_of_0 : refusal (fours 5 (4 ∷ 1 ∷ 0 ∷ 1 ∷ [])) ≡ 1
  pub weight_of_5 : refusal (fours 6 (5 ∷ 1 ∷ 1 ∷ 1 ∷ [])) ≡ 1
  pub last_weight_of_5 : refusal (fours 6 (1 ∷ 1 ∷ 1 ∷ 5 ∷ [])) ≡ 1
  -- 2W < 3t ≤ 3W, where four peers weigh 7, and sixteen 64
  pub threshold_3 : refusal (fours 3 (4 ∷ 1 ∷ 1 ∷ 1 ∷ [])) ≡ 1
  pub threshold_4 : refusal (fours 4 (4 ∷ 1 ∷ 1 ∷ 1 ∷ [])) ≡ 1
  pub threshold_5 : refusal (fours 5 (4 ∷ 1 ∷ 1 ∷ 1 ∷ [])) ≡ 0
  pub threshold_7 : refusal (fours 7 (4 ∷ 1 ∷ 1 ∷ 1 ∷ [])) ≡ 0
  pub threshold_8 : refusal (fours 8 (4 ∷ 1 ∷ 1 ∷ 1 ∷ [])) ≡ 1
  pub threshold_42 : refusal (heaviest 42) ≡ 1
  pub threshold_43 : refusal (heaviest 43) ≡ 0
  pub threshold_64 : refusal (heaviest 64) ≡ 0
  pub threshold_65 : refusal (heaviest 65) ≡ 1
  -- the first offset is 8 + n + 4m, and the items are those of the second season
  pub offset_13 : refusal (one_item 13 (audit_from 5)) ≡ 0
  pub offset_12 : refusal (one_item 12 (audit_from 5)) ≡ 2
  pub one_byte_more : refusal (fours 5 (4 ∷ 1 ∷ 1 ∷ 1 ∷ 1 ∷ [])) ≡ 2
  pub bare_audit_lem : refusal (third (1 ∷ 1 ∷ 0 ∷ 0 ∷ 1 ∷ 1 ∷ 1 ∷ 0 ∷ 13 ∷ 0 ∷ 5 ∷ audit)) ≡ 3
  -- peers 1 and 2 weigh 5 and reach t; peers 2, 3 and 4 weigh 3 and do not
  pub two_reach : reaches (head_of (carry_table 15)) 3 ≡ true
  pub three_do_not : reaches (head_of (carry_table 15)) 14 ≡ false
  -- all weigh 7; with peers 1 and 2 honest, the honest ones weigh just t
  pub total : total_weight (carry_table 15) ≡ 7
  pub all-honest : honest_weight (head_of (carry_table 15)) ≡ 7
  pub four_heads : honest_count (head_of (carry_table 15)) ≡ 4
  pub two_taken : refusal (carry_table 3) ≡ 0
  pub two-honest : honest_weight (head_of (carry_table 3)) ≡ 5
  pub threshold : threshold_of (carry_table 3) ≡ 5
  -- three honest heads that weigh 3, and two that weigh 5
  pub lie_taken : refusal (clash_table 14) ≡ 0
  pub lie_heads : honest_count (head_of (clash_table 14)) ≡ 3
  pub lie_honest : honest_weight (head_of (clash_table 14)) ≡ 3
  pub hold_taken : refusal (clash_table 3) ≡ 0
  pub hold_heads : honest_count (head_of (clash_table 3)) ≡ 2
  pub hold_honest : honest_weight (head_of (clash_table 3)) ≡ 5
  pub hold_total : total_weight (clash_table 3) ≡ 7
  pub hold_threshold : threshold_of (clash_table 3) ≡ 5
  -- each weight 1, beside the table without them
  pub ones : SameButOnes ones_places two_places
