-- Runs up to and through the close of period 0, with calls of period 1 between. No database alone has t signers.
use Rattle.std.specs.Prelude.{ℕ, ◌+◌, ◌-◌, ◌*◌, cond, not, List, [], ◌∷◌, ◌++◌, eqb, leb, ltb, get_or}
use Rattle.rules.specs.declared.Step.TheVariants.{Post, Hand, Sign, Take, Receipt, Close, Fetch, SendHash, Hear, Back, Publish}
use Rattle.form.specs.Written.{written}
use Rattle.edges.specs.Tables.{votes_over}
use Rattle.edges.specs.Weighted.{carry_table}
use Rattle.liveness.specs.InTurn.{everyone}
use Rattle.liveness.specs.Schedule.{for_peers, for_others, fetch_and_hash}
use Rattle.closes.specs.Plan.{Plan}

-- a number for each peer, and for each pair of peers a row for each of the first
abbrev pub at : List ℕ → ℕ → ℕ
at row k = get_or row (k - 1) 0

abbrev pub among : List (List ℕ) → ℕ → ℕ → ℕ
among rows j k = at (get_or rows (j - 1) []) k

-- thirteen bytes that are no step: a post that names peers
abbrev pub no_step : List ℕ
no_step = 1 ∷ 2 ∷ 3 ∷ 0 ∷ 0 ∷ 0 ∷ 0 ∷ 0 ∷ 0 ∷ 0 ∷ 0 ∷ 0 ∷ 0 ∷ []

-- Two peers, both of which are needed; each has its own signature only.
abbrev pub table2 : List ℕ
table2 = votes_over 2 2 2 2

abbrev pub earlier2 : List (List ℕ)
earlier2 =
    written (Post 0)
    ∷ written (Hand 1 0)
    ∷ written (Hand 2 0)
    ∷ written (Sign 1 0)
    ∷ written (Sign 2 0)
    ∷ written (Close 1)
    ∷ written (Close 2)
    ∷ []

-- peer 1 is done with its fetch before peer 2 begins, and backs before peer 2 hears
abbrev pub later2 : List (List ℕ)
later2 =
    written (Fetch 1 2 0)
    ∷ written (Hand 1 0)  -- in period 1, as the next sign, hand and take
    ∷ written (SendHash 1 0)  -- entry 0
    ∷ written (Sign 1 0)
    ∷ written (Fetch 2 1 0)
    ∷ written (Hand 2 0)
    ∷ written (Take 2 1 1 0)
    ∷ written (SendHash 2 0)  -- entry 1
    ∷ written (Hear 1 0)
    ∷ written (Hear 1 1)
    ∷ written (Back 1)  -- entry 2
    ∷ written (Hear 2 0)
    ∷ no_step
    ∷ written (Hear 2 1)
    ∷ written (Back 2)  -- entry 3
    ∷ []

abbrev pub plan2 : Plan
plan2 = record {
  listens = everyone;
  fetch_at = among ((0 ∷ 0 ∷ []) ∷ (4 ∷ 0 ∷ []) ∷ []);
  hash_at = at (2 ∷ 7 ∷ []);
  hear_at = among ((8 ∷ 9 ∷ []) ∷ (11 ∷ 13 ∷ []) ∷ []);
  entry = λ j k. at (0 ∷ 1 ∷ []) k;
  back_at = at (10 ∷ 14 ∷ []);
  board = λ k. 1;
}

-- the exchange in document 02's order, as `schedule` has it
abbrev pub in_turn2 : List (List ℕ)
in_turn2 =
    written (Fetch 1 2 0)
    ∷ written (Fetch 2 1 0)
    ∷ written (SendHash 1 0)  -- entry 0
    ∷ written (SendHash 2 0)  -- entry 1
    ∷ written (Hear 1 0)
    ∷ written (Hear 1 1)
    ∷ written (Hear 2 0)
    ∷ written (Hear 2 1)
    ∷ written (Back 1)  -- entry 2
    ∷ written (Back 2)  -- entry 3
    ∷ []

-- Four peers, three of which are needed: item 0 has three signers in four databases, item 1 has one.
abbrev pub table4 : List ℕ
table4 = votes_over 2 4 3 4

abbrev pub earlier4 : List (List ℕ)
earlier4 =
    written (Post 0)
    ∷ written (Post 1)
    ∷ written (Hand 1 0)
    ∷ written (Hand 2 0)
    ∷ written (Hand 3 0)
    ∷ written (Hand 4 1)
    ∷ written (Sign 1 0)
    ∷ written (Sign 2 0)
    ∷ written (Sign 3 0)
    ∷ written (Sign 4 1)
    ∷ written (Close 1)
    ∷ written (Close 2)
    ∷ written (Close 3)
    ∷ written (Close 4)
    ∷ []

-- peer after peer, with calls of period 1, refused ones and an older hash between (comes-through)
abbrev pub later4 : List (List ℕ)
later4 =
    written (SendHash 4 0)  -- an older hash, of the board of no items: entry 0
    ∷ written (Fetch 1 2 0)
    ∷ written (Fetch 1 3 0)
    ∷ written (Hand 1 0)  -- in period 1
    ∷ written (Fetch 1 4 0)
    ∷ written (SendHash 1 0)  -- entry 1
    ∷ written (Fetch 2 1 0)
    ∷ written (Sign 1 0)  -- in period 1
    ∷ written (Fetch 2 3 0)
    ∷ written (Back 2)  -- 12: it has heard nothing
    ∷ written (Fetch 2 4 0)
    ∷ written (SendHash 2 0)  -- entry 2
    ∷ written (Fetch 3 1 0)
    ∷ written (Fetch 3 2 0)
    ∷ written (Take 2 1 1 0)  -- in period 1
    ∷ written (Fetch 3 4 0)
    ∷ written (Close 3)  -- period 1
    ∷ written (SendHash 3 0)  -- entry 3
    ∷ written (Fetch 4 1 0)
    ∷ written (Fetch 4 2 0)
    ∷ written (Take 4 2 0 0)  -- what the fetch has brought
    ∷ written (Fetch 4 3 0)
    ∷ written (SendHash 4 0)  -- entry 4
    ∷ written (Hear 1 0)  -- the older hash
    ∷ written (Hear 1 1)
    ∷ written (Hear 1 2)
    ∷ written (Hear 1 3)
    ∷ written (Hear 1 4)
    ∷ written (Back 1)  -- entry 5
    ∷ written (SendHash 3 1)  -- of period 1: entry 6
    ∷ written (Hear 2 1)
    ∷ written (Hear 2 2)
    ∷ written (Hear 2 3)
    ∷ written (Hear 2 4)
    ∷ written (Publish 5)  -- 12: one backing
    ∷ written (Back 2)  -- entry 7
    ∷ written (Hear 3 1)
    ∷ written (Hear 3 2)
    ∷ no_step
    ∷ written (Hear 3 3)
    ∷ written (Hear 3 4)
    ∷ written (Back 3)  -- entry 8
    ∷ written (Hear 4 1)
    ∷ written (Hear 4 2)
    ∷ written (Hear 4 3)
    ∷ written (Receipt 1 0)  -- 12
    ∷ written (Hear 4 4)
    ∷ written (Back 4)  -- entry 9
    ∷ []

abbrev pub plan4 : Plan
plan4 = record {
  listens = everyone;
  fetch_at = among
      ((0 ∷ 1 ∷ 2 ∷ 4 ∷ []) ∷ (6 ∷ 0 ∷ 8 ∷ 10 ∷ []) ∷ (12 ∷ 13 ∷ 0 ∷ 15 ∷ []) ∷ (18 ∷ 19 ∷ 21 ∷ 0 ∷ []) ∷ []);
  hash_at = at (5 ∷ 11 ∷ 17 ∷ 22 ∷ []);
  hear_at = among
      ((24 ∷ 25 ∷ 26 ∷ 27 ∷ []) ∷ (30 ∷ 31 ∷ 32 ∷ 33 ∷ []) ∷ (36 ∷ 37 ∷ 39 ∷ 40 ∷ []) ∷ (42 ∷ 43 ∷ 44 ∷ 46 ∷ []) ∷ []);
  entry = λ j k. at (1 ∷ 2 ∷ 3 ∷ 4 ∷ []) k;
  back_at = at (28 ∷ 35 ∷ 41 ∷ 47 ∷ []);
  board = λ k. 1;
}

-- The same four in document 02's order, but that each hears the three others and not itself: they are a quorum.
abbrev pub by_others4 : List (List ℕ)
by_others4 = fetch_and_hash 4 0 ++ (for_others 4 (λ j k. Hear j (k - 1)) ++ for_peers 4 Back)

-- the fetch by j from k is this one of its twelve, and so the hear
abbrev pub among12 : ℕ → ℕ → ℕ
among12 j k = (j - 1) * 3 + cond (ltb k j) (k - 1) (k - 2)

abbrev pub plan_by_others4 : Plan
plan_by_others4 = record {
  listens = λ j k. not (eqb j k);
  fetch_at = among12;
  hash_at = λ j. 12 + (j - 1);
  hear_at = λ j k. 16 + among12 j k;
  entry = λ j k. k - 1;
  back_at = λ j. 28 + (j - 1);
  board = λ k. 1;
}

-- Four peers of weights 4, 1, 1 and 1, of which a weight of 5 is needed, and their second period, after the close of
-- the first, whose board is empty. Item 0 has the signatures of peers 1 and 2, item 1 those of peers 2, 3 and 4.
abbrev pub table_w : List ℕ
table_w = carry_table 15

abbrev pub earlier_w : List (List ℕ)
earlier_w =
    written (Post 0)
    ∷ written (Post 1)
    ∷ (for_peers 4 Close
    ++ (for_peers 4 (λ j. SendHash j 0)  -- entries 0 to 3
    ++ (for_peers 4 (λ j. Hear j 0)
    ++ (for_peers 4 (λ j. Hear j 1)
    ++ (for_peers 4 Back  -- entries 4 to 7
    ++ (written (Hand 1 0)
    ∷ written (Hand 2 0)
    ∷ written (Hand 2 1)
    ∷ written (Hand 3 1)
    ∷ written (Hand 4 1)
    ∷ written (Sign 1 0)
    ∷ written (Sign 2 0)
    ∷ written (Sign 2 1)
    ∷ written (Sign 3 1)
    ∷ written (Sign 4 1)
    ∷ for_peers 4 Close))))))

-- each hears the hashes of peers 1 and 2 alone, which weigh 5 (weights-close)
abbrev pub later_w : List (List ℕ)
later_w =
    fetch_and_hash 4 1  -- the hashes are entries 8 to 11
    ++ (for_peers 4 (λ j. Hear j 8)
    ++ (for_peers 4 (λ j. Hear j 9)
    ++ for_peers 4 Back))  -- entries 12 to 15

abbrev pub plan_w : Plan
plan_w = record {
  listens = λ j k. leb k 2;
  fetch_at = among12;
  hash_at = λ j. 12 + (j - 1);
  hear_at = λ j k. 16 + 4 * (k - 1) + (j - 1);
  entry = λ j k. 8 + (k - 1);
  back_at = λ j. 24 + (j - 1);
  board = λ k. 1;
}

-- peer 2 hears the hashes of peers 2, 3 and 4, which weigh 3 (weights-close)
abbrev pub light_w : List (List ℕ)
light_w = fetch_and_hash 4 1 ++ (written (Hear 2 9) ∷ written (Hear 2 10) ∷ written (Hear 2 11) ∷ [])
