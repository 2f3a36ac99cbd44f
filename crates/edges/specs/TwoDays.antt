-- The slip posted on two days, as calls with the answers that they must get. Each is a case of the folder cases, named
-- in brackets.
use Rattle.std.specs.Prelude.{ℕ, List, [], ◌∷◌}
use Rattle.rules.specs.Table.{Table}
use Rattle.edges.specs.Cases.{table, bytes, Worked}

-- Four peers, threshold 3, peer 4 dishonest, three periods; a vote, and an audit of another ballot (slip-on-two-days).
-- Peers 1 and 2 share the vote on the first day, peer 3 on the second: it has one receipt, and is on both boards.
abbrev pub slip_table : List ℕ
slip_table = 4 ∷ 3 ∷ 0 ∷ 7 ∷ 3 ∷ 2 ∷ 0 ∷ 14 ∷ 0 ∷ 6 ∷ 0 ∷ 20 ∷ 0 ∷ 5 ∷ 0 ∷ 0 ∷ 0 ∷ 7 ∷ 1 ∷ 1 ∷ 0 ∷ 0 ∷ 0 ∷ 8 ∷ 2 ∷ []

abbrev pub slip_on_two_days : Worked
slip_on_two_days =
    (bytes 1 0 0 0 0 0, 0)  -- post 0
    ∷ (bytes 2 1 0 0 0 0, 0)  -- hand 1 0
    ∷ (bytes 2 2 0 0 0 0, 0)  -- hand 2 0
    ∷ (bytes 2 3 0 0 0 0, 0)  -- hand 3 0
    ∷ (bytes 3 1 0 0 0 0, 0)  -- sign 1 0
    ∷ (bytes 3 2 0 0 0 0, 0)  -- sign 2 0
    ∷ (bytes 3 3 0 0 0 0, 0)  -- sign 3 0
    ∷ (bytes 17 3 0 0 0 0, 0)  -- down 3
    ∷ (bytes 4 1 2 0 0 0, 0)  -- take 1 2 0 0
    ∷ (bytes 4 1 3 0 0 0, 0)  -- take 1 3 0 0
    ∷ (bytes 4 2 1 0 0 0, 0)  -- take 2 1 0 0
    ∷ (bytes 4 2 3 0 0 0, 0)  -- take 2 3 0 0
    ∷ (bytes 5 1 0 0 0 0, 0)  -- share 1 0
    ∷ (bytes 5 1 0 0 0 0, 0)  -- share 1 0
    ∷ (bytes 5 2 0 0 0 0, 0)  -- share 2 0
    ∷ (bytes 5 3 0 0 0 0, 8)  -- share 3 0
    ∷ (bytes 14 4 0 0 0 0, 0)  -- false share 4 0 0
    -- all close, peer 3 comes back and completes its database, and the board goes out
    ∷ (bytes 7 1 0 0 0 0, 0)  -- close 1
    ∷ (bytes 7 2 0 0 0 0, 0)  -- close 2
    ∷ (bytes 18 3 0 0 0 0, 0)  -- up 3
    ∷ (bytes 7 3 0 0 0 0, 0)  -- close 3
    ∷ (bytes 8 3 1 0 0 0, 0)  -- fetch 3 1 0
    ∷ (bytes 9 1 0 0 0 0, 0)  -- hash 1 0
    ∷ (bytes 9 2 0 0 0 0, 0)  -- hash 2 0
    ∷ (bytes 9 3 0 0 0 0, 0)  -- hash 3 0
    ∷ (bytes 10 1 0 0 0 0, 0)  -- hear 1 entry 0
    ∷ (bytes 10 1 0 0 1 0, 0)  -- hear 1 entry 1
    ∷ (bytes 10 1 0 0 2 0, 0)  -- hear 1 entry 2
    ∷ (bytes 11 1 0 0 0 0, 0)  -- back 1
    ∷ (bytes 10 2 0 0 0 0, 0)  -- hear 2 entry 0
    ∷ (bytes 10 2 0 0 1 0, 0)  -- hear 2 entry 1
    ∷ (bytes 10 2 0 0 2 0, 0)  -- hear 2 entry 2
    ∷ (bytes 11 2 0 0 0 0, 0)  -- back 2
    ∷ (bytes 10 3 0 0 0 0, 0)  -- hear 3 entry 0
    ∷ (bytes 10 3 0 0 1 0, 0)  -- hear 3 entry 1
    ∷ (bytes 10 3 0 0 2 0, 0)  -- hear 3 entry 2
    ∷ (bytes 11 3 0 0 0 0, 0)  -- back 3
    ∷ (bytes 12 0 0 0 3 0, 0)  -- publish entry 3
    -- the second day: the slip is posted again, held again and signed again
    ∷ (bytes 5 1 0 0 0 0, 17)  -- share 1 0
    ∷ (bytes 1 0 0 0 0 0, 0)  -- post 0
    ∷ (bytes 2 1 0 0 0 0, 0)  -- hand 1 0
    ∷ (bytes 2 2 0 0 0 0, 0)  -- hand 2 0
    ∷ (bytes 2 3 0 0 0 0, 0)  -- hand 3 0
    ∷ (bytes 3 1 0 0 0 0, 0)  -- sign 1 0
    ∷ (bytes 3 2 0 0 0 0, 0)  -- sign 2 0
    ∷ (bytes 3 3 0 0 0 0, 0)  -- sign 3 0
    ∷ (bytes 5 3 0 0 0 0, 12)  -- share 3 0
    ∷ (bytes 4 1 2 1 0 0, 0)  -- take 1 2 1 0
    ∷ (bytes 4 1 3 1 0 0, 0)  -- take 1 3 1 0
    ∷ (bytes 4 2 1 1 0 0, 0)  -- take 2 1 1 0
    ∷ (bytes 4 2 3 1 0 0, 0)  -- take 2 3 1 0
    ∷ (bytes 4 3 1 1 0 0, 0)  -- take 3 1 1 0
    ∷ (bytes 4 3 2 1 0 0, 0)  -- take 3 2 1 0
    ∷ (bytes 5 1 0 0 0 0, 17)  -- share 1 0
    ∷ (bytes 5 2 0 0 0 0, 17)  -- share 2 0
    ∷ (bytes 5 3 0 0 0 0, 0)  -- share 3 0
    ∷ (bytes 14 4 0 1 0 0, 0)  -- false share 4 1 0
    ∷ (bytes 6 0 0 1 0 0, 12)  -- receipt 1 0
    ∷ (bytes 6 0 0 0 0 0, 0)  -- receipt 0 0
    -- another slip, from the same peers
    ∷ (bytes 1 0 0 0 1 0, 0)  -- post 1
    ∷ (bytes 2 1 0 0 1 0, 0)  -- hand 1 1
    ∷ (bytes 2 2 0 0 1 0, 0)  -- hand 2 1
    ∷ (bytes 2 3 0 0 1 0, 0)  -- hand 3 1
    ∷ (bytes 3 1 0 0 1 0, 0)  -- sign 1 1
    ∷ (bytes 3 2 0 0 1 0, 0)  -- sign 2 1
    ∷ (bytes 3 3 0 0 1 0, 0)  -- sign 3 1
    ∷ (bytes 4 1 2 1 1 0, 0)  -- take 1 2 1 1
    ∷ (bytes 4 1 3 1 1 0, 0)  -- take 1 3 1 1
    ∷ (bytes 4 2 1 1 1 0, 0)  -- take 2 1 1 1
    ∷ (bytes 4 2 3 1 1 0, 0)  -- take 2 3 1 1
    ∷ (bytes 4 3 1 1 1 0, 0)  -- take 3 1 1 1
    ∷ (bytes 4 3 2 1 1 0, 0)  -- take 3 2 1 1
    ∷ (bytes 5 1 0 0 1 0, 0)  -- share 1 1
    ∷ (bytes 5 2 0 0 1 0, 0)  -- share 2 1
    ∷ (bytes 5 3 0 0 1 0, 0)  -- share 3 1
    ∷ (bytes 6 0 0 1 1 0, 0)  -- receipt 1 1
    -- the board of the second day
    ∷ (bytes 7 1 0 0 0 0, 0)  -- close 1
    ∷ (bytes 7 2 0 0 0 0, 0)  -- close 2
    ∷ (bytes 7 3 0 0 0 0, 0)  -- close 3
    ∷ (bytes 9 1 0 1 0 0, 0)  -- hash 1 1
    ∷ (bytes 9 2 0 1 0 0, 0)  -- hash 2 1
    ∷ (bytes 9 3 0 1 0 0, 0)  -- hash 3 1
    ∷ (bytes 10 1 0 0 7 0, 0)  -- hear 1 entry 7
    ∷ (bytes 10 1 0 0 8 0, 0)  -- hear 1 entry 8
    ∷ (bytes 10 1 0 0 9 0, 0)  -- hear 1 entry 9
    ∷ (bytes 11 1 0 0 0 0, 0)  -- back 1
    ∷ (bytes 10 2 0 0 7 0, 0)  -- hear 2 entry 7
    ∷ (bytes 10 2 0 0 8 0, 0)  -- hear 2 entry 8
    ∷ (bytes 10 2 0 0 9 0, 0)  -- hear 2 entry 9
    ∷ (bytes 11 2 0 0 0 0, 0)  -- back 2
    ∷ (bytes 10 3 0 0 7 0, 0)  -- hear 3 entry 7
    ∷ (bytes 10 3 0 0 8 0, 0)  -- hear 3 entry 8
    ∷ (bytes 10 3 0 0 9 0, 0)  -- hear 3 entry 9
    ∷ (bytes 11 3 0 0 0 0, 0)  -- back 3
    ∷ (bytes 12 0 0 0 10 0, 0)  -- publish entry 10
    -- the third day: every earlier period counts, not the last one alone
    ∷ (bytes 5 1 0 0 0 0, 17)  -- share 1 0
    ∷ (bytes 5 3 0 0 0 0, 17)  -- share 3 0
    ∷ (bytes 5 1 0 0 1 0, 17)  -- share 1 1
    ∷ (bytes 6 0 0 2 0 0, 12)  -- receipt 2 0
    ∷ (bytes 7 1 0 0 0 0, 0)  -- close 1
    ∷ (bytes 5 1 0 0 0 0, 9)  -- share 1 0
    ∷ []

-- Two dishonest peers of four, with threshold 3: too few honest ones for demand 3 (slip-two-liars).
abbrev pub table_slip_liars : Table
table_slip_liars = table 4 3 2 2 1

abbrev pub slip_two_liars : Worked
slip_two_liars =
    (bytes 1 0 0 0 0 0, 0)  -- post 0
    -- the first day, with peers 1, 3 and 4
    ∷ (bytes 2 1 0 0 0 0, 0)  -- hand 1 0
    ∷ (bytes 3 1 0 0 0 0, 0)  -- sign 1 0
    ∷ (bytes 13 3 0 0 0 0, 0)  -- false signature 3 0 0
    ∷ (bytes 13 4 0 0 0 0, 0)  -- false signature 4 0 0
    ∷ (bytes 4 1 3 0 0 0, 0)  -- take 1 3 0 0
    ∷ (bytes 4 1 4 0 0 0, 0)  -- take 1 4 0 0
    ∷ (bytes 5 1 0 0 0 0, 0)  -- share 1 0
    ∷ (bytes 14 3 0 0 0 0, 0)  -- false share 3 0 0
    ∷ (bytes 14 4 0 0 0 0, 0)  -- false share 4 0 0
    ∷ (bytes 6 0 0 0 0 0, 0)  -- receipt 0 0
    -- the second, with peers 2, 3 and 4
    ∷ (bytes 7 1 0 0 0 0, 0)  -- close 1
    ∷ (bytes 7 2 0 0 0 0, 0)  -- close 2
    ∷ (bytes 2 2 0 0 0 0, 0)  -- hand 2 0
    ∷ (bytes 3 2 0 0 0 0, 0)  -- sign 2 0
    ∷ (bytes 13 3 0 1 0 0, 0)  -- false signature 3 1 0
    ∷ (bytes 13 4 0 1 0 0, 0)  -- false signature 4 1 0
    ∷ (bytes 4 2 3 1 0 0, 0)  -- take 2 3 1 0
    ∷ (bytes 4 2 4 1 0 0, 0)  -- take 2 4 1 0
    ∷ (bytes 5 1 0 0 0 0, 17)  -- share 1 0
    ∷ (bytes 5 2 0 0 0 0, 0)  -- share 2 0
    ∷ (bytes 14 3 0 1 0 0, 0)  -- false share 3 1 0
    ∷ (bytes 14 4 0 1 0 0, 0)  -- false share 4 1 0
    ∷ (bytes 6 0 0 1 0 0, 0)  -- receipt 1 0
    ∷ []
