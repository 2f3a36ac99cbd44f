-- Worked rehearsals on bytes: what is printed of them. The numbers of the bytes are those of the letters.
use Rattle.std.specs.Prelude.{ℕ, List, [], ◌∷◌, ◌++◌, ◌≡◌}
use Rattle.edges.specs.Tables as tables
use Rattle.edges.specs.Cases.{bytes}
use Rattle.guarantee.specs.TotalsWorked.{joined, input_r}
use Rattle.shrinking.specs.Shrunk.{shrink_refusal, shrunk}

-- on the table of document 01's case R: a share after the close of the only period, 9
abbrev pub late_share : List ℕ
late_share =
    tables.case_r
    ++ joined (
    bytes 1 0 0 0 0 0  -- 1, post 0
    ∷ bytes 2 1 0 0 0 0  -- 2, hand 1 0
    ∷ bytes 17 1 0 0 0 0  -- 3, down 1
    ∷ bytes 18 1 0 0 0 0  -- 4, up 1
    ∷ bytes 3 1 0 0 0 0  -- 5, sign 1 0
    ∷ bytes 7 1 0 0 0 0  -- 6, close 1
    ∷ bytes 5 1 0 0 0 0  -- 7, share 1 0
    ∷ [])

-- `refused 18`, and the end of the line
abbrev pub says_clean : List ℕ
says_clean = 114 ∷ 101 ∷ 102 ∷ 117 ∷ 115 ∷ 101 ∷ 100 ∷ 32 ∷ 49 ∷ 56 ∷ 10 ∷ []

pub record ShrunkWorked : Type 0 where
  -- the first pass keeps the up, without which the answer is 8, and drops the down; the second drops the up; the close
  -- is left, `6`, and the share, `7`
  pub not-refused : shrink_refusal late_share ≡ 0
  pub late_share_lem : shrunk late_share ≡ 54 ∷ 10 ∷ 55 ∷ 10 ∷ []
  -- case R: its last step answers 0
  pub case_r_lem : shrunk input_r ≡ says_clean
  -- its table alone has no steps
  pub no_steps : shrunk tables.case_r ≡ says_clean
  -- no bytes are no table: `refused 1`
  pub no_table : shrunk [] ≡ 114 ∷ 101 ∷ 102 ∷ 117 ∷ 115 ∷ 101 ∷ 100 ∷ 32 ∷ 49 ∷ 10 ∷ []
