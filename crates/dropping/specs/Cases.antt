-- Worked rehearsals by the rules: which steps are left.
use Rattle.std.specs.Prelude.{ℕ, zero, suc, ◌&&◌, ◌||◌, not, cond, List, [], ◌∷◌, ◌++◌, ◌≡◌, eqb, leb, get_or}
use Rattle.base.specs.Weight.{ones}
use Rattle.rules.specs.Table.{Table}
use Rattle.rules.specs.Run.{by_rules}
use Rattle.dropping.specs.Kept.{Kept, every_step}
use Rattle.dropping.specs.Passes.{pass, left}
use Rattle.dropping.specs.Runs.{last_answer}

-- one honest peer, one period, and three items, of which item 1 clashes with the two others
abbrev pub table : Table
table = record {
  n = 1;
  t = 1;
  honest = λ k. leb k 1;
  weight_of = ones;
  periods = 1;
  items = 3;
  clash = λ x y. not (eqb x y) && (eqb x 1 || eqb y 1);
}

-- the thirteen bytes of a call that names a peer and an item at most
abbrev pub bytes : ℕ → ℕ → ℕ → List ℕ
bytes op j x = op ∷ j ∷ 0 ∷ 0 ∷ x ∷ 0 ∷ 0 ∷ 0 ∷ 0 ∷ 0 ∷ 0 ∷ 0 ∷ 0 ∷ []

-- the last answer of calls by the rules
abbrev pub by_calls : List (List ℕ) → ℕ → Kept → ℕ
by_calls calls last = last_answer (by_rules table) (λ k. get_or calls k []) last

-- the numbers, from 1, of the kept ones among the first k steps
abbrev pub numbers : Kept → ℕ → List ℕ
numbers keep zero = []
numbers keep (suc k) = numbers keep k ++ cond (keep k) (suc k ∷ []) []

-- a hand that is refused as a clash, 11, with either of two items; before it a peer that goes down and comes up again
abbrev pub clashing : Kept → ℕ
clashing = by_calls (
    bytes 1 0 0  -- 1, post 0
    ∷ bytes 1 0 1  -- 2, post 1
    ∷ bytes 1 0 2  -- 3, post 2
    ∷ bytes 2 1 0  -- 4, hand 1 0
    ∷ bytes 2 1 2  -- 5, hand 1 2
    ∷ bytes 17 1 0  -- 6, down 1
    ∷ bytes 18 1 0  -- 7, up 1
    ∷ bytes 3 1 0  -- 8, sign 1 0
    ∷ bytes 2 1 1  -- 9, hand 1 1
    ∷ []) 8

-- one step, which is not of the form
abbrev pub single : Kept → ℕ
single = by_calls ((1 ∷ []) ∷ []) 0

-- a hand to a peer that is down, 8; to one that is up it would be refused as unknown, 10
abbrev pub other : Kept → ℕ
other = by_calls (
    bytes 1 0 0  -- 1, post 0
    ∷ bytes 17 1 0  -- 2, down 1
    ∷ bytes 2 1 1  -- 3, hand 1 1
    ∷ []) 2

pub record WorkedPasses : Type 0 where
  -- 11; the first pass keeps the up, without which the peer is down, 8, and then drops the down; of the two hands that
  -- clash it drops the later one
  pub refused : clashing every_step ≡ 11
  pub first_pass : numbers (pass clashing 8 every_step) 9 ≡ 1 ∷ 2 ∷ 4 ∷ 7 ∷ 9 ∷ []
  -- the second pass drops the up, and the third none
  pub few_left : numbers (left clashing 8) 9 ≡ 1 ∷ 2 ∷ 4 ∷ 9 ∷ []
  -- the last step alone
  pub alone : numbers (left single 0) 1 ≡ 1 ∷ []
  -- 8 is another number than 10: the down is kept
  pub same_number_lem : numbers (left other 2) 3 ≡ 2 ∷ 3 ∷ []
