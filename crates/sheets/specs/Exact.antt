-- What the reader answers, said apart from the row of its refusals: for every list of bytes and every item number.
use Rattle.std.specs.Prelude.{Ok, Err, ℕ, ◌+◌, ◌≤◌, ◌<◌, true, false, List, ◌≡◌, length}
use Rattle.pairs.specs.Pairs.{offset_of, size_of}
use Rattle.sheets.specs.Sheet.{pairs_at, count_on, text_on, sheet_ok}
use Rattle.sheets.specs.Found.{sheet_answer, part_at, found, handed_out}
use Rattle.base.specs.declared.refusal.Refusal.TheVariants.{Name, Sheet}

-- bytes that are no sheet
pub record NoSheet (s : List ℕ) : Type 0 where
  pub answer : sheet_answer s ≡ 16
  pub item : (k : ℕ) → found s k ≡ Err Sheet

-- a sheet: item k stands within it, and is handed out as the part that it is
pub record IsSheet (s : List ℕ) : Type 0 where
  pub answer : sheet_answer s ≡ 0
  pub item : (k : ℕ) → k < count_on s → found s k ≡ Ok (part_at s k)
  pub within : (k : ℕ) → k < count_on s → offset_of s pairs_at k + size_of s pairs_at k ≤ length s
  pub text : (k : ℕ) → k < count_on s → handed_out s k ≡ text_on s k
  pub past : (k : ℕ) → count_on s ≤ k → found s k ≡ Err Name

pub record ReaderExact : Type 0 where
  pub none : (s : List ℕ) → sheet_ok s ≡ false → NoSheet s
  pub sheet : (s : List ℕ) → sheet_ok s ≡ true → IsSheet s
