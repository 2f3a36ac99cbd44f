-- The input of a rehearsal: a table, which ends at its last pair's end, and then steps of 13 bytes.
use Rattle.std.specs.Prelude.{ℕ, ◌+◌, ◌-◌, ◌*◌, ◌/◌, Bool, not, ◌&&◌, List, ◌∷◌, leb, ltb, length}
use Rattle.base.specs.Bytes.{part}
use Rattle.base.specs.Refusals.{Refusals, header, pairs, numbered, first}
use Rattle.base.specs.Refusals as word
use Rattle.header.specs.Header.{header_size, items_of, header_ok}
use Rattle.pairs.specs.Pairs.{pairs_fit, last_end}
use Rattle.ballot.specs.Table.{table_refusals}

-- the most bytes that are judged
abbrev pub input_most : ℕ
input_most = 65536

-- the bytes of a step
abbrev pub step_size : ℕ
step_size = 13

-- where the table ends
abbrev pub table_end : List ℕ → ℕ
table_end input = last_end input (header_size input) (items_of input)

-- the table
unfoldable pub table_in : List ℕ → List ℕ
table_in input = part input 0 (table_end input)

-- the pairs fit, and the input reaches to the last one's end
unfoldable pub table_there : List ℕ → Bool
table_there input = pairs_fit input (header_size input) (items_of input) && leb (table_end input) (length input)

-- input comes before all; header and pairs, which say where the table ends, are judged on the input; then the table's
-- own
abbrev pub input_refusals : List ℕ → Refusals
input_refusals input =
    (word.input, ltb input_most (length input))
    ∷ (header, not (header_ok input))
    ∷ (pairs, not (table_there input))
    ∷ table_refusals (table_in input)

-- the first of them that applies, and 0 where none does
unfoldable pub input_refusal : List ℕ → ℕ
input_refusal input = first (numbered (input_refusals input))

-- how many steps there are: a short tail is one
unfoldable pub step_count : List ℕ → ℕ
step_count input = (length input - table_end input + (step_size - 1)) / step_size

-- the bytes of step k, counted from 0
unfoldable pub call_at : List ℕ → ℕ → List ℕ
call_at input k = part input (table_end input + step_size * k) step_size
