-- What the reader of a sheet answers: 16 for bytes that are none, then 6 for an item number of the count or above.
use Rattle.std.specs.Prelude.{Result, Ok, Err, ℕ, not, cond, List, [], ◌∷◌, ◌++◌, eqb, leb}
use Rattle.base.specs.Refusals.{Refusals, name, sheet, number_of, numbered, first, judged}
use Rattle.base.specs.declared.refusal.Refusal.{Refusal}
use Rattle.pairs.specs.Pairs.{offset_of, size_of}
use Rattle.sheets.specs.Sheet.{pairs_at, count_on, text_on, sheet_ok}
use Rattle.sheets.specs.declared.Part.{Part}

-- the refusals of the whole sheet, and of item k, in the order in which they are judged

abbrev pub sheet_refusals : List ℕ → Refusals
sheet_refusals s = (sheet, not (sheet_ok s)) ∷ []

abbrev pub item_refusals : List ℕ → ℕ → Refusals
item_refusals s k = sheet_refusals s ++ ((name, leb (count_on s) k) ∷ [])

-- the first that applies, and 0 where none does

unfoldable pub sheet_answer : List ℕ → ℕ
sheet_answer s = first (numbered (sheet_refusals s))

unfoldable pub item_answer : List ℕ → ℕ → ℕ
item_answer s k = first (numbered (item_refusals s k))

-- where the text of item k stands in the sheet: offset and length
abbrev pub part_at : List ℕ → ℕ → Part
part_at s k = record { offset = offset_of s pairs_at k; length = size_of s pairs_at k }

-- a part, where nothing is refused
abbrev pub part_unless : Result (Unit {0}) Refusal → Part → Result Part Refusal
part_unless (Ok u) p = Ok p
part_unless (Err r) p = Err r

-- what is found of item k: where its text stands in the sheet, or the refusal
unfoldable pub found : List ℕ → ℕ → Result Part Refusal
found s k = part_unless (judged (item_refusals s k)) (part_at s k)

-- the number on the report of what is found
abbrev pub found_number : Result Part Refusal → ℕ
found_number (Ok p) = 0
found_number (Err r) = number_of r

-- the offset and the length that are found; a refusal leaves those that were there

abbrev pub found_offset : ℕ → Result Part Refusal → ℕ
found_offset old (Ok p) = p.offset
found_offset old (Err r) = old

abbrev pub found_length : ℕ → Result Part Refusal → ℕ
found_length old (Ok p) = p.length
found_length old (Err r) = old

-- the text of item k, as the part of the sheet that it is; none where the reader refuses
unfoldable pub handed_out : List ℕ → ℕ → List ℕ
handed_out s k = cond (eqb (item_answer s k) 0) (text_on s k) []
