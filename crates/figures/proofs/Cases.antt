-- Computed from the definitions.
use mathlib.Core.Path.{refl}
use Rattle.base.specs.Bits.{bit}
use Rattle.base.specs.Sums.{sum, how_many}
use Rattle.figures.specs.Totals.{receipt_count, items_on, totals_in}
use Rattle.figures.specs.Cases.{TotalsCases}

pub totals_cases : TotalsCases
unfolding bit sum how_many receipt_count items_on totals_in
totals_cases = record { figures = refl }
