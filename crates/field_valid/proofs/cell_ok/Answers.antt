use Rattle.field_valid.proofs.Asked.{row_fits}
use Rattle.field_valid.proofs.cell_ok.Goals as goal

pub is_below-requires : goal.is_below-requires
is_below-requires c = search row_fits
