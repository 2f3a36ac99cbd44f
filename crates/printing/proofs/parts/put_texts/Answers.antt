-- The texts of the items passed are written.
use Rattle.printing.proofs.Measuring.{texts_none, texts_next}
use Rattle.printing.proofs.parts.put_texts.Goals as goal

pub loop-x-init : goal.loop-x-init
loop-x-init c = texts_none _ _

pub loop-x-preserved : goal.loop-x-preserved
loop-x-preserved c = search texts_next depth 6
