-- The threshold is judged by the least one for the weight: by `judged`.
use Rattle.header.proofs.Fields.{judged}
use Rattle.header.proofs.threshold_ok.Goals as goal

pub returns : goal.returns
returns c = search judged
