-- The rules refuse as document 01's table does: for each op the two rows of tests compute to the same.
use mathlib.Core.Path.{◌≡◌, refl}
use Rattle.base.specs.Refusals.{numbered, first}
use Rattle.rules.specs.declared.Step.{Step}
use Rattle.rules.specs.declared.Step.TheVariants.{Post, Hand, Sign, Take, Share, Receipt, Close, Fetch, SendHash, Hear, Back, Publish, FalseSignature, FalseShare, FalseHash, FalseBacking, Down, Up, ClearHashes}
use Rattle.rules.specs.Table.{Table}
use Rattle.rules.specs.State.{State}
use Rattle.rules.specs.Rules.{rule, answer}
use Rattle.rules.specs.Fields.{fields}
use Rattle.rules.specs.ByRow.{by_row, RowEdges}

pub by_row_lem : (T : Table) (s : State) (st : Step) → answer T s st ≡ first (numbered (by_row T s (fields st)))
unfolding first rule answer by_row
by_row_lem T s (Post x) = refl
by_row_lem T s (Hand j x) = refl
by_row_lem T s (Sign j x) = refl
by_row_lem T s (Take j k p x) = refl
by_row_lem T s (Share j x) = refl
by_row_lem T s (Receipt p x) = refl
by_row_lem T s (Close j) = refl
by_row_lem T s (Fetch j k p) = refl
by_row_lem T s (SendHash j p) = refl
by_row_lem T s (Hear j e) = refl
by_row_lem T s (Back j) = refl
by_row_lem T s (Publish e) = refl
by_row_lem T s (FalseSignature j p x) = refl
by_row_lem T s (FalseShare j p x) = refl
by_row_lem T s (FalseHash j p B) = refl
by_row_lem T s (FalseBacking j p B) = refl
by_row_lem T s (Down j) = refl
by_row_lem T s (Up j) = refl
by_row_lem T s (ClearHashes p) = refl

pub row_edges : RowEdges
row_edges = record { by_row_lem = by_row_lem }
