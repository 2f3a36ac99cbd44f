-- Each test is a part of `same_at`.
use mathlib.Core.Path.{sym, ◌∙◌}
use borrow.Author.Tests.{eqb-true, eqb-false, ne_eqb}
use Rattle.rules.specs.Bag.{same_entry}
use Rattle.base.proofs.Chain.{differ, agree}
use Rattle.base.proofs.Truth.{split}
use Rattle.field_state.specs.Holding.{hash_at}
use Rattle.field_state.specs.Hearing.{same_at}
use Rattle.field_state.proofs.Hashes.{read_same}
use Rattle.field_state.proofs.heard.is_at.Goals.{then-x-s, else-x-s}
use Rattle.field_state.proofs.heard.is_at.Goals as goal

pub returns-then-x-s-2 : goal.returns-then-x-s-2
unfolding same_at same_entry hash_at
returns-then-x-s-2 c = elim c.if-x-s.branch [
  | then-x-s w ↦ agree _ _ _ _ w.if-x-s.true (agree _ _ _ _ (eqb-true _ _ (sym w.value-is ∙ c.if-x-s-2.true)) (read_same _ c.load.ensures))
  | else-x-s w ↦ split c.if-x-s-2.true (w.value-is ∙ ne_eqb _ _ w.if-x-s.false)
]

pub returns-else-x-s-2 : goal.returns-else-x-s-2
unfolding same_at same_entry hash_at
returns-else-x-s-2 c = elim c.if-x-s.branch [
  | then-x-s w ↦ c.if-x-s-2.false ∙ agree _ _ _ _ w.if-x-s.true (differ _ _ _ (eqb-false _ _ (sym w.value-is ∙ c.if-x-s-2.false)))
  | else-x-s w ↦ c.if-x-s-2.false ∙ differ _ _ _ w.if-x-s.false
]
