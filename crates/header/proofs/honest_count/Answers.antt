-- The peers are counted one after the other: among the first k are `count` honest ones.
use mathlib.Core.Path.{sym, ◌∙◌}
use native.Mathlib.Omega.{arith}
use Rattle.base.proofs.Weight.{count_none, count_in_lem, count-out}
use Rattle.header.specs.Header.{is_honest}
use Rattle.header.proofs.honest_count.Goals.{then-is_honest, else-is_honest}
use Rattle.header.proofs.honest_count.Goals as goal

pub loop-k-init : goal.loop-k-init
loop-k-init c = (omega arith, count_none _)

pub loop-k-preserved : goal.loop-k-preserved
loop-k-preserved c =
    let l = c.loop-k in
    let honest = is_honest c.args.h in
    elim c.if-is_honest.branch [
      | then-is_honest w ↦
          let one_more = count_in_lem honest l.k (sym c.is_honest.ensures ∙ w.if-is_honest.true) in
          omega arith
      | else-is_honest w ↦
          let no_more = count-out honest l.k (sym c.is_honest.ensures ∙ w.if-is_honest.false) in
          omega arith
    ]
