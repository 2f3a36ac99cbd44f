-- The two bytes that are read tell a hash of the period.
use native.Mathlib.Omega.{arith}
use Rattle.bag.proofs.Search.{entry_few}
use Rattle.clearing.proofs.Listing.{period_inside, kind_inside, other_period, its_period}
use Rattle.clearing.proofs.stays.Goals as goal

pub overflow_mul-o : goal.overflow_mul-o
overflow_mul-o c = let a = c.requires in record { fits = omega (arith, entry_few _ _ a.0 a.1) }

pub overflow_add-o : goal.overflow_add-o
overflow_add-o c = let a = c.requires in record { fits = omega (arith, entry_few _ _ a.0 a.1) }

pub overflow_add-o-2 : goal.overflow_add-o-2
overflow_add-o-2 c = let a = c.requires in record { fits = omega (arith, entry_few _ _ a.0 a.1) }

pub bounds-s-o : goal.bounds-s-o
bounds-s-o c = search period_inside

pub bounds-s-o-else-s-o : goal.bounds-s-o-else-s-o
bounds-s-o-else-s-o c = search kind_inside

pub returns-then-s-o : goal.returns-then-s-o
returns-then-s-o c = other_period _ _ _ c.requires.0 c.requires.1 c.if-s-o.true

pub returns-else-s-o : goal.returns-else-s-o
returns-else-s-o c = its_period _ _ _ c.requires.0 c.requires.1 c.if-s-o.false
