-- The step is no 16, or not found, or struck where it is found.
use borrow.Author.Rules.{rules}
use Rattle.gains.proofs.Chains.{hash_is}
use Rattle.gains.proofs.Blocks.{fresh-other, fresh-not-found, found-place, fresh_struck}
use Rattle.gains.proofs.different.strike.Goals as goal

pub returns-then-byte_at-ne16 : goal.returns-then-byte_at-ne16
returns-then-byte_at-ne16 c = search fresh-other

pub find-requires : goal.find-requires
find-requires c = (search rules, search rules, search hash_is, search rules)

pub bounds-fresh-i : goal.bounds-fresh-i
bounds-fresh-i c = found-place _ _ _ _ _ c.requires.2 c.in-Some.ensures

pub returns-in-Some : goal.returns-in-Some
returns-in-Some c = fresh_struck _ _ _ _ _ c.requires.2 c.in-Some.ensures

pub returns-in_default : goal.returns-in_default
returns-in_default c = fresh-not-found _ _ _ _ _ c.requires.2 c.in_default.ensures
